-- Where the reading of types and classes fails, what was read so far can be completed.
use Rattle.std.proofs.Common.{◌≡◌, ℕ, ◌≤◌, true, List, Option, Some, Ok, refl}
use Rattle.svr_token.specs.declared.Lexeme.{Lexeme}
use Rattle.svr_token.specs.declared.Lexeme.TheVariants as lexeme
use Rattle.svr_token.specs.declared.Word.TheVariants as w
use Rattle.svr_tree.specs.Tokens.{Tok}
use Rattle.svr_reader.specs.Outcomes.{Turn, go, done, Parser}
use Rattle.svr_reader.specs.Program.{run}
use Rattle.svr_reader.specs.Lists.{WithHeight}
use Rattle.svr_reader.proofs.Local.{IsLocal}
use Rattle.svr_reader.proofs.Live.{AnyToken}
use Rattle.svr_reader.proofs.Goals.{Goal, then_form, pure_goal}
use Rattle.svr_reader.proofs.Led.{AnyAnswer}
use Rattle.svr_reader.proofs.LivePeeks.{Peeks, reads, stops, Turned, peek_loop_goal}
use Rattle.svr_reader.proofs.Layers.{IsViable, Low, form_of}
use Rattle.svr_parse.specs.ScriptRules.{Part, a_typedef, a_class, Ans, Tops, no_tops, with_type, with_class, top_by, tops}
use Rattle.svr_parse.proofs.CompleteTops.{starts_unit, NotColon, unit_no_colon}

abbrev pub StartsUnit : Option Lexeme → Type 0
StartsUnit q = starts_unit q ≡ true

module _ (most r : ℕ) (sub : (k : Part) → Parser (Ans k)) (ls : (k : Part) → IsLocal (sub k)) (some : 1 ≤ most) (types : IsViable most AnyToken (Low r) (sub a_typedef)) (classes : IsViable most NotColon (Low r) (sub a_class)) where
  abbrev TopTurned : Turn (WithHeight Tops) (WithHeight Tops) → Type 0
  TopTurned = Turned most r sub ls StartsUnit AnyAnswer AnyAnswer top_by (λ s. s) (λ s _. tt)

  top_peeks : (s : WithHeight Tops) → (q : Option Lexeme) → Peeks most r sub ls StartsUnit TopTurned (done s) (top_by s q)
  top_peeks s (Some (lexeme.Word w.TypeDef)) = reads (then_form most r sub ls (form_of most r sub ls {k = a_typedef} types) (λ x g. pure_goal most r sub ls {Q = TopTurned} {x = go (with_type s x)} (tt, λ _ h. h) (λ _ _. tt)))
  top_peeks s (Some (lexeme.Word w.Class)) = reads (then_form most r sub ls (form_of most r sub ls {k = a_class} classes) (λ x g. pure_goal most r sub ls {Q = TopTurned} {x = go (with_class s x)} (tt, λ _ h. h) (λ q h. unit_no_colon q h)))
  top_peeks s _ = stops (λ i. refl)

  top_ends : (s : WithHeight Tops) (q : Option Lexeme) (i : List Tok) → StartsUnit q → run most r sub (top_by s q) i ≡ Ok (done s, i)
  top_ends s (Some (lexeme.Word w.Module)) i h = refl
  top_ends s (Some (lexeme.Word w.Program)) i h = refl
  top_ends s _ i h = absurd (cc)

  pub tops_goal : Goal most r sub ls StartsUnit StartsUnit AnyAnswer tops
  unfolding tops
  tops_goal = peek_loop_goal most r sub ls StartsUnit AnyAnswer AnyAnswer top_by (λ s. s) (λ s _. tt) (λ s _ q. top_peeks s q) (λ s q i h. top_ends s q i h) some no_tops tt
