-- Scripts are read from the left; each turn of a loop over one takes a token.
use Rattle.std.proofs.Common.{◌≡◌, ℕ, ◌<◌, Bool, true, false, List, [], length, Option, Some, Ok, ap}
use Rattle.svr_token.specs.declared.Lexeme.{Lexeme}
use Rattle.svr_token.specs.declared.Lexeme.TheVariants as lexeme
use Rattle.svr_token.specs.declared.Word.TheVariants as w
use Rattle.svr_token.specs.declared.NameKind.{NameKind}
use Rattle.svr_tree.specs.Tokens.{Tok}
use Rattle.svr_tree.specs.DeclTree.{VarTree}
use Rattle.svr_reader.specs.Outcomes.{Turn, go, done, Outcome, Parser, lexeme_at}
use Rattle.svr_reader.specs.Lists.{WithHeight}
use Rattle.svr_reader.proofs.Local.{IsLocal}
use Rattle.svr_item.proofs.FirstSteps.{TakesOne, takes}
use Rattle.svr_decl.specs.DeclRules.{starts_type}
use Rattle.svr_decl.proofs.Local.{local_typedef, local_class, local_var, local_var_on, typedef_takes, class_takes, var_takes}
use Rattle.svr_stmt.proofs.Local.{local_stmt, local_stmt_on}
use Rattle.svr_parse.specs.ScriptRules.{Part, a_typedef, a_class, a_var, a_stmt, var_of, stmt_of, Rule, Tops, top_by, top_step, Inner, choose_var, inner_by, inner_step, part, within}

pub local_part : (most r : ℕ) (k : Part) → IsLocal (part most r k)
local_part most r a_typedef = local_typedef most r
local_part most r a_class = local_class most r
local_part most r a_var = local_var most r
local_part most r (var_of n) = local_var_on most r n
local_part most r a_stmt = local_stmt most r
local_part most r (stmt_of n) = local_stmt_on most r n

abbrev pub Leaves : {S A : Type 0} → Turn S A → List Tok → List Tok → Type 0
Leaves (go s) i j = length j < length i
Leaves (done x) i j = Unit {0}

ends : {S A : Type 0} (x : A) (s : S) (i j : List Tok) → ◌≡◌ {A = Outcome (Turn S A)} (Ok (done x, i)) (Ok (go s, j)) → ⊥
ends {S} {A} x s i j h = let both : ◌≡◌ {A = Turn S A × List Tok} (done x, i) (go s, j) = cc in let first : ◌≡◌ {A = Turn S A} (done x) (go s) = ap (λ z. z.0) both in absurd (cc)

module _ (most r : ℕ) where
  -- a turn that goes on
  abbrev Goes : {S A : Type 0} → Rule (Turn S A) → Type 0
  Goes {S} {A} p = (i : List Tok) (s : S) (j : List Tok) → within most r p i ≡ Ok (go s, j) → length j < length i

  -- what takes a token at least, goes on or not
  goes : {S A : Type 0} (p : Rule (Turn S A)) → TakesOne (part most r) p → Goes p
  goes p t i s j h = takes most r (part most r) (local_part most r) p t i (go s) j h

  top_by_goes : (s : WithHeight Tops) (q : Option Lexeme) → Goes (top_by s q)
  top_by_goes s (Some (lexeme.Word w.TypeDef)) i v j h = goes (top_by s (Some (lexeme.Word w.TypeDef))) (typedef_takes most r) i v j h
  top_by_goes s (Some (lexeme.Word w.Class)) i v j h = goes (top_by s (Some (lexeme.Word w.Class))) (class_takes most r) i v j h
  top_by_goes s _ i v j h = absurd (ends s v i j h)

  -- a turn of the loop leaves fewer tokens, where it goes on
  pub top_leaves : (s : WithHeight Tops) (i : List Tok) (t : Turn (WithHeight Tops) (WithHeight Tops)) (j : List Tok) → within most r (top_step s) i ≡ Ok (t, j) → Leaves t i j
  top_leaves s i (go v) j h = top_by_goes s (lexeme_at i) i v j h
  top_leaves s i (done x) j h = tt

  choose_goes : (s : WithHeight (List VarTree)) (b : Bool) → Goes (choose_var s b)
  choose_goes s true i v j h = goes (choose_var s true) (var_takes most r) i v j h
  choose_goes s false i v j h = absurd (ends (s, ([], 0)) v i j h)

  inner_by_goes : (s : WithHeight (List VarTree)) (q : Option Lexeme) → Goes (inner_by s q)
  inner_by_goes s (Some (lexeme.Name k)) i v j h = goes (inner_by s (Some (lexeme.Name k))) tt i v j h
  inner_by_goes s q i v j h = choose_goes s (starts_type q) i v j h

  pub inner_leaves : (s : WithHeight (List VarTree)) (i : List Tok) (t : Turn (WithHeight (List VarTree)) Inner) (j : List Tok) → within most r (inner_step s) i ≡ Ok (t, j) → Leaves t i j
  inner_leaves s i (go v) j h = inner_by_goes s (lexeme_at i) i v j h
  inner_leaves s i (done x) j h = tt
