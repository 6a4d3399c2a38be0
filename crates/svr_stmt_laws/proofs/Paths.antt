-- Paths whose first name was taken already, and indices behind a path.
use Rattle.std.proofs.Common.{◌≡◌, ℕ, zero, suc, ◌+◌, ◌≤◌, Bool, true, false, List, [], ◌∷◌, ◌++◌, length, Option, Some, Ok, Err, refl, sym, ◌∙◌, ap, arith}
use Rattle.svr_token.specs.declared.Lexeme.{Lexeme}
use Rattle.svr_token.specs.declared.Lexeme.TheVariants as lexeme
use Rattle.svr_token.specs.declared.Word.TheVariants as w
use Rattle.svr_token.specs.declared.Mark.TheVariants as m
use Rattle.svr_token.specs.declared.NameKind.{NameKind}
use Rattle.svr_tree.specs.Tokens.{Tok, FitEach}
use Rattle.svr_tree.specs.ExprTree.{ExprTree}
use Rattle.svr_tree.specs.ExprGrammar.{expr_spelling, expr_height}
use Rattle.svr_tree.specs.ItemGrammar.{IsMember}
use Rattle.svr_reader.specs.Outcomes.{Turn, go, done, Outcome, Parser, and_then, lexeme_at, number_at}
use Rattle.svr_reader.specs.declared.fixed.Fixed.TheVariants as f
use Rattle.svr_reader.specs.Program.{Program, pure, bind, peek, loop, run, known_name}
use Rattle.svr_reader.specs.Steps.{is_fixed}
use Rattle.svr_reader.specs.Lists.{WithHeight, led, choose}
use Rattle.svr_reader.proofs.Steps.{bind_ok, bind_is, choose_false, known_name_complete}
use Rattle.svr_reader.proofs.Local.{IsLocal, local_run}
use Rattle.svr_reader.proofs.Growth.{Rooms, grows_run}
use Rattle.svr_reader.proofs.Rooms.{OpensAt, opens_take, opens_name, opens_no_name, opens_bind, opens_here, opens_peek}
use Rattle.svr_reader.proofs.Live.{AnyToken}
use Rattle.svr_reader.proofs.LiveLoops.{Then}
use Rattle.svr_reader.proofs.LiveTurns.{led_loop_goal}
use Rattle.svr_reader.proofs.LivePeeks.{Peeks, reads, stops, peek_loop_goal}
use Rattle.svr_reader.proofs.Goals.{Goal, Form, then_goal, then_form, pure_goal, enter_form}
use Rattle.svr_reader.proofs.Led.{AnyAnswer, goal_expect, known_name_goal}
use Rattle.svr_reader.proofs.Layers.{ReadAs, IsViable, IsOpen, IsGrowing, Part}
use Rattle.svr_expr.specs.ExprRules.{Rule, name_step, names_on, path_from, plain_path, local_path, this_path, known_path_by, known_path, path_on, path_in, index_on, member_step, member_in, a_member, node, expr, a_known_path, a_member_on, path_starts}
use Rattle.svr_expr_laws.proofs.Sound.{a_member_sound}
use Rattle.svr_expr.proofs.Local.{local_expr}
use Rattle.svr_expr_laws.proofs.Growth.{grows_expr}
use Rattle.svr_expr_laws.proofs.CompleteParts.{IsCompleteExpr}
use Rattle.svr_expr_laws.proofs.Complete.{expr_complete}
use Rattle.svr_expr_laws.proofs.Nodes.{NotDot, NotSelect, a_member_complete}
use Rattle.svr_expr_laws.proofs.LiveParts.{Closes, goal_sub}
use Rattle.svr_expr_laws.proofs.Live.{live_expr}

pub regroup : {A B D : Type 0} (o : Outcome A) (g : A → Parser B) (h : B → Parser D) → and_then (and_then o g) h ≡ and_then o (λ x j. and_then (g x j) h)
regroup (Ok y) g h = refl
regroup (Err e) g h = refl

-- ---- a plain path is its first name and the rest

module _ {K : Type 0} {Ans : K → Type 0} (most r : ℕ) (sub : (k : K) → Parser (Ans k)) where
  pub path_on_is : (t : Tok) (k : NameKind) (i : List Tok) → t.lexeme ≡ lexeme.Name k → run most r sub known_path (t ∷ i) ≡ run most r sub (path_on (t.at, k)) i
  unfolding known_path plain_path path_from path_on
  path_on_is t k i h = ap (λ q. run most r sub (known_path_by (Some q)) (t ∷ i)) h ∙ bind_is (run most r sub known_name (t ∷ i)) _ (t.at, k) i _ (known_name_complete most r sub t.at k (t ∷ i) i ((refl, h), refl)) refl

  module _ (ls : (k : K) → IsLocal (sub k)) where
    -- C: what follows the path
    module _ (some : 1 ≤ most) (C : Option Lexeme → Type 0) (apart : (q : Option Lexeme) → C q → NotDot q) where
      abbrev Names : Type 0
      Names = List ℕ × NameKind

      abbrev dotted_name : Names → Program K Ans (Turn Names Names)
      dotted_name s = bind known_name (λ n. pure (go (s.0 ++ n.0 ∷ [], n.1)))

      abbrev NameEnds : Turn Names Names → Type 0
      NameEnds = Then most C C AnyAnswer (λ s. run most r sub (led (f.Mark m.Dot) (dotted_name s) (pure (done s)))) AnyAnswer

      dotted_goal : (s : Names) → Goal most r sub ls AnyToken C NameEnds (dotted_name s)
      dotted_goal s = then_goal most r sub ls (known_name_goal most r sub ls tt) (λ n _. pure_goal most r sub ls {Q = NameEnds} {x = go (s.0 ++ n.0 ∷ [], n.1)} (tt, λ _ h. h) (λ _ _. tt))

      names_goal : (first : ℕ × NameKind) → Goal most r sub ls C C AnyAnswer (names_on first)
      unfolding names_on name_step
      names_goal first = led_loop_goal most r sub ls some C AnyAnswer AnyAnswer (λ s. s) (f.Mark m.Dot) dotted_name apart (λ s _. dotted_goal s) (λ s _. tt) (first.0 ∷ [], first.1) tt

      pub path_on_goal : (first : ℕ × NameKind) → Goal most r sub ls C C AnyAnswer (path_on first)
      unfolding path_on
      path_on_goal first = then_goal most r sub ls (names_goal first) (λ ns _. pure_goal most r sub ls tt (λ _ h. h))

    -- what a path begins with
    path_by_opens : (q : Option Lexeme) → OpensAt most r sub ls q (path_starts q) (known_path_by q)
    unfolding local_path this_path plain_path path_from
    path_by_opens (Some (lexeme.Word w.Local)) = opens_take most r sub ls
    path_by_opens (Some (lexeme.Word w.This)) = opens_take most r sub ls
    path_by_opens (Some (lexeme.Name k)) = opens_here most r sub ls (λ n. opens_bind most r sub ls (opens_name most r sub ls))
    path_by_opens _ = opens_here most r sub ls (λ n. opens_bind most r sub ls (opens_no_name most r sub ls (λ i. refl)))

    pub path_opens : (q : Option Lexeme) → OpensAt most r sub ls q (path_starts q) known_path
    unfolding known_path
    path_opens q = opens_peek most r sub ls (path_by_opens q)

-- the same of a path, where there is room for one
pub a_path_on_is : (most r : ℕ) (t : Tok) (k : NameKind) (i : List Tok) → t.lexeme ≡ lexeme.Name k → a_known_path most (suc r) (t ∷ i) ≡ run most r (expr most r) (path_on (t.at, k)) i
unfolding a_known_path
a_path_on_is most r t k i h = path_on_is most r (expr most r) t k i h

-- ---- a path with indices is the path and the rest

pub member_is : (most r : ℕ) → 1 ≤ r → (i : List Tok) → node most r a_member i ≡ and_then (a_known_path most r i) (λ p j. a_member_on most r (number_at i) (p.0, 1) j)
unfolding node a_known_path a_member_on member_in path_in
member_is most zero fits i = absurd (omega (arith, fits))
member_is most (suc r) fits i = regroup (run most r (expr most r) known_path i) (λ p j. Ok ((p.0, 1), j)) (λ base. run most r (expr most r) (loop (member_step (number_at i)) base))

-- what is read behind a path is, with the path, a path with indices
pub member_on_sound : (most r : ℕ) → 1 ≤ r → (i : List Tok) (p : ExprTree × NameKind) (mid : List Tok) (x : WithHeight ExprTree) (j : List Tok) → a_known_path most r i ≡ Ok (p, mid) → a_member_on most r (number_at i) (p.0, 1) mid ≡ Ok (x, j)
    → ReadAs expr_spelling IsMember expr_height r i x j
member_on_sound most r fits i p mid x j known h = (a_member_sound most r).at i x j (member_is most r fits i ∙ bind_is (a_known_path most r i) _ p mid _ known h)

-- a path with indices is read as the path, and then the indices
pub member_on_complete : {G : Type 0} (most r : ℕ) → 1 ≤ r → r ≤ most → (x : ExprTree) (i rest : List Tok) → length i ≤ most + length rest → IsMember x → expr_height x ≤ r → FitEach i (expr_spelling x) rest → NotSelect (lexeme_at rest)
    → ((p : ExprTree × NameKind) (mid : List Tok) → a_known_path most r i ≡ Ok (p, mid) → a_member_on most r (number_at i) (p.0, 1) mid ≡ Ok ((x, expr_height x), rest) → G) → G
member_on_complete most r fits roomy x i rest few is low h c g = bind_ok (a_known_path most r i) (λ p j. a_member_on most r (number_at i) (p.0, 1) j) ((x, expr_height x), rest) (sym (member_is most r fits i) ∙ (a_member_complete most r roomy).at x i rest few is low h c) g

pub rooms_none : (wider : Bool) (r : ℕ) → Rooms wider (suc r) zero → ⊥
rooms_none true r h = omega (arith, h)
rooms_none false r h = omega (arith, h)

pub rooms_below : (wider : Bool) (r r2 : ℕ) → Rooms wider (suc r) (suc r2) → Rooms wider r r2
rooms_below true r r2 h = omega (arith, h)
rooms_below false r r2 h = omega (arith, h)

pub grows_member_on : (at : ℕ) (base : WithHeight ExprTree) → IsGrowing (λ most r. a_member_on most r at base)
unfolding a_member_on
grows_member_on at base wider n n2 zero r2 more rooms = record { at = λ i. tt }
grows_member_on at base wider n n2 (suc r) zero more rooms = absurd (rooms_none wider r rooms)
grows_member_on at base wider n n2 (suc r) (suc r2) more rooms =
    grows_run wider n n2 r r2 (expr n r) (expr n2 r2) more (rooms_below wider r r2 rooms) (local_expr n2 r2) (λ least. grows_expr least wider n n2 r r2 more (rooms_below wider r r2 rooms)) (loop (member_step at) base)

-- where the reading of indices fails, what was read so far can be completed

module _ (most r : ℕ) (sub : ℕ → Parser (WithHeight ExprTree)) (ls : (least : ℕ) → IsLocal (sub least)) (some : 1 ≤ most)
    (complete : IsCompleteExpr most r sub) (hyp : 1 ≤ r → (least : ℕ) → 1 ≤ least → least ≤ 13 → IsViable most Closes (Part r) (sub least)) where
  index_on_form : (at : ℕ) (base : WithHeight ExprTree) → Part (suc r) base → Form most r sub ls AnyToken (Part (suc r)) (index_on at base)
  unfolding index_on
  index_on_form at base a = enter_form most r sub ls a.1 (λ fits _. then_goal most r sub ls (goal_sub most r sub ls some complete hyp (omega (arith, a.0, fits)) 1 (omega arith) (omega arith) tt) (λ x g.
      then_goal most r sub ls (goal_expect most r sub ls (f.Mark m.CloseBracket) refl) (λ _ _. pure_goal most r sub ls (omega arith, omega (arith, fits, g.1)) (λ _ _. tt))))

  abbrev member_turn : ℕ → WithHeight ExprTree → Option Lexeme → Rule (Turn (WithHeight ExprTree) (WithHeight ExprTree))
  member_turn at s l = choose (is_fixed (f.Mark m.OpenBracket) l) (bind (index_on at s) (λ longer. pure (go longer))) (pure (done s))

  -- C: what follows the indices
  module _ (C : Option Lexeme → Type 0) (apart : (q : Option Lexeme) → C q → is_fixed (f.Mark m.OpenBracket) q ≡ false) where
    abbrev MemberEnds : ℕ → Turn (WithHeight ExprTree) (WithHeight ExprTree) → Type 0
    MemberEnds at = Then most C C (Part (suc r)) (λ s. run most r sub (bind peek (member_turn at s))) (Part (suc r))

    member_branch : (at : ℕ) (s : WithHeight ExprTree) → Part (suc r) s → (t : Bool) → Peeks most r sub ls C (MemberEnds at) (done s) (choose t (bind (index_on at s) (λ longer. pure (go longer))) (pure (done s)))
    member_branch at s inv true = reads (then_form most r sub ls (index_on_form at s inv) (λ longer g. pure_goal most r sub ls {Q = MemberEnds at} {x = go longer} (g, λ _ h. h) (λ _ _. tt)))
    member_branch at s inv false = stops (λ i. refl)

    member_goal : (at : ℕ) (base : WithHeight ExprTree) → Part (suc r) base → Goal most r sub ls C C (Part (suc r)) (loop (member_step at) base)
    unfolding member_step
    member_goal at base a = peek_loop_goal most r sub ls C (Part (suc r)) (Part (suc r)) (member_turn at) (λ x. x) (λ s inv. inv)
        (λ s inv q. member_branch at s inv (is_fixed (f.Mark m.OpenBracket) q)) (λ s q i cl. choose_false most r sub _ _ _ i (apart q cl)) some base a

pub member_on_open : (most r at : ℕ) (base : WithHeight ExprTree) (C : Option Lexeme → Type 0) → ((q : Option Lexeme) → C q → is_fixed (f.Mark m.OpenBracket) q ≡ false) → 1 ≤ most → r ≤ most → Part r base → IsOpen most C C (Part r) (a_member_on most r at base)
unfolding a_member_on
member_on_open most zero at base C apart some roomy a = absurd (omega (arith, a.0, a.1))
member_on_open most (suc r) at base C apart some roomy a =
    let v = member_goal most r (expr most r) (local_expr most r) some (expr_complete most r (omega (arith, roomy))) (λ fits. live_expr most r some (omega (arith, roomy))) C apart at base a in
    record { alive = v.alive; settles = v.settles; heads = v.heads }
