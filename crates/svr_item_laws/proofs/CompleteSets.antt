-- A set, or an `else`, that spells the tokens is read.
use Rattle.std.proofs.Common.{◌≡◌, ℕ, ◌+◌, ◌≤◌, max, true, false, List, [], ◌∷◌, ◌++◌, length, Ok, refl, sym, ◌∙◌, ap, subst, arith}
use Rattle.svr_token.specs.declared.Word.TheVariants as w
use Rattle.svr_token.specs.declared.Mark.TheVariants as m
use Rattle.svr_tree.specs.Tokens as tokens
use Rattle.svr_tree.specs.Tokens.{Tok, Entry, FitEach, mark, word, Each}
use Rattle.svr_tree.specs.DeclGrammar.{greatest}
use Rattle.svr_tree.specs.ExprTree.{ExprTree}
use Rattle.svr_tree.specs.ItemTree.{ItemTree, branch, ItemTrees, no_items, more_items, items_of, SetTree, set, ElseTree, no_else, else_set}
use Rattle.svr_tree.specs.ItemGrammar.{item_spelling, items_spelling, set_spelling, else_spelling, takes_else, set_takes_else, IsItem, AreItems, IsSet, IsElse, item_height, items_height, set_height, else_height}
use Rattle.svr_reader.specs.Outcomes.{Parser, lexeme_at}
use Rattle.svr_reader.specs.Program.{pure, call, run}
use Rattle.svr_reader.specs.Lists.{WithHeight}
use Rattle.svr_reader.proofs.Steps.{bind_is, takes_parts, takes_less, led_takes, led_no}
use Rattle.svr_reader.proofs.Live.{AnyToken}
use Rattle.svr_reader.proofs.Layers.{IsComplete}
use Rattle.svr_reader.proofs.Lists.{until_complete}
use Rattle.svr_item.specs.ItemRules.{Part, Ans, Rule, an_item, items, braced_set, single_set, item_set, else_branch, otherwise, part}
use Rattle.svr_item_laws.proofs.Trees.{NotElse, open_brace, close_brace, else_word, list_of_items, items_list_is, items_spelling_is, items_height_is, items_are}
use Rattle.svr_item_laws.proofs.Firsts.{item_long, item_free, item_unbraced}

-- such an item is read, before any token that is no `else` which it could take
abbrev pub CompletesItems : (ItemTree → Type 0) → ℕ → ℕ → Parser (WithHeight ItemTree) → Type 0
CompletesItems Is most r p = (x : ItemTree) (i rest : List Tok) → length i ≤ most + length rest → Is x → item_height x ≤ r → FitEach i (item_spelling x) rest → (takes_else x ≡ true → NotElse (lexeme_at rest)) → p i ≡ Ok ((x, item_height x), rest)

pub complete_items : {Is : ItemTree → Type 0} {most r : ℕ} {p : Parser (WithHeight ItemTree)} → CompletesItems Is most r p → IsComplete item_spelling Is item_height most r NotElse p
complete_items v = record { at = λ x i rest few l low h c. v x i rest few l low h (λ _. c) }

module _ (most r : ℕ) (below : Parser (WithHeight ItemTree)) (ok : CompletesItems IsItem most r below) where
  abbrev sub : (k : Part) → Parser (Ans k)
  sub = part most r below

  abbrev R : {A : Type 0} → Rule A → Parser A
  R p = run most r sub p

  abbrev items_ended : List ItemTree → List Entry
  items_ended xs = tokens.each_spelling item_spelling xs ++ mark m.CloseBrace ∷ []

  pub items_complete : IsComplete items_ended (Each IsItem) (greatest item_height) most r AnyToken (R items)
  unfolding items
  items_complete = until_complete most r sub (call an_item) item_spelling IsItem item_height close_brace r NotElse (complete_items ok) item_long item_free refl

  listed_complete : (xs : List ItemTree) (i rest : List Tok) → length i ≤ most + length rest → AreItems (items_of xs) → items_height (items_of xs) ≤ r → FitEach i (items_spelling (items_of xs) ++ mark m.CloseBrace ∷ []) rest
      → R braced_set i ≡ Ok ((set true (items_of xs), items_height (items_of xs)), rest)
  unfolding braced_set
  listed_complete xs i rest few l low h =
      let high = items_height_is xs in
      bind_is (R items i) _ (xs, greatest item_height xs) rest _
      (items_complete.at xs i rest few (items_are xs l) (omega (arith, low, high)) (subst (λ es. FitEach i (es ++ mark m.CloseBrace ∷ []) rest) (items_spelling_is xs) h) tt)
      (ap (λ n. Ok ((set true (items_of xs), n), rest)) (sym high))

  braced_complete : (is : ItemTrees) (i rest : List Tok) → length i ≤ most + length rest → AreItems is → items_height is ≤ r → FitEach i (items_spelling is ++ mark m.CloseBrace ∷ []) rest → R braced_set i ≡ Ok ((set true is, items_height is), rest)
  braced_complete is i rest few l low h =
      let back = sym (items_list_is is) in
      subst (λ z. R braced_set i ≡ Ok ((set true z, items_height z), rest)) (items_list_is is)
      (listed_complete (list_of_items is) i rest few (subst AreItems back l) (subst (λ z. items_height z ≤ r) back low) (subst (λ z. FitEach i (items_spelling z ++ mark m.CloseBrace ∷ []) rest) back h))

  single_complete : (x : ItemTree) (i rest : List Tok) → length i ≤ most + length rest → IsItem x → item_height x ≤ r → FitEach i (item_spelling x) rest → (takes_else x ≡ true → NotElse (lexeme_at rest))
      → R single_set i ≡ Ok ((set false (more_items x no_items), max (item_height x) 0), rest)
  unfolding single_set
  single_complete x i rest few l low h closed =
      bind_is (below i) _ (x, item_height x) rest _ (ok x i rest few l low h closed)
      (let high : item_height x ≡ max (item_height x) 0 = omega arith in ap (λ n. Ok ((set false (more_items x no_items), n), rest)) high)

  pub set_complete : (s : SetTree) (i rest : List Tok) → length i ≤ most + length rest → IsSet s → set_height s ≤ r → FitEach i (set_spelling s) rest → (set_takes_else s ≡ true → NotElse (lexeme_at rest)) → R item_set i ≡ Ok ((s, set_height s), rest)
  unfolding item_set
  set_complete (set true is) i rest few l low h closed =
      let p = takes_parts i (mark m.OpenBrace ∷ []) (items_spelling is ++ mark m.CloseBrace ∷ []) rest h in
      let a1 = takes_less i (mark m.OpenBrace ∷ []) p.0 p.1 in
      led_takes most r sub open_brace braced_set single_set i p.0 p.1 ∙ braced_complete is p.0 rest (omega (arith, few, a1)) l low p.2
  set_complete (set false no_items) i rest few l low h closed = absurd l
  set_complete (set false (more_items x no_items)) i rest few l low h closed =
      let p = takes_parts i (item_spelling x) [] rest h in
      let h2 : FitEach i (item_spelling x) rest = subst (λ v. FitEach i (item_spelling x) v) p.2 p.1 in
      led_no most r sub open_brace braced_set single_set i (item_unbraced x i rest l.0 l.1 h2) ∙ single_complete x i rest few l.0 (omega (arith, low)) h2 closed
  set_complete (set false (more_items x (more_items y ys))) i rest few l low h closed = absurd l

  else_complete : (s : SetTree) (i rest : List Tok) → length i ≤ most + length rest → IsSet s → set_height s ≤ r → FitEach i (set_spelling s) rest → (set_takes_else s ≡ true → NotElse (lexeme_at rest)) → R else_branch i ≡ Ok ((else_set s, set_height s), rest)
  unfolding else_branch
  else_complete s i rest few l low h closed = bind_is (R item_set i) _ (s, set_height s) rest _ (set_complete s i rest few l low h closed) refl

  pub otherwise_complete : (at : ℕ) (t : ExprTree) (met : SetTree) (unmet : ElseTree) (i rest : List Tok) → length i ≤ most + length rest → IsElse met unmet → else_height unmet ≤ r → FitEach i (else_spelling unmet) rest
      → (takes_else (branch at t met unmet) ≡ true → NotElse (lexeme_at rest)) → R otherwise i ≡ Ok ((unmet, else_height unmet), rest)
  unfolding otherwise
  otherwise_complete at t met no_else i rest few l low h closed =
      led_no most r sub else_word else_branch (pure (no_else, 0)) i (subst (λ z. NotElse (lexeme_at z)) (sym h) (closed refl)) ∙ ap (λ z. Ok ((no_else, 0), z)) h
  otherwise_complete at t met (else_set s) i rest few l low h closed =
      let p = takes_parts i (word w.Else ∷ []) (set_spelling s) rest h in
      let a1 = takes_less i (word w.Else ∷ []) p.0 p.1 in
      led_takes most r sub else_word else_branch (pure (no_else, 0)) i p.0 p.1 ∙ else_complete s p.0 rest (omega (arith, few, a1)) l.1 low p.2 closed

  -- what follows the first set of an `if`
  pub met_closed : (at : ℕ) (t : ExprTree) (met : SetTree) (unmet : ElseTree) (i rest : List Tok) → IsElse met unmet → FitEach i (else_spelling unmet) rest → (takes_else (branch at t met unmet) ≡ true → NotElse (lexeme_at rest))
      → set_takes_else met ≡ true → NotElse (lexeme_at i)
  met_closed at t met no_else i rest l h closed v = subst (λ z. NotElse (lexeme_at z)) (sym h) (closed refl)
  met_closed at t met (else_set s) i rest l h closed v = absurd (let never = l.0 in cc)
