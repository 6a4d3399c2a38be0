-- Loops over the indexes of an array whose set holds at each of them, or fails at one.
use Rattle.std.proofs.Common.{rules, ◌≡◌, ◌/◌, ℕ, ◌<◌, Bool, true, false, sym, List, [], ◌∷◌, ◌++◌}
use Rattle.svr_typed.specs.declared.item.TItem.{TItem, Foreach, the_lemmas}
use Rattle.svr_typed.specs.ItemTerm.{foreach, item_term, item_terms}
use Rattle.svr_eval.specs.Reading.{Reading}
use Rattle.svr_eval.specs.Holds.{holds, all_hold, all_below, each_in_row}
use Rattle.svr_eval.proofs.Below.{all_below_false}

seen_foreach : (p m names : ℕ) (body : List TItem) → item_term (Foreach p m names body) ≡ foreach p m names (item_terms body)
seen_foreach p m names body = search (rules, the_lemmas)

module _ (a : Reading) (env : List ℕ) (it : TItem) (p m names : ℕ) (body : List TItem) (is : it ≡ Foreach p m names body) where
  pub foreach_fails : (i : ℕ) → i < a.size p / m
      → each_in_row m names (λ indexes. all_hold a indexes (item_terms body)) (env ++ i ∷ []) ≡ false → false ≡ holds a env (item_term it)
  foreach_fails i lt e =
      rw (is, seen_foreach p m names body) (sym (all_below_false (a.size p / m) i (λ k. each_in_row m names (λ indexes. all_hold a indexes (item_terms body)) (env ++ k ∷ [])) lt e))

  pub foreach_holds : (n : ℕ) → n ≡ a.size p / m
      → all_below n (λ i. each_in_row m names (λ indexes. all_hold a indexes (item_terms body)) (env ++ i ∷ [])) ≡ true → true ≡ holds a env (item_term it)
  foreach_holds n end e = rw (is, seen_foreach p m names body, ← end) (sym e)

pub row_fails : (m names j : ℕ) (f : List ℕ → Bool) (env : List ℕ) → names ≡ 2 → j < m → f (env ++ j ∷ []) ≡ false → false ≡ each_in_row m names f env
row_fails m names j f env two lt e = rw two (sym (all_below_false m j (λ k. f (env ++ k ∷ [])) lt e))
