-- What lies above all numbers that items name.
use Rattle.std.proofs.Common.{◌≡◌, ℕ, ◌+◌, ◌<◌, ◌≤◌, true, false, ◌||◌, List, [], ◌∷◌, ◌++◌, length, take, sym, ap, ◌∙◌, arith, inl, inr, ⊎_elim, get_or}
use Rattle.std.specs.Prelude.{◌⊎◌}
use Rattle.std.proofs.lemmas.Bool.{or_cases, or_left, or_right, false≢true}
use Rattle.std.proofs.lemmas.List.{take_more}
use Rattle.svr_elab_order.specs.declared.order.Order.{Order}
use Rattle.svr_elab_order.specs.Order.{is_in}
use Rattle.svr_elab_order.specs.Graph.{is_named, AreNames}

named_last : (os : List Order) (o : Order) (a : ℕ) → is_named (os ++ o ∷ []) a ≡ true → (is_named os a ≡ true) ⊎ ((is_in a o.first || is_in a o.later) ≡ true)
named_last [] o a h = ⊎_elim (λ e. inr e) (λ e. absurd (false≢true e)) (or_cases (is_in a o.first || is_in a o.later) false h)
named_last (p ∷ os) o a h = elim (or_cases (is_in a p.first || is_in a p.later) (is_named (os ++ o ∷ []) a) h) [
  | inl e ↦ inl (or_left (is_in a p.first || is_in a p.later) (is_named os a) e)
  | inr e ↦ ⊎_elim (λ k. inl (or_right (is_in a p.first || is_in a p.later) (is_named os a) k)) (λ k. inr k) (named_last os o a e)
]

abbrev Below : ℕ → List ℕ → Type 0
Below m xs = (a : ℕ) → is_in a xs ≡ true → a < m

pub names_step : (os : List Order) (i : ℕ) (o : Order) (n p q m : ℕ) (first later : List ℕ) → i < length os → o ≡ get_or os i o → AreNames n (take i os)
    → first ≡ o.first → later ≡ o.later → Below p first → Below q later → n ≤ m → p ≤ m → q ≤ m → AreNames m (take (i + 1) os)
names_step os i o n p q m first later l e h is_first is_later f g a b c x k =
    let t : take (i + 1) os ≡ take i os ++ o ∷ [] = take_more os i o l ∙ ap (λ (z : Order). take i os ++ z ∷ []) (sym e) in
    elim (named_last (take i os) o x (sym (ap (λ (os : List Order). is_named os x) t) ∙ k)) [
      | inl w ↦ let s : x < n = h x w in omega arith
      | inr w ↦ elim (or_cases (is_in x o.first) (is_in x o.later) w) [
        | inl v ↦ let s : x < p = f x (ap (is_in x) is_first ∙ v) in omega arith
        | inr v ↦ let s : x < q = g x (ap (is_in x) is_later ∙ v) in omega arith
      ]
    ]
