-- From the first item on with which a property stands before itself, all items do so.
use Rattle.std.proofs.Common.{◌≡◌, ℕ, suc, ◌+◌, ◌-◌, ◌<◌, ◌≤◌, true, false, ◌&&◌, List, [], ◌∷◌, ◌++◌, length, take, drop, Option, None, Some, refl, sym, ap, ◌∙◌, subst, arith, inl, inr, append_assoc, get_or, length-append}
use Rattle.std.proofs.lemmas.Bool.{or_cases, or_left, or_right, false≢true, cases_eq, cases_lt, both_ways, false_from_ne_true}
use Rattle.std.proofs.lemmas.List.{take_all, take_at, take-take, take-append-drop, drop_all, drop_more, drop-drop, length-take-le}
use Rattle.svr_refusal.specs.declared.Refusal.TheVariants as refusal
use Rattle.svr_elab_fault.specs.declared.Fault.{Fault}
use Rattle.svr_elab_fault.specs.Refusals.{when, all, first_one, earlier, least}
use Rattle.svr_elab_fault.proofs.Least.{least_append, least_when, earlier_assoc}
use Rattle.svr_elab_order.specs.declared.order.Order.{Order}
use Rattle.svr_elab_order.specs.Order.{is_in, orders_itself, is_put, Precedes, one, more}
use Rattle.svr_elab_order.specs.Cycles.{cycles, all_refused, IsFirstCycle, KeepsTheFirst}
use Rattle.svr_elab_order.proofs.Ways.{loop_itself, itself_loop}

-- ---- more items order what fewer do

put_longer : (os ps : List Order) (a b : ℕ) → is_put os a b ≡ true → is_put (os ++ ps) a b ≡ true
put_longer [] ps a b h = absurd (false≢true h)
put_longer (o ∷ os) ps a b h = elim (or_cases (is_in a o.first && is_in b o.later) (is_put os a b) h) [
  | inl e ↦ or_left (is_in a o.first && is_in b o.later) (is_put (os ++ ps) a b) e
  | inr e ↦ or_right (is_in a o.first && is_in b o.later) (is_put (os ++ ps) a b) (put_longer os ps a b e)
]

chain_longer : (os ps : List Order) (a b : ℕ) → Precedes os a b → Precedes (os ++ ps) a b
chain_longer os ps a b (one _ _ p) = one a b (put_longer os ps a b p)
chain_longer os ps a c (more _ b _ h p) = more a b c (chain_longer os ps a b h) (put_longer os ps b c p)

pub longer_itself : (os ps : List Order) → orders_itself os ≡ true → orders_itself (os ++ ps) ≡ true
longer_itself os ps h = let w = itself_loop os h in loop_itself (os ++ ps) w.0 (chain_longer os ps w.0 w.0 w.1)

take_itself : (os : List Order) (j k : ℕ) → j ≤ k → orders_itself (take j os) ≡ true → orders_itself (take k os) ≡ true
take_itself os j k l h =
    let e : take j (take k os) ++ drop j (take k os) ≡ take k os = take-append-drop j (take k os) in
    let f : take j (take k os) ≡ take j os = take-take j k os l in
    ap orders_itself (sym e ∙ ap (λ (xs : List Order). xs ++ drop j (take k os)) f) ∙ longer_itself (take j os) (drop j (take k os)) h

-- where so many items do not, no fewer do
pub none_below : (os : List Order) (k : ℕ) → orders_itself (take k os) ≡ false → (j : ℕ) → j ≤ k → orders_itself (take j os) ≡ false
none_below os k h j l = false_from_ne_true (orders_itself (take j os)) (λ e. both_ways (orders_itself (take k os)) h (take_itself os j k l e))

pub none_at_all : (os : List Order) (given : ℕ) → orders_itself os ≡ false → IsFirstCycle os given None
none_at_all os given h k l m = none_below os (length os) (ap orders_itself (take_all (length os) os (omega arith)) ∙ h) k m

-- ---- the refusals of the items behind some

behind : (so_far : List Order) (o : Order) (os : List Order) → so_far ++ o ∷ os ≡ (so_far ++ o ∷ []) ++ os
behind so_far o os = sym (append_assoc so_far (o ∷ []) os)

one_longer : (so_far : List Order) (o : Order) → length (so_far ++ o ∷ []) ≡ length so_far + 1
one_longer so_far o = length-append so_far (o ∷ [])

-- so many items from the front
fronts : (os so_far : List Order) (o : Order) (rest : List Order) → os ≡ so_far ++ o ∷ rest → take (length so_far + 1) os ≡ so_far ++ o ∷ []
fronts os so_far o rest e = ap (take (length so_far + 1)) (e ∙ behind so_far o rest) ∙ take_at (so_far ++ o ∷ []) rest (length so_far + 1) (one_longer so_far o)

all_cycles : (so_far os : List Order) → orders_itself so_far ≡ true → cycles first_one so_far os ≡ all_refused os
all_cycles so_far [] h = refl
all_cycles so_far (o ∷ os) h =
    let more : orders_itself (so_far ++ o ∷ []) ≡ true = longer_itself so_far (o ∷ []) h in
    ap (λ b. earlier (when first_one b o.at refusal.SolveCycle) (cycles first_one (so_far ++ o ∷ []) os)) more
    ∙ ap (earlier (Some (record { token = o.at; refusal = refusal.SolveCycle }))) (all_cycles (so_far ++ o ∷ []) os more)

pub no_cycles : (os so_far rest : List Order) → os ≡ so_far ++ rest → IsFirstCycle os (length so_far) None → cycles first_one so_far rest ≡ None
no_cycles os so_far [] e h = refl
no_cycles os so_far (o ∷ rest) e h =
    let n : length os ≡ length so_far + suc (length rest) = ap length e ∙ length-append so_far (o ∷ rest) in
    let none : orders_itself (so_far ++ o ∷ []) ≡ false = ap orders_itself (sym (fronts os so_far o rest e)) ∙ h (length so_far + 1) (omega arith) (omega arith) in
    let l : length (so_far ++ o ∷ []) ≡ length so_far + 1 = one_longer so_far o in
    ap (λ b. earlier (when first_one b o.at refusal.SolveCycle) (cycles first_one (so_far ++ o ∷ []) rest)) none
    ∙ no_cycles os (so_far ++ o ∷ []) rest (e ∙ behind so_far o rest) (λ k g m. h k (omega arith) m)

some_cycles : (os so_far rest : List Order) (n : ℕ) → os ≡ so_far ++ rest → IsFirstCycle os (length so_far) (Some n)
    → cycles first_one so_far rest ≡ all_refused (drop (n - 1 - length so_far) rest)
some_cycles os so_far [] n e h =
    let l : length os ≡ length so_far + 0 = ap length e ∙ length-append so_far [] in
    let a : length so_far < n = h.0 in
    let b : n ≤ length os = h.1 in
    absurd (omega arith)
some_cycles os so_far (o ∷ rest) n e h = elim (cases_eq n (length so_far + 1)) [
  | inl p ↦
      let here : orders_itself (so_far ++ o ∷ []) ≡ true = ap orders_itself (sym (fronts os so_far o rest e) ∙ ap (λ k. take k os) (sym p)) ∙ h.2 in
      let zero_is : n - 1 - length so_far ≡ 0 = omega arith in
      ap (λ b. earlier (when first_one b o.at refusal.SolveCycle) (cycles first_one (so_far ++ o ∷ []) rest)) here
      ∙ ap (earlier (Some (record { token = o.at; refusal = refusal.SolveCycle }))) (all_cycles (so_far ++ o ∷ []) rest here)
      ∙ ap (λ k. all_refused (drop k (o ∷ rest))) (sym zero_is)
  | inr p ↦
      let a : length so_far < n = h.0 in
      let l : length (so_far ++ o ∷ []) ≡ length so_far + 1 = one_longer so_far o in
      let none : orders_itself (so_far ++ o ∷ []) ≡ false = ap orders_itself (sym (fronts os so_far o rest e)) ∙ h.3 (length so_far + 1) (omega arith) (omega arith) in
      let is : n - 1 - length so_far ≡ suc (n - 1 - length (so_far ++ o ∷ [])) = omega arith in
      let first : length (so_far ++ o ∷ []) < n = omega arith in
      ap (λ b. earlier (when first_one b o.at refusal.SolveCycle) (cycles first_one (so_far ++ o ∷ []) rest)) none
      ∙ some_cycles os (so_far ++ o ∷ []) rest n (e ∙ behind so_far o rest) (first, h.1, h.2, λ k g m. h.3 k (omega arith) m)
      ∙ ap (λ k. all_refused (drop k (o ∷ rest))) (sym is)
]

-- ---- as the code has them, cut at a place

given_within : (os : List Order) (given n : ℕ) → IsFirstCycle os given (Some n) → given ≤ length os
given_within os given n h = let a : given < n = h.0 in let b : n ≤ length os = h.1 in omega arith

pub cycles_none : (os : List Order) (given : ℕ) → IsFirstCycle os given None → None ≡ cycles first_one (take given os) (drop given os)
cycles_none os given h = elim (cases_lt (length os) given) [
  | inl l ↦ ap (cycles first_one (take given os)) (sym (drop_all given os (omega arith)))
  | inr l ↦
      let e : length (take given os) ≡ given = length-take-le given os l in
      let P : ℕ → Type 0 = λ k. IsFirstCycle os k None in
      sym (no_cycles os (take given os) (drop given os) (sym (take-append-drop given os)) (subst P (sym e) h))
]

pub cycles_some : (os : List Order) (given n : ℕ) → IsFirstCycle os given (Some n) → all_refused (drop (n - 1) os) ≡ cycles first_one (take given os) (drop given os)
cycles_some os given n h =
    let a : given < n = h.0 in
    let l : given ≤ length os = given_within os given n h in
    let e : length (take given os) ≡ given = length-take-le given os l in
    let P : ℕ → Type 0 = λ k. IsFirstCycle os k (Some n) in
    let is : n - 1 ≡ given + (n - 1 - length (take given os)) = omega arith in
    ap (λ k. all_refused (drop k os)) is
    ∙ ap all_refused (sym (drop-drop (n - 1 - length (take given os)) given os))
    ∙ sym (some_cycles os (take given os) (drop given os) n (sym (take-append-drop given os)) (subst P (sym e) h))

-- one item more
pub refused_step : (os : List Order) (i : ℕ) (o : Order) (f w n : Option Fault) → i < length os → o ≡ get_or os i o → w ≡ when first_one true o.at refusal.SolveCycle
    → n ≡ earlier f w → earlier f (all_refused (drop i os)) ≡ all_refused os → earlier n (all_refused (drop (i + 1) os)) ≡ all_refused os
refused_step os i o f w n l e is_w is_n h =
    let x : Option Fault = when first_one true o.at refusal.SolveCycle in
    ap (λ (k : Option Fault). earlier k (all_refused (drop (i + 1) os))) (is_n ∙ ap (earlier f) is_w)
    ∙ earlier_assoc f x (all_refused (drop (i + 1) os))
    ∙ ap (λ (xs : List Order). earlier f (all_refused xs)) (ap (λ (z : Order). z ∷ drop (i + 1) os) e ∙ sym (drop_more os i o l))
    ∙ h

pub kept : KeepsTheFirst
kept so_far [] = refl
kept so_far (o ∷ os) =
    least_append (when all (orders_itself (so_far ++ o ∷ [])) o.at refusal.SolveCycle) (cycles all (so_far ++ o ∷ []) os)
    ∙ ap (λ (f : Option Fault). earlier f (least (cycles all (so_far ++ o ∷ []) os))) (least_when (orders_itself (so_far ++ o ∷ [])) o.at refusal.SolveCycle)
    ∙ ap (earlier (when first_one (orders_itself (so_far ++ o ∷ [])) o.at refusal.SolveCycle)) (kept (so_far ++ o ∷ []) os)
