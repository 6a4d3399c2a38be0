-- The lists of the items right before each property, as they are filled.
use Rattle.std.proofs.Common.{◌≡◌, ◌≢◌, ℕ, ◌+◌, ◌<◌, Bool, true, false, ◌&&◌, ◌||◌, nat_eq, List, [], ◌∷◌, ◌++◌, length, take, replicate, refl, sym, ap, ◌∙◌, subst, arith, inl, inr, get_or}
use Rattle.std.proofs.Math.ListN.{set}
use Rattle.std.proofs.lemmas.Bool.{cases_eq, eq-eqb, ne_eqb}
use Rattle.std.proofs.lemmas.List.{get_or-set_other, get_or-set_same, get_or-replicate, length-replicate, take_more, length-take-le}
use Rattle.std.proofs.lemmas.List.Folds.{list_any-append, list_any_more}
use Rattle.svr_elab_order.specs.declared.order.Order.{Order}
use Rattle.svr_elab_order.specs.Order.{is_in}
use Rattle.svr_elab_order.specs.Graph.{is_item_before}

-- ---- one item before each of its later names

-- where the item stands before those of its later names that were gone over
abbrev pub PutBefore : List (List ℕ) → List (List ℕ) → ℕ → List ℕ → Type 0
PutBefore start lists item later =
    (u y : ℕ) → y < length start → is_in u (get_or lists y []) ≡ (is_in u (get_or start y []) || (nat_eq u item && is_in y later))

abbrev pushed : List (List ℕ) → ℕ → ℕ → List (List ℕ)
pushed lists name item = set lists name (get_or lists name [] ++ item ∷ [])

twice : (s e t : Bool) → ((s || (e && t)) || (e || false)) ≡ (s || (e && (t || true)))
twice true e t = refl
twice false true true = refl
twice false true false = refl
twice false false t = refl

or_false : (t : Bool) → (t || false) ≡ t
or_false true = refl
or_false false = refl

at_name : (start lists : List (List ℕ)) (item : ℕ) (later : List ℕ) (i name u : ℕ) → i < length later → name ≡ get_or later i name → name < length lists
    → is_in u (get_or lists name []) ≡ (is_in u (get_or start name []) || (nat_eq u item && is_in name (take i later)))
    → is_in u (get_or (pushed lists name item) name []) ≡ (is_in u (get_or start name []) || (nat_eq u item && is_in name (take (i + 1) later)))
at_name start lists item later i name u l e within h =
    let more : is_in name (take (i + 1) later) ≡ (is_in name (take i later) || true) =
    list_any_more (nat_eq name) later i name l ∙ ap (λ b. is_in name (take i later) || b) (eq-eqb name (get_or later i name) e) in
    ap (is_in u) (get_or-set_same lists name (get_or lists name [] ++ item ∷ []) [] within)
    ∙ list_any-append (nat_eq u) (get_or lists name []) (item ∷ [])
    ∙ ap (λ b. b || (nat_eq u item || false)) h
    ∙ twice (is_in u (get_or start name [])) (nat_eq u item) (is_in name (take i later))
    ∙ ap (λ b. is_in u (get_or start name []) || (nat_eq u item && b)) (sym more)

at_other : (start lists : List (List ℕ)) (item : ℕ) (later : List ℕ) (i name u y : ℕ) → i < length later → name ≡ get_or later i name → y ≢ name
    → is_in u (get_or lists y []) ≡ (is_in u (get_or start y []) || (nat_eq u item && is_in y (take i later)))
    → is_in u (get_or (pushed lists name item) y []) ≡ (is_in u (get_or start y []) || (nat_eq u item && is_in y (take (i + 1) later)))
at_other start lists item later i name u y l e n h =
    let apart : nat_eq y (get_or later i name) ≡ false = ne_eqb y (get_or later i name) (λ p. n (p ∙ sym e)) in
    let more : is_in y (take (i + 1) later) ≡ is_in y (take i later) =
    list_any_more (nat_eq y) later i name l ∙ ap (λ b. is_in y (take i later) || b) apart ∙ or_false (is_in y (take i later)) in
    ap (is_in u) (get_or-set_other lists name y (get_or lists name [] ++ item ∷ []) [] n)
    ∙ h
    ∙ ap (λ b. is_in u (get_or start y []) || (nat_eq u item && b)) (sym more)

pub put_step : (start lists : List (List ℕ)) (item : ℕ) (later : List ℕ) (i name : ℕ) → i < length later → name ≡ get_or later i name → length lists ≡ length start
    → PutBefore start lists item (take i later) → PutBefore start (set lists name (get_or lists name [] ++ item ∷ [])) item (take (i + 1) later)
put_step start lists item later i name l e s h u y within = elim (cases_eq y name) [
  | inl p ↦
      let inside : name < length lists = omega arith in
      let P : ℕ → Type 0 = λ z. is_in u (get_or (pushed lists name item) z []) ≡ (is_in u (get_or start z []) || (nat_eq u item && is_in z (take (i + 1) later))) in
      let here : name < length start = omega arith in
      subst P (sym p) (at_name start lists item later i name u l e inside (h u name here))
  | inr n ↦ at_other start lists item later i name u y l e n (h u y within)
]

no_more : (s e : Bool) → s ≡ (s || (e && false))
no_more true e = refl
no_more false true = refl
no_more false false = refl

pub put_none : (start : List (List ℕ)) (item : ℕ) → PutBefore start start item []
put_none start item u y within = no_more (is_in u (get_or start y [])) (nat_eq u item)

-- ---- one item behind the others

or_assoc : (a b c : Bool) → (a || (b || c)) ≡ ((a || b) || c)
or_assoc true b c = refl
or_assoc false b c = refl

last_item : (at : ℕ) (os : List Order) (o : Order) (u y : ℕ)
    → (is_item_before at os u y || (nat_eq u (at + length os) && is_in y o.later)) ≡ is_item_before at (os ++ o ∷ []) u y
last_item at [] o u y =
    let e : at + 0 ≡ at = omega arith in
    ap (λ k. nat_eq u k && is_in y o.later) e ∙ sym (or_false (nat_eq u at && is_in y o.later))
last_item at (p ∷ os) o u y =
    let e : at + length (p ∷ os) ≡ at + 1 + length os = omega arith in
    ap (λ k. (((nat_eq u at && is_in y p.later) || is_item_before (at + 1) os u y) || (nat_eq u k && is_in y o.later))) e
    ∙ sym (or_assoc (nat_eq u at && is_in y p.later) (is_item_before (at + 1) os u y) (nat_eq u (at + 1 + length os) && is_in y o.later))
    ∙ ap (λ b. (nat_eq u at && is_in y p.later) || b) (last_item (at + 1) os o u y)

-- the items before each property
abbrev pub ItemsBefore : ℕ → List (List ℕ) → List Order → Type 0
ItemsBefore names lists os = (u y : ℕ) → y < names → is_in u (get_or lists y []) ≡ is_item_before names os u y

pub item_step : (names i : ℕ) (lists new : List (List ℕ)) (os : List Order) (o : Order) (item : ℕ) → i < length os → o ≡ get_or os i o → item ≡ names + i → length lists ≡ names
    → ItemsBefore names lists (take i os) → PutBefore lists new item o.later → ItemsBefore names new (take (i + 1) os)
item_step names i lists new os o item l e it s h p u y within =
    let inside : y < length lists = omega arith in
    let shorter : length (take i os) ≡ i = length-take-le i os (omega arith) in
    let is : item ≡ names + length (take i os) = omega arith in
    p u y inside
    ∙ ap (λ b. b || (nat_eq u item && is_in y o.later)) (h u y within)
    ∙ ap (λ k. is_item_before names (take i os) u y || (nat_eq u k && is_in y o.later)) is
    ∙ last_item names (take i os) o u y
    ∙ ap (λ (xs : List Order). is_item_before names (take i os ++ xs) u y) (ap (λ (x : Order). x ∷ []) e)
    ∙ ap (λ (xs : List Order). is_item_before names xs u y) (sym (take_more os i o l))

pub none_before : (names : ℕ) (lists : List (List ℕ)) → lists ≡ replicate names [] → ItemsBefore names lists []
none_before names lists e u y within = ap (λ (ls : List (List ℕ)). is_in u (get_or ls y [])) e ∙ ap (is_in u) (get_or-replicate names y [] [] within)

pub none_length : (names : ℕ) (lists : List (List ℕ)) → lists ≡ replicate names [] → length lists ≡ names
none_length names lists e = ap length e ∙ simp length-replicate refl
