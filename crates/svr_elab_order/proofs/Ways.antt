-- What comes before what is what a chain of items leads to.
use Rattle.std.proofs.Common.{◌≡◌, ℕ, Bool, true, ◌&&◌, ◌||◌, nat_eq, List, [], ◌∷◌, ◌++◌, refl, sym, ap, ◌∙◌, subst, inl, inr, ⊎_elim}
use Rattle.std.specs.Prelude.{◌⊎◌}
use Rattle.std.proofs.lemmas.Bool.{or_cases, or_left, or_right, and_parts, and_from, eqb-true, eq-eqb, false≢true}
use Rattle.std.proofs.lemmas.List.Folds.{list_any-append}
use Rattle.svr_elab_order.specs.declared.order.Order.{Order}
use Rattle.svr_elab_order.specs.Order.{is_in, leads_to, follows_from, before_of, first_names, some_before_itself, orders_itself, is_put, Precedes, one, more, ComesByItems, ComesByLoop}

-- ---- names in lists

pub in_cases : (a x : ℕ) (xs : List ℕ) → is_in a (x ∷ xs) ≡ true → (a ≡ x) ⊎ (is_in a xs ≡ true)
in_cases a x xs h = ⊎_elim (λ e. inl (eqb-true a x e)) (λ e. inr e) (or_cases (nat_eq a x) (is_in a xs) h)

pub in_here : (x : ℕ) (xs : List ℕ) → is_in x (x ∷ xs) ≡ true
in_here x xs = or_left (nat_eq x x) (is_in x xs) (eq-eqb x x refl)

pub in_there : (a x : ℕ) (xs : List ℕ) → is_in a xs ≡ true → is_in a (x ∷ xs) ≡ true
in_there a x xs h = or_right (nat_eq a x) (is_in a xs) h

-- ---- names that lead to some, and that follow from some

abbrev LeadsTo : (ℕ → ℕ → Bool) → ℕ → List ℕ → Type 0
LeadsTo before a xs = (x : ℕ) × (is_in x xs ≡ true) × ((a ≡ x) ⊎ (before a x ≡ true))

leads_some : (before : ℕ → ℕ → Bool) (a : ℕ) (xs : List ℕ) → leads_to before a xs ≡ true → LeadsTo before a xs
leads_some before a [] h = absurd (false≢true h)
leads_some before a (x ∷ xs) h = elim (or_cases (nat_eq a x || before a x) (leads_to before a xs) h) [
  | inl e ↦ (x, in_here x xs, ⊎_elim (λ p. inl (eqb-true a x p)) (λ p. inr p) (or_cases (nat_eq a x) (before a x) e))
  | inr e ↦ let w = leads_some before a xs e in (w.0, in_there w.0 x xs w.1, w.2)
]

leads_here : (before : ℕ → ℕ → Bool) (a : ℕ) (xs : List ℕ) → is_in a xs ≡ true → leads_to before a xs ≡ true
leads_here before a [] h = h
leads_here before a (x ∷ xs) h = elim (or_cases (nat_eq a x) (is_in a xs) h) [
  | inl e ↦ or_left (nat_eq a x || before a x) (leads_to before a xs) (or_left (nat_eq a x) (before a x) e)
  | inr e ↦ or_right (nat_eq a x || before a x) (leads_to before a xs) (leads_here before a xs e)
]

leads_on : (before : ℕ → ℕ → Bool) (a x : ℕ) (xs : List ℕ) → is_in x xs ≡ true → before a x ≡ true → leads_to before a xs ≡ true
leads_on before a x [] h b = absurd (false≢true h)
leads_on before a x (z ∷ xs) h b = elim (in_cases x z xs h) [
  | inl e ↦ or_left (nat_eq a z || before a z) (leads_to before a xs) (or_right (nat_eq a z) (before a z) (sym (ap (before a) e) ∙ b))
  | inr e ↦ or_right (nat_eq a z || before a z) (leads_to before a xs) (leads_on before a x xs e b)
]

abbrev FollowsFrom : (ℕ → ℕ → Bool) → List ℕ → ℕ → Type 0
FollowsFrom before ys b = (y : ℕ) × (is_in y ys ≡ true) × ((y ≡ b) ⊎ (before y b ≡ true))

follows_some : (before : ℕ → ℕ → Bool) (ys : List ℕ) (b : ℕ) → follows_from before ys b ≡ true → FollowsFrom before ys b
follows_some before [] b h = absurd (false≢true h)
follows_some before (y ∷ ys) b h = elim (or_cases (nat_eq y b || before y b) (follows_from before ys b) h) [
  | inl e ↦ (y, in_here y ys, ⊎_elim (λ p. inl (eqb-true y b p)) (λ p. inr p) (or_cases (nat_eq y b) (before y b) e))
  | inr e ↦ let w = follows_some before ys b e in (w.0, in_there w.0 y ys w.1, w.2)
]

follows_here : (before : ℕ → ℕ → Bool) (ys : List ℕ) (b : ℕ) → is_in b ys ≡ true → follows_from before ys b ≡ true
follows_here before [] b h = h
follows_here before (y ∷ ys) b h = elim (in_cases b y ys h) [
  | inl e ↦ or_left (nat_eq y b || before y b) (follows_from before ys b) (or_left (nat_eq y b) (before y b) (eq-eqb y b (sym e)))
  | inr e ↦ or_right (nat_eq y b || before y b) (follows_from before ys b) (follows_here before ys b e)
]

follows_on : (before : ℕ → ℕ → Bool) (ys : List ℕ) (y b : ℕ) → is_in y ys ≡ true → before y b ≡ true → follows_from before ys b ≡ true
follows_on before [] y b h p = absurd (false≢true h)
follows_on before (z ∷ ys) y b h p = elim (in_cases y z ys h) [
  | inl e ↦ or_left (nat_eq z b || before z b) (follows_from before ys b) (or_right (nat_eq z b) (before z b) (sym (ap (λ (k : ℕ). before k b) e) ∙ p))
  | inr e ↦ or_right (nat_eq z b || before z b) (follows_from before ys b) (follows_on before ys y b e p)
]

-- ---- what comes before what is transitive

abbrev IsTransitive : (ℕ → ℕ → Bool) → Type 0
IsTransitive before = (a b c : ℕ) → before a b ≡ true → before b c ≡ true → before a c ≡ true

leads_behind : (before : ℕ → ℕ → Bool) (t : IsTransitive before) (a b : ℕ) (xs : List ℕ) → before a b ≡ true → leads_to before b xs ≡ true → leads_to before a xs ≡ true
leads_behind before t a b xs p h =
    let w = leads_some before b xs h in
    elim w.2 [
      | inl e ↦ leads_on before a w.0 xs w.1 (sym (ap (before a) e) ∙ p)
      | inr q ↦ leads_on before a w.0 xs w.1 (t a b w.0 p q)
    ]

follows_behind : (before : ℕ → ℕ → Bool) (t : IsTransitive before) (ys : List ℕ) (b c : ℕ) → follows_from before ys b ≡ true → before b c ≡ true → follows_from before ys c ≡ true
follows_behind before t ys b c h p =
    let w = follows_some before ys b h in
    elim w.2 [
      | inl e ↦ follows_on before ys w.0 c w.1 (ap (λ (k : ℕ). before k c) e ∙ p)
      | inr q ↦ follows_on before ys w.0 c w.1 (t w.0 b c q p)
    ]

-- one item more
abbrev joined : (ℕ → ℕ → Bool) → Order → ℕ → ℕ → Bool
joined before o a b = before a b || (leads_to before a o.first && follows_from before o.later b)

by_item : (before : ℕ → ℕ → Bool) (o : Order) (a b : ℕ) → leads_to before a o.first ≡ true → follows_from before o.later b ≡ true → joined before o a b ≡ true
by_item before o a b h k =
    or_right (before a b) (leads_to before a o.first && follows_from before o.later b) (and_from (leads_to before a o.first) (follows_from before o.later b) h k)

joined_transitive : (before : ℕ → ℕ → Bool) (o : Order) → IsTransitive before → IsTransitive (joined before o)
joined_transitive before o t a b c p q = elim (or_cases (before a b) (leads_to before a o.first && follows_from before o.later b) p) [
  | inl pl ↦ elim (or_cases (before b c) (leads_to before b o.first && follows_from before o.later c) q) [
    | inl ql ↦ or_left (before a c) (leads_to before a o.first && follows_from before o.later c) (t a b c pl ql)
    | inr qr ↦
        let w = and_parts (leads_to before b o.first) (follows_from before o.later c) qr in
        by_item before o a c (leads_behind before t a b o.first pl w.0) w.1
  ]
  | inr pr ↦
      let v = and_parts (leads_to before a o.first) (follows_from before o.later b) pr in
      elim (or_cases (before b c) (leads_to before b o.first && follows_from before o.later c) q) [
        | inl ql ↦ by_item before o a c v.0 (follows_behind before t o.later b c v.1 ql)
        | inr qr ↦
            let w = and_parts (leads_to before b o.first) (follows_from before o.later c) qr in
            by_item before o a c v.0 w.1
      ]
]

pub before_transitive : (os : List Order) → IsTransitive (before_of os)
before_transitive [] a b c p q = absurd (false≢true p)
before_transitive (o ∷ os) a b c p q = joined_transitive (before_of os) o (before_transitive os) a b c p q

-- ---- chains give what comes before what

pub put_before : (os : List Order) (a b : ℕ) → is_put os a b ≡ true → before_of os a b ≡ true
put_before [] a b h = absurd (false≢true h)
put_before (o ∷ os) a b h = elim (or_cases (is_in a o.first && is_in b o.later) (is_put os a b) h) [
  | inl e ↦
      let w = and_parts (is_in a o.first) (is_in b o.later) e in
      by_item (before_of os) o a b (leads_here (before_of os) a o.first w.0) (follows_here (before_of os) o.later b w.1)
  | inr e ↦ or_left (before_of os a b) (leads_to (before_of os) a o.first && follows_from (before_of os) o.later b) (put_before os a b e)
]

pub chain_before : (os : List Order) (a b : ℕ) → Precedes os a b → before_of os a b ≡ true
chain_before os a b (one _ _ p) = put_before os a b p
chain_before os a c (more _ b _ h p) = before_transitive os a b c (chain_before os a b h) (put_before os b c p)

-- ---- and the other way round

longer : (o : Order) (os : List Order) (a b : ℕ) → Precedes os a b → Precedes (o ∷ os) a b
longer o os a b (one _ _ p) = one a b (or_right (is_in a o.first && is_in b o.later) (is_put os a b) p)
longer o os a c (more _ b _ h p) = more a b c (longer o os a b h) (or_right (is_in b o.first && is_in c o.later) (is_put os b c) p)

pub both_chains : (os : List Order) (a b c : ℕ) → Precedes os a b → Precedes os b c → Precedes os a c
both_chains os a b c h (one _ _ p) = more a b c h p
both_chains os a b d h (more _ c _ k p) = more a c d (both_chains os a b c h k) p

-- a chain, or none
abbrev Way : List Order → ℕ → ℕ → Type 0
Way os a b = (a ≡ b) ⊎ Precedes os a b

way_put : (os : List Order) (a x y : ℕ) → Way os a x → is_put os x y ≡ true → Precedes os a y
way_put os a x y (inl e) p = one a y (ap (λ (k : ℕ). is_put os k y) e ∙ p)
way_put os a x y (inr h) p = more a x y h p

chain_way : (os : List Order) (a y b : ℕ) → Precedes os a y → Way os y b → Precedes os a b
chain_way os a y b h (inl e) = subst (Precedes os a) e h
chain_way os a y b h (inr k) = both_chains os a y b h k

pub before_chain : (os : List Order) (a b : ℕ) → before_of os a b ≡ true → Precedes os a b
before_chain [] a b h = absurd (false≢true h)
before_chain (o ∷ os) a b h = elim (or_cases (before_of os a b) (leads_to (before_of os) a o.first && follows_from (before_of os) o.later b) h) [
  | inl e ↦ longer o os a b (before_chain os a b e)
  | inr e ↦
      let p = and_parts (leads_to (before_of os) a o.first) (follows_from (before_of os) o.later b) e in
      let w = leads_some (before_of os) a o.first p.0 in
      let v = follows_some (before_of os) o.later b p.1 in
      let put : is_put (o ∷ os) w.0 v.0 ≡ true = or_left (is_in w.0 o.first && is_in v.0 o.later) (is_put os w.0 v.0) (and_from (is_in w.0 o.first) (is_in v.0 o.later) w.1 v.1) in
      let to : Way (o ∷ os) a w.0 = ⊎_elim (λ q. inl q) (λ q. inr (longer o os a w.0 (before_chain os a w.0 q))) w.2 in
      let on : Way (o ∷ os) v.0 b = ⊎_elim (λ q. inl q) (λ q. inr (longer o os v.0 b (before_chain os v.0 b q))) v.2 in
      chain_way (o ∷ os) a v.0 b (way_put (o ∷ os) a w.0 v.0 to put) on
]

pub by_chains : ComesByItems
by_chains os a b = (before_chain os a b, chain_before os a b)

-- ---- a property before itself

some_itself : (before : ℕ → ℕ → Bool) (xs : List ℕ) → some_before_itself before xs ≡ true → (x : ℕ) × (before x x ≡ true)
some_itself before [] h = absurd (false≢true h)
some_itself before (x ∷ xs) h = elim (or_cases (before x x) (some_before_itself before xs) h) [ inl e ↦ (x, e) | inr e ↦ some_itself before xs e ]

itself_some : (before : ℕ → ℕ → Bool) (xs : List ℕ) (x : ℕ) → is_in x xs ≡ true → before x x ≡ true → some_before_itself before xs ≡ true
itself_some before [] x h p = absurd (false≢true h)
itself_some before (z ∷ xs) x h p = elim (in_cases x z xs h) [
  | inl e ↦ or_left (before z z) (some_before_itself before xs) (sym (ap (λ (k : ℕ). before k k) e) ∙ p)
  | inr e ↦ or_right (before z z) (some_before_itself before xs) (itself_some before xs x e p)
]

in_append_left : (a : ℕ) (xs ys : List ℕ) → is_in a xs ≡ true → is_in a (xs ++ ys) ≡ true
in_append_left a xs ys h = list_any-append (nat_eq a) xs ys ∙ or_left (is_in a xs) (is_in a ys) h

in_append_right : (a : ℕ) (xs ys : List ℕ) → is_in a ys ≡ true → is_in a (xs ++ ys) ≡ true
in_append_right a xs ys h = list_any-append (nat_eq a) xs ys ∙ or_right (is_in a xs) (is_in a ys) h

put_first : (os : List Order) (a b : ℕ) → is_put os a b ≡ true → is_in a (first_names os) ≡ true
put_first [] a b h = absurd (false≢true h)
put_first (o ∷ os) a b h = elim (or_cases (is_in a o.first && is_in b o.later) (is_put os a b) h) [
  | inl e ↦ in_append_left a o.first (first_names os) (and_parts (is_in a o.first) (is_in b o.later) e).0
  | inr e ↦ in_append_right a o.first (first_names os) (put_first os a b e)
]

chain_first : (os : List Order) (a b : ℕ) → Precedes os a b → is_in a (first_names os) ≡ true
chain_first os a b (one _ _ p) = put_first os a b p
chain_first os a c (more _ b _ h p) = chain_first os a b h

pub loop_itself : (os : List Order) (a : ℕ) → Precedes os a a → orders_itself os ≡ true
loop_itself os a h = itself_some (before_of os) (first_names os) a (chain_first os a a h) (chain_before os a a h)

pub itself_loop : (os : List Order) → orders_itself os ≡ true → (a : ℕ) × Precedes os a a
itself_loop os h = let w = some_itself (before_of os) (first_names os) h in (w.0, before_chain os w.0 w.0 w.1)

pub by_loop : ComesByLoop
by_loop os = (itself_loop os, λ w. loop_itself os w.0 w.1)
