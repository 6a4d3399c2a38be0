-- The tables of a trail as it grows and shrinks
use Rattle.std.proofs.Common.{◌≡◌, ℕ, suc, zero, ◌+◌, ◌-◌, ◌<◌, ◌≤◌, Bool, false, nat_eq, List, [], ◌∷◌, ◌++◌, length, refl, ap, sym, ◌∙◌, subst, arith, Option, Some, None, get_or, take, set, inl, inr, cond}
use Rattle.std.proofs.lemmas.Bool.{cond-true, cond-false, eq-eqb, eqb-true, ne_eqb, cases_Bool, cases_eq, cases_lt}
use Rattle.std.proofs.lemmas.List.{get_or-set_same, get_or-set_other, length_push, take-append-le, get_or_append_left, take_at, take_all, take_more, get_or_at, length-set}
use Rattle.std.proofs.lemmas.List.Sums.{sum_by-set}
use Rattle.std.proofs.Common.{◌≢◌}
use Rattle.std.specs.Prelude.{is_none, count_by}
use Rattle.std.specs.Option.{option_map}
use Rattle.svr_chain.specs.declared.clause.Lit.{Lit}
use Rattle.svr_chain.specs.Clauses.{same_sign, IsWithin}
use Rattle.svr_trail.specs.declared.Entry.{Entry}
use Rattle.svr_trail.specs.Trail.{sign_at, value_in, Each, WasOpen}
use Rattle.svr_trail.specs.Table.{ArePlaces, IsTable, IsTrail}
use Rattle.svr_trail.specs.declared.Trail.TheInside.{Inside}
use Rattle.svr_trail.proofs.Trails.{or_else, sign_at-of_take, sign_at-open, sign_at-push, sign_at-push_same, sign_at-take}

pub sign_at-push_other : (es : List Entry) (e : Entry) (v : ℕ) → (e.lit.var ≡ v → ⊥) → sign_at (es ++ e ∷ []) v ≡ sign_at es v
sign_at-push_other es e v h = sign_at-push es e v ∙ ap (λ y. or_else (sign_at es v) y) (cond-false _ _ _ (ne_eqb e.lit.var v h)) ∙ or_else-none (sign_at es v)
  where
    or_else-none : (a : Option Bool) → or_else a None ≡ a
    or_else-none None = refl
    or_else-none (Some a) = refl

same-put : (signs : List (Option Bool)) (es : List Entry) (e : Entry) → IsTable signs es → IsWithin (length signs) e.lit → sign_at es e.lit.var ≡ None
    → (v : ℕ) → v < length signs → get_or (set signs (e.lit.var - 1) (Some e.lit.neg)) v None ≡ sign_at (es ++ e ∷ []) (v + 1)
same-put signs es e t w o v h =
    elim (cases_eq (v + 1) e.lit.var) [
      | inl q ↦
          let i : e.lit.var - 1 ≡ v = omega arith in
          ap (λ k. get_or (set signs k (Some e.lit.neg)) v None) i
          ∙ get_or-set_same signs v (Some e.lit.neg) None h
          ∙ sym (sign_at-push_same es e (v + 1) (ap (sign_at es) q ∙ o) (sym q))
      | inr q ↦
          let n : v ≢ e.lit.var - 1 = omega arith in
          get_or-set_other signs (e.lit.var - 1) v (Some e.lit.neg) None n
          ∙ t.same v h
          ∙ sym (sign_at-push_other es e (v + 1) (λ z. q (sym z)))
    ]

apart-put : (es : List Entry) (e : Entry) → ((i : ℕ) (d : Entry) → i < length es → sign_at (take i es) (get_or es i d).lit.var ≡ None) → sign_at es e.lit.var ≡ None
    → (i : ℕ) (d : Entry) → i < length (es ++ e ∷ []) → sign_at (take i (es ++ e ∷ [])) (get_or (es ++ e ∷ []) i d).lit.var ≡ None
apart-put es e a o i d h =
    let l = length_push es e in
    elim (cases_lt i (length es)) [
      | inl q ↦
          let t : take i (es ++ e ∷ []) ≡ take i es = take-append-le i es (e ∷ []) (omega arith) in
          let g : get_or (es ++ e ∷ []) i d ≡ get_or es i d = get_or_append_left es (e ∷ []) d i q in
          rw (t, g) (a i d q)
      | inr q ↦
          let n : length es ≡ i = omega arith in
          let t : take i (es ++ e ∷ []) ≡ es = take_at es (e ∷ []) i n in
          let g : get_or (es ++ e ∷ []) i d ≡ e = get_or_at es e [] d i n in
          rw (t, g) o
    ]

within-put : (n : ℕ) (es : List Entry) (e : Entry) → ((i : ℕ) (d : Entry) → i < length es → IsWithin n (get_or es i d).lit) → IsWithin n e.lit
    → (i : ℕ) (d : Entry) → i < length (es ++ e ∷ []) → IsWithin n (get_or (es ++ e ∷ []) i d).lit
within-put n es e a o i d h =
    let l = length_push es e in
    elim (cases_lt i (length es)) [
      | inl q ↦ let g : get_or (es ++ e ∷ []) i d ≡ get_or es i d = get_or_append_left es (e ∷ []) d i q in rw g (a i d q)
      | inr q ↦ let n : length es ≡ i = omega arith in let g : get_or (es ++ e ∷ []) i d ≡ e = get_or_at es e [] d i n in rw g o
    ]

pub table-put : (signs : List (Option Bool)) (es : List Entry) (e : Entry) → IsTable signs es → IsWithin (length signs) e.lit → sign_at es e.lit.var ≡ None
    → IsTable (set signs (e.lit.var - 1) (Some e.lit.neg)) (es ++ e ∷ [])
table-put signs es e t w o =
    let l : length (set signs (e.lit.var - 1) (Some e.lit.neg)) ≡ length signs = length-set signs (e.lit.var - 1) (Some e.lit.neg) in
    let k : e.lit.var - 1 < length signs = omega arith in
    let was : get_or signs (e.lit.var - 1) None ≡ None = t.same (e.lit.var - 1) k ∙ ap (sign_at es) (let z : e.lit.var - 1 + 1 ≡ e.lit.var = omega arith in z) ∙ o in
    let n : count_by is_none (set signs (e.lit.var - 1) (Some e.lit.neg)) + cond (is_none (get_or signs (e.lit.var - 1) None)) 1 0 ≡ count_by is_none signs + 0
    = sum_by-set (λ x. cond (is_none x) 1 0) signs (e.lit.var - 1) (Some e.lit.neg) None k in
    let one : cond {A = ℕ} (is_none (get_or signs (e.lit.var - 1) None)) 1 0 ≡ 1 = ap (λ x. cond (is_none x) 1 0) was in
    record {
      same = λ v h. same-put signs es e t w o v (omega arith);
      apart = apart-put es e t.apart o;
      within = rw l (within-put (length signs) es e t.within w);
      counted = omega (arith, length_push es e, t.counted);
    }

-- without its last entry
pub table-pop : (signs : List (Option Bool)) (es : List Entry) (e : Entry) → IsTable signs (es ++ e ∷ []) → IsTable (set signs (e.lit.var - 1) None) es
table-pop signs es e t =
    let len : length (es ++ e ∷ []) ≡ length es + 1 = length_push es e in
    let last : get_or (es ++ e ∷ []) (length es) e ≡ e = get_or_at es e [] e (length es) refl in
    let w : IsWithin (length signs) e.lit = rw last at (t.within (length es) e (omega arith)) in
    let front : take (length es) (es ++ e ∷ []) ≡ es = take_at es (e ∷ []) (length es) refl in
    let o : sign_at es e.lit.var ≡ None = rw (last, front) at (t.apart (length es) e (omega arith)) in
    let l : length (set signs (e.lit.var - 1) None) ≡ length signs = length-set signs (e.lit.var - 1) None in
    let k : e.lit.var - 1 < length signs = omega arith in
    let back : e.lit.var - 1 + 1 ≡ e.lit.var = omega arith in
    let was : get_or signs (e.lit.var - 1) None ≡ Some e.lit.neg = t.same (e.lit.var - 1) k ∙ (ap (sign_at (es ++ e ∷ [])) back ∙ sign_at-push_same es e e.lit.var o refl) in
    let n : count_by is_none (set signs (e.lit.var - 1) None) + cond (is_none (get_or signs (e.lit.var - 1) None)) 1 0 ≡ count_by is_none signs + 1
    = sum_by-set (λ x. cond (is_none x) 1 0) signs (e.lit.var - 1) None None k in
    let none : cond {A = ℕ} (is_none (get_or signs (e.lit.var - 1) None)) 1 0 ≡ 0 = ap (λ x. cond (is_none x) 1 0) was in
    let at : (i : ℕ) (d : Entry) → i < length es → get_or (es ++ e ∷ []) i d ≡ get_or es i d = λ i d h. get_or_append_left es (e ∷ []) d i h in
    record {
      same = λ v h. elim (cases_eq (v + 1) e.lit.var) [
        | inl q ↦
            let i : e.lit.var - 1 ≡ v = omega arith in
            let r : v < length signs = omega arith in
            ap (λ z. get_or (set signs z None) v None) i ∙ (get_or-set_same signs v None None r ∙ sym (ap (sign_at es) q ∙ o))
        | inr q ↦
            let i : v ≢ e.lit.var - 1 = omega arith in
            get_or-set_other signs (e.lit.var - 1) v None None i ∙ (t.same v (omega arith) ∙ sign_at-push_other es e (v + 1) (λ z. q (sym z)))
      ];
      apart = λ i d h. rw (at i d h, take-append-le i es (e ∷ []) (omega arith)) at (t.apart i d (omega arith));
      within = λ i d h. let z : IsWithin (length signs) (get_or es i d).lit = rw (at i d h) at (t.within i d (omega arith)) in rw l z;
      counted = omega (arith, t.counted);
    }

pub sign_at-take_none : (es : List Entry) (j k v : ℕ) → j ≤ k → sign_at (take k es) v ≡ None → sign_at (take j es) v ≡ None
sign_at-take_none es j k v o h = goes (sign_at (take j es) v) refl
  where
    goes : (s : Option Bool) → sign_at (take j es) v ≡ s → s ≡ None
    goes None e = refl
    goes (Some b) e = let f = sign_at-take es j k v b o e in cc

-- the places as one more entry is set
pub places-put : (places : List ℕ) (es : List Entry) (e : Entry) → ArePlaces places es → Each WasOpen es → Each (λ _ d. IsWithin (length places) d.lit) es
    → IsWithin (length places) e.lit → sign_at es e.lit.var ≡ None → ArePlaces (set places (e.lit.var - 1) (length es)) (es ++ e ∷ [])
places-put places es e p a w i o k d h =
    let l = length_push es e in
    elim (cases_lt k (length es)) [
      | inl q ↦
          let g : get_or (es ++ e ∷ []) k d ≡ get_or es k d = get_or_append_left es (e ∷ []) d k q in
          let v : IsWithin (length places) (get_or es k d).lit = w k d q in
          let n : (get_or es k d).lit.var - 1 ≢ e.lit.var - 1
          = λ z. absurd (not_there es k d e.lit.var q (omega arith) o) in
          ap (λ z. get_or (set places (e.lit.var - 1) (length es)) (z.lit.var - 1) 0) g
          ∙ (get_or-set_other places (e.lit.var - 1) ((get_or es k d).lit.var - 1) (length es) 0 n ∙ p k d q)
      | inr q ↦
          let n : length es ≡ k = omega arith in
          let g : get_or (es ++ e ∷ []) k d ≡ e = get_or_at es e [] d k n in
          let r : e.lit.var - 1 < length places = omega arith in
          ap (λ z. get_or (set places (e.lit.var - 1) (length es)) (z.lit.var - 1) 0) g ∙ (get_or-set_same places (e.lit.var - 1) (length es) 0 r ∙ n)
    ]
  where
    not_there : (es : List Entry) (k : ℕ) (d : Entry) (v : ℕ) → k < length es → (get_or es k d).lit.var ≡ v → sign_at es v ≡ None → ⊥
    not_there [] k d v h q n = omega arith
    not_there (f ∷ es) zero d v h q n = let t : Some f.lit.neg ≡ None = sym (cond-true _ _ _ (eq-eqb f.lit.var v q)) ∙ n in cc
    not_there (f ∷ es) (suc k) d v h q n =
        elim (cases_Bool (nat_eq f.lit.var v)) [
          | inl t ↦ let u : Some f.lit.neg ≡ None = sym (cond-true _ _ _ t) ∙ n in cc
          | inr t ↦ not_there es k d v (omega arith) q (sym (cond-false _ _ _ t) ∙ n)
        ]

pub places-front : (places : List ℕ) (es : List Entry) (e : Entry) → ArePlaces places (es ++ e ∷ []) → ArePlaces places es
places-front places es e p k d h =
    let l = length_push es e in
    let g : get_or (es ++ e ∷ []) k d ≡ get_or es k d = get_or_append_left es (e ∷ []) d k h in
    ap (λ z. get_or places (z.lit.var - 1) 0) (sym g) ∙ p k d (omega arith)

-- what is open is open before each place
pub value-open_before : (es : List Entry) (j : ℕ) (l : Lit) → value_in es l ≡ None → value_in (take j es) l ≡ None
value-open_before es j l h = ap (option_map (λ n. same_sign n l.neg)) (goes (sign_at (take j es) l.var) refl)
  where
    goes : (s : Option Bool) → sign_at (take j es) l.var ≡ s → s ≡ None
    goes None e = refl
    goes (Some b) e = let f : sign_at es l.var ≡ Some b = sign_at-of_take es j l.var b e in let n : sign_at es l.var ≡ None = sign_at-open es l h in cc

-- what has a value was set
pub set-from_value : (es : List Entry) (l : Lit) (v : Bool) → value_in es l ≡ Some v → (b : Bool) × (sign_at es l.var ≡ Some b)
set-from_value es l v h = goes (sign_at es l.var) refl h
  where
    goes : (s : Option Bool) → sign_at es l.var ≡ s → option_map (λ n. same_sign n l.neg) s ≡ Some v → (b : Bool) × (sign_at es l.var ≡ Some b)
    goes None e f = absurd (let z : None ≡ Some v = f in cc)
    goes (Some b) e f = (b, e)

-- where a variable that is set stands
pub set-at : (es : List Entry) (v : ℕ) (b : Bool) → sign_at es v ≡ Some b → (i : ℕ) × (i < length es) × ((d : Entry) → (get_or es i d).lit.var ≡ v)
set-at [] v b h = absurd (let z : None ≡ Some b = h in cc)
set-at (e ∷ es) v b h =
    elim (cases_Bool (nat_eq e.lit.var v)) [
      | inl t ↦ (zero, omega arith, λ d. eqb-true e.lit.var v t)
      | inr t ↦ let r = set-at es v b (sym (cond-false _ _ _ t) ∙ h) in (suc r.0, (let z : r.0 < length es = r.1 in omega arith), r.2)
    ]

-- a variable outside 1 to n is open
pub sign_at-outside : (n : ℕ) (es : List Entry) (v : ℕ) → Each (λ _ d. IsWithin n d.lit) es → ((0 < v) × (v ≤ n) → ⊥) → sign_at es v ≡ None
sign_at-outside n es v w o = goes (sign_at es v) refl
  where
    goes : (s : Option Bool) → sign_at es v ≡ s → s ≡ None
    goes None e = refl
    goes (Some b) e =
        let r = set-at es v b e in
        let d : Entry = record { lit = record { var = 0; neg = false }; reason = None } in
        absurd (o (subst (λ z. (0 < z) × (z ≤ n)) (r.2 d) (w r.0 d r.1)))

-- what the entries before a place say of a variable that is set
pub sign_before : (places : List ℕ) (es : List Entry) (place v : ℕ) (b : Bool) → ArePlaces places es → Each WasOpen es → sign_at es v ≡ Some b
    → (get_or places (v - 1) 0 < place → sign_at (take place es) v ≡ Some b) × (place ≤ get_or places (v - 1) 0 → sign_at (take place es) v ≡ None)
sign_before places es place v b p a h = (before, after)
  where
    d : Entry
    d = record { lit = record { var = 0; neg = false }; reason = None }

    i : ℕ
    i = (set-at es v b h).0

    within : i < length es
    within = (set-at es v b h).1

    at : get_or places (v - 1) 0 ≡ i
    at = ap (λ z. get_or places (z - 1) 0) (sym ((set-at es v b h).2 d)) ∙ p i d within

    none : sign_at (take i es) v ≡ None
    none = ap (sign_at (take i es)) (sym ((set-at es v b h).2 d)) ∙ a i d within

    more : take (i + 1) es ≡ take i es ++ get_or es i d ∷ []
    more = take_more es i d within

    some : sign_at (take (i + 1) es) v ≡ Some (get_or es i d).lit.neg
    some = ap (λ z. sign_at z v) more ∙ sign_at-push_same (take i es) (get_or es i d) v none ((set-at es v b h).2 d)

    all : take (length es) es ≡ es
    all = take_all (length es) es (omega arith)

    same : Some (get_or es i d).lit.neg ≡ Some b
    same = sym (sign_at-take es (i + 1) (length es) v (get_or es i d).lit.neg (omega (arith, within)) some) ∙ (ap (λ z. sign_at z v) all ∙ h)

    before : get_or places (v - 1) 0 < place → sign_at (take place es) v ≡ Some b
    before q = sign_at-take es (i + 1) place v b (omega (arith, at)) (some ∙ same)

    after : place ≤ get_or places (v - 1) 0 → sign_at (take place es) v ≡ None
    after q = sign_at-take_none es place i v (omega (arith, at)) none

-- the value of a literal before a place
pub value_before : (places : List ℕ) (es : List Entry) (place : ℕ) (l : Lit) (v : Bool) → ArePlaces places es → Each WasOpen es → value_in es l ≡ Some v
    → (get_or places (l.var - 1) 0 < place → value_in (take place es) l ≡ Some v) × (place ≤ get_or places (l.var - 1) 0 → value_in (take place es) l ≡ None)
value_before places es place l v p a h =
    let s = set-from_value es l v h in
    let q = sign_before places es place l.var s.0 p a s.1 in
    (λ k. ap (option_map (λ n. same_sign n l.neg)) (q.0 k ∙ sym s.1) ∙ h, λ k. ap (option_map (λ n. same_sign n l.neg)) (q.1 k))

-- what has a value names a variable of the trail
pub within-from_value : (n : ℕ) (es : List Entry) (l : Lit) (v : Bool) → Each (λ _ d. IsWithin n d.lit) es → value_in es l ≡ Some v → IsWithin n l
within-from_value n es l v w h =
    let s = set-from_value es l v h in
    let r = set-at es l.var s.0 s.1 in
    let d : Entry = record { lit = l; reason = None } in
    subst (λ z. (0 < z) × (z ≤ n)) (r.2 d) (w r.0 d r.1)

-- what undoing keeps
pub record UndoKeeps (a b : Inside) (keep : ℕ) : Type 0 where
  pub kept : IsTrail b
  pub within : keep ≤ length b.entries.items
  pub same : take keep b.entries.items ≡ take keep a.entries.items
  pub signs : length b.signs.items ≡ length a.signs.items
