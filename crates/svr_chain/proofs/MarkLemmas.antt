-- Marks as literals come and go
use Rattle.std.proofs.Common.{◌≡◌, ℕ, suc, zero, ◌+◌, ◌-◌, ◌<◌, ◌≤◌, ◌/◌, ◌%◌, Bool, true, false, ◌&&◌, ◌||◌, not, cond, nat_lt, List, [], ◌∷◌, ◌++◌, length, get_or, set, take, refl, ap, sym, ◌∙◌, subst, arith, Option, Some, None, inl, inr, ◌⊎◌}
use Rattle.std.specs.Prelude.{IfSome, IfNone, is_some}
use Rattle.std.specs.List.{list_any, position, position_or_len, slice_get}
use Rattle.std.proofs.Math.Nat.{mod-eq_of_lt}
use Rattle.std.proofs.lemmas.Bool.{and_parts, and_from, both_ways, cases_Bool, cases_eq, cases_lt, cond-true, cond-false, false≢true, not-true, not-false, lt-ltb, ltb-true, ltb-false, le-ltb, or_cases}
use Rattle.std.proofs.lemmas.List.{get_or_append_left, get_or_at, get_or_default, get_or-set_same, get_or-set_other, length_push, length-set, take_all, take_more}
use Rattle.std.proofs.lemmas.List.Folds.{list_any-append}
use Rattle.std.proofs.lemmas.List.Quantifiers.{position-Some}
use Rattle.std.proofs.lemmas.Option.{same_Some}
use Rattle.svr_chain.specs.declared.clause.Lit.{Lit}
use Rattle.svr_chain.specs.Clauses.{same_lit, flip, has, resolvent}
use Rattle.svr_chain.specs.Lists.{list_number}
use Rattle.svr_chain.specs.Marks.{noted, AreMarked, IsNoted, IsSwapped, is_same}
use Rattle.svr_chain.specs.Same.{SameLits}
use Rattle.svr_chain.proofs.ListsLemmas.{number-within}
use Rattle.svr_chain.proofs.Same.{has-at, has-resolvent, iff_eq, lit-self}
use Rattle.svr_chain.proofs.Sound.{same_lit-true}

-- ---- where a literal stands

pub index-of : (c : List Lit) (x : Lit) → has c x ≡ true → (i : ℕ) × (i < length c) × ((d : Lit) → get_or c i d ≡ x)
index-of [] x h = absurd (false≢true h)
index-of (y ∷ c) x h =
    elim (or_cases (same_lit y x) (has c x) h) [
      | inl e ↦ (zero, omega arith, λ d. same_lit-true y x e)
      | inr e ↦ let r = index-of c x e in let b : r.0 < length c = r.1 in (suc r.0, omega arith, r.2)
    ]

pub has-index : (c : List Lit) (i : ℕ) (d x : Lit) → i < length c → get_or c i d ≡ x → has c x ≡ true
has-index c i d x h e = subst (λ z. has c z ≡ true) e (has-at c i d h)

same-at : (c : List Lit) (i : ℕ) (d l : Lit) → i < length c → get_or c i d ≡ l → is_same l (slice_get c i) ≡ true
same-at [] i d l h e = absurd (omega arith)
same-at (x ∷ c) zero d l h e = ap (λ z. same_lit z l) e ∙ lit-self l
same-at (x ∷ c) (suc i) d l h e = same-at c i d l (omega arith) e

pub at-same : (c : List Lit) (i : ℕ) (d l : Lit) → is_same l (slice_get c i) ≡ true → (i < length c) × (get_or c i d ≡ l)
at-same [] i d l h = absurd (false≢true h)
at-same (x ∷ c) zero d l h = (omega arith, same_lit-true x l h)
at-same (x ∷ c) (suc i) d l h = let r = at-same c i d l h in let b : i < length c = r.0 in (omega arith, r.1)

-- a literal that does not stand where the table says is not there
pub absent : (ps : List ℕ) (c : List Lit) (l : Lit) (p : ℕ) → AreMarked ps c → Some p ≡ noted ps l → is_same l (slice_get c p) ≡ false → has c l ≡ false
absent ps c l p m e f =
    elim (cases_Bool (has c l)) [
      | inl h ↦
          let r = index-of c l h in
          let i : ℕ = r.0 in
          let at : get_or c i l ≡ l = r.2 l in
          let q : p ≡ i = m.placed i l r.1 p (ap (noted ps) at ∙ sym e) in
          absurd (both_ways (is_same l (slice_get c p)) f (ap (λ z. is_same l (slice_get c z)) q ∙ same-at c i l l r.1 at))
      | inr h ↦ h
    ]

pub held-some : (c : List Lit) (l : Lit) (r : Option ℕ) → IfSome r (λ i. (i < length c) × (get_or c i l ≡ l)) → IfNone r (has c l ≡ false) → is_some r ≡ has c l
held-some c l None s n = sym n
held-some c l (Some i) s n = sym (has-index c i l l s.0 s.1)

-- ---- the first place by a walk

walk-none : (p : Lit → Bool) (c : List Lit) → nat_lt (position_or_len p c) (length c) ≡ false → list_any p c ≡ false
walk-none p [] h = refl
walk-none p (x ∷ c) h = goes (p x) h (walk-none p c)
  where
    goes : (b : Bool) → nat_lt (cond (not b) (1 + position_or_len p c) 0) (suc (length c)) ≡ false
        → (nat_lt (position_or_len p c) (length c) ≡ false → list_any p c ≡ false) → (b || list_any p c) ≡ false
    goes true k f = absurd (let z : suc (length c) ≤ 0 = ltb-false 0 (suc (length c)) k in omega arith)
    goes false k f =
        let z : suc (length c) ≤ 1 + position_or_len p c = ltb-false (1 + position_or_len p c) (suc (length c)) k in
        f (le-ltb (position_or_len p c) (length c) (omega arith))

module _ (c : List Lit) (l : Lit) where
  pub walked-some : (r : Option ℕ) → r ≡ position (λ x. same_lit x l) c → IfSome r (λ i. (i < length c) × (get_or c i l ≡ l))
  walked-some None e = tt
  walked-some (Some i) e = let w = position-Some (λ x. same_lit x l) c i l (sym e) in (w.0, same_lit-true (get_or c i l) l w.1)

  pub walked-none : (r : Option ℕ) → r ≡ position (λ x. same_lit x l) c → IfNone r (has c l ≡ false)
  walked-none (Some i) e = tt
  walked-none None e =
      elim (cases_Bool (nat_lt (position_or_len (λ x. same_lit x l) c) (length c))) [
        | inl t ↦
            let n : ℕ = position_or_len (λ x. same_lit x l) c in
            absurd (let z : None ≡ Some n = e ∙ cond-true (nat_lt n (length c)) (Some n) None t in cc)
        | inr t ↦ walk-none (λ x. same_lit x l) c t
      ]

-- ---- what the table says

same-number : (n : ℕ) (a b : Lit) → a.var < n / 2 → b.var < n / 2 → list_number n a ≡ list_number n b → a ≡ b
same-number n a b v w e =
    let p : a.var % n ≡ a.var = mod-eq_of_lt (let z : a.var < n = omega arith in z) in
    let q : b.var % n ≡ b.var = mod-eq_of_lt (let z : b.var < n = omega arith in z) in
    goes a.var b.var a.neg b.neg v w
    (ap (λ z. cond a.neg (n - 1 - z) z) (sym p) ∙ (e ∙ ap (λ z. cond b.neg (n - 1 - z) z) q))
  where
    one : (v w : ℕ) (s : Bool) → v ≡ w → ◌≡◌ {A = Lit} (record { var = v; neg = s }) (record { var = w; neg = s })
    one v w s e = ap (λ z. record { var = z; neg = s }) e

    goes : (v w : ℕ) (s t : Bool) → v < n / 2 → w < n / 2 → cond s (n - 1 - v) v ≡ cond t (n - 1 - w) w
        → ◌≡◌ {A = Lit} (record { var = v; neg = s }) (record { var = w; neg = t })
    goes v w true true g h k = one v w true (let z : n - 1 - v ≡ n - 1 - w = k in omega arith)
    goes v w true false g h k = absurd (let z : n - 1 - v ≡ w = k in omega arith)
    goes v w false true g h k = absurd (let z : v ≡ n - 1 - w = k in omega arith)
    goes v w false false g h k = one v w false k

-- what a table of n places says
abbrev told : ℕ → List ℕ → Lit → Option ℕ
told n ps l = cond (nat_lt l.var (n / 2)) (Some (get_or ps (list_number n l) 0)) None

module _ (ps : List ℕ) (l : Lit) (p : ℕ) where
  abbrev there : ℕ
  there = list_number (length ps) l

  set-told : (x : Lit) → noted (set ps there p) x ≡ told (length ps) (set ps there p) x
  set-told x = ap (λ n. told n (set ps there p) x) (length-set ps there p)

  pub noted-set : l.var < length ps / 2 → IsNoted ps (set ps there p) l p
  noted-set h =
      let k : there < length ps = number-within (length ps) l (omega arith) in record {
        here = λ q e.
            let a : told (length ps) (set ps there p) l ≡ Some p =
            cond-true (nat_lt l.var (length ps / 2)) (Some (get_or (set ps there p) there 0)) None (lt-ltb l.var (length ps / 2) h)
            ∙ ap (λ z. Some z) (get_or-set_same ps there p 0 k) in
            sym (same_Some p q (sym a ∙ (sym (set-told l) ∙ e)));
        others = λ x n. set-told x ∙ other x n (cases_Bool (nat_lt x.var (length ps / 2)));
      }
    where
      other : (x : Lit) → (x ≡ l → ⊥) → (nat_lt x.var (length ps / 2) ≡ true) ⊎ (nat_lt x.var (length ps / 2) ≡ false) → told (length ps) (set ps there p) x ≡ noted ps x
      other x n (inl t) =
          ap (λ z. cond (nat_lt x.var (length ps / 2)) (Some z) None)
          (get_or-set_other ps there (list_number (length ps) x) p 0 (λ e. n (same-number (length ps) x l (ltb-true x.var (length ps / 2) t) h e)))
      other x n (inr t) =
          cond-false (nat_lt x.var (length ps / 2)) (Some (get_or (set ps there p) (list_number (length ps) x) 0)) None t
          ∙ sym (cond-false (nat_lt x.var (length ps / 2)) (Some (get_or ps (list_number (length ps) x) 0)) None t)

  -- a literal that has no place in the table
  pub noted-past : length ps / 2 ≤ l.var → IsNoted ps ps l p
  noted-past h = record {
    here = λ q e.
        absurd (let z : None ≡ Some q = sym (cond-false (nat_lt l.var (length ps / 2)) (Some (get_or ps there 0)) None (le-ltb l.var (length ps / 2) h)) ∙ e in cc);
    others = λ x n. refl;
  }

-- ---- one more literal

pub marked-none : (ps : List ℕ) → AreMarked ps []
marked-none ps = record { placed = λ i d h p e. absurd (omega arith); once = λ i j d h k e. absurd (omega arith) }

module _ (ps new : List ℕ) (c : List Lit) (l : Lit) (m : AreMarked ps c) (f : has c l ≡ false) (n : IsNoted ps new l (length c)) where
  not-there : (i : ℕ) (d : Lit) → i < length c → get_or c i d ≡ l → ⊥
  not-there i d h e = both_ways (has c l) f (has-index c i d l h e)

  front : (i : ℕ) (d : Lit) → i < length c → get_or (c ++ l ∷ []) i d ≡ get_or c i d
  front i d h = get_or_append_left c (l ∷ []) d i h

  last : (i : ℕ) (d : Lit) → length c ≡ i → get_or (c ++ l ∷ []) i d ≡ l
  last i d h = get_or_at c l [] d i h

  pub marked-put : AreMarked new (c ++ l ∷ [])
  marked-put = record {
    placed = λ i d h p e.
        let len = length_push c l in
        elim (cases_lt i (length c)) [
          | inl q ↦
              let g : get_or c i d ≡ l → ⊥ = not-there i d q in
              m.placed i d q p (sym (n.others (get_or c i d) g) ∙ (ap (noted new) (sym (front i d q)) ∙ e))
          | inr q ↦
              let k : length c ≡ i = omega (arith, len, q, h) in
              n.here p (ap (noted new) (sym (last i d k)) ∙ e) ∙ k
        ];
    once = λ i j d h k e.
        let len = length_push c l in
        elim (cases_lt i (length c)) [
          | inl q ↦ elim (cases_lt j (length c)) [
            | inl r ↦ m.once i j d q r (sym (front i d q) ∙ (e ∙ front j d r))
            | inr r ↦ absurd (not-there i d q (sym (front i d q) ∙ (e ∙ last j d (omega (arith, len, r, k)))))
          ]
          | inr q ↦ elim (cases_lt j (length c)) [
            | inl r ↦ absurd (not-there j d r (sym (front j d r) ∙ (sym e ∙ last i d (omega (arith, len, q, h)))))
            | inr r ↦ omega (arith, len, q, h, r, k)
          ]
        ];
  }

or_none : (a b : Bool) → (a || (b || false)) ≡ (a || b)
or_none true b = refl
or_none false true = refl
or_none false false = refl

pub has-put : (c : List Lit) (l x : Lit) → has (c ++ l ∷ []) x ≡ (has c x || same_lit l x)
has-put c l x = list_any-append (λ z. same_lit z x) c (l ∷ []) ∙ or_none (has c x) (same_lit l x)

-- a literal that is there already
pub has-again : (c : List Lit) (l x : Lit) → has c l ≡ true → has c x ≡ (has c x || same_lit l x)
has-again c l x h = goes (has c x) (same_lit l x) (λ e. ap (has c) (sym (same_lit-true l x e)) ∙ h)
  where
    goes : (a b : Bool) → (b ≡ true → a ≡ true) → a ≡ (a || b)
    goes true b f = refl
    goes false true f = f refl
    goes false false f = refl

-- a literal that is not there
pub has-without_none : (c : List Lit) (l x : Lit) → has c l ≡ false → has c x ≡ (has c x && not (same_lit x l))
has-without_none c l x h = goes (has c x) (same_lit x l) (λ e. ap (has c) (same_lit-true x l e) ∙ h)
  where
    goes : (a b : Bool) → (b ≡ true → a ≡ false) → a ≡ (a && not b)
    goes true true f = f refl
    goes true false f = refl
    goes false b f = refl

-- ---- a literal less: the last one takes its place

module _ (c new : List Lit) (p : ℕ) (w : IsSwapped c new p) (single : (i j : ℕ) (d : Lit) → i < length c → j < length c → get_or c i d ≡ get_or c j d → i ≡ j) where
  -- where what stands at a place stood before
  pub came : (k : ℕ) → k < length new → (j : ℕ) × (j < length c) × ((d : Lit) → get_or new k d ≡ get_or c j d) × (((k ≡ p) × (j ≡ length c - 1)) ⊎ ((k ≡ p → ⊥) × (j ≡ k)))
  came k b =
      elim (cases_eq k p) [
        | inl e ↦
            let g : p + 1 < length c = omega (arith, b, e, w.shorter) in
            (length c - 1, omega (arith, w.within), λ d. ap (λ z. get_or new z d) e ∙ w.moved d g, inl (e, refl))
        | inr e ↦ (k, omega (arith, b, w.shorter), λ d. w.stays k d e (omega (arith, b, w.shorter)), inr (e, refl))
      ]

  came-same : (k j a b : ℕ) → k < length new → j < length new → ((k ≡ p) × (a ≡ length c - 1)) ⊎ ((k ≡ p → ⊥) × (a ≡ k)) → ((j ≡ p) × (b ≡ length c - 1)) ⊎ ((j ≡ p → ⊥) × (b ≡ j))
      → a ≡ b → k ≡ j
  came-same k j a b u v (inl s) (inl t) e = s.0 ∙ sym t.0
  came-same k j a b u v (inl s) (inr t) e = let x : a ≡ length c - 1 = s.1 in let y : b ≡ j = t.1 in absurd (omega (arith, x, y, e, v, w.shorter))
  came-same k j a b u v (inr s) (inl t) e = let x : a ≡ k = s.1 in let y : b ≡ length c - 1 = t.1 in absurd (omega (arith, x, y, e, u, w.shorter))
  came-same k j a b u v (inr s) (inr t) e = sym s.1 ∙ (e ∙ t.1)

  came-apart : (k j : ℕ) → k < length new → ((k ≡ p) × (j ≡ length c - 1)) ⊎ ((k ≡ p → ⊥) × (j ≡ k)) → j ≡ p → ⊥
  came-apart k j b (inl s) e = let x : k ≡ p = s.0 in let y : j ≡ length c - 1 = s.1 in omega (arith, x, y, e, b, w.shorter)
  came-apart k j b (inr s) e = s.0 (sym s.1 ∙ e)

  pub once-less : (i j : ℕ) (d : Lit) → i < length new → j < length new → get_or new i d ≡ get_or new j d → i ≡ j
  once-less i j d a b e =
      let s = came i a in
      let t = came j b in
      came-same i j s.0 t.0 a b s.3 t.3 (single s.0 t.0 d s.1 t.1 (sym (s.2 d) ∙ (e ∙ t.2 d)))

  has-before : (l x : Lit) → get_or c p l ≡ l → has new x ≡ true → (has c x && not (same_lit x l)) ≡ true
  has-before l x at t =
      let r = index-of new x t in
      let s = came r.0 r.1 in
      let is : get_or c s.0 l ≡ x = sym (s.2 l) ∙ r.2 l in
      and_from (has c x) (not (same_lit x l)) (has-index c s.0 l x s.1 is)
      (elim (cases_Bool (same_lit x l)) [
        | inl e ↦ absurd (came-apart r.0 s.0 r.1 s.3 (single s.0 p l s.1 w.within (is ∙ (same_lit-true x l e ∙ sym at))))
        | inr e ↦ ap not e
      ])

  has-after : (l x : Lit) → get_or c p l ≡ l → has c x ≡ true → not (same_lit x l) ≡ true → has new x ≡ true
  has-after l x at t f =
      let r = index-of c x t in
      let j : ℕ = r.0 in
      let b : j < length c = r.1 in
      let g : j ≡ p → ⊥ = λ e. both_ways (same_lit x l) (not-true (same_lit x l) f) (ap (λ z. same_lit z l) (sym (r.2 l) ∙ (ap (λ z. get_or c z l) e ∙ at)) ∙ lit-self l) in
      elim (cases_lt (j + 1) (length c)) [
        | inl q ↦ has-index new j l x (omega (arith, q, w.shorter)) (w.stays j l g q ∙ r.2 l)
        | inr q ↦
            let e : length c - 1 ≡ j = omega (arith, q, b) in
            let k : p + 1 < length c = elim (cases_lt (p + 1) (length c)) [ inl o ↦ o | inr o ↦ absurd (g (omega (arith, o, w.within, q, b))) ] in
            has-index new p l x (omega (arith, k, w.shorter)) (w.moved l k ∙ (ap (λ z. get_or c z l) e ∙ r.2 l))
      ]

  pub has-less : (l x : Lit) → get_or c p l ≡ l → has new x ≡ (has c x && not (same_lit x l))
  has-less l x at =
      iff_eq (has new x) (has c x && not (same_lit x l)) (has-before l x at)
      (λ t. let a = and_parts (has c x) (not (same_lit x l)) t in has-after l x at a.0 a.1)

  -- the table as the last literal was moved
  pub marked-moved : (ps qs : List ℕ) (y : Lit) → AreMarked ps c → p < length new → y ≡ get_or new p y → IsNoted ps qs y p → AreMarked qs new
  marked-moved ps qs y m b at n = record {
    placed = λ k d a q e. elim (cases_eq k p) [
      | inl s ↦
          let z : get_or new k d ≡ y = ap (λ v. get_or new v d) s ∙ (get_or_default new p d y b ∙ sym at) in
          n.here q (ap (noted qs) (sym z) ∙ e) ∙ sym s
      | inr s ↦
          let o : k + 1 < length c = omega (arith, a, w.shorter) in
          let z : get_or new k d ≡ get_or c k d = w.stays k d s o in
          let g : get_or c k d ≡ y → ⊥ = λ v. s (once-less k p y a b (w.stays k y s o ∙ (get_or_default c k y d (omega (arith, o)) ∙ (v ∙ at)))) in
          m.placed k d (omega (arith, o)) q (sym (n.others (get_or c k d) g) ∙ (ap (noted qs) (sym z) ∙ e))
    ];
    once = once-less;
  }

  -- the last literal was taken out
  pub marked-last : (ps : List ℕ) → AreMarked ps c → length new ≤ p → AreMarked ps new
  marked-last ps m b = record {
    placed = λ k d a q e.
        let s : k ≡ p → ⊥ = λ v. omega (arith, v, a, b) in
        let o : k + 1 < length c = omega (arith, a, w.shorter) in
        m.placed k d (omega (arith, o)) q (ap (noted ps) (sym (w.stays k d s o)) ∙ e);
    once = once-less;
  }

-- ---- the literals of a list in turn

has-more : (c : List Lit) (i : ℕ) (d x : Lit) → i < length c → has (take (i + 1) c) x ≡ (has (take i c) x || same_lit (get_or c i d) x)
has-more c i d x h = ap (λ z. has z x) (take_more c i d h) ∙ has-put (take i c) (get_or c i d) x

pub begin-more : (old new c : List Lit) (i : ℕ) (d : Lit) → i < length c → ((x : Lit) → has new x ≡ (has old x || same_lit (get_or c i d) x))
    → ((x : Lit) → has old x ≡ has (take i c) x) → (x : Lit) → has new x ≡ has (take (i + 1) c) x
begin-more old new c i d h s inv x = s x ∙ (ap (λ z. z || same_lit (get_or c i d) x) (inv x) ∙ sym (has-more c i d x h))

pub begin-done : (new c : List Lit) (i : ℕ) → length c ≤ i → ((x : Lit) → has new x ≡ has (take i c) x) → SameLits new c
begin-done new c i h inv x = inv x ∙ ap (λ z. has z x) (take_all i c h)

join_case : (s t a q : Bool) → (a ≡ true → q ≡ false) → ((s || (t && not q)) || a) ≡ (s || ((t || a) && not q))
join_case true t a q f = refl
join_case false true true true f = absurd (false≢true (sym (f refl)))
join_case false true true false f = refl
join_case false true false true f = refl
join_case false true false false f = refl
join_case false false true q f = ap not (sym (f refl))
join_case false false false q f = refl

left_case : (s t a q : Bool) → (a ≡ true → q ≡ true) → (s || (t && not q)) ≡ (s || ((t || a) && not q))
left_case true t a q f = refl
left_case false true a q f = refl
left_case false false true q f = ap not (sym (f refl))
left_case false false false q f = refl

pub join-none : (s c : List Lit) (o x : Lit) → has s x ≡ (has s x || (has (take 0 c) x && not (same_lit x o)))
join-none s c o x = goes (has s x)
  where
    goes : (b : Bool) → b ≡ (b || false)
    goes true = refl
    goes false = refl

module _ (s old c : List Lit) (o : Lit) (i : ℕ) (d : Lit) (h : i < length c) (inv : (x : Lit) → has old x ≡ (has s x || (has (take i c) x && not (same_lit x o)))) where
  pub join-more : (new : List Lit) → not (same_lit (get_or c i d) o) ≡ true → ((x : Lit) → has new x ≡ (has old x || same_lit (get_or c i d) x))
      → (x : Lit) → has new x ≡ (has s x || (has (take (i + 1) c) x && not (same_lit x o)))
  join-more new n a x =
      let y : Lit = get_or c i d in
      a x
      ∙ (ap (λ z. z || same_lit y x) (inv x)
      ∙ (join_case (has s x) (has (take i c) x) (same_lit y x) (same_lit x o) (λ e. ap (λ z. same_lit z o) (sym (same_lit-true y x e)) ∙ not-true (same_lit y o) n)
      ∙ ap (λ z. has s x || (z && not (same_lit x o))) (sym (has-more c i d x h))))

  pub join-left : not (same_lit (get_or c i d) o) ≡ false → (x : Lit) → has old x ≡ (has s x || (has (take (i + 1) c) x && not (same_lit x o)))
  join-left n x =
      let y : Lit = get_or c i d in
      inv x
      ∙ (left_case (has s x) (has (take i c) x) (same_lit y x) (same_lit x o) (λ e. ap (λ z. same_lit z o) (sym (same_lit-true y x e)) ∙ not-false (same_lit y o) n)
      ∙ ap (λ z. has s x || (z && not (same_lit x o))) (sym (has-more c i d x h)))

-- the pivot was let go, and then the literals of the other clause were joined
pub join-done : (old s new c : List Lit) (p o : Lit) (i : ℕ) → length c ≤ i → o ≡ flip p → ((x : Lit) → has s x ≡ (has old x && not (same_lit x p)))
    → ((x : Lit) → has new x ≡ (has s x || (has (take i c) x && not (same_lit x o)))) → SameLits new (resolvent old p c)
join-done old s new c p o i h e a inv x =
    inv x
    ∙ (ap (λ z. has s x || (has z x && not (same_lit x o))) (take_all i c h)
    ∙ (ap (λ z. z || (has c x && not (same_lit x o))) (a x)
    ∙ (ap (λ z. (has old x && not (same_lit x p)) || (has c x && not (same_lit x z))) e ∙ sym (has-resolvent old p c x))))
