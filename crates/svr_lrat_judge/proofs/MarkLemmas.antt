-- Marks of literals
use Rattle.std.proofs.Common.{◌≡◌, ℕ, zero, suc, ◌<◌, ◌≤◌, Bool, true, false, ◌&&◌, ◌||◌, nat_eq, List, [], ◌∷◌, ◌++◌, length, get_or, set, refl, sym, ap, ◌∙◌, inl, inr, get_or-set_other, get_or-set_same}
use Rattle.std.proofs.lemmas.Bool.{cases_eq, or_cases, eq-eqb, ne_eqb, and_right, false≢true, both_ways, cases_Bool}
use Rattle.std.proofs.lemmas.List.{get_or_past}
use Rattle.std.proofs.lemmas.List.Folds.{list_any-append}
use Rattle.svr_chain.specs.declared.clause.Lit.{Lit}
use Rattle.svr_chain.specs.Clauses.{same_sign, same_lit, has}
use Rattle.svr_chain.proofs.Sound.{same_lit-true}
use Rattle.svr_lrat_judge.specs.declared.known.Sides.{Sides}
use Rattle.svr_lrat_judge.specs.Marks.{unmarked, side, with_side, is_marked, AreMarked, MarkedAmong}

-- one more place without marks
pub unmarked_more : (marks : List Sides) (v : ℕ) → get_or (marks ++ unmarked ∷ []) v unmarked ≡ get_or marks v unmarked
unmarked_more [] zero = refl
unmarked_more [] (suc v) = refl
unmarked_more (m ∷ marks) zero = refl
unmarked_more (m ∷ marks) (suc v) = unmarked_more marks v

pub same_marks : (old new : List Sides) (ls : List Lit) → ((v : ℕ) → get_or new v unmarked ≡ get_or old v unmarked) → AreMarked old ls → AreMarked new ls
same_marks old new ls e m = λ l. ap (λ s. side s l.neg) (e l.var) ∙ m l

-- ---- one more mark

side-marked : (s : Sides) (n k : Bool) → side (with_side s n true) k ≡ (side s k || same_sign n k)
side-marked s true true = both s.negative
  where
    both : (b : Bool) → true ≡ (b || true)
    both true = refl
    both false = refl
side-marked s true false = keep s.positive
  where
    keep : (b : Bool) → b ≡ (b || false)
    keep true = refl
    keep false = refl
side-marked s false true = keep s.negative
  where
    keep : (b : Bool) → b ≡ (b || false)
    keep true = refl
    keep false = refl
side-marked s false false = both s.positive
  where
    both : (b : Bool) → true ≡ (b || true)
    both true = refl
    both false = refl

or_none : (a b : Bool) → b ≡ false → a ≡ (a || (b || false))
or_none true b e = refl
or_none false true e = absurd (false≢true (sym e))
or_none false false e = refl

or_and_true : (a s t : Bool) → t ≡ true → (a || s) ≡ (a || ((s && t) || false))
or_and_true true s t e = refl
or_and_true false true true e = refl
or_and_true false true false e = absurd (false≢true e)
or_and_true false false t e = refl

marked-set : (marks : List Sides) (l x : Lit) → l.var < length marks
    → is_marked (set marks l.var (with_side (get_or marks l.var unmarked) l.neg true)) x ≡ (is_marked marks x || (same_lit l x || false))
marked-set marks l x h =
    elim (cases_eq x.var l.var) [
      | inl e ↦
          let s : get_or (set marks l.var (with_side (get_or marks l.var unmarked) l.neg true)) x.var unmarked ≡ with_side (get_or marks x.var unmarked) l.neg true =
          ap (λ v. get_or (set marks l.var (with_side (get_or marks l.var unmarked) l.neg true)) v unmarked) e
          ∙ get_or-set_same marks l.var (with_side (get_or marks l.var unmarked) l.neg true) unmarked h
          ∙ ap (λ v. with_side (get_or marks v unmarked) l.neg true) (sym e) in
          ap (λ z. side z x.neg) s ∙ side-marked (get_or marks x.var unmarked) l.neg x.neg
          ∙ or_and_true (is_marked marks x) (same_sign l.neg x.neg) (nat_eq l.var x.var) (eq-eqb l.var x.var (sym e))
      | inr e ↦
          ap (λ z. side z x.neg) (get_or-set_other marks l.var x.var (with_side (get_or marks l.var unmarked) l.neg true) unmarked e)
          ∙ or_none (is_marked marks x) (same_lit l x) (and_right (same_sign l.neg x.neg) (nat_eq l.var x.var) (ne_eqb l.var x.var (λ q. e (sym q))))
    ]

pub marked-push : (marks : List Sides) (ls : List Lit) (l : Lit) → l.var < length marks → AreMarked marks ls
    → AreMarked (set marks l.var (with_side (get_or marks l.var unmarked) l.neg true)) (ls ++ l ∷ [])
marked-push marks ls l h m = λ x.
    marked-set marks l x h ∙ ap (λ b. b || (same_lit l x || false)) (m x) ∙ sym (list_any-append (λ y. same_lit y x) ls (l ∷ []))

-- ---- marks taken away

side-unmarked : (s : Sides) (n k : Bool) → side (with_side s n false) k ≡ true → (side s k ≡ true) × (same_sign n k ≡ false)
side-unmarked s true true h = absurd (false≢true h)
side-unmarked s true false h = (h, refl)
side-unmarked s false true h = (h, refl)
side-unmarked s false false h = absurd (false≢true h)

among-rest : (l x : Lit) (ls : List Lit) → same_lit l x ≡ false → has (l ∷ ls) x ≡ true → has ls x ≡ true
among-rest l x ls e h =
    elim (or_cases (same_lit l x) (has ls x) h) [
      | inl a ↦ absurd (both_ways (same_lit l x) e a)
      | inr b ↦ b
    ]

and_left_false : (a b : Bool) → a ≡ false → (a && b) ≡ false
and_left_false true b e = absurd (false≢true (sym e))
and_left_false false b e = refl

pub unmarked-one : (marks : List Sides) (l : Lit) (ls : List Lit) → l.var < length marks → MarkedAmong marks (l ∷ ls)
    → MarkedAmong (set marks l.var (with_side (get_or marks l.var unmarked) l.neg false)) ls
unmarked-one marks l ls h m x t =
    elim (cases_eq x.var l.var) [
      | inl e ↦
          let s : get_or (set marks l.var (with_side (get_or marks l.var unmarked) l.neg false)) x.var unmarked ≡ with_side (get_or marks x.var unmarked) l.neg false =
          ap (λ v. get_or (set marks l.var (with_side (get_or marks l.var unmarked) l.neg false)) v unmarked) e
          ∙ get_or-set_same marks l.var (with_side (get_or marks l.var unmarked) l.neg false) unmarked h
          ∙ ap (λ v. with_side (get_or marks v unmarked) l.neg false) (sym e) in
          let u = side-unmarked (get_or marks x.var unmarked) l.neg x.neg (sym (ap (λ z. side z x.neg) s) ∙ t) in
          among-rest l x ls (and_left_false (same_sign l.neg x.neg) (nat_eq l.var x.var) u.1) (m x u.0)
      | inr e ↦
          let s = get_or-set_other marks l.var x.var (with_side (get_or marks l.var unmarked) l.neg false) unmarked e in
          among-rest l x ls (and_right (same_sign l.neg x.neg) (nat_eq l.var x.var) (ne_eqb l.var x.var (λ q. e (sym q)))) (m x (sym (ap (λ z. side z x.neg) s) ∙ t))
    ]

side-none : (n : Bool) → side unmarked n ≡ false
side-none true = refl
side-none false = refl

-- past the last place nothing is marked
pub unmarked-past : (marks : List Sides) (l : Lit) (ls : List Lit) → length marks ≤ l.var → MarkedAmong marks (l ∷ ls) → MarkedAmong marks ls
unmarked-past marks l ls h m x t =
    elim (cases_Bool (same_lit l x)) [
      | inl e ↦
          let s : l ≡ x = same_lit-true l x e in
          let u : is_marked marks l ≡ false = ap (λ z. side z l.neg) (get_or_past marks l.var unmarked h) ∙ side-none l.neg in
          absurd (both_ways (is_marked marks x) (ap (is_marked marks) (sym s) ∙ u) t)
      | inr e ↦ among-rest l x ls e (m x t)
    ]

pub unmarked-all : (marks : List Sides) → MarkedAmong marks [] → (x : Lit) → is_marked marks x ≡ false
unmarked-all marks m x =
    elim (cases_Bool (is_marked marks x)) [
      | inl e ↦ absurd (false≢true (m x e))
      | inr e ↦ e
    ]

pub none_marked : AreMarked [] []
none_marked x = side-none x.neg

pub marked-all : (marks : List Sides) (ls : List Lit) → AreMarked marks ls → MarkedAmong marks ls
marked-all marks ls m x t = sym (m x) ∙ t

pub marked-none : (marks : List Sides) → ((x : Lit) → is_marked marks x ≡ false) → AreMarked marks []
marked-none marks m x = m x
