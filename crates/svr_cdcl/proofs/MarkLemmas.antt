-- Marking the literals of a clause, one after the other
use Rattle.std.proofs.Common.{◌≡◌, ℕ, ◌+◌, ◌<◌, ◌≤◌, Bool, true, false, ◌&&◌, ◌||◌, not, nat_eq, nat_lt, List, [], ◌∷◌, ◌++◌, length, refl, ap, sym, ◌∙◌, arith, Option, Some, None, get_or, take, inl, inr}
use Rattle.std.specs.Prelude.{is_some, if◌then◌else◌}
use Rattle.std.specs.Option.{option_map}
use Rattle.std.proofs.lemmas.Bool.{and_from, and_parts, lt-ltb, ltb-false, ltb-true, or_cases, or_left, or_right, both_ways, eqb-true, false≢true}
use Rattle.std.proofs.lemmas.List.Folds.{list_any_more}
use Rattle.svr_chain.specs.declared.clause.Lit.{Lit}
use Rattle.svr_chain.specs.Clauses.{IsWithin, flip, has, same_lit, same_sign}
use Rattle.svr_chain.proofs.Same.{all-has, has-at, iff_eq, lit-self}
use Rattle.svr_chain.proofs.Sound.{same_lit-true}
use Rattle.svr_chain.proofs.ClauseLemmas.{all-weaker}
use Rattle.svr_trail.proofs.Quiet.{all-push}
use Rattle.svr_trail.specs.declared.Entry.{Entry}
use Rattle.svr_trail.specs.Trail.{sign_at, value_in, is_false, is_false_but, Each, Forces}
use Rattle.svr_chain.specs.Log.{named}
use Rattle.std.proofs.lemmas.Option.{same_Some}
use Rattle.svr_watch.proofs.Values.{false-whole}
use Rattle.svr_trail.proofs.Trails.{or_else, sign_at-push}
use Rattle.svr_trail.proofs.TableLemmas.{within-from_value}
use Rattle.svr_cdcl.specs.Learned.{is_decided, is_explained, is_kept}
use Rattle.svr_cdcl.specs.Marks.{Marks, begun, is_before, is_false_besides, is_marked, is_touched, touches}

or_assoc : (a b c : Bool) → ((a || b) || c) ≡ (a || (b || c))
or_assoc true b c = refl
or_assoc false b c = refl

or_false : (a : Bool) → (a || false) ≡ a
or_false true = refl
or_false false = refl

pub marks-none : (ms : List Entry) (keep : Option Lit) → Marks ms ms keep []
marks-none ms keep v = sym (or_false (is_marked ms v))

pub marks-step : (old ms ns : List Entry) (keep : Option Lit) (ls : List Lit) (i : ℕ) (d : Lit) → i < length ls → Marks old ms keep (take i ls)
    → ((v : ℕ) → is_marked ns v ≡ (is_marked ms v || is_touched keep (get_or ls i d) v)) → Marks old ns keep (take (i + 1) ls)
marks-step old ms ns keep ls i d h m n v =
    n v
    ∙ (ap (λ z. z || is_touched keep (get_or ls i d) v) (m v)
    ∙ (or_assoc (is_marked old v) (touches keep (take i ls) v) (is_touched keep (get_or ls i d) v)
    ∙ ap (λ z. is_marked old v || z) (sym (list_any_more (λ x. is_touched keep x v) ls i d h))))

pub besides-at : (es : List Entry) (keep : Option Lit) (ls : List Lit) (i : ℕ) (d : Lit) → i < length ls → is_false_besides es keep ls ≡ true
    → (is_kept keep (get_or ls i d) || is_false (value_in es (get_or ls i d))) ≡ true
besides-at es keep ls i d h f = all-has (λ x. is_kept keep x || is_false (value_in es x)) ls (get_or ls i d) f (has-at ls i d h)

-- a variable is marked after a literal of it is put, and no other
pub marked-push : (ms : List Entry) (e : Entry) (v : ℕ) → is_marked (ms ++ e ∷ []) v ≡ (is_marked ms v || nat_eq e.lit.var v)
marked-push ms e v = ap is_some (sign_at-push ms e v) ∙ goes (sign_at ms v) (nat_eq e.lit.var v)
  where
    goes : (s : Option Bool) (t : Bool) → is_some (or_else s (if t then Some e.lit.neg else None)) ≡ (is_some s || t)
    goes None true = refl
    goes None false = refl
    goes (Some b) t = refl

-- the kept literal marks nothing
pub marked-kept : (ms : List Entry) (keep : Option Lit) (l : Lit) (v : ℕ) → is_kept keep l ≡ true → is_marked ms v ≡ (is_marked ms v || is_touched keep l v)
marked-kept ms keep l v e = sym (ap (λ z. is_marked ms v || (not z && nat_eq l.var v)) e ∙ or_false (is_marked ms v))

-- nor does a literal whose variable is marked
pub marked-there : (ms : List Entry) (keep : Option Lit) (l : Lit) (v : ℕ) → is_kept keep l ≡ false → is_marked ms l.var ≡ true → is_marked ms v ≡ (is_marked ms v || is_touched keep l v)
marked-there ms keep l v e m = last (nat_eq l.var v) refl ∙ ap (λ z. is_marked ms v || (not z && nat_eq l.var v)) (sym e)
  where
    last : (t : Bool) → nat_eq l.var v ≡ t → is_marked ms v ≡ (is_marked ms v || t)
    last false q = sym (or_false (is_marked ms v))
    last true q =
        let r : is_marked ms v ≡ true = ap (is_marked ms) (sym (eqb-true l.var v q)) ∙ m in
        r ∙ sym (ap (λ z. z || true) r)

-- a literal of an unmarked variable is open among the marks
pub open-unmarked : (ms : List Entry) (l : Lit) → is_marked ms l.var ≡ false → value_in ms l ≡ None
open-unmarked ms l h = goes (sign_at ms l.var) h
  where
    goes : (s : Option Bool) → is_some s ≡ false → option_map (λ n. same_sign n l.neg) s ≡ None
    goes None e = refl
    goes (Some b) e = absurd (false≢true (sym e))

-- what is not kept is false
pub false-from : (es : List Entry) (keep : Option Lit) (l : Lit) → is_kept keep l ≡ false → (is_kept keep l || is_false (value_in es l)) ≡ true → is_false (value_in es l) ≡ true
false-from es keep l e h = elim (or_cases (is_kept keep l) (is_false (value_in es l)) h) [ inl k ↦ absurd (both_ways (is_kept keep l) e k) | inr k ↦ k ]

pub touched-new : (keep : Option Lit) (l : Lit) (v : ℕ) → is_kept keep l ≡ false → is_touched keep l v ≡ nat_eq l.var v
touched-new keep l v e = ap (λ z. not z && nat_eq l.var v) e

pub false-value_is : (es : List Entry) (l : Lit) → is_false (value_in es l) ≡ true → value_in es l ≡ Some false
false-value_is es l h = goes (value_in es l) refl h
  where
    goes : (o : Option Bool) → value_in es l ≡ o → is_false o ≡ true → o ≡ Some false
    goes None e f = absurd (false≢true f)
    goes (Some true) e f = absurd (false≢true f)
    goes (Some false) e f = refl

-- what is false names a variable of the trail
pub false-within : (n : ℕ) (es : List Entry) (l : Lit) → Each (λ _ d. IsWithin n d.lit) es → is_false (value_in es l) ≡ true → IsWithin n l
false-within n es l w h = within-from_value n es l false w (false-value_is es l h)

-- the kept literal is not kept where it is false
pub kept-besides : (es : List Entry) (l : Lit) (c : List Lit) → is_false (value_in es l) ≡ true → is_false_besides es (Some l) c ≡ true → is_false_besides es None c ≡ true
kept-besides es l c f h =
    all-weaker (λ x. same_lit x l || is_false (value_in es x)) (λ x. is_false (value_in es x)) c
    (λ x g. elim (or_cases (same_lit x l) (is_false (value_in es x)) g) [
      | inl s ↦ ap (λ z. is_false (value_in es z)) (same_lit-true x l s) ∙ f
      | inr s ↦ s
    ]) h

pub kept-explained : (es : List Entry) (l : Lit) (c : List Lit) → is_explained es None c ≡ true → is_explained es (Some l) c ≡ true
kept-explained es l c h =
    all-weaker (λ x. is_decided es (flip x)) (λ x. same_lit x l || is_decided es (flip x)) c (λ x g. or_right (same_lit x l) (is_decided es (flip x)) g) h

-- one literal more behind the explained ones
pub explained-push : (es : List Entry) (keep : Option Lit) (c : List Lit) (x : Lit) → is_explained es keep c ≡ true → is_decided es (flip x) ≡ true → is_explained es keep (c ++ x ∷ []) ≡ true
explained-push es keep c x a d = all-push (λ y. is_kept keep y || is_decided es (flip y)) c x a (or_right (is_kept keep x) (is_decided es (flip x)) d)

pub begun-explained : (es : List Entry) (keep : Option Lit) (c : List Lit) → is_explained es keep (begun keep c) ≡ true
begun-explained es None c = refl
begun-explained es (Some p) c = goes (has c p)
  where
    goes : (b : Bool) → is_explained es (Some p) (if b then p ∷ [] else []) ≡ true
    goes false = refl
    goes true = and_from (same_lit p p || is_decided es (flip p)) true (or_left (same_lit p p) (is_decided es (flip p)) (lit-self p)) refl

-- the other literals of a reason are false
pub forces-besides : (ks : List (List Lit)) (es : List Entry) (i : ℕ) (l : Lit) (n : ℕ) → Forces ks (take i es) l n → (k : List Lit) → named ks n ≡ Some k → is_false_besides es (Some l) k ≡ true
forces-besides ks es i l n f k q =
    let d : k ≡ f.0 = same_Some k f.0 (sym q ∙ f.1) in
    all-weaker (λ x. same_lit x l || is_false (value_in (take i es) x)) (λ x. same_lit x l || is_false (value_in es x)) k
    (λ x g. elim (or_cases (same_lit x l) (is_false (value_in (take i es) x)) g) [
      | inl s ↦ or_left (same_lit x l) (is_false (value_in es x)) s
      | inr s ↦ or_right (same_lit x l) (is_false (value_in es x)) (false-whole es i x s)
    ]) (ap (is_false_but (take i es) l) d ∙ f.3)

and_true : (a : Bool) → (a && true) ≡ a
and_true true = refl
and_true false = refl

-- the later one of two places
pub later-same : (last : Option ℕ) (h : ℕ) (s t : Bool) → s ≡ true → is_before last h ≡ (is_before last h && (s || t))
later-same last h s t e = sym (ap (λ z. is_before last h && (z || t)) e ∙ and_true (is_before last h))

pub later-old : (last : Option ℕ) (at h : ℕ) (s t : Bool) → s ≡ false → t ≡ nat_lt at h → is_before last at ≡ false → is_before last h ≡ (is_before last h && (s || t))
later-old None at h s t e f b = absurd (false≢true (sym b))
later-old (Some m) at h s t e f b =
    let o : at ≤ m = ltb-false m at b in
    iff_eq (nat_lt m h) (nat_lt m h && (s || t))
    (λ g. let n : m < h = ltb-true m h g in and_from (nat_lt m h) (s || t) g (or_right s t (f ∙ lt-ltb at h (omega arith))))
    (λ g. (and_parts (nat_lt m h) (s || t) g).0)

pub later-new : (last : Option ℕ) (at h : ℕ) (s t : Bool) → s ≡ false → t ≡ nat_lt at h → is_before last at ≡ true → nat_lt at h ≡ (is_before last h && (s || t))
later-new last at h s t e f b =
    iff_eq (nat_lt at h) (is_before last h && (s || t))
    (λ g. and_from (is_before last h) (s || t) (before last b (ltb-true at h g)) (or_right s t (f ∙ g)))
    (λ g. elim (or_cases s t (and_parts (is_before last h) (s || t) g).1) [
      | inl q ↦ absurd (both_ways s e q)
      | inr q ↦ sym f ∙ q
    ])
  where
    before : (o : Option ℕ) → is_before o at ≡ true → at < h → is_before o h ≡ true
    before None p q = refl
    before (Some m) p q = let n : m < at = ltb-true m at p in lt-ltb m h (omega arith)
