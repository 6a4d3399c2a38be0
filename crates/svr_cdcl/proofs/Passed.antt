-- Places that a walk back passes over, and its end: no marked literal is left before the place
use Rattle.std.proofs.Common.{◌≡◌, ℕ, suc, zero, ◌+◌, ◌<◌, ◌≤◌, ◌⊎◌, Bool, true, false, ◌&&◌, ◌||◌, not, nat_eq, nat_lt, List, [], ◌∷◌, ◌++◌, length, refl, ap, sym, ◌∙◌, subst, arith, get_or, Ok, take, inl, inr}
use Rattle.std.specs.List.{list_all}
use Rattle.std.proofs.lemmas.Bool.{and_from, and_parts, both_ways, cases_Bool, eqb-true, false≢true, le-ltb, lt-ltb, not-true, or_left, or_right}
use Rattle.std.proofs.lemmas.List.{take_more}
use Rattle.std.proofs.lemmas.List.Folds.{list_all-append}
use Rattle.svr_chain.specs.declared.clause.Lit.{Lit}
use Rattle.svr_chain.specs.declared.log.Link.{Link}
use Rattle.svr_chain.specs.Clauses.{has}
use Rattle.svr_chain.specs.Same.{SameResult}
use Rattle.svr_trail.specs.declared.Entry.{Entry}
use Rattle.svr_trail.specs.Trail.{value_in, is_false}
use Rattle.svr_watch.proofs.Values.{false-later, false-whole}
use Rattle.svr_cdcl.specs.Learned.{Derives}
use Rattle.svr_cdcl.specs.Marks.{AreFalse, are_passed, is_marked, none_between}
use Rattle.svr_cdcl.specs.Walk.{Walk}
use Rattle.svr_cdcl.proofs.Apart.{marked-rest}
use Rattle.svr_cdcl.proofs.Walk.{false-one}

-- before the first entry none is false
pub passed-at_0 : (es ms : List Entry) → are_passed es 0 ms ≡ true
passed-at_0 es [] = refl
passed-at_0 es (m ∷ ms) = passed-at_0 es ms

-- no literal of a marked variable is false before the place
pub passed-none : (es : List Entry) (place : ℕ) (ms : List Entry) (x : Lit) → AreFalse es ms → are_passed es place ms ≡ true → is_false (value_in (take place es) x) ≡ true → is_marked ms x.var ≡ true → ⊥
passed-none es place [] x a p f h = false≢true h
passed-none es place (m ∷ ms) x a p f h =
    let b = and_parts (not (is_false (value_in (take place es) m.lit))) (are_passed es place ms) p in
    elim (cases_Bool (nat_eq m.lit.var x.var)) [
      | inl t ↦
          let q : m.lit ≡ x = false-one es m.lit x (a zero m (omega arith)) (false-whole es place x f) (eqb-true m.lit.var x.var t) in
          let n : not (is_false (value_in (take place es) x)) ≡ true = ap (λ z. not (is_false (value_in (take place es) z))) (sym q) ∙ b.0 in
          both_ways (is_false (value_in (take place es) x)) (not-true (is_false (value_in (take place es) x)) n) f
      | inr t ↦ passed-none es place ms x (λ i d o. a (suc i) d (omega arith)) b.1 f (marked-rest m ms x.var t h)
    ]

-- where no marked literal is left the clause is what was put out
pub walk-stops : (ks : List (List Lit)) (es : List Entry) (number : ℕ) (ms : List Entry) (out : List Lit) (links : List Link) (left : ℕ) → Walk ks es number ms out links left → are_passed es left ms ≡ true
    → Derives ks (record { start = number; links = links }) out
walk-stops ks es number ms out links left w p =
    subst (λ r. SameResult r (Ok out)) (sym w.derives)
    (λ x. w.same x ∙ goes (has out x) (is_false (value_in (take left es) x)) (is_marked ms x.var) (passed-none es left ms x w.marks p))
  where
    goes : (a b m : Bool) → (b ≡ true → m ≡ true → ⊥) → (a || (b && m)) ≡ a
    goes true b m n = refl
    goes false false m n = refl
    goes false true false n = refl
    goes false true true n = absurd (n refl refl)

-- ---- places that are passed over

-- a literal that is not false between two places
is_between-less : (es : List Entry) (low high : ℕ) (x : Lit) → (is_false (value_in (take low es) x) || not (is_false (value_in (take high es) x))) ≡ true → is_false (value_in (take high es) x) ≡ true
    → is_false (value_in (take low es) x) ≡ true
is_between-less es low high x h f = goes (is_false (value_in (take low es) x)) (is_false (value_in (take high es) x)) h f
  where
    goes : (a b : Bool) → (a || not b) ≡ true → b ≡ true → a ≡ true
    goes true b h f = refl
    goes false true h f = absurd (false≢true h)
    goes false false h f = absurd (false≢true f)

is_between-up : (es : List Entry) (low up high : ℕ) (x : Lit) → low ≤ up → (is_false (value_in (take low es) x) || not (is_false (value_in (take high es) x))) ≡ true
    → (is_false (value_in (take up es) x) || not (is_false (value_in (take high es) x))) ≡ true
is_between-up es low up high x o h = goes (is_false (value_in (take low es) x)) (is_false (value_in (take up es) x)) (not (is_false (value_in (take high es) x))) (false-later es low up x o) h
  where
    goes : (a b c : Bool) → (a ≡ true → b ≡ true) → (a || c) ≡ true → (b || c) ≡ true
    goes true b c f h = ap (λ z. z || c) (f refl)
    goes false true c f h = refl
    goes false false c f h = h

-- by the place at which it was made false
pub between-behind : (es : List Entry) (at behind place : ℕ) (x : Lit) → behind ≤ place → place ≤ length es → ((h : ℕ) → h ≤ length es → is_false (value_in (take h es) x) ≡ nat_lt at h)
    → (at < behind) ⊎ (place ≤ at) → (is_false (value_in (take behind es) x) || not (is_false (value_in (take place es) x))) ≡ true
between-behind es at behind place x o l f c =
    let p = is_false (value_in (take behind es) x) in
    let q = not (is_false (value_in (take place es) x)) in
    elim c [
      | inl h ↦ or_left p q (f behind (omega (arith, o, l)) ∙ lt-ltb at behind h)
      | inr h ↦ or_right p q (ap not (f place l ∙ le-ltb at place h))
    ]

pub between-at : (es : List Entry) (at place : ℕ) (x : Lit) → at < place → place ≤ length es → ((h : ℕ) → h ≤ length es → is_false (value_in (take h es) x) ≡ nat_lt at h)
    → (is_false (value_in (take (at + 1) es) x) || not (is_false (value_in (take place es) x))) ≡ true
between-at es at place x o l f =
    or_left (is_false (value_in (take (at + 1) es) x)) (not (is_false (value_in (take place es) x))) (f (at + 1) (omega (arith, o, l)) ∙ lt-ltb at (at + 1) (omega arith))

-- one marked literal more, by a later place
pub between-more : (es : List Entry) (low up high : ℕ) (ms : List Entry) (i : ℕ) (d : Entry) → low ≤ up → i < length ms → none_between es low high (take i ms) ≡ true
    → (is_false (value_in (take up es) (get_or ms i d).lit) || not (is_false (value_in (take high es) (get_or ms i d).lit))) ≡ true → none_between es up high (take (i + 1) ms) ≡ true
between-more es low up high ms i d o l a b =
    let f : Entry → Bool = λ m. is_false (value_in (take up es) m.lit) || not (is_false (value_in (take high es) m.lit)) in
    let x : Entry = get_or ms i d in
    ap (list_all f) (take_more ms i d l) ∙ (list_all-append f (take i ms) (x ∷ []) ∙ and_from (list_all f (take i ms)) (f x && true) (ups (take i ms) a) (and_from (f x) true b refl))
  where
    ups : (ns : List Entry) → none_between es low high ns ≡ true → none_between es up high ns ≡ true
    ups [] h = refl
    ups (n ∷ ns) h =
        let c = and_parts (is_false (value_in (take low es) n.lit) || not (is_false (value_in (take high es) n.lit))) (none_between es low high ns) h in
        and_from (is_false (value_in (take up es) n.lit) || not (is_false (value_in (take high es) n.lit))) (none_between es up high ns) (is_between-up es low up high n.lit o c.0) (ups ns c.1)

-- between a place and itself there is none
pub between-same : (es : List Entry) (place : ℕ) (ms : List Entry) → none_between es place place ms ≡ true
between-same es place [] = refl
between-same es place (m ∷ ms) = and_from (is_false (value_in (take place es) m.lit) || not (is_false (value_in (take place es) m.lit))) (none_between es place place ms) (goes (is_false (value_in (take place es) m.lit))) (between-same es place ms)
  where
    goes : (b : Bool) → (b || not b) ≡ true
    goes true = refl
    goes false = refl

-- a literal of a marked variable that is false before the one place is so before the other
between-marked : (es : List Entry) (low high : ℕ) (ms : List Entry) (x : Lit) → AreFalse es ms → none_between es low high ms ≡ true → is_false (value_in (take high es) x) ≡ true → is_marked ms x.var ≡ true
    → is_false (value_in (take low es) x) ≡ true
between-marked es low high [] x a p f h = absurd (false≢true h)
between-marked es low high (m ∷ ms) x a p f h =
    let b = and_parts (is_false (value_in (take low es) m.lit) || not (is_false (value_in (take high es) m.lit))) (none_between es low high ms) p in
    elim (cases_Bool (nat_eq m.lit.var x.var)) [
      | inl t ↦
          let q : m.lit ≡ x = false-one es m.lit x (a zero m (omega arith)) (false-whole es high x f) (eqb-true m.lit.var x.var t) in
          is_between-less es low high x (ap (λ z. is_false (value_in (take low es) z) || not (is_false (value_in (take high es) z))) (sym q) ∙ b.0) f
      | inr t ↦ between-marked es low high ms x (λ i d o. a (suc i) d (omega arith)) b.1 f (marked-rest m ms x.var t h)
    ]

pub walk-jumps : {ks : List (List Lit)} {es ms : List Entry} {number : ℕ} {out : List Lit} {links : List Link} {left : ℕ} (low : ℕ) → Walk ks es number ms out links left → low ≤ left
    → none_between es low left ms ≡ true → Walk ks es number ms out links low
walk-jumps {ks} {es} {ms} {number} {out} {links} {left} low w o b = record {
  within = omega (arith, o, w.within);
  marks = w.marks;
  clause = w.clause;
  derives = w.derives;
  same = λ x. w.same x ∙ goes (has out x) (is_false (value_in (take left es) x)) (is_false (value_in (take low es) x)) (is_marked ms x.var) (between-marked es low left ms x w.marks b) (false-later es low left x o);
  apart = λ x h. none (is_false (value_in (take low es) x)) (is_false (value_in (take left es) x)) (false-later es low left x o) (w.apart x h);
}
  where
    goes : (a f g m : Bool) → (f ≡ true → m ≡ true → g ≡ true) → (g ≡ true → f ≡ true) → (a || (f && m)) ≡ (a || (g && m))
    goes true f g m n u = refl
    goes false true true m n u = refl
    goes false true false true n u = absurd (false≢true (n refl refl))
    goes false true false false n u = refl
    goes false false true m n u = absurd (false≢true (u refl))
    goes false false false m n u = refl

    none : (g f : Bool) → (g ≡ true → f ≡ true) → f ≡ false → g ≡ false
    none true f u e = absurd (false≢true (sym e ∙ u refl))
    none false f u e = refl
