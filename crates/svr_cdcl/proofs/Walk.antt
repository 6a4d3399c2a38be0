-- The walk back over the trail: the marked literals that are false before a place are those of the derived clause
use Rattle.std.proofs.Common.{◌≡◌, ℕ, ◌+◌, ◌-◌, ◌<◌, ◌≤◌, Bool, true, false, ◌&&◌, ◌||◌, not, nat_eq, List, [], ◌∷◌, ◌++◌, length, refl, ap, sym, ◌∙◌, arith, Option, Some, None, get_or, take, inl, inr}
use Rattle.std.specs.Prelude.{◌⊎◌, is_some, is_none, if◌then◌else◌}
use Rattle.std.specs.Option.{option_map}
use Rattle.std.proofs.lemmas.Bool.{and_parts, and_from, or_cases, or_left, or_right, not-true, both_ways, cases_Bool, eq-eqb, eqb-true, false≢true}
use Rattle.std.proofs.lemmas.List.{take_more, take_all}
use Rattle.std.proofs.lemmas.List.Folds.{list_any-append}
use Rattle.std.proofs.lemmas.Option.{same_Some}
use Rattle.svr_chain.specs.declared.clause.Lit.{Lit}
use Rattle.svr_chain.specs.declared.log.Link.{Link}
use Rattle.svr_chain.specs.Clauses.{same_sign, same_lit, flip, has, resolvent}
use Rattle.svr_chain.specs.Log.{named, started, after_links}
use Rattle.svr_chain.proofs.Sound.{same_lit-true}
use Rattle.svr_chain.proofs.Same.{iff_eq, lit-self, all-has, any-has, any-some, has-resolvent}
use Rattle.svr_chain.proofs.ClauseLemmas.{flip-flip}
use Rattle.svr_trail.specs.declared.Entry.{Entry}
use Rattle.svr_trail.specs.Trail.{sign_at, value_in, is_false, is_false_but, Forces, WasOpen}
use Rattle.svr_trail.proofs.Trails.{sign_at-push_same}
use Rattle.svr_cdcl.specs.Learned.{is_kept}
use Rattle.svr_cdcl.specs.Walk.{Walk}
use Rattle.svr_cdcl.specs.Marks.{AreFalse, IsKept, Marks, begun, is_false_besides, is_marked, touches}
use Rattle.svr_cdcl.proofs.Chains.{after_links-push, after_link-ok, false-less}
use Rattle.svr_watch.proofs.Values.{false-later}

-- two false literals of one variable are the same
pub false-one : (es : List Entry) (x y : Lit) → is_false (value_in es x) ≡ true → is_false (value_in es y) ≡ true → x.var ≡ y.var → x ≡ y
false-one es x y f g v =
    let f' : is_false (option_map (λ n. same_sign n x.neg) (sign_at es y.var)) ≡ true = ap (λ z. is_false (option_map (λ n. same_sign n x.neg) (sign_at es z))) (sym v) ∙ f in
    same_lit-true x y (and_from (same_sign x.neg y.neg) (nat_eq x.var y.var) (goes (sign_at es y.var) x.neg y.neg f' g) (eq-eqb x.var y.var v))
  where
    goes : (s : Option Bool) (a b : Bool) → is_false (option_map (λ n. same_sign n a) s) ≡ true → is_false (option_map (λ n. same_sign n b) s) ≡ true → same_sign a b ≡ true
    goes None a b f g = absurd (false≢true f)
    goes (Some true) true b f g = absurd (false≢true f)
    goes (Some true) false true f g = absurd (false≢true g)
    goes (Some true) false false f g = refl
    goes (Some false) true true f g = refl
    goes (Some false) true false f g = absurd (false≢true g)
    goes (Some false) false b f g = absurd (false≢true f)

-- a literal and its negation are not both false
pub false-flip : (es : List Entry) (x : Lit) → is_false (value_in es x) ≡ true → is_false (value_in es (flip x)) ≡ true → ⊥
false-flip es x f g = goes (sign_at es x.var) x.neg f g
  where
    goes : (s : Option Bool) (a : Bool) → is_false (option_map (λ n. same_sign n a) s) ≡ true → is_false (option_map (λ n. same_sign n (not a)) s) ≡ true → ⊥
    goes None a f g = absurd (false≢true f)
    goes (Some true) true f g = absurd (false≢true f)
    goes (Some true) false f g = absurd (false≢true g)
    goes (Some false) true f g = absurd (false≢true g)
    goes (Some false) false f g = absurd (false≢true f)

pub touches-from : (keep : Option Lit) (c : List Lit) (v : ℕ) → touches keep c v ≡ true → (y : Lit) × (has c y ≡ true) × (is_kept keep y ≡ false) × (y.var ≡ v)
touches-from keep c v h =
    let r = any-some (λ x. not (is_kept keep x) && nat_eq x.var v) c h in
    let b = and_parts (not (is_kept keep r.0)) (nat_eq (r.0).var v) r.2 in
    (r.0, r.1, not-true (is_kept keep r.0) b.0, eqb-true (r.0).var v b.1)

pub touches-to : (keep : Option Lit) (c : List Lit) (y : Lit) → has c y ≡ true → is_kept keep y ≡ false → touches keep c y.var ≡ true
touches-to keep c y h k =
    any-has (λ x. not (is_kept keep x) && nat_eq x.var y.var) c y h (and_from (not (is_kept keep y)) (nat_eq y.var y.var) (ap not k) (eq-eqb y.var y.var refl))

-- a literal is marked where its variable has a value among the marks
pub value-marked : (ms : List Entry) (l : Lit) → is_some (value_in ms l) ≡ is_marked ms l.var
value-marked ms l = goes (sign_at ms l.var)
  where
    goes : (s : Option Bool) → is_some (option_map (λ n. same_sign n l.neg) s) ≡ is_some s
    goes None = refl
    goes (Some b) = refl

pub none-marked : (ms : List Entry) (l : Lit) → is_none (value_in ms l) ≡ not (is_marked ms l.var)
none-marked ms l = goes (sign_at ms l.var)
  where
    goes : (s : Option Bool) → is_none (option_map (λ n. same_sign n l.neg) s) ≡ not (is_some s)
    goes None = refl
    goes (Some b) = refl

begun-has : (keep : Option Lit) (c : List Lit) (x : Lit) → has c x ≡ true → is_kept keep x ≡ true → has (begun keep c) x ≡ true
begun-has None c x h k = absurd (false≢true k)
begun-has (Some p) c x h k =
    let e : x ≡ p = same_lit-true x p k in
    let q : has c p ≡ true = ap (has c) (sym e) ∙ h in
    ap (λ z. has (if z then p ∷ [] else []) x) q ∙ or_left (same_lit p x) false (ap (same_lit p) e ∙ lit-self p)

begun-from : (keep : Option Lit) (c : List Lit) (x : Lit) → has (begun keep c) x ≡ true → (has c x ≡ true) × (is_kept keep x ≡ true)
begun-from None c x h = absurd (false≢true h)
begun-from (Some p) c x h = goes (has c p) refl h
  where
    goes : (b : Bool) → has c p ≡ b → has (if b then p ∷ [] else []) x ≡ true → (has c x ≡ true) × (same_lit x p ≡ true)
    goes false e g = absurd (false≢true g)
    goes true e g =
        elim (or_cases (same_lit p x) false g) [
          | inl s ↦ (let q : p ≡ x = same_lit-true p x s in (ap (has c) (sym q) ∙ e, ap (λ z. same_lit z p) (sym q) ∙ lit-self p))
          | inr s ↦ absurd (false≢true s)
        ]

kept-not_false : (es : List Entry) (keep : Option Lit) (x : Lit) → IsKept es keep → is_kept keep x ≡ true → is_false (value_in es x) ≡ false
kept-not_false es None x i k = absurd (false≢true k)
kept-not_false es (Some p) x i k = ap (λ z. is_false (value_in es z)) (same_lit-true x p k) ∙ i

pub walk-begins : (ks : List (List Lit)) (es ms : List Entry) (number : ℕ) (keep : Option Lit) (c : List Lit) → named ks number ≡ Some c → is_false_besides es keep c ≡ true → IsKept es keep
    → AreFalse es ms → Marks [] ms keep c → Walk ks es number ms (begun keep c) [] (length es)
walk-begins ks es ms number keep c n f i a m = record {
  within = omega arith;
  marks = a;
  clause = c;
  derives = ap started n;
  same = λ x. iff_eq (has c x) (has (begun keep c) x || (is_false (value_in (take (length es) es) x) && is_marked ms x.var)) (to x) (from x);
  apart = λ x h. ap (λ z. is_false (value_in z x)) whole ∙ kept-not_false es keep x i (begun-from keep c x h).1;
}
  where
    whole : take (length es) es ≡ es
    whole = take_all (length es) es (omega arith)

    to : (x : Lit) → has c x ≡ true → (has (begun keep c) x || (is_false (value_in (take (length es) es) x) && is_marked ms x.var)) ≡ true
    to x h =
        elim (cases_Bool (is_kept keep x)) [
          | inl k ↦ or_left (has (begun keep c) x) (is_false (value_in (take (length es) es) x) && is_marked ms x.var) (begun-has keep c x h k)
          | inr k ↦
              let g : is_false (value_in es x) ≡ true = elim (or_cases (is_kept keep x) (is_false (value_in es x)) (all-has (λ y. is_kept keep y || is_false (value_in es y)) c x f h)) [
                | inl q ↦ absurd (both_ways (is_kept keep x) k q)
                | inr q ↦ q
              ] in
              or_right (has (begun keep c) x) (is_false (value_in (take (length es) es) x) && is_marked ms x.var)
              (and_from (is_false (value_in (take (length es) es) x)) (is_marked ms x.var) (ap (λ z. is_false (value_in z x)) whole ∙ g) (m x.var ∙ touches-to keep c x h k))
        ]

    from : (x : Lit) → (has (begun keep c) x || (is_false (value_in (take (length es) es) x) && is_marked ms x.var)) ≡ true → has c x ≡ true
    from x h =
        elim (or_cases (has (begun keep c) x) (is_false (value_in (take (length es) es) x) && is_marked ms x.var) h) [
          | inl q ↦ (begun-from keep c x q).0
          | inr q ↦
              let b = and_parts (is_false (value_in (take (length es) es) x)) (is_marked ms x.var) q in
              let g : is_false (value_in es x) ≡ true = ap (λ z. is_false (value_in z x)) (sym whole) ∙ b.0 in
              let t = touches-from keep c x.var (sym (m x.var) ∙ b.1) in
              let gy : is_false (value_in es t.0) ≡ true = elim (or_cases (is_kept keep t.0) (is_false (value_in es t.0)) (all-has (λ y. is_kept keep y || is_false (value_in es y)) c t.0 f t.1)) [
                | inl k ↦ absurd (both_ways (is_kept keep t.0) t.2 k)
                | inr k ↦ k
              ] in
              ap (has c) (false-one es x t.0 g gy (sym t.3)) ∙ t.1
        ]

pub begins-clause : (ks : List (List Lit)) (es ms : List Entry) (number : ℕ) (keep : Option Lit) (c : List Lit) (n : named ks number ≡ Some c) (f : is_false_besides es keep c ≡ true) (i : IsKept es keep)
    (a : AreFalse es ms) (m : Marks [] ms keep c) → (walk-begins ks es ms number keep c n f i a m).clause ≡ c
unfolding walk-begins
begins-clause ks es ms number keep c n f i a m = refl

-- one entry less
module _ (ks : List (List Lit)) (es ms : List Entry) (number : ℕ) (out : List Lit) (links : List Link) (left : ℕ) (e : Entry)
    (w : Walk ks es number ms out links left) (t : 0 < left) (g : e ≡ get_or es (left - 1) e) (o : WasOpen (take (left - 1) es) e) where
  in_range : left - 1 < length es
  in_range = let z = w.within in omega (arith, t)

  next : left - 1 + 1 ≡ left
  next = omega (arith, t)

  abbrev pub F0 : Lit → Bool
  F0 x = is_false (value_in (take (left - 1) es) x)

  abbrev pub F1 : Lit → Bool
  F1 x = is_false (value_in (take left es) x)

  abbrev pub p : Lit
  p = flip e.lit

  less : (x : Lit) → F1 x ≡ true → (same_lit x p || F0 x) ≡ true
  less x h = false-less es (left - 1) e x in_range g o (ap (λ z. is_false (value_in (take z es) x)) next ∙ h)

  pushed : take left es ≡ take (left - 1) es ++ e ∷ []
  pushed = ap (λ z. take z es) (sym next) ∙ (take_more es (left - 1) e in_range ∙ ap (λ z. take (left - 1) es ++ z ∷ []) (sym g))

  more : (x : Lit) → F0 x ≡ true → F1 x ≡ true
  more x h = false-later es (left - 1) left x (omega arith) h

  pub own : F1 p ≡ true
  own =
      let s : sign_at (take left es) e.lit.var ≡ Some e.lit.neg = ap (λ z. sign_at z e.lit.var) pushed ∙ sign_at-push_same (take (left - 1) es) e e.lit.var o refl in
      ap (λ z. is_false (option_map (λ n. same_sign n (not e.lit.neg)) z)) s ∙ turned e.lit.neg
    where
      turned : (b : Bool) → is_false (option_map (λ n. same_sign n (not b)) (Some b)) ≡ true
      turned true = refl
      turned false = refl

  gone : F0 p ≡ false
  gone = ap (λ z. is_false (option_map (λ n. same_sign n (not e.lit.neg)) z)) o

  -- the pivot is in the clause where it is marked
  pub pivot-has : is_marked ms e.lit.var ≡ true → has w.clause p ≡ true
  pivot-has m = w.same p ∙ or_right (has out p) (F1 p && is_marked ms e.lit.var) (and_from (F1 p) (is_marked ms e.lit.var) own m)

  pub pivot-absent : is_marked ms e.lit.var ≡ false → has w.clause p ≡ false
  pivot-absent m = goes (has w.clause p) refl
    where
      goes : (b : Bool) → has w.clause p ≡ b → b ≡ false
      goes false e' = refl
      goes true e' =
          elim (or_cases (has out p) (F1 p && is_marked ms e.lit.var) (sym (w.same p) ∙ e')) [
            | inl q ↦ absurd (both_ways (F1 p) (w.apart p q) own)
            | inr q ↦ absurd (both_ways (is_marked ms e.lit.var) m (and_parts (F1 p) (is_marked ms e.lit.var) q).1)
          ]

  -- what was put out is not false before the entry
  out-apart : (x : Lit) → has out x ≡ true → F0 x ≡ false
  out-apart x h = goes (F0 x) refl
    where
      goes : (b : Bool) → F0 x ≡ b → b ≡ false
      goes false q = refl
      goes true q = absurd (both_ways (F1 x) (w.apart x h) (more x q))

  pub walk-skips : is_marked ms e.lit.var ≡ false → Walk ks es number ms out links (left - 1)
  walk-skips m = record {
    within = omega (arith, in_range);
    marks = w.marks;
    clause = w.clause;
    derives = w.derives;
    same = λ x. w.same x ∙ iff_eq (has out x || (F1 x && is_marked ms x.var)) (has out x || (F0 x && is_marked ms x.var))
        (λ h. elim (or_cases (has out x) (F1 x && is_marked ms x.var) h) [
          | inl q ↦ or_left (has out x) (F0 x && is_marked ms x.var) q
          | inr q ↦
              let b = and_parts (F1 x) (is_marked ms x.var) q in
              elim (or_cases (same_lit x p) (F0 x) (less x b.0)) [
                | inl s ↦ absurd (both_ways (is_marked ms e.lit.var) m (ap (λ (z : Lit). is_marked ms z.var) (sym (same_lit-true x p s)) ∙ b.1))
                | inr s ↦ or_right (has out x) (F0 x && is_marked ms x.var) (and_from (F0 x) (is_marked ms x.var) s b.1)
              ]
        ])
        (λ h. elim (or_cases (has out x) (F0 x && is_marked ms x.var) h) [
          | inl q ↦ or_left (has out x) (F1 x && is_marked ms x.var) q
          | inr q ↦ let b = and_parts (F0 x) (is_marked ms x.var) q in or_right (has out x) (F1 x && is_marked ms x.var) (and_from (F1 x) (is_marked ms x.var) (more x b.0) b.1)
        ]);
    apart = out-apart;
  }

  pub skips-clause : (m : is_marked ms e.lit.var ≡ false) → (walk-skips m).clause ≡ w.clause
  unfolding walk-skips
  skips-clause m = refl

  -- a marked decision is put out
  pub walk-decides : is_marked ms e.lit.var ≡ true → Walk ks es number ms (out ++ p ∷ []) links (left - 1)
  walk-decides m = record {
    within = omega (arith, in_range);
    marks = w.marks;
    clause = w.clause;
    derives = w.derives;
    same = λ x. w.same x ∙ iff_eq (has out x || (F1 x && is_marked ms x.var)) (has (out ++ p ∷ []) x || (F0 x && is_marked ms x.var))
        (λ h. elim (or_cases (has out x) (F1 x && is_marked ms x.var) h) [
          | inl q ↦ or_left (has (out ++ p ∷ []) x) (F0 x && is_marked ms x.var) (out-more x (or_left (has out x) (same_lit p x || false) q))
          | inr q ↦
              let b = and_parts (F1 x) (is_marked ms x.var) q in
              elim (or_cases (same_lit x p) (F0 x) (less x b.0)) [
                | inl s ↦ or_left (has (out ++ p ∷ []) x) (F0 x && is_marked ms x.var)
                    (out-more x (or_right (has out x) (same_lit p x || false) (or_left (same_lit p x) false (ap (same_lit p) (same_lit-true x p s) ∙ lit-self p))))
                | inr s ↦ or_right (has (out ++ p ∷ []) x) (F0 x && is_marked ms x.var) (and_from (F0 x) (is_marked ms x.var) s b.1)
              ]
        ])
        (λ h. elim (or_cases (has (out ++ p ∷ []) x) (F0 x && is_marked ms x.var) h) [
          | inl q ↦ elim (out-less x q) [
            | inl r ↦ or_left (has out x) (F1 x && is_marked ms x.var) r
            | inr r ↦ or_right (has out x) (F1 x && is_marked ms x.var) (and_from (F1 x) (is_marked ms x.var) (ap F1 r ∙ own) (ap (λ (z : Lit). is_marked ms z.var) r ∙ m))
          ]
          | inr q ↦ let b = and_parts (F0 x) (is_marked ms x.var) q in or_right (has out x) (F1 x && is_marked ms x.var) (and_from (F1 x) (is_marked ms x.var) (more x b.0) b.1)
        ]);
    apart = λ x h. elim (out-less x h) [ inl q ↦ out-apart x q | inr q ↦ ap F0 q ∙ gone ];
  }
    where
      out-more : (x : Lit) → (has out x || (same_lit p x || false)) ≡ true → has (out ++ p ∷ []) x ≡ true
      out-more x h = list_any-append (λ z. same_lit z x) out (p ∷ []) ∙ h

      out-less : (x : Lit) → has (out ++ p ∷ []) x ≡ true → (has out x ≡ true) ⊎ (x ≡ p)
      out-less x h =
          elim (or_cases (has out x) (same_lit p x || false) (sym (list_any-append (λ z. same_lit z x) out (p ∷ [])) ∙ h)) [
            | inl q ↦ inl q
            | inr q ↦ elim (or_cases (same_lit p x) false q) [
              | inl s ↦ inr (sym (same_lit-true p x s))
              | inr s ↦ absurd (false≢true s)
            ]
          ]

  -- a marked literal is resolved by the clause that set its negation
  pub walk-resolves : (n : ℕ) (ns : List Entry) (k : List Lit) → is_marked ms e.lit.var ≡ true → Forces ks (take (left - 1) es) e.lit n → named ks n ≡ Some k → AreFalse es ns → Marks ms ns (Some e.lit) k
      → Walk ks es number ns out (links ++ record { pivot = p; clause = n } ∷ []) (left - 1)
  walk-resolves n ns k m f q a u = record {
    within = omega (arith, in_range);
    marks = a;
    clause = resolvent w.clause p k;
    derives = after_links-push ks (started (named ks number)) links (record { pivot = p; clause = n }) w.clause (resolvent w.clause p k) w.derives
        (after_link-ok ks w.clause p n k q (pivot-has m) (ap (has k) (flip-flip e.lit) ∙ here));
    same = λ x. has-resolvent w.clause p k x ∙ iff_eq ((has w.clause x && not (same_lit x p)) || (has k x && not (same_lit x (flip p)))) (has out x || (F0 x && is_marked ns x.var)) (to x) (from x);
    apart = out-apart;
  }
    where
      d : k ≡ f.0
      d = same_Some k f.0 (sym q ∙ f.1)

      here : has k e.lit ≡ true
      here = ap (λ z. has z e.lit) d ∙ f.2

      -- the other literals of the reason
      others : (x : Lit) → has k x ≡ true → (same_lit x e.lit || F0 x) ≡ true
      others x h = all-has (λ z. same_lit z e.lit || F0 z) k x (ap (λ z. is_false_but (take (left - 1) es) e.lit z) d ∙ f.3) h

      unflipped : (x : Lit) → not (same_lit x (flip p)) ≡ true → same_lit x e.lit ≡ false
      unflipped x h = not-true (same_lit x e.lit) (ap (λ z. not (same_lit x z)) (sym (flip-flip e.lit)) ∙ h)

      to : (x : Lit) → ((has w.clause x && not (same_lit x p)) || (has k x && not (same_lit x (flip p)))) ≡ true → (has out x || (F0 x && is_marked ns x.var)) ≡ true
      to x h =
          elim (or_cases (has w.clause x && not (same_lit x p)) (has k x && not (same_lit x (flip p))) h) [
            | inl r ↦
                let b = and_parts (has w.clause x) (not (same_lit x p)) r in
                elim (or_cases (has out x) (F1 x && is_marked ms x.var) (sym (w.same x) ∙ b.0)) [
                  | inl s ↦ or_left (has out x) (F0 x && is_marked ns x.var) s
                  | inr s ↦
                      let y = and_parts (F1 x) (is_marked ms x.var) s in
                      elim (or_cases (same_lit x p) (F0 x) (less x y.0)) [
                        | inl z ↦ absurd (both_ways (same_lit x p) (not-true (same_lit x p) b.1) z)
                        | inr z ↦ or_right (has out x) (F0 x && is_marked ns x.var)
                            (and_from (F0 x) (is_marked ns x.var) z (u x.var ∙ or_left (is_marked ms x.var) (touches (Some e.lit) k x.var) y.1))
                      ]
                ]
            | inr r ↦
                let b = and_parts (has k x) (not (same_lit x (flip p))) r in
                let s : same_lit x e.lit ≡ false = unflipped x b.1 in
                elim (or_cases (same_lit x e.lit) (F0 x) (others x b.0)) [
                  | inl z ↦ absurd (both_ways (same_lit x e.lit) s z)
                  | inr z ↦ or_right (has out x) (F0 x && is_marked ns x.var)
                      (and_from (F0 x) (is_marked ns x.var) z (u x.var ∙ or_right (is_marked ms x.var) (touches (Some e.lit) k x.var) (touches-to (Some e.lit) k x b.0 s)))
                ]
          ]

      not_pivot : (x : Lit) → F0 x ≡ true → not (same_lit x p) ≡ true
      not_pivot x h = goes (same_lit x p) refl
        where
          goes : (b : Bool) → same_lit x p ≡ b → not b ≡ true
          goes false r = refl
          goes true r = absurd (both_ways (F0 x) (ap F0 (same_lit-true x p r) ∙ gone) h)

      from : (x : Lit) → (has out x || (F0 x && is_marked ns x.var)) ≡ true → ((has w.clause x && not (same_lit x p)) || (has k x && not (same_lit x (flip p)))) ≡ true
      from x h =
          elim (or_cases (has out x) (F0 x && is_marked ns x.var) h) [
            | inl r ↦ or_left (has w.clause x && not (same_lit x p)) (has k x && not (same_lit x (flip p)))
                (and_from (has w.clause x) (not (same_lit x p)) (w.same x ∙ or_left (has out x) (F1 x && is_marked ms x.var) r) (out-pivot x r))
            | inr r ↦
                let b = and_parts (F0 x) (is_marked ns x.var) r in
                elim (or_cases (is_marked ms x.var) (touches (Some e.lit) k x.var) (sym (u x.var) ∙ b.1)) [
                  | inl s ↦ or_left (has w.clause x && not (same_lit x p)) (has k x && not (same_lit x (flip p)))
                      (and_from (has w.clause x) (not (same_lit x p)) (w.same x ∙ or_right (has out x) (F1 x && is_marked ms x.var) (and_from (F1 x) (is_marked ms x.var) (more x b.0) s)) (not_pivot x b.0))
                  | inr s ↦
                      let y = touches-from (Some e.lit) k x.var s in
                      let z : F0 y.0 ≡ true = elim (or_cases (same_lit y.0 e.lit) (F0 y.0) (others y.0 y.1)) [
                        | inl q ↦ absurd (both_ways (same_lit y.0 e.lit) y.2 q)
                        | inr q ↦ q
                      ] in
                      let v : x ≡ y.0 = false-one (take (left - 1) es) x y.0 b.0 z (sym y.3) in
                      or_right (has w.clause x && not (same_lit x p)) (has k x && not (same_lit x (flip p)))
                      (and_from (has k x) (not (same_lit x (flip p))) (ap (has k) v ∙ y.1) (ap not (ap (λ z. same_lit x z) (flip-flip e.lit) ∙ (ap (λ z. same_lit z e.lit) v ∙ y.2))))
                ]
          ]
        where
          out-pivot : (x : Lit) → has out x ≡ true → not (same_lit x p) ≡ true
          out-pivot x r = goes (same_lit x p) refl
            where
              goes : (b : Bool) → same_lit x p ≡ b → not b ≡ true
              goes false s = refl
              goes true s = absurd (both_ways (F1 x) (w.apart x r) (ap F1 (same_lit-true x p s) ∙ own))

  pub resolves-clause : (n : ℕ) (ns : List Entry) (k : List Lit) (m : is_marked ms e.lit.var ≡ true) (f : Forces ks (take (left - 1) es) e.lit n) (q : named ks n ≡ Some k) (a : AreFalse es ns)
      (u : Marks ms ns (Some e.lit) k) → (walk-resolves n ns k m f q a u).clause ≡ resolvent w.clause p k
  unfolding walk-resolves
  resolves-clause n ns k m f q a u = refl
