-- Trails that grow by forced entries
use Rattle.std.proofs.Common.{◌≡◌, ℕ, ◌+◌, ◌<◌, ◌≤◌, true, false, List, [], ◌∷◌, ◌++◌, length, refl, ap, sym, ◌∙◌, arith, Some, None, get_or, take, inl, inr}
use Rattle.std.specs.Prelude.{IsSome}
use Rattle.std.proofs.Common.{add-one}
use Rattle.std.proofs.Common.{◌||◌}
use Rattle.std.proofs.lemmas.Bool.{cases_lt, or_cases, false≢true}
use Rattle.svr_chain.proofs.Same.{all-has}
use Rattle.std.proofs.lemmas.Option.{slice_get-get_or}
use Rattle.svr_chain.specs.Log.{named}
use Rattle.svr_chain.specs.Clauses.{has, same_lit}
use Rattle.svr_chain.proofs.Sound.{same_lit-true}
use Rattle.std.proofs.lemmas.List.{length_push, take-append-le, get_or_append_left, get_or_at, take_all, take-take, get_or-take}
use Rattle.svr_chain.specs.declared.clause.Lit.{Lit}
use Rattle.svr_trail.specs.declared.Entry.{Entry}
use Rattle.svr_trail.specs.Trail.{value_in, is_false, IsUnit, Each, Forces, HasReason, IsGrown}
use Rattle.svr_trail.proofs.Trails.{Each-push}

pub grown-none : (ks : List (List Lit)) (es : List Entry) → Each (HasReason ks) es → IsGrown ks es es
grown-none ks es r = record { longer = omega arith; same = take_all (length es) es (omega arith); forced = λ i e a b. absurd (omega arith); reasons = r }

forced-push : (old es : List Entry) (e : Entry) → ((i : ℕ) (d : Entry) → length old ≤ i → i < length es → IsSome (get_or es i d).reason) → IsSome e.reason
    → (i : ℕ) (d : Entry) → length old ≤ i → i < length (es ++ e ∷ []) → IsSome (get_or (es ++ e ∷ []) i d).reason
forced-push old es e a p i d o h =
    let l = length_push es e in
    elim (cases_lt i (length es)) [
      | inl q ↦ let g : get_or (es ++ e ∷ []) i d ≡ get_or es i d = get_or_append_left es (e ∷ []) d i q in rw g (a i d o q)
      | inr q ↦ let n : length es ≡ i = omega arith in let g : get_or (es ++ e ∷ []) i d ≡ e = get_or_at es e [] d i n in rw g p
    ]

pub grown-push : (ks : List (List Lit)) (old es : List Entry) (l : Lit) (n : ℕ) → IsGrown ks old es → Forces ks es l n → IsGrown ks old (es ++ record { lit = l; reason = Some n } ∷ [])
grown-push ks old es l n g f =
    let e : Entry = record { lit = l; reason = Some n } in
    record {
      longer = omega (arith, length_push es e, g.longer);
      same = take-append-le (length old) es (e ∷ []) g.longer ∙ g.same;
      forced = λ i d a b. forced-push old es e g.forced refl i d a b;
      reasons = Each-push (HasReason ks) es e g.reasons f;
    }

pub named-at : (ks : List (List Lit)) (i n : ℕ) (d : List Lit) → i < length ks → n ≡ i + 1 → named ks n ≡ Some (get_or ks i d)
named-at ks i n d h e = rw (e, add-one) (slice_get-get_or ks i d h)

pub forces-from_unit : (ks : List (List Lit)) (es : List Entry) (i n : ℕ) (d c : List Lit) (p : Lit) → i < length ks → n ≡ i + 1 → c ≡ get_or ks i d → IsUnit es c p → Forces ks es p n
forces-from_unit ks es i n d c p h e q u = (c, named-at ks i n d h e ∙ ap Some (sym q), u.1, u.2)

pub grown-trans : (ks : List (List Lit)) (a b c : List Entry) → IsGrown ks a b → IsGrown ks b c → IsGrown ks a c
grown-trans ks a b c g h =
    let t : take (length a) (take (length b) c) ≡ take (length a) c = take-take (length a) (length b) c g.longer in
    record {
      longer = omega (arith, g.longer, h.longer);
      same = sym t ∙ ap (take (length a)) h.same ∙ g.same;
      forced = λ i d o k. elim (cases_lt i (length b)) [
        | inl q ↦ let e : get_or b i d ≡ get_or c i d = ap (λ z. get_or z i d) (sym h.same) ∙ get_or-take (length b) c i d q in rw (← e) (g.forced i d o q)
        | inr q ↦ h.forced i d q k
      ];
      reasons = h.reasons;
    }
