-- Literals that are marked one by one
use Rattle.std.proofs.Common.{◌≡◌, ℕ, ◌+◌, ◌<◌, ◌≤◌, Bool, true, false, ◌&&◌, ◌||◌, not, nat_eq, List, [], ◌∷◌, ◌++◌, length, refl, ap, sym, ◌∙◌, subst, arith, get_or, take, drop, map, Option, Some, None, cond, inl, inr}
use Rattle.std.specs.Option.{option_map}
use Rattle.std.proofs.lemmas.Bool.{or_cases, or_left, or_right, both_ways, eq-eqb, false≢true, false_from_ne_true, and_from}
use Rattle.std.proofs.lemmas.List.{take-append-drop, take_more}
use Rattle.std.proofs.lemmas.List.Folds.{list_any-append}
use Rattle.std.proofs.lemmas.Option.{same_Some}
use Rattle.svr_arena.specs.Layout.{is_in}
use Rattle.svr_chain.specs.declared.clause.Lit.{Lit}
use Rattle.svr_chain.specs.Clauses.{flip, has, is_tautology, same_lit, same_sign}
use Rattle.svr_chain.proofs.Sound.{same_lit-true}
use Rattle.svr_chain.proofs.Same.{any-has, any-some, has-at, lit-self}
use Rattle.svr_trail.specs.declared.Entry.{Entry}
use Rattle.svr_trail.specs.Trail.{sign_at, value_in}
use Rattle.svr_trail.proofs.Trails.{or_else, sign_at-open, sign_at-push, sign_at-push_same, true-kept}
use Rattle.svr_watch.specs.Codes.{code_of, lit_of}
use Rattle.svr_watch.specs.Store.{AreCodes}
use Rattle.svr_watch.proofs.Distinct.{has-push, in-has, or-more}
use Rattle.svr_watch.proofs.Numbers.{lit_of-code}

-- the literals are just those that the marks make true
pub record AreMarked (es : List Entry) (ls : List Lit) : Type 0 where
  pub there : (x : Lit) → has ls x ≡ true → value_in es x ≡ Some true
  pub back : (x : Lit) → value_in es x ≡ Some true → has ls x ≡ true

pub marked-none : AreMarked [] []
marked-none = record { there = λ x h. absurd (false≢true h); back = λ x h. absurd (let z : None ≡ Some true = h in cc) }

self-sign : (b : Bool) → same_sign b b ≡ true
self-sign true = refl
self-sign false = refl

-- a literal more, which was open
pub marked-new : (es : List Entry) (ls : List Lit) (l : Lit) → AreMarked es ls → value_in es l ≡ None → AreMarked (es ++ record { lit = l; reason = None } ∷ []) (ls ++ l ∷ [])
marked-new es ls l m o = record { there = there; back = back }
  where
    e : Entry
    e = record { lit = l; reason = None }

    own : value_in (es ++ e ∷ []) l ≡ Some true
    own = ap (option_map (λ n. same_sign n l.neg)) (sign_at-push_same es e l.var (sign_at-open es l o) refl) ∙ ap Some (self-sign l.neg)

    there : (x : Lit) → has (ls ++ l ∷ []) x ≡ true → value_in (es ++ e ∷ []) x ≡ Some true
    there x h =
        elim (or_cases (has ls x) (same_lit l x || false) (sym (has-push ls l x) ∙ h)) [
          | inl q ↦ true-kept es e x (m.there x q)
          | inr q ↦ elim (or_cases (same_lit l x) false q) [
            | inl s ↦ subst (λ z. value_in (es ++ e ∷ []) z ≡ Some true) (same_lit-true l x s) own
            | inr s ↦ absurd (false≢true s)
          ]
        ]

    last : (s : Option Bool) (t : Bool) (x : Lit) → nat_eq l.var x.var ≡ t → sign_at es x.var ≡ s → option_map (λ n. same_sign n x.neg) (or_else s (cond t (Some l.neg) None)) ≡ Some true
        → has (ls ++ l ∷ []) x ≡ true
    last (Some b) t x n q h =
        has-push ls l x ∙ or_left (has ls x) (same_lit l x || false) (m.back x (ap (option_map (λ k. same_sign k x.neg)) q ∙ h))
    last None true x n q h =
        has-push ls l x ∙ or_right (has ls x) (same_lit l x || false) (or_left (same_lit l x) false (and_from (same_sign l.neg x.neg) (nat_eq l.var x.var) (same_Some _ _ h) n))
    last None false x n q h = absurd (let z : None ≡ Some true = h in cc)

    back : (x : Lit) → value_in (es ++ e ∷ []) x ≡ Some true → has (ls ++ l ∷ []) x ≡ true
    back x h = last (sign_at es x.var) (nat_eq l.var x.var) x refl refl (ap (option_map (λ n. same_sign n x.neg)) (sym (sign_at-push es e x.var)) ∙ h)

-- a literal more, which is marked
pub marked-old : (es : List Entry) (ls : List Lit) (l : Lit) → AreMarked es ls → value_in es l ≡ Some true → AreMarked es (ls ++ l ∷ [])
marked-old es ls l m o = record {
  there = λ x h. elim (or_cases (has ls x) (same_lit l x || false) (sym (has-push ls l x) ∙ h)) [
    | inl q ↦ m.there x q
    | inr q ↦ elim (or_cases (same_lit l x) false q) [
      | inl s ↦ subst (λ z. value_in es z ≡ Some true) (same_lit-true l x s) o
      | inr s ↦ absurd (false≢true s)
    ]
  ];
  back = λ x h. has-push ls l x ∙ or_left (has ls x) (same_lit l x || false) (m.back x h);
}

-- a literal more, which is there
pub codes-there : (xs : List ℕ) (ls : List Lit) (l : Lit) → AreCodes xs ls → has ls l ≡ true → AreCodes xs (ls ++ l ∷ [])
codes-there xs ls l k h = record {
  same = λ x. k.same x ∙ (or-more (has ls x) (same_lit l x) (λ e. subst (λ z. has ls z ≡ true) (same_lit-true l x e) h) ∙ sym (has-push ls l x));
  apart = k.apart;
}

-- the number of a literal that is not there is new
pub code-new : (xs : List ℕ) (ls : List Lit) (l : Lit) → 0 < l.var → AreCodes xs ls → has ls l ≡ false → is_in (code_of l) xs ≡ false
code-new xs ls l pos k h =
    false_from_ne_true (is_in (code_of l) xs) (λ q.
    both_ways (has ls l) h (sym (k.same l) ∙ (ap (has (map lit_of xs)) (sym (lit_of-code l pos)) ∙ in-has xs (code_of l) q)))

none-not_true : (o : Option Bool) → o ≡ None → o ≡ Some true → ⊥
none-not_true None e h = cc
none-not_true (Some b) e h = cc

-- what is open is not there
pub open-absent : (es : List Entry) (ls : List Lit) (l : Lit) → AreMarked es ls → value_in es l ≡ None → has ls l ≡ false
open-absent es ls l m o = false_from_ne_true (has ls l) (λ h. none-not_true (value_in es l) o (m.there l h))

not_both : (s : Option Bool) (n : Bool) → option_map (λ b. same_sign b n) s ≡ Some true → option_map (λ b. same_sign b (not n)) s ≡ Some true → ⊥
not_both None n h g = cc
not_both (Some true) true h g = false≢true (same_Some _ _ g)
not_both (Some true) false h g = false≢true (same_Some _ _ h)
not_both (Some false) true h g = false≢true (same_Some _ _ h)
not_both (Some false) false h g = false≢true (same_Some _ _ g)

-- marked literals are no tautology
pub marked-plain : (es : List Entry) (ls : List Lit) → AreMarked es ls → is_tautology ls ≡ false
marked-plain es ls m =
    false_from_ne_true (is_tautology ls) (λ h.
    let r = any-some (λ x. has ls (flip x)) ls h in
    not_both (sign_at es (r.0).var) (r.0).neg (m.there r.0 r.1) (m.there (flip r.0) r.2))

turned_true : (s : Option Bool) (n : Bool) → option_map (λ b. same_sign b n) s ≡ Some false → option_map (λ b. same_sign b (not n)) s ≡ Some true
turned_true None n h = cc
turned_true (Some true) true h = cc
turned_true (Some true) false h = refl
turned_true (Some false) true h = refl
turned_true (Some false) false h = cc

-- a literal whose negation is marked
pub marked-opposite : (es : List Entry) (ls : List Lit) (i : ℕ) (d : Lit) → i < length ls → AreMarked es (take i ls) → value_in es (get_or ls i d) ≡ Some false → is_tautology ls ≡ true
marked-opposite es ls i d h m f =
    let l : Lit = get_or ls i d in
    let g : has (take i ls) (flip l) ≡ true = m.back (flip l) (turned_true (sign_at es l.var) l.neg f) in
    let w : has ls (flip l) ≡ true
    = ap (λ z. has z (flip l)) (sym (take-append-drop i ls)) ∙ (list_any-append (λ y. same_lit y (flip l)) (take i ls) (drop i ls) ∙ or_left (has (take i ls) (flip l)) (has (drop i ls) (flip l)) g) in
    any-has (λ x. has ls (flip x)) ls l (has-at ls i d h) w

-- neither true nor false is open
pub neither-open : (o : Option Bool) → (o ≡ Some true → ⊥) → (o ≡ Some false → ⊥) → o ≡ None
neither-open None t f = refl
neither-open (Some true) t f = absurd (t refl)
neither-open (Some false) t f = absurd (f refl)
