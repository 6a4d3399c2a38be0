-- Decided literals are assumed ones, up to the first trail that makes all of these true
use Rattle.std.proofs.Common.{◌≡◌, ℕ, ◌<◌, ◌≤◌, Bool, true, false, ◌||◌, not, List, [], length, refl, ap, sym, ◌∙◌, subst, arith, Option, Some, None, get_or, take, ◌⊎◌, inl, inr}
use Rattle.std.specs.Option.{option_map}
use Rattle.std.proofs.lemmas.Bool.{or_cases, cases_lt, both_ways, false≢true, false_from_ne_true}
use Rattle.std.proofs.lemmas.List.{take-take, get_or-take, length-take-le, take_all}
use Rattle.svr_chain.specs.declared.clause.Lit.{Lit}
use Rattle.svr_chain.specs.Clauses.{same_sign, flip, has, is_tautology}
use Rattle.svr_chain.proofs.Sound.{same_lit-true}
use Rattle.svr_chain.proofs.Same.{all-has, any-has, any-some}
use Rattle.svr_trail.specs.declared.Entry.{Entry}
use Rattle.svr_trail.specs.Trail.{sign_at, value_in, Each, IsGrown, reason_in}
use Rattle.svr_cdcl.specs.Search.{SearchView, IsSearch}
use Rattle.svr_cdcl.specs.Learned.{is_decided, is_kept, is_explained}
use Rattle.svr_query.specs.Logged.{is_true, are_true, IsAsked}
use Rattle.svr_chain.specs.Log.{are_denied}
use Rattle.svr_chain.proofs.ClauseLemmas.{all-weaker, flip-flip}
use Rattle.svr_cdcl.proofs.Decided.{decided-from_none, decided-index, none_at_0}
use Rattle.svr_trail.proofs.Trails.{not_none, sign_at-take}

-- what holds of decided entries alone holds as a propagation goes on
pub decided-grown : (Q : List Entry → Entry → Type 0) (ks : List (List Lit)) (old new : List Entry) → Each (λ es e. e.reason ≡ None → Q es e) old → IsGrown ks old new
    → Each (λ es e. e.reason ≡ None → Q es e) new
decided-grown Q ks old new a g i e h =
    elim (cases_lt i (length old)) [
      | inl q ↦
          let t : take i old ≡ take i new = ap (take i) (sym g.same) ∙ take-take i (length old) new (omega arith) in
          let at : get_or old i e ≡ get_or new i e = ap (λ z. get_or z i e) (sym g.same) ∙ get_or-take (length old) new i e q in
          subst (λ z. (get_or new i e).reason ≡ None → Q z (get_or new i e)) t (subst (λ z. z.reason ≡ None → Q (take i old) z) at (a i e q))
      | inr q ↦ λ n. absurd (not_none (get_or new i e).reason (g.forced i e q h) n)
    ]

pub each-take : (P : List Entry → Entry → Type 0) (n : ℕ) (es : List Entry) → n ≤ length es → Each P es → Each P (take n es)
each-take P n es o a i e h =
    let l : length (take n es) ≡ n = length-take-le n es o in
    let t : take i es ≡ take i (take n es) = sym (take-take i n es (omega arith)) in
    let at : get_or es i e ≡ get_or (take n es) i e = sym (get_or-take n es i e (omega arith)) in
    subst (λ z. P z (get_or (take n es) i e)) t (subst (λ z. P (take i es) z) at (a i e (omega arith)))

-- a propagation decides nothing
pub asked-grown : (assume : List Lit) (ks : List (List Lit)) (old new : List Entry) → Each (IsAsked assume) old → IsGrown ks old new → Each (IsAsked assume) new
asked-grown assume ks old new a g = decided-grown (λ es e. (has assume e.lit ≡ true) ⊎ (are_true es assume ≡ true)) ks old new a g

pub asked-take : (assume : List Lit) (n : ℕ) (es : List Entry) → n ≤ length es → Each (IsAsked assume) es → Each (IsAsked assume) (take n es)
asked-take assume n es o a = each-take (IsAsked assume) n es o a

pub decided-has : (assume : List Lit) (es : List Entry) → Each (IsAsked assume) es → ((i : ℕ) → i < length es → are_true (take i es) assume ≡ true → ⊥)
    → (l : Lit) → is_decided es l ≡ true → has assume l ≡ true
decided-has assume es a f l h =
    let d : Entry = record { lit = l; reason = None } in
    let r = decided-index es l d h in
    elim (a r.0 d r.1 r.3) [
      | inl q ↦ ap (has assume) (sym r.2) ∙ q
      | inr q ↦ absurd (f r.0 r.1 q)
    ]

pub decided-never : (assume : List Lit) (s : SearchView) → IsSearch s → s.ends ≡ [] → (l : Lit) → is_decided s.entries l ≡ true → has assume l ≡ true
decided-never assume s k z l h =
    let d : Entry = record { lit = l; reason = None } in
    let r = decided-index s.entries l d h in
    absurd (none_at_0 s k z r.0 d r.1 r.3)

true-value : (f : Bool → Bool) (s t : Option Bool) → ((b : Bool) → s ≡ Some b → t ≡ Some b) → is_true (option_map f s) ≡ true → is_true (option_map f t) ≡ true
true-value f None t g h = cc
true-value f (Some b) t g h = ap (λ z. is_true (option_map f z)) (g b refl) ∙ h

pub true-grows : (es : List Entry) (j : ℕ) (x : Lit) → j ≤ length es → is_true (value_in (take j es) x) ≡ true → is_true (value_in es x) ≡ true
true-grows es j x o h =
    let all : take (length es) es ≡ es = take_all (length es) es (omega arith) in
    ap (λ z. is_true (value_in z x)) (sym all)
    ∙ true-value (λ n. same_sign n x.neg) (sign_at (take j es) x.var) (sign_at (take (length es) es) x.var) (λ b e. sign_at-take es j (length es) x.var b o e) h

-- where an assumed literal is false, the assumed ones were never all true
pub never-true : (assume : List Lit) (es : List Entry) (a : Lit) → has assume a ≡ true → value_in es a ≡ Some false → (i : ℕ) → i < length es → are_true (take i es) assume ≡ true → ⊥
never-true assume es a h f i o t =
    let u : is_true (value_in (take i es) a) ≡ true = all-has (λ x. is_true (value_in (take i es) x)) assume a t h in
    both_ways (is_true (value_in es a)) (ap is_true f) (true-grows es i a (omega arith) u)

pub denied-from : (assume : List Lit) (es : List Entry) (keep : Option Lit) (c : List Lit) → ((l : Lit) → is_decided es l ≡ true → has assume l ≡ true)
    → ((x : Lit) → is_kept keep x ≡ true → has assume (flip x) ≡ true) → is_explained es keep c ≡ true → are_denied assume c ≡ true
denied-from assume es keep c d k e =
    all-weaker (λ x. is_kept keep x || is_decided es (flip x)) (λ x. has assume (flip x)) c
    (λ x h. elim (or_cases (is_kept keep x) (is_decided es (flip x)) h) [ inl q ↦ k x q | inr q ↦ d (flip x) q ]) e

pub kept-none : (assume : List Lit) (x : Lit) → is_kept None x ≡ true → has assume (flip x) ≡ true
kept-none assume x h = absurd (false≢true h)

pub kept-flip : (assume : List Lit) (a x : Lit) → has assume a ≡ true → is_kept (Some (flip a)) x ≡ true → has assume (flip x) ≡ true
kept-flip assume a x h k = ap (λ z. has assume (flip z)) (same_lit-true x (flip a) k) ∙ (ap (has assume) (flip-flip a) ∙ h)

turned_true : (s : Option Bool) (n : Bool) → option_map (λ b. same_sign b n) s ≡ Some false → option_map (λ b. same_sign b (not n)) s ≡ Some true
turned_true None n h = cc
turned_true (Some true) true h = cc
turned_true (Some true) false h = refl
turned_true (Some false) true h = refl
turned_true (Some false) false h = cc

-- an assumed literal that is false was not decided
pub reason-there : (assume : List Lit) (es : List Entry) (a : Lit) → is_tautology assume ≡ false → has assume a ≡ true → value_in es a ≡ Some false
    → ((l : Lit) → is_decided es l ≡ true → has assume l ≡ true) → reason_in es (flip a) ≡ None → ⊥
reason-there assume es a t h f d n =
    let v : value_in es (flip a) ≡ Some true = turned_true (sign_at es a.var) a.neg f in
    let b : has assume (flip a) ≡ true = d (flip a) (decided-from_none es (flip a) v n) in
    both_ways (is_tautology assume) t (any-has (λ x. has assume (flip x)) assume a h b)

-- a clause whose literals are all denied is no tautology
pub denied-apart : (assume c : List Lit) → is_tautology assume ≡ false → are_denied assume c ≡ true → is_tautology c ≡ false
denied-apart assume c t d =
    false_from_ne_true (is_tautology c) (λ h.
    let r = any-some (λ x. has c (flip x)) c h in
    let p : has assume (flip r.0) ≡ true = all-has (λ x. has assume (flip x)) c r.0 d r.1 in
    let q : has assume (flip (flip r.0)) ≡ true = all-has (λ x. has assume (flip x)) c (flip r.0) d r.2 in
    both_ways (is_tautology assume) t (any-has (λ x. has assume (flip x)) assume (flip r.0) p q))
