-- Values as a trail grows
use Rattle.std.proofs.Common.{◌≡◌, ℕ, ◌+◌, ◌<◌, ◌≤◌, Bool, true, false, List, [], ◌∷◌, ◌++◌, length, refl, ap, sym, ◌∙◌, Option, Some, None, get_or, take, inl, inr}
use Rattle.std.specs.Prelude.{◌⊎◌}
use Rattle.std.specs.Option.{option_map}
use Rattle.std.proofs.lemmas.Bool.{false≢true}
use Rattle.std.proofs.lemmas.List.{take_more, take-take}
use Rattle.svr_arena.specs.Layout.{Layout}
use Rattle.svr_chain.specs.declared.clause.Lit.{Lit}
use Rattle.svr_chain.specs.Clauses.{same_sign, flip}
use Rattle.svr_chain.proofs.Sound.{same_lit-true}
use Rattle.svr_trail.specs.declared.Entry.{Entry}
use Rattle.svr_trail.specs.Trail.{sign_at, value_in, is_false}
use Rattle.svr_trail.proofs.Trails.{sign_at-take, sign_at-of_take, sign_at-open, sign_at-push_same}
use Rattle.svr_trail.proofs.Trails.{false-back}
use Rattle.svr_watch.specs.Store.{watch}
use Rattle.svr_watch.specs.Watch.{IsBacked, IsWatched}

-- what is false by the first j entries is false by the first k
pub false-later : (es : List Entry) (j k : ℕ) (x : Lit) → j ≤ k → is_false (value_in (take j es) x) ≡ true → is_false (value_in (take k es) x) ≡ true
false-later es j k x o h = goes (sign_at (take j es) x.var) refl
  where
    goes : (s : Option Bool) → sign_at (take j es) x.var ≡ s → is_false (value_in (take k es) x) ≡ true
    goes None e = absurd (false≢true (sym (ap (λ z. is_false (option_map (λ n. same_sign n x.neg) z)) e) ∙ h))
    goes (Some b) e = ap (λ z. is_false (option_map (λ n. same_sign n x.neg) z)) (sign_at-take es j k x.var b o e ∙ sym e) ∙ h

pub false-whole : (es : List Entry) (j : ℕ) (x : Lit) → is_false (value_in (take j es) x) ≡ true → is_false (value_in es x) ≡ true
false-whole es j x h = goes (sign_at (take j es) x.var) refl
  where
    goes : (s : Option Bool) → sign_at (take j es) x.var ≡ s → is_false (value_in es x) ≡ true
    goes None e = absurd (false≢true (sym (ap (λ z. is_false (option_map (λ n. same_sign n x.neg) z)) e) ∙ h))
    goes (Some b) e = ap (λ z. is_false (option_map (λ n. same_sign n x.neg) z)) (sign_at-of_take es j x.var b e ∙ sym e) ∙ h

pub value-whole : (es : List Entry) (j : ℕ) (x : Lit) (v : Bool) → value_in (take j es) x ≡ Some v → value_in es x ≡ Some v
value-whole es j x v h = goes (sign_at (take j es) x.var) refl
  where
    goes : (s : Option Bool) → sign_at (take j es) x.var ≡ s → value_in es x ≡ Some v
    goes None e = absurd (let z : None ≡ Some v = sym (ap (option_map (λ n. same_sign n x.neg)) e) ∙ h in cc)
    goes (Some b) e = ap (option_map (λ n. same_sign n x.neg)) (sign_at-of_take es j x.var b e ∙ sym e) ∙ h

pub value-grows : (es fs : List Entry) (x : Lit) (v : Bool) → take (length es) fs ≡ es → value_in es x ≡ Some v → value_in fs x ≡ Some v
value-grows es fs x v s h = value-whole fs (length es) x v (ap (λ z. value_in z x) s ∙ h)

pub front-same : (es fs : List Entry) (h : ℕ) → take (length es) fs ≡ es → h ≤ length es → take h fs ≡ take h es
front-same es fs h s o = sym (take-take h (length es) fs o) ∙ ap (take h) s

pub backed-grows : (es fs : List Entry) (h : ℕ) (x y : Lit) → take (length es) fs ≡ es → h ≤ length es → IsBacked es h x y → IsBacked fs h x y
backed-grows es fs h x y s o b f = value-grows es fs y true s (b (ap (λ z. is_false (value_in z x)) (sym (front-same es fs h s o)) ∙ f))

pub watched-grows : (es fs : List Entry) (h : ℕ) (a : Layout) (c : ℕ) → take (length es) fs ≡ es → h ≤ length es → IsWatched es h a c → IsWatched fs h a c
watched-grows es fs h a c s o w = (backed-grows es fs h (watch a c 0) (watch a c 1) s o w.0, backed-grows es fs h (watch a c 1) (watch a c 0) s o w.1)

-- what is false by one entry more was false before, or is the negation of that entry
pub false-next : (es : List Entry) (head : ℕ) (e : Entry) (x : Lit) → head < length es → is_false (value_in (take (head + 1) es) x) ≡ true
    → (is_false (value_in (take head es) x) ≡ true) ⊎ (x ≡ flip (get_or es head e).lit)
false-next es head e x h f =
    let t : take (head + 1) es ≡ take head es ++ get_or es head e ∷ [] = take_more es head e h in
    elim (false-back (take head es) (get_or es head e) x (ap (λ z. is_false (value_in z x)) (sym t) ∙ f)) [
      | inl g ↦ inl g
      | inr g ↦ inr (same_lit-true x (flip (get_or es head e).lit) g)
    ]

pub not_false-true : (o : Option Bool) → o ≡ Some true → is_false o ≡ true → ⊥
not_false-true None e f = absurd (false≢true f)
not_false-true (Some true) e f = absurd (false≢true f)
not_false-true (Some false) e f = absurd (let z : Some false ≡ Some true = e in cc)

-- a clause one of whose watched literals is true is watched well
pub watched-true_0 : (es : List Entry) (h : ℕ) (a : Layout) (c : ℕ) → value_in es (watch a c 0) ≡ Some true → IsWatched es h a c
watched-true_0 es h a c t = (λ f. absurd (not_false-true (value_in es (watch a c 0)) t (false-whole es h (watch a c 0) f)), λ f. t)

pub watched-true_1 : (es : List Entry) (h : ℕ) (a : Layout) (c : ℕ) → value_in es (watch a c 1) ≡ Some true → IsWatched es h a c
watched-true_1 es h a c t = (λ f. t, λ f. absurd (not_false-true (value_in es (watch a c 1)) t (false-whole es h (watch a c 1) f)))

-- and so is one none of whose watched literals is false by the first h entries
pub watched-open : (es : List Entry) (h : ℕ) (a : Layout) (c : ℕ) → (is_false (value_in (take h es) (watch a c 0)) ≡ true → ⊥) → (is_false (value_in (take h es) (watch a c 1)) ≡ true → ⊥)
    → IsWatched es h a c
watched-open es h a c f g = (λ z. absurd (f z), λ z. absurd (g z))

pub open-from : (o : Option Bool) → (o ≡ Some true → ⊥) → (o ≡ Some false → ⊥) → o ≡ None
open-from None f g = refl
open-from (Some true) f g = absurd (f refl)
open-from (Some false) f g = absurd (g refl)

same_sign-self : (b : Bool) → same_sign b b ≡ true
same_sign-self true = refl
same_sign-self false = refl

-- what was set is true
pub value-put : (es : List Entry) (e : Entry) → value_in es e.lit ≡ None → value_in (es ++ e ∷ []) e.lit ≡ Some true
value-put es e h =
    ap (option_map (λ n. same_sign n e.lit.neg)) (sign_at-push_same es e e.lit.var (sign_at-open es e.lit h) refl) ∙ ap Some (same_sign-self e.lit.neg)
