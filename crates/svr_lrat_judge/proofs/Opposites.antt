-- Lemmas that hold a literal and its negation, literal by literal
use Rattle.std.proofs.Common.{◌≡◌, ℕ, ◌+◌, ◌<◌, Bool, true, false, not, ◌&&◌, ◌||◌, nat_eq, List, [], ◌∷◌, ◌++◌, map, length, take, drop, get_or, refl, sym, ap, ◌∙◌, inl, inr}
use Rattle.std.specs.List.{list_any}
use Rattle.std.proofs.lemmas.Bool.{or_cases, or_left, or_right, or_parts, or_from, and_left, false≢true, eqb-true, eq-eqb}
use Rattle.std.proofs.lemmas.List.{map-append, take_more, take-append-drop}
use Rattle.std.proofs.lemmas.List.Folds.{list_any-append}
use Rattle.svr_chain.specs.declared.clause.Lit.{Lit}
use Rattle.svr_chain.specs.Clauses.{same_sign, same_lit, flip, has, is_tautology}
use Rattle.svr_chain.proofs.Same.{iff_eq}

same_sign-sym : (a b : Bool) → same_sign a b ≡ same_sign b a
same_sign-sym true true = refl
same_sign-sym true false = refl
same_sign-sym false true = refl
same_sign-sym false false = refl

nat_eq-sym : (m n : ℕ) → nat_eq m n ≡ nat_eq n m
nat_eq-sym m n = iff_eq (nat_eq m n) (nat_eq n m) (λ e. back m n (eqb-true m n e)) (λ e. back n m (eqb-true n m e))
  where
    back : (a b : ℕ) → a ≡ b → nat_eq b a ≡ true
    back a b e = eq-eqb b a (sym e)

flip_sign : (a b : Bool) → same_sign (not a) b ≡ same_sign a (not b)
flip_sign true true = refl
flip_sign true false = refl
flip_sign false true = refl
flip_sign false false = refl

-- the negation of one is the other
flipped_one : (y x : Lit) → same_lit (flip y) x ≡ same_lit y (flip x)
flipped_one y x = ap (λ s. s && nat_eq y.var x.var) (flip_sign y.neg x.neg)

flipped_back : (x y : Lit) → same_lit x (flip y) ≡ same_lit y (flip x)
flipped_back x y =
    ap (λ s. s && nat_eq x.var y.var) (same_sign-sym x.neg (not y.neg) ∙ flip_sign y.neg x.neg)
    ∙ ap (λ t. same_sign y.neg (not x.neg) && t) (nat_eq-sym x.var y.var)

sign-apart : (a : Bool) → same_sign a (not a) ≡ false
sign-apart true = refl
sign-apart false = refl

apart : (x : Lit) → same_lit x (flip x) ≡ false
apart x = and_left (same_sign x.neg (not x.neg)) (nat_eq x.var x.var) (sign-apart x.neg)

pub has_flip : (c : List Lit) (x : Lit) → has (map flip c) x ≡ has c (flip x)
has_flip [] x = refl
has_flip (y ∷ c) x = ap (λ s. s || has (map flip c) x) (flipped_one y x) ∙ ap (λ t. same_lit y (flip x) || t) (has_flip c x)

any-weaker : (p q : Lit → Bool) (c : List Lit) → ((x : Lit) → p x ≡ true → q x ≡ true) → list_any p c ≡ true → list_any q c ≡ true
any-weaker p q [] w h = absurd (false≢true h)
any-weaker p q (x ∷ c) w h =
    elim (or_cases (p x) (list_any p c) h) [
      | inl e ↦ or_left (q x) (list_any q c) (w x e)
      | inr e ↦ or_right (q x) (list_any q c) (any-weaker p q c w e)
    ]

has-longer : (c d : List Lit) (x : Lit) → has c x ≡ true → has (c ++ d) x ≡ true
has-longer c d x h = list_any-append (λ y. same_lit y x) c d ∙ or_left (has c x) (has d x) h

-- a longer list has the opposites of its front
pub tautology-longer : (c d : List Lit) → is_tautology c ≡ true → is_tautology (c ++ d) ≡ true
tautology-longer c d h =
    list_any-append (λ x. has (c ++ d) (flip x)) c d
    ∙ or_left _ _ (any-weaker (λ x. has c (flip x)) (λ x. has (c ++ d) (flip x)) c (λ x e. has-longer c d (flip x) e) h)

-- the negation of one more literal is there
pub tautology-found : (c : List Lit) (x : Lit) → has (map flip c) x ≡ true → is_tautology (c ++ x ∷ []) ≡ true
tautology-found c x h =
    let there : has (c ++ x ∷ []) (flip x) ≡ true = has-longer c (x ∷ []) (flip x) (sym (has_flip c x) ∙ h) in
    list_any-append (λ y. has (c ++ x ∷ []) (flip y)) c (x ∷ [])
    ∙ or_right (list_any (λ y. has (c ++ x ∷ []) (flip y)) c) (has (c ++ x ∷ []) (flip x) || false) (or_left (has (c ++ x ∷ []) (flip x)) false there)

none-more : (c : List Lit) (x : Lit) (d : List Lit) → list_any (λ y. has c (flip y)) d ≡ false → has d (flip x) ≡ false → list_any (λ y. has (c ++ x ∷ []) (flip y)) d ≡ false
none-more c x [] h k = refl
none-more c x (y ∷ d) h k =
    let p = or_parts (has c (flip y)) (list_any (λ z. has c (flip z)) d) h in
    let q = or_parts (same_lit y (flip x)) (has d (flip x)) k in
    let here : has (c ++ x ∷ []) (flip y) ≡ false =
    list_any-append (λ z. same_lit z (flip y)) c (x ∷ []) ∙ or_from (has c (flip y)) (same_lit x (flip y) || false) p.0 (or_from (same_lit x (flip y)) false (flipped_back x y ∙ q.0) refl) in
    or_from _ _ here (none-more c x d p.1 q.1)

-- it is not
pub tautology-none : (c : List Lit) (x : Lit) → is_tautology c ≡ false → has (map flip c) x ≡ false → is_tautology (c ++ x ∷ []) ≡ false
tautology-none c x h k =
    let n : has c (flip x) ≡ false = sym (has_flip c x) ∙ k in
    let last : has (c ++ x ∷ []) (flip x) ≡ false =
    list_any-append (λ z. same_lit z (flip x)) c (x ∷ []) ∙ or_from (has c (flip x)) (same_lit x (flip x) || false) n (or_from (same_lit x (flip x)) false (apart x) refl) in
    list_any-append (λ y. has (c ++ x ∷ []) (flip y)) c (x ∷ [])
    ∙ or_from _ _ (none-more c x c h n) (or_from (has (c ++ x ∷ []) (flip x)) false last refl)

-- ---- the same by places

pub found-at : (c : List Lit) (i : ℕ) (d : Lit) → i < length c → has (map flip (take i c)) (get_or c i d) ≡ true → is_tautology c ≡ true
found-at c i d less h =
    let front : is_tautology (take (i + 1) c) ≡ true = ap is_tautology (take_more c i d less) ∙ tautology-found (take i c) (get_or c i d) h in
    ap is_tautology (sym (take-append-drop (i + 1) c)) ∙ tautology-longer (take (i + 1) c) (drop (i + 1) c) front

pub none-at : (c : List Lit) (i : ℕ) (d : Lit) → i < length c → is_tautology (take i c) ≡ false → has (map flip (take i c)) (get_or c i d) ≡ false → is_tautology (take (i + 1) c) ≡ false
none-at c i d less t h = ap is_tautology (take_more c i d less) ∙ tautology-none (take i c) (get_or c i d) t h

pub flips-more : (c : List Lit) (i : ℕ) (d : Lit) → i < length c → map flip (take i c) ++ flip (get_or c i d) ∷ [] ≡ map flip (take (i + 1) c)
flips-more c i d less = sym (ap (map flip) (take_more c i d less) ∙ map-append flip (take i c) (get_or c i d ∷ []))
