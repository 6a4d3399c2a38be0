-- Names in front of others, each once: what none of them replaces, and what is among them.
use Rattle.std.proofs.Common.{◌≡◌, ℕ, ◌+◌, ◌-◌, ◌<◌, ◌≤◌, Bool, true, false, if◌then◌else◌, ◌||◌, List, [], ◌∷◌, ◌++◌, map, length, get_or, take, reverse, refl, sym, ap, subst, ◌∙◌, true≢false, arith}
use Rattle.std.specs.Prelude.{⊤}
use Rattle.std.specs.List.{list_any, IsDistinct, AllByRecursion}
use Rattle.std.proofs.lemmas.List.{map-append, reverse-append, take_all, take_more}
use Rattle.std.proofs.lemmas.List.Folds.{list_any-append}
use Rattle.std.proofs.lemmas.Slice.Eq.{bytes_eq-Decides}
use Rattle.svr_elab_names.specs.Names.{is_same}
use Rattle.svr_elab_names.specs.Tables.{Key, bytes_of}
use Rattle.svr_elab_target.specs.Named.{and_listed}
use Rattle.svr_elab_target.specs.Blocks.{without, and_front, all_front}

abbrev Names : Type 0
Names = List (List ℕ)

abbrev among : List ℕ → Names → Bool
among q ns = list_any (is_same q) ns

or_left : (a b : Bool) → (a || b) ≡ false → a ≡ false
or_left true b h = h
or_left false b h = refl

or_right : (a b : Bool) → (a || b) ≡ false → b ≡ false
or_right true b h = absurd (true≢false h)
or_right false b h = h

or_true : (a b : Bool) → b ≡ true → (a || b) ≡ true
or_true true b h = refl
or_true false b h = h

or_turned : (a b : Bool) → (a || (b || false)) ≡ (b || a)
or_turned true true = refl
or_turned true false = refl
or_turned false true = refl
or_turned false false = refl

-- ---- what none of some names replaces

pub without_none : (xs : Names) → without [] xs ≡ xs
without_none [] = refl
without_none (x ∷ xs) = ap (λ (ns : Names). x ∷ ns) (without_none xs)

pub without_joined : (t xs ys : Names) → without t (xs ++ ys) ≡ without t xs ++ without t ys
without_joined t [] ys = refl
without_joined t (x ∷ xs) ys = pick (among x t) (without_joined t xs ys)
  where
    pick : (b : Bool) → without t (xs ++ ys) ≡ without t xs ++ without t ys
        → (if b then without t (xs ++ ys) else x ∷ without t (xs ++ ys)) ≡ (if b then without t xs else x ∷ without t xs) ++ without t ys
    pick true h = h
    pick false h = ap (λ (ns : Names). x ∷ ns) h

-- what is among those that stand or among the others is among them all
standing_or : (t own : Names) (b : List ℕ) → (among b (without t own) || among b t) ≡ (among b own || among b t)
standing_or t [] b = refl
standing_or t (o ∷ os) b = pick (among o t) (is_same b o) refl refl (standing_or t os b)
  where
    pick : (x s : Bool) → among o t ≡ x → is_same b o ≡ s → (among b (without t os) || among b t) ≡ (among b os || among b t)
        → (among b (if x then without t os else o ∷ without t os) || among b t) ≡ ((s || among b os) || among b t)
    pick true true e f h =
        let there : among b t ≡ true = subst (λ (q : List ℕ). among q t ≡ true) (sym ((bytes_eq-Decides b o).0 f)) e in
        h ∙ or_true (among b os) (among b t) there
    pick true false e f h = h
    pick false true e f h = ap (λ (s : Bool). (s || among b (without t os)) || among b t) f
    pick false false e f h = ap (λ (s : Bool). (s || among b (without t os)) || among b t) f ∙ h

-- what neither some names nor those in front of them replace
pub replaced_twice : (t own base : Names) → without (without t own ++ t) base ≡ without t (without own base)
replaced_twice t own [] = refl
replaced_twice t own (b ∷ bs) =
    pick (among b (without t own ++ t)) (among b own) (list_any-append (is_same b) (without t own) t ∙ standing_or t own b) (replaced_twice t own bs)
  where
    pick : (c a : Bool) → c ≡ (a || among b t) → without (without t own ++ t) bs ≡ without t (without own bs)
        → (if c then without (without t own ++ t) bs else b ∷ without (without t own ++ t) bs) ≡ without t (if a then without own bs else b ∷ without own bs)
    pick true true e h = h
    pick true false e h = h ∙ ap (λ (x : Bool). if x then without t (without own bs) else b ∷ without t (without own bs)) e
    pick false true e h = absurd (true≢false (sym e))
    pick false false e h = ap (λ (ns : Names). b ∷ ns) h ∙ ap (λ (x : Bool). if x then without t (without own bs) else b ∷ without t (without own bs)) e

-- ---- different names in front of others

-- no name stands there twice
abbrev pub AreDifferent : Names → Type 0
AreDifferent [] = ⊤
AreDifferent (q ∷ qs) = (among q qs ≡ false) × AreDifferent qs

none_standing : (t qs : Names) (q : List ℕ) → among q qs ≡ false → among q (without t qs) ≡ false
none_standing t [] q h = refl
none_standing t (x ∷ xs) q h = pick (among x t) (none_standing t xs q (or_right (is_same q x) (among q xs) h))
  where
    pick : (c : Bool) → among q (without t xs) ≡ false → among q (if c then without t xs else x ∷ without t xs) ≡ false
    pick true k = k
    pick false k = ap (λ (s : Bool). s || among q (without t xs)) (or_left (is_same q x) (among q xs) h) ∙ k

pub front_is : (t own : Names) → AreDifferent own → all_front t own ≡ without t own ++ t
front_is t [] h = refl
front_is t (q ∷ qs) h =
    let same : among q (without t qs ++ t) ≡ among q t =
    list_any-append (is_same q) (without t qs) t ∙ ap (λ (s : Bool). s || among q t) (none_standing t qs q h.0) in
    ap (λ (ns : Names). and_front ns q) (front_is t qs h.1)
    ∙ ap (λ (c : Bool). if c then without t qs ++ t else q ∷ (without t qs ++ t)) same
    ∙ pick (among q t)
  where
    pick : (c : Bool) → (if c then without t qs ++ t else q ∷ (without t qs ++ t)) ≡ (if c then without t qs else q ∷ without t qs) ++ t
    pick true = refl
    pick false = refl

-- ---- a set of names, from its last one back

among_reverse : (q : List ℕ) (xs : Names) → among q (reverse xs) ≡ among q xs
among_reverse q [] = refl
among_reverse q (x ∷ xs) =
    ap (among q) (reverse-append (x ∷ []) xs)
    ∙ list_any-append (is_same q) (reverse xs) (x ∷ [])
    ∙ ap (λ (b : Bool). b || (is_same q x || false)) (among_reverse q xs)
    ∙ or_turned (among q xs) (is_same q x)

listed_front : (ks : Names) (q : List ℕ) → reverse (and_listed ks q) ≡ and_front (reverse ks) q
listed_front ks q = pick (among q ks) ∙ ap (λ (b : Bool). if b then reverse ks else q ∷ reverse ks) (sym (among_reverse q ks))
  where
    pick : (b : Bool) → reverse (if b then ks else ks ++ q ∷ []) ≡ (if b then reverse ks else q ∷ reverse ks)
    pick true = refl
    pick false = reverse-append ks (q ∷ [])

all_front_last : (t others : Names) (q : List ℕ) → all_front t (others ++ q ∷ []) ≡ all_front (and_front t q) others
all_front_last t [] q = refl
all_front_last t (o ∷ os) q = ap (λ (ns : Names). and_front ns o) (all_front_last t os q)

-- of the first n names the last one
pub first_back : (t : Names) (own : List Key) → all_front t (map bytes_of (take (length own) own)) ≡ all_front t (map bytes_of own)
first_back t own = ap (λ (ks : List Key). all_front t (map bytes_of ks)) (take_all (length own) own (omega arith))

pub next_back : (ks new own : List Key) (n : ℕ) (d : Key) (whole : Names) → 0 < n → n ≤ length own → map bytes_of new ≡ and_listed (map bytes_of ks) (get_or own (n - 1) d).now
    → all_front (reverse (map bytes_of ks)) (map bytes_of (take n own)) ≡ whole → all_front (reverse (map bytes_of new)) (map bytes_of (take (n - 1) own)) ≡ whole
next_back ks new own n d whole some few added told =
    let others : Names = map bytes_of (take (n - 1) own) in
    let q : List ℕ = (get_or own (n - 1) d).now in
    let here : n ≡ n - 1 + 1 = omega (arith, some) in
    let less : n - 1 < length own = omega (arith, some, few) in
    let split : map bytes_of (take n own) ≡ others ++ q ∷ [] =
    ap (λ (m : ℕ). map bytes_of (take m own)) here ∙ ap (map bytes_of) (take_more own (n - 1) d less) ∙ map-append bytes_of (take (n - 1) own) (get_or own (n - 1) d ∷ []) in
    ap (λ (ns : Names). all_front (reverse ns) others) added
    ∙ ap (λ (t : Names). all_front t others) (listed_front (map bytes_of ks) q)
    ∙ sym (all_front_last (reverse (map bytes_of ks)) others q)
    ∙ ap (all_front (reverse (map bytes_of ks))) (sym split)
    ∙ told

pub none_left : (t whole : Names) (own : List Key) (n : ℕ) → n ≤ 0 → all_front t (map bytes_of (take n own)) ≡ whole → t ≡ whole
none_left t whole own n e told = let here : n ≡ 0 = omega (arith, e) in sym (ap (λ (m : ℕ). all_front t (map bytes_of (take m own))) here) ∙ told

-- what a list of names gives past its end
abbrev pub no_name : Key
no_name = record { ref_ptr = (0, 0); now = [] }

-- ---- the names of a set are different

abbrev pub same_key : Key → Key → Bool
same_key x y = is_same x.now y.now

no_other : (k : Key) (ks : List Key) → AllByRecursion (λ (x : Key). same_key k x ≡ false) ks → among k.now (map bytes_of ks) ≡ false
no_other k [] h = refl
no_other k (x ∷ xs) h = ap (λ (b : Bool). b || among k.now (map bytes_of xs)) h.0 ∙ no_other k xs h.1

different : (ks : List Key) → IsDistinct same_key ks → AreDifferent (map bytes_of ks)
unfolding IsDistinct
different [] h = tt
different (k ∷ ks) h = (no_other k ks h.0, different ks h.1)

pub different_names : (ks rs : List Key) → rs ≡ ks → IsDistinct same_key ks → AreDifferent (map bytes_of rs)
different_names ks rs e h = subst (λ (ks : List Key). AreDifferent (map bytes_of ks)) (sym e) (different ks h)
