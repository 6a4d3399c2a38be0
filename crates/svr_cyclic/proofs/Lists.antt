-- Lists of values: their parts, domains within widths, used values, and a value that joins them.
use Rattle.std.proofs.Common.{◌≡◌, ◌<◌, ◌≤◌, ◌+◌, ◌%◌, ◌^◌, ℕ, zero, suc, Bool, true, false, not, cond, ◌||◌, List, [], ◌∷◌, ◌++◌, map, length, take, drop, get_or, Option, None, Some, refl, sym, ap, ◌∙◌, subst, arith, append-nil, take-append-drop}
use Rattle.std.specs.Prelude.{⊤, filter, nat_lt, slice_index, slice_index_or}
use Rattle.std.specs.List.{All, range_with_len}
use Rattle.std.specs.List.Sorted.{IsStrictlyIncreasing}
use Rattle.std.proofs.lemmas.Bool.{ltb-true, ltb-false}
use Rattle.std.proofs.lemmas.List.{drop_more}
use Rattle.std.proofs.lemmas.List.Elements.{All-nil, All-cons, All-head, All-tail, All-filter, filter-append}
use Rattle.svr_typed.specs.declared.class.Prop.{Prop}
use Rattle.svr_typed.specs.declared.class.EnumType.{EnumType}
use Rattle.svr_typed.specs.declared.class.EnumMember.{EnumMember}
use Rattle.svr_frame.specs.Frame.{FrameTerm, width_of, members_of_enum, members_of_kind, domain_from, domain_of}
use Rattle.svr_frame.specs.Sound.{IsEnum, IsProp, IsOfEnum, IsSound}
use Rattle.svr_expand.proofs.Kept.{range_more}
use Rattle.svr_phase.specs.Cyclic.{is_among, unused, turned, inserted}

-- ---- parts

-- what stands before a place, at it and behind it
pub parted_at : {A : Type 0} (xs : List A) (i : ℕ) (d : A) → i < length xs → xs ≡ take i xs ++ get_or xs i d ∷ drop (i + 1) xs
parted_at xs i d lt = sym (take-append-drop i xs) ∙ ap (λ ys. take i xs ++ ys) (drop_more xs i d lt)

pub or_or : (b c d : Bool) → ((b || c) || d) ≡ (b || (c || d))
or_or true c d = refl
or_or false c d = refl

pub or_none : (b : Bool) → (b || false) ≡ b
or_none true = refl
or_none false = refl

filter_last : (t : ℕ → Bool) (xs : List ℕ) (n : ℕ) → filter t (xs ++ n ∷ []) ≡ filter t xs ++ cond (t n) (n ∷ []) []
filter_last t xs n = filter-append t xs (n ∷ [])

-- a number that passes a test, and one that does not
pub kept_more : (t : ℕ → Bool) (n : ℕ) → t n ≡ true → filter t (range_with_len 0 (n + 1)) ≡ filter t (range_with_len 0 n) ++ n ∷ []
kept_more t n e = ap (filter t) (range_more n) ∙ filter_last t (range_with_len 0 n) n ∙ ap (λ b. filter t (range_with_len 0 n) ++ cond b (n ∷ []) []) e

pub left_more : (t : ℕ → Bool) (n : ℕ) → t n ≡ false → filter t (range_with_len 0 (n + 1)) ≡ filter t (range_with_len 0 n)
left_more t n e =
    ap (filter t) (range_more n) ∙ filter_last t (range_with_len 0 n) n ∙ ap (λ b. filter t (range_with_len 0 n) ++ cond b (n ∷ []) []) e ∙ append-nil (filter t (range_with_len 0 n))

-- ---- turned lists

nothing_turned : (n : ℕ) (vs : List ℕ) → length vs ≡ 0 → drop n vs ++ take n vs ≡ vs
nothing_turned zero [] h = refl
nothing_turned (suc n) [] h = refl
nothing_turned n (v ∷ vs) h = absurd (omega (arith, h))

pub turned_none : (word : ℕ) (vs : List ℕ) → length vs ≡ 0 → turned word vs ≡ vs
turned_none word vs h = nothing_turned (word % length vs) vs h

-- ---- domains within widths

all_numbers : (w a n : ℕ) → a + n ≤ 2 ^ w → All (λ v. v < 2 ^ w) (range_with_len a n)
all_numbers w a zero le = All-nil (λ v. v < 2 ^ w)
all_numbers w a (suc n) le = All-cons (λ v. v < 2 ^ w) a (range_with_len (a + 1) n) (omega (arith, le)) (all_numbers w (a + 1) n (omega (arith, le)))

all_members : (w : ℕ) (ms : List EnumMember) → All (λ (m : EnumMember). m.value < 2 ^ w) ms → All (λ v. v < 2 ^ w) (map (λ (m : EnumMember). m.value) ms)
all_members w [] h = All-nil (λ v. v < 2 ^ w)
all_members w (m ∷ ms) h =
    All-cons (λ v. v < 2 ^ w) m.value (map (λ (x : EnumMember). x.value) ms) (All-head (λ (x : EnumMember). x.value < 2 ^ w) m ms h) (all_members w ms (All-tail (λ (x : EnumMember). x.value < 2 ^ w) m ms h))

-- the values of an enum are within its width
enum_below : (ts : List EnumType) (n : ℕ) → All IsEnum ts
    → All (λ v. v < 2 ^ slice_index (map (λ (t : EnumType). t.base.width) ts) n) (slice_index_or (map (λ (t : EnumType). map (λ (m : EnumMember). m.value) t.members) ts) n [])
enum_below [] n h = All-nil (λ v. v < 2 ^ slice_index (map (λ (t : EnumType). t.base.width) []) n)
enum_below (t ∷ ts) zero h = all_members t.base.width t.members ((All-head IsEnum t ts h).below)
enum_below (t ∷ ts) (suc n) h = enum_below ts n (All-tail IsEnum t ts h)

-- which is that of a property of the enum
enum_width : (ts : List EnumType) (props : List Prop) (p n : ℕ) → All (IsProp ts) props → slice_index_or (map (λ (x : Prop). x.kind.members) props) p None ≡ Some n
    → slice_index (map (λ (t : EnumType). t.base.width) ts) n ≡ slice_index (map (λ (x : Prop). x.kind.width) props) p
enum_width ts [] p n h e = absurd (cc)
enum_width ts (x ∷ props) zero n h e = (subst (IsOfEnum ts x.kind) e ((All-head (IsProp ts) x props h).named)).1
enum_width ts (x ∷ props) (suc p) n h e = enum_width ts props p n (All-tail (IsProp ts) x props h) e

width_most : (ts : List EnumType) (props : List Prop) (p : ℕ) → All (IsProp ts) props → slice_index (map (λ (x : Prop). x.kind.width) props) p ≤ 64
width_most ts [] p h = omega arith
width_most ts (x ∷ props) zero h = (All-head (IsProp ts) x props h).wide.1
width_most ts (x ∷ props) (suc p) h = width_most ts props p (All-tail (IsProp ts) x props h)

module _ (f : FrameTerm) (sound : IsSound f) where
  pub width_few : (p : ℕ) → width_of f p ≤ 64
  width_few p = width_most f.enums f.class.props p sound.props

  pub domain_below : (p : ℕ) → All (λ v. v < 2 ^ width_of f p) (domain_of f p)
  domain_below p = by_kind (slice_index_or (map (λ (x : Prop). x.kind.members) f.class.props) p None) refl
    where
      by_kind : (k : Option ℕ) → slice_index_or (map (λ (x : Prop). x.kind.members) f.class.props) p None ≡ k → All (λ v. v < 2 ^ width_of f p) (domain_from f (width_of f p) (members_of_kind f k))
      by_kind None e = all_numbers (width_of f p) 0 (2 ^ width_of f p) (omega arith)
      by_kind (Some n) e = subst (λ (w : ℕ). All (λ v. v < 2 ^ w) (members_of_enum f n)) (enum_width f.enums f.class.props p n sound.props e) (enum_below f.enums n sound.types)

-- and those of them that are not used
pub unused_all : (P : ℕ → Type 0) (used vs : List ℕ) → All P vs → All P (unused used vs)
unused_all P used vs h = All-filter (λ v. not (is_among v used)) P vs h

-- ---- a value that joins rising ones

abbrev Up : ℕ → List ℕ → Type 0
Up a [] = ⊤
Up a (x ∷ xs) = (a ≤ x) × Up (x + 1) xs

up_from : (x : ℕ) (xs : List ℕ) → IsStrictlyIncreasing (x ∷ xs) → Up (x + 1) xs
up_from x [] h = tt
up_from x (y ∷ ys) h =
    let here : x < y = h 0 (omega arith) in
    (omega (arith, here), up_from y ys (λ k within. let e : suc k + 1 ≡ suc (k + 1) = omega arith in subst (λ (n : ℕ). get_or (y ∷ ys) k 0 < get_or (x ∷ y ∷ ys) n 0) e (h (suc k) (omega (arith, within)))))

up_all : (xs : List ℕ) → IsStrictlyIncreasing xs → Up 0 xs
up_all [] h = tt
up_all (x ∷ xs) h = (omega arith, up_from x xs h)

rising_up : (a : ℕ) (xs : List ℕ) → Up a xs → IsStrictlyIncreasing xs
rising_up a [] h k lt = absurd (omega (arith, lt))
rising_up a (x ∷ []) h k lt = absurd (omega (arith, lt))
rising_up a (x ∷ y ∷ ys) h zero lt = omega (arith, h.1.0)
rising_up a (x ∷ y ∷ ys) h (suc k) lt =
    let e : suc (k + 1) ≡ suc k + 1 = omega arith in
    subst (λ (n : ℕ). get_or (x ∷ y ∷ ys) (suc k) 0 < get_or (x ∷ y ∷ ys) n 0) e (rising_up (x + 1) (y ∷ ys) h.1 k (omega (arith, lt)))

up_less : (a b : ℕ) (xs : List ℕ) → a ≤ b → Up b xs → Up a xs
up_less a b [] le h = tt
up_less a b (x ∷ xs) le h = (omega (arith, le, h.0), h.1)

up_kept : (t : ℕ → Bool) (a : ℕ) (xs : List ℕ) → Up a xs → Up a (filter t xs)
up_kept t a [] h = tt
up_kept t a (x ∷ xs) h = by_test (t x) (up_kept t (x + 1) xs h.1)
  where
    by_test : (b : Bool) → Up (x + 1) (filter t xs) → Up a (cond b (x ∷ filter t xs) (filter t xs))
    by_test true rest = (h.0, rest)
    by_test false rest = up_less a (x + 1) (filter t xs) (omega (arith, h.0)) rest

none_lower : (v a : ℕ) (xs : List ℕ) → v ≤ a → Up a xs → filter (λ u. nat_lt u v) xs ≡ []
none_lower v a [] le h = refl
none_lower v a (x ∷ xs) le h = by_test (nat_lt x v) refl (none_lower v (x + 1) xs (omega (arith, le, h.0)) h.1)
  where
    by_test : (b : Bool) → nat_lt x v ≡ b → filter (λ u. nat_lt u v) xs ≡ [] → cond b (x ∷ filter (λ u. nat_lt u v) xs) (filter (λ u. nat_lt u v) xs) ≡ []
    by_test true e rest = absurd (let lt = ltb-true x v e in omega (arith, lt, le, h.0))
    by_test false e rest = rest

inserted_up : (v a : ℕ) (xs : List ℕ) → Up a xs → a ≤ v → Up a (inserted v xs)
inserted_up v a [] h le = (le, tt)
inserted_up v a (x ∷ xs) h le = by_test (nat_lt x v) refl (inserted_up v (x + 1) xs h.1)
  where
    above : (c : Bool) → nat_lt v x ≡ c → v ≤ x → Up (v + 1) (cond c (x ∷ filter (λ u. nat_lt v u) xs) (filter (λ u. nat_lt v u) xs))
    above true e ge = let lt = ltb-true v x e in (omega (arith, lt), up_kept (λ u. nat_lt v u) (x + 1) xs h.1)
    above false e ge = up_less (v + 1) (x + 1) (filter (λ u. nat_lt v u) xs) (omega (arith, ge)) (up_kept (λ u. nat_lt v u) (x + 1) xs h.1)

    below : (c : Bool) → nat_lt v x ≡ c → x < v → (cond c (x ∷ filter (λ u. nat_lt v u) xs) (filter (λ u. nat_lt v u) xs)) ≡ filter (λ u. nat_lt v u) xs
    below true e lt = absurd (let gt = ltb-true v x e in omega (arith, lt, gt))
    below false e lt = refl

    by_test : (b : Bool) → nat_lt x v ≡ b → (x + 1 ≤ v → Up (x + 1) (inserted v xs))
        → Up a (cond b (x ∷ filter (λ u. nat_lt u v) xs) (filter (λ u. nat_lt u v) xs) ++ v ∷ cond (nat_lt v x) (x ∷ filter (λ u. nat_lt v u) xs) (filter (λ u. nat_lt v u) xs))
    by_test true e rest =
        let lt = ltb-true x v e in
        (h.0, subst (λ (ys : List ℕ). Up (x + 1) (filter (λ u. nat_lt u v) xs ++ v ∷ ys)) (sym (below (nat_lt v x) refl lt)) (rest (omega (arith, lt))))
    by_test false e rest =
        let ge = ltb-false x v e in
        subst (λ (ys : List ℕ). Up a (ys ++ v ∷ cond (nat_lt v x) (x ∷ filter (λ u. nat_lt v u) xs) (filter (λ u. nat_lt v u) xs))) (sym (none_lower v (x + 1) xs (omega (arith, ge)) h.1))
        (le, above (nat_lt v x) refl ge)

-- rising values that a value joins still rise
pub inserted_rises : (v : ℕ) (used : List ℕ) → IsStrictlyIncreasing used → IsStrictlyIncreasing (inserted v used)
inserted_rises v used h = rising_up 0 (inserted v used) (inserted_up v 0 used (up_all used h) (omega arith))

pub none_rises : IsStrictlyIncreasing []
none_rises k lt = absurd (omega (arith, lt))
