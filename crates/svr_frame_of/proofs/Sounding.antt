-- The frame of a call that can stand in a script is sound.
use Rattle.std.proofs.Common.{◌≡◌, ◌==◌, ◌<◌, ◌≤◌, ◌^◌, ℕ, zero, suc, Bool, true, false, ◌&&◌, ◌||◌, refl, sym, ◌∙◌, ap, subst, List, [], ◌∷◌, map, length, arith, lit<}
use Rattle.std.specs.Prelude.{nat_lt, slice_index, slice_index_or}
use Rattle.std.specs.List.{All, list_any, range_with_len}
use Rattle.std.proofs.lemmas.Bool.{and_parts, eqb-true, ltb-true, ltb-false, false≢true}
use Rattle.std.proofs.lemmas.Nat.{pow_pos}
use Rattle.std.proofs.lemmas.List.{length-map, get_or_past}
use Rattle.std.proofs.Math.ListN.{get_or-map}
use Rattle.std.proofs.lemmas.List.Elements.{All-head, All-tail}
use Rattle.std.proofs.lemmas.List.FromFn.{get_or-map-range_with_len, length-map-range_with_len}
use Rattle.svr_limits.specs.declared.limit.TheConstants.{ELEMENT_LIMIT}
use Rattle.svr_typed.specs.declared.class.ArrayKind.{ArrayKind}
use Rattle.svr_typed.specs.declared.class.ArrayKind.TheVariants as array
use Rattle.svr_typed.specs.declared.class.Prop.{Prop}
use Rattle.svr_typed.specs.declared.class.EnumType.{EnumType}
use Rattle.svr_typed.specs.declared.stmt.CallList.{CallList}
use Rattle.svr_typed.specs.declared.stmt.CallList.TheVariants as list
use Rattle.svr_typed.specs.ItemTerm.{ItemTerms, no_items, more_items}
use Rattle.svr_typed.specs.ClassTerm.{BlockTerm, FlatTerm}
use Rattle.svr_typed.specs.StmtTerm.{CallTerm}
use Rattle.svr_world.specs.World.{ObjectTerm}
use Rattle.svr_world.specs.Fits.{IsSize, FitsProp, FitProps}
use Rattle.svr_eval.specs.declared.assign.Assign.{Assign}
use Rattle.svr_eval.specs.Reading.{Reading, reading_of}
use Rattle.svr_eval.specs.Holds.{ItemsAreTyped, ItemsCanRead}
use Rattle.svr_frame.specs.Frame.{FrameTerm, is_random, is_dynamic, props_of, state_sizes}
use Rattle.svr_frame.specs.Reads.{mentions_size}
use Rattle.svr_frame.specs.Phases.{shape_at, active_at}
use Rattle.svr_frame.specs.Making.{can_free, is_declared_random, switched_on, random_set, followed_by, active_items, is_free, framed, frame_of}
use Rattle.svr_frame.specs.Sound.{SizeIsOf, TargetsCanRead, ItemsAreIn, StateIsSound, IsSound}
use Rattle.svr_frame_of.specs.Callable.{state_from, widest, ItemsFit, CanIfDeclared, ListCan, IsCallable}
use Rattle.svr_frame_of.proofs.Narrow.{items_in}

-- ---- active items

followed_typed : (is rest : ItemTerms) → ItemsAreTyped is → ItemsAreTyped rest → ItemsAreTyped (followed_by is rest)
followed_typed no_items rest h k = k
followed_typed (more_items i is) rest h k = (h.0, followed_typed is rest h.1 k)

followed_read : (a : Reading) (is rest : ItemTerms) → ItemsCanRead a 0 is → ItemsCanRead a 0 rest → ItemsCanRead a 0 (followed_by is rest)
followed_read a no_items rest h k = k
followed_read a (more_items i is) rest h k = (h.0, followed_read a is rest h.1 k)

followed_targets : (a : Reading) (is rest : ItemTerms) → TargetsCanRead a 0 is → TargetsCanRead a 0 rest → TargetsCanRead a 0 (followed_by is rest)
followed_targets a no_items rest h k = k
followed_targets a (more_items i is) rest h k = (h.0, followed_targets a is rest h.1 k)

followed_in : (f : FrameTerm) (is rest : ItemTerms) → ItemsAreIn f is → ItemsAreIn f rest → ItemsAreIn f (followed_by is rest)
followed_in f no_items rest h k = k
followed_in f (more_items i is) rest h k = (h.0, followed_in f is rest h.1 k)

followed_fit : (f : FrameTerm) (is rest : ItemTerms) → ItemsFit f is → ItemsFit f rest → ItemsFit f (followed_by is rest)
followed_fit f is rest h k = record {
  typed = followed_typed is rest h.typed k.typed;
  read = followed_read (reading_of f.state) is rest h.read k.read;
  targets = followed_targets (reading_of f.state) is rest h.targets k.targets;
  inside = followed_in f is rest h.inside k.inside;
}

active_fit : (f : FrameTerm) (bs : List BlockTerm) (modes : List Bool) (own : ItemTerms) → All (λ (b : BlockTerm). ItemsFit f b.items) bs → ItemsFit f own → ItemsFit f (active_items bs modes own)
active_fit f [] modes own h k = k
active_fit f (b ∷ bs) [] own h k = active_fit f bs [] own (All-tail (λ (x : BlockTerm). ItemsFit f x.items) b bs h) k
active_fit f (b ∷ bs) (true ∷ modes) own h k =
    followed_fit f b.items (active_items bs modes own) (All-head (λ (x : BlockTerm). ItemsFit f x.items) b bs h) (active_fit f bs modes own (All-tail (λ (x : BlockTerm). ItemsFit f x.items) b bs h) k)
active_fit f (b ∷ bs) (false ∷ modes) own h k = active_fit f bs modes own (All-tail (λ (x : BlockTerm). ItemsFit f x.items) b bs h) k

-- ---- the random set

switched_length : (xs : List Prop) (modes : List Bool) → length (switched_on xs modes) ≡ length xs
switched_length [] modes = refl
switched_length (x ∷ xs) [] = ap suc (switched_length xs [])
switched_length (x ∷ xs) (on ∷ modes) = ap suc (switched_length xs modes)

random_length : (xs : List Prop) (modes : List Bool) (l : CallList) → length (random_set xs modes l) ≡ length xs
random_length xs modes list.All = switched_length xs modes
random_length xs modes list.Null = length-map xs (λ p. false)
random_length xs modes (list.Listed ps) = length-map-range_with_len (λ p. list_any (λ q. q == p) ps) 0 (length xs)

abbrev can_at : List Prop → ℕ → Bool
can_at xs p = slice_index_or (map (λ (x : Prop). x.can) xs) p false

switched_can : (xs : List Prop) (modes : List Bool) → All CanIfDeclared xs → (p : ℕ) → slice_index_or (switched_on xs modes) p false ≡ true → can_at xs p ≡ true
switched_can [] modes h p k = k
switched_can (x ∷ xs) [] h zero k = absurd (false≢true k)
switched_can (x ∷ xs) [] h (suc p) k = switched_can xs [] (All-tail CanIfDeclared x xs h) p k
switched_can (x ∷ xs) (on ∷ modes) h zero k = All-head CanIfDeclared x xs h (and_parts (is_declared_random x.rand) on k).0
switched_can (x ∷ xs) (on ∷ modes) h (suc p) k = switched_can xs modes (All-tail CanIfDeclared x xs h) p k

never : {A : Type 0} (xs : List A) (p : ℕ) → slice_index_or (map (λ x. false) xs) p false ≡ false
never [] p = refl
never (x ∷ xs) zero = refl
never (x ∷ xs) (suc p) = never xs p

first_can : (xs : List Prop) (q p : ℕ) (ps : List ℕ) (b : Bool) → (q == p) ≡ b → can_at xs q ≡ true → (list_any (λ n. n == p) ps ≡ true → can_at xs p ≡ true) → (b || list_any (λ n. n == p) ps) ≡ true → can_at xs p ≡ true
first_can xs q p ps true e h rest k = subst (λ (n : ℕ). can_at xs n ≡ true) (eqb-true q p e) h
first_can xs q p ps false e h rest k = rest k

any_can : (xs : List Prop) (ps : List ℕ) (p : ℕ) → All (λ q. can_at xs q ≡ true) ps → list_any (λ q. q == p) ps ≡ true → can_at xs p ≡ true
any_can xs [] p h k = absurd (false≢true k)
any_can xs (q ∷ ps) p h k = first_can xs q p ps (q == p) refl (All-head (λ n. can_at xs n ≡ true) q ps h) (any_can xs ps p (All-tail (λ n. can_at xs n ≡ true) q ps h)) k

listed_can : (xs : List Prop) (ps : List ℕ) (p : ℕ) → All (λ q. can_at xs q ≡ true) ps → slice_index_or (map (λ q. list_any (λ n. n == q) ps) (range_with_len 0 (length xs))) p false ≡ true → can_at xs p ≡ true
listed_can xs ps p h k = by (nat_lt p (length xs)) refl
  where
    by : (b : Bool) → nat_lt p (length xs) ≡ b → can_at xs p ≡ true
    by true e = any_can xs ps p h (sym (get_or-map-range_with_len (λ q. list_any (λ n. n == q) ps) 0 (length xs) p p false (ltb-true p (length xs) e) (omega arith)) ∙ k)
    by false e =
        absurd (false≢true (sym (get_or_past (map (λ q. list_any (λ n. n == q) ps) (range_with_len 0 (length xs))) p false (omega (arith, ltb-false p (length xs) e, length-map-range_with_len (λ q. list_any (λ n. n == q) ps) 0 (length xs)))) ∙ k))

random_can : (xs : List Prop) (modes : List Bool) (l : CallList) → All CanIfDeclared xs → ListCan xs l → (p : ℕ) → slice_index_or (random_set xs modes l) p false ≡ true → can_at xs p ≡ true
random_can xs modes list.All h k p e = switched_can xs modes h p e
random_can xs modes list.Null h k p e = absurd (false≢true (sym (never xs p) ∙ e))
random_can xs modes (list.Listed ps) h k p e = listed_can xs ps p k e

-- ---- free sizes

free_parts : (a b c : Bool) → (a && b && c) ≡ true → (a ≡ true) × (b ≡ true)
free_parts true true c h = (refl, refl)
free_parts true false c h = cc
free_parts false b c h = cc

free_random : (g : FrameTerm) (p : ℕ) → slice_index_or (map (is_free g) (props_of g)) p false ≡ true → (is_random g p ≡ true) × (is_dynamic g p ≡ true)
free_random g p k = by (nat_lt p (length g.class.props)) refl
  where
    parts : is_free g p ≡ true → (is_random g p ≡ true) × (is_dynamic g p ≡ true)
    parts h = free_parts (is_random g p) (is_dynamic g p) (list_any (λ o. can_free g o && mentions_size (shape_at g (state_sizes g)) p o) (active_at g (state_sizes g))) h

    by : (b : Bool) → nat_lt p (length g.class.props) ≡ b → (is_random g p ≡ true) × (is_dynamic g p ≡ true)
    by true e = parts (sym (get_or-map-range_with_len (is_free g) 0 (length g.class.props) p p false (ltb-true p (length g.class.props) e) (omega arith)) ∙ k)
    by false e = absurd (false≢true (sym (get_or_past (map (is_free g) (props_of g)) p false (omega (arith, ltb-false p (length g.class.props) e, length-map-range_with_len (is_free g) 0 (length g.class.props)))) ∙ k))

-- ---- the state

values_long : (ps : List Prop) (ls : List (List ℕ)) → FitProps ps ls → length ls ≡ length ps
values_long [] [] h = refl
values_long [] (l ∷ ls) h = absurd h
values_long (p ∷ ps) [] h = absurd h
values_long (p ∷ ps) (l ∷ ls) h = ap suc (values_long ps ls h.1)

fits_at : (ps : List Prop) (ls : List (List ℕ)) → FitProps ps ls → (i : ℕ) (d : Prop) → i < length ps → FitsProp (slice_index_or ps i d) (slice_index_or ls i [])
fits_at [] ls h i d lt = absurd (omega (arith, lt))
fits_at (p ∷ ps) [] h i d lt = absurd h
fits_at (p ∷ ps) (l ∷ ls) h zero d lt = h.0
fits_at (p ∷ ps) (l ∷ ls) h (suc i) d lt = fits_at ps ls h.1 i d (omega (arith, lt))

size_is : (k : ArrayKind) (n : ℕ) → IsSize k n → n ≤ ELEMENT_LIMIT → SizeIsOf k n
size_is array.Scalar n h l = h
size_is (array.Fixed m) n h l = (h, l)
size_is array.Dynamic n h l = l

-- a number that is not there is 0
number_below : (w i : ℕ) (numbers : List ℕ) → All (λ v. v < 2 ^ w) numbers → slice_index numbers i < 2 ^ w
number_below w i numbers h = by (nat_lt i (length numbers)) refl
  where
    positive : 0 < 2 ^ w
    positive = pow_pos w

    by : (b : Bool) → nat_lt i (length numbers) ≡ b → slice_index numbers i < 2 ^ w
    by true e = h i 0 (ltb-true i (length numbers) e)
    by false e = subst (λ (v : ℕ). v < 2 ^ w) (sym (get_or_past numbers i 0 (ltb-false i (length numbers) e))) positive

width_at : (ps : List Prop) (i : ℕ) (d : Prop) → i < length ps → slice_index (map (λ (x : Prop). x.kind.width) ps) i ≡ (slice_index_or ps i d).kind.width
width_at [] i d lt = absurd (omega (arith, lt))
width_at (p ∷ ps) zero d lt = refl
width_at (p ∷ ps) (suc i) d lt = width_at ps i d (omega (arith, lt))

below_at : (ps : List Prop) (ls : List (List ℕ)) → FitProps ps ls → (p i : ℕ) → slice_index (slice_index_or ls p []) i < 2 ^ slice_index (map (λ (x : Prop). x.kind.width) ps) p
below_at [] [] h p i = lit< tt
below_at [] (l ∷ ls) h p i = absurd h
below_at (x ∷ ps) [] h p i = absurd h
below_at (x ∷ ps) (l ∷ ls) h zero i = number_below x.kind.width i l h.0.within
below_at (x ∷ ps) (l ∷ ls) h (suc p) i = below_at ps ls h.1 p i

module _ (class : FlatTerm) (enums : List EnumType) (object : ObjectTerm) (script : List ℕ) (call : CallTerm) (h : IsCallable class enums object script call) where
  abbrev pub state : Assign
  state = state_from object script

  abbrev pub g : FrameTerm
  g = framed class enums state object.rand_modes object.block_modes call

  abbrev pub f : FrameTerm
  f = frame_of class enums state object.rand_modes object.block_modes call

  state_sound : StateIsSound f
  state_sound = record {
    values = values_long class.props object.values h.values.values;
    sizes = length-map object.values length ∙ values_long class.props object.values h.values.values;
    long = λ p. sym (get_or-map length object.values p []);
    of_kind = λ p d lt.
        let fits : FitsProp (slice_index_or class.props p d) (slice_index_or object.values p []) = fits_at class.props object.values h.values.values p d lt in
        subst (λ (n : ℕ). SizeIsOf (slice_index_or class.props p d).array n) (sym (get_or-map length object.values p [])) (size_is (slice_index_or class.props p d).array (length (slice_index_or object.values p [])) fits.size fits.short);
    below = λ p i. below_at class.props object.values h.values.values p i;
  }

  active : ItemsFit (widest class enums state) f.items
  active = active_fit (widest class enums state) class.blocks object.block_modes call.items h.blocks h.in_line

  fewer : (p : ℕ) → slice_index_or f.random p false ≡ true → can_at class.props p ≡ true
  fewer = random_can class.props object.rand_modes call.list h.declared h.listed

  pub is_sound : IsSound f
  is_sound = record {
    properties = h.properties;
    arrays = h.arrays;
    types = h.types;
    props = h.props;
    random = random_length class.props object.rand_modes call.list;
    can = fewer;
    free_size = length-map-range_with_len (is_free g) 0 (length class.props);
    free = free_random g;
    state = state_sound;
    typed = active.typed;
    read = active.read;
    targets = active.targets;
    items = items_in class enums state (map (λ (x : Prop). x.can) class.props) f.random f.free_size f.items fewer f.items active.inside;
  }
