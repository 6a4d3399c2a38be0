-- The preferred assignment is an assignment of its phase.
use Rattle.std.proofs.Common.{◌≡◌, ◌<◌, ◌≤◌, ◌==◌, ◌+◌, ◌-◌, ◌%◌, ◌^◌, ℕ, zero, suc, ℤ, pos, negsuc, Bool, true, false, not, ◌&&◌, ◌||◌, refl, sym, ◌∙◌, ap, subst, List, [], ◌∷◌, ◌++◌, map, length, Option, None, Some, arith}
use Rattle.std.specs.Prelude.{⊤, slice_index, slice_index_or, nat_lt, if◌then◌else◌}
use Rattle.std.specs.List as list
use Rattle.std.specs.List.{list_any}
use Rattle.std.proofs.Math.Nat.{mod-lt}
use Rattle.std.proofs.Math.Pow.{pow-sub-lt}
use Rattle.std.proofs.lemmas.Bool.{and_parts, eqb-true}
use Rattle.std.proofs.lemmas.List.Folds.{list_any-append}
use Rattle.svr_num.specs.Num.{residue}
use Rattle.svr_typed.specs.declared.class.Prop.{Prop}
use Rattle.svr_typed.specs.declared.class.EnumType.{EnumType}
use Rattle.svr_typed.specs.declared.class.EnumMember.{EnumMember}
use Rattle.svr_typed.specs.ItemTerm.{DistTerm}
use Rattle.svr_eval.specs.Reading.{Reading, reading_of}
use Rattle.svr_frame.specs.declared.part.Part.{Part}
use Rattle.svr_frame.specs.declared.part.Part.TheVariants.{Randc, Sizes, All}
use Rattle.svr_frame.specs.declared.slot.Slot.{Slot}
use Rattle.svr_frame.specs.declared.slot.Slot.TheVariants.{Scalar, Element, Size}
use Rattle.svr_frame.specs.Frame.{FrameTerm, width_of, members_of_enum, members_of_kind, members_of, state_at}
use Rattle.svr_frame.specs.Phases.{cyclic_slots, size_slots, scalar_slots, element_slots, unknowns_of}
use Rattle.svr_frame.specs.Satisfaction.{is_at, is_size_of, AllFit, IsAssignment}
use Rattle.svr_frame.specs.Sound.{IsEnum, IsProp, IsOfEnum, IsSound, SizesFit}
use Rattle.svr_draw.proofs.Parts.{any_prop}
use Rattle.svr_draw.specs.Preferred.{with_words, draws_of, dists_on, Places, pick_at, from_domain, from_shares, from_dists, preferred_number, number_in, size_in, reading_with, preferred_of, shares_of, places_of, ranges_vary, has_places}

-- ---- numbers below powers

below_power : (x y w : ℕ) → x < 2 ^ w → y % 2 ^ w < 2 ^ w
below_power x y w h = mod-lt y (omega (arith, h))

residue_fits : (x w : ℕ) → x < 2 ^ w → (z : ℤ) → residue w z < 2 ^ w
residue_fits x w h (pos n) = below_power x n w h
residue_fits x w h (negsuc n) = omega (arith, h)

-- ---- members of enums

kind_at : (xs : List Prop) (p e : ℕ) → slice_index_or (map (λ (x : Prop). x.kind.members) xs) p None ≡ Some e → (p < length xs) × ((slice_index_or xs p any_prop).kind.members ≡ Some e)
kind_at [] p e h = cc
kind_at (x ∷ xs) zero e h = (omega arith, h)
kind_at (x ∷ xs) (suc p) e h = let rest = kind_at xs p e h in (omega (arith, rest.0), rest.1)

pub width_at : (xs : List Prop) (p : ℕ) → p < length xs → slice_index (map (λ (x : Prop). x.kind.width) xs) p ≡ (slice_index_or xs p any_prop).kind.width
width_at [] p h = absurd (omega (arith, h))
width_at (x ∷ xs) zero h = refl
width_at (x ∷ xs) (suc p) h = width_at xs p (omega (arith, h))

any_enum : EnumType
any_enum = record { base = record { width = 1; signed = false; members = None }; members = [] }

any_member : EnumMember
any_member = record { name = []; value = 0 }

base_at : (ts : List EnumType) (e : ℕ) → e < length ts → slice_index (map (λ (t : EnumType). t.base.width) ts) e ≡ (slice_index_or ts e any_enum).base.width
base_at [] e h = absurd (omega (arith, h))
base_at (t ∷ ts) zero h = refl
base_at (t ∷ ts) (suc e) h = base_at ts e (omega (arith, h))

values_at : (ts : List EnumType) (e : ℕ) → e < length ts → slice_index_or (map (λ (t : EnumType). map (λ (m : EnumMember). m.value) t.members) ts) e [] ≡ map (λ (m : EnumMember). m.value) (slice_index_or ts e any_enum).members
values_at [] e h = absurd (omega (arith, h))
values_at (t ∷ ts) zero h = refl
values_at (t ∷ ts) (suc e) h = values_at ts e (omega (arith, h))

value_fits : (w : ℕ) (ms : List EnumMember) → 0 < 2 ^ w → ((k : ℕ) → k < length ms → (slice_index_or ms k any_member).value < 2 ^ w) → (j : ℕ) → slice_index (map (λ (m : EnumMember). m.value) ms) j < 2 ^ w
value_fits w [] positive h j = positive
value_fits w (m ∷ ms) positive h zero = h 0 (omega arith)
value_fits w (m ∷ ms) positive h (suc j) = value_fits w ms positive (λ k lt. h (suc k) (omega (arith, lt))) j

module _ (f : FrameTerm) (ns : List ℕ) (sound : IsSound f) (fit : SizesFit f ns) where
  positive : (p : ℕ) → 0 < 2 ^ width_of f p
  positive p = omega (arith, sound.state.below p 0)

  enum_fits : (p : ℕ) (k : Option ℕ) → slice_index_or (map (λ (x : Prop). x.kind.members) f.class.props) p None ≡ k → (vs : List ℕ) → members_of_kind f k ≡ Some vs → (j : ℕ) → slice_index vs j < 2 ^ width_of f p
  enum_fits p None h vs e j = cc
  enum_fits p (Some n) h vs e j =
      let there = kind_at f.class.props p n h in
      let named = subst (IsOfEnum f.enums (slice_index_or f.class.props p any_prop).kind) there.1 ((sound.props p any_prop there.0).named) in
      let wide : width_of f p ≡ (slice_index_or f.enums n any_enum).base.width = width_at f.class.props p there.0 ∙ sym named.1 ∙ base_at f.enums n named.0 in
      let same : vs ≡ members_of_enum f n = cc in
      subst (λ (x : List ℕ). slice_index x j < 2 ^ width_of f p) (sym (same ∙ values_at f.enums n named.0))
      (value_fits (width_of f p) (slice_index_or f.enums n any_enum).members (positive p)
      (λ k lt. subst (λ (v : ℕ). (slice_index_or (slice_index_or f.enums n any_enum).members k any_member).value < 2 ^ v) (sym wide) ((sound.types n any_enum named.0).below k any_member lt)) j)

  domain_fits : (p : ℕ) (vs : Option (List ℕ)) → members_of f p ≡ vs → (word : ℕ) → from_domain f p vs word < 2 ^ width_of f p
  domain_fits p None h word = below_power 0 word (width_of f p) (positive p)
  domain_fits p (Some vs) h word = enum_fits p (slice_index_or (map (λ (x : Prop). x.kind.members) f.class.props) p None) refl vs h (word % length vs)

  dists_fit : (p : ℕ) (dss : List (List DistTerm)) (word : ℕ) → from_dists f ns p dss word < 2 ^ width_of f p
  dists_fit p [] word = domain_fits p (members_of f p) refl word
  dists_fit p (ds ∷ []) word = either (not (ranges_vary f ns ds) && has_places (places_of (shares_of f (state_at f ns) p ds)))
    where
      either : (b : Bool) → (if b then from_shares f p (shares_of f (state_at f ns) p ds) word else from_domain f p (members_of f p) word) < 2 ^ width_of f p
      either true = residue_fits 0 (width_of f p) (positive p) (pick_at (shares_of f (state_at f ns) p ds) (word % places_of (shares_of f (state_at f ns) p ds)))
      either false = domain_fits p (members_of f p) refl word
  dists_fit p (ds ∷ es ∷ more) word = domain_fits p (members_of f p) refl word

  abbrev NumberFits : Slot → ℕ → Type 0
  NumberFits (Scalar p) v = v < 2 ^ width_of f p
  NumberFits (Element p i) v = v < 2 ^ width_of f p
  NumberFits (Size p) v = v < 2 ^ 31

  preferred_fits : (cap : ℕ) → cap ≤ 2048 → (s : Slot) (word : ℕ) → NumberFits s (preferred_number f ns cap s word)
  preferred_fits cap le (Scalar p) word = dists_fit p (dists_on p f.items) word
  preferred_fits cap le (Element p i) word = domain_fits p (members_of f p) refl word
  preferred_fits cap le (Size p) word = let lt : word % (cap + 1) < cap + 1 = mod-lt word (omega arith) in omega (arith, lt, le)

  -- ---- numbers put at slots

  abbrev AllNumbersFit : List (Slot × ℕ) → Type 0
  AllNumbersFit [] = ⊤
  AllNumbersFit (x ∷ xs) = NumberFits x.0 x.1 × AllNumbersFit xs

  at_place : (p i : ℕ) (s : Slot) (v : ℕ) → NumberFits s v → is_at p i s ≡ true → v < 2 ^ width_of f p
  at_place p i (Scalar q) v h e = subst (λ (x : ℕ). v < 2 ^ width_of f x) (eqb-true q p (and_parts (q == p) (i == 0) e).0) h
  at_place p i (Element q j) v h e = subst (λ (x : ℕ). v < 2 ^ width_of f x) (eqb-true q p (and_parts (q == p) (j == i) e).0) h
  at_place p i (Size q) v h e = cc

  at_size : (p : ℕ) (s : Slot) (v : ℕ) → NumberFits s v → is_size_of p s ≡ true → v < 2 ^ 31
  at_size p (Scalar q) v h e = cc
  at_size p (Element q j) v h e = cc
  at_size p (Size q) v h e = h

  number_in_fits : (xs : List (Slot × ℕ)) → AllNumbersFit xs → (p i other : ℕ) → other < 2 ^ width_of f p → number_in xs p i other < 2 ^ width_of f p
  number_in_fits [] h p i other lt = lt
  number_in_fits (x ∷ xs) h p i other lt = either (is_at p i x.0) refl (number_in_fits xs h.1 p i other lt)
    where
      either : (b : Bool) → is_at p i x.0 ≡ b → number_in xs p i other < 2 ^ width_of f p → (if is_at p i x.0 then x.1 else number_in xs p i other) < 2 ^ width_of f p
      either true e rest = rw e (at_place p i x.0 x.1 h.0 e)
      either false e rest = rw e rest

  size_in_fits : (xs : List (Slot × ℕ)) → AllNumbersFit xs → (p other : ℕ) → other < 2 ^ 31 → size_in xs p other < 2 ^ 31
  size_in_fits [] h p other lt = lt
  size_in_fits (x ∷ xs) h p other lt = either (is_size_of p x.0) refl (size_in_fits xs h.1 p other lt)
    where
      either : (b : Bool) → is_size_of p x.0 ≡ b → size_in xs p other < 2 ^ 31 → (if is_size_of p x.0 then x.1 else size_in xs p other) < 2 ^ 31
      either true e rest = rw e (at_size p x.0 x.1 h.0 e)
      either false e rest = rw e rest

  state_fits : (p i : ℕ) → (state_at f ns).element p i < 2 ^ width_of f p
  state_fits p i = either (nat_lt i (slice_index ns p))
    where
      either : (b : Bool) → (if b then (reading_of f.state).element p i else 0) < 2 ^ width_of f p
      either true = sound.state.below p i
      either false = positive p

  all_fit : (xs : List (Slot × ℕ)) → AllNumbersFit xs → (ss : List Slot) → AllFit f (reading_with (state_at f ns) xs) ss
  all_fit xs h [] = tt
  all_fit xs h (Scalar p ∷ ss) = (number_in_fits xs h p 0 ((state_at f ns).element p 0) (state_fits p 0), all_fit xs h ss)
  all_fit xs h (Element p i ∷ ss) = (number_in_fits xs h p i ((state_at f ns).element p i) (state_fits p i), all_fit xs h ss)
  all_fit xs h (Size p ∷ ss) = (size_in_fits xs h p (slice_index ns p) (omega (arith, fit.most p)), all_fit xs h ss)

  -- ---- nothing else is changed

  apart_number : (n : ℕ) (g : (Slot × ℕ) → ℕ) (p i other : ℕ) (ss : List Slot) → list_any (is_at p i) ss ≡ false → number_in (map (λ x. (x.0, g x)) (with_words n ss)) p i other ≡ other
  apart_number n g p i other [] h = refl
  apart_number n g p i other (s ∷ ss) h = let two = neither (is_at p i s) (list_any (is_at p i) ss) h in rw two.0 (apart_number (suc n) g p i other ss two.1)
    where
      neither : (b c : Bool) → (b || c) ≡ false → (b ≡ false) × (c ≡ false)
      neither true c e = cc
      neither false c e = (refl, e)

  apart_size : (n : ℕ) (g : (Slot × ℕ) → ℕ) (p other : ℕ) (ss : List Slot) → list_any (is_size_of p) ss ≡ false → size_in (map (λ x. (x.0, g x)) (with_words n ss)) p other ≡ other
  apart_size n g p other [] h = refl
  apart_size n g p other (s ∷ ss) h = let two = neither (is_size_of p s) (list_any (is_size_of p) ss) h in rw two.0 (apart_size (suc n) g p other ss two.1)
    where
      neither : (b c : Bool) → (b || c) ≡ false → (b ≡ false) × (c ≡ false)
      neither true c e = cc
      neither false c e = (refl, e)

  -- the last two of three lists
  last_two : (t : Slot → Bool) (xs ys zs : List Slot) → list_any t (xs ++ ys ++ zs) ≡ false → list_any t (ys ++ zs) ≡ false
  last_two t xs ys zs h = list_any-append t ys zs ∙ only (list_any t xs) (list_any t ys) (list_any t zs) (sym (list_any-append t (xs ++ ys) zs ∙ ap (λ b. b || list_any t zs) (list_any-append t xs ys)) ∙ h)
    where
      only : (b c d : Bool) → ((b || c) || d) ≡ false → (c || d) ≡ false
      only true c d e = cc
      only false c d e = e

  numbers_fit : (cap : ℕ) → cap ≤ 2048 → (words : ℕ → ℕ) (n : ℕ) (ss : List Slot) → AllNumbersFit (map (λ x. (x.0, preferred_number f ns cap x.0 (words x.1))) (with_words n ss))
  numbers_fit cap le words n [] = tt
  numbers_fit cap le words n (s ∷ ss) = (preferred_fits cap le s (words n), numbers_fit cap le words (suc n) ss)

  module _ (cap : ℕ) (le : cap ≤ 2048) (words : ℕ → ℕ) where
    abbrev value_of : (Slot × ℕ) → ℕ
    value_of x = preferred_number f ns cap x.0 (words x.1)

    -- no cyclic value is chosen yet
    pub preferred_is : (part : Part) → IsAssignment f part ns [] (preferred_of f part ns cap words)
    preferred_is Randc = record { fits = all_fit [] tt (cyclic_slots f); same_numbers = λ p i e. refl; same_sizes = λ p e. refl; same_script = λ v. refl; chosen = tt }
    preferred_is Sizes = record {
      fits = all_fit (map (λ x. (x.0, value_of x)) (draws_of f Sizes ns)) (numbers_fit cap le words 0 (size_slots f ++ scalar_slots f)) (unknowns_of f Sizes ns);
      same_numbers = λ p i e. apart_number 0 value_of p i ((state_at f ns).element p i) (size_slots f ++ scalar_slots f) (last_two (is_at p i) (cyclic_slots f) (size_slots f) (scalar_slots f) e);
      same_sizes = λ p e. apart_size 0 value_of p (slice_index ns p) (size_slots f ++ scalar_slots f) (last_two (is_size_of p) (cyclic_slots f) (size_slots f) (scalar_slots f) e);
      same_script = λ v. refl;
      chosen = tt;
    }
    preferred_is All = record {
      fits = all_fit (map (λ x. (x.0, value_of x)) (draws_of f All ns)) (numbers_fit cap le words (length (size_slots f)) (scalar_slots f ++ element_slots f ns)) (unknowns_of f All ns);
      same_numbers = λ p i e. apart_number (length (size_slots f)) value_of p i ((state_at f ns).element p i) (scalar_slots f ++ element_slots f ns) (last_two (is_at p i) (cyclic_slots f) (scalar_slots f) (element_slots f ns) e);
      same_sizes = λ p e. apart_size (length (size_slots f)) value_of p (slice_index ns p) (scalar_slots f ++ element_slots f ns) (last_two (is_size_of p) (cyclic_slots f) (scalar_slots f) (element_slots f ns) e);
      same_script = λ v. refl;
      chosen = tt;
    }
