-- Calls that were worked out by hand: their occurrences, what is live, what is asked in which phase, and weights.
use Rattle.std.specs.Prelude.{◌==◌, ℕ, zero, suc, ℤ, pos, Bool, true, false, ◌&&◌, List, [], ◌∷◌, ◌++◌, None, Some, map, length, slice_index, slice_index_or}
use Rattle.std.specs.List.{list_all}
use Rattle.svr_operator.specs.declared.Rand.{Rand}
use Rattle.svr_operator.specs.declared.Rand.TheVariants as rand
use Rattle.svr_typed.specs.declared.class.ArrayKind.{ArrayKind}
use Rattle.svr_typed.specs.declared.class.ArrayKind.TheVariants as array
use Rattle.svr_typed.specs.declared.class.Prop.{Prop}
use Rattle.svr_typed.specs.declared.class.EnumType.{EnumType}
use Rattle.svr_typed.specs.declared.stmt.CallList.TheVariants as list
use Rattle.svr_operator.specs.declared.BinOp.TheVariants as bin
use Rattle.svr_typed.specs.ExprTerm.{ExprTerm, typed, number, prop, element, size, loop_index, bit_select, exprs_of, RangeTerm, one, span, value}
use Rattle.svr_typed.specs.ItemTerm.{ItemTerm, plain, unique, implies, branch, foreach, disable, ItemTerms, items_of, no_else}
use Rattle.svr_typed.specs.ClassTerm.{BlockTerm}
use Rattle.svr_eval.specs.declared.assign.Assign.{Assign}
use Rattle.svr_eval.specs.Reading.{Reading}
use Rattle.svr_eval.specs.Value.{bit_of}
use Rattle.svr_eval.specs.Examples.{form, int, u8, bits, of2, among, from_to, weighed}
use Rattle.svr_frame.specs.declared.part.Part.TheVariants.{Randc, Sizes, All}
use Rattle.svr_frame.specs.declared.slot.Slot.{Slot}
use Rattle.svr_frame.specs.declared.slot.Slot.TheVariants as slot
use Rattle.svr_frame.specs.Frame.{FrameTerm}
use Rattle.svr_frame.specs.Occurrences.{Occurrence, is_true}
use Rattle.svr_frame.specs.Phases.{unknowns_of, hard_of, capped_hard_of, live_of}
use Rattle.svr_frame.specs.Satisfaction.{kept_ranks, dropped_ranks}
use Rattle.svr_frame.specs.Weight.{weight_of}
use Rattle.svr_frame.specs.Making.{frame_of, random_set}

-- ---- short words

pub record Example : Type 0 where
  pub got : List ℕ
  pub is : List ℕ

infix 5 ◌gives◌
abbrev pub ◌gives◌ : List ℕ → List ℕ → Example
xs gives ys = record { got = xs; is = ys }

abbrev pub same : List ℕ → List ℕ → Bool
same [] [] = true
same [] (y ∷ ys) = false
same (x ∷ xs) [] = false
same (x ∷ xs) (y ∷ ys) = (x == y) && same xs ys

abbrev pub is_so : Example → Bool
is_so ex = same ex.got ex.is

-- properties of these kinds, of w bits and unsigned
abbrev pub of_kind : Rand → ArrayKind → ℕ → Prop
of_kind r k w = record { name = []; kind = record { width = w; signed = false; members = None }; rand = r; array = k; first = 0; low = pos 0; can = true; inner = 1 }

abbrev pub rand_of : ℕ → Prop
rand_of w = of_kind rand.Rand array.Scalar w

abbrev pub randc_of : ℕ → Prop
randc_of w = of_kind rand.Randc array.Scalar w

abbrev pub dynamic_of : ℕ → Prop
dynamic_of w = of_kind rand.Rand array.Dynamic w

abbrev pub fixed_of : ℕ → ℕ → Prop
fixed_of n w = of_kind rand.Rand (array.Fixed n) w

-- a call without arguments, all modes on, where the state has only zeros at these sizes
abbrev pub zeros : ℕ → List ℕ
zeros zero = []
zeros (suc n) = 0 ∷ zeros n

abbrev pub ons : List Prop → List Bool
ons xs = map (λ x. true) xs

abbrev pub frame_in : List EnumType → List Prop → List ℕ → List ItemTerm → FrameTerm
frame_in enums props sizes is = frame_of
    (record { props = props; blocks = record { name = []; items = items_of is } ∷ [] }) enums
    (record { values = map zeros sizes; sizes = sizes; script = [] }) (ons props) (true ∷ [])
    (record { object = 0; list = list.All; items = items_of []; answer = None })

abbrev pub frame : List Prop → List ℕ → List ItemTerm → FrameTerm
frame props sizes is = frame_in [] props sizes is

-- values of scalars and arrays as lists
abbrev pub reading : List (List ℕ) → Reading
reading vs = record { element = λ p i. slice_index (slice_index_or vs p []) i; size = λ p. length (slice_index_or vs p []); script = λ v. 0 }

abbrev pub truths : List (List ℕ) → List Occurrence → List ℕ
truths vs os = map (λ o. bit_of (is_true (reading vs) o)) os

abbrev pub is_ : ExprTerm → ItemTerm
is_ e = plain false e None

abbrev pub soft_ : ExprTerm → ItemTerm
soft_ e = plain true e None

abbrev pub x_of : ℕ → ℕ → ExprTerm
x_of w p = typed w false (prop p)

abbrev pub at_ : ℕ → ℕ → ExprTerm → ExprTerm
at_ w p i = typed w false (element p i)

abbrev pub size_ : ℕ → ExprTerm
size_ p = form (size p 1)

abbrev pub equal : ExprTerm → ExprTerm → ExprTerm
equal x y = of2 x bin.Equal y

abbrev pub k0 : ExprTerm
k0 = form (loop_index 0)

-- slots as numbers
abbrev pub slot_numbers : Slot → List ℕ
slot_numbers (slot.Scalar p) = 0 ∷ p ∷ []
slot_numbers (slot.Element p i) = 1 ∷ p ∷ i ∷ []
slot_numbers (slot.Size p) = 2 ∷ p ∷ []

abbrev pub all_numbers : List Slot → List ℕ
all_numbers [] = []
all_numbers (s ∷ ss) = slot_numbers s ++ all_numbers ss

-- ---- a sum at 8 and at 32 bits: `a + 8'd1 == 8'd0` and `a + 8'd1 == 0`

abbrev pub sums : FrameTerm
sums = frame (rand_of 8 ∷ []) (1 ∷ []) (is_ (equal (of2 (x_of 8 0) bin.Add (u8 1)) (u8 0)) ∷ is_ (equal (of2 (x_of 8 0) bin.Add (u8 1)) (int 0)) ∷ [])

-- ---- a packet: an enum, a length, and an array of that length

abbrev pub kinds : EnumType
kinds = record {
  base = record { width = 2; signed = false; members = None };
  members = record { name = []; value = 0 } ∷ record { name = []; value = 1 } ∷ record { name = []; value = 2 } ∷ [];
}

abbrev pub kind_prop : Prop
kind_prop = record { name = []; kind = record { width = 2; signed = false; members = Some 0 }; rand = rand.Rand; array = array.Scalar; first = 0; low = pos 0; can = true; inner = 1 }

abbrev pub packet : FrameTerm
packet = frame_in (kinds ∷ []) (kind_prop ∷ rand_of 32 ∷ dynamic_of 8 ∷ []) (1 ∷ 1 ∷ 0 ∷ []) (
    is_ (among (x_of 32 1) (from_to (int 46) (int 64) ∷ []))
    ∷ is_ (equal (size_ 2) (x_of 32 1))
    ∷ foreach 2 1 1 (items_of (is_ (equal (at_ 8 2 k0) k0) ∷ []))
    ∷ is_ (equal (x_of 32 1) (int 46))
    ∷ is_ (equal (x_of 2 0) (bits 2 1))
    ∷ [])

-- ---- `soft x == 3; disable soft x; soft x inside {1};`

abbrev pub disabled_soft : FrameTerm
disabled_soft = frame (rand_of 4 ∷ []) (1 ∷ []) (soft_ (equal (x_of 4 0) (int 3)) ∷ disable (x_of 4 0) ∷ soft_ (among (x_of 4 0) (one (int 1) ∷ [])) ∷ [])

-- ---- soft items of a base class, of a class, and of a call

abbrev pub three_soft : FrameTerm
three_soft = frame (rand_of 4 ∷ []) (1 ∷ []) (soft_ (equal (x_of 4 0) (int 1)) ∷ soft_ (equal (x_of 4 0) (int 2)) ∷ soft_ (equal (x_of 4 0) (int 3)) ∷ [])

-- ---- a cyclic bit and another: `b == 0` with `a == 1`, or with `a > b`

abbrev pub cyclic_alone : FrameTerm
cyclic_alone = frame (randc_of 1 ∷ rand_of 1 ∷ []) (1 ∷ 1 ∷ []) (is_ (equal (x_of 1 1) (int 0)) ∷ is_ (equal (x_of 1 0) (int 1)) ∷ [])

abbrev pub cyclic_mixed : FrameTerm
cyclic_mixed = frame (randc_of 1 ∷ rand_of 1 ∷ []) (1 ∷ 1 ∷ []) (is_ (equal (x_of 1 1) (int 0)) ∷ is_ (of2 (x_of 1 0) bin.Greater (x_of 1 1)) ∷ [])

-- ---- a rising array: `foreach (d[k]) (k < d.size() - 1) -> d[k+1] > d[k];`

abbrev pub rising : FrameTerm
rising = frame (dynamic_of 2 ∷ []) (0 ∷ []) (
    is_ (equal (size_ 0) (int 4))
    ∷ foreach 0 1 1 (items_of (implies (of2 k0 bin.Less (of2 (size_ 0) bin.Subtract (int 1))) (items_of (is_ (of2 (at_ 2 0 (of2 k0 bin.Add (int 1))) bin.Greater (at_ 2 0 k0)) ∷ [])) ∷ []))
    ∷ [])

-- ---- `unique {d}; d[0] < d[1]; d[1] < 3; foreach (d[k]) soft d[k] == 0;`

abbrev pub distinct : FrameTerm
distinct = frame (fixed_of 3 2 ∷ []) (3 ∷ []) (
    unique (exprs_of (x_of 2 0 ∷ []))
    ∷ is_ (of2 (at_ 2 0 (int 0)) bin.Less (at_ 2 0 (int 1)))
    ∷ is_ (of2 (at_ 2 0 (int 1)) bin.Less (int 3))
    ∷ foreach 0 1 1 (items_of (soft_ (equal (at_ 2 0 k0) (int 0)) ∷ []))
    ∷ [])

-- ---- `a * b == 1` written so many times

abbrev pub copies_of : ℕ → ItemTerm → List ItemTerm
copies_of zero i = []
copies_of (suc n) i = i ∷ copies_of n i

abbrev pub products : FrameTerm
products = frame (rand_of 64 ∷ rand_of 64 ∷ []) (1 ∷ 1 ∷ []) (copies_of 122 (is_ (equal (of2 (x_of 64 0) bin.Multiply (x_of 64 1)) (int 1))))

-- ---- an index that holds a size to be chosen: `s[d.size()] == 3; b[d.size()] == 1;` over a state array of 4 bytes and a state byte

abbrev pub state_of : ArrayKind → ℕ → Prop
state_of k w = of_kind rand.State k w

abbrev pub by_size : FrameTerm
by_size = frame (dynamic_of 8 ∷ state_of array.Dynamic 8 ∷ state_of array.Scalar 8 ∷ []) (0 ∷ 4 ∷ 1 ∷ []) (
    is_ (equal (at_ 8 1 (size_ 0)) (int 3))
    ∷ is_ (equal (form (bit_select (x_of 8 2) (size_ 0) (pos 0))) (int 1))
    ∷ [])

-- ---- what leaves a size as it is: it stands in a loop, or beside an element

abbrev pub kept_sizes : FrameTerm
kept_sizes = frame (dynamic_of 8 ∷ dynamic_of 8 ∷ dynamic_of 8 ∷ []) (1 ∷ 1 ∷ 1 ∷ []) (
    foreach 0 1 1 (items_of (is_ (equal (at_ 8 0 k0) (size_ 0)) ∷ []))
    ∷ is_ (equal (size_ 1) (at_ 8 0 (int 0)))
    ∷ disable (at_ 8 0 (size_ 1))
    ∷ soft_ (equal (size_ 2) (int 1))
    ∷ [])

-- ---- `d.size() < 5; soft d.size() == 3; foreach (d[k]) d[k] == 1;`

abbrev pub soft_size : FrameTerm
soft_size = frame (dynamic_of 1 ∷ []) (0 ∷ []) (
    is_ (of2 (size_ 0) bin.Less (int 5)) ∷ soft_ (equal (size_ 0) (int 3)) ∷ foreach 0 1 1 (items_of (is_ (equal (at_ 1 0 k0) (int 1)) ∷ [])) ∷ [])

-- ---- `soft x == 1; if (s) disable soft x; soft x == 0;` where s is 0, and where it is 1

abbrev pub tested : ℕ → FrameTerm
tested s =
    record (frame (state_of array.Scalar 1 ∷ rand_of 1 ∷ []) (1 ∷ 1 ∷ [])
    (soft_ (equal (x_of 1 1) (int 1)) ∷ branch (x_of 1 0) (items_of (disable (x_of 1 1) ∷ [])) no_else ∷ soft_ (equal (x_of 1 1) (int 0)) ∷ [])) {
      state = record { values = (s ∷ []) ∷ (0 ∷ []) ∷ []; sizes = 1 ∷ 1 ∷ []; script = [] };
    }

-- ---- `x dist {3 := 0, 4 := 1}; soft x == 3;`

abbrev pub dealt_out : FrameTerm
dealt_out = frame (rand_of 3 ∷ []) (1 ∷ []) (plain false (x_of 3 0) (Some (weighed (int 3) (int 0) ∷ weighed (int 4) (int 1) ∷ [])) ∷ soft_ (equal (x_of 3 0) (int 3)) ∷ [])

-- ---- the targets of `disable soft`: an element, one that is not there, and a whole array, over items that read d[0], d[7], {d} and d.size()

abbrev pub targets : ExprTerm → FrameTerm
targets t = frame (fixed_of 3 4 ∷ rand_of 4 ∷ []) (3 ∷ 1 ∷ []) (
    soft_ (equal (at_ 4 0 (int 0)) (int 0))
    ∷ soft_ (equal (at_ 4 0 (int 7)) (int 1))
    ∷ soft_ (among (int 2) (one (x_of 4 0) ∷ []))
    ∷ soft_ (equal (size_ 0) (int 3))
    ∷ soft_ (equal (x_of 4 1) (int 9))
    ∷ disable t
    ∷ [])

-- ---- random sets: `rand`, `randc`, neither; the second is switched off

abbrev pub three_kinds : List Prop
three_kinds = rand_of 1 ∷ randc_of 1 ∷ state_of array.Scalar 1 ∷ []

abbrev pub flags : List Bool → List ℕ
flags bs = map bit_of bs

abbrev pub worked : List Example
worked =
    (truths ((255 ∷ []) ∷ []) (hard_of sums All (1 ∷ [])) gives (1 ∷ 0 ∷ []))
    -- 8 + 8 + 3 and 32 + 32 + 3
    ∷ ((weight_of sums All (1 ∷ []) ∷ []) gives (86 ∷ []))
    -- the size is one to choose; it stands before the scalars
    ∷ (all_numbers (unknowns_of packet Sizes (1 ∷ 1 ∷ 0 ∷ [])) gives (2 ∷ 2 ∷ 0 ∷ 0 ∷ 0 ∷ 1 ∷ []))
    ∷ (all_numbers (unknowns_of packet All (1 ∷ 1 ∷ 2 ∷ [])) gives (0 ∷ 0 ∷ 0 ∷ 1 ∷ 1 ∷ 2 ∷ 0 ∷ 1 ∷ 2 ∷ 1 ∷ []))
    -- the members of the enum, the size not negative, and four items
    ∷ (truths ((3 ∷ []) ∷ (46 ∷ []) ∷ zeros 46 ∷ []) (hard_of packet Sizes (1 ∷ 1 ∷ 0 ∷ [])) gives (0 ∷ 1 ∷ 1 ∷ 1 ∷ 1 ∷ 0 ∷ []))
    ∷ (truths ((1 ∷ []) ∷ (46 ∷ []) ∷ zeros 46 ∷ []) (capped_hard_of packet 40 (1 ∷ 1 ∷ 0 ∷ [])) gives (1 ∷ 1 ∷ 0 ∷ 1 ∷ 1 ∷ 1 ∷ 1 ∷ []))
    -- at size 2: domain, range, size, two elements, length, kind
    ∷ (truths ((1 ∷ []) ∷ (46 ∷ []) ∷ (0 ∷ 7 ∷ []) ∷ []) (hard_of packet All (1 ∷ 1 ∷ 2 ∷ [])) gives (1 ∷ 1 ∷ 0 ∷ 1 ∷ 0 ∷ 1 ∷ 1 ∷ []))
    -- only the last one is live
    ∷ (truths ((1 ∷ []) ∷ []) (live_of disabled_soft All (1 ∷ [])) gives (1 ∷ []))
    -- the call's first, then the class's, then the base's
    ∷ (truths ((3 ∷ []) ∷ []) (live_of three_soft All (1 ∷ [])) gives (1 ∷ 0 ∷ 0 ∷ []))
    ∷ (dropped_ranks 1 (true ∷ false ∷ false ∷ []) gives (2 ∷ 3 ∷ []))
    ∷ (kept_ranks 1 (true ∷ false ∷ false ∷ []) gives (1 ∷ []))
    -- an item on the cyclic bit alone is asked in its phase, one on both is not
    ∷ (truths ((1 ∷ []) ∷ (0 ∷ []) ∷ []) (hard_of cyclic_alone Randc (1 ∷ 1 ∷ [])) gives (1 ∷ []))
    ∷ (truths ((1 ∷ []) ∷ (0 ∷ []) ∷ []) (hard_of cyclic_mixed Randc (1 ∷ 1 ∷ [])) gives [])
    ∷ (truths ((0 ∷ []) ∷ (0 ∷ []) ∷ []) (hard_of cyclic_mixed All (1 ∷ 1 ∷ [])) gives (1 ∷ 0 ∷ []))
    ∷ (all_numbers (unknowns_of cyclic_mixed Randc (1 ∷ 1 ∷ [])) gives (0 ∷ 0 ∷ []))
    -- the size alone is asked first, then all
    ∷ (truths ((0 ∷ 1 ∷ 2 ∷ 3 ∷ []) ∷ []) (hard_of rising Sizes (0 ∷ [])) gives (1 ∷ 1 ∷ []))
    ∷ (truths ((0 ∷ 1 ∷ 2 ∷ 3 ∷ []) ∷ []) (hard_of rising All (4 ∷ [])) gives (1 ∷ 1 ∷ 1 ∷ 1 ∷ 1 ∷ []))
    ∷ (truths ((0 ∷ 2 ∷ 2 ∷ 3 ∷ []) ∷ []) (hard_of rising All (4 ∷ [])) gives (1 ∷ 1 ∷ 0 ∷ 1 ∷ 1 ∷ []))
    -- three pairs and two items; the last index has the highest rank
    ∷ (truths ((1 ∷ 2 ∷ 0 ∷ []) ∷ []) (hard_of distinct All (3 ∷ [])) gives (1 ∷ 1 ∷ 1 ∷ 1 ∷ 1 ∷ []))
    ∷ (truths ((1 ∷ 2 ∷ 0 ∷ []) ∷ []) (live_of distinct All (3 ∷ [])) gives (1 ∷ 0 ∷ 0 ∷ []))
    -- 122 times 64 + 2 * 64 * 64 + 3
    ∷ ((weight_of products All (1 ∷ 1 ∷ []) ∷ []) gives (1007598 ∷ []))
    -- 32 + (8 * 4 + 1) + 1, and 32 + (8 * 8 + 1 + 1) + 1, with 34 for each bound; in the last phase 34 and 32 + 3 + 1
    ∷ ((weight_of by_size Sizes (0 ∷ 4 ∷ 1 ∷ []) ∷ weight_of by_size All (2 ∷ 4 ∷ 1 ∷ []) ∷ []) gives (233 ∷ 70 ∷ []))
    ∷ (flags by_size.free_size gives (1 ∷ 0 ∷ 0 ∷ []))
    -- only the size that an item alone outside loops mentions is chosen
    ∷ (flags kept_sizes.free_size gives (0 ∷ 0 ∷ 1 ∷ []))
    ∷ (truths ((1 ∷ 1 ∷ 1 ∷ []) ∷ []) (hard_of soft_size Sizes (0 ∷ [])) gives (1 ∷ 1 ∷ []))
    ∷ (truths ((1 ∷ 1 ∷ 1 ∷ []) ∷ []) (live_of soft_size Sizes (0 ∷ [])) gives (1 ∷ []))
    ∷ (truths ((1 ∷ 1 ∷ 1 ∷ []) ∷ []) (hard_of soft_size All (3 ∷ [])) gives (1 ∷ 1 ∷ 1 ∷ 1 ∷ []))
    ∷ ((weight_of soft_size Sizes (0 ∷ []) ∷ []) gives (136 ∷ []))
    -- the test decides
    ∷ (truths ((0 ∷ []) ∷ (1 ∷ []) ∷ []) (live_of (tested 0) All (1 ∷ 1 ∷ [])) gives (0 ∷ 1 ∷ []))
    ∷ (truths ((0 ∷ []) ∷ (1 ∷ []) ∷ []) (live_of (tested 1) All (1 ∷ 1 ∷ [])) gives (0 ∷ []))
    -- the member of weight 0 does not serve, and weighs: 1 + 33 + 33 and 34
    ∷ (truths ((4 ∷ []) ∷ []) (hard_of dealt_out All (1 ∷ []) ++ live_of dealt_out All (1 ∷ [])) gives (1 ∷ 0 ∷ []))
    ∷ (truths ((3 ∷ []) ∷ []) (hard_of dealt_out All (1 ∷ []) ++ live_of dealt_out All (1 ∷ [])) gives (0 ∷ 1 ∷ []))
    ∷ ((weight_of dealt_out All (1 ∷ []) ∷ []) gives (101 ∷ []))
    -- d[0] is mentioned by d[0] and {d}; d[7] by d[7]; d by all four; x by its own
    ∷ (truths ((5 ∷ 5 ∷ 5 ∷ []) ∷ (9 ∷ []) ∷ []) (live_of (targets (at_ 4 0 (int 0))) All (3 ∷ 1 ∷ [])) gives (1 ∷ 1 ∷ 0 ∷ []))
    ∷ (truths ((2 ∷ 5 ∷ 5 ∷ []) ∷ (9 ∷ []) ∷ []) (live_of (targets (at_ 4 0 (int 7))) All (3 ∷ 1 ∷ [])) gives (1 ∷ 1 ∷ 1 ∷ 0 ∷ []))
    ∷ (truths ((5 ∷ 5 ∷ 5 ∷ []) ∷ (9 ∷ []) ∷ []) (live_of (targets (x_of 4 0)) All (3 ∷ 1 ∷ [])) gives (1 ∷ []))
    ∷ (truths ((5 ∷ 5 ∷ 5 ∷ []) ∷ (9 ∷ []) ∷ []) (live_of (targets (x_of 4 1)) All (3 ∷ 1 ∷ [])) gives (1 ∷ 0 ∷ 0 ∷ 0 ∷ []))
    -- three pairs of 4, 4, 34 and three of 34
    ∷ ((weight_of distinct All (3 ∷ []) ∷ []) gives (152 ∷ []))
    -- without arguments, with a list whatever is switched on, with `null`
    ∷ (flags (random_set three_kinds (true ∷ false ∷ true ∷ []) list.All) gives (1 ∷ 0 ∷ 0 ∷ []))
    ∷ (flags (random_set three_kinds (true ∷ false ∷ true ∷ []) (list.Listed (1 ∷ 2 ∷ []))) gives (0 ∷ 1 ∷ 1 ∷ []))
    ∷ (flags (random_set three_kinds (true ∷ false ∷ true ∷ []) list.Null) gives (0 ∷ 0 ∷ 0 ∷ []))
    ∷ []
