-- Preferred values that were worked out by hand.
use Rattle.std.specs.Prelude.{ℕ, zero, suc, ◌-◌, ◌^◌, pos, Bool, true, false, List, [], ◌∷◌, ◌++◌, None, Some, map}
use Rattle.svr_operator.specs.declared.Share.TheVariants.{Each, Whole}
use Rattle.svr_operator.specs.declared.Rand.TheVariants as rand
use Rattle.svr_typed.specs.declared.class.ArrayKind.TheVariants as array
use Rattle.svr_typed.specs.declared.class.Prop.{Prop}
use Rattle.svr_typed.specs.ExprTerm.{ExprTerm, typed, prop, RangeTerm, one, span, value, dollar}
use Rattle.svr_typed.specs.ItemTerm.{DistTerm, ItemTerm, plain, implies, no_items, items_of}
use Rattle.svr_eval.specs.Examples.{int, minus, from_to}
use Rattle.svr_frame.specs.declared.part.Part.TheVariants.{Randc, Sizes, All}
use Rattle.svr_frame.specs.Frame.{FrameTerm}
pub use Rattle.svr_frame.specs.Examples.{is_so}
use Rattle.svr_frame.specs.Examples.{Example, ◌gives◌, frame, frame_in, rand_of, randc_of, dynamic_of, kind_prop, kinds, packet, x_of}
use Rattle.svr_draw.specs.Words.{generator, word_of}
use Rattle.svr_draw.specs.Preferred.{preferred_of}

-- ---- members of distributions

-- `r := n`, `r :/ n`, and `r` alone
abbrev pub each_with : RangeTerm → ℕ → DistTerm
each_with r n = record { range = r; weight = Some (Each, int n) }

abbrev pub whole_with : RangeTerm → ℕ → DistTerm
whole_with r n = record { range = r; weight = Some (Whole, int n) }

abbrev pub bare : RangeTerm → DistTerm
bare r = record { range = r; weight = None }

abbrev pub just : ℕ → RangeTerm
just v = one (int v)

abbrev pub between : ℕ → ℕ → RangeTerm
between low high = from_to (int low) (int high)

-- ---- the 54th call under the seed 42: its first three words, and then ones that are counted up

abbrev pub words : ℕ → ℕ
words zero = 9705778491962043240
words (suc zero) = 1370407407632858425
words (suc (suc zero)) = 11774395822783136600
words (suc (suc (suc n))) = n

-- `bit [7:0] a; bit [7:0] b; bit [3:0] c;`, and `bit [7:0] a; bit [3:0] c;`, with no items
abbrev pub three_scalars : FrameTerm
three_scalars = frame (rand_of 8 ∷ rand_of 8 ∷ rand_of 4 ∷ []) (1 ∷ 1 ∷ 1 ∷ []) []

abbrev pub two_scalars : FrameTerm
two_scalars = frame (rand_of 8 ∷ rand_of 4 ∷ []) (1 ∷ 1 ∷ []) []

-- `x dist {1 := 4, [10:13] := 3}; y dist {5 := 8, [100:103] :/ 8};`
abbrev pub two_dists : FrameTerm
two_dists = frame (rand_of 8 ∷ rand_of 8 ∷ []) (1 ∷ 1 ∷ []) (
    plain false (x_of 8 0) (Some (each_with (just 1) 4 ∷ each_with (between 10 13) 3 ∷ []))
    ∷ plain false (x_of 8 1) (Some (each_with (just 5) 8 ∷ whole_with (between 100 103) 8 ∷ []))
    ∷ [])

-- ---- one scalar x under these items, where each word of the call is the same

-- its number for each of these words
abbrev pub numbers_under : Prop → List ItemTerm → List ℕ → List ℕ
numbers_under x items words = map (λ word. (preferred_of (frame_in (kinds ∷ []) (x ∷ rand_of 8 ∷ []) (1 ∷ 1 ∷ []) items) All (1 ∷ 1 ∷ []) 256 (λ n. word)).element 0 0) words

abbrev pub dist_on_x : Prop → List DistTerm → ItemTerm
dist_on_x x ds = plain false (typed x.kind.width x.kind.signed (prop 0)) (Some ds)

abbrev pub picks_of : Prop → List DistTerm → List ℕ → List ℕ
picks_of x ds words = numbers_under x (dist_on_x x ds ∷ []) words

abbrev pub byte_prop : Prop
byte_prop = record { name = []; kind = record { width = 8; signed = true; members = None }; rand = rand.Rand; array = array.Scalar; first = 0; low = pos 0; can = true; inner = 1 }

-- each kind of range at the first and the last place of each member, and where no pick is made
abbrev pub picks : List Example
picks =
    -- a value and a range with `:=`: 4 and 4 * 3 places; the 17th place is the first again
    (picks_of (rand_of 8) (each_with (just 1) 4 ∷ each_with (between 10 13) 3 ∷ []) (0 ∷ 3 ∷ 4 ∷ 6 ∷ 7 ∷ 15 ∷ 16 ∷ []) gives (1 ∷ 1 ∷ 10 ∷ 10 ∷ 11 ∷ 13 ∷ 1 ∷ []))
    -- a range with `:/`: 8 places for 4 values together, and 3 places for 4 values
    ∷ (picks_of (rand_of 8) (each_with (just 5) 8 ∷ whole_with (between 100 103) 8 ∷ []) (0 ∷ 7 ∷ 8 ∷ 9 ∷ 10 ∷ 15 ∷ []) gives (5 ∷ 5 ∷ 100 ∷ 100 ∷ 101 ∷ 103 ∷ []))
    ∷ (picks_of (rand_of 8) (whole_with (between 100 103) 3 ∷ whole_with (just 7) 2 ∷ []) (0 ∷ 1 ∷ 2 ∷ 3 ∷ 4 ∷ []) gives (100 ∷ 101 ∷ 102 ∷ 7 ∷ 7 ∷ []))
    -- without a weight each value has one place
    ∷ (picks_of (rand_of 8) (bare (just 7) ∷ bare (between 20 22) ∷ []) (0 ∷ 1 ∷ 2 ∷ 3 ∷ []) gives (7 ∷ 20 ∷ 21 ∷ 22 ∷ []))
    -- a range that is turned round, and a weight of 0, have no place
    ∷ (picks_of (rand_of 8) (each_with (between 5 3) 2 ∷ whole_with (between 5 3) 7 ∷ each_with (just 3) 0 ∷ each_with (just 9) 2 ∷ []) (0 ∷ 1 ∷ 2 ∷ []) gives (9 ∷ 9 ∷ 9 ∷ []))
    -- `$` is the least and the greatest number of the type
    ∷ (picks_of (rand_of 8) (each_with (span dollar (value (int 2))) 1 ∷ each_with (span (value (int 253)) dollar) 1 ∷ []) (0 ∷ 2 ∷ 3 ∷ 5 ∷ []) gives (0 ∷ 2 ∷ 253 ∷ 255 ∷ []))
    ∷ (picks_of byte_prop (each_with (span dollar (value (minus 127))) 1 ∷ each_with (span (value (int 126)) dollar) 1 ∷ []) (0 ∷ 1 ∷ 2 ∷ 3 ∷ []) gives (128 ∷ 129 ∷ 126 ∷ 127 ∷ []))
    -- over 0: -2, -1, 0 and 1 with two places each
    ∷ (picks_of byte_prop (whole_with (span (value (minus 2)) (value (int 1))) 8 ∷ []) (0 ∷ 1 ∷ 2 ∷ 4 ∷ 7 ∷ []) gives (254 ∷ 254 ∷ 255 ∷ 0 ∷ 1 ∷ []))
    -- cut to the type
    ∷ (picks_of (rand_of 8) (each_with (just 300) 1 ∷ each_with (one (minus 1)) 1 ∷ []) (0 ∷ 1 ∷ []) gives (44 ∷ 255 ∷ []))
    -- 2^64 - 1 places can be counted in a word, and 2^64 cannot; the product of a place and 2^64 values is divided whole
    ∷ (picks_of (rand_of 64) (each_with (span (value (int 1)) dollar) 1 ∷ []) (0 ∷ (2 ^ 64 - 2) ∷ (2 ^ 64 - 1) ∷ []) gives (1 ∷ (2 ^ 64 - 1) ∷ 1 ∷ []))
    ∷ (picks_of (rand_of 64) (each_with (span dollar dollar) 1 ∷ []) (5 ∷ (2 ^ 64 - 1) ∷ []) gives (5 ∷ (2 ^ 64 - 1) ∷ []))
    ∷ (picks_of (rand_of 64) (whole_with (span dollar dollar) 5 ∷ []) (0 ∷ 4 ∷ 9 ∷ []) gives (0 ∷ 14757395258967641292 ∷ 14757395258967641292 ∷ []))
    -- no place at all
    ∷ (picks_of (rand_of 8) (each_with (just 3) 0 ∷ []) (300 ∷ []) gives (44 ∷ []))
    -- a range that mentions a random property
    ∷ (picks_of (rand_of 8) (each_with (one (x_of 8 1)) 1 ∷ []) (300 ∷ []) gives (44 ∷ []))
    -- two distributions, a soft one, one under a test, and one of another expression
    ∷ (numbers_under (rand_of 8) (dist_on_x (rand_of 8) (bare (just 3) ∷ []) ∷ dist_on_x (rand_of 8) (bare (just 3) ∷ []) ∷ []) (300 ∷ []) gives (44 ∷ []))
    ∷ (numbers_under (rand_of 8) (plain true (x_of 8 0) (Some (bare (just 3) ∷ [])) ∷ []) (300 ∷ []) gives (44 ∷ []))
    ∷ (numbers_under (rand_of 8) (implies (int 1) (items_of (dist_on_x (rand_of 8) (bare (just 3) ∷ []) ∷ [])) ∷ []) (300 ∷ []) gives (44 ∷ []))
    ∷ (numbers_under (rand_of 8) (plain false (int 3) (Some (bare (just 3) ∷ [])) ∷ []) (300 ∷ []) gives (44 ∷ []))
    -- an enum takes the member at the word modulo their number, 3, and not modulo 4; by weight the picked value
    ∷ (numbers_under kind_prop [] (5 ∷ 7 ∷ []) gives (2 ∷ 1 ∷ []))
    ∷ (picks_of kind_prop (bare (just 2) ∷ bare (just 1) ∷ []) (0 ∷ 3 ∷ []) gives (2 ∷ 1 ∷ []))
    -- a cyclic property keeps its number of the state
    ∷ (numbers_under (randc_of 8) [] (300 ∷ []) gives (0 ∷ []))
    ∷ []

abbrev pub preferences : List Example
preferences =
    ((preferred_of two_dists All (1 ∷ 1 ∷ []) 256 words).element 0 0 ∷ (preferred_of two_dists All (1 ∷ 1 ∷ []) 256 words).element 1 0 ∷ [] gives (11 ∷ 100 ∷ []))
    ∷ ((preferred_of three_scalars All (1 ∷ 1 ∷ 1 ∷ []) 256 words).element 0 0 ∷ (preferred_of three_scalars All (1 ∷ 1 ∷ 1 ∷ []) 256 words).element 1 0
    ∷ (preferred_of three_scalars All (1 ∷ 1 ∷ 1 ∷ []) 256 words).element 2 0 ∷ [] gives (104 ∷ 57 ∷ 8 ∷ []))
    ∷ ((preferred_of two_scalars All (1 ∷ 1 ∷ []) 256 words).element 0 0 ∷ (preferred_of two_scalars All (1 ∷ 1 ∷ []) 256 words).element 1 0 ∷ [] gives (104 ∷ 9 ∷ []))
    -- the first word is the size's: modulo 65 for a cap of 64; then the enum's and the length's, in both phases alike; then the elements'
    ∷ ((preferred_of packet Sizes (1 ∷ 1 ∷ 0 ∷ []) 64 words).size 2 ∷ (preferred_of packet Sizes (1 ∷ 1 ∷ 0 ∷ []) 64 words).element 0 0 ∷ (preferred_of packet All (1 ∷ 1 ∷ 2 ∷ []) 64 words).element 0 0
    ∷ (preferred_of packet All (1 ∷ 1 ∷ 2 ∷ []) 64 words).size 2 ∷ (preferred_of packet All (1 ∷ 1 ∷ 2 ∷ []) 64 words).element 2 1 ∷ [] gives (35 ∷ 1 ∷ 1 ∷ 2 ∷ 1 ∷ []))
    ∷ []

-- ---- `rand bit [7:0] a; rand bit [7:0] d [];` with no items, where the size of d is one to choose

abbrev pub sample_frame : FrameTerm
sample_frame = record {
  class = record { props = rand_of 8 ∷ dynamic_of 8 ∷ []; blocks = [] };
  enums = [];
  state = record { values = (0 ∷ []) ∷ [] ∷ []; sizes = 1 ∷ 0 ∷ []; script = [] };
  random = true ∷ true ∷ [];
  free_size = false ∷ true ∷ [];
  items = no_items;
}

-- the first three words of the 54th call under the seed 42
unfoldable pub first_words : List ℕ
first_words = word_of (generator 42 54) 0 ∷ word_of (generator 42 54) 1 ∷ word_of (generator 42 54) 2 ∷ []

abbrev pub told_words : List ℕ
told_words = words 0 ∷ words 1 ∷ words 2 ∷ []
