-- Which word serves which slot, property by property, and the numbers that follow.
use Rattle.std.specs.Prelude.{ℕ, zero, suc, ◌+◌, ◌%◌, Bool, false, not, ◌&&◌, if◌then◌else◌, List, [], ◌∷◌, ◌++◌, length, slice_index}
use Rattle.svr_eval.specs.declared.assign.Assign.{Assign}
use Rattle.svr_eval.specs.Reading.{Reading, reading_of}
use Rattle.svr_frame.specs.declared.part.Part.{Part}
use Rattle.svr_frame.specs.declared.part.Part.TheVariants.{Randc, Sizes, All}
use Rattle.svr_frame.specs.Frame.{FrameTerm, is_array, is_random, is_cyclic, has_free_size, members_of}
use Rattle.rand_pcg.specs.Lcg.{Lcg}
use Rattle.svr_draw.specs.Words.{word_of, after}
use Rattle.svr_draw.specs.Preferred.{from_domain}
use Rattle.svr_draw.specs.Picking.{from_items}

module _ (f : FrameTerm) where
  -- what a phase takes words for: sizes, which phase All passes over, scalars and elements
  abbrev pub draws_size : Part → ℕ → Bool
  draws_size Randc p = false
  draws_size Sizes p = has_free_size f p
  draws_size All p = has_free_size f p

  abbrev pub draws_scalar : Part → ℕ → Bool
  draws_scalar Randc p = false
  draws_scalar Sizes p = is_random f p && not (is_array f p) && not (is_cyclic f p)
  draws_scalar All p = is_random f p && not (is_array f p) && not (is_cyclic f p)

  abbrev pub draws_elements : Part → ℕ → Bool
  draws_elements Randc p = false
  draws_elements Sizes p = false
  draws_elements All p = is_random f p && is_array f p

  -- how many words the first n properties take for sizes, for scalars, and for elements
  abbrev pub size_words : Part → ℕ → ℕ
  size_words part zero = 0
  size_words part (suc n) = size_words part n + (if draws_size part n then 1 else 0)

  abbrev pub scalar_words : Part → ℕ → ℕ
  scalar_words part zero = 0
  scalar_words part (suc n) = scalar_words part n + (if draws_scalar part n then 1 else 0)

  abbrev pub element_words : Part → List ℕ → ℕ → ℕ
  element_words part ns zero = 0
  element_words part ns (suc n) = element_words part ns n + (if draws_elements part n then slice_index ns n else 0)

  -- ---- numbers as lists, from a generator before the first word of a kind on

  -- a size under its word, where this phase chooses it
  abbrev pub size_number : ℕ → Part → ℕ → ℕ → ℕ → ℕ
  size_number cap Randc word size p = size
  size_number cap Sizes word size p = if has_free_size f p then word % (cap + 1) else size
  size_number cap All word size p = size

  -- the first n numbers of a property in the state
  abbrev pub state_numbers : ℕ → ℕ → List ℕ
  state_numbers p zero = []
  state_numbers p (suc n) = state_numbers p n ++ (reading_of f.state).element p n ∷ []

  -- the first n elements of an array
  abbrev pub drawn_elements : Lcg → ℕ → ℕ → List ℕ
  drawn_elements g p zero = []
  drawn_elements g p (suc n) = drawn_elements g p n ++ from_domain f p (members_of f p) (word_of (after n g) 0) ∷ []

  -- the numbers of a property of this size: those of an array, that of a scalar, or those of the state
  abbrev pub row_of : Part → ℕ → ℕ → Lcg → ℕ → List ℕ
  row_of part size scalar g p = if draws_elements part p then drawn_elements g p size else (if draws_scalar part p then scalar ∷ [] else state_numbers p size)

  -- the numbers of the scalars among the first n properties, 0 for others
  abbrev pub scalar_number : Part → Reading → ℕ → ℕ → ℕ
  scalar_number part a word p = if draws_scalar part p then from_items f a p f.items word else 0

  abbrev pub drawn_scalars : Part → Reading → Lcg → ℕ → List ℕ
  drawn_scalars part a g zero = []
  drawn_scalars part a g (suc n) = drawn_scalars part a g n ++ scalar_number part a (word_of (after (scalar_words part n) g) 0) n ∷ []

  module _ (part : Part) (ns : List ℕ) where
    -- the sizes of the first n properties
    abbrev pub drawn_sizes : ℕ → Lcg → ℕ → List ℕ
    drawn_sizes cap g zero = []
    drawn_sizes cap g (suc n) = drawn_sizes cap g n ++ size_number cap part (word_of (after (size_words part n) g) 0) (slice_index ns n) n ∷ []

    abbrev pub rows : List ℕ → Lcg → ℕ → List (List ℕ)
    rows scalars g zero = []
    rows scalars g (suc n) = rows scalars g n ++ row_of part (slice_index ns n) (slice_index scalars n) (after (element_words part ns n) g) n ∷ []

    -- all of it, from the first word for a size on
    abbrev pub drawn : Reading → ℕ → Lcg → Assign
    drawn a cap g =
        let n = length f.class.props in
        let first = after (size_words part n) g in
        record {
          values = rows (drawn_scalars part a first n) (after (scalar_words part n) first) n;
          sizes = drawn_sizes cap g n;
          script = f.state.script;
        }

  -- the numbers of the first n properties in the state
  abbrev pub state_rows : List ℕ → ℕ → List (List ℕ)
  state_rows ns zero = []
  state_rows ns (suc n) = state_rows ns n ++ state_numbers n (slice_index ns n) ∷ []

  -- the state at these sizes
  abbrev pub state_here : List ℕ → Assign
  state_here ns = record { values = state_rows ns (length f.class.props); sizes = ns; script = f.state.script }
