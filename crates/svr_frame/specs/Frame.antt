-- The frame of a call as plain data, and what it says of a property (IEEE 1800-2017, 18.4 and 18.6).
use Rattle.std.specs.Prelude.{◌≡◌, ℕ, ◌^◌, Bool, true, false, not, ◌&&◌, nat_lt, if◌then◌else◌, List, [], ◌∷◌, Option, Some, None, map, length, slice_index, slice_index_or}
use Rattle.std.specs.List.{range_with_len}
use Rattle.svr_operator.specs.declared.Rand.{Rand}
use Rattle.svr_operator.specs.declared.Rand.TheVariants as rand
use Rattle.svr_typed.specs.declared.class.ArrayKind.{ArrayKind}
use Rattle.svr_typed.specs.declared.class.ArrayKind.TheVariants as array
use Rattle.svr_typed.specs.declared.class.Prop.{Prop}
use Rattle.svr_typed.specs.declared.class.EnumType.{EnumType}
use Rattle.svr_typed.specs.declared.class.EnumMember.{EnumMember}
use Rattle.svr_typed.specs.ClassTerm.{FlatTerm, flat_term}
use Rattle.svr_typed.specs.ItemTerm.{ItemTerms, item_terms}
use Rattle.svr_eval.specs.declared.assign.Assign.{Assign}
use Rattle.svr_eval.specs.Reading.{Reading, reading_of}
use Rattle.svr_frame.specs.declared.frame.Frame.{Frame}

-- properties by their places in flat order; `items` are the active ones in order
pub record FrameTerm : Type 0 where
  pub class : FlatTerm
  pub enums : List EnumType
  pub state : Assign
  pub random : List Bool
  pub free_size : List Bool
  pub items : ItemTerms

abbrev pub frame_term : Frame → FrameTerm
frame_term f = record { class = flat_term f.class; enums = f.enums; state = f.state; random = f.random; free_size = f.free_size; items = item_terms f.items }

-- ---- kinds of properties

abbrev pub is_scalar_kind : ArrayKind → Bool
is_scalar_kind array.Scalar = true
is_scalar_kind (array.Fixed n) = false
is_scalar_kind array.Dynamic = false

abbrev pub is_dynamic_kind : ArrayKind → Bool
is_dynamic_kind array.Scalar = false
is_dynamic_kind (array.Fixed n) = false
is_dynamic_kind array.Dynamic = true

abbrev pub is_randc : Rand → Bool
is_randc rand.State = false
is_randc rand.Rand = false
is_randc rand.Randc = true

-- ---- a property of a frame

module _ (f : FrameTerm) where
  -- all of them, in flat order
  abbrev pub props_of : List ℕ
  props_of = range_with_len 0 (length f.class.props)

  abbrev pub is_scalar : ℕ → Bool
  is_scalar p = slice_index_or (map (λ (x : Prop). is_scalar_kind x.array) f.class.props) p false

  -- a number that names no property is no scalar
  abbrev pub is_array : ℕ → Bool
  is_array p = not (is_scalar p)

  abbrev pub is_dynamic : ℕ → Bool
  is_dynamic p = slice_index_or (map (λ (x : Prop). is_dynamic_kind x.array) f.class.props) p false

  -- the elements of a row, which is one element where there is one dimension (7.4.2)
  abbrev pub inner_of : ℕ → ℕ
  inner_of p = slice_index_or (map (λ (x : Prop). x.inner) f.class.props) p 1

  -- the width of its type, or of that of its elements
  abbrev pub width_of : ℕ → ℕ
  width_of p = slice_index (map (λ (x : Prop). x.kind.width) f.class.props) p

  abbrev pub is_signed : ℕ → Bool
  is_signed p = slice_index_or (map (λ (x : Prop). x.kind.signed) f.class.props) p false

  -- random in this call (18.4)
  abbrev pub is_random : ℕ → Bool
  is_random p = slice_index_or f.random p false

  -- cyclic random in this call (18.4.2)
  abbrev pub is_cyclic : ℕ → Bool
  is_cyclic p = is_random p && slice_index_or (map (λ (x : Prop). is_randc x.rand) f.class.props) p false

  -- random in some call of the script (18.4, 18.11)
  abbrev pub can_be_random : ℕ → Bool
  can_be_random p = slice_index_or (map (λ (x : Prop). x.can) f.class.props) p false

  -- an array whose size this call chooses
  abbrev pub has_free_size : ℕ → Bool
  has_free_size p = slice_index_or f.free_size p false

  -- ---- domains

  -- the values of the members of its enum in declaration order (6.19); none is there for other types
  abbrev pub members_of_enum : ℕ → List ℕ
  members_of_enum e = slice_index_or (map (λ (t : EnumType). map (λ (m : EnumMember). m.value) t.members) f.enums) e []

  abbrev pub members_of_kind : Option ℕ → Option (List ℕ)
  members_of_kind None = None
  members_of_kind (Some e) = Some (members_of_enum e)

  abbrev pub members_of : ℕ → Option (List ℕ)
  members_of p = members_of_kind (slice_index_or (map (λ (x : Prop). x.kind.members) f.class.props) p None)

  abbrev pub domain_from : ℕ → Option (List ℕ) → List ℕ
  domain_from w None = range_with_len 0 (2 ^ w)
  domain_from w (Some vs) = vs

  -- the values that a random property can take, in order: the members, or all stored bits
  abbrev pub domain_of : ℕ → List ℕ
  domain_of p = domain_from (width_of p) (members_of p)

  -- ---- the state

  abbrev pub state_sizes : List ℕ
  state_sizes = f.state.sizes

  -- the state at these sizes: past the size of an array nothing stands, which reads 0
  abbrev pub state_at : List ℕ → Reading
  state_at sizes = record {
    element = λ p i. if nat_lt i (slice_index sizes p) then (reading_of f.state).element p i else 0;
    size = λ p. slice_index sizes p;
    script = λ v. (reading_of f.state).script v;
  }
