-- What is printed of a call.
use Rattle.std.specs.Prelude.{ℕ, zero, suc, ◌==◌, Bool, true, false, if◌then◌else◌, List, [], ◌∷◌, ◌++◌, Option, Some, None, map, flat_map, slice_index, slice_index_or, unwrap_or, codes, decimal}
use Rattle.std.specs.List.{concat}
use Rattle.std.specs.Fmt.{signed_decimal}
use Rattle.svr_num.specs.Num.{read_of}
use Rattle.svr_typed.specs.declared.class.NumType.{NumType}
use Rattle.svr_typed.specs.declared.class.Prop.{Prop}
use Rattle.svr_typed.specs.declared.class.ArrayKind.{ArrayKind}
use Rattle.svr_typed.specs.declared.class.ArrayKind.TheVariants as array
use Rattle.svr_typed.specs.declared.class.EnumType.{EnumType}
use Rattle.svr_typed.specs.declared.class.EnumMember.{EnumMember}
use Rattle.svr_frame.specs.declared.part.Part.{Part}
use Rattle.svr_frame.specs.declared.part.Part.TheVariants.{Randc, Sizes, All}
use Rattle.svr_frame.specs.Frame.{FrameTerm}
use Rattle.svr_phase.specs.declared.proof.Renewed.{Renewed}
use Rattle.svr_call.specs.declared.outcome.Dropped.{Dropped}
use Rattle.svr_call.specs.declared.outcome.Query.{Query}
use Rattle.svr_call.specs.declared.outcome.Query.TheVariants as query
use Rattle.svr_call.specs.declared.outcome.Outcome.{Outcome}
use Rattle.svr_call.specs.declared.outcome.Outcome.TheVariants.{One, Zero, GaveUp, TooHeavy, SizeCap}
use Rattle.svr_conflict.specs.declared.found.ConflictEnd.{ConflictEnd}

-- What a call tells: its number, the name of its object variable and the object's class, the frame, the answer, the object's numbers after it, the name of each active item, and which of these contradict each other, where that was asked.
pub record Event : Type 0 where
  pub number : ℕ
  pub object : List ℕ
  pub class : ℕ
  pub frame : FrameTerm
  pub outcome : Outcome
  pub after : List (List ℕ)
  pub names : List (List ℕ)
  pub conflict : Option ConflictEnd

-- ---- values

-- the name of the first member with this value
abbrev pub member_of : List EnumMember → ℕ → Option (List ℕ)
member_of [] v = None
member_of (m ∷ ms) v = if m.value == v then Some m.name else member_of ms v

abbrev pub member_name : List EnumType → Option ℕ → ℕ → Option (List ℕ)
member_name enums None v = None
member_name enums (Some e) v = member_of (slice_index_or (map (λ (t : EnumType). t.members) enums) e []) v

-- a member of its enum by name, and any other number in decimal, with its sign where the type has one
abbrev pub value_text : List EnumType → NumType → ℕ → List ℕ
value_text enums kind v = unwrap_or (member_name enums kind.members v) (signed_decimal (read_of kind.signed kind.width v))

abbrev pub with_commas : List (List ℕ) → List ℕ
with_commas [] = []
with_commas (t ∷ []) = t
with_commas (t ∷ u ∷ us) = t ++ codes "," ++ with_commas (u ∷ us)

abbrev pub bracketed : List (List ℕ) → List ℕ
bracketed ts = codes "[" ++ with_commas ts ++ codes "]"

abbrev pub numbers_text : List EnumType → NumType → ArrayKind → List ℕ → List ℕ
numbers_text enums kind array.Scalar ns = value_text enums kind (slice_index ns 0)
numbers_text enums kind (array.Fixed n) ns = bracketed (map (value_text enums kind) ns)
numbers_text enums kind array.Dynamic ns = bracketed (map (value_text enums kind) ns)

-- each property, with a space before it
abbrev pub values_text : List EnumType → List Prop → List (List ℕ) → List ℕ
values_text enums [] values = []
values_text enums (p ∷ ps) [] = []
values_text enums (p ∷ ps) (ns ∷ values) = concat (codes " " ∷ p.name ∷ codes "=" ∷ numbers_text enums p.kind p.array ns ∷ []) ++ values_text enums ps values

-- ---- names

abbrev pub prop_name : FrameTerm → ℕ → List ℕ
prop_name f p = slice_index_or (map (λ (x : Prop). x.name) f.class.props) p []

-- what a number that names no property is read as
abbrev pub no_type : NumType
no_type = record { width = 0; signed = false; members = None }

-- a value of a scalar property
abbrev pub scalar_text : FrameTerm → ℕ → ℕ → List ℕ
scalar_text f p v = value_text f.enums (slice_index_or (map (λ (x : Prop). x.kind) f.class.props) p no_type) v

-- ---- the line

abbrev pub cycle_text : FrameTerm → Renewed → List ℕ
cycle_text f r = codes " cycle=" ++ prop_name f r.prop

abbrev pub dropped_text : Dropped → List ℕ
dropped_text d = codes " dropped=" ++ decimal d.rank

-- the chosen size of each array whose size the call chooses
abbrev pub sizes_text : List Prop → List Bool → List ℕ → List ℕ
sizes_text [] free sizes = []
sizes_text (p ∷ ps) [] sizes = []
sizes_text (p ∷ ps) (b ∷ free) [] = []
sizes_text (p ∷ ps) (true ∷ free) (n ∷ sizes) = concat (codes " " ∷ p.name ∷ codes ".size=" ∷ decimal n ∷ []) ++ sizes_text ps free sizes
sizes_text (p ∷ ps) (false ∷ free) (n ∷ sizes) = sizes_text ps free sizes

abbrev pub zero_text : FrameTerm → Part → List ℕ → List ℕ
zero_text f Randc sizes = codes "0 randc"
zero_text f Sizes sizes = codes "0 size"
zero_text f All sizes = codes "0 hard" ++ sizes_text f.class.props f.free_size sizes

abbrev pub query_text : FrameTerm → Query → List ℕ
query_text f (query.Randc p) = codes "randc " ++ prop_name f p
query_text f query.Size = codes "size"
query_text f query.Hard = codes "hard"
query_text f (query.Soft k) = codes "soft " ++ decimal k

abbrev pub answer_text : FrameTerm → List (List ℕ) → Outcome → List ℕ
answer_text f after (One kept dropped cycles encodings) =
    concat (codes "1" ∷ values_text f.enums f.class.props after ∷ flat_map (cycle_text f) cycles ∷ flat_map dropped_text dropped ∷ [])
answer_text f after (Zero phase chosen sizes proofs encodings) = zero_text f phase sizes
answer_text f after (GaveUp q e log first) = codes "gaveup " ++ query_text f q
answer_text f after (TooHeavy weight) = codes "limit weight " ++ decimal weight
answer_text f after (SizeCap sizes proofs encodings) = codes "limit size"

-- the line of a call
abbrev pub line_of : Event → List ℕ
line_of e = concat (codes "#" ∷ decimal e.number ∷ codes " " ∷ e.object ∷ codes " " ∷ answer_text e.frame e.after e.outcome ∷ codes "\n" ∷ [])
