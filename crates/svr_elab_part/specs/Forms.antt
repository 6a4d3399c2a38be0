-- What an expression is by its form: what a parent may ask of it.
use Rattle.std.specs.Prelude.{ℕ, ℤ, pos, Bool, true, false, not, if◌then◌else◌, Option, Some, None}
use Rattle.svr_elab_names.specs.declared.Vector.{Vector}
use Rattle.svr_elab_names.specs.declared.Dims.{Dims}
use Rattle.svr_elab_names.specs.declared.Dims.TheVariants as dims
use Rattle.svr_elab_names.specs.declared.Meaning.{Meaning}
use Rattle.svr_elab_names.specs.declared.Meaning.TheVariants.{Wrong, LoopOf, ItemOf, MemberOf, PropertyOf, SizeOf, FoldOf, VariableOf, ObjectOf}
use Rattle.svr_elab_names.specs.Names.{is_array, or_else}
use Rattle.svr_elab_part.specs.declared.part.Extent.{Extent}
use Rattle.svr_elab_part.specs.declared.part.Extent.TheVariants as extent
use Rattle.svr_elab_part.specs.declared.part.Root.{Root}
use Rattle.svr_elab_part.specs.declared.part.Root.TheVariants as root
use Rattle.svr_elab_part.specs.declared.part.Form.{Form}

abbrev pub is_single : Extent → Bool
is_single extent.Single = true
is_single extent.Row = false
is_single extent.Whole = false

abbrev pub is_row : Extent → Bool
is_row extent.Single = false
is_row extent.Row = true
is_row extent.Whole = false

abbrev pub is_whole : Extent → Bool
is_whole extent.Single = false
is_whole extent.Row = false
is_whole extent.Whole = true

-- what is left of it where a row is refused
abbrev pub without_row : Extent → Extent
without_row e = if is_row e then extent.Single else e

abbrev pub property_extent : Dims → Extent
property_extent d = if is_array d then extent.Whole else extent.Single

-- what one index leaves of an array
abbrev pub element_extent : Dims → Extent
element_extent dims.Scalar = extent.Single
element_extent (dims.Fixed n) = extent.Single
element_extent (dims.Rows n m) = extent.Row
element_extent dims.Dynamic = extent.Single

abbrev pub is_object : Root → Bool
is_object root.Nothing = false
is_object root.Refused = false
is_object root.Member = false
is_object (root.Variable v) = false
is_object (root.Field p o) = false
is_object (root.Object o c) = true

-- what is left of it where an object variable is refused
abbrev pub without_object : Root → Root
without_object r = if is_object r then root.Nothing else r

abbrev pub is_refused : Root → Bool
is_refused root.Nothing = false
is_refused root.Refused = true
is_refused root.Member = false
is_refused (root.Variable v) = false
is_refused (root.Field p o) = false
is_refused (root.Object o c) = false

-- that of an expression that is no path and no select of one
abbrev pub other_form : ℕ → Form
other_form at = record { name = at; root = root.Nothing; extent = extent.Single; bits = false; low = pos 0; members = None; random_index = None }

abbrev pub kind_low : Option Vector → ℤ
kind_low None = pos 0
kind_low (Some v) = v.low

abbrev pub kind_members : Option Vector → Option ℕ
kind_members None = None
kind_members (Some v) = v.kind.members

abbrev pub rooted : ℕ → Root → Extent → Option Vector → Form
rooted name r e kind = record { name = name; root = r; extent = e; bits = false; low = kind_low kind; members = kind_members kind; random_index = None }

abbrev pub meaning_form : ℕ → Meaning → Form
meaning_form name (Wrong w) = rooted name root.Refused extent.Single None
meaning_form name (LoopOf k) = other_form name
meaning_form name (ItemOf k p) = rooted name root.Nothing extent.Single p.kind
meaning_form name (MemberOf v kind) = rooted name root.Member extent.Single kind
meaning_form name (PropertyOf p o) = rooted name (root.Field p o) (property_extent p.dims) p.kind
meaning_form name (SizeOf p o) = other_form name
meaning_form name (FoldOf p o f array) = other_form name
meaning_form name (VariableOf v kind) = rooted name (root.Variable v) extent.Single kind
meaning_form name (ObjectOf o c) = rooted name (root.Object o c) extent.Single None

-- one index behind an array or a row, whose first token is `index` where it can be random
abbrev pub indexed_form : Form → Extent → Option ℕ → Form
indexed_form f e index = record { name = f.name; root = f.root; extent = e; bits = false; low = f.low; members = f.members; random_index = or_else f.random_index index }

abbrev pub bits_form : Form → Form
bits_form f = record { name = f.name; root = f.root; extent = extent.Single; bits = true; low = pos 0; members = None; random_index = f.random_index }

-- where a value is wanted
abbrev pub plain_form : Form → Form
plain_form f = record { name = f.name; root = without_object f.root; extent = extent.Single; bits = f.bits; low = f.low; members = f.members; random_index = f.random_index }

-- where an array may stand as well
abbrev pub sole_form : Form → Form
sole_form f = record { name = f.name; root = without_object f.root; extent = without_row f.extent; bits = f.bits; low = f.low; members = f.members; random_index = f.random_index }
