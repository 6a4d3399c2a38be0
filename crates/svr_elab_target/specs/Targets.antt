-- What the left side of an assignment names, by its form (IEEE 1800-2017, 10.4, 7.5.1, 8.7 and 10.9.1).
use Rattle.std.specs.Prelude.{ℕ, Bool, true, false, if◌then◌else◌, Option, Some, None, is_none}
use Rattle.svr_elab_names.specs.declared.Dims.{Dims}
use Rattle.svr_elab_names.specs.declared.Dims.TheVariants as dims
use Rattle.svr_elab_names.specs.declared.Property.{Property}
use Rattle.svr_elab_part.specs.declared.Extent.{Extent}
use Rattle.svr_elab_part.specs.declared.Extent.TheVariants as extent
use Rattle.svr_elab_part.specs.declared.Root.{Root}
use Rattle.svr_elab_part.specs.declared.Root.TheVariants as root
use Rattle.svr_elab_part.specs.declared.Form.{Form}
use Rattle.svr_elab_target.specs.declared.target.Target.{Target}
use Rattle.svr_elab_target.specs.declared.target.Target.TheVariants as target

-- a value or an element, a row, or the whole of an object's property
abbrev pub property_target : Extent → ℕ → Property → Target
property_target extent.Single o p = target.Place o p
property_target extent.Row o p = target.Nothing
property_target extent.Whole o p = target.Array o p

-- a property without an object variable stands in no statement
abbrev pub root_target : Extent → Root → Target
root_target e root.Nothing = target.Nothing
root_target e root.Refused = target.Nothing
root_target e root.Member = target.Nothing
root_target e (root.Variable v) = target.Variable v
root_target e (root.Field p None) = target.Nothing
root_target e (root.Field p (Some o)) = property_target e o p
root_target e (root.Object o c) = target.Object o

abbrev pub target_of : Form → Target
target_of f = if f.bits then target.Nothing else root_target f.extent f.root

-- ---- what may stand on a left side

-- of `new`, and as the whole of a right side: an object variable
abbrev pub is_object : Target → Bool
is_object target.Nothing = false
is_object (target.Object o) = true
is_object (target.Variable v) = false
is_object (target.Place o p) = false
is_object (target.Array o p) = false

-- of an expression: a script variable, a scalar property, an element
abbrev pub is_settable : Target → Bool
is_settable target.Nothing = false
is_settable (target.Object o) = false
is_settable (target.Variable v) = true
is_settable (target.Place o p) = true
is_settable (target.Array o p) = false

abbrev pub is_dynamic : Dims → Bool
is_dynamic dims.Scalar = false
is_dynamic (dims.Fixed n) = false
is_dynamic (dims.Rows n m) = false
is_dynamic dims.Dynamic = true

-- of `new[..]`: a dynamic array or a queue
abbrev pub is_resizable : Target → Bool
is_resizable target.Nothing = false
is_resizable (target.Object o) = false
is_resizable (target.Variable v) = false
is_resizable (target.Place o p) = false
is_resizable (target.Array o p) = is_dynamic p.dims

-- of an assignment pattern: an array
abbrev pub is_array : Target → Bool
is_array target.Nothing = false
is_array (target.Object o) = false
is_array (target.Variable v) = false
is_array (target.Place o p) = false
is_array (target.Array o p) = true

-- of a call: a script variable whose values are those of no enum
abbrev pub is_answer : Target → Option ℕ → Bool
is_answer target.Nothing members = false
is_answer (target.Object o) members = false
is_answer (target.Variable v) members = is_none members
is_answer (target.Place o p) members = false
is_answer (target.Array o p) members = false

abbrev pub answer_number : Target → Option ℕ
answer_number target.Nothing = None
answer_number (target.Object o) = None
answer_number (target.Variable v) = Some v
answer_number (target.Place o p) = None
answer_number (target.Array o p) = None

-- the object variable that `new` gives an object to
abbrev pub object_number : Target → Option ℕ
object_number target.Nothing = None
object_number (target.Object o) = Some o
object_number (target.Variable v) = None
object_number (target.Place o p) = None
object_number (target.Array o p) = None

-- the dimensions of a whole array
abbrev pub array_dims : Target → Dims
array_dims target.Nothing = dims.Scalar
array_dims (target.Object o) = dims.Scalar
array_dims (target.Variable v) = dims.Scalar
array_dims (target.Place o p) = dims.Scalar
array_dims (target.Array o p) = p.dims
