-- The objects and variables of a script (IEEE 1800-2017, clause 8 and 18.8 to 18.9), and what each call of a world makes of them.
use Rattle.std.specs.Prelude.{ℕ, ◌-◌, Bool, true, false, List, [], ◌∷◌, ◌++◌, Option, Some, None, IsSome, length, take, map, replicate, slice_index, slice_index_or, slice_set, unwrap_or}
use Rattle.svr_typed.specs.declared.class.ArrayKind.{ArrayKind}
use Rattle.svr_typed.specs.declared.class.ArrayKind.TheVariants.{Scalar, Fixed, Dynamic}
use Rattle.svr_typed.specs.declared.stmt.VarKind.{VarKind}
use Rattle.svr_typed.specs.declared.stmt.VarKind.TheVariants.{Number, Object}
use Rattle.svr_typed.specs.declared.stmt.TVar.{TVar}
use Rattle.svr_typed.specs.ClassTerm.{FlatTerm}
use Rattle.svr_world.specs.declared.change.Replacement.{Replacement}
use Rattle.svr_world.specs.declared.change.Change.{Change}

-- An object: its class by number; for each property its numbers, as stored bits (a scalar has one), whether its random mode is on, and its used values in rising order; for each block whether its mode is on.
pub record ObjectTerm : Type 0 where
  pub class : ℕ
  pub values : List (List ℕ)
  pub rand_modes : List Bool
  pub block_modes : List Bool
  pub used : List (List ℕ)

-- For each script variable the number of its class, the object that it holds, if it holds one, and its number. A variable that is no object variable has the class 0 and no object, and an object variable the number 0.
pub record WorldTerm : Type 0 where
  pub declared : List ℕ
  pub objects : List (Option ObjectTerm)
  pub script : List ℕ

-- ---- what is read

-- what a variable that holds no object is read as
abbrev pub no_object : ObjectTerm
no_object = record { class = 0; values = []; rand_modes = []; block_modes = []; used = [] }

abbrev pub found_object : WorldTerm → ℕ → Option ObjectTerm
found_object w o = slice_index_or w.objects o None

-- the variable holds an object
abbrev pub IsMade : WorldTerm → ℕ → Type 0
IsMade w o = IsSome (found_object w o)

abbrev pub object_of : WorldTerm → ℕ → ObjectTerm
object_of w o = unwrap_or (found_object w o) no_object

-- the numbers of a property
abbrev pub numbers_of : ObjectTerm → ℕ → List ℕ
numbers_of x p = slice_index_or x.values p []

-- one of them, 0 outside
abbrev pub number_at : ObjectTerm → ℕ → ℕ → ℕ
number_at x p i = slice_index (numbers_of x p) i

abbrev pub size_of : ObjectTerm → ℕ → ℕ
size_of x p = length (numbers_of x p)

abbrev pub used_of : ObjectTerm → ℕ → List ℕ
used_of x p = slice_index_or x.used p []

-- whether the random mode of a property is on, and the mode of a block
abbrev pub is_prop_on : ObjectTerm → ℕ → Bool
is_prop_on x p = slice_index_or x.rand_modes p false

abbrev pub is_block_on : ObjectTerm → ℕ → Bool
is_block_on x b = slice_index_or x.block_modes b false

-- ---- a new world

-- the class of a script variable, 0 for one that is no object variable
abbrev pub kind_class : VarKind → ℕ
kind_class (Number t) = 0
kind_class (Object c) = c

abbrev pub declared_classes : List TVar → List ℕ
declared_classes vs = map (λ v. kind_class v.kind) vs

-- no variable holds an object, and all numbers are 0
abbrev pub blank_world : List ℕ → WorldTerm
blank_world classes = record { declared = classes; objects = map (λ c. None) classes; script = map (λ c. 0) classes }

-- ---- what each call changes; all else is as it was

-- one variable holds this object from now on
abbrev pub with_object : WorldTerm → ℕ → ObjectTerm → WorldTerm
with_object w o x = record w { objects = slice_set w.objects o (Some x) }

-- one variable holds none
abbrev pub without_object : WorldTerm → ℕ → WorldTerm
without_object w o = record w { objects = slice_set w.objects o None }

abbrev pub initial_numbers : ArrayKind → ℕ → List ℕ
initial_numbers Scalar first = first ∷ []
initial_numbers (Fixed n) first = replicate n 0
initial_numbers Dynamic first = []

-- initial values, all modes on, nothing used (IEEE 1800-2017, 8.7)
abbrev pub new_object : ℕ → FlatTerm → ObjectTerm
new_object class flat = record {
  class = class;
  values = map (λ p. initial_numbers p.array p.first) flat.props;
  rand_modes = map (λ p. true) flat.props;
  block_modes = map (λ b. true) flat.blocks;
  used = map (λ p. []) flat.props;
}

-- `flat` is the class of the variable with what it inherits
abbrev pub with_new_object : WorldTerm → ℕ → FlatTerm → WorldTerm
with_new_object w o flat = with_object w o (new_object (slice_index w.declared o) flat)

-- the property has these numbers from now on
abbrev pub with_numbers : WorldTerm → ℕ → ℕ → List ℕ → WorldTerm
with_numbers w o p numbers = with_object w o (record (object_of w o) { values = slice_set (object_of w o).values p numbers })

-- one number; a place outside takes nothing
abbrev pub with_number : WorldTerm → ℕ → ℕ → ℕ → ℕ → WorldTerm
with_number w o p i v = with_numbers w o p (slice_set (numbers_of (object_of w o) p) i v)

-- the old numbers stay, and new ones are 0
abbrev pub with_length : ℕ → List ℕ → List ℕ
with_length n numbers = take n numbers ++ replicate (n - length numbers) 0

abbrev pub with_size : WorldTerm → ℕ → ℕ → ℕ → WorldTerm
with_size w o p n = with_numbers w o p (with_length n (numbers_of (object_of w o) p))

-- one mode, or all of them
abbrev pub with_mode : List Bool → Option ℕ → Bool → List Bool
with_mode modes None on = map (λ m. on) modes
with_mode modes (Some k) on = slice_set modes k on

abbrev pub with_rand_mode : WorldTerm → ℕ → Option ℕ → Bool → WorldTerm
with_rand_mode w o p on = with_object w o (record (object_of w o) { rand_modes = with_mode (object_of w o).rand_modes p on })

abbrev pub with_block_mode : WorldTerm → ℕ → Option ℕ → Bool → WorldTerm
with_block_mode w o b on = with_object w o (record (object_of w o) { block_modes = with_mode (object_of w o).block_modes b on })

abbrev pub with_script : WorldTerm → ℕ → ℕ → WorldTerm
with_script w v n = record w { script = slice_set w.script v n }

-- the named lists are replaced, and no other
abbrev pub with_lists : List (List ℕ) → List Replacement → List (List ℕ)
with_lists lists [] = lists
with_lists lists (r ∷ rs) = slice_set (with_lists lists rs) r.prop r.numbers

-- an object with what a call of `randomize` changes
abbrev pub object_with : ObjectTerm → Change → ObjectTerm
object_with x c = record x { values = with_lists x.values c.values; used = with_lists x.used c.used }

abbrev pub with_change : WorldTerm → ℕ → Change → WorldTerm
with_change w o c = with_object w o (object_with (object_of w o) c)
