-- Types as they are used, dimensions, initial values and what a property is refused for (IEEE 1800-2017, clauses 6, 7, 8 and 18.4).
use Rattle.std.specs.Prelude.{ℕ, ◌*◌, ℤ, pos, ◌+ℤ◌, max, Bool, true, false, not, ◌&&◌, ◌||◌, nat_lt, nat_le, if◌then◌else◌, List, [], ◌∷◌, length, Option, Some, None, is_none, option_map, slice_get}
use Rattle.svr_num.specs.Num.{cut_of}
use Rattle.svr_operator.specs.declared.Rand.{Rand}
use Rattle.svr_operator.specs.declared.Rand.TheVariants as rand
use Rattle.svr_limits.specs.declared.limit.TheConstants.{ELEMENT_LIMIT, PROPERTY_LIMIT}
use Rattle.svr_typed.specs.declared.EnumType.{EnumType}
use Rattle.svr_typed.specs.ExprTerm.{ExprTerm}
use Rattle.svr_eval.specs.Reading.{blank}
use Rattle.svr_eval.specs.Value.{size_of, sign_of, val}
use Rattle.svr_tree.specs.ExprTree.{ExprTree}
use Rattle.svr_tree.specs.DeclTree as tree
use Rattle.svr_tree.specs.DeclTree.{DataTypeTree, DimensionTree}
use Rattle.svr_refusal.specs.declared.Refusal.TheVariants as refusal
use Rattle.svr_elab_fault.specs.Refusals.{Gather, when}
use Rattle.svr_elab_names.specs.declared.Vector.{Vector}
use Rattle.svr_elab_names.specs.declared.Dims.{Dims}
use Rattle.svr_elab_names.specs.declared.Dims.TheVariants as dims
use Rattle.svr_elab_names.specs.declared.Property.{Property}
use Rattle.svr_elab_names.specs.declared.Global.{Global}
use Rattle.svr_elab_names.specs.declared.Global.TheVariants as global
use Rattle.svr_elab_names.specs.Names.{Space, is_array}
use Rattle.svr_elab_part.specs.Elab.{Elab, value}
use Rattle.svr_elab_part.specs.Shapes.{is_randc}
use Rattle.svr_limits.specs.declared.limit.TheConstants.{ARRAY_LIMIT}
use Rattle.svr_elab_type.specs.Types.{Constant, TypeElab, constant_at, integer_type, global_at, elements, is_below, is_other, is_not}

-- a type as it is used: of numbers, unresolved, or a class
pub data Used : Type 0 where
  numbers : Option Vector → Used
  objects : ℕ → Used
  unnamed : Used

abbrev pub used_global : Option Global → Used
used_global None = unnamed
used_global (Some (global.OfType kind)) = numbers kind
used_global (Some (global.OfClass c)) = objects c
used_global (Some (global.OfMember value kind)) = unnamed

abbrev pub used_kind : Used → Option Vector
used_kind (numbers kind) = kind
used_kind (objects c) = None
used_kind unnamed = None

abbrev pub is_objects : Used → Bool
is_objects (numbers kind) = false
is_objects (objects c) = true
is_objects unnamed = false

abbrev pub is_unnamed : Used → Bool
is_unnamed (numbers kind) = false
is_unnamed (objects c) = false
is_unnamed unnamed = true

pub record UsedElab (F : Type 0) : Type 0 where
  pub used : Used
  pub faults : F

pub record DimsElab (F : Type 0) : Type 0 where
  pub dims : Dims
  pub faults : F

-- ---- dimensions (7.4.2, 7.5, 7.10)

abbrev pub count_if : Bool → Option ℤ → Option ℕ
count_if bad n = if bad then None else option_map elements n

abbrev pub one_more : Option ℤ → Option ℤ
one_more n = option_map (λ n. n +ℤ pos 1) n

abbrev pub is_large : Dims → Bool
is_large dims.Scalar = false
is_large (dims.Fixed None) = false
is_large (dims.Fixed (Some n)) = nat_lt ELEMENT_LIMIT n
is_large (dims.Rows None m) = false
is_large (dims.Rows (Some n) None) = false
is_large (dims.Rows (Some n) (Some m)) = nat_lt ELEMENT_LIMIT (n * m)
is_large dims.Dynamic = false

abbrev pub fixed_size : Dims → Option ℕ
fixed_size dims.Scalar = None
fixed_size (dims.Fixed n) = n
fixed_size (dims.Rows n m) = None
fixed_size dims.Dynamic = None

abbrev pub is_fixed : Dims → Bool
is_fixed dims.Scalar = false
is_fixed (dims.Fixed n) = true
is_fixed (dims.Rows n m) = false
is_fixed dims.Dynamic = false

-- ---- properties

-- more values than a cyclic random property can have: over 8 bits, or over 256 members
abbrev pub has_many : Option EnumType → Bool
has_many None = false
has_many (Some e) = nat_lt 256 (length e.members)

abbrev pub is_long_cycle : List EnumType → Vector → Option ℕ → Bool
is_long_cycle enums v None = nat_lt 8 v.kind.width
is_long_cycle enums v (Some e) = has_many (slice_get enums e)

abbrev pub is_wide_cycle : List EnumType → Option Vector → Bool
is_wide_cycle enums None = false
is_wide_cycle enums (Some v) = is_long_cycle enums v v.kind.members

-- an assignment extends to the greater of the two sizes by the right side's sign, and cuts (10.7)
abbrev pub assigned : ℕ → ExprTerm → ℕ
assigned w e = cut_of w (val blank [] e (max (size_of e) w) (sign_of e))

abbrev pub first_value : Option Vector → Option ExprTerm → ℕ
first_value None e = 0
first_value (Some v) None = 0
first_value (Some v) (Some e) = assigned v.kind.width e

-- a value for an enum is, by its form, a member, a variable, a property or an element of that enum (6.19.3)
abbrev pub is_other_enum : Option Vector → Option ℕ → Bool
is_other_enum None given = false
is_other_enum (Some v) given = is_not v.kind.members given

abbrev pub is_state : Rand → Bool
is_state rand.State = true
is_state rand.Rand = false
is_state rand.Randc = false

-- what stands before a property: how many properties and arrays, whether a base has its name, whether its class has, and whether its type has too many values for `randc`
pub record Before : Type 0 where
  pub props : ℕ
  pub arrays : ℕ
  pub inherits : Bool
  pub doubles : Bool
  pub wide : Bool

-- the property of this number in flat order, which the class of number `home` declares
abbrev pub declared_as : ℕ → ℕ → Rand → Option Vector → Dims → Property
declared_as number home r kind d = record { number = number; home = home; kind = kind; rand = r; random = not (is_state r); dims = d }

module _ {F : Type 0} (g : Gather F) where
  abbrev pub used_faults : ℕ → Used → F
  used_faults name u = when g (is_unnamed u) name refusal.UnknownName

  abbrev pub numbers_use : TypeElab F → UsedElab F
  numbers_use t = record { used = numbers t.kind; faults = t.faults }

  abbrev pub named_type : Space → ℕ → UsedElab F
  named_type n name = record { used = used_global (global_at n name); faults = used_faults name (used_global (global_at n name)) }

  abbrev pub data_type : Space → DataTypeTree → UsedElab F
  data_type n (tree.integer t) = numbers_use (integer_type g n t)
  data_type n (tree.named name) = named_type n name

  -- `[N]`, and `[0:B]`
  abbrev pub sized_dims : Constant F → DimsElab F
  sized_dims c = record {
    dims = dims.Fixed (count_if (is_below (pos 1) c.number) c.number);
    faults = g.both c.faults (when g (is_below (pos 1) c.number) c.at refusal.BadRange);
  }

  abbrev pub bounded_dims : Constant F → Constant F → DimsElab F
  bounded_dims a b = record {
    dims = dims.Fixed (count_if (is_other (pos 0) a.number || (is_none a.number || is_below (pos 0) b.number)) (one_more b.number));
    faults = g.both a.faults (g.both b.faults (g.both (when g (is_other (pos 0) a.number) a.at refusal.BadRange) (when g (is_below (pos 0) b.number) b.at refusal.BadRange)));
  }

  abbrev pub dimension : Space → DimensionTree → DimsElab F
  dimension n tree.dynamic = record { dims = dims.Dynamic; faults = g.nothing }
  dimension n tree.queue = record { dims = dims.Dynamic; faults = g.nothing }
  dimension n (tree.size e) = sized_dims (constant_at g n e)
  dimension n (tree.bounds a b) = bounded_dims (constant_at g n a) (constant_at g n b)

  -- both dimensions of an array of two are fixed
  abbrev pub row_dims : ℕ → DimsElab F → DimsElab F → DimsElab F
  row_dims name d e = record {
    dims = dims.Rows (fixed_size d.dims) (fixed_size e.dims);
    faults = g.both d.faults (g.both e.faults (when g (not (is_fixed d.dims && is_fixed e.dims)) name refusal.LeftOut));
  }

  -- the dimensions of the property of this name: none, one or two
  abbrev pub dims_of : Space → ℕ → List DimensionTree → DimsElab F
  dims_of n name [] = record { dims = dims.Scalar; faults = g.nothing }
  dims_of n name (d ∷ []) = dimension n d
  dims_of n name (d ∷ (e ∷ more)) = row_dims name (dimension n d) (dimension n e)

  -- ---- initial values: constants

  abbrev pub first_faults : ℕ → Dims → Option Vector → Elab F → F
  first_faults name d kind x =
      g.both x.faults (g.both (when g (not x.reads.constant) x.at refusal.NotConstant)
      (g.both (when g (is_other_enum kind x.form.members) x.at refusal.EnumAssign) (when g (is_array d) name refusal.LeftOut)))

  -- ---- properties

  -- what a declared property is refused for
  abbrev pub property_faults : Before → ℕ → Rand → Used → Dims → F
  property_faults b name r u d =
      g.both (when g (is_objects u || b.inherits) name refusal.LeftOut)
      (g.both (when g b.doubles name refusal.DoubleName)
      (g.both (when g (is_randc r && is_array d) name refusal.LeftOut)
      (g.both (when g (is_randc r && b.wide) name refusal.RandcTooWide)
      (when g (is_large d || (nat_le PROPERTY_LIMIT b.props || (is_array d && nat_le ARRAY_LIMIT b.arrays))) name refusal.TooMany))))

  abbrev pub first_at : Space → ℕ → Option Vector → Dims → Option ExprTree → F
  first_at n name kind d None = g.nothing
  first_at n name kind d (Some e) = first_faults name d kind (value g n e)

  -- the number that an initial value stores; 0 where it is refused
  abbrev pub initial : Option Vector → Elab F → ℕ
  initial kind x = if x.reads.constant && g.is_empty x.faults then first_value kind x.tree else 0

  abbrev pub first_number : Space → Option Vector → Option ExprTree → ℕ
  first_number n kind None = 0
  first_number n kind (Some e) = initial kind (value g n e)
