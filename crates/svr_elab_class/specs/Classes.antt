-- Classes: their properties in flat order, the names of the blocks that they declare, and what their declarations are refused for (IEEE 1800-2017, clause 8).
use Rattle.std.specs.Prelude.{ℕ, ◌+◌, min, Bool, true, false, not, if◌then◌else◌, List, [], ◌∷◌, ◌++◌, length, map, count_by, Option, Some, None, is_none}
use Rattle.std.specs.List.{list_any}
use Rattle.svr_operator.specs.declared.Rand.{Rand}
use Rattle.svr_limits.specs.declared.limit.TheConstants.{PROPERTY_LIMIT}
use Rattle.svr_typed.specs.declared.EnumType.{EnumType}
use Rattle.svr_tree.specs.DeclTree as tree
use Rattle.svr_tree.specs.DeclTree.{DeclaratorTree, ClassItemTree, ClassTree}
use Rattle.svr_refusal.specs.declared.Refusal.TheVariants as refusal
use Rattle.svr_elab_fault.specs.Refusals.{Gather, when}
use Rattle.svr_elab_names.specs.declared.Vector.{Vector}
use Rattle.svr_elab_names.specs.declared.Dims.{Dims}
use Rattle.svr_elab_names.specs.declared.Property.{Property}
use Rattle.svr_elab_names.specs.declared.Global.{Global}
use Rattle.svr_elab_names.specs.declared.Global.TheVariants as global
use Rattle.svr_elab_names.specs.declared.Region.TheVariants as region
use Rattle.svr_elab_names.specs.Names.{Space, GlobalName, PropName, ClassName, is_same, is_name, is_array, global_named, class_props}
use Rattle.svr_limits.specs.declared.limit.TheConstants.{ARRAY_LIMIT}
use Rattle.svr_elab_type.specs.Types.{GlobalsElab, and_name, with_global, double}
use Rattle.svr_elab_decl.specs.Properties.{Used, UsedElab, DimsElab, Before, used_kind, is_wide_cycle, declared_as, data_type, dims_of, first_number, first_at, property_faults}

-- one more name, unless it is there
abbrev pub with_name : List (List ℕ) → List ℕ → List (List ℕ)
with_name ns q = if list_any (is_same q) ns then ns else ns ++ q ∷ []

-- ---- base classes

abbrev pub class_number : Option Global → Option ℕ
class_number None = None
class_number (Some (global.OfType kind)) = None
class_number (Some (global.OfClass c)) = Some c
class_number (Some (global.OfMember value kind)) = None

-- the class that a name stands for
abbrev pub class_at : (ℕ → List ℕ) → List GlobalName → ℕ → Option ℕ
class_at text gs name = class_number (global_named gs (text name))

abbrev pub base_at : (ℕ → List ℕ) → List GlobalName → Option ℕ → Option ℕ
base_at text gs None = None
base_at text gs (Some name) = class_at text gs name

abbrev pub props_at : List ClassName → Option ℕ → List PropName
props_at cs None = []
props_at cs (Some c) = class_props cs c

abbrev pub arrays_in : List PropName → ℕ
arrays_in ps = count_by (λ p. is_array p.property.dims) ps

-- ---- the names of a class's own properties, each once

abbrev pub declared_names : (ℕ → List ℕ) → List (List ℕ) → List DeclaratorTree → List (List ℕ)
declared_names text ns [] = ns
declared_names text ns (d ∷ ds) = declared_names text (with_name ns (text d.name)) ds

abbrev pub item_names : (ℕ → List ℕ) → List (List ℕ) → ClassItemTree → List (List ℕ)
item_names text ns (tree.property p) = declared_names text ns p.decls
item_names text ns (tree.block b) = ns

abbrev pub own_properties : (ℕ → List ℕ) → List (List ℕ) → List ClassItemTree → List (List ℕ)
own_properties text ns [] = ns
own_properties text ns (i ∷ is) = own_properties text (item_names text ns i) is

-- ---- what stands around the items of a class: its number, its base, and what can be named in it but for its properties

pub record Head : Type 0 where
  pub number : ℕ
  pub base : Option ℕ
  pub enums : List EnumType
  pub names : Space

-- where these properties of the class have types, and these names are those of all of its own
abbrev pub in_class : (ℕ → List ℕ) → List GlobalName → List ClassName → List (List ℕ) → List PropName → Space
in_class text gs cs later ps = record { text = text; region = region.Declaration; globals = gs; classes = cs; props = ps; later = later; loops = []; vars = []; made = [] }

abbrev pub behind : Head → List PropName → Space
behind h ps = record h.names { props = ps }

-- ---- a class after some of its items: its properties in flat order, how many of them are arrays, the names that it declares, and those of its blocks

pub record ClassElab (F : Type 0) : Type 0 where
  pub props : List PropName
  pub arrays : ℕ
  pub own : List (List ℕ)
  pub blocks : List (List ℕ)
  pub faults : F

-- over the limit they count as one more than it
abbrev pub and_array : ℕ → Dims → ℕ
and_array n d = if is_array d then min (n + 1) (ARRAY_LIMIT + 1) else n

abbrev pub and_prop : List PropName → List ℕ → Property → ℕ → List PropName
and_prop ps q p first = if is_name (λ p. p.name) q ps then ps else ps ++ (record { name = q; property = p; first = first }) ∷ []

abbrev pub before : {F : Type 0} → Head → ClassElab F → List ℕ → Used → Before
before h c q u = record {
  props = length c.props;
  arrays = c.arrays;
  inherits = is_name (λ p. p.name) q (props_at h.names.classes h.base);
  doubles = list_any (is_same q) c.own;
  wide = is_wide_cycle h.enums (used_kind u);
}

-- its number in flat order, where one past the limit, which is refused, counts as the limit
abbrev pub property_of : {F : Type 0} → Head → ClassElab F → Rand → Option Vector → Dims → Property
property_of h c r kind d = declared_as (min (length c.props) PROPERTY_LIMIT) h.number r kind d

-- ---- a class: its head, where its name stands, and what is kept of it

abbrev pub class_head : {F : Type 0} → GlobalsElab F → ClassTree → Head
class_head s c = record {
  number = length s.names.classes;
  base = base_at s.names.text s.names.globals c.base;
  enums = s.enums;
  names = record (with_global s.names c.name (global.OfClass (length s.names.classes))) { later = own_properties s.names.text [] c.items };
}

-- of a class whose name stands already, and whose base this is
abbrev pub head_inside : {F : Type 0} → GlobalsElab F → Option ℕ → ClassTree → Head
head_inside s base c = record {
  number = length s.names.classes;
  base = base;
  enums = s.enums;
  names = record s.names { later = own_properties s.names.text [] c.items };
}

abbrev pub class_name : {F : Type 0} → List ClassName → Option ℕ → List ℕ → ClassElab F → ClassName
class_name cs base q e = record {
  name = q;
  base = base;
  props = e.props;
  inherited = length (props_at cs base);
  blocks = e.blocks;
}

module _ {F : Type 0} (g : Gather F) where
  abbrev pub and_faults : ClassElab F → F → ClassElab F
  and_faults c faults = record { props = c.props; arrays = c.arrays; own = c.own; blocks = c.blocks; faults = g.both c.faults faults }

  -- the first of a name stands
  abbrev pub with_property : ClassElab F → List ℕ → Property → ℕ → F → ClassElab F
  with_property c q p first faults =
      if list_any (is_same q) c.own then and_faults c faults
      else record {
        props = and_prop c.props q p first;
        arrays = and_array c.arrays p.dims;
        own = with_name c.own q;
        blocks = c.blocks;
        faults = g.both c.faults faults;
      }

  abbrev pub and_property : Head → ClassElab F → ℕ → Rand → Used → ℕ → F → DimsElab F → ClassElab F
  and_property h c name r u first first_refused d =
      with_property c (h.names.text name) (property_of h c r (used_kind u) d.dims) first
      (g.both d.faults (g.both first_refused (property_faults g (before h c (h.names.text name) u) name r u d.dims)))

  abbrev pub declarator : Head → ClassElab F → Rand → Used → DeclaratorTree → ClassElab F
  declarator h c r u d =
      and_property h c d.name r u (first_number g (behind h c.props) (used_kind u) d.value)
      (first_at g (behind h c.props) d.name (used_kind u) (dims_of g (behind h c.props) d.name d.dims).dims d.value) (dims_of g (behind h c.props) d.name d.dims)

  abbrev pub declarators : Head → ClassElab F → Rand → Used → List DeclaratorTree → ClassElab F
  declarators h c r u [] = c
  declarators h c r u (d ∷ ds) = declarators h (declarator h c r u d) r u ds

  abbrev pub property_decl : Head → ClassElab F → Rand → UsedElab F → List DeclaratorTree → ClassElab F
  property_decl h c r u ds = declarators h (and_faults c u.faults) r u.used ds

  -- a block's items come later; its name is one of those that the class declares
  abbrev pub with_block : ClassElab F → List ℕ → ℕ → ClassElab F
  with_block c q name =
      if list_any (is_same q) c.own then and_faults c (when g true name refusal.DoubleName)
      else record { props = c.props; arrays = c.arrays; own = with_name c.own q; blocks = with_name c.blocks q; faults = c.faults }

  abbrev pub class_item : Head → ClassElab F → ClassItemTree → ClassElab F
  class_item h c (tree.property p) = property_decl h c p.rand (data_type g (behind h c.props) p.kind) p.decls
  class_item h c (tree.block b) = with_block c (h.names.text b.name) b.name

  abbrev pub class_items : Head → ClassElab F → List ClassItemTree → ClassElab F
  class_items h c [] = c
  class_items h c (i ∷ is) = class_items h (class_item h c i) is

  -- ---- the whole of a class

  abbrev pub base_faults : (ℕ → List ℕ) → List GlobalName → Option ℕ → F
  base_faults text gs None = g.nothing
  base_faults text gs (Some name) = when g (is_none (class_at text gs name)) name refusal.UnknownName

  -- a label at the end repeats the name
  abbrev pub label_faults : (ℕ → List ℕ) → ℕ → Option ℕ → F
  label_faults text name None = g.nothing
  label_faults text name (Some label) = when g (not (is_same (text label) (text name))) label refusal.UnknownName

  -- the inherited properties come first
  abbrev pub class_start : List ClassName → Option ℕ → ClassElab F
  class_start cs base = record {
    props = props_at cs base;
    arrays = arrays_in (props_at cs base);
    own = [];
    blocks = [];
    faults = g.nothing;
  }

  abbrev pub class_body : Head → List ClassItemTree → ClassElab F
  class_body h is = class_items h (class_start h.names.classes h.base) is

  abbrev pub class_end : GlobalsElab F → ClassTree → ClassElab F → GlobalsElab F
  class_end s c e = record {
    names = record (with_global s.names c.name (global.OfClass (length s.names.classes))) {
      classes = s.names.classes ++ class_name s.names.classes (base_at s.names.text s.names.globals c.base) (s.names.text c.name) e ∷ [];
    };
    enums = s.enums;
    faults = g.both s.faults (g.both (base_faults s.names.text s.names.globals c.base) (g.both (double g s.names c.name) (g.both e.faults (label_faults s.names.text c.name c.label))));
  }

  abbrev pub class_decl : GlobalsElab F → ClassTree → GlobalsElab F
  class_decl s c = class_end s c (class_body (class_head s c) c.items)
