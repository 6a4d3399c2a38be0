-- A class, an object of it and a call that can stand together in a script (IEEE 1800-2017, 18.4 to 18.11).
use Rattle.std.specs.Prelude.{◌≡◌, ℕ, ◌≤◌, ◌<◌, ◌^◌, Bool, true, false, List, [], map, filter, length, slice_index_or, ⊤}
use Rattle.std.specs.List.{All}
use Rattle.svr_limits.specs.declared.limit.TheConstants.{ARRAY_LIMIT, PROPERTY_LIMIT}
use Rattle.svr_typed.specs.declared.class.Prop.{Prop}
use Rattle.svr_typed.specs.declared.class.EnumType.{EnumType}
use Rattle.svr_typed.specs.declared.stmt.CallList.{CallList}
use Rattle.svr_typed.specs.declared.stmt.CallList.TheVariants as list
use Rattle.svr_typed.specs.ItemTerm.{ItemTerms, no_items}
use Rattle.svr_typed.specs.ClassTerm.{BlockTerm, FlatTerm}
use Rattle.svr_typed.specs.StmtTerm.{CallTerm}
use Rattle.svr_world.specs.World.{ObjectTerm, WorldTerm, object_of}
use Rattle.svr_world.specs.Fits.{FitsClass}
use Rattle.svr_eval.specs.declared.assign.Assign.{Assign}
use Rattle.svr_eval.specs.Reading.{reading_of}
use Rattle.svr_eval.specs.Holds.{ItemsAreTyped, ItemsCanRead}
use Rattle.svr_frame.specs.Frame.{FrameTerm, is_array, props_of}
use Rattle.svr_frame.specs.Making.{is_declared_random}
use Rattle.svr_frame.specs.Sound.{IsEnum, IsProp, TargetsCanRead, ItemsAreIn}

-- ---- the state of a call

-- of an object and of the script's variables
abbrev pub state_from : ObjectTerm → List ℕ → Assign
state_from x script = record { values = x.values; sizes = map length x.values; script = script }

abbrev pub state_of : WorldTerm → ℕ → Assign
state_of w o = state_from (object_of w o) w.script

-- ---- a frame with other free sizes

abbrev pub with_free : FrameTerm → List Bool → FrameTerm
with_free f free = record f { free_size = free }

-- ---- what can be called

-- a frame in which all is random that can be, and no item is active
abbrev pub widest : FlatTerm → List EnumType → Assign → FrameTerm
widest class enums state = record { class = class; enums = enums; state = state; random = map (λ (x : Prop). x.can) class.props; free_size = []; items = no_items }

-- items of such a frame, which can be read in its state
pub record ItemsFit (f : FrameTerm) (is : ItemTerms) : Type 0 where
  pub typed : ItemsAreTyped is
  pub read : ItemsCanRead (reading_of f.state) 0 is
  pub targets : TargetsCanRead (reading_of f.state) 0 is
  pub inside : ItemsAreIn f is

-- what is declared random can be random (18.4)
abbrev pub CanIfDeclared : Prop → Type 0
CanIfDeclared x = is_declared_random x.rand ≡ true → x.can ≡ true

-- what is listed can be random (18.11)
abbrev pub ListCan : List Prop → CallList → Type 0
ListCan props list.All = ⊤
ListCan props list.Null = ⊤
ListCan props (list.Listed ps) = All (λ p. slice_index_or (map (λ (x : Prop). x.can) props) p false ≡ true) ps

-- the items of the class and of the call fit the class, whose object it is, whatever is switched on
pub record IsCallable (class : FlatTerm) (enums : List EnumType) (object : ObjectTerm) (script : List ℕ) (call : CallTerm) : Type 0 where
  pub properties : length class.props ≤ PROPERTY_LIMIT
  pub arrays : length (filter (is_array (widest class enums (state_from object script))) (props_of (widest class enums (state_from object script)))) ≤ ARRAY_LIMIT
  pub few_blocks : length class.blocks < 2 ^ 32
  pub types : All IsEnum enums
  pub props : All (IsProp enums) class.props
  pub declared : All CanIfDeclared class.props
  pub listed : ListCan class.props call.list
  pub values : FitsClass class object
  pub blocks : All (λ (b : BlockTerm). ItemsFit (widest class enums (state_from object script)) b.items) class.blocks
  pub in_line : ItemsFit (widest class enums (state_from object script)) call.items
