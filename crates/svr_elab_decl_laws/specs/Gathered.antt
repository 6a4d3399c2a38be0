-- What the walk over declarations that keeps the first refusal has to do with the one that gathers all of them.
use Rattle.std.specs.Prelude.{◌≡◌, List, Option}
use Rattle.svr_tree.specs.declared.Top.{Top}
use Rattle.svr_tree.specs.DeclTree.{TypeTree, ClassTree}
use Rattle.svr_elab_fault.specs.declared.Fault.{Fault}
use Rattle.svr_elab_fault.specs.Refusals.{all, first_one, least, FirstOf}
use Rattle.svr_elab_type.specs.Types.{Constant, TypeElab, EnumElab, GlobalsElab}
use Rattle.svr_elab_decl.specs.Properties.{UsedElab, DimsElab}
use Rattle.svr_elab_class.specs.Classes.{ClassElab}
use Rattle.svr_elab_tops.specs.InOrder.{types_and_classes}

-- the same, with the first of all refusals in their place
abbrev pub shown_constant : Constant (List Fault) → Constant (Option Fault)
shown_constant x = record { at = x.at; number = x.number; faults = least x.faults }

abbrev pub shown_type : TypeElab (List Fault) → TypeElab (Option Fault)
shown_type x = record { kind = x.kind; faults = least x.faults }

abbrev pub shown_enum : EnumElab (List Fault) → EnumElab (Option Fault)
shown_enum x = record { names = x.names; next = x.next; numbers = x.numbers; members = x.members; faults = least x.faults }

abbrev pub shown_globals : GlobalsElab (List Fault) → GlobalsElab (Option Fault)
shown_globals x = record { names = x.names; enums = x.enums; faults = least x.faults }

abbrev pub shown_used : UsedElab (List Fault) → UsedElab (Option Fault)
shown_used x = record { used = x.used; faults = least x.faults }

abbrev pub shown_dims : DimsElab (List Fault) → DimsElab (Option Fault)
shown_dims x = record { dims = x.dims; faults = least x.faults }

abbrev pub shown_class : ClassElab (List Fault) → ClassElab (Option Fault)
shown_class x = record { props = x.props; arrays = x.arrays; own = x.own; blocks = x.blocks; faults = least x.faults }

-- the walk with the first refusal is the walk with all of them, seen so
abbrev pub KeepsTheFirst : Type 0
KeepsTheFirst = (s : GlobalsElab (List Fault)) (os : List Top) (ts : List TypeTree) (cs : List ClassTree)
    → shown_globals (types_and_classes all s os ts cs) ≡ types_and_classes first_one (shown_globals s) os ts cs

-- and the refusal that it keeps is the first of all of them by place, at one place by number; where it keeps none there is none
abbrev pub TellsTheFirst : Type 0
TellsTheFirst = (s : GlobalsElab (List Fault)) (os : List Top) (ts : List TypeTree) (cs : List ClassTree)
    → FirstOf (types_and_classes all s os ts cs).faults (types_and_classes first_one (shown_globals s) os ts cs).faults
