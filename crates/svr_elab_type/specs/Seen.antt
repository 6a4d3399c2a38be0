-- What the code keeps of types and enums, as what is known of them with the first refusal only.
use Rattle.std.specs.Prelude.{◌≡◌, ℕ, List, [], Option, map}
use Rattle.svr_elab_fault.specs.declared.Fault.{Fault}
use Rattle.svr_elab_names.specs.Names.{ClassName}
use Rattle.svr_elab_names.specs.Tables.{global_of, class_of}
use Rattle.svr_elab_type.specs.Types.{Constant, TypeElab, EnumElab, GlobalsElab, declaring}
use Rattle.svr_elab_type.specs.declared.constant.Constant.{Constant as Number}
use Rattle.svr_elab_type.specs.declared.types.TypePart.{TypePart}
use Rattle.svr_elab_type.specs.declared.global.NoNames.{NoNames}
use Rattle.svr_elab_type.specs.declared.enums.EnumPart.{EnumPart}
use Rattle.svr_elab_type.specs.declared.typedef.Globals.{Globals}

abbrev pub constant_part : Number → Constant (Option Fault)
constant_part c = record { at = c.at; number = c.number; faults = c.fault }

abbrev pub type_part : TypePart → TypeElab (Option Fault)
type_part t = record { kind = t.kind; faults = t.fault }

pub record AreEmpty (n : NoNames) : Type 0 where
  pub props : n.props.entries ≡ []
  pub later : n.later.keys ≡ []
  pub loops : n.loops ≡ []
  pub vars : n.vars.entries ≡ []
  pub made : n.made.keys ≡ []

-- between the classes that are declared before
abbrev pub enum_part : (ℕ → List ℕ) → List ClassName → EnumPart → EnumElab (Option Fault)
enum_part text cs p = record { names = declaring text (map global_of p.globals.entries) cs; next = p.next; numbers = p.numbers.keys; members = p.members; faults = p.fault }

abbrev pub globals_part : (ℕ → List ℕ) → Globals → GlobalsElab (Option Fault)
globals_part text s = record { names = declaring text (map global_of s.names.entries) (map class_of s.classes); enums = s.enums; faults = s.fault }
