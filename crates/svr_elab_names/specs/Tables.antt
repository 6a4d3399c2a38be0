-- What can be named at a place, as the code's tables have it.
use Rattle.std.specs.Prelude.{ℕ, List, map}
use denote.Ref.{Bor}
use Rattle.svr_token.specs.Names.{names_of}
use Rattle.svr_elab_names.specs.declared.space.Global.{Global}
use Rattle.svr_elab_names.specs.declared.space.VarStand.{VarStand}
use Rattle.svr_elab_names.specs.declared.space.PropEntry.{PropEntry}
use Rattle.svr_elab_names.specs.declared.space.ClassNames.{ClassNames}
use Rattle.svr_elab_names.specs.declared.space.LoopName.{LoopName}
use Rattle.svr_elab_names.specs.declared.space.NameSpace.{NameSpace}
use Rattle.svr_elab_names.specs.Names.{GlobalName, PropName, VarName, ClassName, Loop, Space}

-- a name as a slice of the source
abbrev pub Key : Type 0
Key = Bor (List ℕ)

abbrev pub bytes_of : Key → List ℕ
bytes_of k = k.now

abbrev pub global_of : Key × Global → GlobalName
global_of e = record { name = bytes_of e.0; stands = e.1 }

abbrev pub prop_of : Key × PropEntry → PropName
prop_of e = record { name = bytes_of e.0; property = e.1.property; first = e.1.first }

abbrev pub var_of : Key × VarStand → VarName
var_of e = record { name = bytes_of e.0; stands = e.1 }

abbrev pub loop_of : LoopName → Loop
loop_of l = record { name = l.name.now; item = l.item }

abbrev pub class_of : ClassNames → ClassName
class_of c = record {
  name = c.name.now;
  base = c.base;
  props = map prop_of c.props.value.entries;
  inherited = c.inherited;
  blocks = map bytes_of c.blocks.keys;
}

abbrev pub space_of : NameSpace → Space
space_of n = record {
  text = names_of n.names;
  region = n.region;
  globals = map global_of n.globals.now.entries;
  classes = map class_of n.classes.now;
  props = map prop_of n.props.now.entries;
  later = map bytes_of n.later.now.keys;
  loops = map loop_of n.loops.now;
  vars = map var_of n.vars.now.entries;
  made = n.made.now.keys;
}
