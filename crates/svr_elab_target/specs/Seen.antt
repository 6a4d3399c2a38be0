-- What the code keeps of objects and their paths.
use Rattle.std.specs.Prelude.{ℕ, option_map}
use Rattle.svr_elab_target.specs.Named as spec
use Rattle.svr_elab_target.specs.declared.path.Object.{Object}
use Rattle.svr_elab_target.specs.declared.path.ObjectPath.{ObjectPath}

-- an object variable, and its class
abbrev pub object_seen : Object → ℕ × ℕ
object_seen o = (o.variable, o.class)

abbrev pub path_seen : ObjectPath → spec.ObjectPath
path_seen p = record { first = p.first; rest = p.rest.now; object = option_map object_seen p.object }
