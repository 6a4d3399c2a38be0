-- The object variable that the next statement names is one that some statement of the script names.
use Rattle.std.proofs.Common.{◌≡◌, ℕ, refl, Option, None, Some}
use Rattle.std.specs.Prelude.{IfSome}
use Rattle.svr_typed.specs.StmtTerm.{StmtTerm, DesignTerm}
use Rattle.svr_phase.specs.declared.options.Options.{Options}
use Rattle.svr_effect.specs.Inherited.{IsNamed, IsStatement, named_by}
use Rattle.svr_run.specs.declared.extra.Extra.{Extra}
use Rattle.svr_run.specs.declared.watched.Watched.{Watched}
use Rattle.svr_run.specs.Telling.{Sinks}
use Rattle.svr_run.specs.Watching.{Watcher}
use Rattle.svr_run.specs.Reached.{IsNext}

as_named : (d : DesignTerm) (x : StmtTerm) → IsStatement d x → (m : Option ℕ) → named_by x ≡ m → IfSome m (IsNamed d)
as_named d x among None is = tt
as_named d x among (Some o) is = (x, among, is)

pub next_named : {W C : Type 0} (wa : Watcher W C) (d : DesignTerm) (opts : Options) (extra : Extra) (x : StmtTerm) (p : Watched W) (now : Sinks) → IsNext wa d opts extra x p now → IfSome (named_by x) (IsNamed d)
next_named wa d opts extra x p now (first, rest, place) = as_named d x (place.done, rest, place.split) (named_by x) refl
