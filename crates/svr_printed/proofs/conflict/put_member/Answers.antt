use Rattle.std.proofs.Common.{List, ℕ, ◌++◌, ap}
use Rattle.std.specs.Prelude.{codes}
use Rattle.svr_stream.proofs.Putting.{puts_then, puts_as}
use Rattle.svr_printed.proofs.conflict.put_member.Goals as goal

pub returns : goal.returns
returns g c = puts_as (puts_then c.put.ensures c.put-2.ensures) (ap (λ (name : List ℕ). codes " " ++ name) c.name_at.ensures)
