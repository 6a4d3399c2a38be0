use Rattle.std.specs.Prelude.{codes}
use Rattle.svr_stream.proofs.Putting.{puts_then, puts_last, puts_as}
use Rattle.svr_printed.proofs.Pieces.{line_of_pieces}
use Rattle.svr_printed.proofs.proof.put_assumed.Goals as goal

pub returns : goal.returns
returns g c =
    puts_as (puts_then c.put.ensures (puts_then c.put_lits.ensures (puts_then c.put_lits-2.ensures (puts_then c.put_lits-3.ensures (puts_last c.put-2.ensures)))))
    (line_of_pieces (codes "a") c.pieces-pieces.result.front.now c.pieces-pieces.result.middle.now c.pieces-pieces.result.back.now c.args.proof.now.assume c.pieces-pieces.ensures)
