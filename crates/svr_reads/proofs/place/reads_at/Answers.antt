use Rattle.svr_typed.specs.ClassTerm.{flat_term}
use Rattle.svr_typed.specs.ExprTerm.{expr_term}
use Rattle.svr_eval.specs.Reading.{reading_of}
use Rattle.svr_reads.proofs.AllPlaced.{found_alone}
use Rattle.svr_reads.proofs.place.reads_at.Goals as goal

pub returns : goal.returns
returns c =
    found_alone (flat_term c.args.class.now).props c.as_slice.result.now (reading_of c.args.state.now) c.args.prop c.args.at c.new.result (expr_term c.args.e.now) c.placed.result
    c.placed.ensures c.as_slice.ensures c.new.ensures
