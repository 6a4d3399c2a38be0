use Rattle.svr_frame.specs.Frame.{frame_term}
use Rattle.svr_phase.proofs.Fresh.{chosen_fresh, chosen_props}
use Rattle.svr_phase.proofs.laws.chosen_values_are_not_used.Goals as goal

pub returns : goal.returns
returns c = record {
  fresh = λ k before p x is. chosen_fresh (frame_term c.args.frame.now) k before p x is;
  props = λ k before ps xs is. chosen_props (frame_term c.args.frame.now) k before ps xs is;
}
