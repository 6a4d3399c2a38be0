use Rattle.svr_frame.specs.Frame.{frame_term}
use Rattle.svr_phase.proofs.Refutes.{proof_shows}
use Rattle.svr_phase.proofs.laws.a_proof_refutes_all_assignments.Goals as goal

pub returns : goal.returns
returns c = record {
  none = λ k whole fixed soft encodings p stands. proof_shows (frame_term c.args.frame.now) c.args.part c.args.sizes.now c.requires.sound c.requires.fit fixed k whole soft encodings p stands;
}
