use Rattle.std.proofs.Common.{◌≡◌, sym, ap, ◌∙◌, subst, arith}
use Rattle.std.proofs.lemmas.Grind.{common_steps}
use Rattle.svr_typed.specs.ItemTerm.{item_terms}
use Rattle.svr_eval.specs.declared.assign.Assign.{Assign}
use Rattle.svr_eval.specs.Reading.{reading_of}
use Rattle.svr_eval.specs.Holds.{ItemsCanRead}
use Rattle.svr_frame.specs.Frame.{frame_term}
use Rattle.svr_draw.specs.Drawing.{drawn, state_here}
use Rattle.svr_draw.proofs.Drawn.{drawn_here_is}
use Rattle.svr_draw.proofs.Here.{here_can_read}
use Rattle.svr_draw.proofs.assignment.preferred.Goals as goal

pub drawn_scalars-requires-clause-reads : goal.drawn_scalars-requires-clause-reads
drawn_scalars-requires-clause-reads c =
    let same : c.in_ok-here.here ≡ state_here (frame_term c.args.frame.now) c.args.sizes.now = grind (arith, common_steps) in
    subst (λ (a : Assign). ItemsCanRead (reading_of a) 0 (item_terms c.args.frame.now.items)) (sym same) (here_can_read (frame_term c.args.frame.now) c.args.sizes.now c.requires.sound c.requires.fit)

pub returns : goal.returns
returns c =
    let built : record { values = c.in_ok-values.values; sizes = c.in_ok-drawn.drawn; script = c.in_ok-script.script } ≡ drawn (frame_term c.args.frame.now) c.args.part c.args.sizes.now (reading_of (state_here (frame_term c.args.frame.now) c.args.sizes.now)) c.args.cap c.args.draws.now = grind (arith, common_steps) in
    ap reading_of built ∙ drawn_here_is (frame_term c.args.frame.now) c.args.sizes.now c.requires.sound c.requires.fit c.args.cap c.args.draws.now c.args.part
