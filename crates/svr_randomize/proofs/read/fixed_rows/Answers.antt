use Rattle.std.proofs.Common.{◌+◌, ◌∙◌, ap, length, arith}
use Rattle.std.proofs.lemmas.List.{length_push}
use Rattle.svr_randomize.proofs.Rows.{none_yet, pushed, all_same}
use Rattle.svr_randomize.proofs.read.fixed_rows.Goals as goal

pub loop-prop-init : goal.loop-prop-init
loop-prop-init c = (ap length c.new-fixed.ensures, none_yet c.args.random.now c.args.rows.now _)

pub loop-prop-preserved : goal.loop-prop-preserved
loop-prop-preserved c = (
  ap length c.in_ok-push.ensures.ok ∙ length_push c.loop-prop.fixed _ ∙ ap (λ n. n + 1) c.loop-prop.invariant.0,
  pushed c.args.random.now c.args.rows.now c.loop-prop.prop c.loop-prop.fixed _ c.in_ok-row.row c.loop-prop.invariant.0 c.loop-prop.invariant.1 c.in_ok-row.ensures c.in_ok-push.ensures.ok,
)

pub returns : goal.returns
returns c = all_same c.args.random.now c.args.rows.now c.loop-prop.fixed (omega arith) c.loop-prop.prop (omega arith) c.loop-prop.invariant.1
