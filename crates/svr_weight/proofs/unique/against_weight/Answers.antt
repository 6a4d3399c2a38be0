use Rattle.std.proofs.Common.{◌+◌, List, arith, refl}
use Rattle.svr_typed.specs.declared.expr.TExpr.{TExpr}
use Rattle.svr_typed.specs.ExprTerm.{expr_term, expr_terms}
use Rattle.svr_frame.specs.Frame.{frame_term}
use Rattle.svr_weight.specs.Weighing.{pairs_weight, against_weight}
use Rattle.svr_weight.proofs.Caps.{turn_added}
use Rattle.svr_weight.proofs.Counted.{typed_from}
use Rattle.svr_weight.proofs.unique.against_weight.Goals as goal

pub loop-y-preserved : goal.loop-y-preserved
loop-y-preserved c =
    let f = frame_term c.args.frame.now in
    let x = expr_term c.args.x.now in
    record {
      typed = typed_from c.args.others.now (c.loop-y.y-index + 1) c.requires.typed;
      small = omega (arith, c.add-sum.ensures);
      told = turn_added (λ (es : List TExpr). against_weight f c.args.part c.args.sizes.now c.args.around x (expr_terms es)) (pairs_weight f c.args.part c.args.sizes.now c.args.around x (expr_term c.y-item.result))
          c.args.others.now c.loop-y.y-index c.y-item.result c.loop-y.sum _ _ c.loop-y-test.true c.y-item.is refl c.add-sum.ensures c.pairs_weight.ensures c.loop-y.invariant.told;
    }
