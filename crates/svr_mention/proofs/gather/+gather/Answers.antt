use Rattle.std.proofs.Common.{◌+◌, List, length, refl}
use Rattle.svr_typed.specs.declared.expr.TExpr.{TExpr}
use Rattle.svr_typed.specs.declared.expr.TRange.{TRange}
use Rattle.svr_typed.specs.ExprTerm.{expr_term, expr_terms, range_term, range_terms}
use Rattle.svr_eval.specs.Reading.{reading_of}
use Rattle.svr_mention.specs.Mentioned.{mention_in, reads_in, all_reads_in, ranges_read_in, range_reads_in}
use Rattle.svr_mention.proofs.Turns.{turned, exprs_typed, exprs_can_read, ranges_typed, ranges_can_read}
use Rattle.svr_mention.proofs.gather.+gather.Goals as goal

pub add_all_mentions-loop-e-preserved : goal.add_all_mentions-loop-e-preserved
add_all_mentions-loop-e-preserved t c =
    let x = c.args.set.now in
    let env = c.args.env.now in
    let parts = c.args.parts.now in
    let next = c.loop-e.e-index + 1 in
    record {
      typed = exprs_typed parts next c.requires.typed;
      reads = exprs_can_read (reading_of x.state.now) (length env) parts next c.requires.reads;
      told = turned (mention_in x) (λ (es : List TExpr). all_reads_in x env (expr_terms es)) (reads_in x env (expr_term c.e-item.result)) parts c.loop-e.e-index c.e-item.result c.loop-e.out _ _
          c.loop-e-test.true c.e-item.is refl c.in_ok-add_mentions.ensures c.loop-e.invariant.told;
    }

pub add_range_mentions-loop-range-preserved : goal.add_range_mentions-loop-range-preserved
add_range_mentions-loop-range-preserved t c =
    let x = c.args.set.now in
    let env = c.args.env.now in
    let members = c.args.members.now in
    let next = c.loop-range.range-index + 1 in
    record {
      typed = ranges_typed members next c.requires.typed;
      reads = ranges_can_read (reading_of x.state.now) (length env) members next c.requires.reads;
      told = turned (mention_in x) (λ (rs : List TRange). ranges_read_in x env (range_terms rs)) (range_reads_in x env (range_term c.range-item.result)) members c.loop-range.range-index c.range-item.result c.loop-range.out _ _
          c.loop-range-test.true c.range-item.is refl c.in_ok-add_mentions_of_range.ensures c.loop-range.invariant.told;
    }
