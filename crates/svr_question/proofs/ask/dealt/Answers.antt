use Rattle.std.proofs.Common.{ℕ, List, map, ap, ◌∙◌}
use Rattle.svr_question.specs.Passed.{dropped_at}
use Rattle.svr_question.proofs.ask.dealt.Goals as goal

pub returns : goal.returns
returns c =
    let ranks = c.as_slice-ranks.ensures.value in
    record {
      long = c.in_ok-fates.ensures.long;
      ranks = c.in_ok-fates.ensures.ranks ∙ ranks;
      same = c.from_vec.ensures;
      proofs = c.in_ok-dropped.ensures ∙ ap (λ (ks : List ℕ). map (dropped_at c.args.place c.args.base.now c.args.soft.now ks) c.args.dropped.items) ranks;
      found = λ i. c.args.values.items;
    }
