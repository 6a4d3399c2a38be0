use Rattle.std.proofs.Common.{ap, ◌∙◌, arith}
use Rattle.svr_seq_text.specs.Machine.{if_moved}
use Rattle.svr_seq_text.proofs.Way.{come-first, come-more, come-stuck, come-ended}
use Rattle.svr_seq_text.proofs.reader.run_through.Goals as goal

pub tokens-init : goal.tokens-init
tokens-init c = record { place = omega arith; near = (let start = c.requires.start in omega arith); come = come-first c.args.text.now c.args.tokens.now c.args.reading.now }

pub returns-in-None : goal.returns-in-None
returns-in-None c =
    come-ended c.args.text.now c.args.tokens.now c.args.reading.now c.tokens.reading c.end_of.new.reading c.tokens.at c.tokens.left.now c.end_of.result
    c.in-None.ensures.cases c.tokens.invariant.come c.end_of.ensures

pub returns-then-not-moved : goal.returns-then-not-moved
returns-then-not-moved c = λ ws are.
    come-stuck c.args.text.now c.args.tokens.now c.args.reading.now c.tokens.reading c.tokens.at c.tokens.left.now _ _ c.word_at.result
    c.in-Some.ensures.cases.0 c.tokens.invariant.come c.word_at.ensures
    (c.in_ok-moved-in-Some.ensures.is ∙ ap (λ b. if_moved b c.take.new.self) c.if-not-moved.true) ws are

pub tokens-preserved : goal.tokens-preserved
tokens-preserved c =
    let stood = c.tokens.invariant.place in
    let left = c.in-Some.ensures.cases.1 in
    let before = c.tokens.invariant.near in
    record {
      place = omega arith;
      near = (let near = c.in_ok-moved-in-Some.ensures.near in omega arith);
      come =
          come-more c.args.text.now c.args.tokens.now c.args.reading.now c.tokens.reading c.take.new.self c.tokens.at c.tokens.left.now _ _ c.word_at.result
          c.in-Some.ensures.cases.0 c.tokens.invariant.come c.word_at.ensures
          (c.in_ok-moved-in-Some.ensures.is ∙ ap (λ b. if_moved b c.take.new.self) c.if-not-moved.false);
    }
