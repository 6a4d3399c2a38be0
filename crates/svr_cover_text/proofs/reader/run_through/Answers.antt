use Rattle.std.proofs.Common.{subst, arith}
use Rattle.svr_cover_text.specs.Machine.{IsTaken}
use Rattle.svr_cover_text.proofs.Way.{come-first, come-more, come-stuck, come-end}
use Rattle.svr_cover_text.proofs.reader.run_through.Goals as goal

pub tokens-init : goal.tokens-init
tokens-init c = record { place = omega arith; come = come-first c.args.text.now c.args.tokens.now c.args.reading.now }

pub returns-in-None-clause-stops : goal.returns-in-None-clause-stops
returns-in-None-clause-stops c = λ ws are.
    come-end c.args.text.now c.args.tokens.now c.args.reading.now c.tokens.reading c.tokens.at c.tokens.left.now c.in-None.ensures.cases c.tokens.invariant.come ws are

pub returns-in-None-clause-within : goal.returns-in-None-clause-within
returns-in-None-clause-within c = let stood = c.tokens.invariant.place in omega arith

pub returns-then-not-moved-clause-stops : goal.returns-then-not-moved-clause-stops
returns-then-not-moved-clause-stops c = λ ws are.
    come-stuck c.args.text.now c.args.tokens.now c.args.reading.now c.tokens.reading c.take.new.self c.tokens.at c.tokens.left.now _ _ c.word_at.result
    c.in-Some.ensures.cases.0 c.tokens.invariant.come c.word_at.ensures
    (subst (λ b. IsTaken b c.tokens.reading c.word_at.result c.take.new.self) c.if-not-moved.true c.in_ok-moved-in-Some.ensures) ws are

pub returns-then-not-moved-clause-within : goal.returns-then-not-moved-clause-within
returns-then-not-moved-clause-within c = let stood = c.tokens.invariant.place in omega arith

pub tokens-preserved : goal.tokens-preserved
tokens-preserved c =
    let stood = c.tokens.invariant.place in
    let left = c.in-Some.ensures.cases.1 in
    record {
      place = omega arith;
      come =
          come-more c.args.text.now c.args.tokens.now c.args.reading.now c.tokens.reading c.take.new.self c.tokens.at c.tokens.left.now _ _ c.word_at.result
          c.in-Some.ensures.cases.0 c.tokens.invariant.come c.word_at.ensures
          (subst (λ b. IsTaken b c.tokens.reading c.word_at.result c.take.new.self) c.if-not-moved.false c.in_ok-moved-in-Some.ensures);
    }
