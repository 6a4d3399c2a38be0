use Rattle.std.proofs.Common.{◌≡◌, ◌+◌, ◌-◌, refl, arith}
use Rattle.svr_lex.proofs.Comments.{ends_at, never_ends}
use Rattle.svr_lex.proofs.front.comment_body.Goals as goal

pub returns-then-byte-eq47-clause-found : goal.returns-then-byte-eq47-clause-found
returns-then-byte-eq47-clause-found c =
    let star = c.loop-i.invariant.star c.if-after_star.true in
    let back : c.loop-i.i - 1 + 1 ≡ c.loop-i.i = omega (arith, star.0) in
    ends_at c.args.text.now _ (c.loop-i.i - 1) c.loop-i.i refl back c.loop-i-test.true (star.1 (c.loop-i.i - 1) back) c.if-byte-eq47.true c.loop-i.invariant.unended

pub returns-clause-none : goal.returns-clause-none
returns-clause-none c =
    never_ends c.args.text.now (λ k less a b. c.loop-i.invariant.unended k (omega arith) a b)
