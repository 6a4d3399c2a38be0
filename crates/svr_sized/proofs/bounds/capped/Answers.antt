use Rattle.std.proofs.Common.{arith}
use Rattle.std.proofs.lemmas.Result.{IfOk-weaker}
use Rattle.svr_frame.specs.Frame.{frame_term}
use Rattle.svr_sized.proofs.Caps.{hard_long, with_caps}
use Rattle.svr_sized.proofs.bounds.capped.Goals as goal

pub overflow_sub-active : goal.overflow_sub-active
overflow_sub-active c = omega (arith, c.len-all.ensures, c.in_ok-domains.ensures, hard_long (frame_term c.args.frame.now) c.args.cap c.args.hard c.in_ok-caps.caps c.requires.hard c.in_ok-caps.ensures)

pub overflow_sub-active-2 : goal.overflow_sub-active-2
overflow_sub-active-2 c =
    omega (arith, c.len-all.ensures, c.len-bounds.ensures, c.in_ok-domains.ensures, hard_long (frame_term c.args.frame.now) c.args.cap c.args.hard c.in_ok-caps.caps c.requires.hard c.in_ok-caps.ensures)

pub put_before_last-requires : goal.put_before_last-requires
put_before_last-requires c = omega (arith, c.len-all.ensures)

pub returns : goal.returns
returns c =
    let f = frame_term c.args.frame.now in
    let caps = c.in_ok-caps.caps in
    let long = hard_long f c.args.cap c.args.hard caps c.requires.hard c.in_ok-caps.ensures in
    IfOk-weaker c.put_before_last.result _ _
    (λ all put. with_caps f c.args.cap c.args.hard caps c.requires.hard c.in_ok-caps.ensures all
    (λ front last is n. put front last is (omega (arith, n, long, c.len-all.ensures, c.len-bounds.ensures, c.in_ok-domains.ensures)))) c.put_before_last.ensures
