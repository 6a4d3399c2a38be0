use Rattle.std.proofs.Common.{arith, length-append, length-take, ℕ, take, drop, ◌+◌, ◌++◌, ◌∙◌}
use Rattle.svr_edge.proofs.Moves.{extended, longer, reads_end, reads_exactly, reads_more, reads_no_more, reads_within, stopped_long, stopped_memory, stopped_failed}
use Rattle.svr_edge.proofs.text.fill.Goals as goal

pub returns-then-count-room-clause-stopped : goal.returns-then-count-room-clause-stopped
returns-then-count-room-clause-stopped g c =
    stopped_long _ _ _ _ _
    (reads_exactly _ _ _ c.loop-count.text.items (take c.in-Ok.count c.read_piece.new.into) _ c.loop-count.invariant.taken c.in-Ok.ensures.bytes.0
    (rw length-append (omega (arith, c.in-Ok.ensures.bound, length-take {A = ℕ}))))
    (c.in-Ok.ensures.cause.kept ∙ c.loop-count.invariant.faults)

pub returns-then-is_err-clause-stopped : goal.returns-then-is_err-clause-stopped
returns-then-is_err-clause-stopped g c =
    stopped_memory _ _ _ _ _
    (reads_within _ _ _ c.loop-count.text.items (take c.in-Ok.count c.read_piece.new.into) _ c.loop-count.invariant.taken c.in-Ok.ensures.bytes.0
    (rw length-append (omega (arith, c.in-Ok.ensures.bound, length-take {A = ℕ}))))
    (c.in-Ok.ensures.cause.kept ∙ c.loop-count.invariant.faults)

pub returns-in-Err-clause-stopped : goal.returns-in-Err-clause-stopped
returns-in-Err-clause-stopped g c =
    stopped_failed _ _ _ _ _ _
    (reads_no_more _ _ _ c.loop-count.text.items _ c.loop-count.invariant.taken c.in-Err.ensures.bytes (omega (arith, c.loop-count.invariant.within, c.loop-count.text.ok.0)))
    c.loop-count.invariant.faults c.in-Err.ensures.cause.failed c.in-Err.ensures.cause.later

pub returns-in-Ok-eq0-clause-whole : goal.returns-in-Ok-eq0-clause-whole
returns-in-Ok-eq0-clause-whole g c = (
  reads_end _ _ _ c.loop-count.text.items c.read_piece.new.into c.in-Ok-eq0.field-0 c.loop-count.invariant.taken c.in-Ok-eq0.ensures.bytes.0 c.in-Ok-eq0.field-0-test,
  c.in-Ok-eq0.ensures.bytes.1 c.in-Ok-eq0.field-0-test (omega (arith, c.in-Ok-eq0.ensures.bound, length-take {A = ℕ})),
)

pub loop-count-preserved : goal.loop-count-preserved
loop-count-preserved g c =
    let text = c.loop-count.text.items in
    let into = c.read_piece.new.into in
    let rest = drop (c.min-want.result + 1) c.loop-count.piece in
    let n = c.in-Ok.count in
    record {
      within = omega (arith, c.loop-count.invariant.within, longer _ _ _ _ c.extend_from_slice.ensures.len c.if-is_err.ensures.value, c.if-count-room.false, c.len.ensures, length-take {A = ℕ});
      taken = reads_more _ _ _ text _ into rest n c.loop-count.invariant.taken c.in-Ok.ensures.bytes.0 c.in-Ok.ensures.bound.0
          (extended c.extend_from_slice.result text c.extend_from_slice.new.self.items (take n (into ++ rest)) c.extend_from_slice.ensures.items c.if-is_err.ensures.value);
      faults = c.in-Ok.ensures.cause.kept ∙ c.loop-count.invariant.faults;
    }
