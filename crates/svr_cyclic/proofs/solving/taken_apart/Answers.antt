use Rattle.std.proofs.Common.{ap, ◌∙◌}
use Rattle.std.specs.List.{flat_map}
use Rattle.svr_vector.specs.Places.{rows}
use Rattle.svr_frame.specs.Frame.{frame_term}
use Rattle.svr_cyclic.proofs.Answered.{row_fits, taken_out}
use Rattle.svr_cyclic.proofs.solving.taken_apart.Goals as goal

pub with_bits-requires-clause-clauses : goal.with_bits-requires-clause-clauses
with_bits-requires-clause-clauses c = c.requires.within

pub with_bits-requires-clause-within : goal.with_bits-requires-clause-within
with_bits-requires-clause-within c =
    (row_fits (frame_term c.args.frame.now) c.args.encoding c.requires c.in_ok-bits_in_row.bits_in_row.items (c.in_ok-bits_in_row.ensures ∙ ap (λ vs. flat_map (λ ls. ls) (rows vs)) c.as_slice-rows.ensures.value)).0

pub with_bits-requires-clause-first : goal.with_bits-requires-clause-first
with_bits-requires-clause-first c =
    (row_fits (frame_term c.args.frame.now) c.args.encoding c.requires c.in_ok-bits_in_row.bits_in_row.items (c.in_ok-bits_in_row.ensures ∙ ap (λ vs. flat_map (λ ls. ls) (rows vs)) c.as_slice-rows.ensures.value)).1

pub with_bits-requires-clause-settled : goal.with_bits-requires-clause-settled
with_bits-requires-clause-settled c =
    (row_fits (frame_term c.args.frame.now) c.args.encoding c.requires c.in_ok-bits_in_row.bits_in_row.items (c.in_ok-bits_in_row.ensures ∙ ap (λ vs. flat_map (λ ls. ls) (rows vs)) c.as_slice-rows.ensures.value)).2

pub returns-clause-has : goal.returns-clause-has
returns-clause-has c =
    let f = frame_term c.args.frame.now in
    let row_is = c.in_ok-bits_in_row.ensures ∙ ap (λ vs. flat_map (λ ls. ls) (rows vs)) c.as_slice-rows.ensures.value in
    taken_out f _ c.args.encoding.cnf c.requires _ ((row_fits f c.args.encoding c.requires c.in_ok-bits_in_row.bits_in_row.items row_is).3) c.in_ok-solver.solver c.in_ok-solver.ensures.vars c.in_ok-solver.ensures.clauses c.in_ok-solver.ensures.bits
