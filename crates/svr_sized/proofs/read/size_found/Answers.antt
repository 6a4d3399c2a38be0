use Rattle.std.proofs.Common.{◌≡◌, Some, length, sym, ap, ◌∙◌, arith}
use Rattle.std.specs.Prelude.{slice_index}
use Rattle.std.proofs.Math.Pow.{pow_mono}
use Rattle.svr_gate.proofs.NumberLemmas.{number-lt}
use Rattle.svr_query.specs.Logged.{valuation_of}
use Rattle.svr_frame.specs.Frame.{frame_term}
use Rattle.svr_vector.specs.Places.{rows}
use Rattle.svr_inputs.specs.Inputs.{bits_of, size_row, read_or}
use Rattle.svr_sized.proofs.read.size_found.Goals as goal

pub number_read-requires : goal.number_read-requires
number_read-requires c =
    let here : bits_of (rows c.args.bits.now) (size_row c.args.table.now c.args.prop) ≡ Some c.in-Some.row.now = ap (bits_of (rows c.args.bits.now)) (sym c.size_row.ensures) ∙ c.in-Some.ensures in
    omega (arith, c.requires c.in-Some.row.now here)

pub overflow_cast-result : goal.overflow_cast-result
overflow_cast-result c =
    let ls = c.in-Some.row.now in
    let here : bits_of (rows c.args.bits.now) (size_row c.args.table.now c.args.prop) ≡ Some ls = ap (bits_of (rows c.args.bits.now)) (sym c.size_row.ensures) ∙ c.in-Some.ensures in
    let few = c.requires ls here in
    omega (arith, c.number_read.ensures, number-lt (valuation_of c.args.values.now) ls, pow_mono {i = length ls} {j = 32} few)

pub returns-in-Some : goal.returns-in-Some
returns-in-Some c = c.number_read.ensures ∙ ap (read_or (slice_index (frame_term c.args.frame.now).state.sizes c.args.prop) (valuation_of c.args.values.now)) (sym (ap (bits_of (rows c.args.bits.now)) (sym c.size_row.ensures) ∙ c.in-Some.ensures))

pub returns-in-None : goal.returns-in-None
returns-in-None c = c.size.ensures ∙ ap (read_or (slice_index (frame_term c.args.frame.now).state.sizes c.args.prop) (valuation_of c.args.values.now)) (sym (ap (bits_of (rows c.args.bits.now)) (sym c.size_row.ensures) ∙ c.in-None.ensures))
