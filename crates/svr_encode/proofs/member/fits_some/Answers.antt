use Rattle.std.proofs.Common.{length, ap, arith, ◌||◌}
use Rattle.svr_typed.specs.ExprTerm.{expr_term, range_terms}
use Rattle.svr_eval.specs.Value as spec
use Rattle.svr_gate.proofs.Circuits.{later, Extends-trans, IsWithin-later}
use Rattle.svr_vector.specs.Places.{rows}
use Rattle.svr_vector.proofs.PickLemmas.{rows_len}
use Rattle.svr_inputs.specs.Inputs.{read_at}
use Rattle.svr_encode.proofs.GivenLemmas.{given_len}
use Rattle.svr_encode.proofs.MemberLemmas.{range_given, rest_given, range_typed, range_served, ranges_typed, ranges_served, ranges_more, ranges_end}
use Rattle.svr_encode.proofs.member.fits_some.Goals as goal

pub returns-in_err-one-clause-extends : goal.returns-in_err-one-clause-extends
returns-in_err-one-clause-extends c = search later

pub returns-in_err-found-2-clause-extends : goal.returns-in_err-found-2-clause-extends
returns-in_err-found-2-clause-extends c = search later

pub fits-requires-clause-room : goal.fits-requires-clause-room
fits-requires-clause-room c = omega (arith, c.requires.room, c.loop-range.invariant.extends.vars)

pub fits-requires-clause-typed : goal.fits-requires-clause-typed
fits-requires-clause-typed c = range_typed (rows c.args.given.now.values.now) (λ v. read_at c.args.given.now.inputs.now v) c.args.given.now.env.now (expr_term c.args.left.now) c.args.set.now c.loop-range.range-index c.range-item.result (omega arith) c.range-item.is c.loop-range.invariant.typed

pub fits-requires-clause-ready : goal.fits-requires-clause-ready
fits-requires-clause-ready c = range_served (rows c.args.given.now.values.now) (λ v. read_at c.args.given.now.inputs.now v) c.args.given.now.env.now (expr_term c.args.left.now) c.args.set.now c.loop-range.range-index c.range-item.result (omega arith) c.range-item.is c.args.given.now.inputs.now (length c.args.given.now.env.now) c.loop-range.invariant.ready

pub of_bits-requires-clause-p_within : goal.of_bits-requires-clause-p_within
of_bits-requires-clause-p_within c = IsWithin-later c.loop-range.found c.fits.ensures.extends c.loop-range.invariant.within

pub returns-clause-extends : goal.returns-clause-extends
returns-clause-extends c = c.loop-range.invariant.extends

pub fits-requires-clause-parts : goal.fits-requires-clause-parts
fits-requires-clause-parts c =
    let g = c.args.given.now in
    range_given (rows g.values.now) (λ v. read_at g.inputs.now v) g.env.now (expr_term c.args.left.now) c.args.set.now c.loop-range.range-index c.range-item.result (omega arith) c.range-item.is
    c.args.b.now c.loop-range.b c.loop-range.at c.loop-range.invariant.extends c.loop-range.invariant.parts

pub loop-range-init : goal.loop-range-init
loop-range-init c =
    let g = c.args.given.now in
    record {
      typed = c.requires.typed;
      ready = c.requires.ready;
      parts = c.requires.parts;
      extends = c.constant.ensures.extends;
      within = c.in_ok-found.ensures.value.within;
      told = λ v m.
          ap (λ p. p || spec.fits_some (read_at g.inputs.now v) g.env.now (spec.operand_of (read_at g.inputs.now v) g.env.now (expr_term c.args.left.now)) (range_terms c.args.set.now)) (c.in_ok-found.ensures.value.value v m);
    }

pub loop-range-preserved : goal.loop-range-preserved
loop-range-preserved c =
    let g = c.args.given.now in
    record {
      typed = ranges_typed (rows g.values.now) (λ v. read_at g.inputs.now v) g.env.now (expr_term c.args.left.now) c.args.set.now c.loop-range.range-index c.range-item.result (omega arith) c.range-item.is c.loop-range.invariant.typed;
      ready = ranges_served (rows g.values.now) (λ v. read_at g.inputs.now v) g.env.now (expr_term c.args.left.now) c.args.set.now c.loop-range.range-index c.range-item.result (omega arith) c.range-item.is c.args.given.now.inputs.now (length c.args.given.now.env.now) c.loop-range.invariant.ready;
      parts = rest_given (rows g.values.now) (λ v. read_at g.inputs.now v) g.env.now (expr_term c.args.left.now) c.args.set.now c.loop-range.range-index c.range-item.result (omega arith) c.range-item.is
          c.args.b.now c.loop-range.at c.range_count-at.result (c.range_count-at.ensures (expr_term c.args.left.now)) c.loop-range.invariant.parts;
      extends = Extends-trans c.loop-range.invariant.extends (Extends-trans c.fits.ensures.extends c.of_bits.ensures.extends);
      within = c.in_ok-found-2.ensures.value.within;
      told = ranges_more (λ v. read_at g.inputs.now v) g.env.now (expr_term c.args.left.now) c.loop-range.range-index c.args.set.now c.range-item.result c.loop-range.found c.in_ok-one.one c.in_ok-found-2.found (omega arith) c.range-item.is
          c.fits.ensures.extends c.of_bits.ensures.extends c.loop-range.invariant.told c.in_ok-one.ensures.value c.in_ok-found-2.ensures.value;
    }

pub overflow_add-at : goal.overflow_add-at
overflow_add-at c =
    let g = c.args.given.now in
    let rest = rest_given (rows g.values.now) (λ v. read_at g.inputs.now v) g.env.now (expr_term c.args.left.now) c.args.set.now c.loop-range.range-index c.range-item.result (omega arith) c.range-item.is
    c.args.b.now c.loop-range.at c.range_count-at.result (c.range_count-at.ensures (expr_term c.args.left.now)) c.loop-range.invariant.parts in
    omega (arith, given_len (rows g.values.now) (λ v. read_at g.inputs.now v) g.env.now c.args.b.now _ _ rest, rows_len g.values.now)

pub returns-clause-value : goal.returns-clause-value
returns-clause-value c =
    let g = c.args.given.now in
    record {
      within = c.loop-range.invariant.within;
      value = λ v m. ranges_end (read_at g.inputs.now v) g.env.now (expr_term c.args.left.now) c.loop-range.range-index c.args.set.now _ (omega arith) (c.loop-range.invariant.told v m);
    }
