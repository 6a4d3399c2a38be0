use Rattle.std.proofs.Common.{List, Bool, refl, sym, ap, ◌∙◌, subst}
use Rattle.svr_query.specs.Logged.{valuation_of}
use Rattle.svr_frame.specs.Frame.{frame_term, state_at}
use Rattle.svr_vector.specs.Places.{rows}
use Rattle.svr_encoded.specs.Slots.{reading_at}
use Rattle.svr_phase.specs.declared.proof.ProofReason.TheVariants as why
use Rattle.svr_phase.specs.Sizes.{sizes_read}
use Rattle.svr_soft.specs.declared.priority.PassEnd.{PassEnd}
use Rattle.svr_sized.specs.declared.found.Found.TheVariants as found
use Rattle.svr_sized.specs.Ends.{Becomes}
use Rattle.svr_sized.proofs.ask.concluded.Goals as goal

pub returns-in_ok-sizes-in-Done : goal.returns-in_ok-sizes-in-Done
returns-in_ok-sizes-in-Done c =
    let f = frame_term c.args.frame.now in
    let e = c.args.encoding in
    subst (λ (over : PassEnd). Becomes f e c.args.base.items over (found.Met c.in_ok-sizes-in-Done.sizes)) (sym c.in-Done.is) (
      c.in_ok-sizes-in-Done.sizes,
      refl,
      c.in_ok-sizes-in-Done.ensures ∙ ap (λ (vs : List Bool). sizes_read f (reading_at (state_at f f.state.sizes) e.slots.items (rows e.bits.items) (valuation_of vs))) c.as_slice.ensures.value,
    )

pub returns-in-BaseRefuted : goal.returns-in-BaseRefuted
returns-in-BaseRefuted c =
    let e = c.args.encoding in
    let log = c.in-BaseRefuted.refutation in
    subst (λ (over : PassEnd). Becomes (frame_term c.args.frame.now) e c.args.base.items over (found.Refuted (record { encoding = 0; assume = c.own.result; refutation = log; reason = why.Size }) e)) (sym c.in-BaseRefuted.is)
    (λ i. found.Refuted (record { encoding = 0; assume = c.own.ensures i; refutation = log; reason = why.Size }) e)

pub returns-in-Spent : goal.returns-in-Spent
returns-in-Spent c =
    let it = c.in-Spent in
    subst (λ (over : PassEnd). Becomes (frame_term c.args.frame.now) c.args.encoding c.args.base.items over (found.Spent c.args.encoding it.log it.first)) (sym it.is) refl
