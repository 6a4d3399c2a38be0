use Rattle.std.proofs.Common.{◌++◌, ◌∷◌, [], length, sym, ◌∙◌, ap, arith}
use Rattle.std.proofs.lemmas.List.FromFn.{map-range_with_len_more}
use Rattle.svr_frame.specs.Frame.{FrameTerm, frame_term}
use Rattle.svr_frame.specs.Making.{is_free}
use Rattle.svr_frame_of.proofs.Chosen.{same_choice}
use Rattle.svr_frame_of.proofs.free.free_sizes.Goals as goal

pub is_free-requires-clause-count : goal.is_free-requires-clause-count
is_free-requires-clause-count c = c.requires ∙ sym (ap (λ (f : FrameTerm). length f.class.props) c.loop-prop.invariant.same)

pub loop-prop-preserved : goal.loop-prop-preserved
loop-prop-preserved c =
    let f = frame_term c.loop-prop.frame in
    let g = frame_term c.args.frame.now in
    let p = c.loop-prop.prop in
    let before = c.loop-prop.invariant in
    record {
      same = c.in_ok-is_free.ensures.same ∙ before.same;
      told = c.in_ok-push.ensures.ok ∙ (λ i. before.told i ++ (c.in_ok-is_free.ensures.free ∙ same_choice f g p before.same) i ∷ []) ∙ sym (map-range_with_len_more (is_free g) 0 p p (omega arith));
    }
