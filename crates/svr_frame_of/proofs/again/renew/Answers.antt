use Rattle.std.proofs.Common.{◌≤◌, sym, ◌∙◌, ap, subst, length}
use Rattle.std.proofs.lemmas.Result.{on_ok_weaker}
use Rattle.svr_limits.specs.declared.limit.TheConstants.{PROPERTY_LIMIT}
use Rattle.svr_eval.specs.declared.assign.Assign.{Assign}
use Rattle.svr_frame.specs.Frame.{FrameTerm, frame_term}
use Rattle.svr_frame_of.specs.Choosing.{in_state, as_chosen}
use Rattle.svr_frame_of.proofs.Chosen.{kept_choice}
use Rattle.svr_frame_of.proofs.again.renew.Goals as goal

pub choose_sizes-requires : goal.choose_sizes-requires
choose_sizes-requires c = subst (λ (f : FrameTerm). length f.class.props ≤ PROPERTY_LIMIT) (sym c.put_state.ensures) c.requires.few

pub returns-then-same : goal.returns-then-same
returns-then-same c =
    let f = frame_term c.args.frame.now in
    kept_choice f (frame_term c.put_state.new.frame) c.in_ok-state.state c.requires.chosen (sym c.has_same_sizes-same.ensures ∙ c.if-same.true) c.put_state.ensures
    ∙ ap (λ (s : Assign). as_chosen (in_state f s)) c.in_ok-state.ensures

pub returns : goal.returns
returns c =
    let f = frame_term c.args.frame.now in
    on_ok_weaker c.choose_sizes.result (λ h. h ∙ ap as_chosen c.put_state.ensures ∙ ap (λ (s : Assign). as_chosen (in_state f s)) c.in_ok-state.ensures) c.choose_sizes.ensures
