use Rattle.std.proofs.Common.{◌≡◌, ◌<◌, ◌++◌, ◌∷◌, ℕ, List, [], true, false, sym, ◌∙◌, ap, arith}
use Rattle.svr_typed.specs.ExprTerm.{expr_term}
use Rattle.svr_eval.specs.Reading.{reading_of}
use Rattle.svr_frame.specs.Reads.{turns}
use Rattle.svr_reads.specs.Placed.{placed}
use Rattle.svr_reads.proofs.Appended.{none_more, some_turn, no_turn}
use Rattle.svr_reads.proofs.place.+placed.Goals as goal

pub placed_in_turns-loop-turn-preserved : goal.placed_in_turns-loop-turn-preserved
placed_in_turns-loop-turn-preserved t c =
    let x = c.args.set.now in
    let within = λ (env : List ℕ). placed x.props.now (reading_of x.state.now) x.prop x.at env (expr_term c.args.body.now) in
    let here : within (c.args.env.now ++ c.loop-turn.turn ∷ []) ≡ false = ap within (sym c.inner.ensures) ∙ sym c.placed.ensures ∙ c.if-placed.false in
    none_more (λ (k : ℕ). within (c.args.env.now ++ k ∷ [])) c.loop-turn.turn c.loop-turn.invariant here

pub placed_in_turns-returns-then-placed : goal.placed_in_turns-returns-then-placed
placed_in_turns-returns-then-placed t c =
    let x = c.args.set.now in
    let most = turns ((reading_of x.state.now).size c.args.array) in
    let within = λ (env : List ℕ). placed x.props.now (reading_of x.state.now) x.prop x.at env (expr_term c.args.body.now) in
    let here : within (c.args.env.now ++ c.loop-turn.turn ∷ []) ≡ true = ap within (sym c.inner.ensures) ∙ sym c.placed.ensures ∙ c.if-placed.true in
    let below : c.loop-turn.turn < most = omega (arith, c.loop-turn-test.true, c.turn_count-turn-end.ensures) in
    sym (some_turn (λ (k : ℕ). within (c.args.env.now ++ k ∷ [])) most c.loop-turn.turn below here)

pub placed_in_turns-returns : goal.placed_in_turns-returns
placed_in_turns-returns t c =
    let x = c.args.set.now in
    let most = turns ((reading_of x.state.now).size c.args.array) in
    let end : c.loop-turn.turn ≡ most = omega (arith, c.loop-turn-test.false, c.turn_count-turn-end.ensures) in
    no_turn (λ (k : ℕ). placed x.props.now (reading_of x.state.now) x.prop x.at (c.args.env.now ++ k ∷ []) (expr_term c.args.body.now)) c.loop-turn.turn most c.loop-turn.invariant end
