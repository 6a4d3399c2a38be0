use Rattle.std.proofs.Common.{◌∙◌}
use Rattle.svr_num.specs.Num.{read_of}
use Rattle.svr_typed.specs.ExprTerm.{expr_term}
use Rattle.svr_eval.specs.Value.{size_of, sign_of}
use Rattle.svr_script.specs.Numbered.{alone_in, assigned}
use Rattle.svr_effect.specs.Objects.{placed_at}
use Rattle.svr_effect.proofs.Written.{written_is}
use Rattle.svr_effect.proofs.effects.set_element.Goals as goal

pub assigned-requires-clause-computed : goal.assigned-requires-clause-computed
assigned-requires-clause-computed c = c.requires.computed

pub place_read-requires : goal.place_read-requires
place_read-requires c = c.requires.index

pub returns-clause-effect : goal.returns-clause-effect
returns-clause-effect c =
    let w = c.args.world.now in
    let i = expr_term c.args.index.now in
    let e = expr_term c.args.value.now in
    c.write.ensures
    ∙ (λ k. placed_at w c.args.object c.args.prop (c.in_ok-place.ensures k) (c.in_ok-number.ensures k))
    ∙ written_is w c.args.object c.args.prop (read_of (sign_of i) (size_of i) (alone_in w i)) (assigned w c.args.width e)
