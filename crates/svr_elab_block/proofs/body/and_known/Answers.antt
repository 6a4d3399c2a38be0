use Rattle.std.proofs.Common.{◌≡◌, Ok, ◌∷◌, ◌++◌, [], map, option_map, ap, ◌∙◌}
use Rattle.svr_typed.specs.ClassTerm.{block_term, block_terms}
use Rattle.svr_elab_block.specs.declared.part.BodiesPart.{BodiesPart}
use Rattle.svr_elab_block.specs.Chain.{all_orders, class_orders}
use Rattle.svr_elab_block.specs.Seen.{bodies_part}
use Rattle.svr_elab_block.proofs.Chain.{pushed, pushed_ranked}
use Rattle.svr_elab_block.proofs.Forms.{more_seen, known_is}
use Rattle.svr_elab_block.proofs.body.and_known.Goals as goal

pub returns-in-Ok-clause-value : goal.returns-in-Ok-clause-value
returns-in-Ok-clause-value c text =
    let x = c.in_ok-bodies in
    let held = x.ensures.held in
    let done : c.and_more-known.result ≡ Ok x._done = rw x.ensures.made at c.beside.ensures.made in
    known_is (bodies_part text c.args.bodies) (option_map (map block_term) c.args.blocks) (class_orders text (all_orders text c.args.bodies.orders) c.args.class) c.args.fault _ _
    (ap (λ (s : BodiesPart). option_map (map block_terms) s.blocks) held ∙ ap (option_map (map block_terms)) (rw done at c.and_more-known.ensures) ∙ more_seen block_terms c.args.bodies.blocks c.args.blocks)
    (pushed text c.args.bodies.orders c.push.new.self c.args.class x.class (c.in-Ok.ensures.ok ∙ ap (λ (s : BodiesPart). s.orders ++ x.class ∷ []) held) (rw x.ensures.made at c.beside.ensures.held))

pub returns-in-Ok-clause-ranks : goal.returns-in-Ok-clause-ranks
returns-in-Ok-clause-ranks c text ranked ranks =
    let x = c.in_ok-bodies in
    pushed_ranked text c.args.bodies.orders c.push.new.self c.args.class x.class (c.in-Ok.ensures.ok ∙ ap (λ (s : BodiesPart). s.orders ++ x.class ∷ []) x.ensures.held) (rw x.ensures.made at c.beside.ensures.held) ranked ranks
