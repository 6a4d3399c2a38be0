use Rattle.std.proofs.Common.{subst, sym}
use Rattle.svr_token.specs.Names.{names_of}
use Rattle.svr_tree.specs.DeclTree.{class_tree}
use Rattle.svr_elab_names.specs.Tables.{space_of}
use Rattle.svr_elab_block.specs.declared.part.BodiesPart.{BodiesPart}
use Rattle.svr_elab_block.specs.Chain.{AreRanked}
use Rattle.svr_elab_block.specs.Seen.{body_part, bodies_part}
use Rattle.svr_elab_block.proofs.Forms.{told, class_is}
use Rattle.svr_elab_block.proofs.body.and_class.Goals as goal

pub and_body-requires : goal.and_body-requires
and_body-requires c =
    let P : BodiesPart → Type 0 = λ s. AreRanked (names_of c.args.names.now.names) s.orders in
    subst P (sym c.in_ok-bodies.ensures.held) c.requires.ranks

pub returns-clause-value : goal.returns-clause-value
returns-clause-value c =
    let text = names_of c.args.names.now.names in
    let x = c.in_ok-bodies in
    told c.and_body.result c.and_body.ensures.value
    (λ s is.
    class_is (space_of c.args.names.now) (space_of c.in_class-inside.result) c.args.number (class_tree c.args.class.now) (bodies_part text c.args.bodies) (bodies_part text s)
    (body_part x.part) c.base_of.result (rw x.ensures.held at is) c.base_of.ensures (rw x.ensures.made at c.body.ensures) c.in_class-inside.ensures.space)
