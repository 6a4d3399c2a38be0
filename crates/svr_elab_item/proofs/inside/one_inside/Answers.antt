use Rattle.std.proofs.Common.{◌∙◌, List, ap, map}
use Rattle.svr_elab_names.specs.declared.LoopName.{LoopName}
use Rattle.svr_elab_names.specs.Names.{with_loops}
use Rattle.svr_elab_names.specs.Tables.{space_of, loop_of}
use Rattle.svr_elab_item.proofs.Loops.{one_more}
use Rattle.svr_elab_item.proofs.inside.one_inside.Goals as goal

pub returns-clause-space : goal.returns-clause-space
returns-clause-space c =
    one_more (space_of c.args.names.now) (space_of c.with_loops.result) (map loop_of c.args.loops) (map loop_of c.in_ok-inner.field-0) c.args.name
    (c.with_loops.ensures.space ∙ ap (λ (ls : List LoopName). with_loops (space_of c.args.names.now) (map loop_of ls)) c.as_slice.ensures) c.in_ok-inner.ensures.space
