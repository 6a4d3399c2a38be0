use Rattle.svr_elab_names.specs.Tables.{space_of}
use Rattle.svr_elab_decl.specs.Seen.{used_of}
use Rattle.svr_elab_decl.proofs.Named.{named_fits}
use Rattle.svr_elab_decl.proofs.Forms.{named_is}
use Rattle.svr_elab_decl.proofs.used.named_type.Goals as goal

pub returns-clause-value : goal.returns-clause-value
returns-clause-value c =
    named_is (space_of c.args.names.now) c.args.name c.global_at.result (used_of c.used_global-used.result) _ _ c.global_at.ensures c.used_global-used.ensures c.is_unnamed.ensures c.when.ensures

pub returns-clause-fits : goal.returns-clause-fits
returns-clause-fits c =
    named_fits (space_of c.args.names.now) c.args.name c.global_at.result (used_of c.used_global-used.result) c.global_at.ensures c.used_global-used.ensures c.requires
