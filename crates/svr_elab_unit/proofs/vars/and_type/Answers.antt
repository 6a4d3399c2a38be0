use Rattle.std.proofs.Common.{refl}
use Rattle.svr_elab_decl.specs.Seen.{used_part}
use Rattle.svr_elab_unit.specs.Seen.{vars_part}
use Rattle.svr_elab_unit.proofs.Forms.{type_is}
use Rattle.svr_elab_unit.proofs.vars.and_type.Goals as goal

pub returns-clause-value : goal.returns-clause-value
returns-clause-value c =
    let x = c.in_ok-vars in
    rw x.ensures.held (type_is (vars_part c.args.part) (used_part c.args.used) _ _ _ c.stand_of-stand.ensures c.earlier-fault.ensures (rw x.ensures.made at c.pushed-stands.ensures))

pub returns-clause-vars : goal.returns-clause-vars
returns-clause-vars c = rw c.in_ok-vars.ensures.held refl
