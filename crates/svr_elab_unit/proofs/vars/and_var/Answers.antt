use Rattle.svr_elab_unit.specs.Seen.{vars_part}
use Rattle.svr_elab_unit.proofs.Forms.{var_is}
use Rattle.svr_elab_unit.proofs.vars.and_var.Goals as goal

pub returns-clause-value : goal.returns-clause-value
returns-clause-value c =
    let x = c.in_ok-stands in
    rw x.ensures.held
    (var_is (vars_part c.args.part) c.args.name c.args.spelled.now c.args.stand _ _ _ _ _ _ _
    c.is_object-object.ensures c.of_sort-before.ensures c.var_fault-refused.ensures c.one_more-objects.ensures c.one_more-others.ensures c.earlier-fault.ensures (rw x.ensures.made at c.and_var_name-vars.ensures.value))

pub returns-clause-length : goal.returns-clause-length
returns-clause-length c = rw c.in_ok-stands.ensures.made at c.and_var_name-vars.ensures.length
