use Rattle.std.proofs.Common.{◌≡◌, ◌≤◌, ◌+◌, drop, map, length}
use Rattle.svr_token.specs.Names.{names_of}
use Rattle.svr_tree.specs.DeclTree.{var_declarator_tree}
use Rattle.svr_elab_fault.specs.Refusals.{first_one}
use Rattle.svr_elab_unit.specs.Vars as spec
use Rattle.svr_elab_unit.specs.Seen.{vars_part}
use Rattle.svr_elab_unit.proofs.vars.and_vars.Given as goal

abbrev pub invariant-loop-declarator : goal.invariant-loop-declarator
invariant-loop-declarator l = record {
  same : spec.and_vars first_one (names_of l.names) (vars_part l.known) l.stand (map var_declarator_tree (drop l.declarator-index l.list))
      ≡ spec.and_vars first_one (names_of l.names) (vars_part l.fn.part) l.stand (map var_declarator_tree l.list);
  few : length l.known.vars.entries ≤ length l.fn.part.vars.entries + l.declarator-index;
}
