use Rattle.std.proofs.Common.{◌≤◌, ◌+◌, length, sym, ◌∙◌, arith}
use Rattle.std.proofs.lemmas.List.{length-map}
use Rattle.svr_tree.specs.DeclTree.{var_declarator_tree}
use Rattle.svr_elab_names.specs.Tables.{space_of, var_of}
use Rattle.svr_elab_unit.specs.Seen.{valued_part}
use Rattle.svr_elab_unit.proofs.Forms.{valued_is}
use Rattle.svr_elab_unit.proofs.values.valued.Goals as goal

pub value_behind-stmts-requires-clause-vars : goal.value_behind-stmts-requires-clause-vars
value_behind-stmts-requires-clause-vars c =
    let x = c.in_ok-stmts in
    let few : length x.vars.entries ≤ length c.args.part.vars.entries + 1 = rw x.ensures.made at c.and_var_name-vars.ensures.length in
    omega (arith, few, c.requires.vars)

pub value_behind-stmts-requires-clause-count : goal.value_behind-stmts-requires-clause-count
value_behind-stmts-requires-clause-count c = rw c.in_ok-stmts.ensures.held c.requires.count

pub returns-clause-value : goal.returns-clause-value
returns-clause-value c =
    let x = c.in_ok-stmts in
    let y = c.in_ok-vars in
    let vars = rw (sym y.ensures.held) at (rw x.ensures.made at c.and_var_name-vars.ensures.value) in
    let stmts = rw (sym y.ensures.held, x.ensures.held) at (rw y.ensures.made at c.value_behind-stmts.ensures.value) in
    valued_is (space_of c.args.names.now) (valued_part c.args.made.now.keys c.args.part) c.args.stand (var_declarator_tree c.args.declarator.now) _ _ _ _
    c.name-spelled.ensures (c.len-number.ensures.len ∙ sym (length-map c.args.part.vars.entries var_of)) vars stmts

pub returns-clause-most : goal.returns-clause-most
returns-clause-most c = rw c.in_ok-vars.ensures.made at c.value_behind-stmts.ensures.most

pub returns-clause-length : goal.returns-clause-length
returns-clause-length c = rw (sym c.in_ok-vars.ensures.held) at (rw c.in_ok-stmts.ensures.made at c.and_var_name-vars.ensures.length)
