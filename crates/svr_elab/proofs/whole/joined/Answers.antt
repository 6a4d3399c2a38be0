use Rattle.std.proofs.Common.{◌≡◌, Ok, map, ap, refl, ◌∙◌}
use Rattle.svr_token.specs.Names.{names_of}
use Rattle.svr_tree.specs.ScriptTree.{script_tree}
use Rattle.svr_elab_names.specs.Tables.{global_of, class_of, var_of}
use Rattle.svr_elab_type.specs.Types.{declaring}
use Rattle.svr_elab_type.specs.Seen.{globals_part}
use Rattle.svr_elab_random.specs.Random.{classes_with}
use Rattle.svr_elab_block.specs.Seen.{bodies_part}
use Rattle.svr_elab_stmt.specs.Seen.{stmts_part}
use Rattle.svr_elab_unit.specs.Vars.{stmt_space}
use Rattle.svr_elab_unit.specs.Seen.{vars_part}
use Rattle.svr_elab.proofs.Counted.{marked_fit}
use Rattle.svr_elab.proofs.Joined.{members_whole, marked_many, marked_space, whole_is}
use Rattle.svr_elab.proofs.whole.joined.Goals as goal

pub walk_among-walked-requires-clause-members : goal.walk_among-walked-requires-clause-members
walk_among-walked-requires-clause-members c =
    let x = c.in_ok-enums in
    let globals : x.globals ≡ c.args.known.names = rw x.ensures.made at c.beside.ensures.held in
    rw globals (members_whole _ (names_of c.args.names) (map global_of c.args.known.names.entries) _ (map class_of c.args.known.classes) (map var_of c.args.vars.now.vars.entries) refl c.requires.members)

pub walk_among-walked-requires-clause-blocks : goal.walk_among-walked-requires-clause-blocks
walk_among-walked-requires-clause-blocks c =
    let x = c.in_ok-enums in
    let made : c.with_random-classes.result ≡ Ok x.classes = rw x.ensures.made at c.beside.ensures.made in
    let gs = map global_of c.args.known.names.entries in
    marked_fit c.args.listed.now.keys _ (declaring (names_of c.args.names) gs (map class_of c.args.known.classes)) (ap (map class_of) c.as_slice-list.ensures ∙ (rw made at c.with_random-classes.ensures)) c.requires.blocks

pub walk_among-walked-requires-clause-classes : goal.walk_among-walked-requires-clause-classes
walk_among-walked-requires-clause-classes c =
    let x = c.in_ok-enums in
    let made : c.with_random-classes.result ≡ Ok x.classes = rw x.ensures.made at c.beside.ensures.made in
    marked_many c.args.listed.now.keys c.args.known.classes _ _ (ap (map class_of) c.as_slice-list.ensures ∙ (rw made at c.with_random-classes.ensures)) c.requires.classes

pub returns : goal.returns
returns c =
    let x = c.in_ok-enums in
    let y = c.in_ok-classes in
    let z = c.in_ok-classes-2 in
    let globals : x.globals ≡ c.args.known.names = rw x.ensures.made at c.beside.ensures.held in
    let made : c.with_random-classes.result ≡ Ok x.classes = rw x.ensures.made at c.beside.ensures.made in
    let enums : y.enums ≡ c.args.known.enums = (rw y.ensures.made at c.beside-3.ensures.held) ∙ x.ensures.held in
    let walked : c.walk_among-walked.result ≡ Ok y.walked = rw y.ensures.made at c.beside-3.ensures.made in
    let text = names_of c.args.names in
    let gs = map global_of c.args.known.names.entries in
    let vs = map var_of c.args.vars.now.vars.entries in
    let cs = classes_with c.args.listed.now.keys (map class_of c.args.known.classes) in
    let list = map class_of c.as_slice-list.result.now in
    let marked = ap (map class_of) c.as_slice-list.ensures ∙ (rw made at c.with_random-classes.ensures) in
    let again = ap (map class_of) (c.as_slice.ensures ∙ y.ensures.held) ∙ (rw made at c.with_random-classes.ensures) in
    let space : stmt_space (declaring text (map global_of x.globals.entries) list) vs ≡ stmt_space (declaring text gs cs) vs = rw globals (marked_space _ text gs list cs vs refl marked) in
    whole_is (stmt_space (declaring text (map global_of x.globals.entries) list) vs) (stmt_space (declaring text gs cs) vs) (globals_part text c.args.known) (vars_part c.args.vars.now) (script_tree c.args.script.now)
    _ (bodies_part text y.walked.bodies) (stmts_part _ y.walked.stmts) _ _ (map class_of c.as_slice.result.now) _
    space refl (rw walked at c.walk_among-walked.ensures.bodies) (rw walked at c.walk_among-walked.ensures.stmts)
    c.label_fault-label.ensures c.all_faults-fault.ensures again (rw enums at (rw z.ensures.made at c.design_of-design.ensures))
