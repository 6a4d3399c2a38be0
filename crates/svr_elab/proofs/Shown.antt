-- The passes over a script that keep the first refusal give the first of all that the others give, and the same of everything else.
use Rattle.std.proofs.Common.{◌≡◌, List, ◌++◌, Option, refl, ap, subst, ◌∙◌}
use Rattle.svr_tree.specs.ScriptTree.{UnitTree, ScriptTree}
use Rattle.svr_elab_fault.specs.declared.Fault.{Fault}
use Rattle.svr_elab_fault.specs.Refusals.{all, first_one, least, FirstOf}
use Rattle.svr_elab_fault.proofs.Least.{least_append, least_first}
use Rattle.svr_elab_names.specs.Names.{Space}
use Rattle.svr_elab_type.specs.Types.{GlobalsElab}
use Rattle.svr_elab_class.specs.Classes.{label_faults}
use Rattle.svr_elab_decl_laws.specs.Gathered.{shown_globals}
use Rattle.svr_elab_decl_laws.proofs.Shown as decls
use Rattle.svr_elab_block.specs.Blocks.{BodiesElab, bodies, no_bodies}
use Rattle.svr_elab_block.specs.Gathered.{shown_bodies}
use Rattle.svr_elab_block.proofs.Shown as blocks
use Rattle.svr_elab_stmt.specs.Stmts.{StmtsElab}
use Rattle.svr_elab_list.specs.Gathered.{shown_stmts}
use Rattle.svr_elab_unit.specs.Vars.{VarsElab, stmt_space}
use Rattle.svr_elab_unit.specs.Run.{run}
use Rattle.svr_elab_unit.specs.Gathered.{shown_vars}
use Rattle.svr_elab_unit.proofs.Shown.{kept_vars, kept_stmts}
use Rattle.svr_elab.specs.Script as spec
use Rattle.svr_elab.specs.Script.{ScriptElab}
use Rattle.svr_elab.specs.Gathered.{shown_script, KeepsTheFirst, TellsTheFirst}

faults_shown : (h v b r label : List Fault) → least (spec.all_faults all h v b r label) ≡ spec.all_faults first_one (least h) (least v) (least b) (least r) (least label)
faults_shown h v b r label = simp least_append refl

whole_shown : (n : Space) (h : GlobalsElab (List Fault)) (v : VarsElab (List Fault)) (b : BodiesElab (List Fault)) (r : StmtsElab (List Fault)) (u : UnitTree)
    → shown_script (spec.whole all n h v b r u) ≡ spec.whole first_one n (shown_globals h) (shown_vars v) (shown_bodies b) (shown_stmts r) u
whole_shown n h v b r u =
    ap (λ (f : Option Fault). record (shown_script (spec.whole all n h v b r u)) { faults = f })
    (faults_shown h.faults v.faults b.faults r.faults (label_faults all n.text u.name u.label)
    ∙ ap (λ (f : Option Fault). spec.all_faults first_one (least h.faults) (least v.faults) (least b.faults) (least r.faults) f) (decls.label_shown n.text u.name u.label))

within_shown : (n : Space) (h : GlobalsElab (List Fault)) (v : VarsElab (List Fault)) (s : ScriptTree) → shown_script (spec.within all n h v s) ≡ spec.within first_one n (shown_globals h) (shown_vars v) s
within_shown n h v s =
    let r : StmtsElab (List Fault) = run all n v.stands s.unit in
    whole_shown n h v (bodies all n (no_bodies all) 0 s.classes) r s.unit
    ∙ ap (λ (b : BodiesElab (Option Fault)). spec.whole first_one n (shown_globals h) (shown_vars v) b (shown_stmts r) s.unit) (blocks.kept n 0 s.classes)
    ∙ ap (λ (r : StmtsElab (Option Fault)). spec.whole first_one n (shown_globals h) (shown_vars v) (bodies first_one n (no_bodies first_one) 0 s.classes) r s.unit) (kept_stmts n v.stands s.unit)

joined_shown : (h : GlobalsElab (List Fault)) (v : VarsElab (List Fault)) (s : ScriptTree) → shown_script (spec.joined all h v s) ≡ spec.joined first_one (shown_globals h) (shown_vars v) s
joined_shown h v s = within_shown (spec.with_calls (stmt_space h.names v.vars) s.unit) h v s

behind_shown : (h : GlobalsElab (List Fault)) (s : ScriptTree) → shown_script (spec.behind_heads all h s) ≡ spec.behind_heads first_one (shown_globals h) s
behind_shown h s =
    joined_shown h (spec.unit_vars all h.names s.unit) s ∙ ap (λ (v : VarsElab (Option Fault)). spec.joined first_one (shown_globals h) v s) (vars_shown h.names s.unit)
  where
    vars_shown : (n : Space) (u : UnitTree) → shown_vars (spec.unit_vars all n u) ≡ spec.unit_vars first_one n u
    vars_shown n u = kept_vars n (u.outer ++ u.inner)

pub kept : KeepsTheFirst
kept text s =
    behind_shown (spec.heads all text s) s
    ∙ ap (λ (h : GlobalsElab (Option Fault)). spec.behind_heads first_one h s) (decls.types_and_classes_shown (spec.no_globals all text) s.order s.types s.classes)

pub told : TellsTheFirst
told text s =
    let xs : List Fault = (spec.script all text s).faults in
    subst (FirstOf xs) (ap (λ (x : ScriptElab (Option Fault)). x.faults) (kept text s)) (least_first xs)
