use Rattle.std.proofs.Common.{◌≡◌, ℕ, ◌+◌, ◌<◌, List, ◌∷◌, map, length, get_or, drop, Option, Result, Ok, Err, ap}
use Rattle.std.specs.Prelude.{IfOk}
use Rattle.svr_tree.specs.DeclTree.{VarDeclaratorTree, VarTree, var_tree, var_declarator_tree}
use Rattle.svr_elab_fault.specs.declared.Fault.{Fault}
use Rattle.svr_elab_fault.specs.Refusals.{first_one}
use Rattle.svr_elab_names.specs.declared.VarStand.{VarStand}
use Rattle.svr_elab_names.specs.Names.{Space}
use Rattle.svr_elab_names.specs.Tables.{space_of}
use Rattle.svr_elab_unit.specs.Vars as spec
use Rattle.svr_elab_unit.specs.Vars.{ValuedElab}
use Rattle.svr_elab_unit.specs.Seen.{valued_part}
use Rattle.svr_elab_unit.proofs.Forms.{no_stand, stand_turn}
use Rattle.svr_elab_unit.proofs.values.decl_valued.Goals as goal

abbrev Valued : Type 0
Valued = ValuedElab (Option Fault)

stand_turned : {A E : Type 0} (f : A → Valued) (r : Result A E) (n : Space) (s : Valued) (ks : List VarStand) (i : ℕ) (k : VarStand) (v : VarTree) (ds : List VarDeclaratorTree)
    → i < length ks → k ≡ get_or ks i k → IfOk r (λ p. f p ≡ spec.all_valued first_one n s k ds) → ds ≡ v.vars
    → IfOk r (λ p. (vs : List VarTree) → spec.decls_valued first_one n (f p) (drop (i + 1) ks) vs ≡ spec.decls_valued first_one n s (drop i ks) (v ∷ vs))
stand_turned f (Ok p) n s ks i k v ds h e is_r is_ds = λ vs. stand_turn n s (f p) ks i k v ds vs h e is_r is_ds
stand_turned f (Err x) n s ks i k v ds h e is_r is_ds = tt

pub returns-in-None-clause-value : goal.returns-in-None-clause-value
returns-in-None-clause-value c =
    λ vs. no_stand (space_of c.args.names.now) (valued_part c.args.made.now.keys c.args.part) c.args.stands.now c.args.place (var_tree c.args.decl.now) vs c.in-None.ensures.lookup.3

pub returns-in-Some-clause-value : goal.returns-in-Some-clause-value
returns-in-Some-clause-value c =
    stand_turned (valued_part c.all_valued.new.made.keys) c.all_valued.result (space_of c.args.names.now) (valued_part c.args.made.now.keys c.args.part) c.args.stands.now c.args.place c.in-Some.stand.now (var_tree c.args.decl.now) _
    c.in-Some.ensures.lookup.3.0 c.in-Some.ensures.lookup.1 c.all_valued.ensures.value (ap (map var_declarator_tree) c.as_slice.ensures)

pub returns-in-Some-clause-length : goal.returns-in-Some-clause-length
returns-in-Some-clause-length c = rw c.as_slice.ensures at c.all_valued.ensures.length
