-- A script in which nothing is refused has a design.
use Rattle.std.proofs.Common.{◌≡◌, ℕ, ◌+◌, Bool, true, false, if◌then◌else◌, List, [], ◌∷◌, ◌++◌, length, Option, None, Some, is_some, refl, sym, ap, subst, ◌∙◌, true≢false}
use Rattle.std.specs.List.{list_any}
use Rattle.svr_typed.specs.declared.EnumType.{EnumType}
use Rattle.svr_typed.specs.StmtTerm.{DesignTerm}
use Rattle.svr_tree.specs.DeclTree as decl
use Rattle.svr_tree.specs.DeclTree.{VarTree, VarDeclaratorTree, VarInitTree, ClassTree, ClassItemTree, BlockTree}
use Rattle.svr_tree.specs.StmtTree.{StmtTree}
use Rattle.svr_elab_fault.specs.declared.Fault.{Fault}
use Rattle.svr_elab_fault.specs.Refusals.{first_one}
use Rattle.svr_elab_names.specs.declared.Region.TheVariants as region
use Rattle.svr_elab_names.specs.declared.VarStand.{VarStand}
use Rattle.svr_elab_names.specs.declared.VarStand.TheVariants as stand
use Rattle.svr_elab_names.specs.Names.{Space, VarName, is_same, is_name, is_statement}
use Rattle.svr_elab_part.specs.Fits.{Each}
use Rattle.svr_elab_part.specs.Elab.{Elab, elab}
use Rattle.svr_elab_part.proofs.Valued.{none_left, none_right}
use Rattle.svr_elab_target.specs.declared.target.Target.TheVariants as target
use Rattle.svr_elab_target.specs.Named.{with_made}
use Rattle.svr_elab_item.specs.Items.{ItemsElab, items, no_items, outside}
use Rattle.svr_elab_block.specs.Blocks as blocks
use Rattle.svr_elab_block.specs.Blocks.{BodyElab, BodiesElab, in_class}
use Rattle.svr_elab_stmt.specs.Stmts as stmts
use Rattle.svr_elab_stmt.specs.Stmts.{StmtElab, StmtsElab}
use Rattle.svr_elab_unit.specs.Vars as spec
use Rattle.svr_elab_unit.specs.Vars.{ValuedElab, stmt_space}
use Rattle.svr_elab_unit.specs.Run as run
use Rattle.svr_elab.specs.Script as script
use Rattle.svr_elab.specs.Script.{faults_of, design_in}
use Rattle.svr_elab_expr_laws.specs.Known.{IsKnown, NamesKnown}
use Rattle.svr_elab_expr_laws.proofs.HasTree.{accepted_has_tree}
use Rattle.svr_elab_lawful_laws.specs.Declared.{StandIs, VarsStand}
use Rattle.svr_elab_lawful_laws.specs.There.{ItemsAreThere, AcceptedHasDesign}
use Rattle.svr_elab_lawful_laws.proofs.Constants.{mapped, all, more}
use Rattle.svr_elab_lawful_laws.proofs.Enums.{one_of, each_last}
use Rattle.svr_elab_lawful_laws.proofs.Flats.{ClassTerms, class_terms_of}
use Rattle.svr_elab_lawful_laws.proofs.Vars.{VarTerms, var_terms}
use Rattle.svr_elab_lawful_laws.proofs.Whole.{the_heads, the_vars, the_space, the_bodies, the_stmts, the_classes, the_variables, IsClear, script_clear, design_is}
use Rattle.svr_elab_lawful_laws.proofs.Declarations.{the_vars_are, all_blocks_counted}
use Rattle.svr_elab_lawful_laws.proofs.Trees.{Left, class_known, made_known, given_there, made_there, stmt_there}
use Rattle.svr_elab_lawful_laws.proofs.Space.{PlaceIs, place_known, the_space_is, with_vars}

-- ---- the values of variables

left_side_is : (name number : ℕ) (k : VarStand) → Left (spec.left_side first_one name number k)
left_side_is name number (stand.OfNumber kind) = record { rooted = λ h f. true≢false (sym h); there = λ o p t f. absurd (let e : target.Variable number ≡ target.Place o p = t in cc) }
left_side_is name number (stand.OfObject c) = record { rooted = λ h f. true≢false (sym h); there = λ o p t f. absurd (let e : target.Object number ≡ target.Place o p = t in cc) }

init_there : (n : Space) (x : Elab (Option Fault)) (i : VarInitTree) → Left x → NamesKnown n → (spec.initialized first_one n x i).faults ≡ None → IsKnown (spec.initialized first_one n x i).tree
init_there n x (decl.value e) l known f = given_there x (elab first_one n e) l (accepted_has_tree n e known) f
init_there n x (decl.new parens) l known f = made_there x l f

abbrev ThereSoFar : StmtsElab (Option Fault) → Type 0
ThereSoFar t = t.faults ≡ None → IsKnown t.trees

value_there : (n : Space) (t : StmtsElab (Option Fault)) (name number : ℕ) (k : VarStand) (i : Option VarInitTree) → NamesKnown n → ThereSoFar t → ThereSoFar (spec.and_value first_one n t name number k i)
value_there n t name number k None known h = h
value_there n t name number k (Some i) known h =
    let m : Space = with_made n t.made in
    let x : Elab (Option Fault) = spec.left_side first_one name number k in
    let one : StmtElab (Option Fault) = spec.initialized first_one m x i in
    λ f. more t.trees one.tree (h (none_left t.faults one.faults f)) (init_there m x i (left_side_is name number k) (made_known n t.made known) (none_right t.faults one.faults f))

module _ (es : List EnumType) (cs : ℕ) (n : Space) (is : PlaceIs es cs n) where
  grown : (vs : List VarName) (q : List ℕ) (k : VarStand) → VarsStand es cs vs → StandIs es cs k → VarsStand es cs (spec.and_var_name vs q k)
  grown vs q k h i =
      let x : VarName = record { name = q; stands = k } in
      one_of (VarsStand es cs) (is_name (λ (v : VarName). v.name) q vs) vs (vs ++ x ∷ []) h (each_last (λ (v : VarName). StandIs es cs v.stands) vs x h i)

  all_values : (s : ValuedElab (Option Fault)) (k : VarStand) (ds : List VarDeclaratorTree) → StandIs es cs k → VarsStand es cs s.vars → ThereSoFar s.stmts
      → VarsStand es cs (spec.all_valued first_one n s k ds).vars × ThereSoFar (spec.all_valued first_one n s k ds).stmts
  all_values s k [] i v h = (v, h)
  all_values s k (d ∷ ds) i v h =
      let vs : List VarName = spec.and_var_name s.vars (n.text d.name) k in
      let more_vars : VarsStand es cs vs = grown s.vars (n.text d.name) k v i in
      all_values (spec.valued first_one n s k d) k ds i more_vars
      (value_there (stmt_space n vs) s.stmts d.name (length s.vars) k d.init (place_known es cs (stmt_space n vs) (with_vars es cs n vs is more_vars)) h)

  decls_there : (s : ValuedElab (Option Fault)) (ks : List VarStand) (vs : List VarTree) → Each (StandIs es cs) ks → VarsStand es cs s.vars → ThereSoFar s.stmts → ThereSoFar (spec.decls_valued first_one n s ks vs).stmts
  decls_there s [] vs i v h = h
  decls_there s (k ∷ ks) [] i v h = h
  decls_there s (k ∷ ks) (t ∷ vs) i v h =
      let one = all_values s k t.vars i.0 v h in
      decls_there (spec.all_valued first_one n s k t.vars) ks vs i.1 one.0 one.1

-- ---- the initial block

tops_there : ItemsAreThere → (n : Space) (t : StmtsElab (Option Fault)) (ss : List StmtTree) → NamesKnown n → n.loops ≡ [] → ThereSoFar t → ThereSoFar (run.tops first_one n t ss)
tops_there items_there n t [] known outer h = h
tops_there items_there n t (s ∷ ss) known outer h =
    let m : Space = with_made n t.made in
    let one : StmtElab (Option Fault) = stmts.stmt first_one m s in
    let limited : StmtElab (Option Fault) = run.with_limit first_one (run.stmt_start s) t.count one in
    tops_there items_there n (run.and_top first_one t (run.stmt_start s) one) ss known outer
    (λ f. more t.trees one.tree (h (none_left t.faults limited.faults f)) (stmt_there items_there m s (made_known n t.made known) outer (none_left one.faults _ (none_right t.faults limited.faults f))))

-- ---- blocks

module _ (items_there : ItemsAreThere) (n : Space) (known : NamesKnown n) (outer : n.loops ≡ []) where
  abbrev BlocksSoFar : BodyElab (Option Fault) → Type 0
  BlocksSoFar b = b.faults ≡ None → IsKnown b.blocks

  block_there : (k : BlockTree) (b : BodyElab (Option Fault)) → n.region ≡ region.Block → BlocksSoFar b → BlocksSoFar (blocks.and_block first_one n b k (items first_one n outside (no_items first_one) k.items))
  block_there k b r h = either (list_any (is_same (n.text k.name)) b.own)
    where
      e : ItemsElab (Option Fault)
      e = items first_one n outside (no_items first_one) k.items

      block : e.faults ≡ None → IsKnown e.trees
      block f = items_there n k.items known (ap is_statement r) outer f

      either : (t : Bool) → BlocksSoFar (if t then blocks.with_faults first_one b e.faults else blocks.with_block first_one b (n.text k.name) (blocks.orders n k.name b.orders k.items) e)
      either true = λ f. h (none_left b.faults e.faults f)
      either false = λ f. more b.blocks (blocks.block_term (n.text k.name) e.trees) (h (none_left b.faults e.faults f)) (mapped _ e.trees (block (none_right b.faults e.faults f)))

  body_items_there : (is : List ClassItemTree) (b : BodyElab (Option Fault)) → n.region ≡ region.Block → BlocksSoFar b → BlocksSoFar (blocks.body_items first_one n b is)
  body_items_there [] b r h = h
  body_items_there (decl.property p ∷ is) b r h = body_items_there is (blocks.body_item first_one n b (decl.property p)) r h
  body_items_there (decl.block k ∷ is) b r h = body_items_there is (blocks.body_item first_one n b (decl.block k)) r (block_there k b r h)

in_class_known : (n : Space) (k : ℕ) → NamesKnown n → NamesKnown (in_class n region.Block k)
in_class_known n k h = record { globals = h.globals; props = class_known n.classes k h.classes; classes = h.classes; later = h.later; loops = h.loops; vars = h.vars }

bodies_there : ItemsAreThere → (n : Space) (s : BodiesElab (Option Fault)) (k : ℕ) (cs : List ClassTree) → NamesKnown n → n.loops ≡ [] → (s.faults ≡ None → IsKnown s.blocks) → (blocks.bodies first_one n s k cs).faults ≡ None → IsKnown (blocks.bodies first_one n s k cs).blocks
bodies_there items_there n s k [] known outer h f = h f
bodies_there items_there n s k (c ∷ cs) known outer h f =
    let b : BodyElab (Option Fault) = blocks.body first_one n k c in
    bodies_there items_there n (blocks.with_class first_one n s k b) (k + 1) cs known outer
    (λ g. more s.blocks b.blocks (h (none_left s.faults _ g)) (body_items_there items_there (in_class n region.Block k) (in_class_known n k known) outer c.items (blocks.no_body first_one) refl (λ e. refl) (none_left b.faults _ (none_right s.faults _ g)))) f

-- ---- the whole

known_some : {A : Type 0} (x : Option A) (y : A) → x ≡ Some y → IsKnown x
known_some x y e = ap is_some e

some_of : {A : Type 0} (x : Option A) → IsKnown x → (y : A) × (x ≡ Some y)
some_of None h = absurd (true≢false (sym h))
some_of (Some x) h = (x, refl)

pub accepted_has_design : AcceptedHasDesign
accepted_has_design items_there text s is f =
    let clear : IsClear text s = script_clear text s f in
    let es : List EnumType = (the_heads text s).enums in
    let cs : ℕ = length (the_heads text s).names.classes in
    let place : PlaceIs es cs (the_space text s) = the_space_is text s is clear in
    let known : NamesKnown (the_space text s) = place_known es cs (the_space text s) place in
    let v = the_vars_are text s is clear in
    let vars : VarTerms es cs (the_vars text s).vars [] = var_terms es cs (the_vars text s).vars [] v.vars in
    let there : IsKnown (the_bodies text s).blocks = bodies_there items_there (the_space text s) (blocks.no_bodies first_one) 0 s.classes known place.loops (λ g. refl) clear.bodies in
    let bs = some_of (the_bodies text s).blocks there in
    let classes : ClassTerms es (the_space text s).classes bs.0 [] = class_terms_of es (the_space text s).classes 0 (the_space text s).classes bs.0 [] place.classes (all_blocks_counted text s is bs.0 bs.1) in
    let all_classes : the_classes text s ≡ Some classes.terms = ap (script.all_classes (the_space text s).classes) bs.1 ∙ classes.known in
    let values : ThereSoFar (spec.decls_valued first_one (the_space text s) (spec.no_values first_one []) (the_vars text s).stands (s.unit.outer ++ s.unit.inner)).stmts =
    decls_there es cs (the_space text s) place (spec.no_values first_one []) (the_vars text s).stands (s.unit.outer ++ s.unit.inner) v.stands tt (λ g. refl) in
    let trees : IsKnown (the_stmts text s).trees = tops_there items_there (the_space text s) _ s.unit.stmts known place.loops values clear.stmts in
    subst (λ (d : Option DesignTerm). IsKnown d) (sym (design_is text s))
    (all (script.design es) (the_classes text s) (the_variables text s) (the_stmts text s).trees (known_some (the_classes text s) classes.terms all_classes) (known_some (the_variables text s) vars.terms vars.known) trees)
