-- What a script in which nothing is refused is put together of.
use Rattle.std.proofs.Common.{◌≡◌, ℕ, List, [], Option, None, Some, refl, sym, ap, subst, ◌∙◌}
use Rattle.std.specs.Prelude.{⊤, MatchOption}
use Rattle.svr_typed.specs.declared.EnumType.{EnumType}
use Rattle.svr_typed.specs.declared.TVar.{TVar}
use Rattle.svr_typed.specs.ClassTerm.{ClassTerm}
use Rattle.svr_typed.specs.StmtTerm.{StmtTerm, DesignTerm}
use Rattle.svr_tree.specs.ScriptTree.{ScriptTree}
use Rattle.svr_tree.specs.ScriptGrammar.{IsLevelled}
use Rattle.svr_design.specs.Types.{IsEnum}
use Rattle.svr_design.specs.Lawful.{Every}
use Rattle.svr_elab_fault.specs.declared.Fault.{Fault}
use Rattle.svr_elab_fault.specs.Refusals.{first_one, least, earlier}
use Rattle.svr_elab_names.specs.Names.{Space}
use Rattle.svr_elab_part.proofs.Valued.{none_left, none_right}
use Rattle.svr_elab_type.specs.Types.{GlobalsElab}
use Rattle.svr_elab_class.specs.Classes.{label_faults}
use Rattle.svr_elab_block.specs.Blocks.{BodiesElab, bodies, no_bodies}
use Rattle.svr_elab_stmt.specs.Stmts.{StmtsElab}
use Rattle.svr_elab_unit.specs.Vars.{VarsElab, stmt_space}
use Rattle.svr_elab_unit.specs.Run.{run}
use Rattle.svr_elab.specs.Script as spec
use Rattle.svr_elab.specs.Script.{ScriptElab, faults_of, design_in}
use Rattle.svr_elab.proofs.Shown.{kept}
use Rattle.svr_elab_lawful_laws.specs.Lawful.{EnumsAreLawful}
use Rattle.svr_elab_lawful_laws.proofs.Types.{HeadsAre}
use Rattle.svr_elab_lawful_laws.proofs.Classes.{heads_are, no_heads}

-- ---- the parts of a script, with the first refusal

module _ (text : ℕ → List ℕ) (s : ScriptTree) where
  abbrev pub the_heads : GlobalsElab (Option Fault)
  the_heads = spec.heads first_one text s

  abbrev pub the_vars : VarsElab (Option Fault)
  the_vars = spec.unit_vars first_one the_heads.names s.unit

  -- every name
  abbrev pub the_space : Space
  the_space = spec.with_calls (stmt_space the_heads.names the_vars.vars) s.unit

  abbrev pub the_bodies : BodiesElab (Option Fault)
  the_bodies = bodies first_one the_space (no_bodies first_one) 0 s.classes

  abbrev pub the_stmts : StmtsElab (Option Fault)
  the_stmts = run first_one the_space the_vars.stands s.unit

  -- nothing is refused in any of them
  pub record IsClear : Type 0 where
    pub heads : the_heads.faults ≡ None
    pub vars : the_vars.faults ≡ None
    pub bodies : the_bodies.faults ≡ None
    pub stmts : the_stmts.faults ≡ None

  pub script_clear : faults_of text s ≡ [] → IsClear
  script_clear f =
      let e : (spec.script first_one text s).faults ≡ None = sym (ap (λ (x : ScriptElab (Option Fault)). x.faults) (kept text s)) ∙ ap least f in
      let label : Option Fault = label_faults first_one the_space.text s.unit.name s.unit.label in
      let e1 : earlier the_vars.faults (earlier the_bodies.faults (earlier the_stmts.faults label)) ≡ None = none_right the_heads.faults (earlier the_vars.faults (earlier the_bodies.faults (earlier the_stmts.faults label))) e in
      let e2 : earlier the_bodies.faults (earlier the_stmts.faults label) ≡ None = none_right the_vars.faults (earlier the_bodies.faults (earlier the_stmts.faults label)) e1 in
      let e3 : earlier the_stmts.faults label ≡ None = none_right the_bodies.faults (earlier the_stmts.faults label) e2 in
      record {
        heads = none_left the_heads.faults (earlier the_vars.faults (earlier the_bodies.faults (earlier the_stmts.faults label))) e;
        vars = none_left the_vars.faults (earlier the_bodies.faults (earlier the_stmts.faults label)) e1;
        bodies = none_left the_bodies.faults (earlier the_stmts.faults label) e2;
        stmts = none_left the_stmts.faults label e3;
      }

  -- ---- the design

  abbrev pub the_classes : Option (List ClassTerm)
  the_classes = spec.all_classes the_space.classes the_bodies.blocks

  abbrev pub the_variables : Option (List TVar)
  the_variables = spec.variables the_vars.vars

  pub design_is : design_in text s ≡ spec.design_of the_heads.enums the_classes the_variables the_stmts.trees
  design_is = ap (λ (x : ScriptElab (Option Fault)). x.design) (kept text s)

-- what holds of a design that has these parts
of_parts : (P : DesignTerm → Type 0) (es : List EnumType) (cs : Option (List ClassTerm)) (vs : Option (List TVar)) (ss : Option (List StmtTerm))
    → ((c : List ClassTerm) (v : List TVar) (t : List StmtTerm) → cs ≡ Some c → vs ≡ Some v → ss ≡ Some t → P (spec.design es c v t)) → MatchOption (spec.design_of es cs vs ss) ⊤ P
of_parts P es None vs ss h = tt
of_parts P es (Some c) None ss h = tt
of_parts P es (Some c) (Some v) None h = tt
of_parts P es (Some c) (Some v) (Some t) h = h c v t refl refl refl

pub of_design : (P : DesignTerm → Type 0) (text : ℕ → List ℕ) (s : ScriptTree)
    → ((c : List ClassTerm) (v : List TVar) (t : List StmtTerm) → the_classes text s ≡ Some c → the_variables text s ≡ Some v → (the_stmts text s).trees ≡ Some t → P (spec.design (the_heads text s).enums c v t))
    → MatchOption (design_in text s) ⊤ P
of_design P text s h =
    subst (λ (d : Option DesignTerm). MatchOption d ⊤ P) (sym (design_is text s)) (of_parts P (the_heads text s).enums (the_classes text s) (the_variables text s) (the_stmts text s).trees h)

-- ---- types and classes

pub the_heads_are : (text : ℕ → List ℕ) (s : ScriptTree) → IsLevelled s → (the_heads text s).faults ≡ None → HeadsAre text (the_heads text s)
the_heads_are text s is f = heads_are text s.order s.types s.classes (spec.no_globals first_one text) is.types (λ g. no_heads text (spec.no_globals first_one text) refl) f

pub enums_are_lawful : EnumsAreLawful
enums_are_lawful text s is f =
    let h : HeadsAre text (the_heads text s) = the_heads_are text s is (script_clear text s f).heads in
    of_design (λ (d : DesignTerm). Every IsEnum d.enums) text s (λ c v t a b d. h.enums)
