-- The conditions of a lawful design, one by one, of the design of a script in which nothing is refused. Each node of the script stands where the grammar allows it.
use Rattle.std.specs.Prelude.{◌≡◌, ◌≤◌, ◌+◌, ℕ, List, [], length, map, MatchOption, ⊤}
use Rattle.svr_limits.specs.declared.limit.TheConstants.{ARRAY_LIMIT, PROPERTY_LIMIT, STATEMENT_LIMIT, VARIABLE_LIMIT}
use Rattle.svr_typed.specs.declared.Prop.{Prop}
use Rattle.svr_typed.specs.declared.TVar.{TVar}
use Rattle.svr_typed.specs.ClassTerm.{ClassTerm}
use Rattle.svr_typed.specs.StmtTerm.{DesignTerm}
use Rattle.svr_tree.specs.ScriptTree.{ScriptTree}
use Rattle.svr_tree.specs.ScriptGrammar.{IsLevelled}
use Rattle.svr_flat.specs.Flat.{flat_class_of}
use Rattle.svr_design.specs.Types.{IsEnum, IsProp, NamesDiffer}
use Rattle.svr_design.specs.Statements.{AllFollow, all_run}
use Rattle.svr_design.specs.Lawful.{Every, EachFrom, BaseIsBefore, CanBeRandom, VariableStands, arrays_in, objects_in}
use Rattle.svr_elab_fit_laws.specs.ReadScripts.{blocks_in}
use Rattle.svr_elab.specs.Script.{faults_of, design_in}

-- this holds of the design of each script in which nothing is refused
abbrev pub AcceptedIs : (DesignTerm → Type 0) → Type 0
AcceptedIs P = (text : ℕ → List ℕ) (s : ScriptTree) → IsLevelled s → faults_of text s ≡ [] → MatchOption (design_in text s) ⊤ P

-- 6.19: different values of 1 to 64 bits, for 1 to 1,024 members
abbrev pub EnumsAreLawful : Type 0
EnumsAreLawful = AcceptedIs (λ d. Every IsEnum d.enums)

-- class k: its base stands before it, its properties are lawful, and with those that it inherits it has at most 1,024 of them, at most 32 arrays, and different names
pub record ClassStands (d : DesignTerm) (k : ℕ) (c : ClassTerm) : Type 0 where
  pub base : BaseIsBefore k c.base
  pub props : Every (IsProp d.enums) c.props
  pub few : length (flat_class_of d.classes k).props ≤ PROPERTY_LIMIT
  pub few_arrays : arrays_in (flat_class_of d.classes k).props ≤ ARRAY_LIMIT
  pub differ : NamesDiffer (map (λ (p : Prop). p.name) (flat_class_of d.classes k).props)

abbrev pub ClassesAreLawful : Type 0
ClassesAreLawful = AcceptedIs (λ d. EachFrom (ClassStands d) 0 d.classes)

abbrev pub VariablesAreLawful : Type 0
VariablesAreLawful = AcceptedIs (λ d. Every (λ (v : TVar). VariableStands d v.kind) d.vars)

-- at most 4,096 object variables, and at most 4,096 others
abbrev pub VariablesAreFew : Type 0
VariablesAreFew = AcceptedIs (λ d. (objects_in d.vars ≤ VARIABLE_LIMIT) × (length d.vars ≤ objects_in d.vars + VARIABLE_LIMIT))

-- at most 100,000 statements run
abbrev pub StatementsAreFew : Type 0
StatementsAreFew = AcceptedIs (λ d. all_run d.stmts ≤ STATEMENT_LIMIT)

-- which properties can be random: those that are declared so, and those that a call lists on an object of their class or of one that is derived from it
abbrev pub RandomIsLawful : Type 0
RandomIsLawful = AcceptedIs (λ d. EachFrom (λ k (c : ClassTerm). EachFrom (CanBeRandom d k) 0 (flat_class_of d.classes k).props) 0 d.classes)

-- a class has no more blocks, with those that it inherits, than the script declares
abbrev pub BlocksAreFew : Type 0
BlocksAreFew =
    (text : ℕ → List ℕ) (s : ScriptTree) → IsLevelled s → faults_of text s ≡ []
    → MatchOption (design_in text s) ⊤ (λ d. (k : ℕ) → length (flat_class_of d.classes k).blocks ≤ blocks_in s.classes)

-- an object that is used is made earlier in the list or in one around it
abbrev pub ObjectsAreMade : Type 0
ObjectsAreMade = AcceptedIs (λ d. AllFollow [] d.stmts)
