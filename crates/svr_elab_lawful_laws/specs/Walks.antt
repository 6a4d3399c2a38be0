-- What is accepted among statements stands in the design (IEEE 1800-2017, clauses 8.7, 10, 12 and 18).
use Rattle.std.specs.Prelude.{◌≡◌, ◌≤◌, ℕ, false, List, [], ◌∷◌, length, Option, Some, None, MatchOption, ⊤}
use Rattle.svr_typed.specs.ItemTerm.{items_of}
use Rattle.svr_typed.specs.StmtTerm.{DesignTerm}
use Rattle.svr_limits.specs.declared.limit.TheConstants.{HEIGHT_LIMIT}
use Rattle.svr_tree.specs.ItemTree.{ItemTrees}
use Rattle.svr_tree.specs.ItemGrammar.{AreBlockItems, items_height}
use Rattle.svr_tree.specs.ScriptTree.{UnitTree, ScriptTree}
use Rattle.svr_tree.specs.ScriptGrammar.{IsLevelled, height}
use Rattle.svr_tree.specs.StmtTree as tree
use Rattle.svr_tree.specs.StmtTree.{StmtTree, StmtTrees, RightTree}
use Rattle.svr_flat.specs.Flat.{flat_class_of}
use Rattle.svr_eval.specs.Holds.{ItemsAreTyped}
use Rattle.svr_design.specs.Constraints.{ItemsStand}
use Rattle.svr_design.specs.Statements.{StmtStands, AllStmtsStand}
use Rattle.svr_elab_fault.specs.Refusals.{first_one}
use Rattle.svr_elab_names.specs.Names.{Space, class_props}
use Rattle.svr_elab_part.specs.Fits.{NamesFit}
use Rattle.svr_elab_target.specs.Blocks.{class_blocks}
use Rattle.svr_elab_target.specs.Named.{with_made, in_line_space}
use Rattle.svr_elab_item.specs.Fits.{ItemsFit}
use Rattle.svr_elab_item.specs.Items.{items, no_items, outside}
use Rattle.svr_elab_stmt.specs.Fits.{StmtFits}
use Rattle.svr_elab_stmt.specs.Stmts.{stmt}
use Rattle.svr_elab_unit.specs.Fits.{VarValuesFit, AllStmtsFit}
use Rattle.svr_elab.specs.Script.{faults_of, design_in}
use Rattle.svr_elab_fit_laws.specs.ReadScripts.{ScriptFits}
use Rattle.svr_elab_lawful_laws.specs.Declared.{PlacedFrom}
use Rattle.svr_elab_lawful_laws.specs.Places.{names_of}
use Rattle.svr_elab_lawful_laws.specs.Reads.{InStatement}

-- as it is read from a text
abbrev pub IsSet : ItemTrees → Type 0
IsSet is = ItemsFit is × AreBlockItems is × (items_height is ≤ HEIGHT_LIMIT)

-- each set behind a call is so
abbrev pub SetIs : Option ItemTrees → Type 0
SetIs None = ⊤
SetIs (Some is) = IsSet is

abbrev pub RightSet : RightTree → Type 0
RightSet (tree.value e) = ⊤
RightSet (tree.new parens) = ⊤
RightSet (tree.new_array e) = ⊤
RightSet (tree.pattern at vs) = ⊤
RightSet (tree.answer c) = SetIs c.items

abbrev mutual
  pub SetsAre : StmtTree → Type 0
  SetsAre (tree.empty at) = ⊤
  SetsAre (tree.block at ss) = AllSetsAre ss
  SetsAre (tree.repeat at e s) = SetsAre s
  SetsAre (tree.assign at x r) = RightSet r
  SetsAre (tree.call at form c) = SetIs c.items
  SetsAre (tree.mode at m) = ⊤

  pub AllSetsAre : StmtTrees → Type 0
  AllSetsAre tree.no_stmts = ⊤
  AllSetsAre (tree.more_stmts s ss) = SetsAre s × AllSetsAre ss

-- a place of statements: a property has its place as its number, and a class has a block for each name of one
pub record StatementPlace (d : DesignTerm) (n : Space) : Type 0 where
  pub stands : InStatement d n
  pub fits : NamesFit n
  pub places : (c : ℕ) → PlacedFrom 0 (class_props n.classes c)
  pub blocks : (c : ℕ) → length (class_blocks n.classes c) ≤ length (flat_class_of d.classes c).blocks

-- accepted sets stand in the design, which is proved of constraint items elsewhere
abbrev pub SetsStand : DesignTerm → Space → Type 0
SetsStand d n =
    (made : List ℕ) (c : ℕ) (is : ItemTrees) → IsSet is → (items first_one (in_line_space (with_made n made) c) outside (no_items first_one) is).faults ≡ None
    → MatchOption (items first_one (in_line_space (with_made n made) c) outside (no_items first_one) is).trees ⊤ (λ ts. ItemsAreTyped (items_of ts) × ItemsStand (flat_class_of d.classes c).props d.vars 0 false false (items_of ts))

abbrev pub AcceptedStatementsStand : Type 0
AcceptedStatementsStand =
    (d : DesignTerm) (n : Space) (s : StmtTree) → StatementPlace d n → SetsStand d n → StmtFits 0 s → SetsAre s
    → (stmt first_one n s).faults ≡ None → MatchOption (stmt first_one n s).tree ⊤ (λ t. StmtStands d t)

-- a class has a block for each name of one
abbrev pub BlocksNamed : DesignTerm → Space → Type 0
BlocksNamed d n = (c : ℕ) → length (class_blocks n.classes c) ≤ length (flat_class_of d.classes c).blocks

abbrev pub TopsAre : List StmtTree → Type 0
TopsAre [] = ⊤
TopsAre (s ∷ ss) = SetsAre s × TopsAre ss

-- what is read as a module: its values and statements fit, and each set behind a call is one that can be read
abbrev pub UnitRead : UnitTree → Type 0
UnitRead u = VarValuesFit 0 u.outer × VarValuesFit 0 u.inner × AllStmtsFit 0 u.stmts × TopsAre u.stmts

-- the statements of a script in which nothing is refused stand in its design, where each class has its blocks and the sets behind calls stand
abbrev pub StatementsStand : Type 0
StatementsStand =
    (text : ℕ → List ℕ) (s : ScriptTree) → IsLevelled s → UnitRead s.unit → faults_of text s ≡ []
    → MatchOption (design_in text s) ⊤ (λ d. BlocksNamed d (names_of text s) → SetsStand d (names_of text s) → AllStmtsStand d d.stmts)

-- what was read is so
abbrev pub UnitsAreRead : Type 0
UnitsAreRead = (s : ScriptTree) → IsLevelled s → height s ≤ HEIGHT_LIMIT → ScriptFits s → UnitRead s.unit

-- each class of an accepted script has them
abbrev pub BlocksAreNamed : Type 0
BlocksAreNamed = (text : ℕ → List ℕ) (s : ScriptTree) → IsLevelled s → faults_of text s ≡ [] → MatchOption (design_in text s) ⊤ (λ d. BlocksNamed d (names_of text s))
