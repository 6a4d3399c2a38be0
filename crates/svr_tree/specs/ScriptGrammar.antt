-- Scripts: what they spell, which may be, how high they are (IEEE 1800-2017, A.1.2).
use Rattle.std.specs.Prelude.{ℕ, max, List, [], ◌∷◌, ◌++◌}
use Rattle.svr_token.specs.declared.Word.{Word}
use Rattle.svr_token.specs.declared.Word.TheVariants as w
use Rattle.svr_token.specs.declared.Mark.TheVariants as m
use Rattle.svr_tree.specs.declared.script.Top.{Top}
use Rattle.svr_tree.specs.declared.script.Top.TheVariants.{OfType, OfClass}
use Rattle.svr_tree.specs.declared.script.UnitKind.{UnitKind}
use Rattle.svr_tree.specs.declared.script.UnitKind.TheVariants as unit_kind
use Rattle.svr_tree.specs.DeclTree.{TypeTree, ClassTree}
use Rattle.svr_tree.specs.ScriptTree.{UnitTree, ScriptTree}
use Rattle.svr_tree.specs.Tokens.{Entry, Name, word, mark, each_spelling, Each}
use Rattle.svr_tree.specs.ExprGrammar.{parens_spelling}
use Rattle.svr_tree.specs.DeclGrammar.{typedef_spelling, class_spelling, label_spelling, var_spelling, IsTypedef, IsClass, IsVar, greatest, typedef_height, class_height, var_height}
use Rattle.svr_tree.specs.StmtGrammar.{stmt_spelling, IsStmt, stmt_height}

-- ---- what a tree spells

abbrev pub first_word : UnitKind → Word
first_word unit_kind.Module = w.Module
first_word unit_kind.Program = w.Program

-- a module ends with `endmodule`, a program with `endprogram`
abbrev pub last_word : UnitKind → Word
last_word unit_kind.Module = w.EndModule
last_word unit_kind.Program = w.EndProgram

-- A.1.2: module_declaration, program_declaration, with one initial_construct (A.6.2)
abbrev pub unit_spelling : UnitTree → List Entry
unit_spelling u =
    word (first_word u.kind) ∷ (Name u.name ∷ (parens_spelling u.parens ++ mark m.Semicolon ∷ (each_spelling var_spelling u.outer
    ++ word w.Initial ∷ (word w.Begin ∷ (each_spelling var_spelling u.inner ++ (each_spelling stmt_spelling u.stmts
    ++ word w.End ∷ (word (last_word u.kind) ∷ label_spelling u.label)))))))

-- types and classes, each the next of its list
abbrev pub tops_spelling : List TypeTree → List ClassTree → List Top → List Entry
tops_spelling ts cs [] = []
tops_spelling [] cs (OfType ∷ order) = []
tops_spelling (t ∷ ts) cs (OfType ∷ order) = typedef_spelling t ++ tops_spelling ts cs order
tops_spelling ts [] (OfClass ∷ order) = []
tops_spelling ts (c ∷ cs) (OfClass ∷ order) = class_spelling c ++ tops_spelling ts cs order

-- A.1.2: source_text
abbrev pub spelling : ScriptTree → List Entry
spelling s = tops_spelling s.types s.classes s.order ++ unit_spelling s.unit

-- ---- which tree may be

-- one entry for each type and each class
abbrev pub IsOrder : List TypeTree → List ClassTree → List Top → Type 0
IsOrder [] [] [] = Unit {0}
IsOrder (t ∷ ts) cs (OfType ∷ order) = IsOrder ts cs order
IsOrder ts (c ∷ cs) (OfClass ∷ order) = IsOrder ts cs order
IsOrder _ _ _ = ⊥

abbrev pub IsUnit : UnitTree → Type 0
IsUnit u = Each IsVar u.outer × Each IsVar u.inner × Each IsStmt u.stmts

-- each node stands where the grammar and table 11-2 allow it
pub record IsLevelled (s : ScriptTree) : Type 0 where
  pub types : Each IsTypedef s.types
  pub classes : Each IsClass s.classes
  pub order : IsOrder s.types s.classes s.order
  pub unit : IsUnit s.unit

-- ---- how high a tree is: the greatest height of an item of a block, of a statement directly in the initial block, and of an expression that stands in neither

abbrev pub unit_height : UnitTree → ℕ
unit_height u = max (max (greatest var_height u.outer) (greatest var_height u.inner)) (greatest stmt_height u.stmts)

abbrev pub height : ScriptTree → ℕ
height s = max (max (greatest (λ t. typedef_height t.definition) s.types) (greatest class_height s.classes)) (unit_height s.unit)
