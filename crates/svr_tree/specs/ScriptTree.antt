-- A script as plain data, and the one that a `Script` stands for (IEEE 1800-2017, A.1.2).
use Rattle.std.specs.Prelude.{ℕ, Bool, List, Option, map}
use Rattle.svr_tree.specs.declared.script.Top.{Top}
use Rattle.svr_tree.specs.declared.script.UnitKind.{UnitKind}
use Rattle.svr_tree.specs.declared.script.UnitDecl.{UnitDecl}
use Rattle.svr_tree.specs.declared.script.Script.{Script}
use Rattle.svr_tree.specs.DeclTree.{TypeTree, ClassTree, VarTree, type_decl_tree, class_tree, var_tree}
use Rattle.svr_tree.specs.StmtTree.{StmtTree, stmt_tree}

pub record UnitTree : Type 0 where
  pub kind : UnitKind
  pub name : ℕ
  pub parens : Bool
  pub outer : List VarTree
  pub inner : List VarTree
  pub stmts : List StmtTree
  pub label : Option ℕ

pub record ScriptTree : Type 0 where
  pub types : List TypeTree
  pub classes : List ClassTree
  pub order : List Top
  pub unit : UnitTree

abbrev pub unit_tree : UnitDecl → UnitTree
unit_tree u = record { kind = u.kind; name = u.name; parens = u.parens; outer = map var_tree u.outer; inner = map var_tree u.inner; stmts = map stmt_tree u.stmts; label = u.label }

abbrev pub script_tree : Script → ScriptTree
script_tree s = record { types = map type_decl_tree s.types; classes = map class_tree s.classes; order = s.order; unit = unit_tree s.unit }
