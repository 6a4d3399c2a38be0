-- Statements and scripts as plain data, and those that the code's stand for (IEEE 1800-2017, clauses 10, 12 and 18).
use Rattle.std.specs.Prelude.{ℕ, List, [], ◌∷◌, Option, map, option_map}
use Rattle.svr_typed.specs.declared.class.EnumType.{EnumType}
use Rattle.svr_typed.specs.declared.stmt.CallList.{CallList}
use Rattle.svr_typed.specs.declared.stmt.CallStmt.{CallStmt}
use Rattle.svr_typed.specs.declared.stmt.TVar.{TVar}
use Rattle.svr_typed.specs.declared.stmt.TStmt.{TStmt, fold-TStmt}
use Rattle.svr_typed.specs.declared.stmt.TStmt.TheOpen.{TStmt-F}
use Rattle.svr_typed.specs.declared.stmt.Design.{Design}
use Rattle.svr_typed.specs.ExprTerm.{ExprTerm, ExprTerms, expr_term, expr_terms}
use Rattle.svr_typed.specs.ItemTerm.{ItemTerms, item_terms}
use Rattle.svr_typed.specs.ClassTerm.{ClassTerm, class_terms}

-- a call of `randomize`; `items` is its in-line set
pub record CallTerm : Type 0 where
  pub object : ℕ
  pub list : CallList
  pub items : ItemTerms
  pub answer : Option ℕ

mutual
  -- objects, properties and blocks by their numbers
  pub data StmtTerm : Type 0 where
    make : ℕ → StmtTerm
    set_var : ℕ → ExprTerm → StmtTerm
    set_prop : ℕ → ℕ → Option ExprTerm → ExprTerm → StmtTerm
    resize : ℕ → ℕ → ℕ → StmtTerm
    pattern : ℕ → ℕ → ExprTerms → StmtTerm
    rand_mode : ℕ → Option ℕ → ExprTerm → StmtTerm
    constraint_mode : ℕ → Option ℕ → ExprTerm → StmtTerm
    call : CallTerm → StmtTerm
    repeat : ℕ → StmtTerm → StmtTerm
    list : StmtTerms → StmtTerm

  pub data StmtTerms : Type 0 where
    no_stmts : StmtTerms
    more_stmts : StmtTerm → StmtTerms → StmtTerms

-- a script after elaboration
pub record DesignTerm : Type 0 where
  pub enums : List EnumType
  pub classes : List ClassTerm
  pub vars : List TVar
  pub stmts : StmtTerms

abbrev pub stmts_of : List StmtTerm → StmtTerms
stmts_of [] = no_stmts
stmts_of (s ∷ ss) = more_stmts s (stmts_of ss)

abbrev pub call_term : CallStmt → CallTerm
call_term c = record { object = c.object; list = c.list; items = item_terms c.«with»; answer = c.result }

abbrev pub stmt_step : TStmt-F StmtTerm → StmtTerm
stmt_step (TStmt-F.Make o) = make o
stmt_step (TStmt-F.SetVar v e) = set_var v (expr_term e)
stmt_step (TStmt-F.SetProp o p i e) = set_prop o p (option_map expr_term i) (expr_term e)
stmt_step (TStmt-F.Resize o p n) = resize o p n
stmt_step (TStmt-F.Pattern o p es) = pattern o p (expr_terms es)
stmt_step (TStmt-F.RandMode o p on) = rand_mode o p (expr_term on)
stmt_step (TStmt-F.ConstraintMode o b on) = constraint_mode o b (expr_term on)
stmt_step (TStmt-F.Call c) = call (call_term c)
stmt_step (TStmt-F.Repeat n s) = repeat n s
stmt_step (TStmt-F.List ss) = list (stmts_of ss)

-- what a statement stands for
abbrev pub stmt_term : TStmt → StmtTerm
stmt_term = fold-TStmt StmtTerm stmt_step

abbrev pub stmt_terms : List TStmt → StmtTerms
stmt_terms ss = stmts_of (map stmt_term ss)

abbrev pub design_term : Design → DesignTerm
design_term d = record { enums = d.enums; classes = class_terms d.classes; vars = d.vars; stmts = stmt_terms d.stmts }
