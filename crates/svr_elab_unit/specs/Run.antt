-- The statements of a script: the values of its variables, and then those of the initial block (IEEE 1800-2017, 9.2.1).
use Rattle.std.specs.Prelude.{ℕ, ◌+◌, nat_lt, not, ◌&&◌, Bool, List, [], ◌∷◌, ◌++◌}
use Rattle.svr_limits.specs.declared.limit.TheConstants.{STATEMENT_LIMIT}
use Rattle.svr_tree.specs.StmtTree as tree
use Rattle.svr_tree.specs.StmtTree.{StmtTree}
use Rattle.svr_tree.specs.ScriptTree.{UnitTree}
use Rattle.svr_refusal.specs.declared.Refusal.TheVariants as refusal
use Rattle.svr_elab_fault.specs.Refusals.{Gather, when}
use Rattle.svr_elab_names.specs.declared.VarStand.{VarStand}
use Rattle.svr_elab_names.specs.Names.{Space}
use Rattle.svr_elab_stmt.specs.Stmts.{StmtElab, StmtsElab, with_made, and_stmt, stmt}
use Rattle.svr_elab_unit.specs.Vars.{decls_valued, no_values}

-- the first token of a statement
abbrev pub stmt_start : StmtTree → ℕ
stmt_start (tree.empty at) = at
stmt_start (tree.block at ss) = at
stmt_start (tree.repeat at e s) = at
stmt_start (tree.assign at x r) = at
stmt_start (tree.call at form c) = at
stmt_start (tree.mode at m) = at

-- more than `STATEMENT_LIMIT` statements run, and no more did before
abbrev pub passes_limit : ℕ → ℕ → Bool
passes_limit before more = not (nat_lt STATEMENT_LIMIT before) && nat_lt STATEMENT_LIMIT (before + more)

module _ {F : Type 0} (g : Gather F) where
  -- behind so many
  abbrev pub with_limit : ℕ → ℕ → StmtElab F → StmtElab F
  with_limit at before s = record { tree = s.tree; faults = g.both s.faults (when g (passes_limit before s.count) at refusal.TooMany); makes = s.makes; count = s.count }

  abbrev pub and_top : StmtsElab F → ℕ → StmtElab F → StmtsElab F
  and_top ss at s = and_stmt g ss (with_limit at ss.count s)

  -- the statements directly in the initial block
  abbrev pub tops : Space → StmtsElab F → List StmtTree → StmtsElab F
  tops n ss [] = ss
  tops n ss (s ∷ rest) = tops n (and_top ss (stmt_start s) (stmt g (with_made n ss.made) s)) rest

  -- `stands`: what the variables of each declaration are
  abbrev pub run : Space → List VarStand → UnitTree → StmtsElab F
  run n stands u = tops n (decls_valued g n (no_values g []) stands (u.outer ++ u.inner)).stmts u.stmts
