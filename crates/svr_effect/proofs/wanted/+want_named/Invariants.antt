use Rattle.std.proofs.Common.{◌≡◌, drop}
use Rattle.svr_typed.specs.StmtTerm.{design_term, stmt_terms}
use Rattle.svr_effect.specs.Inherited.{with_all_named}
use Rattle.svr_effect.proofs.wanted.+want_named.Given as goal

abbrev pub invariant-want_all_named-loop-stmt : goal.invariant-want_all_named-loop-stmt
invariant-want_all_named-loop-stmt l = with_all_named (design_term l.design) l.wanted.items (stmt_terms (drop l.stmt-index l.stmts)) ≡ with_all_named (design_term l.design) l.fn.wanted.items (stmt_terms l.stmts)
