-- What contracts see of a file
use Rattle.std.specs.Prelude.{ℕ, List}
use Rattle.svr_chain.specs.declared.clause.Lit.{Lit}
use Rattle.svr_lrat_file.specs.declared.file.Line.{Line}

pub record FileView : Type 0 where
  pub vars : ℕ
  pub clauses : List (List Lit)
  pub lines : List Line
