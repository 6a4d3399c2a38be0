-- The text of a file, line by line. Between two tokens of a line stands a space
use Rattle.std.specs.Prelude.{ℕ, Bool, if◌then◌else◌, List, [], ◌++◌, length, flat_map, codes, decimal}
use Rattle.svr_chain.specs.declared.clause.Lit.{Lit}
use Rattle.svr_lrat_file.specs.declared.file.Number.{Number}
use Rattle.svr_lrat_file.specs.declared.file.Line.{Line}
use Rattle.svr_lrat_file.specs.declared.file.Line.TheVariants as l
use Rattle.svr_lrat_file.specs.Views.{FileView}
use Rattle.svr_lrat_text.specs.File.{unsigned, lit_number}

-- a minus sign
abbrev pub sign_text : Bool → List ℕ
sign_text negative = if negative then codes "-" else []

-- a number of a line, and a space
abbrev pub item_text : Number → List ℕ
item_text n = sign_text n.negative ++ (decimal n.size ++ codes " ")

abbrev pub lit_text : Lit → List ℕ
lit_text l = item_text (lit_number l)

-- the literals of a lemma, and the 0 behind them
abbrev pub lits_text : List Lit → List ℕ
lits_text c = flat_map lit_text c ++ codes "0 "

-- a clause of the formula, up to the end of its line
abbrev pub clause_text : List Lit → List ℕ
clause_text c = flat_map lit_text c ++ codes "0\n"

-- numbers up to the end of a line
abbrev pub last_text : List Number → List ℕ
last_text ns = flat_map item_text ns ++ codes "0\n"

abbrev pub line_text : Line → List ℕ
line_text (l.Lemma id lits hints) = item_text (unsigned id) ++ (lits_text lits ++ last_text hints)
line_text (l.Delete id ids) = item_text (unsigned id) ++ (codes "d " ++ last_text ids)

-- the numbers of variables and of clauses
abbrev pub header_text : ℕ → ℕ → List ℕ
header_text vars count = codes "p cnf " ++ (item_text (unsigned vars) ++ (decimal count ++ codes "\n"))

abbrev pub text_of : FileView → List ℕ
text_of f = header_text f.vars (length f.clauses) ++ (flat_map clause_text f.clauses ++ flat_map line_text f.lines)
