-- Files: clauses, and the lines of a derivation; which words write them, and their limits
use Rattle.std.specs.Prelude.{ℕ, Bool, true, false, not, ◌||◌, ◌&&◌, nat_lt, nat_le, List, [], ◌∷◌, ◌++◌, length, map, flat_map}
use Rattle.std.specs.List.{list_all}
use Rattle.svr_chain.specs.declared.clause.Lit.{Lit}
use Rattle.svr_lrat_text.specs.declared.limits.TheConstants.{MOST_COUNT, MOST_ID}
use Rattle.svr_lrat_file.specs.declared.file.Number.{Number}
use Rattle.svr_lrat_text.specs.declared.word.Word.{Word}
use Rattle.svr_lrat_text.specs.declared.word.Word.TheVariants as w
use Rattle.svr_lrat_file.specs.declared.file.Line.{Line}
use Rattle.svr_lrat_file.specs.declared.file.Line.TheVariants as l
use Rattle.svr_lrat_file.specs.Views.{FileView}

-- a number without a sign
abbrev pub unsigned : ℕ → Number
unsigned n = record { negative = false; size = n }

abbrev pub plain : ℕ → Word
plain n = w.Number (unsigned n)

-- the number of a literal: its variable, with a minus sign where it is negated
abbrev pub lit_number : Lit → Number
lit_number l = record { negative = l.neg; size = l.var }

-- numbers, and the 0 behind them
abbrev pub list_words : List Number → List Word
list_words ns = map (λ n. w.Number n) ns ++ plain 0 ∷ []

abbrev pub clause_words : List Lit → List Word
clause_words c = list_words (map lit_number c)

-- ID { LIT } 0 { HINT } 0, or ID "d" { ID } 0
abbrev pub line_words : Line → List Word
line_words (l.Lemma id lits hints) = plain id ∷ (clause_words lits ++ list_words hints)
line_words (l.Delete id ids) = plain id ∷ (w.Delete ∷ list_words ids)

-- "p" "cnf" V C { clause } { line }, with C clauses, up to the end of the text
abbrev pub file_words : FileView → List Word
file_words f =
    w.Problem ∷ (w.Cnf ∷ (plain f.vars ∷ (plain (length f.clauses)
    ∷ (flat_map clause_words f.clauses ++ (flat_map line_words f.lines ++ w.End ∷ [])))))

-- the size is at most this one, where limits count
abbrev pub fits : Bool → ℕ → ℕ → Bool
fits limited n most = not limited || nat_le n most

-- a number that is not 0, and not negative unless signs may stand there
abbrev pub is_form : Bool → Number → Bool
is_form signed n = nat_lt 0 n.size && (signed || not n.negative)

abbrev pub is_entry : Bool → ℕ → Bool → Number → Bool
is_entry limited most signed n = is_form signed n && fits limited n.size most

-- a literal over so many variables
abbrev pub is_lit : Bool → ℕ → Lit → Bool
is_lit limited vars l = is_entry limited vars true (lit_number l)

abbrev pub is_clause : Bool → ℕ → List Lit → Bool
is_clause limited vars c = list_all (is_lit limited vars) c

abbrev pub is_id : Bool → ℕ → Bool
is_id limited n = is_entry limited MOST_ID false (unsigned n)

abbrev pub is_line : Bool → ℕ → Line → Bool
is_line limited vars (l.Lemma id lits hints) = is_id limited id && (is_clause limited vars lits && list_all (is_entry limited MOST_ID true) hints)
is_line limited vars (l.Delete id ids) = is_id limited id && list_all (is_entry limited MOST_ID false) ids

-- The numbers of the file are what they stand for. Where limits count: there are at most MOST_COUNT
-- variables and as many clauses, literals are over the variables, identifiers and hints at most MOST_ID.
abbrev pub is_file : Bool → FileView → Bool
is_file limited f =
    (fits limited f.vars MOST_COUNT && fits limited (length f.clauses) MOST_COUNT)
    && (list_all (is_clause limited f.vars) f.clauses && list_all (is_line limited f.vars) f.lines)
