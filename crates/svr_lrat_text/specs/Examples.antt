-- Texts, with the tokens and the file that they write
use Rattle.std.specs.Prelude.{ℕ, true, false, List, [], ◌∷◌, ◌++◌, codes}
use Rattle.svr_lrat_file.specs.declared.file.Line.TheVariants as l
use Rattle.svr_lrat_file.specs.Views.{FileView}
use Rattle.svr_lrat_text.specs.declared.word.Word.{Word}
use Rattle.svr_lrat_text.specs.declared.word.Word.TheVariants as w
use Rattle.svr_lrat_text.specs.declared.cursor.Token.{Token}
use Rattle.svr_lrat_text.specs.File.{plain, unsigned}

abbrev pub token : ℕ → Word → Token
token at word = record { at = at; word = word }

-- a comment, and a header of two lines
abbrev pub commented : List ℕ
commented = codes "c 1" ++ 10 ∷ codes "p cnf" ++ 10 ∷ codes "0 00"

abbrev pub commented_tokens : List Token
commented_tokens = token 4 w.Problem ∷ token 6 w.Cnf ∷ token 10 (plain 0) ∷ token 12 (plain 0) ∷ token 14 w.End ∷ []

-- a clause, a lemma with a hint, and a line that deletes
abbrev pub small : List ℕ
small = codes "p cnf 2 1 1 -2 0 2 2 0 1 -1 0 3 d 1 0"

abbrev pub small_file : FileView
small_file = record {
  vars = 2;
  clauses = (record { var = 1; neg = false } ∷ record { var = 2; neg = true } ∷ []) ∷ [];
  lines =
      l.Lemma 2 (record { var = 2; neg = false } ∷ []) (unsigned 1 ∷ record { negative = true; size = 1 } ∷ [])
      ∷ l.Delete 3 (unsigned 1 ∷ []) ∷ [];
}
