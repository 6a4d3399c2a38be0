-- Three clauses over two variables, and what is said of derivations from them, as worked out by hand
use Rattle.std.specs.Prelude.{ℕ, true, false, List, [], ◌∷◌}
use Rattle.svr_chain.specs.declared.clause.Lit.{Lit}
use Rattle.svr_lrat_file.specs.declared.file.Number.{Number}
use Rattle.svr_lrat_file.specs.declared.file.Line.{Line}
use Rattle.svr_lrat_file.specs.declared.file.Line.TheVariants as l
use Rattle.svr_lrat_file.specs.Views.{FileView}

abbrev pub pos : ℕ → Lit
pos v = record { var = v; neg = false }

abbrev pub neg : ℕ → Lit
neg v = record { var = v; neg = true }

abbrev pub hint : ℕ → Number
hint n = record { negative = false; size = n }

-- 1: a or b, 2: not a or b, 3: not b
abbrev pub file : List Line → FileView
file lines = record { vars = 2; clauses = (pos 1 ∷ pos 2 ∷ []) ∷ (neg 1 ∷ pos 2 ∷ []) ∷ (neg 2 ∷ []) ∷ []; lines = lines }

-- b is shown: where it is false, clause 2 makes a false, and clause 1 has no literal left
abbrev pub shown : Line
shown = l.Lemma 4 (pos 2 ∷ []) (hint 2 ∷ hint 1 ∷ [])

-- where b is false clause 3 says nothing more
abbrev pub cut_short : Line
cut_short = l.Lemma 4 (pos 2 ∷ []) (hint 2 ∷ hint 3 ∷ [])

abbrev pub last : Line
last = l.Lemma 5 [] (hint 3 ∷ hint 4 ∷ [])

-- b or not b
abbrev pub opposites : Line
opposites = l.Lemma 4 (pos 2 ∷ neg 2 ∷ []) (hint 9 ∷ [])

abbrev pub too_open : Line
too_open = l.Lemma 4 [] (hint 1 ∷ [])

abbrev pub deletion : Line
deletion = l.Delete 4 (hint 2 ∷ hint 2 ∷ [])
