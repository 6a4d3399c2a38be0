-- The lines that a text of `randsequence` prints (IEEE 1800-2017, 18.16 and 18.17).
use Rattle.std.specs.Prelude.{ℕ, zero, suc, ◌+◌, Bool, true, false, if◌then◌else◌, List, [], ◌∷◌, ◌++◌, codes, decimal, flat_map}
use Rattle.std.specs.List.{concat}
use Rattle.svr_draw.specs.Words.{generator}
use Rattle.svr_seq.specs.SeqTerm.{SeqTerm}
use Rattle.svr_seq.specs.Line as seq
use Rattle.svr_seq.specs.declared.line.SeqEnd.{SeqEnd}
use Rattle.svr_seq.specs.declared.line.SeqEnd.TheVariants.{Names, Limit}

-- What lines are made of: what a token spells, by its number; the productions; and the seed.
pub record SequenceTerm : Type 0 where
  pub name : ℕ → List ℕ
  pub seq : SeqTerm
  pub seed : ℕ

-- ---- one line

-- how the line of this number ends, whose words are those of the seed with the number
abbrev pub end_of : SequenceTerm → ℕ → SeqEnd
end_of x n = (seq.line_of x.seq (generator x.seed n)).end

-- it needs too many units
abbrev pub is_limit : SeqEnd → Bool
is_limit (Names names) = false
is_limit Limit = true

abbrev pub is_long : SequenceTerm → ℕ → Bool
is_long x n = is_limit (end_of x n)

-- a name with a space before it
abbrev pub spaced : (ℕ → List ℕ) → ℕ → List ℕ
spaced name n = codes " " ++ name n

-- what stands behind the number of a line
abbrev pub end_text : (ℕ → List ℕ) → SeqEnd → List ℕ
end_text name (Names names) = flat_map (spaced name) names
end_text name Limit = codes " limit"

abbrev pub line_text : (ℕ → List ℕ) → ℕ → SeqEnd → List ℕ
line_text name n end = concat (codes "#" ∷ decimal n ∷ end_text name end ∷ codes "\n" ∷ [])

-- the line of this number
abbrev pub line_of : SequenceTerm → ℕ → List ℕ
line_of x n = line_text x.name n (end_of x n)

-- ---- lines

-- so many lines from the one of this number on, or up to and with the first that needs too many units
abbrev pub lines_from : SequenceTerm → ℕ → ℕ → List ℕ
lines_from x n zero = []
lines_from x n (suc count) = line_of x n ++ (if is_long x n then [] else lines_from x (n + 1) count)

-- some of them needs too many
abbrev pub some_long : SequenceTerm → ℕ → ℕ → Bool
some_long x n zero = false
some_long x n (suc count) = if is_long x n then true else some_long x (n + 1) count
