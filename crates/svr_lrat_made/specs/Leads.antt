-- What holds of the lines of a derivation
use Rattle.std.specs.Prelude.{ℕ, Bool, true, false, not, ◌&&◌, ◌||◌, nat_eq, nat_lt, nat_le, List, [], ◌∷◌}
use Rattle.std.specs.List.{list_any, list_all}
use Rattle.svr_lrat_file.specs.declared.file.Number.{Number}
use Rattle.svr_lrat_file.specs.declared.file.Line.{Line}
use Rattle.svr_lrat_file.specs.declared.file.Line.TheVariants as l

-- the number is that of a clause
abbrev pub names : ℕ → Number → Bool
names id n = not n.negative && nat_eq n.size id

-- the lemma of an identifier is a hint of the line
abbrev pub has_hint : ℕ → Line → Bool
has_hint id (l.Lemma n lits hints) = list_any (names id) hints
has_hint id (l.Delete n ids) = false

-- the line is a lemma that is a hint of one of these lines
abbrev pub is_hint_of : Line → List Line → Bool
is_hint_of (l.Lemma id lits hints) ls = list_any (has_hint id) ls
is_hint_of (l.Delete id ids) ls = false

abbrev pub is_last : List Line → Bool
is_last [] = true
is_last (x ∷ ls) = false

-- each line but the last is a lemma that is a hint of a later line
abbrev pub each_leads_on : List Line → Bool
each_leads_on [] = true
each_leads_on (x ∷ ls) = (is_last ls || is_hint_of x ls) && each_leads_on ls

-- a number from 1 to this one
abbrev pub is_counted : ℕ → Number → Bool
is_counted most n = not n.negative && (nat_lt 0 n.size && nat_le n.size most)

-- a lemma whose identifier and hints are numbers from 1 to this one
abbrev pub is_numbered : ℕ → Line → Bool
is_numbered most (l.Lemma id lits hints) = (nat_lt 0 id && nat_le id most) && list_all (is_counted most) hints
is_numbered most (l.Delete id ids) = false
