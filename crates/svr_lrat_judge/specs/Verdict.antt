-- Which derivations are accepted, and the first fault of one that is not
use Rattle.std.specs.Prelude.{ℕ, ◌+◌, Bool, true, false, not, ◌&&◌, ◌||◌, nat_eq, nat_le, List, [], ◌∷◌, ◌++◌, map, filter, fold, Option, None, Some, is_some, if◌then◌else◌}
use Rattle.std.specs.List.{list_all}
use Rattle.svr_chain.specs.declared.clause.Lit.{Lit}
use Rattle.svr_chain.specs.Clauses.{same_lit, flip, has, is_tautology}
use Rattle.svr_lrat_file.specs.declared.file.Number.{Number}
use Rattle.svr_lrat_file.specs.declared.file.Line.{Line}
use Rattle.svr_lrat_file.specs.declared.file.Line.TheVariants as l
use Rattle.svr_lrat_file.specs.Views.{FileView}
use Rattle.svr_lrat_judge.specs.declared.verdict.LratReason.{LratReason}
use Rattle.svr_lrat_judge.specs.declared.verdict.LratReason.TheVariants as reason
use Rattle.svr_lrat_judge.specs.declared.verdict.LratVerdict.{LratVerdict}
use Rattle.svr_lrat_judge.specs.declared.verdict.LratVerdict.TheVariants as v
use Rattle.svr_lrat_judge.specs.declared.hints.Hinted.{Hinted}
use Rattle.svr_lrat_judge.specs.declared.hints.Hinted.TheVariants as h
use Rattle.svr_lrat_judge.specs.declared.derivation.Fault.{Fault}

-- ---- hints

-- the literals of a clause that are not false where these are true
abbrev pub left : List Lit → List Lit → List Lit
left known c = filter (λ x. not (has known (flip x))) c

-- there is none, or one, perhaps written twice; or there are two or more
abbrev pub what_left : List Lit → Hinted
what_left [] = h.Shown
what_left (x ∷ xs) = if list_all (same_lit x) xs then h.Unit x else h.Fault reason.TwoLeft

abbrev pub left_of : List Lit → List Lit → Hinted
left_of known c = what_left (left known c)

abbrev pub of_hint : List Lit → Option (List Lit) → Hinted
of_hint known None = h.Fault reason.Hint
of_hint known (Some c) = left_of known c

-- one hint, where these clauses are live
abbrev pub hinted : (ℕ → Option (List Lit)) → List Lit → Number → Hinted
hinted live known n = if n.negative then h.Fault reason.Negative else of_hint known (live n.size)

-- Hints in turn: the one literal that is left becomes true. Where none is left the lemma is shown, and later hints are not looked at.
abbrev pub hints_fault : (ℕ → Option (List Lit)) → List Lit → List Number → Option LratReason
hints_fault live known [] = Some reason.Short
hints_fault live known (n ∷ ns) = elim (hinted live known n) [ h.Shown ↦ None | h.Unit x ↦ hints_fault live (known ++ x ∷ []) ns | h.Fault r ↦ Some r ]

-- ---- lemmas

-- a lemma that holds a literal and its negation is shown; for any other each literal is taken for false
abbrev pub literals_fault : (ℕ → Option (List Lit)) → List Lit → List Number → Option LratReason
literals_fault live lits hints = if is_tautology lits then None else hints_fault live (map flip lits) hints

abbrev pub lemma_fault : (ℕ → Option (List Lit)) → ℕ → ℕ → List Lit → List Number → Option LratReason
lemma_fault live last id lits hints = if nat_le id last then Some reason.Order else literals_fault live lits hints

-- ---- live clauses

abbrev pub with_clause : (ℕ → Option (List Lit)) → ℕ → List Lit → ℕ → Option (List Lit)
with_clause live id c = λ i. if nat_eq id i then Some c else live i

abbrev pub without : (ℕ → Option (List Lit)) → ℕ → ℕ → Option (List Lit)
without live id = λ i. if nat_eq id i then None else live i

abbrev pub without_number : (ℕ → Option (List Lit)) → Number → ℕ → Option (List Lit)
without_number live n = without live n.size

abbrev pub deleted : (ℕ → Option (List Lit)) → List Number → ℕ → Option (List Lit)
deleted live ids = fold without_number live ids

-- each names a live clause when its turn comes
abbrev pub are_live : (ℕ → Option (List Lit)) → List Number → Bool
are_live live [] = true
are_live live (n ∷ ns) = is_some (live n.size) && are_live (without_number live n) ns

-- ---- files

-- the live clauses, the last identifier, whether a clause or a lemma was empty, and the first line at fault
pub record State : Type 0 where
  pub live : ℕ → Option (List Lit)
  pub last : ℕ
  pub has_empty : Bool
  pub fault : Option Fault

abbrev pub is_nil : List Lit → Bool
is_nil [] = true
is_nil (x ∷ xs) = false

abbrev pub start : State
start = record { live = λ i. None; last = 0; has_empty = false; fault = None }

-- one more clause, under the next identifier
abbrev pub with_new : State → ℕ → List Lit → State
with_new s id c = record { live = with_clause s.live id c; last = id; has_empty = s.has_empty || is_nil c; fault = s.fault }

abbrev pub with_input : State → List Lit → State
with_input s c = with_new s (s.last + 1) c

abbrev pub with_fault : State → ℕ → LratReason → State
with_fault s id r = record { live = s.live; last = s.last; has_empty = s.has_empty; fault = Some (record { id = id; reason = r }) }

abbrev pub with_lemma : State → ℕ → List Lit → Option LratReason → State
with_lemma s id c None = with_new s id c
with_lemma s id c (Some r) = with_fault s id r

abbrev pub with_deleted : State → ℕ → List Number → State
with_deleted s id ids = record {
  live = deleted s.live ids;
  last = s.last;
  has_empty = s.has_empty;
  fault = if are_live s.live ids then s.fault else Some (record { id = id; reason = reason.Delete });
}

abbrev pub with_line : State → Line → State
with_line s (l.Lemma id lits hints) = with_lemma s id lits (lemma_fault s.live s.last id lits hints)
with_line s (l.Delete id ids) = with_deleted s id ids

-- behind the first line at fault no line is looked at
abbrev pub unless_faulty : Option Fault → State → State → State
unless_faulty None s t = t
unless_faulty (Some f) s t = s

abbrev pub after_line : State → Line → State
after_line s line = unless_faulty s.fault s (with_line s line)

abbrev pub verdict_at : Option Fault → Bool → LratVerdict
verdict_at (Some f) has_empty = v.Rejected f.id f.reason
verdict_at None true = v.Accepted
verdict_at None false = v.Rejected 0 reason.Unfinished

abbrev pub state_of : FileView → State
state_of f = fold after_line (fold with_input start f.clauses) f.lines

abbrev pub verdict_of : FileView → LratVerdict
verdict_of f = verdict_at (state_of f).fault (state_of f).has_empty
