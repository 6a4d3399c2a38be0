-- The lists of names that a `randsequence` can print, without words (IEEE 1800-2017, 18.16 and 18.17).
use Rattle.std.specs.Prelude.{◌≡◌, ◌<◌, ℕ, suc, List, [], ◌∷◌, ◌++◌}
use Rattle.std.specs.List.{Contains}
use Rattle.rand_pcg.specs.Lcg.{Lcg}
use Rattle.svr_seq.specs.declared.line.SeqEnd.{SeqEnd}
use Rattle.svr_seq.specs.declared.line.SeqEnd.TheVariants.{Names, Limit}
use Rattle.svr_seq.specs.SeqTerm.{ActTerm, print, choose, BranchTerms, more_branches, PartTerm, expand, block, RuleTerm, SeqTerm}
use Rattle.svr_seq.specs.Sound.{IsSound, branch_weights}
use Rattle.svr_seq.specs.Line.{rules_of, line_of}

-- a branch of this weight with this statement is among the branches
pub data HasBranch : BranchTerms → ℕ → ActTerm → Type 0 where
  at_front : {w : ℕ} {a : ActTerm} {bs : BranchTerms} → HasBranch (more_branches w a bs) w a
  further : {v w : ℕ} {b a : ActTerm} {bs : BranchTerms} → HasBranch bs w a → HasBranch (more_branches v b bs) w a

-- `NAME ;` derives itself; a `randcase` derives what one branch of weight above 0 derives, or nothing where all weights are 0
pub data ActDerives : ActTerm → List ℕ → Type 0 where
  by_print : {name : ℕ} → ActDerives (print name) (name ∷ [])
  by_branch : {bs : BranchTerms} {names : List ℕ} (w : ℕ) (a : ActTerm) → HasBranch bs w a → 0 < w → ActDerives a names → ActDerives (choose bs) names
  by_no_branch : {bs : BranchTerms} → branch_weights bs ≡ 0 → ActDerives (choose bs) []

-- a block derives the joined lists of its statements
pub data ActsDerive : List ActTerm → List ℕ → Type 0 where
  no_acts : ActsDerive [] []
  more_acts : {a : ActTerm} {acts : List ActTerm} {first rest : List ℕ} → ActDerives a first → ActsDerive acts rest → ActsDerive (a ∷ acts) (first ++ rest)

mutual
  -- the production at a place derives what one of its rules of weight above 0 derives
  pub data Derives (s : SeqTerm) : ℕ → List ℕ → Type 0 where
    by_rule : {p : ℕ} {names : List ℕ} (r : RuleTerm) → Contains (rules_of s p) r → 0 < r.weight → PartsDerive s r.parts names → Derives s p names

  -- a rule derives the joined lists of its parts
  pub data PartsDerive (s : SeqTerm) : List PartTerm → List ℕ → Type 0 where
    no_parts : PartsDerive s [] []
    more_parts : {x : PartTerm} {xs : List PartTerm} {first rest : List ℕ} → PartDerives s x first → PartsDerive s xs rest → PartsDerive s (x ∷ xs) (first ++ rest)

  pub data PartDerives (s : SeqTerm) : PartTerm → List ℕ → Type 0 where
    by_repeat : {p n : ℕ} {names : List ℕ} → TimesDerive s n p names → PartDerives s (expand p n) names
    by_block : {acts : List ActTerm} {names : List ℕ} → ActsDerive acts names → PartDerives s (block acts) names

  -- a repeat derives so many lists of its production, joined
  pub data TimesDerive (s : SeqTerm) : ℕ → ℕ → List ℕ → Type 0 where
    never : {p : ℕ} → TimesDerive s 0 p []
    once_more : {n p : ℕ} {first rest : List ℕ} → Derives s p first → TimesDerive s n p rest → TimesDerive s (suc n) p (first ++ rest)

-- the names, if a line ends with names, are such that the start derives them
abbrev pub IsDerived : SeqTerm → SeqEnd → Type 0
IsDerived s (Names names) = Derives s s.start names
IsDerived s Limit = Unit {0}

-- that holds of the line of each sound tree, whatever the words are
abbrev pub LinesAreDerived : Type 0
LinesAreDerived = (s : SeqTerm) (words : Lcg) → IsSound s → IsDerived s (line_of s words).end
