-- A `randsequence` whose names are resolved, each of whose productions can be expanded, and which is within the limits.
use Rattle.std.specs.Prelude.{◌<◌, ◌≤◌, ℕ, suc, ◌+◌, max, List, [], ◌∷◌, length}
use Rattle.std.specs.List.{All}
use Rattle.svr_seq.specs.declared.limits.TheConstants.{SEQUENCE_LIMIT, REPEAT_LIMIT, CHOICE_LIMIT}
use Rattle.svr_seq.specs.SeqTerm.{ActTerm, print, choose, BranchTerms, no_branches, more_branches, PartTerm, expand, block, RuleTerm, ProductionTerm, SeqTerm}

-- the sums of the weights of rules and of branches
abbrev pub rule_weights : List RuleTerm → ℕ
rule_weights [] = 0
rule_weights (r ∷ rs) = r.weight + rule_weights rs

abbrev pub branch_weights : BranchTerms → ℕ
branch_weights no_branches = 0
branch_weights (more_branches w a bs) = w + branch_weights bs

-- how many branches
abbrev pub branch_count : BranchTerms → ℕ
branch_count no_branches = 0
branch_count (more_branches w a bs) = suc (branch_count bs)

abbrev mutual
  -- how many `randcase`s stand inside one another
  pub depth : ActTerm → ℕ
  depth (print name) = 0
  depth (choose bs) = suc (branch_depth bs)

  pub branch_depth : BranchTerms → ℕ
  branch_depth no_branches = 0
  branch_depth (more_branches w a bs) = max (depth a) (branch_depth bs)

abbrev mutual
  -- no `randcase` has too many branches
  pub HasFewBranches : ActTerm → Type 0
  HasFewBranches (print name) = Unit {0}
  HasFewBranches (choose bs) = (branch_count bs ≤ SEQUENCE_LIMIT) × BranchesHaveFew bs

  pub BranchesHaveFew : BranchTerms → Type 0
  BranchesHaveFew no_branches = Unit {0}
  BranchesHaveFew (more_branches w a bs) = HasFewBranches a × BranchesHaveFew bs

pub record IsSoundAct (a : ActTerm) : Type 0 where
  pub shallow : depth a ≤ CHOICE_LIMIT
  pub few : HasFewBranches a

-- among so many productions: a place of one and a count, or a block
abbrev pub IsSoundPart : ℕ → PartTerm → Type 0
IsSoundPart prods (expand p n) = (p < prods) × (n ≤ REPEAT_LIMIT)
IsSoundPart prods (block acts) = (length acts ≤ SEQUENCE_LIMIT) × All IsSoundAct acts

pub record IsSoundRule (prods : ℕ) (r : RuleTerm) : Type 0 where
  pub few : length r.parts ≤ SEQUENCE_LIMIT
  pub sound : All (IsSoundPart prods) r.parts

-- some rule has a weight above 0
pub record IsSoundProduction (prods : ℕ) (x : ProductionTerm) : Type 0 where
  pub few : length x.rules ≤ SEQUENCE_LIMIT
  pub sound : All (IsSoundRule prods) x.rules
  pub weighty : 0 < rule_weights x.rules

pub record IsSound (s : SeqTerm) : Type 0 where
  pub starts : s.start < length s.prods
  pub few : length s.prods ≤ SEQUENCE_LIMIT
  pub sound : All (IsSoundProduction (length s.prods)) s.prods
