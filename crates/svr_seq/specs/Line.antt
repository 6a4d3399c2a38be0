-- The line that a `randsequence` prints under the words of a seed (IEEE 1800-2017, 18.16 and 18.17): a machine over what is still to do, each of whose steps takes one unit.
use Rattle.std.specs.Prelude.{◌==◌, ℕ, zero, suc, ◌-◌, ◌%◌, Bool, true, false, nat_lt, if◌then◌else◌, List, [], ◌∷◌, ◌++◌, map, replicate, slice_index_or, Option, Some, None}
use Rattle.std.specs.Option.{option_to_list}
use Rattle.std.specs.List.{flat_map}
use Rattle.rand_pcg.specs.Lcg.{Lcg}
use Rattle.svr_draw.specs.Words.{word_of, after}
use Rattle.svr_seq.specs.declared.limits.TheConstants.{UNIT_LIMIT}
use Rattle.svr_seq.specs.declared.line.SeqEnd.{SeqEnd}
use Rattle.svr_seq.specs.declared.line.SeqEnd.TheVariants.{Names, Limit}
use Rattle.svr_seq.specs.SeqTerm.{ActTerm, print, choose, BranchTerms, no_branches, more_branches, PartTerm, expand, block, RuleTerm, SeqTerm}
use Rattle.svr_seq.specs.Sound.{rule_weights, branch_weights}

-- ---- choices by weight

-- the parts of the rule in whose weights a number falls, counted in the written order
abbrev pub rule_at : List RuleTerm → ℕ → List PartTerm
rule_at [] t = []
rule_at (r ∷ rs) t = if nat_lt t r.weight then r.parts else rule_at rs (t - r.weight)

-- the statement of such a branch
abbrev pub branch_at : BranchTerms → ℕ → Option ActTerm
branch_at no_branches t = None
branch_at (more_branches w a bs) t = if nat_lt t w then Some a else branch_at bs (t - w)

-- two or more rules take one word, a single one takes none
abbrev pub has_choice : List RuleTerm → Bool
has_choice [] = false
has_choice (r ∷ []) = false
has_choice (r ∷ q ∷ rs) = true

abbrev pub rule_words : List RuleTerm → ℕ
rule_words rs = if has_choice rs then 1 else 0

abbrev pub rule_under : ℕ → List RuleTerm → List PartTerm
rule_under word rs = rule_at rs (if has_choice rs then word % rule_weights rs else 0)

-- where all weights are 0, a `randcase` takes no word and no branch
abbrev pub branch_words : BranchTerms → ℕ
branch_words bs = if branch_weights bs == 0 then 0 else 1

abbrev pub branch_under : ℕ → BranchTerms → Option ActTerm
branch_under word bs = if branch_weights bs == 0 then None else branch_at bs (word % branch_weights bs)

-- ---- tasks

-- to expand the production at a place, or to perform a statement
pub data Task : Type 0 where
  expansion : ℕ → Task
  statement : ActTerm → Task

-- what there is to do for a part: a repeat is its count of expansions
abbrev pub part_tasks : PartTerm → List Task
part_tasks (expand p n) = replicate n (expansion p)
part_tasks (block acts) = map statement acts

-- for parts, from left to right
abbrev pub parts_tasks : List PartTerm → List Task
parts_tasks ps = flat_map part_tasks ps

-- the rules of the production at a place
abbrev pub rules_of : SeqTerm → ℕ → List RuleTerm
rules_of s p = (slice_index_or s.prods p (record { name = 0; rules = [] })).rules

-- the names that a task prints
abbrev pub printed : Task → List ℕ
printed (expansion p) = []
printed (statement (print name)) = name ∷ []
printed (statement (choose bs)) = []

module _ (s : SeqTerm) where
  -- how many words it takes
  abbrev pub words_for : Task → ℕ
  words_for (expansion p) = rule_words (rules_of s p)
  words_for (statement (print name)) = 0
  words_for (statement (choose bs)) = branch_words bs

  -- what there is to do in its place, under this word
  abbrev pub tasks_under : ℕ → Task → List Task
  tasks_under word (expansion p) = parts_tasks (rule_under word (rules_of s p))
  tasks_under word (statement (print name)) = []
  tasks_under word (statement (choose bs)) = map statement (option_to_list (branch_under word bs))

-- ---- the machine

-- the names of a line, or that it needs too many units; and the words behind those that it took
pub record Line : Type 0 where
  pub end : SeqEnd
  pub words : Lcg

module _ (s : SeqTerm) where
  -- with so many units left: from what is still to do, the names so far, and the words
  unfoldable pub line_from : ℕ → List Task → List ℕ → Lcg → Line
  line_from units [] names g = record { end = Names names; words = g }
  line_from zero (t ∷ ts) names g = record { end = Limit; words = g }
  line_from (suc units) (t ∷ ts) names g = line_from units (tasks_under s (word_of g 0) t ++ ts) (names ++ printed t) (after (words_for s t) g)

  -- the start is expanded first
  abbrev pub line_within : ℕ → Lcg → Line
  line_within units g = line_from units (expansion s.start ∷ []) [] g

  -- a line has so many units as its limit says
  abbrev pub line_of : Lcg → Line
  line_of g = line_within UNIT_LIMIT g
