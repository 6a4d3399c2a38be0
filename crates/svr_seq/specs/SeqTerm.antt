-- The tree of a `randsequence` as plain data, and the one that a `Seq` stands for (IEEE 1800-2017, 18.16 and 18.17).
use Rattle.std.specs.Prelude.{ℕ, List, [], ◌∷◌, map}
use Rattle.svr_seq.specs.declared.tree.Seq.{Seq}
use Rattle.svr_seq.specs.declared.tree.Production.{Production}
use Rattle.svr_seq.specs.declared.tree.Rule.{Rule}
use Rattle.svr_seq.specs.declared.tree.Part.{Part}
use Rattle.svr_seq.specs.declared.tree.Part.TheVariants as p
use Rattle.svr_seq.specs.declared.tree.Act.{Act}
use Rattle.svr_seq.specs.declared.tree.Branch.{Branch}
use Rattle.svr_seq.specs.declared.tree.Act.TheOpen.{Act-F, Branch-F}
use Rattle.svr_seq.specs.declared.tree.Act.TheFolds.{fold-Act, fold-Branch}

mutual
  pub data ActTerm : Type 0 where
    -- the number of the token of the printed name
    print : ℕ → ActTerm
    choose : BranchTerms → ActTerm

  -- weight, statement, and the branches behind
  pub data BranchTerms : Type 0 where
    no_branches : BranchTerms
    more_branches : ℕ → ActTerm → BranchTerms → BranchTerms

pub data PartTerm : Type 0 where
  -- the place of a production, and how many times
  expand : ℕ → ℕ → PartTerm
  block : List ActTerm → PartTerm

pub record RuleTerm : Type 0 where
  pub parts : List PartTerm
  pub weight : ℕ

pub record ProductionTerm : Type 0 where
  pub name : ℕ
  pub rules : List RuleTerm

pub record SeqTerm : Type 0 where
  pub start : ℕ
  pub prods : List ProductionTerm

abbrev pub branches_of : List (ℕ × ActTerm) → BranchTerms
branches_of [] = no_branches
branches_of (b ∷ bs) = more_branches b.0 b.1 (branches_of bs)

abbrev pub act_step : Act-F ActTerm (ℕ × ActTerm) → ActTerm
act_step (Act-F.Print name) = print name
act_step (Act-F.Choose branches) = choose (branches_of branches)

abbrev pub branch_step : Branch-F ActTerm (ℕ × ActTerm) → ℕ × ActTerm
branch_step b = (b.weight, b.act)

-- what each part of a tree stands for
abbrev pub act_term : Act → ActTerm
act_term = fold-Act ActTerm (ℕ × ActTerm) act_step branch_step

abbrev pub branch_term : Branch → ℕ × ActTerm
branch_term = fold-Branch ActTerm (ℕ × ActTerm) act_step branch_step

abbrev pub act_terms : List Act → List ActTerm
act_terms acts = map act_term acts

abbrev pub branch_terms : List Branch → BranchTerms
branch_terms branches = branches_of (map branch_term branches)

abbrev pub part_term : Part → PartTerm
part_term (p.Expand prod times) = expand prod times
part_term (p.Block acts) = block (act_terms acts)

abbrev pub part_terms : List Part → List PartTerm
part_terms parts = map part_term parts

abbrev pub rule_term : Rule → RuleTerm
rule_term r = record { parts = part_terms r.parts; weight = r.weight }

abbrev pub rule_terms : List Rule → List RuleTerm
rule_terms rules = map rule_term rules

abbrev pub production_term : Production → ProductionTerm
production_term x = record { name = x.name; rules = rule_terms x.rules }

abbrev pub seq_term : Seq → SeqTerm
seq_term s = record { start = s.start; prods = map production_term s.prods }
