-- Texts of `randsequence` as trees, and the text that is kept of each (IEEE 1800-2017, 18.16 and 18.17). Numbers are those of tokens
use Rattle.std.specs.Prelude.{ℕ, List, [], ◌∷◌, ◌++◌, map, Option}
use Rattle.std.specs.List.{flat_map}
use Rattle.svr_seq_text.specs.declared.text.ActText.{ActText}
use Rattle.svr_seq_text.specs.declared.text.ActText.TheVariants as a
use Rattle.svr_seq_text.specs.declared.text.PartText.{PartText}
use Rattle.svr_seq_text.specs.declared.text.PartText.TheVariants as p
use Rattle.svr_seq_text.specs.declared.text.RuleText.{RuleText}
use Rattle.svr_seq_text.specs.declared.text.ProdText.{ProdText}
use Rattle.svr_seq_text.specs.declared.text.SeqText.{SeqText}

-- what a code block does: a name is printed, or one of the branches of a `randcase` is taken
mutual
  pub data ActTree : Type 0 where
    printed : (name : ℕ) → ActTree
    chosen : (at : ℕ) (branches : BranchTrees) → ActTree

  -- one branch or more, each with its weight
  pub data BranchTrees : Type 0 where
    last_branch : (weight : ℕ) (act : ActTree) → BranchTrees
    next_branch : (weight : ℕ) (act : ActTree) (branches : BranchTrees) → BranchTrees

-- a production, one that is repeated, or a code block
pub data PartTree : Type 0 where
  named : (name : ℕ) → PartTree
  repeated : (at count name : ℕ) → PartTree
  coded : (at : ℕ) (acts : List ActTree) → PartTree

-- one part or more, and the weight where it is written
pub record RuleTree : Type 0 where
  pub first : PartTree
  pub others : List PartTree
  pub weight : Option ℕ

-- a name, and one rule or more
pub record ProdTree : Type 0 where
  pub name : ℕ
  pub first : RuleTree
  pub others : List RuleTree

-- the name of the start where it is written, and one production or more
pub record SeqTree : Type 0 where
  pub start : Option ℕ
  pub first : ProdTree
  pub others : List ProdTree

-- ---- as they are kept: a block is the list of its pieces

abbrev mutual
  pub act_text : ActTree → List ActText
  act_text (printed name) = a.Print name ∷ []
  act_text (chosen at branches) = a.Choose at ∷ (branches_text branches ++ a.End ∷ [])

  pub branches_text : BranchTrees → List ActText
  branches_text (last_branch weight act) = a.Branch weight ∷ act_text act
  branches_text (next_branch weight act branches) = a.Branch weight ∷ (act_text act ++ branches_text branches)

abbrev pub acts_text : List ActTree → List ActText
acts_text acts = flat_map act_text acts

abbrev pub part_text : PartTree → PartText
part_text (named name) = p.Name name
part_text (repeated at count name) = p.Repeat at count name
part_text (coded at acts) = p.Block at (acts_text acts)

abbrev pub rule_text : RuleTree → RuleText
rule_text r = record { parts = part_text r.first ∷ map part_text r.others; weight = r.weight }

abbrev pub prod_text : ProdTree → ProdText
prod_text t = record { name = t.name; rules = rule_text t.first ∷ map rule_text t.others }

abbrev pub text_of : SeqTree → SeqText
text_of t = record { start = t.start; prods = prod_text t.first ∷ map prod_text t.others }
