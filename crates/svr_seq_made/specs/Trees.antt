-- What is made of the acts of a tree (IEEE 1800-2017, 18.16)
use Rattle.std.specs.Prelude.{ℕ, List, [], ◌∷◌}
use Rattle.svr_seq.specs.SeqTerm.{ActTerm, print, choose, branches_of}
use Rattle.svr_seq_text.specs.Tree.{ActTree, printed, chosen, BranchTrees, last_branch, next_branch}
use Rattle.svr_seq_made.specs.Blocks.{value_of}

abbrev mutual
  pub act_of : (ℕ → List ℕ) → ActTree → ActTerm
  act_of text (printed name) = print name
  act_of text (chosen at branches) = choose (branches_of (branch_list text branches))

  pub branch_list : (ℕ → List ℕ) → BranchTrees → List (ℕ × ActTerm)
  branch_list text (last_branch weight x) = (value_of (text weight), act_of text x) ∷ []
  branch_list text (next_branch weight x branches) = (value_of (text weight), act_of text x) ∷ branch_list text branches
