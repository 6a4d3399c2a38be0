-- The words that write a text of `randsequence`: its grammar (IEEE 1800-2017, 18.16 and 18.17)
use Rattle.std.specs.Prelude.{ℕ, List, [], ◌∷◌, ◌++◌, Option, Some, None}
use Rattle.std.specs.List.{flat_map}
use Rattle.svr_seq_text.specs.declared.word.Word.{Word}
use Rattle.svr_seq_text.specs.declared.word.Word.TheVariants as w
use Rattle.svr_seq_text.specs.Tree.{ActTree, printed, chosen, BranchTrees, last_branch, next_branch, PartTree, named, repeated, coded, RuleTree, ProdTree, SeqTree}

-- NAME ";", or "randcase" DEC ":" act { DEC ":" act } "endcase"
abbrev mutual
  pub act_words : ActTree → List Word
  act_words (printed name) = w.Name name ∷ (w.Semicolon ∷ [])
  act_words (chosen at branches) = w.RandCase at ∷ (branches_words branches ++ w.EndCase ∷ [])

  pub branches_words : BranchTrees → List Word
  branches_words (last_branch weight act) = w.Decimal weight ∷ (w.Colon ∷ act_words act)
  branches_words (next_branch weight act branches) = w.Decimal weight ∷ (w.Colon ∷ (act_words act ++ branches_words branches))

abbrev pub acts_words : List ActTree → List Word
acts_words acts = flat_map act_words acts

-- NAME, "repeat" "(" DEC ")" NAME, or "{" { act } "}"
abbrev pub part_words : PartTree → List Word
part_words (named name) = w.Name name ∷ []
part_words (repeated at count name) = w.Repeat at ∷ (w.OpenParen ∷ (w.Decimal count ∷ (w.CloseParen ∷ (w.Name name ∷ []))))
part_words (coded at acts) = w.OpenBrace at ∷ (acts_words acts ++ w.CloseBrace ∷ [])

abbrev pub weight_words : Option ℕ → List Word
weight_words None = []
weight_words (Some weight) = w.ColonEqual ∷ (w.Decimal weight ∷ [])

-- part { part } [ ":=" DEC ]
abbrev pub rule_words : RuleTree → List Word
rule_words r = part_words r.first ++ (flat_map part_words r.others ++ weight_words r.weight)

abbrev pub other_rule : RuleTree → List Word
other_rule r = w.Bar ∷ rule_words r

-- NAME ":" rule { "|" rule } ";"
abbrev pub prod_words : ProdTree → List Word
prod_words t = w.Name t.name ∷ (w.Colon ∷ (rule_words t.first ++ (flat_map other_rule t.others ++ w.Semicolon ∷ [])))

abbrev pub start_words : Option ℕ → List Word
start_words None = []
start_words (Some name) = w.Name name ∷ []

-- "randsequence" "(" [ NAME ] ")" prod { prod } "endsequence", up to the end of the text
abbrev pub seq_words : SeqTree → List Word
seq_words t =
    w.RandSequence ∷ (w.OpenParen ∷ (start_words t.start ++ (w.CloseParen ∷ (prod_words t.first ++ (flat_map prod_words t.others ++ w.EndSequence ∷ (w.End ∷ []))))))
