-- Lines and choices that were worked out by hand.
use Rattle.std.specs.Prelude.{ℕ, suc, List, [], ◌∷◌, map, length, replicate}
pub use Rattle.svr_frame.specs.Examples.{is_so}
use Rattle.svr_frame.specs.Examples.{Example, ◌gives◌}
use Rattle.svr_draw.specs.Words.{generator}
use Rattle.svr_seq.specs.declared.line.SeqEnd.{SeqEnd}
use Rattle.svr_seq.specs.declared.line.SeqEnd.TheVariants.{Names, Limit}
use Rattle.svr_seq.specs.SeqTerm.{print, choose, no_branches, more_branches, PartTerm, expand, block, RuleTerm, ProductionTerm, SeqTerm}
use Rattle.svr_seq.specs.Line.{rule_at, line_within, line_of}

-- ---- short words

-- `{ NAME ; .. }`
abbrev pub prints : List ℕ → PartTerm
prints names = block (map print names)

abbrev pub rule : ℕ → List PartTerm → RuleTerm
rule weight parts = record { parts = parts; weight = weight }

abbrev pub production : List RuleTerm → ProductionTerm
production rules = record { name = 0; rules = rules }

-- a production with one rule
abbrev pub one_rule : List PartTerm → ProductionTerm
one_rule parts = production (rule 1 parts ∷ [])

abbrev pub seq : List ProductionTerm → SeqTerm
seq prods = record { start = 0; prods = prods }

-- names are numbered from 1
abbrev pub told : SeqEnd → List ℕ
told (Names names) = names
told Limit = 0 ∷ []

-- what the first of these productions prints in so many units
abbrev pub printed_in : ℕ → List ProductionTerm → List ℕ
printed_in units prods = told (line_within (seq prods) units (generator 42 54)).end

-- ---- lines

-- `main : first second done; first : { add; } | { dec; } := 3; second : { pop; } := 2 | { push; } := 2; done : { randcase 1 : a; 7 : b; endcase };`
abbrev pub operations : List ProductionTerm
operations =
    one_rule (expand 1 1 ∷ expand 2 1 ∷ expand 3 1 ∷ [])
    ∷ production (rule 1 (prints (1 ∷ []) ∷ []) ∷ rule 3 (prints (2 ∷ []) ∷ []) ∷ [])
    ∷ production (rule 2 (prints (3 ∷ []) ∷ []) ∷ rule 2 (prints (4 ∷ []) ∷ []) ∷ [])
    ∷ one_rule (block (choose (more_branches 1 (print 5) (more_branches 7 (print 6) no_branches)) ∷ []) ∷ [])
    ∷ []

abbrev pub lines : List Example
lines =
    -- the 54th line under the seed 42: its words are 0 modulo 4, 1 modulo 4 and 0 modulo 8
    (told (line_of (seq operations) (generator 42 54)).end gives (1 ∷ 3 ∷ 5 ∷ []))
    -- that line has four productions, a `randcase` and three names
    ∷ (printed_in 8 operations gives (1 ∷ 3 ∷ 5 ∷ []))
    ∷ (printed_in 7 operations gives (0 ∷ []))
    -- `a : a ;`
    ∷ (printed_in 9 (one_rule (expand 0 1 ∷ []) ∷ []) gives (0 ∷ []))
    -- `a : repeat (2) b { x; } repeat (0) a b; b : { y; z; };`
    ∷ (printed_in 11 (one_rule (expand 1 2 ∷ prints (1 ∷ []) ∷ expand 0 0 ∷ expand 1 1 ∷ []) ∷ one_rule (prints (2 ∷ 3 ∷ []) ∷ []) ∷ []) gives (2 ∷ 3 ∷ 2 ∷ 3 ∷ 1 ∷ 2 ∷ 3 ∷ []))
    -- `a : { randcase 0 : x; endcase y; };`
    ∷ (printed_in 3 (one_rule (block (choose (more_branches 0 (print 1) no_branches) ∷ print 2 ∷ []) ∷ []) ∷ []) gives (2 ∷ []))
    ∷ []

-- ---- choices

-- rules of these weights, the first with one part, the second with two, and so on
abbrev pub rules_with : ℕ → List ℕ → List RuleTerm
rules_with parts [] = []
rules_with parts (w ∷ ws) = rule w (replicate parts (expand 0 1)) ∷ rules_with (suc parts) ws

-- how many parts the rule of each of these numbers has
abbrev pub chosen : List ℕ → List ℕ → List ℕ
chosen weights numbers = map (λ t. length (rule_at (rules_with 1 weights) t)) numbers

abbrev pub choices : List Example
choices =
    (chosen (1 ∷ 3 ∷ []) (0 ∷ 1 ∷ 2 ∷ 3 ∷ []) gives (1 ∷ 2 ∷ 2 ∷ 2 ∷ []))
    ∷ (chosen (0 ∷ 2 ∷ 0 ∷ 3 ∷ 0 ∷ []) (0 ∷ 1 ∷ 2 ∷ 3 ∷ 4 ∷ []) gives (2 ∷ 2 ∷ 4 ∷ 4 ∷ 4 ∷ []))
    ∷ []
