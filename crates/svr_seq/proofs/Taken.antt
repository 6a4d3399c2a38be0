-- The rule, and the branch, in whose weights a number falls: it is one of them, and its weight is above 0.
use Rattle.std.proofs.Common.{◌≡◌, ◌<◌, ℕ, suc, ◌-◌, ◌%◌, ◌≤◌, refl, List, [], ◌∷◌, Bool, true, false, Option, Some, arith}
use Rattle.std.specs.Prelude.{nat_lt, if◌then◌else◌}
use Rattle.std.specs.List.{Contains}
use Rattle.std.proofs.lemmas.Bool.{ltb-true, ltb-false}
use Rattle.svr_seq.specs.SeqTerm.{ActTerm, BranchTerms, no_branches, more_branches, PartTerm, RuleTerm}
use Rattle.svr_seq.specs.Sound.{rule_weights, branch_weights}
use Rattle.svr_seq.specs.Line.{rule_at, branch_at, has_choice, rule_under}
use Rattle.svr_seq.specs.Derives.{HasBranch, at_front, further}

-- these are the parts of one of the rules
pub record TakesRule (rules : List RuleTerm) (parts : List PartTerm) : Type 0 where
  pub rule : RuleTerm
  pub among : Contains rules rule
  pub weighty : 0 < rule.weight
  pub has : rule.parts ≡ parts

pub record TakesBranch (branches : BranchTerms) (taken : Option ActTerm) : Type 0 where
  pub weight : ℕ
  pub act : ActTerm
  pub among : HasBranch branches weight act
  pub weighty : 0 < weight
  pub has : taken ≡ Some act

rule_behind : (q : RuleTerm) (rules : List RuleTerm) (parts : List PartTerm) → TakesRule rules parts → TakesRule (q ∷ rules) parts
rule_behind q rules parts h = record {
  rule = h.rule;
  among = (suc h.among.0, omega (arith, h.among.1), h.among.2);
  weighty = h.weighty;
  has = h.has;
}

branch_behind : (v : ℕ) (b : ActTerm) (bs : BranchTerms) (taken : Option ActTerm) → TakesBranch bs taken → TakesBranch (more_branches v b bs) taken
branch_behind v b bs taken h = record { weight = h.weight; act = h.act; among = further h.among; weighty = h.weighty; has = h.has }

pub rule_taken : (rules : List RuleTerm) (t : ℕ) → t < rule_weights rules → TakesRule rules (rule_at rules t)
rule_taken [] t h = absurd (omega (arith, h))
rule_taken (r ∷ rs) t h = by (nat_lt t r.weight) refl (λ less. rule_taken rs (t - r.weight) less)
  where
    by : (b : Bool) → nat_lt t r.weight ≡ b → (t - r.weight < rule_weights rs → TakesRule rs (rule_at rs (t - r.weight))) → TakesRule (r ∷ rs) (if b then r.parts else rule_at rs (t - r.weight))
    by true e later =
        let under : t < r.weight = ltb-true t r.weight e in
        record { rule = r; among = (0, omega arith, refl); weighty = omega arith; has = refl }
    by false e later =
        let above : r.weight ≤ t = ltb-false t r.weight e in
        rule_behind r rs (rule_at rs (t - r.weight)) (later (omega (arith, h)))

pub branch_taken : (branches : BranchTerms) (t : ℕ) → t < branch_weights branches → TakesBranch branches (branch_at branches t)
branch_taken no_branches t h = absurd (omega (arith, h))
branch_taken (more_branches w a bs) t h = by (nat_lt t w) refl (λ less. branch_taken bs (t - w) less)
  where
    by : (b : Bool) → nat_lt t w ≡ b → (t - w < branch_weights bs → TakesBranch bs (branch_at bs (t - w))) → TakesBranch (more_branches w a bs) (if b then Some a else branch_at bs (t - w))
    by true e later =
        let under : t < w = ltb-true t w e in
        record { weight = w; act = a; among = at_front; weighty = omega arith; has = refl }
    by false e later =
        let above : w ≤ t = ltb-false t w e in
        branch_behind w a bs (branch_at bs (t - w)) (later (omega (arith, h)))

-- the rule that a production takes
pub rule_chosen : (rules : List RuleTerm) (word : ℕ) → 0 < rule_weights rules → TakesRule rules (rule_under word rules)
rule_chosen rules word h = by (has_choice rules)
  where
    by : (b : Bool) → TakesRule rules (rule_at rules (if b then word % rule_weights rules else 0))
    by true = rule_taken rules (word % rule_weights rules) (omega (arith, h))
    by false = rule_taken rules 0 h
