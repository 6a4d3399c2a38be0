-- Whether a constraint item holds (IEEE 1800-2017, 18.5).
use Rattle.std.specs.Prelude.{◌≡◌, ◌==◌, ℕ, zero, suc, ◌+◌, ◌/◌, ◌≤◌, Bool, true, false, not, ◌&&◌, ◌||◌, if◌then◌else◌, List, [], ◌∷◌, ◌++◌, Option, None, Some, ⊤, ◌⊎◌}
use Rattle.std.specs.List.{list_any}
use Rattle.svr_limits.specs.declared.limit.TheConstants.{LOOP_LIMIT}
use Rattle.svr_operator.specs.declared.Share.{Share}
use Rattle.svr_typed.specs.ExprTerm.{ExprTerm, ExprTerms, no_exprs, more_exprs}
use Rattle.svr_typed.specs.ItemTerm.{DistTerm, ItemTerm, plain, unique, implies, branch, foreach, disable, solve, ItemTerms, no_items, more_items, ElseTerm, no_else, else_items}
use Rattle.svr_eval.specs.Reading.{Reading}
use Rattle.svr_eval.specs.Value.{Operand, element_operand, are_equal, is_set, alone, property_of, operand_of, fits}
use Rattle.svr_eval.specs.Typed.{IsTyped, AreTyped, RangeIsTyped, CanRead, AllCanRead, RangeCanRead}

-- whether each number below n is one
abbrev pub all_below : ℕ → (ℕ → Bool) → Bool
all_below zero f = true
all_below (suc n) f = all_below n f && f n

-- A second loop variable runs over the second dimension, inside the first one's loop (18.5.8.1).
abbrev pub each_in_row : ℕ → ℕ → (List ℕ → Bool) → List ℕ → Bool
each_in_row m names is_one env = if names == 2 then all_below m (λ j. is_one (env ++ j ∷ [])) else is_one env

-- no two of them are equal
abbrev pub are_distinct : List Operand → Bool
are_distinct [] = true
are_distinct (x ∷ xs) = not (list_any (are_equal x) xs) && are_distinct xs

module _ (a : Reading) where
  -- so many elements of an array, from one on
  abbrev pub elements_from : ℕ → ℕ → Bool → ℕ → ℕ → List Operand
  elements_from p w s i zero = []
  elements_from p w s i (suc n) = element_operand a p w s i ∷ elements_from p w s (suc i) n

  -- a member that is a property stands for its elements, of which a scalar has one
  abbrev pub member_operands : Option ℕ → Operand → List Operand
  member_operands None x = x ∷ []
  member_operands (Some p) x = elements_from p x.size x.sign 0 (a.size p)

  abbrev pub operands : List ℕ → ExprTerms → List Operand
  operands env no_exprs = []
  operands env (more_exprs e es) = member_operands (property_of e) (operand_of a env e) ++ operands env es

  -- a weight that is not 0; where none is written it is 1 (18.5.4)
  abbrev pub has_weight : List ℕ → Option (Share × ExprTerm) → Bool
  has_weight env None = true
  has_weight env (Some w) = is_set (alone a env w.1)

  -- inside the ranges whose weight is not 0 (18.5.4)
  abbrev pub is_dealt : List ℕ → ExprTerm → List DistTerm → Bool
  is_dealt env e [] = false
  is_dealt env e (d ∷ ds) = (has_weight env d.weight && fits a env (operand_of a env e) d.range) || is_dealt env e ds

  abbrev pub is_met : List ℕ → ExprTerm → Option (List DistTerm) → Bool
  is_met env e None = is_set (alone a env e)
  is_met env e (Some ds) = is_dealt env e ds

  -- soft items, `disable soft` and `solve` ask nothing of the values by themselves
  abbrev mutual
    pub holds : List ℕ → ItemTerm → Bool
    holds env (plain soft e dist) = soft || is_met env e dist
    holds env (unique members) = are_distinct (operands env members)
    holds env (implies t body) = not (is_set (alone a env t)) || all_hold env body
    holds env (branch t met unmet) = if is_set (alone a env t) then all_hold env met else else_holds env unmet
    holds env (foreach p m names body) = all_below (a.size p / m) (λ i. each_in_row m names (λ indexes. all_hold indexes body) (env ++ i ∷ []))
    holds env (disable target) = true
    holds env (solve first later) = true

    pub all_hold : List ℕ → ItemTerms → Bool
    all_hold env no_items = true
    all_hold env (more_items i is) = holds env i && all_hold env is

    pub else_holds : List ℕ → ElseTerm → Bool
    else_holds env no_else = true
    else_holds env (else_items is) = all_hold env is

-- ---- items whose expressions are typed

abbrev pub WeightIsTyped : Option (Share × ExprTerm) → Type 0
WeightIsTyped None = ⊤
WeightIsTyped (Some w) = IsTyped w.1

abbrev pub MembersAreTyped : List DistTerm → Type 0
MembersAreTyped [] = ⊤
MembersAreTyped (d ∷ ds) = RangeIsTyped d.range × WeightIsTyped d.weight × MembersAreTyped ds

abbrev pub DistIsTyped : Option (List DistTerm) → Type 0
DistIsTyped None = ⊤
DistIsTyped (Some ds) = MembersAreTyped ds

abbrev mutual
  pub ItemIsTyped : ItemTerm → Type 0
  ItemIsTyped (plain soft e dist) = IsTyped e × DistIsTyped dist
  ItemIsTyped (unique members) = AreTyped members
  ItemIsTyped (implies t body) = IsTyped t × ItemsAreTyped body
  ItemIsTyped (branch t met unmet) = IsTyped t × ItemsAreTyped met × ElseIsTyped unmet
  ItemIsTyped (foreach p m names body) = (1 ≤ m) × ((names ≡ 1) ⊎ (names ≡ 2)) × ItemsAreTyped body
  ItemIsTyped (disable target) = IsTyped target
  ItemIsTyped (solve first later) = AreTyped first × AreTyped later

  pub ItemsAreTyped : ItemTerms → Type 0
  ItemsAreTyped no_items = ⊤
  ItemsAreTyped (more_items i is) = ItemIsTyped i × ItemsAreTyped is

  pub ElseIsTyped : ElseTerm → Type 0
  ElseIsTyped no_else = ⊤
  ElseIsTyped (else_items is) = ItemsAreTyped is

-- ---- what an assignment has for an item fits it, and so many loops stand around it

module _ (a : Reading) where
  abbrev pub WeightCanRead : ℕ → Option (Share × ExprTerm) → Type 0
  WeightCanRead depth None = ⊤
  WeightCanRead depth (Some w) = CanRead a depth w.1

  abbrev pub MembersCanRead : ℕ → List DistTerm → Type 0
  MembersCanRead depth [] = ⊤
  MembersCanRead depth (d ∷ ds) = RangeCanRead a depth d.range × WeightCanRead depth d.weight × MembersCanRead depth ds

  abbrev pub DistCanRead : ℕ → Option (List DistTerm) → Type 0
  DistCanRead depth None = ⊤
  DistCanRead depth (Some ds) = MembersCanRead depth ds

  -- loops nest within their limit
  abbrev mutual
    pub ItemCanRead : ℕ → ItemTerm → Type 0
    ItemCanRead depth (plain soft e dist) = CanRead a depth e × DistCanRead depth dist
    ItemCanRead depth (unique members) = AllCanRead a depth members
    ItemCanRead depth (implies t body) = CanRead a depth t × ItemsCanRead depth body
    ItemCanRead depth (branch t met unmet) = CanRead a depth t × ItemsCanRead depth met × ElseCanRead depth unmet
    ItemCanRead depth (foreach p m names body) = (depth + names ≤ LOOP_LIMIT) × ItemsCanRead (depth + names) body
    ItemCanRead depth (disable target) = ⊤
    ItemCanRead depth (solve first later) = ⊤

    pub ItemsCanRead : ℕ → ItemTerms → Type 0
    ItemsCanRead depth no_items = ⊤
    ItemsCanRead depth (more_items i is) = ItemCanRead depth i × ItemsCanRead depth is

    pub ElseCanRead : ℕ → ElseTerm → Type 0
    ElseCanRead depth no_else = ⊤
    ElseCanRead depth (else_items is) = ItemsCanRead depth is
