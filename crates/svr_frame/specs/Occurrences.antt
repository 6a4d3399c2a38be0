-- The occurrences of items: each leaf once for each choice of the indexes of its loops, with the tests around it (IEEE 1800-2017, 18.5).
use Rattle.std.specs.Prelude.{◌==◌, ℕ, zero, suc, ◌/◌, Bool, true, false, not, ◌&&◌, ◌||◌, if◌then◌else◌, List, [], ◌∷◌, ◌++◌, Option, None, Some, map, filter}
use Rattle.std.specs.List.{list_all}
use Rattle.svr_operator.specs.declared.UnOp.TheVariants as un
use Rattle.svr_operator.specs.declared.BinOp.{BinOp}
use Rattle.svr_operator.specs.declared.BinOp.TheVariants as bin
use Rattle.svr_typed.specs.ExprTerm.{ExprTerm, typed, number, element, unary, binary, inside, ExprTerms, no_exprs, more_exprs, RangeTerm, ranges_of}
use Rattle.svr_typed.specs.ItemTerm.{DistTerm, ItemTerm, plain, unique, implies, branch, foreach, disable, solve, ItemTerms, no_items, more_items, ElseTerm, no_else, else_items}
use Rattle.svr_eval.specs.Reading.{Reading}
use Rattle.svr_eval.specs.Value.{alone, is_set, size_of, sign_of, property_of}
use Rattle.svr_eval.specs.Holds.{is_dealt, has_weight}
use Rattle.svr_frame.specs.Closed.{index_number, closed, closed_range}

-- a test around a leaf, with the indexes of the loops around the test itself
pub record Guard : Type 0 where
  pub test : ExprTerm
  pub wanted : Bool
  pub env : List ℕ

-- what stands around a leaf: its tests, the innermost first; the index of each of its loops, the innermost last; the arrays of these loops
pub record Place : Type 0 where
  pub guards : List Guard
  pub env : List ℕ
  pub over : List ℕ

-- what a leaf states: an expression; that an expression is one of a distribution; or that soft items on a target are not looked at
pub data Fact : Type 0 where
  stated : ExprTerm → Fact
  dealt : ExprTerm → List DistTerm → Fact
  disabled : ExprTerm → Fact

pub record Occurrence : Type 0 where
  pub place : Place
  pub soft : Bool
  pub fact : Fact

-- which properties are arrays, how many elements they have, and which can be random in some call
pub record Shape : Type 0 where
  pub is_array : ℕ → Bool
  pub size : ℕ → ℕ
  pub can : ℕ → Bool

-- ---- places

abbrev pub outside : Place
outside = record { guards = []; env = []; over = [] }

-- under a test
abbrev pub under : ExprTerm → Bool → Place → Place
under t wanted at = record { guards = record { test = t; wanted = wanted; env = at.env } ∷ at.guards; env = at.env; over = at.over }

-- in a loop over an array, at an index
abbrev pub within : ℕ → ℕ → Place → Place
within p i at = record { guards = at.guards; env = at.env ++ i ∷ []; over = at.over ++ p ∷ [] }

abbrev pub has_index : List ℕ → Bool
has_index [] = false
has_index (i ∷ is) = true

abbrev pub stands_in_loop : Place → Bool
stands_in_loop at = has_index at.env

-- ---- the members of `unique` (18.5.5)

abbrev pub elements_from : ℕ → ℕ → Bool → ℕ → ℕ → List ExprTerm
elements_from p w s i zero = []
elements_from p w s i (suc n) = typed w s (element p (index_number i)) ∷ elements_from p w s (suc i) n

abbrev pub member_exprs : Shape → ExprTerm → Option ℕ → List ExprTerm
member_exprs sh e None = e ∷ []
member_exprs sh e (Some p) = if sh.is_array p then elements_from p (size_of e) (sign_of e) 0 (sh.size p) else e ∷ []

-- an array stands for its elements
abbrev pub members : Shape → ExprTerms → List ExprTerm
members sh no_exprs = []
members sh (more_exprs e es) = member_exprs sh e (property_of e) ++ members sh es

abbrev pub unequal : ExprTerm → ExprTerm → ExprTerm
unequal x y = typed 1 false (binary bin.NotEqual x y)

-- each two of them, in the order of the first and then of the second
abbrev pub pairs : List ExprTerm → List ExprTerm
pairs [] = []
pairs (x ∷ xs) = map (unequal x) xs ++ pairs xs

-- ---- occurrences, in the order of the text

-- the lists for 0, 1 and so on below n, joined
abbrev pub each_below : {A : Type 0} → ℕ → (ℕ → List A) → List A
each_below zero f = []
each_below (suc n) f = each_below n f ++ f n

abbrev pub fact_of : ExprTerm → Option (List DistTerm) → Fact
fact_of e None = stated e
fact_of e (Some ds) = dealt e ds

abbrev pub occurrence : Place → Bool → Fact → Occurrence
occurrence at soft fact = record { place = at; soft = soft; fact = fact }

-- a second loop variable runs over the elements of a row, inside the first one's loop (18.5.8.1)
abbrev pub each_of_row : ℕ → ℕ → ℕ → (Place → List Occurrence) → Place → List Occurrence
each_of_row p m names f at = if names == 2 then each_below m (λ j. f (within p j at)) else f at

module _ (sh : Shape) where
  abbrev mutual
    pub occur : Place → ItemTerm → List Occurrence
    occur at (plain soft e dist) = occurrence at soft (fact_of e dist) ∷ []
    occur at (unique es) = map (λ e. occurrence at false (stated e)) (pairs (members sh es))
    occur at (implies t body) = all_occur (under t true at) body
    occur at (branch t met unmet) = all_occur (under t true at) met ++ else_occur (under t false at) unmet
    occur at (foreach p m names body) = each_below (sh.size p / m) (λ i. each_of_row p m names (λ inner. all_occur inner body) (within p i at))
    occur at (disable target) = occurrence at false (disabled target) ∷ []
    occur at (solve first later) = []

    pub all_occur : Place → ItemTerms → List Occurrence
    all_occur at no_items = []
    all_occur at (more_items i is) = occur at i ++ all_occur at is

    pub else_occur : Place → ElseTerm → List Occurrence
    else_occur at no_else = []
    else_occur at (else_items is) = all_occur at is

  abbrev pub occurrences : ItemTerms → List Occurrence
  occurrences is = all_occur outside is

-- ---- truth

abbrev pub is_met : Reading → Guard → Bool
is_met a g = if g.wanted then is_set (alone a g.env g.test) else not (is_set (alone a g.env g.test))

abbrev pub are_met : Reading → List Guard → Bool
are_met a gs = list_all (is_met a) gs

abbrev pub is_fact : Reading → List ℕ → Fact → Bool
is_fact a env (stated e) = is_set (alone a env e)
is_fact a env (dealt e ds) = is_dealt a env e ds
is_fact a env (disabled target) = true

-- some test around it is false, or what it states is so; a soft one is read as its expression
abbrev pub is_true : Reading → Occurrence → Bool
is_true a o = not (are_met a o.place.guards) || is_fact a o.place.env o.fact

abbrev pub all_true : Reading → List Occurrence → Bool
all_true a os = list_all (is_true a) os

abbrev pub is_disable : Fact → Bool
is_disable (stated e) = false
is_disable (dealt e ds) = false
is_disable (disabled target) = true

abbrev pub is_hard : Occurrence → Bool
is_hard o = not o.soft && not (is_disable o.fact)

-- ---- closed expressions, which have no loop variables

abbrev pub guard_expr : Guard → ExprTerm
guard_expr g = if g.wanted then closed g.env g.test else typed 1 false (unary un.LogicalNot (closed g.env g.test))

abbrev pub and_also : Option ExprTerm → ExprTerm → ExprTerm
and_also None x = x
and_also (Some c) x = typed 1 false (binary bin.LogicalAnd c x)

-- `g1 && .. && gk`
abbrev pub condition : List Guard → Option ExprTerm
condition [] = None
condition (g ∷ gs) = Some (and_also (condition gs) (guard_expr g))

abbrev pub guarded : Option ExprTerm → ExprTerm → ExprTerm
guarded None x = x
guarded (Some c) x = typed 1 false (binary bin.Implies c x)

abbrev pub closed_members : List ℕ → List DistTerm → List RangeTerm
closed_members env ds = map (λ (d : DistTerm). closed_range env 0 d.range) ds

-- a distribution is set membership (18.5.4), in those of its members that pass a test
abbrev pub fact_expr : (List ℕ → DistTerm → Bool) → List ℕ → Fact → ExprTerm
fact_expr counts env (stated e) = closed env e
fact_expr counts env (dealt e ds) = typed 1 false (inside (closed env e) (ranges_of (closed_members env (filter (counts env) ds))))
fact_expr counts env (disabled target) = typed 1 false (number 1 false)

-- the members whose weight is not 0, as these numbers have it
abbrev pub are_weighed : Reading → List ℕ → DistTerm → Bool
are_weighed a env d = has_weight a env d.weight

-- `g1 && .. && gk -> e`, or e where there is no test
abbrev pub closed_of : Reading → Occurrence → ExprTerm
closed_of state o = guarded (condition o.place.guards) (fact_expr (are_weighed state) o.place.env o.fact)
