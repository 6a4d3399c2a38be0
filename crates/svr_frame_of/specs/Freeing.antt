-- Whether items make a size free, where the frame marks one size (IEEE 1800-2017, 18.4 and 18.5).
use Rattle.std.specs.Prelude.{◌==◌, ℕ, zero, suc, ◌+◌, Bool, true, false, not, ◌&&◌, ◌||◌, if◌then◌else◌, List, Option, None, Some, map, slice_index}
use Rattle.std.specs.List.{range_with_len}
use Rattle.svr_typed.specs.ExprTerm.{ExprTerm, ExprTerms, no_exprs, more_exprs}
use Rattle.svr_typed.specs.ItemTerm.{DistTerm, ItemTerm, plain, unique, implies, branch, foreach, disable, solve, ItemTerms, no_items, more_items, ElseTerm, no_else, else_items}
use Rattle.svr_eval.specs.Value.{property_of}
use Rattle.svr_frame.specs.declared.sought.Sought.{Sought}
use Rattle.svr_frame.specs.declared.sought.Sought.TheVariants.{RandomElement, FreeSize}
use Rattle.svr_frame.specs.Frame.{FrameTerm, is_array, state_sizes}
use Rattle.svr_frame.specs.Finds.{finds, finds_in_members}
use Rattle.svr_frame_of.specs.declared.leaves.Leaves.{Leaves}

-- numbers that are not 0, and that are more than 1
abbrev pub has_one : ℕ → Bool
has_one zero = false
has_one (suc n) = true

abbrev pub has_two : ℕ → Bool
has_two zero = false
has_two (suc n) = has_one n

-- the one size that is looked for, of so many properties
abbrev pub mark : ℕ → ℕ → List Bool
mark n p = map (λ q. q == p) (range_with_len 0 n)

abbrev pub no_leaves : Leaves
no_leaves = record { any = false; sized = false }

abbrev pub both : Leaves → Leaves → Leaves
both x y = record { any = x.any || y.any; sized = x.sized || y.sized }

module _ (f : FrameTerm) where
  abbrev pub dist_finds : Sought → Option (List DistTerm) → Bool
  dist_finds s None = false
  dist_finds s (Some ds) = finds_in_members f s ds

  abbrev pub plain_leaves : ExprTerm → Option (List DistTerm) → Leaves
  plain_leaves e dist = if finds f RandomElement e || dist_finds RandomElement dist then no_leaves else record { any = true; sized = finds f FreeSize e || dist_finds FreeSize dist }

  abbrev pub tested : ExprTerm → Leaves → Leaves
  tested t x = if finds f RandomElement t then no_leaves else record { any = x.any; sized = x.sized || (x.any && finds f FreeSize t) }

  -- ---- the members of `unique` (18.5.5)

  abbrev pub stands_for : Option ℕ → ℕ
  stands_for None = 1
  stands_for (Some p) = if is_array f p then slice_index (state_sizes f) p else 1

  abbrev pub fit_operands : ExprTerm → ℕ
  fit_operands e = if finds f RandomElement e then 0 else stands_for (property_of e)

  abbrev pub all_operands : ExprTerms → ℕ
  all_operands no_exprs = 0
  all_operands (more_exprs e es) = fit_operands e + all_operands es

  abbrev pub is_sized : ExprTerm → Bool
  is_sized e = not (finds f RandomElement e) && finds f FreeSize e

  abbrev pub any_sized : ExprTerms → Bool
  any_sized no_exprs = false
  any_sized (more_exprs e es) = is_sized e || any_sized es

  abbrev pub pair_leaves : ExprTerms → Leaves
  pair_leaves es = if has_two (all_operands es) then record { any = true; sized = any_sized es } else no_leaves

  -- ---- items

  abbrev mutual
    pub leaves : ItemTerm → Leaves
    leaves (plain soft e dist) = plain_leaves e dist
    leaves (unique es) = pair_leaves es
    leaves (implies t body) = tested t (all_leaves body)
    leaves (branch t met unmet) = with_else t (tested t (all_leaves met)) unmet
    leaves (foreach p m names body) = no_leaves
    leaves (disable target) = no_leaves
    leaves (solve first later) = no_leaves

    pub all_leaves : ItemTerms → Leaves
    all_leaves no_items = no_leaves
    all_leaves (more_items i is) = both (leaves i) (all_leaves is)

    pub with_else : ExprTerm → Leaves → ElseTerm → Leaves
    with_else t met no_else = met
    with_else t met (else_items is) = both met (tested t (all_leaves is))
