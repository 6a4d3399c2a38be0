-- Whether an expression mentions an element of an array, where all sizes and all numbers of indexes are known, by recursion on the expression.
use Rattle.std.specs.Prelude.{◌==◌, ℕ, zero, suc, pos, Bool, false, ◌&&◌, ◌||◌, List, [], ◌∷◌, ◌++◌}
use Rattle.svr_typed.specs.declared.class.Prop.{Prop}
use Rattle.svr_typed.specs.ExprTerm.{ExprTerm, typed, NodeTerm, number, prop, element, cell, size, script, loop_index, reduce, of_object, bit_select, part_select, unary, binary, choice, inside, join, copies, sign, ExprTerms, no_exprs, more_exprs, RangeTerm, one, span, RangeTerms, no_ranges, more_ranges, BoundTerm, value, dollar}
use Rattle.svr_eval.specs.Reading.{Reading}
use Rattle.svr_frame.specs.Occurrences.{Shape}
use Rattle.svr_frame.specs.Reads.{Read, of_element, of_cell, turns, is_open, has_place, covers}
use Rattle.svr_frame.specs.Phases.{shape_of}

-- whether a test holds of a number below n
abbrev pub any_below : ℕ → (ℕ → Bool) → Bool
any_below zero test = false
any_below (suc n) test = any_below n test || test n

module _ (props : List Prop) (a : Reading) where
  abbrev pub shape : Shape
  shape = shape_of props a.size

  -- an index whose value is one of many
  abbrev pub opens : ExprTerm → Bool
  opens e = is_open shape (λ q. false) e

  module _ (p i : ℕ) where
    abbrev pub covered : Read → Bool
    covered r = covers shape (λ q. false) a p (pos i) r

    -- all elements of an array
    abbrev pub all_covered : ℕ → Bool
    all_covered q = (p == q) && has_place a p (pos i)

    abbrev mutual
      pub placed : List ℕ → ExprTerm → Bool
      placed env (typed w s n) = node_placed env n

      pub node_placed : List ℕ → NodeTerm → Bool
      node_placed env (number v every) = false
      node_placed env (prop q) = shape.is_array q && all_covered q
      node_placed env (element q e) = covered (of_element q env e) || placed env e
      node_placed env (cell q m first second) = covered (of_cell q m env first second) || (placed env first || placed env second)
      node_placed env (size q m) = false
      node_placed env (script v) = false
      node_placed env (loop_index k) = false
      node_placed env (reduce q op body) = all_covered q || any_below (turns (a.size q)) (λ k. placed (env ++ k ∷ []) body)
      node_placed env (of_object o e) = placed env e
      node_placed env (bit_select base first low) = placed env base || placed env first
      node_placed env (part_select base first last low) = (placed env base || placed env first) || placed env last
      node_placed env (unary op e) = placed env e
      node_placed env (binary op l r) = placed env l || placed env r
      node_placed env (choice t met unmet) = (placed env t || placed env met) || placed env unmet
      node_placed env (inside l rs) = placed env l || placed_in_ranges env rs
      node_placed env (join parts) = placed_in_exprs env parts
      node_placed env (copies count parts) = placed env count || placed_in_exprs env parts
      node_placed env (sign as_signed e) = placed env e

      pub placed_in_exprs : List ℕ → ExprTerms → Bool
      placed_in_exprs env no_exprs = false
      placed_in_exprs env (more_exprs e es) = placed env e || placed_in_exprs env es

      pub placed_in_ranges : List ℕ → RangeTerms → Bool
      placed_in_ranges env no_ranges = false
      placed_in_ranges env (more_ranges r rs) = placed_in_range env r || placed_in_ranges env rs

      pub placed_in_range : List ℕ → RangeTerm → Bool
      placed_in_range env (one e) = placed env e
      placed_in_range env (span low high) = placed_in_bound env low || placed_in_bound env high

      pub placed_in_bound : List ℕ → BoundTerm → Bool
      placed_in_bound env (value e) = placed env e
      placed_in_bound env dollar = false

    -- the body of a reduction at each element of its array
    abbrev pub placed_in_turns : ℕ → List ℕ → ExprTerm → Bool
    placed_in_turns q env body = any_below (turns (a.size q)) (λ k. placed (env ++ k ∷ []) body)
