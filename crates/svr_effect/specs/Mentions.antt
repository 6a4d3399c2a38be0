-- The properties and script variables that expressions name, each once, in the order in which they are met; and an expression by their places among these.
use Rattle.std.specs.Prelude.{ℕ, List, [], map, nat_eq, slice_index, slice_index_or}
use Rattle.std.specs.List.{position_or_len}
use Rattle.indexmap.specs.IndexSet.{insert_key}
use Rattle.svr_typed.specs.ExprTerm.{ExprTerm, typed, NodeTerm, number, prop, element, cell, size, script, loop_index, reduce, of_object, bit_select, part_select, unary, binary, choice, inside, join, copies, sign, ExprTerms, no_exprs, more_exprs, RangeTerm, one, span, RangeTerms, no_ranges, more_ranges, BoundTerm, value, dollar}
use Rattle.svr_eval.specs.Reading.{Reading}
use Rattle.svr_world.specs.World.{WorldTerm}
use Rattle.svr_effect.specs.Objects.{numbers_in, size_in}
use Rattle.svr_effect.specs.Renamed.{renamed, renamed_all, renamed_ranges, renamed_range, renamed_bound}

-- places of properties, and numbers of script variables
pub record Mentioned : Type 0 where
  pub props : List ℕ
  pub vars : List ℕ

abbrev pub nothing : Mentioned
nothing = record { props = []; vars = [] }

abbrev pub and_prop : Mentioned → ℕ → Mentioned
and_prop m p = record { props = insert_key nat_eq m.props p; vars = m.vars }

abbrev pub and_var : Mentioned → ℕ → Mentioned
and_var m v = record { props = m.props; vars = insert_key nat_eq m.vars v }

-- with those of an expression
abbrev mutual
  pub mentions : Mentioned → ExprTerm → Mentioned
  mentions m (typed w s n) = node_mentions m n

  pub node_mentions : Mentioned → NodeTerm → Mentioned
  node_mentions m (number v every) = m
  node_mentions m (prop p) = and_prop m p
  node_mentions m (element p e) = mentions (and_prop m p) e
  node_mentions m (cell p r first second) = mentions (mentions (and_prop m p) first) second
  node_mentions m (size p r) = and_prop m p
  node_mentions m (script v) = and_var m v
  node_mentions m (loop_index k) = m
  node_mentions m (reduce p op body) = mentions (and_prop m p) body
  node_mentions m (of_object o e) = mentions m e
  node_mentions m (bit_select base first low) = mentions (mentions m base) first
  node_mentions m (part_select base first last low) = mentions (mentions (mentions m base) first) last
  node_mentions m (unary op e) = mentions m e
  node_mentions m (binary op l r) = mentions (mentions m l) r
  node_mentions m (choice t met unmet) = mentions (mentions (mentions m t) met) unmet
  node_mentions m (inside l members) = mentions (ranges_mention m members) l
  node_mentions m (join parts) = all_mention m parts
  node_mentions m (copies count parts) = mentions (all_mention m parts) count
  node_mentions m (sign s e) = mentions m e

  pub all_mention : Mentioned → ExprTerms → Mentioned
  all_mention m no_exprs = m
  all_mention m (more_exprs e es) = all_mention (mentions m e) es

  pub ranges_mention : Mentioned → RangeTerms → Mentioned
  ranges_mention m no_ranges = m
  ranges_mention m (more_ranges r rs) = ranges_mention (range_mentions m r) rs

  pub range_mentions : Mentioned → RangeTerm → Mentioned
  range_mentions m (one e) = mentions m e
  range_mentions m (span low high) = bound_mentions (bound_mentions m low) high

  pub bound_mentions : Mentioned → BoundTerm → Mentioned
  bound_mentions m (value e) = mentions m e
  bound_mentions m dollar = m

-- ---- by places among these

abbrev pub place_among : List ℕ → ℕ → ℕ
place_among ns q = position_or_len (nat_eq q) ns

abbrev pub by_places : Mentioned → ExprTerm → ExprTerm
by_places m e = renamed (place_among m.props) (place_among m.vars) e

abbrev pub all_by_places : Mentioned → ExprTerms → ExprTerms
all_by_places m es = renamed_all (place_among m.props) (place_among m.vars) es

abbrev pub ranges_by_places : Mentioned → RangeTerms → RangeTerms
ranges_by_places m rs = renamed_ranges (place_among m.props) (place_among m.vars) rs

abbrev pub range_by_places : Mentioned → RangeTerm → RangeTerm
range_by_places m r = renamed_range (place_among m.props) (place_among m.vars) r

abbrev pub bound_by_places : Mentioned → BoundTerm → BoundTerm
bound_by_places m b = renamed_bound (place_among m.props) (place_among m.vars) b

-- what a world has at these
abbrev pub reading_at : WorldTerm → Mentioned → Reading
reading_at w m = record {
  element = λ k i. slice_index (slice_index_or (map (numbers_in w) m.props) k []) i;
  size = λ k. slice_index (map (size_in w) m.props) k;
  script = λ k. slice_index (map (slice_index w.script) m.vars) k;
}
