-- How the frame of a call is made of an object and the call (IEEE 1800-2017, 18.5.2, 18.6 to 18.9, 18.11).
use Rattle.std.specs.Prelude.{◌==◌, ℕ, Bool, true, false, not, ◌&&◌, ◌||◌, if◌then◌else◌, List, [], ◌∷◌, map, length}
use Rattle.std.specs.List.{list_any, range_with_len}
use Rattle.svr_operator.specs.declared.Rand.{Rand}
use Rattle.svr_operator.specs.declared.Rand.TheVariants as rand
use Rattle.svr_typed.specs.declared.class.Prop.{Prop}
use Rattle.svr_typed.specs.declared.class.EnumType.{EnumType}
use Rattle.svr_typed.specs.declared.stmt.CallList.{CallList}
use Rattle.svr_typed.specs.declared.stmt.CallList.TheVariants.{All, Null, Listed}
use Rattle.svr_typed.specs.ItemTerm.{ItemTerms, no_items, more_items}
use Rattle.svr_typed.specs.ClassTerm.{BlockTerm, FlatTerm}
use Rattle.svr_typed.specs.StmtTerm.{CallTerm}
use Rattle.svr_eval.specs.declared.assign.Assign.{Assign}
use Rattle.svr_frame.specs.Frame.{FrameTerm, props_of, is_random, is_dynamic, state_sizes}
use Rattle.svr_frame.specs.Occurrences.{Occurrence, stands_in_loop, is_disable}
use Rattle.svr_frame.specs.Reads.{mentions_size}
use Rattle.svr_frame.specs.Phases.{active_at, shape_at, mentions_random_element}

-- ---- the random set

abbrev pub is_declared_random : Rand → Bool
is_declared_random rand.State = false
is_declared_random rand.Rand = true
is_declared_random rand.Randc = true

-- those that are declared random and switched on (18.8)
abbrev pub switched_on : List Prop → List Bool → List Bool
switched_on [] modes = []
switched_on (x ∷ xs) [] = false ∷ switched_on xs []
switched_on (x ∷ xs) (on ∷ modes) = (is_declared_random x.rand && on) ∷ switched_on xs modes

-- with a list just the listed ones, whatever is switched on; with `null` none (18.11)
abbrev pub random_set : List Prop → List Bool → CallList → List Bool
random_set xs modes All = switched_on xs modes
random_set xs modes Null = map (λ p. false) xs
random_set xs modes (Listed ps) = map (λ p. list_any (λ q. q == p) ps) (range_with_len 0 (length xs))

-- ---- the active items

abbrev pub followed_by : ItemTerms → ItemTerms → ItemTerms
followed_by no_items rest = rest
followed_by (more_items i is) rest = more_items i (followed_by is rest)

-- those of the blocks that are switched on (18.9), then the in-line set (18.7)
abbrev pub active_items : List BlockTerm → List Bool → ItemTerms → ItemTerms
active_items [] modes with_items = with_items
active_items (b ∷ bs) [] with_items = active_items bs [] with_items
active_items (b ∷ bs) (on ∷ modes) with_items = if on then followed_by b.items (active_items bs modes with_items) else active_items bs modes with_items

-- ---- the sizes that a call chooses

module _ (f : FrameTerm) where
  -- a hard or soft item that stands in no loop and mentions no element of a random array
  abbrev pub can_free : Occurrence → Bool
  can_free o = not (is_disable o.fact) && not (stands_in_loop o.place) && not (mentions_random_element f (state_sizes f) o)

  -- a random dynamic array or queue whose size such an item mentions
  abbrev pub is_free : ℕ → Bool
  is_free p = is_random f p && is_dynamic f p && list_any (λ o. can_free o && mentions_size (shape_at f (state_sizes f)) p o) (active_at f (state_sizes f))

-- ---- the frame

-- before it is known which sizes are free
abbrev pub framed : FlatTerm → List EnumType → Assign → List Bool → List Bool → CallTerm → FrameTerm
framed class enums state prop_modes block_modes call = record {
  class = class;
  enums = enums;
  state = state;
  random = random_set class.props prop_modes call.list;
  free_size = [];
  items = active_items class.blocks block_modes call.items;
}

-- the modes are those of the properties and of the blocks in flat order
abbrev pub frame_of : FlatTerm → List EnumType → Assign → List Bool → List Bool → CallTerm → FrameTerm
frame_of class enums state prop_modes block_modes call =
    let f = framed class enums state prop_modes block_modes call in
    record f { free_size = map (is_free f) (props_of f) }
