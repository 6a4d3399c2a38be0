-- Nodes, and those right before each: ranks of nodes from which no endless way leads back.
use Rattle.std.specs.Prelude.{◌≡◌, ◌<◌, ◌≤◌, ℕ, nat_lt, cond, Bool, true, false, ◌&&◌, ◌||◌, ◌+◌, nat_eq, List, [], ◌∷◌, ◌++◌, length, map, slice_index_or, MatchBool}
use Rattle.std.specs.List.{sum_by}
use Rattle.svr_elab_order.specs.declared.order.Order.{Order}
use Rattle.svr_elab_order.specs.declared.ranking.Ranking.{Ranking}
use Rattle.svr_elab_order.specs.Order.{is_in}

-- those right before a node
abbrev pub right_before : List (List ℕ) → ℕ → List ℕ
right_before g v = slice_index_or g v []

-- ---- nodes that are settled have a rank, the others 0

abbrev pub rank_at : List ℕ → ℕ → ℕ
rank_at ranks v = slice_index_or ranks v 0

abbrev pub is_settled : List ℕ → ℕ → Bool
is_settled ranks v = nat_lt 0 (rank_at ranks v)

-- what stands right before a settled node is settled, with a lower rank
abbrev pub AreRanked : List (List ℕ) → List ℕ → Type 0
AreRanked g ranks = (v u : ℕ) → is_settled ranks v ≡ true → is_in u (right_before g v) ≡ true → (is_settled ranks u ≡ true) × (rank_at ranks u < rank_at ranks v)

-- how many are not settled
abbrev pub left_open : List ℕ → ℕ
left_open ranks = sum_by (λ rank. cond (nat_lt 0 rank) 0 1) ranks

-- ranks that were given one after the other
pub record IsRanking (g : List (List ℕ)) (r : Ranking) : Type 0 where
  pub nodes : length r.ranks.items ≡ length g
  pub ranked : AreRanked g r.ranks.items
  pub highest : (v : ℕ) → rank_at r.ranks.items v ≤ r.last
  pub left : r.last + left_open r.ranks.items ≡ length g

-- a node before which one stands that is not settled
pub record IsHeld (g : List (List ℕ)) (ranks : List ℕ) (v : ℕ) : Type 0 where
  pub by : ℕ
  pub before : is_in by (right_before g v) ≡ true
  pub unsettled : is_settled ranks by ≡ false

-- each node that is not settled is held
abbrev pub AreHeld : List (List ℕ) → List ℕ → Type 0
AreHeld g ranks = (v : ℕ) → v < length g → is_settled ranks v ≡ false → IsHeld g ranks v

-- a node that is not settled while all before it are
pub record IsReady (g : List (List ℕ)) (ranks : List ℕ) (v : ℕ) : Type 0 where
  pub within : v < length g
  pub unsettled : is_settled ranks v ≡ false
  pub before : (u : ℕ) → is_in u (right_before g v) ≡ true → is_settled ranks u ≡ true

-- whether a node is ready
abbrev pub TellsReady : Bool → List (List ℕ) → List ℕ → ℕ → Type 0
TellsReady r g ranks v = MatchBool r (IsReady g ranks v) (v < length g → is_settled ranks v ≡ false → IsHeld g ranks v)

abbrev pub AreAll : Bool → List ℕ → Type 0
AreAll r ranks = MatchBool r ((v : ℕ) → v < length ranks → is_settled ranks v ≡ true) ((v : ℕ) × (v < length ranks) × (is_settled ranks v ≡ false))

-- ---- the graph of `solve` items: properties by their numbers below `names`, and behind them the items

abbrev pub first_of : Order → List ℕ
first_of o = o.first

abbrev pub is_named : List Order → ℕ → Bool
is_named [] a = false
is_named (o ∷ os) a = (is_in a o.first || is_in a o.later) || is_named os a

-- all that items name
abbrev pub AreNames : ℕ → List Order → Type 0
AreNames names os = (a : ℕ) → is_named os a ≡ true → a < names

-- the node u is one of these items, counted from `at`, and orders something before the property y
abbrev pub is_item_before : ℕ → List Order → ℕ → ℕ → Bool
is_item_before at [] u y = false
is_item_before at (o ∷ os) u y = (nat_eq u at && is_in y o.later) || is_item_before (at + 1) os u y

-- a property comes behind the items that have it among their later ones, an item behind its first names
pub record IsGraph (names : ℕ) (os : List Order) (g : List (List ℕ)) : Type 0 where
  pub properties : List (List ℕ)
  pub whole : g ≡ properties ++ map first_of os
  pub length_is : length properties ≡ names
  pub items : (u y : ℕ) → y < names → is_in u (slice_index_or properties y []) ≡ is_item_before names os u y
