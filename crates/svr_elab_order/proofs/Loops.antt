-- Where all nodes of their graph are settled, items agree with the ranks of the properties; where one is not, items order a property before itself.
use Rattle.std.proofs.Common.{◌≡◌, ℕ, zero, suc, ◌+◌, ◌-◌, ◌<◌, Bool, true, false, not, ◌&&◌, ◌||◌, nat_eq, List, [], ◌∷◌, ◌++◌, length, take, map, sym, ap, ◌∙◌, arith, inl, inr, ⊎_elim, get_or, length-append}
use Rattle.std.specs.Prelude.{◌⊎◌}
use Rattle.std.proofs.lemmas.Bool.{or_cases, or_left, or_right, and_parts, and_from, eqb-true, eq-eqb, false≢true, cases_Bool, cases_lt, both_ways, true_from_ne_false, false_from_ne_true, not_from_true, not_from_false}
use Rattle.std.proofs.lemmas.List.{get_or_append_left, get_or-append-add, get_or-take, get_or_default, length-map}
use Rattle.svr_elab_order.specs.declared.order.Order.{Order}
use Rattle.svr_elab_order.specs.declared.ranking.Ranking.{Ranking}
use Rattle.svr_elab_order.specs.declared.ranks.Ranks.{Ranks}
use Rattle.svr_elab_order.specs.Order.{is_in, before_of, orders_itself, is_put}
use Rattle.svr_elab_order.specs.Graph.{right_before, rank_at, is_settled, AreRanked, IsRanking, AreHeld, AreAll, first_of, is_named, AreNames, is_item_before, IsGraph}
use Rattle.svr_elab_order.specs.Ranks.{rank_of, agree}
use Rattle.svr_elab_order.proofs.Ways.{loop_itself, before_transitive, put_before, before_chain}
use Rattle.svr_elab_order.proofs.Ranked.{agree_from}

-- ---- items by their places

named_first : (os : List Order) (i x : ℕ) → is_in x (get_or (map first_of os) i []) ≡ true → is_named os x ≡ true
named_first [] i x h = absurd (false≢true h)
named_first (o ∷ os) zero x h = or_left (is_in x o.first || is_in x o.later) (is_named os x) (or_left (is_in x o.first) (is_in x o.later) h)
named_first (o ∷ os) (suc i) x h = or_right (is_in x o.first || is_in x o.later) (is_named os x) (named_first os i x h)

named_put : (os : List Order) (x y : ℕ) → is_put os x y ≡ true → is_named os x ≡ true
named_put [] x y h = absurd (false≢true h)
named_put (o ∷ os) x y h = elim (or_cases (is_in x o.first && is_in y o.later) (is_put os x y) h) [
  | inl e ↦ or_left (is_in x o.first || is_in x o.later) (is_named os x) (or_left (is_in x o.first) (is_in x o.later) (and_parts (is_in x o.first) (is_in y o.later) e).0)
  | inr e ↦ or_right (is_in x o.first || is_in x o.later) (is_named os x) (named_put os x y e)
]

named_later : (os : List Order) (x y : ℕ) → is_put os x y ≡ true → is_named os y ≡ true
named_later [] x y h = absurd (false≢true h)
named_later (o ∷ os) x y h = elim (or_cases (is_in x o.first && is_in y o.later) (is_put os x y) h) [
  | inl e ↦ or_left (is_in y o.first || is_in y o.later) (is_named os y) (or_right (is_in y o.first) (is_in y o.later) (and_parts (is_in x o.first) (is_in y o.later) e).1)
  | inr e ↦ or_right (is_in y o.first || is_in y o.later) (is_named os y) (named_later os x y e)
]

-- an item that orders x before y
record ItemFrom (at : ℕ) (os : List Order) (x y : ℕ) : Type 0 where
  place : ℕ
  item : is_item_before at os (at + place) y ≡ true
  first : is_in x (get_or (map first_of os) place []) ≡ true

first_item : (at : ℕ) (o : Order) (os : List Order) (x y : ℕ) → is_in x o.first ≡ true → is_in y o.later ≡ true → ItemFrom at (o ∷ os) x y
first_item at o os x y h k = record {
  place = 0;
  item = or_left (nat_eq (at + 0) at && is_in y o.later) (is_item_before (at + 1) os (at + 0) y) (and_from (nat_eq (at + 0) at) (is_in y o.later) (eq-eqb (at + 0) at (omega arith)) k);
  first = h;
}

next_item : (at : ℕ) (o : Order) (os : List Order) (x y : ℕ) → ItemFrom (at + 1) os x y → ItemFrom at (o ∷ os) x y
next_item at o os x y w = record {
  place = suc w.place;
  item =
      let e : at + suc w.place ≡ at + 1 + w.place = omega arith in
      or_right (nat_eq (at + suc w.place) at && is_in y o.later) (is_item_before (at + 1) os (at + suc w.place) y)
      (ap (λ (k : ℕ). is_item_before (at + 1) os k y) e ∙ w.item);
  first = w.first;
}

item_from : (at : ℕ) (os : List Order) (x y : ℕ) → is_put os x y ≡ true → ItemFrom at os x y
item_from at [] x y h = absurd (false≢true h)
item_from at (o ∷ os) x y h = elim (or_cases (is_in x o.first && is_in y o.later) (is_put os x y) h) [
  | inl e ↦ let w = and_parts (is_in x o.first) (is_in y o.later) e in first_item at o os x y w.0 w.1
  | inr e ↦ next_item at o os x y (item_from (at + 1) os x y e)
]

-- what an item right before y is
record ItemOf (at : ℕ) (os : List Order) (u y : ℕ) : Type 0 where
  place : ℕ
  is : u ≡ at + place
  within : place < length os
  put : (x : ℕ) → is_in x (get_or (map first_of os) place []) ≡ true → is_put os x y ≡ true

item_of : (at : ℕ) (os : List Order) (u y : ℕ) → is_item_before at os u y ≡ true → ItemOf at os u y
item_of at [] u y h = absurd (false≢true h)
item_of at (o ∷ os) u y h = elim (or_cases (nat_eq u at && is_in y o.later) (is_item_before (at + 1) os u y) h) [
  | inl e ↦
      let w = and_parts (nat_eq u at) (is_in y o.later) e in
      let is : u ≡ at = eqb-true u at w.0 in
      record {
        place = 0;
        is = omega arith;
        within = omega arith;
        put = λ x k. or_left (is_in x o.first && is_in y o.later) (is_put os x y) (and_from (is_in x o.first) (is_in y o.later) k w.1);
      }
  | inr e ↦
      let w = item_of (at + 1) os u y e in
      let is : u ≡ at + 1 + w.place = w.is in
      let within : w.place < length os = w.within in
      record {
        place = suc w.place;
        is = omega arith;
        within = omega arith;
        put = λ x k. or_right (is_in x o.first && is_in y o.later) (is_put os x y) (w.put x k);
      }
]

-- ---- the least of some, where what comes before what is transitive

abbrev IsTransitive : (ℕ → ℕ → Bool) → Type 0
IsTransitive before = (a b c : ℕ) → before a b ≡ true → before b c ≡ true → before a c ≡ true

record IsLeast (before : ℕ → ℕ → Bool) (some : ℕ → Bool) (n c : ℕ) : Type 0 where
  within : c < n
  among : some c ≡ true
  least : (d : ℕ) → d < n → some d ≡ true → before d c ≡ false

abbrev LeastOf : (ℕ → ℕ → Bool) → (ℕ → Bool) → ℕ → Type 0
LeastOf before some n = ((d : ℕ) → d < n → some d ≡ false) ⊎ ((c : ℕ) × IsLeast before some n c)

module _ (before : ℕ → ℕ → Bool) (some : ℕ → Bool) (transitive : IsTransitive before) (apart : (a : ℕ) → some a ≡ true → before a a ≡ false) where
  below_or_last : (n d : ℕ) → d < suc n → (d < n) ⊎ (d ≡ n)
  below_or_last n d h = elim (cases_lt d n) [ inl l ↦ inl l | inr l ↦ inr (omega arith) ]

  none_more : (n : ℕ) → ((d : ℕ) → d < n → some d ≡ false) → some n ≡ false → (d : ℕ) → d < suc n → some d ≡ false
  none_more n h e d l = ⊎_elim (λ k. h d k) (λ k. ap some k ∙ e) (below_or_last n d l)

  kept_least : (n c : ℕ) → IsLeast before some n c → (some n ≡ true → before n c ≡ false) → IsLeast before some (suc n) c
  kept_least n c m e = record {
    within = let h : c < n = m.within in omega arith;
    among = m.among;
    least = λ d l k. ⊎_elim (λ j. m.least d j k) (λ j. ap (λ (x : ℕ). before x c) j ∙ e (sym (ap some j) ∙ k)) (below_or_last n d l);
  }

  only_least : (n : ℕ) → ((d : ℕ) → d < n → some d ≡ false) → some n ≡ true → IsLeast before some (suc n) n
  only_least n h e = record {
    within = omega arith;
    among = e;
    least = λ d l k. ⊎_elim (λ j. absurd (both_ways (some d) (h d j) k)) (λ j. ap (λ (x : ℕ). before x n) j ∙ apart n e) (below_or_last n d l);
  }

  new_least : (n c : ℕ) → IsLeast before some n c → some n ≡ true → before n c ≡ true → IsLeast before some (suc n) n
  new_least n c m e p = record {
    within = omega arith;
    among = e;
    least = λ d l k. ⊎_elim
        (λ j. false_from_ne_true (before d n) (λ q. both_ways (before d c) (m.least d j k) (transitive d n c q p)))
        (λ j. ap (λ (x : ℕ). before x n) j ∙ apart n e) (below_or_last n d l);
  }

  one_more_least : (n : ℕ) → LeastOf before some n → LeastOf before some (suc n)
  one_more_least n (inl h) = elim (cases_Bool (some n)) [ inl e ↦ inr (n, only_least n h e) | inr e ↦ inl (none_more n h e) ]
  one_more_least n (inr m) = elim (cases_Bool (some n)) [
    | inl e ↦ elim (cases_Bool (before n m.0)) [
      | inl p ↦ inr (n, new_least n m.0 m.1 e p)
      | inr p ↦ inr (m.0, kept_least n m.0 m.1 (λ k. p))
    ]
    | inr e ↦ inr (m.0, kept_least n m.0 m.1 (λ k. absurd (both_ways (some n) e k)))
  ]

  least_of : (n : ℕ) → LeastOf before some n
  least_of zero = inl (λ d l. absurd (omega arith))
  least_of (suc n) = one_more_least n (least_of n)

-- ---- from the graph to properties

module _ (names : ℕ) (os : List Order) (g : List (List ℕ)) (graph : IsGraph names os g) (above : AreNames names os) where
  at_property : (y : ℕ) → y < names → (u : ℕ) → is_in u (right_before g y) ≡ is_item_before names os u y
  at_property y h u =
      let is : length graph.properties ≡ names = graph.length_is in
      let within : y < length graph.properties = omega arith in
      ap (is_in u) (ap (λ (x : List (List ℕ)). get_or x y []) graph.whole ∙ get_or_append_left graph.properties (map first_of os) [] y within) ∙ graph.items u y h

  at_item : (i : ℕ) → right_before g (names + i) ≡ get_or (map first_of os) i []
  at_item i =
      ap (λ (x : List (List ℕ)). get_or x (names + i) []) graph.whole
      ∙ ap (λ (k : ℕ). get_or (graph.properties ++ map first_of os) (k + i) []) (sym graph.length_is)
      ∙ get_or-append-add graph.properties (map first_of os) i []

  nodes : length g ≡ names + length os
  nodes =
      let is : length graph.properties ≡ names = graph.length_is in
      ap length graph.whole ∙ length-append graph.properties (map first_of os) ∙ (let e = length-map os first_of in omega arith)

  -- the item between two properties that one orders
  between : (x y : ℕ) → y < names → is_put os x y ≡ true → (u : ℕ) × (is_in u (right_before g y) ≡ true) × (is_in x (right_before g u) ≡ true)
  between x y h p =
      let w = item_from names os x y p in
      (names + w.place, at_property y h (names + w.place) ∙ w.item, ap (is_in x) (at_item w.place) ∙ w.first)

  -- ---- where all is settled, each item raises the rank

  module _ (ranks : List ℕ) (ranked : AreRanked g ranks) (all : (v : ℕ) → v < length g → is_settled ranks v ≡ true) where
    put_raises : (x y : ℕ) → is_put os x y ≡ true → rank_at ranks x < rank_at ranks y
    put_raises x y p =
        let name : y < names = above y (named_later os x y p) in
        let within : y < length g = omega (arith, nodes) in
        let u = between x y name p in
        let late = ranked y u.0 (all y within) u.1 in
        let early = ranked u.0 x late.0 u.2 in
        let a : rank_at ranks u.0 < rank_at ranks y = late.1 in
        let b : rank_at ranks x < rank_at ranks u.0 = early.1 in
        omega (arith, a, b)

    table_rank : (r : Ranks) → r.table ≡ take names ranks → length ranks ≡ length g → (x : ℕ) → x < names → rank_of r x ≡ rank_at ranks x
    table_rank r e n x h =
        let within : x < length ranks = omega (arith, n, nodes) in
        ap (λ (t : List ℕ). get_or t x (r.above + x)) e ∙ get_or-take names ranks x (r.above + x) h ∙ get_or_default ranks x (r.above + x) 0 within

    raised : (r : Ranks) → r.table ≡ take names ranks → length ranks ≡ length g → (x y : ℕ) → is_put os x y ≡ true → rank_of r x < rank_of r y
    raised r e n x y p =
        let a : rank_of r x ≡ rank_at ranks x = table_rank r e n x (above x (named_put os x y p)) in
        let b : rank_of r y ≡ rank_at ranks y = table_rank r e n y (above y (named_later os x y p)) in
        let l : rank_at ranks x < rank_at ranks y = put_raises x y p in
        omega (arith, a, b, l)

  -- ---- properties that are not settled

  record Unsettled (ranks : List ℕ) (x : ℕ) : Type 0 where
    name : x < names
    unsettled : is_settled ranks x ≡ false

  record Behind (ranks : List ℕ) (y : ℕ) : Type 0 where
    by : ℕ
    put : is_put os by y ≡ true
    still : Unsettled ranks by

  module _ (ranks : List ℕ) (held : AreHeld g ranks) where
    -- an item that is not settled has a first name that is not
    item_held : (i : ℕ) → i < length os → is_settled ranks (names + i) ≡ false → (x : ℕ) × (is_in x (get_or (map first_of os) i []) ≡ true) × Unsettled ranks x
    item_held i h e =
        let within : names + i < length g = omega (arith, nodes) in
        let w = held (names + i) within e in
        let first : is_in w.by (get_or (map first_of os) i []) ≡ true = sym (ap (is_in w.by) (at_item i)) ∙ w.before in
        (w.by, first, record { name = above w.by (named_first os i w.by first); unsettled = w.unsettled })

    behind : (y : ℕ) → Unsettled ranks y → Behind ranks y
    behind y k =
        let name : y < names = k.name in
        let within : y < length g = omega (arith, nodes) in
        let w = held y within k.unsettled in
        let i = item_of names os w.by y (sym (at_property y name w.by) ∙ w.before) in
        let x = item_held i.place i.within (sym (ap (is_settled ranks) i.is) ∙ w.unsettled) in
        record { by = x.0; put = i.put x.0 x.1; still = x.2 }

    some_unsettled : (v : ℕ) → v < length g → is_settled ranks v ≡ false → (x : ℕ) × Unsettled ranks x
    some_unsettled v h e = elim (cases_lt v names) [
      | inl l ↦ (v, record { name = l; unsettled = e })
      | inr l ↦
          let is : v ≡ names + (v - names) = omega arith in
          let within : v - names < length os = omega (arith, nodes) in
          let w = item_held (v - names) within (sym (ap (is_settled ranks) is) ∙ e) in
          (w.0, w.2)
    ]

    abbrev unsettled_at : ℕ → Bool
    unsettled_at x = not (is_settled ranks x)

    unsettled_is : (x : ℕ) → unsettled_at x ≡ true → is_settled ranks x ≡ false
    unsettled_is x h = elim (cases_Bool (is_settled ranks x)) [ inl e ↦ absurd (false≢true (sym (not_from_true (is_settled ranks x) e) ∙ h)) | inr e ↦ e ]

    no_least : (c : ℕ) → IsLeast (before_of os) unsettled_at names c → ⊥
    no_least c m =
        let w = behind c (record { name = m.within; unsettled = unsettled_is c m.among }) in
        both_ways (before_of os w.by c) (m.least w.by w.still.name (not_from_false (is_settled ranks w.by) w.still.unsettled)) (put_before os w.by c w.put)

    apart_from : orders_itself os ≡ false → (a : ℕ) → unsettled_at a ≡ true → before_of os a a ≡ false
    apart_from h a k = false_from_ne_true (before_of os a a) (λ p. both_ways (orders_itself os) h (loop_itself os a (before_chain os a a p)))

    stuck : (x : ℕ) → Unsettled ranks x → orders_itself os ≡ false → ⊥
    stuck x k h =
        elim (least_of (before_of os) unsettled_at (before_transitive os) (apart_from h) names) [
          | inl n ↦ both_ways (unsettled_at x) (n x k.name) (not_from_false (is_settled ranks x) k.unsettled)
          | inr m ↦ no_least m.0 m.1
        ]

    held_cycle : (v : ℕ) × (v < length g) × (is_settled ranks v ≡ false) → orders_itself os ≡ true
    held_cycle w =
        let k = some_unsettled w.0 w.1 w.2 in
        true_from_ne_false (orders_itself os) (stuck k.0 k.1)

-- where all is settled, items agree with the ranks of the properties
pub all_agree : (names : ℕ) (os : List Order) (g : List (List ℕ)) (found : Ranking) (r : Ranks) → AreNames names os → IsGraph names os g → IsRanking g found
    → AreAll true found.ranks.items → r.table ≡ take names found.ranks.items → agree r os ≡ true
all_agree names os g found r above graph k all e =
    let n : length found.ranks.items ≡ length g = k.nodes in
    agree_from r os (raised names os g graph above found.ranks.items k.ranked (λ v l. all v (omega (arith, n, l))) r e n)

-- and where one is not, they order a property before itself
pub some_cycle : (names : ℕ) (os : List Order) (g : List (List ℕ)) (found : Ranking) → AreNames names os → IsGraph names os g → IsRanking g found
    → AreHeld g found.ranks.items → AreAll false found.ranks.items → orders_itself os ≡ true
some_cycle names os g found above graph k held w =
    let n : length found.ranks.items ≡ length g = k.nodes in
    let l : w.0 < length found.ranks.items = w.1 in
    held_cycle names os g graph above found.ranks.items held (w.0, omega (arith, n, l), w.2)
