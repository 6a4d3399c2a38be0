-- Numbers that are added up are those of the occurrences
use Rattle.svr_typed.specs.declared.item.TItem.{TItem, Foreach, the_lemmas}
use Rattle.svr_typed.specs.ItemTerm.{item_term, item_terms}
use Rattle.std.proofs.Math.Nat.{mul_assoc}
use Rattle.std.proofs.Common.{rules, ◌≡◌, ◌==◌, ◌/◌, ℕ, zero, suc, ◌+◌, ◌-◌, ◌*◌, ◌<◌, ◌≤◌, Bool, true, false, cond, ◌&&◌, refl, sym, ◌∙◌, ap, subst, List, [], ◌∷◌, ◌++◌, length, map, drop, get_or, Option, None, Some, arith, append_assoc, append-nil}
use Rattle.std.specs.Prelude.{filter, if◌then◌else◌, slice_index}
use Rattle.std.proofs.lemmas.List.{length-append, length-map, drop_more, at_drop_more, at_drop_all}
use Rattle.std.proofs.lemmas.List.Elements.{filter-append}
use Rattle.svr_typed.specs.ExprTerm.{ExprTerm, ExprTerms, no_exprs, more_exprs}
use Rattle.svr_typed.specs.ItemTerm.{DistTerm, ItemTerm, plain, unique, implies, branch, foreach, disable, solve, ItemTerms, no_items, more_items, ElseTerm, no_else, else_items}
use Rattle.svr_eval.specs.Value.{size_of, sign_of, property_of}
use Rattle.svr_eval.specs.Holds.{ItemsAreTyped}
use Rattle.svr_frame.specs.declared.part.Part.TheVariants.{All as Whole}
use Rattle.svr_frame.specs.Frame.{FrameTerm, is_array}
use Rattle.svr_frame.specs.Occurrences.{Place, stated, Occurrence, Shape, outside, under, within, elements_from, member_exprs, members, unequal, pairs, each_below, each_of_row, fact_of, occurrence, is_hard, occur, all_occur, else_occur}
use Rattle.svr_frame.specs.Phases.{shape_at, asked_of, belongs}
use Rattle.svr_counts.specs.Hard.{hard_lists, hard_by_item, joined, counts_of}
use Rattle.svr_counts.specs.Counting.{array_of, pair_number, row_turns, plain_number, number_for, members_number, item_number, items_number, else_number, numbers}

-- ---- pairs

twice : (n : ℕ) → 2 * pair_number (suc n) ≡ suc n * n
twice zero = refl
twice (suc n) =
    let before = twice n in
    let rows : suc (suc n) * suc n ≡ suc n * suc n + suc n = grind arith in
    let columns : suc n * suc n ≡ suc n * n + suc n = grind arith in
    omega (arith, before, rows, columns)

pub pair_number_is : (n : ℕ) → n * (n - 1) / 2 ≡ pair_number n
pair_number_is zero = refl
pair_number_is (suc n) =
    let two = twice n in
    let less : suc n - 1 ≡ n = omega arith in
    rw less (omega (arith, two))

pairs_long : (es : List ExprTerm) → length (pairs es) ≡ pair_number (length es)
pairs_long [] = refl
pairs_long (e ∷ es) = length-append (map (unequal e) es) (pairs es) ∙ (λ i. length-map es (unequal e) i + pairs_long es i)

-- ---- members

elements_long : (p w : ℕ) (s : Bool) (i n : ℕ) → length (elements_from p w s i n) ≡ n
elements_long p w s i zero = refl
elements_long p w s i (suc n) = ap suc (elements_long p w s (suc i) n)

module _ (f : FrameTerm) (ns : List ℕ) where
  member_long : (e : ExprTerm) (p : Option ℕ) → length (member_exprs (shape_at f ns) e p) ≡ number_for f ns (array_of f p)
  member_long e None = refl
  member_long e (Some p) = by_kind (is_array f p)
    where
      by_kind : (b : Bool) → length (if b then elements_from p (size_of e) (sign_of e) 0 (slice_index ns p) else e ∷ []) ≡ number_for f ns (if b then Some p else None)
      by_kind true = elements_long p (size_of e) (sign_of e) 0 (slice_index ns p)
      by_kind false = refl

  members_long : (es : ExprTerms) → length (members (shape_at f ns) es) ≡ members_number f ns es
  members_long no_exprs = refl
  members_long (more_exprs e es) =
      length-append (member_exprs (shape_at f ns) e (property_of e)) (members (shape_at f ns) es) ∙ (λ i. member_long e (property_of e) i + members_long es i)

  -- ---- occurrences

  abbrev hard : List Occurrence → ℕ
  hard os = length (filter is_hard os)

  hard_append : (xs ys : List Occurrence) → hard (xs ++ ys) ≡ hard xs + hard ys
  hard_append xs ys = ap (λ (os : List Occurrence). length os) (filter-append is_hard xs ys) ∙ length-append (filter is_hard xs) (filter is_hard ys)

  plain_hard : (at : Place) (soft : Bool) (e : ExprTerm) (dist : Option (List DistTerm)) → hard (occurrence at soft (fact_of e dist) ∷ []) ≡ plain_number soft
  plain_hard at true e dist = refl
  plain_hard at false e None = refl
  plain_hard at false e (Some ds) = refl

  stated_hard : (at : Place) (es : List ExprTerm) → hard (map (λ e. occurrence at false (stated e)) es) ≡ length es
  stated_hard at [] = refl
  stated_hard at (e ∷ es) = ap suc (stated_hard at es)

  each_hard : (n k : ℕ) (g : ℕ → List Occurrence) → ((i : ℕ) → hard (g i) ≡ k) → hard (each_below n g) ≡ n * k
  each_hard zero k g h = let none : 0 ≡ 0 * k = grind arith in none
  each_hard (suc n) k g h =
      let more : n * k + k ≡ suc n * k = grind arith in
      hard_append (each_below n g) (g n) ∙ (λ i. each_hard n k g h i + h n i) ∙ more

  row_hard : (p m names k : ℕ) (g : Place → List Occurrence) (at : Place) → ((inner : Place) → hard (g inner) ≡ k) → hard (each_of_row p m names g at) ≡ row_turns m names * k
  row_hard p m names k g at h = by_names (names == 2)
    where
      one : k ≡ 1 * k
      one = grind arith

      by_names : (b : Bool) → hard (if b then each_below m (λ j. g (within p j at)) else g at) ≡ (if b then m else 1) * k
      by_names true = each_hard m k (λ j. g (within p j at)) (λ j. h (within p j at))
      by_names false = h at ∙ one

  mutual
    pub item_hard : (at : Place) (i : ItemTerm) → hard (occur (shape_at f ns) at i) ≡ item_number f ns i
    item_hard at (plain soft e dist) = plain_hard at soft e dist
    item_hard at (unique es) = stated_hard at (pairs (members (shape_at f ns) es)) ∙ pairs_long (members (shape_at f ns) es) ∙ ap pair_number (members_long es)
    item_hard at (implies t body) = items_hard (under t true at) body
    item_hard at (branch t met unmet) =
        hard_append (all_occur (shape_at f ns) (under t true at) met) (else_occur (shape_at f ns) (under t false at) unmet) ∙ (λ i. items_hard (under t true at) met i + else_hard (under t false at) unmet i)
    item_hard at (foreach p m names body) =
        each_hard (slice_index ns p / m) (row_turns m names * items_number f ns body) (λ i. each_of_row p m names (λ inner. all_occur (shape_at f ns) inner body) (within p i at))
        (λ i. row_hard p m names (items_number f ns body) (λ inner. all_occur (shape_at f ns) inner body) (within p i at) (λ inner. items_hard inner body))
        ∙ sym (mul_assoc (slice_index ns p / m) (row_turns m names) (items_number f ns body))
    item_hard at (disable target) = refl
    item_hard at (solve first later) = refl

    pub items_hard : (at : Place) (is : ItemTerms) → hard (all_occur (shape_at f ns) at is) ≡ items_number f ns is
    items_hard at no_items = refl
    items_hard at (more_items i is) = hard_append (occur (shape_at f ns) at i) (all_occur (shape_at f ns) at is) ∙ (λ k. item_hard at i k + items_hard at is k)

    else_hard : (at : Place) (e : ElseTerm) → hard (else_occur (shape_at f ns) at e) ≡ else_number f ns e
    else_hard at no_else = refl
    else_hard at (else_items is) = items_hard at is

  lists_counted : (is : ItemTerms) → counts_of (hard_lists (shape_at f ns) is) ≡ numbers f ns is
  lists_counted no_items = refl
  lists_counted (more_items i is) = λ k. item_hard outside i k ∷ lists_counted is k

  -- the numbers of the items are those of their hard occurrences
  pub all_counted : counts_of (hard_by_item f ns) ≡ numbers f ns f.items
  all_counted = lists_counted f.items

-- ---- all hard occurrences

hard_joined : (sh : Shape) (is : ItemTerms) → filter is_hard (all_occur sh outside is) ≡ joined (hard_lists sh is)
hard_joined sh no_items = refl
hard_joined sh (more_items i is) = filter-append is_hard (occur sh outside i) (all_occur sh outside is) ∙ ap (λ (os : List Occurrence). filter is_hard (occur sh outside i) ++ os) (hard_joined sh is)

-- the items that the last phase asks for are the hard occurrences of all items, one item behind the other
pub asked_joined : (f : FrameTerm) (ns : List ℕ) → asked_of f Whole ns ≡ joined (hard_by_item f ns)
asked_joined f ns = filter_all (all_occur (shape_at f ns) outside f.items) ∙ hard_joined (shape_at f ns) f.items
  where
    and_true : (b : Bool) → (b && true) ≡ b
    and_true true = refl
    and_true false = refl

    filter_all : (os : List Occurrence) → filter (λ o. is_hard o && belongs f Whole ns o) os ≡ filter is_hard os
    filter_all [] = refl
    filter_all (o ∷ os) = λ i. cond (and_true (is_hard o) i) (o ∷ filter_all os i) (filter_all os i)

-- ---- loops

-- what a loop stands for
pub foreach_term : (p m names : ℕ) (body : List TItem) → item_term (Foreach p m names body) ≡ foreach p m names (item_terms body)
foreach_term p m names body = search (rules, the_lemmas)

-- a loop without a turn
pub no_turns : (t s n m k x : ℕ) → t ≡ (s / m) * k → s ≡ n → t ≡ 0 → 0 ≡ (n / m) * k * x
no_turns t s n m k x is same none =
    let nothing : (n / m) * k ≡ 0 = ap (λ y. (y / m) * k) (sym same) ∙ sym is ∙ none in
    let gone : 0 ≡ 0 * x = grind arith in
    gone ∙ ap (λ y. y * x) (sym nothing)

-- so many turns
pub loop_turns : (r t each s n m k x : ℕ) → r ≡ t * each → t ≡ (s / m) * k → s ≡ n → each ≡ x → r ≡ (n / m) * k * x
loop_turns r t each s n m k x h is same e = h ∙ (λ q. (is ∙ ap (λ y. (y / m) * k) same) q * e q)

-- one number more, before those that are left
pub number_put : (f : FrameTerm) (ns : List ℕ) (items : List TItem) (i : ℕ) (x : TItem) (n : ℕ) (old new all : List ℕ) → i < length items → x ≡ get_or items i x → n ≡ item_number f ns (item_term x) → new ≡ old ++ n ∷ []
    → old ++ numbers f ns (item_terms (drop i items)) ≡ all → new ++ numbers f ns (item_terms (drop (i + 1) items)) ≡ all
number_put f ns items i x n old new all lt is same pushed before =
    (λ k. pushed k ++ numbers f ns (item_terms (drop (i + 1) items)))
    ∙ append_assoc old (n ∷ []) (numbers f ns (item_terms (drop (i + 1) items)))
    ∙ ap (λ (m : ℕ). old ++ m ∷ numbers f ns (item_terms (drop (i + 1) items))) (same ∙ ap (λ (y : TItem). item_number f ns (item_term y)) is)
    ∙ sym (at_drop_more (λ (is : List TItem). old ++ numbers f ns (item_terms is)) items i x lt)
    ∙ before

pub numbers_put : (f : FrameTerm) (ns : List ℕ) (items : List TItem) (i : ℕ) (old all : List ℕ) → length items ≤ i → old ++ numbers f ns (item_terms (drop i items)) ≡ all → old ≡ all
numbers_put f ns items i old all le before = sym (append-nil old) ∙ sym (at_drop_all (λ (is : List TItem). old ++ numbers f ns (item_terms is)) items i le) ∙ before

-- the items behind one that is typed are typed
pub typed_rest : (items : List TItem) (i : ℕ) (x : TItem) → i < length items → ItemsAreTyped (item_terms (drop i items)) → ItemsAreTyped (item_terms (drop (i + 1) items))
typed_rest items i x lt h = (subst (λ (is : List TItem). ItemsAreTyped (item_terms is)) (drop_more items i x lt) h).1
