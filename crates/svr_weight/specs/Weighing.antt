-- How the weight of items is added up without their occurrences: a loop weighs its size times its body (IEEE 1800-2017, 18.5.8.1).
use Rattle.std.specs.Prelude.{ℕ, zero, suc, ◌+◌, ◌*◌, ◌/◌, ◌==◌, Bool, true, false, not, ◌&&◌, ◌||◌, if◌then◌else◌, List, Option, None, Some, length, slice_index}
use Rattle.svr_typed.specs.ExprTerm.{ExprTerm, ExprTerms, no_exprs, more_exprs}
use Rattle.svr_typed.specs.ItemTerm.{DistTerm, ItemTerm, plain, unique, implies, branch, foreach, disable, solve, ItemTerms, no_items, more_items, ElseTerm, no_else, else_items}
use Rattle.svr_eval.specs.Value.{size_of, property_of}
use Rattle.svr_frame.specs.declared.part.Part.{Part}
use Rattle.svr_frame.specs.declared.part.Part.TheVariants.{Randc, Sizes, All}
use Rattle.svr_frame.specs.declared.sought.Sought.TheVariants.{Random, NotCyclic, RandomElement}
use Rattle.svr_weight.specs.declared.around.Mentions.{Mentions}
use Rattle.svr_weight.specs.declared.around.Tests.{Tests}
use Rattle.svr_weight.specs.declared.around.Around.{Around}
use Rattle.svr_frame.specs.Frame.{FrameTerm, is_random, is_array, is_cyclic, has_free_size, width_of, members_of}
use Rattle.svr_frame.specs.Weight.{capped}
use Rattle.svr_frame.specs.Finds.{finds, finds_in_members, finds_size}
use Rattle.svr_weight.specs.Costs.{array_of, own_cost, members_cost, pair_cost}

-- ---- what is mentioned

abbrev pub nothing : Mentions
nothing = record { wanted = false; barred = false }

abbrev pub joined : Mentions → Mentions → Mentions
joined m n = record { wanted = m.wanted || n.wanted; barred = m.barred || n.barred }

module _ (f : FrameTerm) where
  abbrev pub mentioned_by : Part → ExprTerm → Mentions
  mentioned_by Randc e = record { wanted = finds f Random e; barred = finds f NotCyclic e }
  mentioned_by Sizes e = record { wanted = false; barred = finds f RandomElement e }
  mentioned_by All e = nothing

  abbrev pub members_mention : Part → List DistTerm → Mentions
  members_mention Randc ds = record { wanted = finds_in_members f Random ds; barred = finds_in_members f NotCyclic ds }
  members_mention Sizes ds = record { wanted = false; barred = finds_in_members f RandomElement ds }
  members_mention All ds = nothing

  -- a loop mentions the size of its array
  abbrev pub size_mentions : Part → ℕ → Mentions
  size_mentions Randc p = record { wanted = finds_size f Random p; barred = finds_size f NotCyclic p }
  size_mentions Sizes p = record { wanted = false; barred = finds_size f RandomElement p }
  size_mentions All p = nothing

  abbrev pub in_loop_over : Part → Around → ℕ → Around
  in_loop_over part c p = record { tests = c.tests; mentions = joined c.mentions (size_mentions part p); in_loop = true }

-- how many members of `unique` an expression stands for
abbrev pub count_for : List ℕ → Option ℕ → ℕ
count_for ns None = 1
count_for ns (Some p) = slice_index ns p

abbrev pub member_count : FrameTerm → List ℕ → ExprTerm → ℕ
member_count f ns e = count_for ns (array_of f (property_of e))

-- how many pairs so many members make
abbrev pub pair_number : ℕ → ℕ
pair_number zero = 0
pair_number (suc n) = n + pair_number n

-- how often the body of a loop stands in one turn of its first variable (18.5.8.1)
abbrev pub row_turns : ℕ → ℕ → ℕ
row_turns m names = if names == 2 then m else 1

-- whether an item counts in a phase, by what it and all around it mention
abbrev pub is_counted : Part → Bool → Bool → Mentions → Bool
is_counted Randc soft in_loop m = not soft && m.wanted && not m.barred
is_counted Sizes soft in_loop m = not m.barred && not in_loop
is_counted All soft in_loop m = true

-- ---- tests

-- behind others a test is joined to them by `&&`
abbrev pub tested : Option Tests → ℕ → ℕ → Tests
tested None own width = record { width = width; weight = capped own }
tested (Some t) own width = record { width = 1; weight = capped (t.width + width + t.weight + own) }

-- what stands under tests follows from them by `->`
abbrev pub guarded_weight : Option Tests → ℕ → ℕ → ℕ
guarded_weight None own width = own
guarded_weight (Some t) own width = t.width + width + t.weight + own

-- what stands in a place, of this weight and width: nothing where it does not count
abbrev pub leaf_weight : Part → Around → Bool → Mentions → ℕ → ℕ → ℕ
leaf_weight part c soft m own width = if is_counted part soft c.in_loop (joined c.mentions m) then guarded_weight c.tests own width else 0

abbrev pub everywhere : Around
everywhere = record { tests = None; mentions = nothing; in_loop = false }

module _ (f : FrameTerm) (part : Part) (ns : List ℕ) where
  -- a test that is not wanted is negated by `!`
  abbrev pub with_test : Around → ExprTerm → Bool → Around
  with_test c t wanted = record {
    tests = Some (if wanted then tested c.tests (own_cost f part ns t) (size_of t) else tested c.tests (size_of t + own_cost f part ns t) 1);
    mentions = joined c.mentions (mentioned_by f part t);
    in_loop = c.in_loop;
  }

  -- ---- items

  abbrev pub pair_weight : Around → ExprTerm → ExprTerm → ℕ
  pair_weight c x y = leaf_weight part c false (joined (mentioned_by f part x) (mentioned_by f part y)) (pair_cost f part ns x y) 1

  -- one pair of x with each member that y stands for
  abbrev pub pairs_weight : Around → ExprTerm → ExprTerm → ℕ
  pairs_weight c x y = member_count f ns y * pair_weight c x y

  -- one pair of x with each of the others
  abbrev pub against_weight : Around → ExprTerm → ExprTerms → ℕ
  against_weight c x no_exprs = 0
  against_weight c x (more_exprs y es) = pairs_weight c x y + against_weight c x es

  -- the pairs of the members that x stands for, with one another and with those of the others
  abbrev pub group_weight : Around → ExprTerm → ExprTerms → ℕ
  group_weight c x es = pair_number (member_count f ns x) * pair_weight c x x + member_count f ns x * against_weight c x es

  abbrev pub unique_weight : Around → ExprTerms → ℕ
  unique_weight c no_exprs = 0
  unique_weight c (more_exprs x es) = group_weight c x es + unique_weight c es

  abbrev pub plain_weight : Around → Bool → ExprTerm → Option (List DistTerm) → ℕ
  plain_weight c soft e None = leaf_weight part c soft (mentioned_by f part e) (own_cost f part ns e) (size_of e)
  plain_weight c soft e (Some ds) =
      leaf_weight part c soft (joined (mentioned_by f part e) (members_mention f part ds)) (own_cost f part ns e + members_cost f part ns (size_of e) ds) 1

  abbrev mutual
    pub item_weight : Around → ItemTerm → ℕ
    item_weight c (plain soft e dist) = plain_weight c soft e dist
    item_weight c (unique es) = unique_weight c es
    item_weight c (implies t body) = items_weight (with_test c t true) body
    item_weight c (branch t met unmet) = items_weight (with_test c t true) met + else_weight (with_test c t false) unmet
    item_weight c (foreach p m names body) = (slice_index ns p / m) * row_turns m names * items_weight (in_loop_over f part c p) body
    item_weight c (disable target) = 0
    item_weight c (solve first later) = 0

    pub items_weight : Around → ItemTerms → ℕ
    items_weight c no_items = 0
    items_weight c (more_items i is) = item_weight c i + items_weight c is

    pub else_weight : Around → ElseTerm → ℕ
    else_weight c no_else = 0
    else_weight c (else_items is) = items_weight c is

-- ---- properties

module _ (f : FrameTerm) where
  abbrev pub domain_weight_from : ℕ → Option (List ℕ) → ℕ
  domain_weight_from w None = 0
  domain_weight_from w (Some vs) = 1 + length vs * (w + 1)

  -- that a number of a property is one of its domain
  abbrev pub domain_weight : ℕ → ℕ
  domain_weight p = domain_weight_from (width_of f p) (members_of f p)

  abbrev pub is_scalar_unknown : ℕ → Bool
  is_scalar_unknown p = is_cyclic f p || (is_random f p && not (is_array f p))

  -- the numbers of a property that a phase looks for
  abbrev pub number_count : List ℕ → Part → ℕ → ℕ
  number_count ns Randc p = if is_cyclic f p then 1 else 0
  number_count ns Sizes p = if is_scalar_unknown p then 1 else 0
  number_count ns All p = (if is_scalar_unknown p then 1 else 0) + (if is_random f p && is_array f p then slice_index ns p else 0)

  -- two bounds of a free size
  abbrev pub bounds_weight : Part → ℕ → ℕ
  bounds_weight Randc p = 0
  bounds_weight Sizes p = if has_free_size f p then 68 else 0
  bounds_weight All p = 0

module _ (f : FrameTerm) (part : Part) (ns : List ℕ) where
  abbrev pub property_weight : ℕ → ℕ
  property_weight p = number_count f ns part p * domain_weight f p + bounds_weight f part p

  -- those of the first n properties
  abbrev pub properties_weight : ℕ → ℕ
  properties_weight zero = 0
  properties_weight (suc n) = properties_weight n + property_weight n

  abbrev pub phase_weight : ℕ
  phase_weight = properties_weight (length f.class.props) + items_weight f part ns everywhere f.items
