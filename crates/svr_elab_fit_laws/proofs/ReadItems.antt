-- Constraint items that were read.
use Rattle.std.proofs.Common.{◌≡◌, ℕ, ◌+◌, ◌*◌, ◌<◌, ◌≤◌, ◌^◌, max, true, false, List, [], ◌∷◌, ◌++◌, length, Option, Some, None, arith}
use Rattle.svr_operator.specs.declared.Share.{Share}
use Rattle.svr_operator.specs.declared.Share.TheVariants as share
use Rattle.svr_tree.specs.ExprTree as raw
use Rattle.svr_tree.specs.ExprTree.{ExprTree, ExprTrees}
use Rattle.svr_tree.specs.ItemTree as tree
use Rattle.svr_tree.specs.ItemTree.{DistItemTree, DistTree, ItemTree, ItemTrees, SetTree, ElseTree}
use Rattle.svr_tree.specs.Tokens.{Each, OneOrMore, listed, followed, names_listed}
use Rattle.svr_tree.specs.ExprGrammar.{expr_spelling, exprs_spelling, exprs_followed, range_spelling, expr_height, exprs_height, range_height}
use Rattle.svr_tree.specs.ItemGrammar.{weight_spelling, dist_item_spelling, dist_spelling, item_spelling, items_spelling, set_spelling, else_spelling, IsWeight, IsDistItem, IsDist, EachIsMember, AreMembers, AreLoopVars, IsItem, AreItems, IsSet, IsElse, IsBlockItem, AreBlockItems, weight_height, dist_items_height, dist_height, item_height, items_height, set_height, else_height}
use Rattle.svr_elab_part.specs.Fits.{LiteralsFit, AllFit, AllLoopsFit}
use Rattle.svr_elab_expr_laws.proofs.ReadFit.{expr_fits, low_fits}
use Rattle.svr_elab_item.specs.Fits.{WeightFits, DistItemsFit, DistFits, ItemFits, ItemsFit, SetFits, ElseFits, WeightLoopsFit, DistItemsLoopsFit, DistLoopsFit, ItemLoopsFit, ItemsLoopsFit, SetLoopsFit, ElseLoopsFit}
use Rattle.svr_elab_fit_laws.proofs.Entries.{AreRead, front, rest, tail, IsLow, range_read, range_low, exprs_low}

-- ---- literals and lists

weight_read : (w : Option (Share × ExprTree)) → IsWeight w → AreRead (weight_spelling w) → WeightFits w
weight_read None h f = tt
weight_read (Some (share.Each, e)) h f = expr_fits e h (tail _ _ f).fit
weight_read (Some (share.Whole, e)) h f = expr_fits e h (tail _ _ f).fit

more_dist_read : (ds : List DistItemTree) → Each IsDistItem ds → AreRead (followed dist_item_spelling ds) → DistItemsFit ds
more_dist_read [] h f = tt
more_dist_read (d ∷ ds) h f =
    let on = tail _ _ f in
    let one = front (dist_item_spelling d) _ on in
    (range_read d.range h.0.0 (front (range_spelling d.range) _ one), weight_read d.weight h.0.1 (rest (range_spelling d.range) _ one), more_dist_read ds h.1 (rest (dist_item_spelling d) _ on))

dist_items_read : (ds : List DistItemTree) → Each IsDistItem ds → AreRead (listed dist_item_spelling ds) → DistItemsFit ds
dist_items_read [] h f = tt
dist_items_read (d ∷ ds) h f =
    let one = front (dist_item_spelling d) _ f in
    (range_read d.range h.0.0 (front (range_spelling d.range) _ one), weight_read d.weight h.0.1 (rest (range_spelling d.range) _ one), more_dist_read ds h.1 (rest (dist_item_spelling d) _ f))

some_dist : (ds : List DistItemTree) → OneOrMore IsDistItem ds → Each IsDistItem ds
some_dist [] h = absurd h
some_dist (d ∷ ds) h = h

dist_read : (d : Option DistTree) → IsDist d → AreRead (dist_spelling d) → DistFits d
dist_read None h f = tt
dist_read (Some d) h f = dist_items_read d.items (some_dist d.items h) (front (listed dist_item_spelling d.items) _ (tail _ _ (tail _ _ f)))

more_members_read : (es : ExprTrees) → EachIsMember es → AreRead (exprs_followed es) → AllFit es
more_members_read raw.no_exprs h f = tt
more_members_read (raw.more_exprs e es) h f =
    let on = tail _ _ f in
    (expr_fits e h.0.0 (front (expr_spelling e) _ on).fit, more_members_read es h.1 (rest (expr_spelling e) _ on))

members_read : (es : ExprTrees) → AreMembers es → AreRead (exprs_spelling es) → AllFit es
members_read raw.no_exprs h f = tt
members_read (raw.more_exprs e es) h f = (expr_fits e h.0.0 (front (expr_spelling e) _ f).fit, more_members_read es h.1 (rest (expr_spelling e) _ f))

-- one or two loop variables
few_vars : (vs : List ℕ) → AreLoopVars vs → length vs ≤ 2
few_vars [] h = absurd h
few_vars (i ∷ []) h = omega arith
few_vars (i ∷ (j ∷ [])) h = omega arith
few_vars (i ∷ (j ∷ (k ∷ more))) h = absurd h

under_256 : (n : ℕ) → n ≤ 2 → n < 256
under_256 n h = omega (arith, h)

mutual
  item_read : (i : ItemTree) → IsItem i → AreRead (item_spelling i) → ItemFits i
  item_read (tree.plain at true e d) h f =
      let on = tail _ _ f in
      (expr_fits e h.0 (front (expr_spelling e) _ on).fit, dist_read d h.1 (front (dist_spelling d) _ (rest (expr_spelling e) _ on)))
  item_read (tree.plain at false e d) h f = (expr_fits e h.1 (front (expr_spelling e) _ f).fit, dist_read d h.3 (front (dist_spelling d) _ (rest (expr_spelling e) _ f)))
  item_read (tree.unique at es) h f = members_read es h (front (exprs_spelling es) _ (tail _ _ (tail _ _ f)))
  item_read (tree.implies at t s) h f = (expr_fits t h.1 (front (expr_spelling t) _ f).fit, set_read s h.3 (tail _ _ (rest (expr_spelling t) _ f)))
  item_read (tree.branch at t met unmet) h f =
      let on = tail _ _ (tail _ _ f) in
      let sets = tail _ _ (rest (expr_spelling t) _ on) in
      (expr_fits t h.0 (front (expr_spelling t) _ on).fit, set_read met h.1 (front (set_spelling met) _ sets), else_read met unmet h.2 (rest (set_spelling met) _ sets))
  item_read (tree.foreach at x vs s) h f =
      let on = tail _ _ (tail _ _ f) in (
        expr_fits x h.0.0 (front (expr_spelling x) _ on).fit,
        under_256 (length vs) (few_vars vs h.1),
        set_read s h.2 (tail _ _ (tail _ _ (rest (names_listed vs) _ (tail _ _ (rest (expr_spelling x) _ on))))),
      )
  item_read (tree.disable at x) h f = expr_fits x h.0 (front (expr_spelling x) _ (tail _ _ (tail _ _ f))).fit
  item_read (tree.solve at xs ys) h f = tt

  items_read : (is : ItemTrees) → AreItems is → AreRead (items_spelling is) → ItemsFit is
  items_read tree.no_items h f = tt
  items_read (tree.more_items i is) h f = (item_read i h.0 (front (item_spelling i) _ f), items_read is h.1 (rest (item_spelling i) _ f))

  set_read : (s : SetTree) → IsSet s → AreRead (set_spelling s) → SetFits s
  set_read (tree.set true is) h f = items_read is h (front (items_spelling is) _ (tail _ _ f))
  set_read (tree.set false tree.no_items) h f = tt
  set_read (tree.set false (tree.more_items i tree.no_items)) h f = (item_read i h.0 (front (item_spelling i) _ f), tt)
  set_read (tree.set false (tree.more_items i (tree.more_items j is))) h f = absurd h

  else_read : (met : SetTree) (e : ElseTree) → IsElse met e → AreRead (else_spelling e) → ElseFits e
  else_read met tree.no_else h f = tt
  else_read met (tree.else_set s) h f = set_read s h.1 (tail _ _ f)

block_item_read : (i : ItemTree) → IsBlockItem i → AreRead (item_spelling i) → ItemFits i
block_item_read (tree.plain at soft e d) h f = item_read (tree.plain at soft e d) h f
block_item_read (tree.unique at es) h f = item_read (tree.unique at es) h f
block_item_read (tree.implies at t s) h f = item_read (tree.implies at t s) h f
block_item_read (tree.branch at t met unmet) h f = item_read (tree.branch at t met unmet) h f
block_item_read (tree.foreach at x vs s) h f = item_read (tree.foreach at x vs s) h f
block_item_read (tree.disable at x) h f = item_read (tree.disable at x) h f
block_item_read (tree.solve at xs ys) h f = tt

pub block_items_read : (is : ItemTrees) → AreBlockItems is → AreRead (items_spelling is) → ItemsFit is
block_items_read tree.no_items h f = tt
block_items_read (tree.more_items i is) h f = (block_item_read i h.0 (front (item_spelling i) _ f), block_items_read is h.1 (rest (item_spelling i) _ f))

pub in_line_read : (is : ItemTrees) → AreItems is → AreRead (items_spelling is) → ItemsFit is
in_line_read is h f = items_read is h f

-- ---- loops: an item has at most two for each step of its height

abbrev pub IsShallow : ℕ → ℕ → Type 0
IsShallow d height = d + 2 * height ≤ 2 ^ 32

shallow_expr : (d a b : ℕ) → IsShallow d (max a b + 1) → IsLow d a
shallow_expr d a b h = omega (arith, h)

shallow_other : (d a b : ℕ) → IsShallow d (max a b + 1) → IsLow d b
shallow_other d a b h = omega (arith, h)

shallow_one : (d a : ℕ) → IsShallow d (a + 1) → IsLow d a
shallow_one d a h = omega (arith, h)

shallow_right : (d a b : ℕ) → IsShallow d (max a b + 1) → IsShallow d b
shallow_right d a b h = omega (arith, h)

shallow_first : (d a b c : ℕ) → IsShallow d (max (max a b) c + 1) → IsLow d a
shallow_first d a b c h = omega (arith, h)

shallow_second : (d a b c : ℕ) → IsShallow d (max (max a b) c + 1) → IsShallow d b
shallow_second d a b c h = omega (arith, h)

shallow_third : (d a b c : ℕ) → IsShallow d (max (max a b) c + 1) → IsShallow d c
shallow_third d a b c h = omega (arith, h)

shallow_body : (d v a b : ℕ) → v ≤ 2 → IsShallow d (max a b + 1) → IsShallow (d + v) b
shallow_body d v a b few h = omega (arith, few, h)

shallow_around : (d a : ℕ) → IsShallow d (a + 1) → d < 2 ^ 32
shallow_around d a h = omega (arith, h)

shallow_item : (d a b : ℕ) → IsShallow d (max a b) → IsShallow d a
shallow_item d a b h = omega (arith, h)

shallow_items : (d a b : ℕ) → IsShallow d (max a b) → IsShallow d b
shallow_items d a b h = omega (arith, h)

low_first : (d a b c : ℕ) → IsLow d (max (max a b) c) → IsLow d a
low_first d a b c h = omega (arith, h)

low_second : (d a b c : ℕ) → IsLow d (max (max a b) c) → IsLow d b
low_second d a b c h = omega (arith, h)

low_third : (d a b c : ℕ) → IsLow d (max (max a b) c) → IsLow d c
low_third d a b c h = omega (arith, h)

weight_low : (d : ℕ) (w : Option (Share × ExprTree)) → IsLow d (weight_height w) → WeightLoopsFit d w
weight_low d None low = tt
weight_low d (Some w) low = low_fits d w.1 low

dist_items_low : (d : ℕ) (ds : List DistItemTree) → IsLow d (dist_items_height ds) → DistItemsLoopsFit d ds
dist_items_low d [] low = tt
dist_items_low d (x ∷ xs) low = (
  range_low d x.range (low_first d (range_height x.range) (weight_height x.weight) (dist_items_height xs) low),
  weight_low d x.weight (low_second d (range_height x.range) (weight_height x.weight) (dist_items_height xs) low),
  dist_items_low d xs (low_third d (range_height x.range) (weight_height x.weight) (dist_items_height xs) low),
)

dist_low : (d : ℕ) (k : Option DistTree) → IsLow d (dist_height k) → DistLoopsFit d k
dist_low d None low = tt
dist_low d (Some k) low = dist_items_low d k.items low

mutual
  item_loops : (d : ℕ) (i : ItemTree) → IsBlockItem i → IsShallow d (item_height i) → ItemLoopsFit d i
  item_loops d (tree.plain at soft e k) h low = (low_fits d e (shallow_expr d (expr_height e) (dist_height k) low), dist_low d k (shallow_other d (expr_height e) (dist_height k) low))
  item_loops d (tree.unique at es) h low = exprs_low d es (shallow_one d (exprs_height es) low)
  item_loops d (tree.implies at t s) h low = (low_fits d t (shallow_expr d (expr_height t) (set_height s) low), set_loops d s h.3 (shallow_right d (expr_height t) (set_height s) low))
  item_loops d (tree.branch at t met unmet) h low = (
    low_fits d t (shallow_first d (expr_height t) (set_height met) (else_height unmet) low),
    set_loops d met h.1 (shallow_second d (expr_height t) (set_height met) (else_height unmet) low),
    else_loops d met unmet h.2 (shallow_third d (expr_height t) (set_height met) (else_height unmet) low),
  )
  item_loops d (tree.foreach at x vs s) h low =
      (low_fits d x (shallow_expr d (expr_height x) (set_height s) low), set_loops (d + length vs) s h.2 (shallow_body d (length vs) (expr_height x) (set_height s) (few_vars vs h.1) low))
  item_loops d (tree.disable at x) h low = low_fits d x (shallow_one d (expr_height x) low)
  item_loops d (tree.solve at xs ys) h low = shallow_around d (max (exprs_height xs) (exprs_height ys)) low

  items_loops : (d : ℕ) (is : ItemTrees) → AreItems is → IsShallow d (items_height is) → ItemsLoopsFit d is
  items_loops d tree.no_items h low = tt
  items_loops d (tree.more_items i is) h low = (item_loops d i (in_block i h.0) (shallow_item d (item_height i) (items_height is) low), items_loops d is h.1 (shallow_items d (item_height i) (items_height is) low))

  set_loops : (d : ℕ) (s : SetTree) → IsSet s → IsShallow d (set_height s) → SetLoopsFit d s
  set_loops d (tree.set true is) h low = items_loops d is h low
  set_loops d (tree.set false tree.no_items) h low = tt
  set_loops d (tree.set false (tree.more_items i tree.no_items)) h low = (item_loops d i (in_block i h.0) (shallow_item d (item_height i) 0 low), tt)
  set_loops d (tree.set false (tree.more_items i (tree.more_items j is))) h low = absurd h

  else_loops : (d : ℕ) (met : SetTree) (e : ElseTree) → IsElse met e → IsShallow d (else_height e) → ElseLoopsFit d e
  else_loops d met tree.no_else h low = tt
  else_loops d met (tree.else_set s) h low = set_loops d s h.1 low

  -- an item of a set may stand in a block too
  in_block : (i : ItemTree) → IsItem i → IsBlockItem i
  in_block (tree.plain at soft e d) h = h
  in_block (tree.unique at es) h = h
  in_block (tree.implies at t s) h = h
  in_block (tree.branch at t met unmet) h = h
  in_block (tree.foreach at x vs s) h = h
  in_block (tree.disable at x) h = h
  in_block (tree.solve at xs ys) h = absurd h

pub block_items_loops : (d : ℕ) (is : ItemTrees) → AreBlockItems is → IsShallow d (items_height is) → ItemsLoopsFit d is
block_items_loops d tree.no_items h low = tt
block_items_loops d (tree.more_items i is) h low =
    (item_loops d i h.0 (shallow_item d (item_height i) (items_height is) low), block_items_loops d is h.1 (shallow_items d (item_height i) (items_height is) low))

pub in_line_loops : (d : ℕ) (is : ItemTrees) → AreItems is → IsShallow d (items_height is) → ItemsLoopsFit d is
in_line_loops d is h low = items_loops d is h low
