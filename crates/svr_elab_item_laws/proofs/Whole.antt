-- What is accepted among constraint items is lawful.
use Rattle.std.proofs.Common.{◌≡◌, ◌≤◌, ◌+◌, ◌*◌, ℕ, max, Bool, true, false, not, ◌&&◌, ◌||◌, List, [], ◌∷◌, length, Option, None, Some, refl, ap, ◌∙◌, inl, inr, arith}
use Rattle.std.specs.Prelude.{⊤, nat_lt}
use Rattle.svr_limits.specs.declared.limit.TheConstants.{LOOP_LIMIT, HEIGHT_LIMIT}
use Rattle.svr_refusal.specs.declared.Refusal.{Refusal}
use Rattle.svr_refusal.specs.declared.Refusal.TheVariants as refusal
use Rattle.svr_tree.specs.ExprTree as raw
use Rattle.svr_tree.specs.ExprTree.{ExprTree, ExprTrees}
use Rattle.svr_tree.specs.ExprGrammar.{expr_height, exprs_height}
use Rattle.svr_tree.specs.ItemTree as tree
use Rattle.svr_tree.specs.ItemTree.{ItemTree, ItemTrees, SetTree, ElseTree}
use Rattle.svr_tree.specs.ItemGrammar.{AreLoopVars, IsItem, AreItems, IsSet, IsElse, IsBlockItem, AreBlockItems, dist_items_height, item_height, items_height, set_height, else_height}
use Rattle.svr_typed.specs.declared.Prop.{Prop}
use Rattle.svr_typed.specs.declared.TVar.{TVar}
use Rattle.svr_elab_fault.specs.declared.Fault.{Fault}
use Rattle.svr_elab_fault.specs.Refusals.{first_one, when}
use Rattle.svr_elab_names.specs.declared.Meaning.{Meaning}
use Rattle.svr_elab_names.specs.declared.Meaning.TheVariants.{Wrong, LoopOf, ItemOf, MemberOf, PropertyOf, SizeOf, FoldOf, VariableOf, ObjectOf}
use Rattle.svr_elab_names.specs.Names.{Space, look, is_array, or_else, only_if}
use Rattle.svr_elab_part.specs.Fits.{AllFit}
use Rattle.svr_elab_part.specs.Elab as expr
use Rattle.svr_elab_part.specs.Elab.{Elab, is_no_array}
use Rattle.svr_elab_part.specs.Shapes.{is_open, array_property}
use Rattle.svr_elab_part.specs.Forms.{is_whole}
use Rattle.svr_elab_part.proofs.Valued.{none_left, none_right, not_when}
use Rattle.svr_elab_part.proofs.Looked.{OptionIs}
use Rattle.svr_elab_expr_laws.specs.Known.{IsKnown}
use Rattle.svr_elab_stand_laws.proofs.Found.{MeaningIs, found}
use Rattle.svr_elab_item.specs.declared.Around.{Around}
use Rattle.svr_elab_item.specs.Fits.{ItemFits, ItemsFit, SetFits, ElseFits}
use Rattle.svr_elab_item.specs.Items as spec
use Rattle.svr_elab_item.specs.Items.{ItemsElab, ElseElab, DistElab, UniqueElab, SolveElab, in_body, under, over, outside, has_rows, has_too_many_names, is_no_target, is_cyclic_root, differs}
use Rattle.svr_elab_item_laws.specs.Lawful.{ThereIs, IsPlace, AcceptedItemsAreLawful}
use Rattle.svr_elab_item_laws.proofs.Roots.{true_false, false_true, Rooted}
use Rattle.svr_elab_item_laws.proofs.Rooting.{any_variable}
use Rattle.svr_elab_item_laws.proofs.Sole.{not_not, whole_of, whole_extent}
use Rattle.svr_elab_item_laws.proofs.Trees.{accepted_items_have_trees}
use Rattle.svr_elab_item_laws.proofs.Places.{Here, Fixed, place_named, place_body, value_is, root_at, look_place}
use Rattle.svr_elab_item_laws.proofs.Members.{member_is, target_is}
use Rattle.svr_elab_item_laws.proofs.Dealt.{dealt}
use Rattle.svr_elab_item_laws.proofs.Standing.{Item, Items, Else, Unique, Names, Solved, plain_stands, dist_stands, unique_more, unique_stands, implies_stands, else_stands, branch_stands, loop_stands, disable_stands, solved_more, prop_solved, solve_stands, items_more}

-- ---- heights: two loops for each level at the most

left_low : (d a b m : ℕ) → d + 2 * (max a b + 1) ≤ m → d + a ≤ m
left_low d a b m h = omega (arith, h)

right_low : (d a b m : ℕ) → d + 2 * (max a b + 1) ≤ m → d + b ≤ m
right_low d a b m h = omega (arith, h)

one_low : (d a m : ℕ) → d + 2 * (a + 1) ≤ m → d + a ≤ m
one_low d a m h = omega (arith, h)

right_set : (d a b m : ℕ) → d + 2 * (max a b + 1) ≤ m → d + 2 * b ≤ m
right_set d a b m h = omega (arith, h)

test_low : (d a b c m : ℕ) → d + 2 * (max (max a b) c + 1) ≤ m → d + a ≤ m
test_low d a b c m h = omega (arith, h)

met_set : (d a b c m : ℕ) → d + 2 * (max (max a b) c + 1) ≤ m → d + 2 * b ≤ m
met_set d a b c m h = omega (arith, h)

unmet_set : (d a b c m : ℕ) → d + 2 * (max (max a b) c + 1) ≤ m → d + 2 * c ≤ m
unmet_set d a b c m h = omega (arith, h)

first_item : (d a b m : ℕ) → d + 2 * max a b ≤ m → d + 2 * a ≤ m
first_item d a b m h = omega (arith, h)

other_items : (d a b m : ℕ) → d + 2 * max a b ≤ m → d + 2 * b ≤ m
other_items d a b m h = omega (arith, h)

loop_set : (d k a b m : ℕ) → k ≤ 2 → d + 2 * (max a b + 1) ≤ m → d + k + 2 * b ≤ m
loop_set d k a b m l h = omega (arith, h, l)

loop_low : (d k a b m : ℕ) → k ≤ 2 → d + 2 * (max a b + 1) ≤ m → d + k ≤ m
loop_low d k a b m l h = omega (arith, h, l)

less : (d a b m : ℕ) → d + max a b ≤ m → d + a ≤ m
less d a b m h = omega (arith, h)

less_right : (d a b m : ℕ) → d + max a b ≤ m → d + b ≤ m
less_right d a b m h = omega (arith, h)

-- ---- each loop has a name or two

abbrev mutual
  pub Looped : ItemTree → Type 0
  Looped (tree.plain at soft e d) = ⊤
  Looped (tree.unique at es) = ⊤
  Looped (tree.implies at t s) = SetLooped s
  Looped (tree.branch at t met unmet) = SetLooped met × ElseLooped unmet
  Looped (tree.foreach at x vs s) = AreLoopVars vs × SetLooped s
  Looped (tree.disable at x) = ⊤
  Looped (tree.solve at xs ys) = ⊤

  pub AllLooped : ItemTrees → Type 0
  AllLooped tree.no_items = ⊤
  AllLooped (tree.more_items i is) = Looped i × AllLooped is

  pub SetLooped : SetTree → Type 0
  SetLooped (tree.set braces is) = AllLooped is

  pub ElseLooped : ElseTree → Type 0
  ElseLooped tree.no_else = ⊤
  ElseLooped (tree.else_set s) = SetLooped s

mutual
  item_looped : (i : ItemTree) → IsItem i → Looped i
  item_looped (tree.plain at soft e d) h = tt
  item_looped (tree.unique at es) h = tt
  item_looped (tree.implies at t s) h = set_looped s h.3
  item_looped (tree.branch at t met unmet) h = (set_looped met h.1, else_looped met unmet h.2)
  item_looped (tree.foreach at x vs s) h = (h.1, set_looped s h.2)
  item_looped (tree.disable at x) h = tt
  item_looped (tree.solve at xs ys) h = absurd h

  all_looped : (is : ItemTrees) → AreItems is → AllLooped is
  all_looped tree.no_items h = tt
  all_looped (tree.more_items i is) h = (item_looped i h.0, all_looped is h.1)

  set_looped : (s : SetTree) → IsSet s → SetLooped s
  set_looped (tree.set true is) h = all_looped is h
  set_looped (tree.set false tree.no_items) h = tt
  set_looped (tree.set false (tree.more_items i tree.no_items)) h = (item_looped i h.0, tt)
  set_looped (tree.set false (tree.more_items i (tree.more_items j is))) h = absurd h

  else_looped : (met : SetTree) (e : ElseTree) → IsElse met e → ElseLooped e
  else_looped met tree.no_else h = tt
  else_looped met (tree.else_set s) h = set_looped s h.1

block_item_looped : (i : ItemTree) → IsBlockItem i → Looped i
block_item_looped (tree.plain at soft e d) h = tt
block_item_looped (tree.unique at es) h = tt
block_item_looped (tree.implies at t s) h = item_looped (tree.implies at t s) h
block_item_looped (tree.branch at t met unmet) h = item_looped (tree.branch at t met unmet) h
block_item_looped (tree.foreach at x vs s) h = item_looped (tree.foreach at x vs s) h
block_item_looped (tree.disable at x) h = tt
block_item_looped (tree.solve at xs ys) h = tt

block_items_looped : (is : ItemTrees) → AreBlockItems is → AllLooped is
block_items_looped tree.no_items h = tt
block_items_looped (tree.more_items i is) h = (block_item_looped i h.0, block_items_looped is h.1)

few_names : (vs : List ℕ) → AreLoopVars vs → length vs ≤ 2
few_names [] h = absurd h
few_names (i ∷ []) h = omega arith
few_names (i ∷ (j ∷ [])) h = omega arith
few_names (i ∷ (j ∷ (k ∷ more))) h = absurd h

names_are : (ps : List Prop) (vs : List TVar) (names : List ℕ) (rows : Bool) → AreLoopVars names → (nat_lt 1 (length names) && not rows) ≡ false → Names ps vs (length names) rows
names_are ps vs [] rows h k = absurd h
names_are ps vs (i ∷ []) rows h k = inl refl
names_are ps vs (i ∷ (j ∷ [])) rows h k = inr (refl, not_not rows k)
names_are ps vs (i ∷ (j ∷ (l ∷ more))) rows h k = absurd h

-- ---- what is around an item

and_false : (a b : Bool) → a ≡ true → (a && b) ≡ false → b ≡ false
and_false true b h k = k
and_false false b h k = absurd (false_true h)

none_before : (a b : Option ℕ) → or_else a b ≡ None → a ≡ None
none_before None b h = refl
none_before (Some x) b h = h

none_behind : (a b : Option ℕ) → or_else a b ≡ None → b ≡ None
none_behind None b h = h
none_behind (Some x) b h = absurd (let e : Some x ≡ None = h in cc)

only_none : (b : Bool) (at : ℕ) → only_if b (Some at) ≡ None → b ≡ false
only_none true at h = absurd (let e : Some at ≡ None = h in cc)
only_none false at h = refl

both_false : (a b : Bool) → a ≡ false → b ≡ false → (a || b) ≡ false
both_false a b h k = ap (λ (x : Bool). x || b) h ∙ k

-- an open guard is known of, and so is a cyclic one
record Under (a : Around) (opened cyclic : Bool) : Type 0 where
  pub guard : a.open_guard ≡ None → opened ≡ false
  pub cyclic_is : a.cyclic ≡ cyclic

under_is : (a : Around) (opened cyclic : Bool) (t : Elab (Option Fault)) → Under a opened cyclic → Under (under a t) (opened || is_open t.reads) (cyclic || t.reads.cyclic)
under_is a opened cyclic t u = record {
  guard = λ e. both_false opened (is_open t.reads) (u.guard (none_before a.open_guard (only_if (is_open t.reads) (Some t.at)) e)) (only_none (is_open t.reads) t.at (none_behind a.open_guard (only_if (is_open t.reads) (Some t.at)) e));
  cyclic_is = ap (λ (x : Bool). x || t.reads.cyclic) u.cyclic_is;
}

over_is : (a : Around) (opened cyclic : Bool) (x : Elab (Option Fault)) → Under a opened cyclic → Under (over a x) opened (cyclic || x.reads.cyclic)
over_is a opened cyclic x u = record { guard = u.guard; cyclic_is = ap (λ (y : Bool). y || x.reads.cyclic) u.cyclic_is }

no_guard : (g : Option ℕ) (r : Refusal) → spec.at_some first_one g r ≡ None → g ≡ None
no_guard None r h = refl
no_guard (Some at) r h = absurd (true_false (not_when true at r h))

refused : {A : Type 0} (token : ℕ) (r : Refusal) → when first_one true token r ≡ None → A
refused token r h = absurd (true_false (not_when true token r h))

module _ (ps : List Prop) (vs : List TVar) where
  -- ---- `unique`

  uniques : (depth : ℕ) (n : Space) → IsPlace ps vs depth n → (es : ExprTrees) (start : UniqueElab (Option Fault)) → (start.faults ≡ None → OptionIs (Unique ps vs depth start.first) start.trees) → AllFit es
      → depth + exprs_height es ≤ LOOP_LIMIT → (spec.members first_one n start es).faults ≡ None → OptionIs (Unique ps vs depth (spec.members first_one n start es).first) (spec.members first_one n start es).trees
  uniques depth n m raw.no_exprs start k l b f = k f
  uniques depth n m (raw.more_exprs e es) start k l b f =
      let x : Elab (Option Fault) = expr.sole first_one (expr.elab first_one n e) in
      uniques depth n m es (spec.and_member first_one start x)
      (λ g. let rest = none_right start.faults _ g in
      let tests = none_right x.faults _ rest in
      unique_more ps vs depth start.first x.form.root x.shape start.trees x.tree (k (none_left start.faults _ g)) (member_is ps vs depth n m e l.0 (less depth (expr_height e) (exprs_height es) LOOP_LIMIT b) (none_left x.faults _ rest))
      (not_when (is_cyclic_root x.form.root) x.at refusal.UniqueRandc (none_left _ _ tests)) (not_when (differs start.first x.shape) x.at refusal.UniqueTypes (none_right (when first_one (is_cyclic_root x.form.root) x.at refusal.UniqueRandc) _ tests)))
      l.1 (less_right depth (expr_height e) (exprs_height es) LOOP_LIMIT b) f

  -- ---- `solve`

  abbrev SolvedSo : SolveElab (Option Fault) → Type 0
  SolvedSo s = s.faults ≡ None → OptionIs (Solved ps vs) s.trees

  solved : (depth name : ℕ) (s : SolveElab (Option Fault)) (m : Meaning) → MeaningIs (Here ps vs) any_variable depth m → SolvedSo s → SolvedSo (spec.and_solve first_one s name m)
  solved depth name s (Wrong w) h k f = refused w refusal.UnknownName (none_right s.faults _ f)
  solved depth name s (LoopOf i) h k f = refused name refusal.UnknownName (none_right s.faults _ f)
  solved depth name s (ItemOf i p) h k f = refused name refusal.UnknownName (none_right s.faults _ f)
  solved depth name s (MemberOf v kind) h k f = refused name refusal.UnknownName (none_right s.faults _ f)
  solved depth name s (PropertyOf p o) h k f =
      let tests = none_right s.faults _ f in
      solved_more ps vs s.trees (spec.solve_tree (PropertyOf p o)) (k (none_left s.faults _ f))
      (prop_solved ps vs p p.kind h.0 h.0.0 h.0.1.0 (not_not (spec.is_plain_rand p.rand) (not_when (not (spec.is_plain_rand p.rand)) name refusal.SolveRandc (none_left _ _ tests)))
      (not_when (is_array p.dims) name refusal.LeftOut (none_right (when first_one (not (spec.is_plain_rand p.rand)) name refusal.SolveRandc) _ tests)))
  solved depth name s (SizeOf p o) h k f = refused name refusal.SolveRandc (none_right s.faults _ f)
  solved depth name s (FoldOf p o g array) h k f = refused name refusal.UnknownName (none_right s.faults _ f)
  solved depth name s (VariableOf v kind) h k f = refused name refusal.UnknownName (none_right s.faults _ f)
  solved depth name s (ObjectOf o c) h k f = refused name refusal.UnknownName (none_right s.faults _ f)

  solve_path : (depth : ℕ) (n : Space) → IsPlace ps vs depth n → (e : ExprTree) (s : SolveElab (Option Fault)) → SolvedSo s → SolvedSo (spec.solve_path first_one n s e)
  solve_path depth n m (raw.path at sc names call) s k = solved depth (expr.last_name at names) s (look n sc names).meaning (found (Here ps vs) any_variable depth n (look_place ps vs depth n m) sc names) k
  solve_path depth n m (raw.number at v w sg) s k = k
  solve_path depth n m (raw.bit_select at x i call) s k = k
  solve_path depth n m (raw.part_select at x f l call) s k = k
  solve_path depth n m (raw.unary at op x) s k = k
  solve_path depth n m (raw.binary at op x y) s k = k
  solve_path depth n m (raw.choice at t x y) s k = k
  solve_path depth n m (raw.inside at x rs) s k = k
  solve_path depth n m (raw.join at xs) s k = k
  solve_path depth n m (raw.copies at c xs) s k = k
  solve_path depth n m (raw.sign at sg x) s k = k
  solve_path depth n m (raw.paren at x) s k = k
  solve_path depth n m (raw.reduce at x f item body) s k = k

  solve_list : (depth : ℕ) (n : Space) → IsPlace ps vs depth n → (es : ExprTrees) (s : SolveElab (Option Fault)) → SolvedSo s → SolvedSo (spec.solve_list first_one n s es)
  solve_list depth n m raw.no_exprs s k = k
  solve_list depth n m (raw.more_exprs e es) s k = solve_list depth n m es (spec.solve_path first_one n s e) (solve_path depth n m e s k)

  -- ---- the whole

  mutual
    item_is : (depth : ℕ) (n : Space) → IsPlace ps vs depth n → (a : Around) (opened cyclic : Bool) → Under a opened cyclic → (i : ItemTree) → ItemFits i → Looped i → depth + 2 * item_height i ≤ LOOP_LIMIT
        → (spec.item first_one n a i).faults ≡ None → OptionIs (Item ps vs depth opened cyclic) (spec.item first_one n a i).tree
    item_is depth n m a opened cyclic u (tree.plain at soft e None) l q b f =
        let v : Elab (Option Fault) = expr.value first_one n e in
        plain_stands ps vs depth opened cyclic soft a.cyclic v.reads v.shape v.tree u.cyclic_is (not_when (soft && (a.cyclic || v.reads.cyclic)) at refusal.SoftOnRandc (none_right v.faults _ f))
        (value_is ps vs depth n m e l.0 (left_low depth (expr_height e) 0 LOOP_LIMIT b) (none_left v.faults _ f))
    item_is depth n m a opened cyclic u (tree.plain at soft e (Some d)) l q b f =
        let v : Elab (Option Fault) = expr.value first_one n e in
        let k : DistElab (Option Fault) = spec.dist_items first_one n (spec.no_dist first_one) d.items in
        let rest = none_right v.faults _ f in
        let whole = none_left (spec.dist_faults first_one v d.at k) _ rest in
        let tests = none_right k.faults _ whole in
        dist_stands ps vs depth opened cyclic soft a.cyclic k.cyclic v.reads v.shape v.tree k.tree u.cyclic_is
        (not_when (soft && (a.cyclic || (v.reads.cyclic || k.cyclic))) at refusal.SoftOnRandc (none_right (spec.dist_faults first_one v d.at k) _ rest))
        (not_when v.reads.cyclic d.at refusal.DistOnRandc (none_left _ _ tests))
        (not_not (is_open v.reads) (not_when (not (is_open v.reads)) d.at refusal.DistWithoutRand (none_right (when first_one v.reads.cyclic d.at refusal.DistOnRandc) _ tests)))
        (value_is ps vs depth n m e l.0 (left_low depth (expr_height e) (dist_items_height d.items) LOOP_LIMIT b) (none_left v.faults _ f))
        (dealt ps vs depth n m d.items (spec.no_dist first_one) (λ g. (tt, tt, refl)) l.1 (right_low depth (expr_height e) (dist_items_height d.items) LOOP_LIMIT b) (none_left k.faults _ whole))
    item_is depth n m a opened cyclic u (tree.unique at es) l q b f =
        let k : UniqueElab (Option Fault) = spec.members first_one n (spec.no_members first_one) es in
        unique_stands ps vs depth opened cyclic k.first k.trees (uniques depth n m es (spec.no_members first_one) (λ g. tt) l (one_low depth (exprs_height es) LOOP_LIMIT b) f)
    item_is depth n m a opened cyclic u (tree.implies at t s) l q b f =
        let v : Elab (Option Fault) = expr.value first_one n t in
        let k : ItemsElab (Option Fault) = spec.items_in first_one n (under a v) s in
        implies_stands ps vs depth opened cyclic v.reads v.shape v.tree k.trees (value_is ps vs depth n m t l.0 (left_low depth (expr_height t) (set_height s) LOOP_LIMIT b) (none_left v.faults _ f))
        (set_is depth n m (under a v) (opened || is_open v.reads) (cyclic || v.reads.cyclic) (under_is a opened cyclic v u) s l.1 q (right_set depth (expr_height t) (set_height s) LOOP_LIMIT b) (none_right v.faults _ f))
    item_is depth n m a opened cyclic u (tree.branch at t met unmet) l q b f =
        let v : Elab (Option Fault) = expr.value first_one n t in
        let x : ItemsElab (Option Fault) = spec.items_in first_one n (under a v) met in
        let y : ElseElab (Option Fault) = spec.else_in first_one n (under a v) unmet in
        let rest = none_right v.faults _ f in
        branch_stands ps vs depth opened cyclic v.reads v.shape v.tree x.trees y.tree (value_is ps vs depth n m t l.0 (test_low depth (expr_height t) (set_height met) (else_height unmet) LOOP_LIMIT b) (none_left v.faults _ f))
        (set_is depth n m (under a v) (opened || is_open v.reads) (cyclic || v.reads.cyclic) (under_is a opened cyclic v u) met l.1 q.0 (met_set depth (expr_height t) (set_height met) (else_height unmet) LOOP_LIMIT b) (none_left x.faults _ rest))
        (else_is depth n m (under a v) (opened || is_open v.reads) (cyclic || v.reads.cyclic) (under_is a opened cyclic v u) unmet l.2 q.1 (unmet_set depth (expr_height t) (set_height met) (else_height unmet) LOOP_LIMIT b) (none_right x.faults _ rest))
    item_is depth n m a opened cyclic u (tree.foreach at e names s) l q b f =
        let z : Elab (Option Fault) = expr.elab first_one n e in
        let x : Elab (Option Fault) = expr.sole first_one z in
        let k : ItemsElab (Option Fault) = spec.items_in first_one (in_body n names) (over a z) s in
        let r : Rooted (Here ps vs) (Fixed ps vs) x = root_at ps vs depth n m e in
        let rest = none_right x.faults _ f in
        let array = not_when (is_no_array x) x.form.name refusal.UnknownName (none_left _ _ rest) in
        let behind = none_right (when first_one (is_no_array x) x.form.name refusal.UnknownName) _ rest in
        let many = not_when (has_too_many_names x names) x.form.name refusal.LeftOut (none_left _ _ behind) in
        let whole = whole_of (Here ps vs) (Fixed ps vs) x r (none_left x.faults _ f) array in
        let extent = whole_extent (Here ps vs) (Fixed ps vs) x r (none_left x.faults _ f) array in
        loop_stands ps vs depth opened cyclic (length names) x.form.root x.shape x.tree x.reads k.trees r.rooted whole
        (names_are ps vs names (has_rows (array_property x.form.root).dims) q.0 (and_false (is_whole x.form.extent) (nat_lt 1 (length names) && not (has_rows (array_property x.form.root).dims)) extent many))
        (loop_low depth (length names) (expr_height e) (set_height s) LOOP_LIMIT (few_names names q.0) b)
        (set_is (depth + length names) (in_body n names) (place_body ps vs depth n names m) (over a z) opened (cyclic || z.reads.cyclic) (over_is a opened cyclic z u) s l.2 q.1
        (loop_set depth (length names) (expr_height e) (set_height s) LOOP_LIMIT (few_names names q.0) b) (none_right (when first_one (has_too_many_names x names) x.form.name refusal.LeftOut) k.faults behind))
    item_is depth n m a opened cyclic u (tree.disable at e) l q b f =
        let x : Elab (Option Fault) = expr.sole first_one (expr.elab first_one n e) in
        let rest = none_right x.faults _ f in
        let behind = none_right (when first_one (is_no_target x) x.form.name refusal.UnknownName) _ rest in
        disable_stands ps vs depth opened cyclic x.tree (u.guard (no_guard a.open_guard refusal.StateNeeded (none_right (spec.at_some first_one x.form.random_index refusal.RandomIndex) _ behind)))
        (target_is ps vs depth n m e l (one_low depth (expr_height e) LOOP_LIMIT b) (none_left x.faults _ f) (not_when (is_no_target x) x.form.name refusal.UnknownName (none_left _ _ rest))
        (no_guard x.form.random_index refusal.RandomIndex (none_left _ _ behind)))
    item_is depth n m a opened cyclic u (tree.solve at xs ys) l q b f =
        let x : SolveElab (Option Fault) = spec.solve_list first_one n (spec.no_names first_one) xs in
        let y : SolveElab (Option Fault) = spec.solve_list first_one n (spec.no_names first_one) ys in
        solve_stands ps vs depth opened cyclic x.trees y.trees (solve_list depth n m xs (spec.no_names first_one) (λ g. tt) (none_left x.faults _ f)) (solve_list depth n m ys (spec.no_names first_one) (λ g. tt) (none_right x.faults _ f))

    items_are : (depth : ℕ) (n : Space) → IsPlace ps vs depth n → (a : Around) (opened cyclic : Bool) → Under a opened cyclic → (is : ItemTrees) (start : ItemsElab (Option Fault))
        → (start.faults ≡ None → OptionIs (Items ps vs depth opened cyclic) start.trees) → ItemsFit is → AllLooped is → depth + 2 * items_height is ≤ LOOP_LIMIT
        → (spec.items first_one n a start is).faults ≡ None → OptionIs (Items ps vs depth opened cyclic) (spec.items first_one n a start is).trees
    items_are depth n m a opened cyclic u tree.no_items start k l q b f = k f
    items_are depth n m a opened cyclic u (tree.more_items i is) start k l q b f =
        items_are depth n m a opened cyclic u is (spec.and_item first_one start (spec.item first_one n a i))
        (λ g. items_more ps vs depth opened cyclic start.trees (spec.item first_one n a i).tree (k (none_left start.faults _ g))
        (item_is depth n m a opened cyclic u i l.0 q.0 (first_item depth (item_height i) (items_height is) LOOP_LIMIT b) (none_right start.faults _ g)))
        l.1 q.1 (other_items depth (item_height i) (items_height is) LOOP_LIMIT b) f

    set_is : (depth : ℕ) (n : Space) → IsPlace ps vs depth n → (a : Around) (opened cyclic : Bool) → Under a opened cyclic → (s : SetTree) → SetFits s → SetLooped s → depth + 2 * set_height s ≤ LOOP_LIMIT
        → (spec.items_in first_one n a s).faults ≡ None → OptionIs (Items ps vs depth opened cyclic) (spec.items_in first_one n a s).trees
    set_is depth n m a opened cyclic u (tree.set braces is) l q b f = items_are depth n m a opened cyclic u is (spec.no_items first_one) (λ g. (tt, tt)) l q b f

    else_is : (depth : ℕ) (n : Space) → IsPlace ps vs depth n → (a : Around) (opened cyclic : Bool) → Under a opened cyclic → (s : ElseTree) → ElseFits s → ElseLooped s → depth + 2 * else_height s ≤ LOOP_LIMIT
        → (spec.else_in first_one n a s).faults ≡ None → OptionIs (Else ps vs depth opened cyclic) (spec.else_in first_one n a s).tree
    else_is depth n m a opened cyclic u tree.no_else l q b f = (tt, tt)
    else_is depth n m a opened cyclic u (tree.else_set s) l q b f =
        else_stands ps vs depth opened cyclic (spec.items_in first_one n a s).trees (set_is depth n m a opened cyclic u s l q b f)

-- nothing is around an item of a block or of a set behind a call
around_none : Under outside false false
around_none = record { guard = λ e. refl; cyclic_is = refl }

within : (h : ℕ) → h ≤ HEIGHT_LIMIT → 0 + 2 * h ≤ LOOP_LIMIT
within h b = omega (arith, b)

there : {A : Type 0} (P : A → Type 0) (x : Option A) → IsKnown x → OptionIs P x → ThereIs P x
there P None k h = absurd (false_true k)
there P (Some x) k h = h

pub accepted_items_are_lawful : AcceptedItemsAreLawful
accepted_items_are_lawful ps vs n is m l q b f =
    there (Items ps vs 0 false false) (spec.items first_one n outside (spec.no_items first_one) is).trees (accepted_items_have_trees n outside is (place_named ps vs 0 n m) f)
    (items_are ps vs 0 n m outside false false around_none is (spec.no_items first_one) (λ g. (tt, tt)) l (block_items_looped is q) (within (items_height is) b) f)
