-- Constraint items, typed, with their refusals (IEEE 1800-2017, 18.5).
use Rattle.std.specs.Prelude.{ℕ, Bool, true, false, not, ◌&&◌, ◌||◌, ◌==◌, nat_lt, if◌then◌else◌, List, [], ◌∷◌, length, Option, Some, None, option_map}
use Rattle.svr_operator.specs.declared.Share.{Share}
use Rattle.svr_operator.specs.declared.Rand.{Rand}
use Rattle.svr_operator.specs.declared.Rand.TheVariants as rand
use Rattle.svr_typed.specs.ExprTerm as term
use Rattle.svr_typed.specs.ExprTerm.{ExprTerm, typed}
use Rattle.svr_typed.specs.ItemTerm as item_term
use Rattle.svr_typed.specs.ItemTerm.{DistTerm, ItemTerm, ElseTerm}
use Rattle.svr_tree.specs.ExprTree as raw
use Rattle.svr_tree.specs.ExprTree.{ExprTree, ExprTrees, RangeTree}
use Rattle.svr_tree.specs.ItemTree as tree
use Rattle.svr_tree.specs.ItemTree.{DistItemTree, DistTree, ItemTree, ItemTrees, SetTree, ElseTree}
use Rattle.svr_refusal.specs.declared.Refusal.{Refusal}
use Rattle.svr_refusal.specs.declared.Refusal.TheVariants as refusal
use Rattle.svr_elab_fault.specs.Refusals.{Gather, when}
use Rattle.svr_elab_names.specs.declared.Dims.{Dims}
use Rattle.svr_elab_names.specs.declared.Dims.TheVariants as dims
use Rattle.svr_elab_names.specs.declared.Property.{Property}
use Rattle.svr_elab_names.specs.declared.Meaning.{Meaning}
use Rattle.svr_elab_names.specs.declared.Meaning.TheVariants.{Wrong, LoopOf, ItemOf, MemberOf, PropertyOf, SizeOf, FoldOf, VariableOf, ObjectOf}
use Rattle.svr_elab_names.specs.Names.{Space, look, is_array, or_else, only_if, in_loop}
use Rattle.svr_elab_part.specs.declared.Shape.{Shape}
use Rattle.svr_elab_part.specs.declared.Root.{Root}
use Rattle.svr_elab_part.specs.declared.Root.TheVariants as root
use Rattle.svr_elab_part.specs.Elab.{Elab, RangeElab, elab, value, sole, bound, value_range, span_range, is_no_array, last_name}
use Rattle.svr_elab_part.specs.Shapes.{both_known, all_known, and_more, is_open, is_randc, inner_of, array_property}
use Rattle.svr_elab_part.specs.Forms.{is_refused, is_whole}
use Rattle.svr_elab_item.specs.declared.part.Around.{Around}

pub record ItemElab (F : Type 0) : Type 0 where
  pub tree : Option ItemTerm
  pub faults : F

pub record ItemsElab (F : Type 0) : Type 0 where
  pub trees : Option (List ItemTerm)
  pub faults : F

abbrev pub outside : Around
outside = record { open_guard = None; cyclic = false }

abbrev pub under : {F : Type 0} → Around → Elab F → Around
under a t = record { open_guard = or_else a.open_guard (only_if (is_open t.reads) (Some t.at)); cyclic = a.cyclic || t.reads.cyclic }

-- a loop reads the size of its array
abbrev pub over : {F : Type 0} → Around → Elab F → Around
over a x = record { open_guard = a.open_guard; cyclic = a.cyclic || x.reads.cyclic }

-- ---- members of `dist`

pub record DistElab (F : Type 0) : Type 0 where
  pub tree : Option (List DistTerm)
  pub faults : F
  pub cyclic : Bool

pub record UniqueElab (F : Type 0) : Type 0 where
  pub trees : Option (List ExprTerm)
  pub first : Option (Option Shape)
  pub faults : F

pub record SolveElab (F : Type 0) : Type 0 where
  pub trees : Option (List ExprTerm)
  pub faults : F

pub record ElseElab (F : Type 0) : Type 0 where
  pub tree : Option ElseTerm
  pub faults : F

-- ---- properties by form

abbrev pub is_property : Root → Bool
is_property root.Nothing = false
is_property root.Refused = false
is_property root.Member = false
is_property (root.Variable v) = false
is_property (root.Field p o) = true
is_property (root.Object o c) = false

abbrev pub is_cyclic_root : Root → Bool
is_cyclic_root root.Nothing = false
is_cyclic_root root.Refused = false
is_cyclic_root root.Member = false
is_cyclic_root (root.Variable v) = false
is_cyclic_root (root.Field p o) = is_randc p.rand
is_cyclic_root (root.Object o c) = false

abbrev pub array_of : Root → Option Property
array_of root.Nothing = None
array_of root.Refused = None
array_of root.Member = None
array_of (root.Variable v) = None
array_of (root.Field p o) = Some p
array_of (root.Object o c) = None

abbrev pub has_rows : Dims → Bool
has_rows dims.Scalar = false
has_rows (dims.Fixed n) = false
has_rows (dims.Rows n m) = true
has_rows dims.Dynamic = false

-- two names over an array of one dimension
abbrev pub has_too_many_names : {F : Type 0} → Elab F → List ℕ → Bool
has_too_many_names x vs = is_whole x.form.extent && (nat_lt 1 (length vs) && not (has_rows (array_property x.form.root).dims))

-- the whole of a property, or an element
abbrev pub is_target : {F : Type 0} → Elab F → Bool
is_target x = is_property x.form.root && not x.form.bits

-- known to be none of these
abbrev pub is_no_target : {F : Type 0} → Elab F → Bool
is_no_target x = not (is_refused x.form.root) && not (is_target x)

abbrev pub same_shape : Option Shape → Option Shape → Bool
same_shape None y = true
same_shape (Some x) None = true
same_shape (Some x) (Some y) = (x.width == y.width) && (if x.signed then y.signed else not y.signed)

-- inside the loops of these names, the last one innermost
abbrev pub in_body : Space → List ℕ → Space
in_body n [] = n
in_body n (v ∷ vs) = in_body (in_loop n v) vs

abbrev pub differs : Option (Option Shape) → Option Shape → Bool
differs None x = false
differs (Some s) x = not (same_shape s x)

abbrev pub is_plain_rand : Rand → Bool
is_plain_rand rand.State = false
is_plain_rand rand.Rand = true
is_plain_rand rand.Randc = false

-- ---- items of several parts, where all are known

abbrev pub plain_tree : Bool → Option ExprTerm → Option ItemTerm
plain_tree soft x = option_map (λ x. item_term.plain soft x None) x

abbrev pub dist_tree : Bool → Option ExprTerm → Option (List DistTerm) → Option ItemTerm
dist_tree soft x ds = both_known (λ x ds. item_term.plain soft x (Some ds)) x ds

abbrev pub unique_tree : Option (List ExprTerm) → Option ItemTerm
unique_tree ts = option_map (λ ts. item_term.unique (term.exprs_of ts)) ts

abbrev pub implies_tree : Option ExprTerm → Option (List ItemTerm) → Option ItemTerm
implies_tree t is = both_known (λ t is. item_term.implies t (item_term.items_of is)) t is

abbrev pub else_tree : Option (List ItemTerm) → Option ElseTerm
else_tree is = option_map (λ is. item_term.else_items (item_term.items_of is)) is

abbrev pub branch_tree : Option ExprTerm → Option (List ItemTerm) → Option ElseTerm → Option ItemTerm
branch_tree t is e = all_known (λ t is e. item_term.branch t (item_term.items_of is) e) t is e

-- the array, its second dimension, and the number of loop variables
abbrev pub foreach_tree : Option Property → ℕ → Option (List ItemTerm) → Option ItemTerm
foreach_tree None names is = None
foreach_tree (Some p) names is = both_known (λ m is. item_term.foreach p.number m names (item_term.items_of is)) (inner_of p.dims) is

abbrev pub disable_tree : Option ExprTerm → Option ItemTerm
disable_tree x = option_map item_term.disable x

abbrev pub solve_trees : Option (List ExprTerm) → Option (List ExprTerm) → Option ItemTerm
solve_trees xs ys = both_known (λ xs ys. item_term.solve (term.exprs_of xs) (term.exprs_of ys)) xs ys

-- a name of a property in `solve`
abbrev pub solve_tree : Meaning → Option ExprTerm
solve_tree (Wrong w) = None
solve_tree (LoopOf k) = None
solve_tree (ItemOf k p) = None
solve_tree (MemberOf v kind) = None
solve_tree (PropertyOf p o) = option_map (λ k. typed k.kind.width k.kind.signed (term.prop p.number)) p.kind
solve_tree (SizeOf p o) = None
solve_tree (FoldOf p o f array) = None
solve_tree (VariableOf v kind) = None
solve_tree (ObjectOf o c) = None

module _ {F : Type 0} (g : Gather F) where
  abbrev pub at_some : Option ℕ → Refusal → F
  at_some None r = g.nothing
  at_some (Some at) r = when g true at r

  -- ---- `dist` (18.5.4)

  -- a range of `dist` has no whole arrays
  abbrev pub dist_range : Space → RangeTree → RangeElab F
  dist_range n (raw.one x) = value_range g (value g n x)
  dist_range n (raw.span l h) = span_range g (bound g n l) (bound g n h)

  abbrev pub no_dist : DistElab F
  no_dist = record { tree = Some []; faults = g.nothing; cyclic = false }

  abbrev pub weight_faults : Option (Share × Elab F) → F
  weight_faults None = g.nothing
  weight_faults (Some w) = g.both w.1.faults (when g (is_open w.1.reads) w.1.at refusal.StateNeeded)

  abbrev pub weight_cyclic : Option (Share × Elab F) → Bool
  weight_cyclic None = false
  weight_cyclic (Some w) = w.1.reads.cyclic

  abbrev pub dist_member_tree : RangeElab F → Option (Share × Elab F) → Option DistTerm
  dist_member_tree r None = option_map (λ r. record { range = r; weight = None }) r.tree
  dist_member_tree r (Some w) = both_known (λ r t. record { range = r; weight = Some (w.0, t) }) r.tree w.1.tree

  abbrev pub and_dist : DistElab F → RangeElab F → Option (Share × Elab F) → DistElab F
  and_dist d r w = record {
    tree = and_more d.tree (dist_member_tree r w);
    faults = g.both d.faults (g.both r.faults (weight_faults w));
    cyclic = d.cyclic || (r.reads.cyclic || weight_cyclic w);
  }

  abbrev pub weight_at : Space → Option (Share × ExprTree) → Option (Share × Elab F)
  weight_at n None = None
  weight_at n (Some w) = Some (w.0, value g n w.1)

  abbrev pub dist_items : Space → DistElab F → List DistItemTree → DistElab F
  dist_items n start [] = start
  dist_items n start (d ∷ ds) = dist_items n (and_dist start (dist_range n d.range) (weight_at n d.weight)) ds

  -- the whole of a distribution: the token `dist`, and its members
  abbrev pub dist_faults : Elab F → ℕ → DistElab F → F
  dist_faults x at d = g.both d.faults (g.both (when g x.reads.cyclic at refusal.DistOnRandc) (when g (not (is_open x.reads)) at refusal.DistWithoutRand))

  -- 18.5.14: neither the item nor what is around it reads a cyclic random property
  abbrev pub when_cyclic : Bool → ℕ → Around → Bool → F
  when_cyclic soft at a cyclic = when g (soft && (a.cyclic || cyclic)) at refusal.SoftOnRandc

  abbrev pub plain_item : Bool → ℕ → Around → Elab F → Option (ℕ × DistElab F) → ItemElab F
  plain_item soft at a x None = record {
    tree = plain_tree soft x.tree;
    faults = g.both x.faults (when_cyclic soft at a x.reads.cyclic);
  }
  plain_item soft at a x (Some d) = record {
    tree = dist_tree soft x.tree d.1.tree;
    faults = g.both x.faults (g.both (dist_faults x d.0 d.1) (when_cyclic soft at a (x.reads.cyclic || d.1.cyclic)));
  }

  -- ---- `unique` (18.5.5)

  abbrev pub and_member : UniqueElab F → Elab F → UniqueElab F
  and_member u x = record {
    trees = and_more u.trees x.tree;
    first = or_else u.first (Some x.shape);
    faults = g.both u.faults (g.both x.faults (g.both (when g (is_cyclic_root x.form.root) x.at refusal.UniqueRandc) (when g (differs u.first x.shape) x.at refusal.UniqueTypes)));
  }

  abbrev pub members : Space → UniqueElab F → ExprTrees → UniqueElab F
  members n u raw.no_exprs = u
  members n u (raw.more_exprs e es) = members n (and_member u (sole g (elab g n e))) es

  abbrev pub unique_item : UniqueElab F → ItemElab F
  unique_item u = record { tree = unique_tree u.trees; faults = u.faults }

  -- ---- `solve` (18.5.10): names of scalars that are declared `rand`

  abbrev pub solve_faults : ℕ → Meaning → F
  solve_faults name (Wrong w) = when g true w refusal.UnknownName
  solve_faults name (LoopOf k) = when g true name refusal.UnknownName
  solve_faults name (ItemOf k p) = when g true name refusal.UnknownName
  solve_faults name (MemberOf v kind) = when g true name refusal.UnknownName
  solve_faults name (PropertyOf p o) = g.both (when g (not (is_plain_rand p.rand)) name refusal.SolveRandc) (when g (is_array p.dims) name refusal.LeftOut)
  solve_faults name (SizeOf p o) = when g true name refusal.SolveRandc
  solve_faults name (FoldOf p o f array) = when g true name refusal.UnknownName
  solve_faults name (VariableOf v kind) = when g true name refusal.UnknownName
  solve_faults name (ObjectOf o c) = when g true name refusal.UnknownName

  abbrev pub and_solve : SolveElab F → ℕ → Meaning → SolveElab F
  and_solve s name m = record { trees = and_more s.trees (solve_tree m); faults = g.both s.faults (solve_faults name m) }

  abbrev pub solve_path : Space → SolveElab F → ExprTree → SolveElab F
  solve_path n s (raw.path at sc names call) = and_solve s (last_name at names) (look n sc names).meaning
  solve_path n s (raw.number at v w sg) = s
  solve_path n s (raw.bit_select at x i call) = s
  solve_path n s (raw.part_select at x f l call) = s
  solve_path n s (raw.unary at op x) = s
  solve_path n s (raw.binary at op x y) = s
  solve_path n s (raw.choice at t x y) = s
  solve_path n s (raw.inside at x rs) = s
  solve_path n s (raw.join at xs) = s
  solve_path n s (raw.copies at c xs) = s
  solve_path n s (raw.sign at sg x) = s
  solve_path n s (raw.paren at x) = s
  solve_path n s (raw.reduce at x f item body) = s

  abbrev pub solve_list : Space → SolveElab F → ExprTrees → SolveElab F
  solve_list n s raw.no_exprs = s
  solve_list n s (raw.more_exprs e es) = solve_list n (solve_path n s e) es

  abbrev pub solve_item : SolveElab F → SolveElab F → ItemElab F
  solve_item x y = record {
    tree = solve_trees x.trees y.trees;
    faults = g.both x.faults y.faults;
  }

  -- ---- sets

  abbrev pub implies_item : Elab F → ItemsElab F → ItemElab F
  implies_item t body = record {
    tree = implies_tree t.tree body.trees;
    faults = g.both t.faults body.faults;
  }

  abbrev pub else_part : ItemsElab F → ElseElab F
  else_part is = record { tree = else_tree is.trees; faults = is.faults }

  abbrev pub branch_item : Elab F → ItemsElab F → ElseElab F → ItemElab F
  branch_item t met unmet = record {
    tree = branch_tree t.tree met.trees unmet.tree;
    faults = g.both t.faults (g.both met.faults unmet.faults);
  }

  abbrev pub foreach_faults : Elab F → List ℕ → F → F
  foreach_faults x vs body =
      g.both x.faults (g.both (when g (is_no_array x) x.form.name refusal.UnknownName) (g.both (when g (has_too_many_names x vs) x.form.name refusal.LeftOut) body))

  abbrev pub foreach_item : Elab F → List ℕ → ItemsElab F → ItemElab F
  foreach_item x vs body = record {
    tree = foreach_tree (array_of x.form.root) (length vs) body.trees;
    faults = foreach_faults x vs body.faults;
  }

  -- the target is a property, an array or an element; its indexes mention nothing that can be random
  abbrev pub disable_faults : Around → Elab F → F
  disable_faults a x =
      g.both x.faults (g.both (when g (is_no_target x) x.form.name refusal.UnknownName)
      (g.both (at_some x.form.random_index refusal.RandomIndex) (at_some a.open_guard refusal.StateNeeded)))

  abbrev pub disable_item : Around → Elab F → ItemElab F
  disable_item a x = record { tree = disable_tree x.tree; faults = disable_faults a x }

  abbrev pub no_items : ItemsElab F
  no_items = record { trees = Some []; faults = g.nothing }

  abbrev pub and_item : ItemsElab F → ItemElab F → ItemsElab F
  and_item is i = record { trees = and_more is.trees i.tree; faults = g.both is.faults i.faults }

  abbrev pub no_else : ElseElab F
  no_else = record { tree = Some item_term.no_else; faults = g.nothing }

  abbrev pub no_members : UniqueElab F
  no_members = record { trees = Some []; first = None; faults = g.nothing }

  abbrev pub no_names : SolveElab F
  no_names = record { trees = Some []; faults = g.nothing }

  -- `n` says what names stand for, `a` what is around
  abbrev mutual
    pub item : Space → Around → ItemTree → ItemElab F
    item n a (tree.plain at soft e None) = plain_item soft at a (value g n e) None
    item n a (tree.plain at soft e (Some d)) = plain_item soft at a (value g n e) (Some (d.at, dist_items n no_dist d.items))
    item n a (tree.unique at es) = unique_item (members n no_members es)
    item n a (tree.implies at t s) = implies_item (value g n t) (items_in n (under a (value g n t)) s)
    item n a (tree.branch at t met unmet) =
        branch_item (value g n t) (items_in n (under a (value g n t)) met) (else_in n (under a (value g n t)) unmet)
    item n a (tree.foreach at x vs s) =
        foreach_item (sole g (elab g n x)) vs (items_in (in_body n vs) (over a (elab g n x)) s)
    item n a (tree.disable at x) = disable_item a (sole g (elab g n x))
    item n a (tree.solve at xs ys) = solve_item (solve_list n no_names xs) (solve_list n no_names ys)

    -- items behind those that `start` tells of
    pub items : Space → Around → ItemsElab F → ItemTrees → ItemsElab F
    items n a start tree.no_items = start
    items n a start (tree.more_items i is) = items n a (and_item start (item n a i)) is

    pub items_in : Space → Around → SetTree → ItemsElab F
    items_in n a (tree.set braces is) = items n a no_items is

    pub else_in : Space → Around → ElseTree → ElseElab F
    else_in n a tree.no_else = no_else
    else_in n a (tree.else_set s) = else_part (items_in n a s)
