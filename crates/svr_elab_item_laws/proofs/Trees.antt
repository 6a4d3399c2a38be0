-- Items in which nothing is refused have typed items.
use Rattle.std.proofs.Common.{◌≡◌, ℕ, true, List, [], ◌∷◌, ◌++◌, ◌+◌, length, Option, None, Some, option_map, refl, sym, subst}
use Rattle.std.specs.Prelude.{⊤}
use Rattle.svr_operator.specs.declared.Share.{Share}
use Rattle.svr_refusal.specs.declared.Refusal.{Refusal}
use Rattle.svr_refusal.specs.declared.Refusal.TheVariants as refusal
use Rattle.svr_tree.specs.ExprTree as raw
use Rattle.svr_tree.specs.ExprTree.{ExprTree, ExprTrees, RangeTree, BoundTree}
use Rattle.svr_tree.specs.ItemTree as tree
use Rattle.svr_tree.specs.ItemTree.{DistItemTree, ItemTree, ItemTrees, SetTree, ElseTree}
use Rattle.svr_typed.specs.ExprTerm as term
use Rattle.svr_typed.specs.ExprTerm.{ExprTerm, NodeTerm}
use Rattle.svr_typed.specs.ItemTerm as item_term
use Rattle.svr_typed.specs.ItemTerm.{ItemTerm}
use Rattle.svr_elab_fault.specs.declared.Fault.{Fault}
use Rattle.svr_elab_fault.specs.Refusals.{first_one, when}
use Rattle.svr_elab_names.specs.declared.Vector.{Vector}
use Rattle.svr_elab_names.specs.declared.Dims.{Dims}
use Rattle.svr_elab_names.specs.declared.Dims.TheVariants as dims
use Rattle.svr_elab_names.specs.declared.Property.{Property}
use Rattle.svr_elab_names.specs.declared.Meaning.{Meaning}
use Rattle.svr_elab_names.specs.declared.Meaning.TheVariants.{Wrong, LoopOf, ItemOf, MemberOf, PropertyOf, SizeOf, FoldOf, VariableOf, ObjectOf}
use Rattle.svr_elab_names.specs.declared.VarStand.{VarStand}
use Rattle.svr_elab_names.specs.declared.VarStand.TheVariants as stand
use Rattle.svr_elab_names.specs.Names.{Space, VarName, Loop, look, in_loop}
use Rattle.svr_elab_part.specs.declared.part.Shape.{Shape}
use Rattle.svr_elab_part.specs.declared.part.Reads.{Reads}
use Rattle.svr_elab_part.specs.declared.part.Root.{Root}
use Rattle.svr_elab_part.specs.declared.part.Root.TheVariants as root
use Rattle.svr_elab_part.specs.Fits.{Each}
use Rattle.svr_elab_part.specs.Elab as expr
use Rattle.svr_elab_part.specs.Elab.{Elab, RangeElab}
use Rattle.svr_elab_part.specs.Shapes.{both_known, all_known, and_more, inner_of, property_tree}
use Rattle.svr_elab_part.proofs.Valued.{none_left, none_right, not_when}
use Rattle.svr_elab_part.proofs.Looked.{OptionIs}
use Rattle.svr_elab_expr_laws.specs.Known.{IsKnown, DimsKnown, PropertyKnown}
use Rattle.svr_elab_expr_laws.proofs.HasTree.{accepted_has_tree}
use Rattle.svr_elab_stand_laws.proofs.Found.{MeaningIs, ItemIs, VarIs, VarsAre, PlaceIs, found}
use Rattle.svr_elab_item.specs.declared.Around.{Around}
use Rattle.svr_elab_item.specs.Items as spec
use Rattle.svr_elab_item.specs.Items.{ItemsElab, ElseElab, DistElab, UniqueElab, SolveElab, array_of, in_body, under, over}
use Rattle.svr_elab_item_laws.specs.Lawful.{IsNamed, AcceptedItemsHaveTrees}
use Rattle.svr_elab_item_laws.proofs.Roots.{true_false, false_true, Rooted, RootIs, WholeIs}
use Rattle.svr_elab_item_laws.proofs.Rooting.{any_variable, rooted_sole, rooted}
use Rattle.svr_elab_item_laws.proofs.Sole.{by_extent, as_value, no_row, whole_of}

-- ---- options

pub known_map : {A B : Type 0} (f : A → B) (x : Option A) → IsKnown x → IsKnown (option_map f x)
known_map f None h = absurd (false_true h)
known_map f (Some x) h = refl

pub known_both : {A B C : Type 0} (f : A → B → C) (x : Option A) (y : Option B) → IsKnown x → IsKnown y → IsKnown (both_known f x y)
known_both f None y h k = absurd (false_true h)
known_both f (Some x) None h k = absurd (false_true k)
known_both f (Some x) (Some y) h k = refl

known_all : {A B C D : Type 0} (f : A → B → C → D) (x : Option A) (y : Option B) (z : Option C) → IsKnown x → IsKnown y → IsKnown z → IsKnown (all_known f x y z)
known_all f None y z h k l = absurd (false_true h)
known_all f (Some x) y z h k l = known_both (f x) y z k l

pub known_more : {A : Type 0} (xs : Option (List A)) (x : Option A) → IsKnown xs → IsKnown x → IsKnown (and_more xs x)
known_more xs x h k = known_both (λ xs x. xs ++ x ∷ []) xs x h k

-- ---- places

pub each_as : {A : Type 0} (P R : A → Type 0) (xs : List A) → ((x : A) → P x → R x) → Each P xs → Each R xs
each_as P R [] f h = tt
each_as P R (x ∷ xs) f h = (f x h.0, each_as P R xs f h.1)

pub any_stand : (depth v : ℕ) (Q : Property → Type 0) (s : VarStand) → VarIs Q any_variable depth v s
any_stand depth v Q (stand.OfNumber kind) = tt
any_stand depth v Q (stand.OfObject c) = tt

pub any_vars : (depth : ℕ) (Q : Property → Type 0) (v : ℕ) (xs : List VarName) → VarsAre Q any_variable depth v xs
any_vars depth Q v [] = tt
any_vars depth Q v (x ∷ xs) = (any_stand depth v Q x.stands, any_vars depth Q (v + 1) xs)

pub no_item : (depth : ℕ) (Q : Property → Type 0) (i : Option Property) → i ≡ None → ItemIs Q any_variable depth i
no_item depth Q i e = let P : Option Property → Type 0 = λ i. ItemIs Q any_variable depth i in subst P (sym e) tt

in_names : (n : Space) → IsNamed n → PlaceIs PropertyKnown any_variable (length n.loops) n
in_names n m = record {
  region = m.region;
  props = m.names.props;
  later = m.names.later;
  loops = each_as (λ (l : Loop). l.item ≡ None) (λ (l : Loop). ItemIs PropertyKnown any_variable (length n.loops) l.item) n.loops (λ l e. no_item (length n.loops) PropertyKnown l.item e) m.loops;
  around = refl;
  vars = λ e. any_vars (length n.loops) PropertyKnown 0 n.vars;
}

named_loop : (n : Space) (v : ℕ) → IsNamed n → IsNamed (in_loop n v)
named_loop n v m = record {
  region = m.region;
  names = record { globals = m.names.globals; props = m.names.props; classes = m.names.classes; later = m.names.later; loops = (tt, m.names.loops); vars = m.names.vars };
  loops = (refl, m.loops);
}

named_body : (n : Space) (vs : List ℕ) → IsNamed n → IsNamed (in_body n vs)
named_body n [] m = m
named_body n (v ∷ vs) m = named_body (in_loop n v) vs (named_loop n v m)

-- nothing is asked of indexes
abbrev any_tree : ExprTerm → Type 0
any_tree t = ⊤

is_any : (t : Option ExprTerm) → OptionIs any_tree t
is_any None = tt
is_any (Some t) = tt

-- ---- values and arrays

value_tree : (n : Space) → IsNamed n → (e : ExprTree) → (expr.value first_one n e).faults ≡ None → IsKnown (expr.elab first_one n e).tree
value_tree n m e f = accepted_has_tree n e m.names f

one_known : (p : Property) (kind : Option Vector) (n : NodeTerm) → IsKnown kind → IsKnown (property_tree None kind (Some n))
one_known p None n h = absurd (false_true h)
one_known p (Some k) n h = refl

whole_tree : (r : Root) (s : Option Shape) (t : Option ExprTerm) (rs : Reads) → RootIs PropertyKnown any_tree r → WholeIs PropertyKnown any_tree r s t rs → IsKnown t
whole_tree root.Nothing s t rs q h = absurd h
whole_tree root.Refused s t rs q h = absurd h
whole_tree root.Member s t rs q h = absurd h
whole_tree (root.Variable v) s t rs q h = absurd h
whole_tree (root.Field p o) s t rs q h = let P : Option ExprTerm → Type 0 = IsKnown in subst P (sym h.2) (one_known p p.kind (term.prop p.number) q.0.0)
whole_tree (root.Object o c) s t rs q h = absurd h

root_of : (n : Space) → IsNamed n → (e : ExprTree) → Rooted PropertyKnown any_tree (expr.elab first_one n e)
root_of n m e = rooted PropertyKnown any_tree n (length n.loops) (in_names n m) (λ i f r. is_any (expr.elab first_one n i).tree) e

sole_root : (n : Space) → IsNamed n → (e : ExprTree) → Rooted PropertyKnown any_tree (expr.sole first_one (expr.elab first_one n e))
sole_root n m e = rooted_sole PropertyKnown any_tree n (length n.loops) (in_names n m) (λ i f r. is_any (expr.elab first_one n i).tree) e

sole_tree : (n : Space) → IsNamed n → (e : ExprTree) → (expr.sole first_one (expr.elab first_one n e)).faults ≡ None → IsKnown (expr.elab first_one n e).tree
sole_tree n m e f =
    let x : Elab (Option Fault) = expr.elab first_one n e in
    by_extent x.form.extent (no_row x f) (λ s. value_tree n m e (as_value x f s))
    (λ w. whole_tree x.form.root x.shape x.tree x.reads (root_of n m e).rooted ((root_of n m e).whole w))

-- ---- `dist`

bound_tree : (n : Space) → IsNamed n → (b : BoundTree) → (expr.bound first_one n b).faults ≡ None → IsKnown (expr.bound first_one n b).tree
bound_tree n m (raw.value e) f = known_map term.value (expr.elab first_one n e).tree (value_tree n m e f)
bound_tree n m raw.dollar f = refl

range_tree : (n : Space) → IsNamed n → (r : RangeTree) → (spec.dist_range first_one n r).faults ≡ None → IsKnown (spec.dist_range first_one n r).tree
range_tree n m (raw.one e) f = known_map term.one (expr.elab first_one n e).tree (value_tree n m e f)
range_tree n m (raw.span l h) f =
    known_both term.span (expr.bound first_one n l).tree (expr.bound first_one n h).tree (bound_tree n m l (none_left _ _ f)) (bound_tree n m h (none_right _ _ f))

member_tree : (n : Space) → IsNamed n → (r : RangeElab (Option Fault)) (w : Option (Share × ExprTree)) → IsKnown r.tree → spec.weight_faults first_one (spec.weight_at first_one n w) ≡ None
    → IsKnown (spec.dist_member_tree first_one r (spec.weight_at first_one n w))
member_tree n m r None h f = known_map _ r.tree h
member_tree n m r (Some w) h f = known_both _ r.tree (expr.elab first_one n w.1).tree h (value_tree n m w.1 (none_left _ _ f))

dist_trees : (n : Space) → IsNamed n → (ds : List DistItemTree) (start : DistElab (Option Fault)) → (start.faults ≡ None → IsKnown start.tree)
    → (spec.dist_items first_one n start ds).faults ≡ None → IsKnown (spec.dist_items first_one n start ds).tree
dist_trees n m [] start k f = k f
dist_trees n m (d ∷ ds) start k f =
    let r : RangeElab (Option Fault) = spec.dist_range first_one n d.range in
    let w : Option (Share × Elab (Option Fault)) = spec.weight_at first_one n d.weight in
    dist_trees n m ds (spec.and_dist first_one start r w)
    (λ g. known_more start.tree (spec.dist_member_tree first_one r w) (k (none_left _ _ g))
    (member_tree n m r d.weight (range_tree n m d.range (none_left _ _ (none_right _ _ g))) (none_right r.faults _ (none_right start.faults _ g)))) f

-- ---- `unique`

member_trees : (n : Space) → IsNamed n → (es : ExprTrees) (start : UniqueElab (Option Fault)) → (start.faults ≡ None → IsKnown start.trees)
    → (spec.members first_one n start es).faults ≡ None → IsKnown (spec.members first_one n start es).trees
member_trees n m raw.no_exprs start k f = k f
member_trees n m (raw.more_exprs e es) start k f =
    let x : Elab (Option Fault) = expr.sole first_one (expr.elab first_one n e) in
    member_trees n m es (spec.and_member first_one start x)
    (λ g. known_more start.trees x.tree (k (none_left _ _ g)) (sole_tree n m e (none_left _ _ (none_right start.faults _ g)))) f

-- ---- `solve`

refused : {A : Type 0} (token : ℕ) (r : Refusal) → when first_one true token r ≡ None → A
refused token r h = absurd (true_false (not_when true token r h))

solve_known : (depth name : ℕ) (m : Meaning) → MeaningIs PropertyKnown any_variable depth m → spec.solve_faults first_one name m ≡ None → IsKnown (spec.solve_tree m)
solve_known depth name (Wrong w) h f = refused w refusal.UnknownName f
solve_known depth name (LoopOf k) h f = refused name refusal.UnknownName f
solve_known depth name (ItemOf k p) h f = refused name refusal.UnknownName f
solve_known depth name (MemberOf v kind) h f = refused name refusal.UnknownName f
solve_known depth name (PropertyOf p o) h f = known_map _ p.kind h.0.0
solve_known depth name (SizeOf p o) h f = refused name refusal.SolveRandc f
solve_known depth name (FoldOf p o g array) h f = refused name refusal.UnknownName f
solve_known depth name (VariableOf v kind) h f = refused name refusal.UnknownName f
solve_known depth name (ObjectOf o c) h f = refused name refusal.UnknownName f

abbrev Solved : SolveElab (Option Fault) → Type 0
Solved s = s.faults ≡ None → IsKnown s.trees

solve_path : (n : Space) → IsNamed n → (e : ExprTree) (s : SolveElab (Option Fault)) → Solved s → Solved (spec.solve_path first_one n s e)
solve_path n m (raw.path at sc names call) s k = λ g. known_more s.trees (spec.solve_tree (look n sc names).meaning) (k (none_left _ _ g))
    (solve_known (length n.loops) (expr.last_name at names) (look n sc names).meaning (found PropertyKnown any_variable (length n.loops) n (in_names n m) sc names) (none_right s.faults _ g))
solve_path n m (raw.number at v w sg) s k = k
solve_path n m (raw.bit_select at x i call) s k = k
solve_path n m (raw.part_select at x f l call) s k = k
solve_path n m (raw.unary at op x) s k = k
solve_path n m (raw.binary at op x y) s k = k
solve_path n m (raw.choice at t x y) s k = k
solve_path n m (raw.inside at x rs) s k = k
solve_path n m (raw.join at xs) s k = k
solve_path n m (raw.copies at c xs) s k = k
solve_path n m (raw.sign at sg x) s k = k
solve_path n m (raw.paren at x) s k = k
solve_path n m (raw.reduce at x f item body) s k = k

solve_trees : (n : Space) → IsNamed n → (es : ExprTrees) (s : SolveElab (Option Fault)) → Solved s → Solved (spec.solve_list first_one n s es)
solve_trees n m raw.no_exprs s k = k
solve_trees n m (raw.more_exprs e es) s k = solve_trees n m es (spec.solve_path first_one n s e) (solve_path n m e s k)

-- ---- `foreach`

inner_known : (d : Dims) → DimsKnown d → IsKnown (inner_of d)
inner_known dims.Scalar h = refl
inner_known (dims.Fixed n) h = refl
inner_known (dims.Rows n m) h = h.1
inner_known dims.Dynamic h = refl

loop_tree : (r : Root) (s : Option Shape) (t : Option ExprTerm) (rs : Reads) (names : ℕ) (body : Option (List ItemTerm)) → RootIs PropertyKnown any_tree r → WholeIs PropertyKnown any_tree r s t rs
    → IsKnown body → IsKnown (spec.foreach_tree (array_of r) names body)
loop_tree root.Nothing s t rs names body q h k = absurd h
loop_tree root.Refused s t rs names body q h k = absurd h
loop_tree root.Member s t rs names body q h k = absurd h
loop_tree (root.Variable v) s t rs names body q h k = absurd h
loop_tree (root.Field p o) s t rs names body q h k = known_both _ (inner_of p.dims) body (inner_known p.dims q.0.1) k
loop_tree (root.Object o c) s t rs names body q h k = absurd h

-- ---- the whole

mutual
  item_tree : (n : Space) → IsNamed n → (a : Around) (i : ItemTree) → (spec.item first_one n a i).faults ≡ None → IsKnown (spec.item first_one n a i).tree
  item_tree n m a (tree.plain at soft e None) f = known_map _ (expr.elab first_one n e).tree (value_tree n m e (none_left _ _ f))
  item_tree n m a (tree.plain at soft e (Some d)) f =
      let v : Elab (Option Fault) = expr.value first_one n e in
      let k : DistElab (Option Fault) = spec.dist_items first_one n (spec.no_dist first_one) d.items in
      known_both _ v.tree k.tree (value_tree n m e (none_left _ _ f))
      (dist_trees n m d.items (spec.no_dist first_one) (λ g. refl) (none_left k.faults _ (none_left (spec.dist_faults first_one v d.at k) _ (none_right v.faults _ f))))
  item_tree n m a (tree.unique at es) f = known_map _ (spec.members first_one n (spec.no_members first_one) es).trees (member_trees n m es (spec.no_members first_one) (λ g. refl) f)
  item_tree n m a (tree.implies at t s) f =
      let v : Elab (Option Fault) = expr.value first_one n t in
      known_both _ v.tree (spec.items_in first_one n (under a v) s).trees (value_tree n m t (none_left _ _ f)) (set_tree n m (under a v) s (none_right v.faults _ f))
  item_tree n m a (tree.branch at t met unmet) f =
      let v : Elab (Option Fault) = expr.value first_one n t in
      let x : ItemsElab (Option Fault) = spec.items_in first_one n (under a v) met in
      let y : ElseElab (Option Fault) = spec.else_in first_one n (under a v) unmet in
      known_all _ v.tree x.trees y.tree (value_tree n m t (none_left _ _ f)) (set_tree n m (under a v) met (none_left x.faults _ (none_right v.faults _ f)))
      (else_tree n m (under a v) unmet (none_right x.faults _ (none_right v.faults _ f)))
  item_tree n m a (tree.foreach at e vs s) f =
      let x : Elab (Option Fault) = expr.sole first_one (expr.elab first_one n e) in
      let o : Around = over a (expr.elab first_one n e) in
      let b : ItemsElab (Option Fault) = spec.items_in first_one (in_body n vs) o s in
      let whole = whole_of PropertyKnown any_tree x (sole_root n m e) (none_left _ _ f) (not_when _ _ _ (none_left _ _ (none_right x.faults _ f))) in
      loop_tree x.form.root x.shape x.tree x.reads (length vs) b.trees (sole_root n m e).rooted whole
      (set_tree (in_body n vs) (named_body n vs m) o s (none_right _ b.faults (none_right _ _ (none_right x.faults _ f))))
  item_tree n m a (tree.disable at e) f = known_map item_term.disable (expr.elab first_one n e).tree (sole_tree n m e (none_left _ _ f))
  item_tree n m a (tree.solve at xs ys) f =
      let x : SolveElab (Option Fault) = spec.solve_list first_one n (spec.no_names first_one) xs in
      let y : SolveElab (Option Fault) = spec.solve_list first_one n (spec.no_names first_one) ys in
      known_both _ x.trees y.trees (solve_trees n m xs (spec.no_names first_one) (λ g. refl) (none_left _ _ f)) (solve_trees n m ys (spec.no_names first_one) (λ g. refl) (none_right x.faults _ f))

  pub items_tree : (n : Space) → IsNamed n → (a : Around) (is : ItemTrees) (start : ItemsElab (Option Fault)) → (start.faults ≡ None → IsKnown start.trees)
      → (spec.items first_one n a start is).faults ≡ None → IsKnown (spec.items first_one n a start is).trees
  items_tree n m a tree.no_items start k f = k f
  items_tree n m a (tree.more_items i is) start k f =
      items_tree n m a is (spec.and_item first_one start (spec.item first_one n a i))
      (λ g. known_more start.trees (spec.item first_one n a i).tree (k (none_left _ _ g)) (item_tree n m a i (none_right start.faults _ g))) f

  set_tree : (n : Space) → IsNamed n → (a : Around) (s : SetTree) → (spec.items_in first_one n a s).faults ≡ None → IsKnown (spec.items_in first_one n a s).trees
  set_tree n m a (tree.set braces is) f = items_tree n m a is (spec.no_items first_one) (λ g. refl) f

  else_tree : (n : Space) → IsNamed n → (a : Around) (s : ElseTree) → (spec.else_in first_one n a s).faults ≡ None → IsKnown (spec.else_in first_one n a s).tree
  else_tree n m a tree.no_else f = refl
  else_tree n m a (tree.else_set s) f = known_map _ (spec.items_in first_one n a s).trees (set_tree n m a s f)

pub accepted_items_have_trees : AcceptedItemsHaveTrees
accepted_items_have_trees n a is m f = items_tree n m a is (spec.no_items first_one) (λ g. refl) f
