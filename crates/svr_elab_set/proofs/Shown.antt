-- The walk over items that keeps the first refusal gives the first of all that the other one gives, and the same of everything else.
use Rattle.std.proofs.Common.{◌≡◌, ℕ, Bool, List, [], ◌∷◌, Option, None, Some, refl, ap, subst, ◌∙◌}
use Rattle.svr_operator.specs.declared.Share.{Share}
use Rattle.svr_tree.specs.ExprTree as raw
use Rattle.svr_tree.specs.ExprTree.{ExprTree, ExprTrees, RangeTree}
use Rattle.svr_tree.specs.ItemTree as tree
use Rattle.svr_tree.specs.ItemTree.{DistItemTree, ItemTree, ItemTrees, SetTree, ElseTree}
use Rattle.svr_refusal.specs.declared.Refusal.{Refusal}
use Rattle.svr_elab_fault.specs.declared.Fault.{Fault}
use Rattle.svr_elab_fault.specs.Refusals.{all, first_one, earlier, least, FirstOf}
use Rattle.svr_elab_fault.proofs.Least.{least_append, least_when, least_first}
use Rattle.svr_elab_names.specs.declared.Meaning.{Meaning}
use Rattle.svr_elab_names.specs.declared.Meaning.TheVariants.{Wrong, LoopOf, ItemOf, MemberOf, PropertyOf, SizeOf, FoldOf, VariableOf, ObjectOf}
use Rattle.svr_elab_names.specs.Names.{Space, look}
use Rattle.svr_elab_part.specs.Elab.{Elab, RangeElab, elab, value, sole, bound, last_name, value_range, span_range}
use Rattle.svr_elab_form.specs.Gathered.{shown, shown_range, shown_bound}
use Rattle.svr_elab_form.proofs.Shown.{value_shown, sole_shown_is, elab_shown, bound_shown, span_shown}
use Rattle.svr_elab_item.specs.declared.Around.{Around}
use Rattle.svr_elab_item.specs.Items as spec
use Rattle.svr_elab_item.specs.Items.{ItemElab, ItemsElab, ElseElab, DistElab, UniqueElab, SolveElab, under, over, in_body}
use Rattle.svr_elab_set.specs.Gathered.{shown_item, shown_items, shown_else, shown_dist, shown_unique, shown_solve, KeepsTheFirst, TellsTheFirst}

-- ---- `dist`

abbrev shown_weight : Option (Share × Elab (List Fault)) → Option (Share × Elab (Option Fault))
shown_weight None = None
shown_weight (Some w) = Some (w.0, shown w.1)

-- a distribution behind its token
abbrev shown_at : ℕ × DistElab (List Fault) → ℕ × DistElab (Option Fault)
shown_at d = (d.0, shown_dist d.1)

weight_shown : (n : Space) (w : Option (Share × ExprTree)) → shown_weight (spec.weight_at all n w) ≡ spec.weight_at first_one n w
weight_shown n None = refl
weight_shown n (Some w) = ap (λ (x : Elab (Option Fault)). Some (w.0, x)) (value_shown n w.1)

dist_range_shown : (n : Space) (r : RangeTree) → shown_range (spec.dist_range all n r) ≡ spec.dist_range first_one n r
dist_range_shown n (raw.one x) = ap (value_range first_one) (value_shown n x)
dist_range_shown n (raw.span l h) =
    span_shown (bound all n l) (bound all n h)
    ∙ ap (λ u. span_range first_one u (shown_bound (bound all n h))) (bound_shown n l)
    ∙ ap (λ u. span_range first_one (bound first_one n l) u) (bound_shown n h)

and_dist_shown : (d : DistElab (List Fault)) (r : RangeElab (List Fault)) (w : Option (Share × Elab (List Fault)))
    → shown_dist (spec.and_dist all d r w) ≡ spec.and_dist first_one (shown_dist d) (shown_range r) (shown_weight w)
and_dist_shown d r None = simp least_append refl
and_dist_shown d r (Some w) = simp (least_append, least_when) refl

dist_shown : (n : Space) (start : DistElab (List Fault)) (ds : List DistItemTree)
    → shown_dist (spec.dist_items all n start ds) ≡ spec.dist_items first_one n (shown_dist start) ds
dist_shown n start [] = refl
dist_shown n start (d ∷ ds) =
    dist_shown n (spec.and_dist all start (spec.dist_range all n d.range) (spec.weight_at all n d.weight)) ds
    ∙ ap (λ (u : DistElab (Option Fault)). spec.dist_items first_one n u ds)
    (and_dist_shown start (spec.dist_range all n d.range) (spec.weight_at all n d.weight)
    ∙ ap (λ (u : RangeElab (Option Fault)). spec.and_dist first_one (shown_dist start) u (shown_weight (spec.weight_at all n d.weight))) (dist_range_shown n d.range)
    ∙ ap (spec.and_dist first_one (shown_dist start) (spec.dist_range first_one n d.range)) (weight_shown n d.weight))

expression_shown : (soft : Bool) (at : ℕ) (a : Around) (x : Elab (List Fault))
    → shown_item (spec.plain_item all soft at a x None) ≡ spec.plain_item first_one soft at a (shown x) None
expression_shown soft at a x = simp (least_append, least_when) refl

dealt_shown : (soft : Bool) (at : ℕ) (a : Around) (x : Elab (List Fault)) (d : ℕ × DistElab (List Fault))
    → shown_item (spec.plain_item all soft at a x (Some d)) ≡ spec.plain_item first_one soft at a (shown x) (Some (shown_at d))
dealt_shown soft at a x d = simp (least_append, least_when) refl

-- ---- `unique`

and_member_shown : (u : UniqueElab (List Fault)) (x : Elab (List Fault)) → shown_unique (spec.and_member all u x) ≡ spec.and_member first_one (shown_unique u) (shown x)
and_member_shown u x = simp (least_append, least_when) refl

members_shown : (n : Space) (u : UniqueElab (List Fault)) (es : ExprTrees) → shown_unique (spec.members all n u es) ≡ spec.members first_one n (shown_unique u) es
members_shown n u raw.no_exprs = refl
members_shown n u (raw.more_exprs e es) =
    members_shown n (spec.and_member all u (sole all (elab all n e))) es
    ∙ ap (λ (v : UniqueElab (Option Fault)). spec.members first_one n v es)
    (and_member_shown u (sole all (elab all n e)) ∙ ap (spec.and_member first_one (shown_unique u)) (sole_shown_is n e))

-- ---- `solve`

solve_faults_shown : (name : ℕ) (m : Meaning) → least (spec.solve_faults all name m) ≡ spec.solve_faults first_one name m
solve_faults_shown name (Wrong w) = refl
solve_faults_shown name (LoopOf k) = refl
solve_faults_shown name (ItemOf k p) = refl
solve_faults_shown name (MemberOf v kind) = refl
solve_faults_shown name (PropertyOf p o) = simp (least_append, least_when) refl
solve_faults_shown name (SizeOf p o) = refl
solve_faults_shown name (FoldOf p o f array) = refl
solve_faults_shown name (VariableOf v kind) = refl
solve_faults_shown name (ObjectOf o c) = refl

abbrev solved : SolveElab (Option Fault) → Meaning → Option Fault → SolveElab (Option Fault)
solved s m f = record { trees = (spec.and_solve first_one s 0 m).trees; faults = f }

and_solve_shown : (s : SolveElab (List Fault)) (name : ℕ) (m : Meaning) → shown_solve (spec.and_solve all s name m) ≡ spec.and_solve first_one (shown_solve s) name m
and_solve_shown s name m =
    ap (solved (shown_solve s) m) (least_append s.faults (spec.solve_faults all name m) ∙ ap (earlier (least s.faults)) (solve_faults_shown name m))

solve_path_shown : (n : Space) (s : SolveElab (List Fault)) (e : ExprTree) → shown_solve (spec.solve_path all n s e) ≡ spec.solve_path first_one n (shown_solve s) e
solve_path_shown n s (raw.path at sc names call) = and_solve_shown s (last_name at names) (look n sc names).meaning
solve_path_shown n s (raw.number at v w sg) = refl
solve_path_shown n s (raw.bit_select at x i call) = refl
solve_path_shown n s (raw.part_select at x f l call) = refl
solve_path_shown n s (raw.unary at op x) = refl
solve_path_shown n s (raw.binary at op x y) = refl
solve_path_shown n s (raw.choice at t x y) = refl
solve_path_shown n s (raw.inside at x rs) = refl
solve_path_shown n s (raw.join at xs) = refl
solve_path_shown n s (raw.copies at c xs) = refl
solve_path_shown n s (raw.sign at sg x) = refl
solve_path_shown n s (raw.paren at x) = refl
solve_path_shown n s (raw.reduce at x f item body) = refl

solve_list_shown : (n : Space) (s : SolveElab (List Fault)) (es : ExprTrees) → shown_solve (spec.solve_list all n s es) ≡ spec.solve_list first_one n (shown_solve s) es
solve_list_shown n s raw.no_exprs = refl
solve_list_shown n s (raw.more_exprs e es) =
    solve_list_shown n (spec.solve_path all n s e) es ∙ ap (λ (u : SolveElab (Option Fault)). spec.solve_list first_one n u es) (solve_path_shown n s e)

solve_shown : (x y : SolveElab (List Fault)) → shown_item (spec.solve_item all x y) ≡ spec.solve_item first_one (shown_solve x) (shown_solve y)
solve_shown x y = simp least_append refl

-- ---- sets

implies_shown : (t : Elab (List Fault)) (body : ItemsElab (List Fault)) → shown_item (spec.implies_item all t body) ≡ spec.implies_item first_one (shown t) (shown_items body)
implies_shown t body = simp least_append refl

branch_shown : (t : Elab (List Fault)) (met : ItemsElab (List Fault)) (unmet : ElseElab (List Fault))
    → shown_item (spec.branch_item all t met unmet) ≡ spec.branch_item first_one (shown t) (shown_items met) (shown_else unmet)
branch_shown t met unmet = simp least_append refl

foreach_shown : (x : Elab (List Fault)) (vs : List ℕ) (body : ItemsElab (List Fault))
    → shown_item (spec.foreach_item all x vs body) ≡ spec.foreach_item first_one (shown x) vs (shown_items body)
foreach_shown x vs body = simp (least_append, least_when) refl

at_some_shown : (at : Option ℕ) (r : Refusal) → least (spec.at_some all at r) ≡ spec.at_some first_one at r
at_some_shown None r = refl
at_some_shown (Some at) r = refl

disable_shown : (a : Around) (x : Elab (List Fault)) → shown_item (spec.disable_item all a x) ≡ spec.disable_item first_one a (shown x)
disable_shown a x = simp (least_append, least_when, at_some_shown) refl

and_item_shown : (is : ItemsElab (List Fault)) (i : ItemElab (List Fault)) → shown_items (spec.and_item all is i) ≡ spec.and_item first_one (shown_items is) (shown_item i)
and_item_shown is i = simp least_append refl

-- ---- the walk

abbrev every : Space → ExprTree → Elab (List Fault)
every n e = value all n e

abbrev one : Space → ExprTree → Elab (Option Fault)
one n e = value first_one n e

mutual
  pub item_shown : (n : Space) (a : Around) (i : ItemTree) → shown_item (spec.item all n a i) ≡ spec.item first_one n a i
  item_shown n a (tree.plain at soft e None) =
      expression_shown soft at a (every n e) ∙ ap (λ (x : Elab (Option Fault)). spec.plain_item first_one soft at a x None) (value_shown n e)
  item_shown n a (tree.plain at soft e (Some d)) =
      dealt_shown soft at a (every n e) (d.at, spec.dist_items all n (spec.no_dist all) d.items)
      ∙ ap (λ (x : Elab (Option Fault)). spec.plain_item first_one soft at a x (Some (d.at, shown_dist (spec.dist_items all n (spec.no_dist all) d.items)))) (value_shown n e)
      ∙ ap (λ (x : DistElab (Option Fault)). spec.plain_item first_one soft at a (one n e) (Some (d.at, x))) (dist_shown n (spec.no_dist all) d.items)
  item_shown n a (tree.unique at es) = ap (spec.unique_item first_one) (members_shown n (spec.no_members all) es)
  item_shown n a (tree.implies at t s) =
      implies_shown (every n t) (spec.items_in all n (under a (every n t)) s)
      ∙ ap (λ (x : ItemsElab (Option Fault)). spec.implies_item first_one (shown (every n t)) x) (set_shown n (under a (every n t)) s)
      ∙ ap (λ (x : Elab (Option Fault)). spec.implies_item first_one x (spec.items_in first_one n (under a x) s)) (value_shown n t)
  item_shown n a (tree.branch at t met unmet) =
      branch_shown (every n t) (spec.items_in all n (under a (every n t)) met) (spec.else_in all n (under a (every n t)) unmet)
      ∙ ap (λ (x : ItemsElab (Option Fault)). spec.branch_item first_one (shown (every n t)) x (shown_else (spec.else_in all n (under a (every n t)) unmet))) (set_shown n (under a (every n t)) met)
      ∙ ap (λ (x : ElseElab (Option Fault)). spec.branch_item first_one (shown (every n t)) (spec.items_in first_one n (under a (every n t)) met) x) (else_shown n (under a (every n t)) unmet)
      ∙ ap (λ (x : Elab (Option Fault)). spec.branch_item first_one x (spec.items_in first_one n (under a x) met) (spec.else_in first_one n (under a x) unmet)) (value_shown n t)
  item_shown n a (tree.foreach at x vs s) =
      foreach_shown (sole all (elab all n x)) vs (spec.items_in all (in_body n vs) (over a (elab all n x)) s)
      ∙ ap (λ (b : ItemsElab (Option Fault)). spec.foreach_item first_one (shown (sole all (elab all n x))) vs b) (set_shown (in_body n vs) (over a (elab all n x)) s)
      ∙ ap (λ (y : Elab (Option Fault)). spec.foreach_item first_one y vs (spec.items_in first_one (in_body n vs) (over a (shown (elab all n x))) s)) (sole_shown_is n x)
      ∙ ap (λ (y : Elab (Option Fault)). spec.foreach_item first_one (sole first_one (elab first_one n x)) vs (spec.items_in first_one (in_body n vs) (over a y) s)) (elab_shown n x)
  item_shown n a (tree.disable at x) = disable_shown a (sole all (elab all n x)) ∙ ap (spec.disable_item first_one a) (sole_shown_is n x)
  item_shown n a (tree.solve at xs ys) =
      solve_shown (spec.solve_list all n (spec.no_names all) xs) (spec.solve_list all n (spec.no_names all) ys)
      ∙ ap (λ (u : SolveElab (Option Fault)). spec.solve_item first_one u (shown_solve (spec.solve_list all n (spec.no_names all) ys))) (solve_list_shown n (spec.no_names all) xs)
      ∙ ap (λ (u : SolveElab (Option Fault)). spec.solve_item first_one (spec.solve_list first_one n (spec.no_names first_one) xs) u) (solve_list_shown n (spec.no_names all) ys)

  pub items_shown : (n : Space) (a : Around) (start : ItemsElab (List Fault)) (is : ItemTrees) → shown_items (spec.items all n a start is) ≡ spec.items first_one n a (shown_items start) is
  items_shown n a start tree.no_items = refl
  items_shown n a start (tree.more_items i is) =
      items_shown n a (spec.and_item all start (spec.item all n a i)) is
      ∙ ap (λ (u : ItemsElab (Option Fault)). spec.items first_one n a u is)
      (and_item_shown start (spec.item all n a i) ∙ ap (spec.and_item first_one (shown_items start)) (item_shown n a i))

  pub set_shown : (n : Space) (a : Around) (s : SetTree) → shown_items (spec.items_in all n a s) ≡ spec.items_in first_one n a s
  set_shown n a (tree.set braces is) = items_shown n a (spec.no_items all) is

  pub else_shown : (n : Space) (a : Around) (s : ElseTree) → shown_else (spec.else_in all n a s) ≡ spec.else_in first_one n a s
  else_shown n a tree.no_else = refl
  else_shown n a (tree.else_set s) = ap (spec.else_part first_one) (set_shown n a s)

pub kept : KeepsTheFirst
kept n a is = items_shown n a (spec.no_items all) is

pub told : TellsTheFirst
told n a is =
    let xs : List Fault = (spec.items all n a (spec.no_items all) is).faults in
    subst (FirstOf xs) (ap (λ (x : ItemsElab (Option Fault)). x.faults) (kept n a is)) (least_first xs)
