-- What the walk needs of each form of item, by its parts.
use Rattle.std.proofs.Common.{◌≡◌, ℕ, Bool, List, map, Option, Some, None, ap, ◌∙◌}
use Rattle.svr_operator.specs.declared.Share.{Share}
use Rattle.svr_tree.specs.declared.Dist.{Dist}
use Rattle.svr_tree.specs.declared.DistItem.{DistItem}
use Rattle.svr_tree.specs.ExprTree.{ExprTree}
use Rattle.svr_tree.specs.ItemTree as tree
use Rattle.svr_tree.specs.ItemTree.{SetTree, dist_tree, dist_item_trees}
use Rattle.svr_elab_fault.specs.declared.Fault.{Fault}
use Rattle.svr_elab_fault.specs.Refusals.{first_one}
use Rattle.svr_elab_names.specs.declared.LoopName.{LoopName}
use Rattle.svr_elab_names.specs.Names.{Space, with_loops}
use Rattle.svr_elab_names.specs.Tables.{loop_of}
use Rattle.svr_elab_part.specs.Elab.{Elab, RangeElab, elab, value, sole}
use Rattle.svr_elab_item.specs.declared.Around.{Around}
use Rattle.svr_elab_item.specs.Items as spec
use Rattle.svr_elab_item.specs.Items.{ItemElab, ItemsElab, ElseElab, DistElab}

pub plain_is : (n : Space) (a : Around) (soft : Bool) (at : ℕ) (r : ItemElab (Option Fault)) (x : Elab (Option Fault)) (e : ExprTree)
    → r ≡ spec.plain_item first_one soft at a x None → x ≡ value first_one n e → r ≡ spec.item first_one n a (tree.plain at soft e None)
plain_is n a soft at r x e h p = h ∙ ap (λ (x : Elab (Option Fault)). spec.plain_item first_one soft at a x None) p

pub dealt_is : (n : Space) (a : Around) (soft : Bool) (at : ℕ) (r : ItemElab (Option Fault)) (x : Elab (Option Fault)) (m : DistElab (Option Fault)) (e : ExprTree) (k : Dist) (ks : List DistItem)
    → r ≡ spec.plain_item first_one soft at a x (Some (k.at, m)) → x ≡ value first_one n e → m ≡ spec.dist_items first_one n (spec.no_dist first_one) (dist_item_trees ks) → ks ≡ k.items
    → r ≡ spec.item first_one n a (tree.plain at soft e (Some (dist_tree k)))
dealt_is n a soft at r x m e k ks h p q i =
    h ∙ ap (λ (x : Elab (Option Fault)). spec.plain_item first_one soft at a x (Some (k.at, m))) p
    ∙ ap (λ (m : DistElab (Option Fault)). spec.plain_item first_one soft at a (value first_one n e) (Some (k.at, m)))
    (q ∙ ap (λ (ks : List DistItem). spec.dist_items first_one n (spec.no_dist first_one) (dist_item_trees ks)) i)

pub implies_is : (n : Space) (a u : Around) (r : ItemElab (Option Fault)) (x : Elab (Option Fault)) (b : ItemsElab (Option Fault)) (test : ExprTree) (body : SetTree)
    → r ≡ spec.implies_item first_one x b → x ≡ value first_one n test → u ≡ spec.under a x → b ≡ spec.items_in first_one n u body
    → r ≡ spec.item first_one n a (tree.implies 0 test body)
implies_is n a u r x b test body h p q i =
    h ∙ ap (λ (b : ItemsElab (Option Fault)). spec.implies_item first_one x b) (i ∙ ap (λ (u : Around). spec.items_in first_one n u body) q)
    ∙ ap (λ (x : Elab (Option Fault)). spec.implies_item first_one x (spec.items_in first_one n (spec.under a x) body)) p

pub branch_is : (n : Space) (a u : Around) (r : ItemElab (Option Fault)) (x : Elab (Option Fault)) (y : ItemsElab (Option Fault)) (z : ElseElab (Option Fault)) (test : ExprTree) (met : SetTree)
    → r ≡ spec.branch_item first_one x y z → x ≡ value first_one n test → u ≡ spec.under a x → y ≡ spec.items_in first_one n u met → z ≡ spec.no_else first_one
    → r ≡ spec.item first_one n a (tree.branch 0 test met tree.no_else)
branch_is n a u r x y z test met h p q i j =
    h ∙ ap (λ (z : ElseElab (Option Fault)). spec.branch_item first_one x y z) j
    ∙ ap (λ (y : ItemsElab (Option Fault)). spec.branch_item first_one x y (spec.no_else first_one)) (i ∙ ap (λ (u : Around). spec.items_in first_one n u met) q)
    ∙ ap (λ (x : Elab (Option Fault)). spec.branch_item first_one x (spec.items_in first_one n (spec.under a x) met) (spec.no_else first_one)) p

pub branch_else_is : (n : Space) (a u : Around) (r : ItemElab (Option Fault)) (x : Elab (Option Fault)) (y w : ItemsElab (Option Fault)) (z : ElseElab (Option Fault)) (test : ExprTree) (met unmet : SetTree)
    → r ≡ spec.branch_item first_one x y z → x ≡ value first_one n test → u ≡ spec.under a x → y ≡ spec.items_in first_one n u met → z ≡ spec.else_part first_one w → w ≡ spec.items_in first_one n u unmet
    → r ≡ spec.item first_one n a (tree.branch 0 test met (tree.else_set unmet))
branch_else_is n a u r x y w z test met unmet h p q i j k =
    h ∙ ap (λ (z : ElseElab (Option Fault)). spec.branch_item first_one x y z) (j ∙ ap (spec.else_part first_one) k)
    ∙ ap (λ (y : ItemsElab (Option Fault)). spec.branch_item first_one x y (spec.else_part first_one (spec.items_in first_one n u unmet))) i
    ∙ ap (λ (u : Around). spec.branch_item first_one x (spec.items_in first_one n u met) (spec.else_part first_one (spec.items_in first_one n u unmet))) q
    ∙ ap (λ (x : Elab (Option Fault)). spec.branch_item first_one x (spec.items_in first_one n (spec.under a x) met) (spec.else_part first_one (spec.items_in first_one n (spec.under a x) unmet))) p

-- loops as a slice of those that were made
pub looped : (n m : Space) (ls ks : List LoopName) → ls ≡ ks → with_loops n (map loop_of ks) ≡ m → with_loops n (map loop_of ls) ≡ m
looped n m ls ks e h = ap (λ (ls : List LoopName). with_loops n (map loop_of ls)) e ∙ h

pub foreach_is : (n : Space) (a o : Around) (vs : List ℕ) (r : ItemElab (Option Fault)) (x s : Elab (Option Fault)) (b : ItemsElab (Option Fault)) (array : ExprTree) (body : SetTree)
    → r ≡ spec.foreach_item first_one s vs b → s ≡ sole first_one x → x ≡ elab first_one n array → o ≡ spec.over a x → b ≡ spec.items_in first_one (spec.in_body n vs) o body
    → r ≡ spec.item first_one n a (tree.foreach 0 array vs body)
foreach_is n a o vs r x s b array body h p q k m =
    h ∙ ap (λ (s : Elab (Option Fault)). spec.foreach_item first_one s vs b) p
    ∙ ap (λ (b : ItemsElab (Option Fault)). spec.foreach_item first_one (sole first_one x) vs b)
    (m ∙ ap (λ (o : Around). spec.items_in first_one (spec.in_body n vs) o body) k)
    ∙ ap (λ (x : Elab (Option Fault)). spec.foreach_item first_one (sole first_one x) vs (spec.items_in first_one (spec.in_body n vs) (spec.over a x) body)) q

pub disable_is : (a : Around) (r : ItemElab (Option Fault)) (x y : Elab (Option Fault)) → r ≡ spec.disable_item first_one a x → x ≡ y → r ≡ spec.disable_item first_one a y
disable_is a r x y h p = h ∙ ap (λ (x : Elab (Option Fault)). spec.disable_item first_one a x) p

pub and_dist_is : (r d e : DistElab (Option Fault)) (x y : RangeElab (Option Fault)) (w v : Option (Share × Elab (Option Fault)))
    → r ≡ spec.and_dist first_one d x w → d ≡ e → x ≡ y → w ≡ v → r ≡ spec.and_dist first_one e y v
and_dist_is r d e x y w v h p q i =
    h ∙ ap (λ (d : DistElab (Option Fault)). spec.and_dist first_one d x w) p ∙ ap (λ (x : RangeElab (Option Fault)). spec.and_dist first_one e x w) q
    ∙ ap (λ (w : Option (Share × Elab (Option Fault))). spec.and_dist first_one e y w) i
