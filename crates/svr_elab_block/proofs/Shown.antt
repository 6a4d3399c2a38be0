-- The pass over classes that keeps the first refusal gives the first of all that the other one gives, and the same of everything else.
use Rattle.std.proofs.Common.{◌≡◌, ℕ, ◌+◌, Bool, true, false, if◌then◌else◌, List, [], ◌∷◌, Option, refl, ap, subst, ◌∙◌}
use Rattle.std.specs.List.{list_any}
use Rattle.svr_tree.specs.DeclTree as decl
use Rattle.svr_tree.specs.DeclTree.{BlockTree, ClassTree, ClassItemTree}
use Rattle.svr_elab_fault.specs.declared.Fault.{Fault}
use Rattle.svr_elab_fault.specs.Refusals.{all, first_one, least, FirstOf}
use Rattle.svr_elab_fault.proofs.Least.{least_append, least_first}
use Rattle.svr_elab_names.specs.declared.Region.TheVariants as region
use Rattle.svr_elab_names.specs.Names.{Space, is_same}
use Rattle.svr_elab_order.specs.declared.Order.{Order}
use Rattle.svr_elab_order.proofs.Firsts as order_firsts
use Rattle.svr_elab_item.specs.Items.{ItemsElab, items, no_items, outside}
use Rattle.svr_elab_set.specs.Gathered.{shown_items}
use Rattle.svr_elab_set.proofs.Shown as item_shown
use Rattle.svr_elab_block.specs.Blocks as spec
use Rattle.svr_elab_block.specs.Blocks.{BodyElab, BodiesElab}
use Rattle.svr_elab_block.specs.Gathered.{shown_body, shown_bodies, KeepsTheFirst, TellsTheFirst}

with_faults_shown : (b : BodyElab (List Fault)) (fs : List Fault) → shown_body (spec.with_faults all b fs) ≡ spec.with_faults first_one (shown_body b) (least fs)
with_faults_shown b fs = simp least_append refl

with_block_shown : (b : BodyElab (List Fault)) (name : List ℕ) (os : List Order) (e : ItemsElab (List Fault))
    → shown_body (spec.with_block all b name os e) ≡ spec.with_block first_one (shown_body b) name os (shown_items e)
with_block_shown b name os e = simp least_append refl

chosen_shown : (b : BodyElab (List Fault)) (name : List ℕ) (os : List Order) (e : ItemsElab (List Fault)) (there : Bool)
    → shown_body (if there then spec.with_faults all b e.faults else spec.with_block all b name os e)
    ≡ (if there then spec.with_faults first_one (shown_body b) (least e.faults) else spec.with_block first_one (shown_body b) name os (shown_items e))
chosen_shown b name os e true = with_faults_shown b e.faults
chosen_shown b name os e false = with_block_shown b name os e

and_block_shown : (n : Space) (b : BodyElab (List Fault)) (k : BlockTree) (e : ItemsElab (List Fault))
    → shown_body (spec.and_block all n b k e) ≡ spec.and_block first_one n (shown_body b) k (shown_items e)
and_block_shown n b k e = chosen_shown b (n.text k.name) (spec.orders n k.name b.orders k.items) e (list_any (is_same (n.text k.name)) b.own)

item_shown_is : (n : Space) (b : BodyElab (List Fault)) (i : ClassItemTree) → shown_body (spec.body_item all n b i) ≡ spec.body_item first_one n (shown_body b) i
item_shown_is n b (decl.property p) = refl
item_shown_is n b (decl.block k) =
    and_block_shown n b k (items all n outside (no_items all) k.items)
    ∙ ap (spec.and_block first_one n (shown_body b) k) (item_shown.kept n outside k.items)

body_items_shown : (n : Space) (b : BodyElab (List Fault)) (is : List ClassItemTree) → shown_body (spec.body_items all n b is) ≡ spec.body_items first_one n (shown_body b) is
body_items_shown n b [] = refl
body_items_shown n b (i ∷ is) =
    body_items_shown n (spec.body_item all n b i) is
    ∙ ap (λ (x : BodyElab (Option Fault)). spec.body_items first_one n x is) (item_shown_is n b i)

body_shown : (n : Space) (k : ℕ) (c : ClassTree) → shown_body (spec.body all n k c) ≡ spec.body first_one n k c
body_shown n k c = body_items_shown (spec.in_class n region.Block k) (spec.no_body all) c.items

and_body_shown : (s : BodiesElab (List Fault)) (os : List Order) (b : BodyElab (List Fault))
    → shown_bodies (spec.and_body all s os b) ≡ spec.and_body first_one (shown_bodies s) os (shown_body b)
and_body_shown s os b = let first = order_firsts.kept os b.orders in simp (least_append, first) refl

with_class_shown : (n : Space) (s : BodiesElab (List Fault)) (k : ℕ) (b : BodyElab (List Fault))
    → shown_bodies (spec.with_class all n s k b) ≡ spec.with_class first_one n (shown_bodies s) k (shown_body b)
with_class_shown n s k b = and_body_shown s (spec.inherited all n s k b) b

bodies_shown : (n : Space) (s : BodiesElab (List Fault)) (k : ℕ) (cs : List ClassTree)
    → shown_bodies (spec.bodies all n s k cs) ≡ spec.bodies first_one n (shown_bodies s) k cs
bodies_shown n s k [] = refl
bodies_shown n s k (c ∷ cs) =
    bodies_shown n (spec.with_class all n s k (spec.body all n k c)) (k + 1) cs
    ∙ ap (λ (x : BodiesElab (Option Fault)). spec.bodies first_one n x (k + 1) cs)
    (with_class_shown n s k (spec.body all n k c) ∙ ap (spec.with_class first_one n (shown_bodies s) k) (body_shown n k c))

pub kept : KeepsTheFirst
kept n k cs = bodies_shown n (spec.no_bodies all) k cs

pub told : TellsTheFirst
told n k cs =
    let xs : List Fault = (spec.bodies all n (spec.no_bodies all) k cs).faults in
    subst (FirstOf xs) (ap (λ (x : BodiesElab (Option Fault)). x.faults) (kept n k cs)) (least_first xs)
