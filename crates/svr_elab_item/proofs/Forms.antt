-- Items, members and names by what calls made of their parts.
use Rattle.std.proofs.Common.{◌≡◌, ℕ, Bool, ◌||◌, List, Option, Some, refl, ap, ◌∙◌}
use Rattle.svr_operator.specs.declared.Share.{Share}
use Rattle.svr_refusal.specs.declared.Refusal.TheVariants as refusal
use Rattle.svr_typed.specs.ExprTerm.{ExprTerm}
use Rattle.svr_typed.specs.ItemTerm.{ItemTerm, DistTerm}
use Rattle.svr_elab_fault.specs.declared.Fault.{Fault}
use Rattle.svr_elab_fault.specs.Refusals.{first_one, earlier, when}
use Rattle.svr_elab_names.specs.declared.Meaning.{Meaning}
use Rattle.svr_elab_names.specs.Names.{or_else}
use Rattle.svr_elab_part.specs.declared.Shape.{Shape}
use Rattle.svr_elab_part.specs.Elab.{Elab, RangeElab}
use Rattle.svr_elab_part.specs.Shapes.{and_more}
use Rattle.svr_elab_item.specs.Items as spec
use Rattle.svr_elab_item.specs.Items.{ItemElab, ItemsElab, DistElab, UniqueElab, SolveElab}

pub and_dist_is : (d : DistElab (Option Fault)) (r : RangeElab (Option Fault)) (w : Option (Share × Elab (Option Fault))) (t : Option (List DistTerm)) (f g h : Option Fault) (c k : Bool)
    → t ≡ and_more d.tree (spec.dist_member_tree first_one r w) → g ≡ spec.weight_faults first_one w → h ≡ earlier r.faults g → f ≡ earlier d.faults h
    → k ≡ spec.weight_cyclic first_one w → c ≡ (d.cyclic || (r.reads.cyclic || k))
    → (let v : DistElab (Option Fault) = record { tree = t; faults = f; cyclic = c } in v) ≡ spec.and_dist first_one d r w
and_dist_is d r w t f g h c k is_t is_g is_h is_f is_k is_c = rw (is_t, is_f, is_h, is_g, is_c, is_k) refl

pub and_item_is : (p : ItemsElab (Option Fault)) (i : ItemElab (Option Fault)) (t : Option (List ItemTerm)) (f : Option Fault)
    → t ≡ and_more p.trees i.tree → f ≡ earlier p.faults i.faults → (let v : ItemsElab (Option Fault) = record { trees = t; faults = f } in v) ≡ spec.and_item first_one p i
and_item_is p i t f is_t is_f = rw (is_t, is_f) refl

pub and_member_is : (u : UniqueElab (Option Fault)) (x : Elab (Option Fault)) (t : Option (List ExprTerm)) (s : Option (Option Shape)) (a b : Bool) (f g h k l : Option Fault)
    → t ≡ and_more u.trees x.tree → s ≡ or_else u.first (Some x.shape)
    → a ≡ spec.is_cyclic_root x.form.root → k ≡ when first_one a x.at refusal.UniqueRandc → b ≡ spec.differs u.first x.shape → l ≡ when first_one b x.at refusal.UniqueTypes
    → h ≡ earlier k l → g ≡ earlier x.faults h → f ≡ earlier u.faults g
    → (let v : UniqueElab (Option Fault) = record { trees = t; first = s; faults = f } in v) ≡ spec.and_member first_one u x
and_member_is u x t s a b f g h k l is_t is_s is_a is_k is_b is_l is_h is_g is_f = rw (is_t, is_s, is_f, is_g, is_h, is_k, is_l, is_a, is_b) refl

pub and_solve_is : (s : SolveElab (Option Fault)) (name : ℕ) (m : Meaning) (t : Option (List ExprTerm)) (f g : Option Fault)
    → t ≡ and_more s.trees (spec.solve_tree m) → g ≡ spec.solve_faults first_one name m → f ≡ earlier s.faults g
    → (let v : SolveElab (Option Fault) = record { trees = t; faults = f } in v) ≡ spec.and_solve first_one s name m
and_solve_is s name m t f g is_t is_g is_f = rw (is_t, is_f, is_g) refl

-- a `solve` item by its two sides
pub solve_is : (r : ItemElab (Option Fault)) (x y v w : SolveElab (Option Fault))
    → r ≡ spec.solve_item first_one x y → x ≡ v → y ≡ w → r ≡ spec.solve_item first_one v w
solve_is r x y v w h p q =
    h ∙ ap (λ (x : SolveElab (Option Fault)). spec.solve_item first_one x y) p ∙ ap (λ (y : SolveElab (Option Fault)). spec.solve_item first_one v y) q
