-- What the names of a statement keep where more object variables have an object, and in the in-line set of a call.
use Rattle.std.proofs.Common.{◌≡◌, ℕ, zero, suc, ◌<◌, ◌≤◌, length, List, [], ◌∷◌, ◌++◌, map, get_or, take, Option, Some, None, Bool, true, false, if◌then◌else◌, nat_eq, refl, subst, sym, ap, ◌∙◌, min, arith}
use Rattle.std.proofs.lemmas.List.{length-take, take-append-le}
use Rattle.std.specs.List.{list_any}
use Rattle.svr_elab_names.specs.declared.ClassNames.{ClassNames}
use Rattle.svr_elab_names.specs.Names.{Space, PropName, class_props}
use Rattle.svr_elab_names.specs.Tables.{class_of, prop_of}
use Rattle.svr_elab_part.specs.Fits.{MembersFit}
use Rattle.svr_elab_target.specs.Named.{with_made, in_line_with, and_made}
use Rattle.svr_tree.specs.ExprTree.{ExprTree}
use Rattle.svr_tree.specs.ItemTree.{ItemTrees}
use Rattle.svr_tree.specs.StmtTree.{RightTree, RandomizeTree, ModeTree}
use Rattle.svr_elab_type.specs.Fits.{ExprFits}
use Rattle.svr_elab_item.specs.Fits.{ItemsLoopsFit}
use Rattle.svr_elab_target.specs.Fits.{BlocksFit}
use Rattle.svr_elab_stmt.specs.Fits.{RightFits, CallFits, ModeFits}

pub members_made : (m n : Space) (made : List ℕ) → m ≡ with_made n made → MembersFit n → MembersFit m
members_made m n made e h = subst MembersFit (sym e) (record { globals = h.globals })

pub blocks_made : (m n : Space) (made : List ℕ) → m ≡ with_made n made → BlocksFit n → BlocksFit m
blocks_made m n made e h = subst BlocksFit (sym e) (record { few = h.few })

pub members_in_line : (m n : Space) (ps : List PropName) → m ≡ in_line_with n ps → MembersFit n → MembersFit m
members_in_line m n ps e h = subst MembersFit (sym e) (record { globals = h.globals })

-- ---- the properties of the class of a number

props_at : (cs : List ClassNames) (k : ℕ) (d : ClassNames) → k < length cs → map prop_of (get_or cs k d).props.value.entries ≡ class_props (map class_of cs) k
props_at [] k d h = absurd (omega (arith, h))
props_at (c ∷ cs) zero d h = refl
props_at (c ∷ cs) (suc k) d h = props_at cs k d (omega (arith, h))

pub props_are : (cs : List ClassNames) (k : ℕ) (c : ClassNames) → c ≡ get_or cs k c → k < length cs → map prop_of c.props.value.entries ≡ class_props (map class_of cs) k
props_are cs k c e h = ap (λ (x : ClassNames). map prop_of x.props.value.entries) e ∙ props_at cs k c h

-- an unknown class has none
pub no_props : (cs : List ClassNames) (k : ℕ) → length cs ≤ k → class_props (map class_of cs) k ≡ []
no_props [] zero h = refl
no_props [] (suc k) h = refl
no_props (c ∷ cs) zero h = absurd (omega (arith, h))
no_props (c ∷ cs) (suc k) h = no_props cs k (omega (arith, h))

-- ---- more objects

pub take_made : (before made : List ℕ) (makes : Option ℕ) → take (length before) made ≡ before → take (length before) (and_made made makes) ≡ before
take_made before made None h = h
take_made before made (Some o) h = chosen (list_any (nat_eq o) made)
  where
    chosen : (b : Bool) → take (length before) (if b then made else made ++ o ∷ []) ≡ before
    chosen true = h
    chosen false =
        let e : min (length before) (length made) ≡ length before = sym (length-take (length before) made) ∙ ap length h in
        take-append-le (length before) made (o ∷ []) (omega arith) ∙ h

-- ---- the same loops around

pub expr_there : (d e : ℕ) (x : ExprTree) → d ≡ e → ExprFits e x → ExprFits d x
expr_there d e x p h = let P : ℕ → Type 0 = λ k. ExprFits k x in subst P (sym p) h

pub right_there : (d e : ℕ) (r : RightTree) → d ≡ e → RightFits e r → RightFits d r
right_there d e r p h = let P : ℕ → Type 0 = λ k. RightFits k r in subst P (sym p) h

pub call_there : (d e : ℕ) (c : RandomizeTree) → d ≡ e → CallFits e c → CallFits d c
call_there d e c p h = let P : ℕ → Type 0 = λ k. CallFits k c in subst P (sym p) h

pub mode_there : (d e : ℕ) (m : ModeTree) → d ≡ e → ModeFits e m → ModeFits d m
mode_there d e m p h = let P : ℕ → Type 0 = λ k. ModeFits k m in subst P (sym p) h

pub items_there : (d e : ℕ) (is : ItemTrees) → d ≡ e → ItemsLoopsFit e is → ItemsLoopsFit d is
items_there d e is p h = let P : ℕ → Type 0 = λ k. ItemsLoopsFit k is in subst P (sym p) h
