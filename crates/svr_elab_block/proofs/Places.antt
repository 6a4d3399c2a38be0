-- What can be named in a block of a class.
use Rattle.std.proofs.Common.{◌≡◌, ℕ, zero, suc, ◌<◌, List, [], ◌∷◌, map, length, get_or, refl, ap, sym, subst, ◌∙◌, arith}
use Rattle.svr_elab_names.specs.declared.Region.{Region}
use Rattle.svr_elab_names.specs.declared.ClassNames.{ClassNames}
use Rattle.svr_elab_names.specs.Names.{Space, class_props}
use Rattle.svr_elab_names.specs.Tables.{class_of, prop_of}
use Rattle.svr_elab_part.specs.Fits.{MembersFit}
use Rattle.svr_elab_block.specs.Blocks.{in_class}

pub members_there : (n m : Space) (r : Region) (k : ℕ) → m ≡ in_class n r k → MembersFit n → MembersFit m
members_there n m r k e h = let inside : MembersFit (in_class n r k) = record { globals = h.globals } in subst MembersFit (sym e) inside

-- the properties of the class of a number
props_at : (cs : List ClassNames) (k : ℕ) (d : ClassNames) → k < length cs → map prop_of (get_or cs k d).props.value.entries ≡ class_props (map class_of cs) k
props_at [] k d h = absurd (omega (arith, h))
props_at (c ∷ cs) zero d h = refl
props_at (c ∷ cs) (suc k) d h = props_at cs k d (omega (arith, h))

pub props_are : (cs : List ClassNames) (k : ℕ) (c : ClassNames) → c ≡ get_or cs k c → k < length cs → map prop_of c.props.value.entries ≡ class_props (map class_of cs) k
props_are cs k c e h = ap (λ (x : ClassNames). map prop_of x.props.value.entries) e ∙ props_at cs k c h
