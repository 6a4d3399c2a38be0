-- A type that a name stands for has 1 to 64 bits, as each that is declared.
use Rattle.std.proofs.Common.{◌≡◌, ℕ, ◌+◌, Bool, true, false, if◌then◌else◌, List, [], ◌∷◌, Option, Some, option_map, sym, ap, ◌∙◌, subst}
use Rattle.svr_elab_names.specs.declared.Global.{Global}
use Rattle.svr_elab_names.specs.declared.Global.TheVariants as global
use Rattle.svr_elab_names.specs.Names.{Space, GlobalName, find_from, is_same}
use Rattle.svr_elab_part.specs.Fits.{Each, GlobalFits, KindFits, MembersFit}
use Rattle.svr_elab_type.specs.Types.{global_at}
use Rattle.svr_elab_decl.specs.Properties.{Used, used_global, used_kind}

stand_fits : (g : Global) → GlobalFits g → KindFits (used_kind (used_global (Some g)))
stand_fits (global.OfType kind) h = h
stand_fits (global.OfClass c) h = tt
stand_fits (global.OfMember v kind) h = tt

abbrev FoundFits : Option (ℕ × GlobalName) → Type 0
FoundFits f = KindFits (used_kind (used_global (option_map (λ (f : ℕ × GlobalName). f.1.stands) f)))

one_of_two : (b : Bool) (x y : Option (ℕ × GlobalName)) → FoundFits x → FoundFits y → FoundFits (if b then x else y)
one_of_two true x y h k = h
one_of_two false x y h k = k

found_fits : (q : List ℕ) (n : ℕ) (gs : List GlobalName) → Each (λ (g : GlobalName). GlobalFits g.stands) gs → FoundFits (find_from (λ (g : GlobalName). g.name) q n gs)
found_fits q n [] h = tt
found_fits q n (g ∷ gs) h =
    one_of_two (is_same q g.name) (Some (n, g)) (find_from (λ (g : GlobalName). g.name) q (n + 1) gs) (stand_fits g.stands h.0) (found_fits q (n + 1) gs h.1)

pub named_fits : (n : Space) (name : ℕ) (s : Option Global) (u : Used) → s ≡ global_at n name → u ≡ used_global s → MembersFit n → KindFits (used_kind u)
named_fits n name s u e f m =
    let P : Used → Type 0 = λ u. KindFits (used_kind u) in
    subst P (sym (f ∙ ap used_global e)) (found_fits (n.text name) 0 n.globals m.globals)
