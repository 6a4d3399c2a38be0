-- Inside of a class the enum members that can be named fit their types, as they do before it.
use Rattle.std.proofs.Common.{◌≡◌, ℕ, Bool, true, false, List, [], ◌∷◌, ◌++◌, if◌then◌else◌, sym, subst}
use Rattle.svr_elab_names.specs.declared.Global.{Global}
use Rattle.svr_elab_names.specs.declared.Global.TheVariants as global
use Rattle.svr_elab_names.specs.Names.{Space, GlobalName, PropName, ClassName, is_name}
use Rattle.svr_elab_part.specs.Fits.{Each, GlobalFits, MembersFit}
use Rattle.svr_elab_type.specs.Types.{and_name, declaring}
use Rattle.svr_elab_class.specs.Classes.{Head, behind, in_class}

pub behind_fits : (h : Head) (ps : List PropName) (n : Space) → n ≡ behind h ps → MembersFit h.names → MembersFit n
behind_fits h ps n e m = let P : Space → Type 0 = MembersFit in subst P (sym e) (record { globals = m.globals })

abbrev Fits : List GlobalName → Type 0
Fits gs = Each (λ (g : GlobalName). GlobalFits g.stands) gs

last_fits : (gs : List GlobalName) (g : GlobalName) → Fits gs → GlobalFits g.stands → Fits (gs ++ g ∷ [])
last_fits [] g h k = (k, tt)
last_fits (x ∷ xs) g h k = (h.0, last_fits xs g h.1 k)

one_of_two : (b : Bool) (gs hs : List GlobalName) → Fits gs → Fits hs → Fits (if b then gs else hs)
one_of_two true gs hs h k = h
one_of_two false gs hs h k = k

named_fits : (gs : List GlobalName) (q : List ℕ) (s : Global) → Fits gs → GlobalFits s → Fits (and_name gs q s)
named_fits gs q s h k =
    let g : GlobalName = record { name = q; stands = s } in
    one_of_two (is_name (λ (g : GlobalName). g.name) q gs) gs (gs ++ g ∷ []) h (last_fits gs g h k)

-- the name of a class is one more
pub class_added : (text : ℕ → List ℕ) (gs hs : List GlobalName) (cs ds : List ClassName) (q : List ℕ) (c : ℕ)
    → hs ≡ and_name gs q (global.OfClass c) → MembersFit (declaring text gs cs) → MembersFit (declaring text hs ds)
class_added text gs hs cs ds q c e m = record { globals = subst Fits (sym e) (named_fits gs q (global.OfClass c) m.globals tt) }

pub inside_fits : (text : ℕ → List ℕ) (gs : List GlobalName) (cs ds : List ClassName) (later : List (List ℕ)) (ps : List PropName)
    → MembersFit (declaring text gs cs) → MembersFit (in_class text gs ds later ps)
inside_fits text gs cs ds later ps m = record { globals = m.globals }
