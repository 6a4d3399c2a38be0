-- A member that is added fits its type.
use Rattle.std.proofs.Common.{◌≡◌, ℕ, ◌+◌, ◌<◌, ◌^◌, ℤ, pos, negsuc, Bool, true, false, List, [], ◌∷◌, ◌++◌, length, Option, None, Some, if◌then◌else◌, sym, ap, ◌∙◌, subst, arith}
use Rattle.std.specs.Prelude.{◌≤ℤ◌, IfSome}
use Rattle.std.proofs.lemmas.List.{length-append}
use Rattle.std.proofs.lemmas.Nat.{mod_below, pow_pos}
use Rattle.svr_num.specs.Num.{residue}
use Rattle.svr_typed.specs.declared.EnumMember.{EnumMember}
use Rattle.svr_elab_names.specs.declared.Vector.{Vector}
use Rattle.svr_elab_names.specs.declared.Global.{Global}
use Rattle.svr_elab_names.specs.declared.Global.TheVariants as global
use Rattle.svr_elab_names.specs.Names.{GlobalName, ClassName, is_name}
use Rattle.svr_elab_part.specs.Fits.{Each, GlobalFits, KindFits, MemberFits, MembersFit}
use Rattle.svr_elab_type.specs.Types.{and_name, stored_bits, or_zero, with_member, declaring}

residue_below : (w : ℕ) (x : ℤ) → residue w x < 2 ^ w
residue_below w (pos n) = mod_below n (2 ^ w) (pow_pos w)
residue_below w (negsuc n) = let p : 0 < 2 ^ w = pow_pos w in omega arith

stored_fits : (base : Option Vector) (x : Option ℤ) → KindFits base → MemberFits (stored_bits base x) base
stored_fits None x h = tt
stored_fits (Some v) None h = h
stored_fits (Some v) (Some x) h = (h, residue_below v.kind.width x)

abbrev Fits : List GlobalName → Type 0
Fits gs = Each (λ (g : GlobalName). GlobalFits g.stands) gs

last_fits : (gs : List GlobalName) (g : GlobalName) → Fits gs → GlobalFits g.stands → Fits (gs ++ g ∷ [])
last_fits [] g h k = (k, tt)
last_fits (x ∷ xs) g h k = (h.0, last_fits xs g h.1 k)

one_of_two : (b : Bool) (gs hs : List GlobalName) → Fits gs → Fits hs → Fits (if b then gs else hs)
one_of_two true gs hs h k = h
one_of_two false gs hs h k = k

named_fits : (gs : List GlobalName) (q : List ℕ) (s : Global) → Fits gs → GlobalFits s → Fits (and_name gs q s)
named_fits gs q s h k =
    let g : GlobalName = record { name = q; stands = s } in
    one_of_two (is_name (λ (g : GlobalName). g.name) q gs) gs (gs ++ g ∷ []) h (last_fits gs g h k)

pub member_added : (text : ℕ → List ℕ) (cs : List ClassName) (gs hs : List GlobalName) (q : List ℕ) (base : Option Vector) (x : Option ℤ) (value : Option ℕ)
    → value ≡ stored_bits base x → hs ≡ and_name gs q (global.OfMember value base) → KindFits base → MembersFit (declaring text gs cs) → MembersFit (declaring text hs cs)
member_added text cs gs hs q base x value v e h m =
    let s : Global = global.OfMember (stored_bits base x) base in
    let k : hs ≡ and_name gs q s = e ∙ ap (λ (v : Option ℕ). and_name gs q (global.OfMember v base)) v in
    record { globals = subst Fits (sym k) (named_fits gs q s m.globals (stored_fits base x h)) }

-- the number of the next member, where one more stands before it
pub limit_after : (x : Option ℤ) (ms ns : List EnumMember) (q : List ℕ) (v : Option ℕ) (count : ℕ)
    → count ≡ length ms → ns ≡ with_member ms q v → IfSome x (λ n. n ≤ℤ pos (2 ^ 64 + (count + 1))) → IfSome x (λ n. n ≤ℤ pos (2 ^ 64 + length ns))
limit_after x ms ns q v count e f h =
    let m : EnumMember = record { name = q; value = or_zero v } in
    let k : length ns ≡ count + 1 = ap length f ∙ (length-append ms (m ∷ []) ∙ ap (λ (n : ℕ). n + 1) (sym e)) in
    let P : ℕ → Type 0 = λ k. IfSome x (λ n. n ≤ℤ pos (2 ^ 64 + k)) in
    subst P (sym k) h

pub type_added : (text : ℕ → List ℕ) (cs : List ClassName) (gs hs : List GlobalName) (q : List ℕ) (kind : Option Vector)
    → hs ≡ and_name gs q (global.OfType kind) → KindFits kind → MembersFit (declaring text gs cs) → MembersFit (declaring text hs cs)
type_added text cs gs hs q kind e h m = record { globals = subst Fits (sym e) (named_fits gs q (global.OfType kind) m.globals h) }
