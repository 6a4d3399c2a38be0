-- What is known of a form, put together of what is known of its parts.
use Rattle.std.proofs.Common.{◌≡◌, ℕ, ℤ, Bool, ◌||◌, if◌then◌else◌, Option, None, refl, ap, ◌∙◌}
use Rattle.svr_elab_fault.specs.declared.Fault.{Fault}
use Rattle.svr_elab_fault.specs.Refusals.{first_one}
use Rattle.svr_elab_names.specs.declared.Vector.{Vector}
use Rattle.svr_elab_part.specs.Fits.{KindFits}
use Rattle.svr_elab_part.specs.Shapes.{both_known}
use Rattle.svr_elab_type.specs.Types.{Constant, TypeElab, vector, is_bad_bound, ascends, is_over_64, range_width, lowest_bit, range_faults, range_type}
use Rattle.svr_elab_type.proofs.Widths.{range_fits}

abbrev Number : Type 0
Number = Constant (Option Fault)

-- a range, by its bounds
pub range_is : (at : ℕ) (s : Bool) (b : ℕ) (r : TypeElab (Option Fault)) (m l x y : Number) → r ≡ range_type first_one at s b m l → m ≡ x → l ≡ y → r ≡ range_type first_one at s b x y
range_is at s b r m l x y h e f =
    h ∙ ap (λ (m : Number). range_type first_one at s b m l) e ∙ ap (λ (l : Number). range_type first_one at s b x l) f

pub range_known : (at : ℕ) (s : Bool) (b : ℕ) (m l : Number) (w : Option ℕ) (wide bad : Bool) (low : Option ℤ) (k : Option Vector) (f : Option Fault)
    → w ≡ range_width m.number l.number → wide ≡ is_over_64 w → bad ≡ (is_bad_bound m.number || (is_bad_bound l.number || (ascends m.number l.number || wide))) → low ≡ lowest_bit l.number
    → k ≡ (if bad then None else both_known (λ w low. vector w s low) w low) → f ≡ range_faults first_one at b m l wide
    → (let r : TypeElab (Option Fault) = record { kind = k; faults = f } in r) ≡ range_type first_one at s b m l
range_known at s b m l w wide bad low k f is_w is_wide is_bad is_low is_k is_f = rw (is_k, is_f, is_bad, is_low, is_wide, is_w) refl

pub range_small : (s : Bool) (m l : Option ℤ) (w : Option ℕ) (wide bad : Bool) (low : Option ℤ) (k : Option Vector)
    → w ≡ range_width m l → wide ≡ is_over_64 w → bad ≡ (is_bad_bound m || (is_bad_bound l || (ascends m l || wide))) → low ≡ lowest_bit l
    → k ≡ (if bad then None else both_known (λ w low. vector w s low) w low) → KindFits k
range_small s m l w wide bad low k is_w is_wide is_bad is_low is_k = rw (is_k, is_bad, is_low, is_wide, is_w) (range_fits (is_bad_bound m) (is_bad_bound l) s m l)
