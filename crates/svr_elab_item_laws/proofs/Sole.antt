-- What may be an array: it is a value, or a whole array that is declared.
use Rattle.std.proofs.Common.{◌≡◌, ℕ, Bool, true, false, not, ◌&&◌, Option, None, refl, ap, ◌∙◌}
use Rattle.svr_refusal.specs.declared.Refusal.{Refusal}
use Rattle.svr_refusal.specs.declared.Refusal.TheVariants as refusal
use Rattle.svr_typed.specs.ExprTerm.{ExprTerm}
use Rattle.svr_elab_fault.specs.declared.Fault.{Fault}
use Rattle.svr_elab_fault.specs.Refusals.{first_one, when, earlier}
use Rattle.svr_elab_names.specs.declared.Property.{Property}
use Rattle.svr_elab_part.specs.declared.part.Extent.{Extent}
use Rattle.svr_elab_part.specs.declared.part.Extent.TheVariants as extent
use Rattle.svr_elab_part.specs.Elab as spec
use Rattle.svr_elab_part.specs.Elab.{Elab, is_no_array}
use Rattle.svr_elab_part.specs.Forms.{is_single, is_row, is_whole, is_object, is_refused}
use Rattle.svr_elab_part.proofs.Valued.{none_left, none_right, not_when}
use Rattle.svr_elab_item_laws.proofs.Roots.{true_false, Rooted, WholeIs}

pub not_not : (b : Bool) → not b ≡ false → b ≡ true
not_not true h = refl
not_not false h = absurd (true_false h)

pub by_extent : {A : Type 0} (e : Extent) → is_row e ≡ false → (is_single e ≡ true → A) → (is_whole e ≡ true → A) → A
by_extent extent.Single r h k = h refl
by_extent extent.Row r h k = absurd (true_false r)
by_extent extent.Whole r h k = k refl

clear : (f : Option Fault) (b c : Bool) (at to : ℕ) (r s : Refusal) → f ≡ None → b ≡ true → c ≡ false → earlier f (earlier (when first_one (not b) at r) (when first_one c to s)) ≡ None
clear f b c at to r s h k l =
    ap (λ (f : Option Fault). earlier f (earlier (when first_one (not b) at r) (when first_one c to s))) h
    ∙ ap (λ (b : Bool). earlier None (earlier (when first_one (not b) at r) (when first_one c to s))) k
    ∙ ap (λ (c : Bool). earlier None (earlier None (when first_one c to s))) l

-- where a value may stand as well as an array, a value in which nothing is refused is one where values alone may stand
pub as_value : (x : Elab (Option Fault)) → (spec.sole first_one x).faults ≡ None → is_single x.form.extent ≡ true → (spec.plain first_one x).faults ≡ None
as_value x f s =
    clear x.faults (is_single x.form.extent) (is_object x.form.root) x.form.name x.form.name refusal.LeftOut refusal.UnknownName
    (none_left _ _ f) s (not_when _ _ _ (none_right _ _ (none_right _ _ f)))

pub no_row : (x : Elab (Option Fault)) → (spec.sole first_one x).faults ≡ None → is_row x.form.extent ≡ false
no_row x f = not_when _ _ _ (none_left _ _ (none_right _ _ f))

some_whole : (r w : Bool) → (r ≡ true → ⊥) → (not r && not w) ≡ false → w ≡ true
some_whole true w h k = absurd (h refl)
some_whole false w h k = not_not w k

-- what is known to be an array is a whole one
pub whole_of : (Q : Property → Type 0) (N : ExprTerm → Type 0) (x : Elab (Option Fault)) → Rooted Q N x → x.faults ≡ None → is_no_array x ≡ false → WholeIs Q N x.form.root x.shape x.tree x.reads
whole_of Q N x h f a = h.whole (some_whole (is_refused x.form.root) (is_whole x.form.extent) (λ e. h.refused e f) a)

pub whole_extent : (Q : Property → Type 0) (N : ExprTerm → Type 0) (x : Elab (Option Fault)) → Rooted Q N x → x.faults ≡ None → is_no_array x ≡ false → is_whole x.form.extent ≡ true
whole_extent Q N x h f a = some_whole (is_refused x.form.root) (is_whole x.form.extent) (λ e. h.refused e f) a
