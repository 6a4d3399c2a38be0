-- Texts of rows, element by element.
use Rattle.std.proofs.Common.{◌≡◌, ℕ, Bool, true, false, cond, List, [], ◌∷◌, ◌++◌, map, refl, sym, ◌∙◌, ap, append-nil}
use Rattle.std.specs.Prelude.{codes, decimal}
use Rattle.std.specs.List.{concat}
use Rattle.svr_typed.specs.declared.class.Prop.{Prop}
use Rattle.svr_frame.specs.declared.slot.Slot.{Slot}
use Rattle.svr_frame.specs.Frame.{FrameTerm}
use Rattle.svr_script.specs.Printed.{with_commas, sizes_text}
use Rattle.svr_script.specs.ProofText.{bits_text}
use Rattle.svr_printed.specs.Parts.{none_left}

-- one element of an array, and a comma where others stand behind it
pub one_element : (g : ℕ → List ℕ) (n : ℕ) (ns : List ℕ) → with_commas (map g (n ∷ ns)) ≡ (g n ++ cond (none_left ns) [] (codes ",")) ++ with_commas (map g ns)
one_element g n [] = sym (append-nil (g n ++ []) ∙ append-nil (g n))
one_element g n (m ∷ ms) = refl

-- one size
pub one_size : (p : Prop) (ps : List Prop) (b : Bool) (free : List Bool) (n : ℕ) (sizes : List ℕ)
    → sizes_text (p ∷ ps) (b ∷ free) (n ∷ sizes) ≡ sizes_text (p ∷ []) (b ∷ []) (n ∷ []) ++ sizes_text ps free sizes
one_size p ps true free n sizes =
    ap (λ (t : List ℕ). t ++ sizes_text ps free sizes) (sym (append-nil (concat (codes " " ∷ p.name ∷ codes ".size=" ∷ decimal n ∷ []))))
one_size p ps false free n sizes = refl

-- where one of the lists has ended
pub no_size : (ps : List Prop) (free : List Bool) → sizes_text ps free [] ≡ []
no_size [] free = refl
no_size (p ∷ ps) [] = refl
no_size (p ∷ ps) (b ∷ free) = refl

pub no_free_size : (ps : List Prop) (sizes : List ℕ) → sizes_text ps [] sizes ≡ []
no_free_size [] sizes = refl
no_free_size (p ∷ ps) sizes = refl

pub no_bits : (f : FrameTerm) (slots : List Slot) → bits_text f slots [] ≡ []
no_bits f [] = refl
no_bits f (s ∷ slots) = refl

-- a text that is put where a truth says so
pub with_text : (b : Bool) (text : List ℕ) → b ≡ true → text ≡ cond b text []
with_text b text e = ap (λ (x : Bool). cond x text []) (sym e)

pub without_text : (b : Bool) (text : List ℕ) → b ≡ false → [] ≡ cond b text []
without_text b text e = ap (λ (x : Bool). cond x text []) (sym e)
