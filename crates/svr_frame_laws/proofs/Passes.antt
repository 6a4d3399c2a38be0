-- The pass over soft items: it has one result, what it keeps can be met, and an assignment that meets the hard and the kept items meets no other soft one.
use Rattle.std.proofs.Common.{◌≡◌, ℕ, Bool, true, false, ◌&&◌, refl, sym, ◌∙◌, ap, subst, List, [], ◌∷◌, ◌++◌, map, append_assoc}
use Rattle.std.specs.List.{list_all}
use Rattle.std.proofs.lemmas.List.Folds.{list_all-append}
use Rattle.std.proofs.lemmas.Bool.{and_parts}
use Rattle.svr_eval.specs.Reading.{Reading}
use Rattle.svr_frame.specs.declared.part.Part.{Part}
use Rattle.svr_frame.specs.Frame.{FrameTerm}
use Rattle.svr_frame.specs.Occurrences.{Occurrence, is_true, all_true}
use Rattle.svr_frame.specs.Satisfaction.{IsAssignment, Sat, Keeps, kept_of}

-- the pass has one result
pub Keeps_one : (S : List Occurrence → Type 0) (asked soft : List Occurrence) (fs gs : List Bool) → Keeps S asked soft fs → Keeps S asked soft gs → fs ≡ gs
Keeps_one S asked [] fs gs h k = h ∙ sym k
Keeps_one S asked (s ∷ soft) [] gs h k = absurd h
Keeps_one S asked (s ∷ soft) (f ∷ fs) [] h k = absurd k
Keeps_one S asked (s ∷ soft) (true ∷ fs) (true ∷ gs) h k = ap (λ (x : List Bool). true ∷ x) (Keeps_one S (asked ++ s ∷ []) soft fs gs h.1 k.1)
Keeps_one S asked (s ∷ soft) (true ∷ fs) (false ∷ gs) h k = absurd (k.0 h.0)
Keeps_one S asked (s ∷ soft) (false ∷ fs) (true ∷ gs) h k = absurd (h.0 k.0)
Keeps_one S asked (s ∷ soft) (false ∷ fs) (false ∷ gs) h k = ap (λ (x : List Bool). false ∷ x) (Keeps_one S asked soft fs gs h.1 k.1)

append_nil : (xs : List Occurrence) → xs ++ [] ≡ xs
append_nil [] = refl
append_nil (x ∷ xs) = ap (λ (y : List Occurrence). x ∷ y) (append_nil xs)

-- where what is asked can be met, it can be met with all that is kept
pub Keeps_met : (S : List Occurrence → Type 0) (asked soft : List Occurrence) (fs : List Bool) → S asked → Keeps S asked soft fs → S (asked ++ kept_of soft fs)
Keeps_met S asked [] fs m h = subst S (sym (append_nil asked)) m
Keeps_met S asked (s ∷ soft) [] m h = absurd h
Keeps_met S asked (s ∷ soft) (true ∷ fs) m h = subst S (append_assoc asked (s ∷ []) (kept_of soft fs)) (Keeps_met S (asked ++ s ∷ []) soft fs h.0 h.1)
Keeps_met S asked (s ∷ soft) (false ∷ fs) m h = Keeps_met S asked soft fs m h.1

module _ (f : FrameTerm) (part : Part) (sizes : List ℕ) (fixed : List (ℕ × ℕ)) (a : Reading) (is : IsAssignment f part sizes fixed a) where
  met_with : (asked : List Occurrence) (s : Occurrence) → all_true a asked ≡ true → is_true a s ≡ true → all_true a (asked ++ s ∷ []) ≡ true
  met_with asked s h k = list_all-append (is_true a) asked (s ∷ []) ∙ rw (h, k) refl

  -- an assignment that meets the hard items and the kept soft ones meets just these of the soft ones
  pub Keeps_exactly : (asked soft : List Occurrence) (fs : List Bool) → Keeps (Sat f part sizes fixed) asked soft fs → all_true a asked ≡ true → all_true a (kept_of soft fs) ≡ true
      → map (is_true a) soft ≡ fs
  Keeps_exactly asked [] fs h m k = sym h
  Keeps_exactly asked (s ∷ soft) [] h m k = absurd h
  Keeps_exactly asked (s ∷ soft) (true ∷ fs) h m k =
      let both = and_parts (is_true a s) (all_true a (kept_of soft fs)) k in
      λ i. both.0 i ∷ Keeps_exactly (asked ++ s ∷ []) soft fs h.1 (met_with asked s m both.0) both.1 i
  Keeps_exactly asked (s ∷ soft) (false ∷ fs) h m k =
      λ i. fails (is_true a s) refl i ∷ Keeps_exactly asked soft fs h.1 m k i
    where
      fails : (b : Bool) → is_true a s ≡ b → is_true a s ≡ false
      fails true e = absurd (h.0 (a, is, met_with asked s m e))
      fails false e = e

  -- where an assignment meets the hard items and all soft ones, all are kept
  pub Keeps_all : (asked soft : List Occurrence) (fs : List Bool) → Keeps (Sat f part sizes fixed) asked soft fs → all_true a asked ≡ true → all_true a soft ≡ true → fs ≡ map (λ s. true) soft
  Keeps_all asked [] fs h m k = h
  Keeps_all asked (s ∷ soft) [] h m k = absurd h
  Keeps_all asked (s ∷ soft) (true ∷ fs) h m k =
      let both = and_parts (is_true a s) (all_true a soft) k in
      ap (λ (x : List Bool). true ∷ x) (Keeps_all (asked ++ s ∷ []) soft fs h.1 (met_with asked s m both.0) both.1)
  Keeps_all asked (s ∷ soft) (false ∷ fs) h m k =
      let both = and_parts (is_true a s) (all_true a soft) k in
      absurd (h.0 (a, is, met_with asked s m both.0))
