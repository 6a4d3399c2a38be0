-- Trees that stand for the items of the last phase: they can be evaluated, and made into clauses.
use Rattle.std.proofs.Common.{◌≡◌, ◌++◌, ◌&&◌, Bool, refl, sym, ap, ◌∙◌, List, [], ◌∷◌, ℕ, suc, map, length}
use Rattle.std.specs.List.{list_all}
use Rattle.std.proofs.lemmas.List.{map-append}
use Rattle.std.proofs.lemmas.List.Folds.{list_all-append}
use Rattle.svr_typed.specs.declared.expr.TExpr.{TExpr}
use Rattle.svr_typed.specs.ExprTerm.{expr_term}
use Rattle.svr_eval.specs.Reading.{Reading, reading_of}
use Rattle.svr_frame.specs.declared.part.Part.TheVariants.{All as Whole}
use Rattle.svr_frame.specs.Frame.{FrameTerm, state_at}
use Rattle.svr_frame.specs.Occurrences.{is_true, closed_of}
use Rattle.svr_frame.specs.Phases.{hard_of, live_of}
use Rattle.svr_frame.specs.Satisfaction.{IsAssignment}
use Rattle.svr_frame.specs.Sound.{IsSound, SizesFit}
use Rattle.svr_frame_laws.proofs.Expressions.{hard_truths, live_truths}
use Rattle.svr_encoded.specs.Encodes.{holds}
use Rattle.svr_clauses.specs.Encodable.{AreEncodable}
use Rattle.svr_clauses.proofs.Encodable.{both_encodable, hard_encodable, live_encodable}
use Rattle.svr_phase.specs.Spent.{closed_at}
use Rattle.svr_phase.specs.Sizes.{meets_all}

mapped : {A B : Type 0} (g : B → Bool) (h : A → B) (xs : List A) → list_all g (map h xs) ≡ list_all (λ x. g (h x)) xs
mapped g h [] = refl
mapped g h (x ∷ xs) = ap (λ b. g (h x) && b) (mapped g h xs)

same_all : {A : Type 0} (g h : A → Bool) (xs : List A) → map g xs ≡ map h xs → list_all g xs ≡ list_all h xs
same_all g h [] e = refl
same_all g h (x ∷ xs) e =
    let first : g x ≡ h x = cc in
    let rest : map g xs ≡ map h xs = cc in
    ap (λ b. b && list_all g xs) first ∙ ap (λ b. h x && b) (same_all g h xs rest)

pub same_length : {A B C : Type 0} (f : A → C) (g : B → C) (xs : List A) (ys : List B) → map f xs ≡ map g ys → length xs ≡ length ys
same_length f g [] [] e = refl
same_length f g [] (y ∷ ys) e = absurd (cc)
same_length f g (x ∷ xs) [] e = absurd (cc)
same_length f g (x ∷ xs) (y ∷ ys) e = let rest : map f xs ≡ map g ys = cc in ap (λ (n : ℕ). suc n) (same_length f g xs ys rest)

module _ (f : FrameTerm) (ns : List ℕ) (sound : IsSound f) (fit : SizesFit f ns) (fixed : List (ℕ × ℕ)) (a : Reading) (is : IsAssignment f Whole ns fixed a) where
  abbrev st : Reading
  st = state_at f ns

  -- closed expressions hold just where the items are true
  pub hard_hold : (xs : List TExpr) → map expr_term xs ≡ closed_at f ns (hard_of f Whole ns) → list_all (λ e. holds a e) (map expr_term xs) ≡ meets_all a (hard_of f Whole ns)
  hard_hold xs e =
      ap (list_all (λ x. holds a x)) e ∙ mapped (λ x. holds a x) (closed_of (state_at f ns)) (hard_of f Whole ns)
      ∙ same_all (λ o. holds a (closed_of (state_at f ns) o)) (is_true a) (hard_of f Whole ns) (hard_truths f ns sound fit Whole fixed a is)

  pub soft_hold : (xs : List TExpr) → map expr_term xs ≡ closed_at f ns (live_of f Whole ns) → list_all (λ e. holds a e) (map expr_term xs) ≡ meets_all a (live_of f Whole ns)
  soft_hold xs e =
      ap (list_all (λ x. holds a x)) e ∙ mapped (λ x. holds a x) (closed_of (state_at f ns)) (live_of f Whole ns)
      ∙ same_all (λ o. holds a (closed_of (state_at f ns) o)) (is_true a) (live_of f Whole ns) (live_truths f ns sound fit Whole fixed a is)

  pub all_hold_is : (hard soft : List TExpr) → map expr_term hard ≡ closed_at f ns (hard_of f Whole ns) → map expr_term soft ≡ closed_at f ns (live_of f Whole ns)
      → (list_all (λ e. holds a e) (map expr_term hard) && list_all (λ e. holds a e) (map expr_term soft)) ≡ meets_all a (hard_of f Whole ns ++ live_of f Whole ns)
  all_hold_is hard soft h s =
      (λ i. hard_hold hard h i && soft_hold soft s i) ∙ sym (list_all-append (is_true a) (hard_of f Whole ns) (live_of f Whole ns))

  -- all in one list
  pub clauses_hold : (xs : List TExpr) → map expr_term xs ≡ closed_at f ns (hard_of f Whole ns ++ live_of f Whole ns) → list_all (λ e. holds a e) (map expr_term xs) ≡ meets_all a (hard_of f Whole ns ++ live_of f Whole ns)
  clauses_hold xs e =
      ap (list_all (λ x. holds a x)) e ∙ mapped (λ x. holds a x) (closed_of (state_at f ns)) (hard_of f Whole ns ++ live_of f Whole ns)
      ∙ list_all-append (λ o. holds a (closed_of (state_at f ns) o)) (hard_of f Whole ns) (live_of f Whole ns)
      ∙ (λ i. same_all (λ o. holds a (closed_of (state_at f ns) o)) (is_true a) (hard_of f Whole ns) (hard_truths f ns sound fit Whole fixed a is) i
      && same_all (λ o. holds a (closed_of (state_at f ns) o)) (is_true a) (live_of f Whole ns) (live_truths f ns sound fit Whole fixed a is) i)
      ∙ sym (list_all-append (is_true a) (hard_of f Whole ns) (live_of f Whole ns))

-- the hard items, and the soft ones behind them, in one list
pub items_stand : (f : FrameTerm) (ns : List ℕ) (all hard soft : List TExpr) → map expr_term all ≡ map expr_term hard ++ map expr_term soft → map expr_term hard ≡ closed_at f ns (hard_of f Whole ns) → map expr_term soft ≡ closed_at f ns (live_of f Whole ns)
    → map expr_term all ≡ closed_at f ns (hard_of f Whole ns ++ live_of f Whole ns)
items_stand f ns all hard soft e h s = e ∙ (λ i. h i ++ s i) ∙ sym (map-append (closed_of (state_at f ns)) (hard_of f Whole ns) (live_of f Whole ns))

pub items_encodable : (f : FrameTerm) (ns : List ℕ) → IsSound f → SizesFit f ns → AreEncodable f Whole (reading_of f.state) (state_at f ns) (hard_of f Whole ns ++ live_of f Whole ns)
items_encodable f ns sound fit =
    both_encodable f Whole (reading_of f.state) (state_at f ns) (hard_of f Whole ns) (live_of f Whole ns) (hard_encodable f Whole ns sound fit) (live_encodable f Whole ns sound fit)
