-- The state at these sizes, as it is copied number by number.
use Rattle.std.proofs.Common.{◌≡◌, ◌<◌, ◌≤◌, ℕ, refl, sym, ap, subst, ◌∙◌, List, [], length, arith, ⊎_elim}
use Rattle.std.specs.Prelude.{nat_lt, if◌then◌else◌, slice_index, slice_index_or}
use Rattle.std.proofs.lemmas.Bool.{cases_lt, lt-ltb, le-ltb}
use Rattle.svr_eval.specs.Reading.{Reading, reading_of}
use Rattle.svr_eval.specs.Holds.{ItemsCanRead}
use Rattle.svr_frame.specs.Frame.{FrameTerm, state_at}
use Rattle.svr_frame.specs.Sound.{IsSound, SizesFit}
use Rattle.svr_draw.specs.Drawing.{state_numbers, state_rows, state_here}
use Rattle.svr_draw.proofs.Built.{past_end, built_at, built_past}
use Rattle.svr_draw.proofs.Widths.{state_can_read}

module _ (f : FrameTerm) (ns : List ℕ) where
  pub numbers_at : (p n i : ℕ) → slice_index (state_numbers f p n) i ≡ (if nat_lt i n then (reading_of f.state).element p i else 0)
  numbers_at p n i =
      ⊎_elim
      (λ lt. built_at (λ k. state_numbers f p k) (λ k. (reading_of f.state).element p k) refl (λ k. refl) 0 n i lt ∙ sym (ap (λ b. if b then (reading_of f.state).element p i else 0) (lt-ltb i n lt)))
      (λ le. built_past (λ k. state_numbers f p k) (λ k. (reading_of f.state).element p k) refl (λ k. refl) 0 n i le ∙ sym (ap (λ b. if b then (reading_of f.state).element p i else 0) (le-ltb i n le)))
      (cases_lt i n)

  none_past : (i n : ℕ) (x : ℕ) → n ≡ 0 → 0 ≡ (if nat_lt i n then x else 0)
  none_past i n x h = sym (ap (λ b. if b then x else 0) (le-ltb i n (omega (arith, h))))

  element_is : (fit : SizesFit f ns) (p i : ℕ) → slice_index (slice_index_or (state_rows f ns (length f.class.props)) p []) i ≡ (if nat_lt i (slice_index ns p) then (reading_of f.state).element p i else 0)
  element_is fit p i =
      ⊎_elim
      (λ lt. ap (λ (row : List ℕ). slice_index row i) (built_at (λ n. state_rows f ns n) (λ n. state_numbers f n (slice_index ns n)) refl (λ n. refl) [] (length f.class.props) p lt) ∙ numbers_at p (slice_index ns p) i)
      (λ le. ap (λ (row : List ℕ). slice_index row i) (built_past (λ n. state_rows f ns n) (λ n. state_numbers f n (slice_index ns n)) refl (λ n. refl) [] (length f.class.props) p le)
      ∙ none_past i (slice_index ns p) ((reading_of f.state).element p i) (past_end ns p 0 (omega (arith, fit.long, le))))
      (cases_lt p (length f.class.props))

  pub here_is : SizesFit f ns → reading_of (state_here f ns) ≡ state_at f ns
  here_is fit = λ k. record { element = λ p i. element_is fit p i k; size = λ p. slice_index ns p; script = λ v. slice_index f.state.script v }

  -- the items can be read in it
  pub here_can_read : (sound : IsSound f) (fit : SizesFit f ns) → ItemsCanRead (reading_of (state_here f ns)) 0 f.items
  here_can_read sound fit = subst (λ (r : Reading). ItemsCanRead r 0 f.items) (sym (here_is fit)) (state_can_read f ns sound fit)
