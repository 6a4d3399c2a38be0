use Rattle.std.proofs.Common.{◌≡◌, ◌<◌, ◌+◌, ℕ, true, false}
use Rattle.std.specs.Prelude.{slice_index}
use Rattle.svr_lex.proofs.front.comment_body.Given as goal

abbrev pub invariant-loop-i : goal.invariant-loop-i
invariant-loop-i l = record {
  unended : (k : ℕ) → k + 1 < l.i → slice_index l.text k ≡ 42 → slice_index l.text (k + 1) ≡ 47 → ⊥;
  star : l.after_star ≡ true → (0 < l.i) × ((k : ℕ) → k + 1 ≡ l.i → slice_index l.text k ≡ 42);
  other : l.after_star ≡ false → (k : ℕ) → k + 1 ≡ l.i → slice_index l.text k ≡ 42 → ⊥;
}
