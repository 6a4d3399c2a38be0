-- What clauses for the items of a question ask, and what they encode.
use Rattle.std.proofs.Common.{◌≡◌, ◌≤◌, ℕ, List, [], ◌++◌, map, sym, ◌∙◌, subst, arith}
use Rattle.std.proofs.lemmas.List.{map-append}
use Rattle.svr_typed.specs.declared.expr.TExpr.{TExpr}
use Rattle.svr_typed.specs.ExprTerm.{ExprTerm, expr_term}
use Rattle.svr_eval.specs.Reading.{reading_of}
use Rattle.svr_frame.specs.declared.part.Part.TheVariants.{Sizes}
use Rattle.svr_frame.specs.Frame.{FrameTerm, state_at}
use Rattle.svr_frame.specs.Occurrences.{closed_of}
use Rattle.svr_frame.specs.Phases.{hard_of, capped_hard_of, live_of}
use Rattle.svr_frame.specs.Sound.{IsSound}
use Rattle.svr_encoded.specs.declared.encoded.Encoded.{Encoded}
use Rattle.svr_encoded.specs.Encodes.{Encodes}
use Rattle.svr_phase.specs.Spent.{closed_at, EncodesItems}
use Rattle.svr_phase.proofs.Preferred.{state_sizes_fit}
use Rattle.svr_clauses.specs.Encodable.{AreEncodable}
use Rattle.svr_clauses.proofs.Encodable.{both_encodable, hard_encodable, live_encodable, capped_encodable}
use Rattle.svr_sized.specs.declared.scope.Scope.{Scope}
use Rattle.svr_sized.specs.declared.scope.Scope.TheVariants.{Wished, Capped, Uncapped}
use Rattle.svr_sized.specs.Questions.{hard_over, soft_over, bits_over}

-- all items of a question can be made into clauses
pub encodable_over : (f : FrameTerm) → IsSound f → (cap : ℕ) → cap ≤ 2048 → (scope : Scope) → AreEncodable f Sizes (reading_of f.state) (state_at f f.state.sizes) (hard_over f cap scope ++ soft_over f scope)
encodable_over f sound cap le Wished =
    let fit = state_sizes_fit f sound in
    both_encodable f Sizes (reading_of f.state) (state_at f f.state.sizes) (capped_hard_of f cap f.state.sizes) (live_of f Sizes f.state.sizes)
    (capped_encodable f f.state.sizes sound fit cap (omega (arith, le))) (live_encodable f Sizes f.state.sizes sound fit)
encodable_over f sound cap le Capped =
    both_encodable f Sizes (reading_of f.state) (state_at f f.state.sizes) (capped_hard_of f cap f.state.sizes) []
    (capped_encodable f f.state.sizes sound (state_sizes_fit f sound) cap (omega (arith, le))) tt
encodable_over f sound cap le Uncapped =
    both_encodable f Sizes (reading_of f.state) (state_at f f.state.sizes) (hard_of f Sizes f.state.sizes) []
    (hard_encodable f Sizes f.state.sizes sound (state_sizes_fit f sound)) tt

-- the trees in one list stand for all items
pub items_stand : (f : FrameTerm) (cap : ℕ) (scope : Scope) (items hard soft : List TExpr) → map expr_term items ≡ map expr_term hard ++ map expr_term soft → map expr_term hard ≡ closed_at f f.state.sizes (hard_over f cap scope)
    → map expr_term soft ≡ closed_at f f.state.sizes (soft_over f scope) → map expr_term items ≡ closed_at f f.state.sizes (hard_over f cap scope ++ soft_over f scope)
items_stand f cap scope items hard soft row h s =
    row ∙ (λ i. h i ++ s i) ∙ sym (map-append (closed_of (state_at f f.state.sizes)) (hard_over f cap scope) (soft_over f scope))

-- the clauses encode them
pub encodes_over : (f : FrameTerm) (cap : ℕ) (scope : Scope) (ns : List ℕ) (bits : ℕ) (items : List TExpr) (e : Encoded) → ns ≡ f.state.sizes → bits ≡ bits_over cap scope
    → map expr_term items ≡ closed_at f f.state.sizes (hard_over f cap scope ++ soft_over f scope) → Encodes f Sizes ns bits (map expr_term items) e
    → EncodesItems f Sizes f.state.sizes (bits_over cap scope) (hard_over f cap scope ++ soft_over f scope) e
encodes_over f cap scope ns bits items e sizes few stand h =
    subst (λ (xs : List ℕ). Encodes f Sizes xs (bits_over cap scope) (closed_at f f.state.sizes (hard_over f cap scope ++ soft_over f scope)) e) sizes
    (subst (λ (k : ℕ). Encodes f Sizes ns k (closed_at f f.state.sizes (hard_over f cap scope ++ soft_over f scope)) e) few
    (subst (λ (es : List ExprTerm). Encodes f Sizes ns bits es e) stand h))
