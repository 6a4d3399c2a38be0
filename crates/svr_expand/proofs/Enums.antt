-- The members of an enum, one by one.
use Rattle.std.proofs.Common.{◌≡◌, ◌<◌, ◌+◌, ℕ, sym, ◌∙◌, ap, List, [], ◌∷◌, ◌++◌, map, length, take}
use Rattle.std.specs.Prelude.{slice_index}
use Rattle.std.proofs.lemmas.List.{map-append, take_more}
use Rattle.svr_typed.specs.declared.expr.TRange.{TRange}
use Rattle.svr_typed.specs.ExprTerm.{range_term}
use Rattle.svr_frame.specs.Frame.{FrameTerm}
use Rattle.svr_expand.specs.Domains.{member_range}

pub member_more : (f : FrameTerm) (p : ℕ) (vs : List ℕ) (i : ℕ) (old new : List TRange) (r : TRange) → i < length vs → map range_term old ≡ map (member_range f p) (take i vs) → new ≡ old ++ r ∷ [] → range_term r ≡ member_range f p (slice_index vs i)
    → map range_term new ≡ map (member_range f p) (take (i + 1) vs)
member_more f p vs i old new r below h k t =
    ap (map range_term) k ∙ map-append range_term old (r ∷ []) ∙ (λ j. h j ++ t j ∷ []) ∙ sym (map-append (member_range f p) (take i vs) (slice_index vs i ∷ [])) ∙ ap (map (member_range f p)) (sym (take_more vs i 0 below))
