-- The production at a place of a list.
use Rattle.std.proofs.Common.{◌≡◌, ℕ, zero, suc, refl, List, [], ◌∷◌, map, None}
use Rattle.std.specs.Prelude.{slice_get, slice_index_or}
use Rattle.svr_seq.specs.declared.tree.Production.{Production}
use Rattle.svr_seq.specs.SeqTerm.{production_term}

-- past the last one there are no rules
pub no_rules : (prods : List Production) (p : ℕ) → slice_get prods p ≡ None → [] ≡ (slice_index_or (map production_term prods) p (record { name = 0; rules = [] })).rules
no_rules [] p none = refl
no_rules (x ∷ prods) zero none = absurd (cc)
no_rules (x ∷ prods) (suc p) none = no_rules prods p none
