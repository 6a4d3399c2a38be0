-- How many properties of a table are arrays.
use Rattle.std.proofs.Common.{◌≡◌, ℕ, ◌+◌, cond, List, [], ◌∷◌, map, fold, count_by, refl}
use Rattle.std.specs.Map.{values_of}
use Rattle.svr_elab_names.specs.declared.PropEntry.{PropEntry}
use Rattle.svr_elab_names.specs.Names.{PropName, is_array}
use Rattle.svr_elab_names.specs.Tables.{Key, prop_of}
use Rattle.svr_elab_class.specs.Classes.{arrays_in}

abbrev Entries : Type 0
Entries = List (Key × PropEntry)

folded : (es : Entries) (n : ℕ)
    → fold (λ (n : ℕ) (p : PropName). n + cond (is_array p.property.dims) 1 0) n (map prop_of es) ≡ fold (λ (n : ℕ) (e : PropEntry). n + cond (is_array e.property.dims) 1 0) n (values_of es)
folded [] n = refl
folded (e ∷ es) n = folded es (n + cond (is_array e.1.property.dims) 1 0)

pub arrays_counted : (es : Entries) → arrays_in (map prop_of es) ≡ count_by (λ (e : PropEntry). is_array e.property.dims) (values_of es)
arrays_counted es = folded es 0
