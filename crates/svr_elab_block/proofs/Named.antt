-- Names in a hash table, each once, and the items of a class behind those that it inherits.
use Rattle.std.proofs.Common.{◌≡◌, Bool, true, false, if◌then◌else◌, ◌||◌, List, [], ◌∷◌, ◌++◌, map, refl, ap, sym, ◌∙◌}
use Rattle.std.proofs.lemmas.List.{map-append}
use Rattle.std.specs.List.{list_any}
use Rattle.indexmap.specs.IndexSet.{insert_key}
use Rattle.svr_elab_names.specs.Names.{is_same}
use Rattle.svr_elab_names.specs.Tables.{Key, bytes_of}
use Rattle.svr_elab_block.specs.Blocks.{and_name}

abbrev same_key : Key → Key → Bool
same_key x y = is_same x.now y.now

is_there : (k : Key) (ks : List Key) → list_any (is_same k.now) (map bytes_of ks) ≡ list_any (same_key k) ks
is_there k [] = refl
is_there k (x ∷ ks) = elim (is_same k.now x.now) as (λ b. (b || list_any (is_same k.now) (map bytes_of ks)) ≡ (b || list_any (same_key k) ks)) [ true ↦ refl | false ↦ is_there k ks ]

chosen : (k : Key) (ks : List Key) (b : Bool) → map bytes_of (if b then ks else ks ++ k ∷ []) ≡ (if b then map bytes_of ks else map bytes_of ks ++ k.now ∷ [])
chosen k ks true = refl
chosen k ks false = map-append bytes_of ks (k ∷ [])

pub and_name_is : (k : Key) (ks : List Key) → map bytes_of (insert_key same_key ks k) ≡ and_name (map bytes_of ks) k.now
and_name_is k ks =
    chosen k ks (list_any (same_key k) ks)
    ∙ ap (λ b. if b then map bytes_of ks else map bytes_of ks ++ k.now ∷ []) (sym (is_there k ks))
