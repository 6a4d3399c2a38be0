-- One more name in a hash set of names, and in what a list of names is refused for.
use Rattle.std.proofs.Common.{◌≡◌, Bool, true, false, List, [], ◌∷◌, ◌++◌, Option, map, if◌then◌else◌, ℕ, refl, ap, sym, ◌∙◌}
use Rattle.std.specs.List.{list_any}
use Rattle.svr_elab_fault.specs.declared.Fault.{Fault}
use Rattle.svr_elab_fault.specs.Refusals.{first_one}
use Rattle.svr_elab_names.specs.Names.{is_same, PropName}
use Rattle.svr_elab_names.specs.Tables.{Key, bytes_of}
use Rattle.svr_elab_names.proofs.Entries.{is_among}
use Rattle.svr_elab_target.specs.Named as spec
use Rattle.svr_elab_target.specs.Named.{and_listed}
use Rattle.indexmap.specs.IndexSet.{insert_key}

abbrev same_key : Key → Key → Bool
same_key x y = is_same x.now y.now

behind : (ks : List Key) (k : Key) → map bytes_of (ks ++ k ∷ []) ≡ map bytes_of ks ++ k.now ∷ []
behind [] k = refl
behind (x ∷ xs) k = ap (λ (ys : List (List ℕ)). x.now ∷ ys) (behind xs k)

one_of_two : (b : Bool) (ks : List Key) (k : Key) → map bytes_of (if b then ks else ks ++ k ∷ []) ≡ (if b then map bytes_of ks else map bytes_of ks ++ k.now ∷ [])
one_of_two true ks k = refl
one_of_two false ks k = behind ks k

pub listed : (ks : List Key) (k : Key) → map bytes_of (insert_key same_key ks k) ≡ and_listed (map bytes_of ks) k.now
listed ks k =
    one_of_two (list_any (same_key k) ks) ks k
    ∙ ap (λ (b : Bool). if b then map bytes_of ks else map bytes_of ks ++ k.now ∷ []) (sym (is_among k.now ks))

pub next_name : (text : ℕ → List ℕ) (ps : List PropName) (bs cs : List (List ℕ)) (f g h : Option Fault) (x : ℕ) (xs ys : List ℕ) (whole : Option Fault)
    → ys ≡ x ∷ xs → spec.names_faults first_one text ps bs f ys ≡ whole → g ≡ spec.name_faults first_one ps bs x (text x) → h ≡ first_one.both f g → cs ≡ and_listed bs (text x)
    → spec.names_faults first_one text ps cs h xs ≡ whole
next_name text ps bs cs f g h x xs ys whole is_ys same is_g is_h is_cs = rw (is_cs, is_h, is_g) (rw is_ys at same)
