-- A table of properties that classes have in common: a clone of it has the same properties, and so has the table that a class gets to write to.
use Rattle.std.proofs.Common.{◌≡◌, ◌⊎◌, inl, inr, List, [], ◌∷◌, map, refl, ap, ◌∙◌}
use Rattle.std.specs.List.{AllZip}
use Rattle.indexmap.specs.IndexMap.{IndexMap}
use Rattle.svr_elab_names.specs.declared.space.PropEntry.{PropEntry}
use Rattle.svr_elab_names.specs.Names.{PropName}
use Rattle.svr_elab_names.specs.Tables.{Key, prop_of}

abbrev Entries : Type 0
Entries = List (Key × PropEntry)

abbrev entry : Key → PropEntry → PropName
entry k v = record { name = k.now; property = v.property; first = v.first }

abbrev Same : Key × PropEntry → Key × PropEntry → Type 0
Same p q = (q.0 ≡ p.0) × (q.1 ≡ p.1)

pub cloned : (es fs : Entries) → AllZip Same es fs → map prop_of fs ≡ map prop_of es
cloned [] [] h = refl
cloned [] (f ∷ fs) h = absurd h
cloned (e ∷ es) [] h = absurd h
cloned (e ∷ es) (f ∷ fs) h =
    ap (λ (k : Key). entry k f.1 ∷ map prop_of fs) h.0.0 ∙ ap (λ (v : PropEntry). entry e.0 v ∷ map prop_of fs) h.0.1
    ∙ ap (λ (ps : List PropName). prop_of e ∷ ps) (cloned es fs h.1)

-- the table to write to is the one that was there, or a clone of it where other classes have that one too
pub own : {S : Type 0} (m n : IndexMap Key PropEntry S) → (n ≡ m) ⊎ AllZip Same m.entries n.entries → map prop_of n.entries ≡ map prop_of m.entries
own {S = S} m n (inl e) = ap (λ (t : IndexMap Key PropEntry S). map prop_of t.entries) e
own m n (inr h) = cloned m.entries n.entries h
