-- A table of which no property becomes random stays as it is.
use Rattle.std.proofs.Common.{◌≡◌, Bool, true, false, not, ◌&&◌, ◌||◌, List, [], ◌∷◌, ◌⊎◌, map, true≢false, refl, sym, ap, ◌∙◌}
use Rattle.std.specs.List.{list_any, AllZip}
use Rattle.std.specs.Map.{values_of}
use Rattle.indexmap.specs.IndexMap.{IndexMap}
use Rattle.svr_elab_names.specs.declared.PropEntry.{PropEntry}
use Rattle.svr_elab_names.specs.declared.Property.{Property}
use Rattle.svr_elab_names.specs.Names.{PropName}
use Rattle.svr_elab_names.specs.Tables.{Key, prop_of}
use Rattle.svr_elab_names.proofs.Shared.{own}
use Rattle.svr_elab_random.specs.declared.random.Home.{Home}
use Rattle.svr_elab_random.specs.Random.{is_listed, listed, with_list, becomes_random, entry_becomes_random}

abbrev Entries : Type 0
Entries = List (Key × PropEntry)

pub any_random : (hs : List Home) (es : Entries)
    → list_any (becomes_random hs) (map prop_of es) ≡ list_any (entry_becomes_random hs) (values_of es)
any_random hs [] = refl
any_random hs (e ∷ es) = ap (λ (b : Bool). entry_becomes_random hs e.1 || b) (any_random hs es)

neither : (a b : Bool) → (a || b) ≡ false → (a ≡ false) × (b ≡ false)
neither true b h = absurd (true≢false h)
neither false b h = (refl, h)

same_random : (random is_there : Bool) → (not random && is_there) ≡ false → (random || is_there) ≡ random
same_random true is_there h = refl
same_random false is_there h = h

abbrev with_random : Property → Bool → Property
with_random p b = record { number = p.number; home = p.home; kind = p.kind; rand = p.rand; random = b; dims = p.dims }

unlisted : (hs : List Home) (p : Property) → (not p.random && is_listed hs p) ≡ false → listed hs p ≡ p
unlisted hs p h = ap (with_random p) (same_random p.random (is_listed hs p) h)

abbrev with_property : Key × PropEntry → Property → PropName
with_property e p = record { name = e.0.now; property = p; first = e.1.first }

left_alone : (hs : List Home) (es : Entries) → list_any (becomes_random hs) (map prop_of es) ≡ false → map prop_of es ≡ map (with_list hs) (map prop_of es)
left_alone hs [] h = refl
left_alone hs (e ∷ es) h =
    let two = neither (becomes_random hs (prop_of e)) (list_any (becomes_random hs) (map prop_of es)) h in
    ap (λ (ps : List PropName). prop_of e ∷ ps) (left_alone hs es two.1)
    ∙ ap (λ (p : Property). with_property e p ∷ map (with_list hs) (map prop_of es)) (sym (unlisted hs e.1.property two.0))

abbrev Same : Key × PropEntry → Key × PropEntry → Type 0
Same p q = (q.0 ≡ p.0) × (q.1 ≡ p.1)

-- what is marked in a table of its own
pub marked_own : {S : Type 0} (hs : List Home) (m n : IndexMap Key PropEntry S) (ps : List PropName)
    → (n ≡ m) ⊎ AllZip Same m.entries n.entries → ps ≡ map (with_list hs) (map prop_of n.entries) → ps ≡ map (with_list hs) (map prop_of m.entries)
marked_own hs m n ps is h = h ∙ ap (λ (qs : List PropName). map (with_list hs) qs) (own m n is)

-- where the table that was looked through is the one that stays
pub left_shared : {S : Type 0} (hs : List Home) (m t : IndexMap Key PropEntry S) (b : Bool)
    → t ≡ m → b ≡ list_any (becomes_random hs) (map prop_of t.entries) → b ≡ false → map prop_of m.entries ≡ map (with_list hs) (map prop_of m.entries)
left_shared {S = S} hs m t b is looked none =
    left_alone hs m.entries (ap (λ (k : IndexMap Key PropEntry S). list_any (becomes_random hs) (map prop_of k.entries)) (sym is) ∙ sym looked ∙ none)
