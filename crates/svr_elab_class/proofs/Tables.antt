-- A name in a hash table of properties or in a set of names, and one more at its end.
use Rattle.std.proofs.Common.{◌≡◌, ℕ, Bool, true, false, cond, List, [], ◌∷◌, ◌++◌, map, Option, None, Some, is_some, if◌then◌else◌, ◌||◌, true≢false, refl, ap, ◌∙◌, sym}
use denote.Ref.{Bor}
use Rattle.std.specs.Option.{option_copied}
use Rattle.std.specs.List.{list_any}
use Rattle.std.specs.Map.{lookup}
use Rattle.indexmap.specs.IndexMap.{insert_entry}
use Rattle.indexmap.specs.IndexSet.{insert_key}
use Rattle.svr_elab_names.specs.declared.Property.{Property}
use Rattle.svr_elab_names.specs.declared.PropEntry.{PropEntry}
use Rattle.svr_elab_names.specs.Names.{PropName, is_same, is_name}
use Rattle.svr_elab_names.specs.Tables.{Key, prop_of, bytes_of}
use Rattle.svr_elab_names.proofs.Entries.{is_among}
use Rattle.svr_elab_class.specs.Classes.{and_prop, with_name}

abbrev same_key : Key → Key → Bool
same_key x y = is_same x.now y.now

-- ---- properties

module _ (k : Key) where
  abbrev is_key : Key → Bool
  is_key x = is_same k.now x.now

  pub is_property : (es : List (Key × PropEntry)) → is_name (λ (p : PropName). p.name) k.now (map prop_of es) ≡ is_some (lookup is_key es)
  is_property [] = refl
  is_property (e ∷ es) =
      elim (is_same k.now e.0.now)
      as (λ b. (b || is_name (λ (p : PropName). p.name) k.now (map prop_of es)) ≡ is_some (cond b (Some e.1) (lookup is_key es)))
      [ true ↦ refl | false ↦ is_property es ]

  -- a look-up finds a property that is there
  found : (es : List (Key × PropEntry)) (g : Option (Bor PropEntry)) (b : Bool) → option_copied g ≡ lookup is_key es → b ≡ is_some g → b ≡ is_some (lookup is_key es)
  found es None b e h = h ∙ ap is_some e
  found es (Some x) b e h = h ∙ ap is_some e

  pub found_named : (es : List (Key × PropEntry)) (g : Option (Bor PropEntry)) (b : Bool)
      → option_copied g ≡ lookup is_key es → b ≡ is_some g → b ≡ is_name (λ (p : PropName). p.name) k.now (map prop_of es)
  found_named es g b e h = found es g b e h ∙ sym (is_property es)

  module _ (v : PropEntry) where
    abbrev entry : PropName
    entry = record { name = k.now; property = v.property; first = v.first }

    abbrev chosen : Bool → List PropName → List PropName
    chosen b ps = if b then ps else ps ++ entry ∷ []

    -- a name that is there changes nothing
    pub prop_kept : (es : List (Key × PropEntry)) → is_some (lookup is_key es) ≡ true → map prop_of es ≡ and_prop (map prop_of es) k.now v.property v.first
    prop_kept es h = sym (ap (λ (b : Bool). chosen b (map prop_of es)) (is_property es ∙ h))

    abbrev IsLast : List (Key × PropEntry) → Type 0
    IsLast es = is_some (lookup is_key es) ≡ false → map prop_of (insert_entry same_key es k v) ≡ map prop_of es ++ entry ∷ []

    further : (e : Key × PropEntry) (es : List (Key × PropEntry)) → IsLast es → (b : Bool) → is_some (cond b (Some e.1) (lookup is_key es)) ≡ false
        → map prop_of (if b then (e.0, v) ∷ es else e ∷ insert_entry same_key es k v) ≡ prop_of e ∷ (map prop_of es ++ entry ∷ [])
    further e es rest true h = absurd (true≢false h)
    further e es rest false h = ap (λ (ps : List PropName). prop_of e ∷ ps) (rest h)

    last : (es : List (Key × PropEntry)) → IsLast es
    last [] h = refl
    last (e ∷ es) h = further e es (last es) (is_same k.now e.0.now) h

    -- another one goes last
    pub prop_added : (es : List (Key × PropEntry)) → is_some (lookup is_key es) ≡ false → map prop_of (insert_entry same_key es k v) ≡ and_prop (map prop_of es) k.now v.property v.first
    prop_added es h = last es h ∙ sym (ap (λ (b : Bool). chosen b (map prop_of es)) (is_property es ∙ h))

    pub put_last : (es ds : List (Key × PropEntry)) (g : Option (Bor PropEntry)) (b : Bool)
        → option_copied g ≡ lookup is_key es → b ≡ is_some g → b ≡ false → ds ≡ insert_entry same_key es k v → map prop_of ds ≡ and_prop (map prop_of es) k.now v.property v.first
    put_last es ds g b e h f d = ap (map prop_of) d ∙ prop_added es (sym (found es g b e h) ∙ f)

    pub left_out : (es : List (Key × PropEntry)) (g : Option (Bor PropEntry)) (b : Bool)
        → option_copied g ≡ lookup is_key es → b ≡ is_some g → b ≡ true → map prop_of es ≡ and_prop (map prop_of es) k.now v.property v.first
    left_out es g b e h f = prop_kept es (sym (found es g b e h) ∙ f)

-- ---- names

mapped_last : (ks : List Key) (k : Key) → map bytes_of (ks ++ k ∷ []) ≡ map bytes_of ks ++ bytes_of k ∷ []
mapped_last [] k = refl
mapped_last (x ∷ xs) k = ap (λ (ns : List (List ℕ)). bytes_of x ∷ ns) (mapped_last xs k)

one_of_two : (b : Bool) (ks : List Key) (k : Key) → map bytes_of (if b then ks else ks ++ k ∷ []) ≡ (if b then map bytes_of ks else map bytes_of ks ++ bytes_of k ∷ [])
one_of_two true ks k = refl
one_of_two false ks k = mapped_last ks k

pub name_added : (ks : List Key) (k : Key) → map bytes_of (insert_key same_key ks k) ≡ with_name (map bytes_of ks) k.now
name_added ks k =
    one_of_two (list_any (same_key k) ks) ks k
    ∙ ap (λ (b : Bool). if b then map bytes_of ks else map bytes_of ks ++ bytes_of k ∷ []) (sym (is_among k.now ks))
