-- Names in a hash table, and one more at its end
use Rattle.std.proofs.Common.{◌≡◌, ℕ, Bool, true, false, cond, List, [], ◌∷◌, ◌++◌, map, Option, None, Some, is_some, if◌then◌else◌, true≢false, refl, ap, ◌∙◌, sym}
use denote.Ref.{Bor}
use Rattle.std.specs.Option.{option_copied}
use Rattle.std.specs.Map.{lookup}
use Rattle.indexmap.specs.IndexMap.{insert_entry}
use Rattle.svr_cover_checked.specs.Numbers.{Spelling}
use Rattle.svr_cover_checked.specs.Places.{Entry, is_same, place_of, and_entry, entries, finder}
use Rattle.svr_cover_checked.specs.Tables.{Key, entry_of, found_in}

abbrev same_key : Key → Key → Bool
same_key x y = is_same x.now y.now

module _ (k : Key) where
  abbrev is_key : Key → Bool
  is_key x = is_same k.now x.now

  -- what the table has at a name
  pub found : (es : List (Key × ℕ)) → found_in es k.now ≡ lookup is_key es
  found [] = refl
  found (e ∷ es) = ap (λ (o : Option ℕ). cond (is_same k.now e.0.now) (Some e.1) o) (found es)

  there : (es : List (Key × ℕ)) (g : Option (Bor ℕ)) (b : Bool) → option_copied g ≡ lookup is_key es → b ≡ is_some g → b ≡ is_some (lookup is_key es)
  there es None b e h = h ∙ ap is_some e
  there es (Some x) b e h = h ∙ ap is_some e

  module _ (place : ℕ) where
    abbrev entry : Entry
    entry = record { name = k.now; place = place }

    abbrev chosen : Bool → List Entry → List Entry
    chosen b es = if b then es else es ++ entry ∷ []

    kept : (es : List (Key × ℕ)) → is_some (lookup is_key es) ≡ true → map entry_of es ≡ and_entry (map entry_of es) k.now place
    kept es h = sym (ap (λ (b : Bool). chosen b (map entry_of es)) (ap is_some (found es) ∙ h))

    abbrev IsLast : List (Key × ℕ) → Type 0
    IsLast es = is_some (lookup is_key es) ≡ false → map entry_of (insert_entry same_key es k place) ≡ map entry_of es ++ entry ∷ []

    further : (e : Key × ℕ) (es : List (Key × ℕ)) → IsLast es → (b : Bool) → is_some (cond b (Some e.1) (lookup is_key es)) ≡ false
        → map entry_of (if b then (e.0, place) ∷ es else e ∷ insert_entry same_key es k place) ≡ entry_of e ∷ (map entry_of es ++ entry ∷ [])
    further e es rest true h = absurd (true≢false h)
    further e es rest false h = ap (λ (gs : List Entry). entry_of e ∷ gs) (rest h)

    last : (es : List (Key × ℕ)) → IsLast es
    last [] h = refl
    last (e ∷ es) h = further e es (last es) (is_same k.now e.0.now) h

    added : (es : List (Key × ℕ)) → is_some (lookup is_key es) ≡ false → map entry_of (insert_entry same_key es k place) ≡ and_entry (map entry_of es) k.now place
    added es h = last es h ∙ sym (ap (λ (b : Bool). chosen b (map entry_of es)) (ap is_some (found es) ∙ h))

    pub put_last : (es ds : List (Key × ℕ)) (g : Option (Bor ℕ)) (b : Bool)
        → option_copied g ≡ lookup is_key es → b ≡ is_some g → b ≡ false → ds ≡ insert_entry same_key es k place → map entry_of ds ≡ and_entry (map entry_of es) k.now place
    put_last es ds g b e h f d = ap (map entry_of) d ∙ added es (sym (there es g b e h) ∙ f)

    pub left_out : (es : List (Key × ℕ)) (g : Option (Bor ℕ)) (b : Bool)
        → option_copied g ≡ lookup is_key es → b ≡ is_some g → b ≡ true → map entry_of es ≡ and_entry (map entry_of es) k.now place
    left_out es g b e h f = kept es (sym (there es g b e h) ∙ f)

-- the table finds what the definition finds
pub finds : (text : Spelling) (es : List (Key × ℕ)) (tokens : List ℕ) → map entry_of es ≡ entries text [] 0 tokens → found_in es ≡ finder text tokens
finds text es tokens h = ap (λ z. λ q. place_of z q) h
