-- A name in a hash table of global names, and one more at its end.
use Rattle.std.proofs.Common.{◌≡◌, ℕ, Bool, true, false, cond, List, [], ◌∷◌, ◌++◌, map, Option, None, Some, is_some, if◌then◌else◌, ◌||◌, true≢false, refl, ap, ◌∙◌, sym}
use denote.Ref.{Bor}
use Rattle.std.specs.Option.{option_copied}
use Rattle.std.specs.Map.{lookup}
use Rattle.indexmap.specs.IndexMap.{insert_entry}
use Rattle.svr_refusal.specs.declared.Refusal.TheVariants as refusal
use Rattle.svr_elab_fault.specs.declared.Fault.{Fault}
use Rattle.svr_elab_fault.specs.Refusals.{first_one, when}
use Rattle.svr_elab_names.specs.declared.Global.{Global}
use Rattle.svr_elab_names.specs.Names.{GlobalName, is_same, is_name}
use Rattle.svr_elab_names.specs.Tables.{Key, global_of}
use Rattle.svr_elab_type.specs.Types.{and_name, double_name}

abbrev same_key : Key → Key → Bool
same_key x y = is_same x.now y.now

module _ (k : Key) where
  abbrev is_key : Key → Bool
  is_key x = is_same k.now x.now

  pub is_there : (es : List (Key × Global)) → is_name (λ (g : GlobalName). g.name) k.now (map global_of es) ≡ is_some (lookup is_key es)
  is_there [] = refl
  is_there (e ∷ es) =
      elim (is_same k.now e.0.now)
      as (λ b. (b || is_name (λ (g : GlobalName). g.name) k.now (map global_of es)) ≡ is_some (cond b (Some e.1) (lookup is_key es)))
      [ true ↦ refl | false ↦ is_there es ]

  -- a look-up finds a name that is there
  found : (es : List (Key × Global)) (g : Option (Bor Global)) (b : Bool) → option_copied g ≡ lookup is_key es → b ≡ is_some g → b ≡ is_some (lookup is_key es)
  found es None b e h = h ∙ ap is_some e
  found es (Some x) b e h = h ∙ ap is_some e

  pub declared_twice : (es : List (Key × Global)) (g : Option (Bor Global)) (b : Bool) (at : ℕ) (f : Option Fault)
      → option_copied g ≡ lookup is_key es → b ≡ is_some g → f ≡ when first_one b at refusal.DoubleName → f ≡ double_name first_one (map global_of es) k.now at
  declared_twice es g b at f e h w = w ∙ ap (λ (b : Bool). when first_one b at refusal.DoubleName) (found es g b e h ∙ sym (is_there es))

  module _ (stands : Global) where
    abbrev entry : GlobalName
    entry = record { name = k.now; stands = stands }

    abbrev chosen : Bool → List GlobalName → List GlobalName
    chosen b gs = if b then gs else gs ++ entry ∷ []

    -- a name that is there changes nothing
    pub kept : (es : List (Key × Global)) → is_some (lookup is_key es) ≡ true → map global_of es ≡ and_name (map global_of es) k.now stands
    kept es h = sym (ap (λ (b : Bool). chosen b (map global_of es)) (is_there es ∙ h))

    abbrev IsLast : List (Key × Global) → Type 0
    IsLast es = is_some (lookup is_key es) ≡ false → map global_of (insert_entry same_key es k stands) ≡ map global_of es ++ entry ∷ []

    further : (e : Key × Global) (es : List (Key × Global)) → IsLast es → (b : Bool) → is_some (cond b (Some e.1) (lookup is_key es)) ≡ false
        → map global_of (if b then (e.0, stands) ∷ es else e ∷ insert_entry same_key es k stands) ≡ global_of e ∷ (map global_of es ++ entry ∷ [])
    further e es rest true h = absurd (true≢false h)
    further e es rest false h = ap (λ (gs : List GlobalName). global_of e ∷ gs) (rest h)

    last : (es : List (Key × Global)) → IsLast es
    last [] h = refl
    last (e ∷ es) h = further e es (last es) (is_same k.now e.0.now) h

    -- another one goes last
    pub added : (es : List (Key × Global)) → is_some (lookup is_key es) ≡ false → map global_of (insert_entry same_key es k stands) ≡ and_name (map global_of es) k.now stands
    added es h = last es h ∙ sym (ap (λ (b : Bool). chosen b (map global_of es)) (is_there es ∙ h))

    pub put_last : (es ds : List (Key × Global)) (g : Option (Bor Global)) (b : Bool)
        → option_copied g ≡ lookup is_key es → b ≡ is_some g → b ≡ false → ds ≡ insert_entry same_key es k stands → map global_of ds ≡ and_name (map global_of es) k.now stands
    put_last es ds g b e h f d = ap (map global_of) d ∙ added es (sym (found es g b e h) ∙ f)

    pub left_out : (es : List (Key × Global)) (g : Option (Bor Global)) (b : Bool)
        → option_copied g ≡ lookup is_key es → b ≡ is_some g → b ≡ true → map global_of es ≡ and_name (map global_of es) k.now stands
    left_out es g b e h f = kept es (sym (found es g b e h) ∙ f)
