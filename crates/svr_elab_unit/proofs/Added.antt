-- A name in a hash table of variables, and one more at its end.
use Rattle.std.proofs.Common.{◌≡◌, ℕ, nat_le, Bool, true, false, cond, List, [], ◌∷◌, ◌++◌, map, Option, None, Some, is_some, if◌then◌else◌, ◌||◌, true≢false, refl, ap, ◌∙◌, sym}
use denote.Ref.{Bor}
use Rattle.std.specs.Option.{option_copied}
use Rattle.std.specs.Map.{lookup}
use Rattle.indexmap.specs.IndexMap.{insert_entry}
use Rattle.svr_limits.specs.declared.limit.TheConstants.{VARIABLE_LIMIT}
use Rattle.svr_refusal.specs.declared.Refusal.TheVariants as refusal
use Rattle.svr_elab_fault.specs.declared.Fault.{Fault}
use Rattle.svr_elab_fault.specs.Refusals.{first_one, earlier, when}
use Rattle.svr_elab_names.specs.declared.VarStand.{VarStand}
use Rattle.svr_elab_names.specs.Names.{VarName, is_same, is_name}
use Rattle.svr_elab_names.specs.Tables.{Key, var_of}
use Rattle.svr_elab_unit.specs.Vars.{and_var_name, name_faults}

abbrev same_key : Key → Key → Bool
same_key x y = is_same x.now y.now

module _ (k : Key) where
  abbrev is_key : Key → Bool
  is_key x = is_same k.now x.now

  pub is_there : (es : List (Key × VarStand)) → is_name (λ (v : VarName). v.name) k.now (map var_of es) ≡ is_some (lookup is_key es)
  is_there [] = refl
  is_there (e ∷ es) =
      elim (is_same k.now e.0.now)
      as (λ b. (b || is_name (λ (v : VarName). v.name) k.now (map var_of es)) ≡ is_some (cond b (Some e.1) (lookup is_key es)))
      [ true ↦ refl | false ↦ is_there es ]

  -- a look-up finds a name that is there
  found : (es : List (Key × VarStand)) (g : Option (Bor VarStand)) (b : Bool) → option_copied g ≡ lookup is_key es → b ≡ is_some g → b ≡ is_some (lookup is_key es)
  found es None b e h = h ∙ ap is_some e
  found es (Some x) b e h = h ∙ ap is_some e

  pub refused_is : (es : List (Key × VarStand)) (g : Option (Bor VarStand)) (b many : Bool) (before name : ℕ) (d m f : Option Fault)
      → option_copied g ≡ lookup is_key es → b ≡ is_some g → d ≡ when first_one b name refusal.DoubleName → many ≡ nat_le VARIABLE_LIMIT before → m ≡ when first_one many name refusal.TooMany → f ≡ earlier d m
      → f ≡ name_faults first_one (map var_of es) before name k.now
  refused_is es g b many before name d m f e h is_d is_many is_m is_f =
      let there : b ≡ is_name (λ (v : VarName). v.name) k.now (map var_of es) = found es g b e h ∙ sym (is_there es) in
      rw (is_f, is_m, is_many, is_d, there) refl

  module _ (stands : VarStand) where
    abbrev entry : VarName
    entry = record { name = k.now; stands = stands }

    abbrev chosen : Bool → List VarName → List VarName
    chosen b vs = if b then vs else vs ++ entry ∷ []

    -- a name that is there changes nothing
    kept : (es : List (Key × VarStand)) → is_some (lookup is_key es) ≡ true → map var_of es ≡ and_var_name (map var_of es) k.now stands
    kept es h = sym (ap (λ (b : Bool). chosen b (map var_of es)) (is_there es ∙ h))

    abbrev IsLast : List (Key × VarStand) → Type 0
    IsLast es = is_some (lookup is_key es) ≡ false → map var_of (insert_entry same_key es k stands) ≡ map var_of es ++ entry ∷ []

    further : (e : Key × VarStand) (es : List (Key × VarStand)) → IsLast es → (b : Bool) → is_some (cond b (Some e.1) (lookup is_key es)) ≡ false
        → map var_of (if b then (e.0, stands) ∷ es else e ∷ insert_entry same_key es k stands) ≡ var_of e ∷ (map var_of es ++ entry ∷ [])
    further e es rest true h = absurd (true≢false h)
    further e es rest false h = ap (λ (vs : List VarName). var_of e ∷ vs) (rest h)

    last : (es : List (Key × VarStand)) → IsLast es
    last [] h = refl
    last (e ∷ es) h = further e es (last es) (is_same k.now e.0.now) h

    -- another one goes last
    added : (es : List (Key × VarStand)) → is_some (lookup is_key es) ≡ false → map var_of (insert_entry same_key es k stands) ≡ and_var_name (map var_of es) k.now stands
    added es h = last es h ∙ sym (ap (λ (b : Bool). chosen b (map var_of es)) (is_there es ∙ h))

    pub put_last : (es ds : List (Key × VarStand)) (g : Option (Bor VarStand)) (b : Bool)
        → option_copied g ≡ lookup is_key es → b ≡ is_some g → b ≡ false → ds ≡ insert_entry same_key es k stands → map var_of ds ≡ and_var_name (map var_of es) k.now stands
    put_last es ds g b e h f d = ap (map var_of) d ∙ added es (sym (found es g b e h) ∙ f)

    pub left_out : (es : List (Key × VarStand)) (g : Option (Bor VarStand)) (b : Bool)
        → option_copied g ≡ lookup is_key es → b ≡ is_some g → b ≡ true → map var_of es ≡ and_var_name (map var_of es) k.now stands
    left_out es g b e h f = kept es (sym (found es g b e h) ∙ f)
