-- Names in a hash set, and what is among the names of blocks.
use Rattle.std.proofs.Common.{◌≡◌, ℕ, Bool, true, false, if◌then◌else◌, ◌||◌, List, [], ◌∷◌, ◌++◌, map, refl, sym, ap, subst, ◌∙◌}
use Rattle.std.specs.Prelude.{bytes_eq}
use Rattle.std.specs.List.{list_any}
use Rattle.std.specs.Cmp.Lexicographic.{nat_list_eq_equiv}
use Rattle.std.proofs.lemmas.List.{map-append}
use Rattle.std.proofs.lemmas.List.Folds.{list_any-append}
use Rattle.std.proofs.lemmas.Slice.Eq.{bytes_eq-Decides}
use Rattle.indexmap.specs.IndexSet.{insert_key}
use Rattle.svr_typed.specs.ClassTerm.{BlockTerm}
use Rattle.svr_flat.specs.Flat.{has_block}
use Rattle.svr_flat.specs.Named.{Key, bytes_of, is_among, and_name, and_names}

-- ---- the set

module _ (q : List ℕ) where
  abbrev is_key : Key → Bool
  is_key k = bytes_eq q k.now

  pub among_keys : (ks : List Key) → is_among q (map bytes_of ks) ≡ list_any is_key ks
  among_keys [] = refl
  among_keys (k ∷ ks) = elim (bytes_eq q k.now) as (λ b. (b || is_among q (map bytes_of ks)) ≡ (b || list_any is_key ks)) [ true ↦ refl | false ↦ among_keys ks ]

abbrev same_key : Key → Key → Bool
same_key x y = bytes_eq x.now y.now

chosen : (k : Key) (ks : List Key) (b : Bool) → map bytes_of (if b then ks else ks ++ k ∷ []) ≡ (if b then map bytes_of ks else map bytes_of ks ++ k.now ∷ [])
chosen k ks true = refl
chosen k ks false = map-append bytes_of ks (k ∷ [])

pub and_name_is : (k : Key) (ks : List Key) → map bytes_of (insert_key same_key ks k) ≡ and_name (map bytes_of ks) k.now
and_name_is k ks =
    chosen k ks (list_any (same_key k) ks)
    ∙ ap (λ b. if b then map bytes_of ks else map bytes_of ks ++ k.now ∷ []) (sym (among_keys k.now ks))

-- ---- what is among the names of blocks

or_none : (a : Bool) → a ≡ (a || false)
or_none true = refl
or_none false = refl

or_joined : (a b c : Bool) → ((a || b) || c) ≡ (a || (b || c))
or_joined true b c = refl
or_joined false b c = refl

module _ (names : List (List ℕ)) (name q : List ℕ) where
  -- a name that is there tells nothing new
  told : (t : Bool) → bytes_eq name q ≡ t → is_among name names ≡ true → is_among q names ≡ (is_among q names || t)
  told false e there = or_none (is_among q names)
  told true e there =
      let here : is_among q names ≡ true = subst (λ (x : List ℕ). is_among x names ≡ true) ((bytes_eq-Decides name q).0 e) there in
      here ∙ sym (ap (λ (b : Bool). b || true) here)

  added : (t : Bool) → is_among name names ≡ t → is_among q (if t then names else names ++ name ∷ []) ≡ (is_among q names || bytes_eq name q)
  added true there = told (bytes_eq name q) refl there
  added false there =
      list_any-append (bytes_eq q) names (name ∷ [])
      ∙ ap (λ (b : Bool). is_among q names || b) (sym (or_none (bytes_eq q name)) ∙ nat_list_eq_equiv.symm q name)

pub among_names : (names : List (List ℕ)) (own : List BlockTerm) (q : List ℕ) → is_among q (and_names names own) ≡ (is_among q names || has_block q own)
among_names names [] q = or_none (is_among q names)
among_names names (b ∷ bs) q =
    among_names (and_name names b.name) bs q
    ∙ ap (λ (t : Bool). t || has_block q bs) (added names b.name q (is_among b.name names) refl)
    ∙ or_joined (is_among q names) (bytes_eq b.name q) (has_block q bs)
