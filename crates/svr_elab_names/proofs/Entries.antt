-- What a hash table has at a key is what the definition finds in the list of its entries.
use Rattle.std.proofs.Common.{◌≡◌, ℕ, ◌+◌, Bool, true, false, cond, List, [], ◌∷◌, map, Option, None, Some, option_map, if◌then◌else◌, ◌||◌, refl, ap, ◌∙◌, suc, sym, arith, position, nat_lt, length}
use Rattle.std.specs.List.{position_or_len}
use Rattle.std.proofs.lemmas.Bool.Decides.{nat_tests}
use Rattle.std.specs.List.{list_any}
use Rattle.std.specs.Map.{lookup}
use Rattle.svr_elab_names.specs.declared.space.Global.{Global}
use Rattle.svr_elab_names.specs.declared.space.VarStand.{VarStand}
use Rattle.svr_elab_names.specs.declared.space.PropEntry.{PropEntry}
use Rattle.svr_elab_names.specs.declared.meaning.Meaning.{Meaning}
use Rattle.svr_elab_names.specs.Names.{is_same, find_from, find, property_named, global_named, variable_named, stand_meaning}
use Rattle.svr_elab_names.specs.Tables.{Key, bytes_of, global_of, prop_of, var_of}

module _ (q : List ℕ) where
  abbrev is_key : Key → Bool
  is_key k = is_same q k.now

  prop_from : (n : ℕ) (es : List (Key × PropEntry))
      → option_map (λ f. f.1.property) (find_from (λ p. p.name) q n (map prop_of es)) ≡ option_map (λ p. p.property) (lookup is_key es)
  prop_from n [] = refl
  prop_from n (e ∷ es) =
      elim (is_same q e.0.now)
      as (λ b. option_map (λ f. f.1.property) (if b then Some (n, prop_of e) else find_from (λ p. p.name) q (n + 1) (map prop_of es)) ≡ option_map (λ p. p.property) (cond b (Some e.1) (lookup is_key es)))
      [ true ↦ refl | false ↦ prop_from (n + 1) es ]

  pub prop_found : (es : List (Key × PropEntry)) → property_named (map prop_of es) q ≡ option_map (λ p. p.property) (lookup is_key es)
  prop_found es = prop_from 0 es

  global_from : (n : ℕ) (es : List (Key × Global)) → option_map (λ f. f.1.stands) (find_from (λ g. g.name) q n (map global_of es)) ≡ lookup is_key es
  global_from n [] = refl
  global_from n (e ∷ es) =
      elim (is_same q e.0.now)
      as (λ b. option_map (λ f. f.1.stands) (if b then Some (n, global_of e) else find_from (λ g. g.name) q (n + 1) (map global_of es)) ≡ cond b (Some e.1) (lookup is_key es))
      [ true ↦ refl | false ↦ global_from (n + 1) es ]

  pub global_found : (es : List (Key × Global)) → global_named (map global_of es) q ≡ lookup is_key es
  global_found es = global_from 0 es

  -- ---- variables, by their places

  further : (i n : ℕ) (b : Bool) → nat_lt i n ≡ b → cond (nat_lt (1 + i) (suc n)) (Some (1 + i)) None ≡ option_map suc (cond b (Some i) None)
  further i n true h = let e : nat_lt (1 + i) (suc n) ≡ true = grind (arith, nat_tests, h) in rw e (ap (λ (k : ℕ). Some k) (omega arith))
  further i n false h = let e : nat_lt (1 + i) (suc n) ≡ false = grind (arith, nat_tests, h) in rw e refl

  here : (n : ℕ) → nat_lt 0 (suc n) ≡ true
  here n = grind (arith, nat_tests)

  position_more : (k : Key) (ks : List Key) (b : Bool) → is_key k ≡ b → position is_key (k ∷ ks) ≡ cond b (Some 0) (option_map suc (position is_key ks))
  position_more k ks true h = simp h (ap (λ (b : Bool). cond b (Some 0) None) (here (length ks)))
  position_more k ks false h = simp h (further (position_or_len is_key ks) (length ks) (nat_lt (position_or_len is_key ks) (length ks)) refl)

  -- the place and what stands there, of a variable
  abbrev with_place : ℕ → Option ℕ → Option VarStand → Option Meaning
  with_place n None v = None
  with_place n (Some i) None = None
  with_place n (Some i) (Some v) = Some (stand_meaning (n + i) v)

  one_further : (n : ℕ) (o : Option ℕ) (v : Option VarStand) → with_place (n + 1) o v ≡ with_place n (option_map suc o) v
  one_further n None v = refl
  one_further n (Some i) None = refl
  one_further n (Some i) (Some v) = ap (λ k. Some (stand_meaning k v)) (omega arith)

  abbrev VarFrom : ℕ → List (Key × VarStand) → Type 0
  VarFrom n es =
      option_map (λ f. stand_meaning f.0 f.1.stands) (find_from (λ v. v.name) q n (map var_of es)) ≡ with_place n (position is_key (map (λ e. e.0) es)) (lookup is_key es)

  abbrev places : List (Key × VarStand) → Option ℕ
  places es = position is_key (map (λ e. e.0) es)

  var_step : (n : ℕ) (e : Key × VarStand) (es : List (Key × VarStand)) → VarFrom (n + 1) es → (b : Bool)
      → option_map (λ f. stand_meaning f.0 f.1.stands) (if b then Some (n, var_of e) else find_from (λ v. v.name) q (n + 1) (map var_of es))
      ≡ with_place n (cond b (Some 0) (option_map suc (places es))) (cond b (Some e.1) (lookup is_key es))
  var_step n e es h true = ap (λ (k : ℕ). Some (stand_meaning k e.1)) (omega arith)
  var_step n e es h false = h ∙ one_further n (places es) (lookup is_key es)

  var_from : (n : ℕ) (es : List (Key × VarStand)) → VarFrom n es
  var_from n [] = refl
  var_from n (e ∷ es) =
      var_step n e es (var_from (n + 1) es) (is_key e.0)
      ∙ ap (λ (o : Option ℕ). with_place n o (cond (is_key e.0) (Some e.1) (lookup is_key es))) (sym (position_more e.0 (map (λ e. e.0) es) (is_key e.0) refl))

  pub var_found : (es : List (Key × VarStand)) → variable_named (map var_of es) q ≡ with_place 0 (position is_key (map (λ e. e.0) es)) (lookup is_key es)
  var_found es = var_from 0 es

  -- ---- names, by their places

  abbrev NameFrom : ℕ → List Key → Type 0
  NameFrom n ks = option_map (λ f. f.0) (find_from (λ b. b) q n (map bytes_of ks)) ≡ option_map (λ (i : ℕ). n + i) (position is_key ks)

  placed_on : (n : ℕ) (o : Option ℕ) → option_map (λ (i : ℕ). n + 1 + i) o ≡ option_map (λ (i : ℕ). n + i) (option_map suc o)
  placed_on n None = refl
  placed_on n (Some i) = ap (λ (k : ℕ). Some k) (omega arith)

  name_step : (n : ℕ) (k : Key) (ks : List Key) → NameFrom (n + 1) ks → (b : Bool)
      → option_map (λ f. f.0) (if b then Some (n, k.now) else find_from (λ b. b) q (n + 1) (map bytes_of ks)) ≡ option_map (λ (i : ℕ). n + i) (cond b (Some 0) (option_map suc (position is_key ks)))
  name_step n k ks h true = ap (λ (i : ℕ). Some i) (omega arith)
  name_step n k ks h false = h ∙ placed_on n (position is_key ks)

  name_from : (n : ℕ) (ks : List Key) → NameFrom n ks
  name_from n [] = refl
  name_from n (k ∷ ks) =
      name_step n k ks (name_from (n + 1) ks) (is_key k) ∙ ap (λ (o : Option ℕ). option_map (λ (i : ℕ). n + i) o) (sym (position_more k ks (is_key k) refl))

  from_first : (o : Option ℕ) → option_map (λ (i : ℕ). 0 + i) o ≡ o
  from_first None = refl
  from_first (Some i) = ap (λ (k : ℕ). Some k) (omega arith)

  pub name_found : (ks : List Key) → option_map (λ f. f.0) (find (λ b. b) q (map bytes_of ks)) ≡ position is_key ks
  name_found ks = name_from 0 ks ∙ from_first (position is_key ks)

  pub is_among : (ks : List Key) → list_any (is_same q) (map bytes_of ks) ≡ list_any is_key ks
  is_among [] = refl
  is_among (k ∷ ks) = elim (is_same q k.now) as (λ b. (b || list_any (is_same q) (map bytes_of ks)) ≡ (b || list_any is_key ks)) [ true ↦ refl | false ↦ is_among ks ]
