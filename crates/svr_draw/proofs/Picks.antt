-- The pick item by item is the pick by the list of distributions.
use Rattle.std.proofs.Common.{◌≡◌, ◌==◌, ℕ, Bool, true, false, not, ◌&&◌, ◌||◌, refl, sym, ap, ◌∙◌, List, [], ◌∷◌, ◌++◌, Option, None, Some}
use Rattle.std.specs.Prelude.{if◌then◌else◌}
use Rattle.svr_typed.specs.ExprTerm.{ExprTerm}
use Rattle.svr_typed.specs.ItemTerm.{DistTerm, ItemTerm, plain, unique, implies, branch, foreach, disable, solve, ItemTerms, no_items, more_items}
use Rattle.svr_eval.specs.Value.{property_of}
use Rattle.svr_frame.specs.Frame.{FrameTerm, members_of, state_at}
use Rattle.svr_frame.proofs.Found.{random_found}
use Rattle.svr_draw.specs.Preferred.{dist_on, item_dists, dists_on, from_domain, from_shares, from_dists, has_places, places_of, shares_of, ranges_vary}
use Rattle.svr_draw.specs.Picking as pick

neither : (b c : Bool) → (b || c) ≡ false → (b ≡ false) × (c ≡ false)
neither true c e = cc
neither false c e = (refl, e)

-- a distribution on the property
left_is : (p : ℕ) (soft : Bool) (o : Option ℕ) (ds : List DistTerm) → ((true && not soft) && pick.is_number p o) ≡ true → dist_on p soft o (Some ds) ≡ ds ∷ []
left_is p true None ds h = cc
left_is p false None ds h = cc
left_is p soft (Some q) ds h = ap (λ b. if b then ds ∷ [] else []) h

left_is_not : (p : ℕ) (soft : Bool) (o : Option ℕ) (ds : List DistTerm) → ((true && not soft) && pick.is_number p o) ≡ false → dist_on p soft o (Some ds) ≡ []
left_is_not p soft None ds h = refl
left_is_not p soft (Some q) ds h = ap (λ b. if b then ds ∷ [] else []) h

none_there : (p : ℕ) (soft : Bool) (o : Option ℕ) → dist_on p soft o None ≡ []
none_there p soft None = refl
none_there p soft (Some q) = refl

absent : (p : ℕ) (i : ItemTerm) → pick.is_dist_on p i ≡ false → item_dists p i ≡ []
absent p (plain soft e None) h = none_there p soft (property_of e)
absent p (plain soft e (Some ds)) h = left_is_not p soft (property_of e) ds h
absent p (unique es) h = refl
absent p (implies t body) h = refl
absent p (branch t met unmet) h = refl
absent p (foreach q m names body) h = refl
absent p (disable target) h = refl
absent p (solve first later) h = refl

none_on : (p : ℕ) (is : ItemTerms) → pick.has_dist_on p is ≡ false → dists_on p is ≡ []
none_on p no_items h = refl
none_on p (more_items i is) h = let two = neither (pick.is_dist_on p i) (pick.has_dist_on p is) h in λ k. absent p i two.0 k ++ none_on p is two.1 k

module _ (f : FrameTerm) (ns : List ℕ) where
  ranges_same : (ds : List DistTerm) → pick.ranges_vary f ds ≡ ranges_vary f ns ds
  ranges_same [] = refl
  ranges_same (d ∷ ds) = λ i. random_found f ns d.range i || ranges_same ds i

  dist_same : (p : ℕ) (ds : List DistTerm) (word : ℕ) → pick.from_dist f (state_at f ns) p ds word ≡ from_dists f ns p (ds ∷ []) word
  dist_same p ds word =
      ap (λ b. if not b && has_places (places_of (shares_of f (state_at f ns) p ds)) then from_shares f p (shares_of f (state_at f ns) p ds) word else from_domain f p (members_of f p) word) (ranges_same ds)

  record Alone (p : ℕ) (i : ItemTerm) : Type 0 where
    dist : List DistTerm
    only : item_dists p i ≡ dist ∷ []
    picks : (word : ℕ) → pick.from_item f (state_at f ns) p i word ≡ pick.from_dist f (state_at f ns) p dist word

  alone : (p : ℕ) (i : ItemTerm) → pick.is_dist_on p i ≡ true → Alone p i
  alone p (plain soft e None) h = cc
  alone p (plain soft e (Some ds)) h = record { dist = ds; only = left_is p soft (property_of e) ds h; picks = λ word. refl }
  alone p (unique es) h = cc
  alone p (implies t body) h = cc
  alone p (branch t met unmet) h = cc
  alone p (foreach q m names body) h = cc
  alone p (disable target) h = cc
  alone p (solve first later) h = cc

  record Cons (xs : List (List DistTerm)) : Type 0 where
    first : List DistTerm
    rest : List (List DistTerm)
    is : xs ≡ first ∷ rest

  some_on : (p : ℕ) (is : ItemTerms) → pick.has_dist_on p is ≡ true → Cons (dists_on p is)
  some_on p no_items h = cc
  some_on p (more_items i is) h = by (pick.is_dist_on p i) refl (some_on p is)
    where
      by : (b : Bool) → pick.is_dist_on p i ≡ b → (pick.has_dist_on p is ≡ true → Cons (dists_on p is)) → Cons (item_dists p i ++ dists_on p is)
      by true e later = let one = alone p i e in record { first = one.dist; rest = dists_on p is; is = ap (λ (x : List (List DistTerm)). x ++ dists_on p is) one.only }
      by false e later =
          let more = later (sym (ap (λ b. b || pick.has_dist_on p is) e) ∙ h) in
          record { first = more.first; rest = more.rest; is = λ k. absent p i e k ++ more.is k }

  pub picks : (p word : ℕ) (is : ItemTerms) → pick.from_items f (state_at f ns) p is word ≡ from_dists f ns p (dists_on p is) word
  picks p word no_items = refl
  picks p word (more_items i is) = by (pick.is_dist_on p i) refl (pick.has_dist_on p is) refl (picks p word is)
    where
      by : (b : Bool) → pick.is_dist_on p i ≡ b → (c : Bool) → pick.has_dist_on p is ≡ c → pick.from_items f (state_at f ns) p is word ≡ from_dists f ns p (dists_on p is) word
          → pick.from_items f (state_at f ns) p (more_items i is) word ≡ from_dists f ns p (item_dists p i ++ dists_on p is) word
      by true e true h later =
          let one = alone p i e in
          let more = some_on p is h in
          rw (e, h) (sym (ap (λ (x : List (List DistTerm)). from_dists f ns p x word) (λ k. one.only k ++ more.is k)))
      by true e false h later =
          let one = alone p i e in
          rw (e, h) (one.picks word ∙ dist_same p one.dist word ∙ sym (ap (λ (x : List (List DistTerm)). from_dists f ns p x word) (λ k. one.only k ++ none_on p is h k)))
      by false e c h later = rw e (later ∙ sym (ap (λ (x : List (List DistTerm)). from_dists f ns p (x ++ dists_on p is) word) (absent p i e)))
