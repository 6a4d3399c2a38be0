-- The sets of targets remove what one of the targets is mentioned by.
use Rattle.std.proofs.Common.{◌≡◌, ◌==◌, ℕ, ℤ, Bool, true, false, ◌&&◌, ◌||◌, cond, refl, sym, ◌∙◌, ap, List, [], ◌∷◌, ◌++◌, append-nil, nat_eq, subst}
use Rattle.std.specs.Prelude.{if◌then◌else◌}
use Rattle.std.specs.List.{list_any}
use Rattle.std.specs.HashSet.{contains}
use Rattle.std.proofs.lemmas.List.Folds.{list_any-append}
use Rattle.std.proofs.lemmas.Cmp.{nat_eq_equiv}
use Rattle.svr_mention.specs.declared.mention.Mention.{Mention}
use Rattle.svr_mention.specs.declared.mention.Mention.TheVariants as mention
use Rattle.svr_mention.specs.declared.mention.Spot.TheVariants as spot
use Rattle.svr_expand.specs.declared.targets.Targets.{Targets}
use Rattle.svr_expand.specs.Expanded.{FindingTerm, asked, wished, gone, targets_one, wished_one, is_targeted_by, is_taken_back}
use Rattle.svr_expand.specs.Targeted.{same_element, is_whole, is_element_of, is_there, HoldsTargets, AddsTarget, AddsFound, removes_one, wished_of}

pub cond_or : (b c : Bool) → cond b true c ≡ (c || b)
cond_or true true = refl
cond_or true false = refl
cond_or false true = refl
cond_or false false = refl

or_none : (b : Bool) → (b || false) ≡ b
or_none true = refl
or_none false = refl

across : (a b c d : Bool) → ((a || b) || (c || d)) ≡ ((a || c) || (b || d))
across true b c d = refl
across false true true d = refl
across false true false d = refl
across false false c d = refl

none_of : {A : Type 0} (ts : List A) → list_any (λ t. false) ts ≡ false
none_of [] = refl
none_of (t ∷ ts) = none_of ts

-- either of two tests
either : {A : Type 0} (f g : A → Bool) (ts : List A) → list_any (λ t. f t || g t) ts ≡ (list_any f ts || list_any g ts)
either f g [] = refl
either f g (t ∷ ts) = ap (λ b. (f t || g t) || b) (either f g ts) ∙ across (f t) (g t) (list_any f ts) (list_any g ts)

same_tests : {A : Type 0} (f g : A → Bool) → ((t : A) → f t ≡ g t) → (ts : List A) → list_any f ts ≡ list_any g ts
same_tests f g h [] = refl
same_tests f g h (t ∷ ts) = λ k. h t k || same_tests f g h ts k

-- the other list first
exchanged : {A B : Type 0} (r : A → B → Bool) (ts : List A) (ms : List B) → list_any (λ m. list_any (λ t. r t m) ts) ms ≡ list_any (λ t. list_any (r t) ms) ts
exchanged r ts [] = sym (none_of ts)
exchanged r ts (m ∷ ms) = ap (λ b. list_any (λ t. r t m) ts || b) (exchanged r ts ms) ∙ sym (either (λ t. r t m) (λ t. list_any (r t) ms) ts)

one_more : {A : Type 0} (f : A → Bool) (ts : List A) (m : A) (old new : Bool) → old ≡ list_any f ts → new ≡ (old || f m) → new ≡ list_any f (ts ++ m ∷ [])
one_more f ts m old new h k = k ∙ ap (λ b. b || f m) h ∙ ap (λ b. list_any f ts || b) (sym (or_none (f m))) ∙ sym (list_any-append f ts (m ∷ []))

module _ (size : ℕ → ℕ) where
  pub added : (t u : Targets) (m : Mention) (ts : List Mention) → AddsTarget size t u m → HoldsTargets size t ts → HoldsTargets size u (ts ++ m ∷ [])
  added t u m ts k h = record {
    whole = λ q. one_more (is_whole q) ts m (contains nat_eq t.whole q) (contains nat_eq u.whole q) (h.whole q) (k.whole q);
    elements = λ q w. one_more (is_element_of q w) ts m (contains same_element t.elements (q, w)) (contains same_element u.elements (q, w)) (h.elements q w) (k.elements q w);
    placed = λ q. one_more (is_there size q) ts m (contains nat_eq t.placed q) (contains nat_eq u.placed q) (h.placed q) (k.placed q);
  }

  unchanged : (t u : Targets) (ts : List Mention) → u ≡ t → HoldsTargets size t ts → HoldsTargets size u (ts ++ [])
  unchanged t u ts k h =
      let P : Targets → Type 0 = λ v. HoldsTargets size v (ts ++ []) in
      let Q : List Mention → Type 0 = λ us. HoldsTargets size t us in
      subst P (sym k) (subst Q (sym (append-nil ts)) h)

  pub found_added : (t u : Targets) (f : FindingTerm) (ts : List Mention) → AddsFound size t u f → HoldsTargets size t ts → HoldsTargets size u (ts ++ targets_one f)
  found_added t u (asked e) ts k h = unchanged t u ts k h
  found_added t u (wished e ms) ts k h = unchanged t u ts k h
  found_added t u (gone m) ts k h = added t u m ts k h

  -- ---- one mention

  by_whole : (q : ℕ) (m : Mention) → is_whole q m ≡ is_targeted_by size m (mention.Scalar q)
  by_whole q (mention.Scalar p) = nat_eq_equiv.symm p q
  by_whole q (mention.Element p spot.Anywhere) = refl
  by_whole q (mention.Element p (spot.At z)) = refl
  by_whole q (mention.Element p spot.Nowhere) = refl
  by_whole q (mention.Elements p) = refl
  by_whole q (mention.Size p) = refl

  by_size : (q : ℕ) (m : Mention) → is_whole q m ≡ is_targeted_by size m (mention.Size q)
  by_size q (mention.Scalar p) = nat_eq_equiv.symm p q
  by_size q (mention.Element p spot.Anywhere) = refl
  by_size q (mention.Element p (spot.At z)) = refl
  by_size q (mention.Element p spot.Nowhere) = refl
  by_size q (mention.Elements p) = refl
  by_size q (mention.Size p) = refl

  by_index : (q : ℕ) (w : ℤ) (m : Mention) → (is_whole q m || is_element_of q w m) ≡ is_targeted_by size m (mention.Element q (spot.At w))
  by_index q w (mention.Scalar p) = or_none (p == q) ∙ nat_eq_equiv.symm p q
  by_index q w (mention.Element p spot.Anywhere) = refl
  by_index q w (mention.Element p (spot.At z)) = refl
  by_index q w (mention.Element p spot.Nowhere) = refl
  by_index q w (mention.Elements p) = refl
  by_index q w (mention.Size p) = refl

  by_any : (q : ℕ) (m : Mention) → (is_whole q m || is_there size q m) ≡ is_targeted_by size m (mention.Element q spot.Anywhere)
  by_any q (mention.Scalar p) = or_none (p == q) ∙ nat_eq_equiv.symm p q
  by_any q (mention.Element p spot.Anywhere) = refl
  by_any q (mention.Element p (spot.At z)) = refl
  by_any q (mention.Element p spot.Nowhere) = refl
  by_any q (mention.Elements p) = refl
  by_any q (mention.Size p) = refl

  by_all : (q : ℕ) (m : Mention) → (is_whole q m || is_there size q m) ≡ is_targeted_by size m (mention.Elements q)
  by_all q (mention.Scalar p) = or_none (p == q) ∙ nat_eq_equiv.symm p q
  by_all q (mention.Element p spot.Anywhere) = refl
  by_all q (mention.Element p (spot.At z)) = refl
  by_all q (mention.Element p spot.Nowhere) = refl
  by_all q (mention.Elements p) = refl
  by_all q (mention.Size p) = refl

  no_and : (b : Bool) → (b && false) ≡ false
  no_and true = refl
  no_and false = refl

  by_none : (q : ℕ) (m : Mention) → is_whole q m ≡ is_targeted_by size m (mention.Element q spot.Nowhere)
  by_none q (mention.Scalar p) = nat_eq_equiv.symm p q
  by_none q (mention.Element p spot.Anywhere) = refl
  by_none q (mention.Element p (spot.At z)) = sym (no_and (p == q))
  by_none q (mention.Element p spot.Nowhere) = refl
  by_none q (mention.Elements p) = refl
  by_none q (mention.Size p) = refl

  module _ (t : Targets) (ts : List Mention) (h : HoldsTargets size t ts) where
    both : (q : ℕ) (g : Mention → Bool) (b : Bool) (m : Mention) → b ≡ list_any g ts → ((x : Mention) → (is_whole q x || g x) ≡ is_targeted_by size x m) → (contains nat_eq t.whole q || b) ≡ list_any (λ x. is_targeted_by size x m) ts
    both q g b m k s = (λ i. h.whole q i || k i) ∙ sym (either (is_whole q) g ts) ∙ same_tests (λ x. is_whole q x || g x) (λ x. is_targeted_by size x m) s ts

    one_removed : (m : Mention) → removes_one t m ≡ list_any (λ x. is_targeted_by size x m) ts
    one_removed (mention.Scalar q) = h.whole q ∙ same_tests (is_whole q) (λ x. is_targeted_by size x (mention.Scalar q)) (by_whole q) ts
    one_removed (mention.Element q spot.Anywhere) = both q (is_there size q) (contains nat_eq t.placed q) (mention.Element q spot.Anywhere) (h.placed q) (by_any q)
    one_removed (mention.Element q (spot.At w)) = both q (is_element_of q w) (contains same_element t.elements (q, w)) (mention.Element q (spot.At w)) (h.elements q w) (by_index q w)
    one_removed (mention.Element q spot.Nowhere) =
        or_none (contains nat_eq t.whole q) ∙ h.whole q ∙ same_tests (is_whole q) (λ x. is_targeted_by size x (mention.Element q spot.Nowhere)) (by_none q) ts
    one_removed (mention.Elements q) = both q (is_there size q) (contains nat_eq t.placed q) (mention.Elements q) (h.placed q) (by_all q)
    one_removed (mention.Size q) = h.whole q ∙ same_tests (is_whole q) (λ x. is_targeted_by size x (mention.Size q)) (by_size q) ts

    all_removed : (ms : List Mention) → list_any (removes_one t) ms ≡ is_taken_back size ts ms
    all_removed ms = same_tests (removes_one t) (λ m. list_any (λ x. is_targeted_by size x m) ts) one_removed ms ∙ exchanged (is_targeted_by size) ts ms

    pub wished_is : (f : FindingTerm) → wished_of t f ≡ wished_one size ts f
    wished_is (asked e) = refl
    wished_is (wished e ms) = ap (λ b. if b then [] else e ∷ []) (all_removed ms)
    wished_is (gone m) = refl
