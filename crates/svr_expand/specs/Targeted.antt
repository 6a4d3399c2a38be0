-- Targets of `disable soft` as sets of properties and of elements.
use Rattle.std.specs.Prelude.{◌≡◌, ◌==◌, ℕ, ℤ, Bool, false, ◌&&◌, ◌||◌, if◌then◌else◌, List, [], ◌∷◌, nat_eq}
use Rattle.std.specs.List.{list_any}
use Rattle.std.specs.Ordering.{int_eq}
use Rattle.std.specs.HashSet.{contains}
use Rattle.svr_typed.specs.ExprTerm.{ExprTerm}
use Rattle.svr_mention.specs.declared.mention.Mention.{Mention}
use Rattle.svr_mention.specs.declared.mention.Mention.TheVariants as mention
use Rattle.svr_mention.specs.declared.mention.Spot.{Spot}
use Rattle.svr_mention.specs.declared.mention.Spot.TheVariants as spot
use Rattle.svr_expand.specs.declared.targets.Targets.{Targets}
use Rattle.svr_expand.specs.Expanded.{has_place_below, FindingTerm, asked, wished, gone}

abbrev pub same_element : ℕ × ℤ → ℕ × ℤ → Bool
same_element x y = nat_eq x.0 y.0 && int_eq x.1 y.1

-- ---- kinds of targets

-- the property as a whole
abbrev pub is_whole : ℕ → Mention → Bool
is_whole q (mention.Scalar p) = p == q
is_whole q (mention.Element p at) = false
is_whole q (mention.Elements p) = false
is_whole q (mention.Size p) = false

abbrev pub is_spot : ℕ → ℤ → ℕ → Spot → Bool
is_spot q w p spot.Anywhere = false
is_spot q w p (spot.At z) = (p == q) && int_eq z w
is_spot q w p spot.Nowhere = false

-- the element of the array at the index
abbrev pub is_element_of : ℕ → ℤ → Mention → Bool
is_element_of q w (mention.Scalar p) = false
is_element_of q w (mention.Element p at) = is_spot q w p at
is_element_of q w (mention.Elements p) = false
is_element_of q w (mention.Size p) = false

module _ (size : ℕ → ℕ) where
  abbrev pub is_spot_there : ℕ → ℕ → Spot → Bool
  is_spot_there q p spot.Anywhere = false
  is_spot_there q p (spot.At z) = (p == q) && has_place_below size p z
  is_spot_there q p spot.Nowhere = false

  -- an element that the array has
  abbrev pub is_there : ℕ → Mention → Bool
  is_there q (mention.Scalar p) = false
  is_there q (mention.Element p at) = is_spot_there q p at
  is_there q (mention.Elements p) = false
  is_there q (mention.Size p) = false

  -- ---- the sets

  -- they have these targets
  pub record HoldsTargets (t : Targets) (ts : List Mention) : Type 0 where
    pub whole : (q : ℕ) → contains nat_eq t.whole q ≡ list_any (is_whole q) ts
    pub elements : (q : ℕ) (w : ℤ) → contains same_element t.elements (q, w) ≡ list_any (is_element_of q w) ts
    pub placed : (q : ℕ) → contains nat_eq t.placed q ≡ list_any (is_there q) ts

  -- `u` has one target more than `t`
  pub record AddsTarget (t u : Targets) (m : Mention) : Type 0 where
    pub whole : (q : ℕ) → contains nat_eq u.whole q ≡ (contains nat_eq t.whole q || is_whole q m)
    pub elements : (q : ℕ) (w : ℤ) → contains same_element u.elements (q, w) ≡ (contains same_element t.elements (q, w) || is_element_of q w m)
    pub placed : (q : ℕ) → contains nat_eq u.placed q ≡ (contains nat_eq t.placed q || is_there q m)

  -- `u` has what a finding adds
  abbrev pub AddsFound : Targets → Targets → FindingTerm → Type 0
  AddsFound t u (asked e) = u ≡ t
  AddsFound t u (wished e ms) = u ≡ t
  AddsFound t u (gone m) = AddsTarget t u m

-- ---- what they remove

abbrev pub removes_element : Targets → ℕ → Spot → Bool
removes_element t q spot.Anywhere = contains nat_eq t.placed q
removes_element t q (spot.At w) = contains same_element t.elements (q, w)
removes_element t q spot.Nowhere = false

abbrev pub removes_one : Targets → Mention → Bool
removes_one t (mention.Scalar q) = contains nat_eq t.whole q
removes_one t (mention.Element q at) = contains nat_eq t.whole q || removes_element t q at
removes_one t (mention.Elements q) = contains nat_eq t.whole q || contains nat_eq t.placed q
removes_one t (mention.Size q) = contains nat_eq t.whole q

-- what is wished of one finding, where these targets stand behind it
abbrev pub wished_of : Targets → FindingTerm → List ExprTerm
wished_of t (asked e) = []
wished_of t (wished e ms) = if list_any (removes_one t) ms then [] else e ∷ []
wished_of t (gone m) = []
