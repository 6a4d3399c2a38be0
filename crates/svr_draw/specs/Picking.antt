-- The weighted pick, item by item and member by member (IEEE 1800-2017, 18.5.4).
use Rattle.std.specs.Prelude.{◌==◌, ℕ, ◌+◌, ◌*◌, ◌/◌, ◌%◌, Bool, true, false, not, ◌&&◌, ◌||◌, if◌then◌else◌, List, [], ◌∷◌, Option, None, Some}
use Rattle.svr_operator.specs.declared.Share.{Share}
use Rattle.svr_operator.specs.declared.Share.TheVariants.{Each, Whole}
use Rattle.svr_typed.specs.ExprTerm.{ExprTerm}
use Rattle.svr_typed.specs.ItemTerm.{DistTerm, ItemTerm, plain, unique, implies, branch, foreach, disable, solve, ItemTerms, no_items, more_items}
use Rattle.svr_eval.specs.Reading.{Reading}
use Rattle.svr_eval.specs.Value.{property_of}
use Rattle.svr_frame.specs.Frame.{FrameTerm, members_of}
use Rattle.svr_frame.specs.Finds.{mentions_random}
use Rattle.svr_draw.specs.Preferred.{from_domain, from_shares, has_places, places_of, shares_of}

abbrev pub is_number : ℕ → Option ℕ → Bool
is_number p None = false
is_number p (Some q) = p == q

abbrev pub is_property : ℕ → ExprTerm → Bool
is_property p e = is_number p (property_of e)

abbrev pub is_dist : Option (List DistTerm) → Bool
is_dist None = false
is_dist (Some ds) = true

-- an item that is a hard distribution on the property
abbrev pub is_dist_on : ℕ → ItemTerm → Bool
is_dist_on p (plain soft e dist) = (is_dist dist && not soft) && is_property p e
is_dist_on p (unique es) = false
is_dist_on p (implies t body) = false
is_dist_on p (branch t met unmet) = false
is_dist_on p (foreach q m names body) = false
is_dist_on p (disable target) = false
is_dist_on p (solve first later) = false

abbrev pub has_dist_on : ℕ → ItemTerms → Bool
has_dist_on p no_items = false
has_dist_on p (more_items i is) = is_dist_on p i || has_dist_on p is

-- how far into so many values a place is
abbrev pub span_value : Share → ℕ → ℕ → ℕ → ℕ
span_value Each g m t = t / g
span_value Whole g m t = t * m / g

module _ (f : FrameTerm) where
  abbrev pub ranges_vary : List DistTerm → Bool
  ranges_vary [] = false
  ranges_vary (d ∷ ds) = mentions_random f d.range || ranges_vary ds

  module _ (a : Reading) where
    abbrev pub from_dist : ℕ → List DistTerm → ℕ → ℕ
    from_dist p ds word = if not (ranges_vary ds) && has_places (places_of (shares_of f a p ds)) then from_shares f p (shares_of f a p ds) word else from_domain f p (members_of f p) word

    abbrev pub from_option : ℕ → Option (List DistTerm) → ℕ → ℕ
    from_option p None word = from_domain f p (members_of f p) word
    from_option p (Some ds) word = from_dist p ds word

    abbrev pub from_item : ℕ → ItemTerm → ℕ → ℕ
    from_item p (plain soft e dist) word = from_option p dist word
    from_item p (unique es) word = from_domain f p (members_of f p) word
    from_item p (implies t body) word = from_domain f p (members_of f p) word
    from_item p (branch t met unmet) word = from_domain f p (members_of f p) word
    from_item p (foreach q m names body) word = from_domain f p (members_of f p) word
    from_item p (disable target) word = from_domain f p (members_of f p) word
    from_item p (solve first later) word = from_domain f p (members_of f p) word

    -- by the first distribution on the property, where no other is behind it
    abbrev pub from_items : ℕ → ItemTerms → ℕ → ℕ
    from_items p no_items word = from_domain f p (members_of f p) word
    from_items p (more_items i is) word = if is_dist_on p i then (if has_dist_on p is then from_domain f p (members_of f p) word else from_item p i word) else from_items p is word
