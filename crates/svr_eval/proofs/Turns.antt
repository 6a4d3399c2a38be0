-- One more turn of a loop over ranges or items.
use Rattle.std.proofs.Common.{◌≡◌, ◌<◌, ℕ, zero, suc, ◌+◌, sym, ap, ◌∙◌, Bool, List, [], ◌∷◌, length, drop, get_or}
use Rattle.std.proofs.lemmas.List.{at_drop_more}
use Rattle.svr_typed.specs.declared.expr.TRange.{TRange}
use Rattle.svr_typed.specs.declared.item.TItem.{TItem}
use Rattle.svr_typed.specs.ExprTerm.{range_terms}
use Rattle.svr_typed.specs.ItemTerm.{item_terms}
use Rattle.svr_eval.specs.Reading.{Reading}
use Rattle.svr_eval.specs.Typed.{RangesAreTyped, RangesCanRead}
use Rattle.svr_eval.specs.Holds.{ItemsAreTyped, ItemsCanRead}

-- what an element leaves as it is, is the same behind it
pub turned : {X : Type 0} (f : List X → Bool) (es : List X) (i : ℕ) (e : X)
    → i < length es → e ≡ get_or es i e → f (e ∷ drop (i + 1) es) ≡ f (drop (i + 1) es) → f (drop i es) ≡ f es → f (drop (i + 1) es) ≡ f es
turned f es i e less at one told = sym (at_drop_more f es i e less ∙ ap (λ z. f (z ∷ drop (i + 1) es)) (sym at) ∙ one) ∙ told

pub ranges_typed : (rs : List TRange) (k : ℕ) → RangesAreTyped (range_terms rs) → RangesAreTyped (range_terms (drop k rs))
ranges_typed rs zero h = h
ranges_typed [] (suc k) h = tt
ranges_typed (r ∷ rs) (suc k) h = ranges_typed rs k h.1

pub ranges_read : (a : Reading) (depth : ℕ) (rs : List TRange) (k : ℕ) → RangesCanRead a depth (range_terms rs) → RangesCanRead a depth (range_terms (drop k rs))
ranges_read a depth rs zero h = h
ranges_read a depth [] (suc k) h = tt
ranges_read a depth (r ∷ rs) (suc k) h = ranges_read a depth rs k h.1

pub items_typed : (is : List TItem) (k : ℕ) → ItemsAreTyped (item_terms is) → ItemsAreTyped (item_terms (drop k is))
items_typed is zero h = h
items_typed [] (suc k) h = tt
items_typed (i ∷ is) (suc k) h = items_typed is k h.1

pub items_read : (a : Reading) (depth : ℕ) (is : List TItem) (k : ℕ) → ItemsCanRead a depth (item_terms is) → ItemsCanRead a depth (item_terms (drop k is))
items_read a depth is zero h = h
items_read a depth [] (suc k) h = tt
items_read a depth (i ∷ is) (suc k) h = items_read a depth is k h.1
