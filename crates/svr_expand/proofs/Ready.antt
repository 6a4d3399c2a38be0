-- Items that are typed and can be read are ready for the walk.
use Rattle.std.proofs.Common.{ℕ, ◌+◌}
use Rattle.svr_typed.specs.ItemTerm.{ItemTerm, plain, unique, implies, branch, foreach, disable, solve, ItemTerms, no_items, more_items, ElseTerm, no_else, else_items}
use Rattle.svr_eval.specs.Reading.{Reading}
use Rattle.svr_eval.specs.Holds.{ItemIsTyped, ItemsAreTyped, ElseIsTyped, ItemCanRead, ItemsCanRead, ElseCanRead}
use Rattle.svr_frame.specs.Sound.{TargetCanRead, TargetsCanRead, ElseTargetsCanRead}
use Rattle.svr_expand.specs.Expanded.{ItemIsReady, ItemsAreReady, ElseIsReady}

module _ (a : Reading) where
  mutual
    item_ready : (depth : ℕ) (i : ItemTerm) → ItemIsTyped i → ItemCanRead a depth i → TargetCanRead a depth i → ItemIsReady a depth i
    item_ready depth (plain soft e dist) t r k = ((t.0, r.0), (t.1, r.1))
    item_ready depth (unique es) t r k = (t, r)
    item_ready depth (implies test body) t r k = ((t.0, r.0), items_ready depth body t.1 r.1 k)
    item_ready depth (branch test met unmet) t r k = ((t.0, r.0), items_ready depth met t.1 r.1 k.0, else_ready depth unmet t.2 r.2 k.1)
    item_ready depth (foreach p m names body) t r k = (t.0, t.1, r.0, items_ready (depth + names) body t.2 r.1 k)
    item_ready depth (disable target) t r k = (t, k)
    item_ready depth (solve first later) t r k = tt

    pub items_ready : (depth : ℕ) (is : ItemTerms) → ItemsAreTyped is → ItemsCanRead a depth is → TargetsCanRead a depth is → ItemsAreReady a depth is
    items_ready depth no_items t r k = tt
    items_ready depth (more_items i is) t r k = (item_ready depth i t.0 r.0 k.0, items_ready depth is t.1 r.1 k.1)

    else_ready : (depth : ℕ) (e : ElseTerm) → ElseIsTyped e → ElseCanRead a depth e → ElseTargetsCanRead a depth e → ElseIsReady a depth e
    else_ready depth no_else t r k = tt
    else_ready depth (else_items is) t r k = items_ready depth is t r k
