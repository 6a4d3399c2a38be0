-- Ranks that the items of a base agree with, for what a class inherits of them and for its own.
use Rattle.std.proofs.Common.{◌≡◌, ◌<◌, ℕ, length, slice_index_or, true, List, ◌++◌, Option, Some, None, Result, Ok, Err, IfOk, take, drop, option_map, refl, sym, ap, subst, ◌∙◌}
use Rattle.std.specs.Prelude.{slice_get}
use Rattle.std.proofs.lemmas.Bool.{false≢true}
use Rattle.std.proofs.lemmas.List.{take-append-drop}
use Rattle.std.proofs.lemmas.Option.{slice_get-get_or}
use Rattle.svr_elab_fault.specs.declared.Fault.{Fault}
use Rattle.svr_elab_fault.specs.Refusals.{first_one, earlier}
use Rattle.svr_elab_order.specs.declared.Order.{Order}
use Rattle.svr_elab_order.specs.declared.Ranks.{Ranks}
use Rattle.svr_elab_order.specs.Cycles.{cycles}
use Rattle.svr_elab_order.specs.Ranks.{agree, are_behind}
use Rattle.svr_elab_order.proofs.Ranked.{none_refused, agree_joined, late_all}
use Rattle.svr_elab_block.specs.declared.part.ClassOrders.{ClassOrders}
use Rattle.svr_elab_block.specs.Blocks.{orders_at}
use Rattle.svr_elab_block.specs.Chain.{inherited, all_orders, is_agreed, AreRanks, AreRanked, ranks_in}
use Rattle.svr_elab_block.proofs.Chain.{ranked_at, still_ranks}

-- what is said of the value that was made
pub at_ok : {A E : Type 0} (P : A → Type 0) (r : Result A E) (x : A) → r ≡ Ok x → IfOk r P → P x
at_ok {A = A} {E = E} P r x e h = subst (λ (r : Result A E). IfOk r P) e h

-- what ranks are known of that agrees with them
pub agreed : (r : Option Ranks) (xs ys : List Order) → AreRanks r xs → is_agreed r ys ≡ true → AreRanks r (xs ++ ys)
agreed None xs ys h k = tt
agreed (Some r) xs ys h k = agree_joined r xs ys h k

-- what agrees with ranks has no refusal
pub none_told : (r : Option Ranks) (xs ys : List Order) → AreRanks r xs → is_agreed r ys ≡ true → (f : Option Fault) → earlier f None ≡ earlier f (cycles first_one xs ys)
none_told None xs ys h k f = absurd (false≢true k)
none_told (Some r) xs ys h k f = ap (earlier f) (sym (none_refused r xs ys (agree_joined r xs ys h k)))

-- ranks that the base's items agree with do for what is inherited of them
pub for_inherited : (text : ℕ → List ℕ) (r : Option Ranks) (done : List (List Order)) (base : Option ℕ) (named : List (List ℕ)) → AreRanks r (orders_at done base) → AreRanks r (inherited text done base named)
for_inherited text r done base named h = still_ranks text r named (orders_at done base) h

-- items that all agree with ranks, cut at a place
pub none_of_all : (r : Ranks) (os : List Order) (given : ℕ) → agree r os ≡ true → None ≡ cycles first_one (take given os) (drop given os)
none_of_all r os given h = sym (none_refused r (take given os) (drop given os) (ap (agree r) (take-append-drop given os) ∙ h))

earlier_none : (f : Option Fault) → earlier f None ≡ f
earlier_none None = refl
earlier_none (Some f) = refl

-- items behind a refusal
pub behind_told : (f : Option Fault) (xs ys : List Order) → are_behind f ys ≡ true → earlier f None ≡ earlier f (cycles first_one xs ys)
behind_told f xs ys h = earlier_none f ∙ sym (late_all f xs ys h)

pub got_at : (cs : List ClassOrders) (k : ℕ) (c : ClassOrders) → k < length cs → c ≡ slice_index_or cs k c → slice_get cs k ≡ Some c
got_at cs k c h e = slice_get-get_or cs k c h ∙ ap (λ (c : ClassOrders). Some c) (sym e)

-- the ranks of a base, for another class
pub of_base : {E S : Type 0} (text : ℕ → List ℕ) (cs : List ClassOrders) (base : Option ℕ) (k : ℕ) (c : ClassOrders) (r : Result (Option S) E) (value : S → Ranks) → base ≡ Some k → slice_get cs k ≡ Some c
    → IfOk r (λ x. option_map value x ≡ ranks_in c) → AreRanked text cs → IfOk r (λ x. AreRanks (option_map value x) (orders_at (all_orders text cs) base))
of_base text cs base k c (Err e) value b at h ranked = tt
of_base text cs base k c (Ok x) value b at h ranked =
    let here : AreRanks (ranks_in c) (orders_at (all_orders text cs) base) = subst (λ (o : Option ℕ). AreRanks (ranks_in c) (orders_at (all_orders text cs) o)) (sym b) (ranked_at text cs k c at ranked) in
    subst (λ (r : Option Ranks). AreRanks r (orders_at (all_orders text cs) base)) (sym h) here
