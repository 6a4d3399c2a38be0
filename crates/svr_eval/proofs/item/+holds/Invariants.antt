use Rattle.std.proofs.Common.{◌≡◌, true, [], ◌∷◌, ◌++◌, length, drop}
use Rattle.svr_typed.specs.ItemTerm.{ItemTerms, item_terms}
use Rattle.svr_eval.specs.Reading.{reading_of}
use Rattle.svr_eval.specs.Holds as spec
use Rattle.svr_eval.proofs.item.+holds.Given as goal

abbrev pub invariant-all_hold-loop-item : goal.invariant-all_hold-loop-item
invariant-all_hold-loop-item l =
    let told = λ (items : ItemTerms). spec.all_hold (reading_of l.a) l.env items in
    record {
      typed : spec.ItemsAreTyped (item_terms (drop l.item-index l.items));
      reads : spec.ItemsCanRead (reading_of l.a) (length l.env) (item_terms (drop l.item-index l.items));
      same : told (item_terms (drop l.item-index l.items)) ≡ told (item_terms l.items);
    }

abbrev pub invariant-holds-loop-i : goal.invariant-holds-loop-i
invariant-holds-loop-i l =
    spec.all_below l.i (λ i. spec.each_in_row l.inner l.names (λ indexes. spec.all_hold (reading_of l.a) indexes (item_terms l.body)) (l.env ++ i ∷ [])) ≡ true

abbrev pub invariant-row_holds-loop-j : goal.invariant-row_holds-loop-j
invariant-row_holds-loop-j l = spec.all_below l.j (λ j. spec.all_hold (reading_of l.a) (l.env ++ j ∷ []) (item_terms l.body)) ≡ true
