-- What is to be known of the items of an in-line set.
use Rattle.std.proofs.Common.{ℕ, ◌≤◌, List, [], ◌∷◌, ◌++◌}
use Rattle.svr_token.specs.declared.Mark.TheVariants as m
use Rattle.svr_tree.specs.Tokens.{Entry, mark}
use Rattle.svr_tree.specs.ItemTree.{ItemTree, items_of}
use Rattle.svr_tree.specs.ItemGrammar.{items_spelling, AreItems, items_height}
use Rattle.svr_reader.proofs.Live.{AnyToken}
use Rattle.svr_reader.proofs.Layers.{IsSound, IsComplete, IsOpen, IsGrowing, Low}
use Rattle.svr_item.specs.ItemRules.{set_items}

-- { item } "}"
abbrev pub set_spelling : List ItemTree → List Entry
set_spelling xs = items_spelling (items_of xs) ++ mark m.CloseBrace ∷ []

abbrev pub IsSet : List ItemTree → Type 0
IsSet xs = AreItems (items_of xs)

abbrev pub set_height : List ItemTree → ℕ
set_height xs = items_height (items_of xs)

pub record SetLaws : Type 0 where
  pub grows : IsGrowing set_items
  pub sound : (most r : ℕ) → IsSound set_spelling IsSet set_height r (set_items most r)
  pub complete : (most r : ℕ) → r ≤ most → IsComplete set_spelling IsSet set_height most r AnyToken (set_items most r)
  pub opens : (most r : ℕ) → 1 ≤ most → r ≤ most → IsOpen most AnyToken AnyToken (Low r) (set_items most r)
