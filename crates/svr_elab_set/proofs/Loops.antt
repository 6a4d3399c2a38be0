-- What a place inside of loops keeps from the place around them.
use Rattle.std.proofs.Common.{◌≡◌, ℕ, ◌+◌, subst, sym, ◌∙◌}
use Rattle.svr_tree.specs.ItemTree.{SetTree}
use Rattle.svr_elab_item.specs.Fits.{SetLoopsFit}

pub loops_inside : (d k l v : ℕ) (s : SetTree) → k ≡ l → l ≡ d + v → SetLoopsFit (d + v) s → SetLoopsFit k s
loops_inside d k l v s h i f = let P : ℕ → Type 0 = λ k. SetLoopsFit k s in subst P (sym (h ∙ i)) f
