-- What a script that was read gives of the items of its blocks.
use Rattle.std.specs.Prelude.{ℕ, List, [], ◌∷◌, ⊤}
use Rattle.svr_tree.specs.DeclTree as decl
use Rattle.svr_tree.specs.DeclTree.{ClassItemTree, ClassTree}
use Rattle.svr_elab_item.specs.Fits.{ItemsFit, ItemsLoopsFit}

abbrev pub ItemFits : ℕ → ClassItemTree → Type 0
ItemFits depth (decl.property p) = ⊤
ItemFits depth (decl.block b) = ItemsFit b.items × ItemsLoopsFit depth b.items

abbrev pub BodyFits : ℕ → List ClassItemTree → Type 0
BodyFits depth [] = ⊤
BodyFits depth (i ∷ is) = ItemFits depth i × BodyFits depth is

abbrev pub BodiesFit : ℕ → List ClassTree → Type 0
BodiesFit depth [] = ⊤
BodiesFit depth (c ∷ cs) = BodyFits depth c.items × BodiesFit depth cs
