-- What a script that was read gives of its properties and classes: their expressions fit, where `depth` loops are around.
use Rattle.std.specs.Prelude.{ℕ, List, [], ◌∷◌, ⊤}
use Rattle.svr_tree.specs.DeclTree as tree
use Rattle.svr_tree.specs.DeclTree.{DataTypeTree, DimensionTree, DeclaratorTree, ClassItemTree}
use Rattle.svr_elab_type.specs.Fits.{ExprFits, ValueFits, IntegerFits}

abbrev pub TypeFits : ℕ → DataTypeTree → Type 0
TypeFits depth (tree.integer t) = IntegerFits depth t
TypeFits depth (tree.named name) = ⊤

abbrev pub DimensionFits : ℕ → DimensionTree → Type 0
DimensionFits depth tree.dynamic = ⊤
DimensionFits depth tree.queue = ⊤
DimensionFits depth (tree.size e) = ExprFits depth e
DimensionFits depth (tree.bounds a b) = ExprFits depth a × ExprFits depth b

abbrev pub DimensionsFit : ℕ → List DimensionTree → Type 0
DimensionsFit depth [] = ⊤
DimensionsFit depth (d ∷ ds) = DimensionFits depth d × DimensionsFit depth ds

abbrev pub DeclaratorFits : ℕ → DeclaratorTree → Type 0
DeclaratorFits depth d = DimensionsFit depth d.dims × ValueFits depth d.value

abbrev pub DeclaratorsFit : ℕ → List DeclaratorTree → Type 0
DeclaratorsFit depth [] = ⊤
DeclaratorsFit depth (d ∷ ds) = DeclaratorFits depth d × DeclaratorsFit depth ds

abbrev pub ClassItemFits : ℕ → ClassItemTree → Type 0
ClassItemFits depth (tree.property p) = TypeFits depth p.kind × DeclaratorsFit depth p.decls
ClassItemFits depth (tree.block b) = ⊤

abbrev pub ClassItemsFit : ℕ → List ClassItemTree → Type 0
ClassItemsFit depth [] = ⊤
ClassItemsFit depth (i ∷ is) = ClassItemFits depth i × ClassItemsFit depth is
