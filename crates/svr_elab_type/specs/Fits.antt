-- What a script that was read gives of its types and enums: their expressions fit, where `depth` loops are around.
use Rattle.std.specs.Prelude.{ℕ, List, [], ◌∷◌, Option, Some, None, ⊤}
use Rattle.svr_tree.specs.ExprTree.{ExprTree}
use Rattle.svr_tree.specs.DeclTree as tree
use Rattle.svr_tree.specs.DeclTree.{PackedRangeTree, IntegerTypeTree, MemberTree, EnumTree, DefinitionTree, TypeTree}
use Rattle.svr_elab_part.specs.Fits.{LiteralsFit, LoopsFit}

abbrev pub ExprFits : ℕ → ExprTree → Type 0
ExprFits depth e = LoopsFit depth e × LiteralsFit e

abbrev pub ValueFits : ℕ → Option ExprTree → Type 0
ValueFits depth None = ⊤
ValueFits depth (Some e) = ExprFits depth e

abbrev pub PackedFits : ℕ → PackedRangeTree → Type 0
PackedFits depth r = ExprFits depth r.msb × ExprFits depth r.lsb

abbrev pub IntegerFits : ℕ → IntegerTypeTree → Type 0
IntegerFits depth (tree.vector at kind s None) = ⊤
IntegerFits depth (tree.vector at kind s (Some r)) = PackedFits depth r
IntegerFits depth (tree.atom at kind s) = ⊤

abbrev pub BaseFits : ℕ → Option IntegerTypeTree → Type 0
BaseFits depth None = ⊤
BaseFits depth (Some t) = IntegerFits depth t

abbrev pub EnumMembersFit : ℕ → List MemberTree → Type 0
EnumMembersFit depth [] = ⊤
EnumMembersFit depth (m ∷ ms) = ValueFits depth m.value × EnumMembersFit depth ms

abbrev pub EnumFits : ℕ → EnumTree → Type 0
EnumFits depth d = BaseFits depth d.base × EnumMembersFit depth d.members

abbrev pub DefinitionFits : ℕ → DefinitionTree → Type 0
DefinitionFits depth (tree.enum d) = EnumFits depth d
DefinitionFits depth (tree.plain t) = IntegerFits depth t

abbrev pub DeclarationFits : ℕ → TypeTree → Type 0
DeclarationFits depth t = DefinitionFits depth t.definition
