-- What a script that was read gives of its variables and statements: their expressions fit, where `depth` loops are around, and there are fewer than 2^32 variables.
use Rattle.std.specs.Prelude.{ℕ, ◌+◌, length, List, [], ◌∷◌, Option, Some, None, ⊤}
use Rattle.svr_tree.specs.DeclTree as decl
use Rattle.svr_tree.specs.DeclTree.{VarInitTree, VarDeclaratorTree, VarTree}
use Rattle.svr_tree.specs.StmtTree.{StmtTree}
use Rattle.svr_elab_type.specs.Fits.{ExprFits}
use Rattle.svr_elab_decl.specs.Fits.{TypeFits}
use Rattle.svr_elab_stmt.specs.Fits.{StmtFits}

abbrev pub VarTypesFit : ℕ → List VarTree → Type 0
VarTypesFit depth [] = ⊤
VarTypesFit depth (v ∷ vs) = TypeFits depth v.kind × VarTypesFit depth vs

-- how many variables are declared, each as often as it is
abbrev pub declared_in : List VarTree → ℕ
declared_in [] = 0
declared_in (v ∷ vs) = length v.vars + declared_in vs

abbrev pub InitFits : ℕ → Option VarInitTree → Type 0
InitFits depth None = ⊤
InitFits depth (Some (decl.value e)) = ExprFits depth e
InitFits depth (Some (decl.new parens)) = ⊤

abbrev pub InitsFit : ℕ → List VarDeclaratorTree → Type 0
InitsFit depth [] = ⊤
InitsFit depth (d ∷ ds) = InitFits depth d.init × InitsFit depth ds

abbrev pub VarValuesFit : ℕ → List VarTree → Type 0
VarValuesFit depth [] = ⊤
VarValuesFit depth (v ∷ vs) = InitsFit depth v.vars × VarValuesFit depth vs

abbrev pub AllStmtsFit : ℕ → List StmtTree → Type 0
AllStmtsFit depth [] = ⊤
AllStmtsFit depth (s ∷ ss) = StmtFits depth s × AllStmtsFit depth ss
