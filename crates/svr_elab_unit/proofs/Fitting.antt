-- What the names of a statement keep behind other variables.
use Rattle.std.proofs.Common.{◌≡◌, ℕ, List, map, length, Option, subst, sym}
use Rattle.std.proofs.lemmas.List.{length-map}
use Rattle.svr_elab_names.specs.declared.VarStand.{VarStand}
use Rattle.svr_elab_names.specs.Names.{Space, VarName}
use Rattle.svr_elab_names.specs.Tables.{Key, var_of}
use Rattle.svr_elab_part.specs.Fits.{MembersFit}
use Rattle.svr_tree.specs.DeclTree.{DataTypeTree, VarInitTree}
use Rattle.svr_elab_decl.specs.Fits.{TypeFits}
use Rattle.svr_elab_unit.specs.Vars.{stmt_space}
use Rattle.svr_elab_unit.specs.Fits.{InitFits}

pub members_there : (m n : Space) (vs : List VarName) → m ≡ stmt_space n vs → MembersFit n → MembersFit m
members_there m n vs e h = subst MembersFit (sym e) (record { globals = h.globals })

pub counted : (es : List (Key × VarStand)) → length es ≡ length (map var_of es)
counted es = sym (length-map es var_of)

-- ---- the same loops around

pub type_there : (d e : ℕ) (t : DataTypeTree) → d ≡ e → TypeFits e t → TypeFits d t
type_there d e t p h = let P : ℕ → Type 0 = λ k. TypeFits k t in subst P (sym p) h

pub init_there : (d e : ℕ) (i : Option VarInitTree) → d ≡ e → InitFits e i → InitFits d i
init_there d e i p h = let P : ℕ → Type 0 = λ k. InitFits k i in subst P (sym p) h
