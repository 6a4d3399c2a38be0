-- Constants of declarations have numbers, whatever is declared further down.
use Rattle.std.specs.Prelude.{◌≡◌, None}
use Rattle.svr_tree.specs.ExprTree.{ExprTree}
use Rattle.svr_elab_fault.specs.Refusals.{first_one}
use Rattle.svr_elab_names.specs.Names.{Space, GlobalName}
use Rattle.svr_elab_part.specs.Fits.{Each}
use Rattle.svr_elab_type.specs.Types.{constant_at}
use Rattle.svr_elab_expr_laws.specs.Known.{IsKnown, GlobalKnown}

-- no enum member that can be named was refused
abbrev pub GlobalsKnown : Space → Type 0
GlobalsKnown n = Each (λ (g : GlobalName). GlobalKnown g.stands) n.globals

abbrev pub ConstantsHaveNumbers : Type 0
ConstantsHaveNumbers = (n : Space) (e : ExprTree) → GlobalsKnown n → (constant_at first_one n e).faults ≡ None → IsKnown (constant_at first_one n e).number
