-- What is accepted is typed.
use Rattle.std.specs.Prelude.{◌≡◌, Some, None, MatchOption, ⊤}
use Rattle.svr_tree.specs.ExprTree.{ExprTree}
use Rattle.svr_eval.specs.Value.{size_of, sign_of}
use Rattle.svr_eval.specs.Typed.{IsTyped}
use Rattle.svr_elab_fault.specs.Refusals.{first_one}
use Rattle.svr_elab_names.specs.Names.{Space}
use Rattle.svr_elab_part.specs.declared.part.Shape.{Shape}
use Rattle.svr_elab_part.specs.Fits.{NamesFit, LiteralsFit}
use Rattle.svr_elab_part.specs.Elab.{value}

-- an expression without a refusal has a typed tree of the size and sign that are known of it, where the types that it reads are known
abbrev pub AcceptedIsTyped : Type 0
AcceptedIsTyped =
    (n : Space) (e : ExprTree) → NamesFit n → LiteralsFit e → (value first_one n e).faults ≡ None
    → MatchOption (value first_one n e).tree ⊤ (λ t. IsTyped t × ((value first_one n e).shape ≡ Some (let s : Shape = record { width = size_of t; signed = sign_of t } in s)))
