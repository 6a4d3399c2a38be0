use Rattle.std.proofs.Common.{ℕ, List, [], ◌∷◌, ◌++◌, length, slice_set, sym, ap, ◌∙◌, arith}
use Rattle.std.proofs.lemmas.Bool.{eqb-true, eqb-false}
use Rattle.svr_values.proofs.FirstNumbers.{first_alone, first_set}
use Rattle.svr_values.proofs.chosen.with_first.Goals as goal

pub returns-then-is_empty : goal.returns-then-is_empty
returns-then-is_empty c =
    c.in_ok-push.ensures.ok
    ∙ ap (λ (row : List ℕ). row ++ c.args.number ∷ []) c.new-changed.ensures
    ∙ first_alone c.args.row.now c.args.number (eqb-true (length c.args.row.now) 0 (sym c.is_empty.ensures ∙ c.if-is_empty.true))

pub set-requires : goal.set-requires
set-requires c =
    let some = eqb-false (length c.args.row.now) 0 (sym c.is_empty.ensures ∙ c.if-is_empty.false) in
    let same = ap length c.in_ok-changed.ensures in
    omega (arith, some, same)

pub returns : goal.returns
returns c =
    let some = eqb-false (length c.args.row.now) 0 (sym c.is_empty.ensures ∙ c.if-is_empty.false) in
    c.set.ensures ∙ ap (λ (row : List ℕ). slice_set row 0 c.args.number) c.in_ok-changed.ensures ∙ first_set c.args.row.now c.args.number (omega (arith, some))
