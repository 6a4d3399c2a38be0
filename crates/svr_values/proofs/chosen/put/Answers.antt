use Rattle.std.proofs.Common.{◌∷◌, List, ℕ, drop, ap, ◌∙◌}
use Rattle.std.specs.Prelude.{slice_index_or, []}
use Rattle.svr_values.proofs.FirstNumbers.{put_numbers}
use Rattle.svr_values.proofs.chosen.put.Goals as goal

pub returns : goal.returns
returns c =
    put_numbers c.args.rows.now c.grow.new.rows c.set.new.self c.args.choice.0 c.args.choice.1 c.in_ok-row.row c.in_ok-grow.ensures.there c.in_ok-grow.ensures.same
    (c.in_ok-row.ensures
    ∙ ap (λ (row : List ℕ). c.args.choice.1 ∷ drop 1 row) (c.row_of.ensures ∙ ap (λ (rows : List (List ℕ)). slice_index_or rows c.args.choice.0 []) c.as_slice.ensures))
    c.set.ensures
