use Rattle.std.proofs.Common.{◌≡◌, ap, ◌∙◌, ℕ, List, slice_set}
use Rattle.std.specs.Prelude.{slice_index_or, []}
use Rattle.svr_settled.proofs.Placed.{now_reads, now_long}
use Rattle.svr_settled.proofs.place.put.Goals as goal

pub returns-clause-reads : goal.returns-clause-reads
returns-clause-reads c =
    let is : c.set_row.new.a ≡ record c.args.a.now { values = slice_set c.args.a.now.values c.args.prop (slice_set (slice_index_or c.args.a.now.values c.args.prop []) c.args.index c.args.number) }
    = c.set_row.ensures ∙ ap (λ (row : List ℕ). record c.args.a.now { values = slice_set c.args.a.now.values c.args.prop row }) (c.in_ok-row.ensures ∙ ap (λ (row : List ℕ). slice_set row c.args.index c.args.number) c.row_of.ensures) in
    now_reads c.args.a.now c.args.prop c.args.index c.args.number c.requires c.set_row.new.a is

pub returns-clause-long : goal.returns-clause-long
returns-clause-long c =
    let is : c.set_row.new.a ≡ record c.args.a.now { values = slice_set c.args.a.now.values c.args.prop (slice_set (slice_index_or c.args.a.now.values c.args.prop []) c.args.index c.args.number) }
    = c.set_row.ensures ∙ ap (λ (row : List ℕ). record c.args.a.now { values = slice_set c.args.a.now.values c.args.prop row }) (c.in_ok-row.ensures ∙ ap (λ (row : List ℕ). slice_set row c.args.index c.args.number) c.row_of.ensures) in
    now_long c.args.a.now c.args.prop c.args.index c.args.number c.requires c.set_row.new.a is
