use Rattle.std.proofs.Common.{◌≡◌, [], map, refl, ap, ◌∙◌, subst}
use Rattle.std.proofs.lemmas.Result.{err_from_is_err_and}
use Rattle.svr_token.specs.Names.{names_of}
use Rattle.svr_seq_made.specs.Refusals.{entries, refusals, prods_refusals, IsFirst}
use Rattle.svr_seq_made.specs.Making.{prod_made}
use Rattle.svr_seq_made.specs.Tables.{found_in}
use Rattle.svr_seq_made.proofs.Walks.{first-memory}
use Rattle.svr_seq_made.proofs.Wholes.{prods-refused, none-refused, all-is-made}
use Rattle.svr_seq_made.proofs.whole.make.Goals as goal

pub returns-in_err-places : goal.returns-in_err-places
returns-in_err-places c =
    let q = err_from_is_err_and c.from_residual.result c.from_residual.ensures.1 in
    rw (q.1, q.2) (first-memory c.in_err-places.field-0.0 (refusals (names_of c.args.names) c.args.text.now) c.in_err-places.ensures.memory)

pub returns-in_err-prods : goal.returns-in_err-prods
returns-in_err-prods c =
    let q = err_from_is_err_and c.from_residual-in_err-prods.result c.from_residual-in_err-prods.ensures.1 in
    let table = c.in_ok-places.ensures.table ∙ ap (λ z. entries (names_of c.args.names) [] 0 z) c.as_slice.ensures in
    rw (q.1, q.2)
    (prods-refused (names_of c.args.names) c.args.text.now c.in_ok-places.places.entries c.in_err-prods.field-0.0 table c.in_ok-start.ensures.0
    (subst (λ z. IsFirst c.in_err-prods.field-0.0 (prods_refusals (names_of c.args.names) (found_in c.in_ok-places.places.entries) 0 z)) c.as_slice-2.ensures c.in_err-prods.ensures))

pub returns : goal.returns
returns c =
    let table = c.in_ok-places.ensures.table ∙ ap (λ z. entries (names_of c.args.names) [] 0 z) c.as_slice.ensures in (
      none-refused (names_of c.args.names) c.args.text.now c.in_ok-places.places.entries table c.in_ok-start.ensures.0
          (subst (λ z. prods_refusals (names_of c.args.names) (found_in c.in_ok-places.places.entries) 0 z ≡ []) c.as_slice-2.ensures c.in_ok-prods.ensures.0),
      all-is-made (names_of c.args.names) c.args.text.now c.in_ok-places.places.entries c.in_ok-start.start c.in_ok-prods.prods _ table c.in_ok-start.ensures.1
          (c.in_ok-prods.ensures.1 ∙ ap (map (prod_made (names_of c.args.names) (found_in c.in_ok-places.places.entries))) c.as_slice-2.ensures) refl,
    )
