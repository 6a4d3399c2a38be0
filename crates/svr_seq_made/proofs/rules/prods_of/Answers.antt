use Rattle.std.proofs.Common.{◌≡◌, [], length, refl, subst}
use Rattle.std.proofs.lemmas.Result.{err_from_is_err_and}
use Rattle.std.proofs.lemmas.List.{nil_from_length}
use Rattle.svr_token.specs.Names.{names_of}
use Rattle.svr_seq.specs.SeqTerm.{production_term}
use Rattle.svr_seq_made.specs.Making.{prod_made}
use Rattle.svr_seq_made.specs.Refusals.{IsFirst, prod_refusals, prods_refusals}
use Rattle.svr_seq_made.specs.Tables.{found_in}
use Rattle.svr_seq_made.proofs.Walks.{first-memory, all-made, one-made, next-refused, stop-refused, end-refused}
use Rattle.svr_seq_made.proofs.rules.prods_of.Goals as goal

pub returns-in_err-one : goal.returns-in_err-one
returns-in_err-one c =
    let q = err_from_is_err_and c.from_residual.result c.from_residual.ensures.1 in
    let x = c.in-Some.prod.now in
    rw (q.1, q.2)
    (stop-refused (prods_refusals (names_of c.args.set.now.names) (found_in c.args.set.now.places.now.entries)) (prods_refusals (names_of c.args.set.now.names) (found_in c.args.set.now.places.now.entries) 0 c.args.prods.now) (prod_refusals (names_of c.args.set.now.names) (found_in c.args.set.now.places.now.entries) (length c.prods.done) x) (length c.prods.done) c.prods.left.now x c.in-Some.others.now c.in_err-one.field-0.0
    c.in-Some.ensures.cases.0 refl c.prods.invariant.refused (subst (λ z. IsFirst c.in_err-one.field-0.0 (prod_refusals (names_of c.args.set.now.names) (found_in c.args.set.now.places.now.entries) z x)) c.len.ensures c.in_err-one.ensures))

pub returns-in_err-keep : goal.returns-in_err-keep
returns-in_err-keep c =
    let q = err_from_is_err_and c.from_residual-in_err-keep.result c.from_residual-in_err-keep.ensures.1 in
    rw (q.1, q.2) (first-memory c.in_err-keep.field-0.0 (prods_refusals (names_of c.args.set.now.names) (found_in c.args.set.now.places.now.entries) 0 c.args.prods.now) c.in_err-keep.ensures.memory)

pub prods-preserved : goal.prods-preserved
prods-preserved c =
    let x = c.in-Some.prod.now in
    record {
      refused =
          rw c.in_ok-keep.ensures.kept
          (next-refused (prods_refusals (names_of c.args.set.now.names) (found_in c.args.set.now.places.now.entries)) (prods_refusals (names_of c.args.set.now.names) (found_in c.args.set.now.places.now.entries) 0 c.args.prods.now) (prod_refusals (names_of c.args.set.now.names) (found_in c.args.set.now.places.now.entries) (length c.prods.done) x) c.prods.left.now x c.in-Some.others.now c.prods.done c.in_ok-one.one
          c.in-Some.ensures.cases.0 refl c.prods.invariant.refused (subst (λ z. (prod_refusals (names_of c.args.set.now.names) (found_in c.args.set.now.places.now.entries) z x) ≡ []) c.len.ensures c.in_ok-one.ensures.0));
      made =
          rw c.in_ok-keep.ensures.kept
          (one-made (prod_made (names_of c.args.set.now.names) (found_in c.args.set.now.places.now.entries)) production_term c.args.prods.now c.prods.left.now c.prods.done x c.in-Some.others.now c.in_ok-one.one c.in-Some.ensures.cases.0 c.in_ok-one.ensures.1 c.prods.invariant.made);
    }

pub returns : goal.returns
returns c =
    let l = nil_from_length c.prods.left.now c.in_default.ensures.cases in (
      end-refused (prods_refusals (names_of c.args.set.now.names) (found_in c.args.set.now.places.now.entries)) (prods_refusals (names_of c.args.set.now.names) (found_in c.args.set.now.places.now.entries) 0 c.args.prods.now) (length c.prods.done) c.prods.left.now l refl c.prods.invariant.refused,
      all-made (prod_made (names_of c.args.set.now.names) (found_in c.args.set.now.places.now.entries)) production_term c.args.prods.now c.prods.left.now c.prods.done l c.prods.invariant.made,
    )
