use Rattle.std.proofs.Common.{◌≡◌, ◌&&◌, [], length, refl, subst}
use Rattle.std.specs.Prelude.{nat_lt}
use Rattle.std.proofs.lemmas.Result.{err_from_is_err_and}
use Rattle.std.proofs.lemmas.List.{nil_from_length}
use Rattle.svr_token.specs.Names.{names_of}
use Rattle.svr_seq.specs.SeqTerm.{part_term}
use Rattle.svr_seq.specs.declared.limits.TheConstants.{SEQUENCE_LIMIT}
use Rattle.svr_seq_made.specs.Making.{part_made}
use Rattle.svr_seq_made.specs.Refusals.{IsFirst, part_refusals, parts_refusals}
use Rattle.svr_seq_made.specs.Tables.{found_in}
use Rattle.svr_seq_made.proofs.Walks.{first-memory, all-made, one-made, next-refused, stop-refused, end-refused}
use Rattle.svr_seq_made.proofs.rules.parts_of.Goals as goal

pub returns-in_err-one : goal.returns-in_err-one
returns-in_err-one c =
    let q = err_from_is_err_and c.from_residual.result c.from_residual.ensures.1 in
    let x = c.in-Some.part.now in
    rw (q.1, q.2)
    (stop-refused (parts_refusals (names_of c.args.set.now.names) (found_in c.args.set.now.places.now.entries) c.args.fits) (parts_refusals (names_of c.args.set.now.names) (found_in c.args.set.now.places.now.entries) c.args.fits 0 c.args.parts.now) (part_refusals (names_of c.args.set.now.names) (found_in c.args.set.now.places.now.entries) (c.args.fits && nat_lt (length c.parts.done) SEQUENCE_LIMIT) x) (length c.parts.done) c.parts.left.now x c.in-Some.others.now c.in_err-one.field-0.0
    c.in-Some.ensures.cases.0 refl c.parts.invariant.refused (subst (λ z. IsFirst c.in_err-one.field-0.0 (part_refusals (names_of c.args.set.now.names) (found_in c.args.set.now.places.now.entries) z x)) c.has_room.ensures c.in_err-one.ensures))

pub returns-in_err-keep : goal.returns-in_err-keep
returns-in_err-keep c =
    let q = err_from_is_err_and c.from_residual-in_err-keep.result c.from_residual-in_err-keep.ensures.1 in
    rw (q.1, q.2) (first-memory c.in_err-keep.field-0.0 (parts_refusals (names_of c.args.set.now.names) (found_in c.args.set.now.places.now.entries) c.args.fits 0 c.args.parts.now) c.in_err-keep.ensures.memory)

pub parts-preserved : goal.parts-preserved
parts-preserved c =
    let x = c.in-Some.part.now in
    record {
      refused =
          rw c.in_ok-keep.ensures.kept
          (next-refused (parts_refusals (names_of c.args.set.now.names) (found_in c.args.set.now.places.now.entries) c.args.fits) (parts_refusals (names_of c.args.set.now.names) (found_in c.args.set.now.places.now.entries) c.args.fits 0 c.args.parts.now) (part_refusals (names_of c.args.set.now.names) (found_in c.args.set.now.places.now.entries) (c.args.fits && nat_lt (length c.parts.done) SEQUENCE_LIMIT) x) c.parts.left.now x c.in-Some.others.now c.parts.done c.in_ok-one.one
          c.in-Some.ensures.cases.0 refl c.parts.invariant.refused (subst (λ z. (part_refusals (names_of c.args.set.now.names) (found_in c.args.set.now.places.now.entries) z x) ≡ []) c.has_room.ensures c.in_ok-one.ensures.0));
      made =
          rw c.in_ok-keep.ensures.kept
          (one-made (part_made (names_of c.args.set.now.names) (found_in c.args.set.now.places.now.entries)) part_term c.args.parts.now c.parts.left.now c.parts.done x c.in-Some.others.now c.in_ok-one.one c.in-Some.ensures.cases.0 c.in_ok-one.ensures.1 c.parts.invariant.made);
    }

pub returns : goal.returns
returns c =
    let l = nil_from_length c.parts.left.now c.in_default.ensures.cases in (
      end-refused (parts_refusals (names_of c.args.set.now.names) (found_in c.args.set.now.places.now.entries) c.args.fits) (parts_refusals (names_of c.args.set.now.names) (found_in c.args.set.now.places.now.entries) c.args.fits 0 c.args.parts.now) (length c.parts.done) c.parts.left.now l refl c.parts.invariant.refused,
      all-made (part_made (names_of c.args.set.now.names) (found_in c.args.set.now.places.now.entries)) part_term c.args.parts.now c.parts.left.now c.parts.done l c.parts.invariant.made,
    )
