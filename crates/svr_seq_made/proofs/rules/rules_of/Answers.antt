use Rattle.std.proofs.Common.{◌≡◌, ◌&&◌, [], true, length, refl, subst}
use Rattle.std.specs.Prelude.{nat_lt}
use Rattle.std.proofs.lemmas.Result.{err_from_is_err_and}
use Rattle.std.proofs.lemmas.List.{nil_from_length}
use Rattle.svr_token.specs.Names.{names_of}
use Rattle.svr_seq.specs.SeqTerm.{rule_term}
use Rattle.svr_seq.specs.declared.limits.TheConstants.{SEQUENCE_LIMIT}
use Rattle.svr_seq_made.specs.Making.{rule_made}
use Rattle.svr_seq_made.specs.Refusals.{IsFirst, parts_refusals, rules_refusals}
use Rattle.svr_seq_made.specs.Tables.{found_in}
use Rattle.svr_seq_made.proofs.Walks.{first-memory, all-made, one-made, next-refused, stop-refused, end-refused}
use Rattle.svr_seq_made.proofs.rules.rules_of.Goals as goal

pub returns-in_err-one : goal.returns-in_err-one
returns-in_err-one c =
    let q = err_from_is_err_and c.from_residual.result c.from_residual.ensures.1 in
    let x = c.in-Some.rule.now in
    rw (q.1, q.2)
    (stop-refused (rules_refusals (names_of c.args.set.now.names) (found_in c.args.set.now.places.now.entries)) (rules_refusals (names_of c.args.set.now.names) (found_in c.args.set.now.places.now.entries) 0 c.args.rules.now) (parts_refusals (names_of c.args.set.now.names) (found_in c.args.set.now.places.now.entries) (true && nat_lt (length c.rules.done) SEQUENCE_LIMIT) 0 x.parts) (length c.rules.done) c.rules.left.now x c.in-Some.others.now c.in_err-one.field-0.0
    c.in-Some.ensures.cases.0 refl c.rules.invariant.refused (subst (λ z. IsFirst c.in_err-one.field-0.0 (parts_refusals (names_of c.args.set.now.names) (found_in c.args.set.now.places.now.entries) z 0 x.parts)) c.has_room.ensures c.in_err-one.ensures))

pub returns-in_err-keep : goal.returns-in_err-keep
returns-in_err-keep c =
    let q = err_from_is_err_and c.from_residual-in_err-keep.result c.from_residual-in_err-keep.ensures.1 in
    rw (q.1, q.2) (first-memory c.in_err-keep.field-0.0 (rules_refusals (names_of c.args.set.now.names) (found_in c.args.set.now.places.now.entries) 0 c.args.rules.now) c.in_err-keep.ensures.memory)

pub rules-preserved : goal.rules-preserved
rules-preserved c =
    let x = c.in-Some.rule.now in
    record {
      refused =
          rw c.in_ok-keep.ensures.kept
          (next-refused (rules_refusals (names_of c.args.set.now.names) (found_in c.args.set.now.places.now.entries)) (rules_refusals (names_of c.args.set.now.names) (found_in c.args.set.now.places.now.entries) 0 c.args.rules.now) (parts_refusals (names_of c.args.set.now.names) (found_in c.args.set.now.places.now.entries) (true && nat_lt (length c.rules.done) SEQUENCE_LIMIT) 0 x.parts) c.rules.left.now x c.in-Some.others.now c.rules.done c.in_ok-one.one
          c.in-Some.ensures.cases.0 refl c.rules.invariant.refused (subst (λ z. (parts_refusals (names_of c.args.set.now.names) (found_in c.args.set.now.places.now.entries) z 0 x.parts) ≡ []) c.has_room.ensures c.in_ok-one.ensures.0));
      made =
          rw c.in_ok-keep.ensures.kept
          (one-made (rule_made (names_of c.args.set.now.names) (found_in c.args.set.now.places.now.entries)) rule_term c.args.rules.now c.rules.left.now c.rules.done x c.in-Some.others.now c.in_ok-one.one c.in-Some.ensures.cases.0 c.in_ok-one.ensures.1 c.rules.invariant.made);
    }

pub returns : goal.returns
returns c =
    let l = nil_from_length c.rules.left.now c.in_default.ensures.cases in (
      end-refused (rules_refusals (names_of c.args.set.now.names) (found_in c.args.set.now.places.now.entries)) (rules_refusals (names_of c.args.set.now.names) (found_in c.args.set.now.places.now.entries) 0 c.args.rules.now) (length c.rules.done) c.rules.left.now l refl c.rules.invariant.refused,
      all-made (rule_made (names_of c.args.set.now.names) (found_in c.args.set.now.places.now.entries)) rule_term c.args.rules.now c.rules.left.now c.rules.done l c.rules.invariant.made,
    )
