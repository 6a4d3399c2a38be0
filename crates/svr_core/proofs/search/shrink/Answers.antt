use Rattle.std.proofs.Common.{◌≡◌, subst, ap, sym, ◌∙◌, ◌-◌, ◌<◌, ◌++◌, List, false, length, arith}
use Rattle.svr_chain.specs.declared.clause.Lit.{Lit}
use Rattle.svr_chain.specs.Clauses.{is_tautology, AreWithin}
use Rattle.svr_query.specs.declared.solver.Answer.TheVariants.{Satisfied, Refuted, Spent}
use Rattle.svr_query.specs.Answer.{IsAnswer}
use Rattle.svr_soft.specs.Later.{IsLater}
use Rattle.svr_soft.proofs.Passes.{apart-within, within-among}
use Rattle.svr_soft.proofs.Ended.{later_none, later_then}
use Rattle.svr_core.specs.declared.search.Needed.{Needed}
use Rattle.svr_core.specs.Groups.{lits_of, asked}
use Rattle.svr_core.specs.Cores.{places_of}
use Rattle.svr_core.specs.Walked.{IsWalked}
use Rattle.svr_core.proofs.Gathered.{asked_within}
use Rattle.svr_core.proofs.Turns.{walk_begins, walk_out, walk_into, walk_ends, values_then, refuted_then, spent_then}
use Rattle.svr_core.proofs.search.shrink.Goals as goal

pub loop-place-init : goal.loop-place-init
loop-place-init c =
    let s = c.args.solver.now in
    let base = c.args.base.now in
    let groups = c.args.groups.now in
    record {
      later = later_none s;
      walked = subst (λ (cs : List Needed). IsWalked s base groups (length groups) cs c.args.refuted) (sym c.new-core.ensures.items) (walk_begins s base groups c.args.refuted c.requires.refuted);
    }

pub question-requires : goal.question-requires
question-requires c = let low = c.loop-place.invariant.walked.low in omega (arith, low)

pub put_first-requires : goal.put_first-requires
put_first-requires c = let low = c.loop-place.invariant.walked.low in omega (arith, low, c.requires.few)

pub ask-requires-clause-within : goal.ask-requires-clause-within
ask-requires-clause-within c =
    let inv = c.loop-place.invariant in
    let all : List Lit = c.args.base.now ++ lits_of c.args.groups.now in
    let q : List Lit = asked c.args.base.now c.args.groups.now (c.loop-place.place - 1) (places_of c.as_slice-found.result.now) in
    let e : c.as_slice-lits.result.now ≡ q = c.as_slice-lits.ensures.value ∙ c.in_ok-assumed.ensures in
    let o : AreWithin c.loop-place.solver.vars all = rw inv.later.vars c.requires.within in
    subst (λ (ls : List Lit). AreWithin c.loop-place.solver.vars ls) (sym e) (within-among c.loop-place.solver.vars q all (asked_within c.args.base.now c.args.groups.now (c.loop-place.place - 1) (places_of c.as_slice-found.result.now)) o)

pub ask-requires-clause-apart : goal.ask-requires-clause-apart
ask-requires-clause-apart c =
    let all : List Lit = c.args.base.now ++ lits_of c.args.groups.now in
    let q : List Lit = asked c.args.base.now c.args.groups.now (c.loop-place.place - 1) (places_of c.as_slice-found.result.now) in
    let e : c.as_slice-lits.result.now ≡ q = c.as_slice-lits.ensures.value ∙ c.in_ok-assumed.ensures in
    subst (λ (ls : List Lit). is_tautology ls ≡ false) (sym e) (apart-within q all (asked_within c.args.base.now c.args.groups.now (c.loop-place.place - 1) (places_of c.as_slice-found.result.now)) c.requires.apart)

pub ask-requires-clause-prefer : goal.ask-requires-clause-prefer
ask-requires-clause-prefer c = c.requires.prefer ∙ sym c.loop-place.invariant.later.vars

pub loop-place-preserved-in-Satisfied : goal.loop-place-preserved-in-Satisfied
loop-place-preserved-in-Satisfied c =
    let s = c.args.solver.now in
    let t = c.loop-place.solver in
    let inv = c.loop-place.invariant in
    let base = c.args.base.now in
    let groups = c.args.groups.now in
    let core = c.loop-place.core.items in
    let n = c.loop-place.place in
    let low : 0 < n = c.loop-place-test.true in
    let same : c.as_slice-found.result.now ≡ core = c.as_slice-found.ensures.value in
    let e : c.as_slice-lits.result.now ≡ asked base groups (n - 1) (places_of core)
    = c.as_slice-lits.ensures.value ∙ c.in_ok-assumed.ensures ∙ ap (λ (cs : List Needed). asked base groups (n - 1) (places_of cs)) same in
    let a : IsAnswer t c.as_slice-lits.result.now c.args.budget (Satisfied c.in-Satisfied.values) = rw c.in-Satisfied.is at c.in_ok-answer.ensures.answer in
    let asking : IsLater t c.ask.new.self = record { vars = c.ask.ensures.vars; clauses = c.ask.ensures.clauses; bits = c.ask.ensures.bits; begins = c.ask.ensures.begins } in
    record {
      later = later_then inv.later asking;
      walked = walk_into s base groups n (n - 1) core _ c.loop-place.refutation c.in-Satisfied.values.items (omega (arith, low)) c.in_ok-put_first-in-Satisfied.ensures inv.walked
          (values_then s t inv.later c.as_slice-lits.result.now (asked base groups (n - 1) (places_of core)) c.args.budget c.in-Satisfied.values.items e a);
    }

pub loop-place-preserved : goal.loop-place-preserved
loop-place-preserved c =
    let s = c.args.solver.now in
    let t = c.loop-place.solver in
    let inv = c.loop-place.invariant in
    let base = c.args.base.now in
    let groups = c.args.groups.now in
    let core = c.loop-place.core.items in
    let n = c.loop-place.place in
    let low : 0 < n = c.loop-place-test.true in
    let same : c.as_slice-found.result.now ≡ core = c.as_slice-found.ensures.value in
    let e : c.as_slice-lits.result.now ≡ asked base groups (n - 1) (places_of core)
    = c.as_slice-lits.ensures.value ∙ c.in_ok-assumed.ensures ∙ ap (λ (cs : List Needed). asked base groups (n - 1) (places_of cs)) same in
    let a : IsAnswer t c.as_slice-lits.result.now c.args.budget (Refuted c.in-Refuted.log) = rw c.in-Refuted.is at c.in_ok-answer.ensures.answer in
    let asking : IsLater t c.ask.new.self = record { vars = c.ask.ensures.vars; clauses = c.ask.ensures.clauses; bits = c.ask.ensures.bits; begins = c.ask.ensures.begins } in
    record {
      later = later_then inv.later asking;
      walked = walk_out s base groups n (n - 1) core c.loop-place.refutation c.in-Refuted.log (omega (arith, low)) inv.walked
          (refuted_then s t inv.later c.as_slice-lits.result.now (asked base groups (n - 1) (places_of core)) c.in-Refuted.log e a);
    }

pub returns-in_err-assumed-clause-later : goal.returns-in_err-assumed-clause-later
returns-in_err-assumed-clause-later c = c.loop-place.invariant.later

pub returns-in_err-answer-clause-later : goal.returns-in_err-answer-clause-later
returns-in_err-answer-clause-later c =
    let asking : IsLater c.loop-place.solver c.ask.new.self = record { vars = c.ask.ensures.vars; clauses = c.ask.ensures.clauses; bits = c.ask.ensures.bits; begins = c.ask.ensures.begins } in
    later_then c.loop-place.invariant.later asking

pub returns-in_err-put_first-in-Satisfied-clause-later : goal.returns-in_err-put_first-in-Satisfied-clause-later
returns-in_err-put_first-in-Satisfied-clause-later c =
    let asking : IsLater c.loop-place.solver c.ask.new.self = record { vars = c.ask.ensures.vars; clauses = c.ask.ensures.clauses; bits = c.ask.ensures.bits; begins = c.ask.ensures.begins } in
    later_then c.loop-place.invariant.later asking

pub returns-in-Spent : goal.returns-in-Spent
returns-in-Spent c =
    let t = c.loop-place.solver in
    let inv = c.loop-place.invariant in
    let a : IsAnswer t c.as_slice-lits.result.now c.args.budget (Spent c.in-Spent.log c.in-Spent.first) = rw c.in-Spent.is at c.in_ok-answer.ensures.answer in
    let asking : IsLater t c.ask.new.self = record { vars = c.ask.ensures.vars; clauses = c.ask.ensures.clauses; bits = c.ask.ensures.bits; begins = c.ask.ensures.begins } in
    record {
      later = later_then inv.later asking;
      end = spent_then c.args.solver.now t inv.later c.as_slice-lits.result.now c.args.budget c.in-Spent.first c.in-Spent.log a;
    }

pub returns : goal.returns
returns c =
    let inv = c.loop-place.invariant in
    record {
      later = inv.later;
      end = walk_ends c.args.solver.now c.args.base.now c.args.groups.now c.loop-place.place c.loop-place.core.items c.loop-place.refutation (omega arith) inv.walked;
    }
