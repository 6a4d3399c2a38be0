use Rattle.std.proofs.Common.{subst, List}
use Rattle.svr_typed.specs.StmtTerm.{design_term}
use Rattle.svr_token.specs.declared.token.Token.{Token}
use Rattle.svr_token.specs.Names.{name_at}
use Rattle.svr_cover_text.specs.declared.text.GroupText.{GroupText}
use Rattle.svr_coverage.specs.Counters.{HasCounters, AreRefused}
use Rattle.svr_command_cover.proofs.Written.{groups_answer}
use Rattle.svr_command_cover.proofs.answer.with_design.Goals as goal

pub run_of-requires-clause-lawful : goal.run_of-requires-clause-lawful
run_of-requires-clause-lawful g c = c.requires.read.elaborated.lawful

pub run_of-requires-clause-fresh : goal.run_of-requires-clause-fresh
run_of-requires-clause-fresh g c = (c.in-Ok.ensures.counters.are.made.made.groups, c.in-Ok.ensures.counters.are.made.made.counters, c.in-Ok.ensures.counters.are.made.cover)

pub returns-in-Ok : goal.returns-in-Ok
returns-in-Ok g c =
    let over : HasCounters (design_term c.args.design.now) (name_at c.args.text.now c.args.front.now.tokens.items) c.as_slice.result.now c.in-Ok.counters =
    subst (λ (ts : List Token). HasCounters (design_term c.args.design.now) (name_at c.args.text.now ts) c.as_slice.result.now c.in-Ok.counters) c.deref.ensures.value c.in-Ok.ensures.counters in
    c.run_of.ensures c.args.text.now
    (record {
      small = c.requires.small;
      tokens = c.args.front.now.tokens.items;
      groups = c.args.front.now.groups;
      begins = c.requires.begins;
      read = c.requires.read;
      made = subst (λ (gs : List GroupText). HasCounters (design_term c.args.design.now) (name_at c.args.text.now c.args.front.now.tokens.items) gs c.in-Ok.counters) c.as_slice.ensures over;
    })

pub returns-in-Err : goal.returns-in-Err
returns-in-Err g c =
    let over : AreRefused (design_term c.args.design.now) c.args.text.now c.args.front.now.tokens.items c.as_slice.result.now c.in-Err.fault =
    subst (λ (ts : List Token). AreRefused (design_term c.args.design.now) c.args.text.now ts c.as_slice.result.now c.in-Err.fault) c.deref.ensures.value c.in-Err.ensures.refused in
    let same : AreRefused (design_term c.args.design.now) c.args.text.now c.args.front.now.tokens.items c.args.front.now.groups.list c.in-Err.fault =
    subst (λ (gs : List GroupText). AreRefused (design_term c.args.design.now) c.args.text.now c.args.front.now.tokens.items gs c.in-Err.fault) c.as_slice.ensures over in
    groups_answer c.args.opts c.args.text.now c.args.front.now.tokens.items c.args.front.now.groups (design_term c.args.design.now) c.in-Err.fault c.tell_fault.result _ _ _ _ _ _
    c.requires.small c.requires.begins c.requires.read same c.tell_fault.ensures
