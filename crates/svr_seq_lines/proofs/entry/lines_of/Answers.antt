use Rattle.std.proofs.Common.{refl}
use Rattle.svr_seq.specs.SeqTerm.{seq_term}
use Rattle.svr_seq_lines.specs.Said.{HasSeq}
use Rattle.svr_seq_lines.proofs.Telling.{on_ok, lines_told, lines_stopped, refusal_told, nothing_told}
use Rattle.svr_seq_lines.proofs.entry.lines_of.Goals as goal

pub returns-in-Ok-clause-tells : goal.returns-in-Ok-clause-tells
returns-in-Ok-clause-tells g c =
    let read : HasSeq c.args.names.text.now c.args.names.tokens.now (seq_term c.in-Ok.seq) = record { tokenized = c.requires.tokens; accepted = c.in-Ok.ensures.made } in
    lines_told c.args.names.text.now c.args.names.tokens.now (seq_term c.in-Ok.seq) c.args.seed c.args.count read c.tell_lines-end.result _ _ c.tell_lines-end.ensures.ends c.tell_lines-end.ensures.whole

pub returns-in-Ok-clause-stops : goal.returns-in-Ok-clause-stops
returns-in-Ok-clause-stops g c =
    let read : HasSeq c.args.names.text.now c.args.names.tokens.now (seq_term c.in-Ok.seq) = record { tokenized = c.requires.tokens; accepted = c.in-Ok.ensures.made } in
    lines_stopped c.args.names.text.now c.args.names.tokens.now (seq_term c.in-Ok.seq) c.args.seed c.args.count read c.tell_lines-end.result _ _ _ _ c.tell_lines-end.ensures.front c.tell_lines-end.ensures.cause

pub returns-in-Err-clause-tells : goal.returns-in-Err-clause-tells
returns-in-Err-clause-tells g c = refusal_told c.args.names.text.now c.args.seed c.args.count c.of_tokens.result _ c.of_tokens.ensures.refused

pub returns-in-Err-clause-kept : goal.returns-in-Err-clause-kept
returns-in-Err-clause-kept g c = on_ok c.of_tokens.result _ refl

pub returns-in-Err-clause-stops : goal.returns-in-Err-clause-stops
returns-in-Err-clause-stops g c = nothing_told c.args.names.text.now c.args.seed c.args.count c.of_tokens.result _ _ c.of_tokens.ensures.memory
