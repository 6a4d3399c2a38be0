use Rattle.std.proofs.Common.{◌∙◌, ap}
use Rattle.std.proofs.lemmas.Result.{IfOk-weaker}
use Rattle.svr_draw.specs.Words.{generator}
use Rattle.svr_seq.specs.SeqTerm.{seq_term}
use Rattle.svr_seq.specs.Line.{line_of}
use Rattle.svr_seq_lines.proofs.sequence.end_of.Goals as goal

pub returns : goal.returns
returns c =
    IfOk-weaker c.derive.result _ _
    (λ end is. is ∙ ap (λ g. (line_of (seq_term c.args.sequence.now.seq.now) g).end) (c.new-draws.ensures ∙ ap (λ n. generator c.args.sequence.now.seed n) c.from.ensures))
    c.derive.ensures.line
