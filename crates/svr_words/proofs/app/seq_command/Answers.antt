use Rattle.std.proofs.Common.{◌≡◌, ◌∙◌, ap, codes}
use Rattle.std.proofs.lemmas.Result.{IfOk-weaker}
use Rattle.clap.specs.Walk.{rule_of}
use Rattle.clap.specs.declared.builder.value_parser.ValueParser.{ValueParser}
use Rattle.clap.specs.declared.builder.value_parser.ValueParser.TheVariants.{Unsigned}
use Rattle.svr_words.specs.Words.{option}
use Rattle.svr_words.proofs.Apps.{one_more}
use Rattle.svr_words.proofs.app.seq_command.Goals as goal

pub returns : goal.returns
returns c =
    let seed : rule_of c.option.result ≡ option (codes "seed") (Unsigned 0 18446744073709551615) = c.option.ensures.rule ∙ ap (λ (p : ValueParser). option (codes "seed") p) c.unsigned.ensures in
    let count : rule_of c.option-2.result ≡ option (codes "count") (Unsigned 1 100000) = c.option-2.ensures.rule ∙ ap (λ (p : ValueParser). option (codes "count") p) c.unsigned-2.ensures in
    let one = one_more _ _ _ _ _ c.in_ok-arg.ensures c.option.ensures.local c.plain.ensures seed in
    IfOk-weaker c.arg-2.result _ _ (λ r adds. one_more _ _ r _ _ adds c.option-2.ensures.local one count) c.arg-2.ensures
