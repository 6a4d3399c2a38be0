use Rattle.std.proofs.Common.{◌≡◌, ◌∙◌, ap, codes}
use Rattle.std.proofs.lemmas.Result.{IfOk-weaker}
use Rattle.clap.specs.Walk.{rule_of}
use Rattle.clap.specs.declared.builder.value_parser.ValueParser.{ValueParser}
use Rattle.clap.specs.declared.builder.value_parser.ValueParser.TheVariants.{Unsigned}
use Rattle.svr_words.specs.Words.{option}
use Rattle.svr_words.proofs.Apps.{one_more}
use Rattle.svr_words.proofs.app.with_options.Goals as goal

pub returns : goal.returns
returns c =
    let seed : rule_of c.option.result ≡ option (codes "seed") (Unsigned 0 18446744073709551615) = c.option.ensures.rule ∙ ap (λ (p : ValueParser). option (codes "seed") p) c.unsigned.ensures in
    let budget : rule_of c.option-2.result ≡ option (codes "budget") (Unsigned 1 16777216) = c.option-2.ensures.rule ∙ ap (λ (p : ValueParser). option (codes "budget") p) c.unsigned-2.ensures in
    let cap : rule_of c.option-3.result ≡ option (codes "size-cap") (Unsigned 1 2048) = c.option-3.ensures.rule ∙ ap (λ (p : ValueParser). option (codes "size-cap") p) c.unsigned-3.ensures in
    let one = one_more _ _ _ _ _ c.in_ok-arg.ensures c.option.ensures.local c.plain.ensures seed in
    let two = one_more _ _ _ _ _ c.in_ok-arg-2.ensures c.option-2.ensures.local one budget in
    let three = one_more _ _ _ _ _ c.in_ok-arg-3.ensures c.option-3.ensures.local two cap in
    IfOk-weaker c.arg-4.result _ _ (λ r adds. one_more _ _ r _ _ adds c.flag.ensures.local three c.flag.ensures.rule) c.arg-4.ensures
