use Rattle.std.proofs.Common.{◌∙◌, ap, subst}
use Rattle.std.proofs.lemmas.Result.{IfOk-weaker}
use Rattle.svr_parse.specs.Parse.{IsFaultOf}
use Rattle.svr_parse.specs.declared.fault.ParseFault.TheVariants.{Unexpected, TooDeep}
use Rattle.svr_refusal.specs.Place.{place_of}
use Rattle.svr_refusal.specs.declared.refusal.Refusal.TheVariants as refusal
use Rattle.svr_status.specs.Lines.{refused_at}
use Rattle.svr_refused.specs.Texts.{by_token, by_height}
use Rattle.svr_refused.proofs.fault.syntactic.Goals as goal

pub returns-in-Unexpected : goal.returns-in-Unexpected
returns-in-Unexpected c =
    let first : IsFaultOf c.args.text.now c.args.tokens.now (Unexpected c.in-Unexpected.token) = subst (λ e. IsFaultOf c.args.text.now c.args.tokens.now e) c.in-Unexpected.is c.requires.fault in
    IfOk-weaker c.at_byte.result _ _ (λ v e. by_token c.args.tokens.now c.in-Unexpected.token c.requires.tokens first (e ∙ ap (λ at. refused_at (place_of c.args.text.now at) refusal.Unexpected) c.token_start.ensures)) c.at_byte.ensures

pub returns-in-TooDeep : goal.returns-in-TooDeep
returns-in-TooDeep c =
    let first : IsFaultOf c.args.text.now c.args.tokens.now (TooDeep c.in-TooDeep.token) = subst (λ e. IsFaultOf c.args.text.now c.args.tokens.now e) c.in-TooDeep.is c.requires.fault in
    IfOk-weaker c.at_byte-in-TooDeep.result _ _ (λ v e. by_height c.args.tokens.now c.in-TooDeep.token c.requires.tokens first (e ∙ ap (λ at. refused_at (place_of c.args.text.now at) refusal.TooDeep) c.token_start-in-TooDeep.ensures)) c.at_byte-in-TooDeep.ensures
