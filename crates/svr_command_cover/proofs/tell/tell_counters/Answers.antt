use Rattle.std.proofs.Common.{◌∙◌, ◌≡◌, Option, Some, ap, subst}
use Rattle.std.specs.Prelude.{unwrap_or, option_map}
use Rattle.std.proofs.lemmas.Option.{none-some}
use Rattle.svr_cover.specs.declared.cover.Cover.{Cover}
use Rattle.svr_cover.specs.Cover.{CoverTerm, cover_term}
use Rattle.svr_command_cover.proofs.Written.{counts_told}
use Rattle.svr_command_cover.proofs.tell.tell_counters.Goals as goal

pub returns-in-Some : goal.returns-in-Some
returns-in-Some g c = λ behind is.
    let same : Some (cover_term c.in-Some.cover) ≡ Some behind = subst (λ (o : Option Cover). option_map cover_term o ≡ Some behind) c.in-Some.is is in
    counts_told c.args.status c.tell.result c.args.names.now _ behind.counts _ _ _ _ (c.counts.ensures ∙ ap (λ (o : Option CoverTerm). (unwrap_or o behind).counts) same) c.tell.ensures

pub returns-in-None : goal.returns-in-None
returns-in-None g c = λ behind is. absurd (none-some behind (subst (λ (o : Option Cover). option_map cover_term o ≡ Some behind) c.in-None.is is))
