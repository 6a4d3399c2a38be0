use Rattle.std.proofs.Common.{[], List, map, sym, subst}
use Rattle.std.specs.List.{All}
use Rattle.svr_encode.specs.declared.part.Part.{Part}
use Rattle.svr_encode.specs.Parts.{part_term, AreRepeats}
use Rattle.svr_encode.specs.Set.{IsPlaceOf}
use Rattle.svr_encode.proofs.PartLemmas.{repeats_more, no_repeat}
use Rattle.svr_encode.proofs.SetLemmas.{places_later}
use Rattle.svr_encode.proofs.set.add_member.Goals as goal

pub returns-clause-set : goal.returns-clause-set
returns-clause-set c = λ left h.
    let ps = c.args.set.now.parts.items in
    let ls = c.args.set.now.lefts.items in
    record {
      repeats = subst (λ (qs : List Part). AreRepeats [] qs) (sym c.in_ok-push.ensures.items) (repeats_more [] ps c.in_context.result h.repeats (no_repeat _ c.in_context.result c.in_context.ensures.first));
      lefts = subst (λ (qs : List Part). All (IsPlaceOf left (map part_term qs)) c.args.set.now.lefts.items) (sym c.in_ok-push.ensures.items) (places_later left ps c.in_context.result ls h.lefts);
    }
