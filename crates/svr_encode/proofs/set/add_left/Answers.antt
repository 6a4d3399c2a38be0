use Rattle.std.proofs.Common.{[], ◌++◌, ◌∷◌, List, Some, map, refl, sym, subst, arith}
use Rattle.std.specs.List.{All}
use Rattle.std.proofs.lemmas.List.Elements.{All-push}
use Rattle.svr_typed.specs.ExprTerm.{expr_term}
use Rattle.svr_encode.specs.declared.part.Part.{Part}
use Rattle.svr_encode.specs.declared.set.Place.{Place}
use Rattle.svr_encode.specs.Parts.{part_term, AreRepeats}
use Rattle.svr_encode.specs.Set.{IsPlaceOf}
use Rattle.svr_encode.proofs.PartLemmas.{repeats_more, no_repeat}
use Rattle.svr_encode.proofs.SetLemmas.{places_later, left_again, new_place}
use Rattle.svr_encode.proofs.set.add_left.Goals as goal

pub returns-in_ok-push-in-Some-clause-set : goal.returns-in_ok-push-in-Some-clause-set
returns-in_ok-push-in-Some-clause-set c =
    let left = expr_term c.args.left.now in
    let ps = c.args.set.now.parts.items in
    let ls = c.args.set.now.lefts.items in
    let p = record c.in_context-part.result { same = Some c.in-Some.at } in
    let l = c.in-Some.ensures in
    record {
      repeats = subst (λ (qs : List Part). AreRepeats [] qs) (sym c.in_ok-push-in-Some.ensures.items)
          (repeats_more [] ps p c.requires.repeats (left_again left ps ls p c.args.width c.in-Some.at c.args.signed c.requires.lefts c.in_context-part.ensures.term refl l.0 (rw c.deref.ensures.value at l.1) l.2 l.3 l.4));
      lefts = subst (λ (qs : List Part). All (IsPlaceOf left (map part_term qs)) c.args.set.now.lefts.items) (sym c.in_ok-push-in-Some.ensures.items) (places_later left ps p ls c.requires.lefts);
    }

pub returns-in_ok-push-in-None-2-clause-set : goal.returns-in_ok-push-in-None-2-clause-set
returns-in_ok-push-in-None-2-clause-set c =
    let left = expr_term c.args.left.now in
    let ps = c.args.set.now.parts.items in
    let ls = c.args.set.now.lefts.items in
    let p = c.in_context-part.result in
    let l : Place = record { width = c.args.width; signed = c.args.signed; at = c.len-at.result } in
    record {
      repeats = subst (λ (qs : List Part). AreRepeats [] qs) (sym c.in_ok-push-in-None.ensures.items) (repeats_more [] ps p c.requires.repeats (no_repeat _ p c.in_context-part.ensures.first));
      lefts = rw (c.in_ok-push-in-None.ensures.items, c.in_ok-push-in-None-2.ensures.items)
          (All-push (IsPlaceOf left (map part_term (ps ++ p ∷ []))) ls l (places_later left ps p ls c.requires.lefts) (new_place left ps p c.args.width c.len-at.result c.args.signed l c.in_context-part.ensures.term (omega arith) refl));
    }
