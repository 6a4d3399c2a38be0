use Rattle.std.proofs.Common.{◌++◌, ◌∷◌, [], ap, sym, ◌∙◌, add-one}
use Rattle.std.proofs.lemmas.List.{map_push}
use Rattle.svr_typed.specs.ExprTerm.{expr_term}
use Rattle.svr_encode.specs.Parts.{part_term, body_parts}
use Rattle.svr_encode.proofs.PartLemmas.{repeats_more, no_repeat}
use Rattle.svr_encode.proofs.part.bodies.Goals as goal

pub loop-i-preserved : goal.loop-i-preserved
loop-i-preserved c =
    let e = expr_term c.args.body.now in
    record {
      parts = rw c.in_ok-push.ensures.items
          (map_push part_term c.loop-i.parts.items c.body_at.result
          ∙ ap (λ ts. ts ++ part_term c.body_at.result ∷ []) c.loop-i.invariant.parts
          ∙ ap (λ t. body_parts c.loop-i.i e ++ t ∷ []) c.body_at.ensures.term
          ∙ sym (ap (λ n. body_parts n e) (add-one c.loop-i.i)));
      repeats = rw c.in_ok-push.ensures.items (repeats_more [] c.loop-i.parts.items c.body_at.result c.loop-i.invariant.repeats (no_repeat _ c.body_at.result c.body_at.ensures.first));
    }
