use Rattle.std.proofs.Common.{◌++◌, ◌∷◌, [], sym, ◌∙◌, ap, map}
use Rattle.std.proofs.lemmas.List.{map-append}
use Rattle.svr_typed.specs.ExprTerm.{expr_term}
use Rattle.svr_frame.specs.Frame.{frame_term, has_free_size}
use Rattle.svr_expand.proofs.Kept.{mapped_kept, mapped_left}
use Rattle.svr_sized.specs.Bounds.{at_most_expr}
use Rattle.svr_sized.proofs.bounds.caps_of.Goals as goal
use Rattle.svr_sized.proofs.bounds.caps_of.Goals.{then-has_free_size+in_ok-bound+in_ok-push, else-has_free_size}

pub loop-prop-preserved : goal.loop-prop-preserved
loop-prop-preserved c =
    let f = frame_term c.args.frame.now in
    let p = c.loop-prop.prop in
    let caps = c.loop-prop.caps in
    elim c.if-has_free_size.branch [
      | then-has_free_size+in_ok-bound+in_ok-push w ↦
          mapped_kept (at_most_expr c.args.cap) (has_free_size f) p [] (map expr_term caps) (map expr_term c.if-has_free_size.caps) (sym c.has_free_size.ensures ∙ w.if-has_free_size.true) c.loop-prop.invariant
          (ap (map expr_term) (w.caps-is ∙ w.in_ok-push.ensures.ok) ∙ map-append expr_term caps (w.in_ok-bound.bound ∷ []) ∙ ap (λ e. map expr_term caps ++ e ∷ []) w.in_ok-bound.ensures)
      | else-has_free_size w ↦
          ap (map expr_term) w.caps-is
          ∙ mapped_left (at_most_expr c.args.cap) (has_free_size f) p [] (map expr_term caps) (sym c.has_free_size.ensures ∙ w.if-has_free_size.false) c.loop-prop.invariant
    ]
