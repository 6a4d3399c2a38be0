use Rattle.std.proofs.Common.{◌++◌, ◌∷◌, [], sym, ◌∙◌, ap, map}
use Rattle.std.proofs.lemmas.List.{map-append}
use Rattle.svr_typed.specs.ExprTerm.{expr_term}
use Rattle.svr_frame.specs.Frame.{frame_term, has_free_size}
use Rattle.svr_expand.specs.Domains.{not_negative_expr}
use Rattle.svr_expand.proofs.Kept.{mapped_kept, mapped_left}
use Rattle.svr_expand.proofs.domain.add_size_items.Goals as goal
use Rattle.svr_expand.proofs.domain.add_size_items.Goals.{then-has_free_size+in_ok-bound+in_ok-push, else-has_free_size}

pub loop-prop-preserved : goal.loop-prop-preserved
loop-prop-preserved c =
    let f = frame_term c.args.frame.now in
    let p = c.loop-prop.prop in
    let out = c.loop-prop.out in
    elim c.if-has_free_size.branch [
      | then-has_free_size+in_ok-bound+in_ok-push w ↦
          mapped_kept not_negative_expr (has_free_size f) p (map expr_term c.args.out.now) (map expr_term out) (map expr_term c.if-has_free_size.out) (sym c.has_free_size.ensures ∙ w.if-has_free_size.true) c.loop-prop.invariant
          (ap (map expr_term) (w.out-is ∙ w.in_ok-push.ensures.ok) ∙ map-append expr_term out (w.in_ok-bound.bound ∷ []) ∙ ap (λ e. map expr_term out ++ e ∷ []) w.in_ok-bound.ensures)
      | else-has_free_size w ↦
          ap (map expr_term) w.out-is
          ∙ mapped_left not_negative_expr (has_free_size f) p (map expr_term c.args.out.now) (map expr_term out) (sym c.has_free_size.ensures ∙ w.if-has_free_size.false) c.loop-prop.invariant
    ]
