use Rattle.std.proofs.Common.{◌≡◌, List, map, sym, ap, subst}
use Rattle.std.specs.List.{All}
use Rattle.svr_typed.specs.declared.expr.TExpr.{TExpr}
use Rattle.svr_typed.specs.ExprTerm.{ExprTerm, expr_term}
use Rattle.svr_eval.specs.Reading.{reading_of}
use Rattle.svr_eval.specs.Typed.{IsTyped, CanRead}
use Rattle.svr_frame.specs.Frame.{frame_term}
use Rattle.svr_frame.specs.Phases.{sought_sizes}
use Rattle.svr_encoded.specs.Fixed.{IsFixed}
use Rattle.svr_encoded.specs.Encodes.{Encodes}
use Rattle.svr_blast.specs.Standing.{StandsIn}
use Rattle.svr_clauses.proofs.clauses.clauses_of.Goals as goal

pub blast-requires-clause-typed : goal.blast-requires-clause-typed
blast-requires-clause-typed c = subst (λ (xs : List TExpr). All (λ e. IsTyped (expr_term e)) xs) (sym c.in_ok-items.ensures) c.requires.typed

pub blast-requires-clause-inside : goal.blast-requires-clause-inside
blast-requires-clause-inside c = subst (λ (xs : List TExpr). All (λ e. StandsIn (frame_term c.args.frame.now) (expr_term e)) xs) (sym c.in_ok-items.ensures) c.requires.inside

pub blast-requires-clause-readable : goal.blast-requires-clause-readable
blast-requires-clause-readable c = subst (λ (xs : List TExpr). All (λ e. CanRead (reading_of (frame_term c.args.frame.now).state) 0 (expr_term e)) xs) (sym c.in_ok-items.ensures) c.requires.readable

pub blast-requires-clause-fixed : goal.blast-requires-clause-fixed
blast-requires-clause-fixed c = subst (λ (xs : List TExpr). All (λ e. IsFixed (sought_sizes (frame_term c.args.frame.now) c.args.part) (expr_term e)) xs) (sym c.in_ok-items.ensures) c.requires.fixed

pub returns : goal.returns
returns c =
    subst (λ (es : List ExprTerm). Encodes (frame_term c.args.frame.now) c.args.part c.args.sizes.now c.args.size_bits es c.in_ok-encoding.encoding)
    (ap (map expr_term) c.in_ok-items.ensures) c.in_ok-encoding.ensures
