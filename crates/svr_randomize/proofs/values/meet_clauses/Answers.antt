use Rattle.std.proofs.Common.{◌++◌, List, map, sym, ap, ◌∙◌, subst, []}
use Rattle.std.specs.List.{All, list_all}
use Rattle.svr_typed.specs.declared.expr.TExpr.{TExpr}
use Rattle.svr_typed.specs.ExprTerm.{expr_term}
use Rattle.svr_eval.specs.Reading.{reading_of}
use Rattle.svr_eval.specs.Value.{alone, is_set}
use Rattle.svr_eval.specs.Typed.{IsTyped, CanRead}
use Rattle.svr_frame.specs.declared.part.Part.TheVariants.{All as Whole}
use Rattle.svr_frame.specs.Frame.{frame_term, state_at}
use Rattle.svr_frame.specs.Phases.{hard_of, live_of}
use Rattle.svr_clauses.proofs.Encodable.{both_encodable, hard_under, live_under, all_typed, all_readable}
use Rattle.svr_randomize.proofs.Items.{clauses_hold}
use Rattle.svr_randomize.proofs.values.meet_clauses.Goals as goal

pub all_hold-requires-clause-typed : goal.all_hold-requires-clause-typed
all_hold-requires-clause-typed c =
    let f = frame_term c.args.frame.now in
    let ns = c.args.sizes.now in
    let a = reading_of c.args.wanted.now in
    let fixed = c.requires.wish.0 in
    let is = c.requires.wish.1 in
    subst (λ (xs : List TExpr). All (λ e. IsTyped (expr_term e)) xs) (sym c.as_slice.ensures.value)
    (all_typed f Whole a (state_at f ns) c.args.encoding.now.items.items (hard_of f Whole ns ++ live_of f Whole ns) c.requires.encodes.items
    (both_encodable f Whole a (state_at f ns) (hard_of f Whole ns) (live_of f Whole ns) (hard_under f Whole ns c.requires.sound c.requires.fit fixed a is) (live_under f Whole ns c.requires.sound c.requires.fit fixed a is)))

pub all_hold-requires-clause-reads : goal.all_hold-requires-clause-reads
all_hold-requires-clause-reads c =
    let f = frame_term c.args.frame.now in
    let ns = c.args.sizes.now in
    let a = reading_of c.args.wanted.now in
    let fixed = c.requires.wish.0 in
    let is = c.requires.wish.1 in
    subst (λ (xs : List TExpr). All (λ e. CanRead (reading_of c.args.wanted.now) 0 (expr_term e)) xs) (sym c.as_slice.ensures.value)
    (all_readable f Whole a (state_at f ns) c.args.encoding.now.items.items (hard_of f Whole ns ++ live_of f Whole ns) c.requires.encodes.items
    (both_encodable f Whole a (state_at f ns) (hard_of f Whole ns) (live_of f Whole ns) (hard_under f Whole ns c.requires.sound c.requires.fit fixed a is) (live_under f Whole ns c.requires.sound c.requires.fit fixed a is)))

pub returns : goal.returns
returns c =
    let f = frame_term c.args.frame.now in
    c.all_hold.ensures ∙ ap (λ (xs : List TExpr). list_all (λ e. is_set (alone (reading_of c.args.wanted.now) [] e)) (map expr_term xs)) c.as_slice.ensures.value
    ∙ clauses_hold f c.args.sizes.now c.requires.sound c.requires.fit c.requires.wish.0 (reading_of c.args.wanted.now) c.requires.wish.1 c.args.encoding.now.items.items c.requires.encodes.items
