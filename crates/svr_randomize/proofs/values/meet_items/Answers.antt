use Rattle.std.proofs.Common.{◌≡◌, ◌&&◌, true, false, List, [], map, sym, ap, subst, ◌∙◌}
use Rattle.std.specs.List.{All, list_all}
use Rattle.svr_typed.specs.declared.expr.TExpr.{TExpr}
use Rattle.svr_typed.specs.ExprTerm.{expr_term}
use Rattle.svr_eval.specs.Reading.{reading_of}
use Rattle.svr_eval.specs.Value.{alone, is_set}
use Rattle.svr_eval.specs.Typed.{IsTyped, CanRead}
use Rattle.svr_frame.specs.declared.part.Part.TheVariants.{All as Whole}
use Rattle.svr_frame.specs.Frame.{frame_term, state_at}
use Rattle.svr_frame.specs.Phases.{hard_of, live_of}
use Rattle.svr_clauses.proofs.Encodable.{hard_under, live_under, all_typed, all_readable}
use Rattle.svr_randomize.proofs.Items.{all_hold_is}
use Rattle.svr_randomize.proofs.values.meet_items.Goals as goal

pub all_hold-hard_met-requires-clause-typed : goal.all_hold-hard_met-requires-clause-typed
all_hold-hard_met-requires-clause-typed c =
    let f = frame_term c.args.frame.now in
    let a = reading_of c.args.wanted.now in
    subst (λ (xs : List TExpr). All (λ e. IsTyped (expr_term e)) xs) (sym c.as_slice-hard.ensures)
    (all_typed f Whole a (state_at f c.args.sizes.now) c.args.items.now.hard (hard_of f Whole c.args.sizes.now) c.requires.items.hard (hard_under f Whole c.args.sizes.now c.requires.sound c.requires.fit c.requires.wish.0 a c.requires.wish.1))

pub all_hold-hard_met-requires-clause-reads : goal.all_hold-hard_met-requires-clause-reads
all_hold-hard_met-requires-clause-reads c =
    let f = frame_term c.args.frame.now in
    let a = reading_of c.args.wanted.now in
    subst (λ (xs : List TExpr). All (λ e. CanRead (reading_of c.args.wanted.now) 0 (expr_term e)) xs) (sym c.as_slice-hard.ensures)
    (all_readable f Whole a (state_at f c.args.sizes.now) c.args.items.now.hard (hard_of f Whole c.args.sizes.now) c.requires.items.hard (hard_under f Whole c.args.sizes.now c.requires.sound c.requires.fit c.requires.wish.0 a c.requires.wish.1))

pub all_hold-soft_met-requires-clause-typed : goal.all_hold-soft_met-requires-clause-typed
all_hold-soft_met-requires-clause-typed c =
    let f = frame_term c.args.frame.now in
    let a = reading_of c.args.wanted.now in
    subst (λ (xs : List TExpr). All (λ e. IsTyped (expr_term e)) xs) (sym c.as_slice-soft.ensures)
    (all_typed f Whole a (state_at f c.args.sizes.now) c.args.items.now.soft (live_of f Whole c.args.sizes.now) c.requires.items.soft (live_under f Whole c.args.sizes.now c.requires.sound c.requires.fit c.requires.wish.0 a c.requires.wish.1))

pub all_hold-soft_met-requires-clause-reads : goal.all_hold-soft_met-requires-clause-reads
all_hold-soft_met-requires-clause-reads c =
    let f = frame_term c.args.frame.now in
    let a = reading_of c.args.wanted.now in
    subst (λ (xs : List TExpr). All (λ e. CanRead (reading_of c.args.wanted.now) 0 (expr_term e)) xs) (sym c.as_slice-soft.ensures)
    (all_readable f Whole a (state_at f c.args.sizes.now) c.args.items.now.soft (live_of f Whole c.args.sizes.now) c.requires.items.soft (live_under f Whole c.args.sizes.now c.requires.sound c.requires.fit c.requires.wish.0 a c.requires.wish.1))

pub returns-then-not-hard_met : goal.returns-then-not-hard_met
returns-then-not-hard_met c =
    let f = frame_term c.args.frame.now in
    let a = reading_of c.args.wanted.now in
    let is = all_hold_is f c.args.sizes.now c.requires.sound c.requires.fit c.requires.wish.0 a c.requires.wish.1 c.args.items.now.hard c.args.items.now.soft c.requires.items.hard c.requires.items.soft in
    let hard : list_all (λ e. is_set (alone (reading_of c.args.wanted.now) [] e)) (map expr_term c.args.items.now.hard) ≡ false
    = ap (λ (xs : List TExpr). list_all (λ e. is_set (alone (reading_of c.args.wanted.now) [] e)) (map expr_term xs)) (sym c.as_slice-hard.ensures) ∙ sym c.all_hold-hard_met.ensures ∙ c.if-not-hard_met.true in
    sym (ap (λ b. b && list_all (λ e. is_set (alone (reading_of c.args.wanted.now) [] e)) (map expr_term c.args.items.now.soft)) hard) ∙ is

pub returns : goal.returns
returns c =
    let f = frame_term c.args.frame.now in
    let a = reading_of c.args.wanted.now in
    let is = all_hold_is f c.args.sizes.now c.requires.sound c.requires.fit c.requires.wish.0 a c.requires.wish.1 c.args.items.now.hard c.args.items.now.soft c.requires.items.hard c.requires.items.soft in
    let hard : list_all (λ e. is_set (alone (reading_of c.args.wanted.now) [] e)) (map expr_term c.args.items.now.hard) ≡ true
    = ap (λ (xs : List TExpr). list_all (λ e. is_set (alone (reading_of c.args.wanted.now) [] e)) (map expr_term xs)) (sym c.as_slice-hard.ensures) ∙ sym c.all_hold-hard_met.ensures ∙ c.if-not-hard_met.false in
    c.all_hold-soft_met.ensures ∙ ap (λ (xs : List TExpr). list_all (λ e. is_set (alone (reading_of c.args.wanted.now) [] e)) (map expr_term xs)) c.as_slice-soft.ensures
    ∙ sym (ap (λ b. b && list_all (λ e. is_set (alone (reading_of c.args.wanted.now) [] e)) (map expr_term c.args.items.now.soft)) hard) ∙ is
