use Rattle.std.proofs.Common.{refl, subst}
use Rattle.svr_frame.specs.Frame.{frame_term}
use Rattle.svr_sized.specs.declared.found.Found.{Found}
use Rattle.svr_sized.specs.declared.scope.Scope.TheVariants.{Capped}
use Rattle.svr_sized.specs.Ends.{IsFound}
use Rattle.svr_sized.proofs.Decided.{some_met, capped_spent}
use Rattle.svr_sized.proofs.choose.not_within.Goals as goal

pub beyond-requires-clause-proved : goal.beyond-requires-clause-proved
beyond-requires-clause-proved c = c.requires.proved c.if-no_soft.true

pub unreachable-requires : goal.unreachable-requires
unreachable-requires c =
    let o = c.args.opts in
    let m = subst (λ (x : Found). IsFound (frame_term c.args.frame.now) o.size_cap c.args.chosen.now o.budget Capped x) c.in-Met.is c.in_ok-found.ensures in
    c.requires.none (some_met (frame_term c.args.frame.now) o.size_cap c.args.chosen.now o.budget Capped _ m)

pub beyond-requires-in-Refuted-clause-proved : goal.beyond-requires-in-Refuted-clause-proved
beyond-requires-in-Refuted-clause-proved c =
    let o = c.args.opts in
    let m = subst (λ (x : Found). IsFound (frame_term c.args.frame.now) o.size_cap c.args.chosen.now o.budget Capped x) c.in-Refuted.is c.in_ok-found.ensures in
    m.1 refl

pub returns : goal.returns
returns c =
    let f = frame_term c.args.frame.now in
    let o = c.args.opts in
    let m = subst (λ (x : Found). IsFound f o.size_cap c.args.chosen.now o.budget Capped x) c.in-Spent.is c.in_ok-found.ensures in
    λ words fails. capped_spent f o.size_cap c.args.chosen.now o.budget words c.in-Spent.encoding c.in-Spent.log c.in-Spent.first fails m
