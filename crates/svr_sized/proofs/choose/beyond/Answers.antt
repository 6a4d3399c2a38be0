use Rattle.std.proofs.Common.{subst}
use Rattle.svr_frame.specs.Frame.{frame_term}
use Rattle.svr_sized.specs.declared.found.Found.{Found}
use Rattle.svr_sized.specs.declared.scope.Scope.TheVariants.{Uncapped}
use Rattle.svr_sized.specs.Ends.{IsFound}
use Rattle.svr_sized.proofs.Decided.{beyond_met, beyond_spent, none_found}
use Rattle.svr_sized.proofs.choose.beyond.Goals as goal

pub returns-in-Met : goal.returns-in-Met
returns-in-Met c =
    let f = frame_term c.args.frame.now in
    let o = c.args.opts in
    let m = subst (λ (x : Found). IsFound f o.size_cap c.args.chosen.now o.budget Uncapped x) c.in-Met.is c.in_ok-found.ensures in
    λ words fails. beyond_met f o.size_cap c.args.chosen.now o.budget words c.requires.none c.in-Met.sizes c.args.encoding c.args.proof c.requires.proved m

pub returns-in-Refuted : goal.returns-in-Refuted
returns-in-Refuted c =
    let f = frame_term c.args.frame.now in
    let o = c.args.opts in
    let m = subst (λ (x : Found). IsFound f o.size_cap c.args.chosen.now o.budget Uncapped x) c.in-Refuted.is c.in_ok-found.ensures in
    λ words fails. none_found f o.size_cap c.args.chosen.now o.budget words c.in-Refuted.encoding c.in-Refuted.proof m

pub returns-in-Spent : goal.returns-in-Spent
returns-in-Spent c =
    let f = frame_term c.args.frame.now in
    let o = c.args.opts in
    let m = subst (λ (x : Found). IsFound f o.size_cap c.args.chosen.now o.budget Uncapped x) c.in-Spent.is c.in_ok-found.ensures in
    λ words fails. beyond_spent f o.size_cap c.args.chosen.now o.budget words c.requires.none c.in-Spent.encoding c.in-Spent.log c.in-Spent.first fails m
