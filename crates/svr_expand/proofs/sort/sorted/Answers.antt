use Rattle.std.proofs.Common.{◌++◌, ℕ, [], refl, ◌∙◌, ap, map, reverse, append-nil}
use Rattle.std.specs.Prelude.{slice_index}
use Rattle.svr_typed.specs.ExprTerm.{expr_term}
use Rattle.svr_expand.specs.Expanded.{finding_term, findings, targets_one, asked_exprs}
use Rattle.svr_expand.proofs.Sorting.{wished_before, none_behind, hard_turn, soft_turn}
use Rattle.svr_expand.proofs.TargetSets.{found_added, wished_is}
use Rattle.svr_expand.proofs.sort.sorted.Goals as goal

pub loop-finding-init : goal.loop-finding-init
loop-finding-init c =
    let size = λ (p : ℕ). slice_index c.args.sizes.now p in
    let fs = findings c.args.found in
    record {
      hard = ap (λ xs. asked_exprs fs ++ reverse (map expr_term xs)) c.new-hard.ensures ∙ append-nil (asked_exprs fs);
      soft = ([], c.new-targets.ensures size, ap (λ xs. map expr_term xs ++ wished_before size [] fs) c.new-soft.ensures ∙ none_behind size fs);
    }

pub loop-finding-preserved : goal.loop-finding-preserved
loop-finding-preserved c =
    let size = λ (p : ℕ). slice_index c.args.sizes.now p in
    let x = c.in-Some.finding in
    let left = c.loop-finding.left in
    let rest = c.pop.new.self in
    let before = c.loop-finding.invariant in
    let ts = before.soft.0 in
    let old = map expr_term c.loop-finding.soft in
    let new = map expr_term c.sort_one.new.soft in
    record {
      hard = hard_turn left rest x (map expr_term c.loop-finding.hard) (map expr_term c.sort_one.new.hard) c.in-Some.ensures c.in_ok-sort_one.ensures.hard ∙ before.hard;
      soft = (
        ts ++ targets_one (finding_term x),
        found_added size c.loop-finding.targets c.sort_one.new.targets (finding_term x) ts c.in_ok-sort_one.ensures.targets before.soft.1,
        soft_turn size left rest x old new ts (ts ++ targets_one (finding_term x)) c.in-Some.ensures (c.in_ok-sort_one.ensures.soft ∙ ap (λ es. old ++ es) (wished_is size c.loop-finding.targets ts before.soft.1 (finding_term x))) refl ∙ before.soft.2,
      );
    }
