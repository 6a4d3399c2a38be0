use Rattle.std.proofs.Common.{◌≡◌, ◌+◌, length, ap, ◌∙◌}
use Rattle.std.proofs.lemmas.Result.{IfOk-weaker}
use Rattle.svr_frame.specs.declared.part.Part.TheVariants.{All as Whole}
use Rattle.svr_frame.specs.Frame.{frame_term}
use Rattle.svr_frame.specs.Phases.{domain_items}
use Rattle.svr_counts.specs.Hard.{hard_by_item, joined, counts_of}
use Rattle.svr_conflict.specs.Cut.{total}
use Rattle.svr_conflict.specs.Ends.{IsConflictEnd}
use Rattle.svr_conflict.proofs.Cuts.{left_of}
use Rattle.svr_conflict.proofs.Items.{hard_long}
use Rattle.svr_conflict.proofs.ask.conflict_set.Goals as goal

pub hard_counts-requires : goal.hard_counts-requires
hard_counts-requires c = c.requires.sound.typed

pub searched-requires-clause-domains : goal.searched-requires-clause-domains
searched-requires-clause-domains c =
    let f = frame_term c.args.frame.now in
    let ns = c.args.sizes.now in
    let sum : c.len-hard.result ≡ length (domain_items f Whole ns) + length (joined (hard_by_item f ns)) = c.len-hard.ensures ∙ hard_long f ns c.in_ok-items.items.hard c.in_ok-items.ensures.hard in
    let told : total c.as_slice-numbers.result.now ≡ total (counts_of (hard_by_item f ns)) = ap total (c.as_slice-numbers.ensures ∙ c.in_ok-counts.ensures) in
    left_of (hard_by_item f ns) c.left_over-domains.result c.len-hard.result (length (domain_items f Whole ns)) (total c.as_slice-numbers.result.now) sum told c.left_over-domains.ensures

pub searched-requires-clause-counts : goal.searched-requires-clause-counts
searched-requires-clause-counts c = c.as_slice-numbers.ensures ∙ c.in_ok-counts.ensures

pub returns : goal.returns
returns c =
    let f = frame_term c.args.frame.now in
    let ns = c.args.sizes.now in
    IfOk-weaker c.concluded.result _ (λ r. IsConflictEnd f ns c.args.chosen.now c.args.budget r) (λ r h. h c.args.chosen.now c.args.budget c.requires.chosen c.in_ok-found.ensures.base c.in_ok-found.ensures.end) c.concluded.ensures
