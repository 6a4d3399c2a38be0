use Rattle.std.proofs.Common.{◌≡◌, drop}
use Rattle.std.specs.List.{list_any}
use Rattle.svr_frame.specs.Frame.{frame_term}
use Rattle.svr_mention.specs.Mentioned.{is_random_one}
use Rattle.svr_mention.proofs.mention.has_random.Given as goal

abbrev pub invariant-loop-mention : goal.invariant-loop-mention
invariant-loop-mention l = list_any (is_random_one (frame_term l.frame)) (drop l.mention-index l.mentions) ≡ list_any (is_random_one (frame_term l.frame)) l.mentions
