use Rattle.std.proofs.Common.{◌≡◌, ◌+◌, length}
use Rattle.svr_cover_text.proofs.Way.{HasCome}
use Rattle.svr_cover_text.proofs.reader.run_through.Given as goal

abbrev pub invariant-tokens : goal.invariant-tokens
invariant-tokens l = record {
  place : l.at + length l.left ≡ length l.tokens;
  come : HasCome l.text l.tokens l.fn.reading l.reading l.at l.left;
}

abbrev pub decreases-tokens : goal.decreases-tokens
decreases-tokens l = length l.left
