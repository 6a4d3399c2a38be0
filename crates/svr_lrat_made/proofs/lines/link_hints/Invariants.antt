use Rattle.std.proofs.Common.{◌≡◌, map, take}
use Rattle.svr_lrat_made.specs.Made.{new_number, link_hint}
use Rattle.svr_lrat_made.proofs.lines.link_hints.Given as goal

abbrev pub invariant-loop-link : goal.invariant-loop-link
invariant-loop-link l = l.hints.items ≡ map (link_hint (new_number l.numbers.inputs l.numbers.ids.items)) (take l.link-index l.links)
