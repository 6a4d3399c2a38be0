use Rattle.std.proofs.Common.{◌≡◌, drop}
use Rattle.svr_token.specs.Tables.{entry_of, entries_seen}
use Rattle.svr_token.proofs.tables.entry.Given as goal

abbrev pub invariant-loop-text : goal.invariant-loop-text
invariant-loop-text l = entry_of (entries_seen (drop l.text-index l.table)) l.bytes ≡ entry_of (entries_seen l.table) l.bytes
