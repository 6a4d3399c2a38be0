use Rattle.std.proofs.Common.{◌≡◌, ◌++◌, codes, rules}
use Rattle.svr_lrat_printed.proofs.Parts.{two}
use Rattle.svr_lrat_printed.proofs.text.put_last.Goals as goal

pub returns : goal.returns
returns c =
    let last : c.put.new.text.items ≡ c.put_items.new.text.items ++ codes "0\n" = search rules in
    two _ _ _ _ _ c.in_ok-put_items.ensures last
