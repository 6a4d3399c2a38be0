use Rattle.std.proofs.Common.{◌≡◌, ◌++◌, codes, rules}
use Rattle.svr_lrat_printed.proofs.Parts.{three}
use Rattle.svr_lrat_printed.proofs.text.put_delete.Goals as goal

pub returns : goal.returns
returns c =
    let letter : c.put.new.text.items ≡ c.put_id.new.text.items ++ codes "d " = search rules in
    three _ _ _ _ _ _ _ c.in_ok-put_id.ensures letter c.in_ok-put_last.ensures
