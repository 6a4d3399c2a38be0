use Rattle.std.proofs.Common.{◌≡◌, ◌++◌, codes, rules}
use Rattle.svr_lrat_printed.proofs.Parts.{four}
use Rattle.svr_lrat_printed.proofs.text.put_header.Goals as goal

pub returns : goal.returns
returns c =
    let first : c.put.new.text.items ≡ c.args.text.now.items ++ codes "p cnf " = search rules in
    let last : c.put-2.new.text.items ≡ c.put_digits.new.text.items ++ codes "\n" = search rules in
    four _ _ _ _ _ _ _ _ _ first c.in_ok-put_id.ensures c.in_ok-put_digits.ensures last
