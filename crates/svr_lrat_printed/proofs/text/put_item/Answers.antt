use Rattle.std.proofs.Common.{◌≡◌, ◌++◌, codes, rules}
use Rattle.svr_lrat_printed.specs.Text.{sign_text}
use Rattle.svr_lrat_printed.proofs.Parts.{three}
use Rattle.svr_lrat_printed.proofs.text.put_item.Goals as goal

pub returns : goal.returns
returns c =
    let first : c.put.new.text.items ≡ c.args.text.now.items ++ sign_text c.args.number.negative = search rules in
    let last : c.put-2.new.text.items ≡ c.put_digits.new.text.items ++ codes " " = search rules in
    three _ _ _ _ _ _ _ first c.in_ok-put_digits.ensures last
