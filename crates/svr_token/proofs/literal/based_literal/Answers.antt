use Rattle.svr_token.proofs.Splitting.{empty_is, empty_not}
use Rattle.svr_token.proofs.Fronts.{based_found, digit_lacking}
use Rattle.svr_token.proofs.literal.based_literal.Goals as goal

pub returns-then-is_empty : goal.returns-then-is_empty
returns-then-is_empty c = digit_lacking _ _ _ _ _ _ c.requires _ (empty_is _ _ c.is_empty.ensures c.if-is_empty.true) c.split_digits.ensures

pub returns : goal.returns
returns c = based_found _ _ _ _ _ _ _ c.requires c.split_digits.ensures (empty_not _ _ c.is_empty.ensures c.if-is_empty.false)
