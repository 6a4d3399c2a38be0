use Rattle.std.proofs.Common.{None, codes}
use Rattle.std.proofs.lemmas.Bool.Decides.{Decides-eqb}
use Rattle.std.proofs.lemmas.Slice.Eq.{strip_prefix_is}
use Rattle.svr_token.proofs.Splitting.{empty_is, empty_not}
use Rattle.svr_token.proofs.Fronts.{decimal_found, literal_absent}
use Rattle.svr_token.proofs.literal.front_literal.Goals as goal

pub returns-then-not-is_empty : goal.returns-then-not-is_empty
returns-then-not-is_empty c = decimal_found _ _ _ c.in_default.ensures.none c.split_digits.ensures (empty_not _ _ c.is_empty.ensures c.if-not-is_empty.true)

pub returns-in-None : goal.returns-in-None
returns-in-None c = literal_absent _ _ _ c.in_default.ensures.none c.split_digits.ensures (empty_is _ _ c.is_empty.ensures c.if-not-is_empty.false)
    (strip_prefix_is Decides-eqb c.args.text.now (codes "'0") None c.in_default-strip_prefix.ensures.cases)
    (strip_prefix_is Decides-eqb c.args.text.now (codes "'1") None c.in-None.ensures.cases)
