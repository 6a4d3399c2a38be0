use Rattle.svr_token.proofs.Splitting.{empty_not}
use Rattle.svr_token.proofs.Exact.{sized_value}
use Rattle.svr_token.proofs.literal.Literal.lexeme.Goals as goal

pub returns-in_ok-width-in-Based-clause-value : goal.returns-in_ok-width-in-Based-clause-value
returns-in_ok-width-in-Based-clause-value c =
    rw c.in-Based.is (sized_value c.in-Based.size.now c.in-Based.digits.now c.in-Based.signed c.in-Based.radix _ _ _ (empty_not _ _ c.is_empty.ensures c.if-is_empty.false)
    c.low_bits.ensures c.number_modulo.ensures c.in_ok-width-in-Based.ensures.value.0 c.in_ok-width-in-Based.ensures.value.2)
