use Rattle.std.proofs.Common.{refl, sym, ◌∙◌}
use Rattle.svr_token.proofs.Splitting.{no_byte, first_byte}
use Rattle.svr_token.proofs.Heads.{no_quote, no_letter, no_radix, head_made}
use Rattle.svr_token.proofs.literal.front_head.Goals as goal

pub returns-then-quote-ne39-clause-none : goal.returns-then-quote-ne39-clause-none
returns-then-quote-ne39-clause-none c = λ size signed radix rest h.
    no_quote _ _ _ _ size rest _ signed radix c.split_digits.ensures (first_byte _ _ c.in-len1-up.len_at_least refl) c.if-quote-ne39.true h

pub returns-in_default-rest-clause-none : goal.returns-in_default-rest-clause-none
returns-in_default-rest-clause-none c = λ size signed radix rest h.
    no_letter _ _ _ _ _ size rest _ signed radix c.split_digits.ensures (first_byte _ 39 c.in-len1-up.len_at_least c.if-quote-ne39.false)
    c.split_sign-signed.ensures (no_byte _ c.in_default-rest.len_below) h

pub returns-in_err-radix-clause-none : goal.returns-in_err-radix-clause-none
returns-in_err-radix-clause-none c = rw c.from_residual.ensures (λ size signed radix rest h.
    no_radix _ _ _ _ _ _ size rest _ signed _ radix c.split_digits.ensures (first_byte _ 39 c.in-len1-up.len_at_least c.if-quote-ne39.false)
    c.split_sign-signed.ensures (first_byte _ _ c.in-len1-up-rest.len_at_least refl) (sym c.of.ensures ∙ c.in_err-radix.was) h)

pub returns-clause-found : goal.returns-clause-found
returns-clause-found c = head_made _ _ _ _ _ _ _ _ _ c.split_digits.ensures (first_byte _ 39 c.in-len1-up.len_at_least c.if-quote-ne39.false)
    c.split_sign-signed.ensures (first_byte _ _ c.in-len1-up-rest.len_at_least refl) (sym c.of.ensures ∙ c.in_ok-radix.was)
