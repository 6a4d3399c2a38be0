use Rattle.std.proofs.Common.{Some, sym, ◌∙◌, ap}
use Rattle.svr_token.proofs.Exact.{no_name, mark_spelled, mark_exact, system_spelled, system_exact, literal_left}
use Rattle.svr_token.proofs.spelling.lexeme_from.Goals as goal

pub returns-in-Some-clause-found : goal.returns-in-Some-clause-found
returns-in-Some-clause-found c = mark_spelled _ _ _ c.mark.ensures c.in-Some.is

pub returns-in-Some-clause-exact : goal.returns-in-Some-clause-exact
returns-in-Some-clause-exact c = λ l s. ap Some (mark_exact _ _ l (no_name _ _ c.is_name.ensures.no c.if-is_name.false) (sym c.mark.ensures ∙ c.in-Some.is) s)

pub returns-in-Some-system_name-clause-found : goal.returns-in-Some-system_name-clause-found
returns-in-Some-system_name-clause-found c = system_spelled _ _ _ c.system_name.ensures c.in-Some-system_name.is

pub returns-in-Some-system_name-clause-exact : goal.returns-in-Some-system_name-clause-exact
returns-in-Some-system_name-clause-exact c = λ l s.
    ap Some (system_exact _ _ l (no_name _ _ c.is_name.ensures.no c.if-is_name.false) (sym c.mark.ensures ∙ c.in_default.is) (sym c.system_name.ensures ∙ c.in-Some-system_name.is) s)

pub returns-in-None-clause-exact : goal.returns-in-None-clause-exact
returns-in-None-clause-exact c = λ l s.
    literal_left _ l _ (no_name _ _ c.is_name.ensures.no c.if-is_name.false) (sym c.mark.ensures ∙ c.in_default.is) (sym c.system_name.ensures ∙ c.in-None.is) c.literal.ensures.exact s
