use Rattle.svr_token.specs.Literals.{literal_seen}
use Rattle.svr_token.proofs.Splitting.{empty_is, empty_not}
use Rattle.svr_token.proofs.Exact.{not_found, none_exact, whole_left, whole_writes, literal_spells, literal_exact}
use Rattle.std.proofs.Common.{None}
use Rattle.svr_token.proofs.spelling.literal.Goals as goal

pub returns-in_default : goal.returns-in_default
returns-in_default c = record {
  found = tt;
  exact = λ v w s spells. none_exact _ (not_found _ _ c.front_literal.ensures c.in_default.not-Found) v w s spells None;
}

pub returns-then-is_empty-clause-found : goal.returns-then-is_empty-clause-found
returns-then-is_empty-clause-found c =
    literal_spells _ (literal_seen c.in-Found.literal) c.lexeme.result c.ok.result (whole_writes _ _ _ c.in-Found.ensures.begins (empty_is _ _ c.is_empty.ensures c.if-is_empty.true)) c.ok.ensures.value
    c.lexeme.ensures.value c.lexeme.ensures.lawful

pub returns-then-is_empty-clause-exact : goal.returns-then-is_empty-clause-exact
returns-then-is_empty-clause-exact c =
    literal_exact _ (literal_seen c.in-Found.literal) c.lexeme.result c.ok.result (whole_writes _ _ _ c.in-Found.ensures.begins (empty_is _ _ c.is_empty.ensures c.if-is_empty.true)) c.ok.ensures.value
    c.lexeme.ensures.value c.lexeme.ensures.zero_size c.lexeme.ensures.too_wide

pub returns-else-is_empty-clause-exact : goal.returns-else-is_empty-clause-exact
returns-else-is_empty-clause-exact c = λ v w s spells.
    none_exact _ (λ other writes. whole_left _ _ _ other c.in-Found.ensures.begins (empty_not _ _ c.is_empty.ensures c.if-is_empty.false) writes) v w s spells None
