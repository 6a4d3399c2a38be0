use Rattle.svr_token.proofs.Exact.{named_spells, named_exact}
use Rattle.svr_token.proofs.spelling.name.Goals as goal

pub returns : goal.returns
returns c = record {
  found = named_spells _ _ c.requires _ c.word.ensures c.unwrap_or.ensures;
  exact = λ l s. named_exact _ l _ c.requires _ c.word.ensures c.unwrap_or.ensures s;
}
