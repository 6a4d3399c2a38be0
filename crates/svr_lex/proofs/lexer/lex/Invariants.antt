use Rattle.std.proofs.Common.{◌≡◌, ◌+◌, ◌≤◌, length}
use Rattle.svr_limits.specs.declared.limit.TheConstants.{TEXT_LIMIT}
use Rattle.svr_token.specs.Tokens.{Tokenizes}
use Rattle.svr_lex.proofs.lexer.lex.Given as goal

abbrev pub invariant-pieces : goal.invariant-pieces
invariant-pieces l = record {
  front : Tokenizes 0 l.text l.tokens.items l.at l.left;
  place : l.at + length l.left ≡ length l.text;
  few : length l.tokens.items ≤ l.at;
  small : length l.text ≤ TEXT_LIMIT;
}

abbrev pub decreases-pieces : goal.decreases-pieces
decreases-pieces l = length l.left
