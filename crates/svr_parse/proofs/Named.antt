-- What stands behind a name that was taken.
use Rattle.std.proofs.Common.{◌≡◌, ℕ, List, Some, Ok, refl, ◌∙◌, ap}
use Rattle.svr_token.specs.declared.Lexeme.TheVariants as lexeme
use Rattle.svr_token.specs.declared.NameKind.{NameKind}
use Rattle.svr_tree.specs.Tokens.{Tok}
use Rattle.svr_tree.specs.DeclTree.{VarTree}
use Rattle.svr_reader.specs.Program.{known_name}
use Rattle.svr_reader.specs.Outcomes.{lexeme_at}
use Rattle.svr_reader.specs.Lists.{WithHeight}
use Rattle.svr_reader.specs.Calls.{cap}
use Rattle.svr_reader.proofs.Steps.{bind_is}
use Rattle.svr_parse.specs.ScriptRules.{named_step, inner_by, inner_step, within}

pub behind_name : (room : ℕ) (s : WithHeight (List VarTree)) (i mid : List Tok) (n : ℕ × NameKind) (k : NameKind) → lexeme_at i ≡ Some (lexeme.Name k) → within cap room known_name i ≡ Ok (n, mid)
    → within cap room (inner_step s) i ≡ within cap room (named_step s n) mid
behind_name room s i mid n k e h = ap (λ q. within cap room (inner_by s q) i) e ∙ bind_is (within cap room known_name i) _ n mid _ h refl
