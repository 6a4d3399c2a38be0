-- What is parsed is read from its text.
use Rattle.std.proofs.Common.{ℕ, ◌<◌, ◌^◌, length, List}
use Rattle.svr_token.specs.declared.Token.{Token}
use Rattle.svr_tree.specs.ScriptTree.{ScriptTree}
use Rattle.svr_parse.specs.Parse.{IsTreeOf}
use Rattle.svr_elab_fit_laws.specs.ReadScripts.{IsReadFrom}

pub read_from : (text : List ℕ) (tokens : List Token) (s : ScriptTree) → IsTreeOf text tokens s → length tokens < 2 ^ 32 → IsReadFrom text tokens s
read_from text tokens s t few = record { lexemes = t.lexemes; spelled = t.spelled; reading = t.reading; few = few }
