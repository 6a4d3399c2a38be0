use Rattle.std.proofs.Common.{◌≡◌, Some, rules}
use Rattle.svr_token.specs.declared.Lexeme.TheVariants as lexeme
use Rattle.svr_parse.proofs.Named.{behind_name}
use Rattle.svr_parse.proofs.reader.Reader.declared.Goals as goal
use Rattle.svr_reader.specs.Outcomes.{lexeme_at}

pub returns-in_ok-name-in-Some-Name : goal.returns-in_ok-name-in-Some-Name
returns-in_ok-name-in-Some-Name c = λ s.
    let first : lexeme_at c.args.cursor.now ≡ Some (lexeme.Name c.in-Some-Name.field-0-0) = search rules in
    rw (behind_name c.args.self.now.room s c.args.cursor.now c.known_name.new.self (c.in_ok-name-in-Some-Name.name, c.in_ok-name-in-Some-Name.kind) c.in-Some-Name.field-0-0 first c.in_ok-name-in-Some-Name.ensures.gives) (c.named.ensures s)
