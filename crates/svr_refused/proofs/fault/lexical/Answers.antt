use Rattle.std.proofs.Common.{subst}
use Rattle.std.proofs.lemmas.Result.{IfOk-weaker}
use Rattle.svr_token.specs.Faults.{bad_byte, open_comment, bad_literal, literal_too_wide}
use Rattle.svr_lex.specs.Lexing.{IsLexicalFaultOf}
use Rattle.svr_lex.specs.declared.fault.LexFault.TheVariants.{BadByte, OpenComment, BadLiteral, LiteralTooWide}
use Rattle.svr_refused.specs.Texts.{by_lexeme}
use Rattle.svr_refused.proofs.fault.lexical.Goals as goal

pub returns-in-BadByte : goal.returns-in-BadByte
returns-in-BadByte c =
    let first : IsLexicalFaultOf c.args.text.now (BadByte c.in-BadByte.at) = subst (λ e. IsLexicalFaultOf c.args.text.now e) c.in-BadByte.is c.requires.fault in
    IfOk-weaker c.at_byte.result _ _ (λ v e. by_lexeme bad_byte c.in-BadByte.at first e) c.at_byte.ensures

pub returns-in-OpenComment : goal.returns-in-OpenComment
returns-in-OpenComment c =
    let first : IsLexicalFaultOf c.args.text.now (OpenComment c.in-OpenComment.at) = subst (λ e. IsLexicalFaultOf c.args.text.now e) c.in-OpenComment.is c.requires.fault in
    IfOk-weaker c.at_byte-in-OpenComment.result _ _ (λ v e. by_lexeme open_comment c.in-OpenComment.at first e) c.at_byte-in-OpenComment.ensures

pub returns-in-BadLiteral : goal.returns-in-BadLiteral
returns-in-BadLiteral c =
    let first : IsLexicalFaultOf c.args.text.now (BadLiteral c.in-BadLiteral.at) = subst (λ e. IsLexicalFaultOf c.args.text.now e) c.in-BadLiteral.is c.requires.fault in
    IfOk-weaker c.at_byte-in-BadLiteral.result _ _ (λ v e. by_lexeme bad_literal c.in-BadLiteral.at first e) c.at_byte-in-BadLiteral.ensures

pub returns-in-LiteralTooWide : goal.returns-in-LiteralTooWide
returns-in-LiteralTooWide c =
    let first : IsLexicalFaultOf c.args.text.now (LiteralTooWide c.in-LiteralTooWide.at) = subst (λ e. IsLexicalFaultOf c.args.text.now e) c.in-LiteralTooWide.is c.requires.fault in
    IfOk-weaker c.at_byte-in-LiteralTooWide.result _ _ (λ v e. by_lexeme literal_too_wide c.in-LiteralTooWide.at first e) c.at_byte-in-LiteralTooWide.ensures
