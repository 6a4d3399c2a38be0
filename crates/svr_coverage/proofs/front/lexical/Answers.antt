use Rattle.std.proofs.Common.{refl, sym, subst}
use Rattle.svr_token.specs.Faults.{bad_byte, open_comment, bad_literal, literal_too_wide}
use Rattle.svr_lex.specs.Lexing.{IsLexicalFaultOf}
use Rattle.svr_lex.specs.declared.fault.LexFault.TheVariants.{BadByte, OpenComment, BadLiteral, LiteralTooWide}
use Rattle.svr_coverage.specs.declared.fault.CoverageFault.{CoverageFault}
use Rattle.svr_coverage.specs.Front.{by_lexeme, HasNoFront}
use Rattle.svr_coverage.proofs.front.lexical.Goals as goal

pub returns-in-BadByte : goal.returns-in-BadByte
returns-in-BadByte c =
    let first : IsLexicalFaultOf c.args.text.now (BadByte c.in-BadByte.at) = subst (λ f. IsLexicalFaultOf c.args.text.now f) c.in-BadByte.is c.requires.fault in
    subst (λ (e : CoverageFault). HasNoFront c.args.text.now e) (sym c.at_byte.ensures) (by_lexeme bad_byte c.in-BadByte.at first refl refl)

pub returns-in-OpenComment : goal.returns-in-OpenComment
returns-in-OpenComment c =
    let first : IsLexicalFaultOf c.args.text.now (OpenComment c.in-OpenComment.at) = subst (λ f. IsLexicalFaultOf c.args.text.now f) c.in-OpenComment.is c.requires.fault in
    subst (λ (e : CoverageFault). HasNoFront c.args.text.now e) (sym c.at_byte-in-OpenComment.ensures) (by_lexeme open_comment c.in-OpenComment.at first refl refl)

pub returns-in-BadLiteral : goal.returns-in-BadLiteral
returns-in-BadLiteral c =
    let first : IsLexicalFaultOf c.args.text.now (BadLiteral c.in-BadLiteral.at) = subst (λ f. IsLexicalFaultOf c.args.text.now f) c.in-BadLiteral.is c.requires.fault in
    subst (λ (e : CoverageFault). HasNoFront c.args.text.now e) (sym c.at_byte-in-BadLiteral.ensures) (by_lexeme bad_literal c.in-BadLiteral.at first refl refl)

pub returns-in-LiteralTooWide : goal.returns-in-LiteralTooWide
returns-in-LiteralTooWide c =
    let first : IsLexicalFaultOf c.args.text.now (LiteralTooWide c.in-LiteralTooWide.at) = subst (λ f. IsLexicalFaultOf c.args.text.now f) c.in-LiteralTooWide.is c.requires.fault in
    subst (λ (e : CoverageFault). HasNoFront c.args.text.now e) (sym c.at_byte-in-LiteralTooWide.ensures) (by_lexeme literal_too_wide c.in-LiteralTooWide.at first refl refl)
