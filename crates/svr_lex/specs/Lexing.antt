-- The answers of the lexer.
use Rattle.std.specs.Prelude.{ℕ, List}
use Rattle.svr_token.specs.Faults.{Fault, bad_byte, open_comment, bad_literal, literal_too_wide}
use Rattle.svr_token.specs.Tokens.{IsFirstFault}
use Rattle.svr_lex.specs.declared.fault.LexFault.{LexFault}
use Rattle.svr_lex.specs.declared.fault.LexFault.TheVariants as e
use Rattle.svr_lex.specs.declared.fault.Flaw.{Flaw}
use Rattle.svr_lex.specs.declared.fault.Flaw.TheVariants as f

-- the answer for a fault at a place
abbrev pub fault_at : Fault → ℕ → LexFault
fault_at bad_byte place = e.BadByte place
fault_at open_comment place = e.OpenComment place
fault_at bad_literal place = e.BadLiteral place
fault_at literal_too_wide place = e.LiteralTooWide place

-- the text is tokenized up to the place of the fault, where it stands and none of a lower number
abbrev pub IsLexicalFaultOf : List ℕ → LexFault → Type 0
IsLexicalFaultOf text (e.BadByte at) = IsFirstFault text bad_byte at
IsLexicalFaultOf text (e.OpenComment at) = IsFirstFault text open_comment at
IsLexicalFaultOf text (e.BadLiteral at) = IsFirstFault text bad_literal at
IsLexicalFaultOf text (e.LiteralTooWide at) = IsFirstFault text literal_too_wide at
IsLexicalFaultOf text e.NoMemory = Unit {0}

abbrev pub fault_of : Flaw → Fault
fault_of f.BadByte = bad_byte
fault_of f.OpenComment = open_comment
fault_of f.BadLiteral = bad_literal
fault_of f.LiteralTooWide = literal_too_wide
