use Rattle.std.proofs.Common.{arith, refl, sym, subst}
use Rattle.std.proofs.lemmas.Grind.{common_steps}
use Rattle.svr_lex.proofs.Laws.{start, gap_step, gap_place, lexeme_step, lexeme_place, whole_tokens, tokens_one, tokens_no_fault, first_fault, fault_answer, only_this}
use Rattle.svr_lex.proofs.Spelled.{spelled_all}
use Rattle.svr_lex.specs.Lexing.{IsLexicalFaultOf}
use Rattle.svr_lex.specs.declared.fault.LexFault.{LexFault}
use Rattle.svr_lex.proofs.lexer.lex.Goals as goal

pub pieces-init : goal.pieces-init
pieces-init c = record { front = start _ _ c.new-tokens.ensures.items; place = omega arith; few = rw c.new-tokens.ensures.items (omega arith); small = c.requires }

pub pieces-preserved-in-Gap : goal.pieces-preserved-in-Gap
pieces-preserved-in-Gap c = record {
  front = gap_step _ _ _ _ _ _ c.pieces.invariant.front c.in-Gap.ensures;
  place = (gap_place _ _ _ _ _ c.pieces.invariant.place c.in-Gap.ensures.1).0;
  few = (let before = c.pieces.invariant.few in omega arith);
  small = c.requires;
}

pub pieces-preserved : goal.pieces-preserved
pieces-preserved c = record {
  front = lexeme_step _ _ _ _ _ _ _ _ _ c.pieces.invariant.front c.in-Lexeme.ensures (record { kind = refl; start = refl; stop = refl }) (grind (arith, common_steps));
  place = (lexeme_place _ _ _ _ _ _ c.pieces.invariant.place c.in-Lexeme.ensures.1).0;
  few = (let place = lexeme_place _ _ _ _ _ _ c.pieces.invariant.place c.in-Lexeme.ensures.1 in let before = c.pieces.invariant.few in grind (arith, common_steps));
  small = c.requires;
}

pub pieces-smaller-in-Gap : goal.pieces-smaller-in-Gap
pieces-smaller-in-Gap c = (gap_place _ _ _ _ _ c.pieces.invariant.place c.in-Gap.ensures.1).1

pub pieces-smaller : goal.pieces-smaller
pieces-smaller c = (lexeme_place _ _ _ _ _ _ c.pieces.invariant.place c.in-Lexeme.ensures.1).1

pub returns-in-End-clause-tokens : goal.returns-in-End-clause-tokens
returns-in-End-clause-tokens c = whole_tokens _ _ _ _ c.pieces.invariant.front c.pieces.invariant.place c.in-End.ensures

pub returns-in-End-clause-few : goal.returns-in-End-clause-few
returns-in-End-clause-few c = (let few = c.pieces.invariant.few in let place = c.pieces.invariant.place in omega arith)

pub returns-in-Fault-clause-fault : goal.returns-in-Fault-clause-fault
returns-in-Fault-clause-fault c =
    subst (λ (e : LexFault). IsLexicalFaultOf c.args.text.now e) (sym c.at.ensures) (fault_answer _ _ _ (first_fault _ _ _ _ _ c.pieces.invariant.front c.in-Fault.ensures))

pub returns-in-End-clause-only_tokens : goal.returns-in-End-clause-only_tokens
returns-in-End-clause-only_tokens c = λ ts others. tokens_one _ _ ts (whole_tokens _ _ _ _ c.pieces.invariant.front c.pieces.invariant.place c.in-End.ensures) others

pub returns-in-End-clause-only_fault : goal.returns-in-End-clause-only_fault
returns-in-End-clause-only_fault c = λ f at fault. tokens_no_fault _ _ f at (whole_tokens _ _ _ _ c.pieces.invariant.front c.pieces.invariant.place c.in-End.ensures) fault

pub returns-in-Fault-clause-only_tokens : goal.returns-in-Fault-clause-only_tokens
returns-in-Fault-clause-only_tokens c = λ ts others. absurd (tokens_no_fault _ ts _ _ others (first_fault _ _ _ _ _ c.pieces.invariant.front c.in-Fault.ensures))

pub returns-in-Fault-clause-only_fault : goal.returns-in-Fault-clause-only_fault
returns-in-Fault-clause-only_fault c = λ f at fault. only_this _ _ f _ at _ c.at.ensures (first_fault _ _ _ _ _ c.pieces.invariant.front c.in-Fault.ensures) fault

pub returns-in-End-clause-spelled : goal.returns-in-End-clause-spelled
returns-in-End-clause-spelled c =
    spelled_all (whole_tokens _ _ _ _ c.pieces.invariant.front c.pieces.invariant.place c.in-End.ensures) c.args.text.now refl (omega arith)
