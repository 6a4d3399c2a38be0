use Rattle.std.proofs.Common.{Vec, Global, map}
use Rattle.std.proofs.lemmas.Result.{IfOk-weaker}
use Rattle.svr_typed.specs.ExprTerm.{expr_term}
use Rattle.svr_chain.specs.declared.clause.Lit.{Lit}
use Rattle.svr_frame.specs.Frame.{frame_term}
use Rattle.svr_inputs.specs.Inputs.{read_at}
use Rattle.svr_encoded.specs.Encodes.{TellItems}
use Rattle.svr_blast.proofs.QuestionLemmas.{are_inputs, all_served, tells}
use Rattle.svr_blast.proofs.question.roots_of.Goals as goal

pub encode_all-requires-clause-inputs : goal.encode_all-requires-clause-inputs
encode_all-requires-clause-inputs c =
    are_inputs c.args.inputs.now (frame_term c.args.frame.now) c.args.part c.args.slots.now c.args.size_bits c.requires.sound c.requires.fit c.requires.slots c.requires.state c.requires.numbers c.requires.sizes c.requires.bits c.requires.count

pub encode_all-requires-clause-ready : goal.encode_all-requires-clause-ready
encode_all-requires-clause-ready c =
    all_served c.args.inputs.now (frame_term c.args.frame.now) c.args.part c.args.slots.now c.args.size_bits c.requires.sound c.requires.fit c.requires.slots c.requires.state c.requires.numbers c.requires.sizes c.requires.bits
    c.requires.some_bits c.requires.few_bits c.args.items.now c.requires.typed c.requires.inside c.requires.readable c.requires.fixed

pub returns-clause-roots : goal.returns-clause-roots
returns-clause-roots c =
    IfOk-weaker c.encode_all.result (λ (ls : Vec Lit Global). TellItems c.encode_all.new.b.clauses ls.items (λ v. read_at c.args.inputs.now v) (map expr_term c.args.items.now)) _
    (λ ls h. tells c.args.inputs.now (frame_term c.args.frame.now) c.args.part c.args.slots.now c.args.size_bits c.requires.sound c.requires.fit c.requires.slots c.requires.state c.requires.numbers c.requires.sizes c.requires.bits
    c.encode_all.new.b.clauses ls.items (map expr_term c.args.items.now) h)
    c.encode_all.ensures.roots
