use Rattle.svr_expand.proofs.pairs.add_operands.Goals as goal

pub returns-then-is_array-clause-ready : goal.returns-then-is_array-clause-ready
returns-then-is_array-clause-ready c = λ a depth h k. c.in_ok-add_elements.ensures.ready a depth k
