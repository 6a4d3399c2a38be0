use Rattle.std.proofs.Common.{◌≡◌, ◌+◌, ap, ◌∙◌, length, arith, Vec, Global}
use Rattle.std.proofs.lemmas.Result.{IfOk-weaker}
use Rattle.svr_chain.specs.declared.clause.Lit.{Lit}
use Rattle.svr_gate.specs.Numbers.{number}
use Rattle.svr_gate.specs.Circuit.{GivesNumber}
use Rattle.svr_gate.proofs.Circuits.{later}
use Rattle.svr_gate.proofs.Vectors.{GivesNumber-same}
use Rattle.svr_num.specs.Num.{read_of}
use Rattle.svr_eval.specs.Value as spec
use Rattle.svr_vector.specs.Places.{rows, number_at}
use Rattle.svr_inputs.specs.Inputs.{read_at}
use Rattle.svr_inputs.proofs.ReadLemmas.{past_zero}
use Rattle.svr_inputs.proofs.ElementLemmas.{picks, picks_element}
use Rattle.svr_inputs.proofs.elements.some_element.Goals as goal

pub returns-clause-extends : goal.returns-clause-extends
returns-clause-extends c = search later

pub returns-clause-value : goal.returns-clause-value
returns-clause-value c =
    IfOk-weaker c.picked.result (λ (ls : Vec Lit Global). GivesNumber c.picked.new.b ls.items c.args.own (λ a. number_at a (rows c.deref.result.now) (read_of c.args.index_signed (length c.args.index.now) (number a c.args.index.now)))) _
    (λ ls g. GivesNumber-same (λ v. spec.element_at (read_at c.args.inputs.now v) c.args.prop (read_of c.args.index_signed (length c.args.index.now) (number v c.args.index.now))) g
    (λ a m.
    ap (λ vs. number_at a (rows vs) (read_of c.args.index_signed (length c.args.index.now) (number a c.args.index.now))) c.deref.ensures.value
    ∙ picks c.in_ok-all.ensures.value a (c.picked.ensures.extends.keeps a m) (read_of c.args.index_signed (length c.args.index.now) (number a c.args.index.now))
    ∙ picks_element (read_at c.args.inputs.now a) c.args.prop c.size.result (read_of c.args.index_signed (length c.args.index.now) (number a c.args.index.now))
    (λ k h. past_zero c.args.inputs.now a c.args.prop k c.requires.inputs (omega (arith, h, c.size.ensures)))))
    c.picked.ensures.value
