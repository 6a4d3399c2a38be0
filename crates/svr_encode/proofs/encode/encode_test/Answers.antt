use Rattle.std.proofs.Common.{[], ap, sym, ◌∙◌}
use Rattle.std.proofs.lemmas.Result.{IfOk-weaker}
use Rattle.svr_chain.specs.declared.clause.Lit.{Lit}
use Rattle.svr_gate.specs.Numbers.{number}
use Rattle.svr_gate.specs.Circuit.{Tells}
use Rattle.svr_gate.proofs.Circuits.{later, Tells-same}
use Rattle.svr_typed.specs.ExprTerm.{expr_term}
use Rattle.svr_eval.specs.Value.{alone, is_set, size_of, val}
use Rattle.svr_inputs.specs.Inputs.{read_at}
use Rattle.svr_encode.proofs.TreeLemmas.{own_width, own_signed}
use Rattle.svr_encode.proofs.encode.encode_test.Goals as goal

pub returns-clause-extends : goal.returns-clause-extends
returns-clause-extends c = search later

pub returns-clause-value : goal.returns-clause-value
returns-clause-value c =
    IfOk-weaker c.test.result (λ (l : Lit). Tells c.test.new.b l (λ a. is_set (number a c.deref.result.now))) _
    (λ l h. Tells-same (λ v. is_set (alone (read_at c.args.inputs.now v) [] (expr_term c.args.e.now))) h
    (λ v m. ap is_set
    (ap (number v) c.deref.ensures.value
    ∙ c.in_ok-value.ensures.value.value v (c.test.ensures.extends.keeps v m)
    ∙ ap (λ env. val (read_at c.args.inputs.now v) env (expr_term c.args.e.now) c.args.e.now.width c.args.e.now.signed) c.new.ensures
    ∙ ap (λ w. val (read_at c.args.inputs.now v) [] (expr_term c.args.e.now) w c.args.e.now.signed) (sym (own_width c.args.e.now c.requires.typed))
    ∙ ap (val (read_at c.args.inputs.now v) [] (expr_term c.args.e.now) (size_of (expr_term c.args.e.now))) (sym (own_signed c.args.e.now c.requires.typed)))))
    c.test.ensures.value
