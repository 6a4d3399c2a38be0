use Rattle.std.proofs.Common.{◌≡◌, List, ap, ◌∙◌, Vec, Global}
use Rattle.std.proofs.lemmas.Result.{IfOk-weaker}
use Rattle.svr_chain.specs.declared.clause.Lit.{Lit}
use Rattle.svr_frame.specs.Satisfaction.{is_at}
use Rattle.svr_vector.specs.Places.{rows}
use Rattle.svr_encoded.specs.Slots.{place_where}
use Rattle.svr_question.specs.Passed.{lits_at}
use Rattle.svr_question.proofs.Spellings.{lits_are}
use Rattle.svr_question.proofs.fixed.fixed_literals.Goals as goal

pub returns : goal.returns
returns c =
    let table = c.in_ok-table.table in
    let chosen = c.args.chosen.now in
    IfOk-weaker c.spell_all.result (λ (ls : Vec Lit Global). ls.items ≡ lits_at (rows c.as_slice-bits.result.now) table chosen) _
    (λ ls h.
    h
    ∙ ap (λ (vs : List (Vec Lit Global)). lits_at (rows vs) table chosen) c.as_slice-bits.ensures.value
    ∙ lits_are c.args.encoding.now table (λ p j. c.in_ok-table.ensures.numbers p j ∙ ap (place_where (is_at p j) 0) c.as_slice-slots.ensures.value) chosen)
    c.spell_all.ensures
