use Rattle.std.proofs.Common.{◌≡◌, ◌∙◌, ◌+◌, ◌<◌, ◌≤◌, ◌∷◌, ◌++◌, [], List, length, take, get_or, set, false, ap, sym, arith}
use Rattle.std.proofs.lemmas.List.{length_push}
use Rattle.svr_chain.specs.declared.clause.Lit.{Lit}
use Rattle.svr_gate.specs.Keys.{places_of}
use Rattle.svr_gate.specs.Answers.{open_inputs}
use Rattle.svr_gate.proofs.OpenLemmas.{open_taken, open_left, places_more, none_from, some_from}
use Rattle.svr_gate.proofs.known.open_inputs.Goals as goal
use Rattle.svr_gate.proofs.known.open_inputs.Goals.{then-is_none, else-is_none}

pub loop-lit-preserved : goal.loop-lit-preserved
loop-lit-preserved c =
    let one = c.args.one in
    let ins = c.args.ins.now in
    let i = c.loop-lit.lit-index in
    let d : Lit = record { var = 0; neg = false } in
    let l : Lit = get_or ins i d in
    let done = open_inputs one (take i ins) in
    let lt : i < length ins = c.loop-lit-test.true in
    elim c.if-is_none.branch [
      | then-is_none w ↦
          let next = open_taken one ins i d lt (sym c.known_of.ensures ∙ none_from c.known_of.result w.if-is_none.ensures) in
          let room : length done < 4 = omega (arith, c.loop-lit.invariant.count, c.loop-lit.invariant.few) in
          record {
            count = w.count-is ∙ ap (λ n. n + 1) c.loop-lit.invariant.count ∙ sym (ap length next ∙ length_push done l);
            places = w.places-is
                ∙ ap (λ (ps : List Lit). set ps c.loop-lit.count l) c.loop-lit.invariant.places
                ∙ ap (λ n. set (places_of done) n l) c.loop-lit.invariant.count
                ∙ places_more done l room
                ∙ ap places_of (sym next);
            few = omega (arith, w.count-is, c.loop-lit.invariant.few);
          }
      | else-is_none w ↦
          let some = some_from c.known_of.result w.if-is_none.ensures in
          let next = open_left one ins i d some.0 lt (sym c.known_of.ensures ∙ some.1) in
          record {
            count = w.count-is ∙ c.loop-lit.invariant.count ∙ ap length (sym next);
            places = w.places-is ∙ c.loop-lit.invariant.places ∙ ap places_of (sym next);
            few = omega (arith, w.count-is, c.loop-lit.invariant.few);
          }
    ]
