use Rattle.std.proofs.Common.{◌≡◌, ◌∙◌, ◌-◌, ℕ, min, length, ap, sym, refl, inl, inr, arith, length-take}
use Rattle.std.proofs.lemmas.Bool.{eqb-true}
use Rattle.svr_edge.proofs.Room.{is_full, is_empty_piece, takes, not_both}
use Rattle.svr_edge.proofs.memory.MemSinkSink.write_piece.Goals as goal
use Rattle.svr_edge.proofs.memory.MemSinkSink.write_piece.Goals.{then-count-eq0, else-count-eq0, then-full-via-then-full, then-full-via-else-full+then-is_to_fail, then-full-via-else-full+else-is_to_fail+then-is_err}

pub returns-clause-fails : goal.returns-clause-fails
returns-clause-fails c =
    let size = length c.args.bytes.now in
    let sink = c.self.inside in
    let held = length sink.bytes.items in
    let is : c.min-count.result ≡ min size (sink.room - held) = c.min-count.ensures ∙ ap (λ n. min size (sink.room - n)) (c.len.ensures ∙ sink.bytes.ok.0) in
    let told = rw (c.deref.ensures.value, c.saturating_add-self-inside.ensures) at c.is_to_fail.ensures in
    let empty : c.min-count.result ≡ 0 → size ≡ 0 = elim c.if-count-eq0.branch [
      | then-count-eq0 w ↦ λ _. is_empty_piece c.if-count-eq0.full w.is_empty.result size w.full-is c.if-full.false w.is_empty.ensures
      | else-count-eq0 w ↦ λ none. absurd (w.if-count-eq0.false none)
    ] in
    rw (← c.self.view_is) (takes c.is_to_fail.result _ size sink.room held c.min-count.result told c.if-is_to_fail.false is empty)

pub returns-then-full-clause-fails : goal.returns-then-full-clause-fails
returns-then-full-clause-fails c =
    let size = length c.args.bytes.now in
    let sink = c.self.inside in
    let held = length sink.bytes.items in
    let is : c.min-count.result ≡ min size (sink.room - held) = c.min-count.ensures ∙ ap (λ n. min size (sink.room - n)) (c.len.ensures ∙ sink.bytes.ok.0) in
    rw (← c.self.view_is) (
      λ _. elim c.then-full.branch [
        | then-full-via-then-full w ↦ inr (elim c.if-count-eq0.branch [
          | then-count-eq0 v ↦ is_full c.if-count-eq0.full v.is_empty.result size sink.room held c.min-count.result is v.if-count-eq0.true v.full-is w.if-full.true v.is_empty.ensures
          | else-count-eq0 v ↦ absurd (v.if-count-eq0.false (eqb-true c.min-count.result 0 (sym v.full-is ∙ w.if-full.true)))
        ])
        | then-full-via-else-full+then-is_to_fail w ↦
            inl ((rw (w.deref.ensures.value, c.saturating_add-self-inside.ensures) at w.is_to_fail.ensures).0 w.if-is_to_fail.true)
        | then-full-via-else-full+else-is_to_fail+then-is_err w ↦
            absurd (not_both w.extend_from_slice.result
            (w.extend_from_slice.ensures.succeeds (omega (arith, is, c.self.invariant, length-take {A = ℕ})))
            w.if-is_err.ensures.value)
      ],
      λ _. refl,
    )
