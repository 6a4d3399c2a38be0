use Rattle.std.proofs.Common.{◌≡◌, Ok, map, ap, ◌∙◌}
use Rattle.std.specs.Prelude.{slice_index}
use Rattle.std.proofs.lemmas.Result.{IfOk-at_ok}
use Rattle.svr_effect.specs.Objects.{numbers_in, size_in}
use Rattle.svr_effect.specs.Named.{mentioned}
use Rattle.svr_effect.proofs.Rows.{all_seen}
use Rattle.svr_effect.proofs.objects.seen.Goals as goal

pub returns : goal.returns
returns c =
    let w = c.args.world.now in
    let x = c.in_ok-values in
    let two : (c.sizes_at-sizes.result ≡ Ok x.sizes) × (c.variables_at-script.result ≡ Ok x.script) = rw x.ensures.1 at c.both.ensures in
    all_seen w (mentioned c.args.names.now) (record { values = x.values; sizes = x.sizes; script = x.script })
    (IfOk-at_ok (λ rows. rows ≡ map (numbers_in w) c.as_slice.result.now) x.ensures.0 c.numbers_at-values.ensures ∙ ap (map (numbers_in w)) c.as_slice.ensures.keys)
    (IfOk-at_ok (λ sizes. sizes ≡ map (size_in w) c.as_slice-2.result.now) two.0 c.sizes_at-sizes.ensures ∙ ap (map (size_in w)) c.as_slice-2.ensures.keys)
    (IfOk-at_ok (λ numbers. numbers ≡ map (slice_index c.script.result.now) c.as_slice-3.result.now) two.1 c.variables_at-script.ensures ∙ (λ k. map (slice_index (c.script.ensures k)) (c.as_slice-3.ensures.keys k)))
