use Rattle.std.proofs.Common.{ℕ, length, map, ap, ◌∙◌}
use Rattle.rand_pcg.specs.Lcg.{Lcg}
use Rattle.svr_eval.specs.Reading.{Reading}
use Rattle.svr_frame.specs.declared.slot.Slot.TheVariants.{Scalar}
use Rattle.svr_frame.specs.Frame.{frame_term}
use Rattle.svr_draw.specs.Words.{generator, word_of}
use Rattle.svr_draw.specs.Preferred.{preferred_of, reading_with}
use Rattle.svr_draw.proofs.Stream.{word_later}
use Rattle.svr_values.proofs.wishes.wanted_in.Goals as goal

pub returns : goal.returns
returns c =
    let f = frame_term c.args.frame.now in
    let g = generator c.args.opts.seed c.args.number in
    c.in_ok-values.ensures
    ∙ ap (λ (r : Reading). reading_with r (map (λ (x : ℕ × ℕ). (Scalar x.0, x.1)) c.args.chosen.now))
    (c.in_ok-drawn.ensures
    ∙ ap (λ (d : Lcg). preferred_of f c.args.part c.args.sizes.now c.args.opts.size_cap (word_of d)) c.words_behind-draws.ensures
    ∙ ap (λ (words : ℕ → ℕ). preferred_of f c.args.part c.args.sizes.now c.args.opts.size_cap words) (λ i k. word_later (length c.args.chosen.now) g k i))
