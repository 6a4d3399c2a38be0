use Rattle.std.proofs.Common.{Option, length, refl, sym, ap, subst}
use Rattle.std.proofs.lemmas.Option.{slice_get_read, slice_get_past}
use Rattle.svr_encoded.specs.declared.encoded.Encoded.{Encoded}
use Rattle.svr_frame.specs.Frame.{frame_term}
use Rattle.svr_script.specs.Derived.{derived_over}
use Rattle.svr_stream.proofs.Putting.{puts_none, puts_as}
use Rattle.svr_derived.specs.Shown.{IsShownOver}
use Rattle.svr_derived.proofs.derivation.put_derivation.Goals as goal

pub put_derivation_over-requires : goal.put_derivation_over-requires
put_derivation_over-requires g c =
    subst (λ (e : Option Encoded). IsShownOver e c.args.proof.now)
    (slice_get_read c.args.encodings.now (length c.args.encodings.now) c.args.proof.now.encoding c.in-Some.encoding.now refl c.in-Some.ensures.lookup.3.0 c.in-Some.ensures.lookup.1) c.requires

pub returns-in-None-clause-whole : goal.returns-in-None-clause-whole
returns-in-None-clause-whole g c =
    puts_as puts_none
    (ap (λ (e : Option Encoded). derived_over (frame_term c.args.frame.now) e c.args.proof.now)
    (sym (slice_get_past c.args.encodings.now c.args.proof.now.encoding c.in-None.ensures.lookup.3)))
