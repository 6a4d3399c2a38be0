use Rattle.std.proofs.Common.{◌≡◌, ◌++◌, drop}
use Rattle.std.specs.List.{flat_map}
use Rattle.svr_script.specs.ProofText.{link_text}
use Rattle.svr_stream.specs.Puts.{place}
use Rattle.svr_stream.proofs.Rows.{HasLeft}
use Rattle.svr_printed.proofs.proof.put_links.Given as goal

abbrev pub invariant-loop-link : goal.invariant-loop-link
invariant-loop-link g l = HasLeft (place (g.K.Sink.written l.initial.out) (g.K.Sink.faults l.initial.out) l.initial.text) (place (g.K.Sink.written l.out) (g.K.Sink.faults l.out) l.text)
    (flat_map link_text l.links) (flat_map link_text (drop l.link-index l.links))
