use Rattle.std.proofs.Common.{map, reverse}
use Rattle.std.proofs.lemmas.Option.{slice_get_past}
use Rattle.svr_elab_names.specs.Tables.{bytes_of}
use Rattle.svr_elab_target.proofs.Fitting.{got_at}
use Rattle.svr_elab_target.proofs.Chains.{told, none_in_front, some_in_front}
use Rattle.svr_elab_target.proofs.chain.with_class.Goals as goal

pub returns-in-None : goal.returns-in-None
returns-in-None c =
    none_in_front c.args.classes.now c.args.class (reverse (map bytes_of c.args.names.keys)) (slice_get_past c.args.classes.now c.args.class c.in-None.ensures.lookup.3)

pub returns-in-Some : goal.returns-in-Some
returns-in-Some c =
    let cs = c.args.classes.now in
    let own = c.in-Some.own.now in
    let t = reverse (map bytes_of c.args.names.keys) in
    told c.with_names.result c.with_names.ensures
    (λ s is.
    some_in_front cs c.args.class own c.as_slice.result.now t (reverse (map bytes_of s.keys)) (got_at cs c.args.class own c.in-Some.ensures.lookup.3.0 c.in-Some.ensures.lookup.1) c.as_slice.ensures.keys c.as_slice.ensures.unique is)
