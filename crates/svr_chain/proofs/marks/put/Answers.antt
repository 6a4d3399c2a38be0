use Rattle.std.proofs.Common.{◌≡◌, ◌∙◌, length, sym, subst}
use Rattle.svr_chain.specs.Marks.{AreMarked, IsNoted}
use Rattle.svr_chain.proofs.MarkLemmas.{marked-put}
use Rattle.svr_chain.proofs.marks.put.Goals as goal

pub returns-in_err-push-clause-marked : goal.returns-in_err-push-clause-marked
returns-in_err-push-clause-marked c = subst (AreMarked c.args.places.now.items) (sym c.in_err-push.ensures.items) c.requires.marked

pub returns-clause-marked : goal.returns-clause-marked
returns-clause-marked c =
    let ls = c.args.lits.now.items in
    let n : c.len-place.result ≡ length ls = c.len-place.ensures ∙ c.args.lits.now.ok.0 in
    subst (AreMarked c.note.new.places.items) (sym c.in_ok-push.ensures.items)
    (marked-put c.args.places.now.items c.note.new.places.items ls c.args.lit c.requires.marked c.requires.new
    (subst (λ z. IsNoted c.args.places.now.items c.note.new.places.items c.args.lit z) n c.note.ensures))
