use Rattle.std.proofs.Common.{◌≡◌, [], ◌∷◌, ◌++◌, sym, subst}
use Rattle.svr_lrat_judge.specs.Marks.{AreMarked}
use Rattle.svr_lrat_judge.proofs.MarkLemmas.{same_marks, marked-push}
use Rattle.svr_lrat_judge.proofs.known.add.Goals as goal

pub returns-in_err-grow-clause-marked : goal.returns-in_err-grow-clause-marked
returns-in_err-grow-clause-marked c = same_marks c.args.marks.now.items c.grow.new.marks.items c.args.lits.now.items c.grow.ensures.same c.requires

pub returns-in_err-push-clause-marked : goal.returns-in_err-push-clause-marked
returns-in_err-push-clause-marked c =
    let e : c.push.new.self.items ≡ c.args.lits.now.items = c.in_err-push.ensures.items in
    subst (AreMarked c.grow.new.marks.items) (sym e) (same_marks c.args.marks.now.items c.grow.new.marks.items c.args.lits.now.items c.grow.ensures.same c.requires)

pub returns-clause-marked : goal.returns-clause-marked
returns-clause-marked c =
    let e : c.push.new.self.items ≡ c.args.lits.now.items ++ c.args.lit ∷ [] = c.in_ok-push.ensures.items in
    let m = same_marks c.args.marks.now.items c.grow.new.marks.items c.args.lits.now.items c.grow.ensures.same c.requires in
    subst (AreMarked c.set_mark.new.marks.items) (sym e)
    (subst (λ z. AreMarked z (c.args.lits.now.items ++ c.args.lit ∷ [])) (sym c.set_mark.ensures)
    (marked-push c.grow.new.marks.items c.args.lits.now.items c.args.lit c.in_ok-grow.ensures.long m))
