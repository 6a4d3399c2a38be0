use Rattle.std.proofs.Common.{◌≡◌, [], sym, ap, ◌∙◌, subst}
use Rattle.svr_chain.specs.Clauses.{has}
use Rattle.svr_lrat_judge.specs.Marks.{AreMarked}
use Rattle.svr_lrat_judge.proofs.MarkLemmas.{marked-none}
use Rattle.svr_lrat_judge.proofs.known.Known.clear.Goals as goal

pub unmark-requires : goal.unmark-requires
unmark-requires c = λ x t. ap (λ z. has z x) c.as_slice.ensures.value ∙ sym (c.self.invariant x) ∙ t

pub invariant_of-self : goal.invariant_of-self
invariant_of-self c =
    let e : c.clear.new.self.items ≡ [] = c.clear.ensures.items in
    subst (AreMarked c.unmark.new.marks.items) (sym e) (marked-none c.unmark.new.marks.items c.unmark.ensures)
