use Rattle.std.proofs.Common.{◌≡◌, ◌≤◌, List, length, subst, true, take}
use Rattle.std.proofs.lemmas.List.{take_all}
use Rattle.svr_chain.specs.declared.clause.Lit.{Lit}
use Rattle.svr_query.specs.Logged.{are_true}
use Rattle.svr_query.proofs.Fronts.{front-true}
use Rattle.svr_query.proofs.run.next_unseen.Goals as goal

pub returns-then-are_all-clause-next : goal.returns-then-are_all-clause-next
returns-then-are_all-clause-next c =
    let es = c.args.search.now.entries in
    let assume : List Lit = c.args.assume.now in
    let n = c.args.seen.now.lits in
    let o : length assume ≤ n = c.are_all.ensures c.if-are_all.true in
    subst (λ z. are_true es z ≡ true) (take_all n assume o) (front-true es c.args.seen.now.entries (take n assume) c.requires.within c.requires.so)

pub go_on-requires : goal.go_on-requires
go_on-requires c = front-true c.args.search.now.entries c.args.seen.now.entries (take c.args.seen.now.lits c.args.assume.now) c.requires.within c.requires.so
