use Rattle.std.proofs.Common.{◌≡◌, Some}
use Rattle.std.specs.List.{All}
use Rattle.std.proofs.lemmas.Option.{IfSome_then}
use Rattle.svr_chain.specs.Log.{named}
use Rattle.svr_watch.specs.Store.{IsPassedBy, clauses_of, lits_of}
use Rattle.svr_watch.specs.StoreFields.{store_view}
use Rattle.svr_watch.proofs.Parts.{none-then, no-part, part-named}
use Rattle.svr_watch.proofs.store.Store.find_part.Goals as goal

pub number-requires : goal.number-requires
number-requires c = rw (← c.self.view_is) c.in-Some.ensures.some.0

pub returns-in-Some-clause-some : goal.returns-in-Some-clause-some
returns-in-Some-clause-some c =
    let s = store_view c.self.inside in
    let n : named (clauses_of s) c.number.result ≡ Some (lits_of s.arena c.in-Some.clause) = rw (← c.self.view_is) at c.number.ensures in
    rw (← c.self.view_is) (lits_of s.arena c.in-Some.clause, n, c.in-Some.ensures.some.1)

pub returns-in-None-clause-some : goal.returns-in-None-clause-some
returns-in-None-clause-some c =
    let s = store_view c.self.inside in
    let f = rw c.as_slice.ensures.value at c.apart_part.ensures.some in
    rw (← c.self.view_is) (IfSome_then c.apart_part.result f (part-named s c.args.lits.now))

pub returns-in-None-clause-none : goal.returns-in-None-clause-none
returns-in-None-clause-none c =
    let s = store_view c.self.inside in
    let lits = c.args.lits.now in
    let w : All (IsPassedBy s.arena lits) lits = c.in-None.ensures.none in
    let f = rw (c.as_slice.ensures.value, c.as_slice-in-None.ensures.value) at c.apart_part.ensures.none in
    rw (← c.self.view_is) (none-then c.apart_part.result (no-part s c.self.invariant.kept lits w c.self.inside.apart.items c.self.invariant.listed) f)
