use Rattle.std.proofs.Common.{◌≡◌, ◌∙◌, ℕ, ◌++◌, ◌∷◌, [], List, Option, ap}
use Rattle.std.specs.Prelude.{IfSome, IfNone}
use Rattle.svr_chain.specs.declared.clause.Lit.{Lit}
use Rattle.svr_chain.specs.Clauses.{AreWithin}
use Rattle.svr_chain.proofs.Same.{same-self}
use Rattle.svr_trail.specs.declared.Entry.{Entry}
use Rattle.svr_trail.specs.Trail.{IsUnit}
use Rattle.svr_watch.specs.declared.store.Held.TheVariants.{Apart}
use Rattle.svr_watch.specs.Store.{clauses_of}
use Rattle.svr_watch.specs.Watch.{after_force}
use Rattle.svr_cdcl.specs.Fields.{search_view}
use Rattle.svr_watch.proofs.Adding.{clauses-apart}
use Rattle.svr_cdcl.proofs.Learnt.{Joins, learned-grown, learned-search, next-number}
use Rattle.svr_watch.proofs.Learned.{some-within, force-is, apart-watched, force-front, force-long}
use Rattle.svr_cdcl.proofs.search.Search.learn_apart.Goals as goal

pub invariant_of-self : goal.invariant_of-self
invariant_of-self c =
    rw c.in_err-add_apart.ensures.err c.self.invariant

pub put_forced-requires-clause-within : goal.put_forced-requires-clause-within
put_forced-requires-clause-within c =
    let s = search_view c.self.inside in
    let ls : List Lit = c.args.lits in
    let w : AreWithin s.vars ls = rw (← c.self.view_is) at c.requires.within in
    let some : IfSome c.forced_apart-forced.result (IsUnit s.entries ls) = rw c.lits.ensures at c.forced_apart-forced.ensures.some in
    some-within s.vars s.entries ls c.forced_apart-forced.result w some

pub invariant_of-self-2 : goal.invariant_of-self-2
invariant_of-self-2 c =
    let a = c.self.inside in
    let s = search_view a in
    let v = c.self.invariant in
    let ls : List Lit = c.args.lits in
    let n : ℕ = c.next_number-number.result in
    let o : Option Lit = c.forced_apart-forced.result in
    let f = c.forced_apart-forced.ensures in
    let t : Joins s ls o n = record { number = next-number a.store n c.next_number-number.ensures; within = rw (← c.self.view_is) at c.requires.within; quiet = rw (← c.self.view_is) at c.requires.fits; some = rw c.lits.ensures at f.some; none = rw c.lits.ensures at f.none } in
    let es : List Entry = after_force s.entries o n in
    let h : c.add_apart.new.self ≡ record { arena = a.store.arena; held = a.store.held ++ Apart ls ∷ [] } = c.in_ok-add_apart.ensures.added in
    let k : clauses_of c.add_apart.new.self ≡ s.clauses ++ ls ∷ [] = ap clauses_of h ∙ clauses-apart a.store ls in
    let p : c.put_forced.new.trail ≡ record { vars = s.vars; entries = es } = c.put_forced.ensures in
    record {
      kept = rw (p, k) (learned-search s v.kept ls o n t);
      watched = rw (p, h) (apart-watched a.store ls s.entries es a.ends.items a.heads.items a.head a.seen (force-front s.entries o n) (force-long s.entries o n) v.watched);
      codes = rw (p, h) v.codes;
      room = rw p v.room;
      heads_room = rw p v.heads_room;
      marks = rw p v.marks;
    }

pub returns-clause-clauses : goal.returns-clause-clauses
returns-clause-clauses c =
    let a = c.self.inside in
    let ls : List Lit = c.args.lits in
    let k : clauses_of c.add_apart.new.self ≡ clauses_of a.store ++ ls ∷ [] = ap clauses_of c.in_ok-add_apart.ensures.added ∙ clauses-apart a.store ls in
    rw (k, ← c.self.view_is) (same-self (clauses_of a.store ++ ls ∷ []))

pub returns-clause-forced : goal.returns-clause-forced
returns-clause-forced c = λ x h.
    let s = search_view c.self.inside in
    let ls : List Lit = c.args.lits in
    let n : ℕ = c.next_number-number.result in
    let o : Option Lit = c.forced_apart-forced.result in
    let some : IfSome o (IsUnit s.entries ls) = rw c.lits.ensures at c.forced_apart-forced.ensures.some in
    let none : IfNone o ((p : Lit) → IsUnit s.entries ls p → ⊥) = rw c.lits.ensures at c.forced_apart-forced.ensures.none in
    let p : c.put_forced.new.trail ≡ record { vars = s.vars; entries = after_force s.entries o n } = c.put_forced.ensures in
    let u : IsUnit s.entries ls x = rw (← c.self.view_is) at h in
    rw (p, ← c.self.view_is) (force-is s.entries ls o n some none x u)

pub returns-clause-grown : goal.returns-clause-grown
returns-clause-grown c =
    let a = c.self.inside in
    let s = search_view a in
    let ls : List Lit = c.args.lits in
    let n : ℕ = c.next_number-number.result in
    let o : Option Lit = c.forced_apart-forced.result in
    let f = c.forced_apart-forced.ensures in
    let t : Joins s ls o n = record { number = next-number a.store n c.next_number-number.ensures; within = rw (← c.self.view_is) at c.requires.within; quiet = rw (← c.self.view_is) at c.requires.fits; some = rw c.lits.ensures at f.some; none = rw c.lits.ensures at f.none } in
    let k : clauses_of c.add_apart.new.self ≡ s.clauses ++ ls ∷ [] = ap clauses_of c.in_ok-add_apart.ensures.added ∙ clauses-apart a.store ls in
    let p : c.put_forced.new.trail ≡ record { vars = s.vars; entries = after_force s.entries o n } = c.put_forced.ensures in
    rw (k, p, ← c.self.view_is) (learned-grown s c.self.invariant.kept ls o n t)
