use Rattle.std.proofs.Common.{◌≡◌, ◌∙◌, ℕ, ◌*◌, ◌++◌, ◌∷◌, [], List, Option, map, get_or, ap, sym, arith}
use Rattle.std.specs.Prelude.{IfSome, IfNone}
use Rattle.std.specs.Vec.{with_items}
use Rattle.std.proofs.lemmas.List.{with_items_is}
use Rattle.svr_chain.specs.declared.clause.Lit.{Lit}
use Rattle.svr_chain.proofs.Same.{same-self, same-push}
use Rattle.svr_trail.specs.Trail.{IsUnit}
use Rattle.svr_watch.specs.Codes.{lit_of}
use Rattle.svr_watch.specs.Store.{StoreView, IsAdded, IsRoomier, clauses_of}
use Rattle.svr_watch.specs.Watch.{IsReady, after_force}
use Rattle.svr_cdcl.specs.Fields.{search_view}
use Rattle.svr_watch.proofs.Adding.{clauses-added}
use Rattle.svr_cdcl.proofs.Learnt.{Joins, Ranked, learned-grown, learned-search, next-number, ranked}
use Rattle.svr_watch.proofs.Learned.{some-within, force-is, unit-same, roomier-watched, added-watched}
use Rattle.svr_cdcl.proofs.search.Search.learn_watched.Goals as goal

pub forced_watched-forced-requires-clause-apart : goal.forced_watched-forced-requires-clause-apart
forced_watched-forced-requires-clause-apart c =
    let s = search_view c.self.inside in
    let xs : List ℕ = c.rank.new.codes in
    let r : Ranked s c.args.codes.items xs
    = ranked s c.args.codes.items c.as_mut_slice.result.now xs c.as_mut_slice.ensures.value c.rank.ensures.lits c.rank.ensures.same (rw (← c.self.view_is) at c.requires.codes) (rw (← c.self.view_is) at c.requires.fits) in
    let m : (with_items c.args.codes xs).items ≡ xs = with_items_is c.args.codes xs (c.rank.auto.codes ∙ c.as_mut_slice.ensures.len) in
    let e : c.as_slice.result.now ≡ xs = c.as_slice.ensures.value ∙ m in
    let two = r.lits.two in
    rw e (r.lits.apart 0 1 (omega arith) (omega arith))

pub add-requires : goal.add-requires
add-requires c =
    let s = search_view c.self.inside in
    let xs : List ℕ = c.rank.new.codes in
    let r : Ranked s c.args.codes.items xs
    = ranked s c.args.codes.items c.as_mut_slice.result.now xs c.as_mut_slice.ensures.value c.rank.ensures.lits c.rank.ensures.same (rw (← c.self.view_is) at c.requires.codes) (rw (← c.self.view_is) at c.requires.fits) in
    let m : (with_items c.args.codes xs).items ≡ xs = with_items_is c.args.codes xs (c.rank.auto.codes ∙ c.as_mut_slice.ensures.len) in
    let e : c.as_slice-2.result.now ≡ xs = c.as_slice-2.ensures.value ∙ m in
    rw (e, c.self.invariant.codes) r.lits

pub invariant_of-self : goal.invariant_of-self
invariant_of-self c =
    let a = c.self.inside in
    let v = c.self.invariant in
    let r : IsRoomier a.store c.add.new.self = c.in_err-add.ensures.err in
    record {
      kept = rw r v.kept;
      watched = roomier-watched a.store c.add.new.self a.trail.entries a.ends.items a.heads.items a.head a.seen r v.watched;
      codes = ap (λ (z : StoreView). z.arena.codes) r ∙ v.codes;
      room = v.room;
      heads_room = v.heads_room;
      marks = v.marks;
    }

pub put_forced-requires-clause-within : goal.put_forced-requires-clause-within
put_forced-requires-clause-within c =
    let s = search_view c.self.inside in
    let xs : List ℕ = c.rank.new.codes in
    let r : Ranked s c.args.codes.items xs
    = ranked s c.args.codes.items c.as_mut_slice.result.now xs c.as_mut_slice.ensures.value c.rank.ensures.lits c.rank.ensures.same (rw (← c.self.view_is) at c.requires.codes) (rw (← c.self.view_is) at c.requires.fits) in
    let m : (with_items c.args.codes xs).items ≡ xs = with_items_is c.args.codes xs (c.rank.auto.codes ∙ c.as_mut_slice.ensures.len) in
    let e : c.as_slice.result.now ≡ xs = c.as_slice.ensures.value ∙ m in
    let some : IfSome c.forced_watched-forced.result (IsUnit s.entries (map lit_of xs)) = rw e at c.forced_watched-forced.ensures.some in
    some-within s.vars s.entries (map lit_of xs) c.forced_watched-forced.result r.within some

pub invariant_of-self-2 : goal.invariant_of-self-2
invariant_of-self-2 c =
    let s = search_view c.self.inside in
    let xs : List ℕ = c.rank.new.codes in
    let r : Ranked s c.args.codes.items xs
    = ranked s c.args.codes.items c.as_mut_slice.result.now xs c.as_mut_slice.ensures.value c.rank.ensures.lits c.rank.ensures.same (rw (← c.self.view_is) at c.requires.codes) (rw (← c.self.view_is) at c.requires.fits) in
    let m : (with_items c.args.codes xs).items ≡ xs = with_items_is c.args.codes xs (c.rank.auto.codes ∙ c.as_mut_slice.ensures.len) in
    let n : ℕ = c.next_number-number.result in
    let o : Option Lit = c.forced_watched-forced.result in
    let e : c.as_slice.result.now ≡ xs = c.as_slice.ensures.value ∙ m in
    let f = c.forced_watched-forced.ensures in
    let t : Joins s (map lit_of xs) o n = record { number = next-number c.self.inside.store n c.next_number-number.ensures; within = r.within; quiet = r.quiet; some = rw e at f.some; none = rw e at f.none } in
    let a = c.self.inside in
    let v = c.self.invariant in
    let es = s.entries in
    let first : IfSome o (λ p. p ≡ lit_of (get_or xs 0 0)) = rw e at c.forced_watched-forced.ensures.first in
    let h : ℕ = c.head_with-self-inside.result in
    let ready : IsReady es xs h = rw (c.as_slice-3.ensures.value ∙ m) at c.head_with-self-inside.ensures.ready in
    let b : StoreView = c.add.new.self in
    let d : IsAdded a.store b c.in_ok-add.field-0 xs = rw (c.as_slice-2.ensures.value ∙ m) at c.in_ok-add.ensures.added in
    let k : clauses_of b ≡ s.clauses ++ map lit_of xs ∷ [] = clauses-added a.store b c.in_ok-add.field-0 xs c.vars.ensures.kept d in
    let p : c.put_forced.new.trail ≡ record { vars = s.vars; entries = after_force es o n } = c.put_forced.ensures in
    record {
      kept = rw (p, k) (learned-search s v.kept (map lit_of xs) o n t);
      watched = rw p (added-watched a.store b es a.ends.items a.heads.items a.head a.seen h (2 * s.vars) c.in_ok-add.field-0 xs o n v.watched d r.lits c.rank.ensures.ranked r.quiet
          c.head_with-self-inside.ensures.lower ready t.some t.none first);
      codes = rw p (d.codes ∙ v.codes);
      room = rw p v.room;
      heads_room = rw p v.heads_room;
      marks = rw p v.marks;
    }

pub returns-clause-clauses : goal.returns-clause-clauses
returns-clause-clauses c =
    let s = search_view c.self.inside in
    let xs : List ℕ = c.rank.new.codes in
    let r : Ranked s c.args.codes.items xs
    = ranked s c.args.codes.items c.as_mut_slice.result.now xs c.as_mut_slice.ensures.value c.rank.ensures.lits c.rank.ensures.same (rw (← c.self.view_is) at c.requires.codes) (rw (← c.self.view_is) at c.requires.fits) in
    let m : (with_items c.args.codes xs).items ≡ xs = with_items_is c.args.codes xs (c.rank.auto.codes ∙ c.as_mut_slice.ensures.len) in
    let b : StoreView = c.add.new.self in
    let d : IsAdded c.self.inside.store b c.in_ok-add.field-0 xs = rw (c.as_slice-2.ensures.value ∙ m) at c.in_ok-add.ensures.added in
    let k : clauses_of b ≡ s.clauses ++ map lit_of xs ∷ [] = clauses-added c.self.inside.store b c.in_ok-add.field-0 xs c.vars.ensures.kept d in
    rw (k, ← c.self.view_is) (same-push s.clauses s.clauses (map lit_of xs) (map lit_of c.args.codes.items) (same-self s.clauses) r.same)

pub returns-clause-forced : goal.returns-clause-forced
returns-clause-forced c = λ x h.
    let s = search_view c.self.inside in
    let xs : List ℕ = c.rank.new.codes in
    let r : Ranked s c.args.codes.items xs
    = ranked s c.args.codes.items c.as_mut_slice.result.now xs c.as_mut_slice.ensures.value c.rank.ensures.lits c.rank.ensures.same (rw (← c.self.view_is) at c.requires.codes) (rw (← c.self.view_is) at c.requires.fits) in
    let m : (with_items c.args.codes xs).items ≡ xs = with_items_is c.args.codes xs (c.rank.auto.codes ∙ c.as_mut_slice.ensures.len) in
    let n : ℕ = c.next_number-number.result in
    let o : Option Lit = c.forced_watched-forced.result in
    let e : c.as_slice.result.now ≡ xs = c.as_slice.ensures.value ∙ m in
    let some : IfSome o (IsUnit s.entries (map lit_of xs)) = rw e at c.forced_watched-forced.ensures.some in
    let none : IfNone o ((p : Lit) → IsUnit s.entries (map lit_of xs) p → ⊥) = rw e at c.forced_watched-forced.ensures.none in
    let p : c.put_forced.new.trail ≡ record { vars = s.vars; entries = after_force s.entries o n } = c.put_forced.ensures in
    let u : IsUnit s.entries (map lit_of c.args.codes.items) x = rw (← c.self.view_is) at h in
    rw (p, ← c.self.view_is) (force-is s.entries (map lit_of xs) o n some none x (unit-same s.entries (map lit_of c.args.codes.items) (map lit_of xs) x (λ z. sym (r.same z)) u))

pub returns-clause-grown : goal.returns-clause-grown
returns-clause-grown c =
    let s = search_view c.self.inside in
    let xs : List ℕ = c.rank.new.codes in
    let r : Ranked s c.args.codes.items xs
    = ranked s c.args.codes.items c.as_mut_slice.result.now xs c.as_mut_slice.ensures.value c.rank.ensures.lits c.rank.ensures.same (rw (← c.self.view_is) at c.requires.codes) (rw (← c.self.view_is) at c.requires.fits) in
    let m : (with_items c.args.codes xs).items ≡ xs = with_items_is c.args.codes xs (c.rank.auto.codes ∙ c.as_mut_slice.ensures.len) in
    let b : StoreView = c.add.new.self in
    let d : IsAdded c.self.inside.store b c.in_ok-add.field-0 xs = rw (c.as_slice-2.ensures.value ∙ m) at c.in_ok-add.ensures.added in
    let k : clauses_of b ≡ s.clauses ++ map lit_of xs ∷ [] = clauses-added c.self.inside.store b c.in_ok-add.field-0 xs c.vars.ensures.kept d in
    let n : ℕ = c.next_number-number.result in
    let o : Option Lit = c.forced_watched-forced.result in
    let e : c.as_slice.result.now ≡ xs = c.as_slice.ensures.value ∙ m in
    let f = c.forced_watched-forced.ensures in
    let t : Joins s (map lit_of xs) o n = record { number = next-number c.self.inside.store n c.next_number-number.ensures; within = r.within; quiet = r.quiet; some = rw e at f.some; none = rw e at f.none } in
    let p : c.put_forced.new.trail ≡ record { vars = s.vars; entries = after_force s.entries o n } = c.put_forced.ensures in
    rw (k, p, ← c.self.view_is) (learned-grown s c.self.invariant.kept (map lit_of xs) o n t)
