use Rattle.std.proofs.Common.{◌≡◌, ◌∙◌, ℕ, ◌+◌, ◌<◌, ◌++◌, ◌∷◌, [], true, length, ap, sym, arith, set, get_or}
use Rattle.svr_arena.specs.Layout.{Layout, names, is_in, watched, with_front}
use Rattle.svr_arena.specs.Arena.{body}
use Rattle.svr_watch.specs.declared.store.Held.TheVariants.{Watched}
use Rattle.svr_watch.specs.StoreFields.{store_view}
use Rattle.svr_watch.proofs.Adding.{roomier-store, store-more, store-added, added-lists, in-old, in-new, table-named, table-numbered, table-positive, listed-watched}
use Rattle.svr_watch.proofs.store.Store.add.Goals as goal

pub invariant_of-self-in_err-grow : goal.invariant_of-self-in_err-grow
invariant_of-self-in_err-grow c =
    let v = c.self.invariant in
    let g = c.grow.ensures in
    let e : c.reserve.new.self.items ≡ c.self.inside.held.items = c.reserve.ensures.items in
    record {
      kept = rw e v.kept;
      even = v.even;
      named = λ d i. g.kept d (v.named d i);
      numbered = λ d i. let q = g.same d (v.named d i) in rw (e, q) (v.numbered d i);
      positive = λ d i. let q = g.same d (v.named d i) in rw q (v.positive d i);
      listed = rw e v.listed;
    }

pub invariant_of-self-in_err-reserve-2 : goal.invariant_of-self-in_err-reserve-2
invariant_of-self-in_err-reserve-2 c =
    let v = c.self.invariant in
    let g = c.grow.ensures in
    let s = store_view c.self.inside in
    let b : Layout = c.reserve-2.new.self in
    let e : c.reserve.new.self.items ≡ c.self.inside.held.items = c.reserve.ensures.items in
    let r : b ≡ record { codes = s.arena.codes; words = s.arena.words; spare = b.spare } = c.reserve-2.ensures.same in
    let n : names b ≡ names s.arena = ap names r in
    let k : b.codes ≡ s.arena.codes = ap (λ (z : Layout). z.codes) r in
    let back : (d : ℕ) → is_in d (names b) ≡ true → is_in d (names s.arena) ≡ true = λ d i. ap (is_in d) (sym n) ∙ i in
    record {
      kept = rw e (roomier-store s b r v.kept);
      even = (v.even.0, k ∙ v.even.1);
      named = λ d i. g.kept d (v.named d (back d i));
      numbered = λ d i. let q = g.same d (v.named d (back d i)) in rw (e, q) (v.numbered d (back d i));
      positive = λ d i. let q = g.same d (v.named d (back d i)) in rw q (v.positive d (back d i));
      listed = rw e v.listed;
    }

pub invariant_of-self-2 : goal.invariant_of-self-2
invariant_of-self-2 c =
    let v = c.self.invariant in
    let g = c.grow.ensures in
    let s = store_view c.self.inside in
    let xs = c.args.codes.now in
    let cl : ℕ = c.add-clause.result in
    let a : Layout = c.reserve-2.new.self in
    let m : Layout = c.add-clause.new.self in
    let b : Layout = c.attach.new.self in
    let p = c.add-clause.ensures in
    let q = c.attach.ensures in
    let hs : c.push_reserved.new.self.items ≡ s.held ++ Watched cl ∷ [] = c.push_reserved.ensures.items ∙ ap (λ z. z ++ Watched cl ∷ []) c.reserve.ensures.items in
    let r : a ≡ record { codes = s.arena.codes; words = s.arena.words; spare = a.spare } = c.reserve-2.ensures.same in
    let na : names a ≡ names s.arena = ap names r in
    let ka : a.codes ≡ s.arena.codes = ap (λ (z : Layout). z.codes) r in
    let nb : names b ≡ names s.arena ++ cl ∷ [] = q.names ∙ (p.names ∙ ap (λ z. z ++ cl ∷ []) na) in
    let kb : b.codes ≡ s.arena.codes = q.codes ∙ (p.codes ∙ ka) in
    let to : (d : ℕ) → is_in d (names s.arena) ≡ true → is_in d (names a) ≡ true = λ d i. ap (is_in d) na ∙ i in
    let tm : (d : ℕ) → is_in d (names a) ≡ true → is_in d (names m) ≡ true = λ d i. ap (is_in d) p.names ∙ in-old (names a) cl d i in
    let im : is_in cl (names m) ≡ true = ap (is_in cl) p.names ∙ in-new (names a) cl in
    let lb : body b cl ≡ xs = q.lits cl im ∙ p.lits in
    let ob : (d : ℕ) → is_in d (names s.arena) ≡ true → body b d ≡ body s.arena d
    = λ d i. q.lits d (tm d (to d i)) ∙ (p.others d (to d i) ∙ ap (λ z. body z d) r) in
    let ls : (k : ℕ) → k < s.arena.codes → watched b k ≡ with_front (get_or xs 1 0) cl (with_front (get_or xs 0 0) cl (watched s.arena)) k
    = added-lists s.arena a m b cl xs r p.codes p.lits p.lists q.lists in
    let l : c.len.result ≡ length s.held = c.len.ensures ∙ c.self.inside.held.ok.0 in
    let f : c.next_name-name.result ≡ cl = c.next_name-name.ensures ∙ (ap (λ (z : Layout). length z.words) (sym r) ∙ sym p.next) in
    let ns = c.grow.new.numbers.items in
    let os = c.self.inside.numbers.items in
    let t : set ns c.next_name-name.result (c.len.result + 1) ≡ set ns cl (length s.held + 1) = ap (λ z. set ns z (c.len.result + 1)) f ∙ ap (λ z. set ns cl (z + 1)) l in
    let rm : cl < length ns = let z = c.in_ok-grow.ensures.place in omega (arith, f, z) in
    let fr : (d : ℕ) → is_in d (names s.arena) ≡ true → d < cl = λ d i. p.fresh d (to d i) in
    record {
      kept = rw hs (store-more s v.kept b cl xs c.codes.ensures.known kb nb lb ob ls);
      even = (v.even.0, kb ∙ v.even.1);
      named = λ d i. rw t (table-named s.held (names s.arena) os ns cl g.kept g.same rm fr v.named v.numbered v.positive d (ap (is_in d) (sym nb) ∙ i));
      numbered = λ d i. rw (hs, t) (table-numbered s.held (names s.arena) os ns cl g.kept g.same rm fr v.named v.numbered v.positive d (ap (is_in d) (sym nb) ∙ i));
      positive = λ d i. rw t (table-positive s.held (names s.arena) os ns cl g.kept g.same rm fr v.named v.numbered v.positive d (ap (is_in d) (sym nb) ∙ i));
      listed = rw hs (listed-watched s.held c.self.inside.apart.items cl v.listed);
    }

pub returns-clause-added : goal.returns-clause-added
returns-clause-added c =
    let v = c.self.invariant in
    let g = c.grow.ensures in
    let s = store_view c.self.inside in
    let xs = c.args.codes.now in
    let cl : ℕ = c.add-clause.result in
    let a : Layout = c.reserve-2.new.self in
    let m : Layout = c.add-clause.new.self in
    let b : Layout = c.attach.new.self in
    let p = c.add-clause.ensures in
    let q = c.attach.ensures in
    let hs : c.push_reserved.new.self.items ≡ s.held ++ Watched cl ∷ [] = c.push_reserved.ensures.items ∙ ap (λ z. z ++ Watched cl ∷ []) c.reserve.ensures.items in
    let r : a ≡ record { codes = s.arena.codes; words = s.arena.words; spare = a.spare } = c.reserve-2.ensures.same in
    let na : names a ≡ names s.arena = ap names r in
    let ka : a.codes ≡ s.arena.codes = ap (λ (z : Layout). z.codes) r in
    let nb : names b ≡ names s.arena ++ cl ∷ [] = q.names ∙ (p.names ∙ ap (λ z. z ++ cl ∷ []) na) in
    let kb : b.codes ≡ s.arena.codes = q.codes ∙ (p.codes ∙ ka) in
    let to : (d : ℕ) → is_in d (names s.arena) ≡ true → is_in d (names a) ≡ true = λ d i. ap (is_in d) na ∙ i in
    let tm : (d : ℕ) → is_in d (names a) ≡ true → is_in d (names m) ≡ true = λ d i. ap (is_in d) p.names ∙ in-old (names a) cl d i in
    let im : is_in cl (names m) ≡ true = ap (is_in cl) p.names ∙ in-new (names a) cl in
    let lb : body b cl ≡ xs = q.lits cl im ∙ p.lits in
    let ob : (d : ℕ) → is_in d (names s.arena) ≡ true → body b d ≡ body s.arena d
    = λ d i. q.lits d (tm d (to d i)) ∙ (p.others d (to d i) ∙ ap (λ z. body z d) r) in
    let ls : (k : ℕ) → k < s.arena.codes → watched b k ≡ with_front (get_or xs 1 0) cl (with_front (get_or xs 0 0) cl (watched s.arena)) k
    = added-lists s.arena a m b cl xs r p.codes p.lits p.lists q.lists in
    rw (hs, ← c.self.view_is) (store-added s v.kept b cl xs c.codes.ensures.known kb nb lb ob ls)
