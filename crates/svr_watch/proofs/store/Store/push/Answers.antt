use Rattle.std.proofs.Common.{◌≡◌, ◌*◌, ◌∙◌, ◌++◌, ◌∷◌, [], List, map, sym, subst}
use Rattle.std.specs.Prelude.{Result, Ok, Err, OnOk}
use Rattle.svr_watch.specs.declared.store.Held.TheVariants.{Apart}
use Rattle.svr_chain.specs.declared.clause.Lit.{Lit}
use Rattle.svr_chain.specs.Clauses.{AreWithin}
use Rattle.svr_chain.specs.Same.{SameClauses}
use Rattle.svr_chain.proofs.Same.{same-self, same-push}
use Rattle.svr_watch.specs.Codes.{lit_of}
use Rattle.svr_watch.specs.Store.{clauses_of, AreWatchedCodes}
use Rattle.svr_watch.proofs.Distinct.{codes-lits}
use Rattle.svr_watch.proofs.Adding.{clauses-added, clauses-apart}
use Rattle.svr_watch.proofs.Fresh.{half-of}
use Rattle.svr_watch.proofs.store.Store.push.Goals as goal

weaker : {E : Type 0} → (r : Result (Unit {0}) E) → (P Q : Type 0) → (P → Q) → OnOk r P → OnOk r Q
weaker (Ok x) P Q f p = f p
weaker (Err e) P Q f p = tt

pub add-requires : goal.add-requires
add-requires c =
    let s = c.args.self.now in
    let xs = c.in-Some.codes.items in
    let k : AreWatchedCodes xs c.args.lits.now = rw c.in-Some.is at c.in_ok-watched_codes.ensures in
    let e : s.arena.codes ≡ 2 * c.vars.result = sym c.vars.ensures.vars in
    let w : AreWithin c.vars.result c.args.lits.now = subst (λ z. AreWithin z c.args.lits.now) (half-of s.arena.codes c.vars.result e) c.requires in
    rw c.as_slice.ensures.value (codes-lits c.vars.result s.arena.codes xs c.args.lits.now e w k.codes k.two)

pub returns-in_ok-from_slice-in-None-clause-clauses : goal.returns-in_ok-from_slice-in-None-clause-clauses
returns-in_ok-from_slice-in-None-clause-clauses c =
    let s = c.args.self.now in
    let k : List Lit = c.new-copy.result in
    let e : k ≡ c.args.lits.now = c.new-copy.ensures ∙ c.in_ok-from_slice-in-None.ensures.items in
    weaker c.add_apart.result (c.add_apart.new.self ≡ record { arena = s.arena; held = s.held ++ Apart k ∷ [] }) (SameClauses (clauses_of c.add_apart.new.self) (clauses_of s ++ c.args.lits.now ∷ []))
    (λ q. subst (λ z. SameClauses (clauses_of z) (clauses_of s ++ c.args.lits.now ∷ [])) (sym q)
    (subst (λ z. SameClauses z (clauses_of s ++ c.args.lits.now ∷ [])) (sym (clauses-apart s k))
    (subst (λ z. SameClauses (clauses_of s ++ k ∷ []) (clauses_of s ++ z ∷ [])) e (same-self (clauses_of s ++ k ∷ [])))))
    c.add_apart.ensures.added

pub returns-in_ok-add-in-Some-clause-clauses : goal.returns-in_ok-add-in-Some-clause-clauses
returns-in_ok-add-in-Some-clause-clauses c =
    let s = c.args.self.now in
    let xs = c.in-Some.codes.items in
    let ls = c.args.lits.now in
    let k : AreWatchedCodes xs ls = rw c.in-Some.is at c.in_ok-watched_codes.ensures in
    let a = rw c.as_slice.ensures.value at c.in_ok-add-in-Some.ensures.added in
    let e : clauses_of c.add.new.self ≡ clauses_of s ++ map lit_of xs ∷ [] = clauses-added s c.add.new.self c.in_ok-add-in-Some.field-0 xs c.vars.ensures.kept a in
    rw e (same-push (clauses_of s) (clauses_of s) (map lit_of xs) ls (same-self (clauses_of s)) k.codes.same)
