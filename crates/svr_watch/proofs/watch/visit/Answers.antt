use Rattle.std.proofs.Common.{◌≡◌, ℕ, ◌+◌, ◌<◌, ◌≤◌, ◌∙◌, ◌∷◌, ◌++◌, [], true, false, length, sym, ap, subst, arith, None, Some, slice_index}
use Rattle.svr_arena.specs.Layout.{names, is_in, watched}
use Rattle.svr_arena.specs.Arena.{body, lit_at}
use Rattle.svr_trail.specs.declared.Entry.{Entry}
use Rattle.svr_trail.specs.Trail.{value_in, is_false}
use Rattle.svr_watch.specs.Codes.{code_of, lit_of}
use Rattle.svr_watch.specs.Store.{IsStore}
use Rattle.svr_watch.proofs.Numbers.{code-below, lit-within}
use Rattle.svr_watch.proofs.Values.{open-from, value-put}
use Rattle.svr_watch.proofs.Visit.{IsOther, clause-named, clause-other, visit-true, other-below, not_behind, visit-fault, visit-forces, moved-level, moved-next, list-moved, advance-self, advance-moved, advance-put}
use Rattle.svr_watch.proofs.watch.visit.Goals as goal

pub codes-codes-requires : goal.codes-codes-requires
codes-codes-requires c =
    let s = c.args.store.now in
    let es = c.args.trail.now.entries in
    let l = c.args.lit in
    let cl = c.args.clause in
    let k : IsStore s = c.vars.ensures.kept in
    let lw : code_of l < s.arena.codes = code-below c.args.trail.now.vars s.arena.codes l c.requires.vars c.requires.within in
    let i : is_in cl (names s.arena) ≡ true = clause-named s k l lw c.args.before cl c.requires.before in
    i

pub code_of-requires : goal.code_of-requires
code_of-requires c =
    let s = c.args.store.now in
    let es = c.args.trail.now.entries in
    let l = c.args.lit in
    let cl = c.args.clause in
    let k : IsStore s = c.vars.ensures.kept in
    let lw : code_of l < s.arena.codes = code-below c.args.trail.now.vars s.arena.codes l c.requires.vars c.requires.within in
    let i : is_in cl (names s.arena) ≡ true = clause-named s k l lw c.args.before cl c.requires.before in
    let z = c.vars.ensures.small in
    omega arith

pub other_code-requires : goal.other_code-requires
other_code-requires c =
    let s = c.args.store.now in
    let es = c.args.trail.now.entries in
    let l = c.args.lit in
    let cl = c.args.clause in
    let k : IsStore s = c.vars.ensures.kept in
    let lw : code_of l < s.arena.codes = code-below c.args.trail.now.vars s.arena.codes l c.requires.vars c.requires.within in
    let i : is_in cl (names s.arena) ≡ true = clause-named s k l lw c.args.before cl c.requires.before in
    rw c.codes-codes.ensures (k.arena.clause cl i).two

pub returns-then-has_value-clause-advance : goal.returns-then-has_value-clause-advance
returns-then-has_value-clause-advance c =
    let s = c.args.store.now in
    let es = c.args.trail.now.entries in
    let l = c.args.lit in
    let cl = c.args.clause in
    let k : IsStore s = c.vars.ensures.kept in
    let lw : code_of l < s.arena.codes = code-below c.args.trail.now.vars s.arena.codes l c.requires.vars c.requires.within in
    let i : is_in cl (names s.arena) ≡ true = clause-named s k l lw c.args.before cl c.requires.before in
    advance-self s es c.requires.reasons

pub returns-then-has_value-clause-done : goal.returns-then-has_value-clause-done
returns-then-has_value-clause-done c =
    let s = c.args.store.now in
    let es = c.args.trail.now.entries in
    let l = c.args.lit in
    let cl = c.args.clause in
    let k : IsStore s = c.vars.ensures.kept in
    let lw : code_of l < s.arena.codes = code-below c.args.trail.now.vars s.arena.codes l c.requires.vars c.requires.within in
    let i : is_in cl (names s.arena) ≡ true = clause-named s k l lw c.args.before cl c.requires.before in
    let o = c.other_code.result in
    let e : IsOther (body s.arena cl) (code_of l) o
    = clause-other s k l lw c.args.before cl c.requires.before c.codes-codes.result.now c.code_of.result o c.codes-codes.ensures c.code_of.ensures c.other_code.ensures.first c.other_code.ensures.second in
    λ _. visit-true s k es c.args.head l c.requires.within.0 cl c.requires.newly i o e es (ap (value_in es) (sym c.lit_of-other.ensures) ∙ c.has_value.ensures.yes c.if-has_value.true) (c.args.head + 1)

pub move_watch-requires-clause-high : goal.move_watch-requires-clause-high
move_watch-requires-clause-high c =
    let s = c.args.store.now in
    let es = c.args.trail.now.entries in
    let l = c.args.lit in
    let cl = c.args.clause in
    let k : IsStore s = c.vars.ensures.kept in
    let lw : code_of l < s.arena.codes = code-below c.args.trail.now.vars s.arena.codes l c.requires.vars c.requires.within in
    let i : is_in cl (names s.arena) ≡ true = clause-named s k l lw c.args.before cl c.requires.before in
    let some : (2 ≤ c.in-Some.to) × (c.in-Some.to < length (body s.arena cl)) × (is_false (value_in es (lit_of (lit_at s.arena cl c.in-Some.to))) ≡ false)
    = subst (λ z. (2 ≤ c.in-Some.to) × (c.in-Some.to < length z) × (is_false (value_in es (lit_of (slice_index z c.in-Some.to))) ≡ false)) c.codes-codes.ensures c.in-Some.ensures.some in
    some.1

pub returns-in-Some-clause-advance : goal.returns-in-Some-clause-advance
returns-in-Some-clause-advance c =
    let s = c.args.store.now in
    let es = c.args.trail.now.entries in
    let l = c.args.lit in
    let cl = c.args.clause in
    let k : IsStore s = c.vars.ensures.kept in
    let lw : code_of l < s.arena.codes = code-below c.args.trail.now.vars s.arena.codes l c.requires.vars c.requires.within in
    let i : is_in cl (names s.arena) ≡ true = clause-named s k l lw c.args.before cl c.requires.before in
    let o = c.other_code.result in
    let e : IsOther (body s.arena cl) (code_of l) o
    = clause-other s k l lw c.args.before cl c.requires.before c.codes-codes.result.now c.code_of.result o c.codes-codes.ensures c.code_of.ensures c.other_code.ensures.first c.other_code.ensures.second in
    let some : (2 ≤ c.in-Some.to) × (c.in-Some.to < length (body s.arena cl)) × (is_false (value_in es (lit_of (lit_at s.arena cl c.in-Some.to))) ≡ false)
    = subst (λ z. (2 ≤ c.in-Some.to) × (c.in-Some.to < length z) × (is_false (value_in es (lit_of (slice_index z c.in-Some.to))) ≡ false)) c.codes-codes.ensures c.in-Some.ensures.some in
    advance-moved s c.move_watch.new.self es cl c.move_watch.ensures.kept c.requires.reasons c.move_watch.ensures.others (moved-level s k es c.args.head l c.requires.within.0 cl c.requires.newly i o e c.move_watch.new.self c.in-Some.to some.0 some.1 some.2 c.move_watch.ensures.own)

pub returns-in-Some-clause-done : goal.returns-in-Some-clause-done
returns-in-Some-clause-done c =
    let s = c.args.store.now in
    let es = c.args.trail.now.entries in
    let l = c.args.lit in
    let cl = c.args.clause in
    let k : IsStore s = c.vars.ensures.kept in
    let lw : code_of l < s.arena.codes = code-below c.args.trail.now.vars s.arena.codes l c.requires.vars c.requires.within in
    let i : is_in cl (names s.arena) ≡ true = clause-named s k l lw c.args.before cl c.requires.before in
    let o = c.other_code.result in
    let e : IsOther (body s.arena cl) (code_of l) o
    = clause-other s k l lw c.args.before cl c.requires.before c.codes-codes.result.now c.code_of.result o c.codes-codes.ensures c.code_of.ensures c.other_code.ensures.first c.other_code.ensures.second in
    let some : (2 ≤ c.in-Some.to) × (c.in-Some.to < length (body s.arena cl)) × (is_false (value_in es (lit_of (lit_at s.arena cl c.in-Some.to))) ≡ false)
    = subst (λ z. (2 ≤ c.in-Some.to) × (c.in-Some.to < length z) × (is_false (value_in es (lit_of (slice_index z c.in-Some.to))) ≡ false)) c.codes-codes.ensures c.in-Some.ensures.some in
    λ _. moved-next s k es c.args.head l c.requires.within.0 cl c.requires.newly i o e c.move_watch.new.self c.in-Some.to some.0 some.1 some.2 c.move_watch.ensures.own c.requires.watched

pub returns-in-Some-clause-list : goal.returns-in-Some-clause-list
returns-in-Some-clause-list c =
    let s = c.args.store.now in
    let es = c.args.trail.now.entries in
    let l = c.args.lit in
    let cl = c.args.clause in
    let k : IsStore s = c.vars.ensures.kept in
    let lw : code_of l < s.arena.codes = code-below c.args.trail.now.vars s.arena.codes l c.requires.vars c.requires.within in
    let i : is_in cl (names s.arena) ≡ true = clause-named s k l lw c.args.before cl c.requires.before in
    let o = c.other_code.result in
    let e : IsOther (body s.arena cl) (code_of l) o
    = clause-other s k l lw c.args.before cl c.requires.before c.codes-codes.result.now c.code_of.result o c.codes-codes.ensures c.code_of.ensures c.other_code.ensures.first c.other_code.ensures.second in
    let some : (2 ≤ c.in-Some.to) × (c.in-Some.to < length (body s.arena cl)) × (is_false (value_in es (lit_of (lit_at s.arena cl c.in-Some.to))) ≡ false)
    = subst (λ z. (2 ≤ c.in-Some.to) × (c.in-Some.to < length z) × (is_false (value_in es (lit_of (slice_index z c.in-Some.to))) ≡ false)) c.codes-codes.ensures c.in-Some.ensures.some in
    c.move_watch.ensures.lists (code_of l) lw ∙ list-moved (lit_at s.arena cl c.in-Some.to) (code_of l) cl (watched s.arena) (not_behind s k es c.args.head l c.requires.within.0 cl c.requires.newly i o e c.in-Some.to some.0 some.1)

pub returns-then-has_value-2-clause-advance : goal.returns-then-has_value-2-clause-advance
returns-then-has_value-2-clause-advance c =
    let s = c.args.store.now in
    let es = c.args.trail.now.entries in
    let l = c.args.lit in
    let cl = c.args.clause in
    let k : IsStore s = c.vars.ensures.kept in
    let lw : code_of l < s.arena.codes = code-below c.args.trail.now.vars s.arena.codes l c.requires.vars c.requires.within in
    let i : is_in cl (names s.arena) ≡ true = clause-named s k l lw c.args.before cl c.requires.before in
    advance-self s es c.requires.reasons

pub returns-then-has_value-2-clause-fault : goal.returns-then-has_value-2-clause-fault
returns-then-has_value-2-clause-fault c =
    let s = c.args.store.now in
    let es = c.args.trail.now.entries in
    let l = c.args.lit in
    let cl = c.args.clause in
    let k : IsStore s = c.vars.ensures.kept in
    let lw : code_of l < s.arena.codes = code-below c.args.trail.now.vars s.arena.codes l c.requires.vars c.requires.within in
    let i : is_in cl (names s.arena) ≡ true = clause-named s k l lw c.args.before cl c.requires.before in
    let o = c.other_code.result in
    let e : IsOther (body s.arena cl) (code_of l) o
    = clause-other s k l lw c.args.before cl c.requires.before c.codes-codes.result.now c.code_of.result o c.codes-codes.ensures c.code_of.ensures c.other_code.ensures.first c.other_code.ensures.second in
    let none : (j : ℕ) → 2 ≤ j → j < length (body s.arena cl) → is_false (value_in es (lit_of (lit_at s.arena cl j))) ≡ true
    = subst (λ z. (j : ℕ) → 2 ≤ j → j < length z → is_false (value_in es (lit_of (slice_index z j))) ≡ true) c.codes-codes.ensures c.in_default.ensures.none in
    λ _ n q. visit-fault s k es c.args.head l c.requires.within.0 cl c.requires.newly i o e (ap (value_in es) (sym c.lit_of-other.ensures) ∙ c.has_value-2.ensures.yes c.if-has_value-2.true) none n q

pub number-requires : goal.number-requires
number-requires c =
    let s = c.args.store.now in
    let es = c.args.trail.now.entries in
    let l = c.args.lit in
    let cl = c.args.clause in
    let k : IsStore s = c.vars.ensures.kept in
    let lw : code_of l < s.arena.codes = code-below c.args.trail.now.vars s.arena.codes l c.requires.vars c.requires.within in
    let i : is_in cl (names s.arena) ≡ true = clause-named s k l lw c.args.before cl c.requires.before in
    i

pub put-requires-clause-within : goal.put-requires-clause-within
put-requires-clause-within c =
    let s = c.args.store.now in
    let es = c.args.trail.now.entries in
    let l = c.args.lit in
    let cl = c.args.clause in
    let k : IsStore s = c.vars.ensures.kept in
    let lw : code_of l < s.arena.codes = code-below c.args.trail.now.vars s.arena.codes l c.requires.vars c.requires.within in
    let i : is_in cl (names s.arena) ≡ true = clause-named s k l lw c.args.before cl c.requires.before in
    let o = c.other_code.result in
    let e : IsOther (body s.arena cl) (code_of l) o
    = clause-other s k l lw c.args.before cl c.requires.before c.codes-codes.result.now c.code_of.result o c.codes-codes.ensures c.code_of.ensures c.other_code.ensures.first c.other_code.ensures.second in
    rw c.lit_of-other.ensures (lit-within c.args.trail.now.vars s.arena.codes o c.requires.vars (other-below s k es c.args.head l c.requires.within.0 cl c.requires.newly i o e))

pub put-requires-clause-open : goal.put-requires-clause-open
put-requires-clause-open c =
    let s = c.args.store.now in
    let es = c.args.trail.now.entries in
    let l = c.args.lit in
    let cl = c.args.clause in
    let k : IsStore s = c.vars.ensures.kept in
    let lw : code_of l < s.arena.codes = code-below c.args.trail.now.vars s.arena.codes l c.requires.vars c.requires.within in
    let i : is_in cl (names s.arena) ≡ true = clause-named s k l lw c.args.before cl c.requires.before in
    open-from (value_in es c.lit_of-other.result) (c.has_value.ensures.no c.if-has_value.false) (c.has_value-2.ensures.no c.if-has_value-2.false)

pub returns-clause-advance : goal.returns-clause-advance
returns-clause-advance c =
    let s = c.args.store.now in
    let es = c.args.trail.now.entries in
    let l = c.args.lit in
    let cl = c.args.clause in
    let k : IsStore s = c.vars.ensures.kept in
    let lw : code_of l < s.arena.codes = code-below c.args.trail.now.vars s.arena.codes l c.requires.vars c.requires.within in
    let i : is_in cl (names s.arena) ≡ true = clause-named s k l lw c.args.before cl c.requires.before in
    let o = c.other_code.result in
    let e : IsOther (body s.arena cl) (code_of l) o
    = clause-other s k l lw c.args.before cl c.requires.before c.codes-codes.result.now c.code_of.result o c.codes-codes.ensures c.code_of.ensures c.other_code.ensures.first c.other_code.ensures.second in
    let none : (j : ℕ) → 2 ≤ j → j < length (body s.arena cl) → is_false (value_in es (lit_of (lit_at s.arena cl j))) ≡ true
    = subst (λ z. (j : ℕ) → 2 ≤ j → j < length z → is_false (value_in es (lit_of (slice_index z j))) ≡ true) c.codes-codes.ensures c.in_default.ensures.none in
    rw (c.put.ensures.put, c.lit_of-other.ensures) (advance-put s es (lit_of o) c.number.result c.requires.reasons (visit-forces s k es c.args.head l c.requires.within.0 cl c.requires.newly i o e none c.number.result c.number.ensures))

pub returns-clause-done : goal.returns-clause-done
returns-clause-done c =
    let s = c.args.store.now in
    let es = c.args.trail.now.entries in
    let l = c.args.lit in
    let cl = c.args.clause in
    let k : IsStore s = c.vars.ensures.kept in
    let lw : code_of l < s.arena.codes = code-below c.args.trail.now.vars s.arena.codes l c.requires.vars c.requires.within in
    let i : is_in cl (names s.arena) ≡ true = clause-named s k l lw c.args.before cl c.requires.before in
    let o = c.other_code.result in
    let e : IsOther (body s.arena cl) (code_of l) o
    = clause-other s k l lw c.args.before cl c.requires.before c.codes-codes.result.now c.code_of.result o c.codes-codes.ensures c.code_of.ensures c.other_code.ensures.first c.other_code.ensures.second in
    let n : value_in es c.lit_of-other.result ≡ None = open-from (value_in es c.lit_of-other.result) (c.has_value.ensures.no c.if-has_value.false) (c.has_value-2.ensures.no c.if-has_value-2.false) in
    let en : Entry = record { lit = c.lit_of-other.result; reason = Some c.number.result } in
    let t : value_in (es ++ en ∷ []) (lit_of o) ≡ Some true = ap (value_in (es ++ en ∷ [])) (sym c.lit_of-other.ensures) ∙ value-put es en n in
    rw c.put.ensures.put (λ _. visit-true s k es c.args.head l c.requires.within.0 cl c.requires.newly i o e (es ++ en ∷ []) t (c.args.head + 1))
