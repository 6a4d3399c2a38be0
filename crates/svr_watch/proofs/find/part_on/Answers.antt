use Rattle.std.proofs.Common.{◌≡◌, ◌∙◌, true, false, map, ap, sym}
use Rattle.svr_arena.specs.Layout.{are_distinct, is_in, watched}
use Rattle.svr_chain.specs.Clauses.{is_within}
use Rattle.svr_watch.specs.Codes.{lit_of}
use Rattle.svr_watch.specs.Store.{lits_of}
use Rattle.svr_watch.proofs.Parts.{passed-start, passed-on, passed-next, passed-shorter, passed-end}
use Rattle.svr_watch.proofs.find.part_on.Goals as goal

pub list-init : goal.list-init
list-init c = passed-start c.args.arena.now c.args.code c.args.lits.now c.first_watch-at.result c.first_watch-at.ensures

pub lits-requires : goal.lits-requires
lits-requires c =
    let a = c.args.arena.now in
    let u : are_distinct (watched a c.args.code) ≡ true = c.codes.ensures.known.once c.args.code c.requires in
    c.codes.ensures.known.named c.in-Some.clause c.args.code c.requires (passed-on a c.args.code c.args.lits.now c.list.at u c.list.invariant c.in-Some.clause c.in-Some.is)

pub next_watch-at-requires-clause-on : goal.next_watch-at-requires-clause-on
next_watch-at-requires-clause-on c =
    let a = c.args.arena.now in
    let u : are_distinct (watched a c.args.code) ≡ true = c.codes.ensures.known.once c.args.code c.requires in
    passed-on a c.args.code c.args.lits.now c.list.at u c.list.invariant c.in-Some.clause c.in-Some.is

pub list-preserved : goal.list-preserved
list-preserved c =
    let a = c.args.arena.now in
    let lits = c.args.lits.now in
    let u : are_distinct (watched a c.args.code) ≡ true = c.codes.ensures.known.once c.args.code c.requires in
    let f : is_within (lits_of a c.in-Some.clause) lits ≡ false = ap (λ xs. is_within (map lit_of xs) lits) (sym c.lits.ensures) ∙ (sym c.are_codes_within.ensures ∙ c.if-are_codes_within.false) in
    passed-next a c.args.code lits c.list.at u c.list.invariant c.in-Some.clause c.in-Some.is c.next_watch-at.result c.next_watch-at.ensures f

pub list-smaller : goal.list-smaller
list-smaller c =
    let a = c.args.arena.now in
    let u : are_distinct (watched a c.args.code) ≡ true = c.codes.ensures.known.once c.args.code c.requires in
    passed-shorter a c.args.code c.args.lits.now c.list.at u c.list.invariant c.in-Some.clause c.in-Some.is c.next_watch-at.result c.next_watch-at.ensures

pub returns-then-are_codes_within-clause-some : goal.returns-then-are_codes_within-clause-some
returns-then-are_codes_within-clause-some c =
    let a = c.args.arena.now in
    let lits = c.args.lits.now in
    let u : are_distinct (watched a c.args.code) ≡ true = c.codes.ensures.known.once c.args.code c.requires in
    let o : is_in c.in-Some.clause (watched a c.args.code) ≡ true = passed-on a c.args.code lits c.list.at u c.list.invariant c.in-Some.clause c.in-Some.is in (
      c.codes.ensures.known.named c.in-Some.clause c.args.code c.requires o,
      ap (λ xs. is_within (map lit_of xs) lits) (sym c.lits.ensures) ∙ (sym c.are_codes_within.ensures ∙ c.if-are_codes_within.true),
    )

pub returns-clause-none : goal.returns-clause-none
returns-clause-none c = passed-end c.args.arena.now c.args.code c.args.lits.now c.list.at c.list.invariant c.in_default.is
