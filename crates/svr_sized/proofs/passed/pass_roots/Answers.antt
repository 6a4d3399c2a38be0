use Rattle.std.proofs.Common.{◌≡◌, List, [], Some, length, drop, sym, ap, ◌∙◌, subst}
use Rattle.std.specs.List.{flat_map}
use Rattle.svr_chain.specs.declared.clause.Lit.{Lit}
use Rattle.svr_vector.specs.Places.{rows}
use Rattle.svr_query.specs.Answer.{SolverView}
use Rattle.svr_frame.specs.declared.part.Part.TheVariants.{Sizes}
use Rattle.svr_frame.specs.Frame.{frame_term}
use Rattle.svr_phase.specs.Spent.{bit_count}
use Rattle.svr_soft.specs.End.{IsPassEnd}
use Rattle.svr_question.proofs.Kept.{given_back}
use Rattle.svr_sized.proofs.Rooted.{row, row_long, row_asked, roots_asked}
use Rattle.svr_sized.proofs.passed.pass_roots.Goals as goal

pub pass_over-requires-clause-clauses : goal.pass_over-requires-clause-clauses
pass_over-requires-clause-clauses c = c.requires.encodes.2.within

pub pass_over-requires-clause-bits : goal.pass_over-requires-clause-bits
pass_over-requires-clause-bits c =
    let f = frame_term c.args.frame.now in
    let h = c.requires.encodes in
    let is : c.in_ok-bits_in_row.bits_in_row.items ≡ row f Sizes f.state.sizes h.0 h.1 c.args.encoding h.2
    = c.in_ok-bits_in_row.ensures ∙ ap (λ vs. flat_map (λ ls. ls) (rows vs)) c.as_slice-rows.ensures.value in
    (row_asked f Sizes f.state.sizes h.0 h.1 c.args.encoding h.2 _ is).0

pub pass_over-requires-clause-first : goal.pass_over-requires-clause-first
pass_over-requires-clause-first c =
    let f = frame_term c.args.frame.now in
    let h = c.requires.encodes in
    let is : c.in_ok-bits_in_row.bits_in_row.items ≡ row f Sizes f.state.sizes h.0 h.1 c.args.encoding h.2
    = c.in_ok-bits_in_row.ensures ∙ ap (λ vs. flat_map (λ ls. ls) (rows vs)) c.as_slice-rows.ensures.value in
    (row_asked f Sizes f.state.sizes h.0 h.1 c.args.encoding h.2 _ is).1

pub pass_over-requires-clause-settled : goal.pass_over-requires-clause-settled
pass_over-requires-clause-settled c =
    let f = frame_term c.args.frame.now in
    let h = c.requires.encodes in
    let is : c.in_ok-bits_in_row.bits_in_row.items ≡ row f Sizes f.state.sizes h.0 h.1 c.args.encoding h.2
    = c.in_ok-bits_in_row.ensures ∙ ap (λ vs. flat_map (λ ls. ls) (rows vs)) c.as_slice-rows.ensures.value in
    (row_asked f Sizes f.state.sizes h.0 h.1 c.args.encoding h.2 _ is).2

pub pass_over-requires-clause-within : goal.pass_over-requires-clause-within
pass_over-requires-clause-within c =
    let f = frame_term c.args.frame.now in
    let h = c.requires.encodes in
    let q = c.args.question in
    (roots_asked f Sizes f.state.sizes h.0 h.1 c.args.encoding h.2 q.chosen.now c.requires.chosen q.hard _ _ (c.as_slice-assumed.ensures.value ∙ c.in_ok-base.ensures)
    (c.behind-soft.ensures ∙ ap (λ (ls : List Lit). drop q.hard ls) c.as_slice-roots_in_row.ensures.value)).0

pub pass_over-requires-clause-apart : goal.pass_over-requires-clause-apart
pass_over-requires-clause-apart c =
    let f = frame_term c.args.frame.now in
    let h = c.requires.encodes in
    let q = c.args.question in
    (roots_asked f Sizes f.state.sizes h.0 h.1 c.args.encoding h.2 q.chosen.now c.requires.chosen q.hard _ _ (c.as_slice-assumed.ensures.value ∙ c.in_ok-base.ensures)
    (c.behind-soft.ensures ∙ ap (λ (ls : List Lit). drop q.hard ls) c.as_slice-roots_in_row.ensures.value)).1

pub returns-clause-encodes : goal.returns-clause-encodes
returns-clause-encodes c =
    λ k asked h. given_back _ _ _ asked c.args.encoding c.in_ok-passed.passed.cnf c.in_ok-passed.ensures.vars c.in_ok-passed.ensures.clauses h

pub returns-clause-base : goal.returns-clause-base
returns-clause-base c = c.in_ok-base.ensures

pub returns-clause-end : goal.returns-clause-end
returns-clause-end c =
    let f = frame_term c.args.frame.now in
    let e = c.args.encoding in
    let q = c.args.question in
    let passed = c.in_ok-passed.passed in
    λ k asked h.
    let row_is : c.in_ok-bits_in_row.bits_in_row.items ≡ row f Sizes f.state.sizes k asked e h
    = c.in_ok-bits_in_row.ensures ∙ ap (λ vs. flat_map (λ ls. ls) (rows vs)) c.as_slice-rows.ensures.value in
    let long : length c.in_ok-bits_in_row.bits_in_row.items ≡ bit_count f Sizes f.state.sizes k
    = ap (λ (ls : List Lit). length ls) row_is ∙ row_long f Sizes f.state.sizes k asked e h in
    let soft : c.behind-soft.result.now ≡ drop q.hard e.roots.items
    = c.behind-soft.ensures ∙ ap (λ (ls : List Lit). drop q.hard ls) c.as_slice-roots_in_row.ensures.value in
    let view : SolverView = record { vars = passed.cnf.vars; clauses = passed.cnf.clauses.items; steps = []; bits = Some (bit_count f Sizes f.state.sizes k) } in
    subst (λ (ls : List Lit). IsPassEnd view c.in_ok-base.base.items ls q.budget passed.end) soft
    (subst (λ (ls : List Lit). IsPassEnd view ls c.behind-soft.result.now q.budget passed.end) c.as_slice-assumed.ensures.value
    (subst (λ (s : SolverView). IsPassEnd s c.as_slice-assumed.result.now c.behind-soft.result.now q.budget passed.end)
    (λ i. record { vars = sym c.in_ok-passed.ensures.vars i; clauses = sym c.in_ok-passed.ensures.clauses i; steps = []; bits = Some (long i) }) c.in_ok-passed.ensures.end))
