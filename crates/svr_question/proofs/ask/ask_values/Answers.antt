use Rattle.std.proofs.Common.{◌≡◌, ◌++◌, ℕ, List, [], Some, length, take, drop, ap, ◌∙◌, subst}
use Rattle.std.specs.List.{flat_map}
use Rattle.svr_chain.specs.declared.clause.Lit.{Lit}
use Rattle.svr_vector.specs.Places.{rows}
use Rattle.svr_query.specs.Answer.{SolverView}
use Rattle.svr_frame.specs.declared.part.Part.TheVariants.{All as Whole}
use Rattle.svr_frame.specs.Frame.{frame_term}
use Rattle.svr_frame.specs.Phases.{hard_of}
use Rattle.svr_phase.specs.Proof.{fixed_lits, hard_roots, soft_roots}
use Rattle.svr_soft.specs.End.{IsPassEnd}
use Rattle.svr_question.proofs.Rooted.{row, row_long, row_asked, roots_asked}
use Rattle.svr_question.proofs.Ended.{ranks_fit, kept_call, ended_with}
use Rattle.svr_question.proofs.ask.ask_values.Goals as goal

pub pass_over-requires-clause-bits : goal.pass_over-requires-clause-bits
pass_over-requires-clause-bits c =
    let is : c.in_ok-row.row.items ≡ row (frame_term c.args.frame.now) c.args.sizes.now c.args.encoding c.requires.encodes
    = c.in_ok-row.ensures ∙ ap (λ vs. flat_map (λ ls. ls) (rows vs)) c.as_slice.ensures.value in
    (row_asked (frame_term c.args.frame.now) c.args.sizes.now c.args.encoding c.requires.encodes _ is).0

pub pass_over-requires-clause-first : goal.pass_over-requires-clause-first
pass_over-requires-clause-first c =
    let is : c.in_ok-row.row.items ≡ row (frame_term c.args.frame.now) c.args.sizes.now c.args.encoding c.requires.encodes
    = c.in_ok-row.ensures ∙ ap (λ vs. flat_map (λ ls. ls) (rows vs)) c.as_slice.ensures.value in
    (row_asked (frame_term c.args.frame.now) c.args.sizes.now c.args.encoding c.requires.encodes _ is).1

pub pass_over-requires-clause-settled : goal.pass_over-requires-clause-settled
pass_over-requires-clause-settled c =
    let is : c.in_ok-row.row.items ≡ row (frame_term c.args.frame.now) c.args.sizes.now c.args.encoding c.requires.encodes
    = c.in_ok-row.ensures ∙ ap (λ vs. flat_map (λ ls. ls) (rows vs)) c.as_slice.ensures.value in
    (row_asked (frame_term c.args.frame.now) c.args.sizes.now c.args.encoding c.requires.encodes _ is).2

pub pass_over-requires-clause-within : goal.pass_over-requires-clause-within
pass_over-requires-clause-within c =
    let n = c.args.question.hard in
    let chosen = c.args.question.chosen.now in
    (roots_asked (frame_term c.args.frame.now) c.args.sizes.now c.args.encoding c.requires.encodes chosen c.requires.chosen n _ _ (c.deref.ensures.value ∙ c.in_ok-base.ensures)
    (c.behind-soft.ensures ∙ ap (λ (ls : List Lit). drop n ls) c.as_slice-2.ensures.value)).0

pub pass_over-requires-clause-apart : goal.pass_over-requires-clause-apart
pass_over-requires-clause-apart c =
    let n = c.args.question.hard in
    let chosen = c.args.question.chosen.now in
    (roots_asked (frame_term c.args.frame.now) c.args.sizes.now c.args.encoding c.requires.encodes chosen c.requires.chosen n _ _ (c.deref.ensures.value ∙ c.in_ok-base.ensures)
    (c.behind-soft.ensures ∙ ap (λ (ls : List Lit). drop n ls) c.as_slice-2.ensures.value)).1

pub concluded-requires : goal.concluded-requires
concluded-requires c =
    ranks_fit (record { vars = c.args.encoding.cnf.vars; clauses = c.args.encoding.cnf.clauses.items; steps = []; bits = Some (length c.in_ok-row.row.items) })
    c.deref.result.now c.behind-soft.result.now c.args.question.budget c.in_ok-passed.passed.end c.in_ok-passed.ensures.end

pub returns-clause-encodes : goal.returns-clause-encodes
returns-clause-encodes c =
    kept_call (frame_term c.args.frame.now) c.args.sizes.now c.args.encoding c.in_ok-passed.passed.cnf c.in_ok-passed.ensures.vars c.in_ok-passed.ensures.clauses c.requires.encodes

pub returns-clause-end : goal.returns-clause-end
returns-clause-end c =
    let f = frame_term c.args.frame.now in
    let sizes = c.args.sizes.now in
    let e = c.args.encoding in
    let q = c.args.question in
    let chosen = q.chosen.now in
    let passed = c.in_ok-passed.passed in
    let row_is : c.in_ok-row.row.items ≡ row f sizes e c.requires.encodes
    = c.in_ok-row.ensures ∙ ap (λ vs. flat_map (λ ls. ls) (rows vs)) c.as_slice.ensures.value in
    let first : c.in_ok-base.base.items ≡ fixed_lits e chosen ++ hard_roots e (hard_of f Whole sizes)
    = c.in_ok-base.ensures ∙ ap (λ (n : ℕ). fixed_lits e chosen ++ take n e.roots.items) c.requires.hard in
    let rest : c.behind-soft.result.now ≡ soft_roots e (hard_of f Whole sizes)
    = c.behind-soft.ensures ∙ ap (λ (ls : List Lit). drop q.hard ls) c.as_slice-2.ensures.value ∙ ap (λ (n : ℕ). drop n e.roots.items) c.requires.hard in
    let view : SolverView = record { vars = e.cnf.vars; clauses = e.cnf.clauses.items; steps = []; bits = Some (length c.in_ok-row.row.items) } in
    let said : IsPassEnd view c.in_ok-base.base.items c.behind-soft.result.now q.budget passed.end
    = subst (λ (ls : List Lit). IsPassEnd view ls c.behind-soft.result.now q.budget passed.end) c.deref.ensures.value c.in_ok-passed.ensures.end in
    ended_with f sizes c.requires.sound c.requires.fit chosen c.requires.chosen q.place q.budget e c.requires.encodes passed.cnf c.in_ok-passed.ensures.vars c.in_ok-passed.ensures.clauses
    (length c.in_ok-row.row.items) (ap (λ (ls : List Lit). length ls) row_is ∙ row_long f sizes e c.requires.encodes) c.in_ok-base.base.items c.behind-soft.result.now first rest passed.end c.in_ok-end.end said c.in_ok-end.ensures
