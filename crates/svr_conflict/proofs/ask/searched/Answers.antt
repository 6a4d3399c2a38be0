use Rattle.std.proofs.Common.{◌≡◌, ◌++◌, ℕ, List, [], Some, length, take, drop, sym, ap, ◌∙◌, subst}
use Rattle.svr_chain.specs.declared.clause.Lit.{Lit}
use Rattle.svr_query.specs.Answer.{SolverView}
use Rattle.svr_frame.specs.declared.part.Part.TheVariants.{All as Whole}
use Rattle.svr_frame.specs.Frame.{frame_term}
use Rattle.svr_phase.specs.Spent.{bit_count}
use Rattle.svr_phase.specs.Proof.{fixed_lits}
use Rattle.svr_question.proofs.Rooted.{row, row_long, row_asked}
use Rattle.svr_question.proofs.Ended.{kept_call}
use Rattle.svr_core.specs.End.{IsCoreEnd}
use Rattle.svr_conflict.specs.Cut.{cut_by}
use Rattle.svr_conflict.proofs.Concluded.{literals_asked}
use Rattle.svr_conflict.proofs.ask.searched.Goals as goal

pub core_over-requires-clause-bits : goal.core_over-requires-clause-bits
core_over-requires-clause-bits c =
    let f = frame_term c.args.frame.now in
    let is : c.in_ok-literals.literals.row.items ≡ row f c.args.sizes.now c.args.encoding c.requires.encodes = c.in_ok-literals.ensures.row in
    (row_asked f c.args.sizes.now c.args.encoding c.requires.encodes _ is).0

pub core_over-requires-clause-first : goal.core_over-requires-clause-first
core_over-requires-clause-first c =
    let f = frame_term c.args.frame.now in
    let is : c.in_ok-literals.literals.row.items ≡ row f c.args.sizes.now c.args.encoding c.requires.encodes = c.in_ok-literals.ensures.row in
    (row_asked f c.args.sizes.now c.args.encoding c.requires.encodes _ is).1

pub core_over-requires-clause-settled : goal.core_over-requires-clause-settled
core_over-requires-clause-settled c =
    let f = frame_term c.args.frame.now in
    let is : c.in_ok-literals.literals.row.items ≡ row f c.args.sizes.now c.args.encoding c.requires.encodes = c.in_ok-literals.ensures.row in
    (row_asked f c.args.sizes.now c.args.encoding c.requires.encodes _ is).2

pub core_over-requires-clause-within : goal.core_over-requires-clause-within
core_over-requires-clause-within c =
    (literals_asked (frame_term c.args.frame.now) c.args.sizes.now c.args.encoding c.requires.encodes c.args.chosen.now c.requires.chosen c.args.domains c.args.counts.now _ _ (c.as_slice-assumed.ensures.value ∙ c.in_ok-literals.ensures.base)
    (c.as_slice-parts.ensures.value ∙ c.in_ok-literals.ensures.groups)).0

pub core_over-requires-clause-apart : goal.core_over-requires-clause-apart
core_over-requires-clause-apart c =
    (literals_asked (frame_term c.args.frame.now) c.args.sizes.now c.args.encoding c.requires.encodes c.args.chosen.now c.requires.chosen c.args.domains c.args.counts.now _ _ (c.as_slice-assumed.ensures.value ∙ c.in_ok-literals.ensures.base)
    (c.as_slice-parts.ensures.value ∙ c.in_ok-literals.ensures.groups)).1

pub returns-clause-encodes : goal.returns-clause-encodes
returns-clause-encodes c = kept_call (frame_term c.args.frame.now) c.args.sizes.now c.args.encoding c.in_ok-over.over.cnf c.in_ok-over.ensures.vars c.in_ok-over.ensures.clauses c.requires.encodes

pub returns-clause-base : goal.returns-clause-base
returns-clause-base c = c.in_ok-literals.ensures.base ∙ ap (λ (n : ℕ). fixed_lits c.args.encoding c.args.chosen.now ++ take n c.args.encoding.roots.items) c.requires.domains

pub returns-clause-groups : goal.returns-clause-groups
returns-clause-groups c = c.in_ok-literals.ensures.groups ∙ (λ i. cut_by (c.requires.counts i) (drop (c.requires.domains i) c.args.encoding.roots.items))

pub returns-clause-end : goal.returns-clause-end
returns-clause-end c =
    let f = frame_term c.args.frame.now in
    let e = c.args.encoding in
    let asked = c.in_ok-literals.literals in
    let over = c.in_ok-over.over in
    let made = c.in_ok-over.ensures in
    let is : asked.row.items ≡ row f c.args.sizes.now e c.requires.encodes = c.in_ok-literals.ensures.row in
    let long : length asked.row.items ≡ bit_count f Whole c.args.sizes.now 1 = ap (λ (ls : List Lit). length ls) is ∙ row_long f c.args.sizes.now e c.requires.encodes in
    let view : SolverView = record { vars = e.cnf.vars; clauses = e.cnf.clauses.items; steps = []; bits = Some (length asked.row.items) } in
    let said : IsCoreEnd view asked.base.items asked.groups.items c.args.budget over.end
    = subst (λ (gs : List (List Lit)). IsCoreEnd view asked.base.items gs c.args.budget over.end) c.as_slice-parts.ensures.value
    (subst (λ (ls : List Lit). IsCoreEnd view ls c.as_slice-parts.result.now c.args.budget over.end) c.as_slice-assumed.ensures.value made.end) in
    subst (λ (s : SolverView). IsCoreEnd s asked.base.items asked.groups.items c.args.budget over.end) (λ i. record { vars = sym made.vars i; clauses = sym made.clauses i; steps = []; bits = Some (long i) }) said
