use Rattle.std.proofs.Common.{◌≡◌, ◌≤◌, ◌++◌, ℕ, List, [], Some, length, map, take, drop, sym, ap, ◌∙◌, subst}
use Rattle.std.proofs.lemmas.List.{length-map}
use Rattle.svr_chain.specs.declared.clause.Lit.{Lit}
use Rattle.svr_query.specs.Answer.{SolverView}
use Rattle.svr_typed.specs.ExprTerm.{ExprTerm, expr_term}
use Rattle.svr_eval.specs.Reading.{reading_of}
use Rattle.svr_frame.specs.declared.part.Part.TheVariants.{Sizes}
use Rattle.svr_frame.specs.Frame.{frame_term, state_at}
use Rattle.svr_frame.specs.Occurrences.{closed_of}
use Rattle.svr_frame.specs.Sound.{SizesFit}
use Rattle.svr_phase.specs.Spent.{bit_count}
use Rattle.svr_phase.specs.Proof.{fixed_lits, hard_roots, soft_roots}
use Rattle.svr_phase.proofs.Preferred.{state_sizes_fit}
use Rattle.svr_soft.specs.End.{IsPassEnd}
use Rattle.svr_clauses.proofs.Encodable.{all_typed, all_inside, all_readable, all_fixed}
use Rattle.svr_sized.specs.Questions.{hard_over, soft_over, bits_over}
use Rattle.svr_sized.specs.Ends.{Becomes}
use Rattle.svr_sized.proofs.Asked.{encodable_over, items_stand, encodes_over}
use Rattle.svr_sized.proofs.Ended.{few_over, some_over, ended}
use Rattle.svr_sized.proofs.ask.ask.Goals as goal

pub clauses_of-requires-clause-fit : goal.clauses_of-requires-clause-fit
clauses_of-requires-clause-fit c = subst (SizesFit (frame_term c.args.frame.now)) (sym c.as_slice-sizes.ensures) (state_sizes_fit (frame_term c.args.frame.now) c.requires.sound)

pub clauses_of-requires-clause-some_bits : goal.clauses_of-requires-clause-some_bits
clauses_of-requires-clause-some_bits c = subst (λ (k : ℕ). 1 ≤ k) (sym c.bits_for-bits.ensures) (some_over c.args.opts.size_cap c.requires.some c.args.scope)

pub clauses_of-requires-clause-few_bits : goal.clauses_of-requires-clause-few_bits
clauses_of-requires-clause-few_bits c = subst (λ (k : ℕ). k ≤ 32) (sym c.bits_for-bits.ensures) (few_over c.args.opts.size_cap c.requires.cap c.args.scope)

pub clauses_of-requires-clause-typed : goal.clauses_of-requires-clause-typed
clauses_of-requires-clause-typed c =
    let f = frame_term c.args.frame.now in
    let cap = c.args.opts.size_cap in
    let items = c.in_ok-items.items in
    let stand = items_stand f cap c.args.scope items c.args.asked.hard c.args.asked.soft c.in_ok-items.ensures c.requires.hard c.requires.soft in
    all_typed f Sizes (reading_of f.state) (state_at f f.state.sizes) items (hard_over f cap c.args.scope ++ soft_over f c.args.scope) stand (encodable_over f c.requires.sound cap c.requires.cap c.args.scope)

pub clauses_of-requires-clause-inside : goal.clauses_of-requires-clause-inside
clauses_of-requires-clause-inside c =
    let f = frame_term c.args.frame.now in
    let cap = c.args.opts.size_cap in
    let items = c.in_ok-items.items in
    let stand = items_stand f cap c.args.scope items c.args.asked.hard c.args.asked.soft c.in_ok-items.ensures c.requires.hard c.requires.soft in
    all_inside f Sizes (reading_of f.state) (state_at f f.state.sizes) items (hard_over f cap c.args.scope ++ soft_over f c.args.scope) stand (encodable_over f c.requires.sound cap c.requires.cap c.args.scope)

pub clauses_of-requires-clause-readable : goal.clauses_of-requires-clause-readable
clauses_of-requires-clause-readable c =
    let f = frame_term c.args.frame.now in
    let cap = c.args.opts.size_cap in
    let items = c.in_ok-items.items in
    let stand = items_stand f cap c.args.scope items c.args.asked.hard c.args.asked.soft c.in_ok-items.ensures c.requires.hard c.requires.soft in
    all_readable f Sizes (reading_of f.state) (state_at f f.state.sizes) items (hard_over f cap c.args.scope ++ soft_over f c.args.scope) stand (encodable_over f c.requires.sound cap c.requires.cap c.args.scope)

pub clauses_of-requires-clause-fixed : goal.clauses_of-requires-clause-fixed
clauses_of-requires-clause-fixed c =
    let f = frame_term c.args.frame.now in
    let cap = c.args.opts.size_cap in
    let items = c.in_ok-items.items in
    let stand = items_stand f cap c.args.scope items c.args.asked.hard c.args.asked.soft c.in_ok-items.ensures c.requires.hard c.requires.soft in
    all_fixed f Sizes (reading_of f.state) (state_at f f.state.sizes) items (hard_over f cap c.args.scope ++ soft_over f c.args.scope) stand (encodable_over f c.requires.sound cap c.requires.cap c.args.scope)

pub pass_roots-requires-clause-encodes : goal.pass_roots-requires-clause-encodes
pass_roots-requires-clause-encodes c =
    let f = frame_term c.args.frame.now in
    let cap = c.args.opts.size_cap in
    let items = c.in_ok-items.items in
    let stand = items_stand f cap c.args.scope items c.args.asked.hard c.args.asked.soft c.in_ok-items.ensures c.requires.hard c.requires.soft in
    (bits_over cap c.args.scope, map (closed_of (state_at f f.state.sizes)) (hard_over f cap c.args.scope ++ soft_over f c.args.scope), encodes_over f cap c.args.scope c.as_slice-sizes.result.now c.bits_for-bits.result items c.in_ok-encoding.encoding c.as_slice-sizes.ensures c.bits_for-bits.ensures stand c.in_ok-encoding.ensures)

pub concluded-requires-clause-encodes : goal.concluded-requires-clause-encodes
concluded-requires-clause-encodes c =
    let f = frame_term c.args.frame.now in
    let cap = c.args.opts.size_cap in
    let items = c.in_ok-items.items in
    let stand = items_stand f cap c.args.scope items c.args.asked.hard c.args.asked.soft c.in_ok-items.ensures c.requires.hard c.requires.soft in
    let before = encodes_over f cap c.args.scope c.as_slice-sizes.result.now c.bits_for-bits.result items c.in_ok-encoding.encoding c.as_slice-sizes.ensures c.bits_for-bits.ensures stand c.in_ok-encoding.ensures in
    (bits_over cap c.args.scope, few_over cap c.requires.cap c.args.scope, hard_over f cap c.args.scope ++ soft_over f c.args.scope, c.in_ok-over.ensures.encodes _ _ before)

pub returns : goal.returns
returns c =
    let f = frame_term c.args.frame.now in
    let cap = c.args.opts.size_cap in
    let scope = c.args.scope in
    let chosen = c.args.chosen.now in
    let items = c.in_ok-items.items in
    let over = c.in_ok-over.over in
    let e = over.encoding in
    let hard = hard_over f cap scope in
    let stand = items_stand f cap scope items c.args.asked.hard c.args.asked.soft c.in_ok-items.ensures c.requires.hard c.requires.soft in
    let before = encodes_over f cap scope c.as_slice-sizes.result.now c.bits_for-bits.result items c.in_ok-encoding.encoding c.as_slice-sizes.ensures c.bits_for-bits.ensures stand c.in_ok-encoding.ensures in
    let many : c.len-count.result ≡ length hard
    = c.len-count.ensures ∙ sym (length-map c.args.asked.hard expr_term) ∙ ap (λ (es : List ExprTerm). length es) c.requires.hard ∙ length-map hard (closed_of (state_at f f.state.sizes)) in
    let view : SolverView = record { vars = e.cnf.vars; clauses = e.cnf.clauses.items; steps = []; bits = Some (bit_count f Sizes f.state.sizes (bits_over cap scope)) } in
    let base : over.base.items ≡ fixed_lits e chosen ++ hard_roots e hard = c.in_ok-over.ensures.base ∙ ap (λ (n : ℕ). fixed_lits e chosen ++ take n e.roots.items) many in
    let said : IsPassEnd view (fixed_lits e chosen ++ hard_roots e hard) (soft_roots e hard) c.args.opts.budget over.end
    = subst (λ (ls : List Lit). IsPassEnd view ls (soft_roots e hard) c.args.opts.budget over.end) base
    (subst (λ (n : ℕ). IsPassEnd view over.base.items (drop n e.roots.items) c.args.opts.budget over.end) many (c.in_ok-over.ensures.end _ _ before)) in
    ended f c.requires.sound cap c.requires.cap chosen c.requires.chosen scope e (c.in_ok-over.ensures.encodes _ _ before) c.args.opts.budget over.end c.in_ok-found.found said
    (subst (λ (ls : List Lit). Becomes f e ls over.end c.in_ok-found.found) base c.in_ok-found.ensures)
