use Rattle.std.proofs.Common.{◌≡◌, ◌∙◌, List, ap, subst}
use Rattle.svr_chain.specs.declared.clause.Lit.{Lit}
use Rattle.svr_chain.specs.Clauses.{flip, has, resolvent}
use Rattle.svr_chain.specs.Same.{SameLits}
use Rattle.svr_chain.proofs.Chains.{link-none, link-not_here, link-not_there, link-done}
use Rattle.svr_chain.proofs.log.take_link.Goals as goal

pub returns-in_default : goal.returns-in_default
returns-in_default c = link-none c.args.marks.now c.args.link.pivot _ c.in_default.ensures

pub returns-then-not-has : goal.returns-then-not-has
returns-then-not-has c = link-not_here c.args.marks.now c.in-Some.linked.now c.args.link.pivot _ c.in-Some.ensures c.has.result c.has.ensures c.if-not-has.true

pub returns-then-not-has_lit : goal.returns-then-not-has_lit
returns-then-not-has_lit c =
    let d : List Lit = c.in-Some.linked.now in
    let p : Lit = c.args.link.pivot in
    let t : c.has_lit.result ≡ has d (flip p) = c.has_lit.ensures ∙ (ap (λ z. has z c.flipped.result) c.lits-there.ensures ∙ ap (has d) c.flipped.ensures) in
    link-not_there c.args.marks.now d p _ c.in-Some.ensures c.has.result c.has_lit.result c.has.ensures c.if-not-has.false t c.if-not-has_lit.true

pub returns : goal.returns
returns c =
    let d : List Lit = c.in-Some.linked.now in
    let p : Lit = c.args.link.pivot in
    let t : c.has_lit.result ≡ has d (flip p) = c.has_lit.ensures ∙ (ap (λ z. has z c.flipped.result) c.lits-there.ensures ∙ ap (has d) c.flipped.ensures) in
    let s : SameLits c.resolve.new.self (resolvent c.args.marks.now p d) = subst (λ z. SameLits c.resolve.new.self (resolvent c.args.marks.now p z)) c.lits-there.ensures c.in_ok-resolve.ensures in
    link-done c.args.marks.now d p _ c.in-Some.ensures c.resolve.new.self c.has.result c.has_lit.result c.has.ensures c.if-not-has.false t c.if-not-has_lit.false s
