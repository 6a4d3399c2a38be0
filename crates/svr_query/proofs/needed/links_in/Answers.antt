use Rattle.std.proofs.Common.{◌++◌, ◌∷◌, [], List, false, get_or, refl, subst, take}
use Rattle.std.proofs.lemmas.List.{take_more, take_all}
use Rattle.svr_chain.specs.declared.log.Link.{Link}
use Rattle.svr_query.specs.Needed.{AreLinksIn}
use Rattle.svr_query.proofs.Keeping.{links-more}
use Rattle.svr_query.proofs.needed.links_in.Goals as goal

pub loop-link-preserved : goal.loop-link-preserved
loop-link-preserved c =
    let d : Link = record { pivot = record { var = 0; neg = false }; clause = 0 } in
    let i = c.loop-link.link-index in
    let xs : List Link = c.args.links.now in
    let x : Link = get_or xs i d in
    let y : Link = record { pivot = x.pivot; clause = c.in-Some.clause } in
    let a : AreLinksIn c.args.clauses c.args.places.now (take i xs ++ x ∷ []) (c.loop-link.found.items ++ y ∷ [])
    = links-more c.args.clauses c.args.places.now (take i xs) c.loop-link.found.items x y c.loop-link.invariant refl c.in-Some.ensures in
    rw (take_more xs i d c.loop-link-test.true, c.in_ok-push.ensures.items) a

pub returns : goal.returns
returns c = subst (λ (z : List Link). AreLinksIn c.args.clauses c.args.places.now z c.loop-link.found.items) (take_all c.loop-link.link-index c.args.links.now c.loop-link-test.false) c.loop-link.invariant
