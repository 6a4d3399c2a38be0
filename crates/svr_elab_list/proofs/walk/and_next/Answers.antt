use Rattle.svr_elab_list.proofs.Forms.{grown_is, next_is}
use Rattle.svr_elab_list.proofs.walk.and_next.Goals as goal

pub returns-clause-value : goal.returns-clause-value
returns-clause-value c =
    grown_is c.and_made-grown.result c.and_stmt.result _ _ _ _ c.and.ensures c.and_made-grown.ensures c.and_stmt.ensures.value (λ p e h. next_is _ _ c.args.next.makes _ p e (h _))

pub returns-clause-most : goal.returns-clause-most
returns-clause-most c = grown_is c.and_made-grown.result c.and_stmt.result _ _ _ _ c.and.ensures c.and_made-grown.ensures c.and_stmt.ensures.most (λ p e h. h)

pub returns-clause-keys : goal.returns-clause-keys
returns-clause-keys c = grown_is c.and_made-grown.result c.and_stmt.result _ _ _ _ c.and.ensures c.and_made-grown.ensures c.and_stmt.ensures.most (λ p e h. e)
