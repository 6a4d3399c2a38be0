use Rattle.std.proofs.Common.{Some, codes}
use Rattle.std.proofs.lemmas.Bool.Decides.{Decides-eqb}
use Rattle.std.proofs.lemmas.Slice.Eq.{strip_prefix_is}
use Rattle.svr_lex.proofs.Comments.{open_at}
use Rattle.svr_lex.proofs.Cuts.{line_at, block_at}
use Rattle.svr_lex.proofs.front.slash.Goals as goal

pub returns-in-Some : goal.returns-in-Some
returns-in-Some c =
    line_at _ _ _ _ _ _ _ c.requires (strip_prefix_is Decides-eqb c.args.more.now (codes "/") (Some c.in-Some.behind) c.in-Some.ensures.cases)
    c.split_while.ensures c.split_at.ensures.front c.split_at.ensures.back

pub returns-in-Some-comment_body : goal.returns-in-Some-comment_body
returns-in-Some-comment_body c =
    block_at _ _ _ _ _ _ _ c.requires (strip_prefix_is Decides-eqb c.args.more.now (codes "*") (Some c.in-Some-strip_prefix.behind) c.in-Some-strip_prefix.ensures.cases)
    c.in-Some-comment_body.ensures.found.1 c.split_at-in-Some-comment_body.ensures.front c.split_at-in-Some-comment_body.ensures.back

pub returns-in-None : goal.returns-in-None
returns-in-None c =
    open_at _ _ _ c.requires (strip_prefix_is Decides-eqb c.args.more.now (codes "*") (Some c.in-Some-strip_prefix.behind) c.in-Some-strip_prefix.ensures.cases) c.in-None.ensures.none
