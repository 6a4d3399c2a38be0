use Rattle.std.proofs.Common.{sym, ◌∙◌}
use Rattle.svr_lrat_text.proofs.Tokens.{next_read}
use Rattle.svr_lrat_text.proofs.cursor.Cursor.next.Goals as goal

pub returns : goal.returns
returns c =
    sym c.self.view_is
    ∙ next_read c.self.inside.at c.front_len.result c.front_len-2.result c.self.inside.rest.now c.split_at.result.0.now c.split_at.result.1.now c.split_at-2.result.0.now c.split_at-2.result.1.now c.token_word.result
    c.front_len.ensures.within c.front_len.ensures.passes c.front_len.ensures.stops c.split_at.ensures.front c.split_at.ensures.back
    c.front_len-2.ensures.within c.front_len-2.ensures.passes c.front_len-2.ensures.stops c.split_at-2.ensures.front c.split_at-2.ensures.back c.token_word.ensures
