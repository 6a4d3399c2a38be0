use Rattle.std.proofs.Common.{sym, ◌∙◌, ap, take, drop}
use Rattle.svr_lex.proofs.Firsts.{blank_sound, blank_gap}
use Rattle.svr_lex.proofs.Lexemes.{name_front}
use Rattle.svr_lex.proofs.front.front_of.Goals as goal

pub returns-then-is_blank_byte : goal.returns-then-is_blank_byte
returns-then-is_blank_byte c =
    let first = c.in-Some.ensures.cases.0 in
    let blank = sym c.is_blank_byte.ensures ∙ c.if-is_blank_byte.true in
    (blank_sound _ _ _ first blank, blank_gap _ _ _ _ _ first blank (c.split_at.ensures.front ∙ ap (take 1) first) (c.split_at.ensures.back ∙ ap (drop 1) first))

pub returns-then-may_start_name : goal.returns-then-may_start_name
returns-then-may_start_name c = name_front _ _ _ _ _ c.in-Some.ensures.cases.0 (sym c.may_start_name.ensures ∙ c.if-may_start_name.true) c.split_while.ensures
