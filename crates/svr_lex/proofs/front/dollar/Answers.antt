use Rattle.std.proofs.Common.{◌≡◌, true, false, sym, ◌∙◌}
use Rattle.svr_lex.proofs.Cuts.{system_at, unknown_at}
use Rattle.svr_lex.proofs.front.dollar.Goals as goal

pub returns-then-is_system_name : goal.returns-then-is_system_name
returns-then-is_system_name c = system_at _ _ _ _ _ _ c.requires c.split_while.ensures c.split_at.ensures.front c.split_at.ensures.back (c.is_system_name.ensures.yes c.if-is_system_name.true)

pub returns-else-is_system_name : goal.returns-else-is_system_name
returns-else-is_system_name c =
    unknown_at _ _ _ _ _ c.requires c.split_while.ensures (c.starts_name.ensures.yes c.if-not-starts_name.false) c.split_at.ensures.front
    (λ is. let bad : true ≡ false = sym (c.is_system_name.ensures.no is) ∙ c.if-is_system_name.false in absurd (cc (bad)))
