use Rattle.std.proofs.Common.{◌≡◌, List, Bool, true, sym, subst}
use Rattle.std.specs.Prelude.{slice_index_or}
use Rattle.svr_effect.proofs.Flats.{set_wanted}
use Rattle.svr_effect.proofs.classes.want_fork.Goals as goal

pub returns-then-is_wanted : goal.returns-then-is_wanted
returns-then-is_wanted c = λ k h.
    subst (λ (ws : List Bool). slice_index_or ws k true ≡ true) (sym c.want.ensures) (set_wanted c.args.wanted.now.items c.in-Some.base k h)
