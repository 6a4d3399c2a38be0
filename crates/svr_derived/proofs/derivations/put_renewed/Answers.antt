use Rattle.std.proofs.Common.{List, sym, subst}
use Rattle.std.specs.List.{All}
use Rattle.svr_phase.specs.declared.proof.Proof.{Proof}
use Rattle.svr_derived.specs.Shown.{IsShown}
use Rattle.svr_derived.proofs.derivations.put_renewed.Goals as goal

pub put_each-requires : goal.put_each-requires
put_each-requires g c = subst (λ (ps : List Proof). All (IsShown c.args.encodings.now) ps) (sym c.as_slice-proofs.ensures) c.requires
