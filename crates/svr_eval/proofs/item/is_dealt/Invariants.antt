use Rattle.std.proofs.Common.{◌≡◌, List, length, drop}
use Rattle.svr_typed.specs.ExprTerm.{expr_term}
use Rattle.svr_typed.specs.ItemTerm.{DistTerm, dist_terms}
use Rattle.svr_eval.specs.Reading.{reading_of}
use Rattle.svr_eval.specs.Holds as spec
use Rattle.svr_eval.proofs.item.is_dealt.Given as goal

abbrev pub invariant-loop-d : goal.invariant-loop-d
invariant-loop-d l =
    let dealt = λ (members : List DistTerm). spec.is_dealt (reading_of l.a) l.env (expr_term l.e) members in
    record {
      typed : spec.MembersAreTyped (dist_terms (drop l.d-index l.dist));
      reads : spec.MembersCanRead (reading_of l.a) (length l.env) (dist_terms (drop l.d-index l.dist));
      same : dealt (dist_terms (drop l.d-index l.dist)) ≡ dealt (dist_terms l.dist);
    }
