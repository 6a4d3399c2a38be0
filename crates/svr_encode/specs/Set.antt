-- Where the left side of a set membership stands among the parts
use Rattle.std.specs.Prelude.{◌≡◌, ◌<◌, [], List, length, map, get_or}
use Rattle.std.specs.List.{All}
use Rattle.svr_typed.specs.ExprTerm.{ExprTerm}
use Rattle.svr_encode.specs.declared.set.Place.{Place}
use Rattle.svr_encode.specs.declared.set.Set.{Set}
use Rattle.svr_encode.specs.Parts.{PartTerm, part_term, in_context, AreRepeats}

-- at the place stands this expression, at the width and the sign
pub record IsPlaceOf (tree : ExprTerm) (parts : List PartTerm) (l : Place) : Type 0 where
  pub below : l.at < length parts
  pub same : get_or parts l.at (in_context l.width l.signed tree) ≡ in_context l.width l.signed tree

pub record IsSetOf (tree : ExprTerm) (s : Set) : Type 0 where
  pub repeats : AreRepeats [] s.parts.items
  pub lefts : All (IsPlaceOf tree (map part_term s.parts.items)) s.lefts.items
