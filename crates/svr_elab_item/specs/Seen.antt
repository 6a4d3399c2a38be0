-- What the code keeps of items, as what is known of them with the first refusal only.
use Rattle.std.specs.Prelude.{ℕ, List, Option, option_map, map}
use Rattle.svr_operator.specs.declared.Share.{Share}
use Rattle.svr_typed.specs.declared.TItem.{TItem}
use Rattle.svr_typed.specs.ExprTerm.{expr_term}
use Rattle.svr_typed.specs.ItemTerm.{ElseTerm, item_term, dist_term, else_of}
use Rattle.svr_elab_fault.specs.declared.Fault.{Fault}
use Rattle.svr_elab_part.specs.declared.Part.{Part}
use Rattle.svr_elab_part.specs.Elab.{Elab}
use Rattle.svr_elab_part.specs.Seen.{part_of}
use Rattle.svr_elab_item.specs.Items.{ItemElab, ItemsElab, ElseElab, DistElab, UniqueElab, SolveElab}
use Rattle.svr_elab_item.specs.declared.part.ItemPart.{ItemPart}
use Rattle.svr_elab_item.specs.declared.part.ItemsPart.{ItemsPart}
use Rattle.svr_elab_item.specs.declared.part.ElsePart.{ElsePart}
use Rattle.svr_elab_item.specs.declared.part.DistPart.{DistPart}
use Rattle.svr_elab_item.specs.declared.part.UniquePart.{UniquePart}
use Rattle.svr_elab_item.specs.declared.part.SolvePart.{SolvePart}

abbrev pub item_part : ItemPart → ItemElab (Option Fault)
item_part p = record { tree = option_map item_term p.tree; faults = p.fault }

abbrev pub items_part : ItemsPart → ItemsElab (Option Fault)
items_part p = record { trees = option_map (map item_term) p.trees; faults = p.fault }

-- the items behind `else`, where it stands
abbrev pub else_term : Option (List TItem) → ElseTerm
else_term is = else_of (option_map (map item_term) is)

abbrev pub else_part : ElsePart → ElseElab (Option Fault)
else_part p = record { tree = option_map else_term p.tree; faults = p.fault }

abbrev pub weight_part : Share × Part → Share × Elab (Option Fault)
weight_part w = (w.0, part_of w.1)

abbrev pub dist_part : DistPart → DistElab (Option Fault)
dist_part p = record { tree = option_map (map dist_term) p.tree; faults = p.fault; cyclic = p.cyclic }

-- a distribution behind its token
abbrev pub dist_at : ℕ × DistPart → ℕ × DistElab (Option Fault)
dist_at d = (d.0, dist_part d.1)

abbrev pub unique_part : UniquePart → UniqueElab (Option Fault)
unique_part p = record { trees = option_map (map expr_term) p.trees; first = p.first; faults = p.fault }

abbrev pub solve_part : SolvePart → SolveElab (Option Fault)
solve_part p = record { trees = option_map (map expr_term) p.trees; faults = p.fault }
