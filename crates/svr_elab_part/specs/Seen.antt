-- What the code keeps of an expression, as what is known of it with the first refusal only.
use Rattle.std.specs.Prelude.{◌≡◌, true, Option, None, option_map, map, MatchOption, ⊤}
use Rattle.svr_typed.specs.ExprTerm.{expr_term, range_term, bound_term}
use Rattle.svr_eval.specs.Typed.{IsTyped, IsConstant}
use Rattle.svr_elab_fault.specs.declared.Fault.{Fault}
use Rattle.svr_elab_part.specs.declared.part.Part.{Part}
use Rattle.svr_elab_part.specs.declared.part.Parts.{Parts}
use Rattle.svr_elab_part.specs.declared.part.RangePart.{RangePart}
use Rattle.svr_elab_part.specs.declared.part.RangesPart.{RangesPart}
use Rattle.svr_elab_part.specs.declared.part.BoundPart.{BoundPart}
use Rattle.svr_elab_part.specs.Elab.{Elab, Elabs, RangeElab, RangesElab, BoundElab}

abbrev pub part_of : Part → Elab (Option Fault)
part_of p = record { at = p.at; shape = p.shape; tree = option_map expr_term p.tree; faults = p.fault; reads = p.reads; form = p.form }

abbrev pub parts_of : Parts → Elabs (Option Fault)
parts_of p = record { trees = option_map (map expr_term) p.trees; total = p.total; faults = p.fault; reads = p.reads }

abbrev pub range_part_of : RangePart → RangeElab (Option Fault)
range_part_of p = record { tree = option_map range_term p.tree; faults = p.fault; reads = p.reads }

abbrev pub ranges_part_of : RangesPart → RangesElab (Option Fault)
ranges_part_of p = record { trees = option_map (map range_term) p.trees; faults = p.fault; reads = p.reads }

abbrev pub bound_part_of : BoundPart → BoundElab (Option Fault)
bound_part_of p = record { tree = option_map bound_term p.tree; faults = p.fault; reads = p.reads }

-- a constant without a refusal has a value, where its tree is known
pub record HasValue (p : Elab (Option Fault)) : Type 0 where
  pub fine : p.reads.constant ≡ true → p.faults ≡ None → MatchOption p.tree ⊤ (λ t. IsTyped t × IsConstant t)
