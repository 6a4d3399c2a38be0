-- The literals that a proof assumes, put together from their parts
use Rattle.std.specs.Prelude.{List, ◌++◌, take}
use Rattle.std.specs.Rc.{rc_slice_items}
use Rattle.svr_chain.specs.declared.clause.Lit.{Lit}
use Rattle.svr_phase.specs.declared.assumed.Parts.{Parts}
use Rattle.svr_phase.specs.declared.assumed.Parts.TheVariants as parts

abbrev pub lits_of : Parts → List Lit
lits_of (parts.Own own) = own.items
lits_of (parts.Between front own back) = rc_slice_items front ++ own.items ++ rc_slice_items back
lits_of (parts.Behind base kept count own) = rc_slice_items base ++ take count (rc_slice_items kept) ++ own.items
