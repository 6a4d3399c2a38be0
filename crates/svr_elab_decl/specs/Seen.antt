-- What the code keeps of properties, as what is known of them with the first refusal only.
use Rattle.std.specs.Prelude.{Option}
use Rattle.svr_elab_fault.specs.declared.Fault.{Fault}
use Rattle.svr_elab_decl.specs.Properties as property
use Rattle.svr_elab_decl.specs.Properties.{DimsElab, UsedElab}
use Rattle.svr_elab_decl.specs.declared.dims.DimsPart.{DimsPart}
use Rattle.svr_elab_decl.specs.declared.property.Before.{Before}
use Rattle.svr_elab_decl.specs.declared.used.Used.{Used}
use Rattle.svr_elab_decl.specs.declared.used.Used.TheVariants as used
use Rattle.svr_elab_decl.specs.declared.used.UsedPart.{UsedPart}

abbrev pub dims_part : DimsPart → DimsElab (Option Fault)
dims_part d = record { dims = d.dims; faults = d.fault }

abbrev pub before_of : Before → property.Before
before_of b = record { props = b.props; arrays = b.arrays; inherits = b.inherits; doubles = b.doubles; wide = b.wide }

abbrev pub used_of : Used → property.Used
used_of (used.Numbers kind) = property.numbers kind
used_of (used.Objects c) = property.objects c
used_of used.Unnamed = property.unnamed

abbrev pub used_part : UsedPart → UsedElab (Option Fault)
used_part u = record { used = used_of u.used; faults = u.fault }
