-- What the code keeps of blocks, as what is known of them with the first refusal only.
use Rattle.std.specs.Prelude.{ℕ, List, Option, option_map, map}
use Rattle.svr_typed.specs.ClassTerm.{block_terms, block_term}
use Rattle.svr_elab_fault.specs.declared.Fault.{Fault}
use Rattle.svr_elab_names.specs.Tables.{bytes_of}
use Rattle.svr_elab_block.specs.Blocks.{BodyElab, BodiesElab}
use Rattle.svr_elab_block.specs.Chain.{all_orders}
use Rattle.svr_elab_block.specs.declared.part.BodyPart.{BodyPart}
use Rattle.svr_elab_block.specs.declared.part.BodiesPart.{BodiesPart}

abbrev pub body_part : BodyPart → BodyElab (Option Fault)
body_part p = record {
  own = map bytes_of p.own.keys;
  named = map bytes_of p.named.keys;
  blocks = option_map (map block_term) p.blocks;
  orders = p.orders;
  faults = p.fault;
}

-- `text`: the name that each token is
abbrev pub bodies_part : (ℕ → List ℕ) → BodiesPart → BodiesElab (Option Fault)
bodies_part text p = record { blocks = option_map (map block_terms) p.blocks; orders = all_orders text p.orders; faults = p.fault }
