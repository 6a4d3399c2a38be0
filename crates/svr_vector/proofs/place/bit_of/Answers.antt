use Rattle.std.proofs.Common.{arith}
use Rattle.std.specs.Int.{w128}
use Rattle.std.proofs.lemmas.Int.{to_z-of_z}
use Rattle.svr_vector.proofs.place.bit_of.Goals as goal

pub known_number-requires : goal.known_number-requires
known_number-requires c = record { few = c.requires.few; within = c.requires.index_within }

pub overflow_cast-index : goal.overflow_cast-index
overflow_cast-index c = omega (arith, c.requires.few)

pub read-requires : goal.read-requires
read-requires c = record { low = c.requires.some; high = c.requires.few; fits = c.in-Some.ensures.1 }

pub bit_at-requires : goal.bit_at-requires
bit_at-requires c = c.requires.within

pub some_bit-requires : goal.some_bit-requires
some_bit-requires c = record {
  some = c.requires.some;
  few = c.requires.few;
  long = c.requires.long;
  index_within = c.requires.index_within;
  within = c.requires.within;
  low_from = rw (to_z-of_z w128 c.args.low c.ranges.low) c.requires.low_from;
  low_to = rw (to_z-of_z w128 c.args.low c.ranges.low) c.requires.low_to;
}

pub returns-in-None-clause-extends : goal.returns-in-None-clause-extends
returns-in-None-clause-extends c = c.some_bit.ensures.extends

pub returns-in-None-clause-value : goal.returns-in-None-clause-value
returns-in-None-clause-value c = rw (to_z-of_z w128 c.args.low c.ranges.low) at c.some_bit.ensures.value
