-- The design that was worked out by hand is lawful, however often the call is made within the limit.
use Rattle.std.proofs.Common.{◌≤◌, ◌<◌, ◌^◌, ℕ, true, false, List, [], ◌∷◌, ◌++◌, Some, pos, codes, refl, inr, arith}
use Rattle.svr_operator.specs.declared.Rand.TheVariants as rand
use Rattle.svr_operator.specs.declared.BinOp.TheVariants as bin
use Rattle.svr_typed.specs.declared.ArrayKind.TheVariants as array
use Rattle.svr_typed.specs.declared.CallList.TheVariants as call_list
use Rattle.svr_typed.specs.declared.Prop.{Prop}
use Rattle.svr_typed.specs.ExprTerm as node
use Rattle.svr_typed.specs.ExprTerm.{ExprTerm}
use Rattle.svr_typed.specs.ItemTerm as item
use Rattle.svr_typed.specs.ItemTerm.{items_of}
use Rattle.svr_flat.specs.Flat.{flat_class_of}
use Rattle.svr_eval.specs.Typed.{IsTyped}
use Rattle.svr_eval.specs.Holds.{ItemsAreTyped}
use Rattle.svr_design.specs.Types.{IsEnum, IsKind, IsProp}
use Rattle.svr_design.specs.Constraints.{Stands, ItemStands, ItemsStand}
use Rattle.svr_design.specs.Statements.{Value, IsCall, AllStmtsStand}
use Rattle.svr_design.specs.Lawful.{IsLawful, IsClass}
use Rattle.svr_design.specs.Examples.{Choices, as_written, design, kinds, bits, property, base_class, packet_class, base_props, packet_props, base_items, packet_items, each_element, four_bits, x_read, n_read, h_read, number, loop, read, compared, hard, statements}

abbrev times : ℕ → Choices
times n = record as_written { times = n }

-- the properties of the derived class
abbrev all_props : List Prop
all_props = base_props as_written ++ packet_props as_written

-- ---- expressions

number_typed : (v : ℕ) → v < 2 ^ 32 → IsTyped (number v)
number_typed v h = (omega arith, omega arith, refl, refl, h)

loop_typed : (k : ℕ) → IsTyped (loop k)
loop_typed k = (omega arith, omega arith, refl, refl, tt)

prop_typed : (w p : ℕ) → 1 ≤ w → w ≤ 64 → IsTyped (read w (node.prop p))
prop_typed w p low high = (low, high, refl, refl, tt)

less_typed : (l r : ExprTerm) → IsTyped l → IsTyped r → IsTyped (compared bin.Less l r)
less_typed l r x y = (omega arith, omega arith, refl, refl, (x, y))

n_typed : IsTyped n_read
n_typed = (omega arith, omega arith, refl, refl, tt)

x_typed : IsTyped (x_read as_written)
x_typed = prop_typed 4 0 (omega arith) (omega arith)

h_typed : IsTyped h_read
h_typed = prop_typed 8 4 (omega arith) (omega arith)

small : (v : ℕ) → v ≤ 100 → v < 2 ^ 32
small v h = omega arith

number_fits : (v : ℕ) → v ≤ 100 → IsTyped (number v)
number_fits v h = number_typed v (small v h)

-- ---- items

base_typed : ItemsAreTyped (base_items as_written)
base_typed = (
  (less_typed (x_read as_written) (number 5) x_typed (number_fits 5 (omega arith)), tt),
  ((less_typed (read 2 (node.prop 1)) (number 3) (prop_typed 2 1 (omega arith) (omega arith)) (number_fits 3 (omega arith)), tt), tt),
)

cell_typed : IsTyped (read 8 (node.cell 3 2 (loop 1) (loop 0)))
cell_typed = (omega arith, omega arith, refl, refl, (omega arith, loop_typed 1, loop_typed 0))

element_typed : IsTyped (compared bin.Greater (read 8 (node.cell 3 2 (loop 1) (loop 0))) (number 3))
element_typed = (omega arith, omega arith, refl, refl, (cell_typed, number_fits 3 (omega arith)))

bits_typed : IsTyped (four_bits as_written)
bits_typed = (omega arith, omega arith, refl, refl, (h_typed, number_fits 7 (omega arith), number_fits 4 (omega arith), tt, tt, refl))

equal_typed : IsTyped (compared bin.Equal (four_bits as_written) (x_read as_written))
equal_typed = (omega arith, omega arith, refl, refl, (bits_typed, x_typed))

bit_typed : IsTyped (read 1 (node.bit_select h_read (read 2 (node.prop 2)) (pos 4)))
bit_typed = (omega arith, omega arith, refl, refl, (h_typed, prop_typed 2 2 (omega arith) (omega arith)))

packet_typed : ItemsAreTyped (packet_items as_written)
packet_typed = (
  (omega arith, inr refl, ((element_typed, tt), tt)),
  ((equal_typed, tt), ((bit_typed, tt), tt)),
)

-- ---- classes

enum_is : IsEnum (kinds as_written)
enum_is = record {
  plain = refl;
  some = omega arith;
  few = omega arith;
  low = omega arith;
  high = omega arith;
  fit = (omega arith, (omega arith, tt));
  differ = (refl, (refl, tt));
}

bits_are : (w : ℕ) → 1 ≤ w → w ≤ 64 → IsKind (kinds as_written ∷ []) (bits w)
bits_are w low high = record { low = low; high = high; members = tt }

x_is : IsProp (kinds as_written ∷ []) (record (property (codes "x") (bits 4) rand.Rand true) { first = 15 })
x_is = record { kind = bits_are 4 (omega arith) (omega arith); size = tt; inner = refl; cycle = tt; first = omega arith; low = omega arith }

c_is : IsProp (kinds as_written ∷ []) (property (codes "c") (bits 2) rand.Randc true)
c_is = record { kind = bits_are 2 (omega arith) (omega arith); size = tt; inner = refl; cycle = (refl, omega arith); first = omega arith; low = omega arith }

k_is : IsProp (kinds as_written ∷ []) (property (codes "k") (record { width = 2; signed = false; members = Some 0 }) rand.State false)
k_is = record { kind = record { low = omega arith; high = omega arith; members = (refl, refl) }; size = tt; inner = refl; cycle = tt; first = omega arith; low = omega arith }

d_is : IsProp (kinds as_written ∷ []) (record (property (codes "d") (bits 8) rand.Rand true) { array = array.Fixed 4; inner = 2 })
d_is = record {
  kind = bits_are 8 (omega arith) (omega arith);
  size = (omega arith, omega arith);
  inner = (omega arith, record { rows = 2; product = refl });
  cycle = tt;
  first = refl;
  low = omega arith;
}

h_is : IsProp (kinds as_written ∷ []) (record (property (codes "h") (bits 8) rand.State true) { low = pos 4 })
h_is = record { kind = bits_are 8 (omega arith) (omega arith); size = tt; inner = refl; cycle = tt; first = omega arith; low = omega arith }

base_is : (n : ℕ) → IsClass (design (times n)) 0 (base_class as_written)
unfolding flat_class_of
base_is n = record {
  base = tt;
  props = (x_is, (c_is, (k_is, tt)));
  blocks = ((base_typed, ((((refl, (refl, refl)), tt), tt, refl), ((((refl, (refl, refl)), tt), tt, refl), tt))), tt);
  can = (refl, (refl, (refl, tt)));
  few = omega arith;
  few_arrays = omega arith;
  few_blocks = omega arith;
  differ = (refl, (refl, (refl, tt)));
}

-- ---- a class with what it inherits

cell_stands : Stands all_props [] 2 (read 8 (node.cell 3 2 (loop 1) (loop 0)))
cell_stands = ((refl, refl, (refl, refl)), omega arith, omega arith)

foreach_stands : ItemStands all_props [] 0 false false (item.foreach 3 2 2 (items_of (each_element as_written ∷ [])))
foreach_stands = ((refl, refl), inr (refl, refl), omega arith, (((cell_stands, tt), tt, refl), tt))

h_stands : Stands all_props [] 0 h_read
h_stands = (refl, (refl, refl))

bits_stand : Stands all_props [] 0 (four_bits as_written)
bits_stand = (h_stands, refl, tt, tt, (refl, refl, refl))

bit_stands : Stands all_props [] 0 (read 1 (node.bit_select h_read (read 2 (node.prop 2)) (pos 4)))
bit_stands = (h_stands, refl, (refl, (refl, refl)), refl)

packet_stands : ItemsStand all_props [] 0 false false (packet_items as_written)
packet_stands = (foreach_stands, (((bits_stand, (refl, (refl, refl))), tt, refl), ((bit_stands, tt, refl), tt)))

packet_is : (n : ℕ) → IsClass (design (times n)) 1 (packet_class as_written)
unfolding flat_class_of
packet_is n = record {
  base = omega arith;
  props = (d_is, (h_is, tt));
  blocks = ((packet_typed, packet_stands), tt);
  can = (refl, (refl, (refl, (refl, (refl, tt)))));
  few = omega arith;
  few_arrays = omega arith;
  few_blocks = omega arith;
  differ = (refl, (refl, (refl, (refl, (refl, tt)))));
}

-- ---- statements

n_reads : (n : ℕ) → Value (design (times n)) n_read
n_reads n = (n_typed, (refl, refl))

call_is : (n : ℕ) → IsCall (design (times n)) (record { object = 1; list = call_list.Listed (0 ∷ 4 ∷ []); items = items_of (hard (compared bin.Less (x_read as_written) n_read) ∷ []); answer = Some 0 })
unfolding flat_class_of
call_is n = record {
  object = tt;
  list = ((omega arith, (omega arith, tt)), (refl, (refl, tt)));
  typed = ((less_typed (x_read as_written) n_read x_typed n_typed, tt), tt);
  stands = ((((refl, (refl, refl)), (refl, refl)), tt, refl), tt);
  answer = refl;
}

stmts_stand : (n : ℕ) → n < 2 ^ 32 → AllStmtsStand (design (times n)) (statements (times n))
unfolding flat_class_of
stmts_stand n h = (tt, ((tt, refl, n_reads n), ((h, call_is n), tt)))

pub lawful : (n : ℕ) → n ≤ 99997 → IsLawful (design (times n))
lawful n h = record {
  enums = (enum_is, tt);
  classes = (base_is n, (packet_is n, tt));
  vars = (record { low = omega arith; high = omega arith; members = tt }, (omega arith, tt));
  stmts = stmts_stand n (omega arith);
  made = (tt, ((refl, tt, tt), (refl, tt)));
  few_objects = omega arith;
  few_others = omega arith;
  few_stmts = omega arith;
}
