-- The design with each form of item and of statement is lawful.
use Rattle.std.proofs.Common.{◌≤◌, ℕ, Bool, true, false, List, [], ◌∷◌, pos, codes, refl, inl, inr, arith}
use Rattle.svr_operator.specs.declared.Rand.TheVariants as rand
use Rattle.svr_operator.specs.declared.BinOp.TheVariants as bin
use Rattle.svr_typed.specs.declared.ArrayKind.TheVariants as array
use Rattle.svr_typed.specs.ExprTerm as node
use Rattle.svr_typed.specs.ExprTerm.{ExprTerm}
use Rattle.svr_typed.specs.ItemTerm as item
use Rattle.svr_typed.specs.ItemTerm.{ItemTerm, items_of}
use Rattle.svr_flat.specs.Flat.{flat_class_of}
use Rattle.svr_eval.specs.Typed.{IsTyped}
use Rattle.svr_eval.specs.Holds.{ItemIsTyped, ItemsAreTyped}
use Rattle.svr_design.specs.Types.{IsKind, IsProp}
use Rattle.svr_design.specs.Constraints.{Stands, ItemStands, ItemsStand}
use Rattle.svr_design.specs.Statements.{Value, AllStmtsStand, AllFollow}
use Rattle.svr_design.specs.Lawful.{IsLawful, IsClass}
use Rattle.svr_design.specs.Examples.{bits, property, read, number, compared, loop, hard}
use Rattle.svr_design.specs.Forms.{as_listed, forms, byte, dealt_item, unique_item, no_s, member_of_d, size_of_d, branch_item, twice, foreach_item, sum_of_d, joined, chosen, items, props, class, statements, n, element_of_f, size_in_p, n_in_f}

-- ---- expressions

byte_typed : (p : ℕ) → IsTyped (byte p)
byte_typed p = (omega arith, omega arith, refl, refl, tt)

number_typed : (v : ℕ) → v ≤ 100 → IsTyped (number v)
number_typed v h = (omega arith, omega arith, refl, refl, omega arith)

loop_typed : (k : ℕ) → IsTyped (loop k)
loop_typed k = (omega arith, omega arith, refl, refl, tt)

size_typed : IsTyped size_of_d
size_typed = (omega arith, omega arith, refl, refl, omega arith)

element_typed : (p : ℕ) (i : ExprTerm) → IsTyped i → IsTyped (read 8 (node.element p i))
element_typed p i h = (omega arith, omega arith, refl, refl, h)

n_typed : IsTyped n
n_typed = (omega arith, omega arith, refl, refl, tt)

-- ---- items are typed

dealt_typed : ItemIsTyped (dealt_item as_listed)
dealt_typed = (byte_typed 0, (byte_typed 2, byte_typed 2, ((number_typed 1 (omega arith), tt), number_typed 2 (omega arith), tt)))

unique_typed : ItemIsTyped (unique_item as_listed)
unique_typed = (byte_typed 0, (byte_typed 1, (byte_typed 3, tt)))

no_s_typed : IsTyped no_s
no_s_typed = (omega arith, omega arith, refl, refl, byte_typed 2)

member_typed : IsTyped member_of_d
member_typed = (omega arith, omega arith, refl, refl, (byte_typed 0, (byte_typed 3, ((byte_typed 1, number_typed 9 (omega arith)), tt))))

less_typed : IsTyped (compared bin.Less size_of_d (number 2))
less_typed = (omega arith, omega arith, refl, refl, (size_typed, number_typed 2 (omega arith)))

branch_typed : ItemIsTyped (branch_item as_listed)
branch_typed = (byte_typed 2, (element_typed 3 (byte 2) (byte_typed 2), tt), ((less_typed, tt), tt))

half_typed : IsTyped (read 4 (node.part_select (byte 2) (number 3) (number 0) (pos 0)))
half_typed = (omega arith, omega arith, refl, refl, (byte_typed 2, number_typed 3 (omega arith), number_typed 0 (omega arith), tt, tt, refl))

twice_typed : IsTyped twice
twice_typed = (omega arith, omega arith, refl, refl, (number_typed 2 (omega arith), tt, (half_typed, tt), refl, refl))

foreach_typed : ItemIsTyped (foreach_item as_listed)
foreach_typed = (omega arith, inl refl, (((omega arith, omega arith, refl, refl, (byte_typed 0, twice_typed)), tt), tt))

sum_typed : IsTyped sum_of_d
sum_typed = (omega arith, omega arith, refl, refl, element_typed 3 (loop 0) (loop_typed 0))

joined_typed : IsTyped joined
joined_typed = (omega arith, omega arith, refl, refl, ((omega arith, omega arith, refl, refl, (byte_typed 2, number_typed 1 (omega arith))), ((omega arith, omega arith, refl, refl, omega arith), tt)))

chosen_typed : IsTyped chosen
chosen_typed = (omega arith, omega arith, refl, refl, (omega arith, omega arith, refl, refl, (byte_typed 1, byte_typed 0, byte_typed 2)))

minus_typed : IsTyped (read 8 (node.binary bin.Subtract joined chosen))
minus_typed = (omega arith, omega arith, refl, refl, (joined_typed, chosen_typed))

equal_typed : IsTyped (compared bin.Equal sum_of_d (read 8 (node.binary bin.Subtract joined chosen)))
equal_typed = (omega arith, omega arith, refl, refl, (sum_typed, minus_typed))

items_typed : ItemsAreTyped (items as_listed)
items_typed = (dealt_typed, (unique_typed, ((no_s_typed, ((member_typed, tt), tt)), (branch_typed, (foreach_typed, ((equal_typed, tt), (((byte_typed 0, tt), (byte_typed 1, tt)), tt)))))))

-- ---- items stand

dealt_stands : ItemStands props [] 0 false false (dealt_item as_listed)
dealt_stands = ((refl, (refl, refl)), (((refl, (refl, refl)), ((refl, (refl, refl)), refl), ((tt, tt), (tt, refl), tt)), refl, refl), refl)

unique_stands : ItemStands props [] 0 false false (unique_item as_listed)
unique_stands = (inl (refl, (refl, refl)), refl, refl, refl, (inl (refl, (refl, refl)), refl, refl, refl, (inr (refl, (refl, refl)), refl, refl, refl, tt)))

implies_stands : ItemStands props [] 0 false false (item.implies no_s (items_of (hard member_of_d ∷ [])))
implies_stands = ((refl, (refl, refl)), ((((refl, (refl, refl)), (inr (refl, (refl, refl)), (((refl, (refl, refl)), tt), tt))), tt, refl), tt))

branch_stands : ItemStands props [] 0 false false (branch_item as_listed)
branch_stands = (
  (refl, (refl, refl)),
  (((((refl, (refl, refl)), inl (refl, refl), (refl, (refl, refl))), refl), refl), tt),
  ((((refl, refl), tt), tt, refl), tt),
)

foreach_stands : ItemStands props [] 0 false false (foreach_item as_listed)
foreach_stands = (
  (refl, refl),
  inl refl,
  omega arith,
  ((((refl, (refl, refl)), (tt, (((refl, (refl, refl)), refl, tt, tt, (refl, refl, refl)), tt))), tt, refl), tt),
)

sum_stands : Stands props [] 0 sum_of_d
sum_stands = (omega arith, refl, ((refl, (refl, refl)), inl (refl, refl), omega arith))

joined_stands : Stands props [] 0 joined
joined_stands = (((refl, (refl, refl)), refl, tt, refl), (tt, tt))

chosen_stands : Stands props [] 0 chosen
chosen_stands = ((refl, (refl, refl)), (refl, (refl, refl)), (refl, (refl, refl)))

items_stand : ItemsStand props [] 0 false false (items as_listed)
items_stand = (
  dealt_stands,
  (
    unique_stands,
    (
      implies_stands,
      (
        branch_stands,
        (
          foreach_stands,
          (
            ((sum_stands, (joined_stands, chosen_stands)), tt, refl),
            ((((refl, (refl, refl)), refl, tt), ((refl, (refl, refl)), refl, tt)), tt),
          ),
        ),
      ),
    ),
  ),
)

-- ---- the class

bits_are : IsKind [] (bits 8)
bits_are = record { low = omega arith; high = omega arith; members = tt }

scalar_is : (name : List ℕ) (can : Bool) → IsProp [] (property name (bits 8) rand.Rand can)
scalar_is name can = record { kind = bits_are; size = tt; inner = refl; cycle = tt; first = omega arith; low = omega arith }

s_is : IsProp [] (property (codes "s") (bits 8) rand.State false)
s_is = record { kind = bits_are; size = tt; inner = refl; cycle = tt; first = omega arith; low = omega arith }

d_is : IsProp [] (record (property (codes "d") (bits 8) rand.Rand true) { array = array.Dynamic })
d_is = record { kind = bits_are; size = tt; inner = refl; cycle = tt; first = refl; low = omega arith }

f_is : IsProp [] (record (property (codes "f") (bits 8) rand.State false) { array = array.Fixed 3 })
f_is = record { kind = bits_are; size = (omega arith, omega arith); inner = (omega arith, record { rows = 3; product = refl }); cycle = tt; first = refl; low = omega arith }

class_is : IsClass (forms as_listed) 0 (class as_listed)
unfolding flat_class_of
class_is = record {
  base = tt;
  props = (scalar_is (codes "a") true, (scalar_is (codes "b") true, (s_is, (d_is, (f_is, tt)))));
  blocks = ((items_typed, items_stand), tt);
  can = (refl, (refl, (refl, (refl, (refl, tt)))));
  few = omega arith;
  few_arrays = omega arith;
  few_blocks = omega arith;
  differ = (refl, (refl, (refl, (refl, (refl, tt)))));
}

-- ---- statements

number_value : (v : ℕ) → v ≤ 100 → Value (forms as_listed) (number v)
number_value v h = (number_typed v h, tt)

n_value : Value (forms as_listed) n
n_value = (n_typed, (refl, refl))

element_value : Value (forms as_listed) element_of_f
unfolding flat_class_of
element_value = ((omega arith, omega arith, refl, refl, element_typed 4 (number 1) (number_typed 1 (omega arith))), (tt, ((refl, (refl, refl)), tt)))

size_value : Value (forms as_listed) size_in_p
unfolding flat_class_of
size_value = ((omega arith, omega arith, refl, refl, size_typed), (tt, (refl, refl)))

inside_value : Value (forms as_listed) n_in_f
unfolding flat_class_of
inside_value = (
  (omega arith, omega arith, refl, refl, (n_typed, ((omega arith, omega arith, refl, refl, byte_typed 4), tt))),
  ((refl, refl), (inl (tt, (refl, (refl, refl))), tt)),
)

stmts_stand : AllStmtsStand (forms as_listed) (statements as_listed)
unfolding flat_class_of
stmts_stand =
    let one = number_typed 1 (omega arith) in
    let two = number_typed 2 (omega arith) in
    let three = number_typed 3 (omega arith) in (
      tt,
      (
        (tt, refl, omega arith),
        (
          (tt, (refl, refl), ((one, (two, (three, tt))), (tt, (tt, (tt, tt))))),
          (
            (tt, (refl, n_value), element_value),
            (
              (refl, size_value),
              (
                (tt, tt, number_value 0 (omega arith)),
                (
                  (tt, omega arith, number_value 1 (omega arith)),
                  (
                    (tt, omega arith, inside_value),
                    ((record { object = tt; list = tt; typed = tt; stands = tt; answer = tt }, tt), tt),
                  ),
                ),
              ),
            ),
          ),
        ),
      ),
    )

follow : AllFollow [] (statements as_listed)
follow = (tt, (refl, ((refl, (tt, (tt, (tt, tt)))), ((refl, tt, (refl, tt)), ((refl, tt), ((refl, tt), ((refl, tt), ((refl, (tt, ((refl, tt), tt))), ((refl, tt), tt)))))))))

pub lawful : IsLawful (forms as_listed)
lawful = record {
  enums = tt;
  classes = (class_is, tt);
  vars = (omega arith, (record { low = omega arith; high = omega arith; members = tt }, tt));
  stmts = stmts_stand;
  made = follow;
  few_objects = omega arith;
  few_others = omega arith;
  few_stmts = omega arith;
}
