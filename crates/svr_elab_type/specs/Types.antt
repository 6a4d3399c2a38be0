-- Types and enums, with their refusals (IEEE 1800-2017, 6.11 and 6.19).
use Rattle.std.specs.Prelude.{ℕ, ◌-◌, ◌^◌, ◌==◌, ℤ, pos, ◌-ℤ◌, ◌+ℤ◌, Bool, true, false, not, ◌||◌, nat_lt, nat_le, min, if◌then◌else◌, List, [], ◌∷◌, ◌++◌, length, Option, Some, None, is_none, option_map}
use Rattle.std.specs.List.{list_any}
use Rattle.std.specs.Ordering.{int_eq}
use Rattle.svr_num.specs.Num.{residue}
use Rattle.svr_typed.specs.declared.NumType.{NumType}
use Rattle.svr_typed.specs.declared.EnumMember.{EnumMember}
use Rattle.svr_typed.specs.declared.EnumType.{EnumType}
use Rattle.svr_tree.specs.declared.AtomKind.{AtomKind}
use Rattle.svr_tree.specs.declared.AtomKind.TheVariants as atom_kind
use Rattle.svr_tree.specs.declared.Signing.{Signing}
use Rattle.svr_tree.specs.declared.Signing.TheVariants as signing
use Rattle.svr_tree.specs.ExprTree.{ExprTree}
use Rattle.svr_tree.specs.DeclTree as tree
use Rattle.svr_tree.specs.DeclTree.{PackedRangeTree, IntegerTypeTree, MemberTree, EnumTree, DefinitionTree, TypeTree}
use Rattle.svr_refusal.specs.declared.Refusal.TheVariants as refusal
use Rattle.svr_elab_fault.specs.Refusals.{Gather, when}
use Rattle.svr_elab_names.specs.declared.Vector.{Vector}
use Rattle.svr_elab_names.specs.declared.Global.{Global}
use Rattle.svr_elab_names.specs.declared.Global.TheVariants as global
use Rattle.svr_elab_names.specs.declared.Region.TheVariants as region
use Rattle.svr_elab_names.specs.Names.{Space, GlobalName, ClassName, is_name, global_named}
use Rattle.svr_elab_part.specs.Elab.{Elab, value, known}
use Rattle.svr_limits.specs.declared.limit.TheConstants.{MEMBER_LIMIT}
use Rattle.svr_elab_part.specs.Shapes.{is_less, is_below_zero, count_of, both_known}

-- a number that is to be constant, with its first token
pub record Constant (F : Type 0) : Type 0 where
  pub at : ℕ
  pub number : Option ℤ
  pub faults : F

pub record TypeElab (F : Type 0) : Type 0 where
  pub kind : Option Vector
  pub faults : F

abbrev pub is_signed : Bool → Option Signing → Bool
is_signed default None = default
is_signed default (Some signing.Signed) = true
is_signed default (Some signing.Unsigned) = false

abbrev pub vector : ℕ → Bool → ℤ → Vector
vector w s low = record { kind = record { width = w; signed = s; members = None }; low = low }

-- table 6-8
abbrev pub atom_width : AtomKind → ℕ
atom_width atom_kind.Byte = 8
atom_width atom_kind.ShortInt = 16
atom_width atom_kind.Int = 32
atom_width atom_kind.LongInt = 64
atom_width atom_kind.Integer = 32

-- the number of a bit: from 0, and below 2^63
abbrev pub bit_number : ℤ → Option ℤ
bit_number n = if is_below_zero n || is_less (pos (2 ^ 63 - 1)) n then None else Some n

abbrev pub lowest_bit : Option ℤ → Option ℤ
lowest_bit None = None
lowest_bit (Some n) = bit_number n

-- a bound that is no bit number
abbrev pub is_bad_bound : Option ℤ → Bool
is_bad_bound None = false
is_bad_bound (Some n) = is_none (bit_number n)

abbrev pub ascends : Option ℤ → Option ℤ → Bool
ascends None l = false
ascends (Some m) None = false
ascends (Some m) (Some l) = is_less m l

-- so many bits, where over 64 count as 65
abbrev pub bits_between : ℤ → ℤ → ℕ
bits_between m l = min 65 (count_of (m -ℤ l +ℤ pos 1))

abbrev pub range_width : Option ℤ → Option ℤ → Option ℕ
range_width m l = both_known bits_between m l

abbrev pub is_over_64 : Option ℕ → Bool
is_over_64 None = false
is_over_64 (Some w) = nat_lt 64 w

abbrev pub range_kind : Bool → Bool → Option ℤ → Option ℤ → Option Vector
range_kind bad s m l = if bad then None else both_known (λ w low. vector w s low) (range_width m l) (lowest_bit l)

-- ---- numbers and where they may stand

abbrev pub is_below : ℤ → Option ℤ → Bool
is_below n None = false
is_below n (Some x) = is_less x n

abbrev pub is_other : ℤ → Option ℤ → Bool
is_other n None = false
is_other n (Some x) = is_less x n || is_less n x

-- a count of elements; 2^32 and more, which are refused, count as 2^32 - 1
abbrev pub elements : ℤ → ℕ
elements n = min (count_of n) (2 ^ 32 - 1)

-- a value is, by its form, none of the enum that is wanted
abbrev pub is_not : Option ℕ → Option ℕ → Bool
is_not None given = false
is_not (Some e) None = true
is_not (Some e) (Some k) = not (k == e)

abbrev pub global_at : Space → ℕ → Option Global
global_at n name = global_named n.globals (n.text name)

-- one more name, unless it is there
abbrev pub and_name : List GlobalName → List ℕ → Global → List GlobalName
and_name gs q stands = if is_name (λ g. g.name) q gs then gs else gs ++ (record { name = q; stands = stands }) ∷ []

abbrev pub with_global : Space → ℕ → Global → Space
with_global n name stands = record n { globals = and_name n.globals (n.text name) stands }

-- what can be named in a declaration outside of classes
abbrev pub declaring : (ℕ → List ℕ) → List GlobalName → List ClassName → Space
declaring text gs cs = record { text = text; region = region.Declaration; globals = gs; classes = cs; props = []; later = []; loops = []; vars = []; made = [] }

-- ---- enums

-- what is known after some members: the number of the next one where it writes none, the different numbers so far, and the members
pub record EnumElab (F : Type 0) : Type 0 where
  pub names : Space
  pub next : Option ℤ
  pub numbers : List ℤ
  pub members : List EnumMember
  pub faults : F

abbrev pub least_number : NumType → ℤ
least_number k = if k.signed then pos 0 -ℤ pos (2 ^ (k.width - 1)) else pos 0

abbrev pub greatest_number : NumType → ℤ
greatest_number k = if k.signed then pos (2 ^ (k.width - 1)) -ℤ pos 1 else pos (2 ^ k.width) -ℤ pos 1

-- outside the base type, or equal to an earlier member
abbrev pub is_bad_member : Option Vector → Option ℤ → List ℤ → Bool
is_bad_member None x xs = false
is_bad_member (Some v) None xs = false
is_bad_member (Some v) (Some x) xs = is_less x (least_number v.kind) || (is_less (greatest_number v.kind) x || list_any (int_eq x) xs)

abbrev pub stored_bits : Option Vector → Option ℤ → Option ℕ
stored_bits v x = both_known (λ v x. residue v.kind.width x) v x

abbrev pub default_base : Vector
default_base = vector 32 true (pos 0)

abbrev pub or_zero : Option ℕ → ℕ
or_zero None = 0
or_zero (Some n) = n

-- the different numbers
abbrev pub with_number : Option ℤ → List ℤ → List ℤ
with_number None xs = xs
with_number (Some x) xs = if list_any (int_eq x) xs then xs else xs ++ x ∷ []

abbrev pub with_member : List EnumMember → List ℕ → Option ℕ → List EnumMember
with_member ms name value = ms ++ (record { name = name; value = or_zero value }) ∷ []

abbrev pub following : Option ℤ → Option ℤ
following x = option_map (λ x. x +ℤ pos 1) x

abbrev pub in_enum : ℕ → Vector → Vector
in_enum n v = record { kind = record { width = v.kind.width; signed = v.kind.signed; members = Some n }; low = v.low }

-- 6.19: the base is a type without members
abbrev pub enum_base : Option Vector → NumType
enum_base None = default_base.kind
enum_base (Some v) = v.kind

pub record GlobalsElab (F : Type 0) : Type 0 where
  pub names : Space
  pub enums : List EnumType
  pub faults : F

module _ {F : Type 0} (g : Gather F) where
  abbrev pub constant_of : Elab F → Constant F
  constant_of x = record { at = x.at; number = known g x; faults = g.both x.faults (when g (not x.reads.constant) x.at refusal.NotConstant) }

  abbrev pub constant_at : Space → ExprTree → Constant F
  constant_at n e = constant_of (value g n e)

  -- ---- types

  abbrev pub range_faults : ℕ → ℕ → Constant F → Constant F → Bool → F
  range_faults at bracket m l wide =
      g.both m.faults (g.both l.faults
      (g.both (when g (is_bad_bound m.number) m.at refusal.BadRange) (g.both (when g (is_bad_bound l.number) l.at refusal.BadRange)
      (g.both (when g (ascends m.number l.number) bracket refusal.LeftOut) (when g wide at refusal.WiderThan64)))))

  abbrev pub range_type : ℕ → Bool → ℕ → Constant F → Constant F → TypeElab F
  range_type at s bracket m l =
      let wide = is_over_64 (range_width m.number l.number) in
      let bad = is_bad_bound m.number || (is_bad_bound l.number || (ascends m.number l.number || wide)) in
      record { kind = range_kind bad s m.number l.number; faults = range_faults at bracket m l wide }

  abbrev pub packed_type : Space → ℕ → Bool → PackedRangeTree → TypeElab F
  packed_type n at s r = range_type at s r.at (constant_at n r.msb) (constant_at n r.lsb)

  abbrev pub bits_type : ℕ → Bool → TypeElab F
  bits_type w s = record { kind = Some (vector w s (pos 0)); faults = g.nothing }

  abbrev pub integer_type : Space → IntegerTypeTree → TypeElab F
  integer_type n (tree.vector at kind s None) = bits_type 1 (is_signed false s)
  integer_type n (tree.vector at kind s (Some r)) = packed_type n at (is_signed false s) r
  integer_type n (tree.atom at kind s) = bits_type (atom_width kind) (is_signed true s)

  abbrev pub base_type : Space → Option IntegerTypeTree → TypeElab F
  base_type n None = bits_type 32 true
  base_type n (Some t) = integer_type n t

  -- ---- names of types, classes and enum members: each once

  abbrev pub double_name : List GlobalName → List ℕ → ℕ → F
  double_name gs q at = when g (is_name (λ g. g.name) q gs) at refusal.DoubleName

  abbrev pub double : Space → ℕ → F
  double n name = double_name n.globals (n.text name) name

  -- ---- enums

  abbrev pub member_number : Space → Option ℤ → Option ExprTree → Constant F
  member_number n next None = record { at = 0; number = next; faults = g.nothing }
  member_number n next (Some e) = constant_at n e

  abbrev pub and_member : Option Vector → ℕ → EnumElab F → Constant F → EnumElab F
  and_member base name s c = record {
    names = with_global s.names name (global.OfMember (stored_bits base c.number) base);
    next = following c.number;
    numbers = with_number c.number s.numbers;
    members = with_member s.members (s.names.text name) (stored_bits base c.number);
    faults = g.both s.faults (g.both c.faults (g.both (double s.names name)
        (g.both (when g (is_bad_member base c.number s.numbers) name refusal.BadEnum) (when g (nat_le MEMBER_LIMIT (length s.members)) name refusal.TooMany))));
  }

  abbrev pub enum_members : Option Vector → EnumElab F → List MemberTree → EnumElab F
  enum_members base s [] = s
  enum_members base s (m ∷ ms) = enum_members base (and_member base m.name s (member_number s.names s.next m.value)) ms

  abbrev pub with_type : GlobalsElab F → ℕ → Option Vector → GlobalsElab F
  with_type s name kind = record { names = with_global s.names name (global.OfType kind); enums = s.enums; faults = g.both s.faults (double s.names name) }

  abbrev pub enum_type : GlobalsElab F → ℕ → TypeElab F → List MemberTree → GlobalsElab F
  enum_type s name base ms =
      let kind = option_map (in_enum (length s.enums)) base.kind in
      let e = enum_members kind (record { names = s.names; next = Some (pos 0); numbers = []; members = []; faults = g.both s.faults base.faults }) ms in
      with_type (record { names = e.names; enums = s.enums ++ (record { base = enum_base base.kind; members = e.members }) ∷ []; faults = e.faults }) name kind

  abbrev pub plain_type : GlobalsElab F → ℕ → TypeElab F → GlobalsElab F
  plain_type s name t = with_type (record { names = s.names; enums = s.enums; faults = g.both s.faults t.faults }) name t.kind

  abbrev pub enum_decl : GlobalsElab F → ℕ → EnumTree → GlobalsElab F
  enum_decl s name d = enum_type s name (base_type s.names d.base) d.members

  abbrev pub definition : GlobalsElab F → ℕ → DefinitionTree → GlobalsElab F
  definition s name (tree.enum d) = enum_decl s name d
  definition s name (tree.plain t) = plain_type s name (integer_type s.names t)

  abbrev pub type_decl : GlobalsElab F → TypeTree → GlobalsElab F
  type_decl s t = definition s t.name t.definition
