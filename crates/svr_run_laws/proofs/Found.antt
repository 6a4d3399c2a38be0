-- What stands at a place of a list of properties or variables.
use Rattle.std.proofs.Common.{◌≡◌, ◌<◌, ◌⊎◌, inl, inr, ℕ, zero, suc, Bool, true, false, refl, sym, ◌∙◌, ap, List, [], ◌∷◌, ◌++◌, map, length, Option, None, Some, arith}
use Rattle.std.specs.Prelude.{slice_get, slice_index_or, option_map}
use Rattle.std.proofs.lemmas.Option.{slice_get-map, get_or_from_slice_get}
use Rattle.svr_typed.specs.declared.NumType.{NumType}
use Rattle.svr_typed.specs.declared.Prop.{Prop}
use Rattle.svr_typed.specs.declared.TVar.{TVar}
use Rattle.svr_typed.specs.declared.VarKind.{VarKind}
use Rattle.svr_typed.specs.declared.VarKind.TheVariants as var_kind
use Rattle.svr_typed.specs.ExprTerm.{typed, NodeTerm, number, prop, element, cell, size, script, loop_index, reduce, of_object, bit_select, part_select, unary, binary, choice, inside, join, copies, sign}
use Rattle.svr_design.specs.Types.{is_array, HasKind, ScalarIs, ArrayIs, IsSomeArray, RowsAre, HasSecond, NumberIs, VariableIs}
use Rattle.svr_design.specs.Constraints.{NodeStands, MemberStands}

-- what a list of elements has at a place, a list of their images has there too
pub mapped_at : {A B : Type 0} (g : A → B) (d : B) (xs : List A) (p : ℕ) (x : A) → slice_get xs p ≡ Some x → slice_index_or (map g xs) p d ≡ g x
mapped_at g d xs p x h = get_or_from_slice_get (map g xs) p (g x) d (slice_get-map g xs p ∙ ap (option_map g) h)

pub there : {A : Type 0} (xs : List A) (p : ℕ) → p < length xs → (x : A) × (slice_get xs p ≡ Some x)
there [] p h = absurd (omega (arith, h))
there (x ∷ xs) zero h = (x, refl)
there (x ∷ xs) (suc p) h = there xs p (omega (arith, h))

some_same : {A : Type 0} (x y : A) → Some x ≡ Some y → x ≡ y
some_same x y h = cc

pub one_there : {A : Type 0} (xs : List A) (p : ℕ) (x y : A) → slice_get xs p ≡ Some x → slice_get xs p ≡ Some y → x ≡ y
one_there xs p x y h k = some_same x y (sym h ∙ k)

-- it stays where others are put behind
pub in_front : {A : Type 0} (xs ys : List A) (p : ℕ) (x : A) → slice_get xs p ≡ Some x → slice_get (xs ++ ys) p ≡ Some x
in_front [] ys p x h = absurd (cc)
in_front (z ∷ xs) ys zero x h = h
in_front (z ∷ xs) ys (suc p) x h = in_front xs ys p x h

-- ---- properties

abbrev pub IsArray : Prop → Type 0
IsArray x = is_array x.array ≡ true

abbrev pub IsScalar : Prop → Type 0
IsScalar x = is_array x.array ≡ false

pub scalar_there : (o : Option Prop) (w : ℕ) (s : Bool) → ScalarIs o w s → (x : Prop) × (o ≡ Some x) × IsScalar x × HasKind x.kind w s
scalar_there None w s h = absurd h
scalar_there (Some x) w s h = (x, refl, h.0, h.1)

pub array_there : (o : Option Prop) (w : ℕ) (s : Bool) → ArrayIs o w s → (x : Prop) × (o ≡ Some x) × IsArray x × HasKind x.kind w s
array_there None w s h = absurd h
array_there (Some x) w s h = (x, refl, h.0, h.1)

pub some_array_there : (o : Option Prop) → IsSomeArray o → (x : Prop) × (o ≡ Some x) × IsArray x
some_array_there None h = absurd h
some_array_there (Some x) h = (x, refl, h)

pub rows_there : (o : Option Prop) (m w : ℕ) (s : Bool) → RowsAre o m w s → (x : Prop) × (o ≡ Some x) × IsArray x × (x.inner ≡ m) × HasKind x.kind w s
rows_there None m w s h = absurd h
rows_there (Some x) m w s h = (x, refl, h.0, h.1, h.2)

pub second_there : (o : Option Prop) (m : ℕ) → HasSecond o m → (x : Prop) × (o ≡ Some x) × IsArray x × (x.inner ≡ m)
second_there None m h = absurd h
second_there (Some x) m h = (x, refl, h.0, h.1)

-- ---- variables

-- a variable that holds numbers of this type
abbrev pub HoldsNumber : Option TVar → NumType → Type 0
HoldsNumber o k = (x : TVar) × (o ≡ Some x) × (x.kind ≡ var_kind.Number k)

number_kind : (k : VarKind) (w : ℕ) (s : Bool) → NumberIs k w s → (t : NumType) × (k ≡ var_kind.Number t) × HasKind t w s
number_kind (var_kind.Number t) w s h = (t, refl, h)
number_kind (var_kind.Object c) w s h = absurd h

pub variable_there : (o : Option TVar) (w : ℕ) (s : Bool) → VariableIs o w s → (x : TVar) × (k : NumType) × (o ≡ Some x) × (x.kind ≡ var_kind.Number k) × HasKind k w s
variable_there None w s h = absurd h
variable_there (Some x) w s h = let t = number_kind x.kind w s h in (x, t.0, refl, t.1, t.2)

-- ---- members

-- a member is a value, or a whole array
module _ (props : List Prop) (vars : List TVar) where
  abbrev pub WholeArray : ℕ → Bool → NodeTerm → Type 0
  WholeArray w s n = (p : ℕ) × (n ≡ prop p) × ArrayIs (slice_get props p) w s

  pub member_way : (depth w : ℕ) (s : Bool) (n : NodeTerm) → MemberStands props vars depth (typed w s n) → NodeStands props vars depth w s n ⊎ WholeArray w s n
  member_way depth w s (number v every) h = inl h
  member_way depth w s (prop p) (inl h) = inl h
  member_way depth w s (prop p) (inr h) = inr (p, refl, h)
  member_way depth w s (element p i) h = inl h
  member_way depth w s (cell p m i j) h = inl h
  member_way depth w s (size p m) h = inl h
  member_way depth w s (script v) h = inl h
  member_way depth w s (loop_index k) h = inl h
  member_way depth w s (reduce p f body) h = inl h
  member_way depth w s (of_object o e) h = inl h
  member_way depth w s (bit_select x i low) h = inl h
  member_way depth w s (part_select x f l low) h = inl h
  member_way depth w s (unary op x) h = inl h
  member_way depth w s (binary op x y) h = inl h
  member_way depth w s (choice t x y) h = inl h
  member_way depth w s (inside x rs) h = inl h
  member_way depth w s (join xs) h = inl h
  member_way depth w s (copies k xs) h = inl h
  member_way depth w s (sign t x) h = inl h
