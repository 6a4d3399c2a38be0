-- What names stand for, and where each kind of place looks them up (IEEE 1800-2017, 18.7.1, 8.11 and 23.9). Names compare by their bytes.
use Rattle.std.specs.Prelude.{ℕ, ◌+◌, nat_eq, Bool, true, false, not, ◌&&◌, ◌||◌, if◌then◌else◌, List, [], ◌∷◌, Option, Some, None, option_map, slice_get}
use Rattle.std.specs.List.{list_any}
use Rattle.std.specs.Cmp.Lexicographic.{pointwise}
use Rattle.svr_operator.specs.declared.Fold.{Fold}
use Rattle.svr_operator.specs.declared.Fold.TheVariants as fold
use Rattle.svr_operator.specs.declared.Rand.TheVariants as rand
use Rattle.svr_tree.specs.declared.Scope.{Scope}
use Rattle.svr_tree.specs.declared.Scope.TheVariants as scope
use Rattle.svr_elab_names.specs.declared.meaning.Vector.{Vector}
use Rattle.svr_elab_names.specs.declared.meaning.Dims.{Dims}
use Rattle.svr_elab_names.specs.declared.meaning.Dims.TheVariants as dims
use Rattle.svr_elab_names.specs.declared.meaning.Property.{Property}
use Rattle.svr_elab_names.specs.declared.meaning.Meaning.{Meaning}
use Rattle.svr_elab_names.specs.declared.meaning.Meaning.TheVariants.{Wrong, LoopOf, ItemOf, MemberOf, PropertyOf, SizeOf, FoldOf, VariableOf, ObjectOf}
use Rattle.svr_elab_names.specs.declared.meaning.Found.{Found}
use Rattle.svr_elab_names.specs.declared.space.Region.{Region}
use Rattle.svr_elab_names.specs.declared.space.Region.TheVariants as region
use Rattle.svr_elab_names.specs.declared.space.Global.{Global}
use Rattle.svr_elab_names.specs.declared.space.Global.TheVariants as global
use Rattle.svr_elab_names.specs.declared.space.VarStand.{VarStand}
use Rattle.svr_elab_names.specs.declared.space.VarStand.TheVariants as var_stand

-- ---- what is declared

pub record GlobalName : Type 0 where
  pub name : List ℕ
  pub stands : Global

-- `first` is its initial value
pub record PropName : Type 0 where
  pub name : List ℕ
  pub property : Property
  pub first : ℕ

-- properties in flat order, the inherited ones first; the names of the blocks that it declares itself
pub record ClassName : Type 0 where
  pub name : List ℕ
  pub base : Option ℕ
  pub props : List PropName
  pub inherited : ℕ
  pub blocks : List (List ℕ)

pub record VarName : Type 0 where
  pub name : List ℕ
  pub stands : VarStand

-- a loop variable, or with `item` the element of that array in a reduction
pub record Loop : Type 0 where
  pub name : List ℕ
  pub item : Option Property

-- ---- what can be named at a place

-- `props` are the properties that can be named plainly, `later` the names of those that are declared further down; `loops` are the loops around the place, the innermost first; `made` are the object variables that have an object
pub record Space : Type 0 where
  pub text : ℕ → List ℕ
  pub region : Region
  pub globals : List GlobalName
  pub classes : List ClassName
  pub props : List PropName
  pub later : List (List ℕ)
  pub loops : List Loop
  pub vars : List VarName
  pub made : List ℕ

abbrev pub is_same : List ℕ → List ℕ → Bool
is_same x y = pointwise nat_eq x y

-- the first entry of this name, with its place counted from n
abbrev pub find_from : {A : Type 0} → (A → List ℕ) → List ℕ → ℕ → List A → Option (ℕ × A)
find_from name_of q n [] = None
find_from name_of q n (x ∷ xs) = if is_same q (name_of x) then Some (n, x) else find_from name_of q (n + 1) xs

abbrev pub find : {A : Type 0} → (A → List ℕ) → List ℕ → List A → Option (ℕ × A)
find name_of q xs = find_from name_of q 0 xs

abbrev pub is_name : {A : Type 0} → (A → List ℕ) → List ℕ → List A → Bool
is_name name_of q xs = list_any (λ x. is_same q (name_of x)) xs

abbrev pub or_else : {A : Type 0} → Option A → Option A → Option A
or_else None y = y
or_else (Some x) y = Some x

abbrev pub only_if : {A : Type 0} → Bool → Option A → Option A
only_if holds x = if holds then x else None

abbrev pub is_statement : Region → Bool
is_statement region.Declaration = false
is_statement region.Block = false
is_statement region.InLine = false
is_statement region.Statement = true

abbrev pub is_in_line : Region → Bool
is_in_line region.Declaration = false
is_in_line region.Block = false
is_in_line region.InLine = true
is_in_line region.Statement = false

abbrev pub is_array : Dims → Bool
is_array dims.Scalar = false
is_array (dims.Fixed n) = true
is_array (dims.Rows n m) = true
is_array dims.Dynamic = true

-- ---- properties, members and variables by name

abbrev pub property_named : List PropName → List ℕ → Option Property
property_named ps q = option_map (λ f. f.1.property) (find (λ p. p.name) q ps)

abbrev pub global_named : List GlobalName → List ℕ → Option Global
global_named gs q = option_map (λ f. f.1.stands) (find (λ g. g.name) q gs)

abbrev pub props_of : Option ClassName → List PropName
props_of None = []
props_of (Some c) = c.props

abbrev pub class_props : List ClassName → ℕ → List PropName
class_props cs n = props_of (slice_get cs n)

abbrev pub member_meaning : Option Global → Option Meaning
member_meaning None = None
member_meaning (Some (global.OfType kind)) = None
member_meaning (Some (global.OfClass number)) = None
member_meaning (Some (global.OfMember value kind)) = Some (MemberOf value kind)

abbrev pub stand_meaning : ℕ → VarStand → Meaning
stand_meaning number (var_stand.OfNumber kind) = VariableOf number kind
stand_meaning number (var_stand.OfObject class) = ObjectOf number class

abbrev pub variable_named : List VarName → List ℕ → Option Meaning
variable_named vs q = option_map (λ f. stand_meaning f.0 f.1.stands) (find (λ v. v.name) q vs)

-- what is known of a property that is declared further down, or of what is refused
abbrev pub unknown_property : Property
unknown_property = record { number = 0; home = 0; kind = None; rand = rand.State; random = false; dims = dims.Scalar }

abbrev pub loop_meaning : ℕ → Option Property → Meaning
loop_meaning level None = LoopOf level
loop_meaning level (Some p) = ItemOf level p

abbrev pub loop_named : List Loop → List ℕ → Option Meaning
loop_named ls q = option_map (λ f. loop_meaning f.0 f.1.item) (find (λ l. l.name) q ls)

-- ---- behind an array: its size, and its reductions (7.12.3)

-- `size`
abbrev pub size_word : List ℕ
size_word = 115 ∷ 105 ∷ 122 ∷ 101 ∷ []

-- `sum`
abbrev pub sum_word : List ℕ
sum_word = 115 ∷ 117 ∷ 109 ∷ []

-- `product`
abbrev pub product_word : List ℕ
product_word = 112 ∷ 114 ∷ 111 ∷ 100 ∷ 117 ∷ 99 ∷ 116 ∷ []

-- `and`
abbrev pub and_word : List ℕ
and_word = 97 ∷ 110 ∷ 100 ∷ []

-- `or`
abbrev pub or_word : List ℕ
or_word = 111 ∷ 114 ∷ []

-- `xor`
abbrev pub xor_word : List ℕ
xor_word = 120 ∷ 111 ∷ 114 ∷ []

abbrev pub fold_named : List ℕ → Option Fold
fold_named q =
    if is_same q sum_word then Some fold.Sum
    else if is_same q product_word then Some fold.Product
    else if is_same q and_word then Some fold.And
    else if is_same q or_word then Some fold.Or
    else if is_same q xor_word then Some fold.Xor
    else None

abbrev pub fold_meaning : Property → Option ℕ → ℕ → ℕ → Option Fold → Meaning
fold_meaning p o array name None = Wrong name
fold_meaning p o array name (Some f) = FoldOf p o f array

-- a word behind the array whose name is `array`
abbrev pub method : (ℕ → List ℕ) → Property → Option ℕ → ℕ → ℕ → Meaning
method text p o array name =
    if not (is_array p.dims) then Wrong name
    else if is_same (text name) size_word then SizeOf p o
    else fold_meaning p o array name (fold_named (text name))

-- one more name of a path, behind the name `last`
abbrev pub behind : (ℕ → List ℕ) → Meaning → ℕ → ℕ → Meaning
behind text (Wrong w) last name = Wrong w
behind text (LoopOf k) last name = Wrong name
behind text (ItemOf k p) last name = Wrong name
behind text (MemberOf v k) last name = Wrong name
behind text (PropertyOf p o) last name = method text p o last name
behind text (SizeOf p o) last name = Wrong name
behind text (FoldOf p o f array) last name = Wrong name
behind text (VariableOf v k) last name = Wrong name
behind text (ObjectOf o c) last name = Wrong name

-- the further names of a path
abbrev pub and_more : (ℕ → List ℕ) → Meaning → ℕ → List ℕ → Meaning
and_more text m last [] = m
and_more text m last (name ∷ more) = and_more text (behind text m last name) name more

abbrev pub property_of_object : ℕ → Option Property → ℕ → Meaning
property_of_object o None name = Wrong name
property_of_object o (Some p) name = PropertyOf p (Some o)

abbrev pub plain_property : Property → Meaning
plain_property p = PropertyOf p None

module _ (n : Space) where
  abbrev pub as_property : List ℕ → Option Meaning
  as_property q = or_else
      (option_map plain_property (property_named n.props q))
      (only_if (list_any (is_same q) n.later) (Some (plain_property unknown_property)))

  abbrev pub as_variable : List ℕ → Option Meaning
  as_variable q = variable_named n.vars q

  abbrev pub as_member : List ℕ → Option Meaning
  as_member q = member_meaning (global_named n.globals q)

  -- the first name of a path; `local::` passes over loops and properties, `this.` has properties only
  abbrev pub first_meaning : Scope → List ℕ → Option Meaning
  first_meaning scope.This q = as_property q
  first_meaning scope.Local q = or_else (only_if (is_statement n.region || is_in_line n.region) (as_variable q)) (as_member q)
  first_meaning scope.Plain q =
      or_else (loop_named n.loops q)
      (or_else (as_property q)
      (or_else (only_if (is_statement n.region) (as_variable q))
      (or_else (as_member q) (only_if (is_in_line n.region) (as_variable q)))))

  -- an object variable stands alone or before a property, and in statements only
  abbrev pub object_path : ℕ → ℕ → ℕ → List ℕ → Found
  object_path first o c [] = record { meaning = if is_statement n.region then ObjectOf o c else Wrong first; unmade = None }
  object_path first o c (name ∷ more) = record {
    meaning = if is_statement n.region then and_more n.text (property_of_object o (property_named (class_props n.classes c) (n.text name)) name) name more else Wrong first;
    unmade = only_if (is_statement n.region && not (list_any (nat_eq o) n.made)) (Some first);
  }

  abbrev pub other_path : ℕ → Meaning → List ℕ → Found
  other_path first m rest = record { meaning = and_more n.text m first rest; unmade = None }

  abbrev pub followed : ℕ → Option Meaning → List ℕ → Found
  followed first None rest = record { meaning = Wrong first; unmade = None }
  followed first (Some (Wrong w)) rest = other_path first (Wrong w) rest
  followed first (Some (LoopOf k)) rest = other_path first (LoopOf k) rest
  followed first (Some (ItemOf k p)) rest = other_path first (ItemOf k p) rest
  followed first (Some (MemberOf v k)) rest = other_path first (MemberOf v k) rest
  followed first (Some (PropertyOf p o)) rest = other_path first (PropertyOf p o) rest
  followed first (Some (SizeOf p o)) rest = other_path first (SizeOf p o) rest
  followed first (Some (FoldOf p o f array)) rest = other_path first (FoldOf p o f array) rest
  followed first (Some (VariableOf v k)) rest = other_path first (VariableOf v k) rest
  followed first (Some (ObjectOf o c)) rest = object_path first o c rest

  -- what a path stands for
  abbrev pub look : Scope → List ℕ → Found
  look s [] = record { meaning = Wrong 0; unmade = None }
  look s (first ∷ rest) = followed first (first_meaning s (n.text first)) rest

  -- ---- inside a loop

  abbrev pub with_loops : List Loop → Space
  with_loops ls = record n { loops = ls }

  abbrev pub inside : Loop → Space
  inside l = with_loops (l ∷ n.loops)

  abbrev pub in_loop : ℕ → Space
  in_loop name = inside (record { name = n.text name; item = None })

  -- `item`
  abbrev pub item_word : List ℕ
  item_word = 105 ∷ 116 ∷ 101 ∷ 109 ∷ []

  abbrev pub item_name : Option ℕ → List ℕ
  item_name None = item_word
  item_name (Some name) = n.text name

  -- in a reduction of that array, whose element has the name that is given, or `item`
  abbrev pub in_reduction : Property → Option ℕ → Space
  in_reduction p name = inside (record { name = item_name name; item = Some p })
