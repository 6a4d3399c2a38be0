-- A property in which nothing is refused has a lawful place in a design.
use Rattle.std.proofs.Common.{◌≡◌, ℕ, zero, suc, ◌+◌, ◌-◌, ◌*◌, ◌^◌, ◌<◌, ◌≤◌, min, ℤ, pos, negsuc, Bool, true, false, not, ◌&&◌, ◌||◌, nat_lt, if◌then◌else◌, List, [], ◌∷◌, length, Option, None, Some, option_map, is_none, refl, sym, ap, subst, ◌∙◌, true≢false, mul-pos, arith}
use Rattle.std.specs.Prelude.{⊤, slice_get}
use Rattle.std.proofs.lemmas.Bool.Decides.{nat_tests}
use Rattle.std.proofs.lemmas.Nat.{mod_below, pow_pos}
use Rattle.svr_operator.specs.declared.Rand.{Rand}
use Rattle.svr_operator.specs.declared.Rand.TheVariants as rand
use Rattle.svr_limits.specs.declared.limit.TheConstants.{ELEMENT_LIMIT}
use Rattle.svr_typed.specs.declared.EnumType.{EnumType}
use Rattle.svr_typed.specs.declared.ArrayKind.TheVariants as array
use Rattle.svr_typed.specs.declared.Prop.{Prop}
use Rattle.svr_typed.specs.declared.NumType.{NumType}
use Rattle.svr_typed.specs.ExprTerm.{ExprTerm}
use Rattle.svr_tree.specs.ExprTree.{ExprTree}
use Rattle.svr_tree.specs.DeclTree as tree
use Rattle.svr_tree.specs.DeclTree.{DataTypeTree, DimensionTree}
use Rattle.svr_refusal.specs.declared.Refusal.TheVariants as refusal
use Rattle.svr_design.specs.Types as design
use Rattle.svr_design.specs.Types.{IsProp, IsKind, NamesEnum, IsOfEnum, CycleFits, IsShortCycle, HasFew}
use Rattle.svr_elab_fault.specs.declared.Fault.{Fault}
use Rattle.svr_elab_fault.specs.Refusals.{first_one, when, earlier}
use Rattle.svr_elab_names.specs.declared.Vector.{Vector}
use Rattle.svr_elab_names.specs.declared.Dims.{Dims}
use Rattle.svr_elab_names.specs.declared.Dims.TheVariants as dims
use Rattle.svr_elab_names.specs.declared.Global.{Global}
use Rattle.svr_elab_names.specs.declared.Global.TheVariants as global
use Rattle.svr_elab_names.specs.Names.{Space, GlobalName, PropName, is_array, is_same, find_from}
use Rattle.svr_elab_part.specs.Elab.{Elab, value}
use Rattle.svr_elab_part.specs.Shapes.{all_known, is_randc}
use Rattle.svr_elab_part.proofs.Valued.{none_left, none_right, not_when}
use Rattle.svr_elab_type.specs.Types.{Constant, elements, is_below, is_other, constant_at, global_at}
use Rattle.svr_elab_decl.specs.Properties as spec
use Rattle.svr_elab_decl.specs.Properties.{Used, UsedElab, DimsElab, numbers, objects, unnamed}
use Rattle.svr_elab.specs.Script.{property_term}
use Rattle.svr_elab_expr_laws.specs.Known.{IsKnown}
use Rattle.svr_elab_lawful_laws.specs.Constants.{GlobalsKnown}
use Rattle.svr_elab_lawful_laws.specs.Declared.{There, VectorIs, GlobalIs, GlobalsAre, PropertyIs}
use Rattle.svr_elab_lawful_laws.proofs.Constants.{constants_have_numbers}
use Rattle.svr_elab_lawful_laws.proofs.Enums.{none_known, one_of, globals_are_known}
use Rattle.svr_elab_lawful_laws.proofs.Types.{PlainVector, there_to, type_is}

-- ---- the type of a property

abbrev pub UsedIs : List EnumType → ℕ → Used → Type 0
UsedIs es cs (numbers kind) = There (VectorIs es) kind
UsedIs es cs (objects c) = c < cs
UsedIs es cs unnamed = ⊥

named_global : (es : List EnumType) (cs : ℕ) (g : Global) → GlobalIs es cs g → spec.is_unnamed (spec.used_global (Some g)) ≡ false → UsedIs es cs (spec.used_global (Some g))
named_global es cs (global.OfType kind) k e = k
named_global es cs (global.OfClass c) k e = k
named_global es cs (global.OfMember v kind) k e = absurd (true≢false e)

abbrev stands_of : Option (ℕ × GlobalName) → Used
stands_of f = spec.used_global (option_map (λ f. f.1.stands) f)

abbrev FoundIs : List EnumType → ℕ → Option (ℕ × GlobalName) → Type 0
FoundIs es cs f = spec.is_unnamed (stands_of f) ≡ false → UsedIs es cs (stands_of f)

found_global : (es : List EnumType) (cs : ℕ) (q : List ℕ) (n : ℕ) (gs : List GlobalName) → GlobalsAre es cs gs → FoundIs es cs (find_from (λ (g : GlobalName). g.name) q n gs)
found_global es cs q n [] h = λ f. absurd (true≢false f)
found_global es cs q n (g ∷ gs) h =
    one_of (FoundIs es cs) (is_same q g.name) (Some (n, g)) (find_from (λ (g : GlobalName). g.name) q (n + 1) gs) (λ f. named_global es cs g.stands h.0 f) (found_global es cs q (n + 1) gs h.1)

pub data_type_is : (es : List EnumType) (cs : ℕ) (n : Space) → GlobalsAre es cs n.globals → (t : DataTypeTree) → (spec.data_type first_one n t).faults ≡ None → UsedIs es cs (spec.data_type first_one n t).used
data_type_is es cs n h (tree.integer t) f = there_to PlainVector (VectorIs es) (λ v i. i.every es) _ (type_is n (globals_are_known es cs n.globals h) t f)
data_type_is es cs n h (tree.named name) f =
    found_global es cs (n.text name) 0 n.globals h (not_when (spec.is_unnamed (spec.used_global (global_at n name))) name refusal.UnknownName f)

-- of no class
pub numbers_are : (es : List EnumType) (cs : ℕ) (u : Used) → UsedIs es cs u → spec.is_objects u ≡ false → There (VectorIs es) (spec.used_kind u)
numbers_are es cs (numbers kind) h f = h
numbers_are es cs (objects c) h f = absurd (true≢false f)
numbers_are es cs unnamed h f = absurd h

-- ---- dimensions

abbrev pub CountIs : Option ℕ → Type 0
CountIs n = There (λ (n : ℕ). 1 ≤ n) n

abbrev pub DimsAre : Dims → Type 0
DimsAre dims.Scalar = ⊤
DimsAre (dims.Fixed n) = CountIs n
DimsAre (dims.Rows n m) = CountIs n × CountIs m
DimsAre dims.Dynamic = ⊤

not_below : (k : ℕ) → ((z : ℤ) → is_below (pos 1) (Some z) ≡ false → 1 ≤ elements z)
not_below k (pos n) h = some n h
  where
    some : (n : ℕ) → is_below (pos 1) (Some (pos n)) ≡ false → 1 ≤ elements (pos n)
    some zero h = absurd (true≢false h)
    some (suc n) h = omega arith
not_below k (negsuc n) h = absurd (true≢false h)

count_is : (x : Option ℤ) → IsKnown x → is_below (pos 1) x ≡ false → CountIs (spec.count_if (is_below (pos 1) x) x)
count_is None k h = none_known ℤ k
count_is (Some z) k h =
    let P : Bool → Type 0 = λ b. CountIs (spec.count_if b (Some z)) in
    subst P (sym h) (not_below 0 z h)

-- `[0:B]` has one more than B
one_more_is : (z : ℤ) → is_below (pos 0) (Some z) ≡ false → CountIs (option_map elements (spec.one_more (Some z)))
one_more_is (pos n) h = more n
  where
    more : (n : ℕ) → 1 ≤ min (n + 1) (2 ^ 32 - 1)
    more n = omega arith
one_more_is (negsuc n) h = absurd (true≢false h)

or_three : (a b c : Bool) → a ≡ false → b ≡ false → c ≡ false → (a || (b || c)) ≡ false
or_three a b c h i j = ap (λ (x : Bool). x || (b || c)) h ∙ ap (λ (x : Bool). x || c) i ∙ j

bounds_are : (x y : Option ℤ) → IsKnown x → IsKnown y → is_other (pos 0) x ≡ false → is_below (pos 0) y ≡ false
    → CountIs (spec.count_if (is_other (pos 0) x || (is_none x || is_below (pos 0) y)) (spec.one_more y))
bounds_are None y k l h i = none_known ℤ k
bounds_are (Some x) None k l h i = none_known ℤ l
bounds_are (Some x) (Some y) k l h i =
    let P : Bool → Type 0 = λ b. CountIs (spec.count_if b (spec.one_more (Some y))) in
    subst P (sym (or_three (is_other (pos 0) (Some x)) (is_none (Some x)) (is_below (pos 0) (Some y)) h refl i)) (one_more_is y i)

module _ (n : Space) (known : GlobalsKnown n) where
  dimension_is : (d : DimensionTree) → (spec.dimension first_one n d).faults ≡ None → DimsAre (spec.dimension first_one n d).dims
  dimension_is tree.dynamic f = tt
  dimension_is tree.queue f = tt
  dimension_is (tree.size e) f =
      let c : Constant (Option Fault) = constant_at first_one n e in
      count_is c.number (constants_have_numbers n e known (none_left _ _ f)) (not_when (is_below (pos 1) c.number) c.at refusal.BadRange (none_right _ _ f))
  dimension_is (tree.bounds a b) f =
      let c : Constant (Option Fault) = constant_at first_one n a in
      let d : Constant (Option Fault) = constant_at first_one n b in
      let w1 : Option Fault = when first_one (is_other (pos 0) c.number) c.at refusal.BadRange in
      let w2 : Option Fault = when first_one (is_below (pos 0) d.number) d.at refusal.BadRange in
      let f1 : earlier d.faults (earlier w1 w2) ≡ None = none_right c.faults (earlier d.faults (earlier w1 w2)) f in
      let f2 : earlier w1 w2 ≡ None = none_right d.faults (earlier w1 w2) f1 in
      bounds_are c.number d.number (constants_have_numbers n a known (none_left c.faults (earlier d.faults (earlier w1 w2)) f)) (constants_have_numbers n b known (none_left d.faults (earlier w1 w2) f1))
      (not_when (is_other (pos 0) c.number) c.at refusal.BadRange (none_left w1 w2 f2)) (not_when (is_below (pos 0) d.number) d.at refusal.BadRange (none_right w1 w2 f2))

  rows_are : (d e : Dims) → DimsAre d → DimsAre e → not (spec.is_fixed d && spec.is_fixed e) ≡ false → CountIs (spec.fixed_size d) × CountIs (spec.fixed_size e)
  rows_are dims.Scalar e h k f = absurd (true≢false f)
  rows_are (dims.Rows n m) e h k f = absurd (true≢false f)
  rows_are dims.Dynamic e h k f = absurd (true≢false f)
  rows_are (dims.Fixed n) dims.Scalar h k f = absurd (true≢false f)
  rows_are (dims.Fixed n) (dims.Rows a b) h k f = absurd (true≢false f)
  rows_are (dims.Fixed n) dims.Dynamic h k f = absurd (true≢false f)
  rows_are (dims.Fixed n) (dims.Fixed m) h k f = (h, k)

  pub dims_are : (name : ℕ) (ds : List DimensionTree) → (spec.dims_of first_one n name ds).faults ≡ None → DimsAre (spec.dims_of first_one n name ds).dims
  dims_are name [] f = tt
  dims_are name (d ∷ []) f = dimension_is d f
  dims_are name (d ∷ (e ∷ more)) f =
      let x : DimsElab (Option Fault) = spec.dimension first_one n d in
      let y : DimsElab (Option Fault) = spec.dimension first_one n e in
      let w1 : Option Fault = when first_one (not (spec.is_fixed x.dims && spec.is_fixed y.dims)) name refusal.LeftOut in
      let f1 : earlier y.faults w1 ≡ None = none_right x.faults (earlier y.faults w1) f in
      rows_are x.dims y.dims (dimension_is d (none_left x.faults (earlier y.faults w1) f)) (dimension_is e (none_left y.faults w1 f1))
      (not_when (not (spec.is_fixed x.dims && spec.is_fixed y.dims)) name refusal.LeftOut (none_right y.faults w1 f1))

-- ---- initial values

below_power : (w : ℕ) → 0 < 2 ^ w
below_power w = pow_pos w

first_value_below : (v : Vector) (t : Option ExprTerm) → spec.first_value (Some v) t < 2 ^ v.kind.width
first_value_below v None = below_power v.kind.width
first_value_below v (Some e) = mod_below _ (2 ^ v.kind.width) (pow_pos v.kind.width)

initial_below : (b : Bool) (v : Vector) (t : Option ExprTerm) → (if b then spec.first_value (Some v) t else 0) < 2 ^ v.kind.width
initial_below true v t = first_value_below v t
initial_below false v t = below_power v.kind.width

pub first_below : (n : Space) (v : Vector) (e : Option ExprTree) → spec.first_number first_one n (Some v) e < 2 ^ v.kind.width
first_below n v None = below_power v.kind.width
first_below n v (Some e) =
    let x : Elab (Option Fault) = value first_one n e in
    initial_below (x.reads.constant && is_none x.faults) v x.tree

-- an array has none
pub first_of_array : (n : Space) (name : ℕ) (kind : Option Vector) (d : Dims) (e : Option ExprTree) → spec.first_at first_one n name kind d e ≡ None → is_array d ≡ true → spec.first_number first_one n kind e ≡ 0
first_of_array n name kind d None f h = refl
first_of_array n name kind d (Some e) f h =
    let x : Elab (Option Fault) = value first_one n e in
    let w1 : Option Fault = when first_one (not x.reads.constant) x.at refusal.NotConstant in
    let w2 : Option Fault = when first_one (spec.is_other_enum kind x.form.members) x.at refusal.EnumAssign in
    let w3 : Option Fault = when first_one (is_array d) name refusal.LeftOut in
    let f1 : earlier w1 (earlier w2 w3) ≡ None = none_right x.faults (earlier w1 (earlier w2 w3)) f in
    let f2 : earlier w2 w3 ≡ None = none_right w1 (earlier w2 w3) f1 in
    absurd (true≢false (sym h ∙ not_when (is_array d) name refusal.LeftOut (none_right w2 w3 f2)))

-- ---- cycles

few_members : (es : List EnumType) (o : Option EnumType) (k : NumType) → IsOfEnum k o → spec.has_many o ≡ false → HasFew o
few_members es None k h f = absurd h
few_members es (Some e) k h f = few (length e.members) f
  where
    few : (n : ℕ) → nat_lt 256 n ≡ false → n ≤ 256
    few n f = grind (arith, nat_tests, f)

short_cycle : (es : List EnumType) (v : Vector) (m : Option ℕ) → NamesEnum es v.kind m → spec.is_long_cycle es v m ≡ false → IsShortCycle es v.kind m
short_cycle es v None h f = short v.kind.width f
  where
    short : (n : ℕ) → nat_lt 8 n ≡ false → n ≤ 8
    short n f = grind (arith, nat_tests, f)
short_cycle es v (Some e) h f = few_members es (slice_get es e) v.kind h f

cycle_fits : (es : List EnumType) (v : Vector) (p : Prop) (r : Rand) → VectorIs es v → p.kind ≡ v.kind → (r ≡ rand.Randc → design.is_array p.array ≡ false) → (is_randc r && spec.is_long_cycle es v v.kind.members) ≡ false → CycleFits es p r
cycle_fits es v p rand.State i e a f = tt
cycle_fits es v p rand.Rand i e a f = tt
cycle_fits es v p rand.Randc i e a f = (a refl, subst (λ (k : NumType). IsShortCycle es k k.members) (sym e) (short_cycle es v v.kind.members i.kind.members f))

no_cyclic_array : (r : Rand) → (is_randc r && true) ≡ false → r ≡ rand.Randc → true ≡ false
no_cyclic_array rand.State f e = cc
no_cyclic_array rand.Rand f e = cc
no_cyclic_array rand.Randc f e = f

-- ---- the whole

not_large : (n : ℕ) → nat_lt ELEMENT_LIMIT n ≡ false → n ≤ 2048
not_large n h = grind (arith, nat_tests, h)

module _ (es : List EnumType) (q : List ℕ) (number home : ℕ) (r : Rand) (v : Vector) (first : ℕ) (is : VectorIs es v) (short : (is_randc r && spec.is_long_cycle es v v.kind.members) ≡ false) (below : first < 2 ^ v.kind.width) where
  abbrev named : Dims → PropName
  named d = record { name = q; property = spec.declared_as number home r (Some v) d; first = first }

  scalar_is : IsProp es (property_term (named dims.Scalar) v array.Scalar 1)
  scalar_is = record { kind = is.kind; size = tt; inner = refl; cycle = cycle_fits es v (property_term (named dims.Scalar) v array.Scalar 1) r is refl (λ e. refl) short; first = below; low = is.low }

  dynamic_is : (is_randc r && true) ≡ false → first ≡ 0 → IsProp es (property_term (named dims.Dynamic) v array.Dynamic 1)
  dynamic_is a z = record { kind = is.kind; size = tt; inner = refl; cycle = cycle_fits es v (property_term (named dims.Dynamic) v array.Dynamic 1) r is refl (no_cyclic_array r a) short; first = z; low = is.low }

  fixed_is : (d : Dims) (n m : ℕ) → 1 ≤ n → n ≤ 2048 → design.HasInner (array.Fixed n) m → (is_randc r && true) ≡ false → first ≡ 0 → IsProp es (property_term (named d) v (array.Fixed n) m)
  fixed_is d n m low high inner a z =
      record { kind = is.kind; size = (low, high); inner = inner; cycle = cycle_fits es v (property_term (named d) v (array.Fixed n) m) r is refl (no_cyclic_array r a) short; first = z; low = is.low }

  pub property_is : (d : Dims) → DimsAre d → spec.is_large d ≡ false → (is_randc r && is_array d) ≡ false → (is_array d ≡ true → first ≡ 0) → PropertyIs es (named d)
  property_is dims.Scalar h large a z = scalar_is
  property_is dims.Dynamic h large a z = dynamic_is a (z refl)
  property_is (dims.Fixed None) h large a z = absurd h
  property_is (dims.Fixed (Some n)) h large a z =
      let P : Bool → Type 0 = λ b. There (IsProp es) (all_known (property_term (named (dims.Fixed (Some n)))) (Some v) (if b then None else Some (array.Fixed n)) (Some 1)) in
      subst P (sym large) (fixed_is (dims.Fixed (Some n)) n 1 h (not_large n large) (omega arith, record { rows = n; product = rows_once n }) a (z refl))
    where
      rows_once : (n : ℕ) → n * 1 ≡ n
      rows_once n = omega arith
  property_is (dims.Rows None m) h large a z = absurd h.0
  property_is (dims.Rows (Some n) None) h large a z = absurd h.1
  property_is (dims.Rows (Some n) (Some m)) h large a z =
      let P : Bool → Type 0 = λ b. There (IsProp es) (all_known (property_term (named (dims.Rows (Some n) (Some m)))) (Some v) (if b then None else Some (array.Fixed (n * m))) (Some m)) in
      subst P (sym large) (fixed_is (dims.Rows (Some n) (Some m)) (n * m) m (some_product n m h.0 h.1) (not_large (n * m) large) (h.1, record { rows = n; product = refl }) a (z refl))
    where
      some_product : (n m : ℕ) → 1 ≤ n → 1 ≤ m → 1 ≤ n * m
      some_product n m h k = mul-pos h k
