-- The frames that a call can have, and the sizes and cyclic values that fit one (IEEE 1800-2017, 18.3, 18.4 and 18.5).
use Rattle.std.specs.Prelude.{◌≡◌, ◌==◌, ℕ, zero, suc, ◌+◌, ◌<◌, ◌≤◌, ◌^◌, Bool, true, false, not, ◌&&◌, ◌||◌, List, [], ◌∷◌, Option, None, Some, map, filter, length, slice_index, slice_index_or, ⊤}
use Rattle.std.specs.List.{list_any, All}
use Rattle.svr_limits.specs.declared.limit.TheConstants.{ARRAY_LIMIT, ELEMENT_LIMIT, PROPERTY_LIMIT}
use Rattle.svr_typed.specs.declared.class.NumType.{NumType}
use Rattle.svr_operator.specs.declared.Rand.{Rand}
use Rattle.svr_typed.specs.declared.class.ArrayKind.{ArrayKind}
use Rattle.svr_typed.specs.declared.class.ArrayKind.TheVariants as array
use Rattle.svr_typed.specs.declared.class.Prop.{Prop}
use Rattle.svr_typed.specs.declared.class.EnumType.{EnumType}
use Rattle.svr_typed.specs.declared.class.EnumMember.{EnumMember}
use Rattle.svr_operator.specs.declared.Share.{Share}
use Rattle.svr_typed.specs.ExprTerm.{ExprTerm, typed, NodeTerm, number, prop, element, cell, size, script, loop_index, reduce, of_object, bit_select, part_select, unary, binary, choice, inside, join, copies, sign, ExprTerms, no_exprs, more_exprs, RangeTerm, one, span, RangeTerms, no_ranges, more_ranges, BoundTerm, value, dollar}
use Rattle.svr_typed.specs.ItemTerm.{DistTerm, ItemTerm, plain, unique, implies, branch, foreach, disable, solve, ItemTerms, no_items, more_items, ElseTerm, no_else, else_items}
use Rattle.svr_eval.specs.Reading.{Reading, reading_of}
use Rattle.svr_eval.specs.Typed.{CanRead}
use Rattle.svr_eval.specs.Holds.{ItemsAreTyped, ItemsCanRead}
use Rattle.svr_frame.specs.Frame.{FrameTerm, is_scalar_kind, is_randc, props_of, is_scalar, is_array, is_dynamic, inner_of, width_of, is_signed, is_random, is_cyclic, can_be_random, has_free_size, domain_of, state_sizes}
use Rattle.svr_frame.specs.Reads.{Read, property_read, is_size_read, reads}
use Rattle.svr_frame.specs.Phases.{shape_at}

-- ---- types

-- no number stands twice
abbrev pub are_apart : List ℕ → Bool
are_apart [] = true
are_apart (x ∷ xs) = not (list_any (λ y. x == y) xs) && are_apart xs

-- (6.19)
pub record IsEnum (t : EnumType) : Type 0 where
  pub wide : (1 ≤ t.base.width) × (t.base.width ≤ 64)
  pub some : 1 ≤ length t.members
  pub apart : are_apart (map (λ (m : EnumMember). m.value) t.members) ≡ true
  pub below : All (λ (m : EnumMember). m.value < 2 ^ t.base.width) t.members

-- a type that names an enum has its width and sign
abbrev pub IsOfEnum : List EnumType → NumType → Option ℕ → Type 0
IsOfEnum ts k None = ⊤
IsOfEnum ts k (Some e) = (e < length ts) × (slice_index (map (λ (t : EnumType). t.base.width) ts) e ≡ k.width) × (slice_index_or (map (λ (t : EnumType). t.base.signed) ts) e false ≡ k.signed)

-- a cyclic property is a scalar (18.4.2); a row has some element
pub record IsProp (ts : List EnumType) (x : Prop) : Type 0 where
  pub inner : 1 ≤ x.inner
  pub wide : (1 ≤ x.kind.width) × (x.kind.width ≤ 64)
  pub named : IsOfEnum ts x.kind x.kind.members
  pub cyclic : is_randc x.rand ≡ true → is_scalar_kind x.array ≡ true

-- the size that the declaration gives, and the limit of all others
abbrev pub SizeIsOf : ArrayKind → ℕ → Type 0
SizeIsOf array.Scalar n = n ≡ 1
SizeIsOf (array.Fixed m) n = (n ≡ m) × (n ≤ ELEMENT_LIMIT)
SizeIsOf array.Dynamic n = n ≤ ELEMENT_LIMIT

-- ---- what the state has for the targets of `disable soft` fits them, and so many loops stand around an item

abbrev mutual
  pub TargetCanRead : Reading → ℕ → ItemTerm → Type 0
  TargetCanRead a depth (plain soft e dist) = ⊤
  TargetCanRead a depth (unique members) = ⊤
  TargetCanRead a depth (implies t body) = TargetsCanRead a depth body
  TargetCanRead a depth (branch t met unmet) = TargetsCanRead a depth met × ElseTargetsCanRead a depth unmet
  TargetCanRead a depth (foreach p m names body) = TargetsCanRead a (depth + names) body
  TargetCanRead a depth (disable target) = CanRead a depth target
  TargetCanRead a depth (solve first later) = ⊤

  pub TargetsCanRead : Reading → ℕ → ItemTerms → Type 0
  TargetsCanRead a depth no_items = ⊤
  TargetsCanRead a depth (more_items i is) = TargetCanRead a depth i × TargetsCanRead a depth is

  pub ElseTargetsCanRead : Reading → ℕ → ElseTerm → Type 0
  ElseTargetsCanRead a depth no_else = ⊤
  ElseTargetsCanRead a depth (else_items is) = TargetsCanRead a depth is

-- ---- expressions and items of a frame

module _ (f : FrameTerm) where
  abbrev pub reads_in : ExprTerm → List Read
  reads_in e = reads (shape_at f (state_sizes f)) [] e

  -- it mentions no property that is random in this call, but perhaps the size of one
  abbrev pub stands_still : ExprTerm → Bool
  stands_still e = not (list_any (λ r. not (is_size_read r) && is_random f (property_read r)) (reads_in e))

  -- it mentions none at all
  abbrev pub is_of_state : ExprTerm → Bool
  is_of_state e = not (list_any (λ r. is_random f (property_read r)) (reads_in e))

  abbrev pub HasType : ℕ → ℕ → Bool → Type 0
  HasType p w s = (p < length f.class.props) × (w ≡ width_of f p) × (s ≡ is_signed f p)

  abbrev mutual
    -- `whole`: an array may stand here without an index
    pub ExprIsIn : Bool → ExprTerm → Type 0
    ExprIsIn whole (typed w s n) = NodeIsIn whole w s n

    -- an index of a bit stands still
    pub NodeIsIn : Bool → ℕ → Bool → NodeTerm → Type 0
    NodeIsIn whole w s (number v every) = ⊤
    NodeIsIn whole w s (prop p) = HasType p w s × (is_array f p ≡ true → whole ≡ true)
    NodeIsIn whole w s (element p e) = HasType p w s × (is_array f p ≡ true) × ExprIsIn false e
    NodeIsIn whole w s (cell p m first second) = HasType p w s × (is_array f p ≡ true) × (m ≡ inner_of f p) × ExprIsIn false first × ExprIsIn false second
    NodeIsIn whole w s (size p m) = (p < length f.class.props) × (is_array f p ≡ true) × (m ≡ inner_of f p)
    NodeIsIn whole w s (script v) = v < length f.state.script
    NodeIsIn whole w s (loop_index k) = ⊤
    NodeIsIn whole w s (reduce p op body) = (p < length f.class.props) × (is_array f p ≡ true) × ExprIsIn false body
    NodeIsIn whole w s (of_object o e) = ⊥
    NodeIsIn whole w s (bit_select base first low) = ExprIsIn false base × ExprIsIn false first × (stands_still first ≡ true)
    NodeIsIn whole w s (part_select base first last low) = ExprIsIn false base × ExprIsIn false first × ExprIsIn false last
    NodeIsIn whole w s (unary op e) = ExprIsIn false e
    NodeIsIn whole w s (binary op l r) = ExprIsIn false l × ExprIsIn false r
    NodeIsIn whole w s (choice t met unmet) = ExprIsIn false t × ExprIsIn false met × ExprIsIn false unmet
    NodeIsIn whole w s (inside l rs) = ExprIsIn false l × RangesAreIn rs
    NodeIsIn whole w s (join parts) = ExprsAreIn false parts
    NodeIsIn whole w s (copies count parts) = ExprIsIn false count × ExprsAreIn false parts
    NodeIsIn whole w s (sign as_signed e) = ExprIsIn false e

    pub ExprsAreIn : Bool → ExprTerms → Type 0
    ExprsAreIn whole no_exprs = ⊤
    ExprsAreIn whole (more_exprs e es) = ExprIsIn whole e × ExprsAreIn whole es

    pub RangesAreIn : RangeTerms → Type 0
    RangesAreIn no_ranges = ⊤
    RangesAreIn (more_ranges r rs) = RangeIsIn true r × RangesAreIn rs

    pub RangeIsIn : Bool → RangeTerm → Type 0
    RangeIsIn whole (one e) = ExprIsIn whole e
    RangeIsIn whole (span low high) = BoundIsIn low × BoundIsIn high

    pub BoundIsIn : BoundTerm → Type 0
    BoundIsIn (value e) = ExprIsIn false e
    BoundIsIn dollar = ⊤

  -- a weight is one of the state
  abbrev pub WeightIsIn : Option (Share × ExprTerm) → Type 0
  WeightIsIn None = ⊤
  WeightIsIn (Some w) = ExprIsIn false w.1 × (is_of_state w.1 ≡ true)

  abbrev pub MembersAreIn : List DistTerm → Type 0
  MembersAreIn [] = ⊤
  MembersAreIn (d ∷ ds) = RangeIsIn false d.range × WeightIsIn d.weight × MembersAreIn ds

  abbrev pub DistIsIn : Option (List DistTerm) → Type 0
  DistIsIn None = ⊤
  DistIsIn (Some ds) = MembersAreIn ds

  -- an index of a target stands still (18.5.14.2)
  abbrev pub node_stands_still : NodeTerm → Bool
  node_stands_still (element p e) = stands_still e
  node_stands_still (cell p m first second) = stands_still first && stands_still second
  node_stands_still n = true

  abbrev pub TargetIsIn : ExprTerm → Type 0
  TargetIsIn (typed w s n) = NodeIsIn true w s n × (node_stands_still n ≡ true)

  abbrev mutual
    -- whether a `disable soft` stands in it
    pub has_disable : ItemTerm → Bool
    has_disable (plain soft e dist) = false
    has_disable (unique es) = false
    has_disable (implies t body) = have_disable body
    has_disable (branch t met unmet) = have_disable met || else_has_disable unmet
    has_disable (foreach p m names body) = have_disable body
    has_disable (disable target) = true
    has_disable (solve first later) = false

    pub have_disable : ItemTerms → Bool
    have_disable no_items = false
    have_disable (more_items i is) = has_disable i || have_disable is

    pub else_has_disable : ElseTerm → Bool
    else_has_disable no_else = false
    else_has_disable (else_items is) = have_disable is

  abbrev mutual
    -- a test over a `disable soft` is one of the state
    pub ItemIsIn : ItemTerm → Type 0
    ItemIsIn (plain soft e dist) = ExprIsIn false e × DistIsIn dist
    ItemIsIn (unique es) = ExprsAreIn true es
    ItemIsIn (implies t body) = ExprIsIn false t × (have_disable body ≡ true → is_of_state t ≡ true) × ItemsAreIn body
    ItemIsIn (branch t met unmet) =
        ExprIsIn false t × (have_disable met ≡ true → is_of_state t ≡ true) × (else_has_disable unmet ≡ true → is_of_state t ≡ true) × ItemsAreIn met × ElseIsIn unmet
    ItemIsIn (foreach p m names body) = (p < length f.class.props) × (is_array f p ≡ true) × (m ≡ inner_of f p) × ItemsAreIn body
    ItemIsIn (disable target) = TargetIsIn target
    ItemIsIn (solve first later) = ⊤

    pub ItemsAreIn : ItemTerms → Type 0
    ItemsAreIn no_items = ⊤
    ItemsAreIn (more_items i is) = ItemIsIn i × ItemsAreIn is

    pub ElseIsIn : ElseTerm → Type 0
    ElseIsIn no_else = ⊤
    ElseIsIn (else_items is) = ItemsAreIn is

  -- ---- the frame

  -- each number is of its property's type
  pub record StateIsSound : Type 0 where
    pub values : length f.state.values ≡ length f.class.props
    pub sizes : length f.state.sizes ≡ length f.class.props
    pub long : (p : ℕ) → length (slice_index_or f.state.values p []) ≡ slice_index f.state.sizes p
    pub of_kind : (p : ℕ) (d : Prop) → p < length f.class.props → SizeIsOf (slice_index_or f.class.props p d).array (slice_index f.state.sizes p)
    pub below : (p i : ℕ) → (reading_of f.state).element p i < 2 ^ width_of f p

  pub record IsSound : Type 0 where
    pub properties : length f.class.props ≤ PROPERTY_LIMIT
    pub arrays : length (filter (is_array f) (props_of f)) ≤ ARRAY_LIMIT
    pub types : All IsEnum f.enums
    pub props : All (IsProp f.enums) f.class.props
    pub random : length f.random ≡ length f.class.props
    pub can : (p : ℕ) → is_random f p ≡ true → can_be_random f p ≡ true
    pub free_size : length f.free_size ≡ length f.class.props
    pub free : (p : ℕ) → has_free_size f p ≡ true → (is_random f p ≡ true) × (is_dynamic f p ≡ true)
    pub state : StateIsSound
    pub typed : ItemsAreTyped f.items
    pub read : ItemsCanRead (reading_of f.state) 0 f.items
    pub targets : TargetsCanRead (reading_of f.state) 0 f.items
    pub items : ItemsAreIn f.items

  -- ---- sizes and cyclic values that fit

  -- one size for each property, where those that are not free are the state's
  pub record SizesFit (ns : List ℕ) : Type 0 where
    pub long : length ns ≡ length f.class.props
    pub most : (p : ℕ) → slice_index ns p ≤ ELEMENT_LIMIT
    pub same : (p : ℕ) → has_free_size f p ≡ false → slice_index ns p ≡ slice_index (state_sizes f) p

  abbrev pub AreInDomains : List (ℕ × ℕ) → Type 0
  AreInDomains [] = ⊤
  AreInDomains (x ∷ xs) = (list_any (λ v. v == x.1) (domain_of f x.0) ≡ true) × AreInDomains xs

  -- each random cyclic property once, in flat order, with a value of its domain
  pub record ChosenFit (chosen : List (ℕ × ℕ)) : Type 0 where
    pub all : map (λ x. x.0) chosen ≡ filter (is_cyclic f) (props_of f)
    pub within : AreInDomains chosen
