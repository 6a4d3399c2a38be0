-- Constants in which nothing is refused have typed trees of numbers and operators alone, with the shape that is known of them.
use Rattle.std.proofs.Common.{◌≡◌, ℕ, ◌+◌, ℤ, Bool, true, false, not, ◌&&◌, ◌||◌, if◌then◌else◌, List, [], ◌∷◌, Option, None, Some, option_map, is_none, refl, sym, ap, subst, ◌∙◌}
use Rattle.std.specs.Prelude.{⊤, MatchOption}
use Rattle.svr_tree.specs.ExprTree as raw
use Rattle.svr_tree.specs.ExprTree.{ExprTree, ExprTrees, RangeTree, RangeTrees, BoundTree}
use Rattle.svr_typed.specs.ExprTerm.{ExprTerm}
use Rattle.svr_eval.specs.Typed.{IsTyped, IsConstant, constant}
use Rattle.svr_refusal.specs.declared.Refusal.{Refusal}
use Rattle.svr_elab_fault.specs.declared.Fault.{Fault}
use Rattle.svr_elab_fault.specs.Refusals.{first_one, when, earlier, comes_first}
use Rattle.svr_elab_names.specs.declared.Vector.{Vector}
use Rattle.svr_elab_names.specs.declared.Property.{Property}
use Rattle.svr_elab_names.specs.declared.VarStand.{VarStand}
use Rattle.svr_elab_names.specs.declared.VarStand.TheVariants as var_stand
use Rattle.svr_elab_names.specs.declared.Meaning.{Meaning}
use Rattle.svr_elab_names.specs.declared.Meaning.TheVariants.{Wrong, LoopOf, ItemOf, MemberOf, PropertyOf, SizeOf, FoldOf, VariableOf, ObjectOf}
use Rattle.svr_elab_names.specs.Names.{Space, PropName, ClassName, VarName, Loop, look}
use Rattle.svr_elab_part.specs.declared.part.Shape.{Shape}
use Rattle.svr_elab_part.specs.Fits.{Each, MembersFit, LiteralsFit, AllFit, RangesFit, RangeFits, BoundFits, IsSome}
use Rattle.svr_elab_part.specs.Elab as spec
use Rattle.svr_elab_part.specs.Elab.{Elab, Elabs, RangeElab, RangesElab, BoundElab}
use Rattle.svr_elab_part.specs.Shapes as shapes
use Rattle.svr_elab_part.specs.Forms.{is_row, is_whole, element_extent}
use Rattle.svr_elab_part.specs.Seen.{HasValue}
use Rattle.svr_elab_part.proofs.Looked.{OptionIs, StandIs, SpaceIs, MeaningIs, look_is}
use Rattle.svr_elab_part.proofs.Typed.{Fine, TreeFine, SomeRange, SomeRanges, SomeBound, SomeParts, and_left, and_right, unary_fine, sign_fine, binary_fine, choice_fine, one_fine, bound_fine, span_fine, range_more, inside_fine, part_more, no_parts_fine, join_fine, copies_fine, literal_fine, member_fine}

-- ---- where nothing is refused, nothing is in a part

no_other : (b : Bool) (x y : Fault) → (if b then Some x else Some y) ≡ None → ⊥
no_other true x y h = let e : Some x ≡ None = h in cc
no_other false x y h = let e : Some y ≡ None = h in cc

pub none_left : (x y : Option Fault) → earlier x y ≡ None → x ≡ None
none_left None y h = refl
none_left (Some x) None h = absurd (let e : Some x ≡ None = h in cc)
none_left (Some x) (Some y) h = absurd (no_other (comes_first x y) x y h)

pub none_right : (x y : Option Fault) → earlier x y ≡ None → y ≡ None
none_right None y h = h
none_right (Some x) None h = refl
none_right (Some x) (Some y) h = absurd (no_other (comes_first x y) x y h)

pub not_when : (b : Bool) (token : ℕ) (r : Refusal) → when first_one b token r ≡ None → b ≡ false
not_when true token r h = absurd (let e : when first_one true token r ≡ None = h in cc)
not_when false token r h = refl

false_true : false ≡ true → ⊥
false_true h = cc

-- ---- names: an enum member fits its type

abbrev pub any_property : Property → Type 0
any_property p = ⊤

abbrev pub any_kind : Option Vector → Type 0
any_kind k = ⊤

each_is : {A : Type 0} (f : A → Property) (xs : List A) → Each (λ x. any_property (f x)) xs
each_is f [] = tt
each_is f (x ∷ xs) = (tt, each_is f xs)

classes_are : (cs : List ClassName) → Each (λ c. Each (λ (p : PropName). any_property p.property) c.props) cs
classes_are [] = tt
classes_are (c ∷ cs) = (each_is (λ (p : PropName). p.property) c.props, classes_are cs)

some_is : (p : Option Property) → OptionIs any_property p
some_is None = tt
some_is (Some p) = tt

loops_are : (ls : List Loop) → Each (λ (l : Loop). OptionIs any_property l.item) ls
loops_are [] = tt
loops_are (l ∷ ls) = (some_is l.item, loops_are ls)

stand_is : (v : VarStand) → StandIs any_property any_kind v
stand_is (var_stand.OfNumber kind) = tt
stand_is (var_stand.OfObject c) = tt

vars_are : (vs : List VarName) → Each (λ (v : VarName). StandIs any_property any_kind v.stands) vs
vars_are [] = tt
vars_are (v ∷ vs) = (stand_is v.stands, vars_are vs)

space_is : (n : Space) → MembersFit n → SpaceIs any_property any_kind n
space_is n m = record {
  globals = m.globals;
  props = each_is (λ (p : PropName). p.property) n.props;
  classes = classes_are n.classes;
  loops = loops_are n.loops;
  vars = vars_are n.vars;
  unknown = tt;
}

meaning_fine : (m : Meaning) → MeaningIs any_property any_kind m → (shapes.meaning_reads m).constant ≡ true → TreeFine (shapes.meaning_shape m) (shapes.meaning_reads m).constant (shapes.meaning_tree m)
meaning_fine (Wrong w) h c = tt
meaning_fine (LoopOf k) h c = absurd (false_true c)
meaning_fine (ItemOf k p) h c = absurd (false_true c)
meaning_fine (MemberOf v kind) h c = member_fine v kind h
meaning_fine (PropertyOf p o) h c = absurd (false_true c)
meaning_fine (SizeOf p o) h c = absurd (false_true c)
meaning_fine (FoldOf p o f array) h c = absurd (false_true c)
meaning_fine (VariableOf v kind) h c = absurd (false_true c)
meaning_fine (ObjectOf o c) h d = tt

-- ---- parts

abbrev Known : Elab (Option Fault) → Type 0
Known x = x.reads.constant ≡ true → x.faults ≡ None → TreeFine x.shape x.reads.constant x.tree

abbrev KnownParts : ℕ → Elabs (Option Fault) → Type 0
KnownParts low x = x.reads.constant ≡ true → x.faults ≡ None → SomeParts low x.total x.reads.constant x.trees

abbrev KnownRange : RangeElab (Option Fault) → Type 0
KnownRange x = x.reads.constant ≡ true → x.faults ≡ None → SomeRange x.reads.constant x.tree

abbrev KnownRanges : RangesElab (Option Fault) → Type 0
KnownRanges x = x.reads.constant ≡ true → x.faults ≡ None → SomeRanges x.reads.constant x.trees

abbrev KnownBound : BoundElab (Option Fault) → Type 0
KnownBound x = x.reads.constant ≡ true → x.faults ≡ None → SomeBound x.reads.constant x.tree

plain_known : (x : Elab (Option Fault)) → Known x → Known (spec.plain first_one x)
plain_known x h c f = h c (none_left _ _ f)

sole_known : (x : Elab (Option Fault)) → Known x → Known (spec.sole first_one x)
sole_known x h c f = h c (none_left _ _ f)

-- ---- selects and reductions are no constants

one_no_constant : (b : Bool) (x y : Elab (Option Fault)) → x.reads.constant ≡ false → y.reads.constant ≡ false → (if b then x else y).reads.constant ≡ false
one_no_constant true x y h k = h
one_no_constant false x y h k = k

index_no_constant : (at : ℕ) (x i : Elab (Option Fault)) → (spec.index_part first_one at x i).reads.constant ≡ false
index_no_constant at x i =
    one_no_constant (is_whole x.form.extent) (spec.array_part first_one at x i) (if is_row x.form.extent then spec.cell_part first_one at x i else spec.bit_part first_one at x i)
    (one_no_constant (is_row (element_extent (shapes.array_property x.form.root).dims)) (spec.row_part first_one at x i) (spec.element_part first_one at x i) refl refl)
    (one_no_constant (is_row x.form.extent) (spec.cell_part first_one at x i) (spec.bit_part first_one at x i) refl refl)

-- ---- replications

known_is : (c : Bool) (f : Option Fault) (t : Option ExprTerm) → c ≡ true → f ≡ None → (if c && is_none f then option_map constant t else None) ≡ option_map constant t
known_is c f t h k =
    ap (λ (b : Bool). if b && is_none f then option_map constant t else None) h ∙ ap (λ (x : Option Fault). if is_none x then option_map constant t else None) k

copies_known : (at : ℕ) (n : Elab (Option Fault)) (xs : Elabs (Option Fault)) → Known n → KnownParts 1 xs → Known (spec.copies_part first_one at n xs)
copies_known at n xs h k c f =
    let a : n.reads.constant ≡ true = and_left n.reads.constant xs.reads.constant c in
    let d : xs.reads.constant ≡ true = and_right n.reads.constant xs.reads.constant c in
    let own = none_left _ _ f in
    let rest = none_right _ _ f in
    let other = none_left _ _ rest in
    let tests = none_right _ _ (none_right _ _ rest) in
    let e = known_is n.reads.constant n.faults n.tree a own in
    let few = not_when _ _ _ (none_left _ _ tests) in
    let wide = not_when _ _ _ (none_right _ _ tests) in
    let P : Option ℤ → Type 0 = λ z. shapes.is_too_few z ≡ false → shapes.is_wide (shapes.copies_total z xs.total) ≡ false
    → TreeFine (option_map shapes.bits_wide (shapes.copies_total z xs.total)) (n.reads.constant && xs.reads.constant)
    (shapes.typed_as (option_map shapes.bits_wide (shapes.copies_total z xs.total)) (shapes.copies_node n.tree xs.trees)) in
    subst P (sym e) (copies_fine n.shape xs.total n.reads.constant xs.reads.constant n.tree xs.trees (h a own) a (k d other)) few wide

-- ---- the whole

module _ (n : Space) (m : MembersFit n) where
  value_of : (e : ExprTree) → Known (spec.elab first_one n e) → Known (spec.plain first_one (spec.elab first_one n e))
  value_of e h = plain_known (spec.elab first_one n e) h

  mutual
    pub elab_known : (e : ExprTree) → LiteralsFit e → Known (spec.elab first_one n e)
    elab_known (raw.number at v w s) h c f = literal_fine v w s h.0 h.1
    elab_known (raw.path at s names call) h c f = meaning_fine (look n s names).meaning (look_is any_property any_kind n (space_is n m) s names) c
    elab_known (raw.bit_select at x i call) h c f =
        absurd (false_true (sym (index_no_constant at (spec.elab first_one n x) (spec.plain first_one (spec.elab first_one n i))) ∙ c))
    elab_known (raw.part_select at x g l call) h c f = absurd (false_true c)
    elab_known (raw.unary at op x) h c f = unary_fine op _ _ _ (value_of x (elab_known x h) c f)
    elab_known (raw.binary at op x y) h c f =
        binary_fine op _ _ _ _ _ _ (value_of x (elab_known x h.0) (and_left _ _ c) (none_left _ _ f)) (value_of y (elab_known y h.1) (and_right _ _ c) (none_right _ _ f))
    elab_known (raw.choice at t x y) h c f =
        let b = and_right _ _ c in let g = none_right _ _ f in
        choice_fine _ _ _ _ _ _ _ _ _ (value_of t (elab_known t h.0) (and_left _ _ c) (none_left _ _ f))
        (value_of x (elab_known x h.1) (and_left _ _ b) (none_left _ _ g)) (value_of y (elab_known y h.2) (and_right _ _ b) (none_right _ _ g))
    elab_known (raw.inside at x rs) h c f =
        inside_fine _ _ _ _ _ (value_of x (elab_known x h.0) (and_left _ _ c) (none_left _ _ f))
        (ranges_known rs (spec.no_ranges first_one) (λ b g. record { typed = tt; constant = λ d. tt }) h.1 (and_right _ _ c) (none_right _ _ f))
    elab_known (raw.join at xs) h c f = join_fine _ _ _ (some_known xs h.0 h.1 c (none_left _ _ f)) (not_when _ _ _ (none_right _ _ f))
    elab_known (raw.copies at x xs) h c f = copies_known at (spec.plain first_one (spec.elab first_one n x)) (spec.parts first_one n (spec.no_parts first_one) xs) (value_of x (elab_known x h.0)) (some_known xs h.1 h.2) c f
    elab_known (raw.sign at s x) h c f = sign_fine s _ _ _ (value_of x (elab_known x h) c f)
    elab_known (raw.paren at x) h c f = sole_known (spec.elab first_one n x) (elab_known x h) c f
    elab_known (raw.reduce at x g item body) h c f = absurd (false_true c)

    some_known : (xs : ExprTrees) → IsSome xs → AllFit xs → KnownParts 1 (spec.parts first_one n (spec.no_parts first_one) xs)
    some_known raw.no_exprs s h = absurd s
    some_known (raw.more_exprs x xs) s h =
        let v : Elab (Option Fault) = spec.plain first_one (spec.elab first_one n x) in
        parts_known xs (spec.and_part first_one (spec.no_parts first_one) v)
        (λ c f. part_more 0 (Some 0) v.shape true v.reads.constant (Some []) v.tree no_parts_fine (value_of x (elab_known x h.0) c f)) h.1

    parts_known : (xs : ExprTrees) (start : Elabs (Option Fault)) → KnownParts 1 start → AllFit xs → KnownParts 1 (spec.parts first_one n start xs)
    parts_known raw.no_exprs start k h = k
    parts_known (raw.more_exprs x xs) start k h =
        let v : Elab (Option Fault) = spec.plain first_one (spec.elab first_one n x) in
        parts_known xs (spec.and_part first_one start v)
        (λ c f. part_more 1 start.total v.shape start.reads.constant v.reads.constant start.trees v.tree (k (and_left _ _ c) (none_left _ _ f)) (value_of x (elab_known x h.0) (and_right _ _ c) (none_right _ _ f))) h.1

    ranges_known : (rs : RangeTrees) (start : RangesElab (Option Fault)) → KnownRanges start → RangesFit rs → KnownRanges (spec.ranges first_one n start rs)
    ranges_known raw.no_ranges start k h = k
    ranges_known (raw.more_ranges r rs) start k h =
        ranges_known rs (spec.and_range first_one start (spec.range first_one n r))
        (λ c f. range_more _ _ _ _ (k (and_left _ _ c) (none_left _ _ f)) (range_known r h.0 (and_right _ _ c) (none_right _ _ f))) h.1

    range_known : (r : RangeTree) → RangeFits r → KnownRange (spec.range first_one n r)
    range_known (raw.one x) h c f = one_fine _ _ _ (sole_known (spec.elab first_one n x) (elab_known x h) c f)
    range_known (raw.span l g) h c f =
        span_fine _ _ _ _ (bound_known l h.0 (and_left _ _ c) (none_left _ _ f)) (bound_known g h.1 (and_right _ _ c) (none_right _ _ f))

    bound_known : (b : BoundTree) → BoundFits b → KnownBound (spec.bound first_one n b)
    bound_known (raw.value x) h c f = bound_fine _ _ _ (value_of x (elab_known x h) c f)
    bound_known raw.dollar h c f = record { typed = tt; constant = λ b. tt }

abbrev HasTree : Option ExprTerm → Type 0
HasTree t = MatchOption t ⊤ (λ t. IsTyped t × IsConstant t)

tree_known : (s : Option Shape) (c : Bool) (t : Option ExprTerm) → c ≡ true → TreeFine s c t → HasTree t
tree_known s c None e h = tt
tree_known s c (Some t) e h = (h.typed, h.constant e)

pub value_known : (n : Space) (e : ExprTree) → MembersFit n → LiteralsFit e → HasValue (spec.value first_one n e)
value_known n e m h = record {
  fine = λ c f.
      let v : Elab (Option Fault) = spec.value first_one n e in
      tree_known v.shape v.reads.constant v.tree c (plain_known (spec.elab first_one n e) (elab_known n m e h) c f);
}

-- a constant has a value
pub has_value : (p : Elab (Option Fault)) (n : Space) (e : ExprTree) → p ≡ spec.value first_one n e → MembersFit n → LiteralsFit e → HasValue p
has_value p n e q m h = let P : Elab (Option Fault) → Type 0 = HasValue in subst P (sym q) (value_known n e m h)
