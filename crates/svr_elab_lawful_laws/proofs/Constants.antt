-- Constants in which nothing is refused have trees, whatever is declared further down: they name no property.
use Rattle.std.proofs.Common.{◌≡◌, ℕ, ◌+◌, ℤ, pos, Bool, true, false, not, ◌&&◌, ◌||◌, if◌then◌else◌, List, [], ◌∷◌, ◌++◌, Option, None, Some, option_map, is_none, refl, sym, ap, subst, ◌∙◌}
use Rattle.std.specs.Prelude.{⊤}
use Rattle.std.specs.List.{list_any}
use Rattle.svr_operator.specs.declared.Fold.{Fold}
use Rattle.svr_tree.specs.declared.Scope.{Scope}
use Rattle.svr_tree.specs.declared.Scope.TheVariants as scope
use Rattle.svr_tree.specs.ExprTree as raw
use Rattle.svr_tree.specs.ExprTree.{ExprTree, ExprTrees, RangeTree, RangeTrees, BoundTree}
use Rattle.svr_typed.specs.ExprTerm as term
use Rattle.svr_typed.specs.ExprTerm.{ExprTerm, NodeTerm, RangeTerm, BoundTerm}
use Rattle.svr_eval.specs.declared.UnaryKind.{UnaryKind}
use Rattle.svr_eval.specs.declared.UnaryKind.TheVariants.{Changed, Reduced}
use Rattle.svr_eval.specs.declared.BinaryKind.{BinaryKind}
use Rattle.svr_eval.specs.declared.BinaryKind.TheVariants.{InContext, Shifted, ByPair, Logical}
use Rattle.svr_eval.specs.Operator.{unary_kind, binary_kind}
use Rattle.svr_eval.specs.Typed.{constant}
use Rattle.svr_refusal.specs.declared.Refusal.TheVariants as refusal
use Rattle.svr_elab_fault.specs.declared.Fault.{Fault}
use Rattle.svr_elab_fault.specs.Refusals.{first_one}
use Rattle.svr_elab_names.specs.declared.Property.{Property}
use Rattle.svr_elab_names.specs.declared.Global.{Global}
use Rattle.svr_elab_names.specs.declared.Global.TheVariants as global
use Rattle.svr_elab_names.specs.declared.VarStand.{VarStand}
use Rattle.svr_elab_names.specs.declared.VarStand.TheVariants as var_stand
use Rattle.svr_elab_names.specs.declared.Meaning.{Meaning}
use Rattle.svr_elab_names.specs.declared.Meaning.TheVariants.{Wrong, LoopOf, ItemOf, MemberOf, PropertyOf, SizeOf, FoldOf, VariableOf, ObjectOf}
use Rattle.svr_elab_names.specs.Names.{Space, GlobalName, VarName, Loop, look, find_from, member_meaning, stand_meaning, loop_named, loop_meaning, method, fold_named, fold_meaning, behind, and_more as and_names, is_array, is_same, size_word, or_else, only_if, first_meaning, as_property, as_variable, as_member, property_named, plain_property, unknown_property, followed, object_path, property_of_object, class_props, is_statement, is_in_line}
use Rattle.svr_elab_part.specs.declared.part.Shape.{Shape}
use Rattle.svr_elab_part.specs.Fits.{Each}
use Rattle.svr_elab_part.specs.Elab as spec
use Rattle.svr_elab_part.specs.Elab.{Elab, Elabs, RangeElab, RangesElab, BoundElab}
use Rattle.svr_elab_part.specs.Shapes as shapes
use Rattle.svr_elab_part.specs.Shapes.{both_known, all_known, and_more, typed_as, kind_shape}
use Rattle.svr_elab_part.specs.Forms.{is_row, is_whole, element_extent}
use Rattle.svr_elab_part.proofs.Valued.{none_left, none_right, not_when}
use Rattle.svr_elab_part.proofs.Typed.{and_left, and_right}
use Rattle.svr_elab_part.proofs.Looked.{OptionIs}
use Rattle.svr_elab_type.specs.Types.{constant_of}
use Rattle.svr_elab_expr_laws.specs.Known.{IsKnown, GlobalKnown}
use Rattle.svr_elab_lawful_laws.specs.Constants.{GlobalsKnown, ConstantsHaveNumbers}

true_false : true ≡ false → ⊥
true_false h = cc

false_true : false ≡ true → ⊥
false_true h = cc

not_not : (b : Bool) → not b ≡ false → b ≡ true
not_not true h = refl
not_not false h = absurd (true_false h)

-- ---- what a name means, where it is an enum member

abbrev MemberKnown : Meaning → Type 0
MemberKnown (Wrong w) = ⊤
MemberKnown (LoopOf k) = ⊤
MemberKnown (ItemOf k p) = ⊤
MemberKnown (MemberOf v kind) = IsKnown v × IsKnown kind
MemberKnown (PropertyOf p o) = ⊤
MemberKnown (SizeOf p o) = ⊤
MemberKnown (FoldOf p o f array) = ⊤
MemberKnown (VariableOf v kind) = ⊤
MemberKnown (ObjectOf o c) = ⊤

one_of_two : {A : Type 0} (P : A → Type 0) (b : Bool) (x y : A) → P x → P y → P (if b then x else y)
one_of_two P true x y h k = h
one_of_two P false x y h k = k

or_known : {A : Type 0} (P : A → Type 0) (x y : Option A) → OptionIs P x → OptionIs P y → OptionIs P (or_else x y)
or_known P None y h k = k
or_known P (Some x) y h k = h

if_known : {A : Type 0} (P : A → Type 0) (b : Bool) (x : Option A) → OptionIs P x → OptionIs P (only_if b x)
if_known P true x h = h
if_known P false x h = tt

found_known : {A : Type 0} (P : A → Type 0) (name_of : A → List ℕ) (q : List ℕ) (n : ℕ) (xs : List A) → Each P xs → OptionIs (λ (f : ℕ × A). P f.1) (find_from name_of q n xs)
found_known {A = A} P name_of q n [] h = tt
found_known {A = A} P name_of q n (x ∷ xs) h =
    one_of_two (OptionIs (λ (f : ℕ × A). P f.1)) (is_same q (name_of x)) (Some (n, x)) (find_from name_of q (n + 1) xs) h.0 (found_known P name_of q (n + 1) xs h.1)

fold_known : (p : Property) (o : Option ℕ) (array name : ℕ) (f : Option Fold) → MemberKnown (fold_meaning p o array name f)
fold_known p o array name None = tt
fold_known p o array name (Some f) = tt

method_known : (text : ℕ → List ℕ) (p : Property) (o : Option ℕ) (array name : ℕ) → MemberKnown (method text p o array name)
method_known text p o array name =
    one_of_two MemberKnown (not (is_array p.dims)) (Wrong name) (if is_same (text name) size_word then SizeOf p o else fold_meaning p o array name (fold_named (text name))) tt
    (one_of_two MemberKnown (is_same (text name) size_word) (SizeOf p o) (fold_meaning p o array name (fold_named (text name))) tt (fold_known p o array name (fold_named (text name))))

behind_known : (text : ℕ → List ℕ) (m : Meaning) (last name : ℕ) → MemberKnown (behind text m last name)
behind_known text (Wrong w) last name = tt
behind_known text (LoopOf k) last name = tt
behind_known text (ItemOf k p) last name = tt
behind_known text (MemberOf v k) last name = tt
behind_known text (PropertyOf p o) last name = method_known text p o last name
behind_known text (SizeOf p o) last name = tt
behind_known text (FoldOf p o f array) last name = tt
behind_known text (VariableOf v k) last name = tt
behind_known text (ObjectOf o c) last name = tt

more_known : (text : ℕ → List ℕ) (m : Meaning) (last : ℕ) (names : List ℕ) → MemberKnown m → MemberKnown (and_names text m last names)
more_known text m last [] h = h
more_known text m last (name ∷ names) h = more_known text (behind text m last name) name names (behind_known text m last name)

stand_known : (number : ℕ) (s : VarStand) → MemberKnown (stand_meaning number s)
stand_known number (var_stand.OfNumber kind) = tt
stand_known number (var_stand.OfObject c) = tt

variable_known : (f : Option (ℕ × VarName)) → OptionIs MemberKnown (option_map (λ f. stand_meaning f.0 f.1.stands) f)
variable_known None = tt
variable_known (Some f) = stand_known f.0 f.1.stands

loop_meaning_known : (level : ℕ) (p : Option Property) → MemberKnown (loop_meaning level p)
loop_meaning_known level None = tt
loop_meaning_known level (Some p) = tt

loop_known : (f : Option (ℕ × Loop)) → OptionIs MemberKnown (option_map (λ f. loop_meaning f.0 f.1.item) f)
loop_known None = tt
loop_known (Some f) = loop_meaning_known f.0 f.1.item

global_known : (g : Global) → GlobalKnown g → OptionIs MemberKnown (member_meaning (Some g))
global_known (global.OfType kind) h = tt
global_known (global.OfClass c) h = tt
global_known (global.OfMember v kind) h = h

member_known : (f : Option (ℕ × GlobalName)) → OptionIs (λ (f : ℕ × GlobalName). GlobalKnown f.1.stands) f → OptionIs MemberKnown (member_meaning (option_map (λ f. f.1.stands) f))
member_known None h = tt
member_known (Some f) h = global_known f.1.stands h

plain_known : (p : Option Property) → OptionIs MemberKnown (option_map plain_property p)
plain_known None = tt
plain_known (Some p) = tt

module _ (n : Space) (m : GlobalsKnown n) where
  as_member_known : (q : List ℕ) → OptionIs MemberKnown (as_member n q)
  as_member_known q = member_known (find_from (λ g. g.name) q 0 n.globals) (found_known (λ (g : GlobalName). GlobalKnown g.stands) (λ g. g.name) q 0 n.globals m)

  as_property_known : (q : List ℕ) → OptionIs MemberKnown (as_property n q)
  as_property_known q =
      or_known MemberKnown (option_map plain_property (property_named n.props q)) (only_if (list_any (is_same q) n.later) (Some (plain_property unknown_property)))
      (plain_known (property_named n.props q)) (if_known MemberKnown (list_any (is_same q) n.later) (Some (plain_property unknown_property)) tt)

  as_variable_known : (q : List ℕ) → OptionIs MemberKnown (as_variable n q)
  as_variable_known q = variable_known (find_from (λ v. v.name) q 0 n.vars)

  first_known : (s : Scope) (q : List ℕ) → OptionIs MemberKnown (first_meaning n s q)
  first_known scope.This q = as_property_known q
  first_known scope.Local q =
      or_known MemberKnown (only_if (is_statement n.region || is_in_line n.region) (as_variable n q)) (as_member n q)
      (if_known MemberKnown (is_statement n.region || is_in_line n.region) (as_variable n q) (as_variable_known q)) (as_member_known q)
  first_known scope.Plain q =
      let after : Option Meaning = only_if (is_in_line n.region) (as_variable n q) in
      let before : Option Meaning = only_if (is_statement n.region) (as_variable n q) in
      or_known MemberKnown (loop_named n.loops q) (or_else (as_property n q) (or_else before (or_else (as_member n q) after))) (loop_known (find_from (λ l. l.name) q 0 n.loops))
      (or_known MemberKnown (as_property n q) (or_else before (or_else (as_member n q) after)) (as_property_known q)
      (or_known MemberKnown before (or_else (as_member n q) after) (if_known MemberKnown (is_statement n.region) (as_variable n q) (as_variable_known q))
      (or_known MemberKnown (as_member n q) after (as_member_known q) (if_known MemberKnown (is_in_line n.region) (as_variable n q) (as_variable_known q)))))

  object_property_known : (o : ℕ) (p : Option Property) (name : ℕ) → MemberKnown (property_of_object o p name)
  object_property_known o None name = tt
  object_property_known o (Some p) name = tt

  object_known : (first o c : ℕ) (rest : List ℕ) → MemberKnown (object_path n first o c rest).meaning
  object_known first o c [] = one_of_two MemberKnown (is_statement n.region) (ObjectOf o c) (Wrong first) tt tt
  object_known first o c (name ∷ more) =
      let p : Option Property = property_named (class_props n.classes c) (n.text name) in
      one_of_two MemberKnown (is_statement n.region) (and_names n.text (property_of_object o p name) name more) (Wrong first)
      (more_known n.text (property_of_object o p name) name more (object_property_known o p name)) tt

  followed_known : (first : ℕ) (f : Option Meaning) (rest : List ℕ) → OptionIs MemberKnown f → MemberKnown (followed n first f rest).meaning
  followed_known first None rest h = tt
  followed_known first (Some (Wrong w)) rest h = more_known n.text (Wrong w) first rest h
  followed_known first (Some (LoopOf k)) rest h = more_known n.text (LoopOf k) first rest h
  followed_known first (Some (ItemOf k p)) rest h = more_known n.text (ItemOf k p) first rest h
  followed_known first (Some (MemberOf v k)) rest h = more_known n.text (MemberOf v k) first rest h
  followed_known first (Some (PropertyOf p o)) rest h = more_known n.text (PropertyOf p o) first rest h
  followed_known first (Some (SizeOf p o)) rest h = more_known n.text (SizeOf p o) first rest h
  followed_known first (Some (FoldOf p o f array)) rest h = more_known n.text (FoldOf p o f array) first rest h
  followed_known first (Some (VariableOf v k)) rest h = more_known n.text (VariableOf v k) first rest h
  followed_known first (Some (ObjectOf o c)) rest h = object_known first o c rest

  look_known : (s : Scope) (path : List ℕ) → MemberKnown (look n s path).meaning
  look_known s [] = tt
  look_known s (first ∷ rest) = followed_known first (first_meaning n s (n.text first)) rest (first_known s (n.text first))

-- ---- options and shapes

pub mapped : {A B : Type 0} (f : A → B) (x : Option A) → IsKnown x → IsKnown (option_map f x)
mapped f None h = absurd (false_true h)
mapped f (Some x) h = refl

pub both : {A B C : Type 0} (f : A → B → C) (x : Option A) (y : Option B) → IsKnown x → IsKnown y → IsKnown (both_known f x y)
both f None y h k = absurd (false_true h)
both f (Some x) None h k = absurd (false_true k)
both f (Some x) (Some y) h k = refl

pub all : {A B C D : Type 0} (f : A → B → C → D) (x : Option A) (y : Option B) (z : Option C) → IsKnown x → IsKnown y → IsKnown z → IsKnown (all_known f x y z)
all f None y z h k l = absurd (false_true h)
all f (Some x) y z h k l = both (f x) y z k l

pub more : {A : Type 0} (xs : Option (List A)) (x : Option A) → IsKnown xs → IsKnown x → IsKnown (and_more xs x)
more xs x h k = both (λ xs x. xs ++ x ∷ []) xs x h k

as_typed : (s : Option Shape) (n : Option NodeTerm) → IsKnown s → IsKnown n → IsKnown (typed_as s n)
as_typed s n h k = both (λ s n. term.typed s.width s.signed n) s n h k

choice_known : (s r : Option Shape) → IsKnown s → IsKnown r → IsKnown (shapes.choice_shape s r)
choice_known None r h k = absurd (false_true h)
choice_known (Some s) None h k = absurd (false_true k)
choice_known (Some s) (Some r) h k = refl

changed_known : (k : UnaryKind) (s : Option Shape) → IsKnown s → IsKnown (shapes.changed_shape k s)
changed_known (Changed f) s h = h
changed_known (Reduced f) s h = refl

paired_known : (k : BinaryKind) (s r : Option Shape) → IsKnown s → IsKnown r → IsKnown (shapes.paired_shape k s r)
paired_known (InContext f) s r h k = choice_known s r h k
paired_known (Shifted f) s r h k = h
paired_known (ByPair f) s r h k = refl
paired_known (Logical f) s r h k = refl

sign_known : (z : Bool) (s : Option Shape) → IsKnown s → IsKnown (shapes.sign_shape z s)
sign_known z None h = absurd (false_true h)
sign_known z (Some s) h = refl

total_known : (total : Option ℕ) (s : Option Shape) → IsKnown total → IsKnown s → IsKnown (shapes.and_width total s)
total_known None s h k = absurd (false_true h)
total_known (Some total) None h k = absurd (false_true k)
total_known (Some total) (Some s) h k = refl

-- ---- parts: where nothing is refused and all is constant

abbrev Both : Option Shape → Option ExprTerm → Type 0
Both s t = IsKnown s × IsKnown t

abbrev Known : Elab (Option Fault) → Type 0
Known x = x.reads.constant ≡ true → x.faults ≡ None → Both x.shape x.tree

abbrev KnownParts : Elabs (Option Fault) → Type 0
KnownParts x = x.reads.constant ≡ true → x.faults ≡ None → IsKnown x.total × IsKnown x.trees

abbrev KnownRange : RangeElab (Option Fault) → Type 0
KnownRange x = x.reads.constant ≡ true → x.faults ≡ None → IsKnown x.tree

abbrev KnownRanges : RangesElab (Option Fault) → Type 0
KnownRanges x = x.reads.constant ≡ true → x.faults ≡ None → IsKnown x.trees

abbrev KnownBound : BoundElab (Option Fault) → Type 0
KnownBound x = x.reads.constant ≡ true → x.faults ≡ None → IsKnown x.tree

plain_value : (x : Elab (Option Fault)) → Known x → Known (spec.plain first_one x)
plain_value x h c f = h c (none_left _ _ f)

sole_value : (x : Elab (Option Fault)) → Known x → Known (spec.sole first_one x)
sole_value x h c f = h c (none_left _ _ f)

meaning_known : (m : Meaning) → MemberKnown m → (name : ℕ) (call : Bool) → (shapes.meaning_reads m).constant ≡ true → spec.meaning_faults first_one name call m ≡ None → Both (shapes.meaning_shape m) (shapes.meaning_tree m)
meaning_known (Wrong w) h name call c f = absurd (false_true c)
meaning_known (LoopOf k) h name call c f = absurd (false_true c)
meaning_known (ItemOf k p) h name call c f = absurd (false_true c)
meaning_known (MemberOf v kind) h name call c f = (mapped kind_shape kind h.1, both (λ k v. term.typed k.kind.width k.kind.signed (term.number v false)) kind v h.1 h.0)
meaning_known (PropertyOf p o) h name call c f = absurd (false_true c)
meaning_known (SizeOf p o) h name call c f = absurd (false_true c)
meaning_known (FoldOf p o f array) h name call c g = absurd (false_true c)
meaning_known (VariableOf v kind) h name call c f = absurd (false_true c)
meaning_known (ObjectOf o d) h name call c f = absurd (false_true c)

one_no_constant : (b : Bool) (x y : Elab (Option Fault)) → x.reads.constant ≡ false → y.reads.constant ≡ false → (if b then x else y).reads.constant ≡ false
one_no_constant true x y h k = h
one_no_constant false x y h k = k

index_no_constant : (at : ℕ) (x i : Elab (Option Fault)) → (spec.index_part first_one at x i).reads.constant ≡ false
index_no_constant at x i =
    one_no_constant (is_whole x.form.extent) (spec.array_part first_one at x i) (if is_row x.form.extent then spec.cell_part first_one at x i else spec.bit_part first_one at x i)
    (one_no_constant (is_row (element_extent (shapes.array_property x.form.root).dims)) (spec.row_part first_one at x i) (spec.element_part first_one at x i) refl refl)
    (one_no_constant (is_row x.form.extent) (spec.cell_part first_one at x i) (spec.bit_part first_one at x i) refl refl)

-- ---- replications

known_is : (c : Bool) (f : Option Fault) (t : Option ExprTerm) → c ≡ true → f ≡ None → (if c && is_none f then option_map constant t else None) ≡ option_map constant t
known_is c f t h k =
    ap (λ (b : Bool). if b && is_none f then option_map constant t else None) h ∙ ap (λ (x : Option Fault). if is_none x then option_map constant t else None) k

-- the number that a constant is
pub number_known : (x : Elab (Option Fault)) → x.reads.constant ≡ true → x.faults ≡ None → IsKnown x.tree → IsKnown (spec.known first_one x)
number_known x c f h =
    let P : Option ℤ → Type 0 = λ z. IsKnown z in
    subst P (sym (known_is x.reads.constant x.faults x.tree c f)) (mapped constant x.tree h)

one_copied : (b : Bool) (f : ℕ → ℕ) (total : Option ℕ) → b ≡ false → IsKnown total → IsKnown (if b then None else option_map f total)
one_copied true f total h k = absurd (true_false h)
one_copied false f total h k = mapped f total k

copies_total_known : (z : Option ℤ) (total : Option ℕ) → shapes.is_too_few z ≡ false → IsKnown z → IsKnown total → IsKnown (shapes.copies_total z total)
copies_total_known None total few h k = absurd (false_true h)
copies_total_known (Some z) total few h k = one_copied (shapes.is_less z (pos 1)) (shapes.copied_width z) total few k

copies_known : (at : ℕ) (n : Elab (Option Fault)) (xs : Elabs (Option Fault)) → Known n → KnownParts xs → Known (spec.copies_part first_one at n xs)
copies_known at n xs h k c f =
    let a : n.reads.constant ≡ true = and_left n.reads.constant xs.reads.constant c in
    let d : xs.reads.constant ≡ true = and_right n.reads.constant xs.reads.constant c in
    let own = none_left _ _ f in
    let rest = none_right _ _ f in
    let other = none_left _ _ rest in
    let tests = none_right _ _ (none_right _ _ rest) in
    let few = not_when _ _ _ (none_left _ _ tests) in
    let number = h a own in
    let parts = k d other in
    let total = copies_total_known (spec.known first_one n) xs.total few (number_known n a own number.1) parts.0 in
    let shaped = mapped shapes.bits_wide (shapes.copies_total (spec.known first_one n) xs.total) total in
    (shaped, as_typed _ (shapes.copies_node n.tree xs.trees) shaped (both (λ n ts. term.copies n (term.exprs_of ts)) n.tree xs.trees number.1 parts.1))

-- ---- the whole

module _ (n : Space) (m : GlobalsKnown n) where
  value_of : (e : ExprTree) → Known (spec.elab first_one n e) → Known (spec.plain first_one (spec.elab first_one n e))
  value_of e h = plain_value (spec.elab first_one n e) h

  mutual
    elab_known : (e : ExprTree) → Known (spec.elab first_one n e)
    elab_known (raw.number at v w s) c f = (refl, refl)
    elab_known (raw.path at s names call) c f = meaning_known (look n s names).meaning (look_known n m s names) (spec.last_name at names) call c (none_right _ _ f)
    elab_known (raw.bit_select at x i call) c f =
        absurd (false_true (sym (index_no_constant at (spec.elab first_one n x) (spec.plain first_one (spec.elab first_one n i))) ∙ c))
    elab_known (raw.part_select at x g l call) c f = absurd (false_true c)
    elab_known (raw.unary at op x) c f =
        let a : Elab (Option Fault) = spec.plain first_one (spec.elab first_one n x) in
        let b = value_of x (elab_known x) c f in
        let s = changed_known (unary_kind op) a.shape b.0 in
        (s, as_typed (shapes.unary_shape op a.shape) (option_map (term.unary op) a.tree) s (mapped (term.unary op) a.tree b.1))
    elab_known (raw.binary at op x y) c f =
        let a : Elab (Option Fault) = spec.plain first_one (spec.elab first_one n x) in
        let b : Elab (Option Fault) = spec.plain first_one (spec.elab first_one n y) in
        let d = value_of x (elab_known x) (and_left a.reads.constant b.reads.constant c) (none_left _ _ f) in
        let e = value_of y (elab_known y) (and_right a.reads.constant b.reads.constant c) (none_right _ _ f) in
        let s = paired_known (binary_kind op) a.shape b.shape d.0 e.0 in
        (s, as_typed (shapes.binary_shape op a.shape b.shape) (both_known (term.binary op) a.tree b.tree) s (both (term.binary op) a.tree b.tree d.1 e.1))
    elab_known (raw.choice at t x y) c f =
        let o : Elab (Option Fault) = spec.plain first_one (spec.elab first_one n t) in
        let a : Elab (Option Fault) = spec.plain first_one (spec.elab first_one n x) in
        let b : Elab (Option Fault) = spec.plain first_one (spec.elab first_one n y) in
        let later : (a.reads.constant && b.reads.constant) ≡ true = and_right o.reads.constant (a.reads.constant && b.reads.constant) c in
        let u = value_of t (elab_known t) (and_left o.reads.constant (a.reads.constant && b.reads.constant) c) (none_left _ _ f) in
        let d = value_of x (elab_known x) (and_left a.reads.constant b.reads.constant later) (none_left _ _ (none_right _ _ f)) in
        let e = value_of y (elab_known y) (and_right a.reads.constant b.reads.constant later) (none_right _ _ (none_right _ _ f)) in
        let s = choice_known a.shape b.shape d.0 e.0 in
        (s, as_typed (shapes.choice_shape a.shape b.shape) (all_known term.choice o.tree a.tree b.tree) s (all term.choice o.tree a.tree b.tree u.1 d.1 e.1))
    elab_known (raw.inside at x rs) c f =
        let a : Elab (Option Fault) = spec.plain first_one (spec.elab first_one n x) in
        let r : RangesElab (Option Fault) = spec.ranges first_one n (spec.no_ranges first_one) rs in
        let d = value_of x (elab_known x) (and_left a.reads.constant r.reads.constant c) (none_left _ _ f) in
        let e = ranges_known rs (spec.no_ranges first_one) (λ b g. refl) (and_right a.reads.constant r.reads.constant c) (none_right _ _ f) in
        (refl, as_typed (Some shapes.bit) (shapes.inside_node a.tree r.trees) refl (both (λ x rs. term.inside x (term.ranges_of rs)) a.tree r.trees d.1 e))
    elab_known (raw.join at xs) c f =
        let p : Elabs (Option Fault) = spec.parts first_one n (spec.no_parts first_one) xs in
        let d = parts_known xs (spec.no_parts first_one) (λ b g. (refl, refl)) c (none_left _ _ f) in
        let s = mapped shapes.bits_wide p.total d.0 in
        (s, as_typed (option_map shapes.bits_wide p.total) (shapes.join_node p.trees) s (mapped (λ ts. term.join (term.exprs_of ts)) p.trees d.1))
    elab_known (raw.copies at x xs) c f =
        copies_known at (spec.plain first_one (spec.elab first_one n x)) (spec.parts first_one n (spec.no_parts first_one) xs) (value_of x (elab_known x))
        (parts_known xs (spec.no_parts first_one) (λ b g. (refl, refl))) c f
    elab_known (raw.sign at z x) c f =
        let a : Elab (Option Fault) = spec.plain first_one (spec.elab first_one n x) in
        let b = value_of x (elab_known x) c f in
        let s = sign_known z a.shape b.0 in
        (s, as_typed (shapes.sign_shape z a.shape) (option_map (term.sign z) a.tree) s (mapped (term.sign z) a.tree b.1))
    elab_known (raw.paren at x) c f = sole_value (spec.elab first_one n x) (elab_known x) c f
    elab_known (raw.reduce at x g item body) c f = absurd (false_true c)

    parts_known : (xs : ExprTrees) (start : Elabs (Option Fault)) → KnownParts start → KnownParts (spec.parts first_one n start xs)
    parts_known raw.no_exprs start k = k
    parts_known (raw.more_exprs x xs) start k =
        let v : Elab (Option Fault) = spec.plain first_one (spec.elab first_one n x) in
        parts_known xs (spec.and_part first_one start v)
        (λ c f. let a = k (and_left start.reads.constant v.reads.constant c) (none_left _ _ f) in
        let b = value_of x (elab_known x) (and_right start.reads.constant v.reads.constant c) (none_right _ _ f) in
        (total_known start.total v.shape a.0 b.0, more start.trees v.tree a.1 b.1))

    ranges_known : (rs : RangeTrees) (start : RangesElab (Option Fault)) → KnownRanges start → KnownRanges (spec.ranges first_one n start rs)
    ranges_known raw.no_ranges start k = k
    ranges_known (raw.more_ranges r rs) start k =
        let v : RangeElab (Option Fault) = spec.range first_one n r in
        ranges_known rs (spec.and_range first_one start v)
        (λ c f. more start.trees v.tree (k (and_left start.reads.constant v.reads.constant c) (none_left _ _ f)) (range_known r (and_right start.reads.constant v.reads.constant c) (none_right _ _ f)))

    range_known : (r : RangeTree) → KnownRange (spec.range first_one n r)
    range_known (raw.one x) c f = mapped term.one (spec.elab first_one n x).tree (sole_value (spec.elab first_one n x) (elab_known x) c f).1
    range_known (raw.span l g) c f =
        let a : BoundElab (Option Fault) = spec.bound first_one n l in
        let b : BoundElab (Option Fault) = spec.bound first_one n g in
        both term.span a.tree b.tree (bound_known l (and_left a.reads.constant b.reads.constant c) (none_left _ _ f)) (bound_known g (and_right a.reads.constant b.reads.constant c) (none_right _ _ f))

    bound_known : (b : BoundTree) → KnownBound (spec.bound first_one n b)
    bound_known (raw.value x) c f = mapped term.value (spec.elab first_one n x).tree (value_of x (elab_known x) c f).1
    bound_known raw.dollar c f = refl

  pub value_known : (e : ExprTree) → (spec.value first_one n e).reads.constant ≡ true → (spec.value first_one n e).faults ≡ None → IsKnown (spec.value first_one n e).tree
  value_known e c f = (value_of e (elab_known e) c f).1

constant_of_known : (x : Elab (Option Fault)) → (x.reads.constant ≡ true → x.faults ≡ None → IsKnown x.tree) → (constant_of first_one x).faults ≡ None → IsKnown (constant_of first_one x).number
constant_of_known x h f =
    let own = none_left _ _ f in
    let c = not_not x.reads.constant (not_when (not x.reads.constant) x.at refusal.NotConstant (none_right _ _ f)) in
    number_known x c own (h c own)

pub constants_have_numbers : ConstantsHaveNumbers
constants_have_numbers n e m f = constant_of_known (spec.value first_one n e) (value_known n m e) f
