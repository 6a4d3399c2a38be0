-- Forms over typed trees give typed trees: stored sizes and signs are those that the shapes say.
use Rattle.std.proofs.Common.{◌≡◌, ℕ, suc, ◌+◌, ◌-◌, ◌*◌, ◌^◌, ◌<◌, ◌≤◌, ◌==◌, min, max, ℤ, pos, negsuc, Bool, true, false, not, ◌&&◌, ◌||◌, nat_lt, cond, if◌then◌else◌, List, [], ◌∷◌, ◌++◌, Option, None, Some, option_map, refl, sym, ap, subst, ◌∙◌, arith}
use Rattle.std.specs.Prelude.{⊤}
use Rattle.std.specs.Prelude.{int_lt}
use Rattle.std.proofs.lemmas.Bool.Decides.{nat_tests}
use Rattle.std.proofs.Math.Nat.{mul-pos}
use Rattle.svr_num.specs.Num.{read_of, signed_of}
use Rattle.svr_operator.specs.declared.UnOp.{UnOp}
use Rattle.svr_operator.specs.declared.BinOp.{BinOp}
use Rattle.svr_typed.specs.ExprTerm as term
use Rattle.svr_typed.specs.ExprTerm.{ExprTerm, typed, NodeTerm, ExprTerms, RangeTerm, RangeTerms, BoundTerm, exprs_of, ranges_of}
use Rattle.svr_eval.specs.declared.UnaryKind.{UnaryKind}
use Rattle.svr_eval.specs.declared.UnaryKind.TheVariants.{Changed, Reduced}
use Rattle.svr_eval.specs.declared.BinaryKind.{BinaryKind}
use Rattle.svr_eval.specs.declared.BinaryKind.TheVariants.{InContext, Shifted, ByPair, Logical}
use Rattle.svr_eval.specs.Operator.{unary_kind, binary_kind, unary_size, unary_sign, binary_size, binary_sign}
use Rattle.svr_eval.specs.Reading.{blank}
use Rattle.svr_eval.specs.Value.{size_of, sign_of, node_size, node_sign, sizes, alone}
use Rattle.svr_eval.specs.Typed.{IsTyped, NodeIsTyped, AreTyped, RangesAreTyped, RangeIsTyped, BoundIsTyped, IsConstant, AreConstant, RangesAreConstant, RangeIsConstant, BoundIsConstant, constant}
use Rattle.svr_elab_names.specs.declared.Vector.{Vector}
use Rattle.svr_elab_part.specs.declared.part.Shape.{Shape}
use Rattle.svr_elab_part.specs.Fits.{MemberFits, KindFits}
use Rattle.svr_elab_part.specs.Shapes as shapes
use Rattle.svr_elab_part.specs.Shapes.{both_known, all_known, typed_as, bit, bits_wide, choice_shape, changed_shape, unary_shape, paired_shape, binary_shape, sign_shape, and_width, and_more, is_wide, is_less, copied_width, copies_total, kind_shape, member_tree}

-- ---- typed trees

abbrev pub shape_of : ExprTerm → Shape
shape_of t = record { width = size_of t; signed = sign_of t }

-- a typed tree of this shape, of numbers and operators alone where that is said
pub record Fine (s : Option Shape) (c : Bool) (t : ExprTerm) : Type 0 where
  pub shape : s ≡ Some (shape_of t)
  pub typed : IsTyped t
  pub constant : c ≡ true → IsConstant t

-- the same, where there is a tree
abbrev pub TreeFine : Option Shape → Bool → Option ExprTerm → Type 0
TreeFine s c None = ⊤
TreeFine s c (Some t) = Fine s c t

pub size_from : (t : ExprTerm) → IsTyped t → 1 ≤ size_of t
size_from (typed w s n) h = let a : 1 ≤ w = h.0 in let e : node_size w n ≡ w = h.2 in omega arith

pub size_to : (t : ExprTerm) → IsTyped t → size_of t ≤ 64
size_to (typed w s n) h = let a : w ≤ 64 = h.1 in let e : node_size w n ≡ w = h.2 in omega arith

-- a node whose size and sign are its shape's
pub node_fine : (w : ℕ) (s c : Bool) (n : NodeTerm) → 1 ≤ w → w ≤ 64 → node_size w n ≡ w → node_sign s n ≡ s → NodeIsTyped w n → (c ≡ true → IsConstant (typed w s n))
    → Fine (Some (record { width = w; signed = s })) c (typed w s n)
node_fine w s c n low high size sign h k = record {
  shape = ap (λ (v : ℕ). Some (let r : Shape = record { width = v; signed = s } in r)) (sym size) ∙ ap (λ (z : Bool). Some (let r : Shape = record { width = node_size w n; signed = z } in r)) (sym sign);
  typed = (low, high, size, sign, h);
  constant = k;
}

pub without_node : (s : Option Shape) (c : Bool) → TreeFine s c (typed_as s None)
without_node None c = tt
without_node (Some s) c = tt

pub and_left : (a b : Bool) → (a && b) ≡ true → a ≡ true
and_left true b h = refl
and_left false b h = h

pub and_right : (a b : Bool) → (a && b) ≡ true → b ≡ true
and_right true b h = h
and_right false b h = absurd (let e : false ≡ true = h in cc)

max_from : (a b : ℕ) → 1 ≤ a → 1 ≤ max a b
max_from a b h = omega arith

max_to : (a b : ℕ) → a ≤ 64 → b ≤ 64 → max a b ≤ 64
max_to a b h k = omega arith

-- ---- unary operators

unary_case : (op : UnOp) (k : UnaryKind) → unary_kind op ≡ k → (c : Bool) (t : ExprTerm) → IsTyped t → (c ≡ true → IsConstant t)
    → TreeFine (changed_shape k (Some (shape_of t))) c (typed_as (changed_shape k (Some (shape_of t))) (Some (term.unary op t)))
unary_case op (Changed f) e c t h k =
    node_fine (size_of t) (sign_of t) c (term.unary op t) (size_from t h) (size_to t h)
    (ap (λ (u : UnaryKind). unary_size u (size_of t)) e) (ap (λ (u : UnaryKind). unary_sign u (sign_of t)) e) h k
unary_case op (Reduced f) e c t h k =
    node_fine 1 false c (term.unary op t) (omega arith) (omega arith)
    (ap (λ (u : UnaryKind). unary_size u (size_of t)) e) (ap (λ (u : UnaryKind). unary_sign u (sign_of t)) e) h k

pub unary_fine : (op : UnOp) (s : Option Shape) (c : Bool) (t : Option ExprTerm) → TreeFine s c t
    → TreeFine (unary_shape op s) c (typed_as (unary_shape op s) (option_map (term.unary op) t))
unary_fine op s c None h = without_node (unary_shape op s) c
unary_fine op s c (Some t) h =
    let P : Option Shape → Type 0 = λ s. TreeFine (unary_shape op s) c (typed_as (unary_shape op s) (Some (term.unary op t))) in
    subst P (sym h.shape) (unary_case op (unary_kind op) refl c t h.typed h.constant)

-- ---- `$signed` and `$unsigned`

pub sign_fine : (z : Bool) (s : Option Shape) (c : Bool) (t : Option ExprTerm) → TreeFine s c t
    → TreeFine (sign_shape z s) c (typed_as (sign_shape z s) (option_map (term.sign z) t))
sign_fine z s c None h = without_node (sign_shape z s) c
sign_fine z s c (Some t) h =
    let P : Option Shape → Type 0 = λ s. TreeFine (sign_shape z s) c (typed_as (sign_shape z s) (Some (term.sign z t))) in
    subst P (sym h.shape) (node_fine (size_of t) z c (term.sign z t) (size_from t h.typed) (size_to t h.typed) refl refl h.typed h.constant)

-- ---- binary operators

abbrev BinaryFine : BinOp → BinaryKind → Bool → Bool → ExprTerm → ExprTerm → Type 0
BinaryFine op k c d x y =
    TreeFine (paired_shape k (Some (shape_of x)) (Some (shape_of y))) (c && d) (typed_as (paired_shape k (Some (shape_of x)) (Some (shape_of y))) (Some (term.binary op x y)))

binary_case : (op : BinOp) (k : BinaryKind) → binary_kind op ≡ k → (c d : Bool) (x y : ExprTerm) → IsTyped x → IsTyped y → (c ≡ true → IsConstant x) → (d ≡ true → IsConstant y)
    → BinaryFine op k c d x y
binary_case op (InContext f) e c d x y h k i j =
    node_fine (max (size_of x) (size_of y)) (sign_of x && sign_of y) (c && d) (term.binary op x y)
    (max_from (size_of x) (size_of y) (size_from x h)) (max_to (size_of x) (size_of y) (size_to x h) (size_to y k))
    (ap (λ (u : BinaryKind). binary_size u (size_of x) (size_of y)) e) (ap (λ (u : BinaryKind). binary_sign u (sign_of x) (sign_of y)) e)
    (h, k) (λ b. (i (and_left c d b), j (and_right c d b)))
binary_case op (Shifted f) e c d x y h k i j =
    node_fine (size_of x) (sign_of x) (c && d) (term.binary op x y) (size_from x h) (size_to x h)
    (ap (λ (u : BinaryKind). binary_size u (size_of x) (size_of y)) e) (ap (λ (u : BinaryKind). binary_sign u (sign_of x) (sign_of y)) e)
    (h, k) (λ b. (i (and_left c d b), j (and_right c d b)))
binary_case op (ByPair f) e c d x y h k i j =
    node_fine 1 false (c && d) (term.binary op x y) (omega arith) (omega arith)
    (ap (λ (u : BinaryKind). binary_size u (size_of x) (size_of y)) e) (ap (λ (u : BinaryKind). binary_sign u (sign_of x) (sign_of y)) e)
    (h, k) (λ b. (i (and_left c d b), j (and_right c d b)))
binary_case op (Logical f) e c d x y h k i j =
    node_fine 1 false (c && d) (term.binary op x y) (omega arith) (omega arith)
    (ap (λ (u : BinaryKind). binary_size u (size_of x) (size_of y)) e) (ap (λ (u : BinaryKind). binary_sign u (sign_of x) (sign_of y)) e)
    (h, k) (λ b. (i (and_left c d b), j (and_right c d b)))

pub binary_fine : (op : BinOp) (s r : Option Shape) (c d : Bool) (x y : Option ExprTerm) → TreeFine s c x → TreeFine r d y
    → TreeFine (binary_shape op s r) (c && d) (typed_as (binary_shape op s r) (both_known (term.binary op) x y))
binary_fine op s r c d None y h k = without_node (binary_shape op s r) (c && d)
binary_fine op s r c d (Some x) None h k = without_node (binary_shape op s r) (c && d)
binary_fine op s r c d (Some x) (Some y) h k =
    let P : Option Shape → Type 0 = λ s. TreeFine (binary_shape op s r) (c && d) (typed_as (binary_shape op s r) (Some (term.binary op x y))) in
    let Q : Option Shape → Type 0 = λ r. TreeFine (binary_shape op (Some (shape_of x)) r) (c && d) (typed_as (binary_shape op (Some (shape_of x)) r) (Some (term.binary op x y))) in
    subst P (sym h.shape) (subst Q (sym k.shape) (binary_case op (binary_kind op) refl c d x y h.typed k.typed h.constant k.constant))

-- ---- the conditional operator

choice_case : (a c d : Bool) (t x y : ExprTerm) → IsTyped t → IsTyped x → IsTyped y → (a ≡ true → IsConstant t) → (c ≡ true → IsConstant x) → (d ≡ true → IsConstant y)
    → Fine (choice_shape (Some (shape_of x)) (Some (shape_of y))) (a && (c && d)) (typed (max (size_of x) (size_of y)) (sign_of x && sign_of y) (term.choice t x y))
choice_case a c d t x y g h k l i j =
    node_fine (max (size_of x) (size_of y)) (sign_of x && sign_of y) (a && (c && d)) (term.choice t x y)
    (max_from (size_of x) (size_of y) (size_from x h)) (max_to (size_of x) (size_of y) (size_to x h) (size_to y k)) refl refl
    (g, h, k) (λ b. (l (and_left a (c && d) b), i (and_left c d (and_right a (c && d) b)), j (and_right c d (and_right a (c && d) b))))

pub choice_fine : (q s r : Option Shape) (a c d : Bool) (t x y : Option ExprTerm) → TreeFine q a t → TreeFine s c x → TreeFine r d y
    → TreeFine (choice_shape s r) (a && (c && d)) (typed_as (choice_shape s r) (all_known term.choice t x y))
choice_fine q s r a c d None x y g h k = without_node (choice_shape s r) (a && (c && d))
choice_fine q s r a c d (Some t) None y g h k = without_node (choice_shape s r) (a && (c && d))
choice_fine q s r a c d (Some t) (Some x) None g h k = without_node (choice_shape s r) (a && (c && d))
choice_fine q s r a c d (Some t) (Some x) (Some y) g h k =
    let P : Option Shape → Type 0 = λ s. TreeFine (choice_shape s r) (a && (c && d)) (typed_as (choice_shape s r) (Some (term.choice t x y))) in
    let Q : Option Shape → Type 0 = λ r. TreeFine (choice_shape (Some (shape_of x)) r) (a && (c && d)) (typed_as (choice_shape (Some (shape_of x)) r) (Some (term.choice t x y))) in
    subst P (sym h.shape) (subst Q (sym k.shape) (choice_case a c d t x y g.typed h.typed k.typed g.constant h.constant k.constant))

-- ---- members of sets

pub record RangeFine (c : Bool) (r : RangeTerm) : Type 0 where
  pub typed : RangeIsTyped r
  pub constant : c ≡ true → RangeIsConstant r

pub record RangesFine (c : Bool) (rs : List RangeTerm) : Type 0 where
  pub typed : RangesAreTyped (ranges_of rs)
  pub constant : c ≡ true → RangesAreConstant (ranges_of rs)

pub record BoundFine (c : Bool) (b : BoundTerm) : Type 0 where
  pub typed : BoundIsTyped b
  pub constant : c ≡ true → BoundIsConstant b

abbrev pub SomeRange : Bool → Option RangeTerm → Type 0
SomeRange c None = ⊤
SomeRange c (Some r) = RangeFine c r

abbrev pub SomeRanges : Bool → Option (List RangeTerm) → Type 0
SomeRanges c None = ⊤
SomeRanges c (Some rs) = RangesFine c rs

abbrev pub SomeBound : Bool → Option BoundTerm → Type 0
SomeBound c None = ⊤
SomeBound c (Some b) = BoundFine c b

pub one_fine : (s : Option Shape) (c : Bool) (t : Option ExprTerm) → TreeFine s c t → SomeRange c (option_map term.one t)
one_fine s c None h = tt
one_fine s c (Some t) h = record { typed = h.typed; constant = h.constant }

pub bound_fine : (s : Option Shape) (c : Bool) (t : Option ExprTerm) → TreeFine s c t → SomeBound c (option_map term.value t)
bound_fine s c None h = tt
bound_fine s c (Some t) h = record { typed = h.typed; constant = h.constant }

pub span_fine : (c d : Bool) (l h : Option BoundTerm) → SomeBound c l → SomeBound d h → SomeRange (c && d) (both_known term.span l h)
span_fine c d None h i j = tt
span_fine c d (Some l) None i j = tt
span_fine c d (Some l) (Some h) i j = record {
  typed = (i.typed, j.typed);
  constant = λ b. (i.constant (and_left c d b), j.constant (and_right c d b));
}

ranges_typed : (rs : List RangeTerm) (r : RangeTerm) → RangesAreTyped (ranges_of rs) → RangeIsTyped r → RangesAreTyped (ranges_of (rs ++ r ∷ []))
ranges_typed [] r h k = (k, tt)
ranges_typed (x ∷ xs) r h k = (h.0, ranges_typed xs r h.1 k)

ranges_constant : (rs : List RangeTerm) (r : RangeTerm) → RangesAreConstant (ranges_of rs) → RangeIsConstant r → RangesAreConstant (ranges_of (rs ++ r ∷ []))
ranges_constant [] r h k = (k, tt)
ranges_constant (x ∷ xs) r h k = (h.0, ranges_constant xs r h.1 k)

pub range_more : (c d : Bool) (rs : Option (List RangeTerm)) (r : Option RangeTerm) → SomeRanges c rs → SomeRange d r → SomeRanges (c && d) (and_more rs r)
range_more c d None r h k = tt
range_more c d (Some rs) None h k = tt
range_more c d (Some rs) (Some r) h k = record {
  typed = ranges_typed rs r h.typed k.typed;
  constant = λ b. ranges_constant rs r (h.constant (and_left c d b)) (k.constant (and_right c d b));
}

pub inside_fine : (s : Option Shape) (c d : Bool) (t : Option ExprTerm) (rs : Option (List RangeTerm)) → TreeFine s c t → SomeRanges d rs
    → TreeFine (Some bit) (c && d) (typed_as (Some bit) (shapes.inside_node t rs))
inside_fine s c d None rs h k = tt
inside_fine s c d (Some t) None h k = tt
inside_fine s c d (Some t) (Some rs) h k =
    node_fine 1 false (c && d) (term.inside t (ranges_of rs)) (omega arith) (omega arith) refl refl
    (h.typed, k.typed) (λ b. (h.constant (and_left c d b), k.constant (and_right c d b)))

-- ---- concatenations

-- the parts so far, of `low` bits at least; `total` is the sum of their widths, where over 64 count as 65
pub record PartsFine (low : ℕ) (total : Option ℕ) (c : Bool) (ts : List ExprTerm) : Type 0 where
  pub bits : total ≡ Some (min 65 (sizes (exprs_of ts)))
  pub from : low ≤ sizes (exprs_of ts)
  pub typed : AreTyped (exprs_of ts)
  pub constant : c ≡ true → AreConstant (exprs_of ts)

abbrev pub SomeParts : ℕ → Option ℕ → Bool → Option (List ExprTerm) → Type 0
SomeParts low total c None = ⊤
SomeParts low total c (Some ts) = PartsFine low total c ts

are_typed : (ts : List ExprTerm) (t : ExprTerm) → AreTyped (exprs_of ts) → IsTyped t → AreTyped (exprs_of (ts ++ t ∷ []))
are_typed [] t h k = (k, tt)
are_typed (x ∷ xs) t h k = (h.0, are_typed xs t h.1 k)

are_constant : (ts : List ExprTerm) (t : ExprTerm) → AreConstant (exprs_of ts) → IsConstant t → AreConstant (exprs_of (ts ++ t ∷ []))
are_constant [] t h k = (k, tt)
are_constant (x ∷ xs) t h k = (h.0, are_constant xs t h.1 k)

sizes_more : (ts : List ExprTerm) (t : ExprTerm) → sizes (exprs_of (ts ++ t ∷ [])) ≡ sizes (exprs_of ts) + size_of t
sizes_more [] t = omega arith
sizes_more (x ∷ xs) t = let h = sizes_more xs t in omega (arith, h)

min_more : (a b c : ℕ) → c ≡ a + b → min 65 (min 65 a + b) ≡ min 65 c
min_more a b c h = omega arith

part_case : (low : ℕ) (c d : Bool) (ts : List ExprTerm) (t : ExprTerm) → PartsFine low (Some (min 65 (sizes (exprs_of ts)))) c ts → IsTyped t → (d ≡ true → IsConstant t)
    → PartsFine 1 (and_width (Some (min 65 (sizes (exprs_of ts)))) (Some (shape_of t))) (c && d) (ts ++ t ∷ [])
part_case low c d ts t h k i = record {
  bits = ap (λ (v : ℕ). Some v) (min_more (sizes (exprs_of ts)) (size_of t) (sizes (exprs_of (ts ++ t ∷ []))) (sizes_more ts t));
  from = let e = sizes_more ts t in let f = size_from t k in omega (arith, e, f);
  typed = are_typed ts t h.typed k;
  constant = λ b. are_constant ts t (h.constant (and_left c d b)) (i (and_right c d b));
}

pub part_more : (low : ℕ) (total : Option ℕ) (s : Option Shape) (c d : Bool) (ts : Option (List ExprTerm)) (t : Option ExprTerm) → SomeParts low total c ts → TreeFine s d t
    → SomeParts 1 (and_width total s) (c && d) (and_more ts t)
part_more low total s c d None t h k = tt
part_more low total s c d (Some ts) None h k = tt
part_more low total s c d (Some ts) (Some t) h k =
    let P : Option ℕ → Type 0 = λ n. PartsFine 1 (and_width n s) (c && d) (ts ++ t ∷ []) in
    let Q : Option Shape → Type 0 = λ s. PartsFine 1 (and_width (Some (min 65 (sizes (exprs_of ts)))) s) (c && d) (ts ++ t ∷ []) in
    let R : Option ℕ → Type 0 = λ n. PartsFine low n c ts in
    subst P (sym h.bits) (subst Q (sym k.shape) (part_case low c d ts t (subst R h.bits h) k.typed k.constant))

pub no_parts_fine : PartsFine 0 (Some 0) true []
no_parts_fine = record { bits = refl; from = omega arith; typed = tt; constant = λ b. tt }

join_case : (c : Bool) (ts : List ExprTerm) (k : ℕ) → PartsFine 1 (Some (min 65 (sizes (exprs_of ts)))) c ts → k ≡ min 65 (sizes (exprs_of ts)) → k ≤ 64
    → Fine (Some (bits_wide k)) c (typed k false (term.join (exprs_of ts)))
join_case c ts k h e low =
    let f : 1 ≤ sizes (exprs_of ts) = h.from in
    node_fine k false c (term.join (exprs_of ts)) (omega arith) low (omega arith) refl h.typed h.constant

below_65 : (w : ℕ) → nat_lt 64 w ≡ false → w ≤ 64
below_65 w h = grind (arith, nat_tests, h)

pub join_fine : (total : Option ℕ) (c : Bool) (ts : Option (List ExprTerm)) → SomeParts 1 total c ts → is_wide total ≡ false
    → TreeFine (option_map bits_wide total) c (typed_as (option_map bits_wide total) (shapes.join_node ts))
join_fine total c None h k = without_node (option_map bits_wide total) c
join_fine total c (Some ts) h k =
    let n : ℕ = min 65 (sizes (exprs_of ts)) in
    let P : Option ℕ → Type 0 = λ total. TreeFine (option_map bits_wide total) c (typed_as (option_map bits_wide total) (Some (term.join (exprs_of ts)))) in
    let Q : Option ℕ → Type 0 = λ total. PartsFine 1 total c ts in
    subst P (sym h.bits) (join_case c ts n (subst Q h.bits h) refl (below_65 n (sym (ap is_wide h.bits) ∙ k)))

-- ---- replications

pos_is : (b : Bool) (v k m : ℕ) → cond b (pos v) (negsuc k) ≡ pos m → v ≡ m
pos_is true v k m h = cc
pos_is false v k m h = absurd (let e : negsuc k ≡ pos m = h in cc)

read_is : (s : Bool) (w v m : ℕ) → read_of s w v ≡ pos m → v ≡ m
read_is true w v m h = pos_is (nat_lt v (2 ^ (w - 1))) v (2 ^ w - suc v) m h
read_is false w v m h = cc

one_or_more : (m : ℕ) → is_less (pos m) (pos 1) ≡ false → 1 ≤ m
one_or_more m h = grind (arith, nat_tests, h)

own_least : (x : ℕ) → min 65 x ≤ 64 → x ≡ min 65 x
own_least x h = omega arith

all_least : (m x y : ℕ) → x ≡ y → min 65 (m * x) ≤ 64 → m * y ≡ min 65 (m * x)
all_least m x y e h = sym (ap (λ (v : ℕ). m * v) e) ∙ own_least (m * x) h

few : (m x : ℕ) → 1 ≤ m → 65 ≤ x → min 65 (m * min 65 x) ≤ 64 → ⊥
few m x h k l =
    let e : min 65 x ≡ 65 = omega arith in
    let P : ℕ → Type 0 = λ v. min 65 (m * v) ≤ 64 in
    let q : min 65 (m * 65) ≤ 64 = subst P e l in
    omega arith

product_by : (m x : ℕ) (b : Bool) → nat_lt 64 x ≡ b → 1 ≤ m → min 65 (m * min 65 x) ≤ 64 → m * x ≡ min 65 (m * min 65 x)
product_by m x true e h k = absurd (few m x h (grind (arith, nat_tests, e)) k)
product_by m x false e h k = let s : x ≤ 64 = grind (arith, nat_tests, e) in all_least m (min 65 x) x (omega arith) k

product_is : (m x : ℕ) → 1 ≤ m → min 65 (m * min 65 x) ≤ 64 → m * x ≡ min 65 (m * min 65 x)
product_is m x h k = product_by m x (nat_lt 64 x) refl h k

copies_case : (c d : Bool) (m : ℕ) (n : ExprTerm) (ts : List ExprTerm) → constant n ≡ pos m → IsTyped n → IsConstant n → PartsFine 1 (Some (min 65 (sizes (exprs_of ts)))) d ts → 1 ≤ m
    → copied_width (pos m) (min 65 (sizes (exprs_of ts))) ≤ 64
    → Fine (Some (bits_wide (copied_width (pos m) (min 65 (sizes (exprs_of ts)))))) (c && d) (typed (copied_width (pos m) (min 65 (sizes (exprs_of ts)))) false (term.copies n (exprs_of ts)))
copies_case c d m n ts e h k p low high =
    let v : alone blank [] n ≡ m = read_is (sign_of n) (size_of n) (alone blank [] n) m e in
    let w : m * sizes (exprs_of ts) ≡ copied_width (pos m) (min 65 (sizes (exprs_of ts))) = product_is m (sizes (exprs_of ts)) low high in
    let one : 1 ≤ m * sizes (exprs_of ts) = mul-pos low p.from in
    node_fine (copied_width (pos m) (min 65 (sizes (exprs_of ts)))) false (c && d) (term.copies n (exprs_of ts))
    (let P : ℕ → Type 0 = λ x. 1 ≤ x in subst P w one) high refl refl
    (h, k, p.typed, ap (λ (x : ℕ). x * sizes (exprs_of ts)) v ∙ w, e ∙ ap pos (sym v))
    (λ b. (k, p.constant (and_right c d b)))

copies_made : (c d : Bool) (b : Bool) (w : ℕ) (n : NodeTerm) → b ≡ false → is_wide (if b then None else Some w) ≡ false → (w ≤ 64 → Fine (Some (bits_wide w)) (c && d) (typed w false n))
    → TreeFine (option_map bits_wide (if b then None else Some w)) (c && d) (typed_as (option_map bits_wide (if b then None else Some w)) (Some n))
copies_made c d true w n h k f = absurd (let e : true ≡ false = h in cc)
copies_made c d false w n h k f = f (below_65 w k)

copies_of : (c d : Bool) (z : ℤ) (n : ExprTerm) (ts : List ExprTerm) → constant n ≡ z → IsTyped n → IsConstant n → PartsFine 1 (Some (min 65 (sizes (exprs_of ts)))) d ts → is_less z (pos 1) ≡ false
    → is_wide (copies_total (Some z) (Some (min 65 (sizes (exprs_of ts))))) ≡ false
    → TreeFine (option_map bits_wide (copies_total (Some z) (Some (min 65 (sizes (exprs_of ts)))))) (c && d)
    (typed_as (option_map bits_wide (copies_total (Some z) (Some (min 65 (sizes (exprs_of ts)))))) (Some (term.copies n (exprs_of ts))))
copies_of c d (pos m) n ts e h k p low high =
    copies_made c d (is_less (pos m) (pos 1)) (copied_width (pos m) (min 65 (sizes (exprs_of ts)))) (term.copies n (exprs_of ts)) low high
    (λ fits. copies_case c d m n ts e h k p (one_or_more m low) fits)
copies_of c d (negsuc m) n ts e h k p low high = absurd (let q : true ≡ false = low in cc)

pub copies_fine : (s : Option Shape) (total : Option ℕ) (c d : Bool) (n : Option ExprTerm) (ts : Option (List ExprTerm)) → TreeFine s c n → c ≡ true → SomeParts 1 total d ts
    → shapes.is_too_few (option_map constant n) ≡ false → is_wide (copies_total (option_map constant n) total) ≡ false
    → TreeFine (option_map bits_wide (copies_total (option_map constant n) total)) (c && d) (typed_as (option_map bits_wide (copies_total (option_map constant n) total)) (shapes.copies_node n ts))
copies_fine s total c d None ts h i p low high = without_node (option_map bits_wide (copies_total None total)) (c && d)
copies_fine s total c d (Some n) None h i p low high = without_node (option_map bits_wide (copies_total (Some (constant n)) total)) (c && d)
copies_fine s total c d (Some n) (Some ts) h i p low high =
    let z : ℤ = constant n in
    let P : Option ℕ → Type 0 = λ v. is_wide (copies_total (Some z) v) ≡ false → TreeFine (option_map bits_wide (copies_total (Some z) v)) (c && d) (typed_as (option_map bits_wide (copies_total (Some z) v)) (Some (term.copies n (exprs_of ts)))) in
    let Q : Option ℕ → Type 0 = λ v. PartsFine 1 v d ts in
    subst P (sym p.bits) (copies_of c d z n ts refl h.typed (h.constant i) (subst Q p.bits p) low) high

-- ---- literals and enum members

literal_case : (v w : ℕ) (s b : Bool) → (w == 0) ≡ b → w ≤ 64 → v < 2 ^ max 1 w
    → Fine (Some (record { width = if b then 1 else w; signed = if b then false else s })) true (typed (if b then 1 else w) (if b then false else s) (term.number v b))
literal_case v w s true e h k =
    let z : max 1 w ≡ 1 = grind (arith, nat_tests, e) in
    let P : ℕ → Type 0 = λ x. v < 2 ^ x in
    node_fine 1 false true (term.number v true) (omega arith) (omega arith) refl refl (subst P z k) (λ b. tt)
literal_case v w s false e h k =
    let low : 1 ≤ w = grind (arith, nat_tests, e) in
    let z : max 1 w ≡ w = omega arith in
    let P : ℕ → Type 0 = λ x. v < 2 ^ x in
    node_fine w s true (term.number v false) low h refl refl (subst P z k) (λ b. tt)

pub literal_fine : (v w : ℕ) (s : Bool) → w ≤ 64 → v < 2 ^ max 1 w
    → Fine (Some (record { width = if w == 0 then 1 else w; signed = if w == 0 then false else s })) true
    (typed (if w == 0 then 1 else w) (if w == 0 then false else s) (term.number v (w == 0)))
literal_fine v w s h k = literal_case v w s (w == 0) refl h k

pub member_fine : (v : Option ℕ) (kind : Option Vector) → MemberFits v kind → TreeFine (option_map kind_shape kind) true (member_tree v kind)
member_fine None None h = tt
member_fine None (Some k) h = tt
member_fine (Some v) None h = tt
member_fine (Some v) (Some k) h = node_fine k.kind.width k.kind.signed true (term.number v false) h.0.0 h.0.1 refl refl h.1 (λ b. tt)
