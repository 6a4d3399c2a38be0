-- The walk that keeps the first refusal gives the first of all that the other one gives, and the same of everything else.
use Rattle.std.proofs.Common.{◌≡◌, ℕ, ◌+◌, ℤ, Bool, true, false, not, List, [], ◌∷◌, ◌++◌, Option, None, Some, refl, sym, ap, ◌∙◌, arith, if◌then◌else◌, option_map, is_none, is_some}
use Rattle.svr_operator.specs.declared.UnOp.{UnOp}
use Rattle.svr_operator.specs.declared.BinOp.{BinOp}
use Rattle.svr_tree.specs.ExprTree as raw
use Rattle.svr_tree.specs.ExprTree.{ExprTree, ExprTrees, RangeTree, RangeTrees, BoundTree, argument_name}
use Rattle.svr_operator.specs.declared.Fold.{Fold}
use Rattle.svr_refusal.specs.declared.Refusal.TheVariants as refusal
use Rattle.svr_elab_fault.specs.declared.Fault.{Fault}
use Rattle.svr_elab_fault.specs.Refusals.{Gather, all, first_one, when, earlier, least, list_is_empty}
use Rattle.svr_elab_fault.proofs.Least.{least_append, least_when, is_none-least}
use Rattle.svr_elab_names.specs.declared.Meaning.{Meaning}
use Rattle.svr_elab_names.specs.declared.Meaning.TheVariants.{Wrong, LoopOf, ItemOf, MemberOf, PropertyOf, SizeOf, FoldOf, VariableOf, ObjectOf}
use Rattle.svr_elab_names.specs.Names.{Space, look}
use Rattle.svr_elab_names.specs.declared.Found.{Found}
use Rattle.svr_elab_part.specs.Elab as spec
use Rattle.svr_elab_form.specs.Gathered.{shown, shown_parts, shown_range, shown_ranges, shown_bound}
use Rattle.svr_elab_part.specs.Elab.{Elab, Elabs, RangeElab, RangesElab, BoundElab, body_space}
use Rattle.svr_elab_part.specs.Shapes.{array_property}
use Rattle.svr_elab_part.specs.Forms.{is_row, is_whole, element_extent}

-- ---- forms

pub plain_shown : (x : Elab (List Fault)) → shown (spec.plain all x) ≡ spec.plain first_one (shown x)
plain_shown x = simp (least_append, least_when) refl

sole_shown : (x : Elab (List Fault)) → shown (spec.sole all x) ≡ spec.sole first_one (shown x)
sole_shown x = simp (least_append, least_when) refl

meaning_shown : (name : ℕ) (call : Bool) (m : Meaning) → least (spec.meaning_faults all name call m) ≡ spec.meaning_faults first_one name call m
meaning_shown name call (Wrong w) = refl
meaning_shown name call (LoopOf k) = least_when call name refusal.UnknownName
meaning_shown name call (ItemOf k p) = least_when call name refusal.UnknownName
meaning_shown name call (MemberOf v kind) = least_when call name refusal.UnknownName
meaning_shown name call (PropertyOf p o) = least_when call name refusal.UnknownName
meaning_shown name call (SizeOf p o) = refl
meaning_shown name call (FoldOf p o f array) = least_when (is_some o) array refusal.LeftOut
meaning_shown name call (VariableOf v kind) = least_when call name refusal.UnknownName
meaning_shown name call (ObjectOf o c) = least_when call name refusal.UnknownName

unmade_shown : (u : Option ℕ) → least (spec.unmade_faults all u) ≡ spec.unmade_faults first_one u
unmade_shown None = refl
unmade_shown (Some name) = refl

pub path_shown : (at name : ℕ) (call : Bool) (f : Found) → shown (spec.path_part all at name call f) ≡ spec.path_part first_one at name call f
path_shown at name call f = simp (least_append, meaning_shown, unmade_shown) refl

row_shown : (at : ℕ) (x i : Elab (List Fault)) → shown (spec.row_part all at x i) ≡ spec.row_part first_one at (shown x) (shown i)
row_shown at x i = simp least_append refl

cell_shown : (at : ℕ) (x i : Elab (List Fault)) → shown (spec.cell_part all at x i) ≡ spec.cell_part first_one at (shown x) (shown i)
cell_shown at x i = simp least_append refl

element_shown : (at : ℕ) (x i : Elab (List Fault)) → shown (spec.element_part all at x i) ≡ spec.element_part first_one at (shown x) (shown i)
element_shown at x i = simp least_append refl

bit_shown : (at : ℕ) (x i : Elab (List Fault)) → shown (spec.bit_part all at x i) ≡ spec.bit_part first_one at (shown x) (shown i)
bit_shown at x i = simp (least_append, least_when) refl

picked : (b : Bool) (x y : Elab (List Fault)) → shown (if b then x else y) ≡ (if b then shown x else shown y)
picked true x y = refl
picked false x y = refl

array_shown : (at : ℕ) (x i : Elab (List Fault)) → shown (spec.array_part all at x i) ≡ spec.array_part first_one at (shown x) (shown i)
array_shown at x i =
    let b : Bool = is_row (element_extent (array_property x.form.root).dims) in
    picked b (spec.row_part all at x i) (spec.element_part all at x i)
    ∙ ap (λ (u : Elab (Option Fault)). if b then u else shown (spec.element_part all at x i)) (row_shown at x i)
    ∙ ap (λ (u : Elab (Option Fault)). if b then spec.row_part first_one at (shown x) (shown i) else u) (element_shown at x i)

abbrev cell_or_bit : (g : Gather (List Fault)) → ℕ → Elab (List Fault) → Elab (List Fault) → Elab (List Fault)
cell_or_bit g at x i = if is_row x.form.extent then spec.cell_part g at x i else spec.bit_part g at x i

behind_shown : (at : ℕ) (x i : Elab (List Fault)) → shown (cell_or_bit all at x i)
    ≡ (if is_row x.form.extent then spec.cell_part first_one at (shown x) (shown i) else spec.bit_part first_one at (shown x) (shown i))
behind_shown at x i =
    picked (is_row x.form.extent) (spec.cell_part all at x i) (spec.bit_part all at x i)
    ∙ ap (λ (u : Elab (Option Fault)). if is_row x.form.extent then u else shown (spec.bit_part all at x i)) (cell_shown at x i)
    ∙ ap (λ (u : Elab (Option Fault)). if is_row x.form.extent then spec.cell_part first_one at (shown x) (shown i) else u) (bit_shown at x i)

index_shown : (at : ℕ) (x i : Elab (List Fault)) → shown (spec.index_part all at x i) ≡ spec.index_part first_one at (shown x) (shown i)
index_shown at x i =
    picked (is_whole x.form.extent) (spec.array_part all at x i) (cell_or_bit all at x i)
    ∙ ap (λ (u : Elab (Option Fault)). if is_whole x.form.extent then u else shown (cell_or_bit all at x i)) (array_shown at x i)
    ∙ ap (λ (u : Elab (Option Fault)). if is_whole x.form.extent then spec.array_part first_one at (shown x) (shown i) else u) (behind_shown at x i)

parens_shown : (call : Bool) (x : Elab (List Fault)) → shown (spec.with_parens all call x) ≡ spec.with_parens first_one call (shown x)
parens_shown call x = simp (least_append, least_when) refl

pub known_shown : (x : Elab (List Fault)) → spec.known all x ≡ spec.known first_one (shown x)
known_shown x = simp is_none-least refl

slice_shown : (at : ℕ) (x f l : Elab (List Fault)) → shown (spec.slice_part all at x f l) ≡ spec.slice_part first_one at (shown x) (shown f) (shown l)
slice_shown at x f l = simp (least_append, least_when, is_none-least) refl

unary_shown : (at : ℕ) (op : UnOp) (x : Elab (List Fault)) → shown (spec.unary_part all at op x) ≡ spec.unary_part first_one at op (shown x)
unary_shown at op x = refl

binary_shown : (at : ℕ) (op : BinOp) (x y : Elab (List Fault)) → shown (spec.binary_part all at op x y) ≡ spec.binary_part first_one at op (shown x) (shown y)
binary_shown at op x y = simp least_append refl

choice_shown : (at : ℕ) (t x y : Elab (List Fault)) → shown (spec.choice_part all at t x y) ≡ spec.choice_part first_one at (shown t) (shown x) (shown y)
choice_shown at t x y = simp least_append refl

inside_shown : (at : ℕ) (x : Elab (List Fault)) (rs : RangesElab (List Fault)) → shown (spec.inside_part all at x rs) ≡ spec.inside_part first_one at (shown x) (shown_ranges rs)
inside_shown at x rs = simp least_append refl

join_shown : (at : ℕ) (xs : Elabs (List Fault)) → shown (spec.join_part all at xs) ≡ spec.join_part first_one at (shown_parts xs)
join_shown at xs = simp (least_append, least_when) refl

copies_shown : (at : ℕ) (n : Elab (List Fault)) (xs : Elabs (List Fault)) → shown (spec.copies_part all at n xs) ≡ spec.copies_part first_one at (shown n) (shown_parts xs)
copies_shown at n xs = simp (least_append, least_when, is_none-least) refl

reduce_shown : (at : ℕ) (f : Fold) (x body : Elab (List Fault)) → shown (spec.reduce_part all at f x body) ≡ spec.reduce_part first_one at f (shown x) (shown body)
reduce_shown at f x body = simp (least_append, least_when) refl

and_part_shown : (xs : Elabs (List Fault)) (x : Elab (List Fault)) → shown_parts (spec.and_part all xs x) ≡ spec.and_part first_one (shown_parts xs) (shown x)
and_part_shown xs x = simp least_append refl

pub span_shown : (l h : BoundElab (List Fault)) → shown_range (spec.span_range all l h) ≡ spec.span_range first_one (shown_bound l) (shown_bound h)
span_shown l h = simp least_append refl

and_range_shown : (rs : RangesElab (List Fault)) (r : RangeElab (List Fault)) → shown_ranges (spec.and_range all rs r) ≡ spec.and_range first_one (shown_ranges rs) (shown_range r)
and_range_shown rs r = simp least_append refl

-- ---- the walk

abbrev one : Space → ExprTree → Elab (Option Fault)
one n e = spec.elab first_one n e

abbrev every : Space → ExprTree → Elab (List Fault)
every n e = spec.elab all n e

plain_is : (n : Space) (e : ExprTree) → shown (every n e) ≡ one n e → shown (spec.plain all (every n e)) ≡ spec.plain first_one (one n e)
plain_is n e h = plain_shown (every n e) ∙ ap (spec.plain first_one) h

sole_is : (n : Space) (e : ExprTree) → shown (every n e) ≡ one n e → shown (spec.sole all (every n e)) ≡ spec.sole first_one (one n e)
sole_is n e h = sole_shown (every n e) ∙ ap (spec.sole first_one) h

mutual
  pub elab_shown : (n : Space) (e : ExprTree) → shown (spec.elab all n e) ≡ spec.elab first_one n e
  elab_shown n (raw.number at v w s) = refl
  elab_shown n (raw.path at s names call) = path_shown at (spec.last_name at names) call (look n s names)
  elab_shown n (raw.bit_select at x i call) =
      let p = plain_is n i (elab_shown n i) in let q = elab_shown n x in
      parens_shown call (spec.index_part all at (every n x) (spec.plain all (every n i)))
      ∙ ap (spec.with_parens first_one call) (index_shown at (every n x) (spec.plain all (every n i))
      ∙ ap (λ u. spec.index_part first_one at u (shown (spec.plain all (every n i)))) q ∙ ap (λ u. spec.index_part first_one at (one n x) u) p)
  elab_shown n (raw.part_select at x f l call) =
      let p = plain_is n x (elab_shown n x) in let q = plain_is n f (elab_shown n f) in let r = plain_is n l (elab_shown n l) in
      parens_shown call (spec.slice_part all at (spec.plain all (every n x)) (spec.plain all (every n f)) (spec.plain all (every n l)))
      ∙ ap (spec.with_parens first_one call) (slice_shown at (spec.plain all (every n x)) (spec.plain all (every n f)) (spec.plain all (every n l))
      ∙ ap (λ u. spec.slice_part first_one at u (shown (spec.plain all (every n f))) (shown (spec.plain all (every n l)))) p
      ∙ ap (λ u. spec.slice_part first_one at (spec.plain first_one (one n x)) u (shown (spec.plain all (every n l)))) q
      ∙ ap (λ u. spec.slice_part first_one at (spec.plain first_one (one n x)) (spec.plain first_one (one n f)) u) r)
  elab_shown n (raw.unary at op x) = ap (spec.unary_part first_one at op) (plain_is n x (elab_shown n x))
  elab_shown n (raw.binary at op x y) =
      let p = plain_is n x (elab_shown n x) in let q = plain_is n y (elab_shown n y) in
      binary_shown at op (spec.plain all (every n x)) (spec.plain all (every n y))
      ∙ ap (λ u. spec.binary_part first_one at op u (shown (spec.plain all (every n y)))) p
      ∙ ap (λ u. spec.binary_part first_one at op (spec.plain first_one (one n x)) u) q
  elab_shown n (raw.choice at t x y) =
      let o = plain_is n t (elab_shown n t) in let p = plain_is n x (elab_shown n x) in let q = plain_is n y (elab_shown n y) in
      choice_shown at (spec.plain all (every n t)) (spec.plain all (every n x)) (spec.plain all (every n y))
      ∙ ap (λ u. spec.choice_part first_one at u (shown (spec.plain all (every n x))) (shown (spec.plain all (every n y)))) o
      ∙ ap (λ u. spec.choice_part first_one at (spec.plain first_one (one n t)) u (shown (spec.plain all (every n y)))) p
      ∙ ap (λ u. spec.choice_part first_one at (spec.plain first_one (one n t)) (spec.plain first_one (one n x)) u) q
  elab_shown n (raw.inside at x rs) =
      let p = plain_is n x (elab_shown n x) in let q = ranges_shown n (spec.no_ranges all) rs in
      inside_shown at (spec.plain all (every n x)) (spec.ranges all n (spec.no_ranges all) rs)
      ∙ ap (λ u. spec.inside_part first_one at u (shown_ranges (spec.ranges all n (spec.no_ranges all) rs))) p
      ∙ ap (λ u. spec.inside_part first_one at (spec.plain first_one (one n x)) u) q
  elab_shown n (raw.join at xs) =
      join_shown at (spec.parts all n (spec.no_parts all) xs) ∙ ap (spec.join_part first_one at) (parts_shown n (spec.no_parts all) xs)
  elab_shown n (raw.copies at c xs) =
      let p = plain_is n c (elab_shown n c) in let q = parts_shown n (spec.no_parts all) xs in
      copies_shown at (spec.plain all (every n c)) (spec.parts all n (spec.no_parts all) xs)
      ∙ ap (λ u. spec.copies_part first_one at u (shown_parts (spec.parts all n (spec.no_parts all) xs))) p
      ∙ ap (λ u. spec.copies_part first_one at (spec.plain first_one (one n c)) u) q
  elab_shown n (raw.sign at s x) = ap (spec.sign_part first_one at s) (plain_is n x (elab_shown n x))
  elab_shown n (raw.paren at x) = ap (spec.paren_part first_one at) (sole_is n x (elab_shown n x))
  elab_shown n (raw.reduce at x f item e) =
      let o = elab_shown n x in
      let m : Space = body_space n (every n x) (argument_name item) in
      let p = sole_is n x o in let q = plain_is m e (elab_shown m e) in
      reduce_shown at f (spec.sole all (every n x)) (spec.plain all (every m e))
      ∙ ap (λ (u : Elab (Option Fault)). spec.reduce_part first_one at f u (shown (spec.plain all (every m e)))) p
      ∙ ap (λ (u : Elab (Option Fault)). spec.reduce_part first_one at f (spec.sole first_one (one n x)) u) q
      ∙ ap (λ (u : Elab (Option Fault)). spec.reduce_part first_one at f (spec.sole first_one (one n x)) (spec.plain first_one (one (body_space n u (argument_name item)) e))) o

  pub parts_shown : (n : Space) (start : Elabs (List Fault)) (xs : ExprTrees) → shown_parts (spec.parts all n start xs) ≡ spec.parts first_one n (shown_parts start) xs
  parts_shown n start raw.no_exprs = refl
  parts_shown n start (raw.more_exprs x xs) =
      let p = plain_is n x (elab_shown n x) in
      parts_shown n (spec.and_part all start (spec.plain all (every n x))) xs
      ∙ ap (λ u. spec.parts first_one n u xs) (and_part_shown start (spec.plain all (every n x)) ∙ ap (spec.and_part first_one (shown_parts start)) p)

  pub ranges_shown : (n : Space) (start : RangesElab (List Fault)) (rs : RangeTrees) → shown_ranges (spec.ranges all n start rs) ≡ spec.ranges first_one n (shown_ranges start) rs
  ranges_shown n start raw.no_ranges = refl
  ranges_shown n start (raw.more_ranges r rs) =
      let p = range_shown n r in
      ranges_shown n (spec.and_range all start (spec.range all n r)) rs
      ∙ ap (λ u. spec.ranges first_one n u rs) (and_range_shown start (spec.range all n r) ∙ ap (spec.and_range first_one (shown_ranges start)) p)

  pub range_shown : (n : Space) (r : RangeTree) → shown_range (spec.range all n r) ≡ spec.range first_one n r
  range_shown n (raw.one x) = ap (spec.value_range first_one) (sole_is n x (elab_shown n x))
  range_shown n (raw.span l h) =
      let p = bound_shown n l in let q = bound_shown n h in
      span_shown (spec.bound all n l) (spec.bound all n h)
      ∙ ap (λ u. spec.span_range first_one u (shown_bound (spec.bound all n h))) p
      ∙ ap (λ u. spec.span_range first_one (spec.bound first_one n l) u) q

  pub bound_shown : (n : Space) (b : BoundTree) → shown_bound (spec.bound all n b) ≡ spec.bound first_one n b
  bound_shown n (raw.value x) = ap (spec.value_bound first_one) (plain_is n x (elab_shown n x))
  bound_shown n raw.dollar = refl

pub value_shown : (n : Space) (e : ExprTree) → shown (spec.value all n e) ≡ spec.value first_one n e
value_shown n e = plain_is n e (elab_shown n e)

pub sole_shown_is : (n : Space) (e : ExprTree) → shown (spec.sole all (spec.elab all n e)) ≡ spec.sole first_one (spec.elab first_one n e)
sole_shown_is n e = sole_is n e (elab_shown n e)
