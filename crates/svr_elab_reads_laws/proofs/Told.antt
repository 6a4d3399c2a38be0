-- What is known to be read is what is mentioned, for any two kinds of properties: those of which a value counts, and those of which a size does.
use Rattle.std.proofs.Common.{◌≡◌, ℕ, ℤ, Bool, true, false, not, ◌&&◌, ◌||◌, if◌then◌else◌, List, [], ◌∷◌, ◌++◌, Option, None, Some, option_map, refl, sym, ap, subst, ◌∙◌}
use Rattle.std.specs.Prelude.{⊤}
use Rattle.svr_operator.specs.declared.Fold.{Fold}
use Rattle.svr_tree.specs.ExprTree as raw
use Rattle.svr_tree.specs.ExprTree.{ExprTree, ExprTrees, RangeTree, RangeTrees, BoundTree, argument_name}
use Rattle.svr_typed.specs.ExprTerm as term
use Rattle.svr_typed.specs.ExprTerm.{ExprTerm, NodeTerm, RangeTerm, BoundTerm, exprs_of, ranges_of}
use Rattle.svr_design.specs.Mentions.{mentions, node_mentions, some_mention, ranges_mention, range_mentions, bound_mentions}
use Rattle.svr_refusal.specs.declared.Refusal.TheVariants as refusal
use Rattle.svr_elab_fault.specs.declared.Fault.{Fault}
use Rattle.svr_elab_fault.specs.Refusals.{first_one, when, earlier}
use Rattle.svr_elab_names.specs.declared.Vector.{Vector}
use Rattle.svr_elab_names.specs.declared.Dims.{Dims}
use Rattle.svr_elab_names.specs.declared.Dims.TheVariants as dims
use Rattle.svr_elab_names.specs.declared.Property.{Property}
use Rattle.svr_elab_names.specs.declared.Meaning.{Meaning}
use Rattle.svr_elab_names.specs.declared.Meaning.TheVariants.{Wrong, LoopOf, ItemOf, MemberOf, PropertyOf, SizeOf, FoldOf, VariableOf, ObjectOf}
use Rattle.svr_elab_names.specs.Names.{Space, look, in_reduction}
use Rattle.svr_elab_part.specs.declared.part.Shape.{Shape}
use Rattle.svr_elab_part.specs.declared.part.Reads.{Reads}
use Rattle.svr_elab_part.specs.declared.part.Extent.{Extent}
use Rattle.svr_elab_part.specs.declared.part.Extent.TheVariants as extent
use Rattle.svr_elab_part.specs.declared.part.Root.{Root}
use Rattle.svr_elab_part.specs.declared.part.Root.TheVariants as root
use Rattle.svr_elab_part.specs.Elab as spec
use Rattle.svr_elab_part.specs.Elab.{Elab, Elabs, RangeElab, RangesElab, BoundElab, body_space, is_in_object, is_no_array}
use Rattle.svr_elab_part.specs.Shapes as shapes
use Rattle.svr_elab_part.specs.Shapes.{both_known, all_known, and_more, typed_as, kind_shape, array_property, and_reads, only_numbers, no_constant, property_reads, size_reads}
use Rattle.svr_elab_part.specs.Forms.{is_single, is_row, is_whole, is_refused, without_row, without_object, element_extent, property_extent}
use Rattle.svr_elab_part.proofs.Valued.{none_left, none_right, not_when}
use Rattle.svr_elab_reads_laws.proofs.Found.{MeaningIs, PlaceIs, found}

true_false : true ≡ false → ⊥
true_false h = cc

false_true : false ≡ true → ⊥
false_true h = cc

-- ---- truths

or_none : (a : Bool) → (a || false) ≡ a
or_none true = refl
or_none false = refl

or_same : (a : Bool) → (a || (a || false)) ≡ a
or_same true = refl
or_same false = refl

or_or : (a b c : Bool) → ((a || b) || c) ≡ (a || (b || c))
or_or true b c = refl
or_or false b c = refl

ors : (a b c d : Bool) → a ≡ b → c ≡ d → (a || c) ≡ (b || d)
ors a b c d h k = ap (λ (x : Bool). x || c) h ∙ ap (λ (x : Bool). b || x) k

-- ---- forms

single_row : (e : Extent) → not (is_single e) ≡ false → is_row e ≡ false
single_row extent.Single h = refl
single_row extent.Row h = absurd (true_false h)
single_row extent.Whole h = refl

still_no_row : (e : Extent) → is_row (without_row e) ≡ false
still_no_row extent.Single = refl
still_no_row extent.Row = refl
still_no_row extent.Whole = refl

still_whole : (e : Extent) → is_whole (without_row e) ≡ true → is_whole e ≡ true
still_whole extent.Single h = h
still_whole extent.Row h = absurd (false_true h)
still_whole extent.Whole h = h

no_row : (d : Dims) → is_row (property_extent d) ≡ false
no_row dims.Scalar = refl
no_row (dims.Fixed n) = refl
no_row (dims.Rows n m) = refl
no_row dims.Dynamic = refl

module _ (V S : ℕ → Bool) (read : Reads → Bool) (none : false ≡ read only_numbers)
    (join : (x y : Reads) → (read x || read y) ≡ read (and_reads x y)) (still : (x : Reads) → read x ≡ read (no_constant x)) where
  abbrev pub IsTold : Property → Type 0
  IsTold p = (V p.number ≡ read (property_reads p)) × (S p.number ≡ read (size_reads p))

  -- ---- trees that may be unknown

  abbrev pub Agrees : Option ExprTerm → Bool → Type 0
  Agrees None b = ⊤
  Agrees (Some t) b = mentions V S t ≡ b

  abbrev NodeAgrees : Option NodeTerm → Bool → Type 0
  NodeAgrees None b = ⊤
  NodeAgrees (Some n) b = node_mentions V S n ≡ b

  abbrev ListAgrees : Option (List ExprTerm) → Bool → Type 0
  ListAgrees None b = ⊤
  ListAgrees (Some ts) b = some_mention V S (exprs_of ts) ≡ b

  abbrev RangeAgrees : Option RangeTerm → Bool → Type 0
  RangeAgrees None b = ⊤
  RangeAgrees (Some r) b = range_mentions V S r ≡ b

  abbrev RangesAgree : Option (List RangeTerm) → Bool → Type 0
  RangesAgree None b = ⊤
  RangesAgree (Some rs) b = ranges_mention V S (ranges_of rs) ≡ b

  abbrev BoundAgrees : Option BoundTerm → Bool → Type 0
  BoundAgrees None b = ⊤
  BoundAgrees (Some t) b = bound_mentions V S t ≡ b

  agrees_at : (t : Option ExprTerm) (b c : Bool) → b ≡ c → Agrees t b → Agrees t c
  agrees_at None b c h k = tt
  agrees_at (Some t) b c h k = k ∙ h

  typed_agrees : (s : Option Shape) (n : Option NodeTerm) (b : Bool) → NodeAgrees n b → Agrees (typed_as s n) b
  typed_agrees None n b h = tt
  typed_agrees (Some s) None b h = tt
  typed_agrees (Some s) (Some n) b h = h

  -- of two, and of three
  join_of : (a b : Bool) (x y : Reads) → a ≡ read x → b ≡ read y → (a || b) ≡ read (and_reads x y)
  join_of a b x y h k = ors a (read x) b (read y) h k ∙ join x y

  join_three : (a b c : Bool) (x y z : Reads) → a ≡ read x → b ≡ read y → c ≡ read z → (a || (b || c)) ≡ read (and_reads x (and_reads y z))
  join_three a b c x y z h k l = join_of a (b || c) x (and_reads y z) h (join_of b c y z k l)

  one_agrees : (f : ExprTerm → NodeTerm) (t : Option ExprTerm) (b : Bool) → ((t : ExprTerm) → node_mentions V S (f t) ≡ mentions V S t) → Agrees t b → NodeAgrees (option_map f t) b
  one_agrees f None b e h = tt
  one_agrees f (Some t) b e h = e t ∙ h

  two_agree : (f : ExprTerm → ExprTerm → NodeTerm) (t u : Option ExprTerm) (x y : Reads) → ((t u : ExprTerm) → node_mentions V S (f t u) ≡ (mentions V S t || mentions V S u))
      → Agrees t (read x) → Agrees u (read y) → NodeAgrees (both_known f t u) (read (and_reads x y))
  two_agree f None u x y e h k = tt
  two_agree f (Some t) None x y e h k = tt
  two_agree f (Some t) (Some u) x y e h k = e t u ∙ join_of (mentions V S t) (mentions V S u) x y h k

  three_agree : (f : ExprTerm → ExprTerm → ExprTerm → NodeTerm) (t u v : Option ExprTerm) (x y z : Reads)
      → ((t u v : ExprTerm) → node_mentions V S (f t u v) ≡ (mentions V S t || (mentions V S u || mentions V S v)))
      → Agrees t (read x) → Agrees u (read y) → Agrees v (read z) → NodeAgrees (all_known f t u v) (read (and_reads x (and_reads y z)))
  three_agree f None u v x y z e h k l = tt
  three_agree f (Some t) None v x y z e h k l = tt
  three_agree f (Some t) (Some u) None x y z e h k l = tt
  three_agree f (Some t) (Some u) (Some v) x y z e h k l = e t u v ∙ join_three (mentions V S t) (mentions V S u) (mentions V S v) x y z h k l

  node_at : (n : Option NodeTerm) (b c : Bool) → b ≡ c → NodeAgrees n b → NodeAgrees n c
  node_at None b c h k = tt
  node_at (Some n) b c h k = k ∙ h

  -- ---- lists

  exprs_one_more : (ts : List ExprTerm) (t : ExprTerm) → some_mention V S (exprs_of (ts ++ t ∷ [])) ≡ (some_mention V S (exprs_of ts) || mentions V S t)
  exprs_one_more [] t = or_none (mentions V S t)
  exprs_one_more (u ∷ ts) t =
      ap (λ (b : Bool). mentions V S u || b) (exprs_one_more ts t) ∙ sym (or_or (mentions V S u) (some_mention V S (exprs_of ts)) (mentions V S t))

  ranges_one_more : (rs : List RangeTerm) (r : RangeTerm) → ranges_mention V S (ranges_of (rs ++ r ∷ [])) ≡ (ranges_mention V S (ranges_of rs) || range_mentions V S r)
  ranges_one_more [] r = or_none (range_mentions V S r)
  ranges_one_more (q ∷ rs) r =
      ap (λ (b : Bool). range_mentions V S q || b) (ranges_one_more rs r) ∙ sym (or_or (range_mentions V S q) (ranges_mention V S (ranges_of rs)) (range_mentions V S r))

  list_more : (ts : Option (List ExprTerm)) (t : Option ExprTerm) (x y : Reads) → ListAgrees ts (read x) → Agrees t (read y) → ListAgrees (and_more ts t) (read (and_reads x y))
  list_more None t x y h k = tt
  list_more (Some ts) None x y h k = tt
  list_more (Some ts) (Some t) x y h k = exprs_one_more ts t ∙ join_of (some_mention V S (exprs_of ts)) (mentions V S t) x y h k

  ranges_more : (rs : Option (List RangeTerm)) (r : Option RangeTerm) (x y : Reads) → RangesAgree rs (read x) → RangeAgrees r (read y) → RangesAgree (and_more rs r) (read (and_reads x y))
  ranges_more None r x y h k = tt
  ranges_more (Some rs) None x y h k = tt
  ranges_more (Some rs) (Some r) x y h k = ranges_one_more rs r ∙ join_of (ranges_mention V S (ranges_of rs)) (range_mentions V S r) x y h k

  joined_agree : (ts : Option (List ExprTerm)) (b : Bool) → ListAgrees ts b → NodeAgrees (shapes.join_node ts) b
  joined_agree None b h = tt
  joined_agree (Some ts) b h = h

  copied_agree : (t : Option ExprTerm) (ts : Option (List ExprTerm)) (x y : Reads) → Agrees t (read x) → ListAgrees ts (read y) → NodeAgrees (shapes.copies_node t ts) (read (and_reads x y))
  copied_agree None ts x y h k = tt
  copied_agree (Some t) None x y h k = tt
  copied_agree (Some t) (Some ts) x y h k = join_of (mentions V S t) (some_mention V S (exprs_of ts)) x y h k

  inside_agree : (t : Option ExprTerm) (rs : Option (List RangeTerm)) (x y : Reads) → Agrees t (read x) → RangesAgree rs (read y) → NodeAgrees (shapes.inside_node t rs) (read (and_reads x y))
  inside_agree None rs x y h k = tt
  inside_agree (Some t) None x y h k = tt
  inside_agree (Some t) (Some rs) x y h k = join_of (mentions V S t) (ranges_mention V S (ranges_of rs)) x y h k

  one_range : (t : Option ExprTerm) (b : Bool) → Agrees t b → RangeAgrees (option_map term.one t) b
  one_range None b h = tt
  one_range (Some t) b h = h

  span_agrees : (l g : Option BoundTerm) (x y : Reads) → BoundAgrees l (read x) → BoundAgrees g (read y) → RangeAgrees (both_known term.span l g) (read (and_reads x y))
  span_agrees None g x y h k = tt
  span_agrees (Some l) None x y h k = tt
  span_agrees (Some l) (Some g) x y h k = join_of (bound_mentions V S l) (bound_mentions V S g) x y h k

  one_bound : (t : Option ExprTerm) (b : Bool) → Agrees t b → BoundAgrees (option_map term.value t) b
  one_bound None b h = tt
  one_bound (Some t) b h = h

  -- ---- what an expression is by its form

  abbrev RootTold : Root → Type 0
  RootTold root.Nothing = ⊤
  RootTold root.Refused = ⊤
  RootTold root.Member = ⊤
  RootTold (root.Variable v) = ⊤
  RootTold (root.Field p o) = IsTold p × (o ≡ None)
  RootTold (root.Object o c) = ⊤

  -- a whole array reads its property alone
  abbrev RootReads : Root → Bool → Type 0
  RootReads root.Nothing b = ⊤
  RootReads root.Refused b = ⊤
  RootReads root.Member b = ⊤
  RootReads (root.Variable v) b = ⊤
  RootReads (root.Field p o) b = V p.number ≡ b
  RootReads (root.Object o c) b = ⊤

  abbrev IndexAgrees : ℕ → Option ExprTerm → Bool → Type 0
  IndexAgrees p None b = ⊤
  IndexAgrees p (Some t) b = (V p || mentions V S t) ≡ b

  -- a row reads its property and its index
  abbrev RowAgrees : Root → Option ExprTerm → Bool → Type 0
  RowAgrees root.Nothing t b = ⊤
  RowAgrees root.Refused t b = ⊤
  RowAgrees root.Member t b = ⊤
  RowAgrees (root.Variable v) t b = ⊤
  RowAgrees (root.Field p o) t b = IndexAgrees p.number t b
  RowAgrees (root.Object o c) t b = ⊤

  abbrev TreeAgrees : Bool → Root → Option ExprTerm → Bool → Type 0
  TreeAgrees true r t b = RowAgrees r t b
  TreeAgrees false r t b = Agrees t b

  record Told (x : Elab (Option Fault)) : Type 0 where
    pub rooted : RootTold x.form.root
    pub whole : is_whole x.form.extent ≡ true → RootReads x.form.root (read x.reads)
    pub fine : x.faults ≡ None → TreeAgrees (is_row x.form.extent) x.form.root x.tree (read x.reads)

  abbrev ToldValue : Elab (Option Fault) → Type 0
  ToldValue x = x.faults ≡ None → Agrees x.tree (read x.reads)

  as_value : (b : Bool) (r : Root) (t : Option ExprTerm) (c : Bool) → b ≡ false → TreeAgrees b r t c → Agrees t c
  as_value true r t c h k = absurd (true_false h)
  as_value false r t c h k = k

  of_value : (b : Bool) (r : Root) (t : Option ExprTerm) (c : Bool) → b ≡ false → Agrees t c → TreeAgrees b r t c
  of_value true r t c h k = absurd (true_false h)
  of_value false r t c h k = k

  as_row : (b : Bool) (r : Root) (t : Option ExprTerm) (c : Bool) → b ≡ true → TreeAgrees b r t c → RowAgrees r t c
  as_row true r t c h k = k
  as_row false r t c h k = absurd (false_true h)

  -- a value that is no array
  made : (x : Elab (Option Fault)) → RootTold x.form.root → x.form.extent ≡ extent.Single → ToldValue x → Told x
  made x r e h = record {
    rooted = r;
    whole = λ w. absurd (false_true (sym (ap is_whole e) ∙ w));
    fine = λ f. of_value (is_row x.form.extent) x.form.root x.tree (read x.reads) (ap is_row e) (h f);
  }

  root_without : (r : Root) → RootTold r → RootTold (without_object r)
  root_without root.Nothing h = tt
  root_without root.Refused h = tt
  root_without root.Member h = tt
  root_without (root.Variable v) h = tt
  root_without (root.Field p o) h = h
  root_without (root.Object o c) h = tt

  reads_without : (r : Root) (b : Bool) → RootReads r b → RootReads (without_object r) b
  reads_without root.Nothing b h = tt
  reads_without root.Refused b h = tt
  reads_without root.Member b h = tt
  reads_without (root.Variable v) b h = tt
  reads_without (root.Field p o) b h = h
  reads_without (root.Object o c) b h = tt

  plain_value : (x : Elab (Option Fault)) → Told x → ToldValue (spec.plain first_one x)
  plain_value x h f =
      as_value (is_row x.form.extent) x.form.root x.tree (read x.reads) (single_row x.form.extent (not_when _ _ _ (none_left _ _ (none_right _ _ f)))) (h.fine (none_left _ _ f))

  sole_value : (x : Elab (Option Fault)) → Told x → ToldValue (spec.sole first_one x)
  sole_value x h f = as_value (is_row x.form.extent) x.form.root x.tree (read x.reads) (not_when _ _ _ (none_left _ _ (none_right _ _ f))) (h.fine (none_left _ _ f))

  plain_told : (x : Elab (Option Fault)) → Told x → Told (spec.plain first_one x)
  plain_told x h = made (spec.plain first_one x) (root_without x.form.root h.rooted) refl (plain_value x h)

  sole_told : (x : Elab (Option Fault)) → Told x → Told (spec.sole first_one x)
  sole_told x h = record {
    rooted = root_without x.form.root h.rooted;
    whole = λ w. reads_without x.form.root (read x.reads) (h.whole (still_whole x.form.extent w));
    fine = λ f. of_value (is_row (without_row x.form.extent)) (without_object x.form.root) x.tree (read x.reads) (still_no_row x.form.extent) (sole_value x h f);
  }

  -- ---- names

  property_agrees : (kind : Option Vector) (n : NodeTerm) (b : Bool) → node_mentions V S n ≡ b → Agrees (shapes.property_tree None kind (Some n)) b
  property_agrees None n b h = tt
  property_agrees (Some k) n b h = h

  item_agrees : (k : ℕ) (p : Property) → IsTold p → Agrees (shapes.item_tree k p) (read (property_reads p))
  item_agrees k p h = property_agrees p.kind (term.element p.number (shapes.loop_tree k)) (read (property_reads p)) (or_none (V p.number) ∙ h.0)

  size_agrees : (o : Option ℕ) (p : Property) (m : Option ℕ) → IsTold p → Agrees (option_map (λ m. shapes.wrapped o shapes.whole_number (term.size p.number m)) m) (read (size_reads p))
  size_agrees o p None h = tt
  size_agrees None p (Some m) h = h.1
  size_agrees (Some o) p (Some m) h = h.1

  fold_of : (f : Fold) (p : Property) (kind : Option Vector) → IsTold p
      → Agrees (shapes.property_tree None kind (option_map (term.reduce p.number f) (shapes.property_tree None kind (Some (term.element p.number (shapes.loop_tree 0)))))) (read (property_reads p))
  fold_of f p None h = tt
  fold_of f p (Some k) h = or_same (V p.number) ∙ h.0

  fold_in_object : (kind : Option Vector) (b : Bool) → Agrees (shapes.property_tree None kind None) b
  fold_in_object None b = tt
  fold_in_object (Some k) b = tt

  fold_agrees : (p : Property) (o : Option ℕ) (f : Fold) → IsTold p → Agrees (shapes.fold_tree p o f) (read (property_reads p))
  fold_agrees p None f h = fold_of f p p.kind h
  fold_agrees p (Some o) f h = fold_in_object p.kind (read (property_reads p))

  member_agrees : (v : Option ℕ) (kind : Option Vector) → Agrees (shapes.member_tree v kind) (read only_numbers)
  member_agrees v None = tt
  member_agrees None (Some k) = tt
  member_agrees (Some v) (Some k) = none

  no_reads : false ≡ read (no_constant only_numbers)
  no_reads = none ∙ still only_numbers

  variable_agrees : (v : ℕ) (kind : Option Vector) → Agrees (shapes.variable_tree v kind) (read (no_constant only_numbers))
  variable_agrees v None = tt
  variable_agrees v (Some k) = no_reads

  prop_agrees : (p : Property) (o : Option ℕ) (kind : Option Vector) → IsTold p → Agrees (shapes.property_tree o kind (Some (term.prop p.number))) (read (property_reads p))
  prop_agrees p o None h = tt
  prop_agrees p None (Some k) h = h.0
  prop_agrees p (Some o) (Some k) h = h.0

  path_told : (at name : ℕ) (call : Bool) (unmade : Option ℕ) (m : Meaning) → MeaningIs IsTold m → Told (spec.path_part first_one at name call (record { meaning = m; unmade = unmade }))
  path_told at name call u (Wrong w) h = made _ tt refl (λ f. tt)
  path_told at name call u (LoopOf k) h = made _ tt refl (λ f. no_reads)
  path_told at name call u (ItemOf k p) h = made _ tt refl (λ f. item_agrees k p h)
  path_told at name call u (MemberOf v kind) h = made _ tt refl (λ f. member_agrees v kind)
  path_told at name call u (PropertyOf p o) h = record {
    rooted = h;
    whole = λ w. h.0.0;
    fine = λ f. of_value (is_row (property_extent p.dims)) (root.Field p o) (shapes.property_tree o p.kind (Some (term.prop p.number))) (read (property_reads p)) (no_row p.dims) (prop_agrees p o p.kind h.0);
  }
  path_told at name call u (SizeOf p o) h = made _ tt refl (λ f. size_agrees o p (shapes.inner_of p.dims) h)
  path_told at name call u (FoldOf p o g array) h = made _ tt refl (λ f. fold_agrees p o g h)
  path_told at name call u (VariableOf v kind) h = made _ tt refl (λ f. variable_agrees v kind)
  path_told at name call u (ObjectOf o c) h = made _ tt refl (λ f. tt)

  -- ---- elements and bits

  index_agrees : (p : ℕ) (b : Bool) (t : Option ExprTerm) (x y : Reads) → V p ≡ read x → Agrees t (read y) → IndexAgrees p t (read (no_constant (and_reads x y)))
  index_agrees p b None x y h k = tt
  index_agrees p b (Some t) x y h k = join_of (V p) (mentions V S t) x y h k ∙ still (and_reads x y)

  row_agrees : (r : Root) (t : Option ExprTerm) (x y : Reads) → RootReads r (read x) → Agrees t (read y) → RowAgrees r t (read (no_constant (and_reads x y)))
  row_agrees root.Nothing t x y h k = tt
  row_agrees root.Refused t x y h k = tt
  row_agrees root.Member t x y h k = tt
  row_agrees (root.Variable v) t x y h k = tt
  row_agrees (root.Field p o) t x y h k = index_agrees p.number true t x y h k
  row_agrees (root.Object o c) t x y h k = tt

  element_of : (p : ℕ) (o : Option ℕ) (kind : Option Vector) (t : Option ExprTerm) (b : Bool) → IndexAgrees p t b → Agrees (shapes.property_tree o kind (option_map (term.element p) t)) b
  element_of p o None t b h = tt
  element_of p o (Some k) None b h = tt
  element_of p None (Some k) (Some t) b h = h
  element_of p (Some o) (Some k) (Some t) b h = h

  element_agrees : (r : Root) (t : Option ExprTerm) (x y : Reads) → RootReads r (read x) → Agrees t (read y) → Agrees (shapes.element_tree r t) (read (no_constant (and_reads x y)))
  element_agrees root.Nothing t x y h k = tt
  element_agrees root.Refused t x y h k = tt
  element_agrees root.Member t x y h k = tt
  element_agrees (root.Variable v) t x y h k = tt
  element_agrees (root.Field p o) t x y h k = element_of p.number o p.kind t (read (no_constant (and_reads x y))) (index_agrees p.number true t x y h k)
  element_agrees (root.Object o c) t x y h k = tt

  cell_of : (p : ℕ) (kind : Option Vector) (m : Option ℕ) (i j : ExprTerm) (b : Bool) → (V p || (mentions V S i || mentions V S j)) ≡ b
      → Agrees (shapes.property_tree None kind (option_map (λ m. shapes.cell p m i j) m)) b
  cell_of p None m i j b h = tt
  cell_of p (Some k) None i j b h = tt
  cell_of p (Some k) (Some m) i j b h = h

  unknown_cell : (kind : Option Vector) (b : Bool) → Agrees (shapes.property_tree None kind None) b
  unknown_cell None b = tt
  unknown_cell (Some k) b = tt

  -- in no object
  cells_agree : (p : Property) (i j : Option ExprTerm) (x y : Reads) → IndexAgrees p.number i (read x) → Agrees j (read y)
      → Agrees (shapes.property_tree None p.kind (shapes.cell_node p None i j)) (read (no_constant (and_reads x y)))
  cells_agree p None j x y h k = unknown_cell p.kind (read (no_constant (and_reads x y)))
  cells_agree p (Some i) None x y h k = unknown_cell p.kind (read (no_constant (and_reads x y)))
  cells_agree p (Some i) (Some j) x y h k =
      cell_of p.number p.kind (shapes.inner_of p.dims) i j (read (no_constant (and_reads x y)))
      (sym (or_or (V p.number) (mentions V S i) (mentions V S j)) ∙ join_of (V p.number || mentions V S i) (mentions V S j) x y h k ∙ still (and_reads x y))

  cell_agrees : (r : Root) (i j : Option ExprTerm) (x y : Reads) → RootTold r → RowAgrees r i (read x) → Agrees j (read y) → Agrees (shapes.cell_tree r i j) (read (no_constant (and_reads x y)))
  cell_agrees root.Nothing i j x y q h k = tt
  cell_agrees root.Refused i j x y q h k = tt
  cell_agrees root.Member i j x y q h k = tt
  cell_agrees (root.Variable v) i j x y q h k = tt
  cell_agrees (root.Field p o) i j x y q h k =
      let P : Option ℕ → Type 0 = λ o. Agrees (shapes.property_tree o p.kind (shapes.cell_node p o i j)) (read (no_constant (and_reads x y))) in
      subst P (sym q.1) (cells_agree p i j x y h k)
  cell_agrees (root.Object o c) i j x y q h k = tt

  one_of : (b : Bool) (x y : Elab (Option Fault)) → (b ≡ true → Told x) → (b ≡ false → Told y) → Told (if b then x else y)
  one_of true x y h k = h refl
  one_of false x y h k = k refl

  module _ (at : ℕ) (x i : Elab (Option Fault)) (h : Told x) (k : ToldValue i) where
    row_told : is_whole x.form.extent ≡ true → Told (spec.row_part first_one at x i)
    row_told w = record {
      rooted = h.rooted;
      whole = λ e. absurd (false_true e);
      fine = λ f. row_agrees x.form.root i.tree x.reads i.reads (h.whole w) (k (none_right _ _ f));
    }

    element_told : is_whole x.form.extent ≡ true → Told (spec.element_part first_one at x i)
    element_told w = made _ h.rooted refl (λ f. element_agrees x.form.root i.tree x.reads i.reads (h.whole w) (k (none_right _ _ f)))

    cell_told : is_row x.form.extent ≡ true → Told (spec.cell_part first_one at x i)
    cell_told r =
        made _ h.rooted refl
        (λ f. cell_agrees x.form.root x.tree i.tree x.reads i.reads h.rooted (as_row (is_row x.form.extent) x.form.root x.tree (read x.reads) r (h.fine (none_left _ _ f))) (k (none_right _ _ f)))

    bit_told : is_row x.form.extent ≡ false → Told (spec.bit_part first_one at x i)
    bit_told r =
        let low : ℤ = x.form.low in
        let form : ExprTerm → ExprTerm → NodeTerm = λ t u. term.bit_select t u low in
        made _ h.rooted refl
        (λ f. let a : Agrees x.tree (read x.reads) = as_value (is_row x.form.extent) x.form.root x.tree (read x.reads) r (h.fine (none_left _ _ f)) in
        let b : Agrees i.tree (read i.reads) = k (none_left _ _ (none_right _ _ f)) in
        typed_agrees (Some shapes.bit) (both_known form x.tree i.tree) (read (no_constant (and_reads x.reads i.reads)))
        (node_at (both_known form x.tree i.tree) (read (and_reads x.reads i.reads)) (read (no_constant (and_reads x.reads i.reads))) (still (and_reads x.reads i.reads))
        (two_agree form x.tree i.tree x.reads i.reads (λ t u. refl) a b)))

    array_told : is_whole x.form.extent ≡ true → Told (spec.array_part first_one at x i)
    array_told w =
        one_of (is_row (element_extent (array_property x.form.root).dims)) (spec.row_part first_one at x i) (spec.element_part first_one at x i) (λ e. row_told w) (λ e. element_told w)

    index_told : Told (spec.index_part first_one at x i)
    index_told =
        one_of (is_whole x.form.extent) (spec.array_part first_one at x i) (if is_row x.form.extent then spec.cell_part first_one at x i else spec.bit_part first_one at x i) array_told
        (λ d. one_of (is_row x.form.extent) (spec.cell_part first_one at x i) (spec.bit_part first_one at x i) cell_told bit_told)

  parens_told : (call : Bool) (x : Elab (Option Fault)) → Told x → Told (spec.with_parens first_one call x)
  parens_told call x h = record { rooted = h.rooted; whole = h.whole; fine = λ f. h.fine (none_left _ _ f) }

  -- ---- part-selects

  slice_told : (at : ℕ) (x f l : Elab (Option Fault)) → RootTold x.form.root → ToldValue x → ToldValue f → ToldValue l → Told (spec.slice_part first_one at x f l)
  slice_told at x f l r h i j =
      let low : ℤ = x.form.low in
      let form : ExprTerm → ExprTerm → ExprTerm → NodeTerm = λ t u v. term.part_select t u v low in
      let all : Reads = and_reads x.reads (and_reads f.reads l.reads) in
      let node : Option NodeTerm = all_known form x.tree f.tree l.tree in
      made (spec.slice_part first_one at x f l) r refl
      (λ e. let a : Agrees x.tree (read x.reads) = h (none_left _ _ e) in
      let b : Agrees f.tree (read f.reads) = i (none_left _ _ (none_right _ _ e)) in
      let c : Agrees l.tree (read l.reads) = j (none_left _ _ (none_right _ _ (none_right _ _ e))) in
      typed_agrees (spec.slice_part first_one at x f l).shape node (read (no_constant all))
      (node_at node (read all) (read (no_constant all)) (still all) (three_agree form x.tree f.tree l.tree x.reads f.reads l.reads (λ t u v. refl) a b c)))

  -- ---- reductions

  reduced_agrees : (p : ℕ) (g : Fold) (t : Option ExprTerm) (x y : Reads) → V p ≡ read x → Agrees t (read y) → NodeAgrees (option_map (term.reduce p g) t) (read (no_constant (and_reads x y)))
  reduced_agrees p g None x y h k = tt
  reduced_agrees p g (Some t) x y h k = join_of (V p) (mentions V S t) x y h k ∙ still (and_reads x y)

  -- the body counts where its array is a property outside of objects
  array_agrees : (r : Root) (g : Fold) (t : Option ExprTerm) (x y : Reads) → RootTold r → RootReads r (read x) → (IsTold (array_property r) → Agrees t (read y))
      → NodeAgrees (shapes.array_node r g t) (read (no_constant (and_reads x y)))
  array_agrees root.Nothing g t x y q h k = tt
  array_agrees root.Refused g t x y q h k = tt
  array_agrees root.Member g t x y q h k = tt
  array_agrees (root.Variable v) g t x y q h k = tt
  array_agrees (root.Field p None) g t x y q h k = reduced_agrees p.number g t x y h (k q.0)
  array_agrees (root.Field p (Some o)) g t x y q h k = tt
  array_agrees (root.Object o c) g t x y q h k = tt

  property_without : (r : Root) → array_property (without_object r) ≡ array_property r
  property_without root.Nothing = refl
  property_without root.Refused = refl
  property_without root.Member = refl
  property_without (root.Variable v) = refl
  property_without (root.Field p o) = refl
  property_without (root.Object o c) = refl

  inside_names : (n : Space) (p : Property) (name : Option ℕ) → PlaceIs IsTold n → IsTold p → PlaceIs IsTold (in_reduction n p name)
  inside_names n p name m h = record { region = m.region; props = m.props; later = m.later; loops = (h, m.loops) }

  not_not : (b : Bool) → not b ≡ false → b ≡ true
  not_not true h = refl
  not_not false h = absurd (true_false h)

  told_at : (p q : Property) → p ≡ q → IsTold p → IsTold q
  told_at p q e h = let P : Property → Type 0 = IsTold in subst P e h

  -- a property that is no whole array is refused there
  whole_reads : (e : Extent) (r : Root) (b : Bool) → (not (is_refused r) && not (is_whole e)) ≡ false → (is_whole e ≡ true → RootReads r b) → RootReads r b
  whole_reads e root.Nothing b a h = tt
  whole_reads e root.Refused b a h = tt
  whole_reads e root.Member b a h = tt
  whole_reads e (root.Variable v) b a h = tt
  whole_reads e (root.Field p o) b a h = h (not_not (is_whole e) a)
  whole_reads e (root.Object o c) b a h = tt

  record ReduceClear (x body : Elab (Option Fault)) : Type 0 where
    pub is_array : is_no_array x ≡ false
    pub inner : body.faults ≡ None

  reduce_clear : (x body : Elab (Option Fault)) → spec.reduce_faults first_one x body ≡ None → ReduceClear x body
  reduce_clear x body e =
      let a : Option Fault = when first_one (is_no_array x) x.form.name refusal.UnknownName in
      let b : Option Fault = when first_one (is_in_object x.form.root) x.form.name refusal.LeftOut in
      let e1 : earlier a (earlier b body.faults) ≡ None = none_right x.faults (earlier a (earlier b body.faults)) e in
      let e2 : earlier b body.faults ≡ None = none_right a (earlier b body.faults) e1 in
      record { is_array = not_when (is_no_array x) x.form.name refusal.UnknownName (none_left a (earlier b body.faults) e1); inner = none_right b body.faults e2 }

  reduce_told : (at : ℕ) (g : Fold) (x body : Elab (Option Fault)) → Told x → (IsTold (array_property x.form.root) → ToldValue body) → ToldValue (spec.reduce_part first_one at g x body)
  reduce_told at g x body h k e =
      let clear : ReduceClear x body = reduce_clear x body e in
      typed_agrees body.shape (shapes.array_node x.form.root g body.tree) (read (no_constant (and_reads x.reads body.reads)))
      (array_agrees x.form.root g body.tree x.reads body.reads h.rooted (whole_reads x.form.extent x.form.root (read x.reads) clear.is_array h.whole) (λ q. k q clear.inner))

  -- ---- lists

  abbrev ToldParts : Elabs (Option Fault) → Type 0
  ToldParts x = x.faults ≡ None → ListAgrees x.trees (read x.reads)

  abbrev ToldRange : RangeElab (Option Fault) → Type 0
  ToldRange x = x.faults ≡ None → RangeAgrees x.tree (read x.reads)

  abbrev ToldRanges : RangesElab (Option Fault) → Type 0
  ToldRanges x = x.faults ≡ None → RangesAgree x.trees (read x.reads)

  abbrev ToldBound : BoundElab (Option Fault) → Type 0
  ToldBound x = x.faults ≡ None → BoundAgrees x.tree (read x.reads)

  -- ---- the whole

  value_of : (n : Space) (e : ExprTree) → Told (spec.elab first_one n e) → ToldValue (spec.plain first_one (spec.elab first_one n e))
  value_of n e h = plain_value (spec.elab first_one n e) h

  mutual
    elab_told : (n : Space) (m : PlaceIs IsTold n) (e : ExprTree) → Told (spec.elab first_one n e)
    elab_told n m (raw.number at v w s) = made _ tt refl (λ f. none)
    elab_told n m (raw.path at s names call) =
        path_told at (spec.last_name at names) call (look n s names).unmade (look n s names).meaning (found IsTold n m s names)
    elab_told n m (raw.bit_select at x i call) =
        let a : Elab (Option Fault) = spec.elab first_one n x in
        let b : Elab (Option Fault) = spec.plain first_one (spec.elab first_one n i) in
        parens_told call (spec.index_part first_one at a b) (index_told at a b (elab_told n m x) (value_of n i (elab_told n m i)))
    elab_told n m (raw.part_select at x g l call) =
        let a : Elab (Option Fault) = spec.plain first_one (spec.elab first_one n x) in
        let b : Elab (Option Fault) = spec.plain first_one (spec.elab first_one n g) in
        let d : Elab (Option Fault) = spec.plain first_one (spec.elab first_one n l) in
        let r : Told a = plain_told (spec.elab first_one n x) (elab_told n m x) in
        parens_told call (spec.slice_part first_one at a b d)
        (slice_told at a b d r.rooted (value_of n x (elab_told n m x)) (value_of n g (elab_told n m g)) (value_of n l (elab_told n m l)))
    elab_told n m (raw.unary at op x) =
        let a : Elab (Option Fault) = spec.plain first_one (spec.elab first_one n x) in
        made (spec.unary_part first_one at op a) tt refl
        (λ f. typed_agrees (shapes.unary_shape op a.shape) (option_map (term.unary op) a.tree) (read a.reads)
        (one_agrees (term.unary op) a.tree (read a.reads) (λ t. refl) (value_of n x (elab_told n m x) f)))
    elab_told n m (raw.binary at op x y) =
        let a : Elab (Option Fault) = spec.plain first_one (spec.elab first_one n x) in
        let b : Elab (Option Fault) = spec.plain first_one (spec.elab first_one n y) in
        made (spec.binary_part first_one at op a b) tt refl
        (λ f. typed_agrees (shapes.binary_shape op a.shape b.shape) (both_known (term.binary op) a.tree b.tree) (read (and_reads a.reads b.reads))
        (two_agree (term.binary op) a.tree b.tree a.reads b.reads (λ t u. refl) (value_of n x (elab_told n m x) (none_left a.faults b.faults f)) (value_of n y (elab_told n m y) (none_right a.faults b.faults f))))
    elab_told n m (raw.choice at t x y) =
        let o : Elab (Option Fault) = spec.plain first_one (spec.elab first_one n t) in
        let a : Elab (Option Fault) = spec.plain first_one (spec.elab first_one n x) in
        let b : Elab (Option Fault) = spec.plain first_one (spec.elab first_one n y) in
        made (spec.choice_part first_one at o a b) tt refl
        (λ f. typed_agrees (shapes.choice_shape a.shape b.shape) (all_known term.choice o.tree a.tree b.tree) (read (and_reads o.reads (and_reads a.reads b.reads)))
        (three_agree term.choice o.tree a.tree b.tree o.reads a.reads b.reads (λ t u v. refl) (value_of n t (elab_told n m t) (none_left o.faults (earlier a.faults b.faults) f))
        (value_of n x (elab_told n m x) (none_left a.faults b.faults (none_right o.faults (earlier a.faults b.faults) f)))
        (value_of n y (elab_told n m y) (none_right a.faults b.faults (none_right o.faults (earlier a.faults b.faults) f)))))
    elab_told n m (raw.inside at x rs) =
        let a : Elab (Option Fault) = spec.plain first_one (spec.elab first_one n x) in
        let r : RangesElab (Option Fault) = spec.ranges first_one n (spec.no_ranges first_one) rs in
        made (spec.inside_part first_one at a r) tt refl
        (λ f. typed_agrees (Some shapes.bit) (shapes.inside_node a.tree r.trees) (read (and_reads a.reads r.reads))
        (inside_agree a.tree r.trees a.reads r.reads (value_of n x (elab_told n m x) (none_left a.faults r.faults f)) (ranges_told n m rs (spec.no_ranges first_one) (λ g. none) (none_right a.faults r.faults f))))
    elab_told n m (raw.join at xs) =
        let p : Elabs (Option Fault) = spec.parts first_one n (spec.no_parts first_one) xs in
        made (spec.join_part first_one at p) tt refl
        (λ f. typed_agrees (option_map shapes.bits_wide p.total) (shapes.join_node p.trees) (read p.reads)
        (joined_agree p.trees (read p.reads) (parts_told n m xs (spec.no_parts first_one) (λ g. none) (none_left _ _ f))))
    elab_told n m (raw.copies at x xs) =
        let a : Elab (Option Fault) = spec.plain first_one (spec.elab first_one n x) in
        let p : Elabs (Option Fault) = spec.parts first_one n (spec.no_parts first_one) xs in
        made (spec.copies_part first_one at a p) tt refl
        (λ f. typed_agrees (spec.copies_part first_one at a p).shape (shapes.copies_node a.tree p.trees) (read (and_reads a.reads p.reads))
        (copied_agree a.tree p.trees a.reads p.reads (value_of n x (elab_told n m x) (none_left _ _ f)) (parts_told n m xs (spec.no_parts first_one) (λ g. none) (none_left _ _ (none_right _ _ f)))))
    elab_told n m (raw.sign at z x) =
        let a : Elab (Option Fault) = spec.plain first_one (spec.elab first_one n x) in
        made (spec.sign_part first_one at z a) tt refl
        (λ f. typed_agrees (shapes.sign_shape z a.shape) (option_map (term.sign z) a.tree) (read a.reads)
        (one_agrees (term.sign z) a.tree (read a.reads) (λ t. refl) (value_of n x (elab_told n m x) f)))
    elab_told n m (raw.paren at x) =
        let a : Told (spec.sole first_one (spec.elab first_one n x)) = sole_told (spec.elab first_one n x) (elab_told n m x) in
        record { rooted = a.rooted; whole = a.whole; fine = a.fine }
    elab_told n m (raw.reduce at x g item body) =
        let a : Elab (Option Fault) = spec.elab first_one n x in
        let s : Told (spec.sole first_one a) = sole_told a (elab_told n m x) in
        let i : Space = body_space n a (argument_name item) in
        made (spec.reduce_part first_one at g (spec.sole first_one a) (spec.plain first_one (spec.elab first_one i body))) tt refl
        (reduce_told at g (spec.sole first_one a) (spec.plain first_one (spec.elab first_one i body)) s
        (λ q. value_of i body (elab_told i (inside_names n (array_property a.form.root) (argument_name item) m (told_at (array_property (without_object a.form.root)) (array_property a.form.root) (property_without a.form.root) q)) body)))

    parts_told : (n : Space) (m : PlaceIs IsTold n) (xs : ExprTrees) (start : Elabs (Option Fault)) → ToldParts start → ToldParts (spec.parts first_one n start xs)
    parts_told n m raw.no_exprs start k = k
    parts_told n m (raw.more_exprs x xs) start k =
        let v : Elab (Option Fault) = spec.plain first_one (spec.elab first_one n x) in
        parts_told n m xs (spec.and_part first_one start v)
        (λ f. list_more start.trees v.tree start.reads v.reads (k (none_left start.faults v.faults f)) (value_of n x (elab_told n m x) (none_right start.faults v.faults f)))

    ranges_told : (n : Space) (m : PlaceIs IsTold n) (rs : RangeTrees) (start : RangesElab (Option Fault)) → ToldRanges start → ToldRanges (spec.ranges first_one n start rs)
    ranges_told n m raw.no_ranges start k = k
    ranges_told n m (raw.more_ranges r rs) start k =
        let v : RangeElab (Option Fault) = spec.range first_one n r in
        ranges_told n m rs (spec.and_range first_one start v)
        (λ f. ranges_more start.trees v.tree start.reads v.reads (k (none_left start.faults v.faults f)) (range_told n m r (none_right start.faults v.faults f)))

    range_told : (n : Space) (m : PlaceIs IsTold n) (r : RangeTree) → ToldRange (spec.range first_one n r)
    range_told n m (raw.one x) f =
        one_range (spec.elab first_one n x).tree (read (spec.elab first_one n x).reads) (sole_value (spec.elab first_one n x) (elab_told n m x) f)
    range_told n m (raw.span l g) f =
        let a : BoundElab (Option Fault) = spec.bound first_one n l in
        let b : BoundElab (Option Fault) = spec.bound first_one n g in
        span_agrees a.tree b.tree a.reads b.reads (bound_told n m l (none_left a.faults b.faults f)) (bound_told n m g (none_right a.faults b.faults f))

    bound_told : (n : Space) (m : PlaceIs IsTold n) (b : BoundTree) → ToldBound (spec.bound first_one n b)
    bound_told n m (raw.value x) f =
        one_bound (spec.elab first_one n x).tree (read (spec.elab first_one n x).reads) (value_of n x (elab_told n m x) f)
    bound_told n m raw.dollar f = none

  pub reads_told : (n : Space) (m : PlaceIs IsTold n) (e : ExprTree) → (spec.value first_one n e).faults ≡ None → Agrees (spec.value first_one n e).tree (read (spec.value first_one n e).reads)
  reads_told n m e f = value_of n e (elab_told n m e) f
