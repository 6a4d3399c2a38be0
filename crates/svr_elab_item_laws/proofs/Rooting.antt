-- Each expression of a constraint has such a root.
use Rattle.std.proofs.Common.{◌≡◌, ℕ, Bool, true, false, if◌then◌else◌, Option, None, Some, option_map, refl, sym, subst, ◌∙◌}
use Rattle.std.specs.Prelude.{⊤}
use Rattle.svr_refusal.specs.declared.Refusal.TheVariants as refusal
use Rattle.svr_tree.specs.ExprTree as raw
use Rattle.svr_tree.specs.ExprTree.{ExprTree, argument_name}
use Rattle.svr_typed.specs.ExprTerm as term
use Rattle.svr_typed.specs.ExprTerm.{ExprTerm}
use Rattle.svr_elab_fault.specs.declared.Fault.{Fault}
use Rattle.svr_elab_fault.specs.Refusals.{first_one, when}
use Rattle.svr_elab_names.specs.declared.Vector.{Vector}
use Rattle.svr_elab_names.specs.declared.Property.{Property}
use Rattle.svr_elab_names.specs.declared.Meaning.{Meaning}
use Rattle.svr_elab_names.specs.declared.Meaning.TheVariants.{Wrong, LoopOf, ItemOf, MemberOf, PropertyOf, SizeOf, FoldOf, VariableOf, ObjectOf}
use Rattle.svr_elab_names.specs.Names.{Space, look, is_array}
use Rattle.svr_elab_part.specs.Elab as spec
use Rattle.svr_elab_part.specs.Elab.{Elab, Elabs, RangesElab, body_space}
use Rattle.svr_elab_part.specs.Shapes as shapes
use Rattle.svr_elab_part.specs.Shapes.{both_known, all_known, array_property, inner_of}
use Rattle.svr_elab_part.specs.Forms.{is_row, is_whole, element_extent}
use Rattle.svr_elab_part.proofs.Valued.{none_left, none_right, not_when}
use Rattle.svr_elab_part.proofs.Looked.{OptionIs}
use Rattle.svr_elab_stand_laws.proofs.Found.{MeaningIs, PlaceIs, found}
use Rattle.svr_elab_item_laws.proofs.Roots.{true_false, false_true, mapped_is, both_is, all_is, no_row_single, no_row_whole, no_row_row, property_whole, property_no_row, refused_without, Rooted, Plain, Bits, made, plain_rooted, bits_rooted, index_settled, still_settled, element_rooted, cell_rooted, prop_rooted, item_rooted, member_rooted, variable_rooted, size_rooted, fold_rooted, array_rooted, root_without, whole_without, tree_without}

-- nothing is asked of variables
abbrev pub any_variable : ℕ → Option Vector → Type 0
any_variable v kind = ⊤

wrong : (token : ℕ) → when first_one true token refusal.UnknownName ≡ None → ⊥
wrong token h = true_false (not_when true token refusal.UnknownName h)

module _ (Q : Property → Type 0) (N : ExprTerm → Type 0) where
  abbrev path_at : ℕ → ℕ → Bool → Option ℕ → Meaning → Elab (Option Fault)
  path_at at name call u m = spec.path_part first_one at name call (record { meaning = m; unmade = u })

  property_path : (at name : ℕ) (call : Bool) (u : Option ℕ) (p : Property) → Q p → Rooted Q N (path_at at name call u (PropertyOf p None))
  property_path at name call u p h = record {
    refused = λ e. absurd (false_true e);
    rooted = (h, refl);
    whole = λ e. (property_whole (is_array p.dims) e, refl, refl, refl);
    row = λ e. absurd (true_false (sym e ∙ property_no_row (is_array p.dims)));
    single = λ e f. prop_rooted Q N p p.kind h;
  }

  path_rooted : (depth at name : ℕ) (call : Bool) (u : Option ℕ) (m : Meaning) → MeaningIs Q any_variable depth m → Rooted Q N (path_at at name call u m)
  path_rooted depth at name call u (Wrong w) h = made Q N _ (λ e f. wrong w (none_right _ _ f)) tt refl (λ f. tt)
  path_rooted depth at name call u (LoopOf k) h = made Q N _ (λ e. absurd (false_true e)) tt refl (λ f. (tt, tt))
  path_rooted depth at name call u (ItemOf k p) h = made Q N _ (λ e. absurd (false_true e)) tt refl (λ f. item_rooted Q N p k p.kind)
  path_rooted depth at name call u (MemberOf v kind) h = made Q N _ (λ e. absurd (false_true e)) tt refl (λ f. member_rooted Q N v kind)
  path_rooted depth at name call u (PropertyOf p o) h =
      let P : Option ℕ → Type 0 = λ o. Rooted Q N (path_at at name call u (PropertyOf p o)) in subst P (sym h.1) (property_path at name call u p h.0)
  path_rooted depth at name call u (SizeOf p o) h =
      let P : Option ℕ → Type 0 = λ o. Rooted Q N (path_at at name call u (SizeOf p o)) in
      subst P (sym h.1) (made Q N (path_at at name call u (SizeOf p None)) (λ e. absurd (false_true e)) tt refl (λ f. size_rooted Q N p (inner_of p.dims)))
  path_rooted depth at name call u (FoldOf p o g array) h =
      let P : Option ℕ → Type 0 = λ o. Rooted Q N (path_at at name call u (FoldOf p o g array)) in
      subst P (sym h.1) (made Q N (path_at at name call u (FoldOf p None g array)) (λ e. absurd (false_true e)) tt refl (λ f. fold_rooted Q N p g))
  path_rooted depth at name call u (VariableOf v kind) h = made Q N _ (λ e. absurd (false_true e)) tt refl (λ f. variable_rooted Q N v kind)
  path_rooted depth at name call u (ObjectOf o c) h = made Q N _ (λ e. absurd (false_true e)) tt refl (λ f. tt)

  one_of : (b : Bool) (x y : Elab (Option Fault)) → (b ≡ true → Rooted Q N x) → (b ≡ false → Rooted Q N y) → Rooted Q N (if b then x else y)
  one_of true x y h k = h refl
  one_of false x y h k = k refl

  -- ---- elements and bits

  module _ (at : ℕ) (x i : Elab (Option Fault)) (h : Rooted Q N x) (k : i.faults ≡ None → i.reads.random ≡ false → OptionIs N i.tree) where
    row_rooted : Rooted Q N (spec.row_part first_one at x i)
    row_rooted = record {
      refused = λ e f. h.refused e (none_left x.faults i.faults f);
      rooted = h.rooted;
      whole = λ e. absurd (false_true e);
      row = λ e f. index_settled Q N x.form.random_index i.reads.random i.at i.tree (k (none_right x.faults i.faults f));
      single = λ e. absurd (false_true e);
    }

    one_element : Rooted Q N (spec.element_part first_one at x i)
    one_element =
        made Q N (spec.element_part first_one at x i) (λ e f. h.refused e (none_left x.faults i.faults f)) h.rooted refl
        (λ f. element_rooted Q N x.form.root (spec.element_part first_one at x i).form.random_index i.tree h.rooted (index_settled Q N x.form.random_index i.reads.random i.at i.tree (k (none_right x.faults i.faults f))))

    one_cell : is_row x.form.extent ≡ true → Rooted Q N (spec.cell_part first_one at x i)
    one_cell r =
        made Q N (spec.cell_part first_one at x i) (λ e f. h.refused e (none_left x.faults i.faults f)) h.rooted refl
        (λ f. cell_rooted Q N x.form.root (spec.cell_part first_one at x i).form.random_index x.tree i.tree h.rooted
        (still_settled Q N x.form.random_index (spec.random_at i) x.tree (h.row r (none_left x.faults i.faults f)))
        (index_settled Q N x.form.random_index i.reads.random i.at i.tree (k (none_right x.faults i.faults f))))

    one_bit : Rooted Q N (spec.bit_part first_one at x i)
    one_bit =
        made Q N (spec.bit_part first_one at x i) (λ e f. h.refused e (none_left _ _ f)) h.rooted refl
        (λ f. bits_rooted Q N x.form.root x.form.random_index (Some shapes.bit) (shapes.bit_node x.tree i.tree x.form.low)
        (both_is (Bits Q N x.form.root) (λ t u. term.bit_select t u x.form.low) (λ t u. (tt, tt)) x.tree i.tree))

    array_index : Rooted Q N (spec.array_part first_one at x i)
    array_index = one_of (is_row (element_extent (array_property x.form.root).dims)) (spec.row_part first_one at x i) (spec.element_part first_one at x i) (λ e. row_rooted) (λ e. one_element)

    index_rooted : Rooted Q N (spec.index_part first_one at x i)
    index_rooted =
        one_of (is_whole x.form.extent) (spec.array_part first_one at x i) (if is_row x.form.extent then spec.cell_part first_one at x i else spec.bit_part first_one at x i) (λ e. array_index)
        (λ w. one_of (is_row x.form.extent) (spec.cell_part first_one at x i) (spec.bit_part first_one at x i) one_cell (λ r. one_bit))

  parens_rooted : (call : Bool) (x : Elab (Option Fault)) → Rooted Q N x → Rooted Q N (spec.with_parens first_one call x)
  parens_rooted call x h = record {
    refused = λ e f. h.refused e (none_left _ _ f);
    rooted = h.rooted;
    whole = h.whole;
    row = λ e f. h.row e (none_left _ _ f);
    single = λ e f. h.single e (none_left _ _ f);
  }

  slice_rooted : (at : ℕ) (x f l : Elab (Option Fault)) → Rooted Q N x → Rooted Q N (spec.slice_part first_one at (spec.plain first_one x) f l)
  slice_rooted at x f l h =
      let a : Elab (Option Fault) = spec.plain first_one x in
      let s : Elab (Option Fault) = spec.slice_part first_one at a f l in
      made Q N s (λ e g. h.refused (refused_without x.form.root e) (none_left _ _ (none_left a.faults _ g))) (root_without Q N x.form.root h.rooted) refl
      (λ g. bits_rooted Q N a.form.root a.form.random_index s.shape (shapes.part_node a.tree f.tree l.tree a.form.low)
      (all_is (Bits Q N a.form.root) (λ t u v. term.part_select t u v a.form.low) (λ t u v. (tt, tt)) a.tree f.tree l.tree))

  sole_rooted : (x : Elab (Option Fault)) → Rooted Q N x → Rooted Q N (spec.sole first_one x)
  sole_rooted x h = record {
    refused = λ e f. h.refused (refused_without x.form.root e) (none_left _ _ f);
    rooted = root_without Q N x.form.root h.rooted;
    whole = λ e. whole_without Q N x.form.root x.shape x.tree x.reads (h.whole (no_row_whole x.form.extent e));
    row = λ e. absurd (true_false (sym e ∙ no_row_row x.form.extent));
    single = λ e f. tree_without Q N x.form.root x.form.bits x.form.random_index x.tree (not_when _ _ _ (none_right _ _ (none_right _ _ f)))
        (h.single (no_row_single x.form.extent e (not_when _ _ _ (none_left _ _ (none_right _ _ f)))) (none_left _ _ f));
  }

  module _ (n : Space) (depth : ℕ) (m : PlaceIs Q any_variable depth n)
      (told : (i : ExprTree) → (spec.value first_one n i).faults ≡ None → (spec.value first_one n i).reads.random ≡ false → OptionIs N (spec.value first_one n i).tree) where
    pub rooted : (e : ExprTree) → Rooted Q N (spec.elab first_one n e)
    rooted (raw.number at v w s) = made Q N (spec.literal first_one at v w s) (λ e. absurd (false_true e)) tt refl (λ f. (tt, tt))
    rooted (raw.path at s names call) = path_rooted depth at (spec.last_name at names) call (look n s names).unmade (look n s names).meaning (found Q any_variable depth n m s names)
    rooted (raw.bit_select at x i call) =
        parens_rooted call (spec.index_part first_one at (spec.elab first_one n x) (spec.plain first_one (spec.elab first_one n i)))
        (index_rooted at (spec.elab first_one n x) (spec.plain first_one (spec.elab first_one n i)) (rooted x) (told i))
    rooted (raw.part_select at x g l call) =
        parens_rooted call (spec.slice_part first_one at (spec.plain first_one (spec.elab first_one n x)) (spec.plain first_one (spec.elab first_one n g)) (spec.plain first_one (spec.elab first_one n l)))
        (slice_rooted at (spec.elab first_one n x) (spec.plain first_one (spec.elab first_one n g)) (spec.plain first_one (spec.elab first_one n l)) (rooted x))
    rooted (raw.unary at op x) =
        let a : Elab (Option Fault) = spec.plain first_one (spec.elab first_one n x) in
        made Q N (spec.unary_part first_one at op a) (λ e. absurd (false_true e)) tt refl
        (λ f. plain_rooted Q N (shapes.unary_shape op a.shape) (option_map (term.unary op) a.tree) (mapped_is (Plain Q N) (term.unary op) (λ t. (tt, tt)) a.tree))
    rooted (raw.binary at op x y) =
        let a : Elab (Option Fault) = spec.plain first_one (spec.elab first_one n x) in
        let b : Elab (Option Fault) = spec.plain first_one (spec.elab first_one n y) in
        made Q N (spec.binary_part first_one at op a b) (λ e. absurd (false_true e)) tt refl
        (λ f. plain_rooted Q N (shapes.binary_shape op a.shape b.shape) (both_known (term.binary op) a.tree b.tree) (both_is (Plain Q N) (term.binary op) (λ t u. (tt, tt)) a.tree b.tree))
    rooted (raw.choice at t x y) =
        let o : Elab (Option Fault) = spec.plain first_one (spec.elab first_one n t) in
        let a : Elab (Option Fault) = spec.plain first_one (spec.elab first_one n x) in
        let b : Elab (Option Fault) = spec.plain first_one (spec.elab first_one n y) in
        made Q N (spec.choice_part first_one at o a b) (λ e. absurd (false_true e)) tt refl
        (λ f. plain_rooted Q N (shapes.choice_shape a.shape b.shape) (all_known term.choice o.tree a.tree b.tree) (all_is (Plain Q N) term.choice (λ t u v. (tt, tt)) o.tree a.tree b.tree))
    rooted (raw.inside at x rs) =
        let a : Elab (Option Fault) = spec.plain first_one (spec.elab first_one n x) in
        let r : RangesElab (Option Fault) = spec.ranges first_one n (spec.no_ranges first_one) rs in
        made Q N (spec.inside_part first_one at a r) (λ e. absurd (false_true e)) tt refl
        (λ f. plain_rooted Q N (Some shapes.bit) (shapes.inside_node a.tree r.trees) (both_is (Plain Q N) (λ x rs. term.inside x (term.ranges_of rs)) (λ t u. (tt, tt)) a.tree r.trees))
    rooted (raw.join at xs) =
        let p : Elabs (Option Fault) = spec.parts first_one n (spec.no_parts first_one) xs in
        made Q N (spec.join_part first_one at p) (λ e. absurd (false_true e)) tt refl
        (λ f. plain_rooted Q N (option_map shapes.bits_wide p.total) (shapes.join_node p.trees) (mapped_is (Plain Q N) (λ ts. term.join (term.exprs_of ts)) (λ t. (tt, tt)) p.trees))
    rooted (raw.copies at x xs) =
        let a : Elab (Option Fault) = spec.plain first_one (spec.elab first_one n x) in
        let p : Elabs (Option Fault) = spec.parts first_one n (spec.no_parts first_one) xs in
        made Q N (spec.copies_part first_one at a p) (λ e. absurd (false_true e)) tt refl
        (λ f. plain_rooted Q N (spec.copies_part first_one at a p).shape (shapes.copies_node a.tree p.trees) (both_is (Plain Q N) (λ n ts. term.copies n (term.exprs_of ts)) (λ t u. (tt, tt)) a.tree p.trees))
    rooted (raw.sign at z x) =
        let a : Elab (Option Fault) = spec.plain first_one (spec.elab first_one n x) in
        made Q N (spec.sign_part first_one at z a) (λ e. absurd (false_true e)) tt refl
        (λ f. plain_rooted Q N (shapes.sign_shape z a.shape) (option_map (term.sign z) a.tree) (mapped_is (Plain Q N) (term.sign z) (λ t. (tt, tt)) a.tree))
    rooted (raw.paren at x) =
        let a : Rooted Q N (spec.sole first_one (spec.elab first_one n x)) = sole_rooted (spec.elab first_one n x) (rooted x) in
        record { refused = a.refused; rooted = a.rooted; whole = a.whole; row = a.row; single = a.single }
    rooted (raw.reduce at x g item body) =
        let a : Elab (Option Fault) = spec.elab first_one n x in
        let b : Elab (Option Fault) = spec.plain first_one (spec.elab first_one (body_space n a (argument_name item)) body) in
        made Q N (spec.reduce_part first_one at g (spec.sole first_one a) b) (λ e. absurd (false_true e)) tt refl
        (λ f. plain_rooted Q N b.shape (shapes.array_node (spec.sole first_one a).form.root g b.tree) (array_rooted Q N (spec.sole first_one a).form.root g b.tree))

    pub rooted_sole : (e : ExprTree) → Rooted Q N (spec.sole first_one (spec.elab first_one n e))
    rooted_sole e = sole_rooted (spec.elab first_one n e) (rooted e)
