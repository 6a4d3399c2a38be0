-- Elements, rows, bits, part-selects and members of sets by their parts.
use Rattle.std.proofs.Common.{◌≡◌, ℕ, ℤ, Bool, ◌||◌, if◌then◌else◌, Option, Some, refl}
use Rattle.svr_typed.specs.ExprTerm.{ExprTerm, NodeTerm}
use Rattle.svr_elab_fault.specs.declared.Fault.{Fault}
use Rattle.svr_elab_fault.specs.Refusals.{first_one}
use Rattle.svr_elab_part.specs.declared.part.Shape.{Shape}
use Rattle.svr_elab_part.specs.declared.part.Reads.{Reads}
use Rattle.svr_elab_part.specs.declared.part.Form.{Form}
use Rattle.svr_elab_part.specs.Elab as spec
use Rattle.svr_elab_part.specs.Elab.{Elab, RangesElab}
use Rattle.svr_elab_part.specs.Shapes as shapes
use Rattle.svr_elab_part.specs.declared.part.Extent.{Extent}
use Rattle.svr_elab_part.specs.declared.part.Extent.TheVariants as extent
use Rattle.svr_elab_part.specs.Forms.{is_row, element_extent, indexed_form, bits_form, other_form}
use Rattle.svr_elab_names.specs.declared.Property.{Property}
use Rattle.svr_elab_names.specs.declared.Dims.{Dims}
use Rattle.svr_elab_names.specs.declared.Dims.TheVariants as dims

pub slice_is : (at : ℕ) (x f l : Elab (Option Fault)) (low : ℤ) (y z : Option ℤ) (a b : Bool) (s : Option Shape) (n : Option NodeTerm) (t : Option ExprTerm) (g : Option Fault) (p q r : Reads) (form : Form)
    → y ≡ spec.known first_one f → z ≡ spec.known first_one l → a ≡ shapes.is_high low x.shape y z → b ≡ shapes.is_low low z → s ≡ shapes.part_shape (a || b) y z
    → n ≡ shapes.part_node x.tree f.tree l.tree low → t ≡ shapes.typed_as s n → g ≡ spec.slice_faults first_one x f l a b
    → p ≡ shapes.and_reads f.reads l.reads → q ≡ shapes.and_reads x.reads p → r ≡ shapes.no_constant q → form ≡ bits_form x.form → low ≡ x.form.low
    → (let v : Elab (Option Fault) = record { at = at; shape = s; tree = t; faults = g; reads = r; form = form } in v) ≡ spec.slice_part first_one at x f l
slice_is at x f l low y z a b s n t g p q r form is_y is_z is_a is_b is_s is_n is_t is_g is_p is_q is_r is_form is_low =
    rw (is_t, is_s, is_n, is_g, is_r, is_q, is_p, is_form, is_a, is_b, is_y, is_z, is_low) refl

by_dims : (d : Dims) (at : ℕ) (x i : Elab (Option Fault))
    → (let v : Elab (Option Fault) = record {
      at = at;
      shape = x.shape;
      tree = if is_row (element_extent d) then i.tree else shapes.element_tree x.form.root i.tree;
      faults = first_one.both x.faults i.faults;
      reads = shapes.no_constant (shapes.and_reads x.reads i.reads);
      form = indexed_form x.form (element_extent d) (spec.random_at i);
    } in v)
    ≡ (if is_row (element_extent d) then spec.row_part first_one at x i else spec.element_part first_one at x i)
by_dims dims.Scalar at x i = refl
by_dims (dims.Fixed n) at x i = refl
by_dims (dims.Rows n m) at x i = refl
by_dims dims.Dynamic at x i = refl

pub array_is : (at : ℕ) (x i : Elab (Option Fault)) (p : Property) (e : Extent) (n : Option ℕ) (t : Option ExprTerm) (g : Option Fault) (q r : Reads) (form : Form)
    → p ≡ shapes.array_property x.form.root → e ≡ element_extent p.dims → n ≡ spec.random_at i → t ≡ (if is_row e then i.tree else shapes.element_tree x.form.root i.tree)
    → g ≡ first_one.both x.faults i.faults → q ≡ shapes.and_reads x.reads i.reads → r ≡ shapes.no_constant q → form ≡ indexed_form x.form e n
    → (let v : Elab (Option Fault) = record { at = at; shape = x.shape; tree = t; faults = g; reads = r; form = form } in v) ≡ spec.array_part first_one at x i
array_is at x i p e n t g q r form is_p is_e is_n is_t is_g is_q is_r is_form =
    rw (is_t, is_g, is_r, is_q, is_form, is_n, is_e, is_p) (by_dims (shapes.array_property x.form.root).dims at x i)

pub cell_is : (at : ℕ) (x i : Elab (Option Fault)) (n : Option ℕ) (t : Option ExprTerm) (g : Option Fault) (q r : Reads) (form : Form)
    → n ≡ spec.random_at i → t ≡ shapes.cell_tree x.form.root x.tree i.tree → g ≡ first_one.both x.faults i.faults → q ≡ shapes.and_reads x.reads i.reads → r ≡ shapes.no_constant q
    → form ≡ indexed_form x.form extent.Single n
    → (let v : Elab (Option Fault) = record { at = at; shape = x.shape; tree = t; faults = g; reads = r; form = form } in v) ≡ spec.cell_part first_one at x i
cell_is at x i n t g q r form is_n is_t is_g is_q is_r is_form = rw (is_t, is_g, is_r, is_q, is_form, is_n) refl

pub bit_is : (at : ℕ) (x i : Elab (Option Fault)) (low : ℤ) (s : Shape) (n : Option NodeTerm) (t : Option ExprTerm) (g : Option Fault) (q r : Reads) (form : Form)
    → s ≡ shapes.bit → n ≡ shapes.bit_node x.tree i.tree low → t ≡ shapes.typed_as (Some s) n → g ≡ spec.bit_faults first_one x i → q ≡ shapes.and_reads x.reads i.reads → r ≡ shapes.no_constant q
    → form ≡ bits_form x.form → low ≡ x.form.low
    → (let v : Elab (Option Fault) = record { at = at; shape = Some s; tree = t; faults = g; reads = r; form = form } in v) ≡ spec.bit_part first_one at x i
bit_is at x i low s n t g q r form is_s is_n is_t is_g is_q is_r is_form is_low = rw (is_t, is_n, is_s, is_g, is_r, is_q, is_form, is_low) refl

pub inside_is : (at : ℕ) (x : Elab (Option Fault)) (rs : RangesElab (Option Fault)) (s : Shape) (n : Option NodeTerm) (g : Option Fault) (q : Reads)
    → s ≡ shapes.bit → n ≡ shapes.inside_node x.tree rs.trees → g ≡ first_one.both x.faults rs.faults → q ≡ shapes.and_reads x.reads rs.reads
    → (let v : Elab (Option Fault) = record { at = at; shape = Some s; tree = shapes.typed_as (Some s) n; faults = g; reads = q; form = other_form at } in v) ≡ spec.inside_part first_one at x rs
inside_is at x rs s n g q is_s is_n is_g is_q = rw (is_n, is_s, is_g, is_q) refl
