-- Each item that is tried is one of its phase of the call.
use Rattle.std.proofs.Common.{◌≡◌, ◌<◌, ◌≤◌, ◌^◌, ℕ, zero, suc, Bool, true, false, inl, List, [], ◌∷◌, refl, sym, subst, arith, lit<, lit≤}
use Rattle.std.specs.List.{All}
use Rattle.std.proofs.lemmas.List.Elements.{All-nil, All-cons}
use Rattle.svr_operator.specs.declared.BinOp.{BinOp}
use Rattle.svr_operator.specs.declared.UnOp.{UnOp}
use Rattle.svr_operator.specs.declared.Fold.{Fold}
use Rattle.svr_typed.specs.declared.expr.TExpr.{TExpr}
use Rattle.svr_typed.specs.ExprTerm.{ExprTerm, expr_term}
use Rattle.svr_eval.specs.declared.operator.BinaryKind.{BinaryKind}
use Rattle.svr_eval.specs.declared.operator.BinaryKind.TheVariants.{InContext, Shifted, ByPair, Logical}
use Rattle.svr_eval.specs.declared.operator.UnaryKind.{UnaryKind}
use Rattle.svr_eval.specs.declared.operator.UnaryKind.TheVariants.{Changed, Reduced}
use Rattle.svr_eval.specs.Operator.{binary_kind, unary_kind, binary_size, unary_size}
use Rattle.svr_eval.specs.Reading.{reading_of}
use Rattle.svr_eval.specs.Typed.{IsTyped, CanRead}
use Rattle.svr_frame.specs.Frame.{FrameTerm}
use Rattle.svr_frame.specs.Phases.{unknowns_of, sought_sizes}
use Rattle.svr_frame.specs.Sound.{ExprIsIn}
use Rattle.svr_encoded.specs.Fixed.{IsFixed}
use Rattle.svr_blast.specs.Standing.{StandsIn}
use Rattle.svr_frame.specs.declared.part.Part.{Part}
use Rattle.svr_frame.specs.declared.part.Part.TheVariants as part
use Rattle.svr_blast_tests.specs.declared.form.Form.{Form}
use Rattle.svr_blast_tests.specs.declared.form.Form.TheVariants as form
use Rattle.svr_blast_tests.specs.Forms.{scalar, operand, int, byte, equal, applied, applied_one, join_of, difference, row_at, size_of_q, item_of, part_of, IsAsked}
use Rattle.svr_blast_tests.specs.Sample.{sample_sizes, sample_frame, sample_slots}
use Rattle.svr_blast_tests.proofs.Sound.{below}

module _ (q : Part) where
  scalar_asked : (p : ℕ) → p < 3 → IsAsked q (scalar p)
  scalar_asked zero h = record { typed = (lit≤ tt, lit≤ tt, refl, refl, tt); inside = ((lit< tt, refl, refl), λ e. e); readable = below 0; fixed = tt }
  scalar_asked (suc zero) h = record { typed = (lit≤ tt, lit≤ tt, refl, refl, tt); inside = ((lit< tt, refl, refl), λ e. e); readable = below 1; fixed = tt }
  scalar_asked (suc (suc zero)) h = record { typed = (lit≤ tt, lit≤ tt, refl, refl, tt); inside = ((lit< tt, refl, refl), λ e. e); readable = below 2; fixed = tt }
  scalar_asked (suc (suc (suc p))) h = absurd (omega arith)

  operand_asked : (s : Bool) (p : ℕ) → p < 3 → IsAsked q (operand s p)
  operand_asked s p h =
      let x = scalar_asked p h in
      record { typed = (lit≤ tt, lit≤ tt, refl, refl, x.typed); inside = x.inside; readable = x.readable; fixed = x.fixed }

  int_asked : (v : ℕ) → v < 2 ^ 32 → IsAsked q (int v)
  int_asked v h = record { typed = (lit≤ tt, lit≤ tt, refl, refl, h); inside = tt; readable = tt; fixed = tt }

  equal_asked : (l r : ExprTerm) → IsAsked q l → IsAsked q r → IsAsked q (equal l r)
  equal_asked l r x y = record {
    typed = (lit≤ tt, lit≤ tt, refl, refl, (x.typed, y.typed));
    inside = (x.inside, y.inside);
    readable = (x.readable, y.readable);
    fixed = (x.fixed, y.fixed);
  }

  is_z_asked : (e : ExprTerm) → IsAsked q e → IsAsked q (equal e (scalar 2))
  is_z_asked e x = equal_asked e (scalar 2) x (scalar_asked 2 (lit< tt))

  binary_wide : (k : BinaryKind) → (1 ≤ binary_size k 4 4) × (binary_size k 4 4 ≤ 64)
  binary_wide (InContext f) = (lit≤ tt, lit≤ tt)
  binary_wide (Shifted f) = (lit≤ tt, lit≤ tt)
  binary_wide (ByPair f) = (lit≤ tt, lit≤ tt)
  binary_wide (Logical f) = (lit≤ tt, lit≤ tt)

  applied_asked : (op : BinOp) (s : Bool) → IsAsked q (applied op s)
  applied_asked op s =
      let x = operand_asked s 0 (lit< tt) in
      let y = operand_asked s 1 (lit< tt) in
      let w = binary_wide (binary_kind op) in
      record {
        typed = (w.0, w.1, refl, refl, (x.typed, y.typed));
        inside = (x.inside, y.inside);
        readable = (x.readable, y.readable);
        fixed = (x.fixed, y.fixed);
      }

  unary_wide : (k : UnaryKind) → (1 ≤ unary_size k 4) × (unary_size k 4 ≤ 64)
  unary_wide (Changed f) = (lit≤ tt, lit≤ tt)
  unary_wide (Reduced f) = (lit≤ tt, lit≤ tt)

  applied_one_asked : (op : UnOp) (s : Bool) → IsAsked q (applied_one op s)
  applied_one_asked op s =
      let x = operand_asked s 0 (lit< tt) in
      let w = unary_wide (unary_kind op) in
      record { typed = (w.0, w.1, refl, refl, x.typed); inside = x.inside; readable = x.readable; fixed = x.fixed }

  join_asked : (m n : ℕ) → m < 3 → n < 3 → IsAsked q (join_of m n)
  join_asked m n h k =
      let x = scalar_asked m h in
      let y = scalar_asked n k in
      record {
        typed = (lit≤ tt, lit≤ tt, refl, refl, (x.typed, (y.typed, tt)));
        inside = (x.inside, (y.inside, tt));
        readable = (x.readable, (y.readable, tt));
        fixed = (x.fixed, (y.fixed, tt));
      }

  row_asked : (e : ExprTerm) → IsAsked q e → IsAsked q (row_at e)
  row_asked e x = record {
    typed = (lit≤ tt, lit≤ tt, refl, refl, x.typed);
    inside = ((lit< tt, refl, refl), refl, x.inside);
    readable = (x.readable, below 3);
    fixed = x.fixed;
  }

  size_asked : IsAsked q size_of_q
  size_asked = record { typed = (lit≤ tt, lit≤ tt, refl, refl, lit≤ tt); inside = (lit< tt, refl, refl); readable = lit< tt; fixed = tt }

-- ---- each form

choice_asked : IsAsked part.All (item_of form.Choice)
choice_asked =
    let x = scalar_asked part.All 0 (lit< tt) in
    let y = scalar_asked part.All 1 (lit< tt) in
    is_z_asked part.All _
    (record {
      typed = (lit≤ tt, lit≤ tt, refl, refl, (x.typed, y.typed, (lit≤ tt, lit≤ tt, refl, refl, lit< tt)));
      inside = (x.inside, y.inside, tt);
      readable = (x.readable, y.readable, tt);
      fixed = (tt, tt, tt);
    })

inside_asked : (s : Bool) → IsAsked part.All (item_of (form.Inside s))
inside_asked s =
    let x = operand_asked part.All s 0 (lit< tt) in
    let y = operand_asked part.All s 1 (lit< tt) in
    let z = operand_asked part.All s 2 (lit< tt) in
    let m = int_asked part.All 4294967293 (lit< tt) in
    let n = int_asked part.All 1 (lit< tt) in
    record {
      typed = (lit≤ tt, lit≤ tt, refl, refl, (x.typed, (y.typed, ((m.typed, n.typed), ((z.typed, tt), tt)))));
      inside = (x.inside, (y.inside, ((tt, tt), ((z.inside, tt), tt))));
      readable = (x.readable, (y.readable, ((tt, tt), ((z.readable, tt), tt))));
      fixed = (tt, ((tt, tt), ((tt, tt), ((tt, tt), tt))));
    }

array_asked : IsAsked part.All (item_of form.Array)
array_asked =
    let x = scalar_asked part.All 0 (lit< tt) in
    record {
      typed = (lit≤ tt, lit≤ tt, refl, refl, (x.typed, ((lit≤ tt, lit≤ tt, refl, refl, tt), tt)));
      inside = (x.inside, (((lit< tt, refl, refl), λ h. refl), tt));
      readable = (x.readable, (below 3, tt));
      fixed = (tt, ((tt, refl), tt));
    }

join_item_asked : IsAsked part.All (item_of form.Join)
join_item_asked =
    let x = join_asked part.All 0 1 (lit< tt) (lit< tt) in
    let y = join_asked part.All 1 2 (lit< tt) (lit< tt) in
    equal_asked part.All (difference (join_of 0 1) (join_of 1 2)) (byte 7)
    (record {
      typed = (lit≤ tt, lit≤ tt, refl, refl, (x.typed, y.typed));
      inside = (x.inside, y.inside);
      readable = (x.readable, y.readable);
      fixed = (x.fixed, y.fixed);
    })
    (record { typed = (lit≤ tt, lit≤ tt, refl, refl, lit< tt); inside = tt; readable = tt; fixed = tt })

copies_asked : IsAsked part.All (item_of form.Copies)
copies_asked =
    let x = scalar_asked part.All 0 (lit< tt) in
    let y = join_asked part.All 1 2 (lit< tt) (lit< tt) in
    let n = int_asked part.All 2 (lit< tt) in
    equal_asked part.All _ (byte 3)
    (record {
      typed = (lit≤ tt, lit≤ tt, refl, refl, ((lit≤ tt, lit≤ tt, refl, refl, (n.typed, tt, (x.typed, tt), refl, refl)), y.typed));
      inside = ((tt, (x.inside, tt)), y.inside);
      readable = ((tt, (x.readable, tt)), y.readable);
      fixed = ((tt, (x.fixed, tt)), y.fixed);
    })
    (record { typed = (lit≤ tt, lit≤ tt, refl, refl, lit< tt); inside = tt; readable = tt; fixed = tt })

bit_asked : IsAsked part.All (item_of form.Bit)
bit_asked =
    let x = scalar_asked part.All 0 (lit< tt) in
    is_z_asked part.All _
    (record {
      typed = (lit≤ tt, lit≤ tt, refl, refl, (x.typed, (int_asked part.All 3 (lit< tt)).typed));
      inside = (x.inside, tt, refl);
      readable = (x.readable, tt);
      fixed = (tt, tt);
    })

bits_asked : IsAsked part.All (item_of form.Bits)
bits_asked =
    let x = scalar_asked part.All 0 (lit< tt) in
    is_z_asked part.All _
    (record {
      typed = (lit≤ tt, lit≤ tt, refl, refl, (x.typed, (int_asked part.All 2 (lit< tt)).typed, (int_asked part.All 1 (lit< tt)).typed, tt, tt, refl));
      inside = (x.inside, tt, tt);
      readable = (x.readable, tt, tt);
      fixed = (tt, tt, tt);
    })

every_asked : IsAsked part.All (item_of form.Every)
every_asked =
    let x = scalar_asked part.All 0 (lit< tt) in
    is_z_asked part.All _
    (record {
      typed = (lit≤ tt, lit≤ tt, refl, refl, (x.typed, (lit≤ tt, lit≤ tt, refl, refl, lit< tt)));
      inside = (x.inside, tt);
      readable = (x.readable, tt);
      fixed = (tt, tt);
    })

script_asked : IsAsked part.All (item_of form.Script)
script_asked =
    let x = scalar_asked part.All 0 (lit< tt) in
    is_z_asked part.All _
    (record {
      typed = (lit≤ tt, lit≤ tt, refl, refl, (x.typed, (lit≤ tt, lit≤ tt, refl, refl, tt)));
      inside = (x.inside, lit< tt);
      readable = (x.readable, lit< tt);
      fixed = (tt, tt);
    })

cell_asked : IsAsked part.All (item_of form.Cell)
cell_asked =
    let x = scalar_asked part.All 0 (lit< tt) in
    let y = scalar_asked part.All 1 (lit< tt) in
    is_z_asked part.All _
    (record {
      typed = (lit≤ tt, lit≤ tt, refl, refl, (lit≤ tt, x.typed, y.typed));
      inside = ((lit< tt, refl, refl), refl, refl, x.inside, y.inside);
      readable = (x.readable, y.readable, below 4);
      fixed = (tt, tt);
    })

reduce_asked : (op : Fold) → IsAsked part.All (item_of (form.Reduce op))
reduce_asked op =
    is_z_asked part.All _
    (record {
      typed = (lit≤ tt, lit≤ tt, refl, refl, (lit≤ tt, lit≤ tt, refl, refl, (lit≤ tt, lit≤ tt, refl, refl, tt)));
      inside = (lit< tt, refl, ((lit< tt, refl, refl), refl, tt));
      readable = (lit< tt, (lit< tt, below 3));
      fixed = (refl, tt);
    })

size_item_asked : IsAsked part.Sizes (item_of form.Size)
size_item_asked =
    let x = scalar_asked part.Sizes 0 (lit< tt) in
    let s = size_asked part.Sizes in
    is_z_asked part.Sizes _
    (record {
      typed = (lit≤ tt, lit≤ tt, refl, refl, (s.typed, x.typed));
      inside = (s.inside, x.inside);
      readable = (s.readable, x.readable);
      fixed = (tt, tt);
    })

sized_bit_asked : IsAsked part.Sizes (item_of form.SizedBit)
sized_bit_asked =
    let x = scalar_asked part.Sizes 0 (lit< tt) in
    let s = size_asked part.Sizes in
    is_z_asked part.Sizes _
    (record {
      typed = (lit≤ tt, lit≤ tt, refl, refl, (x.typed, s.typed));
      inside = (x.inside, s.inside, refl);
      readable = (x.readable, s.readable);
      fixed = (tt, tt);
    })

pub item_asked : (f : Form) → IsAsked (part_of f) (item_of f)
item_asked (form.Binary op s) = equal_asked part.All (applied op s) (operand s 2) (applied_asked part.All op s) (operand_asked part.All s 2 (lit< tt))
item_asked (form.Unary op s) = equal_asked part.All (applied_one op s) (operand s 2) (applied_one_asked part.All op s) (operand_asked part.All s 2 (lit< tt))
item_asked form.Choice = choice_asked
item_asked (form.Inside s) = inside_asked s
item_asked form.Array = array_asked
item_asked form.Join = join_item_asked
item_asked form.Copies = copies_asked
item_asked form.Bit = bit_asked
item_asked form.Bits = bits_asked
item_asked form.Every = every_asked
item_asked form.Script = script_asked
item_asked (form.Element s) = is_z_asked part.All _ (row_asked part.All (operand s 0) (operand_asked part.All s 0 (lit< tt)))
item_asked form.ElementAt = is_z_asked part.All _ (row_asked part.All (int 1) (int_asked part.All 1 (lit< tt)))
item_asked form.Cell = cell_asked
item_asked (form.Reduce op) = reduce_asked op
item_asked form.Size = size_item_asked
item_asked form.SizedElement = is_z_asked part.Sizes _ (row_asked part.Sizes size_of_q (size_asked part.Sizes))
item_asked form.SizedBit = sized_bit_asked
item_asked form.KnownElement = is_z_asked part.Sizes _ (row_asked part.Sizes (scalar 0) (scalar_asked part.Sizes 0 (lit< tt)))

-- ---- the list of one item

one_of : (P : TExpr → Type 0) (e : TExpr) (es : List TExpr) → es ≡ e ∷ [] → P e → All P es
one_of P e es is h = subst (λ (xs : List TExpr). All P xs) (sym is) (All-cons P e [] h (All-nil P))

module _ (f : Form) (e : TExpr) (es : List TExpr) (is : es ≡ e ∷ []) (term : expr_term e ≡ item_of f) where
  pub one_typed : All (λ x. IsTyped (expr_term x)) es
  one_typed = one_of (λ x. IsTyped (expr_term x)) e es is (subst IsTyped (sym term) (item_asked f).typed)

  pub one_inside : (frame : FrameTerm) → frame ≡ sample_frame → All (λ x. StandsIn frame (expr_term x)) es
  one_inside frame same =
      subst (λ (g : FrameTerm). All (λ x. StandsIn g (expr_term x)) es) (sym same)
      (one_of (λ x. StandsIn sample_frame (expr_term x)) e es is (inl (subst (ExprIsIn sample_frame false) (sym term) (item_asked f).inside)))

  pub one_readable : (frame : FrameTerm) → frame ≡ sample_frame → All (λ x. CanRead (reading_of frame.state) 0 (expr_term x)) es
  one_readable frame same =
      subst (λ (g : FrameTerm). All (λ x. CanRead (reading_of g.state) 0 (expr_term x)) es) (sym same)
      (one_of (λ x. CanRead (reading_of sample_frame.state) 0 (expr_term x)) e es is (subst (CanRead (reading_of sample_frame.state) 0) (sym term) (item_asked f).readable))

  pub one_fixed : (frame : FrameTerm) (p : Part) → frame ≡ sample_frame → p ≡ part_of f → All (λ x. IsFixed (sought_sizes frame p) (expr_term x)) es
  one_fixed frame p same at =
      subst (λ (g : FrameTerm). All (λ x. IsFixed (sought_sizes g p) (expr_term x)) es) (sym same)
      (subst (λ (q : Part). All (λ x. IsFixed (sought_sizes sample_frame q) (expr_term x)) es) (sym at)
      (one_of (λ x. IsFixed (sought_sizes sample_frame (part_of f)) (expr_term x)) e es is (subst (IsFixed (sought_sizes sample_frame (part_of f))) (sym term) (item_asked f).fixed)))

slots_are : (p : Part) → sample_slots p ≡ unknowns_of sample_frame p sample_sizes
slots_are part.Randc = refl
slots_are part.Sizes = refl
slots_are part.All = refl

pub all_slots : (frame : FrameTerm) (p : Part) → frame ≡ sample_frame → sample_slots p ≡ unknowns_of frame p sample_sizes
all_slots frame p same = subst (λ (g : FrameTerm). sample_slots p ≡ unknowns_of g p sample_sizes) (sym same) (slots_are p)
