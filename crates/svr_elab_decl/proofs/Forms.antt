-- What is known of a form, put together of what is known of its parts.
use Rattle.std.proofs.Common.{◌≡◌, ℕ, ◌≤◌, ℤ, pos, Bool, ◌||◌, List, [], ◌∷◌, map, length, get_or, Option, is_none, refl, sym, ap, subst, ◌∙◌, arith}
use Rattle.svr_tree.specs.declared.Dimension.{Dimension}
use Rattle.svr_tree.specs.DeclTree.{DimensionTree, dimension_tree}
use Rattle.svr_refusal.specs.declared.Refusal.TheVariants as refusal
use Rattle.svr_elab_fault.specs.declared.Fault.{Fault}
use Rattle.svr_elab_fault.specs.Refusals.{first_one, when, earlier}
use Rattle.svr_elab_names.specs.declared.Vector.{Vector}
use Rattle.svr_elab_names.specs.declared.Dims.{Dims}
use Rattle.svr_elab_names.specs.declared.Dims.TheVariants as dims
use Rattle.svr_elab_names.specs.declared.Global.{Global}
use Rattle.svr_elab_names.specs.Names.{Space}
use Rattle.svr_elab_part.specs.Elab.{Elab}
use Rattle.svr_elab_type.specs.Types.{Constant, TypeElab, global_at, is_below, is_other}
use Rattle.svr_elab_decl.specs.Properties.{Used, UsedElab, DimsElab, used_global, is_unnamed, numbers_use, named_type, count_if, one_more, sized_dims, bounded_dims, row_dims, dimension, dims_of, initial, first_faults}
use Rattle.svr_elab_decl.specs.Fits.{DimensionFits, DimensionsFit}

abbrev Number : Type 0
Number = Constant (Option Fault)

abbrev Dimensions : Type 0
Dimensions = DimsElab (Option Fault)

abbrev Value : Type 0
Value = Elab (Option Fault)

-- ---- types as they are used

pub named_is : (n : Space) (name : ℕ) (s : Option Global) (u : Used) (b : Bool) (f : Option Fault)
    → s ≡ global_at n name → u ≡ used_global s → b ≡ is_unnamed u → f ≡ when first_one b name refusal.UnknownName
    → (let r : UsedElab (Option Fault) = record { used = u; faults = f } in r) ≡ named_type first_one n name
named_is n name s u b f is_s is_u is_b is_f = rw (is_f, is_b, is_u, is_s) refl

pub numbers_are : (t x : TypeElab (Option Fault)) → t ≡ x → numbers_use first_one t ≡ numbers_use first_one x
numbers_are t x e = ap (λ (t : TypeElab (Option Fault)). numbers_use first_one t) e

-- ---- dimensions

pub sized_is : (r : Dimensions) (n x : Number) → r ≡ sized_dims first_one n → n ≡ x → r ≡ sized_dims first_one x
sized_is r n x h e = h ∙ ap (λ (n : Number). sized_dims first_one n) e

pub bounded_known : (a b : Number) (other below bad : Bool) (n : Option ℤ) (k : Option ℕ) (u v w g f : Option Fault)
    → other ≡ is_other (pos 0) a.number → below ≡ is_below (pos 0) b.number → bad ≡ (other || (is_none a.number || below)) → n ≡ one_more b.number → k ≡ count_if bad n
    → u ≡ when first_one other a.at refusal.BadRange → v ≡ when first_one below b.at refusal.BadRange → w ≡ earlier u v → g ≡ earlier b.faults w → f ≡ earlier a.faults g
    → (let d : Dimensions = record { dims = dims.Fixed k; faults = f } in d) ≡ bounded_dims first_one a b
bounded_known a b other below bad n k u v w g f is_other is_below is_bad is_n is_k is_u is_v is_w is_g is_f = rw (is_f, is_g, is_w, is_u, is_v, is_k, is_n, is_bad, is_other, is_below) refl

pub bounded_is : (r : Dimensions) (m l x y : Number) → r ≡ bounded_dims first_one m l → m ≡ x → l ≡ y → r ≡ bounded_dims first_one x y
bounded_is r m l x y h e f =
    h ∙ ap (λ (m : Number). bounded_dims first_one m l) e ∙ ap (λ (l : Number). bounded_dims first_one x l) f

pub rows_are : (name : ℕ) (r d e x y : Dimensions) → r ≡ row_dims first_one name d e → d ≡ x → e ≡ y → r ≡ row_dims first_one name x y
rows_are name r d e x y h f g =
    h ∙ ap (λ (d : Dimensions). row_dims first_one name d e) f ∙ ap (λ (e : Dimensions). row_dims first_one name x e) g

abbrev Trees : List Dimension → List DimensionTree
Trees ds = map dimension_tree ds

-- a list of one, and of two or more
pub one_is : (n : Space) (name : ℕ) (ds : List Dimension) (d : Dimension) (r : Dimensions) → length ds ≡ 1 → d ≡ get_or ds 0 d → r ≡ dimension first_one n (dimension_tree d) → r ≡ dims_of first_one n name (Trees ds)
one_is n name [] d r h e k = absurd (omega (arith, h))
one_is n name (x ∷ []) d r h e k = k ∙ ap (λ (d : Dimension). dimension first_one n (dimension_tree d)) e
one_is n name (x ∷ (y ∷ ys)) d r h e k = absurd (omega (arith, h))

pub one_fits : (depth : ℕ) (ds : List Dimension) (d : Dimension) → length ds ≡ 1 → d ≡ get_or ds 0 d → DimensionsFit depth (Trees ds) → DimensionFits depth (dimension_tree d)
one_fits depth [] d h e f = absurd (omega (arith, h))
one_fits depth (x ∷ xs) d h e f = let P : Dimension → Type 0 = λ d. DimensionFits depth (dimension_tree d) in subst P (sym e) f.0

pub two_are : (n : Space) (name : ℕ) (ds : List Dimension) (a b : Dimension) (r : Dimensions) → 2 ≤ length ds → a ≡ get_or ds 0 a → b ≡ get_or ds 1 b
    → r ≡ row_dims first_one name (dimension first_one n (dimension_tree a)) (dimension first_one n (dimension_tree b)) → r ≡ dims_of first_one n name (Trees ds)
two_are n name [] a b r h e f k = absurd (omega (arith, h))
two_are n name (x ∷ []) a b r h e f k = absurd (omega (arith, h))
two_are n name (x ∷ (y ∷ ys)) a b r h e f k =
    k ∙ ap (λ (a : Dimension). row_dims first_one name (dimension first_one n (dimension_tree a)) (dimension first_one n (dimension_tree b))) e
    ∙ ap (λ (b : Dimension). row_dims first_one name (dimension first_one n (dimension_tree x)) (dimension first_one n (dimension_tree b))) f

pub two_fit : (depth : ℕ) (ds : List Dimension) (a b : Dimension) → 2 ≤ length ds → a ≡ get_or ds 0 a → b ≡ get_or ds 1 b → DimensionsFit depth (Trees ds)
    → DimensionFits depth (dimension_tree a) × DimensionFits depth (dimension_tree b)
two_fit depth [] a b h e f k = absurd (omega (arith, h))
two_fit depth (x ∷ []) a b h e f k = absurd (omega (arith, h))
two_fit depth (x ∷ (y ∷ ys)) a b h e f k =
    let P : Dimension → Type 0 = λ d. DimensionFits depth (dimension_tree d) in
    (subst P (sym e) k.0, subst P (sym f) k.1.0)

-- ---- initial values

pub number_is : (kind : Option Vector) (n : ℕ) (p x : Value) → n ≡ initial first_one kind p → p ≡ x → n ≡ initial first_one kind x
number_is kind n p x h e = h ∙ ap (λ (p : Value). initial first_one kind p) e

pub fault_is : (name : ℕ) (d : Dims) (kind : Option Vector) (f : Option Fault) (p x : Value) → f ≡ first_faults first_one name d kind p → p ≡ x → f ≡ first_faults first_one name d kind x
fault_is name d kind f p x h e = h ∙ ap (λ (p : Value). first_faults first_one name d kind p) e
