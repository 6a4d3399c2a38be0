-- Statements other than calls can be executed, and keep a world fitting its design.
use Rattle.std.proofs.Common.{◌≡◌, ◌<◌, ◌≤◌, ◌^◌, ℕ, zero, suc, ℤ, pos, negsuc, refl, sym, ◌∙◌, ap, subst, List, length, replicate, Option, None, Some, arith}
use Rattle.std.specs.Prelude.{slice_get, slice_index, slice_set}
use Rattle.std.specs.List.{All}
use Rattle.std.proofs.Math.Nat.{mod-lt}
use Rattle.std.proofs.lemmas.Nat.{pow_pos}
use Rattle.std.proofs.lemmas.List.{length-replicate}
use Rattle.std.proofs.lemmas.List.Elements.{All-nil, All-cons, All-replicate}
use Rattle.svr_limits.specs.declared.limit.TheConstants.{ELEMENT_LIMIT}
use Rattle.svr_num.specs.Num.{cut_of, read_of}
use Rattle.svr_typed.specs.declared.NumType.{NumType}
use Rattle.svr_typed.specs.declared.ArrayKind.{ArrayKind}
use Rattle.svr_typed.specs.declared.ArrayKind.TheVariants as array
use Rattle.svr_typed.specs.declared.Prop.{Prop}
use Rattle.svr_typed.specs.declared.TVar.{TVar}
use Rattle.svr_typed.specs.declared.VarKind.{VarKind}
use Rattle.svr_typed.specs.declared.VarKind.TheVariants as var_kind
use Rattle.svr_typed.specs.ExprTerm.{ExprTerm, ExprTerms, no_exprs, more_exprs}
use Rattle.svr_typed.specs.StmtTerm as stmt
use Rattle.svr_typed.specs.StmtTerm.{StmtTerm, DesignTerm}
use Rattle.svr_eval.specs.Value.{size_of, sign_of}
use Rattle.svr_world.specs.World.{WorldTerm, IsMade, object_of, numbers_of, new_object, with_number}
use Rattle.svr_world.specs.Fits.{IsSize, IsSmall, FirstFits, FitsProp, FitsClass}
use Rattle.svr_world.proofs.Fitting.{new_object_fits, number_fits, prop_fits}
use Rattle.svr_script.specs.Numbered.{alone_in, assigned}
use Rattle.svr_script.specs.Statement.{flat_of_var, kind_width, width_of_var, width_of_prop, written, written_at, all_assigned, is_on, effect}
use Rattle.svr_effect.specs.Stands.{Stands, IsWide, IndexCanBe, many}
use Rattle.svr_design.specs.Types.{HasSize, IsKind, IsProp}
use Rattle.svr_design.specs.Statements as design
use Rattle.svr_design.specs.Statements.{object_props, kind_class, IsNumber, IsObject, IsPlain, PlainKind, IsPlace, IsDynamic, PatternFits, IsPattern, IsAnswer, Made, Follows, StmtStands, Value}
use Rattle.svr_design.specs.Lawful.{VariableStands, IsLawful}
use Rattle.svr_run_laws.proofs.Found.{mapped_at, HoldsNumber}
use Rattle.svr_run_laws.proofs.Typing.{small_is, first_is}
use Rattle.svr_run_laws.proofs.Classes.{all_at, all_to, every_at, flat_is, HoldsObjects, holds_objects, same_class}
use Rattle.svr_run_laws.proofs.Fit.{IsFit}
use Rattle.svr_run_laws.proofs.Computed.{computed, all_computed}
use Rattle.svr_run_laws.proofs.Kept.{Keeps, nothing_changed, object_kept, numbers_kept, rand_mode_kept, block_mode_kept, script_kept}

number_kind : (k : VarKind) → kind_class k ≡ None → (t : NumType) × (k ≡ var_kind.Number t)
number_kind (var_kind.Number t) h = (t, refl)
number_kind (var_kind.Object c) h = absurd (cc)

holds_number : (o : Option TVar) → IsNumber o → (k : NumType) × HoldsNumber o k
holds_number None h = absurd h
holds_number (Some x) h = let k = number_kind x.kind h in (k.0, (x, refl, k.1))

plain_kind : (k : VarKind) → PlainKind k → kind_class k ≡ None
plain_kind (var_kind.Number t) h = refl
plain_kind (var_kind.Object c) h = absurd h

plain_number : (o : Option TVar) → IsPlain o → IsNumber o
plain_number None h = absurd h
plain_number (Some x) h = plain_kind x.kind h

-- ---- places that statements name

place_there : (d : DesignTerm) (o : Option Prop) (i : Option ExprTerm) → IsPlace d o i → (t : Prop) × (o ≡ Some t) × IsPlace d (Some t) i
place_there d None i h = absurd h
place_there d (Some t) i h = (t, refl, h)

dynamic_there : (d : DesignTerm) (o : Option Prop) → IsDynamic d o → (t : Prop) × (o ≡ Some t) × (t.array ≡ array.Dynamic)
dynamic_there d None h = absurd h
dynamic_there d (Some t) h = (t, refl, h)

pattern_there : (d : DesignTerm) (n : ℕ) (o : Option Prop) → IsPattern d n o → (t : Prop) × (o ≡ Some t) × PatternFits d n t.inner t.array
pattern_there d n None h = absurd h
pattern_there d n (Some t) h = (t, refl, h)

many_same : (d : DesignTerm) (es : ExprTerms) → many es ≡ design.many d es
many_same d no_exprs = refl
many_same d (more_exprs e es) = let rest = many_same d es in omega (arith, rest)

pattern_short : (d : DesignTerm) (n m : ℕ) (a : ArrayKind) → HasSize a → PatternFits d n m a → n ≤ 2048
pattern_short d n m array.Scalar s h = absurd h
pattern_short d n m (array.Fixed k) s h = let few : k ≤ 2048 = s.1 in omega (arith, few, h.0)
pattern_short d n m array.Dynamic s h = h

pattern_size : (d : DesignTerm) (n m : ℕ) (a : ArrayKind) → PatternFits d n m a → IsSize a n
pattern_size d n m array.Scalar h = absurd h
pattern_size d n m (array.Fixed k) h = h.0
pattern_size d n m array.Dynamic h = tt

dynamic_size : (a : ArrayKind) (n : ℕ) → a ≡ array.Dynamic → IsSize a n
dynamic_size a n e = subst (λ (b : ArrayKind). IsSize b n) (sym e) tt

-- ---- computed values fit

cut_below : (w n : ℕ) → cut_of w n < 2 ^ w
cut_below w n = mod-lt n (pow_pos w)

assigned_long : (w : WorldTerm) (width : ℕ) (es : ExprTerms) → length (all_assigned w width es) ≡ many es
assigned_long w width no_exprs = refl
assigned_long w width (more_exprs e es) = ap suc (assigned_long w width es)

assigned_below : (w : WorldTerm) (width : ℕ) (es : ExprTerms) → All (λ v. v < 2 ^ width) (all_assigned w width es)
assigned_below w width no_exprs = All-nil (λ v. v < 2 ^ width)
assigned_below w width (more_exprs e es) = All-cons (λ v. v < 2 ^ width) (assigned w width e) (all_assigned w width es) (cut_below width _) (assigned_below w width es)

bit_below : (w : ℕ) → 1 ≤ w → 1 < 2 ^ w
bit_below zero h = absurd (omega (arith, h))
bit_below (suc w) h = let some : 0 < 2 ^ w = pow_pos w in omega (arith, some)

module _ (d : DesignTerm) (l : IsLawful d) where
  -- ---- widths

  -- a variable of numbers, and its width
  pub record IsNumberVar (v : ℕ) : Type 0 where
    pub kind : NumType
    pub is : IsKind d.enums kind
    pub width : width_of_var d v ≡ kind.width

  pub number_var : (v : ℕ) → IsNumber (slice_get d.vars v) → IsNumberVar v
  number_var v h =
      let x = holds_number (slice_get d.vars v) h in
      let stands : VariableStands d x.1.0.kind = every_at (λ (y : TVar). VariableStands d y.kind) d.vars v x.1.0 l.vars x.1.1 in
      record {
        kind = x.0;
        is = subst (VariableStands d) x.1.2 stands;
        width = mapped_at (λ (y : TVar). kind_width y.kind) 0 d.vars v x.1.0 x.1.1 ∙ ap kind_width x.1.2;
      }

  var_wide : (v : ℕ) → IsNumber (slice_get d.vars v) → IsWide (width_of_var d v)
  var_wide v h = let k = number_var v h in subst IsWide (sym k.width) (k.is.low, k.is.high)

  -- a property of an object
  pub record IsPropOf (o p : ℕ) (t : Prop) : Type 0 where
    pub at : slice_get (flat_of_var d o).props p ≡ Some t
    pub is : IsProp d.enums t
    pub width : width_of_prop d o p ≡ t.kind.width

  prop_of : (o p : ℕ) (t : Prop) → HoldsObjects d o → slice_get (object_props d o) p ≡ Some t → IsPropOf o p t
  prop_of o p t own at =
      let here : slice_get (flat_of_var d o).props p ≡ Some t = ap (λ f. slice_get f.props p) (sym (same_class d o own)) ∙ at in
      record {
        at = here;
        is = all_at (IsProp d.enums) (flat_of_var d o).props p t (flat_is d l _ own.less).props here;
        width = mapped_at (λ (y : Prop). y.kind.width) 0 (flat_of_var d o).props p t here;
      }

  prop_wide : (o p : ℕ) (t : Prop) → IsPropOf o p t → IsWide (width_of_prop d o p)
  prop_wide o p t h = subst IsWide (sym h.width) (h.is.kind.low, h.is.kind.high)

  -- ---- what a statement asks

  module _ (w : WorldTerm) (fit : IsFit d w) (made : List ℕ) (there : (o : ℕ) → Made made o → IsMade w o) where
    own : (o : ℕ) → IsObject d o → HoldsObjects d o
    own o h = holds_objects d l o h

    index_can : (t : Prop) (i : Option ExprTerm) → IsPlace d (Some t) i → IndexCanBe w i
    index_can t None h = tt
    index_can t (Some i) h = computed d l w fit i h.1

    pub stands : (x : StmtTerm) → StmtStands d x → Follows made x → Stands d w x
    stands (stmt.make o) h g =
        all_to (IsProp d.enums) (λ (t : Prop). IsSmall t.array) (small_is d.enums) (flat_of_var d o).props (flat_is d l _ (own o h).less).props
    stands (stmt.set_var v e) h g = (var_wide v h.0, computed d l w fit e h.1)
    stands (stmt.set_prop o p i e) h g =
        let t = place_there d (slice_get (object_props d o) p) i h.1 in
        (there o g.0, prop_wide o p t.0 (prop_of o p t.0 (own o h.0) t.1), index_can t.0 i t.2, computed d l w fit e h.2)
    stands (stmt.resize o p n) h g = (there o g, h.2)
    stands (stmt.pattern o p es) h g =
        let t = pattern_there d (design.many d es) (slice_get (object_props d o) p) h.1 in
        let q = prop_of o p t.0 (own o h.0) t.1 in (
          there o g.0,
          prop_wide o p t.0 q,
          subst (λ (n : ℕ). n ≤ ELEMENT_LIMIT) (sym (many_same d es)) (pattern_short d (design.many d es) t.0.inner t.0.array q.is.size t.2),
          all_computed d l w fit es h.2.0 h.2.1,
        )
    stands (stmt.rand_mode o p e) h g = (there o g.0, computed d l w fit e h.2)
    stands (stmt.constraint_mode o b e) h g = (there o g.0, computed d l w fit e h.2)
    stands (stmt.call c) h g = tt
    stands (stmt.repeat n s) h g = tt
    stands (stmt.list ss) h g = tt

    -- ---- what a statement leaves

    number_kept : (o p i v : ℕ) (t : Prop) → HoldsObjects d o → IsMade w o → IsPropOf o p t → v < 2 ^ width_of_prop d o p → Keeps d w (with_number w o p i v)
    number_kept o p i v t h is q less =
        numbers_kept d w fit o h.within is p t (slice_set (numbers_of (object_of w o) p) i v) q.at
        (number_fits t (numbers_of (object_of w o) p) i v (prop_fits (flat_of_var d o).props (object_of w o).values p t (fit.fits o is).values q.at) (subst (λ (n : ℕ). v < 2 ^ n) q.width less))

    written_at_kept : (o p v : ℕ) (z : ℤ) (t : Prop) → HoldsObjects d o → IsMade w o → IsPropOf o p t → v < 2 ^ width_of_prop d o p → Keeps d w (written_at w o p z v)
    written_at_kept o p v (pos i) t h is q less = number_kept o p i v t h is q less
    written_at_kept o p v (negsuc i) t h is q less = nothing_changed d w fit

    written_kept : (o p v : ℕ) (i : Option ExprTerm) (t : Prop) → HoldsObjects d o → IsMade w o → IsPropOf o p t → v < 2 ^ width_of_prop d o p → Keeps d w (written w o p i v)
    written_kept o p v None t h is q less = number_kept o p 0 v t h is q less
    written_kept o p v (Some i) t h is q less = written_at_kept o p v (read_of (sign_of i) (size_of i) (alone_in w i)) t h is q less

    zeros_fit : (t : Prop) (n : ℕ) → t.array ≡ array.Dynamic → n ≤ 2048 → FitsProp t (replicate n 0)
    zeros_fit t n dynamic few = record {
      size = dynamic_size t.array (length (replicate {A = ℕ} n 0)) dynamic;
      short = subst (λ (m : ℕ). m ≤ ELEMENT_LIMIT) (sym (length-replicate {A = ℕ} n 0)) few;
      within = All-replicate (λ v. v < 2 ^ t.kind.width) n 0 (pow_pos t.kind.width);
    }

    pattern_fits : (o p : ℕ) (t : Prop) (es : ExprTerms) → IsPropOf o p t → PatternFits d (design.many d es) t.inner t.array → FitsProp t (all_assigned w (width_of_prop d o p) es)
    pattern_fits o p t es q h =
        let long : length (all_assigned w (width_of_prop d o p) es) ≡ design.many d es = assigned_long w (width_of_prop d o p) es ∙ many_same d es in
        record {
          size = subst (IsSize t.array) (sym long) (pattern_size d (design.many d es) t.inner t.array h);
          short = subst (λ (m : ℕ). m ≤ ELEMENT_LIMIT) (sym long) (pattern_short d (design.many d es) t.inner t.array q.is.size h);
          within = subst (λ (n : ℕ). All (λ v. v < 2 ^ n) (all_assigned w (width_of_prop d o p) es)) q.width (assigned_below w (width_of_prop d o p) es);
        }

    pub new_fits : (o : ℕ) → HoldsObjects d o → FitsClass (flat_of_var d o) (new_object (slice_index w.declared o) (flat_of_var d o))
    new_fits o h =
        let flat = flat_is d l _ h.less in
        new_object_fits (slice_index w.declared o) (flat_of_var d o) (all_to (IsProp d.enums) (λ (t : Prop). IsSmall t.array) (small_is d.enums) (flat_of_var d o).props flat.props)
        (all_to (IsProp d.enums) FirstFits (first_is d.enums) (flat_of_var d o).props flat.props)

    pub effect_kept : (x : StmtTerm) → StmtStands d x → Follows made x → Keeps d w (effect d x w)
    effect_kept (stmt.make o) h g = object_kept d w fit o (own o h).within (new_object (slice_index w.declared o) (flat_of_var d o)) (new_fits o (own o h))
    effect_kept (stmt.set_var v e) h g = script_kept d w fit v (assigned w (width_of_var d v) e) (cut_below (width_of_var d v) _)
    effect_kept (stmt.set_prop o p i e) h g =
        let t = place_there d (slice_get (object_props d o) p) i h.1 in
        written_kept o p (assigned w (width_of_prop d o p) e) i t.0 (own o h.0) (there o g.0) (prop_of o p t.0 (own o h.0) t.1) (cut_below (width_of_prop d o p) _)
    effect_kept (stmt.resize o p n) h g =
        let t = dynamic_there d (slice_get (object_props d o) p) h.1 in
        numbers_kept d w fit o (own o h.0).within (there o g) p t.0 (replicate n 0) (prop_of o p t.0 (own o h.0) t.1).at (zeros_fit t.0 n t.2 h.2)
    effect_kept (stmt.pattern o p es) h g =
        let t = pattern_there d (design.many d es) (slice_get (object_props d o) p) h.1 in
        let q = prop_of o p t.0 (own o h.0) t.1 in
        numbers_kept d w fit o (own o h.0).within (there o g.0) p t.0 (all_assigned w (width_of_prop d o p) es) q.at (pattern_fits o p t.0 es q t.2)
    effect_kept (stmt.rand_mode o p e) h g = rand_mode_kept d w fit o (own o h.0).within (there o g.0) p (is_on w e)
    effect_kept (stmt.constraint_mode o b e) h g = block_mode_kept d w fit o (own o h.0).within (there o g.0) b (is_on w e)
    effect_kept (stmt.call c) h g = nothing_changed d w fit
    effect_kept (stmt.repeat n s) h g = nothing_changed d w fit
    effect_kept (stmt.list ss) h g = nothing_changed d w fit

  -- ---- the answer of a call

  pub answer_below : (v : ℕ) → IsPlain (slice_get d.vars v) → 1 < 2 ^ width_of_var d v
  answer_below v h =
      let k = number_var v (plain_number (slice_get d.vars v) h) in
      bit_below (width_of_var d v) (subst (λ (n : ℕ). 1 ≤ n) (sym k.width) k.is.low)
