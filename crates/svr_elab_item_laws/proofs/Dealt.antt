-- The members of a distribution stand where their parts do (IEEE 1800-2017, 18.5.4).
use Rattle.std.proofs.Common.{◌≡◌, ◌≤◌, ◌+◌, ℕ, max, Bool, true, false, ◌||◌, List, [], ◌∷◌, ◌++◌, Option, None, Some, option_map, refl, ap, ◌∙◌, arith}
use Rattle.svr_limits.specs.declared.limit.TheConstants.{LOOP_LIMIT}
use Rattle.svr_operator.specs.declared.Share.{Share}
use Rattle.svr_refusal.specs.declared.Refusal.TheVariants as refusal
use Rattle.svr_tree.specs.ExprTree as raw
use Rattle.svr_tree.specs.ExprTree.{ExprTree, RangeTree, BoundTree}
use Rattle.svr_tree.specs.ExprGrammar.{range_height, bound_height}
use Rattle.svr_tree.specs.ItemTree.{DistItemTree}
use Rattle.svr_tree.specs.ItemGrammar.{weight_height, dist_items_height}
use Rattle.svr_typed.specs.declared.Prop.{Prop}
use Rattle.svr_typed.specs.declared.TVar.{TVar}
use Rattle.svr_typed.specs.ExprTerm as term
use Rattle.svr_typed.specs.ExprTerm.{ExprTerm, RangeTerm, BoundTerm}
use Rattle.svr_typed.specs.ItemTerm.{DistTerm}
use Rattle.svr_eval.specs.Typed.{RangeIsTyped, BoundIsTyped}
use Rattle.svr_eval.specs.Holds.{WeightIsTyped, MembersAreTyped}
use Rattle.svr_design.specs.Mentions.{is_cyclic_one, mentions, range_mentions, bound_mentions, weight_mentions, dist_mentions}
use Rattle.svr_design.specs.Constraints.{BoundStands, WeightStands, DealtRange, AreDealt}
use Rattle.svr_elab_fault.specs.declared.Fault.{Fault}
use Rattle.svr_elab_fault.specs.Refusals.{first_one}
use Rattle.svr_elab_names.specs.Names.{Space}
use Rattle.svr_elab_part.specs.declared.part.Shape.{Shape}
use Rattle.svr_elab_part.specs.declared.part.Reads.{Reads}
use Rattle.svr_elab_part.specs.Fits.{RangeFits, BoundFits}
use Rattle.svr_elab_part.specs.Elab as expr
use Rattle.svr_elab_part.specs.Elab.{Elab, RangeElab, BoundElab}
use Rattle.svr_elab_part.specs.Shapes.{both_known, and_more, is_open}
use Rattle.svr_elab_part.proofs.Valued.{none_left, none_right, not_when}
use Rattle.svr_elab_part.proofs.Looked.{OptionIs}
use Rattle.svr_elab_item.specs.Fits.{WeightFits, DistItemsFit}
use Rattle.svr_elab_item.specs.Items as spec
use Rattle.svr_elab_item.specs.Items.{DistElab}
use Rattle.svr_elab_item_laws.specs.Lawful.{IsPlace}
use Rattle.svr_elab_item_laws.proofs.Places.{Valued, value_is}

less : (d a b m : ℕ) → d + max a b ≤ m → d + a ≤ m
less d a b m h = omega (arith, h)

less_right : (d a b m : ℕ) → d + max a b ≤ m → d + b ≤ m
less_right d a b m h = omega (arith, h)

first_low : (d a b c m : ℕ) → d + max (max a b) c ≤ m → d + a ≤ m
first_low d a b c m h = omega (arith, h)

second_low : (d a b c m : ℕ) → d + max (max a b) c ≤ m → d + b ≤ m
second_low d a b c m h = omega (arith, h)

third_low : (d a b c m : ℕ) → d + max (max a b) c ≤ m → d + c ≤ m
third_low d a b c m h = omega (arith, h)

pub ors : (a b c d : Bool) → a ≡ b → c ≡ d → (a || c) ≡ (b || d)
ors a b c d h k = ap (λ (x : Bool). x || c) h ∙ ap (λ (x : Bool). b || x) k

or_none : (a b : Bool) → (a || (b || false)) ≡ (a || b)
or_none true b = refl
or_none false true = refl
or_none false false = refl

module _ (ps : List Prop) (vs : List TVar) where
  abbrev BoundIs : ℕ → Bool → BoundTerm → Type 0
  BoundIs depth c b = BoundStands ps vs depth b × BoundIsTyped b × (bound_mentions (is_cyclic_one ps) (is_cyclic_one ps) b ≡ c)

  abbrev RangeIs : ℕ → Bool → RangeTerm → Type 0
  RangeIs depth c r = DealtRange ps vs depth r × RangeIsTyped r × (range_mentions (is_cyclic_one ps) (is_cyclic_one ps) r ≡ c)

  abbrev DistMember : ℕ → Bool → DistTerm → Type 0
  DistMember depth c d =
      DealtRange ps vs depth d.range × RangeIsTyped d.range × WeightStands ps vs depth d.weight × WeightIsTyped d.weight
      × ((range_mentions (is_cyclic_one ps) (is_cyclic_one ps) d.range || weight_mentions (is_cyclic_one ps) (is_cyclic_one ps) d.weight) ≡ c)

  -- members that stand, and read something cyclic just where c is true
  abbrev pub Dealt : ℕ → Bool → List DistTerm → Type 0
  Dealt depth c ds = AreDealt ps vs depth ds × MembersAreTyped ds × (dist_mentions (is_cyclic_one ps) (is_cyclic_one ps) ds ≡ c)

  -- ---- forms

  value_bound : (depth : ℕ) (r : Reads) (s : Option Shape) (t : Option ExprTerm) → OptionIs (Valued ps vs depth r s) t → OptionIs (BoundIs depth r.cyclic) (option_map term.value t)
  value_bound depth r s None h = tt
  value_bound depth r s (Some t) h = (h.stands, h.typed, h.told.cyclic)

  value_range : (depth : ℕ) (r : Reads) (s : Option Shape) (t : Option ExprTerm) → OptionIs (Valued ps vs depth r s) t → OptionIs (RangeIs depth r.cyclic) (option_map term.one t)
  value_range depth r s None h = tt
  value_range depth r s (Some t) h = (h.stands, h.typed, h.told.cyclic)

  span_range : (depth : ℕ) (b c : Bool) (l g : Option BoundTerm) → OptionIs (BoundIs depth b) l → OptionIs (BoundIs depth c) g → OptionIs (RangeIs depth (b || c)) (both_known term.span l g)
  span_range depth b c None g h k = tt
  span_range depth b c (Some l) None h k = tt
  span_range depth b c (Some l) (Some g) h k =
      ((h.0, k.0), (h.1, k.1), ors (bound_mentions (is_cyclic_one ps) (is_cyclic_one ps) l) b (bound_mentions (is_cyclic_one ps) (is_cyclic_one ps) g) c h.2 k.2)

  unweighed : (depth : ℕ) (b : Bool) (r : Option RangeTerm) → OptionIs (RangeIs depth b) r
      → OptionIs (DistMember depth (b || false)) (option_map (λ r. let d : DistTerm = record { range = r; weight = None } in d) r)
  unweighed depth b None h = tt
  unweighed depth b (Some r) h = (h.0, h.1, tt, tt, ap (λ (x : Bool). x || false) h.2)

  weighed : (depth : ℕ) (b : Bool) (share : Share) (reads : Reads) (s : Option Shape) (r : Option RangeTerm) (t : Option ExprTerm) → OptionIs (RangeIs depth b) r → OptionIs (Valued ps vs depth reads s) t → is_open reads ≡ false
      → OptionIs (DistMember depth (b || reads.cyclic)) (both_known (λ r t. let d : DistTerm = record { range = r; weight = Some (share, t) } in d) r t)
  weighed depth b share reads s None t h k o = tt
  weighed depth b share reads s (Some r) None h k o = tt
  weighed depth b share reads s (Some r) (Some t) h k o =
      (h.0, h.1, (k.stands, k.told.opened ∙ o), k.typed, ors (range_mentions (is_cyclic_one ps) (is_cyclic_one ps) r) b (mentions (is_cyclic_one ps) (is_cyclic_one ps) t) reads.cyclic h.2 k.told.cyclic)

  -- ---- lists

  one_more : (depth : ℕ) (b c : Bool) (ds : List DistTerm) (d : DistTerm) → Dealt depth b ds → DistMember depth c d → Dealt depth (b || c) (ds ++ d ∷ [])
  one_more depth b c [] d h k = (
    (k.0, k.2, tt),
    (k.1, k.3, tt),
    or_none (range_mentions (is_cyclic_one ps) (is_cyclic_one ps) d.range) (weight_mentions (is_cyclic_one ps) (is_cyclic_one ps) d.weight) ∙ (k.4 ∙ ap (λ (x : Bool). x || c) h.2),
  )
  one_more depth b c (e ∷ ds) d h k =
      let a : Bool = range_mentions (is_cyclic_one ps) (is_cyclic_one ps) e.range in
      let w : Bool = weight_mentions (is_cyclic_one ps) (is_cyclic_one ps) e.weight in
      let o : Bool = dist_mentions (is_cyclic_one ps) (is_cyclic_one ps) ds in
      let rest : Dealt depth (o || c) (ds ++ d ∷ []) = one_more depth o c ds d (h.0.2, h.1.2, refl) k in (
        (h.0.0, h.0.1, rest.0),
        (h.1.0, h.1.1, rest.1),
        ap (λ (x : Bool). a || (w || x)) rest.2 ∙ (shift a w o c ∙ ap (λ (x : Bool). x || c) h.2),
      )
    where
      shift : (a w o c : Bool) → (a || (w || (o || c))) ≡ ((a || (w || o)) || c)
      shift true w o c = refl
      shift false true o c = refl
      shift false false o c = refl

  and_dealt : (depth : ℕ) (b c : Bool) (ds : Option (List DistTerm)) (d : Option DistTerm) → OptionIs (Dealt depth b) ds → OptionIs (DistMember depth c) d → OptionIs (Dealt depth (b || c)) (and_more ds d)
  and_dealt depth b c None d h k = tt
  and_dealt depth b c (Some ds) None h k = tt
  and_dealt depth b c (Some ds) (Some d) h k = one_more depth b c ds d h k

  -- ---- the whole

  bound_is : (depth : ℕ) (n : Space) → IsPlace ps vs depth n → (b : BoundTree) → BoundFits b → depth + bound_height b ≤ LOOP_LIMIT → (expr.bound first_one n b).faults ≡ None
      → OptionIs (BoundIs depth (expr.bound first_one n b).reads.cyclic) (expr.bound first_one n b).tree
  bound_is depth n m (raw.value e) l b f =
      let x : Elab (Option Fault) = expr.elab first_one n e in value_bound depth x.reads x.shape x.tree (value_is ps vs depth n m e l b f)
  bound_is depth n m raw.dollar l b f = (tt, tt, refl)

  range_is : (depth : ℕ) (n : Space) → IsPlace ps vs depth n → (r : RangeTree) → RangeFits r → depth + range_height r ≤ LOOP_LIMIT → (spec.dist_range first_one n r).faults ≡ None
      → OptionIs (RangeIs depth (spec.dist_range first_one n r).reads.cyclic) (spec.dist_range first_one n r).tree
  range_is depth n m (raw.one e) l b f = let x : Elab (Option Fault) = expr.elab first_one n e in value_range depth x.reads x.shape x.tree (value_is ps vs depth n m e l b f)
  range_is depth n m (raw.span g h) l b f =
      let x : BoundElab (Option Fault) = expr.bound first_one n g in
      let y : BoundElab (Option Fault) = expr.bound first_one n h in
      span_range depth x.reads.cyclic y.reads.cyclic x.tree y.tree (bound_is depth n m g l.0 (less depth (bound_height g) (bound_height h) LOOP_LIMIT b) (none_left x.faults y.faults f))
      (bound_is depth n m h l.1 (less_right depth (bound_height g) (bound_height h) LOOP_LIMIT b) (none_right x.faults y.faults f))

  member_is : (depth : ℕ) (n : Space) → IsPlace ps vs depth n → (r : RangeElab (Option Fault)) (w : Option (Share × ExprTree)) → WeightFits w → depth + weight_height w ≤ LOOP_LIMIT → OptionIs (RangeIs depth r.reads.cyclic) r.tree
      → spec.weight_faults first_one (spec.weight_at first_one n w) ≡ None
      → OptionIs (DistMember depth (r.reads.cyclic || spec.weight_cyclic first_one (spec.weight_at first_one n w))) (spec.dist_member_tree first_one r (spec.weight_at first_one n w))
  member_is depth n m r None l b h f = unweighed depth r.reads.cyclic r.tree h
  member_is depth n m r (Some w) l b h f =
      let x : Elab (Option Fault) = expr.value first_one n w.1 in
      weighed depth r.reads.cyclic w.0 x.reads x.shape r.tree x.tree h (value_is ps vs depth n m w.1 l b (none_left x.faults _ f)) (not_when (is_open x.reads) x.at refusal.StateNeeded (none_right x.faults _ f))

  pub dealt : (depth : ℕ) (n : Space) → IsPlace ps vs depth n → (ds : List DistItemTree) (start : DistElab (Option Fault)) → (start.faults ≡ None → OptionIs (Dealt depth start.cyclic) start.tree) → DistItemsFit ds
      → depth + dist_items_height ds ≤ LOOP_LIMIT → (spec.dist_items first_one n start ds).faults ≡ None
      → OptionIs (Dealt depth (spec.dist_items first_one n start ds).cyclic) (spec.dist_items first_one n start ds).tree
  dealt depth n m [] start k l b f = k f
  dealt depth n m (d ∷ ds) start k l b f =
      let r : RangeElab (Option Fault) = spec.dist_range first_one n d.range in
      let w : Option (Share × Elab (Option Fault)) = spec.weight_at first_one n d.weight in
      dealt depth n m ds (spec.and_dist first_one start r w)
      (λ g. and_dealt depth start.cyclic (r.reads.cyclic || spec.weight_cyclic first_one w) start.tree (spec.dist_member_tree first_one r w) (k (none_left start.faults _ g))
      (member_is depth n m r d.weight l.1 (second_low depth (range_height d.range) (weight_height d.weight) (dist_items_height ds) LOOP_LIMIT b)
      (range_is depth n m d.range l.0 (first_low depth (range_height d.range) (weight_height d.weight) (dist_items_height ds) LOOP_LIMIT b) (none_left r.faults _ (none_right start.faults _ g)))
      (none_right r.faults _ (none_right start.faults _ g)))) l.2 (third_low depth (range_height d.range) (weight_height d.weight) (dist_items_height ds) LOOP_LIMIT b) f
