-- What may be an array stands as a member, and as the target of `disable soft`.
use Rattle.std.proofs.Common.{◌≡◌, ◌≤◌, ◌+◌, ℕ, Bool, true, false, not, ◌&&◌, List, Option, None, Some, option_map, refl, sym, ap, subst, ◌∙◌, inl, inr}
use Rattle.std.specs.Prelude.{slice_get}
use Rattle.svr_limits.specs.declared.limit.TheConstants.{LOOP_LIMIT}
use Rattle.svr_tree.specs.ExprTree.{ExprTree}
use Rattle.svr_tree.specs.ExprGrammar.{expr_height}
use Rattle.svr_typed.specs.declared.Prop.{Prop}
use Rattle.svr_typed.specs.declared.TVar.{TVar}
use Rattle.svr_typed.specs.ExprTerm as term
use Rattle.svr_typed.specs.ExprTerm.{ExprTerm, NodeTerm, typed}
use Rattle.svr_eval.specs.Typed.{IsTyped}
use Rattle.svr_design.specs.Types.{ArrayIs}
use Rattle.svr_design.specs.Mentions.{is_cyclic_one}
use Rattle.svr_design.specs.Constraints.{Stands, MemberStands, IsNotCyclic, IsTarget}
use Rattle.svr_elab_fault.specs.declared.Fault.{Fault}
use Rattle.svr_elab_fault.specs.Refusals.{first_one}
use Rattle.svr_elab_names.specs.declared.Vector.{Vector}
use Rattle.svr_elab_names.specs.declared.Property.{Property}
use Rattle.svr_elab_names.specs.Names.{Space, is_array}
use Rattle.svr_elab_part.specs.declared.part.Shape.{Shape}
use Rattle.svr_elab_part.specs.declared.part.Reads.{Reads}
use Rattle.svr_elab_part.specs.declared.part.Extent.{Extent}
use Rattle.svr_elab_part.specs.declared.part.Extent.TheVariants as extent
use Rattle.svr_elab_part.specs.declared.part.Root.{Root}
use Rattle.svr_elab_part.specs.declared.part.Root.TheVariants as root
use Rattle.svr_elab_part.specs.Fits.{KindFits, LiteralsFit}
use Rattle.svr_elab_part.specs.Elab as expr
use Rattle.svr_elab_part.specs.Elab.{Elab}
use Rattle.svr_elab_part.specs.Shapes.{kind_shape, property_tree}
use Rattle.svr_elab_part.specs.Forms.{is_single, is_whole, is_refused, without_row}
use Rattle.svr_elab_part.proofs.Typed.{shape_of}
use Rattle.svr_elab_part.proofs.Looked.{OptionIs}
use Rattle.svr_elab_stand_laws.specs.Stand.{There}
use Rattle.svr_elab_item.specs.Items.{is_property, is_cyclic_root, is_target, is_no_target}
use Rattle.svr_elab_item_laws.specs.Lawful.{IsPlace}
use Rattle.svr_elab_item_laws.proofs.Roots.{true_false, false_true, Rooted, RootIs, WholeIs, PropOf, TargetNode, IfTarget, TreeRooted}
use Rattle.svr_elab_item_laws.proofs.Sole.{not_not, by_extent, as_value, no_row}
use Rattle.svr_elab_item_laws.proofs.Places.{Here, Fixed, declared, Valued, value_is, root_at}

still_single : (e : Extent) → is_single e ≡ true → is_single (without_row e) ≡ true
still_single extent.Single h = refl
still_single extent.Row h = absurd (false_true h)
still_single extent.Whole h = absurd (false_true h)

still_whole : (e : Extent) → is_whole e ≡ true → is_whole (without_row e) ≡ true
still_whole extent.Single h = absurd (false_true h)
still_whole extent.Row h = absurd (false_true h)
still_whole extent.Whole h = refl

both_hold : {A : Type 0} (P Q R : A → Type 0) (x : Option A) → ((x : A) → P x → Q x → R x) → OptionIs P x → OptionIs Q x → OptionIs R x
both_hold P Q R None f h k = tt
both_hold P Q R (Some x) f h k = f x h k

one_target : (r t : Bool) → (r ≡ true → ⊥) → (not r && not t) ≡ false → t ≡ true
one_target true t h k = absurd (h refl)
one_target false t h k = not_not t k

first_holds : (a b : Bool) → (a && b) ≡ true → a ≡ true
first_holds true b h = refl
first_holds false b h = absurd (false_true h)

second_holds : (a b : Bool) → (a && not b) ≡ true → b ≡ false
second_holds true true h = absurd (false_true h)
second_holds true false h = refl
second_holds false b h = absurd (false_true h)

module _ (ps : List Prop) (vs : List TVar) where
  -- ---- values as members

  member_stands : (depth : ℕ) (t : ExprTerm) → Stands ps vs depth t → MemberStands ps vs depth t
  member_stands depth (typed w s (term.number v every)) h = h
  member_stands depth (typed w s (term.prop p)) h = inl h
  member_stands depth (typed w s (term.element p i)) h = h
  member_stands depth (typed w s (term.cell p m i j)) h = h
  member_stands depth (typed w s (term.size p m)) h = h
  member_stands depth (typed w s (term.script v)) h = h
  member_stands depth (typed w s (term.loop_index k)) h = h
  member_stands depth (typed w s (term.reduce p f body)) h = h
  member_stands depth (typed w s (term.of_object o e)) h = h
  member_stands depth (typed w s (term.bit_select x i low)) h = h
  member_stands depth (typed w s (term.part_select x f l low)) h = h
  member_stands depth (typed w s (term.unary op x)) h = h
  member_stands depth (typed w s (term.binary op x y)) h = h
  member_stands depth (typed w s (term.choice t x y)) h = h
  member_stands depth (typed w s (term.inside x rs)) h = h
  member_stands depth (typed w s (term.join xs)) h = h
  member_stands depth (typed w s (term.copies n xs)) h = h
  member_stands depth (typed w s (term.sign z x)) h = h

  prop_cyclic : (r : Root) (q : ℕ) → is_cyclic_root r ≡ false → PropOf (Here ps vs) (Fixed ps vs) r q → is_cyclic_one ps q ≡ false
  prop_cyclic root.Nothing q c h = absurd h
  prop_cyclic root.Refused q c h = absurd h
  prop_cyclic root.Member q c h = absurd h
  prop_cyclic (root.Variable v) q c h = absurd h
  prop_cyclic (root.Field p o) q c h = ap (is_cyclic_one ps) h.0 ∙ ((declared ps vs p h.1).1 ∙ c)
  prop_cyclic (root.Object o n) q c h = absurd h

  not_cyclic : (r : Root) (bits : Bool) (index : Option ℕ) (t : ExprTerm) → is_cyclic_root r ≡ false → TreeRooted (Here ps vs) (Fixed ps vs) r bits index t → IsNotCyclic ps vs t
  not_cyclic r bits index (typed w s (term.number v every)) c h = tt
  not_cyclic r bits index (typed w s (term.prop p)) c h = prop_cyclic r p c h.0
  not_cyclic r bits index (typed w s (term.element p i)) c h = tt
  not_cyclic r bits index (typed w s (term.cell p m i j)) c h = tt
  not_cyclic r bits index (typed w s (term.size p m)) c h = tt
  not_cyclic r bits index (typed w s (term.script v)) c h = tt
  not_cyclic r bits index (typed w s (term.loop_index k)) c h = tt
  not_cyclic r bits index (typed w s (term.reduce p f body)) c h = tt
  not_cyclic r bits index (typed w s (term.of_object o e)) c h = tt
  not_cyclic r bits index (typed w s (term.bit_select x i low)) c h = tt
  not_cyclic r bits index (typed w s (term.part_select x f l low)) c h = tt
  not_cyclic r bits index (typed w s (term.unary op x)) c h = tt
  not_cyclic r bits index (typed w s (term.binary op x y)) c h = tt
  not_cyclic r bits index (typed w s (term.choice t x y)) c h = tt
  not_cyclic r bits index (typed w s (term.inside x rs)) c h = tt
  not_cyclic r bits index (typed w s (term.join xs)) c h = tt
  not_cyclic r bits index (typed w s (term.copies n xs)) c h = tt
  not_cyclic r bits index (typed w s (term.sign z x)) c h = tt

  -- a member of this shape, cyclic only where its root is
  pub record Member (depth : ℕ) (r : Root) (s : Option Shape) (t : ExprTerm) : Type 0 where
    pub typed : IsTyped t
    pub shape : s ≡ Some (shape_of t)
    pub stands : MemberStands ps vs depth t
    pub plain : is_cyclic_root r ≡ false → IsNotCyclic ps vs t

  -- ---- whole arrays

  array_is : (p : Property) (k : Vector) (q : Option Prop) → There p (Some k) q → is_array p.dims ≡ true → ArrayIs q k.kind.width k.kind.signed
  array_is p k None h a = absurd h
  array_is p k (Some q) h a = (h.array ∙ a, (h.width, h.signed))

  array_typed : (q : ℕ) (k : Vector) → KindFits (Some k) → IsTyped (typed k.kind.width k.kind.signed (term.prop q))
  array_typed q k h = (h.0, h.1, refl, refl, tt)

  array_member : (depth : ℕ) (p : Property) (kind : Option Vector) (o : Option ℕ) → Here ps vs p → There p kind (slice_get ps p.number) → KindFits kind → is_array p.dims ≡ true
      → OptionIs (Member depth (root.Field p o) (option_map kind_shape kind)) (property_tree None kind (Some (term.prop p.number)))
  array_member depth p None o q h k a = tt
  array_member depth p (Some kind) o q h k a = record {
    typed = array_typed p.number kind k;
    shape = refl;
    stands = inr (array_is p kind (slice_get ps p.number) h a);
    plain = λ c. (declared ps vs p q).1 ∙ c;
  }

  whole_member : (depth : ℕ) (r : Root) (s : Option Shape) (t : Option ExprTerm) (rs : Reads) → RootIs (Here ps vs) (Fixed ps vs) r → WholeIs (Here ps vs) (Fixed ps vs) r s t rs → OptionIs (Member depth r s) t
  whole_member depth root.Nothing s t rs q h = absurd h
  whole_member depth root.Refused s t rs q h = absurd h
  whole_member depth root.Member s t rs q h = absurd h
  whole_member depth (root.Variable v) s t rs q h = absurd h
  whole_member depth (root.Field p o) s t rs q h =
      let P : Option Shape → Type 0 = λ s. OptionIs (Member depth (root.Field p o) s) t in
      let R : Option ExprTerm → Type 0 = λ t. OptionIs (Member depth (root.Field p o) (option_map kind_shape p.kind)) t in
      subst P (sym h.1) (subst R (sym h.2) (array_member depth p p.kind o q.0 q.0.0 q.0.1.0 h.0))
  whole_member depth (root.Object o n) s t rs q h = absurd h

  -- ---- members of `unique`

  pub member_is : (depth : ℕ) (n : Space) → IsPlace ps vs depth n → (e : ExprTree) → LiteralsFit e → depth + expr_height e ≤ LOOP_LIMIT → (expr.sole first_one (expr.elab first_one n e)).faults ≡ None
      → OptionIs (Member depth (expr.sole first_one (expr.elab first_one n e)).form.root (expr.elab first_one n e).shape) (expr.elab first_one n e).tree
  member_is depth n m e l b f =
      let x : Elab (Option Fault) = expr.elab first_one n e in
      let y : Elab (Option Fault) = expr.sole first_one x in
      let r : Rooted (Here ps vs) (Fixed ps vs) y = root_at ps vs depth n m e in
      by_extent x.form.extent (no_row x f)
      (λ s. both_hold (Valued ps vs depth x.reads x.shape) (TreeRooted (Here ps vs) (Fixed ps vs) y.form.root y.form.bits y.form.random_index) (Member depth y.form.root x.shape) x.tree
      (λ t v k. record { typed = v.typed; shape = v.shape; stands = member_stands depth t v.stands; plain = λ c. not_cyclic y.form.root y.form.bits y.form.random_index t c k })
      (value_is ps vs depth n m e l b (as_value x f s)) (r.single (still_single x.form.extent s) f))
      (λ w. whole_member depth y.form.root x.shape x.tree x.reads r.rooted (r.whole (still_whole x.form.extent w)))

  -- ---- targets

  abbrev pub Target : ℕ → ExprTerm → Type 0
  Target depth t = IsTyped t × IsTarget ps vs depth t

  target_stands : (depth : ℕ) (index : Option ℕ) (w : ℕ) (s : Bool) (n : NodeTerm) → index ≡ None → Stands ps vs depth (typed w s n) → TargetNode (Here ps vs) (Fixed ps vs) index n → IsTarget ps vs depth (typed w s n)
  target_stands depth index w s (term.number v every) e h k = absurd k
  target_stands depth index w s (term.prop p) e h k = inl h
  target_stands depth index w s (term.element p i) e h k = (h, k e)
  target_stands depth index w s (term.cell p m i j) e h k = (h, k.0 e, k.1 e)
  target_stands depth index w s (term.size p m) e h k = absurd k
  target_stands depth index w s (term.script v) e h k = absurd k
  target_stands depth index w s (term.loop_index l) e h k = absurd k
  target_stands depth index w s (term.reduce p f body) e h k = absurd k
  target_stands depth index w s (term.of_object o x) e h k = absurd k
  target_stands depth index w s (term.bit_select x i low) e h k = absurd k
  target_stands depth index w s (term.part_select x f l low) e h k = absurd k
  target_stands depth index w s (term.unary op x) e h k = absurd k
  target_stands depth index w s (term.binary op x y) e h k = absurd k
  target_stands depth index w s (term.choice t x y) e h k = absurd k
  target_stands depth index w s (term.inside x rs) e h k = absurd k
  target_stands depth index w s (term.join xs) e h k = absurd k
  target_stands depth index w s (term.copies n xs) e h k = absurd k
  target_stands depth index w s (term.sign z x) e h k = absurd k

  field_target : (r : Root) (bits : Bool) (index : Option ℕ) (n : NodeTerm) → is_property r ≡ true → bits ≡ false → IfTarget (Here ps vs) (Fixed ps vs) bits r index n → TargetNode (Here ps vs) (Fixed ps vs) index n
  field_target r true index n p b h = absurd (true_false b)
  field_target root.Nothing false index n p b h = absurd (false_true p)
  field_target root.Refused false index n p b h = absurd (false_true p)
  field_target root.Member false index n p b h = absurd (false_true p)
  field_target (root.Variable v) false index n p b h = absurd (false_true p)
  field_target (root.Field q o) false index n p b h = h
  field_target (root.Object o c) false index n p b h = absurd (false_true p)

  value_target : (depth : ℕ) (r : Root) (bits : Bool) (index : Option ℕ) (rs : Reads) (s : Option Shape) (t : ExprTerm) → is_property r ≡ true → bits ≡ false → index ≡ None → Valued ps vs depth rs s t
      → TreeRooted (Here ps vs) (Fixed ps vs) r bits index t → Target depth t
  value_target depth r bits index rs s (typed w z n) p b e v h = (v.typed, target_stands depth index w z n e v.stands (field_target r bits index n p b h.1))

  array_target : (depth : ℕ) (p : Property) (kind : Option Vector) → There p kind (slice_get ps p.number) → KindFits kind → is_array p.dims ≡ true
      → OptionIs (Target depth) (property_tree None kind (Some (term.prop p.number)))
  array_target depth p None h k a = tt
  array_target depth p (Some kind) h k a = (array_typed p.number kind k, inr (array_is p kind (slice_get ps p.number) h a))

  whole_target : (depth : ℕ) (r : Root) (s : Option Shape) (t : Option ExprTerm) (rs : Reads) → RootIs (Here ps vs) (Fixed ps vs) r → WholeIs (Here ps vs) (Fixed ps vs) r s t rs → OptionIs (Target depth) t
  whole_target depth root.Nothing s t rs q h = absurd h
  whole_target depth root.Refused s t rs q h = absurd h
  whole_target depth root.Member s t rs q h = absurd h
  whole_target depth (root.Variable v) s t rs q h = absurd h
  whole_target depth (root.Field p o) s t rs q h =
      let R : Option ExprTerm → Type 0 = OptionIs (Target depth) in subst R (sym h.2) (array_target depth p p.kind q.0.0 q.0.1.0 h.0)
  whole_target depth (root.Object o n) s t rs q h = absurd h

  pub target_is : (depth : ℕ) (n : Space) → IsPlace ps vs depth n → (e : ExprTree) → LiteralsFit e → depth + expr_height e ≤ LOOP_LIMIT → (expr.sole first_one (expr.elab first_one n e)).faults ≡ None
      → is_no_target (expr.sole first_one (expr.elab first_one n e)) ≡ false → (expr.sole first_one (expr.elab first_one n e)).form.random_index ≡ None → OptionIs (Target depth) (expr.elab first_one n e).tree
  target_is depth n m e l b f a i =
      let x : Elab (Option Fault) = expr.elab first_one n e in
      let y : Elab (Option Fault) = expr.sole first_one x in
      let r : Rooted (Here ps vs) (Fixed ps vs) y = root_at ps vs depth n m e in
      let target : is_target y ≡ true = one_target (is_refused y.form.root) (is_target y) (λ g. r.refused g f) a in
      by_extent x.form.extent (no_row x f)
      (λ s. both_hold (Valued ps vs depth x.reads x.shape) (TreeRooted (Here ps vs) (Fixed ps vs) y.form.root y.form.bits y.form.random_index) (Target depth) x.tree
      (λ t v k. value_target depth y.form.root y.form.bits y.form.random_index x.reads x.shape t (first_holds (is_property y.form.root) (not y.form.bits) target) (second_holds (is_property y.form.root) y.form.bits target) i v k)
      (value_is ps vs depth n m e l b (as_value x f s)) (r.single (still_single x.form.extent s) f))
      (λ w. whole_target depth y.form.root x.shape x.tree x.reads r.rooted (r.whole (still_whole x.form.extent w)))
