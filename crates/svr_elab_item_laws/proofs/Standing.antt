-- Each form of a constraint item stands where its parts do.
use Rattle.std.proofs.Common.{◌≡◌, ◌≤◌, ◌+◌, ℕ, Bool, true, false, not, ◌&&◌, ◌||◌, List, [], ◌∷◌, ◌++◌, Option, None, Some, option_map, refl, sym, ap, subst, ◌∙◌, inl, inr, arith}
use Rattle.std.specs.Prelude.{⊤, ◌⊎◌, ◌==◌, if◌then◌else◌, slice_get}
use Rattle.std.proofs.lemmas.Bool.Decides.{nat_tests}
use Rattle.svr_operator.specs.declared.Rand.{Rand}
use Rattle.svr_operator.specs.declared.Rand.TheVariants as rand
use Rattle.svr_limits.specs.declared.limit.TheConstants.{LOOP_LIMIT}
use Rattle.svr_typed.specs.declared.Prop.{Prop}
use Rattle.svr_typed.specs.declared.TVar.{TVar}
use Rattle.svr_typed.specs.ExprTerm as term
use Rattle.svr_typed.specs.ExprTerm.{ExprTerm, typed, exprs_of}
use Rattle.svr_typed.specs.ItemTerm as item_term
use Rattle.svr_typed.specs.ItemTerm.{DistTerm, ItemTerm, ItemTerms, ElseTerm, items_of}
use Rattle.svr_eval.specs.Value.{size_of, sign_of}
use Rattle.svr_eval.specs.Typed.{IsTyped, AreTyped}
use Rattle.svr_eval.specs.Holds.{ItemIsTyped, ItemsAreTyped, ElseIsTyped}
use Rattle.svr_design.specs.Types.{HasSecond, IsFixed, ScalarIs}
use Rattle.svr_design.specs.Mentions as design
use Rattle.svr_design.specs.Mentions.{is_cyclic_one, reads_cyclic, dist_mentions}
use Rattle.svr_design.specs.Constraints.{MemberStands, IsNotCyclic, AreMembers, AreSolved, IsPlainRand, ItemStands, ItemsStand, ElseStands}
use Rattle.svr_elab_names.specs.declared.Vector.{Vector}
use Rattle.svr_elab_names.specs.declared.Dims.{Dims}
use Rattle.svr_elab_names.specs.declared.Dims.TheVariants as dims
use Rattle.svr_elab_names.specs.declared.Property.{Property}
use Rattle.svr_elab_names.specs.Names.{is_array, or_else}
use Rattle.svr_elab_part.specs.declared.part.Shape.{Shape}
use Rattle.svr_elab_part.specs.declared.part.Reads.{Reads}
use Rattle.svr_elab_part.specs.declared.part.Root.{Root}
use Rattle.svr_elab_part.specs.declared.part.Root.TheVariants as root
use Rattle.svr_elab_part.specs.Fits.{KindFits, DimsFit}
use Rattle.svr_elab_part.specs.Shapes.{both_known, and_more, inner_of, is_open, array_property, property_reads}
use Rattle.svr_elab_part.proofs.Typed.{shape_of}
use Rattle.svr_elab_part.proofs.Looked.{OptionIs}
use Rattle.svr_elab_reads_laws.specs.Reads.{Mentions}
use Rattle.svr_elab_stand_laws.specs.Stand.{There}
use Rattle.svr_elab_item.specs.Items as spec
use Rattle.svr_elab_item.specs.Items.{array_of, has_rows, same_shape, is_cyclic_root}
use Rattle.svr_elab_item_laws.specs.Lawful.{SameThere}
use Rattle.svr_elab_item_laws.proofs.Roots.{false_true, RootIs, WholeIs}
use Rattle.svr_elab_item_laws.proofs.Sole.{not_not}
use Rattle.svr_elab_item_laws.proofs.Places.{Here, Fixed, declared, Valued}
use Rattle.svr_elab_item_laws.proofs.Members.{Member, Target}
use Rattle.svr_elab_item_laws.proofs.Dealt.{Dealt, ors}

not_there : (x : ℕ) → Some x ≡ None → ⊥
not_there x h = cc

-- ---- shapes

abbrev width_in : Option Shape → ℕ
width_in None = 0
width_in (Some s) = s.width

abbrev sign_in : Option Shape → Bool
sign_in None = false
sign_in (Some s) = s.signed

same_width : (s : Option Shape) (t u : ExprTerm) → s ≡ Some (shape_of t) → s ≡ Some (shape_of u) → size_of u ≡ size_of t
same_width s t u h k = ap width_in (sym k ∙ h)

same_sign : (s : Option Shape) (t u : ExprTerm) → s ≡ Some (shape_of t) → s ≡ Some (shape_of u) → sign_of u ≡ sign_of t
same_sign s t u h k = ap sign_in (sym k ∙ h)

and_first : (a b : Bool) → (a && b) ≡ true → a ≡ true
and_first true b h = refl
and_first false b h = absurd (false_true h)

and_second : (a b : Bool) → (a && b) ≡ true → b ≡ true
and_second true b h = h
and_second false b h = absurd (false_true h)

equal : (a b : ℕ) → (a == b) ≡ true → a ≡ b
equal a b h = grind (arith, nat_tests, h)

same_bool : (a b : Bool) → (if a then b else not b) ≡ true → a ≡ b
same_bool true true h = refl
same_bool true false h = absurd (false_true h)
same_bool false true h = absurd (false_true h)
same_bool false false h = refl

abbrev as_shape : ℕ → Bool → Shape
as_shape w z = record { width = w; signed = z }

one_shape : (x y : Shape) → same_shape (Some x) (Some y) ≡ true → x ≡ y
one_shape x y h =
    ap (λ (w : ℕ). as_shape w x.signed) (equal x.width y.width (and_first (x.width == y.width) (if x.signed then y.signed else not y.signed) h))
    ∙ ap (λ (z : Bool). as_shape y.width z) (same_bool x.signed y.signed (and_second (x.width == y.width) (if x.signed then y.signed else not y.signed) h))

same_is : (a b : Option Shape) (x y : Shape) → a ≡ Some x → b ≡ Some y → same_shape a b ≡ true → a ≡ Some y
same_is a b x y h k e =
    let P : Option Shape → Type 0 = λ a. same_shape a b ≡ true in
    let R : Option Shape → Type 0 = λ b. same_shape (Some x) b ≡ true in
    h ∙ ap (λ (s : Shape). Some s) (one_shape x y (subst R k (subst P h e)))

-- ---- properties

same_some : (a b : ℕ) → Some a ≡ Some b → b ≡ a
same_some a b h = let P : Option ℕ → ℕ = some_or in ap P (sym h)
  where
    some_or : Option ℕ → ℕ
    some_or None = 0
    some_or (Some a) = a

-- an array has an element in its second dimension
inner_fits : (d : Dims) (m : ℕ) → DimsFit d → inner_of d ≡ Some m → 1 ≤ m
inner_fits dims.Scalar m h e = let k = same_some 1 m e in omega (arith, k)
inner_fits (dims.Fixed n) m h e = let k = same_some 1 m e in omega (arith, k)
inner_fits (dims.Rows n None) m h e = absurd (not_there m (sym e))
inner_fits (dims.Rows n (Some i)) m h e = let k = same_some i m e in let l = h.1.0 in omega (arith, k, l)
inner_fits dims.Dynamic m h e = let k = same_some 1 m e in omega (arith, k)

plain_rand : (r : Rand) → spec.is_plain_rand r ≡ true → r ≡ rand.Rand
plain_rand rand.State h = absurd (false_true h)
plain_rand rand.Rand h = refl
plain_rand rand.Randc h = absurd (false_true h)

module _ (ps : List Prop) (vs : List TVar) where
  -- an item that is typed and stands under such guards
  abbrev pub Item : ℕ → Bool → Bool → ItemTerm → Type 0
  Item depth opened cyclic i = ItemIsTyped i × ItemStands ps vs depth opened cyclic i

  abbrev pub Items : ℕ → Bool → Bool → List ItemTerm → Type 0
  Items depth opened cyclic is = ItemsAreTyped (items_of is) × ItemsStand ps vs depth opened cyclic (items_of is)

  abbrev pub Else : ℕ → Bool → Bool → ElseTerm → Type 0
  Else depth opened cyclic e = ElseIsTyped e × ElseStands ps vs depth opened cyclic e

  -- ---- expressions and distributions

  pub plain_stands : (depth : ℕ) (opened cyclic soft around : Bool) (r : Reads) (s : Option Shape) (t : Option ExprTerm) → around ≡ cyclic → (soft && (around || r.cyclic)) ≡ false → OptionIs (Valued ps vs depth r s) t
      → OptionIs (Item depth opened cyclic) (spec.plain_tree soft t)
  plain_stands depth opened cyclic soft around r s None e f h = tt
  plain_stands depth opened cyclic soft around r s (Some t) e f h =
      ((h.typed, tt), (h.stands, tt, ap (λ (x : Bool). soft && x) (ors cyclic around (reads_cyclic ps t) r.cyclic (sym e) h.told.cyclic) ∙ f))

  pub dist_stands : (depth : ℕ) (opened cyclic soft around c : Bool) (r : Reads) (s : Option Shape) (t : Option ExprTerm) (ds : Option (List DistTerm)) → around ≡ cyclic → (soft && (around || (r.cyclic || c))) ≡ false
      → r.cyclic ≡ false → is_open r ≡ true → OptionIs (Valued ps vs depth r s) t → OptionIs (Dealt ps vs depth c) ds → OptionIs (Item depth opened cyclic) (spec.dist_tree soft t ds)
  dist_stands depth opened cyclic soft around c r s None ds e f g o h k = tt
  dist_stands depth opened cyclic soft around c r s (Some t) None e f g o h k = tt
  dist_stands depth opened cyclic soft around c r s (Some t) (Some ds) e f g o h k =
      let reads : (reads_cyclic ps t || dist_mentions (is_cyclic_one ps) (is_cyclic_one ps) ds) ≡ (r.cyclic || c) = ors (reads_cyclic ps t) r.cyclic (dist_mentions (is_cyclic_one ps) (is_cyclic_one ps) ds) c h.told.cyclic k.2 in (
        (h.typed, k.1),
        (
          h.stands,
          (k.0, h.told.opened ∙ o, h.told.cyclic ∙ g),
          ap (λ (x : Bool). soft && x) (ors cyclic around (reads_cyclic ps t || dist_mentions (is_cyclic_one ps) (is_cyclic_one ps) ds) (r.cyclic || c) (sym e) reads) ∙ f,
        ),
      )

  -- ---- `unique`

  -- all of one shape
  abbrev pub Alike : ℕ → Option Shape → List ExprTerm → Type 0
  Alike depth s [] = ⊤
  Alike depth s (t ∷ ts) = (s ≡ Some (shape_of t)) × MemberStands ps vs depth t × IsNotCyclic ps vs t × IsTyped t × Alike depth s ts

  -- none, or some of the shape of the first one
  abbrev pub Unique : ℕ → Option (Option Shape) → List ExprTerm → Type 0
  Unique depth None [] = ⊤
  Unique depth None (t ∷ ts) = ⊥
  Unique depth (Some s) [] = ⊥
  Unique depth (Some s) (t ∷ ts) = Alike depth s (t ∷ ts)

  alike_more : (depth : ℕ) (s : Option Shape) (ts : List ExprTerm) (t : ExprTerm) → Alike depth s ts → Alike depth s (t ∷ []) → Alike depth s (ts ++ t ∷ [])
  alike_more depth s [] t h k = k
  alike_more depth s (u ∷ ts) t h k = (h.0, h.1, h.2, h.3, alike_more depth s ts t h.4 k)

  one_more : (depth : ℕ) (first : Option (Option Shape)) (r : Root) (s : Option Shape) (ts : List ExprTerm) (t : ExprTerm) → Unique depth first ts → Member ps vs depth r s t → is_cyclic_root r ≡ false → spec.differs first s ≡ false
      → Unique depth (or_else first (Some s)) (ts ++ t ∷ [])
  one_more depth None r s [] t h k c d = (k.shape, k.stands, k.plain c, k.typed, tt)
  one_more depth None r s (u ∷ ts) t h k c d = absurd h
  one_more depth (Some a) r s [] t h k c d = absurd h
  one_more depth (Some a) r s (u ∷ ts) t h k c d =
      alike_more depth a (u ∷ ts) t h (same_is a s (shape_of u) (shape_of t) h.0 k.shape (not_not (same_shape a s) d), k.stands, k.plain c, k.typed, tt)

  pub unique_more : (depth : ℕ) (first : Option (Option Shape)) (r : Root) (s : Option Shape) (ts : Option (List ExprTerm)) (t : Option ExprTerm) → OptionIs (Unique depth first) ts → OptionIs (Member ps vs depth r s) t
      → is_cyclic_root r ≡ false → spec.differs first s ≡ false → OptionIs (Unique depth (or_else first (Some s))) (and_more ts t)
  unique_more depth first r s None t h k c d = tt
  unique_more depth first r s (Some ts) None h k c d = tt
  unique_more depth first r s (Some ts) (Some t) h k c d = one_more depth first r s ts t h k c d

  members_are : (depth : ℕ) (s : Option Shape) (t : ExprTerm) (ts : List ExprTerm) → s ≡ Some (shape_of t) → Alike depth s ts → AreMembers ps vs depth (size_of t) (sign_of t) (exprs_of ts)
  members_are depth s t [] e h = tt
  members_are depth s t (u ∷ ts) e h = (h.1, h.2, same_width s t u e h.0, same_sign s t u e h.0, members_are depth s t ts e h.4)

  members_typed : (depth : ℕ) (s : Option Shape) (ts : List ExprTerm) → Alike depth s ts → AreTyped (exprs_of ts)
  members_typed depth s [] h = tt
  members_typed depth s (u ∷ ts) h = (h.3, members_typed depth s ts h.4)

  unique_item : (depth : ℕ) (opened cyclic : Bool) (first : Option (Option Shape)) (ts : List ExprTerm) → Unique depth first ts → Item depth opened cyclic (item_term.unique (exprs_of ts))
  unique_item depth opened cyclic None [] h = (tt, tt)
  unique_item depth opened cyclic None (t ∷ ts) h = absurd h
  unique_item depth opened cyclic (Some s) [] h = absurd h
  unique_item depth opened cyclic (Some s) (t ∷ ts) h = (members_typed depth s (t ∷ ts) h, members_are depth s t (t ∷ ts) h.0 h)

  pub unique_stands : (depth : ℕ) (opened cyclic : Bool) (first : Option (Option Shape)) (ts : Option (List ExprTerm)) → OptionIs (Unique depth first) ts → OptionIs (Item depth opened cyclic) (spec.unique_tree ts)
  unique_stands depth opened cyclic first None h = tt
  unique_stands depth opened cyclic first (Some ts) h = unique_item depth opened cyclic first ts h

  -- ---- guards

  at_reads : (depth : ℕ) (opened cyclic : Bool) (r : Reads) (t : ExprTerm) (is : ItemTerms) → Mentions ps t r → ItemsStand ps vs depth (opened || is_open r) (cyclic || r.cyclic) is
      → ItemsStand ps vs depth (opened || design.is_open ps t) (cyclic || reads_cyclic ps t) is
  at_reads depth opened cyclic r t is m h =
      let P : Bool → Type 0 = λ o. ItemsStand ps vs depth (opened || o) (cyclic || r.cyclic) is in
      let R : Bool → Type 0 = λ c. ItemsStand ps vs depth (opened || design.is_open ps t) (cyclic || c) is in
      subst R (sym m.cyclic) (subst P (sym m.opened) h)

  else_at_reads : (depth : ℕ) (opened cyclic : Bool) (r : Reads) (t : ExprTerm) (e : ElseTerm) → Mentions ps t r → ElseStands ps vs depth (opened || is_open r) (cyclic || r.cyclic) e
      → ElseStands ps vs depth (opened || design.is_open ps t) (cyclic || reads_cyclic ps t) e
  else_at_reads depth opened cyclic r t e m h =
      let P : Bool → Type 0 = λ o. ElseStands ps vs depth (opened || o) (cyclic || r.cyclic) e in
      let R : Bool → Type 0 = λ c. ElseStands ps vs depth (opened || design.is_open ps t) (cyclic || c) e in
      subst R (sym m.cyclic) (subst P (sym m.opened) h)

  pub implies_stands : (depth : ℕ) (opened cyclic : Bool) (r : Reads) (s : Option Shape) (t : Option ExprTerm) (is : Option (List ItemTerm)) → OptionIs (Valued ps vs depth r s) t
      → OptionIs (Items depth (opened || is_open r) (cyclic || r.cyclic)) is → OptionIs (Item depth opened cyclic) (spec.implies_tree t is)
  implies_stands depth opened cyclic r s None is h k = tt
  implies_stands depth opened cyclic r s (Some t) None h k = tt
  implies_stands depth opened cyclic r s (Some t) (Some is) h k = ((h.typed, k.0), (h.stands, at_reads depth opened cyclic r t (items_of is) h.told k.1))

  pub else_stands : (depth : ℕ) (opened cyclic : Bool) (is : Option (List ItemTerm)) → OptionIs (Items depth opened cyclic) is → OptionIs (Else depth opened cyclic) (spec.else_tree is)
  else_stands depth opened cyclic None h = tt
  else_stands depth opened cyclic (Some is) h = h

  pub branch_stands : (depth : ℕ) (opened cyclic : Bool) (r : Reads) (s : Option Shape) (t : Option ExprTerm) (is : Option (List ItemTerm)) (e : Option ElseTerm) → OptionIs (Valued ps vs depth r s) t
      → OptionIs (Items depth (opened || is_open r) (cyclic || r.cyclic)) is → OptionIs (Else depth (opened || is_open r) (cyclic || r.cyclic)) e → OptionIs (Item depth opened cyclic) (spec.branch_tree t is e)
  branch_stands depth opened cyclic r s None is e h k l = tt
  branch_stands depth opened cyclic r s (Some t) None e h k l = tt
  branch_stands depth opened cyclic r s (Some t) (Some is) None h k l = tt
  branch_stands depth opened cyclic r s (Some t) (Some is) (Some e) h k l =
      ((h.typed, k.0, l.0), (h.stands, at_reads depth opened cyclic r t (items_of is) h.told k.1, else_at_reads depth opened cyclic r t e h.told l.1))

  -- ---- loops

  second_is : (p : Property) (kind : Option Vector) (q : Option Prop) (m : ℕ) → There p kind q → is_array p.dims ≡ true → inner_of p.dims ≡ Some m → HasSecond q m
  second_is p None q m h a e = absurd h
  second_is p (Some k) None m h a e = absurd h
  second_is p (Some k) (Some q) m h a e = (h.array ∙ a, same_some m q.inner (sym e ∙ h.inner))

  fixed_is : (p : Property) (q : Option Prop) → SameThere p q → has_rows p.dims ≡ true → IsFixed q
  fixed_is p None h r = absurd h
  fixed_is p (Some q) h r = h.fixed r

  -- a name for one dimension, or two for two
  abbrev pub Names : ℕ → Bool → Type 0
  Names names rows = (names ≡ 1) ⊎ ((names ≡ 2) × (rows ≡ true))

  names_count : (names : ℕ) (rows : Bool) → Names names rows → (names ≡ 1) ⊎ (names ≡ 2)
  names_count names rows (inl h) = inl h
  names_count names rows (inr h) = inr h.0

  names_fit : (names : ℕ) (p : Property) (q : Option Prop) → SameThere p q → Names names (has_rows p.dims) → (names ≡ 1) ⊎ ((names ≡ 2) × IsFixed q)
  names_fit names p q s (inl h) = inl h
  names_fit names p q s (inr h) = inr (h.0, fixed_is p q s h.1)

  loop_of : (depth : ℕ) (opened cyclic : Bool) (names : ℕ) (p : Property) (rs : Reads) (m : Option ℕ) (body : Option (List ItemTerm)) → Here ps vs p → is_array p.dims ≡ true → rs ≡ property_reads p → inner_of p.dims ≡ m
      → Names names (has_rows p.dims) → depth + names ≤ LOOP_LIMIT → OptionIs (Items (depth + names) opened (cyclic || rs.cyclic)) body
      → OptionIs (Item depth opened cyclic) (both_known (λ m is. item_term.foreach p.number m names (items_of is)) m body)
  loop_of depth opened cyclic names p rs None body h a e i ns b k = tt
  loop_of depth opened cyclic names p rs (Some m) None h a e i ns b k = tt
  loop_of depth opened cyclic names p rs (Some m) (Some is) h a e i ns b k =
      let P : Bool → Type 0 = λ c. ItemsStand ps vs (depth + names) opened (cyclic || c) (items_of is) in
      let reads : rs.cyclic ≡ is_cyclic_one ps p.number = ap (λ (r : Reads). r.cyclic) e ∙ sym (declared ps vs p h).1 in (
        (inner_fits p.dims m h.1.1 i, names_count names (has_rows p.dims) ns, k.0),
        (second_is p p.kind (slice_get ps p.number) m h.0 a i, names_fit names p (slice_get ps p.number) h.2 ns, b, subst P reads k.1),
      )

  pub loop_stands : (depth : ℕ) (opened cyclic : Bool) (names : ℕ) (r : Root) (s : Option Shape) (t : Option ExprTerm) (rs : Reads) (body : Option (List ItemTerm)) → RootIs (Here ps vs) (Fixed ps vs) r
      → WholeIs (Here ps vs) (Fixed ps vs) r s t rs → Names names (has_rows (array_property r).dims) → depth + names ≤ LOOP_LIMIT → OptionIs (Items (depth + names) opened (cyclic || rs.cyclic)) body
      → OptionIs (Item depth opened cyclic) (spec.foreach_tree (array_of r) names body)
  loop_stands depth opened cyclic names root.Nothing s t rs body q h ns b k = absurd h
  loop_stands depth opened cyclic names root.Refused s t rs body q h ns b k = absurd h
  loop_stands depth opened cyclic names root.Member s t rs body q h ns b k = absurd h
  loop_stands depth opened cyclic names (root.Variable v) s t rs body q h ns b k = absurd h
  loop_stands depth opened cyclic names (root.Field p o) s t rs body q h ns b k = loop_of depth opened cyclic names p rs (inner_of p.dims) body q.0 h.0 h.3 refl ns b k
  loop_stands depth opened cyclic names (root.Object o c) s t rs body q h ns b k = absurd h

  -- ---- `disable soft`

  pub disable_stands : (depth : ℕ) (opened cyclic : Bool) (t : Option ExprTerm) → opened ≡ false → OptionIs (Target ps vs depth) t → OptionIs (Item depth opened cyclic) (spec.disable_tree t)
  disable_stands depth opened cyclic None o h = tt
  disable_stands depth opened cyclic (Some t) o h = (h.0, (h.1, o))

  -- ---- `solve`

  abbrev IsSolved : ExprTerm → Type 0
  IsSolved (typed w s (term.prop p)) = ScalarIs (slice_get ps p) w s × IsPlainRand ps vs (slice_get ps p)
  IsSolved e = ⊥

  abbrev pub Solved : List ExprTerm → Type 0
  Solved [] = ⊤
  Solved (t ∷ ts) = IsSolved t × IsTyped t × Solved ts

  solved_one : (t : ExprTerm) (ts : List ExprTerm) → IsSolved t → AreSolved ps vs (exprs_of ts) → AreSolved ps vs (exprs_of (t ∷ ts))
  solved_one (typed w s (term.number v every)) ts h k = absurd h
  solved_one (typed w s (term.prop p)) ts h k = (h.0, h.1, k)
  solved_one (typed w s (term.element p i)) ts h k = absurd h
  solved_one (typed w s (term.cell p m i j)) ts h k = absurd h
  solved_one (typed w s (term.size p m)) ts h k = absurd h
  solved_one (typed w s (term.script v)) ts h k = absurd h
  solved_one (typed w s (term.loop_index l)) ts h k = absurd h
  solved_one (typed w s (term.reduce p f body)) ts h k = absurd h
  solved_one (typed w s (term.of_object o x)) ts h k = absurd h
  solved_one (typed w s (term.bit_select x i low)) ts h k = absurd h
  solved_one (typed w s (term.part_select x f l low)) ts h k = absurd h
  solved_one (typed w s (term.unary op x)) ts h k = absurd h
  solved_one (typed w s (term.binary op x y)) ts h k = absurd h
  solved_one (typed w s (term.choice t x y)) ts h k = absurd h
  solved_one (typed w s (term.inside x rs)) ts h k = absurd h
  solved_one (typed w s (term.join xs)) ts h k = absurd h
  solved_one (typed w s (term.copies n xs)) ts h k = absurd h
  solved_one (typed w s (term.sign z x)) ts h k = absurd h

  all_solved : (ts : List ExprTerm) → Solved ts → AreSolved ps vs (exprs_of ts)
  all_solved [] h = tt
  all_solved (t ∷ ts) h = solved_one t ts h.0 (all_solved ts h.2)

  all_typed : (ts : List ExprTerm) → Solved ts → AreTyped (exprs_of ts)
  all_typed [] h = tt
  all_typed (t ∷ ts) h = (h.1, all_typed ts h.2)

  one_solved : (ts : List ExprTerm) (t : ExprTerm) → Solved ts → IsSolved t × IsTyped t → Solved (ts ++ t ∷ [])
  one_solved [] t h k = (k.0, k.1, tt)
  one_solved (u ∷ ts) t h k = (h.0, h.1, one_solved ts t h.2 k)

  pub solved_more : (ts : Option (List ExprTerm)) (t : Option ExprTerm) → OptionIs Solved ts → OptionIs (λ t. IsSolved t × IsTyped t) t → OptionIs Solved (and_more ts t)
  solved_more None t h k = tt
  solved_more (Some ts) None h k = tt
  solved_more (Some ts) (Some t) h k = one_solved ts t h k

  scalar_is : (p : Property) (k : Vector) (q : Option Prop) → There p (Some k) q → is_array p.dims ≡ false → ScalarIs q k.kind.width k.kind.signed
  scalar_is p k None h a = absurd h
  scalar_is p k (Some q) h a = (h.array ∙ a, (h.width, h.signed))

  rand_is : (p : Property) (q : Option Prop) → SameThere p q → spec.is_plain_rand p.rand ≡ true → IsPlainRand ps vs q
  rand_is p None h r = absurd h
  rand_is p (Some q) h r = h.rand ∙ plain_rand p.rand r

  pub prop_solved : (p : Property) (kind : Option Vector) → Here ps vs p → There p kind (slice_get ps p.number) → KindFits kind → spec.is_plain_rand p.rand ≡ true → is_array p.dims ≡ false
      → OptionIs (λ t. IsSolved t × IsTyped t) (option_map (λ k. typed k.kind.width k.kind.signed (term.prop p.number)) kind)
  prop_solved p None h t k r a = tt
  prop_solved p (Some kind) h t k r a = ((scalar_is p kind (slice_get ps p.number) t a, rand_is p (slice_get ps p.number) h.2 r), (k.0, k.1, refl, refl, tt))

  pub solve_stands : (depth : ℕ) (opened cyclic : Bool) (xs ys : Option (List ExprTerm)) → OptionIs Solved xs → OptionIs Solved ys → OptionIs (Item depth opened cyclic) (spec.solve_trees xs ys)
  solve_stands depth opened cyclic None ys h k = tt
  solve_stands depth opened cyclic (Some xs) None h k = tt
  solve_stands depth opened cyclic (Some xs) (Some ys) h k = ((all_typed xs h, all_typed ys k), (all_solved xs h, all_solved ys k))

  -- ---- lists

  one_item : (depth : ℕ) (opened cyclic : Bool) (is : List ItemTerm) (i : ItemTerm) → Items depth opened cyclic is → Item depth opened cyclic i → Items depth opened cyclic (is ++ i ∷ [])
  one_item depth opened cyclic [] i h k = ((k.0, tt), (k.1, tt))
  one_item depth opened cyclic (j ∷ is) i h k =
      let rest : Items depth opened cyclic (is ++ i ∷ []) = one_item depth opened cyclic is i (h.0.1, h.1.1) k in ((h.0.0, rest.0), (h.1.0, rest.1))

  pub items_more : (depth : ℕ) (opened cyclic : Bool) (is : Option (List ItemTerm)) (i : Option ItemTerm) → OptionIs (Items depth opened cyclic) is → OptionIs (Item depth opened cyclic) i → OptionIs (Items depth opened cyclic) (and_more is i)
  items_more depth opened cyclic None i h k = tt
  items_more depth opened cyclic (Some is) None h k = tt
  items_more depth opened cyclic (Some is) (Some i) h k = one_item depth opened cyclic is i h k
