-- A call of a lawful design can be made on an object that fits.
use Rattle.std.proofs.Common.{◌≡◌, ◌==◌, ◌<◌, ◌≤◌, ◌+◌, ◌^◌, ℕ, Bool, true, false, not, refl, sym, ◌∙◌, ap, subst, List, [], ◌∷◌, ◌++◌, map, length, length-append, replicate, Option, None, Some, IsSome, arith}
use Rattle.std.specs.Prelude.{slice_get, slice_index, slice_index_or}
use Rattle.std.specs.List.{All, list_any}
use Rattle.std.proofs.lemmas.Bool.{eq-eqb}
use Rattle.std.proofs.Math.ListN.{get_or-map}
use Rattle.std.proofs.lemmas.List.{length-replicate, map-append}
use Rattle.std.proofs.lemmas.List.Elements.{All-nil, All-cons}
use Rattle.svr_operator.specs.declared.Rand.{Rand}
use Rattle.svr_operator.specs.declared.Rand.TheVariants as rand
use Rattle.svr_typed.specs.declared.Prop.{Prop}
use Rattle.svr_typed.specs.declared.CallList.{CallList}
use Rattle.svr_typed.specs.declared.CallList.TheVariants as call_list
use Rattle.svr_typed.specs.ClassTerm.{BlockTerm, FlatTerm, ClassTerm}
use Rattle.svr_typed.specs.StmtTerm.{CallTerm, StmtTerm, DesignTerm}
use Rattle.svr_typed.specs.StmtTerm as stmt
use Rattle.svr_flat.specs.Flat.{no_class, derived_class, base_of, flat_after, flat_classes, flat_class_of}
use Rattle.svr_eval.specs.declared.Assign.{Assign}
use Rattle.svr_eval.specs.Reading.{reading_of}
use Rattle.svr_world.specs.World.{WorldTerm, IsMade, object_of}
use Rattle.svr_world.specs.Fits.{FitsClass}
use Rattle.svr_frame.specs.Frame.{FrameTerm, is_scalar_kind, props_of}
use Rattle.svr_frame.specs.Frame as frame
use Rattle.svr_frame.specs.Making as making
use Rattle.svr_frame.specs.Sound as sound
use Rattle.svr_frame_of.specs.Callable.{state_from, widest, ItemsFit, CanIfDeclared, ListCan, IsCallable}
use Rattle.svr_script.specs.Statement.{class_of_var, flat_of_var}
use Rattle.svr_design.specs.Types as types
use Rattle.svr_design.specs.Types.{is_array, AllBelow, VariableIs}
use Rattle.svr_design.specs.Constraints.{ItemsStand}
use Rattle.svr_design.specs.Statements.{object_props, IsList, IsCall}
use Rattle.svr_design.specs.Lawful.{EachFrom, base_homes, homes_behind, class_homes, same, list_has, lists, some_lists, shares, is_declared_random, CanBeRandom, IsClass, IsLawful}
use Rattle.svr_run_laws.proofs.Ways.{or_left, or_right, both_true}
use Rattle.svr_run_laws.proofs.Found.{mapped_at, there}
use Rattle.svr_run_laws.proofs.Typing.{enum_is, prop_is, arrays_counted, kind_array}
use Rattle.svr_run_laws.proofs.Inside.{all_items_fit}
use Rattle.svr_run_laws.proofs.Classes.{all_every, all_to, each_here, StandsIn, IsFlat, flat_is, class_at, HoldsObjects, holds_objects, same_class}
use Rattle.svr_run_laws.proofs.Fit.{IsFit, script_below, number_below, state_size_below}

-- ---- as many homes as properties

abbrev props_in : FlatTerm → ℕ
props_in f = length f.props

base_long : (before : List (List ℕ)) (fs : List FlatTerm) → map length before ≡ map props_in fs → (o : Option ℕ) → length (base_homes before o) ≡ length (base_of fs o).props
base_long before fs h None = refl
base_long before fs h (Some b) = sym (get_or-map length before b []) ∙ ap (λ (ns : List ℕ). slice_index_or ns b 0) h ∙ get_or-map props_in fs b no_class

all_long : (before : List (List ℕ)) (fs : List FlatTerm) (cs : List ClassTerm) → map length before ≡ map props_in fs → map length (homes_behind before cs) ≡ map props_in (flat_after fs cs)
all_long before fs [] h = h
all_long before fs (c ∷ cs) h =
    let homes : List ℕ = base_homes before c.base ++ replicate (length c.props) (length before) in
    let g : FlatTerm = derived_class (base_of fs c.base) c in
    let more : length homes ≡ length g.props =
    length-append (base_homes before c.base) (replicate (length c.props) (length before)) ∙ (λ i. base_long before fs h c.base i + length-replicate (length c.props) (length before) i) ∙ sym (length-append (base_of fs c.base).props c.props) in
    all_long (before ++ homes ∷ []) (fs ++ g ∷ []) cs (map-append length before (homes ∷ []) ∙ (λ i. h i ++ more i ∷ []) ∙ sym (map-append props_in fs (g ∷ [])))

homes_long : (cs : List ClassTerm) (k : ℕ) → length (slice_index_or (homes_behind [] cs) k []) ≡ length (flat_class_of cs k).props
unfolding flat_class_of
homes_long cs k = sym (get_or-map length (homes_behind [] cs) k []) ∙ ap (λ (ns : List ℕ). slice_index_or ns k 0) (all_long [] [] cs refl) ∙ get_or-map props_in (flat_classes cs) k no_class

-- ---- what is declared random, and what is listed

declared_same : (r : Rand) → making.is_declared_random r ≡ true → is_declared_random r ≡ true
declared_same rand.State h = h
declared_same rand.Rand h = h
declared_same rand.Randc h = h

same_self : (o : Option ℕ) → IsSome o → same o o ≡ true
same_self None h = absurd (cc)
same_self (Some x) h = eq-eqb x x refl

lists_in : (P : ℕ → Type 0) (n : ℕ) (has : ℕ → Bool) (ps : List ℕ) → ((p : ℕ) → p < n → has p ≡ true → P p) → ((p : ℕ) → list_any (λ q. q == p) ps ≡ true → has p ≡ true) → AllBelow n ps → All P ps
lists_in P n has [] f g h = All-nil P
lists_in P n has (p ∷ ps) f g h =
    All-cons P p ps (f p h.0 (g p (or_left (p == p) (list_any (λ q. q == p) ps) (eq-eqb p p refl))))
    (lists_in P n has ps f (λ q e. g q (or_right (p == q) (list_any (λ r. r == q) ps) e)) h.1)

can_list : (d : DesignTerm) (props : List Prop) (list : CallList) → IsList d (length props) list → ((p : ℕ) → p < length props → list_has list p ≡ true → slice_index_or (map (λ (x : Prop). x.can) props) p false ≡ true) → ListCan props list
can_list d props call_list.All h f = tt
can_list d props call_list.Null h f = tt
can_list d props (call_list.Listed ps) h f = lists_in (λ p. slice_index_or (map (λ (x : Prop). x.can) props) p false ≡ true) (length props) (λ p. list_any (λ q. q == p) ps) ps f (λ p e. e) h.0

module _ (d : DesignTerm) where
  -- what the statement lists, some statement of the design lists
  abbrev pub IsListed : StmtTerm → Type 0
  IsListed x = (t : ℕ → Bool) (p : ℕ) → lists t p x ≡ true → some_lists t p d.stmts ≡ true

  declared_can : (k j : ℕ) (xs : List Prop) → EachFrom (CanBeRandom d k) j xs → All CanIfDeclared xs
  declared_can k j [] h = All-nil CanIfDeclared
  declared_can k j (x ∷ xs) h =
      All-cons CanIfDeclared x xs (λ e. h.0 ∙ or_left (is_declared_random x.rand) (some_lists (shares d k j) j d.stmts) (declared_same x.rand e)) (declared_can k (j + 1) xs h.1)

  -- the homes of a class have each of its places
  home_there : (k p : ℕ) → p < length (flat_class_of d.classes k).props → IsSome (slice_get (class_homes d (Some k)) p)
  home_there k p less =
      let h = there (class_homes d (Some k)) p (subst (λ (n : ℕ). p < n) (sym (homes_long d.classes k)) less) in
      subst IsSome (sym h.1) refl

  module _ (l : IsLawful d) (w : WorldTerm) (fit : IsFit d w) (c : CallTerm) (is : IsCall d c) (listed : IsListed (stmt.call c)) (made : IsMade w c.object) where
    own : HoldsObjects d c.object
    own = holds_objects d l c.object is.object

    abbrev k : ℕ
    k = class_of_var d c.object

    abbrev class : FlatTerm
    class = flat_class_of d.classes k

    abbrev state : Assign
    state = state_from (object_of w c.object) w.script

    abbrev f : FrameTerm
    f = widest class d.enums state

    its_class : (x : ClassTerm) × (slice_get d.classes k ≡ Some x)
    its_class = there d.classes k own.less

    stands : IsClass d k its_class.0
    stands = class_at d l k its_class.0 its_class.1

    flat : IsFlat d class
    flat = flat_is d l k own.less

    fits : FitsClass class (object_of w c.object)
    fits = fit.fits c.object made

    same_props : object_props d c.object ≡ class.props
    same_props = ap (λ (g : FlatTerm). g.props) (same_class d c.object own)

    array_is : (i : ℕ) (x : Prop) → slice_get class.props i ≡ Some x → frame.is_array f (0 + i) ≡ is_array x.array
    array_is i x at =
        let here : 0 + i ≡ i = omega arith in
        ap (frame.is_array f) here ∙ ap not (mapped_at (λ (y : Prop). is_scalar_kind y.array) false class.props i x at) ∙ kind_array x.array

    can_at : (p : ℕ) → p < length class.props → list_has c.list p ≡ true → slice_index_or (map (λ (x : Prop). x.can) class.props) p false ≡ true
    can_at p less has =
        let x = there class.props p less in
        let shared : shares d k p c.object ≡ true = ap (λ (o : Option ℕ). same (slice_get (class_homes d (Some k)) p) (slice_get (class_homes d o) p)) own.known ∙ same_self (slice_get (class_homes d (Some k)) p) (home_there k p less) in
        mapped_at (λ (y : Prop). y.can) false class.props p x.0 x.1 ∙ each_here (CanBeRandom d k) class.props p x.0 stands.can x.1
        ∙ or_right (is_declared_random x.0.rand) (some_lists (shares d k p) p d.stmts) (listed (shares d k p) p (both_true (shares d k p c.object) (list_has c.list p) shared has))

    abbrev NumbersFit : Type 0
    NumbersFit = (p : ℕ) (x : Prop) → slice_get class.props p ≡ Some x → (i : ℕ) → (reading_of state).element p i < 2 ^ x.kind.width

    numbers : NumbersFit
    numbers p x at i = number_below class (object_of w c.object) p x fits at i

    lengths : (p : ℕ) → slice_index state.sizes p < 2 ^ 32
    lengths p = state_size_below class (object_of w c.object) w.script p fits

    no_script : (v n : ℕ) (s : Bool) → VariableIs (slice_get [] v) n s → (v < length state.script) × (slice_index state.script v < 2 ^ n)
    no_script v n s h = absurd h

    block_fits : (b : BlockTerm) → StandsIn class.props b → ItemsFit f b.items
    block_fits b h = all_items_fit h.0 [] class d.enums state h.1 numbers lengths no_script b.items h.2.0 h.2.1

    set_fits : ItemsFit f c.items
    set_fits =
        all_items_fit class.props d.vars class d.enums state (λ p x at. at) numbers lengths (script_below d w fit) c.items is.typed
        (subst (λ (ps : List Prop). ItemsStand ps d.vars 0 false false c.items) same_props is.stands)

    pub callable : IsCallable (flat_of_var d c.object) d.enums (object_of w c.object) w.script c
    callable = record {
      properties = stands.few;
      arrays = subst (λ (n : ℕ). n ≤ 32) (sym (arrays_counted (frame.is_array f) 0 class.props array_is)) stands.few_arrays;
      few_blocks = stands.few_blocks;
      types = all_to types.IsEnum sound.IsEnum enum_is d.enums (all_every types.IsEnum d.enums l.enums);
      props = all_to (types.IsProp d.enums) (sound.IsProp d.enums) (prop_is d.enums) class.props flat.props;
      declared = declared_can k 0 class.props stands.can;
      listed = can_list d class.props c.list (subst (λ (ps : List Prop). IsList d (length ps) c.list) same_props is.list) can_at;
      values = fits;
      blocks = all_to (StandsIn class.props) (λ (b : BlockTerm). ItemsFit f b.items) block_fits class.blocks flat.blocks;
      in_line = set_fits;
    }
