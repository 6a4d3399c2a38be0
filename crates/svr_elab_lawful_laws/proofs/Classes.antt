-- Classes in which nothing is refused have lawful properties, the inherited ones first.
use Rattle.std.proofs.Common.{◌≡◌, ℕ, zero, suc, ◌+◌, ◌<◌, ◌≤◌, min, cond, Bool, true, false, not, ◌&&◌, ◌||◌, nat_le, if◌then◌else◌, List, [], ◌∷◌, ◌++◌, length, map, Option, None, Some, refl, sym, ap, subst, ◌∙◌, true≢false, append-nil, arith}
use Rattle.std.specs.Prelude.{slice_get, bytes_eq, option_map}
use Rattle.std.specs.List.{list_any}
use Rattle.std.specs.Cmp.Lexicographic.{nat_list_eq_equiv}
use Rattle.std.proofs.lemmas.Bool.Decides.{nat_tests}
use Rattle.std.proofs.lemmas.List.Sums.{sum_by-cons, sum_by-append}
use Rattle.svr_operator.specs.declared.Rand.{Rand}
use Rattle.svr_limits.specs.declared.limit.TheConstants.{PROPERTY_LIMIT}
use Rattle.svr_typed.specs.declared.EnumType.{EnumType}
use Rattle.svr_tree.specs.ExprTree.{ExprTree}
use Rattle.svr_tree.specs.declared.Top.{Top}
use Rattle.svr_tree.specs.declared.Top.TheVariants as top
use Rattle.svr_tree.specs.DeclTree as tree
use Rattle.svr_tree.specs.DeclTree.{DeclaratorTree, ClassItemTree, ClassTree, TypeTree}
use Rattle.svr_tree.specs.Tokens as tokens
use Rattle.svr_tree.specs.DeclGrammar.{IsTypedef}
use Rattle.svr_refusal.specs.declared.Refusal.TheVariants as refusal
use Rattle.svr_design.specs.Types.{NamesDiffer}
use Rattle.svr_design.specs.Lawful.{EachFrom, BaseIsBefore}
use Rattle.svr_elab_fault.specs.declared.Fault.{Fault}
use Rattle.svr_elab_fault.specs.Refusals.{first_one, when, earlier}
use Rattle.svr_elab_names.specs.declared.Vector.{Vector}
use Rattle.svr_elab_names.specs.declared.Dims.{Dims}
use Rattle.svr_elab_names.specs.declared.Property.{Property}
use Rattle.svr_elab_names.specs.declared.Global.{Global}
use Rattle.svr_elab_names.specs.declared.Global.TheVariants as global
use Rattle.svr_elab_names.specs.Names.{Space, GlobalName, PropName, ClassName, is_same, is_name, is_array, find_from, props_of}
use Rattle.svr_elab_part.specs.Fits.{Each}
use Rattle.svr_elab_part.specs.Shapes.{is_randc}
use Rattle.svr_elab_part.proofs.Valued.{none_left, none_right, not_when}
use Rattle.svr_elab_type.specs.Types as types
use Rattle.svr_elab_type.specs.Types.{GlobalsElab, declaring, and_name}
use Rattle.svr_limits.specs.declared.limit.TheConstants.{ARRAY_LIMIT}
use Rattle.svr_elab_decl.specs.Properties as property_spec
use Rattle.svr_elab_decl.specs.Properties.{Used, UsedElab, DimsElab, Before}
use Rattle.svr_elab_class.specs.Classes as spec
use Rattle.svr_elab_class.specs.Classes.{Head, ClassElab, props_at, arrays_in}
use Rattle.svr_elab_tops.specs.InOrder.{types_and_classes}
use Rattle.svr_elab_lawful_laws.specs.Declared.{There, VectorIs, GlobalIs, GlobalsAre, PropertyIs, PlacedFrom, ClassIs}
use Rattle.svr_elab_lawful_laws.proofs.Enums.{or_left, or_right, each_last, each_to, map_last, length_last, one_of, and_global, globals_are_known}
use Rattle.svr_elab_lawful_laws.proofs.Types.{Fresh, AllFresh, HeadsAre, type_decl_are}
use Rattle.svr_elab_lawful_laws.proofs.Properties.{UsedIs, data_type_is, numbers_are, DimsAre, dims_are, first_below, first_of_array, property_is}

abbrev Body : Type 0
Body = ClassElab (Option Fault)

abbrev name_of : PropName → List ℕ
name_of p = p.name

-- ---- lists

pub any_append : {A : Type 0} (p : A → Bool) (xs ys : List A) → list_any p (xs ++ ys) ≡ (list_any p xs || list_any p ys)
any_append p [] ys = refl
any_append p (x ∷ xs) ys = ap (λ (b : Bool). p x || b) (any_append p xs ys) ∙ or_joined (p x) (list_any p xs) (list_any p ys)
  where
    or_joined : (a b c : Bool) → (a || (b || c)) ≡ ((a || b) || c)
    or_joined true b c = refl
    or_joined false b c = refl

any_map : {A B : Type 0} (p : B → Bool) (f : A → B) (xs : List A) → list_any p (map f xs) ≡ list_any (λ x. p (f x)) xs
any_map p f [] = refl
any_map p f (x ∷ xs) = ap (λ (b : Bool). p (f x) || b) (any_map p f xs)

or_none : (a b : Bool) → a ≡ false → b ≡ false → (a || b) ≡ false
or_none a b h k = ap (λ (x : Bool). x || b) h ∙ k

joined : {A : Type 0} (xs ys : List A) (x : A) → (xs ++ ys) ++ x ∷ [] ≡ xs ++ (ys ++ x ∷ [])
joined [] ys x = refl
joined (y ∷ xs) ys x = ap (λ zs. y ∷ zs) (joined xs ys x)

names_last : (xs : List (List ℕ)) (q : List ℕ) → NamesDiffer xs → list_any (is_same q) xs ≡ false → NamesDiffer (xs ++ q ∷ [])
names_last [] q h k = (refl, tt)
names_last (x ∷ xs) q h k =
    let other : is_same x q ≡ false = nat_list_eq_equiv.symm x q ∙ or_left (is_same q x) (list_any (is_same q) xs) k in (
      any_append (bytes_eq x) xs (q ∷ []) ∙ or_none (list_any (bytes_eq x) xs) (bytes_eq x q || false) h.0 (or_none (bytes_eq x q) false other refl),
      names_last xs q h.1 (or_right (is_same q x) (list_any (is_same q) xs) k),
    )

placed_last : (k : ℕ) (ps : List PropName) (x : PropName) → PlacedFrom k ps → x.property.number ≡ k + length ps → PlacedFrom k (ps ++ x ∷ [])
placed_last k [] x h e = (e ∙ (let f : k + 0 ≡ k = omega arith in f), tt)
placed_last k (p ∷ ps) x h e = (h.0, placed_last (k + 1) ps x h.1 (e ∙ moved k (length ps)))
  where
    moved : (k n : ℕ) → k + suc n ≡ (k + 1) + n
    moved k n = omega arith

counted_last : (ps : List PropName) (x : PropName) → arrays_in (ps ++ x ∷ []) ≡ arrays_in ps + cond (is_array x.property.dims) 1 0
counted_last ps x =
    let f : PropName → ℕ = λ p. cond (is_array p.property.dims) 1 0 in
    sum_by-append f ps (x ∷ []) ∙ ap (λ (n : ℕ). arrays_in ps + n) (sum_by-cons f x [] ∙ last (cond (is_array x.property.dims) 1 0))
  where
    last : (n : ℕ) → n + 0 ≡ n
    last n = omega arith

-- ---- a class after some of its items

pub record BodyIs (h : Head) (c : Body) : Type 0 where
  pub own : List PropName
  pub homes : Each (λ (p : PropName). p.property.home ≡ h.number) own
  pub flat : c.props ≡ props_at h.names.classes h.base ++ own
  pub named : (q : List ℕ) → is_name name_of q own ≡ true → list_any (is_same q) c.own ≡ true
  pub props : Each (PropertyIs h.enums) c.props
  pub fresh : Each Fresh c.props
  pub places : PlacedFrom 0 c.props
  pub differ : NamesDiffer (map name_of c.props)
  pub few : length c.props ≤ PROPERTY_LIMIT
  pub counted : c.arrays ≡ arrays_in c.props
  pub few_arrays : arrays_in c.props ≤ 32

-- what is refused of a property besides, or not
pub refused_more : (h : Head) (c : Body) (f : Option Fault) → BodyIs h c → BodyIs h (spec.and_faults first_one c f)
refused_more h c f b = record { own = b.own; homes = b.homes; flat = b.flat; named = b.named; props = b.props; fresh = b.fresh; places = b.places; differ = b.differ; few = b.few; counted = b.counted; few_arrays = b.few_arrays }

record PropertyClear (b : Before) (r : Rand) (u : Used) (d : Dims) : Type 0 where
  pub no_class : (property_spec.is_objects u || b.inherits) ≡ false
  pub once : b.doubles ≡ false
  pub no_cycle : (is_randc r && is_array d) ≡ false
  pub short : (is_randc r && b.wide) ≡ false
  pub few : (property_spec.is_large d || (nat_le PROPERTY_LIMIT b.props || (is_array d && nat_le ARRAY_LIMIT b.arrays))) ≡ false

property_clear : (b : Before) (name : ℕ) (r : Rand) (u : Used) (d : Dims) → property_spec.property_faults first_one b name r u d ≡ None → PropertyClear b r u d
property_clear b name r u d f =
    let t1 : Bool = property_spec.is_objects u || b.inherits in
    let t3 : Bool = is_randc r && is_array d in
    let t4 : Bool = is_randc r && b.wide in
    let t5 : Bool = property_spec.is_large d || (nat_le PROPERTY_LIMIT b.props || (is_array d && nat_le ARRAY_LIMIT b.arrays)) in
    let w1 : Option Fault = when first_one t1 name refusal.LeftOut in
    let w2 : Option Fault = when first_one b.doubles name refusal.DoubleName in
    let w3 : Option Fault = when first_one t3 name refusal.LeftOut in
    let w4 : Option Fault = when first_one t4 name refusal.RandcTooWide in
    let w5 : Option Fault = when first_one t5 name refusal.TooMany in
    let f1 : earlier w2 (earlier w3 (earlier w4 w5)) ≡ None = none_right w1 (earlier w2 (earlier w3 (earlier w4 w5))) f in
    let f2 : earlier w3 (earlier w4 w5) ≡ None = none_right w2 (earlier w3 (earlier w4 w5)) f1 in
    let f3 : earlier w4 w5 ≡ None = none_right w3 (earlier w4 w5) f2 in
    record {
      no_class = not_when t1 name refusal.LeftOut (none_left w1 (earlier w2 (earlier w3 (earlier w4 w5))) f);
      once = not_when b.doubles name refusal.DoubleName (none_left w2 (earlier w3 (earlier w4 w5)) f1);
      no_cycle = not_when t3 name refusal.LeftOut (none_left w3 (earlier w4 w5) f2);
      short = not_when t4 name refusal.RandcTooWide (none_left w4 w5 f3);
      few = not_when t5 name refusal.TooMany (none_right w4 w5 f3);
    }

below_limit : (n : ℕ) → nat_le PROPERTY_LIMIT n ≡ false → suc n ≤ PROPERTY_LIMIT
below_limit n h = grind (arith, nat_tests, h)

own_number : (n : ℕ) → suc n ≤ PROPERTY_LIMIT → min n PROPERTY_LIMIT ≡ 0 + n
own_number n h = omega (arith, h)

arrays_more : (b : Bool) (n : ℕ) → (b && nat_le ARRAY_LIMIT n) ≡ false → n ≤ 32 → ((if b then min (n + 1) (ARRAY_LIMIT + 1) else n) ≡ n + cond b 1 0) × (n + cond b 1 0 ≤ 32)
arrays_more true n h k = let l : n + 1 ≤ 32 = grind (arith, nat_tests, h) in (omega (arith, l), l)
arrays_more false n h k = (omega arith, omega (arith, k))

or_either : (a b c : Bool) → (a ≡ true → b ≡ true) → (a || c) ≡ true → (b || c) ≡ true
or_either true b c h k = ap (λ (x : Bool). x || c) (h refl)
or_either false true c h k = refl
or_either false false c h k = k

absent : (b c : Bool) → (b ≡ true → c ≡ true) → c ≡ false → b ≡ false
absent true c h k = absurd (true≢false (sym (h refl) ∙ k))
absent false c h k = refl

module _ (h : Head) (cs : ℕ) (globals : GlobalsAre h.enums cs h.names.globals) where
  -- one more property
  added : (c : Body) (q : List ℕ) (p : Property) (first : ℕ) (f : Option Fault) → BodyIs h c → is_name name_of q (props_at h.names.classes h.base) ≡ false → list_any (is_same q) c.own ≡ false
      → p.number ≡ min (length c.props) PROPERTY_LIMIT → p.home ≡ h.number → p.random ≡ not (property_spec.is_state p.rand) → nat_le PROPERTY_LIMIT (length c.props) ≡ false → (is_array p.dims && nat_le ARRAY_LIMIT c.arrays) ≡ false
      → PropertyIs h.enums (record { name = q; property = p; first = first })
      → BodyIs h (record { props = spec.and_prop c.props q p first; arrays = spec.and_array c.arrays p.dims; own = spec.with_name c.own q; blocks = c.blocks; faults = f })
  added c q p first f b inherits once number home random few arrays is =
      let start : List PropName = props_at h.names.classes h.base in
      let x : PropName = record { name = q; property = p; first = first } in
      let in_own : is_name name_of q b.own ≡ false = absent (is_name name_of q b.own) (list_any (is_same q) c.own) (b.named q) once in
      let in_all : is_name name_of q c.props ≡ false =
      ap (is_name name_of q) b.flat ∙ any_append (λ (p : PropName). is_same q p.name) start b.own ∙ or_none (is_name name_of q start) (is_name name_of q b.own) inherits in_own in
      let grown : spec.and_prop c.props q p first ≡ c.props ++ x ∷ [] = ap (λ (t : Bool). if t then c.props else c.props ++ x ∷ []) in_all in
      let named : spec.with_name c.own q ≡ c.own ++ q ∷ [] = ap (λ (t : Bool). if t then c.own else c.own ++ q ∷ []) once in
      let many : suc (length c.props) ≤ PROPERTY_LIMIT = below_limit (length c.props) few in
      let mapped : map name_of (c.props ++ x ∷ []) ≡ map name_of c.props ++ q ∷ [] = map_last name_of c.props x in
      let other : list_any (is_same q) (map name_of c.props) ≡ false = any_map (is_same q) name_of c.props ∙ in_all in
      let more = arrays_more (is_array p.dims) c.arrays arrays (subst (λ (n : ℕ). n ≤ 32) (sym b.counted) b.few_arrays) in
      let sum : c.arrays + cond (is_array p.dims) 1 0 ≡ arrays_in (c.props ++ x ∷ []) = ap (λ (n : ℕ). n + cond (is_array p.dims) 1 0) b.counted ∙ sym (counted_last c.props x) in
      record {
        own = b.own ++ x ∷ [];
        homes = each_last (λ (p : PropName). p.property.home ≡ h.number) b.own x b.homes home;
        flat = grown ∙ ap (λ (ps : List PropName). ps ++ x ∷ []) b.flat ∙ joined start b.own x;
        named = λ r t.
            ap (list_any (is_same r)) named ∙ any_append (is_same r) c.own (q ∷ [])
            ∙ or_either (is_name name_of r b.own) (list_any (is_same r) c.own) (is_same r q || false) (b.named r) (sym (any_append (λ (p : PropName). is_same r p.name) b.own (x ∷ [])) ∙ t);
        props = subst (Each (PropertyIs h.enums)) (sym grown) (each_last (PropertyIs h.enums) c.props x b.props is);
        fresh = subst (Each Fresh) (sym grown) (each_last Fresh c.props x b.fresh random);
        places = subst (PlacedFrom 0) (sym grown) (placed_last 0 c.props x b.places (number ∙ own_number (length c.props) many));
        differ = subst (λ (ps : List PropName). NamesDiffer (map name_of ps)) (sym grown) (subst NamesDiffer (sym mapped) (names_last (map name_of c.props) q b.differ other));
        few = subst (λ (ps : List PropName). length ps ≤ PROPERTY_LIMIT) (sym grown) (subst (λ (n : ℕ). n ≤ PROPERTY_LIMIT) (sym (length_last c.props x)) many);
        counted = more.0 ∙ sum ∙ ap arrays_in (sym grown);
        few_arrays = subst (λ (ps : List PropName). arrays_in ps ≤ 32) (sym grown) (subst (λ (n : ℕ). n ≤ 32) sum more.1);
      }

  -- a property of a known type
  of_kind : (n : Space) (q : List ℕ) (name number : ℕ) (r : Rand) (k : Option Vector) (d : Dims) (e : Option ExprTree) → There (VectorIs h.enums) k → DimsAre d → property_spec.is_large d ≡ false
      → (is_randc r && is_array d) ≡ false → (is_randc r && property_spec.is_wide_cycle h.enums k) ≡ false → property_spec.first_at first_one n name k d e ≡ None
      → PropertyIs h.enums (record { name = q; property = property_spec.declared_as number h.number r k d; first = property_spec.first_number first_one n k e })
  of_kind n q name number r None d e is dims large cycle short f = absurd is
  of_kind n q name number r (Some v) d e is dims large cycle short f =
      property_is h.enums q number h.number r v (property_spec.first_number first_one n (Some v) e) is short (first_below n v e) d dims large cycle (first_of_array n name (Some v) d e f)

  -- the second one, where its name is new
  chosen : (b : Bool) (x y : Body) (u v : Option Fault) → x.faults ≡ earlier u v → y.faults ≡ earlier u v → (if b then x else y).faults ≡ None → earlier u v ≡ None
  chosen true x y u v hx hy f = sym hx ∙ f
  chosen false x y u v hx hy f = sym hy ∙ f

  second : (b : Bool) (x y : Body) → b ≡ false → BodyIs h y → BodyIs h (if b then x else y)
  second b x y e k = let P : Bool → Type 0 = λ b. BodyIs h (if b then x else y) in subst P (sym e) k

  declared : (r : Rand) (u : Used) (d : DeclaratorTree) (c : Body) → UsedIs h.enums cs u → (c.faults ≡ None → BodyIs h c) → (spec.declarator first_one h c r u d).faults ≡ None → BodyIs h (spec.declarator first_one h c r u d)
  declared r u d c used before f =
      let n : Space = spec.behind h c.props in
      let q : List ℕ = h.names.text d.name in
      let ds : DimsElab (Option Fault) = property_spec.dims_of first_one n d.name d.dims in
      let k : Option Vector = property_spec.used_kind u in
      let p : Property = spec.property_of h c r k ds.dims in
      let first : ℕ = property_spec.first_number first_one n k d.value in
      let at : Option Fault = property_spec.first_at first_one n d.name k ds.dims d.value in
      let b : Before = spec.before h c q u in
      let own : Option Fault = property_spec.property_faults first_one b d.name r u ds.dims in
      let t : Bool = list_any (is_same q) c.own in
      let all : Option Fault = earlier ds.faults (earlier at own) in
      let x : Body = spec.and_faults first_one c all in
      let y : Body = record { props = spec.and_prop c.props q p first; arrays = spec.and_array c.arrays p.dims; own = spec.with_name c.own q; blocks = c.blocks; faults = earlier c.faults all } in
      let clear : earlier c.faults all ≡ None = chosen t x y c.faults all refl refl f in
      let i : BodyIs h c = before (none_left c.faults all clear) in
      let f1 : all ≡ None = none_right c.faults all clear in
      let f2 : earlier at own ≡ None = none_right ds.faults (earlier at own) f1 in
      let tests : PropertyClear b r u ds.dims = property_clear b d.name r u ds.dims (none_right at own f2) in
      let large : property_spec.is_large ds.dims ≡ false = or_left (property_spec.is_large ds.dims) (nat_le PROPERTY_LIMIT b.props || (is_array ds.dims && nat_le ARRAY_LIMIT b.arrays)) tests.few in
      let counts : (nat_le PROPERTY_LIMIT b.props || (is_array ds.dims && nat_le ARRAY_LIMIT b.arrays)) ≡ false =
      or_right (property_spec.is_large ds.dims) (nat_le PROPERTY_LIMIT b.props || (is_array ds.dims && nat_le ARRAY_LIMIT b.arrays)) tests.few in
      second t x y tests.once
      (added c q p first (earlier c.faults all) i (or_right (property_spec.is_objects u) b.inherits tests.no_class) tests.once refl refl refl
      (or_left (nat_le PROPERTY_LIMIT b.props) (is_array ds.dims && nat_le ARRAY_LIMIT b.arrays) counts) (or_right (nat_le PROPERTY_LIMIT b.props) (is_array ds.dims && nat_le ARRAY_LIMIT b.arrays) counts)
      (of_kind n q d.name (min (length c.props) PROPERTY_LIMIT) r k ds.dims d.value (numbers_are h.enums cs u used (or_left (property_spec.is_objects u) b.inherits tests.no_class))
      (dims_are n (globals_are_known h.enums cs h.names.globals globals) d.name d.dims (none_left ds.faults (earlier at own) f1)) large tests.no_cycle tests.short (none_left at own f2)))

  all_declared : (r : Rand) (u : Used) (ds : List DeclaratorTree) (c : Body) → (c.faults ≡ None → UsedIs h.enums cs u) → (c.faults ≡ None → BodyIs h c) → (spec.declarators first_one h c r u ds).faults ≡ None
      → BodyIs h (spec.declarators first_one h c r u ds)
  all_declared r u [] c used before f = before f
  all_declared r u (d ∷ ds) c used before f =
      all_declared r u ds (spec.declarator first_one h c r u d) (λ g. used (kept d c g)) (λ g. declared r u d c (used (kept d c g)) before g) f
    where
      kept : (d : DeclaratorTree) (c : Body) → (spec.declarator first_one h c r u d).faults ≡ None → c.faults ≡ None
      kept d c g = none_left _ _ (chosen (list_any (is_same (h.names.text d.name)) c.own) _ _ c.faults _ refl refl g)

  -- a block declares a name
  any_more : (b : Bool) (p : List ℕ → Bool) (ns : List (List ℕ)) (q : List ℕ) → list_any p ns ≡ true → list_any p (if b then ns else ns ++ q ∷ []) ≡ true
  any_more true p ns q e = e
  any_more false p ns q e = any_append p ns (q ∷ []) ∙ ap (λ (t : Bool). t || list_any p (q ∷ [])) e

  with_block : (q : List ℕ) (name : ℕ) (c : Body) → (c.faults ≡ None → BodyIs h c) → (spec.with_block first_one c q name).faults ≡ None → BodyIs h (spec.with_block first_one c q name)
  with_block q name c before f = either (list_any (is_same q) c.own) f
    where
      either : (b : Bool) → (if b then spec.and_faults first_one c (when first_one true name refusal.DoubleName) else record { props = c.props; arrays = c.arrays; own = spec.with_name c.own q; blocks = spec.with_name c.blocks q; faults = c.faults }).faults ≡ None
          → BodyIs h (if b then spec.and_faults first_one c (when first_one true name refusal.DoubleName) else record { props = c.props; arrays = c.arrays; own = spec.with_name c.own q; blocks = spec.with_name c.blocks q; faults = c.faults })
      either true g = refused_more h c (when first_one true name refusal.DoubleName) (before (none_left c.faults (when first_one true name refusal.DoubleName) g))
      either false g =
          let b = before g in
          record {
            own = b.own;
            homes = b.homes;
            flat = b.flat;
            named = λ r t. any_more (list_any (is_same q) c.own) (is_same r) c.own q (b.named r t);
            props = b.props;
            fresh = b.fresh;
            places = b.places;
            differ = b.differ;
            few = b.few;
            counted = b.counted;
            few_arrays = b.few_arrays;
          }

  class_item : (i : ClassItemTree) (c : Body) → (c.faults ≡ None → BodyIs h c) → (spec.class_item first_one h c i).faults ≡ None → BodyIs h (spec.class_item first_one h c i)
  class_item (tree.property p) c before f =
      let n : Space = spec.behind h c.props in
      let u : UsedElab (Option Fault) = property_spec.data_type first_one n p.kind in
      all_declared p.rand u.used p.decls (spec.and_faults first_one c u.faults) (λ g. data_type_is h.enums cs n globals p.kind (none_right c.faults u.faults g))
      (λ g. refused_more h c u.faults (before (none_left c.faults u.faults g))) f
  class_item (tree.block b) c before f = with_block (h.names.text b.name) b.name c before f

  pub class_items : (is : List ClassItemTree) (c : Body) → (c.faults ≡ None → BodyIs h c) → (spec.class_items first_one h c is).faults ≡ None → BodyIs h (spec.class_items first_one h c is)
  class_items [] c before f = before f
  class_items (i ∷ is) c before f = class_items is (spec.class_item first_one h c i) (λ g. class_item i c before g) f

-- ---- what a class inherits

record Inherits (es : List EnumType) (ps : List PropName) : Type 0 where
  pub props : Each (PropertyIs es) ps
  pub places : PlacedFrom 0 ps
  pub differ : NamesDiffer (map name_of ps)
  pub few : length ps ≤ PROPERTY_LIMIT
  pub few_arrays : arrays_in ps ≤ 32

no_props : (es : List EnumType) → Inherits es []
no_props es = record { props = tt; places = tt; differ = tt; few = omega arith; few_arrays = omega arith }

class_inherits : (es : List EnumType) (cs : List ClassName) (k : ℕ) (c : ClassName) → ClassIs es cs k c → Inherits es c.props
class_inherits es cs k c h = record { props = h.props; places = h.places; differ = h.differ; few = h.few; few_arrays = h.few_arrays }

some_inherits : (es : List EnumType) (cs : List ClassName) (k : ℕ) (ds : List ClassName) → EachFrom (ClassIs es cs) k ds → (i : ℕ) → Inherits es (props_of (slice_get ds i))
some_inherits es cs k [] h i = no_props es
some_inherits es cs k (d ∷ ds) h zero = class_inherits es cs k d h.0
some_inherits es cs k (d ∷ ds) h (suc i) = some_inherits es cs (k + 1) ds h.1 i

base_inherits : (es : List EnumType) (cs : List ClassName) → EachFrom (ClassIs es cs) 0 cs → (b : Option ℕ) → Inherits es (props_at cs b)
base_inherits es cs h None = no_props es
base_inherits es cs h (Some b) = some_inherits es cs 0 cs h b

some_fresh : (cs : List ClassName) → AllFresh cs → (b : ℕ) → Each Fresh (props_of (slice_get cs b))
some_fresh [] h b = tt
some_fresh (c ∷ cs) h zero = h.0
some_fresh (c ∷ cs) h (suc b) = some_fresh cs h.1 b

fresh_at : (cs : List ClassName) → AllFresh cs → (b : Option ℕ) → Each Fresh (props_at cs b)
fresh_at cs h None = tt
fresh_at cs h (Some b) = some_fresh cs h b

-- a base is a class before
class_before : (es : List EnumType) (cs : ℕ) (g : Global) → GlobalIs es cs g → BaseIsBefore cs (spec.class_number (Some g))
class_before es cs (global.OfType kind) k = tt
class_before es cs (global.OfClass c) k = k
class_before es cs (global.OfMember v kind) k = tt

abbrev FoundBefore : ℕ → Option (ℕ × GlobalName) → Type 0
FoundBefore cs f = BaseIsBefore cs (spec.class_number (option_map (λ f. f.1.stands) f))

base_before : (es : List EnumType) (cs : ℕ) (q : List ℕ) (n : ℕ) (gs : List GlobalName) → GlobalsAre es cs gs → FoundBefore cs (find_from (λ (g : GlobalName). g.name) q n gs)
base_before es cs q n [] h = tt
base_before es cs q n (g ∷ gs) h =
    one_of (FoundBefore cs) (is_same q g.name) (Some (n, g)) (find_from (λ (g : GlobalName). g.name) q (n + 1) gs) (class_before es cs g.stands h.0) (base_before es cs q (n + 1) gs h.1)

base_is_before : (es : List EnumType) (cs : ℕ) (text : ℕ → List ℕ) (gs : List GlobalName) (b : Option ℕ) → GlobalsAre es cs gs → BaseIsBefore cs (spec.base_at text gs b)
base_is_before es cs text gs None h = tt
base_is_before es cs text gs (Some name) h = base_before es cs (text name) 0 gs h

-- ---- one more class

pub get_before : {A : Type 0} (xs ys : List A) (k : ℕ) → k < length xs → slice_get (xs ++ ys) k ≡ slice_get xs k
get_before [] ys k h = absurd (omega (arith, h))
get_before (x ∷ xs) ys zero h = refl
get_before (x ∷ xs) ys (suc k) h = get_before xs ys k (omega (arith, h))

pub props_kept : (cs ys : List ClassName) (k : ℕ) (b : Option ℕ) → BaseIsBefore k b → k ≤ length cs → props_at (cs ++ ys) b ≡ props_at cs b
props_kept cs ys k None h l = refl
props_kept cs ys k (Some b) h l = ap props_of (get_before cs ys b (omega (arith, h, l)))

class_kept : (es : List EnumType) (cs ys : List ClassName) (k : ℕ) (c : ClassName) → k ≤ length cs → ClassIs es cs k c → ClassIs es (cs ++ ys) k c
class_kept es cs ys k c l h =
    let same : props_at (cs ++ ys) c.base ≡ props_at cs c.base = props_kept cs ys k c.base h.base l in
    record {
      base = h.base;
      own = h.own;
      homes = h.homes;
      flat = h.flat ∙ ap (λ (ps : List PropName). ps ++ h.own) (sym same);
      inherited = h.inherited ∙ ap (λ (ps : List PropName). length ps) (sym same);
      props = h.props;
      places = h.places;
      differ = h.differ;
      few = h.few;
      few_arrays = h.few_arrays;
    }

classes_kept : (es : List EnumType) (cs ys : List ClassName) (k : ℕ) (ds : List ClassName) → k + length ds ≤ length cs → EachFrom (ClassIs es cs) k ds → EachFrom (ClassIs es (cs ++ ys)) k ds
classes_kept es cs ys k [] l h = tt
classes_kept es cs ys k (d ∷ ds) l h = (class_kept es cs ys k d (first k (length ds) (length cs) l) h.0, classes_kept es cs ys (k + 1) ds (rest k (length ds) (length cs) l) h.1)
  where
    first : (k n m : ℕ) → k + suc n ≤ m → k ≤ m
    first k n m l = omega (arith, l)

    rest : (k n m : ℕ) → k + suc n ≤ m → (k + 1) + n ≤ m
    rest k n m l = omega (arith, l)

each_from_last : {A : Type 0} (P : ℕ → A → Type 0) (k : ℕ) (xs : List A) (x : A) → EachFrom P k xs → ((n : ℕ) → n ≡ k + length xs → P n x) → EachFrom P k (xs ++ x ∷ [])
each_from_last P k [] x h i = (i k (let e : k ≡ k + 0 = omega arith in e), tt)
each_from_last P k (y ∷ xs) x h i = (h.0, each_from_last P (k + 1) xs x h.1 (λ n e. i n (e ∙ moved k (length xs))))
  where
    moved : (k n : ℕ) → (k + 1) + n ≡ k + suc n
    moved k n = omega arith

global_up : (es : List EnumType) (cs : ℕ) (g : Global) → GlobalIs es cs g → GlobalIs es (suc cs) g
global_up es cs (global.OfType kind) h = h
global_up es cs (global.OfClass c) h = omega (arith, h)
global_up es cs (global.OfMember v kind) h = h

class_is : (es : List EnumType) (cs : List ClassName) (base : Option ℕ) (q : List ℕ) (e : Body) (own : List PropName) → Each (λ (p : PropName). p.property.home ≡ length cs) own → BaseIsBefore (length cs) base → e.props ≡ props_at cs base ++ own → Inherits es e.props
    → (n : ℕ) → n ≡ 0 + length cs → ClassIs es (cs ++ spec.class_name cs base q e ∷ []) n (spec.class_name cs base q e)
class_is es cs base q e own homes before flat is n here =
    let x : ClassName = spec.class_name cs base q e in
    let same : props_at (cs ++ x ∷ []) base ≡ props_at cs base = props_kept cs (x ∷ []) (length cs) base before (omega arith) in
    let number : length cs ≡ n = (let z : length cs ≡ 0 + length cs = omega arith in z) ∙ sym here in
    record {
      base = subst (λ (k : ℕ). BaseIsBefore k base) number before;
      own = own;
      homes = subst (λ (k : ℕ). Each (λ (p : PropName). p.property.home ≡ k) own) number homes;
      flat = flat ∙ ap (λ (ps : List PropName). ps ++ own) (sym same);
      inherited = ap (λ (ps : List PropName). length ps) (sym same);
      props = is.props;
      places = is.places;
      differ = is.differ;
      few = is.few;
      few_arrays = is.few_arrays;
    }

class_decl_are : (text : ℕ → List ℕ) (s : GlobalsElab (Option Fault)) (c : ClassTree) → (s.faults ≡ None → HeadsAre text s) → (spec.class_decl first_one s c).faults ≡ None → HeadsAre text (spec.class_decl first_one s c)
class_decl_are text s c before f =
    let cs : List ClassName = s.names.classes in
    let h : Head = spec.class_head s c in
    let e : Body = spec.class_body first_one h c.items in
    let base : Option ℕ = spec.base_at s.names.text s.names.globals c.base in
    let q : List ℕ = s.names.text c.name in
    let x : ClassName = spec.class_name cs base q e in
    let w1 : Option Fault = spec.base_faults first_one s.names.text s.names.globals c.base in
    let w2 : Option Fault = types.double first_one s.names c.name in
    let w3 : Option Fault = spec.label_faults first_one s.names.text c.name c.label in
    let f1 : earlier w1 (earlier w2 (earlier e.faults w3)) ≡ None = none_right s.faults (earlier w1 (earlier w2 (earlier e.faults w3))) f in
    let f2 : earlier w2 (earlier e.faults w3) ≡ None = none_right w1 (earlier w2 (earlier e.faults w3)) f1 in
    let f3 : earlier e.faults w3 ≡ None = none_right w2 (earlier e.faults w3) f2 in
    let i : HeadsAre text s = before (none_left s.faults (earlier w1 (earlier w2 (earlier e.faults w3))) f) in
    let up : GlobalsAre s.enums (suc (length cs)) s.names.globals = each_to (λ (g : GlobalName). GlobalIs s.enums (length cs) g.stands) (λ (g : GlobalName). GlobalIs s.enums (suc (length cs)) g.stands) (λ g k. global_up s.enums (length cs) g.stands k) s.names.globals i.globals in
    let gs : List GlobalName = and_name s.names.globals q (global.OfClass (length cs)) in
    let globals : GlobalsAre s.enums (suc (length cs)) gs = and_global s.enums (suc (length cs)) s.names.globals q (global.OfClass (length cs)) up (omega arith) in
    let inherits : Inherits s.enums (props_at cs base) = base_inherits s.enums cs i.classes base in
    let start : Body = spec.class_start first_one cs base in
    let begun : BodyIs h start = record {
      own = [];
      homes = tt;
      flat = sym (append-nil (props_at cs base));
      named = λ r t. absurd (true≢false (sym t));
      props = inherits.props;
      fresh = fresh_at cs i.fresh base;
      places = inherits.places;
      differ = inherits.differ;
      few = inherits.few;
      counted = refl;
      few_arrays = inherits.few_arrays;
    } in
    let b : BodyIs h e = class_items h (suc (length cs)) globals c.items start (λ g. begun) (none_left e.faults w3 f3) in
    let own : Inherits s.enums e.props = record { props = b.props; places = b.places; differ = b.differ; few = b.few; few_arrays = b.few_arrays } in
    record {
      place = ap (λ (t : Space). record t { globals = gs; classes = cs ++ x ∷ [] }) i.place;
      globals = subst (λ (n : ℕ). GlobalsAre s.enums n gs) (sym (length_last cs x)) globals;
      enums = i.enums;
      classes =
          each_from_last (ClassIs s.enums (cs ++ x ∷ [])) 0 cs x (classes_kept s.enums cs (x ∷ []) 0 cs (omega arith) i.classes)
          (class_is s.enums cs base q e b.own b.homes (base_is_before s.enums (length cs) s.names.text s.names.globals c.base i.globals) b.flat own);
      fresh = each_last (λ (c : ClassName). Each Fresh c.props) cs x i.fresh b.fresh;
    }

-- ---- types and classes in their order

pub heads_are : (text : ℕ → List ℕ) (os : List Top) (ts : List TypeTree) (cs : List ClassTree) (s : GlobalsElab (Option Fault)) → tokens.Each IsTypedef ts → (s.faults ≡ None → HeadsAre text s)
    → (types_and_classes first_one s os ts cs).faults ≡ None → HeadsAre text (types_and_classes first_one s os ts cs)
heads_are text [] ts cs s is before f = before f
heads_are text (top.OfType ∷ os) [] cs s is before f = heads_are text os [] cs s is before f
heads_are text (top.OfType ∷ os) (t ∷ ts) cs s is before f = heads_are text os ts cs (types.type_decl first_one s t) is.1 (λ g. type_decl_are text s t is.0 before g) f
heads_are text (top.OfClass ∷ os) ts [] s is before f = heads_are text os ts [] s is before f
heads_are text (top.OfClass ∷ os) ts (c ∷ cs) s is before f = heads_are text os ts cs (spec.class_decl first_one s c) is (λ g. class_decl_are text s c before g) f

pub no_heads : (text : ℕ → List ℕ) (s : GlobalsElab (Option Fault)) → s ≡ (let n : GlobalsElab (Option Fault) = record { names = declaring text [] []; enums = []; faults = None } in n) → HeadsAre text s
no_heads text s e = let P : GlobalsElab (Option Fault) → Type 0 = HeadsAre text in subst P (sym e) (record { place = refl; globals = tt; enums = tt; classes = tt; fresh = tt })
