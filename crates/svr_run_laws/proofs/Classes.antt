-- The classes of a lawful design with what they inherit.
use Rattle.std.proofs.Common.{◌≡◌, ◌<◌, ◌≤◌, ℕ, zero, suc, ◌+◌, not, refl, sym, ◌∙◌, ap, subst, List, [], ◌∷◌, ◌++◌, length, Option, None, Some, arith}
use Rattle.std.specs.Prelude.{slice_get}
use Rattle.std.specs.List.{All}
use Rattle.std.proofs.lemmas.List.Elements.{All-nil, All-cons, All-head, All-tail, All-append, All-filter}
use Rattle.std.proofs.lemmas.Option.{slice_get_within}
use Rattle.svr_typed.specs.declared.Prop.{Prop}
use Rattle.svr_typed.specs.declared.TVar.{TVar}
use Rattle.svr_typed.specs.declared.VarKind.{VarKind}
use Rattle.svr_typed.specs.declared.VarKind.TheVariants as var_kind
use Rattle.svr_typed.specs.ClassTerm.{BlockTerm, FlatTerm, ClassTerm}
use Rattle.svr_typed.specs.StmtTerm.{DesignTerm}
use Rattle.svr_flat.specs.Flat.{has_block, not_replaced, derived_class, flat_class_of}
use Rattle.svr_flat.proofs.Flattened.{over_base, over_none}
use Rattle.svr_world.specs.World.{declared_classes}
use Rattle.svr_world.specs.World as world
use Rattle.svr_script.specs.Statement.{class_of_var, flat_of_var}
use Rattle.svr_design.specs.Types.{IsProp}
use Rattle.svr_design.specs.Statements.{kind_class, variable_class, flat_of, object_class, IsSomeClass, IsObject}
use Rattle.svr_design.specs.Lawful.{EachFrom, Every, BaseIsBefore, BlockStands, IsClass, VariableStands, IsLawful}
use Rattle.svr_run_laws.proofs.Found.{mapped_at, there, one_there, in_front}

-- ---- lists

pub all_every : {A : Type 0} (P : A → Type 0) (xs : List A) → Every P xs → All P xs
all_every P [] h = All-nil P
all_every P (x ∷ xs) h = All-cons P x xs h.0 (all_every P xs h.1)

pub every_at : {A : Type 0} (P : A → Type 0) (xs : List A) (i : ℕ) (x : A) → Every P xs → slice_get xs i ≡ Some x → P x
every_at P [] i x h e = absurd (cc)
every_at P (y ∷ xs) zero x h e = subst P (one_there (y ∷ xs) zero y x refl e) h.0
every_at P (y ∷ xs) (suc i) x h e = every_at P xs i x h.1 e

pub all_at : {A : Type 0} (P : A → Type 0) (xs : List A) (i : ℕ) (x : A) → All P xs → slice_get xs i ≡ Some x → P x
all_at P [] i x h e = absurd (cc)
all_at P (y ∷ xs) zero x h e = subst P (one_there (y ∷ xs) zero y x refl e) (All-head P y xs h)
all_at P (y ∷ xs) (suc i) x h e = all_at P xs i x (All-tail P y xs h) e

pub all_to : {A : Type 0} (P Q : A → Type 0) → ((x : A) → P x → Q x) → (xs : List A) → All P xs → All Q xs
all_to P Q f [] h = All-nil Q
all_to P Q f (x ∷ xs) h = All-cons Q x xs (f x (All-head P x xs h)) (all_to P Q f xs (All-tail P x xs h))

pub each_at : {A : Type 0} (P : ℕ → A → Type 0) (k : ℕ) (xs : List A) (i : ℕ) (x : A) → EachFrom P k xs → slice_get xs i ≡ Some x → P (k + i) x
each_at P k [] i x h e = absurd (cc)
each_at P k (y ∷ xs) zero x h e =
    let here : k ≡ k + 0 = omega arith in
    subst (λ (n : ℕ). P n x) here (subst (P k) (one_there (y ∷ xs) zero y x refl e) h.0)
each_at P k (y ∷ xs) (suc i) x h e =
    let moved : k + 1 + i ≡ k + suc i = omega arith in
    subst (λ (n : ℕ). P n x) moved (each_at P (k + 1) xs i x h.1 e)

pub each_here : {A : Type 0} (P : ℕ → A → Type 0) (xs : List A) (i : ℕ) (x : A) → EachFrom P 0 xs → slice_get xs i ≡ Some x → P i x
each_here P xs i x h e =
    let here : 0 + i ≡ i = omega arith in
    subst (λ (n : ℕ). P n x) here (each_at P 0 xs i x h e)

-- ---- a block stands in a class where it stands among its first properties

abbrev pub GoesOn : List Prop → List Prop → Type 0
GoesOn ps qs = (p : ℕ) (x : Prop) → slice_get ps p ≡ Some x → slice_get qs p ≡ Some x

abbrev pub StandsIn : List Prop → BlockTerm → Type 0
StandsIn props b = (ps : List Prop) × GoesOn ps props × BlockStands ps b

own_stand : (ps qs : List Prop) → ps ≡ qs → (bs : List BlockTerm) → Every (BlockStands ps) bs → All (StandsIn qs) bs
own_stand ps qs e [] h = All-nil (StandsIn qs)
own_stand ps qs e (b ∷ bs) h = All-cons (StandsIn qs) b bs (ps, (λ p x at. ap (λ (rs : List Prop). slice_get rs p) (sym e) ∙ at), h.0) (own_stand ps qs e bs h.1)

still_stands : (ps own : List Prop) (b : BlockTerm) → StandsIn ps b → StandsIn (ps ++ own) b
still_stands ps own b h = (h.0, (λ p x at. in_front ps own p x (h.1 p x at)), h.2)

-- ---- properties and blocks are lawful where they are inherited too

module _ (d : DesignTerm) where
  pub record IsFlat (f : FlatTerm) : Type 0 where
    pub props : All (IsProp d.enums) f.props
    pub blocks : All (StandsIn f.props) f.blocks

  pub class_at : IsLawful d → (k : ℕ) (c : ClassTerm) → slice_get d.classes k ≡ Some c → IsClass d k c
  class_at l k c at = each_here (IsClass d) d.classes k c l.classes at

  first_is : (k : ℕ) (c : ClassTerm) → slice_get d.classes k ≡ Some c → IsClass d k c → c.base ≡ None → IsFlat (flat_class_of d.classes k)
  first_is k c at is none =
      let e : flat_class_of d.classes k ≡ record { props = c.props; blocks = c.blocks } = over_none d.classes k c at none in
      subst IsFlat (sym e) (record {
        props = all_every (IsProp d.enums) c.props is.props;
        blocks = own_stand (flat_class_of d.classes k).props c.props (ap (λ (f : FlatTerm). f.props) e) c.blocks is.blocks;
      })

  derived_is : (k b : ℕ) (c : ClassTerm) → slice_get d.classes k ≡ Some c → IsClass d k c → c.base ≡ Some b → b < k → IsFlat (flat_class_of d.classes b) → IsFlat (flat_class_of d.classes k)
  derived_is k b c at is over less base =
      let g : FlatTerm = flat_class_of d.classes b in
      let e : flat_class_of d.classes k ≡ derived_class g c = over_base d.classes k b c at over less in
      let kept : All (StandsIn (g.props ++ c.props)) (not_replaced c.blocks g.blocks) =
      All-filter (λ (x : BlockTerm). not (has_block x.name c.blocks)) (StandsIn (g.props ++ c.props)) g.blocks (all_to (StandsIn g.props) (StandsIn (g.props ++ c.props)) (still_stands g.props c.props) g.blocks base.blocks) in
      subst IsFlat (sym e) (record {
        props = All-append (IsProp d.enums) g.props c.props base.props (all_every (IsProp d.enums) c.props is.props);
        blocks = All-append (StandsIn (g.props ++ c.props)) (not_replaced c.blocks g.blocks) c.blocks kept
            (own_stand (flat_class_of d.classes k).props (g.props ++ c.props) (ap (λ (f : FlatTerm). f.props) e) c.blocks is.blocks);
      })

  one_is : (k : ℕ) (c : ClassTerm) → slice_get d.classes k ≡ Some c → IsClass d k c → ((b : ℕ) → b < k → IsFlat (flat_class_of d.classes b)) → (o : Option ℕ) → c.base ≡ o → IsFlat (flat_class_of d.classes k)
  one_is k c at is before None e = first_is k c at is e
  one_is k c at is before (Some b) e = let less : b < k = subst (BaseIsBefore k) e is.base in derived_is k b c at is e less (before b less)

  flats_below : IsLawful d → (n k : ℕ) → k < n → k < length d.classes → IsFlat (flat_class_of d.classes k)
  flats_below l zero k lt le = absurd (omega (arith, lt))
  flats_below l (suc n) k lt le =
      let c = there d.classes k le in
      one_is k c.0 c.1 (class_at l k c.0 c.1) (λ b less. flats_below l n b (omega (arith, lt, less)) (omega (arith, le, less))) c.0.base refl

  pub flat_is : IsLawful d → (k : ℕ) → k < length d.classes → IsFlat (flat_class_of d.classes k)
  flat_is l k le = flats_below l (suc k) k (omega arith) le

  -- ---- object variables

  -- its class, with what it inherits
  pub record HoldsObjects (o : ℕ) : Type 0 where
    pub known : variable_class (slice_get d.vars o) ≡ Some (class_of_var d o)
    pub less : class_of_var d o < length d.classes
    pub within : o < length d.vars

  some_kind : (k : VarKind) → IsSomeClass (kind_class k) → VariableStands d k → (kind_class k ≡ Some (world.kind_class k)) × (world.kind_class k < length d.classes)
  some_kind (var_kind.Number t) h s = absurd h
  some_kind (var_kind.Object c) h s = (refl, s)

  found : (o : ℕ) (v : Option TVar) → slice_get d.vars o ≡ v → IsSomeClass (variable_class v) → (x : TVar) × (slice_get d.vars o ≡ Some x) × IsSomeClass (kind_class x.kind)
  found o None e h = absurd h
  found o (Some x) e h = (x, e, h)

  pub holds_objects : IsLawful d → (o : ℕ) → IsObject d o → HoldsObjects o
  holds_objects l o h =
      let x = found o (slice_get d.vars o) refl h in
      let k = some_kind x.0.kind x.2 (every_at (λ (v : TVar). VariableStands d v.kind) d.vars o x.0 l.vars x.1) in
      let is : class_of_var d o ≡ world.kind_class x.0.kind = mapped_at (λ (v : TVar). world.kind_class v.kind) 0 d.vars o x.0 x.1 in
      record {
        known = ap variable_class x.1 ∙ k.0 ∙ ap (λ (c : ℕ). Some c) (sym is);
        less = subst (λ (c : ℕ). c < length d.classes) (sym is) k.1;
        within = inside o x.0 x.1;
      }
    where
      inside : (o : ℕ) (x : TVar) → slice_get d.vars o ≡ Some x → o < length d.vars
      inside o x at = slice_get_within d.vars o x at

  pub same_class : (o : ℕ) → HoldsObjects o → object_class d o ≡ flat_of_var d o
  same_class o h = ap (flat_of d) h.known

  -- its class has at most 1,024 properties
  pub flat_few : IsLawful d → (o : ℕ) → HoldsObjects o → length (flat_of_var d o).props ≤ 1024
  flat_few l o h = let c = there d.classes (class_of_var d o) h.less in (class_at l (class_of_var d o) c.0 c.1).few
