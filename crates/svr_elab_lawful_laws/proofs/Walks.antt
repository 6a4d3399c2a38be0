-- A statement in which nothing is refused stands in the design.
use Rattle.std.proofs.Common.{◌≡◌, ℕ, zero, suc, ◌+◌, ◌-◌, ◌^◌, ◌<◌, ◌≤◌, min, ℤ, pos, negsuc, Bool, true, false, not, ◌||◌, nat_lt, if◌then◌else◌, List, [], ◌∷◌, ◌++◌, length, Option, None, Some, option_map, is_none, refl, sym, ap, subst, ◌∙◌, true≢false, arith}
use Rattle.std.specs.Prelude.{⊤, slice_get, MatchOption, nat_eq, int_lt}
use Rattle.std.specs.List.{list_any}
use Rattle.std.proofs.lemmas.Bool.Decides.{Decides-eqb, nat_tests}
use Rattle.std.proofs.lemmas.Slice.Eq.{slice_eq-Decides}
use Rattle.std.proofs.lemmas.Int.{ints}
use Rattle.svr_limits.specs.declared.limit.TheConstants.{ELEMENT_LIMIT}
use Rattle.svr_typed.specs.declared.ArrayKind.TheVariants as array
use Rattle.svr_typed.specs.declared.CallList.{CallList}
use Rattle.svr_typed.specs.declared.Prop.{Prop}
use Rattle.svr_typed.specs.ExprTerm.{ExprTerm, exprs_of}
use Rattle.svr_typed.specs.ItemTerm.{ItemTerm, items_of}
use Rattle.svr_typed.specs.ClassTerm.{FlatTerm}
use Rattle.svr_typed.specs.StmtTerm as stmt_term
use Rattle.svr_typed.specs.StmtTerm.{StmtTerm, DesignTerm}
use Rattle.svr_tree.specs.declared.RandomizeArgs.{RandomizeArgs}
use Rattle.svr_tree.specs.declared.RandomizeArgs.TheVariants as args
use Rattle.svr_tree.specs.declared.ModeKind.{ModeKind}
use Rattle.svr_tree.specs.declared.ModeKind.TheVariants as mode_kind
use Rattle.svr_tree.specs.ExprTree as raw
use Rattle.svr_tree.specs.ExprTree.{ExprTree, ExprTrees}
use Rattle.svr_tree.specs.ItemTree.{ItemTrees}
use Rattle.svr_tree.specs.StmtTree as tree
use Rattle.svr_tree.specs.StmtTree.{StmtTree, StmtTrees, RightTree, RandomizeTree}
use Rattle.svr_refusal.specs.declared.Refusal.TheVariants as refusal
use Rattle.svr_flat.specs.Flat.{flat_class_of}
use Rattle.svr_eval.specs.Typed.{IsTyped, AreTyped}
use Rattle.svr_eval.specs.Holds.{ItemsAreTyped}
use Rattle.svr_design.specs.Types.{AllBelow, AllDiffer}
use Rattle.svr_design.specs.Constraints.{ItemsStand}
use Rattle.svr_design.specs.Statements as design
use Rattle.svr_design.specs.Statements.{IsObject, IsSomeClass, IsPlace, IsAnswer, IsDynamic, IsPattern, PatternFits, IsBelow, IsList, IsCall, object_props, object_class, flat_of, variable_class, Reads, AllRead, Value, many, StmtStands, AllStmtsStand}
use Rattle.svr_elab_fault.specs.declared.Fault.{Fault}
use Rattle.svr_elab_fault.specs.Refusals.{first_one, when, earlier}
use Rattle.svr_elab_names.specs.declared.Dims.{Dims}
use Rattle.svr_elab_names.specs.declared.Dims.TheVariants as dims
use Rattle.svr_elab_names.specs.declared.Vector.{Vector}
use Rattle.svr_elab_names.specs.declared.Property.{Property}
use Rattle.svr_elab_names.specs.declared.VarStand.{VarStand}
use Rattle.svr_elab_names.specs.declared.VarStand.TheVariants as stand
use Rattle.svr_elab_names.specs.Names.{Space, PropName, VarName, is_same, is_array, find_from, property_named, class_props}
use Rattle.svr_elab_part.specs.declared.part.Extent.{Extent}
use Rattle.svr_elab_part.specs.declared.part.Extent.TheVariants as extent
use Rattle.svr_elab_part.specs.declared.part.Root.{Root}
use Rattle.svr_elab_part.specs.declared.part.Root.TheVariants as root
use Rattle.svr_elab_part.specs.Fits.{Each, LiteralsFit}
use Rattle.svr_elab_part.specs.Elab.{Elab, elab, plain, value}
use Rattle.svr_elab_part.specs.Shapes.{both_known, and_more, inner_of, count_of}
use Rattle.svr_elab_part.specs.Forms.{is_single, is_object}
use Rattle.svr_elab_part.proofs.Valued.{none_left, none_right, not_when}
use Rattle.svr_elab_part.proofs.Looked.{OptionIs}
use Rattle.svr_elab_type.specs.Types.{Constant, constant_at, elements, is_below}
use Rattle.svr_elab_target.specs.declared.target.Target.{Target}
use Rattle.svr_elab_target.specs.declared.target.Target.TheVariants as target
use Rattle.svr_elab_target.specs.Targets as targets
use Rattle.svr_elab_target.specs.Targets.{target_of, root_target}
use Rattle.svr_elab_target.specs.Named as called
use Rattle.svr_elab_target.specs.Named.{ObjectPath, object_path, with_made, in_line_space, misplaced, use_faults, unknown_at, wrong_rest, list_faults, names_faults, name_faults, and_listed, answer_faults, call_list_of, numbers_of, member_number, mode_member, property_number}
use Rattle.svr_elab_target.specs.Blocks.{class_blocks, block_number}
use Rattle.svr_elab_item.specs.Items.{ItemsElab, items, no_items, outside}
use Rattle.svr_elab_stmt.specs.Fits.{ValuesFit, RightFits, StmtFits, StmtsFit}
use Rattle.svr_elab_stmt.specs.Stmts as spec
use Rattle.svr_elab_stmt.specs.Stmts.{StmtElab, StmtsElab, ValuesElab}
use Rattle.svr_elab.specs.Script.{array_kind}
use Rattle.svr_elab_expr_laws.proofs.Ready.{accepted_is_typed}
use Rattle.svr_elab_stand_laws.specs.Stand.{There}
use Rattle.svr_elab_lawful_laws.specs.Declared.{PlacedFrom}
use Rattle.svr_elab_lawful_laws.specs.Reads.{IsVar, IsThere, ArrayThere}
use Rattle.svr_elab_lawful_laws.specs.Walks.{SetIs, RightSet, SetsAre, AllSetsAre, StatementPlace, SetsStand, AcceptedStatementsStand}
use Rattle.svr_elab_lawful_laws.proofs.Classes.{any_append}
use Rattle.svr_elab_lawful_laws.proofs.Declarations.{some_same}
use Rattle.svr_elab_lawful_laws.proofs.Found.{StandsAt, MeantAt, object_stands}
use Rattle.svr_elab_lawful_laws.proofs.Trees.{Rooted, elab_rooted, fits_there, plain_clear}
use Rattle.svr_elab_lawful_laws.proofs.Reading.{Standing, elab_reads, accepted_reads}
use Rattle.svr_elab_lawful_laws.proofs.Lefts.{ShapedRoot, elab_shaped, place_good, PlaceOf, TargetIs, target_is, elab_plain, answer_is}

-- ---- numbers

at_most : (t a : ℕ) → int_lt (pos t) (pos a) ≡ false → a ≤ t
at_most t a h = grind (arith, ints, h)

few_of : (n : ℕ) → n ≤ 2048 → min n (2 ^ 32 - 1) ≤ 2048
few_of n h = omega (arith, h)

size_few : (z : ℤ) → spec.is_above (pos 2048) (Some z) ≡ false → elements z ≤ 2048
size_few (pos n) h = few_of n (at_most 2048 n h)
size_few (negsuc n) h = few_of 0 (omega arith)

counted : (n : ℕ) → min n (2 ^ 32 - 1) < 2 ^ 32
counted n = omega arith

count_few : (z : ℤ) → elements z < 2 ^ 32
count_few z = counted (count_of z)

nat_apart : (b : Bool) (x y : ℕ) → nat_eq x y ≡ b → (x ≡ y → ⊥) → b ≡ false
nat_apart true x y e h = absurd (h ((Decides-eqb x y).0 e))
nat_apart false x y e h = refl

not_not : (b : Bool) → not b ≡ false → b ≡ true
not_not true h = refl
not_not false h = absurd (true≢false h)

not_other : (k n : ℕ) → not (nat_eq k n) ≡ false → k ≡ n
not_other k n h = (Decides-eqb k n).0 (not_not (nat_eq k n) h)

same_text : (x y : List ℕ) → is_same x y ≡ true → x ≡ y
same_text x y e = (slice_eq-Decides Decides-eqb x y (is_same x y) refl).0 e

get_below : {A : Type 0} (xs : List A) (k : ℕ) (x : A) → slice_get xs k ≡ Some x → k < length xs
get_below [] k x e = absurd (let f : None ≡ Some x = e in cc)
get_below (y ∷ xs) zero x e = omega arith
get_below (y ∷ xs) (suc k) x e = let h : k < length xs = get_below xs k x e in omega (arith, h)

-- ---- names of a class

-- the entry that a name stands for, which has its place as its number
record NamedIs (ps : List PropName) (q : List ℕ) (p : Property) : Type 0 where
  pub entry : PropName
  pub there : slice_get ps p.number ≡ Some entry
  pub same : is_same q entry.name ≡ true

named_from : (q : List ℕ) (all : List PropName) (n : ℕ) (ps : List PropName) → ((k : ℕ) → slice_get all (n + k) ≡ slice_get ps k) → PlacedFrom n ps → OptionIs (λ p. NamedIs all q p) (option_map (λ f. f.1.property) (find_from (λ (p : PropName). p.name) q n ps))
named_from q all n [] at h = tt
named_from q all n (p ∷ ps) at h = one (is_same q p.name) refl (named_from q all (n + 1) ps (λ k. ap (slice_get all) (moved n k) ∙ at (suc k)) h.1)
  where
    moved : (n k : ℕ) → (n + 1) + k ≡ n + suc k
    moved n k = omega arith

    first : slice_get all p.property.number ≡ Some p
    first = ap (slice_get all) (h.0 ∙ (let e : n ≡ n + 0 = omega arith in e)) ∙ at 0

    one : (b : Bool) → is_same q p.name ≡ b → OptionIs (λ p. NamedIs all q p) (option_map (λ f. f.1.property) (find_from (λ (p : PropName). p.name) q (n + 1) ps))
        → OptionIs (λ p. NamedIs all q p) (option_map (λ f. f.1.property) (if b then Some (n, p) else find_from (λ (p : PropName). p.name) q (n + 1) ps))
    one true e k = record { entry = p; there = first; same = e }
    one false e k = k

named_is : (ps : List PropName) (q : List ℕ) → PlacedFrom 0 ps → OptionIs (λ p. NamedIs ps q p) (property_named ps q)
named_is ps q h = named_from q ps 0 ps (λ k. ap (slice_get ps) (let e : 0 + k ≡ k = omega arith in e)) h

-- the names that were seen have one of this place
abbrev SeenAt : List PropName → List (List ℕ) → ℕ → Type 0
SeenAt ps seen k = (x : PropName) × (slice_get ps k ≡ Some x) × (list_any (is_same x.name) seen ≡ true)

record NumbersAre (ps : List PropName) (seen : List (List ℕ)) (ns : List ℕ) : Type 0 where
  pub below : AllBelow (length ps) ns
  pub differ : AllDiffer ns
  pub seen_at : Each (SeenAt ps seen) ns

below_last : (n : ℕ) (xs : List ℕ) (x : ℕ) → AllBelow n xs → x < n → AllBelow n (xs ++ x ∷ [])
below_last n [] x h k = (k, tt)
below_last n (y ∷ xs) x h k = (h.0, below_last n xs x h.1 k)

or_left : (a b : Bool) → (a || b) ≡ false → a ≡ false
or_left true b h = absurd (true≢false h)
or_left false b h = refl

or_right : (a b : Bool) → (a || b) ≡ false → b ≡ false
or_right true b h = absurd (true≢false h)
or_right false b h = h

or_none : (a b : Bool) → a ≡ false → b ≡ false → (a || b) ≡ false
or_none a b h k = ap (λ (x : Bool). x || b) h ∙ k

flipped : (x y : ℕ) → nat_eq x y ≡ false → nat_eq y x ≡ false
flipped x y h = nat_apart (nat_eq y x) y x refl (λ e. true≢false (sym ((Decides-eqb x y).1 (sym e)) ∙ h))

differ_last : (xs : List ℕ) (x : ℕ) → AllDiffer xs → list_any (nat_eq x) xs ≡ false → AllDiffer (xs ++ x ∷ [])
differ_last [] x h k = (refl, tt)
differ_last (y ∷ xs) x h k = (
  any_append (nat_eq y) xs (x ∷ []) ∙ or_none (list_any (nat_eq y) xs) (nat_eq y x || false) h.0 (or_none (nat_eq y x) false (flipped x y (or_left (nat_eq x y) (list_any (nat_eq x) xs) k)) refl),
  differ_last xs x h.1 (or_right (nat_eq x y) (list_any (nat_eq x) xs) k),
)

each_last : {A : Type 0} (P : A → Type 0) (xs : List A) (x : A) → Each P xs → P x → Each P (xs ++ x ∷ [])
each_last P [] x h k = (k, tt)
each_last P (y ∷ xs) x h k = (h.0, each_last P xs x h.1 k)

each_to : {A : Type 0} (P Q : A → Type 0) (f : (x : A) → P x → Q x) (xs : List A) → Each P xs → Each Q xs
each_to P Q f [] h = tt
each_to P Q f (x ∷ xs) h = (f x h.0, each_to P Q f xs h.1)

or_more : (a b : Bool) → a ≡ true → (a || b) ≡ true
or_more a b h = ap (λ (x : Bool). x || b) h

or_last : (a b : Bool) → b ≡ true → (a || (b || false)) ≡ true
or_last true b h = refl
or_last false b h = or_more b false h

-- a number that has been seen has a name that has been
not_seen : (ps : List PropName) (seen : List (List ℕ)) (q : List ℕ) (i : ℕ) (x : PropName) (ns : List ℕ) → slice_get ps i ≡ Some x → is_same q x.name ≡ true → list_any (is_same q) seen ≡ false → Each (SeenAt ps seen) ns → list_any (nat_eq i) ns ≡ false
not_seen ps seen q i x [] e s n h = refl
not_seen ps seen q i x (k ∷ ns) e s n h = or_none (nat_eq i k) (list_any (nat_eq i) ns) (nat_apart (nat_eq i k) i k refl (λ g. apart g)) (not_seen ps seen q i x ns e s n h.1)
  where
    apart : i ≡ k → ⊥
    apart g =
        let same : x ≡ h.0.0 = some_same x h.0.0 (sym e ∙ ap (slice_get ps) g ∙ h.0.1) in
        let name : q ≡ x.name = same_text q x.name s in
        true≢false (sym h.0.2 ∙ ap (λ (y : PropName). list_any (is_same y.name) seen) (sym same) ∙ ap (λ (r : List ℕ). list_any (is_same r) seen) (sym name) ∙ n)

numbered_more : (ps : List PropName) (seen : List (List ℕ)) (q : List ℕ) (p : Property) (ns : List ℕ) → NumbersAre ps seen ns → NamedIs ps q p → list_any (is_same q) seen ≡ false → NumbersAre ps (and_listed seen q) (ns ++ p.number ∷ [])
numbered_more ps seen q p ns h k n =
    let grown : and_listed seen q ≡ seen ++ q ∷ [] = ap (λ (b : Bool). if b then seen else seen ++ q ∷ []) n in
    let name : q ≡ k.entry.name = same_text q k.entry.name k.same in
    let here : list_any (is_same k.entry.name) (seen ++ q ∷ []) ≡ true =
    any_append (is_same k.entry.name) seen (q ∷ []) ∙ or_last (list_any (is_same k.entry.name) seen) (is_same k.entry.name q) (subst (λ (r : List ℕ). is_same r q ≡ true) name (subst (λ (r : List ℕ). is_same q r ≡ true) (sym name) k.same)) in
    record {
      below = below_last (length ps) ns p.number h.below (get_below ps p.number k.entry k.there);
      differ = differ_last ns p.number h.differ (not_seen ps seen q p.number k.entry ns k.there k.same n h.seen_at);
      seen_at = subst (λ (s : List (List ℕ)). Each (SeenAt ps s) (ns ++ p.number ∷ [])) (sym grown)
          (each_last (SeenAt ps (seen ++ q ∷ [])) ns p.number
          (each_to (SeenAt ps seen) (SeenAt ps (seen ++ q ∷ [])) (λ i s. (s.0, s.1, any_append (is_same s.0.name) seen (q ∷ []) ∙ or_more (list_any (is_same s.0.name) seen) (list_any (is_same s.0.name) (q ∷ [])) s.2)) ns h.seen_at)
          (k.entry, k.there, here));
    }

names_clear : (text : ℕ → List ℕ) (ps : List PropName) (seen : List (List ℕ)) (start : Option Fault) (names : List ℕ) → names_faults first_one text ps seen start names ≡ None → start ≡ None
names_clear text ps seen start [] f = f
names_clear text ps seen start (name ∷ names) f = none_left start _ (names_clear text ps (and_listed seen (text name)) (earlier start (name_faults first_one ps seen name (text name))) names f)

numbered : (text : ℕ → List ℕ) (ps : List PropName) → PlacedFrom 0 ps → (names : List ℕ) (seen : List (List ℕ)) (start : Option Fault) (ns : List ℕ) → NumbersAre ps seen ns → names_faults first_one text ps seen start names ≡ None
    → AllBelow (length ps) (numbers_of text ps ns names) × AllDiffer (numbers_of text ps ns names)
numbered text ps placed [] seen start ns h f = (h.below, h.differ)
numbered text ps placed (name ∷ names) seen start ns h f =
    let q : List ℕ = text name in
    let own : Option Fault = name_faults first_one ps seen name q in
    let clear : own ≡ None = none_right start own (names_clear text ps (and_listed seen q) (earlier start own) names f) in
    let w1 : Option Fault = when first_one (is_none (property_named ps q)) name refusal.UnknownName in
    let w2 : Option Fault = when first_one (list_any (is_same q) seen) name refusal.DoubleName in
    next (property_named ps q) (not_when (is_none (property_named ps q)) name refusal.UnknownName (none_left w1 w2 clear)) (named_is ps q placed) (not_when (list_any (is_same q) seen) name refusal.DoubleName (none_right w1 w2 clear))
    (λ ms k. numbered text ps placed names (and_listed seen q) (earlier start own) ms k f)
  where
    next : (o : Option Property) → is_none o ≡ false → OptionIs (λ p. NamedIs ps (text name) p) o → list_any (is_same (text name)) seen ≡ false
        → ((ms : List ℕ) → NumbersAre ps (and_listed seen (text name)) ms → AllBelow (length ps) (numbers_of text ps ms names) × AllDiffer (numbers_of text ps ms names))
        → AllBelow (length ps) (numbers_of text ps (called.and_number o ns) names) × AllDiffer (numbers_of text ps (called.and_number o ns) names)
    next None e k n go = absurd (true≢false e)
    next (Some p) e k n go = go (ns ++ p.number ∷ []) (numbered_more ps seen (text name) p ns h k n)

-- ---- blocks of a class

found_below : (q : List ℕ) (n : ℕ) (bs : List (List ℕ)) → OptionIs (λ (f : ℕ × List ℕ). f.0 < n + length bs) (find_from (λ b. b) q n bs)
found_below q n [] = tt
found_below q n (b ∷ bs) = one (is_same q b) (find_from (λ b. b) q (n + 1) bs) (found_below q (n + 1) bs)
  where
    first : (n k : ℕ) → n < n + suc k
    first n k = omega arith

    up : (i n k : ℕ) → i < (n + 1) + k → i < n + suc k
    up i n k h = omega (arith, h)

    later : (f : Option (ℕ × List ℕ)) → OptionIs (λ (f : ℕ × List ℕ). f.0 < (n + 1) + length bs) f → OptionIs (λ (f : ℕ × List ℕ). f.0 < n + suc (length bs)) f
    later None h = tt
    later (Some f) h = up f.0 n (length bs) h

    one : (t : Bool) (f : Option (ℕ × List ℕ)) → OptionIs (λ (f : ℕ × List ℕ). f.0 < (n + 1) + length bs) f → OptionIs (λ (f : ℕ × List ℕ). f.0 < n + suc (length bs)) (if t then Some (n, b) else f)
    one true f h = first n (length bs)
    one false f h = later f h

-- ---- the design

module _ (d : DesignTerm) where
  class_flat : (o c : ℕ) → variable_class (slice_get d.vars o) ≡ Some c → object_class d o ≡ flat_class_of d.classes c
  class_flat o c e = ap (flat_of d) e

  -- ---- places of statements

  pub made_place : (n : Space) (made : List ℕ) → StatementPlace d n → StatementPlace d (with_made n made)
  made_place n made h = record {
    stands = record { props = h.stands.props; later = h.stands.later; loops = h.stands.loops; classes = h.stands.classes; numbers = h.stands.numbers; objects = h.stands.objects };
    fits = record { globals = h.fits.globals; props = h.fits.props; classes = h.fits.classes; loops = h.fits.loops; vars = h.fits.vars };
    places = h.places;
    blocks = h.blocks;
  }

  -- ---- values

  abbrev pub Values : Option ExprTerm → Type 0
  Values t = OptionIs (Value d) t

  both_value : (t : Option ExprTerm) (P : ExprTerm → Type 0) → MatchOption t ⊤ (λ t. IsTyped t × P t) → MatchOption t ⊤ (λ t. Reads d t) → Values t
  both_value None P h k = tt
  both_value (Some t) P h k = (h.0, k)

  pub value_good : (n : Space) → StatementPlace d n → (e : ExprTree) → LiteralsFit e → (value first_one n e).faults ≡ None → Values (value first_one n e).tree
  value_good n h e l f = both_value (value first_one n e).tree _ (accepted_is_typed n e h.fits l f) (accepted_reads d n e h.stands h.fits l f)

  -- ---- left sides

  pub record LeftSide (x : Elab (Option Fault)) : Type 0 where
    pub rooted : Rooted x
    pub meant : x.faults ≡ None → TargetIs d (target_of x.form)
    pub place : (o : ℕ) (p : Property) → target_of x.form ≡ target.Place o p → x.faults ≡ None → OptionIs (λ t. IsObject d o × IsPlace d (slice_get (object_props d o) p.number) (spec.index_of t)) x.tree
    pub answer : targets.is_answer (target_of x.form) x.form.members ≡ true → IsAnswer d (targets.answer_number (target_of x.form))

  record FieldOf (b : Bool) (e : Extent) (r : Root) (o : ℕ) (p : Property) : Type 0 where
    pub at_bits : b ≡ false
    pub at_single : is_single e ≡ true
    pub at_root : r ≡ root.Field p (Some o)

  same_place : (a b : ℕ) (p q : Property) → target.Place a p ≡ target.Place b q → (a ≡ b) × (p ≡ q)
  same_place a b p q e = (cc, cc)

  field_of : (b : Bool) (e : Extent) (r : Root) (o : ℕ) (p : Property) → (if b then target.Nothing else root_target e r) ≡ target.Place o p → FieldOf b e r o p
  field_of true e r o p h = absurd (let k : target.Nothing ≡ target.Place o p = h in cc)
  field_of false e root.Nothing o p h = absurd (let k : target.Nothing ≡ target.Place o p = h in cc)
  field_of false e root.Refused o p h = absurd (let k : target.Nothing ≡ target.Place o p = h in cc)
  field_of false e root.Member o p h = absurd (let k : target.Nothing ≡ target.Place o p = h in cc)
  field_of false e (root.Variable v) o p h = absurd (let k : target.Variable v ≡ target.Place o p = h in cc)
  field_of false e (root.Field q None) o p h = absurd (let k : target.Nothing ≡ target.Place o p = h in cc)
  field_of false extent.Single (root.Field q (Some u)) o p h =
      let s = same_place u o q p h in
      record { at_bits = refl; at_single = refl; at_root = ap (λ (q : Property). root.Field q (Some u)) s.1 ∙ ap (λ (u : ℕ). root.Field p (Some u)) s.0 }
  field_of false extent.Row (root.Field q (Some u)) o p h = absurd (let k : target.Nothing ≡ target.Place o p = h in cc)
  field_of false extent.Whole (root.Field q (Some u)) o p h = absurd (let k : target.Array u q ≡ target.Place o p = h in cc)
  field_of false e (root.Object u c) o p h = absurd (let k : target.Object u ≡ target.Place o p = h in cc)

  placed_good : (o k : ℕ) (t : Option ExprTerm) → Values t → OptionIs (PlaceOf o k) t → OptionIs (λ t. IsObject d o × IsPlace d (slice_get (object_props d o) k) (spec.index_of t)) t
  placed_good o k None h e = tt
  placed_good o k (Some t) h e = place_good d o k t h e

  left_side : (n : Space) → StatementPlace d n → (e : ExprTree) → LiteralsFit e → LeftSide (elab first_one n e)
  left_side n h e l =
      let x : Elab (Option Fault) = elab first_one n e in
      let s : Standing d x = elab_reads d n h.stands h.fits e l in
      record {
        rooted = elab_rooted n e;
        meant = λ f. target_is d x.form.bits x.form.extent x.form.root x.reads.random x.form.low s.rooted s.reach;
        place = λ o p t f.
            let g : FieldOf x.form.bits x.form.extent x.form.root o p = field_of x.form.bits x.form.extent x.form.root o p t in
            let shaped = elab_shaped n e f g.at_bits g.at_single in
            let of_place : OptionIs (PlaceOf o p.number) x.tree = subst (λ (r : Root). ShapedRoot r x.tree) g.at_root shaped in
            placed_good o p.number x.tree (value_good n h e l (plain_clear x f g.at_single (ap (λ (r : Root). is_object r) g.at_root))) of_place;
        answer = λ a. answer_is d x (elab_plain d n h.stands h.fits e l) a;
      }

  -- ---- statements that assign

  abbrev pub StandsThere : Option StmtTerm → Type 0
  StandsThere t = OptionIs (StmtStands d) t

  set_var_stands : (v : ℕ) (e : Option ExprTerm) → design.IsNumber (slice_get d.vars v) → Values e → StandsThere (option_map (stmt_term.set_var v) e)
  set_var_stands v None h k = tt
  set_var_stands v (Some e) h k = (h, k)

  set_prop_stands : (o p : ℕ) (x e : Option ExprTerm) → OptionIs (λ t. IsObject d o × IsPlace d (slice_get (object_props d o) p) (spec.index_of t)) x → Values e → StandsThere (both_known (spec.set_property o p) x e)
  set_prop_stands o p None e h k = tt
  set_prop_stands o p (Some x) None h k = tt
  set_prop_stands o p (Some x) (Some e) h k = (h.0, h.1, k)

  set_stands : (t : Target) (x e : Option ExprTerm) → TargetIs d t → ((o : ℕ) (p : Property) → t ≡ target.Place o p → OptionIs (λ t. IsObject d o × IsPlace d (slice_get (object_props d o) p.number) (spec.index_of t)) x) → Values e → StandsThere (spec.set_tree t x e)
  set_stands target.Nothing x e h k l = tt
  set_stands (target.Object o) x e h k l = tt
  set_stands (target.Variable v) x e h k l = set_var_stands v e h l
  set_stands (target.Place o p) x e h k l = set_prop_stands o p.number x e (k o p refl) l
  set_stands (target.Array o p) x e h k l = tt

  pub given_stands : (x v : Elab (Option Fault)) → LeftSide x → ((plain first_one v).faults ≡ None → Values v.tree) → (spec.given first_one x v).faults ≡ None → StandsThere (spec.given first_one x v).tree
  given_stands x v h k f = either (targets.is_object (target_of v.form)) f
    where
      either : (b : Bool) → (if b then spec.copied first_one x v else spec.assigned first_one x (plain first_one v)).faults ≡ None → StandsThere (if b then spec.copied first_one x v else spec.assigned first_one x (plain first_one v)).tree
      either true g = tt
      either false g =
          let w : Elab (Option Fault) = plain first_one v in
          let clear : x.faults ≡ None = none_left x.faults _ g in
          set_stands (target_of x.form) x.tree w.tree (h.meant clear) (λ o p t. h.place o p t clear) (k (none_left w.faults _ (none_right x.faults _ g)))

  pub make_stands : (t : Target) → TargetIs d t → StandsThere (spec.make_tree t)
  make_stands target.Nothing h = tt
  make_stands (target.Object o) h = h
  make_stands (target.Variable v) h = tt
  make_stands (target.Place o p) h = tt
  make_stands (target.Array o p) h = tt

  dynamic_there : (p : Property) (q : Option Prop) → ArrayThere p q → targets.is_dynamic p.dims ≡ true → IsDynamic d q
  dynamic_there p None a h = absurd a
  dynamic_there p (Some q) a h = of_dims p.dims a h
    where
      of_dims : (ds : Dims) → array_kind ds ≡ Some q.array → targets.is_dynamic ds ≡ true → q.array ≡ array.Dynamic
      of_dims dims.Scalar a h = absurd (true≢false (sym h))
      of_dims (dims.Fixed n) a h = absurd (true≢false (sym h))
      of_dims (dims.Rows n m) a h = absurd (true≢false (sym h))
      of_dims dims.Dynamic a h = sym (some_same array.Dynamic q.array a)

  resized_stands : (o p : ℕ) (c : Option ℤ) → IsObject d o → IsDynamic d (slice_get (object_props d o) p) → spec.is_above (pos 2048) c ≡ false → StandsThere (option_map (λ c. stmt_term.resize o p (elements c)) c)
  resized_stands o p None h k f = tt
  resized_stands o p (Some c) h k f = (h, k, size_few c f)

  resize_stands : (t : Target) (c : Option ℤ) → TargetIs d t → targets.is_resizable t ≡ true → spec.is_above (pos 2048) c ≡ false → StandsThere (spec.resize_tree t c)
  resize_stands target.Nothing c h r f = tt
  resize_stands (target.Object o) c h r f = tt
  resize_stands (target.Variable v) c h r f = tt
  resize_stands (target.Place o p) c h r f = tt
  resize_stands (target.Array o p) c h r f = resized_stands o p.number c h.0.0 (dynamic_there p (slice_get (object_props d o) p.number) h.0.2 r) f

  -- ---- patterns

  abbrev Listed : ℕ → List ExprTerm → Type 0
  Listed n ts = AreTyped (exprs_of ts) × AllRead d (exprs_of ts) × (many d (exprs_of ts) ≡ n)

  listed_last : (ts : List ExprTerm) (t : ExprTerm) (n : ℕ) → Listed n ts → Value d t → Listed (n + 1) (ts ++ t ∷ [])
  listed_last [] t n h k = ((k.0, tt), (k.1, tt), one n h.2)
    where
      one : (n : ℕ) → 0 ≡ n → 0 + 1 ≡ n + 1
      one n e = omega (arith, e)
  listed_last (u ∷ ts) t n h k =
      let l : Listed (many d (exprs_of ts) + 1) (ts ++ t ∷ []) = listed_last ts t (many d (exprs_of ts)) (h.0.1, h.1.1, refl) k in
      ((h.0.0, l.0), (h.1.0, l.1), more (many d (exprs_of (ts ++ t ∷ []))) (many d (exprs_of ts)) n l.2 h.2)
    where
      more : (a b n : ℕ) → a ≡ b + 1 → b + 1 ≡ n → a + 1 ≡ n + 1
      more a b n e g = omega (arith, e, g)

  list_more : (ts : Option (List ExprTerm)) (t : Option ExprTerm) (n : ℕ) → OptionIs (Listed n) ts → Values t → OptionIs (Listed (n + 1)) (and_more ts t)
  list_more None t n h k = tt
  list_more (Some ts) None n h k = tt
  list_more (Some ts) (Some t) n h k = listed_last ts t n h k

  values_stand : (n : Space) → StatementPlace d n → (members : Option ℕ) (es : ExprTrees) (vs : ValuesElab (Option Fault)) → ValuesFit 0 es → (vs.faults ≡ None → OptionIs (Listed vs.many) vs.trees) → (spec.values first_one n members vs es).faults ≡ None
      → OptionIs (Listed (spec.values first_one n members vs es).many) (spec.values first_one n members vs es).trees
  values_stand n h members raw.no_exprs vs l k f = k f
  values_stand n h members (raw.more_exprs e es) vs l k f =
      let x : Elab (Option Fault) = value first_one n e in
      values_stand n h members es (spec.and_value first_one members vs x) l.1
      (λ g. list_more vs.trees x.tree vs.many (k (none_left vs.faults _ g)) (value_good n h e l.0.1 (none_left x.faults _ (none_right vs.faults _ g)))) f

  pattern_there : (p : Property) (q : Option Prop) (n : ℕ) → There p p.kind q → ArrayThere p q → is_array p.dims ≡ true → spec.has_rows p.dims ≡ false → spec.has_other_size p.dims n ≡ false → n ≤ 2048 → IsPattern d n q
  pattern_there p None n t a r h o f = absurd a
  pattern_there p (Some q) n t a r h o f = of_dims p.dims (inner_is p.kind t) a r h o
    where
      inner_is : (k : Option Vector) → There p k (Some q) → inner_of p.dims ≡ Some q.inner
      inner_is None t = absurd t
      inner_is (Some k) t = t.inner

      fixed_is : (b : Bool) (k : ℕ) → (if b then None else Some (array.Fixed k)) ≡ Some q.array → Some 1 ≡ Some q.inner → not (nat_eq n k) ≡ false → PatternFits d n q.inner q.array
      fixed_is true k e i o = absurd (let g : None ≡ Some q.array = e in cc)
      fixed_is false k e i o = subst (PatternFits d n q.inner) (some_same (array.Fixed k) q.array e) (not_other n k o, sym (some_same 1 q.inner i))

      of_dims : (ds : Dims) → inner_of ds ≡ Some q.inner → array_kind ds ≡ Some q.array → is_array ds ≡ true → spec.has_rows ds ≡ false → spec.has_other_size ds n ≡ false → PatternFits d n q.inner q.array
      of_dims dims.Scalar i a r h o = absurd (true≢false (sym r))
      of_dims (dims.Fixed None) i a r h o = absurd (let g : None ≡ Some q.array = a in cc)
      of_dims (dims.Fixed (Some k)) i a r h o = fixed_is (nat_lt ELEMENT_LIMIT k) k a i o
      of_dims (dims.Rows k m) i a r h o = absurd (true≢false h)
      of_dims dims.Dynamic i a r h o = subst (PatternFits d n q.inner) (some_same array.Dynamic q.array a) f

  patterned_stands : (o p n : ℕ) (vs : Option (List ExprTerm)) → IsObject d o → IsPattern d n (slice_get (object_props d o) p) → OptionIs (Listed n) vs → StandsThere (option_map (λ (vs : List ExprTerm). stmt_term.pattern o p (exprs_of vs)) vs)
  patterned_stands o p n None h k l = tt
  patterned_stands o p n (Some vs) h k l = (h, subst (λ (n : ℕ). IsPattern d n (slice_get (object_props d o) p)) (sym l.2) k, (l.0, l.1))

  pattern_stands : (t : Target) (vs : Option (List ExprTerm)) (n : ℕ) → TargetIs d t → spec.has_rows (targets.array_dims t) ≡ false → spec.has_other_size (targets.array_dims t) n ≡ false → n ≤ 2048 → OptionIs (Listed n) vs → StandsThere (spec.pattern_tree t vs)
  pattern_stands target.Nothing vs n h r o f l = tt
  pattern_stands (target.Object u) vs n h r o f l = tt
  pattern_stands (target.Variable v) vs n h r o f l = tt
  pattern_stands (target.Place u p) vs n h r o f l = tt
  pattern_stands (target.Array u p) vs n h r o f l = patterned_stands u p.number n vs h.0.0 (pattern_there p (slice_get (object_props d u) p.number) n h.0.1 h.0.2 h.1 r o f) l

  few_values : (n : ℕ) → nat_lt 2048 n ≡ false → n ≤ 2048
  few_values n h = grind (arith, nat_tests, h)

  -- ---- objects

  var_is : (s : VarStand) (o : Option VarName) → OptionIs (λ (v : VarName). v.stands ≡ s) o → (o ≡ None → ⊥) → IsVar s o
  var_is s None h k = k refl
  var_is s (Some v) h k = h

  abbrev ClassOf : ℕ × ℕ → Type 0
  ClassOf x = variable_class (slice_get d.vars x.0) ≡ Some x.1

  class_of : (n : Space) → StatementPlace d n → (x : ℕ × ℕ) → StandsAt n.vars x.0 (stand.OfObject x.1) → ClassOf x
  class_of n h x m = h.stands.objects x.0 x.1 (var_is (stand.OfObject x.1) (slice_get n.vars x.0) m.0 m.1)

  object_is : (x : ℕ × ℕ) → ClassOf x → IsObject d x.0
  object_is x e = subst IsSomeClass (sym e) tt

  -- ---- properties of a class have places of the design

  below_there : (qs : List Prop) (k : ℕ) (p : Property) → ArrayThere p (slice_get qs k) → k < length qs
  below_there [] k p h = absurd h
  below_there (q ∷ qs) zero p h = omega arith
  below_there (q ∷ qs) (suc k) p h = let e : k < length qs = below_there qs k p h in omega (arith, e)

  places_below : (qs : List Prop) (k : ℕ) (ps : List PropName) → PlacedFrom k ps → Each (λ (p : PropName). IsThere qs p.property) ps → (i : ℕ) → i < length ps → k + i < length qs
  places_below qs k [] h t i e = absurd (let f : i < 0 = e in omega (arith, f))
  places_below qs k (p ∷ ps) h t zero e = first (p.property.number) k (length qs) h.0 (below_there qs p.property.number p.property t.0.1)
    where
      first : (a k n : ℕ) → a ≡ k → a < n → k + 0 < n
      first a k n e h = omega (arith, e, h)
  places_below qs k (p ∷ ps) h t (suc i) e = later k i (length qs) (places_below qs (k + 1) ps h.1 t.1 i (less i (length ps) e))
    where
      less : (i n : ℕ) → suc i < suc n → i < n
      less i n e = omega (arith, e)

      later : (k i n : ℕ) → (k + 1) + i < n → k + suc i < n
      later k i n e = omega (arith, e)

  class_below : (n : Space) → StatementPlace d n → (c i : ℕ) → i < length (class_props n.classes c) → i < length (flat_class_of d.classes c).props
  class_below n h c i e =
      let f : 0 + i < length (flat_class_of d.classes c).props = places_below (flat_class_of d.classes c).props 0 (class_props n.classes c) (h.places c) (h.stands.classes c) i e in
      omega (arith, f)

  all_below : (n m : ℕ) → ((i : ℕ) → i < n → i < m) → (xs : List ℕ) → AllBelow n xs → AllBelow m xs
  all_below n m up [] h = tt
  all_below n m up (x ∷ xs) h = (up x h.0, all_below n m up xs h.1)

  -- ---- calls

  list_is : (n : Space) → StatementPlace d n → (c : ℕ) (a : RandomizeArgs) → list_faults first_one n c a ≡ None → IsList d (length (flat_class_of d.classes c).props) (call_list_of n c a)
  list_is n h c args.Empty f = tt
  list_is n h c args.Null f = tt
  list_is n h c (args.Names names) f =
      let ps : List PropName = class_props n.classes c in
      let r = numbered n.text ps (h.places c) names [] None [] (record { below = tt; differ = tt; seen_at = tt }) f in
      (all_below (length ps) (length (flat_class_of d.classes c).props) (class_below n h c) (numbers_of n.text ps [] names) r.0, r.1)

  abbrev SetGood : ℕ → Option (List ItemTerm) → Type 0
  SetGood c o = OptionIs (λ ts. ItemsAreTyped (items_of ts) × ItemsStand (flat_class_of d.classes c).props d.vars 0 false false (items_of ts)) o

  to_is : {A : Type 0} (P : A → Type 0) (o : Option A) → MatchOption o ⊤ P → OptionIs P o
  to_is P None h = tt
  to_is P (Some x) h = h

  set_good : (n : Space) → SetsStand d n → (c : ℕ) (is : Option ItemTrees) → SetIs is → (spec.in_line_items first_one n c is).faults ≡ None → SetGood c (spec.in_line_items first_one n c is).trees
  set_good n h c None i f = (tt, tt)
  set_good n h c (Some is) i f =
      to_is (λ ts. ItemsAreTyped (items_of ts) × ItemsStand (flat_class_of d.classes c).props d.vars 0 false false (items_of ts)) (items first_one (in_line_space n c) outside (no_items first_one) is).trees (h n.made c is i f)

  call_good : (x : ℕ × ℕ) (l : CallList) (answer : Option ℕ) (is : Option (List ItemTerm)) → ClassOf x → IsList d (length (flat_class_of d.classes x.1).props) l → IsAnswer d answer → SetGood x.1 is → StandsThere (spec.call_tree x.0 l answer is)
  call_good x l answer None e k a h = tt
  call_good x l answer (Some is) e k a h = record {
    object = object_is x e;
    list = subst (λ (f : FlatTerm). IsList d (length f.props) l) (sym (class_flat x.0 x.1 e)) k;
    typed = h.0;
    stands = subst (λ (f : FlatTerm). ItemsStand f.props d.vars 0 false false (items_of is)) (sym (class_flat x.0 x.1 e)) h.1;
    answer = a;
  }

  call_stands : (n : Space) → StatementPlace d n → SetsStand d n → (p : ObjectPath) (answer : Option ℕ) (a : RandomizeArgs) (is : Option ItemTrees) (o : Option (ℕ × ℕ)) → MeantAt n.vars o → SetIs is → IsAnswer d answer
      → (spec.call_of first_one n p answer a is o).faults ≡ None → StandsThere (spec.call_of first_one n p answer a is o).tree
  call_stands n h sets p answer a is None m s k f = tt
  call_stands n h sets p answer a is (Some x) m s k f =
      let i : ItemsElab (Option Fault) = spec.in_line_items first_one n x.1 is in
      let w1 : Option Fault = use_faults first_one n.made p.first (Some x) in
      let w2 : Option Fault = spec.unknown_at first_one (spec.wrong_rest p.rest) in
      let w3 : Option Fault = list_faults first_one n x.1 a in
      let f1 : earlier w2 (earlier w3 i.faults) ≡ None = none_right w1 (earlier w2 (earlier w3 i.faults)) f in
      let f2 : earlier w3 i.faults ≡ None = none_right w2 (earlier w3 i.faults) f1 in
      call_good x (call_list_of n x.1 a) answer i.trees (class_of n h x m) (list_is n h x.1 a (none_left w3 i.faults f2)) k (set_good n sets x.1 is s (none_right w3 i.faults f2))

  -- ---- modes

  named_below : (ps : List PropName) (q : List ℕ) (m : ℕ) → ((i : ℕ) → i < length ps → i < m) → (o : Option Property) → OptionIs (λ p. NamedIs ps q p) o → IsBelow d (option_map (λ p. p.number) o) m
  named_below ps q m up None h = tt
  named_below ps q m up (Some p) h = up p.number (get_below ps p.number h.entry h.there)

  block_below : (m : ℕ) (bs : List (List ℕ)) → length bs ≤ m → (f : Option (ℕ × List ℕ)) → OptionIs (λ (f : ℕ × List ℕ). f.0 < 0 + length bs) f → IsBelow d (option_map (λ f. f.0) f) m
  block_below m bs l None h = tt
  block_below m bs l (Some f) h = below f.0 (length bs) m h l
    where
      below : (i n m : ℕ) → i < 0 + n → n ≤ m → i < m
      below i n m h l = omega (arith, h, l)

  abbrev MemberIs : ModeKind → ℕ → Option ℕ → Type 0
  MemberIs mode_kind.Rand c p = IsBelow d p (length (flat_class_of d.classes c).props)
  MemberIs mode_kind.Constraint c p = IsBelow d p (length (flat_class_of d.classes c).blocks)

  member_is : (n : Space) → StatementPlace d n → (k : ModeKind) (c : ℕ) (names : List ℕ) → MemberIs k c (mode_member k n c names)
  member_is n h mode_kind.Rand c [] = tt
  member_is n h mode_kind.Rand c (name ∷ rest) =
      let ps : List PropName = class_props n.classes c in
      named_below ps (n.text name) (length (flat_class_of d.classes c).props) (class_below n h c) (property_named ps (n.text name)) (named_is ps (n.text name) (h.places c))
  member_is n h mode_kind.Constraint c [] = tt
  member_is n h mode_kind.Constraint c (name ∷ rest) =
      let bs : List (List ℕ) = class_blocks n.classes c in
      block_below (length (flat_class_of d.classes c).blocks) bs (h.blocks c) (find_from (λ b. b) (n.text name) 0 bs) (found_below (n.text name) 0 bs)

  mode_good : (k : ModeKind) (x : ℕ × ℕ) (p : Option ℕ) (t : Option ExprTerm) → ClassOf x → MemberIs k x.1 p → Values t → StandsThere (option_map (spec.mode_term k x.0 p) t)
  mode_good mode_kind.Rand x p None e m h = tt
  mode_good mode_kind.Rand x p (Some t) e m h = (object_is x e, subst (λ (f : FlatTerm). IsBelow d p (length f.props)) (sym (class_flat x.0 x.1 e)) m, h)
  mode_good mode_kind.Constraint x p None e m h = tt
  mode_good mode_kind.Constraint x p (Some t) e m h = (object_is x e, subst (λ (f : FlatTerm). IsBelow d p (length f.blocks)) (sym (class_flat x.0 x.1 e)) m, h)

  mode_stands : (n : Space) → StatementPlace d n → (p : ObjectPath) (k : ModeKind) (on : Elab (Option Fault)) (o : Option (ℕ × ℕ)) → MeantAt n.vars o → (on.faults ≡ None → Values on.tree) → (spec.mode_of first_one n p k on o).faults ≡ None
      → StandsThere (spec.mode_of first_one n p k on o).tree
  mode_stands n h p k on None m v f = tt
  mode_stands n h p k on (Some x) m v f =
      mode_good k x (mode_member k n x.1 p.rest) on.tree (class_of n h x m) (member_is n h k x.1 p.rest) (v (none_right _ on.faults (none_right (use_faults first_one n.made p.first (Some x)) _ f)))

  -- ---- right sides

  right_stands : (n : Space) → StatementPlace d n → SetsStand d n → (x : Elab (Option Fault)) (r : RightTree) → LeftSide x → RightFits 0 r → RightSet r → (spec.assignment first_one n x r).faults ≡ None → StandsThere (spec.assignment first_one n x r).tree
  right_stands n h sets x (tree.value e) l fit s f = given_stands x (elab first_one n e) l (value_good n h e fit.1) f
  right_stands n h sets x (tree.new parens) l fit s f = make_stands (target_of x.form) (l.meant (none_left x.faults _ f))
  right_stands n h sets x (tree.new_array e) l fit s f =
      let c : Constant (Option Fault) = constant_at first_one n e in
      let clear : x.faults ≡ None = none_left x.faults _ f in
      let w1 : Option Fault = misplaced first_one x.form (targets.is_resizable (target_of x.form)) in
      let w2 : Option Fault = when first_one (is_below (pos 0) c.number) c.at refusal.BadRange in
      let w3 : Option Fault = when first_one (spec.is_above (pos 2048) c.number) c.at refusal.TooMany in
      let f1 : earlier w1 (earlier w2 w3) ≡ None = none_right c.faults (earlier w1 (earlier w2 w3)) (none_right x.faults _ f) in
      resize_stands (target_of x.form) c.number (l.meant clear) (fits_there x (targets.is_resizable (target_of x.form)) l.rooted clear (none_left w1 (earlier w2 w3) f1))
      (not_when (spec.is_above (pos 2048) c.number) c.at refusal.TooMany (none_right w2 w3 (none_right w1 (earlier w2 w3) f1)))
  right_stands n h sets x (tree.pattern at vs) l fit s f =
      let w : ValuesElab (Option Fault) = spec.values first_one n x.form.members (spec.no_values first_one) vs in
      let ds : Dims = targets.array_dims (target_of x.form) in
      let w1 : Option Fault = misplaced first_one x.form (targets.is_array (target_of x.form)) in
      let w2 : Option Fault = when first_one (spec.has_rows ds) x.form.name refusal.LeftOut in
      let w3 : Option Fault = when first_one (spec.has_other_size ds w.many) at refusal.BadRange in
      let w4 : Option Fault = when first_one (nat_lt 2048 w.many) at refusal.TooMany in
      let f1 : earlier w.faults (earlier w1 (earlier w2 (earlier w3 w4))) ≡ None = none_right x.faults _ f in
      let f2 : earlier w2 (earlier w3 w4) ≡ None = none_right w1 (earlier w2 (earlier w3 w4)) (none_right w.faults (earlier w1 (earlier w2 (earlier w3 w4))) f1) in
      let f3 : earlier w3 w4 ≡ None = none_right w2 (earlier w3 w4) f2 in
      pattern_stands (target_of x.form) w.trees w.many (l.meant (none_left x.faults _ f)) (not_when (spec.has_rows ds) x.form.name refusal.LeftOut (none_left w2 (earlier w3 w4) f2))
      (not_when (spec.has_other_size ds w.many) at refusal.BadRange (none_left w3 w4 f3)) (few_values w.many (not_when (nat_lt 2048 w.many) at refusal.TooMany (none_right w3 w4 f3)))
      (values_stand n h x.form.members vs (spec.no_values first_one) fit.0 (λ g. (tt, tt, refl)) (none_left w.faults (earlier w1 (earlier w2 (earlier w3 w4))) f1))
  right_stands n h sets x (tree.answer c) l fit s f =
      let t : Target = target_of x.form in
      let one : StmtElab (Option Fault) = spec.randomized first_one n (targets.answer_number t) c in
      let w1 : Option Fault = misplaced first_one x.form (targets.is_answer t x.form.members) in
      let f1 : earlier x.faults w1 ≡ None = none_left (earlier x.faults w1) one.faults f in
      call_stands n h sets (object_path n c.path) (targets.answer_number t) c.args c.items (object_path n c.path).object (object_stands n c.path) s
      (l.answer (fits_there x (targets.is_answer t x.form.members) l.rooted (none_left x.faults w1 f1) (none_right x.faults w1 f1))) (none_right (earlier x.faults w1) one.faults f)

  -- ---- lists and repetition

  abbrev AllThere : Option (List StmtTerm) → Type 0
  AllThere ts = OptionIs (λ ts. AllStmtsStand d (stmt_term.stmts_of ts)) ts

  abbrev pub SoFar : StmtsElab (Option Fault) → Type 0
  SoFar st = st.faults ≡ None → AllThere st.trees

  all_last : (ts : List StmtTerm) (t : StmtTerm) → AllStmtsStand d (stmt_term.stmts_of ts) → StmtStands d t → AllStmtsStand d (stmt_term.stmts_of (ts ++ t ∷ []))
  all_last [] t h k = (k, tt)
  all_last (u ∷ ts) t h k = (h.0, all_last ts t h.1 k)

  all_more : (ts : Option (List StmtTerm)) (t : Option StmtTerm) → AllThere ts → StandsThere t → AllThere (and_more ts t)
  all_more None t h k = tt
  all_more (Some ts) None h k = tt
  all_more (Some ts) (Some t) h k = all_last ts t h k

  pub and_stands : (st : StmtsElab (Option Fault)) (one : StmtElab (Option Fault)) → SoFar st → (one.faults ≡ None → StandsThere one.tree) → SoFar (spec.and_stmt first_one st one)
  and_stands st one h k f = all_more st.trees one.tree (h (none_left st.faults one.faults f)) (k (none_right st.faults one.faults f))

  list_stands : (ts : Option (List StmtTerm)) → AllThere ts → StandsThere (spec.list_tree ts)
  list_stands None h = tt
  list_stands (Some ts) h = h

  repeat_stands : (c : Option ℤ) (t : Option StmtTerm) → StandsThere t → StandsThere (spec.repeat_tree c t)
  repeat_stands None t h = tt
  repeat_stands (Some c) None h = tt
  repeat_stands (Some c) (Some t) h = (count_few c, h)

  -- ---- the whole

  pub made_sets : (n : Space) (made : List ℕ) → SetsStand d n → SetsStand d (with_made n made)
  made_sets n made h = λ ms c is g f. h ms c is g f

  mutual
    pub stmt_stands : (n : Space) (s : StmtTree) → StatementPlace d n → SetsStand d n → StmtFits 0 s → SetsAre s → (spec.stmt first_one n s).faults ≡ None → StandsThere (spec.stmt first_one n s).tree
    stmt_stands n (tree.empty at) h sets fit is f = tt
    stmt_stands n (tree.block at ss) h sets fit is f =
        let r : StmtsElab (Option Fault) = spec.stmts first_one n (spec.no_stmts first_one n.made) ss in
        list_stands r.trees (stmts_stand n ss (spec.no_stmts first_one n.made) h sets fit is (λ g. tt) f)
    stmt_stands n (tree.repeat at e s) h sets fit is f =
        let c : Constant (Option Fault) = constant_at first_one n e in
        let r : StmtElab (Option Fault) = spec.stmt first_one n s in
        repeat_stands c.number r.tree (stmt_stands n s h sets fit.1 is (none_right c.faults r.faults f))
    stmt_stands n (tree.assign at x r) h sets fit is f = right_stands n h sets (elab first_one n x) r (left_side n h x fit.0.1) fit.1 is f
    stmt_stands n (tree.call at form c) h sets fit is f = call_stands n h sets (object_path n c.path) None c.args c.items (object_path n c.path).object (object_stands n c.path) is tt f
    stmt_stands n (tree.mode at m) h sets fit is f = mode_stands n h (object_path n m.path) m.kind (value first_one n m.on) (object_path n m.path).object (object_stands n m.path) (value_good n h m.on fit.1.1) f

    stmts_stand : (n : Space) (ss : StmtTrees) (st : StmtsElab (Option Fault)) → StatementPlace d n → SetsStand d n → StmtsFit 0 ss → AllSetsAre ss → SoFar st → SoFar (spec.stmts first_one n st ss)
    stmts_stand n tree.no_stmts st h sets fit is k = k
    stmts_stand n (tree.more_stmts s ss) st h sets fit is k =
        let m : Space = with_made n st.made in
        let one : StmtElab (Option Fault) = spec.stmt first_one m s in
        stmts_stand n ss (spec.and_stmt first_one st one) h sets fit.1 is.1 (and_stands st one k (λ g. stmt_stands m s (made_place n st.made h) (made_sets n st.made sets) fit.0 is.0 g))

-- what is so where a term is there is so of it
stmt_of : (d : DesignTerm) (o : Option StmtTerm) → OptionIs (StmtStands d) o → MatchOption o ⊤ (λ t. StmtStands d t)
stmt_of d None h = tt
stmt_of d (Some t) h = h

pub accepted_statements_stand : AcceptedStatementsStand
accepted_statements_stand d n s h sets fit is f = stmt_of d (spec.stmt first_one n s).tree (stmt_stands d n s h sets fit is f)
