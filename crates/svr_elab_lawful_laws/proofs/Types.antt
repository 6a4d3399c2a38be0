-- Types and enums of a script in which nothing is refused are those of a lawful design.
use Rattle.std.proofs.Common.{◌≡◌, ℕ, zero, suc, ◌+◌, ◌-◌, ◌^◌, ◌≤◌, min, ℤ, pos, negsuc, Bool, true, false, not, ◌||◌, nat_lt, if◌then◌else◌, List, [], ◌∷◌, ◌++◌, length, Option, None, Some, option_map, is_none, refl, sym, ap, subst, ◌∙◌, true≢false, arith}
use Rattle.std.specs.Prelude.{slice_get, int_lt, ◌-ℤ◌, ◌+ℤ◌}
use Rattle.std.proofs.lemmas.Bool.Decides.{nat_tests}
use Rattle.std.proofs.lemmas.Int.{ints}
use Rattle.svr_operator.specs.declared.Rand.{Rand}
use Rattle.svr_operator.specs.declared.Rand.TheVariants as rand
use Rattle.svr_typed.specs.declared.NumType.{NumType}
use Rattle.svr_typed.specs.declared.EnumType.{EnumType}
use Rattle.svr_typed.specs.declared.Prop.{Prop}
use Rattle.svr_tree.specs.declared.AtomKind.{AtomKind}
use Rattle.svr_tree.specs.declared.AtomKind.TheVariants as atom_kind
use Rattle.svr_tree.specs.DeclTree as tree
use Rattle.svr_tree.specs.DeclTree.{IntegerTypeTree, MemberTree, DefinitionTree, TypeTree, PackedRangeTree}
use Rattle.svr_tree.specs.Tokens.{OneOrMore}
use Rattle.svr_tree.specs.DeclGrammar.{IsEnumMember, IsDefinition, IsTypedef}
use Rattle.svr_refusal.specs.declared.Refusal.TheVariants as refusal
use Rattle.svr_design.specs.Types.{IsEnum, IsKind, IsProp, IsOfEnum, NamesEnum, CycleFits, IsShortCycle, HasFew}
use Rattle.svr_design.specs.Lawful.{Every, EachFrom}
use Rattle.svr_elab_fault.specs.declared.Fault.{Fault}
use Rattle.svr_elab_fault.specs.Refusals.{first_one, when, earlier}
use Rattle.svr_elab_names.specs.declared.Vector.{Vector}
use Rattle.svr_elab_names.specs.declared.Global.{Global}
use Rattle.svr_elab_names.specs.declared.Global.TheVariants as global
use Rattle.svr_elab_names.specs.Names.{Space, GlobalName, PropName, ClassName}
use Rattle.svr_elab_part.specs.Fits.{Each}
use Rattle.svr_elab_part.specs.Shapes.{both_known, count_of}
use Rattle.svr_elab_part.proofs.Valued.{none_left, none_right, not_when}
use Rattle.svr_elab_type.specs.Types as spec
use Rattle.svr_elab_type.specs.Types.{Constant, TypeElab, EnumElab, GlobalsElab, declaring}
use Rattle.svr_elab_decl.specs.Properties.{is_state}
use Rattle.svr_elab.specs.Script.{property}
use Rattle.svr_elab_expr_laws.specs.Known.{IsKnown}
use Rattle.svr_elab_lawful_laws.specs.Constants.{GlobalsKnown}
use Rattle.svr_elab_lawful_laws.specs.Declared.{There, VectorIs, MemberIs, GlobalIs, GlobalsAre, PropertyIs, ClassIs}
use Rattle.svr_elab_lawful_laws.proofs.Constants.{constants_have_numbers}
use Rattle.svr_elab_lawful_laws.proofs.Enums.{none_known, each_to, and_global, globals_are_known, MembersAre, members_are, members_counted}

-- ---- what is known of one in more enums

pub there_to : {A : Type 0} (P Q : A → Type 0) (f : (x : A) → P x → Q x) (x : Option A) → There P x → There Q x
there_to P Q f None h = absurd h
there_to P Q f (Some x) h = f x h

pub there_known : {A : Type 0} (P : A → Type 0) (x : Option A) → There P x → IsKnown x
there_known P None h = absurd h
there_known P (Some x) h = refl

pub get_kept : {A : Type 0} (xs ys : List A) (k : ℕ) (a : A) → slice_get xs k ≡ Some a → slice_get (xs ++ ys) k ≡ Some a
get_kept [] ys k a h = absurd (let e : None ≡ Some a = h in cc)
get_kept (x ∷ xs) ys zero a h = h
get_kept (x ∷ xs) ys (suc k) a h = get_kept xs ys k a h

pub get_last : {A : Type 0} (xs : List A) (a : A) → slice_get (xs ++ a ∷ []) (length xs) ≡ Some a
get_last [] a = refl
get_last (x ∷ xs) a = get_last xs a

pub get_is : {A : Type 0} (P : Option A → Type 0) (none : P None → ⊥) (xs ys : List A) (k : ℕ) (o : Option A) → slice_get xs k ≡ o → P o → P (slice_get (xs ++ ys) k)
get_is P none xs ys k None e h = absurd (none h)
get_is P none xs ys k (Some a) e h = subst P (sym (get_kept xs ys k a e)) h

module _ (es : List EnumType) (e : EnumType) where
  abbrev more : List EnumType
  more = es ++ e ∷ []

  names_more : (k : NumType) (m : Option ℕ) → NamesEnum es k m → NamesEnum more k m
  names_more k None h = tt
  names_more k (Some n) h = get_is (IsOfEnum k) (λ x. x) es (e ∷ []) n (slice_get es n) refl h

  kind_more : (k : NumType) → IsKind es k → IsKind more k
  kind_more k h = record { low = h.low; high = h.high; members = names_more k k.members h.members }

  pub vector_more : (v : Vector) → VectorIs es v → VectorIs more v
  vector_more v h = record { kind = kind_more v.kind h.kind; low = h.low }

  short_more : (k : NumType) (m : Option ℕ) → IsShortCycle es k m → IsShortCycle more k m
  short_more k None h = h
  short_more k (Some n) h = get_is HasFew (λ x. x) es (e ∷ []) n (slice_get es n) refl h

  cycle_more : (p : Prop) (r : Rand) → CycleFits es p r → CycleFits more p r
  cycle_more p rand.State h = tt
  cycle_more p rand.Rand h = tt
  cycle_more p rand.Randc h = (h.0, short_more p.kind p.kind.members h.1)

  prop_more : (p : Prop) → IsProp es p → IsProp more p
  prop_more p h = record { kind = kind_more p.kind h.kind; size = h.size; inner = h.inner; cycle = cycle_more p p.rand h.cycle; first = h.first; low = h.low }

  member_more : (n : Option ℕ) (k : Option Vector) → MemberIs es n k → MemberIs more n k
  member_more None k h = absurd h
  member_more (Some n) None h = absurd h
  member_more (Some n) (Some v) h = (vector_more v h.0, h.1)

  global_more : (cs : ℕ) (g : Global) → GlobalIs es cs g → GlobalIs more cs g
  global_more cs (global.OfType kind) h = there_to (VectorIs es) (VectorIs more) vector_more kind h
  global_more cs (global.OfClass c) h = h
  global_more cs (global.OfMember n kind) h = member_more n kind h

  globals_more : (cs : ℕ) (gs : List GlobalName) → GlobalsAre es cs gs → GlobalsAre more cs gs
  globals_more cs gs h = each_to (λ (g : GlobalName). GlobalIs es cs g.stands) (λ (g : GlobalName). GlobalIs more cs g.stands) (λ g k. global_more cs g.stands k) gs h

  class_more : (cs : List ClassName) (k : ℕ) (c : ClassName) → ClassIs es cs k c → ClassIs more cs k c
  class_more cs k c h = record {
    base = h.base;
    own = h.own;
    homes = h.homes;
    flat = h.flat;
    inherited = h.inherited;
    props = each_to (PropertyIs es) (PropertyIs more) (λ p i. there_to (IsProp es) (IsProp more) prop_more (property p) i) c.props h.props;
    places = h.places;
    differ = h.differ;
    few = h.few;
    few_arrays = h.few_arrays;
  }

  classes_more : (cs : List ClassName) (k : ℕ) (ds : List ClassName) → EachFrom (ClassIs es cs) k ds → EachFrom (ClassIs more cs) k ds
  classes_more cs k [] h = tt
  classes_more cs k (d ∷ ds) h = (class_more cs k d h.0, classes_more cs (k + 1) ds h.1)

  every_last : (xs : List EnumType) → Every IsEnum xs → IsEnum e → Every IsEnum (xs ++ e ∷ [])
  every_last [] h k = (k, tt)
  every_last (x ∷ xs) h k = (h.0, every_last xs h.1 k)

-- ---- types that name no enum

pub record PlainVector (v : Vector) : Type 0 where
  pub every : (es : List EnumType) → VectorIs es v
  pub plain : v.kind.members ≡ None

abbrev pub PlainIs : Option Vector → Type 0
PlainIs kind = There PlainVector kind

from_zero : (w : ℕ) → w ≤ 64 → 0 + w ≤ 2 ^ 63
from_zero w h = omega (arith, h)

bits_are : (w : ℕ) (s : Bool) → 1 ≤ w → w ≤ 64 → PlainVector (spec.vector w s (pos 0))
bits_are w s low high = record { every = λ es. record { kind = record { low = low; high = high; members = tt }; low = from_zero w high }; plain = refl }

atom_are : (k : AtomKind) (s : Bool) → PlainVector (spec.vector (spec.atom_width k) s (pos 0))
atom_are atom_kind.Byte s = bits_are 8 s (omega arith) (omega arith)
atom_are atom_kind.ShortInt s = bits_are 16 s (omega arith) (omega arith)
atom_are atom_kind.Int s = bits_are 32 s (omega arith) (omega arith)
atom_are atom_kind.LongInt s = bits_are 64 s (omega arith) (omega arith)
atom_are atom_kind.Integer s = bits_are 32 s (omega arith) (omega arith)

counted : (a b n : ℕ) → pos n ≡ pos a -ℤ pos b +ℤ pos 1 → int_lt (pos a) (pos b) ≡ false → n + b ≡ a + 1
counted a b n e h = grind (arith, ints, e, h)

no_count : (a b n : ℕ) → negsuc n ≡ pos a -ℤ pos b +ℤ pos 1 → int_lt (pos a) (pos b) ≡ false → ⊥
no_count a b n e h = grind (arith, ints, e, h)

at_most : (t a : ℕ) → int_lt (pos t) (pos a) ≡ false → a ≤ t
at_most t a h = grind (arith, ints, h)

in_order : (a b : ℕ) → int_lt (pos a) (pos b) ≡ false → b ≤ a
in_order a b h = grind (arith, ints, h)

not_over : (w : ℕ) → nat_lt 64 w ≡ false → w ≤ 64
not_over w h = grind (arith, nat_tests, h)

some_bits : (a b n : ℕ) → n + b ≡ a + 1 → b ≤ a → 1 ≤ min 65 n
some_bits a b n e h = omega (arith, e, h)

last_bit : (a b n : ℕ) → n + b ≡ a + 1 → a ≤ 2 ^ 63 - 1 → b + min 65 n ≤ 2 ^ 63
last_bit a b n e h = omega (arith, e, h)

range_vector : (s : Bool) (a b : ℕ) (z : ℤ) → z ≡ pos a -ℤ pos b +ℤ pos 1 → int_lt (pos a) (pos b) ≡ false → int_lt (pos (2 ^ 63 - 1)) (pos a) ≡ false → nat_lt 64 (min 65 (count_of z)) ≡ false
    → PlainVector (spec.vector (min 65 (count_of z)) s (pos b))
range_vector s a b (pos n) e h top over =
    let sum : n + b ≡ a + 1 = counted a b n e h in
    record {
      every = λ es. record {
        kind = record { low = some_bits a b n sum (in_order a b h); high = not_over (min 65 n) over; members = tt };
        low = last_bit a b n sum (at_most (2 ^ 63 - 1) a top);
      };
      plain = refl;
    }
range_vector s a b (negsuc n) e h top over = absurd (no_count a b n e h)

kept_bound : (t : Bool) (x : ℤ) → is_none (if t then None else Some x) ≡ false → t ≡ false
kept_bound true x h = absurd (true≢false h)
kept_bound false x h = refl

or_four : (a b c d : Bool) → a ≡ false → b ≡ false → c ≡ false → d ≡ false → (a || (b || (c || d))) ≡ false
or_four a b c d h i j k = ap (λ (x : Bool). x || (b || (c || d))) h ∙ ap (λ (x : Bool). x || (c || d)) i ∙ ap (λ (x : Bool). x || d) j ∙ k

kind_is : (s : Bool) (x y : Option ℤ) → IsKnown x → IsKnown y → spec.is_bad_bound x ≡ false → spec.is_bad_bound y ≡ false → spec.ascends x y ≡ false → spec.is_over_64 (spec.range_width x y) ≡ false
    → PlainIs (spec.range_kind (spec.is_bad_bound x || (spec.is_bad_bound y || (spec.ascends x y || spec.is_over_64 (spec.range_width x y)))) s x y)
kind_is s None y h k bx by up wide = none_known ℤ h
kind_is s (Some x) None h k bx by up wide = none_known ℤ k
kind_is s (Some (negsuc a)) (Some y) h k bx by up wide = absurd (true≢false bx)
kind_is s (Some (pos a)) (Some (negsuc b)) h k bx by up wide = absurd (true≢false by)
kind_is s (Some (pos a)) (Some (pos b)) h k bx by up wide =
    let x : Option ℤ = Some (pos a) in
    let y : Option ℤ = Some (pos b) in
    let w : ℕ = spec.bits_between (pos a) (pos b) in
    let top : int_lt (pos (2 ^ 63 - 1)) (pos a) ≡ false = kept_bound (int_lt (pos (2 ^ 63 - 1)) (pos a)) (pos a) bx in
    let bottom : int_lt (pos (2 ^ 63 - 1)) (pos b) ≡ false = kept_bound (int_lt (pos (2 ^ 63 - 1)) (pos b)) (pos b) by in
    let P : Bool → Type 0 = λ bad. PlainIs (spec.range_kind bad s x y) in
    let Q : Bool → Type 0 = λ t. PlainIs (both_known (λ (w : ℕ) (low : ℤ). spec.vector w s low) (Some w) (if t then None else Some (pos b))) in
    subst P (sym (or_four (spec.is_bad_bound x) (spec.is_bad_bound y) (spec.ascends x y) (spec.is_over_64 (spec.range_width x y)) bx by up wide))
    (subst Q (sym bottom) (range_vector s a b (pos a -ℤ pos b +ℤ pos 1) refl up top wide))

range_is : (at : ℕ) (s : Bool) (bracket : ℕ) (m l : Constant (Option Fault)) → (m.faults ≡ None → IsKnown m.number) → (l.faults ≡ None → IsKnown l.number)
    → (spec.range_type first_one at s bracket m l).faults ≡ None → PlainIs (spec.range_type first_one at s bracket m l).kind
range_is at s bracket m l hm hl f =
    let w1 : Option Fault = when first_one (spec.is_bad_bound m.number) m.at refusal.BadRange in
    let w2 : Option Fault = when first_one (spec.is_bad_bound l.number) l.at refusal.BadRange in
    let w3 : Option Fault = when first_one (spec.ascends m.number l.number) bracket refusal.LeftOut in
    let w4 : Option Fault = when first_one (spec.is_over_64 (spec.range_width m.number l.number)) at refusal.WiderThan64 in
    let f1 : earlier l.faults (earlier w1 (earlier w2 (earlier w3 w4))) ≡ None = none_right m.faults (earlier l.faults (earlier w1 (earlier w2 (earlier w3 w4)))) f in
    let f2 : earlier w1 (earlier w2 (earlier w3 w4)) ≡ None = none_right l.faults (earlier w1 (earlier w2 (earlier w3 w4))) f1 in
    let f3 : earlier w2 (earlier w3 w4) ≡ None = none_right w1 (earlier w2 (earlier w3 w4)) f2 in
    let f4 : earlier w3 w4 ≡ None = none_right w2 (earlier w3 w4) f3 in
    kind_is s m.number l.number (hm (none_left m.faults (earlier l.faults (earlier w1 (earlier w2 (earlier w3 w4)))) f)) (hl (none_left l.faults (earlier w1 (earlier w2 (earlier w3 w4))) f1))
    (not_when (spec.is_bad_bound m.number) m.at refusal.BadRange (none_left w1 (earlier w2 (earlier w3 w4)) f2))
    (not_when (spec.is_bad_bound l.number) l.at refusal.BadRange (none_left w2 (earlier w3 w4) f3))
    (not_when (spec.ascends m.number l.number) bracket refusal.LeftOut (none_left w3 w4 f4))
    (not_when (spec.is_over_64 (spec.range_width m.number l.number)) at refusal.WiderThan64 (none_right w3 w4 f4))

module _ (n : Space) (known : GlobalsKnown n) where
  pub type_is : (t : IntegerTypeTree) → (spec.integer_type first_one n t).faults ≡ None → PlainIs (spec.integer_type first_one n t).kind
  type_is (tree.vector at kind s None) f = bits_are 1 (spec.is_signed false s) (omega arith) (omega arith)
  type_is (tree.vector at kind s (Some r)) f =
      range_is at (spec.is_signed false s) r.at (spec.constant_at first_one n r.msb) (spec.constant_at first_one n r.lsb) (constants_have_numbers n r.msb known) (constants_have_numbers n r.lsb known) f
  type_is (tree.atom at kind s) f = atom_are kind (spec.is_signed true s)

  pub base_is : (t : Option IntegerTypeTree) → (spec.base_type first_one n t).faults ≡ None → PlainIs (spec.base_type first_one n t).kind
  base_is None f = bits_are 32 true (omega arith) (omega arith)
  base_is (Some t) f = type_is t f

-- ---- types and classes so far

-- it can be random just where it is declared so
abbrev pub Fresh : PropName → Type 0
Fresh p = p.property.random ≡ not (is_state p.property.rand)

abbrev pub AllFresh : List ClassName → Type 0
AllFresh cs = Each (λ (c : ClassName). Each Fresh c.props) cs

pub record HeadsAre (text : ℕ → List ℕ) (s : GlobalsElab (Option Fault)) : Type 0 where
  pub place : s.names ≡ declaring text s.names.globals s.names.classes
  pub globals : GlobalsAre s.enums (length s.names.classes) s.names.globals
  pub enums : Every IsEnum s.enums
  pub classes : EachFrom (ClassIs s.enums s.names.classes) 0 s.names.classes
  pub fresh : AllFresh s.names.classes

pub with_type_are : (text : ℕ → List ℕ) (s : GlobalsElab (Option Fault)) (name : ℕ) (kind : Option Vector) → HeadsAre text s → There (VectorIs s.enums) kind → HeadsAre text (spec.with_type first_one s name kind)
with_type_are text s name kind h k = record {
  place = ap (λ (t : Space). record t { globals = spec.and_name s.names.globals (s.names.text name) (global.OfType kind) }) h.place;
  globals = and_global s.enums (length s.names.classes) s.names.globals (s.names.text name) (global.OfType kind) h.globals k;
  enums = h.enums;
  classes = h.classes;
  fresh = h.fresh;
}

plain_type_are : (text : ℕ → List ℕ) (s : GlobalsElab (Option Fault)) (name : ℕ) (t : TypeElab (Option Fault)) → HeadsAre text s → PlainIs t.kind → HeadsAre text (spec.plain_type first_one s name t)
plain_type_are text s name t h k =
    with_type_are text (record { names = s.names; enums = s.enums; faults = earlier s.faults t.faults }) name t.kind
    (record { place = h.place; globals = h.globals; enums = h.enums; classes = h.classes; fresh = h.fresh }) (there_to PlainVector (VectorIs s.enums) (λ v i. i.every s.enums) t.kind k)

-- the type of an enum, which is the last of these
enum_vector : (es : List EnumType) (v : Vector) (e : EnumType) → e.base ≡ v.kind → PlainVector v → VectorIs (es ++ e ∷ []) (spec.in_enum (length es) v)
enum_vector es v e same h =
    let P : Option EnumType → Type 0 = IsOfEnum (spec.in_enum (length es) v).kind in
    let i : VectorIs es v = h.every es in
    record {
      kind = record {
        low = i.kind.low;
        high = i.kind.high;
        members = subst P (sym (get_last es e)) (ap (λ (k : NumType). k.width) (sym same), ap (λ (k : NumType). k.signed) (sym same));
      };
      low = i.low;
    }

some_members : (ms : List MemberTree) → OneOrMore IsEnumMember ms → 1 ≤ length ms
some_members [] h = absurd h
some_members (m ∷ ms) h = omega arith

one_at_least : (n m : ℕ) → n ≡ 0 + m → 1 ≤ m → 1 ≤ n
one_at_least n m e h = omega (arith, e, h)

-- what is refused before the members is refused behind them
enum_clear : (base : Option Vector) (ms : List MemberTree) (t : EnumElab (Option Fault)) → (spec.enum_members first_one base t ms).faults ≡ None → t.faults ≡ None
enum_clear base [] t g = g
enum_clear base (m ∷ ms) t g = none_left _ _ (enum_clear base ms (spec.and_member first_one base m.name t (spec.member_number first_one t.names t.next m.value)) g)

enum_with : (text : ℕ → List ℕ) (s : GlobalsElab (Option Fault)) (name : ℕ) (v : Vector) (faults : Option Fault) (ms : List MemberTree) → OneOrMore IsEnumMember ms → (s.faults ≡ None → HeadsAre text s) → PlainVector v
    → (spec.enum_type first_one s name (record { kind = Some v; faults = faults }) ms).faults ≡ None
    → HeadsAre text (spec.enum_type first_one s name (record { kind = Some v; faults = faults }) ms)
enum_with text s name v faults ms some before plain f =
    let k : Vector = spec.in_enum (length s.enums) v in
    let start : EnumElab (Option Fault) = record { names = s.names; next = Some (pos 0); numbers = []; members = []; faults = earlier s.faults faults } in
    let e : EnumElab (Option Fault) = spec.enum_members first_one (Some k) start ms in
    let one : EnumType = record { base = v.kind; members = e.members } in
    let es : List EnumType = s.enums ++ one ∷ [] in
    let last : GlobalsElab (Option Fault) = record { names = e.names; enums = es; faults = e.faults } in
    let is : VectorIs es k = enum_vector s.enums v one refl plain in
    let begun : start.faults ≡ None → MembersAre s.names es (length s.names.classes) k start = λ g.
    let h : HeadsAre text s = before (none_left s.faults faults g) in
    record {
      place = refl;
      globals = globals_more s.enums one (length s.names.classes) s.names.globals h.globals;
      next = refl;
      numbers = tt;
      values = refl;
      below = tt;
      differ = tt;
      few = omega arith;
    } in
    let m : MembersAre s.names es (length s.names.classes) k e = members_are s.names es (length s.names.classes) k is ms start begun (none_left e.faults (spec.double first_one e.names name) f) in
    let clear : e.faults ≡ None = none_left e.faults (spec.double first_one e.names name) f in
    let h : HeadsAre text s = before (none_left s.faults faults (enum_clear (Some k) ms start clear)) in
    let same : e.names.classes ≡ s.names.classes = ap (λ (t : Space). t.classes) m.place in
    let i : VectorIs s.enums v = plain.every s.enums in
    let whole : IsEnum one = record {
      plain = plain.plain;
      some = one_at_least (length e.members) (length ms) (members_counted (Some k) ms start) (some_members ms some);
      few = m.few;
      low = i.kind.low;
      high = i.kind.high;
      fit = m.below;
      differ = m.differ;
    } in
    with_type_are text last name (Some k)
    (record {
      place = m.place ∙ ap (λ (t : Space). record t { globals = e.names.globals }) h.place ∙ ap (λ (cs : List ClassName). declaring text e.names.globals cs) (sym same);
      globals = subst (λ (cs : List ClassName). GlobalsAre es (length cs) e.names.globals) (sym same) m.globals;
      enums = every_last s.enums one s.enums h.enums whole;
      classes = subst (λ (cs : List ClassName). EachFrom (ClassIs es cs) 0 cs) (sym same) (classes_more s.enums one s.names.classes 0 s.names.classes h.classes);
      fresh = subst AllFresh (sym same) h.fresh;
    }) is

-- the base is looked at where its type is known
enum_of : (text : ℕ → List ℕ) (s : GlobalsElab (Option Fault)) (name : ℕ) (kind : Option Vector) (faults : Option Fault) (ms : List MemberTree) → OneOrMore IsEnumMember ms → (s.faults ≡ None → HeadsAre text s) → PlainIs kind
    → (spec.enum_type first_one s name (record { kind = kind; faults = faults }) ms).faults ≡ None
    → HeadsAre text (spec.enum_type first_one s name (record { kind = kind; faults = faults }) ms)
enum_of text s name None faults ms some before plain f = absurd plain
enum_of text s name (Some v) faults ms some before plain f = enum_with text s name v faults ms some before plain f

pub definition_are : (text : ℕ → List ℕ) (s : GlobalsElab (Option Fault)) (name : ℕ) (d : DefinitionTree) → IsDefinition d → (s.faults ≡ None → HeadsAre text s) → (spec.definition first_one s name d).faults ≡ None
    → HeadsAre text (spec.definition first_one s name d)
definition_are text s name (tree.enum d) is before f =
    let b : TypeElab (Option Fault) = spec.base_type first_one s.names d.base in
    let kind : Option Vector = option_map (spec.in_enum (length s.enums)) b.kind in
    let start : EnumElab (Option Fault) = record { names = s.names; next = Some (pos 0); numbers = []; members = []; faults = earlier s.faults b.faults } in
    let clear : earlier s.faults b.faults ≡ None = enum_clear kind d.members start (none_left _ _ f) in
    let h : HeadsAre text s = before (none_left s.faults b.faults clear) in
    enum_of text s name b.kind b.faults d.members is.1 before
    (base_is s.names (globals_are_known s.enums (length s.names.classes) s.names.globals h.globals) d.base (none_right s.faults b.faults clear)) f
definition_are text s name (tree.plain t) is before f =
    let k : TypeElab (Option Fault) = spec.integer_type first_one s.names t in
    let own : earlier s.faults k.faults ≡ None = none_left _ _ f in
    let h : HeadsAre text s = before (none_left s.faults k.faults own) in
    plain_type_are text s name k h (type_is s.names (globals_are_known s.enums (length s.names.classes) s.names.globals h.globals) t (none_right s.faults k.faults own))

pub type_decl_are : (text : ℕ → List ℕ) (s : GlobalsElab (Option Fault)) (t : TypeTree) → IsTypedef t → (s.faults ≡ None → HeadsAre text s) → (spec.type_decl first_one s t).faults ≡ None
    → HeadsAre text (spec.type_decl first_one s t)
type_decl_are text s t is before f = definition_are text s t.name t.definition is before f
