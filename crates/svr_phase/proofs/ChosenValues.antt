-- Chosen cyclic values: each fits its property, and the preferred assignment with them is one of the last phase.
use Rattle.std.proofs.Common.{◌≡◌, ◌<◌, ◌≤◌, ◌==◌, ◌+◌, ◌^◌, ℕ, zero, suc, Bool, true, false, ◌||◌, refl, sym, ◌∙◌, ap, subst, List, [], ◌∷◌, map, Option, None, Some, arith}
use Rattle.std.specs.Prelude.{slice_index, slice_index_or}
use Rattle.std.specs.List.{range_with_len, All}
use Rattle.std.proofs.lemmas.Bool.{eqb-true}
use Rattle.std.proofs.lemmas.List.Elements.{All-head, All-tail}
use Rattle.svr_typed.specs.declared.class.Prop.{Prop}
use Rattle.svr_typed.specs.declared.class.EnumType.{EnumType}
use Rattle.svr_typed.specs.declared.class.EnumMember.{EnumMember}
use Rattle.svr_eval.specs.Reading.{Reading}
use Rattle.svr_frame.specs.declared.part.Part.{Part}
use Rattle.svr_frame.specs.declared.part.Part.TheVariants as part
use Rattle.svr_frame.specs.Frame.{FrameTerm, width_of, members_of_kind, domain_from, domain_of}
use Rattle.svr_frame.specs.Satisfaction.{IsAssignment}
use Rattle.svr_frame.specs.Sound.{IsEnum, IsProp, IsOfEnum, IsSound, SizesFit}
use Rattle.svr_phase.specs.Cyclic.{is_among}
use Rattle.svr_phase.specs.Sizes.{preferred_with}
use Rattle.svr_phase.specs.Chosen.{AreCyclicValues}
use Rattle.svr_phase.proofs.Preferred.{AllBelow, with_values_is}

-- ---- values of a domain fit its property

range_below : (v a n : ℕ) → is_among v (range_with_len a n) ≡ true → v < a + n
range_below v a zero h = absurd (let no : false ≡ true = h in cc)
range_below v a (suc n) h = by_test (a == v) refl (range_below v (a + 1) n)
  where
    by_test : (b : Bool) → (a == v) ≡ b → (is_among v (range_with_len (a + 1) n) ≡ true → v < a + 1 + n) → v < a + suc n
    by_test true e rest = let same = eqb-true a v e in omega (arith, same)
    by_test false e rest = let less = rest (sym (ap (λ b. b || is_among v (range_with_len (a + 1) n)) e) ∙ h) in omega (arith, less)

member_below : (w v : ℕ) (ms : List EnumMember) → All (λ (m : EnumMember). m.value < 2 ^ w) ms → is_among v (map (λ (m : EnumMember). m.value) ms) ≡ true → v < 2 ^ w
member_below w v [] all h = absurd (let no : false ≡ true = h in cc)
member_below w v (m ∷ ms) all h = by_test (m.value == v) refl (member_below w v ms (All-tail (λ (x : EnumMember). x.value < 2 ^ w) m ms all))
  where
    by_test : (b : Bool) → (m.value == v) ≡ b → (is_among v (map (λ (x : EnumMember). x.value) ms) ≡ true → v < 2 ^ w) → v < 2 ^ w
    by_test true e rest = subst (λ (n : ℕ). n < 2 ^ w) (eqb-true m.value v e) (All-head (λ (x : EnumMember). x.value < 2 ^ w) m ms all)
    by_test false e rest = rest (sym (ap (λ b. b || is_among v (map (λ (x : EnumMember). x.value) ms)) e) ∙ h)

enum_below : (v : ℕ) (ts : List EnumType) (e : ℕ) → All IsEnum ts → is_among v (slice_index_or (map (λ (t : EnumType). map (λ (m : EnumMember). m.value) t.members) ts) e []) ≡ true
    → v < 2 ^ slice_index (map (λ (t : EnumType). t.base.width) ts) e
enum_below v [] e all h = absurd (let no : false ≡ true = h in cc)
enum_below v (t ∷ ts) zero all h = member_below t.base.width v t.members (All-head IsEnum t ts all).below h
enum_below v (t ∷ ts) (suc e) all h = enum_below v ts e (All-tail IsEnum t ts all) h

-- a property has the width of its enum
enum_width : (ts : List EnumType) (props : List Prop) (p e : ℕ) → All (IsProp ts) props → slice_index_or (map (λ (x : Prop). x.kind.members) props) p None ≡ Some e
    → slice_index (map (λ (t : EnumType). t.base.width) ts) e ≡ slice_index (map (λ (x : Prop). x.kind.width) props) p
enum_width ts [] p e all is = absurd (cc)
enum_width ts (x ∷ props) zero e all is = (subst (λ (m : Option ℕ). IsOfEnum ts x.kind m) is (All-head (IsProp ts) x props all).named).1
enum_width ts (x ∷ props) (suc p) e all is = enum_width ts props p e (All-tail (IsProp ts) x props all) is

pub value_below : (f : FrameTerm) → IsSound f → (p v : ℕ) → is_among v (domain_of f p) ≡ true → v < 2 ^ width_of f p
value_below f sound p v h = by_kind (slice_index_or (map (λ (x : Prop). x.kind.members) f.class.props) p None) refl h
  where
    by_kind : (k : Option ℕ) → slice_index_or (map (λ (x : Prop). x.kind.members) f.class.props) p None ≡ k → is_among v (domain_from f (width_of f p) (members_of_kind f k)) ≡ true → v < 2 ^ width_of f p
    by_kind None e i = let less = range_below v 0 (2 ^ width_of f p) i in omega (arith, less)
    by_kind (Some n) e i = subst (λ (w : ℕ). v < 2 ^ w) (enum_width f.enums f.class.props p n sound.props e) (enum_below v f.enums n sound.types i)

values_below : (f : FrameTerm) → IsSound f → (fixed : List (ℕ × ℕ)) → All (λ (c : ℕ × ℕ). is_among c.1 (domain_of f c.0) ≡ true) fixed → AllBelow f fixed
values_below f sound [] all = tt
values_below f sound (x ∷ fixed) all = (
  value_below f sound x.0 x.1 (All-head (λ (c : ℕ × ℕ). is_among c.1 (domain_of f c.0) ≡ true) x fixed all),
  values_below f sound fixed (All-tail (λ (c : ℕ × ℕ). is_among c.1 (domain_of f c.0) ≡ true) x fixed all),
)

pub cyclic_below : (f : FrameTerm) → IsSound f → (fixed : List (ℕ × ℕ)) → AreCyclicValues f fixed → AllBelow f fixed
cyclic_below f sound fixed cyclic = values_below f sound fixed cyclic.members

-- ---- the preferred assignment with chosen values

pub with_cyclic_is : (f : FrameTerm) (ns : List ℕ) → IsSound f → SizesFit f ns → (cap : ℕ) → cap ≤ 2048 → (words : ℕ → ℕ) (fixed : List (ℕ × ℕ)) → AreCyclicValues f fixed
    → IsAssignment f part.All ns fixed (preferred_with f part.All ns cap words fixed)
with_cyclic_is f ns sound fit cap le words fixed cyclic = with_values_is f ns sound fit cap le words fixed cyclic.props (cyclic_below f sound fixed cyclic)

-- an assignment with some values fixed is one with none
pub with_none_fixed : (f : FrameTerm) (p : Part) (ns : List ℕ) (fixed : List (ℕ × ℕ)) (a : Reading) → IsAssignment f p ns fixed a → IsAssignment f p ns [] a
with_none_fixed f p ns fixed a is = record { fits = is.fits; same_numbers = is.same_numbers; same_sizes = is.same_sizes; same_script = is.same_script; chosen = tt }
