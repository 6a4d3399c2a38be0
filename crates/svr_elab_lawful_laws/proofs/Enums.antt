-- The members of an enum in which nothing is refused have different values of its width.
use Rattle.std.proofs.Common.{◌≡◌, ℕ, zero, suc, ◌+◌, ◌-◌, ◌*◌, ◌^◌, ◌%◌, ◌<◌, ◌≤◌, ℤ, pos, negsuc, Bool, true, false, ◌||◌, nat_le, if◌then◌else◌, List, [], ◌∷◌, ◌++◌, length, map, Option, None, Some, refl, sym, ap, subst, ◌∙◌, true≢false, arith}
use Rattle.std.specs.Prelude.{nat_eq, int_lt, ◌-ℤ◌}
use Rattle.std.specs.Ordering.{int_eq}
use Rattle.std.specs.List.{list_any}
use Rattle.std.proofs.lemmas.Bool.Decides.{Decides-eqb, Decides-int_eq, nat_tests}
use Rattle.std.proofs.lemmas.Int.{ints}
use Rattle.std.proofs.lemmas.Nat.{mod_below, pow_pos}
use Rattle.std.proofs.Math.Nat.{mod-eq_of_lt, pow-suc}
use Rattle.svr_num.specs.Num.{residue}
use Rattle.svr_typed.specs.declared.EnumMember.{EnumMember}
use Rattle.svr_typed.specs.declared.EnumType.{EnumType}
use Rattle.svr_tree.specs.ExprTree.{ExprTree}
use Rattle.svr_tree.specs.DeclTree.{MemberTree}
use Rattle.svr_refusal.specs.declared.Refusal.TheVariants as refusal
use Rattle.svr_design.specs.Types.{AllDiffer, AllBelow}
use Rattle.svr_elab_fault.specs.declared.Fault.{Fault}
use Rattle.svr_elab_fault.specs.Refusals.{first_one, when, earlier}
use Rattle.svr_elab_names.specs.declared.Vector.{Vector}
use Rattle.svr_elab_names.specs.declared.Global.{Global}
use Rattle.svr_elab_names.specs.declared.Global.TheVariants as global
use Rattle.svr_elab_names.specs.Names.{Space, GlobalName, is_name}
use Rattle.svr_elab_part.specs.Fits.{Each}
use Rattle.svr_elab_part.proofs.Valued.{none_left, none_right, not_when}
use Rattle.svr_limits.specs.declared.limit.TheConstants.{MEMBER_LIMIT}
use Rattle.svr_elab_type.specs.Types as spec
use Rattle.svr_elab_type.specs.Types.{Constant, EnumElab}
use Rattle.svr_elab_expr_laws.specs.Known.{IsKnown, GlobalKnown}
use Rattle.svr_elab_lawful_laws.specs.Declared.{VectorIs, MemberIs, GlobalIs, GlobalsAre}
use Rattle.svr_elab_lawful_laws.proofs.Constants.{constants_have_numbers}

pub or_left : (a b : Bool) → (a || b) ≡ false → a ≡ false
or_left true b h = absurd (true≢false h)
or_left false b h = refl

pub or_right : (a b : Bool) → (a || b) ≡ false → b ≡ false
or_right true b h = absurd (true≢false h)
or_right false b h = h

pub some_known : {A : Type 0} (x : A) → IsKnown (Some x)
some_known x = refl

pub none_known : (A : Type 0) {B : Type 0} → IsKnown {A = A} None → B
none_known A h = absurd (true≢false (sym h))

-- ---- numbers of a type

abbrev Within : Bool → ℕ → ℤ → Type 0
Within true w (pos n) = n < 2 ^ (w - 1)
Within true w (negsuc n) = n < 2 ^ (w - 1)
Within false w (pos n) = n < 2 ^ w
Within false w (negsuc n) = ⊥

below_top : (p n : ℕ) → 0 < p → int_lt (pos p -ℤ pos 1) (pos n) ≡ false → n < p
below_top p n some h = grind (arith, ints, some, h)

above_bottom : (p n : ℕ) → int_lt (negsuc n) (pos 0 -ℤ pos p) ≡ false → n < p
above_bottom p n h = grind (arith, ints, h)

not_negative : (n : ℕ) → int_lt (negsuc n) (pos 0) ≡ false → ⊥
not_negative n h = grind (arith, ints, h)

within : (s : Bool) (w : ℕ) (x : ℤ) → int_lt x (if s then pos 0 -ℤ pos (2 ^ (w - 1)) else pos 0) ≡ false
    → int_lt (if s then pos (2 ^ (w - 1)) -ℤ pos 1 else pos (2 ^ w) -ℤ pos 1) x ≡ false → Within s w x
within true w (pos n) h k = below_top (2 ^ (w - 1)) n (pow_pos (w - 1)) k
within true w (negsuc n) h k = above_bottom (2 ^ (w - 1)) n h
within false w (pos n) h k = below_top (2 ^ w) n (pow_pos w) k
within false w (negsuc n) h k = not_negative n h

doubled : (w : ℕ) → 1 ≤ w → 2 ^ w ≡ 2 ^ (w - 1) * 2
doubled zero h = absurd (omega (arith, h))
doubled (suc k) h = let e : k ≡ suc k - 1 = omega arith in pow-suc 2 k ∙ ap (λ (j : ℕ). 2 ^ j * 2) e

-- two numbers of a type that have the same bits are the same
same_pos : (q n m : ℕ) → n < q → m < q → n % q ≡ m % q → n ≡ m
same_pos q n m h k e = sym (mod-eq_of_lt h) ∙ e ∙ mod-eq_of_lt k

same_neg : (q n m : ℕ) → n < q → m < q → q - suc (n % q) ≡ q - suc (m % q) → n ≡ m
same_neg q n m h k e =
    let a : n % q ≡ n = mod-eq_of_lt h in
    let b : m % q ≡ m = mod-eq_of_lt k in
    let d : q - suc n ≡ q - suc m = ap (λ (x : ℕ). q - suc x) (sym a) ∙ e ∙ ap (λ (x : ℕ). q - suc x) b in
    omega (arith, h, k, d)

apart_signs : (p q n m : ℕ) → q ≡ p * 2 → n < p → m < p → n % q ≡ q - suc (m % q) → ⊥
apart_signs p q n m two h k e =
    let below : n < q = omega (arith, two, h) in
    let other : m < q = omega (arith, two, k) in
    let a : n % q ≡ n = mod-eq_of_lt below in
    let b : m % q ≡ m = mod-eq_of_lt other in
    let d : n ≡ q - suc m = sym a ∙ e ∙ ap (λ (x : ℕ). q - suc x) b in
    omega (arith, two, h, k, d)

to_whole : (p q n : ℕ) → q ≡ p * 2 → n < p → n < q
to_whole p q n two h = omega (arith, two, h)

same_bits : (s : Bool) (w : ℕ) (x y : ℤ) → 1 ≤ w → Within s w x → Within s w y → residue w x ≡ residue w y → x ≡ y
same_bits true w (pos n) (pos m) low h k e = ap pos (same_pos (2 ^ w) n m (to_whole (2 ^ (w - 1)) (2 ^ w) n (doubled w low) h) (to_whole (2 ^ (w - 1)) (2 ^ w) m (doubled w low) k) e)
same_bits true w (pos n) (negsuc m) low h k e = absurd (apart_signs (2 ^ (w - 1)) (2 ^ w) n m (doubled w low) h k e)
same_bits true w (negsuc n) (pos m) low h k e = absurd (apart_signs (2 ^ (w - 1)) (2 ^ w) m n (doubled w low) k h (sym e))
same_bits true w (negsuc n) (negsuc m) low h k e =
    ap negsuc (same_neg (2 ^ w) n m (to_whole (2 ^ (w - 1)) (2 ^ w) n (doubled w low) h) (to_whole (2 ^ (w - 1)) (2 ^ w) m (doubled w low) k) e)
same_bits false w (pos n) (pos m) low h k e = ap pos (same_pos (2 ^ w) n m h k e)
same_bits false w (pos n) (negsuc m) low h k e = absurd k
same_bits false w (negsuc n) y low h k e = absurd h

residue_below : (w : ℕ) (x : ℤ) → residue w x < 2 ^ w
residue_below w (pos n) = mod_below n (2 ^ w) (pow_pos w)
residue_below w (negsuc n) = let p : 0 < 2 ^ w = pow_pos w in omega arith

-- ---- one more of a list

pub each_last : {A : Type 0} (P : A → Type 0) (xs : List A) (x : A) → Each P xs → P x → Each P (xs ++ x ∷ [])
each_last P [] x h k = (k, tt)
each_last P (y ∷ xs) x h k = (h.0, each_last P xs x h.1 k)

pub each_to : {A : Type 0} (P Q : A → Type 0) (f : (x : A) → P x → Q x) (xs : List A) → Each P xs → Each Q xs
each_to P Q f [] h = tt
each_to P Q f (x ∷ xs) h = (f x h.0, each_to P Q f xs h.1)

pub map_last : {A B : Type 0} (f : A → B) (xs : List A) (x : A) → map f (xs ++ x ∷ []) ≡ map f xs ++ f x ∷ []
map_last f [] x = refl
map_last f (y ∷ xs) x = ap (λ zs. f y ∷ zs) (map_last f xs x)

pub length_last : {A : Type 0} (xs : List A) (x : A) → length (xs ++ x ∷ []) ≡ suc (length xs)
length_last [] x = refl
length_last (y ∷ xs) x = ap suc (length_last xs x)

below_last : (n : ℕ) (xs : List ℕ) (x : ℕ) → AllBelow n xs → x < n → AllBelow n (xs ++ x ∷ [])
below_last n [] x h k = (k, tt)
below_last n (y ∷ xs) x h k = (h.0, below_last n xs x h.1 k)

nat_apart : (b : Bool) (x y : ℕ) → nat_eq x y ≡ b → (x ≡ y → ⊥) → b ≡ false
nat_apart true x y e h = absurd (h ((Decides-eqb x y).0 e))
nat_apart false x y e h = refl

apart_nat : (x y : ℕ) → nat_eq x y ≡ false → x ≡ y → ⊥
apart_nat x y h e = true≢false (sym ((Decides-eqb x y).1 e) ∙ h)

flipped : (x y : ℕ) → nat_eq x y ≡ false → nat_eq y x ≡ false
flipped x y h = nat_apart (nat_eq y x) y x refl (λ e. apart_nat x y h (sym e))

none_last : (p : ℕ → Bool) (xs : List ℕ) (x : ℕ) → list_any p xs ≡ false → p x ≡ false → list_any p (xs ++ x ∷ []) ≡ false
none_last p [] x h k = ap (λ (b : Bool). b || false) k
none_last p (y ∷ xs) x h k =
    ap (λ (b : Bool). b || list_any p (xs ++ x ∷ [])) (or_left (p y) (list_any p xs) h) ∙ none_last p xs x (or_right (p y) (list_any p xs) h) k

differ_last : (xs : List ℕ) (x : ℕ) → AllDiffer xs → list_any (nat_eq x) xs ≡ false → AllDiffer (xs ++ x ∷ [])
differ_last [] x h k = (refl, tt)
differ_last (y ∷ xs) x h k =
    (none_last (nat_eq y) xs x h.0 (flipped x y (or_left (nat_eq x y) (list_any (nat_eq x) xs) k)), differ_last xs x h.1 (or_right (nat_eq x y) (list_any (nat_eq x) xs) k))

int_apart : (x y : ℤ) → int_eq x y ≡ false → x ≡ y → ⊥
int_apart x y h e = true≢false (sym ((Decides-int_eq x y).1 e) ∙ h)

-- a number that is none of these has other bits than each of them
new_bits : (s : Bool) (w : ℕ) (x : ℤ) (xs : List ℤ) → 1 ≤ w → Within s w x → Each (Within s w) xs → list_any (int_eq x) xs ≡ false → list_any (nat_eq (residue w x)) (map (residue w) xs) ≡ false
new_bits s w x [] low h k e = refl
new_bits s w x (y ∷ xs) low h k e =
    ap (λ (b : Bool). b || list_any (nat_eq (residue w x)) (map (residue w) xs))
    (nat_apart (nat_eq (residue w x) (residue w y)) (residue w x) (residue w y) refl (λ f. int_apart x y (or_left (int_eq x y) (list_any (int_eq x) xs) e) (same_bits s w x y low h k.0 f)))
    ∙ new_bits s w x xs low h k.1 (or_right (int_eq x y) (list_any (int_eq x) xs) e)

-- ---- globals

pub one_of : {A : Type 0} (P : A → Type 0) (b : Bool) (x y : A) → P x → P y → P (if b then x else y)
one_of P true x y h k = h
one_of P false x y h k = k

pub and_global : (es : List EnumType) (n : ℕ) (gs : List GlobalName) (q : List ℕ) (g : Global) → GlobalsAre es n gs → GlobalIs es n g → GlobalsAre es n (spec.and_name gs q g)
and_global es n gs q g h k =
    let x : GlobalName = record { name = q; stands = g } in
    one_of (GlobalsAre es n) (is_name (λ (g : GlobalName). g.name) q gs) gs (gs ++ x ∷ []) h (each_last (λ (g : GlobalName). GlobalIs es n g.stands) gs x h k)

member_is_known : (es : List EnumType) (v : Option ℕ) (k : Option Vector) → MemberIs es v k → IsKnown v × IsKnown k
member_is_known es None k h = absurd h
member_is_known es (Some v) None h = absurd h
member_is_known es (Some v) (Some k) h = (refl, refl)

pub global_is_known : (es : List EnumType) (n : ℕ) (g : Global) → GlobalIs es n g → GlobalKnown g
global_is_known es n (global.OfType kind) h = tt
global_is_known es n (global.OfClass c) h = tt
global_is_known es n (global.OfMember v kind) h = member_is_known es v kind h

pub globals_are_known : (es : List EnumType) (n : ℕ) (gs : List GlobalName) → GlobalsAre es n gs → Each (λ (g : GlobalName). GlobalKnown g.stands) gs
globals_are_known es n gs h = each_to (λ (g : GlobalName). GlobalIs es n g.stands) (λ (g : GlobalName). GlobalKnown g.stands) (λ g k. global_is_known es n g.stands k) gs h

-- ---- members

abbrev Members : Type 0
Members = EnumElab (Option Fault)

abbrev pub value_of : EnumMember → ℕ
value_of m = m.value

-- `n` is where the enum stands; `es` are the enums with it, and `v` is its type
pub record MembersAre (n : Space) (es : List EnumType) (cs : ℕ) (v : Vector) (s : Members) : Type 0 where
  pub place : s.names ≡ (let m : Space = record n { globals = s.names.globals } in m)
  pub globals : GlobalsAre es cs s.names.globals
  pub next : IsKnown s.next
  pub numbers : Each (Within v.kind.signed v.kind.width) s.numbers
  pub values : map value_of s.members ≡ map (residue v.kind.width) s.numbers
  pub below : AllBelow (2 ^ v.kind.width) (map value_of s.members)
  pub differ : AllDiffer (map value_of s.members)
  pub few : length s.members ≤ 1024

few_more : (n : ℕ) → nat_le MEMBER_LIMIT n ≡ false → suc n ≤ 1024
few_more n h = grind (arith, nat_tests, h)

with_new : (x : ℤ) (xs : List ℤ) → list_any (int_eq x) xs ≡ false → spec.with_number (Some x) xs ≡ xs ++ x ∷ []
with_new x xs h = ap (λ (b : Bool). if b then xs else xs ++ x ∷ []) h

module _ (n : Space) (es : List EnumType) (cs : ℕ) (v : Vector) (is : VectorIs es v) where
  abbrev w : ℕ
  w = v.kind.width

  added : (name : ℕ) (s : Members) (x : ℤ) (f : Option Fault) → MembersAre n es cs v s → spec.is_bad_member (Some v) (Some x) s.numbers ≡ false → nat_le MEMBER_LIMIT (length s.members) ≡ false
      → MembersAre n es cs v (spec.and_member first_one (Some v) name s (record { at = 0; number = Some x; faults = f }))
  added name s x f h bad many =
      let least = spec.least_number v.kind in
      let greatest = spec.greatest_number v.kind in
      let tested = or_right (int_lt x least) (int_lt greatest x || list_any (int_eq x) s.numbers) bad in
      let fits : Within v.kind.signed w x = within v.kind.signed w x (or_left (int_lt x least) (int_lt greatest x || list_any (int_eq x) s.numbers) bad) (or_left (int_lt greatest x) (list_any (int_eq x) s.numbers) tested) in
      let is_new : list_any (int_eq x) s.numbers ≡ false = or_right (int_lt greatest x) (list_any (int_eq x) s.numbers) tested in
      let m : EnumMember = record { name = s.names.text name; value = residue w x } in
      let grown : spec.with_number (Some x) s.numbers ≡ s.numbers ++ x ∷ [] = with_new x s.numbers is_new in
      let mapped : map value_of (s.members ++ m ∷ []) ≡ map value_of s.members ++ residue w x ∷ [] = map_last value_of s.members m in
      let other : list_any (nat_eq (residue w x)) (map value_of s.members) ≡ false =
      ap (list_any (nat_eq (residue w x))) h.values ∙ new_bits v.kind.signed w x s.numbers is.kind.low fits h.numbers is_new in
      record {
        place = ap (λ (t : Space). record t { globals = spec.and_name s.names.globals (s.names.text name) (global.OfMember (Some (residue w x)) (Some v)) }) h.place;
        globals = and_global es cs s.names.globals (s.names.text name) (global.OfMember (Some (residue w x)) (Some v)) h.globals (is, residue_below w x);
        next = refl;
        numbers = subst (Each (Within v.kind.signed w)) (sym grown) (each_last (Within v.kind.signed w) s.numbers x h.numbers fits);
        values = mapped ∙ ap (λ (xs : List ℕ). xs ++ residue w x ∷ []) h.values ∙ sym (map_last (residue w) s.numbers x) ∙ ap (map (residue w)) (sym grown);
        below = subst (AllBelow (2 ^ w)) (sym mapped) (below_last (2 ^ w) (map value_of s.members) (residue w x) h.below (residue_below w x));
        differ = subst AllDiffer (sym mapped) (differ_last (map value_of s.members) (residue w x) h.differ other);
        few = subst (λ (k : ℕ). k ≤ 1024) (sym (length_last s.members m)) (few_more (length s.members) many);
      }

  with_constant : (name : ℕ) (s : Members) (c : Constant (Option Fault)) (x : Option ℤ) → c.number ≡ x → IsKnown x → MembersAre n es cs v s → spec.is_bad_member (Some v) c.number s.numbers ≡ false → nat_le MEMBER_LIMIT (length s.members) ≡ false
      → MembersAre n es cs v (spec.and_member first_one (Some v) name s c)
  with_constant name s c None e k h bad many = none_known ℤ k
  with_constant name s c (Some x) e k h bad many =
      let P : Option ℤ → Type 0 = λ z. MembersAre n es cs v (spec.and_member first_one (Some v) name s (record { at = c.at; number = z; faults = c.faults })) in
      let a = added name s x c.faults h (ap (λ (z : Option ℤ). spec.is_bad_member (Some v) z s.numbers) (sym e) ∙ bad) many in
      subst P (sym e) (record { place = a.place; globals = a.globals; next = a.next; numbers = a.numbers; values = a.values; below = a.below; differ = a.differ; few = a.few })

  number_known : (s : Members) (e : Option ExprTree) → MembersAre n es cs v s → (spec.member_number first_one s.names s.next e).faults ≡ None → IsKnown (spec.member_number first_one s.names s.next e).number
  number_known s None h f = h.next
  number_known s (Some e) h f = constants_have_numbers s.names e (globals_are_known es cs s.names.globals h.globals) f

  one_member : (m : MemberTree) (s : Members) → (s.faults ≡ None → MembersAre n es cs v s)
      → (spec.and_member first_one (Some v) m.name s (spec.member_number first_one s.names s.next m.value)).faults ≡ None
      → MembersAre n es cs v (spec.and_member first_one (Some v) m.name s (spec.member_number first_one s.names s.next m.value))
  one_member m s h f =
      let c : Constant (Option Fault) = spec.member_number first_one s.names s.next m.value in
      let double : Option Fault = spec.double first_one s.names m.name in
      let bad : Option Fault = when first_one (spec.is_bad_member (Some v) c.number s.numbers) m.name refusal.BadEnum in
      let many : Option Fault = when first_one (nat_le MEMBER_LIMIT (length s.members)) m.name refusal.TooMany in
      let f1 : earlier c.faults (earlier double (earlier bad many)) ≡ None = none_right s.faults (earlier c.faults (earlier double (earlier bad many))) f in
      let f2 : earlier double (earlier bad many) ≡ None = none_right c.faults (earlier double (earlier bad many)) f1 in
      let f3 : earlier bad many ≡ None = none_right double (earlier bad many) f2 in
      let before : MembersAre n es cs v s = h (none_left s.faults (earlier c.faults (earlier double (earlier bad many))) f) in
      with_constant m.name s c c.number refl (number_known s m.value before (none_left c.faults (earlier double (earlier bad many)) f1)) before
      (not_when (spec.is_bad_member (Some v) c.number s.numbers) m.name refusal.BadEnum (none_left bad many f3))
      (not_when (nat_le MEMBER_LIMIT (length s.members)) m.name refusal.TooMany (none_right bad many f3))

  pub members_are : (ms : List MemberTree) (s : Members) → (s.faults ≡ None → MembersAre n es cs v s) → (spec.enum_members first_one (Some v) s ms).faults ≡ None → MembersAre n es cs v (spec.enum_members first_one (Some v) s ms)
  members_are [] s h f = h f
  members_are (m ∷ ms) s h f = members_are ms (spec.and_member first_one (Some v) m.name s (spec.member_number first_one s.names s.next m.value)) (one_member m s h) f

-- as many as are declared
count_more : (a b c : ℕ) → b ≡ suc a → b + c ≡ a + suc c
count_more a b c h = omega (arith, h)

pub members_counted : (base : Option Vector) (ms : List MemberTree) (s : Members) → length (spec.enum_members first_one base s ms).members ≡ length s.members + length ms
members_counted base [] s = let e : length s.members ≡ length s.members + 0 = omega arith in e
members_counted base (m ∷ ms) s =
    let c : Constant (Option Fault) = spec.member_number first_one s.names s.next m.value in
    let t : Members = spec.and_member first_one base m.name s c in
    members_counted base ms t ∙ count_more (length s.members) (length t.members) (length ms) (length_last s.members (record { name = s.names.text m.name; value = spec.or_zero (spec.stored_bits base c.number) }))
