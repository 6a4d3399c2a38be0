-- Shifts stage by stage
use Rattle.std.proofs.Common.{◌≡◌, ℕ, suc, ◌+◌, ◌-◌, ◌*◌, ◌/◌, ◌%◌, ◌^◌, ◌<◌, ◌≤◌, min, Bool, true, false, cond, not, eqb, List, ◌++◌, length, take, drop, get_or, replicate, refl, sym, ◌∙◌, ap, subst, arith, ◌⊎◌, ⊎_elim}
use Rattle.std.specs.List.{list_any}
use Rattle.std.proofs.lemmas.Bool.{cases_lt, cases_eq, eq-eqb, ne_eqb, lt-ltb, le-ltb}
use Rattle.std.proofs.lemmas.Nat.{mul-mod_first, mod_low, mod_below, pow-add, pow_pos, div-mul-add}
use Rattle.std.proofs.lemmas.List.{length-take-le, length-replicate, length-append, length-drop, drop_all}
use Rattle.std.proofs.lemmas.List.Elements.{All-append, All-take, All-drop, All-replicate}
use Rattle.std.proofs.Math.Nat.{mod-eq_of_lt, mod-add-div, div-eq_of_lt, div-div-eq-div-mul, div-le_self, div-mul-le_self, div-lt_iff_lt-mul, lt-div-mul-add}
use Rattle.std.proofs.Math.Pow.{pow_mono}
use Rattle.svr_chain.specs.declared.clause.Lit.{Lit}
use Rattle.svr_chain.specs.Clauses.{IsWithin, AreWithin}
use Rattle.svr_chain.specs.Valuations.{lit_value}
use Rattle.svr_num.proofs.NumLemmas.{past}
use Rattle.svr_gate.specs.Numbers.{bit, number}
use Rattle.svr_gate.specs.Circuit.{Circuit, Extends, Tells, GivesNumber}
use Rattle.svr_gate.proofs.NumberLemmas.{number-nil, number-lt, number-append, number-take, number-drop, number-replicate, number_more, number_parts}
use Rattle.svr_gate.proofs.Vectors.{GivesNumber-same}
use Rattle.svr_shape.specs.declared.kind.ShiftKind.{ShiftKind}
use Rattle.svr_shape.specs.declared.kind.ShiftKind.TheVariants.{Left, Right, Signed}
use Rattle.svr_shape.specs.Shape.{shift_of, is_signed, fill_of, moved_of}
use Rattle.svr_shape.proofs.ReductionLemmas.{any_number}

-- n moved down by k places in w bits, filled with s
abbrev pub filled : Bool → ℕ → ℕ → ℕ → ℕ
filled s w n k = cond s (2 ^ w - 1 - (2 ^ w - 1 - n) / 2 ^ k) (n / 2 ^ k)

-- n moved by k places
abbrev pub moved_number : ShiftKind → Bool → ℕ → ℕ → ℕ → ℕ
moved_number Left s w n k = (n * 2 ^ k) % 2 ^ w
moved_number Right s w n k = filled s w n k
moved_number Signed s w n k = filled s w n k

-- only the signed shift fills with ones
abbrev pub IsFill : ShiftKind → Bool → Type 0
IsFill Left s = s ≡ false
IsFill Right s = s ≡ false
IsFill Signed s = Unit {0}

pub fills : (kind : ShiftKind) (w n : ℕ) → IsFill kind (fill_of (is_signed kind) w n)
fills Left w n = refl
fills Right w n = refl
fills Signed w n = tt

div_le : (n k : ℕ) → n / 2 ^ k ≤ n
div_le n k = div-le_self n (2 ^ k)

moved_none : (kind : ShiftKind) (s : Bool) (w n : ℕ) → n < 2 ^ w → moved_number kind s w n 0 ≡ n
moved_none Left s w n h = ap (λ x. x % 2 ^ w) (omega arith) ∙ mod-eq_of_lt h
moved_none Right true w n h = omega arith
moved_none Right false w n h = omega arith
moved_none Signed true w n h = omega arith
moved_none Signed false w n h = omega arith

filled_twice : (s : Bool) (w n p q : ℕ) → n < 2 ^ w → filled s w (filled s w n p) q ≡ filled s w n (p + q)
filled_twice false w n p q h = div-div-eq-div-mul n (2 ^ p) (2 ^ q) ∙ ap (λ k. n / k) (sym (pow-add 2 p q))
filled_twice true w n p q h =
    let m = 2 ^ w - 1 - n in
    let le : m / 2 ^ p ≤ m = div_le m p in
    let back : 2 ^ w - 1 - (2 ^ w - 1 - m / 2 ^ p) ≡ m / 2 ^ p = omega (arith, le) in
    ap (λ k. 2 ^ w - 1 - k / 2 ^ q) back ∙ ap (λ k. 2 ^ w - 1 - k) (div-div-eq-div-mul m (2 ^ p) (2 ^ q) ∙ ap (λ k. m / k) (sym (pow-add 2 p q)))

moved_twice : (kind : ShiftKind) (s : Bool) (w n p q : ℕ) → n < 2 ^ w → moved_number kind s w (moved_number kind s w n p) q ≡ moved_number kind s w n (p + q)
moved_twice Left s w n p q h =
    let e : n * 2 ^ p * 2 ^ q ≡ n * 2 ^ (p + q) = omega (arith, ap (λ y. n * y) (pow-add 2 p q)) in
    mul-mod_first (n * 2 ^ p) (2 ^ q) (2 ^ w) ∙ ap (λ y. y % 2 ^ w) e
moved_twice Right s w n p q h = filled_twice s w n p q h
moved_twice Signed s w n p q h = filled_twice s w n p q h

filled_past : (s : Bool) (w n k : ℕ) → n < 2 ^ w → w ≤ k → filled s w n k ≡ cond s (2 ^ w - 1) 0
filled_past false w n k h g = div-eq_of_lt (omega (arith, pow_mono {i = w} {j = k} g))
filled_past true w n k h g =
    let z : (2 ^ w - 1 - n) / 2 ^ k ≡ 0 = div-eq_of_lt (omega (arith, pow_mono {i = w} {j = k} g)) in
    ap (λ x. 2 ^ w - 1 - x) z ∙ omega arith

-- past the width only what fills is left
moved_past : (kind : ShiftKind) (s : Bool) (w n k : ℕ) → IsFill kind s → n < 2 ^ w → w ≤ k → moved_number kind s w n k ≡ cond s (2 ^ w - 1) 0
moved_past Left s w n k f h g = past n k w g ∙ ap (λ b. cond b (2 ^ w - 1) 0) (sym f)
moved_past Right s w n k f h g = filled_past s w n k h g
moved_past Signed s w n k f h g = filled_past s w n k h g

moved_capped : (kind : ShiftKind) (s : Bool) (w n k : ℕ) → IsFill kind s → n < 2 ^ w → moved_number kind s w n (min w k) ≡ moved_number kind s w n k
moved_capped kind s w n k f h =
    ⊎_elim
    (λ (q : k < w). ap (moved_number kind s w n) (omega arith))
    (λ (q : w ≤ k). moved_past kind s w n (min w k) f h (omega arith) ∙ sym (moved_past kind s w n k f h q))
    (cases_lt k w)

-- the low part of w bits, moved up by k
up_value : (n k w : ℕ) → k ≤ w → 2 ^ k * (n % 2 ^ (w - k)) ≡ (n * 2 ^ k) % 2 ^ w
up_value n k w h =
    let e : 2 ^ w ≡ 2 ^ (w - k) * 2 ^ k = ap (λ j. 2 ^ j) (omega arith) ∙ pow-add 2 (w - k) k in
    let d = mod-add-div n (2 ^ (w - k)) in
    let lt : 2 ^ k * (n % 2 ^ (w - k)) < 2 ^ w = subst (λ (x : ℕ). 2 ^ k * (n % 2 ^ (w - k)) < x) (sym e) (scaled (n % 2 ^ (w - k)) (2 ^ (w - k)) (2 ^ k) (mod_below n (2 ^ (w - k)) (pow_pos (w - k))) (pow_pos k)) in
    let s : n * 2 ^ k ≡ (n / 2 ^ (w - k)) * 2 ^ w + 2 ^ k * (n % 2 ^ (w - k)) = omega (arith, ap (λ x. x * 2 ^ k) d, ap (λ x. (n / 2 ^ (w - k)) * x) e) in
    sym (ap (λ x. x % 2 ^ w) s ∙ mod_low (n / 2 ^ (w - k)) w (2 ^ k * (n % 2 ^ (w - k))) lt) where
      scaled : (a b c : ℕ) → a < b → 0 < c → c * a < b * c
      scaled a b c g p = grind arith

-- the high part of w bits with ones above it
down_value : (n k w : ℕ) → k ≤ w → n < 2 ^ w → n / 2 ^ k + 2 ^ (w - k) * (2 ^ k - 1) ≡ 2 ^ w - 1 - (2 ^ w - 1 - n) / 2 ^ k
down_value n k w h lt =
    let parts : 2 ^ w ≡ 2 ^ (w - k) * 2 ^ k = ap (λ j. 2 ^ j) (omega arith) ∙ pow-add 2 (w - k) k in
    let q = n / 2 ^ k in
    let below : q < 2 ^ (w - k) = (div-lt_iff_lt-mul {k = 2 ^ k} {x = n} {y = 2 ^ (w - k)} (pow_pos k)).1 (subst (λ (x : ℕ). n < x) parts lt) in
    let r = n - q * 2 ^ k in
    let le = div-mul-le_self n (2 ^ k) in
    let small : r < 2 ^ k = omega (arith, le, lt-div-mul-add {a = n} {b = 2 ^ k} (pow_pos k)) in
    let t : 2 ^ (w - k) ≡ 2 ^ (w - k) - 1 - q + 1 + q = omega (arith, below) in
    down (2 ^ (w - k) - 1 - q) q (2 ^ k) r n (2 ^ w) (2 ^ (w - k)) (omega (arith, le)) small t parts where
      down : (t q b r n p a : ℕ) → n ≡ q * b + r → r < b → a ≡ t + 1 + q → p ≡ a * b → q + a * (b - 1) ≡ p - 1 - (p - 1 - n) / b
      down t q b r n p a e lt f g =
          let one : b ≡ b - 1 + 1 = omega arith in
          let whole : a * b ≡ a * (b - 1) + a = omega (arith, ap (λ j. a * j) one) in
          let sum : p ≡ t * b + b + q * b = omega (arith, g, ap (λ j. j * b) f) in
          let rest : p - 1 - n ≡ t * b + (b - 1 - r) = omega (arith, sum, e) in
          let d : (p - 1 - n) / b ≡ t = ap (λ j. j / b) rest ∙ div-mul-add t b (b - 1 - r) (omega arith) in
          omega (arith, d, whole, f, g)

number-down : (a : ℕ → Bool) (fill : Lit) (k : ℕ) (v : List Lit) → k ≤ length v → number a (drop k v ++ replicate k fill) ≡ filled (lit_value a fill) (length v) (number a v) k
number-down a fill k v h =
    number-append a (drop k v) (replicate k fill)
    ∙ ap (λ n. n + 2 ^ length (drop k v) * number a (replicate k fill)) (number-drop a k v h)
    ∙ ap (λ n. number a v / 2 ^ k + 2 ^ n * number a (replicate k fill)) (length-drop k v)
    ∙ ap (λ n. number a v / 2 ^ k + 2 ^ (length v - k) * n) (number-replicate a fill k)
    ∙ by_fill (lit_value a fill) where
      by_fill : (s : Bool) → number a v / 2 ^ k + 2 ^ (length v - k) * cond s (2 ^ k - 1) 0 ≡ filled s (length v) (number a v) k
      by_fill true = down_value (number a v) k (length v) h (number-lt a v)
      by_fill false = omega arith

number-moved : (a : ℕ → Bool) (kind : ShiftKind) (fill : Lit) (k : ℕ) (v : List Lit) → IsFill kind (lit_value a fill) → k ≤ length v → number a (moved_of kind fill k v) ≡ moved_number kind (lit_value a fill) (length v) (number a v) k
number-moved a Left fill k v f h =
    number-append a (replicate k fill) (take (length v - k) v)
    ∙ ap (λ n. n + 2 ^ length (replicate k fill) * number a (take (length v - k) v)) (number-replicate a fill k ∙ ap (λ b. cond b (2 ^ k - 1) 0) f)
    ∙ ap (λ n. 0 + 2 ^ n * number a (take (length v - k) v)) (length-replicate k fill)
    ∙ ap (λ n. 0 + 2 ^ k * n) (number-take a (length v - k) v (omega arith))
    ∙ omega arith
    ∙ up_value (number a v) k (length v) h
number-moved a Right fill k v f h = number-down a fill k v h
number-moved a Signed fill k v f h = number-down a fill k v h

stage : (kind : ShiftKind) (s : Bool) (w n p k : ℕ) (t : Bool) → n < 2 ^ w → cond t (moved_number kind s w (moved_number kind s w n p) k) (moved_number kind s w n p) ≡ moved_number kind s w n (p + k * bit t)
stage kind s w n p k true h = moved_twice kind s w n p k h ∙ ap (λ j. moved_number kind s w n j) (omega arith)
stage kind s w n p k false h = ap (λ j. moved_number kind s w n j) (omega arith)

-- the stages together are the shift
pub moved_is_shift : (kind : ShiftKind) (w n k : ℕ) → n < 2 ^ w → moved_number kind (fill_of (is_signed kind) w n) w n k ≡ shift_of kind w n k
moved_is_shift Left w n k h = refl
moved_is_shift Right w n k h = refl
moved_is_shift Signed w n k h =
    ⊎_elim
    (λ (q : n < 2 ^ (w - 1)). rw (lt-ltb n (2 ^ (w - 1)) q) (sym (mod-eq_of_lt (omega (arith, div_le n k)))))
    (λ (q : 2 ^ (w - 1) ≤ n).
    let m : 2 ^ w - suc n ≡ 2 ^ w - 1 - n = omega arith in
    rw (le-ltb n (2 ^ (w - 1)) q)
    (omega arith ∙ ap (λ x. 2 ^ w - suc x) (sym (mod-eq_of_lt (omega (arith, div_le (2 ^ w - 1 - n) k))) ∙ ap (λ x. (x / 2 ^ k) % 2 ^ w) (sym m))))
    (cases_lt n (2 ^ (w - 1)))

module _ (c d : Circuit) (kind : ShiftKind) (x by v moved next : List Lit) (fill dx : Lit) (i k : ℕ) where
  -- one stage more
  pub shift_step : Extends c d → i < length by → k ≡ min (length v) (2 ^ i)
      → Tells c fill (λ a. fill_of (is_signed kind) (length x) (number a x))
      → GivesNumber c v (length x) (λ a. moved_number kind (fill_of (is_signed kind) (length x) (number a x)) (length x) (number a x) (number a (take i by)))
      → moved ≡ moved_of kind fill k v
      → GivesNumber d next (length x) (λ a. cond (lit_value a (get_or by i dx)) (number a moved) (number a v))
      → GivesNumber d next (length x) (λ a. moved_number kind (fill_of (is_signed kind) (length x) (number a x)) (length x) (number a x) (number a (take (i + 1) by)))
  shift_step e h kk f g mv r =
      GivesNumber-same (λ a. moved_number kind (fill_of (is_signed kind) (length x) (number a x)) (length x) (number a x) (number a (take (i + 1) by))) r
      (λ a m.
      let mc = e.keeps a m in
      let w = length x in
      let n = number a x in
      let s = fill_of (is_signed kind) w n in
      let told : lit_value a fill ≡ s = f.value a mc in
      let is_fill : IsFill kind s = fills kind w n in
      let t = lit_value a (get_or by i dx) in
      let p = number a (take i by) in
      let lt : number a v < 2 ^ length v = number-lt a v in
      let mo : number a moved ≡ moved_number kind s (length v) (number a v) (2 ^ i)
      = ap (number a) mv ∙ number-moved a kind fill k v (subst (λ (b : Bool). IsFill kind b) (sym told) is_fill) (omega arith)
      ∙ ap (λ b. moved_number kind b (length v) (number a v) k) told
      ∙ ap (λ j. moved_number kind s (length v) (number a v) j) kk
      ∙ moved_capped kind s (length v) (number a v) (2 ^ i) is_fill lt in
      ap (λ j. cond t j (number a v)) (mo ∙ ap (λ j. moved_number kind s j (number a v) (2 ^ i)) g.len)
      ∙ ap (λ j. cond t (moved_number kind s w j (2 ^ i)) j) (g.value a mc)
      ∙ stage kind s w n p (2 ^ i) t (number-lt a x)
      ∙ ap (λ j. moved_number kind s w n j) (sym (number_more a by i dx h)))

-- before the first stage
pub shift_none : (c : Circuit) (kind : ShiftKind) (x by : List Lit) → AreWithin c.vars x
    → GivesNumber c x (length x) (λ a. moved_number kind (fill_of (is_signed kind) (length x) (number a x)) (length x) (number a x) (number a (take 0 by)))
shift_none c kind x by w = record {
  within = w;
  len = refl;
  value = λ a m.
      sym (ap (λ j. moved_number kind (fill_of (is_signed kind) (length x) (number a x)) (length x) (number a x) j) (number-nil a)
      ∙ moved_none kind (fill_of (is_signed kind) (length x) (number a x)) (length x) (number a x) (number-lt a x));
}

-- an amount with a bit past the stages is past the width
module _ (c d e : Circuit) (kind : ShiftKind) (x by v next : List Lit) (fill far : Lit) (s : ℕ) (cd : Extends c d) (de : Extends d e) (h : s ≤ length by) (wide : (length by ≡ s) ⊎ (length x ≤ 2 ^ s))
    (f : Tells c fill (λ a. fill_of (is_signed kind) (length x) (number a x)))
    (g : GivesNumber c v (length x) (λ a. moved_number kind (fill_of (is_signed kind) (length x) (number a x)) (length x) (number a x) (number a (take s by))))
    (t : Tells d far (λ a. list_any (lit_value a) (drop s by)))
    (r : GivesNumber e next (length x) (λ a. cond (lit_value a far) (number a (replicate (length x) fill)) (number a v))) where
  pub shift_far : GivesNumber e next (length x) (λ a. shift_of kind (length x) (number a x) (number a by))
  shift_far =
      GivesNumber-same (λ a. shift_of kind (length x) (number a x) (number a by)) r
      (λ a m.
      let md = de.keeps a m in
      let mc = cd.keeps a md in
      let w = length x in
      let n = number a x in
      let b = fill_of (is_signed kind) w n in
      let high = number a (drop s by) in
      let parts : number a by ≡ number a (take s by) + 2 ^ s * high = number_parts a s by h in
      let filler : number a (replicate w fill) ≡ cond b (2 ^ w - 1) 0 = number-replicate a fill w ∙ ap (λ z. cond z (2 ^ w - 1) 0) (f.value a mc) in
      ap (λ z. cond z (number a (replicate w fill)) (number a v)) (t.value a md ∙ any_number a (drop s by))
      ∙ ap (λ z. cond (not (eqb high 0)) z (number a v)) filler
      ∙ ap (λ z. cond (not (eqb high 0)) (cond b (2 ^ w - 1) 0) z) (g.value a mc)
      ∙ ⊎_elim
      (λ (q : high ≡ 0).
      let z : number a (take s by) ≡ number a by = omega (arith, parts, ap (λ j. 2 ^ s * j) q) in
      ap (λ y. cond (not y) (cond b (2 ^ w - 1) 0) (moved_number kind b w n (number a (take s by)))) (eq-eqb high 0 q)
      ∙ ap (λ j. moved_number kind b w n j) z)
      (λ (q : high ≡ 0 → ⊥).
      ap (λ y. cond (not y) (cond b (2 ^ w - 1) 0) (moved_number kind b w n (number a (take s by)))) (ne_eqb high 0 q)
      ∙ sym (moved_past kind b w n (number a by) (fills kind w n) (number-lt a x) (far_enough a parts q)))
      (cases_eq high 0)
      ∙ moved_is_shift kind w n (number a by) (number-lt a x)) where
        times : (k n : ℕ) → (n ≡ 0 → ⊥) → k ≤ k * n
        times k n q = grind arith

        far_enough : (a : ℕ → Bool) → number a by ≡ number a (take s by) + 2 ^ s * number a (drop s by) → (number a (drop s by) ≡ 0 → ⊥) → length x ≤ number a by
        far_enough a parts q =
            ⊎_elim
            (λ (z : length by ≡ s). absurd (q (ap (number a) (drop_all s by (omega arith)) ∙ number-nil a)))
            (λ (z : length x ≤ 2 ^ s). omega (arith, parts, times (2 ^ s) (number a (drop s by)) q))
            wide

pub moved_within : (kind : ShiftKind) (n : ℕ) (fill : Lit) (k : ℕ) (v : List Lit) → IsWithin n fill → AreWithin n v → AreWithin n (moved_of kind fill k v)
moved_within Left n fill k v wf wv = All-append (IsWithin n) (replicate k fill) (take (length v - k) v) (All-replicate (IsWithin n) k fill wf) (All-take (IsWithin n) (length v - k) v wv)
moved_within Right n fill k v wf wv = All-append (IsWithin n) (drop k v) (replicate k fill) (All-drop (IsWithin n) k v wv) (All-replicate (IsWithin n) k fill wf)
moved_within Signed n fill k v wf wv = All-append (IsWithin n) (drop k v) (replicate k fill) (All-drop (IsWithin n) k v wv) (All-replicate (IsWithin n) k fill wf)

pub length_moved : (kind : ShiftKind) (fill : Lit) (k : ℕ) (v : List Lit) → k ≤ length v → length (moved_of kind fill k v) ≡ length v
length_moved Left fill k v h = omega (arith, length-append (replicate k fill) (take (length v - k) v), length-replicate k fill, length-take-le (length v - k) v (omega arith))
length_moved Right fill k v h = omega (arith, length-append (drop k v) (replicate k fill), length-replicate k fill, length-drop k v)
length_moved Signed fill k v h = omega (arith, length-append (drop k v) (replicate k fill), length-replicate k fill, length-drop k v)
