-- Loops that call one function for each part.
use Rattle.std.proofs.Common.{◌≡◌, ℕ, suc, ◌+◌, ◌-◌, ◌^◌, ◌<◌, Bool, true, false, if◌then◌else◌, List, [], ◌∷◌, length, Result, Ok, Err, refl, sym, ap, subst, arith}
use denote.Ref.{MutBor}
use Rattle.svr_token.specs.declared.Mark.TheVariants as m
use Rattle.svr_tree.specs.Tokens.{Tok}
use Rattle.svr_reader.specs.Outcomes.{Outcome, and_then, taken}
use Rattle.svr_reader.specs.declared.fixed.Fixed.{Fixed}
use Rattle.svr_reader.specs.declared.fixed.Fixed.TheVariants as f
use Rattle.svr_reader.specs.declared.fault.ReadFault.{ReadFault}
use Rattle.svr_reader.specs.declared.fault.ReadFault.TheVariants.{NoMemory}
use Rattle.svr_reader.specs.Steps.{sees, eaten}
use Rattle.svr_reader.specs.Calls.{cap, Calls, Lists, list_wants_memory, part_fails, part_and_comma, last_part, Until, until_wants_memory, until_fails, until_goes_on, until_ends}
use Rattle.svr_reader.specs.Lists.{WithHeight, with_last}
use Rattle.svr_reader.proofs.Turns.{one_less}

-- a turn of the code's loop is within the count
pub below : (turn : ℕ) → turn < 4294967296 → turn < cap
unfolding cap
below turn h = h

left_over : {A : Type 0} (P : ℕ → Type 0) (turn : ℕ) → turn < 4294967296 → (P (cap - turn) → A) → P (suc (cap - (turn + 1))) → A
left_over P turn h f p = f (subst P (sym (one_less cap turn (below turn h))) p)

-- there are fewer tokens than turns
pub few : (turn left : ℕ) → turn < left + 1 → left < 2 ^ 32 → turn < 4294967296
few turn left h low = omega (arith, h, low)

eaten_by : (b : Bool) (i j : List Tok) → ◌≡◌ {A = Outcome Bool} (if b then and_then (taken i) (λ _ k. Ok (true, k)) else Ok (false, i)) (Ok (true, j)) → length j < length i
eaten_by true [] j h = absurd (cc)
eaten_by true (t ∷ i) j h = let both : ◌≡◌ {A = Bool × List Tok} (true, i) (true, j) = cc in omega (arith, ap (λ z. length z.1) both)
eaten_by false i j h = let both : ◌≡◌ {A = Bool × List Tok} (false, i) (true, j) = cc in let first : false ≡ true = ap (λ z. z.0) both in absurd (cc)

-- what comes next was taken
pub eaten_less : (k : Fixed) (i j : List Tok) → eaten k i ≡ Ok (true, j) → length j < length i
unfolding eaten
eaten_less k i j h = eaten_by (sees k i) i j h

kept_by : (b : Bool) (i j : List Tok) → ◌≡◌ {A = Outcome Bool} (if b then and_then (taken i) (λ _ k. Ok (true, k)) else Ok (false, i)) (Ok (false, j)) → j ≡ i
kept_by true [] j h = absurd (cc)
kept_by true (t ∷ i) j h = absurd (let both : ◌≡◌ {A = Bool × List Tok} (true, i) (false, j) = cc in let first : true ≡ false = ap (λ z. z.0) both in cc)
kept_by false i j h = let both : ◌≡◌ {A = Bool × List Tok} (false, i) (false, j) = cc in sym (ap (λ z. z.1) both)

-- or nothing was
pub eaten_same : (k : Fixed) (i j : List Tok) → eaten k i ≡ Ok (false, j) → j ≡ i
unfolding eaten
eaten_same k i j h = kept_by (sees k i) i j h

-- ---- lists by commas: what ends the loop, and one turn more

abbrev pub KeepsList : {T : Type 0} → Calls (WithHeight T) → WithHeight (List T) → List Tok → ℕ → WithHeight (List T) → List Tok → Type 0
KeepsList {T} one first start turn s i = (r : Result (WithHeight (List T)) ReadFault) (j : List Tok) → Lists one (cap - turn) s i r j → Lists one cap first start r j

pub list_wanting : {T : Type 0} {one : Calls (WithHeight T)} {first : WithHeight (List T)} {start : List Tok} (r : Result (WithHeight (List T)) ReadFault) (j : List Tok)
    → r ≡ Err NoMemory → Lists one cap first start r j
list_wanting {T} {one} {first} {start} r j h = subst (λ q. Lists one cap first start q j) (sym h) list_wants_memory

pub list_failed : {T : Type 0} {one : Calls (WithHeight T)} {first s : WithHeight (List T)} {start : List Tok} (turn : ℕ) (old new : MutBor (List Tok)) (e : ReadFault)
    (r : Result (WithHeight (List T)) ReadFault) (j : List Tok) → turn < 4294967296 → KeepsList one first start turn s old.now
    → one old (Err e) new → r ≡ Err e → Lists one cap first start r j
list_failed {T} {one} {first} {s} {start} turn old new e r j h kept call is =
    subst (λ q. Lists one cap first start q j) (sym is) (left_over (λ n. Lists one n s old.now (Err e) j) turn h (kept (Err e) j) (part_fails old new e call))

pub listed : {T : Type 0} {one : Calls (WithHeight T)} {first s : WithHeight (List T)} {start : List Tok} (turn : ℕ) (old new : MutBor (List Tok)) (x : WithHeight T)
    (r : Result (WithHeight (List T)) ReadFault) (j : List Tok) → turn < 4294967296 → KeepsList one first start turn s old.now
    → one old (Ok x) new → eaten (f.Mark m.Comma) new.now ≡ Ok (false, j) → r ≡ Ok (with_last s x) → Lists one cap first start r j
listed {T} {one} {first} {s} {start} turn old new x r j h kept call eats is =
    subst (λ q. Lists one cap first start q j) (sym is) (left_over (λ n. Lists one n s old.now (Ok (with_last s x)) j) turn h (kept (Ok (with_last s x)) j) (last_part old new x call eats))

pub list_kept : {T : Type 0} {one : Calls (WithHeight T)} {first s more : WithHeight (List T)} {start : List Tok} (turn : ℕ) (old new : MutBor (List Tok)) (x : WithHeight T) (k : List Tok)
    → turn < 4294967296 → KeepsList one first start turn s old.now
    → one old (Ok x) new → eaten (f.Mark m.Comma) new.now ≡ Ok (true, k) → more ≡ with_last s x → KeepsList one first start (turn + 1) more k
list_kept {T} {one} {first} {s} {more} {start} turn old new x k h kept call eats is =
    subst (λ v. KeepsList one first start (turn + 1) v k) (sym is)
    (λ r j rest. left_over (λ n. Lists one n s old.now r j) turn h (kept r j) (part_and_comma old new x call eats rest))

-- ---- parts up to a mark

abbrev pub KeepsUntil : {T : Type 0} → Fixed → Calls (WithHeight T) → WithHeight (List T) → List Tok → ℕ → WithHeight (List T) → List Tok → Type 0
KeepsUntil {T} end one first start turn s i = (r : Result (WithHeight (List T)) ReadFault) (j : List Tok) → Until end one (cap - turn) s i r j → Until end one cap first start r j

pub until_wanting : {T : Type 0} {end : Fixed} {one : Calls (WithHeight T)} {first : WithHeight (List T)} {start : List Tok} (r : Result (WithHeight (List T)) ReadFault) (j : List Tok)
    → r ≡ Err NoMemory → Until end one cap first start r j
until_wanting {T} {end} {one} {first} {start} r j h = subst (λ q. Until end one cap first start q j) (sym h) until_wants_memory

pub until_failed : {T : Type 0} {end : Fixed} {one : Calls (WithHeight T)} {first s : WithHeight (List T)} {start i : List Tok} (turn : ℕ) (old new : MutBor (List Tok)) (e : ReadFault)
    (r : Result (WithHeight (List T)) ReadFault) (j : List Tok) → turn < 4294967296 → KeepsUntil end one first start turn s i
    → eaten end i ≡ Ok (false, old.now) → one old (Err e) new → r ≡ Err e → Until end one cap first start r j
until_failed {T} {end} {one} {first} {s} {start} {i} turn old new e r j h kept eats call is =
    subst (λ q. Until end one cap first start q j) (sym is) (left_over (λ n. Until end one n s i (Err e) j) turn h (kept (Err e) j) (until_fails old new e eats call))

pub until_ended : {T : Type 0} {end : Fixed} {one : Calls (WithHeight T)} {first s : WithHeight (List T)} {start i : List Tok} (turn : ℕ)
    (r : Result (WithHeight (List T)) ReadFault) (j : List Tok) → turn < 4294967296 → KeepsUntil end one first start turn s i
    → eaten end i ≡ Ok (true, j) → r ≡ Ok s → Until end one cap first start r j
until_ended {T} {end} {one} {first} {s} {start} {i} turn r j h kept eats is =
    subst (λ q. Until end one cap first start q j) (sym is) (left_over (λ n. Until end one n s i (Ok s) j) turn h (kept (Ok s) j) (until_ends eats))

pub until_kept : {T : Type 0} {end : Fixed} {one : Calls (WithHeight T)} {first s more : WithHeight (List T)} {start i : List Tok} (turn : ℕ) (old new : MutBor (List Tok)) (x : WithHeight T)
    → turn < 4294967296 → KeepsUntil end one first start turn s i
    → eaten end i ≡ Ok (false, old.now) → one old (Ok x) new → more ≡ with_last s x → KeepsUntil end one first start (turn + 1) more new.now
until_kept {T} {end} {one} {first} {s} {more} {start} {i} turn old new x h kept eats call is =
    subst (λ v. KeepsUntil end one first start (turn + 1) v new.now) (sym is)
    (λ r j rest. left_over (λ n. Until end one n s i r j) turn h (kept r j) (until_goes_on old new x eats call rest))
