-- What loops come to that call one function for each part.
use Rattle.std.specs.Prelude.{◌≡◌, ℕ, suc, ◌<◌, ◌≤◌, true, false, List, length, Result, Ok, Err, map}
use denote.Ref.{MutBor}
use Rattle.svr_token.specs.declared.Mark.TheVariants as m
use Rattle.svr_tree.specs.Tokens.{Tok}
use Rattle.svr_reader.specs.declared.fixed.Fixed.{Fixed}
use Rattle.svr_reader.specs.declared.fixed.Fixed.TheVariants as f
use Rattle.svr_reader.specs.declared.fault.ReadFault.{ReadFault}
use Rattle.svr_reader.specs.declared.fault.ReadFault.TheVariants.{NoMemory}
use Rattle.svr_reader.specs.Steps.{eaten}
use Rattle.svr_reader.specs.Lists.{WithHeight, with_last}

-- how many turns a loop of the code has: more than a text has tokens
unfoldable pub cap : ℕ
cap = 4294967296

-- how a call of a reader may end: it found this, or met a fault
abbrev pub Calls : Type 0 → Type 1
Calls T = MutBor (List Tok) → Result T ReadFault → MutBor (List Tok) → Type 0

-- parts seen as data, with their height
abbrev pub height_view : {T X : Type 0} → (T → X) → WithHeight T → WithHeight X
height_view view x = (view x.0, x.1)

abbrev pub heights_view : {T X : Type 0} → (T → X) → WithHeight (List T) → WithHeight (List X)
heights_view view x = (map view x.0, x.1)

abbrev pub IsCallable : (MutBor (List Tok) → Type 0) → Type 0
IsCallable pre = (old : MutBor (List Tok)) → pre old

-- what a call leaves is no longer than what it found
abbrev pub LeavesNoMore : {T : Type 0} → Calls T → Type 0
LeavesNoMore {T} one = (old new : MutBor (List Tok)) (x : T) → one old (Ok x) new → length new.now ≤ length old.now

-- it takes a token at least
abbrev pub LeavesLess : {T : Type 0} → Calls T → Type 0
LeavesLess {T} one = (old new : MutBor (List Tok)) (x : T) → one old (Ok x) new → length new.now < length old.now

-- parts with commas between them, behind `s`, in at most so many turns
pub data Lists {T : Type 0} (one : Calls (WithHeight T)) : ℕ → WithHeight (List T) → List Tok → Result (WithHeight (List T)) ReadFault → List Tok → Type 0 where
  list_wants_memory : {n : ℕ} {s : WithHeight (List T)} {i j : List Tok} → Lists one n s i (Err NoMemory) j
  part_fails : {n : ℕ} {s : WithHeight (List T)} (old new : MutBor (List Tok)) (e : ReadFault) {j : List Tok} → one old (Err e) new → Lists one (suc n) s old.now (Err e) j
  part_and_comma : {n : ℕ} {s : WithHeight (List T)} (old new : MutBor (List Tok)) (x : WithHeight T) {k : List Tok} {r : Result (WithHeight (List T)) ReadFault} {j : List Tok}
      → one old (Ok x) new → eaten (f.Mark m.Comma) new.now ≡ Ok (true, k) → Lists one n (with_last s x) k r j → Lists one (suc n) s old.now r j
  last_part : {n : ℕ} {s : WithHeight (List T)} (old new : MutBor (List Tok)) (x : WithHeight T) {j : List Tok}
      → one old (Ok x) new → eaten (f.Mark m.Comma) new.now ≡ Ok (false, j) → Lists one (suc n) s old.now (Ok (with_last s x)) j

-- parts up to the word or mark that ends them, behind `s`, in at most so many turns
pub data Until {T : Type 0} (end : Fixed) (one : Calls (WithHeight T)) : ℕ → WithHeight (List T) → List Tok → Result (WithHeight (List T)) ReadFault → List Tok → Type 0 where
  until_wants_memory : {n : ℕ} {s : WithHeight (List T)} {i j : List Tok} → Until end one n s i (Err NoMemory) j
  until_fails : {n : ℕ} {s : WithHeight (List T)} {i : List Tok} (old new : MutBor (List Tok)) (e : ReadFault) {j : List Tok}
      → eaten end i ≡ Ok (false, old.now) → one old (Err e) new → Until end one (suc n) s i (Err e) j
  until_goes_on : {n : ℕ} {s : WithHeight (List T)} {i : List Tok} (old new : MutBor (List Tok)) (x : WithHeight T) {r : Result (WithHeight (List T)) ReadFault} {j : List Tok}
      → eaten end i ≡ Ok (false, old.now) → one old (Ok x) new → Until end one n (with_last s x) new.now r j → Until end one (suc n) s i r j
  until_ends : {n : ℕ} {s : WithHeight (List T)} {i j : List Tok} → eaten end i ≡ Ok (true, j) → Until end one (suc n) s i (Ok s) j
