-- How long the script is.
use Rattle.std.proofs.Common.{◌≡◌, ◌≤◌, ◌<◌, ◌+◌, ◌*◌, ◌%◌, ◌^◌, ℕ, zero, suc, Bool, true, false, if◌then◌else◌, List, [], ◌∷◌, length, refl, ◌∙◌, ap, length-append, arith}
use Rattle.std.specs.Prelude.{codes, decimal}
use Rattle.std.specs.List.{concat}
use Rattle.std.proofs.lemmas.Fmt.{length-decimal-le}
use Rattle.std.proofs.lemmas.Nat.{mod_below}
use Rattle.std.proofs.Math.Nat.{mul-suc}
use Rattle.svr_load.specs.Script.{up_to, sum_of, size_of, contradicting, contradiction, class_parts, class_text, object_text, call_text, load_text}

-- how long texts are together
abbrev total : List (List ℕ) → ℕ
total [] = 0
total (t ∷ ts) = length t + total ts

length_concat : (ts : List (List ℕ)) → length (concat ts) ≡ total ts
length_concat [] = refl
length_concat (t ∷ ts) = length-append t (concat ts) ∙ ap (λ (k : ℕ). length t + k) (length_concat ts)

-- so many texts of at most k bytes
up_to_short : (k n : ℕ) (text : ℕ → List ℕ) → ((i : ℕ) → i ≤ n → length (text i) ≤ k) → length (up_to n text) ≤ k * n
up_to_short k zero text each = omega arith
up_to_short k (suc n) text each =
    let before : length (up_to n text) ≤ k * n = up_to_short k n text (λ i less. each i (omega arith)) in
    let last : length (text (suc n)) ≤ k = each (suc n) (omega arith) in
    rw (length-append (up_to n text) (text (suc n)), mul-suc k n) (omega arith)

-- ---- each text

number_short : (i : ℕ) → i < 2 ^ 32 → length (decimal i) ≤ 10
number_short i small = length-decimal-le 10 i (omega arith) (omega arith) (omega arith)

sum_short : (i : ℕ) → length (decimal (sum_of i)) ≤ 5
sum_short i =
    let below : sum_of i < 65536 = mod_below (37 * i) 65536 (omega arith) in
    length-decimal-le 5 (sum_of i) (omega arith) (omega arith) (omega arith)

size_short : (i : ℕ) → length (decimal (size_of i)) ≤ 1
size_short i =
    let below : i % 8 < 8 = mod_below i 8 (omega arith) in
    length-decimal-le 1 (size_of i) (omega arith) (omega arith) (omega arith)

block_short : (b : Bool) → length (if b then contradicting else []) ≤ 28
block_short true = let most : 28 ≤ 28 = omega arith in most
block_short false = let none : 0 ≤ 28 = omega arith in none

class_short : (i : ℕ) → i < 2 ^ 32 → length (class_text i) ≤ 218
class_short i small =
    let number : length (decimal i) ≤ 10 = number_short i small in
    let sum : length (decimal (sum_of i)) ≤ 5 = sum_short i in
    let size : length (decimal (size_of i)) ≤ 1 = size_short i in
    let block : length (contradiction i) ≤ 28 = block_short _ in
    let all : length (class_text i) ≡ 7 + (length (decimal i) + (2 + (59 + (28 + (length (decimal (sum_of i)) + (21 + (length (decimal (size_of i)) + (2 + (46 + (length (contradiction i) + (9 + 0))))))))))) = length_concat (class_parts i) in
    rw all (omega arith)

object_short : (i : ℕ) → i < 2 ^ 32 → length (object_text i) ≤ 31
object_short i small =
    let number : length (decimal i) ≤ 10 = number_short i small in
    let all : length (object_text i) ≡ 1 + (length (decimal i) + (2 + (length (decimal i) + (8 + 0)))) = length_concat (codes "C" ∷ decimal i ∷ codes " p" ∷ decimal i ∷ codes " = new;\n" ∷ []) in
    rw all (omega arith)

call_short : (i : ℕ) → i < 2 ^ 32 → length (call_text i) ≤ 25
call_short i small =
    let number : length (decimal i) ≤ 10 = number_short i small in
    let all : length (call_text i) ≡ 1 + (length (decimal i) + (14 + 0)) = length_concat (codes "p" ∷ decimal i ∷ codes ".randomize();\n" ∷ []) in
    rw all (omega arith)

-- ---- the script

pub load_short : (n : ℕ) → n < 2 ^ 32 → length (load_text n) ≤ 300 * n + 40
load_short n small =
    let classes : length (up_to n class_text) ≤ 218 * n = up_to_short 218 n class_text (λ i less. class_short i (omega arith)) in
    let objects : length (up_to n object_text) ≤ 31 * n = up_to_short 31 n object_text (λ i less. object_short i (omega arith)) in
    let calls : length (up_to n call_text) ≤ 25 * n = up_to_short 25 n call_text (λ i less. call_short i (omega arith)) in
    let all : length (load_text n) ≡ length (up_to n class_text) + (24 + (length (up_to n object_text) + (length (up_to n call_text) + (14 + 0)))) =
    length_concat (up_to n class_text ∷ codes "module m;\ninitial begin\n" ∷ up_to n object_text ∷ up_to n call_text ∷ codes "end\nendmodule\n" ∷ []) in
    rw all (omega arith)

pub text_short : (n : ℕ) (text : List ℕ) → n < 2 ^ 32 → text ≡ load_text n → length text ≤ 300 * n + 40
text_short n text small text_is = rw text_is (load_short n small)
