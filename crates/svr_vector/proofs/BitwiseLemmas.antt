-- Operators bit by bit
use Rattle.std.proofs.Common.{◌≡◌, ℕ, ◌+◌, ◌*◌, ◌^◌, ◌<◌, Bool, true, false, cond, ◌&&◌, ◌||◌, not, List, [], ◌∷◌, ◌++◌, length, take, get_or, refl, sym, ◌∙◌, ap, arith}
use Rattle.std.proofs.lemmas.Nat.{and_block, or_block, xor_block}
use Rattle.svr_chain.specs.declared.clause.Lit.{Lit}
use Rattle.svr_chain.specs.Valuations.{lit_value}
use Rattle.svr_gate.specs.Numbers.{bit, number}
use Rattle.svr_gate.specs.Circuit.{Circuit, Extends, Tells, GivesNumber}
use Rattle.svr_gate.proofs.NumberLemmas.{number_more, number-nil, number-take-lt}
use Rattle.svr_gate.proofs.Vectors.{GivesNumber-push, GivesNumber-same, GivesNumber-nil}
use Rattle.svr_vector.specs.declared.bitwise.Gate.{Gate}
use Rattle.svr_vector.specs.declared.bitwise.Gate.TheVariants.{Both, Either, Unequal}
use Rattle.svr_vector.specs.Bitwise.{bit_gate, number_gate}

block : (op : Gate) (k a b r s : ℕ) → r < 2 ^ k → s < 2 ^ k → number_gate op (a * 2 ^ k + r) (b * 2 ^ k + s) ≡ number_gate op a b * 2 ^ k + number_gate op r s
block Both k a b r s h g = and_block k a b r s h g
block Either k a b r s h g = or_block k a b r s h g
block Unequal k a b r s h g = xor_block k a b r s h g

one_bit : (op : Gate) (p q : Bool) → number_gate op (bit p) (bit q) ≡ bit (bit_gate op p q)
one_bit Both true true = refl
one_bit Both true false = refl
one_bit Both false true = refl
one_bit Both false false = refl
one_bit Either true true = refl
one_bit Either true false = refl
one_bit Either false true = refl
one_bit Either false false = refl
one_bit Unequal true true = refl
one_bit Unequal true false = refl
one_bit Unequal false true = refl
one_bit Unequal false false = refl

no_bits : (op : Gate) → ◌≡◌ {A = ℕ} 0 (number_gate op 0 0)
no_bits Both = refl
no_bits Either = refl
no_bits Unequal = refl

gate_more : (op : Gate) (p q : Bool) (m n m' n' i : ℕ) → m < 2 ^ i → n < 2 ^ i → m' ≡ m + 2 ^ i * bit p → n' ≡ n + 2 ^ i * bit q
    → number_gate op m n + 2 ^ i * bit (bit_gate op p q) ≡ number_gate op m' n'
gate_more op p q m n m' n' i h g e f =
    let e' : m' ≡ bit p * 2 ^ i + m = omega arith in
    let f' : n' ≡ bit q * 2 ^ i + n = omega arith in
    let s : number_gate op m n + 2 ^ i * bit (bit_gate op p q) ≡ bit (bit_gate op p q) * 2 ^ i + number_gate op m n = omega arith in
    s ∙ ap (λ k. k * 2 ^ i + number_gate op m n) (sym (one_bit op p q)) ∙ sym (block op i (bit p) (bit q) m n h g)
    ∙ ap (λ k. number_gate op k (bit q * 2 ^ i + n)) (sym e') ∙ ap (number_gate op m') (sym f')

pub bitwise_step : (c d : Circuit) (op : Gate) (x y v : List Lit) (l dx : Lit) (i : ℕ) → Extends c d → i < length x → i < length y
    → GivesNumber c v i (λ a. number_gate op (number a (take i x)) (number a (take i y)))
    → Tells d l (λ a. bit_gate op (lit_value a (get_or x i dx)) (lit_value a (get_or y i dx)))
    → GivesNumber d (v ++ l ∷ []) (i + 1) (λ a. number_gate op (number a (take (i + 1) x)) (number a (take (i + 1) y)))
bitwise_step c d op x y v l dx i e hx hy g t =
    GivesNumber-same (λ a. number_gate op (number a (take (i + 1) x)) (number a (take (i + 1) y)))
    (GivesNumber-push e g t)
    (λ a m.
    gate_more op (lit_value a (get_or x i dx)) (lit_value a (get_or y i dx)) (number a (take i x)) (number a (take i y)) (number a (take (i + 1) x)) (number a (take (i + 1) y)) i
    (number-take-lt a i x (omega arith)) (number-take-lt a i y (omega arith)) (number_more a x i dx hx) (number_more a y i dx hy))

pub bitwise_none : (c : Circuit) (op : Gate) (x y : List Lit) → GivesNumber c [] 0 (λ a. number_gate op (number a (take 0 x)) (number a (take 0 y)))
bitwise_none c op x y =
    GivesNumber-same (λ a. number_gate op (number a (take 0 x)) (number a (take 0 y))) (GivesNumber-nil c)
    (λ a m. no_bits op ∙ sym (ap (λ n. number_gate op n n) (number-nil a)))
