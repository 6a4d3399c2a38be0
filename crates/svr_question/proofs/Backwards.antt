-- Bits read from the last to the first.
use Rattle.std.proofs.Common.{◌≡◌, ◌<◌, ◌≤◌, ◌+◌, ◌-◌, ◌*◌, ◌^◌, ℕ, Bool, List, length, drop, get_or, ap, ◌∙◌, sym, subst, arith}
use Rattle.std.proofs.Math.Pow.{pow_mono}
use Rattle.std.proofs.lemmas.List.{drop_more, at_drop_all, length-drop}
use Rattle.svr_chain.specs.declared.clause.Lit.{Lit}
use Rattle.svr_chain.specs.Valuations.{lit_value}
use Rattle.svr_gate.specs.Numbers.{bit, number}
use Rattle.svr_gate.proofs.NumberLemmas.{number-nil, number-cons, number-lt}

-- before the first step none is read
pub none_read : (v : ℕ → Bool) (bits : List Lit) → 0 ≡ number v (drop (length bits) bits)
none_read v bits = sym (at_drop_all (number v) bits (length bits) (omega arith) ∙ number-nil v)

-- one bit more in front
pub one_read : (v : ℕ → Bool) (bits : List Lit) (at n b : ℕ) (d : Lit) → 0 < at → at ≤ length bits → n ≡ number v (drop at bits) → b ≡ bit (lit_value v (get_or bits (at - 1) d)) → 2 * n + b ≡ number v (drop (at - 1) bits)
one_read v bits at n b d some le is here =
    let front : number v (drop (at - 1) bits) ≡ bit (lit_value v (get_or bits (at - 1) d)) + 2 * number v (drop (at - 1 + 1) bits)
    = ap (number v) (drop_more bits (at - 1) d (omega (arith, some, le))) ∙ number-cons v (get_or bits (at - 1) d) (drop (at - 1 + 1) bits) in
    let same : at - 1 + 1 ≡ at = omega (arith, some) in
    let rest : number v (drop (at - 1 + 1) bits) ≡ number v (drop at bits) = ap (λ k. number v (drop k bits)) same in
    omega (arith, front, rest, is, here)

-- there is room for one more
pub room : (v : ℕ → Bool) (bits : List Lit) (at n : ℕ) → length bits ≤ 64 → 0 < at → n ≡ number v (drop at bits) → 2 * n + 1 < 2 ^ 64
room v bits at n few some is =
    let short : number v (drop at bits) < 2 ^ (length bits - at) = subst (λ (k : ℕ). number v (drop at bits) < 2 ^ k) (length-drop at bits) (number-lt v (drop at bits)) in
    let high : 2 ^ (length bits - at) ≤ 2 ^ 63 = pow_mono {i = length bits - at} {j = 63} (omega (arith, few, some)) in
    omega (arith, short, high, is)
