-- Choices that were worked out by hand: the order of tried values, used values, bits of sizes, and fixed values as literals.
use Rattle.std.specs.Prelude.{ℕ, Bool, true, false, List, [], ◌∷◌, map}
use Rattle.std.specs.List.{flat_map}
use Rattle.svr_chain.specs.declared.clause.Lit.{Lit}
use Rattle.svr_eval.specs.Value.{bit_of}
pub use Rattle.svr_frame.specs.Examples.{is_so}
use Rattle.svr_frame.specs.Examples.{Example, ◌gives◌}
use Rattle.svr_phase.specs.declared.choice.Choice.{Choice}
use Rattle.svr_phase.specs.Cyclic.{tried, used_after}
use Rattle.svr_phase.specs.Sizes.{cap_bits}
use Rattle.svr_phase.specs.Proof.{spelling, kept_lits, down_to}

-- each value, and 1 where a new cycle begins with it
abbrev pub values_of : List Choice → List ℕ
values_of cs = flat_map (λ c. c.value ∷ bit_of c.cycle ∷ []) cs

abbrev pub chosen : ℕ → Bool → Choice
chosen v cycle = record { prop = 0; value = v; cycle = cycle }

-- each variable, and 1 where its literal is negated
abbrev pub literals_of : List Lit → List ℕ
literals_of ls = flat_map (λ l. l.var ∷ bit_of l.neg ∷ []) ls

abbrev pub positive : List ℕ → List Lit
positive vs = map (λ v. record { var = v; neg = false }) vs

abbrev pub worked : List Example
worked =
    -- 0 is used and the word is 1: the unused values from the second on, then the domain from its second
    (values_of (tried 0 1 (0 ∷ []) (0 ∷ 1 ∷ 2 ∷ 3 ∷ [])) gives (2 ∷ 0 ∷ 3 ∷ 0 ∷ 1 ∷ 0 ∷ 1 ∷ 1 ∷ 2 ∷ 1 ∷ 3 ∷ 1 ∷ 0 ∷ 1 ∷ []))
    -- all are used, and the word is 7
    ∷ (values_of (tried 0 7 (0 ∷ 1 ∷ []) (0 ∷ 1 ∷ [])) gives (1 ∷ 1 ∷ 0 ∷ 1 ∷ []))
    -- the members of an enum in their order
    ∷ (values_of (tried 0 4 [] (5 ∷ 2 ∷ 9 ∷ [])) gives (2 ∷ 0 ∷ 9 ∷ 0 ∷ 5 ∷ 0 ∷ 2 ∷ 1 ∷ 9 ∷ 1 ∷ 5 ∷ 1 ∷ []))
    ∷ (used_after (0 ∷ 3 ∷ []) (chosen 2 false) gives (0 ∷ 2 ∷ 3 ∷ []))
    ∷ (used_after (0 ∷ 1 ∷ 2 ∷ 3 ∷ []) (chosen 2 true) gives (2 ∷ []))
    ∷ (used_after [] (chosen 7 false) gives (7 ∷ []))
    ∷ ((cap_bits 1 ∷ cap_bits 15 ∷ cap_bits 16 ∷ cap_bits 256 ∷ cap_bits 2048 ∷ []) gives (1 ∷ 4 ∷ 5 ∷ 9 ∷ 12 ∷ []))
    -- 5 in three bits, and 2 in two
    ∷ (literals_of (spelling (positive (1 ∷ 2 ∷ 3 ∷ [])) 5) gives (1 ∷ 0 ∷ 2 ∷ 1 ∷ 3 ∷ 0 ∷ []))
    ∷ (literals_of (spelling (positive (8 ∷ 9 ∷ [])) 2) gives (8 ∷ 1 ∷ 9 ∷ 0 ∷ []))
    -- of four soft items the second and the third are dropped
    ∷ (literals_of (kept_lits (true ∷ false ∷ false ∷ true ∷ []) (positive (1 ∷ 2 ∷ 3 ∷ 4 ∷ []))) gives (1 ∷ 0 ∷ 4 ∷ 0 ∷ []))
    ∷ (literals_of (down_to (true ∷ false ∷ false ∷ true ∷ []) 3 (positive (1 ∷ 2 ∷ 3 ∷ 4 ∷ []))) gives (1 ∷ 0 ∷ 3 ∷ 0 ∷ []))
    ∷ []
