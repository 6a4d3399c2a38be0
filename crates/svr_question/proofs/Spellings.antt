-- Spelled numbers, bit by bit, and the rows of slots by their places.
use Rattle.std.proofs.Common.{◌≡◌, ◌<◌, ◌≤◌, ◌==◌, ◌+◌, ◌/◌, ◌%◌, ℕ, suc, Bool, true, false, cond, List, [], ◌∷◌, ◌++◌, length, take, drop, get_or, None, Some, refl, sym, ap, ◌∙◌, arith, append-nil, append_assoc, drop-cons, ⊎_elim}
use Rattle.std.specs.Prelude.{if◌then◌else◌}
use Rattle.std.proofs.lemmas.Bool.{lt-ltb, le-ltb, cases_lt}
use Rattle.std.proofs.lemmas.List.{at_drop_more, at_drop_all, drop_all, take_more, take_all, flat_map_more}
use Rattle.svr_chain.specs.declared.clause.Lit.{Lit}
use Rattle.svr_chain.specs.Clauses.{flip}
use Rattle.svr_frame.specs.declared.slot.Slot.{Slot}
use Rattle.svr_frame.specs.Satisfaction.{is_at}
use Rattle.svr_vector.specs.Places.{rows}
use Rattle.svr_inputs.specs.declared.table.Table.{Table}
use Rattle.svr_inputs.specs.Inputs.{bits_of, number_row}
use Rattle.svr_encoded.specs.declared.encoded.Encoded.{Encoded}
use Rattle.svr_encoded.specs.Slots.{bits_where, place_where}
use Rattle.svr_phase.specs.Proof.{spelling, spelling_at, fixed_lits}
use Rattle.svr_question.specs.Passed.{lits_at}

-- ---- one number

-- one bit more
pub bit_spelled : (bits : List Lit) (i : ℕ) (d : Lit) (old new all : List Lit) (n m : ℕ) → i < length bits → m ≡ n / 2 → new ≡ old ++ (if n % 2 == 0 then flip (get_or bits i d) else get_or bits i d) ∷ []
    → old ++ spelling (drop i bits) n ≡ all → new ++ spelling (drop (i + 1) bits) m ≡ all
bit_spelled bits i d old new all n m lt half is before =
    let b = if n % 2 == 0 then flip (get_or bits i d) else get_or bits i d in
    (λ k. is k ++ spelling (drop (i + 1) bits) (half k))
    ∙ append_assoc old (b ∷ []) (spelling (drop (i + 1) bits) (n / 2))
    ∙ sym (at_drop_more (λ (ls : List Lit). old ++ spelling ls n) bits i d lt)
    ∙ before

-- no bit is left
pub bits_spelled : (bits : List Lit) (i n : ℕ) (old all : List Lit) → length bits ≤ i → old ++ spelling (drop i bits) n ≡ all → old ≡ all
bits_spelled bits i n old all le before = sym (append-nil old) ∙ sym (at_drop_all (λ (ls : List Lit). old ++ spelling ls n) bits i le) ∙ before

-- ---- rows by places

none_from : (t : Slot → Bool) (n : ℕ) (slots : List Slot) (all : List (List Lit)) → length all ≤ n → bits_of all (place_where t n slots) ≡ None
none_from t n [] all le = refl
none_from t n (s ∷ slots) all le = by_test (t s) (none_from t (suc n) slots all (omega (arith, le)))
  where
    by_test : (b : Bool) → bits_of all (place_where t (suc n) slots) ≡ None → bits_of all (cond b (Some n) (place_where t (suc n) slots)) ≡ None
    by_test true rest = ap (λ (b : Bool). cond b (Some (get_or all n [])) None) (le-ltb n (length all) le)
    by_test false rest = rest

-- the bits at the place of the first slot that passes, of however many rows there are
pub bits_at : (t : Slot → Bool) (n : ℕ) (slots : List Slot) (all : List (List Lit)) → bits_of all (place_where t n slots) ≡ bits_where t slots (drop n all)
bits_at t n [] all = refl
bits_at t n (s ∷ slots) all =
    ⊎_elim (λ lt. inside (t s) lt (bits_at t (suc n) slots all) ∙ sym (ap (bits_where t (s ∷ slots)) (drop-cons all n [] lt)))
    (λ le. none_from t n (s ∷ slots) all le ∙ sym (ap (bits_where t (s ∷ slots)) (drop_all n all le))) (cases_lt n (length all))
  where
    inside : (b : Bool) → n < length all → bits_of all (place_where t (suc n) slots) ≡ bits_where t slots (drop (suc n) all)
        → bits_of all (cond b (Some n) (place_where t (suc n) slots)) ≡ cond b (Some (get_or all n [])) (bits_where t slots (drop (suc n) all))
    inside true lt rest = ap (λ (b : Bool). cond b (Some (get_or all n [])) None) (lt-ltb n (length all) lt)
    inside false lt rest = rest

-- ---- all values

-- one value more
pub value_spelled : (bits : List (List Lit)) (t : Table) (chosen : List (ℕ × ℕ)) (i : ℕ) (d : ℕ × ℕ) (old new : List Lit) → i < length chosen → old ≡ lits_at bits t (take i chosen)
    → new ≡ old ++ spelling_at (bits_of bits (number_row t (get_or chosen i d).0 0)) (get_or chosen i d).1 → new ≡ lits_at bits t (take (i + 1) chosen)
value_spelled bits t chosen i d old new lt before is =
    let one = λ (c : ℕ × ℕ). spelling_at (bits_of bits (number_row t c.0 0)) c.1 in
    is
    ∙ (λ k. before k ++ one (get_or chosen i d))
    ∙ flat_map_more one [] (take i chosen) (get_or chosen i d)
    ∙ ap (lits_at bits t) (sym (take_more chosen i d lt))

-- no value is left
pub values_spelled : (bits : List (List Lit)) (t : Table) (chosen : List (ℕ × ℕ)) (i : ℕ) (all : List Lit) → length chosen ≤ i → all ≡ lits_at bits t (take i chosen) → all ≡ lits_at bits t chosen
values_spelled bits t chosen i all le is = is ∙ ap (lits_at bits t) (take_all i chosen le)

-- by the table of the slots they are the literals of the encoding
pub lits_are : (e : Encoded) (t : Table) → ((p j : ℕ) → number_row t p j ≡ place_where (is_at p j) 0 e.slots.items) → (fixed : List (ℕ × ℕ)) → lits_at (rows e.bits.items) t fixed ≡ fixed_lits e fixed
lits_are e t h [] = refl
lits_are e t h (x ∷ fixed) =
    let row = ap (bits_of (rows e.bits.items)) (h x.0 0) ∙ bits_at (is_at x.0 0) 0 e.slots.items (rows e.bits.items) in
    λ k. spelling_at (row k) x.1 ++ lits_are e t h fixed k
