-- Lists cut into parts
use Rattle.std.proofs.Common.{◌≡◌, ℕ, suc, ◌+◌, ◌-◌, ◌<◌, ◌≤◌, true, List, [], ◌∷◌, ◌++◌, length, take, drop, get_or, refl, ap, sym, ◌∙◌, subst, arith, append-nil, append_assoc, inl, inr}
use Rattle.std.proofs.lemmas.Bool.{false≢true}
use Rattle.std.proofs.lemmas.List.{length-append, length-map, take-append-drop, at_drop_more, at_drop_all}
use Rattle.svr_chain.specs.declared.clause.Lit.{Lit}
use Rattle.svr_chain.specs.Clauses.{has, is_within}
use Rattle.svr_chain.proofs.Same.{all-from}
use Rattle.svr_frame.specs.Occurrences.{Occurrence}
use Rattle.svr_counts.specs.Hard.{joined, count_of, counts_of}
use Rattle.svr_core.specs.Groups.{lits_of}
use Rattle.svr_core.proofs.Gathered.{has_split, has_left, has_right}
use Rattle.svr_conflict.specs.Cut.{cut_by, total}

-- one part more
pub cut_put : (counts : List ℕ) (i : ℕ) (left rest group : List Lit) (old new all : List (List Lit)) → i < length counts → group ≡ take (get_or counts i 0) left → rest ≡ drop (get_or counts i 0) left → new ≡ old ++ group ∷ []
    → old ++ cut_by (drop i counts) left ≡ all → new ++ cut_by (drop (i + 1) counts) rest ≡ all
cut_put counts i left rest group old new all lt first behind pushed before =
    (λ k. pushed k ++ cut_by (drop (i + 1) counts) (behind k))
    ∙ append_assoc old (group ∷ []) (cut_by (drop (i + 1) counts) (drop (get_or counts i 0) left))
    ∙ ap (λ (ls : List Lit). old ++ ls ∷ cut_by (drop (i + 1) counts) (drop (get_or counts i 0) left)) first
    ∙ sym (at_drop_more (λ (ns : List ℕ). old ++ cut_by ns left) counts i 0 lt)
    ∙ before

pub cuts_put : (counts : List ℕ) (i : ℕ) (left : List Lit) (old all : List (List Lit)) → length counts ≤ i → old ++ cut_by (drop i counts) left ≡ all → old ≡ all
cuts_put counts i left old all le before = sym (append-nil old) ∙ sym (at_drop_all (λ (ns : List ℕ). old ++ cut_by ns left) counts i le) ∙ before

pub cut_long : (counts : List ℕ) (ls : List Lit) → length (cut_by counts ls) ≡ length counts
cut_long [] ls = refl
cut_long (n ∷ ns) ls = ap suc (cut_long ns (drop n ls))

pub counts_long : (all : List (List Occurrence)) → length (counts_of all) ≡ length all
counts_long all = length-map all count_of

pub total_joined : (all : List (List Occurrence)) → total (counts_of all) ≡ length (joined all)
total_joined [] = refl
total_joined (os ∷ all) = ap (λ (n : ℕ). length os + n) (total_joined all) ∙ sym (length-append os (joined all))

-- what is left of all items where those that are counted are taken away
pub left_of : (all : List (List Occurrence)) (n hard domains counted : ℕ) → hard ≡ domains + length (joined all) → counted ≡ total (counts_of all) → n ≡ hard - counted → n ≡ domains
left_of all n hard domains counted sum is rest = let told = total_joined all in omega (arith, sum, is, rest, told)

-- one count more is taken off
pub taken_off : (counts : List ℕ) (i left less all : ℕ) → i < length counts → less ≡ left - get_or counts i 0 → left - total (drop i counts) ≡ all → less - total (drop (i + 1) counts) ≡ all
taken_off counts i left less all lt is before =
    let split : left - total (drop i counts) ≡ left - (get_or counts i 0 + total (drop (i + 1) counts)) = at_drop_more (λ (ns : List ℕ). left - total ns) counts i 0 lt in
    omega (arith, is, before, split)

pub all_taken_off : (counts : List ℕ) (i left all : ℕ) → length counts ≤ i → left - total (drop i counts) ≡ all → left ≡ all
all_taken_off counts i left all le before = let none : left - total (drop i counts) ≡ left - 0 = at_drop_all (λ (ns : List ℕ). left - total ns) counts i le in omega (arith, none, before)

-- ---- literals of parts are among those that are cut

has_part : (n : ℕ) (ls : List Lit) (x : Lit) → has (take n ls) x ≡ true → has ls x ≡ true
has_part n ls x h = subst (λ (all : List Lit). has all x ≡ true) (take-append-drop n ls) (has_left (take n ls) (drop n ls) x h)

has_rest : (n : ℕ) (ls : List Lit) (x : Lit) → has (drop n ls) x ≡ true → has ls x ≡ true
has_rest n ls x h = subst (λ (all : List Lit). has all x ≡ true) (take-append-drop n ls) (has_right (take n ls) (drop n ls) x h)

has_cut : (counts : List ℕ) (ls : List Lit) (x : Lit) → has (lits_of (cut_by counts ls)) x ≡ true → has ls x ≡ true
has_cut [] ls x h = absurd (false≢true h)
has_cut (n ∷ ns) ls x h =
    elim (has_split (take n ls) (lits_of (cut_by ns (drop n ls))) x h) [
      | inl e ↦ has_part n ls x e
      | inr e ↦ has_rest n ls x (has_cut ns (drop n ls) x e)
    ]

pub cut_within : (base : List Lit) (counts : List ℕ) (ls : List Lit) → is_within (base ++ lits_of (cut_by counts ls)) (base ++ ls) ≡ true
cut_within base counts ls = all-from (λ x. has (base ++ ls) x) (base ++ lits_of (cut_by counts ls)) each
  where
    each : (x : Lit) → has (base ++ lits_of (cut_by counts ls)) x ≡ true → has (base ++ ls) x ≡ true
    each x h =
        elim (has_split base (lits_of (cut_by counts ls)) x h) [
          | inl e ↦ has_left base ls x e
          | inr e ↦ has_right base ls x (has_cut counts ls x e)
        ]
