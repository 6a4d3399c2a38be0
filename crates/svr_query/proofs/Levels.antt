-- Levels that were begun with assumed literals
use Rattle.std.proofs.Common.{◌≡◌, ℕ, ◌+◌, ◌<◌, ◌≤◌, true, false, List, [], ◌∷◌, length, refl, ap, sym, ◌∙◌, arith, None, get_or, take, inl, inr}
use Rattle.std.specs.Prelude.{Contains}
use Rattle.std.proofs.lemmas.Bool.{cases_lt, cases_eq}
use Rattle.std.proofs.lemmas.List.{get_or_default, get_or-take, length-take-le, take_all}
use Rattle.svr_chain.specs.declared.clause.Lit.{Lit}
use Rattle.svr_chain.specs.Clauses.{has}
use Rattle.svr_trail.specs.declared.Entry.{Entry}
use Rattle.svr_trail.specs.Trail.{Each}
use Rattle.svr_cdcl.specs.Search.{SearchView, IsSearch, at_end, at_level}
use Rattle.svr_query.specs.Logged.{IsAsked}
use Rattle.svr_query.proofs.Fronts.{front-of}

-- so many of the first levels begin with assumed literals
pub record AreBegun (s : SearchView) (assume : List Lit) (levels : ℕ) : Type 0 where
  pub within : levels ≤ length s.ends
  pub asked : (j : ℕ) (e : Entry) → j < levels → has assume (get_or s.entries (get_or s.ends j 0) e).lit ≡ true

past : (xs : List ℕ) (d : ℕ) → get_or xs (length xs) d ≡ d
past [] d = refl
past (x ∷ xs) d = past xs d

-- the trail at the end of a level
module _ (s : SearchView) where
  level-below : (n : ℕ) → n < length s.ends → at_level s n ≡ at_end s n
  level-below n q = ap (λ z. take z s.entries) (get_or_default s.ends n (length s.entries) 0 q)

  level-present : (n : ℕ) → n ≡ length s.ends → at_level s n ≡ s.entries
  level-present n e =
      let y : get_or s.ends n (length s.entries) ≡ length s.entries = ap (λ z. get_or s.ends z (length s.entries)) e ∙ past s.ends (length s.entries) in
      ap (λ z. take z s.entries) y ∙ take_all (length s.entries) s.entries (omega arith)

  -- what is left where the trail is taken back to it
  pub level-kept : (t : SearchView) (n : ℕ) → n ≤ length s.ends → (n < length s.ends → t ≡ record s { entries = at_end s n; ends = take n s.ends }) → (n ≡ length s.ends → t ≡ s)
      → t.entries ≡ at_level s n
  level-kept t n o back present =
      elim (cases_lt n (length s.ends)) [
        | inl q ↦ ap (λ (z : SearchView). z.entries) (back q) ∙ sym (level-below n q)
        | inr q ↦ (let e : n ≡ length s.ends = omega (arith, o, q) in ap (λ (z : SearchView). z.entries) (present e) ∙ sym (level-present n e))
      ]

  level-within : IsSearch s → (n : ℕ) → n ≤ length s.ends → get_or s.ends n (length s.entries) ≤ length s.entries
  level-within k n o =
      elim (cases_lt n (length s.ends)) [
        | inl q ↦ omega (arith, get_or_default s.ends n (length s.entries) 0 q, k.short n q)
        | inr q ↦
            let e : n ≡ length s.ends = omega (arith, o, q) in
            let y : get_or s.ends n (length s.entries) ≡ length s.entries = ap (λ z. get_or s.ends z (length s.entries)) e ∙ past s.ends (length s.entries) in
            omega (arith, y)
      ]

  pub level-front : IsSearch s → (t : SearchView) (n : ℕ) → n ≤ length s.ends → t.entries ≡ at_level s n → (length t.entries ≤ length s.entries) × (t.entries ≡ take (length t.entries) s.entries)
  level-front k t n o e = front-of s.entries t.entries (get_or s.ends n (length s.entries)) (level-within k n o) e

module _ (s : SearchView) (assume : List Lit) where
  pub begun-none : AreBegun s assume 0
  begun-none = record { within = omega arith; asked = λ j e h. absurd (omega (arith, h)) }

  module _ (k : IsSearch s) (n : ℕ) (b : AreBegun s assume n) where
    -- one level more
    pub begun-more : (d : Entry) → n < length s.ends → has assume (get_or s.entries (get_or s.ends n 0) d).lit ≡ true → AreBegun s assume (n + 1)
    begun-more d o h = record {
      within = omega (arith, o);
      asked = λ j e q. elim (cases_lt j n) [
        | inl p ↦ b.asked j e p
        | inr p ↦
            let z : j ≡ n = omega (arith, p, q) in
            ap (λ i. has assume (get_or s.entries (get_or s.ends i 0) e).lit) z
            ∙ (ap (λ (x : Entry). has assume x.lit) (get_or_default s.entries (get_or s.ends n 0) e d (k.short n o)) ∙ h)
      ];
    }

    -- a decision before the end of these levels begins one of them
    begun-before : (i : ℕ) (e : Entry) → i < length s.entries → i < get_or s.ends n (length s.entries) → (get_or s.entries i e).reason ≡ None → has assume (get_or s.entries i e).lit ≡ true
    begun-before i e h m r =
        let c : Contains s.ends i = k.starts i e h r in
        let j : ℕ = c.0 in
        let w : j < length s.ends = c.1 in
        let at : get_or s.ends j 0 ≡ i = get_or_default s.ends j 0 i w ∙ c.2 in
        elim (cases_lt j n) [
          | inl q ↦ ap (λ x. has assume (get_or s.entries x e).lit) (sym at) ∙ b.asked j e q
          | inr q ↦
              let y : get_or s.ends n (length s.entries) ≡ get_or s.ends n 0 = get_or_default s.ends n (length s.entries) 0 (omega (arith, q, w)) in
              elim (cases_eq j n) [
                | inl z ↦ (let x : get_or s.ends n 0 ≡ i = ap (λ x. get_or s.ends x 0) (sym z) ∙ at in absurd (omega (arith, m, y, x)))
                | inr z ↦ (let x = k.rising n j (omega (arith, q, z)) w in absurd (omega (arith, m, y, x, at)))
              ]
        ]

    pub asked-front : Each (IsAsked assume) (at_level s n)
    asked-front i e h r =
        let m : ℕ = get_or s.ends n (length s.entries) in
        let o : m ≤ length s.entries = level-within s k n b.within in
        let l : length (take m s.entries) ≡ m = length-take-le m s.entries o in
        let at : get_or (take m s.entries) i e ≡ get_or s.entries i e = get_or-take m s.entries i e (omega (arith, h, l)) in
        let x : (get_or s.entries i e).reason ≡ None = ap (λ (z : Entry). z.reason) (sym at) ∙ r in
        inl (ap (λ (z : Entry). has assume z.lit) at ∙ begun-before i e (omega (arith, h, l, o)) (omega (arith, h, l)) x)
