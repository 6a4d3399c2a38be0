-- The numbers of the literals of a clause
use Rattle.std.proofs.Common.{◌≡◌, ℕ, ◌+◌, ◌<◌, ◌≤◌, ◌*◌, Bool, true, false, ◌||◌, nat_eq, List, [], ◌∷◌, ◌++◌, length, refl, ap, sym, ◌∙◌, subst, arith, get_or, map, inl, inr}
use Rattle.std.specs.List.{list_all}
use Rattle.std.proofs.lemmas.Bool.{or_cases, or_left, or_right, both_ways, cases_eq, eq-eqb, eqb-true, false≢true, and_from}
use Rattle.std.proofs.lemmas.List.{map-append, length_push, get_or_append_left}
use Rattle.std.proofs.Math.Seq.{get_or-append_seam}
use Rattle.std.proofs.lemmas.List.Folds.{list_any-append, list_any_at}
use Rattle.svr_arena.specs.Layout.{is_in}
use Rattle.svr_arena.specs.Arena.{AreLits}
use Rattle.svr_chain.specs.declared.clause.Lit.{Lit}
use Rattle.svr_chain.specs.Clauses.{has, same_lit, AreWithin, IsWithin}
use Rattle.svr_chain.proofs.Sound.{same_lit-true}
use Rattle.svr_chain.proofs.Same.{lit-self}
use Rattle.svr_chain.proofs.ClauseLemmas.{All-has}
use Rattle.svr_watch.specs.Codes.{code_of, lit_of}
use Rattle.svr_watch.specs.Store.{AreCodes, is_short}
use Rattle.svr_watch.proofs.Numbers.{lit_of-code, code_of-lit, code-below}
use Rattle.svr_watch.proofs.Visit.{has-place}

pub codes-none : AreCodes [] []
codes-none = record { same = λ x. refl; apart = λ j k p q e. omega arith }

in-at : (xs : List ℕ) (j : ℕ) → j < length xs → is_in (get_or xs j 0) xs ≡ true
in-at xs j h = list_any_at (λ x. nat_eq (get_or xs j 0) x) xs j 0 h (eq-eqb (get_or xs j 0) (get_or xs j 0) refl)

pub has-push : (ls : List Lit) (l x : Lit) → has (ls ++ l ∷ []) x ≡ (has ls x || (same_lit l x || false))
has-push ls l x = list_any-append (λ z. same_lit z x) ls (l ∷ [])

-- a literal more, whose number is new
pub codes-new : (xs : List ℕ) (ls : List Lit) (l : Lit) → 0 < l.var → AreCodes xs ls → is_in (code_of l) xs ≡ false → AreCodes (xs ++ code_of l ∷ []) (ls ++ l ∷ [])
codes-new xs ls l pos k n = record {
  same = λ x.
      ap (λ z. has z x) (map-append lit_of xs (code_of l ∷ []))
      ∙ (ap (λ z. has (map lit_of xs ++ z ∷ []) x) (lit_of-code l pos)
      ∙ (has-push (map lit_of xs) l x ∙ (ap (λ z. z || (same_lit l x || false)) (k.same x) ∙ sym (has-push ls l x))));
  apart = λ i j p q e.
      let m : length (xs ++ code_of l ∷ []) ≡ length xs + 1 = length_push xs (code_of l) in
      elim (cases_eq j (length xs)) [
        | inl y ↦
            let o : i < length xs = omega arith in
            let a : get_or (xs ++ code_of l ∷ []) i 0 ≡ get_or xs i 0 = get_or_append_left xs (code_of l ∷ []) 0 i o in
            let b : get_or (xs ++ code_of l ∷ []) j 0 ≡ code_of l = ap (λ z. get_or (xs ++ code_of l ∷ []) z 0) y ∙ get_or-append_seam xs (code_of l) [] 0 in
            let c : get_or xs i 0 ≡ code_of l = sym a ∙ (e ∙ b) in
            both_ways (is_in (code_of l) xs) n (ap (λ z. is_in z xs) (sym c) ∙ in-at xs i o)
        | inr y ↦
            let o : j < length xs = omega arith in
            let r : i < length xs = omega arith in
            k.apart i j p o (sym (get_or_append_left xs (code_of l ∷ []) 0 i r) ∙ (e ∙ get_or_append_left xs (code_of l ∷ []) 0 j o))
      ];
}

pub in-has : (xs : List ℕ) (n : ℕ) → is_in n xs ≡ true → has (map lit_of xs) (lit_of n) ≡ true
in-has [] n h = absurd (false≢true h)
in-has (x ∷ xs) n h =
    elim (or_cases (nat_eq n x) (is_in n xs) h) [
      | inl e ↦ or_left (same_lit (lit_of x) (lit_of n)) (has (map lit_of xs) (lit_of n)) (ap (λ z. same_lit (lit_of z) (lit_of n)) (sym (eqb-true n x e)) ∙ lit-self (lit_of n))
      | inr e ↦ or_right (same_lit (lit_of x) (lit_of n)) (has (map lit_of xs) (lit_of n)) (in-has xs n e)
    ]

pub or-more : (a b : Bool) → (b ≡ true → a ≡ true) → a ≡ (a || (b || false))
or-more true b f = refl
or-more false true f = absurd (false≢true (f refl))
or-more false false f = refl

-- a literal more, which is there
pub codes-old : (xs : List ℕ) (ls : List Lit) (l : Lit) → 0 < l.var → AreCodes xs ls → is_in (code_of l) xs ≡ true → AreCodes xs (ls ++ l ∷ [])
codes-old xs ls l pos k n = record {
  same = λ x.
      k.same x
      ∙ (or-more (has ls x) (same_lit l x) (λ e. sym (k.same x) ∙ (ap (has (map lit_of xs)) (sym (same_lit-true l x e)) ∙ (ap (has (map lit_of xs)) (sym (lit_of-code l pos)) ∙ in-has xs (code_of l) n)))
      ∙ sym (has-push ls l x));
  apart = k.apart;
}

-- two or more numbers of a clause are those of an arena's clause
pub codes-lits : (vars codes : ℕ) (xs : List ℕ) (ls : List Lit) → codes ≡ 2 * vars → AreWithin vars ls → AreCodes xs ls → 2 ≤ length xs → AreLits codes xs
codes-lits vars codes xs ls e w k t = record {
  two = t;
  below = λ j h.
      let i : IsWithin vars (lit_of (get_or xs j 0)) = All-has (IsWithin vars) ls (lit_of (get_or xs j 0)) w (sym (k.same (lit_of (get_or xs j 0))) ∙ has-place xs j h) in
      subst (λ z. z < codes) (code_of-lit (get_or xs j 0)) (code-below vars codes (lit_of (get_or xs j 0)) e i);
  apart = k.apart;
}

-- where there are fewer than two numbers, the literals are all the same
none-has : (ls : List Lit) → ((x : Lit) → has ls x ≡ false) → ls ≡ []
none-has [] f = refl
none-has (l ∷ ls) f = absurd (both_ways (has (l ∷ ls) l) (f l) (or_left (same_lit l l) (has ls l) (lit-self l)))

all-one : (ls : List Lit) (p : Lit) → ((x : Lit) → has ls x ≡ true → x ≡ p) → list_all (λ y. same_lit y p) ls ≡ true
all-one [] p f = refl
all-one (l ∷ ls) p f =
    and_from (same_lit l p) (list_all (λ y. same_lit y p) ls)
    (ap (same_lit l) (sym (f l (or_left (same_lit l l) (has ls l) (lit-self l)))) ∙ lit-self l)
    (all-one ls p (λ x h. f x (or_right (same_lit l x) (has ls x) h)))

short-one : (ls : List Lit) (p : Lit) → ((x : Lit) → has ls x ≡ true → x ≡ p) → is_short ls ≡ true
short-one [] p f = refl
short-one (l ∷ ls) p f =
    let e : l ≡ p = f l (or_left (same_lit l l) (has ls l) (lit-self l)) in
    all-one ls l (λ x h. f x (or_right (same_lit l x) (has ls x) h) ∙ sym e)

pub codes-short : (xs : List ℕ) (ls : List Lit) → AreCodes xs ls → length xs < 2 → is_short ls ≡ true
codes-short [] ls k h = ap is_short (none-has ls (λ x. sym (k.same x)))
codes-short (n ∷ []) ls k h =
    short-one ls (lit_of n)
    (λ x q. elim (or_cases (same_lit (lit_of n) x) false (k.same x ∙ q)) [ inl e ↦ sym (same_lit-true (lit_of n) x e) | inr e ↦ absurd (false≢true e) ])
codes-short (n ∷ m ∷ xs) ls k h = absurd (omega arith)
