-- Clauses that are parts of some literals
use Rattle.std.proofs.Common.{◌≡◌, ℕ, suc, ◌+◌, ◌<◌, ◌≤◌, true, false, List, [], ◌∷◌, ◌++◌, length, get_or, refl, ap, sym, ◌∙◌, subst, arith, Option, Some, None, inl, inr}
use Rattle.std.specs.Prelude.{IfNone}
use Rattle.std.specs.List.{All, slice_get}
use Rattle.std.proofs.lemmas.Bool.{both_ways, eq-eqb, ne_eqb, false≢true, false_from_ne_true}
use Rattle.std.proofs.lemmas.List.{append_assoc, append-nil, length-map}
use Rattle.std.proofs.lemmas.List.Elements.{All-contains}
use Rattle.std.proofs.lemmas.List.Folds.{list_any_none}
use Rattle.std.proofs.lemmas.Option.{slice_get-get_or}
use Rattle.svr_arena.specs.Layout.{Layout, is_in, are_distinct, names, watched, first, after}
use Rattle.svr_arena.specs.Arena.{body, lit_at}
use Rattle.svr_arena.proofs.Detach.{left}
use Rattle.svr_chain.specs.declared.clause.Lit.{Lit}
use Rattle.svr_chain.specs.Clauses.{has, is_within}
use Rattle.svr_chain.specs.Log.{named, is_repeated}
use Rattle.svr_chain.proofs.ClauseLemmas.{All-has}
use Rattle.svr_chain.proofs.Same.{all-has, has-at}
use Rattle.svr_watch.specs.declared.store.Held.{Held}
use Rattle.svr_watch.specs.declared.store.Held.TheVariants.{Watched, Apart}
use Rattle.svr_watch.specs.Codes.{code_of, lit_of}
use Rattle.svr_watch.specs.Store.{StoreView, IsStore, IsNoPart, IsPartAt, IsPassedBy, IsWithinOne, clauses_of, held_lits, lits_of, watch}
use Rattle.svr_watch.specs.StoreFields.{AreListed}
use Rattle.svr_watch.proofs.Adding.{in-longer}
use Rattle.svr_watch.proofs.Follow.{cut-after, cut-apart, in-cut, other-first, rest-none, rest-some}
use Rattle.svr_watch.proofs.Named.{any-map, get_or-map}
use Rattle.svr_watch.proofs.Numbers.{code_of-lit}
use Rattle.svr_watch.proofs.OfArena.{get-over}

pub none-then : {A P Q : Type 0} (o : Option A) → (P → Q) → IfNone o P → IfNone o Q
none-then None f p = f p
none-then (Some x) f p = tt

-- the walk over the list of a literal: what was passed is no part of the literals, and is followed by what is left, whose first is `at`
pub record Passed (a : Layout) (code : ℕ) (lits : List Lit) (at : Option ℕ) : Type 0 where
  pub kept : List ℕ
  pub rest : List ℕ
  pub split : watched a code ≡ kept ++ rest
  pub here : at ≡ first rest
  pub apart : (c : ℕ) → is_in c kept ≡ true → is_within (lits_of a c) lits ≡ false

pub passed-start : (a : Layout) (code : ℕ) (lits : List Lit) (at : Option ℕ) → at ≡ first (watched a code) → Passed a code lits at
passed-start a code lits at e = record { kept = []; rest = watched a code; split = refl; here = e; apart = λ c h. absurd (false≢true h) }

cut-left : (c : ℕ) (kept rest : List ℕ) → is_in c kept ≡ false → left (kept ++ c ∷ rest) (Some c) ≡ suc (length rest)
cut-left c [] rest n = ap (λ z. elim z as (λ x. ℕ) [ true ↦ suc (length rest) | false ↦ left rest (Some c) ]) (eq-eqb c c refl)
cut-left c (x ∷ kept) rest n =
    let p = other-first c x kept n in
    ap (λ z. elim z as (λ x. ℕ) [ true ↦ suc (length (kept ++ c ∷ rest)) | false ↦ left (kept ++ c ∷ rest) (Some c) ]) (ne_eqb x c p.0) ∙ cut-left c kept rest p.1

-- fewer clauses are left behind a clause than from it on
left-less : (xs : List ℕ) (c : ℕ) (kept more : List ℕ) → are_distinct xs ≡ true → xs ≡ kept ++ c ∷ more → left xs (first more) < left xs (Some c)
left-less xs c kept more u cut =
    let d : are_distinct (kept ++ c ∷ more) ≡ true = ap are_distinct (sym cut) ∙ u in
    let l : left xs (Some c) ≡ suc (length more) = ap (λ z. left z (Some c)) cut ∙ cut-left c kept more (cut-apart c kept more d) in
    let b = goes more cut in
    omega (arith, l, b)
  where
    goes : (ts : List ℕ) → xs ≡ kept ++ c ∷ ts → left xs (first ts) ≤ length ts
    goes [] q = omega arith
    goes (t ∷ ts) q =
        let r : xs ≡ (kept ++ c ∷ []) ++ t ∷ ts = q ∙ sym (append_assoc kept (c ∷ []) (t ∷ ts)) in
        let d : are_distinct ((kept ++ c ∷ []) ++ t ∷ ts) ≡ true = ap are_distinct (sym r) ∙ u in
        let z : left xs (Some t) ≡ suc (length ts) = ap (λ y. left y (Some t)) r ∙ cut-left t (kept ++ c ∷ []) ts (cut-apart t (kept ++ c ∷ []) ts d) in
        omega (arith, z)

module _ (a : Layout) (code : ℕ) (lits : List Lit) (at : Option ℕ) (u : are_distinct (watched a code) ≡ true) (p : Passed a code lits at) (c : ℕ) (e : at ≡ Some c) where
  more : List ℕ
  more = (rest-some at c p.rest p.here e).0

  cut : watched a code ≡ p.kept ++ c ∷ more
  unfolding more
  cut = p.split ∙ ap (λ z. p.kept ++ z) (rest-some at c p.rest p.here e).1

  pub passed-on : is_in c (watched a code) ≡ true
  passed-on = ap (is_in c) cut ∙ in-cut c p.kept more

  next-is : (next : Option ℕ) → next ≡ after (watched a code) c → next ≡ first more
  next-is next n = n ∙ (ap (λ z. after z c) cut ∙ cut-after c p.kept more (cut-apart c p.kept more (ap are_distinct (sym cut) ∙ u)))

  pub passed-next : (next : Option ℕ) → next ≡ after (watched a code) c → is_within (lits_of a c) lits ≡ false → Passed a code lits next
  passed-next next n f = record {
    kept = p.kept ++ c ∷ [];
    rest = more;
    split = cut ∙ sym (append_assoc p.kept (c ∷ []) more);
    here = next-is next n;
    apart = λ d h. elim (in-longer p.kept c d h) [ inl z ↦ p.apart d z | inr z ↦ subst (λ y. is_within (lits_of a y) lits ≡ false) (sym z) f ];
  }

  pub passed-shorter : (next : Option ℕ) → next ≡ after (watched a code) c → left (watched a code) next < left (watched a code) at
  passed-shorter next n =
      subst (λ z. left (watched a code) z < left (watched a code) at) (sym (next-is next n))
      (subst (λ z. left (watched a code) (first more) < left (watched a code) z) (sym e) (left-less (watched a code) c p.kept more u cut))

pub passed-end : (a : Layout) (code : ℕ) (lits : List Lit) (at : Option ℕ) → Passed a code lits at → at ≡ None → (c : ℕ) → is_in c (watched a code) ≡ true → is_within (lits_of a c) lits ≡ false
passed-end a code lits at p e c h =
    let whole : watched a code ≡ p.kept = p.split ∙ (ap (λ z. p.kept ++ z) (rest-none at p.rest p.here e) ∙ append-nil p.kept) in
    p.apart c (ap (is_in c) (sym whole) ∙ h)

-- what is passed by on the list of its number
pub passed-by : (a : Layout) (lits : List Lit) (l : Lit) (code : ℕ) → code ≡ code_of l → ((c : ℕ) → is_in c (watched a code) ≡ true → is_within (lits_of a c) lits ≡ false) → IsPassedBy a lits l
passed-by a lits l code e f b c h = f c (ap (λ z. is_in c (watched a z)) e ∙ h)

-- the number of a clause apart
pub part-named : (s : StoreView) (lits : List Lit) (n : ℕ) → (i : ℕ) × (n ≡ i + 1) × IsPartAt s.held lits i → IsWithinOne (clauses_of s) lits n
part-named s lits n w =
    let k : List Lit = w.2.0 in
    let g : named (clauses_of s) (suc w.0) ≡ Some k = get-over (held_lits s.arena) s.held w.0 (Apart k) w.2.1 in
    let m : n ≡ suc w.0 = omega (arith, w.1) in
    (k, ap (named (clauses_of s)) m ∙ g, w.2.2)

-- a part is on the list of its first literal, or apart
pub no-part : (s : StoreView) → IsStore s → (lits : List Lit) → All (IsPassedBy s.arena lits) lits → (places : List ℕ) → AreListed s.held places → All (IsNoPart s.held lits) places
    → is_repeated (clauses_of s) lits ≡ false
no-part s st lits w places listed none =
    any-map (λ k. is_within k lits) (held_lits s.arena) s.held
    ∙ list_any_none (λ h. is_within (held_lits s.arena h) lits) s.held (λ i d r. here i (get_or s.held i d) (slice_get-get_or s.held i d r))
  where
    on-list : (c : ℕ) → is_in c (names s.arena) ≡ true → is_within (lits_of s.arena c) lits ≡ false
    on-list c i =
        let l : Lit = watch s.arena c 0 in
        let t = (st.arena.clause c i).two in
        let z : 0 < length (body s.arena c) = omega (arith, t) in
        let d : Lit = record { var = 0; neg = false } in
        let own : has (lits_of s.arena c) l ≡ true
        = ap (has (lits_of s.arena c)) (sym (get_or-map lit_of (body s.arena c) 0 0 d z)) ∙ has-at (lits_of s.arena c) 0 d (omega (arith, z, length-map (body s.arena c) lit_of)) in
        let n : code_of l ≡ lit_at s.arena c 0 = code_of-lit (lit_at s.arena c 0) in
        let b : code_of l < s.arena.codes = subst (λ y. y < s.arena.codes) (sym n) ((st.arena.clause c i).below 0 z) in
        let o : is_in c (watched s.arena (code_of l)) ≡ true = ap (λ y. is_in c (watched s.arena y)) n ∙ st.attached c i in
        false_from_ne_true (is_within (lits_of s.arena c) lits)
        (λ h. both_ways (is_within (lits_of s.arena c) lits) (All-has (IsPassedBy s.arena lits) lits l w (all-has (λ x. has lits x) (lits_of s.arena c) l h own) b c o) h)

    here : (i : ℕ) (h : Held) → slice_get s.held i ≡ Some h → is_within (held_lits s.arena h) lits ≡ false
    here i (Watched c) e = on-list c (st.placed i c e)
    here i (Apart k) e = All-contains (IsNoPart s.held lits) places i none (listed i k e) k e
