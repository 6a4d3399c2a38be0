-- What the first entries of a trail make true, as it grows and is taken back
use Rattle.std.proofs.Common.{◌≡◌, ℕ, ◌+◌, ◌<◌, ◌≤◌, Bool, true, ◌&&◌, List, [], ◌∷◌, ◌++◌, length, refl, ap, sym, ◌∙◌, arith, get_or, take, ◌⊎◌, inl, inr}
use Rattle.std.specs.List.{list_all}
use Rattle.std.proofs.lemmas.Bool.{and_from}
use Rattle.std.proofs.lemmas.List.{take-take, take_more, take-append-le, length-take-le, length_push, take_all}
use Rattle.std.proofs.lemmas.List.Folds.{list_all-append}
use Rattle.svr_chain.specs.declared.clause.Lit.{Lit}
use Rattle.svr_chain.proofs.ClauseLemmas.{all-weaker}
use Rattle.svr_trail.specs.declared.Entry.{Entry}
use Rattle.svr_trail.specs.Trail.{Each, IsGrown, value_in}
use Rattle.svr_query.specs.declared.run.Seen.{Seen}
use Rattle.svr_query.specs.Logged.{IsAsked, is_true, are_true}
use Rattle.svr_query.specs.Found.{AreSeen}
use Rattle.svr_query.proofs.Asked.{asked-grown, asked-take, true-grows}

-- what the first entries make true, all make true
pub front-true : (es : List Entry) (n : ℕ) (ls : List Lit) → n ≤ length es → are_true (take n es) ls ≡ true → are_true es ls ≡ true
front-true es n ls o h = all-weaker (λ x. is_true (value_in (take n es) x)) (λ x. is_true (value_in es x)) ls (λ x t. true-grows es n x o t) h

-- one assumed literal more
pub next-true : (es : List Entry) (assume : List Lit) (i : ℕ) (d : Lit) → i < length assume → are_true es (take i assume) ≡ true → is_true (value_in es (get_or assume i d)) ≡ true
    → are_true es (take (i + 1) assume) ≡ true
next-true es assume i d o h t =
    let f : Lit → Bool = λ x. is_true (value_in es x) in
    let x : Lit = get_or assume i d in
    ap (list_all f) (take_more assume i d o)
    ∙ (list_all-append f (take i assume) (x ∷ []) ∙ and_from (list_all f (take i assume)) (f x && true) h (and_from (f x) true t refl))

pub seen-none : (es : List Entry) (assume : List Lit) → AreSeen es assume (record { lits = 0; entries = 0 })
seen-none es assume = record { within = omega arith; so = refl }

-- what is seen by all entries
pub seen-all : (es : List Entry) (assume : List Lit) (a : Seen) → a.entries ≡ length es → are_true es (take a.lits assume) ≡ true → AreSeen es assume a
seen-all es assume a e h =
    let t : take a.entries es ≡ es = take_all a.entries es (omega (arith, e)) in
    record { within = omega (arith, e); so = ap (λ z. are_true z (take a.lits assume)) t ∙ h }

pub seen-grown : (assume : List Lit) (ks : List (List Lit)) (old new : List Entry) (a : Seen) → IsGrown ks old new → AreSeen old assume a → AreSeen new assume a
seen-grown assume ks old new a g h =
    let t : take a.entries old ≡ take a.entries new = ap (take a.entries) (sym g.same) ∙ take-take a.entries (length old) new h.within in
    record { within = omega (arith, h.within, g.longer); so = ap (λ z. are_true z (take a.lits assume)) (sym t) ∙ h.so }

pub seen-push : (assume : List Lit) (es : List Entry) (e : Entry) (a : Seen) → AreSeen es assume a → AreSeen (es ++ e ∷ []) assume a
seen-push assume es e a h =
    let l : length (es ++ e ∷ []) ≡ length es + 1 = length_push es e in
    record { within = omega (arith, h.within, l); so = ap (λ z. are_true z (take a.lits assume)) (take-append-le a.entries es (e ∷ []) h.within) ∙ h.so }

-- what is still seen where entries are taken back
pub seen-kept : (assume : List Lit) (es : List Entry) (kept : ℕ) (a b : Seen) → kept ≤ length es → b.entries ≤ kept → (b ≡ a) ⊎ (b.lits ≡ 0) → AreSeen es assume a
    → AreSeen (take kept es) assume b
seen-kept assume es kept a b o w e h =
    let l : length (take kept es) ≡ kept = length-take-le kept es o in
    let t : take b.entries (take kept es) ≡ take b.entries es = take-take b.entries kept es w in
    record {
      within = omega (arith, l, w);
      so = elim e [
        | inl q ↦ ap (λ z. are_true z (take b.lits assume)) t ∙ (ap (λ (z : Seen). are_true (take z.entries es) (take z.lits assume)) q ∙ h.so)
        | inr q ↦ ap (λ n. are_true (take b.entries (take kept es)) (take n assume)) q
      ];
    }

-- a trail that is the front of another
pub front-of : (es fs : List Entry) (n : ℕ) → n ≤ length es → fs ≡ take n es → (length fs ≤ length es) × (fs ≡ take (length fs) es)
front-of es fs n o e =
    let l : length fs ≡ n = ap (λ z. length z) e ∙ length-take-le n es o in
    (omega (arith, l, o), e ∙ ap (λ m. take m es) (sym l))

-- where a clause is learned the trail grows up to a false one, its first n entries are kept, and it grows again
module _ (assume : List Lit) {ks ms : List (List Lit)} {first es new : List Entry} (n : ℕ)
    (p : IsGrown ks first es) (o : n ≤ length es) (g : IsGrown ms (take n es) new) where
  pub asked-learned : Each (IsAsked assume) first → Each (IsAsked assume) new
  asked-learned a = asked-grown assume ms (take n es) new (asked-take assume n es o (asked-grown assume ks first es a p)) g

  pub seen-learned : {a : Seen} (b : Seen) → AreSeen first assume a → b.entries ≤ n → (b ≡ a) ⊎ (b.lits ≡ 0) → AreSeen new assume b
  seen-learned {a} b h w e = seen-grown assume ms (take n es) new b g (seen-kept assume es n a b o w e (seen-grown assume ks first es a p h))
