-- Vectors that read as parts
use Rattle.std.proofs.Common.{◌≡◌, ℕ, zero, suc, ◌+◌, ◌<◌, ◌≤◌, Bool, List, [], ◌∷◌, ◌++◌, length, get_or, refl, sym, ap, ◌∙◌, subst, arith, ⊎_elim}
use Rattle.std.proofs.lemmas.Bool.{cases_lt}
use Rattle.svr_chain.specs.declared.clause.Lit.{Lit}
use Rattle.svr_gate.specs.Circuit.{Circuit, Extends, GivesNumber}
use Rattle.svr_gate.proofs.Vectors.{GivesNumber-later}
use Rattle.svr_eval.specs.Reading.{Reading}
use Rattle.svr_encode.specs.Parts.{PartTerm}
use Rattle.svr_encode.specs.Given.{GiveParts, part_value}

module _ (xs : List (List Lit)) (read : (ℕ → Bool) → Reading) (env : List ℕ) where
  abbrev pub Gives : Circuit → ℕ → PartTerm → Type 0
  Gives c k p = GivesNumber c (get_or xs k []) p.width (λ v. part_value (read v) env p)

  pub given_len : (c : Circuit) (k : ℕ) (ps : List PartTerm) → GiveParts c xs read env k ps → k + length ps ≤ length xs
  given_len c k [] h = omega (arith, h)
  given_len c k (p ∷ ps) h = omega (arith, given_len c (suc k) ps h.1)

  pub given_at : (c : Circuit) (k : ℕ) (ps : List PartTerm) → GiveParts c xs read env k ps → (j : ℕ) (d : PartTerm) → j < length ps → Gives c (k + j) (get_or ps j d)
  given_at c k [] h j d l = absurd (omega arith)
  given_at c k (p ∷ ps) h zero d l = subst (λ (n : ℕ). Gives c n p) (let e : k ≡ k + 0 = omega arith in e) h.0
  given_at c k (p ∷ ps) h (suc j) d l = subst (λ (n : ℕ). Gives c n (get_or ps j d)) (let e : suc k + j ≡ k + suc j = omega arith in e) (given_at c (suc k) ps h.1 j d (omega arith))

  pub give_all : (c : Circuit) (k : ℕ) (ps : List PartTerm) (d : PartTerm) → k + length ps ≤ length xs → ((j : ℕ) → j < length ps → Gives c (k + j) (get_or ps j d)) → GiveParts c xs read env k ps
  give_all c k [] d m h = omega arith
  give_all c k (p ∷ ps) d m h = (
    subst (λ (n : ℕ). Gives c n p) (let e : k + 0 ≡ k = omega arith in e) (h 0 (omega arith)),
    give_all c (suc k) ps d (omega arith) (λ j l. subst (λ (n : ℕ). Gives c n (get_or ps j d)) (let e : k + suc j ≡ suc k + j = omega arith in e) (h (suc j) (omega arith))),
  )

  pub given_front : (c : Circuit) (k : ℕ) (ps qs : List PartTerm) → GiveParts c xs read env k (ps ++ qs) → GiveParts c xs read env k ps
  given_front c k [] qs h = omega (arith, given_len c k qs h)
  given_front c k (p ∷ ps) qs h = (h.0, given_front c (suc k) ps qs h.1)

  pub given_rest : (c : Circuit) (k : ℕ) (ps qs : List PartTerm) → GiveParts c xs read env k (ps ++ qs) → GiveParts c xs read env (k + length ps) qs
  given_rest c k [] qs h = subst (λ (n : ℕ). GiveParts c xs read env n qs) (let e : k ≡ k + 0 = omega arith in e) h
  given_rest c k (p ∷ ps) qs h = subst (λ (n : ℕ). GiveParts c xs read env n qs) (let e : suc k + length ps ≡ k + suc (length ps) = omega arith in e) (given_rest c (suc k) ps qs h.1)

  pub given_later : (c d : Circuit) (k : ℕ) (ps : List PartTerm) → Extends c d → GiveParts c xs read env k ps → GiveParts d xs read env k ps
  given_later c d k [] x h = h
  given_later c d k (p ∷ ps) x h = (GivesNumber-later x h.0, given_later c d (suc k) ps x h.1)

length_more : (xs : List (List Lit)) (y : List Lit) → length (xs ++ y ∷ []) ≡ length xs + 1
length_more [] y = refl
length_more (x ∷ xs) y = omega (arith, length_more xs y)

front : (xs : List (List Lit)) (y : List Lit) (k : ℕ) → k < length xs → get_or (xs ++ y ∷ []) k [] ≡ get_or xs k []
front [] y k h = absurd (omega arith)
front (x ∷ xs) y zero h = refl
front (x ∷ xs) y (suc k) h = front xs y k (omega arith)

last : (xs : List (List Lit)) (y : List Lit) → get_or (xs ++ y ∷ []) (length xs) [] ≡ y
last [] y = refl
last (x ∷ xs) y = last xs y

-- the first n vectors read as the first n parts
pub record Reads (c : Circuit) (xs : List (List Lit)) (read : (ℕ → Bool) → Reading) (env : List ℕ) (n : ℕ) (ps : List PartTerm) (d : PartTerm) : Type 0 where
  pub len : length xs ≡ n
  pub each : (j : ℕ) → j < n → GivesNumber c (get_or xs j []) (get_or ps j d).width (λ v. part_value (read v) env (get_or ps j d))

pub reads_more : {c e : Circuit} {xs : List (List Lit)} {read : (ℕ → Bool) → Reading} {env : List ℕ} {n : ℕ} {ps : List PartTerm} {d : PartTerm} (y : List Lit) → Extends c e → Reads c xs read env n ps d
    → GivesNumber e y (get_or ps n d).width (λ v. part_value (read v) env (get_or ps n d)) → Reads e (xs ++ y ∷ []) read env (n + 1) ps d
reads_more {c} {e} {xs} {read} {env} {n} {ps} {d} y x r g = record {
  len = omega (arith, length_more xs y, r.len);
  each = λ j h.
      ⊎_elim
      (λ (l : j < n). subst (λ (ls : List Lit). GivesNumber e ls (get_or ps j d).width (λ v. part_value (read v) env (get_or ps j d))) (sym (front xs y j (omega (arith, r.len)))) (GivesNumber-later x (r.each j l)))
      (λ (u : n ≤ j).
      let at : j ≡ length xs = omega (arith, r.len) in
      let same : n ≡ j = omega arith in
      subst (λ (ls : List Lit). GivesNumber e ls (get_or ps j d).width (λ v. part_value (read v) env (get_or ps j d))) (sym (ap (λ k. get_or (xs ++ y ∷ []) k []) at ∙ last xs y))
      (subst (λ (k : ℕ). GivesNumber e y (get_or ps k d).width (λ v. part_value (read v) env (get_or ps k d))) same g))
      (cases_lt j n);
}

pub reads_all : {c : Circuit} {xs : List (List Lit)} {read : (ℕ → Bool) → Reading} {env : List ℕ} {n : ℕ} {ps : List PartTerm} {d : PartTerm} → length ps ≡ n → Reads c xs read env n ps d → GiveParts c xs read env 0 ps
reads_all {c} {xs} {read} {env} {n} {ps} {d} e r =
    give_all xs read env c 0 ps d (omega (arith, r.len)) (λ j l. subst (λ (k : ℕ). Gives xs read env c k (get_or ps j d)) (let z : j ≡ 0 + j = omega arith in z) (r.each j (omega arith)))
