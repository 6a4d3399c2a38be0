-- Marks of needed steps, from the last step to the first
use Rattle.std.proofs.Common.{◌≡◌, ℕ, suc, zero, ◌+◌, ◌-◌, ◌<◌, ◌≤◌, Bool, true, false, ◌&&◌, ◌||◌, nat_eq, nat_lt, List, [], ◌∷◌, length, drop, take, set, replicate, get_or, refl, sym, ap, ◌∙◌, inl, inr, arith, get_or-set_same, get_or-set_other}
use Rattle.std.specs.List.{list_any}
use Rattle.std.proofs.lemmas.Bool.{cases_eq, cases_lt, and_from, and_left, and_right, lt-ltb, le-ltb, ltb-true, eq-eqb, ne_eqb, or_right, cases_Bool}
use Rattle.std.specs.Prelude.{◌⊎◌}
use Rattle.std.proofs.lemmas.List.{drop_more, drop_all, get_or_past, get_or_read, ext_get_or, get_or-replicate, length-replicate}
use Rattle.std.proofs.lemmas.List.Folds.{list_any_more}
use Rattle.svr_chain.specs.declared.log.Link.{Link}
use Rattle.svr_chain.specs.Views.{StepView}
use Rattle.svr_lrat_made.specs.Marks.{AreMarked}
use Rattle.svr_lrat_made.specs.Needed.{uses, is_used, is_needed, needed}

-- where nothing is marked
pub unset : (n k : ℕ) → get_or (replicate n false) k false ≡ false
unset n k =
    elim (cases_lt k n) [
      | inl h ↦ get_or-replicate n k false false h
      | inr h ↦ get_or_past (replicate n false) k false (let w : length (replicate n false) ≡ n = length-replicate n false in omega arith)
    ]

-- ---- one mark

stays : (b t : Bool) → t ≡ false → b ≡ (b || t)
stays true t e = refl
stays false t e = sym e

or-none : (b t : Bool) → t ≡ false → b ≡ (b || t)
or-none b t e = stays b t e

-- nothing is used so far
pub mark_none : (b l : Bool) → b ≡ (b || (l && false))
mark_none b true = stays b false refl
mark_none b false = stays b false refl

-- a clause before the steps
pub mark_low : (marks : List Bool) (limit first number : ℕ) → number < first → (k : ℕ) → get_or marks k false ≡ (get_or marks k false || (nat_lt k limit && nat_eq number (first + k)))
mark_low marks limit first number h k =
    stays (get_or marks k false) (nat_lt k limit && nat_eq number (first + k)) (and_right (nat_lt k limit) (nat_eq number (first + k)) (ne_eqb number (first + k) (λ e. absurd (omega arith))))

-- a clause behind those that may be marked
pub mark_high : (marks : List Bool) (limit first number : ℕ) → first ≤ number → limit ≤ number - first → (k : ℕ) → get_or marks k false ≡ (get_or marks k false || (nat_lt k limit && nat_eq number (first + k)))
mark_high marks limit first number h l k =
    stays (get_or marks k false) (nat_lt k limit && nat_eq number (first + k)) (apart (cases_Bool (nat_lt k limit)))
  where
    apart : (nat_lt k limit ≡ true) ⊎ (nat_lt k limit ≡ false) → (nat_lt k limit && nat_eq number (first + k)) ≡ false
    apart (inl t) = let below : k < limit = ltb-true k limit t in and_right (nat_lt k limit) (nat_eq number (first + k)) (ne_eqb number (first + k) (λ e. absurd (omega arith)))
    apart (inr t) = and_left (nat_lt k limit) (nat_eq number (first + k)) t

both-true : (b s t : Bool) → s ≡ true → t ≡ true → true ≡ (b || (s && t))
both-true b s t e f = sym (or_right b (s && t) (and_from s t e f))

pub mark_set : (marks : List Bool) (limit first number : ℕ) → first ≤ number → number - first < limit → limit ≤ length marks
    → (k : ℕ) → get_or (set marks (number - first) true) k false ≡ (get_or marks k false || (nat_lt k limit && nat_eq number (first + k)))
mark_set marks limit first number h l m k =
    elim (cases_eq k (number - first)) [
      | inl e ↦
          ap (λ i. get_or (set marks (number - first) true) i false) e ∙ get_or-set_same marks (number - first) true false (omega arith)
          ∙ both-true (get_or marks k false) (nat_lt k limit) (nat_eq number (first + k)) (lt-ltb k limit (omega arith)) (eq-eqb number (first + k) (omega arith))
      | inr ne ↦
          get_or-set_other marks (number - first) k true false ne
          ∙ stays (get_or marks k false) (nat_lt k limit && nat_eq number (first + k)) (and_right (nat_lt k limit) (nat_eq number (first + k)) (ne_eqb number (first + k) (λ e. ne (omega arith))))
    ]

both-same : (a b x y : Bool) → a ≡ b → x ≡ y → (a && x) ≡ (b && y)
both-same a b x y e f = ap (λ z. z && x) e ∙ ap (λ z. b && z) f

-- ---- what one step uses

regroup : (b l x y : Bool) → ((b || (l && x)) || (l && y)) ≡ (b || (l && (x || y)))
regroup true l x y = refl
regroup false true x y = refl
regroup false false x y = refl

-- one more link
pub mark_link : (marks old : List Bool) (new : List Bool) (limit first : ℕ) (links : List Link) (i : ℕ) (d : Link) → i < length links
    → ((k : ℕ) → get_or marks k false ≡ (get_or old k false || (nat_lt k limit && list_any (λ (x : Link). nat_eq x.clause (first + k)) (take i links))))
    → ((k : ℕ) → get_or new k false ≡ (get_or marks k false || (nat_lt k limit && nat_eq (get_or links i d).clause (first + k))))
    → (k : ℕ) → get_or new k false ≡ (get_or old k false || (nat_lt k limit && list_any (λ (x : Link). nat_eq x.clause (first + k)) (take (i + 1) links)))
mark_link marks old new limit first links i d less m n k =
    n k
    ∙ ap (λ b. b || (nat_lt k limit && nat_eq (get_or links i d).clause (first + k))) (m k)
    ∙ regroup (get_or old k false) (nat_lt k limit) (list_any (λ (x : Link). nat_eq x.clause (first + k)) (take i links)) (nat_eq (get_or links i d).clause (first + k))
    ∙ ap (λ b. get_or old k false || (nat_lt k limit && b)) (sym (list_any_more (λ (x : Link). nat_eq x.clause (first + k)) links i d less))

-- the start, and then all links
pub mark_step : (old began new : List Bool) (limit first : ℕ) (s : StepView)
    → ((k : ℕ) → get_or began k false ≡ (get_or old k false || (nat_lt k limit && nat_eq s.start (first + k))))
    → ((k : ℕ) → get_or new k false ≡ (get_or began k false || (nat_lt k limit && list_any (λ (x : Link). nat_eq x.clause (first + k)) s.links)))
    → (k : ℕ) → get_or new k false ≡ (get_or old k false || (nat_lt k limit && uses s (first + k)))
mark_step old began new limit first s b n k =
    n k
    ∙ ap (λ x. x || (nat_lt k limit && list_any (λ (x : Link). nat_eq x.clause (first + k)) s.links)) (b k)
    ∙ regroup (get_or old k false) (nat_lt k limit) (nat_eq s.start (first + k)) (list_any (λ (x : Link). nat_eq x.clause (first + k)) s.links)

-- ---- all steps

pub length_needed : (goal n : ℕ) (steps : List StepView) → length (needed goal n steps) ≡ length steps
length_needed goal n [] = refl
length_needed goal n (s ∷ steps) = ap suc (length_needed goal (n + 1) steps)

needed-at : (goal : ℕ) (steps : List StepView) (n m k : ℕ) → m ≡ n + k → k < length steps
    → get_or (needed goal n steps) k false ≡ is_needed goal (drop (suc k) steps) (drop (suc k) (needed goal n steps)) m
needed-at goal [] n m k q h = absurd (omega arith)
needed-at goal (s ∷ steps) n m zero q h = ap (is_needed goal steps (needed goal (n + 1) steps)) (let e : n ≡ m = omega arith in e)
needed-at goal (s ∷ steps) n m (suc k) q h = needed-at goal steps (n + 1) m k (omega arith) (omega arith)

order : (a b t : Bool) → (a || (t || b)) ≡ ((a || b) || t)
order true b t = refl
order false true true = refl
order false true false = refl
order false false true = refl
order false false false = refl

is-needed-more : (goal : ℕ) (steps : List StepView) (marks : List Bool) (i n : ℕ) (d : StepView) → i < length steps → i < length marks
    → is_needed goal (drop i steps) (drop i marks) n ≡ (is_needed goal (drop (i + 1) steps) (drop (i + 1) marks) n || (get_or marks i false && uses (get_or steps i d) n))
is-needed-more goal steps marks i n d h m =
    ap (λ ss. is_needed goal ss (drop i marks) n) (drop_more steps i d h)
    ∙ ap (λ ms. is_needed goal (get_or steps i d ∷ drop (i + 1) steps) ms n) (drop_more marks i false m)
    ∙ order (nat_eq goal n) (is_used (drop (i + 1) steps) (drop (i + 1) marks) n) (get_or marks i false && uses (get_or steps i d) n)

module _ (goal first : ℕ) (steps : List StepView) where
  at-place : (i k : ℕ) (marks : List Bool) → k < length steps → i ≡ k + 1 → AreMarked goal first steps i marks → get_or marks k false ≡ get_or (needed goal first steps) k false
  at-place i k marks h e m =
      let q : i ≡ suc k = omega arith in
      m.before k (omega arith) ∙ ap (λ j. is_needed goal (drop j steps) (drop j (needed goal first steps)) (first + k)) q ∙ sym (needed-at goal steps first (first + k) k refl h)

  module _ (old new : List Bool) (j i : ℕ) (h : i < length steps) (e : j ≡ i + 1) (m : AreMarked goal first steps j old) where
    behind-more : ((k : ℕ) → i ≤ k → get_or new k false ≡ get_or old k false) → (k : ℕ) → i ≤ k → get_or new k false ≡ get_or (needed goal first steps) k false
    behind-more same k l =
        elim (cases_eq k i) [
          | inl q ↦ same k l ∙ at-place j k old (omega arith) (omega arith) m
          | inr ne ↦ same k l ∙ m.behind k (omega arith)
        ]

    before-more : StepView → ((k : ℕ) (d : StepView) → k < i → get_or new k false ≡ (get_or old k false || (get_or (needed goal first steps) i false && uses (get_or steps i d) (first + k))))
        → (k : ℕ) → k < i → get_or new k false ≡ is_needed goal (drop i steps) (drop i (needed goal first steps)) (first + k)
    before-more d n k l =
        n k d l
        ∙ ap (λ b. b || (get_or (needed goal first steps) i false && uses (get_or steps i d) (first + k))) (m.before k (omega arith) ∙ ap (λ z. is_needed goal (drop z steps) (drop z (needed goal first steps)) (first + k)) e)
        ∙ sym (is-needed-more goal steps (needed goal first steps) i (first + k) d h (let w : length (needed goal first steps) ≡ length steps = length_needed goal first steps in omega arith))

    -- the step at the place is needed, and marks what it uses
    pub back_marked : (s : StepView) → s ≡ get_or steps i s → get_or old i false ≡ true
        → ((k : ℕ) → get_or new k false ≡ (get_or old k false || (nat_lt k i && uses s (first + k)))) → AreMarked goal first steps i new
    back_marked s a t n = record {
      behind = behind-more (λ k l. n k ∙ sym (stays (get_or old k false) (nat_lt k i && uses s (first + k)) (and_left (nat_lt k i) (uses s (first + k)) (le-ltb k i l))));
      before = before-more s
          (λ k d l.
          n k ∙ ap (λ b. get_or old k false || b) (both-same (nat_lt k i) (get_or (needed goal first steps) i false) (uses s (first + k)) (uses (get_or steps i d) (first + k)) (lt-ltb k i l ∙ sym t ∙ at-place j i old h e m) (ap (λ z. uses z (first + k)) (get_or_read steps i s h a d))));
    }

    -- it is not, and nothing changes
    pub back_unmarked : (d : StepView) → new ≡ old → get_or old i false ≡ false → AreMarked goal first steps i new
    back_unmarked d same t = record {
      behind = behind-more (λ k l. ap (λ z. get_or z k false) same);
      before = before-more d
          (λ k z l.
          ap (λ x. get_or x k false) same
          ∙ stays (get_or old k false) (get_or (needed goal first steps) i false && uses (get_or steps i z) (first + k)) (and_left (get_or (needed goal first steps) i false) (uses (get_or steps i z) (first + k)) (sym (at-place j i old h e m) ∙ t)));
    }

  -- at the end of the steps only the goal is marked
  pub marked_goal : (marks : List Bool) (n : ℕ) → n ≡ length steps → length marks ≡ n → ((k : ℕ) → get_or marks k false ≡ (nat_lt k n && nat_eq goal (first + k))) → AreMarked goal first steps n marks
  marked_goal marks n e m f =
      let w : length (needed goal first steps) ≡ length steps = length_needed goal first steps in
      record {
        behind = λ k l. get_or_past marks k false (omega arith) ∙ sym (get_or_past (needed goal first steps) k false (omega arith));
        before = λ k l.
            f k ∙ ap (λ b. b && nat_eq goal (first + k)) (lt-ltb k n l)
            ∙ or-none (nat_eq goal (first + k)) (is_used (drop n steps) (drop n (needed goal first steps)) (first + k)) (ap (λ z. is_used z (drop n (needed goal first steps)) (first + k)) (drop_all n steps (omega arith)));
      }

  -- at their beginning all marks are right
  pub all_marked : (marks : List Bool) (i : ℕ) → i ≡ 0 → length marks ≡ length steps → AreMarked goal first steps i marks → marks ≡ needed goal first steps
  all_marked marks i z m r = ext_get_or false marks (needed goal first steps) (m ∙ sym (length_needed goal first steps)) (λ k h. r.behind k (omega arith))
