-- Groups that are put one behind the other
use Rattle.std.proofs.Common.{◌≡◌, ℕ, zero, suc, ◌+◌, ◌<◌, ◌≤◌, Bool, true, List, [], ◌∷◌, ◌++◌, length, take, drop, get_or, refl, ap, sym, ◌∙◌, subst, arith, append-nil, append_assoc, ◌⊎◌, inl, inr}
use Rattle.std.specs.List.{list_all}
use Rattle.std.proofs.lemmas.Bool.{or_cases, or_left, or_right, false≢true}
use Rattle.std.proofs.lemmas.List.{at_drop_more, at_drop_all}
use Rattle.std.proofs.lemmas.List.Folds.{list_any-append}
use Rattle.svr_chain.specs.declared.clause.Lit.{Lit}
use Rattle.svr_chain.specs.Clauses.{same_lit, has, is_within}
use Rattle.svr_chain.specs.Valuations.{lit_value}
use Rattle.svr_chain.proofs.Same.{all-has, all-from}
use Rattle.svr_query.specs.Logged.{valuation_of}
use Rattle.svr_query.specs.Answer.{IsModel}
use Rattle.svr_core.specs.declared.search.Needed.{Needed}
use Rattle.svr_core.specs.Groups.{group_at, lits_of, lits_at, asked}
use Rattle.svr_core.specs.Cores.{places_of}

-- ---- loops

-- one group more
pub group_put : (groups : List (List Lit)) (i : ℕ) (x old new more all : List Lit) → i < length groups → x ≡ get_or groups i x → more ≡ x → new ≡ old ++ more
    → old ++ lits_of (drop i groups) ≡ all → new ++ lits_of (drop (i + 1) groups) ≡ all
group_put groups i x old new more all lt is same pushed before =
    ap (λ (ls : List Lit). ls ++ lits_of (drop (i + 1) groups)) (pushed ∙ ap (λ (ls : List Lit). old ++ ls) (same ∙ is))
    ∙ append_assoc old (get_or groups i x) (lits_of (drop (i + 1) groups))
    ∙ sym (at_drop_more (λ (gs : List (List Lit)). old ++ lits_of gs) groups i x lt)
    ∙ before

pub groups_put : (groups : List (List Lit)) (i : ℕ) (old all : List Lit) → length groups ≤ i → old ++ lits_of (drop i groups) ≡ all → old ≡ all
groups_put groups i old all le before = sym (append-nil old) ∙ sym (at_drop_all (λ (gs : List (List Lit)). old ++ lits_of gs) groups i le) ∙ before

-- one group of the core more
pub place_put : (groups : List (List Lit)) (core : List Needed) (i : ℕ) (x : Needed) (old new more all : List Lit) → i < length core → x ≡ get_or core i x → more ≡ group_at groups x.place → new ≡ old ++ more
    → old ++ lits_at groups (places_of (drop i core)) ≡ all → new ++ lits_at groups (places_of (drop (i + 1) core)) ≡ all
place_put groups core i x old new more all lt is same pushed before =
    ap (λ (ls : List Lit). ls ++ lits_at groups (places_of (drop (i + 1) core))) (pushed ∙ ap (λ (ls : List Lit). old ++ ls) (same ∙ ap (λ (c : Needed). group_at groups c.place) is))
    ∙ append_assoc old (group_at groups (get_or core i x).place) (lits_at groups (places_of (drop (i + 1) core)))
    ∙ sym (at_drop_more (λ (cs : List Needed). old ++ lits_at groups (places_of cs)) core i x lt)
    ∙ before

pub places_put : (groups : List (List Lit)) (core : List Needed) (i : ℕ) (old all : List Lit) → length core ≤ i → old ++ lits_at groups (places_of (drop i core)) ≡ all → old ≡ all
places_put groups core i old all le before = sym (append-nil old) ∙ sym (at_drop_all (λ (cs : List Needed). old ++ lits_at groups (places_of cs)) core i le) ∙ before

-- the base, some groups, and those of a core
pub all_put : (base : List Lit) (groups before : List (List Lit)) (p : ℕ) (places : List ℕ) (lits all : List Lit) → before ≡ take p groups → lits ≡ base ++ lits_of before → all ≡ lits ++ lits_at groups places
    → all ≡ asked base groups p places
all_put base groups before p places lits all front put more =
    more
    ∙ ap (λ (ls : List Lit). ls ++ lits_at groups places) (put ∙ ap (λ (gs : List (List Lit)). base ++ lits_of gs) front)
    ∙ append_assoc base (lits_of (take p groups)) (lits_at groups places)

-- ---- what is assumed

take_next : (groups : List (List Lit)) (p : ℕ) → p < length groups → lits_of (take (suc p) groups) ≡ lits_of (take p groups) ++ group_at groups p
take_next [] p h = absurd (omega (arith, h))
take_next (g ∷ gs) zero h = append-nil g
take_next (g ∷ gs) (suc p) h = ap (λ (ls : List Lit). g ++ ls) (take_next gs p (omega (arith, h))) ∙ sym (append_assoc g (lits_of (take p gs)) (group_at gs p))

-- the last of the groups before a place, as one of the core
pub asked_next : (base : List Lit) (groups : List (List Lit)) (p : ℕ) (places : List ℕ) → p < length groups → asked base groups (suc p) places ≡ asked base groups p (p ∷ places)
asked_next base groups p places h =
    ap (λ (ls : List Lit). base ++ (ls ++ lits_at groups places)) (take_next groups p h)
    ∙ ap (λ (ls : List Lit). base ++ ls) (append_assoc (lits_of (take p groups)) (group_at groups p) (lits_at groups places))

-- all groups
pub asked_all : (base : List Lit) (groups : List (List Lit)) → asked base groups (length groups) [] ≡ base ++ lits_of groups
asked_all base groups = ap (λ (ls : List Lit). base ++ ls) (append-nil (lits_of (take (length groups) groups)) ∙ ap lits_of (whole groups))
  where
    whole : (gs : List (List Lit)) → take (length gs) gs ≡ gs
    whole [] = refl
    whole (g ∷ gs) = ap (λ (rest : List (List Lit)). g ∷ rest) (whole gs)

-- ---- literals among others

pub has_split : (c d : List Lit) (x : Lit) → has (c ++ d) x ≡ true → (has c x ≡ true) ⊎ (has d x ≡ true)
has_split c d x h = or_cases (has c x) (has d x) (sym (list_any-append (λ y. same_lit y x) c d) ∙ h)

pub has_left : (c d : List Lit) (x : Lit) → has c x ≡ true → has (c ++ d) x ≡ true
has_left c d x h = list_any-append (λ y. same_lit y x) c d ∙ or_left (has c x) (has d x) h

pub has_right : (c d : List Lit) (x : Lit) → has d x ≡ true → has (c ++ d) x ≡ true
has_right c d x h = list_any-append (λ y. same_lit y x) c d ∙ or_right (has c x) (has d x) h

has_take : (groups : List (List Lit)) (p : ℕ) (x : Lit) → has (lits_of (take p groups)) x ≡ true → has (lits_of groups) x ≡ true
has_take groups zero x h = absurd (false≢true h)
has_take [] (suc p) x h = h
has_take (g ∷ gs) (suc p) x h =
    elim (has_split g (lits_of (take p gs)) x h) [
      | inl e ↦ has_left g (lits_of gs) x e
      | inr e ↦ has_right g (lits_of gs) x (has_take gs p x e)
    ]

has_group : (groups : List (List Lit)) (p : ℕ) (x : Lit) → has (group_at groups p) x ≡ true → has (lits_of groups) x ≡ true
has_group [] p x h = h
has_group (g ∷ gs) zero x h = has_left g (lits_of gs) x h
has_group (g ∷ gs) (suc p) x h = has_right g (lits_of gs) x (has_group gs p x h)

has_places : (groups : List (List Lit)) (places : List ℕ) (x : Lit) → has (lits_at groups places) x ≡ true → has (lits_of groups) x ≡ true
has_places groups [] x h = absurd (false≢true h)
has_places groups (p ∷ ps) x h =
    elim (has_split (group_at groups p) (lits_at groups ps) x h) [
      | inl e ↦ has_group groups p x e
      | inr e ↦ has_places groups ps x e
    ]

-- all that is ever assumed is the base and literals of groups
pub asked_within : (base : List Lit) (groups : List (List Lit)) (p : ℕ) (places : List ℕ) → is_within (asked base groups p places) (base ++ lits_of groups) ≡ true
asked_within base groups p places = all-from (λ x. has (base ++ lits_of groups) x) (asked base groups p places) each
  where
    each : (x : Lit) → has (asked base groups p places) x ≡ true → has (base ++ lits_of groups) x ≡ true
    each x h =
        elim (has_split base (lits_of (take p groups) ++ lits_at groups places) x h) [
          | inl e ↦ has_left base (lits_of groups) x e
          | inr e ↦ has_right base (lits_of groups) x (elim (has_split (lits_of (take p groups)) (lits_at groups places) x e) [
            | inl d ↦ has_take groups p x d
            | inr d ↦ has_places groups places x d
          ])
        ]

-- without the last of the groups before a place, less is assumed
fewer_within : (base : List Lit) (groups : List (List Lit)) (p : ℕ) (places : List ℕ) → is_within (asked base groups p places) (asked base groups p (p ∷ places)) ≡ true
fewer_within base groups p places = all-from (λ x. has (asked base groups p (p ∷ places)) x) (asked base groups p places) each
  where
    each : (x : Lit) → has (asked base groups p places) x ≡ true → has (asked base groups p (p ∷ places)) x ≡ true
    each x h =
        elim (has_split base (lits_of (take p groups) ++ lits_at groups places) x h) [
          | inl e ↦ has_left base (lits_of (take p groups) ++ lits_at groups (p ∷ places)) x e
          | inr e ↦ has_right base (lits_of (take p groups) ++ lits_at groups (p ∷ places)) x (elim (has_split (lits_of (take p groups)) (lits_at groups places) x e) [
            | inl d ↦ has_left (lits_of (take p groups)) (lits_at groups (p ∷ places)) x d
            | inr d ↦ has_right (lits_of (take p groups)) (lits_at groups (p ∷ places)) x (has_right (group_at groups p) (lits_at groups places) x d)
          ])
        ]

-- where literals are true, those among them are
pub true_within : (a : ℕ → Bool) (c d : List Lit) → is_within c d ≡ true → list_all (lit_value a) d ≡ true → list_all (lit_value a) c ≡ true
true_within a c d w t = all-from (lit_value a) c (λ x h. all-has (lit_value a) d x t (all-has (λ y. has d y) c x w h))

pub model_within : (ks : List (List Lit)) (c d : List Lit) (values : List Bool) → is_within c d ≡ true → IsModel ks d values → IsModel ks c values
model_within ks c d values w m = (m.0, true_within (valuation_of values) c d w m.1)

pub model_fewer : (ks : List (List Lit)) (base : List Lit) (groups : List (List Lit)) (p : ℕ) (places : List ℕ) (values : List Bool) → p < length groups
    → IsModel ks (asked base groups (suc p) places) values → IsModel ks (asked base groups p places) values
model_fewer ks base groups p places values h m =
    model_within ks (asked base groups p places) (asked base groups p (p ∷ places)) values (fewer_within base groups p places)
    (subst (λ (ls : List Lit). IsModel ks ls values) (asked_next base groups p places h) m)
