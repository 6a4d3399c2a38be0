-- What a list of tasks derives: the joined lists of its tasks. Those of a part, of parts, of a block and of a repeat derive what these do.
use Rattle.std.proofs.Common.{◌≡◌, ℕ, zero, suc, refl, sym, ap, ◌∙◌, subst, List, [], ◌∷◌, ◌++◌, map, append_assoc}
use Rattle.std.specs.Prelude.{replicate}
use Rattle.svr_seq.specs.SeqTerm.{ActTerm, PartTerm, expand, block, SeqTerm}
use Rattle.svr_seq.specs.Line.{Task, expansion, statement, part_tasks, parts_tasks}
use Rattle.svr_seq.specs.Derives.{ActDerives, ActsDerive, no_acts, more_acts, Derives, PartsDerive, no_parts, more_parts, PartDerives, by_repeat, by_block, TimesDerive, never, once_more}

-- a list of the first kind, and behind it one of the second
pub record Joins (A B : List ℕ → Type 0) (whole : List ℕ) : Type 0 where
  pub first : List ℕ
  pub rest : List ℕ
  pub ahead : A first
  pub after : B rest
  pub is : whole ≡ first ++ rest

module _ (s : SeqTerm) where
  abbrev pub TaskDerives : Task → List ℕ → Type 0
  TaskDerives (expansion p) names = Derives s p names
  TaskDerives (statement a) names = ActDerives a names

  abbrev pub TasksDerive : List Task → List ℕ → Type 0
  TasksDerive [] names = names ≡ []
  TasksDerive (t ∷ ts) names = Joins (λ xs. TaskDerives t xs) (λ ys. TasksDerive ts ys) names

  -- two lists of tasks, one behind the other
  pub split : (ts us : List Task) (names : List ℕ) → TasksDerive (ts ++ us) names → Joins (λ xs. TasksDerive ts xs) (λ ys. TasksDerive us ys) names
  split [] us names h = record { first = []; rest = names; ahead = refl; after = h; is = refl }
  split (t ∷ ts) us names h =
      let j = split ts us h.rest h.after in
      record {
        first = h.first ++ j.first;
        rest = j.rest;
        ahead = record { first = h.first; rest = j.first; ahead = h.ahead; after = j.ahead; is = refl };
        after = j.after;
        is = h.is ∙ ap (λ (l : List ℕ). h.first ++ l) j.is ∙ sym (append_assoc h.first j.first j.rest);
      }

  acts_derive : (acts : List ActTerm) (names : List ℕ) → TasksDerive (map statement acts) names → ActsDerive acts names
  acts_derive [] names h = subst (ActsDerive []) (sym h) no_acts
  acts_derive (a ∷ acts) names h = subst (ActsDerive (a ∷ acts)) (sym h.is) (more_acts h.ahead (acts_derive acts h.rest h.after))

  times_derive : (n p : ℕ) (names : List ℕ) → TasksDerive (replicate n (expansion p)) names → TimesDerive s n p names
  times_derive zero p names h = subst (TimesDerive s zero p) (sym h) never
  times_derive (suc n) p names h = subst (TimesDerive s (suc n) p) (sym h.is) (once_more h.ahead (times_derive n p h.rest h.after))

  part_derives : (x : PartTerm) (names : List ℕ) → TasksDerive (part_tasks x) names → PartDerives s x names
  part_derives (expand p n) names h = by_repeat (times_derive n p names h)
  part_derives (block acts) names h = by_block (acts_derive acts names h)

  pub parts_derive : (xs : List PartTerm) (names : List ℕ) → TasksDerive (parts_tasks xs) names → PartsDerive s xs names
  parts_derive [] names h = subst (PartsDerive s []) (sym h) no_parts
  parts_derive (x ∷ xs) names h =
      let j = split (part_tasks x) (parts_tasks xs) names h in
      subst (PartsDerive s (x ∷ xs)) (sym j.is) (more_parts (part_derives x j.first j.ahead) (parts_derive xs j.rest j.after))
