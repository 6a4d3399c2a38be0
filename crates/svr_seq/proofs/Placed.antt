-- Tasks each of which expands a production that there is.
use Rattle.std.proofs.Common.{◌<◌, ℕ, zero, suc, subst, List, [], ◌∷◌, ◌++◌, map, length, arith}
use Rattle.std.specs.Prelude.{replicate, slice_index_or}
use Rattle.std.specs.List.{All, Contains}
use Rattle.svr_seq.specs.SeqTerm.{ActTerm, PartTerm, expand, block, ProductionTerm, SeqTerm}
use Rattle.svr_seq.specs.Sound.{IsSoundPart, IsSoundRule, IsSoundProduction, IsSound, rule_weights}
use Rattle.svr_seq.specs.Line.{Task, expansion, statement, part_tasks, parts_tasks, rules_of}
use Rattle.svr_seq.proofs.Taken.{TakesRule}

-- what holds of each element holds of the one that a list contains, of its first and of the others
contained : {X : Type 0} (P : X → Type 0) (xs : List X) (x : X) → All P xs → Contains xs x → P x
contained P xs x h among = subst P among.2 (h among.0 x among.1)

behind_first : {X : Type 0} (P : X → Type 0) (x : X) (xs : List X) → All P (x ∷ xs) → All P xs
behind_first P x xs h k d less = h (suc k) d (omega (arith, less))

-- among so many productions
abbrev pub IsPlaced : ℕ → Task → Type 0
IsPlaced prods (expansion p) = p < prods
IsPlaced prods (statement a) = Unit {0}

abbrev pub ArePlaced : ℕ → List Task → Type 0
ArePlaced prods [] = Unit {0}
ArePlaced prods (t ∷ ts) = IsPlaced prods t × ArePlaced prods ts

pub both_placed : (prods : ℕ) (ts us : List Task) → ArePlaced prods ts → ArePlaced prods us → ArePlaced prods (ts ++ us)
both_placed prods [] us h k = k
both_placed prods (t ∷ ts) us h k = (h.0, both_placed prods ts us h.1 k)

pub acts_placed : (prods : ℕ) (acts : List ActTerm) → ArePlaced prods (map statement acts)
acts_placed prods [] = tt
acts_placed prods (a ∷ acts) = (tt, acts_placed prods acts)

times_placed : (prods n p : ℕ) → p < prods → ArePlaced prods (replicate n (expansion p))
times_placed prods zero p h = tt
times_placed prods (suc n) p h = (h, times_placed prods n p h)

part_placed : (prods : ℕ) (x : PartTerm) → IsSoundPart prods x → ArePlaced prods (part_tasks x)
part_placed prods (expand p n) h = times_placed prods n p h.0
part_placed prods (block acts) h = acts_placed prods acts

parts_placed : (prods : ℕ) (xs : List PartTerm) → All (IsSoundPart prods) xs → ArePlaced prods (parts_tasks xs)
parts_placed prods [] h = tt
parts_placed prods (x ∷ xs) h = both_placed prods (part_tasks x) (parts_tasks xs) (part_placed prods x (h 0 x (omega arith))) (parts_placed prods xs (behind_first (IsSoundPart prods) x xs h))

module _ (s : SeqTerm) (sound : IsSound s) where
  -- the production at a place
  abbrev none : ProductionTerm
  none = record { name = 0; rules = [] }

  production : (p : ℕ) → p < length s.prods → IsSoundProduction (length s.prods) (slice_index_or s.prods p none)
  production p h = sound.sound p none h

  pub some_weight : (p : ℕ) → p < length s.prods → 0 < rule_weights (rules_of s p)
  some_weight p h = (production p h).weighty

  -- the tasks of a rule of a production
  pub rule_placed : (p : ℕ) (parts : List PartTerm) → p < length s.prods → TakesRule (rules_of s p) parts → ArePlaced (length s.prods) (parts_tasks parts)
  rule_placed p parts h taken =
      let rule = contained (IsSoundRule (length s.prods)) (rules_of s p) taken.rule (production p h).sound taken.among in
      let P : List PartTerm → Type 0 = λ xs. ArePlaced (length s.prods) (parts_tasks xs) in
      subst P taken.has (parts_placed (length s.prods) taken.rule.parts rule.sound)
