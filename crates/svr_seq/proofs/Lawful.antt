-- The names of a line are derived by the start.
use Rattle.std.proofs.Common.{◌≡◌, ℕ, zero, suc, ◌%◌, refl, sym, ap, ◌∙◌, subst, List, [], ◌∷◌, ◌++◌, map, length, append_assoc, append-nil, Bool, true, false, Option, None, arith}
use Rattle.std.specs.Prelude.{◌==◌, if◌then◌else◌}
use Rattle.std.specs.Option.{option_to_list}
use Rattle.std.proofs.lemmas.Bool.{eqb-true, eqb-false}
use Rattle.rand_pcg.specs.Lcg.{Lcg}
use Rattle.svr_draw.specs.Words.{word_of, after}
use Rattle.svr_seq.specs.declared.limits.TheConstants.{UNIT_LIMIT}
use Rattle.svr_seq.specs.declared.line.SeqEnd.{SeqEnd}
use Rattle.svr_seq.specs.declared.line.SeqEnd.TheVariants.{Names, Limit}
use Rattle.svr_seq.specs.SeqTerm.{ActTerm, print, choose, BranchTerms, PartTerm, SeqTerm}
use Rattle.svr_seq.specs.Sound.{IsSound, branch_weights}
use Rattle.svr_seq.specs.Line.{Task, expansion, statement, branch_at, branch_under, rule_under, rules_of, printed, tasks_under, words_for, line_from, line_of}
use Rattle.svr_seq.specs.Derives.{ActDerives, by_print, by_branch, by_no_branch, Derives, by_rule, PartsDerive, IsDerived}
use Rattle.svr_seq.proofs.Joined.{Joins, TaskDerives, TasksDerive, split, parts_derive}
use Rattle.svr_seq.proofs.Taken.{TakesBranch, rule_chosen, branch_taken}
use Rattle.svr_seq.proofs.Placed.{IsPlaced, ArePlaced, both_placed, acts_placed, some_weight, rule_placed}

-- one that is nothing behind it
joined_nothing : (A : List ℕ → Type 0) (names : List ℕ) → Joins A (λ ys. ys ≡ []) names → A names
joined_nothing A names h =
    let whole : h.first ++ h.rest ≡ names = sym h.is in
    subst A (sym (ap (λ (l : List ℕ). h.first ++ l) h.after ∙ append-nil h.first) ∙ whole) h.ahead

-- what a `randcase` derives under a word
module _ (s : SeqTerm) (bs : BranchTerms) where
  by_taken : (taken : Option ActTerm) (names : List ℕ) → TakesBranch bs taken → TasksDerive s (map statement (option_to_list taken)) names → ActDerives (choose bs) names
  by_taken taken names t h =
      let P : Option ActTerm → Type 0 = λ o. TasksDerive s (map statement (option_to_list o)) names in
      by_branch t.weight t.act t.among t.weighty (joined_nothing (ActDerives t.act) names (subst P t.has h))

  choice_derives : (word : ℕ) (names : List ℕ) → TasksDerive s (map statement (option_to_list (branch_under word bs))) names → ActDerives (choose bs) names
  choice_derives word names = by (branch_weights bs == 0) refl
    where
      by : (b : Bool) → (branch_weights bs == 0) ≡ b → TasksDerive s (map statement (option_to_list (if b then None else branch_at bs (word % branch_weights bs)))) names → ActDerives (choose bs) names
      by true e h = subst (ActDerives (choose bs)) (sym h) (by_no_branch (eqb-true (branch_weights bs) 0 e))
      by false e h =
          let some = eqb-false (branch_weights bs) 0 e in
          by_taken (branch_at bs (word % branch_weights bs)) names (branch_taken bs (word % branch_weights bs) (omega (arith, some))) h

module _ (s : SeqTerm) (sound : IsSound s) where
  abbrev placed : List Task → Type 0
  placed ts = ArePlaced (length s.prods) ts

  -- a task derives what it prints, and behind it what the tasks in its place derive
  task_derives : (t : Task) (word : ℕ) (names : List ℕ) → IsPlaced (length s.prods) t → TasksDerive s (tasks_under s word t) names → TaskDerives s t (printed t ++ names)
  task_derives (expansion p) word names at h =
      let taken = rule_chosen (rules_of s p) word (some_weight s sound p at) in
      let P : List PartTerm → Type 0 = λ xs. PartsDerive s xs names in
      by_rule taken.rule taken.among taken.weighty (subst P (sym taken.has) (parts_derive s (rule_under word (rules_of s p)) names h))
  task_derives (statement (print name)) word names at h = subst (ActDerives (print name)) (ap (λ (l : List ℕ). name ∷ l) (sym h)) by_print
  task_derives (statement (choose bs)) word names at h = choice_derives s bs word names h

  -- what is put in its place can be expanded too
  stays_placed : (t : Task) (word : ℕ) → IsPlaced (length s.prods) t → placed (tasks_under s word t)
  stays_placed (expansion p) word at = rule_placed s sound p (rule_under word (rules_of s p)) at (rule_chosen (rules_of s p) word (some_weight s sound p at))
  stays_placed (statement (print name)) word at = tt
  stays_placed (statement (choose bs)) word at = acts_placed (length s.prods) (option_to_list (branch_under word bs))

  -- the names behind those that there were
  pub record Adds (ts : List Task) (names ending : List ℕ) : Type 0 where
    pub more : List ℕ
    pub derived : TasksDerive s ts more
    pub is : ending ≡ names ++ more

  adds_first : (t : Task) (ts : List Task) (word : ℕ) (names ending : List ℕ) → IsPlaced (length s.prods) t → Adds (tasks_under s word t ++ ts) (names ++ printed t) ending → Adds (t ∷ ts) names ending
  adds_first t ts word names ending at h =
      let j = split s (tasks_under s word t) ts h.more h.derived in
      let own = printed t ++ j.first in
      record {
        more = own ++ j.rest;
        derived = record { first = own; rest = j.rest; ahead = task_derives t word j.first at j.ahead; after = j.after; is = refl };
        is = h.is ∙ ap (λ (l : List ℕ). (names ++ printed t) ++ l) j.is ∙ append_assoc names (printed t) (j.first ++ j.rest) ∙ ap (λ (l : List ℕ). names ++ l) (sym (append_assoc (printed t) j.first j.rest));
      }

  names_derived : (units : ℕ) (ts : List Task) (names : List ℕ) (g : Lcg) (ending : List ℕ) → placed ts → (line_from s units ts names g).end ≡ Names ending → Adds ts names ending
  unfolding line_from
  names_derived zero [] names g ending at e = record { more = []; derived = refl; is = (let same : ending ≡ names = cc in same) ∙ sym (append-nil names) }
  names_derived (suc units) [] names g ending at e = record { more = []; derived = refl; is = (let same : ending ≡ names = cc in same) ∙ sym (append-nil names) }
  names_derived zero (t ∷ ts) names g ending at e = absurd (cc)
  names_derived (suc units) (t ∷ ts) names g ending at e =
      adds_first t ts (word_of g 0) names ending at.0
      (names_derived units (tasks_under s (word_of g 0) t ++ ts) (names ++ printed t) (after (words_for s t) g) ending (both_placed (length s.prods) (tasks_under s (word_of g 0) t) ts (stays_placed t (word_of g 0) at.0) at.1) e)

  line_derived : (g : Lcg) (ending : List ℕ) → (line_of s g).end ≡ Names ending → Derives s s.start ending
  line_derived g ending e =
      let h = names_derived UNIT_LIMIT (expansion s.start ∷ []) [] g ending (sound.starts, tt) e in
      subst (Derives s s.start) (sym h.is) (joined_nothing (Derives s s.start) h.more h.derived)

  pub ends_derived : (g : Lcg) (end : SeqEnd) → end ≡ (line_of s g).end → IsDerived s end
  ends_derived g (Names names) e = line_derived g names (sym e)
  ends_derived g Limit e = tt
