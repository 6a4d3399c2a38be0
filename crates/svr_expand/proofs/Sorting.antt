-- Findings, taken from the last to the first.
use Rattle.std.proofs.Common.{◌≡◌, ℕ, Bool, true, false, ◌||◌, refl, sym, ◌∙◌, ap, List, [], ◌∷◌, ◌++◌, reverse, append_assoc, append-nil}
use Rattle.std.specs.Prelude.{if◌then◌else◌}
use Rattle.std.specs.List.{list_any}
use Rattle.std.proofs.lemmas.List.{map-append, reverse-append}
use Rattle.std.proofs.lemmas.List.Folds.{list_any-append}
use Rattle.svr_typed.specs.ExprTerm.{ExprTerm}
use Rattle.svr_mention.specs.declared.mention.Mention.{Mention}
use Rattle.svr_expand.specs.declared.finding.Finding.{Finding}
use Rattle.svr_expand.specs.Expanded.{FindingTerm, asked, wished, gone, finding_term, findings, targets_one, asked_one, wished_one, is_targeted_by, is_taken_back, targets_in, wished_exprs, asked_exprs}

module _ (size : ℕ → ℕ) where
  -- the live soft ones among these, where some targets stand behind them
  abbrev pub wished_before : List Mention → List FindingTerm → List ExprTerm
  wished_before ts [] = []
  wished_before ts (asked e ∷ fs) = wished_before ts fs
  wished_before ts (wished e ms ∷ fs) = wished_before ts fs ++ (if is_taken_back size (targets_in size fs) ms || is_taken_back size ts ms then [] else e ∷ [])
  wished_before ts (gone t ∷ fs) = wished_before ts fs

  or-false : (b : Bool) → (b || false) ≡ b
  or-false true = refl
  or-false false = refl

  pub none_behind : (fs : List FindingTerm) → wished_before [] fs ≡ wished_exprs size fs
  none_behind [] = refl
  none_behind (asked e ∷ fs) = none_behind fs
  none_behind (wished e ms ∷ fs) = rw (none_behind fs, or-false (is_taken_back size (targets_in size fs) ms)) refl
  none_behind (gone t ∷ fs) = none_behind fs

  no_target : (fs : List FindingTerm) (f : FindingTerm) → targets_in size (f ∷ []) ≡ [] → targets_in size (fs ++ f ∷ []) ≡ targets_in size fs
  no_target [] f h = h
  no_target (asked e ∷ fs) f h = no_target fs f h
  no_target (wished e ms ∷ fs) f h = no_target fs f h
  no_target (gone t ∷ fs) f h = ap (λ ts. t ∷ ts) (no_target fs f h)

  one_target : (fs : List FindingTerm) (t : Mention) → targets_in size (fs ++ gone t ∷ []) ≡ targets_in size fs ++ t ∷ []
  one_target [] t = refl
  one_target (asked e ∷ fs) t = one_target fs t
  one_target (wished e ms ∷ fs) t = one_target fs t
  one_target (gone u ∷ fs) t = ap (λ ts. u ∷ ts) (one_target fs t)

  taken_more : (ts : List Mention) (t : Mention) (ms : List Mention) → is_taken_back size (ts ++ t ∷ []) ms ≡ (is_taken_back size ts ms || is_taken_back size (t ∷ []) ms)
  taken_more ts t ms = list_any-append (λ u. list_any (is_targeted_by size u) ms) ts (t ∷ [])

  or-turn : (p q r : Bool) → ((p || q) || r) ≡ (p || (r || q))
  or-turn true q r = refl
  or-turn false true true = refl
  or-turn false true false = refl
  or-turn false false true = refl
  or-turn false false false = refl

  pub behind_asked : (ts : List Mention) (fs : List FindingTerm) (e : ExprTerm) → wished_before ts (fs ++ asked e ∷ []) ≡ wished_before ts fs
  behind_asked ts [] e = refl
  behind_asked ts (asked d ∷ fs) e = behind_asked ts fs e
  behind_asked ts (wished d ms ∷ fs) e = rw (behind_asked ts fs e, no_target fs (asked e) refl) refl
  behind_asked ts (gone t ∷ fs) e = behind_asked ts fs e

  pub behind_gone : (ts : List Mention) (fs : List FindingTerm) (t : Mention) → wished_before ts (fs ++ gone t ∷ []) ≡ wished_before (ts ++ t ∷ []) fs
  behind_gone ts [] t = refl
  behind_gone ts (asked d ∷ fs) t = behind_gone ts fs t
  behind_gone ts (wished d ms ∷ fs) t =
      rw (
        behind_gone ts fs t,
        one_target fs t,
        taken_more (targets_in size fs) t ms,
        taken_more ts t ms,
        or-turn (is_taken_back size (targets_in size fs) ms) (is_taken_back size (t ∷ []) ms) (is_taken_back size ts ms),
      ) refl
  behind_gone ts (gone u ∷ fs) t = behind_gone ts fs t

  pub behind_wished : (ts : List Mention) (fs : List FindingTerm) (e : ExprTerm) (ms : List Mention)
      → wished_before ts (fs ++ wished e ms ∷ []) ≡ (if is_taken_back size ts ms then [] else e ∷ []) ++ wished_before ts fs
  behind_wished ts [] e ms = sym (append-nil (if is_taken_back size ts ms then [] else e ∷ []))
  behind_wished ts (asked d ∷ fs) e ms = behind_wished ts fs e ms
  behind_wished ts (wished d ns ∷ fs) e ms =
      rw (behind_wished ts fs e ms, no_target fs (wished e ms) refl)
      (append_assoc (if is_taken_back size ts ms then [] else e ∷ []) (wished_before ts fs) (if is_taken_back size (targets_in size fs) ns || is_taken_back size ts ns then [] else d ∷ []))
  behind_wished ts (gone t ∷ fs) e ms = behind_wished ts fs e ms

asked_append : (fs gs : List FindingTerm) → asked_exprs (fs ++ gs) ≡ asked_exprs fs ++ asked_exprs gs
asked_append [] gs = refl
asked_append (asked e ∷ fs) gs = ap (λ es. e ∷ es) (asked_append fs gs)
asked_append (wished e ms ∷ fs) gs = asked_append fs gs
asked_append (gone t ∷ fs) gs = asked_append fs gs

-- one turn

pub hard_asked : (fs : List FindingTerm) (e : ExprTerm) (es : List ExprTerm) → asked_exprs fs ++ reverse (es ++ e ∷ []) ≡ asked_exprs (fs ++ asked e ∷ []) ++ reverse es
hard_asked fs e es = rw (asked_append fs (asked e ∷ []), reverse-append es (e ∷ [])) (sym (append_assoc (asked_exprs fs) (e ∷ []) (reverse es)))

pub hard_gone : (fs : List FindingTerm) (t : Mention) → asked_exprs (fs ++ gone t ∷ []) ≡ asked_exprs fs
hard_gone fs t = asked_append fs (gone t ∷ []) ∙ append-nil (asked_exprs fs)

pub hard_wished : (fs : List FindingTerm) (e : ExprTerm) (ms : List Mention) → asked_exprs (fs ++ wished e ms ∷ []) ≡ asked_exprs fs
hard_wished fs e ms = asked_append fs (wished e ms ∷ []) ∙ append-nil (asked_exprs fs)

-- one turn, of any finding

hard_one : (fs : List FindingTerm) (f : FindingTerm) (es : List ExprTerm) → asked_exprs fs ++ reverse (es ++ asked_one f) ≡ asked_exprs (fs ++ f ∷ []) ++ reverse es
hard_one fs (asked e) es = hard_asked fs e es
hard_one fs (wished e ms) es = (λ k. asked_exprs fs ++ reverse (append-nil es k)) ∙ ap (λ xs. xs ++ reverse es) (sym (hard_wished fs e ms))
hard_one fs (gone t) es = (λ k. asked_exprs fs ++ reverse (append-nil es k)) ∙ ap (λ xs. xs ++ reverse es) (sym (hard_gone fs t))

soft_one : (size : ℕ → ℕ) (ts : List Mention) (fs : List FindingTerm) (f : FindingTerm) → wished_one size ts f ++ wished_before size (ts ++ targets_one f) fs ≡ wished_before size ts (fs ++ f ∷ [])
soft_one size ts fs (asked e) = ap (λ us. wished_before size us fs) (append-nil ts) ∙ sym (behind_asked size ts fs e)
soft_one size ts fs (wished e ms) = ap (λ us. (if is_taken_back size ts ms then [] else e ∷ []) ++ wished_before size us fs) (append-nil ts) ∙ sym (behind_wished size ts fs e ms)
soft_one size ts fs (gone t) = sym (behind_gone size ts fs t)

split : (left rest : List Finding) (x : Finding) → left ≡ rest ++ x ∷ [] → findings left ≡ findings rest ++ finding_term x ∷ []
split left rest x h = ap findings h ∙ map-append finding_term rest (x ∷ [])

pub hard_turn : (left rest : List Finding) (x : Finding) (old new : List ExprTerm) → left ≡ rest ++ x ∷ [] → new ≡ old ++ asked_one (finding_term x)
    → asked_exprs (findings rest) ++ reverse new ≡ asked_exprs (findings left) ++ reverse old
hard_turn left rest x old new h k =
    ap (λ es. asked_exprs (findings rest) ++ reverse es) k ∙ hard_one (findings rest) (finding_term x) old ∙ ap (λ fs. asked_exprs fs ++ reverse old) (sym (split left rest x h))

pub soft_turn : (size : ℕ → ℕ) (left rest : List Finding) (x : Finding) (old new : List ExprTerm) (ts us : List Mention) → left ≡ rest ++ x ∷ [] → new ≡ old ++ wished_one size ts (finding_term x) → us ≡ ts ++ targets_one (finding_term x)
    → new ++ wished_before size us (findings rest) ≡ old ++ wished_before size ts (findings left)
soft_turn size left rest x old new ts us h k t =
    (λ q. k q ++ wished_before size (t q) (findings rest)) ∙ append_assoc old (wished_one size ts (finding_term x)) (wished_before size (ts ++ targets_one (finding_term x)) (findings rest))
    ∙ ap (λ es. old ++ es) (soft_one size ts (findings rest) (finding_term x) ∙ ap (wished_before size ts) (sym (split left rest x h)))
