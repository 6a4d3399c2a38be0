-- Types and classes are read.
use Rattle.std.proofs.Common.{◌≡◌, ℕ, zero, suc, ◌+◌, ◌<◌, ◌≤◌, max, Bool, true, false, List, [], ◌∷◌, ◌++◌, length, Option, Some, Ok, refl, sym, ◌∙◌, ap, subst, arith, append_assoc}
use Rattle.std.proofs.lemmas.List.{append-nil}
use Rattle.svr_token.specs.declared.Lexeme.{Lexeme}
use Rattle.svr_token.specs.declared.Lexeme.TheVariants as lexeme
use Rattle.svr_token.specs.declared.Word.TheVariants as w
use Rattle.svr_token.specs.declared.Mark.TheVariants as m
use Rattle.svr_tree.specs.Tokens.{Tok, FitEach, Each}
use Rattle.svr_tree.specs.declared.script.Top.{Top}
use Rattle.svr_tree.specs.declared.script.Top.TheVariants.{OfType, OfClass}
use Rattle.svr_tree.specs.DeclTree.{TypeTree, ClassTree}
use Rattle.svr_tree.specs.DeclGrammar.{typedef_spelling, class_spelling, IsTypedef, IsClass, greatest, class_height}
use Rattle.svr_tree.specs.ScriptGrammar.{tops_spelling, IsOrder}
use Rattle.svr_reader.specs.Outcomes.{Turn, go, done, Parser, lexeme_at, turned, turns}
use Rattle.svr_reader.specs.declared.fixed.Fixed.TheVariants as f
use Rattle.svr_reader.specs.Program.{peek, run}
use Rattle.svr_reader.specs.Steps.{is_fixed}
use Rattle.svr_reader.specs.Lists.{◌>>=◌, WithHeight}
use Rattle.svr_reader.proofs.Live.{AnyToken}
use Rattle.svr_reader.proofs.Steps.{bind_is, takes_parts, takes_length}
use Rattle.svr_reader.proofs.Layers.{IsComplete}
use Rattle.svr_parse.specs.ScriptRules.{Part, a_typedef, a_class, Ans, Rule, Tops, no_tops, with_type, with_class, top_by, tops}
use Rattle.svr_parse.proofs.Parts.{type_spells, class_spells, type_behind, class_behind}
use Rattle.svr_parse.proofs.SoundTops.{tall_typedef}

-- the words that begin a module or program
abbrev pub starts_unit : Option Lexeme → Bool
starts_unit (Some (lexeme.Word w.Module)) = true
starts_unit (Some (lexeme.Word w.Program)) = true
starts_unit _ = false

abbrev pub NotColon : Option Lexeme → Type 0
NotColon q = is_fixed (f.Mark m.Colon) q ≡ false

pub unit_no_colon : (q : Option Lexeme) → starts_unit q ≡ true → NotColon q
unit_no_colon (Some (lexeme.Word l)) h = refl
unit_no_colon _ h = absurd (cc)

first_of_type : (t : TypeTree) (i rest : List Tok) → FitEach i (typedef_spelling t) rest → lexeme_at i ≡ Some (lexeme.Word w.TypeDef)
first_of_type t [] rest h = absurd h
first_of_type t (u ∷ i) rest h = ap Some h.0

first_of_class : (c : ClassTree) (i rest : List Tok) → FitEach i (class_spelling c) rest → lexeme_at i ≡ Some (lexeme.Word w.Class)
first_of_class c [] rest h = absurd h
first_of_class c (u ∷ i) rest h = ap Some h.0

type_fills : (t : TypeTree) → 1 ≤ length (typedef_spelling t)
type_fills t = omega arith

class_fills : (c : ClassTree) → 1 ≤ length (class_spelling c)
class_fills c = omega arith

-- what stands behind a class is no closing label
follows : (ts : List TypeTree) (cs : List ClassTree) (order : List Top) (i rest : List Tok) → IsOrder ts cs order → FitEach i (tops_spelling ts cs order) rest → starts_unit (lexeme_at rest) ≡ true → NotColon (lexeme_at i)
follows [] [] [] i rest o h u = unit_no_colon (lexeme_at i) (subst (λ z. starts_unit (lexeme_at z) ≡ true) (sym h) u)
follows [] (c ∷ cs) [] i rest o h u = absurd o
follows (t ∷ ts) cs [] i rest o h u = absurd o
follows [] [] (OfType ∷ order) i rest o h u = absurd o
follows [] (c ∷ cs) (OfType ∷ order) i rest o h u = absurd o
follows (t ∷ ts) cs (OfType ∷ order) i rest o h u =
    let p = takes_parts i (typedef_spelling t) (tops_spelling ts cs order) rest (subst (λ es. FitEach i es rest) (type_spells t ts cs order) h) in
    subst NotColon (sym (first_of_type t i p.0 p.1)) refl
follows [] [] (OfClass ∷ order) i rest o h u = absurd o
follows (t ∷ ts) [] (OfClass ∷ order) i rest o h u = absurd o
follows ts (c ∷ cs) (OfClass ∷ order) i rest o h u =
    let p = takes_parts i (class_spelling c) (tops_spelling ts cs order) rest (subst (λ es. FitEach i es rest) (class_spells c ts cs order) h) in
    subst NotColon (sym (first_of_class c i p.0 p.1)) refl

module _ (most r : ℕ) (sub : (k : Part) → Parser (Ans k)) (types : IsComplete typedef_spelling IsTypedef tall_typedef most r AnyToken (sub a_typedef)) (classes : IsComplete class_spelling IsClass class_height most r NotColon (sub a_class)) where
  abbrev R : {A : Type 0} → Rule A → Parser A
  R p = run most r sub p

  abbrev step : WithHeight Tops → Parser (Turn (WithHeight Tops) (WithHeight Tops))
  step s = R (peek >>= top_by s)

  -- s and more
  abbrev pub longer : WithHeight Tops → List TypeTree → List ClassTree → List Top → WithHeight Tops
  longer s ts cs order = (record { types = s.0.types ++ ts; classes = s.0.classes ++ cs; order = s.0.order ++ order }, max s.1 (max (greatest tall_typedef ts) (greatest class_height cs)))

  stops : (s : WithHeight Tops) (q : Option Lexeme) (i : List Tok) → starts_unit q ≡ true → R (top_by s q) i ≡ Ok (done s, i)
  stops s (Some (lexeme.Word w.Module)) i h = refl
  stops s (Some (lexeme.Word w.Program)) i h = refl
  stops s _ i h = absurd (cc)

  nothing_more : (s : WithHeight Tops) → longer s [] [] [] ≡ s
  nothing_more s =
      let d : max s.1 (max 0 0) ≡ s.1 = omega arith in
      ap (λ z. (record { types = z; classes = s.0.classes ++ []; order = s.0.order ++ [] }, max s.1 (max 0 0))) (append-nil s.0.types)
      ∙ ap (λ z. (record { types = s.0.types; classes = z; order = s.0.order ++ [] }, max s.1 (max 0 0))) (append-nil s.0.classes)
      ∙ ap (λ z. (record { types = s.0.types; classes = s.0.classes; order = z }, max s.1 (max 0 0))) (append-nil s.0.order)
      ∙ ap (λ z. (s.0, z)) d

  type_first : (s : WithHeight Tops) (t : TypeTree) (ts : List TypeTree) (cs : List ClassTree) (order : List Top) → longer (with_type s (t, tall_typedef t)) ts cs order ≡ longer s (t ∷ ts) cs (OfType ∷ order)
  type_first s t ts cs order =
      let a = append_assoc s.0.types (t ∷ []) ts in let c = append_assoc s.0.order (OfType ∷ []) order in
      let d : max (max s.1 (tall_typedef t)) (max (greatest tall_typedef ts) (greatest class_height cs)) ≡ max s.1 (max (max (tall_typedef t) (greatest tall_typedef ts)) (greatest class_height cs)) = omega arith in cc

  class_first : (s : WithHeight Tops) (t : ClassTree) (ts : List TypeTree) (cs : List ClassTree) (order : List Top) → longer (with_class s (t, class_height t)) ts cs order ≡ longer s ts (t ∷ cs) (OfClass ∷ order)
  class_first s t ts cs order =
      let a = append_assoc s.0.classes (t ∷ []) cs in let c = append_assoc s.0.order (OfClass ∷ []) order in
      let d : max (max s.1 (class_height t)) (max (greatest tall_typedef ts) (greatest class_height cs)) ≡ max s.1 (max (greatest tall_typedef ts) (max (class_height t) (greatest class_height cs))) = omega arith in cc

  turns_complete : (n : ℕ) (s : WithHeight Tops) (ts : List TypeTree) (cs : List ClassTree) (order : List Top) (i rest : List Tok) → length i < n + length rest → length i ≤ most → IsOrder ts cs order → Each IsTypedef ts → Each IsClass cs
      → greatest tall_typedef ts ≤ r → greatest class_height cs ≤ r → FitEach i (tops_spelling ts cs order) rest → starts_unit (lexeme_at rest) ≡ true → turns n step s i ≡ Ok (longer s ts cs order, rest)
  turns_complete zero s ts cs order i rest full few o a b low low2 h u = absurd (omega (arith, full, takes_length i (tops_spelling ts cs order) rest h))
  turns_complete (suc n) s [] [] [] i rest full few o a b low low2 h u =
      bind_is (step s i) (turned (turns n step)) (done s) i _ (stops s (lexeme_at i) i (subst (λ z. starts_unit (lexeme_at z) ≡ true) (sym h) u))
      (ap (λ z. Ok (s, z)) h ∙ ap (λ z. Ok (z, rest)) (sym (nothing_more s)))
  turns_complete (suc n) s [] (c ∷ cs) [] i rest full few o a b low low2 h u = absurd o
  turns_complete (suc n) s (t ∷ ts) cs [] i rest full few o a b low low2 h u = absurd o
  turns_complete (suc n) s [] [] (OfType ∷ order) i rest full few o a b low low2 h u = absurd o
  turns_complete (suc n) s [] (c ∷ cs) (OfType ∷ order) i rest full few o a b low low2 h u = absurd o
  turns_complete (suc n) s (t ∷ ts) cs (OfType ∷ order) i rest full few o a b low low2 h u =
      let p = takes_parts i (typedef_spelling t) (tops_spelling ts cs order) rest (subst (λ es. FitEach i es rest) (type_spells t ts cs order) h) in
      let long = takes_length i (typedef_spelling t) p.0 p.1 in
      let some = type_fills t in
      let q = first_of_type t i p.0 p.1 in
      bind_is (step s i) (turned (turns n step)) (go (with_type s (t, tall_typedef t))) p.0 _
      (ap (λ z. R (top_by s z) i) q ∙ bind_is (sub a_typedef i) _ (t, tall_typedef t) p.0 _ (types.at t i p.0 (omega (arith, few)) a.0 (omega (arith, low)) p.1 tt) refl)
      (turns_complete n (with_type s (t, tall_typedef t)) ts cs order p.0 rest (omega (arith, full, long, some)) (omega (arith, few, long)) (type_behind t ts cs order o) a.1 b (omega (arith, low)) low2 p.2 u
      ∙ ap (λ z. Ok (z, rest)) (type_first s t ts cs order))
  turns_complete (suc n) s [] [] (OfClass ∷ order) i rest full few o a b low low2 h u = absurd o
  turns_complete (suc n) s (t ∷ ts) [] (OfClass ∷ order) i rest full few o a b low low2 h u = absurd o
  turns_complete (suc n) s ts (c ∷ cs) (OfClass ∷ order) i rest full few o a b low low2 h u =
      let p = takes_parts i (class_spelling c) (tops_spelling ts cs order) rest (subst (λ es. FitEach i es rest) (class_spells c ts cs order) h) in
      let long = takes_length i (class_spelling c) p.0 p.1 in
      let some = class_fills c in
      let q = first_of_class c i p.0 p.1 in
      let o2 = class_behind c ts cs order o in
      bind_is (step s i) (turned (turns n step)) (go (with_class s (c, class_height c))) p.0 _
      (ap (λ z. R (top_by s z) i) q ∙ bind_is (sub a_class i) _ (c, class_height c) p.0 _ (classes.at c i p.0 (omega (arith, few)) b.0 (omega (arith, low2)) p.1 (follows ts cs order p.0 rest o2 p.2 u)) refl)
      (turns_complete n (with_class s (c, class_height c)) ts cs order p.0 rest (omega (arith, full, long, some)) (omega (arith, few, long)) o2 a b.1 low (omega (arith, low2)) p.2 u
      ∙ ap (λ z. Ok (z, rest)) (class_first s c ts cs order))

  pub tops_complete : (ts : List TypeTree) (cs : List ClassTree) (order : List Top) (i rest : List Tok) → length i ≤ most → 1 ≤ length rest → IsOrder ts cs order → Each IsTypedef ts → Each IsClass cs
      → greatest tall_typedef ts ≤ r → greatest class_height cs ≤ r → FitEach i (tops_spelling ts cs order) rest → starts_unit (lexeme_at rest) ≡ true
      → R tops i ≡ Ok ((record { types = ts; classes = cs; order = order }, max (greatest tall_typedef ts) (greatest class_height cs)), rest)
  unfolding tops
  tops_complete ts cs order i rest few some o a b low low2 h u = turns_complete most no_tops ts cs order i rest (omega (arith, few, some)) few o a b low low2 h u
      ∙ (let d : max 0 (max (greatest tall_typedef ts) (greatest class_height cs)) ≡ max (greatest tall_typedef ts) (greatest class_height cs) = omega arith in
      ap (λ z. Ok ((record { types = ts; classes = cs; order = order }, z), rest)) d)
