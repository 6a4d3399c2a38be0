-- Types and classes: what is read spells them.
use Rattle.std.proofs.Common.{◌≡◌, ℕ, zero, suc, ◌≤◌, max, List, [], ◌∷◌, ◌++◌, Option, Some, Ok, refl, sym, ◌∙◌, ap, subst, arith, append_assoc}
use Rattle.std.proofs.lemmas.List.{append-nil}
use Rattle.svr_token.specs.declared.Lexeme.{Lexeme}
use Rattle.svr_token.specs.declared.Lexeme.TheVariants as lexeme
use Rattle.svr_token.specs.declared.Word.TheVariants as w
use Rattle.svr_tree.specs.Tokens.{Tok, FitEach, Each}
use Rattle.svr_tree.specs.declared.script.Top.{Top}
use Rattle.svr_tree.specs.declared.script.Top.TheVariants.{OfType, OfClass}
use Rattle.svr_tree.specs.DeclTree.{TypeTree, ClassTree}
use Rattle.svr_tree.specs.DeclGrammar.{typedef_spelling, class_spelling, IsTypedef, IsClass, greatest, typedef_height, class_height}
use Rattle.svr_tree.specs.ScriptGrammar.{tops_spelling, IsOrder}
use Rattle.svr_reader.specs.Outcomes.{Turn, go, done, Parser, lexeme_at, turns}
use Rattle.svr_reader.specs.Program.{run}
use Rattle.svr_reader.specs.Lists.{◌>>=◌, WithHeight}
use Rattle.svr_reader.specs.Program.{peek}
use Rattle.svr_reader.proofs.Steps.{bind_ok, yields, turn_ok, takes_append}
use Rattle.svr_reader.proofs.Layers.{ReadAs, IsSound}
use Rattle.svr_parse.specs.ScriptRules.{Part, a_typedef, a_class, Ans, Rule, Tops, no_tops, with_type, with_class, top_by, tops}
use Rattle.svr_parse.proofs.Parts.{type_spells, class_spells, type_before, class_before}

abbrev pub tall_typedef : TypeTree → ℕ
tall_typedef d = typedef_height d.definition

-- types and classes behind those of s
pub record TopsRead (r : ℕ) (s : WithHeight Tops) (i : List Tok) (y : WithHeight Tops) (j : List Tok) : Type 0 where
  pub ts : List TypeTree
  pub cs : List ClassTree
  pub order : List Top
  pub all_types : y.0.types ≡ s.0.types ++ ts
  pub all_classes : y.0.classes ≡ s.0.classes ++ cs
  pub all_order : y.0.order ≡ s.0.order ++ order
  pub takes : FitEach i (tops_spelling ts cs order) j
  pub are_types : Each IsTypedef ts
  pub are_classes : Each IsClass cs
  pub ordered : IsOrder ts cs order
  pub height : y.1 ≡ max s.1 (max (greatest tall_typedef ts) (greatest class_height cs))
  pub low : s.1 ≤ r → y.1 ≤ r

module _ (most r : ℕ) (sub : (k : Part) → Parser (Ans k)) (types : IsSound typedef_spelling IsTypedef tall_typedef r (sub a_typedef)) (classes : IsSound class_spelling IsClass class_height r (sub a_class)) where
  abbrev R : {A : Type 0} → Rule A → Parser A
  R p = run most r sub p

  abbrev Step : Type 0
  Step = Turn (WithHeight Tops) (WithHeight Tops)

  abbrev step : WithHeight Tops → Parser Step
  step s = R (peek >>= top_by s)

  top_by_ok : {G : Type 0} (s : WithHeight Tops) (q : Option Lexeme) (i : List Tok) (v : Step) (j : List Tok) → R (top_by s q) i ≡ Ok (v, j)
      → ((x : WithHeight TypeTree) → ReadAs typedef_spelling IsTypedef tall_typedef r i x j → v ≡ go (with_type s x) → G)
      → ((x : WithHeight ClassTree) → ReadAs class_spelling IsClass class_height r i x j → v ≡ go (with_class s x) → G) → (v ≡ done s → i ≡ j → G) → G
  top_by_ok s (Some (lexeme.Word w.TypeDef)) i v j h a b c = bind_ok (sub a_typedef i) _ (v, j) h (λ x mid e k.
      let both : ◌≡◌ {A = Step × List Tok} (go (with_type s x), mid) (v, j) = cc in
      a x (subst (λ z. ReadAs typedef_spelling IsTypedef tall_typedef r i x z) (ap (λ z. z.1) both) (types.at i x mid e)) (sym (ap (λ z. z.0) both)))
  top_by_ok s (Some (lexeme.Word w.Class)) i v j h a b c = bind_ok (sub a_class i) _ (v, j) h (λ x mid e k.
      let both : ◌≡◌ {A = Step × List Tok} (go (with_class s x), mid) (v, j) = cc in
      b x (subst (λ z. ReadAs class_spelling IsClass class_height r i x z) (ap (λ z. z.1) both) (classes.at i x mid e)) (sym (ap (λ z. z.0) both)))
  top_by_ok s _ i v j h a b c = let both : ◌≡◌ {A = Step × List Tok} (done s, i) (v, j) = cc in c (sym (ap (λ z. z.0) both)) (ap (λ z. z.1) both)

  one_type : (s : WithHeight Tops) (x : WithHeight TypeTree) (i mid : List Tok) (y : WithHeight Tops) (j : List Tok) → ReadAs typedef_spelling IsTypedef tall_typedef r i x mid → TopsRead r (with_type s x) mid y j → TopsRead r s i y j
  one_type s x i mid y j t d = record {
    ts = x.0 ∷ d.ts;
    cs = d.cs;
    order = OfType ∷ d.order;
    all_types = d.all_types ∙ append_assoc s.0.types (x.0 ∷ []) d.ts;
    all_classes = d.all_classes;
    all_order = d.all_order ∙ append_assoc s.0.order (OfType ∷ []) d.order;
    takes = subst (λ es. FitEach i es j) (sym (type_spells x.0 d.ts d.cs d.order)) (takes_append i (typedef_spelling x.0) (tops_spelling d.ts d.cs d.order) mid j t.takes d.takes);
    are_types = (t.is, d.are_types);
    are_classes = d.are_classes;
    ordered = type_before x.0 d.ts d.cs d.order d.ordered;
    height = omega (arith, d.height, t.height);
    low = λ l. d.low (omega (arith, l, t.low));
  }

  one_class : (s : WithHeight Tops) (x : WithHeight ClassTree) (i mid : List Tok) (y : WithHeight Tops) (j : List Tok) → ReadAs class_spelling IsClass class_height r i x mid → TopsRead r (with_class s x) mid y j → TopsRead r s i y j
  one_class s x i mid y j t d = record {
    ts = d.ts;
    cs = x.0 ∷ d.cs;
    order = OfClass ∷ d.order;
    all_types = d.all_types;
    all_classes = d.all_classes ∙ append_assoc s.0.classes (x.0 ∷ []) d.cs;
    all_order = d.all_order ∙ append_assoc s.0.order (OfClass ∷ []) d.order;
    takes = subst (λ es. FitEach i es j) (sym (class_spells x.0 d.ts d.cs d.order)) (takes_append i (class_spelling x.0) (tops_spelling d.ts d.cs d.order) mid j t.takes d.takes);
    are_types = d.are_types;
    are_classes = (t.is, d.are_classes);
    ordered = class_before x.0 d.ts d.cs d.order d.ordered;
    height = omega (arith, d.height, t.height);
    low = λ l. d.low (omega (arith, l, t.low));
  }

  no_more : (s : WithHeight Tops) (i : List Tok) → TopsRead r s i s i
  no_more s i = record {
    ts = [];
    cs = [];
    order = [];
    all_types = sym (append-nil s.0.types);
    all_classes = sym (append-nil s.0.classes);
    all_order = sym (append-nil s.0.order);
    takes = refl;
    are_types = tt;
    are_classes = tt;
    ordered = tt;
    height = omega arith;
    low = λ l. l;
  }

  turns_sound : (n : ℕ) (s : WithHeight Tops) (i : List Tok) (y : WithHeight Tops × List Tok) → turns n step s i ≡ Ok y → TopsRead r s i y.0 y.1
  turns_sound zero s i y h = absurd (cc)
  turns_sound (suc n) s i y h = turn_ok (step s i) (turns n step) y h
      (λ s2 j e g. top_by_ok s (lexeme_at i) i (go s2) j e
      (λ x t is. let same : s2 ≡ with_type s x = cc in one_type s x i j y.0 y.1 t (turns_sound n (with_type s x) j y (subst (λ z. turns n step z j ≡ Ok y) same g)))
      (λ x t is. let same : s2 ≡ with_class s x = cc in one_class s x i j y.0 y.1 t (turns_sound n (with_class s x) j y (subst (λ z. turns n step z j ≡ Ok y) same g)))
      (λ is at. absurd (cc)))
      (λ a j e g. top_by_ok s (lexeme_at i) i (done a) j e
      (λ x t is. absurd (cc))
      (λ x t is. absurd (cc))
      (λ is at. let same : a ≡ s = cc in yields (TopsRead r s i) a j y g (subst (λ z. TopsRead r s i z j) (sym same) (subst (λ z. TopsRead r s i s z) at (no_more s i)))))

  pub tops_sound : (i : List Tok) (y : WithHeight Tops) (j : List Tok) → R tops i ≡ Ok (y, j) → TopsRead r no_tops i y j
  unfolding tops
  tops_sound i y j h = turns_sound most no_tops i (y, j) h
