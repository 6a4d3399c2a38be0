-- What the grammar has as a type is read there.
use Rattle.std.proofs.Common.{◌≡◌, ℕ, ◌+◌, ◌≤◌, true, false, List, [], ◌∷◌, ◌++◌, length, Option, Some, None, Ok, refl, ◌∙◌, ap, arith}
use Rattle.svr_token.specs.declared.Lexeme.{Lexeme}
use Rattle.svr_token.specs.declared.Lexeme.TheVariants as lexeme
use Rattle.svr_token.specs.declared.Word.TheVariants as w
use Rattle.svr_token.specs.declared.Mark.TheVariants as m
use Rattle.svr_tree.specs.declared.decl.VectorKind.{VectorKind}
use Rattle.svr_tree.specs.declared.decl.VectorKind.TheVariants as vector_kind
use Rattle.svr_tree.specs.declared.decl.AtomKind.{AtomKind}
use Rattle.svr_tree.specs.declared.decl.AtomKind.TheVariants as atom_kind
use Rattle.svr_tree.specs.declared.decl.Signing.{Signing}
use Rattle.svr_tree.specs.declared.decl.Signing.TheVariants as sign
use Rattle.svr_tree.specs.Tokens.{Tok, FitEach, mark}
use Rattle.svr_tree.specs.ExprTree.{ExprTree}
use Rattle.svr_tree.specs.ExprGrammar.{expr_spelling, IsExpr, expr_height}
use Rattle.svr_tree.specs.DeclTree.{PackedRangeTree, IntegerTypeTree, vector, atom, DataTypeTree, integer, named}
use Rattle.svr_tree.specs.DeclGrammar.{vector_word, atom_word, signing_spelling, packed_spelling, integer_spelling, type_spelling, initial_spelling, base_spelling, IsOptionalExpr, IsPacked, IsInteger, IsType, IsBase, optional_height, packed_height, integer_height, type_height, base_height}
use Rattle.svr_reader.specs.Lists.{name}
use Rattle.svr_reader.specs.Outcomes.{Parser, lexeme_at}
use Rattle.svr_reader.specs.declared.fixed.Fixed.TheVariants as f
use Rattle.svr_reader.specs.Program.{bind, peek, run, expect}
use Rattle.svr_reader.specs.Steps.{sees}
use Rattle.svr_reader.proofs.Steps.{bind_is, takes_parts, takes_less, lexeme_on, choose_true, choose_false, expects, led_no, led_yes, name_complete}
use Rattle.svr_reader.proofs.Layers.{IsComplete}
use Rattle.svr_expr_laws.proofs.CompleteParts.{Before, before_mark}
use Rattle.svr_decl.specs.DeclRules.{Part, an_expression, Ans, Rule, signing_by, signing, packed_on, packed_by, packed, vector_type, atom_type, integer_type_by, integer_type, starts_type, starts_var, written_type, named_type, data_type_by, data_type, initial, written_base, enum_base}
use Rattle.svr_decl_laws.proofs.Before.{is_sign, extends_type, AfterType, AfterBase, EndsInitial}

-- ---- first tokens

pub no_sign : (q : Option Lexeme) → AfterType q → is_sign q ≡ false
no_sign (Some (lexeme.Word w.Signed)) c = absurd (cc)
no_sign (Some (lexeme.Word w.Unsigned)) c = absurd (cc)
no_sign _ c = refl

vector_starts : (k : VectorKind) → starts_type (Some (lexeme.Word (vector_word k))) ≡ true
vector_starts vector_kind.Bit = refl
vector_starts vector_kind.Logic = refl
vector_starts vector_kind.Reg = refl

atom_starts : (k : AtomKind) → starts_type (Some (lexeme.Word (atom_word k))) ≡ true
atom_starts atom_kind.Byte = refl
atom_starts atom_kind.ShortInt = refl
atom_starts atom_kind.Int = refl
atom_starts atom_kind.LongInt = refl
atom_starts atom_kind.Integer = refl

pub integer_first : (t : IntegerTypeTree) (i rest : List Tok) → FitEach i (integer_spelling t) rest → starts_type (lexeme_at i) ≡ true
integer_first (vector at k s p) i rest h = ap starts_type (lexeme_on i rest at (lexeme.Word (vector_word k)) (signing_spelling s ++ packed_spelling p) h) ∙ vector_starts k
integer_first (atom at k s) i rest h = ap starts_type (lexeme_on i rest at (lexeme.Word (atom_word k)) (signing_spelling s) h) ∙ atom_starts k

var_of_type : (q : Option Lexeme) → starts_type q ≡ true → starts_var q ≡ true
var_of_type (Some (lexeme.Name k)) h = refl
var_of_type _ h = h

pub type_first : (t : DataTypeTree) (i rest : List Tok) → FitEach i (type_spelling t) rest → starts_var (lexeme_at i) ≡ true
type_first (integer t) i rest h = var_of_type (lexeme_at i) (integer_first t i rest h)
type_first (named n) [] rest h = absurd h
type_first (named n) (t ∷ i) rest h = ap (λ q. starts_var (Some q)) h.0.1.is

packed_first : (p : Option PackedRangeTree) (i rest : List Tok) → FitEach i (packed_spelling p) rest → AfterType (lexeme_at rest) → is_sign (lexeme_at i) ≡ false
packed_first None i rest h c = ap (λ z. is_sign (lexeme_at z)) h ∙ no_sign (lexeme_at rest) c
packed_first (Some p) i rest h c = ap is_sign (lexeme_on i rest p.at (lexeme.Mark m.OpenBracket) (expr_spelling p.msb ++ mark m.Colon ∷ (expr_spelling p.lsb ++ mark m.CloseBracket ∷ [])) h)

-- ---- where nothing is read

module _ (most r : ℕ) (sub : (k : Part) → Parser (Ans k)) where
  pub signing_stops : (q : Option Lexeme) (i : List Tok) → is_sign q ≡ false → run most r sub (signing_by q) i ≡ Ok (None, i)
  signing_stops (Some (lexeme.Word w.Signed)) i c = absurd (cc)
  signing_stops (Some (lexeme.Word w.Unsigned)) i c = absurd (cc)
  signing_stops _ i c = refl

  pub packed_stops : (q : Option Lexeme) (i : List Tok) → AfterType q → run most r sub (packed_by q) i ≡ Ok ((None, 0), i)
  packed_stops (Some (lexeme.Mark m.OpenBracket)) i c = absurd (cc)
  packed_stops _ i c = refl

module _ (most r : ℕ) (sub : (k : Part) → Parser (Ans k)) (ok : IsComplete expr_spelling IsExpr expr_height most r (Before 1) (sub an_expression)) where
  abbrev R : {A : Type 0} → Rule A → Parser A
  R p = run most r sub p

  -- ---- signs and ranges

  pub signing_complete : (s : Option Signing) (i rest : List Tok) → FitEach i (signing_spelling s) rest → is_sign (lexeme_at rest) ≡ false → R signing i ≡ Ok (s, rest)
  unfolding signing
  signing_complete None i rest h c = signing_stops most r sub (lexeme_at i) i (ap (λ z. is_sign (lexeme_at z)) h ∙ c) ∙ ap (λ z. Ok (None, z)) h
  signing_complete (Some sign.Signed) [] rest h c = absurd h
  signing_complete (Some sign.Signed) (t ∷ i) rest h c = ap (λ q. R (signing_by (Some q)) (t ∷ i)) h.0 ∙ ap (λ z. Ok (Some sign.Signed, z)) h.1
  signing_complete (Some sign.Unsigned) [] rest h c = absurd h
  signing_complete (Some sign.Unsigned) (t ∷ i) rest h c = ap (λ q. R (signing_by (Some q)) (t ∷ i)) h.0 ∙ ap (λ z. Ok (Some sign.Unsigned, z)) h.1

  packed_complete : IsComplete packed_spelling IsPacked packed_height most r AfterType (R packed)
  unfolding packed packed_on
  packed_complete = record { at = by }
    where
      by : (x : Option PackedRangeTree) (i rest : List Tok) → length i ≤ most + length rest → IsPacked x → packed_height x ≤ r → FitEach i (packed_spelling x) rest → AfterType (lexeme_at rest) → R (bind peek packed_by) i ≡ Ok ((x, packed_height x), rest)
      by None i rest few l low h c = packed_stops most r sub (lexeme_at i) i (ap (λ z. extends_type (lexeme_at z)) h ∙ c) ∙ ap (λ z. Ok ((None, 0), z)) h
      by (Some p) [] rest few l low h c = absurd h
      by (Some p) (t ∷ i) rest few l low h c =
          let a = takes_parts i (expr_spelling p.msb) (mark m.Colon ∷ (expr_spelling p.lsb ++ mark m.CloseBracket ∷ [])) rest h.1 in
          let b = takes_parts a.0 (mark m.Colon ∷ []) (expr_spelling p.lsb ++ mark m.CloseBracket ∷ []) rest a.2 in
          let d = takes_parts b.0 (expr_spelling p.lsb) (mark m.CloseBracket ∷ []) rest b.2 in
          let a1 = takes_less i (expr_spelling p.msb) a.0 a.1 in
          let a2 = takes_less a.0 (mark m.Colon ∷ []) b.0 b.1 in
          let z1 = takes_less a.0 (mark m.Colon ∷ (expr_spelling p.lsb ++ mark m.CloseBracket ∷ [])) rest a.2 in
          let z2 = takes_less d.0 (mark m.CloseBracket ∷ []) rest d.2 in
          ap (λ q. R (packed_by (Some q)) (t ∷ i)) h.0.1 ∙
          bind_is (sub an_expression i) _ (p.msb, expr_height p.msb) a.0 _ (ok.at p.msb i a.0 (omega (arith, few, z1)) l.0 (omega (arith, low)) a.1 (before_mark m.Colon refl a.0 rest _ a.2))
          (bind_is (R (expect (f.Mark m.Colon)) a.0) _ tt b.0 _ (expects most r sub (f.Mark m.Colon) a.0 b.0 b.1)
          (bind_is (sub an_expression b.0) _ (p.lsb, expr_height p.lsb) d.0 _ (ok.at p.lsb b.0 d.0 (omega (arith, few, a1, a2, z2)) l.1 (omega (arith, low)) d.1 (before_mark m.CloseBracket refl d.0 rest [] d.2))
          (bind_is (R (expect (f.Mark m.CloseBracket)) d.0) _ tt rest _ (expects most r sub (f.Mark m.CloseBracket) d.0 rest d.2)
          (ap (λ n. Ok ((Some (record { at = n; msb = p.msb; lsb = p.lsb }), packed_height (Some p)), rest)) h.0.0))))

  -- ---- types

  vector_by : (k : VectorKind) (i : List Tok) → R (integer_type_by (Some (lexeme.Word (vector_word k)))) i ≡ R (vector_type k) i
  vector_by vector_kind.Bit i = refl
  vector_by vector_kind.Logic i = refl
  vector_by vector_kind.Reg i = refl

  atom_by : (k : AtomKind) (i : List Tok) → R (integer_type_by (Some (lexeme.Word (atom_word k)))) i ≡ R (atom_type k) i
  atom_by atom_kind.Byte i = refl
  atom_by atom_kind.ShortInt i = refl
  atom_by atom_kind.Int i = refl
  atom_by atom_kind.LongInt i = refl
  atom_by atom_kind.Integer i = refl

  vector_complete : (k : VectorKind) (s : Option Signing) (p : Option PackedRangeTree) (t : Tok) (i rest : List Tok) → length i ≤ most + length rest → IsPacked p → packed_height p ≤ r → FitEach i (signing_spelling s ++ packed_spelling p) rest → AfterType (lexeme_at rest)
      → R (vector_type k) (t ∷ i) ≡ Ok ((vector t.at k s p, packed_height p), rest)
  unfolding vector_type
  vector_complete k s p t i rest few l low h c =
      let a = takes_parts i (signing_spelling s) (packed_spelling p) rest h in
      let less = takes_less i (signing_spelling s) a.0 a.1 in
      bind_is (R signing i) _ s a.0 _ (signing_complete s i a.0 a.1 (packed_first p a.0 rest a.2 c))
      (bind_is (R packed a.0) _ (p, packed_height p) rest _ (packed_complete.at p a.0 rest (omega (arith, few, less)) l low a.2 c) refl)

  atom_complete : (k : AtomKind) (s : Option Signing) (t : Tok) (i rest : List Tok) → FitEach i (signing_spelling s) rest → AfterType (lexeme_at rest) → R (atom_type k) (t ∷ i) ≡ Ok ((atom t.at k s, 0), rest)
  unfolding atom_type
  atom_complete k s t i rest h c = bind_is (R signing i) _ s rest _ (signing_complete s i rest h (no_sign (lexeme_at rest) c)) refl

  pub integer_complete : IsComplete integer_spelling IsInteger integer_height most r AfterType (R integer_type)
  unfolding integer_type
  integer_complete = record { at = by }
    where
      by : (x : IntegerTypeTree) (i rest : List Tok) → length i ≤ most + length rest → IsInteger x → integer_height x ≤ r → FitEach i (integer_spelling x) rest → AfterType (lexeme_at rest) → R (bind peek integer_type_by) i ≡ Ok ((x, integer_height x), rest)
      by (vector at k s p) [] rest few l low h c = absurd h
      by (vector at k s p) (t ∷ i) rest few l low h c = ap (λ q. R (integer_type_by (Some q)) (t ∷ i)) h.0.1 ∙ vector_by k (t ∷ i)
          ∙ vector_complete k s p t i rest (omega (arith, few)) l low h.1 c ∙ ap (λ n. Ok ((vector n k s p, packed_height p), rest)) h.0.0
      by (atom at k s) [] rest few l low h c = absurd h
      by (atom at k s) (t ∷ i) rest few l low h c = ap (λ q. R (integer_type_by (Some q)) (t ∷ i)) h.0.1 ∙ atom_by k (t ∷ i) ∙ atom_complete k s t i rest h.1 c ∙ ap (λ n. Ok ((atom n k s, 0), rest)) h.0.0

  type_written : (q : Option Lexeme) (i : List Tok) → starts_type q ≡ true → R (data_type_by q) i ≡ R written_type i
  type_written (Some (lexeme.Name k)) i h = absurd (cc)
  type_written _ i h = refl

  pub type_complete : IsComplete type_spelling IsType type_height most r AfterType (R data_type)
  unfolding data_type written_type named_type
  type_complete = record { at = by }
    where
      by : (x : DataTypeTree) (i rest : List Tok) → length i ≤ most + length rest → IsType x → type_height x ≤ r → FitEach i (type_spelling x) rest → AfterType (lexeme_at rest) → R (bind peek data_type_by) i ≡ Ok ((x, type_height x), rest)
      by (integer t) i rest few l low h c = type_written (lexeme_at i) i (integer_first t i rest h) ∙ bind_is (R integer_type i) _ (t, integer_height t) rest _ (integer_complete.at t i rest few l low h c) refl
      by (named n) [] rest few l low h c = absurd h
      by (named n) (t ∷ i) rest few l low h c = ap (λ q. R (data_type_by (Some q)) (t ∷ i)) h.0.1.is ∙ bind_is (R name (t ∷ i)) _ n rest _ (name_complete most r sub n (t ∷ i) rest h) refl

  -- ---- what may be left out

  pub initial_complete : IsComplete initial_spelling IsOptionalExpr optional_height most r EndsInitial (R initial)
  unfolding initial
  initial_complete = record { at = by }
    where
      by : (x : Option ExprTree) (i rest : List Tok) → length i ≤ most + length rest → IsOptionalExpr x → optional_height x ≤ r → FitEach i (initial_spelling x) rest → EndsInitial (lexeme_at rest) → R initial i ≡ Ok ((x, optional_height x), rest)
      by None i rest few l low h c = led_no most r sub (f.Mark m.Assign) _ _ i (ap (sees (f.Mark m.Assign)) h ∙ c.1) ∙ ap (λ z. Ok ((None, 0), z)) h
      by (Some e) [] rest few l low h c = absurd h
      by (Some e) (t ∷ i) rest few l low h c = led_yes most r sub (f.Mark m.Assign) _ _ t i h.0
          ∙ bind_is (sub an_expression i) _ (e, expr_height e) rest _ (ok.at e i rest (omega (arith, few)) l low h.1 (omega (arith, c.0))) refl

  pub base_complete : IsComplete base_spelling IsBase base_height most r AfterBase (R enum_base)
  unfolding enum_base written_base
  base_complete = record { at = by }
    where
      by : (x : Option IntegerTypeTree) (i rest : List Tok) → length i ≤ most + length rest → IsBase x → base_height x ≤ r → FitEach i (base_spelling x) rest → AfterBase (lexeme_at rest) → R enum_base i ≡ Ok ((x, base_height x), rest)
      by None i rest few l low h c = choose_false most r sub (starts_type (lexeme_at i)) _ _ i (ap (λ z. starts_type (lexeme_at z)) h ∙ c.1) ∙ ap (λ z. Ok ((None, 0), z)) h
      by (Some t) i rest few l low h c = choose_true most r sub (starts_type (lexeme_at i)) _ _ i (integer_first t i rest h)
          ∙ bind_is (R integer_type i) _ (t, integer_height t) rest _ (integer_complete.at t i rest few l low h c.0) refl
