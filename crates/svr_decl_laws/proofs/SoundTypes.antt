-- What is read of types is what the grammar has there.
use Rattle.std.proofs.Common.{◌≡◌, ℕ, List, [], ◌∷◌, ◌++◌, Option, Some, Ok, refl, arith}
use Rattle.svr_token.specs.declared.Lexeme.{Lexeme}
use Rattle.svr_token.specs.declared.Lexeme.TheVariants as lexeme
use Rattle.svr_token.specs.declared.Word.TheVariants as w
use Rattle.svr_token.specs.declared.Mark.TheVariants as m
use Rattle.svr_tree.specs.declared.decl.VectorKind.{VectorKind}
use Rattle.svr_tree.specs.declared.decl.VectorKind.TheVariants as vector_kind
use Rattle.svr_tree.specs.declared.decl.AtomKind.{AtomKind}
use Rattle.svr_tree.specs.declared.decl.AtomKind.TheVariants as atom_kind
use Rattle.svr_tree.specs.declared.decl.Signing.{Signing}
use Rattle.svr_tree.specs.Tokens.{Tok, FitEach, mark}
use Rattle.svr_tree.specs.ExprGrammar.{expr_spelling, IsExpr, expr_height}
use Rattle.svr_tree.specs.DeclTree.{PackedRangeTree, IntegerTypeTree, DataTypeTree}
use Rattle.svr_tree.specs.DeclGrammar.{vector_word, atom_word, signing_spelling, packed_spelling, integer_spelling, type_spelling, initial_spelling, base_spelling, IsOptionalExpr, IsPacked, IsInteger, IsType, IsBase, optional_height, packed_height, integer_height, type_height, base_height}
use Rattle.svr_reader.specs.Outcomes.{Parser, lexeme_at}
use Rattle.svr_reader.specs.declared.fixed.Fixed.TheVariants as f
use Rattle.svr_reader.specs.Program.{run, expect}
use Rattle.svr_reader.specs.Lists.{WithHeight, name}
use Rattle.svr_reader.proofs.Steps.{bind_ok, yields, takes_append, choose_ok, expect_ok, led_ok, name_sound}
use Rattle.svr_reader.proofs.Layers.{ReadAs, IsSound}
use Rattle.svr_decl.specs.DeclRules.{Part, an_expression, Ans, Rule, signing_by, signing, packed_on, packed_by, packed, vector_type, atom_type, integer_type_by, integer_type, starts_type, written_type, named_type, data_type_by, data_type, initial, written_base, enum_base}

module _ (most r : ℕ) (sub : (k : Part) → Parser (Ans k)) (ok : IsSound expr_spelling IsExpr expr_height r (sub an_expression)) where
  abbrev R : {A : Type 0} → Rule A → Parser A
  R p = run most r sub p

  -- ---- signs and ranges

  signing_by_sound : (q : Option Lexeme) (i : List Tok) (y : Option Signing × List Tok) → lexeme_at i ≡ q → R (signing_by q) i ≡ Ok y → FitEach i (signing_spelling y.0) y.1
  signing_by_sound (Some (lexeme.Word w.Signed)) [] y e h = absurd (cc)
  signing_by_sound (Some (lexeme.Word w.Signed)) (t ∷ i) y e h = let is : t.lexeme ≡ lexeme.Word w.Signed = cc in yields (λ s j. FitEach (t ∷ i) (signing_spelling s) j) _ _ y h (is, refl)
  signing_by_sound (Some (lexeme.Word w.Unsigned)) [] y e h = absurd (cc)
  signing_by_sound (Some (lexeme.Word w.Unsigned)) (t ∷ i) y e h = let is : t.lexeme ≡ lexeme.Word w.Unsigned = cc in yields (λ s j. FitEach (t ∷ i) (signing_spelling s) j) _ _ y h (is, refl)
  signing_by_sound _ i y e h = yields (λ s j. FitEach i (signing_spelling s) j) _ _ y h refl

  signing_sound : (i : List Tok) (s : Option Signing) (j : List Tok) → R signing i ≡ Ok (s, j) → FitEach i (signing_spelling s) j
  unfolding signing
  signing_sound i s j h = signing_by_sound (lexeme_at i) i (s, j) refl h

  packed_on_sound : (t : Tok) (i : List Tok) (y : WithHeight (Option PackedRangeTree) × List Tok) → t.lexeme ≡ lexeme.Mark m.OpenBracket → R (packed_on t.at) i ≡ Ok y → ReadAs packed_spelling IsPacked packed_height r (t ∷ i) y.0 y.1
  unfolding packed_on
  packed_on_sound t i y k h = bind_ok (sub an_expression i) _ y h (λ a j e g. bind_ok (R (expect (f.Mark m.Colon)) j) _ y g (λ u j2 e2 g2.
      bind_ok (sub an_expression j2) _ y g2 (λ b j3 e3 g3. bind_ok (R (expect (f.Mark m.CloseBracket)) j3) _ y g3 (λ u2 j4 e4 g4.
      let s = ok.at i a j e in
      let z = ok.at j2 b j3 e3 in
      yields (ReadAs packed_spelling IsPacked packed_height r (t ∷ i)) _ _ y g4 (record {
        takes = (
          (refl, k),
          takes_append i (expr_spelling a.0) (mark m.Colon ∷ (expr_spelling b.0 ++ mark m.CloseBracket ∷ [])) j j4 s.takes
              (takes_append j (mark m.Colon ∷ []) (expr_spelling b.0 ++ mark m.CloseBracket ∷ []) j2 j4 (expect_ok most r sub (f.Mark m.Colon) j (u, j2) e2)
              (takes_append j2 (expr_spelling b.0) (mark m.CloseBracket ∷ []) j3 j4 z.takes (expect_ok most r sub (f.Mark m.CloseBracket) j3 (u2, j4) e4))),
        );
        is = (s.is, z.is);
        height = omega (arith, s.height, z.height);
        low = omega (arith, s.low, z.low);
      })))))

  packed_by_sound : (q : Option Lexeme) (i : List Tok) (y : WithHeight (Option PackedRangeTree) × List Tok) → lexeme_at i ≡ q → R (packed_by q) i ≡ Ok y → ReadAs packed_spelling IsPacked packed_height r i y.0 y.1
  packed_by_sound (Some (lexeme.Mark m.OpenBracket)) [] y e h = absurd (cc)
  packed_by_sound (Some (lexeme.Mark m.OpenBracket)) (t ∷ i) y e h = let is : t.lexeme ≡ lexeme.Mark m.OpenBracket = cc in packed_on_sound t i y is h
  packed_by_sound _ i y e h = yields (ReadAs packed_spelling IsPacked packed_height r i) _ _ y h (record { takes = refl; is = tt; height = refl; low = omega arith })

  packed_sound : IsSound packed_spelling IsPacked packed_height r (R packed)
  unfolding packed
  packed_sound = record { at = λ i x j h. packed_by_sound (lexeme_at i) i (x, j) refl h }

  -- ---- types

  abbrev ReadInteger : List Tok → WithHeight IntegerTypeTree → List Tok → Type 0
  ReadInteger i x j = ReadAs integer_spelling IsInteger integer_height r i x j

  vector_sound : (k : VectorKind) (i : List Tok) (y : WithHeight IntegerTypeTree × List Tok) → lexeme_at i ≡ Some (lexeme.Word (vector_word k)) → R (vector_type k) i ≡ Ok y → ReadInteger i y.0 y.1
  unfolding vector_type
  vector_sound k [] y e h = absurd (cc)
  vector_sound k (t ∷ i) y e h = bind_ok (R signing i) _ y h (λ s j e2 g. bind_ok (R packed j) _ y g (λ p j2 e3 g2.
      let is : t.lexeme ≡ lexeme.Word (vector_word k) = cc in
      let d = packed_sound.at j p j2 e3 in
      yields (ReadInteger (t ∷ i)) _ _ y g2 (record {
        takes = ((refl, is), takes_append i (signing_spelling s) (packed_spelling p.0) j j2 (signing_sound i s j e2) d.takes);
        is = d.is;
        height = d.height;
        low = d.low;
      })))

  atom_sound : (k : AtomKind) (i : List Tok) (y : WithHeight IntegerTypeTree × List Tok) → lexeme_at i ≡ Some (lexeme.Word (atom_word k)) → R (atom_type k) i ≡ Ok y → ReadInteger i y.0 y.1
  unfolding atom_type
  atom_sound k [] y e h = absurd (cc)
  atom_sound k (t ∷ i) y e h = bind_ok (R signing i) _ y h (λ s j e2 g.
      let is : t.lexeme ≡ lexeme.Word (atom_word k) = cc in
      yields (ReadInteger (t ∷ i)) _ _ y g (record { takes = ((refl, is), signing_sound i s j e2); is = tt; height = refl; low = omega arith }))

  integer_by_sound : (q : Option Lexeme) (i : List Tok) (y : WithHeight IntegerTypeTree × List Tok) → lexeme_at i ≡ q → R (integer_type_by q) i ≡ Ok y → ReadInteger i y.0 y.1
  integer_by_sound (Some (lexeme.Word w.Bit)) i y e h = vector_sound vector_kind.Bit i y e h
  integer_by_sound (Some (lexeme.Word w.Logic)) i y e h = vector_sound vector_kind.Logic i y e h
  integer_by_sound (Some (lexeme.Word w.Reg)) i y e h = vector_sound vector_kind.Reg i y e h
  integer_by_sound (Some (lexeme.Word w.Byte)) i y e h = atom_sound atom_kind.Byte i y e h
  integer_by_sound (Some (lexeme.Word w.ShortInt)) i y e h = atom_sound atom_kind.ShortInt i y e h
  integer_by_sound (Some (lexeme.Word w.Int)) i y e h = atom_sound atom_kind.Int i y e h
  integer_by_sound (Some (lexeme.Word w.LongInt)) i y e h = atom_sound atom_kind.LongInt i y e h
  integer_by_sound (Some (lexeme.Word w.Integer)) i y e h = atom_sound atom_kind.Integer i y e h
  integer_by_sound _ i y e h = absurd (cc)

  pub integer_sound : IsSound integer_spelling IsInteger integer_height r (R integer_type)
  unfolding integer_type
  integer_sound = record { at = λ i x j h. integer_by_sound (lexeme_at i) i (x, j) refl h }

  written_sound : IsSound type_spelling IsType type_height r (R written_type)
  unfolding written_type
  written_sound = record {
    at = λ i x j h. bind_ok (R integer_type i) _ (x, j) h (λ t j2 e g.
        let d = integer_sound.at i t j2 e in
        yields (ReadAs type_spelling IsType type_height r i) _ _ (x, j) g (record { takes = d.takes; is = d.is; height = d.height; low = d.low }));
  }

  named_sound : IsSound type_spelling IsType type_height r (R named_type)
  unfolding named_type
  named_sound = record {
    at = λ i x j h. bind_ok (R name i) _ (x, j) h (λ n j2 e g.
        yields (ReadAs type_spelling IsType type_height r i) _ _ (x, j) g (record { takes = name_sound most r sub i n j2 e; is = tt; height = refl; low = omega arith }));
  }

  type_by_sound : (q : Option Lexeme) (i : List Tok) (x : WithHeight DataTypeTree) (j : List Tok) → R (data_type_by q) i ≡ Ok (x, j) → ReadAs type_spelling IsType type_height r i x j
  type_by_sound (Some (lexeme.Name k)) i x j h = named_sound.at i x j h
  type_by_sound _ i x j h = written_sound.at i x j h

  pub type_sound : IsSound type_spelling IsType type_height r (R data_type)
  unfolding data_type
  type_sound = record { at = λ i x j h. type_by_sound (lexeme_at i) i x j h }

  -- ---- what may be left out

  pub initial_sound : IsSound initial_spelling IsOptionalExpr optional_height r (R initial)
  unfolding initial
  initial_sound = record {
    at = λ i x j h. led_ok most r sub (f.Mark m.Assign) _ _ i (x, j) h
        (λ mid t g. bind_ok (sub an_expression mid) _ (x, j) g (λ a j2 e g2.
        let s = ok.at mid a j2 e in
        yields (ReadAs initial_spelling IsOptionalExpr optional_height r i) _ _ (x, j) g2 (record {
          takes = takes_append i (mark m.Assign ∷ []) (expr_spelling a.0) mid j2 t s.takes;
          is = s.is;
          height = s.height;
          low = s.low;
        })))
        (λ _ g. yields (ReadAs initial_spelling IsOptionalExpr optional_height r i) _ _ (x, j) g (record { takes = refl; is = tt; height = refl; low = omega arith }));
  }

  pub base_sound : IsSound base_spelling IsBase base_height r (R enum_base)
  unfolding enum_base written_base
  base_sound = record {
    at = λ i x j h. choose_ok most r sub (starts_type (lexeme_at i)) _ _ i (Ok (x, j)) h
        (λ _ g. bind_ok (R integer_type i) _ (x, j) g (λ t j2 e g2.
        let d = integer_sound.at i t j2 e in
        yields (ReadAs base_spelling IsBase base_height r i) _ _ (x, j) g2 (record { takes = d.takes; is = d.is; height = d.height; low = d.low })))
        (λ _ g. yields (ReadAs base_spelling IsBase base_height r i) _ _ (x, j) g (record { takes = refl; is = tt; height = refl; low = omega arith }));
  }
