-- The first tokens of variables and statements.
use Rattle.std.proofs.Common.{◌≡◌, ℕ, ◌≤◌, true, false, List, [], ◌∷◌, ◌++◌, length, Option, Some, refl, sym, ◌∙◌, ap, subst, arith}
use Rattle.svr_token.specs.declared.Lexeme.{Lexeme}
use Rattle.svr_token.specs.declared.Lexeme.TheVariants as lexeme
use Rattle.svr_token.specs.declared.Word.{Word}
use Rattle.svr_token.specs.declared.Word.TheVariants as w
use Rattle.svr_token.specs.declared.Mark.TheVariants as m
use Rattle.svr_token.specs.declared.NameKind.{NameKind}
use Rattle.svr_tree.specs.declared.decl.VectorKind.{VectorKind}
use Rattle.svr_tree.specs.declared.decl.VectorKind.TheVariants as vector_kind
use Rattle.svr_tree.specs.declared.decl.AtomKind.{AtomKind}
use Rattle.svr_tree.specs.declared.decl.AtomKind.TheVariants as atom_kind
use Rattle.svr_tree.specs.Tokens.{Tok, Entry, Name, FitEach, mark, listed, followed, OneOrMore}
use Rattle.svr_tree.specs.DeclTree.{DataTypeTree, integer, named, vector, atom, VarDeclaratorTree, VarTree}
use Rattle.svr_tree.specs.DeclGrammar.{vector_word, atom_word, integer_spelling, type_spelling, var_declarator_spelling, var_init_spelling, var_spelling, IsVarDeclarator, IsVar}
use Rattle.svr_reader.specs.Outcomes.{lexeme_at}
use Rattle.svr_reader.specs.Steps.{is_fixed, same_word}
use Rattle.svr_reader.specs.declared.fixed.Fixed.TheVariants as f
use Rattle.svr_decl.specs.DeclRules.{starts_type, starts_var}

vector_starts : (k : VectorKind) → starts_type (Some (lexeme.Word (vector_word k))) ≡ true
vector_starts vector_kind.Bit = refl
vector_starts vector_kind.Logic = refl
vector_starts vector_kind.Reg = refl

atom_starts : (k : AtomKind) → starts_type (Some (lexeme.Word (atom_word k))) ≡ true
atom_starts atom_kind.Byte = refl
atom_starts atom_kind.ShortInt = refl
atom_starts atom_kind.Int = refl
atom_starts atom_kind.LongInt = refl
atom_starts atom_kind.Integer = refl

-- how a variable begins: with the word of its type, or with the type's name and a name of its own
pub data VarBegins (i : List Tok) (v : VarTree) : Type 0 where
  by_word : (l : Word) → lexeme_at i ≡ Some (lexeme.Word l) → starts_type (lexeme_at i) ≡ true → VarBegins i v
  by_name : (t : Tok) (k k2 : NameKind) (j : List Tok) → i ≡ t ∷ j → t.lexeme ≡ lexeme.Name k → lexeme_at j ≡ Some (lexeme.Name k2) → v.kind ≡ named t.at → VarBegins i v

name_first : (i rest : List Tok) (n : ℕ) (es : List Entry) → FitEach i (Name n ∷ es) rest → (k : NameKind) × (lexeme_at i ≡ Some (lexeme.Name k))
name_first [] rest n es h = absurd h
name_first (t ∷ i) rest n es h = (h.0.1.kind, ap Some h.0.1.is)

pub var_begins : (i rest : List Tok) (v : VarTree) → IsVar v → FitEach i (var_spelling v) rest → VarBegins i v
var_begins i rest v is h = by v.kind refl v.vars refl
  where
    by : (t : DataTypeTree) → v.kind ≡ t → (ds : List VarDeclaratorTree) → v.vars ≡ ds → VarBegins i v
    by (integer (vector at k s r)) e ds e2 = word_first i (subst (λ z. FitEach i (type_spelling z ++ (listed var_declarator_spelling v.vars ++ mark m.Semicolon ∷ [])) rest) e h)
      where
        word_first : (i2 : List Tok) → FitEach i2 (integer_spelling (vector at k s r) ++ (listed var_declarator_spelling v.vars ++ mark m.Semicolon ∷ [])) rest → VarBegins i2 v
        word_first [] h2 = absurd h2
        word_first (u ∷ i2) h2 = let is2 : lexeme_at (u ∷ i2) ≡ Some (lexeme.Word (vector_word k)) = ap Some h2.0.1 in by_word (vector_word k) is2 (ap starts_type is2 ∙ vector_starts k)
    by (integer (atom at k s)) e ds e2 = word_first i (subst (λ z. FitEach i (type_spelling z ++ (listed var_declarator_spelling v.vars ++ mark m.Semicolon ∷ [])) rest) e h)
      where
        word_first : (i2 : List Tok) → FitEach i2 (integer_spelling (atom at k s) ++ (listed var_declarator_spelling v.vars ++ mark m.Semicolon ∷ [])) rest → VarBegins i2 v
        word_first [] h2 = absurd h2
        word_first (u ∷ i2) h2 = let is2 : lexeme_at (u ∷ i2) ≡ Some (lexeme.Word (atom_word k)) = ap Some h2.0.1 in by_word (atom_word k) is2 (ap starts_type is2 ∙ atom_starts k)
    by (named n) e [] e2 = absurd (subst (OneOrMore IsVarDeclarator) e2 is.1)
    by (named n) e (d ∷ ds) e2 =
        names_first i (subst (λ z. FitEach i (Name n ∷ (listed var_declarator_spelling z ++ mark m.Semicolon ∷ [])) rest) e2 (subst (λ z. FitEach i (type_spelling z ++ (listed var_declarator_spelling v.vars ++ mark m.Semicolon ∷ [])) rest) e h))
      where
        names_first : (i2 : List Tok) → FitEach i2 (Name n ∷ ((var_declarator_spelling d ++ followed var_declarator_spelling ds) ++ mark m.Semicolon ∷ [])) rest → VarBegins i2 v
        names_first [] h2 = absurd h2
        names_first (u ∷ i2) h2 = let b = name_first i2 rest d.name ((var_init_spelling d.init ++ followed var_declarator_spelling ds) ++ mark m.Semicolon ∷ []) h2.1 in
            by_name u h2.0.1.kind b.0 i2 refl h2.0.1.is b.1 (e ∙ ap named (sym h2.0.0))

pub var_fills : (v : VarTree) → IsVar v → 1 ≤ length (var_spelling v)
var_fills v is = by v.kind
  where
    by : (t : DataTypeTree) → 1 ≤ length (type_spelling t ++ (listed var_declarator_spelling v.vars ++ mark m.Semicolon ∷ []))
    by (integer (vector at k s r)) = omega arith
    by (integer (atom at k s)) = omega arith
    by (named n) = omega arith

-- a variable does not begin with `initial`
pub var_apart : (i rest : List Tok) (v : VarTree) → IsVar v → FitEach i (var_spelling v) rest → is_fixed (f.Word w.Initial) (lexeme_at i) ≡ false
unfolding same_word
var_apart i rest v is h = by (lexeme_at i) (starts i v (var_begins i rest v is h))
  where
    starts : (i2 : List Tok) (v2 : VarTree) → VarBegins i2 v2 → starts_var (lexeme_at i2) ≡ true
    starts i2 v2 (by_word l e s) = subst (λ q. starts_var q ≡ true) (sym e) (subst (λ q. starts_type q ≡ true) e s)
    starts i2 v2 (by_name t k k2 j e l n d) = subst (λ q. starts_var q ≡ true) (sym (ap lexeme_at e ∙ ap Some l)) refl

    by : (q : Option Lexeme) → starts_var q ≡ true → is_fixed (f.Word w.Initial) q ≡ false
    by (Some (lexeme.Name k)) s = refl
    by (Some (lexeme.Word w.Initial)) s = absurd (cc)
    by _ s = refl
