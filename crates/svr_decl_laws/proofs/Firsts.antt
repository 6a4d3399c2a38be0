-- What a declaration begins with, and that it spells some token.
use Rattle.std.proofs.Common.{◌≡◌, ℕ, ◌≤◌, true, List, [], ◌∷◌, ◌++◌, length, Some, ap, arith, length-append}
use Rattle.svr_token.specs.declared.Lexeme.TheVariants as lexeme
use Rattle.svr_token.specs.declared.Word.TheVariants as w
use Rattle.svr_token.specs.declared.Mark.TheVariants as m
use Rattle.svr_token.specs.declared.NameKind.{NameKind}
use Rattle.svr_tree.specs.Tokens as tokens
use Rattle.svr_tree.specs.Tokens.{Tok, Entry, Name, FitEach, word, mark, listed, OneOrMore}
use Rattle.svr_tree.specs.DeclTree.{named, TypeTree, ClassTree, VarDeclaratorTree, VarTree}
use Rattle.svr_tree.specs.DeclGrammar.{type_spelling, definition_spelling, typedef_spelling, class_item_spelling, extends_spelling, label_spelling, class_spelling, var_declarator_spelling, var_spelling, IsVarDeclarator, IsVar}
use Rattle.svr_reader.specs.Outcomes.{lexeme_at}
use Rattle.svr_reader.proofs.Steps.{takes_parts, lexeme_of}
use Rattle.svr_decl.specs.DeclRules.{starts_var}
use Rattle.svr_decl_laws.proofs.SoundClasses.{vars_spelling}
use Rattle.svr_decl_laws.proofs.CompleteTypes.{type_first}

pub typedef_first : (d : TypeTree) (i rest : List Tok) → FitEach i (typedef_spelling d) rest → lexeme_at i ≡ Some (lexeme.Word w.TypeDef)
typedef_first d i rest h = lexeme_of i rest (lexeme.Word w.TypeDef) (definition_spelling d.definition ++ Name d.name ∷ (mark m.Semicolon ∷ [])) h

pub class_first : (c : ClassTree) (i rest : List Tok) → FitEach i (class_spelling c) rest → lexeme_at i ≡ Some (lexeme.Word w.Class)
class_first c i rest h = lexeme_of i rest (lexeme.Word w.Class) (Name c.name ∷ (extends_spelling c.base ++ mark m.Semicolon ∷ (tokens.each_spelling class_item_spelling c.items ++ word w.EndClass ∷ label_spelling c.label))) h

-- a word of a type, or a name
pub var_first : (v : VarTree) (i rest : List Tok) → FitEach i (var_spelling v) rest → starts_var (lexeme_at i) ≡ true
var_first v i rest h = let a = takes_parts i (type_spelling v.kind) (vars_spelling v) rest h in type_first v.kind i a.0 a.1

-- behind the type stands a name
pub vars_first : (v : VarTree) (i rest : List Tok) → IsVar v → FitEach i (vars_spelling v) rest → (k : NameKind) × (lexeme_at i ≡ Some (lexeme.Name k))
vars_first v i rest l h = by v.vars i l.1 h
  where
    by : (vs : List VarDeclaratorTree) (i : List Tok) → OneOrMore IsVarDeclarator vs → FitEach i (listed var_declarator_spelling vs ++ mark m.Semicolon ∷ []) rest → (k : NameKind) × (lexeme_at i ≡ Some (lexeme.Name k))
    by [] i o g = absurd o
    by (x ∷ xs) [] o g = absurd g
    by (x ∷ xs) (t ∷ i) o g = (g.0.1.kind, ap Some g.0.1.is)

-- a variable whose type is a name is that name and the rest
pub var_named : (v : VarTree) (n : ℕ) → v.kind ≡ named n → var_spelling v ≡ Name n ∷ vars_spelling v
var_named v n e = ap (λ t. type_spelling t ++ vars_spelling v) e

pub typedef_long : (d : TypeTree) → 1 ≤ length (typedef_spelling d)
typedef_long d = omega arith

pub class_long : (c : ClassTree) → 1 ≤ length (class_spelling c)
class_long c = omega arith

pub vars_long : (v : VarTree) → 1 ≤ length (vars_spelling v)
vars_long v = omega (arith, length-append (listed var_declarator_spelling v.vars) (mark m.Semicolon ∷ []))

pub var_long : (v : VarTree) → 1 ≤ length (var_spelling v)
var_long v = omega (arith, vars_long v, length-append (type_spelling v.kind) (vars_spelling v))
