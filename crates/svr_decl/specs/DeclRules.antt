-- The productions of types, classes and variables, as programs (IEEE 1800-2017, A.1.2, A.1.9, A.1.10 and A.2). Each answer has its height beside it.
use Rattle.std.specs.Prelude.{ℕ, max, Bool, true, false, List, [], ◌∷◌, Option, Some, None}
use Rattle.svr_token.specs.declared.Lexeme.{Lexeme}
use Rattle.svr_token.specs.declared.Lexeme.TheVariants as lexeme
use Rattle.svr_token.specs.declared.Word.TheVariants as w
use Rattle.svr_token.specs.declared.Mark.TheVariants as m
use Rattle.svr_operator.specs.declared.Rand.{Rand}
use Rattle.svr_operator.specs.declared.Rand.TheVariants as rand
use Rattle.svr_tree.specs.declared.decl.VectorKind.{VectorKind}
use Rattle.svr_tree.specs.declared.decl.VectorKind.TheVariants as vector_kind
use Rattle.svr_tree.specs.declared.decl.AtomKind.{AtomKind}
use Rattle.svr_tree.specs.declared.decl.AtomKind.TheVariants as atom_kind
use Rattle.svr_tree.specs.declared.decl.Signing.{Signing}
use Rattle.svr_tree.specs.declared.decl.Signing.TheVariants as sign
use Rattle.svr_tree.specs.ExprTree.{ExprTree}
use Rattle.svr_tree.specs.ItemTree.{ItemTree, items_of}
use Rattle.svr_tree.specs.DeclTree.{PackedRangeTree, IntegerTypeTree, vector, atom, DataTypeTree, integer, named, MemberTree, DefinitionTree, enum, plain, TypeTree, DimensionTree, dynamic, queue, size, bounds, DeclaratorTree, PropertyTree, BlockTree, ClassItemTree, property, block, ClassTree, VarInitTree, value, new, VarDeclaratorTree, VarTree}
use Rattle.svr_reader.specs.Outcomes.{Parser}
use Rattle.svr_reader.specs.declared.fixed.Fixed.TheVariants as f
use Rattle.svr_reader.specs.Program.{Program, pure, refuse, peek, take, call, run, expect}
use Rattle.svr_reader.specs.Lists.{◌>>=◌, ◌>>◌, WithHeight, led, listing, until, choose, name, parens, name_behind}
use Rattle.svr_expr.specs.ExprRules.{expr}
use Rattle.svr_item.specs.ItemRules.{block_items}

-- what a declaration is made of
pub data Part : Type 0 where
  an_expression : Part
  -- the items of a constraint block, with the brace that ends them
  the_block_items : Part

abbrev pub Ans : Part → Type 0
Ans an_expression = WithHeight ExprTree
Ans the_block_items = WithHeight (List ItemTree)

-- a program that calls for such parts, of the same height
abbrev pub Rule : Type 0 → Type 1
Rule A = Program Part Ans A

-- ---- types

abbrev pub signing_by : Option Lexeme → Rule (Option Signing)
signing_by (Some (lexeme.Word w.Signed)) = do
  take
  pure (Some sign.Signed)
signing_by (Some (lexeme.Word w.Unsigned)) = do
  take
  pure (Some sign.Unsigned)
signing_by _ = pure None

-- A.2.2.1: [ signing ]
unfoldable pub signing : Rule (Option Signing)
signing = peek >>= signing_by

-- behind `[`, which is this token
unfoldable pub packed_on : ℕ → Rule (WithHeight (Option PackedRangeTree))
packed_on at = do
  msb ← call an_expression
  expect (f.Mark m.Colon)
  lsb ← call an_expression
  expect (f.Mark m.CloseBracket)
  pure (Some (record { at = at; msb = msb.0; lsb = lsb.0 }), max msb.1 lsb.1)

abbrev pub packed_by : Option Lexeme → Rule (WithHeight (Option PackedRangeTree))
packed_by (Some (lexeme.Mark m.OpenBracket)) = do
  at ← take
  packed_on at
packed_by _ = pure (None, 0)

-- A.2.5: [ packed_dimension ]
unfoldable pub packed : Rule (WithHeight (Option PackedRangeTree))
packed = peek >>= packed_by

unfoldable pub vector_type : VectorKind → Rule (WithHeight IntegerTypeTree)
vector_type k = do
  at ← take
  s ← signing
  r ← packed
  pure (vector at k s r.0, r.1)

unfoldable pub atom_type : AtomKind → Rule (WithHeight IntegerTypeTree)
atom_type k = do
  at ← take
  s ← signing
  pure (atom at k s, 0)

abbrev pub integer_type_by : Option Lexeme → Rule (WithHeight IntegerTypeTree)
integer_type_by (Some (lexeme.Word w.Bit)) = vector_type vector_kind.Bit
integer_type_by (Some (lexeme.Word w.Logic)) = vector_type vector_kind.Logic
integer_type_by (Some (lexeme.Word w.Reg)) = vector_type vector_kind.Reg
integer_type_by (Some (lexeme.Word w.Byte)) = atom_type atom_kind.Byte
integer_type_by (Some (lexeme.Word w.ShortInt)) = atom_type atom_kind.ShortInt
integer_type_by (Some (lexeme.Word w.Int)) = atom_type atom_kind.Int
integer_type_by (Some (lexeme.Word w.LongInt)) = atom_type atom_kind.LongInt
integer_type_by (Some (lexeme.Word w.Integer)) = atom_type atom_kind.Integer
integer_type_by _ = refuse

-- A.2.2.1: integer_type
unfoldable pub integer_type : Rule (WithHeight IntegerTypeTree)
integer_type = peek >>= integer_type_by

-- the words that begin an integer type
abbrev pub starts_type : Option Lexeme → Bool
starts_type (Some (lexeme.Word w.Bit)) = true
starts_type (Some (lexeme.Word w.Logic)) = true
starts_type (Some (lexeme.Word w.Reg)) = true
starts_type (Some (lexeme.Word w.Byte)) = true
starts_type (Some (lexeme.Word w.ShortInt)) = true
starts_type (Some (lexeme.Word w.Int)) = true
starts_type (Some (lexeme.Word w.LongInt)) = true
starts_type (Some (lexeme.Word w.Integer)) = true
starts_type _ = false

unfoldable pub written_type : Rule (WithHeight DataTypeTree)
written_type = do
  t ← integer_type
  pure (integer t.0, t.1)

unfoldable pub named_type : Rule (WithHeight DataTypeTree)
named_type = do
  n ← name
  pure (named n, 0)

abbrev pub data_type_by : Option Lexeme → Rule (WithHeight DataTypeTree)
data_type_by (Some (lexeme.Name k)) = named_type
data_type_by _ = written_type

-- A.2.2.1: data_type
unfoldable pub data_type : Rule (WithHeight DataTypeTree)
data_type = peek >>= data_type_by

-- ---- typedefs

-- [ "=" expr ]
unfoldable pub initial : Rule (WithHeight (Option ExprTree))
initial = led (f.Mark m.Assign) (do
  e ← call an_expression
  pure (Some e.0, e.1)) (pure (None, 0))

-- A.2.2.1: enum_name_declaration
unfoldable pub member : Rule (WithHeight MemberTree)
member = do
  n ← name
  e ← initial
  pure (record { name = n; value = e.0 }, e.1)

unfoldable pub written_base : Rule (WithHeight (Option IntegerTypeTree))
written_base = do
  t ← integer_type
  pure (Some t.0, t.1)

-- A.2.2.1: [ enum_base_type ]
unfoldable pub enum_base : Rule (WithHeight (Option IntegerTypeTree))
enum_base = do
  l ← peek
  choose (starts_type l) written_base (pure (None, 0))

-- behind "enum"
unfoldable pub enum_on : Rule (WithHeight DefinitionTree)
enum_on = do
  b ← enum_base
  expect (f.Mark m.OpenBrace)
  ms ← listing member
  expect (f.Mark m.CloseBrace)
  pure (enum (record { base = b.0; members = ms.0 }), max b.1 ms.1)

unfoldable pub plain_definition : Rule (WithHeight DefinitionTree)
plain_definition = do
  t ← integer_type
  pure (plain t.0, t.1)

-- what a typedef names
unfoldable pub definition : Rule (WithHeight DefinitionTree)
definition = led (f.Word w.Enum) enum_on plain_definition

-- A.2.1.3: type_declaration
unfoldable pub typedef_in : Rule (WithHeight TypeTree)
typedef_in = do
  expect (f.Word w.TypeDef)
  d ← definition
  n ← name
  expect (f.Mark m.Semicolon)
  pure (record { definition = d.0; name = n }, d.1)

-- ---- properties

-- `size` or `first:last`, and the bracket that ends it
unfoldable pub size_or_bounds : Rule (WithHeight DimensionTree)
size_or_bounds = do
  first ← call an_expression
  led (f.Mark m.Colon) (do
    last ← call an_expression
    expect (f.Mark m.CloseBracket)
    pure (bounds first.0 last.0, max first.1 last.1)) (do
      expect (f.Mark m.CloseBracket)
      pure (size first.0, first.1))

-- A.2.5: unsized_dimension, queue_dimension or unpacked_dimension, behind `[`
unfoldable pub dimension : Rule (WithHeight DimensionTree)
dimension = led (f.Mark m.CloseBracket) (pure (dynamic, 0)) (led (f.Mark m.Dollar) (do
  expect (f.Mark m.CloseBracket)
  pure (queue, 0)) size_or_bounds)

-- the dimensions behind the first one: one more at most
unfoldable pub dimensions_on : WithHeight DimensionTree → Rule (WithHeight (List DimensionTree))
dimensions_on outer = led (f.Mark m.OpenBracket) (do
  inner ← dimension
  pure (outer.0 ∷ (inner.0 ∷ []), max outer.1 inner.1)) (pure (outer.0 ∷ [], outer.1))

-- A.2.4: { variable_dimension }, two at most
unfoldable pub dimensions : Rule (WithHeight (List DimensionTree))
dimensions = led (f.Mark m.OpenBracket) (do
  outer ← dimension
  dimensions_on outer) (pure ([], 0))

-- A.2.4: variable_decl_assignment
unfoldable pub declarator : Rule (WithHeight DeclaratorTree)
declarator = do
  n ← name
  ds ← dimensions
  e ← initial
  pure (record { name = n; dims = ds.0; value = e.0 }, max ds.1 e.1)

-- behind the qualifier
unfoldable pub property_on : Rand → Rule (WithHeight PropertyTree)
property_on q = do
  t ← data_type
  ds ← listing declarator
  expect (f.Mark m.Semicolon)
  pure (record { rand = q; kind = t.0; decls = ds.0 }, max t.1 ds.1)

-- A.1.9: class_property
unfoldable pub property_in : Rule (WithHeight PropertyTree)
property_in = led (f.Word w.Rand) (property_on rand.Rand) (led (f.Word w.Randc) (property_on rand.Randc) (property_on rand.State))

-- ---- classes

-- A.1.10: constraint_declaration, behind "constraint"
unfoldable pub block_on : Rule (WithHeight BlockTree)
block_on = do
  n ← name
  expect (f.Mark m.OpenBrace)
  is ← call the_block_items
  pure (record { name = n; items = items_of is.0 }, is.1)

-- A.1.9: class_item
unfoldable pub class_item : Rule (WithHeight ClassItemTree)
class_item = led (f.Word w.Constraint) (do
  b ← block_on
  pure (block b.0, b.1)) (do
    p ← property_in
    pure (property p.0, p.1))

-- A.1.2: class_declaration
unfoldable pub class_in : Rule (WithHeight ClassTree)
class_in = do
  expect (f.Word w.Class)
  n ← name
  b ← name_behind (f.Word w.Extends)
  expect (f.Mark m.Semicolon)
  is ← until (f.Word w.EndClass) class_item
  l ← name_behind (f.Mark m.Colon)
  pure (record { name = n; base = b; items = is.0; label = l }, is.1)

-- ---- variables

-- behind `=`
unfoldable pub var_value : Rule (WithHeight (Option VarInitTree))
var_value = led (f.Word w.New) (do
  c ← parens
  pure (Some (new c), 0)) (do
    e ← call an_expression
    pure (Some (value e.0), e.1))

-- [ "=" ( expr | "new" [ "(" ")" ] ) ]
unfoldable pub var_initial : Rule (WithHeight (Option VarInitTree))
var_initial = led (f.Mark m.Assign) var_value (pure (None, 0))

unfoldable pub var_declarator : Rule (WithHeight VarDeclaratorTree)
var_declarator = do
  n ← name
  e ← var_initial
  pure (record { name = n; init = e.0 }, e.1)

-- behind the type
unfoldable pub vars_on : WithHeight DataTypeTree → Rule (WithHeight VarTree)
vars_on t = do
  vs ← listing var_declarator
  expect (f.Mark m.Semicolon)
  pure (record { kind = t.0; vars = vs.0 }, max t.1 vs.1)

-- A.2.1.3: data_declaration
unfoldable pub var_in : Rule (WithHeight VarTree)
var_in = do
  t ← data_type
  vars_on t

-- the words that begin an integer type, and names, which may be those of types
abbrev pub starts_var : Option Lexeme → Bool
starts_var (Some (lexeme.Name k)) = true
starts_var l = starts_type l

-- ---- what other productions call for

-- the parts of a height up to the second number. No list is longer than the first number
abbrev pub part : ℕ → ℕ → (k : Part) → Parser (Ans k)
part most r an_expression = expr most r 1
part most r the_block_items = block_items most r

-- what a program reads where its parts may be as high as the second number
abbrev pub within : {A : Type 0} → ℕ → ℕ → Rule A → Parser A
within most r p = run most r (part most r) p

-- "typedef" ( enum | integer_type ) NAME ";"
unfoldable pub typedef : ℕ → ℕ → Parser (WithHeight TypeTree)
typedef most r i = within most r typedef_in i

-- "class" NAME [ "extends" NAME ] ";" { class_item } "endclass" [ ":" NAME ]
unfoldable pub class : ℕ → ℕ → Parser (WithHeight ClassTree)
class most r i = within most r class_in i

-- type vdecl { "," vdecl } ";"
unfoldable pub var : ℕ → ℕ → Parser (WithHeight VarTree)
var most r i = within most r var_in i

-- the same where the type is a name of this number, which was read already
unfoldable pub var_on : ℕ → ℕ → ℕ → Parser (WithHeight VarTree)
var_on most r n i = within most r (vars_on (named n, 0)) i
