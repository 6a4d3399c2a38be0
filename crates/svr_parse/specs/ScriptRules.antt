-- The productions of a script, as programs (IEEE 1800-2017, A.1.2). Each answer has its height beside it.
use Rattle.std.specs.Prelude.{ℕ, max, Bool, true, false, List, [], ◌∷◌, ◌++◌, Option, Some, None}
use Rattle.svr_token.specs.declared.Lexeme.{Lexeme}
use Rattle.svr_token.specs.declared.Lexeme.TheVariants as lexeme
use Rattle.svr_token.specs.declared.Word.TheVariants as w
use Rattle.svr_token.specs.declared.Mark.TheVariants as m
use Rattle.svr_token.specs.declared.NameKind.{NameKind}
use Rattle.svr_tree.specs.declared.script.Top.{Top}
use Rattle.svr_tree.specs.declared.script.Top.TheVariants.{OfType, OfClass}
use Rattle.svr_tree.specs.declared.script.UnitKind.{UnitKind}
use Rattle.svr_tree.specs.declared.script.UnitKind.TheVariants as unit_kind
use Rattle.svr_tree.specs.DeclTree.{TypeTree, ClassTree, VarTree}
use Rattle.svr_tree.specs.StmtTree.{StmtTree}
use Rattle.svr_tree.specs.ScriptTree.{UnitTree, ScriptTree}
use Rattle.svr_tree.specs.ScriptGrammar.{last_word}
use Rattle.svr_reader.specs.Outcomes.{Turn, go, done, Parser}
use Rattle.svr_reader.specs.declared.fixed.Fixed.TheVariants as f
use Rattle.svr_reader.specs.Program.{Program, pure, refuse, peek, take, call, loop, run, expect, known_name}
use Rattle.svr_reader.specs.Lists.{◌>>=◌, ◌>>◌, WithHeight, with_last, until_step, until, name, parens, name_behind}
use Rattle.svr_decl.specs.DeclRules.{typedef, class, var, var_on, starts_type}
use Rattle.svr_stmt.specs.StmtRules.{stmt, stmt_on}

-- what a script is made of. All parts have the same room
pub data Part : Type 0 where
  a_typedef : Part
  a_class : Part
  a_var : Part
  a_stmt : Part
  -- a variable whose type is the name of this number, which was taken already
  var_of : ℕ → Part
  -- a statement that begins with a name of this number and kind, which was taken already
  stmt_of : ℕ × NameKind → Part

abbrev pub Ans : Part → Type 0
Ans a_typedef = WithHeight TypeTree
Ans a_class = WithHeight ClassTree
Ans a_var = WithHeight VarTree
Ans (var_of n) = WithHeight VarTree
Ans a_stmt = WithHeight StmtTree
Ans (stmt_of n) = WithHeight StmtTree

abbrev pub Rule : Type 0 → Type 1
Rule A = Program Part Ans A

-- ---- types and classes

pub record Tops : Type 0 where
  pub types : List TypeTree
  pub classes : List ClassTree
  pub order : List Top

abbrev pub no_tops : WithHeight Tops
no_tops = (record { types = []; classes = []; order = [] }, 0)

abbrev pub with_type : WithHeight Tops → WithHeight TypeTree → WithHeight Tops
with_type s x = (record { types = s.0.types ++ x.0 ∷ []; classes = s.0.classes; order = s.0.order ++ OfType ∷ [] }, max s.1 x.1)

abbrev pub with_class : WithHeight Tops → WithHeight ClassTree → WithHeight Tops
with_class s x = (record { types = s.0.types; classes = s.0.classes ++ x.0 ∷ []; order = s.0.order ++ OfClass ∷ [] }, max s.1 x.1)

abbrev pub top_by : WithHeight Tops → Option Lexeme → Rule (Turn (WithHeight Tops) (WithHeight Tops))
top_by s (Some (lexeme.Word w.TypeDef)) = do
  x ← call a_typedef
  pure (go (with_type s x))
top_by s (Some (lexeme.Word w.Class)) = do
  x ← call a_class
  pure (go (with_class s x))
top_by s _ = pure (done s)

abbrev pub top_step : WithHeight Tops → Rule (Turn (WithHeight Tops) (WithHeight Tops))
top_step s = peek >>= top_by s

-- { typedef | class }
unfoldable pub tops : Rule (WithHeight Tops)
tops = loop top_step no_tops

-- ---- module, program

abbrev pub kind_by : Option Lexeme → Rule UnitKind
kind_by (Some (lexeme.Word w.Module)) = take >> pure unit_kind.Module
kind_by (Some (lexeme.Word w.Program)) = take >> pure unit_kind.Program
kind_by _ = refuse

unfoldable pub kind : Rule UnitKind
kind = peek >>= kind_by

abbrev pub Inner : Type 0
Inner = WithHeight (List VarTree) × WithHeight (List StmtTree)

-- behind a name: a second name belongs to a variable, anything else to a statement
abbrev pub named_by : WithHeight (List VarTree) → ℕ × NameKind → Option Lexeme → Rule (Turn (WithHeight (List VarTree)) Inner)
named_by s n (Some (lexeme.Name k)) = do
  x ← call (var_of n.0)
  pure (go (with_last s x))
named_by s n _ = do
  x ← call (stmt_of n)
  pure (done (s, (x.0 ∷ [], x.1)))

abbrev pub named_step : WithHeight (List VarTree) → ℕ × NameKind → Rule (Turn (WithHeight (List VarTree)) Inner)
named_step s n = peek >>= named_by s n

-- a variable that begins with the word of its type, or none
abbrev pub choose_var : WithHeight (List VarTree) → Bool → Rule (Turn (WithHeight (List VarTree)) Inner)
choose_var s true = do
  x ← call a_var
  pure (go (with_last s x))
choose_var s false = pure (done (s, ([], 0)))

abbrev pub inner_by : WithHeight (List VarTree) → Option Lexeme → Rule (Turn (WithHeight (List VarTree)) Inner)
inner_by s (Some (lexeme.Name k)) = do
  n ← known_name
  named_step s n
inner_by s q = choose_var s (starts_type q)

abbrev pub inner_step : WithHeight (List VarTree) → Rule (Turn (WithHeight (List VarTree)) Inner)
inner_step s = peek >>= inner_by s

-- the variables of an initial block, and its first statement where that begins with a name
unfoldable pub inner : Rule Inner
inner = loop inner_step ([], 0)

-- the other statements, and `end`
unfoldable pub stmts_on : WithHeight (List StmtTree) → Rule (WithHeight (List StmtTree))
stmts_on first = loop (until_step (f.Word w.End) (call a_stmt)) first

-- A.1.2: module_declaration, program_declaration
unfoldable pub unit : Rule (WithHeight UnitTree)
unit = do
  k ← kind
  n ← name
  p ← parens
  expect (f.Mark m.Semicolon)
  outer ← until (f.Word w.Initial) (call a_var)
  expect (f.Word w.Begin)
  i ← inner
  stmts ← stmts_on i.1
  expect (f.Word (last_word k))
  l ← name_behind (f.Mark m.Colon)
  pure (record { kind = k; name = n; parens = p; outer = outer.0; inner = i.0.0; stmts = stmts.0; label = l }, max (max outer.1 i.0.1) stmts.1)

-- A.1.2: source_text
unfoldable pub script_in : Rule (WithHeight ScriptTree)
script_in = do
  t ← tops
  u ← unit
  pure (record { types = t.0.types; classes = t.0.classes; order = t.0.order; unit = u.0 }, max t.1 u.1)

abbrev pub part : ℕ → ℕ → (k : Part) → Parser (Ans k)
part most r a_typedef = typedef most r
part most r a_class = class most r
part most r a_var = var most r
part most r (var_of n) = var_on most r n
part most r a_stmt = stmt most r
part most r (stmt_of n) = stmt_on most r n

-- what a program reads where its parts may be as high as the second number
abbrev pub within : {A : Type 0} → ℕ → ℕ → Rule A → Parser A
within most r p = run most r (part most r) p

-- a script whose items, statements and expressions are no higher than the second number. No list is longer than the first
unfoldable pub script : ℕ → ℕ → Parser (WithHeight ScriptTree)
script most r i = within most r script_in i
