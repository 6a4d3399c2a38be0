-- Declarations are read from the left, and take a token at least.
use Rattle.std.proofs.Common.{◌≡◌, ℕ, ◌≤◌, List, length, Option, Some, Ok}
use Rattle.svr_token.specs.declared.Lexeme.{Lexeme}
use Rattle.svr_token.specs.declared.Lexeme.TheVariants as lexeme
use Rattle.svr_token.specs.declared.Word.TheVariants as w
use Rattle.svr_tree.specs.Tokens.{Tok}
use Rattle.svr_tree.specs.DeclTree.{IntegerTypeTree, DataTypeTree, integer, named, PropertyTree}
use Rattle.svr_reader.specs.Outcomes.{Parser}
use Rattle.svr_reader.specs.Lists.{WithHeight}
use Rattle.svr_reader.specs.Calls.{cap}
use Rattle.svr_reader.proofs.Local.{IsLocal, local_run}
use Rattle.svr_reader.proofs.Live.{Consumes}
use Rattle.svr_expr.proofs.Local.{local_expr}
use Rattle.svr_expr.proofs.Takes.{leaves_no_more}
use Rattle.svr_item.proofs.FirstSteps.{TakesOr, TakesOne, takes}
use Rattle.svr_item.proofs.Local.{local_block_items}
use Rattle.svr_decl.specs.DeclRules.{Part, Ans, an_expression, the_block_items, Rule, vector_type, atom_type, integer_type_by, integer_type, named_type, written_type, data_type_by, data_type, typedef_in, property_on, property_in, class_item, class_in, vars_on, var_in, part, within, typedef, class, var, var_on}

-- ---- locality

pub local_part : (most r : ℕ) (k : Part) → IsLocal (part most r k)
local_part most r an_expression = local_expr most r 1
local_part most r the_block_items = local_block_items most r

pub local_typedef : (most r : ℕ) → IsLocal (typedef most r)
unfolding typedef
local_typedef most r = local_run most r (part most r) (local_part most r) typedef_in

pub local_class : (most r : ℕ) → IsLocal (class most r)
unfolding class
local_class most r = local_run most r (part most r) (local_part most r) class_in

pub local_var : (most r : ℕ) → IsLocal (var most r)
unfolding var
local_var most r = local_run most r (part most r) (local_part most r) var_in

pub local_var_on : (most r n : ℕ) → IsLocal (var_on most r n)
unfolding var_on
local_var_on most r n = local_run most r (part most r) (local_part most r) (vars_on (named n, 0))

-- what a production leaves is no more than it found
pub no_more : {A : Type 0} (room : ℕ) (p : Rule A) (i : List Tok) (x : A) (j : List Tok) → within cap room p i ≡ Ok (x, j) → length j ≤ length i
no_more room p i x j h = leaves_no_more cap room (part cap room) (local_part cap room) p i x j h

-- ---- what takes a token

module _ (most r : ℕ) where
  abbrev calls : (k : Part) → Parser (Ans k)
  calls = part most r

  -- whatever is done behind it
  integer_by_takes : (C : WithHeight IntegerTypeTree → Type 0) (q : Option Lexeme) → TakesOr calls C (integer_type_by q)
  unfolding vector_type atom_type
  integer_by_takes C (Some (lexeme.Word w.Bit)) = tt
  integer_by_takes C (Some (lexeme.Word w.Logic)) = tt
  integer_by_takes C (Some (lexeme.Word w.Reg)) = tt
  integer_by_takes C (Some (lexeme.Word w.Byte)) = tt
  integer_by_takes C (Some (lexeme.Word w.ShortInt)) = tt
  integer_by_takes C (Some (lexeme.Word w.Int)) = tt
  integer_by_takes C (Some (lexeme.Word w.LongInt)) = tt
  integer_by_takes C (Some (lexeme.Word w.Integer)) = tt
  integer_by_takes C _ = tt

  type_by_takes : (C : WithHeight DataTypeTree → Type 0) (q : Option Lexeme) → TakesOr calls C (data_type_by q)
  unfolding named_type written_type integer_type
  type_by_takes C (Some (lexeme.Name k)) = tt
  type_by_takes C _ = λ q. integer_by_takes (λ t. C (integer t.0, t.1)) q

  type_takes : (C : WithHeight DataTypeTree → Type 0) → TakesOr calls C data_type
  unfolding data_type
  type_takes C = λ q. type_by_takes C q

  property_takes : (C : WithHeight PropertyTree → Type 0) → TakesOr calls C property_in
  unfolding property_in property_on
  property_takes C = type_takes _

  class_item_first : TakesOne calls class_item
  unfolding class_item
  class_item_first = property_takes _

  var_first : TakesOne calls var_in
  unfolding var_in
  var_first = type_takes (λ t. TakesOne calls (vars_on t))

  pub class_item_takes : Consumes (within most r class_item)
  class_item_takes = takes most r calls (local_part most r) class_item class_item_first

  pub typedef_takes : Consumes (typedef most r)
  unfolding typedef typedef_in
  typedef_takes = takes most r calls (local_part most r) typedef_in tt

  pub class_takes : Consumes (class most r)
  unfolding class class_in
  class_takes = takes most r calls (local_part most r) class_in tt

  pub var_takes : Consumes (var most r)
  unfolding var
  var_takes = takes most r calls (local_part most r) var_in var_first
