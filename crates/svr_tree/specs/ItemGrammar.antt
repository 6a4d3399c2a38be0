-- Constraint items: what they spell, which may stand under which, how high they are (IEEE 1800-2017, A.1.10 and 18.5).
use Rattle.std.specs.Prelude.{◌≡◌, ℕ, ◌+◌, ◌≤◌, max, Bool, true, false, List, [], ◌∷◌, ◌++◌, Option, Some, None}
use Rattle.svr_token.specs.declared.Word.TheVariants as w
use Rattle.svr_token.specs.declared.Mark.TheVariants as m
use Rattle.svr_operator.specs.declared.Share.{Share}
use Rattle.svr_operator.specs.declared.Share.TheVariants as share
use Rattle.svr_operator.specs.declared.BinOp.TheVariants as b
use Rattle.svr_tree.specs.ExprTree.{ExprTree, binary, ExprTrees, no_exprs, more_exprs}
use Rattle.svr_tree.specs.ItemTree.{DistItemTree, DistTree, ItemTree, plain, unique, implies, branch, foreach, disable, solve, ItemTrees, no_items, more_items, SetTree, set, ElseTree, no_else, else_set}
use Rattle.svr_tree.specs.Operators.{conditional_level}
use Rattle.svr_tree.specs.Tokens.{Entry, word, word_on, mark, listed, names_listed, OneOrMore}
use Rattle.svr_tree.specs.ExprGrammar.{expr_spelling, exprs_spelling, range_spelling, level, start, is_path, is_member, is_braced, IsExpr, IsRange, expr_height, exprs_height, range_height}

-- ---- what a tree spells

-- A.1.10: dist_weight
abbrev pub weight_spelling : Option (Share × ExprTree) → List Entry
weight_spelling None = []
weight_spelling (Some (share.Each, e)) = mark m.ColonEqual ∷ expr_spelling e
weight_spelling (Some (share.Whole, e)) = mark m.ColonSlash ∷ expr_spelling e

-- A.1.10: dist_item
abbrev pub dist_item_spelling : DistItemTree → List Entry
dist_item_spelling d = range_spelling d.range ++ weight_spelling d.weight

-- "dist" "{" dist_list "}"
abbrev pub dist_spelling : Option DistTree → List Entry
dist_spelling None = []
dist_spelling (Some d) = word_on d.at w.Dist ∷ (mark m.OpenBrace ∷ (listed dist_item_spelling d.items ++ mark m.CloseBrace ∷ []))

abbrev mutual
  -- A.1.10: constraint_expression
  pub item_spelling : ItemTree → List Entry
  item_spelling (plain at true e d) = word_on at w.Soft ∷ (expr_spelling e ++ (dist_spelling d ++ mark m.Semicolon ∷ []))
  item_spelling (plain at false e d) = expr_spelling e ++ (dist_spelling d ++ mark m.Semicolon ∷ [])
  item_spelling (unique at members) = word_on at w.Unique ∷ (mark m.OpenBrace ∷ (exprs_spelling members ++ mark m.CloseBrace ∷ (mark m.Semicolon ∷ [])))
  item_spelling (implies at t body) = expr_spelling t ++ mark m.Arrow ∷ set_spelling body
  item_spelling (branch at t met unmet) = word_on at w.If ∷ (mark m.OpenParen ∷ (expr_spelling t ++ mark m.CloseParen ∷ (set_spelling met ++ else_spelling unmet)))
  item_spelling (foreach at a vars body) = word_on at w.Foreach ∷ (mark m.OpenParen ∷ (expr_spelling a ++ mark m.OpenBracket ∷ (names_listed vars ++ mark m.CloseBracket ∷ (mark m.CloseParen ∷ set_spelling body))))
  item_spelling (disable at target) = word_on at w.Disable ∷ (word w.Soft ∷ (expr_spelling target ++ mark m.Semicolon ∷ []))
  -- A.1.10: constraint_block_item
  item_spelling (solve at first later) = word_on at w.Solve ∷ (exprs_spelling first ++ word w.Before ∷ (exprs_spelling later ++ mark m.Semicolon ∷ []))

  pub items_spelling : ItemTrees → List Entry
  items_spelling no_items = []
  items_spelling (more_items i is) = item_spelling i ++ items_spelling is

  -- A.1.10: constraint_set
  pub set_spelling : SetTree → List Entry
  set_spelling (set true is) = mark m.OpenBrace ∷ (items_spelling is ++ mark m.CloseBrace ∷ [])
  set_spelling (set false is) = items_spelling is

  -- [ "else" constraint_set ]
  pub else_spelling : ElseTree → List Entry
  else_spelling no_else = []
  else_spelling (else_set s) = word w.Else ∷ set_spelling s

-- ---- which tree may stand under which

-- whether an item begins with `{`
abbrev pub item_is_braced : ItemTree → Bool
item_is_braced (plain at false e d) = is_braced e
item_is_braced (implies at t body) = is_braced t
item_is_braced _ = false

-- whether an `if` in it can take an `else` that follows
abbrev mutual
  pub takes_else : ItemTree → Bool
  takes_else (plain at soft e d) = false
  takes_else (unique at members) = false
  takes_else (implies at t body) = set_takes_else body
  takes_else (branch at t met no_else) = true
  takes_else (branch at t met (else_set s)) = set_takes_else s
  takes_else (foreach at a vars body) = set_takes_else body
  takes_else (disable at target) = false
  takes_else (solve at first later) = false

  pub set_takes_else : SetTree → Bool
  set_takes_else (set true is) = false
  set_takes_else (set false is) = last_takes_else is

  pub last_takes_else : ItemTrees → Bool
  last_takes_else no_items = false
  last_takes_else (more_items i no_items) = takes_else i
  last_takes_else (more_items i (more_items j is)) = last_takes_else (more_items j is)

-- An expression item without `soft`: at this level `->` is the implication item, so the expression is of the level of `?:` or higher, or `<->` of one such and any expression.
abbrev pub IsStated : ExprTree → Option DistTree → Type 0
IsStated (binary at b.Equivalent l r) None = Unit {0}
IsStated e d = conditional_level ≤ level e

-- a range is any expression, and so is a weight
abbrev pub IsWeight : Option (Share × ExprTree) → Type 0
IsWeight None = Unit {0}
IsWeight (Some w) = IsExpr w.1

abbrev pub IsDistItem : DistItemTree → Type 0
IsDistItem d = IsRange d.range × IsWeight d.weight

abbrev pub IsDist : Option DistTree → Type 0
IsDist None = Unit {0}
IsDist (Some d) = OneOrMore IsDistItem d.items

abbrev pub IsPath : ExprTree → Type 0
IsPath e = IsExpr e × (is_path e ≡ true)

abbrev pub IsMember : ExprTree → Type 0
IsMember e = IsExpr e × (is_member e ≡ true)

-- one or more paths
abbrev pub EachIsPath : ExprTrees → Type 0
EachIsPath no_exprs = Unit {0}
EachIsPath (more_exprs e es) = IsPath e × EachIsPath es

abbrev pub ArePaths : ExprTrees → Type 0
ArePaths no_exprs = ⊥
ArePaths (more_exprs e es) = IsPath e × EachIsPath es

-- one or more members of `unique`
abbrev pub EachIsMember : ExprTrees → Type 0
EachIsMember no_exprs = Unit {0}
EachIsMember (more_exprs e es) = IsMember e × EachIsMember es

abbrev pub AreMembers : ExprTrees → Type 0
AreMembers no_exprs = ⊥
AreMembers (more_exprs e es) = IsMember e × EachIsMember es

-- a loop variable for one dimension or for two
abbrev pub AreLoopVars : List ℕ → Type 0
AreLoopVars (i ∷ []) = Unit {0}
AreLoopVars (i ∷ (j ∷ [])) = Unit {0}
AreLoopVars _ = ⊥

abbrev mutual
  -- an item of a set
  pub IsItem : ItemTree → Type 0
  IsItem (plain at true e d) = IsExpr e × IsDist d
  IsItem (plain at false e d) = (at ≡ start e) × IsExpr e × IsStated e d × IsDist d
  IsItem (unique at members) = AreMembers members
  IsItem (implies at t body) = (at ≡ start t) × IsExpr t × (conditional_level ≤ level t) × IsSet body
  IsItem (branch at t met unmet) = IsExpr t × IsSet met × IsElse met unmet
  IsItem (foreach at a vars body) = IsPath a × AreLoopVars vars × IsSet body
  IsItem (disable at target) = IsMember target
  -- `solve` stands directly in a block
  IsItem (solve at first later) = ⊥

  pub AreItems : ItemTrees → Type 0
  AreItems no_items = Unit {0}
  AreItems (more_items i is) = IsItem i × AreItems is

  -- without braces just one item, which does not begin with `{`
  pub IsSet : SetTree → Type 0
  IsSet (set true is) = AreItems is
  IsSet (set false no_items) = ⊥
  IsSet (set false (more_items i no_items)) = IsItem i × (item_is_braced i ≡ false)
  IsSet (set false (more_items i (more_items j is))) = ⊥

  -- an `else` belongs to the nearest `if` that can take it
  pub IsElse : SetTree → ElseTree → Type 0
  IsElse met no_else = Unit {0}
  IsElse met (else_set s) = (set_takes_else met ≡ false) × IsSet s

-- an item that stands directly in a block
abbrev pub IsBlockItem : ItemTree → Type 0
IsBlockItem (solve at first later) = ArePaths first × ArePaths later
IsBlockItem i = IsItem i

abbrev pub AreBlockItems : ItemTrees → Type 0
AreBlockItems no_items = Unit {0}
AreBlockItems (more_items i is) = IsBlockItem i × AreBlockItems is

-- ---- how high a tree is

abbrev pub weight_height : Option (Share × ExprTree) → ℕ
weight_height None = 0
weight_height (Some w) = expr_height w.1

abbrev pub dist_items_height : List DistItemTree → ℕ
dist_items_height [] = 0
dist_items_height (d ∷ ds) = max (max (range_height d.range) (weight_height d.weight)) (dist_items_height ds)

abbrev pub dist_height : Option DistTree → ℕ
dist_height None = 0
dist_height (Some d) = dist_items_height d.items

abbrev mutual
  pub item_height : ItemTree → ℕ
  item_height (plain at soft e d) = max (expr_height e) (dist_height d) + 1
  item_height (unique at members) = exprs_height members + 1
  item_height (implies at t body) = max (expr_height t) (set_height body) + 1
  item_height (branch at t met unmet) = max (max (expr_height t) (set_height met)) (else_height unmet) + 1
  item_height (foreach at a vars body) = max (expr_height a) (set_height body) + 1
  item_height (disable at target) = expr_height target + 1
  item_height (solve at first later) = max (exprs_height first) (exprs_height later) + 1

  pub items_height : ItemTrees → ℕ
  items_height no_items = 0
  items_height (more_items i is) = max (item_height i) (items_height is)

  pub set_height : SetTree → ℕ
  set_height (set braces is) = items_height is

  pub else_height : ElseTree → ℕ
  else_height no_else = 0
  else_height (else_set s) = set_height s
