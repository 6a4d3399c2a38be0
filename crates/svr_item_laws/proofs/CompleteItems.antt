-- Items of every height, items that stand directly in a block, and lists of both up to their brace are read where they spell the tokens.
use Rattle.std.proofs.Common.{◌≡◌, ℕ, zero, suc, ◌+◌, ◌≤◌, true, false, List, [], ◌∷◌, ◌++◌, length, Option, Some, Ok, refl, sym, ◌∙◌, ap, subst, arith}
use Rattle.svr_token.specs.declared.Lexeme.{Lexeme}
use Rattle.svr_token.specs.declared.Lexeme.TheVariants as lexeme
use Rattle.svr_token.specs.declared.Word.TheVariants as w
use Rattle.svr_token.specs.declared.Mark.TheVariants as m
use Rattle.svr_tree.specs.Tokens.{Tok, Entry, On, FitEach, mark, word, names_listed}
use Rattle.svr_tree.specs.ExprTree.{ExprTree}
use Rattle.svr_tree.specs.ExprGrammar.{expr_spelling, exprs_spelling, IsExpr}
use Rattle.svr_tree.specs.ItemTree.{ItemTree, plain, unique, implies, branch, foreach, disable, solve, items_of}
use Rattle.svr_tree.specs.ItemGrammar.{dist_spelling, item_spelling, set_spelling, else_spelling, takes_else, IsItem, AreItems, IsBlockItem, AreBlockItems, item_height}
use Rattle.svr_reader.specs.Outcomes.{Parser, lexeme_at}
use Rattle.svr_reader.specs.Program.{call, run}
use Rattle.svr_reader.specs.Lists.{WithHeight}
use Rattle.svr_reader.proofs.Steps.{takes_parts, lexeme_on}
use Rattle.svr_reader.proofs.Live.{AnyToken}
use Rattle.svr_reader.proofs.Layers.{IsComplete}
use Rattle.svr_reader.proofs.Lists.{until_complete}
use Rattle.svr_expr.specs.ExprRules.{expr_starts}
use Rattle.svr_expr_laws.proofs.Trees.{begins}
use Rattle.svr_item.specs.ItemRules.{Rule, item_by, item_in, block_item_by, block_item_in, item_starts, part, item, block_item, set_items, block_items}
use Rattle.svr_item_laws.proofs.Trees.{NotElse, close_brace, items_spelling_is, items_height_is, items_are, block_items_are, item_pos}
use Rattle.svr_item_laws.proofs.Sound.{ended_spelling, all_height}
use Rattle.svr_item_laws.proofs.Firsts.{block_item_long, block_item_free}
use Rattle.svr_item_laws.proofs.CompleteSets.{CompletesItems, complete_items, items_complete}
use Rattle.svr_item_laws.proofs.Complete.{solve_any, block_word, item_in_complete}

-- ---- what an item begins with

starts_item : (q : Option Lexeme) → expr_starts q ≡ true → item_starts q ≡ true
starts_item (Some (lexeme.Word w.Soft)) h = refl
starts_item (Some (lexeme.Word w.Unique)) h = refl
starts_item (Some (lexeme.Word w.If)) h = refl
starts_item (Some (lexeme.Word w.Foreach)) h = refl
starts_item (Some (lexeme.Word w.Disable)) h = refl
starts_item _ h = h

expr_first : (e : ExprTree) (i rest : List Tok) (es : List Entry) → IsExpr e → FitEach i (expr_spelling e ++ es) rest → item_starts (lexeme_at i) ≡ true
expr_first e i rest es l h = let p = takes_parts i (expr_spelling e) es rest h in starts_item (lexeme_at i) (begins e i p.0 l p.1).first

word_first : (q : Lexeme) (at : ℕ) (i rest : List Tok) (es : List Entry) → item_starts (Some q) ≡ true → FitEach i (On at q ∷ es) rest → item_starts (lexeme_at i) ≡ true
word_first q at i rest es is h = ap item_starts (lexeme_on i rest at q es h) ∙ is

pub item_first : (x : ItemTree) (i rest : List Tok) → IsItem x → FitEach i (item_spelling x) rest → item_starts (lexeme_at i) ≡ true
item_first (plain at true e d) i rest l h = word_first (lexeme.Word w.Soft) at i rest (expr_spelling e ++ (dist_spelling d ++ mark m.Semicolon ∷ [])) refl h
item_first (plain at false e d) i rest l h = expr_first e i rest (dist_spelling d ++ mark m.Semicolon ∷ []) l.1 h
item_first (unique at members) i rest l h = word_first (lexeme.Word w.Unique) at i rest (mark m.OpenBrace ∷ (exprs_spelling members ++ mark m.CloseBrace ∷ (mark m.Semicolon ∷ []))) refl h
item_first (implies at t body) i rest l h = expr_first t i rest (mark m.Arrow ∷ set_spelling body) l.1 h
item_first (branch at t met unmet) i rest l h = word_first (lexeme.Word w.If) at i rest (mark m.OpenParen ∷ (expr_spelling t ++ mark m.CloseParen ∷ (set_spelling met ++ else_spelling unmet))) refl h
item_first (foreach at a vars body) i rest l h =
    word_first (lexeme.Word w.Foreach) at i rest (mark m.OpenParen ∷ (expr_spelling a ++ mark m.OpenBracket ∷ (names_listed vars ++ mark m.CloseBracket ∷ (mark m.CloseParen ∷ set_spelling body)))) refl h
item_first (disable at target) i rest l h = word_first (lexeme.Word w.Disable) at i rest (word w.Soft ∷ (expr_spelling target ++ mark m.Semicolon ∷ [])) refl h
item_first (solve at first later) i rest l h = absurd l

-- ---- items that stand directly in a block

module _ (most r : ℕ) (roomy : r ≤ most) (below : Parser (WithHeight ItemTree)) (ok : CompletesItems IsItem most r below) where
  abbrev R : {A : Type 0} → Rule A → Parser A
  R p = run most r (part most r below) p

  block_by_item : (q : Option Lexeme) (i : List Tok) → item_starts q ≡ true → R (block_item_by q) i ≡ R (item_by q) i
  block_by_item (Some (lexeme.Word w.Solve)) i h = absurd (cc)
  block_by_item _ i h = refl

  block_is_item : (i : List Tok) → item_starts (lexeme_at i) ≡ true → R block_item_in i ≡ R item_in i
  unfolding item_in block_item_in
  block_is_item i h = block_by_item (lexeme_at i) i h

  other_complete : (x : ItemTree) (i rest : List Tok) → length i ≤ most + length rest → IsItem x → item_height x ≤ suc r → FitEach i (item_spelling x) rest → (takes_else x ≡ true → NotElse (lexeme_at rest)) → R block_item_in i ≡ Ok ((x, item_height x), rest)
  other_complete x i rest few l low h closed = block_is_item i (item_first x i rest l h) ∙ item_in_complete most r roomy below ok x i rest few l low h closed

  pub block_in_complete : CompletesItems IsBlockItem most (suc r) (R block_item_in)
  block_in_complete (solve at first later) i rest few l low h closed =
      block_word most r roomy below ok at i rest (exprs_spelling first ++ word w.Before ∷ (exprs_spelling later ++ mark m.Semicolon ∷ [])) h
      ∙ solve_any most r roomy below ok at first later i rest few l.0 l.1 (omega (arith, low)) (omega (arith, low)) h
  block_in_complete x i rest few l low h closed = other_complete x i rest few l low h closed

-- ---- items of every height

pub item_completes : (most r : ℕ) → r ≤ most → CompletesItems IsItem most r (item most r)
unfolding item
item_completes most zero roomy x i rest few l low h closed = absurd (let pos = item_pos x in omega (arith, pos, low))
item_completes most (suc r) roomy x i rest few l low h closed = item_in_complete most r (omega (arith, roomy)) (item most r) (item_completes most r (omega (arith, roomy))) x i rest few l low h closed

pub block_item_completes : (most r : ℕ) → r ≤ most → CompletesItems IsBlockItem most r (block_item most r)
unfolding block_item
block_item_completes most zero roomy x i rest few l low h closed = absurd (let pos = item_pos x in omega (arith, pos, low))
block_item_completes most (suc r) roomy x i rest few l low h closed = block_in_complete most r (omega (arith, roomy)) (item most r) (item_completes most r (omega (arith, roomy))) x i rest few l low h closed

pub item_complete : (most r : ℕ) → r ≤ most → IsComplete item_spelling IsItem item_height most r NotElse (item most r)
item_complete most r roomy = complete_items (item_completes most r roomy)

pub block_item_complete : (most r : ℕ) → r ≤ most → IsComplete item_spelling IsBlockItem item_height most r NotElse (block_item most r)
block_item_complete most r roomy = complete_items (block_item_completes most r roomy)

pub set_items_complete : (most r : ℕ) → r ≤ most → IsComplete ended_spelling (λ xs. AreItems (items_of xs)) all_height most r AnyToken (set_items most r)
unfolding set_items
set_items_complete most r roomy = record {
  at = λ xs i rest few l low h c.
      let high = items_height_is xs in
      (items_complete most r (item most r) (item_completes most r roomy)).at xs i rest few (items_are xs l) (subst (λ z. z ≤ r) high low) (subst (λ es. FitEach i (es ++ mark m.CloseBrace ∷ []) rest) (items_spelling_is xs) h) c
      ∙ ap (λ z. Ok ((xs, z), rest)) (sym high);
}

pub block_items_complete : (most r : ℕ) → r ≤ most → IsComplete ended_spelling (λ xs. AreBlockItems (items_of xs)) all_height most r AnyToken (block_items most r)
unfolding block_items
block_items_complete most r roomy = record {
  at = λ xs i rest few l low h c.
      let high = items_height_is xs in
      (until_complete {K = Unit {0}} {Ans = λ _. WithHeight ItemTree} most r (λ _. block_item most r) (call tt) item_spelling IsBlockItem item_height close_brace r NotElse (block_item_complete most r roomy) block_item_long block_item_free refl).at
      xs i rest few (block_items_are xs l) (subst (λ z. z ≤ r) high low) (subst (λ es. FitEach i (es ++ mark m.CloseBrace ∷ []) rest) (items_spelling_is xs) h) c
      ∙ ap (λ z. Ok ((xs, z), rest)) (sym high);
}
