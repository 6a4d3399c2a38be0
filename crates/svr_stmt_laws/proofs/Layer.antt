-- The laws of statements, for other layers.
use Rattle.std.proofs.Common.{◌≡◌, ℕ, ◌+◌, ◌≤◌, List, ◌∷◌, length, Option, Some, Ok}
use Rattle.svr_token.specs.declared.Lexeme.{Lexeme}
use Rattle.svr_token.specs.declared.Lexeme.TheVariants as lexeme
use Rattle.svr_token.specs.declared.Mark.TheVariants as m
use Rattle.svr_token.specs.declared.NameKind.{NameKind}
use Rattle.svr_tree.specs.Tokens.{Tok, FitEach}
use Rattle.svr_tree.specs.StmtTree.{StmtTree}
use Rattle.svr_tree.specs.StmtGrammar.{stmt_spelling, IsStmt, stmt_height}
use Rattle.svr_reader.specs.Lists.{WithHeight}
use Rattle.svr_reader.proofs.Live.{AnyToken}
use Rattle.svr_reader.proofs.Layers.{ReadAs, IsSound, IsComplete, IsViable, IsOpen, IsGrowing, Part}
use Rattle.svr_item_laws.proofs.Growth.{grows_set_items}
use Rattle.svr_item_laws.proofs.Sound.{set_items_sound}
use Rattle.svr_item_laws.proofs.CompleteItems.{set_items_complete}
use Rattle.svr_item_laws.proofs.Live.{set_items_open}
use Rattle.svr_stmt.specs.StmtRules.{stmt, stmt_on}
use Rattle.svr_stmt_laws.proofs.Sets.{SetLaws}
use Rattle.svr_stmt_laws.proofs.Growth as growth
use Rattle.svr_stmt_laws.proofs.Sound as sound
use Rattle.svr_stmt_laws.proofs.Complete as complete
use Rattle.svr_stmt_laws.proofs.Behind as behind
use Rattle.svr_stmt_laws.proofs.Live as live

set_laws : SetLaws
set_laws = record {
  grows = grows_set_items;
  sound = set_items_sound;
  complete = set_items_complete;
  opens = λ most r some roomy. set_items_open most r some roomy tt;
}

-- ---- statements

pub grows_stmt : IsGrowing stmt
grows_stmt = growth.grows_stmt set_laws

pub stmt_sound : (most r : ℕ) → IsSound stmt_spelling IsStmt stmt_height r (stmt most r)
stmt_sound = sound.stmt_sound set_laws

pub stmt_complete : (most r : ℕ) → r ≤ most → IsComplete stmt_spelling IsStmt stmt_height most r AnyToken (stmt most r)
stmt_complete = complete.stmt_complete set_laws

pub live_stmt : (most r : ℕ) → 5 ≤ most → r ≤ most → IsViable most AnyToken (Part r) (stmt most r)
live_stmt = live.live_stmt set_laws

-- D are the tokens that may come first
pub stmt_open : (most r : ℕ) → 5 ≤ most → 1 ≤ r → r ≤ most → {D : Option Lexeme → Type 0} → D (Some (lexeme.Mark m.Semicolon)) → IsOpen most D AnyToken (Part r) (stmt most r)
stmt_open most r many fits roomy d = live.stmt_open set_laws most r many fits roomy d

-- ---- statements whose first name was taken already

pub grows_stmt_on : (first : ℕ × NameKind) → IsGrowing (λ most r. stmt_on most r first)
grows_stmt_on = growth.grows_stmt_on set_laws

-- with the name before it, what is read is a statement
pub stmt_on_sound : (most r : ℕ) (t : Tok) (k : NameKind) → t.lexeme ≡ lexeme.Name k → (i : List Tok) (x : WithHeight StmtTree) (j : List Tok) → stmt_on most r (t.at, k) i ≡ Ok (x, j) → ReadAs stmt_spelling IsStmt stmt_height r (t ∷ i) x j
stmt_on_sound = behind.stmt_on_sound set_laws

pub stmt_on_complete : (most r : ℕ) → r ≤ most → (t : Tok) (k : NameKind) → t.lexeme ≡ lexeme.Name k → (x : StmtTree) (i rest : List Tok) → length (t ∷ i) ≤ most + length rest → IsStmt x → stmt_height x ≤ r → FitEach (t ∷ i) (stmt_spelling x) rest
    → stmt_on most r (t.at, k) i ≡ Ok ((x, stmt_height x), rest)
stmt_on_complete = behind.stmt_on_complete set_laws

-- D are the tokens that may come behind the name
pub stmt_on_open : (most r : ℕ) (first : ℕ × NameKind) → 5 ≤ most → 2 ≤ r → r ≤ most → {D : Option Lexeme → Type 0} → D (Some (lexeme.Mark m.Assign)) → IsOpen most D AnyToken (Part r) (stmt_on most r first)
stmt_on_open most r first many fits roomy d = live.stmt_on_open set_laws most r first many fits roomy d

-- where there is room for a name, a statement that begins with one is read as the name and the rest
pub stmt_on_is : (most r : ℕ) → 2 ≤ r → (t : Tok) (k : NameKind) (i : List Tok) → t.lexeme ≡ lexeme.Name k → stmt most r (t ∷ i) ≡ stmt_on most r (t.at, k) i
stmt_on_is = behind.stmt_on_is
