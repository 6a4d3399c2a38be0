-- A statement that begins with a name is the name and the rest.
use Rattle.std.proofs.Common.{◌≡◌, ℕ, zero, suc, ◌+◌, ◌≤◌, List, ◌∷◌, length, Some, Ok, sym, ◌∙◌, ap, arith}
use Rattle.svr_token.specs.declared.Lexeme.TheVariants as lexeme
use Rattle.svr_token.specs.declared.NameKind.{NameKind}
use Rattle.svr_tree.specs.Tokens.{Tok, FitEach}
use Rattle.svr_tree.specs.ExprTree.{ExprTree}
use Rattle.svr_tree.specs.StmtTree.{StmtTree}
use Rattle.svr_tree.specs.StmtGrammar.{stmt_spelling, IsStmt, stmt_height}
use Rattle.svr_reader.specs.Outcomes.{and_then}
use Rattle.svr_reader.specs.Program.{run}
use Rattle.svr_reader.specs.Lists.{WithHeight}
use Rattle.svr_reader.proofs.Steps.{bind_ok}
use Rattle.svr_reader.proofs.Rooms.{none_never}
use Rattle.svr_reader.proofs.Layers.{ReadAs}
use Rattle.svr_expr.specs.ExprRules.{path_starts, a_known_path}
use Rattle.svr_stmt.specs.StmtRules.{behind_target, path_stmt, stmt_from, stmt_by, stmt_in, a_path_on, part, stmt, stmt_on}
use Rattle.svr_stmt_laws.proofs.Paths.{a_path_on_is}
use Rattle.svr_stmt_laws.proofs.Sets.{SetLaws}
use Rattle.svr_stmt_laws.proofs.Sound.{stmt_sound}
use Rattle.svr_stmt_laws.proofs.Complete.{stmt_pos, stmt_complete}

by_name : (most r : ℕ) (t : Tok) (k : NameKind) (i : List Tok) → t.lexeme ≡ lexeme.Name k → stmt most (suc r) (t ∷ i) ≡ and_then (a_known_path most r (t ∷ i)) (λ p. run most r (part most r (stmt most r)) (behind_target t.at p))
unfolding stmt stmt_in path_stmt
by_name most r t k i h = ap (λ q. run most r (part most r (stmt most r)) (stmt_by (Some q)) (t ∷ i)) h

-- where there is room for a name
pub stmt_on_is : (most r : ℕ) → 2 ≤ r → (t : Tok) (k : NameKind) (i : List Tok) → t.lexeme ≡ lexeme.Name k → stmt most r (t ∷ i) ≡ stmt_on most r (t.at, k) i
unfolding stmt_on stmt_from a_path_on
stmt_on_is most zero fits t k i h = absurd (omega (arith, fits))
stmt_on_is most (suc zero) fits t k i h = absurd (omega (arith, fits))
stmt_on_is most (suc (suc r)) fits t k i h = by_name most (suc r) t k i h ∙ ap (λ o. and_then o (λ p. run most (suc r) (part most (suc r) (stmt most (suc r))) (behind_target t.at p))) (a_path_on_is most r t k i h)

-- where there is none, nothing is read
low_never : (most : ℕ) (t : Tok) (k : NameKind) (i : List Tok) (y : WithHeight StmtTree × List Tok) → t.lexeme ≡ lexeme.Name k → stmt most 1 (t ∷ i) ≡ Ok y → ⊥
unfolding a_known_path
low_never most t k i y h g = bind_ok (a_known_path most 0 (t ∷ i)) _ y (sym (by_name most 0 t k i h) ∙ g) (λ p j e _. none_never (ExprTree × NameKind) path_starts (t ∷ i) (p, j) e)

low_on : (most r : ℕ) (first : ℕ × NameKind) (i : List Tok) (y : WithHeight StmtTree × List Tok) → r ≤ 1 → stmt_on most r first i ≡ Ok y → ⊥
unfolding stmt_on stmt_from a_path_on
low_on most zero first i y low h = cc
low_on most (suc zero) first i y low h = cc
low_on most (suc (suc r)) first i y low h = omega (arith, low)

-- what is read behind the name is, with the name, a statement
pub stmt_on_sound : SetLaws → (most r : ℕ) (t : Tok) (k : NameKind) → t.lexeme ≡ lexeme.Name k → (i : List Tok) (x : WithHeight StmtTree) (j : List Tok) → stmt_on most r (t.at, k) i ≡ Ok (x, j) → ReadAs stmt_spelling IsStmt stmt_height r (t ∷ i) x j
stmt_on_sound sets most zero t k is i x j h = absurd (low_on most 0 (t.at, k) i (x, j) (omega arith) h)
stmt_on_sound sets most (suc zero) t k is i x j h = absurd (low_on most 1 (t.at, k) i (x, j) (omega arith) h)
stmt_on_sound sets most (suc (suc r)) t k is i x j h = (stmt_sound sets most (suc (suc r))).at (t ∷ i) x j (stmt_on_is most (suc (suc r)) (omega arith) t k i is ∙ h)

-- a statement that begins with the name is read behind it, whatever follows
pub stmt_on_complete : SetLaws → (most r : ℕ) → r ≤ most → (t : Tok) (k : NameKind) → t.lexeme ≡ lexeme.Name k → (x : StmtTree) (i rest : List Tok) → length (t ∷ i) ≤ most + length rest → IsStmt x → stmt_height x ≤ r → FitEach (t ∷ i) (stmt_spelling x) rest
    → stmt_on most r (t.at, k) i ≡ Ok ((x, stmt_height x), rest)
stmt_on_complete sets most zero roomy t k e x i rest few is low h = absurd (let p = stmt_pos x in omega (arith, p, low))
stmt_on_complete sets most (suc zero) roomy t k e x i rest few is low h = absurd (low_never most t k i ((x, stmt_height x), rest) e ((stmt_complete sets most 1 roomy).at x (t ∷ i) rest few is low h tt))
stmt_on_complete sets most (suc (suc r)) roomy t k e x i rest few is low h = sym (stmt_on_is most (suc (suc r)) (omega arith) t k i e) ∙ (stmt_complete sets most (suc (suc r)) roomy).at x (t ∷ i) rest few is low h tt
