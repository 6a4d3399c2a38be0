-- Entries that were read: literals among them fit, and there are fewer than 2^32.
use Rattle.std.proofs.Common.{◌≡◌, ℕ, suc, ◌+◌, ◌<◌, ◌≤◌, ◌^◌, max, List, [], ◌∷◌, ◌++◌, length, Option, Some, None, refl, sym, ap, subst, ◌∙◌, arith}
use Rattle.std.proofs.lemmas.List.{length-append}
use Rattle.svr_token.specs.declared.Token.{Token}
use Rattle.svr_token.specs.declared.Lexeme.{Lexeme}
use Rattle.svr_tree.specs.ExprTree as raw
use Rattle.svr_tree.specs.ExprTree.{ExprTree, ExprTrees, RangeTree, BoundTree}
use Rattle.svr_tree.specs.Tokens.{Tok, Entry, numbered, FitEach}
use Rattle.svr_tree.specs.ExprGrammar.{expr_spelling, exprs_spelling, exprs_followed, range_spelling, bound_spelling, IsExpr, EachIsExpr, AreExprs, IsRange, IsBound, expr_height, exprs_height, range_height, bound_height}
use Rattle.svr_reader.specs.Spelled.{AreSpelled}
use Rattle.svr_elab_part.specs.Fits.{LiteralsFit, AllFit, RangeFits, BoundFits, LoopsFit, AllLoopsFit, RangeLoopsFit, BoundLoopsFit}
use Rattle.svr_elab_type.specs.Fits.{ExprFits, ValueFits}
use Rattle.svr_elab_expr_laws.specs.ReadFits.{EntriesFit}
use Rattle.svr_elab_expr_laws.proofs.ReadFit.{front_fits, rest_fits, expr_fits, low_fits}

pub record AreRead (es : List Entry) : Type 0 where
  pub fit : EntriesFit es
  pub few : length es < 2 ^ 32

front_few : (n a b : ℕ) → n ≡ a + b → n < 2 ^ 32 → a < 2 ^ 32
front_few n a b e h = omega (arith, e, h)

rest_few : (n a b : ℕ) → n ≡ a + b → n < 2 ^ 32 → b < 2 ^ 32
rest_few n a b e h = omega (arith, e, h)

-- what stands before others was read, and so were those
pub front : (xs ys : List Entry) → AreRead (xs ++ ys) → AreRead xs
front xs ys h = record { fit = front_fits xs ys h.fit; few = front_few (length (xs ++ ys)) (length xs) (length ys) (length-append xs ys) h.few }

pub rest : (xs ys : List Entry) → AreRead (xs ++ ys) → AreRead ys
rest xs ys h = record { fit = rest_fits xs ys h.fit; few = rest_few (length (xs ++ ys)) (length xs) (length ys) (length-append xs ys) h.few }

pub tail : (x : Entry) (xs : List Entry) → AreRead (x ∷ xs) → AreRead xs
tail x xs h = record { fit = h.fit.1; few = (let k : suc (length xs) < 2 ^ 32 = h.few in omega (arith, k)) }

-- ---- as many lexemes as tokens, and as many entries

pub as_many_lexemes : (text : List ℕ) (ts : List Token) (ls : List Lexeme) → AreSpelled text ts ls → length ls ≡ length ts
as_many_lexemes text [] [] h = refl
as_many_lexemes text [] (l ∷ ls) h = absurd h
as_many_lexemes text (t ∷ ts) [] h = absurd h
as_many_lexemes text (t ∷ ts) (l ∷ ls) h = ap suc (as_many_lexemes text ts ls h.1)

pub as_many_tokens : (n : ℕ) (ls : List Lexeme) → length (numbered n ls) ≡ length ls
as_many_tokens n [] = refl
as_many_tokens n (l ∷ ls) = ap suc (as_many_tokens (suc n) ls)

pub as_many_entries : (i : List Tok) (es : List Entry) → FitEach i es [] → length es ≡ length i
as_many_entries i [] h = ap length (sym h)
as_many_entries [] (e ∷ es) h = absurd h
as_many_entries (t ∷ i) (e ∷ es) h = ap suc (as_many_entries i es h.1)

-- ---- expressions, where `d` loops are around

-- loops and heights add up to no more than the limit on loops
abbrev pub IsLow : ℕ → ℕ → Type 0
IsLow d height = d + height ≤ 2 ^ 32

pub low_left : (d a b : ℕ) → IsLow d (max a b) → IsLow d a
low_left d a b h = omega (arith, h)

pub low_right : (d a b : ℕ) → IsLow d (max a b) → IsLow d b
low_right d a b h = omega (arith, h)

pub expr_read : (d : ℕ) (e : ExprTree) → IsExpr e → AreRead (expr_spelling e) → IsLow d (expr_height e) → ExprFits d e
expr_read d e h f low = (low_fits d e low, expr_fits e h f.fit)

pub all_read : (xs : ExprTrees) → EachIsExpr xs → AreRead (exprs_followed xs) → AllFit xs
all_read raw.no_exprs h f = tt
all_read (raw.more_exprs x xs) h f =
    let on = tail _ _ f in
    (expr_fits x h.0 (front (expr_spelling x) _ on).fit, all_read xs h.1 (rest (expr_spelling x) _ on))

pub exprs_low : (d : ℕ) (xs : ExprTrees) → IsLow d (exprs_height xs) → AllLoopsFit d xs
exprs_low d raw.no_exprs low = tt
exprs_low d (raw.more_exprs x xs) low = (low_fits d x (low_left d (expr_height x) (exprs_height xs) low), exprs_low d xs (low_right d (expr_height x) (exprs_height xs) low))

bound_read : (b : BoundTree) → IsBound b → AreRead (bound_spelling b) → BoundFits b
bound_read (raw.value x) h f = expr_fits x h f.fit
bound_read raw.dollar h f = tt

pub range_read : (r : RangeTree) → IsRange r → AreRead (range_spelling r) → RangeFits r
range_read (raw.one x) h f = expr_fits x h f.fit
range_read (raw.span l g) h f =
    let on = tail _ _ f in
    (bound_read l h.0 (front (bound_spelling l) _ on), bound_read g h.1 (front (bound_spelling g) _ (tail _ _ (rest (bound_spelling l) _ on))))

bound_low : (d : ℕ) (b : BoundTree) → IsLow d (bound_height b) → BoundLoopsFit d b
bound_low d (raw.value x) low = low_fits d x low
bound_low d raw.dollar low = tt

pub range_low : (d : ℕ) (r : RangeTree) → IsLow d (range_height r) → RangeLoopsFit d r
range_low d (raw.one x) low = low_fits d x low
range_low d (raw.span l g) low = (bound_low d l (low_left d (bound_height l) (bound_height g) low), bound_low d g (low_right d (bound_height l) (bound_height g) low))
