-- No expression reads `a inside {1} * 2`.
use Rattle.std.proofs.Common.{◌≡◌, refl, ap, subst, inl, inr, List, [], ◌∷◌, ◌++◌, ℕ, ◌≤◌, length, Bool, true, false, arith}
use Rattle.svr_token.specs.declared.Lexeme.TheVariants as lexeme
use Rattle.svr_token.specs.declared.Word.TheVariants as w
use Rattle.svr_token.specs.declared.Mark.{Mark}
use Rattle.svr_token.specs.declared.Mark.TheVariants as m
use Rattle.svr_token.specs.declared.NameKind.TheVariants as name_kind
use Rattle.svr_operator.specs.declared.BinOp.{BinOp}
use Rattle.svr_operator.specs.declared.BinOp.TheVariants as b
use Rattle.svr_tree.specs.declared.expr.Scope.{Scope}
use Rattle.svr_tree.specs.declared.expr.Scope.TheVariants as scope
use Rattle.svr_tree.specs.ExprTree.{ExprTree, number, path, bit_select, part_select, unary, binary, choice, inside, join, copies, sign, paren, reduce}
use Rattle.svr_tree.specs.Tokens.{Tok, Entry, Any, FitEach, numbered, mark, word}
use Rattle.svr_tree.specs.Operators.{unary_mark, binary_mark, fold_name, precedence, least_left}
use Rattle.svr_tree.specs.ExprGrammar.{parens_spelling, argument_spelling, system_name, expr_spelling, ranges_spelling, level, IsExpr, IsPathAt}
use Rattle.svr_tree.specs.Examples.{inside_times, kw, k, digit}
use Rattle.svr_tree.proofs.Fitting.{Somewhere, split, taken}

-- the tokens from each place on
abbrev pub from_6 : List Tok
from_6 = numbered 6 (digit 2 ∷ [])

abbrev pub from_5 : List Tok
from_5 = numbered 5 (k m.Star ∷ digit 2 ∷ [])

abbrev pub from_4 : List Tok
from_4 = numbered 4 (k m.CloseBrace ∷ k m.Star ∷ digit 2 ∷ [])

abbrev pub from_3 : List Tok
from_3 = numbered 3 (digit 1 ∷ k m.CloseBrace ∷ k m.Star ∷ digit 2 ∷ [])

abbrev pub from_2 : List Tok
from_2 = numbered 2 (k m.OpenBrace ∷ digit 1 ∷ k m.CloseBrace ∷ k m.Star ∷ digit 2 ∷ [])

abbrev pub from_1 : List Tok
from_1 = numbered 1 (kw w.Inside ∷ k m.OpenBrace ∷ digit 1 ∷ k m.CloseBrace ∷ k m.Star ∷ digit 2 ∷ [])

behind_2 : (P : List Tok → Type 0) → (P from_3 → ⊥) → (P from_4 → ⊥) → (P from_5 → ⊥) → (P from_6 → ⊥) → (P [] → ⊥) → Somewhere P from_3 → ⊥
behind_2 P d e f g z h =
    elim h [ inl p ↦ d p | inr h4 ↦ elim h4 [ inl p ↦ e p | inr h5 ↦ elim h5 [ inl p ↦ f p | inr h6 ↦ elim h6 [ inl p ↦ g p | inr p ↦ z p ] ] ] ]

nowhere : (P : List Tok → Type 0) → (P inside_times → ⊥) → (P from_1 → ⊥) → (P from_2 → ⊥) → (P from_3 → ⊥) → (P from_4 → ⊥) → (P from_5 → ⊥) → (P from_6 → ⊥) → (P [] → ⊥) → Somewhere P inside_times → ⊥
nowhere P a b c d e f g z h =
    elim h [ inl p ↦ a p | inr h1 ↦ elim h1 [ inl p ↦ b p | inr h2 ↦ elim h2 [ inl p ↦ c p | inr h3 ↦ behind_2 P d e f g z h3 ] ] ]

name_no_mark : (q : Mark) → lexeme.Name name_kind.Plain ≡ lexeme.Mark q → ⊥
name_no_mark q h = cc

word_no_mark : (q : Mark) → lexeme.Word w.Inside ≡ lexeme.Mark q → ⊥
word_no_mark q h = cc

literal_no_mark : (n : ℕ) (q : Mark) → digit n ≡ lexeme.Mark q → ⊥
literal_no_mark n q h = cc

same_mark : (q r : Mark) → lexeme.Mark q ≡ lexeme.Mark r → r ≡ q
same_mark q r h = cc

-- the only marks are two braces and a star
no_mark : (es : List Entry) (q : Mark) (fs : List Entry) (rest : List Tok) → (q ≡ m.OpenBrace → ⊥) → (q ≡ m.CloseBrace → ⊥)
    → (q ≡ m.Star → FitEach inside_times es from_5 → FitEach from_6 fs rest → ⊥)
    → FitEach inside_times (es ++ mark q ∷ fs) rest → ⊥
no_mark es q fs rest not_open not_close at_star h =
    nowhere (λ j. FitEach inside_times es j × FitEach j (mark q ∷ fs) rest)
    (λ p. name_no_mark q p.1.0)
    (λ p. word_no_mark q p.1.0)
    (λ p. not_open (same_mark m.OpenBrace q p.1.0))
    (λ p. literal_no_mark 1 q p.1.0)
    (λ p. not_close (same_mark m.CloseBrace q p.1.0))
    (λ p. at_star (same_mark m.Star q p.1.0) p.0 p.1.1)
    (λ p. literal_no_mark 2 q p.1.0)
    (λ p. p.1)
    (split inside_times es (mark q ∷ fs) rest h)

binary_no_open : (op : BinOp) → binary_mark op ≡ m.OpenBrace → ⊥
binary_no_open b.Multiply h = cc
binary_no_open _ h = cc

binary_no_close : (op : BinOp) → binary_mark op ≡ m.CloseBrace → ⊥
binary_no_close b.Multiply h = cc
binary_no_close _ h = cc

level_of_star : (op : BinOp) → binary_mark op ≡ m.Star → precedence op ≡ 12
level_of_star b.Multiply h = refl
level_of_star _ h = cc

no_path : (at : ℕ) (s : Scope) (names : List ℕ) (call : Bool) (rest : List Tok) → length rest ≤ 2 → IsPathAt at s names
    → FitEach inside_times (expr_spelling (path at s names call)) rest → ⊥
no_path at s [] call rest low is h = absurd is
no_path at scope.Local (n ∷ ns) call rest low is h = let e : lexeme.Name name_kind.Plain ≡ lexeme.Word w.Local = h.0.1 in cc
no_path at scope.This (n ∷ ns) call rest low is h = let e : lexeme.Name name_kind.Plain ≡ lexeme.Word w.This = h.0.1 in cc
no_path at scope.Plain (n ∷ (o ∷ ns)) call rest low is h = word_no_mark m.Dot h.1.0
no_path at scope.Plain (n ∷ []) true rest low is h = word_no_mark m.OpenParen h.1.0
no_path at scope.Plain (n ∷ []) false rest low is h =
    let e : 6 ≡ length rest = ap (λ i. length i) h.1 in absurd (omega (arith, e, low))

-- no operand of `*` spells `a inside {1}`
no_factor : (l : ExprTree) → IsExpr l → 12 ≤ level l → FitEach inside_times (expr_spelling l) from_5 → ⊥
no_factor (number at v width s) is low h = let e : 6 ≡ 2 = ap (λ i. length i) h.1 in absurd (omega (arith, e))
no_factor (path at s names call) is low h = no_path at s names call from_5 (omega arith) is h
no_factor (bit_select at base index call) is low h =
    no_mark (expr_spelling base) m.OpenBracket (expr_spelling index ++ mark m.CloseBracket ∷ parens_spelling call) from_5 (λ e. cc) (λ e. cc) (λ e p q. cc) h
no_factor (part_select at base first last call) is low h =
    no_mark (expr_spelling base) m.OpenBracket (expr_spelling first ++ mark m.Colon ∷ (expr_spelling last ++ mark m.CloseBracket ∷ parens_spelling call)) from_5 (λ e. cc) (λ e. cc) (λ e p q. cc) h
no_factor (unary at op e) is low h = name_no_mark (unary_mark op) h.0.1
no_factor (binary at op l r) is low h =
    no_mark (expr_spelling l) (binary_mark op) (expr_spelling r) from_5 (binary_no_open op) (binary_no_close op)
    (λ e p q. let n : 2 ≤ 1 = taken from_6 (expr_spelling r) from_5 q in absurd (omega (arith, n))) h
no_factor (choice at t met unmet) is low h =
    no_mark (expr_spelling t) m.Question (expr_spelling met ++ mark m.Colon ∷ expr_spelling unmet) from_5 (λ e. cc) (λ e. cc) (λ e p q. cc) h
no_factor (inside at l set) is low h = absurd (omega (arith, low))
no_factor (join at parts) is low h = name_no_mark m.OpenBrace h.0.1
no_factor (copies at n parts) is low h = name_no_mark m.OpenBrace h.0.1
no_factor (sign at s e) is low h = let q : lexeme.Name name_kind.Plain ≡ lexeme.System (system_name s) = h.0.1 in cc
no_factor (paren at e) is low h = name_no_mark m.OpenParen h.0.1
no_factor (reduce at array op item body) is low h =
    no_mark (expr_spelling array) m.Dot (Any (lexeme.Name (fold_name op)) ∷ (argument_spelling item ++ word w.With ∷ (mark m.OpenParen ∷ (expr_spelling body ++ mark m.CloseParen ∷ [])))) from_5 (λ e. cc) (λ e. cc) (λ e p q. cc) h

-- `inside` would end at the brace
no_end : (es : List Entry) → FitEach from_3 (es ++ mark m.CloseBrace ∷ []) [] → ⊥
no_end es h =
    behind_2 (λ j. FitEach from_3 es j × FitEach j (mark m.CloseBrace ∷ []) [])
    (λ p. literal_no_mark 1 m.CloseBrace p.1.0)
    (λ p. let e : 2 ≡ 0 = ap (λ i. length i) p.1.1 in absurd (omega (arith, e)))
    (λ p. let e : m.CloseBrace ≡ m.Star = same_mark m.Star m.CloseBrace p.1.0 in cc)
    (λ p. literal_no_mark 2 m.CloseBrace p.1.0)
    (λ p. p.1)
    (split from_3 es (mark m.CloseBrace ∷ []) [] h)

no_set : (l : ExprTree) (es : List Entry) → FitEach inside_times (expr_spelling l ++ word w.Inside ∷ (mark m.OpenBrace ∷ (es ++ mark m.CloseBrace ∷ []))) [] → ⊥
no_set l es h =
    nowhere (λ j. FitEach inside_times (expr_spelling l) j × FitEach j (word w.Inside ∷ (mark m.OpenBrace ∷ (es ++ mark m.CloseBrace ∷ []))) [])
    (λ p. let e : lexeme.Name name_kind.Plain ≡ lexeme.Word w.Inside = p.1.0 in cc)
    (λ p. no_end es p.1.1.1)
    (λ p. let e : lexeme.Mark m.OpenBrace ≡ lexeme.Word w.Inside = p.1.0 in cc)
    (λ p. let e : digit 1 ≡ lexeme.Word w.Inside = p.1.0 in cc)
    (λ p. let e : lexeme.Mark m.CloseBrace ≡ lexeme.Word w.Inside = p.1.0 in cc)
    (λ p. let e : lexeme.Mark m.Star ≡ lexeme.Word w.Inside = p.1.0 in cc)
    (λ p. let e : digit 2 ≡ lexeme.Word w.Inside = p.1.0 in cc)
    (λ p. p.1)
    (split inside_times (expr_spelling l) (word w.Inside ∷ (mark m.OpenBrace ∷ (es ++ mark m.CloseBrace ∷ []))) [] h)

lowered : (p n : ℕ) → p ≡ 12 → least_left p ≤ n → 12 ≤ n
lowered p n e low = let P : ℕ → Type 0 = λ q. least_left q ≤ n in subst P e low

pub no_reading : (e : ExprTree) → IsExpr e → FitEach inside_times (expr_spelling e) [] → ⊥
no_reading (number at v width s) is h = let e : 6 ≡ 0 = ap (λ i. length i) h.1 in absurd (omega (arith, e))
no_reading (path at s names call) is h = no_path at s names call [] (omega arith) is h
no_reading (bit_select at base index call) is h =
    no_mark (expr_spelling base) m.OpenBracket (expr_spelling index ++ mark m.CloseBracket ∷ parens_spelling call) [] (λ e. cc) (λ e. cc) (λ e p q. cc) h
no_reading (part_select at base first last call) is h =
    no_mark (expr_spelling base) m.OpenBracket (expr_spelling first ++ mark m.Colon ∷ (expr_spelling last ++ mark m.CloseBracket ∷ parens_spelling call)) [] (λ e. cc) (λ e. cc) (λ e p q. cc) h
no_reading (unary at op e) is h = name_no_mark (unary_mark op) h.0.1
no_reading (binary at op l r) is h =
    no_mark (expr_spelling l) (binary_mark op) (expr_spelling r) [] (binary_no_open op) (binary_no_close op)
    (λ e p q. no_factor l is.1 (let n : precedence op ≡ 12 = level_of_star op e in let low : least_left (precedence op) ≤ level l = is.3 in lowered (precedence op) (level l) n low) p) h
no_reading (choice at t met unmet) is h =
    no_mark (expr_spelling t) m.Question (expr_spelling met ++ mark m.Colon ∷ expr_spelling unmet) [] (λ e. cc) (λ e. cc) (λ e p q. cc) h
no_reading (inside at l set) is h = no_set l (ranges_spelling set) h
no_reading (join at parts) is h = name_no_mark m.OpenBrace h.0.1
no_reading (copies at n parts) is h = name_no_mark m.OpenBrace h.0.1
no_reading (sign at s e) is h = let q : lexeme.Name name_kind.Plain ≡ lexeme.System (system_name s) = h.0.1 in cc
no_reading (paren at e) is h = name_no_mark m.OpenParen h.0.1
no_reading (reduce at array op item body) is h =
    no_mark (expr_spelling array) m.Dot (Any (lexeme.Name (fold_name op)) ∷ (argument_spelling item ++ word w.With ∷ (mark m.OpenParen ∷ (expr_spelling body ++ mark m.CloseParen ∷ [])))) [] (λ e. cc) (λ e. cc) (λ e p q. cc) h
