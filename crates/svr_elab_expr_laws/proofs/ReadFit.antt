-- What is read from a text fits.
use Rattle.std.proofs.Common.{◌≡◌, ℕ, zero, ◌+◌, ◌%◌, ◌^◌, ◌<◌, ◌≤◌, suc, max, true, false, List, [], ◌∷◌, ◌++◌, refl, sym, subst, arith}
use Rattle.std.specs.Prelude.{⊤}
use Rattle.std.proofs.Math.Nat.{lt_of_not-le, mod-lt}
use Rattle.std.proofs.lemmas.Nat.{pow_pos}
use Rattle.svr_token.specs.declared.Token.{Token}
use Rattle.svr_token.specs.declared.Lexeme.{Lexeme}
use Rattle.svr_token.specs.declared.Lexeme.TheVariants as lexeme
use Rattle.svr_token.specs.Bytes.{base_of}
use Rattle.svr_token.specs.Lexemes as token
use Rattle.svr_token.specs.Lexemes.{Literal, IsLawfulLiteral, HasZeroSize, IsOverWide, Spells, width_of, value_of, number_of}
use Rattle.svr_token.specs.Tokens.{token_bytes}
use Rattle.svr_tree.specs.ExprTree as raw
use Rattle.svr_tree.specs.ExprTree.{ExprTree, ExprTrees, RangeTree, RangeTrees, BoundTree}
use Rattle.svr_tree.specs.Tokens.{Tok, Entry, On, Any, Name, OtherName, numbered, Fits, FitEach}
use Rattle.svr_tree.specs.ExprGrammar.{argument_spelling, expr_spelling, exprs_spelling, exprs_followed, range_spelling, ranges_spelling, ranges_followed, bound_spelling, IsExpr, AreExprs, EachIsExpr, IsRange, AreRanges, EachIsRange, IsBound, expr_height, exprs_height, range_height, ranges_height, bound_height}
use Rattle.svr_reader.specs.Spelled.{AreSpelled}
use Rattle.svr_elab_part.specs.Fits.{LiteralsFit, AllFit, RangesFit, RangeFits, BoundFits, IsSome, LoopsFit, AllLoopsFit, RangesLoopsFit, RangeLoopsFit, BoundLoopsFit}
use Rattle.svr_elab_expr_laws.specs.ReadFits.{LexemeFits, EntryFits, EntriesFit, ReadFits, LowFits}

-- ---- literals of a text

abbrev Within : ℕ → ℕ → Type 0
Within value width = (width ≤ 64) × (value < 2 ^ max 1 width)

sized : (x n : ℕ) → (n ≡ 0 → ⊥) → (64 < n → ⊥) → Within (x % 2 ^ n) n
sized x n some low =
    let a : n ≤ 64 = le_64 n low in
    let b : max 1 n ≡ n = max_one n (positive n some) in
    (a, (let P : ℕ → Type 0 = λ k. x % 2 ^ n < 2 ^ k in subst P (sym b) (mod-lt x (pow_pos n))))
  where
    le_64 : (n : ℕ) → (64 < n → ⊥) → n ≤ 64
    le_64 n h = let a : n < 65 = lt_of_not-le h in omega (arith, a)

    positive : (n : ℕ) → (n ≡ 0 → ⊥) → 1 ≤ n
    positive zero h = absurd (h refl)
    positive (suc n) h = omega arith

    max_one : (n : ℕ) → 1 ≤ n → max 1 n ≡ n
    max_one n h = omega arith

literal_within : (l : Literal) (bytes : List ℕ) → IsLawfulLiteral l bytes → Within (value_of l) (width_of l)
literal_within (token.decimal digits) bytes h = (omega arith, lt_of_not-le h.narrow)
literal_within (token.based [] signed radix digits) bytes h = (omega arith, lt_of_not-le h.narrow)
literal_within (token.based (b ∷ bs) signed radix digits) bytes h = sized (number_of (base_of radix) digits) (number_of 10 (b ∷ bs)) h.has_size h.narrow
literal_within (token.unbased false) bytes h = (omega arith, omega arith)
literal_within (token.unbased true) bytes h = (omega arith, omega arith)

same_within : (v w x y : ℕ) → x ≡ v → y ≡ w → Within x y → Within v w
same_within v w x y h k f =
    let P : ℕ → Type 0 = λ v. Within v w in let Q : ℕ → Type 0 = λ w. Within x w in subst P h (subst Q k f)

spelled_fits : (l : Lexeme) (bytes : List ℕ) → Spells l bytes → LexemeFits l
spelled_fits (lexeme.Word w) bytes h = tt
spelled_fits (lexeme.Name kind) bytes h = tt
spelled_fits (lexeme.System name) bytes h = tt
spelled_fits (lexeme.Literal v w s) bytes h = same_within v w (value_of h.0) (width_of h.0) h.2 h.3 (literal_within h.0 bytes h.1)
spelled_fits (lexeme.Mark mark) bytes h = tt

abbrev TokensFit : List Tok → Type 0
TokensFit [] = ⊤
TokensFit (t ∷ ts) = LexemeFits t.lexeme × TokensFit ts

pub tokens_fit : (n : ℕ) (text : List ℕ) (tokens : List Token) (ls : List Lexeme) → AreSpelled text tokens ls → TokensFit (numbered n ls)
tokens_fit n text [] [] h = tt
tokens_fit n text [] (l ∷ ls) h = absurd h
tokens_fit n text (t ∷ ts) [] h = absurd h
tokens_fit n text (t ∷ ts) (l ∷ ls) h = (spelled_fits l (token_bytes text t) h.0.spells, tokens_fit (suc n) text ts ls h.1)

-- ---- what fits tokens that fit

same_fits : (l k : Lexeme) → l ≡ k → LexemeFits l → LexemeFits k
same_fits l k e h = let P : Lexeme → Type 0 = LexemeFits in subst P e h

entry_fits : (e : Entry) (t : Tok) → Fits e t → LexemeFits t.lexeme → EntryFits e
entry_fits (On n l) t h f = same_fits t.lexeme l h.1 f
entry_fits (Any l) t h f = same_fits t.lexeme l h f
entry_fits (Name n) t h f = tt
entry_fits (OtherName n) t h f = tt

pub entries_fit : (i : List Tok) (es : List Entry) (rest : List Tok) → FitEach i es rest → TokensFit i → EntriesFit es
entries_fit i [] rest h f = tt
entries_fit [] (e ∷ es) rest h f = absurd h
entries_fit (t ∷ i) (e ∷ es) rest h f = (entry_fits e t h.0 f.0, entries_fit i es rest h.1 f.1)

pub front_fits : (xs ys : List Entry) → EntriesFit (xs ++ ys) → EntriesFit xs
front_fits [] ys h = tt
front_fits (x ∷ xs) ys h = (h.0, front_fits xs ys h.1)

pub rest_fits : (xs ys : List Entry) → EntriesFit (xs ++ ys) → EntriesFit ys
rest_fits [] ys h = h
rest_fits (x ∷ xs) ys h = rest_fits xs ys h.1

-- ---- expressions

mutual
  pub expr_fits : (e : ExprTree) → IsExpr e → EntriesFit (expr_spelling e) → LiteralsFit e
  expr_fits (raw.number at v w s) h f = f.0
  expr_fits (raw.path at s names call) h f = tt
  expr_fits (raw.bit_select at x i call) h f =
      (expr_fits x h.1 (front_fits (expr_spelling x) _ f), expr_fits i h.2 (front_fits (expr_spelling i) _ (rest_fits (expr_spelling x) _ f).1))
  expr_fits (raw.part_select at x g l call) h f =
      let inner = (rest_fits (expr_spelling x) _ f).1 in
      (expr_fits x h.1 (front_fits (expr_spelling x) _ f), expr_fits g h.2 (front_fits (expr_spelling g) _ inner), expr_fits l h.3 (front_fits (expr_spelling l) _ (rest_fits (expr_spelling g) _ inner).1))
  expr_fits (raw.unary at op x) h f = expr_fits x h.0 f.1
  expr_fits (raw.binary at op x y) h f = (expr_fits x h.1 (front_fits (expr_spelling x) _ f), expr_fits y h.2 (rest_fits (expr_spelling x) _ f).1)
  expr_fits (raw.choice at t x y) h f =
      let inner = (rest_fits (expr_spelling t) _ f).1 in
      (expr_fits t h.1 (front_fits (expr_spelling t) _ f), expr_fits x h.2 (front_fits (expr_spelling x) _ inner), expr_fits y h.3 (rest_fits (expr_spelling x) _ inner).1)
  expr_fits (raw.inside at x rs) h f = (expr_fits x h.1 (front_fits (expr_spelling x) _ f), ranges_fit rs h.2 (front_fits (ranges_spelling rs) _ (rest_fits (expr_spelling x) _ f).1.1))
  expr_fits (raw.join at xs) h f = (exprs_some xs h, exprs_fit xs h (front_fits (exprs_spelling xs) _ f.1))
  expr_fits (raw.copies at n xs) h f =
      (expr_fits n h.0 (front_fits (expr_spelling n) _ f.1), exprs_some xs h.1, exprs_fit xs h.1 (front_fits (exprs_spelling xs) _ (rest_fits (expr_spelling n) _ f.1).1))
  expr_fits (raw.sign at s x) h f = expr_fits x h (front_fits (expr_spelling x) _ f.1.1)
  expr_fits (raw.paren at x) h f = expr_fits x h (front_fits (expr_spelling x) _ f.1)
  expr_fits (raw.reduce at x op item body) h f =
      let inner = (rest_fits (argument_spelling item) _ (rest_fits (expr_spelling x) _ f).1.1).1.1 in
      (expr_fits x h.1 (front_fits (expr_spelling x) _ f), expr_fits body h.3 (front_fits (expr_spelling body) _ inner))

  exprs_some : (xs : ExprTrees) → AreExprs xs → IsSome xs
  exprs_some raw.no_exprs h = h
  exprs_some (raw.more_exprs x xs) h = tt

  exprs_fit : (xs : ExprTrees) → AreExprs xs → EntriesFit (exprs_spelling xs) → AllFit xs
  exprs_fit raw.no_exprs h f = tt
  exprs_fit (raw.more_exprs x xs) h f = (expr_fits x h.0 (front_fits (expr_spelling x) _ f), more_fit xs h.1 (rest_fits (expr_spelling x) _ f))

  more_fit : (xs : ExprTrees) → EachIsExpr xs → EntriesFit (exprs_followed xs) → AllFit xs
  more_fit raw.no_exprs h f = tt
  more_fit (raw.more_exprs x xs) h f = (expr_fits x h.0 (front_fits (expr_spelling x) _ f.1), more_fit xs h.1 (rest_fits (expr_spelling x) _ f.1))

  range_fits : (r : RangeTree) → IsRange r → EntriesFit (range_spelling r) → RangeFits r
  range_fits (raw.one x) h f = expr_fits x h f
  range_fits (raw.span l g) h f = (bound_fits l h.0 (front_fits (bound_spelling l) _ f.1), bound_fits g h.1 (front_fits (bound_spelling g) _ (rest_fits (bound_spelling l) _ f.1).1))

  ranges_fit : (rs : RangeTrees) → AreRanges rs → EntriesFit (ranges_spelling rs) → RangesFit rs
  ranges_fit raw.no_ranges h f = tt
  ranges_fit (raw.more_ranges r rs) h f = (range_fits r h.0 (front_fits (range_spelling r) _ f), more_ranges_fit rs h.1 (rest_fits (range_spelling r) _ f))

  more_ranges_fit : (rs : RangeTrees) → EachIsRange rs → EntriesFit (ranges_followed rs) → RangesFit rs
  more_ranges_fit raw.no_ranges h f = tt
  more_ranges_fit (raw.more_ranges r rs) h f = (range_fits r h.0 (front_fits (range_spelling r) _ f.1), more_ranges_fit rs h.1 (rest_fits (range_spelling r) _ f.1))

  bound_fits : (b : BoundTree) → IsBound b → EntriesFit (bound_spelling b) → BoundFits b
  bound_fits (raw.value x) h f = expr_fits x h f
  bound_fits raw.dollar h f = tt

pub read_fits : ReadFits
read_fits text tokens ls e h r = expr_fits e r.levelled (entries_fit (numbered 0 ls) (expr_spelling e) [] r.spells.each (tokens_fit 0 text tokens ls h))

-- ---- depth

left_fits : (d a b m : ℕ) → d + (max a b + 1) ≤ m → d + a ≤ m
left_fits d a b m h = omega (arith, h)

right_fits : (d a b m : ℕ) → d + (max a b + 1) ≤ m → d + b ≤ m
right_fits d a b m h = omega (arith, h)

one_fits : (d a m : ℕ) → d + (a + 1) ≤ m → d + a ≤ m
one_fits d a m h = omega (arith, h)

first_third : (d a b c m : ℕ) → d + (max (max a b) c + 1) ≤ m → d + a ≤ m
first_third d a b c m h = omega (arith, h)

second_third : (d a b c m : ℕ) → d + (max (max a b) c + 1) ≤ m → d + b ≤ m
second_third d a b c m h = omega (arith, h)

last_third : (d a b c m : ℕ) → d + (max (max a b) c + 1) ≤ m → d + c ≤ m
last_third d a b c m h = omega (arith, h)

deeper : (d a b m : ℕ) → d + (max a b + 1) ≤ m → d + 1 + b ≤ m
deeper d a b m h = omega (arith, h)

less : (d a b m : ℕ) → d + max a b ≤ m → d + a ≤ m
less d a b m h = omega (arith, h)

less_right : (d a b m : ℕ) → d + max a b ≤ m → d + b ≤ m
less_right d a b m h = omega (arith, h)

below : (d m : ℕ) → d + 1 ≤ m → d < m
below d m h = omega (arith, h)

module _ (m : ℕ) (is : m ≡ 2 ^ 32) where
  depth_fits : (d : ℕ) → d + 1 ≤ m → d < 2 ^ 32
  depth_fits d h = let P : ℕ → Type 0 = λ k. d < k in subst P is (below d m h)

  mutual
    pub loops_fit : (d : ℕ) (e : ExprTree) → d + expr_height e ≤ m → LoopsFit d e
    loops_fit d (raw.number at v w s) h = tt
    loops_fit d (raw.path at s names call) h = depth_fits d h
    loops_fit d (raw.bit_select at x i call) h = (loops_fit d x (left_fits d (expr_height x) (expr_height i) m h), loops_fit d i (right_fits d (expr_height x) (expr_height i) m h))
    loops_fit d (raw.part_select at x f l call) h =
        (loops_fit d x (first_third d (expr_height x) (expr_height f) (expr_height l) m h), loops_fit d f (second_third d (expr_height x) (expr_height f) (expr_height l) m h), loops_fit d l (last_third d (expr_height x) (expr_height f) (expr_height l) m h))
    loops_fit d (raw.unary at op x) h = loops_fit d x (one_fits d (expr_height x) m h)
    loops_fit d (raw.binary at op x y) h = (loops_fit d x (left_fits d (expr_height x) (expr_height y) m h), loops_fit d y (right_fits d (expr_height x) (expr_height y) m h))
    loops_fit d (raw.choice at t x y) h =
        (loops_fit d t (first_third d (expr_height t) (expr_height x) (expr_height y) m h), loops_fit d x (second_third d (expr_height t) (expr_height x) (expr_height y) m h), loops_fit d y (last_third d (expr_height t) (expr_height x) (expr_height y) m h))
    loops_fit d (raw.inside at x rs) h = (loops_fit d x (left_fits d (expr_height x) (ranges_height rs) m h), ranges_loops d rs (right_fits d (expr_height x) (ranges_height rs) m h))
    loops_fit d (raw.join at xs) h = all_loops d xs (one_fits d (exprs_height xs) m h)
    loops_fit d (raw.copies at n xs) h = (loops_fit d n (left_fits d (expr_height n) (exprs_height xs) m h), all_loops d xs (right_fits d (expr_height n) (exprs_height xs) m h))
    loops_fit d (raw.sign at s x) h = loops_fit d x (one_fits d (expr_height x) m h)
    loops_fit d (raw.paren at x) h = loops_fit d x (one_fits d (expr_height x) m h)
    loops_fit d (raw.reduce at x op item body) h = (loops_fit d x (left_fits d (expr_height x) (expr_height body) m h), loops_fit (d + 1) body (deeper d (expr_height x) (expr_height body) m h))

    all_loops : (d : ℕ) (xs : ExprTrees) → d + exprs_height xs ≤ m → AllLoopsFit d xs
    all_loops d raw.no_exprs h = tt
    all_loops d (raw.more_exprs x xs) h = (loops_fit d x (less d (expr_height x) (exprs_height xs) m h), all_loops d xs (less_right d (expr_height x) (exprs_height xs) m h))

    ranges_loops : (d : ℕ) (rs : RangeTrees) → d + ranges_height rs ≤ m → RangesLoopsFit d rs
    ranges_loops d raw.no_ranges h = tt
    ranges_loops d (raw.more_ranges r rs) h = (range_loops d r (less d (range_height r) (ranges_height rs) m h), ranges_loops d rs (less_right d (range_height r) (ranges_height rs) m h))

    range_loops : (d : ℕ) (r : RangeTree) → d + range_height r ≤ m → RangeLoopsFit d r
    range_loops d (raw.one x) h = loops_fit d x h
    range_loops d (raw.span l g) h = (bound_loops d l (less d (bound_height l) (bound_height g) m h), bound_loops d g (less_right d (bound_height l) (bound_height g) m h))

    bound_loops : (d : ℕ) (b : BoundTree) → d + bound_height b ≤ m → BoundLoopsFit d b
    bound_loops d (raw.value x) h = loops_fit d x h
    bound_loops d raw.dollar h = tt

pub low_fits : LowFits
low_fits d e h = loops_fit (2 ^ 32) refl d e h
