-- Laws of the steps that every production is made of. They speak of `FitEach`, which is by cases on the tokens; `FitsAll` holds it as its one field.
use Rattle.std.proofs.Common.{◌≡◌, ℕ, suc, ◌+◌, ◌≤◌, Bool, true, false, if◌then◌else◌, List, [], ◌∷◌, ◌++◌, length, Option, Some, None, Ok, Err, cond, refl, sym, ◌∙◌, ap, subst, arith, rules}
use Rattle.std.specs.Prelude.{nat_le, ◌==◌}
use Rattle.std.proofs.lemmas.Bool.Decides.{nat_tests}
use denote.Enum.Bare.{same_true, true_same}
use Rattle.svr_token.specs.contracts.Word as words
use Rattle.svr_token.specs.contracts.Mark as marks
use Rattle.svr_token.specs.declared.Lexeme.{Lexeme}
use Rattle.svr_token.specs.declared.Lexeme.TheVariants as l
use Rattle.svr_token.specs.declared.Word.{Word}
use Rattle.svr_token.specs.declared.Mark.{Mark}
use Rattle.svr_token.specs.declared.NameKind.{NameKind}
use Rattle.svr_tree.specs.Tokens.{Tok, Entry, On, Any, Name, Fits, FitEach}
use Rattle.svr_reader.specs.Outcomes.{Stop, Unexpected, TooDeep, Stuck, Outcome, Parser, and_then, lexeme_at, taken, entered, Turn, go, done, turned}
use Rattle.svr_reader.specs.declared.fixed.Fixed.{Fixed}
use Rattle.svr_reader.specs.declared.fixed.Fixed.TheVariants as f
use Rattle.svr_reader.specs.Program.{Program, pure, bind, eat, expect, known_name, either, run}
use Rattle.svr_reader.specs.Steps.{same_word, same_mark, fixed_lexeme, is_fixed, sees, eaten, expected, named_by, named}
use Rattle.svr_reader.specs.Lists.{choose, name, led}

-- ---- outcomes

pub bind_ok : {A B : Type 0} (o : Outcome A) (f : A → Parser B) (y : B × List Tok) {G : Type 0} → and_then o f ≡ Ok y
    → ((x : A) (j : List Tok) → o ≡ Ok (x, j) → f x j ≡ Ok y → G) → G
bind_ok (Ok x) f y h g = g x.0 x.1 refl h
bind_ok (Err e) f y h g = absurd (cc)

pub bind_is : {A B : Type 0} (o : Outcome A) (f : A → Parser B) (x : A) (j : List Tok) (y : Outcome B) → o ≡ Ok (x, j) → f x j ≡ y → and_then o f ≡ y
bind_is o f x j y h k = subst (λ v. and_then v f ≡ y) (sym h) k

-- what holds of an answer and the tokens left
pub yields : {A : Type 0} (P : A → List Tok → Type 0) (x : A) (rest : List Tok) (y : A × List Tok) → ◌≡◌ {A = Outcome A} (Ok (x, rest)) (Ok y) → P x rest → P y.0 y.1
yields P x rest y h p = let e : (x, rest) ≡ y = cc in subst (λ z. P z.0 z.1) e p

turn_of : {S A G : Type 0} (v : Turn S A) (j : List Tok) (f : S → Parser A) (y : A × List Tok) → turned f v j ≡ Ok y
    → ((s2 : S) → v ≡ go s2 → f s2 j ≡ Ok y → G) → ((a : A) → v ≡ done a → ◌≡◌ {A = Outcome A} (Ok (a, j)) (Ok y) → G) → G
turn_of (go s) j f y h g d = g s refl h
turn_of (done a) j f y h g d = d a refl h

-- a turn went on, or ended
pub turn_ok : {S A G : Type 0} (o : Outcome (Turn S A)) (f : S → Parser A) (y : A × List Tok) → and_then o (turned f) ≡ Ok y
    → ((s2 : S) (j : List Tok) → o ≡ Ok (go s2, j) → f s2 j ≡ Ok y → G) → ((a : A) (j : List Tok) → o ≡ Ok (done a, j) → ◌≡◌ {A = Outcome A} (Ok (a, j)) (Ok y) → G) → G
turn_ok (Ok v) f y h g d = turn_of v.0 v.1 f y h (λ s2 e. g s2 v.1 (ap (λ z. Ok (z, v.1)) e)) (λ a e. d a v.1 (ap (λ z. Ok (z, v.1)) e))
turn_ok (Err e) f y h g d = absurd (cc)

-- ---- tests

pub when : {A G : Type 0} (b : Bool) (p q y : A) → cond b p q ≡ y → (b ≡ true → p ≡ y → G) → (b ≡ false → q ≡ y → G) → G
when true p q y h f g = f refl h
when false p q y h f g = g refl h

pub cond_true : {A : Type 0} (b : Bool) (p q : A) → b ≡ true → cond b p q ≡ p
cond_true b p q h = rw h refl

pub cond_false : {A : Type 0} (b : Bool) (p q : A) → b ≡ false → cond b p q ≡ q
cond_false b p q h = rw h refl

-- ---- entries

pub takes_append : (i : List Tok) (es fs : List Entry) (mid rest : List Tok) → FitEach i es mid → FitEach mid fs rest → FitEach i (es ++ fs) rest
takes_append i [] fs mid rest h k = rw h k
takes_append [] (e ∷ es) fs mid rest h k = absurd h
takes_append (t ∷ i) (e ∷ es) fs mid rest h k = (h.0, takes_append i es fs mid rest h.1 k)

pub takes_parts : (i : List Tok) (es fs : List Entry) (rest : List Tok) → FitEach i (es ++ fs) rest → (mid : List Tok) × FitEach i es mid × FitEach mid fs rest
takes_parts i [] fs rest h = (i, refl, h)
takes_parts [] (e ∷ es) fs rest h = absurd h
takes_parts (t ∷ i) (e ∷ es) fs rest h = let p = takes_parts i es fs rest h.1 in (p.0, (h.0, p.1), p.2)

pub takes_length : (i : List Tok) (es : List Entry) (rest : List Tok) → FitEach i es rest → length i ≡ length es + length rest
takes_length i [] rest h = rw h (omega arith)
takes_length [] (e ∷ es) rest h = absurd h
takes_length (t ∷ i) (e ∷ es) rest h = omega (arith, takes_length i es rest h.1)

-- no more tokens are left than there were
pub takes_less : (i : List Tok) (es : List Entry) (rest : List Tok) → FitEach i es rest → length rest ≤ length i
takes_less i es rest h = omega (arith, takes_length i es rest h)

pub lexeme_of : (i rest : List Tok) (q : Lexeme) (es : List Entry) → FitEach i (Any q ∷ es) rest → lexeme_at i ≡ Some q
lexeme_of [] rest q es h = absurd h
lexeme_of (t ∷ i) rest q es h = ap Some h.0

pub lexeme_on : (i rest : List Tok) (n : ℕ) (q : Lexeme) (es : List Entry) → FitEach i (On n q ∷ es) rest → lexeme_at i ≡ Some q
lexeme_on [] rest n q es h = absurd h
lexeme_on (t ∷ i) rest n q es h = ap Some h.0.1

-- the first token of those that fit one entry or more
pub record Opens (i : List Tok) (e : Entry) (es : List Entry) (rest : List Tok) : Type 0 where
  pub t : Tok
  pub j : List Tok
  pub is : i ≡ t ∷ j
  pub fits : Fits e t
  pub others : FitEach j es rest

pub takes_first : (i : List Tok) (e : Entry) (es : List Entry) (rest : List Tok) → FitEach i (e ∷ es) rest → Opens i e es rest
takes_first [] e es rest h = absurd h
takes_first (t ∷ i) e es rest h = record { t = t; j = i; is = refl; fits = h.0; others = h.1 }

-- ---- words and marks

pub same_word_is : (k l : Word) → same_word k l ≡ true → k ≡ l
unfolding same_word
same_word_is k l h = same_true words.the_type (search rules) k l h

pub same_mark_is : (k l : Mark) → same_mark k l ≡ true → k ≡ l
unfolding same_mark
same_mark_is k l h = same_true marks.the_type (search rules) k l h

pub same_word_self : (k : Word) → same_word k k ≡ true
unfolding same_word
same_word_self k = true_same words.the_type k k refl

pub same_mark_self : (k : Mark) → same_mark k k ≡ true
unfolding same_mark
same_mark_self k = true_same marks.the_type k k refl

pub fixed_is : (k : Fixed) (q : Option Lexeme) → is_fixed k q ≡ true → q ≡ Some (fixed_lexeme k)
fixed_is (f.Word w) (Some (l.Word v)) h = ap (λ z. Some (l.Word z)) (same_word_is v w h)
fixed_is (f.Mark m) (Some (l.Mark v)) h = ap (λ z. Some (l.Mark z)) (same_mark_is v m h)
fixed_is _ _ h = absurd (cc)

-- the same of a token that is there
pub fixed_token : (k : Fixed) (q : Lexeme) → is_fixed k (Some q) ≡ true → q ≡ fixed_lexeme k
fixed_token k q h = let is : Some q ≡ Some (fixed_lexeme k) = fixed_is k (Some q) h in cc

-- the end of the text is no word or mark
pub fixed_none : (k : Fixed) → is_fixed k None ≡ false
fixed_none (f.Word w) = refl
fixed_none (f.Mark m) = refl

fixed_self_by : (k : Fixed) → is_fixed k (Some (fixed_lexeme k)) ≡ true
fixed_self_by (f.Word w) = same_word_self w
fixed_self_by (f.Mark m) = same_mark_self m

pub fixed_self : (k : Fixed) (q : Option Lexeme) → q ≡ Some (fixed_lexeme k) → is_fixed k q ≡ true
fixed_self k q h = rw h (fixed_self_by k)

-- the token was taken, or something else stands there
abbrev pub Saw : Fixed → List Tok → Bool → List Tok → Type 0
Saw k i true rest = FitEach i (Any (fixed_lexeme k) ∷ []) rest
Saw k i false rest = (rest ≡ i) × (sees k i ≡ false)

-- ---- the first token of a construct

pub record Enters (r h : ℕ) (i : List Tok) (at : ℕ) (j : List Tok) : Type 0 where
  pub t : Tok
  pub is : i ≡ t ∷ j
  pub number : at ≡ t.at
  pub fits : h ≤ r

pub entered_ok : (r h : ℕ) (i : List Tok) (at : ℕ) (j : List Tok) → entered r h i ≡ Ok (at, j) → Enters r h i at j
entered_ok r h [] at j e = absurd (cc)
entered_ok r h (t ∷ i) at j e = when (nat_le h r) (Ok (t.at, i)) (cond (h == suc r) (Err (TooDeep (suc (length i)))) (Err Stuck)) (Ok (at, j)) e
    (λ w g. let both : ◌≡◌ {A = ℕ × List Tok} (t.at, i) (at, j) = cc in record { t = t; is = ap (λ z. t ∷ z.1) both; number = sym (ap (λ z. z.0) both); fits = lower w })
    (λ w g. when (h == suc r) (Err (TooDeep (suc (length i)))) (Err Stuck) (Ok (at, j)) g (λ _ f. absurd (cc)) (λ _ f. absurd (cc)))
  where
    lower : nat_le h r ≡ true → h ≤ r
    lower w = grind (arith, nat_tests)

pub entered_is : (r h : ℕ) (t : Tok) (i : List Tok) → h ≤ r → entered r h (t ∷ i) ≡ Ok (t.at, i)
entered_is r h t i less = cond_true (nat_le h r) _ _ (raise less)
  where
    raise : h ≤ r → nat_le h r ≡ true
    raise w = grind (arith, nat_tests)

-- ---- steps as programs

module _ {K : Type 0} {Ans : K → Type 0} (most r : ℕ) (sub : (k : K) → Parser (Ans k)) where
  abbrev R : {A : Type 0} → Program K Ans A → Parser A
  R p = run most r sub p

  pub choose_ok : {A G : Type 0} (b : Bool) (p q : Program K Ans A) (i : List Tok) (y : Outcome A) → R (choose b p q) i ≡ y → (b ≡ true → R p i ≡ y → G) → (b ≡ false → R q i ≡ y → G) → G
  choose_ok true p q i y h f g = f refl h
  choose_ok false p q i y h f g = g refl h

  pub choose_true : {A : Type 0} (b : Bool) (p q : Program K Ans A) (i : List Tok) → b ≡ true → R (choose b p q) i ≡ R p i
  choose_true b p q i h = subst (λ v. R (choose v p q) i ≡ R p i) (sym h) refl

  pub choose_false : {A : Type 0} (b : Bool) (p q : Program K Ans A) (i : List Tok) → b ≡ false → R (choose b p q) i ≡ R q i
  choose_false b p q i h = subst (λ v. R (choose v p q) i ≡ R q i) (sym h) refl

  pub either_true : {A : Type 0} (b : Bool) (p q : Program K Ans A) (i : List Tok) → b ≡ true → R (either b p q) i ≡ R p i
  either_true b p q i h = subst (λ v. R (either v p q) i ≡ R p i) (sym h) refl

  pub either_false : {A : Type 0} (b : Bool) (p q : Program K Ans A) (i : List Tok) → b ≡ false → R (either b p q) i ≡ R q i
  either_false b p q i h = subst (λ v. R (either v p q) i ≡ R q i) (sym h) refl

  -- the token that has to come was taken
  pub expect_ok : (k : Fixed) (i : List Tok) (y : Unit {0} × List Tok) → R (expect k) i ≡ Ok y → FitEach i (Any (fixed_lexeme k) ∷ []) y.1
  unfolding expected
  expect_ok k [] y h = when (is_fixed k None) (Err (Unexpected 0)) (Err (Unexpected 0)) (Ok y) h (λ w e. absurd (cc)) (λ w e. absurd (cc))
  expect_ok k (t ∷ i) y h = when (is_fixed k (Some t.lexeme)) (Ok (tt, i)) (Err (Unexpected (length (t ∷ i)))) (Ok y) h
      (λ w e. let same : ◌≡◌ {A = Unit {0} × List Tok} (tt, i) y = cc in (fixed_token k t.lexeme w, ap (λ z. z.1) same))
      (λ w e. absurd (cc))

  pub eat_ok : (k : Fixed) (i : List Tok) (y : Bool × List Tok) → R (eat k) i ≡ Ok y → Saw k i y.0 y.1
  unfolding eaten
  eat_ok k [] y h = when (is_fixed k None) (Err (Unexpected 0)) (Ok (false, [])) (Ok y) h (λ w e. absurd (cc)) (λ w e. yields (Saw k []) false [] y e (refl, w))
  eat_ok k (t ∷ i) y h = when (is_fixed k (Some t.lexeme)) (Ok (true, i)) (Ok (false, t ∷ i)) (Ok y) h
      (λ w e. yields (Saw k (t ∷ i)) true i y e (fixed_token k t.lexeme w, refl))
      (λ w e. yields (Saw k (t ∷ i)) false (t ∷ i) y e (refl, w))

  -- to take a word or mark that may come next meets no fault
  pub eat_never : (k : Fixed) (i : List Tok) (e : Stop) → R (eat k) i ≡ Err e → ⊥
  unfolding eaten
  eat_never k [] e h = when (is_fixed k None) (Err (Unexpected 0)) (Ok (false, [])) (Err e) h (λ w g. let n = fixed_none k in absurd (cc)) (λ w g. absurd (cc))
  eat_never k (t ∷ i) e h = when (is_fixed k (Some t.lexeme)) (Ok (true, i)) (Ok (false, t ∷ i)) (Err e) h (λ w g. absurd (cc)) (λ w g. absurd (cc))

  -- the token stands there
  pub expects : (k : Fixed) (i rest : List Tok) → FitEach i (Any (fixed_lexeme k) ∷ []) rest → R (expect k) i ≡ Ok (tt, rest)
  unfolding expected
  expects k [] rest h = absurd h
  expects k (t ∷ i) rest h = cond_true (is_fixed k (Some t.lexeme)) (Ok (tt, i)) (Err (Unexpected (length (t ∷ i)))) (fixed_self k (Some t.lexeme) (ap Some h.0)) ∙ ap (λ v. Ok (tt, v)) h.1

  pub eats : (k : Fixed) (i rest : List Tok) → FitEach i (Any (fixed_lexeme k) ∷ []) rest → R (eat k) i ≡ Ok (true, rest)
  unfolding eaten
  eats k [] rest h = absurd h
  eats k (t ∷ i) rest h = cond_true (is_fixed k (Some t.lexeme)) (Ok (true, i)) (Ok (false, t ∷ i)) (fixed_self k (Some t.lexeme) (ap Some h.0)) ∙ ap (λ v. Ok (true, v)) h.1

  pub eat_not : (k : Fixed) (i : List Tok) → sees k i ≡ false → R (eat k) i ≡ Ok (false, i)
  unfolding eaten
  eat_not k i h = cond_false (sees k i) (and_then (taken i) (λ _ j. Ok (true, j))) (Ok (false, i)) h

  -- ---- names

  named_ok : (q : Option Lexeme) (i : List Tok) (y : (ℕ × NameKind) × List Tok) → lexeme_at i ≡ q → named_by q i ≡ Ok y → FitEach i (On y.0.0 (l.Name y.0.1) ∷ []) y.1
  named_ok (Some (l.Name k)) [] y e h = absurd (cc)
  named_ok (Some (l.Name k)) (t ∷ i) y e h = let is : t.lexeme ≡ l.Name k = cc in yields (λ x j. FitEach (t ∷ i) (On x.0 (l.Name x.1) ∷ []) j) (t.at, k) i y h ((refl, is), refl)
  named_ok _ i y e h = absurd (cc)

  -- the name was taken
  pub known_name_sound : (i : List Tok) (x : ℕ × NameKind) (j : List Tok) → R known_name i ≡ Ok (x, j) → FitEach i (On x.0 (l.Name x.1) ∷ []) j
  unfolding named
  known_name_sound i x j h = named_ok (lexeme_at i) i (x, j) refl h

  pub known_name_complete : (n : ℕ) (k : NameKind) (i rest : List Tok) → FitEach i (On n (l.Name k) ∷ []) rest → R known_name i ≡ Ok ((n, k), rest)
  unfolding named
  known_name_complete n k [] rest h = absurd h
  known_name_complete n k (t ∷ i) rest h = ap (λ q. named_by (Some q) (t ∷ i)) h.0.1 ∙ (let at = h.0.0 in let end = h.1 in cc)

  pub name_sound : (i : List Tok) (x : ℕ) (j : List Tok) → R name i ≡ Ok (x, j) → FitEach i (Name x ∷ []) j
  name_sound i x j h = bind_ok (named i) (λ n j2. Ok (n.0, j2)) (x, j) h (λ n j2 e g.
      let both : ◌≡◌ {A = ℕ × List Tok} (n.0, j2) (x, j) = cc in
      subst (λ z. FitEach i (Name z.0 ∷ []) z.1) both (a_name i n.0 n.1 j2 (known_name_sound i n j2 e)))
    where
      a_name : (i : List Tok) (n : ℕ) (k : NameKind) (j : List Tok) → FitEach i (On n (l.Name k) ∷ []) j → FitEach i (Name n ∷ []) j
      a_name [] n k j h = absurd h
      a_name (t ∷ i) n k j h = ((h.0.0, record { kind = k; is = h.0.1 }), h.1)

  pub name_complete : (n : ℕ) (i rest : List Tok) → FitEach i (Name n ∷ []) rest → R name i ≡ Ok (n, rest)
  name_complete n [] rest h = absurd h
  name_complete n (t ∷ i) rest h = bind_is (named (t ∷ i)) (λ x j. Ok (x.0, j)) (n, h.0.1.kind) rest _ (known_name_complete n h.0.1.kind (t ∷ i) rest ((h.0.0, h.0.1.is), h.1)) refl

  -- ---- one way behind a word or mark, another without it

  module _ {A : Type 0} (k : Fixed) (p q : Program K Ans A) where
    pub led_yes : (t : Tok) (z : List Tok) → t.lexeme ≡ fixed_lexeme k → R (led k p q) (t ∷ z) ≡ R p z
    led_yes t z h = bind_is (R (eat k) (t ∷ z)) (λ f. R (either f p q)) true z _ (eats k (t ∷ z) z (h, refl)) refl

    pub led_no : (z : List Tok) → sees k z ≡ false → R (led k p q) z ≡ R q z
    led_no z h = bind_is (R (eat k) z) (λ f. R (either f p q)) false z _ (eat_not k z h) refl

    pub led_takes : (i mid : List Tok) → FitEach i (Any (fixed_lexeme k) ∷ []) mid → R (led k p q) i ≡ R p mid
    led_takes [] mid h = absurd h
    led_takes (t ∷ i) mid h = led_yes t i h.0 ∙ ap (λ z. R p z) h.1

    pub led_cases : {Y : Type 0} (i : List Tok) (o : Outcome A) → R (led k p q) i ≡ o → ((t : Tok) (z : List Tok) → i ≡ t ∷ z → t.lexeme ≡ fixed_lexeme k → R p z ≡ o → Y) → (sees k i ≡ false → R q i ≡ o → Y) → Y
    led_cases [] o h f g = g (fixed_none k) (sym (led_no [] (fixed_none k)) ∙ h)
    led_cases {Y = Y} (t ∷ i) o h f g = by (is_fixed k (Some t.lexeme)) refl
      where
        by : (b : Bool) → is_fixed k (Some t.lexeme) ≡ b → Y
        by true w = let is = fixed_token k t.lexeme w in f t i refl is (sym (led_yes t i is) ∙ h)
        by false w = g w (sym (led_no (t ∷ i) w) ∙ h)

    -- the token was taken, or something else stands there
    pub led_ok : {Y : Type 0} (i : List Tok) (y : A × List Tok) → R (led k p q) i ≡ Ok y → ((mid : List Tok) → FitEach i (Any (fixed_lexeme k) ∷ []) mid → R p mid ≡ Ok y → Y) → (sees k i ≡ false → R q i ≡ Ok y → Y) → Y
    led_ok i y h f g = led_cases i (Ok y) h (λ t z is w e. f z (subst (λ v. FitEach v (Any (fixed_lexeme k) ∷ []) z) (sym is) (w, refl)) e) g
