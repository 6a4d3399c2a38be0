-- What more room and more turns change.
use Rattle.std.proofs.Common.{◌≡◌, ℕ, zero, suc, ◌+◌, ◌<◌, ◌≤◌, Bool, true, false, List, [], ◌∷◌, length, Option, Some, Ok, Err, cond, refl, sym, ◌∙◌, ap, subst, arith, length-append}
use Rattle.svr_token.specs.declared.Lexeme.{Lexeme}
use Rattle.svr_token.specs.declared.Lexeme.TheVariants as lexeme
use Rattle.std.specs.Prelude.{nat_le, ◌==◌}
use Rattle.std.proofs.lemmas.Bool.Decides.{nat_tests}
use Rattle.svr_tree.specs.Tokens.{Tok}
use Rattle.svr_reader.specs.Outcomes.{Unexpected, TooDeep, Stuck, Outcome, Parser, and_then, lexeme_at, taken, entered, Turn, go, done, turned, turns}
use Rattle.svr_reader.specs.declared.fixed.Fixed.{Fixed}
use Rattle.svr_reader.specs.Steps.{sees, eaten, expected, named_by, named}
use Rattle.svr_reader.specs.Program.{Program, pure, bind, refuse, peek, here, take, eat, expect, known_name, either, enter, call, loop, run}
use Rattle.svr_reader.proofs.Steps.{when}
use Rattle.svr_reader.proofs.Local.{IsLocal, StaysFor, Stays, local_run, local_turns}

-- fewer than n tokens are left
abbrev pub Past : {A : Type 0} → ℕ → Outcome A → Type 0
Past n (Ok y) = length y.1 < n
Past n (Err Stuck) = Unit {0}
Past n (Err (Unexpected k)) = k < n
Past n (Err (TooDeep k)) = k < n

-- what an outcome becomes: with the same room, or with more
abbrev pub Grown : {A : Type 0} → Bool → Outcome A → Outcome A → Type 0
Grown wider (Ok y) o = o ≡ Ok y
Grown wider (Err Stuck) o = Unit {0}
Grown wider (Err (Unexpected n)) o = o ≡ Err (Unexpected n)
Grown true (Err (TooDeep n)) o = Past n o
Grown false (Err (TooDeep n)) o = o ≡ Err (TooDeep n)

pub record Grows {A : Type 0} (wider : Bool) (p q : Parser A) : Type 0 where
  pub at : (i : List Tok) → Grown wider (p i) (q i)

-- more room is room for four levels more: a construct then gets past its first token
abbrev pub Rooms : Bool → ℕ → ℕ → Type 0
Rooms true r r2 = r + 4 ≤ r2
Rooms false r r2 = r2 ≡ r

shorter : {A : Type 0} (p : Parser A) (i j : List Tok) (o : List Tok → Outcome A) → Stays p i j o → length j ≤ length i
shorter p i j o s = let e : length i ≡ length s.front + length j = ap length s.is ∙ length-append s.front j in omega arith

pub past_by : {B : Type 0} (p : Parser B) (i : List Tok) (n : ℕ) (o : Outcome B) → length i < n → StaysFor p i o → Past n o
past_by p i n (Ok y) h s = omega (arith, h, shorter p i y.1 _ s)
past_by p i n (Err Stuck) h s = tt
past_by p i n (Err (Unexpected k)) h s = omega (arith, h, s.1, shorter p i s.0 _ s.2)
past_by p i n (Err (TooDeep k)) h s = omega (arith, h, s.1, shorter p i s.0 _ s.2)

pub past_then : {A B : Type 0} (n : ℕ) (f : A → Parser B) → ((x : A) → IsLocal (f x)) → (o : Outcome A) → Past n o → Past n (and_then o f)
past_then n f l (Ok y) h = past_by (f y.0) y.1 n (f y.0 y.1) h ((l y.0).at y.1)
past_then n f l (Err Stuck) h = tt
past_then n f l (Err (Unexpected k)) h = h
past_then n f l (Err (TooDeep k)) h = h

grown_then : {A B : Type 0} (wider : Bool) (f g : A → Parser B) → ((x : A) → IsLocal (g x)) → ((x : A) → Grows wider (f x) (g x)) → (o o2 : Outcome A) → Grown wider o o2 → Grown wider (and_then o f) (and_then o2 g)
grown_then wider f g l h (Ok y) o2 e = subst (λ v. Grown wider (f y.0 y.1) (and_then v g)) (sym e) ((h y.0).at y.1)
grown_then wider f g l h (Err Stuck) o2 e = tt
grown_then wider f g l h (Err (Unexpected n)) o2 e = ap (λ v. and_then v g) e
grown_then true f g l h (Err (TooDeep n)) o2 e = past_then n g l o2 e
grown_then false f g l h (Err (TooDeep n)) o2 e = ap (λ v. and_then v g) e

pub grows_bind : {A B : Type 0} (wider : Bool) (p q : Parser A) (f g : A → Parser B) → Grows wider p q → ((x : A) → IsLocal (g x)) → ((x : A) → Grows wider (f x) (g x)) → Grows wider (λ i. and_then (p i) f) (λ i. and_then (q i) g)
grows_bind wider p q f g a l b = record { at = λ i. grown_then wider f g l b (p i) (q i) (a.at i) }

le_more : (h r r2 : ℕ) → nat_le h r ≡ true → r ≤ r2 → nat_le h r2 ≡ true
le_more h r r2 a b = grind (arith, nat_tests)

le_next : (h r r2 : ℕ) → (h == suc r) ≡ true → r < r2 → nat_le h r2 ≡ true
le_next h r r2 a b = grind (arith, nat_tests)

rooms_le : (wider : Bool) (r r2 : ℕ) → Rooms wider r r2 → r ≤ r2
rooms_le true r r2 h = omega arith
rooms_le false r r2 h = omega arith

enter_by : (wider : Bool) (r r2 h : ℕ) (t : Tok) (i : List Tok) (a b : Bool) → Rooms wider r r2 → nat_le h r ≡ a → (h == suc r) ≡ b
    → Grown wider (cond a (Ok (t.at, i)) (cond b (Err (TooDeep (suc (length i)))) (Err Stuck))) (entered r2 h (t ∷ i))
enter_by wider r r2 h t i true b m e d = rw (le_more h r r2 e (rooms_le wider r r2 m)) refl
enter_by true r r2 h t i false true m e d = rw (le_next h r r2 d (omega arith)) (omega arith)
enter_by false r r2 h t i false true m e d = rw (m, e, d) refl
enter_by wider r r2 h t i false false m e d = tt

enter_at : (wider : Bool) (r r2 h : ℕ) → Rooms wider r r2 → (i : List Tok) → Grown wider (entered r h i) (entered r2 h i)
enter_at wider r r2 h m [] = refl
enter_at wider r r2 h m (t ∷ i) = enter_by wider r r2 h t i (nat_le h r) (h == suc r) m refl refl

taken_grown : (wider : Bool) (i : List Tok) → Grown wider (taken i) (taken i)
taken_grown wider [] = refl
taken_grown wider (t ∷ i) = refl

grows_turned : {S A : Type 0} (wider : Bool) (f g : S → Parser A) → ((s : S) → Grows wider (f s) (g s)) → (v : Turn S A) → Grows wider (turned f v) (turned g v)
grows_turned wider f g h (go s) = h s
grows_turned wider f g h (done a) = record { at = λ i. refl }

local_turned2 : {S A : Type 0} (n : ℕ) (step : S → Parser (Turn S A)) → ((s : S) → IsLocal (step s)) → (v : Turn S A) → IsLocal (turned (turns n step) v)
local_turned2 n step l (go s) = local_turns n step l s
local_turned2 n step l (done a) = record { at = λ i. record { front = []; is = refl; stays = λ k h. refl } }

grows_turns : {S A : Type 0} (wider : Bool) (n n2 : ℕ) (p q : S → Parser (Turn S A)) → ((s : S) → IsLocal (q s)) → n ≤ n2 → ((s : S) → Grows wider (p s) (q s)) → (s : S) → Grows wider (turns n p s) (turns n2 q s)
grows_turns wider zero n2 p q l m h s = record { at = λ i. tt }
grows_turns wider (suc n) zero p q l m h s = absurd (omega arith)
grows_turns wider (suc n) (suc n2) p q l m h s = grows_bind wider (p s) (q s) (turned (turns n p)) (turned (turns n2 q)) (h s) (local_turned2 n2 q l)
    (grows_turned wider (turns n p) (turns n2 q) (grows_turns wider n n2 p q l (omega arith) h))

grows_refl : {A : Type 0} (wider : Bool) (o : Outcome A) → ((n : ℕ) → o ≡ Err (TooDeep n) → ⊥) → Grown wider o o
grows_refl wider (Ok y) h = refl
grows_refl wider (Err Stuck) h = tt
grows_refl wider (Err (Unexpected n)) h = refl
grows_refl wider (Err (TooDeep n)) h = absurd (h n refl)

-- a parser that never wants room
grows_same : {A : Type 0} (wider : Bool) (p : Parser A) → ((i : List Tok) (n : ℕ) → p i ≡ Err (TooDeep n) → ⊥) → Grows wider p p
grows_same wider p h = record { at = λ i. grows_refl wider (p i) (h i) }

taken_shallow : {A : Type 0} (f : ℕ → A) (i : List Tok) (n : ℕ) → ◌≡◌ {A = Outcome A} (and_then (taken i) (λ a j. Ok (f a, j))) (Err (TooDeep n)) → ⊥
taken_shallow f [] n h = absurd (cc)
taken_shallow f (t ∷ i) n h = absurd (cc)

eaten_shallow : (k : Fixed) (i : List Tok) (n : ℕ) → eaten k i ≡ Err (TooDeep n) → ⊥
unfolding eaten
eaten_shallow k i n h = when (sees k i) (and_then (taken i) (λ _ j. Ok (true, j))) (Ok (false, i)) (Err (TooDeep n)) h (λ _ e. taken_shallow (λ _. true) i n e) (λ _ e. absurd (cc))

expected_shallow : (k : Fixed) (i : List Tok) (n : ℕ) → expected k i ≡ Err (TooDeep n) → ⊥
unfolding expected
expected_shallow k i n h = when (sees k i) (and_then (taken i) (λ _ j. Ok (tt, j))) (Err (Unexpected (length i))) (Err (TooDeep n)) h (λ _ e. taken_shallow (λ _. tt {0}) i n e) (λ _ e. absurd (cc))

named_by_shallow : (q : Option Lexeme) (i : List Tok) (n : ℕ) → named_by q i ≡ Err (TooDeep n) → ⊥
named_by_shallow (Some (lexeme.Name k)) i n h = taken_shallow (λ a. (a, k)) i n h
named_by_shallow _ i n h = absurd (cc)

named_shallow : (i : List Tok) (n : ℕ) → named i ≡ Err (TooDeep n) → ⊥
unfolding named
named_shallow i n h = named_by_shallow (lexeme_at i) i n h

module _ {K : Type 0} {Ans : K → Type 0} (wider : Bool) (n n2 r r2 : ℕ) (sub sub2 : (k : K) → Parser (Ans k)) (more : n ≤ n2) (rooms : Rooms wider r r2) (ls : (k : K) → IsLocal (sub2 k)) (h : (k : K) → Grows wider (sub k) (sub2 k)) where
  pub grows_run : {A : Type 0} (p : Program K Ans A) → Grows wider (run n r sub p) (run n2 r2 sub2 p)
  grows_run (pure a) = record { at = λ i. refl }
  grows_run (bind p f) = grows_bind wider (run n r sub p) (run n2 r2 sub2 p) (λ x. run n r sub (f x)) (λ x. run n2 r2 sub2 (f x)) (grows_run p) (λ x. local_run n2 r2 sub2 ls (f x)) (λ x. grows_run (f x))
  grows_run refuse = record { at = λ i. refl }
  grows_run peek = record { at = λ i. refl }
  grows_run here = record { at = λ i. refl }
  grows_run take = record { at = taken_grown wider }
  grows_run (eat k) = grows_same wider (eaten k) (eaten_shallow k)
  grows_run (expect k) = grows_same wider (expected k) (expected_shallow k)
  grows_run known_name = grows_same wider named named_shallow
  grows_run (either true p q) = grows_run p
  grows_run (either false p q) = grows_run q
  grows_run (enter h1) = record { at = enter_at wider r r2 h1 rooms }
  grows_run (call k) = h k
  grows_run (loop body s) = grows_turns wider n n2 (λ s2. run n r sub (body s2)) (λ s2. run n2 r2 sub2 (body s2)) (λ s2. local_run n2 r2 sub2 ls (body s2)) more (λ s2. grows_run (body s2)) s
