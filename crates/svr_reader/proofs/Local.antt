-- A program reads from the left: it sees no token behind the one at which it stops.
use Rattle.std.proofs.Common.{◌≡◌, ℕ, zero, suc, Bool, true, false, if◌then◌else◌, List, [], ◌∷◌, ◌++◌, length, Option, Some, Ok, Err, cond, refl, sym, ◌∙◌, ap, subst, append_assoc}
use Rattle.svr_token.specs.declared.Lexeme.{Lexeme}
use Rattle.svr_token.specs.declared.Lexeme.TheVariants as lexeme
use Rattle.std.specs.Prelude.{nat_le, ◌==◌}
use Rattle.svr_tree.specs.Tokens.{Tok}
use Rattle.svr_reader.specs.Outcomes.{Stop, Stuck, Unexpected, TooDeep, Turn, go, done, Outcome, Parser, and_then, lexeme_at, number_at, taken, entered, turned, turns}
use Rattle.svr_reader.specs.declared.fixed.Fixed.{Fixed}
use Rattle.svr_reader.specs.Steps.{is_fixed, eaten, expected, named_by, named}
use Rattle.svr_reader.specs.Program.{Program, pure, bind, refuse, peek, here, take, eat, expect, known_name, either, enter, call, loop, run}

-- the same first token, or none
abbrev pub SameHead : List Tok → List Tok → Type 0
SameHead [] k = k ≡ []
SameHead (t ∷ j) k = (m : List Tok) × (k ≡ t ∷ m)

same_head_append : (front j k : List Tok) → SameHead j k → SameHead (front ++ j) (front ++ k)
same_head_append [] j k h = h
same_head_append (t ∷ front) j k h = (front ++ k, refl)

pub record Stays {A : Type 0} (p : Parser A) (i j : List Tok) (o : List Tok → Outcome A) : Type 0 where
  pub front : List Tok
  pub is : i ≡ front ++ j
  pub stays : (k : List Tok) → SameHead j k → p (front ++ k) ≡ o k

abbrev pub StaysFor : {A : Type 0} → Parser A → List Tok → Outcome A → Type 0
StaysFor p i (Ok y) = Stays p i y.1 (λ k. Ok (y.0, k))
StaysFor p i (Err Stuck) = Unit {0}
StaysFor p i (Err (Unexpected n)) = (j : List Tok) × (n ≡ length j) × Stays p i j (λ k. Err (Unexpected (length k)))
StaysFor p i (Err (TooDeep n)) = (j : List Tok) × (n ≡ length j) × Stays p i j (λ k. Err (TooDeep (length k)))

pub record IsLocal {A : Type 0} (p : Parser A) : Type 0 where
  pub at : (i : List Tok) → StaysFor p i (p i)

-- one reading after another
then_stays : {A B : Type 0} (p : Parser A) (f : A → Parser B) (i j : List Tok) (x : A) (j2 : List Tok) (o : List Tok → Outcome B)
    → Stays p i j (λ k. Ok (x, k)) → Stays (f x) j j2 o → Stays (λ i. and_then (p i) f) i j2 o
then_stays p f i j x j2 o s t = record {
  front = s.front ++ t.front;
  is = s.is ∙ ap (λ v. s.front ++ v) t.is ∙ sym (append_assoc s.front t.front j2);
  stays = λ k h.
      ap (λ i. and_then (p i) f) (append_assoc s.front t.front k)
      ∙ ap (λ v. and_then v f) (s.stays (t.front ++ k) (subst (λ v. SameHead v (t.front ++ k)) (sym t.is) (same_head_append t.front j2 k h)))
      ∙ t.stays k h;
}

fails_stays : {A B : Type 0} (p : Parser A) (f : A → Parser B) (i j : List Tok) (e : List Tok → Stop) → Stays p i j (λ k. Err (e k)) → Stays (λ i. and_then (p i) f) i j (λ k. Err (e k))
fails_stays p f i j e s = record { front = s.front; is = s.is; stays = λ k h. ap (λ v. and_then v f) (s.stays k h) }

after : {A B : Type 0} (p : Parser A) (f : A → Parser B) (i j : List Tok) (x : A) → Stays p i j (λ k. Ok (x, k)) → (o : Outcome B) → StaysFor (f x) j o → StaysFor (λ i. and_then (p i) f) i o
after p f i j x s (Ok z) t = then_stays p f i j x z.1 _ s t
after p f i j x s (Err Stuck) t = t
after p f i j x s (Err (Unexpected n)) t = (t.0, t.1, then_stays p f i j x t.0 _ s t.2)
after p f i j x s (Err (TooDeep n)) t = (t.0, t.1, then_stays p f i j x t.0 _ s t.2)

binds_at : {A B : Type 0} (p : Parser A) (f : A → Parser B) → ((x : A) → IsLocal (f x)) → (i : List Tok) (o : Outcome A) → StaysFor p i o → StaysFor (λ i. and_then (p i) f) i (and_then o f)
binds_at p f l i (Ok y) s = after p f i y.1 y.0 s (f y.0 y.1) ((l y.0).at y.1)
binds_at p f l i (Err Stuck) s = s
binds_at p f l i (Err (Unexpected n)) s = (s.0, s.1, fails_stays p f i s.0 (λ k. Unexpected (length k)) s.2)
binds_at p f l i (Err (TooDeep n)) s = (s.0, s.1, fails_stays p f i s.0 (λ k. TooDeep (length k)) s.2)

pub local_bind : {A B : Type 0} (p : Parser A) (f : A → Parser B) → IsLocal p → ((x : A) → IsLocal (f x)) → IsLocal (λ i. and_then (p i) f)
local_bind p f l m = record { at = λ i. binds_at p f m i (p i) (l.at i) }

pub local_pure : {A : Type 0} (x : A) → IsLocal {A = A} (λ i. Ok (x, i))
local_pure x = record { at = λ i. record { front = []; is = refl; stays = λ k h. refl } }

local_refuse : {A : Type 0} → IsLocal {A = A} (λ i. Err (Unexpected (length i)))
local_refuse = record { at = λ i. (i, refl, record { front = []; is = refl; stays = λ k h. refl }) }

pub same_lexeme : (i k : List Tok) → SameHead i k → lexeme_at i ≡ lexeme_at k
same_lexeme [] k h = rw h refl
same_lexeme (t ∷ i) k h = rw h.1 refl

same_number : (i k : List Tok) → SameHead i k → number_at i ≡ number_at k
same_number [] k h = rw h refl
same_number (t ∷ i) k h = rw h.1 refl

local_peek : IsLocal (λ i. Ok (lexeme_at i, i))
local_peek = record { at = λ i. record { front = []; is = refl; stays = λ k h. ap (λ v. Ok (v, k)) (sym (same_lexeme i k h)) } }

local_here : IsLocal (λ i. Ok (number_at i, i))
local_here = record { at = λ i. record { front = []; is = refl; stays = λ k h. ap (λ v. Ok (v, k)) (sym (same_number i k h)) } }

take_at : (i : List Tok) → StaysFor taken i (taken i)
take_at [] = ([], refl, record { front = []; is = refl; stays = λ k h. rw h refl })
take_at (t ∷ i) = record { front = t ∷ []; is = refl; stays = λ k h. refl }

entered_by : (r h : ℕ) (t : Tok) (i : List Tok) (a b : Bool) → nat_le h r ≡ a → (h == suc r) ≡ b
    → StaysFor (entered r h) (t ∷ i) (cond a (Ok (t.at, i)) (cond b (Err (TooDeep (suc (length i)))) (Err Stuck)))
entered_by r h t i true b e d = record { front = t ∷ []; is = refl; stays = λ k s. rw e refl }
entered_by r h t i false true e d = (t ∷ i, refl, record { front = []; is = refl; stays = λ k s. subst (λ v. entered r h v ≡ Err (TooDeep (length v))) (sym s.1) (rw (e, d) refl) })
entered_by r h t i false false e d = tt

entered_at : (r h : ℕ) (i : List Tok) → StaysFor (entered r h) i (entered r h i)
entered_at r h [] = ([], refl, record { front = []; is = refl; stays = λ k s. rw s refl })
entered_at r h (t ∷ i) = entered_by r h t i (nat_le h r) (h == suc r) refl refl

local_taken : IsLocal taken
local_taken = record { at = take_at }

-- one way or the other
local_cond : {A : Type 0} (b : Bool) (p q : Parser A) → IsLocal p → IsLocal q → IsLocal (λ i. if b then p i else q i)
local_cond true p q l m = l
local_cond false p q l m = m

pub local_eaten : (k : Fixed) → IsLocal (eaten k)
unfolding eaten
local_eaten k = local_bind (λ i. Ok (lexeme_at i, i)) (λ q i. if is_fixed k q then and_then (taken i) (λ _ j. Ok (true, j)) else Ok (false, i)) local_peek
    (λ q. local_cond (is_fixed k q) (λ i. and_then (taken i) (λ _ j. Ok (true, j))) (λ i. Ok (false, i)) (local_bind taken (λ _ j. Ok (true, j)) local_taken (λ _. local_pure true)) (local_pure false))

pub local_expected : (k : Fixed) → IsLocal (expected k)
unfolding expected
local_expected k = local_bind (λ i. Ok (lexeme_at i, i)) (λ q i. if is_fixed k q then and_then (taken i) (λ _ j. Ok (tt, j)) else Err (Unexpected (length i))) local_peek
    (λ q. local_cond (is_fixed k q) (λ i. and_then (taken i) (λ _ j. Ok (tt, j))) (λ i. Err (Unexpected (length i))) (local_bind taken (λ _ j. Ok (tt, j)) local_taken (λ _. local_pure tt)) local_refuse)

named_by_local : (q : Option Lexeme) → IsLocal (named_by q)
named_by_local (Some (lexeme.Name k)) = local_bind taken (λ n j. Ok ((n, k), j)) local_taken (λ n. local_pure (n, k))
named_by_local _ = local_refuse

pub local_named : IsLocal named
unfolding named
local_named = local_bind (λ i. Ok (lexeme_at i, i)) named_by local_peek named_by_local

local_turned : {S A : Type 0} (more : S → Parser A) → ((s : S) → IsLocal (more s)) → (v : Turn S A) → IsLocal (turned more v)
local_turned more l (go s) = l s
local_turned more l (done a) = local_pure a

local_memory : {A : Type 0} → IsLocal {A = A} (λ i. Err Stuck)
local_memory = record { at = λ i. tt }

pub local_turns : {S A : Type 0} (n : ℕ) (step : S → Parser (Turn S A)) → ((s : S) → IsLocal (step s)) → (s : S) → IsLocal (turns n step s)
local_turns zero step l s = local_memory
local_turns (suc n) step l s = local_bind (step s) (turned (turns n step)) (l s) (local_turned (turns n step) (local_turns n step l))

module _ {K : Type 0} {Ans : K → Type 0} (most r : ℕ) (sub : (k : K) → Parser (Ans k)) (ls : (k : K) → IsLocal (sub k)) where
  pub local_run : {A : Type 0} (p : Program K Ans A) → IsLocal (run most r sub p)
  local_run (pure a) = local_pure a
  local_run (bind p f) = local_bind (run most r sub p) (λ x. run most r sub (f x)) (local_run p) (λ x. local_run (f x))
  local_run refuse = local_refuse
  local_run peek = local_peek
  local_run here = local_here
  local_run take = local_taken
  local_run (eat k) = local_eaten k
  local_run (expect k) = local_expected k
  local_run known_name = local_named
  local_run (either true p q) = local_run p
  local_run (either false p q) = local_run q
  local_run (enter h) = record { at = entered_at r h }
  local_run (call k) = ls k
  local_run (loop body s) = local_turns most (λ s2. run most r sub (body s2)) (λ s2. local_run (body s2)) s
