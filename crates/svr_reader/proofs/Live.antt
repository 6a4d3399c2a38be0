-- Where a reading fails, what was read so far can be completed.
use Rattle.std.proofs.Common.{◌≡◌, ℕ, suc, ◌+◌, ◌<◌, ◌≤◌, Bool, true, false, List, [], ◌∷◌, ◌++◌, length, Option, Some, Ok, Err, cond, ◌⊎◌, inl, inr, refl, sym, ◌∙◌, ap, subst, arith, append_assoc, length-append}
use Rattle.std.specs.Prelude.{nat_le, nat_lt, ◌==◌}
use Rattle.std.proofs.lemmas.Bool.Decides.{nat_tests}
use Rattle.svr_token.specs.declared.Lexeme.{Lexeme}
use Rattle.svr_tree.specs.Tokens.{Tok}
use Rattle.svr_reader.specs.Outcomes.{Stop, Stuck, Unexpected, TooDeep, Outcome, Parser, and_then, lexeme_at, number_at, taken, entered}
use Rattle.svr_reader.proofs.Steps.{bind_is, bind_ok, entered_ok, entered_is}
use Rattle.svr_reader.proofs.Local.{SameHead, Stays, StaysFor, IsLocal}

-- the fault stands where n tokens are left
abbrev pub FaultsAt : Stop → ℕ → Type 0
FaultsAt Stuck n = ⊥
FaultsAt (Unexpected k) n = n ≡ k
FaultsAt (TooDeep k) n = n ≡ k

abbrev pub AnyToken : Option Lexeme → Type 0
AnyToken k = Unit {0}

-- all but the last n tokens, then some more, then any of C, is read up to that, with an answer of Q
pub record Completes {A : Type 0} (C : Option Lexeme → Type 0) (Q : A → Type 0) (p : Parser A) (i : List Tok) (n : ℕ) : Type 0 where
  pub front : List Tok
  pub j : List Tok
  pub is : i ≡ front ++ j
  pub len : n ≡ length j
  pub more : List Tok
  pub x : A
  pub good : Q x
  pub ends : (s : List Tok) → C (lexeme_at s) → p (front ++ (more ++ s)) ≡ Ok (x, s)

-- a fault behind the first token can be completed, and p gets stuck nowhere
pub record Later {A : Type 0} (most : ℕ) (C : Option Lexeme → Type 0) (Q : A → Type 0) (p : Parser A) : Type 0 where
  pub later : (i : List Tok) (e : Stop) (n : ℕ) → length i < most → p i ≡ Err e → FaultsAt e n → n < length i → Completes C Q p i n
  pub safe : (i : List Tok) → length i < most → p i ≡ Err Stuck → ⊥

-- some tokens are read whole; they and what follows begin with one of D
pub record Finishes {A : Type 0} (D C : Option Lexeme → Type 0) (Q : A → Type 0) (p : Parser A) : Type 0 where
  pub more : List Tok
  pub x : A
  pub good : Q x
  pub opens : (s : List Tok) → C (lexeme_at s) → D (lexeme_at (more ++ s))
  pub ends : (s : List Tok) → C (lexeme_at s) → p (more ++ s) ≡ Ok (x, s)

pub record Alive {A : Type 0} (most : ℕ) (D C : Option Lexeme → Type 0) (Q : A → Type 0) (p : Parser A) : Type 0 where
  pub fin : Finishes D C Q p
  pub later : Later most C Q p

pub record Settled {A : Type 0} (D : Option Lexeme → Type 0) (R : A → Type 0) (p : Parser A) (i : List Tok) (x : A) (j : List Tok) : Type 0 where
  pub good : R x
  pub front : List Tok
  pub is : i ≡ front ++ j
  pub closes : (k : List Tok) → D (lexeme_at k) → p (front ++ k) ≡ Ok (x, k)

-- what was read stays read before any of D, and is good
pub record Settles {A : Type 0} (most : ℕ) (D : Option Lexeme → Type 0) (R : A → Type 0) (p : Parser A) : Type 0 where
  pub at : (i : List Tok) (x : A) (j : List Tok) → length i < most → p i ≡ Ok (x, j) → Settled D R p i x j

pub record Living {A : Type 0} (most : ℕ) (D0 D : Option Lexeme → Type 0) (R : A → Type 0) (p : Parser A) : Type 0 where
  pub settles : Settles most D R p
  pub alive : Alive most D0 D R p

pub bind_err : {A B G : Type 0} (o : Outcome A) (f : A → Parser B) (e : Stop) → and_then o f ≡ Err e → (o ≡ Err e → G) → ((x : A) (j : List Tok) → o ≡ Ok (x, j) → f x j ≡ Err e → G) → G
bind_err (Ok y) f e h g k = k y.0 y.1 refl h
bind_err (Err d) f e h g k = let same : d ≡ e = cc in g (ap Err same)

pub split : {G : Type 0} (a b : ℕ) → (a < b → G) → (b ≤ a → G) → G
split {G = G} a b f g = by (nat_lt a b) refl
  where
    by : (t : Bool) → nat_lt a b ≡ t → G
    by true h = f (grind (arith, nat_tests))
    by false h = g (grind (arith, nat_tests))

pub ok_stays : {A : Type 0} (p : Parser A) → IsLocal p → (i : List Tok) (x : A) (j : List Tok) → p i ≡ Ok (x, j) → Stays p i j (λ k. Ok (x, k))
ok_stays p l i x j e = subst (λ o. StaysFor p i o) e (l.at i)

front_length : (i front j : List Tok) → i ≡ front ++ j → length j ≤ length i
front_length i front j e = let f : length i ≡ length front + length j = ap length e ∙ length-append front j in omega arith

pub ok_shorter : {A : Type 0} (p : Parser A) → IsLocal p → (i : List Tok) (x : A) (j : List Tok) → p i ≡ Ok (x, j) → length j ≤ length i
ok_shorter p l i x j e = let s = ok_stays p l i x j e in front_length i s.front j s.is

fault_by : {A : Type 0} (p : Parser A) (i : List Tok) (e : Stop) (n : ℕ) → StaysFor p i (Err e) → FaultsAt e n → n ≤ length i
fault_by p i Stuck n s h = absurd h
fault_by p i (Unexpected k) n s h = omega (arith, h, s.1, front_length i s.2.front s.0 s.2.is)
fault_by p i (TooDeep k) n s h = omega (arith, h, s.1, front_length i s.2.front s.0 s.2.is)

pub fault_within : {A : Type 0} (p : Parser A) → IsLocal p → (i : List Tok) (e : Stop) (n : ℕ) → p i ≡ Err e → FaultsAt e n → n ≤ length i
fault_within p l i e n h f = fault_by p i e n (subst (λ o. StaysFor p i o) h (l.at i)) f

-- the same first token, where something stands before the rest
heads : (j front k m : List Tok) → j ≡ front ++ k → length k < length j → SameHead j (front ++ m)
heads [] front k m e h = absurd (omega arith)
heads (t ∷ j) [] k m e h = absurd (omega (arith, ap length e))
heads (t ∷ j) (u ∷ front) k m e h = let first : t ≡ u = cc in (front ++ m, ap (λ z. z ∷ (front ++ m)) (sym first))

module _ {A B : Type 0} (most : ℕ) (D0 D C : Option Lexeme → Type 0) (Good : A → Type 0) (Q : B → Type 0) (p : Parser A) (f : A → Parser B) (l : IsLocal p) (m : (x : A) → IsLocal (f x)) where
  abbrev seq : Parser B
  seq i = and_then (p i) f

  -- p was cut off, and is completed
  pub later_in : (i : List Tok) (n : ℕ) (d : Completes D Good p i n) → Finishes D C Q (f d.x) → Completes C Q seq i n
  later_in i n d a = record {
    front = d.front;
    j = d.j;
    is = d.is;
    len = d.len;
    more = d.more ++ a.more;
    x = a.x;
    good = a.good;
    ends = λ s cl. ap seq (ap (λ v. d.front ++ v) (append_assoc d.more a.more s))
        ∙ bind_is (p (d.front ++ (d.more ++ (a.more ++ s)))) f d.x (a.more ++ s) _ (d.ends (a.more ++ s) (a.opens s cl)) (a.ends s cl);
  }

  -- nothing of f was read
  pub later_at : (i : List Tok) (n : ℕ) (x : A) (j : List Tok) → Settled D Good p i x j → n ≡ length j → Finishes D C Q (f x) → Completes C Q seq i n
  later_at i n x j d e a = record {
    front = d.front;
    j = j;
    is = d.is;
    len = e;
    more = a.more;
    x = a.x;
    good = a.good;
    ends = λ s cl. bind_is (p (d.front ++ (a.more ++ s))) f x (a.more ++ s) _ (d.closes (a.more ++ s) (a.opens s cl)) (a.ends s cl);
  }

  -- some of f was read
  pub later_behind : (i : List Tok) (n : ℕ) (x : A) (j : List Tok) → Stays p i j (λ k. Ok (x, k)) → n < length j → Completes C Q (f x) j n → Completes C Q seq i n
  later_behind i n x j s h d = record {
    front = s.front ++ d.front;
    j = d.j;
    is = s.is ∙ ap (λ v. s.front ++ v) d.is ∙ sym (append_assoc s.front d.front d.j);
    len = d.len;
    more = d.more;
    x = d.x;
    good = d.good;
    ends = λ z cl. ap seq (append_assoc s.front d.front (d.more ++ z))
        ∙ bind_is (p (s.front ++ (d.front ++ (d.more ++ z)))) f x (d.front ++ (d.more ++ z)) _
        (s.stays (d.front ++ (d.more ++ z)) (heads j d.front d.j (d.more ++ z) d.is (omega (arith, h, d.len)))) (d.ends z cl);
  }

  pub later_bind : Settles most D Good p → Later most D Good p → ((x : A) → Good x → Alive most D C Q (f x)) → Later most C Q seq
  later_bind settles lp a = record {
    later = λ i e n lim h fa behind. bind_err (p i) f e h
        (λ fails. let d = lp.later i e n lim fails fa behind in later_in i n d (a d.x d.good).fin)
        (λ x j is g. let d = settles.at i x j lim is in
        let within = fault_within (f x) (m x) j e n g fa in
        let less = ok_shorter p l i x j is in
        split n (length j)
        (λ lt. later_behind i n x j (ok_stays p l i x j is) lt ((a x d.good).later.later j e n (omega (arith, lim, less)) g fa lt))
        (λ le. later_at i n x j d (omega (arith, le, within)) (a x d.good).fin));
    safe = λ i lim h. bind_err (p i) f Stuck h
        (λ fails. lp.safe i lim fails)
        (λ x j is g. let d = settles.at i x j lim is in let less = ok_shorter p l i x j is in (a x d.good).later.safe j (omega (arith, lim, less)) g);
  }

  pub finishes_bind : (d : Finishes D0 D Good p) → Finishes D C Q (f d.x) → Finishes D0 C Q seq
  finishes_bind d a = record {
    more = d.more ++ a.more;
    x = a.x;
    good = a.good;
    opens = λ s cl. subst (λ v. D0 (lexeme_at v)) (sym (append_assoc d.more a.more s)) (d.opens (a.more ++ s) (a.opens s cl));
    ends = λ s cl. ap seq (append_assoc d.more a.more s) ∙ bind_is (p (d.more ++ (a.more ++ s))) f d.x (a.more ++ s) _ (d.ends (a.more ++ s) (a.opens s cl)) (a.ends s cl);
  }

  pub alive_bind : Living most D0 D Good p → ((x : A) → Good x → Alive most D C Q (f x)) → Alive most D0 C Q seq
  alive_bind v a = record { fin = finishes_bind v.alive.fin (a v.alive.fin.x v.alive.fin.good).fin; later = later_bind v.settles v.alive.later a }

-- ---- single steps

pub alive_pure : {A : Type 0} (most : ℕ) (D C : Option Lexeme → Type 0) (Q : A → Type 0) (x : A) → Q x → ((k : Option Lexeme) → C k → D k) → Alive {A = A} most D C Q (λ i. Ok (x, i))
alive_pure most D C Q x q sub = record {
  fin = record { more = []; x = x; good = q; opens = λ s cl. sub (lexeme_at s) cl; ends = λ s cl. refl };
  later = record { later = λ i e n lim h. absurd (cc); safe = λ i lim h. absurd (cc) };
}

-- a fault at the first token is none behind it
pub fault_len : (e : Stop) (n k : ℕ) → e ≡ Unexpected k → FaultsAt e n → n ≡ k
fault_len Stuck n k h f = absurd f
fault_len (Unexpected a) n k h f = let same : a ≡ k = cc in f ∙ same
fault_len (TooDeep a) n k h f = absurd (cc)

pub fault_deep : (e : Stop) (n k : ℕ) → e ≡ TooDeep k → FaultsAt e n → n ≡ k
fault_deep Stuck n k h f = absurd f
fault_deep (Unexpected a) n k h f = absurd (cc)
fault_deep (TooDeep a) n k h f = let same : a ≡ k = cc in f ∙ same

pub later_refuse : {A : Type 0} (most : ℕ) (C : Option Lexeme → Type 0) (Q : A → Type 0) → Later {A = A} most C Q (λ i. Err (Unexpected (length i)))
later_refuse most C Q = record {
  later = λ i e n lim h f behind. let same : e ≡ Unexpected (length i) = cc in absurd (omega (arith, behind, fault_len e n (length i) same f));
  safe = λ i lim h. absurd (cc);
}

-- behind a token that was taken
pub behind_token : {B : Type 0} (most : ℕ) (C : Option Lexeme → Type 0) (Q : B → Type 0) (p : Parser B) (q : Parser B) (t : Tok) (i : List Tok) (n : ℕ) → ((k : List Tok) → p (t ∷ k) ≡ q k) → Completes C Q q i n → Completes C Q p (t ∷ i) n
behind_token most C Q p q t i n h d = record {
  front = t ∷ d.front;
  j = d.j;
  is = ap (λ v. t ∷ v) d.is;
  len = d.len;
  more = d.more;
  x = d.x;
  good = d.good;
  ends = λ s cl. h (d.front ++ (d.more ++ s)) ∙ d.ends s cl;
}

at_first : {B : Type 0} (most : ℕ) (D C : Option Lexeme → Type 0) (Q : B → Type 0) (q : Parser B) (i : List Tok) (n : ℕ) → Finishes D C Q q → n ≡ length i → Completes C Q q i n
at_first most D C Q q i n d e = record { front = []; j = i; is = refl; len = e; more = d.more; x = d.x; good = d.good; ends = d.ends }

pub all_of : {B : Type 0} (most : ℕ) (D C : Option Lexeme → Type 0) (Q : B → Type 0) (q : Parser B) → IsLocal q → Alive most D C Q q → (i : List Tok) (e : Stop) (n : ℕ) → length i < most → q i ≡ Err e → FaultsAt e n → Completes C Q q i n
all_of most D C Q q l a i e n lim h f = split n (length i)
    (λ lt. a.later.later i e n lim h f lt)
    (λ le. at_first most D C Q q i n a.fin (let within = fault_within q l i e n h f in omega (arith, le, within)))

module _ {B : Type 0} (most : ℕ) (D C : Option Lexeme → Type 0) (Q : B → Type 0) where
  take_later : (f : ℕ → Parser B) → ((a : ℕ) → IsLocal (f a)) → ((a : ℕ) → Alive most D C Q (f a)) → (i : List Tok) (e : Stop) (n : ℕ) → length i < most → and_then (taken i) f ≡ Err e → FaultsAt e n → n < length i → Completes C Q (λ k. and_then (taken k) f) i n
  take_later f l a [] e n lim h fa behind = absurd (omega arith)
  take_later f l a (t ∷ i) e n lim h fa behind = behind_token most C Q (λ k. and_then (taken k) f) (f t.at) t i n (λ k. refl) (all_of most D C Q (f t.at) (l t.at) (a t.at) i e n (omega arith) h fa)

  take_safe : (f : ℕ → Parser B) → ((a : ℕ) → Alive most D C Q (f a)) → (i : List Tok) → length i < most → and_then (taken i) f ≡ Err Stuck → ⊥
  take_safe f a [] lim h = absurd (cc)
  take_safe f a (t ∷ i) lim h = (a t.at).later.safe i (omega arith) h

  pub later_take : (f : ℕ → Parser B) → ((a : ℕ) → IsLocal (f a)) → ((a : ℕ) → Alive most D C Q (f a)) → Later most C Q (λ i. and_then (taken i) f)
  later_take f l a = record { later = λ i e n lim h fa behind. take_later f l a i e n lim h fa behind; safe = λ i lim h. take_safe f a i lim h }

  pub same_front : (i front k m : List Tok) → i ≡ front ++ k → length k < length i → lexeme_at (front ++ m) ≡ lexeme_at i
  same_front [] front k m e h = absurd (omega arith)
  same_front (t ∷ i) [] k m e h = absurd (omega (arith, ap length e))
  same_front (t ∷ i) (u ∷ front) k m e h = let first : t ≡ u = cc in ap (λ z. Some z.lexeme) (sym first)

  same_number : (i front k m : List Tok) → i ≡ front ++ k → length k < length i → number_at (front ++ m) ≡ number_at i
  same_number [] front k m e h = absurd (omega arith)
  same_number (t ∷ i) [] k m e h = absurd (omega (arith, ap length e))
  same_number (t ∷ i) (u ∷ front) k m e h = let first : t ≡ u = cc in ap (λ z. z.at) (sym first)

  peeked : (f : Option Lexeme → Parser B) (i : List Tok) (n : ℕ) → n < length i → Completes C Q (f (lexeme_at i)) i n → Completes C Q (λ k. f (lexeme_at k) k) i n
  peeked f i n h d = record {
    front = d.front;
    j = d.j;
    is = d.is;
    len = d.len;
    more = d.more;
    x = d.x;
    good = d.good;
    ends = λ s cl. ap (λ q. f q (d.front ++ (d.more ++ s))) (same_front i d.front d.j (d.more ++ s) d.is (omega (arith, h, d.len))) ∙ d.ends s cl;
  }

  pub later_peek : (f : Option Lexeme → Parser B) → ((k : Option Lexeme) → Later most C Q (f k)) → Later most C Q (λ i. f (lexeme_at i) i)
  later_peek f a = record {
    later = λ i e n lim h fa behind. peeked f i n behind ((a (lexeme_at i)).later i e n lim h fa behind);
    safe = λ i lim h. (a (lexeme_at i)).safe i lim h;
  }

  numbered : (f : ℕ → Parser B) (i : List Tok) (n : ℕ) → n < length i → Completes C Q (f (number_at i)) i n → Completes C Q (λ k. f (number_at k) k) i n
  numbered f i n h d = record {
    front = d.front;
    j = d.j;
    is = d.is;
    len = d.len;
    more = d.more;
    x = d.x;
    good = d.good;
    ends = λ s cl. ap (λ q. f q (d.front ++ (d.more ++ s))) (same_number i d.front d.j (d.more ++ s) d.is (omega (arith, h, d.len))) ∙ d.ends s cl;
  }

  pub later_here : (f : ℕ → Parser B) → ((k : ℕ) → Later most C Q (f k)) → Later most C Q (λ i. f (number_at i) i)
  later_here f a = record {
    later = λ i e n lim h fa behind. numbered f i n behind ((a (number_at i)).later i e n lim h fa behind);
    safe = λ i lim h. (a (number_at i)).safe i lim h;
  }

  -- the token of a construct over parts of height h
  module _ (r h : ℕ) (low : h ≤ suc r) (f : ℕ → Parser B) (l : (a : ℕ) → IsLocal (f a)) (al : h ≤ r → (a : ℕ) → Alive most D C Q (f a)) where
    outcome_of : {G : Type 0} (t : Tok) (i : List Tok) (e : Stop) → and_then (entered r h (t ∷ i)) f ≡ Err e → (h ≤ r → f t.at i ≡ Err e → G) → (e ≡ TooDeep (suc (length i)) → G) → G
    outcome_of {G = G} t i e k g d = by (nat_le h r) (h == suc r) refl refl k
      where
        by : (a b : Bool) → nat_le h r ≡ a → (h == suc r) ≡ b → and_then (cond a (Ok (t.at, i)) (cond b (Err (TooDeep (suc (length i)))) (Err Stuck))) f ≡ Err e → G
        by true b a1 b1 z = g (grind (arith, nat_tests)) z
        by false true a1 b1 z = d (cc)
        by false false a1 b1 z = absurd (grind (arith, nat_tests))

    entered_later : (i : List Tok) (e : Stop) (n : ℕ) → length i < most → and_then (entered r h i) f ≡ Err e → FaultsAt e n → n < length i → Completes C Q (λ k. and_then (entered r h k) f) i n
    entered_later [] e n lim k fa behind = absurd (omega arith)
    entered_later (t ∷ i) e n lim k fa behind = outcome_of t i e k
        (λ fits g. behind_token most C Q (λ z. and_then (entered r h z) f) (f t.at) t i n (λ z. ap (λ v. and_then v f) (entered_is r h t z fits)) (all_of most D C Q (f t.at) (l t.at) (al fits t.at) i e n (omega arith) g fa))
        (λ deep. absurd (omega (arith, behind, fault_deep e n (suc (length i)) deep fa)))

    entered_safe : (i : List Tok) → length i < most → and_then (entered r h i) f ≡ Err Stuck → ⊥
    entered_safe [] lim k = absurd (cc)
    entered_safe (t ∷ i) lim k = outcome_of t i Stuck k (λ fits g. (al fits t.at).later.safe i (omega arith) g) (λ deep. absurd (cc))

    pub later_enter : Later most C Q (λ i. and_then (entered r h i) f)
    later_enter = record { later = λ i e n lim k fa behind. entered_later i e n lim k fa behind; safe = λ i lim k. entered_safe i lim k }

-- ---- what was read stays read

nil_front : (front j j2 : List Tok) → j ≡ front ++ j2 → length j ≤ length j2 → front ≡ []
nil_front [] j j2 e h = refl
nil_front (t ∷ front) j j2 e h = absurd (let f : length j ≡ suc (length front) + length j2 = ap length e ∙ length-append (t ∷ front) j2 in omega arith)

-- it takes a token, or what may follow it may follow what stands before it
abbrev pub Heads : {A : Type 0} → ℕ → (D C : Option Lexeme → Type 0) → Parser A → Type 0
Heads {A = A} most D C q = (i : List Tok) (y : A) (j : List Tok) → length i < most → q i ≡ Ok (y, j) → (length j < length i) ⊎ ((k : Option Lexeme) → C k → D k)

abbrev pub Consumes : {A : Type 0} → Parser A → Type 0
Consumes {A = A} q = (i : List Tok) (y : A) (j : List Tok) → q i ≡ Ok (y, j) → length j < length i

module _ {A B : Type 0} (most : ℕ) (D C : Option Lexeme → Type 0) (Good : A → Type 0) (Q : B → Type 0) (p : Parser A) (f : A → Parser B) where
  pub settled_behind : (i j : List Tok) (x : A) (y : B) (j2 : List Tok) → Stays p i j (λ k. Ok (x, k)) → length j2 < length j → Settled C Q (f x) j y j2 → Settled C Q (λ k. and_then (p k) f) i y j2
  settled_behind i j x y j2 s h d = record {
    good = d.good;
    front = s.front ++ d.front;
    is = s.is ∙ ap (λ v. s.front ++ v) d.is ∙ sym (append_assoc s.front d.front j2);
    closes = λ k cl. ap (λ v. and_then (p v) f) (append_assoc s.front d.front k)
        ∙ bind_is (p (s.front ++ (d.front ++ k))) f x (d.front ++ k) _ (s.stays (d.front ++ k) (heads j d.front j2 k d.is h)) (d.closes k cl);
  }

  pub settled_here : (i j : List Tok) (x : A) (y : B) (j2 : List Tok) → Settled D Good p i x j → length j ≤ length j2 → ((k : Option Lexeme) → C k → D k) → Settled C Q (f x) j y j2 → Settled C Q (λ k. and_then (p k) f) i y j2
  settled_here i j x y j2 s h sub d = let none : d.front ≡ [] = nil_front d.front j j2 d.is h in record {
    good = d.good;
    front = s.front;
    is = s.is ∙ ap (λ v. s.front ++ v) (d.is ∙ ap (λ v. v ++ j2) none);
    closes = λ k cl. bind_is (p (s.front ++ k)) f x k _ (s.closes k (sub (lexeme_at k) cl)) (ap (λ v. f x (v ++ k)) (sym none) ∙ d.closes k cl);
  }

  pub settles_bind : IsLocal p → Settles most D Good p → ((x : A) → Good x → Settles most C Q (f x)) → ((x : A) → Good x → Heads most D C (f x)) → Settles most C Q (λ k. and_then (p k) f)
  settles_bind l s t hd = record {
    at = λ i y j2 lim h. bind_ok (p i) f (y, j2) h (λ x j is g.
        let d = s.at i x j lim is in
        let less = ok_shorter p l i x j is in
        let e = (t x d.good).at j y j2 (omega (arith, lim, less)) g in
        split (length j2) (length j)
        (λ lt. settled_behind i j x y j2 (ok_stays p l i x j is) lt e)
        (λ le. elim (hd x d.good j y j2 (omega (arith, lim, less)) g) as (λ _. Settled C Q (λ k. and_then (p k) f) i y j2) [ inl lt ↦ absurd (omega (arith, lt, le)) | inr sub ↦ settled_here i j x y j2 d le sub e ]));
  }

  pub heads_bind : (D0 : Option Lexeme → Type 0) → IsLocal p → ((x : A) → IsLocal (f x)) → Settles most D Good p → Heads most D0 D p → ((x : A) → Good x → Heads most D C (f x)) → (i : List Tok) (y : B) (j2 : List Tok) → length i < most → and_then (p i) f ≡ Ok (y, j2) → (length j2 < length i) ⊎ ((k : Option Lexeme) → C k → D0 k)
  heads_bind D0 l m s a b i y j2 lim h = bind_ok (p i) f (y, j2) h (λ x j is g.
      let d = s.at i x j lim is in
      let less = ok_shorter p l i x j is in
      let less2 = ok_shorter (f x) (m x) j y j2 g in
      elim (a i x j lim is) as (λ _. (length j2 < length i) ⊎ ((k : Option Lexeme) → C k → D0 k)) [
        | inl lt ↦ inl (omega (arith, lt, less2))
        | inr u ↦
            elim (b x d.good j y j2 (omega (arith, lim, less)) g) as (λ _. (length j2 < length i) ⊎ ((k : Option Lexeme) → C k → D0 k)) [ inl lt ↦ inl (omega (arith, lt, less)) | inr v ↦ inr (λ k c1. u k (v k c1)) ]
      ])

pub settled_token : {B : Type 0} (C : Option Lexeme → Type 0) (Q : B → Type 0) (p q : Parser B) (t : Tok) (i : List Tok) (y : B) (j : List Tok) → ((k : List Tok) → p (t ∷ k) ≡ q k) → Settled C Q q i y j → Settled C Q p (t ∷ i) y j
settled_token C Q p q t i y j h d = record { good = d.good; front = t ∷ d.front; is = ap (λ v. t ∷ v) d.is; closes = λ k cl. h (d.front ++ k) ∙ d.closes k cl }

module _ {B : Type 0} (most : ℕ) (C : Option Lexeme → Type 0) (Q : B → Type 0) where
  take_settled : (f : ℕ → Parser B) → ((a : ℕ) → Settles most C Q (f a)) → (i : List Tok) (y : B) (j : List Tok) → length i < most → and_then (taken i) f ≡ Ok (y, j) → Settled C Q (λ k. and_then (taken k) f) i y j
  take_settled f s [] y j lim h = absurd (cc)
  take_settled f s (t ∷ i) y j lim h = settled_token C Q (λ k. and_then (taken k) f) (f t.at) t i y j (λ k. refl) ((s t.at).at i y j (omega arith) h)

  pub settles_take : (f : ℕ → Parser B) → ((a : ℕ) → Settles most C Q (f a)) → Settles most C Q (λ k. and_then (taken k) f)
  settles_take f s = record { at = λ i y j lim h. take_settled f s i y j lim h }

  pub take_consumes : (f : ℕ → Parser B) → ((a : ℕ) → IsLocal (f a)) → Consumes (λ k. and_then (taken k) f)
  take_consumes f l [] y j h = absurd (cc)
  take_consumes f l (t ∷ i) y j h = let less = ok_shorter (f t.at) (l t.at) i y j h in omega arith

  enter_settled : (r h : ℕ) (f : ℕ → Parser B) → (h ≤ r → (a : ℕ) → Settles most C Q (f a)) → (i : List Tok) (y : B) (j : List Tok) → length i < most → and_then (entered r h i) f ≡ Ok (y, j) → Settled C Q (λ k. and_then (entered r h k) f) i y j
  enter_settled r h f s i y j lim g = bind_ok (entered r h i) f (y, j) g (λ a j0 e k.
      let n = entered_ok r h i a j0 e in
      let few : length j0 < most = omega (arith, lim, ap length n.is) in
      let k2 : f n.t.at j0 ≡ Ok (y, j) = subst (λ v. f v j0 ≡ Ok (y, j)) n.number k in
      subst (λ v. Settled C Q (λ z. and_then (entered r h z) f) v y j) (sym n.is)
      (settled_token C Q (λ z. and_then (entered r h z) f) (f n.t.at) n.t j0 y j (λ z. ap (λ v. and_then v f) (entered_is r h n.t z n.fits)) ((s n.fits n.t.at).at j0 y j few k2)))

  pub settles_enter : (r h : ℕ) (f : ℕ → Parser B) → (h ≤ r → (a : ℕ) → Settles most C Q (f a)) → Settles most C Q (λ k. and_then (entered r h k) f)
  settles_enter r h f s = record { at = λ i y j lim g. enter_settled r h f s i y j lim g }

  pub enter_consumes : (r h : ℕ) (f : ℕ → Parser B) → ((a : ℕ) → IsLocal (f a)) → Consumes (λ k. and_then (entered r h k) f)
  enter_consumes r h f l i y j g = bind_ok (entered r h i) f (y, j) g (λ a j0 e k.
      let n = entered_ok r h i a j0 e in let less = ok_shorter (f a) (l a) j0 y j k in omega (arith, less, ap length n.is))

  pub settles_peek : (f : Option Lexeme → Parser B) → ((k : Option Lexeme) → Settles most C Q (f k)) → ((k : Option Lexeme) → Consumes (f k)) → Settles most C Q (λ i. f (lexeme_at i) i)
  settles_peek f s c = record {
    at = λ i y j lim h. let d = (s (lexeme_at i)).at i y j lim h in record {
      good = d.good;
      front = d.front;
      is = d.is;
      closes = λ k cl. ap (λ q. f q (d.front ++ k)) (same_front most C C Q i d.front j k d.is (c (lexeme_at i) i y j h)) ∙ d.closes k cl;
    };
  }

  pub settles_here : (f : ℕ → Parser B) → ((k : ℕ) → Settles most C Q (f k)) → ((k : ℕ) → Consumes (f k)) → Settles most C Q (λ i. f (number_at i) i)
  settles_here f s c = record {
    at = λ i y j lim h. let d = (s (number_at i)).at i y j lim h in record {
      good = d.good;
      front = d.front;
      is = d.is;
      closes = λ k cl. ap (λ q. f q (d.front ++ k)) (same_number most C C Q i d.front j k d.is (c (number_at i) i y j h)) ∙ d.closes k cl;
    };
  }
