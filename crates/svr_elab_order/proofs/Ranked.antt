-- Where items agree with ranks, none orders a property before itself, and none is refused.
use Rattle.std.proofs.Common.{◌≡◌, ℕ, ◌+◌, ◌<◌, Bool, true, false, not, ◌&&◌, ◌==◌, nat_lt, nat_le, if◌then◌else◌, List, [], ◌∷◌, ◌++◌, length, take, get_or, Option, None, Some, refl, sym, ap, ◌∙◌, arith, inl, inr, max}
use Rattle.std.specs.Prelude.{MatchOption, is_some}
use Rattle.std.specs.List.{list_all}
use Rattle.std.proofs.lemmas.Bool.{or_cases, or_left, or_right, and_parts, and_from, false≢true, false_from_ne_true, ltb-true, lt-ltb}
use Rattle.std.proofs.lemmas.Bool.Decides.{nat_tests}
use Rattle.std.proofs.lemmas.List.Folds.{list_all-append, list_all_more}
use Rattle.svr_refusal.specs.declared.Refusal.TheVariants as refusal
use Rattle.svr_refusal.specs.Numbers.{number_of}
use Rattle.svr_elab_fault.specs.declared.Fault.{Fault}
use Rattle.svr_elab_fault.specs.Refusals.{when, first_one, earlier, comes_first}
use Rattle.svr_elab_fault.proofs.Least.{earlier_assoc}
use Rattle.svr_elab_order.specs.declared.order.Order.{Order}
use Rattle.svr_elab_order.specs.declared.ranks.Ranks.{Ranks}
use Rattle.svr_elab_order.specs.Order.{is_in, is_put, orders_itself, Precedes, one, more}
use Rattle.svr_elab_order.specs.Cycles.{cycles}
use Rattle.svr_elab_order.specs.Ranks.{rank_of, is_higher, are_higher, goes_up, is_ranked, agree, higher, all_behind, are_behind}
use Rattle.svr_elab_order.proofs.Ways.{in_cases, in_here, in_there, itself_loop}
use Rattle.svr_elab_order.proofs.Firsts.{none_at_all, no_cycles}

-- ---- a chain of items raises the rank

all_in : (p : ℕ → Bool) (xs : List ℕ) (x : ℕ) → is_in x xs ≡ true → list_all p xs ≡ true → p x ≡ true
all_in p [] x h k = absurd (false≢true h)
all_in p (z ∷ xs) x h k =
    let w = and_parts (p z) (list_all p xs) k in
    elim (in_cases x z xs h) [
      | inl e ↦ ap p e ∙ w.0
      | inr e ↦ all_in p xs x e w.1
    ]

item_rises : (r : Ranks) (o : Order) (a b : ℕ) → is_ranked r o ≡ true → is_in a o.first ≡ true → is_in b o.later ≡ true → rank_of r a < rank_of r b
item_rises r o a b h f l =
    let up : are_higher r (Some (rank_of r a)) o.later ≡ true = all_in (λ x. are_higher r (Some (rank_of r x)) o.later) o.first a f h in
    ltb-true (rank_of r a) (rank_of r b) (all_in (λ y. nat_lt (rank_of r a) (rank_of r y)) o.later b l up)

put_rises : (r : Ranks) (os : List Order) (a b : ℕ) → agree r os ≡ true → is_put os a b ≡ true → rank_of r a < rank_of r b
put_rises r [] a b h p = absurd (false≢true p)
put_rises r (o ∷ os) a b h p =
    let w = and_parts (is_ranked r o) (agree r os) h in
    elim (or_cases (is_in a o.first && is_in b o.later) (is_put os a b) p) [
      | inl e ↦ let v = and_parts (is_in a o.first) (is_in b o.later) e in item_rises r o a b w.0 v.0 v.1
      | inr e ↦ put_rises r os a b w.1 e
    ]

chain_rises : (r : Ranks) (os : List Order) (a b : ℕ) → agree r os ≡ true → Precedes os a b → rank_of r a < rank_of r b
chain_rises r os a b h (one _ _ p) = put_rises r os a b h p
chain_rises r os a c h (more _ b _ k p) =
    let x : rank_of r a < rank_of r b = chain_rises r os a b h k in
    let y : rank_of r b < rank_of r c = put_rises r os b c h p in
    omega arith

pub none_itself : (r : Ranks) (os : List Order) → agree r os ≡ true → orders_itself os ≡ false
none_itself r os h =
    false_from_ne_true (orders_itself os) (λ e.
    let w = itself_loop os e in
    let l : rank_of r w.0 < rank_of r w.0 = chain_rises r os w.0 w.0 h w.1 in
    absurd (omega arith))

pub none_refused : (r : Ranks) (xs ys : List Order) → agree r (xs ++ ys) ≡ true → cycles first_one xs ys ≡ None
none_refused r xs ys h = no_cycles (xs ++ ys) xs ys refl (none_at_all (xs ++ ys) (length xs) (none_itself r (xs ++ ys) h))

pub agree_joined : (r : Ranks) (xs ys : List Order) → agree r xs ≡ true → agree r ys ≡ true → agree r (xs ++ ys) ≡ true
agree_joined r xs ys h k = list_all-append (is_ranked r) xs ys ∙ and_from (agree r xs) (agree r ys) h k

-- there are such ranks exactly where they do not
pub itself_is : (r : Option Ranks) (none : Bool) (os : List Order) → is_some r ≡ not none → MatchOption r (orders_itself os ≡ true) (λ ranks. agree ranks os ≡ true) → none ≡ orders_itself os
itself_is None true os e h = sym h
itself_is None false os e h = absurd (false≢true e)
itself_is (Some r) true os e h = absurd (false≢true (sym e))
itself_is (Some r) false os e h = sym (none_itself r os h)

-- ---- and where each item raises it, they agree

all_from : (p : ℕ → Bool) (xs : List ℕ) → ((x : ℕ) → is_in x xs ≡ true → p x ≡ true) → list_all p xs ≡ true
all_from p [] h = refl
all_from p (x ∷ xs) h = and_from (p x) (list_all p xs) (h x (in_here x xs)) (all_from p xs (λ z k. h z (in_there z x xs k)))

pub agree_from : (r : Ranks) (os : List Order) → ((a b : ℕ) → is_put os a b ≡ true → rank_of r a < rank_of r b) → agree r os ≡ true
agree_from r [] h = refl
agree_from r (o ∷ os) h =
    and_from (is_ranked r o) (agree r os)
    (all_from (λ x. are_higher r (Some (rank_of r x)) o.later) o.first (λ a f.
    all_from (λ y. nat_lt (rank_of r a) (rank_of r y)) o.later (λ b l.
    lt-ltb (rank_of r a) (rank_of r b) (h a b (or_left (is_in a o.first && is_in b o.later) (is_put os a b) (and_from (is_in a o.first) (is_in b o.later) f l))))))
    (agree_from r os (λ a b p. h a b (or_right (is_in a o.first && is_in b o.later) (is_put os a b) p)))

-- ---- one rank for all the first ones

two_ranks : (a b y : ℕ) → (nat_lt a y && nat_lt b y) ≡ nat_lt (max a b) y
two_ranks a b y = grind (arith, nat_tests)

above_both : (high : Option ℕ) (rank y : ℕ) → (is_higher high y && is_higher (Some rank) y) ≡ is_higher (higher high rank) y
above_both None rank y = refl
above_both (Some high) rank y = two_ranks high rank y

exchanged : (a b c d : Bool) → ((a && b) && (c && d)) ≡ ((a && c) && (b && d))
exchanged true true c d = refl
exchanged true false true d = refl
exchanged true false false d = refl
exchanged false b c d = refl

all_above_both : (r : Ranks) (high : Option ℕ) (rank : ℕ) (ys : List ℕ) → (are_higher r high ys && are_higher r (Some rank) ys) ≡ are_higher r (higher high rank) ys
all_above_both r high rank [] = refl
all_above_both r high rank (y ∷ ys) =
    exchanged (is_higher high (rank_of r y)) (are_higher r high ys) (is_higher (Some rank) (rank_of r y)) (are_higher r (Some rank) ys)
    ∙ ap (λ b. b && (are_higher r high ys && are_higher r (Some rank) ys)) (above_both high rank (rank_of r y))
    ∙ ap (λ b. is_higher (higher high rank) (rank_of r y) && b) (all_above_both r high rank ys)

pub none_higher : (r : Ranks) (ys : List ℕ) → true ≡ are_higher r None ys
none_higher r [] = refl
none_higher r (y ∷ ys) = none_higher r ys

-- one of the first ones more
pub higher_step : (r : Ranks) (xs : List ℕ) (i : ℕ) (high new : Option ℕ) (rank : ℕ) → i < length xs → rank ≡ rank_of r (get_or xs i 0) → new ≡ higher high rank
    → ((later : List ℕ) → goes_up r (take i xs) later ≡ are_higher r high later) → (later : List ℕ) → goes_up r (take (i + 1) xs) later ≡ are_higher r new later
higher_step r xs i high new rank l e is_new h later =
    let x = get_or xs i 0 in
    list_all_more (λ x. are_higher r (Some (rank_of r x)) later) xs i 0 l
    ∙ ap (λ b. b && are_higher r (Some (rank_of r x)) later) (h later)
    ∙ ap (λ k. are_higher r high later && are_higher r (Some k) later) (sym e)
    ∙ all_above_both r high rank later
    ∙ ap (λ (k : Option ℕ). are_higher r k later) (sym is_new)

-- ---- items behind a refusal

behind_one : (f : Fault) (o : Order) (b : Bool) → nat_lt f.token o.at ≡ true → earlier (Some f) (when first_one b o.at refusal.SolveCycle) ≡ Some f
behind_one f o false h = refl
behind_one f o true h =
    let g : Fault = record { token = o.at; refusal = refusal.SolveCycle } in
    let first : comes_first f g ≡ true = or_left (nat_lt f.token o.at) (f.token == o.at && nat_le (number_of f.refusal) (number_of g.refusal)) h in
    ap (λ (b : Bool). if b then Some f else Some g) first

pub late : (f : Fault) (xs ys : List Order) → all_behind f.token ys ≡ true → earlier (Some f) (cycles first_one xs ys) ≡ Some f
late f xs [] h = refl
late f xs (o ∷ ys) h =
    let w = and_parts (nat_lt f.token o.at) (all_behind f.token ys) h in
    let x : Option Fault = when first_one (orders_itself (xs ++ o ∷ [])) o.at refusal.SolveCycle in
    sym (earlier_assoc (Some f) x (cycles first_one (xs ++ o ∷ []) ys))
    ∙ ap (λ (k : Option Fault). earlier k (cycles first_one (xs ++ o ∷ []) ys)) (behind_one f o (orders_itself (xs ++ o ∷ [])) w.0)
    ∙ late f (xs ++ o ∷ []) ys w.1

pub late_all : (fault : Option Fault) (xs ys : List Order) → are_behind fault ys ≡ true → earlier fault (cycles first_one xs ys) ≡ fault
late_all None xs ys h = absurd (false≢true h)
late_all (Some f) xs ys h = late f xs ys h
