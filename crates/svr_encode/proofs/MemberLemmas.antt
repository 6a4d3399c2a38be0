-- Members of a set, one after another
use Rattle.std.proofs.Common.{◌≡◌, ℕ, zero, suc, ◌+◌, ◌<◌, ◌≤◌, max, Bool, true, false, not, ◌&&◌, ◌||◌, List, [], ◌∷◌, length, drop, get_or, Option, None, Some, refl, sym, ap, ◌∙◌, arith, subst, add-one, drop-cons}
use Rattle.std.specs.Prelude.{◌==◌, Result, Ok, Err, IfOk}
use Rattle.svr_typed.specs.declared.expr.TExpr.{TExpr}
use Rattle.svr_typed.specs.declared.expr.TRange.{TRange}
use Rattle.svr_typed.specs.ExprTerm.{ExprTerm, typed, prop, RangeTerms, BoundTerm, value, expr_term, range_term, range_terms}
use Rattle.svr_chain.specs.declared.clause.Lit.{Lit}
use Rattle.svr_chain.specs.Valuations.{lit_value, Meets}
use Rattle.svr_chain.specs.Clauses.{AreWithin}
use Rattle.svr_gate.specs.Numbers.{number}
use Rattle.svr_gate.specs.Circuit.{Circuit, Extends, Tells, GivesNumber}
use Rattle.svr_gate.proofs.Circuits.{Tells-same}
use Rattle.svr_num.specs.Num.{less_of}
use Rattle.svr_eval.specs.Reading.{Reading}
use Rattle.svr_eval.specs.Value.{size_of, sign_of, val, fits, fits_some, has_element, equals_member, is_below, is_from, is_up_to, operand_of, property_of}
use Rattle.svr_inputs.specs.declared.inputs.Inputs.{Inputs}
use Rattle.svr_inputs.specs.Inputs.{NumbersAreReady}
use Rattle.svr_inputs.specs.Served.{IsServed, RangeIsServed, RangesAreServed}
use Rattle.svr_eval.specs.Typed.{IsTyped, RangeIsTyped, RangesAreTyped}
use Rattle.svr_encode.specs.Parts.{member_parts, pair_parts, low_parts, high_parts, range_parts, set_parts}
use Rattle.svr_encode.specs.Given.{GiveParts}
use Rattle.svr_encode.proofs.TreeLemmas.{own_width}
use Rattle.svr_encode.proofs.FitLemmas.{size_most}
use Rattle.svr_encode.proofs.GivenLemmas.{given_front, given_rest, given_later}

pub property_ready : (i : Inputs) (d p : ℕ) (e : ExprTerm) → IsServed i d e → property_of e ≡ Some p → NumbersAreReady i (size_of e) p
property_ready i d p (typed w s (prop q)) r e = let same : q ≡ p = cc in subst (NumbersAreReady i w) same r
property_ready i d p (typed w s n) r e = cc

or_assoc : (p q r : Bool) → ((p || q) || r) ≡ (p || (q || r))
or_assoc true q r = refl
or_assoc false q r = refl

-- one more range of a set
pub ranges_more : {c d e : Circuit} (read : (ℕ → Bool) → Reading) (env : List ℕ) (left : ExprTerm) (k : ℕ) (set : List TRange) (x : TRange) (found one next : Lit) → k < length set → x ≡ get_or set k x → Extends c d → Extends d e
    → ((v : ℕ → Bool) → Meets v c.clauses → (lit_value v found || fits_some (read v) env (operand_of (read v) env left) (range_terms (drop k set))) ≡ fits_some (read v) env (operand_of (read v) env left) (range_terms set))
    → Tells d one (λ v. fits (read v) env (operand_of (read v) env left) (range_term x)) → Tells e next (λ v. lit_value v found || lit_value v one)
    → (v : ℕ → Bool) → Meets v e.clauses → (lit_value v next || fits_some (read v) env (operand_of (read v) env left) (range_terms (drop (k + 1) set))) ≡ fits_some (read v) env (operand_of (read v) env left) (range_terms set)
ranges_more read env left k set x found one next h same p q told t u v m =
    let some = λ (rs : RangeTerms). fits_some (read v) env (operand_of (read v) env left) rs in
    let rest = some (range_terms (drop (k + 1) set)) in
    ap (λ b. b || rest) (u.value v m ∙ ap (λ b. lit_value v found || b) (t.value v (q.keeps v m)))
    ∙ or_assoc (lit_value v found) (fits (read v) env (operand_of (read v) env left) (range_term x)) rest
    ∙ ap (λ y. lit_value v found || (fits (read v) env (operand_of (read v) env left) (range_term y) || rest)) same
    ∙ ap (λ n. lit_value v found || (fits (read v) env (operand_of (read v) env left) (range_term (get_or set k x)) || some (range_terms (drop n set)))) (add-one k)
    ∙ ap (λ ys. lit_value v found || some (range_terms ys)) (sym (drop-cons set k x h))
    ∙ told v (p.keeps v (q.keeps v m))

module _ (xs : List (List Lit)) (read : (ℕ → Bool) → Reading) (env : List ℕ) (left : ExprTerm) (set : List TRange) (k : ℕ) (x : TRange) (lt : k < length set) (is : x ≡ get_or set k x) where
  cut : drop k set ≡ x ∷ drop (suc k) set
  cut = drop-cons set k x lt ∙ ap (λ y. y ∷ drop (suc k) set) (sym is)

  -- the parts of the next range, and those behind them
  pub range_given : (c d : Circuit) (at : ℕ) → Extends c d → GiveParts c xs read env at (set_parts left (range_terms (drop k set))) → GiveParts d xs read env at (range_parts left (range_term x))
  range_given c d at e h =
      given_later xs read env c d at (range_parts left (range_term x)) e
      (given_front xs read env c at (range_parts left (range_term x)) (set_parts left (range_terms (drop (suc k) set))) (subst (λ (rs : List TRange). GiveParts c xs read env at (set_parts left (range_terms rs))) cut h))

  pub rest_given : (c : Circuit) (at n : ℕ) → length (range_parts left (range_term x)) ≡ n → GiveParts c xs read env at (set_parts left (range_terms (drop k set))) → GiveParts c xs read env (at + n) (set_parts left (range_terms (drop (k + 1) set)))
  rest_given c at n len h =
      subst (λ (j : ℕ). GiveParts c xs read env (at + n) (set_parts left (range_terms (drop j set)))) (sym (add-one k))
      (subst (λ (m : ℕ). GiveParts c xs read env (at + m) (set_parts left (range_terms (drop (suc k) set)))) len
      (given_rest xs read env c at (range_parts left (range_term x)) (set_parts left (range_terms (drop (suc k) set))) (subst (λ (rs : List TRange). GiveParts c xs read env at (set_parts left (range_terms rs))) cut h)))

  pub range_typed : RangesAreTyped (range_terms (drop k set)) → RangeIsTyped (range_term x)
  range_typed h = (subst (λ (rs : List TRange). RangesAreTyped (range_terms rs)) cut h).0

  pub range_served : (i : Inputs) (d : ℕ) → RangesAreServed i d (range_terms (drop k set)) → RangeIsServed i d (range_term x)
  range_served i d h = (subst (λ (rs : List TRange). RangesAreServed i d (range_terms rs)) cut h).0

  pub ranges_typed : RangesAreTyped (range_terms (drop k set)) → RangesAreTyped (range_terms (drop (k + 1) set))
  ranges_typed h =
      subst (λ (j : ℕ). RangesAreTyped (range_terms (drop j set))) (sym (add-one k))
      ((subst (λ (rs : List TRange). RangesAreTyped (range_terms rs)) cut h).1)

  pub ranges_served : (i : Inputs) (d : ℕ) → RangesAreServed i d (range_terms (drop k set)) → RangesAreServed i d (range_terms (drop (k + 1) set))
  ranges_served i d h =
      subst (λ (j : ℕ). RangesAreServed i d (range_terms (drop j set))) (sym (add-one k))
      ((subst (λ (rs : List TRange). RangesAreServed i d (range_terms rs)) cut h).1)

none_left : (k : ℕ) (set : List TRange) → length set ≤ k → drop k set ≡ []
none_left zero [] h = refl
none_left zero (x ∷ set) h = absurd (omega arith)
none_left (suc k) [] h = refl
none_left (suc k) (x ∷ set) h = none_left k set (omega arith)

or_false : (b : Bool) → (b || false) ≡ b
or_false true = refl
or_false false = refl

-- behind the last range
pub ranges_end : (r : Reading) (env : List ℕ) (left : ExprTerm) (k : ℕ) (set : List TRange) (b : Bool) → length set ≤ k → (b || fits_some r env (operand_of r env left) (range_terms (drop k set))) ≡ fits_some r env (operand_of r env left) (range_terms set) → b ≡ fits_some r env (operand_of r env left) (range_terms set)
ranges_end r env left k set b h e = sym (or_false b) ∙ sym (ap (λ rs. b || fits_some r env (operand_of r env left) (range_terms rs)) (none_left k set h)) ∙ e

-- the left side beside a member that is an array, and beside one that is a value
pub left_given : (c : Circuit) (read : (ℕ → Bool) → Reading) (env : List ℕ) (l m : ExprTerm) (p at : ℕ) (xs : List (List Lit)) (x : List Lit) → property_of m ≡ Some p → GiveParts c xs read env at (member_parts l (property_of m) m) → x ≡ get_or xs at []
    → GivesNumber c x (max (size_of l) (size_of m)) (λ v. val (read v) env l (max (size_of l) (size_of m)) (sign_of l && sign_of m))
left_given c read env l m p at xs x some given ex =
    subst (λ (ls : List Lit). GivesNumber c ls (max (size_of l) (size_of m)) (λ v. val (read v) env l (max (size_of l) (size_of m)) (sign_of l && sign_of m))) (sym ex)
    (subst (λ (o : Option ℕ). GiveParts c xs read env at (member_parts l o m)) some given).0

pub pair_given : (c : Circuit) (read : (ℕ → Bool) → Reading) (env : List ℕ) (l m : ExprTerm) (at : ℕ) (xs : List (List Lit)) (x y : List Lit) → property_of m ≡ None → GiveParts c xs read env at (member_parts l (property_of m) m) → x ≡ get_or xs at [] → y ≡ get_or xs (at + 1) []
    → (AreWithin c.vars x × AreWithin c.vars y) × (length x ≡ length y)
pair_given c read env l m at xs x y none given ex ey =
    let pair = subst (λ (o : Option ℕ). GiveParts c xs read env at (member_parts l o m)) none given in
    let next : y ≡ get_or xs (suc at) [] = ey ∙ ap (λ j. get_or xs j []) (add-one at) in
    ((subst (AreWithin c.vars) (sym ex) pair.0.within, subst (AreWithin c.vars) (sym next) pair.1.0.within), ap length ex ∙ pair.0.len ∙ sym (ap length next ∙ pair.1.0.len))

pub size_some : (e : ExprTerm) → IsTyped e → 1 ≤ size_of e
size_some (typed w s n) y = omega (arith, y.0, y.2)

-- the common size is that of one of the two
pub common_size : (l : ExprTerm) (m : TExpr) → IsTyped l → IsTyped (expr_term m) → (m.width ≤ max (size_of l) (size_of (expr_term m))) × (max (size_of l) (size_of (expr_term m)) ≤ 64)
common_size l m x y = (omega (arith, own_width m y), omega (arith, size_most l x, size_most (expr_term m) y))

-- some element of a member that is an array
pub element_gives : {E : Type 0} (c d : Circuit) (read : (ℕ → Bool) → Reading) (env : List ℕ) (l : ExprTerm) (m : TExpr) (p at : ℕ) (both : Bool) (xs : List (List Lit)) (x : List Lit) (out : Result Lit E) → IsTyped (expr_term m) → property_of (expr_term m) ≡ Some p
    → both ≡ (sign_of l && sign_of (expr_term m)) → GiveParts c xs read env at (member_parts l (property_of (expr_term m)) (expr_term m)) → x ≡ get_or xs at [] → Extends c d
    → IfOk out (λ told. Tells d told (λ v. has_element (read v) p m.width (length x) both (number v x)))
    → IfOk out (λ told. Tells d told (λ v. equals_member (read v) (operand_of (read v) env l) (property_of (expr_term m)) (operand_of (read v) env (expr_term m))))
element_gives c d read env l m p at both xs x (Err e) y some same given ex later g = tt
element_gives c d read env l m p at both xs x (Ok told) y some same given ex later g =
    let e = expr_term m in
    let front = subst (λ (o : Option ℕ). GiveParts c xs read env at (member_parts l o e)) some given in
    let n : ℕ = max (size_of l) (size_of e) in
    Tells-same (λ v. equals_member (read v) (operand_of (read v) env l) (property_of e) (operand_of (read v) env e)) g
    (λ v h.
    ap (λ w. has_element (read v) p w (length x) both (number v x)) (sym (own_width m y))
    ∙ ap (λ w. has_element (read v) p (size_of e) w both (number v x)) (ap length ex ∙ front.0.len)
    ∙ ap (λ s. has_element (read v) p (size_of e) n s (number v x)) same
    ∙ ap (has_element (read v) p (size_of e) n (sign_of l && sign_of e)) (ap (number v) ex ∙ front.0.value v (later.keeps v h))
    ∙ sym (ap (λ o. equals_member (read v) (operand_of (read v) env l) o (operand_of (read v) env e)) some))

-- a member that is a value
pub value_gives : (c d : Circuit) (read : (ℕ → Bool) → Reading) (env : List ℕ) (l m : ExprTerm) (at : ℕ) (xs : List (List Lit)) (x y : List Lit) (told : Lit) → property_of m ≡ None → GiveParts c xs read env at (member_parts l (property_of m) m)
    → x ≡ get_or xs at [] → y ≡ get_or xs (at + 1) [] → Extends c d → Tells d told (λ v. number v x == number v y)
    → Tells d told (λ v. equals_member (read v) (operand_of (read v) env l) (property_of m) (operand_of (read v) env m))
value_gives c d read env l m at xs x y told none given ex ey later g =
    let pair = subst (λ (o : Option ℕ). GiveParts c xs read env at (member_parts l o m)) none given in
    let n : ℕ = max (size_of l) (size_of m) in
    let s : Bool = sign_of l && sign_of m in
    Tells-same (λ v. equals_member (read v) (operand_of (read v) env l) (property_of m) (operand_of (read v) env m)) g
    (λ v h.
    let here = later.keeps v h in
    ap (λ k. k == number v y) (ap (number v) ex ∙ pair.0.value v here)
    ∙ ap (λ k. val (read v) env l n s == k) (ap (number v) ey ∙ ap (λ j. number v (get_or xs j [])) (add-one at) ∙ pair.1.0.value v here)
    ∙ sym (ap (λ o. equals_member (read v) (operand_of (read v) env l) o (operand_of (read v) env m)) none))

-- two operands beside each other
pub pair_read : (c : Circuit) (read : (ℕ → Bool) → Reading) (env : List ℕ) (p q : ExprTerm) (at : ℕ) (xs : List (List Lit)) (x y : List Lit) → GiveParts c xs read env at (pair_parts p q) → x ≡ get_or xs at [] → y ≡ get_or xs (at + 1) []
    → GivesNumber c x (max (size_of p) (size_of q)) (λ v. val (read v) env p (max (size_of p) (size_of q)) (sign_of p && sign_of q)) × GivesNumber c y (max (size_of p) (size_of q)) (λ v. val (read v) env q (max (size_of p) (size_of q)) (sign_of p && sign_of q))
pair_read c read env p q at xs x y given ex ey = (
  subst (λ (ls : List Lit). GivesNumber c ls (max (size_of p) (size_of q)) (λ v. val (read v) env p (max (size_of p) (size_of q)) (sign_of p && sign_of q))) (sym ex) given.0,
  subst (λ (ls : List Lit). GivesNumber c ls (max (size_of p) (size_of q)) (λ v. val (read v) env q (max (size_of p) (size_of q)) (sign_of p && sign_of q))) (sym (ey ∙ ap (λ j. get_or xs j []) (add-one at))) given.1.0,
)

-- the first is not below the second
not_below : (c d : Circuit) (read : (ℕ → Bool) → Reading) (env : List ℕ) (p q : ExprTerm) (at : ℕ) (both : Bool) (xs : List (List Lit)) (x y : List Lit) (told : Lit) → GiveParts c xs read env at (pair_parts p q) → x ≡ get_or xs at [] → y ≡ get_or xs (at + 1) []
    → both ≡ (sign_of p && sign_of q) → Extends c d → Tells d told (λ v. not (less_of both (length x) (number v x) (number v y))) → Tells d told (λ v. not (is_below (operand_of (read v) env p) (operand_of (read v) env q)))
not_below c d read env p q at both xs x y told given ex ey same later h =
    let pair = pair_read c read env p q at xs x y given ex ey in
    let n : ℕ = max (size_of p) (size_of q) in
    let s : Bool = sign_of p && sign_of q in
    Tells-same (λ v. not (is_below (operand_of (read v) env p) (operand_of (read v) env q))) h
    (λ v m.
    let here = later.keeps v m in
    ap (λ k. not (less_of both k (number v x) (number v y))) pair.0.len
    ∙ ap (λ t. not (less_of t n (number v x) (number v y))) same
    ∙ ap (λ k. not (less_of s n k (number v y))) (pair.0.value v here)
    ∙ ap (λ k. not (less_of s n (val (read v) env p n s) k)) (pair.1.value v here))

pub from_gives : {E : Type 0} (c d : Circuit) (read : (ℕ → Bool) → Reading) (env : List ℕ) (l e : ExprTerm) (b : BoundTerm) (at : ℕ) (both : Bool) (xs : List (List Lit)) (x y : List Lit) (r : Result Lit E) → b ≡ value e → GiveParts c xs read env at (low_parts l b)
    → x ≡ get_or xs at [] → y ≡ get_or xs (at + 1) [] → both ≡ (sign_of l && sign_of e) → Extends c d → IfOk r (λ told. Tells d told (λ v. not (less_of both (length x) (number v x) (number v y))))
    → IfOk r (λ told. Tells d told (λ v. is_from (read v) env (operand_of (read v) env l) b))
from_gives c d read env l e b at both xs x y (Err n) is given ex ey same later h = tt
from_gives c d read env l e b at both xs x y (Ok told) is given ex ey same later h =
    Tells-same (λ v. is_from (read v) env (operand_of (read v) env l) b) (not_below c d read env l e at both xs x y told (subst (λ (o : BoundTerm). GiveParts c xs read env at (low_parts l o)) is given) ex ey same later h)
    (λ v m. ap (λ o. is_from (read v) env (operand_of (read v) env l) o) (sym is))

pub up_to_gives : {E : Type 0} (c d : Circuit) (read : (ℕ → Bool) → Reading) (env : List ℕ) (l e : ExprTerm) (b : BoundTerm) (at : ℕ) (both : Bool) (xs : List (List Lit)) (x y : List Lit) (r : Result Lit E) → b ≡ value e → GiveParts c xs read env at (high_parts l b)
    → x ≡ get_or xs at [] → y ≡ get_or xs (at + 1) [] → both ≡ (sign_of e && sign_of l) → Extends c d → IfOk r (λ told. Tells d told (λ v. not (less_of both (length x) (number v x) (number v y))))
    → IfOk r (λ told. Tells d told (λ v. is_up_to (read v) env (operand_of (read v) env l) b))
up_to_gives c d read env l e b at both xs x y (Err n) is given ex ey same later h = tt
up_to_gives c d read env l e b at both xs x y (Ok told) is given ex ey same later h =
    Tells-same (λ v. is_up_to (read v) env (operand_of (read v) env l) b) (not_below c d read env e l at both xs x y told (subst (λ (o : BoundTerm). GiveParts c xs read env at (high_parts l o)) is given) ex ey same later h)
    (λ v m. ap (λ o. is_up_to (read v) env (operand_of (read v) env l) o) (sym is))
