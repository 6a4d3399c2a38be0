-- The items of a sound frame can be served
use Rattle.std.proofs.Common.{◌≡◌, ◌<◌, ◌≤◌, ◌==◌, ◌^◌, ℕ, zero, suc, ◌+◌, Bool, true, false, cond, not, ◌&&◌, refl, sym, ◌∙◌, ap, subst, List, [], ◌∷◌, length, Option, None, Some, arith}
use Rattle.std.specs.Prelude.{⊤, slice_index, nat_lt, if◌then◌else◌}
use Rattle.std.proofs.lemmas.Bool.{and_parts, eqb-true}
use Rattle.svr_typed.specs.ExprTerm.{ExprTerm, typed, NodeTerm, number, prop, element, cell, size, script, loop_index, reduce, of_object, bit_select, part_select, unary, binary, choice, inside, join, copies, sign, ExprTerms, no_exprs, more_exprs, RangeTerm, one, span, RangeTerms, no_ranges, more_ranges, BoundTerm, value, dollar}
use Rattle.svr_chain.specs.declared.clause.Lit.{Lit}
use Rattle.svr_eval.specs.declared.assign.Assign.{Assign}
use Rattle.svr_eval.specs.Reading.{Reading, reading_of}
use Rattle.svr_eval.specs.Value.{property_of}
use Rattle.svr_eval.specs.Typed.{IsTyped, NodeIsTyped, AreTyped, RangesAreTyped, RangeIsTyped, BoundIsTyped, CanRead, NodeCanRead, AllCanRead, RangesCanRead, RangeCanRead, BoundCanRead}
use Rattle.svr_frame.specs.declared.slot.Slot.{Slot}
use Rattle.svr_frame.specs.declared.slot.Slot.TheVariants.{Scalar, Element, Size}
use Rattle.svr_frame.specs.Frame.{FrameTerm, frame_term, width_of, state_at}
use Rattle.svr_frame.specs.Satisfaction.{is_at, is_size_of}
use Rattle.svr_frame.specs.Sound.{HasType, ExprIsIn, NodeIsIn, ExprsAreIn, RangesAreIn, RangeIsIn, BoundIsIn, IsSound, SizesFit}
use Rattle.svr_inputs.specs.declared.inputs.Inputs.{Inputs}
use Rattle.svr_encoded.specs.Slots.{positives, positive_bits, bits_where, bits_of_slot, widths_of}
use Rattle.svr_inputs.specs.Inputs.{state_of, number_bits, size_bits, PlaceIsReady, NumbersAreReady}
use Rattle.svr_inputs.specs.Served.{MemberIsServed, IsServed, NodeIsServed, AreServed, RangesAreServed, RangeIsServed, BoundIsServed}
use Rattle.svr_encoded.specs.Fixed.{MemberIsFixed, IsFixed, NodeIsFixed, AreFixed, RangesAreFixed, RangeIsFixed, BoundIsFixed}

length-positives : (n w : ℕ) → length (positives n w) ≡ w
length-positives n zero = refl
length-positives n (suc w) = ap suc (length-positives (suc n) w)

-- the bits that are found are as many as those of a slot that passes the test
pub found : (f : FrameTerm) (sb : ℕ) (t : Slot → Bool) (n : ℕ) (slots : List Slot) (ls : List Lit) → bits_where t slots (positive_bits n (widths_of f sb slots)) ≡ Some ls → (s : Slot) × (t s ≡ true) × (length ls ≡ bits_of_slot f sb s)
found f sb t n [] ls e = cc
found f sb t n (s ∷ slots) ls e = by_test (t s) refl e (found f sb t (n + bits_of_slot f sb s) slots ls)
  where
    by_test : (b : Bool) → t s ≡ b → cond b (Some (positives n (bits_of_slot f sb s))) (bits_where t slots (positive_bits (n + bits_of_slot f sb s) (widths_of f sb slots))) ≡ Some ls
        → (bits_where t slots (positive_bits (n + bits_of_slot f sb s) (widths_of f sb slots)) ≡ Some ls → (x : Slot) × (t x ≡ true) × (length ls ≡ bits_of_slot f sb x))
        → (x : Slot) × (t x ≡ true) × (length ls ≡ bits_of_slot f sb x)
    by_test true h e rest = let same : positives n (bits_of_slot f sb s) ≡ ls = cc in (s, h, ap length (sym same) ∙ length-positives n (bits_of_slot f sb s))
    by_test false h e rest = rest e

pub at_width : (f : FrameTerm) (sb : ℕ) (p i : ℕ) (s : Slot) → is_at p i s ≡ true → bits_of_slot f sb s ≡ width_of f p
at_width f sb p i (Scalar q) h = ap (width_of f) (eqb-true q p (and_parts (q == p) (i == 0) h).0)
at_width f sb p i (Element q j) h = ap (width_of f) (eqb-true q p (and_parts (q == p) (j == i) h).0)
at_width f sb p i (Size q) h = cc

pub size_width : (f : FrameTerm) (sb : ℕ) (p : ℕ) (s : Slot) → is_size_of p s ≡ true → bits_of_slot f sb s ≡ sb
size_width f sb p (Scalar q) h = cc
size_width f sb p (Element q j) h = cc
size_width f sb p (Size q) h = refl

-- inputs with these bits for the slots of a sound frame, where the sizes that are not looked for have none
module _ (i : Inputs) (f : FrameTerm) (slots : List Slot) (sb : ℕ) (low : 1 ≤ sb) (high : sb ≤ 32) (state : i.state.now ≡ f.state) (sound : IsSound f) (fit : SizesFit f i.sizes.now)
    (numbers : (p j : ℕ) → number_bits i p j ≡ bits_where (is_at p j) slots (positive_bits 0 (widths_of f sb slots)))
    (sizes : (p : ℕ) → size_bits i p ≡ bits_where (is_size_of p) slots (positive_bits 0 (widths_of f sb slots))) (sought : ℕ → Bool) (fixed : (p : ℕ) → sought p ≡ false → size_bits i p ≡ None) where
  state_below : (p j : ℕ) → (state_of i).element p j < 2 ^ width_of f p
  state_below p j = by_place (nat_lt j (slice_index i.sizes.now p)) where
    by_place : (b : Bool) → (if b then (reading_of i.state.now).element p j else 0) < 2 ^ width_of f p
    by_place true = subst (λ (a : Assign). (reading_of a).element p j < 2 ^ width_of f p) (sym state) (sound.state.below p j)
    by_place false = omega (arith, sound.state.below p j)

  number_ready : (w p j : ℕ) → 1 ≤ w → w ≡ width_of f p → PlaceIsReady w ((state_of i).element p j) (number_bits i p j)
  number_ready w p j some own = by_bits (number_bits i p j) refl where
    by_bits : (o : Option (List Lit)) → number_bits i p j ≡ o → PlaceIsReady w ((state_of i).element p j) o
    by_bits None e = subst (λ (k : ℕ). (state_of i).element p j < 2 ^ k) (sym own) (state_below p j)
    by_bits (Some ls) e =
        let s = found f sb (is_at p j) 0 slots ls (sym (numbers p j) ∙ e) in
        let len : length ls ≡ w = s.2 ∙ at_width f sb p j s.0 s.1 ∙ sym own in
        (omega (arith, len, some), omega (arith, len))

  numbers_ready : (w p : ℕ) (s : Bool) → 1 ≤ w → HasType f p w s → NumbersAreReady i w p
  numbers_ready w p s some t = λ j. number_ready w p j some t.1

  size_ready : (p : ℕ) → PlaceIsReady 32 ((state_of i).size p) (size_bits i p)
  size_ready p = by_bits (size_bits i p) refl where
    by_bits : (o : Option (List Lit)) → size_bits i p ≡ o → PlaceIsReady 32 ((state_of i).size p) o
    by_bits None e = omega (arith, fit.most p)
    by_bits (Some ls) e =
        let s = found f sb (is_size_of p) 0 slots ls (sym (sizes p) ∙ e) in
        let len : length ls ≡ sb = s.2 ∙ size_width f sb p s.0 s.1 in
        (omega (arith, len, low), omega (arith, len, high))

  member_served : (o : Option ℕ) → MemberIsFixed sought o → MemberIsServed i o
  member_served None h = tt
  member_served (Some p) h = fixed p h

  script_ready : (v w : ℕ) → (reading_of f.state).script v < 2 ^ w → (state_of i).script v < 2 ^ w
  script_ready v w h = subst (λ (a : Assign). (reading_of a).script v < 2 ^ w) (sym state) h

  mutual
    pub served : (d : ℕ) (e : ExprTerm) (whole : Bool) → IsTyped e → ExprIsIn f whole e → CanRead (reading_of f.state) d e → IsFixed sought e → IsServed i d e
    served d (typed w s n) whole t h r k = node_served d n w s whole t.0 t.4 h r k

    node_served : (d : ℕ) (n : NodeTerm) (w : ℕ) (s whole : Bool) → 1 ≤ w → NodeIsTyped w n → NodeIsIn f whole w s n → NodeCanRead (reading_of f.state) d w n → NodeIsFixed sought n → NodeIsServed i d w n
    node_served d (number v every) w s whole some t h r k = tt
    node_served d (prop p) w s whole some t h r k = numbers_ready w p s some h.0
    node_served d (element p e) w s whole some t h r k = (served d e false t h.2 r.0 k, numbers_ready w p s some h.0)
    node_served d (cell p m first second) w s whole some t h r k = (served d first false t.1 h.3 r.0 k.0, served d second false t.2 h.4 r.1 k.1, numbers_ready w p s some h.0)
    node_served d (size p m) w s whole some t h r k = size_ready p
    node_served d (script v) w s whole some t h r k = script_ready v w r
    node_served d (loop_index j) w s whole some t h r k = r
    node_served d (reduce p op body) w s whole some t h r k = (r.0, fixed p k.0, served (d + 1) body false t h.2 r.1 k.1)
    node_served d (of_object o e) w s whole some t h r k = absurd h
    node_served d (bit_select base first l) w s whole some t h r k = (served d base false t.0 h.0 r.0 k.0, served d first false t.1 h.1 r.1 k.1)
    node_served d (part_select base first last l) w s whole some t h r k = (served d base false t.0 h.0 r.0 k.0, served d first false t.1 h.1 r.1 k.1, served d last false t.2 h.2 r.2 k.2)
    node_served d (unary op e) w s whole some t h r k = served d e false t h r k
    node_served d (binary op l r) w s whole some t h c k = (served d l false t.0 h.0 c.0 k.0, served d r false t.1 h.1 c.1 k.1)
    node_served d (choice q met unmet) w s whole some t h r k = (served d q false t.0 h.0 r.0 k.0, served d met false t.1 h.1 r.1 k.1, served d unmet false t.2 h.2 r.2 k.2)
    node_served d (inside l rs) w s whole some t h r k = (served d l false t.0 h.0 r.0 k.0, ranges_served d rs t.1 h.1 r.1 k.1)
    node_served d (join parts) w s whole some t h r k = all_served d parts t h r k
    node_served d (copies count parts) w s whole some t h r k = (served d count false t.0 h.0 r.0 k.0, all_served d parts t.2 h.1 r.1 k.1)
    node_served d (sign as_signed e) w s whole some t h r k = served d e false t h r k

    all_served : (d : ℕ) (es : ExprTerms) → AreTyped es → ExprsAreIn f false es → AllCanRead (reading_of f.state) d es → AreFixed sought es → AreServed i d es
    all_served d no_exprs t h r k = tt
    all_served d (more_exprs e es) t h r k = (served d e false t.0 h.0 r.0 k.0, all_served d es t.1 h.1 r.1 k.1)

    ranges_served : (d : ℕ) (rs : RangeTerms) → RangesAreTyped rs → RangesAreIn f rs → RangesCanRead (reading_of f.state) d rs → RangesAreFixed sought rs → RangesAreServed i d rs
    ranges_served d no_ranges t h r k = tt
    ranges_served d (more_ranges x rs) t h r k = (range_served d x t.0 h.0 r.0 k.0, ranges_served d rs t.1 h.1 r.1 k.1)

    range_served : (d : ℕ) (x : RangeTerm) → RangeIsTyped x → RangeIsIn f true x → RangeCanRead (reading_of f.state) d x → RangeIsFixed sought x → RangeIsServed i d x
    range_served d (one e) t h r k = (served d e true t h r k.0, member_served (property_of e) k.1)
    range_served d (span l u) t h r k = (bound_served d l t.0 h.0 r.0 k.0, bound_served d u t.1 h.1 r.1 k.1)

    bound_served : (d : ℕ) (x : BoundTerm) → BoundIsTyped x → BoundIsIn f x → BoundCanRead (reading_of f.state) d x → BoundIsFixed sought x → BoundIsServed i d x
    bound_served d (value e) t h r k = served d e false t h r k
    bound_served d dollar t h r k = tt
