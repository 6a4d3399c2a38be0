-- The bounds of the cap, put behind the other items of the unknowns themselves.
use Rattle.std.proofs.Common.{◌≡◌, ◌<◌, ◌≤◌, ◌+◌, ◌-◌, ℕ, suc, List, [], ◌∷◌, ◌++◌, map, length, drop, get_or, Option, Some, None, refl, sym, ◌∙◌, ap, arith, drop-cons}
use Rattle.std.specs.Prelude.{filter}
use Rattle.std.specs.List.{flat_map}
use Rattle.std.proofs.lemmas.List.{map-append, length-append, length-map, drop_all}
use Rattle.std.proofs.lemmas.List.Concat.{flat_map-cons}
use Rattle.svr_typed.specs.declared.expr.TExpr.{TExpr}
use Rattle.svr_typed.specs.ExprTerm.{ExprTerm, prop, element, expr_term}
use Rattle.svr_eval.specs.Reading.{Reading}
use Rattle.svr_frame.specs.declared.part.Part.TheVariants.{Sizes}
use Rattle.svr_frame.specs.declared.slot.Slot.{Slot}
use Rattle.svr_frame.specs.declared.slot.Slot.TheVariants.{Scalar, Element, Size}
use Rattle.svr_frame.specs.Frame.{FrameTerm, has_free_size, props_of, members_of, state_at}
use Rattle.svr_frame.specs.Closed.{index_number}
use Rattle.svr_frame.specs.Occurrences.{Occurrence, closed_of}
use Rattle.svr_frame.specs.Phases.{among_members, domain_item, domain_items, not_negative, at_most, size_items, cap_items, asked_of, hard_of, capped_hard_of}
use Rattle.svr_phase.specs.Spent.{closed_at}
use Rattle.svr_sized.specs.Bounds.{at_most_expr, cap_exprs}

-- ---- lists

-- the first elements, and those behind them
cut_at : (xs : List TExpr) (us vs : List ExprTerm) → map expr_term xs ≡ us ++ vs → (front : List TExpr) × (last : List TExpr) × (xs ≡ front ++ last) × (map expr_term front ≡ us) × (map expr_term last ≡ vs)
cut_at xs [] vs e = ([], xs, refl, refl, e)
cut_at [] (u ∷ us) vs e = absurd (cc)
cut_at (x ∷ xs) (u ∷ us) vs e =
    let first : expr_term x ≡ u = cc in
    let tails : map expr_term xs ≡ us ++ vs = cc in
    let rest = cut_at xs us vs tails in
    (x ∷ rest.0, rest.1, ap (λ (ys : List TExpr). x ∷ ys) rest.2, λ i. first i ∷ rest.3 i, rest.4)

mapped_length : (xs : List TExpr) (us : List ExprTerm) → map expr_term xs ≡ us → length xs ≡ length us
mapped_length xs us e = sym (length-map xs expr_term) ∙ ap (λ (es : List ExprTerm). length es) e

-- ---- closed bounds

caps_closed : (f : FrameTerm) (st : Reading) (cap : ℕ) (ps : List ℕ) → map (closed_of st) (map (at_most f cap) ps) ≡ map (at_most_expr cap) ps
caps_closed f st cap [] = refl
caps_closed f st cap (p ∷ ps) = ap (λ (es : List ExprTerm). at_most_expr cap p ∷ es) (caps_closed f st cap ps)

module _ (f : FrameTerm) (cap : ℕ) where
  abbrev ns : List ℕ
  ns = f.state.sizes

  abbrev own : List Occurrence
  own = domain_items f Sizes ns ++ size_items f Sizes

  caps_are : cap_exprs f cap ≡ closed_at f ns (cap_items f cap)
  caps_are = sym (caps_closed f (state_at f ns) cap (filter (has_free_size f) (props_of f)))

  -- there is a cap for each size that is not negative
  as_many : length (size_items f Sizes) ≡ length (cap_items f cap)
  as_many = length-map (filter (has_free_size f) (props_of f)) (not_negative f) ∙ sym (length-map (filter (has_free_size f) (props_of f)) (at_most f cap))

  module _ (hard caps : List TExpr) (stand : map expr_term hard ≡ closed_at f ns (hard_of f Sizes ns)) (bounds : map expr_term caps ≡ cap_exprs f cap) where
    caps_long : length caps ≡ length (size_items f Sizes)
    caps_long = mapped_length caps (cap_exprs f cap) bounds ∙ ap (λ (es : List ExprTerm). length es) caps_are ∙ length-map (cap_items f cap) (closed_of (state_at f ns)) ∙ sym as_many

    -- the domains, a bound for each free size, and the active items
    pub hard_long : length hard ≡ length (domain_items f Sizes ns) + length caps + length (asked_of f Sizes ns)
    hard_long =
        mapped_length hard (closed_at f ns (hard_of f Sizes ns)) stand
        ∙ length-map (hard_of f Sizes ns) (closed_of (state_at f ns))
        ∙ length-append own (asked_of f Sizes ns)
        ∙ (λ i. length-append (domain_items f Sizes ns) (size_items f Sizes) i + length (asked_of f Sizes ns))
        ∙ ap (λ n. length (domain_items f Sizes ns) + n + length (asked_of f Sizes ns)) (sym caps_long)

    -- with the caps in front of the active items
    pub with_caps : (all : List TExpr) → ((front last : List TExpr) → hard ≡ front ++ last → length last ≡ length (asked_of f Sizes ns) → all ≡ front ++ caps ++ last)
        → map expr_term all ≡ closed_at f ns (capped_hard_of f cap ns)
    with_caps all put =
        let cut = cut_at hard (closed_at f ns own) (closed_at f ns (asked_of f Sizes ns)) (stand ∙ map-append (closed_of (state_at f ns)) own (asked_of f Sizes ns)) in
        let long = mapped_length cut.1 (closed_at f ns (asked_of f Sizes ns)) cut.4 ∙ length-map (asked_of f Sizes ns) (closed_of (state_at f ns)) in
        ap (map expr_term) (put cut.0 cut.1 cut.2 long)
        ∙ map-append expr_term (cut.0 ++ caps) cut.1
        ∙ ap (λ (es : List ExprTerm). es ++ map expr_term cut.1) (map-append expr_term cut.0 caps)
        ∙ (λ i. cut.3 i ++ (bounds ∙ caps_are) i ++ cut.4 i)
        ∙ ap (λ (es : List ExprTerm). es ++ closed_at f ns (asked_of f Sizes ns)) (sym (map-append (closed_of (state_at f ns)) own (cap_items f cap)))
        ∙ sym (map-append (closed_of (state_at f ns)) (own ++ cap_items f cap) (asked_of f Sizes ns))

-- ---- how many items the unknowns have of their own

-- at most one each
own_most : (f : FrameTerm) (s : Slot) → length (domain_item f s) ≤ 1
own_most f (Scalar p) = by_members (members_of f p)
  where
    by_members : (o : Option (List ℕ)) → length (among_members f p (prop p) o) ≤ 1
    by_members None = omega arith
    by_members (Some vs) = omega arith
own_most f (Element p i) = by_members (members_of f p)
  where
    by_members : (o : Option (List ℕ)) → length (among_members f p (element p (index_number i)) o) ≤ 1
    by_members None = omega arith
    by_members (Some vs) = omega arith
own_most f (Size p) = omega arith

pub own_few : (f : FrameTerm) (s : Slot) (n : ℕ) → n ≡ length (domain_item f s) → n ≤ 1
own_few f s n is = omega (arith, is, own_most f s)

-- one unknown more
pub one_counted : (f : FrameTerm) (slots : List Slot) (i n m all : ℕ) (d : Slot) → i < length slots → m ≡ length (domain_item f (get_or slots i d))
    → n + length (flat_map (domain_item f) (drop i slots)) ≡ all → n + m + length (flat_map (domain_item f) (drop (i + 1) slots)) ≡ all
one_counted f slots i n m all d lt one before =
    let open_list : drop i slots ≡ get_or slots i d ∷ drop (i + 1) slots = drop-cons slots i d lt ∙ ap (λ k. get_or slots i d ∷ drop k slots) (let e : suc i ≡ i + 1 = omega arith in e) in
    let both : length (flat_map (domain_item f) (drop i slots)) ≡ length (domain_item f (get_or slots i d)) + length (flat_map (domain_item f) (drop (i + 1) slots))
    = ap (λ (ss : List Slot). length (flat_map (domain_item f) ss)) open_list
    ∙ ap (λ (os : List Occurrence). length os) (flat_map-cons (domain_item f) (get_or slots i d) (drop (i + 1) slots))
    ∙ length-append (domain_item f (get_or slots i d)) (flat_map (domain_item f) (drop (i + 1) slots)) in
    omega (arith, one, both, before)

-- none is left
pub all_counted : (f : FrameTerm) (slots : List Slot) (i n all : ℕ) → length slots ≤ i → n + length (flat_map (domain_item f) (drop i slots)) ≡ all → n ≡ all
all_counted f slots i n all le before =
    let none : length (flat_map (domain_item f) (drop i slots)) ≡ 0 = ap (λ (ss : List Slot). length (flat_map (domain_item f) ss)) (drop_all i slots le) in
    omega (arith, none, before)
