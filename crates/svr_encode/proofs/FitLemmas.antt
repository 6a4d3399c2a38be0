-- The parts of a node that is typed and served are typed, served and smaller than it
use Rattle.std.proofs.Common.{◌≡◌, ℕ, zero, suc, ◌+◌, ◌<◌, ◌≤◌, max, Bool, ◌&&◌, List, [], ◌∷◌, ◌++◌, length, get_or, Option, None, Some, arith}
use Rattle.std.specs.Prelude.{⊤}
use Rattle.svr_typed.specs.ExprTerm.{ExprTerm, typed, NodeTerm, number, prop, element, cell, size, script, loop_index, reduce, of_object, bit_select, part_select, unary, binary, choice, inside, join, copies, sign, ExprTerms, no_exprs, more_exprs, RangeTerm, one, span, RangeTerms, no_ranges, more_ranges, BoundTerm, value, dollar}
use Rattle.svr_eval.specs.declared.operator.BinaryKind.{BinaryKind}
use Rattle.svr_eval.specs.declared.operator.BinaryKind.TheVariants.{InContext, Shifted, ByPair, Logical}
use Rattle.svr_eval.specs.declared.operator.UnaryKind.{UnaryKind}
use Rattle.svr_eval.specs.declared.operator.UnaryKind.TheVariants.{Changed, Reduced}
use Rattle.svr_limits.specs.declared.limit.TheConstants.{LOOP_LIMIT}
use Rattle.svr_eval.specs.Operator.{binary_kind, unary_kind, binary_size, unary_size}
use Rattle.svr_eval.specs.Value.{size_of, sign_of, property_of}
use Rattle.svr_eval.specs.Typed.{IsTyped, NodeIsTyped, AreTyped, RangesAreTyped, RangeIsTyped, BoundIsTyped}
use Rattle.svr_inputs.specs.declared.inputs.Inputs.{Inputs}
use Rattle.svr_inputs.specs.Served.{IsServed, NodeIsServed, AreServed, RangesAreServed, RangeIsServed, BoundIsServed}
use Rattle.svr_encode.specs.Parts.{PartTerm, in_context, alone_part, body_part, body_parts, alone_parts, beside, behind, pair_parts, unary_parts, binary_parts, member_parts, low_parts, high_parts, range_parts, set_parts, node_parts, parts_of}

-- the number of nodes, without counts
abbrev mutual
  pub term_size : ExprTerm → ℕ
  term_size (typed w s n) = suc (below n)

  pub below : NodeTerm → ℕ
  below (number v every) = 0
  below (prop p) = 0
  below (element p e) = term_size e
  below (cell p m first second) = term_size first + term_size second
  below (size p m) = 0
  below (script v) = 0
  below (loop_index k) = 0
  below (reduce p op body) = term_size body
  below (of_object o e) = term_size e
  below (bit_select base first low) = term_size base + term_size first
  below (part_select base first last low) = term_size base + term_size last
  below (unary op e) = term_size e
  below (binary op l r) = term_size l + term_size r
  below (choice t met unmet) = term_size t + (term_size met + term_size unmet)
  below (inside l rs) = term_size l + ranges_size rs
  below (join parts) = exprs_size parts
  below (copies n parts) = exprs_size parts
  below (sign as_signed e) = term_size e

  pub exprs_size : ExprTerms → ℕ
  exprs_size no_exprs = 0
  exprs_size (more_exprs e es) = term_size e + exprs_size es

  pub ranges_size : RangeTerms → ℕ
  ranges_size no_ranges = 0
  ranges_size (more_ranges r rs) = range_size r + ranges_size rs

  pub range_size : RangeTerm → ℕ
  range_size (one e) = term_size e
  range_size (span low high) = bound_size low + bound_size high

  pub bound_size : BoundTerm → ℕ
  bound_size (value e) = term_size e
  bound_size dollar = 0

abbrev pub deeper : ℕ → Option ℕ → ℕ
deeper d None = d
deeper d (Some i) = d + 1

pub record PartFits (i : Inputs) (d t : ℕ) (p : PartTerm) : Type 0 where
  pub is_typed : IsTyped p.tree
  pub is_served : IsServed i (deeper d p.index) p.tree
  pub deep : (j : ℕ) → p.index ≡ Some j → d < LOOP_LIMIT
  pub smaller : term_size p.tree < t
  pub wide : size_of p.tree ≤ p.width
  pub high : p.width ≤ 64

pub size_most : (e : ExprTerm) → IsTyped e → size_of e ≤ 64
size_most (typed w s n) t = omega (arith, t.1, t.2)

module _ (i : Inputs) (d t : ℕ) where
  abbrev pub PartsFit : List PartTerm → Type 0
  PartsFit [] = ⊤
  PartsFit (p ∷ ps) = PartFits i d t p × PartsFit ps

  pub fits_at : (ps : List PartTerm) (j : ℕ) (p : PartTerm) → PartsFit ps → j < length ps → PartFits i d t (get_or ps j p)
  fits_at [] j p h l = absurd (omega arith)
  fits_at (q ∷ ps) zero p h l = h.0
  fits_at (q ∷ ps) (suc j) p h l = fits_at ps j p h.1 (omega arith)

  fits_both : (ps qs : List PartTerm) → PartsFit ps → PartsFit qs → PartsFit (ps ++ qs)
  fits_both [] qs h k = k
  fits_both (p ∷ ps) qs h k = (h.0, fits_both ps qs h.1 k)

  context_fits : (w : ℕ) (s : Bool) (e : ExprTerm) → IsTyped e → IsServed i d e → term_size e < t → size_of e ≤ w → w ≤ 64 → PartFits i d t (in_context w s e)
  context_fits w s e y r m g h = record { is_typed = y; is_served = r; deep = λ j n. cc; smaller = m; wide = g; high = h }

  alone_fits : (e : ExprTerm) → IsTyped e → IsServed i d e → term_size e < t → PartFits i d t (alone_part e)
  alone_fits e y r m = context_fits (size_of e) (sign_of e) e y r m (omega arith) (size_most e y)

  body_fits : (e : ExprTerm) (k : ℕ) → IsTyped e → IsServed i (d + 1) e → d < LOOP_LIMIT → term_size e < t → PartFits i d t (body_part e k)
  body_fits e k y r g m = record { is_typed = y; is_served = r; deep = λ j n. g; smaller = m; wide = omega arith; high = size_most e y }

  bodies_fit : (n : ℕ) (e : ExprTerm) → IsTyped e → IsServed i (d + 1) e → d < LOOP_LIMIT → term_size e < t → PartsFit (body_parts n e)
  bodies_fit zero e y r g m = tt
  bodies_fit (suc n) e y r g m = fits_both (body_parts n e) (body_part e n ∷ []) (bodies_fit n e y r g m) (body_fits e n y r g m, tt)

  all_alone_fit : (es : ExprTerms) → AreTyped es → AreServed i d es → exprs_size es < t → PartsFit (alone_parts es)
  all_alone_fit no_exprs y r m = tt
  all_alone_fit (more_exprs e es) y r m = (alone_fits e y.0 r.0 (omega arith), all_alone_fit es y.1 r.1 (omega arith))

  common : (x y : ExprTerm) → IsTyped x → IsTyped y → max (size_of x) (size_of y) ≤ 64
  common x y tx ty = omega (arith, size_most x tx, size_most y ty)

  beside_fits : (x y : ExprTerm) → IsTyped x → IsTyped y → IsServed i d x → term_size x < t → PartFits i d t (beside x y)
  beside_fits x y tx ty r m = context_fits (max (size_of x) (size_of y)) (sign_of x && sign_of y) x tx r m (omega arith) (common x y tx ty)

  behind_fits : (x y : ExprTerm) → IsTyped x → IsTyped y → IsServed i d y → term_size y < t → PartFits i d t (behind x y)
  behind_fits x y tx ty r m = context_fits (max (size_of x) (size_of y)) (sign_of x && sign_of y) y ty r m (omega arith) (common x y tx ty)

  pair_fits : (x y : ExprTerm) → IsTyped x → IsTyped y → IsServed i d x → IsServed i d y → term_size x < t → term_size y < t → PartsFit (pair_parts x y)
  pair_fits x y tx ty rx ry mx my = (beside_fits x y tx ty rx mx, (behind_fits x y tx ty ry my, tt))

  unary_fits : (k : UnaryKind) (e : ExprTerm) (w : ℕ) (s : Bool) → IsTyped e → IsServed i d e → term_size e < t → unary_size k (size_of e) ≤ w → w ≤ 64 → PartsFit (unary_parts k e w s)
  unary_fits (Changed f) e w s y r m g h = (context_fits w s e y r m g h, tt)
  unary_fits (Reduced f) e w s y r m g h = (alone_fits e y r m, tt)

  binary_fits : (k : BinaryKind) (x y : ExprTerm) (w : ℕ) (s : Bool) → IsTyped x → IsTyped y → IsServed i d x → IsServed i d y → term_size x < t → term_size y < t
      → binary_size k (size_of x) (size_of y) ≤ w → w ≤ 64 → PartsFit (binary_parts k x y w s)
  binary_fits (InContext f) x y w s tx ty rx ry mx my g h = (context_fits w s x tx rx mx (omega arith) h, (context_fits w s y ty ry my (omega arith) h, tt))
  binary_fits (Shifted f) x y w s tx ty rx ry mx my g h = (context_fits w s x tx rx mx g h, (alone_fits y ty ry my, tt))
  binary_fits (ByPair f) x y w s tx ty rx ry mx my g h = pair_fits x y tx ty rx ry mx my
  binary_fits (Logical f) x y w s tx ty rx ry mx my g h = (alone_fits x tx rx mx, (alone_fits y ty ry my, tt))

  member_fits : (l : ExprTerm) (o : Option ℕ) (e : ExprTerm) → IsTyped l → IsServed i d l → term_size l < t → IsTyped e → IsServed i d e → term_size e < t → PartsFit (member_parts l o e)
  member_fits l None e tl rl ml te re me = pair_fits l e tl te rl re ml me
  member_fits l (Some p) e tl rl ml te re me = (beside_fits l e tl te rl ml, tt)

  low_fits : (l : ExprTerm) (b : BoundTerm) → IsTyped l → IsServed i d l → term_size l < t → BoundIsTyped b → BoundIsServed i d b → bound_size b < t → PartsFit (low_parts l b)
  low_fits l (value e) tl rl ml te re me = pair_fits l e tl te rl re ml me
  low_fits l dollar tl rl ml te re me = tt

  high_fits : (l : ExprTerm) (b : BoundTerm) → IsTyped l → IsServed i d l → term_size l < t → BoundIsTyped b → BoundIsServed i d b → bound_size b < t → PartsFit (high_parts l b)
  high_fits l (value e) tl rl ml te re me = pair_fits e l te tl re rl me ml
  high_fits l dollar tl rl ml te re me = tt

  range_fits : (l : ExprTerm) (r : RangeTerm) → IsTyped l → IsServed i d l → term_size l < t → RangeIsTyped r → RangeIsServed i d r → range_size r < t → PartsFit (range_parts l r)
  range_fits l (one e) tl rl ml te re me = member_fits l (property_of e) e tl rl ml te re.0 me
  range_fits l (span low high) tl rl ml te re me =
      fits_both (low_parts l low) (high_parts l high) (low_fits l low tl rl ml te.0 re.0 (omega arith)) (high_fits l high tl rl ml te.1 re.1 (omega arith))

  set_fits : (l : ExprTerm) (rs : RangeTerms) → IsTyped l → IsServed i d l → term_size l < t → RangesAreTyped rs → RangesAreServed i d rs → ranges_size rs < t → PartsFit (set_parts l rs)
  set_fits l no_ranges tl rl ml ts us ms = tt
  set_fits l (more_ranges r rs) tl rl ml ts us ms =
      fits_both (range_parts l r) (set_parts l rs) (range_fits l r tl rl ml ts.0 us.0 (omega arith)) (set_fits l rs tl rl ml ts.1 us.1 (omega arith))

node_fits : (count : ℕ → ℕ) (i : Inputs) (d from w : ℕ) (s : Bool) (n : NodeTerm) → NodeIsTyped from n → NodeIsServed i d from n → size_of (typed from s n) ≤ w → w ≤ 64 → PartsFit i d (suc (below n)) (node_parts count n w s)
node_fits count i d from w s (number v every) y r g h = tt
node_fits count i d from w s (prop p) y r g h = tt
node_fits count i d from w s (element p e) y r g h = (alone_fits i d (suc (term_size e)) e y r.0 (omega arith), tt)
node_fits count i d from w s (cell p m x z) y r g h =
    let t = suc (term_size x + term_size z) in (alone_fits i d t x y.1 r.0 (omega arith), (alone_fits i d t z y.2 r.1 (omega arith), tt))
node_fits count i d from w s (size p m) y r g h = tt
node_fits count i d from w s (script v) y r g h = tt
node_fits count i d from w s (loop_index k) y r g h = tt
node_fits count i d from w s (reduce p op body) y r g h = bodies_fit i d (suc (term_size body)) (count p) body y r.2 r.0 (omega arith)
node_fits count i d from w s (of_object o e) y r g h = (context_fits i d (suc (term_size e)) w s e y r (omega arith) g h, tt)
node_fits count i d from w s (bit_select base x low) y r g h =
    let t = suc (term_size base + term_size x) in (alone_fits i d t base y.0 r.0 (omega arith), (alone_fits i d t x y.1 r.1 (omega arith), tt))
node_fits count i d from w s (part_select base x last low) y r g h =
    let t = suc (term_size base + term_size last) in (alone_fits i d t base y.0 r.0 (omega arith), (alone_fits i d t last y.2 r.2 (omega arith), tt))
node_fits count i d from w s (unary op e) y r g h = unary_fits i d (suc (term_size e)) (unary_kind op) e w s y r (omega arith) g h
node_fits count i d from w s (binary op x z) y r g h = binary_fits i d (suc (term_size x + term_size z)) (binary_kind op) x z w s y.0 y.1 r.0 r.1 (omega arith) (omega arith) g h
node_fits count i d from w s (choice q met unmet) y r g h =
    let t = suc (term_size q + (term_size met + term_size unmet)) in
    (alone_fits i d t q y.0 r.0 (omega arith), (context_fits i d t w s met y.1 r.1 (omega arith) (omega arith) h, (context_fits i d t w s unmet y.2 r.2 (omega arith) (omega arith) h, tt)))
node_fits count i d from w s (inside l rs) y r g h = set_fits i d (suc (term_size l + ranges_size rs)) l rs y.0 r.0 (omega arith) y.1 r.1 (omega arith)
node_fits count i d from w s (join parts) y r g h = all_alone_fit i d (suc (exprs_size parts)) parts y r (omega arith)
node_fits count i d from w s (copies n parts) y r g h = all_alone_fit i d (suc (exprs_size parts)) parts y.2 r.1 (omega arith)
node_fits count i d from w s (sign as_signed e) y r g h = (alone_fits i d (suc (term_size e)) e y r (omega arith), tt)

pub parts_fit : (count : ℕ → ℕ) (i : Inputs) (d w : ℕ) (s : Bool) (e : ExprTerm) → IsTyped e → IsServed i d e → size_of e ≤ w → w ≤ 64 → PartsFit i d (term_size e) (parts_of count e w s)
parts_fit count i d w s (typed from t n) y r g h = node_fits count i d from w s n y.4 r g h
