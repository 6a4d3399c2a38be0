-- The parts of a node from which its value is combined, each in the context in which it is computed (IEEE 1800-2017, 11.6 to 11.8)
use Rattle.std.specs.Prelude.{◌≡◌, ℕ, zero, suc, ◌<◌, max, Bool, ◌&&◌, List, [], ◌∷◌, ◌++◌, length, get_or, Option, None, Some, ⊤}
use Rattle.svr_typed.specs.ExprTerm.{ExprTerm, typed, NodeTerm, number, prop, element, cell, size, script, loop_index, reduce, of_object, bit_select, part_select, unary, binary, choice, inside, join, copies, sign, ExprTerms, no_exprs, more_exprs, RangeTerm, one, span, RangeTerms, no_ranges, more_ranges, BoundTerm, value, dollar, expr_term}
use Rattle.svr_eval.specs.declared.operator.BinaryKind.{BinaryKind}
use Rattle.svr_eval.specs.declared.operator.BinaryKind.TheVariants.{InContext, Shifted, ByPair, Logical}
use Rattle.svr_eval.specs.declared.operator.UnaryKind.{UnaryKind}
use Rattle.svr_eval.specs.declared.operator.UnaryKind.TheVariants.{Changed, Reduced}
use Rattle.svr_eval.specs.Operator.{binary_kind, unary_kind}
use Rattle.svr_eval.specs.Value.{size_of, sign_of, property_of}
use Rattle.svr_encode.specs.declared.part.Part.{Part}

-- an expression, the width and the sign at which it is computed, and where it is the body of a reduction, the index
pub record PartTerm : Type 0 where
  pub tree : ExprTerm
  pub width : ℕ
  pub sign : Bool
  pub index : Option ℕ

abbrev pub part_term : Part → PartTerm
part_term p = record { tree = expr_term p.tree.now; width = p.width; sign = p.signed; index = p.index }

abbrev pub in_context : ℕ → Bool → ExprTerm → PartTerm
in_context w s e = record { tree = e; width = w; sign = s; index = None }

abbrev pub alone_part : ExprTerm → PartTerm
alone_part e = in_context (size_of e) (sign_of e) e

abbrev pub body_part : ExprTerm → ℕ → PartTerm
body_part e i = record { tree = e; width = size_of e; sign = sign_of e; index = Some i }

-- the body at each index below n
abbrev pub body_parts : ℕ → ExprTerm → List PartTerm
body_parts zero e = []
body_parts (suc n) e = body_parts n e ++ body_part e n ∷ []

abbrev pub alone_parts : ExprTerms → List PartTerm
alone_parts no_exprs = []
alone_parts (more_exprs e es) = alone_part e ∷ alone_parts es

-- the first beside the second, at the greater size, signed where both are (11.8.2)
abbrev pub beside : ExprTerm → ExprTerm → PartTerm
beside x y = in_context (max (size_of x) (size_of y)) (sign_of x && sign_of y) x

abbrev pub behind : ExprTerm → ExprTerm → PartTerm
behind x y = in_context (max (size_of x) (size_of y)) (sign_of x && sign_of y) y

abbrev pub pair_parts : ExprTerm → ExprTerm → List PartTerm
pair_parts x y = beside x y ∷ behind x y ∷ []

abbrev pub unary_parts : UnaryKind → ExprTerm → ℕ → Bool → List PartTerm
unary_parts (Changed f) x w s = in_context w s x ∷ []
unary_parts (Reduced f) x w s = alone_part x ∷ []

abbrev pub binary_parts : BinaryKind → ExprTerm → ExprTerm → ℕ → Bool → List PartTerm
binary_parts (InContext f) l r w s = in_context w s l ∷ in_context w s r ∷ []
binary_parts (Shifted f) l r w s = in_context w s l ∷ alone_part r ∷ []
binary_parts (ByPair f) l r w s = pair_parts l r
binary_parts (Logical f) l r w s = alone_part l ∷ alone_part r ∷ []

-- of a member that is a property the elements are no parts
abbrev pub member_parts : ExprTerm → Option ℕ → ExprTerm → List PartTerm
member_parts left None e = pair_parts left e
member_parts left (Some p) e = beside left e ∷ []

abbrev pub low_parts : ExprTerm → BoundTerm → List PartTerm
low_parts left (value e) = pair_parts left e
low_parts left dollar = []

abbrev pub high_parts : ExprTerm → BoundTerm → List PartTerm
high_parts left (value e) = pair_parts e left
high_parts left dollar = []

abbrev pub range_parts : ExprTerm → RangeTerm → List PartTerm
range_parts left (one e) = member_parts left (property_of e) e
range_parts left (span low high) = low_parts left low ++ high_parts left high

-- the left side stands beside each member
abbrev pub set_parts : ExprTerm → RangeTerms → List PartTerm
set_parts left no_ranges = []
set_parts left (more_ranges r rs) = range_parts left r ++ set_parts left rs

-- the number of elements of each array is given
module _ (count : ℕ → ℕ) where
  -- at this width and sign
  abbrev pub node_parts : NodeTerm → ℕ → Bool → List PartTerm
  node_parts (number v every) w s = []
  node_parts (prop p) w s = []
  node_parts (element p e) w s = alone_part e ∷ []
  node_parts (cell p m first second) w s = alone_part first ∷ alone_part second ∷ []
  node_parts (size p m) w s = []
  node_parts (script v) w s = []
  node_parts (loop_index k) w s = []
  node_parts (reduce p op body) w s = body_parts (count p) body
  node_parts (of_object o e) w s = in_context w s e ∷ []
  node_parts (bit_select base first low) w s = alone_part base ∷ alone_part first ∷ []
  node_parts (part_select base first last low) w s = alone_part base ∷ alone_part last ∷ []
  node_parts (unary op e) w s = unary_parts (unary_kind op) e w s
  node_parts (binary op l r) w s = binary_parts (binary_kind op) l r w s
  node_parts (choice t met unmet) w s = alone_part t ∷ in_context w s met ∷ in_context w s unmet ∷ []
  node_parts (inside l rs) w s = set_parts l rs
  node_parts (join parts) w s = alone_parts parts
  node_parts (copies n parts) w s = alone_parts parts
  node_parts (sign as_signed e) w s = alone_part e ∷ []

  abbrev pub parts_of : ExprTerm → ℕ → Bool → List PartTerm
  parts_of (typed from signed n) w s = node_parts n w s

-- where a part is said to be the same as an earlier one, it is
pub record IsRepeat (before : List PartTerm) (p : Part) : Type 0 where
  pub earlier : (k : ℕ) → p.same ≡ Some k → (k < length before) × (get_or before k (part_term p) ≡ part_term p)

abbrev pub AreRepeats : List PartTerm → List Part → Type 0
AreRepeats before [] = ⊤
AreRepeats before (p ∷ ps) = IsRepeat before p × AreRepeats (before ++ part_term p ∷ []) ps
