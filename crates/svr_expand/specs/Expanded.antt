-- What the walk over the items of a call has in hand, and what it finds (IEEE 1800-2017, 18.5 and 18.5.14).
use Rattle.std.specs.Prelude.{◌≡◌, ◌==◌, ℕ, ◌+◌, ◌≤◌, ◌⊎◌, nat_lt, ℤ, pos, negsuc, Bool, true, false, ◌&&◌, ◌||◌, if◌then◌else◌, List, [], ◌∷◌, ◌++◌, Option, None, Some, map, length, ⊤}
use Rattle.std.specs.List.{list_any, flat_map}
use Rattle.std.specs.Ordering.{int_eq}
use Rattle.svr_operator.specs.declared.UnOp.TheVariants as un
use Rattle.svr_operator.specs.declared.BinOp.{BinOp}
use Rattle.svr_typed.specs.ExprTerm.{ExprTerm, NodeTerm, typed, number, prop, element, cell, size, script, loop_index, reduce, of_object, bit_select, part_select, unary, binary, choice, inside, join, copies, sign, ExprTerms, expr_term}
use Rattle.svr_typed.specs.ItemTerm.{DistTerm, ItemTerm, plain, unique, implies, branch, foreach, disable, solve, ItemTerms, no_items, more_items, ElseTerm, no_else, else_items}
use Rattle.svr_limits.specs.declared.limit.TheConstants.{LOOP_LIMIT}
use Rattle.svr_eval.specs.Reading.{Reading, reading_of}
use Rattle.svr_eval.specs.Value.{index_read}
use Rattle.svr_eval.specs.Typed.{IsTyped, AreTyped, CanRead, AllCanRead}
use Rattle.svr_eval.specs.Holds.{DistIsTyped, DistCanRead}
use Rattle.svr_frame.specs.declared.part.Part.{Part}
use Rattle.svr_frame.specs.declared.part.Part.TheVariants.{Randc, Sizes, All}
use Rattle.svr_mention.specs.declared.mention.Mention.{Mention}
use Rattle.svr_mention.specs.declared.mention.Mention.TheVariants as mention
use Rattle.svr_mention.specs.declared.mention.Spot.{Spot}
use Rattle.svr_mention.specs.declared.mention.Spot.TheVariants as spot
use Rattle.svr_expand.specs.declared.finding.Finding.{Finding}
use Rattle.svr_expand.specs.declared.finding.Finding.TheVariants as found
use Rattle.svr_expand.specs.declared.around.Around.{Around, fold-Around}
use Rattle.svr_expand.specs.declared.around.Around.TheOpen.{Around-F}
use Rattle.svr_mention.specs.declared.setting.Setting.{Setting}
use Rattle.svr_mention.specs.Mentioned.{cell_spot, property_mentioned, mentions_in, counts_by, shape_in}
use Rattle.svr_frame.specs.Frame.{FrameTerm, frame_term}
use Rattle.svr_frame.specs.Occurrences.{Guard, Place, Fact, stated, dealt, disabled, Occurrence, stands_in_loop, occurrence, occur, all_occur, are_met, closed_of}
use Rattle.svr_frame.specs.Reads.{Read, guards_read}
use Rattle.svr_frame.specs.Phases.{node_of, is_looked_at}

-- ---- places

abbrev pub guards_step : Around-F (List Guard) → List Guard
guards_step Around-F.Outside = []
guards_step (Around-F.Under test wanted env others) = record { test = expr_term test.now; wanted = wanted; env = env.now } ∷ others.now
guards_step (Around-F.Within p others) = others.now

abbrev pub guards_of : Around → List Guard
guards_of = fold-Around (List Guard) guards_step

abbrev pub over_step : Around-F (List ℕ) → List ℕ
over_step Around-F.Outside = []
over_step (Around-F.Under test wanted env others) = others.now
over_step (Around-F.Within p others) = others.now ++ p ∷ []

abbrev pub over_of : Around → List ℕ
over_of = fold-Around (List ℕ) over_step

abbrev pub place_of : Around → List ℕ → Place
place_of x env = record { guards = guards_of x; env = env; over = over_of x }

abbrev pub negation_of : ExprTerm → ExprTerm
negation_of e = typed 1 false (unary un.LogicalNot e)

abbrev pub joined : BinOp → ExprTerm → ExprTerm → ExprTerm
joined op x y = typed 1 false (binary op x y)

-- ---- what is evaluated in the state is typed and can be read there

module _ (a : Reading) where
  abbrev pub ExprIsReady : ℕ → ExprTerm → Type 0
  ExprIsReady depth e = IsTyped e × CanRead a depth e

  abbrev pub ExprsAreReady : ℕ → ExprTerms → Type 0
  ExprsAreReady depth es = AreTyped es × AllCanRead a depth es

  abbrev pub DistIsReady : ℕ → Option (List DistTerm) → Type 0
  DistIsReady depth d = DistIsTyped d × DistCanRead a depth d

  abbrev pub GuardsAreReady : List Guard → Type 0
  GuardsAreReady [] = ⊤
  GuardsAreReady (g ∷ gs) = ExprIsReady (length g.env) g.test × GuardsAreReady gs

  -- the target of a `disable soft` too; loops nest within their limit
  abbrev mutual
    pub ItemIsReady : ℕ → ItemTerm → Type 0
    ItemIsReady depth (plain soft e dist) = ExprIsReady depth e × DistIsReady depth dist
    ItemIsReady depth (unique es) = ExprsAreReady depth es
    ItemIsReady depth (implies t body) = ExprIsReady depth t × ItemsAreReady depth body
    ItemIsReady depth (branch t met unmet) = ExprIsReady depth t × ItemsAreReady depth met × ElseIsReady depth unmet
    ItemIsReady depth (foreach p m names body) = (1 ≤ m) × ((names ≡ 1) ⊎ (names ≡ 2)) × (depth + names ≤ LOOP_LIMIT) × ItemsAreReady (depth + names) body
    ItemIsReady depth (disable target) = ExprIsReady depth target
    ItemIsReady depth (solve first later) = ⊤

    pub ItemsAreReady : ℕ → ItemTerms → Type 0
    ItemsAreReady depth no_items = ⊤
    ItemsAreReady depth (more_items i is) = ItemIsReady depth i × ItemsAreReady depth is

    pub ElseIsReady : ℕ → ElseTerm → Type 0
    ElseIsReady depth no_else = ⊤
    ElseIsReady depth (else_items is) = ItemsAreReady depth is

-- ---- what the walk finds

-- a hard occurrence; a soft one and what it mentions; the target of a `disable soft`
pub data FindingTerm : Type 0 where
  asked : ExprTerm → FindingTerm
  wished : ExprTerm → List Mention → FindingTerm
  gone : Mention → FindingTerm

abbrev pub finding_term : Finding → FindingTerm
finding_term (found.Asked e) = asked (expr_term e)
finding_term (found.Wished e ms) = wished (expr_term e) ms
finding_term (found.Gone target) = gone target

abbrev pub findings : List Finding → List FindingTerm
findings fs = map finding_term fs

abbrev pub one_found : Bool → ExprTerm → List Mention → FindingTerm
one_found soft e ms = if soft then wished e ms else asked e

-- an element that is there
abbrev pub cell_target : ℕ → Spot → List Mention
cell_target p spot.Anywhere = []
cell_target p (spot.At z) = mention.Element p (spot.At z) ∷ []
cell_target p spot.Nowhere = []

-- a property, or an element
abbrev pub targets_of : Reading → List ℕ → NodeTerm → List Mention
targets_of a env (number v every) = []
targets_of a env (prop p) = mention.Scalar p ∷ []
targets_of a env (element p e) = mention.Element p (spot.At (index_read a env e)) ∷ []
targets_of a env (cell p m first second) = cell_target p (cell_spot m (index_read a env first) (index_read a env second))
targets_of a env (size p m) = []
targets_of a env (script v) = []
targets_of a env (loop_index k) = []
targets_of a env (reduce p op body) = []
targets_of a env (of_object o e) = []
targets_of a env (bit_select base first low) = []
targets_of a env (part_select base first last low) = []
targets_of a env (unary op e) = []
targets_of a env (binary op l r) = []
targets_of a env (choice t met unmet) = []
targets_of a env (inside l rs) = []
targets_of a env (join parts) = []
targets_of a env (copies count parts) = []
targets_of a env (sign as_signed e) = []

-- whether the walk looks at a `disable soft`: phase Randc has no soft items
abbrev pub looks_at : FrameTerm → List ℕ → Part → Place → ExprTerm → Bool
looks_at f ns Randc at target = false
looks_at f ns Sizes at target = is_looked_at f Sizes ns Sizes at target
looks_at f ns All at target = true

module _ (f : FrameTerm) (part : Part) (ns : List ℕ) (a : Reading) where
  -- a hard or soft occurrence, where it counts
  abbrev pub one_counted : Occurrence → List FindingTerm
  one_counted o = if counts_by f part o.soft (stands_in_loop o.place) (mentions_in f part ns a o) then one_found o.soft (closed_of a o) (mentions_in f part ns a o) ∷ [] else []

  -- the target of a `disable soft`, where the phase looks at it and its tests are true in the state
  abbrev pub one_gone : Place → ExprTerm → List FindingTerm
  one_gone at target = if looks_at f ns part at target && are_met a at.guards then map gone (targets_of a at.env (node_of f part ns target)) else []

  abbrev pub found_by : Fact → Occurrence → List FindingTerm
  found_by (stated e) o = one_counted o
  found_by (dealt e ds) o = one_counted o
  found_by (disabled target) o = one_gone o.place target

  abbrev pub finding_of : Occurrence → List FindingTerm
  finding_of o = found_by o.fact o

  abbrev pub found_among : List Occurrence → List FindingTerm
  found_among os = flat_map finding_of os

-- ---- the same over the setting of a walk

abbrev pub guards_read_in : Setting → List Guard → List Read
guards_read_in x gs = guards_read (shape_in x) gs

abbrev pub looked_at : Setting → Place → ExprTerm → Bool
looked_at x at target = looks_at (frame_term x.frame.now) x.sizes.now x.part at target

abbrev pub found_at : Setting → Place → Bool → Fact → List FindingTerm
found_at x at soft fact = one_counted (frame_term x.frame.now) x.part x.sizes.now (reading_of x.state.now) (occurrence at soft fact)

abbrev pub gone_at : Setting → Place → ExprTerm → List FindingTerm
gone_at x at target = one_gone (frame_term x.frame.now) x.part x.sizes.now (reading_of x.state.now) at target

abbrev pub found_in_all : Setting → List Occurrence → List FindingTerm
found_in_all x os = found_among (frame_term x.frame.now) x.part x.sizes.now (reading_of x.state.now) os

abbrev pub found_of : Setting → Place → List ExprTerm → List FindingTerm
found_of x at es = found_in_all x (map (λ e. occurrence at false (stated e)) es)

abbrev pub found_in : Setting → Place → ItemTerm → List FindingTerm
found_in x at i = found_in_all x (occur (shape_in x) at i)

abbrev pub all_found_in : Setting → Place → ItemTerms → List FindingTerm
all_found_in x at is = found_in_all x (all_occur (shape_in x) at is)

-- ---- what is asked, and what is wished and not taken back

-- whether a target of a `disable soft` is mentioned
module _ (size : ℕ → ℕ) where
  abbrev pub has_place_below : ℕ → ℤ → Bool
  has_place_below p (pos i) = nat_lt i (size p)
  has_place_below p (negsuc i) = false

  abbrev pub is_at_index : ℕ → ℤ → Spot → Bool
  is_at_index p z spot.Anywhere = has_place_below p z
  is_at_index p z (spot.At w) = int_eq z w
  is_at_index p z spot.Nowhere = false

  abbrev pub is_element_at : ℕ → ℤ → Mention → Bool
  is_element_at p z (mention.Scalar q) = false
  is_element_at p z (mention.Element q at) = (p == q) && is_at_index p z at
  is_element_at p z (mention.Elements q) = (p == q) && has_place_below p z
  is_element_at p z (mention.Size q) = false

  abbrev pub is_indexed_by : ℕ → Spot → Mention → Bool
  is_indexed_by p spot.Anywhere m = false
  is_indexed_by p (spot.At z) m = is_element_at p z m
  is_indexed_by p spot.Nowhere m = false

  abbrev pub is_targeted_by : Mention → Mention → Bool
  is_targeted_by (mention.Scalar p) m = property_mentioned m == p
  is_targeted_by (mention.Element p at) m = is_indexed_by p at m
  is_targeted_by (mention.Elements p) m = false
  is_targeted_by (mention.Size p) m = false

  abbrev pub is_taken_back : List Mention → List Mention → Bool
  is_taken_back targets ms = list_any (λ t. list_any (is_targeted_by t) ms) targets

  abbrev pub targets_in : List FindingTerm → List Mention
  targets_in [] = []
  targets_in (asked e ∷ fs) = targets_in fs
  targets_in (wished e ms ∷ fs) = targets_in fs
  targets_in (gone t ∷ fs) = t ∷ targets_in fs

  -- from the last to the first, without those that a later `disable soft` takes back
  abbrev pub wished_exprs : List FindingTerm → List ExprTerm
  wished_exprs [] = []
  wished_exprs (asked e ∷ fs) = wished_exprs fs
  wished_exprs (wished e ms ∷ fs) = wished_exprs fs ++ (if is_taken_back (targets_in fs) ms then [] else e ∷ [])
  wished_exprs (gone t ∷ fs) = wished_exprs fs

abbrev pub asked_exprs : List FindingTerm → List ExprTerm
asked_exprs [] = []
asked_exprs (asked e ∷ fs) = e ∷ asked_exprs fs
asked_exprs (wished e ms ∷ fs) = asked_exprs fs
asked_exprs (gone t ∷ fs) = asked_exprs fs

-- ---- one finding

abbrev pub targets_one : FindingTerm → List Mention
targets_one (asked e) = []
targets_one (wished e ms) = []
targets_one (gone t) = t ∷ []

abbrev pub asked_one : FindingTerm → List ExprTerm
asked_one (asked e) = e ∷ []
asked_one (wished e ms) = []
asked_one (gone t) = []

-- where some targets stand behind it
abbrev pub wished_one : (ℕ → ℕ) → List Mention → FindingTerm → List ExprTerm
wished_one sz ts (asked e) = []
wished_one sz ts (wished e ms) = if is_taken_back sz ts ms then [] else e ∷ []
wished_one sz ts (gone t) = []

-- ---- loops

-- whether a `disable soft` stands in it
abbrev mutual
  pub disables : ItemTerm → Bool
  disables (plain soft e dist) = false
  disables (unique es) = false
  disables (implies t body) = any_disables body
  disables (branch t met unmet) = any_disables met || else_disables unmet
  disables (foreach p m names body) = any_disables body
  disables (disable target) = true
  disables (solve first later) = false

  pub any_disables : ItemTerms → Bool
  any_disables no_items = false
  any_disables (more_items i is) = disables i || any_disables is

  pub else_disables : ElseTerm → Bool
  else_disables no_else = false
  else_disables (else_items is) = any_disables is

-- whether one turn of a loop can find what another does not: only a `disable soft` that is looked at reads the state
abbrev pub turns_differ : Part → ItemTerms → Bool
turns_differ Randc is = false
turns_differ Sizes is = false
turns_differ All is = any_disables is

-- ---- targets

abbrev pub node_in : ExprTerm → NodeTerm
node_in (typed w s n) = n

abbrev pub option_list : Option Mention → List Mention
option_list None = []
option_list (Some m) = m ∷ []
