-- Which active items of a call contradict each other (IEEE 1800-2017, 18.5). Item j stands for its hard occurrences, at the sizes and with the cyclic values that the call has chosen.
use Rattle.std.specs.Prelude.{◌≡◌, ℕ, true, List, [], ◌∷◌, ◌++◌, Some, map, length, take, drop, slice_index_or}
use Rattle.std.specs.List as list
use Rattle.svr_chain.specs.declared.clause.Lit.{Lit}
use Rattle.svr_eval.specs.Reading.{Reading, reading_of}
use Rattle.svr_frame.specs.declared.part.Part.TheVariants.{All}
use Rattle.svr_frame.specs.Frame.{FrameTerm}
use Rattle.svr_frame.specs.Occurrences.{Occurrence, all_true}
use Rattle.svr_frame.specs.Phases.{domain_items}
use Rattle.svr_frame.specs.Satisfaction.{IsAssignment, Sat}
use Rattle.svr_encoded.specs.declared.encoded.Encoded.{Encoded}
use Rattle.svr_query.specs.Answer.{SolverView}
use Rattle.svr_phase.specs.Spent.{bit_count}
use Rattle.svr_phase.specs.Proof.{fixed_lits}
use Rattle.svr_counts.specs.Hard.{hard_by_item, joined, counts_of}
use Rattle.svr_core.specs.Groups.{with_groups, others}
use Rattle.svr_core.specs.Cores.{IsCore}
use Rattle.svr_conflict.specs.declared.found.Member.{Member}
use Rattle.svr_conflict.specs.Cut.{cut_by}

-- ---- items by their places

abbrev pub item_at : List (List Occurrence) → ℕ → List Occurrence
item_at items p = slice_index_or items p []

-- the occurrences of the items at these places
abbrev pub items_at : List (List Occurrence) → List ℕ → List Occurrence
items_at items [] = []
items_at items (p ∷ ps) = item_at items p ++ items_at items ps

module _ (f : FrameTerm) (sizes : List ℕ) (chosen : List (ℕ × ℕ)) where
  -- the domain items, those before place p, and those at these places can be met together
  abbrev pub CanBeMet : ℕ → List ℕ → Type 0
  CanBeMet p places = Sat f All sizes chosen (domain_items f All sizes ++ (joined (take p (hard_by_item f sizes)) ++ items_at (hard_by_item f sizes) places))

  -- From the last item to the first, one is left out where the domain items, the items before it and those of the set behind it cannot be met without it.
  abbrev pub IsConflictSet : List ℕ → Type 0
  IsConflictSet set = IsCore CanBeMet (length (hard_by_item f sizes)) [] set

  -- an assignment with the chosen values meets the domain items and all items of the set but the one at place p
  abbrev pub MeetsOthers : List ℕ → ℕ → Reading → Type 0
  MeetsOthers set p a = IsAssignment f All sizes chosen a × (all_true a (domain_items f All sizes ++ items_at (hard_by_item f sizes) (others p set)) ≡ true)

-- ---- as literals

module _ (f : FrameTerm) (sizes : List ℕ) where
  abbrev pub domain_roots : Encoded → List Lit
  domain_roots e = take (length (domain_items f All sizes)) e.roots.items

  -- the roots of each item stand behind those of the domain items
  abbrev pub item_roots : Encoded → List (List Lit)
  item_roots e = cut_by (counts_of (hard_by_item f sizes)) (drop (length (domain_items f All sizes)) e.roots.items)

  -- the chosen values and the roots of the domain items
  abbrev pub base_lits : List (ℕ × ℕ) → Encoded → List Lit
  base_lits chosen e = fixed_lits e chosen ++ domain_roots e

  -- and those of the items of a set
  abbrev pub conflict_lits : List (ℕ × ℕ) → Encoded → List ℕ → List Lit
  conflict_lits chosen e set = with_groups (base_lits chosen e) (item_roots e) set

  -- what is seen of a new solver over its clauses
  abbrev pub solver_over : Encoded → SolverView
  solver_over e = record { vars = e.cnf.vars; clauses = e.cnf.clauses.items; steps = []; bits = Some (bit_count f All sizes 1) }

-- ---- members

abbrev pub item_of : Member → ℕ
item_of m = m.item

abbrev pub places_in : List Member → List ℕ
places_in ms = map item_of ms

-- each member has an assignment that meets all others
abbrev pub AreMembers : FrameTerm → List ℕ → List (ℕ × ℕ) → List Member → Type 0
AreMembers f sizes chosen ms = list.All (λ (m : Member). MeetsOthers f sizes chosen (places_in ms) m.item (reading_of m.without)) ms
