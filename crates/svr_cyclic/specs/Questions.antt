-- Questions of the phase of cyclic values: over what they are asked, and what they find
use Rattle.std.specs.Prelude.{◌≡◌, ℕ, ◌+◌, ◌<◌, ◌≤◌, ◌^◌, List, [], ◌∷◌, ◌++◌, Some, map, length}
use Rattle.std.specs.List.{All}
use Rattle.std.specs.Rc.{rc_slice_items}
use Rattle.svr_chain.specs.declared.clause.Lit.{Lit}
use Rattle.svr_chain.specs.declared.clause.Cnf.{Cnf}
use Rattle.svr_chain.specs.Views.{RefutationView}
use Rattle.svr_query.specs.declared.solver.Answer.{Answer}
use Rattle.svr_query.specs.declared.solver.Answer.TheVariants as answer
use Rattle.svr_query.specs.Answer.{SolverView}
use Rattle.svr_frame.specs.declared.part.Part.TheVariants.{Randc}
use Rattle.svr_frame.specs.Frame.{FrameTerm, frame_term, width_of}
use Rattle.svr_frame.specs.Occurrences.{Occurrence}
use Rattle.svr_frame.specs.Phases.{hard_of}
use Rattle.svr_frame.specs.Satisfaction.{Sat}
use Rattle.svr_frame.specs.Sound.{IsSound}
use Rattle.svr_encoded.specs.declared.encoded.Encoded.{Encoded}
use Rattle.svr_phase.specs.declared.proof.Proof.{Proof}
use Rattle.svr_phase.specs.declared.proof.ProofReason.{ProofReason}
use Rattle.svr_phase.specs.Spent.{IsRefutation, SpendsBudget, EncodesItems, bit_count}
use Rattle.svr_phase.specs.Proof.{spelling, fixed_lits, hard_roots}
use Rattle.svr_phase.specs.Ends.{cyclic_props}
use Rattle.svr_cyclic.specs.declared.ask.Asking.{Asking}
use Rattle.svr_cyclic.specs.declared.ask.Sought.{Sought}
use Rattle.svr_cyclic.specs.declared.ask.Tried.{Tried}
use Rattle.svr_cyclic.specs.declared.ask.Tried.TheVariants as tried

-- the hard items of the phase, which has no others
abbrev pub hard_items : FrameTerm → List Occurrence
hard_items f = hard_of f Randc f.state.sizes

-- the clauses encode them
abbrev pub EncodesCyclic : FrameTerm → Encoded → Type 0
EncodesCyclic f e = EncodesItems f Randc f.state.sizes 1 (hard_items f) e

-- some assignment has these cyclic values and meets them
abbrev pub CanBe : FrameTerm → List (ℕ × ℕ) → Type 0
CanBe f fixed = Sat f Randc f.state.sizes fixed (hard_items f)

-- the bits of all cyclic properties
abbrev pub bits_of_phase : FrameTerm → ℕ
bits_of_phase f = bit_count f Randc f.state.sizes 1

-- ---- what is asked

-- the solver has the clauses of an encoding that is like this one otherwise, and knows its bits
pub record HasClausesOf (f : FrameTerm) (layout : Encoded) (s : SolverView) : Type 0 where
  pub cnf : Cnf
  pub vars : s.vars ≡ cnf.vars
  pub clauses : s.clauses ≡ cnf.clauses.items
  pub bits : s.bits ≡ Some (bits_of_phase f)
  pub encodes : EncodesCyclic f (record layout { cnf = cnf })

pub record CanAsk (a : Asking) (s : SolverView) : Type 0 where
  pub sound : IsSound (frame_term a.frame.now)
  pub has : HasClausesOf (frame_term a.frame.now) a.layout.now s
  pub shared : rc_slice_items a.roots.now ≡ a.layout.now.roots.items
  pub wishes : length a.prefer.now ≡ s.vars
  pub some : 1 ≤ a.budget

-- values within their widths for the first cyclic properties
pub record CanBeFixed (f : FrameTerm) (fixed : List (ℕ × ℕ)) : Type 0 where
  pub others : List ℕ
  pub front : map (λ (x : ℕ × ℕ). x.0) fixed ++ others ≡ cyclic_props f
  pub below : All (λ (x : ℕ × ℕ). x.1 < 2 ^ width_of f x.0) fixed

-- values within their widths for those before this one
pub record IsNext (f : FrameTerm) (chosen : List (ℕ × ℕ)) (prop : ℕ) : Type 0 where
  pub others : List ℕ
  pub order : map (λ (x : ℕ × ℕ). x.0) chosen ++ prop ∷ others ≡ cyclic_props f
  pub below : All (λ (x : ℕ × ℕ). x.1 < 2 ^ width_of f x.0) chosen

-- the bits of a property: they spell each of its values
abbrev pub IsRowOf : Encoded → ℕ → List Lit → Type 0
IsRowOf e prop row = (v : ℕ) → fixed_lits e ((prop, v) ∷ []) ≡ spelling row v

-- a value of the next property, with the bits of the property
pub record IsSought (a : Asking) (s : Sought) : Type 0 where
  pub next : IsNext (frame_term a.frame.now) s.chosen.now s.prop
  pub row : IsRowOf a.layout.now s.prop s.row.now

-- the literals in front of each question: those of the hard items, then those of the chosen values
abbrev pub front_of : Encoded → List (ℕ × ℕ) → List Lit
front_of e chosen = e.roots.items ++ fixed_lits e chosen

abbrev pub AreInFront : Asking → List (ℕ × ℕ) → List Lit → Type 0
AreInFront a chosen ls = ls ≡ front_of a.layout.now chosen

-- ---- what is found

-- a frame, an encoding, the clauses over which questions are asked, and the budget of each
pub record Over : Type 0 where
  pub frame : FrameTerm
  pub layout : Encoded
  pub clauses : List (List Lit)
  pub budget : ℕ

abbrev pub over : Asking → List (List Lit) → Over
over a clauses = record { frame = frame_term a.frame.now; layout = a.layout.now; clauses = clauses; budget = a.budget }

-- the proof refutes the hard items under these values
pub record IsRefuted (o : Over) (fixed : List (ℕ × ℕ)) (cause : ProofReason) (p : Proof) : Type 0 where
  pub place : p.encoding ≡ 0
  pub reason : p.reason ≡ cause
  pub assumes : p.assume ≡ fixed_lits o.layout fixed ++ hard_roots o.layout (hard_items o.frame)
  pub refutes : IsRefutation o.clauses p.assume p.refutation

-- the log spends the budget, which the bits have values for
pub record IsGivenUp (o : Over) (log : RefutationView) (first : ℕ) : Type 0 where
  pub spends : SpendsBudget o.clauses o.budget first log
  pub many : o.budget < 2 ^ (bits_of_phase o.frame + 1)

-- what an answer says, where these literals were assumed
abbrev pub tried_of : Answer → List Lit → ProofReason → Tried
tried_of (answer.Satisfied values) assume cause = tried.Fits
tried_of (answer.Refuted log) assume cause = tried.Refused (record { encoding = 0; assume = assume; refutation = log; reason = cause })
tried_of (answer.Spent log first) assume cause = tried.Spent log first

-- an assignment has these values; or none has, with a proof; or the budget is spent
abbrev pub IsTried : Over → List (ℕ × ℕ) → ProofReason → Tried → Type 0
IsTried o fixed cause tried.Fits = CanBe o.frame fixed
IsTried o fixed cause (tried.Refused p) = (CanBe o.frame fixed → ⊥) × IsRefuted o fixed cause p
IsTried o fixed cause (tried.Spent log first) = IsGivenUp o log first
