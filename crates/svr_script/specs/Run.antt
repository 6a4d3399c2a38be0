-- Runs of a script: what the statements do in their order, call by call. A run so far may stop before any statement.
use Rattle.std.specs.Prelude.{◌≡◌, ℕ, ◌+◌, Bool, true, false, cond, ◌⊎◌, List, [], ◌∷◌, ◌++◌, Option, Some, None, map, flat_map}
use Rattle.std.specs.List.{filter_map, fold, count_by}
use Rattle.svr_typed.specs.StmtTerm.{CallTerm, StmtTerm, call, DesignTerm}
use Rattle.svr_world.specs.World.{WorldTerm, declared_classes, blank_world, object_of, with_script}
use Rattle.svr_phase.specs.declared.options.Options.{Options}
use Rattle.svr_call.specs.declared.outcome.Outcome.{Outcome}
use Rattle.svr_call.specs.declared.outcome.Outcome.TheVariants.{One, Zero, GaveUp, TooHeavy, SizeCap}
use Rattle.svr_call.specs.Call.{CallStep}
use Rattle.svr_call.specs.Items.{is_one}
use Rattle.svr_frame.specs.Frame.{FrameTerm}
use Rattle.svr_item_names.specs.Names.{item_names}
use Rattle.svr_script.specs.Printed.{Event, line_of}
use Rattle.svr_script.specs.ProofText.{certificates_of, logs_of}
use Rattle.svr_script.specs.Derived.{derivations_of}
use Rattle.svr_script.specs.Conflicts.{conflict_text, conflict_log}
use Rattle.svr_script.specs.Statement.{all_in_order, effect, frame_in, name_of_var, class_of_var, flat_of_var}

-- between two statements: the world, the calls so far, and whether one met a limit
pub record State : Type 0 where
  pub world : WorldTerm
  pub calls : ℕ
  pub limited : Bool

-- nothing is made, and all script variables are 0
abbrev pub begin : DesignTerm → State
begin d = record { world = blank_world (declared_classes d.vars); calls = 0; limited = false }

abbrev pub is_zero : Outcome → Bool
is_zero (One kept dropped cycles encodings) = false
is_zero (Zero phase chosen sizes proofs encodings) = true
is_zero (GaveUp query encoding log first) = false
is_zero (TooHeavy weight) = false
is_zero (SizeCap sizes proofs encodings) = false

abbrev pub is_given_up : Outcome → Bool
is_given_up (One kept dropped cycles encodings) = false
is_given_up (Zero phase chosen sizes proofs encodings) = false
is_given_up (GaveUp query encoding log first) = true
is_given_up (TooHeavy weight) = false
is_given_up (SizeCap sizes proofs encodings) = false

abbrev pub is_limit : Outcome → Bool
is_limit (One kept dropped cycles encodings) = false
is_limit (Zero phase chosen sizes proofs encodings) = false
is_limit (GaveUp query encoding log first) = false
is_limit (TooHeavy weight) = true
is_limit (SizeCap sizes proofs encodings) = true

-- the variable that takes the answer
abbrev pub with_answer : Option ℕ → Bool → WorldTerm → WorldTerm
with_answer None b w = w
with_answer (Some v) b w = with_script w v (cond b 1 0)

-- ---- one statement

-- A call answers, and tells this. It has the next number.
pub record Calls (d : DesignTerm) (opts : Options) (c : CallTerm) (s : State) (e : Event) (t : State) : Type 0 where
  pub number : e.number ≡ s.calls + 1
  pub object : e.object ≡ name_of_var d c.object
  pub class : e.class ≡ class_of_var d c.object
  pub frame : e.frame ≡ frame_in d s.world c
  pub world : WorldTerm
  pub answers : CallStep s.world c.object e.frame e.number opts e.outcome world
  pub after : e.after ≡ (object_of world c.object).values
  pub names : e.names ≡ item_names (flat_of_var d c.object).blocks (object_of world c.object).block_modes c.items
  pub state : t ≡ record { world = with_answer c.answer (is_one e.outcome) world; calls = e.number; limited = is_limit e.outcome }

-- a statement tells something only where it is a call
abbrev pub Executes : DesignTerm → Options → StmtTerm → State → List Event → State → Type 0
Executes d opts (call c) s es t = (e : Event) × Calls d opts c s e t × (es ≡ e ∷ [])
Executes d opts x s es t = (es ≡ []) × (t ≡ record s { world = effect d x s.world })

-- ---- statements in a row

-- none goes on behind a limit
abbrev pub Runs : DesignTerm → Options → List StmtTerm → State → List Event → State → Type 0
Runs d opts [] s es t = (es ≡ []) × (t ≡ s)
Runs d opts (x ∷ xs) s es t =
    (middle : State) × (now : List Event) × (later : List Event)
    × (s.limited ≡ false) × Executes d opts x s now middle × Runs d opts xs middle later t × (es ≡ now ++ later)

-- ---- a run of a script

abbrev pub statements : DesignTerm → List StmtTerm
statements d = all_in_order d.stmts

-- the first statements were executed, and have told this
pub record IsSoFar (d : DesignTerm) (opts : Options) (es : List Event) (t : State) : Type 0 where
  pub done : List StmtTerm
  pub left : List StmtTerm
  pub split : statements d ≡ done ++ left
  pub runs : Runs d opts done (begin d) es t

-- it has come to its end: there are no more statements, or a call met a limit
pub record IsRun (d : DesignTerm) (opts : Options) (es : List Event) (t : State) : Type 0 where
  pub so_far : IsSoFar d opts es t
  pub ended : (so_far.left ≡ []) ⊎ (t.limited ≡ true)

-- ---- its texts

-- what is printed besides the lines of calls: proofs and logs, the items that contradict each other, and proofs as hinted derivations
pub record Printing : Type 0 where
  pub proofs : Bool
  pub conflicts : Bool
  pub lrat : Bool

-- The proofs of an answer as hinted derivations, or as they are found. The log of a question that was given up has one form, and is printed where proofs are.
abbrev pub proofs_of : Printing → FrameTerm → Outcome → List ℕ
proofs_of how f o = cond how.lrat (derivations_of f o ++ cond how.proofs (logs_of f o) []) (cond how.proofs (certificates_of f o) [])

abbrev pub event_text : Printing → Event → List ℕ
event_text how e = line_of e ++ proofs_of how e.frame e.outcome ++ conflict_text how.proofs e e.conflict

abbrev pub event_log : Event → List ℕ
event_log e = logs_of e.frame e.outcome ++ conflict_log e e.conflict

-- where proofs alone are printed besides the lines
abbrev pub proofs_alone : Bool → Printing
proofs_alone proofs = record { proofs = proofs; conflicts = false; lrat = false }

-- what a call tells of itself, whatever is asked besides
abbrev pub text_alone : Bool → Event → List ℕ
text_alone proofs e = line_of e ++ cond proofs (certificates_of e.frame e.outcome) []

abbrev pub log_alone : Event → List ℕ
log_alone e = logs_of e.frame e.outcome

abbrev pub text_of : Printing → List Event → List ℕ
text_of how es = flat_map (event_text how) es

-- the logs of what was given up, whatever is printed
abbrev pub journal_of : List Event → List ℕ
journal_of es = flat_map event_log es

-- ---- what is counted of it

pub record Counts : Type 0 where
  pub ones : ℕ
  pub zeros : ℕ
  pub given_up : ℕ

abbrev pub counts_of : List Event → Counts
counts_of es = record {
  ones = count_by (λ e. is_one e.outcome) es;
  zeros = count_by (λ e. is_zero e.outcome) es;
  given_up = count_by (λ e. is_given_up e.outcome) es;
}

-- the class and the values of an object behind a call that answers 1
pub record Sample : Type 0 where
  pub class : ℕ
  pub values : List (List ℕ)

abbrev pub sample_of : Event → Option Sample
sample_of e = cond (is_one e.outcome) (Some (record { class = e.class; values = e.after })) None

abbrev pub samples_of : List Event → List Sample
samples_of es = filter_map sample_of es

-- what is gathered of them, one after the other
abbrev pub gathered : {C : Type 0} → (C → Sample → C) → C → List Event → C
gathered take c es = fold take c (samples_of es)
