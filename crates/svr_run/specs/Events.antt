-- What a call tells, as the code holds it, and why it may not be written.
use Rattle.std.specs.Prelude.{◌≡◌, ◌⊎◌, ℕ, ◌+◌, Bool, ⊤, List, [], ◌∷◌, Option, None, Some}
use Rattle.svr_typed.specs.ClassTerm.{FlatTerm}
use Rattle.svr_typed.specs.StmtTerm.{CallTerm, DesignTerm}
use Rattle.svr_world.specs.World.{WorldTerm, object_of}
use Rattle.svr_edge.specs.Causes.{Rose}
use Rattle.svr_frame.specs.Frame.{FrameTerm, frame_term}
use Rattle.svr_phase.specs.declared.options.Options.{Options}
use Rattle.svr_conflict.specs.declared.found.ConflictEnd.{ConflictEnd}
use Rattle.svr_call.specs.declared.outcome.Outcome.{Outcome}
use Rattle.svr_item_names.specs.Names.{item_names}
use Rattle.svr_script.specs.Printed.{Event}
use Rattle.svr_script.specs.Statement.{name_of_var, class_of_var, flat_of_var}
use Rattle.svr_script.specs.Conflicts.{IsConflictIf, end_text, spent_log}
use Rattle.svr_run.specs.declared.conflict.Contradiction.{Contradiction}
use Rattle.svr_run.specs.declared.extra.Extra.{Extra}
use Rattle.svr_run.specs.declared.progress.Progress.{Progress}
use Rattle.svr_run.specs.declared.tell.Told.{Told}
use Rattle.svr_run.specs.declared.stop.Stop.{Stop}
use Rattle.svr_run.specs.declared.stop.Stop.TheVariants.{NoMemory, WriteFault}
use Rattle.svr_run.specs.Telling.{Sinks, Tells, TellsFront, SinkFailed, printing_of}

-- ---- the items that contradict each other, where they were asked for

abbrev pub end_in : Option Contradiction → Option ConflictEnd
end_in None = None
end_in (Some x) = Some x.end

-- names are made for them alone
abbrev pub names_in : Option Contradiction → List (List ℕ)
names_in None = []
names_in (Some x) = x.names

-- the names are these
abbrev pub AreNamed : List (List ℕ) → Option Contradiction → Type 0
AreNamed names None = ⊤
AreNamed names (Some x) = x.names ≡ names

-- what is told of them: the line, and the log where the question was given up
abbrev pub contradiction_text : Bool → FrameTerm → Option Contradiction → List ℕ
contradiction_text proofs f None = []
contradiction_text proofs f (Some x) = end_text proofs f x.names x.end

abbrev pub contradiction_log : FrameTerm → Option Contradiction → List ℕ
contradiction_log f None = []
contradiction_log f (Some x) = spent_log f x.end

-- ---- what is told

-- what a call on an object of a class tells
abbrev pub event_of : ℕ → Told → Event
event_of class t = record {
  number = t.number;
  object = t.object.now;
  class = class;
  frame = frame_term t.frame.now;
  outcome = t.outcome.now;
  after = t.after.now;
  names = names_in t.conflict.now;
  conflict = end_in t.conflict.now;
}

-- the names of the active items of a call on an object of this class
abbrev pub names_at : FlatTerm → WorldTerm → CallTerm → List (List ℕ)
names_at class w c = item_names class.blocks (object_of w c.object).block_modes c.items

-- what the next call tells, which leaves this world
abbrev pub event_in : DesignTerm → Progress → CallTerm → FrameTerm → Outcome → Option ConflictEnd → Event
event_in d p c f o x = record {
  number = p.calls + 1;
  object = name_of_var d c.object;
  class = class_of_var d c.object;
  frame = f;
  outcome = o;
  after = (object_of p.world c.object).values;
  names = names_at (flat_of_var d c.object) p.world c;
  conflict = x;
}

-- ---- why it may not be written

-- want of memory, or a sink whose count of faults rose
abbrev pub IsCauseAt : Stop → ℕ → ℕ → Type 0
IsCauseAt NoMemory before now = ⊤
IsCauseAt WriteFault before now = Rose before now

-- want of memory, or a sink that failed
abbrev pub IsCause : Stop → Sinks → Sinks → Type 0
IsCause NoMemory old new = ⊤
IsCause WriteFault old new = SinkFailed old new

-- ---- the answer of a call

module _ (d : DesignTerm) (opts : Options) (extra : Extra) (p : Progress) (c : CallTerm) (f : FrameTerm) (o : Outcome) where
  -- all that the call tells was written, with the items that contradict each other where they are asked for
  abbrev pub IsTold : Sinks → Sinks → Type 0
  IsTold old new = (x : Option ConflictEnd) × IsConflictIf extra.conflicts o f opts.budget x × Tells (printing_of opts extra) (event_in d p c f o x ∷ []) old new

  -- a front of it was written
  abbrev pub IsCut : Stop → Sinks → Sinks → Type 0
  IsCut why old new = (x : Option ConflictEnd) × IsConflictIf extra.conflicts o f opts.budget x × TellsFront (printing_of opts extra) (event_in d p c f o x ∷ []) old new × IsCause why old new

  -- there was no memory for the question which items contradict each other, and nothing was written; or a front
  abbrev pub IsNotTold : Stop → Sinks → Sinks → Type 0
  IsNotTold why old new = ((why ≡ NoMemory) × (new ≡ old)) ⊎ IsCut why old new
