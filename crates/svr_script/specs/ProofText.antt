-- The text of proofs, and of the log of a question that was given up.
use Rattle.std.specs.Prelude.{ℕ, if◌then◌else◌, List, [], ◌∷◌, ◌++◌, Option, Some, None, flat_map, slice_get, codes, decimal}
use Rattle.std.specs.List.{concat}
use Rattle.svr_chain.specs.declared.clause.Lit.{Lit}
use Rattle.svr_chain.specs.declared.log.Link.{Link}
use Rattle.svr_chain.specs.Views.{StepView, RefutationView}
use Rattle.svr_frame.specs.declared.slot.Slot.{Slot}
use Rattle.svr_frame.specs.declared.slot.Slot.TheVariants.{Scalar, Element, Size}
use Rattle.svr_frame.specs.Frame.{FrameTerm}
use Rattle.svr_vector.specs.Places.{rows}
use Rattle.svr_encoded.specs.declared.encoded.Encoded.{Encoded}
use Rattle.svr_phase.specs.declared.proof.Proof.{Proof}
use Rattle.svr_phase.specs.declared.proof.Renewed.{Renewed}
use Rattle.svr_phase.specs.declared.proof.ProofReason.{ProofReason}
use Rattle.svr_phase.specs.declared.proof.ProofReason.TheVariants as why
use Rattle.svr_call.specs.declared.outcome.Dropped.{Dropped}
use Rattle.svr_call.specs.declared.outcome.Query.{Query}
use Rattle.svr_call.specs.declared.outcome.Outcome.{Outcome}
use Rattle.svr_call.specs.declared.outcome.Outcome.TheVariants.{One, Zero, GaveUp, TooHeavy, SizeCap}
use Rattle.svr_script.specs.Printed.{prop_name, scalar_text, query_text}

-- a literal by its variable, with `-` where it is negated
abbrev pub lit_text : Lit → List ℕ
lit_text l = if l.neg then codes "-" ++ decimal l.var else decimal l.var

-- a line of literals ends with 0
abbrev pub lits_line : List ℕ → List Lit → List ℕ
lits_line begin ls = concat (begin ∷ flat_map (λ l. codes " " ++ lit_text l) ls ∷ codes " 0\n" ∷ [])

abbrev pub slot_text : FrameTerm → Slot → List ℕ
slot_text f (Scalar p) = prop_name f p
slot_text f (Element p i) = concat (prop_name f p ∷ codes "[" ∷ decimal i ∷ codes "]" ∷ [])
slot_text f (Size p) = prop_name f p ++ codes ".size"

-- the bits of each unknown
abbrev pub bits_text : FrameTerm → List Slot → List (List Lit) → List ℕ
bits_text f [] bits = []
bits_text f (s ∷ slots) [] = []
bits_text f (s ∷ slots) (ls ∷ bits) = lits_line (codes "b " ++ slot_text f s) ls ++ bits_text f slots bits

abbrev pub clauses_text : List (List Lit) → List ℕ
clauses_text clauses = flat_map (lits_line (codes "c")) clauses

abbrev pub link_text : Link → List ℕ
link_text l = concat (codes " " ∷ lit_text l.pivot ∷ codes " " ∷ decimal l.clause ∷ [])

abbrev pub step_text : StepView → List ℕ
step_text s = concat (codes "s " ∷ decimal s.start ∷ flat_map link_text s.links ∷ codes " 0\n" ∷ [])

abbrev pub steps_text : List StepView → List ℕ
steps_text steps = flat_map step_text steps

abbrev pub goal_text : Option ℕ → List ℕ
goal_text None = []
goal_text (Some g) = concat (codes "g " ∷ decimal g ∷ codes "\n" ∷ [])

abbrev pub reason_text : FrameTerm → ProofReason → List ℕ
reason_text f why.Hard = codes "hard"
reason_text f why.Size = codes "size"
reason_text f (why.Randc p v) = concat (codes "randc " ∷ prop_name f p ∷ codes "=" ∷ scalar_text f p v ∷ [])
reason_text f (why.Cycle p v) = concat (codes "cycle " ∷ prop_name f p ∷ codes "=" ∷ scalar_text f p v ∷ [])
reason_text f (why.Drop k) = codes "drop " ++ decimal k

-- the unknowns and their bits
abbrev pub unknowns_text : FrameTerm → Encoded → List ℕ
unknowns_text f e = bits_text f e.slots.items (rows e.bits.items)

abbrev pub proof_over : FrameTerm → Option Encoded → Proof → List ℕ
proof_over f None p = []
proof_over f (Some e) p = concat (codes "p " ∷ reason_text f p.reason ∷ codes "\n" ∷ unknowns_text f e ∷ lits_line (codes "a") p.assume
    ∷ clauses_text e.cnf.clauses.items ∷ steps_text p.refutation.steps ∷ goal_text p.refutation.goal ∷ codes "e\n" ∷ [])

-- over the encoding that it names
abbrev pub proof_text : FrameTerm → List Encoded → Proof → List ℕ
proof_text f encodings p = proof_over f (slice_get encodings p.encoding) p

-- the log of a question in these words that was given up
abbrev pub log_over : List ℕ → FrameTerm → Encoded → RefutationView → ℕ → List ℕ
log_over question f e log first = concat (codes "p gaveup " ∷ question ∷ codes "\n" ∷ unknowns_text f e
    ∷ clauses_text e.cnf.clauses.items ∷ steps_text log.steps ∷ codes "f " ∷ decimal first ∷ codes "\ne\n" ∷ [])

abbrev pub log_text : FrameTerm → Query → Encoded → RefutationView → ℕ → List ℕ
log_text f query e log first = log_over (query_text f query) f e log first

abbrev pub proofs_text : FrameTerm → List Encoded → List Proof → List ℕ
proofs_text f encodings ps = flat_map (proof_text f encodings) ps

-- the proofs of an answer: of new cycles in flat order, of a 0 or of the cap, of dropped items in rising rank; and the log of a question that was given up
abbrev pub certificates_of : FrameTerm → Outcome → List ℕ
certificates_of f (One kept dropped cycles encodings) =
    flat_map (λ (r : Renewed). proofs_text f encodings r.proofs) cycles ++ flat_map (λ (d : Dropped). proof_text f encodings d.proof) dropped
certificates_of f (Zero phase chosen sizes proofs encodings) = proofs_text f encodings proofs
certificates_of f (GaveUp q e log first) = log_text f q e log first
certificates_of f (TooHeavy weight) = []
certificates_of f (SizeCap sizes proofs encodings) = proofs_text f encodings proofs

-- the log of a question that was given up alone
abbrev pub logs_of : FrameTerm → Outcome → List ℕ
logs_of f (One kept dropped cycles encodings) = []
logs_of f (Zero phase chosen sizes proofs encodings) = []
logs_of f (GaveUp q e log first) = log_text f q e log first
logs_of f (TooHeavy weight) = []
logs_of f (SizeCap sizes proofs encodings) = []
