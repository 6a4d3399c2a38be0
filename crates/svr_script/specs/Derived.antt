-- Proofs as hinted derivations: each with its first line and its bits, and between them and the last line the text of the derivation.
use Rattle.std.specs.Prelude.{ℕ, List, [], ◌∷◌, ◌++◌, Option, Some, None, flat_map, slice_get, unwrap_or, codes}
use Rattle.std.specs.List.{concat}
use Rattle.svr_frame.specs.Frame.{FrameTerm}
use Rattle.svr_encoded.specs.declared.encoded.Encoded.{Encoded}
use Rattle.svr_phase.specs.declared.proof.Proof.{Proof}
use Rattle.svr_phase.specs.declared.proof.Renewed.{Renewed}
use Rattle.svr_call.specs.declared.outcome.Dropped.{Dropped}
use Rattle.svr_call.specs.declared.outcome.Outcome.{Outcome}
use Rattle.svr_call.specs.declared.outcome.Outcome.TheVariants.{One, Zero, GaveUp, TooHeavy, SizeCap}
use Rattle.svr_lrat_made.specs.Made.{file_of}
use Rattle.svr_lrat_printed.specs.Text.{text_of}
use Rattle.svr_script.specs.ProofText.{reason_text, unknowns_text}

abbrev pub derived_over : FrameTerm → Option Encoded → Proof → List ℕ
derived_over f None p = []
derived_over f (Some e) p = concat (codes "p " ∷ reason_text f p.reason ∷ codes "\n" ∷ unknowns_text f e
    ∷ text_of (file_of e.cnf.vars e.cnf.clauses.items p.assume p.refutation.steps (unwrap_or p.refutation.goal 0)) ∷ codes "e\n" ∷ [])

-- over the encoding that it names
abbrev pub derived_text : FrameTerm → List Encoded → Proof → List ℕ
derived_text f encodings p = derived_over f (slice_get encodings p.encoding) p

abbrev pub all_derived : FrameTerm → List Encoded → List Proof → List ℕ
all_derived f encodings ps = flat_map (derived_text f encodings) ps

-- those of an answer, in the order of its proofs. A log of a question that was given up shows nothing, so that no derivation can be made of it.
abbrev pub derivations_of : FrameTerm → Outcome → List ℕ
derivations_of f (One kept dropped cycles encodings) =
    flat_map (λ (r : Renewed). all_derived f encodings r.proofs) cycles ++ flat_map (λ (d : Dropped). derived_text f encodings d.proof) dropped
derivations_of f (Zero phase chosen sizes proofs encodings) = all_derived f encodings proofs
derivations_of f (GaveUp q e log first) = []
derivations_of f (TooHeavy weight) = []
derivations_of f (SizeCap sizes proofs encodings) = all_derived f encodings proofs
