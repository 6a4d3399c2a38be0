-- The text of a proof whose derivation was made.
use Rattle.std.proofs.Common.{◌≡◌, ◌∙◌, ℕ, ap, List, [], ◌∷◌, Some, unwrap_or}
use Rattle.std.specs.Prelude.{codes}
use Rattle.std.specs.List.{concat}
use Rattle.svr_frame.specs.Frame.{FrameTerm}
use Rattle.svr_encoded.specs.declared.encoded.Encoded.{Encoded}
use Rattle.svr_phase.specs.declared.proof.Proof.{Proof}
use Rattle.svr_lrat_made.specs.Made.{file_of}
use Rattle.svr_lrat_printed.specs.Text.{text_of}
use Rattle.svr_script.specs.ProofText.{reason_text, unknowns_text}
use Rattle.svr_script.specs.Derived.{derived_over}

pub derived_as : (f : FrameTerm) (e : Encoded) (p : Proof) (lines made : List ℕ) → lines ≡ made
    → made ≡ text_of (file_of e.cnf.vars e.cnf.clauses.items p.assume p.refutation.steps (unwrap_or p.refutation.goal 0))
    → concat (codes "p " ∷ reason_text f p.reason ∷ codes "\n" ∷ unknowns_text f e ∷ lines ∷ codes "e\n" ∷ []) ≡ derived_over f (Some e) p
derived_as f e p lines made same is =
    ap (λ (d : List ℕ). concat (codes "p " ∷ reason_text f p.reason ∷ codes "\n" ∷ unknowns_text f e ∷ d ∷ codes "e\n" ∷ [])) (same ∙ is)
