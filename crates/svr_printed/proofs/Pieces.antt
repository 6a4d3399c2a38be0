-- A line of literals that stand in three pieces.
use Rattle.std.proofs.Common.{◌≡◌, ◌∙◌, ℕ, List, [], ◌++◌, sym, ap, append_assoc}
use Rattle.std.specs.Prelude.{codes}
use Rattle.std.specs.List.{flat_map}
use Rattle.std.proofs.lemmas.List.Concat.{flat_map-append}
use Rattle.svr_chain.specs.declared.clause.Lit.{Lit}
use Rattle.svr_script.specs.ProofText.{lit_text, lits_line}

abbrev spaced : Lit → List ℕ
spaced l = codes " " ++ lit_text l

pub line_of_pieces : (begin : List ℕ) (front middle back all : List Lit) → front ++ middle ++ back ≡ all
    → begin ++ (flat_map (λ (l : Lit). codes " " ++ lit_text l) front ++ (flat_map (λ (l : Lit). codes " " ++ lit_text l) middle ++ (flat_map (λ (l : Lit). codes " " ++ lit_text l) back ++ (codes " 0\n" ++ []))))
    ≡ lits_line begin all
line_of_pieces begin front middle back all is =
    let each : List Lit → List ℕ = λ ls. flat_map spaced ls in
    let end : List ℕ = codes " 0\n" ++ [] in
    let joined : (each front ++ each middle) ++ each back ≡ each all
    = ap (λ (t : List ℕ). t ++ each back) (sym (flat_map-append spaced front middle)) ∙ sym (flat_map-append spaced (front ++ middle) back) ∙ ap each is in
    ap (λ (t : List ℕ). begin ++ t)
    (sym (append_assoc (each front) (each middle) (each back ++ end)) ∙ sym (append_assoc (each front ++ each middle) (each back) end) ∙ ap (λ (t : List ℕ). t ++ end) joined)
