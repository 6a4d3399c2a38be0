-- What a node is combined from: vectors that read as the values of its parts
use Rattle.std.specs.Prelude.{ℕ, suc, ◌≤◌, Bool, List, [], ◌∷◌, ◌++◌, length, get_or, Option, None, Some}
use Rattle.svr_chain.specs.declared.clause.Lit.{Lit}
use Rattle.svr_gate.specs.Circuit.{Circuit, GivesNumber}
use Rattle.svr_eval.specs.Reading.{Reading}
use Rattle.svr_eval.specs.Value.{val}
use Rattle.svr_vector.specs.Places.{rows}
use Rattle.svr_inputs.specs.Inputs.{read_at}
use Rattle.svr_encode.specs.declared.given.Given.{Given}
use Rattle.svr_encode.specs.Parts.{PartTerm}

-- the loops around a part
abbrev pub inner : List ℕ → Option ℕ → List ℕ
inner env None = env
inner env (Some i) = env ++ i ∷ []

abbrev pub part_value : Reading → List ℕ → PartTerm → ℕ
part_value a env p = val a (inner env p.index) p.tree p.width p.sign

-- from the k-th one on
abbrev pub GiveParts : Circuit → List (List Lit) → ((ℕ → Bool) → Reading) → List ℕ → ℕ → List PartTerm → Type 0
GiveParts c xs read env k [] = k ≤ length xs
GiveParts c xs read env k (p ∷ ps) = GivesNumber c (get_or xs k []) p.width (λ v. part_value (read v) env p) × GiveParts c xs read env (suc k) ps

abbrev pub AreGiven : Circuit → Given → ℕ → List PartTerm → Type 0
AreGiven c g k ps = GiveParts c (rows g.values.now) (λ v. read_at g.inputs.now v) g.env.now k ps
