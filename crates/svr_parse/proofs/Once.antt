-- Tokens have one tree.
use Rattle.std.proofs.Common.{◌≡◌, ℕ, ◌+◌, max, List, [], length, Ok, sym, ◌∙◌, ap, arith}
use Rattle.svr_tree.specs.Tokens.{Tok}
use Rattle.svr_tree.specs.ScriptTree.{ScriptTree}
use Rattle.svr_tree.specs.ScriptGrammar.{height}
use Rattle.svr_tree.specs.Reading.{ReadsScript}
use Rattle.svr_reader.specs.Outcomes.{Outcome}
use Rattle.svr_reader.specs.Lists.{WithHeight}
use Rattle.svr_parse.proofs.Layer.{script_parser}

-- with room for both, the parser reads both
pub one_tree : (i : List Tok) (t u : ScriptTree) → ReadsScript t i → ReadsScript u i → t ≡ u
one_tree i t u a b =
    let room : ℕ = max (height t) (height u) in
    let most : ℕ = room + length i in
    let x = script_parser.complete most room (height t) i t (record { levelled = a.levelled; low = omega arith; spells = a.spells }) (omega arith) (omega arith) (omega arith) in
    let y = script_parser.complete most room (height u) i u (record { levelled = b.levelled; low = omega arith; spells = b.spells }) (omega arith) (omega arith) (omega arith) in
    same (sym x.1 ∙ y.1)
  where
    same : {n k : ℕ} → ◌≡◌ {A = Outcome (WithHeight ScriptTree)} (Ok ((t, n), [])) (Ok ((u, k), [])) → t ≡ u
    same {n} {k} e = let both : ◌≡◌ {A = WithHeight ScriptTree × List Tok} ((t, n), []) ((u, k), []) = cc in ap (λ z. z.0.0) both
