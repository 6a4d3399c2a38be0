use Rattle.std.proofs.Common.{◌≡◌, ◌∙◌, Bool, Option, Some, None, refl, sym, subst}
use Rattle.std.specs.Prelude.{MatchOption, ⊤}
use Rattle.svr_chain.specs.declared.clause.Lit.{Lit}
use Rattle.svr_chain.specs.Clauses.{IsWithin}
use Rattle.svr_gate.specs.Circuit.{Circuit, IsAlwaysTrue, Tells, known_of}
use Rattle.svr_gate.proofs.OpenLemmas.{known_told}
use Rattle.svr_gate.proofs.builder.Builder.known.Goals as goal

known_tells : (c : Circuit) (l : Lit) → IsAlwaysTrue c c.one → IsWithin c.vars l → (o : Option Bool) → o ≡ known_of c.one l → MatchOption o ⊤ (λ v. Tells c l (λ a. v))
known_tells c l h w None e = tt
known_tells c l h w (Some v) e = record { within = w; value = λ a m. known_told c c.one h a m l v (sym e) }

pub returns-clause-value : goal.returns-clause-value
returns-clause-value c =
    let own : Circuit = record { inputs = c.self.inside.inputs; vars = c.self.inside.vars; clauses = c.self.inside.clauses.items; one = c.self.inside.one; gates = c.self.inside.gates.entries } in
    subst (λ (x : Circuit). MatchOption c.known_of.result ⊤ (λ v. Tells x c.args.lit (λ a. v))) c.self.view_is
    (known_tells own c.args.lit c.self.invariant.one (subst (λ (x : Circuit). IsWithin x.vars c.args.lit) (sym c.self.view_is) c.requires) c.known_of.result c.known_of.ensures)
