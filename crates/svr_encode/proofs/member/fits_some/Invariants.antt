use Rattle.std.proofs.Common.{◌≡◌, ℕ, Bool, ◌||◌, length, drop}
use Rattle.svr_typed.specs.ExprTerm.{expr_term, range_terms}
use Rattle.svr_chain.specs.Valuations.{lit_value, Meets}
use Rattle.svr_chain.specs.Clauses.{IsWithin}
use Rattle.svr_gate.specs.Circuit.{Extends}
use Rattle.svr_eval.specs.Typed.{RangesAreTyped}
use Rattle.svr_eval.specs.Value as spec
use Rattle.svr_inputs.specs.Inputs.{read_at}
use Rattle.svr_inputs.specs.Served.{RangesAreServed}
use Rattle.svr_encode.specs.Parts.{set_parts}
use Rattle.svr_encode.specs.Given.{AreGiven}
use Rattle.svr_encode.proofs.member.fits_some.Given as goal

abbrev pub invariant-loop-range : goal.invariant-loop-range
invariant-loop-range l = record {
  typed : RangesAreTyped (range_terms (drop l.range-index l.set));
  ready : RangesAreServed l.given.inputs.now (length l.given.env.now) (range_terms (drop l.range-index l.set));
  parts : AreGiven l.fn.b l.given l.at (set_parts (expr_term l.left) (range_terms (drop l.range-index l.set)));
  extends : Extends l.fn.b l.b;
  within : IsWithin l.b.vars l.found;
  told : (v : ℕ → Bool) → Meets v l.b.clauses
      → (lit_value v l.found || spec.fits_some (read_at l.given.inputs.now v) l.given.env.now (spec.operand_of (read_at l.given.inputs.now v) l.given.env.now (expr_term l.left)) (range_terms (drop l.range-index l.set)))
      ≡ spec.fits_some (read_at l.given.inputs.now v) l.given.env.now (spec.operand_of (read_at l.given.inputs.now v) l.given.env.now (expr_term l.left)) (range_terms l.set);
}
