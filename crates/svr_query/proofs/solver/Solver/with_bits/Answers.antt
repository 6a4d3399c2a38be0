use Rattle.std.proofs.Common.{◌≡◌, ℕ, ◌+◌, ◌-◌, ◌<◌, ◌≤◌, List, length, false, refl, ap, ◌∙◌, arith, get_or, inl, inr}
use Rattle.std.proofs.lemmas.Bool.{cases_eq}
use Rattle.svr_chain.specs.declared.clause.Lit.{Lit}
use Rattle.svr_chain.specs.Clauses.{AreWithin}
use Rattle.svr_chain.proofs.Same.{same-back}
use Rattle.svr_query.specs.Bits.{AreFirst}
use Rattle.svr_query.proofs.solver.Solver.with_bits.Goals as goal

-- there are no more bits than variables
few-bits : (vars : ℕ) (bits : List Lit) → AreWithin vars bits → AreFirst bits → length bits ≤ vars
few-bits vars bits w f =
    elim (cases_eq (length bits) 0) [
      | inl e ↦ omega (arith, e)
      | inr e ↦
          let d : Lit = record { var = 0; neg = false } in
          let i : ℕ = length bits - 1 in
          let h : i < length bits = omega (arith, e) in
          let v : (get_or bits i d).var ≡ i + 1 = ap (λ z. z.var) (f i d h) in
          let o : (get_or bits i d).var ≤ vars = (w i d h).1 in
          omega (arith, v, o, e)
    ]

pub invariant_of-result : goal.invariant_of-result
invariant_of-result c =
    let s = c.in_ok-search.search in
    let v : s.vars ≡ c.args.cnf.vars = ap (λ z. z.vars) c.in_ok-search.ensures.fresh in
    let n : c.len-count.result ≡ length c.args.bits.items = c.len-count.ensures ∙ c.args.bits.ok.0 in
    let f : length c.args.bits.items ≤ c.args.cnf.vars = few-bits c.args.cnf.vars c.args.bits.items c.requires.within c.requires.first in
    record {
      vars = v;
      logged = (c.args.cnf.clauses.items, rw c.new-2.ensures.items refl, same-back c.in_ok-search.search.clauses c.args.cnf.clauses.items c.in_ok-search.ensures.same);
      bits = rw (n, v) (f, c.requires.settled);
    }
