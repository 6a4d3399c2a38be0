use Rattle.std.proofs.Common.{◌≡◌, refl, ap, ◌∙◌, ◌+◌, ◌≤◌, [], List, length, take, None, arith}
use Rattle.svr_chain.specs.Views.{StepView}
use Rattle.svr_chain.specs.Clauses.{AreWithin}
use Rattle.svr_chain.specs.Log.{verdict_of}
use Rattle.svr_chain.specs.Valuations.{Meets}
use Rattle.svr_chain.specs.declared.log.Verdict.TheVariants.{Accepted}
use Rattle.svr_cdcl.specs.Search.{IsSearch}
use Rattle.svr_query.specs.declared.run.Found.TheVariants.{Satisfied}
use Rattle.svr_query.specs.Logged.{valuation_of}
use Rattle.svr_query.specs.Found.{IsFound}
use Rattle.svr_query.specs.Bits.{AreMany}
use Rattle.svr_query.proofs.Logs.{meets-logged, concludes-none}
use Rattle.svr_query.proofs.Values.{meets-values, assumed-values}
use Rattle.svr_query.proofs.solver.searched.Goals as goal

pub returns-in_ok-values-in-Satisfied-clause-answer : goal.returns-in_ok-values-in-Satisfied-clause-answer
returns-in_ok-values-in-Satisfied-clause-answer c =
    let t = c.search_within.new.search in
    let cnf = c.args.cnf.now in
    let assume = c.args.assume.now in
    let f : IsFound t assume Satisfied = rw c.in-Satisfied.is at c.in_ok-found.ensures.found in
    let k : IsSearch t = c.level.ensures.kept in
    let vs = c.in_ok-values-in-Satisfied.values.items in
    let vals = c.in_ok-values-in-Satisfied.ensures in
    let q : t.vars ≡ c.args.search.now.vars = c.search_within.ensures.vars in
    let m : Meets (valuation_of vs) t.clauses = meets-values t.entries vs t.vars vals.values f.2 t.clauses k.within f.0 in
    let n : Meets (valuation_of vs) cnf = meets-logged (valuation_of vs) cnf c.search_within.new.steps.items t c.search_within.ensures.logged m in
    let w : AreWithin t.vars assume = rw q c.requires.within in
    (vals.len ∙ q, (n, assumed-values t.entries vs t.vars vals.values assume w f.1))

pub returns-in_ok-copies-in-Spent-clause-answer : goal.returns-in_ok-copies-in-Spent-clause-answer
returns-in_ok-copies-in-Spent-clause-answer c =
    let t = c.search_within.new.search in
    let cnf = c.args.cnf.now in
    let xs = c.args.steps.now in
    let ys : List StepView = c.search_within.new.steps.items in
    let m : c.in_ok-copies-in-Spent.copies.items ≡ ys = c.in_ok-copies-in-Spent.ensures ∙ c.as_slice-in-Spent.ensures.value in
    let n : c.len-first.result ≡ length xs.items = c.len-first.ensures ∙ xs.ok.0 in
    let b : length xs.items + c.args.limit.steps ≤ length ys = c.in_ok-found.ensures.spent c.in-Spent.is in
    let many : AreMany c.args.limit.bits c.args.limit.steps = c.in_ok-found.ensures.many c.in-Spent.is in
    let a : verdict_of cnf [] ys None ≡ Accepted = concludes-none cnf ys t c.search_within.ensures.logged in (
      record { none = refl; accepted = rw m a; spent = omega (arith, ap (λ (z : List StepView). length z) m, n, b) },
      n,
      ap (λ (z : List StepView). take c.len-first.result z) m ∙ (ap (λ i. take i ys) n ∙ c.search_within.ensures.begins),
      many,
    )
