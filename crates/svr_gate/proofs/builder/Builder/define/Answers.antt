use Rattle.std.proofs.Common.{◌≡◌, ◌∙◌, ℕ, Bool, Option, List, Some, inl, inr, get_or, ap, sym, refl, subst, arith}
use Rattle.std.specs.List.{All}
use Rattle.std.proofs.lemmas.Result.{IfOk-weaker}
use Rattle.std.proofs.lemmas.List.Elements.{All-filter}
use Rattle.svr_chain.specs.declared.clause.Lit.{Lit}
use Rattle.svr_chain.specs.Clauses.{IsWithin, AreWithin}
use Rattle.svr_chain.specs.Valuations.{Meets}
use Rattle.svr_gate.specs.declared.gate.Gate.{Gate}
use Rattle.svr_gate.specs.Numbers.{number}
use Rattle.svr_gate.specs.Gates.{table_value}
use Rattle.svr_gate.specs.Keys.{inputs_of, no_input, gate_value}
use Rattle.svr_gate.specs.Folding.{copy_lit, IsConstant, IsCopy}
use Rattle.svr_gate.specs.Circuit.{Circuit, Extends, Tells, known_of}
use Rattle.svr_gate.specs.Answers.{is_unknown, open_gate, HasLiteral, Answers}
use Rattle.svr_gate.proofs.Circuits.{Tells-same}
use Rattle.svr_gate.proofs.OpenLemmas.{inputs_of_open, open_gate_value, open_gate_same}
use Rattle.svr_gate.proofs.FoldLemmas.{constant_has, constant_open, copy_open, known_copy_lit, Answers-from, Answers-to}
use Rattle.svr_gate.proofs.builder.Builder.define.Goals as goal

pub literal-requires-clause-within : goal.literal-requires-clause-within
literal-requires-clause-within g c =
    let vars = c.args.self.now.vars in
    let one = c.self.inside.one in
    subst (λ (x : Gate). AreWithin vars (inputs_of x)) (sym c.open_gate-gate.ensures)
    (subst (λ (ls : List Lit). AreWithin vars ls) (sym (inputs_of_open one c.args.table c.args.ins)) (All-filter (λ l. is_unknown (known_of one l)) (IsWithin vars) c.args.ins c.requires.within))

pub returns-clause-value : goal.returns-clause-value
returns-clause-value g c =
    let inside = c.self.inside in
    let own : Circuit = record { inputs = inside.inputs; vars = inside.vars; clauses = inside.clauses.items; one = inside.one; gates = inside.gates.entries } in
    IfOk-weaker c.literal.result
    (λ l. Tells c.literal.new.self l (gate_value c.open_gate-gate.result))
    (λ l. Tells c.literal.new.self l (λ a. table_value c.args.table (number a c.args.ins)))
    (λ l t. Tells-same (λ a. table_value c.args.table (number a c.args.ins)) t
    (λ a m.
    ap (λ (x : Gate). gate_value x a) c.open_gate-gate.ensures
    ∙ open_gate_value own c.self.invariant.one c.args.table c.args.ins a (subst (λ (x : Circuit). Meets a x.clauses) (sym c.self.view_is) (c.literal.ensures.extends.keeps a m))))
    c.literal.ensures.value

-- the gate, in terms of what was known
same_gate : (c : Circuit) (one : Option Lit) (x : Gate) (t : ℕ) (ins : List Lit) → one ≡ c.one → x ≡ open_gate one t ins → x ≡ open_gate c.one t ins
same_gate c one x t ins e h = h ∙ ap (λ o. open_gate o t ins) e

pub returns-clause-answer : goal.returns-clause-answer
returns-clause-answer g c =
    let new = c.literal.new.self in
    let now = c.args.self.now in
    let known : All (λ l. known_of new.one l ≡ known_of now.one l) c.args.ins = λ k d lt. c.literal.ensures.extends.known (get_or c.args.ins k d) (c.requires.within k d lt) in
    let e : c.open_gate-gate.result ≡ open_gate new.one c.args.table c.args.ins =
    same_gate now c.self.inside.one c.open_gate-gate.result c.args.table c.args.ins (ap (λ (x : Circuit). x.one) c.self.view_is) c.open_gate-gate.ensures
    ∙ sym (open_gate_same now.one new.one c.args.table c.args.ins known) in
    IfOk-weaker c.literal.result
    (λ l. HasLiteral new c.open_gate-gate.result l)
    (λ l. Answers new c.args.table c.args.ins l)
    (λ l h. Answers-from new c.args.table c.args.ins l (subst (λ (x : Gate). HasLiteral new x l) e h))
    c.literal.ensures.answer

pub returns-clause-again : goal.returns-clause-again
returns-clause-again g c = λ l h.
    let now = c.args.self.now in
    let e = same_gate now c.self.inside.one c.open_gate-gate.result c.args.table c.args.ins (ap (λ (x : Circuit). x.one) c.self.view_is) c.open_gate-gate.ensures in
    c.literal.ensures.again l (subst (λ (x : Gate). HasLiteral now x l) (sym e) (Answers-to now c.args.table c.args.ins l h))

pub returns-clause-constant : goal.returns-clause-constant
returns-clause-constant g c = λ v h.
    let new = c.literal.new.self in
    let now = c.args.self.now in
    let e = same_gate now c.self.inside.one c.open_gate-gate.result c.args.table c.args.ins (ap (λ (x : Circuit). x.one) c.self.view_is) c.open_gate-gate.ensures in
    let constant : IsConstant c.open_gate-gate.result v = subst (λ (x : Gate). IsConstant x v) (sym e) (constant_open now.one c.args.table c.args.ins v h) in
    IfOk-weaker c.literal.result
    (λ l. HasLiteral new c.open_gate-gate.result l)
    (λ l. known_of new.one l ≡ Some v)
    (λ l k.
    let o = constant_has new c.open_gate-gate.result l k v constant in
    ap (λ x. known_of x l) o.1.0 ∙ ap (λ (m : Lit). known_of (Some o.0) m) o.1.1 ∙ known_copy_lit v o.0)
    c.literal.ensures.answer

pub returns-clause-copy : goal.returns-clause-copy
returns-clause-copy g c = λ j same h.
    let now = c.args.self.now in
    let e = same_gate now c.self.inside.one c.open_gate-gate.result c.args.table c.args.ins (ap (λ (x : Circuit). x.one) c.self.view_is) c.open_gate-gate.ensures in
    let p = copy_open now.one c.args.table c.args.ins j same h in
    let l : Lit = copy_lit same (get_or c.args.ins j no_input) in
    let has : HasLiteral now (open_gate now.one c.args.table c.args.ins) l = inr (inl (p.0, (same, (p.1.0, ap (copy_lit same) (sym p.1.1))))) in
    c.literal.ensures.again l (subst (λ (x : Gate). HasLiteral now x l) (sym e) has)
