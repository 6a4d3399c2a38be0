-- What the public call says is what the definition says.
use Rattle.std.proofs.Common.{◌≡◌, ℕ, List, [], Option, None, Some, option_map, refl, sym, ap, subst, ◌∙◌}
use Rattle.std.specs.Prelude.{Result, IfOk, IfErr, ⊤}
use Rattle.std.specs.Prelude.Result.{Ok, Err}
use Rattle.svr_typed.specs.declared.Design.{Design}
use Rattle.svr_typed.specs.StmtTerm.{DesignTerm, design_term}
use Rattle.svr_tree.specs.ScriptTree.{ScriptTree}
use Rattle.svr_elab_fault.specs.declared.Fault.{Fault}
use Rattle.svr_elab_fault.specs.declared.ElabFault.{ElabFault}
use Rattle.svr_elab_fault.specs.declared.ElabFault.TheVariants.{Refused, NoMemory}
use Rattle.svr_elab_fault.specs.Refusals.{first_one, FirstOf}
use Rattle.svr_elab.specs.Script as spec
use Rattle.svr_elab.specs.Script.{ScriptElab}
use Rattle.svr_elab.specs.Promise.{IsAccepted, IsRefused, Explains, Tells}
use Rattle.svr_elab.specs.declared.whole.ScriptPart.{ScriptPart}
use Rattle.svr_elab.specs.Seen.{script_part}
use Rattle.svr_elab.proofs.Shown.{kept, told}

abbrev Answer : Type 0
Answer = Result (Option Design) ElabFault

-- the refusal that is kept is the first
first_is : (text : ℕ → List ℕ) (s : ScriptTree) (p : ScriptPart) → script_part p ≡ spec.script first_one text s → FirstOf (spec.faults_of text s) p.fault
first_is text s p h = subst (FirstOf (spec.faults_of text s)) (sym (ap (λ (x : ScriptElab (Option Fault)). x.faults) h)) (told text s)

-- the design that is kept is that of the definition
design_is : (text : ℕ → List ℕ) (s : ScriptTree) (p : ScriptPart) → script_part p ≡ spec.script first_one text s → spec.design_in text s ≡ option_map design_term p.design
design_is text s p h = ap (λ (x : ScriptElab (Option Fault)). x.design) (kept text s ∙ sym h)

no_fault : (xs : List Fault) (f : Option Fault) → FirstOf xs f → f ≡ None → xs ≡ []
no_fault xs None h e = h
no_fault xs (Some f) h e = absurd (let e : Some f ≡ None = e in cc)

pub accepts : (text : ℕ → List ℕ) (s : ScriptTree) (p : ScriptPart) (r : Answer) → script_part p ≡ spec.script first_one text s → IfOk r (λ d. (p.fault ≡ None) × (d ≡ p.design))
    → IfOk r (λ d. IsAccepted text s (option_map design_term d))
accepts text s p (Ok d) h t = record {
  clear = no_fault (spec.faults_of text s) p.fault (first_is text s p h) t.0;
  design = design_is text s p h ∙ ap (λ (d : Option Design). option_map design_term d) (sym t.1);
}
accepts text s p (Err e) h t = tt

explained : (text : ℕ → List ℕ) (s : ScriptTree) (p : ScriptPart) (e : ElabFault) → script_part p ≡ spec.script first_one text s → Tells p.fault e → Explains text s e
explained text s p NoMemory h t = tt
explained text s p (Refused number token) h t = record {
  fault = t.fault;
  is_number = t.is_number;
  is_token = t.is_token;
  first = subst (FirstOf (spec.faults_of text s)) t.is (first_is text s p h);
}

pub explains : (text : ℕ → List ℕ) (s : ScriptTree) (p : ScriptPart) (r : Answer) → script_part p ≡ spec.script first_one text s → IfErr r (λ e. Tells p.fault e) → IfErr r (λ e. Explains text s e)
explains text s p (Ok d) h t = tt
explains text s p (Err e) h t = explained text s p e h t
