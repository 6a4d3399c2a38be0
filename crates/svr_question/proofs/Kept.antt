-- An encoding whose clauses were given back is one of the same items.
use Rattle.std.proofs.Common.{◌≡◌, ℕ, Bool, List, sum, sym, subst}
use Rattle.std.specs.List.{All}
use Rattle.svr_chain.specs.declared.clause.Lit.{Lit}
use Rattle.svr_chain.specs.declared.clause.Cnf.{Cnf}
use Rattle.svr_chain.specs.Clauses.{AreWithin}
use Rattle.svr_chain.specs.Valuations.{Meets, AgreeUpTo}
use Rattle.svr_chain.specs.Settled.{AreSettled}
use Rattle.svr_typed.specs.ExprTerm.{ExprTerm}
use Rattle.svr_eval.specs.Reading.{Reading}
use Rattle.svr_frame.specs.declared.slot.Slot.{Slot}
use Rattle.svr_encoded.specs.declared.encoded.Encoded.{Encoded}
use Rattle.svr_encoded.specs.Slots.{positive_bits, reading_at}
use Rattle.svr_encoded.specs.Encodes.{AreRising, TellItems, EncodesOver}

pub given_back : (state : Reading) (unknowns : List Slot) (widths : List ℕ) (asked : List ExprTerm) (e : Encoded) (cnf : Cnf) → cnf.vars ≡ e.cnf.vars → cnf.clauses.items ≡ e.cnf.clauses.items
    → EncodesOver state unknowns widths asked e → EncodesOver state unknowns widths asked (record e { cnf = cnf })
given_back state unknowns widths asked e cnf vars clauses h = record {
  items = h.items;
  slots = h.slots;
  bits = h.bits;
  extends = subst (λ (cs : List (List Lit)). (v : ℕ → Bool) → (b : ℕ → Bool) × AgreeUpTo (sum widths) v b × Meets b cs) (sym clauses) h.extends;
  roots = subst (λ (cs : List (List Lit)). TellItems cs e.roots.items (λ v. reading_at state unknowns (positive_bits 0 widths) v) asked) (sym clauses) h.roots;
  apart = subst (λ (n : ℕ). AreRising (sum widths) e.roots.items n) (sym vars) h.apart;
  settled = subst (λ (cs : List (List Lit)). AreSettled (sum widths) cnf.vars cs) (sym clauses) (subst (λ (n : ℕ). AreSettled (sum widths) n e.cnf.clauses.items) (sym vars) h.settled);
  within = subst (λ (cs : List (List Lit)). All (AreWithin cnf.vars) cs) (sym clauses) (subst (λ (n : ℕ). All (AreWithin n) e.cnf.clauses.items) (sym vars) h.within);
}
