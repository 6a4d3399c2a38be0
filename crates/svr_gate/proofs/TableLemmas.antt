-- What the named tables say of their inputs. Crates above may cite these.
use Rattle.std.proofs.Common.{◌≡◌, ◌+◌, ◌*◌, Bool, true, false, cond, not, ◌&&◌, ◌||◌, [], ◌∷◌, refl, ◌∙◌, ap}
use Rattle.svr_chain.specs.declared.clause.Lit.{Lit}
use Rattle.svr_chain.specs.Valuations.{lit_value}
use Rattle.svr_gate.specs.Numbers.{bit, number}
use Rattle.svr_gate.specs.Circuit.{Circuit, Tells}
use Rattle.svr_gate.specs.Gates.{table_value}
use Rattle.svr_gate.proofs.NumberLemmas.{number-nil, number-two, number-three}
use Rattle.svr_gate.proofs.Circuits.{Tells-same}

pub both_value : (p q : Bool) → table_value 0x8 (bit p + 2 * bit q) ≡ (p && q)
both_value true true = refl
both_value true false = refl
both_value false true = refl
both_value false false = refl

pub either_value : (p q : Bool) → table_value 0xe (bit p + 2 * bit q) ≡ (p || q)
either_value true true = refl
either_value true false = refl
either_value false true = refl
either_value false false = refl

pub unequal_value : (p q : Bool) → table_value 0x6 (bit p + 2 * bit q) ≡ cond p (not q) q
unequal_value true true = refl
unequal_value true false = refl
unequal_value false true = refl
unequal_value false false = refl

pub choice_value : (t p q : Bool) → table_value 0xd8 (bit t + 2 * (bit p + 2 * bit q)) ≡ cond t p q
choice_value true true true = refl
choice_value true true false = refl
choice_value true false true = refl
choice_value true false false = refl
choice_value false true true = refl
choice_value false true false = refl
choice_value false false true = refl
choice_value false false false = refl

pub agree_value : (t p q : Bool) → table_value 0x82 (bit t + 2 * (bit p + 2 * bit q)) ≡ (t && cond p q (not q))
agree_value true true true = refl
agree_value true true false = refl
agree_value true false true = refl
agree_value true false false = refl
agree_value false true true = refl
agree_value false true false = refl
agree_value false false true = refl
agree_value false false false = refl

-- the sum bit and the carry bit add up
pub sum_value : (p q r : Bool) → bit (table_value 0x96 (bit p + 2 * (bit q + 2 * bit r))) + 2 * bit (table_value 0xe8 (bit p + 2 * (bit q + 2 * bit r))) ≡ bit p + bit q + bit r
sum_value true true true = refl
sum_value true true false = refl
sum_value true false true = refl
sum_value true false false = refl
sum_value false true true = refl
sum_value false true false = refl
sum_value false false true = refl
sum_value false false false = refl

pub Tells-never : {c : Circuit} {l : Lit} → Tells c l (λ a. table_value 0x0 (number a [])) → Tells c l (λ a. false)
Tells-never t = Tells-same (λ a. false) t (λ a m. ap (table_value 0x0) (number-nil a))

pub Tells-always : {c : Circuit} {l : Lit} → Tells c l (λ a. table_value 0x1 (number a [])) → Tells c l (λ a. true)
Tells-always t = Tells-same (λ a. true) t (λ a m. ap (table_value 0x1) (number-nil a))

pub Tells-both : {c : Circuit} {l : Lit} (p q : Lit) → Tells c l (λ a. table_value 0x8 (number a (p ∷ q ∷ []))) → Tells c l (λ a. lit_value a p && lit_value a q)
Tells-both p q t = Tells-same (λ a. lit_value a p && lit_value a q) t (λ a m. ap (table_value 0x8) (number-two a p q) ∙ both_value (lit_value a p) (lit_value a q))

pub Tells-either : {c : Circuit} {l : Lit} (p q : Lit) → Tells c l (λ a. table_value 0xe (number a (p ∷ q ∷ []))) → Tells c l (λ a. lit_value a p || lit_value a q)
Tells-either p q t = Tells-same (λ a. lit_value a p || lit_value a q) t (λ a m. ap (table_value 0xe) (number-two a p q) ∙ either_value (lit_value a p) (lit_value a q))

pub Tells-unequal : {c : Circuit} {l : Lit} (p q : Lit) → Tells c l (λ a. table_value 0x6 (number a (p ∷ q ∷ []))) → Tells c l (λ a. cond (lit_value a p) (not (lit_value a q)) (lit_value a q))
Tells-unequal p q t =
    Tells-same (λ a. cond (lit_value a p) (not (lit_value a q)) (lit_value a q)) t (λ a m. ap (table_value 0x6) (number-two a p q) ∙ unequal_value (lit_value a p) (lit_value a q))

pub Tells-choice : {c : Circuit} {l : Lit} (t p q : Lit) → Tells c l (λ a. table_value 0xd8 (number a (t ∷ p ∷ q ∷ []))) → Tells c l (λ a. cond (lit_value a t) (lit_value a p) (lit_value a q))
Tells-choice t p q h =
    Tells-same (λ a. cond (lit_value a t) (lit_value a p) (lit_value a q)) h
    (λ a m. ap (table_value 0xd8) (number-three a t p q) ∙ choice_value (lit_value a t) (lit_value a p) (lit_value a q))
