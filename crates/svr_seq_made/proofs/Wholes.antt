-- A text as a whole: its start and its productions
use Rattle.std.proofs.Common.{◌≡◌, ℕ, List, [], ◌++◌, map, refl, ◌∙◌, subst}
use Rattle.svr_seq.specs.declared.tree.Production.{Production}
use Rattle.svr_seq.specs.SeqTerm.{SeqTerm, production_term}
use Rattle.svr_seq_text.specs.declared.text.SeqText.{SeqText}
use Rattle.svr_seq_made.specs.declared.fault.SeqFault.{SeqFault}
use Rattle.svr_seq_made.specs.Refusals.{finder, entries, start_refusals, prods_refusals, refusals, IsFirst}
use Rattle.svr_seq_made.specs.Making.{start_made, prod_made, seq_made}
use Rattle.svr_seq_made.specs.Tables.{Key, entry_of, found_in}
use Rattle.svr_seq_made.proofs.Walks.{first-back}
use Rattle.svr_seq_made.proofs.Named.{finds}

pub prods-refused : (text : ℕ → List ℕ) (s : SeqText) (es : List (Key × ℕ)) (x : SeqFault) → map entry_of es ≡ entries text [] 0 s.prods
    → start_refusals text (found_in es) s.start ≡ [] → IsFirst x (prods_refusals text (found_in es) 0 s.prods) → IsFirst x (refusals text s)
prods-refused text s es x h a b =
    first-back x (refusals text s) (start_refusals text (finder text s.prods) s.start) (prods_refusals text (finder text s.prods) 0 s.prods) refl
    (subst (λ z. start_refusals text z s.start ≡ []) (finds text es s.prods h) a)
    (subst (λ z. IsFirst x (prods_refusals text z 0 s.prods)) (finds text es s.prods h) b)

pub none-refused : (text : ℕ → List ℕ) (s : SeqText) (es : List (Key × ℕ)) → map entry_of es ≡ entries text [] 0 s.prods
    → start_refusals text (found_in es) s.start ≡ [] → prods_refusals text (found_in es) 0 s.prods ≡ [] → refusals text s ≡ []
none-refused text s es h a b =
    let c : start_refusals text (finder text s.prods) s.start ≡ [] = subst (λ z. start_refusals text z s.start ≡ []) (finds text es s.prods h) a in
    let d : prods_refusals text (finder text s.prods) 0 s.prods ≡ [] = subst (λ z. prods_refusals text z 0 s.prods ≡ []) (finds text es s.prods h) b in
    λ i. c i ++ d i

pub all-is-made : (text : ℕ → List ℕ) (s : SeqText) (es : List (Key × ℕ)) (start : ℕ) (prods : List Production) (made : SeqTerm) → map entry_of es ≡ entries text [] 0 s.prods
    → start ≡ start_made text (found_in es) s.start → map production_term prods ≡ map (prod_made text (found_in es)) s.prods
    → made ≡ record { start = start; prods = map production_term prods } → made ≡ seq_made text s
all-is-made text s es start prods made h a b m =
    let f : found_in es ≡ finder text s.prods = finds text es s.prods h in
    let c : start ≡ start_made text (finder text s.prods) s.start = subst (λ z. start ≡ start_made text z s.start) f a in
    let d : map production_term prods ≡ map (prod_made text (finder text s.prods)) s.prods = subst (λ z. map production_term prods ≡ map (prod_made text z) s.prods) f b in
    m ∙ (λ i. record { start = c i; prods = d i })
