-- A text has fewer productions than tokens
use Rattle.std.proofs.Common.{◌≡◌, ℕ, suc, ◌+◌, ◌≤◌, ◌<◌, ◌^◌, List, [], ◌∷◌, ◌++◌, length, refl, sym, ap, ◌∙◌, arith, Result, Ok, Err, IfOk}
use Rattle.std.proofs.lemmas.List.{length-append, length-map}
use Rattle.std.specs.List.{flat_map}
use Rattle.svr_token.specs.declared.token.Token.{Token}
use Rattle.svr_seq_text.specs.declared.word.Word.{Word}
use Rattle.svr_seq_text.specs.declared.word.Word.TheVariants as w
use Rattle.svr_seq_text.specs.declared.text.SeqText.{SeqText}
use Rattle.svr_seq_text.specs.declared.fault.SeqTextFault.{SeqTextFault}
use Rattle.svr_seq_text.specs.Words.{AreWords}
use Rattle.svr_seq_text.specs.Tree.{ProdTree, SeqTree, prod_text, text_of}
use Rattle.svr_seq_text.specs.Spelled.{rule_words, other_rule, prod_words, start_words, seq_words}
use Rattle.svr_seq_text.specs.Fronts.{IsTextOf}

words-length : (text : List ℕ) (at : ℕ) (ts : List Token) (ws : List Word) → AreWords text at ts ws → length ws ≡ suc (length ts)
words-length text at [] ws h = ap length h
words-length text at (t ∷ ts) [] h = absurd h
words-length text at (t ∷ ts) (x ∷ ws) h = ap suc (words-length text (suc at) ts ws h.1)

-- a front is no longer than the whole
tail-within : (xs ys : List Word) → length ys ≤ length (xs ++ ys)
tail-within xs ys = let e : length (xs ++ ys) ≡ length xs + length ys = length-append xs ys in omega arith

prod-long : (t : ProdTree) (ws : List Word) → suc (length ws) ≤ length (prod_words t ++ ws)
prod-long t ws =
    let rest : List Word = w.Colon ∷ (rule_words t.first ++ (flat_map other_rule t.others ++ w.Semicolon ∷ [])) in
    let e : length ws ≤ length (rest ++ ws) = tail-within rest ws in
    omega arith

prods-long : (ts : List ProdTree) (ws : List Word) → length ts + length ws ≤ length (flat_map prod_words ts ++ ws)
prods-long [] ws = omega arith
prods-long (t ∷ ts) ws =
    let e : length (flat_map prod_words (t ∷ ts) ++ ws) ≡ length (prod_words t ++ flat_map prod_words ts) + length ws = length-append (prod_words t ++ flat_map prod_words ts) ws in
    let f : suc (length (flat_map prod_words ts)) ≤ length (prod_words t ++ flat_map prod_words ts) = prod-long t (flat_map prod_words ts) in
    let g : length ts + length ws ≤ length (flat_map prod_words ts ++ ws) = prods-long ts ws in
    let h : length (flat_map prod_words ts ++ ws) ≡ length (flat_map prod_words ts) + length ws = length-append (flat_map prod_words ts) ws in
    let goal : suc (length ts) + length ws ≤ length (flat_map prod_words (t ∷ ts) ++ ws) = omega arith in
    goal

seq-long : (t : SeqTree) → suc (suc (length t.others)) ≤ length (seq_words t)
seq-long t =
    let end : List Word = w.EndSequence ∷ (w.End ∷ []) in
    let body : List Word = flat_map prod_words t.others ++ end in
    let rest : List Word = w.CloseParen ∷ (prod_words t.first ++ body) in
    let a : length t.others + 2 ≤ length body = prods-long t.others end in
    let b : suc (length body) ≤ length (prod_words t.first ++ body) = prod-long t.first body in
    let c : length rest ≤ length (start_words t.start ++ rest) = tail-within (start_words t.start) rest in
    let d : length rest ≡ suc (length (prod_words t.first ++ body)) = refl in
    let e : length (seq_words t) ≡ suc (suc (length (start_words t.start ++ rest))) = refl in
    omega arith

prods-count : (t : SeqTree) (s : SeqText) → text_of t ≡ s → length s.prods ≡ suc (length t.others)
prods-count t s h = ap (λ z. length z.prods) (sym h) ∙ ap suc (length-map t.others prod_text)

pub few-prods : (text : List ℕ) (tokens : List Token) (r : Result SeqText SeqTextFault) → length tokens < 2 ^ 32
    → IfOk r (λ s. (ws : List Word) × AreWords text 0 tokens ws × IsTextOf ws s) → IfOk r (λ s. length s.prods < 2 ^ 32)
few-prods text tokens (Ok s) few h =
    let a : length h.0 ≡ suc (length tokens) = words-length text 0 tokens h.0 h.1 in
    let b : length h.0 ≡ length (seq_words h.2.0) = ap length h.2.1 in
    let c : suc (suc (length h.2.0.others)) ≤ length (seq_words h.2.0) = seq-long h.2.0 in
    let d : length s.prods ≡ suc (length h.2.0.others) = prods-count h.2.0 s h.2.2 in
    omega (arith, few)
few-prods text tokens (Err x) few h = tt
