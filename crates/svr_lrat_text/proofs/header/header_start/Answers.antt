use Rattle.std.proofs.Common.{◌≡◌, ℕ, ◌+◌, ◌≤◌, true, false, List, ◌∷◌, length, drop, get_or, sym, ap, ◌∙◌, arith}
use Rattle.std.proofs.lemmas.List.{drop_more, drop_all}
use Rattle.svr_lrat_text.specs.Words.{tokens, tokens_in, after_byte, is_header}
use Rattle.svr_lrat_text.proofs.Tokens.{in_more, in_found, in_end}
use Rattle.svr_lrat_text.proofs.header.header_start.Goals as goal

pub returns-then-is_header-clause-start : goal.returns-then-is_header-clause-start
returns-then-is_header-clause-start c =
    let text : List ℕ = c.args.text.now in
    let i : ℕ = c.loop-i.i in
    let b : ℕ = get_or text i 0 in
    let more : drop i text ≡ b ∷ drop (i + 1) text = drop_more text i 0 c.loop-i-test.true in
    let found : is_header (after_byte c.loop-i.part b) ≡ true = ap is_header (sym c.after-part.ensures) ∙ sym c.is_header.ensures ∙ c.if-is_header.true in
    c.loop-i.invariant ∙ ap (tokens_in c.loop-i.part i) more ∙ in_found c.loop-i.part i b (drop (i + 1) text) found ∙ ap (tokens true i) (sym more)

pub loop-i-preserved : goal.loop-i-preserved
loop-i-preserved c =
    let text : List ℕ = c.args.text.now in
    let i : ℕ = c.loop-i.i in
    let b : ℕ = get_or text i 0 in
    let more : drop i text ≡ b ∷ drop (i + 1) text = drop_more text i 0 c.loop-i-test.true in
    let found : is_header (after_byte c.loop-i.part b) ≡ false = ap is_header (sym c.after-part.ensures) ∙ sym c.is_header.ensures ∙ c.if-is_header.false in
    c.loop-i.invariant ∙ ap (tokens_in c.loop-i.part i) more ∙ in_more c.loop-i.part i b (drop (i + 1) text) found ∙ ap (λ p. tokens_in p (i + 1) (drop (i + 1) text)) (sym c.after-part.ensures)

pub returns-clause-start : goal.returns-clause-start
returns-clause-start c =
    let text : List ℕ = c.args.text.now in
    let i : ℕ = c.loop-i.i in
    let past : length text ≤ i = c.loop-i-test.false in
    let same : i ≡ length text = omega (arith, past, c.loop-i.auto.i-end) in
    c.loop-i.invariant ∙ ap (tokens_in c.loop-i.part i) (drop_all i text past) ∙ in_end c.loop-i.part i ∙ ap (tokens true i) (sym (drop_all i text past)) ∙ ap (λ n. tokens true n (drop n text)) same
