-- The script of a text is as long as the text.
use Rattle.std.proofs.Common.{◌≡◌, ℕ, ◌+◌, List, length, map, take, drop, sym, ap, ◌∙◌, length-append}
use Rattle.std.proofs.lemmas.List.{length-map, take-append-drop}
use Rattle.svr_coverage.specs.Script.{blank, blank_before}

pub same_size : (place : ℕ) (text : List ℕ) → length (blank_before place text) ≡ length text
same_size place text =
    length-append (map blank (take place text)) (drop place text)
    ∙ ap (λ (n : ℕ). n + length (drop place text)) (length-map (take place text) blank)
    ∙ sym (length-append (take place text) (drop place text))
    ∙ ap length (take-append-drop place text)
