-- The pieces as the code cuts them off, by their length.
use Rattle.std.proofs.Common.{◌≡◌, ℕ, ◌+◌, ◌-◌, List, [], ◌∷◌, ◌++◌, length, take, drop, sym, ap, ◌∙◌, arith, append_assoc, length-append}
use Rattle.std.proofs.lemmas.List.{take_at, drop_at}
use Rattle.svr_token.specs.Bytes.{is_within_line, is_name_byte, is_name_start, Stops, Splits}
use Rattle.svr_token.specs.Lexemes.{IsLexeme, Literal, HasZeroSize, IsOverWide}
use Rattle.svr_token.specs.Gaps.{BeginsWithGap}
use Rattle.svr_token.specs.Faults.{IsSound, HasLowestFault, bad_byte}
use Rattle.svr_token.specs.Literals.{HasLiteral}
use Rattle.svr_token.specs.Tokens.{BeginsWithLexeme}
use Rattle.svr_token.specs.declared.token.Kind.TheVariants as k
use Rattle.svr_lex.specs.TextFronts.{EndsComment, StartsOther}
use Rattle.svr_lex.proofs.Comments.{line_gap, block_gap}
use Rattle.svr_lex.proofs.Lexemes.{system_front, unknown_front, literal_front}

-- the front of a text whose parts are known
front_cut : (text front rest cut : List ℕ) (n : ℕ) → text ≡ front ++ rest → length front ≡ n → cut ≡ take n text → cut ≡ front
front_cut text front rest cut n e len is = is ∙ ap (take n) e ∙ take_at front rest n len

rest_cut : (text front rest left : List ℕ) (n : ℕ) → text ≡ front ++ rest → length front ≡ n → left ≡ drop n text → left ≡ rest
rest_cut text front rest left n e len is = is ∙ ap (drop n) e ∙ drop_at front rest n len

pub line_at : (text more behind body left gap rest : List ℕ) → text ≡ 47 ∷ more → more ≡ 47 ∷ behind → Splits is_within_line behind body left
    → gap ≡ take (2 + length body) text → rest ≡ drop (2 + length body) text → IsSound text × BeginsWithGap text gap rest
line_at text more behind body left gap rest e f split cut back =
    let whole : text ≡ (47 ∷ (47 ∷ body)) ++ left = e ∙ ap (λ t. 47 ∷ t) (f ∙ ap (λ t. 47 ∷ t) split.whole) in
    let len : length (47 ∷ (47 ∷ body)) ≡ 2 + length body = omega arith in
    line_gap text more behind body left gap rest e f split (front_cut text (47 ∷ (47 ∷ body)) left gap (2 + length body) whole len cut) (rest_cut text (47 ∷ (47 ∷ body)) left rest (2 + length body) whole len back)

pub block_at : (text more behind body left gap rest : List ℕ) → text ≡ 47 ∷ more → more ≡ 42 ∷ behind → EndsComment behind body left
    → gap ≡ take (4 + length body) text → rest ≡ drop (4 + length body) text → IsSound text × BeginsWithGap text gap rest
block_at text more behind body left gap rest e f ends cut back =
    let tail : behind ≡ (body ++ (42 ∷ (47 ∷ []))) ++ left = ends.whole ∙ sym (append_assoc body (42 ∷ (47 ∷ [])) left) in
    let whole : text ≡ (47 ∷ (42 ∷ (body ++ (42 ∷ (47 ∷ []))))) ++ left = e ∙ ap (λ t. 47 ∷ t) (f ∙ ap (λ t. 42 ∷ t) tail) in
    let inner : length (body ++ (42 ∷ (47 ∷ []))) ≡ length body + 2 = length-append body (42 ∷ (47 ∷ [])) in
    let len : length (47 ∷ (42 ∷ (body ++ (42 ∷ (47 ∷ []))))) ≡ 4 + length body = omega arith in
    block_gap text more behind body left gap rest e f ends (front_cut text (47 ∷ (42 ∷ (body ++ (42 ∷ (47 ∷ []))))) left gap (4 + length body) whole len cut)
    (rest_cut text (47 ∷ (42 ∷ (body ++ (42 ∷ (47 ∷ []))))) left rest (4 + length body) whole len back)

dollar_whole : (text more name left : List ℕ) → text ≡ 36 ∷ more → Splits is_name_byte more name left → text ≡ (36 ∷ name) ++ left
dollar_whole text more name left e split = e ∙ ap (λ t. 36 ∷ t) split.whole

dollar_len : (name : List ℕ) → length (36 ∷ name) ≡ 1 + length name
dollar_len name = omega arith

pub system_at : (text more name left lexeme rest : List ℕ) → text ≡ 36 ∷ more → Splits is_name_byte more name left → lexeme ≡ take (1 + length name) text → rest ≡ drop (1 + length name) text
    → IsLexeme k.System lexeme → IsSound text × BeginsWithLexeme text k.System lexeme rest
system_at text more name left lexeme rest e split cut back is =
    let whole = dollar_whole text more name left e split in
    system_front text more name left lexeme rest e split (front_cut text (36 ∷ name) left lexeme (1 + length name) whole (dollar_len name) cut)
    (rest_cut text (36 ∷ name) left rest (1 + length name) whole (dollar_len name) back) is

pub unknown_at : (text more name left lexeme : List ℕ) → text ≡ 36 ∷ more → Splits is_name_byte more name left → (Stops is_name_start more → ⊥) → lexeme ≡ take (1 + length name) text
    → (IsLexeme k.System lexeme → ⊥) → HasLowestFault bad_byte text
unknown_at text more name left lexeme e split starts cut none =
    unknown_front text more name left lexeme e split starts (front_cut text (36 ∷ name) left lexeme (1 + length name) (dollar_whole text more name left e split) (dollar_len name) cut) none

pub literal_at : (text rest lexeme left : List ℕ) (l : Literal) → StartsOther text → HasLiteral text l rest → Stops is_name_byte rest → (HasZeroSize l → ⊥) × (IsOverWide l → ⊥)
    → lexeme ≡ take (length text - length rest) text → left ≡ drop (length text - length rest) text → IsSound text × BeginsWithLexeme text k.Literal lexeme left
literal_at text rest lexeme left l o h stops lawful cut back =
    let sum : length text ≡ length h.begins.bytes + length rest = ap length h.begins.whole ∙ length-append h.begins.bytes rest in
    let len : length text - length rest + length rest ≡ length text = omega arith in
    literal_front text rest lexeme left l (length text - length rest) o h stops lawful.0 lawful.1 len cut back
