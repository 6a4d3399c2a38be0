-- A text is tokenized in one way at most.
use Rattle.std.proofs.Common.{◌≡◌, ◌≤◌, ◌<◌, ℕ, zero, suc, ◌+◌, List, [], ◌∷◌, ◌++◌, length, take, drop, true, false, ◌⊎◌, inl, inr, refl, sym, ap, ◌∙◌, subst, arith, append_assoc, append-nil, length-append}
use Rattle.std.proofs.lemmas.List.{take_at, drop_at}
use Rattle.svr_token.specs.Bytes.{is_blank, is_within_line}
use Rattle.svr_token.specs.Spellings.{mark_text, system_text}
use Rattle.svr_token.specs.Tables.{mark_of}
use Rattle.svr_token.specs.Lexemes.{IsLexeme, Literal}
use Rattle.svr_token.specs.Gaps.{BeginsWithGap, IsBlank, IsLineComment, IsBlockComment}
use Rattle.svr_token.specs.Faults.{Fault, bad_byte, open_comment, bad_literal, literal_too_wide, HasFault, IsSound, HasLowestFault, BeginsWithLiteral}
use Rattle.svr_token.specs.Tokens.{BeginsWithLexeme, IsToken, Tokenizes, done, past_gap, past_lexeme, IsTokenized, IsFirstFault}
use Rattle.svr_token.specs.declared.token.Kind.{Kind}
use Rattle.svr_token.specs.declared.token.Kind.TheVariants as k
use Rattle.svr_token.specs.declared.token.Token.{Token}
use Rattle.svr_token.specs.declared.lexeme.Mark.{Mark}
use Rattle.svr_token.specs.declared.lexeme.SystemName.{SystemName}
use Rattle.svr_token.specs.declared.lexeme.SystemName.TheVariants as s
use Rattle.svr_token.proofs.Splitting.{split_one}
use Rattle.svr_token.proofs.Fixed.{starts_literal, mark_listed, system_no_mark}
use Rattle.svr_token.proofs.Exact.{name_no_mark, name_no_system, name_not_literal, mark_not_literal, system_not_literal, literal_starts}
use Rattle.svr_token.proofs.Heads.{head_shape}
use Rattle.svr_lex.proofs.Marks.{mark_sizes}
use Rattle.svr_lex.specs.Lexing.{fault_at, IsLexicalFaultOf}
use Rattle.svr_lex.specs.declared.fault.LexFault.{LexFault}
use Rattle.svr_lex.specs.declared.fault.LexFault.TheVariants as e

-- two fronts of one text that are as long are one
pub same_front : (text front rest other more : List ℕ) → text ≡ front ++ rest → text ≡ other ++ more → length front ≡ length other → (front ≡ other) × (rest ≡ more)
same_front text front rest other more p q same = (
  sym (take_at front rest (length front) refl) ∙ ap (take (length front)) (sym p ∙ q) ∙ take_at other more (length front) (sym same),
  sym (drop_at front rest (length front) refl) ∙ ap (drop (length front)) (sym p ∙ q) ∙ drop_at other more (length front) (sym same),
)

-- LEXEMES

mark_no_system : (bytes : List ℕ) (mark : Mark) (system : SystemName) → bytes ≡ mark_text mark → bytes ≡ system_text system → ⊥
mark_no_system bytes mark system p q =
    let bad = sym (mark_listed mark) ∙ ap mark_of (sym p ∙ q) ∙ system_no_mark system in
    absurd (cc (bad))

kind_one : (bytes : List ℕ) (kind other : Kind) → IsLexeme kind bytes → IsLexeme other bytes → kind ≡ other
kind_one bytes k.Name k.Name p q = refl
kind_one bytes k.Name k.System p (system, q) = absurd (name_no_system bytes system p q)
kind_one bytes k.Name k.Literal p (literal, q) = absurd (name_not_literal bytes literal p q)
kind_one bytes k.Name k.Mark p (mark, q) = absurd (name_no_mark bytes mark p q)
kind_one bytes k.System k.Name (system, p) q = absurd (name_no_system bytes system q p)
kind_one bytes k.System k.System p q = refl
kind_one bytes k.System k.Literal (system, p) (literal, q) = absurd (system_not_literal bytes system literal p q)
kind_one bytes k.System k.Mark (system, p) (mark, q) = absurd (mark_no_system bytes mark system q p)
kind_one bytes k.Literal k.Name (literal, p) q = absurd (name_not_literal bytes literal q p)
kind_one bytes k.Literal k.System (literal, p) (system, q) = absurd (system_not_literal bytes system literal q p)
kind_one bytes k.Literal k.Literal p q = refl
kind_one bytes k.Literal k.Mark (literal, p) (mark, q) = absurd (mark_not_literal bytes mark literal q p)
kind_one bytes k.Mark k.Name (mark, p) q = absurd (name_no_mark bytes mark q p)
kind_one bytes k.Mark k.System (mark, p) (system, q) = absurd (mark_no_system bytes mark system p q)
kind_one bytes k.Mark k.Literal (mark, p) (literal, q) = absurd (mark_not_literal bytes mark literal p q)
kind_one bytes k.Mark k.Mark p q = refl

pub record SameLexeme (kind other : Kind) (bytes piece rest more : List ℕ) : Type 0 where
  pub kinds : kind ≡ other
  pub pieces : bytes ≡ piece
  pub rests : rest ≡ more

lexeme_one : (text bytes rest piece more : List ℕ) (kind other : Kind) → BeginsWithLexeme text kind bytes rest → BeginsWithLexeme text other piece more → SameLexeme kind other bytes piece rest more
lexeme_one text bytes rest piece more kind other p q =
    let one : length piece ≤ length bytes = p.longest other piece more q.is_lexeme q.whole in
    let two : length bytes ≤ length piece = q.longest kind bytes rest p.is_lexeme p.whole in
    let same = same_front text bytes rest piece more p.whole q.whole (omega arith) in
    record { kinds = kind_one bytes kind other p.is_lexeme (subst (IsLexeme other) (sym same.0) q.is_lexeme); pieces = same.0; rests = same.1 }

-- GAPS

prefix_of : (xs ys r s : List ℕ) → xs ++ r ≡ ys ++ s → length xs ≤ length ys → (back : List ℕ) × (ys ≡ xs ++ back)
prefix_of [] ys r s e less = (ys, refl)
prefix_of (x ∷ xs) [] r s e less = absurd (omega arith)
prefix_of (x ∷ xs) (y ∷ ys) r s e less =
    let heads : y ≡ x = cc (e) in
    let tails : xs ++ r ≡ ys ++ s = cc (e) in
    let (back, same) = prefix_of xs ys r s tails (omega arith) in
    (back, cc (heads, same))

blank_slash : (text gap rest other more : List ℕ) (c : ℕ) → IsBlank gap → text ≡ gap ++ rest → text ≡ 47 ∷ (c ∷ other) ++ more → ⊥
blank_slash text gap rest other more c b w e =
    let same : b.byte ≡ 47 = cc (w, b.whole, e) in
    let bad : true ≡ false = sym b.blank ∙ ap is_blank same in
    absurd (cc (bad))

ended : (body tail other left : List ℕ) → body ++ (42 ∷ (47 ∷ tail)) ≡ other ++ (42 ∷ (47 ∷ left))
    → ((front back : List ℕ) → other ++ (42 ∷ (47 ∷ [])) ≡ front ++ (42 ∷ (47 ∷ back)) → back ≡ []) → length body ≤ length other → length body ≡ length other
ended body tail other left e first less =
    let whole : (body ++ (42 ∷ (47 ∷ []))) ++ tail ≡ (other ++ (42 ∷ (47 ∷ []))) ++ left = append_assoc body (42 ∷ (47 ∷ [])) tail ∙ e ∙ sym (append_assoc other (42 ∷ (47 ∷ [])) left) in
    let a : length (body ++ (42 ∷ (47 ∷ []))) ≡ length body + 2 = length-append body (42 ∷ (47 ∷ [])) in
    let b : length (other ++ (42 ∷ (47 ∷ []))) ≡ length other + 2 = length-append other (42 ∷ (47 ∷ [])) in
    let (back, same) = prefix_of (body ++ (42 ∷ (47 ∷ []))) (other ++ (42 ∷ (47 ∷ []))) tail left whole (omega arith) in
    let none : back ≡ [] = first body back (same ∙ append_assoc body (42 ∷ (47 ∷ [])) back) in
    let c : length (other ++ (42 ∷ (47 ∷ []))) ≡ length (body ++ (42 ∷ (47 ∷ []))) = ap length (same ∙ ap (λ t. (body ++ (42 ∷ (47 ∷ []))) ++ t) none ∙ append-nil (body ++ (42 ∷ (47 ∷ [])))) in
    omega arith

gap_lengths : (text gap rest space more : List ℕ) → BeginsWithGap text gap rest → BeginsWithGap text space more → length gap ≡ length space
gap_lengths text gap rest space more p q = go p.kind q.kind
  where
    second : (a b : ℕ) (x y : List ℕ) → text ≡ 47 ∷ (a ∷ x) → text ≡ 47 ∷ (b ∷ y) → a ≡ b
    second a b x y e f = cc (e, f)

    blank_not : (space more : List ℕ) (c : ℕ) (tail gap rest : List ℕ) → text ≡ gap ++ rest → IsBlank gap → text ≡ space ++ more → space ≡ 47 ∷ (c ∷ tail) → ⊥
    blank_not space more c tail gap rest w b v is =
        let same : b.byte ≡ 47 = cc (w, b.whole, v, is) in
        let bad : true ≡ false = sym b.blank ∙ ap is_blank same in
        absurd (cc (bad))

    lines : IsLineComment gap rest → IsLineComment space more → length gap ≡ length space
    lines a b =
        let tails : a.body ++ rest ≡ b.body ++ more = cc (p.whole, a.whole, q.whole, b.whole) in
        let one = split_one is_within_line a.body rest b.body more a.within a.stops b.within b.stops tails in
        ap length (a.whole ∙ ap (λ t. 47 ∷ (47 ∷ t)) one.0 ∙ sym b.whole)

    blocks : IsBlockComment gap → IsBlockComment space → length gap ≡ length space
    blocks a b =
        let raw : (a.body ++ (42 ∷ (47 ∷ []))) ++ rest ≡ (b.body ++ (42 ∷ (47 ∷ []))) ++ more = cc (p.whole, a.whole, q.whole, b.whole) in
        let tails : a.body ++ (42 ∷ (47 ∷ rest)) ≡ b.body ++ (42 ∷ (47 ∷ more)) = sym (append_assoc a.body (42 ∷ (47 ∷ [])) rest) ∙ raw ∙ append_assoc b.body (42 ∷ (47 ∷ [])) more in
        let bodies : length a.body ≡ length b.body = either a b tails (le_or_le (length a.body) (length b.body)) in
        let x : length gap ≡ suc (suc (length a.body + 2)) = ap length a.whole ∙ ap (λ n. suc (suc n)) (length-append a.body (42 ∷ (47 ∷ []))) in
        let y : length space ≡ suc (suc (length b.body + 2)) = ap length b.whole ∙ ap (λ n. suc (suc n)) (length-append b.body (42 ∷ (47 ∷ []))) in
        omega arith
      where
        le_or_le : (m n : ℕ) → (m ≤ n) ⊎ (n ≤ m)
        le_or_le zero n = inl (omega arith)
        le_or_le (suc m) zero = inr (omega arith)
        le_or_le (suc m) (suc n) = elim (le_or_le m n) [ inl h ↦ inl (omega arith) | inr h ↦ inr (omega arith) ]

        either : (a : IsBlockComment gap) (b : IsBlockComment space) → a.body ++ (42 ∷ (47 ∷ rest)) ≡ b.body ++ (42 ∷ (47 ∷ more)) → (length a.body ≤ length b.body) ⊎ (length b.body ≤ length a.body) → length a.body ≡ length b.body
        either a b tails (inl less) = ended a.body rest b.body more tails b.first less
        either a b tails (inr less) = sym (ended b.body more a.body rest (sym tails) a.first less)

    go : IsBlank gap ⊎ IsLineComment gap rest ⊎ IsBlockComment gap → IsBlank space ⊎ IsLineComment space more ⊎ IsBlockComment space → length gap ≡ length space
    go (inl a) (inl b) = ap length a.whole ∙ sym (ap length b.whole)
    go (inl a) (inr (inl b)) = absurd (blank_not space more 47 b.body gap rest p.whole a q.whole b.whole)
    go (inl a) (inr (inr b)) = absurd (blank_not space more 42 (b.body ++ (42 ∷ (47 ∷ []))) gap rest p.whole a q.whole b.whole)
    go (inr (inl a)) (inl b) = absurd (blank_not gap rest 47 a.body space more q.whole b p.whole a.whole)
    go (inr (inl a)) (inr (inl b)) = lines a b
    go (inr (inl a)) (inr (inr b)) =
        let bad : ◌≡◌ {A = ℕ} 47 42 = second 47 42 (a.body ++ rest) ((b.body ++ (42 ∷ (47 ∷ []))) ++ more) (p.whole ∙ ap (λ t. t ++ rest) a.whole) (q.whole ∙ ap (λ t. t ++ more) b.whole) in
        absurd (omega arith)
    go (inr (inr a)) (inl b) = absurd (blank_not gap rest 42 (a.body ++ (42 ∷ (47 ∷ []))) space more q.whole b p.whole a.whole)
    go (inr (inr a)) (inr (inl b)) =
        let bad : ◌≡◌ {A = ℕ} 42 47 = second 42 47 ((a.body ++ (42 ∷ (47 ∷ []))) ++ rest) (b.body ++ more) (p.whole ∙ ap (λ t. t ++ rest) a.whole) (q.whole ∙ ap (λ t. t ++ more) b.whole) in
        absurd (omega arith)
    go (inr (inr a)) (inr (inr b)) = blocks a b

-- a gap has a byte
pub gap_some : (text gap rest : List ℕ) → BeginsWithGap text gap rest → 1 ≤ length gap
gap_some text gap rest g = go g.kind
  where
    go : IsBlank gap ⊎ IsLineComment gap rest ⊎ IsBlockComment gap → 1 ≤ length gap
    go (inl b) = let len : length gap ≡ 1 = ap length b.whole in omega arith
    go (inr (inl c)) = let len : length gap ≡ suc (suc (length c.body)) = ap length c.whole in omega arith
    go (inr (inr c)) = let len : length gap ≡ suc (suc (length (c.body ++ (42 ∷ (47 ∷ []))))) = ap length c.whole in omega arith

gap_one : (text gap rest space more : List ℕ) → BeginsWithGap text gap rest → BeginsWithGap text space more → (gap ≡ space) × (rest ≡ more)
gap_one text gap rest space more p q = same_front text gap rest space more p.whole q.whole (gap_lengths text gap rest space more p q)

-- FAULTS

fault_one : (text : List ℕ) (fault other : Fault) → HasLowestFault fault text → HasLowestFault other text → fault ≡ other
fault_one text bad_byte bad_byte p q = refl
fault_one text bad_byte open_comment p q = absurd (q.lowest bad_byte (omega arith) p.stands)
fault_one text bad_byte bad_literal p q = absurd (q.lowest bad_byte (omega arith) p.stands)
fault_one text bad_byte literal_too_wide p q = absurd (q.lowest bad_byte (omega arith) p.stands)
fault_one text open_comment bad_byte p q = absurd (p.lowest bad_byte (omega arith) q.stands)
fault_one text open_comment open_comment p q = refl
fault_one text open_comment bad_literal p q = absurd (q.lowest open_comment (omega arith) p.stands)
fault_one text open_comment literal_too_wide p q = absurd (q.lowest open_comment (omega arith) p.stands)
fault_one text bad_literal bad_byte p q = absurd (p.lowest bad_byte (omega arith) q.stands)
fault_one text bad_literal open_comment p q = absurd (p.lowest open_comment (omega arith) q.stands)
fault_one text bad_literal bad_literal p q = refl
fault_one text bad_literal literal_too_wide p q = absurd (q.lowest bad_literal (omega arith) p.stands)
fault_one text literal_too_wide bad_byte p q = absurd (p.lowest bad_byte (omega arith) q.stands)
fault_one text literal_too_wide open_comment p q = absurd (p.lowest open_comment (omega arith) q.stands)
fault_one text literal_too_wide bad_literal p q = absurd (p.lowest bad_literal (omega arith) q.stands)
fault_one text literal_too_wide literal_too_wide p q = refl

-- TOKENS

pub tokenizes_then : {at : ℕ} {text : List ℕ} {tokens : List Token} {end : ℕ} {rest : List ℕ} {more : List Token} {last : ℕ} {left : List ℕ}
    → Tokenizes at text tokens end rest → Tokenizes end rest more last left → Tokenizes at text (tokens ++ more) last left
tokenizes_then done q = q
tokenizes_then (past_gap space behind sound begins p) q = past_gap space behind sound begins (tokenizes_then p q)
tokenizes_then (past_lexeme token kind bytes behind sound begins is p) q = past_lexeme token kind bytes behind sound begins is (tokenizes_then p q)

-- a text at which the lexer stops: its end, or a fault
pub data Stop : List ℕ → Type 0 where
  ended_here : Stop []
  fault_here : {text : List ℕ} (fault : Fault) → HasFault fault text → Stop text

stop_no_gap : (text space behind : List ℕ) → Stop text → IsSound text → BeginsWithGap text space behind → ⊥
stop_no_gap text space behind (fault_here fault stands) sound begins = sound fault stands
stop_no_gap text space behind ended_here sound begins =
    let some : 1 ≤ length space = gap_some [] space behind begins in
    let none : length {A = ℕ} [] ≡ length space + length behind = ap length begins.whole ∙ length-append space behind in
    omega arith

system_some : (system : SystemName) → 1 ≤ length (system_text system)
system_some s.Signed = omega arith
system_some s.Unsigned = omega arith

pub lexeme_some : (kind : Kind) (bytes : List ℕ) → IsLexeme kind bytes → 1 ≤ length bytes
lexeme_some kind [] is = absurd (none kind is)
  where
    none : (kind : Kind) → IsLexeme kind [] → ⊥
    none k.Name is = is
    none k.System (system, is) = let bad : ◌≡◌ {A = ℕ} 0 (length (system_text system)) = ap length is in let some : 1 ≤ length (system_text system) = system_some system in omega arith
    none k.Literal (literal, is) = let bad : false ≡ true = literal_starts literal [] is in absurd (cc (bad))
    none k.Mark (mark, is) = let bad : ◌≡◌ {A = ℕ} 0 (length (mark_text mark)) = ap length is in let some : 1 ≤ length (mark_text mark) = (mark_sizes mark).0 in omega arith
lexeme_some kind (b ∷ bs) is = omega arith

stop_no_lexeme : (text bytes behind : List ℕ) (kind : Kind) → Stop text → IsSound text → BeginsWithLexeme text kind bytes behind → ⊥
stop_no_lexeme text bytes behind kind (fault_here fault stands) sound begins = sound fault stands
stop_no_lexeme text bytes behind kind ended_here sound begins =
    let some : 1 ≤ length bytes = lexeme_some kind bytes begins.is_lexeme in
    let none : length {A = ℕ} [] ≡ length bytes + length behind = ap length begins.whole ∙ length-append bytes behind in
    omega arith

abbrev make : Kind → ℕ → ℕ → Token
make kind start stop = record { kind = kind; start = start; stop = stop }

token_one : (token other : Token) (kind sort : Kind) (at size len : ℕ) → IsToken token kind at size → IsToken other sort at len → kind ≡ sort → size ≡ len → token ≡ other
token_one token other kind sort at size len p q k n =
    let kinds : token.kind ≡ other.kind = p.kind ∙ k ∙ sym q.kind in
    let starts : token.start ≡ other.start = p.start ∙ sym q.start in
    let stops : token.stop ≡ other.stop = p.stop ∙ ap (λ x. at + x) n ∙ sym q.stop in
    ap (λ x. make x token.start token.stop) kinds ∙ ap (λ x. make other.kind x token.stop) starts ∙ ap (λ x. make other.kind other.start x) stops

-- two ways from one text to a stop are one
pub record SameEnd (tokens more : List Token) (end last : ℕ) (rest left : List ℕ) : Type 0 where
  pub tokens_same : tokens ≡ more
  pub ends : end ≡ last
  pub rests : rest ≡ left

pub tokenizes_one : {at : ℕ} {text : List ℕ} {tokens : List Token} {end : ℕ} {rest : List ℕ} → Tokenizes at text tokens end rest → Stop rest
    → (start : ℕ) (same : List ℕ) (more : List Token) (last : ℕ) (left : List ℕ) → start ≡ at → same ≡ text → Tokenizes start same more last left → Stop left → SameEnd tokens more end last rest left
tokenizes_one {at} {text} done stop start same more last left e f done stop' = record { tokens_same = refl; ends = sym e; rests = sym f }
tokenizes_one {at} {text} done stop start same more last left e f (past_gap space behind sound begins q) stop' = absurd (stop_no_gap same space behind (subst Stop (sym f) stop) sound begins)
tokenizes_one {at} {text} done stop start same more last left e f (past_lexeme token kind bytes behind sound begins is q) stop' = absurd (stop_no_lexeme same bytes behind kind (subst Stop (sym f) stop) sound begins)
tokenizes_one {at} {text} (past_gap space behind sound begins p) stop start same more last left e f done stop' = absurd (stop_no_gap text space behind (subst Stop f stop') sound begins)
tokenizes_one {at} {text} (past_gap space behind sound begins p) stop start same more last left e f (past_gap other left' sound' begins' q) stop' =
    let one = gap_one text space behind other left' begins (subst (λ t. BeginsWithGap t other left') f begins') in
    tokenizes_one p stop (start + length other) left' more last left (ap (λ n. n + length other) e ∙ ap (λ s. at + length s) (sym one.0)) (sym one.1) q stop'
tokenizes_one {at} {text} (past_gap space behind sound begins p) stop start same more last left e f (past_lexeme token kind bytes left' sound' begins' is q) stop' =
    absurd (begins'.no_gap space behind (subst (λ t. BeginsWithGap t space behind) (sym f) begins))
tokenizes_one {at} {text} (past_lexeme token kind bytes behind sound begins is p) stop start same more last left e f done stop' = absurd (stop_no_lexeme text bytes behind kind (subst Stop f stop') sound begins)
tokenizes_one {at} {text} (past_lexeme token kind bytes behind sound begins is p) stop start same more last left e f (past_gap other left' sound' begins' q) stop' =
    absurd (begins.no_gap other left' (subst (λ t. BeginsWithGap t other left') f begins'))
tokenizes_one {at} {text} (past_lexeme token kind bytes behind sound begins is p) stop start same more last left e f (past_lexeme token' kind' bytes' left' sound' begins' is' q) stop' =
    let one : SameLexeme kind kind' bytes bytes' behind left' = lexeme_one text bytes behind bytes' left' kind kind' begins (subst (λ t. BeginsWithLexeme t kind' bytes' left') f begins') in
    let rest_same = tokenizes_one p stop (start + length bytes') left' _ last left (ap (λ n. n + length bytes') e ∙ ap (λ s. at + length s) (sym one.pieces)) (sym one.rests) q stop' in
    let tokens_equal : token ≡ token' = token_one token token' kind kind' at (length bytes) (length bytes') is (subst (λ n. IsToken token' kind' n (length bytes')) e is') one.kinds (ap length one.pieces) in
    record { tokens_same = cc (tokens_equal, rest_same.tokens_same); ends = rest_same.ends; rests = rest_same.rests }

-- THE ANSWERS

pub tokens_one : (text : List ℕ) (ts us : List Token) → IsTokenized text ts → IsTokenized text us → ts ≡ us
tokens_one text ts us p q = (tokenizes_one p ended_here 0 text us (length text) [] refl refl q ended_here).tokens_same

pub fault_stops : (text : List ℕ) (fault : Fault) → HasLowestFault fault text → Stop text
fault_stops text fault h = fault_here fault h.stands

literal_not_empty : (literal : Literal) (rest : List ℕ) → BeginsWithLiteral [] literal rest → ⊥
literal_not_empty literal rest begins = go begins.bytes (literal_starts literal begins.bytes begins.writes) begins.whole
  where
    go : (bytes : List ℕ) → starts_literal bytes ≡ true → [] ≡ bytes ++ rest → ⊥
    go [] p e = absurd (cc (p))
    go (b ∷ bs) p e = absurd (cc (e))

fault_some : (fault : Fault) → HasFault fault [] → ⊥
fault_some bad_byte h = h
fault_some open_comment h = absurd (cc (h.opens))
fault_some bad_literal (inl lacks) =
    let e = head_shape [] lacks.size lacks.signed lacks.radix lacks.rest lacks.begins in
    no_quote lacks.size _ e
  where
    no_quote : (size tail : List ℕ) → [] ≡ size ++ (39 ∷ tail) → ⊥
    no_quote [] tail e = absurd (cc (e))
    no_quote (b ∷ bs) tail e = absurd (cc (e))
fault_some bad_literal (inr ill) = literal_not_empty ill.literal ill.rest ill.begins
fault_some literal_too_wide wide = literal_not_empty wide.literal wide.rest wide.begins

pub tokens_no_fault : (text : List ℕ) (ts : List Token) (fault : Fault) (place : ℕ) → IsTokenized text ts → IsFirstFault text fault place → ⊥
tokens_no_fault text ts fault place p f =
    let same = tokenizes_one p ended_here 0 text f.tokens place f.rest refl refl f.front (fault_stops f.rest fault f.here) in
    fault_some fault (subst (HasFault fault) (sym same.rests) f.here.stands)

pub faults_one : (text : List ℕ) (fault other : Fault) (place at : ℕ) → IsFirstFault text fault place → IsFirstFault text other at → (fault ≡ other) × (place ≡ at)
faults_one text fault other place at p q =
    let same = tokenizes_one p.front (fault_stops p.rest fault p.here) 0 text q.tokens at q.rest refl refl q.front (fault_stops q.rest other q.here) in
    (fault_one q.rest fault other (subst (HasLowestFault fault) same.rests p.here) q.here, same.ends)

-- THE LOOP

pub start : (text : List ℕ) (items : List Token) → items ≡ [] → Tokenizes 0 text items 0 text
start text items e = subst (λ ts. Tokenizes 0 text ts 0 text) (sym e) done

pub gap_step : (text left space rest : List ℕ) (tokens : List Token) (at : ℕ) → Tokenizes 0 text tokens at left → IsSound left × BeginsWithGap left space rest → Tokenizes 0 text tokens (at + length space) rest
gap_step text left space rest tokens at front (sound, begins) =
    subst (λ ts. Tokenizes 0 text ts (at + length space) rest) (append-nil tokens) (tokenizes_then front (past_gap space rest sound begins done))

pub lexeme_step : (text left bytes rest : List ℕ) (tokens new : List Token) (at : ℕ) (kind : Kind) (token : Token) → Tokenizes 0 text tokens at left → IsSound left × BeginsWithLexeme left kind bytes rest
    → IsToken token kind at (length bytes) → new ≡ tokens ++ (token ∷ []) → Tokenizes 0 text new (at + length bytes) rest
lexeme_step text left bytes rest tokens new at kind token front (sound, begins) is e =
    subst (λ ts. Tokenizes 0 text ts (at + length bytes) rest) (sym e) (tokenizes_then front (past_lexeme token kind bytes rest sound begins is done))

pub gap_place : (text left space rest : List ℕ) (at : ℕ) → at + length left ≡ length text → BeginsWithGap left space rest → (at + length space + length rest ≡ length text) × (length rest < length left) × (at + length space ≤ length text)
gap_place text left space rest at e begins =
    let sum : length left ≡ length space + length rest = ap length begins.whole ∙ length-append space rest in
    let some : 1 ≤ length space = gap_some left space rest begins in
    (omega arith, omega arith, omega arith)

pub lexeme_place : (text left bytes rest : List ℕ) (kind : Kind) (at : ℕ) → at + length left ≡ length text → BeginsWithLexeme left kind bytes rest
    → (at + length bytes + length rest ≡ length text) × (length rest < length left) × (at + length bytes ≤ length text)
lexeme_place text left bytes rest kind at e begins =
    let sum : length left ≡ length bytes + length rest = ap length begins.whole ∙ length-append bytes rest in
    let some : 1 ≤ length bytes = lexeme_some kind bytes begins.is_lexeme in
    (omega arith, omega arith, omega arith)

pub whole_tokens : (text left : List ℕ) (tokens : List Token) (at : ℕ) → Tokenizes 0 text tokens at left → at + length left ≡ length text → left ≡ [] → IsTokenized text tokens
whole_tokens text left tokens at front e none =
    let zero_left : length left ≡ 0 = ap length none in
    let end : at ≡ length text = omega arith in
    subst (λ n. Tokenizes 0 text tokens n []) end (subst (λ t. Tokenizes 0 text tokens at t) none front)

pub first_fault : (text left : List ℕ) (tokens : List Token) (at : ℕ) (fault : Fault) → Tokenizes 0 text tokens at left → HasLowestFault fault left → IsFirstFault text fault at
first_fault text left tokens at fault front here = record { tokens = tokens; rest = left; front = front; here = here }

pub fault_answer : (text : List ℕ) (fault : Fault) (at : ℕ) → IsFirstFault text fault at → IsLexicalFaultOf text (fault_at fault at)
fault_answer text bad_byte at f = f
fault_answer text open_comment at f = f
fault_answer text bad_literal at f = f
fault_answer text literal_too_wide at f = f

pub only_this : (text : List ℕ) (fault other : Fault) (at place : ℕ) (result : LexFault) → result ≡ fault_at fault at → IsFirstFault text fault at → IsFirstFault text other place
    → (result ≡ fault_at other place) ⊎ (result ≡ e.NoMemory)
only_this text fault other at place result is f g =
    let same = faults_one text fault other at place f g in
    inl (is ∙ ap (λ x. fault_at x at) same.0 ∙ ap (λ n. fault_at other n) same.1)
