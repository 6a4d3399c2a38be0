-- The longest lexeme that a text begins with, or a fault.
use Rattle.std.proofs.Common.{◌≡◌, ◌≢◌, ◌≤◌, ◌<◌, ℕ, suc, ◌+◌, List, [], ◌∷◌, ◌++◌, length, Bool, true, false, ◌==◌, ◌⊎◌, inl, inr, refl, sym, ap, ◌∙◌, subst, arith, codes, append-nil, length-append, take, drop}
use Rattle.std.proofs.lemmas.Bool.Decides.{nat_tests}
use Rattle.std.proofs.lemmas.List.{take_at, drop_at}
use Rattle.std.specs.List.{list_all}
use Rattle.std.specs.Char.{is_digit}
use Rattle.svr_token.specs.Bytes.{is_blank, is_name_start, is_name_byte, Stops, Splits}
use Rattle.svr_token.specs.Spellings.{mark_text, system_text}
use Rattle.svr_token.specs.Lexemes.{IsName, IsLexeme, Literal, decimal, Writes, HasZeroSize, IsOverWide}
use Rattle.svr_token.specs.Gaps.{BeginsWithGap, IsBlank, IsLineComment, IsBlockComment}
use Rattle.svr_token.specs.Faults.{BeginsWithLiteral, BeginsNothing, BeginsUnknownSystemName, IsBadByte, IsOpenComment, LacksDigit, IsBadLiteral, IsTooWide, Fault, bad_byte, open_comment, bad_literal, literal_too_wide, number_of_fault, HasFault, IsSound, HasLowestFault}
use Rattle.svr_token.specs.Literals.{HasLiteral, HasNoLiteral}
use Rattle.svr_token.specs.Tokens.{BeginsWithLexeme}
use Rattle.svr_token.specs.declared.token.Kind.{Kind}
use Rattle.svr_token.specs.declared.token.Kind.TheVariants as k
use Rattle.svr_token.specs.declared.lexeme.Mark.{Mark}
use Rattle.svr_token.specs.declared.lexeme.Mark.TheVariants as m
use Rattle.svr_token.specs.declared.lexeme.SystemName.{SystemName}
use Rattle.svr_token.specs.declared.lexeme.SystemName.TheVariants as s
use Rattle.svr_token.proofs.Splitting.{split_one, split_most, and_right}
use Rattle.svr_token.proofs.Fixed.{starts_literal}
use Rattle.svr_token.proofs.Exact.{literal_one, literal_starts}
use Rattle.svr_lex.specs.TextFronts.{StartsOther, MarkOrNothing, BeginsWithMark}
use Rattle.svr_lex.proofs.Marks.{mark_sizes, mark_not_digit, mark_not_start, quote_mark_short, dollar_mark_short, first_byte_mark}
use Rattle.svr_lex.proofs.Firsts.{may_start_literal, literal_byte, no_literal_at, unknown_byte, comment_byte, gap_byte, name_byte, system_byte, sound_from, no_bad_byte, sound_without_literal, or_cases, quote_is, may_start_begins, head_byte}

-- NAMES

start_apart : (b : ℕ) → is_name_start b ≡ true → (may_start_literal b ≡ false) × (b ≡ 36 → ⊥) × (b ≡ 47 → ⊥) × (is_blank b ≡ false)
start_apart b p = (grind (arith, nat_tests), (λ e. grind (arith, nat_tests)), (λ e. grind (arith, nat_tests)), grind (arith, nat_tests))

start_is_name_byte : (b : ℕ) → is_name_start b ≡ true → is_name_byte b ≡ true
start_is_name_byte b p = rw p refl

name_passes : (bytes : List ℕ) → IsName bytes → list_all is_name_byte bytes ≡ true
name_passes [] name = absurd name
name_passes (b ∷ bs) name = rw (start_is_name_byte b name.0, name.1) refl

-- the whole front of name bytes is a name
split_is_name : (text more front rest : List ℕ) (b : ℕ) → text ≡ b ∷ more → is_name_start b ≡ true → Splits is_name_byte text front rest → IsName front
split_is_name text more [] [] b e p split = absurd (cc (e, split.whole))
split_is_name text more [] (c ∷ cs) b e p split =
    let same : c ≡ b = cc (e, split.whole) in
    let bad : true ≡ false = sym (start_is_name_byte b p) ∙ ap is_name_byte (sym same) ∙ split.stops in
    absurd (cc (bad))
split_is_name text more (c ∷ cs) rest b e p split =
    let same : c ≡ b = cc (e, split.whole) in
    (subst (λ x. is_name_start x ≡ true) (sym same) p, and_right _ _ split.passes)

pub name_front : (text more front rest : List ℕ) (b : ℕ) → text ≡ b ∷ more → is_name_start b ≡ true → Splits is_name_byte text front rest → IsSound text × BeginsWithLexeme text k.Name front rest
name_front text more front rest b e p split = (sound, record { whole = split.whole; is_lexeme = name; no_gap = no_gap; longest = longest })
  where
    name : IsName front
    name = split_is_name text more front rest b e p split

    nothing_not : (front : List ℕ) → IsName front → text ≡ front ++ rest → BeginsNothing b → ⊥
    nothing_not [] name w n = name
    nothing_not (c ∷ cs) name w n = let same : c ≡ b = cc (e, w) in n.no_lexeme k.Name cs (subst (λ x. IsName (x ∷ cs)) same name)

    sound : IsSound text
    sound = sound_without_literal text more b e (nothing_not front name split.whole) (λ u. (start_apart b p).1 (unknown_byte text more b e u))
        (λ o. (start_apart b p).2 (comment_byte text more b e o)) (no_literal_at text more b e (start_apart b p).0)

    no_gap : (gap behind : List ℕ) → BeginsWithGap text gap behind → ⊥
    no_gap gap behind g = elim (gap_byte text more gap behind b e g) [ inl q ↦ (let bad : true ≡ false = sym q ∙ (start_apart b p).3 in absurd (cc (bad))) | inr q ↦ (start_apart b p).2 q ]

    longest : (other : Kind) (piece more' : List ℕ) → IsLexeme other piece → text ≡ piece ++ more' → length piece ≤ length front
    longest k.Name piece more' is w = split_most is_name_byte front rest piece more' split.stops (name_passes piece is) (sym split.whole ∙ w)
    longest k.System piece more' (system, is) w = absurd ((start_apart b p).1 (system_byte text more' more b system e (w ∙ ap (λ t. t ++ more') is)))
    longest k.Literal piece more' (literal, is) w =
        let bad : true ≡ false = sym (literal_byte text piece more' more b literal e is w) ∙ (start_apart b p).0 in
        absurd (cc (bad))
    longest k.Mark piece more' (mark, is) w = absurd (mark_not_start text more' more b mark e (w ∙ ap (λ t. t ++ more') is) p)

-- SYSTEM NAMES

system_passes : (system : SystemName) (name : List ℕ) → 36 ∷ name ≡ system_text system → list_all is_name_byte name ≡ true
system_passes s.Signed name e = let same : name ≡ codes "signed" = cc (e) in subst (λ x. list_all is_name_byte x ≡ true) (sym same) refl
system_passes s.Unsigned name e = let same : name ≡ codes "unsigned" = cc (e) in subst (λ x. list_all is_name_byte x ≡ true) (sym same) refl

system_tail : (system : SystemName) → (name : List ℕ) × (36 ∷ name ≡ system_text system)
system_tail s.Signed = (codes "signed", refl)
system_tail s.Unsigned = (codes "unsigned", refl)

dollar_begins : BeginsNothing 36 → ⊥
dollar_begins n = n.no_lexeme k.Mark [] (m.Dollar, refl)

pub dollar_no_gap : (text more gap rest : List ℕ) → text ≡ 36 ∷ more → BeginsWithGap text gap rest → ⊥
dollar_no_gap text more gap rest e g =
    elim (gap_byte text more gap rest 36 e g) [ inl q ↦ absurd (cc (q)) | inr q ↦ absurd (omega arith) ]

dollar_no_comment : (text more : List ℕ) → text ≡ 36 ∷ more → IsOpenComment text → ⊥
dollar_no_comment text more e o = let bad : ◌≡◌ {A = ℕ} 36 47 = comment_byte text more 36 e o in absurd (omega arith)

-- `$` and the name behind it, where they are a system name
pub system_front : (text more name left lexeme rest : List ℕ) → text ≡ 36 ∷ more → Splits is_name_byte more name left → lexeme ≡ 36 ∷ name → rest ≡ left
    → IsLexeme k.System lexeme → IsSound text × BeginsWithLexeme text k.System lexeme rest
system_front text more name left lexeme rest e split cut r (system, is) = (
  sound_without_literal text more 36 e dollar_begins known (dollar_no_comment text more e) (no_literal_at text more 36 e refl),
  record { whole = whole; is_lexeme = (system, is); no_gap = λ gap behind g. dollar_no_gap text more gap behind e g; longest = longest },
)
  where
    whole : text ≡ lexeme ++ rest
    whole = e ∙ ap (λ t. 36 ∷ t) split.whole ∙ rw (cut, r) refl

    known : BeginsUnknownSystemName text → ⊥
    known u =
        let tails : u.name ++ u.rest ≡ name ++ left = cc (u.whole, e, split.whole) in
        let one = split_one is_name_byte u.name u.rest name left (name_passes u.name u.is_name) u.stops split.passes split.stops tails in
        u.unknown system (ap (λ t. 36 ∷ t) one.0 ∙ sym cut ∙ is)

    longest : (other : Kind) (piece more' : List ℕ) → IsLexeme other piece → text ≡ piece ++ more' → length piece ≤ length lexeme
    longest k.Name piece more' name' w = let bad : false ≡ true = name_byte text piece more' more 36 e name' w in absurd (cc (bad))
    longest k.System piece more' (other, is') w =
        let (tail, f) = system_tail other in
        let tails : name ++ left ≡ tail ++ more' = cc (e, split.whole, w, is', f) in
        let most : length tail ≤ length name = split_most is_name_byte name left tail more' split.stops (system_passes other tail f) tails in
        let a : length piece ≡ suc (length tail) = ap length is' ∙ ap length (sym f) in
        let b : length lexeme ≡ suc (length name) = ap length cut in
        omega arith
    longest k.Literal piece more' (literal, is') w = let bad : false ≡ true = literal_byte text piece more' more 36 literal e is' w in absurd (cc (bad))
    longest k.Mark piece more' (mark, is') w =
        let small : length (mark_text mark) ≤ 1 = dollar_mark_short text more' more mark e (w ∙ ap (λ t. t ++ more') is') in
        let a : length piece ≡ length (mark_text mark) = ap length is' in
        let b : length lexeme ≡ suc (length name) = ap length cut in
        omega arith

-- `$` and the name behind it, where they are none
pub unknown_front : (text more name left lexeme : List ℕ) → text ≡ 36 ∷ more → Splits is_name_byte more name left → (Stops is_name_start more → ⊥) → lexeme ≡ 36 ∷ name
    → (IsLexeme k.System lexeme → ⊥) → HasLowestFault bad_byte text
unknown_front text more name left lexeme e split starts cut none = record {
  stands = bad_from text e (record { name = name; rest = left; whole = e ∙ ap (λ t. 36 ∷ t) split.whole; is_name = named name left split more refl starts; stops = split.stops; unknown = λ system is. none (system, cut ∙ is) });
  lowest = lower;
}
  where
    named : (name left : List ℕ) → Splits is_name_byte more name left → (xs : List ℕ) → xs ≡ more → (Stops is_name_start xs → ⊥) → IsName name
    named name left split [] same starts = absurd (starts tt)
    named name left split (b ∷ bs) same starts = split_is_name more bs name left b (sym same) (not_false (is_name_start b) starts) split
      where
        not_false : (v : Bool) → (v ≡ false → ⊥) → v ≡ true
        not_false true h = refl
        not_false false h = absurd (h refl)

    bad_from : (text : List ℕ) → text ≡ 36 ∷ more → BeginsUnknownSystemName text → IsBadByte text
    bad_from [] e u = absurd (cc (e))
    bad_from (b ∷ bs) e u = inr u

    lower : (other : Fault) → number_of_fault other < 1 → HasFault other text → ⊥
    lower bad_byte less h = absurd (omega arith)
    lower open_comment less h = absurd (omega arith)
    lower bad_literal less h = absurd (omega arith)
    lower literal_too_wide less h = absurd (omega arith)

-- MARKS

pub mark_found : (text mark rest : List ℕ) → MarkOrNothing text → BeginsWithMark text mark rest → IsSound text × BeginsWithLexeme text k.Mark mark rest
mark_found text mark rest only begins = (
  sound_without_literal text only.more only.byte only.begins (nothing_not mark begins.is_mark begins.whole) only.no_unknown only.no_comment only.no_literal,
  record { whole = begins.whole; is_lexeme = begins.is_mark; no_gap = only.no_gap; longest = longest },
)
  where
    nothing_not : (mark : List ℕ) → IsLexeme k.Mark mark → text ≡ mark ++ rest → BeginsNothing only.byte → ⊥
    nothing_not [] (other, is) w n = let some = (mark_sizes other).0 in let none : length (mark_text other) ≡ 0 = ap length (sym is) in absurd (omega arith)
    nothing_not (c ∷ cs) is w n = let same : c ≡ only.byte = cc (only.begins, w) in n.no_lexeme k.Mark cs (subst (λ x. IsLexeme k.Mark (x ∷ cs)) same is)

    longest : (other : Kind) (piece more : List ℕ) → IsLexeme other piece → text ≡ piece ++ more → length piece ≤ length mark
    longest k.Name piece more is w = absurd (only.no_name piece more is w)
    longest k.System piece more (system, is) w = absurd (only.no_system system more (w ∙ ap (λ t. t ++ more) is))
    longest k.Literal piece more (literal, is) w = absurd (only.no_literal.none literal piece more is w)
    longest k.Mark piece more (other, is) w = subst (λ t. length t ≤ length mark) (sym is) (begins.longest other more (w ∙ ap (λ t. t ++ more) is))

-- a byte that begins no mark begins nothing
pub nothing_found : (text : List ℕ) → MarkOrNothing text → ((mark : Mark) (rest : List ℕ) → text ≢ mark_text mark ++ rest) → HasLowestFault bad_byte text
nothing_found text only none = record { stands = bad_from text only.begins; lowest = lower }
  where
    b : ℕ
    b = only.byte

    no_mark : (bs : List ℕ) (mark : Mark) → only.byte ∷ bs ≡ mark_text mark → ⊥
    no_mark bs mark is = let (other, one) = first_byte_mark only.byte bs mark is in none other only.more (only.begins ∙ ap (λ t. t ++ only.more) one)

    no_lexeme : (kind : Kind) (bytes : List ℕ) → IsLexeme kind (only.byte ∷ bytes) → ⊥
    no_lexeme k.Name bytes is = only.no_name (only.byte ∷ []) only.more (is.0, refl) only.begins
    no_lexeme k.System bytes (system, is) =
        let (tail, f) = system_tail system in
        let dollar : only.byte ≡ 36 = cc (is, f) in
        no_mark [] m.Dollar (ap (λ x. x ∷ []) dollar)
    no_lexeme k.Literal bytes (literal, is) = begins_none (literal_byte (only.byte ∷ bytes) (only.byte ∷ bytes) [] bytes only.byte literal refl is (sym (append-nil (only.byte ∷ bytes))))
      where
        begins_none : may_start_literal only.byte ≡ true → ⊥
        begins_none p = elim (or_cases (is_digit only.byte 10) (only.byte == 39) p) [
          | inl digit ↦ only.no_literal.none (decimal (only.byte ∷ [])) (only.byte ∷ []) only.more ((digit, refl), refl) only.begins
          | inr quote ↦ no_mark [] m.Apostrophe (ap (λ x. x ∷ []) (quote_is only.byte quote))
        ]
    no_lexeme k.Mark bytes (mark, is) = no_mark bytes mark is

    bad_from : (xs : List ℕ) → xs ≡ only.byte ∷ only.more → IsBadByte xs
    bad_from [] e = absurd (cc (e))
    bad_from (c ∷ cs) e = inl (subst BeginsNothing (same e) (record { no_blank = only.no_blank; no_lexeme = no_lexeme }))
      where
        same : c ∷ cs ≡ only.byte ∷ only.more → only.byte ≡ c
        same e = cc (e)

    lower : (other : Fault) → number_of_fault other < 1 → HasFault other text → ⊥
    lower bad_byte less h = absurd (omega arith)
    lower open_comment less h = absurd (omega arith)
    lower bad_literal less h = absurd (omega arith)
    lower literal_too_wide less h = absurd (omega arith)

-- LITERALS

-- the longest literal of a text is one
pub literal_front_one : (text rest other : List ℕ) (l n : Literal) → BeginsWithLiteral text l rest → BeginsWithLiteral text n other → (l ≡ n) × (rest ≡ other)
literal_front_one text rest other l n p q =
    let one : length q.bytes ≤ length p.bytes = p.longest n q.bytes other q.writes q.whole in
    let two : length p.bytes ≤ length q.bytes = q.longest l p.bytes rest p.writes p.whole in
    let same : length p.bytes ≡ length q.bytes = omega arith in
    let left : p.bytes ≡ q.bytes = sym (take_at p.bytes rest (length p.bytes) refl) ∙ ap (take (length p.bytes)) (sym p.whole ∙ q.whole) ∙ take_at q.bytes other (length p.bytes) (sym same) in
    let right : rest ≡ other = sym (drop_at p.bytes rest (length p.bytes) refl) ∙ ap (drop (length p.bytes)) (sym p.whole ∙ q.whole) ∙ drop_at q.bytes other (length p.bytes) (sym same) in
    (literal_one q.bytes l n (subst (Writes l) left p.writes) q.writes, right)

other_no_gap : (text gap rest : List ℕ) → (o : StartsOther text) → BeginsWithGap text gap rest → ⊥
other_no_gap text gap rest o g = elim (gap_byte text o.more gap rest o.byte o.whole g) [ inl q ↦ (let bad : true ≡ false = sym q ∙ o.no_blank in absurd (cc (bad))) | inr q ↦ o.no_slash q ]

other_no_comment : (text : List ℕ) → StartsOther text → IsOpenComment text → ⊥
other_no_comment text o c = o.no_slash (comment_byte text o.more o.byte o.whole c)

other_no_unknown : (text : List ℕ) → StartsOther text → BeginsUnknownSystemName text → ⊥
other_no_unknown text o u = o.no_dollar (unknown_byte text o.more o.byte o.whole u)

pub other_only : (text : List ℕ) → StartsOther text → HasNoLiteral text → MarkOrNothing text
other_only text o none = record {
  byte = o.byte;
  more = o.more;
  begins = o.whole;
  no_blank = o.no_blank;
  no_gap = λ gap rest g. other_no_gap text gap rest o g;
  no_comment = other_no_comment text o;
  no_name = λ bytes rest name w. let bad : true ≡ false = sym (name_byte text bytes rest o.more o.byte o.whole name w) ∙ o.no_name in absurd (cc (bad));
  no_system = λ system rest w. o.no_dollar (system_byte text rest o.more o.byte system o.whole w);
  no_unknown = other_no_unknown text o;
  no_literal = none;
}

-- no fault of the numbers 1 and 2 where a literal or its head begins
literal_no_byte : (text : List ℕ) → (o : StartsOther text) → may_start_literal o.byte ≡ true → IsBadByte text → ⊥
literal_no_byte text o p = no_bad_byte text o.more o.byte o.whole (may_start_begins o.byte p) (other_no_unknown text o)

bad_literal_lowest : (text : List ℕ) → (o : StartsOther text) → may_start_literal o.byte ≡ true → IsBadLiteral text → HasLowestFault bad_literal text
bad_literal_lowest text o p bad = record { stands = bad; lowest = lower }
  where
    lower : (other : Fault) → number_of_fault other < 3 → HasFault other text → ⊥
    lower bad_byte less h = literal_no_byte text o p h
    lower open_comment less h = other_no_comment text o h
    lower bad_literal less h = absurd (omega arith)
    lower literal_too_wide less h = absurd (omega arith)

pub lacking : (text : List ℕ) → StartsOther text → LacksDigit text → HasLowestFault bad_literal text
lacking text o lacks = bad_literal_lowest text o (head_byte text lacks.size lacks.rest o.more o.byte lacks.signed lacks.radix o.whole lacks.begins) (inl lacks)

literal_may_start : (text rest : List ℕ) (l : Literal) → (o : StartsOther text) → HasLiteral text l rest → may_start_literal o.byte ≡ true
literal_may_start text rest l o h = literal_byte text h.begins.bytes rest o.more o.byte l o.whole h.begins.writes h.begins.whole

pub running_on : (text rest : List ℕ) (l : Literal) → StartsOther text → HasLiteral text l rest → (Stops is_name_byte rest → ⊥) → HasLowestFault bad_literal text
running_on text rest l o h on = bad_literal_lowest text o (literal_may_start text rest l o h) (inr (record { literal = l; rest = rest; begins = h.begins; ill = inr on }))

pub zero_sized : (text rest : List ℕ) (l : Literal) → StartsOther text → HasLiteral text l rest → HasZeroSize l → HasLowestFault bad_literal text
zero_sized text rest l o h zero_size = bad_literal_lowest text o (literal_may_start text rest l o h) (inr (record { literal = l; rest = rest; begins = h.begins; ill = inl zero_size }))

-- a well formed literal is no bad one
well_formed : (text rest : List ℕ) (l : Literal) → HasLiteral text l rest → Stops is_name_byte rest → (HasZeroSize l → ⊥) → IsBadLiteral text → ⊥
well_formed text rest l h stops some (inl lacks) = h.digits lacks
well_formed text rest l h stops some (inr ill) =
    let one = literal_front_one text rest ill.rest l ill.literal h.begins ill.begins in
    elim ill.ill [ inl zero_size ↦ some (subst HasZeroSize (sym one.0) zero_size) | inr on ↦ on (subst (Stops is_name_byte) one.1 stops) ]

pub wide_at : (text rest : List ℕ) (l : Literal) → StartsOther text → HasLiteral text l rest → Stops is_name_byte rest → (HasZeroSize l → ⊥) → IsOverWide l → HasLowestFault literal_too_wide text
wide_at text rest l o h stops some wide = record { stands = record { literal = l; rest = rest; begins = h.begins; wide = wide }; lowest = lower }
  where
    lower : (other : Fault) → number_of_fault other < 4 → HasFault other text → ⊥
    lower bad_byte less f = literal_no_byte text o (literal_may_start text rest l o h) f
    lower open_comment less f = other_no_comment text o f
    lower bad_literal less f = well_formed text rest l h stops some f
    lower literal_too_wide less f = absurd (omega arith)

-- a literal that begins with a quote has two bytes or more
quote_long : (bytes rest more text : List ℕ) (l : Literal) → text ≡ 39 ∷ more → text ≡ bytes ++ rest → Writes l bytes → 2 ≤ length bytes
quote_long [] rest more text l e w is = let bad : false ≡ true = literal_starts l [] is in absurd (cc (bad))
quote_long (c ∷ []) rest more text l e w is =
    let same : c ≡ 39 = cc (e, w) in
    let bad : false ≡ true = subst (λ x. starts_literal (x ∷ []) ≡ true) same (literal_starts l (c ∷ []) is) in
    absurd (cc (bad))
quote_long (c ∷ d ∷ ds) rest more text l e w is = omega arith

pub literal_front : (text rest lexeme left : List ℕ) (l : Literal) (n : ℕ) → StartsOther text → HasLiteral text l rest → Stops is_name_byte rest → (HasZeroSize l → ⊥) → (IsOverWide l → ⊥)
    → n + length rest ≡ length text → lexeme ≡ take n text → left ≡ drop n text → IsSound text × BeginsWithLexeme text k.Literal lexeme left
literal_front text rest lexeme left l n o h stops some narrow len cut back = (sound, record { whole = whole; is_lexeme = (l, subst (Writes l) (sym is) h.begins.writes); no_gap = λ gap behind g. other_no_gap text gap behind o g; longest = longest })
  where
    bytes : List ℕ
    bytes = h.begins.bytes

    size : length h.begins.bytes ≡ n
    size = let sum : length text ≡ length h.begins.bytes + length rest = ap length h.begins.whole ∙ length-append h.begins.bytes rest in omega arith

    is : lexeme ≡ h.begins.bytes
    is = cut ∙ ap (take n) h.begins.whole ∙ take_at h.begins.bytes rest n size

    right : left ≡ rest
    right = back ∙ ap (drop n) h.begins.whole ∙ drop_at h.begins.bytes rest n size

    whole : text ≡ lexeme ++ left
    whole = h.begins.whole ∙ rw (is, right) refl

    too_wide : IsTooWide text → ⊥
    too_wide t = let one = literal_front_one text rest t.rest l t.literal h.begins t.begins in narrow (subst IsOverWide (sym one.0) t.wide)

    sound : IsSound text
    sound = sound_from text (literal_no_byte text o (literal_may_start text rest l o h)) (other_no_comment text o) (well_formed text rest l h stops some) too_wide

    mark_short : (mark : Mark) (more : List ℕ) → text ≡ mark_text mark ++ more → (is_digit o.byte 10 ≡ true) ⊎ ((o.byte == 39) ≡ true) → length (mark_text mark) ≤ length h.begins.bytes
    mark_short mark more w (inl digit) = absurd (mark_not_digit text more o.more o.byte mark o.whole w digit)
    mark_short mark more w (inr quote) =
        let e : text ≡ 39 ∷ o.more = o.whole ∙ ap (λ x. x ∷ o.more) (quote_is o.byte quote) in
        let short : length (mark_text mark) ≤ 2 = quote_mark_short text more o.more mark e w in
        let long : 2 ≤ length h.begins.bytes = quote_long h.begins.bytes rest o.more text l e h.begins.whole h.begins.writes in
        omega arith

    longest' : (other : Kind) (piece more : List ℕ) → IsLexeme other piece → text ≡ piece ++ more → length piece ≤ length h.begins.bytes
    longest' k.Name piece more name w = let bad : true ≡ false = sym (name_byte text piece more o.more o.byte o.whole name w) ∙ o.no_name in absurd (cc (bad))
    longest' k.System piece more (system, is') w = absurd (o.no_dollar (system_byte text more o.more o.byte system o.whole (w ∙ ap (λ t. t ++ more) is')))
    longest' k.Literal piece more (other, is') w = h.begins.longest other piece more is' w
    longest' k.Mark piece more (mark, is') w =
        subst (λ t. length t ≤ length h.begins.bytes) (sym is') (mark_short mark more (w ∙ ap (λ t. t ++ more) is') (or_cases (is_digit o.byte 10) (o.byte == 39) (literal_may_start text rest l o h)))

    longest : (other : Kind) (piece more : List ℕ) → IsLexeme other piece → text ≡ piece ++ more → length piece ≤ length lexeme
    longest other piece more is' w = subst (λ t. length piece ≤ length t) (sym is) (longest' other piece more is' w)

-- SLASH AND DOLLAR ALONE

pub slash_only : (text more : List ℕ) → text ≡ 47 ∷ more → ((rest : List ℕ) → more ≢ 47 ∷ rest) → ((rest : List ℕ) → more ≢ 42 ∷ rest) → MarkOrNothing text
slash_only text more e line block = record {
  byte = 47;
  more = more;
  begins = e;
  no_blank = refl;
  no_gap = no_gap;
  no_comment = λ o. block o.rest (cc (e, o.opens));
  no_name = λ bytes rest name w. let bad : false ≡ true = name_byte text bytes rest more 47 e name w in absurd (cc (bad));
  no_system = λ system rest w. let bad : ◌≡◌ {A = ℕ} 47 36 = system_byte text rest more 47 system e w in absurd (omega arith);
  no_unknown = λ u. let bad : ◌≡◌ {A = ℕ} 47 36 = unknown_byte text more 47 e u in absurd (omega arith);
  no_literal = no_literal_at text more 47 e refl;
}
  where
    no_gap : (gap rest : List ℕ) → BeginsWithGap text gap rest → ⊥
    no_gap gap rest g = go g.kind
      where
        go : IsBlank gap ⊎ IsLineComment gap rest ⊎ IsBlockComment gap → ⊥
        go (inl b) =
            let same : b.byte ≡ 47 = cc (e, g.whole, b.whole) in
            let bad : true ≡ false = sym b.blank ∙ ap is_blank same in
            absurd (cc (bad))
        go (inr (inl c)) = line (c.body ++ rest) (cc (e, g.whole, c.whole))
        go (inr (inr c)) = block ((c.body ++ (42 ∷ (47 ∷ []))) ++ rest) (cc (e, g.whole, c.whole))

pub dollar_only : (text more : List ℕ) → text ≡ 36 ∷ more → Stops is_name_start more → MarkOrNothing text
dollar_only text more e stops = record {
  byte = 36;
  more = more;
  begins = e;
  no_blank = refl;
  no_gap = λ gap rest g. dollar_no_gap text more gap rest e g;
  no_comment = dollar_no_comment text more e;
  no_name = λ bytes rest name w. let bad : false ≡ true = name_byte text bytes rest more 36 e name w in absurd (cc (bad));
  no_system = no_system;
  no_unknown = λ u. unknown u.name u.rest u.is_name (cc (e, u.whole));
  no_literal = no_literal_at text more 36 e refl;
}
  where
    start_not : (b : ℕ) (bs : List ℕ) → more ≡ b ∷ bs → is_name_start b ≡ true → ⊥
    start_not b bs f p = let bad : true ≡ false = sym p ∙ subst (Stops is_name_start) f stops in absurd (cc (bad))

    no_system : (system : SystemName) (rest : List ℕ) → text ≢ system_text system ++ rest
    no_system s.Signed rest w = start_not 115 (codes "igned" ++ rest) (cc (e, w)) refl
    no_system s.Unsigned rest w = start_not 117 (codes "nsigned" ++ rest) (cc (e, w)) refl

    unknown : (name rest : List ℕ) → IsName name → more ≡ name ++ rest → ⊥
    unknown [] rest name w = name
    unknown (b ∷ bs) rest name w = start_not b (bs ++ rest) w name.0
