-- Comments.
use Rattle.std.proofs.Common.{◌≡◌, ◌≢◌, ◌<◌, ℕ, zero, suc, ◌+◌, List, [], ◌∷◌, ◌++◌, length, take, drop, refl, sym, ap, ◌∙◌, subst, arith, slice_index, append_assoc, length-append, length-take-le, inl, inr}
use Rattle.svr_token.specs.Bytes.{is_within_line, Stops, Splits}
use Rattle.svr_token.specs.Gaps.{BeginsWithGap}
use Rattle.svr_token.specs.Faults.{BeginsNothing, IsOpenComment, IsSound, HasLowestFault, Fault, HasFault, number_of_fault, open_comment, bad_byte, bad_literal, literal_too_wide}
use Rattle.svr_token.specs.declared.token.Kind.TheVariants as k
use Rattle.svr_token.specs.declared.lexeme.Mark.TheVariants as m
use Rattle.svr_lex.specs.TextFronts.{EndsComment}
use Rattle.svr_lex.proofs.Firsts.{no_literal_at, sound_without_literal, unknown_byte, no_bad_byte}

-- a pair of bytes behind a front
pair_at : (front back : List ℕ) (a b : ℕ) → (slice_index (front ++ (a ∷ (b ∷ back))) (length front) ≡ a) × (slice_index (front ++ (a ∷ (b ∷ back))) (length front + 1) ≡ b)
pair_at [] back a b = (refl, refl)
pair_at (c ∷ cs) back a b =
    let (l, r) = pair_at cs back a b in
    let same : suc (length cs) + 1 ≡ suc (length cs + 1) = omega arith in
    (l, ap (slice_index (c ∷ (cs ++ (a ∷ (b ∷ back))))) same ∙ r)

-- the text around the pair at a place
pair_whole : (text : List ℕ) (n a b : ℕ) → n + 1 < length text → slice_index text n ≡ a → slice_index text (n + 1) ≡ b → text ≡ take n text ++ (a ∷ (b ∷ drop (n + 2) text))
pair_whole [] n a b less p q = absurd (omega arith)
pair_whole (c ∷ []) n a b less p q = absurd (omega arith)
pair_whole (c ∷ d ∷ ds) zero a b less p q = rw (← p, ← q) refl
pair_whole (c ∷ d ∷ ds) (suc n) a b less p q =
    let one : suc n + 1 ≡ suc (n + 1) = omega arith in
    let two : suc n + 2 ≡ suc (n + 2) = omega arith in
    let q' : slice_index (d ∷ ds) (n + 1) ≡ b = ap (slice_index (c ∷ d ∷ ds)) (sym one) ∙ q in
    let tail : d ∷ ds ≡ take n (d ∷ ds) ++ (a ∷ (b ∷ drop (n + 2) (d ∷ ds))) = pair_whole (d ∷ ds) n a b (omega arith) p q' in
    ap (λ t. c ∷ t) tail ∙ ap (λ i. c ∷ (take n (d ∷ ds) ++ (a ∷ (b ∷ drop i (c ∷ d ∷ ds))))) (sym two)

-- no pair stands in front of the first
first_pair : (text body rest : List ℕ) (i : ℕ) → text ≡ body ++ (42 ∷ (47 ∷ rest)) → length body + 1 ≡ i → ((k : ℕ) → k + 1 < i → slice_index text k ≡ 42 → slice_index text (k + 1) ≡ 47 → ⊥)
    → (front back : List ℕ) → body ++ (42 ∷ (47 ∷ [])) ≡ front ++ (42 ∷ (47 ∷ back)) → back ≡ []
first_pair text body rest i whole len none front [] same = refl
first_pair text body rest i whole len none front (x ∷ xs) same =
    let all : text ≡ front ++ (42 ∷ (47 ∷ ((x ∷ xs) ++ rest))) =
    whole ∙ sym (append_assoc body (42 ∷ (47 ∷ [])) rest) ∙ ap (λ t. t ++ rest) same ∙ append_assoc front (42 ∷ (47 ∷ (x ∷ xs))) rest in
    let both = pair_at front ((x ∷ xs) ++ rest) 42 47 in
    let lens : length body + 2 ≡ length front + suc (suc (suc (length xs))) =
    sym (length-append body (42 ∷ (47 ∷ []))) ∙ ap length same ∙ length-append front (42 ∷ (47 ∷ (x ∷ xs))) in
    absurd (none (length front) (omega arith) (ap (λ t. slice_index t (length front)) all ∙ both.0) (ap (λ t. slice_index t (length front + 1)) all ∙ both.1))

-- the end of a comment, where no pair stands before it
pub ends_at : (text body : List ℕ) (n i : ℕ) → body ≡ take n text → n + 1 ≡ i → i < length text → slice_index text n ≡ 42 → slice_index text i ≡ 47
    → ((k : ℕ) → k + 1 < i → slice_index text k ≡ 42 → slice_index text (k + 1) ≡ 47 → ⊥) → (rest : List ℕ) × EndsComment text body rest
ends_at text body n i cut e less star slash none =
    let slash' : slice_index text (n + 1) ≡ 47 = ap (slice_index text) e ∙ slash in
    let taken : text ≡ take n text ++ (42 ∷ (47 ∷ drop (n + 2) text)) = pair_whole text n 42 47 (omega arith) star slash' in
    let whole : text ≡ body ++ (42 ∷ (47 ∷ drop (n + 2) text)) = subst (λ b. text ≡ b ++ (42 ∷ (47 ∷ drop (n + 2) text))) (sym cut) taken in
    let len : length body ≡ n = ap length cut ∙ length-take-le n text (omega arith) in
    (drop (n + 2) text, record { whole = whole; first = first_pair text body (drop (n + 2) text) i whole (ap (λ x. x + 1) len ∙ e) none })

pub never_ends : (text : List ℕ) → ((k : ℕ) → k + 1 < length text → slice_index text k ≡ 42 → slice_index text (k + 1) ≡ 47 → ⊥) → (body more : List ℕ) → text ≡ body ++ (42 ∷ (47 ∷ more)) → ⊥
never_ends text none body more e =
    let both = pair_at body more 42 47 in
    let len : length text ≡ length body + suc (suc (length more)) = ap length e ∙ length-append body (42 ∷ (47 ∷ more)) in
    none (length body) (omega arith) (ap (λ t. slice_index t (length body)) e ∙ both.0) (ap (λ t. slice_index t (length body + 1)) e ∙ both.1)

-- GAPS THAT ARE COMMENTS

slash_begins : BeginsNothing 47 → ⊥
slash_begins n = n.no_lexeme k.Mark [] (m.Slash, refl)

-- a comment stands there, and no fault
pub comment_sound : (text more : List ℕ) → text ≡ 47 ∷ more → (IsOpenComment text → ⊥) → IsSound text
comment_sound text more e closed =
    sound_without_literal text more 47 e slash_begins (λ u. let bad : ◌≡◌ {A = ℕ} 47 36 = unknown_byte text more 47 e u in absurd (omega arith)) closed (no_literal_at text more 47 e refl)

pub line_gap : (text more behind body left gap rest : List ℕ) → text ≡ 47 ∷ more → more ≡ 47 ∷ behind → Splits is_within_line behind body left
    → gap ≡ 47 ∷ (47 ∷ body) → rest ≡ left → IsSound text × BeginsWithGap text gap rest
line_gap text more behind body left gap rest e f split g r = (
  comment_sound text more e closed,
  record {
    whole = all ∙ rw (g, r) refl;
    kind = inr (inl (record { body = body; whole = g; within = split.passes; stops = subst (Stops is_within_line) (sym r) split.stops }));
  },
)
  where
    all : text ≡ 47 ∷ (47 ∷ (body ++ left))
    all = e ∙ ap (λ t. 47 ∷ t) (f ∙ ap (λ t. 47 ∷ t) split.whole)

    closed : IsOpenComment text → ⊥
    closed o = let bad : ◌≡◌ {A = ℕ} 47 42 = cc (all, o.opens) in absurd (omega arith)

pub block_gap : (text more behind body left gap rest : List ℕ) → text ≡ 47 ∷ more → more ≡ 42 ∷ behind → EndsComment behind body left
    → gap ≡ 47 ∷ (42 ∷ (body ++ (42 ∷ (47 ∷ [])))) → rest ≡ left → IsSound text × BeginsWithGap text gap rest
block_gap text more behind body left gap rest e f ends g r = (
  comment_sound text more e closed,
  record {
    whole = all ∙ ap (λ t. 47 ∷ (42 ∷ t)) (sym (append_assoc body (42 ∷ (47 ∷ [])) left)) ∙ rw (g, r) refl;
    kind = inr (inr (record { body = body; whole = g; first = ends.first }));
  },
)
  where
    all : text ≡ 47 ∷ (42 ∷ (body ++ (42 ∷ (47 ∷ left))))
    all = e ∙ ap (λ t. 47 ∷ t) (f ∙ ap (λ t. 42 ∷ t) ends.whole)

    closed : IsOpenComment text → ⊥
    closed o = let tail : body ++ (42 ∷ (47 ∷ left)) ≡ o.rest = cc (all, o.opens) in o.stays body left (sym tail)

pub open_at : (text more behind : List ℕ) → text ≡ 47 ∷ more → more ≡ 42 ∷ behind → ((body more : List ℕ) → behind ≢ body ++ (42 ∷ (47 ∷ more))) → HasLowestFault open_comment text
open_at text more behind e f none = record {
  stands = record { rest = behind; opens = e ∙ ap (λ t. 47 ∷ t) f; stays = none };
  lowest = lower;
}
  where
    lower : (other : Fault) → number_of_fault other < 2 → HasFault other text → ⊥
    lower bad_byte less bad = no_bad_byte text more 47 e slash_begins (λ u. let bad : ◌≡◌ {A = ℕ} 47 36 = unknown_byte text more 47 e u in absurd (omega arith)) bad
    lower open_comment less bad = absurd (omega arith)
    lower bad_literal less bad = absurd (omega arith)
    lower literal_too_wide less bad = absurd (omega arith)
