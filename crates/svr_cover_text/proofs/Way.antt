-- The reader's way through the tokens of a text
use Rattle.std.proofs.Common.{◌≡◌, ◌≤◌, ℕ, suc, ◌+◌, Bool, true, false, List, [], ◌∷◌, length, Option, None, Some, refl, sym, ap, ◌∙◌, ◌⊎◌, inl, subst, Result, Ok, Err, IfOk, add-one, if◌then◌else◌}
use Rattle.std.specs.Prelude.{IfErr, MatchResult}
use Rattle.std.specs.List.{All}
use Rattle.std.proofs.lemmas.List.{nil_from_length}
use Rattle.std.proofs.lemmas.List.Elements.{All-head, All-tail}
use Rattle.svr_token.specs.declared.lexeme.Lexeme.{Lexeme}
use Rattle.svr_token.specs.declared.token.Token.{Token}
use Rattle.svr_token.specs.Tokens.{IsTokenOf, token_bytes}
use Rattle.svr_cover_text.specs.declared.word.Word.{Word}
use Rattle.svr_cover_text.specs.declared.word.Word.TheVariants as w
use Rattle.svr_cover_text.specs.declared.reading.Reading.{Reading}
use Rattle.svr_cover_text.specs.declared.text.GroupText.{GroupText}
use Rattle.svr_cover_text.specs.declared.text.GroupsText.{GroupsText}
use Rattle.svr_cover_text.specs.declared.fault.GroupsFault.{GroupsFault}
use Rattle.svr_cover_text.specs.declared.fault.GroupsFault.TheVariants as e
use Rattle.svr_cover_text.specs.Words.{lexeme_word, IsWordOf, AreWords}
use Rattle.svr_cover_text.specs.Tree.{list_text}
use Rattle.svr_cover_text.specs.Spelled.{groups_words}
use Rattle.svr_cover_text.specs.Fronts.{groups_text}
use Rattle.svr_cover_text.specs.Tokens.{WriteText, HaveFault, AnswersGroups, AnswersStops}
use Rattle.svr_cover_text.specs.Machine.{begin, step, IsTaken, after, stop, told, is_between}
use Rattle.svr_cover_text.proofs.Runs.{run, end-stops}
use Rattle.svr_cover_text.proofs.Exact.{after-some, after-none, same-reading, same-number, groups-end, groups-stop, fault-is, stops-there}

-- ---- the words of tokens

record MoreWords (text : List ℕ) (at : ℕ) (t : Token) (ts : List Token) (ws : List Word) : Type 0 where
  pub word : Word
  pub more : List Word
  pub whole : ws ≡ word ∷ more
  pub is : IsWordOf text at t word
  pub are : AreWords text (suc at) ts more

more-words : (text : List ℕ) (at : ℕ) (t : Token) (ts : List Token) (ws : List Word) → AreWords text at (t ∷ ts) ws → MoreWords text at t ts ws
more-words text at t ts [] h = absurd h
more-words text at t ts (x ∷ ws) h = record { word = x; more = ws; whole = refl; is = h.0; are = h.1 }

-- tokens that spell lexemes have words
abbrev pub HasLexeme : List ℕ → Token → Type 0
HasLexeme text t = (l : Lexeme) × IsTokenOf text t l

words-there : (text : List ℕ) (ts : List Token) (at : ℕ) → All (HasLexeme text) ts → (ws : List Word) × AreWords text at ts ws
words-there text [] at h = (w.End ∷ [], refl)
words-there text (t ∷ ts) at h =
    let l : HasLexeme text t = All-head (HasLexeme text) t ts h in
    let more = words-there text ts (suc at) (All-tail (HasLexeme text) t ts h) in
    let x : Word = lexeme_word l.0 (token_bytes text t) at in
    (x ∷ more.0, ((l.0, l.1, refl), more.1))

none_some : {A : Type 0} (x : A) → None ≡ Some x → ⊥
none_some x h = cc

some_none : {A : Type 0} (x : A) → Some x ≡ None → ⊥
some_none x h = cc

-- the end of the text is never taken
never-through : (text : List ℕ) (ts : List Token) (at : ℕ) (ws : List Word) (r q : Reading) → AreWords text at ts ws → run r ws ≡ Some q → ⊥
never-through text [] at ws r q h k =
    let e : run r (w.End ∷ []) ≡ Some q = ap (run r) (sym h) ∙ k in
    go (step r w.End) (end-stops r) e
  where
    go : (o : Option Reading) → o ≡ None → elim o [ Some s ↦ Some s | None ↦ None ] ≡ Some q → ⊥
    go None n h = none_some q h
    go (Some s) n h = some_none s n
never-through text (t ∷ ts) at [] r q h k = h
never-through text (t ∷ ts) at (x ∷ ws) r q h k = go (step r x) (λ s g. never-through text ts (suc at) ws s q h.1 g) k
  where
    go : (o : Option Reading) → ((s : Reading) → run s ws ≡ Some q → ⊥) → elim o [ Some s ↦ run s ws | None ↦ None ] ≡ Some q → ⊥
    go None g h = none_some q h
    go (Some s) g h = g s h

-- ---- on the way

-- the reader has come from the first token to the one of this number
abbrev pub HasCome : List ℕ → List Token → Reading → Reading → ℕ → List Token → Type 0
HasCome text tokens start r at left = (ws : List Word) → AreWords text 0 tokens ws → (more : List Word) × AreWords text at left more × (after start 0 ws ≡ after r at more)

pub come-first : (text : List ℕ) (tokens : List Token) (start : Reading) → HasCome text tokens start start 0 tokens
come-first text tokens start = λ ws h. (ws, h, refl)

-- the word that the reader takes for the token
abbrev pub Says : List ℕ → ℕ → Token → Word → Type 0
Says text at t x = (word : Word) → IsWordOf text at t word → x ≡ word

pub come-more : (text : List ℕ) (tokens : List Token) (start r q : Reading) (at : ℕ) (left : List Token) (t : Token) (ts : List Token) (x : Word)
    → left ≡ t ∷ ts → HasCome text tokens start r at left → Says text at t x → step r x ≡ Some q → HasCome text tokens start q (at + 1) ts
come-more text tokens start r q at left t ts x l h s k = λ ws are.
    let g = h ws are in
    let m = more-words text at t ts g.0 (subst (λ z. AreWords text at z g.0) l g.1) in
    let e : step r m.word ≡ Some q = ap (step r) (sym (s m.word m.is)) ∙ k in (
      m.more,
      subst (λ z. AreWords text z ts m.more) (sym (add-one at)) m.are,
      g.2 ∙ ap (after r at) m.whole ∙ after-some r q at m.word m.more e ∙ ap (λ z. after q z m.more) (sym (add-one at)),
    )

pub come-stuck : (text : List ℕ) (tokens : List Token) (start r q : Reading) (at : ℕ) (left : List Token) (t : Token) (ts : List Token) (x : Word)
    → left ≡ t ∷ ts → HasCome text tokens start r at left → Says text at t x → IsTaken false r x q
    → (ws : List Word) → AreWords text 0 tokens ws → after start 0 ws ≡ stop q at
come-stuck text tokens start r q at left t ts x l h s k ws are =
    let g = h ws are in
    let m = more-words text at t ts g.0 (subst (λ z. AreWords text at z g.0) l g.1) in
    let e : step r m.word ≡ None = ap (step r) (sym (s m.word m.is)) ∙ k.0 in
    g.2 ∙ ap (after r at) m.whole ∙ after-none r at m.word m.more e ∙ ap (λ z. stop z at) (sym k.1)

pub come-end : (text : List ℕ) (tokens : List Token) (start r : Reading) (at : ℕ) (left : List Token)
    → length left ≡ 0 → HasCome text tokens start r at left
    → (ws : List Word) → AreWords text 0 tokens ws → after start 0 ws ≡ stop r at
come-end text tokens start r at left l h ws are =
    let g = h ws are in
    let m : g.0 ≡ w.End ∷ [] = subst (λ z. AreWords text at z g.0) (nil_from_length left l) g.1 in
    g.2 ∙ ap (after r at) m ∙ after-none r at w.End [] (end-stops r)

-- ---- as the reader tells it

-- what the reader's way through the tokens comes to
abbrev pub Comes : List ℕ → List Token → Reading → ℕ → Type 0
Comes text tokens q n = (ws : List Word) → AreWords text 0 tokens ws → after begin 0 ws ≡ stop q n

pub comes-from : (text : List ℕ) (tokens : List Token) (q start : Reading) (n : ℕ) → start ≡ begin
    → ((ws : List Word) → AreWords text 0 tokens ws → after start 0 ws ≡ stop q n) → Comes text tokens q n
comes-from text tokens q start n e h = λ ws are. ap (λ z. after z 0 ws) (sym e) ∙ h ws are

abbrev kept_text : List GroupText → ℕ → GroupsText
kept_text list used = record { list = list; used = used }

kept-same : (xs ys : List GroupText) (n m : ℕ) → xs ≡ ys → n ≡ m → kept_text xs n ≡ kept_text ys m
kept-same xs ys n m h k = ap (λ z. kept_text z n) h ∙ ap (kept_text ys) k

told-text : (text : List ℕ) (tokens : List Token) (q : Reading) (n : ℕ) → Comes text tokens q n → All (HasLexeme text) tokens → is_between q.place ≡ true
    → WriteText text tokens (kept_text q.made.groups n)
told-text text tokens q n h l b =
    let ws = words-there text tokens 0 l in
    let x = groups-end ws.0 q n (h ws.0 ws.1) b in
    (ws.0, ws.1, (x.groups, x.begin_with, kept-same (list_text x.groups) q.made.groups (length (groups_words x.groups)) n x.list x.used))

told-fault : (text : List ℕ) (tokens : List Token) (q : Reading) (n : ℕ) → Comes text tokens q n → All (HasLexeme text) tokens → is_between q.place ≡ false
    → HaveFault text tokens (e.Unexpected n)
told-fault text tokens q n h l b =
    let ws = words-there text tokens 0 l in
    (ws.0, ws.1, fault-is ws.0 q n (h ws.0 ws.1) b (λ s k. never-through text tokens 0 ws.0 begin s ws.1 k))

pub told-memory : (text : List ℕ) (tokens : List Token) → All (HasLexeme text) tokens → HaveFault text tokens e.NoMemory
told-memory text tokens l = let ws = words-there text tokens 0 l in (ws.0, ws.1, tt)

-- ---- the clauses

-- what is told at a place between two groups, and inside of one
abbrev answer : Bool → Reading → ℕ → Result GroupsText GroupsFault
answer b q n = if b then Ok (kept_text q.made.groups n) else Err (e.Unexpected n)

pub clause-groups : (text : List ℕ) (tokens : List Token) (q : Reading) (n : ℕ) (r : Result GroupsText GroupsFault) → Comes text tokens q n → r ≡ told q n → All (HasLexeme text) tokens
    → IfOk r (λ s. WriteText text tokens s)
clause-groups text tokens q n r h t l = subst (λ z. IfOk z (λ s. WriteText text tokens s)) (sym t) (go (is_between q.place) refl)
  where
    go : (b : Bool) → is_between q.place ≡ b → IfOk (answer b q n) (λ s. WriteText text tokens s)
    go true b = told-text text tokens q n h l b
    go false b = tt

pub clause-within : (tokens : List Token) (q : Reading) (n : ℕ) (r : Result GroupsText GroupsFault) → n ≤ length tokens → r ≡ told q n → IfOk r (λ s. s.used ≤ length tokens)
clause-within tokens q n r h t = subst (λ z. IfOk z (λ s. s.used ≤ length tokens)) (sym t) (go (is_between q.place))
  where
    go : (b : Bool) → IfOk (answer b q n) (λ s. s.used ≤ length tokens)
    go true = h
    go false = tt

pub clause-fault : (text : List ℕ) (tokens : List Token) (q : Reading) (n : ℕ) (r : Result GroupsText GroupsFault) → Comes text tokens q n → r ≡ told q n → All (HasLexeme text) tokens
    → IfErr r (λ x. HaveFault text tokens x)
clause-fault text tokens q n r h t l = subst (λ z. IfErr z (λ x. HaveFault text tokens x)) (sym t) (go (is_between q.place) refl)
  where
    go : (b : Bool) → is_between q.place ≡ b → IfErr (answer b q n) (λ x. HaveFault text tokens x)
    go true b = tt
    go false b = told-fault text tokens q n h l b

pub clause-only_groups : (text : List ℕ) (tokens : List Token) (q : Reading) (n : ℕ) (r : Result GroupsText GroupsFault) → Comes text tokens q n → r ≡ told q n → AnswersGroups text tokens r
clause-only_groups text tokens q n r h t ws are groups g =
    let s = groups-stop groups ws g in
    let there : stop q n ≡ stop s.0 (length (groups_words groups)) = sym (h ws are) ∙ s.1 in
    let same : q ≡ s.0 = same-reading q s.0 n (length (groups_words groups)) there in
    let used : n ≡ length (groups_words groups) = same-number q s.0 n (length (groups_words groups)) there in
    let b : is_between q.place ≡ true = ap (λ z. is_between z.place) same ∙ s.2 in
    let list : q.made.groups ≡ list_text groups = ap (λ z. z.made.groups) same ∙ s.3 in
    subst (λ z. MatchResult z (λ s. s ≡ groups_text groups) (λ x. x ≡ e.NoMemory)) (sym (t ∙ ap (λ z. answer z q n) b))
    (kept-same q.made.groups (list_text groups) n (length (groups_words groups)) list used)

pub clause-only_fault : (text : List ℕ) (tokens : List Token) (q : Reading) (n : ℕ) (r : Result GroupsText GroupsFault) → Comes text tokens q n → r ≡ told q n → AnswersStops text tokens r
clause-only_fault text tokens q n r h t ws are m u =
    let s = stops-there ws m u in
    let there : stop q n ≡ stop s.0 m = sym (h ws are) ∙ s.1 in
    let b : is_between q.place ≡ false = ap (λ z. is_between z.place) (same-reading q s.0 n m there) ∙ s.2 in
    subst (λ z. MatchResult z (λ s. ⊥) (λ x. (x ≡ e.Unexpected m) ⊎ (x ≡ e.NoMemory))) (sym (t ∙ ap (λ z. answer z q n) b)) (inl (ap (λ z. e.Unexpected z) (same-number q s.0 n m there)))
