-- The reader's way through the tokens of a text
use Rattle.std.proofs.Common.{◌≡◌, ℕ, zero, suc, ◌+◌, true, List, [], ◌∷◌, length, Option, None, Some, option_map, refl, sym, ap, ◌∙◌, ◌⊎◌, inl, subst, Result, Ok, Err, IfOk, add-one}
use Rattle.std.specs.Prelude.{IfErr, MatchOption, MatchResult}
use Rattle.std.specs.List.{All}
use Rattle.std.proofs.lemmas.List.{nil_from_length}
use Rattle.std.proofs.lemmas.List.Elements.{All-head, All-tail}
use Rattle.svr_token.specs.declared.lexeme.Lexeme.{Lexeme}
use Rattle.svr_token.specs.declared.token.Token.{Token}
use Rattle.svr_token.specs.Tokens.{IsTokenOf, token_bytes}
use Rattle.svr_seq_text.specs.declared.word.Word.{Word}
use Rattle.svr_seq_text.specs.declared.word.Word.TheVariants as w
use Rattle.svr_seq_text.specs.declared.place.Place.{Place}
use Rattle.svr_seq_text.specs.declared.place.Place.TheVariants as p
use Rattle.svr_seq_text.specs.declared.place.Move.{Move}
use Rattle.svr_seq_text.specs.declared.reading.Reading.{Reading}
use Rattle.svr_seq_text.specs.declared.text.SeqText.{SeqText}
use Rattle.svr_seq_text.specs.declared.fault.SeqTextFault.{SeqTextFault}
use Rattle.svr_seq_text.specs.declared.fault.SeqTextFault.TheVariants as e
use Rattle.svr_seq_text.specs.Words.{lexeme_word, IsWordOf, AreWords}
use Rattle.svr_seq_text.specs.Tree.{SeqTree, text_of}
use Rattle.svr_seq_text.specs.Spelled.{seq_words}
use Rattle.svr_seq_text.specs.Fronts.{IsTextOf, IsUnexpected, IsFaultOf}
use Rattle.svr_seq_text.specs.Machine.{begin, step, goes, moved_to, after, reads, stuck, IsLeft, text_in}
use Rattle.svr_seq_text.proofs.Runs.{is_last}
use Rattle.svr_seq_text.proofs.Exact.{after-some, after-none, after-nil, fault-is, stops-there, tree-reads, tree-no-fault, text-is}

-- ---- the words of tokens

record MoreWords (text : List ℕ) (at : ℕ) (t : Token) (ts : List Token) (ws : List Word) : Type 0 where
  pub word : Word
  pub more : List Word
  pub whole : ws ≡ word ∷ more
  pub is : IsWordOf text at t word
  pub are : AreWords text (suc at) ts more

more-words : (text : List ℕ) (at : ℕ) (t : Token) (ts : List Token) (ws : List Word) → AreWords text at (t ∷ ts) ws → MoreWords text at t ts ws
more-words text at t ts [] h = absurd h
more-words text at t ts (x ∷ ws) h = record { word = x; more = ws; whole = refl; is = h.0; are = h.1 }

-- tokens that spell lexemes have words
abbrev pub HasLexeme : List ℕ → Token → Type 0
HasLexeme text t = (l : Lexeme) × IsTokenOf text t l

pub words-there : (text : List ℕ) (ts : List Token) (at : ℕ) → All (HasLexeme text) ts → (ws : List Word) × AreWords text at ts ws
words-there text [] at h = (w.End ∷ [], refl)
words-there text (t ∷ ts) at h =
    let l : HasLexeme text t = All-head (HasLexeme text) t ts h in
    let more = words-there text ts (suc at) (All-tail (HasLexeme text) t ts h) in
    let x : Word = lexeme_word l.0 (token_bytes text t) at in
    (x ∷ more.0, ((l.0, l.1, refl), more.1))

-- ---- on the way

-- the reader has come from the first token to the one of this number
abbrev pub HasCome : List ℕ → List Token → Reading → Reading → ℕ → List Token → Type 0
HasCome text tokens start r at left = (ws : List Word) → AreWords text 0 tokens ws → (more : List Word) × AreWords text at left more × (after start 0 ws ≡ after r at more)

pub come-first : (text : List ℕ) (tokens : List Token) (start : Reading) → HasCome text tokens start start 0 tokens
come-first text tokens start = λ ws h. (ws, h, refl)

-- the word that the reader takes for the token
abbrev pub Says : List ℕ → ℕ → Token → Word → Type 0
Says text at t x = (word : Word) → IsWordOf text at t word → x ≡ word

pub come-more : (text : List ℕ) (tokens : List Token) (start r q : Reading) (at : ℕ) (left : List Token) (t : Token) (ts : List Token) (x : Word)
    → left ≡ t ∷ ts → HasCome text tokens start r at left → Says text at t x → step r x ≡ Some q → HasCome text tokens start q (at + 1) ts
come-more text tokens start r q at left t ts x l h s k = λ ws are.
    let g = h ws are in
    let m = more-words text at t ts g.0 (subst (λ z. AreWords text at z g.0) l g.1) in
    let e : step r m.word ≡ Some q = ap (step r) (sym (s m.word m.is)) ∙ k in (
      m.more,
      subst (λ z. AreWords text z ts m.more) (sym (add-one at)) m.are,
      g.2 ∙ ap (after r at) m.whole ∙ after-some r q at m.word m.more e ∙ ap (λ z. after q z m.more) (sym (add-one at)),
    )

pub come-stuck : (text : List ℕ) (tokens : List Token) (start r : Reading) (at : ℕ) (left : List Token) (t : Token) (ts : List Token) (x : Word)
    → left ≡ t ∷ ts → HasCome text tokens start r at left → Says text at t x → step r x ≡ None
    → (ws : List Word) → AreWords text 0 tokens ws → after start 0 ws ≡ stuck at
come-stuck text tokens start r at left t ts x l h s k ws are =
    let g = h ws are in
    let m = more-words text at t ts g.0 (subst (λ z. AreWords text at z g.0) l g.1) in
    let e : step r m.word ≡ None = ap (step r) (sym (s m.word m.is)) ∙ k in
    g.2 ∙ ap (after r at) m.whole ∙ after-none r at m.word m.more e

pub come-end : (text : List ℕ) (tokens : List Token) (start r q : Reading) (at : ℕ) (left : List Token)
    → left ≡ [] → HasCome text tokens start r at left → step r w.End ≡ Some q
    → (ws : List Word) → AreWords text 0 tokens ws → after start 0 ws ≡ reads q
come-end text tokens start r q at left l h k ws are =
    let g = h ws are in
    let m : g.0 ≡ w.End ∷ [] = subst (λ z. AreWords text at z g.0) l g.1 in
    g.2 ∙ ap (after r at) m ∙ after-some r q at w.End [] k ∙ after-nil q (suc at)

pub come-end-stuck : (text : List ℕ) (tokens : List Token) (start r : Reading) (at : ℕ) (left : List Token)
    → left ≡ [] → HasCome text tokens start r at left → step r w.End ≡ None
    → (ws : List Word) → AreWords text 0 tokens ws → after start 0 ws ≡ stuck at
come-end-stuck text tokens start r at left l h k ws are =
    let g = h ws are in
    let m : g.0 ≡ w.End ∷ [] = subst (λ z. AreWords text at z g.0) l g.1 in
    g.2 ∙ ap (after r at) m ∙ after-none r at w.End [] k

-- as the reader tells it
pub come-ended : {E : Type 0} (text : List ℕ) (tokens : List Token) (start r q : Reading) (at : ℕ) (left : List Token) (x : Result (Option ℕ) E)
    → length left ≡ 0 → HasCome text tokens start r at left → IfOk x (λ o. MatchOption o (step r w.End ≡ Some q) (λ n. (n ≡ at) × (step r w.End ≡ None)))
    → (ws : List Word) → AreWords text 0 tokens ws → IfOk x (λ o. IsLeft (after start 0 ws) o q)
come-ended text tokens start r q at left (Err e) l h k ws are = tt
come-ended text tokens start r q at left (Ok None) l h k ws are = come-end text tokens start r q at left (nil_from_length left l) h k ws are
come-ended text tokens start r q at left (Ok (Some n)) l h k ws are = come-end-stuck text tokens start r at left (nil_from_length left l) h k.1 ws are ∙ ap (λ z. stuck z) (sym k.0)

-- ---- the end of the text is the last

end-moves : (place : Place) (d : ℕ) (m : Move) → goes place d w.End ≡ Some m → is_last m.place ≡ true
end-moves p.Last d m h = ap (λ o. elim o [ Some z ↦ is_last z.place | None ↦ true ]) (sym h)
end-moves p.NextAct zero m h = absurd (let z : None ≡ Some m = h in cc)
end-moves p.NextAct (suc d) m h = absurd (let z : None ≡ Some m = h in cc)
end-moves _ d m h = absurd (let z : None ≡ Some m = h in cc)

end-step : (r q : Reading) → step r w.End ≡ Some q → is_last q.place ≡ true
end-step r q h = go (goes r.place r.depth w.End) refl h
  where
    go : (o : Option Move) → goes r.place r.depth w.End ≡ o → option_map (moved_to r w.End) o ≡ Some q → is_last q.place ≡ true
    go None e h = absurd (let z : None ≡ Some q = h in cc)
    go (Some m) e h =
        let s : moved_to r w.End m ≡ q = let z : Some (moved_to r w.End m) ≡ Some q = h in cc in
        ap (λ z. is_last z.place) (sym s) ∙ end-moves r.place r.depth m e

through-last : (text : List ℕ) (ts : List Token) (at n : ℕ) (ws : List Word) (r q : Reading) → AreWords text at ts ws → after r n ws ≡ reads q → is_last q.place ≡ true
unfolding after
through-last text [] at n ws r q h k =
    let e : after r n (w.End ∷ []) ≡ reads q = ap (after r n) (sym h) ∙ k in
    go (step r w.End) refl e
  where
    go : (o : Option Reading) → step r w.End ≡ o → elim o [ Some s ↦ reads s | None ↦ stuck n ] ≡ reads q → is_last q.place ≡ true
    go None e h = absurd (let z : stuck n ≡ reads q = h in cc)
    go (Some s) e h =
        let same : s ≡ q = let z : reads s ≡ reads q = h in cc in
        ap (λ z. is_last z.place) (sym same) ∙ end-step r s e
through-last text (t ∷ ts) at n [] r q h k = absurd h
through-last text (t ∷ ts) at n (x ∷ ws) r q h k = go (step r x) (λ s g. through-last text ts (suc at) (suc n) ws s q h.1 g) k
  where
    go : (o : Option Reading) → ((s : Reading) → after s (suc n) ws ≡ reads q → is_last q.place ≡ true)
        → elim o [ Some s ↦ after s (suc n) ws | None ↦ stuck n ] ≡ reads q → is_last q.place ≡ true
    go None g h = absurd (let z : stuck n ≡ reads q = h in cc)
    go (Some s) g h = g s h

-- ---- as the reader tells it

-- what the reader's way through the tokens comes to
abbrev pub Comes : List ℕ → List Token → Option ℕ → Reading → Type 0
Comes text tokens o q = (ws : List Word) → AreWords text 0 tokens ws → IsLeft (after begin 0 ws) o q

pub told-text : (text : List ℕ) (tokens : List Token) (q : Reading) → Comes text tokens None q → All (HasLexeme text) tokens
    → (ws : List Word) × AreWords text 0 tokens ws × IsTextOf ws (text_in q.made)
told-text text tokens q h l =
    let ws = words-there text tokens 0 l in
    let r : after begin 0 ws.0 ≡ reads q = h ws.0 ws.1 in
    (ws.0, ws.1, text-is ws.0 q r (through-last text tokens 0 0 ws.0 begin q ws.1 r))

pub told-fault : (text : List ℕ) (tokens : List Token) (q : Reading) (n : ℕ) → Comes text tokens (Some n) q → All (HasLexeme text) tokens
    → (ws : List Word) × AreWords text 0 tokens ws × IsUnexpected ws n
told-fault text tokens q n h l =
    let ws = words-there text tokens 0 l in
    (ws.0, ws.1, fault-is ws.0 n (h ws.0 ws.1))

pub told-memory : (text : List ℕ) (tokens : List Token) → All (HasLexeme text) tokens → (ws : List Word) × AreWords text 0 tokens ws × Unit {0}
told-memory text tokens l = let ws = words-there text tokens 0 l in (ws.0, ws.1, tt)

pub told-tree : (text : List ℕ) (tokens : List Token) (q : Reading) → Comes text tokens None q
    → (ws : List Word) → AreWords text 0 tokens ws → (tree : SeqTree) → ws ≡ seq_words tree → text_in q.made ≡ text_of tree
told-tree text tokens q h ws are tree e = tree-reads tree ws q e (h ws are)

pub told-no_tree : (text : List ℕ) (tokens : List Token) (q : Reading) (n : ℕ) → Comes text tokens (Some n) q
    → (ws : List Word) → AreWords text 0 tokens ws → (tree : SeqTree) → ws ≡ seq_words tree → ⊥
told-no_tree text tokens q n h ws are tree e = tree-no-fault tree ws n e (h ws are)

pub told-no_fault : (text : List ℕ) (tokens : List Token) (q : Reading) → Comes text tokens None q
    → (ws : List Word) → AreWords text 0 tokens ws → (n : ℕ) → IsUnexpected ws n → ⊥
told-no_fault text tokens q h ws are n u = let z : reads q ≡ stuck n = sym (h ws are) ∙ stops-there ws n u in cc

pub told-one_fault : (text : List ℕ) (tokens : List Token) (q : Reading) (m : ℕ) → Comes text tokens (Some m) q
    → (ws : List Word) → AreWords text 0 tokens ws → (n : ℕ) → IsUnexpected ws n → e.Unexpected m ≡ e.Unexpected n
told-one_fault text tokens q m h ws are n u =
    let z : stuck m ≡ stuck n = sym (h ws are) ∙ stops-there ws n u in
    let s : m ≡ n = cc in
    ap (λ z. e.Unexpected z) s

-- ---- the clauses

pub comes-from : (text : List ℕ) (tokens : List Token) (o : Option ℕ) (q start : Reading) → start ≡ begin
    → ((ws : List Word) → AreWords text 0 tokens ws → IsLeft (after start 0 ws) o q) → Comes text tokens o q
comes-from text tokens o q start e h = λ ws are. subst (λ z. IsLeft (after z 0 ws) o q) e (h ws are)

-- what is answered
abbrev pub Told : Option ℕ → Reading → Result SeqText SeqTextFault → Type 0
Told o q r = MatchOption o (r ≡ Ok (text_in q.made)) (λ n. r ≡ Err (e.Unexpected n))

abbrev TreeOf : List ℕ → List Token → SeqText → Type 0
TreeOf text tokens s = (ws : List Word) × AreWords text 0 tokens ws × IsTextOf ws s

abbrev FaultOf : List ℕ → List Token → SeqTextFault → Type 0
FaultOf text tokens x = (ws : List Word) × AreWords text 0 tokens ws × IsFaultOf ws x

pub clause-tree : (text : List ℕ) (tokens : List Token) (o : Option ℕ) (q : Reading) (r : Result SeqText SeqTextFault) → Comes text tokens o q → Told o q r → All (HasLexeme text) tokens
    → IfOk r (λ s. (ws : List Word) × AreWords text 0 tokens ws × IsTextOf ws s)
clause-tree text tokens None q r h t l = subst (λ z. IfOk z (TreeOf text tokens)) (sym t) (told-text text tokens q h l)
clause-tree text tokens (Some n) q r h t l = subst (λ z. IfOk z (TreeOf text tokens)) (sym t) tt

pub clause-fault : (text : List ℕ) (tokens : List Token) (o : Option ℕ) (q : Reading) (r : Result SeqText SeqTextFault) → Comes text tokens o q → Told o q r → All (HasLexeme text) tokens
    → IfErr r (λ x. (ws : List Word) × AreWords text 0 tokens ws × IsFaultOf ws x)
clause-fault text tokens None q r h t l = subst (λ z. IfErr z (FaultOf text tokens)) (sym t) tt
clause-fault text tokens (Some n) q r h t l = subst (λ z. IfErr z (FaultOf text tokens)) (sym t) (told-fault text tokens q n h l)

pub clause-only_tree : (text : List ℕ) (tokens : List Token) (o : Option ℕ) (q : Reading) (r : Result SeqText SeqTextFault) → Comes text tokens o q → Told o q r
    → (ws : List Word) → AreWords text 0 tokens ws → (tree : SeqTree) → ws ≡ seq_words tree → MatchResult r (λ s. s ≡ text_of tree) (λ x. x ≡ e.NoMemory)
clause-only_tree text tokens None q r h t ws are tree w =
    subst (λ z. MatchResult z (λ s. s ≡ text_of tree) (λ x. x ≡ e.NoMemory)) (sym t) (told-tree text tokens q h ws are tree w)
clause-only_tree text tokens (Some n) q r h t ws are tree w = absurd (told-no_tree text tokens q n h ws are tree w)

pub clause-only_fault : (text : List ℕ) (tokens : List Token) (o : Option ℕ) (q : Reading) (r : Result SeqText SeqTextFault) → Comes text tokens o q → Told o q r
    → (ws : List Word) → AreWords text 0 tokens ws → (n : ℕ) → IsUnexpected ws n → MatchResult r (λ s. ⊥) (λ x. (x ≡ e.Unexpected n) ⊎ (x ≡ e.NoMemory))
clause-only_fault text tokens None q r h t ws are n u = absurd (told-no_fault text tokens q h ws are n u)
clause-only_fault text tokens (Some m) q r h t ws are n u =
    subst (λ z. MatchResult z (λ s. ⊥) (λ x. (x ≡ e.Unexpected n) ⊎ (x ≡ e.NoMemory))) (sym t) (inl (told-one_fault text tokens q m h ws are n u))
