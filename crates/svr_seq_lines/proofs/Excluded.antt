-- A text has one meaning.
use Rattle.std.proofs.Common.{◌≡◌, ◌+◌, ℕ, suc, Bool, List, [], ◌∷◌, length, append-nil, None, Some, refl, sym, ◌∙◌, ap, subst}
use Rattle.std.specs.Prelude.{unwrap_or}
use Rattle.svr_token.specs.declared.lexeme.Lexeme.{Lexeme}
use Rattle.svr_token.specs.declared.lexeme.Lexeme.TheVariants as l
use Rattle.svr_token.specs.declared.lexeme.NameKind.TheVariants as n
use Rattle.svr_token.specs.declared.lexeme.Mark.{Mark}
use Rattle.svr_token.specs.declared.lexeme.SystemName.{SystemName}
use Rattle.svr_token.specs.declared.token.Token.{Token}
use Rattle.svr_token.specs.Spellings.{mark_text, system_text}
use Rattle.svr_token.specs.Lexemes.{IsName, Spells, value_of, width_of, is_signed}
use Rattle.svr_token.specs.Tables.{word_of, mark_of, system_of}
use Rattle.svr_token.specs.Tokens.{token_bytes}
use Rattle.svr_token.specs.Names.{name_at}
use Rattle.svr_token.proofs.Fixed.{word_is_name, mark_listed, system_listed, system_no_mark}
use Rattle.svr_token.proofs.Exact.{name_no_mark, name_no_system, named_exact, spelled_name, mark_exact, system_exact, literal_one}
use Rattle.svr_lex.proofs.Laws.{tokens_one, tokens_no_fault}
use Rattle.svr_seq.specs.SeqTerm.{SeqTerm}
use Rattle.svr_seq_text.specs.Words.{IsWordOf, AreWords, lexeme_word}
use Rattle.svr_seq_text.specs.Tree.{SeqTree, text_of}
use Rattle.svr_seq_text.specs.Spelled.{seq_words}
use Rattle.svr_seq_text.specs.Tokens.{WriteTree, StopAt}
use Rattle.svr_seq_text.specs.Machine.{begin, after}
use Rattle.svr_seq_text.proofs.Runs.{seq-run}
use Rattle.svr_seq_text.proofs.Exact.{after-front, after-nil, stops-there, tree-reads, tree-no-fault}
use Rattle.svr_seq_made.specs.declared.fault.SeqFault.{SeqFault}
use Rattle.svr_seq_made.specs.declared.fault.SeqFault.TheVariants as e
use Rattle.svr_seq_made.specs.Refusals.{refusals, first_of}
use Rattle.svr_seq_made.specs.Making.{seq_made}
use Rattle.svr_seq_made.specs.Reading.{IsSeqOf, IsRefusedText}
use Rattle.svr_seq_lines.specs.Lines.{lines_from, some_long}
use Rattle.svr_seq_lines.specs.Said.{by_lexeme, by_token, by_meaning, AcceptedTextsAreNotRefused, LinesAreOne}

-- ---- bytes spell one lexeme

names_one : (bytes : List ℕ) (x y : Lexeme) → IsName bytes → Spells x bytes → Spells y bytes → x ≡ y
names_one bytes x y name s t =
    let found : Lexeme = unwrap_or (word_of bytes) (l.Name n.Plain) in
    sym (named_exact bytes x found name (word_of bytes) refl refl s) ∙ named_exact bytes y found name (word_of bytes) refl refl t

marks_one : (bytes : List ℕ) (mark : Mark) (y : Lexeme) → bytes ≡ mark_text mark → Spells y bytes → l.Mark mark ≡ y
marks_one bytes mark y is t =
    mark_exact bytes (l.Mark mark) y (record { refused = λ name. name_no_mark bytes mark name is }) (ap mark_of is ∙ mark_listed mark) t

systems_one : (bytes : List ℕ) (system : SystemName) (y : Lexeme) → bytes ≡ system_text system → Spells y bytes → l.System system ≡ y
systems_one bytes system y is t =
    system_exact bytes (l.System system) y (record { refused = λ name. name_no_system bytes system name is }) (ap mark_of is ∙ system_no_mark system) (ap system_of is ∙ system_listed system) t

literals_one : (bytes : List ℕ) (v w a b : ℕ) (g h : Bool) → Spells (l.Literal v w g) bytes → Spells (l.Literal a b h) bytes → l.Literal v w g ≡ l.Literal a b h
literals_one bytes v w a b g h (x, lawful, v_is, w_is, g_is) (y, other, a_is, b_is, h_is) =
    let same : x ≡ y = literal_one bytes x y lawful.writes other.writes in
    let value : v ≡ a = sym v_is ∙ ap value_of same ∙ a_is in
    let width : w ≡ b = sym w_is ∙ ap width_of same ∙ b_is in
    let signed : g ≡ h = sym g_is ∙ ap is_signed same ∙ h_is in
    (λ i. l.Literal (value i) (width i) (signed i))

spelled_one : (bytes : List ℕ) (x y : Lexeme) → Spells x bytes → Spells y bytes → x ≡ y
spelled_one bytes (l.Word word) y s t = names_one bytes (l.Word word) y (subst IsName (sym s) (word_is_name word)) s t
spelled_one bytes (l.Name kind) y s t = names_one bytes (l.Name kind) y (spelled_name bytes kind s) s t
spelled_one bytes (l.System system) y s t = systems_one bytes system y s t
spelled_one bytes (l.Mark mark) y s t = marks_one bytes mark y s t
spelled_one bytes (l.Literal v w g) (l.Word word) s t = sym (names_one bytes (l.Word word) (l.Literal v w g) (subst IsName (sym t) (word_is_name word)) t s)
spelled_one bytes (l.Literal v w g) (l.Name kind) s t = sym (names_one bytes (l.Name kind) (l.Literal v w g) (spelled_name bytes kind t) t s)
spelled_one bytes (l.Literal v w g) (l.System system) s t = sym (systems_one bytes system (l.Literal v w g) t s)
spelled_one bytes (l.Literal v w g) (l.Mark mark) s t = sym (marks_one bytes mark (l.Literal v w g) t s)
spelled_one bytes (l.Literal v w g) (l.Literal a b h) s t = literals_one bytes v w a b g h s t

-- ---- tokens say one list of words

-- what a function of three arguments gives
abbrev GivenBy : {A B C D : Type 0} → (A → B → C → D) → Type 0
GivenBy {D = D} f = D

-- what a token says
abbrev Word : Type 0
Word = GivenBy lexeme_word

word_one : (text : List ℕ) (at : ℕ) (t : Token) (x y : Word) → IsWordOf text at t x → IsWordOf text at t y → x ≡ y
word_one text at t x y (p, is, says) (q, are, tells) =
    says ∙ ap (λ (z : Lexeme). lexeme_word z (token_bytes text t) at) (spelled_one (token_bytes text t) p q is.spells are.spells) ∙ sym tells

words_one : (text : List ℕ) (ts : List Token) (at : ℕ) (ws vs : List Word) → AreWords text at ts ws → AreWords text at ts vs → ws ≡ vs
words_one text [] at ws vs h k = h ∙ sym k
words_one text (t ∷ ts) at [] vs h k = absurd h
words_one text (t ∷ ts) at (x ∷ ws) [] h k = absurd k
words_one text (t ∷ ts) at (x ∷ ws) (y ∷ vs) h k =
    ap (λ (z : Word). z ∷ ws) (word_one text at t x y h.0 k.0) ∙ ap (λ (zs : List Word). y ∷ zs) (words_one text ts (suc at) ws vs h.1 k.1)

-- ---- words write one text

texts_one : (a b : SeqTree) → seq_words a ≡ seq_words b → text_of a ≡ text_of b
texts_one a b same =
    let through = seq-run a in
    let read =
    ap (λ (ws : List Word). after begin 0 ws) (sym (append-nil (seq_words a)))
    ∙ after-front (seq_words a) [] begin through.to 0 through.ran
    ∙ after-nil through.to (length (seq_words a) + 0) in
    sym (tree-reads a (seq_words a) through.to refl read) ∙ tree-reads b (seq_words a) through.to same read

written_one : (text : List ℕ) (tokens : List Token) (a b : SeqTree) → WriteTree text tokens a → WriteTree text tokens b → text_of a ≡ text_of b
written_one text tokens a b (ws, are, is) (vs, say, other) = texts_one a b (sym is ∙ words_one text tokens 0 ws vs are say ∙ other)

seqs_one : (text : List ℕ) (tokens : List Token) (s z : SeqTerm) → IsSeqOf text tokens s → IsSeqOf text tokens z → s ≡ z
seqs_one text tokens s z h k = sym h.made ∙ ap (seq_made (name_at text tokens)) (written_one text tokens h.tree k.tree h.written k.written) ∙ k.made

-- ---- no text is accepted and refused

nothing_first : (rs : List SeqFault) (x : SeqFault) → rs ≡ [] → first_of rs ≡ Some x → ⊥
nothing_first rs x none first = let z : None ≡ Some x = sym (ap first_of none) ∙ first in cc

no_stop : (text : List ℕ) (tokens : List Token) (s : SeqTerm) (at : ℕ) → IsSeqOf text tokens s → StopAt text tokens at → ⊥
no_stop text tokens s at h (ws, are, stuck) =
    tree-no-fault h.tree ws at (words_one text tokens 0 ws h.written.0 are h.written.1 ∙ h.written.2) (stops-there ws at stuck)

no_first : (text : List ℕ) (tokens : List Token) (s : SeqTerm) (fault : SeqFault) → IsSeqOf text tokens s → IsRefusedText text tokens fault → ⊥
no_first text tokens s fault h k =
    nothing_first (refusals (name_at text tokens) (text_of k.tree)) fault
    (ap (refusals (name_at text tokens)) (written_one text tokens k.tree h.tree k.written h.written) ∙ h.fine)
    k.first

pub not_refused : AcceptedTextsAreNotRefused
not_refused text tokens seq number place read (by_lexeme fault at first number_is place_is) = tokens_no_fault text tokens fault at read.tokenized first
not_refused text tokens seq number place read (by_token ts at tokenized stop number_is place_is) =
    no_stop text tokens seq at read.accepted (subst (λ (xs : List Token). StopAt text xs at) (tokens_one text ts tokens tokenized read.tokenized) stop)
not_refused text tokens seq number place read (by_meaning ts why at tokenized first number_is place_is) =
    no_first text tokens seq (e.Refused why at) read.accepted (subst (λ (xs : List Token). IsRefusedText text xs (e.Refused why at)) (tokens_one text ts tokens tokenized read.tokenized) first)

-- ---- a text has one list of lines

pub one_list : LinesAreOne
one_list text seed count a b p q h k =
    let same : h.tokens ≡ k.tokens = tokens_one text h.tokens k.tokens h.read.tokenized k.read.tokenized in
    let made : h.seq ≡ k.seq = seqs_one text k.tokens h.seq k.seq (subst (λ (xs : List Token). IsSeqOf text xs h.seq) same h.read.accepted) k.read.accepted in (
      sym h.ended ∙ (λ i. some_long (record { name = name_at text (same i); seq = made i; seed = seed }) 1 count) ∙ k.ended,
      h.lines ∙ (λ i. lines_from (record { name = name_at text (same i); seq = made i; seed = seed }) 1 count) ∙ sym k.lines,
    )
