-- Where there is no room for a construct, and what more room changes there.
use Rattle.std.proofs.Common.{◌≡◌, ℕ, suc, ◌≤◌, Bool, true, false, List, [], ◌∷◌, length, Option, Some, Ok, Err, cond, ◌⊎◌, inl, inr, refl, sym, ◌∙◌, ap, subst, arith}
use Rattle.svr_token.specs.declared.Lexeme.{Lexeme}
use Rattle.svr_token.specs.declared.Lexeme.TheVariants as lexeme
use Rattle.svr_token.specs.declared.NameKind.{NameKind}
use Rattle.svr_tree.specs.Tokens.{Tok}
use Rattle.svr_reader.specs.Outcomes.{Stop, Stuck, Unexpected, TooDeep, Parser, and_then, lexeme_at, number_at}
use Rattle.svr_reader.specs.Steps.{named_by, named}
use Rattle.svr_reader.specs.Program.{Program, bind, refuse, peek, here, take, known_name, enter, call, run}
use Rattle.svr_reader.specs.Lists.{no_room}
use Rattle.svr_reader.proofs.Steps.{when, entered_is}
use Rattle.svr_reader.proofs.Local.{IsLocal, StaysFor, same_lexeme, local_run}
use Rattle.svr_reader.proofs.Growth.{Past, past_by, past_then, Grown, Grows}
use Rattle.svr_reader.proofs.Live.{Completes, Later, fault_len, fault_deep}

module _ (X : Type 0) (f : Option Lexeme → Bool) where
  none_at : (i : List Tok) (b : Bool) → f (lexeme_at i) ≡ b → StaysFor (no_room {A = X} f) i (cond b (Err (TooDeep (length i))) (Err (Unexpected (length i))))
  none_at i true h = (i, refl, record { front = []; is = refl; stays = λ k s. rw (ap f (sym (same_lexeme i k s)) ∙ h) refl })
  none_at i false h = (i, refl, record { front = []; is = refl; stays = λ k s. rw (ap f (sym (same_lexeme i k s)) ∙ h) refl })

  pub none_local : IsLocal (no_room {A = X} f)
  none_local = record { at = λ i. none_at i (f (lexeme_at i)) refl }

  none_fault : (i : List Tok) (e : Stop) → no_room {A = X} f i ≡ Err e → (e ≡ TooDeep (length i)) ⊎ (e ≡ Unexpected (length i))
  none_fault i e h = when (f (lexeme_at i)) (Err (TooDeep (length i))) (Err (Unexpected (length i))) (Err e) h (λ _ g. inl (cc)) (λ _ g. inr (cc))

  pub none_never : (i : List Tok) (y : X × List Tok) → no_room {A = X} f i ≡ Ok y → ⊥
  none_never i y h = when (f (lexeme_at i)) (Err (TooDeep (length i))) (Err (Unexpected (length i))) (Ok y) h (λ _ e. absurd (cc)) (λ _ e. absurd (cc))

  pub none_later : (most : ℕ) (C : Option Lexeme → Type 0) (Q : X → Type 0) → Later most C Q (no_room {A = X} f)
  none_later most C Q = record {
    later = λ i e n lim h fa behind. elim (none_fault i e h) as (λ _. Completes C Q (no_room {A = X} f) i n) [ inl a ↦ absurd (omega (arith, behind, fault_deep e n (length i) a fa)) | inr a ↦ absurd (omega (arith, behind, fault_len e n (length i) a fa)) ];
    safe = λ i lim h. elim (none_fault i Stuck h) as (λ _. ⊥) [ inl a ↦ absurd (cc) | inr a ↦ absurd (cc) ];
  }

  -- with as much room nothing changes; with more, the construct gets past a token of f, and refuses any other
  none_grown : (wider : Bool) (q : Parser X) → (wider ≡ false → (i : List Tok) → q i ≡ no_room f i) → (wider ≡ true → (i : List Tok) → f (lexeme_at i) ≡ true → Past (length i) (q i))
      → (wider ≡ true → (i : List Tok) → f (lexeme_at i) ≡ false → q i ≡ Err (Unexpected (length i))) → (i : List Tok) (b : Bool) → f (lexeme_at i) ≡ b → Grown wider (cond b (Err (TooDeep (length i))) (Err (Unexpected (length i)))) (q i)
  none_grown true q same past none i true h = past refl i h
  none_grown true q same past none i false h = none refl i h
  none_grown false q same past none i true h = same refl i ∙ ap (λ b. cond b (Err (TooDeep (length i))) (Err (Unexpected (length i)))) h
  none_grown false q same past none i false h = same refl i ∙ ap (λ b. cond b (Err (TooDeep (length i))) (Err (Unexpected (length i)))) h

  pub grows_none : (wider : Bool) (q : Parser X) → (wider ≡ false → (i : List Tok) → q i ≡ no_room f i) → (wider ≡ true → (i : List Tok) → f (lexeme_at i) ≡ true → Past (length i) (q i))
      → (wider ≡ true → (i : List Tok) → f (lexeme_at i) ≡ false → q i ≡ Err (Unexpected (length i))) → Grows wider (no_room f) q
  grows_none wider q same past none = record { at = λ i. none_grown wider q same past none i (f (lexeme_at i)) refl }

-- ---- what a program does with its first token

module _ {K : Type 0} {Ans : K → Type 0} (most r : ℕ) (sub : (k : K) → Parser (Ans k)) (ls : (k : K) → IsLocal (sub k)) where
  -- before what spells q: it gets past that token, or refuses it
  pub record OpensAt {A : Type 0} (q : Option Lexeme) (b : Bool) (p : Program K Ans A) : Type 0 where
    pub past : (i : List Tok) → lexeme_at i ≡ q → b ≡ true → Past (length i) (run most r sub p i)
    pub refuses : (i : List Tok) → lexeme_at i ≡ q → b ≡ false → run most r sub p i ≡ Err (Unexpected (length i))

  -- before any token: it gets past one of f, and refuses any other
  pub record OpensBy {A : Type 0} (f : Option Lexeme → Bool) (p : Program K Ans A) : Type 0 where
    pub opens : (q : Option Lexeme) → OpensAt q (f q) p

  lo : {A : Type 0} (p : Program K Ans A) → IsLocal (run most r sub p)
  lo p = local_run most r sub ls p

  pub opens_refuse : {A : Type 0} {q : Option Lexeme} → OpensAt {A = A} q false refuse
  opens_refuse = record { past = λ i e h. absurd (cc); refuses = λ i e h. refl }

  take_past : {A : Type 0} (q : Lexeme) (g : ℕ → Program K Ans A) (i : List Tok) → lexeme_at i ≡ Some q → Past (length i) (run most r sub (bind take g) i)
  take_past q g [] e = absurd (cc)
  take_past q g (t ∷ i) e = past_by (run most r sub (g t.at)) i (suc (length i)) (run most r sub (g t.at) i) (omega arith) ((lo (g t.at)).at i)

  pub opens_take : {A : Type 0} {q : Lexeme} {g : ℕ → Program K Ans A} → OpensAt (Some q) true (bind take g)
  opens_take {q = q} {g = g} = record { past = λ i e h. take_past q g i e; refuses = λ i e h. absurd (cc) }

  name_past : (k : NameKind) (i : List Tok) → lexeme_at i ≡ Some (lexeme.Name k) → Past (length i) (named i)
  unfolding named
  name_past k [] e = absurd (cc)
  name_past k (t ∷ i) e = subst (λ q. Past (suc (length i)) (named_by q (t ∷ i))) (sym e) (omega arith)

  pub opens_name : {k : NameKind} → OpensAt (Some (lexeme.Name k)) true known_name
  opens_name {k = k} = record { past = λ i e h. name_past k i e; refuses = λ i e h. absurd (cc) }

  -- a token that is no name is refused
  pub opens_no_name : {q : Option Lexeme} → ((i : List Tok) → named_by q i ≡ Err (Unexpected (length i))) → OpensAt q false known_name
  unfolding named
  opens_no_name h = record { past = λ i e b. absurd (cc); refuses = λ i e b. subst (λ v. named_by v i ≡ Err (Unexpected (length i))) (sym e) (h i) }

  enter_past : {A : Type 0} (q : Lexeme) (h : ℕ) → h ≤ r → (g : ℕ → Program K Ans A) (i : List Tok) → lexeme_at i ≡ Some q → Past (length i) (run most r sub (bind (enter h) g) i)
  enter_past q h fits g [] e = absurd (cc)
  enter_past q h fits g (t ∷ i) e = rw (entered_is r h t i fits) (past_by (run most r sub (g t.at)) i (suc (length i)) (run most r sub (g t.at) i) (omega arith) ((lo (g t.at)).at i))

  pub opens_enter : {A : Type 0} {q : Lexeme} {h : ℕ} {g : ℕ → Program K Ans A} → h ≤ r → OpensAt (Some q) true (bind (enter h) g)
  opens_enter {q = q} {h = h} {g = g} fits = record { past = λ i e b. enter_past q h fits g i e; refuses = λ i e b. absurd (cc) }

  -- a construct below does so
  pub opens_call : {k : K} {q : Option Lexeme} {b : Bool} → ((i : List Tok) → lexeme_at i ≡ q → b ≡ true → Past (length i) (sub k i)) → ((i : List Tok) → lexeme_at i ≡ q → b ≡ false → sub k i ≡ Err (Unexpected (length i)))
      → OpensAt q b (call k)
  opens_call h g = record { past = h; refuses = g }

  pub opens_bind : {A B : Type 0} {q : Option Lexeme} {b : Bool} {p : Program K Ans A} {g : A → Program K Ans B} → OpensAt q b p → OpensAt q b (bind p g)
  opens_bind {p = p} {g = g} o = record {
    past = λ i e h. past_then (length i) (λ x. run most r sub (g x)) (λ x. lo (g x)) (run most r sub p i) (o.past i e h);
    refuses = λ i e h. ap (λ v. and_then v (λ x. run most r sub (g x))) (o.refuses i e h);
  }

  pub opens_here : {A : Type 0} {q : Option Lexeme} {b : Bool} {g : ℕ → Program K Ans A} → ((n : ℕ) → OpensAt q b (g n)) → OpensAt q b (bind here g)
  opens_here o = record { past = λ i e h. (o (number_at i)).past i e h; refuses = λ i e h. (o (number_at i)).refuses i e h }

  pub opens_peek : {A : Type 0} {q : Option Lexeme} {b : Bool} {g : Option Lexeme → Program K Ans A} → OpensAt q b (g q) → OpensAt q b (bind peek g)
  opens_peek {q = q} {g = g} o = record {
    past = λ i e h. rw e (o.past i e h);
    refuses = λ i e h. rw e (o.refuses i e h);
  }

  pub past_of : {A : Type 0} {f : Option Lexeme → Bool} {p : Program K Ans A} → OpensBy f p → (i : List Tok) → f (lexeme_at i) ≡ true → Past (length i) (run most r sub p i)
  past_of o i h = (o.opens (lexeme_at i)).past i refl h

  pub refused_of : {A : Type 0} {f : Option Lexeme → Bool} {p : Program K Ans A} → OpensBy f p → (i : List Tok) → f (lexeme_at i) ≡ false → run most r sub p i ≡ Err (Unexpected (length i))
  refused_of o i h = (o.opens (lexeme_at i)).refuses i refl h
