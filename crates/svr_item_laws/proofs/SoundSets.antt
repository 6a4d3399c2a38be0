-- What is read as a set, or as an `else`, is in the grammar; and no `else` follows that it could take.
use Rattle.std.proofs.Common.{◌≡◌, ℕ, ◌≤◌, true, false, List, [], ◌∷◌, ◌++◌, Ok, refl, sym, ◌∙◌, subst, arith}
use Rattle.svr_token.specs.declared.Word.TheVariants as w
use Rattle.svr_token.specs.declared.Mark.TheVariants as m
use Rattle.svr_tree.specs.Tokens as tokens
use Rattle.svr_tree.specs.Tokens.{Tok, FitEach, mark, word, Each}
use Rattle.svr_tree.specs.DeclGrammar.{greatest}
use Rattle.svr_tree.specs.ExprTree.{ExprTree}
use Rattle.svr_tree.specs.ItemTree.{ItemTree, branch, items_of, SetTree, ElseTree, no_else}
use Rattle.svr_tree.specs.ItemGrammar.{item_spelling, items_spelling, set_spelling, else_spelling, item_is_braced, takes_else, set_takes_else, IsItem, IsSet, IsElse, item_height, set_height, else_height}
use Rattle.svr_reader.specs.Outcomes.{Parser, lexeme_at}
use Rattle.svr_reader.specs.declared.fixed.Fixed.{Fixed}
use Rattle.svr_reader.specs.Program.{pure, call, run}
use Rattle.svr_reader.specs.Steps.{fixed_lexeme, sees}
use Rattle.svr_reader.specs.Lists.{WithHeight}
use Rattle.svr_reader.proofs.Steps.{bind_ok, yields, takes_append, lexeme_of, fixed_self, led_ok}
use Rattle.svr_reader.proofs.Layers.{IsSound}
use Rattle.svr_reader.proofs.Lists.{until_sound}
use Rattle.svr_item.specs.ItemRules.{Part, Ans, Rule, an_item, items, braced_set, single_set, item_set, else_branch, otherwise, part}
use Rattle.svr_item_laws.proofs.Trees.{NotElse, open_brace, close_brace, else_word, either, items_spelling_is, items_height_is, are_items}

-- an item that was read: no `else` follows that it could take
pub record ItemRead (Is : ItemTree → Type 0) (r : ℕ) (i : List Tok) (x : WithHeight ItemTree) (j : List Tok) : Type 0 where
  pub takes : FitEach i (item_spelling x.0) j
  pub is : Is x.0
  pub height : x.1 ≡ item_height x.0
  pub low : x.1 ≤ r
  pub closed : takes_else x.0 ≡ true → NotElse (lexeme_at j)
  pub braced : sees open_brace i ≡ false → item_is_braced x.0 ≡ false

pub record SetRead (r : ℕ) (i : List Tok) (x : WithHeight SetTree) (j : List Tok) : Type 0 where
  pub takes : FitEach i (set_spelling x.0) j
  pub is : IsSet x.0
  pub height : x.1 ≡ set_height x.0
  pub low : x.1 ≤ r
  pub closed : set_takes_else x.0 ≡ true → NotElse (lexeme_at j)

pub record ElseRead (r : ℕ) (met : SetTree) (i : List Tok) (x : WithHeight ElseTree) (j : List Tok) : Type 0 where
  pub takes : FitEach i (else_spelling x.0) j
  pub is : IsElse met x.0
  pub height : x.1 ≡ else_height x.0
  pub low : x.1 ≤ r
  pub closed : (at : ℕ) (t : ExprTree) → takes_else (branch at t met x.0) ≡ true → NotElse (lexeme_at j)

abbrev pub ReadsItems : (Is : ItemTree → Type 0) (r : ℕ) → Parser (WithHeight ItemTree) → Type 0
ReadsItems Is r p = (i : List Tok) (x : WithHeight ItemTree) (j : List Tok) → p i ≡ Ok (x, j) → ItemRead Is r i x j

pub sound_items : {Is : ItemTree → Type 0} {r : ℕ} {p : Parser (WithHeight ItemTree)} → ReadsItems Is r p → IsSound item_spelling Is item_height r p
sound_items v = record { at = λ i x j h. let d = v i x j h in record { takes = d.takes; is = d.is; height = d.height; low = d.low } }

-- the word or mark stands there
pub seen : (k : Fixed) (i j : List Tok) → FitEach i (tokens.Any (fixed_lexeme k) ∷ []) j → sees k i ≡ true
seen k i j h = fixed_self k (lexeme_at i) (lexeme_of i j (fixed_lexeme k) [] h)

module _ (most r : ℕ) (below : Parser (WithHeight ItemTree)) (ok : ReadsItems IsItem r below) where
  abbrev sub : (k : Part) → Parser (Ans k)
  sub = part most r below

  abbrev R : {A : Type 0} → Rule A → Parser A
  R p = run most r sub p

  abbrev items_ended : List ItemTree → List tokens.Entry
  items_ended xs = tokens.each_spelling item_spelling xs ++ mark m.CloseBrace ∷ []

  pub items_sound : IsSound items_ended (Each IsItem) (greatest item_height) r (R items)
  unfolding items
  items_sound = until_sound most r sub (call an_item) item_spelling IsItem item_height close_brace (sound_items ok)

  braced_set_sound : (i mid : List Tok) (y : WithHeight SetTree × List Tok) → FitEach i (mark m.OpenBrace ∷ []) mid → R braced_set mid ≡ Ok y → SetRead r i y.0 y.1
  unfolding braced_set
  braced_set_sound i mid y t h = bind_ok (R items mid) _ y h (λ xs j e g.
      let d = items_sound.at mid xs j e in
      yields (SetRead r i) _ _ y g (record {
        takes = takes_append i (mark m.OpenBrace ∷ []) (items_spelling (items_of xs.0) ++ mark m.CloseBrace ∷ []) mid j t (subst (λ es. FitEach mid (es ++ mark m.CloseBrace ∷ []) j) (sym (items_spelling_is xs.0)) d.takes);
        is = are_items xs.0 d.is;
        height = d.height ∙ sym (items_height_is xs.0);
        low = d.low;
        closed = λ v. absurd (cc);
      }))

  single_set_sound : (i : List Tok) (y : WithHeight SetTree × List Tok) → sees open_brace i ≡ false → R single_set i ≡ Ok y → SetRead r i y.0 y.1
  unfolding single_set
  single_set_sound i y w h = bind_ok (below i) _ y h (λ x j e g.
      let d = ok i x j e in
      yields (SetRead r i) _ _ y g (record {
        takes = takes_append i (item_spelling x.0) [] j j d.takes refl;
        is = (d.is, d.braced w);
        height = omega (arith, d.height);
        low = d.low;
        closed = d.closed;
      }))

  pub set_sound : (i : List Tok) (y : WithHeight SetTree × List Tok) → R item_set i ≡ Ok y → SetRead r i y.0 y.1
  unfolding item_set
  set_sound i y h = led_ok most r sub open_brace braced_set single_set i y h (λ mid t e. braced_set_sound i mid y t e) (λ w e. single_set_sound i y w e)

  else_sound : (met : SetTree) (i mid : List Tok) (y : WithHeight ElseTree × List Tok) → (set_takes_else met ≡ true → NotElse (lexeme_at i)) → FitEach i (word w.Else ∷ []) mid → R else_branch mid ≡ Ok y → ElseRead r met i y.0 y.1
  unfolding else_branch
  else_sound met i mid y closed t h = bind_ok (R item_set mid) _ y h (λ s j e g.
      let d = set_sound mid (s, j) e in
      let here = seen else_word i mid t in
      yields (ElseRead r met i) _ _ y g (record {
        takes = takes_append i (word w.Else ∷ []) (set_spelling s.0) mid j t d.takes;
        is = (either (set_takes_else met) (λ v. let no = closed v in absurd (cc)) (λ v. v), d.is);
        height = d.height;
        low = d.low;
        closed = λ at t2. d.closed;
      }))

  pub otherwise_sound : (met : SetTree) (i : List Tok) (y : WithHeight ElseTree × List Tok) → (set_takes_else met ≡ true → NotElse (lexeme_at i)) → R otherwise i ≡ Ok y → ElseRead r met i y.0 y.1
  unfolding otherwise
  otherwise_sound met i y closed h = led_ok most r sub else_word else_branch (pure (no_else, 0)) i y h
      (λ mid t e. else_sound met i mid y closed t e)
      (λ v e. yields (ElseRead r met i) (no_else, 0) i y e (record { takes = refl; is = tt; height = refl; low = omega arith; closed = λ at t _. v }))
