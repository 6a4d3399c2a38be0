-- Laws of the programs of lists, in terms of what one element is.
use Rattle.std.proofs.Common.{◌≡◌, ℕ, zero, suc, ◌+◌, ◌≤◌, max, true, false, List, [], ◌∷◌, ◌++◌, length, Option, Some, Ok, cond, refl, sym, ◌∙◌, ap, subst, arith, append_assoc, length-append}
use Rattle.std.proofs.lemmas.List.{append-nil}
use Rattle.svr_token.specs.declared.Lexeme.{Lexeme}
use Rattle.svr_token.specs.declared.Mark.TheVariants as m
use Rattle.svr_tree.specs.Tokens as tokens
use Rattle.svr_tree.specs.Tokens.{Tok, Entry, Any, FitEach, followed, listed, Each, OneOrMore}
use Rattle.svr_tree.specs.DeclGrammar.{greatest}
use Rattle.svr_reader.specs.Outcomes.{Turn, go, done, Parser, lexeme_at, turns}
use Rattle.svr_reader.specs.declared.fixed.Fixed.{Fixed}
use Rattle.svr_reader.specs.declared.fixed.Fixed.TheVariants as f
use Rattle.svr_reader.specs.Program.{Program, pure, bind, run, eat}
use Rattle.svr_reader.specs.Steps.{fixed_lexeme, is_fixed, sees}
use Rattle.svr_reader.specs.Lists.{WithHeight, with_last, list_step, listing_on, listing, until_step, until}
use Rattle.svr_reader.proofs.Steps.{bind_ok, bind_is, yields, turn_ok, when, takes_append, takes_parts, takes_length, lexeme_of, Saw, eat_ok, eats, eat_not, led_ok, led_takes, led_no}
use Rattle.svr_reader.proofs.Live.{AnyToken}
use Rattle.svr_reader.proofs.Layers.{ReadAs, IsSound, IsComplete}

-- elements behind those of s
pub record Behind {X : Type 0} (spell : List X → List Entry) (Are : List X → Type 0) (high : X → ℕ) (r : ℕ) (s : WithHeight (List X)) (i : List Tok) (y : WithHeight (List X)) (j : List Tok) : Type 0 where
  pub more : List X
  pub all : y.0 ≡ s.0 ++ more
  pub takes : FitEach i (spell more) j
  pub are : Are more
  pub height : y.1 ≡ max s.1 (greatest high more)
  pub low : s.1 ≤ r → y.1 ≤ r

pub none_behind : {X : Type 0} {spell : List X → List Entry} {Are : List X → Type 0} {high : X → ℕ} {r : ℕ} {i : List Tok} {y : WithHeight (List X)} {j : List Tok} → Behind spell Are high r ([], 0) i y j → ReadAs spell Are (greatest high) r i y j
none_behind {spell = spell} {Are = Are} {high = high} {i = i} {y = y} {j = j} d = record {
  takes = subst (λ v. FitEach i (spell v) j) (sym d.all) d.takes;
  is = subst Are (sym d.all) d.are;
  height = omega (arith, d.height, ap (greatest high) d.all);
  low = d.low (omega arith);
}

module _ {K : Type 0} {Ans : K → Type 0} (most r : ℕ) (sub : (k : K) → Parser (Ans k)) {X : Type 0} (p : Program K Ans (WithHeight X)) (spell : X → List Entry) (Is : X → Type 0) (high : X → ℕ) where
  abbrev R : {A : Type 0} → Program K Ans A → Parser A
  R q = run most r sub q

  abbrev Lists : Type 0
  Lists = WithHeight (List X)

  abbrev comma : Fixed
  comma = f.Mark m.Comma

  -- ---- x { "," x }

  list_step_ok : {G : Type 0} (b : ℕ) → IsSound spell Is high b (R p) → (s : Lists) (i : List Tok) (v : Turn Lists Lists) (j : List Tok) → R (list_step p s) i ≡ Ok (v, j)
      → ((x : WithHeight X) (mid : List Tok) → ReadAs spell Is high b i x mid → FitEach mid (Any (fixed_lexeme comma) ∷ []) j → v ≡ go (with_last s x) → G)
      → ((x : WithHeight X) → ReadAs spell Is high b i x j → v ≡ done (with_last s x) → G) → G
  unfolding list_step
  list_step_ok b ok s i v j h g d = bind_ok (R p i) _ (v, j) h (λ x mid e k. bind_ok (R (eat comma) mid) _ (v, j) k (λ more j2 e2 k2.
      let t = ok.at i x mid e in
      let both : ◌≡◌ {A = Turn Lists Lists × List Tok} (cond more (go (with_last s x)) (done (with_last s x)), j2) (v, j) = cc in
      when more (go (with_last s x)) (done (with_last s x)) v (ap (λ z. z.0) both)
      (λ w is. g x mid t (subst (λ z. FitEach mid (Any (fixed_lexeme comma) ∷ []) z) (ap (λ z. z.1) both) (subst (λ b1. Saw comma mid b1 j2) w (eat_ok most r sub comma mid (more, j2) e2))) (sym is))
      (λ w is. let none = subst (λ b1. Saw comma mid b1 j2) w (eat_ok most r sub comma mid (more, j2) e2) in
      d x (subst (λ z. ReadAs spell Is high b i x z) (sym none.0 ∙ ap (λ z. z.1) both) t) (sym is))))

  -- one element before others
  join_takes : (x : X) (more : List X) (i mid mid2 j : List Tok) → FitEach i (spell x) mid → FitEach mid (Any (fixed_lexeme comma) ∷ []) mid2 → OneOrMore Is more → FitEach mid2 (listed spell more) j → FitEach i (listed spell (x ∷ more)) j
  join_takes x [] i mid mid2 j a b o h = absurd o
  join_takes x (y ∷ more) i mid mid2 j a b o h = takes_append i (spell x) (followed spell (y ∷ more)) mid j a (takes_append mid (Any (fixed_lexeme comma) ∷ []) (spell y ++ followed spell more) mid2 j b h)

  each_of : (xs : List X) → OneOrMore Is xs → Each Is xs
  each_of [] o = absurd o
  each_of (x ∷ xs) o = o

  list_turns_sound : (b : ℕ) → IsSound spell Is high b (R p) → (n : ℕ) (s : Lists) (i : List Tok) (y : Lists × List Tok) → turns n (λ s2. R (list_step p s2)) s i ≡ Ok y → Behind (listed spell) (OneOrMore Is) high b s i y.0 y.1
  list_turns_sound b ok zero s i y h = absurd (cc)
  list_turns_sound b ok (suc n) s i y h = turn_ok (R (list_step p s) i) (turns n (λ s2. R (list_step p s2))) y h
      (λ s2 j e g. list_step_ok b ok s i (go s2) j e
      (λ x mid t eaten is. let same : s2 ≡ with_last s x = cc in
      let d = list_turns_sound b ok n (with_last s x) j y (subst (λ z. turns n (λ s2. R (list_step p s2)) z j ≡ Ok y) same g) in
      record {
        more = x.0 ∷ d.more;
        all = d.all ∙ append_assoc s.0 (x.0 ∷ []) d.more;
        takes = join_takes x.0 d.more i mid j y.1 t.takes eaten d.are d.takes;
        are = (t.is, each_of d.more d.are);
        height = omega (arith, d.height, t.height);
        low = λ low. d.low (omega (arith, low, t.low));
      })
      (λ x t is. absurd (cc)))
      (λ a j e g. list_step_ok b ok s i (done a) j e
      (λ x mid t eaten is. absurd (cc))
      (λ x t is. let same : a ≡ with_last s x = cc in
      yields (Behind (listed spell) (OneOrMore Is) high b s i) a j y g (rw same (record {
        more = x.0 ∷ [];
        all = refl;
        takes = takes_append i (spell x.0) [] j j t.takes refl;
        are = (t.is, tt);
        height = omega (arith, t.height);
        low = λ low. omega (arith, low, t.low);
      }))))

  pub listing_on_sound : (b : ℕ) → IsSound spell Is high b (R p) → (s : Lists) (i : List Tok) (y : Lists) (j : List Tok) → R (listing_on p s) i ≡ Ok (y, j) → Behind (listed spell) (OneOrMore Is) high b s i y j
  unfolding listing_on
  listing_on_sound b ok s i y j h = list_turns_sound b ok most s i (y, j) h

  pub listing_sound : {b : ℕ} → IsSound spell Is high b (R p) → IsSound (listed spell) (OneOrMore Is) (greatest high) b (R (listing p))
  unfolding listing
  listing_sound {b = b} ok = record { at = λ i y j h. none_behind (listing_on_sound b ok ([], 0) i y j h) }

  module _ (b : ℕ) (D : Option Lexeme → Type 0) (ok : IsComplete spell Is high most b D (R p)) (fills : (x : X) → Is x → 1 ≤ length (spell x)) where
    list_turns_complete : D (Some (fixed_lexeme comma)) → (n : ℕ) (s : Lists) (xs : List X) (i rest : List Tok) → length i ≤ n + length rest → length i ≤ most + length rest → OneOrMore Is xs → greatest high xs ≤ b
        → FitEach i (listed spell xs) rest → D (lexeme_at rest) → sees comma rest ≡ false → turns n (λ s2. R (list_step p s2)) s i ≡ Ok ((s.0 ++ xs, max s.1 (greatest high xs)), rest)
    unfolding list_step
    list_turns_complete dc n s [] i rest full few o low h d c = absurd o
    list_turns_complete dc zero s (x ∷ xs) i rest full few o low h d c = absurd (omega (arith, full, fills x o.0, takes_length i (listed spell (x ∷ xs)) rest h, length-append (spell x) (followed spell xs)))
    list_turns_complete dc (suc n) s (x ∷ []) i rest full few o low h d c =
        let q = takes_parts i (spell x) [] rest h in
        let h2 : FitEach i (spell x) rest = subst (λ v. FitEach i (spell x) v) q.2 q.1 in
        bind_is (R (list_step p s) i) _ (done (with_last s (x, high x))) rest _
        (bind_is (R p i) _ (x, high x) rest _ (ok.at x i rest few o.0 (omega (arith, low)) h2 d)
        (bind_is (R (eat comma) rest) _ false rest _ (eat_not most r sub comma rest c) refl))
        (let tallest : max s.1 (high x) ≡ max s.1 (max (high x) 0) = omega arith in ap (λ v. Ok ((s.0 ++ x ∷ [], v), rest)) tallest)
    list_turns_complete dc (suc n) s (x ∷ y ∷ ys) i rest full few o low h d c =
        let q = takes_parts i (spell x) (followed spell (y ∷ ys)) rest h in
        let z = takes_parts q.0 (Any (fixed_lexeme comma) ∷ []) (listed spell (y ∷ ys)) rest q.2 in
        let long = takes_length i (spell x) q.0 q.1 in
        let one = takes_length q.0 (Any (fixed_lexeme comma) ∷ []) z.0 z.1 in
        let behind = takes_length q.0 (followed spell (y ∷ ys)) rest q.2 in
        let next : D (lexeme_at q.0) = subst D (sym (lexeme_of q.0 rest (fixed_lexeme comma) (listed spell (y ∷ ys)) q.2)) dc in
        bind_is (R (list_step p s) i) _ (go (with_last s (x, high x))) z.0 _
        (bind_is (R p i) _ (x, high x) q.0 _ (ok.at x i q.0 (omega (arith, few, behind)) o.0 (omega (arith, low)) q.1 next)
        (bind_is (R (eat comma) q.0) _ true z.0 _ (eats most r sub comma q.0 z.0 z.1) refl))
        (list_turns_complete dc n (with_last s (x, high x)) (y ∷ ys) z.0 rest (omega (arith, full, long, one)) (omega (arith, few, long, one)) o.1 (omega (arith, low)) z.2 d c
        ∙ (let tallest : max (max s.1 (high x)) (max (high y) (greatest high ys)) ≡ max s.1 (max (high x) (max (high y) (greatest high ys))) = omega arith in
        let all = append_assoc s.0 (x ∷ []) (y ∷ ys) in cc))

    pub listing_on_complete : D (Some (fixed_lexeme comma)) → (s : Lists) (xs : List X) (i rest : List Tok) → length i ≤ most + length rest → OneOrMore Is xs → greatest high xs ≤ b
        → FitEach i (listed spell xs) rest → D (lexeme_at rest) → sees comma rest ≡ false → R (listing_on p s) i ≡ Ok ((s.0 ++ xs, max s.1 (greatest high xs)), rest)
    unfolding listing_on
    listing_on_complete dc s xs i rest few o low h d c = list_turns_complete dc most s xs i rest few few o low h d c

    pub listing_complete : {C : Option Lexeme → Type 0} → D (Some (fixed_lexeme comma)) → ((q : Option Lexeme) → C q → D q) → ((q : Option Lexeme) → C q → is_fixed comma q ≡ false)
        → IsComplete (listed spell) (OneOrMore Is) (greatest high) most b C (R (listing p))
    unfolding listing
    listing_complete dc within apart = record {
      at = λ xs i rest few o low h c. listing_on_complete dc ([], 0) xs i rest few o low h (within (lexeme_at rest) c) (apart (lexeme_at rest) c)
          ∙ (let least : max 0 (greatest high xs) ≡ greatest high xs = omega arith in ap (λ v. Ok ((xs, v), rest)) least);
    }

  -- ---- { x } and the word or mark that ends them

  module _ (k : Fixed) where
    abbrev ended : List X → List Entry
    ended xs = tokens.each_spelling spell xs ++ Any (fixed_lexeme k) ∷ []

    until_step_ok : {G : Type 0} (b : ℕ) → IsSound spell Is high b (R p) → (s : Lists) (i : List Tok) (v : Turn Lists Lists) (j : List Tok) → R (until_step k p s) i ≡ Ok (v, j)
        → ((x : WithHeight X) → ReadAs spell Is high b i x j → v ≡ go (with_last s x) → G) → (FitEach i (Any (fixed_lexeme k) ∷ []) j → v ≡ done s → G) → G
    unfolding until_step
    until_step_ok b ok s i v j h g d = led_ok most r sub k (pure (done s)) (bind p (λ x. pure (go (with_last s x)))) i (v, j) h
        (λ mid t e. let both : ◌≡◌ {A = Turn Lists Lists × List Tok} (done s, mid) (v, j) = cc in d (subst (λ z. FitEach i (Any (fixed_lexeme k) ∷ []) z) (ap (λ z. z.1) both) t) (sym (ap (λ z. z.0) both)))
        (λ _ e. bind_ok (R p i) _ (v, j) e (λ x mid e2 k2. let both : ◌≡◌ {A = Turn Lists Lists × List Tok} (go (with_last s x), mid) (v, j) = cc in
        g x (subst (λ z. ReadAs spell Is high b i x z) (ap (λ z. z.1) both) (ok.at i x mid e2)) (sym (ap (λ z. z.0) both))))

    pub until_turns_sound : (b : ℕ) → IsSound spell Is high b (R p) → (n : ℕ) (s : Lists) (i : List Tok) (y : Lists × List Tok) → turns n (λ s2. R (until_step k p s2)) s i ≡ Ok y → Behind ended (Each Is) high b s i y.0 y.1
    until_turns_sound b ok zero s i y h = absurd (cc)
    until_turns_sound b ok (suc n) s i y h = turn_ok (R (until_step k p s) i) (turns n (λ s2. R (until_step k p s2))) y h
        (λ s2 j e g. until_step_ok b ok s i (go s2) j e
        (λ x t is. let same : s2 ≡ with_last s x = cc in
        let d = until_turns_sound b ok n (with_last s x) j y (subst (λ z. turns n (λ s2. R (until_step k p s2)) z j ≡ Ok y) same g) in
        record {
          more = x.0 ∷ d.more;
          all = d.all ∙ append_assoc s.0 (x.0 ∷ []) d.more;
          takes = subst (λ es. FitEach i es y.1) (sym (append_assoc (spell x.0) (tokens.each_spelling spell d.more) (Any (fixed_lexeme k) ∷ []))) (takes_append i (spell x.0) (ended d.more) j y.1 t.takes d.takes);
          are = (t.is, d.are);
          height = omega (arith, d.height, t.height);
          low = λ low. d.low (omega (arith, low, t.low));
        })
        (λ t is. absurd (cc)))
        (λ a j e g. until_step_ok b ok s i (done a) j e
        (λ x t is. absurd (cc))
        (λ t is. let same : a ≡ s = cc in
        yields (Behind ended (Each Is) high b s i) a j y g (rw same (record {
          more = [];
          all = sym (append-nil s.0);
          takes = t;
          are = tt;
          height = omega arith;
          low = λ low. low;
        }))))

    pub until_sound : {b : ℕ} → IsSound spell Is high b (R p) → IsSound ended (Each Is) (greatest high) b (R (until k p))
    unfolding until
    until_sound {b = b} ok = record { at = λ i y j h. none_behind (until_turns_sound b ok most ([], 0) i (y, j) h) }

    module _ (b : ℕ) (D : Option Lexeme → Type 0) (ok : IsComplete spell Is high most b D (R p)) (fills : (x : X) → Is x → 1 ≤ length (spell x))
        (begins : (x : X) (i rest : List Tok) → Is x → FitEach i (spell x) rest → D (lexeme_at i) × (sees k i ≡ false)) (dk : D (Some (fixed_lexeme k))) where
      follows : (xs : List X) (i rest : List Tok) → Each Is xs → FitEach i (ended xs) rest → D (lexeme_at i)
      follows [] i rest o h = subst D (sym (lexeme_of i rest (fixed_lexeme k) [] h)) dk
      follows (x ∷ xs) i rest o h = let q = takes_parts i (spell x) (ended xs) rest (subst (λ es. FitEach i es rest) (append_assoc (spell x) (tokens.each_spelling spell xs) (Any (fixed_lexeme k) ∷ [])) h) in (begins x i q.0 o.0 q.1).0

      pub until_turns_complete : (n : ℕ) (s : Lists) (xs : List X) (i rest : List Tok) → length i ≤ n + length rest → length i ≤ most + length rest → Each Is xs → greatest high xs ≤ b
          → FitEach i (ended xs) rest → turns n (λ s2. R (until_step k p s2)) s i ≡ Ok ((s.0 ++ xs, max s.1 (greatest high xs)), rest)
      unfolding until_step
      until_turns_complete zero s [] i rest full few o low h = absurd (omega (arith, full, takes_length i (Any (fixed_lexeme k) ∷ []) rest h))
      until_turns_complete zero s (x ∷ xs) i rest full few o low h = absurd (omega (arith, full, fills x o.0, takes_length i (ended (x ∷ xs)) rest h, length-append (spell x ++ tokens.each_spelling spell xs) (Any (fixed_lexeme k) ∷ [])))
      until_turns_complete (suc n) s [] i rest full few o low h =
          bind_is (R (until_step k p s) i) _ (done s) rest _
          (led_takes most r sub k (pure (done s)) (bind p (λ x. pure (go (with_last s x)))) i rest h)
          (let tallest : s.1 ≡ max s.1 0 = omega arith in ap (λ v. Ok ((v, s.1), rest)) (sym (append-nil s.0)) ∙ ap (λ v. Ok ((s.0 ++ [], v), rest)) tallest)
      until_turns_complete (suc n) s (x ∷ xs) i rest full few o low h =
          let q = takes_parts i (spell x) (ended xs) rest (subst (λ es. FitEach i es rest) (append_assoc (spell x) (tokens.each_spelling spell xs) (Any (fixed_lexeme k) ∷ [])) h) in
          let long = takes_length i (spell x) q.0 q.1 in
          let some = fills x o.0 in
          let behind = takes_length q.0 (ended xs) rest q.2 in
          bind_is (R (until_step k p s) i) _ (go (with_last s (x, high x))) q.0 _
          (led_no most r sub k (pure (done s)) (bind p (λ x. pure (go (with_last s x)))) i (begins x i q.0 o.0 q.1).1
          ∙ bind_is (R p i) _ (x, high x) q.0 _ (ok.at x i q.0 (omega (arith, few, behind)) o.0 (omega (arith, low)) q.1 (follows xs q.0 rest o.1 q.2)) refl)
          (until_turns_complete n (with_last s (x, high x)) xs q.0 rest (omega (arith, full, long, some)) (omega (arith, few, long)) o.1 (omega (arith, low)) q.2
          ∙ (let tallest : max (max s.1 (high x)) (greatest high xs) ≡ max s.1 (max (high x) (greatest high xs)) = omega arith in
          let all = append_assoc s.0 (x ∷ []) xs in cc))

      pub until_complete : IsComplete ended (Each Is) (greatest high) most b AnyToken (R (until k p))
      unfolding until
      until_complete = record {
        at = λ xs i rest few o low h c. until_turns_complete most ([], 0) xs i rest few few o low h
            ∙ (let least : max 0 (greatest high xs) ≡ greatest high xs = omega arith in ap (λ v. Ok ((xs, v), rest)) least);
      }
