-- Fronts of readings, and that a list of tokens has one answer.
use Rattle.std.proofs.Common.{◌≡◌, ℕ, zero, suc, ◌+◌, ◌<◌, ◌≤◌, List, [], ◌∷◌, ◌++◌, length, take, drop, refl, sym, ◌∙◌, ap, subst, arith, append_assoc, length-append}
use Rattle.std.proofs.lemmas.List.{append-nil, take-append-drop}
use Rattle.svr_tree.specs.Tokens.{Tok}
use Rattle.svr_reader.specs.Fronts.{IsFront, GoesOn, token, end, IsUnexpected, IsTooDeep, HasOneAnswer}
use Rattle.svr_reader.proofs.Local.{SameHead}
use Rattle.svr_reader.proofs.Live.{split}

pub same_fronts : (a b j k : List Tok) → a ++ j ≡ b ++ k → length j ≡ length k → a ≡ b
same_fronts [] [] j k e l = refl
same_fronts [] (t ∷ b) j k e l = absurd (let f : length j ≡ suc (length b) + length k = ap length e ∙ length-append (t ∷ b) k in omega arith)
same_fronts (t ∷ a) [] j k e l = absurd (let f : suc (length a) + length j ≡ length k = sym (length-append (t ∷ a) j) ∙ ap length e in omega arith)
same_fronts (t ∷ a) (u ∷ b) j k e l = let first : t ≡ u = cc in let others : a ++ j ≡ b ++ k = cc in ap (λ z. t ∷ z) (same_fronts a b j k others l) ∙ ap (λ z. z ∷ b) first

-- the rest behind equal fronts
same_rests : (a b j k : List Tok) → a ++ j ≡ b ++ k → a ≡ b → j ≡ k
same_rests [] b j k e h = e ∙ ap (λ z. z ++ k) (sym h)
same_rests (t ∷ a) [] j k e h = absurd (omega (arith, ap length h))
same_rests (t ∷ a) (u ∷ b) j k e h = let others : a ++ j ≡ b ++ k = cc in let front : a ≡ b = cc in same_rests a b j k others front

-- a shorter front of one list is a front of a longer one
cut : (front : List Tok) (t : Tok) (rest front2 rest2 : List Tok) → front ++ t ∷ rest ≡ front2 ++ rest2 → length rest2 < suc (length rest) → (m : List Tok) × (front2 ≡ (front ++ t ∷ []) ++ m)
cut [] t rest [] rest2 e lt = absurd (omega (arith, ap length e))
cut [] t rest (u ∷ front2) rest2 e lt = let first : t ≡ u = cc in (front2, ap (λ z. z ∷ front2) (sym first))
cut (v ∷ front) t rest [] rest2 e lt = absurd (omega (arith, ap length e, length-append front (t ∷ rest)))
cut (v ∷ front) t rest (u ∷ front2) rest2 e lt = let first : v ≡ u = cc in let others : front ++ t ∷ rest ≡ front2 ++ rest2 = cc in
    let c = cut front t rest front2 rest2 others lt in (c.0, ap (λ z. u ∷ z) c.1 ∙ ap (λ z. z ∷ ((front ++ t ∷ []) ++ c.0)) (sym first))

-- the tokens before a place and behind it
front_is : (a b : List Tok) → take (length a) (a ++ b) ≡ a
front_is [] b = refl
front_is (t ∷ a) b = ap (λ z. t ∷ z) (front_is a b)

front_with : (a : List Tok) (t : Tok) (b : List Tok) → take (suc (length a)) (a ++ t ∷ b) ≡ a ++ t ∷ []
front_with [] t b = refl
front_with (u ∷ a) t b = ap (λ z. u ∷ z) (front_with a t b)

taken_length : (n : ℕ) (i : List Tok) → n ≤ length i → n ≡ length (take n i)
taken_length zero i h = refl
taken_length (suc n) [] h = absurd (omega arith)
taken_length (suc n) (t ∷ i) h = ap suc (taken_length n i (omega arith))

module _ {X : Type 0} (IsReading : ℕ → List Tok → X → Type 0) where
  abbrev Front : ℕ → List Tok → Type 0
  Front = IsFront IsReading

  -- the tokens of a front, and the one that comes next. The end of the text counts as one
  pub data With (limit : ℕ) (front : List Tok) : List Tok → Type 0 where
    with_token : (t : Tok) (rest : List Tok) → Front limit (front ++ t ∷ []) → With limit front (t ∷ rest)
    with_end : (tree : X) → IsReading limit front tree → With limit front []

  -- the same places by the tokens before them and behind them
  pub record UnexpectedAt (limit : ℕ) (i : List Tok) (n : ℕ) : Type 0 where
    pub front : List Tok
    pub rest : List Tok
    pub all : i ≡ front ++ rest
    pub place : n ≡ length front
    pub before : Front limit front
    pub none : (h : ℕ) → With h front rest → ⊥

  pub record DeepAt (limit : ℕ) (i : List Tok) (n : ℕ) : Type 0 where
    pub front : List Tok
    pub rest : List Tok
    pub all : i ≡ front ++ rest
    pub place : n ≡ length front
    pub before : Front limit front
    pub none : With limit front rest → ⊥
    pub higher : (h : ℕ) × With h front rest

  goes_split : (h : ℕ) (front rest : List Tok) → GoesOn IsReading h (front ++ rest) (length front) → With h front rest
  goes_split h front [] (token lt f) = absurd (omega (arith, lt, length-append front []))
  goes_split h front (t ∷ rest) (token lt f) = with_token t rest (subst (Front h) (front_with front t rest) f)
  goes_split h front [] (end is tree d) = with_end tree (subst (λ z. IsReading h z tree) (append-nil front) d)
  goes_split h front (t ∷ rest) (end is tree d) = absurd (omega (arith, is, length-append front (t ∷ rest)))

  with_goes : (h : ℕ) (front rest : List Tok) → With h front rest → GoesOn IsReading h (front ++ rest) (length front)
  with_goes h front _ (with_token t rest f) = token (omega (arith, length-append front (t ∷ rest))) (subst (Front h) (sym (front_with front t rest)) f)
  with_goes h front _ (with_end tree d) = end (omega (arith, length-append front [])) tree (subst (λ z. IsReading h z tree) (sym (append-nil front)) d)

  pub unexpected_is : (limit : ℕ) (i : List Tok) (n : ℕ) → UnexpectedAt limit i n → IsUnexpected IsReading limit i n
  unexpected_is limit i n u = subst (λ m. IsUnexpected IsReading limit i m) (sym u.place) (subst (λ z. IsUnexpected IsReading limit z (length u.front)) (sym u.all) (record {
    within = omega (arith, length-append u.front u.rest);
    before = subst (Front limit) (sym (front_is u.front u.rest)) u.before;
    none = λ h g. u.none h (goes_split h u.front u.rest g);
  }))

  pub deep_is : (limit : ℕ) (i : List Tok) (n : ℕ) → DeepAt limit i n → IsTooDeep IsReading limit i n
  deep_is limit i n u = subst (λ m. IsTooDeep IsReading limit i m) (sym u.place) (subst (λ z. IsTooDeep IsReading limit z (length u.front)) (sym u.all) (record {
    within = omega (arith, length-append u.front u.rest);
    before = subst (Front limit) (sym (front_is u.front u.rest)) u.before;
    none = λ g. u.none (goes_split limit u.front u.rest g);
    higher = (u.higher.0, with_goes u.higher.0 u.front u.rest u.higher.1);
  }))

  goes_here : (h : ℕ) (i : List Tok) (n : ℕ) → n ≤ length i → With h (take n i) (drop n i) → GoesOn IsReading h i n
  goes_here h i n low w = subst (λ m. GoesOn IsReading h i m) (sym (taken_length n i low)) (subst (λ z. GoesOn IsReading h z (length (take n i))) (take-append-drop n i) (with_goes h (take n i) (drop n i) w))

  with_here : (h : ℕ) (i : List Tok) (n : ℕ) → n ≤ length i → GoesOn IsReading h i n → With h (take n i) (drop n i)
  with_here h i n low g = goes_split h (take n i) (drop n i) (subst (λ z. GoesOn IsReading h z (length (take n i))) (sym (take-append-drop n i)) (subst (λ m. GoesOn IsReading h i m) (taken_length n i low) g))

  unexpected_at : (limit : ℕ) (i : List Tok) (n : ℕ) → IsUnexpected IsReading limit i n → UnexpectedAt limit i n
  unexpected_at limit i n u = record { front = take n i; rest = drop n i; all = sym (take-append-drop n i); place = taken_length n i u.within; before = u.before; none = λ h w. u.none h (goes_here h i n u.within w) }

  deep_at : (limit : ℕ) (i : List Tok) (n : ℕ) → IsTooDeep IsReading limit i n → DeepAt limit i n
  deep_at limit i n u = record {
    front = take n i;
    rest = drop n i;
    all = sym (take-append-drop n i);
    place = taken_length n i u.within;
    before = u.before;
    none = λ w. u.none (goes_here limit i n u.within w);
    higher = (u.higher.0, with_here u.higher.0 i n u.within u.higher.1);
  }

  -- the next token, or the end, and what comes then
  pub record Going (h : ℕ) (front rest : List Tok) : Type 0 where
    pub k : List Tok
    pub same : SameHead rest k
    pub tree : X
    pub reading : IsReading h (front ++ k) tree

  pub going : (h : ℕ) (front rest : List Tok) → With h front rest → Going h front rest
  going h front _ (with_token t rest f) = record { k = t ∷ f.more; same = (f.more, refl); tree = f.tree; reading = subst (λ z. IsReading h z f.tree) (append_assoc front (t ∷ []) f.more) f.reading }
  going h front _ (with_end tree d) = record { k = []; same = refl; tree = tree; reading = subst (λ z. IsReading h z tree) (sym (append-nil front)) d }

  shorten : (h : ℕ) (front : List Tok) (t : Tok) (rest front2 rest2 : List Tok) → front ++ t ∷ rest ≡ front2 ++ rest2 → length rest2 < suc (length rest) → Front h front2 → Front h (front ++ t ∷ [])
  shorten h front t rest front2 rest2 e lt f = let c = cut front t rest front2 rest2 e lt in record {
    more = c.0 ++ f.more;
    tree = f.tree;
    reading = subst (λ z. IsReading h z f.tree) (ap (λ z. z ++ f.more) c.1 ∙ append_assoc (front ++ t ∷ []) c.0 f.more) f.reading;
  }

  -- a longer front of the same tokens
  pub longer_front : (h : ℕ) (front rest front2 rest2 : List Tok) → front ++ rest ≡ front2 ++ rest2 → length rest2 < length rest → Front h front2 → With h front rest
  longer_front h front [] front2 rest2 e lt f = absurd (omega arith)
  longer_front h front (t ∷ rest) front2 rest2 e lt f = with_token t rest (shorten h front t rest front2 rest2 e lt f)

  -- all tokens
  read_front : (h : ℕ) (i front rest : List Tok) (t : X) → i ≡ front ++ rest → IsReading h i t → With h front rest
  read_front h i front [] t e d = with_end t (subst (λ z. IsReading h z t) (e ∙ append-nil front) d)
  read_front h i front (u ∷ rest) t e d = with_token u rest (record { more = rest; tree = t; reading = subst (λ z. IsReading h z t) (e ∙ sym (append_assoc front (u ∷ []) rest)) d })

  rest_length : (i front rest : List Tok) → i ≡ front ++ rest → length i ≡ length front + length rest
  rest_length i front rest e = ap length e ∙ length-append front rest

  -- where one place comes before another, or is the same
  compare : {G : Type 0} (i front rest front2 rest2 : List Tok) → i ≡ front ++ rest → i ≡ front2 ++ rest2 → (length rest2 < length rest → G) → (length rest < length rest2 → G) → (front ≡ front2 → rest ≡ rest2 → G) → G
  compare i front rest front2 rest2 a b before behind same = split (length rest2) (length rest) before (λ le. split (length rest) (length rest2) behind (λ le2.
      let e = sym a ∙ b in
      let fronts = same_fronts front front2 rest rest2 e (omega (arith, le, le2)) in
      same fronts (same_rests front front2 rest rest2 e fronts)))

  unexpected_not_deep : (limit : ℕ) (i : List Tok) (n m : ℕ) → UnexpectedAt limit i n → DeepAt limit i m → ⊥
  unexpected_not_deep limit i n m u d = compare i u.front u.rest d.front d.rest u.all d.all
      (λ lt. u.none limit (longer_front limit u.front u.rest d.front d.rest (sym u.all ∙ d.all) lt d.before))
      (λ lt. d.none (longer_front limit d.front d.rest u.front u.rest (sym d.all ∙ u.all) lt u.before))
      (λ fronts rests. u.none d.higher.0 (subst (λ z. With d.higher.0 z u.rest) (sym fronts) (subst (λ z. With d.higher.0 d.front z) (sym rests) d.higher.1)))

  unexpected_one : (limit : ℕ) (i : List Tok) (n m : ℕ) → UnexpectedAt limit i n → UnexpectedAt limit i m → n ≡ m
  unexpected_one limit i n m u d = compare i u.front u.rest d.front d.rest u.all d.all
      (λ lt. absurd (u.none limit (longer_front limit u.front u.rest d.front d.rest (sym u.all ∙ d.all) lt d.before)))
      (λ lt. absurd (d.none limit (longer_front limit d.front d.rest u.front u.rest (sym d.all ∙ u.all) lt u.before)))
      (λ fronts rests. u.place ∙ ap length fronts ∙ sym d.place)

  deep_one : (limit : ℕ) (i : List Tok) (n m : ℕ) → DeepAt limit i n → DeepAt limit i m → n ≡ m
  deep_one limit i n m u d = compare i u.front u.rest d.front d.rest u.all d.all
      (λ lt. absurd (u.none (longer_front limit u.front u.rest d.front d.rest (sym u.all ∙ d.all) lt d.before)))
      (λ lt. absurd (d.none (longer_front limit d.front d.rest u.front u.rest (sym d.all ∙ u.all) lt u.before)))
      (λ fronts rests. u.place ∙ ap length fronts ∙ sym d.place)

  pub one_answer : (limit : ℕ) (i : List Tok) → HasOneAnswer IsReading limit i
  one_answer limit i = record {
    reading_unexpected = λ t n d u. let v = unexpected_at limit i n u in v.none limit (read_front limit i v.front v.rest t v.all d);
    reading_deep = λ t n d u. let v = deep_at limit i n u in v.none (read_front limit i v.front v.rest t v.all d);
    unexpected_deep = λ n m u d. unexpected_not_deep limit i n m (unexpected_at limit i n u) (deep_at limit i m d);
    unexpected_once = λ n m u d. unexpected_one limit i n m (unexpected_at limit i n u) (unexpected_at limit i m d);
    deep_once = λ n m u d. deep_one limit i n m (deep_at limit i n u) (deep_at limit i m d);
  }
