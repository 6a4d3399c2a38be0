-- Names joined by dots, and paths, with the kind of the last name: what is read spells them, and what spells them is read.
use Rattle.std.proofs.Common.{◌≡◌, ℕ, zero, suc, ◌+◌, ◌<◌, ◌≤◌, false, List, [], ◌∷◌, ◌++◌, length, Option, Some, Ok, refl, sym, ◌∙◌, ap, subst, arith, append_assoc}
use Rattle.std.proofs.lemmas.List.{append-nil}
use Rattle.svr_token.specs.declared.Lexeme.{Lexeme}
use Rattle.svr_token.specs.declared.Lexeme.TheVariants as lexeme
use Rattle.svr_token.specs.declared.Word.TheVariants as w
use Rattle.svr_token.specs.declared.Mark.TheVariants as m
use Rattle.svr_token.specs.declared.NameKind.{NameKind}
use Rattle.svr_tree.specs.declared.expr.Scope.{Scope}
use Rattle.svr_tree.specs.declared.expr.Scope.TheVariants as scope
use Rattle.svr_tree.specs.Tokens.{Tok, Entry, On, Any, Name, FitEach, mark}
use Rattle.svr_tree.specs.ExprTree.{ExprTree, path}
use Rattle.svr_tree.specs.ExprGrammar.{names_spelling, scope_spelling, expr_spelling, IsPathAt}
use Rattle.svr_reader.specs.Lists.{name}
use Rattle.svr_reader.specs.Outcomes.{Turn, go, done, Parser, lexeme_at, number_at, turns}
use Rattle.svr_reader.specs.declared.fixed.Fixed.{Fixed}
use Rattle.svr_reader.specs.declared.fixed.Fixed.TheVariants as f
use Rattle.svr_reader.specs.Program.{Program, pure, bind, run, expect, known_name}
use Rattle.svr_reader.specs.Steps.{sees}
use Rattle.svr_reader.proofs.Steps.{bind_ok, bind_is, yields, turn_ok, takes_append, takes_parts, takes_length, expect_ok, expects, known_name_sound, known_name_complete, led_ok, led_takes, led_no}
use Rattle.svr_expr.specs.ExprRules.{all_but_last, name_step, names_on, path_from, plain_path, local_path, this_path, known_path_by, known_path}

-- ---- names of which the kind of the last one is told

abbrev pub names_known : List ℕ → NameKind → List Entry
names_known [] k = []
names_known (n ∷ []) k = On n (lexeme.Name k) ∷ []
names_known (n ∷ (o ∷ ns)) k = Name n ∷ (mark m.Dot ∷ names_known (o ∷ ns) k)

-- the same behind a first name
abbrev pub rest_known : List ℕ → NameKind → List Entry
rest_known [] k = []
rest_known (n ∷ ns) k = mark m.Dot ∷ names_known (n ∷ ns) k

-- a first name before others
pub join_names : (t : Tok) (i rest : List Tok) (n : ℕ) (ns : List ℕ) (first k : NameKind) → t.at ≡ n → t.lexeme ≡ lexeme.Name first → FitEach i (rest_known ns k) rest → (ns ≡ [] → k ≡ first) → FitEach (t ∷ i) (names_known (n ∷ ns) k) rest
join_names t i rest n [] first k at is h last = ((at, is ∙ ap lexeme.Name (sym (last refl))), h)
join_names t i rest n (o ∷ ns) first k at is h last = ((at, record { kind = first; is = is }), h)

pub record FirstName (i rest : List Tok) (n : ℕ) (ns : List ℕ) (k : NameKind) : Type 0 where
  pub t : Tok
  pub j : List Tok
  pub first : NameKind
  pub is : i ≡ t ∷ j
  pub at : t.at ≡ n
  pub lexeme : t.lexeme ≡ lexeme.Name first
  pub others : FitEach j (rest_known ns k) rest
  pub last : ns ≡ [] → k ≡ first

pub first_name : (i rest : List Tok) (n : ℕ) (ns : List ℕ) (k : NameKind) → FitEach i (names_known (n ∷ ns) k) rest → FirstName i rest n ns k
first_name [] rest n [] k h = absurd h
first_name [] rest n (o ∷ ns) k h = absurd h
first_name (t ∷ i) rest n [] k h = record { t = t; j = i; first = k; is = refl; at = h.0.0; lexeme = h.0.1; others = h.1; last = λ _. refl }
first_name (t ∷ i) rest n (o ∷ ns) k h = record { t = t; j = i; first = h.0.1.kind; is = refl; at = h.0.0; lexeme = h.0.1.is; others = h.1; last = λ e. absurd (cc) }

-- without the kind
pub forget_kind : (ns : List ℕ) (k : NameKind) (i rest : List Tok) → FitEach i (names_known ns k) rest → FitEach i (names_spelling ns) rest
forget_kind [] k i rest h = h
forget_kind (n ∷ []) k [] rest h = absurd h
forget_kind (n ∷ []) k (t ∷ i) rest h = ((h.0.0, record { kind = k; is = h.0.1 }), h.1)
forget_kind (n ∷ (o ∷ ns)) k [] rest h = absurd h
forget_kind (n ∷ (o ∷ ns)) k (t ∷ []) rest h = absurd h.1
forget_kind (n ∷ (o ∷ ns)) k (t ∷ (u ∷ i)) rest h = (h.0, (h.1.0, forget_kind (o ∷ ns) k i rest h.1.1))

-- the last name has a kind
pub some_kind : (n : ℕ) (ns : List ℕ) (i rest : List Tok) → FitEach i (names_spelling (n ∷ ns)) rest → (k : NameKind) × FitEach i (names_known (n ∷ ns) k) rest
some_kind n [] [] rest h = absurd h
some_kind n [] (t ∷ i) rest h = (h.0.1.kind, ((h.0.0, h.0.1.is), h.1))
some_kind n (o ∷ ns) [] rest h = absurd h
some_kind n (o ∷ ns) (t ∷ []) rest h = absurd h.1
some_kind n (o ∷ ns) (t ∷ (u ∷ i)) rest h = let d = some_kind o ns i rest h.1.1 in (d.0, (h.0, (h.1.0, d.1)))

-- a path, with the kind of its last name
pub record KnownPath (i : List Tok) (x : ExprTree × NameKind) (j : List Tok) : Type 0 where
  pub at : ℕ
  pub scope : Scope
  pub names : List ℕ
  pub is : x.0 ≡ path at scope names false
  pub good : IsPathAt at scope names
  pub takes : FitEach i (scope_spelling at scope ++ names_known names x.1) j
  pub begins : number_at i ≡ at

pub known_spells : (at : ℕ) (s : Scope) (names : List ℕ) (k : NameKind) (i j : List Tok) → FitEach i (scope_spelling at s ++ names_known names k) j → FitEach i (expr_spelling (path at s names false)) j
known_spells at s names k i j h = let p = takes_parts i (scope_spelling at s) (names_known names k) j h in
    takes_append i (scope_spelling at s) (names_spelling names ++ []) p.0 j p.1 (takes_append p.0 (names_spelling names) [] j j (forget_kind names k p.0 j p.2) refl)

pub spelled_known : (at : ℕ) (s : Scope) (names : List ℕ) (i j : List Tok) → IsPathAt at s names → FitEach i (expr_spelling (path at s names false)) j → (k : NameKind) × FitEach i (scope_spelling at s ++ names_known names k) j
spelled_known at s [] i j g h = absurd g
spelled_known at s (n ∷ ns) i j g h = let p = takes_parts i (scope_spelling at s) (names_spelling (n ∷ ns) ++ []) j h in
    let q = takes_parts p.0 (names_spelling (n ∷ ns)) [] j p.2 in
    let d = some_kind n ns p.0 j (subst (λ v. FitEach p.0 (names_spelling (n ∷ ns)) v) q.2 q.1) in
    (d.0, takes_append i (scope_spelling at s) (names_known (n ∷ ns) d.0) p.0 j p.1 d.1)

-- ---- the last name of two or more, behind its dot

abbrev pub last_name : NameKind → List Entry → List Entry
last_name k es = mark m.Dot ∷ (Any (lexeme.Name k) ∷ es)

pub split_last : (n o : ℕ) (ns : List ℕ) (k : NameKind) (i rest : List Tok) → FitEach i (names_known (n ∷ (o ∷ ns)) k) rest → FitEach i (names_spelling (all_but_last (n ∷ (o ∷ ns))) ++ last_name k []) rest
split_last n o [] k [] rest h = absurd h
split_last n o [] k (t ∷ []) rest h = absurd h.1
split_last n o [] k (t ∷ (u ∷ [])) rest h = absurd h.1.1
split_last n o [] k (t ∷ (u ∷ (v ∷ i))) rest h = (h.0, (h.1.0, (h.1.1.0.1, h.1.1.1)))
split_last n o (q ∷ ns) k [] rest h = absurd h
split_last n o (q ∷ ns) k (t ∷ []) rest h = absurd h.1
split_last n o (q ∷ ns) k (t ∷ (u ∷ i)) rest h = (h.0, (h.1.0, split_last o q ns k i rest h.1.1))

-- names, the number of the last of which is told by its token
pub record LastName (i : List Tok) (s : List Entry) (ns : List ℕ) (k : NameKind) (es : List Entry) (rest : List Tok) : Type 0 where
  pub number : ℕ
  pub mid : List Tok
  pub names : FitEach i (s ++ names_known (ns ++ number ∷ []) k) mid
  pub others : FitEach mid es rest

join_last : (n : ℕ) (ns : List ℕ) (k : NameKind) (es : List Entry) (i rest : List Tok) → FitEach i (names_spelling (n ∷ ns) ++ last_name k es) rest → LastName i [] (n ∷ ns) k es rest
join_last n [] k es [] rest h = absurd h
join_last n [] k es (t ∷ []) rest h = absurd h.1
join_last n [] k es (t ∷ (u ∷ [])) rest h = absurd h.1.1
join_last n [] k es (t ∷ (u ∷ (v ∷ i))) rest h = record { number = v.at; mid = i; names = (h.0, (h.1.0, ((refl, h.1.1.0), refl))); others = h.1.1.1 }
join_last n (o ∷ ns) k es [] rest h = absurd h
join_last n (o ∷ ns) k es (t ∷ []) rest h = absurd h.1
join_last n (o ∷ ns) k es (t ∷ (u ∷ i)) rest h = let d = join_last o ns k es i rest h.1.1 in record { number = d.number; mid = d.mid; names = (h.0, (h.1.0, d.names)); others = d.others }

-- the same behind the scope of a path
pub path_last : (at : ℕ) (s : Scope) (n : ℕ) (ns : List ℕ) (k : NameKind) (es : List Entry) (i rest : List Tok) → FitEach i (expr_spelling (path at s (n ∷ ns) false) ++ last_name k es) rest → LastName i (scope_spelling at s) (n ∷ ns) k es rest
path_last at s n ns k es i rest h =
    let a = takes_parts i (expr_spelling (path at s (n ∷ ns) false)) (last_name k es) rest h in
    let b = takes_parts i (scope_spelling at s) (names_spelling (n ∷ ns) ++ []) a.0 a.1 in
    let c = takes_parts b.0 (names_spelling (n ∷ ns)) [] a.0 b.2 in
    let d = join_last n ns k es b.0 rest (takes_append b.0 (names_spelling (n ∷ ns)) (last_name k es) c.0 rest c.1 (subst (λ z. FitEach z (last_name k es) rest) (sym c.2) a.2)) in
    record { number = d.number; mid = d.mid; names = takes_append i (scope_spelling at s) (names_known ((n ∷ ns) ++ d.number ∷ []) k) b.0 d.mid b.1 d.names; others = d.others }

module _ {K : Type 0} {Ans : K → Type 0} (most r : ℕ) (sub : (k : K) → Parser (Ans k)) where
  abbrev R : {A : Type 0} → Program K Ans A → Parser A
  R p = run most r sub p

  abbrev Names : Type 0
  Names = List ℕ × NameKind

  abbrev dot : Fixed
  dot = f.Mark m.Dot

  -- ---- names behind a first one

  pub record NamesRead (s : Names) (i : List Tok) (x : Names) (j : List Tok) : Type 0 where
    pub more : List ℕ
    pub all : x.0 ≡ s.0 ++ more
    pub takes : FitEach i (rest_known more x.1) j
    pub last : more ≡ [] → x.1 ≡ s.1

  abbrev dotted_name : Names → Program K Ans (Turn Names Names)
  dotted_name s = bind known_name (λ n. pure (go (s.0 ++ n.0 ∷ [], n.1)))

  name_step_ok : {G : Type 0} (s : Names) (i : List Tok) (v : Turn Names Names) (j : List Tok) → R (name_step s) i ≡ Ok (v, j)
      → ((x : ℕ × NameKind) → v ≡ go (s.0 ++ x.0 ∷ [], x.1) → FitEach i (mark m.Dot ∷ On x.0 (lexeme.Name x.1) ∷ []) j → G) → (v ≡ done s → i ≡ j → G) → G
  unfolding name_step
  name_step_ok s i v j h g d = led_ok most r sub dot (dotted_name s) (pure (done s)) i (v, j) h
      (λ mid t e. bind_ok (R known_name mid) _ (v, j) e (λ x j2 e2 k2.
      let both : ◌≡◌ {A = Turn Names Names × List Tok} (go (s.0 ++ x.0 ∷ [], x.1), j2) (v, j) = cc in
      g x (sym (ap (λ z. z.0) both)) (takes_append i (mark m.Dot ∷ []) (On x.0 (lexeme.Name x.1) ∷ []) mid j t (subst (λ z. FitEach mid (On x.0 (lexeme.Name x.1) ∷ []) z) (ap (λ z. z.1) both) (known_name_sound most r sub mid x j2 e2)))))
      (λ _ e. let both : ◌≡◌ {A = Turn Names Names × List Tok} (done s, i) (v, j) = cc in d (sym (ap (λ z. z.0) both)) (ap (λ z. z.1) both))

  one_more_name : (i j rest : List Tok) (n : ℕ) (first k : NameKind) (ns : List ℕ) → FitEach i (mark m.Dot ∷ On n (lexeme.Name first) ∷ []) j → FitEach j (rest_known ns k) rest → (ns ≡ [] → k ≡ first) → FitEach i (rest_known (n ∷ ns) k) rest
  one_more_name [] j rest n first k ns a h last = absurd a
  one_more_name (t ∷ []) j rest n first k ns a h last = absurd a.1
  one_more_name (t ∷ (u ∷ i)) j rest n first k ns a h last = (a.0, join_names u i rest n ns first k a.1.0.0 a.1.0.1 (subst (λ z. FitEach z (rest_known ns k) rest) (sym a.1.1) h) last)

  names_turns_sound : (n : ℕ) (s : Names) (i : List Tok) (y : Names × List Tok) → turns n (λ s2. R (name_step s2)) s i ≡ Ok y → NamesRead s i y.0 y.1
  names_turns_sound zero s i y h = absurd (cc)
  names_turns_sound (suc n) s i y h = turn_ok (R (name_step s) i) (turns n (λ s2. R (name_step s2))) y h
      (λ s2 j e g. name_step_ok s i (go s2) j e
      (λ x is t. let same : s2 ≡ (s.0 ++ x.0 ∷ [], x.1) = cc in
      let d = names_turns_sound n (s.0 ++ x.0 ∷ [], x.1) j y (subst (λ z. turns n (λ s3. R (name_step s3)) z j ≡ Ok y) same g) in
      record {
        more = x.0 ∷ d.more;
        all = d.all ∙ append_assoc s.0 (x.0 ∷ []) d.more;
        takes = one_more_name i j y.1 x.0 x.1 y.0.1 d.more t d.takes d.last;
        last = λ e2. absurd (cc);
      })
      (λ is _. absurd (cc)))
      (λ a j e g. name_step_ok s i (done a) j e
      (λ x is t. absurd (cc))
      (λ is at. let same : a ≡ s = cc in yields (NamesRead s i) a j y g (rw same (record { more = []; all = sym (append-nil s.0); takes = at; last = λ _. refl }))))

  pub names_on_sound : (first : ℕ × NameKind) (i : List Tok) (x : Names) (j : List Tok) → R (names_on first) i ≡ Ok (x, j) → NamesRead (first.0 ∷ [], first.1) i x j
  unfolding names_on
  names_on_sound first i x j h = names_turns_sound most (first.0 ∷ [], first.1) i (x, j) h

  names_turns_complete : (n : ℕ) (s : Names) (more : List ℕ) (k : NameKind) (i rest : List Tok) → length i < n + length rest → FitEach i (rest_known more k) rest → (more ≡ [] → k ≡ s.1) → sees dot rest ≡ false
      → turns n (λ s2. R (name_step s2)) s i ≡ Ok ((s.0 ++ more, k), rest)
  unfolding name_step
  names_turns_complete zero s more k i rest full h last c = absurd (omega (arith, full, takes_length i (rest_known more k) rest h))
  names_turns_complete (suc n) s [] k i rest full h last c =
      bind_is (R (name_step s) i) _ (done s) i _ (led_no most r sub dot (dotted_name s) (pure (done s)) i (ap (sees dot) h ∙ c))
      (let all = append-nil s.0 in let kind = last refl in let end : i ≡ rest = h in ap (λ z. Ok ((s.0, s.1), z)) end ∙ ap (λ z. Ok ((s.0, z), rest)) (sym kind) ∙ ap (λ z. Ok ((z, k), rest)) (sym all))
  names_turns_complete (suc n) s (o ∷ ns) k [] rest full h last c = absurd h
  names_turns_complete (suc n) s (o ∷ ns) k (t ∷ i) rest full h last c =
      let d = first_name i rest o ns k h.1 in
      let shorter : length d.j < n + length rest = omega (arith, full, ap length d.is) in
      bind_is (R (name_step s) (t ∷ i)) _ (go (s.0 ++ o ∷ [], d.first)) d.j _
      (led_takes most r sub dot (dotted_name s) (pure (done s)) (t ∷ i) i (h.0, refl)
      ∙ bind_is (R known_name i) _ (o, d.first) d.j _ (known_name_complete most r sub o d.first i d.j (subst (λ z. FitEach z (On o (lexeme.Name d.first) ∷ []) d.j) (sym d.is) ((d.at, d.lexeme), refl))) refl)
      (names_turns_complete n (s.0 ++ o ∷ [], d.first) ns k d.j rest shorter d.others d.last c ∙ ap (λ z. Ok ((z, k), rest)) (append_assoc s.0 (o ∷ []) ns))

  pub names_on_complete : (n : ℕ) (first k : NameKind) (more : List ℕ) (i rest : List Tok) → length i < most + length rest → FitEach i (rest_known more k) rest → (more ≡ [] → k ≡ first) → sees dot rest ≡ false
      → R (names_on (n, first)) i ≡ Ok ((n ∷ more, k), rest)
  unfolding names_on
  names_on_complete n first k more i rest full h last c = names_turns_complete most (n ∷ [], first) more k i rest full h last c

  -- ---- paths

  -- the names of a path
  record FromRead (at : ℕ) (s : Scope) (i : List Tok) (x : ExprTree × NameKind) (j : List Tok) : Type 0 where
    first : ℕ
    more : List ℕ
    is : x.0 ≡ path at s (first ∷ more) false
    takes : FitEach i (names_known (first ∷ more) x.1) j
    begins : number_at i ≡ first

  join_first : (i mid j : List Tok) (n : ℕ) (first k : NameKind) (ns : List ℕ) → FitEach i (On n (lexeme.Name first) ∷ []) mid → FitEach mid (rest_known ns k) j → (ns ≡ [] → k ≡ first) → FitEach i (names_known (n ∷ ns) k) j × (number_at i ≡ n)
  join_first [] mid j n first k ns a h last = absurd a
  join_first (t ∷ i) mid j n first k ns a h last = (join_names t i j n ns first k a.0.0 a.0.1 (subst (λ z. FitEach z (rest_known ns k) j) (sym a.1) h) last, a.0.0)

  path_from_sound : (at : ℕ) (s : Scope) (i : List Tok) (y : (ExprTree × NameKind) × List Tok) → R (path_from at s) i ≡ Ok y → FromRead at s i y.0 y.1
  unfolding path_from
  path_from_sound at s i y h = bind_ok (R known_name i) _ y h (λ n mid e g. bind_ok (R (names_on n) mid) _ y g (λ ns j e2 g2.
      let d = names_on_sound n mid ns j e2 in
      let a = join_first i mid j n.0 n.1 ns.1 d.more (known_name_sound most r sub i n mid e) d.takes d.last in
      yields (FromRead at s i) _ _ y g2 (record { first = n.0; more = d.more; is = ap (λ z. path at s z false) d.all; takes = a.0; begins = a.1 })))

  known_path_by_sound : (q : Option Lexeme) (i : List Tok) (y : (ExprTree × NameKind) × List Tok) → lexeme_at i ≡ q → R (known_path_by q) i ≡ Ok y → KnownPath i y.0 y.1
  unfolding local_path this_path plain_path
  known_path_by_sound (Some (lexeme.Word w.Local)) [] y e h = absurd (cc)
  known_path_by_sound (Some (lexeme.Word w.Local)) (t ∷ i) y e h = bind_ok (R (expect (f.Mark m.DoubleColon)) i) _ y h (λ u mid e2 g.
      let d = path_from_sound t.at scope.Local mid y g in
      let is : t.lexeme ≡ lexeme.Word w.Local = cc in
      record { at = t.at; scope = scope.Local; names = d.first ∷ d.more; is = d.is; good = tt; takes = ((refl, is), takes_append i (mark m.DoubleColon ∷ []) (names_known (d.first ∷ d.more) y.0.1) mid y.1 (expect_ok most r sub (f.Mark m.DoubleColon) i (tt, mid) e2) d.takes); begins = refl })
  known_path_by_sound (Some (lexeme.Word w.This)) [] y e h = absurd (cc)
  known_path_by_sound (Some (lexeme.Word w.This)) (t ∷ i) y e h = bind_ok (R (expect dot) i) _ y h (λ u mid e2 g.
      let d = path_from_sound t.at scope.This mid y g in
      let is : t.lexeme ≡ lexeme.Word w.This = cc in
      record { at = t.at; scope = scope.This; names = d.first ∷ d.more; is = d.is; good = tt; takes = ((refl, is), takes_append i (mark m.Dot ∷ []) (names_known (d.first ∷ d.more) y.0.1) mid y.1 (expect_ok most r sub dot i (tt, mid) e2) d.takes); begins = refl })
  known_path_by_sound _ i y e h =
      let d = path_from_sound (number_at i) scope.Plain i y h in
      record { at = number_at i; scope = scope.Plain; names = d.first ∷ d.more; is = d.is; good = d.begins; takes = d.takes; begins = refl }

  pub known_path_sound : (i : List Tok) (x : ExprTree × NameKind) (j : List Tok) → R known_path i ≡ Ok (x, j) → KnownPath i x j
  unfolding known_path
  known_path_sound i x j h = known_path_by_sound (lexeme_at i) i (x, j) refl h

  path_from_complete : (at : ℕ) (s : Scope) (n : ℕ) (ns : List ℕ) (k : NameKind) (i rest : List Tok) → length i ≤ most + length rest → FitEach i (names_known (n ∷ ns) k) rest → sees dot rest ≡ false
      → R (path_from at s) i ≡ Ok ((path at s (n ∷ ns) false, k), rest)
  unfolding path_from
  path_from_complete at s n ns k i rest few h c =
      let d = first_name i rest n ns k h in
      let shorter : length d.j < most + length rest = omega (arith, few, ap length d.is) in
      bind_is (R known_name i) _ (n, d.first) d.j _ (known_name_complete most r sub n d.first i d.j (subst (λ z. FitEach z (On n (lexeme.Name d.first) ∷ []) d.j) (sym d.is) ((d.at, d.lexeme), refl)))
      (bind_is (R (names_on (n, d.first)) d.j) _ (n ∷ ns, k) rest _ (names_on_complete n d.first k ns d.j rest shorter d.others d.last c) refl)

  plain_by : (q : Option Lexeme) (i : List Tok) (first : NameKind) → q ≡ Some (lexeme.Name first) → R (known_path_by q) i ≡ R plain_path i
  plain_by q i first e = ap (λ v. R (known_path_by v) i) e

  pub known_path_complete : (at : ℕ) (s : Scope) (names : List ℕ) (k : NameKind) (i rest : List Tok) → length i ≤ most + length rest → IsPathAt at s names → FitEach i (scope_spelling at s ++ names_known names k) rest → sees dot rest ≡ false
      → R known_path i ≡ Ok ((path at s names false, k), rest)
  unfolding known_path plain_path local_path this_path
  known_path_complete at s [] k i rest few g h c = absurd g
  known_path_complete at scope.Plain (n ∷ ns) k i rest few g h c =
      let d = first_name i rest n ns k h in
      let begins : number_at i ≡ at = ap number_at d.is ∙ d.at ∙ sym g in
      plain_by (lexeme_at i) i d.first (ap lexeme_at d.is ∙ ap Some d.lexeme) ∙ path_from_complete (number_at i) scope.Plain n ns k i rest few h c ∙ ap (λ v. Ok ((path v scope.Plain (n ∷ ns) false, k), rest)) begins
  known_path_complete at scope.Local (n ∷ ns) k [] rest few g h c = absurd h
  known_path_complete at scope.Local (n ∷ ns) k (t ∷ i) rest few g h c =
      let p = takes_parts i (mark m.DoubleColon ∷ []) (names_known (n ∷ ns) k) rest h.1 in
      let fewer : length p.0 ≤ most + length rest = omega (arith, few, takes_length i (mark m.DoubleColon ∷ []) p.0 p.1) in
      ap (λ v. R (known_path_by (Some v)) (t ∷ i)) h.0.1 ∙ bind_is (R (expect (f.Mark m.DoubleColon)) i) _ tt p.0 _ (expects most r sub (f.Mark m.DoubleColon) i p.0 p.1)
      (path_from_complete t.at scope.Local n ns k p.0 rest fewer p.2 c ∙ ap (λ v. Ok ((path v scope.Local (n ∷ ns) false, k), rest)) h.0.0)
  known_path_complete at scope.This (n ∷ ns) k [] rest few g h c = absurd h
  known_path_complete at scope.This (n ∷ ns) k (t ∷ i) rest few g h c =
      let p = takes_parts i (mark m.Dot ∷ []) (names_known (n ∷ ns) k) rest h.1 in
      let fewer : length p.0 ≤ most + length rest = omega (arith, few, takes_length i (mark m.Dot ∷ []) p.0 p.1) in
      ap (λ v. R (known_path_by (Some v)) (t ∷ i)) h.0.1 ∙ bind_is (R (expect dot) i) _ tt p.0 _ (expects most r sub dot i p.0 p.1)
      (path_from_complete t.at scope.This n ns k p.0 rest fewer p.2 c ∙ ap (λ v. Ok ((path v scope.This (n ∷ ns) false, k), rest)) h.0.0)
