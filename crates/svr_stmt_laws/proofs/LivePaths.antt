-- Where the reading of a path fails, what was read so far can be completed to a path that ends with `randomize`; and so can what was read whole.
use Rattle.std.proofs.Common.{◌≡◌, ℕ, zero, suc, ◌+◌, ◌<◌, ◌≤◌, false, List, [], ◌∷◌, ◌++◌, length, Option, Some, Ok, Err, refl, sym, ◌∙◌, ap, subst, arith}
use Rattle.svr_token.specs.declared.Lexeme.{Lexeme}
use Rattle.svr_token.specs.declared.Lexeme.TheVariants as lexeme
use Rattle.svr_token.specs.declared.Word.TheVariants as w
use Rattle.svr_token.specs.declared.Mark.TheVariants as m
use Rattle.svr_token.specs.declared.NameKind.{NameKind}
use Rattle.svr_token.specs.declared.NameKind.TheVariants as name_kind
use Rattle.svr_tree.specs.declared.expr.Scope.{Scope}
use Rattle.svr_tree.specs.declared.expr.Scope.TheVariants as scope
use Rattle.svr_tree.specs.Tokens.{Tok, On, Any, FitEach}
use Rattle.svr_tree.specs.ExprTree.{ExprTree, path}
use Rattle.svr_reader.specs.Outcomes.{Stop, Stuck, Unexpected, Turn, go, done, Outcome, Parser, and_then, lexeme_at, turned, turns}
use Rattle.svr_reader.specs.declared.fixed.Fixed.{Fixed}
use Rattle.svr_reader.specs.declared.fixed.Fixed.TheVariants as f
use Rattle.svr_reader.specs.Program.{Program, pure, bind, run, expect, known_name}
use Rattle.svr_reader.specs.Steps.{fixed_lexeme, named_by, named}
use Rattle.svr_reader.proofs.Steps.{bind_ok, bind_is, turn_ok, lexeme_on, led_yes, led_no, led_cases, expects, expect_ok, known_name_sound, known_name_complete}
use Rattle.svr_reader.proofs.Local.{IsLocal, local_run}
use Rattle.svr_reader.proofs.Live.{FaultsAt, fault_len, AnyToken, Completes, Later, Finishes, Alive, bind_err, behind_token, later_bind, finishes_bind, alive_bind, later_take, later_here, later_peek}
use Rattle.svr_reader.proofs.Led.{AnyAnswer, tok, goal_expect, known_name_form, known_name_goal}
use Rattle.svr_expr.specs.ExprRules.{name_step, names_on, path_from, path_on, plain_path, local_path, this_path, known_path_by, known_path, expr, a_known_path}
use Rattle.svr_expr.proofs.Local.{local_expr}
use Rattle.svr_expr_laws.proofs.Nodes.{NotDot}
use Rattle.svr_expr_laws.proofs.LiveParts.{names_on_goal}
use Rattle.svr_stmt.specs.declared.method.Method.TheVariants as built
use Rattle.svr_stmt.specs.StmtRules.{path_method}
use Rattle.svr_stmt_laws.proofs.Paths.{path_on_is}
use Rattle.svr_stmt_laws.proofs.LiveFork.{completes_map}

abbrev pub dot_tok : Tok
dot_tok = tok (lexeme.Mark m.Dot)

abbrev pub randomize_tok : Tok
randomize_tok = tok (lexeme.Name name_kind.Randomize)

abbrev Names : Type 0
Names = List ℕ × NameKind

-- a turn that ends does not go on
never : (a s : Names) (i j : List Tok) → ◌≡◌ {A = Outcome (Turn Names Names)} (Ok (done a, i)) (Ok (go s, j)) → ⊥
never a s i j h = let both : ◌≡◌ {A = Turn Names Names × List Tok} (done a, i) (go s, j) = cc in let first : ◌≡◌ {A = Turn Names Names} (done a) (go s) = ap (λ z. z.0) both in absurd (cc)

-- some names
record HasName (s : Names) : Type 0 where
  first : ℕ
  others : List ℕ
  is : s.0 ≡ first ∷ others

-- two or more names, of which the last one is `randomize`
record EndsNames (s : Names) : Type 0 where
  first : ℕ
  second : ℕ
  others : List ℕ
  is : s.0 ≡ first ∷ (second ∷ others)
  kind : s.1 ≡ name_kind.Randomize

-- a path that ends with `randomize`
abbrev pub EndsCall : ExprTree × NameKind → Type 0
EndsCall p = path_method p ≡ Some built.Randomize

names_call : (at : ℕ) (s : Scope) (ns : Names) → EndsNames ns → EndsCall (path at s ns.0 false, ns.1)
names_call at s ns d = ap (λ z. path_method (path at s z false, ns.1)) d.is ∙ ap (λ k. path_method (path at s (d.first ∷ (d.second ∷ d.others)) false, k)) d.kind

one_name : (s : Names) (n : ℕ) (k : NameKind) → HasName s → HasName (s.0 ++ n ∷ [], k)
one_name s n k d = record { first = d.first; others = d.others ++ n ∷ []; is = ap (λ z. z ++ n ∷ []) d.is }

last_name : (s : Names) → HasName s → EndsNames (s.0 ++ 0 ∷ [], name_kind.Randomize)
last_name s d = by d.others d.is
  where
    by : (os : List ℕ) → s.0 ≡ d.first ∷ os → EndsNames (s.0 ++ 0 ∷ [], name_kind.Randomize)
    by [] e = record { first = d.first; second = 0; others = []; is = ap (λ z. z ++ 0 ∷ []) e; kind = refl }
    by (o ∷ os) e = record { first = d.first; second = o; others = os ++ 0 ∷ []; is = ap (λ z. z ++ 0 ∷ []) e; kind = refl }

module _ {K : Type 0} {Ans : K → Type 0} (most r : ℕ) (sub : (k : K) → Parser (Ans k)) (ls : (k : K) → IsLocal (sub k)) (many : 3 ≤ most) where
  abbrev R : {A : Type 0} → Program K Ans A → Parser A
  R p = run most r sub p

  abbrev dot : Fixed
  dot = f.Mark m.Dot

  lo : {A : Type 0} (p : Program K Ans A) → IsLocal (R p)
  lo p = local_run most r sub ls p

  some : 1 ≤ most
  some = omega (arith, many)

  -- ---- names

  abbrev step : Names → Parser (Turn Names Names)
  step s = R (name_step s)

  abbrev dotted_name : Names → Program K Ans (Turn Names Names)
  dotted_name s = bind known_name (λ n. pure (go (s.0 ++ n.0 ∷ [], n.1)))

  -- a dot and a name
  goes_on : (s : Names) (t u : Tok) (k : NameKind) (z : List Tok) → t.lexeme ≡ lexeme.Mark m.Dot → u.lexeme ≡ lexeme.Name k → step s (t ∷ (u ∷ z)) ≡ Ok (go (s.0 ++ u.at ∷ [], k), z)
  unfolding name_step
  goes_on s t u k z h g = led_yes most r sub dot (dotted_name s) (pure (done s)) t (u ∷ z) h ∙ bind_is (R known_name (u ∷ z)) _ (u.at, k) z _ (known_name_complete most r sub u.at k (u ∷ z) z ((refl, g), refl)) refl

  stops_at : (n : ℕ) (s : Names) (z : List Tok) → 1 ≤ n → NotDot (lexeme_at z) → turns n step s z ≡ Ok (s, z)
  unfolding name_step
  stops_at zero s z one c = absurd (omega (arith, one))
  stops_at (suc n) s z one c = bind_is (step s z) (turned (turns n step)) (done s) z _ (led_no most r sub dot (dotted_name s) (pure (done s)) z c) refl

  -- one more name, `randomize`
  one_more : (n : ℕ) (s : Names) (t : Tok) (z : List Tok) → 2 ≤ n → t.lexeme ≡ lexeme.Mark m.Dot → NotDot (lexeme_at z) → turns n step s (t ∷ (randomize_tok ∷ z)) ≡ Ok ((s.0 ++ 0 ∷ [], name_kind.Randomize), z)
  one_more zero s t z two h c = absurd (omega (arith, two))
  one_more (suc n) s t z two h c = bind_is (step s (t ∷ (randomize_tok ∷ z))) (turned (turns n step)) (go (s.0 ++ 0 ∷ [], name_kind.Randomize)) z _ (goes_on s t randomize_tok name_kind.Randomize z h refl) (stops_at n (s.0 ++ 0 ∷ [], name_kind.Randomize) z (omega (arith, two)) c)

  -- behind a dot and a name
  behind_name : (n : ℕ) (s : Names) (t : Tok) (x : ℕ × NameKind) (z j : List Tok) (k : ℕ) → t.lexeme ≡ lexeme.Mark m.Dot → FitEach z (On x.0 (lexeme.Name x.1) ∷ []) j → Completes NotDot EndsNames (turns n step (s.0 ++ x.0 ∷ [], x.1)) j k → Completes NotDot EndsNames (turns (suc n) step s) (t ∷ z) k
  behind_name n s t x [] j k h g d = absurd g
  behind_name n s t x (u ∷ z) j k h g d =
      let q : Parser Names = turns n step (s.0 ++ x.0 ∷ [], x.1) in
      let whole : (v : List Tok) → turns (suc n) step s (t ∷ (u ∷ v)) ≡ q v = λ v. bind_is (step s (t ∷ (u ∷ v))) (turned (turns n step)) (go (s.0 ++ x.0 ∷ [], x.1)) v _ (goes_on s t u x.1 v h g.0.1 ∙ ap (λ a. Ok (go (s.0 ++ a ∷ [], x.1), v)) g.0.0) refl in
      let here : Completes NotDot EndsNames q z k = subst (λ v. Completes NotDot EndsNames q v k) (sym g.1) d in
      record { front = t ∷ (u ∷ here.front); j = here.j; is = ap (λ v. t ∷ (u ∷ v)) here.is; len = here.len; more = here.more; x = here.x; good = here.good; ends = λ v cl. whole (here.front ++ (here.more ++ v)) ∙ here.ends v cl }

  name_by_fault : (q : Option Lexeme) (z : List Tok) (e : Stop) → lexeme_at z ≡ q → named_by q z ≡ Err e → e ≡ Unexpected (length z)
  name_by_fault (Some (lexeme.Name k)) [] e is h = absurd (cc)
  name_by_fault (Some (lexeme.Name k)) (t ∷ z) e is h = absurd (cc)
  name_by_fault _ z e is h = cc

  name_fault : (z : List Tok) (e : Stop) (k : ℕ) → R known_name z ≡ Err e → FaultsAt e k → k ≡ length z
  unfolding named
  name_fault z e k h fa = fault_len e k (length z) (name_by_fault (lexeme_at z) z e refl h) fa

  one_less : (z j : List Tok) (x : ℕ × NameKind) → FitEach z (On x.0 (lexeme.Name x.1) ∷ []) j → length z ≡ suc (length j)
  one_less [] j x h = absurd h
  one_less (u ∷ z) j x h = ap (λ v. suc (length v)) h.1

  later_names : (n : ℕ) (s : Names) → HasName s → (i : List Tok) (e : Stop) (k : ℕ) → length i < n → turns n step s i ≡ Err e → FaultsAt e k → Completes NotDot EndsNames (turns n step s) i k
  unfolding name_step
  later_names zero s d i e k few h fa = absurd (omega (arith, few))
  later_names (suc n) s d i e k few h fa = bind_err (step s i) (turned (turns n step)) e h
      (λ fails. led_cases most r sub dot (dotted_name s) (pure (done s)) i (Err e) fails
      (λ t z is q g. subst (λ v. Completes NotDot EndsNames (turns (suc n) step s) v k) (sym is) (record {
        front = t ∷ [];
        j = z;
        is = refl;
        len = bind_err (R known_name z) _ e g (λ no. name_fault z e k no fa) (λ x j a b. absurd (cc));
        more = randomize_tok ∷ [];
        x = (s.0 ++ 0 ∷ [], name_kind.Randomize);
        good = last_name s d;
        ends = λ v cl. one_more (suc n) s t v (omega (arith, few, ap length is)) q cl;
      }))
      (λ _ g. absurd (cc)))
      (λ v j is g. led_cases most r sub dot (dotted_name s) (pure (done s)) i (Ok (v, j)) is
      (λ t z at q g2. bind_ok (R known_name z) _ (v, j) g2 (λ x j2 e2 g3.
      let both : ◌≡◌ {A = Turn Names Names × List Tok} (go (s.0 ++ x.0 ∷ [], x.1), j2) (v, j) = cc in
      let next : turns n step (s.0 ++ x.0 ∷ [], x.1) j2 ≡ Err e = subst (λ p. turned (turns n step) p.0 p.1 ≡ Err e) (sym both) g in
      let takes = known_name_sound most r sub z x j2 e2 in
      subst (λ y. Completes NotDot EndsNames (turns (suc n) step s) y k) (sym at) (behind_name n s t x z j2 k q takes (later_names n (s.0 ++ x.0 ∷ [], x.1) (one_name s x.0 x.1 d) j2 e k (omega (arith, few, ap length at, one_less z j2 x takes)) next fa))))
      (λ _ g2. let both : ◌≡◌ {A = Turn Names Names × List Tok} (done s, i) (v, j) = cc in
      let never : turned (turns n step) (done s) i ≡ Err e = subst (λ p. turned (turns n step) p.0 p.1 ≡ Err e) (sym both) g in absurd (cc)))

  extend_names : (n : ℕ) (s : Names) → HasName s → (i : List Tok) (y : Names) (j : List Tok) → length i + 1 < n → turns n step s i ≡ Ok (y, j) → Completes NotDot EndsNames (turns n step s) i (length j)
  unfolding name_step
  extend_names zero s d i y j few h = absurd (omega (arith, few))
  extend_names (suc n) s d i y j few h = turn_ok (step s i) (turns n step) (y, j) h
      (λ s2 mid e g. led_cases most r sub dot (dotted_name s) (pure (done s)) i (Ok (go s2, mid)) e
      (λ t z at q g2. bind_ok (R known_name z) _ (go s2, mid) g2 (λ x j2 e2 g3.
      let both : ◌≡◌ {A = Turn Names Names × List Tok} (go (s.0 ++ x.0 ∷ [], x.1), j2) (go s2, mid) = cc in
      let next : turns n step (s.0 ++ x.0 ∷ [], x.1) j2 ≡ Ok (y, j) = subst (λ p. turned (turns n step) p.0 p.1 ≡ Ok (y, j)) (sym both) g in
      let takes = known_name_sound most r sub z x j2 e2 in
      subst (λ v. Completes NotDot EndsNames (turns (suc n) step s) v (length j)) (sym at) (behind_name n s t x z j2 (length j) q takes (extend_names n (s.0 ++ x.0 ∷ [], x.1) (one_name s x.0 x.1 d) j2 y j (omega (arith, few, ap length at, one_less z j2 x takes)) next))))
      (λ _ g2. absurd (never s s2 i mid g2)))
      (λ a mid e g. led_cases most r sub dot (dotted_name s) (pure (done s)) i (Ok (done a, mid)) e
      (λ t z at q g2. bind_ok (R known_name z) _ (done a, mid) g2 (λ x j2 e2 g3. absurd (never a (s.0 ++ x.0 ∷ [], x.1) mid j2 (sym g3))))
      (λ _ g2. let both : ◌≡◌ {A = Turn Names Names × List Tok} (done s, i) (done a, mid) = cc in let end : ◌≡◌ {A = Names × List Tok} (a, mid) (y, j) = cc in record {
        front = [];
        j = i;
        is = refl;
        len = ap length (sym (ap (λ p. p.1) end) ∙ sym (ap (λ p. p.1) both));
        more = dot_tok ∷ (randomize_tok ∷ []);
        x = (s.0 ++ 0 ∷ [], name_kind.Randomize);
        good = last_name s d;
        ends = λ v cl. one_more (suc n) s dot_tok v (omega (arith, few)) refl cl;
      }))

  -- ---- paths

  -- behind the first name
  abbrev from_name : ℕ → Scope → ℕ × NameKind → Program K Ans (ExprTree × NameKind)
  from_name at s n = bind (names_on n) (λ ns. pure (path at s ns.0 false, ns.1))

  one_first : (n : ℕ × NameKind) → HasName (n.0 ∷ [], n.1)
  one_first n = record { first = n.0; others = []; is = refl }

  abbrev as_path : ℕ → Scope → Names → ExprTree × NameKind
  as_path at s ns = (path at s ns.0 false, ns.1)

  from_name_later : (at : ℕ) (s : Scope) (n : ℕ × NameKind) → Later most NotDot EndsCall (R (from_name at s n))
  unfolding names_on
  from_name_later at s n = record {
    later = λ i e k lim h fa behind. bind_err (R (names_on n) i) _ e h
        (λ fails. completes_map NotDot EndsNames EndsCall (R (names_on n)) (as_path at s) i k (names_call at s) (later_names most (n.0 ∷ [], n.1) (one_first n) i e k lim fails fa))
        (λ x j a z. absurd (cc));
    safe = λ i lim h. bind_err (R (names_on n) i) _ Stuck h (λ fails. (names_on_goal most r sub ls some n).alive.later.safe i lim fails) (λ x j a z. absurd (cc));
  }

  from_name_fin : (at : ℕ) (s : Scope) (n : ℕ × NameKind) → Finishes AnyToken NotDot EndsCall (R (from_name at s n))
  unfolding names_on
  from_name_fin at s n = record {
    more = dot_tok ∷ (randomize_tok ∷ []);
    x = as_path at s (n.0 ∷ (0 ∷ []), name_kind.Randomize);
    good = refl;
    opens = λ z cl. tt;
    ends = λ z cl. ap (λ o. and_then o (λ ns j. Ok (as_path at s ns, j))) (one_more most (n.0 ∷ [], n.1) dot_tok z (omega (arith, many)) refl cl);
  }

  path_from_later : (at : ℕ) (s : Scope) → Later most NotDot EndsCall (R (path_from at s))
  unfolding path_from
  path_from_later at s = let v = known_name_form most r sub ls in
      later_bind most AnyToken AnyToken NotDot AnyAnswer EndsCall (R known_name) (λ n. R (from_name at s n)) (lo known_name) (λ n. lo (from_name at s n)) v.settles v.later (λ n _. record { fin = from_name_fin at s n; later = from_name_later at s n })

  path_from_alive : (at : ℕ) (s : Scope) → Alive most AnyToken NotDot EndsCall (R (path_from at s))
  unfolding path_from
  path_from_alive at s = let d = (known_name_goal most r sub ls {D = AnyToken} tt).alive.fin in record {
    fin = finishes_bind most AnyToken AnyToken NotDot AnyAnswer EndsCall (R known_name) (λ n. R (from_name at s n)) (lo known_name) (λ n. lo (from_name at s n)) d (from_name_fin at s d.x);
    later = path_from_later at s;
  }

  behind_mark : (k : Fixed) (at : ℕ) (s : Scope) → Alive most AnyToken NotDot EndsCall (R (bind (expect k) (λ _. path_from at s)))
  behind_mark k at s = let g = goal_expect most r sub ls {D = AnyToken} k tt in
      alive_bind most AnyToken AnyToken NotDot AnyAnswer EndsCall (R (expect k)) (λ _. R (path_from at s)) (lo (expect k)) (λ _. lo (path_from at s)) (record { settles = g.settles; alive = g.alive }) (λ _ _. path_from_alive at s)

  path_by_later : (q : Option Lexeme) → Later most NotDot EndsCall (R (known_path_by q))
  unfolding local_path this_path plain_path
  path_by_later (Some (lexeme.Word w.Local)) = later_take most AnyToken NotDot EndsCall (λ at. R (bind (expect (f.Mark m.DoubleColon)) (λ _. path_from at scope.Local))) (λ at. lo (bind (expect (f.Mark m.DoubleColon)) (λ _. path_from at scope.Local))) (λ at. behind_mark (f.Mark m.DoubleColon) at scope.Local)
  path_by_later (Some (lexeme.Word w.This)) = later_take most AnyToken NotDot EndsCall (λ at. R (bind (expect dot) (λ _. path_from at scope.This))) (λ at. lo (bind (expect dot) (λ _. path_from at scope.This))) (λ at. behind_mark dot at scope.This)
  path_by_later _ = later_here most AnyToken NotDot EndsCall (λ at. R (path_from at scope.Plain)) (λ at. path_from_later at scope.Plain)

  pub path_later : Later most NotDot EndsCall (R known_path)
  unfolding known_path
  path_later = later_peek most AnyToken NotDot EndsCall (λ q. R (known_path_by q)) path_by_later

  -- ---- paths that were read

  named_extends : (at : ℕ) (s : Scope) (n : ℕ × NameKind) (i : List Tok) (x : ExprTree × NameKind) (j : List Tok) → length i + 1 < most → R (from_name at s n) i ≡ Ok (x, j) → Completes NotDot EndsCall (R (from_name at s n)) i (length j)
  unfolding names_on
  named_extends at s n i x j lim h = bind_ok (R (names_on n) i) _ (x, j) h (λ ns mid e g.
      let both : ◌≡◌ {A = (ExprTree × NameKind) × List Tok} (as_path at s ns, mid) (x, j) = cc in
      subst (λ z. Completes NotDot EndsCall (R (from_name at s n)) i (length z)) (ap (λ p. p.1) both)
      (completes_map NotDot EndsNames EndsCall (R (names_on n)) (as_path at s) i (length mid) (names_call at s) (extend_names most (n.0 ∷ [], n.1) (one_first n) i ns mid lim e)))

  behind_first : (at : ℕ) (s : Scope) (n : ℕ × NameKind) (i mid : List Tok) (k : ℕ) → FitEach i (On n.0 (lexeme.Name n.1) ∷ []) mid → Completes NotDot EndsCall (R (from_name at s n)) mid k → Completes NotDot EndsCall (R (path_from at s)) i k
  unfolding path_from
  behind_first at s n [] mid k h d = absurd h
  behind_first at s n (t ∷ i) mid k h d = behind_token most NotDot EndsCall (R (path_from at s)) (R (from_name at s n)) t i k
      (λ v. bind_is (R known_name (t ∷ v)) _ n v _ (known_name_complete most r sub n.0 n.1 (t ∷ v) v (h.0, refl)) refl)
      (subst (λ v. Completes NotDot EndsCall (R (from_name at s n)) v k) (sym h.1) d)

  from_extends : (at : ℕ) (s : Scope) (i : List Tok) (x : ExprTree × NameKind) (j : List Tok) → length i < most → R (path_from at s) i ≡ Ok (x, j) → Completes NotDot EndsCall (R (path_from at s)) i (length j)
  unfolding path_from
  from_extends at s i x j lim h = bind_ok (R known_name i) _ (x, j) h (λ n mid e g.
      let takes = known_name_sound most r sub i n mid e in
      behind_first at s n i mid (length j) takes (named_extends at s n mid x j (omega (arith, lim, one_less i mid n takes)) g))

  mark_extends : (k : Fixed) (at : ℕ) (s : Scope) (i : List Tok) (x : ExprTree × NameKind) (j : List Tok) → length i < most → R (bind (expect k) (λ _. path_from at s)) i ≡ Ok (x, j) → Completes NotDot EndsCall (R (bind (expect k) (λ _. path_from at s))) i (length j)
  mark_extends k at s i x j lim h = bind_ok (R (expect k) i) _ (x, j) h (λ u mid e g. by i mid lim (expect_ok most r sub k i (u, mid) e) g)
    where
      by : (i mid : List Tok) → length i < most → FitEach i (Any (fixed_lexeme k) ∷ []) mid → R (path_from at s) mid ≡ Ok (x, j) → Completes NotDot EndsCall (R (bind (expect k) (λ _. path_from at s))) i (length j)
      by [] mid lim t g = absurd t
      by (u ∷ i) mid lim t g = behind_token most NotDot EndsCall (R (bind (expect k) (λ _. path_from at s))) (R (path_from at s)) u i (length j)
          (λ v. bind_is (R (expect k) (u ∷ v)) _ tt v _ (expects most r sub k (u ∷ v) v (t.0, refl)) refl)
          (subst (λ v. Completes NotDot EndsCall (R (path_from at s)) v (length j)) (sym t.1) (from_extends at s mid x j (omega (arith, lim, ap length t.1)) g))

  extends_by : (q : Option Lexeme) (i : List Tok) (x : ExprTree × NameKind) (j : List Tok) → length i < most → lexeme_at i ≡ q → R known_path i ≡ Ok (x, j) → Completes NotDot EndsCall (R known_path) i (length j)
  unfolding known_path local_path this_path plain_path path_from path_on
  extends_by (Some (lexeme.Name k)) [] x j lim e h = absurd (cc)
  extends_by (Some (lexeme.Name k)) (t ∷ i) x j lim e h =
      let is : t.lexeme ≡ lexeme.Name k = cc in
      behind_token most NotDot EndsCall (R known_path) (R (from_name t.at scope.Plain (t.at, k))) t i (length j) (λ v. path_on_is most r sub t k v is) (named_extends t.at scope.Plain (t.at, k) i x j (omega (arith, lim)) (sym (path_on_is most r sub t k i is) ∙ h))
  extends_by (Some (lexeme.Word w.Local)) [] x j lim e h = absurd (cc)
  extends_by (Some (lexeme.Word w.Local)) (t ∷ i) x j lim e h =
      let is : t.lexeme ≡ lexeme.Word w.Local = cc in
      let p : Program K Ans (ExprTree × NameKind) = bind (expect (f.Mark m.DoubleColon)) (λ _. path_from t.at scope.Local) in
      let whole : (v : List Tok) → R known_path (t ∷ v) ≡ R p v = λ v. ap (λ q. R (known_path_by (Some q)) (t ∷ v)) is in
      behind_token most NotDot EndsCall (R known_path) (R p) t i (length j) whole (mark_extends (f.Mark m.DoubleColon) t.at scope.Local i x j (omega (arith, lim)) (sym (whole i) ∙ h))
  extends_by (Some (lexeme.Word w.This)) [] x j lim e h = absurd (cc)
  extends_by (Some (lexeme.Word w.This)) (t ∷ i) x j lim e h =
      let is : t.lexeme ≡ lexeme.Word w.This = cc in
      let p : Program K Ans (ExprTree × NameKind) = bind (expect dot) (λ _. path_from t.at scope.This) in
      let whole : (v : List Tok) → R known_path (t ∷ v) ≡ R p v = λ v. ap (λ q. R (known_path_by (Some q)) (t ∷ v)) is in
      behind_token most NotDot EndsCall (R known_path) (R p) t i (length j) whole (mark_extends dot t.at scope.This i x j (omega (arith, lim)) (sym (whole i) ∙ h))
  extends_by q i x j lim e h = bind_ok (R known_name i) _ (x, j) (ap (λ v. R (known_path_by v) i) (sym e) ∙ h) (λ n mid e2 g.
      let from_name : q ≡ Some (lexeme.Name n.1) = sym e ∙ lexeme_on i mid n.0 (lexeme.Name n.1) [] (known_name_sound most r sub i n mid e2) in absurd (cc))

  pub path_extends : (i : List Tok) (x : ExprTree × NameKind) (j : List Tok) → length i < most → R known_path i ≡ Ok (x, j) → Completes NotDot EndsCall (R known_path) i (length j)
  path_extends i x j lim h = extends_by (lexeme_at i) i x j lim refl h

-- ---- the same of a path where there is room for one

pub known_later : (most r : ℕ) → 3 ≤ most → 1 ≤ r → Later most NotDot EndsCall (a_known_path most r)
unfolding a_known_path
known_later most zero many fits = absurd (omega (arith, fits))
known_later most (suc r) many fits = path_later most r (expr most r) (local_expr most r) many

pub known_extends : (most r : ℕ) → 3 ≤ most → 1 ≤ r → (i : List Tok) (x : ExprTree × NameKind) (j : List Tok) → length i < most → a_known_path most r i ≡ Ok (x, j) → Completes NotDot EndsCall (a_known_path most r) i (length j)
unfolding a_known_path
known_extends most zero many fits i x j lim h = absurd (omega (arith, fits))
known_extends most (suc r) many fits i x j lim h = path_extends most r (expr most r) (local_expr most r) many i x j lim h
