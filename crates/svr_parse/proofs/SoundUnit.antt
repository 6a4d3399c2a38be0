-- A module or program: what is read spells it.
use Rattle.std.proofs.Common.{◌≡◌, ℕ, zero, suc, ◌≤◌, max, Bool, true, false, List, [], ◌∷◌, ◌++◌, Option, Some, None, Ok, refl, sym, ◌∙◌, ap, subst, arith, append_assoc}
use Rattle.std.proofs.lemmas.List.{append-nil}
use Rattle.svr_token.specs.declared.Lexeme.{Lexeme}
use Rattle.svr_token.specs.declared.Lexeme.TheVariants as lexeme
use Rattle.svr_token.specs.declared.Word.TheVariants as w
use Rattle.svr_token.specs.declared.Mark.TheVariants as m
use Rattle.svr_token.specs.declared.NameKind.{NameKind}
use Rattle.svr_tree.specs.declared.script.UnitKind.{UnitKind}
use Rattle.svr_tree.specs.declared.script.UnitKind.TheVariants as unit_kind
use Rattle.svr_tree.specs.Tokens as tokens
use Rattle.svr_tree.specs.Tokens.{Tok, Entry, On, Name, FitEach, Each, word, mark}
use Rattle.svr_tree.specs.DeclTree.{VarTree}
use Rattle.svr_tree.specs.StmtTree.{StmtTree}
use Rattle.svr_tree.specs.ExprGrammar.{parens_spelling}
use Rattle.svr_tree.specs.DeclGrammar.{label_spelling, var_spelling, IsVar, greatest, var_height}
use Rattle.svr_tree.specs.StmtGrammar.{stmt_spelling, IsStmt, stmt_height}
use Rattle.svr_tree.specs.ScriptGrammar.{first_word}
use Rattle.svr_reader.specs.Outcomes.{Turn, go, done, Parser, lexeme_at, turns}
use Rattle.svr_reader.specs.declared.fixed.Fixed.TheVariants as f
use Rattle.svr_reader.specs.Program.{Program, pure, bind, peek, call, run, expect, known_name}
use Rattle.svr_reader.specs.Lists.{◌>>=◌, ◌>>◌, WithHeight, with_last, name}
use Rattle.svr_reader.proofs.Steps.{bind_ok, yields, turn_ok, takes_append, takes_first, expect_ok, led_ok, known_name_sound, name_sound}
use Rattle.svr_reader.proofs.Layers.{ReadAs, IsSound}
use Rattle.svr_reader.proofs.Lists.{Behind, until_turns_sound}
use Rattle.svr_decl.specs.DeclRules.{starts_type}
use Rattle.svr_parse.specs.ScriptRules.{Part, a_var, a_stmt, var_of, stmt_of, Ans, Rule, kind_by, kind, Inner, named_by, choose_var, inner_by, inner, stmts_on}

-- what stands behind a token that was taken already
abbrev pub BehindToken : {X : Type 0} → (X → List Entry) → (X → Type 0) → (X → ℕ) → ℕ → Tok → Parser (WithHeight X) → Type 0
BehindToken {X = X} spell Is high r t p = (i : List Tok) (x : WithHeight X) (j : List Tok) → p i ≡ Ok (x, j) → ReadAs spell Is high r (t ∷ i) x j

-- variables behind those of s, and what was read of the statements
pub record InnerRead (r : ℕ) (s : WithHeight (List VarTree)) (i : List Tok) (y : Inner) (j : List Tok) : Type 0 where
  pub more : List VarTree
  pub all : y.0.0 ≡ s.0 ++ more
  pub takes : FitEach i (tokens.each_spelling var_spelling more ++ tokens.each_spelling stmt_spelling y.1.0) j
  pub vars : Each IsVar more
  pub stmts : Each IsStmt y.1.0
  pub height : y.0.1 ≡ max s.1 (greatest var_height more)
  pub low : s.1 ≤ r → y.0.1 ≤ r
  pub stmts_tall : y.1.1 ≡ greatest stmt_height y.1.0
  pub stmts_low : y.1.1 ≤ r

module _ (most r : ℕ) (sub : (k : Part) → Parser (Ans k)) where
  abbrev R : {A : Type 0} → Rule A → Parser A
  R p = run most r sub p

  kind_by_sound : (q : Option Lexeme) (i : List Tok) (y : UnitKind × List Tok) → lexeme_at i ≡ q → R (kind_by q) i ≡ Ok y → FitEach i (word (first_word y.0) ∷ []) y.1
  kind_by_sound (Some (lexeme.Word w.Module)) [] y e h = absurd (cc)
  kind_by_sound (Some (lexeme.Word w.Module)) (t ∷ i) y e h = let is : t.lexeme ≡ lexeme.Word w.Module = cc in yields (λ k j. FitEach (t ∷ i) (word (first_word k) ∷ []) j) unit_kind.Module i y h (is, refl)
  kind_by_sound (Some (lexeme.Word w.Program)) [] y e h = absurd (cc)
  kind_by_sound (Some (lexeme.Word w.Program)) (t ∷ i) y e h = let is : t.lexeme ≡ lexeme.Word w.Program = cc in yields (λ k j. FitEach (t ∷ i) (word (first_word k) ∷ []) j) unit_kind.Program i y h (is, refl)
  kind_by_sound _ i y e h = absurd (cc)

  pub kind_sound : (i : List Tok) (x : UnitKind) (j : List Tok) → R kind i ≡ Ok (x, j) → FitEach i (word (first_word x) ∷ []) j
  unfolding kind
  kind_sound i x j h = kind_by_sound (lexeme_at i) i (x, j) refl h

  module _ (vars : IsSound var_spelling IsVar var_height r (sub a_var)) (stmts : IsSound stmt_spelling IsStmt stmt_height r (sub a_stmt))
      (vars_of : (t : Tok) (k : NameKind) → t.lexeme ≡ lexeme.Name k → BehindToken var_spelling IsVar var_height r t (sub (var_of t.at)))
      (stmts_of : (t : Tok) (k : NameKind) → t.lexeme ≡ lexeme.Name k → BehindToken stmt_spelling IsStmt stmt_height r t (sub (stmt_of (t.at, k)))) where
    abbrev Vars : Type 0
    Vars = WithHeight (List VarTree)

    abbrev Step : Type 0
    Step = Turn Vars Inner

    abbrev VarRead : List Tok → WithHeight VarTree → List Tok → Type 0
    VarRead i x j = ReadAs var_spelling IsVar var_height r i x j

    abbrev StmtRead : List Tok → WithHeight StmtTree → List Tok → Type 0
    StmtRead i x j = ReadAs stmt_spelling IsStmt stmt_height r i x j

    abbrev step : Vars → Parser Step
    step s = R (peek >>= inner_by s)

    named_by_ok : {G : Type 0} (s : Vars) (t : Tok) (k : NameKind) → t.lexeme ≡ lexeme.Name k → (q : Option Lexeme) (i : List Tok) (v : Step) (j : List Tok) → R (named_by s (t.at, k) q) i ≡ Ok (v, j)
        → ((x : WithHeight VarTree) → VarRead (t ∷ i) x j → v ≡ go (with_last s x) → G) → ((x : WithHeight StmtTree) → StmtRead (t ∷ i) x j → v ≡ done (s, (x.0 ∷ [], x.1)) → G) → G
    named_by_ok s t k is (Some (lexeme.Name k2)) i v j h a b = bind_ok (sub (var_of t.at) i) _ (v, j) h (λ x mid e g.
        let both : ◌≡◌ {A = Step × List Tok} (go (with_last s x), mid) (v, j) = cc in
        a x (subst (λ z. VarRead (t ∷ i) x z) (ap (λ z. z.1) both) (vars_of t k is i x mid e)) (sym (ap (λ z. z.0) both)))
    named_by_ok s t k is _ i v j h a b = bind_ok (sub (stmt_of (t.at, k)) i) _ (v, j) h (λ x mid e g.
        let both : ◌≡◌ {A = Step × List Tok} (done (s, (x.0 ∷ [], x.1)), mid) (v, j) = cc in
        b x (subst (λ z. StmtRead (t ∷ i) x z) (ap (λ z. z.1) both) (stmts_of t k is i x mid e)) (sym (ap (λ z. z.0) both)))

    plain_var_ok : {G : Type 0} (s : Vars) (c : Bool) (i : List Tok) (v : Step) (j : List Tok) → R (choose_var s c) i ≡ Ok (v, j)
        → ((x : WithHeight VarTree) → VarRead i x j → v ≡ go (with_last s x) → G) → (v ≡ done (s, ([], 0)) → i ≡ j → G) → G
    plain_var_ok s true i v j h a c = bind_ok (sub a_var i) _ (v, j) h (λ x mid e g.
        let both : ◌≡◌ {A = Step × List Tok} (go (with_last s x), mid) (v, j) = cc in
        a x (subst (λ z. VarRead i x z) (ap (λ z. z.1) both) (vars.at i x mid e)) (sym (ap (λ z. z.0) both)))
    plain_var_ok s false i v j h a c = let both : ◌≡◌ {A = Step × List Tok} (done (s, ([], 0)), i) (v, j) = cc in c (sym (ap (λ z. z.0) both)) (ap (λ z. z.1) both)

    inner_by_ok : {G : Type 0} (s : Vars) (q : Option Lexeme) (i : List Tok) (v : Step) (j : List Tok) → R (inner_by s q) i ≡ Ok (v, j)
        → ((x : WithHeight VarTree) → VarRead i x j → v ≡ go (with_last s x) → G) → ((x : WithHeight StmtTree) → StmtRead i x j → v ≡ done (s, (x.0 ∷ [], x.1)) → G) → (v ≡ done (s, ([], 0)) → i ≡ j → G) → G
    inner_by_ok s (Some (lexeme.Name k)) i v j h a b c = bind_ok (R known_name i) _ (v, j) h (λ n mid e g.
        let o = takes_first i (On n.0 (lexeme.Name n.1)) [] mid (known_name_sound most r sub i n mid e) in
        let first : i ≡ o.t ∷ mid = o.is ∙ ap (λ z. o.t ∷ z) o.others in
        let g2 : R (peek >>= named_by s (o.t.at, n.1)) mid ≡ Ok (v, j) = subst (λ z. R (peek >>= named_by s (z, n.1)) mid ≡ Ok (v, j)) (sym o.fits.0) g in
        named_by_ok s o.t n.1 o.fits.1 (lexeme_at mid) mid v j g2
        (λ x d is. a x (subst (λ z. VarRead z x j) (sym first) d) is)
        (λ x d is. b x (subst (λ z. StmtRead z x j) (sym first) d) is))
    inner_by_ok s q i v j h a b c = plain_var_ok s (starts_type q) i v j h a c

    one_var : (s : Vars) (x : WithHeight VarTree) (i mid : List Tok) (y : Inner) (j : List Tok) → VarRead i x mid → InnerRead r (with_last s x) mid y j → InnerRead r s i y j
    one_var s x i mid y j t d = record {
      more = x.0 ∷ d.more;
      all = d.all ∙ append_assoc s.0 (x.0 ∷ []) d.more;
      takes = subst (λ es. FitEach i es j) (sym (append_assoc (var_spelling x.0) (tokens.each_spelling var_spelling d.more) (tokens.each_spelling stmt_spelling y.1.0)))
          (takes_append i (var_spelling x.0) (tokens.each_spelling var_spelling d.more ++ tokens.each_spelling stmt_spelling y.1.0) mid j t.takes d.takes);
      vars = (t.is, d.vars);
      stmts = d.stmts;
      height = omega (arith, d.height, t.height);
      low = λ l. d.low (omega (arith, l, t.low));
      stmts_tall = d.stmts_tall;
      stmts_low = d.stmts_low;
    }

    one_stmt : (s : Vars) (x : WithHeight StmtTree) (i j : List Tok) → StmtRead i x j → InnerRead r s i (s, (x.0 ∷ [], x.1)) j
    one_stmt s x i j t = record {
      more = [];
      all = sym (append-nil s.0);
      takes = takes_append i (stmt_spelling x.0) [] j j t.takes refl;
      vars = tt;
      stmts = (t.is, tt);
      height = omega arith;
      low = λ l. l;
      stmts_tall = omega (arith, t.height);
      stmts_low = t.low;
    }

    no_more : (s : Vars) (i : List Tok) → InnerRead r s i (s, ([], 0)) i
    no_more s i = record { more = []; all = sym (append-nil s.0); takes = refl; vars = tt; stmts = tt; height = omega arith; low = λ l. l; stmts_tall = refl; stmts_low = omega arith }

    turns_sound : (n : ℕ) (s : Vars) (i : List Tok) (y : Inner × List Tok) → turns n step s i ≡ Ok y → InnerRead r s i y.0 y.1
    turns_sound zero s i y h = absurd (cc)
    turns_sound (suc n) s i y h = turn_ok (step s i) (turns n step) y h
        (λ s2 j e g. inner_by_ok s (lexeme_at i) i (go s2) j e
        (λ x t is. let same : s2 ≡ with_last s x = cc in one_var s x i j y.0 y.1 t (turns_sound n (with_last s x) j y (subst (λ z. turns n step z j ≡ Ok y) same g)))
        (λ x t is. absurd (cc))
        (λ is at. absurd (cc)))
        (λ a j e g. inner_by_ok s (lexeme_at i) i (done a) j e
        (λ x t is. absurd (cc))
        (λ x t is. let same : a ≡ (s, (x.0 ∷ [], x.1)) = cc in yields (InnerRead r s i) a j y g (subst (λ z. InnerRead r s i z j) (sym same) (one_stmt s x i j t)))
        (λ is at. let same : a ≡ (s, ([], 0)) = cc in yields (InnerRead r s i) a j y g (subst (λ z. InnerRead r s i z j) (sym same) (subst (λ z. InnerRead r s i (s, ([], 0)) z) at (no_more s i)))))

    pub inner_sound : (i : List Tok) (y : Inner) (j : List Tok) → R inner i ≡ Ok (y, j) → InnerRead r ([], 0) i y j
    unfolding inner
    inner_sound i y j h = turns_sound most ([], 0) i (y, j) h

    pub stmts_on_sound : (first : WithHeight (List StmtTree)) (i : List Tok) (y : WithHeight (List StmtTree)) (j : List Tok) → R (stmts_on first) i ≡ Ok (y, j) → Behind (λ xs. tokens.each_spelling stmt_spelling xs ++ word w.End ∷ []) (Each IsStmt) stmt_height r first i y j
    unfolding stmts_on
    stmts_on_sound first i y j h = until_turns_sound most r sub (call a_stmt) stmt_spelling IsStmt stmt_height (f.Word w.End) r stmts most first i (y, j) h
