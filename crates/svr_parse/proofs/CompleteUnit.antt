-- A module or program is read.
use Rattle.std.proofs.Common.{◌≡◌, ℕ, zero, suc, ◌+◌, ◌<◌, ◌≤◌, max, Bool, true, false, List, [], ◌∷◌, ◌++◌, length, Option, Some, None, Ok, refl, sym, ◌∙◌, ap, subst, arith, append_assoc}
use Rattle.std.proofs.lemmas.List.{append-nil}
use Rattle.svr_token.specs.declared.Lexeme.{Lexeme}
use Rattle.svr_token.specs.declared.Lexeme.TheVariants as lexeme
use Rattle.svr_token.specs.declared.Word.{Word}
use Rattle.svr_token.specs.declared.Word.TheVariants as w
use Rattle.svr_token.specs.declared.Mark.TheVariants as m
use Rattle.svr_token.specs.declared.NameKind.{NameKind}
use Rattle.svr_tree.specs.declared.script.UnitKind.{UnitKind}
use Rattle.svr_tree.specs.declared.script.UnitKind.TheVariants as unit_kind
use Rattle.svr_tree.specs.Tokens as tokens
use Rattle.svr_tree.specs.Tokens.{Tok, Entry, Name, FitEach, Each, word, mark}
use Rattle.svr_tree.specs.DeclTree.{VarTree}
use Rattle.svr_tree.specs.StmtTree.{StmtTree}
use Rattle.svr_tree.specs.ExprGrammar.{parens_spelling}
use Rattle.svr_tree.specs.DeclGrammar.{label_spelling, var_spelling, IsVar, greatest, var_height}
use Rattle.svr_tree.specs.StmtGrammar.{stmt_spelling, IsStmt, stmt_height}
use Rattle.svr_tree.specs.ScriptGrammar.{first_word}
use Rattle.svr_reader.specs.Outcomes.{Turn, go, done, Parser, lexeme_at, turned, turns}
use Rattle.svr_reader.specs.declared.fixed.Fixed.TheVariants as f
use Rattle.svr_reader.specs.Program.{Program, pure, bind, peek, run, expect, known_name}
use Rattle.svr_reader.specs.Steps.{is_fixed, sees}
use Rattle.svr_reader.specs.Lists.{◌>>=◌, ◌>>◌, WithHeight, with_last, name}
use Rattle.svr_reader.proofs.Live.{AnyToken}
use Rattle.svr_reader.proofs.Steps.{bind_is, takes_parts, takes_length, takes_less, lexeme_of, expects, led_takes, led_no, known_name_complete, name_complete}
use Rattle.svr_reader.proofs.Layers.{IsComplete}
use Rattle.svr_decl.specs.DeclRules.{starts_type}
use Rattle.svr_stmt.specs.StmtRules.{stmt_starts}
use Rattle.svr_parse.specs.ScriptRules.{Part, a_var, a_stmt, var_of, stmt_of, Ans, Rule, kind_by, kind, Inner, named_by, choose_var, inner_by}
use Rattle.svr_parse.proofs.Begins.{VarBegins, by_word, by_name, var_begins, var_fills}
use Rattle.svr_parse.proofs.CompleteTops.{NotColon}

-- what may be said of an answer that is to come
abbrev pub ReadsBehind : {X : Type 0} → (X → List Entry) → (X → Type 0) → (X → ℕ) → ℕ → ℕ → Tok → Parser (WithHeight X) → Type 0
ReadsBehind {X = X} spell Is high most r t p = (x : X) (i rest : List Tok) → length (t ∷ i) ≤ most + length rest → Is x → high x ≤ r → FitEach (t ∷ i) (spell x) rest → p i ≡ Ok ((x, high x), rest)

-- what stands behind the name that a statement begins with
abbrev pub goes_behind : Option Lexeme → Bool
goes_behind (Some (lexeme.Mark m.Dot)) = true
goes_behind (Some (lexeme.Mark m.OpenBracket)) = true
goes_behind (Some (lexeme.Mark m.Assign)) = true
goes_behind _ = false

-- the tokens other than a name that the statements of a block begin with, or that end them
abbrev stmt_or_end : Option Lexeme → Bool
stmt_or_end (Some (lexeme.Name k)) = false
stmt_or_end (Some (lexeme.Word w.End)) = true
stmt_or_end q = stmt_starts q

not_name : (q : Option Lexeme) → stmt_starts q ≡ true → ((k : NameKind) → q ≡ Some (lexeme.Name k) → ⊥) → stmt_or_end q ≡ true
not_name (Some (lexeme.Name k)) h none = absurd (none k refl)
not_name (Some (lexeme.Word w.End)) h none = refl
not_name q h none = h

module _ (most r : ℕ) (sub : (k : Part) → Parser (Ans k)) where
  abbrev R : {A : Type 0} → Rule A → Parser A
  R p = run most r sub p

  pub kind_complete : (k : UnitKind) (i rest : List Tok) → FitEach i (word (first_word k) ∷ []) rest → R kind i ≡ Ok (k, rest)
  unfolding kind
  kind_complete k [] rest h = absurd h
  kind_complete unit_kind.Module (t ∷ i) rest h = ap (λ q. R (kind_by (Some q)) (t ∷ i)) h.0 ∙ ap (λ z. Ok (unit_kind.Module, z)) h.1
  kind_complete unit_kind.Program (t ∷ i) rest h = ap (λ q. R (kind_by (Some q)) (t ∷ i)) h.0 ∙ ap (λ z. Ok (unit_kind.Program, z)) h.1

  module _ (vars : IsComplete var_spelling IsVar var_height most r AnyToken (sub a_var)) (stmts : IsComplete stmt_spelling IsStmt stmt_height most r AnyToken (sub a_stmt))
      (vars_of : (t : Tok) (k : NameKind) → t.lexeme ≡ lexeme.Name k → ReadsBehind var_spelling IsVar var_height most r t (sub (var_of t.at)))
      (stmts_of : (t : Tok) (k : NameKind) → t.lexeme ≡ lexeme.Name k → ReadsBehind stmt_spelling IsStmt stmt_height most r t (sub (stmt_of (t.at, k))))
      (first_stmt : (x : StmtTree) (i rest : List Tok) → IsStmt x → FitEach i (stmt_spelling x) rest → stmt_starts (lexeme_at i) ≡ true)
      (second_stmt : (t : Tok) (k : NameKind) (x : StmtTree) (i rest : List Tok) → t.lexeme ≡ lexeme.Name k → IsStmt x → FitEach (t ∷ i) (stmt_spelling x) rest → goes_behind (lexeme_at i) ≡ true)
      (stmt_fills : (x : StmtTree) → IsStmt x → 1 ≤ length (stmt_spelling x)) where
    abbrev Vars : Type 0
    Vars = WithHeight (List VarTree)

    abbrev step : Vars → Parser (Turn Vars Inner)
    step s = R (peek >>= inner_by s)

    abbrev ended : List StmtTree → List Entry
    ended ss = tokens.each_spelling stmt_spelling ss ++ word w.End ∷ []

    abbrev longer : Vars → List VarTree → Vars
    longer s vs = (s.0 ++ vs, max s.1 (greatest var_height vs))

    -- the way to the variables, and to the first statements
    pub record Goes (n : ℕ) (s : Vars) (vs : List VarTree) (ss : List StmtTree) (i rest : List Tok) : Type 0 where
      pub first : List StmtTree
      pub others : List StmtTree
      pub mid : List Tok
      pub all : ss ≡ first ++ others
      pub reads : turns n step s i ≡ Ok ((longer s vs, (first, greatest stmt_height first)), mid)
      pub takes : FitEach mid (ended others) rest
      pub less : length mid ≤ length i
      pub are : Each IsStmt others
      pub low : greatest stmt_height others ≤ r

    -- ---- one turn before each kind of token

    plain_token : (s : Vars) (q : Option Lexeme) (i : List Tok) → stmt_or_end q ≡ true → R (inner_by s q) i ≡ Ok (done (s, ([], 0)), i)
    plain_token s (Some (lexeme.Mark m.Semicolon)) i h = refl
    plain_token s (Some (lexeme.Word w.Begin)) i h = refl
    plain_token s (Some (lexeme.Word w.Repeat)) i h = refl
    plain_token s (Some (lexeme.Word w.Void)) i h = refl
    plain_token s (Some (lexeme.Word w.Assert)) i h = refl
    plain_token s (Some (lexeme.Word w.Local)) i h = refl
    plain_token s (Some (lexeme.Word w.This)) i h = refl
    plain_token s (Some (lexeme.Word w.End)) i h = refl
    plain_token s _ i h = absurd (cc)

    named_stmt : (s : Vars) (n : ℕ × NameKind) (q : Option Lexeme) (i : List Tok) (x : StmtTree) (rest : List Tok) → goes_behind q ≡ true → sub (stmt_of n) i ≡ Ok ((x, stmt_height x), rest) → R (named_by s n q) i ≡ Ok (done (s, (x ∷ [], stmt_height x)), rest)
    named_stmt s n (Some (lexeme.Mark m.Dot)) i x rest h e = bind_is (sub (stmt_of n) i) _ (x, stmt_height x) rest _ e refl
    named_stmt s n (Some (lexeme.Mark m.OpenBracket)) i x rest h e = bind_is (sub (stmt_of n) i) _ (x, stmt_height x) rest _ e refl
    named_stmt s n (Some (lexeme.Mark m.Assign)) i x rest h e = bind_is (sub (stmt_of n) i) _ (x, stmt_height x) rest _ e refl
    named_stmt s n _ i x rest h e = absurd (cc)

    -- behind the name that a turn begins with
    name_turn : (s : Vars) (t : Tok) (k : NameKind) (i : List Tok) → t.lexeme ≡ lexeme.Name k → step s (t ∷ i) ≡ R (named_by s (t.at, k) (lexeme_at i)) i
    name_turn s t k i e = ap (λ q. R (inner_by s (Some q)) (t ∷ i)) e ∙ bind_is (R known_name (t ∷ i)) _ (t.at, k) i _ (known_name_complete most r sub t.at k (t ∷ i) i ((refl, e), refl)) refl

    word_var : (s : Vars) (l : Word) (i : List Tok) → starts_type (Some (lexeme.Word l)) ≡ true → R (inner_by s (Some (lexeme.Word l))) i ≡ R (choose_var s true) i
    word_var s l i h = ap (λ b. R (choose_var s b) i) h

    var_turn : (s : Vars) (v : VarTree) (i rest : List Tok) → length i ≤ most → IsVar v → var_height v ≤ r → FitEach i (var_spelling v) rest → VarBegins i v → step s i ≡ Ok (go (with_last s (v, var_height v)), rest)
    var_turn s v i rest few is low h (by_word l e b) =
        ap (λ q. R (inner_by s q) i) e ∙ word_var s l i (subst (λ q. starts_type q ≡ true) e b)
        ∙ bind_is (sub a_var i) _ (v, var_height v) rest _ (vars.at v i rest (omega (arith, few)) is low h tt) refl
    var_turn s v i rest few is low h (by_name t k k2 j e l e2 d) =
        ap (step s) e ∙ name_turn s t k j l ∙ ap (λ q. R (named_by s (t.at, k) q) j) e2
        ∙ bind_is (sub (var_of t.at) j) _ (v, var_height v) rest _ (vars_of t k l v j rest (omega (arith, few, ap length e)) is low (subst (λ z. FitEach z (var_spelling v) rest) e h)) refl

    same : (s : Vars) → longer s [] ≡ s
    same s = let d : max s.1 0 ≡ s.1 = omega arith in ap (λ z. (z, max s.1 0)) (append-nil s.0) ∙ ap (λ z. (s.0, z)) d

    stop_here : (n : ℕ) (s : Vars) (ss : List StmtTree) (i rest : List Tok) → stmt_or_end (lexeme_at i) ≡ true → FitEach i (ended ss) rest → Each IsStmt ss → greatest stmt_height ss ≤ r → Goes (suc n) s [] ss i rest
    stop_here n s ss i rest q h are low = record {
      first = [];
      others = ss;
      mid = i;
      all = refl;
      reads = bind_is (step s i) (turned (turns n step)) (done (s, ([], 0))) i _ (plain_token s (lexeme_at i) i q) (ap (λ z. Ok ((z, ([], 0)), i)) (sym (same s)));
      takes = h;
      less = omega arith;
      are = are;
      low = low;
    }

    name_stmt_here : (n : ℕ) (s : Vars) (x : StmtTree) (ss : List StmtTree) (t : Tok) (k : NameKind) (i mid rest : List Tok) → length (t ∷ i) ≤ most → t.lexeme ≡ lexeme.Name k → FitEach (t ∷ i) (stmt_spelling x) mid → FitEach mid (ended ss) rest
        → Each IsStmt (x ∷ ss) → greatest stmt_height (x ∷ ss) ≤ r → Goes (suc n) s [] (x ∷ ss) (t ∷ i) rest
    name_stmt_here n s x ss t k i mid rest few l h h2 are low =
        let less = takes_less (t ∷ i) (stmt_spelling x) mid h in
        let height : stmt_height x ≡ max (stmt_height x) 0 = omega arith in
        record {
          first = x ∷ [];
          others = ss;
          mid = mid;
          all = refl;
          reads = bind_is (step s (t ∷ i)) (turned (turns n step)) (done (s, (x ∷ [], stmt_height x))) mid _
              (name_turn s t k i l ∙ named_stmt s (t.at, k) (lexeme_at i) i x mid (second_stmt t k x i mid l are.0 h) (stmts_of t k l x i mid (omega (arith, few)) are.0 (omega (arith, low)) h))
              (ap (λ z. Ok ((s, (x ∷ [], z)), mid)) height ∙ ap (λ z. Ok ((z, (x ∷ [], max (stmt_height x) 0)), mid)) (sym (same s)));
          takes = h2;
          less = less;
          are = are.1;
          low = omega (arith, low);
        }

    stmt_first : (n : ℕ) (s : Vars) (x : StmtTree) (ss : List StmtTree) (i mid rest : List Tok) (q : Option Lexeme) → lexeme_at i ≡ q → length i ≤ most → FitEach i (stmt_spelling x) mid → FitEach mid (ended ss) rest
        → Each IsStmt (x ∷ ss) → greatest stmt_height (x ∷ ss) ≤ r → FitEach i (ended (x ∷ ss)) rest → Goes (suc n) s [] (x ∷ ss) i rest
    stmt_first n s x ss [] mid rest (Some (lexeme.Name k)) e few h h2 are low whole = absurd (cc)
    stmt_first n s x ss (t ∷ i) mid rest (Some (lexeme.Name k)) e few h h2 are low whole =
        let l : t.lexeme ≡ lexeme.Name k = cc in name_stmt_here n s x ss t k i mid rest few l h h2 are low
    stmt_first n s x ss i mid rest q e few h h2 are low whole =
        stop_here n s (x ∷ ss) i rest (not_name (lexeme_at i) (first_stmt x i mid are.0 h) (λ k e2. absurd (let both = sym e ∙ e2 in cc))) whole are low

    pub goes : (n : ℕ) (s : Vars) (vs : List VarTree) (ss : List StmtTree) (i rest : List Tok) → length i < n + length rest → length i ≤ most → Each IsVar vs → greatest var_height vs ≤ r → Each IsStmt ss → greatest stmt_height ss ≤ r
        → FitEach i (tokens.each_spelling var_spelling vs ++ ended ss) rest → Goes n s vs ss i rest
    goes zero s vs ss i rest full few are low are2 low2 h = absurd (omega (arith, full, takes_length i (tokens.each_spelling var_spelling vs ++ ended ss) rest h))
    goes (suc n) s [] [] i rest full few are low are2 low2 h = stop_here n s [] i rest (ap stmt_or_end (lexeme_of i rest (lexeme.Word w.End) [] h)) h tt low2
    goes (suc n) s [] (x ∷ ss) i rest full few are low are2 low2 h =
        let p = takes_parts i (stmt_spelling x) (ended ss) rest (subst (λ es. FitEach i es rest) (append_assoc (stmt_spelling x) (tokens.each_spelling stmt_spelling ss) (word w.End ∷ [])) h) in
        stmt_first n s x ss i p.0 rest (lexeme_at i) refl few p.1 p.2 are2 low2 h
    goes (suc n) s (v ∷ vs) ss i rest full few are low are2 low2 h =
        let p = takes_parts i (var_spelling v) (tokens.each_spelling var_spelling vs ++ ended ss) rest (subst (λ es. FitEach i es rest) (append_assoc (var_spelling v) (tokens.each_spelling var_spelling vs) (ended ss)) h) in
        let long = takes_length i (var_spelling v) p.0 p.1 in
        let some = var_fills v are.0 in
        let d = goes n (with_last s (v, var_height v)) vs ss p.0 rest (omega (arith, full, long, some)) (omega (arith, few, long)) are.1 (omega (arith, low)) are2 low2 p.2 in
        let height : max (max s.1 (var_height v)) (greatest var_height vs) ≡ max s.1 (max (var_height v) (greatest var_height vs)) = omega arith in
        let all = append_assoc s.0 (v ∷ []) vs in
        let is : longer (with_last s (v, var_height v)) vs ≡ longer s (v ∷ vs) = cc in
        record {
          first = d.first;
          others = d.others;
          mid = d.mid;
          all = d.all;
          reads = bind_is (step s i) (turned (turns n step)) (go (with_last s (v, var_height v))) p.0 _ (var_turn s v i p.0 few are.0 (omega (arith, low)) p.1 (var_begins i p.0 v are.0 p.1))
              (d.reads ∙ ap (λ z. Ok ((z, (d.first, greatest stmt_height d.first)), d.mid)) is);
          takes = d.takes;
          less = omega (arith, d.less, long);
          are = d.are;
          low = d.low;
        }
