-- A script is read.
use Rattle.std.proofs.Common.{◌≡◌, ℕ, ◌≤◌, max, true, false, List, [], ◌∷◌, ◌++◌, length, Option, Some, Ok, refl, sym, ◌∙◌, ap, subst, arith}
use Rattle.svr_token.specs.declared.Lexeme.{Lexeme}
use Rattle.svr_token.specs.declared.Lexeme.TheVariants as lexeme
use Rattle.svr_token.specs.declared.Word.TheVariants as w
use Rattle.svr_token.specs.declared.Mark.TheVariants as m
use Rattle.svr_token.specs.declared.NameKind.{NameKind}
use Rattle.svr_tree.specs.declared.script.UnitKind.{UnitKind}
use Rattle.svr_tree.specs.declared.script.UnitKind.TheVariants as unit_kind
use Rattle.svr_tree.specs.Tokens as tokens
use Rattle.svr_tree.specs.Tokens.{Tok, Entry, Name, FitEach, Each, word, mark}
use Rattle.svr_tree.specs.DeclTree.{VarTree}
use Rattle.svr_tree.specs.StmtTree.{StmtTree}
use Rattle.svr_tree.specs.ScriptTree.{UnitTree, ScriptTree}
use Rattle.svr_tree.specs.ExprGrammar.{parens_spelling}
use Rattle.svr_tree.specs.DeclGrammar.{typedef_spelling, class_spelling, label_spelling, var_spelling, IsTypedef, IsClass, IsVar, greatest, class_height, var_height}
use Rattle.svr_tree.specs.StmtGrammar.{stmt_spelling, IsStmt, stmt_height}
use Rattle.svr_tree.specs.ScriptGrammar.{first_word, last_word, unit_spelling, tops_spelling, spelling, IsUnit, IsLevelled, unit_height, height}
use Rattle.svr_reader.specs.Outcomes.{Parser, lexeme_at}
use Rattle.svr_reader.specs.declared.fixed.Fixed.TheVariants as f
use Rattle.svr_reader.specs.Program.{call, run, expect}
use Rattle.svr_reader.specs.Steps.{is_fixed, sees, same_word, same_mark}
use Rattle.svr_reader.specs.Lists.{until, name, parens, name_behind}
use Rattle.svr_reader.proofs.Live.{AnyToken}
use Rattle.svr_reader.proofs.Steps.{bind_is, takes_append, takes_parts, takes_length, takes_less, lexeme_of, expects, name_complete}
use Rattle.svr_reader.proofs.Layers.{IsComplete}
use Rattle.svr_reader.proofs.Lists.{until_complete, until_turns_complete}
use Rattle.svr_stmt.specs.StmtRules.{stmt_starts}
use Rattle.svr_decl_laws.proofs.Optional.{label_is, name_behind_complete, parens_complete}
use Rattle.svr_parse.specs.ScriptRules.{Part, a_typedef, a_class, a_var, a_stmt, var_of, stmt_of, Ans, Rule, tops, kind, inner, stmts_on, unit, script_in}
use Rattle.svr_parse.proofs.Parts.{greatest_append}
use Rattle.svr_parse.proofs.Begins.{var_fills, var_apart}
use Rattle.svr_parse.proofs.SoundTops.{tall_typedef}
use Rattle.svr_parse.proofs.CompleteTops.{starts_unit, NotColon, tops_complete}
use Rattle.svr_parse.proofs.CompleteUnit.{ReadsBehind, goes_behind, kind_complete, goes}

-- behind the entry that comes first
one_entry : (i rest : List Tok) (e : Entry) (es : List Entry) → FitEach i (e ∷ es) rest → (mid : List Tok) × FitEach i (e ∷ []) mid × FitEach mid es rest
one_entry i rest e es h = takes_parts i (e ∷ []) es rest h

-- behind a list and the entry that ends it
ended_parts : (i rest : List Tok) (es : List Entry) (e : Entry) (fs : List Entry) → FitEach i (es ++ e ∷ fs) rest → (mid : List Tok) × FitEach i (es ++ e ∷ []) mid × FitEach mid fs rest
ended_parts i rest es e fs h =
    let p = takes_parts i es (e ∷ fs) rest h in
    let q = one_entry p.0 rest e fs p.2 in
    (q.0, takes_append i es (e ∷ []) p.0 q.0 p.1 q.1, q.2)

no_parens : (i rest : List Tok) (es : List Entry) → FitEach i (mark m.Semicolon ∷ es) rest → sees (f.Mark m.OpenParen) i ≡ false
unfolding same_mark
no_parens i rest es h = ap (is_fixed (f.Mark m.OpenParen)) (lexeme_of i rest (lexeme.Mark m.Semicolon) es h)

kind_starts : (k : UnitKind) → starts_unit (Some (lexeme.Word (first_word k))) ≡ true
kind_starts unit_kind.Module = refl
kind_starts unit_kind.Program = refl

unit_starts : (u : UnitTree) (i rest : List Tok) → FitEach i (unit_spelling u) rest → starts_unit (lexeme_at i) ≡ true
unit_starts u [] rest h = absurd h
unit_starts u (t ∷ i) rest h = ap (λ q. starts_unit (Some q)) h.0 ∙ kind_starts u.kind

module _ (most r : ℕ) (sub : (k : Part) → Parser (Ans k)) (vars : IsComplete var_spelling IsVar var_height most r AnyToken (sub a_var)) (stmts : IsComplete stmt_spelling IsStmt stmt_height most r AnyToken (sub a_stmt))
    (vars_of : (t : Tok) (k : NameKind) → t.lexeme ≡ lexeme.Name k → ReadsBehind var_spelling IsVar var_height most r t (sub (var_of t.at)))
    (stmts_of : (t : Tok) (k : NameKind) → t.lexeme ≡ lexeme.Name k → ReadsBehind stmt_spelling IsStmt stmt_height most r t (sub (stmt_of (t.at, k))))
    (first_stmt : (x : StmtTree) (i rest : List Tok) → IsStmt x → FitEach i (stmt_spelling x) rest → stmt_starts (lexeme_at i) ≡ true)
    (second_stmt : (t : Tok) (k : NameKind) (x : StmtTree) (i rest : List Tok) → t.lexeme ≡ lexeme.Name k → IsStmt x → FitEach (t ∷ i) (stmt_spelling x) rest → goes_behind (lexeme_at i) ≡ true)
    (stmt_fills : (x : StmtTree) → IsStmt x → 1 ≤ length (stmt_spelling x)) where
  abbrev R : {A : Type 0} → Rule A → Parser A
  R p = run most r sub p

  stmt_apart : (x : StmtTree) (i rest : List Tok) → IsStmt x → FitEach i (stmt_spelling x) rest → sees (f.Word w.End) i ≡ false
  unfolding same_word
  stmt_apart x i rest is h = by (lexeme_at i) (first_stmt x i rest is h)
    where
      by : (q : Option Lexeme) → stmt_starts q ≡ true → is_fixed (f.Word w.End) q ≡ false
      by (Some (lexeme.Word w.End)) s = absurd (cc)
      by _ s = refl

  outer_complete : (vs : List VarTree) (i rest : List Tok) → length i ≤ most → Each IsVar vs → greatest var_height vs ≤ r → FitEach i (tokens.each_spelling var_spelling vs ++ word w.Initial ∷ []) rest
      → R (until (f.Word w.Initial) (call a_var)) i ≡ Ok ((vs, greatest var_height vs), rest)
  outer_complete vs i rest few is low h =
      (until_complete most r sub (call a_var) var_spelling IsVar var_height (f.Word w.Initial) r AnyToken vars var_fills (λ x i2 j is2 h2. (tt, var_apart i2 j x is2 h2)) tt).at vs i rest (omega (arith, few)) is low h tt

  stmts_complete : (first others : List StmtTree) (i rest : List Tok) → length i ≤ most → Each IsStmt others → greatest stmt_height others ≤ r → FitEach i (tokens.each_spelling stmt_spelling others ++ word w.End ∷ []) rest
      → R (stmts_on (first, greatest stmt_height first)) i ≡ Ok ((first ++ others, greatest stmt_height (first ++ others)), rest)
  unfolding stmts_on
  stmts_complete first others i rest few is low h =
      until_turns_complete most r sub (call a_stmt) stmt_spelling IsStmt stmt_height (f.Word w.End) r AnyToken stmts stmt_fills (λ x i2 j is2 h2. (tt, stmt_apart x i2 j is2 h2)) tt
      most (first, greatest stmt_height first) others i rest (omega (arith, few)) (omega (arith, few)) is low h
      ∙ ap (λ z. Ok ((first ++ others, z), rest)) (sym (greatest_append stmt_height first others))

  pub unit_complete : (u : UnitTree) (i rest : List Tok) → length i ≤ most → IsUnit u → unit_height u ≤ r → FitEach i (unit_spelling u) rest → NotColon (lexeme_at rest) → R unit i ≡ Ok ((u, unit_height u), rest)
  unfolding unit inner
  unit_complete u i rest few is low h c =
      let es8 = word (last_word u.kind) ∷ label_spelling u.label in
      let es7 = tokens.each_spelling stmt_spelling u.stmts ++ word w.End ∷ es8 in
      let es6 = tokens.each_spelling var_spelling u.inner ++ es7 in
      let es4 = tokens.each_spelling var_spelling u.outer ++ word w.Initial ∷ (word w.Begin ∷ es6) in
      let a = one_entry i rest (word (first_word u.kind)) (Name u.name ∷ (parens_spelling u.parens ++ mark m.Semicolon ∷ es4)) h in
      let b = one_entry a.0 rest (Name u.name) (parens_spelling u.parens ++ mark m.Semicolon ∷ es4) a.2 in
      let d = takes_parts b.0 (parens_spelling u.parens) (mark m.Semicolon ∷ es4) rest b.2 in
      let e = one_entry d.0 rest (mark m.Semicolon) es4 d.2 in
      let o = ended_parts e.0 rest (tokens.each_spelling var_spelling u.outer) (word w.Initial) (word w.Begin ∷ es6) e.2 in
      let g = one_entry o.0 rest (word w.Begin) es6 o.2 in
      let la = takes_less i (word (first_word u.kind) ∷ []) a.0 a.1 in
      let lb = takes_less a.0 (Name u.name ∷ []) b.0 b.1 in
      let ld = takes_less b.0 (parens_spelling u.parens) d.0 d.1 in
      let le = takes_less d.0 (mark m.Semicolon ∷ []) e.0 e.1 in
      let lo = takes_less e.0 (tokens.each_spelling var_spelling u.outer ++ word w.Initial ∷ []) o.0 o.1 in
      let lg = takes_less o.0 (word w.Begin ∷ []) g.0 g.1 in
      let v = takes_parts g.0 (tokens.each_spelling var_spelling u.inner) es7 rest g.2 in
      let s = ended_parts v.0 rest (tokens.each_spelling stmt_spelling u.stmts) (word w.End) es8 v.2 in
      let z = takes_append g.0 (tokens.each_spelling var_spelling u.inner) (tokens.each_spelling stmt_spelling u.stmts ++ word w.End ∷ []) v.0 s.0 v.1 s.1 in
      let some = takes_length s.0 es8 rest s.2 in
      let way = goes most r sub vars stmts vars_of stmts_of first_stmt second_stmt stmt_fills most ([], 0) u.inner u.stmts g.0 s.0 (omega (arith, few, la, lb, ld, le, lo, lg, some)) (omega (arith, few, la, lb, ld, le, lo, lg)) is.1 (omega (arith, low)) is.2 (omega (arith, low)) z in
      let x = one_entry s.0 rest (word (last_word u.kind)) (label_spelling u.label) s.2 in
      let not_open : sees (f.Mark m.OpenParen) d.0 ≡ false = no_parens d.0 rest es4 d.2 in
      let all : (way.first ++ way.others, greatest stmt_height (way.first ++ way.others)) ≡ (u.stmts, greatest stmt_height u.stmts) = ap (λ y. (y, greatest stmt_height y)) (sym way.all) in
      let inner_tall : max 0 (greatest var_height u.inner) ≡ greatest var_height u.inner = omega arith in
      bind_is (R kind i) _ u.kind a.0 _ (kind_complete most r sub u.kind i a.0 a.1)
      (bind_is (R name a.0) _ u.name b.0 _ (name_complete most r sub u.name a.0 b.0 b.1)
      (bind_is (R parens b.0) _ u.parens d.0 _ (parens_complete most r sub u.parens b.0 d.0 d.1 not_open)
      (bind_is (R (expect (f.Mark m.Semicolon)) d.0) _ tt e.0 _ (expects most r sub (f.Mark m.Semicolon) d.0 e.0 e.1)
      (bind_is (R (until (f.Word w.Initial) (call a_var)) e.0) _ (u.outer, greatest var_height u.outer) o.0 _ (outer_complete u.outer e.0 o.0 (omega (arith, few, la, lb, ld, le)) is.0 (omega (arith, low)) o.1)
      (bind_is (R (expect (f.Word w.Begin)) o.0) _ tt g.0 _ (expects most r sub (f.Word w.Begin) o.0 g.0 g.1)
      (bind_is (R inner g.0) _ ((u.inner, greatest var_height u.inner), (way.first, greatest stmt_height way.first)) way.mid _
      (way.reads ∙ ap (λ y. Ok (((u.inner, y), (way.first, greatest stmt_height way.first)), way.mid)) inner_tall)
      (bind_is (R (stmts_on (way.first, greatest stmt_height way.first)) way.mid) _ (u.stmts, greatest stmt_height u.stmts) s.0 _
      (stmts_complete way.first way.others way.mid s.0 (omega (arith, few, la, lb, ld, le, lo, lg, way.less)) way.are way.low way.takes ∙ ap (λ y. Ok (y, s.0)) all)
      (bind_is (R (expect (f.Word (last_word u.kind))) s.0) _ tt x.0 _ (expects most r sub (f.Word (last_word u.kind)) s.0 x.0 x.1)
      (bind_is (R (name_behind (f.Mark m.Colon)) x.0) _ u.label rest _ (name_behind_complete most r sub (f.Mark m.Colon) u.label x.0 rest (subst (λ es. FitEach x.0 es rest) (sym (label_is u.label)) x.2) c) refl)))))))))

  module _ (types : IsComplete typedef_spelling IsTypedef tall_typedef most r AnyToken (sub a_typedef)) (classes : IsComplete class_spelling IsClass class_height most r NotColon (sub a_class)) where
    pub script_complete : (t : ScriptTree) (i : List Tok) → length i ≤ most → IsLevelled t → height t ≤ r → FitEach i (spelling t) [] → R script_in i ≡ Ok ((t, height t), [])
    unfolding script_in
    script_complete t i few is low h =
        let p = takes_parts i (tops_spelling t.types t.classes t.order) (unit_spelling t.unit) [] h in
        let less = takes_less i (tops_spelling t.types t.classes t.order) p.0 p.1 in
        let some = takes_length p.0 (unit_spelling t.unit) [] p.2 in
        bind_is (R tops i) _ (record { types = t.types; classes = t.classes; order = t.order }, max (greatest tall_typedef t.types) (greatest class_height t.classes)) p.0 _
        (tops_complete most r sub types classes t.types t.classes t.order i p.0 few (omega (arith, some)) is.order is.types is.classes (omega (arith, low)) (omega (arith, low)) p.1
        (unit_starts t.unit p.0 [] p.2))
        (bind_is (R unit p.0) _ (t.unit, unit_height t.unit) [] _ (unit_complete t.unit p.0 [] (omega (arith, few, less)) is.unit (omega (arith, low)) p.2 refl) refl)
