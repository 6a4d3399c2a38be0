-- A script: what is read spells it.
use Rattle.std.proofs.Common.{◌≡◌, ℕ, ◌≤◌, Bool, List, [], ◌∷◌, ◌++◌, Option, Ok, sym, ◌∙◌, ap, subst, arith, append_assoc}
use Rattle.svr_token.specs.declared.Lexeme.TheVariants as lexeme
use Rattle.svr_token.specs.declared.Word.TheVariants as w
use Rattle.svr_token.specs.declared.Mark.TheVariants as m
use Rattle.svr_token.specs.declared.NameKind.{NameKind}
use Rattle.svr_tree.specs.declared.script.UnitKind.{UnitKind}
use Rattle.svr_tree.specs.Tokens as tokens
use Rattle.svr_tree.specs.Tokens.{Tok, Entry, Name, FitEach, Each, word, mark}
use Rattle.svr_tree.specs.declared.script.Top.{Top}
use Rattle.svr_tree.specs.DeclTree.{TypeTree, ClassTree, VarTree}
use Rattle.svr_tree.specs.StmtTree.{StmtTree}
use Rattle.svr_tree.specs.ExprGrammar.{parens_spelling}
use Rattle.svr_tree.specs.DeclGrammar.{typedef_spelling, class_spelling, label_spelling, var_spelling, IsTypedef, IsClass, IsVar, greatest, class_height, var_height}
use Rattle.svr_tree.specs.StmtGrammar.{stmt_spelling, IsStmt, stmt_height}
use Rattle.svr_tree.specs.ScriptGrammar.{first_word, last_word, unit_spelling, tops_spelling, spelling, IsOrder, IsUnit, IsLevelled, unit_height, height}
use Rattle.svr_reader.specs.Outcomes.{Parser}
use Rattle.svr_reader.specs.declared.fixed.Fixed.TheVariants as f
use Rattle.svr_reader.specs.Program.{call, run, expect}
use Rattle.svr_reader.specs.Lists.{WithHeight, until, name, parens, name_behind}
use Rattle.svr_reader.proofs.Steps.{bind_ok, yields, takes_append, expect_ok, name_sound}
use Rattle.svr_reader.proofs.Layers.{ReadAs, IsSound}
use Rattle.svr_reader.proofs.Lists.{until_sound}
use Rattle.svr_decl_laws.proofs.Optional.{label_sound, parens_sound}
use Rattle.svr_parse.specs.ScriptRules.{Part, a_typedef, a_class, a_var, a_stmt, var_of, stmt_of, Ans, Rule, tops, kind, Inner, inner, stmts_on, unit, script_in}
use Rattle.svr_parse.proofs.Parts.{run_append, greatest_append, each_append, ended_then}
use Rattle.svr_parse.proofs.SoundTops.{tall_typedef, tops_sound}
use Rattle.svr_parse.proofs.SoundUnit.{BehindToken, kind_sound, inner_sound, stmts_on_sound}

module _ (most r : ℕ) (sub : (k : Part) → Parser (Ans k)) (vars : IsSound var_spelling IsVar var_height r (sub a_var)) (stmts : IsSound stmt_spelling IsStmt stmt_height r (sub a_stmt))
    (vars_of : (t : Tok) (k : NameKind) → t.lexeme ≡ lexeme.Name k → BehindToken var_spelling IsVar var_height r t (sub (var_of t.at)))
    (stmts_of : (t : Tok) (k : NameKind) → t.lexeme ≡ lexeme.Name k → BehindToken stmt_spelling IsStmt stmt_height r t (sub (stmt_of (t.at, k)))) where
  abbrev R : {A : Type 0} → Rule A → Parser A
  R p = run most r sub p

  -- the statements of a block, behind its variables
  abbrev bodied : List VarTree → List StmtTree → List Entry → List Entry
  bodied vs ss es = tokens.each_spelling var_spelling vs ++ (tokens.each_spelling stmt_spelling ss ++ word w.End ∷ es)

  record BodyRead (i : List Tok) (x : Inner) (y : WithHeight (List StmtTree)) (j : List Tok) : Type 0 where
    takes : (es : List Entry) (rest : List Tok) → FitEach j es rest → FitEach i (bodied x.0.0 y.0 es) rest
    are_vars : Each IsVar x.0.0
    are_stmts : Each IsStmt y.0
    height : x.0.1 ≡ greatest var_height x.0.0
    low : x.0.1 ≤ r
    stmts_tall : y.1 ≡ greatest stmt_height y.0
    stmts_low : y.1 ≤ r

  body_read : (i : List Tok) (x : Inner) (mid : List Tok) (y : WithHeight (List StmtTree)) (j : List Tok) → R inner i ≡ Ok (x, mid) → R (stmts_on x.1) mid ≡ Ok (y, j) → BodyRead i x y j
  body_read i x mid y j h k =
      let d = inner_sound most r sub vars stmts vars_of stmts_of i x mid h in
      let e = stmts_on_sound most r sub vars stmts vars_of stmts_of x.1 mid y j k in
      let joined : tokens.each_spelling stmt_spelling x.1.0 ++ tokens.each_spelling stmt_spelling e.more ≡ tokens.each_spelling stmt_spelling y.0 = sym (run_append stmt_spelling x.1.0 e.more) ∙ ap (tokens.each_spelling stmt_spelling) (sym e.all) in
      record {
        takes = λ es rest t.
            let front = tokens.each_spelling var_spelling d.more in
            let a : FitEach mid (tokens.each_spelling stmt_spelling e.more ++ word w.End ∷ es) rest = ended_then mid j rest (tokens.each_spelling stmt_spelling e.more) (word w.End) es e.takes t in
            let b = takes_append i (front ++ tokens.each_spelling stmt_spelling x.1.0) (tokens.each_spelling stmt_spelling e.more ++ word w.End ∷ es) mid rest d.takes a in
            let c : FitEach i (front ++ (tokens.each_spelling stmt_spelling x.1.0 ++ (tokens.each_spelling stmt_spelling e.more ++ word w.End ∷ es))) rest
            = subst (λ z. FitEach i z rest) (append_assoc front (tokens.each_spelling stmt_spelling x.1.0) (tokens.each_spelling stmt_spelling e.more ++ word w.End ∷ es)) b in
            let f : FitEach i (front ++ ((tokens.each_spelling stmt_spelling x.1.0 ++ tokens.each_spelling stmt_spelling e.more) ++ word w.End ∷ es)) rest
            = subst (λ z. FitEach i (front ++ z) rest) (sym (append_assoc (tokens.each_spelling stmt_spelling x.1.0) (tokens.each_spelling stmt_spelling e.more) (word w.End ∷ es))) c in
            let g : FitEach i (front ++ (tokens.each_spelling stmt_spelling y.0 ++ word w.End ∷ es)) rest = subst (λ z. FitEach i (front ++ (z ++ word w.End ∷ es)) rest) joined f in
            subst (λ z. FitEach i (tokens.each_spelling var_spelling z ++ (tokens.each_spelling stmt_spelling y.0 ++ word w.End ∷ es)) rest) (sym d.all) g;
        are_vars = subst (Each IsVar) (sym d.all) d.vars;
        are_stmts = subst (Each IsStmt) (sym e.all) (each_append IsStmt x.1.0 e.more d.stmts e.are);
        height = omega (arith, d.height, ap (greatest var_height) d.all);
        low = d.low (omega arith);
        stmts_tall = omega (arith, e.height, d.stmts_tall, ap (greatest stmt_height) e.all, greatest_append stmt_height x.1.0 e.more);
        stmts_low = e.low d.stmts_low;
      }

  unit_all : (i i1 i2 i3 i4 i5 i6 i7 i8 j : List Tok) (k : UnitKind) (n : ℕ) (p : Bool) (outer : List VarTree) (vs : List VarTree) (ss : List StmtTree) (l : Option ℕ)
      → FitEach i (word (first_word k) ∷ []) i1 → FitEach i1 (Name n ∷ []) i2 → FitEach i2 (parens_spelling p) i3 → FitEach i3 (mark m.Semicolon ∷ []) i4 → FitEach i4 (tokens.each_spelling var_spelling outer ++ word w.Initial ∷ []) i5
      → FitEach i5 (word w.Begin ∷ []) i6 → ((es : List Entry) (rest : List Tok) → FitEach i7 es rest → FitEach i6 (bodied vs ss es) rest) → FitEach i7 (word (last_word k) ∷ []) i8 → FitEach i8 (label_spelling l) j
      → FitEach i (unit_spelling (record { kind = k; name = n; parens = p; outer = outer; inner = vs; stmts = ss; label = l })) j
  unit_all i i1 i2 i3 i4 i5 i6 i7 i8 j k n p outer vs ss l a b c d e f g h o =
      let es8 = word (last_word k) ∷ label_spelling l in
      let t7 : FitEach i7 es8 j = takes_append i7 (word (last_word k) ∷ []) (label_spelling l) i8 j h o in
      let es6 = bodied vs ss es8 in
      let t6 : FitEach i6 es6 j = g es8 j t7 in
      let t5 : FitEach i5 (word w.Begin ∷ es6) j = takes_append i5 (word w.Begin ∷ []) es6 i6 j f t6 in
      let t4 : FitEach i4 (tokens.each_spelling var_spelling outer ++ word w.Initial ∷ (word w.Begin ∷ es6)) j = ended_then i4 i5 j (tokens.each_spelling var_spelling outer) (word w.Initial) (word w.Begin ∷ es6) e t5 in
      let es4 = tokens.each_spelling var_spelling outer ++ word w.Initial ∷ (word w.Begin ∷ es6) in
      let t3 : FitEach i3 (mark m.Semicolon ∷ es4) j = takes_append i3 (mark m.Semicolon ∷ []) es4 i4 j d t4 in
      let t2 : FitEach i2 (parens_spelling p ++ mark m.Semicolon ∷ es4) j = takes_append i2 (parens_spelling p) (mark m.Semicolon ∷ es4) i3 j c t3 in
      let t1 : FitEach i1 (Name n ∷ (parens_spelling p ++ mark m.Semicolon ∷ es4)) j = takes_append i1 (Name n ∷ []) (parens_spelling p ++ mark m.Semicolon ∷ es4) i2 j b t2 in
      takes_append i (word (first_word k) ∷ []) (Name n ∷ (parens_spelling p ++ mark m.Semicolon ∷ es4)) i1 j a t1

  pub unit_sound : IsSound unit_spelling IsUnit unit_height r (R unit)
  unfolding unit
  unit_sound = record {
    at = λ i x j h.
        bind_ok (R kind i) _ (x, j) h (λ k i1 a h1.
        bind_ok (R name i1) _ (x, j) h1 (λ n i2 b h2.
        bind_ok (R parens i2) _ (x, j) h2 (λ p i3 c h3.
        bind_ok (R (expect (f.Mark m.Semicolon)) i3) _ (x, j) h3 (λ u i4 d h4.
        bind_ok (R (until (f.Word w.Initial) (call a_var)) i4) _ (x, j) h4 (λ outer i5 e h5.
        bind_ok (R (expect (f.Word w.Begin)) i5) _ (x, j) h5 (λ u2 i6 g h6.
        bind_ok (R inner i6) _ (x, j) h6 (λ inside i7 q h7.
        bind_ok (R (stmts_on inside.1) i7) _ (x, j) h7 (λ ss i8 s h8.
        bind_ok (R (expect (f.Word (last_word k))) i8) _ (x, j) h8 (λ u3 i9 t h9.
        bind_ok (R (name_behind (f.Mark m.Colon)) i9) _ (x, j) h9 (λ l i10 v h10.
        let out = (until_sound most r sub (call a_var) var_spelling IsVar var_height (f.Word w.Initial) vars).at i4 outer i5 e in
        let body = body_read i6 inside i7 ss i8 q s in
        yields (λ z y. ReadAs unit_spelling IsUnit unit_height r i z y) _ i10 (x, j) h10 (record {
          takes = unit_all i i1 i2 i3 i4 i5 i6 i8 i9 i10 k n p outer.0 inside.0.0 ss.0 l
              (kind_sound most r sub i k i1 a) (name_sound most r sub i1 n i2 b) (parens_sound most r sub i2 p i3 c) (expect_ok most r sub (f.Mark m.Semicolon) i3 (u, i4) d) out.takes
              (expect_ok most r sub (f.Word w.Begin) i5 (u2, i6) g) body.takes (expect_ok most r sub (f.Word (last_word k)) i8 (u3, i9) t) (label_sound most r sub i9 l i10 v);
          is = (out.is, body.are_vars, body.are_stmts);
          height = omega (arith, out.height, body.height, body.stmts_tall);
          low = omega (arith, out.low, body.low, body.stmts_low);
        })))))))))));
  }

  module _ (types : IsSound typedef_spelling IsTypedef tall_typedef r (sub a_typedef)) (classes : IsSound class_spelling IsClass class_height r (sub a_class)) where
    pub script_sound : IsSound spelling IsLevelled height r (R script_in)
    unfolding script_in
    script_sound = record {
      at = λ i x j h.
          bind_ok (R tops i) _ (x, j) h (λ t mid e g.
          bind_ok (R unit mid) _ (x, j) g (λ u j2 e2 k.
          let a = tops_sound most r sub types classes i t mid e in
          let b = unit_sound.at mid u j2 e2 in
          let first : t.0.types ≡ a.ts = a.all_types in
          let second : t.0.classes ≡ a.cs = a.all_classes in
          let third : t.0.order ≡ a.order = a.all_order in
          let low = a.low (omega arith) in
          yields (λ z y. ReadAs spelling IsLevelled height r i z y) _ j2 (x, j) k (record {
            takes = takes_append i (tops_spelling t.0.types t.0.classes t.0.order) (unit_spelling u.0) mid j2
                (subst (λ z. FitEach i (tops_spelling z t.0.classes t.0.order) mid) (sym first) (subst (λ z. FitEach i (tops_spelling a.ts z t.0.order) mid) (sym second) (subst (λ z. FitEach i (tops_spelling a.ts a.cs z) mid) (sym third) a.takes))) b.takes;
            is = record {
              types = subst (Each IsTypedef) (sym first) a.are_types;
              classes = subst (Each IsClass) (sym second) a.are_classes;
              order = ordered t.0.types t.0.classes t.0.order a.ts a.cs a.order first second third a.ordered;
              unit = b.is;
            };
            height = omega (arith, a.height, b.height, ap (greatest tall_typedef) first, ap (greatest class_height) second);
            low = omega (arith, low, b.low);
          })));
    }
      where
        ordered : (ts : List TypeTree) (cs : List ClassTree) (o : List Top) (ts2 : List TypeTree) (cs2 : List ClassTree) (o2 : List Top)
            → ts ≡ ts2 → cs ≡ cs2 → o ≡ o2 → IsOrder ts2 cs2 o2 → IsOrder ts cs o
        ordered ts cs o ts2 cs2 o2 a b c h = rw (a, b, c) h
