-- What is read of classes and variables is what the grammar has there.
use Rattle.std.proofs.Common.{◌≡◌, ℕ, ◌≤◌, Bool, List, [], ◌∷◌, ◌++◌, Option, Some, None, Ok, refl, subst, arith, append_assoc}
use Rattle.svr_token.specs.declared.Lexeme.TheVariants as lexeme
use Rattle.svr_token.specs.declared.NameKind.TheVariants as name_kind
use Rattle.svr_token.specs.declared.Word.TheVariants as w
use Rattle.svr_token.specs.declared.Mark.TheVariants as m
use Rattle.svr_tree.specs.Tokens as tokens
use Rattle.svr_tree.specs.Tokens.{Tok, Entry, Any, Name, FitEach, word, mark, listed, Each, OneOrMore}
use Rattle.svr_tree.specs.ItemGrammar.{AreBlockItems, items_height}
use Rattle.svr_tree.specs.ExprGrammar.{parens_spelling, expr_spelling, IsExpr, expr_height}
use Rattle.svr_tree.specs.DeclTree.{DataTypeTree, named, BlockTree, ClassItemTree, VarInitTree, VarTree}
use Rattle.svr_tree.specs.DeclGrammar.{type_spelling, block_spelling, class_item_spelling, extends_spelling, label_spelling, class_spelling, var_init_spelling, var_declarator_spelling, var_spelling, IsType, IsClassItem, IsClass, IsVarInit, IsVarDeclarator, IsVar, greatest, type_height, class_item_height, class_height, var_init_height, var_declarator_height, var_height}
use Rattle.svr_reader.specs.Outcomes.{Parser}
use Rattle.svr_reader.specs.declared.fixed.Fixed.TheVariants as f
use Rattle.svr_reader.specs.Program.{run, expect}
use Rattle.svr_reader.specs.Lists.{WithHeight, listing, until, name, parens, name_behind}
use Rattle.svr_reader.proofs.Steps.{bind_ok, yields, takes_append, expect_ok, led_ok, name_sound}
use Rattle.svr_reader.proofs.Layers.{ReadAs, IsSound}
use Rattle.svr_reader.proofs.Lists.{listing_sound, until_sound}
use Rattle.svr_decl.specs.DeclRules.{Part, an_expression, the_block_items, Ans, Rule, data_type, property_in, block_on, class_item, class_in, var_value, var_initial, var_declarator, vars_on, var_in}
use Rattle.svr_decl_laws.proofs.Optional.{extends_is, label_is, name_behind_sound, parens_sound}
use Rattle.svr_decl_laws.proofs.Before.{block_text, AreOfBlock, block_height}
use Rattle.svr_decl_laws.proofs.SoundTypes.{type_sound}
use Rattle.svr_decl_laws.proofs.SoundMembers.{property_sound}

-- what a variable spells behind its type
abbrev pub vars_spelling : VarTree → List Entry
vars_spelling v = listed var_declarator_spelling v.vars ++ mark m.Semicolon ∷ []

-- a variable whose type was read already
abbrev pub IsVarOf : DataTypeTree → VarTree → Type 0
IsVarOf t v = IsVar v × (v.kind ≡ t)

module _ (most r : ℕ) (sub : (k : Part) → Parser (Ans k)) (ok : IsSound expr_spelling IsExpr expr_height r (sub an_expression)) where
  abbrev R : {A : Type 0} → Rule A → Parser A
  R p = run most r sub p

  -- ---- variables

  abbrev ReadInit : List Tok → WithHeight (Option VarInitTree) → List Tok → Type 0
  ReadInit i x j = ReadAs var_init_spelling IsVarInit var_init_height r i x j

  var_value_sound : (i mid : List Tok) (x : WithHeight (Option VarInitTree)) (j : List Tok) → FitEach i (mark m.Assign ∷ []) mid → R var_value mid ≡ Ok (x, j) → ReadInit i x j
  unfolding var_value
  var_value_sound i mid x j t h = led_ok most r sub (f.Word w.New) _ _ mid (x, j) h
      (λ j2 word_new g. bind_ok (R parens j2) _ (x, j) g (λ c j3 e g2.
      yields (ReadInit i) _ _ (x, j) g2 (record {
        takes = takes_append i (mark m.Assign ∷ []) (word w.New ∷ parens_spelling c) mid j3 t (takes_append mid (word w.New ∷ []) (parens_spelling c) j2 j3 word_new (parens_sound most r sub j2 c j3 e));
        is = tt;
        height = refl;
        low = omega arith;
      })))
      (λ _ g. bind_ok (sub an_expression mid) _ (x, j) g (λ a j2 e g2.
      let s = ok.at mid a j2 e in
      yields (ReadInit i) _ _ (x, j) g2 (record { takes = takes_append i (mark m.Assign ∷ []) (expr_spelling a.0) mid j2 t s.takes; is = s.is; height = s.height; low = s.low })))

  var_initial_sound : IsSound var_init_spelling IsVarInit var_init_height r (R var_initial)
  unfolding var_initial
  var_initial_sound = record {
    at = λ i x j h. led_ok most r sub (f.Mark m.Assign) _ _ i (x, j) h
        (λ mid t g. var_value_sound i mid x j t g)
        (λ _ g. yields (ReadInit i) _ _ (x, j) g (record { takes = refl; is = tt; height = refl; low = omega arith }));
  }

  var_declarator_sound : IsSound var_declarator_spelling IsVarDeclarator var_declarator_height r (R var_declarator)
  unfolding var_declarator
  var_declarator_sound = record {
    at = λ i x j h. bind_ok (R name i) _ (x, j) h (λ n j2 e g. bind_ok (R var_initial j2) _ (x, j) g (λ v j3 e2 g2.
        let d = var_initial_sound.at j2 v j3 e2 in
        yields (ReadAs var_declarator_spelling IsVarDeclarator var_declarator_height r i) _ _ (x, j) g2 (record {
          takes = takes_append i (Name n ∷ []) (var_init_spelling v.0) j2 j3 (name_sound most r sub i n j2 e) d.takes;
          is = d.is;
          height = d.height;
          low = d.low;
        })));
  }

  var_declarators_sound : IsSound (listed var_declarator_spelling) (OneOrMore IsVarDeclarator) (greatest var_declarator_height) r (R (listing var_declarator))
  var_declarators_sound = listing_sound most r sub var_declarator var_declarator_spelling IsVarDeclarator var_declarator_height var_declarator_sound

  -- what stands behind a type that was read from i0
  vars_on_sound : (i0 : List Tok) (t : WithHeight DataTypeTree) (i : List Tok) (x : WithHeight VarTree) (j : List Tok) → ReadAs type_spelling IsType type_height r i0 t i → R (vars_on t) i ≡ Ok (x, j)
      → ReadAs var_spelling IsVar var_height r i0 x j × FitEach i (vars_spelling x.0) j × (x.0.kind ≡ t.0)
  unfolding vars_on
  vars_on_sound i0 t i x j a h = bind_ok (R (listing var_declarator) i) _ (x, j) h (λ vs j2 e g. bind_ok (R (expect (f.Mark m.Semicolon)) j2) _ (x, j) g (λ u j3 e2 g2.
      let d = var_declarators_sound.at i vs j2 e in
      let all = takes_append i (listed var_declarator_spelling vs.0) (mark m.Semicolon ∷ []) j2 j3 d.takes (expect_ok most r sub (f.Mark m.Semicolon) j2 (u, j3) e2) in
      yields (λ y z. ReadAs var_spelling IsVar var_height r i0 y z × FitEach i (vars_spelling y.0) z × (y.0.kind ≡ t.0)) _ _ (x, j) g2 (
        record {
          takes = takes_append i0 (type_spelling t.0) (listed var_declarator_spelling vs.0 ++ mark m.Semicolon ∷ []) i j3 a.takes all;
          is = (a.is, d.is);
          height = omega (arith, a.height, d.height);
          low = omega (arith, a.low, d.low);
        },
        all,
        refl,
      )))

  pub var_in_sound : IsSound var_spelling IsVar var_height r (R var_in)
  unfolding var_in
  var_in_sound = record { at = λ i x j h. bind_ok (R data_type i) _ (x, j) h (λ t j2 e g. (vars_on_sound i t j2 x j ((type_sound most r sub ok).at i t j2 e) g).0) }

  pub vars_sound : (n : ℕ) → IsSound vars_spelling (IsVarOf (named n)) var_height r (R (vars_on (named n, 0)))
  vars_sound n = record {
    at = λ i x j h.
        let t : Tok = record { at = n; lexeme = lexeme.Name name_kind.Plain } in
        let d = vars_on_sound (t ∷ i) (named n, 0) i x j (record { takes = ((refl, record { kind = name_kind.Plain; is = refl }), refl); is = tt; height = refl; low = omega arith }) h in
        record { takes = d.1; is = (d.0.is, d.2); height = d.0.height; low = d.0.low };
  }

  -- ---- classes

  module _ (items_ok : IsSound block_text AreOfBlock block_height r (sub the_block_items)) where
    block_sound : (i mid : List Tok) (x : WithHeight BlockTree) (j : List Tok) → FitEach i (word w.Constraint ∷ []) mid → R block_on mid ≡ Ok (x, j)
        → FitEach i (block_spelling x.0) j × AreBlockItems x.0.items × (x.1 ≡ items_height x.0.items) × (x.1 ≤ r)
    unfolding block_on
    block_sound i mid x j t h = bind_ok (R name mid) _ (x, j) h (λ n j2 e g. bind_ok (R (expect (f.Mark m.OpenBrace)) j2) _ (x, j) g (λ u j3 e2 g2. bind_ok (sub the_block_items j3) _ (x, j) g2 (λ xs j4 e3 g3.
        let d = items_ok.at j3 xs j4 e3 in
        yields (λ y z. FitEach i (block_spelling y.0) z × AreBlockItems y.0.items × (y.1 ≡ items_height y.0.items) × (y.1 ≤ r)) _ _ (x, j) g3 (
          takes_append i (word w.Constraint ∷ []) (Name n ∷ (mark m.OpenBrace ∷ block_text xs.0)) mid j4 t
              (takes_append mid (Name n ∷ []) (mark m.OpenBrace ∷ block_text xs.0) j2 j4 (name_sound most r sub mid n j2 e)
              (takes_append j2 (mark m.OpenBrace ∷ []) (block_text xs.0) j3 j4 (expect_ok most r sub (f.Mark m.OpenBrace) j2 (u, j3) e2) d.takes)),
          d.is,
          d.height,
          d.low,
        ))))

    class_item_sound : IsSound class_item_spelling IsClassItem class_item_height r (R class_item)
    unfolding class_item
    class_item_sound = record {
      at = λ i x j h. led_ok most r sub (f.Word w.Constraint) _ _ i (x, j) h
          (λ mid t g. bind_ok (R block_on mid) _ (x, j) g (λ b j2 e g2.
          let d = block_sound i mid b j2 t e in
          yields (ReadAs class_item_spelling IsClassItem class_item_height r i) _ _ (x, j) g2 (record { takes = d.0; is = d.1; height = d.2; low = d.3 })))
          (λ _ g. bind_ok (R property_in i) _ (x, j) g (λ p j2 e g2.
          let d = (property_sound most r sub ok).at i p j2 e in
          yields (ReadAs class_item_spelling IsClassItem class_item_height r i) _ _ (x, j) g2 (record { takes = d.takes; is = d.is; height = d.height; low = d.low })));
    }

    abbrev items_text : List ClassItemTree → List Entry
    items_text xs = tokens.each_spelling class_item_spelling xs ++ word w.EndClass ∷ []

    class_items_sound : IsSound items_text (Each IsClassItem) (greatest class_item_height) r (R (until (f.Word w.EndClass) class_item))
    class_items_sound = until_sound most r sub class_item class_item_spelling IsClassItem class_item_height (f.Word w.EndClass) class_item_sound

    pub class_in_sound : IsSound class_spelling IsClass class_height r (R class_in)
    unfolding class_in
    class_in_sound = record {
      at = λ i x j h. bind_ok (R (expect (f.Word w.Class)) i) _ (x, j) h (λ u j2 e g. bind_ok (R name j2) _ (x, j) g (λ n j3 e2 g2.
          bind_ok (R (name_behind (f.Word w.Extends)) j3) _ (x, j) g2 (λ b j4 e3 g3. bind_ok (R (expect (f.Mark m.Semicolon)) j4) _ (x, j) g3 (λ u2 j5 e4 g4.
          bind_ok (R (until (f.Word w.EndClass) class_item) j5) _ (x, j) g4 (λ xs j6 e5 g5. bind_ok (R (name_behind (f.Mark m.Colon)) j6) _ (x, j) g5 (λ l j7 e6 g6.
          let d = class_items_sound.at j5 xs j6 e5 in
          let base = subst (λ es. FitEach j3 es j4) (extends_is b) (name_behind_sound most r sub (f.Word w.Extends) j3 b j4 e3) in
          let label = subst (λ es. FitEach j6 es j7) (label_is l) (name_behind_sound most r sub (f.Mark m.Colon) j6 l j7 e6) in
          let rest = tokens.each_spelling class_item_spelling xs.0 ++ word w.EndClass ∷ label_spelling l in
          let last = subst (λ es. FitEach j5 es j7) (append_assoc (tokens.each_spelling class_item_spelling xs.0) (word w.EndClass ∷ []) (label_spelling l)) (takes_append j5 (items_text xs.0) (label_spelling l) j6 j7 d.takes label) in
          yields (ReadAs class_spelling IsClass class_height r i) _ _ (x, j) g6 (record {
            takes = takes_append i (word w.Class ∷ []) (Name n ∷ (extends_spelling b ++ mark m.Semicolon ∷ rest)) j2 j7 (expect_ok most r sub (f.Word w.Class) i (u, j2) e)
                (takes_append j2 (Name n ∷ []) (extends_spelling b ++ mark m.Semicolon ∷ rest) j3 j7 (name_sound most r sub j2 n j3 e2)
                (takes_append j3 (extends_spelling b) (mark m.Semicolon ∷ rest) j4 j7 base
                (takes_append j4 (mark m.Semicolon ∷ []) rest j5 j7 (expect_ok most r sub (f.Mark m.Semicolon) j4 (u2, j5) e4) last)));
            is = d.is;
            height = d.height;
            low = d.low;
          })))))));
    }
