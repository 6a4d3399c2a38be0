-- What is read of typedefs and properties is what the grammar has there.
use Rattle.std.proofs.Common.{◌≡◌, ℕ, max, List, [], ◌∷◌, ◌++◌, Option, Ok, refl, arith}
use Rattle.svr_token.specs.declared.Word.TheVariants as w
use Rattle.svr_token.specs.declared.Mark.TheVariants as m
use Rattle.svr_operator.specs.declared.Rand.{Rand}
use Rattle.svr_operator.specs.declared.Rand.TheVariants as rand
use Rattle.svr_tree.specs.Tokens.{Tok, Name, FitEach, word, mark, each_spelling, listed, OneOrMore}
use Rattle.svr_tree.specs.ExprGrammar.{expr_spelling, IsExpr, expr_height}
use Rattle.svr_tree.specs.DeclTree.{DefinitionTree, TypeTree, DimensionTree, PropertyTree}
use Rattle.svr_tree.specs.DeclGrammar.{type_spelling, initial_spelling, member_spelling, base_spelling, definition_spelling, typedef_spelling, dimension_spelling, declarator_spelling, rand_spelling, property_spelling, IsEnumMember, IsDefinition, IsTypedef, IsDimension, AreDimensions, IsDeclarator, IsProperty, greatest, member_height, typedef_height, dimension_height, declarator_height, type_height}
use Rattle.svr_reader.specs.Outcomes.{Parser}
use Rattle.svr_reader.specs.declared.fixed.Fixed.TheVariants as f
use Rattle.svr_reader.specs.Program.{run, expect}
use Rattle.svr_reader.specs.Lists.{WithHeight, listing, name}
use Rattle.svr_reader.proofs.Steps.{bind_ok, yields, takes_append, expect_ok, led_ok, name_sound}
use Rattle.svr_reader.proofs.Layers.{ReadAs, IsSound}
use Rattle.svr_reader.proofs.Lists.{listing_sound}
use Rattle.svr_decl.specs.DeclRules.{Part, an_expression, Ans, Rule, integer_type, data_type, initial, member, enum_base, enum_on, plain_definition, definition, typedef_in, size_or_bounds, dimension, dimensions_on, dimensions, declarator, property_on, property_in}
use Rattle.svr_decl_laws.proofs.SoundTypes.{integer_sound, type_sound, initial_sound, base_sound}

-- how high the expressions of a property are
abbrev pub property_height : PropertyTree → ℕ
property_height p = max (type_height p.kind) (greatest declarator_height p.decls)

abbrev pub type_decl_height : TypeTree → ℕ
type_decl_height d = typedef_height d.definition

module _ (most r : ℕ) (sub : (k : Part) → Parser (Ans k)) (ok : IsSound expr_spelling IsExpr expr_height r (sub an_expression)) where
  abbrev R : {A : Type 0} → Rule A → Parser A
  R p = run most r sub p

  -- ---- typedefs

  member_sound : IsSound member_spelling IsEnumMember member_height r (R member)
  unfolding member
  member_sound = record {
    at = λ i x j h. bind_ok (R name i) _ (x, j) h (λ n j2 e g. bind_ok (R initial j2) _ (x, j) g (λ v j3 e2 g2.
        let d = (initial_sound most r sub ok).at j2 v j3 e2 in
        yields (ReadAs member_spelling IsEnumMember member_height r i) _ _ (x, j) g2 (record {
          takes = takes_append i (Name n ∷ []) (initial_spelling v.0) j2 j3 (name_sound most r sub i n j2 e) d.takes;
          is = d.is;
          height = d.height;
          low = d.low;
        })));
  }

  members_sound : IsSound (listed member_spelling) (OneOrMore IsEnumMember) (greatest member_height) r (R (listing member))
  members_sound = listing_sound most r sub member member_spelling IsEnumMember member_height member_sound

  abbrev ReadDefinition : List Tok → WithHeight DefinitionTree → List Tok → Type 0
  ReadDefinition i x j = ReadAs definition_spelling IsDefinition typedef_height r i x j

  enum_sound : (i mid : List Tok) (x : WithHeight DefinitionTree) (j : List Tok) → FitEach i (word w.Enum ∷ []) mid → R enum_on mid ≡ Ok (x, j) → ReadDefinition i x j
  unfolding enum_on
  enum_sound i mid x j t h = bind_ok (R enum_base mid) _ (x, j) h (λ b j2 e g. bind_ok (R (expect (f.Mark m.OpenBrace)) j2) _ (x, j) g (λ u j3 e2 g2.
      bind_ok (R (listing member) j3) _ (x, j) g2 (λ ms j4 e3 g3. bind_ok (R (expect (f.Mark m.CloseBrace)) j4) _ (x, j) g3 (λ u2 j5 e4 g4.
      let a = (base_sound most r sub ok).at mid b j2 e in
      let d = members_sound.at j3 ms j4 e3 in
      yields (ReadDefinition i) _ _ (x, j) g4 (record {
        takes = takes_append i (word w.Enum ∷ []) (base_spelling b.0 ++ mark m.OpenBrace ∷ (listed member_spelling ms.0 ++ mark m.CloseBrace ∷ [])) mid j5 t
            (takes_append mid (base_spelling b.0) (mark m.OpenBrace ∷ (listed member_spelling ms.0 ++ mark m.CloseBrace ∷ [])) j2 j5 a.takes
            (takes_append j2 (mark m.OpenBrace ∷ []) (listed member_spelling ms.0 ++ mark m.CloseBrace ∷ []) j3 j5 (expect_ok most r sub (f.Mark m.OpenBrace) j2 (u, j3) e2)
            (takes_append j3 (listed member_spelling ms.0) (mark m.CloseBrace ∷ []) j4 j5 d.takes (expect_ok most r sub (f.Mark m.CloseBrace) j4 (u2, j5) e4))));
        is = (a.is, d.is);
        height = omega (arith, a.height, d.height);
        low = omega (arith, a.low, d.low);
      })))))

  definition_sound : IsSound definition_spelling IsDefinition typedef_height r (R definition)
  unfolding definition plain_definition
  definition_sound = record {
    at = λ i x j h. led_ok most r sub (f.Word w.Enum) _ _ i (x, j) h
        (λ mid t g. enum_sound i mid x j t g)
        (λ _ g. bind_ok (R integer_type i) _ (x, j) g (λ t j2 e g2.
        let d = (integer_sound most r sub ok).at i t j2 e in
        yields (ReadDefinition i) _ _ (x, j) g2 (record { takes = d.takes; is = d.is; height = d.height; low = d.low })));
  }

  pub typedef_in_sound : IsSound typedef_spelling IsTypedef type_decl_height r (R typedef_in)
  unfolding typedef_in
  typedef_in_sound = record {
    at = λ i x j h. bind_ok (R (expect (f.Word w.TypeDef)) i) _ (x, j) h (λ u j2 e g. bind_ok (R definition j2) _ (x, j) g (λ d j3 e2 g2.
        bind_ok (R name j3) _ (x, j) g2 (λ n j4 e3 g3. bind_ok (R (expect (f.Mark m.Semicolon)) j4) _ (x, j) g3 (λ u2 j5 e4 g4.
        let a = definition_sound.at j2 d j3 e2 in
        yields (ReadAs typedef_spelling IsTypedef type_decl_height r i) _ _ (x, j) g4 (record {
          takes = takes_append i (word w.TypeDef ∷ []) (definition_spelling d.0 ++ Name n ∷ (mark m.Semicolon ∷ [])) j2 j5 (expect_ok most r sub (f.Word w.TypeDef) i (u, j2) e)
              (takes_append j2 (definition_spelling d.0) (Name n ∷ (mark m.Semicolon ∷ [])) j3 j5 a.takes
              (takes_append j3 (Name n ∷ []) (mark m.Semicolon ∷ []) j4 j5 (name_sound most r sub j3 n j4 e3) (expect_ok most r sub (f.Mark m.Semicolon) j4 (u2, j5) e4)));
          is = a.is;
          height = a.height;
          low = a.low;
        })))));
  }

  -- ---- dimensions

  abbrev ReadDimension : List Tok → WithHeight DimensionTree → List Tok → Type 0
  ReadDimension i x j = ReadAs dimension_spelling IsDimension dimension_height r i x j

  size_or_bounds_sound : (i mid : List Tok) (x : WithHeight DimensionTree) (j : List Tok) → FitEach i (mark m.OpenBracket ∷ []) mid → R size_or_bounds mid ≡ Ok (x, j) → ReadDimension i x j
  unfolding size_or_bounds
  size_or_bounds_sound i mid x j t h = bind_ok (sub an_expression mid) _ (x, j) h (λ a j2 e g. let s = ok.at mid a j2 e in led_ok most r sub (f.Mark m.Colon) _ _ j2 (x, j) g
      (λ j3 colon g2. bind_ok (sub an_expression j3) _ (x, j) g2 (λ b j4 e2 g3. bind_ok (R (expect (f.Mark m.CloseBracket)) j4) _ (x, j) g3 (λ u j5 e3 g4.
      let z = ok.at j3 b j4 e2 in
      yields (ReadDimension i) _ _ (x, j) g4 (record {
        takes = takes_append i (mark m.OpenBracket ∷ []) (expr_spelling a.0 ++ mark m.Colon ∷ (expr_spelling b.0 ++ mark m.CloseBracket ∷ [])) mid j5 t
            (takes_append mid (expr_spelling a.0) (mark m.Colon ∷ (expr_spelling b.0 ++ mark m.CloseBracket ∷ [])) j2 j5 s.takes
            (takes_append j2 (mark m.Colon ∷ []) (expr_spelling b.0 ++ mark m.CloseBracket ∷ []) j3 j5 colon
            (takes_append j3 (expr_spelling b.0) (mark m.CloseBracket ∷ []) j4 j5 z.takes (expect_ok most r sub (f.Mark m.CloseBracket) j4 (u, j5) e3))));
        is = (s.is, z.is);
        height = omega (arith, s.height, z.height);
        low = omega (arith, s.low, z.low);
      }))))
      (λ _ g2. bind_ok (R (expect (f.Mark m.CloseBracket)) j2) _ (x, j) g2 (λ u j3 e2 g3.
      yields (ReadDimension i) _ _ (x, j) g3 (record {
        takes = takes_append i (mark m.OpenBracket ∷ []) (expr_spelling a.0 ++ mark m.CloseBracket ∷ []) mid j3 t
            (takes_append mid (expr_spelling a.0) (mark m.CloseBracket ∷ []) j2 j3 s.takes (expect_ok most r sub (f.Mark m.CloseBracket) j2 (u, j3) e2));
        is = s.is;
        height = s.height;
        low = s.low;
      }))))

  dimension_sound : (i mid : List Tok) (x : WithHeight DimensionTree) (j : List Tok) → FitEach i (mark m.OpenBracket ∷ []) mid → R dimension mid ≡ Ok (x, j) → ReadDimension i x j
  unfolding dimension
  dimension_sound i mid x j t h = led_ok most r sub (f.Mark m.CloseBracket) _ _ mid (x, j) h
      (λ j2 close g. yields (ReadDimension i) _ _ (x, j) g (record { takes = takes_append i (mark m.OpenBracket ∷ []) (mark m.CloseBracket ∷ []) mid j2 t close; is = tt; height = refl; low = omega arith }))
      (λ _ g. led_ok most r sub (f.Mark m.Dollar) _ _ mid (x, j) g
      (λ j2 dollar g2. bind_ok (R (expect (f.Mark m.CloseBracket)) j2) _ (x, j) g2 (λ u j3 e g3.
      yields (ReadDimension i) _ _ (x, j) g3 (record {
        takes = takes_append i (mark m.OpenBracket ∷ []) (mark m.Dollar ∷ (mark m.CloseBracket ∷ [])) mid j3 t
            (takes_append mid (mark m.Dollar ∷ []) (mark m.CloseBracket ∷ []) j2 j3 dollar (expect_ok most r sub (f.Mark m.CloseBracket) j2 (u, j3) e));
        is = tt;
        height = refl;
        low = omega arith;
      })))
      (λ _ g2. size_or_bounds_sound i mid x j t g2))

  abbrev ReadDimensions : List Tok → WithHeight (List DimensionTree) → List Tok → Type 0
  ReadDimensions i x j = ReadAs (each_spelling dimension_spelling) AreDimensions (greatest dimension_height) r i x j

  dimensions_on_sound : (i mid : List Tok) (a : WithHeight DimensionTree) → ReadDimension i a mid → (x : WithHeight (List DimensionTree)) (j : List Tok) → R (dimensions_on a) mid ≡ Ok (x, j) → ReadDimensions i x j
  unfolding dimensions_on
  dimensions_on_sound i mid a s x j h = led_ok most r sub (f.Mark m.OpenBracket) _ _ mid (x, j) h
      (λ j2 t g. bind_ok (R dimension j2) _ (x, j) g (λ b j3 e g2.
      let z = dimension_sound mid j2 b j3 t e in
      yields (ReadDimensions i) _ _ (x, j) g2 (record {
        takes = takes_append i (dimension_spelling a.0) (dimension_spelling b.0 ++ []) mid j3 s.takes (takes_append mid (dimension_spelling b.0) [] j3 j3 z.takes refl);
        is = ((s.is, (z.is, tt)), omega arith);
        height = omega (arith, s.height, z.height);
        low = omega (arith, s.low, z.low);
      })))
      (λ _ g. yields (ReadDimensions i) _ _ (x, j) g (record {
        takes = takes_append i (dimension_spelling a.0) [] mid mid s.takes refl;
        is = ((s.is, tt), omega arith);
        height = omega (arith, s.height);
        low = s.low;
      }))

  dimensions_sound : IsSound (each_spelling dimension_spelling) AreDimensions (greatest dimension_height) r (R dimensions)
  unfolding dimensions
  dimensions_sound = record {
    at = λ i x j h. led_ok most r sub (f.Mark m.OpenBracket) _ _ i (x, j) h
        (λ mid t g. bind_ok (R dimension mid) _ (x, j) g (λ a j2 e g2. dimensions_on_sound i j2 a (dimension_sound i mid a j2 t e) x j g2))
        (λ _ g. yields (ReadDimensions i) _ _ (x, j) g (record { takes = refl; is = (tt, omega arith); height = refl; low = omega arith }));
  }

  -- ---- properties

  declarator_sound : IsSound declarator_spelling IsDeclarator declarator_height r (R declarator)
  unfolding declarator
  declarator_sound = record {
    at = λ i x j h. bind_ok (R name i) _ (x, j) h (λ n j2 e g. bind_ok (R dimensions j2) _ (x, j) g (λ a j3 e2 g2. bind_ok (R initial j3) _ (x, j) g2 (λ v j4 e3 g3.
        let s = dimensions_sound.at j2 a j3 e2 in
        let d = (initial_sound most r sub ok).at j3 v j4 e3 in
        yields (ReadAs declarator_spelling IsDeclarator declarator_height r i) _ _ (x, j) g3 (record {
          takes = takes_append i (Name n ∷ []) (each_spelling dimension_spelling a.0 ++ initial_spelling v.0) j2 j4 (name_sound most r sub i n j2 e)
              (takes_append j2 (each_spelling dimension_spelling a.0) (initial_spelling v.0) j3 j4 s.takes d.takes);
          is = (s.is, d.is);
          height = omega (arith, s.height, d.height);
          low = omega (arith, s.low, d.low);
        }))));
  }

  declarators_sound : IsSound (listed declarator_spelling) (OneOrMore IsDeclarator) (greatest declarator_height) r (R (listing declarator))
  declarators_sound = listing_sound most r sub declarator declarator_spelling IsDeclarator declarator_height declarator_sound

  property_on_sound : (q : Rand) (i mid : List Tok) (x : WithHeight PropertyTree) (j : List Tok) → FitEach i (rand_spelling q) mid → R (property_on q) mid ≡ Ok (x, j) → ReadAs property_spelling IsProperty property_height r i x j
  unfolding property_on
  property_on_sound q i mid x j t h = bind_ok (R data_type mid) _ (x, j) h (λ k j2 e g. bind_ok (R (listing declarator) j2) _ (x, j) g (λ ds j3 e2 g2.
      bind_ok (R (expect (f.Mark m.Semicolon)) j3) _ (x, j) g2 (λ u j4 e3 g3.
      let a = (type_sound most r sub ok).at mid k j2 e in
      let d = declarators_sound.at j2 ds j3 e2 in
      yields (ReadAs property_spelling IsProperty property_height r i) _ _ (x, j) g3 (record {
        takes = takes_append i (rand_spelling q) (type_spelling k.0 ++ (listed declarator_spelling ds.0 ++ mark m.Semicolon ∷ [])) mid j4 t
            (takes_append mid (type_spelling k.0) (listed declarator_spelling ds.0 ++ mark m.Semicolon ∷ []) j2 j4 a.takes
            (takes_append j2 (listed declarator_spelling ds.0) (mark m.Semicolon ∷ []) j3 j4 d.takes (expect_ok most r sub (f.Mark m.Semicolon) j3 (u, j4) e3)));
        is = (a.is, d.is);
        height = omega (arith, a.height, d.height);
        low = omega (arith, a.low, d.low);
      }))))

  pub property_sound : IsSound property_spelling IsProperty property_height r (R property_in)
  unfolding property_in
  property_sound = record {
    at = λ i x j h. led_ok most r sub (f.Word w.Rand) _ _ i (x, j) h
        (λ mid t g. property_on_sound rand.Rand i mid x j t g)
        (λ _ g. led_ok most r sub (f.Word w.Randc) _ _ i (x, j) g
        (λ mid t g2. property_on_sound rand.Randc i mid x j t g2)
        (λ _ g2. property_on_sound rand.State i i x j refl g2));
  }
