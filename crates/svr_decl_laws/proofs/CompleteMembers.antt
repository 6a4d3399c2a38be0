-- What the grammar has as a typedef or a property is read there.
use Rattle.std.proofs.Common.{◌≡◌, ℕ, ◌+◌, ◌≤◌, max, true, false, List, [], ◌∷◌, ◌++◌, length, Option, Some, None, Ok, refl, ◌∙◌, ap, subst, arith}
use Rattle.svr_token.specs.declared.Lexeme.{Lexeme}
use Rattle.svr_token.specs.declared.Lexeme.TheVariants as lexeme
use Rattle.svr_token.specs.declared.Word.TheVariants as w
use Rattle.svr_token.specs.declared.Mark.TheVariants as m
use Rattle.svr_operator.specs.declared.Rand.{Rand}
use Rattle.svr_operator.specs.declared.Rand.TheVariants as rand
use Rattle.svr_tree.specs.Tokens.{Tok, Entry, Name, FitEach, word, mark, each_spelling, listed, OneOrMore}
use Rattle.svr_tree.specs.ExprTree.{ExprTree}
use Rattle.svr_tree.specs.ExprGrammar.{expr_spelling, IsExpr, expr_height}
use Rattle.svr_tree.specs.DeclTree.{EnumTree, DefinitionTree, enum, plain, DimensionTree, dynamic, queue, size, bounds, DeclaratorTree, PropertyTree}
use Rattle.svr_tree.specs.DeclGrammar.{type_spelling, initial_spelling, member_spelling, base_spelling, definition_spelling, typedef_spelling, dimension_spelling, declarator_spelling, rand_spelling, property_spelling, IsEnumMember, IsDefinition, IsTypedef, IsDimension, AreDimensions, IsDeclarator, IsProperty, greatest, optional_height, member_height, base_height, integer_height, typedef_height, dimension_height, declarator_height, type_height}
use Rattle.svr_reader.specs.Outcomes.{Parser, lexeme_at}
use Rattle.svr_reader.specs.declared.fixed.Fixed.TheVariants as f
use Rattle.svr_reader.specs.Program.{run, expect}
use Rattle.svr_reader.specs.Steps.{same_word, same_mark, is_fixed, sees}
use Rattle.svr_reader.specs.Lists.{listing, name}
use Rattle.svr_reader.proofs.Steps.{bind_is, takes_parts, takes_less, lexeme_of, expects, led_no, led_yes, led_takes, name_complete}
use Rattle.svr_reader.proofs.Live.{AnyToken}
use Rattle.svr_reader.proofs.Layers.{IsComplete}
use Rattle.svr_reader.proofs.Lists.{listing_complete}
use Rattle.svr_expr.specs.ExprRules.{expr_starts}
use Rattle.svr_expr_laws.proofs.Trees.{begins}
use Rattle.svr_expr_laws.proofs.CompleteParts.{Before, before_mark}
use Rattle.svr_expr_laws.proofs.LiveParts.{closes_select}
use Rattle.svr_decl.specs.DeclRules.{Part, an_expression, Ans, Rule, integer_type, starts_type, starts_var, data_type, initial, member, enum_base, enum_on, plain_definition, definition, typedef_in, size_or_bounds, dimension, dimensions_on, dimensions, declarator, property_on, property_in}
use Rattle.svr_decl_laws.proofs.Before.{before, before_name, AfterType, AfterBase, EndsInitial, EndsDeclarators, NotBracket}
use Rattle.svr_decl_laws.proofs.SoundMembers.{property_height, type_decl_height}
use Rattle.svr_decl_laws.proofs.CompleteTypes.{integer_first, type_first, integer_complete, type_complete, initial_complete, base_complete}

-- ---- first tokens

pub comma_ends : EndsInitial (Some (lexeme.Mark m.Comma))
unfolding same_mark
comma_ends = (refl, refl)

pub brace_ends : EndsDeclarators (Some (lexeme.Mark m.CloseBrace))
unfolding same_mark
brace_ends = ((refl, refl), refl)

pub semicolon_ends : EndsDeclarators (Some (lexeme.Mark m.Semicolon))
unfolding same_mark
semicolon_ends = ((refl, refl), refl)

no_enum : (q : Option Lexeme) → starts_type q ≡ true → is_fixed (f.Word w.Enum) q ≡ false
unfolding same_word
no_enum (Some (lexeme.Word w.Enum)) h = absurd (cc)
no_enum _ h = refl

-- a type begins with no word that leads another part of a class
pub record OfType (q : Option Lexeme) : Type 0 where
  pub no_rand : is_fixed (f.Word w.Rand) q ≡ false
  pub no_randc : is_fixed (f.Word w.Randc) q ≡ false
  pub no_block : is_fixed (f.Word w.Constraint) q ≡ false
  pub no_end : is_fixed (f.Word w.EndClass) q ≡ false

pub of_type : (q : Option Lexeme) → starts_var q ≡ true → OfType q
unfolding same_word
of_type (Some (lexeme.Word w.Rand)) h = absurd (cc)
of_type (Some (lexeme.Word w.Randc)) h = absurd (cc)
of_type (Some (lexeme.Word w.Constraint)) h = absurd (cc)
of_type (Some (lexeme.Word w.EndClass)) h = absurd (cc)
of_type _ h = record { no_rand = refl; no_randc = refl; no_block = refl; no_end = refl }

-- an expression is no dimension of another kind
record OfExpr (q : Option Lexeme) : Type 0 where
  no_close : is_fixed (f.Mark m.CloseBracket) q ≡ false
  no_dollar : is_fixed (f.Mark m.Dollar) q ≡ false

of_expr : (q : Option Lexeme) → expr_starts q ≡ true → OfExpr q
unfolding same_mark
of_expr (Some (lexeme.Mark m.CloseBracket)) h = absurd (cc)
of_expr (Some (lexeme.Mark m.Dollar)) h = absurd (cc)
of_expr _ h = record { no_close = refl; no_dollar = refl }

initial_first : (x : Option ExprTree) (i rest : List Tok) → FitEach i (initial_spelling x) rest → EndsInitial (lexeme_at rest) → NotBracket (lexeme_at i)
unfolding same_mark
initial_first None i rest h c = ap (λ z. is_fixed (f.Mark m.OpenBracket) (lexeme_at z)) h ∙ (closes_select (lexeme_at rest) c.0).1
initial_first (Some e) i rest h c = ap (is_fixed (f.Mark m.OpenBracket)) (lexeme_of i rest (lexeme.Mark m.Assign) (expr_spelling e) h)

-- a list of declarators begins with a name
declarators_first : (ds : List DeclaratorTree) (i rest : List Tok) (es : List Entry) → OneOrMore IsDeclarator ds → FitEach i (listed declarator_spelling ds ++ es) rest → AfterType (lexeme_at i)
declarators_first [] i rest es o h = absurd o
declarators_first (d ∷ ds) i rest es o h = let a = takes_parts i (listed declarator_spelling (d ∷ ds)) es rest h in before_name AfterType (λ k. refl) d.name i a.0 _ a.1

module _ (most r : ℕ) (sub : (k : Part) → Parser (Ans k)) (ok : IsComplete expr_spelling IsExpr expr_height most r (Before 1) (sub an_expression)) where
  abbrev R : {A : Type 0} → Rule A → Parser A
  R p = run most r sub p

  -- ---- typedefs

  member_complete : IsComplete member_spelling IsEnumMember member_height most r EndsInitial (R member)
  unfolding member
  member_complete = record {
    at = λ d i rest few l low h c.
        let a = takes_parts i (Name d.name ∷ []) (initial_spelling d.value) rest h in
        let less = takes_less i (Name d.name ∷ []) a.0 a.1 in
        bind_is (R name i) _ d.name a.0 _ (name_complete most r sub d.name i a.0 a.1)
        (bind_is (R initial a.0) _ (d.value, optional_height d.value) rest _ ((initial_complete most r sub ok).at d.value a.0 rest (omega (arith, few, less)) l low a.2 c) refl);
  }

  members_complete : IsComplete (listed member_spelling) (OneOrMore IsEnumMember) (greatest member_height) most r EndsDeclarators (R (listing member))
  members_complete = listing_complete most r sub member member_spelling IsEnumMember member_height r EndsInitial member_complete (λ x _. omega arith) comma_ends (λ q c. c.0) (λ q c. c.1)

  enum_complete : (d : EnumTree) (i rest : List Tok) → length i ≤ most + length rest → IsDefinition (enum d) → typedef_height (enum d) ≤ r
      → FitEach i (base_spelling d.base ++ mark m.OpenBrace ∷ (listed member_spelling d.members ++ mark m.CloseBrace ∷ [])) rest → R enum_on i ≡ Ok ((enum d, typedef_height (enum d)), rest)
  unfolding enum_on
  enum_complete d i rest few l low h =
      let es = listed member_spelling d.members ++ mark m.CloseBrace ∷ [] in
      let a = takes_parts i (base_spelling d.base) (mark m.OpenBrace ∷ es) rest h in
      let b = takes_parts a.0 (mark m.OpenBrace ∷ []) es rest a.2 in
      let e = takes_parts b.0 (listed member_spelling d.members) (mark m.CloseBrace ∷ []) rest b.2 in
      let a1 = takes_less i (base_spelling d.base) a.0 a.1 in
      let a2 = takes_less a.0 (mark m.OpenBrace ∷ []) b.0 b.1 in
      let z1 = takes_less a.0 (mark m.OpenBrace ∷ es) rest a.2 in
      let z2 = takes_less e.0 (mark m.CloseBrace ∷ []) rest e.2 in
      bind_is (R enum_base i) _ (d.base, base_height d.base) a.0 _ ((base_complete most r sub ok).at d.base i a.0 (omega (arith, few, z1)) l.0 (omega (arith, low)) a.1 (before AfterBase (lexeme.Mark m.OpenBrace) (refl, refl) a.0 rest es a.2))
      (bind_is (R (expect (f.Mark m.OpenBrace)) a.0) _ tt b.0 _ (expects most r sub (f.Mark m.OpenBrace) a.0 b.0 b.1)
      (bind_is (R (listing member) b.0) _ (d.members, greatest member_height d.members) e.0 _ (members_complete.at d.members b.0 e.0 (omega (arith, few, a1, a2, z2)) l.1 (omega (arith, low)) e.1 (before EndsDeclarators (lexeme.Mark m.CloseBrace) brace_ends e.0 rest [] e.2))
      (bind_is (R (expect (f.Mark m.CloseBrace)) e.0) _ tt rest _ (expects most r sub (f.Mark m.CloseBrace) e.0 rest e.2) refl)))

  definition_complete : IsComplete definition_spelling IsDefinition typedef_height most r AfterType (R definition)
  unfolding definition plain_definition
  definition_complete = record { at = by }
    where
      by : (x : DefinitionTree) (i rest : List Tok) → length i ≤ most + length rest → IsDefinition x → typedef_height x ≤ r → FitEach i (definition_spelling x) rest → AfterType (lexeme_at rest) → R definition i ≡ Ok ((x, typedef_height x), rest)
      by (enum d) [] rest few l low h c = absurd h
      by (enum d) (t ∷ i) rest few l low h c = led_yes most r sub (f.Word w.Enum) _ _ t i h.0 ∙ enum_complete d i rest (omega (arith, few)) l low h.1
      by (plain t) i rest few l low h c = led_no most r sub (f.Word w.Enum) _ _ i (no_enum (lexeme_at i) (integer_first t i rest h))
          ∙ bind_is (R integer_type i) _ (t, integer_height t) rest _ ((integer_complete most r sub ok).at t i rest few l low h c) refl

  pub typedef_in_complete : IsComplete typedef_spelling IsTypedef type_decl_height most r AnyToken (R typedef_in)
  unfolding typedef_in
  typedef_in_complete = record {
    at = λ d i rest few l low h c.
        let es = Name d.name ∷ (mark m.Semicolon ∷ []) in
        let a = takes_parts i (word w.TypeDef ∷ []) (definition_spelling d.definition ++ es) rest h in
        let b = takes_parts a.0 (definition_spelling d.definition) es rest a.2 in
        let e = takes_parts b.0 (Name d.name ∷ []) (mark m.Semicolon ∷ []) rest b.2 in
        let a1 = takes_less i (word w.TypeDef ∷ []) a.0 a.1 in
        let z1 = takes_less b.0 es rest b.2 in
        bind_is (R (expect (f.Word w.TypeDef)) i) _ tt a.0 _ (expects most r sub (f.Word w.TypeDef) i a.0 a.1)
        (bind_is (R definition a.0) _ (d.definition, typedef_height d.definition) b.0 _ (definition_complete.at d.definition a.0 b.0 (omega (arith, few, a1, z1)) l low b.1 (before_name AfterType (λ k. refl) d.name b.0 rest (mark m.Semicolon ∷ []) b.2))
        (bind_is (R name b.0) _ d.name e.0 _ (name_complete most r sub d.name b.0 e.0 e.1)
        (bind_is (R (expect (f.Mark m.Semicolon)) e.0) _ tt rest _ (expects most r sub (f.Mark m.Semicolon) e.0 rest e.2) refl)));
  }

  -- ---- dimensions

  size_or_bounds_from : (x : ExprTree) (i mid : List Tok) → IsExpr x → FitEach i (expr_spelling x) mid → R dimension i ≡ R size_or_bounds i
  unfolding dimension
  size_or_bounds_from x i mid l h = let o = of_expr (lexeme_at i) (begins x i mid l h).first in led_no most r sub (f.Mark m.CloseBracket) _ _ i o.no_close ∙ led_no most r sub (f.Mark m.Dollar) _ _ i o.no_dollar

  size_complete : (x : ExprTree) (i rest : List Tok) → length i ≤ most + length rest → IsExpr x → expr_height x ≤ r → FitEach i (expr_spelling x ++ mark m.CloseBracket ∷ []) rest → R dimension i ≡ Ok ((size x, expr_height x), rest)
  unfolding size_or_bounds same_mark
  size_complete x i rest few l low h =
      let a = takes_parts i (expr_spelling x) (mark m.CloseBracket ∷ []) rest h in
      let z1 = takes_less a.0 (mark m.CloseBracket ∷ []) rest a.2 in
      size_or_bounds_from x i a.0 l a.1
      ∙ bind_is (sub an_expression i) _ (x, expr_height x) a.0 _ (ok.at x i a.0 (omega (arith, few, z1)) l low a.1 (before_mark m.CloseBracket refl a.0 rest [] a.2))
      (led_no most r sub (f.Mark m.Colon) _ _ a.0 (before (λ q. is_fixed (f.Mark m.Colon) q ≡ false) (lexeme.Mark m.CloseBracket) refl a.0 rest [] a.2)
      ∙ bind_is (R (expect (f.Mark m.CloseBracket)) a.0) _ tt rest _ (expects most r sub (f.Mark m.CloseBracket) a.0 rest a.2) refl)

  bounds_complete : (x y : ExprTree) (i rest : List Tok) → length i ≤ most + length rest → IsExpr x → IsExpr y → expr_height x ≤ r → expr_height y ≤ r → FitEach i (expr_spelling x ++ mark m.Colon ∷ (expr_spelling y ++ mark m.CloseBracket ∷ [])) rest
      → R dimension i ≡ Ok ((bounds x y, max (expr_height x) (expr_height y)), rest)
  unfolding size_or_bounds
  bounds_complete x y i rest few l l2 low low2 h =
      let es = expr_spelling y ++ mark m.CloseBracket ∷ [] in
      let a = takes_parts i (expr_spelling x) (mark m.Colon ∷ es) rest h in
      let b = takes_parts a.0 (mark m.Colon ∷ []) es rest a.2 in
      let e = takes_parts b.0 (expr_spelling y) (mark m.CloseBracket ∷ []) rest b.2 in
      let a1 = takes_less i (expr_spelling x) a.0 a.1 in
      let a2 = takes_less a.0 (mark m.Colon ∷ []) b.0 b.1 in
      let z1 = takes_less a.0 (mark m.Colon ∷ es) rest a.2 in
      let z2 = takes_less e.0 (mark m.CloseBracket ∷ []) rest e.2 in
      size_or_bounds_from x i a.0 l a.1
      ∙ bind_is (sub an_expression i) _ (x, expr_height x) a.0 _ (ok.at x i a.0 (omega (arith, few, z1)) l low a.1 (before_mark m.Colon refl a.0 rest es a.2))
      (led_takes most r sub (f.Mark m.Colon) _ _ a.0 b.0 b.1
      ∙ bind_is (sub an_expression b.0) _ (y, expr_height y) e.0 _ (ok.at y b.0 e.0 (omega (arith, few, a1, a2, z2)) l2 low2 e.1 (before_mark m.CloseBracket refl e.0 rest [] e.2))
      (bind_is (R (expect (f.Mark m.CloseBracket)) e.0) _ tt rest _ (expects most r sub (f.Mark m.CloseBracket) e.0 rest e.2) refl))

  dynamic_complete : (i rest : List Tok) → FitEach i (mark m.CloseBracket ∷ []) rest → R dimension i ≡ Ok ((dynamic, 0), rest)
  unfolding dimension
  dynamic_complete i rest h = led_takes most r sub (f.Mark m.CloseBracket) _ _ i rest h

  queue_complete : (i rest : List Tok) → FitEach i (mark m.Dollar ∷ (mark m.CloseBracket ∷ [])) rest → R dimension i ≡ Ok ((queue, 0), rest)
  unfolding dimension same_mark
  queue_complete i rest h =
      let a = takes_parts i (mark m.Dollar ∷ []) (mark m.CloseBracket ∷ []) rest h in
      led_no most r sub (f.Mark m.CloseBracket) _ _ i (before (λ q. is_fixed (f.Mark m.CloseBracket) q ≡ false) (lexeme.Mark m.Dollar) refl i rest (mark m.CloseBracket ∷ []) h)
      ∙ led_takes most r sub (f.Mark m.Dollar) _ _ i a.0 a.1 ∙ bind_is (R (expect (f.Mark m.CloseBracket)) a.0) _ tt rest _ (expects most r sub (f.Mark m.CloseBracket) a.0 rest a.2) refl

  -- behind its bracket
  dimension_complete : (x : DimensionTree) (i rest : List Tok) → length i ≤ most + length rest → IsDimension x → dimension_height x ≤ r → FitEach i (dimension_spelling x) rest
      → (mid : List Tok) × FitEach i (mark m.OpenBracket ∷ []) mid × (R dimension mid ≡ Ok ((x, dimension_height x), rest))
  dimension_complete x [] rest few l low h = absurd (none x h)
    where
      none : (x : DimensionTree) → FitEach [] (dimension_spelling x) rest → ⊥
      none dynamic h = h
      none queue h = h
      none (size x) h = h
      none (bounds x y) h = h
  dimension_complete dynamic (t ∷ i) rest few l low h = (i, (h.0, refl), dynamic_complete i rest h.1)
  dimension_complete queue (t ∷ i) rest few l low h = (i, (h.0, refl), queue_complete i rest h.1)
  dimension_complete (size x) (t ∷ i) rest few l low h = (i, (h.0, refl), size_complete x i rest (omega (arith, few)) l low h.1)
  dimension_complete (bounds x y) (t ∷ i) rest few l low h = (i, (h.0, refl), bounds_complete x y i rest (omega (arith, few)) l.0 l.1 (omega (arith, low)) (omega (arith, low)) h.1)

  single_dimension : (x : DimensionTree) (rest : List Tok) → NotBracket (lexeme_at rest) → R (dimensions_on (x, dimension_height x)) rest ≡ Ok ((x ∷ [], greatest dimension_height (x ∷ [])), rest)
  unfolding dimensions_on
  single_dimension x rest c = let tallest : dimension_height x ≡ max (dimension_height x) 0 = omega arith in led_no most r sub (f.Mark m.OpenBracket) _ _ rest c ∙ ap (λ v. Ok ((x ∷ [], v), rest)) tallest

  two_dimensions : (x y : DimensionTree) (i rest : List Tok) → length i ≤ most + length rest → IsDimension y → dimension_height y ≤ r → FitEach i (dimension_spelling y ++ []) rest
      → R (dimensions_on (x, dimension_height x)) i ≡ Ok ((x ∷ (y ∷ []), greatest dimension_height (x ∷ (y ∷ []))), rest)
  unfolding dimensions_on
  two_dimensions x y i rest few l low h =
      let a = takes_parts i (dimension_spelling y) [] rest h in
      let d = dimension_complete y i rest few l low (subst (λ z. FitEach i (dimension_spelling y) z) a.2 a.1) in
      let tallest : max (dimension_height x) (dimension_height y) ≡ max (dimension_height x) (max (dimension_height y) 0) = omega arith in
      led_takes most r sub (f.Mark m.OpenBracket) _ _ i d.0 d.1 ∙ bind_is (R dimension d.0) _ (y, dimension_height y) rest _ d.2 (ap (λ v. Ok ((x ∷ (y ∷ []), v), rest)) tallest)

  dimensions_complete : IsComplete (each_spelling dimension_spelling) AreDimensions (greatest dimension_height) most r NotBracket (R dimensions)
  unfolding dimensions
  dimensions_complete = record { at = by }
    where
      by : (xs : List DimensionTree) (i rest : List Tok) → length i ≤ most + length rest → AreDimensions xs → greatest dimension_height xs ≤ r → FitEach i (each_spelling dimension_spelling xs) rest → NotBracket (lexeme_at rest)
          → R dimensions i ≡ Ok ((xs, greatest dimension_height xs), rest)
      by [] i rest few l low h c = led_no most r sub (f.Mark m.OpenBracket) _ _ i (ap (sees (f.Mark m.OpenBracket)) h ∙ c) ∙ ap (λ z. Ok (([], 0), z)) h
      by (x ∷ []) i rest few l low h c =
          let a = takes_parts i (dimension_spelling x) [] rest h in
          let d = dimension_complete x i rest few l.0.0 (omega (arith, low)) (subst (λ z. FitEach i (dimension_spelling x) z) a.2 a.1) in
          led_takes most r sub (f.Mark m.OpenBracket) _ _ i d.0 d.1 ∙ bind_is (R dimension d.0) _ (x, dimension_height x) rest _ d.2 (single_dimension x rest c)
      by (x ∷ (y ∷ [])) i rest few l low h c =
          let a = takes_parts i (dimension_spelling x) (dimension_spelling y ++ []) rest h in
          let less = takes_less i (dimension_spelling x) a.0 a.1 in
          let less2 = takes_less a.0 (dimension_spelling y ++ []) rest a.2 in
          let d = dimension_complete x i a.0 (omega (arith, few, less2)) l.0.0 (omega (arith, low)) a.1 in
          led_takes most r sub (f.Mark m.OpenBracket) _ _ i d.0 d.1
          ∙ bind_is (R dimension d.0) _ (x, dimension_height x) a.0 _ d.2 (two_dimensions x y a.0 rest (omega (arith, few, less)) l.0.1.0 (omega (arith, low)) a.2)
      by (x ∷ (y ∷ (z ∷ zs))) i rest few l low h c = absurd (omega (arith, l.1))

  -- ---- properties

  declarator_complete : IsComplete declarator_spelling IsDeclarator declarator_height most r EndsInitial (R declarator)
  unfolding declarator
  declarator_complete = record {
    at = λ d i rest few l low h c.
        let a = takes_parts i (Name d.name ∷ []) (each_spelling dimension_spelling d.dims ++ initial_spelling d.value) rest h in
        let b = takes_parts a.0 (each_spelling dimension_spelling d.dims) (initial_spelling d.value) rest a.2 in
        let a1 = takes_less i (Name d.name ∷ []) a.0 a.1 in
        let a2 = takes_less a.0 (each_spelling dimension_spelling d.dims) b.0 b.1 in
        let z1 = takes_less b.0 (initial_spelling d.value) rest b.2 in
        bind_is (R name i) _ d.name a.0 _ (name_complete most r sub d.name i a.0 a.1)
        (bind_is (R dimensions a.0) _ (d.dims, greatest dimension_height d.dims) b.0 _ (dimensions_complete.at d.dims a.0 b.0 (omega (arith, few, a1, z1)) l.0 (omega (arith, low)) b.1 (initial_first d.value b.0 rest b.2 c))
        (bind_is (R initial b.0) _ (d.value, optional_height d.value) rest _ ((initial_complete most r sub ok).at d.value b.0 rest (omega (arith, few, a1, a2)) l.1 (omega (arith, low)) b.2 c) refl));
  }

  declarators_complete : IsComplete (listed declarator_spelling) (OneOrMore IsDeclarator) (greatest declarator_height) most r EndsDeclarators (R (listing declarator))
  declarators_complete = listing_complete most r sub declarator declarator_spelling IsDeclarator declarator_height r EndsInitial declarator_complete (λ x _. omega arith) comma_ends (λ q c. c.0) (λ q c. c.1)

  property_on_complete : (p : PropertyTree) (i rest : List Tok) → length i ≤ most + length rest → IsProperty p → property_height p ≤ r
      → FitEach i (type_spelling p.kind ++ (listed declarator_spelling p.decls ++ mark m.Semicolon ∷ [])) rest → R (property_on p.rand) i ≡ Ok ((p, property_height p), rest)
  unfolding property_on
  property_on_complete p i rest few l low h =
      let es = listed declarator_spelling p.decls ++ mark m.Semicolon ∷ [] in
      let a = takes_parts i (type_spelling p.kind) es rest h in
      let b = takes_parts a.0 (listed declarator_spelling p.decls) (mark m.Semicolon ∷ []) rest a.2 in
      let a1 = takes_less i (type_spelling p.kind) a.0 a.1 in
      let z1 = takes_less a.0 es rest a.2 in
      let z2 = takes_less b.0 (mark m.Semicolon ∷ []) rest b.2 in
      bind_is (R data_type i) _ (p.kind, type_height p.kind) a.0 _ ((type_complete most r sub ok).at p.kind i a.0 (omega (arith, few, z1)) l.0 (omega (arith, low)) a.1 (declarators_first p.decls a.0 rest _ l.1 a.2))
      (bind_is (R (listing declarator) a.0) _ (p.decls, greatest declarator_height p.decls) b.0 _ (declarators_complete.at p.decls a.0 b.0 (omega (arith, few, a1, z2)) l.1 (omega (arith, low)) b.1 (before EndsDeclarators (lexeme.Mark m.Semicolon) semicolon_ends b.0 rest [] b.2))
      (bind_is (R (expect (f.Mark m.Semicolon)) b.0) _ tt rest _ (expects most r sub (f.Mark m.Semicolon) b.0 rest b.2) refl))

  property_by : (q : Rand) (i mid rest : List Tok) (p : PropertyTree) → FitEach i (rand_spelling q) mid → FitEach mid (type_spelling p.kind ++ (listed declarator_spelling p.decls ++ mark m.Semicolon ∷ [])) rest → R property_in i ≡ R (property_on q) mid
  unfolding property_in same_word
  property_by rand.State i mid rest p t h =
      let a = takes_parts mid (type_spelling p.kind) (listed declarator_spelling p.decls ++ mark m.Semicolon ∷ []) rest h in
      let o = of_type (lexeme_at mid) (type_first p.kind mid a.0 a.1) in
      ap (λ z. R property_in z) t ∙ led_no most r sub (f.Word w.Rand) _ _ mid o.no_rand ∙ led_no most r sub (f.Word w.Randc) _ _ mid o.no_randc
  property_by rand.Rand i mid rest p t h = led_takes most r sub (f.Word w.Rand) _ _ i mid t
  property_by rand.Randc i mid rest p t h = led_no most r sub (f.Word w.Rand) _ _ i (before (λ q. is_fixed (f.Word w.Rand) q ≡ false) (lexeme.Word w.Randc) refl i mid [] t) ∙ led_takes most r sub (f.Word w.Randc) _ _ i mid t

  pub property_complete : IsComplete property_spelling IsProperty property_height most r AnyToken (R property_in)
  property_complete = record {
    at = λ p i rest few l low h c.
        let a = takes_parts i (rand_spelling p.rand) (type_spelling p.kind ++ (listed declarator_spelling p.decls ++ mark m.Semicolon ∷ [])) rest h in
        let a1 = takes_less i (rand_spelling p.rand) a.0 a.1 in
        property_by p.rand i a.0 rest p a.1 a.2 ∙ property_on_complete p a.0 rest (omega (arith, few, a1)) l low a.2;
  }
