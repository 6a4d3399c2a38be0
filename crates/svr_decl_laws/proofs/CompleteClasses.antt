-- What the grammar has as a class or a variable is read there.
use Rattle.std.proofs.Common.{◌≡◌, ℕ, ◌+◌, ◌≤◌, Bool, true, false, List, [], ◌∷◌, ◌++◌, length, Option, Some, None, Ok, refl, sym, ◌∙◌, ap, subst, arith, append_assoc, length-append}
use Rattle.svr_token.specs.declared.Lexeme.{Lexeme}
use Rattle.svr_token.specs.declared.Lexeme.TheVariants as lexeme
use Rattle.svr_token.specs.declared.Word.TheVariants as w
use Rattle.svr_token.specs.declared.Mark.TheVariants as m
use Rattle.svr_operator.specs.declared.Rand.{Rand}
use Rattle.svr_operator.specs.declared.Rand.TheVariants as rand
use Rattle.svr_tree.specs.Tokens as tokens
use Rattle.svr_tree.specs.Tokens.{Tok, Entry, Any, Name, FitEach, word, mark, listed, Each, OneOrMore}
use Rattle.svr_tree.specs.ItemTree.{ItemTree, ItemTrees, no_items, more_items, items_of}
use Rattle.svr_tree.specs.ItemGrammar.{items_spelling, AreBlockItems, items_height}
use Rattle.svr_tree.specs.ExprGrammar.{parens_spelling, expr_spelling, IsExpr, expr_height}
use Rattle.svr_tree.specs.DeclTree.{named, PropertyTree, BlockTree, ClassItemTree, property, block, VarInitTree, value, new, VarDeclaratorTree, VarTree}
use Rattle.svr_tree.specs.DeclGrammar.{type_spelling, declarator_spelling, property_spelling, class_item_spelling, extends_spelling, label_spelling, class_spelling, rand_spelling, var_init_spelling, var_declarator_spelling, var_spelling, IsClassItem, IsClass, IsVarInit, IsVarDeclarator, IsVar, greatest, type_height, class_item_height, class_height, var_init_height, var_declarator_height, var_height}
use Rattle.svr_reader.specs.Outcomes.{Parser, lexeme_at}
use Rattle.svr_reader.specs.declared.fixed.Fixed.{Fixed}
use Rattle.svr_reader.specs.declared.fixed.Fixed.TheVariants as f
use Rattle.svr_reader.specs.Program.{run, expect}
use Rattle.svr_reader.specs.Steps.{same_word, same_mark, fixed_lexeme, is_fixed, sees}
use Rattle.svr_reader.specs.Lists.{listing, until, name, parens, name_behind}
use Rattle.svr_reader.proofs.Steps.{bind_is, takes_parts, takes_less, expects, led_no, led_yes, led_takes, name_complete}
use Rattle.svr_reader.proofs.Live.{AnyToken}
use Rattle.svr_reader.proofs.Layers.{IsComplete}
use Rattle.svr_reader.proofs.Lists.{listing_complete, until_complete}
use Rattle.svr_expr.specs.ExprRules.{expr_starts}
use Rattle.svr_expr_laws.proofs.Trees.{begins}
use Rattle.svr_expr_laws.proofs.CompleteParts.{Before}
use Rattle.svr_decl.specs.DeclRules.{Part, an_expression, the_block_items, Ans, Rule, data_type, property_in, block_on, class_item, class_in, var_value, var_initial, var_declarator, vars_on, var_in}
use Rattle.svr_decl_laws.proofs.Optional.{extends_is, label_is, name_behind_complete, parens_complete}
use Rattle.svr_decl_laws.proofs.Before.{before, before_name, AfterType, EndsInitial, EndsDeclarators, NotExtends, NotColon, block_text, AreOfBlock, block_height}
use Rattle.svr_decl_laws.proofs.SoundMembers.{property_height}
use Rattle.svr_decl_laws.proofs.SoundClasses.{vars_spelling, IsVarOf}
use Rattle.svr_decl_laws.proofs.CompleteTypes.{type_first, type_complete}
use Rattle.svr_decl_laws.proofs.CompleteMembers.{comma_ends, semicolon_ends, of_type, property_complete}

-- ---- first tokens

no_new : (q : Option Lexeme) → expr_starts q ≡ true → is_fixed (f.Word w.New) q ≡ false
unfolding same_word
no_new (Some (lexeme.Word w.New)) h = absurd (cc)
no_new _ h = refl

-- where no value goes on, no `(` stands
pub no_parens : (q : Option Lexeme) → EndsInitial q → is_fixed (f.Mark m.OpenParen) q ≡ false
unfolding same_mark
no_parens (Some (lexeme.Mark m.OpenParen)) c = absurd (omega (arith, c.0))
no_parens _ c = refl

vars_first : (vs : List VarDeclaratorTree) (i rest : List Tok) → OneOrMore IsVarDeclarator vs → FitEach i (listed var_declarator_spelling vs ++ mark m.Semicolon ∷ []) rest → AfterType (lexeme_at i)
vars_first [] i rest o h = absurd o
vars_first (v ∷ vs) i rest o h = let a = takes_parts i (listed var_declarator_spelling (v ∷ vs)) (mark m.Semicolon ∷ []) rest h in before_name AfterType (λ k. refl) v.name i a.0 _ a.1

property_first : (p : PropertyTree) (i rest : List Tok) → FitEach i (property_spelling p) rest → (is_fixed (f.Word w.Constraint) (lexeme_at i) ≡ false) × (is_fixed (f.Word w.EndClass) (lexeme_at i) ≡ false)
unfolding same_word
property_first p i rest h = by p.rand a.0 a.1 a.2
  where
    es : List Entry
    es = listed declarator_spelling p.decls ++ mark m.Semicolon ∷ []

    a : (mid : List Tok) × FitEach i (rand_spelling p.rand) mid × FitEach mid (type_spelling p.kind ++ es) rest
    a = takes_parts i (rand_spelling p.rand) (type_spelling p.kind ++ es) rest h

    by : (q : Rand) (mid : List Tok) → FitEach i (rand_spelling q) mid → FitEach mid (type_spelling p.kind ++ es) rest → (is_fixed (f.Word w.Constraint) (lexeme_at i) ≡ false) × (is_fixed (f.Word w.EndClass) (lexeme_at i) ≡ false)
    by rand.State mid t g = let b = takes_parts mid (type_spelling p.kind) es rest g in let o = of_type (lexeme_at mid) (type_first p.kind mid b.0 b.1) in rw t (o.no_block, o.no_end)
    by rand.Rand mid t g = before (λ q. (is_fixed (f.Word w.Constraint) q ≡ false) × (is_fixed (f.Word w.EndClass) q ≡ false)) (lexeme.Word w.Rand) (refl, refl) i mid [] t
    by rand.Randc mid t g = before (λ q. (is_fixed (f.Word w.Constraint) q ≡ false) × (is_fixed (f.Word w.EndClass) q ≡ false)) (lexeme.Word w.Randc) (refl, refl) i mid [] t

-- a part of a class is no end of it
class_item_first : (x : ClassItemTree) (i rest : List Tok) → IsClassItem x → FitEach i (class_item_spelling x) rest → AnyToken (lexeme_at i) × (sees (f.Word w.EndClass) i ≡ false)
unfolding same_word
class_item_first (property p) i rest l h = (tt, (property_first p i rest h).1)
class_item_first (block c) i rest l h = (tt, before (λ q. is_fixed (f.Word w.EndClass) q ≡ false) (lexeme.Word w.Constraint) refl i rest (Name c.name ∷ (mark m.OpenBrace ∷ (items_spelling c.items ++ mark m.CloseBrace ∷ []))) h)

fills : (xs ys zs : List Entry) → 1 ≤ length ys → 1 ≤ length (xs ++ (ys ++ zs))
fills xs ys zs h = omega (arith, h, length-append xs (ys ++ zs), length-append ys zs)

class_item_long : (x : ClassItemTree) → IsClassItem x → 1 ≤ length (class_item_spelling x)
class_item_long (property p) l = omega (arith, length-append (rand_spelling p.rand) (type_spelling p.kind ++ (listed declarator_spelling p.decls ++ mark m.Semicolon ∷ [])), length-append (type_spelling p.kind) (listed declarator_spelling p.decls ++ mark m.Semicolon ∷ []), length-append (listed declarator_spelling p.decls) (mark m.Semicolon ∷ []))
class_item_long (block c) l = omega arith

-- the items of a list as those of a tree
list_of_items : ItemTrees → List ItemTree
list_of_items no_items = []
list_of_items (more_items x xs) = x ∷ list_of_items xs

items_list_is : (xs : ItemTrees) → items_of (list_of_items xs) ≡ xs
unfolding list_of_items
items_list_is no_items = refl
items_list_is (more_items x xs) = ap (λ v. more_items x v) (items_list_is xs)

module _ (most r : ℕ) (sub : (k : Part) → Parser (Ans k)) (ok : IsComplete expr_spelling IsExpr expr_height most r (Before 1) (sub an_expression)) where
  abbrev R : {A : Type 0} → Rule A → Parser A
  R p = run most r sub p

  -- ---- variables

  var_initial_complete : IsComplete var_init_spelling IsVarInit var_init_height most r EndsInitial (R var_initial)
  unfolding var_initial var_value
  var_initial_complete = record { at = by }
    where
      by : (x : Option VarInitTree) (i rest : List Tok) → length i ≤ most + length rest → IsVarInit x → var_init_height x ≤ r → FitEach i (var_init_spelling x) rest → EndsInitial (lexeme_at rest) → R var_initial i ≡ Ok ((x, var_init_height x), rest)
      by None i rest few l low h c = led_no most r sub (f.Mark m.Assign) _ _ i (ap (sees (f.Mark m.Assign)) h ∙ c.1) ∙ ap (λ z. Ok ((None, 0), z)) h
      by (Some (value e)) [] rest few l low h c = absurd h
      by (Some (value e)) (t ∷ i) rest few l low h c = led_yes most r sub (f.Mark m.Assign) _ _ t i h.0
          ∙ led_no most r sub (f.Word w.New) _ _ i (no_new (lexeme_at i) (begins e i rest l h.1).first)
          ∙ bind_is (sub an_expression i) _ (e, expr_height e) rest _ (ok.at e i rest (omega (arith, few)) l low h.1 (omega (arith, c.0))) refl
      by (Some (new b)) [] rest few l low h c = absurd h
      by (Some (new b)) (t ∷ i) rest few l low h c =
          let a = takes_parts i (word w.New ∷ []) (parens_spelling b) rest h.1 in
          led_yes most r sub (f.Mark m.Assign) _ _ t i h.0
          ∙ led_takes most r sub (f.Word w.New) _ _ i a.0 a.1
          ∙ bind_is (R parens a.0) _ b rest _ (parens_complete most r sub b a.0 rest a.2 (no_parens (lexeme_at rest) c)) refl

  var_declarator_complete : IsComplete var_declarator_spelling IsVarDeclarator var_declarator_height most r EndsInitial (R var_declarator)
  unfolding var_declarator
  var_declarator_complete = record {
    at = λ d i rest few l low h c.
        let a = takes_parts i (Name d.name ∷ []) (var_init_spelling d.init) rest h in
        let less = takes_less i (Name d.name ∷ []) a.0 a.1 in
        bind_is (R name i) _ d.name a.0 _ (name_complete most r sub d.name i a.0 a.1)
        (bind_is (R var_initial a.0) _ (d.init, var_init_height d.init) rest _ (var_initial_complete.at d.init a.0 rest (omega (arith, few, less)) l low a.2 c) refl);
  }

  var_declarators_complete : IsComplete (listed var_declarator_spelling) (OneOrMore IsVarDeclarator) (greatest var_declarator_height) most r EndsDeclarators (R (listing var_declarator))
  var_declarators_complete = listing_complete most r sub var_declarator var_declarator_spelling IsVarDeclarator var_declarator_height r EndsInitial var_declarator_complete (λ x _. omega arith) comma_ends (λ q c. c.0) (λ q c. c.1)

  vars_on_complete : (v : VarTree) (i rest : List Tok) → length i ≤ most + length rest → IsVar v → var_height v ≤ r → FitEach i (vars_spelling v) rest → R (vars_on (v.kind, type_height v.kind)) i ≡ Ok ((v, var_height v), rest)
  unfolding vars_on
  vars_on_complete v i rest few l low h =
      let a = takes_parts i (listed var_declarator_spelling v.vars) (mark m.Semicolon ∷ []) rest h in
      let z1 = takes_less a.0 (mark m.Semicolon ∷ []) rest a.2 in
      bind_is (R (listing var_declarator) i) _ (v.vars, greatest var_declarator_height v.vars) a.0 _ (var_declarators_complete.at v.vars i a.0 (omega (arith, few, z1)) l.1 (omega (arith, low)) a.1 (before EndsDeclarators (lexeme.Mark m.Semicolon) semicolon_ends a.0 rest [] a.2))
      (bind_is (R (expect (f.Mark m.Semicolon)) a.0) _ tt rest _ (expects most r sub (f.Mark m.Semicolon) a.0 rest a.2) refl)

  pub var_in_complete : IsComplete var_spelling IsVar var_height most r AnyToken (R var_in)
  unfolding var_in
  var_in_complete = record {
    at = λ v i rest few l low h c.
        let a = takes_parts i (type_spelling v.kind) (vars_spelling v) rest h in
        let a1 = takes_less i (type_spelling v.kind) a.0 a.1 in
        let z1 = takes_less a.0 (vars_spelling v) rest a.2 in
        bind_is (R data_type i) _ (v.kind, type_height v.kind) a.0 _ ((type_complete most r sub ok).at v.kind i a.0 (omega (arith, few, z1)) l.0 (omega (arith, low)) a.1 (vars_first v.vars a.0 rest l.1 a.2))
        (vars_on_complete v a.0 rest (omega (arith, few, a1)) l low a.2);
  }

  pub vars_complete : (n : ℕ) → IsComplete vars_spelling (IsVarOf (named n)) var_height most r AnyToken (R (vars_on (named n, 0)))
  vars_complete n = record { at = λ v i rest few l low h c. subst (λ t. R (vars_on (t, type_height t)) i ≡ Ok ((v, var_height v), rest)) l.1 (vars_on_complete v i rest few l.0 low h) }

  -- ---- classes

  module _ (items_ok : IsComplete block_text AreOfBlock block_height most r AnyToken (sub the_block_items)) where
    block_on_complete : (name_at : ℕ) (xs : List ItemTree) (i rest : List Tok) → length i ≤ most + length rest → AreOfBlock xs → block_height xs ≤ r → FitEach i (Name name_at ∷ (mark m.OpenBrace ∷ block_text xs)) rest
        → R block_on i ≡ Ok ((record { name = name_at; items = items_of xs }, block_height xs), rest)
    unfolding block_on
    block_on_complete name_at xs i rest few l low h =
        let a = takes_parts i (Name name_at ∷ []) (mark m.OpenBrace ∷ block_text xs) rest h in
        let b = takes_parts a.0 (mark m.OpenBrace ∷ []) (block_text xs) rest a.2 in
        let a1 = takes_less i (Name name_at ∷ []) a.0 a.1 in
        let a2 = takes_less a.0 (mark m.OpenBrace ∷ []) b.0 b.1 in
        bind_is (R name i) _ name_at a.0 _ (name_complete most r sub name_at i a.0 a.1)
        (bind_is (R (expect (f.Mark m.OpenBrace)) a.0) _ tt b.0 _ (expects most r sub (f.Mark m.OpenBrace) a.0 b.0 b.1)
        (bind_is (sub the_block_items b.0) _ (xs, block_height xs) rest _ (items_ok.at xs b.0 rest (omega (arith, few, a1, a2)) l low b.2 tt) refl))

    block_complete : (c : BlockTree) (i rest : List Tok) → length i ≤ most + length rest → AreBlockItems c.items → items_height c.items ≤ r → FitEach i (Name c.name ∷ (mark m.OpenBrace ∷ (items_spelling c.items ++ mark m.CloseBrace ∷ []))) rest
        → R block_on i ≡ Ok ((c, items_height c.items), rest)
    block_complete c i rest few l low h =
        let back = sym (items_list_is c.items) in
        subst (λ z. R block_on i ≡ Ok ((record { name = c.name; items = z }, items_height z), rest)) (items_list_is c.items)
        (block_on_complete c.name (list_of_items c.items) i rest few (subst AreBlockItems back l) (subst (λ z. items_height z ≤ r) back low) (subst (λ z. FitEach i (Name c.name ∷ (mark m.OpenBrace ∷ (items_spelling z ++ mark m.CloseBrace ∷ []))) rest) back h))

    class_item_complete : IsComplete class_item_spelling IsClassItem class_item_height most r AnyToken (R class_item)
    unfolding class_item
    class_item_complete = record { at = by }
      where
        by : (x : ClassItemTree) (i rest : List Tok) → length i ≤ most + length rest → IsClassItem x → class_item_height x ≤ r → FitEach i (class_item_spelling x) rest → AnyToken (lexeme_at rest) → R class_item i ≡ Ok ((x, class_item_height x), rest)
        by (property p) i rest few l low h c = led_no most r sub (f.Word w.Constraint) _ _ i (property_first p i rest h).0
            ∙ bind_is (R property_in i) _ (p, property_height p) rest _ ((property_complete most r sub ok).at p i rest few l low h c) refl
        by (block b) [] rest few l low h c = absurd h
        by (block b) (t ∷ i) rest few l low h c = led_yes most r sub (f.Word w.Constraint) _ _ t i h.0
            ∙ bind_is (R block_on i) _ (b, items_height b.items) rest _ (block_complete b i rest (omega (arith, few)) l low h.1) refl

    abbrev items_text : List ClassItemTree → List Entry
    items_text xs = tokens.each_spelling class_item_spelling xs ++ word w.EndClass ∷ []

    class_items_complete : IsComplete items_text (Each IsClassItem) (greatest class_item_height) most r AnyToken (R (until (f.Word w.EndClass) class_item))
    class_items_complete = until_complete most r sub class_item class_item_spelling IsClassItem class_item_height (f.Word w.EndClass) r AnyToken class_item_complete class_item_long class_item_first tt

    pub class_in_complete : IsComplete class_spelling IsClass class_height most r NotColon (R class_in)
    unfolding class_in same_word
    class_in_complete = record {
      at = λ x i rest few l low h c.
          let label = label_spelling x.label in
          let tail = tokens.each_spelling class_item_spelling x.items ++ word w.EndClass ∷ label in
          let a = takes_parts i (word w.Class ∷ []) (Name x.name ∷ (extends_spelling x.base ++ mark m.Semicolon ∷ tail)) rest h in
          let b = takes_parts a.0 (Name x.name ∷ []) (extends_spelling x.base ++ mark m.Semicolon ∷ tail) rest a.2 in
          let d = takes_parts b.0 (extends_spelling x.base) (mark m.Semicolon ∷ tail) rest b.2 in
          let e = takes_parts d.0 (mark m.Semicolon ∷ []) tail rest d.2 in
          let regrouped = subst (λ es. FitEach e.0 es rest) (sym (append_assoc (tokens.each_spelling class_item_spelling x.items) (word w.EndClass ∷ []) label)) e.2 in
          let g = takes_parts e.0 (items_text x.items) label rest regrouped in
          let a1 = takes_less i (word w.Class ∷ []) a.0 a.1 in
          let a2 = takes_less a.0 (Name x.name ∷ []) b.0 b.1 in
          let a3 = takes_less b.0 (extends_spelling x.base) d.0 d.1 in
          let a4 = takes_less d.0 (mark m.Semicolon ∷ []) e.0 e.1 in
          let z1 = takes_less g.0 label rest g.2 in
          bind_is (R (expect (f.Word w.Class)) i) _ tt a.0 _ (expects most r sub (f.Word w.Class) i a.0 a.1)
          (bind_is (R name a.0) _ x.name b.0 _ (name_complete most r sub x.name a.0 b.0 b.1)
          (bind_is (R (name_behind (f.Word w.Extends)) b.0) _ x.base d.0 _ (name_behind_complete most r sub (f.Word w.Extends) x.base b.0 d.0 (subst (λ es. FitEach b.0 es d.0) (sym (extends_is x.base)) d.1) (before NotExtends (lexeme.Mark m.Semicolon) refl d.0 rest tail d.2))
          (bind_is (R (expect (f.Mark m.Semicolon)) d.0) _ tt e.0 _ (expects most r sub (f.Mark m.Semicolon) d.0 e.0 e.1)
          (bind_is (R (until (f.Word w.EndClass) class_item) e.0) _ (x.items, class_height x) g.0 _ (class_items_complete.at x.items e.0 g.0 (omega (arith, few, a1, a2, a3, a4, z1)) l low g.1 tt)
          (bind_is (R (name_behind (f.Mark m.Colon)) g.0) _ x.label rest _ (name_behind_complete most r sub (f.Mark m.Colon) x.label g.0 rest (subst (λ es. FitEach g.0 es rest) (sym (label_is x.label)) g.2) c) refl)))));
    }
