-- A `dist`, a list of paths or members, and what stands behind the expression of an item, are read where they spell the tokens.
use Rattle.std.proofs.Common.{◌≡◌, ℕ, ◌+◌, ◌<◌, ◌≤◌, max, Bool, false, List, [], ◌∷◌, ◌++◌, length, Option, Some, None, Ok, refl, sym, ◌∙◌, ap, subst, arith}
use Rattle.svr_token.specs.declared.Lexeme.{Lexeme}
use Rattle.svr_token.specs.declared.Lexeme.TheVariants as lexeme
use Rattle.svr_token.specs.declared.Word.TheVariants as w
use Rattle.svr_token.specs.declared.Mark.TheVariants as m
use Rattle.svr_operator.specs.declared.Share.{Share}
use Rattle.svr_operator.specs.declared.Share.TheVariants as share
use Rattle.svr_tree.specs.Tokens.{Tok, FitEach, mark, listed, OneOrMore}
use Rattle.svr_tree.specs.DeclGrammar.{greatest}
use Rattle.svr_tree.specs.ExprTree.{ExprTree}
use Rattle.svr_tree.specs.ExprGrammar.{expr_spelling, range_spelling, IsExpr, expr_height, range_height}
use Rattle.svr_tree.specs.ItemTree.{DistTree, ItemTree, plain}
use Rattle.svr_tree.specs.ItemGrammar.{weight_spelling, dist_item_spelling, dist_spelling, IsPath, IsMember, IsWeight, IsDistItem, IsDist, weight_height, dist_height}
use Rattle.svr_reader.specs.Outcomes.{Parser, lexeme_at}
use Rattle.svr_reader.specs.declared.fixed.Fixed.TheVariants as f
use Rattle.svr_reader.specs.Program.{bind, peek, call, run, expect}
use Rattle.svr_reader.specs.Steps.{same_word, same_mark, is_fixed}
use Rattle.svr_reader.specs.Lists.{WithHeight, listing}
use Rattle.svr_reader.proofs.Steps.{bind_is, takes_parts, takes_less, lexeme_of, expects}
use Rattle.svr_reader.proofs.Layers.{IsComplete}
use Rattle.svr_reader.proofs.Lists.{listing_complete}
use Rattle.svr_expr.specs.Connectives.{binds}
use Rattle.svr_expr.specs.ExprRules.{a_path, a_member, expr, a_range}
use Rattle.svr_expr_laws.proofs.Trees.{level_pos}
use Rattle.svr_expr_laws.proofs.CompleteParts.{before_mark, sees_none}
use Rattle.svr_expr_laws.proofs.Complete.{expr_complete}
use Rattle.svr_expr_laws.proofs.Nodes.{NotDot, NotSelect, a_path_complete, a_member_complete, a_range_complete}
use Rattle.svr_item.specs.ItemRules.{Part, Ans, Rule, a_node, weight_of, weight_by, weight, dist_item, dist_on, dist_by, dist, plain_on, part}
use Rattle.svr_item_laws.proofs.Trees.{dist_item_height, dist_height_is, dist_item_long, path_long, member_long}

-- ---- tokens that may follow

-- the token itself
abbrev pub Spells : Lexeme → Option Lexeme → Type 0
Spells l q = q ≡ Some l

abbrev pub NotComma : Option Lexeme → Type 0
NotComma q = is_fixed (f.Mark m.Comma) q ≡ false

-- no weight goes on with it
abbrev pub NotWeight : Option Lexeme → Type 0
NotWeight q = (is_fixed (f.Mark m.ColonEqual) q ≡ false) × (is_fixed (f.Mark m.ColonSlash) q ≡ false)

abbrev pub EndsWeight : Option Lexeme → Type 0
EndsWeight q = (binds q < 1) × NotWeight q

abbrev pub NotDist : Option Lexeme → Type 0
NotDist q = is_fixed (f.Word w.Dist) q ≡ false

pub of_token : (C : Option Lexeme → Type 0) (l : Lexeme) → C (Some l) → (q : Option Lexeme) → Spells l q → C q
of_token C l h q is = subst C (sym is) h

ends_comma : EndsWeight (Some (lexeme.Mark m.Comma))
unfolding same_mark
ends_comma = (omega arith, (refl, refl))

pub ends_brace : EndsWeight (Some (lexeme.Mark m.CloseBrace))
unfolding same_mark
ends_brace = (omega arith, (refl, refl))

-- what follows a list
pub brace_follows : NotSelect (Some (lexeme.Mark m.CloseBrace)) × NotComma (Some (lexeme.Mark m.CloseBrace))
unfolding same_mark
brace_follows = ((refl, refl), refl)

pub end_follows : NotSelect (Some (lexeme.Mark m.Semicolon)) × NotComma (Some (lexeme.Mark m.Semicolon))
unfolding same_mark
end_follows = ((refl, refl), refl)

pub before_follows : NotDot (Some (lexeme.Word w.Before)) × NotComma (Some (lexeme.Word w.Before))
before_follows = (refl, refl)

pub bracket_follows : NotDot (Some (lexeme.Mark m.OpenBracket))
unfolding same_mark
bracket_follows = refl

select_comma : NotSelect (Some (lexeme.Mark m.Comma))
unfolding same_mark
select_comma = (refl, refl)

-- what a weight, and the end of an item, begin with
weight_first : (v : Option (Share × ExprTree)) (i rest : List Tok) → FitEach i (weight_spelling v) rest → binds (lexeme_at rest) < 1 → binds (lexeme_at i) < 1
weight_first None i rest h c = subst (λ z. binds (lexeme_at z) < 1) (sym h) c
weight_first (Some (share.Each, e)) i rest h c = before_mark m.ColonEqual refl i rest (expr_spelling e) h
weight_first (Some (share.Whole, e)) i rest h c = before_mark m.ColonSlash refl i rest (expr_spelling e) h

module _ (most r : ℕ) (roomy : r ≤ most) (below : Parser (WithHeight ItemTree)) where
  abbrev sub : (k : Part) → Parser (Ans k)
  sub = part most r below

  abbrev R : {A : Type 0} → Rule A → Parser A
  R p = run most r sub p

  pub any_at : (x : ExprTree) (i rest : List Tok) → length i ≤ most + length rest → IsExpr x → expr_height x ≤ r → FitEach i (expr_spelling x) rest → binds (lexeme_at rest) < 1 → expr most r 1 i ≡ Ok ((x, expr_height x), rest)
  any_at x i rest few l low h c = (expr_complete most r roomy 1 (omega arith)).at x i rest few (l, level_pos x) low h c

  -- ---- `dist`

  pub weight_stops : (q : Option Lexeme) (i : List Tok) → NotWeight q → R (weight_by q) i ≡ Ok ((None, 0), i)
  unfolding same_mark
  weight_stops (Some (lexeme.Mark m.ColonEqual)) i c = absurd (let no = c.0 in cc)
  weight_stops (Some (lexeme.Mark m.ColonSlash)) i c = absurd (let no = c.1 in cc)
  weight_stops _ i c = refl

  weight_complete : IsComplete weight_spelling IsWeight weight_height most r EndsWeight (R weight)
  unfolding weight weight_of
  weight_complete = record { at = by }
    where
      by : (v : Option (Share × ExprTree)) (i rest : List Tok) → length i ≤ most + length rest → IsWeight v → weight_height v ≤ r → FitEach i (weight_spelling v) rest → EndsWeight (lexeme_at rest) → R (bind peek weight_by) i ≡ Ok ((v, weight_height v), rest)
      by None i rest few l low h c = weight_stops (lexeme_at i) i (subst (λ z. NotWeight (lexeme_at z)) (sym h) c.1) ∙ ap (λ z. Ok ((None, 0), z)) h
      by (Some (share.Each, e)) [] rest few l low h c = absurd h
      by (Some (share.Each, e)) (t ∷ i) rest few l low h c = ap (λ q. R (weight_by (Some q)) (t ∷ i)) h.0 ∙ bind_is (expr most r 1 i) _ (e, expr_height e) rest _ (any_at e i rest (omega (arith, few)) l low h.1 c.0) refl
      by (Some (share.Whole, e)) [] rest few l low h c = absurd h
      by (Some (share.Whole, e)) (t ∷ i) rest few l low h c = ap (λ q. R (weight_by (Some q)) (t ∷ i)) h.0 ∙ bind_is (expr most r 1 i) _ (e, expr_height e) rest _ (any_at e i rest (omega (arith, few)) l low h.1 c.0) refl

  dist_item_complete : IsComplete dist_item_spelling IsDistItem dist_item_height most r EndsWeight (R dist_item)
  unfolding dist_item
  dist_item_complete = record {
    at = λ d i rest few l low h c.
        let p = takes_parts i (range_spelling d.range) (weight_spelling d.weight) rest h in
        let a1 = takes_less i (range_spelling d.range) p.0 p.1 in
        let z1 = takes_less p.0 (weight_spelling d.weight) rest p.2 in
        bind_is (a_range most r i) _ (d.range, range_height d.range) p.0 _ ((a_range_complete most r roomy).at d.range i p.0 (omega (arith, few, z1)) l.0 (omega (arith, low)) p.1 (weight_first d.weight p.0 rest p.2 c.0))
        (bind_is (R weight p.0) _ (d.weight, weight_height d.weight) rest _ (weight_complete.at d.weight p.0 rest (omega (arith, few, a1)) l.1 (omega (arith, low)) p.2 c) refl);
  }

  dist_list_complete : IsComplete (listed dist_item_spelling) (OneOrMore IsDistItem) (greatest dist_item_height) most r (Spells (lexeme.Mark m.CloseBrace)) (R (listing dist_item))
  dist_list_complete = listing_complete most r sub dist_item dist_item_spelling IsDistItem dist_item_height r EndsWeight dist_item_complete dist_item_long ends_comma
      (of_token EndsWeight (lexeme.Mark m.CloseBrace) ends_brace) (of_token NotComma (lexeme.Mark m.CloseBrace) brace_follows.1)

  pub dist_stops : (q : Option Lexeme) (i : List Tok) → NotDist q → R (dist_by q) i ≡ Ok ((None, 0), i)
  unfolding same_word
  dist_stops (Some (lexeme.Word w.Dist)) i c = absurd (cc)
  dist_stops _ i c = refl

  dist_on_complete : (d : DistTree) (t : Tok) (i rest : List Tok) → length i ≤ most + length rest → t.at ≡ d.at → OneOrMore IsDistItem d.items → dist_height (Some d) ≤ r → FitEach i (mark m.OpenBrace ∷ (listed dist_item_spelling d.items ++ mark m.CloseBrace ∷ [])) rest
      → R dist_on (t ∷ i) ≡ Ok ((Some d, dist_height (Some d)), rest)
  unfolding dist_on
  dist_on_complete d t i rest few at l low h =
      let o = takes_parts i (mark m.OpenBrace ∷ []) (listed dist_item_spelling d.items ++ mark m.CloseBrace ∷ []) rest h in
      let p = takes_parts o.0 (listed dist_item_spelling d.items) (mark m.CloseBrace ∷ []) rest o.2 in
      let a1 = takes_less i (mark m.OpenBrace ∷ []) o.0 o.1 in
      let z1 = takes_less p.0 (mark m.CloseBrace ∷ []) rest p.2 in
      let high = dist_height_is d.items in
      bind_is (R (expect (f.Mark m.OpenBrace)) i) _ tt o.0 _ (expects most r sub (f.Mark m.OpenBrace) i o.0 o.1)
      (bind_is (R (listing dist_item) o.0) _ (d.items, greatest dist_item_height d.items) p.0 _
      (dist_list_complete.at d.items o.0 p.0 (omega (arith, few, a1, z1)) l (omega (arith, low, high)) p.1 (lexeme_close p.0 rest p.2))
      (bind_is (R (expect (f.Mark m.CloseBrace)) p.0) _ tt rest _ (expects most r sub (f.Mark m.CloseBrace) p.0 rest p.2)
      (ap (λ n. Ok ((Some (record { at = n; items = d.items }), greatest dist_item_height d.items), rest)) at ∙ ap (λ n. Ok ((Some d, n), rest)) (sym high))))
    where
      lexeme_close : (i rest : List Tok) → FitEach i (mark m.CloseBrace ∷ []) rest → Spells (lexeme.Mark m.CloseBrace) (lexeme_at i)
      lexeme_close i rest h = lexeme_of i rest (lexeme.Mark m.CloseBrace) [] h

  dist_complete : IsComplete dist_spelling IsDist dist_height most r NotDist (R dist)
  unfolding dist
  dist_complete = record { at = by }
    where
      by : (d : Option DistTree) (i rest : List Tok) → length i ≤ most + length rest → IsDist d → dist_height d ≤ r → FitEach i (dist_spelling d) rest → NotDist (lexeme_at rest) → R (bind peek dist_by) i ≡ Ok ((d, dist_height d), rest)
      by None i rest few l low h c = dist_stops (lexeme_at i) i (subst (λ z. NotDist (lexeme_at z)) (sym h) c) ∙ ap (λ z. Ok ((None, 0), z)) h
      by (Some d) [] rest few l low h c = absurd h
      by (Some d) (t ∷ i) rest few l low h c = ap (λ q. R (dist_by (Some q)) (t ∷ i)) h.0.1 ∙ dist_on_complete d t i rest (omega (arith, few)) h.0.0 l low h.1

  pub plain_on_complete : (at : ℕ) (soft : Bool) (e : ExprTree) (d : Option DistTree) (i rest : List Tok) → length i ≤ most + length rest → IsDist d → dist_height d ≤ r → FitEach i (dist_spelling d ++ mark m.Semicolon ∷ []) rest
      → R (plain_on at soft (e, expr_height e)) i ≡ Ok ((plain at soft e d, max (expr_height e) (dist_height d) + 1), rest)
  unfolding plain_on same_word
  plain_on_complete at soft e d i rest few l low h =
      let p = takes_parts i (dist_spelling d) (mark m.Semicolon ∷ []) rest h in
      let z1 = takes_less p.0 (mark m.Semicolon ∷ []) rest p.2 in
      bind_is (R dist i) _ (d, dist_height d) p.0 _ (dist_complete.at d i p.0 (omega (arith, few, z1)) l low p.1 (sees_none (f.Word w.Dist) m.Semicolon refl p.0 rest [] p.2))
      (bind_is (R (expect (f.Mark m.Semicolon)) p.0) _ tt rest _ (expects most r sub (f.Mark m.Semicolon) p.0 rest p.2) refl)

  -- ---- lists of paths and of members

  pub paths_complete : {C : Option Lexeme → Type 0} → ((q : Option Lexeme) → C q → NotDot q) → ((q : Option Lexeme) → C q → NotComma q) → IsComplete (listed expr_spelling) (OneOrMore IsPath) (greatest expr_height) most r C (R (listing (call (a_node a_path))))
  paths_complete within apart = listing_complete most r sub (call (a_node a_path)) expr_spelling IsPath expr_height r NotDot (a_path_complete most r roomy) path_long select_comma.0 within apart

  pub members_complete : {C : Option Lexeme → Type 0} → ((q : Option Lexeme) → C q → NotSelect q) → ((q : Option Lexeme) → C q → NotComma q) → IsComplete (listed expr_spelling) (OneOrMore IsMember) (greatest expr_height) most r C (R (listing (call (a_node a_member))))
  members_complete within apart = listing_complete most r sub (call (a_node a_member)) expr_spelling IsMember expr_height r NotSelect (a_member_complete most r roomy) member_long select_comma within apart
