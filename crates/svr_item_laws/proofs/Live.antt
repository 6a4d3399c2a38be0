-- Where the reading of an item fails, what was read so far can be completed.
use Rattle.std.proofs.Common.{◌≡◌, ℕ, zero, suc, ◌<◌, ◌≤◌, true, false, List, [], ◌∷◌, ◌++◌, length, Option, Some, None, Ok, inl, refl, ◌∙◌, ap, arith, length-append}
use Rattle.svr_token.specs.declared.Lexeme.{Lexeme}
use Rattle.svr_token.specs.declared.Lexeme.TheVariants as lexeme
use Rattle.svr_token.specs.declared.Word.TheVariants as w
use Rattle.svr_token.specs.declared.Mark.{Mark}
use Rattle.svr_token.specs.declared.Mark.TheVariants as m
use Rattle.svr_tree.specs.Tokens.{Tok, FitEach, mark}
use Rattle.svr_tree.specs.ExprTree.{ExprTree}
use Rattle.svr_tree.specs.ItemTree.{ItemTree, plain, items_of}
use Rattle.svr_tree.specs.ItemGrammar.{items_spelling}
use Rattle.svr_reader.specs.Outcomes.{Parser, lexeme_at}
use Rattle.svr_reader.specs.declared.fixed.Fixed.TheVariants as f
use Rattle.svr_reader.specs.Program.{pure, bind, call, run, expect}
use Rattle.svr_reader.specs.Steps.{same_mark}
use Rattle.svr_reader.specs.Lists.{WithHeight, name}
use Rattle.svr_reader.proofs.Steps.{takes_length}
use Rattle.svr_reader.proofs.Local.{IsLocal}
use Rattle.svr_reader.proofs.Live.{AnyToken}
use Rattle.svr_reader.proofs.Goals.{Goal, Form, then_goal, then_form, goal_of, pure_goal, any_goal, take_form, enter_form, peek_form, here_form, narrow_form, weaken_form, wide_goal}
use Rattle.svr_reader.proofs.Led.{AnyAnswer, tok, goal_expect, opt_goal, a_name, name_goal, name_tok}
use Rattle.svr_reader.proofs.Rooms.{none_never, none_later}
use Rattle.svr_reader.proofs.Layers.{IsViable, IsOpen, Low, Part, form_of}
use Rattle.svr_expr_laws.proofs.Nodes.{NotDot, NotSelect, name_expr}
use Rattle.svr_expr_laws.proofs.LiveParts.{Closes}
use Rattle.svr_item.specs.ItemRules as rules
use Rattle.svr_item.specs.ItemRules.{Ans, Rule, an_item, implies_on, expr_item_by, expr_item_on, expr_item, soft_item, unique_item, branch_item, loop_vars, foreach_item, disable_item, solve_item, item_by, item_in, block_item_by, block_item_in, item_starts, block_starts, part, item, block_item, set_items, block_items}
use Rattle.svr_item_laws.proofs.Trees.{NotElse, close_brace}
use Rattle.svr_item_laws.proofs.Sound.{ended_spelling, set_items_sound, block_items_sound}
use Rattle.svr_item.proofs.Local.{local_parts, local_block_item}
use Rattle.svr_item_laws.proofs.CompleteParts.{brace_follows, end_follows, before_follows, bracket_follows, Spells, NotComma, of_token}
use Rattle.svr_item_laws.proofs.CompleteItems.{item_completes, block_item_completes}
use Rattle.svr_item_laws.proofs.LiveTakes.{until_any_goal}
use Rattle.svr_item_laws.proofs.LiveParts.{IsEnd, IsBrace, mark_goal, expr_form, expr_goal, path_goal, member_goal, paths_goal, members_goal, plain_on_goal, plain_on_form, equivalent_on_form}
use Rattle.svr_item_laws.proofs.LiveSets.{items_goal, set_goal, otherwise_goal}

abbrev IsBefore : Option Lexeme → Type 0
IsBefore = Spells (lexeme.Word w.Before)

module _ (most r : ℕ) (some : 1 ≤ most) (roomy : r ≤ most) (each : Form most r (part most r (item most r)) (local_parts most r) NotElse (Low r) (call an_item)) where
  abbrev sub : (k : rules.Part) → Parser (Ans k)
  sub = part most r (item most r)

  abbrev ls : (k : rules.Part) → IsLocal (sub k)
  ls = local_parts most r

  abbrev R : {X : Type 0} → Rule X → Parser X
  R p = run most r sub p

  abbrev G : {X : Type 0} → (D C : Option Lexeme → Type 0) → (X → Type 0) → Rule X → Type 0
  G D C Q q = Goal most r sub ls D C Q q

  abbrev F : {X : Type 0} → (C : Option Lexeme → Type 0) → (X → Type 0) → Rule X → Type 0
  F C Q q = Form most r sub ls C Q q

  mark_here : {D : Option Lexeme → Type 0} (k : Mark) → D (Some (lexeme.Mark k)) → G D AnyToken AnyAnswer (expect (f.Mark k))
  mark_here k d = mark_goal most r some roomy k d

  sets : {D : Option Lexeme → Type 0} → D (Some (lexeme.Mark m.OpenBrace)) → G D NotElse (Low r) rules.item_set
  sets d = set_goal most r some each d

  -- ---- items that begin with an expression

  implies_on_form : (at : ℕ) (t : WithHeight ExprTree) → Part r t → F NotElse (Part (suc r)) (implies_on at t)
  unfolding implies_on
  implies_on_form at t a = take_form most r sub ls (λ _. then_goal most r sub ls (sets tt) (λ body g. pure_goal most r sub ls (omega arith, omega (arith, a.1, g)) (λ _ h. h)))

  expr_item_by_form : (at : ℕ) (e : WithHeight ExprTree) → Part r e → (q : Option Lexeme) → F NotElse (Part (suc r)) (expr_item_by at e q)
  expr_item_by_form at e a (Some (lexeme.Mark m.Arrow)) = implies_on_form at e a
  expr_item_by_form at e a (Some (lexeme.Mark m.DoubleArrow)) = narrow_form most r sub ls (equivalent_on_form most r some roomy at e a) (λ _ _. tt)
  expr_item_by_form at e a _ = narrow_form most r sub ls (plain_on_form most r some roomy at false e a) (λ _ _. tt)

  expr_item_on_goal : (at : ℕ) (e : WithHeight ExprTree) → Part r e → G Closes NotElse (Part (suc r)) (expr_item_on at e)
  unfolding expr_item_on
  expr_item_on_goal at e a = let d = (plain_on_goal most r some roomy at false e a).alive.fin in goal_of most r sub ls (peek_form most r sub ls (expr_item_by_form at e a)) (record {
    more = d.more;
    x = d.x;
    good = d.good;
    opens = λ z cl. of_token Closes (lexeme.Mark m.Semicolon) refl (lexeme_at (d.more ++ z)) (d.opens z tt);
    ends = λ z cl. ap (λ q. R (expr_item_by at e q) (d.more ++ z)) (d.opens z tt) ∙ d.ends z tt;
  })

  expr_item_form : F NotElse (Part (suc r)) expr_item
  unfolding expr_item
  expr_item_form = here_form most r sub ls (λ at. then_form most r sub ls (expr_form most r some roomy 2 (omega arith) (omega arith)) (λ e g. expr_item_on_goal at e g))

  -- ---- items that a word leads

  soft_form : F AnyToken (Part (suc r)) soft_item
  unfolding soft_item
  soft_form = enter_form most r sub ls (omega arith) (λ fits at. then_goal most r sub ls (expr_goal most r some roomy fits tt) (λ e g.
      wide_goal most r sub ls (plain_on_goal most r some roomy at true e g) (of_token Closes (lexeme.Mark m.Semicolon) refl)))

  unique_form : F AnyToken (Part (suc r)) unique_item
  unfolding unique_item
  unique_form = enter_form most r sub ls (omega arith) (λ fits at. then_goal most r sub ls (mark_here m.OpenBrace tt) (λ _ _.
      then_goal most r sub ls (members_goal most r some roomy {C = IsBrace} fits tt (of_token NotSelect (lexeme.Mark m.CloseBrace) brace_follows.0) (of_token NotComma (lexeme.Mark m.CloseBrace) brace_follows.1)) (λ xs g.
      then_goal most r sub ls (mark_here m.CloseBrace refl) (λ _ _. then_goal most r sub ls (mark_here m.Semicolon tt) (λ _ _. pure_goal most r sub ls (omega arith, omega (arith, g)) (λ _ h. h))))))

  branch_form : F NotElse (Part (suc r)) branch_item
  unfolding branch_item
  branch_form = enter_form most r sub ls (omega arith) (λ fits at. then_goal most r sub ls (mark_here m.OpenParen tt) (λ _ _. then_goal most r sub ls (expr_goal most r some roomy fits tt) (λ t g.
      then_goal most r sub ls (mark_here m.CloseParen refl) (λ _ _. then_goal most r sub ls (sets tt) (λ met g2. then_goal most r sub ls (otherwise_goal most r some each) (λ unmet g3.
      pure_goal most r sub ls (omega arith, omega (arith, g.1, g2, g3)) (λ _ h. h)))))))

  loop_vars_goal : G AnyToken NotComma AnyAnswer loop_vars
  unfolding loop_vars
  loop_vars_goal = then_goal most r sub ls (name_goal most r sub ls tt) (λ u _. any_goal most r sub ls (opt_goal most r sub ls (f.Mark m.Comma) (bind name (λ v. pure (u ∷ (v ∷ [])))) (u ∷ []) NotComma AnyAnswer (λ q c. c)
      (then_goal most r sub ls (name_goal most r sub ls tt) (λ v _. pure_goal most r sub ls tt (λ _ _. tt))) tt))

  foreach_form : F NotElse (Part (suc r)) foreach_item
  unfolding foreach_item same_mark
  foreach_form = enter_form most r sub ls (omega arith) (λ fits at. then_goal most r sub ls (mark_here m.OpenParen tt) (λ _ _. then_goal most r sub ls (path_goal most r some roomy fits tt) (λ a g.
      then_goal most r sub ls (mark_here m.OpenBracket bracket_follows) (λ _ _. then_goal most r sub ls loop_vars_goal (λ vars _.
      then_goal most r sub ls (mark_here m.CloseBracket refl) (λ _ _. then_goal most r sub ls (mark_here m.CloseParen tt) (λ _ _. then_goal most r sub ls (sets tt) (λ body g2.
      pure_goal most r sub ls (omega arith, omega (arith, g.1, g2)) (λ _ h. h)))))))))

  disable_form : F AnyToken (Part (suc r)) disable_item
  unfolding disable_item
  disable_form = enter_form most r sub ls (omega arith) (λ fits at. then_goal most r sub ls (goal_expect most r sub ls (f.Word w.Soft) tt) (λ _ _. then_goal most r sub ls (member_goal most r some roomy fits tt) (λ a g.
      then_goal most r sub ls (mark_here m.Semicolon end_follows.0) (λ _ _. pure_goal most r sub ls (omega arith, omega (arith, g.1)) (λ _ h. h)))))

  solve_form : F AnyToken (Part (suc r)) solve_item
  unfolding solve_item
  solve_form = enter_form most r sub ls (omega arith) (λ fits at.
      then_goal most r sub ls (paths_goal most r some roomy {C = IsBefore} fits tt (of_token NotDot (lexeme.Word w.Before) before_follows.0) (of_token NotComma (lexeme.Word w.Before) before_follows.1)) (λ xs g.
      then_goal most r sub ls (goal_expect most r sub ls (f.Word w.Before) refl) (λ _ _.
      then_goal most r sub ls (paths_goal most r some roomy {C = IsEnd} fits tt (of_token NotDot (lexeme.Mark m.Semicolon) end_follows.0.0) (of_token NotComma (lexeme.Mark m.Semicolon) end_follows.1)) (λ zs g2.
      then_goal most r sub ls (mark_here m.Semicolon refl) (λ _ _. pure_goal most r sub ls (omega arith, omega (arith, g, g2)) (λ _ h. h))))))

  -- ---- items

  item_by_form : (q : Option Lexeme) → F NotElse (Part (suc r)) (item_by q)
  item_by_form (Some (lexeme.Word w.Soft)) = narrow_form most r sub ls soft_form (λ _ _. tt)
  item_by_form (Some (lexeme.Word w.Unique)) = narrow_form most r sub ls unique_form (λ _ _. tt)
  item_by_form (Some (lexeme.Word w.If)) = branch_form
  item_by_form (Some (lexeme.Word w.Foreach)) = foreach_form
  item_by_form (Some (lexeme.Word w.Disable)) = narrow_form most r sub ls disable_form (λ _ _. tt)
  item_by_form _ = expr_item_form

  block_by_form : (q : Option Lexeme) → F NotElse (Part (suc r)) (block_item_by q)
  block_by_form (Some (lexeme.Word w.Solve)) = narrow_form most r sub ls solve_form (λ _ _. tt)
  block_by_form q = item_by_form q

  pub item_in_form : F NotElse (Part (suc r)) item_in
  unfolding item_in
  item_in_form = peek_form most r sub ls item_by_form

  pub block_in_form : F NotElse (Part (suc r)) block_item_in
  unfolding block_item_in
  block_in_form = peek_form most r sub ls block_by_form

-- ---- items of every height

each_form : (most r : ℕ) → IsViable most NotElse (Part r) (item most r) → Form most r (part most r (item most r)) (local_parts most r) NotElse (Low r) (call an_item)
each_form most r v = weaken_form most r (part most r (item most r)) (local_parts most r) (form_of most r (part most r (item most r)) (local_parts most r) {k = an_item} v) (λ x g. g.1)

pub live_item : (most r : ℕ) → 1 ≤ most → r ≤ most → IsViable most NotElse (Part r) (item most r)
unfolding item
live_item most zero some roomy = record {
  later = none_later (WithHeight ItemTree) item_starts most NotElse (Part 0);
  settles = record { at = λ i x j lim h. absurd (none_never (WithHeight ItemTree) item_starts i (x, j) h) };
  consumes = λ i x j h. absurd (none_never (WithHeight ItemTree) item_starts i (x, j) h);
}
live_item most (suc r) some roomy =
    let v = item_in_form most r some (omega (arith, roomy)) (each_form most r (live_item most r some (omega (arith, roomy)))) in
    record { later = v.later; settles = v.settles; consumes = v.consumes }

pub live_block_item : (most r : ℕ) → 1 ≤ most → r ≤ most → IsViable most NotElse (Part r) (block_item most r)
unfolding block_item
live_block_item most zero some roomy = record {
  later = none_later (WithHeight ItemTree) block_starts most NotElse (Part 0);
  settles = record { at = λ i x j lim h. absurd (none_never (WithHeight ItemTree) block_starts i (x, j) h) };
  consumes = λ i x j h. absurd (none_never (WithHeight ItemTree) block_starts i (x, j) h);
}
live_block_item most (suc r) some roomy =
    let v = block_in_form most r some (omega (arith, roomy)) (each_form most r (live_item most r some (omega (arith, roomy)))) in
    record { later = v.later; settles = v.settles; consumes = v.consumes }

-- ---- where there is room for a name and its end, an item can be completed from its beginning on; D are the tokens that may come first

abbrev pub name_item : ItemTree
name_item = plain 0 false name_expr None

abbrev pub name_end : List Tok
name_end = name_tok ∷ (tok (lexeme.Mark m.Semicolon) ∷ [])

pub name_item_read : (most r : ℕ) → 2 ≤ r → r ≤ most → (z : List Tok) → item most r (name_end ++ z) ≡ Ok ((name_item, 2), z)
name_item_read most r two roomy z = item_completes most r roomy name_item (name_end ++ z) z (omega (arith, two, roomy)) (refl, refl, omega arith, tt) two ((refl, record { kind = _; is = refl }), (refl, refl)) (λ v. absurd (cc))

pub name_block_item_read : (most r : ℕ) → 2 ≤ r → r ≤ most → (z : List Tok) → block_item most r (name_end ++ z) ≡ Ok ((name_item, 2), z)
name_block_item_read most r two roomy z = block_item_completes most r roomy name_item (name_end ++ z) z (omega (arith, two, roomy)) (refl, refl, omega arith, tt) two ((refl, record { kind = _; is = refl }), (refl, refl)) (λ v. absurd (cc))

module _ (most r : ℕ) (two : 2 ≤ r) (roomy : r ≤ most) where
  pub item_open : {D : Option Lexeme → Type 0} → D a_name → IsOpen most D NotElse (Part r) (item most r)
  item_open d = let v = live_item most r (omega (arith, two, roomy)) roomy in record {
    alive = record { fin = record { more = name_end; x = (name_item, 2); good = (omega arith, two); opens = λ z cl. d; ends = λ z cl. name_item_read most r two roomy z }; later = v.later };
    settles = v.settles;
    heads = λ i y j lim h. inl (v.consumes i y j h);
  }

  pub block_item_open : {D : Option Lexeme → Type 0} → D a_name → IsOpen most D NotElse (Part r) (block_item most r)
  block_item_open d = let v = live_block_item most r (omega (arith, two, roomy)) roomy in record {
    alive = record { fin = record { more = name_end; x = (name_item, 2); good = (omega arith, two); opens = λ z cl. d; ends = λ z cl. name_block_item_read most r two roomy z }; later = v.later };
    settles = v.settles;
    heads = λ i y j lim h. inl (v.consumes i y j h);
  }

-- ---- lists of items up to their brace, which completes them; any token may follow

pub set_items_open : {D : Option Lexeme → Type 0} (most r : ℕ) → 1 ≤ most → r ≤ most → D (Some (lexeme.Mark m.CloseBrace)) → IsOpen most D AnyToken (Low r) (set_items most r)
unfolding set_items
set_items_open most r some roomy d = let v = items_goal most r some (each_form most r (live_item most r some roomy)) d in record { alive = v.alive; settles = v.settles; heads = v.heads }

pub block_items_open : {D : Option Lexeme → Type 0} (most r : ℕ) → 1 ≤ most → r ≤ most → D (Some (lexeme.Mark m.CloseBrace)) → IsOpen most D AnyToken (Low r) (block_items most r)
unfolding block_items
block_items_open most r some roomy d =
    let w = live_block_item most r some roomy in
    let each = weaken_form {K = Unit {0}} {Ans = λ _. WithHeight ItemTree} most r (λ _. block_item most r) (λ _. local_block_item most r) {q = call tt} (form_of {K = Unit {0}} {Ans = λ _. WithHeight ItemTree} most r (λ _. block_item most r) (λ _. local_block_item most r) {k = tt} w) (λ x g. g.1) in
    let v = until_any_goal {K = Unit {0}} {Ans = λ _. WithHeight ItemTree} most r (λ _. block_item most r) (λ _. local_block_item most r) some r NotElse close_brace refl (call tt) each d in
    record { alive = v.alive; settles = v.settles; heads = v.heads }

closed_less : (xs : List ItemTree) (i j : List Tok) → FitEach i (ended_spelling xs) j → length j < length i
closed_less xs i j h = omega (arith, takes_length i (ended_spelling xs) j h, length-append (items_spelling (items_of xs)) (mark m.CloseBrace ∷ []))

pub live_set_items : (most r : ℕ) → 1 ≤ most → r ≤ most → IsViable most AnyToken (Low r) (set_items most r)
live_set_items most r some roomy = let v = set_items_open {D = AnyToken} most r some roomy tt in record {
  later = v.alive.later;
  settles = v.settles;
  consumes = λ i xs j h. closed_less xs.0 i j ((set_items_sound most r).at i xs j h).takes;
}

pub live_block_items : (most r : ℕ) → 1 ≤ most → r ≤ most → IsViable most AnyToken (Low r) (block_items most r)
live_block_items most r some roomy = let v = block_items_open {D = AnyToken} most r some roomy tt in record {
  later = v.alive.later;
  settles = v.settles;
  consumes = λ i xs j h. closed_less xs.0 i j ((block_items_sound most r).at i xs j h).takes;
}
