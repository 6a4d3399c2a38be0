-- Where the reading of a `dist`, or of what stands behind the expression of an item, fails, what was read so far can be completed.
use Rattle.std.proofs.Common.{ℕ, suc, ◌≤◌, Bool, Option, Some, None, refl, arith}
use Rattle.svr_token.specs.declared.Lexeme.{Lexeme}
use Rattle.svr_token.specs.declared.Lexeme.TheVariants as lexeme
use Rattle.svr_token.specs.declared.Word.TheVariants as w
use Rattle.svr_token.specs.declared.Mark.{Mark}
use Rattle.svr_token.specs.declared.Mark.TheVariants as m
use Rattle.svr_operator.specs.declared.Share.{Share}
use Rattle.svr_operator.specs.declared.Share.TheVariants as share
use Rattle.svr_tree.specs.ExprTree.{ExprTree}
use Rattle.svr_reader.specs.Outcomes.{Parser}
use Rattle.svr_reader.specs.declared.fixed.Fixed.{Fixed}
use Rattle.svr_reader.specs.declared.fixed.Fixed.TheVariants as f
use Rattle.svr_reader.specs.Program.{Program, bind, call, run, expect}
use Rattle.svr_reader.specs.Steps.{same_mark}
use Rattle.svr_reader.specs.Lists.{WithHeight, listing}
use Rattle.svr_reader.proofs.Steps.{bind_ok}
use Rattle.svr_reader.proofs.Local.{IsLocal, local_run}
use Rattle.svr_reader.proofs.Live.{AnyToken, Consumes, ok_shorter}
use Rattle.svr_reader.proofs.Goals.{Goal, Form, then_goal, then_form, pure_goal, take_form, weaken_form, wide_goal}
use Rattle.svr_reader.proofs.Led.{AnyAnswer, expect_form, goal_expect, a_name}
use Rattle.svr_reader.proofs.LivePeeks.{Peeks, reads, stops, peek_goal}
use Rattle.svr_reader.proofs.LiveLists.{listing_goal}
use Rattle.svr_reader.proofs.Layers.{Low, Part, form_of, open_of}
use Rattle.svr_expr.specs.ExprRules.{an_expr, a_path, a_member, rest_of_operand}
use Rattle.svr_expr_laws.proofs.Nodes.{NotDot, NotSelect}
use Rattle.svr_expr_laws.proofs.LiveParts.{Closes}
use Rattle.svr_expr_laws.proofs.Live.{live_expr, live_path, live_member, live_range, expr_open, path_open, member_open, range_open, connectives_open}
use Rattle.svr_item.specs.ItemRules.{Ans, Rule, a_node, a_set_range, weight_of, weight_by, weight, dist_item, dist_on, dist_by, dist, plain_on, equivalent_on, part, item}
use Rattle.svr_item.specs.ItemRules as rules
use Rattle.svr_item.proofs.Local.{local_parts}
use Rattle.svr_item_laws.proofs.CompleteParts.{Spells, NotComma, NotWeight, NotDist, of_token, weight_stops, dist_stops}

-- ---- programs that take a token

module _ {K : Type 0} {Ans : K → Type 0} (most r : ℕ) (sub : (k : K) → Parser (Ans k)) (ls : (k : K) → IsLocal (sub k)) where
  -- a program that takes a token
  pub record Takes {X : Type 0} (q : Program K Ans X) : Type 0 where
    pub consumes : Consumes (run most r sub q)

  -- it does where its last part does
  pub then_takes : {X Y : Type 0} {p : Program K Ans X} {g : X → Program K Ans Y} → ((x : X) → Takes (g x)) → Takes (bind p g)
  then_takes {p = p} {g = g} c = record {
    consumes = λ i y j h. bind_ok (run most r sub p i) _ (y, j) h (λ x mid e k.
        let less = ok_shorter (run most r sub p) (local_run most r sub ls p) i x mid e in let less2 = (c x).consumes mid y j k in omega (arith, less, less2));
  }

  -- or its first
  pub expect_takes : {Y : Type 0} (k : Fixed) {g : Unit {0} → Program K Ans Y} → Takes (bind (expect k) g)
  expect_takes k {g = g} = record {
    consumes = λ i y j h. bind_ok (run most r sub (expect k) i) _ (y, j) h (λ x mid e u.
        let less = (expect_form most r sub ls k).consumes i x mid e in let less2 = ok_shorter (run most r sub (g x)) (local_run most r sub ls (g x)) mid y j u in omega (arith, less, less2));
  }

  pub form_by : {X : Type 0} {D C : Option Lexeme → Type 0} {Q : X → Type 0} {q : Program K Ans X} → Goal most r sub ls D C Q q → Takes q → Form most r sub ls C Q q
  form_by v t = record { later = v.alive.later; settles = v.settles; consumes = t.consumes }

-- ---- tokens that may follow

-- the end of a member of `dist`
abbrev pub Parts : Option Lexeme → Type 0
Parts q = Closes q × NotWeight q

abbrev pub IsEnd : Option Lexeme → Type 0
IsEnd = Spells (lexeme.Mark m.Semicolon)

abbrev pub IsBrace : Option Lexeme → Type 0
IsBrace = Spells (lexeme.Mark m.CloseBrace)

parts_brace : Parts (Some (lexeme.Mark m.CloseBrace)) × NotComma (Some (lexeme.Mark m.CloseBrace))
unfolding same_mark
parts_brace = ((refl, (refl, refl)), refl)

not_dist : NotDist (Some (lexeme.Mark m.Semicolon))
not_dist = refl

module _ (most r : ℕ) (some : 1 ≤ most) (roomy : r ≤ most) where
  abbrev sub : (k : rules.Part) → Parser (Ans k)
  sub = part most r (item most r)

  abbrev ls : (k : rules.Part) → IsLocal (sub k)
  ls = local_parts most r

  abbrev R : {X : Type 0} → Rule X → Parser X
  R p = run most r sub p

  abbrev G : {X : Type 0} → (D C : Option Lexeme → Type 0) → (X → Type 0) → Rule X → Type 0
  G D C Q q = Goal most r sub ls D C Q q

  abbrev F : {X : Type 0} → (C : Option Lexeme → Type 0) → (X → Type 0) → Rule X → Type 0
  F C Q q = Form most r sub ls C Q q

  pub mark_goal : {D : Option Lexeme → Type 0} (k : Mark) → D (Some (lexeme.Mark k)) → G D AnyToken AnyAnswer (expect (f.Mark k))
  mark_goal k d = goal_expect most r sub ls (f.Mark k) d

  -- ---- what an item calls for

  pub expr_form : (least : ℕ) → 1 ≤ least → least ≤ 13 → F Closes (Part r) (call (a_node (an_expr least)))
  expr_form least pos low = form_of most r sub ls {k = a_node (an_expr least)} (live_expr most r some roomy least pos low)

  pub expr_goal : {D : Option Lexeme → Type 0} → 1 ≤ r → D a_name → G D Closes (Part r) (call (a_node (an_expr 1)))
  expr_goal fits d = open_of most r sub ls {k = a_node (an_expr 1)} (expr_open most r fits roomy 1 (omega arith) (omega arith) d)

  pub path_goal : {D : Option Lexeme → Type 0} → 1 ≤ r → D a_name → G D NotDot (Part r) (call (a_node a_path))
  path_goal fits d = open_of most r sub ls {k = a_node a_path} (path_open most r fits roomy d)

  pub member_goal : {D : Option Lexeme → Type 0} → 1 ≤ r → D a_name → G D NotSelect (Part r) (call (a_node a_member))
  member_goal fits d = open_of most r sub ls {k = a_node a_member} (member_open most r fits roomy d)

  range_goal : {D : Option Lexeme → Type 0} → 1 ≤ r → D a_name → G D Closes (Low r) (call a_set_range)
  range_goal fits d = open_of most r sub ls {k = a_set_range} (range_open most r fits roomy d)

  range_form : 1 ≤ r → F Closes (Low r) (call a_set_range)
  range_form fits = form_of most r sub ls {k = a_set_range} (live_range most r fits roomy)

  connectives_goal : (at : ℕ) (left : WithHeight ExprTree) → Part r left → G Closes Closes (Part r) (call (a_node (rest_of_operand at left)))
  connectives_goal at left a = open_of most r sub ls {k = a_node (rest_of_operand at left)} (connectives_open most r at left some roomy a)

  -- ---- lists of paths and of members

  low_path : F NotDot (Low r) (call (a_node a_path))
  low_path = weaken_form most r sub ls (form_of most r sub ls {k = a_node a_path} (live_path most r some roomy)) (λ x g. g.1)

  low_member : F NotSelect (Low r) (call (a_node a_member))
  low_member = weaken_form most r sub ls (form_of most r sub ls {k = a_node a_member} (live_member most r some roomy)) (λ x g. g.1)

  pub paths_goal : {D C : Option Lexeme → Type 0} → 1 ≤ r → D a_name → ((q : Option Lexeme) → C q → NotDot q) → ((q : Option Lexeme) → C q → NotComma q) → G D C (Low r) (listing (call (a_node a_path)))
  paths_goal {D} {C} fits d within apart = listing_goal most r sub ls some r NotDot C within apart (call (a_node a_path)) low_path
      (let v = (path_goal {D = D} fits d).alive.fin in record { more = v.more; x = v.x; good = v.good.1; opens = v.opens; ends = v.ends })

  pub members_goal : {D C : Option Lexeme → Type 0} → 1 ≤ r → D a_name → ((q : Option Lexeme) → C q → NotSelect q) → ((q : Option Lexeme) → C q → NotComma q) → G D C (Low r) (listing (call (a_node a_member)))
  members_goal {D} {C} fits d within apart = listing_goal most r sub ls some r NotSelect C within apart (call (a_node a_member)) low_member
      (let v = (member_goal {D = D} fits d).alive.fin in record { more = v.more; x = v.x; good = v.good.1; opens = v.opens; ends = v.ends })

  -- ---- `dist`

  weight_of_form : 1 ≤ r → (s : Share) → F Parts (Low r) (weight_of s)
  unfolding weight_of
  weight_of_form fits s = take_form most r sub ls (λ _. then_goal most r sub ls (expr_goal fits tt) (λ x g. pure_goal most r sub ls g.1 (λ _ h. h.0)))

  weight_branch : 1 ≤ r → (q : Option Lexeme) → Peeks most r sub ls Parts (Low r) (None, 0) (weight_by q)
  weight_branch fits (Some (lexeme.Mark m.ColonEqual)) = reads (weight_of_form fits share.Each)
  weight_branch fits (Some (lexeme.Mark m.ColonSlash)) = reads (weight_of_form fits share.Whole)
  weight_branch fits _ = stops (λ i. refl)

  weight_goal : 1 ≤ r → G Parts Parts (Low r) weight
  unfolding weight
  weight_goal fits = peek_goal most r sub ls Parts (Low r) (None, 0) (omega arith) weight_by (weight_branch fits) (λ q i c. weight_stops most r roomy (item most r) q i c.1)

  dist_item_form : 1 ≤ r → F Parts (Low r) dist_item
  unfolding dist_item
  dist_item_form fits = then_form most r sub ls (range_form fits) (λ s g. then_goal most r sub ls (wide_goal most r sub ls (weight_goal fits) (λ _ h. h.0)) (λ v g2. pure_goal most r sub ls (omega (arith, g, g2)) (λ _ h. h)))

  dist_item_goal : 1 ≤ r → G AnyToken Parts (Low r) dist_item
  unfolding dist_item
  dist_item_goal fits = then_goal most r sub ls (range_goal fits tt) (λ s g. then_goal most r sub ls (wide_goal most r sub ls (weight_goal fits) (λ _ h. h.0)) (λ v g2. pure_goal most r sub ls (omega (arith, g, g2)) (λ _ h. h)))

  dist_on_form : 1 ≤ r → F IsEnd (Low r) dist_on
  unfolding dist_on
  dist_on_form fits = take_form most r sub ls (λ at. then_goal most r sub ls (mark_goal m.OpenBrace tt) (λ _ _.
      then_goal most r sub ls (listing_goal most r sub ls some r Parts IsBrace (of_token Parts (lexeme.Mark m.CloseBrace) parts_brace.0) (of_token NotComma (lexeme.Mark m.CloseBrace) parts_brace.1) dist_item (dist_item_form fits) (dist_item_goal fits).alive.fin) (λ ds g.
      then_goal most r sub ls (mark_goal m.CloseBrace refl) (λ _ _. pure_goal most r sub ls g (λ _ _. tt)))))

  dist_branch : 1 ≤ r → (q : Option Lexeme) → Peeks most r sub ls IsEnd (Low r) (None, 0) (dist_by q)
  dist_branch fits (Some (lexeme.Word w.Dist)) = reads (dist_on_form fits)
  dist_branch fits _ = stops (λ i. refl)

  dist_goal : 1 ≤ r → G IsEnd IsEnd (Low r) dist
  unfolding dist
  dist_goal fits = peek_goal most r sub ls IsEnd (Low r) (None, 0) (omega arith) dist_by (dist_branch fits) (λ q i c. dist_stops most r roomy (item most r) q i (of_token NotDist (lexeme.Mark m.Semicolon) not_dist q c))

  -- ---- what stands behind the expression of an item

  pub plain_on_goal : (at : ℕ) (soft : Bool) (e : WithHeight ExprTree) → Part r e → G IsEnd AnyToken (Part (suc r)) (plain_on at soft e)
  unfolding plain_on
  plain_on_goal at soft e a = then_goal most r sub ls (dist_goal (omega (arith, a.0, a.1))) (λ d g. then_goal most r sub ls (mark_goal m.Semicolon refl) (λ _ _. pure_goal most r sub ls (omega arith, omega (arith, a.1, g)) (λ _ _. tt)))

  pub plain_on_form : (at : ℕ) (soft : Bool) (e : WithHeight ExprTree) → Part r e → F AnyToken (Part (suc r)) (plain_on at soft e)
  unfolding plain_on
  plain_on_form at soft e a = form_by most r sub ls (plain_on_goal at soft e a) (then_takes most r sub ls (λ d. expect_takes most r sub ls (f.Mark m.Semicolon)))

  equivalent_on_goal : (at : ℕ) (left : WithHeight ExprTree) → Part r left → G Closes AnyToken (Part (suc r)) (equivalent_on at left)
  unfolding equivalent_on
  equivalent_on_goal at left a = then_goal most r sub ls (connectives_goal at left a) (λ whole g. then_goal most r sub ls (mark_goal m.Semicolon refl) (λ _ _. pure_goal most r sub ls (omega arith, omega (arith, g.1)) (λ _ _. tt)))

  pub equivalent_on_form : (at : ℕ) (left : WithHeight ExprTree) → Part r left → F AnyToken (Part (suc r)) (equivalent_on at left)
  unfolding equivalent_on
  equivalent_on_form at left a = form_by most r sub ls (equivalent_on_goal at left a) (then_takes most r sub ls (λ whole. expect_takes most r sub ls (f.Mark m.Semicolon)))
