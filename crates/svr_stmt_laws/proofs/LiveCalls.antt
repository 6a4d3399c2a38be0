-- Where the reading of a call of `randomize` fails, what was read so far can be completed.
use Rattle.std.proofs.Common.{◌≡◌, ℕ, ◌≤◌, List, [], ◌∷◌, length, Option, Some, None, refl, sym, subst, arith}
use Rattle.svr_token.specs.declared.Lexeme.{Lexeme}
use Rattle.svr_token.specs.declared.Lexeme.TheVariants as lexeme
use Rattle.svr_token.specs.declared.Word.TheVariants as w
use Rattle.svr_token.specs.declared.Mark.TheVariants as m
use Rattle.svr_token.specs.declared.NameKind.{NameKind}
use Rattle.svr_tree.specs.declared.stmt.RandomizeArgs.{RandomizeArgs}
use Rattle.svr_tree.specs.declared.stmt.RandomizeArgs.TheVariants as args
use Rattle.svr_tree.specs.Tokens.{Tok}
use Rattle.svr_tree.specs.ExprTree.{ExprTree}
use Rattle.svr_tree.specs.StmtTree.{RandomizeTree}
use Rattle.svr_reader.specs.Outcomes.{Stuck, Parser, lexeme_at}
use Rattle.svr_reader.specs.declared.fixed.Fixed.TheVariants as f
use Rattle.svr_reader.specs.Program.{bind, run, expect, known_name}
use Rattle.svr_reader.specs.Steps.{same_mark, named}
use Rattle.svr_reader.specs.Lists.{WithHeight, listing, name}
use Rattle.svr_reader.proofs.Steps.{bind_ok}
use Rattle.svr_reader.proofs.Local.{IsLocal, local_run}
use Rattle.svr_reader.proofs.Live.{AnyToken, Completes, Later, Finishes, Settles, Heads, bind_err, split, ok_stays, ok_shorter, fault_within, later_in, later_behind, later_refuse, settles_bind}
use Rattle.svr_reader.proofs.Goals.{Goal, Form, then_goal, then_form, goal_of, pure_goal, take_form, peek_form, any_goal}
use Rattle.svr_reader.proofs.Led.{AnyAnswer, tok, goal_expect, led_form, opt_goal, name_form, name_tok}
use Rattle.svr_reader.proofs.LiveLists.{listing_form}
use Rattle.svr_reader.proofs.Layers.{IsViable, Low, Part, open_of}
use Rattle.svr_expr.specs.ExprRules.{a_known_path, owner}
use Rattle.svr_expr_laws.proofs.Nodes.{NotDot}
use Rattle.svr_expr_laws.proofs.Live.{live_known_path}
use Rattle.svr_expr.proofs.Local.{local_known_path}
use Rattle.svr_stmt.specs.declared.method.Method.{Method}
use Rattle.svr_stmt.specs.declared.method.Method.TheVariants as built
use Rattle.svr_stmt.specs.StmtRules.{set_rest, Rule, path_method, argument, call_arguments_by, call_arguments, in_line, randomize_end, randomize_given, randomize_on, whole_by, whole_call, part, stmt}
use Rattle.svr_stmt_laws.proofs.Sets.{SetLaws}
use Rattle.svr_stmt_laws.proofs.Growth.{local_parts}
use Rattle.svr_stmt_laws.proofs.CompleteCalls.{NotWith, NotComma, call_of, randomize_by}
use Rattle.svr_stmt_laws.proofs.LivePaths.{EndsCall, known_later, known_extends}

module _ (sets : SetLaws) (most r : ℕ) (fits : 1 ≤ r) (roomy : r ≤ most) where
  abbrev R : {X : Type 0} → Rule X → Parser X
  R p = run most r (part most r (stmt most r)) p

  abbrev G : {X : Type 0} → (D C : Option Lexeme → Type 0) → (X → Type 0) → Rule X → Type 0
  G D C Q q = Goal most r (part most r (stmt most r)) (local_parts sets most r) D C Q q

  abbrev F : {X : Type 0} → (C : Option Lexeme → Type 0) → (X → Type 0) → Rule X → Type 0
  F C Q q = Form most r (part most r (stmt most r)) (local_parts sets most r) C Q q

  lo : {X : Type 0} (q : Rule X) → IsLocal (R q)
  lo q = local_run most r (part most r (stmt most r)) (local_parts sets most r) q

  some : 1 ≤ most
  some = omega (arith, fits, roomy)

  -- ---- arguments

  argument_form : F AnyToken (Low 0) argument
  unfolding argument
  argument_form = then_form most r (part most r (stmt most r)) (local_parts sets most r) (name_form most r (part most r (stmt most r)) (local_parts sets most r)) (λ n _. pure_goal most r (part most r (stmt most r)) (local_parts sets most r) (omega arith) (λ _ h. h))

  argument_fin : Finishes AnyToken AnyToken (Low 0) (R argument)
  unfolding argument named
  argument_fin = record { more = name_tok ∷ []; x = (0, 0); good = omega arith; opens = λ z cl. tt; ends = λ z cl. refl }

  names_form : F NotComma (Low 0) (listing argument)
  names_form = listing_form most r (part most r (stmt most r)) (local_parts sets most r) some 0 AnyToken NotComma (λ q h. tt) (λ q h. h) argument argument_form {E = AnyToken} argument_fin

  call_arguments_by_form : (q : Option Lexeme) → F NotComma AnyAnswer (call_arguments_by q)
  call_arguments_by_form (Some (lexeme.Word w.Null)) = take_form most r (part most r (stmt most r)) (local_parts sets most r) (λ _. pure_goal most r (part most r (stmt most r)) (local_parts sets most r) tt (λ _ _. tt))
  call_arguments_by_form _ = then_form most r (part most r (stmt most r)) (local_parts sets most r) names_form (λ ns _. pure_goal most r (part most r (stmt most r)) (local_parts sets most r) tt (λ _ h. h))

  call_arguments_form : F NotComma AnyAnswer call_arguments
  unfolding call_arguments
  call_arguments_form = peek_form most r (part most r (stmt most r)) (local_parts sets most r) call_arguments_by_form

  close_follows : NotComma (Some (lexeme.Mark m.CloseParen))
  unfolding same_mark
  close_follows = refl

  -- ---- calls, before tokens of C

  module _ (C : Option Lexeme → Type 0) (apart : (q : Option Lexeme) → C q → NotWith q) where
    in_line_goal : G C C (Low r) in_line
    unfolding in_line
    in_line_goal = opt_goal most r (part most r (stmt most r)) (local_parts sets most r) (f.Word w.With) _ _ C (Low r) apart
        (then_goal most r (part most r (stmt most r)) (local_parts sets most r) (goal_expect most r (part most r (stmt most r)) (local_parts sets most r) {D = AnyToken} (f.Mark m.OpenBrace) tt) (λ _ _.
        then_goal most r (part most r (stmt most r)) (local_parts sets most r) (open_of most r (part most r (stmt most r)) (local_parts sets most r) {k = set_rest} (sets.opens most r some roomy)) (λ is low.
        pure_goal most r (part most r (stmt most r)) (local_parts sets most r) low (λ _ _. tt)))) (omega arith)

    pub end_goal : (p : ExprTree) (list : RandomizeArgs) → G C C (Part r) (randomize_end p list)
    unfolding randomize_end
    end_goal p list = then_goal most r (part most r (stmt most r)) (local_parts sets most r) in_line_goal (λ is low. pure_goal most r (part most r (stmt most r)) (local_parts sets most r) (omega arith, omega (arith, fits, low)) (λ _ h. h))

    pub given_call_form : (p : ExprTree) → F C (Part r) (randomize_given p)
    unfolding randomize_given
    given_call_form p = then_form most r (part most r (stmt most r)) (local_parts sets most r) call_arguments_form (λ list _.
        then_goal most r (part most r (stmt most r)) (local_parts sets most r) (goal_expect most r (part most r (stmt most r)) (local_parts sets most r) (f.Mark m.CloseParen) close_follows) (λ _ _.
        any_goal most r (part most r (stmt most r)) (local_parts sets most r) (end_goal p list)))

    pub on_goal : (p : ExprTree) → G AnyToken C (Part r) (randomize_on p)
    unfolding randomize_on
    on_goal p = goal_of most r (part most r (stmt most r)) (local_parts sets most r)
        (led_form most r (part most r (stmt most r)) (local_parts sets most r) (f.Mark m.CloseParen) (randomize_end p args.Empty) (randomize_given p) C (Part r) (any_goal most r (part most r (stmt most r)) (local_parts sets most r) (end_goal p args.Empty)) (given_call_form p))
        (record {
          more = tok (lexeme.Mark m.CloseParen) ∷ [];
          x = (call_of sets most r roomy (stmt most r) (owner p) args.Empty None, 1);
          good = (omega arith, fits);
          opens = λ z cl. tt;
          ends = λ z cl. randomize_by sets most r roomy (stmt most r) p args.Empty None (tok (lexeme.Mark m.CloseParen) ∷ z) z (omega (arith, some)) tt tt (omega arith) (refl, refl) (apart (lexeme_at z) cl);
        })

    -- ---- a call where nothing else may stand

    module _ (many : 3 ≤ most) where
      call_on_goal : (p : ExprTree) → G NotDot C (Part r) (bind (expect (f.Mark m.OpenParen)) (λ _. randomize_on p))
      unfolding same_mark
      call_on_goal p = then_goal most r (part most r (stmt most r)) (local_parts sets most r) (goal_expect most r (part most r (stmt most r)) (local_parts sets most r) {D = NotDot} (f.Mark m.OpenParen) refl) (λ _ _. on_goal p)

      by_later : (p : ExprTree) (o : Option Method) → Later most C (Part r) (R (whole_by p o))
      by_later p (Some built.Randomize) = (call_on_goal p).alive.later
      by_later p (Some (built.Mode k)) = later_refuse most C (Part r)
      by_later p None = later_refuse most C (Part r)

      by_settles : (p : ExprTree) (o : Option Method) → Settles most C (Part r) (R (whole_by p o))
      by_settles p (Some built.Randomize) = (call_on_goal p).settles
      by_settles p (Some (built.Mode k)) = record { at = λ i x j lim h. absurd (cc) }
      by_settles p None = record { at = λ i x j lim h. absurd (cc) }

      by_heads : (p : ExprTree) (o : Option Method) → Heads most NotDot C (R (whole_by p o))
      by_heads p (Some built.Randomize) = (call_on_goal p).heads
      by_heads p (Some (built.Mode k)) = λ i y j lim h. absurd (cc)
      by_heads p None = λ i y j lim h. absurd (cc)

      by_fin : (p : ExprTree) (o : Option Method) → o ≡ Some built.Randomize → Finishes NotDot C (Part r) (R (whole_by p o))
      by_fin p o e = subst (λ z. Finishes NotDot C (Part r) (R (whole_by p z))) (sym e) (call_on_goal p).alive.fin

      abbrev behind : ExprTree × NameKind → Parser (WithHeight RandomizeTree)
      behind p = R (whole_by p.0 (path_method p))

      known_viable : IsViable most NotDot AnyAnswer (a_known_path most r)
      known_viable = live_known_path most r some

      -- what was read is completed to a path that ends with `randomize`, and its parentheses
      completed : (i : List Tok) (n : ℕ) → Completes NotDot EndsCall (a_known_path most r) i n → Completes C (Part r) (R whole_call) i n
      unfolding whole_call
      completed i n d = later_in most NotDot NotDot C EndsCall (Part r) (a_known_path most r) behind (local_known_path most r) (λ p. lo (whole_by p.0 (path_method p))) i n d (by_fin d.x.0 (path_method d.x) d.good)

      whole_later : Later most C (Part r) (R whole_call)
      unfolding whole_call
      whole_later = record {
        later = λ i e n lim h fa below. bind_err (a_known_path most r i) behind e h
            (λ fails. completed i n ((known_later most r many fits).later i e n lim fails fa below))
            (λ p j is g.
            let less = ok_shorter (a_known_path most r) (local_known_path most r) i p j is in
            let inside = fault_within (behind p) (lo (whole_by p.0 (path_method p))) j e n g fa in
            split n (length j)
            (λ lt. later_behind most NotDot NotDot C AnyAnswer (Part r) (a_known_path most r) behind (local_known_path most r) (λ q. lo (whole_by q.0 (path_method q))) i n p j (ok_stays (a_known_path most r) (local_known_path most r) i p j is) lt
            ((by_later p.0 (path_method p)).later j e n (omega (arith, lim, less)) g fa lt))
            (λ le. let same : length j ≡ n = omega (arith, le, inside) in completed i n (subst (λ k. Completes NotDot EndsCall (a_known_path most r) i k) same (known_extends most r many fits i p j lim is))));
        safe = λ i lim h. bind_err (a_known_path most r i) behind Stuck h
            (λ fails. known_viable.later.safe i lim fails)
            (λ p j is g. let less = ok_shorter (a_known_path most r) (local_known_path most r) i p j is in (by_later p.0 (path_method p)).safe j (omega (arith, lim, less)) g);
      }

      pub whole_call_form : F C (Part r) whole_call
      unfolding whole_call
      whole_call_form = record {
        later = whole_later;
        settles = settles_bind most NotDot C AnyAnswer (Part r) (a_known_path most r) behind (local_known_path most r) known_viable.settles (λ p _. by_settles p.0 (path_method p)) (λ p _. by_heads p.0 (path_method p));
        consumes = λ i y j h. bind_ok (a_known_path most r i) behind (y, j) h (λ p mid e g.
            let a1 = known_viable.consumes i p mid e in let a2 = ok_shorter (behind p) (lo (whole_by p.0 (path_method p))) mid y j g in omega (arith, a1, a2));
      }
