-- Where the reading of a module or program fails, what was read so far can be completed.
use Rattle.std.proofs.Common.{◌≡◌, ℕ, zero, suc, ◌≤◌, ◌<◌, Bool, true, false, List, [], ◌∷◌, ◌++◌, length, Option, Some, None, Ok, inl, refl, ◌∙◌, ap, arith}
use Rattle.svr_token.specs.declared.Lexeme.{Lexeme}
use Rattle.svr_token.specs.declared.Lexeme.TheVariants as lexeme
use Rattle.svr_token.specs.declared.Word.TheVariants as w
use Rattle.svr_token.specs.declared.Mark.TheVariants as m
use Rattle.svr_token.specs.declared.NameKind.{NameKind}
use Rattle.svr_tree.specs.declared.script.UnitKind.TheVariants as unit_kind
use Rattle.svr_tree.specs.Tokens.{Tok}
use Rattle.svr_tree.specs.DeclTree.{VarTree}
use Rattle.svr_tree.specs.StmtTree.{StmtTree}
use Rattle.svr_tree.specs.ScriptGrammar.{last_word}
use Rattle.svr_reader.specs.Outcomes.{Turn, go, done, Parser, turned, turns}
use Rattle.svr_reader.specs.declared.fixed.Fixed.TheVariants as f
use Rattle.svr_reader.specs.Program.{pure, bind, peek, call, run, expect}
use Rattle.svr_reader.specs.Steps.{is_fixed, same_mark}
use Rattle.svr_reader.specs.Lists.{◌>>=◌, ◌>>◌, WithHeight, with_last, until_step, name}
use Rattle.svr_reader.proofs.Steps.{bind_is, led_yes}
use Rattle.svr_reader.proofs.Local.{IsLocal}
use Rattle.svr_reader.proofs.Live.{AnyToken, Finishes}
use Rattle.svr_reader.proofs.Goals.{Goal, Form, then_goal, then_form, goal_of, pure_goal, take_form, peek_form, refuse_form, any_goal, weaken_form}
use Rattle.svr_reader.proofs.Led.{AnyAnswer, tok, goal_expect, opt_goal, known_name_form, name_goal}
use Rattle.svr_reader.proofs.LivePeeks.{Peeks, reads, stops, Turned, peek_loop_goal}
use Rattle.svr_reader.proofs.LiveLists.{until_goal, until_on_goal}
use Rattle.svr_reader.proofs.Layers.{IsViable, Low, form_of}
use Rattle.svr_reader.proofs.Layers as layers
use Rattle.svr_decl.specs.DeclRules.{starts_type}
use Rattle.svr_decl_laws.proofs.Optional.{name_behind_goal, parens_goal}
use Rattle.svr_parse.specs.ScriptRules.{Part, a_var, a_stmt, var_of, stmt_of, Ans, Rule, kind_by, kind, Inner, named_by, choose_var, inner_by, inner, stmts_on, unit}
use Rattle.svr_parse.proofs.CompleteTops.{NotColon}
use Rattle.svr_parse.proofs.LiveTops.{StartsUnit}

-- the word behind the statements of a block
abbrev pub IsEnd : Option Lexeme → Type 0
IsEnd q = q ≡ Some (lexeme.Word w.End)

abbrev pub IsAName : Option Lexeme → Type 0
IsAName q = (k : NameKind) × (q ≡ Some (lexeme.Name k))

abbrev NotOpen : Option Lexeme → Type 0
NotOpen q = is_fixed (f.Mark m.OpenParen) q ≡ false

module _ (most r : ℕ) (sub : (k : Part) → Parser (Ans k)) (ls : (k : Part) → IsLocal (sub k)) (some : 1 ≤ most)
    (vars : IsViable most AnyToken (Low r) (sub a_var)) (stmts : IsViable most AnyToken (layers.Part r) (sub a_stmt))
    (vars_of : (n : ℕ) → IsViable most AnyToken (Low r) (sub (var_of n))) (stmts_of : (n : ℕ × NameKind) → IsViable most AnyToken (layers.Part r) (sub (stmt_of n)))
    (var_fin : (n : ℕ) → Finishes IsAName AnyToken (Low r) (sub (var_of n)))
    (takes_end : (s : WithHeight (List StmtTree)) (i : List Tok) (y : WithHeight (List StmtTree)) (j : List Tok) → run most r sub (stmts_on s) i ≡ Ok (y, j) → length j < length i) where
  abbrev R : {A : Type 0} → Rule A → Parser A
  R p = run most r sub p

  abbrev G : {X : Type 0} → (D C : Option Lexeme → Type 0) → (X → Type 0) → Rule X → Type 0
  G D C Q q = Goal most r sub ls D C Q q

  abbrev F : {X : Type 0} → (C : Option Lexeme → Type 0) → (X → Type 0) → Rule X → Type 0
  F C Q q = Form most r sub ls C Q q

  kind_by_form : (q : Option Lexeme) → F AnyToken AnyAnswer (kind_by q)
  kind_by_form (Some (lexeme.Word w.Module)) = take_form most r sub ls (λ _. pure_goal most r sub ls tt (λ _ h. h))
  kind_by_form (Some (lexeme.Word w.Program)) = take_form most r sub ls (λ _. pure_goal most r sub ls tt (λ _ h. h))
  kind_by_form _ = refuse_form most r sub ls

  kind_goal : G StartsUnit AnyToken AnyAnswer kind
  unfolding kind
  kind_goal = goal_of most r sub ls (peek_form most r sub ls kind_by_form) (record { more = tok (lexeme.Word w.Module) ∷ []; x = unit_kind.Module; good = tt; opens = λ z cl. refl; ends = λ z cl. refl })

  -- ---- the variables of a block

  abbrev Vars : Type 0
  Vars = WithHeight (List VarTree)

  abbrev LowStmts : Inner → Type 0
  LowStmts y = Low r y.1

  abbrev stop : Vars → Inner
  stop s = (s, ([], 0))

  nothing_low : (s : Vars) → AnyAnswer s → LowStmts (stop s)
  nothing_low s _ = omega arith

  abbrev InnerTurned : Turn Vars Inner → Type 0
  InnerTurned = Turned most r sub ls IsEnd LowStmts AnyAnswer inner_by stop nothing_low

  named_form : (s : Vars) (n : ℕ × NameKind) (q : Option Lexeme) → F IsEnd InnerTurned (named_by s n q)
  named_form s n (Some (lexeme.Name k)) = then_form most r sub ls (form_of most r sub ls {k = var_of n.0} (vars_of n.0)) (λ x g. pure_goal most r sub ls {Q = InnerTurned} {x = go (with_last s x)} (tt, λ _ h. h) (λ _ _. tt))
  named_form s n _ = then_form most r sub ls (form_of most r sub ls {k = stmt_of n} (stmts_of n)) (λ x g. pure_goal most r sub ls {Q = InnerTurned} {x = done (s, (x.0 ∷ [], x.1))} g.1 (λ _ _. tt))

  named_goal : (s : Vars) (n : ℕ × NameKind) → G AnyToken IsEnd InnerTurned (peek >>= named_by s n)
  named_goal s n = goal_of most r sub ls (peek_form most r sub ls (named_form s n)) (let d = var_fin n.0 in record {
    more = d.more;
    x = go (with_last s d.x);
    good = (tt, λ _ h. h);
    opens = λ z cl. tt;
    ends = λ z cl. ap (λ q. R (named_by s n q) (d.more ++ z)) (d.opens z tt).1 ∙ bind_is (sub (var_of n.0) (d.more ++ z)) _ d.x z _ (d.ends z tt) refl;
  })

  var_peeks : (s : Vars) (b : Bool) → Peeks most r sub ls IsEnd InnerTurned (done (stop s)) (choose_var s b)
  var_peeks s true = reads (then_form most r sub ls (form_of most r sub ls {k = a_var} vars) (λ x g. pure_goal most r sub ls {Q = InnerTurned} {x = go (with_last s x)} (tt, λ _ h. h) (λ _ _. tt)))
  var_peeks s false = stops (λ i. refl)

  inner_peeks : (s : Vars) (q : Option Lexeme) → Peeks most r sub ls IsEnd InnerTurned (done (stop s)) (inner_by s q)
  inner_peeks s (Some (lexeme.Name k)) = reads (then_form most r sub ls (known_name_form most r sub ls) (λ n _. named_goal s n))
  inner_peeks s q = var_peeks s (starts_type q)

  inner_ends : (s : Vars) (q : Option Lexeme) (i : List Tok) → IsEnd q → R (inner_by s q) i ≡ Ok (done (stop s), i)
  inner_ends s q i h = rw h refl

  inner_goal : G IsEnd IsEnd LowStmts inner
  unfolding inner
  inner_goal = peek_loop_goal most r sub ls IsEnd LowStmts AnyAnswer inner_by stop nothing_low (λ s _ q. inner_peeks s q) (λ s q i h. inner_ends s q i h) some ([], 0) tt

  -- ---- its statements

  end_turn : (n : ℕ) → 1 ≤ n → (s : WithHeight (List StmtTree)) (z : List Tok) → turns n (λ s2. R (until_step (f.Word w.End) (call a_stmt) s2)) s (tok (lexeme.Word w.End) ∷ z) ≡ Ok (s, z)
  unfolding until_step
  end_turn zero h s z = absurd (omega arith)
  end_turn (suc n) h s z = bind_is (R (until_step (f.Word w.End) (call a_stmt) s) (tok (lexeme.Word w.End) ∷ z)) (turned (turns n (λ s2. R (until_step (f.Word w.End) (call a_stmt) s2)))) (done s) z _
      (led_yes most r sub (f.Word w.End) (pure (done s)) (bind (call a_stmt) (λ x. pure (go (with_last s x)))) (tok (lexeme.Word w.End)) z refl) refl

  stmts_goal : (s : WithHeight (List StmtTree)) → Low r s → G IsEnd AnyToken (Low r) (stmts_on s)
  unfolding stmts_on
  stmts_goal s low = let v = until_on_goal most r sub ls some r AnyToken (f.Word w.End) tt (call a_stmt) (weaken_form most r sub ls (form_of most r sub ls {k = a_stmt} stmts) (λ x g. g.1)) s low in record {
    alive = record {
      fin = record {
        more = tok (lexeme.Word w.End) ∷ [];
        x = s;
        good = low;
        opens = λ z cl. refl;
        ends = λ z cl. end_turn most some s z;
      };
      later = v.alive.later;
    };
    settles = v.settles;
    heads = λ i y j lim h. inl (takes_end s i y j h);
  }

  -- ---- the whole

  pub unit_goal : G StartsUnit NotColon AnyAnswer unit
  unfolding unit same_mark
  unit_goal =
      then_goal most r sub ls kind_goal (λ k _.
      then_goal most r sub ls (name_goal most r sub ls tt) (λ n _.
      then_goal most r sub ls (any_goal most r sub ls (parens_goal most r sub ls some NotOpen (λ _ h. h))) (λ p _.
      then_goal most r sub ls (goal_expect most r sub ls {D = NotOpen} (f.Mark m.Semicolon) refl) (λ _ _.
      then_goal most r sub ls (until_goal most r sub ls some r AnyToken (f.Word w.Initial) tt (call a_var) (form_of most r sub ls {k = a_var} vars)) (λ outer _.
      then_goal most r sub ls (goal_expect most r sub ls (f.Word w.Begin) tt) (λ _ _.
      then_goal most r sub ls (any_goal most r sub ls inner_goal) (λ i low.
      then_goal most r sub ls (stmts_goal i.1 low) (λ ss _.
      then_goal most r sub ls (goal_expect most r sub ls (f.Word (last_word k)) tt) (λ _ _.
      then_goal most r sub ls (any_goal most r sub ls (name_behind_goal most r sub ls some NotColon (f.Mark m.Colon) (λ _ h. h))) (λ l _. pure_goal most r sub ls tt (λ _ h. h)))))))))))
