-- Where the reading of a type fails, what was read so far can be completed.
use Rattle.std.proofs.Common.{◌≡◌, ℕ, ◌≤◌, Bool, true, false, List, [], ◌∷◌, Option, Some, None, Ok, refl, arith}
use Rattle.svr_token.specs.declared.Lexeme.{Lexeme}
use Rattle.svr_token.specs.declared.Lexeme.TheVariants as lexeme
use Rattle.svr_token.specs.declared.Word.TheVariants as w
use Rattle.svr_token.specs.declared.Mark.TheVariants as m
use Rattle.svr_token.specs.declared.NameKind.TheVariants as name_kind
use Rattle.svr_tree.specs.declared.decl.VectorKind.{VectorKind}
use Rattle.svr_tree.specs.declared.decl.VectorKind.TheVariants as vector_kind
use Rattle.svr_tree.specs.declared.decl.AtomKind.{AtomKind}
use Rattle.svr_tree.specs.declared.decl.AtomKind.TheVariants as atom_kind
use Rattle.svr_tree.specs.Tokens.{Tok}
use Rattle.svr_tree.specs.ExprTree.{ExprTree}
use Rattle.svr_tree.specs.DeclTree.{IntegerTypeTree, atom, named}
use Rattle.svr_reader.specs.Outcomes.{Parser, lexeme_at}
use Rattle.svr_reader.specs.declared.fixed.Fixed.TheVariants as f
use Rattle.svr_reader.specs.Program.{pure, bind, call, run}
use Rattle.svr_reader.specs.Lists.{WithHeight, choose, name}
use Rattle.svr_reader.proofs.Steps.{bind_is, choose_false, name_complete}
use Rattle.svr_reader.proofs.Local.{IsLocal}
use Rattle.svr_reader.proofs.Live.{AnyToken}
use Rattle.svr_reader.proofs.Goals.{Goal, Form, then_goal, then_form, goal_of, pure_goal, take_form, peek_form, refuse_form, any_goal}
use Rattle.svr_reader.proofs.Led.{AnyAnswer, tok, goal_expect, opt_goal, a_name, name_form, name_tok}
use Rattle.svr_reader.proofs.LivePeeks.{Peeks, reads, stops, peek_goal}
use Rattle.svr_reader.proofs.Layers.{Low}
use Rattle.svr_expr_laws.proofs.LiveParts.{Closes}
use Rattle.svr_decl.specs.DeclRules.{Part, an_expression, Ans, Rule, signing_by, signing, packed_on, packed_by, packed, vector_type, atom_type, integer_type_by, integer_type, starts_type, written_type, named_type, data_type_by, data_type, initial, written_base, enum_base}
use Rattle.svr_decl_laws.proofs.Before.{is_sign, AfterType, AfterBase, EndsInitial}
use Rattle.svr_decl_laws.proofs.CompleteTypes.{no_sign, signing_stops, packed_stops}

module _ (most r : ℕ) (sub : (k : Part) → Parser (Ans k)) (ls : (k : Part) → IsLocal (sub k)) (some : 1 ≤ most) (any : (D : Option Lexeme → Type 0) → D a_name → Goal most r sub ls D Closes (Low r) (call an_expression)) where
  abbrev R : {X : Type 0} → Rule X → Parser X
  R p = run most r sub p

  abbrev G : {X : Type 0} → (D C : Option Lexeme → Type 0) → (X → Type 0) → Rule X → Type 0
  G D C Q q = Goal most r sub ls D C Q q

  abbrev F : {X : Type 0} → (C : Option Lexeme → Type 0) → (X → Type 0) → Rule X → Type 0
  F C Q q = Form most r sub ls C Q q

  -- ---- signs and ranges

  sign_peeks : (C : Option Lexeme → Type 0) (q : Option Lexeme) → Peeks most r sub ls C AnyAnswer None (signing_by q)
  sign_peeks C (Some (lexeme.Word w.Signed)) = reads (take_form most r sub ls (λ _. pure_goal most r sub ls tt (λ _ _. tt)))
  sign_peeks C (Some (lexeme.Word w.Unsigned)) = reads (take_form most r sub ls (λ _. pure_goal most r sub ls tt (λ _ _. tt)))
  sign_peeks C _ = stops (λ i. refl)

  signing_goal : G AfterType AfterType AnyAnswer signing
  unfolding signing
  signing_goal = peek_goal most r sub ls AfterType AnyAnswer None tt signing_by (sign_peeks AfterType) (λ q i c. signing_stops most r sub q i (no_sign q c))

  packed_on_goal : (at : ℕ) → G AnyToken AfterType (Low r) (packed_on at)
  unfolding packed_on
  packed_on_goal at = then_goal most r sub ls (any AnyToken tt) (λ a g. then_goal most r sub ls (goal_expect most r sub ls (f.Mark m.Colon) refl) (λ _ _.
      then_goal most r sub ls (any AnyToken tt) (λ b g2. then_goal most r sub ls (goal_expect most r sub ls (f.Mark m.CloseBracket) refl) (λ _ _. pure_goal most r sub ls (omega (arith, g, g2)) (λ _ _. tt)))))

  packed_peeks : (q : Option Lexeme) → Peeks most r sub ls AfterType (Low r) (None, 0) (packed_by q)
  packed_peeks (Some (lexeme.Mark m.OpenBracket)) = reads (take_form most r sub ls packed_on_goal)
  packed_peeks _ = stops (λ i. refl)

  packed_goal : G AfterType AfterType (Low r) packed
  unfolding packed
  packed_goal = peek_goal most r sub ls AfterType (Low r) (None, 0) (omega arith) packed_by packed_peeks (λ q i c. packed_stops most r sub q i c)

  -- ---- types

  vector_form : (k : VectorKind) → F AfterType (Low r) (vector_type k)
  unfolding vector_type
  vector_form k = take_form most r sub ls (λ at. then_goal most r sub ls (any_goal most r sub ls signing_goal) (λ s _. then_goal most r sub ls packed_goal (λ p g. pure_goal most r sub ls g (λ _ h. h))))

  atom_form : (k : AtomKind) → F AfterType (Low r) (atom_type k)
  unfolding atom_type
  atom_form k = take_form most r sub ls (λ at. then_goal most r sub ls (any_goal most r sub ls signing_goal) (λ s _. pure_goal most r sub ls (omega arith) (λ _ h. h)))

  integer_by_form : (q : Option Lexeme) → F AfterType (Low r) (integer_type_by q)
  integer_by_form (Some (lexeme.Word w.Bit)) = vector_form vector_kind.Bit
  integer_by_form (Some (lexeme.Word w.Logic)) = vector_form vector_kind.Logic
  integer_by_form (Some (lexeme.Word w.Reg)) = vector_form vector_kind.Reg
  integer_by_form (Some (lexeme.Word w.Byte)) = atom_form atom_kind.Byte
  integer_by_form (Some (lexeme.Word w.ShortInt)) = atom_form atom_kind.ShortInt
  integer_by_form (Some (lexeme.Word w.Int)) = atom_form atom_kind.Int
  integer_by_form (Some (lexeme.Word w.LongInt)) = atom_form atom_kind.LongInt
  integer_by_form (Some (lexeme.Word w.Integer)) = atom_form atom_kind.Integer
  integer_by_form _ = refuse_form most r sub ls

  pub integer_form : F AfterType (Low r) integer_type
  unfolding integer_type
  integer_form = peek_form most r sub ls integer_by_form

  int_read : (z : List Tok) → is_sign (lexeme_at z) ≡ false → R integer_type (tok (lexeme.Word w.Int) ∷ z) ≡ Ok ((atom 0 atom_kind.Int None, 0), z)
  unfolding integer_type atom_type signing
  int_read z c = bind_is (R signing z) _ None z _ (signing_stops most r sub (lexeme_at z) z c) refl

  pub integer_goal : {D : Option Lexeme → Type 0} → D (Some (lexeme.Word w.Int)) → G D AfterType (Low r) integer_type
  integer_goal d = goal_of most r sub ls integer_form (record { more = tok (lexeme.Word w.Int) ∷ []; x = (atom 0 atom_kind.Int None, 0); good = omega arith; opens = λ z cl. d; ends = λ z cl. int_read z (no_sign (lexeme_at z) cl) })

  named_form : F AfterType (Low r) named_type
  unfolding named_type
  named_form = then_form most r sub ls (name_form most r sub ls) (λ n _. pure_goal most r sub ls (omega arith) (λ _ _. tt))

  written_form : F AfterType (Low r) written_type
  unfolding written_type
  written_form = then_form most r sub ls integer_form (λ t g. pure_goal most r sub ls g (λ _ h. h))

  type_by_form : (q : Option Lexeme) → F AfterType (Low r) (data_type_by q)
  type_by_form (Some (lexeme.Name k)) = named_form
  type_by_form _ = written_form

  pub type_form : F AfterType (Low r) data_type
  unfolding data_type
  type_form = peek_form most r sub ls type_by_form

  name_type_read : (z : List Tok) → R data_type (name_tok ∷ z) ≡ Ok ((named 0, 0), z)
  unfolding data_type named_type
  name_type_read z = bind_is (R name (name_tok ∷ z)) _ 0 z _ (name_complete most r sub 0 (name_tok ∷ z) z ((refl, record { kind = name_kind.Plain; is = refl }), refl)) refl

  pub type_goal : {D : Option Lexeme → Type 0} → D a_name → G D AfterType (Low r) data_type
  type_goal d = goal_of most r sub ls type_form (record { more = name_tok ∷ []; x = (named 0, 0); good = omega arith; opens = λ z cl. d; ends = λ z cl. name_type_read z })

  -- ---- what may be left out

  abbrev written_value : Rule (WithHeight (Option ExprTree))
  written_value = bind (call an_expression) (λ e. pure (Some e.0, e.1))

  pub initial_goal : G EndsInitial EndsInitial (Low r) initial
  unfolding initial
  initial_goal = opt_goal most r sub ls (f.Mark m.Assign) written_value (None, 0) EndsInitial (Low r) (λ q c. c.1) (then_goal most r sub ls (any AnyToken tt) (λ e g. pure_goal most r sub ls g (λ q h. h.0))) (omega arith)

  base_form : F AfterBase (Low r) written_base
  unfolding written_base
  base_form = then_form most r sub ls integer_form (λ t g. pure_goal most r sub ls g (λ q h. h.0))

  abbrev base_by : Option Lexeme → Rule (WithHeight (Option IntegerTypeTree))
  base_by l = choose (starts_type l) written_base (pure (None, 0))

  base_peeks : (b : Bool) → Peeks most r sub ls AfterBase (Low r) (None, 0) (choose b written_base (pure (None, 0)))
  base_peeks true = reads base_form
  base_peeks false = stops (λ i. refl)

  pub base_goal : G AfterBase AfterBase (Low r) enum_base
  unfolding enum_base
  base_goal = peek_goal most r sub ls AfterBase (Low r) (None, 0) (omega arith) base_by (λ q. base_peeks (starts_type q)) (λ q i c. choose_false most r sub (starts_type q) _ _ i c.1)
