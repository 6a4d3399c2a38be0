-- What is read of a call of `randomize` is what the grammar has there.
use Rattle.std.proofs.Common.{◌≡◌, ℕ, ◌≤◌, List, [], ◌∷◌, ◌++◌, Option, Some, None, Ok, refl, subst, arith, append_assoc}
use Rattle.svr_token.specs.declared.Lexeme.{Lexeme}
use Rattle.svr_token.specs.declared.Lexeme.TheVariants as lexeme
use Rattle.svr_token.specs.declared.Word.TheVariants as w
use Rattle.svr_token.specs.declared.Mark.TheVariants as m
use Rattle.svr_token.specs.declared.NameKind.{NameKind}
use Rattle.svr_token.specs.declared.NameKind.TheVariants as name_kind
use Rattle.svr_tree.specs.declared.stmt.RandomizeArgs.{RandomizeArgs}
use Rattle.svr_tree.specs.declared.stmt.RandomizeArgs.TheVariants as args
use Rattle.svr_tree.specs.Tokens.{Tok, Name, FitEach, mark, word, OneOrMore}
use Rattle.svr_tree.specs.ExprTree.{ExprTree}
use Rattle.svr_tree.specs.ExprGrammar.{expr_spelling}
use Rattle.svr_tree.specs.ItemGrammar.{IsPath}
use Rattle.svr_tree.specs.StmtTree.{RandomizeTree, StmtTree}
use Rattle.svr_tree.specs.StmtGrammar.{method, args_spelling, with_spelling, randomize_spelling, AreArgs, IsWith, IsRandomize, with_height, randomize_height}
use Rattle.svr_reader.specs.Outcomes.{Parser, lexeme_at}
use Rattle.svr_reader.specs.declared.fixed.Fixed.TheVariants as f
use Rattle.svr_reader.specs.Program.{run, expect}
use Rattle.svr_reader.specs.Lists.{WithHeight, listing, name}
use Rattle.svr_reader.proofs.Steps.{bind_ok, yields, takes_append, expect_ok, led_ok, name_sound}
use Rattle.svr_reader.proofs.Layers.{ReadAs, IsSound}
use Rattle.svr_reader.proofs.Lists.{listing_sound}
use Rattle.svr_item.specs.ItemRules.{set_items}
use Rattle.svr_expr.specs.ExprRules.{a_known_path, owner}
use Rattle.svr_expr_laws.proofs.Names.{KnownPath}
use Rattle.svr_expr_laws.proofs.Sound.{a_known_path_sound}
use Rattle.svr_stmt.specs.declared.method.Method.{Method}
use Rattle.svr_stmt.specs.declared.method.Method.TheVariants as built
use Rattle.svr_stmt.specs.StmtRules.{Rule, path_method, argument, call_arguments_by, call_arguments, in_line, randomize_end, randomize_given, randomize_on, whole_by, whole_call, part}
use Rattle.svr_stmt_laws.proofs.Sets.{SetLaws, set_spelling}
use Rattle.svr_stmt_laws.proofs.Trees.{path_high, grow_method}
use Rattle.svr_stmt_laws.proofs.Methods.{dot_name, OwnerRead, owner_read}

abbrev pub AnyName : ℕ → Type 0
AnyName n = Unit {0}

pub are_args : (ns : List ℕ) → OneOrMore AnyName ns → AreArgs (args.Names ns)
are_args [] h = absurd h
are_args (n ∷ ns) h = tt

-- from i0 on stand a path and `.randomize(`
abbrev pub CallOpens : List Tok → ExprTree → List Tok → Type 0
CallOpens i0 p i = FitEach i0 (expr_spelling (owner p) ++ method name_kind.Randomize []) i × IsPath (owner p)

pub call_opens : (i0 : List Tok) (p : ExprTree) (mid i : List Tok) → OwnerRead i0 p name_kind.Randomize mid → FitEach mid (mark m.OpenParen ∷ []) i → CallOpens i0 p i
call_opens i0 p mid i d h = (opened i0 p name_kind.Randomize mid i d h, d.is)
  where
    opened : (i0 : List Tok) (p : ExprTree) (k : NameKind) (mid i : List Tok) → OwnerRead i0 p k mid → FitEach mid (mark m.OpenParen ∷ []) i → FitEach i0 (expr_spelling (owner p) ++ method k []) i
    opened i0 p k mid i d h = subst (λ es. FitEach i0 es i) (append_assoc (expr_spelling (owner p)) (dot_name k) (mark m.OpenParen ∷ [])) (takes_append i0 (expr_spelling (owner p) ++ dot_name k) (mark m.OpenParen ∷ []) mid i d.takes h)

module _ (sets : SetLaws) (most r : ℕ) (below : Parser (WithHeight StmtTree)) where
  abbrev R : {A : Type 0} → Rule A → Parser A
  R p = run most r (part most r below) p

  abbrev CallRead : List Tok → WithHeight RandomizeTree → List Tok → Type 0
  CallRead i x j = ReadAs randomize_spelling IsRandomize randomize_height r i x j

  -- ---- arguments

  argument_sound : IsSound (λ n. Name n ∷ []) AnyName (λ _. 0) r (R argument)
  unfolding argument
  argument_sound = record {
    at = λ i x j h. bind_ok (R name i) _ (x, j) h (λ n mid e g.
        yields (ReadAs (λ n2. Name n2 ∷ []) AnyName (λ _. 0) r i) _ _ (x, j) g (record { takes = name_sound most r (part most r below) i n mid e; is = tt; height = refl; low = omega arith }));
  }

  abbrev ArgsRead : List Tok → RandomizeArgs → List Tok → Type 0
  ArgsRead i a j = FitEach i (args_spelling a) j × AreArgs a

  call_arguments_by_sound : (q : Option Lexeme) (i : List Tok) (y : RandomizeArgs × List Tok) → lexeme_at i ≡ q → R (call_arguments_by q) i ≡ Ok y → ArgsRead i y.0 y.1
  call_arguments_by_sound (Some (lexeme.Word w.Null)) [] y e h = absurd (cc)
  call_arguments_by_sound (Some (lexeme.Word w.Null)) (t ∷ i) y e h = let is : t.lexeme ≡ lexeme.Word w.Null = cc in yields (ArgsRead (t ∷ i)) args.Null i y h ((is, refl), tt)
  call_arguments_by_sound _ i y e h = bind_ok (R (listing argument) i) _ y h (λ ns j e2 g.
      let d = (listing_sound most r (part most r below) argument (λ n. Name n ∷ []) AnyName (λ _. 0) argument_sound).at i ns j e2 in
      yields (ArgsRead i) (args.Names ns.0) j y g (d.takes, are_args ns.0 d.is))

  call_arguments_sound : (i : List Tok) (a : RandomizeArgs) (j : List Tok) → R call_arguments i ≡ Ok (a, j) → ArgsRead i a j
  unfolding call_arguments
  call_arguments_sound i a j h = call_arguments_by_sound (lexeme_at i) i (a, j) refl h

  -- ---- an in-line set

  in_line_sound : IsSound with_spelling IsWith with_height r (R in_line)
  unfolding in_line
  in_line_sound = record {
    at = λ i x j h. led_ok most r (part most r below) (f.Word w.With) _ _ i (x, j) h
        (λ mid t g. bind_ok (R (expect (f.Mark m.OpenBrace)) mid) _ (x, j) g (λ u j2 e g2. bind_ok (set_items most r j2) _ (x, j) g2 (λ is j3 e2 g3.
        let d = (sets.sound most r).at j2 is j3 e2 in
        yields (ReadAs with_spelling IsWith with_height r i) _ _ (x, j) g3 (record {
          takes = takes_append i (word w.With ∷ []) (mark m.OpenBrace ∷ set_spelling is.0) mid j3 t (takes_append mid (mark m.OpenBrace ∷ []) (set_spelling is.0) j2 j3 (expect_ok most r (part most r below) (f.Mark m.OpenBrace) mid (u, j2) e) d.takes);
          is = d.is;
          height = d.height;
          low = d.low;
        }))))
        (λ _ g. yields (ReadAs with_spelling IsWith with_height r i) _ _ (x, j) g (record { takes = refl; is = tt; height = refl; low = omega arith }));
  }

  -- ---- calls, behind `path.randomize(`

  pub randomize_end_sound : (i0 : List Tok) (p : ExprTree) (list : RandomizeArgs) (mid i : List Tok) (y : WithHeight RandomizeTree × List Tok) → 1 ≤ r → IsPath (owner p) → AreArgs list
      → FitEach i0 (expr_spelling (owner p) ++ method name_kind.Randomize (args_spelling list)) mid → FitEach mid (mark m.CloseParen ∷ []) i → R (randomize_end p list) i ≡ Ok y → CallRead i0 y.0 y.1
  unfolding randomize_end
  randomize_end_sound i0 p list mid i y fits is are before close h = bind_ok (R in_line i) _ y h (λ items j e g.
      let d = in_line_sound.at i items j e in
      let high = path_high (owner p) is in
      yields (CallRead i0) _ _ y g (record {
        takes = grow_method (expr_spelling (owner p)) name_kind.Randomize (args_spelling list) (mark m.CloseParen ∷ with_spelling items.0) i0 mid j before (takes_append mid (mark m.CloseParen ∷ []) (with_spelling items.0) i j close d.takes);
        is = (is, are, d.is);
        height = omega (arith, d.height, high);
        low = omega (arith, fits, d.low);
      }))

  pub randomize_given_sound : (i0 : List Tok) (p : ExprTree) (i : List Tok) (y : WithHeight RandomizeTree × List Tok) → 1 ≤ r → CallOpens i0 p i → R (randomize_given p) i ≡ Ok y → CallRead i0 y.0 y.1
  unfolding randomize_given
  randomize_given_sound i0 p i y fits o h = bind_ok (R call_arguments i) _ y h (λ list mid e g. bind_ok (R (expect (f.Mark m.CloseParen)) mid) _ y g (λ u j e2 g2.
      let d = call_arguments_sound i list mid e in
      randomize_end_sound i0 p list mid j y fits o.1 d.1 (grow_method (expr_spelling (owner p)) name_kind.Randomize [] (args_spelling list) i0 i mid o.0 d.0) (expect_ok most r (part most r below) (f.Mark m.CloseParen) mid (u, j) e2) g2))

  pub randomize_on_sound : (i0 : List Tok) (p : ExprTree) (i : List Tok) (y : WithHeight RandomizeTree × List Tok) → 1 ≤ r → CallOpens i0 p i → R (randomize_on p) i ≡ Ok y → CallRead i0 y.0 y.1
  unfolding randomize_on
  randomize_on_sound i0 p i y fits o h = led_ok most r (part most r below) (f.Mark m.CloseParen) _ _ i y h
      (λ mid t g. randomize_end_sound i0 p args.Empty i mid y fits o.1 tt o.0 t g)
      (λ _ g. randomize_given_sound i0 p i y fits o g)

  whole_by_sound : (i0 : List Tok) (p : ExprTree × NameKind) (mid : List Tok) (o : Option Method) (y : WithHeight RandomizeTree × List Tok) → 1 ≤ r → KnownPath i0 p mid → path_method p ≡ o → R (whole_by p.0 o) mid ≡ Ok y → CallRead i0 y.0 y.1
  whole_by_sound i0 p mid (Some built.Randomize) y fits d e h = bind_ok (R (expect (f.Mark m.OpenParen)) mid) _ y h (λ u i e2 g.
      randomize_on_sound i0 p.0 i y fits (call_opens i0 p.0 mid i (owner_read i0 p built.Randomize mid d e) (expect_ok most r (part most r below) (f.Mark m.OpenParen) mid (u, i) e2)) g)
  whole_by_sound i0 p mid (Some (built.Mode k)) y fits d e h = absurd (cc)
  whole_by_sound i0 p mid None y fits d e h = absurd (cc)

  pub whole_call_sound : IsSound randomize_spelling IsRandomize randomize_height r (R whole_call)
  unfolding whole_call
  whole_call_sound = record {
    at = λ i x j h. bind_ok (a_known_path most r i) _ (x, j) h (λ p mid e g. let d = a_known_path_sound most r i p mid e in whole_by_sound i p mid (path_method p) (x, j) d.1 d.0 refl g);
  }
