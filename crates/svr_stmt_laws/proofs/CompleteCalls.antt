-- What the grammar has as a call of `randomize` is read.
use Rattle.std.proofs.Common.{◌≡◌, ℕ, ◌+◌, ◌≤◌, max, true, false, List, [], ◌∷◌, ◌++◌, length, Option, Some, None, Ok, refl, sym, ◌∙◌, ap, subst, arith, append_assoc}
use Rattle.svr_token.specs.declared.Lexeme.{Lexeme}
use Rattle.svr_token.specs.declared.Word.TheVariants as w
use Rattle.svr_token.specs.declared.Mark.TheVariants as m
use Rattle.svr_token.specs.declared.NameKind.{NameKind}
use Rattle.svr_tree.specs.declared.stmt.RandomizeArgs.{RandomizeArgs}
use Rattle.svr_tree.specs.declared.stmt.RandomizeArgs.TheVariants as args
use Rattle.svr_tree.specs.Tokens.{Tok, Entry, Name, FitEach, mark, word, Each}
use Rattle.svr_tree.specs.DeclGrammar.{greatest}
use Rattle.svr_tree.specs.ExprTree.{ExprTree, path}
use Rattle.svr_tree.specs.ExprGrammar.{expr_spelling, start, is_selectable}
use Rattle.svr_tree.specs.ItemTree.{ItemTree, ItemTrees, items_of}
use Rattle.svr_tree.specs.ItemGrammar.{IsPath, items_height, AreItems}
use Rattle.svr_tree.specs.StmtTree.{RandomizeTree, StmtTree}
use Rattle.svr_tree.specs.StmtGrammar.{method, args_spelling, with_spelling, randomize_spelling, AreArgs, IsWith, IsRandomize, with_height, randomize_height}
use Rattle.svr_reader.specs.Outcomes.{Outcome, Parser, lexeme_at, number_at}
use Rattle.svr_reader.specs.declared.fixed.Fixed.TheVariants as f
use Rattle.svr_reader.specs.Program.{pure, run, expect}
use Rattle.svr_reader.specs.Steps.{same_mark, is_fixed, sees}
use Rattle.svr_reader.specs.Lists.{◌>>◌, ◌>>=◌, WithHeight, listing, name}
use Rattle.svr_reader.proofs.Steps.{bind_is, takes_parts, takes_less, expects, led_takes, led_no, name_complete}
use Rattle.svr_reader.proofs.Live.{AnyToken}
use Rattle.svr_reader.proofs.Layers.{IsComplete}
use Rattle.svr_reader.proofs.Lists.{listing_complete}
use Rattle.svr_item.specs.ItemRules.{set_items}
use Rattle.svr_expr.specs.ExprRules.{a_known_path, path_starts, owner}
use Rattle.svr_expr_laws.proofs.Trees.{begins}
use Rattle.svr_expr_laws.proofs.CompleteParts.{sees_none, selectable_first}
use Rattle.svr_expr_laws.proofs.Nodes.{a_known_path_complete}
use Rattle.svr_stmt.specs.declared.method.Method.{Method}
use Rattle.svr_stmt.specs.declared.method.Method.TheVariants as built
use Rattle.svr_stmt.specs.StmtRules.{Rule, path_method, argument, call_arguments_by, call_arguments, in_line, randomize_end, randomize_given, randomize_on, whole_by, whole_call, part}
use Rattle.svr_stmt_laws.proofs.Sets.{SetLaws, set_spelling}
use Rattle.svr_stmt_laws.proofs.Trees.{list_of_items, items_list_is, path_high}
use Rattle.svr_stmt_laws.proofs.Methods.{dot_name, method_name, method_is, with_method}
use Rattle.svr_stmt_laws.proofs.SoundCalls.{AnyName}

-- tokens before which a call ends
abbrev pub NotWith : Option Lexeme → Type 0
NotWith q = is_fixed (f.Word w.With) q ≡ false

abbrev pub NotComma : Option Lexeme → Type 0
NotComma q = is_fixed (f.Mark m.Comma) q ≡ false

names_low : (ns : List ℕ) → greatest (λ n. 0) ns ≡ 0
names_low [] = refl
names_low (n ∷ ns) = let rest = names_low ns in omega (arith, rest)

-- ---- the path of a call of a method

-- it was read with the name of the method, which is left off
pub record PathBefore (most r : ℕ) (c : ExprTree) (e : Method) (i : List Tok) (es : List Entry) (rest : List Tok) : Type 0 where
  pub p : ExprTree × NameKind
  pub mid : List Tok
  pub known : a_known_path most r i ≡ Ok (p, mid)
  pub short : owner p.0 ≡ c
  pub ends : path_method p ≡ Some e
  pub behind : FitEach mid (mark m.OpenParen ∷ es) rest
  pub at : number_at i ≡ start c
  pub first : path_starts (lexeme_at i) ≡ true
  pub less : length mid ≤ length i

path_selectable : (c : ExprTree) → IsPath c → is_selectable c ≡ true
path_selectable (path at s ns false) l = refl
path_selectable _ l = absurd (let no = l.1 in cc)

pub path_before : (most r : ℕ) → 1 ≤ r → (c : ExprTree) (e : Method) (i : List Tok) (es : List Entry) (rest : List Tok) → length i ≤ most + length rest → IsPath c → FitEach i (expr_spelling c ++ method (method_name e) es) rest → PathBefore most r c e i es rest
unfolding same_mark
path_before most r fits c e i es rest few is h =
    let k = method_name e in
    let q = takes_parts i (expr_spelling c ++ dot_name k) (mark m.OpenParen ∷ es) rest (subst (λ v. FitEach i v rest) (sym (append_assoc (expr_spelling c) (dot_name k) (mark m.OpenParen ∷ es))) h) in
    let d = with_method c k i q.0 is q.1 in
    let b = takes_parts i (expr_spelling c) (dot_name k) q.0 q.1 in
    let z = takes_less q.0 (mark m.OpenParen ∷ es) rest q.2 in
    record {
      p = (path d.at d.scope (d.first ∷ (d.second ∷ d.others)) false, k);
      mid = q.0;
      known = a_known_path_complete most r fits d.at d.scope (d.first ∷ (d.second ∷ d.others)) k i q.0 (omega (arith, few, z)) d.good d.known (sees_none (f.Mark m.Dot) m.OpenParen refl q.0 rest es q.2);
      short = d.short;
      ends = method_is e;
      behind = q.2;
      at = (begins c i b.0 is.0 b.1).at;
      first = selectable_first c i b.0 is.0 (path_selectable c is) b.1;
      less = takes_less i (expr_spelling c ++ dot_name k) q.0 q.1;
    }

module _ (sets : SetLaws) (most r : ℕ) (roomy : r ≤ most) (below : Parser (WithHeight StmtTree)) where
  abbrev R : {A : Type 0} → Rule A → Parser A
  R p = run most r (part most r below) p

  -- ---- arguments

  argument_complete : IsComplete (λ n. Name n ∷ []) AnyName (λ _. 0) most r AnyToken (R argument)
  unfolding argument
  argument_complete = record { at = λ x i rest few is low h c. bind_is (R name i) _ x rest _ (name_complete most r (part most r below) x i rest h) refl }

  names_complete : (n : ℕ) (ns : List ℕ) (i rest : List Tok) → length i ≤ most + length rest → FitEach i (args_spelling (args.Names (n ∷ ns))) rest → NotComma (lexeme_at rest) → R (listing argument >>= (λ xs. pure (args.Names xs.0))) i ≡ Ok (args.Names (n ∷ ns), rest)
  names_complete n ns i rest few h c =
      let low = names_low (n ∷ ns) in
      let each : (xs : List ℕ) → Each AnyName xs = any in
      bind_is (R (listing argument) i) _ (n ∷ ns, greatest (λ _. 0) (n ∷ ns)) rest _
      ((listing_complete most r (part most r below) argument (λ x. Name x ∷ []) AnyName (λ _. 0) r AnyToken argument_complete (λ x l. omega arith) {C = NotComma} tt (λ q _. tt) (λ q l. l)).at (n ∷ ns) i rest few (tt, each ns) (omega (arith, low)) h c)
      refl
    where
      any : (xs : List ℕ) → Each AnyName xs
      any [] = tt
      any (x ∷ xs) = (tt, any xs)

  -- ---- an in-line set

  in_line_some : (xs : List ItemTree) (i rest : List Tok) → length i ≤ most + length rest → AreItems (items_of xs) → items_height (items_of xs) ≤ r → FitEach i (with_spelling (Some (items_of xs))) rest
      → R in_line i ≡ Ok ((Some (items_of xs), items_height (items_of xs)), rest)
  unfolding in_line
  in_line_some xs i rest few is low h =
      let a = takes_parts i (word w.With ∷ []) (mark m.OpenBrace ∷ set_spelling xs) rest h in
      let b = takes_parts a.0 (mark m.OpenBrace ∷ []) (set_spelling xs) rest a.2 in
      let a1 = takes_less i (word w.With ∷ []) a.0 a.1 in
      let b1 = takes_less a.0 (mark m.OpenBrace ∷ []) b.0 b.1 in
      led_takes most r (part most r below) (f.Word w.With) _ _ i a.0 a.1
      ∙ bind_is (R (expect (f.Mark m.OpenBrace)) a.0) _ tt b.0 _ (expects most r (part most r below) (f.Mark m.OpenBrace) a.0 b.0 b.1)
      (bind_is (set_items most r b.0) _ (xs, items_height (items_of xs)) rest _ ((sets.complete most r roomy).at xs b.0 rest (omega (arith, few, a1, b1)) is low b.2 tt) refl)

  in_line_complete : IsComplete with_spelling IsWith with_height most r NotWith (R in_line)
  unfolding in_line
  in_line_complete = record { at = by }
    where
      by : (x : Option ItemTrees) (i rest : List Tok) → length i ≤ most + length rest → IsWith x → with_height x ≤ r → FitEach i (with_spelling x) rest → NotWith (lexeme_at rest) → R in_line i ≡ Ok ((x, with_height x), rest)
      by None i rest few is low h c = led_no most r (part most r below) (f.Word w.With) _ _ i (ap (sees (f.Word w.With)) h ∙ c) ∙ ap (λ z. Ok ((None, 0), z)) h
      by (Some xs) i rest few is low h c =
          let back = sym (items_list_is xs) in
          subst (λ z. R in_line i ≡ Ok ((Some z, items_height z), rest)) (items_list_is xs)
          (in_line_some (list_of_items xs) i rest few (subst AreItems back is) (subst (λ z. items_height z ≤ r) back low) (subst (λ z. FitEach i (with_spelling (Some z)) rest) back h))

  -- ---- calls, behind `path.randomize(`

  -- what a call of this path is
  abbrev pub call_of : ExprTree → RandomizeArgs → Option ItemTrees → RandomizeTree
  call_of p list items = record { path = p; args = list; items = items }

  pub randomize_end_complete : (p : ExprTree) (list : RandomizeArgs) (items : Option ItemTrees) (i rest : List Tok) → length i ≤ most + length rest → IsWith items → with_height items ≤ r → FitEach i (with_spelling items) rest → NotWith (lexeme_at rest)
      → R (randomize_end p list) i ≡ Ok ((call_of (owner p) list items, max 1 (with_height items)), rest)
  unfolding randomize_end
  randomize_end_complete p list items i rest few is low h c = bind_is (R in_line i) _ (items, with_height items) rest _ (in_line_complete.at items i rest few is low h c) refl

  closed : (p : ExprTree) (list : RandomizeArgs) (items : Option ItemTrees) (i rest : List Tok) → length i ≤ most + length rest → IsWith items → with_height items ≤ r → FitEach i (mark m.CloseParen ∷ with_spelling items) rest → NotWith (lexeme_at rest)
      → R (expect (f.Mark m.CloseParen) >> randomize_end p list) i ≡ Ok ((call_of (owner p) list items, max 1 (with_height items)), rest)
  closed p list items i rest few is low h c =
      let a = takes_parts i (mark m.CloseParen ∷ []) (with_spelling items) rest h in
      let a1 = takes_less i (mark m.CloseParen ∷ []) a.0 a.1 in
      bind_is (R (expect (f.Mark m.CloseParen)) i) _ tt a.0 _ (expects most r (part most r below) (f.Mark m.CloseParen) i a.0 a.1)
      (randomize_end_complete p list items a.0 rest (omega (arith, few, a1)) is low a.2 c)

  pub randomize_given_complete : (p : ExprTree) (list : RandomizeArgs) (items : Option ItemTrees) (i rest : List Tok) → length i ≤ most + length rest → (list ≡ args.Empty → ⊥) → AreArgs list → IsWith items → with_height items ≤ r
      → FitEach i (args_spelling list ++ mark m.CloseParen ∷ with_spelling items) rest → NotWith (lexeme_at rest)
      → (sees (f.Mark m.CloseParen) i ≡ false) × (R (randomize_given p) i ≡ Ok ((call_of (owner p) list items, max 1 (with_height items)), rest))
  unfolding randomize_given call_arguments same_mark
  randomize_given_complete p args.Empty items i rest few some are is low h c = absurd (some refl)
  randomize_given_complete p args.Null items [] rest few some are is low h c = absurd h
  randomize_given_complete p args.Null items (t ∷ i) rest few some are is low h c = (
    ap (λ q. is_fixed (f.Mark m.CloseParen) (Some q)) h.0,
    bind_is (R call_arguments (t ∷ i)) _ args.Null i _ (ap (λ q. R (call_arguments_by (Some q)) (t ∷ i)) h.0) (closed p args.Null items i rest (omega (arith, few)) is low h.1 c),
  )
  randomize_given_complete p (args.Names []) items i rest few some are is low h c = absurd are
  randomize_given_complete p (args.Names (n ∷ ns)) items [] rest few some are is low h c = absurd h
  randomize_given_complete p (args.Names (n ∷ ns)) items (t ∷ i) rest few some are is low h c =
      let a = takes_parts (t ∷ i) (args_spelling (args.Names (n ∷ ns))) (mark m.CloseParen ∷ with_spelling items) rest h in
      let a1 = takes_less (t ∷ i) (args_spelling (args.Names (n ∷ ns))) a.0 a.1 in
      let z1 = takes_less a.0 (mark m.CloseParen ∷ with_spelling items) rest a.2 in (
        ap (λ q. is_fixed (f.Mark m.CloseParen) (Some q)) h.0.1.is,
        bind_is (R call_arguments (t ∷ i)) _ (args.Names (n ∷ ns)) a.0 _
            (ap (λ q. R (call_arguments_by (Some q)) (t ∷ i)) h.0.1.is ∙ names_complete n ns (t ∷ i) a.0 (omega (arith, few, z1)) a.1 (sees_none (f.Mark m.Comma) m.CloseParen refl a.0 rest (with_spelling items) a.2))
            (closed p (args.Names (n ∷ ns)) items a.0 rest (omega (arith, few, a1)) is low a.2 c),
      )

  pub randomize_by : (p : ExprTree) (list : RandomizeArgs) (items : Option ItemTrees) (i rest : List Tok) → length i ≤ most + length rest → AreArgs list → IsWith items → with_height items ≤ r
      → FitEach i (args_spelling list ++ mark m.CloseParen ∷ with_spelling items) rest → NotWith (lexeme_at rest) → R (randomize_on p) i ≡ Ok ((call_of (owner p) list items, max 1 (with_height items)), rest)
  unfolding randomize_on
  randomize_by p args.Empty items i rest few are is low h c =
      let a = takes_parts i (mark m.CloseParen ∷ []) (with_spelling items) rest h in
      let a1 = takes_less i (mark m.CloseParen ∷ []) a.0 a.1 in
      led_takes most r (part most r below) (f.Mark m.CloseParen) _ _ i a.0 a.1 ∙ randomize_end_complete p args.Empty items a.0 rest (omega (arith, few, a1)) is low a.2 c
  randomize_by p args.Null items i rest few are is low h c = let d = randomize_given_complete p args.Null items i rest few (λ e. absurd (cc)) are is low h c in
      led_no most r (part most r below) (f.Mark m.CloseParen) _ _ i d.0 ∙ d.1
  randomize_by p (args.Names ns) items i rest few are is low h c = let d = randomize_given_complete p (args.Names ns) items i rest few (λ e. absurd (cc)) are is low h c in
      led_no most r (part most r below) (f.Mark m.CloseParen) _ _ i d.0 ∙ d.1

  -- the call as a tree
  pub as_call : (p : ExprTree) (c : RandomizeTree) (rest : List Tok) → owner p ≡ c.path → IsPath c.path
      → ◌≡◌ {A = Outcome (WithHeight RandomizeTree)} (Ok ((call_of (owner p) c.args c.items, max 1 (with_height c.items)), rest)) (Ok ((c, randomize_height c), rest))
  as_call p c rest e is = ap (λ v. Ok ((call_of v c.args c.items, max 1 (with_height c.items)), rest)) e ∙ ap (λ v. Ok ((c, max v (with_height c.items)), rest)) (sym (path_high c.path is))

  pub randomize_on_complete : (p : ExprTree) (c : RandomizeTree) (i rest : List Tok) → length i ≤ most + length rest → owner p ≡ c.path → IsRandomize c → randomize_height c ≤ r
      → FitEach i (args_spelling c.args ++ mark m.CloseParen ∷ with_spelling c.items) rest → NotWith (lexeme_at rest) → R (randomize_on p) i ≡ Ok ((c, randomize_height c), rest)
  randomize_on_complete p c i rest few e is low h n = randomize_by p c.args c.items i rest few is.1 is.2 (omega (arith, low)) h n ∙ as_call p c rest e is.0

  pub whole_call_complete : IsComplete randomize_spelling IsRandomize randomize_height most r NotWith (R whole_call)
  unfolding whole_call
  whole_call_complete = record {
    at = λ c i rest few is low h n.
        let high = path_high c.path is.0 in
        let es = args_spelling c.args ++ mark m.CloseParen ∷ with_spelling c.items in
        let d = path_before most r (omega (arith, high, low)) c.path built.Randomize i es rest few is.0 h in
        let a = takes_parts d.mid (mark m.OpenParen ∷ []) es rest d.behind in
        let a1 = takes_less d.mid (mark m.OpenParen ∷ []) a.0 a.1 in
        let a2 = d.less in
        bind_is (a_known_path most r i) _ d.p d.mid _ d.known
        (ap (λ o. R (whole_by d.p.0 o) d.mid) d.ends
        ∙ bind_is (R (expect (f.Mark m.OpenParen)) d.mid) _ tt a.0 _ (expects most r (part most r below) (f.Mark m.OpenParen) d.mid a.0 a.1)
        (randomize_on_complete d.p.0 c a.0 rest (omega (arith, few, a1, a2)) d.short is low a.2 n));
  }
