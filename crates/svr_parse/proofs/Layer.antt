-- The parser of scripts has all laws that the exact place of a fault asks for.
use Rattle.std.proofs.Common.{◌≡◌, ℕ, ◌+◌, ◌<◌, ◌≤◌, false, List, [], ◌∷◌, ◌++◌, length, Option, Some, None, Ok, inl, inr, refl, sym, ◌∙◌, ap, subst, arith, length-append}
use Rattle.svr_token.specs.declared.Lexeme.{Lexeme}
use Rattle.svr_token.specs.declared.Lexeme.TheVariants as lexeme
use Rattle.svr_token.specs.declared.Word.TheVariants as w
use Rattle.svr_token.specs.declared.Mark.TheVariants as m
use Rattle.svr_token.specs.declared.NameKind.{NameKind}
use Rattle.svr_token.specs.declared.NameKind.TheVariants as name_kind
use Rattle.svr_tree.specs.declared.script.UnitKind.TheVariants as unit_kind
use Rattle.svr_tree.specs.Tokens as tokens
use Rattle.svr_tree.specs.Tokens.{Tok, FitEach, word}
use Rattle.svr_tree.specs.DeclTree.{VarTree, named}
use Rattle.svr_tree.specs.StmtTree.{StmtTree}
use Rattle.svr_tree.specs.ScriptTree.{ScriptTree}
use Rattle.svr_tree.specs.DeclGrammar.{var_spelling, IsVar, var_height}
use Rattle.svr_tree.specs.StmtGrammar.{stmt_spelling}
use Rattle.svr_tree.specs.ScriptGrammar.{spelling, tops_spelling, unit_spelling, IsLevelled, height}
use Rattle.svr_tree.specs.Reading.{IsReading}
use Rattle.svr_reader.specs.Program.{run}
use Rattle.svr_reader.specs.Lists.{WithHeight}
use Rattle.svr_reader.specs.Fronts.{IsFront}
use Rattle.svr_reader.proofs.Steps.{takes_length}
use Rattle.svr_reader.proofs.Local.{IsLocal, local_run}
use Rattle.svr_reader.proofs.Growth.{Grown, grows_run}
use Rattle.svr_reader.proofs.Live.{AnyToken}
use Rattle.svr_reader.proofs.Goals.{Goal, then_goal, pure_goal}
use Rattle.svr_reader.proofs.Led.{AnyAnswer, tok}
use Rattle.svr_reader.proofs.Layers.{IsSound, IsViable, IsGrowing}
use Rattle.svr_reader.proofs.Layers as layers
use Rattle.svr_reader.proofs.Places.{IsParser}
use Rattle.svr_decl.specs.DeclRules.{var_on}
use Rattle.svr_decl_laws.proofs.Firsts.{var_named}
use Rattle.svr_decl_laws.proofs.Growth.{grows_typedef, grows_class, grows_var, grows_var_on}
use Rattle.svr_decl_laws.proofs.Layer.{typedef_sound, class_sound, var_sound, var_on_sound, typedef_complete, class_complete, var_complete, var_on_complete, live_typedef, live_class, live_var, live_var_on, var_on_open}
use Rattle.svr_stmt.specs.StmtRules.{stmt_on}
use Rattle.svr_stmt_laws.proofs.Layer.{grows_stmt, stmt_sound, stmt_complete, live_stmt, grows_stmt_on, stmt_on_sound, stmt_on_complete, stmt_on_open}
use Rattle.svr_parse.proofs.Local.{local_part}
use Rattle.svr_parse.specs.ScriptRules.{Part, a_typedef, a_class, a_var, a_stmt, var_of, stmt_of, part, script_in, stmts_on, script}
use Rattle.svr_parse.proofs.Begins.{VarBegins, by_word, by_name, var_begins}
use Rattle.svr_parse.proofs.BeginsStmt.{first_stmt, second_stmt, stmt_fills}
use Rattle.svr_parse.proofs.SoundUnit.{BehindToken, stmts_on_sound}
use Rattle.svr_parse.proofs.SoundScript.{script_sound}
use Rattle.svr_parse.proofs.CompleteTops.{NotColon}
use Rattle.svr_parse.proofs.CompleteUnit.{ReadsBehind}
use Rattle.svr_parse.proofs.CompleteScript.{script_complete}
use Rattle.svr_parse.proofs.LiveTops.{StartsUnit, tops_goal}
use Rattle.svr_parse.proofs.LiveUnit.{IsAName, unit_goal}

-- ---- growth

grows_part : (k : Part) → IsGrowing (λ most r. part most r k)
grows_part a_typedef = grows_typedef
grows_part a_class = grows_class
grows_part a_var = grows_var
grows_part (var_of n) = grows_var_on n
grows_part a_stmt = grows_stmt
grows_part (stmt_of n) = grows_stmt_on n

-- ---- variables behind the name of their type

vars_sound : (most r : ℕ) (t : Tok) (k : NameKind) → t.lexeme ≡ lexeme.Name k → BehindToken var_spelling IsVar var_height r t (var_on most r t.at)
vars_sound most r t k n i x j h = let d = (var_on_sound most r t.at).at i x j h in record {
  takes = subst (λ es. FitEach (t ∷ i) es j) (sym (var_named x.0 t.at d.is.1)) ((refl, record { kind = k; is = n }), d.takes);
  is = d.is.0;
  height = d.height;
  low = d.low;
}

its_name : (t : Tok) (k : NameKind) (x : VarTree) (i : List Tok) → t.lexeme ≡ lexeme.Name k → VarBegins (t ∷ i) x → x.kind ≡ named t.at
its_name t k x i n (by_word l e s) = absurd (let both : Some t.lexeme ≡ Some (lexeme.Word l) = e in cc)
its_name t k x i n (by_name u k2 k3 j e l e2 d) = let same : t ≡ u = cc in d ∙ ap (λ z. named z.at) (sym same)

vars_complete : (most r : ℕ) → r ≤ most → (t : Tok) (k : NameKind) → t.lexeme ≡ lexeme.Name k → ReadsBehind var_spelling IsVar var_height most r t (var_on most r t.at)
vars_complete most r roomy t k n x i rest few is low h =
    let e = its_name t k x i n (var_begins (t ∷ i) rest x is h) in
    let behind = subst (λ es. FitEach (t ∷ i) es rest) (var_named x t.at e) h in
    (var_on_complete most r t.at roomy).at x i rest (omega (arith, few)) (is, e) low behind.1 tt

-- ---- a statement behind its first name takes a token

apart : (q : Option Lexeme) → q ≡ Some (lexeme.Mark m.Assign) → q ≡ None → ⊥
apart q h k = absurd (cc)

stmt_takes : (most r : ℕ) (n : ℕ × NameKind) → 2 ≤ r → (i : List Tok) (y : WithHeight StmtTree) (j : List Tok) → stmt_on most r n i ≡ Ok (y, j) → length j < length i
stmt_takes most r n fits i y j h =
    let most2 : ℕ = most + length i + 5 + r in
    let g : Grown false (stmt_on most r n i) (stmt_on most2 r n i) = (grows_stmt_on n false most most2 r r (omega arith) refl).at i in
    let g2 : stmt_on most2 r n i ≡ Ok (y, j) = subst (λ o. Grown false o (stmt_on most2 r n i)) h g in
    elim ((stmt_on_open most2 r n (omega arith) fits (omega arith) {D = λ q. q ≡ Some (lexeme.Mark m.Assign)} refl).heads i y j (omega arith) g2) as (λ _. length j < length i) [ inl less ↦ less | inr u ↦ absurd (apart None (u None tt) refl) ]

stmt_viable : (most r : ℕ) (n : ℕ × NameKind) → 4 ≤ r → r < most → IsViable most AnyToken (layers.Part r) (stmt_on most r n)
stmt_viable most r n fits roomy =
    let v = stmt_on_open most r n (omega (arith, fits, roomy)) (omega (arith, fits)) (omega (arith, roomy)) {D = AnyToken} tt in
    record { later = v.alive.later; settles = v.settles; consumes = λ i y j h. stmt_takes most r n (omega (arith, fits)) i y j h }

-- ---- the whole

ends_length : (most r : ℕ) (s : WithHeight (List StmtTree)) (i : List Tok) (y : WithHeight (List StmtTree)) (j : List Tok) → run most r (part most r) (stmts_on s) i ≡ Ok (y, j) → length j < length i
ends_length most r s i y j h =
    let d = stmts_on_sound most r (part most r) (var_sound most r) (stmt_sound most r) (vars_sound most r) (stmt_on_sound most r) s i y j h in
    omega (arith, takes_length i (tokens.each_spelling stmt_spelling d.more ++ word w.End ∷ []) j d.takes, length-append (tokens.each_spelling stmt_spelling d.more) (word w.End ∷ []))

sound : (most r : ℕ) → IsSound spelling IsLevelled height r (run most r (part most r) script_in)
sound most r = script_sound most r (part most r) (var_sound most r) (stmt_sound most r) (vars_sound most r) (stmt_on_sound most r) (typedef_sound most r) (class_sound most r)

takes_some : (most r : ℕ) (i : List Tok) (y : WithHeight ScriptTree) (j : List Tok) → run most r (part most r) script_in i ≡ Ok (y, j) → length j < length i
takes_some most r i y j h = let d = (sound most r).at i y j h in
    omega (arith, takes_length i (spelling y.0) j d.takes, length-append (tops_spelling y.0.types y.0.classes y.0.order) (unit_spelling y.0.unit))

viable : (most r : ℕ) → 4 ≤ r → r < most → IsViable most NotColon AnyAnswer (run most r (part most r) script_in)
unfolding script_in
viable most r fits roomy =
    let ls = local_part most r in
    let some : 1 ≤ most = omega (arith, roomy) in
    let one : 1 ≤ r = omega (arith, fits) in
    let low : r ≤ most = omega (arith, roomy) in
    let units = unit_goal most r (part most r) ls some (live_var most r one low) (live_stmt most r (omega (arith, fits, roomy)) low) (λ n. live_var_on most r one low n) (λ n. stmt_viable most r n fits roomy)
    (λ n. (var_on_open most r one low {D = IsAName} (name_kind.Plain, refl) n).alive.fin) (λ s i y j h. ends_length most r s i y j h) in
    let whole : Goal most r (part most r) ls StartsUnit NotColon AnyAnswer script_in =
    then_goal most r (part most r) ls (tops_goal most r (part most r) ls some (live_typedef most r one low) (live_class most r one low)) (λ t _.
    then_goal most r (part most r) ls units (λ u _. pure_goal most r (part most r) ls tt (λ _ h. h))) in
    record { later = whole.alive.later; settles = whole.settles; consumes = λ i y j h. takes_some most r i y j h }

-- the shortest script
shortest : List Tok
shortest = tok (lexeme.Word w.Module) ∷ tok (lexeme.Name name_kind.Plain) ∷ tok (lexeme.Mark m.Semicolon) ∷ tok (lexeme.Word w.Initial) ∷ tok (lexeme.Word w.Begin) ∷ tok (lexeme.Word w.End) ∷ tok (lexeme.Word w.EndModule) ∷ []

shortest_tree : ScriptTree
shortest_tree = record { types = []; classes = []; order = []; unit = record { kind = unit_kind.Module; name = 0; parens = false; outer = []; inner = []; stmts = []; label = None } }

some_script : (limit : ℕ) → 4 ≤ limit → IsFront IsReading limit []
unfolding shortest shortest_tree
some_script limit fits = record {
  more = shortest;
  tree = shortest_tree;
  reading = record {
    levelled = record { types = tt; classes = tt; order = tt; unit = (tt, tt, tt) };
    low = omega (arith, fits);
    spells = record { each = (refl, ((refl, record { kind = name_kind.Plain; is = refl }), (refl, (refl, (refl, (refl, (refl, refl))))))) };
  };
}

pub script_parser : IsParser IsReading script NotColon (λ r. AnyAnswer) 4
unfolding script
script_parser = record {
  local = λ most r. local_run most r (part most r) (local_part most r) script_in;
  grows = λ wider n n2 r r2 more rooms. grows_run wider n n2 r r2 (part n r) (part n2 r2) more rooms (local_part n2 r2) (λ k. grows_part k wider n n2 r r2 more rooms) script_in;
  sound = λ most r i x h. let d = (sound most r).at i x [] h in record { levelled = d.is; low = omega (arith, d.height, d.low); spells = record { each = d.takes } };
  complete = λ most r h i t d low roomy few. (
    _,
    script_complete most r (part most r) (var_complete most r roomy) (stmt_complete most r roomy) (vars_complete most r roomy) (stmt_on_complete most r roomy) first_stmt second_stmt stmt_fills
        (typedef_complete most r roomy) (class_complete most r roomy) t i few d.levelled (omega (arith, d.low, low)) d.spells.each,
  );
  viable = viable;
  ending = refl;
  nothing = some_script;
}
