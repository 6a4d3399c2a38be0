-- Scripts that were read.
use Rattle.std.proofs.Common.{◌≡◌, ℕ, suc, ◌+◌, ◌*◌, ◌<◌, ◌≤◌, ◌^◌, max, List, [], ◌∷◌, ◌++◌, length, refl, sym, ap, subst, ◌∙◌, arith}
use Rattle.std.proofs.lemmas.List.{length-append}
use Rattle.svr_limits.specs.declared.limit.TheConstants.{HEIGHT_LIMIT}
use Rattle.svr_token.specs.declared.Token.{Token}
use Rattle.svr_tree.specs.declared.Top.{Top}
use Rattle.svr_tree.specs.declared.Top.TheVariants as top
use Rattle.svr_tree.specs.DeclTree.{TypeTree, ClassTree}
use Rattle.svr_tree.specs.ScriptTree.{UnitTree, ScriptTree}
use Rattle.svr_tree.specs.Tokens.{Entry, Each, numbered, each_spelling}
use Rattle.svr_tree.specs.ExprGrammar.{parens_spelling}
use Rattle.svr_tree.specs.DeclGrammar.{typedef_spelling, class_spelling, var_spelling, IsTypedef, IsClass, greatest, typedef_height, class_height, var_height}
use Rattle.svr_tree.specs.StmtGrammar.{stmt_spelling, stmt_height}
use Rattle.svr_tree.specs.ScriptGrammar.{unit_spelling, tops_spelling, spelling, IsOrder, IsUnit, unit_height, height}
use Rattle.svr_tree.specs.Reading.{IsReading}
use Rattle.svr_elab_tops.specs.InOrder.{TypesFit, ClassesFit}
use Rattle.svr_elab_block.specs.Fits.{BodiesFit}
use Rattle.svr_elab_expr_laws.proofs.ReadFit.{tokens_fit, entries_fit}
use Rattle.svr_elab_unit.specs.Fits.{declared_in}
use Rattle.svr_elab_fit_laws.specs.ReadScripts.{IsReadFrom, own_blocks, blocks_in, UnitFits, ScriptFits, ReadScriptFits}
use Rattle.svr_elab_fit_laws.proofs.Entries.{AreRead, front, rest, tail, as_many_lexemes, as_many_tokens, as_many_entries}
use Rattle.svr_elab_fit_laws.proofs.ReadDecls.{IsFlat, flat_left, flat_right, typedef_read, class_read, vars_read, vars_declared, class_within}
use Rattle.svr_elab_fit_laws.proofs.ReadStmts.{all_stmts_read}

abbrev TypesFlat : List TypeTree → Type 0
TypesFlat ts = IsFlat (greatest (λ (t : TypeTree). typedef_height t.definition) ts)

abbrev ClassesFlat : List ClassTree → Type 0
ClassesFlat cs = IsFlat (greatest class_height cs)

-- ---- types and classes, each in its place

tops_read : (ts : List TypeTree) (cs : List ClassTree) (os : List Top) → Each IsTypedef ts → Each IsClass cs → IsOrder ts cs os → AreRead (tops_spelling ts cs os) → TypesFlat ts → ClassesFlat cs
    → TypesFit 0 ts × ClassesFit 0 cs × BodiesFit 0 cs
tops_read [] [] [] h k o f low flat = (tt, tt, tt)
tops_read [] (c ∷ cs) [] h k o f low flat = absurd o
tops_read (t ∷ ts) [] [] h k o f low flat = absurd o
tops_read (t ∷ ts) (c ∷ cs) [] h k o f low flat = absurd o
tops_read [] [] (top.OfType ∷ os) h k o f low flat = absurd o
tops_read [] (c ∷ cs) (top.OfType ∷ os) h k o f low flat = absurd o
tops_read (t ∷ ts) cs (top.OfType ∷ os) h k o f low flat =
    let more = tops_read ts cs os h.1 k o (rest (typedef_spelling t) _ f) (flat_right (typedef_height t.definition) _ low) flat in
    ((typedef_read t h.0 (front (typedef_spelling t) _ f) (flat_left (typedef_height t.definition) _ low), more.0), more.1, more.2)
tops_read [] [] (top.OfClass ∷ os) h k o f low flat = absurd o
tops_read (t ∷ ts) [] (top.OfClass ∷ os) h k o f low flat = absurd o
tops_read [] (c ∷ cs) (top.OfClass ∷ os) h k o f low flat =
    let here = class_read c k.0 (front (class_spelling c) _ f) (flat_left (class_height c) _ flat) in
    let more = tops_read [] cs os h k.1 o (rest (class_spelling c) _ f) low (flat_right (class_height c) _ flat) in
    (more.0, (here.0, more.1), (here.1, more.2))
tops_read (t ∷ ts) (c ∷ cs) (top.OfClass ∷ os) h k o f low flat =
    let here = class_read c k.0 (front (class_spelling c) _ f) (flat_left (class_height c) _ flat) in
    let more = tops_read (t ∷ ts) cs os h k.1 o (rest (class_spelling c) _ f) low (flat_right (class_height c) _ flat) in
    (more.0, (here.0, more.1), (here.1, more.2))

-- ---- no more of them than entries

one_type : (ts bs cs n x y : ℕ) → 1 ≤ x → n ≡ x + y → ts + (bs + cs) ≤ y → suc ts + (bs + cs) ≤ n
one_type ts bs cs n x y one e h = omega (arith, one, e, h)

one_class : (ts own bs cs n x y : ℕ) → suc own ≤ x → n ≡ x + y → ts + (bs + cs) ≤ y → ts + ((own + bs) + suc cs) ≤ n
one_class ts own bs cs n x y some e h = omega (arith, some, e, h)

abbrev Counted : List TypeTree → List ClassTree → ℕ → Type 0
Counted ts cs n = length ts + (blocks_in cs + length cs) ≤ n

tops_counted : (ts : List TypeTree) (cs : List ClassTree) (os : List Top) → IsOrder ts cs os → Counted ts cs (length (tops_spelling ts cs os))
tops_counted [] [] [] o = omega arith
tops_counted [] (c ∷ cs) [] o = absurd o
tops_counted (t ∷ ts) [] [] o = absurd o
tops_counted (t ∷ ts) (c ∷ cs) [] o = absurd o
tops_counted [] [] (top.OfType ∷ os) o = absurd o
tops_counted [] (c ∷ cs) (top.OfType ∷ os) o = absurd o
tops_counted (t ∷ ts) cs (top.OfType ∷ os) o =
    one_type (length ts) (blocks_in cs) (length cs) _ (length (typedef_spelling t)) (length (tops_spelling ts cs os)) (omega arith) (length-append (typedef_spelling t) (tops_spelling ts cs os)) (tops_counted ts cs os o)
tops_counted [] [] (top.OfClass ∷ os) o = absurd o
tops_counted (t ∷ ts) [] (top.OfClass ∷ os) o = absurd o
tops_counted [] (c ∷ cs) (top.OfClass ∷ os) o =
    one_class 0 (own_blocks c.items) (blocks_in cs) (length cs) _ (length (class_spelling c)) (length (tops_spelling [] cs os)) (class_within c) (length-append (class_spelling c) (tops_spelling [] cs os)) (tops_counted [] cs os o)
tops_counted (t ∷ ts) (c ∷ cs) (top.OfClass ∷ os) o =
    one_class (length (t ∷ ts)) (own_blocks c.items) (blocks_in cs) (length cs) _ (length (class_spelling c)) (length (tops_spelling (t ∷ ts) cs os)) (class_within c)
    (length-append (class_spelling c) (tops_spelling (t ∷ ts) cs os)) (tops_counted (t ∷ ts) cs os o)

types_few : (t b c n : ℕ) → t + (b + c) ≤ n → n < 2 ^ 32 → t < 2 ^ 32
types_few t b c n h k = omega (arith, h, k)

blocks_few : (t b c n : ℕ) → t + (b + c) ≤ n → n < 2 ^ 32 → b < 2 ^ 32
blocks_few t b c n h k = omega (arith, h, k)

classes_few : (t b c n : ℕ) → t + (b + c) ≤ n → n < 2 ^ 32 → c < 2 ^ 32
classes_few t b c n h k = omega (arith, h, k)

-- ---- the module or program

few_vars : (a b : ℕ) (outer inner more : List Entry) (x y : Entry) → a ≤ length outer → b ≤ length inner → AreRead (outer ++ x ∷ (y ∷ (inner ++ more))) → a + b < 2 ^ 32
few_vars a b outer inner more x y h k f =
    counted a b (length outer) (length inner) (length more) (length (inner ++ more)) (length (outer ++ x ∷ (y ∷ (inner ++ more)))) h k
    (length-append inner more) (length-append outer (x ∷ (y ∷ (inner ++ more)))) f.few
  where
    counted : (a b o i m n k : ℕ) → a ≤ o → b ≤ i → n ≡ i + m → k ≡ o + suc (suc n) → k < 2 ^ 32 → a + b < 2 ^ 32
    counted a b o i m n k h j e g few = omega (arith, h, j, e, g, few)

unit_read : (u : UnitTree) → IsUnit u → AreRead (unit_spelling u) → IsFlat (unit_height u) → UnitFits u
unit_read u h f low =
    let outer = each_spelling var_spelling u.outer in
    let inner = each_spelling var_spelling u.inner in
    let stmts = each_spelling stmt_spelling u.stmts in
    let decls = max (greatest var_height u.outer) (greatest var_height u.inner) in
    let below = flat_left decls (greatest stmt_height u.stmts) low in
    let vars = tail _ _ (rest (parens_spelling u.parens) _ (tail _ _ (tail _ _ f))) in
    let begun = tail _ _ (tail _ _ (rest outer _ vars)) in
    let run = rest inner _ begun in
    let outside = vars_read u.outer h.0 (front outer _ vars) (flat_left (greatest var_height u.outer) (greatest var_height u.inner) below) in
    let inside = vars_read u.inner h.1 (front inner _ begun) (flat_right (greatest var_height u.outer) (greatest var_height u.inner) below) in
    record {
      outer_types = outside.0;
      inner_types = inside.0;
      outer_values = outside.1;
      inner_values = inside.1;
      all_stmts = all_stmts_read u.stmts h.2 (front stmts _ run) (flat_right decls (greatest stmt_height u.stmts) low);
      few = few_vars (declared_in u.outer) (declared_in u.inner) outer inner _ _ _ (vars_declared u.outer) (vars_declared u.inner) vars;
    }

-- ---- the whole

low_enough : (n : ℕ) → n ≤ HEIGHT_LIMIT → IsFlat n
low_enough n h = omega (arith, h)

-- as many entries as tokens
all_read : (text : List ℕ) (tokens : List Token) (s : ScriptTree) → IsReadFrom text tokens s → AreRead (spelling s)
all_read text tokens s r =
    let toks = numbered 0 r.lexemes in
    let each = r.reading.spells.each in
    let many : length (spelling s) ≡ length tokens = as_many_entries toks (spelling s) each ∙ as_many_tokens 0 r.lexemes ∙ as_many_lexemes text tokens r.lexemes r.spelled in
    let Few : ℕ → Type 0 = λ n. n < 2 ^ 32 in
    record { fit = entries_fit toks (spelling s) [] each (tokens_fit 0 text tokens r.lexemes r.spelled); few = subst Few (sym many) r.few }

pub read_script_fits : ReadScriptFits
read_script_fits text tokens s r =
    let all = all_read text tokens s r in
    let tops = front (tops_spelling s.types s.classes s.order) _ all in
    let types = greatest (λ (t : TypeTree). typedef_height t.definition) s.types in
    let classes = greatest class_height s.classes in
    let low = low_enough (height s) r.reading.low in
    let down = flat_left (max types classes) (unit_height s.unit) low in
    let ok = r.reading.levelled in
    let read = tops_read s.types s.classes s.order ok.types ok.classes ok.order tops (flat_left types classes down) (flat_right types classes down) in
    let count = tops_counted s.types s.classes s.order ok.order in
    record {
      all_types = read.0;
      all_classes = read.1;
      bodies = read.2;
      order = ok.order;
      few_types = types_few (length s.types) (blocks_in s.classes) (length s.classes) _ count tops.few;
      few_classes = classes_few (length s.types) (blocks_in s.classes) (length s.classes) _ count tops.few;
      few_blocks = blocks_few (length s.types) (blocks_in s.classes) (length s.classes) _ count tops.few;
      the_unit = unit_read s.unit ok.unit (rest (tops_spelling s.types s.classes s.order) _ all) (flat_right (max types classes) (unit_height s.unit) low);
    }
