-- Types, classes and variables that were read.
use Rattle.std.proofs.Common.{◌≡◌, ℕ, suc, ◌+◌, ◌*◌, ◌<◌, ◌≤◌, ◌^◌, max, List, [], ◌∷◌, ◌++◌, length, Option, Some, None, refl, sym, ap, subst, ◌∙◌, arith}
use Rattle.std.proofs.lemmas.List.{length-append}
use Rattle.svr_token.specs.declared.Mark.TheVariants as m
use Rattle.svr_token.specs.declared.Word.TheVariants as w
use Rattle.svr_tree.specs.ExprTree.{ExprTree}
use Rattle.svr_tree.specs.DeclTree as tree
use Rattle.svr_tree.specs.DeclTree.{PackedRangeTree, IntegerTypeTree, DataTypeTree, MemberTree, DefinitionTree, TypeTree, DimensionTree, DeclaratorTree, PropertyTree, BlockTree, ClassItemTree, ClassTree, VarInitTree, VarDeclaratorTree, VarTree}
use Rattle.svr_tree.specs.Tokens.{Entry, word, mark, Each, OneOrMore, each_spelling, listed, followed}
use Rattle.svr_tree.specs.ExprGrammar.{expr_spelling, expr_height}
use Rattle.svr_tree.specs.ItemGrammar.{items_spelling, items_height}
use Rattle.svr_tree.specs.DeclGrammar.{signing_spelling, packed_spelling, integer_spelling, type_spelling, initial_spelling, member_spelling, base_spelling, definition_spelling, typedef_spelling, dimension_spelling, declarator_spelling, rand_spelling, property_spelling, class_item_spelling, extends_spelling, label_spelling, class_spelling, var_init_spelling, var_declarator_spelling, var_spelling, IsOptionalExpr, IsPacked, IsInteger, IsType, IsEnumMember, IsBase, IsDefinition, IsTypedef, IsDimension, IsDeclarator, IsProperty, IsClassItem, IsClass, IsVarInit, IsVarDeclarator, IsVar, greatest, optional_height, packed_height, integer_height, type_height, member_height, base_height, typedef_height, dimension_height, declarator_height, class_item_height, class_height, var_init_height, var_declarator_height, var_height}
use Rattle.svr_elab_type.specs.Fits.{ValueFits, PackedFits, IntegerFits, BaseFits, EnumMembersFit, DefinitionFits, DeclarationFits}
use Rattle.svr_elab_decl.specs.Fits.{TypeFits, DimensionFits, DimensionsFit, DeclaratorFits, DeclaratorsFit, ClassItemFits, ClassItemsFit}
use Rattle.svr_elab_block.specs.Fits as bodies
use Rattle.svr_elab_block.specs.Fits.{BodyFits}
use Rattle.svr_elab_unit.specs.Fits.{VarTypesFit, VarValuesFit, InitFits, InitsFit, declared_in}
use Rattle.svr_elab_fit_laws.specs.ReadScripts.{own_blocks}
use Rattle.svr_elab_fit_laws.proofs.Entries.{AreRead, front, rest, tail, IsLow, low_left, low_right, expr_read}
use Rattle.svr_elab_fit_laws.proofs.ReadItems.{IsShallow, block_items_read, block_items_loops}

-- a height of a script, of which the double is far below the limit on loops
abbrev pub IsFlat : ℕ → Type 0
IsFlat height = 2 * height ≤ 2 ^ 32

flat_low : (h : ℕ) → IsFlat h → IsLow 0 h
flat_low h f = omega (arith, f)

pub flat_left : (a b : ℕ) → IsFlat (max a b) → IsFlat a
flat_left a b h = omega (arith, h)

pub flat_right : (a b : ℕ) → IsFlat (max a b) → IsFlat b
flat_right a b h = omega (arith, h)

flat_shallow : (h : ℕ) → IsFlat h → IsShallow 0 h
flat_shallow h f = omega (arith, f)

-- ---- values and types

value_read : (e : Option ExprTree) → IsOptionalExpr e → AreRead (initial_spelling e) → IsFlat (optional_height e) → ValueFits 0 e
value_read None h f low = tt
value_read (Some e) h f low = expr_read 0 e h (tail _ _ f) (flat_low (expr_height e) low)

packed_read : (r : PackedRangeTree) → IsPacked (Some r) → AreRead (packed_spelling (Some r)) → IsFlat (packed_height (Some r)) → PackedFits 0 r
packed_read r h f low =
    let on = tail _ _ f in
    let behind = tail _ _ (rest (expr_spelling r.msb) _ on) in (
      expr_read 0 r.msb h.0 (front (expr_spelling r.msb) _ on) (flat_low (expr_height r.msb) (flat_left (expr_height r.msb) (expr_height r.lsb) low)),
      expr_read 0 r.lsb h.1 (front (expr_spelling r.lsb) _ behind) (flat_low (expr_height r.lsb) (flat_right (expr_height r.msb) (expr_height r.lsb) low)),
    )

integer_read : (t : IntegerTypeTree) → IsInteger t → AreRead (integer_spelling t) → IsFlat (integer_height t) → IntegerFits 0 t
integer_read (tree.vector at k s None) h f low = tt
integer_read (tree.vector at k s (Some r)) h f low = packed_read r h (rest (signing_spelling s) _ (tail _ _ f)) low
integer_read (tree.atom at k s) h f low = tt

pub type_read : (t : DataTypeTree) → IsType t → AreRead (type_spelling t) → IsFlat (type_height t) → TypeFits 0 t
type_read (tree.integer t) h f low = integer_read t h f low
type_read (tree.named n) h f low = tt

base_read : (t : Option IntegerTypeTree) → IsBase t → AreRead (base_spelling t) → IsFlat (base_height t) → BaseFits 0 t
base_read None h f low = tt
base_read (Some t) h f low = integer_read t h f low

member_read : (d : MemberTree) → IsEnumMember d → AreRead (member_spelling d) → IsFlat (member_height d) → ValueFits 0 d.value
member_read d h f low = value_read d.value h (tail _ _ f) low

more_members_read : (ds : List MemberTree) → Each IsEnumMember ds → AreRead (followed member_spelling ds) → IsFlat (greatest member_height ds) → EnumMembersFit 0 ds
more_members_read [] h f low = tt
more_members_read (d ∷ ds) h f low =
    let on = tail _ _ f in (
      member_read d h.0 (front (member_spelling d) _ on) (flat_left (member_height d) (greatest member_height ds) low),
      more_members_read ds h.1 (rest (member_spelling d) _ on) (flat_right (member_height d) (greatest member_height ds) low),
    )

members_read : (ds : List MemberTree) → OneOrMore IsEnumMember ds → AreRead (listed member_spelling ds) → IsFlat (greatest member_height ds) → EnumMembersFit 0 ds
members_read [] h f low = tt
members_read (d ∷ ds) h f low = (
  member_read d h.0 (front (member_spelling d) _ f) (flat_left (member_height d) (greatest member_height ds) low),
  more_members_read ds h.1 (rest (member_spelling d) _ f) (flat_right (member_height d) (greatest member_height ds) low),
)

definition_read : (d : DefinitionTree) → IsDefinition d → AreRead (definition_spelling d) → IsFlat (typedef_height d) → DefinitionFits 0 d
definition_read (tree.enum d) h f low =
    let on = tail _ _ f in (
      base_read d.base h.0 (front (base_spelling d.base) _ on) (flat_left (base_height d.base) (greatest member_height d.members) low),
      members_read d.members h.1 (front (listed member_spelling d.members) _ (tail _ _ (rest (base_spelling d.base) _ on))) (flat_right (base_height d.base) (greatest member_height d.members) low),
    )
definition_read (tree.plain t) h f low = integer_read t h f low

pub typedef_read : (d : TypeTree) → IsTypedef d → AreRead (typedef_spelling d) → IsFlat (typedef_height d.definition) → DeclarationFits 0 d
typedef_read d h f low = definition_read d.definition h (front (definition_spelling d.definition) _ (tail _ _ f)) low

-- ---- properties

dimension_read : (d : DimensionTree) → IsDimension d → AreRead (dimension_spelling d) → IsFlat (dimension_height d) → DimensionFits 0 d
dimension_read tree.dynamic h f low = tt
dimension_read tree.queue h f low = tt
dimension_read (tree.size e) h f low = expr_read 0 e h (front (expr_spelling e) _ (tail _ _ f)) (flat_low (expr_height e) low)
dimension_read (tree.bounds a b) h f low =
    let on = tail _ _ f in (
      expr_read 0 a h.0 (front (expr_spelling a) _ on) (flat_low (expr_height a) (flat_left (expr_height a) (expr_height b) low)),
      expr_read 0 b h.1 (front (expr_spelling b) _ (tail _ _ (rest (expr_spelling a) _ on))) (flat_low (expr_height b) (flat_right (expr_height a) (expr_height b) low)),
    )

dimensions_read : (ds : List DimensionTree) → Each IsDimension ds → AreRead (each_spelling dimension_spelling ds) → IsFlat (greatest dimension_height ds) → DimensionsFit 0 ds
dimensions_read [] h f low = tt
dimensions_read (d ∷ ds) h f low = (
  dimension_read d h.0 (front (dimension_spelling d) _ f) (flat_left (dimension_height d) (greatest dimension_height ds) low),
  dimensions_read ds h.1 (rest (dimension_spelling d) _ f) (flat_right (dimension_height d) (greatest dimension_height ds) low),
)

declarator_read : (d : DeclaratorTree) → IsDeclarator d → AreRead (declarator_spelling d) → IsFlat (declarator_height d) → DeclaratorFits 0 d
declarator_read d h f low =
    let on = tail _ _ f in (
      dimensions_read d.dims h.0.0 (front (each_spelling dimension_spelling d.dims) _ on) (flat_left (greatest dimension_height d.dims) (optional_height d.value) low),
      value_read d.value h.1 (rest (each_spelling dimension_spelling d.dims) _ on) (flat_right (greatest dimension_height d.dims) (optional_height d.value) low),
    )

more_declarators_read : (ds : List DeclaratorTree) → Each IsDeclarator ds → AreRead (followed declarator_spelling ds) → IsFlat (greatest declarator_height ds) → DeclaratorsFit 0 ds
more_declarators_read [] h f low = tt
more_declarators_read (d ∷ ds) h f low =
    let on = tail _ _ f in (
      declarator_read d h.0 (front (declarator_spelling d) _ on) (flat_left (declarator_height d) (greatest declarator_height ds) low),
      more_declarators_read ds h.1 (rest (declarator_spelling d) _ on) (flat_right (declarator_height d) (greatest declarator_height ds) low),
    )

declarators_read : (ds : List DeclaratorTree) → OneOrMore IsDeclarator ds → AreRead (listed declarator_spelling ds) → IsFlat (greatest declarator_height ds) → DeclaratorsFit 0 ds
declarators_read [] h f low = tt
declarators_read (d ∷ ds) h f low = (
  declarator_read d h.0 (front (declarator_spelling d) _ f) (flat_left (declarator_height d) (greatest declarator_height ds) low),
  more_declarators_read ds h.1 (rest (declarator_spelling d) _ f) (flat_right (declarator_height d) (greatest declarator_height ds) low),
)

-- ---- classes

class_item_read : (i : ClassItemTree) → IsClassItem i → AreRead (class_item_spelling i) → IsFlat (class_item_height i) → ClassItemFits 0 i
class_item_read (tree.property p) h f low =
    let on = rest (rand_spelling p.rand) _ f in (
      type_read p.kind h.0 (front (type_spelling p.kind) _ on) (flat_left (type_height p.kind) (greatest declarator_height p.decls) low),
      declarators_read p.decls h.1 (front (listed declarator_spelling p.decls) _ (rest (type_spelling p.kind) _ on)) (flat_right (type_height p.kind) (greatest declarator_height p.decls) low),
    )
class_item_read (tree.block b) h f low = tt

body_item_read : (i : ClassItemTree) → IsClassItem i → AreRead (class_item_spelling i) → IsFlat (class_item_height i) → bodies.ItemFits 0 i
body_item_read (tree.property p) h f low = tt
body_item_read (tree.block b) h f low =
    (block_items_read b.items h (front (items_spelling b.items) _ (tail _ _ (tail _ _ (tail _ _ f)))), block_items_loops 0 b.items h (flat_shallow (items_height b.items) low))

items_read : (is : List ClassItemTree) → Each IsClassItem is → AreRead (each_spelling class_item_spelling is) → IsFlat (greatest class_item_height is) → ClassItemsFit 0 is × BodyFits 0 is
items_read [] h f low = (tt, tt)
items_read (i ∷ is) h f low =
    let here = front (class_item_spelling i) _ f in
    let down = flat_left (class_item_height i) (greatest class_item_height is) low in
    let more = items_read is h.1 (rest (class_item_spelling i) _ f) (flat_right (class_item_height i) (greatest class_item_height is) low) in
    ((class_item_read i h.0 here down, more.0), (body_item_read i h.0 here down, more.1))

abbrev body_behind : ClassTree → List Entry
body_behind c = each_spelling class_item_spelling c.items

-- what stands between `;` and `endclass`
body_entries : (c : ClassTree) → AreRead (class_spelling c) → AreRead (body_behind c)
body_entries c f = front (body_behind c) _ (tail _ _ (rest (extends_spelling c.base) _ (tail _ _ (tail _ _ f))))

pub class_read : (c : ClassTree) → IsClass c → AreRead (class_spelling c) → IsFlat (class_height c) → ClassItemsFit 0 c.items × BodyFits 0 c.items
class_read c h f low = items_read c.items h (body_entries c f) low

-- ---- variables

init_read : (i : Option VarInitTree) → IsVarInit i → AreRead (var_init_spelling i) → IsFlat (var_init_height i) → InitFits 0 i
init_read None h f low = tt
init_read (Some (tree.value e)) h f low = expr_read 0 e h (tail _ _ f) (flat_low (expr_height e) low)
init_read (Some (tree.new parens)) h f low = tt

more_inits_read : (ds : List VarDeclaratorTree) → Each IsVarDeclarator ds → AreRead (followed var_declarator_spelling ds) → IsFlat (greatest var_declarator_height ds) → InitsFit 0 ds
more_inits_read [] h f low = tt
more_inits_read (d ∷ ds) h f low =
    let on = tail _ _ f in (
      init_read d.init h.0 (tail _ _ (front (var_declarator_spelling d) _ on)) (flat_left (var_declarator_height d) (greatest var_declarator_height ds) low),
      more_inits_read ds h.1 (rest (var_declarator_spelling d) _ on) (flat_right (var_declarator_height d) (greatest var_declarator_height ds) low),
    )

inits_read : (ds : List VarDeclaratorTree) → OneOrMore IsVarDeclarator ds → AreRead (listed var_declarator_spelling ds) → IsFlat (greatest var_declarator_height ds) → InitsFit 0 ds
inits_read [] h f low = tt
inits_read (d ∷ ds) h f low = (
  init_read d.init h.0 (tail _ _ (front (var_declarator_spelling d) _ f)) (flat_left (var_declarator_height d) (greatest var_declarator_height ds) low),
  more_inits_read ds h.1 (rest (var_declarator_spelling d) _ f) (flat_right (var_declarator_height d) (greatest var_declarator_height ds) low),
)

pub vars_read : (vs : List VarTree) → Each IsVar vs → AreRead (each_spelling var_spelling vs) → IsFlat (greatest var_height vs) → VarTypesFit 0 vs × VarValuesFit 0 vs
vars_read [] h f low = (tt, tt)
vars_read (v ∷ vs) h f low =
    let here = front (var_spelling v) _ f in
    let down = flat_left (var_height v) (greatest var_height vs) low in
    let more = vars_read vs h.1 (rest (var_spelling v) _ f) (flat_right (var_height v) (greatest var_height vs) low) in (
      (type_read v.kind h.0.0 (front (type_spelling v.kind) _ here) (flat_left (type_height v.kind) (greatest var_declarator_height v.vars) down), more.0),
      (inits_read v.vars h.0.1 (front (listed var_declarator_spelling v.vars) _ (rest (type_spelling v.kind) _ here)) (flat_right (type_height v.kind) (greatest var_declarator_height v.vars) down), more.1),
    )

-- ---- as many entries as declarations, and more

-- what is at most as long as a list is so of one that has it
in_front : (n : ℕ) (xs ys : List Entry) → n ≤ length xs → n ≤ length (xs ++ ys)
in_front n xs ys h = less n (length xs) (length ys) (length (xs ++ ys)) (length-append xs ys) h
  where
    less : (n a b c : ℕ) → c ≡ a + b → n ≤ a → n ≤ c
    less n a b c e h = omega (arith, e, h)

behind : (n : ℕ) (xs ys : List Entry) → n ≤ length ys → n ≤ length (xs ++ ys)
behind n xs ys h = less n (length xs) (length ys) (length (xs ++ ys)) (length-append xs ys) h
  where
    less : (n a b c : ℕ) → c ≡ a + b → n ≤ b → n ≤ c
    less n a b c e h = omega (arith, e, h)

both : (m n : ℕ) (xs ys : List Entry) → m ≤ length xs → n ≤ length ys → m + n ≤ length (xs ++ ys)
both m n xs ys h k = sum m n (length xs) (length ys) (length (xs ++ ys)) (length-append xs ys) h k
  where
    sum : (m n a b c : ℕ) → c ≡ a + b → m ≤ a → n ≤ b → m + n ≤ c
    sum m n a b c e h k = omega (arith, e, h, k)

one_more : (n k : ℕ) → n ≤ k → suc n ≤ suc k
one_more n k h = omega (arith, h)

no_less : (n k : ℕ) → n ≤ k → n ≤ suc k
no_less n k h = omega (arith, h)

more_declared : (ds : List VarDeclaratorTree) → length ds ≤ length (followed var_declarator_spelling ds)
more_declared [] = omega arith
more_declared (d ∷ ds) = one_more (length ds) _ (behind (length ds) (var_declarator_spelling d) (followed var_declarator_spelling ds) (more_declared ds))

-- a name for each
all_declared : (ds : List VarDeclaratorTree) → length ds ≤ length (listed var_declarator_spelling ds)
all_declared [] = omega arith
all_declared (d ∷ ds) = one_more (length ds) _ (behind (length ds) (var_init_spelling d.init) (followed var_declarator_spelling ds) (more_declared ds))

var_declared : (v : VarTree) → length v.vars ≤ length (var_spelling v)
var_declared v = behind (length v.vars) (type_spelling v.kind) _ (in_front (length v.vars) (listed var_declarator_spelling v.vars) _ (all_declared v.vars))

pub vars_declared : (vs : List VarTree) → declared_in vs ≤ length (each_spelling var_spelling vs)
vars_declared [] = omega arith
vars_declared (v ∷ vs) = both (length v.vars) (declared_in vs) (var_spelling v) (each_spelling var_spelling vs) (var_declared v) (vars_declared vs)

-- `constraint` for each block
items_within : (is : List ClassItemTree) → own_blocks is ≤ length (each_spelling class_item_spelling is)
items_within [] = omega arith
items_within (tree.property p ∷ is) = behind (own_blocks is) (property_spelling p) (each_spelling class_item_spelling is) (items_within is)
items_within (tree.block b ∷ is) = turned (own_blocks is) _ (both 1 (own_blocks is) (class_item_spelling (tree.block b)) (each_spelling class_item_spelling is) (omega arith) (items_within is))
  where
    turned : (n k : ℕ) → 1 + n ≤ k → n + 1 ≤ k
    turned n k h = omega (arith, h)

abbrev body_on : ClassTree → List Entry
body_on c = body_behind c ++ word w.EndClass ∷ label_spelling c.label

-- `class` for each class
pub class_within : (c : ClassTree) → suc (own_blocks c.items) ≤ length (class_spelling c)
class_within c =
    let n = own_blocks c.items in
    let body : n ≤ suc (length (body_on c)) = no_less n (length (body_on c)) (in_front n (body_behind c) (word w.EndClass ∷ label_spelling c.label) (items_within c.items)) in
    let on = extends_spelling c.base ++ mark m.Semicolon ∷ body_on c in
    one_more n (suc (length on)) (no_less n (length on) (behind n (extends_spelling c.base) (mark m.Semicolon ∷ body_on c) body))
