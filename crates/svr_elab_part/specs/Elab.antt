-- What is known of an expression: its size and sign, its typed tree, its refusals, what it reads (IEEE 1800-2017, clause 11).
-- A rule that asks for a size, a sign or a value says nothing where that is not known.
use Rattle.std.specs.Prelude.{ℕ, ◌==◌, ℤ, pos, Bool, true, false, not, ◌&&◌, ◌||◌, if◌then◌else◌, List, [], ◌∷◌, Option, Some, None, is_some, option_map}
use Rattle.svr_operator.specs.declared.UnOp.{UnOp}
use Rattle.svr_operator.specs.declared.BinOp.{BinOp}
use Rattle.svr_operator.specs.declared.Fold.{Fold}
use Rattle.svr_typed.specs.ExprTerm as term
use Rattle.svr_typed.specs.ExprTerm.{ExprTerm, typed, RangeTerm, BoundTerm}
use Rattle.svr_tree.specs.ExprTree as raw
use Rattle.svr_tree.specs.ExprTree.{ExprTree, ExprTrees, RangeTree, RangeTrees, BoundTree, argument_name}
use Rattle.svr_eval.specs.Typed.{constant}
use Rattle.svr_refusal.specs.declared.Refusal.TheVariants as refusal
use Rattle.svr_elab_fault.specs.Refusals.{Gather, when}
use Rattle.svr_elab_names.specs.declared.Meaning.{Meaning}
use Rattle.svr_elab_names.specs.declared.Meaning.TheVariants.{Wrong, LoopOf, ItemOf, MemberOf, PropertyOf, SizeOf, FoldOf, VariableOf, ObjectOf}
use Rattle.svr_elab_names.specs.declared.Found.{Found}
use Rattle.svr_elab_names.specs.Names.{Space, look, only_if, in_reduction}
use Rattle.svr_elab_part.specs.declared.part.Shape.{Shape}
use Rattle.svr_elab_part.specs.declared.part.Reads.{Reads}
use Rattle.svr_elab_part.specs.declared.part.Root.{Root}
use Rattle.svr_elab_part.specs.declared.part.Root.TheVariants as root
use Rattle.svr_elab_part.specs.declared.part.Extent.TheVariants as extent
use Rattle.svr_elab_part.specs.declared.part.Form.{Form}
use Rattle.svr_elab_part.specs.Shapes.{both_known, all_known, and_more, typed_as, bit, bits_wide, choice_shape, unary_shape, binary_shape, sign_shape, and_width, and_reads, no_constant, only_numbers, meaning_shape, meaning_tree, meaning_reads, array_property, element_tree, cell_tree, array_node, is_high, is_low, part_shape, copies_total, is_too_few, is_wide, inside_node, join_node, copies_node, bit_node, part_node}
use Rattle.svr_elab_part.specs.Forms.{is_single, is_row, is_whole, is_object, is_refused, element_extent, other_form, meaning_form, indexed_form, bits_form, plain_form, sole_form}

-- `tree` is the typed expression where each part has one. A row of an array is no value: its `tree` is that of its index, which waits for the second one.
pub record Elab (F : Type 0) : Type 0 where
  pub at : ℕ
  pub shape : Option Shape
  pub tree : Option ExprTerm
  pub faults : F
  pub reads : Reads
  pub form : Form

-- the parts of a list so far; `total` is the sum of their widths
pub record Elabs (F : Type 0) : Type 0 where
  pub trees : Option (List ExprTerm)
  pub total : Option ℕ
  pub faults : F
  pub reads : Reads

pub record RangeElab (F : Type 0) : Type 0 where
  pub tree : Option RangeTerm
  pub faults : F
  pub reads : Reads

pub record RangesElab (F : Type 0) : Type 0 where
  pub trees : Option (List RangeTerm)
  pub faults : F
  pub reads : Reads

pub record BoundElab (F : Type 0) : Type 0 where
  pub tree : Option BoundTerm
  pub faults : F
  pub reads : Reads

abbrev pub last_name : ℕ → List ℕ → ℕ
last_name n [] = n
last_name n (x ∷ xs) = last_name x xs

-- the first token of an index that mentions a property that can be random
abbrev pub random_at : {F : Type 0} → Elab F → Option ℕ
random_at i = only_if i.reads.random (Some i.at)

-- known to be no whole array
abbrev pub is_no_array : {F : Type 0} → Elab F → Bool
is_no_array x = not (is_refused x.form.root) && not (is_whole x.form.extent)

abbrev pub is_in_object : Root → Bool
is_in_object root.Nothing = false
is_in_object root.Refused = false
is_in_object root.Member = false
is_in_object (root.Variable v) = false
is_in_object (root.Field p o) = is_some o
is_in_object (root.Object o c) = false

-- in the body of a reduction of x
abbrev pub body_space : {F : Type 0} → Space → Elab F → Option ℕ → Space
body_space n x name = in_reduction n (array_property x.form.root) name

module _ {F : Type 0} (g : Gather F) where
  -- ---- where an expression may stand

  -- where a value is wanted: neither an array nor an object variable
  abbrev pub plain : Elab F → Elab F
  plain x = record {
    at = x.at;
    shape = x.shape;
    tree = x.tree;
    faults = g.both x.faults (g.both (when g (not (is_single x.form.extent)) x.form.name refusal.LeftOut) (when g (is_object x.form.root) x.form.name refusal.UnknownName));
    reads = x.reads;
    form = plain_form x.form;
  }

  -- where an array may stand as well, but no row of one
  abbrev pub sole : Elab F → Elab F
  sole x = record {
    at = x.at;
    shape = x.shape;
    tree = x.tree;
    faults = g.both x.faults (g.both (when g (is_row x.form.extent) x.form.name refusal.LeftOut) (when g (is_object x.form.root) x.form.name refusal.UnknownName));
    reads = x.reads;
    form = sole_form x.form;
  }

  -- the number that a constant is, where nothing in it is refused
  abbrev pub known : Elab F → Option ℤ
  known x = if x.reads.constant && g.is_empty x.faults then option_map constant x.tree else None

  -- ---- literals and names

  -- 5.7.1; the width 0 stands for `'0` and `'1`
  abbrev pub literal : ℕ → ℕ → ℕ → Bool → Elab F
  literal at v w s =
      let every = w == 0 in
      let shape : Shape = record { width = if every then 1 else w; signed = if every then false else s } in
      record { at = at; shape = Some shape; tree = Some (typed shape.width shape.signed (term.number v every)); faults = g.nothing; reads = only_numbers; form = other_form at }

  -- `()` stands behind the name of a size or a reduction only, and a reduction outside of objects
  abbrev pub meaning_faults : ℕ → Bool → Meaning → F
  meaning_faults name call (Wrong w) = when g true w refusal.UnknownName
  meaning_faults name call (LoopOf k) = when g call name refusal.UnknownName
  meaning_faults name call (ItemOf k p) = when g call name refusal.UnknownName
  meaning_faults name call (MemberOf v kind) = when g call name refusal.UnknownName
  meaning_faults name call (PropertyOf p o) = when g call name refusal.UnknownName
  meaning_faults name call (SizeOf p o) = g.nothing
  meaning_faults name call (FoldOf p o f array) = when g (is_some o) array refusal.LeftOut
  meaning_faults name call (VariableOf v kind) = when g call name refusal.UnknownName
  meaning_faults name call (ObjectOf o c) = when g call name refusal.UnknownName

  abbrev pub unmade_faults : Option ℕ → F
  unmade_faults None = g.nothing
  unmade_faults (Some name) = when g true name refusal.NullObject

  -- a path by what it stands for; `name` is its last name, `call` whether `()` stands behind it
  abbrev pub path_part : ℕ → ℕ → Bool → Found → Elab F
  path_part at name call found = record {
    at = at;
    shape = meaning_shape found.meaning;
    tree = meaning_tree found.meaning;
    faults = g.both (unmade_faults found.unmade) (meaning_faults name call found.meaning);
    reads = meaning_reads found.meaning;
    form = meaning_form name found.meaning;
  }

  -- ---- elements and bits (7.4.6 and 11.5.1)

  -- one index behind an array of two dimensions
  abbrev pub row_part : ℕ → Elab F → Elab F → Elab F
  row_part at x i = record {
    at = at;
    shape = x.shape;
    tree = i.tree;
    faults = g.both x.faults i.faults;
    reads = no_constant (and_reads x.reads i.reads);
    form = indexed_form x.form extent.Row (random_at i);
  }

  abbrev pub cell_part : ℕ → Elab F → Elab F → Elab F
  cell_part at x i = record {
    at = at;
    shape = x.shape;
    tree = cell_tree x.form.root x.tree i.tree;
    faults = g.both x.faults i.faults;
    reads = no_constant (and_reads x.reads i.reads);
    form = indexed_form x.form extent.Single (random_at i);
  }

  abbrev pub element_part : ℕ → Elab F → Elab F → Elab F
  element_part at x i = record {
    at = at;
    shape = x.shape;
    tree = element_tree x.form.root i.tree;
    faults = g.both x.faults i.faults;
    reads = no_constant (and_reads x.reads i.reads);
    form = indexed_form x.form extent.Single (random_at i);
  }

  abbrev pub bit_faults : Elab F → Elab F → F
  bit_faults x i =
      g.both x.faults (g.both i.faults (g.both (when g i.reads.random i.at refusal.RandomIndex) (when g (is_object x.form.root) x.form.name refusal.UnknownName)))

  abbrev pub bit_part : ℕ → Elab F → Elab F → Elab F
  bit_part at x i = record {
    at = at;
    shape = Some bit;
    tree = typed_as (Some bit) (bit_node x.tree i.tree x.form.low);
    faults = bit_faults x i;
    reads = no_constant (and_reads x.reads i.reads);
    form = bits_form x.form;
  }

  -- an index behind a whole array
  abbrev pub array_part : ℕ → Elab F → Elab F → Elab F
  array_part at x i = if is_row (element_extent (array_property x.form.root).dims) then row_part at x i else element_part at x i

  abbrev pub index_part : ℕ → Elab F → Elab F → Elab F
  index_part at x i =
      if is_whole x.form.extent then array_part at x i
      else if is_row x.form.extent then cell_part at x i
      else bit_part at x i

  -- `()` behind a select, where none may stand
  abbrev pub with_parens : Bool → Elab F → Elab F
  with_parens call x = record { at = x.at; shape = x.shape; tree = x.tree; faults = g.both x.faults (when g call x.form.name refusal.UnknownName); reads = x.reads; form = x.form }

  abbrev pub slice_faults : Elab F → Elab F → Elab F → Bool → Bool → F
  slice_faults x f l above below =
      g.both x.faults (g.both f.faults (g.both l.faults
      (g.both (when g (not f.reads.constant) f.at refusal.NotConstant) (g.both (when g (not l.reads.constant) l.at refusal.NotConstant)
      (g.both (when g above f.at refusal.BadRange) (when g below l.at refusal.BadRange))))))

  -- a part-select
  abbrev pub slice_part : ℕ → Elab F → Elab F → Elab F → Elab F
  slice_part at x f l =
      let above = is_high x.form.low x.shape (known f) (known l) in
      let below = is_low x.form.low (known l) in
      let shape = part_shape (above || below) (known f) (known l) in
      record {
        at = at;
        shape = shape;
        tree = typed_as shape (part_node x.tree f.tree l.tree x.form.low);
        faults = slice_faults x f l above below;
        reads = no_constant (and_reads x.reads (and_reads f.reads l.reads));
        form = bits_form x.form;
      }

  -- ---- operators (11.4)

  abbrev pub unary_part : ℕ → UnOp → Elab F → Elab F
  unary_part at op x = record {
    at = at;
    shape = unary_shape op x.shape;
    tree = typed_as (unary_shape op x.shape) (option_map (term.unary op) x.tree);
    faults = x.faults;
    reads = x.reads;
    form = other_form at;
  }

  abbrev pub binary_part : ℕ → BinOp → Elab F → Elab F → Elab F
  binary_part at op x y = record {
    at = at;
    shape = binary_shape op x.shape y.shape;
    tree = typed_as (binary_shape op x.shape y.shape) (both_known (term.binary op) x.tree y.tree);
    faults = g.both x.faults y.faults;
    reads = and_reads x.reads y.reads;
    form = other_form at;
  }

  abbrev pub choice_part : ℕ → Elab F → Elab F → Elab F → Elab F
  choice_part at t x y = record {
    at = at;
    shape = choice_shape x.shape y.shape;
    tree = typed_as (choice_shape x.shape y.shape) (all_known term.choice t.tree x.tree y.tree);
    faults = g.both t.faults (g.both x.faults y.faults);
    reads = and_reads t.reads (and_reads x.reads y.reads);
    form = other_form at;
  }

  abbrev pub inside_part : ℕ → Elab F → RangesElab F → Elab F
  inside_part at x rs = record {
    at = at;
    shape = Some bit;
    tree = typed_as (Some bit) (inside_node x.tree rs.trees);
    faults = g.both x.faults rs.faults;
    reads = and_reads x.reads rs.reads;
    form = other_form at;
  }

  -- `$signed` and `$unsigned` (20.5)
  abbrev pub sign_part : ℕ → Bool → Elab F → Elab F
  sign_part at s x =
      let shape = sign_shape s x.shape in
      record { at = at; shape = shape; tree = typed_as shape (option_map (term.sign s) x.tree); faults = x.faults; reads = x.reads; form = other_form at }

  -- parentheses are no node
  abbrev pub paren_part : ℕ → Elab F → Elab F
  paren_part at x = record { at = at; shape = x.shape; tree = x.tree; faults = x.faults; reads = x.reads; form = x.form }

  abbrev pub no_parts : Elabs F
  no_parts = record { trees = Some []; total = Some 0; faults = g.nothing; reads = only_numbers }

  abbrev pub and_part : Elabs F → Elab F → Elabs F
  and_part xs x = record {
    trees = and_more xs.trees x.tree;
    total = and_width xs.total x.shape;
    faults = g.both xs.faults x.faults;
    reads = and_reads xs.reads x.reads;
  }

  -- a concatenation (11.4.12)
  abbrev pub join_part : ℕ → Elabs F → Elab F
  join_part at xs = record {
    at = at;
    shape = option_map bits_wide xs.total;
    tree = typed_as (option_map bits_wide xs.total) (join_node xs.trees);
    faults = g.both xs.faults (when g (is_wide xs.total) at refusal.WiderThan64);
    reads = xs.reads;
    form = other_form at;
  }

  abbrev pub copies_faults : ℕ → Elab F → Elabs F → Bool → Option ℕ → F
  copies_faults at n xs few total =
      g.both n.faults (g.both xs.faults
      (g.both (when g (not n.reads.constant) n.at refusal.NotConstant) (g.both (when g few n.at refusal.BadRange) (when g (is_wide total) at refusal.WiderThan64))))

  -- a replication (11.4.12.1)
  abbrev pub copies_part : ℕ → Elab F → Elabs F → Elab F
  copies_part at n xs =
      let total = copies_total (known n) xs.total in
      record {
        at = at;
        shape = option_map bits_wide total;
        tree = typed_as (option_map bits_wide total) (copies_node n.tree xs.trees);
        faults = copies_faults at n xs (is_too_few (known n)) total;
        reads = and_reads n.reads xs.reads;
        form = other_form at;
      }

  -- ---- reductions of arrays (7.12.3)

  abbrev pub reduce_faults : Elab F → Elab F → F
  reduce_faults x body =
      g.both x.faults (g.both (when g (is_no_array x) x.form.name refusal.UnknownName) (g.both (when g (is_in_object x.form.root) x.form.name refusal.LeftOut) body.faults))

  abbrev pub reduce_part : ℕ → Fold → Elab F → Elab F → Elab F
  reduce_part at f x body = record {
    at = at;
    shape = body.shape;
    tree = typed_as body.shape (array_node x.form.root f body.tree);
    faults = reduce_faults x body;
    reads = no_constant (and_reads x.reads body.reads);
    form = other_form at;
  }

  -- ---- members of sets (11.4.13)

  abbrev pub value_range : Elab F → RangeElab F
  value_range x = record { tree = option_map term.one x.tree; faults = x.faults; reads = x.reads }

  abbrev pub span_range : BoundElab F → BoundElab F → RangeElab F
  span_range l h = record { tree = both_known term.span l.tree h.tree; faults = g.both l.faults h.faults; reads = and_reads l.reads h.reads }

  abbrev pub value_bound : Elab F → BoundElab F
  value_bound x = record { tree = option_map term.value x.tree; faults = x.faults; reads = x.reads }

  abbrev pub dollar_bound : BoundElab F
  dollar_bound = record { tree = Some term.dollar; faults = g.nothing; reads = only_numbers }

  abbrev pub no_ranges : RangesElab F
  no_ranges = record { trees = Some []; faults = g.nothing; reads = only_numbers }

  abbrev pub and_range : RangesElab F → RangeElab F → RangesElab F
  and_range rs r = record { trees = and_more rs.trees r.tree; faults = g.both rs.faults r.faults; reads = and_reads rs.reads r.reads }

  -- ---- the whole

  abbrev mutual
    pub elab : Space → ExprTree → Elab F
    elab n (raw.number at v w s) = literal at v w s
    elab n (raw.path at s names call) = path_part at (last_name at names) call (look n s names)
    elab n (raw.bit_select at x i call) = with_parens call (index_part at (elab n x) (plain (elab n i)))
    elab n (raw.part_select at x f l call) = with_parens call (slice_part at (plain (elab n x)) (plain (elab n f)) (plain (elab n l)))
    elab n (raw.unary at op x) = unary_part at op (plain (elab n x))
    elab n (raw.binary at op x y) = binary_part at op (plain (elab n x)) (plain (elab n y))
    elab n (raw.choice at t x y) = choice_part at (plain (elab n t)) (plain (elab n x)) (plain (elab n y))
    elab n (raw.inside at x rs) = inside_part at (plain (elab n x)) (ranges n no_ranges rs)
    elab n (raw.join at xs) = join_part at (parts n no_parts xs)
    elab n (raw.copies at c xs) = copies_part at (plain (elab n c)) (parts n no_parts xs)
    elab n (raw.sign at s x) = sign_part at s (plain (elab n x))
    elab n (raw.paren at x) = paren_part at (sole (elab n x))
    elab n (raw.reduce at x f item body) =
        reduce_part at f (sole (elab n x)) (plain (elab (body_space n (elab n x) (argument_name item)) body))

    pub parts : Space → Elabs F → ExprTrees → Elabs F
    parts n start raw.no_exprs = start
    parts n start (raw.more_exprs x xs) = parts n (and_part start (plain (elab n x))) xs

    -- a member of a set may be an array
    pub ranges : Space → RangesElab F → RangeTrees → RangesElab F
    ranges n start raw.no_ranges = start
    ranges n start (raw.more_ranges r rs) = ranges n (and_range start (range n r)) rs

    pub range : Space → RangeTree → RangeElab F
    range n (raw.one x) = value_range (sole (elab n x))
    range n (raw.span l h) = span_range (bound n l) (bound n h)

    pub bound : Space → BoundTree → BoundElab F
    bound n (raw.value x) = value_bound (plain (elab n x))
    bound n raw.dollar = dollar_bound

  abbrev pub value : Space → ExprTree → Elab F
  value n e = plain (elab n e)
