-- A property is listed by the statements of a script just where those of its design list its place on an object of its class or of one that is derived from it.
use Rattle.std.proofs.Common.{◌≡◌, ℕ, ◌==◌, ℤ, Bool, true, false, ◌&&◌, ◌||◌, if◌then◌else◌, List, [], ◌∷◌, ◌++◌, length, map, Option, None, Some, option_map, is_some, refl, sym, ap, subst, ◌∙◌, true≢false}
use Rattle.std.specs.Prelude.{⊤, MatchOption}
use Rattle.std.specs.List.{list_any}
use Rattle.svr_typed.specs.ExprTerm.{ExprTerm, exprs_of}
use Rattle.svr_typed.specs.ItemTerm.{ItemTerm, items_of}
use Rattle.svr_typed.specs.StmtTerm as stmt_term
use Rattle.svr_typed.specs.StmtTerm.{StmtTerm}
use Rattle.svr_tree.specs.declared.RandomizeArgs.{RandomizeArgs}
use Rattle.svr_tree.specs.declared.RandomizeArgs.TheVariants as args
use Rattle.svr_tree.specs.declared.ModeKind.{ModeKind}
use Rattle.svr_tree.specs.declared.ModeKind.TheVariants as mode_kind
use Rattle.svr_tree.specs.DeclTree as decl
use Rattle.svr_tree.specs.DeclTree.{VarTree, VarDeclaratorTree, VarInitTree}
use Rattle.svr_tree.specs.ItemTree.{ItemTrees}
use Rattle.svr_tree.specs.StmtTree as tree
use Rattle.svr_tree.specs.StmtTree.{StmtTree, StmtTrees, RightTree, RandomizeTree}
use Rattle.svr_refusal.specs.declared.Refusal.TheVariants as refusal
use Rattle.svr_design.specs.Lawful.{list_has, lists, some_lists}
use Rattle.svr_elab_fault.specs.declared.Fault.{Fault}
use Rattle.svr_elab_fault.specs.Refusals.{first_one, when}
use Rattle.svr_elab_names.specs.declared.Property.{Property}
use Rattle.svr_elab_names.specs.declared.VarStand.{VarStand}
use Rattle.svr_elab_names.specs.declared.VarStand.TheVariants as stand
use Rattle.svr_elab_names.specs.Names.{Space, PropName, class_props}
use Rattle.svr_elab_part.specs.Fits.{Each}
use Rattle.svr_elab_part.specs.Elab.{Elab, elab, plain, value}
use Rattle.svr_elab_part.specs.Shapes.{both_known, and_more}
use Rattle.svr_elab_part.proofs.Valued.{none_left, none_right, not_when}
use Rattle.svr_elab_type.specs.Types.{Constant, constant_at, elements}
use Rattle.svr_elab_random.specs.declared.Home.{Home}
use Rattle.svr_elab_random.specs.Random.{is_listed, with_list, classes_with}
use Rattle.svr_elab_target.specs.declared.target.Target.{Target}
use Rattle.svr_elab_target.specs.declared.target.Target.TheVariants as target
use Rattle.svr_elab_target.specs.Targets as targets
use Rattle.svr_elab_target.specs.Targets.{target_of}
use Rattle.svr_elab_target.specs.Named.{ObjectPath, object_path, with_made, numbers_of, use_faults, call_list_of, answer_faults}
use Rattle.svr_elab_stmt.specs.Stmts as spec
use Rattle.svr_elab_stmt.specs.Stmts.{StmtElab, StmtsElab}
use Rattle.svr_elab_unit.specs.Listed as listing
use Rattle.svr_elab_unit.specs.Listed.{and_names, lone_class, listed_in, listed_call}
use Rattle.svr_elab_unit.specs.Vars as vars
use Rattle.svr_elab_unit.specs.Vars.{ValuedElab}
use Rattle.svr_elab_unit.specs.Run as run
use Rattle.svr_elab_expr_laws.specs.Known.{IsKnown}
use Rattle.svr_elab_lawful_laws.proofs.Flats.{listed_at}
use Rattle.svr_elab_lawful_laws.proofs.Declarations.{some_same}
use Rattle.svr_elab_lawful_laws.proofs.Homes.{homes_in, HomeAt}
use Rattle.svr_elab_lawful_laws.proofs.Listing.{no_more, shared, names_listed}
use Rattle.svr_elab_lawful_laws.proofs.Found.{StandsAt, MeantAt, object_stands, elsewhere, same_object}

-- ---- options

first_known : {A B C : Type 0} (f : A → B → C) (x : Option A) (y : Option B) → IsKnown (both_known f x y) → IsKnown x
first_known f None y h = h
first_known f (Some x) y h = refl

-- both are there, and this is what they give
record Two {A B C : Type 0} (f : A → B → C) (x : Option A) (y : Option B) (z : C) : Type 0 where
  pub one : A
  pub two : B
  pub is_one : x ≡ Some one
  pub is_two : y ≡ Some two
  pub gives : f one two ≡ z

two_of : {A B C : Type 0} (f : A → B → C) (x : Option A) (y : Option B) (z : C) → both_known f x y ≡ Some z → Two f x y z
two_of f None y z e = absurd (let g : None ≡ Some z = e in cc)
two_of f (Some x) None z e = absurd (let g : None ≡ Some z = e in cc)
two_of f (Some x) (Some y) z e = record { one = x; two = y; is_one = refl; is_two = refl; gives = some_same (f x y) z e }

record One {A C : Type 0} (f : A → C) (x : Option A) (z : C) : Type 0 where
  pub one : A
  pub is_one : x ≡ Some one
  pub gives : f one ≡ z

one_from : {A C : Type 0} (f : A → C) (x : Option A) (z : C) → option_map f x ≡ Some z → One f x z
one_from f None z e = absurd (let g : None ≡ Some z = e in cc)
one_from f (Some x) z e = record { one = x; is_one = refl; gives = some_same (f x) z e }

pub known_some : {A : Type 0} (x : Option A) (y : A) → x ≡ Some y → IsKnown x
known_some x y e = ap is_some e

pub some_of : {A : Type 0} (x : Option A) → IsKnown x → (y : A) × (x ≡ Some y)
some_of None h = absurd (true≢false (sym h))
some_of (Some x) h = (x, refl)

-- ---- statements that list nothing

module _ (sh : ℕ → Bool) (p : ℕ) where
  abbrev Quiet : Option StmtTerm → Type 0
  Quiet t = MatchOption t ⊤ (λ t. lists sh p t ≡ false)

  map_quiet : {A : Type 0} (f : A → StmtTerm) (h : (x : A) → lists sh p (f x) ≡ false) (x : Option A) → Quiet (option_map f x)
  map_quiet f h None = tt
  map_quiet f h (Some x) = h x

  both_quiet : {A B : Type 0} (f : A → B → StmtTerm) (h : (x : A) (y : B) → lists sh p (f x y) ≡ false) (x : Option A) (y : Option B) → Quiet (both_known f x y)
  both_quiet f h None y = tt
  both_quiet f h (Some x) None = tt
  both_quiet f h (Some x) (Some y) = h x y

  set_quiet : (t : Target) (x e : Option ExprTerm) → Quiet (spec.set_tree t x e)
  set_quiet target.Nothing x e = tt
  set_quiet (target.Object o) x e = tt
  set_quiet (target.Variable v) x e = map_quiet (stmt_term.set_var v) (λ e. refl) e
  set_quiet (target.Place o q) x e = both_quiet (spec.set_property o q.number) (λ x e. refl) x e
  set_quiet (target.Array o q) x e = tt

  make_quiet : (t : Target) → Quiet (spec.make_tree t)
  make_quiet target.Nothing = tt
  make_quiet (target.Object o) = refl
  make_quiet (target.Variable v) = tt
  make_quiet (target.Place o q) = tt
  make_quiet (target.Array o q) = tt

  resize_quiet : (t : Target) (c : Option ℤ) → Quiet (spec.resize_tree t c)
  resize_quiet target.Nothing c = tt
  resize_quiet (target.Object o) c = tt
  resize_quiet (target.Variable v) c = tt
  resize_quiet (target.Place o q) c = tt
  resize_quiet (target.Array o q) c = map_quiet (λ c. stmt_term.resize o q.number (elements c)) (λ c. refl) c

  pattern_quiet : (t : Target) (vs : Option (List ExprTerm)) → Quiet (spec.pattern_tree t vs)
  pattern_quiet target.Nothing vs = tt
  pattern_quiet (target.Object o) vs = tt
  pattern_quiet (target.Variable v) vs = tt
  pattern_quiet (target.Place o q) vs = tt
  pattern_quiet (target.Array o q) vs = map_quiet (λ (vs : List ExprTerm). stmt_term.pattern o q.number (exprs_of vs)) (λ vs. refl) vs

  mode_quiet : (k : ModeKind) (o : ℕ) (m : Option ℕ) (t : Option ExprTerm) → Quiet (option_map (spec.mode_term k o m) t)
  mode_quiet mode_kind.Rand o m t = map_quiet (spec.mode_term mode_kind.Rand o m) (λ t. refl) t
  mode_quiet mode_kind.Constraint o m t = map_quiet (spec.mode_term mode_kind.Constraint o m) (λ t. refl) t

  modes_quiet : (n : Space) (q : ObjectPath) (k : ModeKind) (on : Elab (Option Fault)) (o : Option (ℕ × ℕ)) → Quiet (spec.mode_of first_one n q k on o).tree
  modes_quiet n q k on None = tt
  modes_quiet n q k on (Some y) = mode_quiet k y.0 _ on.tree

  given_quiet : (x v : Elab (Option Fault)) → Quiet (spec.given first_one x v).tree
  given_quiet x v = either (targets.is_object (target_of v.form))
    where
      either : (b : Bool) → Quiet (if b then spec.copied first_one x v else spec.assigned first_one x (plain first_one v)).tree
      either true = tt
      either false = set_quiet (target_of x.form) x.tree v.tree

  quiet_is : (t : Option StmtTerm) (u : StmtTerm) → Quiet t → t ≡ Some u → lists sh p u ≡ false
  quiet_is None u h e = absurd (let g : None ≡ Some u = e in cc)
  quiet_is (Some t) u h e = subst (λ t. lists sh p t ≡ false) (some_same t u e) h

  some_last : (ts : List StmtTerm) (t : StmtTerm) → some_lists sh p (stmt_term.stmts_of (ts ++ t ∷ [])) ≡ (some_lists sh p (stmt_term.stmts_of ts) || lists sh p t)
  some_last [] t = no_more (lists sh p t)
  some_last (u ∷ ts) t = ap (λ (b : Bool). lists sh p u || b) (some_last ts t) ∙ joined (lists sh p u) (some_lists sh p (stmt_term.stmts_of ts)) (lists sh p t)
    where
      joined : (a b c : Bool) → (a || (b || c)) ≡ ((a || b) || c)
      joined true b c = refl
      joined false b c = refl

-- ---- the statements of a script

joined : (a b c : Bool) → ((a || b) || c) ≡ (a || (b || c))
joined true b c = refl
joined false b c = refl

-- `n` has the variables and classes; `list` are the properties that calls list; `x` is at place p, where its class has this home; `sh` tells of an object variable whether its class has the same property there
module _ (n : Space) (list : List Home) (x : Property) (p home : ℕ) (is_p : x.number ≡ p) (is_home_x : x.home ≡ home) (sh : ℕ → Bool)
    (homes : (c : ℕ) → Each (HomeAt (homes_in (class_props n.classes c))) (class_props n.classes c))
    (shares : (o c : ℕ) → StandsAt n.vars o (stand.OfObject c) → sh o ≡ shared x p home is_p is_home_x (homes_in (class_props n.classes c))) where
  abbrev at : List ℕ → Space
  at made = elsewhere n (classes_with list n.classes) made

  abbrev Lists : List Home → List Home → StmtTerm → Type 0
  Lists hs after t = is_listed after x ≡ (is_listed hs x || lists sh p t)

  quiet : (hs : List Home) (t : Option StmtTerm) (u : StmtTerm) → Quiet sh p t → t ≡ Some u → Lists hs hs u
  quiet hs t u h e = sym (ap (λ (b : Bool). is_listed hs x || b) (quiet_is sh p t u h e) ∙ no_more (is_listed hs x))

  no_list : (b c : Bool) → b ≡ (b || (c && false))
  no_list true c = refl
  no_list false true = refl
  no_list false false = refl

  args_listed : (made : List ℕ) (hs : List Home) (o c : ℕ) (a : RandomizeArgs) → StandsAt n.vars o (stand.OfObject c) → is_listed (listed_in n hs (Some c) a) x ≡ (is_listed hs x || (sh o && list_has (call_list_of (at made) c a) p))
  args_listed made hs o c args.Empty s = no_list (is_listed hs x) (sh o)
  args_listed made hs o c args.Null s = no_list (is_listed hs x) (sh o)
  args_listed made hs o c (args.Names names) s =
      let hm : List ℕ = homes_in (class_props n.classes c) in
      let P : List PropName → Type 0 = λ ps.
      is_listed (and_names n.text (class_props n.classes c) hs names) x ≡ (is_listed hs x || (sh o && list_any (λ q. q == p) (numbers_of n.text ps [] names))) in
      subst P (sym (listed_at list n.classes (Some c)))
      (names_listed x p home is_p is_home_x list hm n.text (class_props n.classes c) (is_listed hs x) names [] hs (homes c) (no_list (is_listed hs x) (shared x p home is_p is_home_x hm))
      ∙ ap (λ (b : Bool). is_listed hs x || (b && list_any (λ q. q == p) (numbers_of n.text (map (with_list list) (class_props n.classes c)) [] names))) (sym (shares o c s)))

  call_listed : (made : List ℕ) (hs : List Home) (first : ℕ) (rest : List ℕ) (whole : Option (ℕ × ℕ)) (answer : Option ℕ) (a : RandomizeArgs) (is : Option ItemTrees) (o : Option (ℕ × ℕ)) → MeantAt n.vars o → (t : StmtTerm)
      → (spec.call_of first_one (at made) (let q : ObjectPath = record { first = first; rest = rest; object = whole } in q) answer a is o).tree ≡ Some t
      → (spec.call_of first_one (at made) (let q : ObjectPath = record { first = first; rest = rest; object = whole } in q) answer a is o).faults ≡ None
      → Lists hs (listed_in n hs (lone_class rest o) a) t
  call_listed made hs first rest whole answer a is None m t e f = absurd (let g : None ≡ Some t = e in cc)
  call_listed made hs first (name ∷ rest) whole answer a is (Some y) m t e f =
      let w1 : Option Fault = use_faults first_one made first (Some y) in
      let w2 : Option Fault = when first_one true name refusal.UnknownName in
      absurd (true≢false (not_when true name refusal.UnknownName (none_left w2 _ (none_right w1 _ f))))
  call_listed made hs first [] whole answer a is (Some y) m t e f =
      let o : One (λ (is : List ItemTerm). stmt_term.call (record { object = y.0; list = call_list_of (at made) y.1 a; items = items_of is; answer = answer })) (spec.in_line_items first_one (at made) y.1 is).trees t =
      one_from _ (spec.in_line_items first_one (at made) y.1 is).trees t e in
      args_listed made hs y.0 y.1 a m ∙ ap (λ t. is_listed hs x || lists sh p t) o.gives

  called : (made : List ℕ) (hs : List Home) (answer : Option ℕ) (c : RandomizeTree) (t : StmtTerm) → (spec.randomized first_one (at made) answer c).tree ≡ Some t → (spec.randomized first_one (at made) answer c).faults ≡ None → Lists hs (listed_call n hs c) t
  called made hs answer c t =
      let q : ObjectPath = object_path n c.path in
      let P : ObjectPath → Type 0 = λ r.
      (spec.call_of first_one (at made) r answer c.args c.items r.object).tree ≡ Some t → (spec.call_of first_one (at made) r answer c.args c.items r.object).faults ≡ None → Lists hs (listed_call n hs c) t in
      subst P (sym (same_object n (classes_with list n.classes) made c.path)) (call_listed made hs q.first q.rest q.object answer c.args c.items q.object (object_stands n c.path) t)

  right_listed : (made : List ℕ) (hs : List Home) (y : Elab (Option Fault)) (r : RightTree) (t : StmtTerm) → (spec.assignment first_one (at made) y r).tree ≡ Some t → (spec.assignment first_one (at made) y r).faults ≡ None → Lists hs (listing.listed_right n hs r) t
  right_listed made hs y (tree.value e) t i f = quiet hs (spec.given first_one y (elab first_one (at made) e)).tree t (given_quiet sh p y (elab first_one (at made) e)) i
  right_listed made hs y (tree.new parens) t i f = quiet hs (spec.make_tree (target_of y.form)) t (make_quiet sh p (target_of y.form)) i
  right_listed made hs y (tree.new_array e) t i f = quiet hs (spec.resize_tree (target_of y.form) (constant_at first_one (at made) e).number) t (resize_quiet sh p (target_of y.form) (constant_at first_one (at made) e).number) i
  right_listed made hs y (tree.pattern b vs) t i f =
      quiet hs (spec.pattern_tree (target_of y.form) (spec.values first_one (at made) y.form.members (spec.no_values first_one) vs).trees) t
      (pattern_quiet sh p (target_of y.form) (spec.values first_one (at made) y.form.members (spec.no_values first_one) vs).trees) i
  right_listed made hs y (tree.answer c) t i f =
      let one : StmtElab (Option Fault) = spec.randomized first_one (at made) (targets.answer_number (target_of y.form)) c in
      called made hs (targets.answer_number (target_of y.form)) c t i (none_right (answer_faults first_one y) one.faults f)

  -- what is there behind others was there before
  before_known : (made : List ℕ) (ss : StmtTrees) (st : StmtsElab (Option Fault)) → IsKnown (spec.stmts first_one (at made) st ss).trees → IsKnown st.trees
  before_known made tree.no_stmts st h = h
  before_known made (tree.more_stmts s ss) st h =
      first_known _ st.trees (spec.stmt first_one (at st.made) s).tree (before_known made ss (spec.and_stmt first_one st (spec.stmt first_one (at st.made) s)) h)

  abbrev So : Bool → List Home → List StmtTerm → Type 0
  So base hs ts = is_listed hs x ≡ (base || some_lists sh p (stmt_term.stmts_of ts))

  -- one more statement
  so_more : (base : Bool) (hs after : List Home) (ts us : List StmtTerm) (t : StmtTerm) → So base hs ts → Lists hs after t → ts ++ t ∷ [] ≡ us → So base after us
  so_more base hs after ts us t h k e =
      k ∙ ap (λ (b : Bool). b || lists sh p t) h ∙ joined base (some_lists sh p (stmt_term.stmts_of ts)) (lists sh p t)
      ∙ ap (λ (b : Bool). base || b) (sym (some_last sh p ts t)) ∙ ap (λ (us : List StmtTerm). base || some_lists sh p (stmt_term.stmts_of us)) e

  mutual
    stmt_listed : (made : List ℕ) (hs : List Home) (s : StmtTree) (t : StmtTerm) → (spec.stmt first_one (at made) s).tree ≡ Some t → (spec.stmt first_one (at made) s).faults ≡ None → Lists hs (listing.listed n hs s) t
    stmt_listed made hs (tree.empty b) t i f = sym (ap (λ t. is_listed hs x || lists sh p t) (sym (some_same (stmt_term.list stmt_term.no_stmts) t i)) ∙ no_more (is_listed hs x))
    stmt_listed made hs (tree.block b ss) t i f =
        let r : StmtsElab (Option Fault) = spec.stmts first_one (at made) (spec.no_stmts first_one made) ss in
        let o : One (λ (ts : List StmtTerm). stmt_term.list (stmt_term.stmts_of ts)) r.trees t = one_from _ r.trees t i in
        stmts_listed made hs ss (spec.no_stmts first_one made) [] (is_listed hs x) o.one refl (sym (no_more (is_listed hs x))) o.is_one f ∙ ap (λ t. is_listed hs x || lists sh p t) o.gives
    stmt_listed made hs (tree.repeat b e s) t i f =
        let c : Constant (Option Fault) = constant_at first_one (at made) e in
        let r : StmtElab (Option Fault) = spec.stmt first_one (at made) s in
        let w : Two (λ c t. stmt_term.repeat (elements c) t) c.number r.tree t = two_of _ c.number r.tree t i in
        stmt_listed made hs s w.two w.is_two (none_right c.faults r.faults f) ∙ ap (λ t. is_listed hs x || lists sh p t) w.gives
    stmt_listed made hs (tree.assign b y r) t i f = right_listed made hs (elab first_one (at made) y) r t i f
    stmt_listed made hs (tree.call b form c) t i f = called made hs None c t i f
    stmt_listed made hs (tree.mode b m) t i f =
        let on : Elab (Option Fault) = value first_one (at made) m.on in
        quiet hs (spec.mode_of first_one (at made) (object_path (at made) m.path) m.kind on (object_path (at made) m.path).object).tree t (modes_quiet sh p (at made) (object_path (at made) m.path) m.kind on (object_path (at made) m.path).object) i

    stmts_listed : (made : List ℕ) (hs : List Home) (ss : StmtTrees) (st : StmtsElab (Option Fault)) (before : List StmtTerm) (base : Bool) (ts : List StmtTerm) → st.trees ≡ Some before → So base hs before → (spec.stmts first_one (at made) st ss).trees ≡ Some ts
        → (spec.stmts first_one (at made) st ss).faults ≡ None → So base (listing.all_listed n hs ss) ts
    stmts_listed made hs tree.no_stmts st before base ts e h i f = subst (So base hs) (some_same before ts (sym e ∙ i)) h
    stmts_listed made hs (tree.more_stmts s ss) st before base ts e h i f =
        let one : StmtElab (Option Fault) = spec.stmt first_one (at st.made) s in
        let next : StmtsElab (Option Fault) = spec.and_stmt first_one st one in
        let k = some_of next.trees (before_known made ss next (known_some _ ts i)) in
        let w : Two (λ (ts : List StmtTerm) (t : StmtTerm). ts ++ t ∷ []) st.trees one.tree k.0 = two_of _ st.trees one.tree k.0 k.1 in
        let same : before ≡ w.one = some_same before w.one (sym e ∙ w.is_one) in
        let clear : next.faults ≡ None = stmts_clear made ss next f in
        stmts_listed made (listing.listed n hs s) ss next k.0 base ts k.1
        (so_more base hs (listing.listed n hs s) w.one k.0 w.two (subst (So base hs) same h) (stmt_listed st.made hs s w.two w.is_two (none_right st.faults one.faults clear)) w.gives) i f

    stmts_clear : (made : List ℕ) (ss : StmtTrees) (st : StmtsElab (Option Fault)) → (spec.stmts first_one (at made) st ss).faults ≡ None → st.faults ≡ None
    stmts_clear made tree.no_stmts st f = f
    stmts_clear made (tree.more_stmts s ss) st f = none_left st.faults _ (stmts_clear made ss (spec.and_stmt first_one st (spec.stmt first_one (at st.made) s)) f)

  -- ---- the initial block, behind the values of variables

  pub tops_known : (made : List ℕ) (ss : List StmtTree) (st : StmtsElab (Option Fault)) → IsKnown (run.tops first_one (at made) st ss).trees → IsKnown st.trees
  tops_known made [] st h = h
  tops_known made (s ∷ ss) st h = first_known _ st.trees (spec.stmt first_one (at st.made) s).tree (tops_known made ss (run.and_top first_one st (run.stmt_start s) (spec.stmt first_one (at st.made) s)) h)

  tops_clear : (made : List ℕ) (ss : List StmtTree) (st : StmtsElab (Option Fault)) → (run.tops first_one (at made) st ss).faults ≡ None → st.faults ≡ None
  tops_clear made [] st f = f
  tops_clear made (s ∷ ss) st f = none_left st.faults _ (tops_clear made ss (run.and_top first_one st (run.stmt_start s) (spec.stmt first_one (at st.made) s)) f)

  pub tops_listed : (made : List ℕ) (hs : List Home) (ss : List StmtTree) (st : StmtsElab (Option Fault)) (before : List StmtTerm) (base : Bool) (ts : List StmtTerm) → st.trees ≡ Some before → So base hs before → (run.tops first_one (at made) st ss).trees ≡ Some ts
      → (run.tops first_one (at made) st ss).faults ≡ None → So base (listing.all_listed n hs (tree.stmts_of ss)) ts
  tops_listed made hs [] st before base ts e h i f = subst (So base hs) (some_same before ts (sym e ∙ i)) h
  tops_listed made hs (s ∷ ss) st before base ts e h i f =
      let one : StmtElab (Option Fault) = spec.stmt first_one (at st.made) s in
      let next : StmtsElab (Option Fault) = run.and_top first_one st (run.stmt_start s) one in
      let k = some_of next.trees (tops_known made ss next (known_some _ ts i)) in
      let w : Two (λ (ts : List StmtTerm) (t : StmtTerm). ts ++ t ∷ []) st.trees one.tree k.0 = two_of _ st.trees one.tree k.0 k.1 in
      let same : before ≡ w.one = some_same before w.one (sym e ∙ w.is_one) in
      let clear : next.faults ≡ None = tops_clear made ss next f in
      tops_listed made (listing.listed n hs s) ss next k.0 base ts k.1
      (so_more base hs (listing.listed n hs s) w.one k.0 w.two (subst (So base hs) same h) (stmt_listed st.made hs s w.two w.is_two (none_left one.faults _ (none_right st.faults _ clear))) w.gives) i f

  -- ---- the values list nothing

  abbrev NoLists : StmtsElab (Option Fault) → Type 0
  NoLists st = MatchOption st.trees ⊤ (λ ts. some_lists sh p (stmt_term.stmts_of ts) ≡ false)

  more_quiet : (ts : Option (List StmtTerm)) (t : Option StmtTerm) → MatchOption ts ⊤ (λ ts. some_lists sh p (stmt_term.stmts_of ts) ≡ false) → Quiet sh p t → MatchOption (and_more ts t) ⊤ (λ ts. some_lists sh p (stmt_term.stmts_of ts) ≡ false)
  more_quiet None t h k = tt
  more_quiet (Some ts) None h k = tt
  more_quiet (Some ts) (Some t) h k = some_last sh p ts t ∙ ap (λ (b : Bool). b || lists sh p t) h ∙ k

  value_quiet : (m : Space) (st : StmtsElab (Option Fault)) (name number : ℕ) (k : VarStand) (i : Option VarInitTree) → NoLists st → NoLists (vars.and_value first_one m st name number k i)
  value_quiet m st name number k None h = h
  value_quiet m st name number k (Some (decl.value e)) h =
      let y : Elab (Option Fault) = vars.left_side first_one name number k in
      let v : Elab (Option Fault) = elab first_one (with_made m st.made) e in
      more_quiet st.trees (spec.given first_one y v).tree h (given_quiet sh p y v)
  value_quiet m st name number k (Some (decl.new parens)) h =
      let y : Elab (Option Fault) = vars.left_side first_one name number k in
      more_quiet st.trees (spec.make_tree (target_of y.form)) h (make_quiet sh p (target_of y.form))

  all_values_quiet : (m : Space) (s : ValuedElab (Option Fault)) (k : VarStand) (ds : List VarDeclaratorTree) → NoLists s.stmts → NoLists (vars.all_valued first_one m s k ds).stmts
  all_values_quiet m s k [] h = h
  all_values_quiet m s k (d ∷ ds) h =
      all_values_quiet m (vars.valued first_one m s k d) k ds (value_quiet (vars.stmt_space m (vars.and_var_name s.vars (m.text d.name) k)) s.stmts d.name (length s.vars) k d.init h)

  pub values_quiet : (m : Space) (s : ValuedElab (Option Fault)) (ks : List VarStand) (vs : List VarTree) → NoLists s.stmts → NoLists (vars.decls_valued first_one m s ks vs).stmts
  values_quiet m s [] vs h = h
  values_quiet m s (k ∷ ks) [] h = h
  values_quiet m s (k ∷ ks) (v ∷ vs) h = values_quiet m (vars.all_valued first_one m s k v.vars) ks vs (all_values_quiet m s k v.vars h)
