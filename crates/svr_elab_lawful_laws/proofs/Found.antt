-- A variable that is found at a path has its place among the variables, whatever else can be named.
use Rattle.std.proofs.Common.{◌≡◌, ℕ, suc, ◌+◌, Bool, true, false, not, ◌||◌, if◌then◌else◌, List, [], ◌∷◌, Option, None, Some, option_map, refl, sym, ap, subst, ◌∙◌, arith}
use Rattle.std.specs.Prelude.{⊤, slice_get}
use Rattle.std.specs.List.{list_any}
use Rattle.svr_operator.specs.declared.Fold.{Fold}
use Rattle.svr_tree.specs.declared.Scope.{Scope}
use Rattle.svr_tree.specs.declared.Scope.TheVariants as scope
use Rattle.svr_tree.specs.ExprTree.{ExprTree}
use Rattle.svr_elab_names.specs.declared.Property.{Property}
use Rattle.svr_elab_names.specs.declared.Global.{Global}
use Rattle.svr_elab_names.specs.declared.Global.TheVariants as global
use Rattle.svr_elab_names.specs.declared.VarStand.{VarStand}
use Rattle.svr_elab_names.specs.declared.VarStand.TheVariants as stand
use Rattle.svr_elab_names.specs.declared.Meaning.{Meaning}
use Rattle.svr_elab_names.specs.declared.Meaning.TheVariants.{Wrong, LoopOf, ItemOf, MemberOf, PropertyOf, SizeOf, FoldOf, VariableOf, ObjectOf}
use Rattle.svr_elab_names.specs.Names.{Space, ClassName, VarName, Loop, look, find_from, member_meaning, stand_meaning, loop_named, loop_meaning, method, fold_named, fold_meaning, behind, and_more, is_array, is_same, size_word, or_else, only_if, first_meaning, as_property, as_variable, as_member, property_named, global_named, plain_property, unknown_property, followed, object_path, property_of_object, class_props, is_statement, is_in_line}
use Rattle.svr_elab_part.proofs.Looked.{OptionIs}
use Rattle.svr_elab_target.specs.Named as target
use Rattle.svr_elab_target.specs.Named.{ObjectPath, object_meant, path_from, path_names, path_scope}

-- ---- the variable of this number is this

abbrev pub StandsAt : List VarName → ℕ → VarStand → Type 0
StandsAt vs k s = OptionIs (λ (v : VarName). v.stands ≡ s) (slice_get vs k) × (slice_get vs k ≡ None → ⊥)

module _ (vs : List VarName) where
  abbrev pub VarAt : Meaning → Type 0
  VarAt (Wrong w) = ⊤
  VarAt (LoopOf k) = ⊤
  VarAt (ItemOf k p) = ⊤
  VarAt (MemberOf v kind) = ⊤
  VarAt (PropertyOf p o) = ⊤
  VarAt (SizeOf p o) = ⊤
  VarAt (FoldOf p o f array) = ⊤
  VarAt (VariableOf v kind) = StandsAt vs v (stand.OfNumber kind)
  VarAt (ObjectOf o c) = StandsAt vs o (stand.OfObject c)

  one_of_two : {A : Type 0} (P : A → Type 0) (b : Bool) (x y : A) → P x → P y → P (if b then x else y)
  one_of_two P true x y h k = h
  one_of_two P false x y h k = k

  or_at : (x y : Option Meaning) → OptionIs VarAt x → OptionIs VarAt y → OptionIs VarAt (or_else x y)
  or_at None y h k = k
  or_at (Some x) y h k = h

  if_at : (b : Bool) (x : Option Meaning) → OptionIs VarAt x → OptionIs VarAt (only_if b x)
  if_at true x h = h
  if_at false x h = tt

  fold_at : (p : Property) (o : Option ℕ) (array name : ℕ) (f : Option Fold) → VarAt (fold_meaning p o array name f)
  fold_at p o array name None = tt
  fold_at p o array name (Some f) = tt

  method_at : (text : ℕ → List ℕ) (p : Property) (o : Option ℕ) (array name : ℕ) → VarAt (method text p o array name)
  method_at text p o array name =
      one_of_two VarAt (not (is_array p.dims)) (Wrong name) (if is_same (text name) size_word then SizeOf p o else fold_meaning p o array name (fold_named (text name))) tt
      (one_of_two VarAt (is_same (text name) size_word) (SizeOf p o) (fold_meaning p o array name (fold_named (text name))) tt (fold_at p o array name (fold_named (text name))))

  behind_at : (text : ℕ → List ℕ) (m : Meaning) (last name : ℕ) → VarAt (behind text m last name)
  behind_at text (Wrong w) last name = tt
  behind_at text (LoopOf k) last name = tt
  behind_at text (ItemOf k p) last name = tt
  behind_at text (MemberOf v k) last name = tt
  behind_at text (PropertyOf p o) last name = method_at text p o last name
  behind_at text (SizeOf p o) last name = tt
  behind_at text (FoldOf p o f array) last name = tt
  behind_at text (VariableOf v k) last name = tt
  behind_at text (ObjectOf o c) last name = tt

  more_at : (text : ℕ → List ℕ) (m : Meaning) (last : ℕ) (names : List ℕ) → VarAt m → VarAt (and_more text m last names)
  more_at text m last [] h = h
  more_at text m last (name ∷ names) h = more_at text (behind text m last name) name names (behind_at text m last name)

  stand_at : (number : ℕ) (s : VarStand) → StandsAt vs number s → VarAt (stand_meaning number s)
  stand_at number (stand.OfNumber kind) h = h
  stand_at number (stand.OfObject c) h = h

  loop_meaning_at : (level : ℕ) (p : Option Property) → VarAt (loop_meaning level p)
  loop_meaning_at level None = tt
  loop_meaning_at level (Some p) = tt

  loop_at : (f : Option (ℕ × Loop)) → OptionIs VarAt (option_map (λ f. loop_meaning f.0 f.1.item) f)
  loop_at None = tt
  loop_at (Some f) = loop_meaning_at f.0 f.1.item

  member_at : (g : Option Global) → OptionIs VarAt (member_meaning g)
  member_at None = tt
  member_at (Some (global.OfType kind)) = tt
  member_at (Some (global.OfClass c)) = tt
  member_at (Some (global.OfMember v kind)) = tt

  plain_at : (p : Option Property) → OptionIs VarAt (option_map plain_property p)
  plain_at None = tt
  plain_at (Some p) = tt

-- the entry that is found is at its place
get_from : (vs : List VarName) (q : List ℕ) (n : ℕ) (all : List VarName) → ((k : ℕ) → slice_get all (n + k) ≡ slice_get vs k)
    → OptionIs (λ (f : ℕ × VarName). slice_get all f.0 ≡ Some f.1) (find_from (λ (v : VarName). v.name) q n vs)
get_from [] q n all h = tt
get_from (v ∷ vs) q n all h =
    let P : Option (ℕ × VarName) → Type 0 = OptionIs (λ (f : ℕ × VarName). slice_get all f.0 ≡ Some f.1) in
    let first : slice_get all n ≡ Some v = ap (slice_get all) (let e : n ≡ n + 0 = omega arith in e) ∙ h 0 in
    one P (is_same q v.name) (Some (n, v)) (find_from (λ (v : VarName). v.name) q (n + 1) vs) first
    (get_from vs q (n + 1) all (λ k. ap (slice_get all) (moved n k) ∙ h (suc k)))
  where
    moved : (n k : ℕ) → (n + 1) + k ≡ n + suc k
    moved n k = omega arith

    one : {A : Type 0} (P : A → Type 0) (b : Bool) (x y : A) → P x → P y → P (if b then x else y)
    one P true x y h k = h
    one P false x y h k = k

stands_there : (vs : List VarName) (k : ℕ) (v : VarName) → slice_get vs k ≡ Some v → StandsAt vs k v.stands
stands_there vs k v e = (subst (λ o. OptionIs (λ (x : VarName). x.stands ≡ v.stands) o) (sym e) refl, λ g. (let f : None ≡ Some v = sym g ∙ e in cc))

named_at : (vs : List VarName) (f : Option (ℕ × VarName)) → OptionIs (λ (f : ℕ × VarName). slice_get vs f.0 ≡ Some f.1) f → OptionIs (VarAt vs) (option_map (λ f. stand_meaning f.0 f.1.stands) f)
named_at vs None h = tt
named_at vs (Some f) h = stand_at vs f.0 f.1.stands (stands_there vs f.0 f.1 h)

module _ (n : Space) where
  pub as_variable_at : (q : List ℕ) → OptionIs (VarAt n.vars) (as_variable n q)
  as_variable_at q = named_at n.vars (find_from (λ v. v.name) q 0 n.vars) (get_from n.vars q 0 n.vars (λ k. ap (slice_get n.vars) (let e : 0 + k ≡ k = omega arith in e)))

  as_property_at : (q : List ℕ) → OptionIs (VarAt n.vars) (as_property n q)
  as_property_at q =
      or_at n.vars (option_map plain_property (property_named n.props q)) (only_if (list_any (is_same q) n.later) (Some (plain_property unknown_property)))
      (plain_at n.vars (property_named n.props q)) (if_at n.vars (list_any (is_same q) n.later) (Some (plain_property unknown_property)) tt)

  as_member_at : (q : List ℕ) → OptionIs (VarAt n.vars) (as_member n q)
  as_member_at q = member_at n.vars (global_named n.globals q)

  first_at : (s : Scope) (q : List ℕ) → OptionIs (VarAt n.vars) (first_meaning n s q)
  first_at scope.This q = as_property_at q
  first_at scope.Local q =
      or_at n.vars (only_if (is_statement n.region || is_in_line n.region) (as_variable n q)) (as_member n q) (if_at n.vars (is_statement n.region || is_in_line n.region) (as_variable n q) (as_variable_at q)) (as_member_at q)
  first_at scope.Plain q =
      let after : Option Meaning = only_if (is_in_line n.region) (as_variable n q) in
      let before : Option Meaning = only_if (is_statement n.region) (as_variable n q) in
      or_at n.vars (loop_named n.loops q) (or_else (as_property n q) (or_else before (or_else (as_member n q) after))) (loop_at n.vars (find_from (λ l. l.name) q 0 n.loops))
      (or_at n.vars (as_property n q) (or_else before (or_else (as_member n q) after)) (as_property_at q)
      (or_at n.vars before (or_else (as_member n q) after) (if_at n.vars (is_statement n.region) (as_variable n q) (as_variable_at q))
      (or_at n.vars (as_member n q) after (as_member_at q) (if_at n.vars (is_in_line n.region) (as_variable n q) (as_variable_at q)))))

  object_property_at : (o : ℕ) (p : Option Property) (name : ℕ) → VarAt n.vars (property_of_object o p name)
  object_property_at o None name = tt
  object_property_at o (Some p) name = tt

  object_at : (first o c : ℕ) (rest : List ℕ) → StandsAt n.vars o (stand.OfObject c) → VarAt n.vars (object_path n first o c rest).meaning
  object_at first o c [] h = one_of_two n.vars (VarAt n.vars) (is_statement n.region) (ObjectOf o c) (Wrong first) h tt
  object_at first o c (name ∷ more) h =
      let p : Option Property = property_named (class_props n.classes c) (n.text name) in
      one_of_two n.vars (VarAt n.vars) (is_statement n.region) (and_more n.text (property_of_object o p name) name more) (Wrong first)
      (more_at n.vars n.text (property_of_object o p name) name more (object_property_at o p name)) tt

  followed_at : (first : ℕ) (f : Option Meaning) (rest : List ℕ) → OptionIs (VarAt n.vars) f → VarAt n.vars (followed n first f rest).meaning
  followed_at first None rest h = tt
  followed_at first (Some (Wrong w)) rest h = more_at n.vars n.text (Wrong w) first rest h
  followed_at first (Some (LoopOf k)) rest h = more_at n.vars n.text (LoopOf k) first rest h
  followed_at first (Some (ItemOf k p)) rest h = more_at n.vars n.text (ItemOf k p) first rest h
  followed_at first (Some (MemberOf v k)) rest h = more_at n.vars n.text (MemberOf v k) first rest h
  followed_at first (Some (PropertyOf p o)) rest h = more_at n.vars n.text (PropertyOf p o) first rest h
  followed_at first (Some (SizeOf p o)) rest h = more_at n.vars n.text (SizeOf p o) first rest h
  followed_at first (Some (FoldOf p o f array)) rest h = more_at n.vars n.text (FoldOf p o f array) first rest h
  followed_at first (Some (VariableOf v k)) rest h = more_at n.vars n.text (VariableOf v k) first rest h
  followed_at first (Some (ObjectOf o c)) rest h = object_at first o c rest h

  pub look_at : (s : Scope) (path : List ℕ) → VarAt n.vars (look n s path).meaning
  look_at s [] = tt
  look_at s (first ∷ rest) = followed_at first (first_meaning n s (n.text first)) rest (first_at s (n.text first))

-- ---- an object that is named stands there

abbrev pub MeantAt : List VarName → Option (ℕ × ℕ) → Type 0
MeantAt vs o = OptionIs (λ (x : ℕ × ℕ). StandsAt vs x.0 (stand.OfObject x.1)) o

meant_at : (vs : List VarName) (m : Meaning) → VarAt vs m → MeantAt vs (object_meant m)
meant_at vs (Wrong w) h = tt
meant_at vs (LoopOf k) h = tt
meant_at vs (ItemOf k p) h = tt
meant_at vs (MemberOf v kind) h = tt
meant_at vs (PropertyOf p o) h = tt
meant_at vs (SizeOf p o) h = tt
meant_at vs (FoldOf p o f array) h = tt
meant_at vs (VariableOf v kind) h = tt
meant_at vs (ObjectOf o c) h = h

path_at : (n : Space) (s : Scope) (names : List ℕ) → MeantAt n.vars (path_from n s names).object
path_at n s [] = tt
path_at n s (name ∷ rest) = meant_at n.vars (look n s (name ∷ [])).meaning (look_at n s (name ∷ []))

pub object_stands : (n : Space) (e : ExprTree) → MeantAt n.vars (target.object_path n e).object
object_stands n e = path_at n (path_scope e) (path_names e)

-- ---- which object a path names goes neither by the classes nor by what has an object

abbrev pub elsewhere : Space → List ClassName → List ℕ → Space
elsewhere n cs made = record n { classes = cs; made = made }

same_meant : (n : Space) (cs : List ClassName) (made : List ℕ) (first : ℕ) (f : Option Meaning) → object_meant (followed (elsewhere n cs made) first f []).meaning ≡ object_meant (followed n first f []).meaning
same_meant n cs made first None = refl
same_meant n cs made first (Some (Wrong w)) = refl
same_meant n cs made first (Some (LoopOf k)) = refl
same_meant n cs made first (Some (ItemOf k p)) = refl
same_meant n cs made first (Some (MemberOf v k)) = refl
same_meant n cs made first (Some (PropertyOf p o)) = refl
same_meant n cs made first (Some (SizeOf p o)) = refl
same_meant n cs made first (Some (FoldOf p o f array)) = refl
same_meant n cs made first (Some (VariableOf v k)) = refl
same_meant n cs made first (Some (ObjectOf o c)) = refl

same_path : (n : Space) (cs : List ClassName) (made : List ℕ) (s : Scope) (names : List ℕ) → path_from (elsewhere n cs made) s names ≡ path_from n s names
same_path n cs made s [] = refl
same_path n cs made s (name ∷ rest) =
    ap (λ (o : Option (ℕ × ℕ)). (let p : ObjectPath = record { first = name; rest = rest; object = o } in p)) (named s)
  where
    named : (s : Scope) → object_meant (look (elsewhere n cs made) s (name ∷ [])).meaning ≡ object_meant (look n s (name ∷ [])).meaning
    named scope.This = same_meant n cs made name (first_meaning n scope.This (n.text name))
    named scope.Local = same_meant n cs made name (first_meaning n scope.Local (n.text name))
    named scope.Plain = same_meant n cs made name (first_meaning n scope.Plain (n.text name))

pub same_object : (n : Space) (cs : List ClassName) (made : List ℕ) (e : ExprTree) → target.object_path (elsewhere n cs made) e ≡ target.object_path n e
same_object n cs made e = same_path n cs made (path_scope e) (path_names e)
