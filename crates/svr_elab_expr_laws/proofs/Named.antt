-- What is found at a path is known, where what is declared is.
use Rattle.std.proofs.Common.{sym, subst, ℕ, zero, suc, ◌+◌, Bool, true, false, not, ◌||◌, if◌then◌else◌, List, [], ◌∷◌, Option, None, Some, option_map}
use Rattle.std.specs.Prelude.{⊤, slice_get}
use Rattle.std.specs.List.{list_any}
use Rattle.svr_operator.specs.declared.Fold.{Fold}
use Rattle.svr_tree.specs.declared.Scope.{Scope}
use Rattle.svr_tree.specs.declared.Scope.TheVariants as scope
use Rattle.svr_elab_names.specs.declared.Property.{Property}
use Rattle.svr_elab_names.specs.declared.Global.{Global}
use Rattle.svr_elab_names.specs.declared.Global.TheVariants as global
use Rattle.svr_elab_names.specs.declared.VarStand.{VarStand}
use Rattle.svr_elab_names.specs.declared.VarStand.TheVariants as var_stand
use Rattle.svr_elab_names.specs.declared.Meaning.{Meaning}
use Rattle.svr_elab_names.specs.declared.Meaning.TheVariants.{Wrong, LoopOf, ItemOf, MemberOf, PropertyOf, SizeOf, FoldOf, VariableOf, ObjectOf}
use Rattle.svr_elab_names.specs.Names.{Space, GlobalName, PropName, ClassName, VarName, Loop, look, find_from, member_meaning, stand_meaning, loop_named, loop_meaning, method, fold_named, fold_meaning, behind, and_more, is_array, is_same, size_word, or_else, only_if, first_meaning, as_property, as_variable, as_member, property_named, plain_property, unknown_property, followed, object_path, property_of_object, props_of, class_props, is_statement, is_in_line}
use Rattle.svr_elab_part.specs.Fits.{Each}
use Rattle.svr_elab_part.proofs.Looked.{OptionIs}
use Rattle.svr_elab_expr_laws.specs.Known.{IsKnown, PropertyKnown, ItemKnown, GlobalKnown, StandKnown, NamesKnown}

-- ---- lists

one_of_two : {A : Type 0} (P : A → Type 0) (b : Bool) (x y : A) → P x → P y → P (if b then x else y)
one_of_two P true x y h k = h
one_of_two P false x y h k = k

or_known : {A : Type 0} (P : A → Type 0) (x y : Option A) → OptionIs P x → OptionIs P y → OptionIs P (or_else x y)
or_known P None y h k = k
or_known P (Some x) y h k = h

if_known : {A : Type 0} (P : A → Type 0) (b : Bool) (x : Option A) → OptionIs P x → OptionIs P (only_if b x)
if_known P true x h = h
if_known P false x h = tt

map_known : {A B : Type 0} (P : B → Type 0) (f : A → B) (x : Option A) → OptionIs (λ x. P (f x)) x → OptionIs P (option_map f x)
map_known P f None h = tt
map_known P f (Some x) h = h

found_known : {A : Type 0} (P : A → Type 0) (name_of : A → List ℕ) (q : List ℕ) (n : ℕ) (xs : List A) → Each P xs → OptionIs (λ (f : ℕ × A). P f.1) (find_from name_of q n xs)
found_known {A = A} P name_of q n [] h = tt
found_known {A = A} P name_of q n (x ∷ xs) h =
    one_of_two (OptionIs (λ (f : ℕ × A). P f.1)) (is_same q (name_of x)) (Some (n, x)) (find_from name_of q (n + 1) xs) h.0 (found_known P name_of q (n + 1) xs h.1)

get_known : {A : Type 0} (P : A → Type 0) (xs : List A) (k : ℕ) → Each P xs → OptionIs P (slice_get xs k)
get_known P [] k h = tt
get_known P (x ∷ xs) zero h = h.0
get_known P (x ∷ xs) (suc k) h = get_known P xs k h.1

-- ---- names

abbrev pub MeaningKnown : Meaning → Type 0
MeaningKnown (Wrong w) = ⊤
MeaningKnown (LoopOf k) = ⊤
MeaningKnown (ItemOf k p) = PropertyKnown p
MeaningKnown (MemberOf v kind) = IsKnown v × IsKnown kind
MeaningKnown (PropertyOf p o) = PropertyKnown p
MeaningKnown (SizeOf p o) = PropertyKnown p
MeaningKnown (FoldOf p o f array) = PropertyKnown p
MeaningKnown (VariableOf v kind) = IsKnown kind
MeaningKnown (ObjectOf o c) = ⊤

fold_known : (p : Property) (o : Option ℕ) (array name : ℕ) (f : Option Fold) → PropertyKnown p → MeaningKnown (fold_meaning p o array name f)
fold_known p o array name None h = tt
fold_known p o array name (Some f) h = h

method_known : (text : ℕ → List ℕ) (p : Property) (o : Option ℕ) (array name : ℕ) → PropertyKnown p → MeaningKnown (method text p o array name)
method_known text p o array name h =
    one_of_two MeaningKnown (not (is_array p.dims)) (Wrong name) (if is_same (text name) size_word then SizeOf p o else fold_meaning p o array name (fold_named (text name))) tt
    (one_of_two MeaningKnown (is_same (text name) size_word) (SizeOf p o) (fold_meaning p o array name (fold_named (text name))) h (fold_known p o array name (fold_named (text name)) h))

behind_known : (text : ℕ → List ℕ) (m : Meaning) (last name : ℕ) → MeaningKnown m → MeaningKnown (behind text m last name)
behind_known text (Wrong w) last name h = tt
behind_known text (LoopOf k) last name h = tt
behind_known text (ItemOf k p) last name h = tt
behind_known text (MemberOf v k) last name h = tt
behind_known text (PropertyOf p o) last name h = method_known text p o last name h
behind_known text (SizeOf p o) last name h = tt
behind_known text (FoldOf p o f array) last name h = tt
behind_known text (VariableOf v k) last name h = tt
behind_known text (ObjectOf o c) last name h = tt

more_known : (text : ℕ → List ℕ) (m : Meaning) (last : ℕ) (names : List ℕ) → MeaningKnown m → MeaningKnown (and_more text m last names)
more_known text m last [] h = h
more_known text m last (name ∷ names) h = more_known text (behind text m last name) name names (behind_known text m last name h)

stand_meaning_known : (number : ℕ) (s : VarStand) → StandKnown s → MeaningKnown (stand_meaning number s)
stand_meaning_known number (var_stand.OfNumber kind) h = h
stand_meaning_known number (var_stand.OfObject c) h = tt

variable_known : (f : Option (ℕ × VarName)) → OptionIs (λ (f : ℕ × VarName). StandKnown f.1.stands) f → OptionIs MeaningKnown (option_map (λ f. stand_meaning f.0 f.1.stands) f)
variable_known None h = tt
variable_known (Some f) h = stand_meaning_known f.0 f.1.stands h

loop_meaning_known : (level : ℕ) (p : Option Property) → ItemKnown p → MeaningKnown (loop_meaning level p)
loop_meaning_known level None h = tt
loop_meaning_known level (Some p) h = h

loop_known : (f : Option (ℕ × Loop)) → OptionIs (λ (f : ℕ × Loop). ItemKnown f.1.item) f → OptionIs MeaningKnown (option_map (λ f. loop_meaning f.0 f.1.item) f)
loop_known None h = tt
loop_known (Some f) h = loop_meaning_known f.0 f.1.item h

global_known : (g : Global) → GlobalKnown g → OptionIs MeaningKnown (member_meaning (Some g))
global_known (global.OfType kind) h = tt
global_known (global.OfClass c) h = tt
global_known (global.OfMember v kind) h = h

member_known : (f : Option (ℕ × GlobalName)) → OptionIs (λ (f : ℕ × GlobalName). GlobalKnown f.1.stands) f → OptionIs MeaningKnown (member_meaning (option_map (λ f. f.1.stands) f))
member_known None h = tt
member_known (Some f) h = global_known f.1.stands h

property_known : (ps : List PropName) (q : List ℕ) → Each (λ (p : PropName). PropertyKnown p.property) ps → OptionIs PropertyKnown (property_named ps q)
property_known ps q h =
    map_known PropertyKnown (λ (f : ℕ × PropName). f.1.property) (find_from (λ p. p.name) q 0 ps) (found_known (λ (p : PropName). PropertyKnown p.property) (λ p. p.name) q 0 ps h)

plain_known : (p : Option Property) → OptionIs PropertyKnown p → OptionIs MeaningKnown (option_map plain_property p)
plain_known None h = tt
plain_known (Some p) h = h

class_known : (c : Option ClassName) → OptionIs (λ (c : ClassName). Each (λ (p : PropName). PropertyKnown p.property) c.props) c → Each (λ (p : PropName). PropertyKnown p.property) (props_of c)
class_known None h = tt
class_known (Some c) h = h

module _ (n : Space) (m : NamesKnown n) where
  as_member_known : (q : List ℕ) → OptionIs MeaningKnown (as_member n q)
  as_member_known q = member_known (find_from (λ g. g.name) q 0 n.globals) (found_known (λ (g : GlobalName). GlobalKnown g.stands) (λ g. g.name) q 0 n.globals m.globals)

  none_later : (q : List ℕ) → OptionIs MeaningKnown (only_if (list_any (is_same q) n.later) (Some (plain_property unknown_property)))
  none_later q =
      let P : List (List ℕ) → Type 0 = λ later. OptionIs MeaningKnown (only_if (list_any (is_same q) later) (Some (plain_property unknown_property))) in
      subst P (sym m.later) tt

  as_property_known : (q : List ℕ) → OptionIs MeaningKnown (as_property n q)
  as_property_known q =
      or_known MeaningKnown (option_map plain_property (property_named n.props q)) (only_if (list_any (is_same q) n.later) (Some (plain_property unknown_property)))
      (plain_known (property_named n.props q) (property_known n.props q m.props)) (none_later q)

  as_variable_known : (q : List ℕ) → OptionIs MeaningKnown (as_variable n q)
  as_variable_known q = variable_known (find_from (λ v. v.name) q 0 n.vars) (found_known (λ (v : VarName). StandKnown v.stands) (λ v. v.name) q 0 n.vars m.vars)

  as_loop_known : (q : List ℕ) → OptionIs MeaningKnown (loop_named n.loops q)
  as_loop_known q = loop_known (find_from (λ l. l.name) q 0 n.loops) (found_known (λ (l : Loop). ItemKnown l.item) (λ l. l.name) q 0 n.loops m.loops)

  first_known : (s : Scope) (q : List ℕ) → OptionIs MeaningKnown (first_meaning n s q)
  first_known scope.This q = as_property_known q
  first_known scope.Local q =
      or_known MeaningKnown (only_if (is_statement n.region || is_in_line n.region) (as_variable n q)) (as_member n q)
      (if_known MeaningKnown (is_statement n.region || is_in_line n.region) (as_variable n q) (as_variable_known q)) (as_member_known q)
  first_known scope.Plain q =
      let after : Option Meaning = only_if (is_in_line n.region) (as_variable n q) in
      let before : Option Meaning = only_if (is_statement n.region) (as_variable n q) in
      or_known MeaningKnown (loop_named n.loops q) (or_else (as_property n q) (or_else before (or_else (as_member n q) after))) (as_loop_known q)
      (or_known MeaningKnown (as_property n q) (or_else before (or_else (as_member n q) after)) (as_property_known q)
      (or_known MeaningKnown before (or_else (as_member n q) after) (if_known MeaningKnown (is_statement n.region) (as_variable n q) (as_variable_known q))
      (or_known MeaningKnown (as_member n q) after (as_member_known q) (if_known MeaningKnown (is_in_line n.region) (as_variable n q) (as_variable_known q)))))

  object_property_known : (o : ℕ) (p : Option Property) (name : ℕ) → OptionIs PropertyKnown p → MeaningKnown (property_of_object o p name)
  object_property_known o None name h = tt
  object_property_known o (Some p) name h = h

  object_known : (first o c : ℕ) (rest : List ℕ) → MeaningKnown (object_path n first o c rest).meaning
  object_known first o c [] = one_of_two MeaningKnown (is_statement n.region) (ObjectOf o c) (Wrong first) tt tt
  object_known first o c (name ∷ more) =
      let p : Option Property = property_named (class_props n.classes c) (n.text name) in
      let fits : OptionIs PropertyKnown p =
      property_known (class_props n.classes c) (n.text name)
      (class_known (slice_get n.classes c) (get_known (λ (c : ClassName). Each (λ (p : PropName). PropertyKnown p.property) c.props) n.classes c m.classes)) in
      one_of_two MeaningKnown (is_statement n.region) (and_more n.text (property_of_object o p name) name more) (Wrong first)
      (more_known n.text (property_of_object o p name) name more (object_property_known o p name fits)) tt

  followed_known : (first : ℕ) (f : Option Meaning) (rest : List ℕ) → OptionIs MeaningKnown f → MeaningKnown (followed n first f rest).meaning
  followed_known first None rest h = tt
  followed_known first (Some (Wrong w)) rest h = more_known n.text (Wrong w) first rest h
  followed_known first (Some (LoopOf k)) rest h = more_known n.text (LoopOf k) first rest h
  followed_known first (Some (ItemOf k p)) rest h = more_known n.text (ItemOf k p) first rest h
  followed_known first (Some (MemberOf v k)) rest h = more_known n.text (MemberOf v k) first rest h
  followed_known first (Some (PropertyOf p o)) rest h = more_known n.text (PropertyOf p o) first rest h
  followed_known first (Some (SizeOf p o)) rest h = more_known n.text (SizeOf p o) first rest h
  followed_known first (Some (FoldOf p o f array)) rest h = more_known n.text (FoldOf p o f array) first rest h
  followed_known first (Some (VariableOf v k)) rest h = more_known n.text (VariableOf v k) first rest h
  followed_known first (Some (ObjectOf o c)) rest h = object_known first o c rest

  pub look_known : (s : Scope) (path : List ℕ) → MeaningKnown (look n s path).meaning
  look_known s [] = tt
  look_known s (first ∷ rest) = followed_known first (first_meaning n s (n.text first)) rest (first_known s (n.text first))
