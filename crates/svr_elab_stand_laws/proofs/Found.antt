-- What is found at a path in a constraint: a loop around it, a property of the class, or a size or a reduction of one of its arrays, in no object, or a variable.
use Rattle.std.proofs.Common.{◌≡◌, ◌<◌, ℕ, ◌+◌, Bool, true, false, not, ◌||◌, if◌then◌else◌, List, [], ◌∷◌, length, Option, None, Some, option_map, refl, sym, subst, ◌∙◌, arith}
use Rattle.std.specs.Prelude.{⊤}
use Rattle.std.specs.List.{list_any}
use Rattle.svr_operator.specs.declared.Fold.{Fold}
use Rattle.svr_tree.specs.declared.Scope.{Scope}
use Rattle.svr_tree.specs.declared.Scope.TheVariants as scope
use Rattle.svr_elab_names.specs.declared.Vector.{Vector}
use Rattle.svr_elab_names.specs.declared.Property.{Property}
use Rattle.svr_elab_names.specs.declared.Global.{Global}
use Rattle.svr_elab_names.specs.declared.Global.TheVariants as global
use Rattle.svr_elab_names.specs.declared.VarStand.{VarStand}
use Rattle.svr_elab_names.specs.declared.VarStand.TheVariants as var_stand
use Rattle.svr_elab_names.specs.declared.Meaning.{Meaning}
use Rattle.svr_elab_names.specs.declared.Meaning.TheVariants.{Wrong, LoopOf, ItemOf, MemberOf, PropertyOf, SizeOf, FoldOf, VariableOf, ObjectOf}
use Rattle.svr_elab_names.specs.Names.{Space, PropName, VarName, Loop, look, find_from, member_meaning, stand_meaning, loop_named, loop_meaning, method, fold_named, fold_meaning, behind, and_more, is_array, is_same, size_word, or_else, only_if, first_meaning, as_property, as_variable, as_member, property_named, property_of_object, class_props, plain_property, unknown_property, followed, object_path, is_statement, is_in_line}
use Rattle.svr_elab_part.specs.Fits.{Each}
use Rattle.svr_elab_part.proofs.Looked.{OptionIs}

false_true : false ≡ true → ⊥
false_true h = cc

true_false : true ≡ false → ⊥
true_false h = cc

-- ---- options

one_of_two : {A : Type 0} (P : A → Type 0) (b : Bool) (x y : A) → P x → P y → P (if b then x else y)
one_of_two P true x y h k = h
one_of_two P false x y h k = k

the_other : {A : Type 0} (P : A → Type 0) (b : Bool) (x y : A) → b ≡ false → P y → P (if b then x else y)
the_other P true x y e k = absurd (true_false e)
the_other P false x y e k = k

or_is : {A : Type 0} (P : A → Type 0) (x y : Option A) → OptionIs P x → OptionIs P y → OptionIs P (or_else x y)
or_is P None y h k = k
or_is P (Some x) y h k = h

if_when : {A : Type 0} (P : A → Type 0) (b : Bool) (x : Option A) → (b ≡ true → OptionIs P x) → OptionIs P (only_if b x)
if_when P true x h = h refl
if_when P false x h = tt

or_second : (a b : Bool) → a ≡ false → (a || b) ≡ true → b ≡ true
or_second true b h k = absurd (true_false h)
or_second false b h k = k

map_is : {A B : Type 0} (P : B → Type 0) (f : A → B) (x : Option A) → OptionIs (λ x. P (f x)) x → OptionIs P (option_map f x)
map_is P f None h = tt
map_is P f (Some x) h = h

found_below : {A : Type 0} (name_of : A → List ℕ) (q : List ℕ) (n : ℕ) (xs : List A) → OptionIs (λ (f : ℕ × A). f.0 < n + length xs) (find_from name_of q n xs)
found_below {A = A} name_of q n [] = tt
found_below {A = A} name_of q n (x ∷ xs) =
    one_of_two (OptionIs (λ (f : ℕ × A). f.0 < n + length (x ∷ xs))) (is_same q (name_of x)) (Some (n, x)) (find_from name_of q (n + 1) xs) first
    (later (find_from name_of q (n + 1) xs) (found_below name_of q (n + 1) xs))
  where
    first : n < n + length (x ∷ xs)
    first = omega arith

    step : (k : ℕ) → k < n + 1 + length xs → k < n + length (x ∷ xs)
    step k h = omega (arith, h)

    later : (f : Option (ℕ × A)) → OptionIs (λ (f : ℕ × A). f.0 < n + 1 + length xs) f → OptionIs (λ (f : ℕ × A). f.0 < n + length (x ∷ xs)) f
    later None h = tt
    later (Some f) h = step f.0 h

both_are : {A : Type 0} (P Q : A → Type 0) (x : Option A) → OptionIs P x → OptionIs Q x → OptionIs (λ x. P x × Q x) x
both_are P Q None h k = tt
both_are P Q (Some x) h k = (h, k)

found_is : {A : Type 0} (P : A → Type 0) (name_of : A → List ℕ) (q : List ℕ) (n : ℕ) (xs : List A) → Each P xs → OptionIs (λ (f : ℕ × A). P f.1) (find_from name_of q n xs)
found_is {A = A} P name_of q n [] h = tt
found_is {A = A} P name_of q n (x ∷ xs) h =
    one_of_two (OptionIs (λ (f : ℕ × A). P f.1)) (is_same q (name_of x)) (Some (n, x)) (find_from name_of q (n + 1) xs) h.0 (found_is P name_of q (n + 1) xs h.1)

-- ---- names: Q holds of each property, R of each variable, and so many loops stand around

module _ (Q : Property → Type 0) (R : ℕ → Option Vector → Type 0) (depth : ℕ) where
  abbrev pub MeaningIs : Meaning → Type 0
  MeaningIs (Wrong w) = ⊤
  MeaningIs (LoopOf k) = k < depth
  MeaningIs (ItemOf k p) = (k < depth) × Q p × (is_array p.dims ≡ true)
  MeaningIs (MemberOf v kind) = ⊤
  MeaningIs (PropertyOf p o) = Q p × (o ≡ None)
  MeaningIs (SizeOf p o) = Q p × (o ≡ None) × (is_array p.dims ≡ true)
  MeaningIs (FoldOf p o f array) = Q p × (o ≡ None) × (is_array p.dims ≡ true)
  MeaningIs (VariableOf v kind) = R v kind
  MeaningIs (ObjectOf o c) = ⊤

  abbrev pub ItemIs : Option Property → Type 0
  ItemIs None = ⊤
  ItemIs (Some p) = Q p × (is_array p.dims ≡ true)

  abbrev pub VarIs : ℕ → VarStand → Type 0
  VarIs v (var_stand.OfNumber kind) = R v kind
  VarIs v (var_stand.OfObject c) = ⊤

  abbrev pub VarsAre : ℕ → List VarName → Type 0
  VarsAre v [] = ⊤
  VarsAre v (x ∷ xs) = VarIs v x.stands × VarsAre (v + 1) xs

  pub record PlaceIs (n : Space) : Type 0 where
    pub region : is_statement n.region ≡ false
    pub props : Each (λ (p : PropName). Q p.property) n.props
    pub later : n.later ≡ []
    pub loops : Each (λ (l : Loop). ItemIs l.item) n.loops
    pub around : length n.loops ≡ depth
    pub vars : is_in_line n.region ≡ true → VarsAre 0 n.vars

  fold_is : (p : Property) (o : Option ℕ) (array name : ℕ) (f : Option Fold) → Q p → o ≡ None → is_array p.dims ≡ true → MeaningIs (fold_meaning p o array name f)
  fold_is p o array name None h e a = tt
  fold_is p o array name (Some f) h e a = (h, e, a)

  an_array : (b : Bool) (x y : Meaning) → MeaningIs x → (b ≡ true → MeaningIs y) → MeaningIs (if not b then x else y)
  an_array true x y h k = k refl
  an_array false x y h k = h

  method_is : (text : ℕ → List ℕ) (p : Property) (o : Option ℕ) (array name : ℕ) → Q p → o ≡ None → MeaningIs (method text p o array name)
  method_is text p o array name h e =
      an_array (is_array p.dims) (Wrong name) (if is_same (text name) size_word then SizeOf p o else fold_meaning p o array name (fold_named (text name))) tt
      (λ a. one_of_two MeaningIs (is_same (text name) size_word) (SizeOf p o) (fold_meaning p o array name (fold_named (text name))) (h, e, a) (fold_is p o array name (fold_named (text name)) h e a))

  behind_is : (text : ℕ → List ℕ) (m : Meaning) (last name : ℕ) → MeaningIs m → MeaningIs (behind text m last name)
  behind_is text (Wrong w) last name h = tt
  behind_is text (LoopOf k) last name h = tt
  behind_is text (ItemOf k p) last name h = tt
  behind_is text (MemberOf v k) last name h = tt
  behind_is text (PropertyOf p o) last name h = method_is text p o last name h.0 h.1
  behind_is text (SizeOf p o) last name h = tt
  behind_is text (FoldOf p o f array) last name h = tt
  behind_is text (VariableOf v k) last name h = tt
  behind_is text (ObjectOf o c) last name h = tt

  more_is : (text : ℕ → List ℕ) (m : Meaning) (last : ℕ) (names : List ℕ) → MeaningIs m → MeaningIs (and_more text m last names)
  more_is text m last [] h = h
  more_is text m last (name ∷ names) h = more_is text (behind text m last name) name names (behind_is text m last name h)

  stand_meaning_is : (number : ℕ) (s : VarStand) → VarIs number s → MeaningIs (stand_meaning number s)
  stand_meaning_is number (var_stand.OfNumber kind) h = h
  stand_meaning_is number (var_stand.OfObject c) h = tt

  var_found : (q : List ℕ) (v : ℕ) (xs : List VarName) → VarsAre v xs → OptionIs (λ (f : ℕ × VarName). VarIs f.0 f.1.stands) (find_from (λ v. v.name) q v xs)
  var_found q v [] h = tt
  var_found q v (x ∷ xs) h =
      one_of_two (OptionIs (λ (f : ℕ × VarName). VarIs f.0 f.1.stands)) (is_same q x.name) (Some (v, x)) (find_from (λ v. v.name) q (v + 1) xs) h.0 (var_found q (v + 1) xs h.1)

  variable_is : (f : Option (ℕ × VarName)) → OptionIs (λ (f : ℕ × VarName). VarIs f.0 f.1.stands) f → OptionIs MeaningIs (option_map (λ f. stand_meaning f.0 f.1.stands) f)
  variable_is None h = tt
  variable_is (Some f) h = stand_meaning_is f.0 f.1.stands h

  loop_meaning_is : (level : ℕ) (p : Option Property) → level < depth → ItemIs p → MeaningIs (loop_meaning level p)
  loop_meaning_is level None b h = b
  loop_meaning_is level (Some p) b h = (b, h.0, h.1)

  loop_is : (f : Option (ℕ × Loop)) → OptionIs (λ (f : ℕ × Loop). (f.0 < depth) × ItemIs f.1.item) f → OptionIs MeaningIs (option_map (λ f. loop_meaning f.0 f.1.item) f)
  loop_is None h = tt
  loop_is (Some f) h = loop_meaning_is f.0 f.1.item h.0 h.1

  member_is : (g : Option Global) → OptionIs MeaningIs (member_meaning g)
  member_is None = tt
  member_is (Some (global.OfType kind)) = tt
  member_is (Some (global.OfClass c)) = tt
  member_is (Some (global.OfMember v kind)) = tt

  property_is : (ps : List PropName) (q : List ℕ) → Each (λ (p : PropName). Q p.property) ps → OptionIs Q (property_named ps q)
  property_is ps q h =
      map_is Q (λ (f : ℕ × PropName). f.1.property) (find_from (λ p. p.name) q 0 ps) (found_is (λ (p : PropName). Q p.property) (λ p. p.name) q 0 ps h)

  plain_is : (p : Option Property) → OptionIs Q p → OptionIs MeaningIs (option_map plain_property p)
  plain_is None h = tt
  plain_is (Some p) h = (h, refl)

  module _ (n : Space) (m : PlaceIs n) where
    as_member_is : (q : List ℕ) → OptionIs MeaningIs (as_member n q)
    as_member_is q = member_is (option_map (λ f. f.1.stands) (find_from (λ g. g.name) q 0 n.globals))

    none_later : (q : List ℕ) → OptionIs MeaningIs (only_if (list_any (is_same q) n.later) (Some (plain_property unknown_property)))
    none_later q =
        let P : List (List ℕ) → Type 0 = λ later. OptionIs MeaningIs (only_if (list_any (is_same q) later) (Some (plain_property unknown_property))) in
        subst P (sym m.later) tt

    as_property_is : (q : List ℕ) → OptionIs MeaningIs (as_property n q)
    as_property_is q =
        or_is MeaningIs (option_map plain_property (property_named n.props q)) (only_if (list_any (is_same q) n.later) (Some (plain_property unknown_property)))
        (plain_is (property_named n.props q) (property_is n.props q m.props)) (none_later q)

    as_variable_is : is_in_line n.region ≡ true → (q : List ℕ) → OptionIs MeaningIs (as_variable n q)
    as_variable_is e q = variable_is (find_from (λ v. v.name) q 0 n.vars) (var_found q 0 n.vars (m.vars e))

    not_there : is_statement n.region ≡ true → ⊥
    not_there e = true_false (sym e ∙ m.region)

    loop_below : (q : List ℕ) → OptionIs (λ (f : ℕ × Loop). f.0 < depth) (find_from (λ l. l.name) q 0 n.loops)
    loop_below q =
        let around = m.around in
        let counted : 0 + length n.loops ≡ depth = omega (arith, around) in
        let P : ℕ → Type 0 = λ k. OptionIs (λ (f : ℕ × Loop). f.0 < k) (find_from (λ l. l.name) q 0 n.loops) in
        subst P counted (found_below (λ l. l.name) q 0 n.loops)

    as_loop_is : (q : List ℕ) → OptionIs MeaningIs (loop_named n.loops q)
    as_loop_is q =
        loop_is (find_from (λ l. l.name) q 0 n.loops)
        (both_are (λ (f : ℕ × Loop). f.0 < depth) (λ (f : ℕ × Loop). ItemIs f.1.item) (find_from (λ l. l.name) q 0 n.loops) (loop_below q) (found_is (λ (l : Loop). ItemIs l.item) (λ l. l.name) q 0 n.loops m.loops))

    first_is : (s : Scope) (q : List ℕ) → OptionIs MeaningIs (first_meaning n s q)
    first_is scope.This q = as_property_is q
    first_is scope.Local q =
        or_is MeaningIs (only_if (is_statement n.region || is_in_line n.region) (as_variable n q)) (as_member n q)
        (if_when MeaningIs (is_statement n.region || is_in_line n.region) (as_variable n q) (λ e. as_variable_is (or_second (is_statement n.region) (is_in_line n.region) m.region e) q)) (as_member_is q)
    first_is scope.Plain q =
        let after : Option Meaning = only_if (is_in_line n.region) (as_variable n q) in
        let before : Option Meaning = only_if (is_statement n.region) (as_variable n q) in
        or_is MeaningIs (loop_named n.loops q) (or_else (as_property n q) (or_else before (or_else (as_member n q) after))) (as_loop_is q)
        (or_is MeaningIs (as_property n q) (or_else before (or_else (as_member n q) after)) (as_property_is q)
        (or_is MeaningIs before (or_else (as_member n q) after) (if_when MeaningIs (is_statement n.region) (as_variable n q) (λ e. absurd (not_there e)))
        (or_is MeaningIs (as_member n q) after (as_member_is q) (if_when MeaningIs (is_in_line n.region) (as_variable n q) (λ e. as_variable_is e q)))))

    object_is : (first o c : ℕ) (rest : List ℕ) → MeaningIs (object_path n first o c rest).meaning
    object_is first o c [] = one_of_two MeaningIs (is_statement n.region) (ObjectOf o c) (Wrong first) tt tt
    object_is first o c (name ∷ more) =
        the_other MeaningIs (is_statement n.region) (and_more n.text (property_of_object o (property_named (class_props n.classes c) (n.text name)) name) name more) (Wrong first) m.region tt

    followed_is : (first : ℕ) (f : Option Meaning) (rest : List ℕ) → OptionIs MeaningIs f → MeaningIs (followed n first f rest).meaning
    followed_is first None rest h = tt
    followed_is first (Some (Wrong w)) rest h = more_is n.text (Wrong w) first rest h
    followed_is first (Some (LoopOf k)) rest h = more_is n.text (LoopOf k) first rest h
    followed_is first (Some (ItemOf k p)) rest h = more_is n.text (ItemOf k p) first rest h
    followed_is first (Some (MemberOf v k)) rest h = more_is n.text (MemberOf v k) first rest h
    followed_is first (Some (PropertyOf p o)) rest h = more_is n.text (PropertyOf p o) first rest h
    followed_is first (Some (SizeOf p o)) rest h = more_is n.text (SizeOf p o) first rest h
    followed_is first (Some (FoldOf p o f array)) rest h = more_is n.text (FoldOf p o f array) first rest h
    followed_is first (Some (VariableOf v k)) rest h = more_is n.text (VariableOf v k) first rest h
    followed_is first (Some (ObjectOf o c)) rest h = object_is first o c rest

    pub found : (s : Scope) (path : List ℕ) → MeaningIs (look n s path).meaning
    found s [] = tt
    found s (first ∷ rest) = followed_is first (first_meaning n s (n.text first)) rest (first_is s (n.text first))
