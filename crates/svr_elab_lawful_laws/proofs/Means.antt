-- What a name of a statement stands for is in the design.
use Rattle.std.proofs.Common.{◌≡◌, ℕ, ◌+◌, Bool, true, false, not, ◌||◌, if◌then◌else◌, List, [], ◌∷◌, Option, None, Some, option_map, refl, sym, subst}
use Rattle.std.specs.Prelude.{⊤, slice_get}
use Rattle.std.specs.List.{list_any}
use Rattle.svr_tree.specs.declared.Scope.{Scope}
use Rattle.svr_tree.specs.declared.Scope.TheVariants as scope
use Rattle.svr_operator.specs.declared.Fold.{Fold}
use Rattle.svr_typed.specs.StmtTerm.{DesignTerm}
use Rattle.svr_flat.specs.Flat.{flat_class_of}
use Rattle.svr_design.specs.Statements.{IsObject, IsSomeClass, flat_of, object_props, variable_class}
use Rattle.svr_elab_names.specs.declared.Property.{Property}
use Rattle.svr_elab_names.specs.declared.Global.{Global}
use Rattle.svr_elab_names.specs.declared.Global.TheVariants as global
use Rattle.svr_elab_names.specs.declared.VarStand.{VarStand}
use Rattle.svr_elab_names.specs.declared.VarStand.TheVariants as stand
use Rattle.svr_elab_names.specs.declared.Meaning.{Meaning}
use Rattle.svr_elab_names.specs.declared.Meaning.TheVariants.{Wrong, LoopOf, ItemOf, MemberOf, PropertyOf, SizeOf, FoldOf, VariableOf, ObjectOf}
use Rattle.svr_elab_names.specs.Names.{Space, PropName, VarName, Loop, look, find_from, member_meaning, stand_meaning, loop_named, method, fold_named, fold_meaning, behind, and_more as and_names, is_array, is_same, size_word, or_else, only_if, first_meaning, as_property, as_variable, as_member, property_named, global_named, plain_property, unknown_property, followed, object_path, property_of_object, class_props, is_statement, is_in_line}
use Rattle.svr_elab_part.specs.Fits.{Each}
use Rattle.svr_elab_part.proofs.Looked.{OptionIs}
use Rattle.svr_elab_stand_laws.specs.Stand.{There}
use Rattle.svr_elab_lawful_laws.specs.Reads.{IsVar, VarIs, KindAt, ArrayThere, IsThere, InStatement}
use Rattle.svr_elab_lawful_laws.proofs.Found.{StandsAt, VarAt, as_variable_at}

module _ (d : DesignTerm) where
  -- ---- names

  -- the property of this object variable
  abbrev pub ObjectIs : Property → Option ℕ → Type 0
  ObjectIs p None = ⊥
  ObjectIs p (Some o) = IsObject d o × There p p.kind (slice_get (object_props d o) p.number) × ArrayThere p (slice_get (object_props d o) p.number)

  abbrev pub MeaningReads : Meaning → Type 0
  MeaningReads (Wrong w) = ⊤
  MeaningReads (LoopOf k) = ⊥
  MeaningReads (ItemOf k p) = ⊥
  MeaningReads (MemberOf v kind) = ⊤
  MeaningReads (PropertyOf p o) = ObjectIs p o
  MeaningReads (SizeOf p o) = ObjectIs p o × (is_array p.dims ≡ true)
  MeaningReads (FoldOf p o f array) = ObjectIs p o
  MeaningReads (VariableOf v kind) = KindAt kind (slice_get d.vars v)
  MeaningReads (ObjectOf o c) = variable_class (slice_get d.vars o) ≡ Some c

  one_of_two : {A : Type 0} (P : A → Type 0) (b : Bool) (x y : A) → P x → P y → P (if b then x else y)
  one_of_two P true x y h k = h
  one_of_two P false x y h k = k

  or_reads : (x y : Option Meaning) → OptionIs MeaningReads x → OptionIs MeaningReads y → OptionIs MeaningReads (or_else x y)
  or_reads None y h k = k
  or_reads (Some x) y h k = h

  if_reads : (b : Bool) (x : Option Meaning) → OptionIs MeaningReads x → OptionIs MeaningReads (only_if b x)
  if_reads true x h = h
  if_reads false x h = tt

  fold_reads : (p : Property) (o : Option ℕ) (array name : ℕ) (f : Option Fold) → ObjectIs p o → MeaningReads (fold_meaning p o array name f)
  fold_reads p o array name None h = tt
  fold_reads p o array name (Some f) h = h

  method_reads : (text : ℕ → List ℕ) (p : Property) (o : Option ℕ) (array name : ℕ) → ObjectIs p o → MeaningReads (method text p o array name)
  method_reads text p o array name h = of_array (is_array p.dims) refl
    where
      of_array : (b : Bool) → is_array p.dims ≡ b → MeaningReads (if not b then Wrong name else if is_same (text name) size_word then SizeOf p o else fold_meaning p o array name (fold_named (text name)))
      of_array true a = one_of_two MeaningReads (is_same (text name) size_word) (SizeOf p o) (fold_meaning p o array name (fold_named (text name))) (h, a) (fold_reads p o array name (fold_named (text name)) h)
      of_array false a = tt

  behind_reads : (text : ℕ → List ℕ) (m : Meaning) (last name : ℕ) → MeaningReads m → MeaningReads (behind text m last name)
  behind_reads text (Wrong w) last name h = tt
  behind_reads text (LoopOf k) last name h = tt
  behind_reads text (ItemOf k p) last name h = tt
  behind_reads text (MemberOf v k) last name h = tt
  behind_reads text (PropertyOf p o) last name h = method_reads text p o last name h
  behind_reads text (SizeOf p o) last name h = tt
  behind_reads text (FoldOf p o f array) last name h = tt
  behind_reads text (VariableOf v k) last name h = tt
  behind_reads text (ObjectOf o c) last name h = tt

  more_reads : (text : ℕ → List ℕ) (m : Meaning) (last : ℕ) (names : List ℕ) → MeaningReads m → MeaningReads (and_names text m last names)
  more_reads text m last [] h = h
  more_reads text m last (name ∷ names) h = more_reads text (behind text m last name) name names (behind_reads text m last name h)

  member_reads : (g : Option Global) → OptionIs MeaningReads (member_meaning g)
  member_reads None = tt
  member_reads (Some (global.OfType kind)) = tt
  member_reads (Some (global.OfClass c)) = tt
  member_reads (Some (global.OfMember v kind)) = tt

  found_is : {A : Type 0} (P : A → Type 0) (name_of : A → List ℕ) (q : List ℕ) (n : ℕ) (xs : List A) → Each P xs → OptionIs (λ (f : ℕ × A). P f.1) (find_from name_of q n xs)
  found_is {A = A} P name_of q n [] h = tt
  found_is {A = A} P name_of q n (x ∷ xs) h =
      one_of_two (OptionIs (λ (f : ℕ × A). P f.1)) (is_same q (name_of x)) (Some (n, x)) (find_from name_of q (n + 1) xs) h.0 (found_is P name_of q (n + 1) xs h.1)

  named_is : (P : Property → Type 0) (ps : List PropName) (q : List ℕ) → Each (λ (p : PropName). P p.property) ps → OptionIs P (property_named ps q)
  named_is P ps q h = from (find_from (λ (p : PropName). p.name) q 0 ps) (found_is (λ (p : PropName). P p.property) (λ (p : PropName). p.name) q 0 ps h)
    where
      from : (f : Option (ℕ × PropName)) → OptionIs (λ (f : ℕ × PropName). P f.1.property) f → OptionIs P (option_map (λ f. f.1.property) f)
      from None h = tt
      from (Some f) h = h

  -- an object's property by its name
  object_property : (o c : ℕ) (p : Option Property) (name : ℕ) → variable_class (slice_get d.vars o) ≡ Some c → OptionIs (IsThere (flat_class_of d.classes c).props) p → MeaningReads (property_of_object o p name)
  object_property o c None name e h = tt
  object_property o c (Some p) name e h =
      (subst IsSomeClass (sym e) tt, subst (λ (w : Option ℕ). There p p.kind (slice_get (flat_of d w).props p.number)) (sym e) h.0, subst (λ (w : Option ℕ). ArrayThere p (slice_get (flat_of d w).props p.number)) (sym e) h.1)

  module _ (n : Space) (m : InStatement d n) where
    no_property : (q : List ℕ) → OptionIs MeaningReads (as_property n q)
    no_property q =
        let P : List PropName → List (List ℕ) → Type 0 = λ ps later.
        OptionIs MeaningReads (or_else (option_map plain_property (property_named ps q)) (only_if (list_any (is_same q) later) (Some (plain_property unknown_property)))) in
        subst (λ (ps : List PropName). P ps n.later) (sym m.props) (subst (λ (later : List (List ℕ)). P [] later) (sym m.later) tt)

    no_loop : (q : List ℕ) → OptionIs MeaningReads (loop_named n.loops q)
    no_loop q = subst (λ (ls : List Loop). OptionIs MeaningReads (loop_named ls q)) (sym m.loops) tt

    is_var : (k : ℕ) (s : VarStand) (o : Option VarName) → slice_get n.vars k ≡ o → OptionIs (λ (v : VarName). v.stands ≡ s) o → (o ≡ None → ⊥) → IsVar s o
    is_var k s None e h f = absurd (f refl)
    is_var k s (Some v) e h f = h

    var_is : (k : ℕ) (s : VarStand) → StandsAt n.vars k s → VarIs n.vars k s
    var_is k s h = is_var k s (slice_get n.vars k) refl h.0 h.1

    stand_reads : (number : ℕ) (s : VarStand) → VarAt n.vars (stand_meaning number s) → MeaningReads (stand_meaning number s)
    stand_reads number (stand.OfNumber kind) h = m.numbers number kind (var_is number (stand.OfNumber kind) h)
    stand_reads number (stand.OfObject c) h = m.objects number c (var_is number (stand.OfObject c) h)

    variable_reads : (f : Option (ℕ × VarName)) → OptionIs (VarAt n.vars) (option_map (λ f. stand_meaning f.0 f.1.stands) f) → OptionIs MeaningReads (option_map (λ f. stand_meaning f.0 f.1.stands) f)
    variable_reads None h = tt
    variable_reads (Some f) h = stand_reads f.0 f.1.stands h

    as_variable_reads : (q : List ℕ) → OptionIs MeaningReads (as_variable n q)
    as_variable_reads q = variable_reads (find_from (λ v. v.name) q 0 n.vars) (as_variable_at n q)

    first_reads : (s : Scope) (q : List ℕ) → OptionIs MeaningReads (first_meaning n s q)
    first_reads scope.This q = no_property q
    first_reads scope.Local q =
        or_reads (only_if (is_statement n.region || is_in_line n.region) (as_variable n q)) (as_member n q) (if_reads (is_statement n.region || is_in_line n.region) (as_variable n q) (as_variable_reads q)) (member_reads (global_named n.globals q))
    first_reads scope.Plain q =
        let after : Option Meaning = only_if (is_in_line n.region) (as_variable n q) in
        let before : Option Meaning = only_if (is_statement n.region) (as_variable n q) in
        or_reads (loop_named n.loops q) (or_else (as_property n q) (or_else before (or_else (as_member n q) after))) (no_loop q)
        (or_reads (as_property n q) (or_else before (or_else (as_member n q) after)) (no_property q)
        (or_reads before (or_else (as_member n q) after) (if_reads (is_statement n.region) (as_variable n q) (as_variable_reads q))
        (or_reads (as_member n q) after (member_reads (global_named n.globals q)) (if_reads (is_in_line n.region) (as_variable n q) (as_variable_reads q)))))

    object_reads : (first o c : ℕ) (rest : List ℕ) → variable_class (slice_get d.vars o) ≡ Some c → MeaningReads (object_path n first o c rest).meaning
    object_reads first o c [] e = one_of_two MeaningReads (is_statement n.region) (ObjectOf o c) (Wrong first) e tt
    object_reads first o c (name ∷ more) e =
        let p : Option Property = property_named (class_props n.classes c) (n.text name) in
        one_of_two MeaningReads (is_statement n.region) (and_names n.text (property_of_object o p name) name more) (Wrong first)
        (more_reads n.text (property_of_object o p name) name more
        (object_property o c p name e (named_is (IsThere (flat_class_of d.classes c).props) (class_props n.classes c) (n.text name) (m.classes c)))) tt

    followed_reads : (first : ℕ) (f : Option Meaning) (rest : List ℕ) → OptionIs MeaningReads f → MeaningReads (followed n first f rest).meaning
    followed_reads first None rest h = tt
    followed_reads first (Some (Wrong w)) rest h = more_reads n.text (Wrong w) first rest h
    followed_reads first (Some (LoopOf k)) rest h = more_reads n.text (LoopOf k) first rest h
    followed_reads first (Some (ItemOf k p)) rest h = more_reads n.text (ItemOf k p) first rest h
    followed_reads first (Some (MemberOf v k)) rest h = more_reads n.text (MemberOf v k) first rest h
    followed_reads first (Some (PropertyOf p o)) rest h = more_reads n.text (PropertyOf p o) first rest h
    followed_reads first (Some (SizeOf p o)) rest h = more_reads n.text (SizeOf p o) first rest h
    followed_reads first (Some (FoldOf p o f array)) rest h = more_reads n.text (FoldOf p o f array) first rest h
    followed_reads first (Some (VariableOf v k)) rest h = more_reads n.text (VariableOf v k) first rest h
    followed_reads first (Some (ObjectOf o c)) rest h = object_reads first o c rest h

    pub look_reads : (s : Scope) (path : List ℕ) → MeaningReads (look n s path).meaning
    look_reads s [] = tt
    look_reads s (first ∷ rest) = followed_reads first (first_meaning n s (n.text first)) rest (first_reads s (n.text first))
