-- One turn of the walk over the types and classes of a script.
use Rattle.std.proofs.Common.{◌≡◌, ℕ, zero, suc, ◌+◌, ◌<◌, ◌≤◌, List, [], ◌∷◌, map, drop, length, get_or, Option, refl, sym, ap, subst, ◌∙◌, arith}
use Rattle.std.proofs.lemmas.List.{at_drop_more, drop_all}
use Rattle.svr_tree.specs.declared.Top.{Top}
use Rattle.svr_tree.specs.declared.Top.TheVariants as top
use Rattle.svr_tree.specs.declared.TypeDecl.{TypeDecl}
use Rattle.svr_tree.specs.declared.ClassDecl.{ClassDecl}
use Rattle.svr_tree.specs.DeclTree.{TypeTree, ClassTree, type_decl_tree, class_tree}
use Rattle.svr_elab_fault.specs.declared.Fault.{Fault}
use Rattle.svr_elab_fault.specs.Refusals.{first_one}
use Rattle.svr_elab_type.specs.Types.{GlobalsElab, type_decl}
use Rattle.svr_elab_type.specs.Fits.{DeclarationFits}
use Rattle.svr_elab_decl.specs.Fits.{ClassItemsFit}
use Rattle.svr_elab_class.specs.Classes.{class_decl}
use Rattle.svr_elab_tops.specs.InOrder.{types_and_classes, types_behind, classes_behind, TypesFit, ClassesFit}

-- what is there is the first of those that are left
there : {A : Type 0} (xs : List A) (i : ℕ) (x : A) → i < length xs → x ≡ get_or xs i x → drop i xs ≡ x ∷ drop (i + 1) xs
there {A = A} xs i x h e = at_drop_more (λ (xs : List A). xs) xs i x h ∙ ap (λ (x : A). x ∷ drop (i + 1) xs) (sym e)

none_left : {A : Type 0} (n : ℕ) → ◌≡◌ {A = List A} (drop n []) []
none_left {A = A} zero = refl
none_left {A = A} (suc n) = refl

abbrev Known : Type 0
Known = GlobalsElab (Option Fault)

module _ (s : Known) (os : List Top) where
  pub type_turn : (r : Known) (ts : List TypeDecl) (i : ℕ) (t : TypeDecl) (cs : List ClassTree) → i < length ts → t ≡ get_or ts i t → r ≡ type_decl first_one s (type_decl_tree t)
      → types_and_classes first_one r os (map type_decl_tree (drop (i + 1) ts)) cs ≡ types_and_classes first_one s (top.OfType ∷ os) (map type_decl_tree (drop i ts)) cs
  type_turn r ts i t cs h k e =
      ap (λ (r : Known). types_and_classes first_one r os (map type_decl_tree (drop (i + 1) ts)) cs) e
      ∙ sym (ap (λ (ts : List TypeDecl). types_and_classes first_one s (top.OfType ∷ os) (map type_decl_tree ts) cs) (there ts i t h k))

  pub no_type : (ts : List TypeDecl) (i : ℕ) (cs : List ClassTree) → length ts ≤ i
      → types_and_classes first_one s os (map type_decl_tree (drop (i + 1) ts)) cs ≡ types_and_classes first_one s (top.OfType ∷ os) (map type_decl_tree (drop i ts)) cs
  no_type ts i cs h =
      ap (λ (ts : List TypeDecl). types_and_classes first_one s os (map type_decl_tree ts) cs) (drop_all (i + 1) ts (omega (arith, h)))
      ∙ sym (ap (λ (ts : List TypeDecl). types_and_classes first_one s (top.OfType ∷ os) (map type_decl_tree ts) cs) (drop_all i ts h))

  class_none : (ts : List TypeTree) → types_and_classes first_one s os ts [] ≡ types_and_classes first_one s (top.OfClass ∷ os) ts []
  class_none [] = refl
  class_none (t ∷ ts) = refl

  class_next : (ts : List TypeTree) (c : ClassTree) (cs : List ClassTree) → types_and_classes first_one (class_decl first_one s c) os ts cs ≡ types_and_classes first_one s (top.OfClass ∷ os) ts (c ∷ cs)
  class_next [] c cs = refl
  class_next (t ∷ ts) c cs = refl

  pub class_turn : (r : Known) (cs : List ClassDecl) (i : ℕ) (c : ClassDecl) (ts : List TypeTree) → i < length cs → c ≡ get_or cs i c → r ≡ class_decl first_one s (class_tree c)
      → types_and_classes first_one r os ts (map class_tree (drop (i + 1) cs)) ≡ types_and_classes first_one s (top.OfClass ∷ os) ts (map class_tree (drop i cs))
  class_turn r cs i c ts h k e =
      ap (λ (r : Known). types_and_classes first_one r os ts (map class_tree (drop (i + 1) cs))) e
      ∙ class_next ts (class_tree c) (map class_tree (drop (i + 1) cs))
      ∙ sym (ap (λ (cs : List ClassDecl). types_and_classes first_one s (top.OfClass ∷ os) ts (map class_tree cs)) (there cs i c h k))

  pub no_class : (cs : List ClassDecl) (i : ℕ) (ts : List TypeTree) → length cs ≤ i
      → types_and_classes first_one s os ts (map class_tree (drop (i + 1) cs)) ≡ types_and_classes first_one s (top.OfClass ∷ os) ts (map class_tree (drop i cs))
  no_class cs i ts h =
      ap (λ (cs : List ClassDecl). types_and_classes first_one s os ts (map class_tree cs)) (drop_all (i + 1) cs (omega (arith, h)))
      ∙ class_none ts
      ∙ sym (ap (λ (cs : List ClassDecl). types_and_classes first_one s (top.OfClass ∷ os) ts (map class_tree cs)) (drop_all i cs h))

pub type_fits : (ts : List TypeDecl) (i : ℕ) (t : TypeDecl) → i < length ts → t ≡ get_or ts i t → TypesFit 0 (map type_decl_tree (drop i ts)) → DeclarationFits 0 (type_decl_tree t) × TypesFit 0 (map type_decl_tree (drop (i + 1) ts))
type_fits ts i t h k f = let P : List TypeDecl → Type 0 = λ ts. TypesFit 0 (map type_decl_tree ts) in subst P (there ts i t h k) f

pub class_fits : (cs : List ClassDecl) (i : ℕ) (c : ClassDecl) → i < length cs → c ≡ get_or cs i c → ClassesFit 0 (map class_tree (drop i cs)) → ClassItemsFit 0 (class_tree c).items × ClassesFit 0 (map class_tree (drop (i + 1) cs))
class_fits cs i c h k f = let P : List ClassDecl → Type 0 = λ cs. ClassesFit 0 (map class_tree cs) in subst P (there cs i c h k) f

-- what is left behind a place that has none fits too
pub types_fit_on : (ts : List TypeDecl) (i : ℕ) → TypesFit 0 (map type_decl_tree (drop i ts)) → TypesFit 0 (map type_decl_tree (drop (i + 1) ts))
types_fit_on [] i f = let P : List TypeDecl → Type 0 = λ ts. TypesFit 0 (map type_decl_tree ts) in subst P (sym (none_left (i + 1))) tt
types_fit_on (t ∷ ts) zero f = f.1
types_fit_on (t ∷ ts) (suc i) f =
    let P : ℕ → Type 0 = λ n. TypesFit 0 (map type_decl_tree (drop n (t ∷ ts))) in
    subst P (let e : suc (i + 1) ≡ suc i + 1 = omega arith in e) (types_fit_on ts i f)

pub classes_fit_on : (cs : List ClassDecl) (i : ℕ) → ClassesFit 0 (map class_tree (drop i cs)) → ClassesFit 0 (map class_tree (drop (i + 1) cs))
classes_fit_on [] i f = let P : List ClassDecl → Type 0 = λ cs. ClassesFit 0 (map class_tree cs) in subst P (sym (none_left (i + 1))) tt
classes_fit_on (c ∷ cs) zero f = f.1
classes_fit_on (c ∷ cs) (suc i) f =
    let P : ℕ → Type 0 = λ n. ClassesFit 0 (map class_tree (drop n (c ∷ cs))) in
    subst P (let e : suc (i + 1) ≡ suc i + 1 = omega arith in e) (classes_fit_on cs i f)

pub types_fit_behind : (t : Top) (ts : List TypeDecl) (i : ℕ) → TypesFit 0 (map type_decl_tree (drop i ts)) → TypesFit 0 (map type_decl_tree (drop (types_behind t i) ts))
types_fit_behind top.OfType ts i f = types_fit_on ts i f
types_fit_behind top.OfClass ts i f = f

pub classes_fit_behind : (t : Top) (cs : List ClassDecl) (i : ℕ) → ClassesFit 0 (map class_tree (drop i cs)) → ClassesFit 0 (map class_tree (drop (classes_behind t i) cs))
classes_fit_behind top.OfType cs i f = f
classes_fit_behind top.OfClass cs i f = classes_fit_on cs i f

-- ---- the next declaration is a type, or a class

module _ (s r : Known) (t : Top) (ts : List TypeDecl) (cs : List ClassDecl) (i j : ℕ) (os : List Top) where
  abbrev IsTurn : Top → Type 0
  IsTurn t = types_and_classes first_one r os (map type_decl_tree (drop (types_behind t i) ts)) (map class_tree (drop (classes_behind t j) cs))
      ≡ types_and_classes first_one s (t ∷ os) (map type_decl_tree (drop i ts)) (map class_tree (drop j cs))

  pub type_chosen : types_and_classes first_one r os (map type_decl_tree (drop (i + 1) ts)) (map class_tree (drop j cs)) ≡ types_and_classes first_one s (top.OfType ∷ os) (map type_decl_tree (drop i ts)) (map class_tree (drop j cs))
      → t ≡ top.OfType → IsTurn t
  type_chosen h k = subst IsTurn (sym k) h

  pub class_chosen : types_and_classes first_one r os (map type_decl_tree (drop i ts)) (map class_tree (drop (j + 1) cs)) ≡ types_and_classes first_one s (top.OfClass ∷ os) (map type_decl_tree (drop i ts)) (map class_tree (drop j cs))
      → t ≡ top.OfClass → IsTurn t
  class_chosen h k = subst IsTurn (sym k) h

-- there is room for what is still to come
module _ {A : Type 0} (t : Top) (xs ys : List A) (n b i : ℕ) where
  pub type_room : length xs + n < b + (i + 1) → t ≡ top.OfType → length xs + n < b + types_behind t i
  type_room h k = let P : Top → Type 0 = λ t. length xs + n < b + types_behind t i in subst P (sym k) h

  pub types_as_before : length ys + n < b + i → xs ≡ ys → t ≡ top.OfClass → length xs + n < b + types_behind t i
  types_as_before h e k =
      let P : Top → Type 0 = λ t. length xs + n < b + types_behind t i in
      let Q : List A → Type 0 = λ xs. length xs + n < b + i in
      subst P (sym k) (subst Q (sym e) h)

  pub class_room : length xs + n < b + (i + 1) → t ≡ top.OfClass → length xs + n < b + classes_behind t i
  class_room h k = let P : Top → Type 0 = λ t. length xs + n < b + classes_behind t i in subst P (sym k) h

  pub classes_as_before : length ys + n < b + i → xs ≡ ys → t ≡ top.OfType → length xs + n < b + classes_behind t i
  classes_as_before h e k =
      let P : Top → Type 0 = λ t. length xs + n < b + classes_behind t i in
      let Q : List A → Type 0 = λ xs. length xs + n < b + i in
      subst P (sym k) (subst Q (sym e) h)

-- ---- one turn of the walk

pub turned : (s r whole : Known) (os more : List Top) (t : Top) (ts : List TypeDecl) (cs : List ClassDecl) (a b i j : ℕ)
    → types_and_classes first_one r more (map type_decl_tree (drop (types_behind t a) ts)) (map class_tree (drop (classes_behind t b) cs))
    ≡ types_and_classes first_one s (t ∷ more) (map type_decl_tree (drop a ts)) (map class_tree (drop b cs))
    → os ≡ t ∷ more → i ≡ types_behind t a → j ≡ classes_behind t b
    → types_and_classes first_one s os (map type_decl_tree (drop a ts)) (map class_tree (drop b cs)) ≡ whole
    → types_and_classes first_one r more (map type_decl_tree (drop i ts)) (map class_tree (drop j cs)) ≡ whole
turned s r whole os more t ts cs a b i j value left is_i is_j known =
    ap (λ (i : ℕ). types_and_classes first_one r more (map type_decl_tree (drop i ts)) (map class_tree (drop j cs))) is_i
    ∙ ap (λ (j : ℕ). types_and_classes first_one r more (map type_decl_tree (drop (types_behind t a) ts)) (map class_tree (drop j cs))) is_j
    ∙ value
    ∙ ap (λ (os : List Top). types_and_classes first_one s os (map type_decl_tree (drop a ts)) (map class_tree (drop b cs))) (sym left)
    ∙ known

pub room_is : {A : Type 0} (xs : List A) (n b i j : ℕ) → length xs + n < b + i → j ≡ i → length xs + n < b + j
room_is {A = A} xs n b i j h e = let P : ℕ → Type 0 = λ i. length xs + n < b + i in subst P (sym e) h

pub types_fit_at : (t : Top) (ts : List TypeDecl) (a i : ℕ) → TypesFit 0 (map type_decl_tree (drop a ts)) → i ≡ types_behind t a → TypesFit 0 (map type_decl_tree (drop i ts))
types_fit_at t ts a i f e = let P : ℕ → Type 0 = λ n. TypesFit 0 (map type_decl_tree (drop n ts)) in subst P (sym e) (types_fit_behind t ts a f)

pub classes_fit_at : (t : Top) (cs : List ClassDecl) (b j : ℕ) → ClassesFit 0 (map class_tree (drop b cs)) → j ≡ classes_behind t b → ClassesFit 0 (map class_tree (drop j cs))
classes_fit_at t cs b j f e = let P : ℕ → Type 0 = λ n. ClassesFit 0 (map class_tree (drop n cs)) in subst P (sym e) (classes_fit_behind t cs b f)

-- no more types or classes were passed than entries
pub passed_types : (t : Top) (a n i : ℕ) → a ≤ n → i ≡ types_behind t a → i ≤ n + 1
passed_types top.OfType a n i h e = let more : i ≡ a + 1 = e in omega (arith, h, more)
passed_types top.OfClass a n i h e = let same : i ≡ a = e in omega (arith, h, same)

pub passed_classes : (t : Top) (b n j : ℕ) → b ≤ n → j ≡ classes_behind t b → j ≤ n + 1
passed_classes top.OfType b n j h e = let same : j ≡ b = e in omega (arith, h, same)
passed_classes top.OfClass b n j h e = let more : j ≡ b + 1 = e in omega (arith, h, more)
