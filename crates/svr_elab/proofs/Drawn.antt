-- What stands in a design, put together of what stands in its parts.
use Rattle.std.proofs.Common.{◌≡◌, ℕ, zero, suc, ◌+◌, ◌<◌, ◌≤◌, List, [], ◌∷◌, ◌++◌, length, map, drop, get_or, reverse, Option, Some, None, option_map, refl, sym, ap, subst, ◌∙◌, arith}
use Rattle.std.specs.Prelude.{slice_get}
use Rattle.std.proofs.lemmas.List.{at_drop_more, drop_all, reverse-append, length-map}
use Rattle.svr_typed.specs.declared.EnumType.{EnumType}
use Rattle.svr_typed.specs.declared.Prop.{Prop}
use Rattle.svr_typed.specs.declared.TVar.{TVar}
use Rattle.svr_typed.specs.declared.TBlock.{TBlock}
use Rattle.svr_typed.specs.ClassTerm.{BlockTerm, ClassTerm, block_terms}
use Rattle.svr_typed.specs.StmtTerm.{StmtTerm, DesignTerm}
use Rattle.svr_elab_names.specs.declared.ClassNames.{ClassNames}
use Rattle.svr_elab_names.specs.Names.{ClassName}
use Rattle.svr_elab_names.specs.Tables.{class_of}
use Rattle.svr_elab_part.specs.Shapes.{and_more}
use Rattle.svr_elab.specs.Script as spec

-- ---- each of a table

no_entry : {E : Type 0} (e : E) → None ≡ Some e → ⊥
no_entry {E = E} e h = cc

same_entry : {E : Type 0} (x e : E) → Some e ≡ Some x → x ≡ e
same_entry {E = E} x e h = cc

one_on : (i : ℕ) → i + 1 ≡ suc i
one_on i = omega arith

past_end : {E X : Type 0} (p : E → X) (es : List E) (i : ℕ) → None ≡ slice_get es i → ◌≡◌ {A = List X} (drop i (map p es)) []
past_end {X = X} p [] zero h = refl
past_end {X = X} p [] (suc i) h = refl
past_end {X = X} p (e ∷ es) zero h = absurd (no_entry e h)
past_end {X = X} p (e ∷ es) (suc i) h = past_end p es i h

past_more : {E X : Type 0} (p : E → X) (es : List E) (i : ℕ) → None ≡ slice_get es i → ◌≡◌ {A = List X} (drop (suc i) (map p es)) []
past_more {X = X} p [] i h = refl
past_more {X = X} p (e ∷ es) zero h = absurd (no_entry e h)
past_more {X = X} p (e ∷ es) (suc i) h = past_more p es i h

none_there : {E : Type 0} (i : ℕ) (e : E) → Some e ≡ slice_get {X = E} [] i → ⊥
none_there {E = E} zero e h = cc
none_there {E = E} (suc i) e h = cc

entry_at : {E X : Type 0} (p : E → X) (es : List E) (i : ℕ) (e : E) → Some e ≡ slice_get es i → drop i (map p es) ≡ p e ∷ drop (suc i) (map p es)
entry_at {E = E} {X = X} p [] i e h = absurd (none_there i e h)
entry_at {E = E} {X = X} p (x ∷ xs) zero e h = ap (λ (x : E). p x ∷ map p xs) (same_entry x e h)
entry_at {E = E} {X = X} p (x ∷ xs) (suc i) e h = entry_at p xs i e h

-- a place that has none adds none
pub known_past : {E X Y : Type 0} (p : E → X) (f : X → Option Y) (known : Option (List Y)) (es : List E) (i : ℕ) → None ≡ slice_get es i
    → spec.each_known f known (drop (i + 1) (map p es)) ≡ spec.each_known f known (drop i (map p es))
known_past {E = E} {X = X} {Y = Y} p f known es i h =
    ap (λ (k : ℕ). spec.each_known f known (drop k (map p es))) (one_on i)
    ∙ ap (λ (xs : List X). spec.each_known f known xs) (past_more p es i h) ∙ sym (ap (λ (xs : List X). spec.each_known f known xs) (past_end p es i h))

pub known_next : {E X Y : Type 0} (p : E → X) (f : X → Option Y) (known more : Option (List Y)) (es : List E) (i : ℕ) (e : E) (y : Option Y) → Some e ≡ slice_get es i → y ≡ f (p e) → more ≡ and_more known y
    → spec.each_known f more (drop (i + 1) (map p es)) ≡ spec.each_known f known (drop i (map p es))
known_next {E = E} {X = X} {Y = Y} p f known more es i e y h is_y is_more =
    ap (λ (k : ℕ). spec.each_known f more (drop k (map p es))) (one_on i)
    ∙ ap (λ (m : Option (List Y)). spec.each_known f m (drop (suc i) (map p es))) (is_more ∙ ap (λ (y : Option Y). and_more known y) is_y)
    ∙ sym (ap (λ (xs : List X). spec.each_known f known xs) (entry_at p es i e h))

fewer : (k n i : ℕ) → k ≡ n → n ≤ i → k ≤ i
fewer k n i e h = omega (arith, e, h)

pub known_end : {E X Y : Type 0} (p : E → X) (f : X → Option Y) (known whole : Option (List Y)) (es : List E) (i : ℕ) → length es ≤ i → spec.each_known f known (drop i (map p es)) ≡ whole → known ≡ whole
known_end {E = E} {X = X} {Y = Y} p f known whole es i h e =
    let few : length (map p es) ≤ i = fewer (length (map p es)) (length es) i (length-map es p) h in
    sym (ap (λ (xs : List X). spec.each_known f known xs) (drop_all i (map p es) few)) ∙ e

-- ---- classes

pub class_is : (c : ClassName) (bs : List BlockTerm) (t : ClassTerm) (ps : List Prop) (known : Option (List Prop)) → t ≡ spec.class_of c bs ps → Some ps ≡ known → Some t ≡ option_map (spec.class_of c bs) known
class_is c bs t ps known h e = ap (λ (t : ClassTerm). Some t) h ∙ ap (λ (k : Option (List Prop)). option_map (spec.class_of c bs) k) e

no_class : (known : Option (List ClassTerm)) (cs : List ClassName) → spec.classes known cs [] ≡ known
no_class known [] = refl
no_class known (c ∷ cs) = refl

last_first : {A B : Type 0} (f : A → B) (xs ys : List A) (x : A) → ys ≡ xs ++ x ∷ [] → map f (reverse ys) ≡ f x ∷ map f (reverse xs)
last_first {A = A} f xs ys x h = ap (λ (ys : List A). map f (reverse ys)) h ∙ ap (map f) (reverse-append xs (x ∷ []))

pub no_blocks : (known : Option (List ClassTerm)) (c : ClassName) (cs : List ClassName) (old new : List (List TBlock)) → old ≡ [] → new ≡ []
    → spec.classes known cs (map block_terms (reverse new)) ≡ spec.classes known (c ∷ cs) (map block_terms (reverse old))
no_blocks known c cs old new h e =
    ap (λ (bs : List (List TBlock)). spec.classes known cs (map block_terms (reverse bs))) e ∙ no_class known cs
    ∙ sym (ap (λ (bs : List (List TBlock)). spec.classes known (c ∷ cs) (map block_terms (reverse bs))) h)

pub class_turn : (known more : Option (List ClassTerm)) (c : ClassName) (cs : List ClassName) (old new : List (List TBlock)) (own : List TBlock) (t : Option ClassTerm)
    → old ≡ new ++ own ∷ [] → t ≡ spec.class c (block_terms own) → more ≡ and_more known t
    → spec.classes more cs (map block_terms (reverse new)) ≡ spec.classes known (c ∷ cs) (map block_terms (reverse old))
class_turn known more c cs old new own t h is_t is_more =
    ap (λ (m : Option (List ClassTerm)). spec.classes m cs (map block_terms (reverse new))) (is_more ∙ ap (λ (t : Option ClassTerm). and_more known t) is_t)
    ∙ sym (ap (λ (bs : List (List BlockTerm)). spec.classes known (c ∷ cs) bs) (last_first block_terms new old own h))

no_names : (known : Option (List ClassTerm)) (bs : List (List BlockTerm)) → spec.classes known [] bs ≡ known
no_names known [] = refl
no_names known (b ∷ bs) = refl

pub classes_end : (known whole : Option (List ClassTerm)) (ns : List ClassNames) (i : ℕ) (bs : List (List BlockTerm)) → length ns ≤ i → spec.classes known (map class_of (drop i ns)) bs ≡ whole → known ≡ whole
classes_end known whole ns i bs h e =
    sym (ap (λ (ns : List ClassNames). spec.classes known (map class_of ns) bs) (drop_all i ns h) ∙ no_names known bs) ∙ e

-- the first of what is left of a list
pub rest_is : {A B : Type 0} (f : A → B) (xs : List A) (i : ℕ) (x : A) → i < length xs → x ≡ get_or xs i x → map f (drop i xs) ≡ f x ∷ map f (drop (i + 1) xs)
rest_is {A = A} f xs i x h e = at_drop_more (map f) xs i x h ∙ ap (λ (x : A). f x ∷ map f (drop (i + 1) xs)) (sym e)

-- ---- the design

pub design_is : (enums : List EnumType) (cs ds : Option (List ClassTerm)) (vs ws : Option (List TVar)) (ss : Option (List StmtTerm)) (r : Option DesignTerm)
    → r ≡ spec.design_of enums cs vs ss → cs ≡ ds → vs ≡ ws → r ≡ spec.design_of enums ds ws ss
design_is enums cs ds vs ws ss r h e f =
    h ∙ ap (λ (cs : Option (List ClassTerm)). spec.design_of enums cs vs ss) e ∙ ap (λ (vs : Option (List TVar)). spec.design_of enums ds vs ss) f
