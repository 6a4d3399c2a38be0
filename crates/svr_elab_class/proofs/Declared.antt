-- What is known after a class, put together of what is known of its parts.
use Rattle.std.proofs.Common.{◌≡◌, ℕ, ◌+◌, List, [], ◌∷◌, ◌++◌, map, length, Option, refl, ap, ◌∙◌}
use Rattle.std.proofs.lemmas.List.{length_push}
use Rattle.svr_typed.specs.declared.EnumType.{EnumType}
use Rattle.svr_tree.specs.DeclTree.{ClassItemTree, ClassTree}
use Rattle.svr_elab_fault.specs.declared.Fault.{Fault}
use Rattle.svr_elab_fault.specs.Refusals.{first_one, earlier}
use Rattle.svr_elab_names.specs.declared.ClassNames.{ClassNames}
use Rattle.svr_elab_names.specs.declared.Global.TheVariants as global
use Rattle.svr_elab_names.specs.Names.{GlobalName, ClassName}
use Rattle.svr_elab_names.specs.Tables.{class_of}
use Rattle.svr_elab_type.specs.Types.{GlobalsElab, and_name, declaring, double_name}
use Rattle.svr_elab_class.specs.Classes.{Head, ClassElab, in_class, head_inside, base_at, own_properties, class_name, class_body, base_faults, label_faults, class_decl}

abbrev Known : Type 0
Known = GlobalsElab (Option Fault)

mapped_last : (cs : List ClassNames) (c : ClassNames) → map class_of (cs ++ c ∷ []) ≡ map class_of cs ++ class_of c ∷ []
mapped_last [] c = refl
mapped_last (x ∷ xs) c = ap (λ (ks : List ClassName). class_of x ∷ ks) (mapped_last xs c)

-- one more class goes last
pub class_last : (cs ds : List ClassNames) (c : ClassNames) → ds ≡ cs ++ c ∷ [] → map class_of ds ≡ map class_of cs ++ class_of c ∷ []
class_last cs ds c e = ap (map class_of) e ∙ mapped_last cs c

pub one_longer : (cs ds : List ClassNames) (c : ClassNames) → ds ≡ cs ++ c ∷ [] → length ds ≡ length cs + 1
one_longer cs ds c e = ap length e ∙ length_push cs c

pub class_pushed : (cs ds ks : List ClassNames) (c : ClassNames) (base : Option ℕ) (q : List ℕ) (p : ClassElab (Option Fault))
    → ds ≡ cs ++ c ∷ [] → class_of c ≡ class_name (map class_of ks) base q p → ks ≡ cs → map class_of ds ≡ map class_of cs ++ class_name (map class_of cs) base q p ∷ []
class_pushed cs ds ks c base q p e h i =
    class_last cs ds c e
    ∙ ap (λ (k : ClassName). map class_of cs ++ k ∷ []) (h ∙ ap (λ (ks : List ClassNames). class_name (map class_of ks) base q p) i)

-- its name stands for the number behind all classes
pub class_named : (gs hs : List GlobalName) (cs ks : List ClassName) (q : List ℕ) (number : ℕ)
    → hs ≡ and_name gs q (global.OfClass number) → number ≡ length ks → ks ≡ cs → hs ≡ and_name gs q (global.OfClass (length cs))
class_named gs hs cs ks q number h e f = h ∙ ap (λ (n : ℕ). and_name gs q (global.OfClass n)) (e ∙ ap length f)

-- what its items come to, between the names and classes that are there
pub class_inside_is : (text : ℕ → List ℕ) (gs : List GlobalName) (cs cs1 cs2 : List ClassName) (enums more : List EnumType) (f : Option Fault) (base : Option ℕ) (c : ClassTree)
    (none later : List (List ℕ)) (is : List ClassItemTree) (number : ℕ) (p : ClassElab (Option Fault))
    → is ≡ c.items → none ≡ [] → later ≡ own_properties text none is → cs1 ≡ cs → number ≡ length cs1 → more ≡ enums → cs2 ≡ cs
    → p ≡ class_body first_one (record { number = number; base = base; enums = more; names = in_class text gs cs2 later [] }) is
    → p ≡ class_body first_one (head_inside (let s : Known = record { names = declaring text gs cs; enums = enums; faults = f } in s) base c) c.items
class_inside_is text gs cs cs1 cs2 enums more f base c none later is number p is_is is_none is_later is_cs1 is_number is_more is_cs2 is_p =
    rw (is_p, is_cs2, is_more, is_number, is_cs1, is_later, is_none, is_is) refl

pub class_declared : (text : ℕ → List ℕ) (gs hs rs : List GlobalName) (cs ds ks : List ClassName) (enums more last : List EnumType) (f g e k tf bf lf a b d : Option Fault) (c : ClassTree) (q : List ℕ)
    (base : Option ℕ) (p : ClassElab (Option Fault))
    → q ≡ text c.name → base ≡ base_at text gs c.base → bf ≡ base_faults first_one text gs c.base → tf ≡ double_name first_one gs q c.name
    → hs ≡ and_name gs q (global.OfClass (length cs)) → ds ≡ cs → more ≡ enums → g ≡ f
    → p ≡ class_body first_one (head_inside (let s : Known = record { names = declaring text hs ds; enums = more; faults = g } in s) base c) c.items
    → lf ≡ label_faults first_one text c.name c.label → a ≡ earlier p.faults lf → b ≡ earlier tf a → d ≡ earlier bf b → e ≡ earlier g d
    → rs ≡ hs → ks ≡ ds ++ class_name ds base q p ∷ [] → last ≡ more → k ≡ e
    → (let r : Known = record { names = declaring text rs ks; enums = last; faults = k } in r)
    ≡ class_decl first_one (record { names = declaring text gs cs; enums = enums; faults = f }) c
class_declared text gs hs rs cs ds ks enums more last f g e k tf bf lf a b d c q base p
    is_q is_base is_bf is_tf is_hs is_ds is_more is_g is_p is_lf is_a is_b is_d is_e is_rs is_ks is_last is_k =
    rw (is_k, is_e, is_d, is_b, is_a, is_last, is_ks, is_rs, is_p, is_hs, is_ds, is_more, is_g, is_lf, is_tf, is_bf, is_base, is_q) refl
