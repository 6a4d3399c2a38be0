-- The types and classes of a script, in the order of the text (IEEE 1800-2017, 3.13).
use Rattle.std.specs.Prelude.{ℕ, ◌+◌, List, [], ◌∷◌, ⊤}
use Rattle.svr_tree.specs.declared.Top.{Top}
use Rattle.svr_tree.specs.declared.Top.TheVariants as top
use Rattle.svr_tree.specs.DeclTree.{TypeTree, ClassTree}
use Rattle.svr_elab_fault.specs.Refusals.{Gather}
use Rattle.svr_elab_type.specs.Types.{GlobalsElab, type_decl}
use Rattle.svr_elab_type.specs.Fits.{DeclarationFits}
use Rattle.svr_elab_decl.specs.Fits.{ClassItemsFit}
use Rattle.svr_elab_class.specs.Classes.{class_decl}

-- which type, and which class, comes next behind an entry
abbrev pub types_behind : Top → ℕ → ℕ
types_behind top.OfType n = n + 1
types_behind top.OfClass n = n

abbrev pub classes_behind : Top → ℕ → ℕ
classes_behind top.OfType n = n
classes_behind top.OfClass n = n + 1

-- each entry is the next type or the next class
abbrev pub types_and_classes : {F : Type 0} → Gather F → GlobalsElab F → List Top → List TypeTree → List ClassTree → GlobalsElab F
types_and_classes g s [] ts cs = s
types_and_classes g s (top.OfType ∷ os) [] cs = types_and_classes g s os [] cs
types_and_classes g s (top.OfType ∷ os) (t ∷ ts) cs = types_and_classes g (type_decl g s t) os ts cs
types_and_classes g s (top.OfClass ∷ os) ts [] = types_and_classes g s os ts []
types_and_classes g s (top.OfClass ∷ os) ts (c ∷ cs) = types_and_classes g (class_decl g s c) os ts cs

abbrev pub TypesFit : ℕ → List TypeTree → Type 0
TypesFit depth [] = ⊤
TypesFit depth (t ∷ ts) = DeclarationFits depth t × TypesFit depth ts

abbrev pub ClassesFit : ℕ → List ClassTree → Type 0
ClassesFit depth [] = ⊤
ClassesFit depth (c ∷ cs) = ClassItemsFit depth c.items × ClassesFit depth cs
