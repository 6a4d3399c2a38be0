-- Spellings and heights of lists, and of types and classes in their order.
use Rattle.std.proofs.Common.{◌≡◌, ℕ, max, List, [], ◌∷◌, ◌++◌, refl, sym, ◌∙◌, ap, subst, arith, append_assoc}
use Rattle.svr_tree.specs.Tokens as tokens
use Rattle.svr_tree.specs.Tokens.{Tok, Entry, FitEach, Each}
use Rattle.svr_tree.specs.declared.script.Top.{Top}
use Rattle.svr_tree.specs.declared.script.Top.TheVariants.{OfType, OfClass}
use Rattle.svr_tree.specs.DeclTree.{TypeTree, ClassTree}
use Rattle.svr_tree.specs.DeclGrammar.{typedef_spelling, class_spelling, greatest}
use Rattle.svr_tree.specs.ScriptGrammar.{tops_spelling, IsOrder}
use Rattle.svr_reader.proofs.Steps.{takes_append}

pub run_append : {A : Type 0} (spell : A → List Entry) (xs ys : List A) → tokens.each_spelling spell (xs ++ ys) ≡ tokens.each_spelling spell xs ++ tokens.each_spelling spell ys
run_append spell [] ys = refl
run_append spell (x ∷ xs) ys = ap (λ es. spell x ++ es) (run_append spell xs ys) ∙ sym (append_assoc (spell x) (tokens.each_spelling spell xs) (tokens.each_spelling spell ys))

pub greatest_append : {A : Type 0} (high : A → ℕ) (xs ys : List A) → greatest high (xs ++ ys) ≡ max (greatest high xs) (greatest high ys)
greatest_append high [] ys = omega arith
greatest_append high (x ∷ xs) ys = let d = greatest_append high xs ys in omega (arith, d)

pub each_append : {A : Type 0} (P : A → Type 0) (xs ys : List A) → Each P xs → Each P ys → Each P (xs ++ ys)
each_append P [] ys h k = k
each_append P (x ∷ xs) ys h k = (h.0, each_append P xs ys h.1 k)

-- entries, one more, and what stands behind it
pub ended_then : (i mid rest : List Tok) (es : List Entry) (e : Entry) (fs : List Entry) → FitEach i (es ++ e ∷ []) mid → FitEach mid fs rest → FitEach i (es ++ e ∷ fs) rest
ended_then i mid rest es e fs h k = subst (λ z. FitEach i z rest) (append_assoc es (e ∷ []) fs) (takes_append i (es ++ e ∷ []) fs mid rest h k)

-- a type or a class before others
pub type_spells : (t : TypeTree) (ts : List TypeTree) (cs : List ClassTree) (order : List Top) → tops_spelling (t ∷ ts) cs (OfType ∷ order) ≡ typedef_spelling t ++ tops_spelling ts cs order
type_spells t ts [] order = refl
type_spells t ts (c ∷ cs) order = refl

pub class_spells : (c : ClassTree) (ts : List TypeTree) (cs : List ClassTree) (order : List Top) → tops_spelling ts (c ∷ cs) (OfClass ∷ order) ≡ class_spelling c ++ tops_spelling ts cs order
class_spells c [] cs order = refl
class_spells c (t ∷ ts) cs order = refl

pub type_before : (t : TypeTree) (ts : List TypeTree) (cs : List ClassTree) (order : List Top) → IsOrder ts cs order → IsOrder (t ∷ ts) cs (OfType ∷ order)
type_before t ts [] order h = h
type_before t ts (c ∷ cs) order h = h

pub class_before : (c : ClassTree) (ts : List TypeTree) (cs : List ClassTree) (order : List Top) → IsOrder ts cs order → IsOrder ts (c ∷ cs) (OfClass ∷ order)
class_before c [] cs order h = h
class_before c (t ∷ ts) cs order h = h

pub type_behind : (t : TypeTree) (ts : List TypeTree) (cs : List ClassTree) (order : List Top) → IsOrder (t ∷ ts) cs (OfType ∷ order) → IsOrder ts cs order
type_behind t ts [] order h = h
type_behind t ts (c ∷ cs) order h = h

pub class_behind : (c : ClassTree) (ts : List TypeTree) (cs : List ClassTree) (order : List Top) → IsOrder ts (c ∷ cs) (OfClass ∷ order) → IsOrder ts cs order
class_behind c [] cs order h = h
class_behind c (t ∷ ts) cs order h = h
