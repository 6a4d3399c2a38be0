-- What the walk needs of each form, by its parts, and inside of a reduction.
use Rattle.std.proofs.Common.{◌≡◌, ℕ, ◌+◌, Bool, List, Option, sym, ap, subst, ◌∙◌}
use Rattle.svr_operator.specs.declared.UnOp.{UnOp}
use Rattle.svr_operator.specs.declared.BinOp.{BinOp}
use Rattle.svr_operator.specs.declared.Fold.{Fold}
use Rattle.svr_tree.specs.ExprTree as raw
use Rattle.svr_tree.specs.ExprTree.{ExprTree, argument_name}
use Rattle.svr_tree.specs.declared.IteratorArgument.{IteratorArgument}
use Rattle.svr_elab_fault.specs.declared.Fault.{Fault}
use Rattle.svr_elab_fault.specs.Refusals.{first_one}
use Rattle.svr_elab_names.specs.declared.Property.{Property}
use Rattle.svr_elab_names.specs.Names.{Space, Loop, with_loops, in_reduction}
use Rattle.svr_elab_part.specs.Fits.{MembersFit, LoopsFit}
use Rattle.svr_elab_part.specs.Shapes.{array_property}
use Rattle.svr_elab_part.specs.Elab as spec
use Rattle.svr_elab_part.specs.Elab.{Elab, RangesElab, body_space}

pub unary_is : (at : ℕ) (op : UnOp) (r a x : Elab (Option Fault)) → r ≡ spec.unary_part first_one at op a → a ≡ x → r ≡ spec.unary_part first_one at op x
unary_is at op r a x h e = h ∙ ap (λ (a : Elab (Option Fault)). spec.unary_part first_one at op a) e

pub sign_is : (at : ℕ) (s : Bool) (r a x : Elab (Option Fault)) → r ≡ spec.sign_part first_one at s a → a ≡ x → r ≡ spec.sign_part first_one at s x
sign_is at s r a x h e = h ∙ ap (λ (a : Elab (Option Fault)). spec.sign_part first_one at s a) e

pub paren_is : (at : ℕ) (r s a x : Elab (Option Fault)) → r ≡ spec.paren_part first_one at s → s ≡ spec.sole first_one a → a ≡ x → r ≡ spec.paren_part first_one at (spec.sole first_one x)
paren_is at r s a x h e f =
    h ∙ ap (λ (s : Elab (Option Fault)). spec.paren_part first_one at s) e ∙ ap (λ (a : Elab (Option Fault)). spec.paren_part first_one at (spec.sole first_one a)) f

pub binary_is : (at : ℕ) (op : BinOp) (r a b x y : Elab (Option Fault)) → r ≡ spec.binary_part first_one at op a b → a ≡ x → b ≡ y → r ≡ spec.binary_part first_one at op x y
binary_is at op r a b x y h e f =
    h ∙ ap (λ (a : Elab (Option Fault)). spec.binary_part first_one at op a b) e ∙ ap (λ (b : Elab (Option Fault)). spec.binary_part first_one at op x b) f

pub choice_is : (at : ℕ) (r a b d x y z : Elab (Option Fault)) → r ≡ spec.choice_part first_one at a b d → a ≡ x → b ≡ y → d ≡ z → r ≡ spec.choice_part first_one at x y z
choice_is at r a b d x y z h e f g =
    h ∙ ap (λ (a : Elab (Option Fault)). spec.choice_part first_one at a b d) e ∙ ap (λ (b : Elab (Option Fault)). spec.choice_part first_one at x b d) f
    ∙ ap (λ (d : Elab (Option Fault)). spec.choice_part first_one at x y d) g

pub inside_is : (at : ℕ) (r a x : Elab (Option Fault)) (s y : RangesElab (Option Fault)) → r ≡ spec.inside_part first_one at a s → a ≡ x → s ≡ y → r ≡ spec.inside_part first_one at x y
inside_is at r a x s y h e f =
    h ∙ ap (λ (a : Elab (Option Fault)). spec.inside_part first_one at a s) e ∙ ap (λ (s : RangesElab (Option Fault)). spec.inside_part first_one at x s) f

pub index_is : (at : ℕ) (call : Bool) (r p a b x y : Elab (Option Fault)) → r ≡ spec.with_parens first_one call p → p ≡ spec.index_part first_one at a b → a ≡ x → b ≡ y
    → r ≡ spec.with_parens first_one call (spec.index_part first_one at x y)
index_is at call r p a b x y h k e f =
    h ∙ ap (λ (p : Elab (Option Fault)). spec.with_parens first_one call p) k
    ∙ ap (λ (a : Elab (Option Fault)). spec.with_parens first_one call (spec.index_part first_one at a b)) e
    ∙ ap (λ (b : Elab (Option Fault)). spec.with_parens first_one call (spec.index_part first_one at x b)) f

pub slice_is : (at : ℕ) (call : Bool) (r p a b d x y z : Elab (Option Fault)) → r ≡ spec.with_parens first_one call p → p ≡ spec.slice_part first_one at a b d → a ≡ x → b ≡ y → d ≡ z
    → r ≡ spec.with_parens first_one call (spec.slice_part first_one at x y z)
slice_is at call r p a b d x y z h k e f g =
    h ∙ ap (λ (p : Elab (Option Fault)). spec.with_parens first_one call p) k
    ∙ ap (λ (a : Elab (Option Fault)). spec.with_parens first_one call (spec.slice_part first_one at a b d)) e
    ∙ ap (λ (b : Elab (Option Fault)). spec.with_parens first_one call (spec.slice_part first_one at x b d)) f
    ∙ ap (λ (d : Elab (Option Fault)). spec.with_parens first_one call (spec.slice_part first_one at x y d)) g

pub members_inside : (n i : Space) (ls : List Loop) → i ≡ with_loops n ls → MembersFit n → MembersFit i
members_inside n i ls e m = let P : Space → Type 0 = MembersFit in subst P (sym e) (record { globals = m.globals })

pub loops_inside : (d k l : ℕ) (e : ExprTree) → k ≡ l → l ≡ d + 1 → LoopsFit (d + 1) e → LoopsFit k e
loops_inside d k l e h i f = let P : ℕ → Type 0 = λ k. LoopsFit k e in subst P (sym (h ∙ i)) f

pub body_is : (b : Elab (Option Fault)) (n i : Space) (ls : List Loop) (p q : Property) (x y : Option ℕ) (body : ExprTree)
    → b ≡ spec.value first_one i body → i ≡ with_loops n ls → with_loops n ls ≡ in_reduction n p x → p ≡ q → x ≡ y → b ≡ spec.value first_one (in_reduction n q y) body
body_is b n i ls p q x y body h e f g k =
    h ∙ ap (λ (i : Space). spec.value first_one i body) (e ∙ f ∙ ap (λ (p : Property). in_reduction n p x) g ∙ ap (λ (x : Option ℕ). in_reduction n q x) k)

pub reduction_is : (at : ℕ) (f : Fold) (n : Space) (r a s b : Elab (Option Fault)) (x body : ExprTree) (item : IteratorArgument)
    → r ≡ spec.reduce_part first_one at f s b → s ≡ spec.sole first_one a → a ≡ spec.elab first_one n x → b ≡ spec.value first_one (body_space n a (argument_name item)) body
    → r ≡ spec.elab first_one n (raw.reduce at x f item body)
reduction_is at f n r a s b x body item h e g k =
    h ∙ ap (λ (s : Elab (Option Fault)). spec.reduce_part first_one at f s b) e
    ∙ ap (λ (b : Elab (Option Fault)). spec.reduce_part first_one at f (spec.sole first_one a) b) k
    ∙ ap (λ (a : Elab (Option Fault)). spec.reduce_part first_one at f (spec.sole first_one a) (spec.value first_one (body_space n a (argument_name item)) body)) g
