-- What a form needs of each of its parts.
use Rattle.std.proofs.Common.{◌≡◌, ◌<◌, ◌≤◌, ◌+◌, ◌*◌, ◌^◌, arith, ℕ, List, [], ◌∷◌, map, drop, get_or, length, Option, None, Some, option_map, Result, Ok, Err, IfOk, refl, sym, ap, ◌∙◌}
use Rattle.std.proofs.lemmas.List.{at_drop_more, map-append}
use Rattle.std.proofs.Math.Nat.{mul-le-mul}
use Rattle.svr_limits.specs.declared.limit.TheConstants.{STATEMENT_LIMIT}
use Rattle.svr_tree.specs.declared.ModeKind.{ModeKind}
use Rattle.svr_tree.specs.declared.expr.Expr.{Expr}
use Rattle.svr_tree.specs.ExprTree as raw
use Rattle.svr_tree.specs.ExprTree.{ExprTree, ExprTrees, expr_tree, expr_trees}
use Rattle.svr_tree.specs.StmtTree.{ModeTree}
use Rattle.svr_elab_fault.specs.declared.Fault.{Fault}
use Rattle.svr_elab_fault.specs.Refusals.{first_one}
use Rattle.svr_elab_names.specs.Names.{Space}
use Rattle.svr_elab_part.specs.Elab.{Elab, value}
use Rattle.svr_elab_part.specs.Shapes.{and_more}
use Rattle.svr_elab_stmt.specs.Stmts as spec
use Rattle.svr_elab_stmt.specs.Stmts.{StmtElab, ValuesElab, ObjectPath, object_path}

-- what is made is so by what is told of it
pub told : {A E : Type 0} {P Q : A → Type 0} (r : Result A E) → IfOk r P → ((x : A) → P x → Q x) → IfOk r Q
told (Ok x) p f = f x p
told (Err e) p f = tt

pub assigned_is : (r : StmtElab (Option Fault)) (x v w : Elab (Option Fault)) → r ≡ spec.assigned first_one x v → v ≡ w → r ≡ spec.assigned first_one x w
assigned_is r x v w h p = h ∙ ap (λ (v : Elab (Option Fault)). spec.assigned first_one x v) p

pub mode_on_is : (n : Space) (p : ObjectPath) (k : ModeKind) (x : ℕ × ℕ) (m : Option ℕ) (on : Elab (Option Fault)) (r : StmtElab (Option Fault))
    → r ≡ spec.mode_on first_one n.made p k x m on → m ≡ spec.mode_member k n x.1 p.rest → r ≡ spec.mode_of first_one n p k on (Some x)
mode_on_is n p k x m on r h e = h ∙ ap (λ (m : Option ℕ). spec.mode_on first_one n.made p k x m on) e

pub mode_stmt_is : (n : Space) (m : ModeTree) (p : ObjectPath) (x : Elab (Option Fault)) (r : StmtElab (Option Fault))
    → r ≡ spec.mode_of first_one n p m.kind x p.object → p ≡ object_path n m.path → x ≡ value first_one n m.on → r ≡ spec.mode_stmt first_one n m
mode_stmt_is n m p x r h e f =
    h ∙ ap (λ (p : ObjectPath). spec.mode_of first_one n p m.kind x p.object) e
    ∙ ap (λ (x : Elab (Option Fault)). spec.mode_of first_one n (object_path n m.path) m.kind x (object_path n m.path).object) f

-- what a list stands for with one more value behind it
pub more_of : {A B : Type 0} (f : A → B) (xs : Option (List A)) (x : Option A) → option_map (map f) (and_more xs x) ≡ and_more (option_map (map f) xs) (option_map f x)
more_of f None x = refl
more_of f (Some xs) None = refl
more_of f (Some xs) (Some x) = ap (λ ys. Some ys) (map-append f xs (x ∷ []))

-- the first of the values that are left of a pattern
pub rest_is : (xs : List Expr) (i : ℕ) (x : Expr) → i < length xs → x ≡ get_or xs i x → expr_trees (drop i xs) ≡ raw.more_exprs (expr_tree x) (expr_trees (drop (i + 1) xs))
rest_is xs i x h e = at_drop_more expr_trees xs i x h ∙ ap (λ (x : Expr). raw.more_exprs (expr_tree x) (expr_trees (drop (i + 1) xs))) (sym e)

-- one more value of a pattern is what the definition takes next
pub step_is : (n : Space) (members : Option ℕ) (old new z : ValuesElab (Option Fault)) (x : Elab (Option Fault)) (e : ExprTree) (rest : ExprTrees)
    → new ≡ spec.and_value first_one members old x → x ≡ value first_one n e → spec.values first_one n members old (raw.more_exprs e rest) ≡ z → spec.values first_one n members new rest ≡ z
step_is n members old new z x e rest h v known =
    ap (λ (vs : ValuesElab (Option Fault)). spec.values first_one n members vs rest) (h ∙ ap (λ (x : Elab (Option Fault)). spec.and_value first_one members old x) v) ∙ known

-- ---- how many statements run

product_at_most : (a b : ℕ) → a < 2 ^ 64 → b ≤ STATEMENT_LIMIT + 1 → a * b ≤ 2 ^ 64 * (STATEMENT_LIMIT + 1)
product_at_most a b h k =
    let few : a ≤ 2 ^ 64 = omega (arith, h) in
    mul-le-mul few k

pub product_small : (a b : ℕ) → a < 2 ^ 64 → b ≤ STATEMENT_LIMIT + 1 → a * b < 2 ^ 127
product_small a b h k = omega (arith, product_at_most a b h k)

pub product_fits : (a b : ℕ) → a < 2 ^ 64 → b ≤ STATEMENT_LIMIT + 1 → a * b < 2 ^ 128
product_fits a b h k = omega (arith, product_at_most a b h k)
