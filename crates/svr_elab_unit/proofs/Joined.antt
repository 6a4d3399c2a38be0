-- Values of declarations behind others.
use Rattle.std.proofs.Common.{◌≡◌, List, [], ◌∷◌, ◌++◌, drop, length, map, Option, refl}
use Rattle.svr_tree.specs.declared.VarDecl.{VarDecl}
use Rattle.svr_tree.specs.DeclTree.{VarTree, var_tree}
use Rattle.svr_elab_fault.specs.declared.Fault.{Fault}
use Rattle.svr_elab_fault.specs.Refusals.{first_one}
use Rattle.svr_elab_names.specs.declared.VarStand.{VarStand}
use Rattle.svr_elab_names.specs.Names.{Space}
use Rattle.svr_elab_unit.specs.Vars.{ValuedElab, all_valued, decls_valued}

pub valued_joined : (n : Space) (s : ValuedElab (Option Fault)) (ks : List VarStand) (xs : List VarDecl) (ys : List VarTree)
    → decls_valued first_one n s ks (map var_tree xs ++ ys) ≡ decls_valued first_one n (decls_valued first_one n s ks (map var_tree xs)) (drop (length xs) ks) ys
valued_joined n s [] [] ys = refl
valued_joined n s (k ∷ ks) [] ys = refl
valued_joined n s [] (x ∷ xs) ys = refl
valued_joined n s (k ∷ ks) (x ∷ xs) ys = valued_joined n (all_valued first_one n s k (var_tree x).vars) ks xs ys
