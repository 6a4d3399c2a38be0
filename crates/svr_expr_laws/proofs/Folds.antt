-- Paths that end with the name of an array reduction.
use Rattle.std.proofs.Common.{◌≡◌, ℕ, ◌+◌, true, false, List, [], ◌∷◌, ◌++◌, Option, Some, None, refl, sym, ◌∙◌, ap, subst, append_assoc}
use Rattle.svr_token.specs.declared.Lexeme.TheVariants as lexeme
use Rattle.svr_token.specs.declared.NameKind.{NameKind}
use Rattle.svr_token.specs.declared.NameKind.TheVariants as name_kind
use Rattle.svr_operator.specs.declared.Fold.{Fold}
use Rattle.svr_operator.specs.declared.Fold.TheVariants as fold
use Rattle.svr_tree.specs.declared.expr.Scope.{Scope}
use Rattle.svr_tree.specs.declared.expr.Scope.TheVariants as scope
use Rattle.svr_tree.specs.Tokens.{Tok, Entry, FitEach}
use Rattle.svr_tree.specs.Operators.{fold_name}
use Rattle.svr_tree.specs.ExprTree.{ExprTree, path}
use Rattle.svr_tree.specs.ExprGrammar.{names_spelling, scope_spelling, expr_spelling, start, is_path, IsPathAt, IsExpr, expr_height}
use Rattle.svr_reader.proofs.Steps.{takes_append, takes_parts}
use Rattle.svr_expr.specs.ExprRules.{fold_of, all_but_last, owner, path_fold}
use Rattle.svr_expr.proofs.Pops.{but_last}
use Rattle.svr_expr_laws.proofs.Names.{names_known, last_name, split_last}

pub fold_back : (k : NameKind) (op : Fold) → fold_of k ≡ Some op → k ≡ fold_name op
fold_back name_kind.Sum op h = let e : fold.Sum ≡ op = cc in ap fold_name e
fold_back name_kind.Product op h = let e : fold.Product ≡ op = cc in ap fold_name e
fold_back name_kind.And op h = let e : fold.And ≡ op = cc in ap fold_name e
fold_back name_kind.Or op h = let e : fold.Or ≡ op = cc in ap fold_name e
fold_back name_kind.Xor op h = let e : fold.Xor ≡ op = cc in ap fold_name e
fold_back _ op h = absurd (cc)

pub fold_is : (op : Fold) → fold_of (fold_name op) ≡ Some op
fold_is fold.Sum = refl
fold_is fold.Product = refl
fold_is fold.And = refl
fold_is fold.Or = refl
fold_is fold.Xor = refl

-- ---- the array, and the name behind it

pub record IsFoldPath (at : ℕ) (i : List Tok) (p : ExprTree) (op : Fold) (j : List Tok) : Type 0 where
  pub takes : FitEach i (expr_spelling (owner p) ++ last_name (fold_name op) []) j
  pub is : IsExpr (owner p)
  pub a_path : is_path (owner p) ≡ true
  pub height : expr_height (owner p) ≡ 1
  pub begins : at ≡ start (owner p)

path_without : (at : ℕ) (s : Scope) (n o : ℕ) (ns : List ℕ) → IsPathAt at s (n ∷ (o ∷ ns)) → IsPathAt at s (all_but_last (n ∷ (o ∷ ns)))
path_without at scope.Plain n o [] h = h
path_without at scope.Plain n o (q ∷ ns) h = h
path_without at scope.Local n o [] h = h
path_without at scope.Local n o (q ∷ ns) h = h
path_without at scope.This n o [] h = h
path_without at scope.This n o (q ∷ ns) h = h

owner_takes : (at : ℕ) (s : Scope) (ns : List ℕ) (es : List Entry) (i mid j : List Tok) → FitEach i (scope_spelling at s) mid → FitEach mid (names_spelling ns ++ es) j → FitEach i (expr_spelling (path at s ns false) ++ es) j
owner_takes at s ns es i mid j a b =
    let p = takes_parts mid (names_spelling ns) es j b in
    takes_append i (expr_spelling (path at s ns false)) es p.0 j (takes_append i (scope_spelling at s) (names_spelling ns ++ []) mid p.0 a (takes_append mid (names_spelling ns) [] p.0 p.0 p.1 refl)) p.2

pub fold_path : (at : ℕ) (s : Scope) (names : List ℕ) (k : NameKind) (op : Fold) (i j : List Tok) → IsPathAt at s names → FitEach i (scope_spelling at s ++ names_known names k) j → path_fold (path at s names false, k) ≡ Some op → IsFoldPath at i (path at s names false) op j
fold_path at s [] k op i j g h e = absurd g
fold_path at s (n ∷ []) k op i j g h e = absurd (cc)
fold_path at s (n ∷ (o ∷ ns)) k op i j g h e =
    let p = takes_parts i (scope_spelling at s) (names_known (n ∷ (o ∷ ns)) k) j h in
    let q = split_last n o ns k p.0 j p.2 in
    record {
      takes = subst (λ z. FitEach i (expr_spelling (owner (path at s (n ∷ (o ∷ ns)) false)) ++ last_name z []) j) (fold_back k op e) (owner_takes at s (all_but_last (n ∷ (o ∷ ns))) (last_name k []) i p.0 j p.1 q);
      is = path_without at s n o ns g;
      a_path = refl;
      height = refl;
      begins = refl;
    }

-- ---- a path and one name more

pub more_is_path : (at : ℕ) (s : Scope) (ns : List ℕ) (m : ℕ) → IsPathAt at s ns → IsPathAt at s (ns ++ m ∷ [])
more_is_path at s [] m h = absurd h
more_is_path at scope.Plain (n ∷ ns) m h = h
more_is_path at scope.Local (n ∷ ns) m h = h
more_is_path at scope.This (n ∷ ns) m h = h

pub more_fold : (at : ℕ) (s : Scope) (n : ℕ) (ns : List ℕ) (m : ℕ) (op : Fold) → path_fold (path at s ((n ∷ ns) ++ m ∷ []) false, fold_name op) ≡ Some op
more_fold at s n [] m op = fold_is op
more_fold at s n (o ∷ ns) m op = fold_is op

pub more_owner : (at : ℕ) (s : Scope) (ns : List ℕ) (m : ℕ) → owner (path at s (ns ++ m ∷ []) false) ≡ path at s ns false
more_owner at s ns m = ap (λ z. path at s z false) (but_last m ns)
