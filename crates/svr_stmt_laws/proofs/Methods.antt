-- Paths that end with the name of a built-in method.
use Rattle.std.proofs.Common.{◌≡◌, ℕ, Bool, false, List, [], ◌∷◌, ◌++◌, Some, refl, sym, ap, subst, append_assoc}
use Rattle.svr_token.specs.declared.Lexeme.TheVariants as lexeme
use Rattle.svr_token.specs.declared.Mark.TheVariants as m
use Rattle.svr_token.specs.declared.NameKind.{NameKind}
use Rattle.svr_token.specs.declared.NameKind.TheVariants as name_kind
use Rattle.svr_tree.specs.declared.expr.Scope.{Scope}
use Rattle.svr_tree.specs.declared.expr.Scope.TheVariants as scope
use Rattle.svr_tree.specs.Tokens.{Tok, Entry, Any, FitEach, mark}
use Rattle.svr_tree.specs.ExprTree.{ExprTree, path}
use Rattle.svr_tree.specs.ExprGrammar.{names_spelling, scope_spelling, expr_spelling, start, IsPathAt}
use Rattle.svr_tree.specs.ItemGrammar.{IsPath}
use Rattle.svr_tree.specs.declared.stmt.ModeKind.TheVariants as mode_kind
use Rattle.svr_tree.specs.StmtGrammar.{mode_name, other_names, dotted_other}
use Rattle.svr_reader.specs.Outcomes.{number_at}
use Rattle.svr_reader.proofs.Steps.{takes_append, takes_parts}
use Rattle.svr_expr_laws.proofs.Names.{names_known, rest_known, KnownPath}
use Rattle.svr_stmt.specs.declared.method.Method.{Method}
use Rattle.svr_stmt.specs.declared.method.Method.TheVariants as built
use Rattle.svr_expr.specs.ExprRules.{all_but_last, owner}
use Rattle.svr_stmt.specs.StmtRules.{method_of, path_method}

-- "." and the name of a method
abbrev pub dot_name : NameKind → List Entry
dot_name k = mark m.Dot ∷ (Any (lexeme.Name k) ∷ [])

-- ---- all names but the last one

known_owner : (n o : ℕ) (ns : List ℕ) (k : NameKind) (i j : List Tok) → FitEach i (names_known (n ∷ (o ∷ ns)) k) j → FitEach i (names_spelling (all_but_last (n ∷ (o ∷ ns))) ++ dot_name k) j
known_owner n o ns k [] j h = absurd h
known_owner n o ns k (t ∷ []) j h = absurd h.1
known_owner n o [] k (t ∷ (u ∷ [])) j h = absurd h.1.1
known_owner n o [] k (t ∷ (u ∷ (v ∷ i))) j h = (h.0, (h.1.0, (h.1.1.0.1, h.1.1.1)))
known_owner n o (p ∷ ns) k (t ∷ (u ∷ i)) j h = (h.0, (h.1.0, known_owner o p ns k i j h.1.1))

-- names before that of a method, and it
pub record Longer (n : ℕ) (ns : List ℕ) (k : NameKind) (i j : List Tok) : Type 0 where
  pub o : ℕ
  pub os : List ℕ
  pub short : all_but_last (n ∷ (o ∷ os)) ≡ n ∷ ns
  pub known : FitEach i (names_known (n ∷ (o ∷ os)) k) j

longer : (n : ℕ) (ns : List ℕ) (k : NameKind) (i j : List Tok) → FitEach i (names_spelling (n ∷ ns) ++ dot_name k) j → Longer n ns k i j
longer n ns k [] j h = absurd h
longer n [] k (t ∷ []) j h = absurd h.1
longer n [] k (t ∷ (u ∷ [])) j h = absurd h.1.1
longer n [] k (t ∷ (u ∷ (v ∷ i))) j h = record { o = v.at; os = []; short = refl; known = (h.0, (h.1.0, ((refl, h.1.1.0), h.1.1.1))) }
longer n (p ∷ ns) k (t ∷ []) j h = absurd h.1
longer n (p ∷ ns) k (t ∷ (u ∷ i)) j h = let d = longer p ns k i j h.1.1 in record { o = p; os = d.o ∷ d.os; short = ap (λ z. n ∷ z) d.short; known = (h.0, (h.1.0, d.known)) }

pub first_kept : (at : ℕ) (s : Scope) (n : ℕ) (ns ms : List ℕ) → IsPathAt at s (n ∷ ns) → IsPathAt at s (n ∷ ms)
first_kept at scope.Plain n ns ms h = h
first_kept at scope.Local n ns ms h = h
first_kept at scope.This n ns ms h = h

-- ---- the path before a method

-- from i0 on stand a path, a dot and the name of a method
pub record OwnerRead (i0 : List Tok) (p : ExprTree) (k : NameKind) (j : List Tok) : Type 0 where
  pub takes : FitEach i0 (expr_spelling (owner p) ++ dot_name k) j
  pub is : IsPath (owner p)
  pub begins : number_at i0 ≡ start (owner p)

owner_spelled : (at : ℕ) (s : Scope) (n o : ℕ) (ns : List ℕ) (k : NameKind) (i j : List Tok) → FitEach i (scope_spelling at s ++ names_known (n ∷ (o ∷ ns)) k) j → FitEach i (expr_spelling (path at s (all_but_last (n ∷ (o ∷ ns))) false) ++ dot_name k) j
owner_spelled at s n o ns k i j h =
    let p = takes_parts i (scope_spelling at s) (names_known (n ∷ (o ∷ ns)) k) j h in
    let names = names_spelling (all_but_last (n ∷ (o ∷ ns))) in
    let q = takes_parts p.0 names (dot_name k) j (known_owner n o ns k p.0 j p.2) in
    takes_append i (scope_spelling at s ++ (names ++ [])) (dot_name k) q.0 j (takes_append i (scope_spelling at s) (names ++ []) p.0 q.0 p.1 (takes_append p.0 names [] q.0 q.0 q.1 refl)) q.2

owner_by : (at : ℕ) (s : Scope) (names : List ℕ) (k : NameKind) (e : Method) (i j : List Tok) → path_method (path at s names false, k) ≡ Some e → IsPathAt at s names → FitEach i (scope_spelling at s ++ names_known names k) j → number_at i ≡ at → OwnerRead i (path at s names false) k j
owner_by at s [] k e i j h g t b = absurd (cc)
owner_by at s (n ∷ []) k e i j h g t b = absurd (cc)
owner_by at s (n ∷ (o ∷ ns)) k e i j h g t b = record { takes = owner_spelled at s n o ns k i j t; is = (first_kept at s n (o ∷ ns) (all_but_last (o ∷ ns)) g, refl); begins = b }

method_kind_by : (at : ℕ) (s : Scope) (names : List ℕ) (c : Bool) (k : NameKind) (e : Method) → path_method (path at s names c, k) ≡ Some e → method_of k ≡ Some e
method_kind_by at s [] c k e h = absurd (cc)
method_kind_by at s (n ∷ []) c k e h = absurd (cc)
method_kind_by at s (n ∷ (o ∷ ns)) c k e h = h

-- the name of a method
abbrev pub method_name : Method → NameKind
method_name built.Randomize = name_kind.Randomize
method_name (built.Mode k) = mode_name k

pub method_is : (e : Method) → method_of (method_name e) ≡ Some e
method_is built.Randomize = refl
method_is (built.Mode mode_kind.Rand) = refl
method_is (built.Mode mode_kind.Constraint) = refl

kind_is : (k : NameKind) (e : Method) → method_of k ≡ Some e → k ≡ method_name e
kind_is name_kind.Plain e h = absurd (cc)
kind_is name_kind.Sum e h = absurd (cc)
kind_is name_kind.Product e h = absurd (cc)
kind_is name_kind.And e h = absurd (cc)
kind_is name_kind.Or e h = absurd (cc)
kind_is name_kind.Xor e h = absurd (cc)
kind_is name_kind.Randomize e h = let same : built.Randomize ≡ e = cc in ap method_name same
kind_is name_kind.RandMode e h = let same : built.Mode mode_kind.Rand ≡ e = cc in ap method_name same
kind_is name_kind.ConstraintMode e h = let same : built.Mode mode_kind.Constraint ≡ e = cc in ap method_name same

-- a path that ends with a method
pub owner_read : (i : List Tok) (p : ExprTree × NameKind) (e : Method) (j : List Tok) → KnownPath i p j → path_method p ≡ Some e → OwnerRead i p.0 (method_name e) j
owner_read i p e j d h =
    let known : path_method (path d.at d.scope d.names false, p.1) ≡ Some e = subst (λ z. path_method (z, p.1) ≡ Some e) d.is h in
    subst (λ z. OwnerRead i z (method_name e) j) (sym d.is)
    (subst (λ z. OwnerRead i (path d.at d.scope d.names false) z j) (kind_is p.1 e (method_kind_by d.at d.scope d.names false p.1 e known)) (owner_by d.at d.scope d.names p.1 e i j known d.good d.takes d.begins))

-- the way back: from a path before a method to all names
pub record WithMethod (c : ExprTree) (k : NameKind) (i j : List Tok) : Type 0 where
  pub at : ℕ
  pub scope : Scope
  pub first : ℕ
  pub second : ℕ
  pub others : List ℕ
  pub known : FitEach i (scope_spelling at scope ++ names_known (first ∷ (second ∷ others)) k) j
  pub good : IsPathAt at scope (first ∷ (second ∷ others))
  pub short : owner (path at scope (first ∷ (second ∷ others)) false) ≡ c
  pub begins : start c ≡ at

pub with_method : (c : ExprTree) (k : NameKind) (i j : List Tok) → IsPath c → FitEach i (expr_spelling c ++ dot_name k) j → WithMethod c k i j
with_method (path at s [] false) k i j l h = absurd l.0
with_method (path at s (n ∷ ns) false) k i j l h =
    let whole : FitEach i (scope_spelling at s ++ ((names_spelling (n ∷ ns) ++ []) ++ dot_name k)) j = subst (λ es. FitEach i es j) (append_assoc (scope_spelling at s) (names_spelling (n ∷ ns) ++ []) (dot_name k)) h in
    let p = takes_parts i (scope_spelling at s) ((names_spelling (n ∷ ns) ++ []) ++ dot_name k) j whole in
    let d = longer n ns k p.0 j (subst (λ es. FitEach p.0 es j) (append_assoc (names_spelling (n ∷ ns)) [] (dot_name k)) p.2) in
    record {
      at = at;
      scope = s;
      first = n;
      second = d.o;
      others = d.os;
      known = takes_append i (scope_spelling at s) (names_known (n ∷ (d.o ∷ d.os)) k) p.0 j p.1 d.known;
      good = first_kept at s n ns (d.o ∷ d.os) l.0;
      short = ap (λ z. path at s z false) d.short;
      begins = refl;
    }
with_method _ k i j l h = absurd (let no = l.1 in cc)

-- ---- names of which the last one is none of `randomize`

other_rest : (n : ℕ) (ns : List ℕ) (k : NameKind) (i j : List Tok) → (k ≡ name_kind.Randomize → ⊥) → FitEach i (rest_known (n ∷ ns) k) j → FitEach i (dotted_other (n ∷ ns)) j
other_rest n ns k [] j w h = absurd h
other_rest n [] k (t ∷ []) j w h = absurd h.1
other_rest n [] k (t ∷ (u ∷ i)) j w h = (h.0, ((h.1.0.0, record { kind = k; is = h.1.0.1; other = w }), h.1.1))
other_rest n (o ∷ ns) k (t ∷ []) j w h = absurd h.1
other_rest n (o ∷ ns) k (t ∷ (u ∷ i)) j w h = (h.0, (h.1.0, other_rest o ns k i j w h.1.1))

pub others_of : (at : ℕ) (s : Scope) (names : List ℕ) (k : NameKind) (i j : List Tok) → (path_method (path at s names false, k) ≡ Some built.Randomize → ⊥) → FitEach i (names_known names k) j → FitEach i (other_names names) j
others_of at s [] k i j w h = h
others_of at s (n ∷ []) k [] j w h = absurd h
others_of at s (n ∷ []) k (t ∷ i) j w h = ((h.0.0, record { kind = k; is = h.0.1 }), h.1)
others_of at s (n ∷ (o ∷ ns)) k [] j w h = absurd h
others_of at s (n ∷ (o ∷ ns)) k (t ∷ i) j w h = (h.0, other_rest o ns k i j (λ e. w (ap method_of e)) h.1)

-- the last name has a kind
rest_other : (n : ℕ) (ns : List ℕ) (i j : List Tok) → FitEach i (dotted_other (n ∷ ns)) j → (k : NameKind) × FitEach i (rest_known (n ∷ ns) k) j × (k ≡ name_kind.Randomize → ⊥)
rest_other n [] [] j h = absurd h
rest_other n (o ∷ ns) [] j h = absurd h
rest_other n [] (t ∷ []) j h = absurd h.1
rest_other n [] (t ∷ (u ∷ i)) j h = (h.1.0.1.kind, (h.0, ((h.1.0.0, h.1.0.1.is), h.1.1)), h.1.0.1.other)
rest_other n (o ∷ ns) (t ∷ []) j h = absurd h.1
rest_other n (o ∷ ns) (t ∷ (u ∷ i)) j h = let d = rest_other o ns i j h.1.1 in (d.0, (h.0, (h.1.0, d.1)), d.2)

not_randomize : (k : NameKind) → (k ≡ name_kind.Randomize → ⊥) → method_of k ≡ Some built.Randomize → ⊥
not_randomize name_kind.Plain w h = absurd (cc)
not_randomize name_kind.Sum w h = absurd (cc)
not_randomize name_kind.Product w h = absurd (cc)
not_randomize name_kind.And w h = absurd (cc)
not_randomize name_kind.Or w h = absurd (cc)
not_randomize name_kind.Xor w h = absurd (cc)
not_randomize name_kind.Randomize w h = w refl
not_randomize name_kind.RandMode w h = absurd (cc)
not_randomize name_kind.ConstraintMode w h = absurd (cc)

pub of_others : (at : ℕ) (s : Scope) (n : ℕ) (ns : List ℕ) (i j : List Tok) → FitEach i (other_names (n ∷ ns)) j → (k : NameKind) × FitEach i (names_known (n ∷ ns) k) j × (path_method (path at s (n ∷ ns) false, k) ≡ Some built.Randomize → ⊥)
of_others at s n [] [] j h = absurd h
of_others at s n [] (t ∷ i) j h = (h.0.1.kind, ((h.0.0, h.0.1.is), h.1), λ e. absurd (cc))
of_others at s n (o ∷ ns) [] j h = absurd h
of_others at s n (o ∷ ns) (t ∷ i) j h = let d = rest_other o ns i j h.1 in (d.0, (h.0, d.1), not_randomize d.0 d.2)
