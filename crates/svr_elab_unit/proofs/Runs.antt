-- What is known of the statements of the initial block, put together of what is known of their parts.
use Rattle.std.proofs.Common.{◌≡◌, ℕ, ◌+◌, Bool, List, [], ◌∷◌, ◌++◌, drop, length, map, Option, refl, ap, sym, ◌∙◌}
use Rattle.svr_tree.specs.declared.VarDecl.{VarDecl}
use Rattle.svr_tree.specs.DeclTree.{VarTree, var_tree}
use Rattle.svr_tree.specs.StmtTree.{StmtTree}
use Rattle.svr_tree.specs.ScriptTree.{UnitTree}
use Rattle.svr_refusal.specs.declared.Refusal.TheVariants as refusal
use Rattle.svr_elab_fault.specs.declared.Fault.{Fault}
use Rattle.svr_elab_fault.specs.Refusals.{first_one, earlier, when}
use Rattle.svr_elab_names.specs.declared.VarStand.{VarStand}
use Rattle.svr_elab_names.specs.Names.{Space}
use Rattle.svr_elab_names.specs.Tables.{Key, var_of}
use Rattle.svr_elab_stmt.specs.declared.StmtsPart.{StmtsPart}
use Rattle.svr_elab_stmt.specs.Seen.{stmts_part}
use Rattle.svr_elab_stmt.specs.Stmts.{StmtElab, StmtsElab, with_made, no_stmts, and_stmt, stmt}
use Rattle.svr_elab_unit.specs.Vars.{ValuedElab, decls_valued, no_values}
use Rattle.svr_elab_unit.specs.Run as spec
use Rattle.svr_elab_unit.proofs.Joined.{valued_joined}

abbrev One : Type 0
One = StmtElab (Option Fault)

abbrev Many : Type 0
Many = StmtsElab (Option Fault)

abbrev Valued : Type 0
Valued = ValuedElab (Option Fault)

pub top_is : (ss : Many) (at : ℕ) (s t : One) (r : Many) → r ≡ and_stmt first_one ss t → t ≡ spec.with_limit first_one at ss.count s → r ≡ spec.and_top first_one ss at s
top_is ss at s t r h e = h ∙ ap (λ (t : One). and_stmt first_one ss t) e

-- one more statement is what the definition takes next
pub tops_more : (n : Space) (old mid new : List ℕ) (p q : StmtsPart) (at : ℕ) (s : One) (each : StmtTree) (rest : List StmtTree) (whole : Many)
    → mid ≡ old → stmts_part new q ≡ spec.and_top first_one (stmts_part mid p) at s → at ≡ spec.stmt_start each → s ≡ stmt first_one (with_made n old) each
    → spec.tops first_one n (stmts_part old p) (each ∷ rest) ≡ whole → spec.tops first_one n (stmts_part new q) rest ≡ whole
tops_more n old mid new p q at s each rest whole same h is_at is_s known =
    ap (λ (ss : Many). spec.tops first_one n ss rest)
    (h ∙ ap (λ (made : List ℕ). spec.and_top first_one (stmts_part made p) at s) same
    ∙ ap (λ (at : ℕ). spec.and_top first_one (stmts_part old p) at s) is_at
    ∙ ap (λ (s : One). spec.and_top first_one (stmts_part old p) (spec.stmt_start each) s) is_s)
    ∙ known

-- no values
pub nothing_valued : (made : List ℕ) (es : List (Key × VarStand)) (ss : Many) → es ≡ [] → ss ≡ no_stmts first_one made → (let v : Valued = record { vars = map var_of es; stmts = ss } in v) ≡ no_values first_one made
nothing_valued made es ss is_es is_ss = rw (is_ss, is_es) refl

-- ---- values of the variables of the module, and then of its initial block

pub values_are : (n : Space) (start s r : Valued) (ks rest : List VarStand) (old : List ℕ) (outer inner : List VarDecl) (xs ys : List VarDecl) (k : ℕ)
    → start ≡ no_values first_one old → s ≡ decls_valued first_one n start ks (map var_tree xs) → r ≡ decls_valued first_one n s rest (map var_tree ys)
    → rest ≡ drop k ks → k ≡ length xs → xs ≡ outer → ys ≡ inner
    → r ≡ decls_valued first_one n (no_values first_one old) ks (map var_tree outer ++ map var_tree inner)
values_are n start s r ks rest old outer inner xs ys k is_start is_s is_r is_rest is_k is_xs is_ys =
    is_r
    ∙ ap (λ (ks : List VarStand). decls_valued first_one n s ks (map var_tree ys)) (is_rest ∙ ap (λ (k : ℕ). drop k ks) (is_k ∙ ap length is_xs))
    ∙ ap (λ (ys : List VarDecl). decls_valued first_one n s (drop (length outer) ks) (map var_tree ys)) is_ys
    ∙ ap (λ (s : Valued). decls_valued first_one n s (drop (length outer) ks) (map var_tree inner)) (is_s ∙ ap (λ (xs : List VarDecl). decls_valued first_one n start ks (map var_tree xs)) is_xs)
    ∙ ap (λ (s : Valued). decls_valued first_one n (decls_valued first_one n s ks (map var_tree outer)) (drop (length outer) ks) (map var_tree inner)) is_start
    ∙ sym (valued_joined n (no_values first_one old) ks outer (map var_tree inner))

-- ---- the whole

pub run_is : (n : Space) (ks : List VarStand) (u : UnitTree) (made : List ℕ) (v : Valued) (ss : List StmtTree) (r : Many)
    → made ≡ [] → v ≡ decls_valued first_one n (no_values first_one made) ks (u.outer ++ u.inner) → r ≡ spec.tops first_one n v.stmts ss → ss ≡ u.stmts
    → r ≡ spec.run first_one n ks u
run_is n ks u made v ss r is_made is_v is_r is_ss =
    is_r ∙ ap (spec.tops first_one n v.stmts) is_ss
    ∙ ap (λ (v : Valued). spec.tops first_one n v.stmts u.stmts) (is_v ∙ ap (λ (made : List ℕ). decls_valued first_one n (no_values first_one made) ks (u.outer ++ u.inner)) is_made)

-- the object variables that have an object behind them are those that they give one to
pub made_is : (made : List ℕ) (p : StmtsPart) (r : Many) → stmts_part made p ≡ r → stmts_part r.made p ≡ r
made_is made p r h = sym (ap (λ (ss : Many). stmts_part ss.made p) h) ∙ h
