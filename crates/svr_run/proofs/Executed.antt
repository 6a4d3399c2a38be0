-- Statements that are neither calls nor made of others, and those that are.
use Rattle.std.proofs.Common.{◌≡◌, ℕ, zero, suc, ◌+◌, ◌-◌, ◌<◌, Bool, true, false, refl, sym, ◌∙◌, ap, List, [], ◌∷◌, ◌++◌, length, drop, get_or, add-one, arith, rules}
use Rattle.std.proofs.Math.Seq.{drop-cons}
use Rattle.svr_typed.specs.declared.stmt.CallStmt.{CallStmt}
use Rattle.svr_typed.specs.declared.stmt.TStmt.{TStmt, Call, the_lemmas, fold_out-TStmt, map-TStmt}
use Rattle.svr_typed.specs.declared.stmt.TStmt.TheOpen.{TStmt-F}
use Rattle.svr_typed.specs.declared.stmt.TStmt.TheViews.{Repeat, outs-Repeat}
use Rattle.svr_typed.specs.declared.stmt.TStmt.TheViews as views
use Rattle.svr_typed.specs.StmtTerm.{StmtTerm, make, set_var, set_prop, resize, pattern, rand_mode, constraint_mode, call, repeat, list, DesignTerm, call_term, stmt_term, stmt_terms, stmt_step}
use Rattle.svr_phase.specs.declared.options.Options.{Options}
use Rattle.svr_world.specs.World.{WorldTerm}
use Rattle.svr_script.specs.Statement.{effect, in_order, all_in_order, times}
use Rattle.svr_script.specs.Run.{State, Executes}
use Rattle.svr_effect.specs.Stands.{Stands}
use Rattle.svr_run.specs.CanRun.{CanExecute, is_plain}

-- ---- plain statements

both : {A : Type 0} → false ≡ true → A
both e = absurd (cc)

pub plain_order : (x : StmtTerm) → is_plain x ≡ true → in_order x ≡ x ∷ []
plain_order (make o) h = refl
plain_order (set_var v e) h = refl
plain_order (set_prop o p i e) h = refl
plain_order (resize o p n) h = refl
plain_order (pattern o p es) h = refl
plain_order (rand_mode o p on) h = refl
plain_order (constraint_mode o b on) h = refl
plain_order (call c) h = both h
plain_order (repeat n s) h = both h
plain_order (list ss) h = both h

pub plain_stands : (d : DesignTerm) (w : WorldTerm) (x : StmtTerm) → is_plain x ≡ true → CanExecute d w x → Stands d w x
plain_stands d w (make o) h can = can
plain_stands d w (set_var v e) h can = can
plain_stands d w (set_prop o p i e) h can = can
plain_stands d w (resize o p n) h can = can
plain_stands d w (pattern o p es) h can = can
plain_stands d w (rand_mode o p on) h can = can
plain_stands d w (constraint_mode o b on) h can = can
plain_stands d w (call c) h can = both h
plain_stands d w (repeat n s) h can = both h
plain_stands d w (list ss) h can = both h

pub plain_executes : (d : DesignTerm) (opts : Options) (x : StmtTerm) (s : State) → is_plain x ≡ true → Executes d opts x s [] (record s { world = effect d x s.world })
plain_executes d opts (make o) s h = (refl, refl)
plain_executes d opts (set_var v e) s h = (refl, refl)
plain_executes d opts (set_prop o p i e) s h = (refl, refl)
plain_executes d opts (resize o p n) s h = (refl, refl)
plain_executes d opts (pattern o p es) s h = (refl, refl)
plain_executes d opts (rand_mode o p on) s h = (refl, refl)
plain_executes d opts (constraint_mode o b on) s h = (refl, refl)
plain_executes d opts (call c) s h = both h
plain_executes d opts (repeat n x) s h = both h
plain_executes d opts (list xs) s h = both h

-- ---- calls

pub call_is : (x : CallStmt) → stmt_term (Call x) ≡ call (call_term x)
call_is x = search (rules, the_lemmas)

pub call_order : (x : CallStmt) → in_order (stmt_term (Call x)) ≡ call (call_term x) ∷ []
call_order x = ap in_order (call_is x)

-- ---- `repeat`

abbrev layer_term : TStmt-F TStmt → StmtTerm
layer_term x = stmt_step (map-TStmt TStmt StmtTerm stmt_term x)

pub repeat_term : (n : ℕ) (b : TStmt) → stmt_term (Repeat n b) ≡ repeat n (stmt_term b)
repeat_term n b = fold_out-TStmt StmtTerm stmt_step (Repeat n b) ∙ ap layer_term (outs-Repeat n b)

pub repeat_order : (n : ℕ) (b : TStmt) → in_order (stmt_term (Repeat n b)) ≡ times n (in_order (stmt_term b))
repeat_order n b = ap in_order (repeat_term n b)

pub all_turns : (n : ℕ) (xs : List StmtTerm) → times n xs ≡ times (n - 0) xs
all_turns n xs =
    let e : n ≡ n - 0 = omega arith in
    ap (λ (k : ℕ). times k xs) e

-- the turns that are left begin with the next
pub next_turn : (n i : ℕ) (xs : List StmtTerm) → i < n → times (n - i) xs ≡ xs ++ times (n - (i + 1)) xs
next_turn n i xs less =
    let e : n - i ≡ suc (n - (i + 1)) = omega arith in
    ap (λ (k : ℕ). times k xs) e

pub no_turn : (n i : ℕ) (xs : List StmtTerm) → n - i ≡ 0 → times (n - i) xs ≡ []
no_turn n i xs e = ap (λ (k : ℕ). times k xs) e

-- ---- a list

list_term : (ss : List TStmt) → stmt_term (views.List ss) ≡ list (stmt_terms ss)
list_term ss = fold_out-TStmt StmtTerm stmt_step (views.List ss) ∙ ap layer_term (views.outs-List ss)

pub list_order : (ss : List TStmt) → in_order (stmt_term (views.List ss)) ≡ all_in_order (stmt_terms ss)
list_order ss = ap in_order (list_term ss)

-- what is left of a list begins with its next item
pub front_of : {A : Type 0} (xs : List A) (i : ℕ) (x : A) → i < length xs → x ≡ get_or xs i x → drop i xs ≡ x ∷ drop (i + 1) xs
front_of xs i x less is = drop-cons xs i x less ∙ ap (λ y. y ∷ drop (suc i) xs) (sym is) ∙ ap (λ n. x ∷ drop n xs) (sym (add-one i))
