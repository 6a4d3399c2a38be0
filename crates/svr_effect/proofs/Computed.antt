-- The value of a copy over all objects is that of the expression of a statement.
use Rattle.std.proofs.Common.{◌≡◌, ◌<◌, ◌≤◌, ◌+◌, ℕ, zero, suc, max, Bool, refl, sym, ◌∙◌, ap, subst, List, [], ◌∷◌, ◌++◌, length, drop, get_or, drop-cons, add-one, append_assoc, arith}
use Rattle.svr_num.specs.Num.{read_of}
use Rattle.svr_typed.specs.declared.expr.TExpr.{TExpr, fold_out-TExpr}
use Rattle.svr_typed.specs.ExprTerm.{ExprTerm, NodeTerm, RangeTerm, BoundTerm, ExprTerms, no_exprs, more_exprs, typed, expr_term, expr_terms, node_term, bound_step, node_step, range_step, expr_step}
use Rattle.svr_eval.specs.Reading.{Reading}
use Rattle.svr_eval.specs.Value.{size_of, sign_of, val, alone}
use Rattle.svr_eval.specs.Typed.{IsTyped, CanRead}
use Rattle.svr_world.specs.World.{WorldTerm}
use Rattle.svr_script.specs.Numbered.{numbered, reading_of_world, assigned}
use Rattle.svr_script.specs.Statement.{all_assigned}
use Rattle.svr_effect.specs.Mentions.{Mentioned, nothing, mentions, by_places, reading_at}
use Rattle.svr_effect.specs.Computed.{alone_over, assigned_over, all_assigned_over}
use Rattle.svr_effect.specs.Stands.{IsComputable, AreComputable, many}
use Rattle.svr_effect.proofs.Gathered.{Gathers, gathers_one, typed_at_places, readable_at_places, value_at_places}

stored : (t : TExpr) → expr_term t ≡ typed t.width t.signed (node_term t.node)
stored t = fold_out-TExpr BoundTerm NodeTerm RangeTerm ExprTerm bound_step node_step range_step expr_step t

pub own_width : (t : TExpr) → IsTyped (expr_term t) → size_of (expr_term t) ≡ t.width
own_width t h = ap size_of (stored t) ∙ (subst IsTyped (stored t) h).2

own_signed : (t : TExpr) → IsTyped (expr_term t) → sign_of (expr_term t) ≡ t.signed
own_signed t h = ap sign_of (stored t) ∙ (subst IsTyped (stored t) h).3

pub at_most : (t : TExpr) → IsTyped (expr_term t) → t.width ≤ 64
at_most t h = (subst IsTyped (stored t) h).1

abbrev width_in : ExprTerm → ℕ
width_in (typed w s n) = w

-- the copy by places `over`, of what is named alone, and the reading that it is computed over
module _ (w : WorldTerm) (r : Reading) (e over : TExpr) (env : List ℕ) (copied : expr_term over ≡ by_places (mentions nothing (numbered (expr_term e))) (numbered (expr_term e)))
    (read : r ≡ reading_at w (mentions nothing (numbered (expr_term e)))) (outside : env ≡ []) (h : IsComputable (reading_of_world w) (expr_term e)) where
  abbrev names : Mentioned
  names = mentions nothing (numbered (expr_term e))

  gathered : Gathers w names (numbered (expr_term e))
  gathered = gathers_one nothing names (numbered (expr_term e)) refl

  pub typed_over : IsTyped (expr_term over)
  typed_over = subst IsTyped (sym copied) (typed_at_places w names (numbered (expr_term e)) h.typed)

  readable : CanRead r 0 (expr_term over)
  readable =
      subst (λ (x : Reading). CanRead x 0 (expr_term over)) (sym read)
      (subst (λ (x : ExprTerm). CanRead (reading_at w names) 0 x) (sym copied) (readable_at_places w names (numbered (expr_term e)) gathered h.reads))

  pub reads_over : CanRead r (length env) (expr_term over)
  reads_over = subst (λ (is : List ℕ). CanRead r (length is) (expr_term over)) (sym outside) readable

  same_width : over.width ≡ e.width
  same_width = sym (ap width_in (stored over)) ∙ ap width_in copied ∙ ap (λ (x : ExprTerm). width_in (by_places names (numbered x))) (stored e)

  -- at a width that is no less than its own
  pub wide_at : (width : ℕ) → e.width ≤ width → over.width ≤ width
  wide_at width le = omega (arith, same_width, le)

  pub value_at : (width : ℕ) → val r env (expr_term over) width e.signed ≡ val (reading_of_world w) [] (numbered (expr_term e)) width (sign_of (expr_term e))
  value_at width =
      (λ k. val (read k) (outside k) (copied k) width (sym (own_signed e h.own) k)) ∙ value_at_places w names (numbered (expr_term e)) gathered width (sign_of (expr_term e))

-- a value as a number
pub place_same : (r : Reading) (e : TExpr) → IsComputable r (expr_term e) → (width value : ℕ) → width ≡ size_of (expr_term e) → value ≡ alone_over r (expr_term e)
    → read_of e.signed width value ≡ read_of (sign_of (expr_term e)) (size_of (expr_term e)) (alone_over r (expr_term e))
place_same r e h width value size is = λ k. read_of (sym (own_signed e h.own) k) (size k) (is k)

-- ---- a list of values

pub one_computable : (r : Reading) (es : List TExpr) (i : ℕ) (x : TExpr) → i < length es → x ≡ get_or es i x → AreComputable r (expr_terms es) → IsComputable r (expr_term x)
one_computable r [] i x lt is h = absurd (omega (arith, lt))
one_computable r (e ∷ es) zero x lt is h = subst (λ (y : TExpr). IsComputable r (expr_term y)) (sym is) h.0
one_computable r (e ∷ es) (suc i) x lt is h = one_computable r es i x (omega (arith, lt)) is h.1

pub one_assigned : (r : Reading) (width : ℕ) (es : List TExpr) (i : ℕ) (x : TExpr) (numbers : List ℕ) (value : ℕ) → i < length es → x ≡ get_or es i x → value ≡ assigned_over r width (expr_term x)
    → numbers ++ all_assigned_over r width (expr_terms (drop i es)) ≡ all_assigned_over r width (expr_terms es)
    → (numbers ++ value ∷ []) ++ all_assigned_over r width (expr_terms (drop (i + 1) es)) ≡ all_assigned_over r width (expr_terms es)
one_assigned r width es i x numbers value lt is got before =
    let opened : drop i es ≡ x ∷ drop (i + 1) es = drop-cons es i x lt ∙ (λ k. sym is k ∷ drop (sym (add-one i) k) es) in
    append_assoc numbers (value ∷ []) (all_assigned_over r width (expr_terms (drop (i + 1) es)))
    ∙ ap (λ v. numbers ++ v ∷ all_assigned_over r width (expr_terms (drop (i + 1) es))) got
    ∙ ap (λ (xs : List TExpr). numbers ++ all_assigned_over r width (expr_terms xs)) (sym opened)
    ∙ before

-- ---- how long it is

pub all_long : (r : Reading) (width : ℕ) (es : ExprTerms) → length (all_assigned_over r width es) ≡ many es
all_long r width no_exprs = refl
all_long r width (more_exprs e es) = ap suc (all_long r width es)

-- over all objects of a world they are those of the statement
pub all_in_world : (w : WorldTerm) (width : ℕ) (es : ExprTerms) → all_assigned_over (reading_of_world w) width es ≡ all_assigned w width es
all_in_world w width no_exprs = refl
all_in_world w width (more_exprs e es) = ap (λ (ns : List ℕ). assigned w width e ∷ ns) (all_in_world w width es)
