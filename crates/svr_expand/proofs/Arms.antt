-- What the walk finds in a choice with an `else` and in a loop, from what it finds in their bodies.
use Rattle.std.proofs.Common.{rules, ◌≡◌, ◌∷◌, ◌++◌, ◌/◌, ℕ, Bool, true, false, sym, ◌∙◌, ap, List, Option, Some, OnOk, Result, Ok, Err, Bor}
use Rattle.std.specs.Prelude.{slice_index}
use Rattle.svr_typed.specs.declared.expr.TExpr.{TExpr}
use Rattle.svr_typed.specs.declared.item.TItem.{TItem, Branch, Foreach}
use Rattle.svr_typed.specs.declared.item.TItem as item
use Rattle.svr_typed.specs.ExprTerm.{expr_term}
use Rattle.svr_typed.specs.ItemTerm.{foreach, branch, else_items, item_term, item_terms}
use Rattle.svr_eval.specs.Reading.{reading_of}
use Rattle.svr_frame.specs.Frame.{frame_term}
use Rattle.svr_frame.specs.Occurrences.{Place, under, all_occur}
use Rattle.svr_mention.specs.declared.setting.Setting.{Setting}
use Rattle.svr_mention.specs.Mentioned.{shape_in}
use Rattle.svr_expand.specs.declared.around.Around.{Around, Under}
use Rattle.svr_expand.specs.declared.around.Around as around
use Rattle.svr_expand.specs.Expanded.{FindingTerm, guards_of, over_of, place_of, finding_of, found_in, all_found_in}
use Rattle.svr_expand.specs.Loops.{found_in_loop}
use Rattle.svr_expand.proofs.Joined.{found_then}
use Rattle.svr_expand.proofs.Rows.{all_rows}

-- what follows from what holds where a call went well
pub on_then : {T E : Type 0} (r : Result T E) {P Q : Type 0} → (P → Q) → OnOk r P → OnOk r Q
on_then (Ok x) f h = f h
on_then (Err e) f h = tt

foreach_term : (p m names : ℕ) (body : List TItem) → item_term (Foreach p m names body) ≡ foreach p m names (item_terms body)
foreach_term p m names body = search (rules, item.the_lemmas)

branch_term : (t : TExpr) (ms us : List TItem) → item_term (Branch t ms (Some us)) ≡ branch (expr_term t) (item_terms ms) (else_items (item_terms us))
branch_term t ms us = search (rules, item.the_lemmas)

under_place : (t : Bor TExpr) (wanted : Bool) (e : Bor (List ℕ)) (others : Bor Around) → place_of (Under t wanted e others) e.now ≡ under (expr_term t.now) wanted (place_of others.now e.now)
under_place t wanted e others =
    let tests : guards_of (Under t wanted e others) ≡ record { test = expr_term t.now; wanted = wanted; env = e.now } ∷ guards_of others.now = search (rules, around.the_lemmas) in
    let loops : over_of (Under t wanted e others) ≡ over_of others.now = search (rules, around.the_lemmas) in
    λ i. record { guards = tests i; env = e.now; over = loops i }

module _ (x : Setting) where
  pub loop_found : (at : Place) (i : TItem) (p m names n rows : ℕ) (body slice : List TItem) (old new : List FindingTerm) → i ≡ Foreach p m names body → slice ≡ body → n ≡ slice_index x.sizes.now p → rows ≡ n / m
      → new ≡ old ++ found_in_loop x at p m names rows (item_terms slice) → new ≡ old ++ found_in x at (item_term i)
  loop_found at i p m names n rows body slice old new is same size all h =
      all_rows x at p m names (item_terms slice) rows old new (all ∙ ap (λ k. k / m) size) h
      ∙ ap (λ (b : List TItem). old ++ found_in x at (foreach p m names (item_terms b))) same
      ∙ ap (λ t. old ++ found_in x at t) (sym (ap item_term is ∙ foreach_term p m names body))

  pub branch_found : (env : List ℕ) (at : Around) (i : TItem) (t : TExpr) (ms us s q : List TItem) (els : Option (List TItem)) (old mid new : List FindingTerm) (met unmet : Bor TExpr) (here there : Bor (List ℕ)) (inner outer : Bor Around)
      → i ≡ Branch t ms els → els ≡ Some us → s ≡ ms → q ≡ us
      → met.now ≡ t → unmet.now ≡ t → here.now ≡ env → there.now ≡ env → inner.now ≡ at → outer.now ≡ at
      → mid ≡ old ++ all_found_in x (place_of (Under met true here inner) env) (item_terms s)
      → new ≡ mid ++ all_found_in x (place_of (Under unmet false there outer) env) (item_terms q)
      → new ≡ old ++ found_in x (place_of at env) (item_term i)
  branch_found env at i t ms us s q els old mid new met unmet here there inner outer is some is_s is_q m u e f a b h k =
      let first : place_of (Under met true here inner) env ≡ under (expr_term t) true (place_of at env) =
      ap (place_of (Under met true here inner)) (sym e) ∙ under_place met true here inner ∙ (λ j. under (expr_term (m j)) true (place_of (a j) (e j))) in
      let second : place_of (Under unmet false there outer) env ≡ under (expr_term t) false (place_of at env) =
      ap (place_of (Under unmet false there outer)) (sym f) ∙ under_place unmet false there outer ∙ (λ j. under (expr_term (u j)) false (place_of (b j) (f j))) in
      let before : mid ≡ old ++ all_found_in x (under (expr_term t) true (place_of at env)) (item_terms ms) = h ∙ (λ j. old ++ all_found_in x (first j) (item_terms (is_s j))) in
      let behind : new ≡ mid ++ all_found_in x (under (expr_term t) false (place_of at env)) (item_terms us) = k ∙ (λ j. mid ++ all_found_in x (second j) (item_terms (is_q j))) in
      found_then (finding_of (frame_term x.frame.now) x.part x.sizes.now (reading_of x.state.now)) old mid new
      (all_occur (shape_in x) (under (expr_term t) true (place_of at env)) (item_terms ms)) (all_occur (shape_in x) (under (expr_term t) false (place_of at env)) (item_terms us)) before behind
      ∙ ap (λ z. old ++ found_in x (place_of at env) z) (sym (ap item_term (is ∙ ap (λ (n : Option (List TItem)). Branch t ms n) some) ∙ branch_term t ms us))
