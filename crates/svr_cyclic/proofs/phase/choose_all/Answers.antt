use Rattle.std.proofs.Common.{◌≡◌, ℕ, List, [], ◌∷◌, ◌++◌, refl, sym, ap, ◌∙◌, subst, get_or, length, append-nil, arith}
use Rattle.std.proofs.lemmas.List.{take_all}
use Rattle.svr_chain.specs.declared.clause.Lit.{Lit}
use Rattle.svr_frame.specs.Frame.{frame_term}
use Rattle.svr_draw.specs.Words.{generator, word_of, after}
use Rattle.svr_draw.proofs.Stream.{word_now, after_one}
use Rattle.svr_cyclic.specs.Questions.{IsNext, IsRowOf, front_of}
use Rattle.svr_cyclic.specs.Phase.{call_at, over_call, IsSoFar}
use Rattle.svr_cyclic.proofs.Lists.{inserted_rises, none_rises}
use Rattle.svr_cyclic.proofs.Denials.{front_more}
use Rattle.svr_cyclic.proofs.Steps.{moved, places, next_is, so_far_going, so_far_begun, row_here, has_none, is_trying, none_so_far}
use Rattle.svr_cyclic.proofs.phase.choose_all.Goals as goal

pub loop-prop-init : goal.loop-prop-init
loop-prop-init c =
    let call = call_at c.args.call.now in
    record {
      can = record { sound = c.requires.sound; has = c.requires.has; shared = c.requires.roots; wishes = c.requires.prefer; some = c.requires.budget };
      same = refl;
      front = c.requires.front ∙ sym (append-nil c.args.layout.now.roots.items) ∙ ap (λ (xs : List (ℕ × ℕ)). front_of c.args.layout.now xs) (sym c.new-progress.ensures.chosen);
      drawn = c.new-draws.ensures;
      far = none_so_far call (over_call call c.args.layout.now c.args.asker.now.solver.clauses) c.args.props.now c.new-progress.result c.new-progress.ensures.chosen c.new-progress.ensures.cycles c.new-progress.ensures.used;
    }

pub choose_value-requires-clause-can : goal.choose_value-requires-clause-can
choose_value-requires-clause-can c = c.loop-prop.invariant.can

pub choose_value-requires-clause-sought : goal.choose_value-requires-clause-sought
choose_value-requires-clause-sought c =
    let call = call_at c.args.call.now in
    let o = over_call call c.args.layout.now c.args.asker.now.solver.clauses in
    record {
      next =
          subst (λ (xs : List (ℕ × ℕ)). IsNext (frame_term c.args.call.now.frame.now) xs (get_or c.args.props.now c.loop-prop.prop-index 0)) (sym c.as_slice-chosen.ensures.value)
          (next_is call o c.args.props.now c.requires.props c.loop-prop.prop-index c.loop-prop-test.true c.loop-prop.progress c.loop-prop.invariant.far c.requires.sound);
      row =
          subst (λ (ls : List Lit). IsRowOf c.args.layout.now (get_or c.args.props.now c.loop-prop.prop-index 0) ls) (sym c.row_at-row.ensures)
          (row_here call o c.args.props.now c.requires.props c.loop-prop.prop-index c.loop-prop-test.true c.loop-prop.progress c.loop-prop.invariant.far c.args.layout.now c.loop-prop.asker.solver c.loop-prop.invariant.can.has (length c.as_slice-chosen.result.now)
          (ap (λ (xs : List (ℕ × ℕ)). length xs) c.as_slice-chosen.ensures.value));
    }

pub choose_value-requires-clause-front : goal.choose_value-requires-clause-front
choose_value-requires-clause-front c = c.loop-prop.invariant.front ∙ ap (λ (xs : List (ℕ × ℕ)). front_of c.args.layout.now xs) (sym c.as_slice-chosen.ensures.value)

pub loop-prop-preserved-in-Going : goal.loop-prop-preserved-in-Going
loop-prop-preserved-in-Going c =
    let call = call_at c.args.call.now in
    let o = over_call call c.args.layout.now c.args.asker.now.solver.clauses in
    let props = c.args.props.now in
    let i = c.loop-prop.prop-index in
    let g = c.loop-prop.progress in
    let inv = c.loop-prop.invariant in
    let gen = generator c.args.call.now.opts.seed c.args.call.now.number in
    let place = places call o props c.requires.props i c.loop-prop-test.true g inv.far in
    let word : c.word-word.result ≡ word_of (generator c.args.call.now.opts.seed c.args.call.now.number) (length c.loop-prop.invariant.far.choices)
    = c.word-word.ensures.word ∙ ap (λ d. word_of d 0) inv.drawn ∙ word_now i gen ∙ ap (word_of gen) (sym place) in
    let here = moved call c.args.layout.now (get_or props i 0) c.word-word.result c.used-before.result.now inv.same c.as_slice-chosen.ensures.value c.in-Going.is c.in_ok-end.ensures.end in
    record {
      can = c.in_ok-end.ensures.can;
      same = c.in_ok-end.ensures.same ∙ inv.same;
      front =
          front_more c.args.layout.now c.as_slice-chosen.result.now c.take.new.self.chosen.items (get_or props i 0) c.in-Going.value c.row_at-row.result.now _ _
          (subst (λ (ls : List Lit). IsRowOf c.args.layout.now (get_or props i 0) ls) (sym c.row_at-row.ensures)
          (row_here call o props c.requires.props i c.loop-prop-test.true g inv.far c.args.layout.now c.loop-prop.asker.solver inv.can.has (length c.as_slice-chosen.result.now) (ap (λ (xs : List (ℕ × ℕ)). length xs) c.as_slice-chosen.ensures.value))) c.in_ok-end.ensures.front c.in_ok-put_in_front-in-Going.ensures
          (c.in_ok-take-in-Going.ensures.chosen ∙ ap (λ (xs : List (ℕ × ℕ)). xs ++ (get_or props i 0, c.in-Going.value) ∷ []) (sym c.as_slice-chosen.ensures.value));
      drawn = c.word-word.ensures.left ∙ ap (after 1) inv.drawn ∙ after_one i gen;
      far = so_far_going call o props c.requires.props i c.loop-prop-test.true g inv.far c.used-before.result.now c.used-before.ensures.used c.word-word.result word refl c.in-Going.value c.take.new.self here (inserted_rises c.in-Going.value c.used-before.result.now c.used-before.ensures.rising)
          c.in_ok-take-in-Going.ensures.chosen c.take.ensures.cycles c.in_ok-take-in-Going.ensures.used;
    }

pub loop-prop-preserved : goal.loop-prop-preserved
loop-prop-preserved c =
    let call = call_at c.args.call.now in
    let o = over_call call c.args.layout.now c.args.asker.now.solver.clauses in
    let props = c.args.props.now in
    let i = c.loop-prop.prop-index in
    let g = c.loop-prop.progress in
    let inv = c.loop-prop.invariant in
    let gen = generator c.args.call.now.opts.seed c.args.call.now.number in
    let place = places call o props c.requires.props i c.loop-prop-test.true g inv.far in
    let word : c.word-word.result ≡ word_of (generator c.args.call.now.opts.seed c.args.call.now.number) (length c.loop-prop.invariant.far.choices)
    = c.word-word.ensures.word ∙ ap (λ d. word_of d 0) inv.drawn ∙ word_now i gen ∙ ap (word_of gen) (sym place) in
    let here = moved call c.args.layout.now (get_or props i 0) c.word-word.result c.used-before.result.now inv.same c.as_slice-chosen.ensures.value c.in-Begun.is c.in_ok-end.ensures.end in
    record {
      can = c.in_ok-end.ensures.can;
      same = c.in_ok-end.ensures.same ∙ inv.same;
      front =
          front_more c.args.layout.now c.as_slice-chosen.result.now c.begin.new.self.chosen.items (get_or props i 0) c.in-Begun.value c.row_at-row.result.now _ _
          (subst (λ (ls : List Lit). IsRowOf c.args.layout.now (get_or props i 0) ls) (sym c.row_at-row.ensures)
          (row_here call o props c.requires.props i c.loop-prop-test.true g inv.far c.args.layout.now c.loop-prop.asker.solver inv.can.has (length c.as_slice-chosen.result.now) (ap (λ (xs : List (ℕ × ℕ)). length xs) c.as_slice-chosen.ensures.value))) c.in_ok-end.ensures.front c.in_ok-put_in_front-in-Begun.ensures
          (c.in_ok-begin-in-Begun.ensures.chosen ∙ ap (λ (xs : List (ℕ × ℕ)). xs ++ (get_or props i 0, c.in-Begun.value) ∷ []) (sym c.as_slice-chosen.ensures.value));
      drawn = c.word-word.ensures.left ∙ ap (after 1) inv.drawn ∙ after_one i gen;
      far = so_far_begun call o props c.requires.props i c.loop-prop-test.true g inv.far c.used-before.result.now c.used-before.ensures.used c.word-word.result word refl c.in-Begun.value c.in-Begun.proofs c.begin.new.self here (inserted_rises c.in-Begun.value [] none_rises)
          c.in_ok-begin-in-Begun.ensures.chosen c.in_ok-begin-in-Begun.ensures.cycles c.in_ok-begin-in-Begun.ensures.used;
    }

pub returns-in-NoneFits-clause-has : goal.returns-in-NoneFits-clause-has
returns-in-NoneFits-clause-has c = c.in_ok-end.ensures.can.has

pub returns-in-NoneFits-clause-same : goal.returns-in-NoneFits-clause-same
returns-in-NoneFits-clause-same c = c.in_ok-end.ensures.same ∙ c.loop-prop.invariant.same

pub returns-in-NoneFits-clause-reached : goal.returns-in-NoneFits-clause-reached
returns-in-NoneFits-clause-reached c =
    let call = call_at c.args.call.now in
    let o = over_call call c.args.layout.now c.args.asker.now.solver.clauses in
    let props = c.args.props.now in
    let i = c.loop-prop.prop-index in
    let g = c.loop-prop.progress in
    let inv = c.loop-prop.invariant in
    let gen = generator c.args.call.now.opts.seed c.args.call.now.number in
    let place = places call o props c.requires.props i c.loop-prop-test.true g inv.far in
    let word : c.word-word.result ≡ word_of (generator c.args.call.now.opts.seed c.args.call.now.number) (length c.loop-prop.invariant.far.choices)
    = c.word-word.ensures.word ∙ ap (λ d. word_of d 0) inv.drawn ∙ word_now i gen ∙ ap (word_of gen) (sym place) in
    let here = moved call c.args.layout.now (get_or props i 0) c.word-word.result c.used-before.result.now inv.same c.as_slice-chosen.ensures.value c.in-NoneFits.is c.in_ok-end.ensures.end in
    has_none call o props c.requires.props i c.loop-prop-test.true g inv.far c.used-before.result.now c.used-before.ensures.used c.word-word.result word refl c.in-NoneFits.proofs here

pub returns-in-Spent-clause-has : goal.returns-in-Spent-clause-has
returns-in-Spent-clause-has c = c.in_ok-end.ensures.can.has

pub returns-in-Spent-clause-same : goal.returns-in-Spent-clause-same
returns-in-Spent-clause-same c = c.in_ok-end.ensures.same ∙ c.loop-prop.invariant.same

pub returns-in-Spent-clause-reached : goal.returns-in-Spent-clause-reached
returns-in-Spent-clause-reached c =
    let call = call_at c.args.call.now in
    let o = over_call call c.args.layout.now c.args.asker.now.solver.clauses in
    let props = c.args.props.now in
    let i = c.loop-prop.prop-index in
    let g = c.loop-prop.progress in
    let inv = c.loop-prop.invariant in
    let gen = generator c.args.call.now.opts.seed c.args.call.now.number in
    let place = places call o props c.requires.props i c.loop-prop-test.true g inv.far in
    let word : c.word-word.result ≡ word_of (generator c.args.call.now.opts.seed c.args.call.now.number) (length c.loop-prop.invariant.far.choices)
    = c.word-word.ensures.word ∙ ap (λ d. word_of d 0) inv.drawn ∙ word_now i gen ∙ ap (word_of gen) (sym place) in
    let here = moved call c.args.layout.now (get_or props i 0) c.word-word.result c.used-before.result.now inv.same c.as_slice-chosen.ensures.value c.in-Spent.is c.in_ok-end.ensures.end in
    is_trying call o props c.requires.props i c.loop-prop-test.true g inv.far c.used-before.result.now c.used-before.ensures.used c.word-word.result word refl c.in-Spent.log c.in-Spent.first here

pub returns-clause-has : goal.returns-clause-has
returns-clause-has c = c.loop-prop.invariant.can.has

pub returns-clause-same : goal.returns-clause-same
returns-clause-same c = c.loop-prop.invariant.same

pub returns-clause-reached : goal.returns-clause-reached
returns-clause-reached c =
    let call = call_at c.args.call.now in
    let o = over_call call c.args.layout.now c.args.asker.now.solver.clauses in
    let whole = take_all c.loop-prop.prop-index c.args.props.now (omega (arith, c.loop-prop-test.false)) ∙ c.requires.props in
    subst (λ (ps : List ℕ). IsSoFar call o ps c.loop-prop.progress) whole c.loop-prop.invariant.far
