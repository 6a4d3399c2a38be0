-- Laws of runs: they are joined and cut between any two statements, each goes on or has ended, and their texts grow at the end.
use Rattle.std.proofs.Common.{◌≡◌, ℕ, zero, suc, ◌+◌, Bool, true, false, ◌⊎◌, inl, inr, List, [], ◌∷◌, ◌++◌, length, take, refl, sym, ap, ◌∙◌, subst, arith, append_assoc, append-nil, length-append}
use Rattle.std.specs.List.{flat_map}
use Rattle.std.proofs.Math.Seq.{take-append-add}
use Rattle.std.proofs.lemmas.List.Concat.{flat_map-append, flat_map-cons}
use Rattle.svr_typed.specs.StmtTerm.{CallTerm, StmtTerm, make, set_var, set_prop, resize, pattern, rand_mode, constraint_mode, call, repeat, list, DesignTerm}
use Rattle.svr_phase.specs.declared.options.Options.{Options}
use Rattle.svr_script.specs.Printed.{Event}
use Rattle.svr_script.specs.Statement.{times, effect}
use Rattle.svr_script.specs.Run.{State, begin, is_limit, Calls, Executes, Runs, statements, IsSoFar, IsRun, Printing, event_text, event_log, text_of, journal_of}

-- ---- one statement

-- a statement is a call, or tells nothing and has its effect
pub executed : (d : DesignTerm) (opts : Options) (x : StmtTerm) (s : State) (es : List Event) (t : State) → Executes d opts x s es t
    → ((c : CallTerm) × (e : Event) × Calls d opts c s e t × (es ≡ e ∷ [])) ⊎ ((es ≡ []) × (t ≡ record s { world = effect d x s.world }))
executed d opts (call c) s es t (e, calls, is) = inl (c, e, calls, is)
executed d opts (make o) s es t h = inr h
executed d opts (set_var v e) s es t h = inr h
executed d opts (set_prop o p i e) s es t h = inr h
executed d opts (resize o p n) s es t h = inr h
executed d opts (pattern o p vs) s es t h = inr h
executed d opts (rand_mode o p on) s es t h = inr h
executed d opts (constraint_mode o b on) s es t h = inr h
executed d opts (repeat n x) s es t h = inr h
executed d opts (list xs) s es t h = inr h

module _ (d : DesignTerm) (opts : Options) where
  -- ---- statements in a row

  pub runs_join : (xs ys : List StmtTerm) (s m t : State) (es fs : List Event)
      → Runs d opts xs s es m → Runs d opts ys m fs t → Runs d opts (xs ++ ys) s (es ++ fs) t
  runs_join [] ys s m t es fs (nothing, same) later =
      subst (λ gs. Runs d opts ys s (gs ++ fs) t) (sym nothing) (subst (λ (r : State). Runs d opts ys r fs t) same later)
  runs_join (x ∷ xs) ys s m t es fs (middle, now, rest, going, does, runs, is) later =
      (middle, now, rest ++ fs, going, does, runs_join xs ys middle m t rest fs runs later, ap (λ gs. gs ++ fs) is ∙ append_assoc now rest fs)

  pub runs_cut : (xs ys : List StmtTerm) (s t : State) (es : List Event) → Runs d opts (xs ++ ys) s es t
      → (m : State) × (fs : List Event) × (gs : List Event) × Runs d opts xs s fs m × Runs d opts ys m gs t × (es ≡ fs ++ gs)
  runs_cut [] ys s t es runs = (s, [], es, (refl, refl), runs, refl)
  runs_cut (x ∷ xs) ys s t es (middle, now, rest, going, does, runs, is) =
      let cut = runs_cut xs ys middle t rest runs in (
        cut.0,
        now ++ cut.1,
        cut.2,
        (middle, now, cut.1, going, does, cut.3, refl),
        cut.4,
        is ∙ ap (λ hs. now ++ hs) cut.5 ∙ sym (append_assoc now cut.1 cut.2),
      )

  -- one more statement
  pub runs_more : (xs : List StmtTerm) (x : StmtTerm) (s m t : State) (es fs : List Event)
      → Runs d opts xs s es m → m.limited ≡ false → Executes d opts x m fs t → Runs d opts (xs ++ x ∷ []) s (es ++ fs) t
  runs_more xs x s m t es fs runs going does =
      runs_join xs (x ∷ []) s m t es fs runs (t, fs, [], going, does, (refl, refl), sym (append-nil fs))

  -- one more turn of a loop
  pub times_more : (n : ℕ) (xs : List StmtTerm) → times n xs ++ xs ≡ times (suc n) xs
  times_more zero xs = sym (append-nil xs)
  times_more (suc n) xs = append_assoc xs (times n xs) xs ∙ ap (λ ys. xs ++ ys) (times_more n xs)

  pub runs_turn : (n : ℕ) (xs : List StmtTerm) (s m t : State) (es fs : List Event)
      → Runs d opts (times n xs) s es m → Runs d opts xs m fs t → Runs d opts (times (suc n) xs) s (es ++ fs) t
  runs_turn n xs s m t es fs runs turn =
      subst (λ ys. Runs d opts ys s (es ++ fs) t) (times_more n xs) (runs_join (times n xs) xs s m t es fs runs turn)

  -- ---- runs so far

  pub begun : IsSoFar d opts [] (begin d)
  begun = record { done = []; left = statements d; split = refl; runs = (refl, refl) }

  pub goes_on : (es fs : List Event) (m t : State) (so_far : IsSoFar d opts es m) (x : StmtTerm) (rest : List StmtTerm)
      → so_far.left ≡ x ∷ rest → m.limited ≡ false → Executes d opts x m fs t → IsSoFar d opts (es ++ fs) t
  goes_on es fs m t so_far x rest next going does = record {
    done = so_far.done ++ x ∷ [];
    left = rest;
    split = so_far.split ∙ ap (λ ys. so_far.done ++ ys) next ∙ sym (append_assoc so_far.done (x ∷ []) rest);
    runs = runs_more so_far.done x (begin d) m t es fs so_far.runs going does;
  }

  -- A run so far has ended, or a next statement is there for which nothing stands in the way.
  pub ends_or_goes_on : (es : List Event) (m : State) (so_far : IsSoFar d opts es m)
      → IsRun d opts es m ⊎ ((x : StmtTerm) × (rest : List StmtTerm) × (so_far.left ≡ x ∷ rest) × (m.limited ≡ false))
  ends_or_goes_on es m so_far = by_state m.limited refl so_far.left refl
    where
      by_state : (b : Bool) → m.limited ≡ b → (ys : List StmtTerm) → so_far.left ≡ ys
          → IsRun d opts es m ⊎ ((x : StmtTerm) × (rest : List StmtTerm) × (so_far.left ≡ x ∷ rest) × (m.limited ≡ false))
      by_state true limited ys left = inl (record { so_far = so_far; ended = inr limited })
      by_state false going [] left = inl (record { so_far = so_far; ended = inl left })
      by_state false going (y ∷ ys) left = inr (y, ys, left, going)

  -- a front of the statements of a run so far has a run so far
  pub has_fronts : (es : List Event) (t : State) (so_far : IsSoFar d opts es t) (xs ys : List StmtTerm) → so_far.done ≡ xs ++ ys
      → (m : State) × (fs : List Event) × (gs : List Event) × IsSoFar d opts fs m × (es ≡ fs ++ gs)
  has_fronts es t so_far xs ys is =
      let cut = runs_cut xs ys (begin d) t es (subst (λ zs. Runs d opts zs (begin d) es t) is so_far.runs) in
      let front : IsSoFar d opts cut.1 cut.0 = record {
        done = xs;
        left = ys ++ so_far.left;
        split = so_far.split ∙ ap (λ zs. zs ++ so_far.left) is ∙ append_assoc xs ys so_far.left;
        runs = cut.3;
      } in (cut.0, cut.1, cut.2, front, cut.5)

  -- ---- numbers of calls, and limits

  pub counts_calls : (x : StmtTerm) (s : State) (es : List Event) (t : State) → Executes d opts x s es t → t.calls ≡ s.calls + length es
  counts_calls x s es t does = elim (executed d opts x s es t does) [
    | inl h ↦ ap (λ (r : State). r.calls) h.2.state ∙ h.2.number ∙ ap (λ fs. s.calls + length fs) (sym h.3)
    | inr h ↦ ap (λ (r : State). r.calls) h.1 ∙ added s.calls ∙ ap (λ fs. s.calls + length fs) (sym h.0)
  ]
    where
      added : (n : ℕ) → n ≡ n + 0
      added n = omega arith

  -- as many calls were made as are told
  pub all_calls_counted : (xs : List StmtTerm) (s : State) (es : List Event) (t : State) → Runs d opts xs s es t → t.calls ≡ s.calls + length es
  all_calls_counted [] s es t (nothing, same) = ap (λ (r : State). r.calls) same ∙ added s.calls ∙ ap (λ fs. s.calls + length fs) (sym nothing)
    where
      added : (n : ℕ) → n ≡ n + 0
      added n = omega arith
  all_calls_counted (x ∷ xs) s es t (middle, now, rest, going, does, runs, is) =
      all_calls_counted xs middle rest t runs
      ∙ ap (λ n. n + length rest) (counts_calls x s now middle does)
      ∙ grouped s.calls (length now) (length rest)
      ∙ ap (λ n. s.calls + n) (sym (length-append now rest))
      ∙ ap (λ fs. s.calls + length fs) (sym is)
    where
      grouped : (a b c : ℕ) → a + b + c ≡ a + (b + c)
      grouped a b c = omega arith

-- ---- texts

pub text_joined : (how : Printing) (es fs : List Event) → text_of how (es ++ fs) ≡ text_of how es ++ text_of how fs
text_joined how es fs = flat_map-append (event_text how) es fs

pub journal_joined : (es fs : List Event) → journal_of (es ++ fs) ≡ journal_of es ++ journal_of fs
journal_joined es fs = flat_map-append event_log es fs

-- a front of the last piece is a front of all
front_of_last : (f : Event → List ℕ) (es : List Event) (e : Event) (n : ℕ) → flat_map f es ++ take n (f e) ≡ take (length (flat_map f es) + n) (flat_map f (es ++ e ∷ []))
front_of_last f es e n =
    let last : flat_map f (e ∷ []) ≡ f e = flat_map-cons f e [] ∙ append-nil (f e) in
    let whole : flat_map f (es ++ e ∷ []) ≡ flat_map f es ++ f e = flat_map-append f es (e ∷ []) ∙ ap (λ (t : List ℕ). flat_map f es ++ t) last in
    sym (ap (λ (t : List ℕ). take (length (flat_map f es) + n) t) whole ∙ take-append-add (flat_map f es) (f e) n)

-- What was written before a fault, behind the text so far, is a front of the text of the run so far that has this call too.
pub is_front : (how : Printing) (es : List Event) (e : Event) (n : ℕ)
    → text_of how es ++ take n (event_text how e) ≡ take (length (text_of how es) + n) (text_of how (es ++ e ∷ []))
is_front how es e n = front_of_last (event_text how) es e n

pub is_front_of_journal : (es : List Event) (e : Event) (n : ℕ)
    → journal_of es ++ take n (event_log e) ≡ take (length (journal_of es) + n) (journal_of (es ++ e ∷ []))
is_front_of_journal es e n = front_of_last event_log es e n

-- ---- limits

-- a run that met a limit met it in its last call
pub limit_is_last : (d : DesignTerm) (opts : Options) (xs : List StmtTerm) (s : State) (es : List Event) (t : State) → Runs d opts xs s es t
    → s.limited ≡ false → t.limited ≡ true → (front : List Event) × (e : Event) × (es ≡ front ++ e ∷ []) × (is_limit e.outcome ≡ true)
limit_is_last d opts [] s es t (nothing, same) going limited = absurd (neither s.limited going (ap (λ (r : State). r.limited) (sym same) ∙ limited))
  where
    neither : (b : Bool) → b ≡ false → b ≡ true → ⊥
    neither b p q = cc
limit_is_last d opts (x ∷ xs) s es t (middle, now, rest, free, does, runs, is) going limited =
    by_way (executed d opts x s now middle does) middle.limited refl (limit_is_last d opts xs middle rest t runs)
  where
    Last : List Event → Type 0
    Last fs = (front : List Event) × (e : Event) × (fs ≡ front ++ e ∷ []) × (is_limit e.outcome ≡ true)

    neither : (b : Bool) → b ≡ false → b ≡ true → ⊥
    neither b p q = cc

    behind : (fs : List Event) → es ≡ now ++ fs → Last fs → Last es
    behind fs whole (front, e, split, limit) = (now ++ front, e, whole ∙ ap (λ gs. now ++ gs) split ∙ sym (append_assoc now front (e ∷ [])), limit)

    alone : (ys : List StmtTerm) → Runs d opts ys middle rest t → middle.limited ≡ true → rest ≡ []
    alone [] (nothing, same) stop = nothing
    alone (y ∷ ys) (m2, n2, r2, free2, does2, runs2, is2) stop = absurd (neither middle.limited free2 stop)

    by_way : (((c : CallTerm) × (e : Event) × Calls d opts c s e middle × (now ≡ e ∷ [])) ⊎ ((now ≡ []) × (middle ≡ record s { world = effect d x s.world })))
        → (b : Bool) → middle.limited ≡ b → (middle.limited ≡ false → t.limited ≡ true → Last rest) → Last es
    by_way h false going2 later = behind rest is (later going2 limited)
    by_way (inl (c, e, calls, told)) true stop later =
        let none : rest ≡ [] = alone xs runs stop in
        ([], e, is ∙ ap (λ fs. now ++ fs) none ∙ append-nil now ∙ told, sym (ap (λ (r : State). r.limited) calls.state) ∙ stop)
    by_way (inr (nothing, same)) true stop later = absurd (neither s.limited going (sym (ap (λ (r : State). r.limited) same) ∙ stop))
