-- Runs so far, as they go on by one statement, by statements in a row, and up to a limit or a fault.
use Rattle.std.proofs.Common.{◌≡◌, ◌≤◌, ◌<◌, ◌+◌, ◌^◌, ◌⊎◌, inl, inr, ℕ, zero, suc, Bool, true, false, cond, refl, sym, ◌∙◌, ap, subst, List, [], ◌∷◌, ◌++◌, length, append-nil, append_assoc, length-append, Option, Some, arith}
use Rattle.std.specs.List.{count_by}
use Rattle.svr_typed.specs.StmtTerm.{CallTerm, StmtTerm, call, DesignTerm}
use Rattle.svr_phase.specs.declared.options.Options.{Options}
use Rattle.svr_world.specs.World.{WorldTerm, object_of}
use Rattle.svr_frame.specs.Frame.{FrameTerm}
use Rattle.svr_conflict.specs.declared.found.ConflictEnd.{ConflictEnd}
use Rattle.svr_call.specs.declared.outcome.Outcome.{Outcome}
use Rattle.svr_call.specs.Items.{is_one}
use Rattle.svr_call.specs.Call.{CallStep}
use Rattle.svr_effect.specs.Objects.{IsWhole}
use Rattle.svr_script.specs.Printed.{Event}
use Rattle.svr_script.specs.Statement.{class_of_var, frame_in}
use Rattle.svr_script.specs.Run.{State, Calls, Executes, Runs, begin, statements, IsSoFar, counts_of, is_limit, with_answer, gathered}
use Rattle.svr_script.specs.Conflicts.{HasConflict, HaveConflicts}
use Rattle.svr_script.proofs.Runs.{executed, runs_more, goes_on, all_calls_counted}
use Rattle.svr_script.proofs.Conflicts.{conflicts_joined}
use Rattle.svr_script.proofs.Endings.{counted_once}
use Rattle.svr_run.specs.declared.extra.Extra.{Extra}
use Rattle.svr_run.specs.declared.progress.Counts.{Counts}
use Rattle.svr_run.specs.declared.watched.Watched.{Watched}
use Rattle.svr_run.specs.declared.run.End.TheVariants.{Ended, Limit}
use Rattle.svr_run.specs.declared.stop.Stop.{Stop}
use Rattle.svr_run.specs.declared.stop.Stop.TheVariants.{NoMemory, WriteFault}
use Rattle.svr_run.specs.CanRun.{CanRun, CanExecute}
use Rattle.svr_run.specs.Telling.{Sinks, Tells, TellsFront, HasCounts, counted, printing_of}
use Rattle.svr_run.specs.Events.{IsCause, IsTold, IsNotTold, event_in}
use Rattle.svr_run.specs.Watching.{Watcher, taken, sampled}
use Rattle.svr_run.specs.Reached.{Start, state_of, no_counts, IsAt, Comes, Stops, IsNext, Steps, Halts, IsBefore, Goes, Breaks}
use Rattle.svr_run.specs.Ends.{Watches, end_of}
use Rattle.svr_run.proofs.Sampling.{gathered_join, gathered_of_one}
use Rattle.svr_run.proofs.Written.{tells_nothing, tells_join, front_join, front_of_told, failed_since, none_front, one_counted}

-- ---- truth

pub both : {A : Type 0} (b : Bool) → b ≡ true → b ≡ false → A
both b p q = absurd (cc)

-- ---- how many calls there can be

module _ {W C : Type 0} (wa : Watcher W C) (d : DesignTerm) (opts : Options) (extra : Extra) where
  by_way : (x : StmtTerm) (s t : State) (es : List Event) → Executes d opts x s es t → length es ≤ 1
  by_way x s t es does = elim (executed d opts x s es t does) [
    | inl h ↦ subst (λ (fs : List Event). length fs ≤ 1) (sym h.3) (omega arith)
    | inr h ↦ subst (λ (fs : List Event). length fs ≤ 1) (sym h.0) (omega arith)
  ]

  no_more_calls : (xs : List StmtTerm) (s t : State) (es : List Event) → Runs d opts xs s es t → length es ≤ length xs
  no_more_calls [] s t es (nothing, same) = subst (λ (fs : List Event). length fs ≤ 0) (sym nothing) (omega arith)
  no_more_calls (x ∷ xs) s t es (middle, now, later, going, does, runs, is) =
      let way : length now ≤ 1 = by_way x s middle now does in
      let rest : length later ≤ length xs = no_more_calls xs middle t later runs in
      let all : length (now ++ later) ≡ length now + length later = length-append now later in
      subst (λ (fs : List Event). length fs ≤ suc (length xs)) (sym is) (omega arith)

  -- ---- a run so far

  abbrev pub so_far : (first : Start C) (left : List StmtTerm) (p : Watched W) (now : Sinks) (place : IsAt wa d opts extra first left p now) → IsSoFar d opts place.events (state_of p.progress)
  so_far first left p now place = record { done = place.done; left = left; split = place.split; runs = place.runs }

  calls_made : (first : Start C) (left : List StmtTerm) (p : Watched W) (now : Sinks) (place : IsAt wa d opts extra first left p now) → p.progress.calls ≡ length place.events
  calls_made first left p now place =
      let e : p.progress.calls ≡ 0 + length place.events = all_calls_counted d opts place.done (begin d) place.events (state_of p.progress) place.runs in
      omega arith

  -- its next statement stands
  pub can_execute : (can : CanRun d opts) (x : StmtTerm) (p : Watched W) (now : Sinks) → p.progress.limited ≡ false → IsNext wa d opts extra x p now → CanExecute d p.progress.world x
  can_execute can x p now going (first, rest, place) = can.stands place.events (state_of p.progress) (so_far first (x ∷ rest) p now place) x rest refl going

  pub is_whole : (can : CanRun d opts) (x : StmtTerm) (p : Watched W) (now : Sinks) → IsNext wa d opts extra x p now → IsWhole p.progress.world
  is_whole can x p now (first, rest, place) = can.whole place.events (state_of p.progress) (so_far first (x ∷ rest) p now place)

  -- one more call can be numbered
  pub has_room : (can : CanRun d opts) (x : StmtTerm) (p : Watched W) (now : Sinks) → IsNext wa d opts extra x p now → p.progress.calls + 1 < 2 ^ 64
  has_room can x p now (first, rest, place) =
      let made : p.progress.calls ≡ length place.events = calls_made first (x ∷ rest) p now place in
      let most : length place.events ≤ length place.done = no_more_calls place.done (begin d) (state_of p.progress) place.events place.runs in
      let all : length (statements d) ≡ length place.done + suc (length rest) = ap length place.split ∙ length-append place.done (x ∷ rest) in
      let few : length (statements d) < 2 ^ 64 = can.few in
      fit (2 ^ 64) p.progress.calls (length place.events) (length place.done) (length rest) (length (statements d)) made most all few
    where
      fit : (m c e n r s : ℕ) → c ≡ e → e ≤ n → s ≡ n + suc r → s < m → c + 1 < m
      fit m c e n r s made most all few = omega arith

  -- and counted
  pub counts_fit : (x : StmtTerm) (p : Watched W) (now : Sinks) → IsNext wa d opts extra x p now → p.progress.counts.ones + p.progress.counts.zeros + p.progress.counts.given_up ≤ p.progress.calls
  counts_fit x p now (first, rest, place) =
      fit p.progress.calls (length place.events) p.progress.counts.ones p.progress.counts.zeros p.progress.counts.given_up (counts_of place.events).ones (counts_of place.events).zeros (counts_of place.events).given_up (count_by (λ (e : Event). is_limit e.outcome) place.events)
      (calls_made first (x ∷ rest) p now place) (counted_once place.events) place.counts.ones place.counts.zeros place.counts.given_up
    where
      fit : (c n a b g h i j l : ℕ) → c ≡ n → n ≡ h + i + j + l → a ≡ h → b ≡ i → g ≡ j → a + b + g ≤ c
      fit c n a b g h i j l made all ones zeros given_up = omega arith

  -- the watch can take one more sample
  pub can_watch : (x : StmtTerm) (p : Watched W) (now : Sinks) → IsNext wa d opts extra x p now → 1 ≤ wa.left p.watch
  can_watch x p now (first, rest, place) = fit (length rest) (wa.left p.watch) place.room
    where
      fit : (n l : ℕ) → suc n ≤ l → 1 ≤ l
      fit n l room = omega arith

  -- ---- one statement more

  fewer : (n l m : ℕ) → suc n ≤ l → l ≤ m + 1 → n ≤ m
  fewer n l m room kept = omega arith

  pub one_step : (x : StmtTerm) (es : List Event) (p q : Watched W) (now after : Sinks) → p.progress.limited ≡ false → Executes d opts x (state_of p.progress) es (state_of q.progress)
      → ((fs : List Event) → HasCounts p.progress.counts fs → HasCounts q.progress.counts (fs ++ es)) → Tells (printing_of opts extra) es now after → HaveConflicts extra.conflicts opts.budget es
      → wa.content q.watch ≡ gathered (taken wa.step) (wa.content p.watch) es → wa.left p.watch ≤ wa.left q.watch + 1
      → Steps wa d opts extra x p now q after
  one_step x es p q now after going does counts tells conflicts gathers kept = record {
    steps = λ first rest place. record {
      done = place.done ++ x ∷ [];
      split = place.split ∙ sym (append_assoc place.done (x ∷ []) rest);
      events = place.events ++ es;
      runs = runs_more d opts place.done x (begin d) (state_of p.progress) (state_of q.progress) place.events es place.runs going does;
      counts = counts place.events place.counts;
      tells = tells_join (printing_of opts extra) place.events es first.sinks now after place.tells tells;
      conflicts = conflicts_joined extra.conflicts opts.budget place.events es place.conflicts conflicts;
      gathers = gathers ∙ ap (λ (c : C). gathered (taken wa.step) c es) place.gathers ∙ sym (gathered_join (taken wa.step) first.content place.events es);
      room = fewer (length rest) (wa.left p.watch) (wa.left q.watch) place.room kept;
    };
  }

  -- a call that answered
  pub call_made : (c : CallTerm) (f : FrameTerm) (p : Watched W) (w : WorldTerm) (o : Outcome) (found : Option ConflictEnd) (t : State) → f ≡ frame_in d p.progress.world c → CallStep p.progress.world c.object f (p.progress.calls + 1) opts o w
      → t ≡ record { world = with_answer c.answer (is_one o) w; calls = p.progress.calls + 1; limited = is_limit o } → Calls d opts c (state_of p.progress) (event_in d (record p.progress { world = w }) c f o found) t
  call_made c f p w o found t is_frame step state = record {
    number = refl;
    object = refl;
    class = refl;
    frame = is_frame;
    world = w;
    answers = step;
    after = refl;
    names = refl;
    state = state;
  }

  pub call_steps : (c : CallTerm) (f : FrameTerm) (p q : Watched W) (w : WorldTerm) (o : Outcome) (now after : Sinks) → p.progress.limited ≡ false → f ≡ frame_in d p.progress.world c → CallStep p.progress.world c.object f (p.progress.calls + 1) opts o w
      → state_of q.progress ≡ record { world = with_answer c.answer (is_one o) w; calls = p.progress.calls + 1; limited = is_limit o } → q.progress.counts ≡ counted p.progress.counts o
      → IsTold d opts extra (record p.progress { world = w }) c f o now after
      → wa.content q.watch ≡ sampled wa.step o (class_of_var d c.object) (object_of w c.object).values (wa.content p.watch) → wa.left p.watch ≤ wa.left q.watch + 1
      → Steps wa d opts extra (call c) p now q after
  call_steps c f p q w o now after going is_frame step state counts (found, asked, tells) takes kept =
      let e = event_in d (record p.progress { world = w }) c f o found in
      one_step (call c) (e ∷ []) p q now after going (e, call_made c f p w o found (state_of q.progress) is_frame step state, refl)
      (λ fs h. subst (λ (n : Counts). HasCounts n (fs ++ e ∷ [])) (sym counts) (one_counted p.progress.counts fs e h)) tells (asked, tt)
      (takes ∙ sym (gathered_of_one wa.step (wa.content p.watch) e)) kept

  -- ---- stops

  pub out_of_memory : (first : Start C) (left : List StmtTerm) (p : Watched W) (now : Sinks) → IsAt wa d opts extra first left p now → Stops d opts extra first.sinks NoMemory now
  out_of_memory first left p now place = (place.events, state_of p.progress, so_far first left p now place, place.conflicts, front_of_told (printing_of opts extra) place.events first.sinks now place.tells)

  pub halts_here : (x : StmtTerm) (p : Watched W) (now : Sinks) → Halts wa d opts extra x p now NoMemory now
  halts_here x p now = record { halts = λ first rest place. out_of_memory first (x ∷ rest) p now place }

  pub halts_as : (x : StmtTerm) (p : Watched W) (now after : Sinks) (why cause : Stop) → why ≡ cause → Halts wa d opts extra x p now cause after → Halts wa d opts extra x p now why after
  halts_as x p now after why cause e halt = subst (λ (w : Stop). Halts wa d opts extra x p now w after) (sym e) halt

  -- a call answered, and what it tells was not written whole
  pub halts_behind : (c : CallTerm) (e : Event) (p : Watched W) (t : State) (now after : Sinks) (why : Stop) → p.progress.limited ≡ false → Calls d opts c (state_of p.progress) e t
      → HasConflict extra.conflicts opts.budget e → TellsFront (printing_of opts extra) (e ∷ []) now after → IsCause why now after → Halts wa d opts extra (call c) p now why after
  halts_behind c e p t now after NoMemory going calls asked front cause = record {
    halts = λ first rest place. (
      place.events ++ e ∷ [],
      t,
      goes_on d opts place.events (e ∷ []) (state_of p.progress) t (so_far first (call c ∷ rest) p now place) (call c) rest refl going (e, calls, refl),
      conflicts_joined extra.conflicts opts.budget place.events (e ∷ []) place.conflicts (asked, tt),
      front_join (printing_of opts extra) place.events (e ∷ []) first.sinks now after place.tells front,
    );
  }
  halts_behind c e p t now after WriteFault going calls asked front cause = record {
    halts = λ first rest place. (
      place.events ++ e ∷ [],
      t,
      goes_on d opts place.events (e ∷ []) (state_of p.progress) t (so_far first (call c ∷ rest) p now place) (call c) rest refl going (e, calls, refl),
      conflicts_joined extra.conflicts opts.budget place.events (e ∷ []) place.conflicts (asked, tt),
      front_join (printing_of opts extra) place.events (e ∷ []) first.sinks now after place.tells front,
      failed_since (printing_of opts extra) place.events first.sinks now after place.tells cause,
    );
  }

  pub call_halts : (c : CallTerm) (f : FrameTerm) (p : Watched W) (w : WorldTerm) (o : Outcome) (now after : Sinks) (why : Stop) → p.progress.limited ≡ false → f ≡ frame_in d p.progress.world c → CallStep p.progress.world c.object f (p.progress.calls + 1) opts o w
      → IsNotTold d opts extra (record p.progress { world = w }) c f o why now after → Halts wa d opts extra (call c) p now why after
  call_halts c f p w o now after why going is_frame step (inl (is, same)) =
      halts_as (call c) p now after why NoMemory is (subst (λ (s : Sinks). Halts wa d opts extra (call c) p now NoMemory s) (sym same) (halts_here (call c) p now))
  call_halts c f p w o now after why going is_frame step (inr (found, asked, front, cause)) =
      let t : State = record { world = with_answer c.answer (is_one o) w; calls = p.progress.calls + 1; limited = is_limit o } in
      halts_behind c (event_in d (record p.progress { world = w }) c f o found) p t now after why going (call_made c f p w o found t is_frame step refl) asked front cause

  -- ---- statements in a row

  arrived : (first : Start C) (next : List StmtTerm) (p : Watched W) (now : Sinks) → Comes wa d opts extra first next p now → p.progress.limited ≡ false → IsAt wa d opts extra first next p now
  arrived first next p now comes going = by_end comes.there
    where
      by_end : (comes.left ≡ next) ⊎ (p.progress.limited ≡ true) → IsAt wa d opts extra first next p now
      by_end (inl e) = subst (λ (xs : List StmtTerm). IsAt wa d opts extra first xs p now) e comes.place
      by_end (inr limited) = both p.progress.limited limited going

  pub next_of : (x : StmtTerm) (xs : List StmtTerm) (p : Watched W) (now : Sinks) → xs ≡ x ∷ [] → p.progress.limited ≡ false → IsBefore wa d opts extra xs p now → IsNext wa d opts extra x p now
  next_of x xs p now is going (first, rest, comes) =
      (first, rest, arrived first (x ∷ rest) p now (subst (λ (ys : List StmtTerm). Comes wa d opts extra first (ys ++ rest) p now) is comes) going)

  pub goes_by : (x : StmtTerm) (xs : List StmtTerm) (p q : Watched W) (now after : Sinks) → xs ≡ x ∷ [] → p.progress.limited ≡ false → Steps wa d opts extra x p now q after → Goes wa d opts extra xs p now q after
  goes_by x xs p q now after is going step = record {
    goes = λ first rest comes. record {
      left = rest;
      place = step.steps first rest (arrived first (x ∷ rest) p now (subst (λ (ys : List StmtTerm). Comes wa d opts extra first (ys ++ rest) p now) is comes) going);
      there = inl refl;
    };
  }

  pub breaks_by : (x : StmtTerm) (xs : List StmtTerm) (p : Watched W) (now after : Sinks) (why : Stop) → xs ≡ x ∷ [] → p.progress.limited ≡ false → Halts wa d opts extra x p now why after → Breaks wa d opts extra xs p now why after
  breaks_by x xs p now after why is going halt = record {
    breaks = λ first rest comes. halt.halts first rest (arrived first (x ∷ rest) p now (subst (λ (ys : List StmtTerm). Comes wa d opts extra first (ys ++ rest) p now) is comes) going);
  }

  -- the same statements, and the same cause
  pub before_row : (xs ys : List StmtTerm) (p : Watched W) (now : Sinks) → xs ≡ ys → IsBefore wa d opts extra xs p now → IsBefore wa d opts extra ys p now
  before_row xs ys p now e before = subst (λ (zs : List StmtTerm). IsBefore wa d opts extra zs p now) e before

  pub goes_row : (xs ys : List StmtTerm) (p q : Watched W) (now after : Sinks) → xs ≡ ys → Goes wa d opts extra xs p now q after → Goes wa d opts extra ys p now q after
  goes_row xs ys p q now after e way = subst (λ (zs : List StmtTerm). Goes wa d opts extra zs p now q after) e way

  pub breaks_row : (xs ys : List StmtTerm) (p : Watched W) (now after : Sinks) (why : Stop) → xs ≡ ys → Breaks wa d opts extra xs p now why after → Breaks wa d opts extra ys p now why after
  breaks_row xs ys p now after why e halt = subst (λ (zs : List StmtTerm). Breaks wa d opts extra zs p now why after) e halt

  pub breaks_as : (xs : List StmtTerm) (p : Watched W) (now after : Sinks) (why cause : Stop) → why ≡ cause → Breaks wa d opts extra xs p now cause after → Breaks wa d opts extra xs p now why after
  breaks_as xs p now after why cause e halt = subst (λ (w : Stop). Breaks wa d opts extra xs p now w after) (sym e) halt

  -- none goes on behind a limit
  pub goes_limited : (xs : List StmtTerm) (p : Watched W) (now : Sinks) → p.progress.limited ≡ true → Goes wa d opts extra xs p now p now
  goes_limited xs p now limited = record { goes = λ first rest comes. record { left = comes.left; place = comes.place; there = inr limited } }

  pub goes_nowhere : (p : Watched W) (now : Sinks) → Goes wa d opts extra [] p now p now
  goes_nowhere p now = record { goes = λ first rest comes. comes }

  module _ (xs ys : List StmtTerm) (p q : Watched W) (now after : Sinks) where
    regrouped : (first : Start C) (rest : List StmtTerm) (r : Watched W) (place : Sinks) → Comes wa d opts extra first ((xs ++ ys) ++ rest) r place → Comes wa d opts extra first (xs ++ (ys ++ rest)) r place
    regrouped first rest r place comes = subst (λ (zs : List StmtTerm). Comes wa d opts extra first zs r place) (append_assoc xs ys rest) comes

    pub before_first : IsBefore wa d opts extra (xs ++ ys) p now → IsBefore wa d opts extra xs p now
    before_first (first, rest, comes) = (first, ys ++ rest, regrouped first rest p now comes)

    pub before_next : IsBefore wa d opts extra (xs ++ ys) p now → Goes wa d opts extra xs p now q after → IsBefore wa d opts extra ys q after
    before_next (first, rest, comes) way = (first, rest, way.goes first (ys ++ rest) (regrouped first rest p now comes))

    pub goes_then : (r : Watched W) (last : Sinks) → Goes wa d opts extra xs p now q after → Goes wa d opts extra ys q after r last → Goes wa d opts extra (xs ++ ys) p now r last
    goes_then r last way next = record { goes = λ first rest comes. next.goes first rest (way.goes first (ys ++ rest) (regrouped first rest p now comes)) }

    pub breaks_then : (why : Stop) (last : Sinks) → Goes wa d opts extra xs p now q after → Breaks wa d opts extra ys q after why last → Breaks wa d opts extra (xs ++ ys) p now why last
    breaks_then why last way next = record { breaks = λ first rest comes. next.breaks first rest (way.goes first (ys ++ rest) (regrouped first rest p now comes)) }

    pub breaks_first : (why : Stop) (last : Sinks) → Breaks wa d opts extra xs p now why last → Breaks wa d opts extra (xs ++ ys) p now why last
    breaks_first why last way = record { breaks = λ first rest comes. way.breaks first (ys ++ rest) (regrouped first rest p now comes) }

  -- ---- the whole script

  abbrev start : Watched W → Sinks → Start C
  start p now = record { sinks = now; content = wa.content p.watch }

  begins : (p : Watched W) (now : Sinks) → state_of p.progress ≡ begin d → p.progress.counts ≡ no_counts → length (statements d) ≤ wa.left p.watch → Comes wa d opts extra (start p now) (statements d ++ []) p now
  begins p now state counts room = record {
    left = statements d;
    place = record {
      done = [];
      split = refl;
      events = [];
      runs = (refl, state);
      counts = subst (λ (n : Counts). HasCounts n []) (sym counts) (record { ones = refl; zeros = refl; given_up = refl });
      tells = tells_nothing (printing_of opts extra) now;
      conflicts = tt;
      gathers = refl;
      room = room;
    };
    there = inl (sym (append-nil (statements d)));
  }

  pub starts : (p : Watched W) (now : Sinks) → state_of p.progress ≡ begin d → p.progress.counts ≡ no_counts → length (statements d) ≤ wa.left p.watch → IsBefore wa d opts extra (statements d) p now
  starts p now state counts room = (start p now, [], begins p now state counts room)

  ends : (first : Start C) (p : Watched W) (now : Sinks) → Comes wa d opts extra first [] p now → Watches (taken wa.step) first.content (Some (wa.content p.watch)) d opts extra (end_of p.progress) first.sinks now
  ends first p now comes = by_limit p.progress.limited refl comes.there
    where
      by_limit : (b : Bool) → p.progress.limited ≡ b → (comes.left ≡ []) ⊎ (p.progress.limited ≡ true) → Watches (taken wa.step) first.content (Some (wa.content p.watch)) d opts extra (cond b Limit (Ended p.progress.counts)) first.sinks now
      by_limit true limited there = (
        comes.place.events,
        state_of p.progress,
        record { so_far = so_far first comes.left p now comes.place; ended = inr limited },
        limited,
        comes.place.conflicts,
        comes.place.tells,
        ap (λ (c : C). Some c) comes.place.gathers,
      )
      by_limit false going (inl none) = (
        comes.place.events,
        state_of p.progress,
        record { so_far = so_far first comes.left p now comes.place; ended = inl none },
        going,
        comes.place.counts,
        comes.place.conflicts,
        comes.place.tells,
        ap (λ (c : C). Some c) comes.place.gathers,
      )
      by_limit false going (inr limited) = both p.progress.limited limited going

  -- from its beginning
  pub run_ends : (p q : Watched W) (now after : Sinks) → state_of p.progress ≡ begin d → p.progress.counts ≡ no_counts → length (statements d) ≤ wa.left p.watch → Goes wa d opts extra (statements d) p now q after
      → Watches (taken wa.step) (wa.content p.watch) (Some (wa.content q.watch)) d opts extra (end_of q.progress) now after
  run_ends p q now after state counts room way = ends (start p now) q after (way.goes (start p now) [] (begins p now state counts room))

  pub run_stops : (p : Watched W) (now after : Sinks) (why : Stop) → state_of p.progress ≡ begin d → p.progress.counts ≡ no_counts → length (statements d) ≤ wa.left p.watch → Breaks wa d opts extra (statements d) p now why after → Stops d opts extra now why after
  run_stops p now after why state counts room halt = halt.breaks (start p now) [] (begins p now state counts room)

-- ---- no run

module _ (d : DesignTerm) (opts : Options) (extra : Extra) where
  pub no_run : (now : Sinks) (why : Stop) → why ≡ NoMemory → Stops d opts extra now why now
  no_run now why e = subst (λ (w : Stop). Stops d opts extra now w now) (sym e) none
    where
      none : Stops d opts extra now NoMemory now
      none = ([], begin d, record { done = []; left = statements d; split = refl; runs = (refl, refl) }, tt, none_front (printing_of opts extra) [] now)

  -- the same cause
  pub stops_as : (now after : Sinks) (why cause : Stop) → why ≡ cause → Stops d opts extra now cause after → Stops d opts extra now why after
  stops_as now after why cause e stop = subst (λ (w : Stop). Stops d opts extra now w after) (sym e) stop
