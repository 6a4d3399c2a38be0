-- Whatever a run of a lawful design has come to, its next statement can be executed, and its samples are numbers of 64 bits.
use Rattle.std.proofs.Common.{◌≡◌, ◌<◌, ◌≤◌, ◌^◌, ℕ, zero, suc, ◌+◌, Bool, true, false, cond, sym, ◌∙◌, ap, subst, List, [], ◌∷◌, ◌++◌, length, length-append, Option, None, Some, arith}
use Rattle.std.specs.Prelude.{slice_get, slice_index}
use Rattle.std.specs.List.{All}
use Rattle.std.proofs.lemmas.Bool.{eqb-true}
use Rattle.std.proofs.lemmas.Nat.{pow_pos}
use Rattle.std.proofs.lemmas.List.Elements.{All-nil, All-cons, All-append, All-head, All-tail}
use Rattle.std.proofs.Math.Nat.{pow-le-pow_right}
use Rattle.svr_typed.specs.declared.Prop.{Prop}
use Rattle.svr_limits.specs.declared.limit.TheConstants.{STATEMENT_LIMIT}
use Rattle.svr_typed.specs.StmtTerm as stmt
use Rattle.svr_typed.specs.StmtTerm.{CallTerm, StmtTerm, DesignTerm}
use Rattle.svr_world.specs.declared.change.Change.{Change}
use Rattle.svr_world.specs.World.{WorldTerm, IsMade, object_of, new_object, object_with, with_change}
use Rattle.svr_world.specs.Fits.{FitProps, FitsClass}
use Rattle.svr_world.proofs.Fitting.{object_with_fits}
use Rattle.svr_frame.specs.Frame.{FrameTerm}
use Rattle.svr_frame.specs.Sound.{IsSound}
use Rattle.svr_phase.specs.declared.options.Options.{Options}
use Rattle.svr_call.specs.declared.outcome.Outcome.{Outcome}
use Rattle.svr_call.specs.declared.outcome.Outcome.TheVariants.{One, Zero, GaveUp, TooHeavy, SizeCap}
use Rattle.svr_call.specs.Call.{call_of, CallStep}
use Rattle.svr_call.specs.Items.{is_one}
use Rattle.svr_frame_of.specs.Callable.{IsCallable}
use Rattle.svr_frame_of.proofs.Sounding.{is_sound}
use Rattle.svr_script.specs.Printed.{Event}
use Rattle.svr_script.specs.Statement.{effect, class_of_var, flat_of_var, width_of_var, frame_in}
use Rattle.svr_script.specs.Run.{State, begin, statements, with_answer, Calls, Executes, Runs, IsSoFar, samples_of}
use Rattle.svr_effect.specs.Objects.{IsWhole}
use Rattle.svr_effect.specs.Stands.{Stands}
use Rattle.svr_run.specs.CanRun.{CanExecute, CanRun}
use Rattle.svr_design.specs.Types.{IsProp}
use Rattle.svr_design.specs.Statements.{Made, made_behind, Follows, IsCall, IsAnswer, IsPlain}
use Rattle.svr_design.specs.Lawful.{IsLawful}
use Rattle.svr_run_laws.specs.Runs.{LawfulCanRun, AreStored, AreSamples, LawfulIsSampled}
use Rattle.svr_run_laws.proofs.Ways.{by_way}
use Rattle.svr_run_laws.proofs.Classes.{flat_is, holds_objects}
use Rattle.svr_run_laws.proofs.Fit.{IsFit, below_at}
use Rattle.svr_run_laws.proofs.Callable.{callable}
use Rattle.svr_run_laws.proofs.Changes.{one_fits}
use Rattle.svr_run_laws.proofs.Order.{IsIn, all_in, made_more, EachFollows, all_parts_follow, all_parts_few}
use Rattle.svr_run_laws.proofs.Kept.{Keeps, blank_fits, nothing_changed, in_turn, object_kept, this_made, script_kept}
use Rattle.svr_run_laws.proofs.Sampled.{EventIsStored, no_events, few_told, few_sampled, samples_stored}
use Rattle.svr_run_laws.proofs.Effects.{stands, effect_kept, new_fits, answer_below}

module _ (d : DesignTerm) (opts : Options) (cap : opts.size_cap ≤ 2048) (l : IsLawful d) where
  -- ---- between two statements

  -- the world fits, and these are made
  record Holds (made : List ℕ) (w : WorldTerm) : Type 0 where
    pub fit : IsFit d w
    pub there : (o : ℕ) → Made made o → IsMade w o

  -- ---- before a statement

  call_can : (made : List ℕ) (w : WorldTerm) → Holds made w → (c : CallTerm) → IsIn d (stmt.call c) → Made made c.object → IsCallable (flat_of_var d c.object) d.enums (object_of w c.object) w.script c
  call_can made w h c is g = callable d l w h.fit c is.stands is.listed (h.there c.object g)

  plain_can : (made : List ℕ) (w : WorldTerm) → Holds made w → (x : StmtTerm) → IsIn d x → Follows made x → Stands d w x
  plain_can made w h x is g = stands d l w h.fit made h.there x is.stands g

  can_execute : (made : List ℕ) (w : WorldTerm) → Holds made w → (x : StmtTerm) → IsIn d x → Follows made x → CanExecute d w x
  can_execute made w h (stmt.make o) is g = plain_can made w h (stmt.make o) is g
  can_execute made w h (stmt.set_var v e) is g = plain_can made w h (stmt.set_var v e) is g
  can_execute made w h (stmt.set_prop o p i e) is g = plain_can made w h (stmt.set_prop o p i e) is g
  can_execute made w h (stmt.resize o p n) is g = plain_can made w h (stmt.resize o p n) is g
  can_execute made w h (stmt.pattern o p es) is g = plain_can made w h (stmt.pattern o p es) is g
  can_execute made w h (stmt.rand_mode o p e) is g = plain_can made w h (stmt.rand_mode o p e) is g
  can_execute made w h (stmt.constraint_mode o b e) is g = plain_can made w h (stmt.constraint_mode o b e) is g
  can_execute made w h (stmt.call c) is g = (h.there c.object g, call_can made w h c is g)
  can_execute made w h (stmt.repeat n s) is g = plain_can made w h (stmt.repeat n s) is g
  can_execute made w h (stmt.list ss) is g = plain_can made w h (stmt.list ss) is g

  -- ---- behind a call

  changed : (w : WorldTerm) (fit : IsFit d w) (c : CallTerm) → IsCall d c → IsMade w c.object → (change : Change) → (FitsClass (flat_of_var d c.object) (object_of w c.object) → FitsClass (flat_of_var d c.object) (object_with (object_of w c.object) change)) → Keeps d w (with_change w c.object change)
  changed w fit c is made change f = object_kept d w fit c.object (holds_objects d l c.object is.object).within (object_with (object_of w c.object) change) (f (fit.fits c.object made))

  stepped : (w : WorldTerm) (fit : IsFit d w) (c : CallTerm) → IsCall d c → IsMade w c.object → IsSound (frame_in d w c) → (number : ℕ) (o : Outcome) (v : WorldTerm) → CallStep w c.object (frame_in d w c) number opts o v → Keeps d w v
  stepped w fit c is made sound number (One kept dropped cycles encodings) v h =
      let fits = one_fits (call_of w c.object (frame_in d w c) number opts) sound cap kept dropped cycles encodings h.0 (fit.fits c.object made).rising h.1 in
      subst (Keeps d w) (sym h.2) (changed w fit c is made h.0 (λ old. object_with_fits (flat_of_var d c.object) (object_of w c.object) h.0 old fits))
  stepped w fit c is made sound number (Zero phase chosen sizes proofs encodings) v h = subst (Keeps d w) (sym h.1) (nothing_changed d w fit)
  stepped w fit c is made sound number (GaveUp q e log first) v h = subst (Keeps d w) (sym h.1) (nothing_changed d w fit)
  stepped w fit c is made sound number (TooHeavy weight) v h = subst (Keeps d w) (sym h.1) (nothing_changed d w fit)
  stepped w fit c is made sound number (SizeCap sizes proofs encodings) v h = subst (Keeps d w) (sym h.1) (nothing_changed d w fit)

  bit_fits : (v : ℕ) (b : Bool) → IsPlain (slice_get d.vars v) → cond b 1 0 < 2 ^ width_of_var d v
  bit_fits v true h = answer_below d l v h
  bit_fits v false h = pow_pos (width_of_var d v)

  answered : (a : Option ℕ) (b : Bool) (w : WorldTerm) → IsFit d w → IsAnswer d a → Keeps d w (with_answer a b w)
  answered None b w fit h = nothing_changed d w fit
  answered (Some v) b w fit h = script_kept d w fit v (cond b 1 0) (bit_fits v b h)

  -- before a variable takes the answer
  called_first : (made : List ℕ) (s : State) → Holds made s.world → (c : CallTerm) → IsIn d (stmt.call c) → Made made c.object → (e : Event) (t : State) → (k : Calls d opts c s e t) → Keeps d s.world k.world
  called_first made s h c is g e t k =
      let w = s.world in
      let sound : IsSound (frame_in d w c) = is_sound (flat_of_var d c.object) d.enums (object_of w c.object) w.script c (call_can made w h c is g) in
      stepped w h.fit c is.stands (h.there c.object g) sound e.number e.outcome k.world (subst (λ (f : FrameTerm). CallStep w c.object f e.number opts e.outcome k.world) k.frame k.answers)

  called : (made : List ℕ) (s : State) → Holds made s.world → (c : CallTerm) → IsIn d (stmt.call c) → Made made c.object → (e : Event) (t : State) → Calls d opts c s e t → Keeps d s.world t.world
  called made s h c is g e t k =
      let w = s.world in
      let step = called_first made s h c is g e t k in
      let answer = answered c.answer (is_one e.outcome) k.world step.fit is.stands.answer in
      subst (λ (x : State). Keeps d w x.world) (sym k.state) (in_turn d w k.world (with_answer c.answer (is_one e.outcome) k.world) step answer)

  -- ---- what a call has told

  all_stored : (ps : List Prop) (ls : List (List ℕ)) → FitProps ps ls → All (IsProp d.enums) ps → AreStored ls
  all_stored [] [] fit are p i = pow_pos 64
  all_stored [] (l ∷ ls) fit are p i = absurd fit
  all_stored (q ∷ ps) [] fit are p i = absurd fit
  all_stored (q ∷ ps) (l ∷ ls) fit are zero i =
      let below : slice_index l i < 2 ^ q.kind.width = below_at q.kind.width l i fit.0.within in
      let wide : 2 ^ q.kind.width ≤ 2 ^ 64 = pow-le-pow_right {n = 2} (omega arith) {i = q.kind.width} {j = 64} (All-head (IsProp d.enums) q ps are).kind.high in
      omega (arith, below, wide)
  all_stored (q ∷ ps) (l ∷ ls) fit are (suc p) i = all_stored ps ls fit.1 (All-tail (IsProp d.enums) q ps are) p i

  called_stored : (made : List ℕ) (s : State) → Holds made s.world → (c : CallTerm) → IsIn d (stmt.call c) → Made made c.object → (e : Event) (t : State) → Calls d opts c s e t → EventIsStored e
  called_stored made s h c is g e t k =
      let step = called_first made s h c is g e t k in
      let fits : FitsClass (flat_of_var d c.object) (object_of k.world c.object) = step.fit.fits c.object (step.made c.object (h.there c.object g)) in
      let flat = flat_is d l (class_of_var d c.object) (holds_objects d l c.object is.stands.object).less in
      subst AreStored (sym k.after) (all_stored (flat_of_var d c.object).props (object_of k.world c.object).values fits.values flat.props)

  -- ---- behind a statement

  after : (made : List ℕ) (w v : WorldTerm) → Holds made w → Keeps d w v → Holds made v
  after made w v h k = record { fit = k.fit; there = λ o g. k.made o (h.there o g) }

  after_make : (made : List ℕ) (w : WorldTerm) → Holds made w → (o : ℕ) → IsIn d (stmt.make o) → Holds (made ++ o ∷ []) (effect d (stmt.make o) w)
  after_make made w h o is =
      let kept = effect_kept d l w h.fit made h.there (stmt.make o) is.stands tt in
      let own = holds_objects d l o is.stands in
      let this : IsMade (effect d (stmt.make o) w) o = this_made d w h.fit o own.within (new_object (slice_index w.declared o) (flat_of_var d o)) (new_fits d l w h.fit made h.there o own) in
      record {
        fit = kept.fit;
        there = λ q g. by_way (λ k. kept.made q (h.there q k)) (λ k. subst (λ (n : ℕ). IsMade (effect d (stmt.make o) w) n) (sym (eqb-true q o k)) this) (made_more made o q g);
      }

  -- behind what has this effect, and makes none
  after_plain : (made : List ℕ) (x : StmtTerm) (s t : State) → IsIn d x → Follows made x → Holds made s.world → t ≡ record s { world = effect d x s.world } → Holds made t.world
  after_plain made x s t is g h e = subst (λ (r : State). Holds made r.world) (sym e) (after made s.world (effect d x s.world) h (effect_kept d l s.world h.fit made h.there x is.stands g))

  executed : (made : List ℕ) (x : StmtTerm) (s : State) (es : List Event) (t : State) → IsIn d x → Follows made x → Holds made s.world → Executes d opts x s es t → Holds (made_behind x made) t.world
  executed made (stmt.make o) s es t is g h k = subst (λ (r : State). Holds (made ++ o ∷ []) r.world) (sym k.1) (after_make made s.world h o is)
  executed made (stmt.set_var v e) s es t is g h k = after_plain made (stmt.set_var v e) s t is g h k.1
  executed made (stmt.set_prop o p i e) s es t is g h k = after_plain made (stmt.set_prop o p i e) s t is g h k.1
  executed made (stmt.resize o p n) s es t is g h k = after_plain made (stmt.resize o p n) s t is g h k.1
  executed made (stmt.pattern o p vs) s es t is g h k = after_plain made (stmt.pattern o p vs) s t is g h k.1
  executed made (stmt.rand_mode o p e) s es t is g h k = after_plain made (stmt.rand_mode o p e) s t is g h k.1
  executed made (stmt.constraint_mode o b e) s es t is g h k = after_plain made (stmt.constraint_mode o b e) s t is g h k.1
  executed made (stmt.call c) s es t is g h k = after made s.world t.world h (called made s h c is g k.0 t k.1)
  executed made (stmt.repeat n x) s es t is g h k = after_plain made (stmt.repeat n x) s t is g h k.1
  executed made (stmt.list xs) s es t is g h k = after_plain made (stmt.list xs) s t is g h k.1

  executed_stored : (made : List ℕ) (x : StmtTerm) (s : State) (es : List Event) (t : State) → IsIn d x → Follows made x → Holds made s.world → Executes d opts x s es t → All EventIsStored es
  executed_stored made (stmt.make o) s es t is g h k = no_events es k.0
  executed_stored made (stmt.set_var v e) s es t is g h k = no_events es k.0
  executed_stored made (stmt.set_prop o p i e) s es t is g h k = no_events es k.0
  executed_stored made (stmt.resize o p n) s es t is g h k = no_events es k.0
  executed_stored made (stmt.pattern o p vs) s es t is g h k = no_events es k.0
  executed_stored made (stmt.rand_mode o p e) s es t is g h k = no_events es k.0
  executed_stored made (stmt.constraint_mode o b e) s es t is g h k = no_events es k.0
  executed_stored made (stmt.call c) s es t is g h k =
      subst (All EventIsStored) (sym k.2) (All-cons EventIsStored k.0 [] (called_stored made s h c is g k.0 t k.1) (All-nil EventIsStored))
  executed_stored made (stmt.repeat n x) s es t is g h k = no_events es k.0
  executed_stored made (stmt.list xs) s es t is g h k = no_events es k.0

  -- ---- behind statements in a row

  record Reached (left : List StmtTerm) (w : WorldTerm) : Type 0 where
    pub made : List ℕ
    pub holds : Holds made w
    pub follow : EachFollows made left
    pub each : All (IsIn d) left

  reached : (xs left : List StmtTerm) (made : List ℕ) (s : State) (es : List Event) (t : State) → Runs d opts xs s es t → Holds made s.world → EachFollows made (xs ++ left) → All (IsIn d) (xs ++ left) → Reached left t.world
  reached [] left made s es t r h g a = subst (λ (x : State). Reached left x.world) (sym r.1) (record { made = made; holds = h; follow = g; each = a })
  reached (x ∷ xs) left made s es t r h g a =
      let is = All-head (IsIn d) x (xs ++ left) a in
      reached xs left (made_behind x made) r.0 r.2 t r.5 (executed made x s r.1 r.0 is g.0 h r.4) g.1 (All-tail (IsIn d) x (xs ++ left) a)

  at_first : Holds [] (begin d).world
  at_first = record { fit = blank_fits d; there = λ o g. absurd (let none : false ≡ true = g in cc) }

  so_far : (es : List Event) (t : State) → (r : IsSoFar d opts es t) → Reached r.left t.world
  so_far es t r =
      reached r.done r.left [] (begin d) es t r.runs at_first (subst (EachFollows []) r.split (all_parts_follow [] d.stmts l.made)) (subst (λ (xs : List StmtTerm). All (IsIn d) xs) r.split (all_in d l.stmts))

  next_can : (left : List StmtTerm) (w : WorldTerm) → Reached left w → (x : StmtTerm) (rest : List StmtTerm) → left ≡ x ∷ rest → CanExecute d w x
  next_can left w r x rest e =
      let g : EachFollows r.made (x ∷ rest) = subst (EachFollows r.made) e r.follow in
      let a : All (IsIn d) (x ∷ rest) = subst (λ (xs : List StmtTerm). All (IsIn d) xs) e r.each in
      can_execute r.made w r.holds x (All-head (IsIn d) x rest a) g.0

  -- ---- what is sampled

  runs_stored : (xs left : List StmtTerm) (made : List ℕ) (s : State) (es : List Event) (t : State) → Runs d opts xs s es t → Holds made s.world → EachFollows made (xs ++ left) → All (IsIn d) (xs ++ left) → All EventIsStored es
  runs_stored [] left made s es t r h g a = no_events es r.0
  runs_stored (x ∷ xs) left made s es t r h g a =
      let is = All-head (IsIn d) x (xs ++ left) a in
      subst (All EventIsStored) (sym r.6) (All-append EventIsStored r.1 r.2 (executed_stored made x s r.1 r.0 is g.0 h r.4)
      (runs_stored xs left (made_behind x made) r.0 r.2 t r.5 (executed made x s r.1 r.0 is g.0 h r.4) g.1 (All-tail (IsIn d) x (xs ++ left) a)))

  sampled : (es : List Event) (t : State) → IsSoFar d opts es t → AreSamples (samples_of es)
  sampled es t r =
      let stored = runs_stored r.done r.left [] (begin d) es t r.runs at_first (subst (EachFollows []) r.split (all_parts_follow [] d.stmts l.made)) (subst (λ (xs : List StmtTerm). All (IsIn d) xs) r.split (all_in d l.stmts)) in
      let told = few_told d opts r.done (begin d) es t r.runs in
      let done : length (statements d) ≡ length r.done + length r.left = ap length r.split ∙ length-append r.done r.left in
      let all = all_parts_few d.stmts in
      let limit = l.few_stmts in
      let few = few_sampled es in
      record { stored = samples_stored es stored; few = omega (arith, told, done, all, limit, few) }

  whole : (w : WorldTerm) → IsFit d w → IsWhole w
  whole w fit = omega (arith, fit.objects, fit.script)

  can_run : CanRun d opts
  can_run = record {
    stands = λ es t r x rest e limited. next_can r.left t.world (so_far es t r) x rest e;
    whole = λ es t r. whole t.world (so_far es t r).holds.fit;
    few = let few = all_parts_few d.stmts in let limit = l.few_stmts in omega (arith, few, limit);
  }

pub lawful_can_run : LawfulCanRun
lawful_can_run d opts cap l = can_run d opts cap l

pub lawful_is_sampled : LawfulIsSampled
lawful_is_sampled d opts cap l es t r = sampled d opts cap l es t r

-- it has no more statements than a script may run
pub lawful_is_short : (d : DesignTerm) → IsLawful d → length (statements d) ≤ STATEMENT_LIMIT
lawful_is_short d l = let few = all_parts_few d.stmts in let limit = l.few_stmts in omega (arith, few, limit)
