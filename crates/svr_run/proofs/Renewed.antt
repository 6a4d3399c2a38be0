-- The frame of a call that is made again.
use Rattle.std.proofs.Common.{◌≡◌, ◌<◌, ◌≤◌, ℕ, zero, suc, Bool, refl, sym, ◌∙◌, ap, subst, List, [], ◌∷◌, length, Option, None, Some, IsSome, arith}
use Rattle.std.specs.Prelude.{slice_index_or}
use Rattle.svr_limits.specs.declared.limit.TheConstants.{PROPERTY_LIMIT}
use Rattle.svr_typed.specs.ClassTerm.{FlatTerm}
use Rattle.svr_typed.specs.StmtTerm.{CallTerm, DesignTerm}
use Rattle.svr_world.specs.World.{ObjectTerm, WorldTerm, IsMade, object_of, object_with}
use Rattle.svr_world.proofs.Kept.{this_object}
use Rattle.svr_frame.specs.Frame.{FrameTerm}
use Rattle.svr_frame.specs.Making.{frame_of}
use Rattle.svr_frame.specs.Sound.{IsSound}
use Rattle.svr_frame_of.specs.Callable.{IsCallable, state_of}
use Rattle.svr_frame_of.specs.Choosing.{in_state, as_chosen, HasChosen}
use Rattle.svr_frame_of.proofs.Sounding.{is_sound}
use Rattle.svr_phase.specs.declared.options.Options.{Options}
use Rattle.svr_call.specs.declared.outcome.Outcome.{Outcome}
use Rattle.svr_call.specs.declared.outcome.Outcome.TheVariants.{One, Zero, GaveUp, TooHeavy, SizeCap}
use Rattle.svr_call.specs.Items.{is_one}
use Rattle.svr_call.specs.Call.{CallStep}
use Rattle.svr_script.specs.Statement.{flat_of_var, frame_in}
use Rattle.svr_script.specs.Run.{with_answer}
use Rattle.svr_run.specs.Repeating.{IsFrameOf, SameModes}

-- ---- the modes of an object behind a call

there_is : (objects : List (Option ObjectTerm)) (o : ℕ) → IsSome (slice_index_or objects o None) → o < length objects
there_is [] o h = absurd (cc)
there_is (x ∷ objects) zero h = omega arith
there_is (x ∷ objects) (suc o) h = let rest = there_is objects o h in omega (arith, rest)

as_before : (o : ℕ) (w v : WorldTerm) → v ≡ w → SameModes o w v
as_before o w v e = record { rand_modes = ap (λ (x : WorldTerm). (object_of x o).rand_modes) e; block_modes = ap (λ (x : WorldTerm). (object_of x o).block_modes) e }

stepped : (w : WorldTerm) (o : ℕ) (f : FrameTerm) (number : ℕ) (opts : Options) (a : Outcome) (v : WorldTerm) → IsMade w o → CallStep w o f number opts a v → SameModes o w v
stepped w o f number opts (One kept dropped cycles encodings) v made step =
    let is : object_of v o ≡ object_with (object_of w o) step.0 = ap (λ (x : WorldTerm). object_of x o) step.2 ∙ this_object w o step.0 (there_is w.objects o made) in
    record { rand_modes = ap (λ (x : ObjectTerm). x.rand_modes) is; block_modes = ap (λ (x : ObjectTerm). x.block_modes) is }
stepped w o f number opts (Zero phase chosen sizes proofs encodings) v made step = as_before o w v step.1
stepped w o f number opts (GaveUp query encoding log first) v made step = as_before o w v step.1
stepped w o f number opts (TooHeavy weight) v made step = as_before o w v step.1
stepped w o f number opts (SizeCap sizes proofs encodings) v made step = as_before o w v step.1

-- a script variable that takes the answer changes no object
only_script : (a : Option ℕ) (b : Bool) (o : ℕ) (v : WorldTerm) → object_of (with_answer a b v) o ≡ object_of v o
only_script None b o v = refl
only_script (Some x) b o v = refl

pub modes_behind : (c : CallTerm) (f : FrameTerm) (number : ℕ) (opts : Options) (w v u : WorldTerm) (a : Outcome) → IsMade w c.object → CallStep w c.object f number opts a v → u ≡ with_answer c.answer (is_one a) v → SameModes c.object w u
modes_behind c f number opts w v u a made step is =
    let modes : SameModes c.object w v = stepped w c.object f number opts a v made step in
    let same : object_of u c.object ≡ object_of v c.object = ap (λ (x : WorldTerm). object_of x c.object) is ∙ only_script c.answer (is_one a) c.object v in
    record { rand_modes = ap (λ (x : ObjectTerm). x.rand_modes) same ∙ modes.rand_modes; block_modes = ap (λ (x : ObjectTerm). x.block_modes) same ∙ modes.block_modes }

-- ---- frames of the call

module _ (d : DesignTerm) (c : CallTerm) (f : FrameTerm) where
  pub first_frame : (w : WorldTerm) → f ≡ frame_in d w c → IsFrameOf d w c f
  first_frame w is =
      let before : (frame_in d w c).state ≡ f.state = sym (ap (λ (x : FrameTerm). x.state) is) in
      is ∙ (λ i. frame_of (flat_of_var d c.object) d.enums (before i) (object_of w c.object).rand_modes (object_of w c.object).block_modes c)

  -- where the modes are the same, another world has it too
  pub frame_behind : (w u : WorldTerm) → IsFrameOf d w c f → SameModes c.object w u → IsFrameOf d u c f
  frame_behind w u is same = is ∙ (λ i. frame_of (flat_of_var d c.object) d.enums f.state (sym same.rand_modes i) (sym same.block_modes i) c)

  pub few_props : (w : WorldTerm) → IsFrameOf d w c f → IsCallable (flat_of_var d c.object) d.enums (object_of w c.object) w.script c → length f.class.props ≤ PROPERTY_LIMIT
  few_props w is callable = subst (λ (k : FlatTerm). length k.props ≤ PROPERTY_LIMIT) (sym (ap (λ (x : FrameTerm). x.class) is)) callable.properties

  pub has_chosen : (w : WorldTerm) → IsFrameOf d w c f → HasChosen f
  has_chosen w is = subst (λ (x : FrameTerm). HasChosen x) (sym is) refl

  -- with the state of the world it is the frame of the call there
  pub renewed_is : (w : WorldTerm) (g : FrameTerm) → IsFrameOf d w c f → g ≡ as_chosen (in_state f (state_of w c.object)) → g ≡ frame_in d w c
  renewed_is w g is made = made ∙ ap (λ (x : FrameTerm). as_chosen (in_state x (state_of w c.object))) is

pub frame_sound : (d : DesignTerm) (w : WorldTerm) (c : CallTerm) (g : FrameTerm) → g ≡ frame_in d w c → IsCallable (flat_of_var d c.object) d.enums (object_of w c.object) w.script c → IsSound g
frame_sound d w c g is callable = subst (λ (x : FrameTerm). IsSound x) (sym is) (is_sound (flat_of_var d c.object) d.enums (object_of w c.object) w.script c callable)
