-- The sample is a call that can stand in a script.
use Rattle.std.proofs.Common.{◌≡◌, ℕ, ◌<◌, ◌^◌, List, [], refl, sym, subst, arith, lit<, lit≤}
use Rattle.std.specs.List.Sorted.{IsStrictlyIncreasing}
use Rattle.std.proofs.lemmas.List.Elements.{All-nil, All-cons}
use Rattle.svr_typed.specs.declared.class.Prop.{Prop}
use Rattle.svr_typed.specs.declared.class.EnumType.{EnumType}
use Rattle.svr_typed.specs.ClassTerm.{BlockTerm, FlatTerm}
use Rattle.svr_typed.specs.StmtTerm.{CallTerm}
use Rattle.svr_eval.specs.Examples.{int}
use Rattle.svr_eval.specs.Typed.{IsTyped}
use Rattle.svr_world.specs.World.{WorldTerm, object_of}
use Rattle.svr_world.specs.Fits.{IsSmall, AreSmall, FitsProp, FitsClass}
use Rattle.svr_frame.specs.Frame.{FrameTerm}
use Rattle.svr_frame.specs.Sound.{IsEnum, IsProp}
use Rattle.svr_frame.specs.Examples.{size_, equal}
use Rattle.svr_frame_of.specs.Callable.{state_from, widest, ItemsFit, CanIfDeclared, IsCallable}
use Rattle.svr_frame_of_tests.specs.Sample.{sample_prop, sample_block, sample_class, sample_world, sample_call}

pub sample_is_small : AreSmall sample_class.props
sample_is_small = All-cons (λ (p : Prop). IsSmall p.array) sample_prop [] tt (All-nil (λ (p : Prop). IsSmall p.array))

queue_is : IsProp [] sample_prop
queue_is = record { inner = lit≤ tt; wide = (lit≤ tt, lit≤ tt); named = tt; cyclic = λ h. cc }

equal_typed : IsTyped (equal (size_ 0) (int 2))
equal_typed = (lit≤ tt, lit≤ tt, refl, refl, ((lit≤ tt, lit≤ tt, refl, refl, lit≤ tt), (lit≤ tt, lit≤ tt, refl, refl, lit< tt)))

abbrev all_random : FrameTerm
all_random = widest sample_class [] (state_from (object_of sample_world 0) sample_world.script)

block_fits : ItemsFit all_random sample_block.items
block_fits = record {
  typed = ((equal_typed, tt), tt);
  read = (((lit< tt, tt), tt), tt);
  targets = (tt, tt);
  inside = (((((lit< tt, refl, refl), tt), tt)), tt);
}

rising : IsStrictlyIncreasing []
rising k h = absurd (omega arith)

empty_fits : FitsProp sample_prop []
empty_fits = record { size = tt; short = lit≤ tt; within = All-nil (λ (v : ℕ). v < 2 ^ 2) }

object_fits : FitsClass sample_class (object_of sample_world 0)
object_fits = record { values = (empty_fits, tt); rand_modes = refl; block_modes = refl; used = refl; rising = All-cons IsStrictlyIncreasing [] [] rising (All-nil IsStrictlyIncreasing) }

sample_is_callable : IsCallable sample_class [] (object_of sample_world 0) sample_world.script sample_call
sample_is_callable = record {
  properties = lit≤ tt;
  arrays = lit≤ tt;
  few_blocks = lit< tt;
  types = All-nil IsEnum;
  props = All-cons (IsProp []) sample_prop [] queue_is (All-nil (IsProp []));
  declared = All-cons CanIfDeclared sample_prop [] (λ h. refl) (All-nil CanIfDeclared);
  listed = tt;
  values = object_fits;
  blocks = All-cons (λ (b : BlockTerm). ItemsFit all_random b.items) sample_block [] block_fits (All-nil (λ (b : BlockTerm). ItemsFit all_random b.items));
  in_line = record { typed = tt; read = tt; targets = tt; inside = tt };
}

-- so is a call on what is equal to it
pub callable : (class : FlatTerm) (enums : List EnumType) (w : WorldTerm) (call : CallTerm) → class ≡ sample_class → enums ≡ [] → w ≡ sample_world → call ≡ sample_call
    → IsCallable class enums (object_of w call.object) w.script call
callable class enums w call h k m n =
    subst (λ (x : FlatTerm). IsCallable x enums (object_of w call.object) w.script call) (sym h)
    (subst (λ (ts : List EnumType). IsCallable sample_class ts (object_of w call.object) w.script call) (sym k)
    (subst (λ (x : WorldTerm). IsCallable sample_class [] (object_of x call.object) x.script call) (sym m)
    (subst (λ (x : CallTerm). IsCallable sample_class [] (object_of sample_world x.object) sample_world.script x) (sym n) sample_is_callable)))
