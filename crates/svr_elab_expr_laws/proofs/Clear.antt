-- What is known of the parts of an expression in which nothing is refused.
use Rattle.std.proofs.Common.{◌≡◌, Bool, true, false, not, Option, None, refl}
use Rattle.svr_refusal.specs.declared.Refusal.TheVariants as refusal
use Rattle.svr_elab_fault.specs.declared.Fault.{Fault}
use Rattle.svr_elab_fault.specs.Refusals.{first_one, when, earlier}
use Rattle.svr_elab_part.specs.Elab as spec
use Rattle.svr_elab_part.specs.Elab.{Elab, is_in_object, is_no_array}
use Rattle.svr_elab_part.specs.Forms.{is_object}
use Rattle.svr_elab_part.proofs.Valued.{none_left, none_right, not_when}

true_false : true ≡ false → ⊥
true_false h = cc

not_not : (b : Bool) → not b ≡ false → b ≡ true
not_not true h = refl
not_not false h = absurd (true_false h)

pub record SliceClear (x f l : Elab (Option Fault)) (above below : Bool) : Type 0 where
  pub base : x.faults ≡ None
  pub first : f.faults ≡ None
  pub last : l.faults ≡ None
  pub first_constant : f.reads.constant ≡ true
  pub last_constant : l.reads.constant ≡ true
  pub high : above ≡ false
  pub low : below ≡ false

pub slice_clear : (x f l : Elab (Option Fault)) (above below : Bool) → spec.slice_faults first_one x f l above below ≡ None → SliceClear x f l above below
slice_clear x f l above below e =
    let a : Option Fault = when first_one (not f.reads.constant) f.at refusal.NotConstant in
    let b : Option Fault = when first_one (not l.reads.constant) l.at refusal.NotConstant in
    let c : Option Fault = when first_one above f.at refusal.BadRange in
    let d : Option Fault = when first_one below l.at refusal.BadRange in
    let e1 : earlier f.faults (earlier l.faults (earlier a (earlier b (earlier c d)))) ≡ None = none_right x.faults (earlier f.faults (earlier l.faults (earlier a (earlier b (earlier c d))))) e in
    let e2 : earlier l.faults (earlier a (earlier b (earlier c d))) ≡ None = none_right f.faults (earlier l.faults (earlier a (earlier b (earlier c d)))) e1 in
    let e3 : earlier a (earlier b (earlier c d)) ≡ None = none_right l.faults (earlier a (earlier b (earlier c d))) e2 in
    let e4 : earlier b (earlier c d) ≡ None = none_right a (earlier b (earlier c d)) e3 in
    let e5 : earlier c d ≡ None = none_right b (earlier c d) e4 in
    record {
      base = none_left x.faults (earlier f.faults (earlier l.faults (earlier a (earlier b (earlier c d))))) e;
      first = none_left f.faults (earlier l.faults (earlier a (earlier b (earlier c d)))) e1;
      last = none_left l.faults (earlier a (earlier b (earlier c d))) e2;
      first_constant = not_not f.reads.constant (not_when (not f.reads.constant) f.at refusal.NotConstant (none_left a (earlier b (earlier c d)) e3));
      last_constant = not_not l.reads.constant (not_when (not l.reads.constant) l.at refusal.NotConstant (none_left b (earlier c d) e4));
      high = not_when above f.at refusal.BadRange (none_left c d e5);
      low = not_when below l.at refusal.BadRange (none_right c d e5);
    }

pub record ReduceClear (x body : Elab (Option Fault)) : Type 0 where
  pub fine : x.faults ≡ None
  pub is_array : is_no_array x ≡ false
  pub outside : is_in_object x.form.root ≡ false
  pub inner : body.faults ≡ None

pub reduce_clear : (x body : Elab (Option Fault)) → spec.reduce_faults first_one x body ≡ None → ReduceClear x body
reduce_clear x body e =
    let a : Option Fault = when first_one (is_no_array x) x.form.name refusal.UnknownName in
    let b : Option Fault = when first_one (is_in_object x.form.root) x.form.name refusal.LeftOut in
    let e1 : earlier a (earlier b body.faults) ≡ None = none_right x.faults (earlier a (earlier b body.faults)) e in
    let e2 : earlier b body.faults ≡ None = none_right a (earlier b body.faults) e1 in
    record {
      fine = none_left x.faults (earlier a (earlier b body.faults)) e;
      is_array = not_when (is_no_array x) x.form.name refusal.UnknownName (none_left a (earlier b body.faults) e1);
      outside = not_when (is_in_object x.form.root) x.form.name refusal.LeftOut (none_left b body.faults e2);
      inner = none_right b body.faults e2;
    }

pub record BitClear (x i : Elab (Option Fault)) : Type 0 where
  pub base : x.faults ≡ None
  pub index : i.faults ≡ None
  pub no_object : is_object x.form.root ≡ false

pub bit_clear : (x i : Elab (Option Fault)) → spec.bit_faults first_one x i ≡ None → BitClear x i
bit_clear x i e =
    let a : Option Fault = when first_one i.reads.random i.at refusal.RandomIndex in
    let b : Option Fault = when first_one (is_object x.form.root) x.form.name refusal.UnknownName in
    let e1 : earlier i.faults (earlier a b) ≡ None = none_right x.faults (earlier i.faults (earlier a b)) e in
    let e2 : earlier a b ≡ None = none_right i.faults (earlier a b) e1 in
    record {
      base = none_left x.faults (earlier i.faults (earlier a b)) e;
      index = none_left i.faults (earlier a b) e1;
      no_object = not_when (is_object x.form.root) x.form.name refusal.UnknownName (none_right a b e2);
    }
