use Rattle.std.proofs.Common.{◌≡◌, true, false, arith, ⊎_elim}
use Rattle.std.proofs.lemmas.Bool.{true≢false, false≢true}
use Rattle.svr_operator.specs.declared.Rand.TheVariants as rand
use Rattle.svr_flat.specs.Flat.{flat_class_of}
use Rattle.svr_design.proofs.forms.wrong_items_are_not_lawful.Goals as goal

pub returns : goal.returns
unfolding flat_class_of
returns c = record {
  dealt = λ l. false≢true l.classes.0.blocks.0.1.0.1.1;
  weight = λ l. true≢false l.classes.0.blocks.0.1.0.1.0.1.1;
  member = λ l. let h : 32 ≡ 8 = l.classes.0.blocks.0.1.1.0.4.2 in omega arith;
  guard = λ l. true≢false l.classes.0.blocks.0.1.1.1.1.0.1.0.1;
  index = λ l. true≢false l.classes.0.blocks.0.1.1.1.1.0.1.0.0.1;
  names = λ l. ⊎_elim (λ (h : 2 ≡ 1). omega arith) (λ (h : (2 ≡ 2) × (false ≡ true)). false≢true h.1) l.classes.0.blocks.0.1.1.1.1.1.0.1;
  whole = λ l. true≢false l.classes.0.blocks.0.1.1.1.1.1.0.3.0.0.0.0;
  later = λ l. let h : rand.State ≡ rand.Rand = l.classes.0.blocks.0.1.1.1.1.1.1.1.0.1.1 in cc;
}
