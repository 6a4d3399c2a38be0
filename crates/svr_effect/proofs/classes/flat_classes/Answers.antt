use Rattle.std.proofs.Common.{◌≡◌, ◌++◌, ◌∷◌, [], map, length, sym, ap, ◌∙◌, arith}
use Rattle.std.specs.List.{range_with_len}
use Rattle.std.proofs.lemmas.List.{map-append}
use Rattle.std.proofs.lemmas.Result.{IfOk-at_ok}
use Rattle.std.proofs.lemmas.List.FromFn.{map-range_with_len_more}
use Rattle.svr_typed.specs.ClassTerm.{flat_term, class_terms}
use Rattle.svr_effect.specs.Inherited.{wanted_class}
use Rattle.svr_effect.proofs.Flats.{known_so_far}
use Rattle.svr_effect.proofs.classes.flat_classes.Goals as goal

pub flat_class-flat-requires : goal.flat_class-flat-requires
flat_class-flat-requires c =
    let cs = class_terms c.args.design.now.classes in
    known_so_far c.args.wanted.now cs c.loop-class.class (map flat_term c.as_slice.result.now) (ap (map flat_term) c.as_slice.ensures ∙ c.loop-class.invariant)

pub loop-class-preserved : goal.loop-class-preserved
loop-class-preserved c =
    let k = c.loop-class.class in
    let cs = class_terms c.args.design.now.classes in
    let more = c.in_ok-flats.ensures in
    let last = IfOk-at_ok (λ flat. flat_term flat ≡ wanted_class c.args.wanted.now cs k) more.1 c.flat_class-flat.ensures in
    ap (map flat_term) more.2
    ∙ map-append flat_term c.loop-class.flats (more.0 ∷ [])
    ∙ (λ i. c.loop-class.invariant i ++ last i ∷ [])
    ∙ sym (map-range_with_len_more (wanted_class c.args.wanted.now cs) 0 k k (omega arith))

pub returns : goal.returns
returns c =
    let cs = class_terms c.args.design.now.classes in
    let all : c.loop-class.class ≡ length c.args.design.now.classes = omega (arith, c.loop-class-test.false, c.loop-class.auto.class-end, c.in_ok-count.ensures, c.len.ensures) in
    c.loop-class.invariant ∙ ap (λ n. map (wanted_class c.args.wanted.now cs) (range_with_len 0 n)) all
