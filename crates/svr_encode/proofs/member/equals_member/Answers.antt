use Rattle.std.proofs.Common.{ℕ, subst, sym, ◌∙◌, arith}
use Rattle.svr_typed.specs.ExprTerm.{expr_term}
use Rattle.svr_vector.specs.Places.{rows}
use Rattle.svr_inputs.specs.Inputs.{NumbersAreReady, read_at}
use Rattle.svr_inputs.specs.Served.{MemberIsServed}
use Rattle.svr_encode.proofs.TreeLemmas.{own_width}
use Rattle.svr_encode.proofs.MemberLemmas.{property_ready, size_some, left_given, pair_given, common_size, element_gives, value_gives}
use Rattle.svr_encode.proofs.member.equals_member.Goals as goal

pub returns-in-Some-clause-value : goal.returns-in-Some-clause-value
returns-in-Some-clause-value c =
    let g = c.args.given.now in
    element_gives c.args.b.now c.is_some_element.new.b (λ v. read_at g.inputs.now v) g.env.now (expr_term c.args.left.now) c.args.member.now c.in-Some.prop c.args.at c.are_signed-both.result (rows g.values.now) c.value_at-x.result.now c.is_some_element.result
    c.requires.typed (sym c.property.ensures ∙ c.in-Some.is) c.are_signed-both.ensures c.requires.parts c.value_at-x.ensures c.is_some_element.ensures.extends c.is_some_element.ensures.value

pub returns-in_ok-equal-in-None-clause-value : goal.returns-in_ok-equal-in-None-clause-value
returns-in_ok-equal-in-None-clause-value c =
    let g = c.args.given.now in
    value_gives c.args.b.now c.equal.new.b (λ v. read_at g.inputs.now v) g.env.now (expr_term c.args.left.now) (expr_term c.args.member.now) c.args.at (rows g.values.now) c.value_at-x-in-None.result.now c.value_at.result.now _
    (sym c.property.ensures ∙ c.in-None.is) c.requires.parts c.value_at-x-in-None.ensures c.value_at.ensures c.equal.ensures.extends c.in_ok-equal-in-None.ensures.value

pub is_some_element-requires : goal.is_some_element-requires
is_some_element-requires c =
    let g = c.args.given.now in
    let x = left_given c.args.b.now (λ v. read_at g.inputs.now v) g.env.now (expr_term c.args.left.now) (expr_term c.args.member.now) c.in-Some.prop c.args.at (rows g.values.now) c.value_at-x.result.now (sym c.property.ensures ∙ c.in-Some.is) c.requires.parts c.value_at-x.ensures in
    let size = common_size (expr_term c.args.left.now) c.args.member.now c.requires.left_typed c.requires.typed in
    record {
      inputs = c.requires.inputs;
      room = c.requires.room;
      some = omega (arith, own_width c.args.member.now c.requires.typed, size_some (expr_term c.args.member.now) c.requires.typed);
      wide = omega (arith, x.len, size.0);
      high = omega (arith, x.len, size.1);
      within = x.within;
      ready = subst (λ (w : ℕ). NumbersAreReady c.args.given.now.inputs.now w c.in-Some.prop) (own_width c.args.member.now c.requires.typed)
          (property_ready c.args.given.now.inputs.now _ c.in-Some.prop (expr_term c.args.member.now) c.requires.ready (sym c.in-Some.ensures));
      fixed = subst (MemberIsServed c.args.given.now.inputs.now) (sym c.in-Some.ensures) c.requires.fixed;
    }

pub equal-requires : goal.equal-requires
equal-requires c =
    let g = c.args.given.now in
    let pair = pair_given c.args.b.now (λ v. read_at g.inputs.now v) g.env.now (expr_term c.args.left.now) (expr_term c.args.member.now) c.args.at (rows g.values.now)
    c.value_at-x-in-None.result.now c.value_at.result.now (sym c.property.ensures ∙ c.in-None.is) c.requires.parts c.value_at-x-in-None.ensures c.value_at.ensures in
    record {
      len = pair.1;
      x_within = pair.0.0;
      y_within = pair.0.1;
    }
