use Rattle.std.proofs.Common.{◌∙◌, [], ◌++◌, ap, sym, ℕ, Bool, List, cond, map, length, take, drop, ◌-◌, get_or}
use Rattle.std.specs.Prelude.{codes}
use Rattle.svr_script.specs.Printed.{with_commas, value_text}
use Rattle.svr_stream.proofs.Rows.{left_all, left_more, left_none, first_copy, empty_is}
use Rattle.svr_printed.proofs.Rows.{one_element}
use Rattle.svr_printed.proofs.values.put_elements.Goals as goal

pub loop-left-init : goal.loop-left-init
loop-left-init g c = left_all

pub loop-left-preserved : goal.loop-left-preserved
loop-left-preserved g c =
    let numbers = c.loop-left.left.now in
    let text = value_text c.args.enums.now c.args.kind in
    let rest = take (length numbers - 1) (drop 1 numbers) in
    let first = get_or numbers 0 0 in
    left_more c.loop-left.invariant c.put_element.ensures
    (ap (λ (ns : List ℕ). with_commas (map text ns)) (first_copy numbers 0 c.in-len1-up.len_at_least) ∙ one_element text first rest
    ∙ ap (λ (b : Bool). (text first ++ cond b [] (codes ",")) ++ with_commas (map text rest)) (sym c.is_end.ensures))

pub returns : goal.returns
returns g c =
    left_none c.loop-left.invariant
    (ap (λ (ns : List ℕ). with_commas (map (value_text c.args.enums.now c.args.kind) ns)) (empty_is c.loop-left.left.now c.in_default.len_below))
