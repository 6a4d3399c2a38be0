use Rattle.std.proofs.Common.{◌∙◌, ◌≡◌, ◌≤◌, ap, sym, subst, length, ℕ, List, IfOk}
use Rattle.svr_limits.specs.declared.limit.TheConstants.{TEXT_LIMIT}
use Rattle.svr_token.specs.declared.token.Token.{Token}
use Rattle.svr_refused.specs.Comes.{ComesTo}
use Rattle.svr_coverage.specs.Script.{script_of}
use Rattle.svr_command_cover.proofs.answer.read_script.Goals as goal

pub read-requires : goal.read-requires
read-requires c =
    let is : length c.deref-2.result.now ≡ length c.args.text.now = ap length c.deref-2.ensures.value ∙ c.in_ok-script.ensures.size in
    subst (λ (n : ℕ). n ≤ TEXT_LIMIT) (sym is) c.requires

pub returns : goal.returns
returns c =
    let is : c.deref-2.result.now ≡ script_of c.args.text.now c.args.front.now.tokens.items c.args.front.now.groups.used =
    c.deref-2.ensures.value ∙ c.in_ok-script.ensures.script ∙ ap (λ (ts : List Token). script_of c.args.text.now ts c.args.front.now.groups.used) c.deref.ensures.value in
    subst (λ (t : List ℕ). IfOk c.read.result (λ r. ComesTo t r)) is c.read.ensures
