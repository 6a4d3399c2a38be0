use Rattle.std.proofs.Common.{◌∙◌, ap, subst}
use Rattle.svr_tree.specs.ScriptTree.{script_tree}
use Rattle.svr_token.specs.Names.{name_at}
use Rattle.svr_elab.specs.Promise.{Explains, IsRefused}
use Rattle.svr_refusal.specs.Place.{place_of}
use Rattle.svr_status.specs.Lines.{refused_as}
use Rattle.svr_refused.specs.Texts.{by_meaning}
use Rattle.svr_refused.proofs.text.elaborated.Goals as goal

pub returns-in-Ok : goal.returns-in-Ok
returns-in-Ok c = record {
  tokens = c.args.tokens.now;
  tree = script_tree c.args.script.now;
  tokenized = c.requires.tokens;
  reading = c.requires.tree;
  elaborated = c.in-Ok.ensures.accepted;
}

pub returns-in_ok-refused_as-in-Err-Refused : goal.returns-in_ok-refused_as-in-Err-Refused
returns-in_ok-refused_as-in-Err-Refused c =
    let first : IsRefused (name_at c.args.text.now c.args.tokens.now) (script_tree c.args.script.now) c.in-Err-Refused.number c.in-Err-Refused.token =
    subst (λ e. Explains (name_at c.args.text.now c.args.tokens.now) (script_tree c.args.script.now) e) c.in-Err-Refused.field-0-is c.in-Err-Refused.ensures.refused in
    by_meaning c.args.tokens.now (script_tree c.args.script.now) c.in-Err-Refused.number c.in-Err-Refused.token c.requires.tokens c.requires.tree first
    (c.in_ok-refused_as-in-Err-Refused.ensures ∙ ap (λ p. refused_as p c.in-Err-Refused.number) (c.place_of-place.ensures ∙ ap (λ at. place_of c.args.text.now at) c.token_start.ensures))
