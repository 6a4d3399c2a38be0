-- What the code gathered of names, as lists.
use Rattle.svr_effect.specs.declared.mention.Names.{Names}
use Rattle.svr_effect.specs.Mentions.{Mentioned}

abbrev pub mentioned : Names → Mentioned
mentioned n = record { props = n.props.keys; vars = n.vars.keys }
