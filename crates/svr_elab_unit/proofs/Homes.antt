-- One more listed property in a hash set of them.
use Rattle.std.proofs.Common.{◌≡◌, List, Option, Some, sym, ap, ◌∙◌}
use Rattle.indexmap.specs.IndexSet.{insert_key}
use Rattle.svr_elab_names.specs.declared.Property.{Property}
use Rattle.svr_elab_random.specs.declared.Home.{Home}
use Rattle.svr_elab_random.specs.Random.{home_of, is_home}
use Rattle.svr_elab_unit.specs.Listed.{and_home}

pub home_added : (hs ks : List Home) (h : Home) (p : Property) (q : Option Property) → ks ≡ insert_key is_home hs h → h ≡ home_of p → q ≡ Some p → ks ≡ and_home hs q
home_added hs ks h p q e f is = e ∙ ap (λ (h : Home). insert_key is_home hs h) f ∙ ap (λ (q : Option Property). and_home hs q) (sym is)
