-- Marking the listed properties of all classes.
use Rattle.std.proofs.Common.{◌≡◌, List, map, reverse, ap, ◌∙◌}
use Rattle.std.proofs.lemmas.List.{reverse-reverse}
use Rattle.indexmap.proofs.ReorderLemmas.{map-reverse}
use Rattle.svr_elab_names.specs.declared.ClassNames.{ClassNames}
use Rattle.svr_elab_names.specs.Names.{ClassName}
use Rattle.svr_elab_names.specs.Tables.{class_of}
use Rattle.svr_elab_random.specs.declared.random.Home.{Home}
use Rattle.svr_elab_random.specs.Random.{with_lists, classes_with}

pub turned_back : (hs : List Home) (cs ms rs : List ClassNames) → map class_of ms ≡ reverse (map (with_lists hs) (map class_of cs)) → rs ≡ reverse ms → map class_of rs ≡ classes_with hs (map class_of cs)
turned_back hs cs ms rs h e =
    ap (λ (cs : List ClassNames). map class_of cs) e ∙ map-reverse class_of ms ∙ ap (λ (cs : List ClassName). reverse cs) h ∙ reverse-reverse (map (with_lists hs) (map class_of cs))
