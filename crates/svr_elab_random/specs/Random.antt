-- Which properties can be random: those that are declared so, and those that a call lists on an object of their class or of one derived from it (IEEE 1800-2017, 18.4 and 18.11.1).
use Rattle.std.specs.Prelude.{◌==◌, Bool, not, ◌&&◌, ◌||◌, List, map}
use Rattle.std.specs.List.{list_any}
use Rattle.svr_elab_names.specs.declared.Property.{Property}
use Rattle.svr_elab_names.specs.declared.PropEntry.{PropEntry}
use Rattle.svr_elab_names.specs.Names.{PropName, ClassName}
use Rattle.svr_elab_random.specs.declared.random.Home.{Home}

abbrev pub home_of : Property → Home
home_of p = record { class = p.home; number = p.number }

abbrev pub is_home : Home → Home → Bool
is_home x y = (x.class == y.class) && (x.number == y.number)

-- a property is listed by the class that declares it and its number, so each class that inherits it has it listed too
abbrev pub is_listed : List Home → Property → Bool
is_listed hs p = list_any (is_home (home_of p)) hs

abbrev pub listed : List Home → Property → Property
listed hs p = record { number = p.number; home = p.home; kind = p.kind; rand = p.rand; random = p.random || is_listed hs p; dims = p.dims }

abbrev pub with_list : List Home → PropName → PropName
with_list hs p = record { name = p.name; property = listed hs p.property; first = p.first }

-- a property that is listed, and could not be random without that
abbrev pub becomes_random : List Home → PropName → Bool
becomes_random hs p = not p.property.random && is_listed hs p.property

abbrev pub entry_becomes_random : List Home → PropEntry → Bool
entry_becomes_random hs e = not e.property.random && is_listed hs e.property

abbrev pub with_lists : List Home → ClassName → ClassName
with_lists hs c = record { name = c.name; base = c.base; props = map (with_list hs) c.props; inherited = c.inherited; blocks = c.blocks }

abbrev pub classes_with : List Home → List ClassName → List ClassName
classes_with hs cs = map (with_lists hs) cs
