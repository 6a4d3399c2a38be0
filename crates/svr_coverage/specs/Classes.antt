-- The classes that cover groups name, with what they inherit (IEEE 1800-2017, 8.13)
use Rattle.std.specs.Prelude.{ℕ, List, [], ◌∷◌, map, take, Option, None, Some, slice_set}
use Rattle.svr_typed.specs.declared.class.TClass.{TClass}
use Rattle.svr_typed.specs.ClassTerm.{FlatTerm, ClassTerm, class_terms}
use Rattle.svr_flat.specs.Flat.{no_class, flat_class_of}
use Rattle.svr_cover_text.specs.declared.text.GroupText.{GroupText}
use Rattle.svr_cover_checked.specs.declared.limits.TheConstants.{MOST_GROUPS}
use Rattle.svr_cover_checked.specs.Numbers.{Spelling}
use Rattle.svr_cover_checked.specs.Design.{class_from}

-- what stands for a class that no group names
abbrev pub nothing : TClass → FlatTerm
nothing c = no_class

-- with the class of this number
abbrev pub with_class : List ClassTerm → List FlatTerm → Option ℕ → List FlatTerm
with_class cs flats None = flats
with_class cs flats (Some k) = slice_set flats k (flat_class_of cs k)

-- with those that groups name
abbrev pub with_classes : Spelling → List TClass → List FlatTerm → List GroupText → List FlatTerm
with_classes text classes flats [] = flats
with_classes text classes flats (g ∷ gs) = with_classes text classes (with_class (class_terms classes) flats (class_from 0 classes (text g.class))) gs

-- Each class that a group names with what it inherits, and nothing for any other. Of more groups than there may be the last are left out: the first of them is refused before its class is looked for.
abbrev pub named_classes : Spelling → List TClass → List GroupText → List FlatTerm
named_classes text classes groups = with_classes text classes (map nothing classes) (take MOST_GROUPS groups)
