-- Names of a script: its classes, and the scalar properties of a class with what it inherits (IEEE 1800-2017, clause 8)
use Rattle.std.specs.Prelude.{ℕ, suc, List, [], ◌∷◌, Option, None, Some, slice_get, if◌then◌else◌}
use Rattle.svr_typed.specs.declared.class.Prop.{Prop}
use Rattle.svr_typed.specs.declared.class.ArrayKind.{ArrayKind}
use Rattle.svr_typed.specs.declared.class.ArrayKind.TheVariants.{Scalar, Fixed, Dynamic}
use Rattle.svr_typed.specs.declared.class.TClass.{TClass}
use Rattle.svr_typed.specs.declared.class.FlatClass.{FlatClass}
use Rattle.svr_cover_checked.specs.Places.{is_same}

-- the number of the class of this name, where they are numbered from n on
abbrev pub class_from : ℕ → List TClass → List ℕ → Option ℕ
class_from n [] name = None
class_from n (c ∷ cs) name = if is_same c.name name then Some n else class_from (suc n) cs name

abbrev pub if_scalar : ArrayKind → ℕ → Option ℕ
if_scalar Scalar n = Some n
if_scalar (Fixed m) n = None
if_scalar Dynamic n = None

-- the place of the scalar property of this name
abbrev pub prop_from : ℕ → List Prop → List ℕ → Option ℕ
prop_from n [] name = None
prop_from n (x ∷ xs) name = if is_same x.name name then if_scalar x.array n else prop_from (suc n) xs name

abbrev pub props_in : Option FlatClass → List Prop
props_in None = []
props_in (Some f) = f.props

-- the properties of a class with what it inherits
abbrev pub props_of : List FlatClass → Option ℕ → List Prop
props_of flats None = []
props_of flats (Some c) = props_in (slice_get flats c)
