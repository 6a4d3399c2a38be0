-- Names of a text: where each stands first among those of its kind
use Rattle.std.specs.Prelude.{ℕ, suc, Bool, false, ◌==◌, nat_eq, List, [], ◌∷◌, ◌++◌, Option, None, Some, is_some, if◌then◌else◌}
use Rattle.std.specs.Cmp.Lexicographic.{pointwise}
use Rattle.svr_refusal.specs.declared.refusal.Refusal.TheVariants as refusal
use Rattle.svr_cover_checked.specs.declared.fault.CoverFault.{CoverFault}
use Rattle.svr_cover_checked.specs.Numbers.{Spelling, unless}

abbrev pub is_same : List ℕ → List ℕ → Bool
is_same x y = pointwise nat_eq x y

-- a name, and where it stands first
pub record Entry : Type 0 where
  pub name : List ℕ
  pub place : ℕ

abbrev pub place_of : List Entry → List ℕ → Option ℕ
place_of [] q = None
place_of (e ∷ es) q = if is_same q e.name then Some e.place else place_of es q

-- one more name, unless it is there
abbrev pub and_entry : List Entry → List ℕ → ℕ → List Entry
and_entry es name place = if is_some (place_of es name) then es else es ++ record { name = name; place = place } ∷ []

-- the first place of each of the names at these tokens, behind those of the first n
abbrev pub entries : Spelling → List Entry → ℕ → List ℕ → List Entry
entries text es n [] = es
entries text es n (x ∷ xs) = entries text (and_entry es (text x) n) (suc n) xs

-- where a name stands first, if it stands anywhere
abbrev pub Finder : Type 0
Finder = List ℕ → Option ℕ

abbrev pub finder : Spelling → List ℕ → Finder
finder text tokens = λ q. place_of (entries text [] 0 tokens) q

abbrev pub is_at : Option ℕ → ℕ → Bool
is_at None n = false
is_at (Some k) n = k == n

-- the name at a place has stood before
abbrev pub second : Spelling → Finder → ℕ → ℕ → List CoverFault
second text find at name = unless (is_at (find (text name)) at) refusal.DoubleCover name
