-- Refusals with their places: which comes first, and how those of several parts are gathered.
use Rattle.std.specs.Prelude.{◌≡◌, ◌⊎◌, ℕ, Bool, true, false, ◌&&◌, ◌||◌, nat_lt, nat_le, ◌==◌, if◌then◌else◌, List, [], ◌∷◌, ◌++◌, Option, Some, None, is_none}
use Rattle.svr_refusal.specs.declared.Refusal.{Refusal}
use Rattle.svr_refusal.specs.Numbers.{number_of}
use Rattle.svr_elab_fault.specs.declared.fault.Fault.{Fault}

-- by place, at one place by number
abbrev pub comes_first : Fault → Fault → Bool
comes_first x y = nat_lt x.token y.token || (x.token == y.token && nat_le (number_of x.refusal) (number_of y.refusal))

abbrev pub earlier : Option Fault → Option Fault → Option Fault
earlier None y = y
earlier (Some x) None = Some x
earlier (Some x) (Some y) = if comes_first x y then Some x else Some y

-- the first of a list
abbrev pub least : List Fault → Option Fault
least [] = None
least (x ∷ xs) = earlier (Some x) (least xs)

-- a way to gather refusals
pub record Gather (F : Type 0) : Type 0 where
  pub nothing : F
  pub one : Fault → F
  pub both : F → F → F
  pub is_empty : F → Bool

abbrev pub list_is_empty : List Fault → Bool
list_is_empty [] = true
list_is_empty (x ∷ xs) = false

-- all of them, which is what the definition of a refusal reads
abbrev pub all : Gather (List Fault)
all = record { nothing = []; one = λ x. x ∷ []; both = λ xs ys. xs ++ ys; is_empty = list_is_empty }

-- the first of them, which is what the code keeps
abbrev pub first_one : Gather (Option Fault)
first_one = record { nothing = None; one = λ x. Some x; both = earlier; is_empty = is_none }

abbrev pub when : {F : Type 0} → Gather F → Bool → ℕ → Refusal → F
when g holds token r = if holds then g.one (record { token = token; refusal = r }) else g.nothing

abbrev pub Among : Fault → List Fault → Type 0
Among f [] = ⊥
Among f (g ∷ gs) = (f ≡ g) ⊎ Among f gs

-- the first by place, at one place the one of lower number
pub record IsFirst (faults : List Fault) (f : Fault) : Type 0 where
  pub among : Among f faults
  pub first : (g : Fault) → Among g faults → comes_first f g ≡ true

-- none of no refusals, and of others one that is first
abbrev pub FirstOf : List Fault → Option Fault → Type 0
FirstOf xs None = xs ≡ []
FirstOf xs (Some f) = IsFirst xs f

-- the least of a list is its first
abbrev pub LeastIsFirst : Type 0
LeastIsFirst = (xs : List Fault) → FirstOf xs (least xs)
