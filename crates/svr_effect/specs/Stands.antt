-- What has to hold before a statement is executed: objects are there, expressions can be computed, and lists are short.
use Rattle.std.specs.Prelude.{ℕ, suc, ◌≤◌, Option, None, Some, ⊤}
use Rattle.svr_limits.specs.declared.limit.TheConstants.{ELEMENT_LIMIT}
use Rattle.svr_typed.specs.ExprTerm.{ExprTerm, ExprTerms, no_exprs, more_exprs}
use Rattle.svr_typed.specs.StmtTerm.{StmtTerm, make, set_var, set_prop, resize, pattern, rand_mode, constraint_mode, call, repeat, list, DesignTerm}
use Rattle.svr_eval.specs.Reading.{Reading}
use Rattle.svr_eval.specs.Typed.{IsTyped, CanRead}
use Rattle.svr_world.specs.World.{WorldTerm, IsMade}
use Rattle.svr_world.specs.Fits.{AreSmall}
use Rattle.svr_script.specs.Numbered.{numbered, reading_of_world}
use Rattle.svr_script.specs.Statement.{flat_of_var, width_of_var, width_of_prop}

-- an expression over all objects as they are read: its stored sizes and signs are right, as it stands and over all objects together
pub record IsComputable (r : Reading) (e : ExprTerm) : Type 0 where
  pub own : IsTyped e
  pub typed : IsTyped (numbered e)
  pub reads : CanRead r 0 (numbered e)

abbrev pub AreComputable : Reading → ExprTerms → Type 0
AreComputable r no_exprs = ⊤
AreComputable r (more_exprs e es) = IsComputable r e × AreComputable r es

-- over the objects of a world
abbrev pub CanBeComputed : WorldTerm → ExprTerm → Type 0
CanBeComputed w e = IsComputable (reading_of_world w) e

abbrev pub IndexCanBe : WorldTerm → Option ExprTerm → Type 0
IndexCanBe w None = ⊤
IndexCanBe w (Some i) = CanBeComputed w i

abbrev pub AllCanBe : WorldTerm → ExprTerms → Type 0
AllCanBe w es = AreComputable (reading_of_world w) es

abbrev pub many : ExprTerms → ℕ
many no_exprs = 0
many (more_exprs e es) = suc (many es)

-- a left side of so many bits
abbrev pub IsWide : ℕ → Type 0
IsWide width = (1 ≤ width) × (width ≤ 64)

abbrev pub Stands : DesignTerm → WorldTerm → StmtTerm → Type 0
Stands d w (make o) = AreSmall (flat_of_var d o).props
Stands d w (set_var v e) = IsWide (width_of_var d v) × CanBeComputed w e
Stands d w (set_prop o p i e) = IsMade w o × IsWide (width_of_prop d o p) × IndexCanBe w i × CanBeComputed w e
Stands d w (resize o p n) = IsMade w o × (n ≤ ELEMENT_LIMIT)
Stands d w (pattern o p es) = IsMade w o × IsWide (width_of_prop d o p) × (many es ≤ ELEMENT_LIMIT) × AllCanBe w es
Stands d w (rand_mode o p on) = IsMade w o × CanBeComputed w on
Stands d w (constraint_mode o b on) = IsMade w o × CanBeComputed w on
Stands d w (call c) = ⊤
Stands d w (repeat n s) = ⊤
Stands d w (list ss) = ⊤
