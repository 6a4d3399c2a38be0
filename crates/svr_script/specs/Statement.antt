-- What each statement does (IEEE 1800-2017, clauses 8, 10 and 18).
use Rattle.std.specs.Prelude.{◌==◌, ℕ, zero, suc, ◌%◌, ℤ, pos, negsuc, Bool, List, [], ◌∷◌, ◌++◌, Option, Some, None, map, length, replicate, slice_index, slice_index_or}
use Rattle.svr_num.specs.Num.{read_of}
use Rattle.svr_typed.specs.declared.class.Prop.{Prop}
use Rattle.svr_typed.specs.declared.stmt.TVar.{TVar}
use Rattle.svr_typed.specs.declared.stmt.VarKind.{VarKind}
use Rattle.svr_typed.specs.declared.stmt.VarKind.TheVariants as kind
use Rattle.svr_typed.specs.ExprTerm.{ExprTerm, ExprTerms, no_exprs, more_exprs}
use Rattle.svr_typed.specs.ClassTerm.{FlatTerm}
use Rattle.svr_typed.specs.StmtTerm.{CallTerm, StmtTerm, make, set_var, set_prop, resize, pattern, rand_mode, constraint_mode, call, repeat, list, StmtTerms, no_stmts, more_stmts, DesignTerm}
use Rattle.svr_eval.specs.declared.assign.Assign.{Assign}
use Rattle.svr_eval.specs.Value.{size_of, sign_of}
use Rattle.svr_flat.specs.Flat.{flat_class_of}
use Rattle.svr_world.specs.World.{WorldTerm, object_of, declared_classes, with_new_object, with_numbers, with_number, with_rand_mode, with_block_mode, with_script}
use Rattle.svr_frame.specs.Frame.{FrameTerm}
use Rattle.svr_frame.specs.Making.{frame_of}
use Rattle.svr_script.specs.Numbered.{alone_in, assigned}

-- ---- what is declared

-- the class of an object variable
abbrev pub class_of_var : DesignTerm → ℕ → ℕ
class_of_var d o = slice_index (declared_classes d.vars) o

abbrev pub flat_of_var : DesignTerm → ℕ → FlatTerm
flat_of_var d o = flat_class_of d.classes (class_of_var d o)

abbrev pub name_of_var : DesignTerm → ℕ → List ℕ
name_of_var d o = slice_index_or (map (λ (v : TVar). v.name) d.vars) o []

-- the width of a script variable, 0 where it holds objects
abbrev pub kind_width : VarKind → ℕ
kind_width (kind.Number k) = k.width
kind_width (kind.Object c) = 0

abbrev pub width_of_var : DesignTerm → ℕ → ℕ
width_of_var d v = slice_index (map (λ (x : TVar). kind_width x.kind) d.vars) v

abbrev pub width_of_prop : DesignTerm → ℕ → ℕ → ℕ
width_of_prop d o p = slice_index (map (λ (x : Prop). x.kind.width) (flat_of_var d o).props) p

-- ---- the statements in the order in which they are executed

abbrev pub times : ℕ → List StmtTerm → List StmtTerm
times zero ss = []
times (suc n) ss = ss ++ times n ss

-- `repeat (n) s` is n times s, and a list is its statements
abbrev mutual
  pub in_order : StmtTerm → List StmtTerm
  in_order (repeat n s) = times n (in_order s)
  in_order (list ss) = all_in_order ss
  in_order (make o) = make o ∷ []
  in_order (set_var v e) = set_var v e ∷ []
  in_order (set_prop o p i e) = set_prop o p i e ∷ []
  in_order (resize o p n) = resize o p n ∷ []
  in_order (pattern o p es) = pattern o p es ∷ []
  in_order (rand_mode o p on) = rand_mode o p on ∷ []
  in_order (constraint_mode o b on) = constraint_mode o b on ∷ []
  in_order (call c) = call c ∷ []

  pub all_in_order : StmtTerms → List StmtTerm
  all_in_order no_stmts = []
  all_in_order (more_stmts s ss) = in_order s ++ all_in_order ss

-- ---- what a statement other than a call does

-- a negative place is outside
abbrev pub written_at : WorldTerm → ℕ → ℕ → ℤ → ℕ → WorldTerm
written_at w o p (pos i) v = with_number w o p i v
written_at w o p (negsuc i) v = w

abbrev pub written : WorldTerm → ℕ → ℕ → Option ExprTerm → ℕ → WorldTerm
written w o p None v = with_number w o p 0 v
written w o p (Some i) v = written_at w o p (read_of (sign_of i) (size_of i) (alone_in w i)) v

abbrev pub all_assigned : WorldTerm → ℕ → ExprTerms → List ℕ
all_assigned w width no_exprs = []
all_assigned w width (more_exprs e es) = assigned w width e ∷ all_assigned w width es

-- the least bit says whether a mode is on
abbrev pub is_on : WorldTerm → ExprTerm → Bool
is_on w e = alone_in w e % 2 == 1

abbrev pub effect : DesignTerm → StmtTerm → WorldTerm → WorldTerm
effect d (make o) w = with_new_object w o (flat_of_var d o)
effect d (set_var v e) w = with_script w v (assigned w (width_of_var d v) e)
effect d (set_prop o p i e) w = written w o p i (assigned w (width_of_prop d o p) e)
effect d (resize o p n) w = with_numbers w o p (replicate n 0)
effect d (pattern o p es) w = with_numbers w o p (all_assigned w (width_of_prop d o p) es)
effect d (rand_mode o p on) w = with_rand_mode w o p (is_on w on)
effect d (constraint_mode o b on) w = with_block_mode w o b (is_on w on)
effect d (call c) w = w
effect d (repeat n s) w = w
effect d (list ss) w = w

-- what an object has, and the script variables
abbrev pub state_of : WorldTerm → ℕ → Assign
state_of w o = record { values = (object_of w o).values; sizes = map length (object_of w o).values; script = w.script }

-- the frame of a call
abbrev pub frame_in : DesignTerm → WorldTerm → CallTerm → FrameTerm
frame_in d w c = frame_of (flat_of_var d c.object) d.enums (state_of w c.object) (object_of w c.object).rand_modes (object_of w c.object).block_modes c
