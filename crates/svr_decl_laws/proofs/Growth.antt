-- More room and more turns keep what was read of declarations.
use Rattle.std.proofs.Common.{ℕ, ◌≤◌, Bool}
use Rattle.svr_tree.specs.DeclTree.{named}
use Rattle.svr_reader.proofs.Growth.{Grows, Rooms, grows_run}
use Rattle.svr_reader.proofs.Layers.{IsGrowing}
use Rattle.svr_expr_laws.proofs.Growth.{grows_expr}
use Rattle.svr_item_laws.proofs.Growth.{grows_block_items}
use Rattle.svr_decl.proofs.Local.{local_part}
use Rattle.svr_decl.specs.DeclRules.{Part, an_expression, the_block_items, typedef_in, class_in, vars_on, var_in, part, typedef, class, var, var_on}

-- ---- growth

grows_part : (wider : Bool) (n n2 r r2 : ℕ) → n ≤ n2 → Rooms wider r r2 → (k : Part) → Grows wider (part n r k) (part n2 r2 k)
grows_part wider n n2 r r2 more rooms an_expression = grows_expr 1 wider n n2 r r2 more rooms
grows_part wider n n2 r r2 more rooms the_block_items = grows_block_items wider n n2 r r2 more rooms

pub grows_typedef : IsGrowing typedef
unfolding typedef
grows_typedef wider n n2 r r2 more rooms = grows_run wider n n2 r r2 (part n r) (part n2 r2) more rooms (local_part n2 r2) (grows_part wider n n2 r r2 more rooms) typedef_in

pub grows_class : IsGrowing class
unfolding class
grows_class wider n n2 r r2 more rooms = grows_run wider n n2 r r2 (part n r) (part n2 r2) more rooms (local_part n2 r2) (grows_part wider n n2 r r2 more rooms) class_in

pub grows_var : IsGrowing var
unfolding var
grows_var wider n n2 r r2 more rooms = grows_run wider n n2 r r2 (part n r) (part n2 r2) more rooms (local_part n2 r2) (grows_part wider n n2 r r2 more rooms) var_in

pub grows_var_on : (name : ℕ) → IsGrowing (λ most r. var_on most r name)
unfolding var_on
grows_var_on name wider n n2 r r2 more rooms = grows_run wider n n2 r r2 (part n r) (part n2 r2) more rooms (local_part n2 r2) (grows_part wider n n2 r r2 more rooms) (vars_on (named name, 0))
