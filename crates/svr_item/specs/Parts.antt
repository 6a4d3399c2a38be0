-- What the readers of items see as data, and a function value that reads items.
use Rattle.std.specs.Prelude.{◌≡◌, ◌≢◌, ℕ, ◌≤◌, IfOk, List, [], ◌∷◌, ◌++◌, Option, option_map, Result, Ok, Err}
use Rattle.std.specs.declared.alloc.Global.{Global}
use denote.Ref.{MutBor}
use Rattle.svr_operator.specs.declared.Share.{Share}
use Rattle.svr_tree.specs.declared.expr.Expr.{Expr}
use Rattle.svr_tree.specs.declared.item.Dist.{Dist}
use Rattle.svr_tree.specs.declared.item.Item.{Item}
use Rattle.svr_tree.specs.declared.item.Set.{Set}
use Rattle.svr_tree.specs.Tokens.{Tok}
use Rattle.svr_tree.specs.ExprTree.{ExprTree}
use Rattle.svr_tree.specs.ItemTree.{DistTree, ElseTree, dist_tree, else_of, item_tree, set_tree, weight_tree}
use Rattle.svr_reader.specs.declared.fault.ReadFault.{ReadFault}
use Rattle.svr_reader.specs.declared.fault.ReadFault.TheVariants.{NoMemory}
use Rattle.svr_reader.specs.Outcomes.{Outcome}
use Rattle.svr_reader.specs.Answers.{Gives, stop_of}
use Rattle.svr_reader.specs.Calls.{cap, height_view}
use Rattle.svr_expr.specs.ExprRules.{Node, a_path, a_member}
use Rattle.svr_item.specs.ItemRules.{item}
use Rattle.svr_item.specs.declared.led.Listed.{Listed}
use Rattle.svr_item.specs.declared.led.Listed.TheVariants as listed

abbrev pub weight_view : Option (Share × Expr) → Option (Share × ExprTree)
weight_view g = option_map weight_tree g

abbrev pub dist_view : Option Dist → Option DistTree
dist_view d = option_map dist_tree d

abbrev pub else_view : Option Set → ElseTree
else_view s = else_of (option_map set_tree s)

-- what a part of a list is read as
abbrev pub node_listed : Listed → Node
node_listed listed.Path = a_path
node_listed listed.Member = a_member

-- what was found before stays, and what is found behind it is the outcome's, want of memory aside
abbrev pub Behind : {A T X : Type 0} → A → (T → X) → Outcome X → Result (A × T) ReadFault → List Tok → Type 0
Behind found view outcome (Ok x) new = (x.0 ≡ found) × (outcome ≡ Ok (view x.1, new))
Behind found view outcome (Err e) new = e ≢ NoMemory → outcome ≡ Err (stop_of e)

-- the same where nothing is found that is kept
abbrev pub Stays : {A : Type 0} → A → Outcome (Unit {0}) → Result A ReadFault → List Tok → Type 0
Stays found outcome (Ok x) new = (x ≡ found) × (outcome ≡ Ok (tt, new))
Stays found outcome (Err e) new = outcome ≡ Err (stop_of e)

-- one more stands at the end of the list, want of memory aside
abbrev pub Grows : {A : Type 0} → List A → A → Result (List A) ReadFault → Type 0
Grows xs x (Ok ys) = ys ≡ xs ++ x ∷ []
Grows xs x (Err e) = e ≡ NoMemory

-- the function reads items of a height up to the room
pub record ReadsItems (room : ℕ) (pre : Global → MutBor (List Tok) → ℕ → Type 0) (post : Global → MutBor (List Tok) → ℕ → Result (Item × ℕ) ReadFault → MutBor (List Tok) → Type 0) : Type 0 where
  pub callable : (alloc : Global) (old : MutBor (List Tok)) → pre alloc old room
  pub gives : (alloc : Global) (old new : MutBor (List Tok)) (r : Result (Item × ℕ) ReadFault) → post alloc old room r new → Gives (height_view item_tree) (item cap room old.now) r new.now
  pub low : (alloc : Global) (old new : MutBor (List Tok)) (r : Result (Item × ℕ) ReadFault) → post alloc old room r new → IfOk r (λ x. x.1 ≤ room)
