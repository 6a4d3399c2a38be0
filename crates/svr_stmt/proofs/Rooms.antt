-- What a path has room for, and names seen as data.
use Rattle.std.proofs.Common.{◌≡◌, ℕ, zero, suc, ◌≤◌, List, map, Ok, arith}
use Rattle.std.proofs.lemmas.List.{map-id}
use Rattle.svr_token.specs.declared.NameKind.{NameKind}
use Rattle.svr_tree.specs.Tokens.{Tok}
use Rattle.svr_tree.specs.ExprTree.{ExprTree}
use Rattle.svr_reader.proofs.Rooms.{none_never}
use Rattle.svr_expr.specs.ExprRules.{path_starts, a_known_path}

pub needs_room : (most r : ℕ) (i : List Tok) (x : (ExprTree × NameKind) × List Tok) → a_known_path most r i ≡ Ok x → 1 ≤ r
unfolding a_known_path
needs_room most zero i x h = absurd (none_never (ExprTree × NameKind) path_starts i x h)
needs_room most (suc r) i x h = omega arith

pub same_names : (ns : List ℕ) → map (λ n. n) ns ≡ ns
same_names ns = map-id ns
