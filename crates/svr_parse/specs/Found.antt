-- What one turn of the code's loops finds, and what it comes to.
use Rattle.std.specs.Prelude.{List, [], ◌∷◌, map}
use Rattle.svr_tree.specs.DeclTree.{VarTree, type_decl_tree, class_tree, var_tree}
use Rattle.svr_tree.specs.StmtTree.{stmt_tree}
use Rattle.svr_reader.specs.Outcomes.{Turn, go, done}
use Rattle.svr_reader.specs.Lists.{WithHeight, with_last}
use Rattle.svr_parse.specs.ScriptRules as rules
use Rattle.svr_parse.specs.ScriptRules.{with_type, with_class, Inner}
use Rattle.svr_parse.specs.declared.tops.Tops.{Tops}
use Rattle.svr_parse.specs.declared.tops.FoundTop.{FoundTop}
use Rattle.svr_parse.specs.declared.tops.FoundTop.TheVariants as top
use Rattle.svr_parse.specs.declared.block.Declared.{Declared}
use Rattle.svr_parse.specs.declared.block.Found.{Found}
use Rattle.svr_parse.specs.declared.block.Found.TheVariants as found

abbrev pub tops_tree : Tops → rules.Tops
tops_tree t = record { types = map type_decl_tree t.types; classes = map class_tree t.classes; order = t.order }

abbrev pub top_turn : WithHeight rules.Tops → FoundTop → Turn (WithHeight rules.Tops) (WithHeight rules.Tops)
top_turn s (top.Type t h) = go (with_type s (type_decl_tree t, h))
top_turn s (top.Class c h) = go (with_class s (class_tree c, h))
top_turn s top.Unit = done s

abbrev pub inner_of : Declared → Inner
inner_of d = ((map var_tree d.vars, d.vars_height), (map stmt_tree d.stmts, d.stmts_height))

abbrev pub inner_turn : WithHeight (List VarTree) → Found → Turn (WithHeight (List VarTree)) Inner
inner_turn s (found.Var v h) = go (with_last s (var_tree v, h))
inner_turn s (found.Stmt x h) = done (s, (stmt_tree x ∷ [], h))
inner_turn s found.Nothing = done (s, ([], 0))
