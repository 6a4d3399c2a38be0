-- Which properties the calls of a script list (IEEE 1800-2017, 18.11.1).
use Rattle.std.specs.Prelude.{ℕ, if◌then◌else◌, List, [], ◌∷◌, ◌++◌, Option, Some, None}
use Rattle.svr_tree.specs.declared.RandomizeArgs.{RandomizeArgs}
use Rattle.svr_tree.specs.declared.RandomizeArgs.TheVariants as args
use Rattle.svr_tree.specs.StmtTree as tree
use Rattle.svr_tree.specs.StmtTree.{RandomizeTree, RightTree, StmtTree, StmtTrees}
use Rattle.svr_elab_names.specs.declared.Property.{Property}
use Rattle.svr_elab_names.specs.Names.{Space, PropName, class_props, property_named}
use Rattle.svr_elab_stmt.specs.Stmts.{ObjectPath, object_path}
use Rattle.svr_elab_random.specs.declared.Home.{Home}
use Rattle.svr_elab_random.specs.Random.{home_of, is_listed}

-- each property once
abbrev pub and_home : List Home → Option Property → List Home
and_home hs None = hs
and_home hs (Some p) = if is_listed hs p then hs else hs ++ home_of p ∷ []

abbrev pub and_names : (ℕ → List ℕ) → List PropName → List Home → List ℕ → List Home
and_names text ps hs [] = hs
and_names text ps hs (name ∷ names) = and_names text ps (and_home hs (property_named ps (text name))) names

-- the class of an object variable that stands alone
abbrev pub lone_class : List ℕ → Option (ℕ × ℕ) → Option ℕ
lone_class [] None = None
lone_class [] (Some x) = Some x.1
lone_class (name ∷ rest) x = None

abbrev pub path_class : ObjectPath → Option ℕ
path_class p = lone_class p.rest p.object

abbrev pub listed_in : Space → List Home → Option ℕ → RandomizeArgs → List Home
listed_in n hs None a = hs
listed_in n hs (Some c) args.Empty = hs
listed_in n hs (Some c) args.Null = hs
listed_in n hs (Some c) (args.Names names) = and_names n.text (class_props n.classes c) hs names

abbrev pub listed_call : Space → List Home → RandomizeTree → List Home
listed_call n hs c = listed_in n hs (path_class (object_path n c.path)) c.args

abbrev pub listed_right : Space → List Home → RightTree → List Home
listed_right n hs (tree.value e) = hs
listed_right n hs (tree.new parens) = hs
listed_right n hs (tree.new_array e) = hs
listed_right n hs (tree.pattern at vs) = hs
listed_right n hs (tree.answer c) = listed_call n hs c

-- the properties that calls of a statement list, behind these
abbrev mutual
  pub listed : Space → List Home → StmtTree → List Home
  listed n hs (tree.empty at) = hs
  listed n hs (tree.block at ss) = all_listed n hs ss
  listed n hs (tree.repeat at e s) = listed n hs s
  listed n hs (tree.assign at x r) = listed_right n hs r
  listed n hs (tree.call at form c) = listed_call n hs c
  listed n hs (tree.mode at m) = hs

  pub all_listed : Space → List Home → StmtTrees → List Home
  all_listed n hs tree.no_stmts = hs
  all_listed n hs (tree.more_stmts s ss) = all_listed n (listed n hs s) ss
