-- Blocks and classes as plain data, and those that the code's stand for (IEEE 1800-2017, clause 8 and 18.5).
use Rattle.std.specs.Prelude.{ℕ, List, Option, map}
use Rattle.svr_typed.specs.declared.class.Prop.{Prop}
use Rattle.svr_typed.specs.declared.class.TBlock.{TBlock}
use Rattle.svr_typed.specs.declared.class.FlatClass.{FlatClass}
use Rattle.svr_typed.specs.declared.class.TClass.{TClass}
use Rattle.svr_typed.specs.ItemTerm.{ItemTerms, item_terms}

-- a constraint block
pub record BlockTerm : Type 0 where
  pub name : List ℕ
  pub items : ItemTerms

-- a class with what it inherits
pub record FlatTerm : Type 0 where
  pub props : List Prop
  pub blocks : List BlockTerm

-- a class with its own properties and blocks
pub record ClassTerm : Type 0 where
  pub name : List ℕ
  pub base : Option ℕ
  pub props : List Prop
  pub blocks : List BlockTerm

abbrev pub block_term : TBlock → BlockTerm
block_term b = record { name = b.name; items = item_terms b.items }

abbrev pub block_terms : List TBlock → List BlockTerm
block_terms bs = map block_term bs

abbrev pub flat_term : FlatClass → FlatTerm
flat_term c = record { props = c.props; blocks = block_terms c.blocks }

abbrev pub class_term : TClass → ClassTerm
class_term c = record { name = c.name; base = c.base; props = c.props; blocks = block_terms c.blocks }

abbrev pub class_terms : List TClass → List ClassTerm
class_terms cs = map class_term cs
