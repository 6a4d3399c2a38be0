-- The properties and blocks of a class along the numbers of the classes that it derives from, from the class up.
use Rattle.std.specs.Prelude.{◌≡◌, ℕ, List, [], ◌∷◌, ◌++◌, Option, Some, None, slice_get}
use Rattle.svr_typed.specs.declared.class.Prop.{Prop}
use Rattle.svr_typed.specs.ClassTerm.{BlockTerm, ClassTerm}
use Rattle.svr_flat.specs.Flat.{not_replaced}

-- the properties of a class, if there is one, behind those of its base
abbrev pub props_if : List Prop → Option ClassTerm → List Prop
props_if inherited None = []
props_if inherited (Some c) = inherited ++ c.props

-- of the class of this number
abbrev pub props_over : List ClassTerm → List Prop → ℕ → List Prop
props_over cs inherited n = props_if inherited (slice_get cs n)

-- of the classes of these numbers, each behind those after it, over given ones
abbrev pub props_along : List ClassTerm → List ℕ → List Prop → List Prop
props_along cs [] props = props
props_along cs (n ∷ ns) props = props_over cs (props_along cs ns props) n

-- the blocks of a class, if there is one, behind those of its base that it does not replace
abbrev pub blocks_if : List BlockTerm → Option ClassTerm → List BlockTerm
blocks_if inherited None = []
blocks_if inherited (Some c) = not_replaced c.blocks inherited ++ c.blocks

-- of the classes of these numbers, each over those after it, over given ones
abbrev pub blocks_along : List ClassTerm → List ℕ → List BlockTerm → List BlockTerm
blocks_along cs [] blocks = blocks
blocks_along cs (n ∷ ns) blocks = blocks_if (blocks_along cs ns blocks) (slice_get cs n)

-- what stands along a lineage over given blocks, where the first class has these blocks of its own and inherits what stands along the rest
abbrev pub StandsOver : List ClassTerm → List ℕ → List BlockTerm → List BlockTerm → List ℕ → List BlockTerm → Type 0
StandsOver cs ns blocks own rest above = blocks_along cs ns blocks ≡ not_replaced own (blocks_along cs rest above) ++ own

-- lists of blocks, the last one first
abbrev pub stacked : List (List BlockTerm) → List BlockTerm
stacked [] = []
stacked (bs ∷ rest) = stacked rest ++ bs
