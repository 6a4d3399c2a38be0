-- What the pass that keeps the first refusal has to do with the one that gathers all of them.
use Rattle.std.specs.Prelude.{◌≡◌, ℕ, List, Option}
use Rattle.svr_tree.specs.DeclTree.{ClassTree}
use Rattle.svr_elab_fault.specs.declared.Fault.{Fault}
use Rattle.svr_elab_fault.specs.Refusals.{all, first_one, least, FirstOf}
use Rattle.svr_elab_names.specs.Names.{Space}
use Rattle.svr_elab_block.specs.Blocks.{BodyElab, BodiesElab, bodies, no_bodies}

-- the same, with the first of all refusals in their place
abbrev pub shown_body : BodyElab (List Fault) → BodyElab (Option Fault)
shown_body x = record { own = x.own; named = x.named; blocks = x.blocks; orders = x.orders; faults = least x.faults }

abbrev pub shown_bodies : BodiesElab (List Fault) → BodiesElab (Option Fault)
shown_bodies x = record { blocks = x.blocks; orders = x.orders; faults = least x.faults }

-- the pass with the first refusal is the pass with all of them, seen so
abbrev pub KeepsTheFirst : Type 0
KeepsTheFirst = (n : Space) (k : ℕ) (cs : List ClassTree) → shown_bodies (bodies all n (no_bodies all) k cs) ≡ bodies first_one n (no_bodies first_one) k cs

-- and the refusal that it keeps is the first of all of them by place, at one place by number; where it keeps none there is none
abbrev pub TellsTheFirst : Type 0
TellsTheFirst = (n : Space) (k : ℕ) (cs : List ClassTree) → FirstOf (bodies all n (no_bodies all) k cs).faults (bodies first_one n (no_bodies first_one) k cs).faults
