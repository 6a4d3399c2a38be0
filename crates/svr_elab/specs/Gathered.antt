-- What the passes over a script that keep the first refusal have to do with those that gather all of them.
use Rattle.std.specs.Prelude.{◌≡◌, ℕ, List, Option}
use Rattle.svr_tree.specs.ScriptTree.{ScriptTree}
use Rattle.svr_elab_fault.specs.declared.Fault.{Fault}
use Rattle.svr_elab_fault.specs.Refusals.{all, first_one, least, FirstOf}
use Rattle.svr_elab.specs.Script.{ScriptElab, script}

-- the same, with the first of all refusals in their place
abbrev pub shown_script : ScriptElab (List Fault) → ScriptElab (Option Fault)
shown_script x = record { design = x.design; faults = least x.faults }

-- the script with the first refusal is the script with all of them, seen so
abbrev pub KeepsTheFirst : Type 0
KeepsTheFirst = (text : ℕ → List ℕ) (s : ScriptTree) → shown_script (script all text s) ≡ script first_one text s

-- and the refusal that is kept is the first of all of them by place, at one place by number; where none is kept there is none
abbrev pub TellsTheFirst : Type 0
TellsTheFirst = (text : ℕ → List ℕ) (s : ScriptTree) → FirstOf (script all text s).faults (script first_one text s).faults
