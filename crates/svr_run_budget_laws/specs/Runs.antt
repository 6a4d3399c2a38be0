-- Runs of a script, and the bits of the questions of their calls.
use Rattle.std.specs.Prelude.{◌≡◌, ◌+◌, false, List, ◌∷◌}
use Rattle.std.specs.List.{All}
use Rattle.svr_typed.specs.StmtTerm.{CallTerm, StmtTerm, call, DesignTerm}
use Rattle.svr_frame.specs.Sound.{IsSound}
use Rattle.svr_phase.specs.declared.options.Options.{Options}
use Rattle.svr_call.specs.Call.{call_of}
use Rattle.svr_script.specs.Printed.{Event}
use Rattle.svr_script.specs.Statement.{frame_in}
use Rattle.svr_script.specs.Run.{State, IsSoFar}
use Rattle.svr_budget_laws.specs.Budget.{GivesUpOverMany}
use Rattle.svr_budget_laws.specs.Questions.{AsksLittle}

-- each call that gives up does so over many bits
abbrev pub CallsGiveUpOverMany : Options → List Event → Type 0
CallsGiveUpOverMany opts es = All (λ (e : Event). GivesUpOverMany e.frame opts e.outcome) es

-- each call that comes next in some run of the script so far is one of small questions
abbrev pub CallsAskLittle : DesignTerm → Options → Type 0
CallsAskLittle d opts =
    (es : List Event) (s : State) (so_far : IsSoFar d opts es s) (c : CallTerm) (rest : List StmtTerm) → so_far.left ≡ call c ∷ rest → s.limited ≡ false
    → AsksLittle (call_of s.world c.object (frame_in d s.world c) (s.calls + 1) opts)

-- each call that comes next in some run of the script so far has a sound frame
abbrev pub CallsAreSound : DesignTerm → Options → Type 0
CallsAreSound d opts =
    (es : List Event) (s : State) (so_far : IsSoFar d opts es s) (c : CallTerm) (rest : List StmtTerm) → so_far.left ≡ call c ∷ rest → s.limited ≡ false → IsSound (frame_in d s.world c)
