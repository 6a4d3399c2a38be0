-- What the functions of the crate promise one another.
use Rattle.std.specs.Prelude.{◌≡◌, ℕ, Bool, true, false, List}
use Rattle.svr_token.specs.Names.{names_of}
use Rattle.svr_seq.specs.SeqTerm.{seq_term}
use Rattle.svr_seq_lines.specs.declared.end.End.{End}
use Rattle.svr_seq_lines.specs.declared.end.End.TheVariants as end
use Rattle.svr_seq_lines.specs.declared.sequence.Sequence.{Sequence}
use Rattle.svr_seq_lines.specs.Lines.{SequenceTerm}
use Rattle.svr_seq_lines.specs.Said.{IsRefused}

abbrev pub sequence_term : Sequence → SequenceTerm
sequence_term x = record { name = names_of x.names; seq = seq_term x.seq.now; seed = x.seed }

-- lines end so where this tells whether one needs too many units
abbrev pub EndsSo : End → Bool → Type 0
EndsSo end.Whole long = long ≡ false
EndsSo end.Limited long = long ≡ true
EndsSo (end.Refused number place) long = ⊥

-- it is a refusal of the text
abbrev pub Refuses : List ℕ → End → Type 0
Refuses text end.Whole = ⊥
Refuses text end.Limited = ⊥
Refuses text (end.Refused number place) = IsRefused text number place
