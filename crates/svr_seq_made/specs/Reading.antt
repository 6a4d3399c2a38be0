-- Tokens that write a `randsequence` without a refusal, and the first refusal of any others
use Rattle.std.specs.Prelude.{◌≡◌, ◌⊎◌, ℕ, List, [], Some}
use Rattle.svr_refusal.specs.declared.refusal.Refusal.TheVariants as refusal
use Rattle.svr_seq.specs.SeqTerm.{SeqTerm}
use Rattle.svr_token.specs.declared.token.Token.{Token}
use Rattle.svr_token.specs.Names.{name_at}
use Rattle.svr_seq_text.specs.declared.fault.SeqTextFault.{SeqTextFault}
use Rattle.svr_seq_text.specs.declared.fault.SeqTextFault.TheVariants as t
use Rattle.svr_seq_text.specs.Tree.{SeqTree, text_of}
use Rattle.svr_seq_text.specs.Tokens.{WriteTree, StopAt}
use Rattle.svr_seq_made.specs.declared.fault.SeqFault.{SeqFault}
use Rattle.svr_seq_made.specs.declared.fault.SeqFault.TheVariants as e
use Rattle.svr_seq_made.specs.Refusals.{refusals, first_of}
use Rattle.svr_seq_made.specs.Making.{seq_made}

-- the tokens write a text in which nothing is refused, and this is made of it
pub record IsSeqOf (text : List ℕ) (tokens : List Token) (s : SeqTerm) : Type 0 where
  pub tree : SeqTree
  pub written : WriteTree text tokens tree
  pub fine : refusals (name_at text tokens) (text_of tree) ≡ []
  pub made : seq_made (name_at text tokens) (text_of tree) ≡ s

-- the tokens write a text whose first refusal this is
pub record IsRefusedText (text : List ℕ) (tokens : List Token) (fault : SeqFault) : Type 0 where
  pub tree : SeqTree
  pub written : WriteTree text tokens tree
  pub first : first_of (refusals (name_at text tokens) (text_of tree)) ≡ Some fault

-- the tokens write no text, and this is the first with which they begin none; or the text is refused
abbrev pub IsRefused : List ℕ → List Token → SeqFault → Type 0
IsRefused text tokens (e.Refused why token) = ((why ≡ refusal.NoSequence) × StopAt text tokens token) ⊎ IsRefusedText text tokens (e.Refused why token)
IsRefused text tokens e.NoMemory = Unit {0}

-- a fault of the text as a refusal
abbrev pub refusal_of : SeqTextFault → SeqFault
refusal_of (t.Unexpected token) = e.Refused refusal.NoSequence token
refusal_of t.NoMemory = e.NoMemory
