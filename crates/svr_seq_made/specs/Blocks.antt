-- The pieces of a code block, one after the other: what is refused, and what is made of them (IEEE 1800-2017, 18.16)
use Rattle.std.specs.Prelude.{ℕ, Bool, true, nat_lt, min, List, [], ◌∷◌, ◌++◌, length, if◌then◌else◌}
use Rattle.svr_token.specs.Lexemes.{number_of}
use Rattle.svr_token.specs.declared.lexeme.Lexeme.{Lexeme}
use Rattle.svr_token.specs.declared.lexeme.Lexeme.TheVariants as l
use Rattle.svr_refusal.specs.declared.refusal.Refusal.{Refusal}
use Rattle.svr_refusal.specs.declared.refusal.Refusal.TheVariants as refusal
use Rattle.svr_seq.specs.SeqTerm.{ActTerm, print, choose, branches_of}
use Rattle.svr_seq_text.specs.declared.text.ActText.{ActText}
use Rattle.svr_seq_text.specs.declared.text.ActText.TheVariants as t
use Rattle.svr_seq.specs.declared.limits.TheConstants.{SEQUENCE_LIMIT, CHOICE_LIMIT}
use Rattle.svr_seq_made.specs.declared.fault.SeqFault.{SeqFault}
use Rattle.svr_seq_made.specs.declared.fault.SeqFault.TheVariants as e

-- the number that a decimal literal writes; none that a text may have is greater than the greatest here
abbrev pub value_of : List ℕ → ℕ
value_of bytes = min (number_of 10 bytes) 4294967295

-- the value of a literal, none of which is greater than the greatest here
abbrev pub literal_value : Lexeme → ℕ
literal_value (l.Literal value width signed) = min value 4294967295
literal_value _ = 0

-- nothing, or a refusal at a token
abbrev pub unless : Bool → Refusal → ℕ → List SeqFault
unless fine why token = if fine then [] else e.Refused why token ∷ []

-- a choice on the way: the weight of the branch at hand, and the branches before it
pub record Opened : Type 0 where
  pub weight : ℕ
  pub branches : List (ℕ × ActTerm)

-- a block on the way: the choices around the place, the innermost first, and the acts before
pub record BlockSeen : Type 0 where
  pub opens : List Opened
  pub acts : List ActTerm

abbrev pub fresh : BlockSeen
fresh = record { opens = []; acts = [] }

-- one more act, which is one of the block or ends a branch
abbrev pub put_in : List Opened → List ActTerm → ActTerm → BlockSeen
put_in [] acts x = record { opens = []; acts = acts ++ x ∷ [] }
put_in (o ∷ os) acts x = record { opens = record { weight = o.weight; branches = o.branches ++ (o.weight, x) ∷ [] } ∷ os; acts = acts }

abbrev pub put : BlockSeen → ActTerm → BlockSeen
put b x = put_in b.opens b.acts x

abbrev pub weigh_in : List Opened → ℕ → List Opened
weigh_in [] weight = []
weigh_in (o ∷ os) weight = record { weight = weight; branches = o.branches } ∷ os

abbrev pub close_in : List Opened → List ActTerm → BlockSeen
close_in [] acts = record { opens = []; acts = acts }
close_in (o ∷ os) acts = put_in os acts (choose (branches_of o.branches))

-- the block behind one more piece. `text` is what the token of a number spells
abbrev pub behind : (ℕ → List ℕ) → BlockSeen → ActText → BlockSeen
behind text b (t.Print name) = put b (print name)
behind text b (t.Choose at) = record b { opens = record { weight = 0; branches = [] } ∷ b.opens }
behind text b (t.Branch weight) = record b { opens = weigh_in b.opens (value_of (text weight)) }
behind text b t.End = close_in b.opens b.acts

-- a block has at most SEQUENCE_LIMIT acts
abbrev pub act_fits : List Opened → List ActTerm → Bool
act_fits [] acts = nat_lt (length acts) SEQUENCE_LIMIT
act_fits (o ∷ os) acts = true

-- a choice has at most SEQUENCE_LIMIT branches
abbrev pub branch_fits : List Opened → Bool
branch_fits [] = true
branch_fits (o ∷ os) = nat_lt (length o.branches) SEQUENCE_LIMIT

-- what is refused at one piece
abbrev pub piece_refusals : BlockSeen → ActText → List SeqFault
piece_refusals b (t.Print name) = unless (act_fits b.opens b.acts) refusal.SequenceTooLarge name
piece_refusals b (t.Choose at) = unless (act_fits b.opens b.acts) refusal.SequenceTooLarge at ++ unless (nat_lt (length b.opens) CHOICE_LIMIT) refusal.SequenceTooLarge at
piece_refusals b (t.Branch weight) = unless (branch_fits b.opens) refusal.SequenceTooLarge weight
piece_refusals b t.End = []

abbrev pub acts_refusals : (ℕ → List ℕ) → BlockSeen → List ActText → List SeqFault
acts_refusals text b [] = []
acts_refusals text b (x ∷ xs) = piece_refusals b x ++ acts_refusals text (behind text b x) xs

abbrev pub acts_made : (ℕ → List ℕ) → BlockSeen → List ActText → List ActTerm
acts_made text b [] = b.acts
acts_made text b (x ∷ xs) = acts_made text (behind text b x) xs
