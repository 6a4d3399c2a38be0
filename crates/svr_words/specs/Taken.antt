-- What was taken for the options of a run.
use Rattle.std.specs.Prelude.{◌≡◌, ◌≤◌, ◌<◌, ◌||◌, ◌^◌, ℕ, true, List, Some, codes}
use Rattle.std.specs.Str.{bytes_eq}
use Rattle.std.specs.Str.Parse.{IsNumeral, digits_value, without_leading_plus}
use Rattle.clap.specs.Values.{IsUnsignedIn}
use Rattle.clap.specs.Matches.{one_text}
use Rattle.clap.specs.declared.parser.matches.Found.{Found}
use Rattle.svr_limits.specs.declared.limit.TheConstants.{BUDGET_LIMIT, ELEMENT_LIMIT}
use Rattle.svr_phase.specs.declared.options.Options.{Options}
use Rattle.svr_words.specs.Words.{IsCommand, IsLoad, IsCheck, IsSeq, IsCover}
use Rattle.svr_words.specs.declared.limits.TheConstants.{CLASS_LIMIT, LINE_LIMIT}
use Rattle.svr_words.specs.declared.request.Request.{Request}
use Rattle.svr_words.specs.declared.request.Request.TheVariants as request

-- a text that was taken for this option writes a number from low to high
abbrev pub IsNumber : Found → List ℕ → ℕ → ℕ → Type 0
IsNumber f name low high = (text : List ℕ) → one_text f name ≡ Some text → IsUnsignedIn low high text

-- what was taken is a word for a truth
abbrev pub IsTruth : Found → List ℕ → Type 0
IsTruth f name = (text : List ℕ) → one_text f name ≡ Some text → (bytes_eq text (codes "true") || bytes_eq text (codes "false")) ≡ true

pub record AreTaken (f : Found) : Type 0 where
  pub seed : IsNumber f (codes "seed") 0 18446744073709551615
  pub budget : IsNumber f (codes "budget") 1 BUDGET_LIMIT
  pub size_cap : IsNumber f (codes "size-cap") 1 ELEMENT_LIMIT
  pub proofs : IsTruth f (codes "proofs")

-- a question may take some step, some array may have an element, and none passes the limit of arrays
abbrev pub AreInRange : Options → Type 0
AreInRange opts = (1 ≤ opts.budget) × (1 ≤ opts.size_cap) × (opts.size_cap ≤ ELEMENT_LIMIT)

-- what was taken for a run
pub record RunIsTaken (f : Found) : Type 0 where
  pub options : AreTaken f
  pub conflicts : IsTruth f (codes "conflicts")
  pub lrat : IsTruth f (codes "lrat")

-- what was taken for a load
pub record LoadIsTaken (f : Found) : Type 0 where
  pub count : IsNumber f (codes "N") 1 CLASS_LIMIT
  pub options : AreTaken f

-- what was taken for lines
pub record SeqIsTaken (f : Found) : Type 0 where
  pub seed : IsNumber f (codes "seed") 0 18446744073709551615
  pub count : IsNumber f (codes "count") 1 LINE_LIMIT

-- the words ask for this, and its numbers are in their ranges
abbrev pub Asks : List (List ℕ) → Request → Type 0
Asks words (request.Run run) = IsCommand words run × AreInRange run.opts
Asks words (request.Load load) = IsLoad words load.count load.opts × (load.count ≤ CLASS_LIMIT) × AreInRange load.opts
Asks words request.Check = IsCheck words
Asks words (request.Seq lines) = IsSeq words lines.seed lines.count
Asks words (request.Cover opts) = IsCover words opts × AreInRange opts
