-- What is said of a text: the verdict on the file that it is, or why and where it is none.
use Rattle.std.specs.Prelude.{◌≡◌, ℕ, List, []}
use Rattle.svr_chain.specs.Valuations.{HaveNoValuation}
use Rattle.svr_lrat_file.specs.Views.{FileView}
use Rattle.svr_lrat_text.specs.Faults.{IsFileOf, IsBad, IsTooLarge}
use Rattle.svr_lrat_judge.specs.declared.verdict.LratVerdict.{LratVerdict}
use Rattle.svr_lrat_judge.specs.declared.verdict.LratVerdict.TheVariants as says
use Rattle.svr_lrat_judge.specs.Verdict.{verdict_of}
use Rattle.svr_refusal.specs.declared.place.Place.{Place}
use Rattle.svr_refusal.specs.declared.refusal.Refusal.TheVariants as refusal
use Rattle.svr_refusal.specs.Numbers.{number_of}
use Rattle.svr_refusal.specs.Place.{place_of}
use Rattle.svr_check.specs.declared.check.Checked.{Checked}
use Rattle.svr_check.specs.declared.check.Checked.TheVariants as checked

-- the text is a file within the limits, and this is the verdict on it
pub record HasVerdict (text : List ℕ) (verdict : LratVerdict) : Type 0 where
  pub file : FileView
  pub written : IsFileOf text file
  pub judged : verdict ≡ verdict_of file
  -- where it is accepted no valuation meets the clauses
  pub sound : verdict ≡ says.Accepted → HaveNoValuation file.clauses []

-- the text is no file within the limits: the number of this refusal, and the place of the token at fault
pub data IsNoFile (text : List ℕ) (number : ℕ) (place : Place) : Type 0 where
  -- the first token with which the tokens are no front of any file
  by_grammar : (at : ℕ) → IsBad text at → number ≡ number_of refusal.NoDerivation → place ≡ place_of text at → IsNoFile text number place
  -- the first token with which they are the front of a file, and of none within the limits
  by_size : (at : ℕ) → IsTooLarge text at → number ≡ number_of refusal.DerivationTooLarge → place ≡ place_of text at → IsNoFile text number place

abbrev pub IsChecked : List ℕ → Checked → Type 0
IsChecked text (checked.Judged verdict) = HasVerdict text verdict
IsChecked text (checked.Refused number place) = IsNoFile text number place

-- no text is both
abbrev pub FilesAreJudged : Type 0
FilesAreJudged = (text : List ℕ) (file : FileView) (number : ℕ) (place : Place) → IsFileOf text file → IsNoFile text number place → ⊥
