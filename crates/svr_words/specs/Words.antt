-- The words of the command line, as `clap` reads them.
use Rattle.std.specs.Prelude.{◌≡◌, ℕ, Bool, true, false, List, [], Option, Some, None, codes, slice_get}
use Rattle.std.specs.Str.{bytes_eq}
use Rattle.std.specs.Str.Parse.{digits_value, without_leading_plus}
use Rattle.clap.specs.Walk.{Row, Rule, Text, one_of}
use Rattle.clap.specs.Simple.{App, new_app, new_rule, on_top, with_rule, matches_of}
use Rattle.clap.specs.Faults.{fault_of}
use Rattle.clap.specs.declared.builder.action.ArgAction.TheVariants.{Set, SetTrue}
use Rattle.clap.specs.declared.builder.value_parser.ValueParser.{ValueParser}
use Rattle.clap.specs.declared.builder.value_parser.ValueParser.TheVariants.{Unsigned, Bool as Truth}
use Rattle.svr_limits.specs.declared.limit.TheConstants.{BUDGET_LIMIT, ELEMENT_LIMIT}
use Rattle.svr_phase.specs.declared.options.Options.{Options}
use Rattle.svr_words.specs.declared.limits.TheConstants.{CLASS_LIMIT, LINE_LIMIT}
use Rattle.svr_words.specs.declared.request.Run.{Run}

-- an option that takes one value
abbrev pub option : Text → ValueParser → Rule
option name parser = record (new_rule name) { long = Some name; action = Some Set; parser = Some parser }

abbrev pub flag : Text → Rule
flag name = record (new_rule name) { long = Some name; action = Some SetTrue; parser = Some Truth }

-- a command without options, and without help
abbrev pub plain_command : Text → App
plain_command name = on_top (λ s. record s { disable_help_flag = true }) (new_app name)

abbrev pub with_options : Text → App
with_options name =
    with_rule (with_rule (with_rule (with_rule (plain_command name)
    (option (codes "seed") (Unsigned 0 18446744073709551615)))
    (option (codes "budget") (Unsigned 1 BUDGET_LIMIT)))
    (option (codes "size-cap") (Unsigned 1 ELEMENT_LIMIT)))
    (flag (codes "proofs"))

-- a run tells more beside its lines by two flags that it alone has
abbrev pub run_command : App
run_command = with_rule (with_rule (with_options (codes "run")) (flag (codes "conflicts"))) (flag (codes "lrat"))

-- a check has no options
abbrev pub check_command : App
check_command = plain_command (codes "check")

-- `seq` with its options
abbrev pub seq_command : App
seq_command =
    with_rule (with_rule (plain_command (codes "seq"))
    (option (codes "seed") (Unsigned 0 18446744073709551615)))
    (option (codes "count") (Unsigned 1 LINE_LIMIT))

-- `cover` has the options of a run, and none of its flags
abbrev pub cover_command : App
cover_command = with_options (codes "cover")

-- how many classes the script of a load has
abbrev pub class_count : Rule
class_count = record (new_rule (codes "N")) { action = Some Set; parser = Some (Unsigned 1 CLASS_LIMIT); required = true }

abbrev pub load_command : App
load_command = with_rule (with_options (codes "load")) class_count

-- the number of an option, where it was used
abbrev pub number_or : ℕ → Option Text → ℕ
number_or default None = default
number_or default (Some text) = digits_value 10 (without_leading_plus text)

abbrev pub is_set : Option Text → Bool
is_set None = false
is_set (Some text) = bytes_eq text (codes "true")

-- the options of a run, with what stands for those that were not used
abbrev pub options_of : List Row → Options
options_of rows = record {
  seed = number_or 0 (one_of (codes "seed") rows);
  budget = number_or 131072 (one_of (codes "budget") rows);
  size_cap = number_or 256 (one_of (codes "size-cap") rows);
  proofs = is_set (one_of (codes "proofs") rows);
}

-- a run with these options, and with the flags that were used
abbrev pub run_of : List Row → Run
run_of rows = record {
  opts = options_of rows;
  conflicts = is_set (one_of (codes "conflicts") rows);
  lrat = is_set (one_of (codes "lrat") rows);
}

-- The words ask for this run: the first names the command, and `clap` takes those behind it for its options and flags.
pub record IsCommand (words : List Text) (run : Run) : Type 0 where
  pub named : slice_get words 0 ≡ Some (codes "run")
  pub taken : fault_of run_command words ≡ []
  pub options : run ≡ run_of (matches_of run_command words)

-- The words ask for a load of so many classes with these options.
pub record IsLoad (words : List Text) (count : ℕ) (opts : Options) : Type 0 where
  pub named : slice_get words 0 ≡ Some (codes "load")
  pub taken : fault_of load_command words ≡ []
  pub counted : count ≡ number_or 0 (one_of (codes "N") (matches_of load_command words))
  pub options : opts ≡ options_of (matches_of load_command words)

-- The words ask for a check: the first names the command, and `clap` takes those behind it for a command without options.
pub record IsCheck (words : List Text) : Type 0 where
  pub named : slice_get words 0 ≡ Some (codes "check")
  pub taken : fault_of check_command words ≡ []

-- The words ask for so many lines of a `randsequence` under this seed.
pub record IsSeq (words : List Text) (seed count : ℕ) : Type 0 where
  pub named : slice_get words 0 ≡ Some (codes "seq")
  pub taken : fault_of seq_command words ≡ []
  pub seeded : seed ≡ number_or 0 (one_of (codes "seed") (matches_of seq_command words))
  pub counted : count ≡ number_or 1 (one_of (codes "count") (matches_of seq_command words))

-- The words ask for coverage: for a run with these options, and for what cover groups count of it.
pub record IsCover (words : List Text) (opts : Options) : Type 0 where
  pub named : slice_get words 0 ≡ Some (codes "cover")
  pub taken : fault_of cover_command words ≡ []
  pub options : opts ≡ options_of (matches_of cover_command words)

-- the words ask for none of these
pub record AskNothing (words : List Text) : Type 0 where
  pub no_run : (run : Run) → IsCommand words run → ⊥
  pub no_load : (count : ℕ) (opts : Options) → IsLoad words count opts → ⊥
  pub no_check : IsCheck words → ⊥
  pub no_seq : (seed count : ℕ) → IsSeq words seed count → ⊥
  pub no_cover : (opts : Options) → IsCover words opts → ⊥

-- what is printed for such words
abbrev pub usage_text : List ℕ
usage_text = codes "usage: svrand run [--seed N] [--budget N] [--size-cap N] [--proofs] [--conflicts] [--lrat]\n       svrand load N [--seed N] [--budget N] [--size-cap N] [--proofs]\n       svrand check\n       svrand cover [--seed N] [--budget N] [--size-cap N] [--proofs]\n       svrand seq [--seed N] [--count N]\n"
