-- Which commands read a text, and how much of it.
use Rattle.std.proofs.Common.{◌≡◌, ℕ, List}
use Rattle.svr_limits.specs.declared.limit.TheConstants.{TEXT_LIMIT}
use Rattle.svr_lrat_text.specs.declared.limits.TheConstants.{MOST_TEXT}
use Rattle.svr_phase.specs.declared.options.Options.{Options}
use Rattle.svr_words.specs.declared.request.Run.{Run}
use Rattle.svr_words.specs.Words.{IsCommand, IsLoad, IsCheck, IsSeq, IsCover, AskNothing}
use Rattle.svr_words.proofs.Taking.{run_is_no_load, run_is_no_check, load_is_no_check, run_is_no_seq, load_is_no_seq, check_is_no_seq, run_is_no_cover, load_is_no_cover, check_is_no_cover, seq_is_no_cover}
use Rattle.svr_program.specs.Outcome.{Reads, a_script, a_derivation, a_sequence, a_coverage}

pub run_reads : (words : List (List ℕ)) (asked : Run) (limit : ℕ) → IsCommand words asked → Reads words limit → limit ≡ TEXT_LIMIT
run_reads words asked limit run (a_script other also is) = is
run_reads words asked limit run (a_derivation check is) = absurd (run_is_no_check words asked run check)
run_reads words asked limit run (a_sequence seed count seq is) = absurd (run_is_no_seq words asked seed count run seq)
run_reads words asked limit run (a_coverage opts cover is) = absurd (run_is_no_cover words asked opts run cover)

pub check_reads : (words : List (List ℕ)) (limit : ℕ) → IsCheck words → Reads words limit → limit ≡ MOST_TEXT
check_reads words limit check (a_script asked run is) = absurd (run_is_no_check words asked run check)
check_reads words limit check (a_derivation asked is) = is
check_reads words limit check (a_sequence seed count seq is) = absurd (check_is_no_seq words seed count check seq)
check_reads words limit check (a_coverage opts cover is) = absurd (check_is_no_cover words opts check cover)

pub seq_reads : (words : List (List ℕ)) (seed count limit : ℕ) → IsSeq words seed count → Reads words limit → limit ≡ TEXT_LIMIT
seq_reads words seed count limit seq (a_script asked run is) = absurd (run_is_no_seq words asked seed count run seq)
seq_reads words seed count limit seq (a_derivation check is) = absurd (check_is_no_seq words seed count check seq)
seq_reads words seed count limit seq (a_sequence other many asked is) = is
seq_reads words seed count limit seq (a_coverage opts cover is) = absurd (seq_is_no_cover words seed count opts seq cover)

pub cover_reads : (words : List (List ℕ)) (opts : Options) (limit : ℕ) → IsCover words opts → Reads words limit → limit ≡ TEXT_LIMIT
cover_reads words opts limit cover (a_script asked run is) = absurd (run_is_no_cover words asked opts run cover)
cover_reads words opts limit cover (a_derivation check is) = absurd (check_is_no_cover words opts check cover)
cover_reads words opts limit cover (a_sequence seed count seq is) = absurd (seq_is_no_cover words seed count opts seq cover)
cover_reads words opts limit cover (a_coverage other asked is) = is

pub load_reads_nothing : (words : List (List ℕ)) (count : ℕ) (opts : Options) (limit : ℕ) → IsLoad words count opts → Reads words limit → ⊥
load_reads_nothing words count opts limit load (a_script other run is) = run_is_no_load words other count opts run load
load_reads_nothing words count opts limit load (a_derivation check is) = load_is_no_check words count opts load check
load_reads_nothing words count opts limit load (a_sequence seed many seq is) = load_is_no_seq words count opts seed many load seq
load_reads_nothing words count opts limit load (a_coverage wanted cover is) = load_is_no_cover words count opts wanted load cover

pub none_reads : (words : List (List ℕ)) (limit : ℕ) → AskNothing words → Reads words limit → ⊥
none_reads words limit none (a_script asked run is) = none.no_run asked run
none_reads words limit none (a_derivation check is) = none.no_check check
none_reads words limit none (a_sequence seed count seq is) = none.no_seq seed count seq
none_reads words limit none (a_coverage opts cover is) = none.no_cover opts cover
