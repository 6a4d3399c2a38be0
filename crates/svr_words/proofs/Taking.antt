-- What `clap` takes for the options of a run, and how it is read.
use Rattle.std.proofs.Common.{zero, suc, ◌≡◌, ◌⊎◌, ◌∙◌, ◌++◌, ◌&&◌, ◌||◌, ◌<◌, ◌≤◌, ◌^◌, ℕ, Bool, true, false, not, List, [], ◌∷◌, length, is_some, map, drop, Option, Some, None, refl, sym, ap, subst, inl, inr, arith, codes, option_map, slice_get, get_or, unwrap_or, string_bytes}
use Rattle.std.specs.Prelude.{Ok, Err, Result, IfOk, MatchResult, option_and_then}
use Rattle.std.proofs.lemmas.Bool.{false≢true, cases_lt}
use Rattle.std.specs.List.{All, Any, slice_index_or, list_all}
use Rattle.std.specs.Borrow.{Bor}
use Rattle.std.specs.Str.{bytes_eq}
use Rattle.std.specs.Str.Parse.{IsNumeral, ParsesUnsigned, digits_value, without_leading_plus}
use Rattle.std.proofs.lemmas.Slice.Eq.{bytes_eq-Decides}
use Rattle.std.proofs.lemmas.Map.Views.{exact_unsigned_eq}
use Rattle.std.proofs.lemmas.Option.{none-some}
use Rattle.std.proofs.lemmas.List.{nil_from_length}
use Rattle.std.proofs.lemmas.List.Elements.{All-get_or}
use Rattle.clap.specs.Facts.{EntryPasses, ValuesPass, PassesArg, HasReading, args_of, groups_of, parser_of, parser_of_value}
use Rattle.clap.specs.Built.{IsParsedFrom, IsAuto, SameRules, NamesNoGroup}
use Rattle.clap.specs.Matches.{found_of, matched_of, one_text, ReadsOne}
use Rattle.clap.specs.Values.{Accepts, IsUnsignedIn, read_as, reading_of, kind_of}
use Rattle.clap.specs.Walk.{Row, Rule, Text, one_of, rows_of, rule_of, is_empty, is_simple_arg}
use Rattle.clap.specs.Simple.{App, app_of, HasMatchesOf, is_simple, has_plain_fields, matches_of}
use Rattle.clap.specs.Faults.{fault_of, is_simple_and_free}
use Rattle.clap.specs.Kinds.{FailsBy, HasKind, IsAmong}
use Rattle.clap.specs.declared.builder.arg.Arg.{Arg}
use Rattle.clap.specs.declared.builder.arg_group.ArgGroup.{ArgGroup}
use Rattle.clap.specs.declared.builder.command.Command.{Command}
use Rattle.clap.specs.declared.builder.command.Command.TheViews.{out-Command}
use Rattle.clap.specs.declared.builder.value_parser.ValueParser.{ValueParser}
use Rattle.clap.specs.declared.builder.value_parser.ValueParser.TheVariants.{Unsigned, Bool as Truth}
use Rattle.clap.specs.declared.builder.value_parser.Reading.{Reading}
use Rattle.clap.specs.declared.builder.value_parser.Reading.TheVariants.{AsWritten}
use Rattle.clap.specs.declared.error.Error.{Error}
use Rattle.clap.specs.declared.error.kind.ErrorKind.TheVariants.{OutOfMemory}
use Rattle.clap.specs.declared.parser.matches.ArgMatches.{ArgMatches}
use Rattle.clap.specs.declared.parser.matches.Found.{Found}
use Rattle.clap.specs.declared.parser.matches.MatchedArg.{MatchedArg}
use Rattle.clap.proofs.CallerLemmas.{entry_by_id}
use Rattle.clap.proofs.WalkLemmas.{one_text-rows}
use Rattle.clap.proofs.OnLiterals.{clap_on_literals}
use Rattle.svr_phase.specs.declared.options.Options.{Options}
use Rattle.svr_words.specs.declared.request.Run.{Run}
use Rattle.svr_words.specs.Words.{option, flag, run_command, class_count, load_command, check_command, seq_command, cover_command, number_or, is_set, options_of, run_of, IsCommand, IsLoad, IsCheck, IsSeq, IsCover, AskNothing}
use Rattle.svr_words.specs.Taken.{IsNumber, IsTruth, AreTaken, RunIsTaken, LoadIsTaken, SeqIsTaken}

-- ---- the command

-- the options of `run`, `load` and `cover`, with what stands behind them
abbrev with_rest : List Rule → List Rule
with_rest rest =
    option (codes "seed") (Unsigned 0 18446744073709551615)
    ∷ option (codes "budget") (Unsigned 1 16777216)
    ∷ option (codes "size-cap") (Unsigned 1 2048)
    ∷ flag (codes "proofs") ∷ rest

-- the flags that a run alone has
abbrev run_flags : List Rule
run_flags = flag (codes "conflicts") ∷ flag (codes "lrat") ∷ []

-- ---- what stands in the matches

-- one of the rules with this name has a parser of which P holds
abbrev Finds : (ValueParser → Type 0) → Text → List Rule → Type 0
Finds P name [] = ⊥
Finds P name (r ∷ rs) = ((bytes_eq r.id name ≡ true) × P (parser_of_value r.parser)) ⊎ Finds P name rs

-- each rule has a parser
abbrev have_parsers : List Rule → Bool
have_parsers [] = true
have_parsers (r ∷ rs) = is_some r.parser && have_parsers rs

-- a command as `clap` is known to read it
record IsRead (app : App) : Type 0 where
  is_free : is_simple_and_free app ≡ true
  is_simple : is_simple app ≡ true
  is_plain : app.top.is_plain ≡ true
  have : have_parsers app.top.rules ≡ true
  simple : list_all (λ (r : Rule). r.is_simple) app.top.rules ≡ true

run_is_read : IsRead run_command
run_is_read = record { is_free = refl; is_simple = refl; is_plain = refl; have = refl; simple = refl }

load_is_read : IsRead load_command
load_is_read = record { is_free = refl; is_simple = refl; is_plain = refl; have = refl; simple = refl }

check_is_read : IsRead check_command
check_is_read = record { is_free = refl; is_simple = refl; is_plain = refl; have = refl; simple = refl }

seq_is_read : IsRead seq_command
seq_is_read = record { is_free = refl; is_simple = refl; is_plain = refl; have = refl; simple = refl }

cover_is_read : IsRead cover_command
cover_is_read = record { is_free = refl; is_simple = refl; is_plain = refl; have = refl; simple = refl }

both : (a b : Bool) → (a && b) ≡ true → (a ≡ true) × (b ≡ true)
both true true e = (refl, refl)
both true false e = cc
both false b e = cc

same_parser : (a b : Arg) → SameRules a b → is_some a.value_parser ≡ true → parser_of b ≡ parser_of a
same_parser a b same has = go a.value_parser refl has
  where
    go : (o : Option ValueParser) → a.value_parser ≡ o → is_some o ≡ true → parser_of b ≡ parser_of a
    go None e h = cc
    go (Some p) e h = ap parser_of_value (same.parser p e ∙ sym e)

-- an argument that building made of one of the caller's
finds_built : (P : ValueParser → Type 0) (name : Text) (args : List Arg) (i : ℕ) (d b : Arg) → i < length args → SameRules (slice_index_or args i d) b
    → have_parsers (map rule_of args) ≡ true → bytes_eq b.id.now name ≡ true → P (parser_of b) → Finds P name (map rule_of args)
finds_built P name [] i d b less same have is p = absurd (omega arith)
finds_built P name (a ∷ args) zero d b less same have is p =
    let has : is_some a.value_parser ≡ true = (both (is_some a.value_parser) (have_parsers (map rule_of args)) have).0 in
    let id : b.id.now ≡ a.id.now = ap (λ x. x.now) same.id in
    inl (subst (λ t. bytes_eq t name ≡ true) id is, subst P (same_parser a b same has) p)
finds_built P name (a ∷ args) (suc i) d b less same have is p =
    inr (finds_built P name args i d b (omega arith) same (both (is_some a.value_parser) (have_parsers (map rule_of args)) have).1 is p)

-- any argument of the built command with this name
finds : (P : ValueParser → Type 0) (name : Text) (c : Command) (m : ArgMatches) (parsed : IsParsedFrom c m) → have_parsers (map rule_of (args_of c)) ≡ true
    → (name ≡ codes "help" → ⊥) → (name ≡ codes "version" → ⊥)
    → Any (λ a. (bytes_eq a.id.now name ≡ true) × P (parser_of a)) (args_of parsed.built) → Finds P name (map rule_of (args_of c))
finds P name c m parsed have no_help no_version any = go (cases_lt any.0 (length (args_of c)))
  where
    go : (any.0 < length (args_of c)) ⊎ (length (args_of c) ≤ any.0) → Finds P name (map rule_of (args_of c))
    go (inl l) =
        let same : SameRules (slice_index_or (args_of c) any.0 any.1) any.1 = subst (λ (w : Arg). SameRules (slice_index_or (args_of c) any.0 any.1) w) any.3 (parsed.from.kept any.0 any.1 l).1 in
        finds_built P name (args_of c) any.0 any.1 any.1 l same have any.4.0 any.4.1
    go (inr l) =
        let own : IsAuto any.1 = subst IsAuto any.3 (parsed.from.extra any.0 any.1 l any.2) in
        let id : any.1.id.now ≡ name = (bytes_eq-Decides any.1.id.now name).0 any.4.0 in
        elim own [
          | inl e ↦ absurd (no_help (sym id ∙ e))
          | inr e ↦ absurd (no_version (sym id ∙ e))
        ]

empty_list : {X : Type 0} (xs : List X) → is_empty xs ≡ true → xs ≡ []
empty_list xs e = nil_from_length xs (exact_unsigned_eq (length xs) 0 e)

abbrev rest_of : Arg → Bool
rest_of a = not (is_some a.val_delim) && (not (is_some a.terminator) && (not a.allow_hyphen_values && (not a.allow_negative_numbers && (not a.require_equals && (not a.last && not a.global)))))

no_group : (a : Arg) → is_simple_arg a ≡ true → a.groups.items ≡ []
no_group a e =
    empty_list a.groups.items (both (is_empty a.groups.items) (rest_of a) (both (is_empty a.default_vals_ifs.items) (is_empty a.groups.items && rest_of a) (both (is_empty a.overrides.items) (is_empty a.default_vals_ifs.items && (is_empty a.groups.items && rest_of a)) e).1).1).0

no_groups : (args : List Arg) → list_all (λ (r : Rule). r.is_simple) (map rule_of args) ≡ true → All (λ (a : Arg). a.groups.items ≡ []) args
no_groups [] e = λ k d less. absurd (omega arith)
no_groups (a ∷ args) e =
    let parts = both (is_simple_arg a) (list_all (λ (r : Rule). r.is_simple) (map rule_of args)) e in
    push a args (no_group a parts.0) (no_groups args parts.1)
  where
    push : (a : Arg) (args : List Arg) → a.groups.items ≡ [] → All (λ (x : Arg). x.groups.items ≡ []) args → All (λ (x : Arg). x.groups.items ≡ []) (a ∷ args)
    push a args first rest zero d less = first
    push a args first rest (suc k) d less = rest k d (omega arith)

-- the first value of an entry
first_of_entry : (how : Reading) (P : Text → Type 0) (vs : List (Bor Text)) (text : Text) → All (λ v. P v.now) vs
    → option_map (λ s. read_as how s.now) (slice_get vs 0) ≡ Some text → (value : Text) × (text ≡ read_as how value) × P value
first_of_entry how P [] text all e = absurd (none-some text e)
first_of_entry how P (v ∷ vs) text all e = (v.now, sym (ap (λ (o : Option Text). unwrap_or o text) e), All-get_or (λ w. P w.now) (v ∷ vs) 0 v (omega arith) all)

-- A text that was taken for a name: a value that passed a parser of that name, read as one of that name reads it.
record Took (rules : List Rule) (name text : Text) : Type 0 where
  value : Text
  how : Reading
  read : text ≡ read_as how value
  passed : Finds (λ q. (i : Bool) × Accepts i q value) name rules
  reads : Finds (λ q. reading_of q ≡ how) name rules

abbrev later : Command → Bool
later c = not (out-Command c).infer_long_args && (not (out-Command c).allow_missing_positional
    && (not (out-Command c).infer_subcommands && (not (out-Command c).args_conflicts_with_subcommands
    && (not (out-Command c).subcommand_precedence_over_arg
    && (not (is_some (out-Command c).long_flag)
    && (not (is_some (out-Command c).short_flag) && (is_empty (out-Command c).long_flag_aliases.items
    && is_empty (out-Command c).short_flag_aliases.items)))))))

abbrev others : Command → Bool
others c = not (out-Command c).allow_external_subcommands && (not (out-Command c).has_globals && later c)

unset : (b : Bool) → not b ≡ true → b ≡ false
unset true e = absurd (false≢true e)
unset false e = refl

has_no_groups : (c : Command) → has_plain_fields (out-Command c) ≡ true → groups_of c ≡ []
has_no_groups c e = empty_list (groups_of c) (both (is_empty (groups_of c)) (others c) e).0

has_no_globals : (c : Command) → has_plain_fields (out-Command c) ≡ true → (out-Command c).has_globals ≡ false
has_no_globals c e =
    let parts = (both (is_empty (groups_of c)) (others c) e).1 in
    let more = (both (not (out-Command c).allow_external_subcommands) (not (out-Command c).has_globals && later c) parts).1 in
    unset (out-Command c).has_globals (both (not (out-Command c).has_globals) (later c) more).0

-- what one entry of a name holds
took_of : (c : Command) (m : ArgMatches) (p : IsParsedFrom c m) → have_parsers (map rule_of (args_of c)) ≡ true → ValuesPass p.built (found_of m) → groups_of p.built ≡ []
    → (name text : Text) → (name ≡ [] → ⊥) → (name ≡ codes "help" → ⊥) → (name ≡ codes "version" → ⊥)
    → (o : Option MatchedArg) → matched_of (found_of m) name ≡ o → one_text (found_of m) name ≡ Some text → Took (map rule_of (args_of c)) name text
took_of c m p have values groups name text named no_help no_version None e told =
    let bad : None ≡ Some text = subst (λ (o : Option MatchedArg). option_and_then (λ (a : MatchedArg). option_map (λ s. read_as a.reading s.now) (slice_get a.vals.items 0)) o ≡ Some text) e told in
    absurd (none-some text bad)
took_of c m p have values groups name text named no_help no_version (Some x) e told =
    let first : option_map (λ s. read_as x.reading s.now) (slice_get x.vals.items 0) ≡ Some text = subst (λ (o : Option MatchedArg). option_and_then (λ (a : MatchedArg). option_map (λ s. read_as a.reading s.now) (slice_get a.vals.items 0)) o ≡ Some text) e told in
    let got = entry_by_id (EntryPasses p.built) (found_of m).entries.items name x values e in
    let key_is : got.0.0.now ≡ name = (bytes_eq-Decides got.0.0.now name).0 got.2 in
    let no_group : got.0.1.is_group ≡ true → ⊥ = λ g. elim (got.3.3 g) [
      | inl empty ↦ named (sym key_is ∙ empty)
      | inr lots ↦
          let bad : 0 < 0 = subst (λ (gs : List ArgGroup). 0 < length gs) groups lots in
          absurd (omega arith)
    ] in
    let all : All (λ v. PassesArg p.built name v.now) x.vals.items = elim got.3.0 [
      | inl g ↦ absurd (no_group g)
      | inr vals ↦ subst (λ (y : MatchedArg). All (λ v. PassesArg p.built name v.now) y.vals.items) got.1
          (subst (λ (w : Text). All (λ v. PassesArg p.built w v.now) got.0.1.vals.items) key_is vals)
    ] in
    let how : HasReading p.built name x.reading = elim got.3.4 [
      | inl g ↦ absurd (no_group g)
      | inr h ↦ subst (λ (y : MatchedArg). HasReading p.built name y.reading) got.1 (subst (λ (w : Text). HasReading p.built w got.0.1.reading) key_is h)
    ] in
    let one = first_of_entry x.reading (λ v. PassesArg p.built name v) x.vals.items text all first in
    record {
      value = one.0;
      how = x.reading;
      read = one.1;
      passed = finds (λ q. (i : Bool) × Accepts i q one.0) name c m p have no_help no_version (one.2.0, one.2.1, one.2.2, one.2.3, (one.2.4.0, (one.2.1.ignore_case, one.2.4.1)));
      reads = finds (λ q. reading_of q ≡ x.reading) name c m p have no_help no_version how;
    }

-- what a parse of the command has taken for a name that is none of building's own
took : (app : App) (c : Command) (m : ArgMatches) (p : IsParsedFrom c m) → IsRead app → app_of c ≡ app → (name text : Text)
    → (name ≡ [] → ⊥) → (name ≡ codes "help" → ⊥) → (name ≡ codes "version" → ⊥) → one_text (found_of m) name ≡ Some text
    → Took (map rule_of (args_of c)) name text
took app c m p read is name text named no_help no_version told =
    let plain : has_plain_fields (out-Command c) ≡ true = ap (λ (a : App). a.top.is_plain) is ∙ read.is_plain in
    let rules : map rule_of (args_of c) ≡ app.top.rules = ap (λ (a : App). a.top.rules) is in
    let have : have_parsers (map rule_of (args_of c)) ≡ true = subst (λ (rs : List Rule). have_parsers rs ≡ true) (sym rules) read.have in
    let simple : list_all (λ (r : Rule). r.is_simple) (map rule_of (args_of c)) ≡ true = subst (λ (rs : List Rule). list_all (λ (r : Rule). r.is_simple) rs ≡ true) (sym rules) read.simple in
    let globals : (out-Command c).has_globals ≡ false = has_no_globals c plain in
    let groups : groups_of p.built ≡ [] = (p.from.same_groups (no_groups (args_of c) simple)).1 ∙ has_no_groups c plain in
    took_of c m p have (p.parsed (p.from.globals ∙ globals)).values groups name text named no_help no_version (matched_of (found_of m) name) refl told

-- ---- the parser of each name

at_seed : (P : ValueParser → Type 0) (rest : List Rule) → (Finds P (codes "seed") rest → ⊥) → Finds P (codes "seed") (with_rest rest) → P (Unsigned 0 18446744073709551615)
at_seed P rest none (inl (e, h)) = h
at_seed P rest none (inr (inl (e, h))) = absurd (false≢true e)
at_seed P rest none (inr (inr (inl (e, h)))) = absurd (false≢true e)
at_seed P rest none (inr (inr (inr (inl (e, h))))) = absurd (false≢true e)
at_seed P rest none (inr (inr (inr (inr later)))) = absurd (none later)

at_budget : (P : ValueParser → Type 0) (rest : List Rule) → (Finds P (codes "budget") rest → ⊥) → Finds P (codes "budget") (with_rest rest) → P (Unsigned 1 16777216)
at_budget P rest none (inl (e, h)) = absurd (false≢true e)
at_budget P rest none (inr (inl (e, h))) = h
at_budget P rest none (inr (inr (inl (e, h)))) = absurd (false≢true e)
at_budget P rest none (inr (inr (inr (inl (e, h))))) = absurd (false≢true e)
at_budget P rest none (inr (inr (inr (inr later)))) = absurd (none later)

at_size_cap : (P : ValueParser → Type 0) (rest : List Rule) → (Finds P (codes "size-cap") rest → ⊥) → Finds P (codes "size-cap") (with_rest rest) → P (Unsigned 1 2048)
at_size_cap P rest none (inl (e, h)) = absurd (false≢true e)
at_size_cap P rest none (inr (inl (e, h))) = absurd (false≢true e)
at_size_cap P rest none (inr (inr (inl (e, h)))) = h
at_size_cap P rest none (inr (inr (inr (inl (e, h))))) = absurd (false≢true e)
at_size_cap P rest none (inr (inr (inr (inr later)))) = absurd (none later)

at_proofs : (P : ValueParser → Type 0) (rest : List Rule) → (Finds P (codes "proofs") rest → ⊥) → Finds P (codes "proofs") (with_rest rest) → P Truth
at_proofs P rest none (inl (e, h)) = absurd (false≢true e)
at_proofs P rest none (inr (inl (e, h))) = absurd (false≢true e)
at_proofs P rest none (inr (inr (inl (e, h)))) = absurd (false≢true e)
at_proofs P rest none (inr (inr (inr (inl (e, h))))) = h
at_proofs P rest none (inr (inr (inr (inr later)))) = absurd (none later)

at_conflicts : (P : ValueParser → Type 0) → Finds P (codes "conflicts") (with_rest run_flags) → P Truth
at_conflicts P (inl (e, h)) = absurd (false≢true e)
at_conflicts P (inr (inl (e, h))) = absurd (false≢true e)
at_conflicts P (inr (inr (inl (e, h)))) = absurd (false≢true e)
at_conflicts P (inr (inr (inr (inl (e, h))))) = absurd (false≢true e)
at_conflicts P (inr (inr (inr (inr (inl (e, h)))))) = h
at_conflicts P (inr (inr (inr (inr (inr (inl (e, h))))))) = absurd (false≢true e)
at_conflicts P (inr (inr (inr (inr (inr (inr none)))))) = absurd none

at_lrat : (P : ValueParser → Type 0) → Finds P (codes "lrat") (with_rest run_flags) → P Truth
at_lrat P (inl (e, h)) = absurd (false≢true e)
at_lrat P (inr (inl (e, h))) = absurd (false≢true e)
at_lrat P (inr (inr (inl (e, h)))) = absurd (false≢true e)
at_lrat P (inr (inr (inr (inl (e, h))))) = absurd (false≢true e)
at_lrat P (inr (inr (inr (inr (inl (e, h)))))) = absurd (false≢true e)
at_lrat P (inr (inr (inr (inr (inr (inl (e, h))))))) = h
at_lrat P (inr (inr (inr (inr (inr (inr none)))))) = absurd none

-- the flags of a run are none of the options
no_flag : (P : ValueParser → Type 0) (name : Text) → bytes_eq (codes "conflicts") name ≡ false → bytes_eq (codes "lrat") name ≡ false → Finds P name run_flags → ⊥
no_flag P name first second (inl (e, h)) = absurd (false≢true (sym first ∙ e))
no_flag P name first second (inr (inl (e, h))) = absurd (false≢true (sym second ∙ e))
no_flag P name first second (inr (inr none)) = none

at_count : (P : ValueParser → Type 0) → Finds P (codes "N") (with_rest (class_count ∷ [])) → P (Unsigned 1 2000)
at_count P (inl (e, h)) = absurd (false≢true e)
at_count P (inr (inl (e, h))) = absurd (false≢true e)
at_count P (inr (inr (inl (e, h)))) = absurd (false≢true e)
at_count P (inr (inr (inr (inl (e, h))))) = absurd (false≢true e)
at_count P (inr (inr (inr (inr (inl (e, h)))))) = h
at_count P (inr (inr (inr (inr (inr none))))) = absurd none

-- the count is none of the options
not_count : (P : ValueParser → Type 0) (name : Text) → bytes_eq (codes "N") name ≡ false → Finds P name (class_count ∷ []) → ⊥
not_count P name other (inl (e, h)) = absurd (false≢true (sym other ∙ e))
not_count P name other (inr none) = none

number_of : (low high : ℕ) (text value : Text) (how : Reading) → text ≡ read_as how value → ((i : Bool) × Accepts i (Unsigned low high) value) → AsWritten ≡ how → IsUnsignedIn low high text
number_of low high text value how read passed is = subst (IsUnsignedIn low high) (sym (read ∙ ap (λ (h : Reading). read_as h value) (sym is))) passed.1

truth_of : (text value : Text) (how : Reading) → text ≡ read_as how value → ((i : Bool) × Accepts i Truth value) → AsWritten ≡ how → (bytes_eq text (codes "true") || bytes_eq text (codes "false")) ≡ true
truth_of text value how read passed is = subst (λ (t : Text). (bytes_eq t (codes "true") || bytes_eq t (codes "false")) ≡ true) (sym (read ∙ ap (λ (h : Reading). read_as h value) (sym is))) passed.1

differ : (xs ys : Text) (x y : ℕ) → get_or xs 0 0 ≡ x → get_or ys 0 0 ≡ y → (x < y) ⊎ (y < x) → xs ≡ ys → ⊥
differ xs ys x y first second (inl less) e = let same : x ≡ y = sym first ∙ ap (λ (t : Text). get_or t 0 0) e ∙ second in absurd (omega arith)
differ xs ys x y first second (inr less) e = let same : x ≡ y = sym first ∙ ap (λ (t : Text). get_or t 0 0) e ∙ second in absurd (omega arith)

-- no rule of these has the name of an option
record NamesNoOption (rest : List Rule) : Type 1 where
  seed : (P : ValueParser → Type 0) → Finds P (codes "seed") rest → ⊥
  budget : (P : ValueParser → Type 0) → Finds P (codes "budget") rest → ⊥
  size_cap : (P : ValueParser → Type 0) → Finds P (codes "size-cap") rest → ⊥
  proofs : (P : ValueParser → Type 0) → Finds P (codes "proofs") rest → ⊥

options_are_taken : (app : App) (rest : List Rule) (c : Command) (m : ArgMatches) → IsRead app → app.top.rules ≡ with_rest rest → NamesNoOption rest
    → app_of c ≡ app → IsParsedFrom c m → AreTaken (found_of m)
options_are_taken app rest c m reads rules other is p = record {
  seed = λ text told.
      let t = with_rules (codes "seed") text (took app c m p reads is (codes "seed") text (differ (codes "seed") [] 115 0 refl refl (inr (omega arith))) (differ (codes "seed") (codes "help") 115 104 refl refl (inr (omega arith))) (differ (codes "seed") (codes "version") 115 118 refl refl (inl (omega arith))) told) in
      number_of 0 18446744073709551615 text t.value t.how t.read (at_seed (λ q. (i : Bool) × Accepts i q t.value) rest (other.seed (λ q. (i : Bool) × Accepts i q t.value)) t.passed) (at_seed (λ q. reading_of q ≡ t.how) rest (other.seed (λ q. reading_of q ≡ t.how)) t.reads);
  budget = λ text told.
      let t = with_rules (codes "budget") text (took app c m p reads is (codes "budget") text (differ (codes "budget") [] 98 0 refl refl (inr (omega arith))) (differ (codes "budget") (codes "help") 98 104 refl refl (inl (omega arith))) (differ (codes "budget") (codes "version") 98 118 refl refl (inl (omega arith))) told) in
      number_of 1 16777216 text t.value t.how t.read (at_budget (λ q. (i : Bool) × Accepts i q t.value) rest (other.budget (λ q. (i : Bool) × Accepts i q t.value)) t.passed) (at_budget (λ q. reading_of q ≡ t.how) rest (other.budget (λ q. reading_of q ≡ t.how)) t.reads);
  size_cap = λ text told.
      let t = with_rules (codes "size-cap") text (took app c m p reads is (codes "size-cap") text (differ (codes "size-cap") [] 115 0 refl refl (inr (omega arith)))
      (differ (codes "size-cap") (codes "help") 115 104 refl refl (inr (omega arith))) (differ (codes "size-cap") (codes "version") 115 118 refl refl (inl (omega arith))) told) in
      number_of 1 2048 text t.value t.how t.read (at_size_cap (λ q. (i : Bool) × Accepts i q t.value) rest (other.size_cap (λ q. (i : Bool) × Accepts i q t.value)) t.passed) (at_size_cap (λ q. reading_of q ≡ t.how) rest (other.size_cap (λ q. reading_of q ≡ t.how)) t.reads);
  proofs = λ text told.
      let t = with_rules (codes "proofs") text (took app c m p reads is (codes "proofs") text (differ (codes "proofs") [] 112 0 refl refl (inr (omega arith))) (differ (codes "proofs") (codes "help") 112 104 refl refl (inr (omega arith))) (differ (codes "proofs") (codes "version") 112 118 refl refl (inl (omega arith))) told) in
      truth_of text t.value t.how t.read (at_proofs (λ q. (i : Bool) × Accepts i q t.value) rest (other.proofs (λ q. (i : Bool) × Accepts i q t.value)) t.passed) (at_proofs (λ q. reading_of q ≡ t.how) rest (other.proofs (λ q. reading_of q ≡ t.how)) t.reads);
}
  where
    with_rules : (name text : Text) → Took (map rule_of (args_of c)) name text → Took (with_rest rest) name text
    with_rules name text t = subst (λ (rs : List Rule). Took rs name text) (ap (λ (a : App). a.top.rules) is ∙ rules) t

pub run_is_taken : (c : Command) (m : ArgMatches) → app_of c ≡ run_command → IsParsedFrom c m → RunIsTaken (found_of m)
run_is_taken c m is p = record {
  options = options_are_taken run_command run_flags c m run_is_read refl
      (record { seed = λ P. no_flag P (codes "seed") refl refl; budget = λ P. no_flag P (codes "budget") refl refl; size_cap = λ P. no_flag P (codes "size-cap") refl refl; proofs = λ P. no_flag P (codes "proofs") refl refl }) is p;
  conflicts = λ text told.
      let t = with_rules (codes "conflicts") text (took run_command c m p run_is_read is (codes "conflicts") text (differ (codes "conflicts") [] 99 0 refl refl (inr (omega arith))) (differ (codes "conflicts") (codes "help") 99 104 refl refl (inl (omega arith))) (differ (codes "conflicts") (codes "version") 99 118 refl refl (inl (omega arith))) told) in
      truth_of text t.value t.how t.read (at_conflicts (λ q. (i : Bool) × Accepts i q t.value) t.passed) (at_conflicts (λ q. reading_of q ≡ t.how) t.reads);
  lrat = λ text told.
      let t = with_rules (codes "lrat") text (took run_command c m p run_is_read is (codes "lrat") text (differ (codes "lrat") [] 108 0 refl refl (inr (omega arith))) (differ (codes "lrat") (codes "help") 108 104 refl refl (inr (omega arith))) (differ (codes "lrat") (codes "version") 108 118 refl refl (inl (omega arith))) told) in
      truth_of text t.value t.how t.read (at_lrat (λ q. (i : Bool) × Accepts i q t.value) t.passed) (at_lrat (λ q. reading_of q ≡ t.how) t.reads);
}
  where
    with_rules : (name text : Text) → Took (map rule_of (args_of c)) name text → Took (with_rest run_flags) name text
    with_rules name text t = subst (λ (rs : List Rule). Took rs name text) (ap (λ (a : App). a.top.rules) is) t

pub load_is_taken : (c : Command) (m : ArgMatches) → app_of c ≡ load_command → IsParsedFrom c m → LoadIsTaken (found_of m)
load_is_taken c m is p = record {
  count = λ text told.
      let t = with_rules text (took load_command c m p load_is_read is (codes "N") text (differ (codes "N") [] 78 0 refl refl (inr (omega arith))) (differ (codes "N") (codes "help") 78 104 refl refl (inl (omega arith))) (differ (codes "N") (codes "version") 78 118 refl refl (inl (omega arith))) told) in
      number_of 1 2000 text t.value t.how t.read (at_count (λ q. (i : Bool) × Accepts i q t.value) t.passed) (at_count (λ q. reading_of q ≡ t.how) t.reads);
  options = options_are_taken load_command (class_count ∷ []) c m load_is_read refl
      (record { seed = λ P. not_count P (codes "seed") refl; budget = λ P. not_count P (codes "budget") refl; size_cap = λ P. not_count P (codes "size-cap") refl; proofs = λ P. not_count P (codes "proofs") refl }) is p;
}
  where
    with_rules : (text : Text) → Took (map rule_of (args_of c)) (codes "N") text → Took (with_rest (class_count ∷ [])) (codes "N") text
    with_rules text t = subst (λ (rs : List Rule). Took rs (codes "N") text) (ap (λ (a : App). a.top.rules) is) t

pub cover_is_taken : (c : Command) (m : ArgMatches) → app_of c ≡ cover_command → IsParsedFrom c m → AreTaken (found_of m)
cover_is_taken c m is p =
    options_are_taken cover_command [] c m cover_is_read refl (record { seed = λ P none. none; budget = λ P none. none; size_cap = λ P none. none; proofs = λ P none. none }) is p

-- the options of lines
abbrev seq_rules : List Rule
seq_rules = option (codes "seed") (Unsigned 0 18446744073709551615) ∷ option (codes "count") (Unsigned 1 100000) ∷ []

seed_of_seq : (P : ValueParser → Type 0) → Finds P (codes "seed") seq_rules → P (Unsigned 0 18446744073709551615)
seed_of_seq P (inl (e, h)) = h
seed_of_seq P (inr (inl (e, h))) = absurd (false≢true e)
seed_of_seq P (inr (inr none)) = absurd none

count_of_seq : (P : ValueParser → Type 0) → Finds P (codes "count") seq_rules → P (Unsigned 1 100000)
count_of_seq P (inl (e, h)) = absurd (false≢true e)
count_of_seq P (inr (inl (e, h))) = h
count_of_seq P (inr (inr none)) = absurd none

pub seq_is_taken : (c : Command) (m : ArgMatches) → app_of c ≡ seq_command → IsParsedFrom c m → SeqIsTaken (found_of m)
seq_is_taken c m is p = record {
  seed = λ text told.
      let t = with_rules (codes "seed") text (took seq_command c m p seq_is_read is (codes "seed") text (differ (codes "seed") [] 115 0 refl refl (inr (omega arith))) (differ (codes "seed") (codes "help") 115 104 refl refl (inr (omega arith))) (differ (codes "seed") (codes "version") 115 118 refl refl (inl (omega arith))) told) in
      number_of 0 18446744073709551615 text t.value t.how t.read (seed_of_seq (λ q. (i : Bool) × Accepts i q t.value) t.passed) (seed_of_seq (λ q. reading_of q ≡ t.how) t.reads);
  count = λ text told.
      let t = with_rules (codes "count") text (took seq_command c m p seq_is_read is (codes "count") text (differ (codes "count") [] 99 0 refl refl (inr (omega arith))) (differ (codes "count") (codes "help") 99 104 refl refl (inl (omega arith))) (differ (codes "count") (codes "version") 99 118 refl refl (inl (omega arith))) told) in
      number_of 1 100000 text t.value t.how t.read (count_of_seq (λ q. (i : Bool) × Accepts i q t.value) t.passed) (count_of_seq (λ q. reading_of q ≡ t.how) t.reads);
}
  where
    with_rules : (name text : Text) → Took (map rule_of (args_of c)) name text → Took seq_rules name text
    with_rules name text t = subst (λ (rs : List Rule). Took rs name text) (ap (λ (a : App). a.top.rules) is) t

-- ---- how it is read

pub number_read : {E : Type 0} (G : List ℕ → Result ℕ E → Type 0) (f : Found) (name : Text) (r : Option ℕ) (default low high : ℕ)
    → (one_text f name ≡ None → r ≡ None) → ((t : Text) → one_text f name ≡ Some t → ReadsOne G t r)
    → ((u : List ℕ) (x : Result ℕ E) → G u x → ParsesUnsigned 64 10 u x) → IsNumber f name low high
    → unwrap_or r default ≡ number_or default (one_of name (rows_of f))
number_read {E} G f name r default low high none value parses number =
    subst (λ (o : Option Text). unwrap_or r default ≡ number_or default o) (one_text-rows f name) (go (one_text f name) refl)
  where
    read : (t : Text) (o : Option ℕ) → ReadsOne G t o → IsUnsignedIn low high t → unwrap_or o default ≡ digits_value 10 (without_leading_plus t)
    read t (Some v) g n = (parses t (Ok v) g).1
    read t None g n = absurd (parses t (Err g.0) g.1 (n.0, n.1))

    go : (o : Option Text) → one_text f name ≡ o → unwrap_or r default ≡ number_or default o
    go None e = ap (λ (x : Option ℕ). unwrap_or x default) (none e)
    go (Some t) e = read t r (value t e) (number t e)

pub flag_read : (f : Found) (name : Text) (r : Bool) → (one_text f name ≡ None → r ≡ false)
    → (one_text f name ≡ Some (codes "true") → r ≡ true) → (one_text f name ≡ Some (codes "false") → r ≡ false)
    → IsTruth f name → r ≡ is_set (one_of name (rows_of f))
flag_read f name r none set unset truth = subst (λ (o : Option Text). r ≡ is_set o) (one_text-rows f name) (go (one_text f name) refl)
  where
    told : (t : Text) (a b : Bool) → bytes_eq t (codes "true") ≡ a → bytes_eq t (codes "false") ≡ b → (a || b) ≡ true → one_text f name ≡ Some t → r ≡ a
    told t true b ea eb h e = set (e ∙ ap (λ (x : Text). Some x) ((bytes_eq-Decides t (codes "true")).0 ea))
    told t false true ea eb h e = unset (e ∙ ap (λ (x : Text). Some x) ((bytes_eq-Decides t (codes "false")).0 eb))
    told t false false ea eb h e = absurd (false≢true h)

    go : (o : Option Text) → one_text f name ≡ o → r ≡ is_set o
    go None e = none e
    go (Some t) e = told t (bytes_eq t (codes "true")) (bytes_eq t (codes "false")) refl refl (truth t e) e

pub in_range : (f : Found) (name : Text) (low high default : ℕ) → IsNumber f name low high → low ≤ default → default ≤ high
    → (low ≤ number_or default (one_of name (rows_of f))) × (number_or default (one_of name (rows_of f)) ≤ high)
in_range f name low high default number least most =
    subst (λ (o : Option Text). (low ≤ number_or default o) × (number_or default o ≤ high)) (one_text-rows f name) (go (one_text f name) refl)
  where
    go : (o : Option Text) → one_text f name ≡ o → (low ≤ number_or default o) × (number_or default o ≤ high)
    go None e = (least, most)
    go (Some t) e = ((number t e).2, (number t e).3)

pub at_most : (f : Found) (name : Text) (low high default : ℕ) → IsNumber f name low high → default ≤ high → number_or default (one_of name (rows_of f)) ≤ high
at_most f name low high default number most =
    subst (λ (o : Option Text). number_or default o ≤ high) (one_text-rows f name) (go (one_text f name) refl)
  where
    go : (o : Option Text) → one_text f name ≡ o → number_or default o ≤ high
    go None e = most
    go (Some t) e = (number t e).3

-- ---- the words

-- what a parse that succeeds says of the words
parsed_words : (app : App) (words : List Text) (c : Command) (m : ArgMatches) (r : Result ArgMatches Error) → IsRead app → app_of c ≡ app → r ≡ Ok m
    → (is_simple_and_free (app_of c) ≡ true → FailsBy (fault_of (app_of c) words) r) → IfOk r (HasMatchesOf (app_of c) words)
    → (fault_of app words ≡ []) × (rows_of (found_of m) ≡ matches_of app words)
parsed_words app words c m r read is ok kinds matches =
    let none : fault_of (app_of c) words ≡ [] = subst (λ (x : Result ArgMatches Error). FailsBy (fault_of (app_of c) words) x) ok (kinds (ap is_simple_and_free is ∙ read.is_free)) in
    let has : HasMatchesOf (app_of c) words m = subst (λ (x : Result ArgMatches Error). IfOk x (HasMatchesOf (app_of c) words)) ok matches in
    let rows : rows_of (found_of m) ≡ matches_of (app_of c) words = (has (ap is_simple is ∙ read.is_simple)).0 in
    (subst (λ (a : App). fault_of a words ≡ []) is none, rows ∙ ap (λ (a : App). matches_of a words) is)

-- and one that fails
failed_words : (app : App) (words : List Text) (c : Command) (e : Error) (r : Result ArgMatches Error) → IsRead app → app_of c ≡ app → r ≡ Err e
    → (is_simple_and_free (app_of c) ≡ true → FailsBy (fault_of (app_of c) words) r) → (kind_of e ≡ OutOfMemory → ⊥) → fault_of app words ≡ [] → ⊥
failed_words app words c e r read is err kinds other none =
    let has : HasKind (fault_of (app_of c) words) e = subst (λ (x : Result ArgMatches Error). FailsBy (fault_of (app_of c) words) x) err (kinds (ap is_simple_and_free is ∙ read.is_free)) in
    let at : HasKind [] e = subst (λ k. HasKind k e) (subst (λ (a : App). fault_of a words ≡ []) (sym is) none) has in
    elim at [
      | inl memory ↦ other memory
      | inr never ↦ absurd never
    ]

pub asked : (words : List Text) (c : Command) (m : ArgMatches) (r : Result ArgMatches Error) (run : Run)
    → slice_get words 0 ≡ Some (codes "run") → app_of c ≡ run_command → r ≡ Ok m
    → (is_simple_and_free (app_of c) ≡ true → FailsBy (fault_of (app_of c) words) r) → IfOk r (HasMatchesOf (app_of c) words)
    → run ≡ run_of (rows_of (found_of m)) → IsCommand words run
asked words c m r run first is ok kinds matches read =
    let h : (fault_of run_command words ≡ []) × (rows_of (found_of m) ≡ matches_of run_command words) = parsed_words run_command words c m r run_is_read is ok kinds matches in
    record { named = first; taken = h.0; options = read ∙ ap run_of h.1 }

pub not_asked : (words : List Text) (c : Command) (e : Error) (r : Result ArgMatches Error) → app_of c ≡ run_command → r ≡ Err e
    → (is_simple_and_free (app_of c) ≡ true → FailsBy (fault_of (app_of c) words) r) → (kind_of e ≡ OutOfMemory → ⊥)
    → (run : Run) → IsCommand words run → ⊥
not_asked words c e r is err kinds other run command = failed_words run_command words c e r run_is_read is err kinds other command.taken

pub load_asked : (words : List Text) (c : Command) (m : ArgMatches) (r : Result ArgMatches Error) (count : ℕ) (opts : Options)
    → slice_get words 0 ≡ Some (codes "load") → app_of c ≡ load_command → r ≡ Ok m
    → (is_simple_and_free (app_of c) ≡ true → FailsBy (fault_of (app_of c) words) r) → IfOk r (HasMatchesOf (app_of c) words)
    → count ≡ number_or 0 (one_of (codes "N") (rows_of (found_of m))) → opts ≡ options_of (rows_of (found_of m)) → IsLoad words count opts
load_asked words c m r count opts first is ok kinds matches counted read =
    let h : (fault_of load_command words ≡ []) × (rows_of (found_of m) ≡ matches_of load_command words) = parsed_words load_command words c m r load_is_read is ok kinds matches in
    record { named = first; taken = h.0; counted = counted ∙ ap (λ (rows : List Row). number_or 0 (one_of (codes "N") rows)) h.1; options = read ∙ ap options_of h.1 }

pub load_not_asked : (words : List Text) (c : Command) (e : Error) (r : Result ArgMatches Error) → app_of c ≡ load_command → r ≡ Err e
    → (is_simple_and_free (app_of c) ≡ true → FailsBy (fault_of (app_of c) words) r) → (kind_of e ≡ OutOfMemory → ⊥)
    → (count : ℕ) (opts : Options) → IsLoad words count opts → ⊥
load_not_asked words c e r is err kinds other count opts load = failed_words load_command words c e r load_is_read is err kinds other load.taken

pub check_asked : (words : List Text) (c : Command) (m : ArgMatches) (r : Result ArgMatches Error)
    → slice_get words 0 ≡ Some (codes "check") → app_of c ≡ check_command → r ≡ Ok m
    → (is_simple_and_free (app_of c) ≡ true → FailsBy (fault_of (app_of c) words) r) → IfOk r (HasMatchesOf (app_of c) words) → IsCheck words
check_asked words c m r first is ok kinds matches =
    let h : (fault_of check_command words ≡ []) × (rows_of (found_of m) ≡ matches_of check_command words) = parsed_words check_command words c m r check_is_read is ok kinds matches in
    record { named = first; taken = h.0 }

pub check_not_asked : (words : List Text) (c : Command) (e : Error) (r : Result ArgMatches Error) → app_of c ≡ check_command → r ≡ Err e
    → (is_simple_and_free (app_of c) ≡ true → FailsBy (fault_of (app_of c) words) r) → (kind_of e ≡ OutOfMemory → ⊥) → IsCheck words → ⊥
check_not_asked words c e r is err kinds other check = failed_words check_command words c e r check_is_read is err kinds other check.taken

pub seq_asked : (words : List Text) (c : Command) (m : ArgMatches) (r : Result ArgMatches Error) (seed count : ℕ)
    → slice_get words 0 ≡ Some (codes "seq") → app_of c ≡ seq_command → r ≡ Ok m
    → (is_simple_and_free (app_of c) ≡ true → FailsBy (fault_of (app_of c) words) r) → IfOk r (HasMatchesOf (app_of c) words)
    → seed ≡ number_or 0 (one_of (codes "seed") (rows_of (found_of m))) → count ≡ number_or 1 (one_of (codes "count") (rows_of (found_of m))) → IsSeq words seed count
seq_asked words c m r seed count first is ok kinds matches seeded counted =
    let h : (fault_of seq_command words ≡ []) × (rows_of (found_of m) ≡ matches_of seq_command words) = parsed_words seq_command words c m r seq_is_read is ok kinds matches in
    record {
      named = first;
      taken = h.0;
      seeded = seeded ∙ ap (λ (rows : List Row). number_or 0 (one_of (codes "seed") rows)) h.1;
      counted = counted ∙ ap (λ (rows : List Row). number_or 1 (one_of (codes "count") rows)) h.1;
    }

pub seq_not_asked : (words : List Text) (c : Command) (e : Error) (r : Result ArgMatches Error) → app_of c ≡ seq_command → r ≡ Err e
    → (is_simple_and_free (app_of c) ≡ true → FailsBy (fault_of (app_of c) words) r) → (kind_of e ≡ OutOfMemory → ⊥)
    → (seed count : ℕ) → IsSeq words seed count → ⊥
seq_not_asked words c e r is err kinds other seed count seq = failed_words seq_command words c e r seq_is_read is err kinds other seq.taken

pub cover_asked : (words : List Text) (c : Command) (m : ArgMatches) (r : Result ArgMatches Error) (opts : Options)
    → slice_get words 0 ≡ Some (codes "cover") → app_of c ≡ cover_command → r ≡ Ok m
    → (is_simple_and_free (app_of c) ≡ true → FailsBy (fault_of (app_of c) words) r) → IfOk r (HasMatchesOf (app_of c) words)
    → opts ≡ options_of (rows_of (found_of m)) → IsCover words opts
cover_asked words c m r opts first is ok kinds matches read =
    let h : (fault_of cover_command words ≡ []) × (rows_of (found_of m) ≡ matches_of cover_command words) = parsed_words cover_command words c m r cover_is_read is ok kinds matches in
    record { named = first; taken = h.0; options = read ∙ ap options_of h.1 }

pub cover_not_asked : (words : List Text) (c : Command) (e : Error) (r : Result ArgMatches Error) → app_of c ≡ cover_command → r ≡ Err e
    → (is_simple_and_free (app_of c) ≡ true → FailsBy (fault_of (app_of c) words) r) → (kind_of e ≡ OutOfMemory → ⊥)
    → (opts : Options) → IsCover words opts → ⊥
cover_not_asked words c e r is err kinds other opts cover = failed_words cover_command words c e r cover_is_read is err kinds other cover.taken

-- ---- the first word

-- no word names two commands
names_differ : (a b : Text) (o : Option Text) → (a ≡ b → ⊥) → o ≡ Some a → o ≡ Some b → ⊥
names_differ a b o other first second = other (ap (λ (x : Option Text). unwrap_or x a) (sym first ∙ second))

run_or_load : codes "run" ≡ codes "load" → ⊥
run_or_load e = differ (codes "run") (codes "load") 114 108 refl refl (inr (omega arith)) e

run_or_check : codes "run" ≡ codes "check" → ⊥
run_or_check e = differ (codes "run") (codes "check") 114 99 refl refl (inr (omega arith)) e

load_or_check : codes "load" ≡ codes "check" → ⊥
load_or_check e = differ (codes "load") (codes "check") 108 99 refl refl (inr (omega arith)) e

run_or_seq : codes "run" ≡ codes "seq" → ⊥
run_or_seq e = differ (codes "run") (codes "seq") 114 115 refl refl (inl (omega arith)) e

load_or_seq : codes "load" ≡ codes "seq" → ⊥
load_or_seq e = differ (codes "load") (codes "seq") 108 115 refl refl (inl (omega arith)) e

check_or_seq : codes "check" ≡ codes "seq" → ⊥
check_or_seq e = differ (codes "check") (codes "seq") 99 115 refl refl (inl (omega arith)) e

run_or_cover : codes "run" ≡ codes "cover" → ⊥
run_or_cover e = differ (codes "run") (codes "cover") 114 99 refl refl (inr (omega arith)) e

load_or_cover : codes "load" ≡ codes "cover" → ⊥
load_or_cover e = differ (codes "load") (codes "cover") 108 99 refl refl (inr (omega arith)) e

-- both begin with a `c`
check_or_cover : codes "check" ≡ codes "cover" → ⊥
check_or_cover e = differ (drop 1 (codes "check")) (drop 1 (codes "cover")) 104 111 refl refl (inl (omega arith)) (ap (λ (t : Text). drop 1 t) e)

seq_or_cover : codes "seq" ≡ codes "cover" → ⊥
seq_or_cover e = differ (codes "seq") (codes "cover") 115 99 refl refl (inr (omega arith)) e

pub run_is_no_load : (words : List Text) (a : Run) (count : ℕ) (b : Options) → IsCommand words a → IsLoad words count b → ⊥
run_is_no_load words a count b run load = names_differ (codes "run") (codes "load") (slice_get words 0) run_or_load run.named load.named

pub run_is_no_check : (words : List Text) (asked : Run) → IsCommand words asked → IsCheck words → ⊥
run_is_no_check words asked run check = names_differ (codes "run") (codes "check") (slice_get words 0) run_or_check run.named check.named

pub load_is_no_check : (words : List Text) (count : ℕ) (opts : Options) → IsLoad words count opts → IsCheck words → ⊥
load_is_no_check words count opts load check = names_differ (codes "load") (codes "check") (slice_get words 0) load_or_check load.named check.named

pub run_is_no_seq : (words : List Text) (asked : Run) (seed count : ℕ) → IsCommand words asked → IsSeq words seed count → ⊥
run_is_no_seq words asked seed count run seq = names_differ (codes "run") (codes "seq") (slice_get words 0) run_or_seq run.named seq.named

pub load_is_no_seq : (words : List Text) (n : ℕ) (opts : Options) (seed count : ℕ) → IsLoad words n opts → IsSeq words seed count → ⊥
load_is_no_seq words n opts seed count load seq = names_differ (codes "load") (codes "seq") (slice_get words 0) load_or_seq load.named seq.named

pub check_is_no_seq : (words : List Text) (seed count : ℕ) → IsCheck words → IsSeq words seed count → ⊥
check_is_no_seq words seed count check seq = names_differ (codes "check") (codes "seq") (slice_get words 0) check_or_seq check.named seq.named

pub run_is_no_cover : (words : List Text) (asked : Run) (opts : Options) → IsCommand words asked → IsCover words opts → ⊥
run_is_no_cover words asked opts run cover = names_differ (codes "run") (codes "cover") (slice_get words 0) run_or_cover run.named cover.named

pub load_is_no_cover : (words : List Text) (n : ℕ) (opts wanted : Options) → IsLoad words n opts → IsCover words wanted → ⊥
load_is_no_cover words n opts wanted load cover = names_differ (codes "load") (codes "cover") (slice_get words 0) load_or_cover load.named cover.named

pub check_is_no_cover : (words : List Text) (opts : Options) → IsCheck words → IsCover words opts → ⊥
check_is_no_cover words opts check cover = names_differ (codes "check") (codes "cover") (slice_get words 0) check_or_cover check.named cover.named

pub seq_is_no_cover : (words : List Text) (seed count : ℕ) (opts : Options) → IsSeq words seed count → IsCover words opts → ⊥
seq_is_no_cover words seed count opts seq cover = names_differ (codes "seq") (codes "cover") (slice_get words 0) seq_or_cover seq.named cover.named

pub nothing_for_run : (words : List Text) → slice_get words 0 ≡ Some (codes "run") → ((run : Run) → IsCommand words run → ⊥) → AskNothing words
nothing_for_run words first none = record {
  no_run = none;
  no_load = λ count opts load. names_differ (codes "run") (codes "load") (slice_get words 0) run_or_load first load.named;
  no_check = λ check. names_differ (codes "run") (codes "check") (slice_get words 0) run_or_check first check.named;
  no_seq = λ seed count seq. names_differ (codes "run") (codes "seq") (slice_get words 0) run_or_seq first seq.named;
  no_cover = λ opts cover. names_differ (codes "run") (codes "cover") (slice_get words 0) run_or_cover first cover.named;
}

pub nothing_for_load : (words : List Text) → slice_get words 0 ≡ Some (codes "load") → ((count : ℕ) (opts : Options) → IsLoad words count opts → ⊥) → AskNothing words
nothing_for_load words first none = record {
  no_run = λ asked run. names_differ (codes "run") (codes "load") (slice_get words 0) run_or_load run.named first;
  no_load = none;
  no_check = λ check. names_differ (codes "load") (codes "check") (slice_get words 0) load_or_check first check.named;
  no_seq = λ seed count seq. names_differ (codes "load") (codes "seq") (slice_get words 0) load_or_seq first seq.named;
  no_cover = λ opts cover. names_differ (codes "load") (codes "cover") (slice_get words 0) load_or_cover first cover.named;
}

pub nothing_for_check : (words : List Text) → slice_get words 0 ≡ Some (codes "check") → (IsCheck words → ⊥) → AskNothing words
nothing_for_check words first none = record {
  no_run = λ asked run. names_differ (codes "run") (codes "check") (slice_get words 0) run_or_check run.named first;
  no_load = λ count opts load. names_differ (codes "load") (codes "check") (slice_get words 0) load_or_check load.named first;
  no_check = none;
  no_seq = λ seed count seq. names_differ (codes "check") (codes "seq") (slice_get words 0) check_or_seq first seq.named;
  no_cover = λ opts cover. names_differ (codes "check") (codes "cover") (slice_get words 0) check_or_cover first cover.named;
}

pub nothing_for_seq : (words : List Text) → slice_get words 0 ≡ Some (codes "seq") → ((seed count : ℕ) → IsSeq words seed count → ⊥) → AskNothing words
nothing_for_seq words first none = record {
  no_run = λ asked run. names_differ (codes "run") (codes "seq") (slice_get words 0) run_or_seq run.named first;
  no_load = λ count opts load. names_differ (codes "load") (codes "seq") (slice_get words 0) load_or_seq load.named first;
  no_check = λ check. names_differ (codes "check") (codes "seq") (slice_get words 0) check_or_seq check.named first;
  no_seq = none;
  no_cover = λ opts cover. names_differ (codes "seq") (codes "cover") (slice_get words 0) seq_or_cover first cover.named;
}

pub nothing_for_cover : (words : List Text) → slice_get words 0 ≡ Some (codes "cover") → ((opts : Options) → IsCover words opts → ⊥) → AskNothing words
nothing_for_cover words first none = record {
  no_run = λ asked run. names_differ (codes "run") (codes "cover") (slice_get words 0) run_or_cover run.named first;
  no_load = λ count opts load. names_differ (codes "load") (codes "cover") (slice_get words 0) load_or_cover load.named first;
  no_check = λ check. names_differ (codes "check") (codes "cover") (slice_get words 0) check_or_cover check.named first;
  no_seq = λ seed count seq. names_differ (codes "seq") (codes "cover") (slice_get words 0) seq_or_cover seq.named first;
  no_cover = none;
}

pub nothing_for_other : (words : List Text) → (slice_get words 0 ≡ Some (codes "run") → ⊥) → (slice_get words 0 ≡ Some (codes "load") → ⊥) → (slice_get words 0 ≡ Some (codes "check") → ⊥) → (slice_get words 0 ≡ Some (codes "seq") → ⊥) → (slice_get words 0 ≡ Some (codes "cover") → ⊥) → AskNothing words
nothing_for_other words no_run no_load no_check no_seq no_cover = record {
  no_run = λ asked run. no_run run.named;
  no_load = λ count opts load. no_load load.named;
  no_check = λ check. no_check check.named;
  no_seq = λ seed count seq. no_seq seq.named;
  no_cover = λ opts cover. no_cover cover.named;
}

pub head_is : {A B : Type 0} (f : A → B) (xs : List A) (x : A) → 1 ≤ length xs → x ≡ get_or xs 0 x → slice_get (map f xs) 0 ≡ Some (f x)
head_is f [] x less is = absurd (omega arith)
head_is f (a ∷ args) x less is = ap (λ y. Some (f y)) (sym is)

pub no_head : {A B : Type 0} (f : A → B) (xs : List A) (y : B) → length xs < 1 → slice_get (map f xs) 0 ≡ Some y → ⊥
no_head f [] y less e = cc
no_head f (a ∷ args) y less e = absurd (omega arith)
