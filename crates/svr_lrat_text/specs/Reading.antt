-- The same as the reader goes along: where it stands in a file, and what may come there
use Rattle.std.specs.Prelude.{◌≡◌, ℕ, zero, suc, Bool, true, false, not, ◌&&◌, List, [], ◌∷◌, Option, None, Some, option_map, is_some, if◌then◌else◌}
use Rattle.svr_lrat_text.specs.declared.limits.TheConstants.{MOST_COUNT, MOST_ID}
use Rattle.svr_lrat_file.specs.declared.file.Number.{Number}
use Rattle.svr_lrat_text.specs.declared.word.Word.{Word}
use Rattle.svr_lrat_text.specs.declared.word.Word.TheVariants as w
use Rattle.svr_lrat_text.specs.declared.cursor.Token.{Token}
use Rattle.svr_lrat_text.specs.declared.fault.LratFault.{LratFault}
use Rattle.svr_lrat_text.specs.declared.fault.LratFault.TheVariants as e
use Rattle.svr_lrat_text.specs.Words.{words, is_problem, is_cnf, is_delete, is_end, number_in, is_zero}
use Rattle.svr_lrat_text.specs.File.{fits, is_entry}

-- where the reader stands
pub data Place : Type 0 where
  at_problem : Place
  at_cnf : Place
  at_vars : Place
  at_count : (vars : ℕ) → Place
  in_list : (most : ℕ) (signed : Bool) (next : Place) → Place
  at_line : (vars : ℕ) → Place
  at_second : (vars : ℕ) → Place
  at_end : Place

-- before so many clauses
abbrev pub at_clauses : ℕ → ℕ → Place
at_clauses vars zero = at_line vars
at_clauses vars (suc n) = in_list vars true (at_clauses vars n)

-- behind the identifier of a line that deletes
abbrev pub in_delete : ℕ → Place
in_delete vars = in_list MOST_ID false (at_line vars)

abbrev pub in_hints : ℕ → Place
in_hints vars = in_list MOST_ID true (at_line vars)

-- a number of variables or clauses
abbrev pub count_number : Bool → Number → Option ℕ
count_number limited n = if (not n.negative && fits limited n.size MOST_COUNT) then Some n.size else None

abbrev pub count_of : Bool → Word → Option ℕ
count_of limited word = elim (number_in word) [ None ↦ None | Some n ↦ count_number limited n ]

-- a number of a list, or the 0 behind it
abbrev pub entry_number : Bool → ℕ → Bool → Number → Option (Option Number)
entry_number limited most signed n = if is_zero n then Some None else if is_entry limited most signed n then Some (Some n) else None

abbrev pub entry_of : Bool → ℕ → Bool → Word → Option (Option Number)
entry_of limited most signed word = elim (number_in word) [ None ↦ None | Some n ↦ entry_number limited most signed n ]

-- an identifier
abbrev pub id_entry : Option (Option Number) → Option ℕ
id_entry None = None
id_entry (Some None) = None
id_entry (Some (Some n)) = Some n.size

abbrev pub id_of : Bool → Word → Option ℕ
id_of limited word = id_entry (entry_of limited MOST_ID false word)

abbrev pub behind_entry : ℕ → Bool → Place → Option Number → Place
behind_entry most signed next None = next
behind_entry most signed next (Some n) = in_list most signed next

abbrev pub entry_step : Bool → ℕ → Bool → Place → Word → Option Place
entry_step limited most signed next word = option_map (behind_entry most signed next) (entry_of limited most signed word)

-- where the reader stands behind one more word, if it may stand there
abbrev pub step : Bool → Place → Word → Option Place
step limited at_problem word = if is_problem word then Some at_cnf else None
step limited at_cnf word = if is_cnf word then Some at_vars else None
step limited at_vars word = option_map (λ n. at_count n) (count_of limited word)
step limited (at_count vars) word = option_map (λ n. at_clauses vars n) (count_of limited word)
step limited (in_list most signed next) word = entry_step limited most signed next word
step limited (at_line vars) word = if is_end word then Some at_end else option_map (λ n. at_second vars) (id_of limited word)
step limited (at_second vars) word = if is_delete word then Some (in_delete vars) else entry_step limited vars true (in_hints vars) word
step limited at_end word = None

-- how reading goes on
pub data Stop : Type 0 where
  reads : Place → Stop
  is_bad : ℕ → Stop
  is_large : ℕ → Stop

abbrev pub stopped : Option Place → ℕ → Stop
stopped None at = is_bad at
stopped (Some p) at = is_large at

unfoldable pub after : Place → List Token → Stop
after p [] = reads p
after p (t ∷ ts) = elim (step true p t.word) [ Some q ↦ after q ts | None ↦ stopped (step false p t.word) t.at ]

-- the fault with which the reader stops
abbrev pub IsStop : Place → List Token → LratFault → Type 0
IsStop p ts (e.Bad at) = after p ts ≡ is_bad at
IsStop p ts (e.TooLarge at) = after p ts ≡ is_large at
IsStop p ts e.NoMemory = Unit {0}

-- the word is none that may stand there: there is none at all, or none within the limits
abbrev pub IsTokenFault : {A : Type 0} → (Bool → Word → Option A) → Token → LratFault → Type 0
IsTokenFault read token (e.Bad at) = (at ≡ token.at) × (read true token.word ≡ None) × (read false token.word ≡ None)
IsTokenFault read token (e.TooLarge at) = (at ≡ token.at) × (read true token.word ≡ None) × (is_some (read false token.word) ≡ true)
IsTokenFault read token e.NoMemory = ⊥

-- nothing stands behind the end of the text
abbrev pub behind : Word → List Token → List Token
behind w.Problem ts = ts
behind w.Cnf ts = ts
behind w.Delete ts = ts
behind (w.Number n) ts = ts
behind w.Other ts = ts
behind w.End ts = []

-- a line that deletes goes on
pub record TakesDelete (old new : List Token) : Type 0 where
  pub at : ℕ
  pub taken : old ≡ record { at = at; word = w.Delete } ∷ new

pub record HasNoDelete (ts : List Token) : Type 0 where
  pub first : Token
  pub rest : List Token
  pub whole : ts ≡ first ∷ rest
  pub other : is_delete first.word ≡ false

-- one word is taken, and the reader goes from one place to another
pub record Took (p q : Place) (old new : List Token) (word : Word) : Type 0 where
  pub written : words old ≡ word ∷ words new
  pub goes : after p old ≡ after q new
