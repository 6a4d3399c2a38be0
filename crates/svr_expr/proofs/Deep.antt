-- Where there is no room, and where there is some.
use Rattle.std.proofs.Common.{◌≡◌, ℕ, suc, ◌-◌, ◌<◌, Bool, true, false, if◌then◌else◌, List, length, Option, Err, refl, sym, ◌∙◌, ap, arith}
use Rattle.svr_token.specs.declared.Lexeme.{Lexeme}
use Rattle.svr_tree.specs.Tokens.{Tok}
use Rattle.svr_reader.specs.declared.fault.ReadFault.{ReadFault}
use Rattle.svr_reader.specs.declared.fault.ReadFault.TheVariants as fault
use Rattle.svr_reader.specs.Outcomes.{Unexpected, TooDeep, Outcome, lexeme_at}
use Rattle.svr_reader.specs.Lists.{no_room}
use Rattle.svr_reader.specs.Answers.{stop_of}

pub deeper : {A : Type 0} (P : ℕ → A) (n : ℕ) → 0 < n → P n ≡ P (suc (n - 1))
deeper P n h = let e : n ≡ suc (n - 1) = omega arith in ap P e

one_fault : {A : Type 0} (b : Bool) (n : ℕ) → ◌≡◌ {A = Outcome A} (if b then Err (TooDeep n) else Err (Unexpected n)) (Err (stop_of (if b then fault.TooDeep n else fault.Unexpected n)))
one_fault true n = refl
one_fault false n = refl

pub no_room_is : {A : Type 0} (begins : Option Lexeme → Bool) (i : List Tok) (e : ReadFault) → e ≡ (if begins (lexeme_at i) then fault.TooDeep (length i) else fault.Unexpected (length i)) → no_room {A = A} begins i ≡ Err (stop_of e)
no_room_is begins i e h = one_fault (begins (lexeme_at i)) (length i) ∙ ap (λ z. Err (stop_of z)) (sym h)
