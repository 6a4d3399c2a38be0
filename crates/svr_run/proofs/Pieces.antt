-- What a call tells, as it goes to a sink piece by piece.
use Rattle.std.proofs.Common.{◌≡◌, ◌≤◌, ℕ, zero, suc, Bool, true, false, refl, sym, ap, subst, List, [], ◌∷◌, take, Option, Some, None, Ok, Err}
use Rattle.std.specs.Bool.{⊤}
use Rattle.std.specs.Io.KnownBytes.{Appends}
use Rattle.svr_edge.specs.Known.{AppendsFront}
use Rattle.svr_edge.specs.Causes.{Rose}
use Rattle.svr_frame.specs.Frame.{frame_term}
use Rattle.svr_stream.specs.Waiting.{Waiting}
use Rattle.svr_stream.specs.Puts.{Place, Puts, place, place_at}
use Rattle.svr_stream.proofs.Putting.{puts_whole, all_written, front_written, cause_of}
use Rattle.svr_derived.specs.Fronts.{PutsFront}
use Rattle.svr_script.specs.Printed.{Event}
use Rattle.svr_script.specs.Conflicts.{conflict_text, conflict_log}
use Rattle.svr_run.specs.declared.conflict.Contradiction.{Contradiction}
use Rattle.svr_run.specs.declared.tell.Told.{Told}
use Rattle.svr_run.specs.Events.{contradiction_text, contradiction_log, event_of, end_in, names_in}

-- ---- items that contradict each other

abbrev with_found : Event → Option Contradiction → Event
with_found e found = record e { names = names_in found; conflict = end_in found }

text_found : (proofs : Bool) (e : Event) (found : Option Contradiction) → contradiction_text proofs e.frame found ≡ conflict_text proofs (with_found e found) (end_in found)
text_found proofs e None = refl
text_found proofs e (Some x) = refl

log_found : (e : Event) (found : Option Contradiction) → contradiction_log e.frame found ≡ conflict_log (with_found e found) (end_in found)
log_found e None = refl
log_found e (Some x) = refl

pub told_text : (proofs : Bool) (class : ℕ) (t : Told) → contradiction_text proofs (frame_term t.frame.now) t.conflict.now ≡ conflict_text proofs (event_of class t) (event_of class t).conflict
told_text proofs class t = text_found proofs (event_of class t) t.conflict.now

pub told_log : (class : ℕ) (t : Told) → contradiction_log (frame_term t.frame.now) t.conflict.now ≡ conflict_log (event_of class t) (event_of class t).conflict
told_log class t = log_found (event_of class t) t.conflict.now

-- ---- a text of which nothing waits any more

-- a front of a front
taken_twice : (m n : ℕ) (xs : List ℕ) → (k : ℕ) × (take k xs ≡ take m (take n xs))
taken_twice zero n xs = (0, refl)
taken_twice (suc m) zero xs = (0, refl)
taken_twice (suc m) (suc n) [] = (0, refl)
taken_twice (suc m) (suc n) (x ∷ xs) =
    let rest = taken_twice m n xs in
    (suc rest.0, ap (λ (l : List ℕ). x ∷ l) rest.1)

front_of_front : (a b : Option (List ℕ)) (n : ℕ) (text : List ℕ) → AppendsFront a b (take n text) → AppendsFront a b text
front_of_front a b n text (m, h) =
    let twice = taken_twice m n text in
    (twice.0, subst (λ (l : List ℕ). Appends a b l) (sym twice.1) h)

module _ {a b : Option (List ℕ)} {m n : ℕ} {w : Waiting} {middle : Place} {text : List ℕ} (begun : w ≡ record { bytes = []; failed = false }) where
  -- of a text that was put, and of one of which a front was put
  pub put_whole : Puts (place a m w) middle text → Puts middle (place_at b n false) [] → Appends a b text
  put_whole put done = all_written {T = ⊤} {E = ⊤} (Ok tt) _ _ _ _ _ (puts_whole {T = ⊤} {E = ⊤} (Ok tt) begun put done)

  pub put_kept : PutsFront (place a m w) middle text → Puts middle (place_at b n false) [] → n ≡ m
  put_kept put done = (cause_of {T = ⊤} {E = ⊤} (Ok tt) _ _ _ _ _ (puts_whole {T = ⊤} {E = ⊤} (Ok tt) begun put.puts done)).kept

  pub put_front : PutsFront (place a m w) middle text → Puts middle (place_at b n false) [] → AppendsFront a b text
  put_front put done = (put.count, all_written {T = ⊤} {E = ⊤} (Ok tt) _ _ _ _ _ (puts_whole {T = ⊤} {E = ⊤} (Ok tt) begun put.puts done))

  -- where the sink failed
  pub fault_front : PutsFront (place a m w) middle text → Puts middle (place_at b n true) [] → AppendsFront a b text
  fault_front put fault = front_of_front a b put.count text (front_written {T = ⊤} {E = ⊤} (Err tt) _ _ _ _ _ (puts_whole {T = ⊤} {E = ⊤} (Err tt) begun put.puts fault))

  pub fault_later : PutsFront (place a m w) middle text → Puts middle (place_at b n true) [] → m ≤ n
  fault_later put fault = (cause_of {T = ⊤} {E = ⊤} (Err tt) _ _ _ _ _ (puts_whole {T = ⊤} {E = ⊤} (Err tt) begun put.puts fault)).later

  pub fault_rose : PutsFront (place a m w) middle text → Puts middle (place_at b n true) [] → Rose m n
  fault_rose put fault = (cause_of {T = ⊤} {E = ⊤} (Err tt) _ _ _ _ _ (puts_whole {T = ⊤} {E = ⊤} (Err tt) begun put.puts fault)).failed
