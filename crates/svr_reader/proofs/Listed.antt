-- Lists of parts that one function reads, as the programs of lists.
use Rattle.std.proofs.Common.{◌≡◌, ℕ, suc, max, ◌≤◌, Bool, true, false, if◌then◌else◌, List, Result, Ok, Err, refl, sym, ◌∙◌, ap, subst, arith}
use Rattle.std.specs.Prelude.{IfOk}
use Rattle.std.proofs.lemmas.List.{map_push}
use denote.Ref.{MutBor}
use Rattle.svr_token.specs.declared.Mark.TheVariants as m
use Rattle.svr_tree.specs.Tokens.{Tok}
use Rattle.svr_reader.specs.Outcomes.{Stop, Turn, go, done, Outcome, Parser, and_then, turned, turns}
use Rattle.svr_reader.specs.declared.fixed.Fixed.{Fixed}
use Rattle.svr_reader.specs.declared.fixed.Fixed.TheVariants as f
use Rattle.svr_reader.specs.declared.fault.ReadFault.{ReadFault}
use Rattle.svr_reader.specs.Program.{Program, pure, bind, eat, either, run}
use Rattle.svr_reader.specs.Steps.{eaten}
use Rattle.svr_reader.specs.Lists.{WithHeight, with_last, list_step, until_step}
use Rattle.svr_reader.specs.Answers.{stop_of, Gives}
use Rattle.svr_reader.specs.Calls.{Calls, Lists, list_wants_memory, part_fails, part_and_comma, last_part, Until, until_wants_memory, until_fails, until_goes_on, until_ends, height_view, heights_view}

-- ---- heights

highest : (a b room : ℕ) → a ≤ room → b ≤ room → max a b ≤ room
highest a b room h k = omega arith

-- no list is higher than the room for its parts
pub lists_low : {T : Type 0} {one : Calls (WithHeight T)} {s : WithHeight (List T)} {i j : List Tok} {r : Result (WithHeight (List T)) ReadFault} (room n : ℕ)
    → ((old new : MutBor (List Tok)) (q : Result (WithHeight T) ReadFault) → one old q new → IfOk q (λ x. x.1 ≤ room))
    → s.1 ≤ room → Lists one n s i r j → IfOk r (λ x. x.1 ≤ room)
lists_low room n h low list_wants_memory = tt
lists_low room n h low (part_fails old new e call) = tt
lists_low {s = s} room (suc n) h low (part_and_comma old new x call eats more) = lists_low room n h (highest s.1 x.1 room low (h old new (Ok x) call)) more
lists_low {s = s} room (suc n) h low (last_part old new x call eats) = highest s.1 x.1 room low (h old new (Ok x) call)

pub until_low : {T : Type 0} {end : Fixed} {one : Calls (WithHeight T)} {s : WithHeight (List T)} {i j : List Tok} {r : Result (WithHeight (List T)) ReadFault} (room n : ℕ)
    → ((old new : MutBor (List Tok)) (q : Result (WithHeight T) ReadFault) → one old q new → IfOk q (λ x. x.1 ≤ room))
    → s.1 ≤ room → Until end one n s i r j → IfOk r (λ x. x.1 ≤ room)
until_low room n h low until_wants_memory = tt
until_low room n h low (until_fails old new e eats call) = tt
until_low {s = s} room (suc n) h low (until_goes_on old new x eats call more) = until_low room n h (highest s.1 x.1 room low (h old new (Ok x) call)) more
until_low room (suc n) h low (until_ends eats) = low

-- ---- outcomes

fails : {A B C : Type 0} (o : Outcome A) (f : A → Parser B) (g : B → Parser C) (e : Stop) → o ≡ Err e → and_then (and_then o f) g ≡ Err e
fails o f g e h = ap (λ v. and_then (and_then v f) g) h

module _ {K : Type 0} {Ans : K → Type 0} (most r : ℕ) (sub : (k : K) → Parser (Ans k)) {T X : Type 0} (view : T → X) (p : Program K Ans (WithHeight X)) where
  abbrev R : {A : Type 0} → Program K Ans A → Parser A
  R q = run most r sub q

  -- each call of the function gives what the program of a part gives
  abbrev pub Follows : Calls (WithHeight T) → Type 0
  Follows one = (old new : MutBor (List Tok)) (q : Result (WithHeight T) ReadFault) → one old q new → Gives (height_view view) (R p old.now) q new.now

  same : (s : WithHeight (List T)) (x : WithHeight T) → with_last (heights_view view s) (height_view view x) ≡ heights_view view (with_last s x)
  same s x = ap (λ v. (v, max s.1 x.1)) (sym (map_push view s.0 x.0))

  -- ---- lists by commas

  abbrev after : WithHeight (List X) → WithHeight X → Parser (Turn (WithHeight (List X)) (WithHeight (List X)))
  after s x = R (bind (eat (f.Mark m.Comma)) (λ more. pure (if more then go (with_last s x) else done (with_last s x))))

  one_turn : (s : WithHeight (List X)) (x : WithHeight X) (i k l : List Tok) (b : Bool) → R p i ≡ Ok (x, k) → eaten (f.Mark m.Comma) k ≡ Ok (b, l)
      → R (list_step p s) i ≡ Ok ((if b then go (with_last s x) else done (with_last s x)), l)
  unfolding list_step
  one_turn s x i k l b h e =
      ap (λ o. and_then o (after s)) h
      ∙ ap (λ o. and_then o (λ more. R (pure (if more then go (with_last s x) else done (with_last s x))))) e

  pub lists_give : (one : Calls (WithHeight T)) → Follows one → (n : ℕ) (s : WithHeight (List T)) (i : List Tok) (q : Result (WithHeight (List T)) ReadFault) (j : List Tok)
      → Lists one n s i q j → Gives (heights_view view) (turns n (λ v. R (list_step p v)) (heights_view view s) i) q j
  unfolding list_step
  lists_give one h n s i q j list_wants_memory = λ ne. absurd (ne refl)
  lists_give one h (suc n) s i q j (part_fails old new e call) =
      λ ne. fails (R p old.now) (after (heights_view view s)) (turned (turns n (λ v. R (list_step p v)))) (stop_of e) (h old new (Err e) call ne)
  lists_give one h (suc n) s i q j (part_and_comma old new x {k} call eats more) =
      subst (λ o. Gives (heights_view view) o q j)
      (sym (ap (λ o. and_then o (turned (turns n (λ v. R (list_step p v))))) (one_turn (heights_view view s) (height_view view x) old.now new.now k true (h old new (Ok x) call) eats)
      ∙ ap (λ v. turns n (λ v2. R (list_step p v2)) v k) (same s x)))
      (lists_give one h n (with_last s x) k q j more)
  lists_give one h (suc n) s i q j (last_part old new x call eats) =
      ap (λ o. and_then o (turned (turns n (λ v. R (list_step p v))))) (one_turn (heights_view view s) (height_view view x) old.now new.now j false (h old new (Ok x) call) eats)
      ∙ ap (λ v. Ok (v, j)) (same s x)

  -- ---- parts up to a mark

  abbrev ways : WithHeight (List X) → Bool → Parser (Turn (WithHeight (List X)) (WithHeight (List X)))
  ways s b = R (either b (pure (done s)) (bind p (λ x. pure (go (with_last s x)))))

  one_part : (end : Fixed) (s : WithHeight (List X)) (i k : List Tok) → eaten end i ≡ Ok (false, k) → R (until_step end p s) i ≡ and_then (R p k) (λ x l. Ok (go (with_last s x), l))
  unfolding until_step
  one_part end s i k e = ap (λ o. and_then o (ways s)) e

  its_end : (end : Fixed) (s : WithHeight (List X)) (i k : List Tok) → eaten end i ≡ Ok (true, k) → R (until_step end p s) i ≡ Ok (done s, k)
  unfolding until_step
  its_end end s i k e = ap (λ o. and_then o (ways s)) e

  abbrev longer : WithHeight (List X) → WithHeight X → Parser (Turn (WithHeight (List X)) (WithHeight (List X)))
  longer s x l = Ok (go (with_last s x), l)

  pub until_gives : (end : Fixed) (one : Calls (WithHeight T)) → Follows one → (n : ℕ) (s : WithHeight (List T)) (i : List Tok) (q : Result (WithHeight (List T)) ReadFault) (j : List Tok)
      → Until end one n s i q j → Gives (heights_view view) (turns n (λ v. R (until_step end p v)) (heights_view view s) i) q j
  until_gives end one h n s i q j until_wants_memory = λ ne. absurd (ne refl)
  until_gives end one h (suc n) s i q j (until_fails old new e eats call) =
      λ ne. ap (λ o. and_then o (turned (turns n (λ v. R (until_step end p v))))) (one_part end (heights_view view s) i old.now eats)
      ∙ fails (R p old.now) (longer (heights_view view s)) (turned (turns n (λ v. R (until_step end p v)))) (stop_of e) (h old new (Err e) call ne)
  until_gives end one h (suc n) s i q j (until_goes_on old new x eats call more) =
      subst (λ o. Gives (heights_view view) o q j)
      (sym (ap (λ o. and_then o (turned (turns n (λ v. R (until_step end p v)))))
      (one_part end (heights_view view s) i old.now eats ∙ ap (λ o. and_then o (longer (heights_view view s))) (h old new (Ok x) call))
      ∙ ap (λ v. turns n (λ v2. R (until_step end p v2)) v new.now) (same s x)))
      (until_gives end one h n (with_last s x) new.now q j more)
  until_gives end one h (suc n) s i q j (until_ends eats) = ap (λ o. and_then o (turned (turns n (λ v. R (until_step end p v))))) (its_end end (heights_view view s) i j eats)
