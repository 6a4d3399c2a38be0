-- The place at which the reader stops is that of the first fault
use Rattle.std.proofs.Common.{◌≡◌, ℕ, Bool, true, false, List, [], ◌∷◌, ◌++◌, Option, None, Some, refl, sym, ap, ◌∙◌, ◌⊎◌, inl, inr, subst, Result, Ok, Err, IfOk}
use Rattle.std.proofs.lemmas.List.{map-append}
use Rattle.std.specs.Prelude.{is_some, IfErr, MatchResult}
use Rattle.svr_lrat_text.specs.declared.word.Word.{Word}
use Rattle.svr_lrat_text.specs.declared.cursor.Token.{Token}
use Rattle.svr_lrat_text.specs.declared.fault.LratFault.{LratFault}
use Rattle.svr_lrat_text.specs.declared.fault.LratFault.TheVariants as e
use Rattle.svr_lrat_text.specs.Words.{tokens_of, words}
use Rattle.svr_lrat_text.specs.File.{file_words, is_file}
use Rattle.svr_lrat_file.specs.Views.{FileView}
use Rattle.svr_lrat_text.specs.Faults.{IsFileOf, IsFront, Stops, IsBad, IsTooLarge, IsFaultOf}
use Rattle.svr_lrat_text.specs.Reading.{Place, at_problem, at_end, step, reads, is_bad, is_large, stopped, after, IsStop}
use Rattle.svr_lrat_text.proofs.Steps.{after-none}
use Rattle.svr_lrat_text.proofs.Machine.{run, run-step, run-append, run-front, run-weaker, file-run, fill, fill-run}
use Rattle.svr_lrat_text.proofs.Files.{file-from}
use Rattle.svr_lrat_text.proofs.Unique.{file-one}

front-of-run : (b : Bool) (ws : List Word) (q : Place) → run b at_problem ws ≡ Some q → IsFront b ws
front-of-run b ws q h =
    let f = file-from b (ws ++ fill q) (run-append b ws (fill q) at_problem q h ∙ fill-run b q) in
    record { file = f.0; rest = fill q; is = f.1; whole = f.2 }

run-of-front : (b : Bool) (ws : List Word) → IsFront b ws → (q : Place) × (run b at_problem ws ≡ Some q)
run-of-front b ws x = run-front b ws x.rest at_problem at_end (ap (run b at_problem) (sym x.whole) ∙ file-run b x.file x.is)

-- where the reader stops, and what it has run through before
record Found (p : Place) (ts : List Token) (at : ℕ) : Type 0 where
  pub front : List Token
  pub token : Token
  pub more : List Token
  pub place : Place
  pub whole : ts ≡ front ++ token ∷ more
  pub at_is : token.at ≡ at
  pub ran : run true p (words front) ≡ Some place
  pub stuck : step true place token.word ≡ None

record FoundBad (p : Place) (ts : List Token) (at : ℕ) : Type 0 where
  pub found : Found p ts at
  pub none : step false found.place found.token.word ≡ None

record FoundLarge (p : Place) (ts : List Token) (at : ℕ) : Type 0 where
  pub found : Found p ts at
  pub some : is_some (step false found.place found.token.word) ≡ true

abbrev found-here : (p : Place) (t : Token) (ts : List Token) (at : ℕ) → step true p t.word ≡ None → t.at ≡ at → Found p (t ∷ ts) at
found-here p t ts at h a = record { front = []; token = t; more = ts; place = p; whole = refl; at_is = a; ran = refl; stuck = h }

abbrev found-later : (p q : Place) (t : Token) (ts : List Token) (at : ℕ) → step true p t.word ≡ Some q → Found q ts at → Found p (t ∷ ts) at
found-later p q t ts at h f = record {
  front = t ∷ f.front;
  token = f.token;
  more = f.more;
  place = f.place;
  whole = ap (λ z. t ∷ z) f.whole;
  at_is = f.at_is;
  ran = run-step true p q t.word (words f.front) h ∙ f.ran;
  stuck = f.stuck;
}

bad-found : (ts : List Token) (p : Place) (at : ℕ) → after p ts ≡ is_bad at → FoundBad p ts at
unfolding after
bad-found [] p at h = absurd (let z : reads p ≡ is_bad at = h in cc)
bad-found (t ∷ ts) p at h = go (step true p t.word) refl (λ q k. bad-found ts q at k) h
  where
    here : (o : Option Place) → step true p t.word ≡ None → step false p t.word ≡ o → stopped o t.at ≡ is_bad at → FoundBad p (t ∷ ts) at
    here None e f h = record { found = found-here p t ts at e (let z : is_bad t.at ≡ is_bad at = h in cc); none = f }
    here (Some q) e f h = absurd (let z : is_large t.at ≡ is_bad at = h in cc)

    go : (o : Option Place) → step true p t.word ≡ o → ((q : Place) → after q ts ≡ is_bad at → FoundBad q ts at)
        → elim o [ Some q ↦ after q ts | None ↦ stopped (step false p t.word) t.at ] ≡ is_bad at → FoundBad p (t ∷ ts) at
    go (Some q) e k h = let f = k q h in record { found = found-later p q t ts at e f.found; none = f.none }
    go None e k h = here (step false p t.word) e refl h

large-found : (ts : List Token) (p : Place) (at : ℕ) → after p ts ≡ is_large at → FoundLarge p ts at
unfolding after
large-found [] p at h = absurd (let z : reads p ≡ is_large at = h in cc)
large-found (t ∷ ts) p at h = go (step true p t.word) refl (λ q k. large-found ts q at k) h
  where
    here : (o : Option Place) → step true p t.word ≡ None → step false p t.word ≡ o → stopped o t.at ≡ is_large at → FoundLarge p (t ∷ ts) at
    here None e f h = absurd (let z : is_bad t.at ≡ is_large at = h in cc)
    here (Some q) e f h = record { found = found-here p t ts at e (let z : is_large t.at ≡ is_large at = h in cc); some = ap is_some f }

    go : (o : Option Place) → step true p t.word ≡ o → ((q : Place) → after q ts ≡ is_large at → FoundLarge q ts at)
        → elim o [ Some q ↦ after q ts | None ↦ stopped (step false p t.word) t.at ] ≡ is_large at → FoundLarge p (t ∷ ts) at
    go (Some q) e k h = let f = k q h in record { found = found-later p q t ts at e f.found; some = f.some }
    go None e k h = here (step false p t.word) e refl h

-- a front with one more word takes a step from where the front led
one-more : (b : Bool) (front : List Token) (t : Token) (q : Place) → run b at_problem (words front) ≡ Some q → IsFront b (words (front ++ t ∷ [])) → is_some (step b q t.word) ≡ true
one-more b front t q h x =
    let whole : words (front ++ t ∷ []) ≡ words front ++ t.word ∷ [] = map-append (λ z. z.word) front (t ∷ []) in
    let r = run-of-front b (words (front ++ t ∷ [])) x in
    let e : run b q (t.word ∷ []) ≡ Some r.0 = sym (run-append b (words front) (t.word ∷ []) at_problem q h) ∙ ap (run b at_problem) (sym whole) ∙ r.1 in
    go (step b q t.word) r.0 e
  where
    go : (o : Option Place) (r : Place) → elim o [ Some s ↦ Some s | None ↦ None ] ≡ Some r → is_some o ≡ true
    go None r e = absurd (let z : None ≡ Some r = e in cc)
    go (Some s) r e = refl

with-step : (b : Bool) (front : List Token) (t : Token) (q : Place) → run b at_problem (words front) ≡ Some q → is_some (step b q t.word) ≡ true → IsFront b (words (front ++ t ∷ []))
with-step b front t q h s = go (step b q t.word) refl s
  where
    go : (o : Option Place) → step b q t.word ≡ o → is_some o ≡ true → IsFront b (words (front ++ t ∷ []))
    go None e s = cc
    go (Some r) e s =
        let whole : words (front ++ t ∷ []) ≡ words front ++ t.word ∷ [] = map-append (λ z. z.word) front (t ∷ []) in
        front-of-run b (words (front ++ t ∷ [])) r (ap (run b at_problem) whole ∙ run-append b (words front) (t.word ∷ []) at_problem q h ∙ run-step b q r t.word [] e)

not-some : {A : Type 0} (o : Option A) → o ≡ None → is_some o ≡ true → ⊥
not-some None h s = cc
not-some (Some x) h s = cc

bad-is : (text : List ℕ) (at : ℕ) → after at_problem (tokens_of text) ≡ is_bad at → IsBad text at
bad-is text at h =
    let f = bad-found (tokens_of text) at_problem at h in
    let g = f.found in
    record {
      front = g.front;
      token = g.token;
      stops = record { rest = g.more; whole = g.whole; place_is = g.at_is; is_front = front-of-run true (words g.front) g.place g.ran };
      none = λ x. not-some (step false g.place g.token.word) f.none (one-more false g.front g.token g.place (run-weaker (words g.front) at_problem g.place g.ran) x);
    }

large-is : (text : List ℕ) (at : ℕ) → after at_problem (tokens_of text) ≡ is_large at → IsTooLarge text at
large-is text at h =
    let f = large-found (tokens_of text) at_problem at h in
    let g = f.found in
    record {
      front = g.front;
      token = g.token;
      stops = record { rest = g.more; whole = g.whole; place_is = g.at_is; is_front = front-of-run true (words g.front) g.place g.ran };
      some = with-step false g.front g.token g.place (run-weaker (words g.front) at_problem g.place g.ran) f.some;
      none = λ x. not-some (step true g.place g.token.word) g.stuck (one-more true g.front g.token g.place g.ran x);
    }

pub fault-is : (text : List ℕ) (x : LratFault) → IsStop at_problem (tokens_of text) x → IsFaultOf text x
fault-is text (e.Bad at) h = bad-is text at h
fault-is text (e.TooLarge at) h = large-is text at h
fault-is text e.NoMemory h = tt

-- ---- and no other

reads-run : (ts : List Token) (p q : Place) → run true p (words ts) ≡ Some q → after p ts ≡ reads q
unfolding after
reads-run [] p q h = ap (λ z. reads z) (let z : p ≡ q = cc in z)
reads-run (t ∷ ts) p q h = go (step true p t.word) (λ r k. reads-run ts r q k) h
  where
    go : (o : Option Place) → ((r : Place) → run true r (words ts) ≡ Some q → after r ts ≡ reads q)
        → elim o [ Some r ↦ run true r (words ts) | None ↦ None ] ≡ Some q → elim o [ Some r ↦ after r ts | None ↦ stopped (step false p t.word) t.at ] ≡ reads q
    go None k h = absurd (let z : None ≡ Some q = h in cc)
    go (Some r) k h = k r h

after-front : (xs ys : List Token) (p q : Place) → run true p (words xs) ≡ Some q → after p (xs ++ ys) ≡ after q ys
unfolding after
after-front [] ys p q h = ap (λ z. after z ys) (let z : p ≡ q = cc in z)
after-front (t ∷ xs) ys p q h = go (step true p t.word) (λ r k. after-front xs ys r q k) h
  where
    go : (o : Option Place) → ((r : Place) → run true r (words xs) ≡ Some q → after r (xs ++ ys) ≡ after q ys)
        → elim o [ Some r ↦ run true r (words xs) | None ↦ None ] ≡ Some q
        → elim o [ Some r ↦ after r (xs ++ ys) | None ↦ stopped (step false p t.word) t.at ] ≡ after q ys
    go None k h = absurd (let z : None ≡ Some q = h in cc)
    go (Some r) k h = k r h

-- a file is read to its end
pub file-reads : (text : List ℕ) (f : FileView) → IsFileOf text f → after at_problem (tokens_of text) ≡ reads at_end
file-reads text f h = reads-run (tokens_of text) at_problem at_end (ap (run true at_problem) h.written ∙ file-run true f h.within)

none-or : {A : Type 0} (o : Option A) → (is_some o ≡ true → ⊥) → o ≡ None
none-or None h = refl
none-or (Some x) h = absurd (h refl)

-- at the token behind a front the reader stops
stops-there : (text : List ℕ) (at : ℕ) (front : List Token) (t : Token) → Stops text at front t → (IsFront true (words (front ++ t ∷ [])) → ⊥)
    → (q : Place) × (run true at_problem (words front) ≡ Some q) × (after at_problem (tokens_of text) ≡ stopped (step false q t.word) at)
stops-there text at front t s none =
    let r = run-of-front true (words front) s.is_front in
    let n : step true r.0 t.word ≡ None = none-or (step true r.0 t.word) (λ x. none (with-step true front t r.0 r.1 x)) in
    let e : after r.0 (t ∷ s.rest) ≡ stopped (step false r.0 t.word) t.at = after-none r.0 t s.rest n in
    (r.0, r.1, ap (after at_problem) s.whole ∙ after-front front (t ∷ s.rest) at_problem r.0 r.1 ∙ e ∙ ap (stopped (step false r.0 t.word)) s.place_is)

wider : (ws : List Word) → IsFront true ws → IsFront false ws
wider ws x = let r = run-of-front true ws x in front-of-run false ws r.0 (run-weaker ws at_problem r.0 r.1)

pub bad-stops : (text : List ℕ) (at : ℕ) → IsBad text at → after at_problem (tokens_of text) ≡ is_bad at
bad-stops text at h =
    let s = stops-there text at h.front h.token h.stops (λ x. h.none (wider (words (h.front ++ h.token ∷ [])) x)) in
    let n : step false s.0 h.token.word ≡ None = none-or (step false s.0 h.token.word) (λ x. h.none (with-step false h.front h.token s.0 (run-weaker (words h.front) at_problem s.0 s.1) x)) in
    s.2 ∙ ap (λ z. stopped z at) n

stopped-large : (o : Option Place) (at : ℕ) → is_some o ≡ true → stopped o at ≡ is_large at
stopped-large None at h = cc
stopped-large (Some q) at h = refl

pub large-stops : (text : List ℕ) (at : ℕ) → IsTooLarge text at → after at_problem (tokens_of text) ≡ is_large at
large-stops text at h =
    let s = stops-there text at h.front h.token h.stops h.none in
    let n : is_some (step false s.0 h.token.word) ≡ true = one-more false h.front h.token s.0 (run-weaker (words h.front) at_problem s.0 s.1) h.some in
    s.2 ∙ stopped-large (step false s.0 h.token.word) at n

-- ---- so an answer that fits is the only one

pub only-file : (text : List ℕ) (f g : FileView) → IsFileOf text f → IsFileOf text g → f ≡ g
only-file text f g h k = file-one true f g h.within k.within (sym h.written ∙ k.written)

pub file-or-memory : (text : List ℕ) (g : FileView) (x : LratFault) → IsStop at_problem (tokens_of text) x → IsFileOf text g → x ≡ e.NoMemory
file-or-memory text g (e.Bad at) h k = absurd (let z : is_bad at ≡ reads at_end = sym h ∙ file-reads text g k in cc)
file-or-memory text g (e.TooLarge at) h k = absurd (let z : is_large at ≡ reads at_end = sym h ∙ file-reads text g k in cc)
file-or-memory text g e.NoMemory h k = refl

pub bad-or-memory : (text : List ℕ) (at : ℕ) (x : LratFault) → IsStop at_problem (tokens_of text) x → IsBad text at → (x ≡ e.Bad at) ⊎ (x ≡ e.NoMemory)
bad-or-memory text at (e.Bad place) h k = inl (let z : is_bad place ≡ is_bad at = sym h ∙ bad-stops text at k in let y : place ≡ at = cc in ap (λ n. e.Bad n) y)
bad-or-memory text at (e.TooLarge place) h k = absurd (let z : is_large place ≡ is_bad at = sym h ∙ bad-stops text at k in cc)
bad-or-memory text at e.NoMemory h k = inr refl

pub large-or-memory : (text : List ℕ) (at : ℕ) (x : LratFault) → IsStop at_problem (tokens_of text) x → IsTooLarge text at → (x ≡ e.TooLarge at) ⊎ (x ≡ e.NoMemory)
large-or-memory text at (e.Bad place) h k = absurd (let z : is_bad place ≡ is_large at = sym h ∙ large-stops text at k in cc)
large-or-memory text at (e.TooLarge place) h k = inl (let z : is_large place ≡ is_large at = sym h ∙ large-stops text at k in let y : place ≡ at = cc in ap (λ n. e.TooLarge n) y)
large-or-memory text at e.NoMemory h k = inr refl

pub file-not-bad : (text : List ℕ) (f : FileView) (at : ℕ) → IsFileOf text f → IsBad text at → ⊥
file-not-bad text f at h k = absurd (let z : reads at_end ≡ is_bad at = sym (file-reads text f h) ∙ bad-stops text at k in cc)

pub file-not-large : (text : List ℕ) (f : FileView) (at : ℕ) → IsFileOf text f → IsTooLarge text at → ⊥
file-not-large text f at h k = absurd (let z : reads at_end ≡ is_large at = sym (file-reads text f h) ∙ large-stops text at k in cc)

-- ---- as the reader tells it

pub told-fault : (text : List ℕ) (ts : List Token) (r : Result FileView LratFault) → ts ≡ tokens_of text → IfErr r (λ x. IsStop at_problem ts x) → IfErr r (λ x. IsFaultOf text x)
told-fault text ts (Ok f) t h = tt
told-fault text ts (Err x) t h = fault-is text x (subst (λ z. IsStop at_problem z x) t h)

pub told-file : (text : List ℕ) (ts : List Token) (r : Result FileView LratFault) → ts ≡ tokens_of text → IfOk r (λ f. words ts ≡ file_words f) → IfOk r (λ f. is_file true f ≡ true)
    → IfOk r (λ f. IsFileOf text f)
told-file text ts (Ok f) t h k = record { written = ap words (sym t) ∙ h; within = k }
told-file text ts (Err x) t h k = tt

pub told-only_file : (text : List ℕ) (ts : List Token) (r : Result FileView LratFault) → ts ≡ tokens_of text → IfOk r (λ f. IsFileOf text f) → IfErr r (λ x. IsStop at_problem ts x)
    → (g : FileView) → IsFileOf text g → MatchResult r (λ f. f ≡ g) (λ x. x ≡ e.NoMemory)
told-only_file text ts (Ok f) t h k g is = only-file text f g h is
told-only_file text ts (Err x) t h k g is = file-or-memory text g x (subst (λ z. IsStop at_problem z x) t k) is

pub told-only_bad : (text : List ℕ) (ts : List Token) (r : Result FileView LratFault) → ts ≡ tokens_of text → IfOk r (λ f. IsFileOf text f) → IfErr r (λ x. IsStop at_problem ts x)
    → (at : ℕ) → IsBad text at → MatchResult r (λ f. ⊥) (λ x. (x ≡ e.Bad at) ⊎ (x ≡ e.NoMemory))
told-only_bad text ts (Ok f) t h k at is = file-not-bad text f at h is
told-only_bad text ts (Err x) t h k at is = bad-or-memory text at x (subst (λ z. IsStop at_problem z x) t k) is

pub told-only_large : (text : List ℕ) (ts : List Token) (r : Result FileView LratFault) → ts ≡ tokens_of text → IfOk r (λ f. IsFileOf text f) → IfErr r (λ x. IsStop at_problem ts x)
    → (at : ℕ) → IsTooLarge text at → MatchResult r (λ f. ⊥) (λ x. (x ≡ e.TooLarge at) ⊎ (x ≡ e.NoMemory))
told-only_large text ts (Ok f) t h k at is = file-not-large text f at h is
told-only_large text ts (Err x) t h k at is = large-or-memory text at x (subst (λ z. IsStop at_problem z x) t k) is
