-- What a proof shows: no assignment of its phase meets the hard items. And what a valuation shows that meets the roots.
use Rattle.std.proofs.Common.{◌≡◌, ◌≤◌, ◌==◌, ◌+◌, ◌*◌, ◌/◌, ◌%◌, ℕ, zero, suc, Bool, true, false, cond, not, ◌&&◌, List, [], ◌∷◌, ◌++◌, map, length, take, Option, None, Some, refl, sym, ◌∙◌, ap, subst, arith}
use Rattle.std.specs.Prelude.{if◌then◌else◌}
use Rattle.std.specs.List.{list_all, flat_map}
use Rattle.std.proofs.lemmas.Bool.{and_parts}
use Rattle.std.proofs.lemmas.List.Folds.{list_all-append}
use Rattle.std.proofs.lemmas.List.Concat.{flat_map-cons}
use Rattle.svr_chain.specs.declared.clause.Lit.{Lit}
use Rattle.svr_chain.specs.Clauses.{flip}
use Rattle.svr_chain.specs.Valuations.{lit_value, Meets}
use Rattle.svr_chain.proofs.Sound.{no_valuation-from_accepted}
use Rattle.svr_gate.specs.Numbers.{bit, number}
use Rattle.svr_gate.proofs.NumberLemmas.{number-nil, number-cons, lit_value-flip}
use Rattle.svr_typed.specs.ExprTerm.{ExprTerm}
use Rattle.svr_eval.specs.Reading.{Reading}
use Rattle.svr_frame.specs.declared.part.Part.{Part}
use Rattle.svr_frame.specs.declared.slot.Slot.{Slot}
use Rattle.svr_frame.specs.Frame.{FrameTerm, state_at}
use Rattle.svr_frame.specs.Occurrences.{Occurrence, is_true, all_true, closed_of}
use Rattle.svr_frame.specs.Phases.{unknowns_of, hard_of}
use Rattle.svr_frame.specs.Satisfaction.{is_at, AreFixed, IsAssignment, Sat}
use Rattle.svr_frame.specs.Sound.{IsSound, SizesFit}
use Rattle.svr_frame_laws.proofs.Expressions.{hard_truths}
use Rattle.svr_vector.specs.Places.{rows}
use Rattle.svr_inputs.specs.Inputs.{read_or}
use Rattle.svr_encoded.specs.declared.encoded.Encoded.{Encoded}
use Rattle.svr_encoded.specs.Slots.{bits_where, positive_bits, widths_of, reading_at}
use Rattle.svr_encoded.specs.Encodes.{holds, Encodes}
use Rattle.svr_encoded.proofs.Reached.{reached}
use Rattle.svr_encoded.proofs.BridgeLemmas.{read_of_phase}
use Rattle.svr_phase.specs.declared.proof.Proof.{Proof}
use Rattle.svr_phase.specs.Spent.{closed_at, EncodesItems}
use Rattle.svr_phase.specs.Proof.{spelling, spelling_at, fixed_lits, hard_roots, no_lits, SizesAreWhole, Stands}
use Rattle.svr_phase.proofs.Fitting.{fits_in}

-- ---- lists of truths

heads : {a b : Bool} {xs ys : List Bool} → a ∷ xs ≡ b ∷ ys → a ≡ b
heads e = cc

tails : {a b : Bool} {xs ys : List Bool} → a ∷ xs ≡ b ∷ ys → xs ≡ ys
tails e = cc

both_true : (a b : Bool) → a ≡ true → b ≡ true → (a && b) ≡ true
both_true a b p q = rw (p, q) refl

-- where the hard items hold, so do their roots
roots_true : {A : Type 0} (f : Lit → Bool) (g : A → Bool) (roots : List Lit) (hard soft : List A)
    → map f roots ≡ map g (hard ++ soft) → list_all g hard ≡ true → list_all f (take (length hard) roots) ≡ true
roots_true f g roots [] soft same hold = refl
roots_true f g [] (h ∷ hard) soft same hold = absurd (cc)
roots_true f g (r ∷ roots) (h ∷ hard) soft same hold =
    let parts = and_parts (g h) (list_all g hard) hold in
    both_true (f r) (list_all f (take (length hard) roots)) (heads same ∙ parts.0) (roots_true f g roots hard soft (tails same) parts.1)

-- and where the roots are true, so are the hard items
items_true : {A : Type 0} (f : Lit → Bool) (g : A → Bool) (roots : List Lit) (hard soft : List A)
    → map f roots ≡ map g (hard ++ soft) → list_all f (take (length hard) roots) ≡ true → list_all g hard ≡ true
items_true f g roots [] soft same hold = refl
items_true f g [] (h ∷ hard) soft same hold = absurd (cc)
items_true f g (r ∷ roots) (h ∷ hard) soft same hold =
    let parts = and_parts (f r) (list_all f (take (length hard) roots)) hold in
    both_true (g h) (list_all g hard) (sym (heads same) ∙ parts.0) (items_true f g roots hard soft (tails same) parts.1)

map_closed : (g : Occurrence → Bool) (c : Reading) (h : ExprTerm → Bool) (os : List Occurrence) → ((o : Occurrence) → h (closed_of c o) ≡ g o) → map h (map (closed_of c) os) ≡ map g os
map_closed g c h [] same = refl
map_closed g c h (o ∷ os) same = λ i. same o i ∷ map_closed g c h os same i

all_from_map : {A : Type 0} (g h : A → Bool) (xs : List A) → map g xs ≡ map h xs → list_all g xs ≡ list_all h xs
all_from_map g h [] e = refl
all_from_map g h (x ∷ xs) e = ap (λ b. b && list_all g xs) (heads e) ∙ ap (λ b. h x && b) (all_from_map g h xs (tails e))

-- ---- fixed values

odd_bit : (a : ℕ → Bool) (l : Lit) (n m : ℕ) → bit (lit_value a l) + 2 * m ≡ n → (b : Bool) → lit_value a l ≡ b → (lit_value a (if n % 2 == 0 then flip l else l) ≡ true) × (m ≡ n / 2)
odd_bit a l n m e true h =
    let one : bit (lit_value a l) ≡ 1 = ap bit h in
    let odd : n % 2 ≡ 1 = omega (arith, e, one) in
    (ap (λ k. lit_value a (if k == 0 then flip l else l)) odd ∙ h, omega (arith, e, one))
odd_bit a l n m e false h =
    let none : bit (lit_value a l) ≡ 0 = ap bit h in
    let even : n % 2 ≡ 0 = omega (arith, e, none) in
    (ap (λ k. lit_value a (if k == 0 then flip l else l)) even ∙ lit_value-flip a l ∙ ap not h, omega (arith, e, none))

-- bits that read as the number are as it is spelled
pub spelled : (a : ℕ → Bool) (ls : List Lit) (n : ℕ) → number a ls ≡ n → list_all (lit_value a) (spelling ls n) ≡ true
spelled a [] n e = refl
spelled a (l ∷ ls) n e =
    let here = odd_bit a l n (number a ls) (sym (number-cons a l ls) ∙ e) (lit_value a l) refl in
    both_true (lit_value a (if n % 2 == 0 then flip l else l)) (list_all (lit_value a) (spelling ls (n / 2))) here.0 (spelled a ls (n / 2) here.1)

spelled_or : (a : ℕ → Bool) (other n : ℕ) (o : Option (List Lit)) → read_or other a o ≡ n → list_all (lit_value a) (spelling_at o n) ≡ true
spelled_or a other n None e = refl
spelled_or a other n (Some ls) e = spelled a ls n e

-- the fixed values are spelled by a valuation whose bits read as an assignment that has them
pub all_spelled : (st r : Reading) (slots : List Slot) (bits : List (List Lit)) (a : ℕ → Bool) (f : FrameTerm) (fixed : List (ℕ × ℕ)) → reading_at st slots bits a ≡ r → AreFixed f r fixed
    → list_all (lit_value a) (flat_map (λ c. spelling_at (bits_where (is_at c.0 0) slots bits) c.1) fixed) ≡ true
all_spelled st r slots bits a f [] same h = refl
all_spelled st r slots bits a f (x ∷ fixed) same h =
    ap (list_all (lit_value a)) (flat_map-cons (λ c. spelling_at (bits_where (is_at c.0 0) slots bits) c.1) x fixed)
    ∙ list_all-append (lit_value a) (spelling_at (bits_where (is_at x.0 0) slots bits) x.1) (flat_map (λ c. spelling_at (bits_where (is_at c.0 0) slots bits) c.1) fixed)
    ∙ both_true _ _ (spelled_or a (st.element x.0 0) x.1 (bits_where (is_at x.0 0) slots bits) (ap (λ (y : Reading). y.element x.0 0) same ∙ h.0)) (all_spelled st r slots bits a f fixed same h.1)

-- ---- what an encoding says of a valuation

module _ (f : FrameTerm) (part : Part) (sizes : List ℕ) (k : ℕ) (hard soft : List Occurrence) (e : Encoded) (encodes : EncodesItems f part sizes k (hard ++ soft) e) (v : ℕ → Bool) (meets : Meets v e.cnf.clauses.items) where
  abbrev is_closed_true : Occurrence → Bool
  is_closed_true o = holds (read_of_phase f part sizes k v) (closed_of (state_at f sizes) o)

  roots_are : map (lit_value v) e.roots.items ≡ map is_closed_true (hard ++ soft)
  roots_are = encodes.roots v meets ∙ map_closed is_closed_true (state_at f sizes) (λ x. holds (read_of_phase f part sizes k v) x) (hard ++ soft) (λ o. refl)

  -- the roots of the hard items are true just where their closed expressions hold
  pub hard_held : list_all (lit_value v) (hard_roots e hard) ≡ true → list_all is_closed_true hard ≡ true
  hard_held h = items_true (lit_value v) is_closed_true e.roots.items hard soft roots_are h

  pub hard_rooted : list_all is_closed_true hard ≡ true → list_all (lit_value v) (hard_roots e hard) ≡ true
  hard_rooted h = roots_true (lit_value v) is_closed_true e.roots.items hard soft roots_are h

-- ---- proofs

module _ (f : FrameTerm) (part : Part) (sizes : List ℕ) (sound : IsSound f) (fit : SizesFit f sizes) (fixed : List (ℕ × ℕ)) where
  abbrev hard : List Occurrence
  hard = hard_of f part sizes

  -- the closed expressions of the hard items hold just where the items do
  pub closed_hold : (a : Reading) → IsAssignment f part sizes fixed a → list_all (λ o. holds a (closed_of (state_at f sizes) o)) hard ≡ all_true a hard
  closed_hold a is = all_from_map (λ o. holds a (closed_of (state_at f sizes) o)) (is_true a) hard (hard_truths f sizes sound fit part fixed a is)

  -- where the clauses refute the roots of the hard items under the fixed values, no assignment that has these meets them
  pub none_meets : (k : ℕ) → SizesAreWhole part k → (soft : List Occurrence) (e : Encoded) → EncodesItems f part sizes k (hard ++ soft) e
      → ((v : ℕ → Bool) → Meets v e.cnf.clauses.items → list_all (lit_value v) (fixed_lits e fixed ++ hard_roots e hard) ≡ true → ⊥) → Sat f part sizes fixed hard → ⊥
  none_meets k whole soft e encodes none sat =
      let a = sat.0 in
      let slots = unknowns_of f part sizes in
      let bits = positive_bits 0 (widths_of f k slots) in
      let b = reached (state_at f sizes) slots (widths_of f k slots) (closed_at f sizes (hard ++ soft)) e a encodes (fits_in f part sizes k whole fixed a sat.1) in
      let spelled : list_all (lit_value b.0) (fixed_lits e fixed) ≡ true =
      subst (λ (xs : List Slot). list_all (lit_value b.0) (flat_map (λ c. spelling_at (bits_where (is_at c.0 0) xs (rows e.bits.items)) c.1) fixed) ≡ true) (sym encodes.slots)
      (subst (λ (xs : List (List Lit)). list_all (lit_value b.0) (flat_map (λ c. spelling_at (bits_where (is_at c.0 0) slots xs) c.1) fixed) ≡ true) (sym encodes.bits)
      (all_spelled (state_at f sizes) a slots bits b.0 f fixed b.2 sat.1.chosen)) in
      let closed : list_all (λ o. holds (read_of_phase f part sizes k b.0) (closed_of (state_at f sizes) o)) hard ≡ true =
      ap (λ (r : Reading). list_all (λ o. holds r (closed_of (state_at f sizes) o)) hard) b.2 ∙ closed_hold a sat.1 ∙ sat.2 in
      let rooted : list_all (lit_value b.0) (hard_roots e hard) ≡ true = hard_rooted f part sizes k hard soft e encodes b.0 b.1 closed in
      none b.0 b.1 (list_all-append (lit_value b.0) (fixed_lits e fixed) (hard_roots e hard) ∙ rw (spelled, rooted) refl)

  -- A proof that stands shows that no assignment with the fixed values meets the hard items.
  pub proof_shows : (k : ℕ) → SizesAreWhole part k → (soft : List Occurrence) (encodings : List Encoded) (p : Proof) → Stands f part sizes k fixed hard soft no_lits encodings p → Sat f part sizes fixed hard → ⊥
  proof_shows k whole soft encodings p stands =
      none_meets k whole soft stands.encoding stands.encodes
      (λ v meets true_ones. no_valuation-from_accepted stands.encoding.cnf.clauses.items p.assume p.refutation.steps p.refutation.goal stands.refutes.1 stands.refutes.0 v meets
      (subst (λ ls. list_all (lit_value v) ls ≡ true) (sym stands.assumes)
      (list_all-append (lit_value v) (fixed_lits stands.encoding fixed ++ hard_roots stands.encoding hard) [] ∙ ap (λ b. b && true) true_ones)))
