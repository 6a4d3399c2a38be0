-- The part at a place: it fits, and where it is the same as an earlier one, that one's vector reads as it
use Rattle.std.proofs.Common.{◌≡◌, ℕ, zero, suc, ◌+◌, ◌<◌, ◌≤◌, Bool, List, [], ◌∷◌, ◌++◌, length, map, get_or, Option, None, Some, refl, sym, ap, ◌∙◌, subst, arith, Vec, Global}
use Rattle.std.proofs.lemmas.List.{map_push}
use Rattle.svr_typed.specs.ExprTerm.{ExprTerm}
use Rattle.svr_chain.specs.declared.clause.Lit.{Lit}
use Rattle.svr_gate.specs.Circuit.{Circuit, Extends, GivesNumber}
use Rattle.svr_vector.specs.Places.{rows}
use Rattle.svr_eval.specs.Reading.{Reading}
use Rattle.svr_eval.specs.Value.{size_of}
use Rattle.svr_eval.specs.Typed.{IsTyped}
use Rattle.svr_inputs.specs.declared.inputs.Inputs.{Inputs}
use Rattle.svr_inputs.specs.Served.{IsServed}
use Rattle.svr_encode.specs.declared.part.Part.{Part}
use Rattle.svr_encode.specs.Parts.{PartTerm, part_term, parts_of, AreRepeats}
use Rattle.svr_encode.specs.Given.{inner, part_value, GiveParts}
use Rattle.svr_encode.proofs.PartLemmas.{repeat_at, term_at, terms_len}
use Rattle.svr_encode.proofs.FitLemmas.{PartFits, parts_fit, fits_at, term_size, deeper}
use Rattle.svr_encode.proofs.GivenLemmas.{Reads, reads_more, reads_all}

pub part_fits : (count : ℕ → ℕ) (i : Inputs) (d w : ℕ) (s : Bool) (e : ExprTerm) (parts : List Part) → IsTyped e → IsServed i d e → size_of e ≤ w → w ≤ 64 → map part_term parts ≡ parts_of count e w s
    → (k : ℕ) (p : Part) → k < length parts → p ≡ get_or parts k p → PartFits i d (term_size e) (part_term p)
part_fits count i d w s e parts y r g h same k p lt is =
    let len : k < length (parts_of count e w s) = subst (λ (ts : List PartTerm). k < length ts) same (omega (arith, lt, terms_len parts)) in
    let at = fits_at i d (term_size e) (parts_of count e w s) k (part_term p) (parts_fit count i d w s e y r g h) len in
    subst (PartFits i d (term_size e)) (ap (λ ts. get_or ts k (part_term p)) (sym same) ∙ term_at parts k p (part_term p) lt is) at

any_default : (ts : List PartTerm) (k : ℕ) (d e : PartTerm) → k < length ts → get_or ts k d ≡ get_or ts k e
any_default [] k d e h = absurd (omega arith)
any_default (t ∷ ts) zero d e h = refl
any_default (t ∷ ts) (suc k) d e h = any_default ts k d e (omega arith)

pub repeat_given : (c : Circuit) (xs : List (List Lit)) (read : (ℕ → Bool) → Reading) (env : List ℕ) (n : ℕ) (parts : List Part) (d : PartTerm) (p : Part) → Reads c xs read env n (map part_term parts) d → AreRepeats [] parts → n < length parts → p ≡ get_or parts n p
    → (k : ℕ) → p.same ≡ Some k → (k < length xs) × GivesNumber c (get_or xs k []) p.width (λ v. part_value (read v) env (part_term p))
repeat_given c xs read env n parts d p reads again lt is k same =
    let r = repeat_at [] parts n p again lt is k same in
    let low : k < n = omega (arith, r.0) in
    let t : get_or (map part_term parts) k d ≡ part_term p = any_default (map part_term parts) k d (part_term p) (omega (arith, low, lt, terms_len parts)) ∙ r.1 in
    (omega (arith, low, reads.len), subst (λ (q : PartTerm). GivesNumber c (get_or xs k []) q.width (λ v. part_value (read v) env q)) t (reads.each k low))

pub inner_len : (env : List ℕ) (o : Option ℕ) → length (inner env o) ≡ deeper (length env) o
inner_len env None = refl
inner_len env (Some i) = longer env i where
  longer : (xs : List ℕ) (x : ℕ) → length (xs ++ x ∷ []) ≡ length xs + 1
  longer [] x = refl
  longer (y ∷ xs) x = omega (arith, longer xs x)

pub own_size : (e : ExprTerm) (w : ℕ) → size_of e ≡ w → (m : ℕ) → w ≤ m → size_of e ≤ m
own_size e w h m l = omega (arith, h, l)

-- no vector yet
pub reads_none : (c : Circuit) (read : (ℕ → Bool) → Reading) (env : List ℕ) (ps : List PartTerm) (d : PartTerm) → Reads c [] read env 0 ps d
reads_none c read env ps d = record { len = refl; each = λ j h. absurd (omega arith) }

-- the vector of one more part
pub reads_next : (c e : Circuit) (values : List (Vec Lit Global)) (value : Vec Lit Global) (read : (ℕ → Bool) → Reading) (env : List ℕ) (n : ℕ) (parts : List Part) (d : PartTerm) (p : Part) → Extends c e
    → Reads c (rows values) read env n (map part_term parts) d → n < length parts → p ≡ get_or parts n p → GivesNumber e value.items p.width (λ v. part_value (read v) env (part_term p))
    → Reads e (rows (values ++ value ∷ [])) read env (n + 1) (map part_term parts) d
reads_next c e values value read env n parts d p x reads lt is g =
    subst (λ (xs : List (List Lit)). Reads e xs read env (n + 1) (map part_term parts) d) (sym (map_push (λ (v : Vec Lit Global). v.items) values value))
    (reads_more value.items x reads (subst (λ (q : PartTerm). GivesNumber e value.items q.width (λ v. part_value (read v) env q)) (sym (term_at parts n p d lt is)) g))

-- all parts have their vectors
pub all_given : (c : Circuit) (xs : List (List Lit)) (read : (ℕ → Bool) → Reading) (env : List ℕ) (n : ℕ) (parts : List Part) (ts : List PartTerm) (d : PartTerm) → Reads c xs read env n (map part_term parts) d → n ≡ length parts → map part_term parts ≡ ts
    → GiveParts c xs read env 0 ts
all_given c xs read env n parts ts d reads all same =
    let len : length (map part_term parts) ≡ n = terms_len parts ∙ sym all in
    subst (λ (us : List PartTerm). GiveParts c xs read env 0 us) same (reads_all len reads)
