-- Parts of a set membership, one more
use Rattle.std.proofs.Common.{◌≡◌, ℕ, ◌<◌, Bool, List, [], ◌∷◌, ◌++◌, length, map, get_or, Some, sym, ap, ◌∙◌, subst, arith, append_assoc}
use Rattle.std.specs.Prelude.{◌&&◌, max, Result, Ok, Err, OnOk}
use Rattle.std.specs.List.{All, Contains}
use Rattle.std.proofs.lemmas.List.{map_push}
use Rattle.std.proofs.lemmas.List.Elements.{All-weaker, All-contains}
use Rattle.svr_typed.specs.ExprTerm.{ExprTerm}
use Rattle.svr_encode.specs.declared.part.Part.{Part}
use Rattle.svr_encode.specs.declared.set.Place.{Place}
use Rattle.svr_eval.specs.Value.{size_of, sign_of}
use Rattle.svr_encode.specs.Parts.{PartTerm, part_term, in_context, pair_parts, IsRepeat}
use Rattle.svr_encode.specs.Set.{IsPlaceOf}
use Rattle.svr_encode.proofs.PartLemmas.{in_front, one_longer, behind_all}

place_later : (tree : ExprTerm) (ts : List PartTerm) (t : PartTerm) (l : Place) → IsPlaceOf tree ts l → IsPlaceOf tree (ts ++ t ∷ []) l
place_later tree ts t l h = record {
  below = omega (arith, h.below, one_longer ts t);
  same = in_front ts (t ∷ []) l.at (in_context l.width l.signed tree) h.below ∙ h.same;
}

-- one part more keeps the places
pub places_later : (tree : ExprTerm) (ps : List Part) (p : Part) (ls : List Place) → All (IsPlaceOf tree (map part_term ps)) ls → All (IsPlaceOf tree (map part_term (ps ++ p ∷ []))) ls
places_later tree ps p ls h =
    subst (λ (ts : List PartTerm). All (IsPlaceOf tree ts) ls) (sym (map_push part_term ps p))
    (All-weaker (IsPlaceOf tree (map part_term ps)) (IsPlaceOf tree (map part_term ps ++ part_term p ∷ [])) (place_later tree (map part_term ps) (part_term p)) ls h)

-- a left side that has a place is the same as the part there
pub left_again : (tree : ExprTerm) (ps : List Part) (ls : List Place) (p : Part) (w k : ℕ) (s : Bool) → All (IsPlaceOf tree (map part_term ps)) ls → part_term p ≡ in_context w s tree → p.same ≡ Some k
    → (l : Place) → Contains ls l → l.width ≡ w → l.signed ≡ s → l.at ≡ k → IsRepeat (map part_term ps) p
left_again tree ps ls p w k s h e same l has ew es ek = record { earlier = λ j q. at j (let x : k ≡ j = cc in ek ∙ x) } where
  place : IsPlaceOf tree (map part_term ps) l
  place = All-contains (IsPlaceOf tree (map part_term ps)) ls l h has

  is : part_term p ≡ in_context l.width l.signed tree
  is = e ∙ ap (λ n. in_context n s tree) (sym ew) ∙ ap (λ b. in_context l.width b tree) (sym es)

  at : (j : ℕ) → l.at ≡ j → (j < length (map part_term ps)) × (get_or (map part_term ps) j (part_term p) ≡ part_term p)
  at j q = (
    omega (arith, place.below),
    ap (λ n. get_or (map part_term ps) n (part_term p)) (sym q) ∙ ap (get_or (map part_term ps) l.at) is ∙ place.same ∙ sym is,
  )

-- a new place is that of the part behind all others
pub new_place : (tree : ExprTerm) (ps : List Part) (p : Part) (w n : ℕ) (s : Bool) (l : Place) → part_term p ≡ in_context w s tree → n ≡ length ps → l ≡ record { width = w; signed = s; at = n } → IsPlaceOf tree (map part_term (ps ++ p ∷ [])) l
new_place tree ps p w n s l e len is =
    subst (IsPlaceOf tree (map part_term (ps ++ p ∷ []))) (sym is)
    (record {
      below = omega (arith, len, (behind_all ps p (in_context w s tree)).0);
      same = ap (λ k. get_or (map part_term (ps ++ p ∷ [])) k (in_context w s tree)) len ∙ (behind_all ps p (in_context w s tree)).1 ∙ e;
    })

-- both operands at their common width and sign, one after the other
pair_more : (old mid new : List PartTerm) (w : ℕ) (s : Bool) (x y : ExprTerm) → w ≡ max (size_of x) (size_of y) → s ≡ (sign_of x && sign_of y) → mid ≡ old ++ in_context w s x ∷ [] → new ≡ mid ++ in_context w s y ∷ [] → new ≡ old ++ pair_parts x y
pair_more old mid new w s x y wide signed e f =
    f
    ∙ ap (λ ts. ts ++ in_context w s y ∷ []) e
    ∙ append_assoc old (in_context w s x ∷ []) (in_context w s y ∷ [])
    ∙ ap (λ n. old ++ in_context n s x ∷ in_context n s y ∷ []) wide
    ∙ ap (λ t. old ++ in_context (max (size_of x) (size_of y)) t x ∷ in_context (max (size_of x) (size_of y)) t y ∷ []) signed

pub pair_added : {E : Type 0} (r : Result (Unit {0}) E) (old mid new : List PartTerm) (w : ℕ) (s : Bool) (x y : ExprTerm) → w ≡ max (size_of x) (size_of y) → s ≡ (sign_of x && sign_of y) → mid ≡ old ++ in_context w s x ∷ []
    → OnOk r (new ≡ mid ++ in_context w s y ∷ []) → OnOk r (new ≡ old ++ pair_parts x y)
pair_added (Ok u) old mid new w s x y wide signed e f = pair_more old mid new w s x y wide signed e f
pair_added (Err n) old mid new w s x y wide signed e f = tt
