-- Whether an occurrence counts in a phase does not depend on the indexes of its loops.
use Rattle.std.proofs.Common.{◌≡◌, ℕ, Bool, not, ◌&&◌, ◌||◌, refl, sym, ◌∙◌, ap, List, [], ◌∷◌, ◌++◌, map, Option, None, Some}
use Rattle.std.specs.List.{list_any}
use Rattle.std.proofs.lemmas.List.Folds.{list_any-append}
use Rattle.svr_operator.specs.declared.Share.{Share}
use Rattle.svr_typed.specs.ExprTerm.{ExprTerm, RangeTerm}
use Rattle.svr_typed.specs.ItemTerm.{DistTerm}
use Rattle.svr_frame.specs.declared.part.Part.{Part}
use Rattle.svr_frame.specs.declared.part.Part.TheVariants.{Randc, Sizes, All}
use Rattle.svr_frame.specs.Frame.{FrameTerm, is_random, is_cyclic}
use Rattle.svr_frame.specs.Occurrences.{Guard, Fact, stated, dealt, disabled, Occurrence, Shape, is_disable, is_hard}
use Rattle.svr_frame.specs.Reads.{Read, of_size, property_read, is_element_read, reads, range_reads, weight_reads, dist_reads, fact_reads, guards_read, reads_of}
use Rattle.svr_frame.specs.Phases.{shape_at, belongs, is_soft_of}
use Rattle.svr_frame.specs.Weight.{counts}
use Rattle.svr_frame.proofs.Blind.{IsBlind, any_reads, any_range_reads}
use Rattle.svr_weight.proofs.Weights.{AlikeGuards, AlikeOccurrences, IsEven}

module _ (sh : Shape) (t : Read → Bool) (blind : IsBlind t) where
  any_free : (env env' : List ℕ) (e : ExprTerm) → list_any t (reads sh env e) ≡ list_any t (reads sh env' e)
  any_free env env' e = sym (any_reads sh sh (λ p. refl) t blind [] [] env 0 e) ∙ any_reads sh sh (λ p. refl) t blind [] [] env' 0 e

  any_range_free : (env env' : List ℕ) (r : RangeTerm) → list_any t (range_reads sh env r) ≡ list_any t (range_reads sh env' r)
  any_range_free env env' r = sym (any_range_reads sh sh (λ p. refl) t blind [] [] env 0 r) ∙ any_range_reads sh sh (λ p. refl) t blind [] [] env' 0 r

  join : (xs ys xs' ys' : List Read) → list_any t xs ≡ list_any t xs' → list_any t ys ≡ list_any t ys' → list_any t (xs ++ ys) ≡ list_any t (xs' ++ ys')
  join xs ys xs' ys' h k = list_any-append t xs ys ∙ (λ i. h i || k i) ∙ sym (list_any-append t xs' ys')

  any_weight_free : (env env' : List ℕ) (w : Option (Share × ExprTerm)) → list_any t (weight_reads sh env w) ≡ list_any t (weight_reads sh env' w)
  any_weight_free env env' None = refl
  any_weight_free env env' (Some w) = any_free env env' w.1

  any_dist_free : (env env' : List ℕ) (ds : List DistTerm) → list_any t (dist_reads sh env ds) ≡ list_any t (dist_reads sh env' ds)
  any_dist_free env env' [] = refl
  any_dist_free env env' (d ∷ ds) =
      join (range_reads sh env d.range ++ weight_reads sh env d.weight) (dist_reads sh env ds) (range_reads sh env' d.range ++ weight_reads sh env' d.weight) (dist_reads sh env' ds)
      (join (range_reads sh env d.range) (weight_reads sh env d.weight) (range_reads sh env' d.range) (weight_reads sh env' d.weight) (any_range_free env env' d.range) (any_weight_free env env' d.weight))
      (any_dist_free env env' ds)

  any_fact_free : (env env' : List ℕ) (f : Fact) → list_any t (fact_reads sh env f) ≡ list_any t (fact_reads sh env' f)
  any_fact_free env env' (stated e) = any_free env env' e
  any_fact_free env env' (dealt e ds) = join (reads sh env e) (dist_reads sh env ds) (reads sh env' e) (dist_reads sh env' ds) (any_free env env' e) (any_dist_free env env' ds)
  any_fact_free env env' (disabled target) = any_free env env' target

  any_guards_alike : (gs hs : List Guard) → AlikeGuards gs hs → list_any t (guards_read sh gs) ≡ list_any t (guards_read sh hs)
  any_guards_alike [] [] h = refl
  any_guards_alike [] (g ∷ hs) h = absurd h
  any_guards_alike (g ∷ gs) [] h = absurd h
  any_guards_alike (g ∷ gs) (g' ∷ hs) h =
      join (reads sh g.env g.test) (guards_read sh gs) (reads sh g'.env g'.test) (guards_read sh hs)
      (any_free g.env g'.env g.test ∙ ap (λ (e : ExprTerm). list_any t (reads sh g'.env e)) h.0) (any_guards_alike gs hs h.2)

  pub any_alike : (o o' : Occurrence) → AlikeOccurrences o o' → list_any t (reads_of sh o) ≡ list_any t (reads_of sh o')
  any_alike o o' h =
      join (fact_reads sh o.place.env o.fact ++ guards_read sh o.place.guards) (map of_size o.place.over) (fact_reads sh o'.place.env o'.fact ++ guards_read sh o'.place.guards) (map of_size o'.place.over)
      (join (fact_reads sh o.place.env o.fact) (guards_read sh o.place.guards) (fact_reads sh o'.place.env o'.fact) (guards_read sh o'.place.guards)
      (any_fact_free o.place.env o'.place.env o.fact ∙ ap (λ (x : Fact). list_any t (fact_reads sh o'.place.env x)) h.fact) (any_guards_alike o.place.guards o'.place.guards h.place.guards))
      (ap (λ (x : List ℕ). list_any t (map of_size x)) h.place.over)

module _ (f : FrameTerm) where
  hard_alike : (o o' : Occurrence) → AlikeOccurrences o o' → is_hard o ≡ is_hard o'
  hard_alike o o' h = λ k. not (h.soft k) && not (is_disable (h.fact k))

  belongs_alike : (part : Part) (ns : List ℕ) (o o' : Occurrence) → AlikeOccurrences o o' → belongs f part ns o ≡ belongs f part ns o'
  belongs_alike Randc ns o o' h =
      λ k. any_alike (shape_at f ns) (λ r. is_random f (property_read r)) (λ p env env' e e'. refl, λ p m env env' e e' g g'. refl) o o' h k
      && not (any_alike (shape_at f ns) (λ r. is_random f (property_read r) && not (is_cyclic f (property_read r))) (λ p env env' e e'. refl, λ p m env env' e e' g g'. refl) o o' h k)
  belongs_alike Sizes ns o o' h =
      λ k. not (any_alike (shape_at f ns) (λ r. is_element_read r && is_random f (property_read r)) (λ p env env' e e'. refl, λ p m env env' e e' g g'. refl) o o' h k) && not (h.place.loops k)
  belongs_alike All ns o o' h = refl

  soft_alike : (part : Part) (ns : List ℕ) (o o' : Occurrence) → AlikeOccurrences o o' → is_soft_of f part ns o ≡ is_soft_of f part ns o'
  soft_alike Randc ns o o' h = refl
  soft_alike Sizes ns o o' h = λ k. h.soft k && belongs_alike Sizes ns o o' h k
  soft_alike All ns o o' h = h.soft

  -- whether an occurrence counts does not depend on indexes
  pub counts_even : (sh : Shape) (free : ℕ → Bool) (part : Part) (ns : List ℕ) → IsEven sh free (counts f part ns)
  counts_even sh free part ns o o' h = λ k. (hard_alike o o' h k && belongs_alike part ns o o' h k) || soft_alike part ns o o' h k
