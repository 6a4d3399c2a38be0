-- A turn of a loop that finds nothing tells that no turn finds anything, where no `disable soft` is looked at.
use Rattle.std.proofs.Common.{◌≡◌, ◌==◌, ◌/◌, ℕ, zero, suc, ◌+◌, Bool, true, false, not, ◌&&◌, ◌||◌, refl, sym, ◌∙◌, ap, List, [], ◌∷◌, ◌++◌, map, length, Option, None, Some, append-nil, arith, length-append}
use Rattle.std.specs.Prelude.{if◌then◌else◌, ⊤}
use Rattle.std.specs.List.{list_any}
use Rattle.std.proofs.lemmas.Grind.{flat_map-append}
use Rattle.std.proofs.lemmas.List.{length-map}
use Rattle.std.proofs.lemmas.List.Folds.{list_any-append}
use Rattle.std.proofs.lemmas.Bool.{and_parts, not-true, eqb-true}
use Rattle.svr_typed.specs.ExprTerm.{ExprTerm}
use Rattle.svr_typed.specs.ItemTerm.{DistTerm, ItemTerm, plain, unique, implies, branch, foreach, disable, solve, ItemTerms, no_items, more_items, ElseTerm, no_else, else_items}
use Rattle.svr_eval.specs.Reading.{Reading, reading_of}
use Rattle.svr_frame.specs.declared.part.Part.{Part}
use Rattle.svr_frame.specs.declared.part.Part.TheVariants.{Randc, Sizes, All}
use Rattle.svr_frame.specs.declared.sought.Sought.{Sought}
use Rattle.svr_frame.specs.declared.sought.Sought.TheVariants.{Random, NotCyclic, RandomElement}
use Rattle.svr_frame.specs.Frame.{FrameTerm, frame_term, has_free_size}
use Rattle.svr_frame.specs.Occurrences.{Guard, Place, Fact, stated, dealt, disabled, Occurrence, occurrence, under, within, stands_in_loop, has_index, members, pairs, each_below, each_of_row, fact_of, occur, all_occur, else_occur, are_met, closed_of}
use Rattle.svr_frame.specs.Reads.{Read, of_size, fact_reads, dist_reads, guards_read, reads, reads_of, has_free_size_in}
use Rattle.svr_frame.specs.Finds.{is_one}
use Rattle.svr_frame.specs.Phases.{shape_at, belongs, is_soft_of, node_of}
use Rattle.svr_frame.proofs.Found.{found, members_found}
use Rattle.svr_mention.specs.Mentioned.{mentions_in, counts_by, shape_in}
use Rattle.svr_expand.specs.Expanded.{FindingTerm, gone, one_counted, one_found, one_gone, looks_at, targets_of, finding_of, found_among, disables, any_disables, else_disables, turns_differ, guards_of, place_of, over_of, found_in_all, all_found_in, finding_term, findings}
use Rattle.svr_expand.specs.Loops.{found_within, found_in_row, found_in_loop}
use Rattle.svr_expand.specs.declared.finding.Finding.{Finding}
use Rattle.svr_expand.specs.declared.around.Around.{Around}
use Rattle.svr_mention.specs.declared.setting.Setting.{Setting}
use Rattle.svr_expand.proofs.AllFound.{hard_counts, soft_counts}
use Rattle.svr_expand.proofs.Joined.{found_more}

-- ---- lists

no_front : {A : Type 0} (xs ys : List A) → xs ++ ys ≡ [] → xs ≡ []
no_front [] ys h = refl
no_front (x ∷ xs) ys h = cc

no_back : {A : Type 0} (xs ys : List A) → xs ++ ys ≡ [] → ys ≡ []
no_back [] ys h = h
no_back (x ∷ xs) ys h = cc

only_none : {A : Type 0} (b : Bool) (x : A) → (if b then x ∷ [] else []) ≡ [] → b ≡ false
only_none true x h = cc
only_none false x h = refl

none_only : {A : Type 0} (b : Bool) (x : A) → b ≡ false → (if b then x ∷ [] else []) ≡ []
none_only true x h = cc
none_only false x h = refl

no_length : {A : Type 0} (xs : List A) → length xs ≡ 0 → xs ≡ []
no_length [] h = refl
no_length (x ∷ xs) h = absurd (omega (arith, h))

-- a piece that makes a list no longer
nothing_added : {A : Type 0} (mid new xs : List A) → new ≡ mid ++ xs → length new ≡ length mid → xs ≡ []
nothing_added mid new xs h k = let e : length (mid ++ xs) ≡ length mid + length xs = length-append mid xs in let l : length new ≡ length (mid ++ xs) = ap length h in no_length xs (omega (arith, e, l, k))

-- ---- parts of items whose turns do not differ

or_parts : (b c : Bool) → (b || c) ≡ false → (b ≡ false) × (c ≡ false)
or_parts true c h = cc
or_parts false c h = (refl, h)

or_none : (b : Bool) → b ≡ false → (b || false) ≡ false
or_none true h = cc
or_none false h = refl

abbrev else_differs : Part → ElseTerm → Bool
else_differs Randc e = false
else_differs Sizes e = false
else_differs All e = else_disables e

differ_more : (p : Part) (i : ItemTerm) (is : ItemTerms) → turns_differ p (more_items i is) ≡ false → (turns_differ p (more_items i no_items) ≡ false) × (turns_differ p is ≡ false)
differ_more Randc i is h = (refl, refl)
differ_more Sizes i is h = (refl, refl)
differ_more All i is h = let parts = or_parts (disables i) (any_disables is) h in (or_none (disables i) parts.0, parts.1)

differ_implies : (p : Part) (t : ExprTerm) (body : ItemTerms) → turns_differ p (more_items (implies t body) no_items) ≡ false → turns_differ p body ≡ false
differ_implies Randc t body h = refl
differ_implies Sizes t body h = refl
differ_implies All t body h = (or_parts (any_disables body) false h).0

differ_foreach : (p : Part) (q m names : ℕ) (body : ItemTerms) → turns_differ p (more_items (foreach q m names body) no_items) ≡ false → turns_differ p body ≡ false
differ_foreach Randc q m names body h = refl
differ_foreach Sizes q m names body h = refl
differ_foreach All q m names body h = (or_parts (any_disables body) false h).0

differ_branch : (p : Part) (t : ExprTerm) (met : ItemTerms) (unmet : ElseTerm) → turns_differ p (more_items (branch t met unmet) no_items) ≡ false → (turns_differ p met ≡ false) × (else_differs p unmet ≡ false)
differ_branch Randc t met unmet h = (refl, refl)
differ_branch Sizes t met unmet h = (refl, refl)
differ_branch All t met unmet h = or_parts (any_disables met) (else_disables unmet) (or_parts (any_disables met || else_disables unmet) false h).0

differ_else : (p : Part) (is : ItemTerms) → else_differs p (else_items is) ≡ false → turns_differ p is ≡ false
differ_else Randc is h = refl
differ_else Sizes is h = refl
differ_else All is h = h

-- ---- places that differ in their indexes alone

abbrev pub SameTests : List Guard → List Guard → Type 0
SameTests [] [] = ⊤
SameTests [] (h ∷ hs) = ⊥
SameTests (g ∷ gs) [] = ⊥
SameTests (g ∷ gs) (h ∷ hs) = (g.test ≡ h.test) × SameTests gs hs

same_tests : (gs : List Guard) → SameTests gs gs
same_tests [] = tt
same_tests (g ∷ gs) = (refl, same_tests gs)

record Alike (at bt : Place) : Type 0 where
  over : at.over ≡ bt.over
  guards : SameTests at.guards bt.guards
  here : stands_in_loop at ≡ true
  there : stands_in_loop bt ≡ true

has_last : (env : List ℕ) (i : ℕ) → has_index (env ++ i ∷ []) ≡ true
has_last [] i = refl
has_last (j ∷ env) i = refl

alike_within : (p i j : ℕ) (at bt : Place) → at.over ≡ bt.over → SameTests at.guards bt.guards → Alike (within p i at) (within p j bt)
alike_within p i j at bt h k = record { over = ap (λ xs. xs ++ p ∷ []) h; guards = k; here = has_last at.env i; there = has_last bt.env j }

alike_under : (t : ExprTerm) (wanted : Bool) (at bt : Place) → Alike at bt → Alike (under t wanted at) (under t wanted bt)
alike_under t wanted at bt h = record { over = h.over; guards = (refl, h.guards); here = h.here; there = h.there }

module _ (f : FrameTerm) (ns : List ℕ) where
  module _ (s : Sought) where
    abbrev any : List Read → Bool
    any rs = list_any (is_one f s) rs

    both : (xs ys zs ws : List Read) → any xs ≡ any zs → any ys ≡ any ws → any (xs ++ ys) ≡ any (zs ++ ws)
    both xs ys zs ws h k = list_any-append (is_one f s) xs ys ∙ (λ i. h i || k i) ∙ sym (list_any-append (is_one f s) zs ws)

    expr_same : (env fnv : List ℕ) (e : ExprTerm) → any (reads (shape_at f ns) env e) ≡ any (reads (shape_at f ns) fnv e)
    expr_same env fnv e = found f ns s env e ∙ sym (found f ns s fnv e)

    members_same : (env fnv : List ℕ) (ds : List DistTerm) → any (dist_reads (shape_at f ns) env ds) ≡ any (dist_reads (shape_at f ns) fnv ds)
    members_same env fnv ds = members_found f ns s env ds ∙ sym (members_found f ns s fnv ds)

    fact_same : (env fnv : List ℕ) (fact : Fact) → any (fact_reads (shape_at f ns) env fact) ≡ any (fact_reads (shape_at f ns) fnv fact)
    fact_same env fnv (stated e) = expr_same env fnv e
    fact_same env fnv (dealt e ds) =
        both (reads (shape_at f ns) env e) (dist_reads (shape_at f ns) env ds) (reads (shape_at f ns) fnv e) (dist_reads (shape_at f ns) fnv ds) (expr_same env fnv e) (members_same env fnv ds)
    fact_same env fnv (disabled target) = expr_same env fnv target

    guards_same : (gs hs : List Guard) → SameTests gs hs → any (guards_read (shape_at f ns) gs) ≡ any (guards_read (shape_at f ns) hs)
    guards_same [] [] k = refl
    guards_same [] (h ∷ hs) k = absurd k
    guards_same (g ∷ gs) [] k = absurd k
    guards_same (g ∷ gs) (h ∷ hs) k =
        both (reads (shape_at f ns) g.env g.test) (guards_read (shape_at f ns) gs) (reads (shape_at f ns) h.env h.test) (guards_read (shape_at f ns) hs)
        (expr_same g.env h.env g.test ∙ ap (λ t. any (reads (shape_at f ns) h.env t)) k.0) (guards_same gs hs k.1)

    reads_same : (at bt : Place) (soft : Bool) (fact : Fact) → Alike at bt → any (reads_of (shape_at f ns) (occurrence at soft fact)) ≡ any (reads_of (shape_at f ns) (occurrence bt soft fact))
    reads_same at bt soft fact h =
        both (fact_reads (shape_at f ns) at.env fact ++ guards_read (shape_at f ns) at.guards) (map of_size at.over) (fact_reads (shape_at f ns) bt.env fact ++ guards_read (shape_at f ns) bt.guards) (map of_size bt.over)
        (both (fact_reads (shape_at f ns) at.env fact) (guards_read (shape_at f ns) at.guards) (fact_reads (shape_at f ns) bt.env fact) (guards_read (shape_at f ns) bt.guards)
        (fact_same at.env bt.env fact) (guards_same at.guards bt.guards h.guards))
        (ap (λ ps. any (map of_size ps)) h.over)

  belongs_alike : (p : Part) (at bt : Place) (soft : Bool) (fact : Fact) → Alike at bt → belongs f p ns (occurrence at soft fact) ≡ belongs f p ns (occurrence bt soft fact)
  belongs_alike Randc at bt soft fact h = λ k. reads_same Random at bt soft fact h k && not (reads_same NotCyclic at bt soft fact h k)
  belongs_alike Sizes at bt soft fact h = λ k. not (reads_same RandomElement at bt soft fact h k) && not ((h.here ∙ sym h.there) k)
  belongs_alike All at bt soft fact h = refl

  soft_alike : (p : Part) (at bt : Place) (fact : Fact) → Alike at bt → is_soft_of f p ns (occurrence at true fact) ≡ is_soft_of f p ns (occurrence bt true fact)
  soft_alike Randc at bt fact h = refl
  soft_alike Sizes at bt fact h = belongs_alike Sizes at bt true fact h
  soft_alike All at bt fact h = refl

  not_looked : (p : Part) (bt : Place) (target : ExprTerm) → stands_in_loop bt ≡ true → turns_differ p (more_items (disable target) no_items) ≡ false → looks_at f ns p bt target ≡ false
  not_looked Randc bt target h k = refl
  not_looked Sizes bt target h k = ap (λ b. not b && not (has_free_size_in (shape_at f ns) (has_free_size f) target)) h
  not_looked All bt target h k = cc

  module _ (part : Part) (a : Reading) where
    abbrev found_in : List Occurrence → List FindingTerm
    found_in os = found_among f part ns a os

    counts_alike : (soft : Bool) (at bt : Place) (fact : Fact) → Alike at bt
        → counts_by f part soft (stands_in_loop at) (mentions_in f part ns a (occurrence at soft fact)) ≡ counts_by f part soft (stands_in_loop bt) (mentions_in f part ns a (occurrence bt soft fact))
    counts_alike true at bt fact h = soft_counts f part ns a part at fact ∙ soft_alike part at bt fact h ∙ sym (soft_counts f part ns a part bt fact)
    counts_alike false at bt fact h = hard_counts f part ns a part at fact ∙ belongs_alike part at bt false fact h ∙ sym (hard_counts f part ns a part bt fact)

    counted_still : (soft : Bool) (at bt : Place) (fact : Fact) → Alike at bt → one_counted f part ns a (occurrence at soft fact) ≡ [] → one_counted f part ns a (occurrence bt soft fact) ≡ []
    counted_still soft at bt fact h k =
        none_only (counts_by f part soft (stands_in_loop bt) (mentions_in f part ns a (occurrence bt soft fact))) (one_found soft (closed_of a (occurrence bt soft fact)) (mentions_in f part ns a (occurrence bt soft fact)))
        (sym (counts_alike soft at bt fact h)
        ∙ only_none (counts_by f part soft (stands_in_loop at) (mentions_in f part ns a (occurrence at soft fact))) (one_found soft (closed_of a (occurrence at soft fact)) (mentions_in f part ns a (occurrence at soft fact))) k)

    found_two : (os ps : List Occurrence) → found_in os ≡ [] → found_in ps ≡ [] → found_in (os ++ ps) ≡ []
    found_two os ps h k = flat_map-append (finding_of f part ns a) os ps ∙ (λ i. h i ++ k i)

    found_front : (os ps : List Occurrence) → found_in (os ++ ps) ≡ [] → found_in os ≡ []
    found_front os ps h = no_front (found_in os) (found_in ps) (sym (flat_map-append (finding_of f part ns a) os ps) ∙ h)

    found_back : (os ps : List Occurrence) → found_in (os ++ ps) ≡ [] → found_in ps ≡ []
    found_back os ps h = no_back (found_in os) (found_in ps) (sym (flat_map-append (finding_of f part ns a) os ps) ∙ h)

    -- turns that each find nothing
    pub none_in_turns : (n : ℕ) (g : ℕ → List Occurrence) → ((i : ℕ) → found_in (g i) ≡ []) → found_in (each_below n g) ≡ []
    none_in_turns zero g h = refl
    none_in_turns (suc n) g h = found_two (each_below n g) (g n) (none_in_turns n g h) (h n)

    each_still : (n : ℕ) (g h : ℕ → List Occurrence) → ((i j : ℕ) → found_in (g i) ≡ [] → found_in (h j) ≡ []) → found_in (each_below n g) ≡ [] → found_in (each_below n h) ≡ []
    each_still zero g h k t = refl
    each_still (suc n) g h k t = none_in_turns (suc n) h (λ j. k n j (found_back (each_below n g) (g n) t))

    pair_still : (at bt : Place) (es : List ExprTerm) → Alike at bt → found_in (map (λ e. occurrence at false (stated e)) es) ≡ [] → found_in (map (λ e. occurrence bt false (stated e)) es) ≡ []
    pair_still at bt [] h k = refl
    pair_still at bt (e ∷ es) h k =
        found_two (occurrence bt false (stated e) ∷ []) (map (λ d. occurrence bt false (stated d)) es)
        (append-nil (one_counted f part ns a (occurrence bt false (stated e)))
        ∙ counted_still false at bt (stated e) h
        (sym (append-nil (one_counted f part ns a (occurrence at false (stated e)))) ∙ found_front (occurrence at false (stated e) ∷ []) (map (λ d. occurrence at false (stated d)) es) k))
        (pair_still at bt es h (found_back (occurrence at false (stated e) ∷ []) (map (λ d. occurrence at false (stated d)) es) k))

    plain_still : (soft : Bool) (at bt : Place) (e : ExprTerm) (d : Option (List DistTerm)) → Alike at bt → found_in (occurrence at soft (fact_of e d) ∷ []) ≡ [] → found_in (occurrence bt soft (fact_of e d) ∷ []) ≡ []
    plain_still soft at bt e None h k =
        append-nil (one_counted f part ns a (occurrence bt soft (stated e))) ∙ counted_still soft at bt (stated e) h (sym (append-nil (one_counted f part ns a (occurrence at soft (stated e)))) ∙ k)
    plain_still soft at bt e (Some ds) h k =
        append-nil (one_counted f part ns a (occurrence bt soft (dealt e ds))) ∙ counted_still soft at bt (dealt e ds) h (sym (append-nil (one_counted f part ns a (occurrence at soft (dealt e ds)))) ∙ k)

    gone_still : (bt : Place) (target : ExprTerm) → looks_at f ns part bt target ≡ false → found_in (occurrence bt false (disabled target) ∷ []) ≡ []
    gone_still bt target h =
        append-nil (one_gone f part ns a bt target)
        ∙ ap (λ b. if b && are_met a bt.guards then map gone (targets_of a bt.env (node_of f part ns target)) else []) h

    row_still : (p m names : ℕ) (body : ItemTerms) (at bt : Place) → Alike at bt
        → ((ct dt : Place) → Alike ct dt → found_in (all_occur (shape_at f ns) ct body) ≡ [] → found_in (all_occur (shape_at f ns) dt body) ≡ [])
        → found_in (each_of_row p m names (λ inner. all_occur (shape_at f ns) inner body) at) ≡ [] → found_in (each_of_row p m names (λ inner. all_occur (shape_at f ns) inner body) bt) ≡ []
    row_still p m names body at bt h still = by (names == 2)
      where
        by : (b : Bool)
            → found_in (if b then each_below m (λ r. all_occur (shape_at f ns) (within p r at) body) else all_occur (shape_at f ns) at body) ≡ []
            → found_in (if b then each_below m (λ r. all_occur (shape_at f ns) (within p r bt) body) else all_occur (shape_at f ns) bt body) ≡ []
        by true t =
            each_still m (λ r. all_occur (shape_at f ns) (within p r at) body) (λ r. all_occur (shape_at f ns) (within p r bt) body)
            (λ q r. still (within p q at) (within p r bt) (alike_within p q r at bt h.over h.guards)) t
        by false t = still at bt h t

    mutual
      item_still : (at bt : Place) (i : ItemTerm) → Alike at bt → turns_differ part (more_items i no_items) ≡ false → found_in (occur (shape_at f ns) at i) ≡ [] → found_in (occur (shape_at f ns) bt i) ≡ []
      item_still at bt (plain soft e dist) h d k = plain_still soft at bt e dist h k
      item_still at bt (unique es) h d k = pair_still at bt (pairs (members (shape_at f ns) es)) h k
      item_still at bt (implies t body) h d k = items_still (under t true at) (under t true bt) body (alike_under t true at bt h) (differ_implies part t body d) k
      item_still at bt (branch t met unmet) h d k =
          let parts = differ_branch part t met unmet d in
          found_two (all_occur (shape_at f ns) (under t true bt) met) (else_occur (shape_at f ns) (under t false bt) unmet)
          (items_still (under t true at) (under t true bt) met (alike_under t true at bt h) parts.0 (found_front (all_occur (shape_at f ns) (under t true at) met) (else_occur (shape_at f ns) (under t false at) unmet) k))
          (else_still (under t false at) (under t false bt) unmet (alike_under t false at bt h) parts.1 (found_back (all_occur (shape_at f ns) (under t true at) met) (else_occur (shape_at f ns) (under t false at) unmet) k))
      item_still at bt (foreach p m names body) h d k =
          each_still ((shape_at f ns).size p / m) (λ i. each_of_row p m names (λ inner. all_occur (shape_at f ns) inner body) (within p i at)) (λ i. each_of_row p m names (λ inner. all_occur (shape_at f ns) inner body) (within p i bt))
          (λ i j. row_still p m names body (within p i at) (within p j bt) (alike_within p i j at bt h.over h.guards) (λ ct dt al. items_still ct dt body al (differ_foreach part p m names body d))) k
      item_still at bt (disable target) h d k = gone_still bt target (not_looked part bt target h.there d)
      item_still at bt (solve first later) h d k = refl

      items_still : (at bt : Place) (is : ItemTerms) → Alike at bt → turns_differ part is ≡ false → found_in (all_occur (shape_at f ns) at is) ≡ [] → found_in (all_occur (shape_at f ns) bt is) ≡ []
      items_still at bt no_items h d k = refl
      items_still at bt (more_items i is) h d k =
          let parts = differ_more part i is d in
          found_two (occur (shape_at f ns) bt i) (all_occur (shape_at f ns) bt is) (item_still at bt i h parts.0 (found_front (occur (shape_at f ns) at i) (all_occur (shape_at f ns) at is) k))
          (items_still at bt is h parts.1 (found_back (occur (shape_at f ns) at i) (all_occur (shape_at f ns) at is) k))

      else_still : (at bt : Place) (e : ElseTerm) → Alike at bt → else_differs part e ≡ false → found_in (else_occur (shape_at f ns) at e) ≡ [] → found_in (else_occur (shape_at f ns) bt e) ≡ []
      else_still at bt no_else h d k = refl
      else_still at bt (else_items is) h d k = items_still at bt is h (differ_else part is d) k

-- ---- loops of the walk

-- what tells that a loop is over
pub over_facts : (differ over : Bool) (before after : ℕ) → over ≡ (not differ && (after == before)) → over ≡ true → (differ ≡ false) × (after ≡ before)
over_facts differ over before after h k = let two = and_parts (not differ) (after == before) (sym h ∙ k) in (not-true differ two.0, eqb-true after before two.1)

same_lengths : (mid new : List Finding) → length new ≡ length mid → length (findings new) ≡ length (findings mid)
same_lengths mid new same = length-map new finding_term ∙ same ∙ sym (length-map mid finding_term)

module _ (x : Setting) (turn : ℕ → List Occurrence) where
  -- one turn more
  turn_added : (i : ℕ) (old mid new : List Finding) → findings mid ≡ findings old ++ found_in_all x (each_below i turn) → findings new ≡ findings mid ++ found_in_all x (turn i) → findings new ≡ findings old ++ found_in_all x (each_below (i + 1) turn)
  turn_added i old mid new h k = found_more (finding_of (frame_term x.frame.now) x.part x.sizes.now (reading_of x.state.now)) (findings old) (findings mid) (findings new) i turn h k

  module _ (still : (i j : ℕ) → found_in_all x (turn i) ≡ [] → found_in_all x (turn j) ≡ []) where
    no_turns : (i n : ℕ) → found_in_all x (turn i) ≡ [] → found_in_all x (each_below n turn) ≡ []
    no_turns i n h = none_in_turns (frame_term x.frame.now) x.sizes.now x.part (reading_of x.state.now) n turn (λ j. still i j h)

    all_none : (i n : ℕ) (old mid new : List FindingTerm) → mid ≡ old ++ found_in_all x (each_below i turn) → new ≡ mid ++ found_in_all x (turn i) → found_in_all x (turn i) ≡ [] → new ≡ old ++ found_in_all x (each_below n turn)
    all_none i n old mid new h k none = k ∙ ap (λ xs. mid ++ xs) none ∙ append-nil mid ∙ h ∙ ap (λ xs. old ++ xs) (no_turns i i none ∙ sym (no_turns i n none))

    -- after a turn that finds nothing the loop may end
    ended : (i n : ℕ) (old mid new : List Finding) → findings mid ≡ findings old ++ found_in_all x (each_below i turn) → findings new ≡ findings mid ++ found_in_all x (turn i) → length new ≡ length mid
        → findings new ≡ findings old ++ found_in_all x (each_below n turn)
    ended i n old mid new h k same = all_none i n (findings old) (findings mid) (findings new) h k (nothing_added (findings mid) (findings new) (found_in_all x (turn i)) k (same_lengths mid new same))

-- the place of a turn
pub stands_within : (inner at : Around) (env fnv : List ℕ) (p i : ℕ) → guards_of inner ≡ guards_of at → over_of inner ≡ over_of at ++ p ∷ [] → fnv ≡ env ++ i ∷ [] → place_of inner fnv ≡ within p i (place_of at env)
stands_within inner at env fnv p i g o e = λ k. record { guards = g k; env = e k; over = o k }

module _ (x : Setting) (at : Place) (p : ℕ) (body : ItemTerms) where
  alike_turns : (i j : ℕ) → Alike (within p i at) (within p j at)
  alike_turns i j = alike_within p i j at at refl (same_tests at.guards)

  -- a loop over the body

  abbrev turn_at : ℕ → List Occurrence
  turn_at = λ i. all_occur (shape_in x) (within p i at) body

  pub turn_more : (i : ℕ) (old mid new : List Finding) (here : Place) → here ≡ within p i at → findings mid ≡ findings old ++ found_within x at p i body → findings new ≡ findings mid ++ all_found_in x here body
      → findings new ≡ findings old ++ found_within x at p (i + 1) body
  turn_more i old mid new here e h k = turn_added x turn_at i old mid new h (k ∙ ap (λ (b : Place). findings mid ++ all_found_in x b body) e)

  pub turns_over : turns_differ x.part body ≡ false → (i n : ℕ) (old mid new : List Finding) (here : Place) → here ≡ within p i at → findings mid ≡ findings old ++ found_within x at p i body → findings new ≡ findings mid ++ all_found_in x here body
      → length new ≡ length mid → findings new ≡ findings old ++ found_within x at p n body
  turns_over calm i n old mid new here e h k same =
      ended x turn_at (λ q r. items_still (frame_term x.frame.now) x.sizes.now x.part (reading_of x.state.now) (within p q at) (within p r at) body (alike_turns q r) calm) i n old mid new h
      (k ∙ ap (λ (b : Place). findings mid ++ all_found_in x b body) e) same

  -- a loop over rows

  module _ (m names : ℕ) where
    abbrev row_at : ℕ → List Occurrence
    row_at = λ i. each_of_row p m names (λ inner. all_occur (shape_in x) inner body) (within p i at)

    pub row_more : (i : ℕ) (old mid new : List Finding) (here : Place) → here ≡ within p i at → findings mid ≡ findings old ++ found_in_loop x at p m names i body → findings new ≡ findings mid ++ found_in_row x here p m names body
        → findings new ≡ findings old ++ found_in_loop x at p m names (i + 1) body
    row_more i old mid new here e h k = turn_added x row_at i old mid new h (k ∙ ap (λ (b : Place). findings mid ++ found_in_row x b p m names body) e)

    pub loop_over : turns_differ x.part body ≡ false → (i n : ℕ) (old mid new : List Finding) (here : Place) → here ≡ within p i at → findings mid ≡ findings old ++ found_in_loop x at p m names i body
        → findings new ≡ findings mid ++ found_in_row x here p m names body → length new ≡ length mid → findings new ≡ findings old ++ found_in_loop x at p m names n body
    loop_over calm i n old mid new here e h k same =
        ended x row_at
        (λ q r. row_still (frame_term x.frame.now) x.sizes.now x.part (reading_of x.state.now) p m names body (within p q at) (within p r at) (alike_turns q r)
        (λ ct dt al. items_still (frame_term x.frame.now) x.sizes.now x.part (reading_of x.state.now) ct dt body al calm))
        i n old mid new h (k ∙ ap (λ (b : Place). findings mid ++ found_in_row x b p m names body) e) same
