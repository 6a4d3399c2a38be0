-- What a class orders is what its base does, as far as no block of its own takes the place of another, and then its own; gathered from the class up.
use Rattle.std.proofs.Common.{◌≡◌, ℕ, zero, suc, ◌+◌, ◌<◌, ◌≤◌, Bool, true, false, if◌then◌else◌, List, [], ◌∷◌, ◌++◌, Option, Some, None, length, reverse, refl, sym, ap, ◌∙◌, subst, arith, slice_get, slice_index_or, nat_lt, is_some, true≢false}
use Rattle.std.proofs.lemmas.Bool.Decides.{nat_tests}
use Rattle.std.proofs.lemmas.List.{append-nil, append_assoc, length-append, get_or_append_left, get_or_past, get_or_push}
use Rattle.svr_elab_order.specs.declared.Order.{Order}
use Rattle.svr_elab_order.specs.declared.Ranks.{Ranks}
use Rattle.svr_elab_block.specs.declared.part.ClassOrders.{ClassOrders}
use Rattle.svr_elab_block.specs.Blocks.{without, orders_at, or_none}
use Rattle.svr_elab_block.specs.Chain.{class_orders, inherited, orders_after, all_orders, own_of, named_of, base_of, below, base_before, AreRanks, ranks_in, RankedAfter, AreRanked}
use Rattle.svr_elab_block.proofs.Standing.{joined, twice, same_stand, AreBoth, standing_agree}

abbrev Orders : Type 0
Orders = List (List Order)

-- what stands at a number, or nothing
or_get : (xs : Orders) (n : ℕ) → or_none (slice_get xs n) ≡ slice_index_or xs n []
or_get [] n = refl
or_get (x ∷ xs) zero = refl
or_get (x ∷ xs) (suc n) = or_get xs n

longer : (done : Orders) (os : List Order) (i : ℕ) → i < length done → i < length (done ++ os ∷ [])
longer done os i h = let e : length (done ++ os ∷ []) ≡ length done + 1 = length-append done (os ∷ []) in omega (arith, h, e)

one_longer : (done : Orders) (os : List Order) → length done < length (done ++ os ∷ [])
one_longer done os = let e : length (done ++ os ∷ []) ≡ length done + 1 = length-append done (os ∷ []) in omega (arith, e)

module _ (text : ℕ → List ℕ) where
  -- what stands before stays
  stays : (done : Orders) (cs : List ClassOrders) (i : ℕ) → i < length done → slice_index_or (orders_after text done cs) i [] ≡ slice_index_or done i []
  stays done [] i less = refl
  stays done (c ∷ cs) i less =
      stays (done ++ class_orders text done c ∷ []) cs i (longer done (class_orders text done c) i less) ∙ get_or_append_left done (class_orders text done c ∷ []) [] i less

  next_is : (done : Orders) (c : ClassOrders) (cs : List ClassOrders) → slice_index_or (orders_after text done (c ∷ cs)) (length done) [] ≡ class_orders text done c
  next_is done c cs =
      stays (done ++ class_orders text done c ∷ []) cs (length done) (one_longer done (class_orders text done c)) ∙ get_or_push done (class_orders text done c) [] (length done) refl

  -- a base that stands before
  tested : (done : Orders) (c : ClassOrders) (cs : List ClassOrders) (b : ℕ) (test : Bool) → nat_lt b (length done) ≡ test
      → orders_at (orders_after text done (c ∷ cs)) (if test then Some b else None) ≡ slice_index_or done b []
  tested done c cs b true is = or_get (orders_after text done (c ∷ cs)) b ∙ stays done (c ∷ cs) b (grind (arith, nat_tests))
  tested done c cs b false is = sym (get_or_past done b [] (grind (arith, nat_tests)))

  base_found : (done : Orders) (c : ClassOrders) (cs : List ClassOrders) (base : Option ℕ) → orders_at (orders_after text done (c ∷ cs)) (below (length done) base) ≡ orders_at done base
  base_found done c cs None = refl
  base_found done c cs (Some b) = tested done c cs b (nat_lt b (length done)) refl ∙ sym (or_get done b)

  -- a class over its base
  abbrev over : List Order → List (List ℕ) → List Order → List Order
  over base named own = without text named [] base ++ own

  -- each class stands at its number, over its base
  stands : (done : Orders) (cs : List ClassOrders) (k n : ℕ) → n ≡ length done + k
      → slice_index_or (orders_after text done cs) n [] ≡ over (orders_at (orders_after text done cs) (below n (base_of (slice_get cs k)))) (named_of (slice_get cs k)) (own_of (slice_get cs k))
  stands done [] k n at = get_or_past done n [] (omega arith)
  stands done (c ∷ cs) zero n at =
      let here : n ≡ length done = omega arith in
      ap (λ (m : ℕ). slice_index_or (orders_after text done (c ∷ cs)) m []) here
      ∙ next_is done c cs
      ∙ ap (λ (os : List Order). over os (named_of (Some c)) c.own) (sym (base_found done c cs c.base))
      ∙ ap (λ (m : ℕ). over (orders_at (orders_after text done (c ∷ cs)) (below m c.base)) (named_of (Some c)) c.own) (sym here)
  stands done (c ∷ cs) (suc k) n at =
      let more : length (done ++ class_orders text done c ∷ []) ≡ length done + 1 = length-append done (class_orders text done c ∷ []) in
      stands (done ++ class_orders text done c ∷ []) cs k n (omega (arith, at, more))

  class_is : (cs : List ClassOrders) (n : ℕ) → orders_at (all_orders text cs) (Some n) ≡ over (orders_at (all_orders text cs) (base_before cs n)) (named_of (slice_get cs n)) (own_of (slice_get cs n))
  class_is cs n = or_get (all_orders text cs) n ∙ stands [] cs n n (omega arith)

  -- ---- the loop that goes up

  -- what is still to come and stands for these names, and then these
  abbrev pub Gathered : List ClassOrders → List (List ℕ) → Option ℕ → List Order → List Order → Type 0
  Gathered cs t next back whole = without text t [] (orders_at (all_orders text cs) next) ++ back ≡ whole

  pub gathered_first : (cs : List ClassOrders) (t named : List (List ℕ)) (base : Option ℕ) (back : List Order) → back ≡ [] → AreBoth t [] named
      → Gathered cs t base (reverse back) (inherited text (all_orders text cs) base named)
  gathered_first cs t named base back e both =
      ap (λ (os : List Order). without text t [] (orders_at (all_orders text cs) base) ++ reverse os) e
      ∙ append-nil (without text t [] (orders_at (all_orders text cs) base))
      ∙ same_stand text t named both (orders_at (all_orders text cs) base)

  pub gathered_more : (cs : List ClassOrders) (t after : List (List ℕ)) (here above : Option ℕ) (n : ℕ) (back longer whole : List Order) → here ≡ Some n → above ≡ base_before cs n
      → AreBoth after t (named_of (slice_get cs n)) → longer ≡ without text t [] (own_of (slice_get cs n)) ++ back
      → Gathered cs t here back whole → Gathered cs after above longer whole
  gathered_more cs t after here above n back longer whole is_here is_above both is_longer told =
      let own : List Order = own_of (slice_get cs n) in
      let named : List (List ℕ) = named_of (slice_get cs n) in
      let base : List Order = orders_at (all_orders text cs) (base_before cs n) in
      ap (λ (o : Option ℕ). without text after [] (orders_at (all_orders text cs) o) ++ longer) is_above
      ∙ ap (λ (os : List Order). without text after [] base ++ os) is_longer
      ∙ ap (λ (os : List Order). os ++ (without text t [] own ++ back)) (twice text after t named both base)
      ∙ sym (append_assoc (without text t [] (without text named [] base)) (without text t [] own) back)
      ∙ ap (λ (os : List Order). os ++ back) (sym (joined text t (without text named [] base) own))
      ∙ ap (λ (os : List Order). without text t [] os ++ back) (sym (class_is cs n))
      ∙ sym (ap (λ (o : Option ℕ). without text t [] (orders_at (all_orders text cs) o) ++ back) is_here)
      ∙ told

  pub gathered_all : (cs : List ClassOrders) (t : List (List ℕ)) (next : Option ℕ) (back whole : List Order) → next ≡ None → Gathered cs t next back whole → back ≡ whole
  gathered_all cs t next back whole e told = sym (ap (λ (o : Option ℕ). without text t [] (orders_at (all_orders text cs) o) ++ back) e) ∙ told

  -- ---- one class more

  one_more : (done : Orders) (cs : List ClassOrders) (c : ClassOrders) → orders_after text done (cs ++ c ∷ []) ≡ orders_after text done cs ++ class_orders text (orders_after text done cs) c ∷ []
  one_more done [] c = refl
  one_more done (d ∷ cs) c = one_more (done ++ class_orders text done d ∷ []) cs c

  ranked_more : (done : Orders) (cs : List ClassOrders) (c : ClassOrders) → RankedAfter text done cs → AreRanks (ranks_in c) (class_orders text (orders_after text done cs) c)
      → RankedAfter text done (cs ++ c ∷ [])
  ranked_more done [] c h r = (r, tt)
  ranked_more done (d ∷ cs) c h r = (h.0, ranked_more (done ++ class_orders text done d ∷ []) cs c h.1 r)

  pub pushed : (cs new : List ClassOrders) (c d : ClassOrders) → new ≡ cs ++ d ∷ [] → d ≡ c → all_orders text new ≡ all_orders text cs ++ class_orders text (all_orders text cs) c ∷ []
  pushed cs new c d e is = ap (all_orders text) (e ∙ ap (λ (k : ClassOrders). cs ++ k ∷ []) is) ∙ one_more [] cs c

  pub pushed_ranked : (cs new : List ClassOrders) (c d : ClassOrders) → new ≡ cs ++ d ∷ [] → d ≡ c → AreRanked text cs → AreRanks (ranks_in c) (class_orders text (all_orders text cs) c) → AreRanked text new
  pushed_ranked cs new c d e is h r = subst (AreRanked text) (sym (e ∙ ap (λ (k : ClassOrders). cs ++ k ∷ []) is)) (ranked_more [] cs c h r)

  ranked_from : (done : Orders) (cs : List ClassOrders) (k n : ℕ) (c : ClassOrders) → n ≡ length done + k → slice_get cs k ≡ Some c → RankedAfter text done cs
      → AreRanks (ranks_in c) (slice_index_or (orders_after text done cs) n [])
  ranked_from done [] k n c at e h = absurd (true≢false (sym (ap is_some e)))
  ranked_from done (d ∷ cs) zero n c at e h =
      let here : length done ≡ n = omega arith in
      let P : ℕ → Type 0 = λ m. AreRanks (ranks_in c) (slice_index_or (orders_after text done (d ∷ cs)) m []) in
      subst P here (subst (AreRanks (ranks_in c)) (sym (next_is done d cs)) (subst (λ (x : ClassOrders). AreRanks (ranks_in x) (class_orders text done d)) (some_is d c e) h.0))
    where
      some_is : (d c : ClassOrders) → Some d ≡ Some c → d ≡ c
      some_is d c e = ap (λ (o : Option ClassOrders). or_first d o) e
        where
          or_first : ClassOrders → Option ClassOrders → ClassOrders
          or_first d None = d
          or_first d (Some x) = x
  ranked_from done (d ∷ cs) (suc k) n c at e h =
      let more : length (done ++ class_orders text done d ∷ []) ≡ length done + 1 = length-append done (class_orders text done d ∷ []) in
      ranked_from (done ++ class_orders text done d ∷ []) cs k n c (omega (arith, at, more)) e h.1

  -- the ranks of a class do for all that it orders
  pub ranked_at : (cs : List ClassOrders) (k : ℕ) (c : ClassOrders) → slice_get cs k ≡ Some c → AreRanked text cs → AreRanks (ranks_in c) (orders_at (all_orders text cs) (Some k))
  ranked_at cs k c e h = subst (AreRanks (ranks_in c)) (sym (or_get (all_orders text cs) k)) (ranked_from [] cs k k c (omega arith) e h)

  pub still_ranks : (r : Option Ranks) (t : List (List ℕ)) (os : List Order) → AreRanks r os → AreRanks r (without text t [] os)
  still_ranks None t os h = tt
  still_ranks (Some r) t os h = standing_agree text r t os h

-- ---- the numbers that the loop goes through

-- how many numbers are at most this one
abbrev pub count_to : Option ℕ → ℕ
count_to None = 0
count_to (Some n) = n + 1

tested_count : (b n : ℕ) (test : Bool) → nat_lt b n ≡ test → count_to (if test then Some b else None) ≤ n
tested_count b n true is = grind (arith, nat_tests)
tested_count b n false is = omega arith

below_count : (n : ℕ) (o : Option ℕ) → count_to (below n o) ≤ n
below_count n None = omega arith
below_count n (Some b) = tested_count b n (nat_lt b n) refl

pub fewer : (cs : List ClassOrders) (n : ℕ) (here above : Option ℕ) → here ≡ Some n → above ≡ base_before cs n → count_to above < count_to here
fewer cs n here above is next =
    let less = below_count n (base_of (slice_get cs n)) in
    subst (λ (o : Option ℕ). count_to above < count_to o) (sym is) (subst (λ (o : Option ℕ). count_to o < n + 1) (sym next) (omega (arith, less)))
