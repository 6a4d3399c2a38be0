-- What the recursion over items finds is whether some occurrence makes the marked size free.
use Rattle.std.proofs.Common.{◌≡◌, ◌==◌, ◌/◌, ℕ, zero, suc, ◌+◌, Bool, true, false, not, ◌&&◌, ◌||◌, refl, sym, ◌∙◌, ap, List, [], ◌∷◌, ◌++◌, map, Option, None, Some, append-nil, arith}
use Rattle.std.specs.Prelude.{if◌then◌else◌, slice_index}
use Rattle.std.specs.List.{list_any}
use Rattle.std.proofs.lemmas.Bool.{false≢true}
use Rattle.std.proofs.lemmas.List.{map-append}
use Rattle.std.proofs.lemmas.List.Folds.{list_any-append}
use Rattle.svr_typed.specs.ExprTerm.{ExprTerm, typed, number, prop, element, cell, size, script, loop_index, reduce, of_object, bit_select, part_select, unary, binary, choice, inside, join, copies, sign, ExprTerms, no_exprs, more_exprs}
use Rattle.svr_typed.specs.ItemTerm.{DistTerm, ItemTerm, plain, unique, implies, branch, foreach, disable, solve, ItemTerms, no_items, more_items, ElseTerm, no_else, else_items}
use Rattle.svr_eval.specs.Value.{property_of}
use Rattle.svr_frame.specs.declared.sought.Sought.{Sought}
use Rattle.svr_frame.specs.declared.sought.Sought.TheVariants.{RandomElement, FreeSize}
use Rattle.svr_frame.specs.Frame.{FrameTerm, is_random, is_array, has_free_size, state_sizes}
use Rattle.svr_frame.specs.Occurrences.{Guard, Place, Fact, stated, dealt, disabled, Occurrence, occurrence, Shape, under, within, stands_in_loop, has_index, elements_from, member_exprs, members, unequal, pairs, each_below, each_of_row, fact_of, occur, all_occur, else_occur, is_disable}
use Rattle.svr_frame.specs.Reads.{Read, property_read, is_size_read, reads, dist_reads, guards_read, reads_of, mentions_size}
use Rattle.svr_frame.specs.Finds.{is_one, finds, finds_in_members}
use Rattle.svr_frame.specs.Phases.{shape_at, active_at}
use Rattle.svr_frame.specs.Making.{can_free}
use Rattle.svr_frame.proofs.Found.{found, members_found}
use Rattle.svr_frame_of.specs.declared.leaves.Leaves.{Leaves}
use Rattle.svr_frame_of.specs.Freeing.{has_one, has_two, no_leaves, both, plain_leaves, tested, fit_operands, all_operands, is_sized, any_sized, pair_leaves, leaves, all_leaves, with_else}

-- ---- truths

or_none : (b : Bool) → (b || false) ≡ b
or_none true = refl
or_none false = refl

or_true : (b : Bool) → (b || true) ≡ true
or_true true = refl
or_true false = refl

or_or : (b c d : Bool) → ((b || c) || d) ≡ (b || (c || d))
or_or true c d = refl
or_or false c d = refl

and_none : (b : Bool) → (b && false) ≡ false
and_none true = refl
and_none false = refl

barred_loop : (d l r s : Bool) → l ≡ true → ((not d && not l && not r) && s) ≡ false
barred_loop true l r s h = refl
barred_loop false true r s h = refl
barred_loop false false r s h = cc

-- of a leaf that is barred where e is true, and has the size where z is
abbrev leaf : Bool → Bool → Leaves
leaf e z = if e then no_leaves else record { any = true; sized = z }

-- under a test that is barred where e is true, and has the size where z is
abbrev tested_by : Bool → Bool → Leaves → Leaves
tested_by e z x = if e then no_leaves else record { any = x.any; sized = x.sized || (x.any && z) }

-- whether it is free by leaves under tests that are barred where g is true, and have the size where s is
abbrev frees : Bool → Bool → Leaves → Bool
frees g s x = not g && (x.sized || (x.any && s))

one_leaf : (e z g s : Bool) → ((not (e || g) && (z || s)) || false) ≡ frees g s (leaf e z)
one_leaf true z true s = refl
one_leaf true z false s = refl
one_leaf false z true s = refl
one_leaf false z false s = or_none (z || s)

no_leaf : (g s : Bool) → false ≡ frees g s no_leaves
no_leaf true s = refl
no_leaf false s = refl

one_test : (e z g s : Bool) (x : Leaves) → frees (e || g) (z || s) x ≡ frees g s (tested_by e z x)
one_test true z true s x = refl
one_test true z false s x = refl
one_test false z true s x = refl
one_test false z false s x = by x.sized x.any
  where
    by : (b a : Bool) → (b || (a && (z || s))) ≡ ((b || (a && z)) || (a && s))
    by true a = refl
    by false true = refl
    by false false = refl

two_leaves : (g s : Bool) (x y : Leaves) → (frees g s x || frees g s y) ≡ frees g s (both x y)
two_leaves true s x y = refl
two_leaves false s x y = by x.sized x.any y.sized y.any
  where
    last : (a t c : Bool) → (a || (t || (c && a))) ≡ (t || a)
    last true t c = sym (or_true t)
    last false t c = ap (λ b. t || b) (and_none c)

    by : (b a d c : Bool) → ((b || (a && s)) || (d || (c && s))) ≡ ((b || d) || ((a || c) && s))
    by true a d c = refl
    by false true d c = last s d c
    by false false d c = refl

-- ---- operands: none where it is barred, else whether it has the size

abbrev Flags : Type 0
Flags = List (Option Bool)

abbrev flag : Bool → Bool → Option Bool
flag e z = if e then None else Some z

abbrev fit : Flags → ℕ
fit [] = 0
fit (None ∷ xs) = fit xs
fit (Some z ∷ xs) = suc (fit xs)

abbrev any_marked : Flags → Bool
any_marked [] = false
any_marked (None ∷ xs) = any_marked xs
any_marked (Some z ∷ xs) = z || any_marked xs

abbrev hit : Bool → Bool → Option Bool → Option Bool → Bool
hit g s None y = false
hit g s (Some a) None = false
hit g s (Some a) (Some b) = not g && ((a || b) || s)

abbrev row : Bool → Bool → Option Bool → Flags → Bool
row g s x [] = false
row g s x (y ∷ ys) = hit g s x y || row g s x ys

abbrev all_rows : Bool → Bool → Flags → Bool
all_rows g s [] = false
all_rows g s (x ∷ xs) = row g s x xs || all_rows g s xs

pair_hit : (e z d w g s : Bool) → (not ((e || d) || g) && ((z || w) || s)) ≡ hit g s (flag e z) (flag d w)
pair_hit true z d w g s = refl
pair_hit false z true w g s = refl
pair_hit false z false w g s = refl

no_row : (g s : Bool) (xs : Flags) → row g s None xs ≡ false
no_row g s [] = refl
no_row g s (y ∷ ys) = no_row g s ys

barred_row : (s : Bool) (x : Option Bool) (xs : Flags) → row true s x xs ≡ false
barred_row s x [] = refl
barred_row s None (y ∷ ys) = barred_row s None ys
barred_row s (Some a) (None ∷ ys) = barred_row s (Some a) ys
barred_row s (Some a) (Some b ∷ ys) = barred_row s (Some a) ys

barred_rows : (s : Bool) (xs : Flags) → all_rows true s xs ≡ false
barred_rows s [] = refl
barred_rows s (x ∷ xs) = λ i. barred_row s x xs i || barred_rows s xs i

marked_some : (xs : Flags) → any_marked xs ≡ true → has_one (fit xs) ≡ true
marked_some [] h = cc
marked_some (None ∷ xs) h = marked_some xs h
marked_some (Some z ∷ xs) h = refl

one_more : (z w s n m : Bool) → (m ≡ true → n ≡ true) → (((z || w) || s) || (n && (m || (z || s)))) ≡ ((w || m) || (z || s))
one_more true w s n m h = sym (or_true (w || m))
one_more false true s n m h = refl
one_more false false true n m h = sym (or_true m)
one_more false false false true m h = refl
one_more false false false false true h = absurd (false≢true (h refl))
one_more false false false false false h = refl

full_row : (s z : Bool) (xs : Flags) → row false s (Some z) xs ≡ (has_one (fit xs) && (any_marked xs || (z || s)))
full_row s z [] = refl
full_row s z (None ∷ ys) = full_row s z ys
full_row s z (Some w ∷ ys) = ap (λ b. ((z || w) || s) || b) (full_row s z ys) ∙ one_more z w s (has_one (fit ys)) (any_marked ys) (marked_some ys)

or_again : (p q : Bool) → (q || (p && q)) ≡ q
or_again p true = refl
or_again p false = and_none p

one_row : (s n m a : Bool) → ((m || (a || s)) || (n && (m || s))) ≡ ((a || m) || s)
one_row s n true a = sym (ap (λ b. b || s) (or_true a))
one_row s n false true = refl
one_row s n false false = or_again n s

row_more : (s : Bool) (n : ℕ) (m a : Bool) → ((has_one n && (m || (a || s))) || (has_two n && (m || s))) ≡ (has_one n && ((a || m) || s))
row_more s zero m a = refl
row_more s (suc n) m a = one_row s (has_one n) m a

full_rows : (s : Bool) (xs : Flags) → all_rows false s xs ≡ (has_two (fit xs) && (any_marked xs || s))
full_rows s [] = refl
full_rows s (None ∷ ys) = λ i. no_row false s ys i || full_rows s ys i
full_rows s (Some w ∷ ys) = (λ i. full_row s w ys i || full_rows s ys i) ∙ row_more s (fit ys) (any_marked ys) w

-- what is known of pairs of these operands
abbrev pair_by : Bool → Bool → Leaves
pair_by b m = if b then record { any = true; sized = m } else no_leaves

abbrev pair_known : Flags → Leaves
pair_known xs = pair_by (has_two (fit xs)) (any_marked xs)

rows_known : (g s : Bool) (xs : Flags) → all_rows g s xs ≡ frees g s (pair_known xs)
rows_known true s xs = barred_rows s xs
rows_known false s xs = full_rows s xs ∙ by (has_two (fit xs)) (any_marked xs)
  where
    by : (b m : Bool) → (b && (m || s)) ≡ ((pair_by b m).sized || ((pair_by b m).any && s))
    by true m = refl
    by false m = refl

-- ---- lists of flags

fit_append : (xs ys : Flags) → fit (xs ++ ys) ≡ fit xs + fit ys
fit_append [] ys = omega arith
fit_append (None ∷ xs) ys = fit_append xs ys
fit_append (Some z ∷ xs) ys = let e : fit (xs ++ ys) ≡ fit xs + fit ys = fit_append xs ys in omega (arith, e)

marked_append : (xs ys : Flags) → any_marked (xs ++ ys) ≡ (any_marked xs || any_marked ys)
marked_append [] ys = refl
marked_append (None ∷ xs) ys = marked_append xs ys
marked_append (Some z ∷ xs) ys = ap (λ b. z || b) (marked_append xs ys) ∙ sym (or_or z (any_marked xs) (any_marked ys))

fit_one : (e z : Bool) → fit (flag e z ∷ []) ≡ (if e then 0 else 1)
fit_one true z = refl
fit_one false z = refl

marked_one : (e z : Bool) → any_marked (flag e z ∷ []) ≡ (not e && z)
marked_one true z = refl
marked_one false z = or_none z

has_last : (env : List ℕ) (i : ℕ) → has_index (env ++ i ∷ []) ≡ true
has_last [] i = refl
has_last (j ∷ env) i = refl

module _ (f : FrameTerm) where
  abbrev pub sh : Shape
  sh = shape_at f (state_sizes f)

  abbrev any : Sought → List Read → Bool
  any s rs = list_any (is_one f s) rs

  -- it can free a size, and mentions the one that is marked
  abbrev test : Occurrence → Bool
  test o = can_free f o && any FreeSize (reads_of sh o)

  -- ---- nothing in a loop does

  none_two : (os ps : List Occurrence) → list_any test os ≡ false → list_any test ps ≡ false → list_any test (os ++ ps) ≡ false
  none_two os ps h k = list_any-append test os ps ∙ (λ i. h i || k i)

  none_one : (at : Place) (soft : Bool) (fact : Fact) → stands_in_loop at ≡ true → test (occurrence at soft fact) ≡ false
  none_one at soft fact h = barred_loop (is_disable fact) (stands_in_loop at) (any RandomElement (reads_of sh (occurrence at soft fact))) (any FreeSize (reads_of sh (occurrence at soft fact))) h

  none_alone : (at : Place) (soft : Bool) (fact : Fact) → stands_in_loop at ≡ true → list_any test (occurrence at soft fact ∷ []) ≡ false
  none_alone at soft fact h = or_none (test (occurrence at soft fact)) ∙ none_one at soft fact h

  none_plain : (at : Place) (soft : Bool) (e : ExprTerm) (dist : Option (List DistTerm)) → stands_in_loop at ≡ true → list_any test (occurrence at soft (fact_of e dist) ∷ []) ≡ false
  none_plain at soft e None h = none_alone at soft (stated e) h
  none_plain at soft e (Some ds) h = none_alone at soft (dealt e ds) h

  none_pairs : (at : Place) (es : List ExprTerm) → stands_in_loop at ≡ true → list_any test (map (λ e. occurrence at false (stated e)) es) ≡ false
  none_pairs at [] h = refl
  none_pairs at (e ∷ es) h = λ i. none_one at false (stated e) h i || none_pairs at es h i

  none_below : (n : ℕ) (g : ℕ → List Occurrence) → ((i : ℕ) → list_any test (g i) ≡ false) → list_any test (each_below n g) ≡ false
  none_below zero g h = refl
  none_below (suc n) g h = none_two (each_below n g) (g n) (none_below n g h) (h n)

  none_row : (p m names : ℕ) (at : Place) (g : Place → List Occurrence) → stands_in_loop at ≡ true → ((inner : Place) → stands_in_loop inner ≡ true → list_any test (g inner) ≡ false) → list_any test (each_of_row p m names g at) ≡ false
  none_row p m names at g h k = by (names == 2)
    where
      by : (b : Bool) → list_any test (if b then each_below m (λ j. g (within p j at)) else g at) ≡ false
      by true = none_below m (λ j. g (within p j at)) (λ j. k (within p j at) (has_last at.env j))
      by false = k at h

  mutual
    none_item : (at : Place) (i : ItemTerm) → stands_in_loop at ≡ true → list_any test (occur sh at i) ≡ false
    none_item at (plain soft e dist) h = none_plain at soft e dist h
    none_item at (unique es) h = none_pairs at (pairs (members sh es)) h
    none_item at (implies t body) h = none_items (under t true at) body h
    none_item at (branch t met unmet) h = none_two (all_occur sh (under t true at) met) (else_occur sh (under t false at) unmet) (none_items (under t true at) met h) (none_else (under t false at) unmet h)
    none_item at (foreach p m names body) h =
        none_below (sh.size p / m) (λ i. each_of_row p m names (λ inner. all_occur sh inner body) (within p i at))
        (λ i. none_row p m names (within p i at) (λ inner. all_occur sh inner body) (has_last at.env i) (λ inner k. none_items inner body k))
    none_item at (disable target) h = none_alone at false (disabled target) h
    none_item at (solve first later) h = refl

    none_items : (at : Place) (is : ItemTerms) → stands_in_loop at ≡ true → list_any test (all_occur sh at is) ≡ false
    none_items at no_items h = refl
    none_items at (more_items i is) h = none_two (occur sh at i) (all_occur sh at is) (none_item at i h) (none_items at is h)

    none_else : (at : Place) (e : ElseTerm) → stands_in_loop at ≡ true → list_any test (else_occur sh at e) ≡ false
    none_else at no_else h = refl
    none_else at (else_items is) h = none_items at is h

  -- ---- outside of loops, under tests

  abbrev at_tests : List Guard → Place
  at_tests gs = record { guards = gs; env = []; over = [] }

  abbrev barred : List Guard → Bool
  barred gs = any RandomElement (guards_read sh gs)

  abbrev marked : List Guard → Bool
  marked gs = any FreeSize (guards_read sh gs)

  place_reads : (s : Sought) (rs : List Read) (gs : List Guard) (b : Bool) → any s rs ≡ b → any s (rs ++ guards_read sh gs ++ []) ≡ (b || any s (guards_read sh gs))
  place_reads s rs gs b h = ap (any s) (append-nil (rs ++ guards_read sh gs)) ∙ list_any-append (is_one f s) rs (guards_read sh gs) ∙ ap (λ c. c || any s (guards_read sh gs)) h

  -- a hard or soft one
  stated_is : (gs : List Guard) (soft : Bool) (e : ExprTerm) → test (occurrence (at_tests gs) soft (stated e)) ≡ (not (finds f RandomElement e || barred gs) && (finds f FreeSize e || marked gs))
  stated_is gs soft e =
      λ i. not (place_reads RandomElement (reads sh [] e) gs (finds f RandomElement e) (found f (state_sizes f) RandomElement [] e) i)
      && place_reads FreeSize (reads sh [] e) gs (finds f FreeSize e) (found f (state_sizes f) FreeSize [] e) i

  dealt_reads : (s : Sought) (e : ExprTerm) (ds : List DistTerm) → any s (reads sh [] e ++ dist_reads sh [] ds) ≡ (finds f s e || finds_in_members f s ds)
  dealt_reads s e ds = list_any-append (is_one f s) (reads sh [] e) (dist_reads sh [] ds) ∙ (λ i. found f (state_sizes f) s [] e i || members_found f (state_sizes f) s [] ds i)

  dealt_is : (gs : List Guard) (soft : Bool) (e : ExprTerm) (ds : List DistTerm)
      → test (occurrence (at_tests gs) soft (dealt e ds)) ≡ (not ((finds f RandomElement e || finds_in_members f RandomElement ds) || barred gs) && ((finds f FreeSize e || finds_in_members f FreeSize ds) || marked gs))
  dealt_is gs soft e ds =
      λ i. not (place_reads RandomElement (reads sh [] e ++ dist_reads sh [] ds) gs (finds f RandomElement e || finds_in_members f RandomElement ds) (dealt_reads RandomElement e ds) i)
      && place_reads FreeSize (reads sh [] e ++ dist_reads sh [] ds) gs (finds f FreeSize e || finds_in_members f FreeSize ds) (dealt_reads FreeSize e ds) i

  plain_is : (gs : List Guard) (soft : Bool) (e : ExprTerm) (dist : Option (List DistTerm)) → list_any test (occurrence (at_tests gs) soft (fact_of e dist) ∷ []) ≡ frees (barred gs) (marked gs) (plain_leaves f e dist)
  plain_is gs soft e None =
      ap (λ b. b || false) (stated_is gs soft e)
      ∙ one_leaf (finds f RandomElement e) (finds f FreeSize e) (barred gs) (marked gs)
      ∙ (λ i. frees (barred gs) (marked gs) (leaf (sym (or_none (finds f RandomElement e)) i) (sym (or_none (finds f FreeSize e)) i)))
  plain_is gs soft e (Some ds) =
      ap (λ b. b || false) (dealt_is gs soft e ds) ∙ one_leaf (finds f RandomElement e || finds_in_members f RandomElement ds) (finds f FreeSize e || finds_in_members f FreeSize ds) (barred gs) (marked gs)

  -- ---- pairs

  abbrev flag_of : ExprTerm → Option Bool
  flag_of m = flag (finds f RandomElement m) (finds f FreeSize m)

  abbrev flags : List ExprTerm → Flags
  flags ms = map flag_of ms

  abbrev stated_at : List Guard → List ExprTerm → List Occurrence
  stated_at gs es = map (λ e. occurrence (at_tests gs) false (stated e)) es

  row_is : (gs : List Guard) (x : ExprTerm) (xs : List ExprTerm) → list_any test (stated_at gs (map (unequal x) xs)) ≡ row (barred gs) (marked gs) (flag_of x) (flags xs)
  row_is gs x [] = refl
  row_is gs x (y ∷ ys) =
      λ i. (stated_is gs false (unequal x y) ∙ pair_hit (finds f RandomElement x) (finds f FreeSize x) (finds f RandomElement y) (finds f FreeSize y) (barred gs) (marked gs)) i
      || row_is gs x ys i

  rows_are : (gs : List Guard) (ms : List ExprTerm) → list_any test (stated_at gs (pairs ms)) ≡ all_rows (barred gs) (marked gs) (flags ms)
  rows_are gs [] = refl
  rows_are gs (x ∷ xs) =
      ap (list_any test) (map-append (λ e. occurrence (at_tests gs) false (stated e)) (map (unequal x) xs) (pairs xs))
      ∙ list_any-append test (stated_at gs (map (unequal x) xs)) (stated_at gs (pairs xs))
      ∙ (λ i. row_is gs x xs i || rows_are gs xs i)

  -- the elements of an array
  elements_fit : (p w : ℕ) (s : Bool) (i n : ℕ) (b : Bool) → is_random f p ≡ b → fit (flags (elements_from p w s i n)) ≡ (if b then 0 else n)
  elements_fit p w s i zero true h = refl
  elements_fit p w s i zero false h = refl
  elements_fit p w s i (suc n) true h =
      ap (λ c. fit (flag (c || false) false ∷ flags (elements_from p w s (suc i) n))) h ∙ elements_fit p w s (suc i) n true h
  elements_fit p w s i (suc n) false h =
      ap (λ c. fit (flag (c || false) false ∷ flags (elements_from p w s (suc i) n))) h ∙ ap suc (elements_fit p w s (suc i) n false h)

  elements_bare : (p w : ℕ) (s : Bool) (i n : ℕ) → any_marked (flags (elements_from p w s i n)) ≡ false
  elements_bare p w s i zero = refl
  elements_bare p w s i (suc n) = by (is_random f p || false) (elements_bare p w s (suc i) n)
    where
      by : (b : Bool) → any_marked (flags (elements_from p w s (suc i) n)) ≡ false → any_marked (flag b false ∷ flags (elements_from p w s (suc i) n)) ≡ false
      by true h = h
      by false h = h

  -- a member alone
  alone_fit : (e : ExprTerm) → fit (flags (e ∷ [])) ≡ (if finds f RandomElement e then 0 else 1)
  alone_fit e = fit_one (finds f RandomElement e) (finds f FreeSize e)

  alone_marked : (e : ExprTerm) → any_marked (flags (e ∷ [])) ≡ is_sized f e
  alone_marked e = marked_one (finds f RandomElement e) (finds f FreeSize e)

  member_fit : (e : ExprTerm) → fit (flags (member_exprs sh e (property_of e))) ≡ fit_operands f e
  member_fit (typed w s (number v every)) = alone_fit (typed w s (number v every))
  member_fit (typed w s (prop p)) = by (is_array f p) refl
    where
      by : (b : Bool) → is_array f p ≡ b
          → fit (flags (if b then elements_from p w s 0 (slice_index (state_sizes f) p) else typed w s (prop p) ∷ [])) ≡ (if b && is_random f p then 0 else (if b then slice_index (state_sizes f) p else 1))
      by true h = elements_fit p w s 0 (slice_index (state_sizes f) p) (is_random f p) refl
      by false h = alone_fit (typed w s (prop p)) ∙ ap (λ c. if c && is_random f p then 0 else 1) h
  member_fit (typed w s (element p e)) = alone_fit (typed w s (element p e))
  member_fit (typed w s (cell p m first second)) = alone_fit (typed w s (cell p m first second))
  member_fit (typed w s (size p m)) = alone_fit (typed w s (size p m))
  member_fit (typed w s (script v)) = alone_fit (typed w s (script v))
  member_fit (typed w s (loop_index k)) = alone_fit (typed w s (loop_index k))
  member_fit (typed w s (reduce p op body)) = alone_fit (typed w s (reduce p op body))
  member_fit (typed w s (of_object o e)) = alone_fit (typed w s (of_object o e))
  member_fit (typed w s (bit_select base first low)) = alone_fit (typed w s (bit_select base first low))
  member_fit (typed w s (part_select base first last low)) = alone_fit (typed w s (part_select base first last low))
  member_fit (typed w s (unary op e)) = alone_fit (typed w s (unary op e))
  member_fit (typed w s (binary op l r)) = alone_fit (typed w s (binary op l r))
  member_fit (typed w s (choice t met unmet)) = alone_fit (typed w s (choice t met unmet))
  member_fit (typed w s (inside l rs)) = alone_fit (typed w s (inside l rs))
  member_fit (typed w s (join parts)) = alone_fit (typed w s (join parts))
  member_fit (typed w s (copies count parts)) = alone_fit (typed w s (copies count parts))
  member_fit (typed w s (sign as_signed e)) = alone_fit (typed w s (sign as_signed e))

  member_marked : (e : ExprTerm) → any_marked (flags (member_exprs sh e (property_of e))) ≡ is_sized f e
  member_marked (typed w s (number v every)) = alone_marked (typed w s (number v every))
  member_marked (typed w s (prop p)) = by (is_array f p)
    where
      by : (b : Bool) → any_marked (flags (if b then elements_from p w s 0 (slice_index (state_sizes f) p) else typed w s (prop p) ∷ [])) ≡ is_sized f (typed w s (prop p))
      by true = elements_bare p w s 0 (slice_index (state_sizes f) p) ∙ sym (and_none (not (finds f RandomElement (typed w s (prop p)))))
      by false = alone_marked (typed w s (prop p))
  member_marked (typed w s (element p e)) = alone_marked (typed w s (element p e))
  member_marked (typed w s (cell p m first second)) = alone_marked (typed w s (cell p m first second))
  member_marked (typed w s (size p m)) = alone_marked (typed w s (size p m))
  member_marked (typed w s (script v)) = alone_marked (typed w s (script v))
  member_marked (typed w s (loop_index k)) = alone_marked (typed w s (loop_index k))
  member_marked (typed w s (reduce p op body)) = alone_marked (typed w s (reduce p op body))
  member_marked (typed w s (of_object o e)) = alone_marked (typed w s (of_object o e))
  member_marked (typed w s (bit_select base first low)) = alone_marked (typed w s (bit_select base first low))
  member_marked (typed w s (part_select base first last low)) = alone_marked (typed w s (part_select base first last low))
  member_marked (typed w s (unary op e)) = alone_marked (typed w s (unary op e))
  member_marked (typed w s (binary op l r)) = alone_marked (typed w s (binary op l r))
  member_marked (typed w s (choice t met unmet)) = alone_marked (typed w s (choice t met unmet))
  member_marked (typed w s (inside l rs)) = alone_marked (typed w s (inside l rs))
  member_marked (typed w s (join parts)) = alone_marked (typed w s (join parts))
  member_marked (typed w s (copies count parts)) = alone_marked (typed w s (copies count parts))
  member_marked (typed w s (sign as_signed e)) = alone_marked (typed w s (sign as_signed e))

  members_fit : (es : ExprTerms) → fit (flags (members sh es)) ≡ all_operands f es
  members_fit no_exprs = refl
  members_fit (more_exprs e es) =
      ap fit (map-append flag_of (member_exprs sh e (property_of e)) (members sh es))
      ∙ fit_append (flags (member_exprs sh e (property_of e))) (flags (members sh es))
      ∙ (λ i. member_fit e i + members_fit es i)

  members_marked : (es : ExprTerms) → any_marked (flags (members sh es)) ≡ any_sized f es
  members_marked no_exprs = refl
  members_marked (more_exprs e es) =
      ap any_marked (map-append flag_of (member_exprs sh e (property_of e)) (members sh es))
      ∙ marked_append (flags (member_exprs sh e (property_of e))) (flags (members sh es))
      ∙ (λ i. member_marked e i || members_marked es i)

  unique_is : (gs : List Guard) (es : ExprTerms) → list_any test (stated_at gs (pairs (members sh es))) ≡ frees (barred gs) (marked gs) (pair_leaves f es)
  unique_is gs es =
      rows_are gs (members sh es) ∙ rows_known (barred gs) (marked gs) (flags (members sh es))
      ∙ (λ i. frees (barred gs) (marked gs) (pair_by (has_two (members_fit es i)) (members_marked es i)))

  -- ---- items

  abbrev guard : ExprTerm → Bool → Guard
  guard t wanted = record { test = t; wanted = wanted; env = [] }

  more_tests : (s : Sought) (t : ExprTerm) (gs : List Guard) → any s (reads sh [] t ++ guards_read sh gs) ≡ (finds f s t || any s (guards_read sh gs))
  more_tests s t gs = list_any-append (is_one f s) (reads sh [] t) (guards_read sh gs) ∙ ap (λ b. b || any s (guards_read sh gs)) (found f (state_sizes f) s [] t)

  under_is : (gs : List Guard) (t : ExprTerm) (os : List Occurrence) (x : Leaves)
      → list_any test os ≡ frees (any RandomElement (reads sh [] t ++ guards_read sh gs)) (any FreeSize (reads sh [] t ++ guards_read sh gs)) x → list_any test os ≡ frees (barred gs) (marked gs) (tested f t x)
  under_is gs t os x h = h ∙ (λ i. frees (more_tests RandomElement t gs i) (more_tests FreeSize t gs i) x) ∙ one_test (finds f RandomElement t) (finds f FreeSize t) (barred gs) (marked gs) x

  mutual
    item_is : (gs : List Guard) (i : ItemTerm) → list_any test (occur sh (at_tests gs) i) ≡ frees (barred gs) (marked gs) (leaves f i)
    item_is gs (plain soft e dist) = plain_is gs soft e dist
    item_is gs (unique es) = unique_is gs es
    item_is gs (implies t body) = under_is gs t (all_occur sh (at_tests (guard t true ∷ gs)) body) (all_leaves f body) (items_are (guard t true ∷ gs) body)
    item_is gs (branch t met unmet) =
        list_any-append test (all_occur sh (at_tests (guard t true ∷ gs)) met) (else_occur sh (at_tests (guard t false ∷ gs)) unmet)
        ∙ ap (λ b. b || list_any test (else_occur sh (at_tests (guard t false ∷ gs)) unmet)) (under_is gs t (all_occur sh (at_tests (guard t true ∷ gs)) met) (all_leaves f met) (items_are (guard t true ∷ gs) met))
        ∙ else_is gs t (tested f t (all_leaves f met)) unmet
    item_is gs (foreach p m names body) =
        none_below (sh.size p / m) (λ i. each_of_row p m names (λ inner. all_occur sh inner body) (within p i (at_tests gs)))
        (λ i. none_row p m names (within p i (at_tests gs)) (λ inner. all_occur sh inner body) refl (λ inner k. none_items inner body k))
        ∙ no_leaf (barred gs) (marked gs)
    item_is gs (disable target) = no_leaf (barred gs) (marked gs)
    item_is gs (solve first later) = no_leaf (barred gs) (marked gs)

    items_are : (gs : List Guard) (is : ItemTerms) → list_any test (all_occur sh (at_tests gs) is) ≡ frees (barred gs) (marked gs) (all_leaves f is)
    items_are gs no_items = no_leaf (barred gs) (marked gs)
    items_are gs (more_items i is) =
        list_any-append test (occur sh (at_tests gs) i) (all_occur sh (at_tests gs) is) ∙ (λ k. item_is gs i k || items_are gs is k) ∙ two_leaves (barred gs) (marked gs) (leaves f i) (all_leaves f is)

    else_is : (gs : List Guard) (t : ExprTerm) (x : Leaves) (e : ElseTerm)
        → (frees (barred gs) (marked gs) x || list_any test (else_occur sh (at_tests (guard t false ∷ gs)) e)) ≡ frees (barred gs) (marked gs) (with_else f t x e)
    else_is gs t x no_else = or_none (frees (barred gs) (marked gs) x)
    else_is gs t x (else_items is) =
        ap (λ b. frees (barred gs) (marked gs) x || b) (under_is gs t (all_occur sh (at_tests (guard t false ∷ gs)) is) (all_leaves f is) (items_are (guard t false ∷ gs) is))
        ∙ two_leaves (barred gs) (marked gs) x (tested f t (all_leaves f is))

  -- ---- the size that is marked

  any_same : {A : Type 0} (s t : A → Bool) (xs : List A) → ((x : A) → s x ≡ t x) → list_any s xs ≡ list_any t xs
  any_same s t [] h = refl
  any_same s t (x ∷ xs) h = λ k. h x k || any_same s t xs h k

  frees_alone : (x : Leaves) → frees false false x ≡ x.sized
  frees_alone x = ap (λ b. x.sized || b) (and_none x.any) ∙ or_none x.sized

  -- a random dynamic array is free where the recursion finds its size
  pub freed : (p : ℕ) → ((q : ℕ) → has_free_size f q ≡ (q == p)) → list_any (λ o. can_free f o && mentions_size sh p o) (active_at f (state_sizes f)) ≡ (all_leaves f f.items).sized
  freed p only =
      any_same (λ o. can_free f o && mentions_size sh p o) test (active_at f (state_sizes f))
      (λ o. ap (λ b. can_free f o && b) (any_same (λ r. is_size_read r && (property_read r == p)) (is_one f FreeSize) (reads_of sh o) (λ r. ap (λ b. is_size_read r && b) (sym (only (property_read r))))))
      ∙ items_are [] f.items ∙ frees_alone (all_leaves f f.items)
