-- Each variable that a statement names finds its class with what it inherits.
use Rattle.std.proofs.Common.{◌≡◌, ◌≤◌, ◌<◌, ◌&&◌, ℕ, zero, suc, ◌+◌, Bool, true, false, true≢false, refl, sym, ◌∙◌, ap, subst, List, [], ◌∷◌, ◌++◌, map, length, length-append, Option, None, Some, arith}
use Rattle.std.specs.Prelude.{nat_lt, slice_index_or, slice_set, if◌then◌else◌, IfSome, ⊤}
use Rattle.std.specs.List.{range_with_len}
use Rattle.std.proofs.lemmas.Bool.{ltb-true, ltb-false}
use Rattle.std.proofs.lemmas.List.FromFn.{length-map-range_with_len, get_or-map-range_with_len}
use Rattle.svr_typed.specs.ClassTerm.{FlatTerm, ClassTerm}
use Rattle.svr_typed.specs.StmtTerm.{StmtTerm, make, set_var, set_prop, resize, pattern, rand_mode, constraint_mode, call, repeat, list, StmtTerms, no_stmts, more_stmts, DesignTerm}
use Rattle.svr_flat.specs.Flat.{no_class, derived_class, base_of, flat_after, flat_classes, flat_class_of}
use Rattle.svr_flat.specs.Known.{AreKnown}
use Rattle.svr_script.specs.Statement.{class_of_var, flat_of_var, times, in_order, all_in_order}
use Rattle.svr_effect.specs.Inherited.{IsNamed, KeepsWanted, named_by, with_named, with_all_named, wanted_class}

flat_length : (earlier : List FlatTerm) (cs : List ClassTerm) → length (flat_after earlier cs) ≡ length earlier + length cs
flat_length earlier [] = omega arith
flat_length earlier (c ∷ cs) =
    let rest = flat_length (earlier ++ derived_class (base_of earlier c.base) c ∷ []) cs in
    let more = length-append earlier (derived_class (base_of earlier c.base) c ∷ []) in
    omega (arith, rest, more)

past : {A : Type 0} (xs : List A) (i : ℕ) (d : A) → length xs ≤ i → slice_index_or xs i d ≡ d
past [] i d le = refl
past (x ∷ xs) zero d le = absurd (omega (arith, le))
past (x ∷ xs) (suc i) d le = past xs i d (omega (arith, le))

-- ---- which classes are wanted

abbrev IsWanted : List Bool → ℕ → Type 0
IsWanted ws k = slice_index_or ws k true ≡ true

pub set_wanted : (ws : List Bool) (k j : ℕ) → IsWanted ws j → IsWanted (slice_set ws k true) j
set_wanted [] k j h = h
set_wanted (w ∷ ws) zero zero h = refl
set_wanted (w ∷ ws) zero (suc j) h = h
set_wanted (w ∷ ws) (suc k) zero h = h
set_wanted (w ∷ ws) (suc k) (suc j) h = set_wanted ws k j h

now_wanted : (ws : List Bool) (k : ℕ) → IsWanted (slice_set ws k true) k
now_wanted [] k = refl
now_wanted (w ∷ ws) zero = refl
now_wanted (w ∷ ws) (suc k) = now_wanted ws k

-- ---- those of the variables that statements name are

still_some : (P Q : ℕ → Type 0) → ((o : ℕ) → P o → Q o) → (m : Option ℕ) → IfSome m P → IfSome m Q
still_some P Q more None h = tt
still_some P Q more (Some o) h = more o h

module _ (d : DesignTerm) where
  mutual
    stays_wanted : (s : StmtTerm) (ws : List Bool) (k : ℕ) → IsWanted ws k → IsWanted (with_named d ws s) k
    stays_wanted (make o) ws k h = set_wanted ws (class_of_var d o) k h
    stays_wanted (set_var v e) ws k h = h
    stays_wanted (set_prop o p i e) ws k h = set_wanted ws (class_of_var d o) k h
    stays_wanted (resize o p n) ws k h = set_wanted ws (class_of_var d o) k h
    stays_wanted (pattern o p es) ws k h = set_wanted ws (class_of_var d o) k h
    stays_wanted (rand_mode o p on) ws k h = set_wanted ws (class_of_var d o) k h
    stays_wanted (constraint_mode o b on) ws k h = set_wanted ws (class_of_var d o) k h
    stays_wanted (call c) ws k h = set_wanted ws (class_of_var d c.object) k h
    stays_wanted (repeat n s) ws k h = stays_wanted s ws k h
    stays_wanted (list ss) ws k h = all_stay_wanted ss ws k h

    all_stay_wanted : (ss : StmtTerms) (ws : List Bool) (k : ℕ) → IsWanted ws k → IsWanted (with_all_named d ws ss) k
    all_stay_wanted no_stmts ws k h = h
    all_stay_wanted (more_stmts s ss) ws k h = all_stay_wanted ss (with_named d ws s) k (stays_wanted s ws k h)

  abbrev Wants : List Bool → ℕ → Type 0
  Wants ws o = IsWanted ws (class_of_var d o)

  abbrev AllWant : List Bool → List StmtTerm → Type 0
  AllWant ws [] = ⊤
  AllWant ws (x ∷ xs) = IfSome (named_by x) (Wants ws) × AllWant ws xs

  still_want : (ws vs : List Bool) → ((k : ℕ) → IsWanted ws k → IsWanted vs k) → (xs : List StmtTerm) → AllWant ws xs → AllWant vs xs
  still_want ws vs keeps [] h = tt
  still_want ws vs keeps (x ∷ xs) h = (still_some (Wants ws) (Wants vs) (λ o. keeps (class_of_var d o)) (named_by x) h.0, still_want ws vs keeps xs h.1)

  want_joined : (ws : List Bool) (xs ys : List StmtTerm) → AllWant ws xs → AllWant ws ys → AllWant ws (xs ++ ys)
  want_joined ws [] ys h g = g
  want_joined ws (x ∷ xs) ys h g = (h.0, want_joined ws xs ys h.1 g)

  want_times : (ws : List Bool) (xs : List StmtTerm) (n : ℕ) → AllWant ws xs → AllWant ws (times n xs)
  want_times ws xs zero h = tt
  want_times ws xs (suc n) h = want_joined ws xs (times n xs) h (want_times ws xs n h)

  one_wants : (ws : List Bool) (done : List StmtTerm) (x : StmtTerm) (left : List StmtTerm) → AllWant ws (done ++ x ∷ left) → IfSome (named_by x) (Wants ws)
  one_wants ws [] x left h = h.0
  one_wants ws (y ∷ done) x left h = one_wants ws done x left h.1

  mutual
    each_wants : (s : StmtTerm) (ws : List Bool) → AllWant (with_named d ws s) (in_order s)
    each_wants (make o) ws = (now_wanted ws (class_of_var d o), tt)
    each_wants (set_var v e) ws = (tt, tt)
    each_wants (set_prop o p i e) ws = (now_wanted ws (class_of_var d o), tt)
    each_wants (resize o p n) ws = (now_wanted ws (class_of_var d o), tt)
    each_wants (pattern o p es) ws = (now_wanted ws (class_of_var d o), tt)
    each_wants (rand_mode o p on) ws = (now_wanted ws (class_of_var d o), tt)
    each_wants (constraint_mode o b on) ws = (now_wanted ws (class_of_var d o), tt)
    each_wants (call c) ws = (now_wanted ws (class_of_var d c.object), tt)
    each_wants (repeat n s) ws = want_times (with_named d ws s) (in_order s) n (each_wants s ws)
    each_wants (list ss) ws = all_want ss ws

    all_want : (ss : StmtTerms) (ws : List Bool) → AllWant (with_all_named d ws ss) (all_in_order ss)
    all_want no_stmts ws = tt
    all_want (more_stmts s ss) ws =
        let now = with_named d ws s in
        want_joined (with_all_named d now ss) (in_order s) (all_in_order ss) (still_want now (with_all_named d now ss) (all_stay_wanted ss now) (in_order s) (each_wants s ws)) (all_want ss now)

  named_wanted : (ws : List Bool) (o : ℕ) → IsNamed d o → IsWanted (with_all_named d ws d.stmts) (class_of_var d o)
  named_wanted ws o (x, (done, left, split), is) =
      let all : AllWant (with_all_named d ws d.stmts) (done ++ x ∷ left) = subst (AllWant (with_all_named d ws d.stmts)) split (all_want d.stmts ws) in
      subst (λ (m : Option ℕ). IfSome m (Wants (with_all_named d ws d.stmts))) is (one_wants (with_all_named d ws d.stmts) done x left all)

-- ---- what is found of a class that is wanted

one_found : (ws : List Bool) (cs : List ClassTerm) (k : ℕ) → IsWanted ws k → wanted_class ws cs k ≡ flat_class_of cs k
one_found ws cs k h = ap (λ b. if b then flat_class_of cs k else no_class) h

found_class : (ws : List Bool) (cs : List ClassTerm) (k : ℕ) → IsWanted ws k → slice_index_or (map (wanted_class ws cs) (range_with_len 0 (length cs))) k no_class ≡ flat_class_of cs k
unfolding flat_class_of
found_class ws cs k h = by_place (nat_lt k (length cs)) refl
  where
    by_place : (b : Bool) → nat_lt k (length cs) ≡ b → slice_index_or (map (wanted_class ws cs) (range_with_len 0 (length cs))) k no_class ≡ flat_class_of cs k
    by_place true e = get_or-map-range_with_len (wanted_class ws cs) 0 (length cs) k k no_class (ltb-true k (length cs) e) (omega arith) ∙ one_found ws cs k h
    by_place false e =
        let ge = ltb-false k (length cs) e in
        past (map (wanted_class ws cs) (range_with_len 0 (length cs))) k no_class (let long = length-map-range_with_len (wanted_class ws cs) 0 (length cs) in omega (arith, ge, long))
        ∙ sym (past (flat_classes cs) k no_class (let long = flat_length [] cs in omega (arith, ge, long)))

-- ---- what is made so far is known, as far as it is wanted

both_true : (s t : Bool) → (s && t) ≡ true → (s ≡ true) × (t ≡ true)
both_true true t h = (refl, h)
both_true false t h = absurd (true≢false (sym h))

marked_wanted : (ws : List Bool) (b : ℕ) → slice_index_or ws b false ≡ true → IsWanted ws b
marked_wanted [] b h = absurd (true≢false (sym h))
marked_wanted (w ∷ ws) zero h = h
marked_wanted (w ∷ ws) (suc b) h = marked_wanted ws b h

pub known_so_far : (ws : List Bool) (cs : List ClassTerm) (k : ℕ) (flats : List FlatTerm) → flats ≡ map (wanted_class ws cs) (range_with_len 0 k) → AreKnown cs flats ws
known_so_far ws cs k flats is b h =
    let both = both_true (nat_lt b (length flats)) (slice_index_or ws b false) h in
    let long : length flats ≡ k = ap length is ∙ length-map-range_with_len (wanted_class ws cs) 0 k in
    let less : b < k = omega (arith, ltb-true b (length flats) both.0, long) in
    ap (λ (fs : List FlatTerm). slice_index_or fs b no_class) is
    ∙ get_or-map-range_with_len (wanted_class ws cs) 0 k b b no_class less (omega arith)
    ∙ one_found ws cs b (marked_wanted ws b both.1)

pub each_class : (d : DesignTerm) (first ws ms : List Bool) (flats : List FlatTerm) (none : FlatTerm) → ws ≡ with_all_named d first d.stmts → KeepsWanted ws ms → flats ≡ map (wanted_class ms d.classes) (range_with_len 0 (length d.classes)) → none ≡ no_class
    → (o : ℕ) → IsNamed d o → slice_index_or flats (class_of_var d o) none ≡ flat_of_var d o
each_class d first ws ms flats none wanted keeps made empty o named =
    let here : IsWanted ws (class_of_var d o) = subst (λ (x : List Bool). IsWanted x (class_of_var d o)) (sym wanted) (named_wanted d first o named) in
    (λ i. slice_index_or (made i) (class_of_var d o) (empty i)) ∙ found_class ms d.classes (class_of_var d o) (keeps (class_of_var d o) here)
