-- The statements of a design in the order in which they are executed: each stands, what each lists is listed, objects are made before they are used, and they are few.
use Rattle.std.proofs.Common.{◌≡◌, ◌≤◌, ◌+◌, ◌*◌, ◌⊎◌, inl, inr, ℕ, zero, suc, Bool, true, false, ◌||◌, refl, sym, ◌∙◌, subst, List, [], ◌∷◌, ◌++◌, length, length-append, Option, None, Some, arith}
use Rattle.std.specs.Prelude.{nat_eq, ⊤}
use Rattle.std.specs.List.{All, list_any}
use Rattle.std.proofs.Math.Nat.{mul-le-mul_left}
use Rattle.std.proofs.lemmas.List.Elements.{All-nil, All-cons, All-append}
use Rattle.std.proofs.lemmas.List.Folds.{list_any-append}
use Rattle.svr_typed.specs.ExprTerm.{ExprTerm, typed, NodeTerm, number, prop, element, cell, size, script, loop_index, reduce, of_object, bit_select, part_select, unary, binary, choice, inside, join, copies, sign, ExprTerms, no_exprs, more_exprs, RangeTerm, one, span, RangeTerms, no_ranges, more_ranges, BoundTerm, value, dollar}
use Rattle.svr_typed.specs.StmtTerm as stmt
use Rattle.svr_typed.specs.StmtTerm.{StmtTerm, StmtTerms, DesignTerm}
use Rattle.svr_script.specs.Statement.{times, in_order, all_in_order}
use Rattle.svr_design.specs.Statements.{StmtStands, AllStmtsStand, Made, Uses, NodeUses, AllUse, RangesUse, RangeUses, BoundUses, IndexUses, made_behind, Follows, AllFollow, runs, all_run}
use Rattle.svr_design.specs.Lawful.{lists, some_lists}
use Rattle.svr_run_laws.proofs.Ways.{by_way, or_ways, or_left, or_right}
use Rattle.svr_run_laws.proofs.Callable.{IsListed}

-- ---- each stands, and what it lists is listed

module _ (d : DesignTerm) where
  pub record IsIn (x : StmtTerm) : Type 0 where
    pub stands : StmtStands d x
    pub listed : IsListed d x

  all_times : (n : ℕ) (xs : List StmtTerm) → All IsIn xs → All IsIn (times n xs)
  all_times zero xs h = All-nil IsIn
  all_times (suc n) xs h = All-append IsIn xs (times n xs) h (all_times n xs h)

  alone : (x : StmtTerm) → StmtStands d x → IsListed d x → All IsIn (x ∷ [])
  alone x h g = All-cons IsIn x [] (record { stands = h; listed = g }) (All-nil IsIn)

  mutual
    one_in : (x : StmtTerm) → StmtStands d x → IsListed d x → All IsIn (in_order x)
    one_in (stmt.make o) h g = alone (stmt.make o) h g
    one_in (stmt.set_var v e) h g = alone (stmt.set_var v e) h g
    one_in (stmt.set_prop o p i e) h g = alone (stmt.set_prop o p i e) h g
    one_in (stmt.resize o p n) h g = alone (stmt.resize o p n) h g
    one_in (stmt.pattern o p es) h g = alone (stmt.pattern o p es) h g
    one_in (stmt.rand_mode o p e) h g = alone (stmt.rand_mode o p e) h g
    one_in (stmt.constraint_mode o b e) h g = alone (stmt.constraint_mode o b e) h g
    one_in (stmt.call c) h g = alone (stmt.call c) h g
    one_in (stmt.repeat n s) h g = all_times n (in_order s) (one_in s h.1 g)
    one_in (stmt.list ss) h g = some_in ss h g

    some_in : (ss : StmtTerms) → AllStmtsStand d ss → ((t : ℕ → Bool) (p : ℕ) → some_lists t p ss ≡ true → some_lists t p d.stmts ≡ true) → All IsIn (all_in_order ss)
    some_in stmt.no_stmts h g = All-nil IsIn
    some_in (stmt.more_stmts s ss) h g =
        All-append IsIn (in_order s) (all_in_order ss) (one_in s h.0 (λ t p e. g t p (or_left (lists t p s) (some_lists t p ss) e)))
        (some_in ss h.1 (λ t p e. g t p (or_right (lists t p s) (some_lists t p ss) e)))

  pub all_in : AllStmtsStand d d.stmts → All IsIn (all_in_order d.stmts)
  all_in h = some_in d.stmts h (λ t p e. e)

-- ---- an object that is used is made before it in the order

-- the objects that are made behind statements
abbrev pub behind : List ℕ → List StmtTerm → List ℕ
behind made [] = made
behind made (x ∷ xs) = behind (made_behind x made) xs

abbrev pub EachFollows : List ℕ → List StmtTerm → Type 0
EachFollows made [] = ⊤
EachFollows made (x ∷ xs) = Follows made x × EachFollows (made_behind x made) xs

abbrev More : List ℕ → List ℕ → Type 0
More few many = (o : ℕ) → Made few o → Made many o

-- behind `o = new` what was made and o are
pub made_more : (made : List ℕ) (o q : ℕ) → Made (made ++ o ∷ []) q → Made made q ⊎ (nat_eq q o ≡ true)
made_more made o q h = by_way (λ g. inl g) (λ g. inr (last (nat_eq q o) g)) (or_ways (list_any (nat_eq q) made) (list_any (nat_eq q) (o ∷ [])) (sym (list_any-append (nat_eq q) made (o ∷ [])) ∙ h))
  where
    last : (b : Bool) → (b || false) ≡ true → b ≡ true
    last true e = refl
    last false e = e

in_front : (made own : List ℕ) → More made (made ++ own)
in_front made own q h = list_any-append (nat_eq q) made own ∙ or_left (list_any (nat_eq q) made) (list_any (nat_eq q) own) h

still : (x : StmtTerm) (made : List ℕ) → More made (made_behind x made)
still (stmt.make o) made = in_front made (o ∷ [])
still (stmt.set_var v e) made = λ q h. h
still (stmt.set_prop o p i e) made = λ q h. h
still (stmt.resize o p n) made = λ q h. h
still (stmt.pattern o p es) made = λ q h. h
still (stmt.rand_mode o p e) made = λ q h. h
still (stmt.constraint_mode o b e) made = λ q h. h
still (stmt.call c) made = λ q h. h
still (stmt.repeat n s) made = λ q h. h
still (stmt.list ss) made = λ q h. h

still_all : (xs : List StmtTerm) (made : List ℕ) → More made (behind made xs)
still_all [] made = λ q h. h
still_all (x ∷ xs) made = λ q h. still_all xs (made_behind x made) q (still x made q h)

one_more : (few many : List ℕ) (o : ℕ) → More few many → More (few ++ o ∷ []) (many ++ o ∷ [])
one_more few many o f q h =
    list_any-append (nat_eq q) many (o ∷ [])
    ∙ by_way (λ g. or_left (list_any (nat_eq q) many) (list_any (nat_eq q) (o ∷ [])) (f q g)) (λ g. or_right (list_any (nat_eq q) many) (list_any (nat_eq q) (o ∷ [])) (or_left (nat_eq q o) false g)) (made_more few o q h)

more_behind : (x : StmtTerm) (few many : List ℕ) → More few many → More (made_behind x few) (made_behind x many)
more_behind (stmt.make o) few many f = one_more few many o f
more_behind (stmt.set_var v e) few many f = f
more_behind (stmt.set_prop o p i e) few many f = f
more_behind (stmt.resize o p n) few many f = f
more_behind (stmt.pattern o p es) few many f = f
more_behind (stmt.rand_mode o p e) few many f = f
more_behind (stmt.constraint_mode o b e) few many f = f
more_behind (stmt.call c) few many f = f
more_behind (stmt.repeat n s) few many f = f
more_behind (stmt.list ss) few many f = f

module _ (few many : List ℕ) (more : More few many) where
  mutual
    uses : (e : ExprTerm) → Uses few e → Uses many e
    uses (typed w s n) h = node_uses n h

    node_uses : (n : NodeTerm) → NodeUses few n → NodeUses many n
    node_uses (number v every) h = h
    node_uses (prop p) h = h
    node_uses (element p i) h = uses i h
    node_uses (cell p m i j) h = h
    node_uses (size p m) h = h
    node_uses (script v) h = h
    node_uses (loop_index k) h = h
    node_uses (reduce p op body) h = h
    node_uses (of_object o e) h = (more o h.0, uses e h.1)
    node_uses (bit_select x i low) h = (uses x h.0, uses i h.1)
    node_uses (part_select x b c low) h = (uses x h.0, uses b h.1, uses c h.2)
    node_uses (unary op x) h = uses x h
    node_uses (binary op x y) h = (uses x h.0, uses y h.1)
    node_uses (choice t x y) h = (uses t h.0, uses x h.1, uses y h.2)
    node_uses (inside x rs) h = (uses x h.0, ranges_use rs h.1)
    node_uses (join xs) h = all_use xs h
    node_uses (copies n xs) h = (uses n h.0, all_use xs h.1)
    node_uses (sign t x) h = uses x h

    all_use : (es : ExprTerms) → AllUse few es → AllUse many es
    all_use no_exprs h = h
    all_use (more_exprs e es) h = (uses e h.0, all_use es h.1)

    ranges_use : (rs : RangeTerms) → RangesUse few rs → RangesUse many rs
    ranges_use no_ranges h = h
    ranges_use (more_ranges r rs) h = (range_uses r h.0, ranges_use rs h.1)

    range_uses : (r : RangeTerm) → RangeUses few r → RangeUses many r
    range_uses (one e) h = uses e h
    range_uses (span low high) h = (bound_uses low h.0, bound_uses high h.1)

    bound_uses : (b : BoundTerm) → BoundUses few b → BoundUses many b
    bound_uses (value e) h = uses e h
    bound_uses dollar h = h

  index_uses : (i : Option ExprTerm) → IndexUses few i → IndexUses many i
  index_uses None h = h
  index_uses (Some e) h = uses e h

mutual
  follows : (few many : List ℕ) → More few many → (x : StmtTerm) → Follows few x → Follows many x
  follows few many f (stmt.make o) h = h
  follows few many f (stmt.set_var v e) h = uses few many f e h
  follows few many f (stmt.set_prop o p i e) h = (f o h.0, index_uses few many f i h.1, uses few many f e h.2)
  follows few many f (stmt.resize o p n) h = f o h
  follows few many f (stmt.pattern o p es) h = (f o h.0, all_use few many f es h.1)
  follows few many f (stmt.rand_mode o p e) h = (f o h.0, uses few many f e h.1)
  follows few many f (stmt.constraint_mode o b e) h = (f o h.0, uses few many f e h.1)
  follows few many f (stmt.call c) h = f c.object h
  follows few many f (stmt.repeat n s) h = follows few many f s h
  follows few many f (stmt.list ss) h = all_follow few many f ss h

  all_follow : (few many : List ℕ) → More few many → (ss : StmtTerms) → AllFollow few ss → AllFollow many ss
  all_follow few many f stmt.no_stmts h = h
  all_follow few many f (stmt.more_stmts s ss) h = (follows few many f s h.0, all_follow (made_behind s few) (made_behind s many) (more_behind s few many f) ss h.1)

each_follows : (few many : List ℕ) → More few many → (xs : List StmtTerm) → EachFollows few xs → EachFollows many xs
each_follows few many f [] h = h
each_follows few many f (x ∷ xs) h = (follows few many f x h.0, each_follows (made_behind x few) (made_behind x many) (more_behind x few many f) xs h.1)

joined : (made : List ℕ) (xs ys : List StmtTerm) → EachFollows made xs → EachFollows (behind made xs) ys → EachFollows made (xs ++ ys)
joined made [] ys h k = k
joined made (x ∷ xs) ys h k = (h.0, joined (made_behind x made) xs ys h.1 k)

times_follow : (made : List ℕ) (n : ℕ) (xs : List StmtTerm) → EachFollows made xs → EachFollows made (times n xs)
times_follow made zero xs h = tt
times_follow made (suc n) xs h = joined made xs (times n xs) h (each_follows made (behind made xs) (still_all xs made) (times n xs) (times_follow made n xs h))

-- what the rule counts as made behind a statement is made behind its parts
covers : (s : StmtTerm) (made : List ℕ) → More (made_behind s made) (behind made (in_order s))
covers (stmt.make o) made = λ q h. h
covers (stmt.set_var v e) made = λ q h. h
covers (stmt.set_prop o p i e) made = λ q h. h
covers (stmt.resize o p n) made = λ q h. h
covers (stmt.pattern o p es) made = λ q h. h
covers (stmt.rand_mode o p e) made = λ q h. h
covers (stmt.constraint_mode o b e) made = λ q h. h
covers (stmt.call c) made = λ q h. h
covers (stmt.repeat n s) made = still_all (times n (in_order s)) made
covers (stmt.list ss) made = still_all (all_in_order ss) made

mutual
  parts_follow : (made : List ℕ) (s : StmtTerm) → Follows made s → EachFollows made (in_order s)
  parts_follow made (stmt.make o) h = (h, tt)
  parts_follow made (stmt.set_var v e) h = (h, tt)
  parts_follow made (stmt.set_prop o p i e) h = (h, tt)
  parts_follow made (stmt.resize o p n) h = (h, tt)
  parts_follow made (stmt.pattern o p es) h = (h, tt)
  parts_follow made (stmt.rand_mode o p e) h = (h, tt)
  parts_follow made (stmt.constraint_mode o b e) h = (h, tt)
  parts_follow made (stmt.call c) h = (h, tt)
  parts_follow made (stmt.repeat n s) h = times_follow made n (in_order s) (parts_follow made s h)
  parts_follow made (stmt.list ss) h = all_parts_follow made ss h

  pub all_parts_follow : (made : List ℕ) (ss : StmtTerms) → AllFollow made ss → EachFollows made (all_in_order ss)
  all_parts_follow made stmt.no_stmts h = tt
  all_parts_follow made (stmt.more_stmts s ss) h =
      joined made (in_order s) (all_in_order ss) (parts_follow made s h.0)
      (each_follows (made_behind s made) (behind made (in_order s)) (covers s made) (all_in_order ss) (all_parts_follow (made_behind s made) ss h.1))

-- ---- no more statements than are counted

times_long : (n : ℕ) (xs : List StmtTerm) → length (times n xs) ≡ n * length xs
times_long zero xs = omega arith
times_long (suc n) xs =
    let rest = times_long n xs in
    let more : suc n * length xs ≡ n * length xs + length xs = omega arith in
    length-append xs (times n xs) ∙ omega (arith, rest, more)

two_few : (a b m n : ℕ) → a ≤ m → b ≤ n → a + b ≤ m + n
two_few a b m n h k = omega (arith, h, k)

mutual
  parts_few : (s : StmtTerm) → length (in_order s) ≤ runs s
  parts_few (stmt.make o) = omega arith
  parts_few (stmt.set_var v e) = omega arith
  parts_few (stmt.set_prop o p i e) = omega arith
  parts_few (stmt.resize o p n) = omega arith
  parts_few (stmt.pattern o p es) = omega arith
  parts_few (stmt.rand_mode o p e) = omega arith
  parts_few (stmt.constraint_mode o b e) = omega arith
  parts_few (stmt.call c) = omega arith
  parts_few (stmt.repeat n s) =
      let long = times_long n (in_order s) in
      let few = mul-le-mul_left n (parts_few s) in
      omega (arith, long, few)
  parts_few (stmt.list ss) = let few = all_parts_few ss in omega (arith, few)

  pub all_parts_few : (ss : StmtTerms) → length (all_in_order ss) ≤ all_run ss
  all_parts_few stmt.no_stmts = omega arith
  all_parts_few (stmt.more_stmts s ss) =
      subst (λ (n : ℕ). n ≤ runs s + all_run ss) (sym (length-append (in_order s) (all_in_order ss)))
      (two_few (length (in_order s)) (length (all_in_order ss)) (runs s) (all_run ss) (parts_few s) (all_parts_few ss))
