-- The trail of the sweep: a clause over negated decisions denies a node that no clause denied
use Rattle.std.proofs.Common.{◌≡◌, ℕ, ◌+◌, ◌-◌, ◌<◌, ◌≤◌, Bool, true, false, ◌&&◌, ◌||◌, not, List, [], ◌∷◌, ◌++◌, length, refl, ap, sym, ◌∙◌, subst, arith, Option, Some, None, get_or, take, ◌⊎◌, inl, inr}
use Rattle.std.specs.Prelude.{Contains, IsSome}
use Rattle.std.specs.Option.{option_map}
use Rattle.std.specs.List.{list_any}
use Rattle.std.proofs.lemmas.Bool.{or_cases, or_left, or_right, cases_lt, cases_eq, cases_Bool, both_ways, false≢true, false_from_ne_true}
use Rattle.std.proofs.lemmas.List.{get_or_default, take_more}
use Rattle.std.proofs.lemmas.List.Elements.{All-head, All-tail}
use Rattle.svr_chain.specs.declared.clause.Lit.{Lit}
use Rattle.svr_chain.specs.Clauses.{same_sign, same_lit, flip, has}
use Rattle.svr_chain.specs.Log.{are_denied}
use Rattle.svr_chain.proofs.Same.{all-has, all-from, lit-self}
use Rattle.svr_trail.specs.declared.Entry.{Entry}
use Rattle.svr_trail.specs.Trail.{sign_at, value_in, is_false, is_false_but, Each, IsQuiet, IsClosed, IsGrown}
use Rattle.svr_cdcl.specs.Search.{SearchView, IsSearch}
use Rattle.svr_cdcl.specs.Learned.{IsLowest, is_decided, is_kept, is_explained}
use Rattle.svr_chain.proofs.Sound.{same_lit-true}
use Rattle.svr_query.specs.Logged.{is_true, IsAsked}
use Rattle.svr_query.specs.Sweep.{bit_lit, is_refuted, is_begun, open_nodes, IsNextBit, IsSwept}
use Rattle.svr_query.proofs.Asked.{decided-grown}
use Rattle.svr_query.proofs.Nodes.{node, node-cases, node-first, node-bit, nodes-less, refuted-new}
use Rattle.svr_chain.proofs.ClauseLemmas.{flip-flip}
use Rattle.svr_cdcl.proofs.Decided.{decided-index, none_at_0}
use Rattle.svr_trail.proofs.Trails.{sign_at-of_take, sign_at-push_same, sign_at-take}

pub swept-grown : (n : ℕ) (assume : List Lit) (ks : List (List Lit)) (old new : List Entry) → Each (IsSwept n assume) old → IsGrown ks old new → Each (IsSwept n assume) new
swept-grown n assume ks old new a g = decided-grown (λ es e. (sign_at es e.lit.var ≡ None) × ((has assume e.lit ≡ true) ⊎ IsNextBit n assume es e.lit)) ks old new a g

pub swept-start : (n : ℕ) (assume : List Lit) (s : SearchView) → IsSearch s → s.ends ≡ [] → Each (IsSwept n assume) s.entries
swept-start n assume s k z i e h r = absurd (none_at_0 s k z i e h r)

-- a clause that is not denied has a lowest level
pub lowest-there : (assume c : List Lit) (level : ℕ) (es : List Entry) (ends : List ℕ) → are_denied assume c ≡ false → ((c ≡ []) × (level ≡ 0)) ⊎ IsLowest es ends c level → IsLowest es ends c level
lowest-there assume c level es ends f o = elim o [ inl e ↦ absurd (both_ways (are_denied assume c) f (ap (are_denied assume) e.0)) | inr w ↦ w ]

-- and has a literal
pub left-there : (assume c : List Lit) → are_denied assume c ≡ false → c ≡ [] → ⊥
left-there assume c f e = both_ways (are_denied assume c) f (ap (are_denied assume) e)

pub swept-asked : (n : ℕ) (assume : List Lit) (es : List Entry) → Each (IsSwept n assume) es → Each (IsAsked assume) es
swept-asked n assume es a i e h r = elim (a i e h r).1 [ inl q ↦ inl q | inr q ↦ inr q.assumed ]

not-denied : (assume c : List Lit) → are_denied assume c ≡ false → (x : Lit) × (has c x ≡ true) × (has assume (flip x) ≡ false)
not-denied assume [] h = absurd (false≢true (sym h))
not-denied assume (x ∷ c) h =
    elim (cases_Bool (has assume (flip x))) [
      | inl e ↦
          let t : are_denied assume c ≡ false = ap (λ z. z && are_denied assume c) (sym e) ∙ h in
          let r = not-denied assume c t in
          (r.0, or_right (same_lit x r.0) (has c r.0) r.1, r.2)
      | inr e ↦ (x, or_left (same_lit x x) (has c x) (lit-self x), e)
    ]

-- the sign of a variable, whatever where it is open
abbrev sign_or : Option Bool → Bool
sign_or None = false
sign_or (Some b) = b

some-not_none : (o : Option Bool) → IsSome o → o ≡ None → ⊥
some-not_none None h e = cc
some-not_none (Some b) h e = cc

some-sign : (o : Option Bool) → IsSome o → o ≡ Some (sign_or o)
some-sign None h = cc
some-sign (Some b) h = refl

true-some : (f : Bool → Bool) (o : Option Bool) → is_true (option_map f o) ≡ true → IsSome o
true-some f None h = absurd (false≢true h)
true-some f (Some b) h = refl

-- a literal is false where its variable has the other sign
false-sign : (o : Option Bool) (n b : Bool) → o ≡ Some b → not n ≡ b → is_false (option_map (λ s. same_sign s n) o) ≡ true
false-sign o n b e f = ap (λ z. is_false (option_map (λ s. same_sign s n) z)) (e ∙ ap Some (sym f)) ∙ turned n
  where
    turned : (n : Bool) → is_false (option_map (λ s. same_sign s n) (Some (not n))) ≡ true
    turned true = refl
    turned false = refl

-- where its negation is true, a literal is false
false-true : (o : Option Bool) (n : Bool) → is_true (option_map (λ s. same_sign s (not n)) o) ≡ true → is_false (option_map (λ s. same_sign s n) o) ≡ true
false-true None n h = absurd (false≢true h)
false-true (Some true) true h = absurd (false≢true h)
false-true (Some true) false h = refl
false-true (Some false) true h = refl
false-true (Some false) false h = absurd (false≢true h)

module _ (s : SearchView) (k : IsSearch s) (n : ℕ) (assume : List Lit) (swept : Each (IsSwept n assume) s.entries) where
  abbrev es : List Entry
  es = s.entries

  -- the sign of an entry that was decided
  decided-sign : (i : ℕ) (d : Entry) → i < length es → (get_or es i d).reason ≡ None → sign_at es (get_or es i d).lit.var ≡ Some (get_or es i d).lit.neg
  decided-sign i d h r =
      let e : Entry = get_or es i d in
      let t : take (i + 1) es ≡ take i es ++ e ∷ [] = take_more es i d h in
      let o : sign_at (take i es) e.lit.var ≡ None = (swept i d h r).0 in
      sign_at-of_take es (i + 1) e.lit.var e.lit.neg (ap (λ z. sign_at z e.lit.var) t ∙ sign_at-push_same (take i es) e e.lit.var o refl)

  -- no decision stands after the start of the last level
  none-after : (i : ℕ) (d : Entry) → i < length es → (get_or es i d).reason ≡ None → (0 < length s.ends) × (i ≤ get_or s.ends (length s.ends - 1) 0)
  none-after i d h r =
      let c : Contains s.ends i = k.starts i d h r in
      let q : ℕ = c.0 in
      let b : q < length s.ends = c.1 in
      let at : get_or s.ends q 0 ≡ i = get_or_default s.ends q 0 i b ∙ c.2 in
      let last : ℕ = length s.ends - 1 in (
        omega (arith, b),
        elim (cases_eq q last) [
          | inl e ↦ let w : get_or s.ends q 0 ≡ get_or s.ends last 0 = ap (λ z. get_or s.ends z 0) e in omega (arith, at, w)
          | inr e ↦ let w : get_or s.ends q 0 < get_or s.ends last 0 = k.rising q last (omega (arith, b, e)) (omega (arith, b)) in omega (arith, at, w)
        ],
      )

  -- the last decision: that of a bit, all assumed ones being true, at the end of a closed level
  module _ (i : ℕ) (d : Entry) (inside : i < length es) (reason : (get_or es i d).reason ≡ None) (closed : IsClosed (take i es) s.clauses)
      (bit : IsNextBit n assume (take i es) (get_or es i d).lit)
      (last : (j : ℕ) → j < length es → (get_or es j d).reason ≡ None → j ≤ i) where
    abbrev l : Lit
    l = (get_or es i d).lit

    abbrev signs : ℕ → Bool
    signs v = sign_or (sign_at es v)

    abbrev before : ℕ
    before = l.var - 1

    abbrev parent : List Lit
    parent = node signs assume 0 before

    same-var : before + 1 ≡ l.var
    same-var = let o : 0 < l.var = bit.within.0 in omega (arith, o)

    was-open : sign_at (take i es) l.var ≡ None
    was-open = (swept i d inside reason).0

    own-sign : signs l.var ≡ l.neg
    own-sign = ap sign_or (decided-sign i d inside reason)

    -- what a child denies is false before the decision, but for the decided bit
    denied-false : (b : Bool) (y : Lit) → has (bit_lit before b ∷ parent) (flip y) ≡ true → (same_lit y (flip (bit_lit before b)) || is_false (value_in (take i es) y)) ≡ true
    denied-false b y h =
        elim (or_cases (same_lit (bit_lit before b) (flip y)) (has parent (flip y)) h) [
          | inl e ↦
              let w : bit_lit before b ≡ flip y = same_lit-true (bit_lit before b) (flip y) e in
              let m : y ≡ flip (bit_lit before b) = sym (flip-flip y) ∙ ap flip (sym w) in
              or_left (same_lit y (flip (bit_lit before b))) (is_false (value_in (take i es) y)) (ap (same_lit y) (sym m) ∙ lit-self y)
          | inr e ↦ or_right (same_lit y (flip (bit_lit before b))) (is_false (value_in (take i es) y)) (elim (node-cases signs assume 0 before (flip y) e) [
            | inl q ↦ false-true (sign_at (take i es) y.var) y.neg (all-has (λ x. is_true (value_in (take i es) x)) assume (flip y) bit.assumed q)
            | inr q ↦
                let q0 : 0 < y.var = q.0 in
                let q1 : y.var ≤ 0 + before = q.1 in
                let q2 : not y.neg ≡ signs y.var = q.2 in
                let v : y.var - 1 + 1 ≡ y.var = omega (arith, q0) in
                let o : IsSome (sign_at (take i es) (y.var - 1 + 1)) = bit.lower (y.var - 1) (omega (arith, q0, q1, same-var)) in
                let u : IsSome (sign_at (take i es) y.var) = subst (λ z. IsSome (sign_at (take i es) z)) v o in
                let a : sign_at (take i es) y.var ≡ Some (sign_or (sign_at (take i es) y.var)) = some-sign (sign_at (take i es) y.var) u in
                let g : sign_at es y.var ≡ Some (sign_or (sign_at (take i es) y.var)) = sign_at-of_take es i y.var (sign_or (sign_at (take i es) y.var)) a in
                let m : not y.neg ≡ sign_or (sign_at (take i es) y.var) = q2 ∙ ap sign_or g in
                false-sign (sign_at (take i es) y.var) y.neg (sign_or (sign_at (take i es) y.var)) a m
          ])
        ]

    -- no clause denied a child
    child-new : (b : Bool) (ks : List (List Lit)) → IsClosed (take i es) ks → is_refuted ks (bit_lit before b ∷ parent) ≡ false
    unfolding is_refuted
    child-new b [] q = refl
    child-new b (c ∷ ks) q =
        let child : List Lit = bit_lit before b ∷ parent in
        let p : Lit = flip (bit_lit before b) in
        let f : are_denied child c ≡ false = false_from_ne_true (are_denied child c) (λ a.
        let g : is_false_but (take i es) p c ≡ true = all-from (λ y. same_lit y p || is_false (value_in (take i es) y)) c (λ y h. denied-false b y (all-has (λ x. has child (flip x)) c y a h)) in
        let t : value_in (take i es) p ≡ Some true = All-head (IsQuiet (take i es)) c ks q p g in
        let o : value_in (take i es) p ≡ None = ap (λ z. value_in (take i es) (record { var = z; neg = not b })) same-var ∙ ap (option_map (λ z. same_sign z (not b))) was-open in
        let z : None ≡ Some true = sym o ∙ t in
        cc) in
        ap (λ z. z || list_any (are_denied child) ks) f ∙ child-new b ks (All-tail (IsQuiet (take i es)) c ks q)

    not-begun : is_begun s.clauses parent (0 + before) ≡ false
    not-begun =
        let n : 0 + before ≡ before = omega arith in
        ap (is_begun s.clauses parent) n
        ∙ (ap (λ z. z || is_refuted s.clauses (bit_lit before false ∷ parent)) (child-new true s.clauses closed) ∙ child-new false s.clauses closed)

    -- a decided literal is one of the child's
    decided-child : (y : Lit) → is_decided es y ≡ true → has (bit_lit before l.neg ∷ parent) y ≡ true
    decided-child y h =
        let r = decided-index es y d h in
        let j : ℕ = r.0 in
        let o : j ≤ i = last j r.1 r.3 in
        let e : Entry = get_or es j d in
        subst (λ z. has (bit_lit before l.neg ∷ parent) z ≡ true) r.2 (elim (swept j d r.1 r.3).1 [
          | inl q ↦ or_right (same_lit (bit_lit before l.neg) e.lit) (has parent e.lit) (node-first signs assume 0 before e.lit q)
          | inr q ↦
              let w0 : 0 < e.lit.var = q.within.0 in
              let sg : signs e.lit.var ≡ e.lit.neg = ap sign_or (decided-sign j d r.1 r.3) in
              let up : e.lit.var ≤ l.var = elim (cases_lt l.var e.lit.var) [
                | inr g ↦ g
                | inl g ↦
                    let l0 : 0 < l.var = bit.within.0 in
                    let v : l.var - 1 + 1 ≡ l.var = omega (arith, l0) in
                    let m : IsSome (sign_at (take j es) (l.var - 1 + 1)) = q.lower (l.var - 1) (omega (arith, l0, g)) in
                    let u : IsSome (sign_at (take j es) l.var) = subst (λ z. IsSome (sign_at (take j es) z)) v m in
                    let a : sign_at (take j es) l.var ≡ Some (sign_or (sign_at (take j es) l.var)) = some-sign (sign_at (take j es) l.var) u in
                    let b : sign_at (take i es) l.var ≡ Some (sign_or (sign_at (take j es) l.var)) = sign_at-take es j i l.var (sign_or (sign_at (take j es) l.var)) o a in
                    let z : None ≡ Some (sign_or (sign_at (take j es) l.var)) = sym was-open ∙ b in
                    absurd (cc)
              ] in
              elim (cases_eq l.var e.lit.var) [
                | inl g ↦
                    let m : l.neg ≡ e.lit.neg = sym own-sign ∙ (ap signs g ∙ sg) in
                    let x : bit_lit before l.neg ≡ e.lit = (λ j. record { var = (same-var ∙ g) j; neg = m j }) in
                    or_left (same_lit (bit_lit before l.neg) e.lit) (has parent e.lit) (ap (λ z. same_lit z e.lit) x ∙ lit-self e.lit)
                | inr g ↦ or_right (same_lit (bit_lit before l.neg) e.lit) (has parent e.lit) (node-bit signs assume 0 before e.lit w0 (omega (arith, up, g, same-var)) (sym sg))
              ]
        ])

    child-denied : (c : List Lit) → is_explained es None c ≡ true → are_denied (bit_lit (0 + before) l.neg ∷ parent) c ≡ true
    child-denied c a =
        let n : before ≡ 0 + before = omega arith in
        ap (λ z. are_denied (bit_lit z l.neg ∷ parent) c) (sym n)
        ∙ all-from (λ x. has (bit_lit before l.neg ∷ parent) (flip x)) c (λ x h. decided-child (flip x) (all-has (λ y. is_kept None y || is_decided es (flip y)) c x a h))

  -- a clause over negated decisions that are not all assumed leaves fewer nodes
  pub new-node : (c : List Lit) → is_explained es None c ≡ true → are_denied assume c ≡ false → open_nodes (s.clauses ++ c ∷ []) assume 0 n < open_nodes s.clauses assume 0 n
  new-node c a f =
      let x = not-denied assume c f in
      let d : Entry = record { lit = x.0; reason = None } in
      let r = decided-index es (flip x.0) d (all-has (λ y. is_kept None y || is_decided es (flip y)) c x.0 a x.1) in
      let j : ℕ = r.0 in
      let some = none-after j d r.1 r.3 in
      let last : ℕ = length s.ends - 1 in
      let some0 : 0 < length s.ends = some.0 in
      let below : last < length s.ends = omega (arith, some0) in
      let i : ℕ = get_or s.ends last 0 in
      let order : j ≤ i = some.1 in
      let inside : i < length es = k.short last below in
      let reason : (get_or es i d).reason ≡ None = k.decided last d below in
      let e : Entry = get_or es i d in
      let opened : sign_at (take i es) e.lit.var ≡ None = (swept i d inside reason).0 in
      let bit : IsNextBit n assume (take i es) e.lit = elim (swept i d inside reason).1 [
        | inr q ↦ q
        | inl q ↦ absurd (elim (swept j d r.1 r.3).1 [
          | inl g ↦ both_ways (has assume (flip x.0)) x.2 (ap (has assume) (sym r.2) ∙ g)
          | inr g ↦
              let t : is_true (value_in (take j es) e.lit) ≡ true = all-has (λ y. is_true (value_in (take j es) y)) assume e.lit g.assumed q in
              let u : IsSome (sign_at (take j es) e.lit.var) = true-some (λ b. same_sign b e.lit.neg) (sign_at (take j es) e.lit.var) t in
              let v : sign_at (take i es) e.lit.var ≡ Some (sign_or (sign_at (take j es) e.lit.var))
              = sign_at-take es j i e.lit.var (sign_or (sign_at (take j es) e.lit.var)) order (some-sign (sign_at (take j es) e.lit.var) u) in
              let z : None ≡ Some (sign_or (sign_at (take j es) e.lit.var)) = sym opened ∙ v in
              cc
        ])
      ] in
      let after : (q : ℕ) → q < length es → (get_or es q d).reason ≡ None → q ≤ i = λ q h g. (none-after q d h g).1 in
      let closed : IsClosed (take i es) s.clauses = k.closed last below in
      let up : e.lit.var ≤ n = bit.within.1 in
      let j : ℕ = e.lit.var - 1 in
      let some1 : 0 < e.lit.var = bit.within.0 in
      let p : List Lit = parent i d inside reason closed bit after in
      nodes-less (signs i d inside reason closed bit after) s.clauses c assume 0 n j e.lit.neg (omega (arith, up, some1))
      (not-begun i d inside reason closed bit after)
      (refuted-new s.clauses c (bit_lit (0 + j) e.lit.neg ∷ p) (child-denied i d inside reason closed bit after c a))
