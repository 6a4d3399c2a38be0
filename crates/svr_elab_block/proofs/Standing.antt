-- What stands of a base's items where blocks of some names take the place of others.
use Rattle.std.proofs.Common.{◌≡◌, ℕ, ◌+◌, ◌-◌, ◌<◌, ◌≤◌, Bool, true, false, if◌then◌else◌, ◌||◌, List, [], ◌∷◌, ◌++◌, map, length, get_or, take, reverse, refl, sym, ap, ◌∙◌, true≢false, arith}
use Rattle.std.specs.List.{list_any}
use Rattle.std.proofs.lemmas.Bool.{and_parts, and_from}
use Rattle.std.proofs.lemmas.List.{append-nil, append_assoc, map-append, reverse-append, take_all, take_more}
use Rattle.std.proofs.lemmas.List.Folds.{list_any-append}
use Rattle.std.proofs.lemmas.Slice.Eq.{bytes_eq-Decides}
use Rattle.svr_elab_names.specs.Names.{is_same}
use Rattle.svr_elab_names.specs.Tables.{Key, bytes_of}
use Rattle.svr_elab_order.specs.declared.Order.{Order}
use Rattle.svr_elab_order.specs.declared.Ranks.{Ranks}
use Rattle.svr_elab_order.specs.Ranks.{is_ranked, agree}
use Rattle.svr_elab_block.specs.Blocks.{and_kept, and_name, without}

abbrev Names : Type 0
Names = List (List ℕ)

abbrev among : List ℕ → Names → Bool
among q ns = list_any (is_same q) ns

or_false : (b : Bool) → (b || false) ≡ b
or_false true = refl
or_false false = refl

or_true : (a b : Bool) → (a || b) ≡ true → a ≡ false → b ≡ true
or_true true b h e = absurd (true≢false e)
or_true false b h e = h

-- what is among the first names is among these or those
abbrev pub AreBoth : Names → Names → Names → Type 0
AreBoth both t own = (q : List ℕ) → among q both ≡ (among q t || among q own)

module _ (text : ℕ → List ℕ) where
  -- ---- one item after the other

  kept_behind : (t : Names) (start : List Order) (o : Order) → and_kept text t start o ≡ start ++ and_kept text t [] o
  kept_behind t start o = pick (among (text o.block) t)
    where
      pick : (b : Bool) → (if b then start else start ++ o ∷ []) ≡ start ++ (if b then [] else [] ++ o ∷ [])
      pick true = sym (append-nil start)
      pick false = refl

  pub shifted : (t : Names) (start os : List Order) → without text t start os ≡ start ++ without text t [] os
  shifted t start [] = sym (append-nil start)
  shifted t start (o ∷ os) =
      shifted t (and_kept text t start o) os
      ∙ ap (λ (xs : List Order). xs ++ without text t [] os) (kept_behind t start o)
      ∙ append_assoc start (and_kept text t [] o) (without text t [] os)
      ∙ ap (λ (xs : List Order). start ++ xs) (sym (shifted t (and_kept text t [] o) os))

  in_turn : (t : Names) (start xs ys : List Order) → without text t start (xs ++ ys) ≡ without text t (without text t start xs) ys
  in_turn t start [] ys = refl
  in_turn t start (x ∷ xs) ys = in_turn t (and_kept text t start x) xs ys

  pub joined : (t : Names) (xs ys : List Order) → without text t [] (xs ++ ys) ≡ without text t [] xs ++ without text t [] ys
  joined t xs ys = in_turn t [] xs ys ∙ shifted t (without text t [] xs) ys

  -- ---- the first of some

  first_stands : (t : Names) (o : Order) (os : List Order) (b : Bool) → among (text o.block) t ≡ b → without text t [] (o ∷ os) ≡ (if b then without text t [] os else o ∷ without text t [] os)
  first_stands t o os b e =
      shifted t (and_kept text t [] o) os
      ∙ ap (λ (c : Bool). (if c then [] else [] ++ o ∷ []) ++ without text t [] os) e
      ∙ pick b
    where
      pick : (c : Bool) → (if c then [] else [] ++ o ∷ []) ++ without text t [] os ≡ (if c then without text t [] os else o ∷ without text t [] os)
      pick true = refl
      pick false = refl

  pub twice : (both t own : Names) → AreBoth both t own → (os : List Order) → without text both [] os ≡ without text t [] (without text own [] os)
  twice both t own h [] = refl
  twice both t own h (o ∷ os) = pick (among (text o.block) t) (among (text o.block) own) refl refl (twice both t own h os)
    where
      pick : (a b : Bool) → among (text o.block) t ≡ a → among (text o.block) own ≡ b → without text both [] os ≡ without text t [] (without text own [] os)
          → without text both [] (o ∷ os) ≡ without text t [] (without text own [] (o ∷ os))
      pick a true e f k =
          first_stands both o os true (h (text o.block) ∙ ap (λ (b : Bool). among (text o.block) t || b) f ∙ any_true (among (text o.block) t))
          ∙ k ∙ ap (without text t []) (sym (first_stands own o os true f))
        where
          any_true : (x : Bool) → (x || true) ≡ true
          any_true true = refl
          any_true false = refl
      pick true false e f k =
          first_stands both o os true (h (text o.block) ∙ ap (λ (b : Bool). b || among (text o.block) own) e)
          ∙ k ∙ sym (first_stands t o (without text own [] os) true e) ∙ ap (without text t []) (sym (first_stands own o os false f))
      pick false false e f k =
          first_stands both o os false (h (text o.block) ∙ ap (λ (b : Bool). b || among (text o.block) own) e ∙ f)
          ∙ ap (λ (xs : List Order). o ∷ xs) k ∙ sym (first_stands t o (without text own [] os) false e) ∙ ap (without text t []) (sym (first_stands own o os false f))

  none_replaced : (os : List Order) → without text [] [] os ≡ os
  none_replaced [] = refl
  none_replaced (o ∷ os) = first_stands [] o os false refl ∙ ap (λ (xs : List Order). o ∷ xs) (none_replaced os)

  pub same_stand : (t own : Names) → AreBoth t [] own → (os : List Order) → without text t [] os ≡ without text own [] os
  same_stand t own h os = twice t [] own h os ∙ none_replaced (without text own [] os)

  first_agrees : (r : Ranks) (t : Names) (o : Order) (os : List Order) (b : Bool) → among (text o.block) t ≡ b → is_ranked r o ≡ true → agree r (without text t [] os) ≡ true
      → agree r (without text t [] (o ∷ os)) ≡ true
  first_agrees r t o os true e h k = ap (agree r) (first_stands t o os true e) ∙ k
  first_agrees r t o os false e h k = ap (agree r) (first_stands t o os false e) ∙ and_from (is_ranked r o) (agree r (without text t [] os)) h k

  -- what stands agrees with the ranks that all agrees with
  pub standing_agree : (r : Ranks) (t : Names) (os : List Order) → agree r os ≡ true → agree r (without text t [] os) ≡ true
  standing_agree r t [] h = refl
  standing_agree r t (o ∷ os) h =
      let parts = and_parts (is_ranked r o) (agree r os) h in
      first_agrees r t o os (among (text o.block) t) refl parts.0 (standing_agree r t os parts.1)

  -- ---- from the last one back

  pub first_back : (t : Names) (orders back : List Order) → without text t [] (take (length orders) orders) ++ reverse back ≡ without text t [] orders ++ reverse back
  first_back t orders back = ap (λ (os : List Order). without text t [] os ++ reverse back) (take_all (length orders) orders (omega arith))

  last_back : (t : Names) (start back : List Order) (o : Order) (b : Bool) → among (text o.block) t ≡ b
      → without text t [] (o ∷ []) ++ reverse back ≡ reverse (if b then back else back ++ o ∷ [])
  last_back t start back o true e = ap (λ (xs : List Order). xs ++ reverse back) (first_stands t o [] true e)
  last_back t start back o false e = ap (λ (xs : List Order). xs ++ reverse back) (first_stands t o [] false e) ∙ sym (reverse-append back (o ∷ []))

  pub next_back : (t : Names) (orders back new whole : List Order) (n : ℕ) (d : Order) → 0 < n → n ≤ length orders → new ≡ and_kept text t back (get_or orders (n - 1) d)
      → without text t [] (take n orders) ++ reverse back ≡ whole → without text t [] (take (n - 1) orders) ++ reverse new ≡ whole
  next_back t orders back new whole n d some few is told =
      let o : Order = get_or orders (n - 1) d in
      let others : List Order = without text t [] (take (n - 1) orders) in
      let here : n ≡ n - 1 + 1 = omega (arith, some) in
      let less : n - 1 < length orders = omega (arith, some, few) in
      let split : take n orders ≡ take (n - 1) orders ++ o ∷ [] = ap (λ (m : ℕ). take m orders) here ∙ take_more orders (n - 1) d less in
      ap (λ (xs : List Order). others ++ reverse xs) is
      ∙ ap (λ (xs : List Order). others ++ xs) (sym (last_back t others back o (among (text o.block) t) refl))
      ∙ sym (append_assoc others (without text t [] (o ∷ [])) (reverse back))
      ∙ ap (λ (xs : List Order). xs ++ reverse back) (sym (joined t (take (n - 1) orders) (o ∷ [])))
      ∙ ap (λ (xs : List Order). without text t [] xs ++ reverse back) (sym split)
      ∙ told

  pub none_left : (t : Names) (orders back whole : List Order) (n : ℕ) → n ≤ 0 → without text t [] (take n orders) ++ reverse back ≡ whole → reverse back ≡ whole
  none_left t orders back whole n e told = let here : n ≡ 0 = omega (arith, e) in sym (ap (λ (m : ℕ). without text t [] (take m orders) ++ reverse back) here) ∙ told

-- ---- more names, each once

named_more : (ks : Names) (k q : List ℕ) → among q (and_name ks k) ≡ (among q ks || is_same q k)
named_more ks k q = pick (among k ks) refl
  where
    pick : (b : Bool) → among k ks ≡ b → among q (if b then ks else ks ++ k ∷ []) ≡ (among q ks || is_same q k)
    pick true e = there (is_same q k) refl
      where
        there : (s : Bool) → is_same q k ≡ s → among q ks ≡ (among q ks || s)
        there true f = let a : among q ks ≡ true = ap (λ (x : List ℕ). among x ks) ((bytes_eq-Decides q k).0 f) ∙ e in a ∙ sym (ap (λ (x : Bool). x || true) a)
        there false f = sym (or_false (among q ks))
    pick false e = list_any-append (is_same q) ks (k ∷ []) ∙ ap (λ (b : Bool). among q ks || b) (or_false (is_same q k))

or_assoc : (a b c : Bool) → ((a || b) || c) ≡ (a || (b || c))
or_assoc true b c = refl
or_assoc false b c = refl

pub names_first : (ks : List Key) (q : List ℕ) → among q (map bytes_of ks) ≡ (among q (map bytes_of ks) || false)
names_first ks q = sym (or_false (among q (map bytes_of ks)))

pub names_next : (start ks new more : List Key) (i : ℕ) (d : Key) → i < length more → map bytes_of new ≡ and_name (map bytes_of ks) (get_or more i d).now
    → ((q : List ℕ) → among q (map bytes_of ks) ≡ (among q (map bytes_of start) || among q (map bytes_of (take i more))))
    → (q : List ℕ) → among q (map bytes_of new) ≡ (among q (map bytes_of start) || among q (map bytes_of (take (i + 1) more)))
names_next start ks new more i d l is h q =
    let k : List ℕ = (get_or more i d).now in
    let split : map bytes_of (take (i + 1) more) ≡ map bytes_of (take i more) ++ k ∷ [] = ap (map bytes_of) (take_more more i d l) ∙ map-append bytes_of (take i more) (get_or more i d ∷ []) in
    ap (among q) is
    ∙ named_more (map bytes_of ks) k q
    ∙ ap (λ (b : Bool). b || is_same q k) (h q)
    ∙ or_assoc (among q (map bytes_of start)) (among q (map bytes_of (take i more))) (is_same q k)
    ∙ ap (λ (b : Bool). among q (map bytes_of start) || (among q (map bytes_of (take i more)) || b)) (sym (or_false (is_same q k)))
    ∙ ap (λ (b : Bool). among q (map bytes_of start) || b) (sym (list_any-append (is_same q) (map bytes_of (take i more)) (k ∷ [])))
    ∙ ap (λ (ns : Names). among q (map bytes_of start) || among q ns) (sym split)

-- what a list of names gives past its end
abbrev pub no_name : Key
no_name = record { ref_ptr = (0, 0); now = [] }

-- names that were put to none
pub both_first : (none more own all : List Key) → none ≡ [] → more ≡ own → AreBoth (map bytes_of all) (map bytes_of none) (map bytes_of more) → AreBoth (map bytes_of all) [] (map bytes_of own)
both_first none more own all e f h q = h q ∙ ap (λ (ks : List Key). among q (map bytes_of ks) || among q (map bytes_of more)) e ∙ ap (λ (ks : List Key). among q (map bytes_of ks)) f
