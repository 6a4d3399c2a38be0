-- What is made of a text in which nothing is refused can be derived from
use Rattle.std.proofs.Common.{◌≡◌, ℕ, suc, ◌+◌, ◌≤◌, ◌<◌, Bool, true, false, ◌&&◌, ◌||◌, List, [], ◌∷◌, ◌++◌, map, length, Option, None, Some, is_some, if◌then◌else◌, refl, sym, ap, ◌∙◌, subst, arith}
use Rattle.std.specs.Prelude.{nat_lt, nat_le}
use Rattle.std.specs.List.{All, list_any}
use Rattle.std.proofs.lemmas.Bool.{ltb-true, leb-true, and_parts}
use Rattle.std.proofs.lemmas.List.{length-map}
use Rattle.std.proofs.lemmas.List.Elements.{All-nil, All-cons}
use Rattle.svr_refusal.specs.declared.refusal.Refusal.TheVariants as refusal
use Rattle.svr_seq.specs.SeqTerm.{ActTerm, block}
use Rattle.svr_seq.specs.Sound.{depth, IsSoundAct, IsSoundPart, IsSoundRule, IsSoundProduction, IsSound, rule_weights}
use Rattle.svr_seq_text.specs.declared.text.ActText.TheVariants as t
use Rattle.svr_seq_text.specs.declared.text.RuleText.{RuleText}
use Rattle.svr_seq_text.specs.declared.text.ProdText.{ProdText}
use Rattle.svr_seq_text.specs.Tree.{ActTree, printed, chosen, PartTree, named, repeated, coded, RuleTree, ProdTree, SeqTree, act_text, acts_text, part_text, rule_text, prod_text, text_of}
use Rattle.svr_seq.specs.declared.limits.TheConstants.{SEQUENCE_LIMIT, REPEAT_LIMIT}
use Rattle.svr_seq_made.specs.Blocks.{value_of, unless, piece_refusals, acts_refusals}
use Rattle.svr_seq_made.specs.Trees.{act_of}
use Rattle.svr_seq_made.specs.Refusals.{is_same, Entry, place_of, and_entry, entries, Finder, finder, unknown, is_at, weight_of, has_weight, part_refusals, parts_refusals, rules_refusals, head_refusals, prod_refusals, prods_refusals, start_refusals, refusals}
use Rattle.svr_seq_made.specs.Making.{or_first, place_at, part_made, rule_made, prod_made, start_made, seq_made}
use Rattle.svr_seq_made.proofs.Acts.{blk, state, refused-append, act-state, acts-made}
use Rattle.svr_seq_made.proofs.Within.{no-front, no-back, is-fine, ActIsWithin, act-within}

-- each name stands for one of so many productions
abbrev pub IsBounded : Finder → ℕ → Type 0
IsBounded find n = (q : List ℕ) (k : ℕ) → find q ≡ Some k → k < n

-- ---- names

placed-last : (es : List Entry) (e : Entry) (q : List ℕ) (k : ℕ) (n : ℕ) → ((j : ℕ) → place_of es q ≡ Some j → j < n) → e.place < n → place_of (es ++ e ∷ []) q ≡ Some k → k < n
placed-last [] e q k n h l s = go (is_same q e.name) s
  where
    go : (b : Bool) → (if b then Some e.place else None) ≡ Some k → k < n
    go true s = let same : e.place ≡ k = let z : Some e.place ≡ Some k = s in cc in subst (λ z. z < n) same l
    go false s = absurd (let z : None ≡ Some k = s in cc)
placed-last (x ∷ es) e q k n h l s = go (is_same q x.name) (λ g r. placed-last es e q k n g l r) h s
  where
    go : (b : Bool) → (((j : ℕ) → place_of es q ≡ Some j → j < n) → place_of (es ++ e ∷ []) q ≡ Some k → k < n)
        → ((j : ℕ) → (if b then Some x.place else place_of es q) ≡ Some j → j < n) → (if b then Some x.place else place_of (es ++ e ∷ []) q) ≡ Some k → k < n
    go true later h s = h k s
    go false later h s = later h s

and-bounded : (es : List Entry) (name : List ℕ) (n : ℕ) → IsBounded (place_of es) n → IsBounded (place_of (and_entry es name n)) (suc n)
and-bounded es name n h = go (is_some (place_of es name))
  where
    go : (b : Bool) → IsBounded (place_of (if b then es else es ++ record { name = name; place = n } ∷ [])) (suc n)
    go true = λ q k s. let l : k < n = h q k s in omega arith
    go false = λ q k s. placed-last es (record { name = name; place = n }) q k (suc n) (λ j e. let l : j < n = h q j e in omega arith) (omega arith) s

module _ (text : ℕ → List ℕ) where
  entries-bounded : (xs : List ProdText) (es : List Entry) (n : ℕ) → IsBounded (place_of es) n → IsBounded (place_of (entries text es n xs)) (n + length xs)
  entries-bounded [] es n h = λ q k s. let l : k < n = h q k s in omega arith
  entries-bounded (x ∷ xs) es n h = λ q k s. let l : k < suc n + length xs = entries-bounded xs (and_entry es (text x.name) n) (suc n) (and-bounded es (text x.name) n h) q k s in omega arith

  finder-bounded : (xs : List ProdText) → IsBounded (finder text xs) (length xs)
  finder-bounded xs = λ q k s. let l : k < 0 + length xs = entries-bounded xs [] 0 (λ q k s. absurd (let z : None ≡ Some k = s in cc)) q k s in omega arith

  -- a name that is not refused stands for a production
  place-sound : (find : Finder) (n name : ℕ) → IsBounded find n → unknown text find name ≡ [] → place_at text find name < n
  place-sound find n name h u = go (find (text name)) refl (is-fine (is_some (find (text name))) refusal.UnknownProduction name u)
    where
      go : (o : Option ℕ) → find (text name) ≡ o → is_some (find (text name)) ≡ true → or_first (find (text name)) < n
      go None e s = absurd (let z : false ≡ true = sym (ap is_some e) ∙ s in cc)
      go (Some k) e s = subst (λ z. or_first z < n) (sym e) (h (text name) k e)

  -- ---- blocks

  record ActsAreSound (before : ℕ) (xs : List ActTerm) : Type 0 where
    pub count : before + length xs ≤ 1024
    pub sound : All IsSoundAct xs

  first-fits : (x : ActTree) (acts : List ActTerm) → acts_refusals text (blk [] acts) (act_text x) ≡ [] → length acts < 1024
  first-fits (printed n) acts h = ltb-true (length acts) 1024 (is-fine (nat_lt (length acts) SEQUENCE_LIMIT) refusal.SequenceTooLarge n (no-front (unless (nat_lt (length acts) SEQUENCE_LIMIT) refusal.SequenceTooLarge n) [] h))
  first-fits (chosen at bs) acts h =
      ltb-true (length acts) 1024
      (is-fine (nat_lt (length acts) SEQUENCE_LIMIT) refusal.SequenceTooLarge at
      (no-front (unless (nat_lt (length acts) SEQUENCE_LIMIT) refusal.SequenceTooLarge at) _ (no-front (piece_refusals (blk [] acts) (t.Choose at)) _ h)))

  acts-sound : (xs : List ActTree) (acts : List ActTerm) → acts_refusals text (blk [] acts) (acts_text xs) ≡ [] → length acts ≤ 1024 → ActsAreSound (length acts) (map (act_of text) xs)
  acts-sound [] acts h l = record { count = omega (arith, l); sound = All-nil IsSoundAct }
  acts-sound (x ∷ xs) acts h l =
      let all : acts_refusals text (blk [] acts) (act_text x) ++ acts_refusals text (state text (blk [] acts) (act_text x)) (acts_text xs) ≡ [] = sym (refused-append text (act_text x) (acts_text xs) (blk [] acts)) ∙ h in
      let here : acts_refusals text (blk [] acts) (act_text x) ≡ [] = no-front (acts_refusals text (blk [] acts) (act_text x)) _ all in
      let less : length acts < 1024 = first-fits x acts here in
      let w : ActIsWithin 0 (act_of text x) = act-within text x (blk [] acts) here (omega arith) in
      let deep : 0 + depth (act_of text x) ≤ 128 = w.shallow in
      let later : acts_refusals text (blk [] (acts ++ act_of text x ∷ [])) (acts_text xs) ≡ [] =
      sym (ap (λ z. acts_refusals text z (acts_text xs)) (act-state text x (blk [] acts))) ∙ no-back (acts_refusals text (blk [] acts) (act_text x)) _ all in
      let e : length (acts ++ act_of text x ∷ []) ≡ suc (length acts) = more-length acts (act_of text x) in
      let more : ActsAreSound (length (acts ++ act_of text x ∷ [])) (map (act_of text) xs) = acts-sound xs (acts ++ act_of text x ∷ []) later (omega arith) in
      let count : length (acts ++ act_of text x ∷ []) + length (map (act_of text) xs) ≤ 1024 = more.count in
      record { count = omega arith; sound = All-cons IsSoundAct (act_of text x) (map (act_of text) xs) (record { shallow = omega arith; few = w.few }) more.sound }
    where
      more-length : (done : List ActTerm) (x : ActTerm) → length (done ++ x ∷ []) ≡ suc (length done)
      more-length [] x = refl
      more-length (y ∷ done) x = ap suc (more-length done x)

  -- ---- parts and rules

  part-sound : (find : Finder) (n : ℕ) (fits : Bool) (x : PartTree) → IsBounded find n → part_refusals text find fits (part_text x) ≡ [] → IsSoundPart n (part_made text find (part_text x))
  part-sound find n fits (named m) h r = (place-sound find n m h (no-front (unknown text find m) (unless fits refusal.SequenceTooLarge m) r), omega arith)
  part-sound find n fits (repeated at c m) h r =
      let later = no-back (unless fits refusal.SequenceTooLarge at) (unless (nat_le (value_of (text c)) REPEAT_LIMIT) refusal.SequenceTooLarge c ++ unknown text find m) r in
      let few : value_of (text c) ≤ 2048 = leb-true (value_of (text c)) 2048 (is-fine (nat_le (value_of (text c)) REPEAT_LIMIT) refusal.SequenceTooLarge c (no-front (unless (nat_le (value_of (text c)) REPEAT_LIMIT) refusal.SequenceTooLarge c) (unknown text find m) later)) in
      (place-sound find n m h (no-back (unless (nat_le (value_of (text c)) REPEAT_LIMIT) refusal.SequenceTooLarge c) (unknown text find m) later), few)
  part-sound find n fits (coded at acts) h r =
      let s : ActsAreSound 0 (map (act_of text) acts) = acts-sound acts [] (no-back (unless fits refusal.SequenceTooLarge at) (acts_refusals text (blk [] []) (acts_text acts)) r) (omega arith) in
      let count : 0 + length (map (act_of text) acts) ≤ 1024 = s.count in
      subst (λ z. IsSoundPart n (block z)) (sym (acts-made text acts)) (omega arith, s.sound)

  part-fits : (find : Finder) (fits : Bool) (x : PartTree) → part_refusals text find fits (part_text x) ≡ [] → fits ≡ true
  part-fits find fits (named m) r = is-fine fits refusal.SequenceTooLarge m (no-back (unknown text find m) (unless fits refusal.SequenceTooLarge m) r)
  part-fits find fits (repeated at c m) r = is-fine fits refusal.SequenceTooLarge at (no-front (unless fits refusal.SequenceTooLarge at) _ r)
  part-fits find fits (coded at acts) r = is-fine fits refusal.SequenceTooLarge at (no-front (unless fits refusal.SequenceTooLarge at) _ r)

  record PartsAreSound (find : Finder) (n before : ℕ) (xs : List PartTree) : Type 0 where
    pub count : before + length xs ≤ 1024
    pub sound : All (IsSoundPart n) (map (part_made text find) (map part_text xs))

  parts-sound : (xs : List PartTree) (find : Finder) (n : ℕ) (fits : Bool) (i : ℕ) → IsBounded find n → parts_refusals text find fits i (map part_text xs) ≡ [] → i ≤ 1024 → PartsAreSound find n i xs
  parts-sound [] find n fits i h r l = record { count = omega (arith, l); sound = All-nil (IsSoundPart n) }
  parts-sound (x ∷ xs) find n fits i h r l =
      let here : part_refusals text find (fits && nat_lt i SEQUENCE_LIMIT) (part_text x) ≡ [] = no-front (part_refusals text find (fits && nat_lt i SEQUENCE_LIMIT) (part_text x)) _ r in
      let both = and_parts fits (nat_lt i SEQUENCE_LIMIT) (part-fits find (fits && nat_lt i SEQUENCE_LIMIT) x here) in
      let less : i < 1024 = ltb-true i 1024 both.1 in
      let more : PartsAreSound find n (suc i) xs = parts-sound xs find n fits (suc i) h (no-back (part_refusals text find (fits && nat_lt i SEQUENCE_LIMIT) (part_text x)) _ r) (omega arith) in
      let count : suc i + length xs ≤ 1024 = more.count in
      record {
        count = omega arith;
        sound = All-cons (IsSoundPart n) (part_made text find (part_text x)) (map (part_made text find) (map part_text xs)) (part-sound find n (fits && nat_lt i SEQUENCE_LIMIT) x h here) more.sound;
      }

  rule-sound : (r : RuleTree) (find : Finder) (n : ℕ) (fits : Bool) → IsBounded find n → parts_refusals text find fits 0 (map part_text (r.first ∷ r.others)) ≡ [] → IsSoundRule n (rule_made text find (rule_text r))
  rule-sound r find n fits h k =
      let xs : List PartTree = r.first ∷ r.others in
      let s : PartsAreSound find n 0 xs = parts-sound xs find n fits 0 h k (omega arith) in
      let count : 0 + length xs ≤ 1024 = s.count in
      let a : length (map (part_made text find) (map part_text xs)) ≡ length (map part_text xs) = length-map (map part_text xs) (part_made text find) in
      let b : length (map part_text xs) ≡ length xs = length-map xs part_text in
      record { few = (let few : length (map (part_made text find) (map part_text xs)) ≤ 1024 = omega arith in few); sound = s.sound }

  rule-fits : (r : RuleTree) (find : Finder) (fits : Bool) → parts_refusals text find fits 0 (map part_text (r.first ∷ r.others)) ≡ [] → fits ≡ true
  rule-fits r find fits k = (and_parts fits (nat_lt 0 SEQUENCE_LIMIT) (part-fits find (fits && nat_lt 0 SEQUENCE_LIMIT) r.first (no-front (part_refusals text find (fits && nat_lt 0 SEQUENCE_LIMIT) (part_text r.first)) _ k))).0

  record RulesAreSound (find : Finder) (n before : ℕ) (xs : List RuleTree) : Type 0 where
    pub count : before + length xs ≤ 1024
    pub sound : All (IsSoundRule n) (map (rule_made text find) (map rule_text xs))

  rules-sound : (xs : List RuleTree) (find : Finder) (n i : ℕ) → IsBounded find n → rules_refusals text find i (map rule_text xs) ≡ [] → i ≤ 1024 → RulesAreSound find n i xs
  rules-sound [] find n i h r l = record { count = omega (arith, l); sound = All-nil (IsSoundRule n) }
  rules-sound (x ∷ xs) find n i h r l =
      let here : parts_refusals text find (true && nat_lt i SEQUENCE_LIMIT) 0 (map part_text (x.first ∷ x.others)) ≡ [] = no-front (parts_refusals text find (true && nat_lt i SEQUENCE_LIMIT) 0 (map part_text (x.first ∷ x.others))) _ r in
      let less : i < 1024 = ltb-true i 1024 (rule-fits x find (nat_lt i SEQUENCE_LIMIT) here) in
      let more : RulesAreSound find n (suc i) xs = rules-sound xs find n (suc i) h (no-back (parts_refusals text find (true && nat_lt i SEQUENCE_LIMIT) 0 (map part_text (x.first ∷ x.others))) _ r) (omega arith) in
      let count : suc i + length xs ≤ 1024 = more.count in
      record {
        count = omega arith;
        sound = All-cons (IsSoundRule n) (rule_made text find (rule_text x)) (map (rule_made text find) (map rule_text xs)) (rule-sound x find n (nat_lt i SEQUENCE_LIMIT) h here) more.sound;
      }

  -- ---- productions

  weighty : (find : Finder) (rs : List RuleText) → list_any (has_weight text) rs ≡ true → 0 < rule_weights (map (rule_made text find) rs)
  weighty find [] h = absurd (let z : false ≡ true = h in cc)
  weighty find (r ∷ rs) h = go (has_weight text r) refl (λ k. weighty find rs k) h
    where
      go : (b : Bool) → has_weight text r ≡ b → (list_any (has_weight text) rs ≡ true → 0 < rule_weights (map (rule_made text find) rs)) → (b || list_any (has_weight text) rs) ≡ true → 0 < rule_weights (map (rule_made text find) (r ∷ rs))
      go true e later h = let l : 0 < weight_of text r.weight = ltb-true 0 (weight_of text r.weight) e in omega arith
      go false e later h = let l : 0 < rule_weights (map (rule_made text find) rs) = later h in omega arith

  prod-sound : (x : ProdTree) (find : Finder) (n i : ℕ) → IsBounded find n → prod_refusals text find i (prod_text x) ≡ [] → IsSoundProduction n (prod_made text find (prod_text x))
  prod-sound x find n i h k =
      let xs : List RuleTree = x.first ∷ x.others in
      let head = no-front (head_refusals text find i (prod_text x)) (rules_refusals text find 0 (map rule_text xs)) k in
      let s : RulesAreSound find n 0 xs = rules-sound xs find n 0 h (no-back (head_refusals text find i (prod_text x)) (rules_refusals text find 0 (map rule_text xs)) k) (omega arith) in
      let tail = no-back (unless (is_at (find (text x.name)) i) refusal.UnknownProduction x.name) (unless (list_any (has_weight text) (map rule_text xs)) refusal.NoWeight x.name ++ unless (nat_lt i SEQUENCE_LIMIT) refusal.SequenceTooLarge x.name) head in
      let some : list_any (has_weight text) (map rule_text xs) ≡ true = is-fine (list_any (has_weight text) (map rule_text xs)) refusal.NoWeight x.name (no-front (unless (list_any (has_weight text) (map rule_text xs)) refusal.NoWeight x.name) (unless (nat_lt i SEQUENCE_LIMIT) refusal.SequenceTooLarge x.name) tail) in
      let count : 0 + length xs ≤ 1024 = s.count in
      let a : length (map (rule_made text find) (map rule_text xs)) ≡ length (map rule_text xs) = length-map (map rule_text xs) (rule_made text find) in
      let b : length (map rule_text xs) ≡ length xs = length-map xs rule_text in
      record { few = (let few : length (map (rule_made text find) (map rule_text xs)) ≤ 1024 = omega arith in few); sound = s.sound; weighty = weighty find (map rule_text xs) some }

  prod-fits : (x : ProdTree) (find : Finder) (i : ℕ) → prod_refusals text find i (prod_text x) ≡ [] → i < 1024
  prod-fits x find i k =
      let rules : List RuleText = map rule_text (x.first ∷ x.others) in
      let head = no-front (head_refusals text find i (prod_text x)) (rules_refusals text find 0 rules) k in
      let tail = no-back (unless (is_at (find (text x.name)) i) refusal.UnknownProduction x.name) (unless (list_any (has_weight text) rules) refusal.NoWeight x.name ++ unless (nat_lt i SEQUENCE_LIMIT) refusal.SequenceTooLarge x.name) head in
      ltb-true i 1024 (is-fine (nat_lt i SEQUENCE_LIMIT) refusal.SequenceTooLarge x.name (no-back (unless (list_any (has_weight text) rules) refusal.NoWeight x.name) (unless (nat_lt i SEQUENCE_LIMIT) refusal.SequenceTooLarge x.name) tail))

  record ProdsAreSound (find : Finder) (n before : ℕ) (xs : List ProdTree) : Type 0 where
    pub count : before + length xs ≤ 1024
    pub sound : All (IsSoundProduction n) (map (prod_made text find) (map prod_text xs))

  prods-sound : (xs : List ProdTree) (find : Finder) (n i : ℕ) → IsBounded find n → prods_refusals text find i (map prod_text xs) ≡ [] → i ≤ 1024 → ProdsAreSound find n i xs
  prods-sound [] find n i h r l = record { count = omega (arith, l); sound = All-nil (IsSoundProduction n) }
  prods-sound (x ∷ xs) find n i h r l =
      let here : prod_refusals text find i (prod_text x) ≡ [] = no-front (prod_refusals text find i (prod_text x)) _ r in
      let less : i < 1024 = prod-fits x find i here in
      let more : ProdsAreSound find n (suc i) xs = prods-sound xs find n (suc i) h (no-back (prod_refusals text find i (prod_text x)) _ r) (omega arith) in
      let count : suc i + length xs ≤ 1024 = more.count in
      record {
        count = omega arith;
        sound = All-cons (IsSoundProduction n) (prod_made text find (prod_text x)) (map (prod_made text find) (map prod_text xs)) (prod-sound x find n i h here) more.sound;
      }

  start-sound : (find : Finder) (n : ℕ) (o : Option ℕ) → IsBounded find n → 0 < n → start_refusals text find o ≡ [] → start_made text find o < n
  start-sound find n None h l r = l
  start-sound find n (Some name) h l r = place-sound find n name h r

  -- what is made of the text of a tree, where nothing is refused
  pub seq-sound : (tree : SeqTree) → refusals text (text_of tree) ≡ [] → IsSound (seq_made text (text_of tree))
  seq-sound tree k =
      let xs : List ProdTree = tree.first ∷ tree.others in
      let find : Finder = finder text (map prod_text xs) in
      let n : ℕ = length (map prod_text xs) in
      let bound : IsBounded find n = finder-bounded (map prod_text xs) in
      let s : ProdsAreSound find n 0 xs = prods-sound xs find n 0 bound (no-back (start_refusals text find tree.start) (prods_refusals text find 0 (map prod_text xs)) k) (omega arith) in
      let a : length (map (prod_made text find) (map prod_text xs)) ≡ n = length-map (map prod_text xs) (prod_made text find) in
      let b : n ≡ length xs = length-map xs prod_text in
      let count : 0 + length xs ≤ 1024 = s.count in
      let starts : start_made text find tree.start < n = start-sound find n tree.start bound (let l : 0 < suc (length (map prod_text tree.others)) = omega arith in l) (no-front (start_refusals text find tree.start) (prods_refusals text find 0 (map prod_text xs)) k) in
      record {
        starts = subst (λ z. start_made text find tree.start < z) (sym a) starts;
        few = (let few : length (map (prod_made text find) (map prod_text xs)) ≤ 1024 = omega arith in few);
        sound = subst (λ z. All (IsSoundProduction z) (map (prod_made text find) (map prod_text xs))) (sym a) s.sound;
      }
