-- Reading as a machine over words: every text is run through, and from each place one can be completed
use Rattle.std.proofs.Common.{◌≡◌, ℕ, zero, suc, Bool, true, false, List, [], ◌∷◌, ◌++◌, map, Option, None, Some, refl, sym, ap, ◌∙◌, append_assoc, append-nil}
use Rattle.std.specs.List.{flat_map}
use Rattle.svr_seq_text.specs.declared.word.Word.{Word}
use Rattle.svr_seq_text.specs.declared.word.Word.TheVariants as w
use Rattle.svr_seq_text.specs.declared.place.Place.{Place}
use Rattle.svr_seq_text.specs.declared.place.Place.TheVariants as p
use Rattle.svr_seq_text.specs.declared.text.ActText.{ActText}
use Rattle.svr_seq_text.specs.declared.text.ActText.TheVariants as a
use Rattle.svr_seq_text.specs.declared.text.PartText.{PartText}
use Rattle.svr_seq_text.specs.declared.text.RuleText.{RuleText}
use Rattle.svr_seq_text.specs.declared.text.ProdText.{ProdText}
use Rattle.svr_seq_text.specs.declared.building.Building.{Building}
use Rattle.svr_seq_text.specs.declared.reading.Reading.{Reading}
use Rattle.svr_seq_text.specs.Tree.{ActTree, printed, chosen, BranchTrees, last_branch, next_branch, PartTree, named, repeated, coded, RuleTree, ProdTree, SeqTree, act_text, branches_text, acts_text, part_text, rule_text, prod_text, text_of}
use Rattle.svr_seq_text.specs.Spelled.{act_words, branches_words, acts_words, part_words, weight_words, rule_words, other_rule, prod_words, seq_words}
use Rattle.svr_seq_text.specs.Machine.{begin, step, text_in}

abbrev pub run : Reading → List Word → Option Reading
run r [] = Some r
run r (x ∷ ws) = elim (step r x) [ Some q ↦ run q ws | None ↦ None ]

pub run-step : (r q : Reading) (x : Word) (ws : List Word) → step r x ≡ Some q → run r (x ∷ ws) ≡ run q ws
run-step r q x ws h = rw (h, run) refl

nothing_some : {A : Type 0} (x : A) → None ≡ Some x → ⊥
nothing_some x h = cc

same_some : {A : Type 0} (x y : A) → Some x ≡ Some y → x ≡ y
same_some x y h = cc

pub run-append : (xs ys : List Word) (r q : Reading) → run r xs ≡ Some q → run r (xs ++ ys) ≡ run q ys
run-append [] ys r q h = ap (λ z. run z ys) (same_some r q h)
run-append (x ∷ xs) ys r q h = go (step r x) (λ s k. run-append xs ys s q k) h
  where
    go : (o : Option Reading) → ((s : Reading) → run s xs ≡ Some q → run s (xs ++ ys) ≡ run q ys)
        → elim o [ Some s ↦ run s xs | None ↦ None ] ≡ Some q → elim o [ Some s ↦ run s (xs ++ ys) | None ↦ None ] ≡ run q ys
    go None k h = absurd (nothing_some q h)
    go (Some s) k h = k s h

pub run-front : (xs ys : List Word) (r t : Reading) → run r (xs ++ ys) ≡ Some t → (q : Reading) × (run r xs ≡ Some q)
run-front [] ys r t h = (r, refl)
run-front (x ∷ xs) ys r t h = go (step r x) (λ s k. run-front xs ys s t k) h
  where
    go : (o : Option Reading) → ((s : Reading) → run s (xs ++ ys) ≡ Some t → (q : Reading) × (run s xs ≡ Some q))
        → elim o [ Some s ↦ run s (xs ++ ys) | None ↦ None ] ≡ Some t → (q : Reading) × (elim o [ Some s ↦ run s xs | None ↦ None ] ≡ Some q)
    go None k h = absurd (nothing_some t h)
    go (Some s) k h = k s h

-- ---- a text is run through

abbrev pub spot : Place → ℕ → Building → Reading
spot place depth b = record { place = place; depth = depth; made = b }

abbrev pub with_acts : Building → List ActText → Building
with_acts b xs = record b { acts = b.acts ++ xs }

-- the reader stands behind so many choices, with these acts
abbrev pub acted : ℕ → Building → List ActText → Option Reading
acted depth b xs = Some (spot p.NextAct depth (record b { acts = xs }))

-- where an act begins: in a block, or behind the weight of a branch
abbrev act_place : ℕ → Place
act_place zero = p.NextAct
act_place (suc d) = p.Act

-- where a branch begins
abbrev branch_place : Bool → Place
branch_place true = p.BranchWeight
branch_place false = p.NextAct

-- behind `randcase`
chosen-run : (at : ℕ) (bs : BranchTrees) (d : ℕ) (b : Building)
    → run (spot p.BranchWeight (suc d) (with_acts b (a.Choose at ∷ []))) (branches_words bs) ≡ acted (suc d) b ((b.acts ++ a.Choose at ∷ []) ++ branches_text bs)
    → run (spot p.BranchWeight (suc d) (with_acts b (a.Choose at ∷ []))) (branches_words bs ++ w.EndCase ∷ []) ≡ acted d b (b.acts ++ a.Choose at ∷ (branches_text bs ++ a.End ∷ []))
chosen-run at bs d b h =
    run-append (branches_words bs) (w.EndCase ∷ []) (spot p.BranchWeight (suc d) (with_acts b (a.Choose at ∷ []))) _ h
    ∙ ap (λ z. acted d b z)
    (append_assoc (b.acts ++ a.Choose at ∷ []) (branches_text bs) (a.End ∷ []) ∙ append_assoc b.acts (a.Choose at ∷ []) (branches_text bs ++ a.End ∷ []))

-- behind the weight of the last branch
last-run : (n : ℕ) (x : ActTree) (d : ℕ) (b : Building)
    → run (spot p.Act (suc d) (with_acts b (a.Branch n ∷ []))) (act_words x) ≡ acted (suc d) b ((b.acts ++ a.Branch n ∷ []) ++ act_text x)
    → run (spot p.Act (suc d) (with_acts b (a.Branch n ∷ []))) (act_words x) ≡ acted (suc d) b (b.acts ++ a.Branch n ∷ act_text x)
last-run n x d b h = h ∙ ap (λ z. acted (suc d) b z) (append_assoc b.acts (a.Branch n ∷ []) (act_text x))

-- behind the weight of another branch
next-run : (n : ℕ) (x : ActTree) (bs : BranchTrees) (d : ℕ) (b : Building)
    → run (spot p.Act (suc d) (with_acts b (a.Branch n ∷ []))) (act_words x) ≡ acted (suc d) b ((b.acts ++ a.Branch n ∷ []) ++ act_text x)
    → ((c : Building) → run (spot p.NextAct (suc d) c) (branches_words bs) ≡ acted (suc d) c (c.acts ++ branches_text bs))
    → run (spot p.Act (suc d) (with_acts b (a.Branch n ∷ []))) (act_words x ++ branches_words bs) ≡ acted (suc d) b (b.acts ++ a.Branch n ∷ (act_text x ++ branches_text bs))
next-run n x bs d b h k =
    run-append (act_words x) (branches_words bs) (spot p.Act (suc d) (with_acts b (a.Branch n ∷ []))) _ h
    ∙ k (record b { acts = (b.acts ++ a.Branch n ∷ []) ++ act_text x })
    ∙ ap (λ z. acted (suc d) b z)
    (append_assoc (b.acts ++ a.Branch n ∷ []) (act_text x) (branches_text bs) ∙ append_assoc b.acts (a.Branch n ∷ []) (act_text x ++ branches_text bs))

mutual
  act-run : (x : ActTree) (d : ℕ) (b : Building) → run (spot (act_place d) d b) (act_words x) ≡ acted d b (b.acts ++ act_text x)
  act-run (printed n) zero b = refl
  act-run (printed n) (suc d) b = refl
  act-run (chosen at bs) zero b = chosen-run at bs zero b (branches-run bs true zero (with_acts b (a.Choose at ∷ [])))
  act-run (chosen at bs) (suc d) b = chosen-run at bs (suc d) b (branches-run bs true (suc d) (with_acts b (a.Choose at ∷ [])))

  branches-run : (bs : BranchTrees) (first : Bool) (d : ℕ) (b : Building) → run (spot (branch_place first) (suc d) b) (branches_words bs) ≡ acted (suc d) b (b.acts ++ branches_text bs)
  branches-run (last_branch n x) true d b = last-run n x d b (act-run x (suc d) (with_acts b (a.Branch n ∷ [])))
  branches-run (last_branch n x) false d b = last-run n x d b (act-run x (suc d) (with_acts b (a.Branch n ∷ [])))
  branches-run (next_branch n x bs) true d b = next-run n x bs d b (act-run x (suc d) (with_acts b (a.Branch n ∷ []))) (λ c. branches-run bs false d c)
  branches-run (next_branch n x bs) false d b = next-run n x bs d b (act-run x (suc d) (with_acts b (a.Branch n ∷ []))) (λ c. branches-run bs false d c)

acts-run : (xs : List ActTree) (b : Building) → run (spot p.NextAct 0 b) (acts_words xs) ≡ acted 0 b (b.acts ++ acts_text xs)
acts-run [] b = ap (λ z. acted 0 b z) (sym (append-nil b.acts))
acts-run (x ∷ xs) b =
    run-append (act_words x) (acts_words xs) (spot p.NextAct 0 b) _ (act-run x 0 b)
    ∙ acts-run xs (record b { acts = b.acts ++ act_text x })
    ∙ ap (λ z. acted 0 b z) (append_assoc b.acts (act_text x) (acts_text xs))

-- what is kept between parts; `at` and `count` are those of the part before
abbrev built : Option ℕ → List ProdText → ℕ → List RuleText → List PartText → ℕ → ℕ → Building
built start prods name rules parts at count = record { start = start; prods = prods; name = name; rules = rules; parts = parts; weight = None; at = at; count = count; acts = [] }

-- where a part begins
abbrev part_place : Bool → Place
part_place true = p.FirstPart
part_place false = p.NextPart

-- the words lead behind a part, with these parts
record Parts (r : Reading) (ws : List Word) (s : Option ℕ) (ps : List ProdText) (n : ℕ) (rs : List RuleText) (xs : List PartText) : Type 0 where
  pub at : ℕ
  pub count : ℕ
  pub ran : run r ws ≡ Some (spot p.NextPart 0 (built s ps n rs xs at count))

part-run : (x : PartTree) (first : Bool) (s : Option ℕ) (ps : List ProdText) (n : ℕ) (rs : List RuleText) (xs : List PartText) (at count : ℕ)
    → Parts (spot (part_place first) 0 (built s ps n rs xs at count)) (part_words x) s ps n rs (xs ++ part_text x ∷ [])
part-run (named m) true s ps n rs xs at count = record { at = at; count = count; ran = refl }
part-run (named m) false s ps n rs xs at count = record { at = at; count = count; ran = refl }
part-run (repeated m c k) true s ps n rs xs at count = record { at = m; count = c; ran = refl }
part-run (repeated m c k) false s ps n rs xs at count = record { at = m; count = c; ran = refl }
part-run (coded m ys) true s ps n rs xs at count =
    record { at = m; count = count; ran = run-append (acts_words ys) (w.CloseBrace ∷ []) (spot p.NextAct 0 (built s ps n rs xs m count)) _ (acts-run ys (built s ps n rs xs m count)) }
part-run (coded m ys) false s ps n rs xs at count =
    record { at = m; count = count; ran = run-append (acts_words ys) (w.CloseBrace ∷ []) (spot p.NextAct 0 (built s ps n rs xs m count)) _ (acts-run ys (built s ps n rs xs m count)) }

parts-run : (ts : List PartTree) (s : Option ℕ) (ps : List ProdText) (n : ℕ) (rs : List RuleText) (xs : List PartText) (at count : ℕ)
    → Parts (spot p.NextPart 0 (built s ps n rs xs at count)) (flat_map part_words ts) s ps n rs (xs ++ map part_text ts)
parts-run [] s ps n rs xs at count = record { at = at; count = count; ran = ap (λ z. Some (spot p.NextPart 0 (built s ps n rs z at count))) (sym (append-nil xs)) }
parts-run (t ∷ ts) s ps n rs xs at count =
    let here = part-run t false s ps n rs xs at count in
    let more = parts-run ts s ps n rs (xs ++ part_text t ∷ []) here.at here.count in
    record {
      at = more.at;
      count = more.count;
      ran =
          run-append (part_words t) (flat_map part_words ts) (spot p.NextPart 0 (built s ps n rs xs at count)) _ here.ran
          ∙ more.ran
          ∙ ap (λ z. Some (spot p.NextPart 0 (built s ps n rs z more.at more.count))) (append_assoc xs (part_text t ∷ []) (map part_text ts));
    }

-- behind a rule: what `|` and `;` lead to
record Ruled (r : Reading) (ws : List Word) (s : Option ℕ) (ps : List ProdText) (n : ℕ) (rs : List RuleText) (x : RuleText) : Type 0 where
  pub at : ℕ
  pub count : ℕ
  pub bar : run r (ws ++ w.Bar ∷ []) ≡ Some (spot p.FirstPart 0 (built s ps n (rs ++ x ∷ []) [] at count))
  pub last : run r (ws ++ w.Semicolon ∷ []) ≡ Some (spot p.NextProd 0 (built s (ps ++ record { name = n; rules = rs ++ x ∷ [] } ∷ []) n [] [] at count))

-- the weight of a rule, if it has one
weight-run : (o : Option ℕ) (ws : List Word) (r : Reading) (s : Option ℕ) (ps : List ProdText) (n : ℕ) (rs : List RuleText) (xs : List PartText) (at count : ℕ)
    → run r ws ≡ Some (spot p.NextPart 0 (built s ps n rs xs at count)) → Ruled r (ws ++ weight_words o) s ps n rs (record { parts = xs; weight = o })
weight-run None ws r s ps n rs xs at count h = record {
  at = at;
  count = count;
  bar = ap (run r) (append_assoc ws [] (w.Bar ∷ [])) ∙ run-append ws (w.Bar ∷ []) r _ h;
  last = ap (run r) (append_assoc ws [] (w.Semicolon ∷ [])) ∙ run-append ws (w.Semicolon ∷ []) r _ h;
}
weight-run (Some m) ws r s ps n rs xs at count h = record {
  at = at;
  count = count;
  bar = ap (run r) (append_assoc ws (weight_words (Some m)) (w.Bar ∷ [])) ∙ run-append ws (weight_words (Some m) ++ w.Bar ∷ []) r _ h;
  last = ap (run r) (append_assoc ws (weight_words (Some m)) (w.Semicolon ∷ [])) ∙ run-append ws (weight_words (Some m) ++ w.Semicolon ∷ []) r _ h;
}

rule-run : (t : RuleTree) (s : Option ℕ) (ps : List ProdText) (n : ℕ) (rs : List RuleText) (at count : ℕ) → Ruled (spot p.FirstPart 0 (built s ps n rs [] at count)) (rule_words t) s ps n rs (rule_text t)
rule-run t s ps n rs at count =
    let r : Reading = spot p.FirstPart 0 (built s ps n rs [] at count) in
    let here = part-run t.first true s ps n rs [] at count in
    let more = parts-run t.others s ps n rs (part_text t.first ∷ []) here.at here.count in
    let body = run-append (part_words t.first) (flat_map part_words t.others) r _ here.ran ∙ more.ran in
    let x = weight-run t.weight (part_words t.first ++ flat_map part_words t.others) r s ps n rs (part_text t.first ∷ map part_text t.others) more.at more.count body in
    let e = append_assoc (part_words t.first) (flat_map part_words t.others) (weight_words t.weight) in
    record {
      at = x.at;
      count = x.count;
      bar = ap (λ z. run r (z ++ w.Bar ∷ [])) (sym e) ∙ x.bar;
      last = ap (λ z. run r (z ++ w.Semicolon ∷ [])) (sym e) ∙ x.last;
    }

-- the words lead behind a production
record Prods (r : Reading) (ws : List Word) (s : Option ℕ) (ps : List ProdText) : Type 0 where
  pub name : ℕ
  pub at : ℕ
  pub count : ℕ
  pub ran : run r ws ≡ Some (spot p.NextProd 0 (built s ps name [] [] at count))

rules-run : (t : RuleTree) (ts : List RuleTree) (s : Option ℕ) (ps : List ProdText) (n : ℕ) (rs : List RuleText) (at count : ℕ)
    → Prods (spot p.FirstPart 0 (built s ps n rs [] at count)) (rule_words t ++ (flat_map other_rule ts ++ w.Semicolon ∷ [])) s (ps ++ record { name = n; rules = rs ++ rule_text t ∷ map rule_text ts } ∷ [])
rules-run t [] s ps n rs at count = let x = rule-run t s ps n rs at count in record { name = n; at = x.at; count = x.count; ran = x.last }
rules-run t (u ∷ ts) s ps n rs at count =
    let r : Reading = spot p.FirstPart 0 (built s ps n rs [] at count) in
    let x = rule-run t s ps n rs at count in
    let more = rules-run u ts s ps n (rs ++ rule_text t ∷ []) x.at x.count in
    let tail : List Word = rule_words u ++ (flat_map other_rule ts ++ w.Semicolon ∷ []) in
    record {
      name = more.name;
      at = more.at;
      count = more.count;
      ran =
          ap (λ z. run r (rule_words t ++ w.Bar ∷ z)) (append_assoc (rule_words u) (flat_map other_rule ts) (w.Semicolon ∷ []))
          ∙ ap (run r) (sym (append_assoc (rule_words t) (w.Bar ∷ []) tail))
          ∙ run-append (rule_words t ++ w.Bar ∷ []) tail r _ x.bar
          ∙ more.ran
          ∙ ap (λ z. Some (spot p.NextProd 0 (built s (ps ++ record { name = n; rules = z } ∷ []) more.name [] [] more.at more.count))) (append_assoc rs (rule_text t ∷ []) (rule_text u ∷ map rule_text ts));
    }

-- where a production begins
abbrev prod_place : Bool → Place
prod_place true = p.FirstProd
prod_place false = p.NextProd

prod-run : (t : ProdTree) (first : Bool) (s : Option ℕ) (ps : List ProdText) (n at count : ℕ) → Prods (spot (prod_place first) 0 (built s ps n [] [] at count)) (prod_words t) s (ps ++ prod_text t ∷ [])
prod-run t true s ps n at count = let x = rules-run t.first t.others s ps t.name [] at count in record { name = x.name; at = x.at; count = x.count; ran = x.ran }
prod-run t false s ps n at count = let x = rules-run t.first t.others s ps t.name [] at count in record { name = x.name; at = x.at; count = x.count; ran = x.ran }

prods-run : (ts : List ProdTree) (s : Option ℕ) (ps : List ProdText) (n at count : ℕ) → Prods (spot p.NextProd 0 (built s ps n [] [] at count)) (flat_map prod_words ts) s (ps ++ map prod_text ts)
prods-run [] s ps n at count = record { name = n; at = at; count = count; ran = ap (λ z. Some (spot p.NextProd 0 (built s z n [] [] at count))) (sym (append-nil ps)) }
prods-run (t ∷ ts) s ps n at count =
    let here = prod-run t false s ps n at count in
    let more = prods-run ts s (ps ++ prod_text t ∷ []) here.name here.at here.count in
    record {
      name = more.name;
      at = more.at;
      count = more.count;
      ran =
          run-append (prod_words t) (flat_map prod_words ts) (spot p.NextProd 0 (built s ps n [] [] at count)) _ here.ran
          ∙ more.ran
          ∙ ap (λ z. Some (spot p.NextProd 0 (built s z more.name [] [] more.at more.count))) (append_assoc ps (prod_text t ∷ []) (map prod_text ts));
    }

-- the words lead to the end, with this text
pub record Through (r : Reading) (ws : List Word) (t : SeqTree) : Type 0 where
  pub to : Reading
  pub ran : run r ws ≡ Some to
  pub ended : to.place ≡ p.Done
  pub text : text_in to.made ≡ text_of t

-- behind the start
body-run : (t : SeqTree) (n at count : ℕ)
    → Through (spot p.FirstProd 0 (built t.start [] n [] [] at count)) (prod_words t.first ++ (flat_map prod_words t.others ++ w.EndSequence ∷ (w.End ∷ []))) t
body-run t n at count =
    let r : Reading = spot p.FirstProd 0 (built t.start [] n [] [] at count) in
    let here = prod-run t.first true t.start [] n at count in
    let more = prods-run t.others t.start (prod_text t.first ∷ []) here.name here.at here.count in
    record {
      to = spot p.Done 0 (built t.start (prod_text t.first ∷ map prod_text t.others) more.name [] [] more.at more.count);
      ran =
          run-append (prod_words t.first) (flat_map prod_words t.others ++ w.EndSequence ∷ (w.End ∷ [])) r _ here.ran
          ∙ run-append (flat_map prod_words t.others) (w.EndSequence ∷ (w.End ∷ [])) (spot p.NextProd 0 (built t.start (prod_text t.first ∷ []) here.name [] [] here.at here.count)) _ more.ran;
      ended = refl;
      text = refl;
    }

pub seq-run : (t : SeqTree) → Through begin (seq_words t) t
seq-run t = go t.start t refl
  where
    go : (o : Option ℕ) (t : SeqTree) → t.start ≡ o → Through begin (seq_words t) t
    go None t e =
        let x = body-run (record { start = None; first = t.first; others = t.others }) 0 0 0 in
        record { to = x.to; ran = ap (λ z. run begin (seq_words (record { start = z; first = t.first; others = t.others }))) e ∙ x.ran; ended = x.ended; text = x.text ∙ ap (λ z. text_of (record { start = z; first = t.first; others = t.others })) (sym e) }
    go (Some m) t e =
        let x = body-run (record { start = Some m; first = t.first; others = t.others }) 0 0 0 in
        record { to = x.to; ran = ap (λ z. run begin (seq_words (record { start = z; first = t.first; others = t.others }))) e ∙ x.ran; ended = x.ended; text = x.text ∙ ap (λ z. text_of (record { start = z; first = t.first; others = t.others })) (sym e) }

-- ---- from each place a text can be completed

abbrev pub fill_next : List Word
fill_next = w.Semicolon ∷ (w.EndSequence ∷ (w.End ∷ []))

abbrev pub fill_part : List Word
fill_part = w.Name 0 ∷ fill_next

abbrev pub fill_colon : List Word
fill_colon = w.Colon ∷ fill_part

abbrev pub fill_prod : List Word
fill_prod = w.Name 0 ∷ fill_colon

-- behind an act in so many choices
abbrev pub fill_act : ℕ → List Word
fill_act zero = w.CloseBrace ∷ fill_next
fill_act (suc d) = w.EndCase ∷ fill_act d

abbrev pub fill : Place → ℕ → List Word
fill p.Opening d = w.RandSequence ∷ (w.OpenParen ∷ (w.CloseParen ∷ fill_prod))
fill p.StartOpen d = w.OpenParen ∷ (w.CloseParen ∷ fill_prod)
fill p.Start d = w.CloseParen ∷ fill_prod
fill p.StartClose d = w.CloseParen ∷ fill_prod
fill p.FirstProd d = fill_prod
fill p.ProdColon d = fill_colon
fill p.FirstPart d = fill_part
fill p.NextPart d = fill_next
fill p.CountOpen d = w.OpenParen ∷ (w.Decimal 0 ∷ (w.CloseParen ∷ fill_part))
fill p.Count d = w.Decimal 0 ∷ (w.CloseParen ∷ fill_part)
fill p.CountClose d = w.CloseParen ∷ fill_part
fill p.Repeated d = fill_part
fill p.NextAct d = fill_act d
fill p.Act d = w.Name 0 ∷ (w.Semicolon ∷ fill_act d)
fill p.ActEnd d = w.Semicolon ∷ fill_act d
fill p.BranchWeight d = w.Decimal 0 ∷ (w.Colon ∷ (w.Name 0 ∷ (w.Semicolon ∷ fill_act d)))
fill p.BranchColon d = w.Colon ∷ (w.Name 0 ∷ (w.Semicolon ∷ fill_act d))
fill p.RuleWeight d = w.Decimal 0 ∷ fill_next
fill p.RuleEnd d = fill_next
fill p.NextProd d = w.EndSequence ∷ (w.End ∷ [])
fill p.Last d = w.End ∷ []
fill p.Done d = []

-- ---- runs to the end

abbrev pub is_last : Place → Bool
is_last p.Done = true
is_last _ = false

-- the words lead to the end
abbrev pub accepts : Reading → List Word → Bool
accepts r [] = is_last r.place
accepts r (x ∷ ws) = elim (step r x) [ Some q ↦ accepts q ws | None ↦ false ]

fill_act-run : (d : ℕ) (b : Building) → accepts (spot p.NextAct d b) (fill_act d) ≡ true
fill_act-run zero b = refl
fill_act-run (suc d) b = fill_act-run d (with_acts b (a.End ∷ []))

pub fill-run : (place : Place) (d : ℕ) (b : Building) → accepts (spot place d b) (fill place d) ≡ true
fill-run p.Opening d b = refl
fill-run p.StartOpen d b = refl
fill-run p.Start d b = refl
fill-run p.StartClose d b = refl
fill-run p.FirstProd d b = refl
fill-run p.ProdColon d b = refl
fill-run p.FirstPart d b = refl
fill-run p.NextPart d b = refl
fill-run p.CountOpen d b = refl
fill-run p.Count d b = refl
fill-run p.CountClose d b = refl
fill-run p.Repeated d b = refl
fill-run p.NextAct d b = fill_act-run d b
fill-run p.Act d b = fill_act-run d (with_acts b (a.Print 0 ∷ []))
fill-run p.ActEnd d b = fill_act-run d b
fill-run p.BranchWeight d b = fill_act-run d (record b { acts = (b.acts ++ a.Branch 0 ∷ []) ++ a.Print 0 ∷ [] })
fill-run p.BranchColon d b = fill_act-run d (with_acts b (a.Print 0 ∷ []))
fill-run p.RuleWeight d b = refl
fill-run p.RuleEnd d b = refl
fill-run p.NextProd d b = refl
fill-run p.Last d b = refl
fill-run p.Done d b = refl

pub accepts-append : (xs ys : List Word) (r q : Reading) → run r xs ≡ Some q → accepts r (xs ++ ys) ≡ accepts q ys
accepts-append [] ys r q h = ap (λ z. accepts z ys) (same_some r q h)
accepts-append (x ∷ xs) ys r q h = go (step r x) (λ s k. accepts-append xs ys s q k) h
  where
    go : (o : Option Reading) → ((s : Reading) → run s xs ≡ Some q → accepts s (xs ++ ys) ≡ accepts q ys)
        → elim o [ Some s ↦ run s xs | None ↦ None ] ≡ Some q → elim o [ Some s ↦ accepts s (xs ++ ys) | None ↦ false ] ≡ accepts q ys
    go None k h = absurd (nothing_some q h)
    go (Some s) k h = k s h
