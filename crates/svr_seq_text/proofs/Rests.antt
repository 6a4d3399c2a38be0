-- What the machine runs through to the end is a text
use Rattle.std.proofs.Common.{◌≡◌, ℕ, zero, suc, true, false, List, [], ◌∷◌, ◌++◌, Option, None, Some, option_map, refl, sym, ap, ◌∙◌, append_assoc}
use Rattle.std.specs.List.{flat_map}
use Rattle.svr_seq_text.specs.declared.word.Word.{Word}
use Rattle.svr_seq_text.specs.declared.word.Word.TheVariants as w
use Rattle.svr_seq_text.specs.declared.place.Place.{Place}
use Rattle.svr_seq_text.specs.declared.place.Place.TheVariants as p
use Rattle.svr_seq_text.specs.declared.place.Move.{Move}
use Rattle.svr_seq_text.specs.declared.reading.Reading.{Reading}
use Rattle.svr_seq_text.specs.Tree.{ActTree, printed, chosen, BranchTrees, last_branch, next_branch, PartTree, named, repeated, coded, RuleTree, ProdTree, SeqTree}
use Rattle.svr_seq_text.specs.Spelled.{act_words, branches_words, acts_words, part_words, weight_words, rule_words, other_rule, prod_words, start_words, seq_words}
use Rattle.svr_seq_text.specs.Machine.{begin, goes, depth_behind, moved_to}
use Rattle.svr_seq_text.proofs.Runs.{accepts, is_last}

record SeqFrom (ws : List Word) : Type 0 where
  pub tree : SeqTree
  pub whole : seq_words tree ≡ ws

abbrev end_words : List Word
end_words = w.EndSequence ∷ (w.End ∷ [])

record NextProds (ws : List Word) : Type 0 where
  pub others : List ProdTree
  pub whole : ws ≡ flat_map prod_words others ++ end_words

record FirstProds (ws : List Word) : Type 0 where
  pub first : ProdTree
  pub others : List ProdTree
  pub whole : ws ≡ prod_words first ++ (flat_map prod_words others ++ end_words)

-- behind a whole rule
record RuleTail (ws : List Word) : Type 0 where
  pub others : List RuleTree
  pub more : List Word
  pub whole : ws ≡ flat_map other_rule others ++ w.Semicolon ∷ more
  pub prods : NextProds more

-- behind a part
record PartTail (ws : List Word) : Type 0 where
  pub others : List PartTree
  pub weight : Option ℕ
  pub more : List Word
  pub whole : ws ≡ flat_map part_words others ++ (weight_words weight ++ more)
  pub rules : RuleTail more

-- from a rule on
record RuleFrom (ws : List Word) : Type 0 where
  pub rule : RuleTree
  pub more : List Word
  pub whole : ws ≡ rule_words rule ++ more
  pub rules : RuleTail more

record WeightFrom (ws : List Word) : Type 0 where
  pub weight : ℕ
  pub more : List Word
  pub whole : ws ≡ w.Decimal weight ∷ more
  pub rules : RuleTail more

-- behind an act of a block
record BlockTail (ws : List Word) : Type 0 where
  pub acts : List ActTree
  pub more : List Word
  pub whole : ws ≡ acts_words acts ++ w.CloseBrace ∷ more
  pub parts : PartTail more

abbrev later_words : Option BranchTrees → List Word
later_words None = []
later_words (Some bs) = branches_words bs

-- behind the act of a branch
record ChoiceTail (Tail : List Word → Type 0) (ws : List Word) : Type 0 where
  pub later : Option BranchTrees
  pub more : List Word
  pub whole : ws ≡ later_words later ++ w.EndCase ∷ more
  pub tail : Tail more

-- behind an act in so many choices
abbrev ActTail : ℕ → List Word → Type 0
ActTail zero ws = BlockTail ws
ActTail (suc d) ws = ChoiceTail (ActTail d) ws

record ActFrom (d : ℕ) (ws : List Word) : Type 0 where
  pub act : ActTree
  pub more : List Word
  pub whole : ws ≡ act_words act ++ more
  pub tail : ActTail d more

record BranchesFrom (d : ℕ) (ws : List Word) : Type 0 where
  pub branches : BranchTrees
  pub more : List Word
  pub whole : ws ≡ branches_words branches ++ w.EndCase ∷ more
  pub tail : ActTail d more

-- outside of blocks there is no choice
abbrev at_top : ℕ → Type 0 → Type 0
at_top zero X = X
at_top (suc d) X = Unit {0}

abbrev below : ℕ → (ℕ → Type 0) → Type 0
below zero X = Unit {0}
below (suc d) X = X d

-- what the words behind a place are
abbrev Rest : Place → ℕ → List Word → Type 0
Rest p.Opening d ws = at_top d (SeqFrom ws)
Rest p.StartOpen d ws = at_top d (SeqFrom (w.RandSequence ∷ ws))
Rest p.Start d ws = at_top d (SeqFrom (w.RandSequence ∷ (w.OpenParen ∷ ws)))
Rest p.StartClose d ws = at_top d ((n : ℕ) → SeqFrom (w.RandSequence ∷ (w.OpenParen ∷ (w.Name n ∷ ws))))
Rest p.FirstProd d ws = at_top d (FirstProds ws)
Rest p.ProdColon d ws = at_top d ((n : ℕ) → FirstProds (w.Name n ∷ ws))
Rest p.FirstPart d ws = at_top d (RuleFrom ws)
Rest p.NextPart d ws = at_top d (PartTail ws)
Rest p.CountOpen d ws = at_top d ((at : ℕ) → RuleFrom (w.Repeat at ∷ ws))
Rest p.Count d ws = at_top d ((at : ℕ) → RuleFrom (w.Repeat at ∷ (w.OpenParen ∷ ws)))
Rest p.CountClose d ws = at_top d ((at count : ℕ) → RuleFrom (w.Repeat at ∷ (w.OpenParen ∷ (w.Decimal count ∷ ws))))
Rest p.Repeated d ws = at_top d ((at count : ℕ) → RuleFrom (w.Repeat at ∷ (w.OpenParen ∷ (w.Decimal count ∷ (w.CloseParen ∷ ws)))))
Rest p.NextAct d ws = ActTail d ws
Rest p.Act d ws = ActFrom d ws
Rest p.ActEnd d ws = (n : ℕ) → ActFrom d (w.Name n ∷ ws)
Rest p.BranchWeight d ws = below d (λ e. BranchesFrom e ws)
Rest p.BranchColon d ws = below d (λ e. (n : ℕ) → BranchesFrom e (w.Decimal n ∷ ws))
Rest p.RuleWeight d ws = at_top d (WeightFrom ws)
Rest p.RuleEnd d ws = at_top d (RuleTail ws)
Rest p.NextProd d ws = at_top d (NextProds ws)
Rest p.Last d ws = at_top d (ws ≡ w.End ∷ [])
Rest p.Done d ws = at_top d (ws ≡ [])

-- ---- one piece more

tail-end : (ws : List Word) → NextProds ws → RuleTail (w.Semicolon ∷ ws)
tail-end ws h = record { others = []; more = ws; whole = refl; prods = h }

tail-bar : (ws : List Word) → RuleFrom ws → RuleTail (w.Bar ∷ ws)
tail-bar ws h = record {
  others = h.rule ∷ h.rules.others;
  more = h.rules.more;
  whole =
      ap (λ z. w.Bar ∷ z)
      (h.whole ∙ ap (λ z. rule_words h.rule ++ z) h.rules.whole ∙ sym (append_assoc (rule_words h.rule) (flat_map other_rule h.rules.others) (w.Semicolon ∷ h.rules.more)));
  prods = h.rules.prods;
}

parts-end : (ws : List Word) → RuleTail ws → PartTail ws
parts-end ws h = record { others = []; weight = None; more = ws; whole = refl; rules = h }

parts-weight : (ws : List Word) → WeightFrom ws → PartTail (w.ColonEqual ∷ ws)
parts-weight ws h = record { others = []; weight = Some h.weight; more = h.more; whole = ap (λ z. w.ColonEqual ∷ z) h.whole; rules = h.rules }

-- a part begins a rule
rule-of : (x : PartTree) (ws : List Word) → PartTail ws → RuleFrom (part_words x ++ ws)
rule-of x ws h =
    let others : List Word = flat_map part_words h.others in
    record {
      rule = record { first = x; others = h.others; weight = h.weight };
      more = h.more;
      whole =
          ap (λ z. part_words x ++ z) (h.whole ∙ sym (append_assoc others (weight_words h.weight) h.more))
          ∙ sym (append_assoc (part_words x) (others ++ weight_words h.weight) h.more);
      rules = h.rules;
    }

-- a rule's parts are more of them
parts-more : (ws : List Word) → RuleFrom ws → PartTail ws
parts-more ws h =
    let first : List Word = part_words h.rule.first in
    let others : List Word = flat_map part_words h.rule.others in
    let weight : List Word = weight_words h.rule.weight in
    record {
      others = h.rule.first ∷ h.rule.others;
      weight = h.rule.weight;
      more = h.more;
      whole =
          h.whole ∙ append_assoc first (others ++ weight) h.more
          ∙ ap (λ z. first ++ z) (append_assoc others weight h.more)
          ∙ sym (append_assoc first others (weight ++ h.more));
      rules = h.rules;
    }

acts-end : (ws : List Word) → PartTail ws → BlockTail (w.CloseBrace ∷ ws)
acts-end ws h = record { acts = []; more = ws; whole = refl; parts = h }

acts-more : (ws : List Word) → ActFrom 0 ws → BlockTail ws
acts-more ws h = record {
  acts = h.act ∷ h.tail.acts;
  more = h.tail.more;
  whole = h.whole ∙ ap (λ z. act_words h.act ++ z) h.tail.whole ∙ sym (append_assoc (act_words h.act) (acts_words h.tail.acts) (w.CloseBrace ∷ h.tail.more));
  parts = h.tail.parts;
}

printed-from : (d n : ℕ) (ws : List Word) → ActTail d ws → ActFrom d (w.Name n ∷ (w.Semicolon ∷ ws))
printed-from d n ws h = record { act = printed n; more = ws; whole = refl; tail = h }

chosen-from : (d at : ℕ) (ws : List Word) → BranchesFrom d ws → ActFrom d (w.RandCase at ∷ ws)
chosen-from d at ws h = record {
  act = chosen at h.branches;
  more = h.more;
  whole = ap (λ z. w.RandCase at ∷ z) (h.whole ∙ sym (append_assoc (branches_words h.branches) (w.EndCase ∷ []) h.more));
  tail = h.tail;
}

choice-end : (d : ℕ) (ws : List Word) → ActTail d ws → ChoiceTail (ActTail d) (w.EndCase ∷ ws)
choice-end d ws h = record { later = None; more = ws; whole = refl; tail = h }

choice-more : (d : ℕ) (ws : List Word) → BranchesFrom d ws → ChoiceTail (ActTail d) ws
choice-more d ws h = record { later = Some h.branches; more = h.more; whole = h.whole; tail = h.tail }

branches-from : (d n : ℕ) (ws : List Word) → ActFrom (suc d) ws → BranchesFrom d (w.Decimal n ∷ (w.Colon ∷ ws))
branches-from d n ws h = go h.tail.later h.tail.whole
  where
    go : (o : Option BranchTrees) → h.more ≡ later_words o ++ w.EndCase ∷ h.tail.more → BranchesFrom d (w.Decimal n ∷ (w.Colon ∷ ws))
    go None e = record {
      branches = last_branch n h.act;
      more = h.tail.more;
      whole = ap (λ z. w.Decimal n ∷ (w.Colon ∷ z)) (h.whole ∙ ap (λ z. act_words h.act ++ z) e);
      tail = h.tail.tail;
    }
    go (Some bs) e = record {
      branches = next_branch n h.act bs;
      more = h.tail.more;
      whole =
          ap (λ z. w.Decimal n ∷ (w.Colon ∷ z))
          (h.whole ∙ ap (λ z. act_words h.act ++ z) e ∙ sym (append_assoc (act_words h.act) (branches_words bs) (w.EndCase ∷ h.tail.more)));
      tail = h.tail.tail;
    }

prods-first : (n : ℕ) (ws : List Word) → RuleFrom ws → FirstProds (w.Name n ∷ (w.Colon ∷ ws))
prods-first n ws h =
    let rule : List Word = rule_words h.rule in
    let others : List Word = flat_map other_rule h.rules.others in
    let prods : List Word = flat_map prod_words h.rules.prods.others ++ end_words in
    record {
      first = record { name = n; first = h.rule; others = h.rules.others };
      others = h.rules.prods.others;
      whole =
          ap (λ z. w.Name n ∷ (w.Colon ∷ z))
          (h.whole
          ∙ ap (λ z. rule ++ z) (h.rules.whole ∙ ap (λ z. others ++ w.Semicolon ∷ z) h.rules.prods.whole ∙ sym (append_assoc others (w.Semicolon ∷ []) prods))
          ∙ sym (append_assoc rule (others ++ w.Semicolon ∷ []) prods));
    }

prods-next : (ws : List Word) → FirstProds ws → NextProds ws
prods-next ws h = record { others = h.first ∷ h.others; whole = h.whole ∙ sym (append_assoc (prod_words h.first) (flat_map prod_words h.others) end_words) }

seq-of : (o : Option ℕ) (ws : List Word) → FirstProds ws → SeqFrom (w.RandSequence ∷ (w.OpenParen ∷ (start_words o ++ w.CloseParen ∷ ws)))
seq-of o ws h = record {
  tree = record { start = o; first = h.first; others = h.others };
  whole = ap (λ z. w.RandSequence ∷ (w.OpenParen ∷ (start_words o ++ w.CloseParen ∷ z))) (sym h.whole);
}

-- ---- one word back

abbrev Backs : Place → ℕ → Word → List Word → Option Move → Type 0
Backs place d x ws None = Unit {0}
Backs place d x ws (Some m) = Rest m.place (depth_behind d x) ws → Rest place d (x ∷ ws)

-- what holds of a place anyway
any-back : (place : Place) (d : ℕ) (x : Word) (ws : List Word) → Rest place d (x ∷ ws) → (o : Option Move) → Backs place d x ws o
any-back place d x ws h None = tt
any-back place d x ws h (Some m) = λ _. h

block-of : (at : ℕ) (ws : List Word) → BlockTail ws → RuleFrom (w.OpenBrace at ∷ ws)
block-of at ws h =
    let r = rule-of (coded at h.acts) h.more h.parts in
    record {
      rule = r.rule;
      more = r.more;
      whole = ap (λ z. w.OpenBrace at ∷ z) (h.whole ∙ sym (append_assoc (acts_words h.acts) (w.CloseBrace ∷ []) h.more)) ∙ r.whole;
      rules = r.rules;
    }

part-back : (x : Word) (ws : List Word) → Backs p.FirstPart 0 x ws (goes p.FirstPart 0 x)
part-back (w.Name n) ws = λ h. rule-of (named n) ws h
part-back (w.Repeat at) ws = λ h. h at
part-back (w.OpenBrace at) ws = λ h. block-of at ws h
part-back _ ws = tt

next_part-back : (x : Word) (ws : List Word) → Backs p.NextPart 0 x ws (goes p.NextPart 0 x)
next_part-back (w.Name n) ws = λ h. parts-more (w.Name n ∷ ws) (part-back (w.Name n) ws h)
next_part-back (w.Repeat at) ws = λ h. parts-more (w.Repeat at ∷ ws) (part-back (w.Repeat at) ws h)
next_part-back (w.OpenBrace at) ws = λ h. parts-more (w.OpenBrace at ∷ ws) (part-back (w.OpenBrace at) ws h)
next_part-back w.ColonEqual ws = λ h. parts-weight ws h
next_part-back w.Bar ws = λ h. parts-end (w.Bar ∷ ws) (tail-bar ws h)
next_part-back w.Semicolon ws = λ h. parts-end (w.Semicolon ∷ ws) (tail-end ws h)
next_part-back _ ws = tt

act-back : (d : ℕ) (x : Word) (ws : List Word) → Backs p.Act d x ws (goes p.Act d x)
act-back d (w.Name n) ws = λ h. h n
act-back d (w.RandCase at) ws = λ h. chosen-from d at ws h
act-back d _ ws = tt

next_act-back : (d : ℕ) (x : Word) (ws : List Word) → Backs p.NextAct d x ws (goes p.NextAct d x)
next_act-back zero (w.Name n) ws = λ h. acts-more (w.Name n ∷ ws) (h n)
next_act-back zero (w.RandCase at) ws = λ h. acts-more (w.RandCase at ∷ ws) (chosen-from 0 at ws h)
next_act-back zero w.CloseBrace ws = λ h. acts-end ws h
next_act-back zero _ ws = tt
next_act-back (suc d) (w.Decimal n) ws = λ h. choice-more d (w.Decimal n ∷ ws) (h n)
next_act-back (suc d) w.EndCase ws = λ h. choice-end d ws h
next_act-back (suc d) _ ws = tt

act_end-back : (d : ℕ) (x : Word) (ws : List Word) → Backs p.ActEnd d x ws (goes p.ActEnd d x)
act_end-back d w.Semicolon ws = λ h n. printed-from d n ws h
act_end-back d _ ws = tt

weight-back : (d : ℕ) (x : Word) (ws : List Word) → Backs p.BranchWeight d x ws (goes p.BranchWeight d x)
weight-back zero x ws = any-back p.BranchWeight zero x ws tt (goes p.BranchWeight zero x)
weight-back (suc d) (w.Decimal n) ws = λ h. h n
weight-back (suc d) _ ws = tt

colon-back : (d : ℕ) (x : Word) (ws : List Word) → Backs p.BranchColon d x ws (goes p.BranchColon d x)
colon-back zero x ws = any-back p.BranchColon zero x ws tt (goes p.BranchColon zero x)
colon-back (suc d) w.Colon ws = λ h n. branches-from d n ws h
colon-back (suc d) _ ws = tt

-- outside of blocks
top-back : (place : Place) (x : Word) (ws : List Word) → Backs place 0 x ws (goes place 0 x)
top-back p.Opening w.RandSequence ws = λ h. h
top-back p.Opening _ ws = tt
top-back p.StartOpen w.OpenParen ws = λ h. h
top-back p.StartOpen _ ws = tt
top-back p.Start (w.Name n) ws = λ h. h n
top-back p.Start w.CloseParen ws = λ h. seq-of None ws h
top-back p.Start _ ws = tt
top-back p.StartClose w.CloseParen ws = λ h n. seq-of (Some n) ws h
top-back p.StartClose _ ws = tt
top-back p.FirstProd (w.Name n) ws = λ h. h n
top-back p.FirstProd _ ws = tt
top-back p.ProdColon w.Colon ws = λ h n. prods-first n ws h
top-back p.ProdColon _ ws = tt
top-back p.FirstPart x ws = part-back x ws
top-back p.NextPart x ws = next_part-back x ws
top-back p.CountOpen w.OpenParen ws = λ h. h
top-back p.CountOpen _ ws = tt
top-back p.Count (w.Decimal n) ws = λ h at. h at n
top-back p.Count _ ws = tt
top-back p.CountClose w.CloseParen ws = λ h. h
top-back p.CountClose _ ws = tt
top-back p.Repeated (w.Name n) ws = λ h at count. rule-of (repeated at count n) ws h
top-back p.Repeated _ ws = tt
top-back p.NextAct x ws = next_act-back 0 x ws
top-back p.Act x ws = act-back 0 x ws
top-back p.ActEnd x ws = act_end-back 0 x ws
top-back p.BranchWeight x ws = weight-back 0 x ws
top-back p.BranchColon x ws = colon-back 0 x ws
top-back p.RuleWeight (w.Decimal n) ws = λ h. record { weight = n; more = ws; whole = refl; rules = h }
top-back p.RuleWeight _ ws = tt
top-back p.RuleEnd w.Bar ws = λ h. tail-bar ws h
top-back p.RuleEnd w.Semicolon ws = λ h. tail-end ws h
top-back p.RuleEnd _ ws = tt
top-back p.NextProd (w.Name n) ws = λ h. prods-next (w.Name n ∷ ws) (h n)
top-back p.NextProd w.EndSequence ws = λ h. record { others = []; whole = ap (λ z. w.EndSequence ∷ z) h }
top-back p.NextProd _ ws = tt
top-back p.Last w.End ws = λ h. ap (λ z. w.End ∷ z) h
top-back p.Last _ ws = tt
top-back p.Done x ws = tt

back : (place : Place) (d : ℕ) (x : Word) (ws : List Word) → Backs place d x ws (goes place d x)
back p.NextAct d x ws = next_act-back d x ws
back p.Act d x ws = act-back d x ws
back p.ActEnd d x ws = act_end-back d x ws
back p.BranchWeight d x ws = weight-back d x ws
back p.BranchColon d x ws = colon-back d x ws
back place zero x ws = top-back place x ws
back place (suc d) x ws = any-back place (suc d) x ws tt (goes place (suc d) x)

-- ---- all words

at_end : (place : Place) (d : ℕ) → is_last place ≡ true → Rest place d []
at_end p.Done zero h = refl
at_end p.Done (suc d) h = tt
at_end _ d h = absurd (let z : false ≡ true = h in cc)

all_back : (ws : List Word) (r : Reading) → accepts r ws ≡ true → Rest r.place r.depth ws
all_back [] r h = at_end r.place r.depth h
all_back (x ∷ ws) r h = go (goes r.place r.depth x) (back r.place r.depth x ws) (λ q k. all_back ws q k) h
  where
    go : (o : Option Move) → Backs r.place r.depth x ws o → ((q : Reading) → accepts q ws ≡ true → Rest q.place q.depth ws)
        → elim (option_map (moved_to r x) o) [ Some q ↦ accepts q ws | None ↦ false ] ≡ true → Rest r.place r.depth (x ∷ ws)
    go None b k h = absurd (let z : false ≡ true = h in cc)
    go (Some m) b k h = b (k (moved_to r x m) h)

pub tree-from : (ws : List Word) → accepts begin ws ≡ true → (t : SeqTree) × (seq_words t ≡ ws)
tree-from ws h = let r : SeqFrom ws = all_back ws begin h in (r.tree, r.whole)
