-- What is made of a block is what its trees say, within the limits where nothing is refused
use Rattle.std.proofs.Common.{◌≡◌, ℕ, List, [], ◌∷◌, ◌++◌, map, refl, sym, ap, ◌∙◌, append_assoc, append-nil}
use Rattle.svr_seq.specs.SeqTerm.{ActTerm}
use Rattle.svr_seq_text.specs.declared.text.ActText.{ActText}
use Rattle.svr_seq_text.specs.declared.text.ActText.TheVariants as t
use Rattle.svr_seq_text.specs.Tree.{ActTree, printed, chosen, BranchTrees, last_branch, next_branch, act_text, branches_text, acts_text}
use Rattle.svr_seq_made.specs.Blocks.{value_of, Opened, BlockSeen, put, close_in, behind, piece_refusals, acts_refusals, acts_made}
use Rattle.svr_seq_made.specs.Trees.{act_of, branch_list}

abbrev pub blk : List Opened → List ActTerm → BlockSeen
blk opens acts = record { opens = opens; acts = acts }

abbrev pub opened : ℕ → List (ℕ × ActTerm) → Opened
opened weight branches = record { weight = weight; branches = branches }

module _ (text : ℕ → List ℕ) where
  abbrev pub state : BlockSeen → List ActText → BlockSeen
  state b [] = b
  state b (x ∷ xs) = state (behind text b x) xs

  state-append : (xs ys : List ActText) (b : BlockSeen) → state b (xs ++ ys) ≡ state (state b xs) ys
  state-append [] ys b = refl
  state-append (x ∷ xs) ys b = state-append xs ys (behind text b x)

  made-state : (xs : List ActText) (b : BlockSeen) → acts_made text b xs ≡ (state b xs).acts
  made-state [] b = refl
  made-state (x ∷ xs) b = made-state xs (behind text b x)

  pub refused-append : (xs ys : List ActText) (b : BlockSeen) → acts_refusals text b (xs ++ ys) ≡ acts_refusals text b xs ++ acts_refusals text (state b xs) ys
  refused-append [] ys b = refl
  refused-append (x ∷ xs) ys b =
      ap (λ z. piece_refusals b x ++ z) (refused-append xs ys (behind text b x))
      ∙ sym (append_assoc (piece_refusals b x) (acts_refusals text (behind text b x) xs) (acts_refusals text (state (behind text b x) xs) ys))

  -- ---- what is made

  record Branched (os : List Opened) (acts : List ActTerm) (w : ℕ) (done : List (ℕ × ActTerm)) (bs : BranchTrees) : Type 0 where
    pub weight : ℕ
    pub is : state (blk (opened w done ∷ os) acts) (branches_text bs) ≡ blk (opened weight (done ++ branch_list text bs) ∷ os) acts

  chosen-state : (at : ℕ) (bs : BranchTrees) (b : BlockSeen) → Branched b.opens b.acts 0 [] bs → state b (act_text (chosen at bs)) ≡ put b (act_of text (chosen at bs))
  chosen-state at bs b h = state-append (branches_text bs) (t.End ∷ []) (blk (opened 0 [] ∷ b.opens) b.acts) ∙ ap (λ z. close_in z.opens z.acts) h.is

  next-state : (n : ℕ) (x : ActTree) (bs : BranchTrees) (os : List Opened) (acts : List ActTerm) (w : ℕ) (done : List (ℕ × ActTerm))
      → state (blk (opened (value_of (text n)) done ∷ os) acts) (act_text x) ≡ blk (opened (value_of (text n)) (done ++ (value_of (text n), act_of text x) ∷ []) ∷ os) acts
      → Branched os acts (value_of (text n)) (done ++ (value_of (text n), act_of text x) ∷ []) bs
      → Branched os acts w done (next_branch n x bs)
  next-state n x bs os acts w done h k = record {
    weight = k.weight;
    is =
        state-append (act_text x) (branches_text bs) (blk (opened (value_of (text n)) done ∷ os) acts)
        ∙ ap (λ z. state z (branches_text bs)) h
        ∙ k.is
        ∙ ap (λ z. blk (opened k.weight z ∷ os) acts) (append_assoc done ((value_of (text n), act_of text x) ∷ []) (branch_list text bs));
  }

  mutual
    pub act-state : (x : ActTree) (b : BlockSeen) → state b (act_text x) ≡ put b (act_of text x)
    act-state (printed n) b = refl
    act-state (chosen at bs) b = chosen-state at bs b (branches-state bs b.opens b.acts 0 [])

    branches-state : (bs : BranchTrees) (os : List Opened) (acts : List ActTerm) (w : ℕ) (done : List (ℕ × ActTerm)) → Branched os acts w done bs
    branches-state (last_branch n x) os acts w done = record { weight = value_of (text n); is = act-state x (blk (opened (value_of (text n)) done ∷ os) acts) }
    branches-state (next_branch n x bs) os acts w done =
        next-state n x bs os acts w done (act-state x (blk (opened (value_of (text n)) done ∷ os) acts))
        (branches-state bs os acts (value_of (text n)) (done ++ (value_of (text n), act_of text x) ∷ []))

  acts-state : (xs : List ActTree) (acts : List ActTerm) → state (blk [] acts) (acts_text xs) ≡ blk [] (acts ++ map (act_of text) xs)
  acts-state [] acts = ap (blk []) (sym (append-nil acts))
  acts-state (x ∷ xs) acts =
      state-append (act_text x) (acts_text xs) (blk [] acts)
      ∙ ap (λ z. state z (acts_text xs)) (act-state x (blk [] acts))
      ∙ acts-state xs (acts ++ act_of text x ∷ [])
      ∙ ap (blk []) (append_assoc acts (act_of text x ∷ []) (map (act_of text) xs))

  -- the acts that are made of a block are those of its trees
  pub acts-made : (xs : List ActTree) → acts_made text (blk [] []) (acts_text xs) ≡ map (act_of text) xs
  acts-made xs = made-state (acts_text xs) (blk [] []) ∙ ap (λ z. z.acts) (acts-state xs [])
