-- Where nothing is refused in a block, its acts are within the limits
use Rattle.std.proofs.Common.{◌≡◌, ℕ, suc, ◌+◌, ◌≤◌, ◌<◌, Bool, true, false, List, [], ◌∷◌, ◌++◌, length, refl, sym, ap, ◌∙◌, subst, arith}
use Rattle.std.specs.Prelude.{nat_lt, max}
use Rattle.std.proofs.lemmas.Bool.{ltb-true}
use Rattle.std.proofs.lemmas.Bool.Decides.{nat_tests}
use Rattle.svr_refusal.specs.declared.refusal.Refusal.{Refusal}
use Rattle.svr_refusal.specs.declared.refusal.Refusal.TheVariants as refusal
use Rattle.svr_seq.specs.SeqTerm.{ActTerm, choose, branches_of}
use Rattle.svr_seq.specs.Sound.{depth, branch_depth, branch_count, HasFewBranches, BranchesHaveFew}
use Rattle.svr_seq_text.specs.declared.text.ActText.{ActText}
use Rattle.svr_seq_text.specs.declared.text.ActText.TheVariants as t
use Rattle.svr_seq_text.specs.Tree.{ActTree, printed, chosen, BranchTrees, last_branch, next_branch, act_text, branches_text}
use Rattle.svr_seq.specs.declared.limits.TheConstants.{SEQUENCE_LIMIT, CHOICE_LIMIT}
use Rattle.svr_seq_made.specs.declared.fault.SeqFault.{SeqFault}
use Rattle.svr_seq_made.specs.Blocks.{value_of, unless, Opened, BlockSeen, act_fits, piece_refusals, acts_refusals}
use Rattle.svr_seq_made.specs.Trees.{act_of, branch_list}
use Rattle.svr_seq_made.proofs.Acts.{blk, opened, state, refused-append, act-state}

pub no-front : (xs ys : List SeqFault) → xs ++ ys ≡ [] → xs ≡ []
no-front [] ys h = refl
no-front (x ∷ xs) ys h = absurd (let z : x ∷ (xs ++ ys) ≡ [] = h in cc)

pub no-back : (xs ys : List SeqFault) → xs ++ ys ≡ [] → ys ≡ []
no-back [] ys h = h
no-back (x ∷ xs) ys h = absurd (let z : x ∷ (xs ++ ys) ≡ [] = h in cc)

pub is-fine : (fine : Bool) (why : Refusal) (token : ℕ) → unless fine why token ≡ [] → fine ≡ true
is-fine true why token h = refl
is-fine false why token h = absurd (let z : unless false why token ≡ [] = h in cc)

max-least : (a b n : ℕ) → a ≤ n → b ≤ n → max a b ≤ n
max-least a b n h k = grind (arith, nat_tests, h, k)

counted : (xs : List (ℕ × ActTerm)) → branch_count (branches_of xs) ≡ length xs
counted [] = refl
counted (x ∷ xs) = ap suc (counted xs)

-- an act in so many choices
pub record ActIsWithin (d : ℕ) (x : ActTerm) : Type 0 where
  pub shallow : d + depth x ≤ 128
  pub few : HasFewBranches x

-- branches in so many choices, behind so many others
record BranchesAreWithin (d n : ℕ) (xs : List (ℕ × ActTerm)) : Type 0 where
  pub shallow : d + branch_depth (branches_of xs) ≤ 128
  pub few : BranchesHaveFew (branches_of xs)
  pub count : n + length xs ≤ 1024

module _ (text : ℕ → List ℕ) where
  chosen-within : (d : ℕ) (bs : BranchTrees) → BranchesAreWithin (suc d) 0 (branch_list text bs) → ActIsWithin d (choose (branches_of (branch_list text bs)))
  chosen-within d bs h =
      let c : branch_count (branches_of (branch_list text bs)) ≡ length (branch_list text bs) = counted (branch_list text bs) in
      let n : 0 + length (branch_list text bs) ≤ 1024 = h.count in
      let s : suc d + branch_depth (branches_of (branch_list text bs)) ≤ 128 = h.shallow in
      record { shallow = omega arith; few = (let few : branch_count (branches_of (branch_list text bs)) ≤ 1024 = omega arith in (few, h.few)) }

  branch-within : (d n : ℕ) (w : ℕ) (x : ActTerm) (xs : List (ℕ × ActTerm)) → ActIsWithin d x → BranchesAreWithin d (suc n) xs → BranchesAreWithin d n ((w, x) ∷ xs)
  branch-within d n w x xs h k =
      let a : d + depth x ≤ 128 = h.shallow in
      let b : d + branch_depth (branches_of xs) ≤ 128 = k.shallow in
      let c : suc n + length xs ≤ 1024 = k.count in
      record {
        shallow = grind (arith, nat_tests, a, b);
        few = (h.few, k.few);
        count = omega arith;
      }

  none-within : (d n : ℕ) → d ≤ 128 → n ≤ 1024 → BranchesAreWithin d n []
  none-within d n h k = record { shallow = omega (arith, h); few = tt; count = omega (arith, k) }

  more-length : (done : List (ℕ × ActTerm)) (x : ℕ × ActTerm) → length (done ++ x ∷ []) ≡ suc (length done)
  more-length [] x = refl
  more-length (y ∷ done) x = ap suc (more-length done x)

  mutual
    pub act-within : (x : ActTree) (b : BlockSeen) → acts_refusals text b (act_text x) ≡ [] → length b.opens ≤ 128 → ActIsWithin (length b.opens) (act_of text x)
    act-within (printed n) b h l = record { shallow = omega (arith, l); few = tt }
    act-within (chosen at bs) b h l =
        let rest : List SeqFault = acts_refusals text (blk (opened 0 [] ∷ b.opens) b.acts) (branches_text bs ++ t.End ∷ []) in
        let here : piece_refusals b (t.Choose at) ≡ [] = no-front (piece_refusals b (t.Choose at)) rest h in
        let deep : nat_lt (length b.opens) CHOICE_LIMIT ≡ true = is-fine (nat_lt (length b.opens) CHOICE_LIMIT) refusal.SequenceTooLarge at (no-back (unless (act_fits b.opens b.acts) refusal.SequenceTooLarge at) (unless (nat_lt (length b.opens) CHOICE_LIMIT) refusal.SequenceTooLarge at) here) in
        let less : length b.opens < 128 = ltb-true (length b.opens) 128 deep in
        let inner : acts_refusals text (blk (opened 0 [] ∷ b.opens) b.acts) (branches_text bs) ≡ [] =
        no-front (acts_refusals text (blk (opened 0 [] ∷ b.opens) b.acts) (branches_text bs)) (acts_refusals text (state text (blk (opened 0 [] ∷ b.opens) b.acts) (branches_text bs)) (t.End ∷ []))
        (sym (refused-append text (branches_text bs) (t.End ∷ []) (blk (opened 0 [] ∷ b.opens) b.acts)) ∙ no-back (piece_refusals b (t.Choose at)) rest h) in
        chosen-within (length b.opens) bs (branches-within bs b.opens b.acts 0 [] inner (omega (arith, less)) (omega arith))

    branches-within : (bs : BranchTrees) (os : List Opened) (acts : List ActTerm) (w : ℕ) (done : List (ℕ × ActTerm))
        → acts_refusals text (blk (opened w done ∷ os) acts) (branches_text bs) ≡ [] → suc (length os) ≤ 128 → length done ≤ 1024
        → BranchesAreWithin (suc (length os)) (length done) (branch_list text bs)
    branches-within (last_branch n x) os acts w done h l f =
        let v : ℕ = value_of (text n) in
        let b : BlockSeen = blk (opened v done ∷ os) acts in
        let fits : nat_lt (length done) SEQUENCE_LIMIT ≡ true = is-fine (nat_lt (length done) SEQUENCE_LIMIT) refusal.SequenceTooLarge n (no-front (unless (nat_lt (length done) SEQUENCE_LIMIT) refusal.SequenceTooLarge n) (acts_refusals text b (act_text x)) h) in
        let less : length done < 1024 = ltb-true (length done) 1024 fits in
        let a : ActIsWithin (suc (length os)) (act_of text x) = act-within x b (no-back (unless (nat_lt (length done) SEQUENCE_LIMIT) refusal.SequenceTooLarge n) (acts_refusals text b (act_text x)) h) l in
        branch-within (suc (length os)) (length done) v (act_of text x) [] a (none-within (suc (length os)) (suc (length done)) l (omega (arith, less)))
    branches-within (next_branch n x bs) os acts w done h l f =
        let v : ℕ = value_of (text n) in
        let b : BlockSeen = blk (opened v done ∷ os) acts in
        let xs : List ActText = act_text x ++ branches_text bs in
        let fits : nat_lt (length done) SEQUENCE_LIMIT ≡ true = is-fine (nat_lt (length done) SEQUENCE_LIMIT) refusal.SequenceTooLarge n (no-front (unless (nat_lt (length done) SEQUENCE_LIMIT) refusal.SequenceTooLarge n) (acts_refusals text b xs) h) in
        let less : length done < 1024 = ltb-true (length done) 1024 fits in
        let all : acts_refusals text b (act_text x) ++ acts_refusals text (state text b (act_text x)) (branches_text bs) ≡ [] =
        sym (refused-append text (act_text x) (branches_text bs) b) ∙ no-back (unless (nat_lt (length done) SEQUENCE_LIMIT) refusal.SequenceTooLarge n) (acts_refusals text b xs) h in
        let a : ActIsWithin (suc (length os)) (act_of text x) = act-within x b (no-front (acts_refusals text b (act_text x)) (acts_refusals text (state text b (act_text x)) (branches_text bs)) all) l in
        let next : List (ℕ × ActTerm) = done ++ (v, act_of text x) ∷ [] in
        let later : acts_refusals text (blk (opened v next ∷ os) acts) (branches_text bs) ≡ [] =
        sym (ap (λ z. acts_refusals text z (branches_text bs)) (act-state text x b)) ∙ no-back (acts_refusals text b (act_text x)) (acts_refusals text (state text b (act_text x)) (branches_text bs)) all in
        let e : length next ≡ suc (length done) = more-length done (v, act_of text x) in
        let more : BranchesAreWithin (suc (length os)) (length next) (branch_list text bs) = branches-within bs os acts v next later l (omega (arith, less)) in
        branch-within (suc (length os)) (length done) v (act_of text x) (branch_list text bs) a (subst (λ k. BranchesAreWithin (suc (length os)) k (branch_list text bs)) e more)
