-- The blocks of a class can be numbered.
use Rattle.std.proofs.Common.{◌≡◌, ℕ, ◌+◌, ◌<◌, ◌≤◌, ◌^◌, length, Bool, true, false, if◌then◌else◌, List, [], ◌∷◌, ◌++◌, map, Option, Some, None, slice_get, slice_index_or, sym, ap, ◌∙◌, zero, suc, arith}
use Rattle.std.specs.Prelude.{⊤}
use Rattle.std.specs.List.{list_any}
use Rattle.std.proofs.lemmas.Option.{slice_get-get_or}
use Rattle.std.proofs.lemmas.List.{length-append, length-map}
use Rattle.svr_elab_names.specs.declared.ClassNames.{ClassNames}
use Rattle.svr_elab_names.specs.Names.{ClassName, is_same}
use Rattle.svr_elab_names.specs.declared.NameSpace.{NameSpace}
use Rattle.svr_elab_names.specs.Tables.{Key, class_of, space_of, bytes_of}
use Rattle.svr_elab_target.specs.Blocks.{without, names_at, flat_names, flat_names_after, class_blocks}
use Rattle.svr_elab_target.specs.Fits.{blocks_declared, BlocksFit}

abbrev Names : Type 0
Names = List (List ℕ)

abbrev HaveFew : ℕ → List Names → Type 0
HaveFew n [] = ⊤
HaveFew n (bs ∷ done) = (length bs ≤ n) × HaveFew n done

few_at : (n : ℕ) (done : List Names) (k : ℕ) → HaveFew n done → length (slice_index_or done k []) ≤ n
few_at n [] k h = omega arith
few_at n (bs ∷ done) zero h = h.0
few_at n (bs ∷ done) (suc k) h = few_at n done k h.1

few_base : (n : ℕ) (done : List Names) (b : Option ℕ) → HaveFew n done → length (names_at done b) ≤ n
few_base n done None h = omega arith
few_base n done (Some b) h = few_at n done b h

left_or_kept : (t : Bool) (b : List ℕ) (xs : Names) (n : ℕ) → length xs ≤ n → length (if t then xs else b ∷ xs) ≤ suc n
left_or_kept true b xs n h = omega (arith, h)
left_or_kept false b xs n h = omega (arith, h)

without_fewer : (own bs : Names) → length (without own bs) ≤ length bs
without_fewer own [] = omega arith
without_fewer own (b ∷ bs) = left_or_kept (list_any (is_same b) own) b (without own bs) (length bs) (without_fewer own bs)

sum_few : (n own base k b : ℕ) → k ≡ b + own → b ≤ base → base ≤ n → k ≤ n + own
sum_few n own base k b is h i = omega (arith, is, h, i)

class_few : (n : ℕ) (done : List Names) (c : ClassName) → HaveFew n done → length (flat_names done c) ≤ n + length c.blocks
class_few n done c h =
    let bs : Names = names_at done c.base in
    sum_few n (length c.blocks) (length bs) (length (flat_names done c)) (length (without c.blocks bs)) (length-append (without c.blocks bs) c.blocks) (without_fewer c.blocks bs) (few_base n done c.base h)

weaker_one : (k n m : ℕ) → k ≤ n → n ≤ m → k ≤ m
weaker_one k n m h e = omega (arith, h, e)

weaker : (n m : ℕ) (done : List Names) → n ≤ m → HaveFew n done → HaveFew m done
weaker n m [] e h = tt
weaker n m (bs ∷ done) e h = (weaker_one (length bs) n m h.0 e, weaker n m done e h.1)

with_last : (n : ℕ) (done : List Names) (bs : Names) → HaveFew n done → length bs ≤ n → HaveFew n (done ++ bs ∷ [])
with_last n [] bs h k = (k, tt)
with_last n (x ∷ done) bs h k = (h.0, with_last n done bs h.1 k)

added : (a b : ℕ) → a ≤ a + b
added a b = omega arith

grouped : (n a b : ℕ) (done : List Names) → HaveFew (n + a + b) done → HaveFew (n + (a + b)) done
grouped n a b done h = weaker (n + a + b) (n + (a + b)) done (omega arith) h

all_few : (n : ℕ) (done : List Names) (cs : List ClassName) → HaveFew n done → HaveFew (n + blocks_declared cs) (flat_names_after done cs)
all_few n done [] h = weaker n (n + 0) done (added n 0) h
all_few n done (c ∷ cs) h =
    let m : ℕ = n + length c.blocks in
    grouped n (length c.blocks) (blocks_declared cs) _
    (all_few m (done ++ flat_names done c ∷ []) cs (with_last m done (flat_names done c) (weaker n m done (added n (length c.blocks)) h) (class_few n done c h)))

from_none : (k n : ℕ) → k ≤ 0 + n → k ≤ n
from_none k n h = omega (arith, h)

-- a class has no more than all classes declare
blocks_few : (cs : List ClassName) (k : ℕ) → length (class_blocks cs k) ≤ blocks_declared cs
blocks_few cs k = from_none _ (blocks_declared cs) (few_at (0 + blocks_declared cs) (flat_names_after [] cs) k (all_few 0 [] cs tt))

pub blocks_below : (n : NameSpace) (k : ℕ) (ks : List Key) → BlocksFit (space_of n) → map bytes_of ks ≡ class_blocks (map class_of n.classes.now) k → length ks < 2 ^ 32
blocks_below n k ks h e =
    under (length ks) _ _ (sym (length-map ks bytes_of) ∙ ap length e) (blocks_few (map class_of n.classes.now) k) h.few
  where
    under : (a b m : ℕ) → a ≡ b → b ≤ m → m < 2 ^ 32 → a < 2 ^ 32
    under a b m e h i = omega (arith, e, h, i)

-- what a slice lends at a place
pub got_at : (cs : List ClassNames) (k : ℕ) (c : ClassNames) → k < length cs → c ≡ slice_index_or cs k c → slice_get cs k ≡ Some c
got_at cs k c h e = slice_get-get_or cs k c h ∙ ap (λ (c : ClassNames). Some c) (sym e)
