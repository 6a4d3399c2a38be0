-- The blocks of a class are those of its base that none of its own replaces, and then its own; gathered from the class up.
use Rattle.std.proofs.Common.{◌≡◌, ◌<◌, ◌≤◌, ℕ, zero, suc, ◌+◌, Bool, true, false, List, [], ◌∷◌, ◌++◌, Option, Some, None, length, map, reverse, refl, sym, ap, ◌∙◌, subst, arith, slice_get, slice_index_or, nat_lt, if◌then◌else◌, option_map, is_some, true≢false, Result, Ok, Err, IfOk}
use Rattle.std.specs.List.{IsDistinct}
use Rattle.std.proofs.lemmas.Bool.Decides.{nat_tests}
use Rattle.std.proofs.lemmas.List.{append-nil, append_assoc, length-append, get_or_append_left, get_or_past, get_or_push}
use Rattle.std.proofs.lemmas.Option.{slice_get-map}
use Rattle.indexmap.proofs.ReorderLemmas.{map-reverse}
use Rattle.svr_elab_names.specs.declared.ClassNames.{ClassNames}
use Rattle.svr_elab_names.specs.Names.{ClassName, find}
use Rattle.svr_elab_names.specs.Tables.{Key, class_of, bytes_of}
use Rattle.svr_elab_target.specs.Blocks.{without, names_at, flat_names, flat_names_after, class_blocks, block_number, blocks_of, own_names, below, base_of, base_before, all_front}
use Rattle.svr_elab_target.proofs.Fronts.{without_none, without_joined, replaced_twice, front_is, same_key, different_names}

abbrev Names : Type 0
Names = List (List ℕ)

-- ---- what stands in the list of flat classes

longer : (done : List Names) (bs : Names) (i : ℕ) → i < length done → i < length (done ++ bs ∷ [])
longer done bs i h = let e : length (done ++ bs ∷ []) ≡ length done + 1 = length-append done (bs ∷ []) in omega (arith, h, e)

one_longer : (done : List Names) (bs : Names) → length done < length (done ++ bs ∷ [])
one_longer done bs = let e : length (done ++ bs ∷ []) ≡ length done + 1 = length-append done (bs ∷ []) in omega (arith, e)

-- what stands before stays
stays : (done : List Names) (cs : List ClassName) (i : ℕ) → i < length done → slice_index_or (flat_names_after done cs) i [] ≡ slice_index_or done i []
stays done [] i less = refl
stays done (c ∷ cs) i less =
    stays (done ++ flat_names done c ∷ []) cs i (longer done (flat_names done c) i less) ∙ get_or_append_left done (flat_names done c ∷ []) [] i less

next_is : (done : List Names) (c : ClassName) (cs : List ClassName) → slice_index_or (flat_names_after done (c ∷ cs)) (length done) [] ≡ flat_names done c
next_is done c cs =
    stays (done ++ flat_names done c ∷ []) cs (length done) (one_longer done (flat_names done c)) ∙ get_or_push done (flat_names done c) [] (length done) refl

-- a base that stands before
tested : (done : List Names) (c : ClassName) (cs : List ClassName) (b : ℕ) (test : Bool) → nat_lt b (length done) ≡ test
    → names_at (flat_names_after done (c ∷ cs)) (if test then Some b else None) ≡ slice_index_or done b []
tested done c cs b true is = stays done (c ∷ cs) b (grind (arith, nat_tests))
tested done c cs b false is = sym (get_or_past done b [] (grind (arith, nat_tests)))

base_found : (done : List Names) (c : ClassName) (cs : List ClassName) (base : Option ℕ) → names_at (flat_names_after done (c ∷ cs)) (below (length done) base) ≡ names_at done base
base_found done c cs None = refl
base_found done c cs (Some b) = tested done c cs b (nat_lt b (length done)) refl

-- a class over its base
abbrev over : Names → Names → Names
over base own = without own base ++ own

-- each class stands at its number, over its base
stands : (done : List Names) (cs : List ClassName) (k n : ℕ) → n ≡ length done + k
    → slice_index_or (flat_names_after done cs) n [] ≡ over (names_at (flat_names_after done cs) (below n (base_of (slice_get cs k)))) (blocks_of (slice_get cs k))
stands done [] k n at = get_or_past done n [] (omega arith)
stands done (c ∷ cs) zero n at =
    let here : n ≡ length done = omega arith in
    ap (λ (m : ℕ). slice_index_or (flat_names_after done (c ∷ cs)) m []) here
    ∙ next_is done c cs
    ∙ ap (λ (bs : Names). over bs c.blocks) (sym (base_found done c cs c.base))
    ∙ ap (λ (m : ℕ). over (names_at (flat_names_after done (c ∷ cs)) (below m c.base)) c.blocks) (sym here)
stands done (c ∷ cs) (suc k) n at =
    let more : length (done ++ flat_names done c ∷ []) ≡ length done + 1 = length-append done (flat_names done c ∷ []) in
    stands (done ++ flat_names done c ∷ []) cs k n (omega (arith, at, more))

-- all blocks of a class, if there is one
abbrev blocks_at : List ClassName → Option ℕ → Names
blocks_at cs o = names_at (flat_names_after [] cs) o

class_is : (cs : List ClassName) (n : ℕ) → class_blocks cs n ≡ over (blocks_at cs (base_before cs n)) (own_names cs n)
class_is cs n = stands [] cs n n (omega arith)

-- ---- the loop that goes up

-- how many numbers are at most this one
abbrev pub count_to : Option ℕ → ℕ
count_to None = 0
count_to (Some n) = n + 1

tested_count : (b n : ℕ) (test : Bool) → nat_lt b n ≡ test → count_to (if test then Some b else None) ≤ n
tested_count b n true is = grind (arith, nat_tests)
tested_count b n false is = omega arith

below_count : (n : ℕ) (o : Option ℕ) → count_to (below n o) ≤ n
below_count n None = omega arith
below_count n (Some b) = tested_count b n (nat_lt b n) refl

pub fewer : (cs : List ClassName) (n : ℕ) (here above : Option ℕ) → here ≡ Some n → above ≡ base_before cs n → count_to above < count_to here
fewer cs n here above is next =
    let less = below_count n (base_of (slice_get cs n)) in
    subst (λ (o : Option ℕ). count_to above < count_to o) (sym is) (subst (λ (o : Option ℕ). count_to o < n + 1) (sym next) (omega (arith, less)))

-- what is still to come and none of these replaces, and then these
abbrev pub Gathered : List ClassName → Names → Option ℕ → Names → Type 0
Gathered cs t next whole = without t (blocks_at cs next) ++ t ≡ whole

pub gathered_first : (cs : List ClassName) (n : ℕ) (keys : List Key) → keys ≡ [] → Gathered cs (reverse (map bytes_of keys)) (Some n) (class_blocks cs n)
gathered_first cs n keys e =
    ap (λ (ks : List Key). without (reverse (map bytes_of ks)) (class_blocks cs n) ++ reverse (map bytes_of ks)) e ∙ append-nil (without [] (class_blocks cs n)) ∙ without_none (class_blocks cs n)

pub gathered_more : (cs : List ClassName) (t after : Names) (here above : Option ℕ) (n : ℕ) (whole : Names) → here ≡ Some n → above ≡ base_before cs n → after ≡ without t (own_names cs n) ++ t
    → Gathered cs t here whole → Gathered cs after above whole
gathered_more cs t after here above n whole is_here is_above is_after told =
    let own : Names = own_names cs n in
    let base : Names = blocks_at cs (base_before cs n) in
    ap (λ (o : Option ℕ). without after (blocks_at cs o) ++ after) is_above
    ∙ ap (λ (ns : Names). without ns base ++ ns) is_after
    ∙ ap (λ (ns : Names). ns ++ (without t own ++ t)) (replaced_twice t own base)
    ∙ sym (append_assoc (without t (without own base)) (without t own) t)
    ∙ ap (λ (ns : Names). ns ++ t) (sym (without_joined t (without own base) own))
    ∙ ap (λ (ns : Names). without t ns ++ t) (sym (class_is cs n))
    ∙ sym (ap (λ (o : Option ℕ). without t (blocks_at cs o) ++ t) is_here)
    ∙ told

pub gathered_all : (cs : List ClassName) (t : Names) (next : Option ℕ) (whole : Names) → next ≡ None → Gathered cs t next whole → t ≡ whole
gathered_all cs t next whole e told = sym (ap (λ (o : Option ℕ). without t (blocks_at cs o) ++ t) e) ∙ told

-- ---- the blocks of one class in front

class_at : (cs : List ClassNames) (k : ℕ) (o : Option ClassNames) → slice_get cs k ≡ o → slice_get (map class_of cs) k ≡ option_map class_of o
class_at cs k o e = slice_get-map class_of cs k ∙ ap (option_map class_of) e

pub none_in_front : (cs : List ClassNames) (k : ℕ) (t : Names) → slice_get cs k ≡ None → t ≡ without t (own_names (map class_of cs) k) ++ t
none_in_front cs k t e = sym (ap (λ (o : Option ClassName). without t (blocks_of o) ++ t) (class_at cs k None e))

pub some_in_front : (cs : List ClassNames) (k : ℕ) (c : ClassNames) (rs : List Key) (t after : Names) → slice_get cs k ≡ Some c → rs ≡ c.blocks.keys → IsDistinct same_key c.blocks.keys
    → after ≡ all_front t (map bytes_of rs) → after ≡ without t (own_names (map class_of cs) k) ++ t
some_in_front cs k c rs t after at is_rs unique is_after =
    is_after
    ∙ front_is t (map bytes_of rs) (different_names c.blocks.keys rs is_rs unique)
    ∙ ap (λ (ks : List Key). without t (map bytes_of ks) ++ t) is_rs
    ∙ sym (ap (λ (o : Option ClassName). without t (blocks_of o) ++ t) (class_at cs k (Some c) at))

-- ---- what callers are told

-- what is made is so by what is told of it
pub told : {A E : Type 0} {P Q : A → Type 0} (r : Result A E) → IfOk r P → ((x : A) → P x → Q x) → IfOk r Q
told (Ok x) p f = f x p
told (Err e) p f = tt

pub turned_round : (ks rs : List Key) (whole : Names) → rs ≡ reverse ks → reverse (map bytes_of ks) ≡ whole → map bytes_of rs ≡ whole
turned_round ks rs whole e h = ap (map bytes_of) e ∙ map-reverse bytes_of ks ∙ h

none_from : (o : Option ℕ) → is_some o ≡ false → o ≡ None
none_from None h = refl
none_from (Some b) h = absurd (true≢false h)

-- a class that extends none has its own alone
pub alone_is : (cs : List ClassNames) (k : ℕ) (c : ClassNames) → slice_get cs k ≡ Some c → is_some c.base ≡ false → map bytes_of c.blocks.keys ≡ class_blocks (map class_of cs) k
alone_is cs k c at none =
    let ds : List ClassName = map class_of cs in
    sym
    (
    class_is ds k
    ∙ ap (λ (o : Option ClassName). over (blocks_at ds (below k (base_of o))) (blocks_of o)) (class_at cs k (Some c) at)
    ∙ ap (λ (b : Option ℕ). over (blocks_at ds (below k b)) (map bytes_of c.blocks.keys)) (none_from c.base none)
    )

pub place_is : (cs : List ClassName) (k : ℕ) (q : List ℕ) (ks : List Key) (o : Option ℕ)
    → map bytes_of ks ≡ class_blocks cs k → o ≡ option_map (λ f. f.0) (find (λ b. b) q (map bytes_of ks)) → o ≡ block_number cs k q
place_is cs k q ks o e h = h ∙ ap (λ (bs : Names). option_map (λ f. f.0) (find (λ b. b) q bs)) e
