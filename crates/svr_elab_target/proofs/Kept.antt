-- What is kept of the blocks of classes.
use Rattle.std.proofs.Common.{◌≡◌, ℕ, nat_eq, ◌+◌, ◌≤◌, cond, if◌then◌else◌, Bool, true, false, List, [], ◌∷◌, length, map, Option, Some, refl, sym, ap, subst, IfSome, arith}
use Rattle.std.specs.Map.{lookup}
use Rattle.std.proofs.lemmas.Bool.Decides.{nat_tests}
use Rattle.indexmap.specs.IndexMap.{get, insert_entry}
use Rattle.indexmap.specs.IndexSet.{IndexSet}
use Rattle.svr_elab_names.specs.Names.{Space}
use Rattle.svr_elab_names.specs.Tables.{Key, bytes_of}
use Rattle.svr_elab_target.specs.Named.{with_made}
use Rattle.svr_elab_target.specs.Blocks.{class_blocks}
use Rattle.svr_elab_target.specs.Kept.{IsKept, HasRoom, names_in}
use Rattle.svr_elab_target.specs.declared.chain.FlatNames.{FlatNames}
use Rattle.svr_elab_target.specs.declared.chain.TheConstants.{MOST_KEPT}

-- ---- what is at a number

pub of_some : {A : Type 0} (o : Option A) (x : A) (P : A → Type 0) → o ≡ Some x → IfSome o P → P x
of_some {A = A} o x P e h = subst (λ (o : Option A). IfSome o P) e h

-- what is so of each value of a table is so with one more of which it is
pub of_more : {A : Type 0} (k q : ℕ) (x : A) (old new : Option A) (P : ℕ → A → Type 0) → new ≡ cond (nat_eq k q) (Some x) old → IfSome old (P q) → P k x → IfSome new (P q)
of_more {A = A} k q x old new P e h p = subst (λ (o : Option A). IfSome o (P q)) (sym e) (pick (nat_eq k q) refl)
  where
    pick : (b : Bool) → nat_eq k q ≡ b → IfSome (cond b (Some x) old) (P q)
    pick true is = let same : k ≡ q = grind (arith, nat_tests) in subst (λ (q : ℕ). P q x) same p
    pick false is = h

pub of_same : {A : Type 0} (q : ℕ) (old new : List (ℕ × A)) (P : A → Type 0) → new ≡ old → IfSome (lookup (nat_eq q) old) P → IfSome (lookup (nat_eq q) new) P
of_same {A = A} q old new P e h = subst (λ (es : List (ℕ × A)). IfSome (lookup (nat_eq q) es) P) (sym e) h

-- ---- how many names there are

names_entered : {S : Type 0} (es : List (ℕ × IndexSet Key S)) (k : ℕ) (s : IndexSet Key S) → names_in (insert_entry nat_eq es k s) ≤ names_in es + length s.keys
names_entered [] k s = omega arith
names_entered (e ∷ es) k s = pick (nat_eq k e.0) (names_entered es k s)
  where
    pick : (b : Bool) → names_in (insert_entry nat_eq es k s) ≤ names_in es + length s.keys
        → names_in (if b then (e.0, s) ∷ es else e ∷ insert_entry nat_eq es k s) ≤ length e.1.keys + names_in es + length s.keys
    pick true h = omega arith
    pick false h = omega (arith, h)

classes_entered : {S : Type 0} (es : List (ℕ × IndexSet Key S)) (k : ℕ) (s : IndexSet Key S) → length (insert_entry nat_eq es k s) ≤ length es + 1
classes_entered [] k s = omega arith
classes_entered (e ∷ es) k s = pick (nat_eq k e.0) (classes_entered es k s)
  where
    pick : (b : Bool) → length (insert_entry nat_eq es k s) ≤ length es + 1 → length (if b then (e.0, s) ∷ es else e ∷ insert_entry nat_eq es k s) ≤ length (e ∷ es) + 1
    pick true h = omega arith
    pick false h = omega (arith, h)

pub names_more : {S : Type 0} (es ds : List (ℕ × IndexSet Key S)) (k more : ℕ) (s : IndexSet Key S) → ds ≡ insert_entry nat_eq es k s → more ≡ length s.keys → names_in ds ≤ names_in es + more
names_more es ds k more s e m =
    let count : names_in ds ≡ names_in (insert_entry nat_eq es k s) = ap names_in e in
    let most = names_entered es k s in
    omega (arith, count, most, m)

pub classes_more : {S : Type 0} (es ds : List (ℕ × IndexSet Key S)) (k : ℕ) (s : IndexSet Key S) → ds ≡ insert_entry nat_eq es k s → length ds ≤ length es + 1
classes_more es ds k s e =
    let count : length ds ≡ length (insert_entry nat_eq es k s) = ap length e in
    let most = classes_entered es k s in
    omega (arith, count, most)

pub names_same : {S : Type 0} (es ds : List (ℕ × IndexSet Key S)) (more : ℕ) → ds ≡ es → names_in ds ≤ names_in es + more
names_same es ds more e = let count : names_in ds ≡ names_in es = ap names_in e in omega (arith, count)

pub classes_same : {S : Type 0} (es ds : List (ℕ × IndexSet Key S)) → ds ≡ es → length ds ≤ length es + 1
classes_same es ds e = let count : length ds ≡ length es = ap length e in omega (arith, count)

-- ---- what is kept

abbrev AreRight : Space → FlatNames → Type 0
AreRight n f = (k : ℕ) → IfSome (get nat_eq f.kept k) (λ s. map bytes_of s.keys ≡ class_blocks n.classes k)

pub room_used : (n : Space) (f g : FlatNames) (more : ℕ) → HasRoom more f → g.count ≡ f.count → names_in g.kept.entries ≤ names_in f.kept.entries + more → length g.kept.entries ≤ length f.kept.entries + 1 → AreRight n g → IsKept n g
room_used n f g more room same names classes right =
    let most = room.counted in
    record {
      here = right;
      counted = omega (arith, same, names, most);
      few = λ several. let most : f.count ≤ MOST_KEPT = room.few (omega (arith, several, classes)) in omega (arith, same, most);
    }

pub room_counted : (n : Space) (f : FlatNames) (more all : ℕ) → f.count + more ≡ all → all ≤ MOST_KEPT → IsKept n f → HasRoom more (record f { count = all })
room_counted n f more all sum most h = let before = h.counted in record { counted = omega (arith, sum, before); few = λ some. most }

pub kept_counted : (n : Space) (f : FlatNames) (more all : ℕ) → f.count + more ≡ all → all ≤ MOST_KEPT → IsKept n f → IsKept n (record f { count = all })
kept_counted n f more all sum most h = let before = h.counted in record { here = h.here; counted = omega (arith, sum, before); few = λ some. most }

pub room_emptied : (more : ℕ) (f : FlatNames) → f.kept.entries ≡ [] → f.count ≡ more → HasRoom more f
room_emptied more f e same =
    let names : names_in f.kept.entries ≡ 0 = ap names_in e in
    let classes : length f.kept.entries ≡ 0 = ap length e in
    record { counted = omega (arith, names, same); few = λ some. absurd (omega (arith, classes, some)) }

pub kept_emptied : (n : Space) (f : FlatNames) → f.kept.entries ≡ [] → IsKept n f
kept_emptied n f e =
    let names : names_in f.kept.entries ≡ 0 = ap names_in e in
    let classes : length f.kept.entries ≡ 0 = ap length e in
    record { here = λ k. of_same k [] f.kept.entries _ e tt; counted = omega (arith, names); few = λ several. absurd (omega (arith, classes, several)) }

-- whichever object variables have an object
pub kept_made : (m n : Space) (made : List ℕ) (f : FlatNames) → m ≡ with_made n made → IsKept n f → IsKept m f
kept_made m n made f e h = subst (λ (n : Space). IsKept n f) (sym e) (record { here = h.here; counted = h.counted; few = h.few })

pub kept_behind : (m n : Space) (made : List ℕ) (f : FlatNames) → m ≡ with_made n made → IsKept m f → IsKept n f
kept_behind m n made f e h = let there : IsKept (with_made n made) f = subst (λ (n : Space). IsKept n f) e h in record { here = there.here; counted = there.counted; few = there.few }
