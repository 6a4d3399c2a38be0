-- What is accepted among constraint blocks and in-line sets is lawful.
use Rattle.std.proofs.Common.{◌≡◌, ◌≤◌, ◌+◌, ℕ, max, Bool, true, false, if◌then◌else◌, List, [], ◌∷◌, ◌++◌, length, map, Option, None, Some, refl, subst, arith}
use Rattle.std.specs.Prelude.{⊤}
use Rattle.std.specs.List.{list_any}
use Rattle.svr_limits.specs.declared.limit.TheConstants.{HEIGHT_LIMIT}
use Rattle.svr_tree.specs.ItemTree as tree
use Rattle.svr_tree.specs.ItemTree.{ItemTree, ItemTrees}
use Rattle.svr_tree.specs.ItemGrammar.{IsItem, IsBlockItem, AreItems, AreBlockItems, items_height}
use Rattle.svr_tree.specs.DeclTree as decl
use Rattle.svr_tree.specs.DeclTree.{BlockTree, ClassItemTree, ClassTree}
use Rattle.svr_tree.specs.DeclGrammar.{IsClassItem, greatest, class_item_height, class_height}
use Rattle.svr_tree.specs.Tokens.{Each}
use Rattle.svr_typed.specs.declared.Prop.{Prop}
use Rattle.svr_typed.specs.ItemTerm.{ItemTerm, items_of}
use Rattle.svr_typed.specs.declared.TVar.{TVar}
use Rattle.svr_typed.specs.ClassTerm.{BlockTerm, ClassTerm}
use Rattle.svr_design.specs.Lawful.{EachFrom, Every, BlockStands}
use Rattle.svr_elab_fault.specs.declared.Fault.{Fault}
use Rattle.svr_elab_fault.specs.Refusals.{first_one}
use Rattle.svr_elab_names.specs.declared.Region.TheVariants as region
use Rattle.svr_elab_names.specs.Names.{Space, is_same}
use Rattle.svr_elab_part.specs.Shapes.{and_more}
use Rattle.svr_elab_part.proofs.Valued.{none_left, none_right}
use Rattle.svr_elab_part.proofs.Looked.{OptionIs}
use Rattle.svr_elab_expr_laws.specs.Known.{IsKnown}
use Rattle.svr_elab_item.specs.Fits.{ItemsFit}
use Rattle.svr_elab_item.specs.Items.{ItemsElab, items, no_items, outside}
use Rattle.svr_elab_item_laws.specs.Lawful.{ThereIs, IsNamed, IsPlace, AreLawful}
use Rattle.svr_elab_item_laws.proofs.Trees.{known_map, known_more, accepted_items_have_trees}
use Rattle.svr_elab_item_laws.proofs.Whole.{accepted_items_are_lawful}
use Rattle.svr_elab_block.specs.Fits.{BodyFits}
use Rattle.svr_elab_block.specs.Blocks as spec
use Rattle.svr_elab_block.specs.Blocks.{BodyElab, BodiesElab, in_class, block_term}
use Rattle.svr_elab_block_laws.specs.Lawful.{AreRead, NamedFrom, PlacesFrom, AcceptedBlocksHaveTrees, BlocksStand, AcceptedBlocksAreLawful, AcceptedInLineIsLawful}

false_true : false ≡ true → ⊥
false_true h = cc

one_of : (P : BodyElab (Option Fault) → Type 0) (b : Bool) (x y : BodyElab (Option Fault)) → P x → P y → P (if b then x else y)
one_of P true x y h k = h
one_of P false x y h k = k

-- ---- blocks are there

abbrev BodyKnown : BodyElab (Option Fault) → Type 0
BodyKnown b = b.faults ≡ None → IsKnown b.blocks

block_known : (n : Space) → IsNamed n → (b : BodyElab (Option Fault)) (k : BlockTree) → BodyKnown b → BodyKnown (spec.and_block first_one n b k (items first_one n outside (no_items first_one) k.items))
block_known n m b k h =
    let e : ItemsElab (Option Fault) = items first_one n outside (no_items first_one) k.items in
    one_of BodyKnown (list_any (is_same (n.text k.name)) b.own) (spec.with_faults first_one b e.faults) (spec.with_block first_one b (n.text k.name) (spec.orders n k.name b.orders k.items) e) (λ f. h (none_left b.faults e.faults f))
    (λ f. known_more b.blocks (block_term (n.text k.name) e.trees) (h (none_left b.faults e.faults f)) (known_map _ e.trees (accepted_items_have_trees n outside k.items m (none_right b.faults e.faults f))))

body_known : (n : Space) → IsNamed n → (is : List ClassItemTree) (b : BodyElab (Option Fault)) → BodyKnown b → BodyKnown (spec.body_items first_one n b is)
body_known n m [] b h = h
body_known n m (decl.property p ∷ is) b h = body_known n m is (spec.body_item first_one n b (decl.property p)) h
body_known n m (decl.block k ∷ is) b h = body_known n m is (spec.body_item first_one n b (decl.block k)) (block_known n m b k h)

bodies_known : (n : Space) (k : ℕ) (cs : List ClassTree) → NamedFrom n k cs → (s : BodiesElab (Option Fault)) → (s.faults ≡ None → IsKnown s.blocks)
    → (spec.bodies first_one n s k cs).faults ≡ None → IsKnown (spec.bodies first_one n s k cs).blocks
bodies_known n k [] m s h f = h f
bodies_known n k (c ∷ cs) m s h f =
    let b : BodyElab (Option Fault) = spec.body first_one n k c in
    bodies_known n (k + 1) cs m.1 (spec.with_class first_one n s k b)
    (λ g. known_more s.blocks b.blocks (h (none_left s.faults _ g)) (body_known (in_class n region.Block k) m.0 c.items (spec.no_body first_one) (λ e. refl) (none_left b.faults _ (none_right s.faults _ g)))) f

pub accepted_blocks_have_trees : AcceptedBlocksHaveTrees
accepted_blocks_have_trees n cs m f = bodies_known n 0 cs m (spec.no_bodies first_one) (λ e. refl) f

-- ---- lists

every_more : {A : Type 0} (P : A → Type 0) (xs : List A) (x : A) → Every P xs → P x → Every P (xs ++ x ∷ [])
every_more P [] x h k = (k, tt)
every_more P (y ∷ xs) x h k = (h.0, every_more P xs x h.1 k)

no_more : {A : Type 0} (j : ℕ) (P : ℕ → A → Type 0) (x : A) → P (j + 0) x → P j x
no_more {A = A} j P x h = let e : j + 0 ≡ j = omega arith in let R : ℕ → Type 0 = λ k. P k x in subst R e h

one_on : {A : Type 0} (j : ℕ) (P : ℕ → A → Type 0) (y : A) (xs : List A) (x : A) → P (j + length (y ∷ xs)) x → P (j + 1 + length xs) x
one_on {A = A} j P y xs x h = let e : j + length (y ∷ xs) ≡ j + 1 + length xs = omega arith in let R : ℕ → Type 0 = λ k. P k x in subst R e h

each_more : {A : Type 0} (P : ℕ → A → Type 0) (j : ℕ) (xs : List A) (x : A) → EachFrom P j xs → P (j + length xs) x → EachFrom P j (xs ++ x ∷ [])
each_more P j [] x h k = (no_more j P x k, tt)
each_more P j (y ∷ xs) x h k = (h.0, each_more P (j + 1) xs x h.1 (one_on j P y xs x k))

one_longer : {A : Type 0} (xs : List A) (x : A) → length (xs ++ x ∷ []) ≡ length xs + 1
one_longer [] x = omega arith
one_longer (y ∷ xs) x = let e = one_longer xs x in omega (arith, e)

counted : {A : Type 0} (k : ℕ) (c : A) (cs : List A) → k + 1 + length cs ≡ k + length (c ∷ cs)
counted k c cs = omega arith

-- ---- what was read

-- the items of a block: literals fit, the grammar is met, and no item is higher than the limit
abbrev BlockIsRead : ClassItemTree → Type 0
BlockIsRead (decl.property p) = ⊤
BlockIsRead (decl.block b) = ItemsFit b.items × AreBlockItems b.items × (items_height b.items ≤ HEIGHT_LIMIT)

high_first : (a b m : ℕ) → max a b ≤ m → a ≤ m
high_first a b m h = omega (arith, h)

high_rest : (a b m : ℕ) → max a b ≤ m → b ≤ m
high_rest a b m h = omega (arith, h)

body_read : (is : List ClassItemTree) → Each IsClassItem is → BodyFits 0 is → greatest class_item_height is ≤ HEIGHT_LIMIT → Every BlockIsRead is
body_read [] g l b = tt
body_read (decl.property p ∷ is) g l b = (tt, body_read is g.1 l.1 (high_rest (class_item_height (decl.property p)) (greatest class_item_height is) HEIGHT_LIMIT b))
body_read (decl.block k ∷ is) g l b =
    ((l.0.0, g.0, high_first (items_height k.items) (greatest class_item_height is) HEIGHT_LIMIT b), body_read is g.1 l.1 (high_rest (items_height k.items) (greatest class_item_height is) HEIGHT_LIMIT b))

-- ---- the blocks of a class stand

abbrev BodyStands : List Prop → BodyElab (Option Fault) → Type 0
BodyStands props b = b.faults ≡ None → OptionIs (Every (BlockStands props)) b.blocks

and_block : (props : List Prop) (name : List ℕ) (bs : Option (List BlockTerm)) (ts : Option (List ItemTerm)) → OptionIs (Every (BlockStands props)) bs → ThereIs (λ ts. AreLawful props [] (items_of ts)) ts
    → OptionIs (Every (BlockStands props)) (and_more bs (block_term name ts))
and_block props name None ts h k = tt
and_block props name (Some bs) None h k = absurd k
and_block props name (Some bs) (Some ts) h k = every_more (BlockStands props) bs (record { name = name; items = items_of ts }) h k

block_stands : (props : List Prop) (n : Space) → IsPlace props [] 0 n → (b : BodyElab (Option Fault)) (k : BlockTree) → BlockIsRead (decl.block k) → BodyStands props b
    → BodyStands props (spec.and_block first_one n b k (items first_one n outside (no_items first_one) k.items))
block_stands props n m b k r h =
    let e : ItemsElab (Option Fault) = items first_one n outside (no_items first_one) k.items in
    one_of (BodyStands props) (list_any (is_same (n.text k.name)) b.own) (spec.with_faults first_one b e.faults) (spec.with_block first_one b (n.text k.name) (spec.orders n k.name b.orders k.items) e) (λ f. h (none_left b.faults e.faults f))
    (λ f. and_block props (n.text k.name) b.blocks e.trees (h (none_left b.faults e.faults f)) (accepted_items_are_lawful props [] n k.items m r.0 r.1 r.2 (none_right b.faults e.faults f)))

body_stands : (props : List Prop) (n : Space) → IsPlace props [] 0 n → (is : List ClassItemTree) → Every BlockIsRead is → (b : BodyElab (Option Fault)) → BodyStands props b → BodyStands props (spec.body_items first_one n b is)
body_stands props n m [] r b h = h
body_stands props n m (decl.property p ∷ is) r b h = body_stands props n m is r.1 (spec.body_item first_one n b (decl.property p)) h
body_stands props n m (decl.block k ∷ is) r b h = body_stands props n m is r.1 (spec.body_item first_one n b (decl.block k)) (block_stands props n m b k r.0 h)

module _ (props : ℕ → List Prop) where
  abbrev ClassStands : ℕ → List BlockTerm → Type 0
  ClassStands k bs = Every (BlockStands (props k)) bs

  -- of so many classes
  abbrev OfClasses : ℕ → List (List BlockTerm) → Type 0
  OfClasses k bs = EachFrom ClassStands 0 bs × (length bs ≡ k)

  and_class : (k : ℕ) (bs : Option (List (List BlockTerm))) (b : Option (List BlockTerm)) → OptionIs (OfClasses k) bs → OptionIs (ClassStands k) b → OptionIs (OfClasses (k + 1)) (and_more bs b)
  and_class k None b h l = tt
  and_class k (Some bs) None h l = tt
  and_class k (Some bs) (Some b) h l =
      let P : ℕ → Type 0 = λ k. ClassStands k b in
      let many = h.1 in
      let longer = one_longer bs b in
      let at : k ≡ 0 + length bs = omega (arith, many) in
      let all : length (bs ++ b ∷ []) ≡ k + 1 = omega (arith, many, longer) in
      (each_more ClassStands 0 bs b h.0 (subst P at l), all)

  bodies_stand : (n : Space) (k : ℕ) (cs : List ClassTree) → PlacesFrom props n k cs → AreRead cs → (s : BodiesElab (Option Fault)) → (s.faults ≡ None → OptionIs (OfClasses k) s.blocks)
      → (spec.bodies first_one n s k cs).faults ≡ None → OptionIs (OfClasses (k + length cs)) (spec.bodies first_one n s k cs).blocks
  bodies_stand n k [] m r s h f = let P : ℕ → Type 0 = λ k. OptionIs (OfClasses k) s.blocks in let e : k ≡ k + 0 = omega arith in subst P e (h f)
  bodies_stand n k (c ∷ cs) m r s h f =
      let b : BodyElab (Option Fault) = spec.body first_one n k c in
      let R : ℕ → Type 0 = λ j. OptionIs (OfClasses j) (spec.bodies first_one n (spec.with_class first_one n s k b) (k + 1) cs).blocks in
      subst R (counted k c cs)
      (bodies_stand n (k + 1) cs m.1 (r.0.1, r.1.1, high_rest (class_height c) (greatest class_height cs) HEIGHT_LIMIT r.2) (spec.with_class first_one n s k b)
      (λ g. and_class k s.blocks b.blocks (h (none_left s.faults _ g)) (body_stands (props k) (in_class n region.Block k) m.0 c.items (body_read c.items r.0.0 r.1.0 (high_first (class_height c) (greatest class_height cs) HEIGHT_LIMIT r.2)) (spec.no_body first_one) (λ e. tt) (none_left b.faults _ (none_right s.faults _ g)))) f)

there : {A : Type 0} (P R : A → Type 0) (x : Option A) → ((x : A) → P x → R x) → IsKnown x → OptionIs P x → ThereIs R x
there P R None f k h = absurd (false_true k)
there P R (Some x) f k h = f x h

named_places : (props : ℕ → List Prop) (n : Space) (k : ℕ) (cs : List ClassTree) → PlacesFrom props n k cs → NamedFrom n k cs
named_places props n k [] m = tt
named_places props n k (c ∷ cs) m = (record { region = m.0.stands.region; names = m.0.names; loops = m.0.loops }, named_places props n (k + 1) cs m.1)

pub accepted_blocks_are_lawful : AcceptedBlocksAreLawful
accepted_blocks_are_lawful props n cs m r f =
    there (OfClasses props (0 + length cs)) (λ bs. BlocksStand props bs × (length bs ≡ length cs)) (spec.bodies first_one n (spec.no_bodies first_one) 0 cs).blocks
    (λ bs h. let many = h.1 in let e : length bs ≡ length cs = omega (arith, many) in (h.0, e)) (accepted_blocks_have_trees n cs (named_places props n 0 cs m) f)
    (bodies_stand props n 0 cs m r (spec.no_bodies first_one) (λ e. (tt, refl)) f)

-- ---- in-line sets

in_block : (i : ItemTree) → IsItem i → IsBlockItem i
in_block (tree.plain at soft e d) h = h
in_block (tree.unique at es) h = h
in_block (tree.implies at t s) h = h
in_block (tree.branch at t met unmet) h = h
in_block (tree.foreach at x vs s) h = h
in_block (tree.disable at x) h = h
in_block (tree.solve at xs ys) h = absurd h

items_in_block : (is : ItemTrees) → AreItems is → AreBlockItems is
items_in_block tree.no_items h = tt
items_in_block (tree.more_items i is) h = (in_block i h.0, items_in_block is h.1)

pub accepted_in_line_is_lawful : AcceptedInLineIsLawful
accepted_in_line_is_lawful ps vs n k is m l q b f = accepted_items_are_lawful ps vs (in_class n region.InLine k) is m l (items_in_block is q) b f

-- ---- for whoever has a design

-- in a block no script variable can be named
pub without_vars : (ps : List Prop) (vs : List TVar) (n : Space) (k : ℕ) → IsPlace ps vs 0 (in_class n region.Block k) → IsPlace ps [] 0 (in_class n region.Block k)
without_vars ps vs n k m = record {
  stands = record { region = m.stands.region; props = m.stands.props; later = m.stands.later; loops = m.stands.loops; around = m.stands.around; vars = λ e. absurd (false_true e) };
  fits = m.fits;
  names = m.names;
  same = m.same;
  loops = m.loops;
}

of_classes : (props : ℕ → List Prop) (k : ℕ) (ds : List ClassTerm) → EachFrom (λ k bs. Every (BlockStands (props k)) bs) k (map (λ (c : ClassTerm). c.blocks) ds) → EachFrom (λ k (c : ClassTerm). Every (BlockStands (props k)) c.blocks) k ds
of_classes props k [] h = tt
of_classes props k (c ∷ ds) h = (h.0, of_classes props (k + 1) ds h.1)

-- the blocks that elaboration gives, where they are those of these classes
pub class_blocks_stand : (props : ℕ → List Prop) (n : Space) (cs : List ClassTree) (ds : List ClassTerm) → PlacesFrom props n 0 cs → AreRead cs → (spec.bodies first_one n (spec.no_bodies first_one) 0 cs).faults ≡ None
    → (spec.bodies first_one n (spec.no_bodies first_one) 0 cs).blocks ≡ Some (map (λ (c : ClassTerm). c.blocks) ds) → EachFrom (λ k (c : ClassTerm). Every (BlockStands (props k)) c.blocks) 0 ds
class_blocks_stand props n cs ds m r f e =
    let P : Option (List (List BlockTerm)) → Type 0 = ThereIs (λ bs. BlocksStand props bs × (length bs ≡ length cs)) in of_classes props 0 ds (subst P e (accepted_blocks_are_lawful props n cs m r f)).0
