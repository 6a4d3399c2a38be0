-- What the pass needs of each form, by its parts.
use Rattle.std.proofs.Common.{◌≡◌, ◌<◌, ◌+◌, ℕ, Bool, true, false, if◌then◌else◌, List, [], ◌∷◌, ◌++◌, map, length, drop, get_or, Option, None, Some, option_map, Result, Ok, Err, IfOk, refl, sym, ap, ◌∙◌}
use Rattle.std.proofs.lemmas.List.{map-append, at_drop_more}
use Rattle.std.specs.List.{list_any, slice_get}
use Rattle.svr_typed.specs.ClassTerm.{BlockTerm}
use Rattle.svr_tree.specs.ItemTree.{ItemTrees}
use Rattle.svr_tree.specs.DeclTree as decl
use Rattle.svr_tree.specs.DeclTree.{BlockTree, ClassTree, ClassItemTree}
use Rattle.svr_elab_fault.specs.declared.Fault.{Fault}
use Rattle.svr_elab_fault.specs.Refusals.{first_one, earlier}
use Rattle.svr_elab_fault.proofs.Least.{earlier_assoc}
use Rattle.svr_elab_names.specs.declared.Region.TheVariants as region
use Rattle.svr_elab_names.specs.Names.{Space, is_same}
use Rattle.svr_elab_part.specs.Shapes.{and_more}
use Rattle.svr_elab_order.specs.declared.Order.{Order}
use Rattle.svr_elab_order.specs.Cycles.{cycles}
use Rattle.svr_elab_item.specs.declared.Around.{Around}
use Rattle.svr_elab_item.specs.Items.{ItemsElab, items, no_items, outside}
use Rattle.svr_elab_block.specs.Blocks as spec
use Rattle.svr_elab_block.specs.Blocks.{BodyElab, BodiesElab}
use Rattle.svr_elab_block.specs.Chain.{inherited, and_class, with_class}

-- what is made is so by what is told of it
pub told : {A E : Type 0} {P Q : A → Type 0} (r : Result A E) → IfOk r P → ((x : A) → P x → Q x) → IfOk r Q
told (Ok x) p f = f x p
told (Err e) p f = tt

-- one more behind a list, seen as what the elements stand for
pub more_seen : {A B : Type 0} (f : A → B) (xs : Option (List A)) (x : Option A) → option_map (map f) (and_more xs x) ≡ and_more (option_map (map f) xs) (option_map f x)
more_seen f None x = refl
more_seen f (Some xs) None = refl
more_seen f (Some xs) (Some x) = ap Some (map-append f xs (x ∷ []))

-- the first of what is left of a list
pub rest_is : {A B : Type 0} (f : A → B) (xs : List A) (i : ℕ) (x : A) → i < length xs → x ≡ get_or xs i x → map f (drop i xs) ≡ f x ∷ map f (drop (i + 1) xs)
rest_is {A = A} f xs i x h e = at_drop_more (map f) xs i x h ∙ ap (λ (x : A). f x ∷ map f (drop (i + 1) xs)) (sym e)

-- one more item of a class
pub items_more : (n : Space) (b d whole : BodyElab (Option Fault)) (t : ClassItemTree) (ts : List ClassItemTree)
    → d ≡ spec.body_item first_one n b t → spec.body_items first_one n b (t ∷ ts) ≡ whole → spec.body_items first_one n d ts ≡ whole
items_more n b d whole t ts e k = ap (λ (d : BodyElab (Option Fault)). spec.body_items first_one n d ts) e ∙ k

abbrev chosen : Space → BodyElab (Option Fault) → BlockTree → ItemsElab (Option Fault) → Bool → BodyElab (Option Fault)
chosen n b k e there = if there then spec.with_faults first_one b e.faults else spec.with_block first_one b (n.text k.name) (spec.orders n k.name b.orders k.items) e

abbrev known : Space → Around → BlockTree → ItemsElab (Option Fault)
known n a k = items first_one n a (no_items first_one) k.items

among : (n : Space) (b : BodyElab (Option Fault)) (k : BlockTree) (q : List ℕ) (t u : Bool)
    → q ≡ n.text k.name → t ≡ list_any (is_same q) b.own → t ≡ u → u ≡ list_any (is_same (n.text k.name)) b.own
among n b k q t u p h y = sym y ∙ h ∙ ap (λ (q : List ℕ). list_any (is_same q) b.own) p

-- a block whose name an earlier declaration has
pub again_is : (n : Space) (a : Around) (b r : BodyElab (Option Fault)) (k : BlockTree) (e : ItemsElab (Option Fault)) (is : ItemTrees) (q : List ℕ) (t : Bool)
    → q ≡ n.text k.name → t ≡ list_any (is_same q) b.own → t ≡ true → e ≡ items first_one n a (no_items first_one) is → is ≡ k.items → a ≡ outside
    → r ≡ spec.with_faults first_one b e.faults → r ≡ spec.body_item first_one n b (decl.block k)
again_is n a b r k e is q t p h y i l j w =
    w ∙ ap (λ (e : ItemsElab (Option Fault)). chosen n b k e true) (i ∙ ap (λ (is : ItemTrees). items first_one n a (no_items first_one) is) l ∙ ap (λ (a : Around). known n a k) j)
    ∙ ap (chosen n b k (known n outside k)) (among n b k q t true p h y)

-- another block
pub stands_is : (n : Space) (a : Around) (b r : BodyElab (Option Fault)) (k : BlockTree) (e : ItemsElab (Option Fault)) (is : ItemTrees) (q : List ℕ) (t : Bool)
    → q ≡ n.text k.name → t ≡ list_any (is_same q) b.own → t ≡ false → e ≡ items first_one n a (no_items first_one) is → is ≡ k.items → a ≡ outside
    → r ≡ spec.with_block first_one b (n.text k.name) (spec.orders n k.name b.orders k.items) e → r ≡ spec.body_item first_one n b (decl.block k)
stands_is n a b r k e is q t p h y i l j w =
    w ∙ ap (λ (e : ItemsElab (Option Fault)). chosen n b k e false) (i ∙ ap (λ (is : ItemTrees). items first_one n a (no_items first_one) is) l ∙ ap (λ (a : Around). known n a k) j)
    ∙ ap (chosen n b k (known n outside k)) (among n b k q t false p h y)

-- one more block
pub block_is : (n : Space) (k : ℕ) (b : BodyElab (Option Fault)) (e : ItemsElab (Option Fault)) (q r : List ℕ) (is js : ItemTrees) (own named : List (List ℕ)) (bs : Option (List BlockTerm)) (os : List Order) (f : Option Fault)
    → q ≡ r → own ≡ spec.and_name b.own q → named ≡ spec.and_name b.named q → bs ≡ and_more b.blocks (spec.block_term q e.trees) → os ≡ spec.orders n k b.orders is → is ≡ js → f ≡ earlier b.faults e.faults
    → (let s : BodyElab (Option Fault) = record { own = own; named = named; blocks = bs; orders = os; faults = f } in s) ≡ spec.with_block first_one b r (spec.orders n k b.orders js) e
block_is n k b e q r is js own named bs os f is_q is_own is_named is_bs is_os is_is is_f = rw (is_f, is_os, is_is, is_bs, is_named, is_own, is_q) refl

-- the blocks of one more class, and what it orders
pub known_is : (s : BodiesElab (Option Fault)) (blocks : Option (List BlockTerm)) (orders : List Order) (fault : Option Fault) (bs : Option (List (List BlockTerm))) (os : List (List Order))
    → bs ≡ and_more s.blocks blocks → os ≡ s.orders ++ orders ∷ [] → (let r : BodiesElab (Option Fault) = record { blocks = bs; orders = os; faults = fault } in r) ≡ and_class s blocks orders fault
known_is s blocks orders fault bs os is_bs is_os = rw (is_os, is_bs) refl

-- that is the class with the refusal that its own items have
pub body_is : (text : ℕ → List ℕ) (s r : BodiesElab (Option Fault)) (base : Option ℕ) (b : BodyElab (Option Fault)) (orders : List Order) (before cycle fault : Option Fault)
    → r ≡ and_class s b.blocks orders fault → orders ≡ inherited text s.orders base b.named ++ b.orders → before ≡ earlier s.faults b.faults → fault ≡ earlier before cycle
    → earlier before cycle ≡ earlier before (cycles first_one (inherited text s.orders base b.named) b.orders) → r ≡ with_class text s base b
body_is text s r base b orders before cycle fault h is_orders is_before is_fault is_cycle =
    let refused : Option Fault = cycles first_one (inherited text s.orders base b.named) b.orders in
    let faults : fault ≡ earlier s.faults (earlier b.faults refused) =
    is_fault ∙ is_cycle ∙ ap (λ (f : Option Fault). earlier f refused) is_before ∙ earlier_assoc s.faults b.faults refused in
    h ∙ ap (λ (os : List Order). and_class s b.blocks os fault) is_orders ∙ ap (and_class s b.blocks (inherited text s.orders base b.named ++ b.orders)) faults

pub class_is : (n i : Space) (k : ℕ) (c : ClassTree) (s r : BodiesElab (Option Fault)) (b : BodyElab (Option Fault)) (base : Option ℕ)
    → r ≡ with_class n.text s base b → base ≡ spec.base_of (slice_get n.classes k) → b ≡ spec.body_items first_one i (spec.no_body first_one) c.items → i ≡ spec.in_class n region.Block k
    → r ≡ spec.with_class first_one n s k (spec.body first_one n k c)
class_is n i k c s r b base h p q e =
    h ∙ ap (λ (o : Option ℕ). with_class n.text s o b) p
    ∙ ap (λ (b : BodyElab (Option Fault)). spec.and_body first_one s (spec.inherited first_one n s k b) b)
    (q ∙ ap (λ (i : Space). spec.body_items first_one i (spec.no_body first_one) c.items) e)

pub line_is : (n i : Space) (a : Around) (k : ℕ) (r : ItemsElab (Option Fault)) (is : ItemTrees)
    → r ≡ items first_one i a (no_items first_one) is → a ≡ outside → i ≡ spec.in_class n region.InLine k → r ≡ spec.in_line first_one n k is
line_is n i a k r is h p e =
    h ∙ ap (λ (a : Around). items first_one i a (no_items first_one) is) p ∙ ap (λ (i : Space). items first_one i outside (no_items first_one) is) e
