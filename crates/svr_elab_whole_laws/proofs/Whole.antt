-- The design of a script in which nothing is refused: it is there, and its constraints stand in it.
use Rattle.std.proofs.Common.{◌≡◌, ◌≤◌, ◌+◌, ℕ, max, false, true, List, [], ◌∷◌, map, Option, None, Some, refl, sym, ap, subst, ◌∙◌, arith}
use Rattle.std.specs.Prelude.{⊤, slice_get, MatchOption}
use Rattle.svr_limits.specs.declared.limit.TheConstants.{HEIGHT_LIMIT}
use Rattle.svr_tree.specs.DeclTree.{ClassTree}
use Rattle.svr_tree.specs.DeclGrammar.{typedef_height, class_height, greatest}
use Rattle.svr_tree.specs.ScriptTree.{ScriptTree}
use Rattle.svr_tree.specs.ScriptGrammar.{unit_height}
use Rattle.svr_typed.specs.declared.Prop.{Prop}
use Rattle.svr_typed.specs.ItemTerm.{items_of}
use Rattle.svr_typed.specs.StmtTerm.{DesignTerm}
use Rattle.svr_flat.specs.Flat.{flat_class_of}
use Rattle.svr_elab_names.specs.declared.Property.{Property}
use Rattle.svr_elab_names.specs.declared.Region.{Region}
use Rattle.svr_elab_names.specs.declared.Region.TheVariants as region
use Rattle.svr_elab_names.specs.Names.{Space, PropName, Loop, is_statement}
use Rattle.svr_elab_part.specs.Fits.{Each}
use Rattle.svr_elab_item.specs.Items.{items, no_items, outside}
use Rattle.svr_elab_target.specs.Named.{with_made, in_line_space}
use Rattle.svr_elab_block.specs.Blocks.{BodiesElab, in_class, bodies, no_bodies}
use Rattle.svr_elab_fault.specs.Refusals.{first_one, least}
use Rattle.svr_typed.specs.ClassTerm.{ClassTerm}
use Rattle.svr_elab_part.proofs.Valued.{none_left, none_right}
use Rattle.svr_elab_fault.specs.declared.Fault.{Fault}
use Rattle.svr_elab_type.specs.Types.{GlobalsElab}
use Rattle.svr_elab_unit.specs.Vars.{VarsElab}
use Rattle.svr_elab.specs.Script.{ScriptElab, faults_of, design_in, heads, unit_vars, script}
use Rattle.svr_elab.proofs.Shown.{kept}
use Rattle.svr_design.specs.Lawful.{IsLawful}
use Rattle.svr_elab_expr_laws.specs.Known.{IsKnown}
use Rattle.svr_elab_fit_laws.proofs.ReadScript.{read_script_fits}
use Rattle.svr_elab_item_laws.specs.Lawful as low
use Rattle.svr_elab_item_laws.specs.Lawful.{ThereIs}
use Rattle.svr_elab_item_laws.proofs.Trees.{accepted_items_have_trees}
use Rattle.svr_elab_item_laws.proofs.Whole.{accepted_items_are_lawful}
use Rattle.svr_elab_block_laws.specs.Lawful.{PlacesFrom}
use Rattle.svr_elab_block_laws.proofs.Blocks.{without_vars, class_blocks_stand}
use Rattle.svr_elab_lawful_laws.specs.There.{ItemsAreThere}
use Rattle.svr_elab_lawful_laws.specs.Places as high
use Rattle.svr_elab_lawful_laws.specs.Places.{names_of}
use Rattle.svr_elab_lawful_laws.specs.Walks.{SetsStand}
use Rattle.svr_elab_lawful_laws.specs.Together.{BlocksStand}
use Rattle.svr_elab_lawful_laws.proofs.There.{accepted_has_design}
use Rattle.svr_elab_lawful_laws.proofs.Places.{places_stand}
use Rattle.svr_elab_lawful_laws.proofs.Together.{blocks_are_those}
use Rattle.svr_elab_lawful_laws.proofs.Accepted.{accepted_is_lawful}
use Rattle.svr_elab_whole_laws.specs.Whole.{AcceptedHasADesign, AcceptedBlocksStand, AcceptedSetsStand, WhatIsAcceptedIsLawful, WhatIsReadAndAcceptedIsLawful}

false_true : false ≡ true → ⊥
false_true h = cc

-- ---- the design is there

no_loops : (ls : List Loop) → ls ≡ [] → Each (λ (l : Loop). l.item ≡ None) ls
no_loops ls e = let P : List Loop → Type 0 = Each (λ (l : Loop). l.item ≡ None) in subst P (sym e) tt

items_are_there : ItemsAreThere
items_are_there n is known r e f = accepted_items_have_trees n outside is (record { region = r; names = known; loops = no_loops n.loops e }) f

pub accepted_has_a_design : AcceptedHasADesign
accepted_has_a_design text s is f = accepted_has_design items_are_there text s is f

-- ---- places

each_as : {A : Type 0} (P R : A → Type 0) (xs : List A) → ((x : A) → P x → R x) → Each P xs → Each R xs
each_as P R [] f h = tt
each_as P R (x ∷ xs) f h = (f x h.0, each_as P R xs f h.1)

same_there : (p : Property) (q : Option Prop) → high.SameThere p q → low.SameThere p q
same_there p None h = absurd h
same_there p (Some q) h = record { rand = h.rand; fixed = h.fixed }

place_of : (d : DesignTerm) (k : ℕ) (n : Space) → high.IsPlace d k n → low.IsPlace (flat_class_of d.classes k).props d.vars 0 n
place_of d k n h = record {
  stands = h.stands;
  fits = h.fits;
  names = h.names;
  same = each_as (λ (p : PropName). high.SameThere p.property (slice_get (flat_class_of d.classes k).props p.property.number)) (λ (p : PropName). low.SameThere p.property (slice_get (flat_class_of d.classes k).props p.property.number))
      n.props (λ p e. same_there p.property (slice_get (flat_class_of d.classes k).props p.property.number) e) h.same;
  loops = no_loops n.loops h.loops;
}

abbrev Places : DesignTerm → Space → Type 0
Places d n = (r : Region) (k : ℕ) → is_statement r ≡ false → high.IsPlace d k (in_class n r k)

places_from : (d : DesignTerm) (n : Space) → Places d n → (k : ℕ) (cs : List ClassTree) → PlacesFrom (λ k. (flat_class_of d.classes k).props) n k cs
places_from d n h k [] = tt
places_from d n h k (c ∷ cs) = (without_vars (flat_class_of d.classes k).props d.vars n k (place_of d k (in_class n region.Block k) (h region.Block k refl)), places_from d n h (k + 1) cs)

-- ---- blocks

both : {A : Type 0} (P Q R : A → Type 0) (o : Option A) → ((x : A) → P x → Q x → R x) → MatchOption o ⊤ P → MatchOption o ⊤ Q → MatchOption o ⊤ R
both P Q R None f h k = tt
both P Q R (Some x) f h k = f x h k

through : {A : Type 0} (P R : A → Type 0) (o : Option A) → ((x : A) → P x → R x) → MatchOption o ⊤ P → MatchOption o ⊤ R
through P R None f h = tt
through P R (Some x) f h = f x h

-- nothing is refused in the blocks of a script in which nothing is refused
no_fault : (text : ℕ → List ℕ) (s : ScriptTree) → faults_of text s ≡ [] → (bodies first_one (names_of text s) (no_bodies first_one) 0 s.classes).faults ≡ None
no_fault text s f =
    let e : (script first_one text s).faults ≡ None = sym (ap (λ (x : ScriptElab (Option Fault)). x.faults) (kept text s)) ∙ ap least f in
    let h : GlobalsElab (Option Fault) = heads first_one text s in
    let v : VarsElab (Option Fault) = unit_vars first_one h.names s.unit in
    let b : BodiesElab (Option Fault) = bodies first_one (names_of text s) (no_bodies first_one) 0 s.classes in
    none_left b.faults _ (none_right v.faults _ (none_right h.faults _ e))

middle : (a b c m : ℕ) → max (max a b) c ≤ m → b ≤ m
middle a b c m h = omega (arith, h)

pub accepted_blocks_stand : AcceptedBlocksStand
accepted_blocks_stand text s w f =
    both (λ d. Places d (names_of text s)) (λ d. (bodies first_one (names_of text s) (no_bodies first_one) 0 s.classes).blocks ≡ Some (map (λ (c : ClassTerm). c.blocks) d.classes)) BlocksStand (design_in text s)
    (λ d p b. class_blocks_stand (λ k. (flat_class_of d.classes k).props) (names_of text s) s.classes d.classes (places_from d (names_of text s) p 0 s.classes)
    (w.levelled.classes, w.fits.bodies, middle (greatest (λ t. typedef_height t.definition) s.types) (greatest class_height s.classes) (unit_height s.unit) HEIGHT_LIMIT w.low) (no_fault text s f) b)
    (places_stand text s w.levelled f) (blocks_are_those text s w.levelled f)

-- ---- in-line sets

as_match : {A : Type 0} (P : A → Type 0) (x : Option A) → ThereIs P x → MatchOption x ⊤ P
as_match P None h = tt
as_match P (Some x) h = h

-- what has an object does not matter to constraints
made_place : (ps : List Prop) (d : DesignTerm) (n : Space) (made : List ℕ) (c : ℕ) → low.IsPlace ps d.vars 0 (in_class n region.InLine c) → low.IsPlace ps d.vars 0 (in_line_space (with_made n made) c)
made_place ps d n made c h = record {
  stands = record { region = h.stands.region; props = h.stands.props; later = h.stands.later; loops = h.stands.loops; around = h.stands.around; vars = h.stands.vars };
  fits = record { globals = h.fits.globals; props = h.fits.props; classes = h.fits.classes; loops = h.fits.loops; vars = h.fits.vars };
  names = record { globals = h.names.globals; props = h.names.props; classes = h.names.classes; later = h.names.later; loops = h.names.loops; vars = h.names.vars };
  same = h.same;
  loops = h.loops;
}

sets_stand : (d : DesignTerm) (n : Space) → Places d n → SetsStand d n
sets_stand d n p made c is g f =
    as_match (λ ts. low.AreLawful (flat_class_of d.classes c).props d.vars (items_of ts)) (items first_one (in_line_space (with_made n made) c) outside (no_items first_one) is).trees
    (accepted_items_are_lawful (flat_class_of d.classes c).props d.vars (in_line_space (with_made n made) c) is
    (made_place (flat_class_of d.classes c).props d n made c (place_of d c (in_class n region.InLine c) (p region.InLine c refl))) g.0 g.1 g.2 f)

pub accepted_sets_stand : AcceptedSetsStand
accepted_sets_stand text s is f =
    through (λ d. Places d (names_of text s)) (λ d. SetsStand d (names_of text s)) (design_in text s) (λ d p. sets_stand d (names_of text s) p) (places_stand text s is f)

-- ---- the whole

lawful_there : (P Q : DesignTerm → Type 0) (o : Option DesignTerm) → IsKnown o → MatchOption o ⊤ P → MatchOption o ⊤ Q → MatchOption o ⊤ (λ d. P d → Q d → IsLawful d) → ThereIs IsLawful o
lawful_there P Q None k p q h = absurd (false_true k)
lawful_there P Q (Some d) k p q h = h p q

pub what_is_accepted_is_lawful : WhatIsAcceptedIsLawful
what_is_accepted_is_lawful text s w f =
    lawful_there BlocksStand (λ d. SetsStand d (names_of text s)) (design_in text s) (accepted_has_a_design text s w.levelled f) (accepted_blocks_stand text s w f) (accepted_sets_stand text s w.levelled f)
    (accepted_is_lawful text s w.levelled w.low w.fits f)

pub what_is_read_and_accepted_is_lawful : WhatIsReadAndAcceptedIsLawful
what_is_read_and_accepted_is_lawful source tokens text s h f =
    what_is_accepted_is_lawful text s (record { levelled = h.reading.levelled; low = h.reading.low; fits = read_script_fits source tokens s h }) f
