-- The three truths that refusals ask for are three such kinds.
use Rattle.std.proofs.Common.{◌≡◌, Bool, true, false, ◌||◌, List, [], ◌∷◌, Option, None, Some, refl, sym, ◌∙◌}
use Rattle.std.specs.Prelude.{⊤, MatchOption}
use Rattle.svr_typed.specs.declared.Prop.{Prop}
use Rattle.svr_typed.specs.ExprTerm.{ExprTerm}
use Rattle.svr_tree.specs.ExprTree.{ExprTree}
use Rattle.svr_design.specs.Mentions.{can_be_random, is_cyclic_one, never}
use Rattle.svr_elab_fault.specs.declared.Fault.{Fault}
use Rattle.svr_elab_fault.specs.Refusals.{first_one}
use Rattle.svr_elab_names.specs.declared.Property.{Property}
use Rattle.svr_elab_names.specs.Names.{Space, PropName, Loop}
use Rattle.svr_elab_part.specs.declared.part.Reads.{Reads}
use Rattle.svr_elab_part.specs.Fits.{Each}
use Rattle.svr_elab_part.specs.Elab.{Elab, value}
use Rattle.svr_elab_part.specs.Shapes.{is_open, and_reads}
use Rattle.svr_elab_part.proofs.Looked.{OptionIs}
use Rattle.svr_elab_reads_laws.specs.Reads.{IsDeclared, ItemDeclared, InConstraint, Mentions, AcceptedMentions}
use Rattle.svr_elab_reads_laws.proofs.Found.{PlaceIs}
use Rattle.svr_elab_reads_laws.proofs.Told.{IsTold, Agrees, reads_told}

-- the values and the sizes of two, in either order
four : (a b c d : Bool) → ((a || b) || (c || d)) ≡ ((a || c) || (b || d))
four true b c d = refl
four false true true d = refl
four false true false d = refl
four false false c d = refl

open_join : (x y : Reads) → (is_open x || is_open y) ≡ is_open (and_reads x y)
open_join x y = four x.random x.sized y.random y.sized

or_none : (a : Bool) → (a || false) ≡ a
or_none true = refl
or_none false = refl

each_is : {A : Type 0} (P Q : A → Type 0) (xs : List A) → ((x : A) → P x → Q x) → Each P xs → Each Q xs
each_is P Q [] f h = tt
each_is P Q (x ∷ xs) f h = (f x h.0, each_is P Q xs f h.1)

module _ (ps : List Prop) (R : Property → Type 0) (each : (p : Property) → IsDeclared ps p → R p) where
  item_is : (p : Option Property) → ItemDeclared ps p → OptionIs R p
  item_is None h = tt
  item_is (Some p) h = each p h

  place_is : (n : Space) → InConstraint ps n → PlaceIs R n
  place_is n m = record {
    region = m.region;
    props = each_is (λ (p : PropName). IsDeclared ps p.property) (λ (p : PropName). R p.property) n.props (λ p h. each p.property h) m.props;
    later = m.later;
    loops = each_is (λ (l : Loop). ItemDeclared ps l.item) (λ (l : Loop). OptionIs R l.item) n.loops (λ l h. item_is l.item h) m.loops;
  }

-- values that can be random
abbrev reads_random : Reads → Bool
reads_random r = r.random

-- anything cyclic
abbrev reads_cyclic : Reads → Bool
reads_cyclic r = r.cyclic

module _ (ps : List Prop) (n : Space) (e : ExprTree) (m : InConstraint ps n) (f : (value first_one n e).faults ≡ None) where
  random_told : Agrees (can_be_random ps) never reads_random refl (λ x y. refl) (λ x. refl) (value first_one n e).tree (value first_one n e).reads.random
  random_told =
      reads_told (can_be_random ps) never reads_random refl (λ x y. refl) (λ x. refl) n
      (place_is ps (IsTold (can_be_random ps) never reads_random refl (λ x y. refl) (λ x. refl)) (λ p h. (h.0, refl)) n m) e f

  open_told : Agrees (can_be_random ps) (can_be_random ps) is_open refl open_join (λ x. refl) (value first_one n e).tree (is_open (value first_one n e).reads)
  open_told =
      reads_told (can_be_random ps) (can_be_random ps) is_open refl open_join (λ x. refl) n
      (place_is ps (IsTold (can_be_random ps) (can_be_random ps) is_open refl open_join (λ x. refl)) (λ p h. (h.0 ∙ sym (or_none p.random), h.0)) n m) e f

  cyclic_told : Agrees (is_cyclic_one ps) (is_cyclic_one ps) reads_cyclic refl (λ x y. refl) (λ x. refl) (value first_one n e).tree (value first_one n e).reads.cyclic
  cyclic_told =
      reads_told (is_cyclic_one ps) (is_cyclic_one ps) reads_cyclic refl (λ x y. refl) (λ x. refl) n
      (place_is ps (IsTold (is_cyclic_one ps) (is_cyclic_one ps) reads_cyclic refl (λ x y. refl) (λ x. refl)) (λ p h. (h.1, h.1)) n m) e f

joined : (ps : List Prop) (t : Option ExprTerm) (r : Reads)
    → Agrees (can_be_random ps) never reads_random refl (λ x y. refl) (λ x. refl) t r.random
    → Agrees (can_be_random ps) (can_be_random ps) is_open refl open_join (λ x. refl) t (is_open r)
    → Agrees (is_cyclic_one ps) (is_cyclic_one ps) reads_cyclic refl (λ x y. refl) (λ x. refl) t r.cyclic
    → MatchOption t ⊤ (λ t. Mentions ps t r)
joined ps None r a b c = tt
joined ps (Some t) r a b c = record { random = a; opened = b; cyclic = c }

pub accepted_mentions : AcceptedMentions
accepted_mentions ps n e m f =
    let v : Elab (Option Fault) = value first_one n e in
    joined ps v.tree v.reads (random_told ps n e m f) (open_told ps n e m f) (cyclic_told ps n e m f)
