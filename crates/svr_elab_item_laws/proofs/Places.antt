-- Places in the constraints of a design, and what is known there of an expression in which nothing is refused.
use Rattle.std.proofs.Common.{◌≡◌, ◌≤◌, ◌+◌, ℕ, false, List, [], ◌∷◌, length, Option, None, Some, refl, sym, subst, ◌∙◌, arith}
use Rattle.std.specs.Prelude.{⊤, slice_get, MatchOption}
use Rattle.svr_limits.specs.declared.limit.TheConstants.{LOOP_LIMIT}
use Rattle.svr_tree.specs.ExprTree.{ExprTree}
use Rattle.svr_tree.specs.ExprGrammar.{expr_height}
use Rattle.svr_typed.specs.declared.Prop.{Prop}
use Rattle.svr_typed.specs.declared.TVar.{TVar}
use Rattle.svr_typed.specs.ExprTerm.{ExprTerm}
use Rattle.svr_eval.specs.Typed.{IsTyped}
use Rattle.svr_design.specs.Mentions.{is_random, can_of, cyclic_of}
use Rattle.svr_design.specs.Constraints.{Stands}
use Rattle.svr_elab_fault.specs.declared.Fault.{Fault}
use Rattle.svr_elab_fault.specs.Refusals.{first_one}
use Rattle.svr_elab_names.specs.declared.Vector.{Vector}
use Rattle.svr_elab_names.specs.declared.Property.{Property}
use Rattle.svr_elab_names.specs.Names.{Space, PropName, Loop, in_loop}
use Rattle.svr_elab_part.specs.declared.part.Shape.{Shape}
use Rattle.svr_elab_part.specs.declared.part.Reads.{Reads}
use Rattle.svr_elab_part.specs.Fits.{Each, PropertyFits, LiteralsFit}
use Rattle.svr_elab_part.specs.Elab as expr
use Rattle.svr_elab_part.specs.Elab.{Elab}
use Rattle.svr_elab_part.specs.Shapes.{is_randc}
use Rattle.svr_elab_part.proofs.Typed.{shape_of}
use Rattle.svr_elab_part.proofs.Looked.{OptionIs}
use Rattle.svr_elab_expr_laws.proofs.Ready.{accepted_is_typed}
use Rattle.svr_elab_reads_laws.specs.Reads.{IsDeclared, ItemDeclared, InConstraint, Mentions}
use Rattle.svr_elab_reads_laws.proofs.Three.{accepted_mentions}
use Rattle.svr_elab_stand_laws.specs.Stand.{There, IsDesigned}
use Rattle.svr_elab_stand_laws.proofs.Found.{ItemIs, PlaceIs}
use Rattle.svr_elab_stand_laws.proofs.Whole.{accepted_stands}
use Rattle.svr_elab_item.specs.Items.{in_body}
use Rattle.svr_elab_item_laws.specs.Lawful.{SameThere, IsPlace, IsNamed}
use Rattle.svr_elab_item_laws.proofs.Roots.{Rooted}
use Rattle.svr_elab_item_laws.proofs.Rooting.{any_variable, rooted_sole}
use Rattle.svr_elab_item_laws.proofs.Trees.{each_as, any_vars, no_item}

one_deeper : {A : Type 0} (x : A) (xs : List A) (d : ℕ) → length xs ≡ d → length (x ∷ xs) ≡ d + 1
one_deeper x xs d h = omega (arith, h)

each_of : {A : Type 0} (P Q R S : A → Type 0) (xs : List A) → ((x : A) → P x → Q x → R x → S x) → Each P xs → Each Q xs → Each R xs → Each S xs
each_of P Q R S [] f h k l = tt
each_of P Q R S (x ∷ xs) f h k l = (f x h.0 k.0 l.0, each_of P Q R S xs f h.1 k.1 l.1)

none_around : (depth : ℕ) → depth ≡ depth + 0
none_around depth = omega arith

one_around : {A : Type 0} (depth : ℕ) (v : A) (vs : List A) → depth + 1 + length vs ≡ depth + length (v ∷ vs)
one_around depth v vs = omega arith

declared_of : (p : Property) (kind : Option Vector) (q : Option Prop) → There p kind q → (can_of q ≡ p.random) × (cyclic_of q ≡ is_randc p.rand)
declared_of p None q h = absurd h
declared_of p (Some k) None h = absurd h
declared_of p (Some k) (Some q) h = (h.random, h.cyclic)

pub place_named : (ps : List Prop) (vs : List TVar) (depth : ℕ) (n : Space) → IsPlace ps vs depth n → IsNamed n
place_named ps vs depth n m = record { region = m.stands.region; names = m.names; loops = m.loops }

module _ (ps : List Prop) (vs : List TVar) where
  -- what is known of each property that can be named
  abbrev pub Here : Property → Type 0
  Here p = There p p.kind (slice_get ps p.number) × PropertyFits p × SameThere p (slice_get ps p.number)

  -- an index that mentions nothing that can be random
  abbrev pub Fixed : ExprTerm → Type 0
  Fixed t = is_random ps t ≡ false

  pub declared : (p : Property) → Here p → IsDeclared ps p
  declared p h = declared_of p p.kind (slice_get ps p.number) h.0

  in_place : (depth : ℕ) (n : Space) → IsPlace ps vs depth n → PlaceIs Here any_variable depth n
  in_place depth n m = record {
    region = m.stands.region;
    props = each_of (λ (p : PropName). IsDesigned ps p.property) (λ (p : PropName). PropertyFits p.property) (λ (p : PropName). SameThere p.property (slice_get ps p.property.number)) (λ (p : PropName). Here p.property)
        n.props (λ p a b c. (a, b, c)) m.stands.props m.fits.props m.same;
    later = m.names.later;
    loops = each_as (λ (l : Loop). l.item ≡ None) (λ (l : Loop). ItemIs Here any_variable depth l.item) n.loops (λ l e. no_item depth Here l.item e) m.loops;
    around = m.stands.around;
    vars = λ e. any_vars depth Here 0 n.vars;
  }

  none_declared : (i : Option Property) → i ≡ None → ItemDeclared ps i
  none_declared i e = let P : Option Property → Type 0 = λ i. ItemDeclared ps i in subst P (sym e) tt

  in_constraint : (depth : ℕ) (n : Space) → IsPlace ps vs depth n → InConstraint ps n
  in_constraint depth n m = record {
    region = m.stands.region;
    props = each_as (λ (p : PropName). IsDesigned ps p.property) (λ (p : PropName). IsDeclared ps p.property) n.props (λ p h. declared_of p.property p.property.kind (slice_get ps p.property.number) h) m.stands.props;
    later = m.names.later;
    loops = each_as (λ (l : Loop). l.item ≡ None) (λ (l : Loop). ItemDeclared ps l.item) n.loops (λ l e. none_declared l.item e) m.loops;
  }

  -- ---- inside of loops

  place_loop : (depth : ℕ) (n : Space) (v : ℕ) → IsPlace ps vs depth n → IsPlace ps vs (depth + 1) (in_loop n v)
  place_loop depth n v m =
      let l : Loop = record { name = n.text v; item = None } in
      record {
        stands = record { region = m.stands.region; props = m.stands.props; later = m.stands.later; loops = (tt, m.stands.loops); around = one_deeper l n.loops depth m.stands.around; vars = m.stands.vars };
        fits = record { globals = m.fits.globals; props = m.fits.props; classes = m.fits.classes; loops = (tt, m.fits.loops); vars = m.fits.vars };
        names = record { globals = m.names.globals; props = m.names.props; classes = m.names.classes; later = m.names.later; loops = (tt, m.names.loops); vars = m.names.vars };
        same = m.same;
        loops = (refl, m.loops);
      }

  pub place_body : (depth : ℕ) (n : Space) (names : List ℕ) → IsPlace ps vs depth n → IsPlace ps vs (depth + length names) (in_body n names)
  place_body depth n [] m = let P : ℕ → Type 0 = λ k. IsPlace ps vs k n in subst P (none_around depth) m
  place_body depth n (v ∷ names) m =
      let P : ℕ → Type 0 = λ k. IsPlace ps vs k (in_body (in_loop n v) names) in
      subst P (one_around depth v names) (place_body (depth + 1) (in_loop n v) names (place_loop depth n v m))

  -- ---- values

  -- a tree of this shape that reads so much
  pub record Valued (depth : ℕ) (r : Reads) (s : Option Shape) (t : ExprTerm) : Type 0 where
    pub typed : IsTyped t
    pub shape : s ≡ Some (shape_of t)
    pub told : Mentions ps t r
    pub stands : Stands ps vs depth t

  joined : (depth : ℕ) (r : Reads) (s : Option Shape) (t : Option ExprTerm) → MatchOption t ⊤ (λ t. IsTyped t × (s ≡ Some (shape_of t))) → MatchOption t ⊤ (λ t. Mentions ps t r) → MatchOption t ⊤ (λ t. Stands ps vs depth t)
      → OptionIs (Valued depth r s) t
  joined depth r s None a b c = tt
  joined depth r s (Some t) a b c = record { typed = a.0; shape = a.1; told = b; stands = c }

  pub value_is : (depth : ℕ) (n : Space) → IsPlace ps vs depth n → (e : ExprTree) → LiteralsFit e → depth + expr_height e ≤ LOOP_LIMIT → (expr.value first_one n e).faults ≡ None
      → OptionIs (Valued depth (expr.elab first_one n e).reads (expr.elab first_one n e).shape) (expr.elab first_one n e).tree
  value_is depth n m e l b f =
      let x : Elab (Option Fault) = expr.elab first_one n e in
      joined depth x.reads x.shape x.tree (accepted_is_typed n e m.fits l f) (accepted_mentions ps n e (in_constraint depth n m) f) (accepted_stands ps vs depth n e m.stands m.fits l b f)

  -- ---- roots

  fixed_of : (r : Reads) (t : Option ExprTerm) → r.random ≡ false → MatchOption t ⊤ (λ t. Mentions ps t r) → OptionIs Fixed t
  fixed_of r None e h = tt
  fixed_of r (Some t) e h = h.random ∙ e

  index_fixed : (depth : ℕ) (n : Space) → IsPlace ps vs depth n → (i : ExprTree) → (expr.value first_one n i).faults ≡ None → (expr.value first_one n i).reads.random ≡ false → OptionIs Fixed (expr.value first_one n i).tree
  index_fixed depth n m i f e = fixed_of (expr.value first_one n i).reads (expr.value first_one n i).tree e (accepted_mentions ps n i (in_constraint depth n m) f)

  pub root_at : (depth : ℕ) (n : Space) → IsPlace ps vs depth n → (e : ExprTree) → Rooted Here Fixed (expr.sole first_one (expr.elab first_one n e))
  root_at depth n m e = rooted_sole Here Fixed n depth (in_place depth n m) (index_fixed depth n m) e

  pub look_place : (depth : ℕ) (n : Space) → IsPlace ps vs depth n → PlaceIs Here any_variable depth n
  look_place depth n m = in_place depth n m
