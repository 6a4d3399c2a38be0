-- The conditions of a lawful design, put together.
use Rattle.std.proofs.Common.{◌≡◌, ℕ, suc, ◌+◌, ◌≤◌, ◌<◌, ◌^◌, List, [], ◌∷◌, length, map, Option, None, Some, refl, sym, ap, ◌∙◌, arith}
use Rattle.std.specs.Prelude.{⊤, MatchOption}
use Rattle.svr_typed.specs.declared.EnumType.{EnumType}
use Rattle.svr_typed.specs.declared.TVar.{TVar}
use Rattle.svr_typed.specs.ClassTerm.{BlockTerm, ClassTerm}
use Rattle.svr_typed.specs.StmtTerm.{DesignTerm}
use Rattle.svr_flat.specs.Flat.{flat_class_of}
use Rattle.svr_design.specs.Types.{IsEnum}
use Rattle.svr_design.specs.Statements.{AllStmtsStand, AllFollow, all_run}
use Rattle.svr_design.specs.Lawful.{Every, EachFrom, BlockStands, CanBeRandom, IsClass, VariableStands, objects_in, IsLawful}
use Rattle.svr_elab_names.specs.Names.{ClassName}
use Rattle.svr_elab_fit_laws.specs.ReadScripts.{blocks_in}
use Rattle.svr_elab.specs.Script.{design_in}
use Rattle.svr_elab_lawful_laws.specs.Lawful.{ClassStands}
use Rattle.svr_elab_lawful_laws.specs.Together.{BlocksStand, LawfulButForWalks, BlocksAreThose}
use Rattle.svr_elab_lawful_laws.proofs.Flats.{TermsAre}
use Rattle.svr_elab_lawful_laws.proofs.Whole.{the_heads, the_space, the_bodies, IsClear, script_clear, of_design, enums_are_lawful}
use Rattle.svr_elab_lawful_laws.proofs.Declarations.{DesignClasses, design_classes, all_blocks_counted, classes_are_lawful, variables_are_lawful, variables_are_few}
use Rattle.svr_elab_lawful_laws.proofs.Blocks.{blocks_are_few}
use Rattle.svr_elab_lawful_laws.proofs.Counts.{statements_are_few}
use Rattle.svr_elab_lawful_laws.proofs.Can.{random_is_lawful}
use Rattle.svr_elab_lawful_laws.proofs.Follow.{objects_are_made}

both : {A : Type 0} (P Q : A → Type 0) (o : Option A) → MatchOption o ⊤ P → MatchOption o ⊤ Q → MatchOption o ⊤ (λ x. P x × Q x)
both P Q None h k = tt
both P Q (Some x) h k = (h, k)

through : {A : Type 0} (P Q : A → Type 0) (f : (x : A) → P x → Q x) (o : Option A) → MatchOption o ⊤ P → MatchOption o ⊤ Q
through P Q f None h = tt
through P Q f (Some x) h = f x h

-- ---- classes

module _ (d : DesignTerm) where
  abbrev RandomStands : ℕ → ClassTerm → Type 0
  RandomStands k c = EachFrom (CanBeRandom d k) 0 (flat_class_of d.classes k).props

  abbrev OwnStand : ℕ → ClassTerm → Type 0
  OwnStand k c = Every (BlockStands (flat_class_of d.classes k).props) c.blocks

  abbrev HasFewBlocks : ℕ → Type 0
  HasFewBlocks k = length (flat_class_of d.classes k).blocks < 2 ^ 32

  class_is : (k : ℕ) (c : ClassTerm) → HasFewBlocks k → ClassStands d k c → RandomStands k c → OwnStand k c → IsClass d k c
  class_is k c few h r b = record { base = h.base; props = h.props; blocks = b; can = r; few = h.few; few_arrays = h.few_arrays; few_blocks = few; differ = h.differ }

  classes_are : ((k : ℕ) → HasFewBlocks k) → (k : ℕ) (cs : List ClassTerm) → EachFrom (ClassStands d) k cs → EachFrom RandomStands k cs → EachFrom OwnStand k cs → EachFrom (IsClass d) k cs
  classes_are few k [] h r b = tt
  classes_are few k (c ∷ cs) h r b = (class_is k c (few k) h.0 r.0 b.0, classes_are few (k + 1) cs h.1 r.1 b.1)

-- ---- the whole

abbrev Enums : DesignTerm → Type 0
Enums d = Every IsEnum d.enums

abbrev Classes : DesignTerm → Type 0
Classes d = EachFrom (ClassStands d) 0 d.classes

abbrev Random : DesignTerm → Type 0
Random d = EachFrom (RandomStands d) 0 d.classes

abbrev Variables : DesignTerm → Type 0
Variables d = Every (λ (v : TVar). VariableStands d v.kind) d.vars

abbrev FewVariables : DesignTerm → Type 0
FewVariables d = (objects_in d.vars ≤ 4096) × (length d.vars ≤ objects_in d.vars + 4096)

abbrev AreMade : DesignTerm → Type 0
AreMade d = AllFollow [] d.stmts

abbrev FewStatements : DesignTerm → Type 0
FewStatements d = all_run d.stmts ≤ 100000

abbrev FewBlocks : DesignTerm → Type 0
FewBlocks d = (k : ℕ) → HasFewBlocks d k

abbrev Declared : DesignTerm → Type 0
Declared d = Enums d × (Classes d × Random d)

abbrev CountedVariables : DesignTerm → Type 0
CountedVariables d = Variables d × FewVariables d

abbrev Counted : DesignTerm → Type 0
Counted d = CountedVariables d × FewBlocks d

abbrev Walked : DesignTerm → Type 0
Walked d = AreMade d × FewStatements d

abbrev All : DesignTerm → Type 0
All d = Declared d × (Counted d × Walked d)

lawful : (d : DesignTerm) → All d → BlocksStand d → AllStmtsStand d d.stmts → IsLawful d
lawful d h b s = record {
  enums = h.0.0;
  classes = classes_are d h.1.0.1 0 d.classes h.0.1.0 h.0.1.1 b;
  vars = h.1.0.0.0;
  stmts = s;
  made = h.1.1.0;
  few_objects = h.1.0.0.1.0;
  few_others = h.1.0.0.1.1;
  few_stmts = h.1.1.1;
}

within : (d : DesignTerm) (n : ℕ) → n < 2 ^ 32 → ((k : ℕ) → length (flat_class_of d.classes k).blocks ≤ n) → FewBlocks d
within d n h few k = let g : length (flat_class_of d.classes k).blocks ≤ n = few k in omega (arith, h, g)

pub lawful_but_for_walks : LawfulButForWalks
lawful_but_for_walks text s is few f =
    let o : Option DesignTerm = design_in text s in
    let declared : MatchOption o ⊤ Declared = both Enums (λ d. Classes d × Random d) o (enums_are_lawful text s is f) (both Classes Random o (classes_are_lawful text s is f) (random_is_lawful text s is f)) in
    let blocks : MatchOption o ⊤ FewBlocks = through (λ d. (k : ℕ) → length (flat_class_of d.classes k).blocks ≤ blocks_in s.classes) FewBlocks (λ d h. within d (blocks_in s.classes) few h) o (blocks_are_few text s is f) in
    let variables : MatchOption o ⊤ CountedVariables = both Variables FewVariables o (variables_are_lawful text s is f) (variables_are_few text s is f) in
    let counted : MatchOption o ⊤ Counted = both CountedVariables FewBlocks o variables blocks in
    let walked : MatchOption o ⊤ Walked = both AreMade FewStatements o (objects_are_made text s is f) (statements_are_few text s is f) in
    through All (λ d. BlocksStand d → AllStmtsStand d d.stmts → IsLawful d) lawful o (both Declared (λ d. Counted d × Walked d) o declared (both Counted Walked o counted walked))

-- ---- the blocks of classes

terms_blocks : (es : List EnumType) (cs : List ClassName) (bs : List (List BlockTerm)) (ts : List ClassTerm) → TermsAre es cs bs ts → length bs ≡ length cs → bs ≡ map (λ (c : ClassTerm). c.blocks) ts
terms_blocks es [] [] [] h e = refl
terms_blocks es [] (b ∷ bs) [] h e = absurd (let f : suc (length bs) ≡ 0 = e in omega (arith, f))
terms_blocks es [] bs (t ∷ ts) h e = absurd h
terms_blocks es (c ∷ cs) [] [] h e = absurd h
terms_blocks es (c ∷ cs) [] (t ∷ ts) h e = absurd h
terms_blocks es (c ∷ cs) (b ∷ bs) [] h e = absurd h
terms_blocks es (c ∷ cs) (b ∷ bs) (t ∷ ts) h e =
    ap (λ x. x ∷ bs) (sym h.0.blocks) ∙ ap (λ xs. t.blocks ∷ xs) (terms_blocks es cs bs ts h.1 (same (length bs) (length cs) e))
  where
    same : (n m : ℕ) → suc n ≡ suc m → n ≡ m
    same n m e = omega (arith, e)

pub blocks_are_those : BlocksAreThose
blocks_are_those text s is f =
    let clear : IsClear text s = script_clear text s f in
    of_design (λ (d : DesignTerm). (the_bodies text s).blocks ≡ Some (map (λ (c : ClassTerm). c.blocks) d.classes)) text s
    (λ c v t a b e.
    let dc : DesignClasses text s c = design_classes text s c is clear a in
    dc.bodies ∙ ap (λ bs. Some bs) (terms_blocks (the_heads text s).enums (the_space text s).classes dc.blocks c dc.are (all_blocks_counted text s is dc.blocks dc.bodies)))
