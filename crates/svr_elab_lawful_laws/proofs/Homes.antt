-- The class that declares each property of a class of a design is the one that is known of it.
use Rattle.std.proofs.Common.{◌≡◌, ℕ, zero, suc, ◌+◌, List, [], ◌∷◌, ◌++◌, length, map, replicate, Option, None, Some, refl, sym, ap, subst, ◌∙◌, append-nil, arith}
use Rattle.std.specs.Prelude.{⊤, slice_get, slice_index_or}
use Rattle.svr_typed.specs.declared.EnumType.{EnumType}
use Rattle.svr_typed.specs.ClassTerm.{BlockTerm, ClassTerm}
use Rattle.svr_design.specs.Lawful.{EachFrom, BaseIsBefore, base_homes, homes_behind}
use Rattle.svr_elab_names.specs.Names.{PropName, ClassName, props_of, class_props}
use Rattle.svr_elab_part.specs.Fits.{Each}
use Rattle.svr_elab_class.specs.Classes.{props_at}
use Rattle.svr_elab_lawful_laws.specs.Declared.{ClassIs, PlacedFrom}
use Rattle.svr_elab_lawful_laws.proofs.Classes.{get_before}
use Rattle.svr_elab_lawful_laws.proofs.Flats.{PropsAre, TermsAre, own_of, as_many, moved}
use Rattle.svr_elab_lawful_laws.proofs.Enums.{length_last}

abbrev pub home_in : PropName → ℕ
home_in p = p.property.home

abbrev pub homes_in : List PropName → List ℕ
homes_in ps = map home_in ps

abbrev HomesAre : List ClassName → List (List ℕ) → Type 0
HomesAre [] [] = ⊤
HomesAre [] (h ∷ hs) = ⊥
HomesAre (c ∷ cs) [] = ⊥
HomesAre (c ∷ cs) (h ∷ hs) = (h ≡ homes_in c.props) × HomesAre cs hs

homes_last : (cs : List ClassName) (hs : List (List ℕ)) (c : ClassName) (h : List ℕ) → HomesAre cs hs → h ≡ homes_in c.props → HomesAre (cs ++ c ∷ []) (hs ++ h ∷ [])
homes_last [] [] c h a e = (e, tt)
homes_last [] (g ∷ hs) c h a e = absurd a
homes_last (d ∷ cs) [] c h a e = absurd a
homes_last (d ∷ cs) (g ∷ hs) c h a e = (a.0, homes_last cs hs c h a.1 e)

home_at : (cs : List ClassName) (hs : List (List ℕ)) (k : ℕ) → HomesAre cs hs → slice_index_or hs k [] ≡ homes_in (props_of (slice_get cs k))
home_at [] [] k a = refl
home_at [] (h ∷ hs) k a = absurd a
home_at (c ∷ cs) [] k a = absurd a
home_at (c ∷ cs) (h ∷ hs) zero a = a.0
home_at (c ∷ cs) (h ∷ hs) (suc k) a = home_at cs hs k a.1

base_at : (done rest : List ClassName) (before : List (List ℕ)) (b : Option ℕ) → BaseIsBefore (length done) b → HomesAre done before → base_homes before b ≡ homes_in (props_at (done ++ rest) b)
base_at done rest before None h a = refl
base_at done rest before (Some b) h a = home_at done before b a ∙ ap (λ (c : Option ClassName). homes_in (props_of c)) (sym (get_before done rest b h))

replicated : (k : ℕ) (ps : List PropName) → Each (λ (p : PropName). p.property.home ≡ k) ps → replicate (length ps) k ≡ homes_in ps
replicated k [] h = refl
replicated k (p ∷ ps) h = ap (λ (x : ℕ). x ∷ replicate (length ps) k) (sym h.0) ∙ ap (λ (xs : List ℕ). p.property.home ∷ xs) (replicated k ps h.1)

map_append : {A B : Type 0} (f : A → B) (xs ys : List A) → map f (xs ++ ys) ≡ map f xs ++ map f ys
map_append f [] ys = refl
map_append f (x ∷ xs) ys = ap (λ zs. f x ∷ zs) (map_append f xs ys)

homes_from : (es : List EnumType) (all done rest : List ClassName) (k : ℕ) (before : List (List ℕ)) (bs : List (List BlockTerm)) (ts : List ClassTerm) → all ≡ done ++ rest → k ≡ length done → length before ≡ k → HomesAre done before → EachFrom (ClassIs es all) k rest
    → TermsAre es rest bs ts → HomesAre all (homes_behind before ts)
homes_from es all done [] k before bs [] e n m a h t = subst (λ (cs : List ClassName). HomesAre cs before) (sym (append-nil done) ∙ sym e) a
homes_from es all done [] k before bs (t ∷ ts) e n m a h u = absurd u
homes_from es all done (c ∷ cs) k before [] [] e n m a h u = absurd u
homes_from es all done (c ∷ cs) k before [] (t ∷ ts) e n m a h u = absurd u
homes_from es all done (c ∷ cs) k before (b ∷ bs) [] e n m a h u = absurd u
homes_from es all done (c ∷ cs) k before (b ∷ bs) (t ∷ ts) e n m a h u =
    let i : ClassIs es all k c = h.0 in
    let here : BaseIsBefore (length done) c.base = subst (λ (j : ℕ). BaseIsBefore j c.base) n i.base in
    let inherited : base_homes before c.base ≡ homes_in (props_at all c.base) = base_at done (c ∷ cs) before c.base here a ∙ ap (λ (ds : List ClassName). homes_in (props_at ds c.base)) (sym e) in
    let own : PropsAre i.own t.props = subst (λ ps. PropsAre ps t.props) (own_of es all k c i) u.0.props in
    let mine : replicate (length t.props) (length before) ≡ homes_in i.own =
    ap (λ (x : ℕ). replicate x (length before)) (sym (as_many i.own t.props own)) ∙ ap (replicate (length i.own)) m ∙ replicated k i.own i.homes in
    let entry : List ℕ = base_homes before t.base ++ replicate (length t.props) (length before) in
    let is : entry ≡ homes_in c.props =
    ap (λ (o : Option ℕ). base_homes before o ++ replicate (length t.props) (length before)) u.0.base
    ∙ ap (λ (xs : List ℕ). xs ++ replicate (length t.props) (length before)) inherited ∙ ap (λ (xs : List ℕ). homes_in (props_at all c.base) ++ xs) mine
    ∙ sym (map_append home_in (props_at all c.base) i.own) ∙ ap homes_in (sym i.flat) in
    homes_from es all (done ++ c ∷ []) cs (k + 1) (before ++ entry ∷ []) bs ts (e ∙ moved done c cs) (next k (length done) n ∙ sym (length_last done c)) (length_last before entry ∙ sym (next k (length before) (sym m)))
    (homes_last done before c entry a is) h.1 u.1
  where
    next : (k n : ℕ) → k ≡ n → k + 1 ≡ suc n
    next k n e = omega (arith, e)

pub homes_are : (es : List EnumType) (cs : List ClassName) (bs : List (List BlockTerm)) (ts : List ClassTerm) → EachFrom (ClassIs es cs) 0 cs → TermsAre es cs bs ts → (k : ℕ) → base_homes (homes_behind [] ts) (Some k) ≡ homes_in (class_props cs k)
homes_are es cs bs ts h t k = home_at cs (homes_behind [] ts) k (homes_from es cs [] cs 0 [] bs ts refl refl refl tt h t)

-- ---- at its number

-- the home of each property stands at its number
abbrev pub HomeAt : List ℕ → PropName → Type 0
HomeAt hs p = slice_get hs p.property.number ≡ Some p.property.home

get_middle : {A : Type 0} (xs : List A) (x : A) (ys : List A) → slice_get (xs ++ x ∷ ys) (length xs) ≡ Some x
get_middle [] x ys = refl
get_middle (y ∷ xs) x ys = get_middle xs x ys

home_from : (all before : List ℕ) (k : ℕ) (ps : List PropName) → all ≡ before ++ homes_in ps → k ≡ length before → PlacedFrom k ps → Each (HomeAt all) ps
home_from all before k [] e n h = tt
home_from all before k (p ∷ ps) e n h = (
  ap (slice_get all) (h.0 ∙ n) ∙ ap (λ (xs : List ℕ). slice_get xs (length before)) e ∙ get_middle before p.property.home (homes_in ps),
  home_from all (before ++ p.property.home ∷ []) (k + 1) ps (e ∙ moved before p.property.home (homes_in ps)) (next k (length before) n ∙ sym (length_last before p.property.home)) h.1,
)
  where
    next : (k n : ℕ) → k ≡ n → k + 1 ≡ suc n
    next k n e = omega (arith, e)

pub home_there : (ps : List PropName) → PlacedFrom 0 ps → Each (HomeAt (homes_in ps)) ps
home_there ps h = home_from (homes_in ps) [] 0 ps refl refl h
