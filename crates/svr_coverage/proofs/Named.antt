-- Lists of classes on the way.
use Rattle.std.proofs.Common.{◌≡◌, ◌≤◌, ℕ, List, [], ◌∷◌, ◌++◌, length, map, Option, sym, ap, ◌∙◌, subst, append_assoc}
use Rattle.std.specs.Prelude.{slice_set}
use Rattle.std.proofs.lemmas.List.{length-map, map-set, map-append, set_past}
use Rattle.svr_typed.specs.declared.class.FlatClass.{FlatClass}
use Rattle.svr_typed.specs.declared.class.TClass.{TClass}
use Rattle.svr_typed.specs.ClassTerm.{FlatTerm, flat_term, class_terms}
use Rattle.svr_flat.specs.Flat.{no_class}
use Rattle.svr_cover_text.specs.declared.text.GroupText.{GroupText}
use Rattle.svr_cover_checked.specs.Numbers.{Spelling}
use Rattle.svr_cover_checked.specs.Design.{class_from}
use Rattle.svr_coverage.specs.Classes.{nothing, with_class, with_classes}

-- one class more is kept
pub one_kept : (old new : List FlatClass) (x : FlatClass) (t : FlatTerm) (all rest : List FlatTerm) → new ≡ old ++ x ∷ [] → flat_term x ≡ t
    → all ≡ map flat_term old ++ t ∷ rest → all ≡ map flat_term new ++ rest
one_kept old new x t all rest grown is before =
    before
    ∙ ap (λ (y : FlatTerm). map flat_term old ++ y ∷ rest) (sym is)
    ∙ sym (append_assoc (map flat_term old) (flat_term x ∷ []) rest)
    ∙ ap (λ (l : List FlatTerm). l ++ rest) (sym (map-append flat_term old (x ∷ [])) ∙ ap (map flat_term) (sym grown))

-- a class is put at its place
pub put_there : (old new : List FlatClass) (k : ℕ) (x : FlatClass) → new ≡ slice_set old k x → map flat_term new ≡ slice_set (map flat_term old) k (flat_term x)
put_there old new k x is = ap (map flat_term) is ∙ map-set flat_term old k x

-- or there is no such place
pub put_nowhere : (old : List FlatClass) (k : ℕ) (x : FlatClass) → length old ≤ k → map flat_term old ≡ slice_set (map flat_term old) k (flat_term x)
put_nowhere old k x past = sym (set_past (map flat_term old) k (flat_term x) (subst (λ (n : ℕ). n ≤ k) (sym (length-map old flat_term)) past))

-- one class more of which nothing is declared
pub one_nothing : (old new : List FlatClass) (x : FlatClass) (left : List TClass) (c : TClass) (others : List TClass) (all : List FlatTerm) → new ≡ old ++ x ∷ [] → flat_term x ≡ no_class
    → left ≡ c ∷ others → all ≡ map flat_term old ++ map nothing left → all ≡ map flat_term new ++ map nothing others
one_nothing old new x left c others all grown is next before =
    one_kept old new x no_class all (map nothing others) grown is (before ∙ ap (λ (l : List TClass). map flat_term old ++ map nothing l) next)

-- one class more that a group names
pub one_named : (text : Spelling) (classes own : List TClass) (before after : List FlatTerm) (left others : List GroupText) (g : GroupText) (class : Option ℕ) (all : List FlatTerm)
    → left ≡ g ∷ others → class ≡ class_from 0 classes (text g.class) → own ≡ classes → after ≡ with_class (class_terms own) before class
    → with_classes text classes before left ≡ all → with_classes text classes after others ≡ all
one_named text classes own before after left others g class all next named same put is =
    ap (λ (fs : List FlatTerm). with_classes text classes fs others)
    (put ∙ ap (λ (cs : List TClass). with_class (class_terms cs) before class) same ∙ ap (λ (c : Option ℕ). with_class (class_terms classes) before c) named)
    ∙ sym (ap (λ (l : List GroupText). with_classes text classes before l) next) ∙ is
