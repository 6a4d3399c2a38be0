-- A property is listed by the calls of a script just where a call of its design lists its place on an object whose class has it there.
use Rattle.std.proofs.Common.{◌≡◌, ℕ, ◌+◌, ◌==◌, Bool, true, false, ◌&&◌, ◌||◌, if◌then◌else◌, List, [], ◌∷◌, ◌++◌, map, Option, None, Some, option_map, refl, sym, ap, subst, ◌∙◌, true≢false}
use Rattle.std.specs.Prelude.{slice_get}
use Rattle.std.specs.List.{list_any}
use Rattle.std.proofs.lemmas.Bool.Decides.{Decides-eqb}
use Rattle.svr_design.specs.Lawful.{same}
use Rattle.svr_elab_names.specs.declared.Property.{Property}
use Rattle.svr_elab_names.specs.Names.{PropName, is_same, find_from, property_named}
use Rattle.svr_elab_part.specs.Fits.{Each}
use Rattle.svr_elab_part.proofs.Looked.{OptionIs}
use Rattle.svr_elab_random.specs.declared.Home.{Home}
use Rattle.svr_elab_random.specs.Random.{home_of, is_home, is_listed, listed, with_list}
use Rattle.svr_elab_target.specs.Named as named
use Rattle.svr_elab_target.specs.Named.{ObjectPath, object_path, with_made, numbers_of, call_list_of, list_faults, use_faults}
use Rattle.svr_elab_unit.specs.Listed.{and_home, and_names}
use Rattle.svr_elab_lawful_laws.proofs.Classes.{any_append}
use Rattle.svr_elab_lawful_laws.proofs.Homes.{HomeAt}

-- ---- one more home

pub no_more : (b : Bool) → (b || false) ≡ b
no_more true = refl
no_more false = refl

pub and_none : (b : Bool) → (b && false) ≡ false
and_none true = refl
and_none false = refl

both_true : (a b : Bool) → (a && b) ≡ true → (a ≡ true) × (b ≡ true)
both_true true b h = (refl, h)
both_true false b h = absurd (true≢false (sym h))

same_home : (x y : Home) → is_home x y ≡ true → x ≡ y
same_home x y h =
    let b = both_true (x.class == y.class) (x.number == y.number) h in
    ap (λ (c : ℕ). (let z : Home = record { class = c; number = x.number } in z)) ((Decides-eqb x.class y.class).0 b.0)
    ∙ ap (λ (n : ℕ). (let z : Home = record { class = y.class; number = n } in z)) ((Decides-eqb x.number y.number).0 b.1)

there_already : (hs : List Home) (x y : Home) (b : Bool) → is_home x y ≡ b → list_any (is_home y) hs ≡ true → list_any (is_home x) hs ≡ (list_any (is_home x) hs || b)
there_already hs x y true e h =
    let f : list_any (is_home x) hs ≡ true = ap (λ (z : Home). list_any (is_home z) hs) (same_home x y e) ∙ h in
    f ∙ ap (λ (b : Bool). b || true) (sym f)
there_already hs x y false e h = sym (no_more (list_any (is_home x) hs))

and_home_is : (hs : List Home) (x q : Property) → is_listed (and_home hs (Some q)) x ≡ (is_listed hs x || is_home (home_of x) (home_of q))
and_home_is hs x q = either (is_listed hs q) refl
  where
    either : (b : Bool) → is_listed hs q ≡ b → list_any (is_home (home_of x)) (if b then hs else hs ++ home_of q ∷ []) ≡ (is_listed hs x || is_home (home_of x) (home_of q))
    either true e = there_already hs (home_of x) (home_of q) (is_home (home_of x) (home_of q)) refl e
    either false e = any_append (is_home (home_of x)) hs (home_of q ∷ []) ∙ ap (λ (b : Bool). is_listed hs x || b) (no_more (is_home (home_of x) (home_of q)))

-- ---- names that a call lists

module _ (hs : List Home) where
  abbrev Same : Option (ℕ × PropName) → Option (ℕ × PropName) → Type 0
  Same f g = option_map (λ f. f.1.property) f ≡ option_map (listed hs) (option_map (λ f. f.1.property) g)

  named_listed_from : (q : List ℕ) (n : ℕ) (ps : List PropName)
      → option_map (λ f. f.1.property) (find_from (λ (p : PropName). p.name) q n (map (with_list hs) ps)) ≡ option_map (listed hs) (option_map (λ f. f.1.property) (find_from (λ (p : PropName). p.name) q n ps))
  named_listed_from q n [] = refl
  named_listed_from q n (p ∷ ps) = one (is_same q p.name) (named_listed_from q (n + 1) ps)
    where
      one : (b : Bool) → Same (find_from (λ (p : PropName). p.name) q (n + 1) (map (with_list hs) ps)) (find_from (λ (p : PropName). p.name) q (n + 1) ps)
          → Same (if b then Some (n, with_list hs p) else find_from (λ (p : PropName). p.name) q (n + 1) (map (with_list hs) ps)) (if b then Some (n, p) else find_from (λ (p : PropName). p.name) q (n + 1) ps)
      one true h = refl
      one false h = h

  named_listed : (ps : List PropName) (q : List ℕ) → property_named (map (with_list hs) ps) q ≡ option_map (listed hs) (property_named ps q)
  named_listed ps q = named_listed_from q 0 ps

found_is : {A : Type 0} (P : A → Type 0) (name_of : A → List ℕ) (q : List ℕ) (n : ℕ) (xs : List A) → Each P xs → OptionIs (λ (f : ℕ × A). P f.1) (find_from name_of q n xs)
found_is {A = A} P name_of q n [] h = tt
found_is {A = A} P name_of q n (x ∷ xs) h = one (is_same q (name_of x)) h.0 (found_is P name_of q (n + 1) xs h.1)
  where
    one : (b : Bool) → P x → OptionIs (λ (f : ℕ × A). P f.1) (find_from name_of q (n + 1) xs) → OptionIs (λ (f : ℕ × A). P f.1) (if b then Some (n, x) else find_from name_of q (n + 1) xs)
    one true h k = h
    one false h k = k

abbrev AtHome : List ℕ → Property → Type 0
AtHome homes q = slice_get homes q.number ≡ Some q.home

named_home : (homes : List ℕ) (ps : List PropName) (q : List ℕ) → Each (HomeAt homes) ps → OptionIs (AtHome homes) (property_named ps q)
named_home homes ps q h = from (find_from (λ (p : PropName). p.name) q 0 ps) (found_is (HomeAt homes) (λ (p : PropName). p.name) q 0 ps h)
  where
    from : (f : Option (ℕ × PropName)) → OptionIs (λ (f : ℕ × PropName). HomeAt homes f.1) f → OptionIs (AtHome homes) (option_map (λ f. f.1.property) f)
    from None h = tt
    from (Some f) h = h

-- `x` is at place p, and has this home
module _ (x : Property) (p home : ℕ) (is_p : x.number ≡ p) (is_home_x : x.home ≡ home) where
  -- a class with these homes has the same property at place p
  abbrev pub shared : List ℕ → Bool
  shared homes = same (Some home) (slice_get homes p)

  one_name : (homes : List ℕ) (q : Property) → AtHome homes q → is_home (home_of x) (home_of q) ≡ (shared homes && (q.number == p))
  one_name homes q h =
      ap (λ (n : ℕ). (x.home == q.home) && (n == q.number)) is_p ∙ ap (λ (n : ℕ). (n == q.home) && (p == q.number)) is_home_x ∙ either (q.number == p) refl
    where
      turned : (b : Bool) → (q.number == p) ≡ b → (p == q.number) ≡ b
      turned true e = (Decides-eqb p q.number).1 (sym ((Decides-eqb q.number p).0 e))
      turned false e = apart (p == q.number) refl
        where
          apart : (b : Bool) → (p == q.number) ≡ b → b ≡ false
          apart true g = absurd (true≢false (sym ((Decides-eqb q.number p).1 (sym ((Decides-eqb p q.number).0 g))) ∙ e))
          apart false g = refl

      either : (b : Bool) → (q.number == p) ≡ b → ((home == q.home) && (p == q.number)) ≡ (shared homes && (q.number == p))
      either true e =
          let at : slice_get homes p ≡ Some q.home = ap (slice_get homes) (sym ((Decides-eqb q.number p).0 e)) ∙ h in
          ap (λ (b : Bool). (home == q.home) && b) (turned true e) ∙ ap (λ (b : Bool). (home == q.home) && b) (sym e) ∙ ap (λ (o : Option ℕ). same (Some home) o && (q.number == p)) (sym at)
      either false e =
          ap (λ (b : Bool). (home == q.home) && b) (turned false e) ∙ and_none (home == q.home) ∙ sym (ap (λ (b : Bool). shared homes && b) e ∙ and_none (shared homes))

  mixed : (b s a n : Bool) → ((b || (s && a)) || (s && n)) ≡ (b || (s && (a || (n || false))))
  mixed true s a n = refl
  mixed false true true n = refl
  mixed false true false true = refl
  mixed false true false false = refl
  mixed false false a n = refl

  abbrev is_place : ℕ → Bool
  is_place q = q == p

  -- what stands behind further names, where `base` was listed before the call
  pub names_listed : (list : List Home) (homes : List ℕ) (text : ℕ → List ℕ) (ps : List PropName) (base : Bool) (names before : List ℕ) (hs : List Home) → Each (HomeAt homes) ps
      → is_listed hs x ≡ (base || (shared homes && list_any is_place before))
      → is_listed (and_names text ps hs names) x ≡ (base || (shared homes && list_any is_place (numbers_of text (map (with_list list) ps) before names)))
  names_listed list homes text ps base [] before hs h e = e
  names_listed list homes text ps base (name ∷ names) before hs h e =
      let q : Option Property = property_named ps (text name) in
      let P : Option Property → Type 0 = λ r.
      is_listed (and_names text ps (and_home hs q) names) x ≡ (base || (shared homes && list_any is_place (numbers_of text (map (with_list list) ps) (named.and_number r before) names))) in
      subst P (sym (named_listed list ps (text name))) (names_listed list homes text ps base names (named.and_number (option_map (listed list) q) before) (and_home hs q) h (step q (named_home homes ps (text name) h)))
    where
      step : (q : Option Property) → OptionIs (AtHome homes) q → is_listed (and_home hs q) x ≡ (base || (shared homes && list_any is_place (named.and_number (option_map (listed list) q) before)))
      step None k = e
      step (Some q) k =
          and_home_is hs x q ∙ ap (λ (b : Bool). b || is_home (home_of x) (home_of q)) e ∙ ap (λ (b : Bool). (base || (shared homes && list_any is_place before)) || b) (one_name homes q k)
          ∙ mixed base (shared homes) (list_any is_place before) (q.number == p) ∙ ap (λ (b : Bool). base || (shared homes && b)) (sym (any_append is_place before (q.number ∷ [])))
