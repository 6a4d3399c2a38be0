-- What one clause more keeps
use Rattle.std.proofs.Common.{◌≡◌, ℕ, suc, zero, ◌+◌, ◌-◌, ◌<◌, ◌≤◌, true, false, ◌||◌, nat_eq, cond, List, [], ◌∷◌, ◌++◌, length, map, refl, ap, ap₂, sym, ◌∙◌, subst, arith, Some, get_or, set, inl, inr}
use Rattle.std.specs.Prelude.{◌⊎◌}
use Rattle.std.specs.List.{Contains, slice_get}
use Rattle.std.proofs.lemmas.Bool.{or_cases, or_left, or_right, eq-eqb, eqb-true, false≢true}
use Rattle.std.proofs.lemmas.List.{length-set, get_or-set_same, get_or-set_other, map-append}
use Rattle.std.proofs.lemmas.List.Elements.{Contains-append_left, Contains-push}
use Rattle.std.proofs.lemmas.List.Folds.{list_any-append}
use Rattle.svr_arena.specs.Layout.{Layout, is_in, names, watched, with_front}
use Rattle.svr_arena.specs.Arena.{body, lit_at, IsArena}
use Rattle.svr_arena.proofs.Attach.{keeps-front, own-front}
use Rattle.svr_chain.specs.declared.clause.Lit.{Lit}
use Rattle.svr_watch.specs.declared.store.Held.{Held}
use Rattle.svr_watch.specs.declared.store.Held.TheVariants.{Watched, Apart}
use Rattle.svr_watch.specs.Codes.{lit_of}
use Rattle.svr_watch.specs.Store.{StoreView, IsStore, IsAdded, IsApart, clauses_of, held_lits}
use Rattle.svr_watch.specs.StoreFields.{AreListed}

pub get-front : (hs : List Held) (x : Held) (i : ℕ) → i < length hs → slice_get (hs ++ x ∷ []) i ≡ slice_get hs i
get-front [] x i h = absurd (omega arith)
get-front (y ∷ hs) x zero h = refl
get-front (y ∷ hs) x (suc i) h = get-front hs x i (omega arith)

pub get-last : (hs : List Held) (x : Held) → slice_get (hs ++ x ∷ []) (length hs) ≡ Some x
get-last [] x = refl
get-last (y ∷ hs) x = get-last hs x

pub get-within : (hs : List Held) (i : ℕ) (h : Held) → slice_get hs i ≡ Some h → i < length hs
get-within [] i h e = cc
get-within (y ∷ hs) zero h e = omega arith
get-within (y ∷ hs) (suc i) h e = let z = get-within hs i h e in omega arith

pub get-longer : (hs : List Held) (x : Held) (i : ℕ) (h : Held) → slice_get (hs ++ x ∷ []) i ≡ Some h → (slice_get hs i ≡ Some h) ⊎ ((i ≡ length hs) × (h ≡ x))
get-longer [] x zero h e = inr (refl, (let z : Some x ≡ Some h = e in cc))
get-longer [] x (suc i) h e = cc
get-longer (y ∷ hs) x zero h e = inl e
get-longer (y ∷ hs) x (suc i) h e =
    elim (get-longer hs x i h e) [ inl z ↦ inl z | inr z ↦ inr (ap suc z.0, z.1) ]

pub in-longer : (ns : List ℕ) (c d : ℕ) → is_in d (ns ++ c ∷ []) ≡ true → (is_in d ns ≡ true) ⊎ (d ≡ c)
in-longer ns c d g =
    elim (or_cases (is_in d ns) (nat_eq d c || false) (sym (list_any-append (λ x. nat_eq d x) ns (c ∷ [])) ∙ g)) [
      | inl e ↦ inl e
      | inr e ↦ elim (or_cases (nat_eq d c) false e) [ inl f ↦ inr (eqb-true d c f) | inr f ↦ absurd (false≢true f) ]
    ]

pub in-old : (ns : List ℕ) (c d : ℕ) → is_in d ns ≡ true → is_in d (ns ++ c ∷ []) ≡ true
in-old ns c d g = list_any-append (λ x. nat_eq d x) ns (c ∷ []) ∙ or_left (is_in d ns) (nat_eq d c || false) g

pub in-new : (ns : List ℕ) (c : ℕ) → is_in c (ns ++ c ∷ []) ≡ true
in-new ns c = list_any-append (λ x. nat_eq c x) ns (c ∷ []) ∙ or_right (is_in c ns) (nat_eq c c || false) (or_left (nat_eq c c) false (eq-eqb c c refl))

-- the same arena with other room
pub roomier-arena : (a b : Layout) → b ≡ record { codes = a.codes; words = a.words; spare = b.spare } → IsArena a → IsArena b
roomier-arena a b e k =
    subst IsArena (sym e) (record { clause = k.clause; named = k.named; watches = k.watches; once = k.once; distinct = k.distinct; both = k.both })

pub roomier-store : (s : StoreView) (b : Layout) → b ≡ record { codes = s.arena.codes; words = s.arena.words; spare = b.spare } → IsStore s → IsStore (record { arena = b; held = s.held })
roomier-store s b e k =
    subst (λ z. IsStore (record { arena = z; held = s.held })) (sym e)
    (record {
      arena = record { clause = k.arena.clause; named = k.arena.named; watches = k.arena.watches; once = k.arena.once; distinct = k.arena.distinct; both = k.arena.both };
      attached = k.attached;
      placed = k.placed;
      apart = k.apart;
      held_at = k.held_at;
    })

pub store-apart : (s : StoreView) (k : List Lit) → IsStore s → IsApart k → IsStore (record { arena = s.arena; held = s.held ++ Apart k ∷ [] })
store-apart s k st a = record {
  arena = st.arena;
  attached = st.attached;
  placed = λ i c e. elim (get-longer s.held (Apart k) i (Watched c) e) [
    | inl z ↦ st.placed i c z
    | inr z ↦ absurd (let y : Watched c ≡ Apart k = z.1 in cc)
  ];
  apart = λ i d e. elim (get-longer s.held (Apart k) i (Apart d) e) [
    | inl z ↦ st.apart i d z
    | inr z ↦ let y : Apart d ≡ Apart k = z.1 in let q : d ≡ k = cc in subst IsApart (sym q) a
  ];
  held_at = λ c i. let z = st.held_at c i in (z.0, get-front s.held (Apart k) z.0 (get-within s.held z.0 (Watched c) z.1) ∙ z.1);
}

-- the places of the clauses apart after a clause more
pub listed-watched : (hs : List Held) (ps : List ℕ) (c : ℕ) → AreListed hs ps → AreListed (hs ++ Watched c ∷ []) ps
listed-watched hs ps c f i k e =
    elim (get-longer hs (Watched c) i (Apart k) e) [
      | inl z ↦ f i k z
      | inr z ↦ absurd (let y : Apart k ≡ Watched c = z.1 in cc)
    ]

pub listed-apart : (hs : List Held) (ps : List ℕ) (d : List Lit) → AreListed hs ps → AreListed (hs ++ Apart d ∷ []) (ps ++ length hs ∷ [])
listed-apart hs ps d f i k e =
    elim (get-longer hs (Apart d) i (Apart k) e) [
      | inl z ↦ Contains-append_left ps (length hs ∷ []) i (f i k z)
      | inr z ↦ subst (Contains (ps ++ length hs ∷ [])) (sym z.0) (Contains-push ps (length hs))
    ]

-- where lists lie under two fronts
under-fronts : (l m c k : ℕ) (f g : ℕ → List ℕ) → f k ≡ g k → with_front l c (with_front m c f) k ≡ with_front l c (with_front m c g) k
under-fronts l m c k f g e = ap (λ z. cond (nat_eq k l) (c ∷ cond (nat_eq k m) (c ∷ z) z) (cond (nat_eq k m) (c ∷ z) z)) e

-- the lists of the arena after `add` and `attach`
pub added-lists : (s a b t : Layout) (c : ℕ) (xs : List ℕ) → a ≡ record { codes = s.codes; words = s.words; spare = a.spare } → b.codes ≡ a.codes → body b c ≡ xs
    → ((k : ℕ) → k < a.codes → watched b k ≡ watched a k)
    → ((k : ℕ) → k < b.codes → watched t k ≡ with_front (lit_at b c 1) c (with_front (lit_at b c 0) c (watched b)) k)
    → (k : ℕ) → k < s.codes → watched t k ≡ with_front (get_or xs 1 0) c (with_front (get_or xs 0 0) c (watched s)) k
added-lists s a b t c xs e n l f g k h =
    let ac : a.codes ≡ s.codes = ap (λ (z : Layout). z.codes) e in
    let ha : k < a.codes = omega arith in
    let hb : k < b.codes = omega arith in
    let w : watched a k ≡ watched s k = ap (λ z. watched z k) e in
    g k hb
    ∙ (ap (λ z. with_front (get_or z 1 0) c (with_front (get_or z 0 0) c (watched b)) k) l
    ∙ under-fronts (get_or xs 1 0) (get_or xs 0 0) c k (watched b) (watched s) (f k ha ∙ w))

module _ (s : StoreView) (k : IsStore s) (b : Layout) (c : ℕ) (xs : List ℕ) (kb : IsArena b) (ec : b.codes ≡ s.arena.codes) (en : names b ≡ names s.arena ++ c ∷ []) (el : body b c ≡ xs)
    (eo : (d : ℕ) → is_in d (names s.arena) ≡ true → body b d ≡ body s.arena d)
    (lists : (m : ℕ) → m < s.arena.codes → watched b m ≡ with_front (get_or xs 1 0) c (with_front (get_or xs 0 0) c (watched s.arena)) m) where
  pub store-added : IsAdded s (record { arena = b; held = s.held ++ Watched c ∷ [] }) c xs
  store-added = record { codes = ec; held = refl; named = en; own = el; others = eo }

  new-named : is_in c (names b) ≡ true
  new-named = ap (is_in c) en ∙ in-new (names s.arena) c

  attached-old : (d : ℕ) → is_in d (names s.arena) ≡ true → is_in d (watched b (lit_at b d 0)) ≡ true
  attached-old d i =
      let l : lit_at b d 0 ≡ lit_at s.arena d 0 = ap (λ z. get_or z 0 0) (eo d i) in
      let t = (k.arena.clause d i).two in
      let o : lit_at s.arena d 0 < s.arena.codes = (k.arena.clause d i).below 0 (omega arith) in
      ap (λ z. is_in d (watched b z)) l
      ∙ (ap (is_in d) (lists (lit_at s.arena d 0) o)
      ∙ keeps-front (get_or xs 1 0) c (with_front (get_or xs 0 0) c (watched s.arena)) d (lit_at s.arena d 0)
      (keeps-front (get_or xs 0 0) c (watched s.arena) d (lit_at s.arena d 0) (k.attached d i)))

  attached-new : is_in c (watched b (lit_at b c 0)) ≡ true
  attached-new =
      let l : lit_at b c 0 ≡ get_or xs 0 0 = ap (λ z. get_or z 0 0) el in
      let t = (kb.clause c new-named).two in
      let o : lit_at b c 0 < b.codes = (kb.clause c new-named).below 0 (omega arith) in
      let p : get_or xs 0 0 < s.arena.codes = omega (arith, l, o, ec) in
      ap (λ z. is_in c (watched b z)) l
      ∙ (ap (is_in c) (lists (get_or xs 0 0) p)
      ∙ keeps-front (get_or xs 1 0) c (with_front (get_or xs 0 0) c (watched s.arena)) c (get_or xs 0 0) (own-front (get_or xs 0 0) c (watched s.arena)))

  pub store-more : IsStore (record { arena = b; held = s.held ++ Watched c ∷ [] })
  store-more = record {
    arena = kb;
    attached = λ d i. elim (in-longer (names s.arena) c d (ap (is_in d) (sym en) ∙ i)) [
      | inl z ↦ attached-old d z
      | inr z ↦ subst (λ y. is_in y (watched b (lit_at b y 0)) ≡ true) (sym z) attached-new
    ];
    placed = λ i d e. elim (get-longer s.held (Watched c) i (Watched d) e) [
      | inl z ↦ ap (is_in d) en ∙ in-old (names s.arena) c d (k.placed i d z)
      | inr z ↦ let y : Watched d ≡ Watched c = z.1 in let q : d ≡ c = cc in ap (λ v. is_in v (names b)) q ∙ new-named
    ];
    apart = λ i d e. elim (get-longer s.held (Watched c) i (Apart d) e) [
      | inl z ↦ k.apart i d z
      | inr z ↦ absurd (let y : Apart d ≡ Watched c = z.1 in cc)
    ];
    held_at = λ d i. elim (in-longer (names s.arena) c d (ap (is_in d) (sym en) ∙ i)) [
      | inl y ↦ let z = k.held_at d y in (z.0, get-front s.held (Watched c) z.0 (get-within s.held z.0 (Watched d) z.1) ∙ z.1)
      | inr y ↦ (length s.held, get-last s.held (Watched c) ∙ ap (λ (v : ℕ). Some (Watched v)) (sym y))
    ];
  }

-- the table of numbers after a clause more
module _ (hs : List Held) (ns : List ℕ) (old new : List ℕ) (c : ℕ) (grown : (i : ℕ) → i < length old → i < length new) (same : (i : ℕ) → i < length old → get_or new i 0 ≡ get_or old i 0)
    (room : c < length new) (fresh : (d : ℕ) → is_in d ns ≡ true → d < c)
    (named : (d : ℕ) → is_in d ns ≡ true → d < length old) (numbered : (d : ℕ) → is_in d ns ≡ true → slice_get hs (get_or old d 0 - 1) ≡ Some (Watched d))
    (positive : (d : ℕ) → is_in d ns ≡ true → 1 ≤ get_or old d 0) where
  other : (d : ℕ) → is_in d ns ≡ true → get_or (set new c (length hs + 1)) d 0 ≡ get_or old d 0
  other d i = let z = fresh d i in get_or-set_other new c d (length hs + 1) 0 (λ e. omega arith) ∙ same d (named d i)

  own : get_or (set new c (length hs + 1)) c 0 ≡ length hs + 1
  own = get_or-set_same new c (length hs + 1) 0 room

  pub table-named : (d : ℕ) → is_in d (ns ++ c ∷ []) ≡ true → d < length (set new c (length hs + 1))
  table-named d i =
      let n = length-set new c (length hs + 1) in
      elim (in-longer ns c d i) [
        | inl z ↦ let y = grown d (named d z) in omega (arith, n, y)
        | inr z ↦ omega (arith, n, z, room)
      ]

  pub table-numbered : (d : ℕ) → is_in d (ns ++ c ∷ []) ≡ true → slice_get (hs ++ Watched c ∷ []) (get_or (set new c (length hs + 1)) d 0 - 1) ≡ Some (Watched d)
  table-numbered d i =
      elim (in-longer ns c d i) [
        | inl z ↦
            let g = numbered d z in
            ap (λ v. slice_get (hs ++ Watched c ∷ []) (v - 1)) (other d z) ∙ (get-front hs (Watched c) (get_or old d 0 - 1) (get-within hs (get_or old d 0 - 1) (Watched d) g) ∙ g)
        | inr z ↦
            let p : length hs + 1 - 1 ≡ length hs = omega arith in
            subst (λ y. slice_get (hs ++ Watched c ∷ []) (get_or (set new c (length hs + 1)) y 0 - 1) ≡ Some (Watched y)) (sym z)
            (ap (λ v. slice_get (hs ++ Watched c ∷ []) (v - 1)) own ∙ (ap (slice_get (hs ++ Watched c ∷ [])) p ∙ get-last hs (Watched c)))
      ]

  pub table-positive : (d : ℕ) → is_in d (ns ++ c ∷ []) ≡ true → 1 ≤ get_or (set new c (length hs + 1)) d 0
  table-positive d i =
      elim (in-longer ns c d i) [
        | inl z ↦ let e = other d z in let p = positive d z in omega (arith, e, p)
        | inr z ↦ let e : get_or (set new c (length hs + 1)) d 0 ≡ length hs + 1 = ap (λ y. get_or (set new c (length hs + 1)) y 0) z ∙ own in omega (arith, e)
      ]

-- the clauses by number after a clause more
same-rest : (a b : Layout) (hs : List Held) → ((i d : ℕ) → slice_get hs i ≡ Some (Watched d) → body b d ≡ body a d) → map (held_lits b) hs ≡ map (held_lits a) hs
same-rest a b [] f = refl
same-rest a b (Watched d ∷ hs) f = ap₂ (λ x y. x ∷ y) (ap (map lit_of) (f 0 d refl)) (same-rest a b hs (λ i e h. f (suc i) e h))
same-rest a b (Apart k ∷ hs) f = ap (λ y. k ∷ y) (same-rest a b hs (λ i e h. f (suc i) e h))

pub clauses-added : (s t : StoreView) (c : ℕ) (xs : List ℕ) → IsStore s → IsAdded s t c xs → clauses_of t ≡ clauses_of s ++ map lit_of xs ∷ []
clauses-added s t c xs k e =
    ap (map (held_lits t.arena)) e.held
    ∙ (map-append (held_lits t.arena) s.held (Watched c ∷ [])
    ∙ (ap (λ z. z ++ map lit_of (body t.arena c) ∷ []) (same-rest s.arena t.arena s.held (λ i d h. e.others d (k.placed i d h)))
    ∙ ap (λ z. clauses_of s ++ map lit_of z ∷ []) e.own))

pub clauses-apart : (s : StoreView) (k : List Lit) → clauses_of (record { arena = s.arena; held = s.held ++ Apart k ∷ [] }) ≡ clauses_of s ++ k ∷ []
clauses-apart s k = map-append (held_lits s.arena) s.held (Apart k ∷ [])
