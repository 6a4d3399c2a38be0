-- Steps of the machine, and its ends.
use Rattle.std.proofs.Common.{◌≡◌, ◌<◌, ◌+◌, ◌-◌, ℕ, suc, refl, sym, ◌∙◌, List, [], ◌∷◌, ◌++◌, arith}
use Rattle.rand_pcg.specs.Lcg.{Lcg}
use Rattle.svr_draw.specs.Words.{word_of, after}
use Rattle.svr_seq.specs.declared.line.SeqEnd.TheVariants.{Names, Limit}
use Rattle.svr_seq.specs.SeqTerm.{SeqTerm}
use Rattle.svr_seq.specs.Line.{Task, expansion, printed, words_for, tasks_under, Line, line_from, line_within}

module _ (s : SeqTerm) where
  no_task : (units : ℕ) (names : List ℕ) (g : Lcg) → line_from s units [] names g ≡ record { end = Names names; words = g }
  unfolding line_from
  no_task units names g = refl

  no_unit : (t : Task) (ts : List Task) (names : List ℕ) (g : Lcg) → line_from s 0 (t ∷ ts) names g ≡ record { end = Limit; words = g }
  unfolding line_from
  no_unit t ts names g = refl

  a_unit : (units : ℕ) (t : Task) (ts : List Task) (names : List ℕ) (g : Lcg) → line_from s (suc units) (t ∷ ts) names g ≡ line_from s units (tasks_under s (word_of g 0) t ++ ts) (names ++ printed t) (after (words_for s t) g)
  unfolding line_from
  a_unit units t ts names g = refl

  -- the first task, and no names
  pub started : (units : ℕ) (tasks : List Task) (names : List ℕ) (g : Lcg) → tasks ≡ expansion s.start ∷ [] → names ≡ [] → line_from s (units - 0) tasks names g ≡ line_within s units g
  started units tasks names g first none =
      let all : units - 0 ≡ units = omega arith in
      (λ i. line_from s (all i) (first i) (none i) g)

  -- a task that was done at the cost of the next unit
  pub step : (most used : ℕ) (t : Task) (before behind now : List Task) (names more : List ℕ) (g h : Lcg) (line : Line) → used < most
      → before ≡ t ∷ behind → now ≡ tasks_under s (word_of g 0) t ++ behind → more ≡ names ++ printed t → h ≡ after (words_for s t) g
      → line_from s (most - used) before names g ≡ line → line_from s (most - (used + 1)) now more h ≡ line
  step most used t before behind now names more g h line some first next printing drawing is =
      let units = most - (used + 1) in
      let left : suc units ≡ most - used = omega (arith, some) in
      (λ i. line_from s units (next i) (printing i) (drawing i))
      ∙ sym (a_unit units t behind names g)
      ∙ (λ i. line_from s (left i) (sym first i) names g)
      ∙ is

  -- nothing is left to do
  pub ended : (units : ℕ) (tasks : List Task) (names : List ℕ) (g : Lcg) (line : Line) → tasks ≡ [] → line_from s units tasks names g ≡ line → record { end = Names names; words = g } ≡ line
  ended units tasks names g line none is = sym (no_task units names g) ∙ (λ i. line_from s units (sym none i) names g) ∙ is

  -- something is, and no unit
  pub limited : (units : ℕ) (t : Task) (tasks behind : List Task) (names : List ℕ) (g : Lcg) (line : Line) → units ≡ 0 → tasks ≡ t ∷ behind → line_from s units tasks names g ≡ line → record { end = Limit; words = g } ≡ line
  limited units t tasks behind names g line none some is = sym (no_unit t behind names g) ∙ (λ i. line_from s (sym none i) (sym some i) names g) ∙ is
