-- The pairs of `unique` (IEEE 1800-2017, 18.5.5) by counting, over members of one size.
use Rattle.std.specs.Prelude.{ℕ, ◌+◌, ◌*◌, ◌==◌, Bool, true, false, ◌&&◌, if◌then◌else◌}
use Rattle.svr_typed.specs.ExprTerm.{ExprTerms, no_exprs, more_exprs}
use Rattle.svr_eval.specs.Value.{size_of}
use Rattle.svr_frame.specs.declared.part.Part.{Part}
use Rattle.svr_weight.specs.declared.around.Mentions.{Mentions}
use Rattle.svr_weight.specs.declared.around.Around.{Around}
use Rattle.svr_weight.specs.declared.tally.Member.{Member}
use Rattle.svr_weight.specs.declared.tally.Tally.{Tally}
use Rattle.svr_weight.specs.declared.tally.Tallies.{Tallies}
use Rattle.svr_frame.specs.Weight.{capped}
use Rattle.svr_weight.specs.Weighing.{nothing, joined, pair_number, is_counted, guarded_weight, leaf_weight}

-- each expression has this size
abbrev pub all_have : ℕ → ExprTerms → Bool
all_have w no_exprs = true
all_have w (more_exprs e es) = (size_of e == w) && all_have w es

-- ---- members together

abbrev pub none : Tally
none = record { count = 0; weight = 0 }

-- with so many members more, of this weight each
abbrev pub tallied : Tally → ℕ → ℕ → Tally
tallied t n each = record { count = capped (t.count + n); weight = capped (t.weight + n * each) }

-- whether a pair that mentions this counts
abbrev pub counts : Part → Around → Mentions → Bool
counts part c m = is_counted part false c.in_loop (joined c.mentions m)

-- with one member more, where a pair of it counts with one that mentions so
abbrev pub tallied_beside : Part → Around → Tally → Mentions → Member → Tally
tallied_beside part c t m x = if counts part c (joined m x.mentions) then tallied t x.count x.own else t

abbrev pub nobody : Tallies
nobody = record { neither = none; wanted = none; barred = none; both = none }

abbrev pub with_member : Part → Around → Tallies → Member → Tallies
with_member part c t x = record {
  neither = tallied_beside part c t.neither nothing x;
  wanted = tallied_beside part c t.wanted (record { wanted = true; barred = false }) x;
  barred = tallied_beside part c t.barred (record { wanted = false; barred = true }) x;
  both = tallied_beside part c t.both (record { wanted = true; barred = true }) x;
}

-- those that count beside a member that mentions so
abbrev pub beside : Tallies → Mentions → Tally
beside t m = if m.wanted then (if m.barred then t.both else t.wanted) else (if m.barred then t.barred else t.neither)

-- ---- pairs of members of w bits

-- a member with one that weighs nothing
abbrev pub half_weight : Around → ℕ → Member → ℕ
half_weight c w x = guarded_weight c.tests (w + x.own) 1

-- the pairs of the members that one stands for
abbrev pub own_weight : Part → Around → ℕ → Member → ℕ
own_weight part c w x = pair_number x.count * leaf_weight part c false (joined x.mentions x.mentions) (w + x.own + x.own) 1

-- those of a member with each of others
abbrev pub beside_weight : Around → ℕ → Member → Tally → ℕ
beside_weight c w x t = t.count * half_weight c w x + t.weight

-- the pairs of the members that one stands for, with one another and with those behind it
abbrev pub counted_weight : Part → Around → ℕ → Member → Tallies → ℕ
counted_weight part c w x t = own_weight part c w x + x.count * beside_weight c w x (beside t x.mentions)
