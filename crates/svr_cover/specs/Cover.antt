-- The counters of all groups behind a run
use Rattle.std.specs.Prelude.{ℕ, List, replicate}
use Rattle.svr_cover.specs.declared.group.Group.{Group}
use Rattle.svr_cover.specs.declared.cover.Cover.{Cover}
use Rattle.svr_cover.specs.declared.cover.TheConstants.{MOST_SAMPLES}
use Rattle.svr_cover.specs.Sampling.{sampled}

-- what the counters tell
pub record CoverTerm : Type 0 where
  pub groups : List Group
  pub counts : List ℕ

abbrev pub cover_term : Cover → CoverTerm
cover_term c = record { groups = c.groups; counts = c.counts }

-- one sample more
abbrev pub cover_step : CoverTerm → ℕ → List (List ℕ) → CoverTerm
cover_step c class values = record { groups = c.groups; counts = sampled class values c.counts c.groups }

-- before the first sample
abbrev pub unsampled : List Group → ℕ → Cover
unsampled groups counters = record { groups = groups; counts = replicate counters 0; left = MOST_SAMPLES }
