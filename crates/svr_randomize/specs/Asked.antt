-- Which question spent its budget.
use Rattle.std.specs.Prelude.{ℕ, Option, None, Some}
use Rattle.svr_call.specs.declared.outcome.Query.{Query}
use Rattle.svr_call.specs.declared.outcome.Query.TheVariants.{Hard, Soft}

-- that for the soft item of a rank, or for the hard items alone
abbrev pub query_of : Option ℕ → Query
query_of None = Hard
query_of (Some rank) = Soft rank
