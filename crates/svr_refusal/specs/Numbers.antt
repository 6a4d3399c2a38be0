-- The number of each refusal.
use Rattle.std.specs.Prelude.{ℕ}
use Rattle.svr_refusal.specs.declared.refusal.Refusal.{Refusal}
use Rattle.svr_refusal.specs.declared.refusal.Refusal.TheVariants as refusal

abbrev pub number_of : Refusal → ℕ
number_of refusal.BadByte = 1
number_of refusal.OpenComment = 2
number_of refusal.BadLiteral = 3
number_of refusal.LiteralTooWide = 4
number_of refusal.Unexpected = 5
number_of refusal.TooDeep = 6
number_of refusal.UnknownName = 7
number_of refusal.DoubleName = 8
number_of refusal.WiderThan64 = 9
number_of refusal.NotConstant = 10
number_of refusal.BadRange = 11
number_of refusal.BadEnum = 12
number_of refusal.RandcTooWide = 13
number_of refusal.SoftOnRandc = 14
number_of refusal.DistOnRandc = 15
number_of refusal.DistWithoutRand = 16
number_of refusal.UniqueTypes = 17
number_of refusal.UniqueRandc = 18
number_of refusal.SolveRandc = 19
number_of refusal.SolveCycle = 20
number_of refusal.RandomIndex = 21
number_of refusal.StateNeeded = 22
number_of refusal.EnumAssign = 23
number_of refusal.LeftOut = 24
number_of refusal.TooMany = 25
number_of refusal.NullObject = 26
number_of refusal.TooLong = 27
number_of refusal.NoDerivation = 29
number_of refusal.DerivationTooLarge = 30
number_of refusal.NoGroups = 31
number_of refusal.UnknownCover = 32
number_of refusal.DoubleCover = 33
number_of refusal.TooManyBins = 34
number_of refusal.BadBins = 35
number_of refusal.NoSequence = 36
number_of refusal.UnknownProduction = 37
number_of refusal.NoWeight = 38
number_of refusal.SequenceTooLarge = 39
