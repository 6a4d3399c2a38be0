-- The same as the reader goes along: where it stands, what may come there, and what is kept of it
use Rattle.std.specs.Prelude.{◌≡◌, ℕ, suc, Bool, true, false, List, [], ◌∷◌, ◌++◌, Option, Some, None, Result, Ok, Err, option_map, if◌then◌else◌}
use Rattle.svr_cover_text.specs.declared.word.Key.{Key}
use Rattle.svr_cover_text.specs.declared.word.Key.TheVariants as k
use Rattle.svr_cover_text.specs.declared.word.Word.{Word}
use Rattle.svr_cover_text.specs.declared.word.Word.TheVariants as w
use Rattle.svr_cover_text.specs.declared.place.Place.{Place}
use Rattle.svr_cover_text.specs.declared.place.Place.TheVariants as p
use Rattle.svr_cover_text.specs.declared.place.Deed.{Deed}
use Rattle.svr_cover_text.specs.declared.place.Deed.TheVariants as d
use Rattle.svr_cover_text.specs.declared.place.Move.{Move}
use Rattle.svr_cover_text.specs.declared.text.PartText.TheVariants as t
use Rattle.svr_cover_text.specs.declared.text.RangeText.{RangeText}
use Rattle.svr_cover_text.specs.declared.text.GroupsText.{GroupsText}
use Rattle.svr_cover_text.specs.declared.fault.GroupsFault.{GroupsFault}
use Rattle.svr_cover_text.specs.declared.fault.GroupsFault.TheVariants as e
use Rattle.svr_cover_text.specs.declared.building.Building.{Building}
use Rattle.svr_cover_text.specs.declared.reading.Reading.{Reading}
use Rattle.svr_cover_text.specs.Words.{is_covergroup, is_function, is_sample, is_bins, is_name, is_with, is_decimal, is_open_paren, is_close_paren, is_close_bracket, is_open_brace, is_colon, is_semicolon, is_comma, is_dot, is_equal, number_in}
use Rattle.svr_cover_text.specs.Tree.{numbered, ranged}

-- ---- where a word leads, and what it adds

abbrev pub is_between : Place → Bool
is_between p.Between = true
is_between _ = false

abbrev pub to : Place → Deed → Option Move
to place deed = Some (record { place = place; deed = deed })

abbrev pub only : Bool → Place → Deed → Option Move
only holds place deed = if holds then to place deed else None

abbrev pub next_part : Word → Option Move
next_part (w.Name key at) = to p.PartColon d.Part
next_part w.EndGroup = to p.Between d.EndGroup
next_part _ = None

abbrev pub kind_of : Key → Option Move
kind_of k.CoverPoint = to p.PointFormal d.Skip
kind_of k.Cross = to p.CrossFirst d.Skip
kind_of _ = None

abbrev pub part_kind : Word → Option Move
part_kind (w.Name key at) = kind_of key
part_kind _ = None

abbrev pub cross_more : Word → Option Move
cross_more w.Comma = to p.CrossNext d.Skip
cross_more w.Semicolon = to p.NextPart d.EndCross
cross_more _ = None

abbrev pub next_bins : Word → Option Move
next_bins w.CloseBrace = to p.NextPart d.EndPoint
next_bins word = only (is_bins word) p.BinsName d.Skip

abbrev pub bins_kind : Word → Option Move
bins_kind (w.OpenBracket at) = to p.EachClose d.Skip
bins_kind w.Equal = to p.BinsOpen d.Skip
bins_kind _ = None

abbrev pub range : Word → Option Move
range (w.Decimal at) = to p.NextRange d.Single
range (w.Minus at) = to p.Digits d.OpenRange
range (w.OpenBracket at) = to p.Low d.OpenRange
range _ = None

abbrev pub low : Word → Option Move
low (w.Decimal at) = to p.RangeColon d.Low
low (w.Minus at) = to p.LowDigits d.Skip
low _ = None

abbrev pub high : Word → Option Move
high (w.Decimal at) = to p.RangeClose d.High
high (w.Minus at) = to p.HighDigits d.Skip
high _ = None

abbrev pub next_range : Word → Option Move
next_range w.Comma = to p.Range d.Skip
next_range w.CloseBrace = to p.BinsEnd d.Skip
next_range _ = None

abbrev pub in_bins : Place → Word → Option Move
in_bins p.BinsName word = only (is_name word) p.BinsKind d.Bins
in_bins p.BinsKind word = bins_kind word
in_bins p.EachClose word = only (is_close_bracket word) p.BinsEqual d.Each
in_bins p.BinsEqual word = only (is_equal word) p.BinsOpen d.Skip
in_bins p.BinsOpen word = only (is_open_brace word) p.Range d.Skip
in_bins p.Range word = range word
in_bins p.Digits word = only (is_decimal word) p.NextRange d.SingleMinus
in_bins p.Low word = low word
in_bins p.LowDigits word = only (is_decimal word) p.RangeColon d.LowMinus
in_bins p.RangeColon word = only (is_colon word) p.High d.Skip
in_bins p.High word = high word
in_bins p.HighDigits word = only (is_decimal word) p.RangeClose d.HighMinus
in_bins p.RangeClose word = only (is_close_bracket word) p.NextRange d.Skip
in_bins p.NextRange word = next_range word
in_bins p.BinsEnd word = only (is_semicolon word) p.NextBins d.EndBins
in_bins _ word = None

abbrev pub in_part : Place → Word → Option Move
in_part p.PartColon word = only (is_colon word) p.PartKind d.Skip
in_part p.PartKind word = part_kind word
in_part p.PointFormal word = only (is_name word) p.PointDot d.PointFormal
in_part p.PointDot word = only (is_dot word) p.PointProp d.Skip
in_part p.PointProp word = only (is_name word) p.PointOpen d.PointProp
in_part p.PointOpen word = only (is_open_brace word) p.FirstBins d.Skip
in_part p.FirstBins word = only (is_bins word) p.BinsName d.Skip
in_part p.NextBins word = next_bins word
in_part p.CrossFirst word = only (is_name word) p.CrossComma d.CrossPoint
in_part p.CrossComma word = only (is_comma word) p.CrossNext d.Skip
in_part p.CrossNext word = only (is_name word) p.CrossMore d.CrossPoint
in_part p.CrossMore word = cross_more word
in_part place word = in_bins place word

abbrev pub goes : Place → Word → Option Move
goes p.Between word = only (is_covergroup word) p.GroupName d.Skip
goes p.GroupName word = only (is_name word) p.With d.Group
goes p.With word = only (is_with word) p.Function d.Skip
goes p.Function word = only (is_function word) p.Sample d.Skip
goes p.Sample word = only (is_sample word) p.SampleOpen d.Skip
goes p.SampleOpen word = only (is_open_paren word) p.Class d.Skip
goes p.Class word = only (is_name word) p.Formal d.Class
goes p.Formal word = only (is_name word) p.SampleClose d.Formal
goes p.SampleClose word = only (is_close_paren word) p.HeadEnd d.Skip
goes p.HeadEnd word = only (is_semicolon word) p.NextPart d.Skip
goes p.NextPart word = next_part word
goes place word = in_part place word

-- ---- what is kept

abbrev pub nothing : Building
nothing = record {
  groups = [];
  group = record { name = 0; class = 0; formal = 0 };
  parts = [];
  part = record { name = 0; formal = 0; prop = 0 };
  bins = [];
  bin = record { name = 0; each = false };
  ranges = [];
  range = record { at = 0; low = record { negative = false; digits = 0 } };
  points = [];
}

abbrev pub with_range : Building → RangeText → Building
with_range b x = record b { ranges = b.ranges ++ x ∷ [] }

abbrev pub with_single : Building → ℕ → Bool → ℕ → Building
with_single b at negative digits = with_range b (ranged at (numbered negative digits) None)

abbrev pub with_minus : Building → ℕ → Building
with_minus b digits = with_single b b.range.at true digits

abbrev pub with_low : Building → Bool → ℕ → Building
with_low b negative digits = record b { range = record { at = b.range.at; low = numbered negative digits } }

abbrev pub with_between : Building → Bool → ℕ → Building
with_between b negative digits = with_range b (ranged b.range.at b.range.low (Some (numbered negative digits)))

abbrev pub with_bins : Building → Building
with_bins b = record b { bins = b.bins ++ record { name = b.bin.name; each = b.bin.each; ranges = b.ranges } ∷ []; ranges = [] }

abbrev pub with_point : Building → Building
with_point b = record b { parts = b.parts ++ t.Point b.part.name b.part.formal b.part.prop b.bins ∷ []; bins = [] }

abbrev pub with_cross : Building → Building
with_cross b = record b { parts = b.parts ++ t.Cross b.part.name b.points ∷ []; points = [] }

abbrev pub with_group : Building → Building
with_group b = record b { groups = b.groups ++ record { name = b.group.name; class = b.group.class; formal = b.group.formal; parts = b.parts } ∷ []; parts = [] }

abbrev pub kept : Building → Deed → ℕ → Building
kept b d.Skip at = b
kept b d.Group at = record b { group = record { name = at; class = b.group.class; formal = b.group.formal } }
kept b d.Class at = record b { group = record { name = b.group.name; class = at; formal = b.group.formal } }
kept b d.Formal at = record b { group = record { name = b.group.name; class = b.group.class; formal = at } }
kept b d.EndGroup at = with_group b
kept b d.Part at = record b { part = record { name = at; formal = b.part.formal; prop = b.part.prop } }
kept b d.PointFormal at = record b { part = record { name = b.part.name; formal = at; prop = b.part.prop } }
kept b d.PointProp at = record b { part = record { name = b.part.name; formal = b.part.formal; prop = at } }
kept b d.EndPoint at = with_point b
kept b d.CrossPoint at = record b { points = b.points ++ at ∷ [] }
kept b d.EndCross at = with_cross b
kept b d.Bins at = record b { bin = record { name = at; each = false } }
kept b d.Each at = record b { bin = record { name = b.bin.name; each = true } }
kept b d.EndBins at = with_bins b
kept b d.OpenRange at = record b { range = record { at = at; low = b.range.low } }
kept b d.Low at = with_low b false at
kept b d.LowMinus at = with_low b true at
kept b d.Single at = with_single b at false at
kept b d.SingleMinus at = with_minus b at
kept b d.High at = with_between b false at
kept b d.HighMinus at = with_between b true at

-- ---- one word, and all of them

abbrev pub begin : Reading
begin = record { place = p.Between; made = nothing }

abbrev pub moved_to : Reading → Word → Move → Reading
moved_to r word m = record { place = m.place; made = kept r.made m.deed (number_in word) }

-- behind one more word, if it may stand there
abbrev pub step : Reading → Word → Option Reading
step r word = option_map (moved_to r word) (goes r.place word)

-- whether the word was taken, and where it led
abbrev pub IsTaken : Bool → Reading → Word → Reading → Type 0
IsTaken true r word q = step r word ≡ Some q
IsTaken false r word q = (step r word ≡ None) × (q ≡ r)

-- where reading stops, and the number of the word that may not stand there
pub data Halt : Type 0 where
  stop : Reading → ℕ → Halt

-- the words are numbered from `at` on
unfoldable pub after : Reading → ℕ → List Word → Halt
after r at [] = stop r at
after r at (x ∷ ws) = elim (step r x) [ Some q ↦ after q (suc at) ws | None ↦ stop r at ]

-- the groups, where reading stops between two of them
abbrev pub told : Reading → ℕ → Result GroupsText GroupsFault
told r at = if is_between r.place then Ok (record { list = r.made.groups; used = at }) else Err (e.Unexpected at)
