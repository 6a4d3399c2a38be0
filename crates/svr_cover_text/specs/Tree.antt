-- Cover groups as trees, and the text that is kept of each (IEEE 1800-2017, clause 19). Numbers are those of tokens
use Rattle.std.specs.Prelude.{ℕ, Bool, true, false, List, ◌∷◌, map, Option, None, Some, is_some}
use Rattle.svr_cover_text.specs.declared.word.Key.{Key}
use Rattle.svr_cover_text.specs.declared.text.NumText.{NumText}
use Rattle.svr_cover_text.specs.declared.text.RangeText.{RangeText}
use Rattle.svr_cover_text.specs.declared.text.BinsText.{BinsText}
use Rattle.svr_cover_text.specs.declared.text.PartText.{PartText}
use Rattle.svr_cover_text.specs.declared.text.PartText.TheVariants as p
use Rattle.svr_cover_text.specs.declared.text.GroupText.{GroupText}

-- a plain name, which may be one of the words of a group
pub record NameTree : Type 0 where
  pub key : Key
  pub at : ℕ

pub data NumTree : Type 0 where
  plain : (digits : ℕ) → NumTree
  minus : (at digits : ℕ) → NumTree

pub data RangeTree : Type 0 where
  single : (num : NumTree) → RangeTree
  between : (at : ℕ) (low high : NumTree) → RangeTree

-- one range or more; `each` has the number of the bracket of `[]`
pub record BinsTree : Type 0 where
  pub at : ℕ
  pub name : NameTree
  pub each : Option ℕ
  pub first : RangeTree
  pub others : List RangeTree

-- a point with one `bins` or more, or a cross of two points or more
pub data PartTree : Type 0 where
  point : (name : NameTree) (at : ℕ) (formal prop : NameTree) (first : BinsTree) (others : List BinsTree) → PartTree
  cross : (name : NameTree) (at : ℕ) (first second : NameTree) (others : List NameTree) → PartTree

-- up to the semicolon behind `sample (class formal)`
pub record HeadTree : Type 0 where
  pub at : ℕ
  pub name : NameTree
  pub function : ℕ
  pub sample : ℕ
  pub class : NameTree
  pub formal : NameTree

pub record GroupTree : Type 0 where
  pub head : HeadTree
  pub parts : List PartTree

-- ---- as they are kept

abbrev pub numbered : Bool → ℕ → NumText
numbered negative digits = record { negative = negative; digits = digits }

abbrev pub num_text : NumTree → NumText
num_text (plain digits) = numbered false digits
num_text (minus at digits) = numbered true digits

-- the first token of a number
abbrev pub num_start : NumTree → ℕ
num_start (plain digits) = digits
num_start (minus at digits) = at

abbrev pub ranged : ℕ → NumText → Option NumText → RangeText
ranged at low high = record { at = at; low = low; high = high }

abbrev pub range_text : RangeTree → RangeText
range_text (single num) = ranged (num_start num) (num_text num) None
range_text (between at low high) = ranged at (num_text low) (Some (num_text high))

abbrev pub bins_text : BinsTree → BinsText
bins_text t = record { name = t.name.at; each = is_some t.each; ranges = range_text t.first ∷ map range_text t.others }

abbrev pub name_number : NameTree → ℕ
name_number t = t.at

abbrev pub part_text : PartTree → PartText
part_text (point name at formal prop first others) = p.Point name.at formal.at prop.at (bins_text first ∷ map bins_text others)
part_text (cross name at first second others) = p.Cross name.at (first.at ∷ (second.at ∷ map name_number others))

abbrev pub group_text : GroupTree → GroupText
group_text t = record { name = t.head.name.at; class = t.head.class.at; formal = t.head.formal.at; parts = map part_text t.parts }

abbrev pub list_text : List GroupTree → List GroupText
list_text ts = map group_text ts
