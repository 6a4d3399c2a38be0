-- The words that write cover groups: their grammar (IEEE 1800-2017, 19.3, 19.5 and 19.6)
use Rattle.std.specs.Prelude.{ℕ, Bool, false, List, [], ◌∷◌, ◌++◌, Option, Some, None}
use Rattle.std.specs.List.{flat_map}
use Rattle.svr_cover_text.specs.declared.word.Key.TheVariants as k
use Rattle.svr_cover_text.specs.declared.word.Word.{Word}
use Rattle.svr_cover_text.specs.declared.word.Word.TheVariants as w
use Rattle.svr_cover_text.specs.Words.{is_covergroup}
use Rattle.svr_cover_text.specs.Tree.{NameTree, NumTree, plain, minus, RangeTree, single, between, BinsTree, PartTree, point, cross, HeadTree, GroupTree}

abbrev pub named : NameTree → Word
named t = w.Name t.key t.at

-- [ "-" ] digits
abbrev pub num_words : NumTree → List Word
num_words (plain digits) = w.Decimal digits ∷ []
num_words (minus at digits) = w.Minus at ∷ (w.Decimal digits ∷ [])

-- num, or "[" num ":" num "]"
abbrev pub range_words : RangeTree → List Word
range_words (single num) = num_words num
range_words (between at low high) = w.OpenBracket at ∷ (num_words low ++ w.Colon ∷ (num_words high ++ w.CloseBracket ∷ []))

abbrev pub other_range : RangeTree → List Word
other_range t = w.Comma ∷ range_words t

-- [ "[" "]" ]
abbrev pub each_words : Option ℕ → List Word
each_words None = []
each_words (Some at) = w.OpenBracket at ∷ (w.CloseBracket ∷ [])

-- r { "," r } "}" ";"
abbrev pub ranges_words : RangeTree → List RangeTree → List Word
ranges_words first others = range_words first ++ (flat_map other_range others ++ w.CloseBrace ∷ (w.Semicolon ∷ []))

-- "bins" NAME [ "[" "]" ] "=" "{" r { "," r } "}" ";"
abbrev pub bins_words : BinsTree → List Word
bins_words t = w.Name k.Bins t.at ∷ (named t.name ∷ (each_words t.each ++ w.Equal ∷ (w.OpenBrace ∷ ranges_words t.first t.others)))

abbrev pub other_name : NameTree → List Word
other_name t = w.Comma ∷ (named t ∷ [])

-- NAME ":" "coverpoint" NAME "." NAME "{" bins { bins } "}", or NAME ":" "cross" NAME "," NAME { "," NAME } ";"
abbrev pub part_words : PartTree → List Word
part_words (point name at formal prop first others) =
    named name ∷ (w.Colon ∷ (w.Name k.CoverPoint at ∷ (named formal ∷ (w.Dot ∷ (named prop ∷ (w.OpenBrace ∷ (bins_words first ++ (flat_map bins_words others ++ w.CloseBrace ∷ []))))))))
part_words (cross name at first second others) =
    named name ∷ (w.Colon ∷ (w.Name k.Cross at ∷ (named first ∷ (w.Comma ∷ (named second ∷ (flat_map other_name others ++ w.Semicolon ∷ []))))))

-- "covergroup" NAME "with" "function" "sample" "(" NAME NAME ")" ";", and what stands behind it
abbrev pub head_words : HeadTree → List Word → List Word
head_words t ws =
    w.Name k.CoverGroup t.at
    ∷ (named t.name ∷ (w.With ∷ (w.Name k.Function t.function ∷ (w.Name k.Sample t.sample ∷ (w.OpenParen ∷ (named t.class ∷ (named t.formal ∷ (w.CloseParen ∷ (w.Semicolon ∷ ws)))))))))

-- the head, { point | cross } "endgroup"
abbrev pub group_words : GroupTree → List Word
group_words t = head_words t.head (flat_map part_words t.parts ++ w.EndGroup ∷ [])

abbrev pub groups_words : List GroupTree → List Word
groups_words ts = flat_map group_words ts

-- another group begins here
abbrev pub begins_group : List Word → Bool
begins_group [] = false
begins_group (x ∷ ws) = is_covergroup x
