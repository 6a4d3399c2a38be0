-- What the machine runs through to a place between two groups is groups
use Rattle.std.proofs.Common.{◌≡◌, ℕ, true, false, List, [], ◌∷◌, ◌++◌, Option, None, Some, option_map, refl, sym, ap, ◌∙◌, append_assoc}
use Rattle.std.specs.List.{flat_map}
use Rattle.svr_cover_text.specs.declared.word.Key.{Key}
use Rattle.svr_cover_text.specs.declared.word.Key.TheVariants as k
use Rattle.svr_cover_text.specs.declared.word.Word.{Word}
use Rattle.svr_cover_text.specs.declared.word.Word.TheVariants as w
use Rattle.svr_cover_text.specs.declared.place.Place.{Place}
use Rattle.svr_cover_text.specs.declared.place.Place.TheVariants as p
use Rattle.svr_cover_text.specs.declared.place.Move.{Move}
use Rattle.svr_cover_text.specs.declared.reading.Reading.{Reading}
use Rattle.svr_cover_text.specs.Tree.{NameTree, NumTree, plain, minus, RangeTree, single, between, BinsTree, PartTree, point, cross, HeadTree, GroupTree}
use Rattle.svr_cover_text.specs.Spelled.{named, num_words, range_words, other_range, each_words, bins_words, other_name, part_words, head_words, groups_words}
use Rattle.svr_cover_text.specs.Machine.{begin, goes, in_part, in_bins, moved_to, is_between}
use Rattle.svr_cover_text.proofs.Runs.{accepts}

abbrev name_of : Key → ℕ → NameTree
name_of key at = record { key = key; at = at }

record GroupsFrom (ws : List Word) : Type 0 where
  pub groups : List GroupTree
  pub whole : ws ≡ groups_words groups

-- behind a part, or the head of a group
record PartsTail (ws : List Word) : Type 0 where
  pub parts : List PartTree
  pub more : List Word
  pub whole : ws ≡ flat_map part_words parts ++ w.EndGroup ∷ more
  pub groups : GroupsFrom more

-- behind a `bins`
record BinsTail (ws : List Word) : Type 0 where
  pub others : List BinsTree
  pub more : List Word
  pub whole : ws ≡ flat_map bins_words others ++ w.CloseBrace ∷ more
  pub parts : PartsTail more

-- from a `bins` on
record BinsFrom (ws : List Word) : Type 0 where
  pub first : BinsTree
  pub more : List Word
  pub whole : ws ≡ bins_words first ++ more
  pub tail : BinsTail more

-- behind `}` of a `bins`
record BinsEnd (ws : List Word) : Type 0 where
  pub more : List Word
  pub whole : ws ≡ w.Semicolon ∷ more
  pub tail : BinsTail more

-- behind a range
record RangeTail (ws : List Word) : Type 0 where
  pub others : List RangeTree
  pub more : List Word
  pub whole : ws ≡ flat_map other_range others ++ w.CloseBrace ∷ (w.Semicolon ∷ more)
  pub tail : BinsTail more

-- from a range on
record RangeFrom (ws : List Word) : Type 0 where
  pub first : RangeTree
  pub more : List Word
  pub whole : ws ≡ range_words first ++ more
  pub tail : RangeTail more

-- behind the second point of a cross or a later one
record CrossTail (ws : List Word) : Type 0 where
  pub others : List NameTree
  pub more : List Word
  pub whole : ws ≡ flat_map other_name others ++ w.Semicolon ∷ more
  pub parts : PartsTail more

-- from another point of a cross on
record CrossFrom (ws : List Word) : Type 0 where
  pub first : NameTree
  pub more : List Word
  pub whole : ws ≡ named first ∷ more
  pub tail : CrossTail more

-- ---- what stands before a place within a production

abbrev part_colon : NameTree → List Word → List Word
part_colon n ws = named n ∷ (w.Colon ∷ ws)

abbrev point_formal : NameTree → ℕ → List Word → List Word
point_formal n a ws = part_colon n (w.Name k.CoverPoint a ∷ ws)

abbrev point_dot : NameTree → ℕ → NameTree → List Word → List Word
point_dot n a f ws = point_formal n a (named f ∷ ws)

abbrev point_open : NameTree → ℕ → NameTree → NameTree → List Word → List Word
point_open n a f m ws = point_dot n a f (w.Dot ∷ (named m ∷ ws))

abbrev cross_first : NameTree → ℕ → List Word → List Word
cross_first n a ws = part_colon n (w.Name k.Cross a ∷ ws)

abbrev bins_name : ℕ → NameTree → List Word → List Word
bins_name a n ws = w.Name k.Bins a ∷ (named n ∷ ws)

abbrev range_low : ℕ → NumTree → List Word → List Word
range_low a l ws = w.OpenBracket a ∷ (num_words l ++ ws)

abbrev range_high : ℕ → NumTree → NumTree → List Word → List Word
range_high a l h ws = range_low a l (w.Colon ∷ (num_words h ++ ws))

abbrev head_name : ℕ → NameTree → List Word → List Word
head_name a n ws = w.Name k.CoverGroup a ∷ (named n ∷ ws)

abbrev head_with : ℕ → NameTree → List Word → List Word
head_with a n ws = head_name a n (w.With ∷ ws)

abbrev head_sample : ℕ → NameTree → ℕ → ℕ → List Word → List Word
head_sample a n f s ws = head_with a n (w.Name k.Function f ∷ (w.Name k.Sample s ∷ ws))

abbrev head_class : ℕ → NameTree → ℕ → ℕ → NameTree → List Word → List Word
head_class a n f s c ws = head_sample a n f s (w.OpenParen ∷ (named c ∷ ws))

-- what the words behind a place are
abbrev Rest : Place → List Word → Type 0
Rest p.Between ws = GroupsFrom ws
Rest p.GroupName ws = (a : ℕ) → GroupsFrom (w.Name k.CoverGroup a ∷ ws)
Rest p.With ws = (a : ℕ) (n : NameTree) → GroupsFrom (head_name a n ws)
Rest p.Function ws = (a : ℕ) (n : NameTree) → GroupsFrom (head_with a n ws)
Rest p.Sample ws = (a : ℕ) (n : NameTree) (f : ℕ) → GroupsFrom (head_with a n (w.Name k.Function f ∷ ws))
Rest p.SampleOpen ws = (a : ℕ) (n : NameTree) (f s : ℕ) → GroupsFrom (head_sample a n f s ws)
Rest p.Class ws = (a : ℕ) (n : NameTree) (f s : ℕ) → GroupsFrom (head_sample a n f s (w.OpenParen ∷ ws))
Rest p.Formal ws = (a : ℕ) (n : NameTree) (f s : ℕ) (c : NameTree) → GroupsFrom (head_class a n f s c ws)
Rest p.SampleClose ws = (a : ℕ) (n : NameTree) (f s : ℕ) (c o : NameTree) → GroupsFrom (head_class a n f s c (named o ∷ ws))
Rest p.HeadEnd ws = (a : ℕ) (n : NameTree) (f s : ℕ) (c o : NameTree) → GroupsFrom (head_class a n f s c (named o ∷ (w.CloseParen ∷ ws)))
Rest p.NextPart ws = PartsTail ws
Rest p.PartColon ws = (n : NameTree) → PartsTail (named n ∷ ws)
Rest p.PartKind ws = (n : NameTree) → PartsTail (part_colon n ws)
Rest p.PointFormal ws = (n : NameTree) (a : ℕ) → PartsTail (point_formal n a ws)
Rest p.PointDot ws = (n : NameTree) (a : ℕ) (f : NameTree) → PartsTail (point_dot n a f ws)
Rest p.PointProp ws = (n : NameTree) (a : ℕ) (f : NameTree) → PartsTail (point_dot n a f (w.Dot ∷ ws))
Rest p.PointOpen ws = (n : NameTree) (a : ℕ) (f m : NameTree) → PartsTail (point_open n a f m ws)
Rest p.FirstBins ws = BinsFrom ws
Rest p.NextBins ws = BinsTail ws
Rest p.BinsName ws = (a : ℕ) → BinsFrom (w.Name k.Bins a ∷ ws)
Rest p.BinsKind ws = (a : ℕ) (n : NameTree) → BinsFrom (bins_name a n ws)
Rest p.EachClose ws = (a : ℕ) (n : NameTree) (b : ℕ) → BinsFrom (bins_name a n (w.OpenBracket b ∷ ws))
Rest p.BinsEqual ws = (a : ℕ) (n : NameTree) (b : ℕ) → BinsFrom (bins_name a n (w.OpenBracket b ∷ (w.CloseBracket ∷ ws)))
Rest p.BinsOpen ws = (a : ℕ) (n : NameTree) (e : Option ℕ) → BinsFrom (bins_name a n (each_words e ++ w.Equal ∷ ws))
Rest p.Range ws = RangeFrom ws
Rest p.Digits ws = (a : ℕ) → RangeFrom (w.Minus a ∷ ws)
Rest p.Low ws = (a : ℕ) → RangeFrom (w.OpenBracket a ∷ ws)
Rest p.LowDigits ws = (a m : ℕ) → RangeFrom (w.OpenBracket a ∷ (w.Minus m ∷ ws))
Rest p.RangeColon ws = (a : ℕ) (l : NumTree) → RangeFrom (range_low a l ws)
Rest p.High ws = (a : ℕ) (l : NumTree) → RangeFrom (range_low a l (w.Colon ∷ ws))
Rest p.HighDigits ws = (a : ℕ) (l : NumTree) (m : ℕ) → RangeFrom (range_low a l (w.Colon ∷ (w.Minus m ∷ ws)))
Rest p.RangeClose ws = (a : ℕ) (l h : NumTree) → RangeFrom (range_high a l h ws)
Rest p.NextRange ws = RangeTail ws
Rest p.BinsEnd ws = BinsEnd ws
Rest p.CrossFirst ws = (n : NameTree) (a : ℕ) → PartsTail (cross_first n a ws)
Rest p.CrossComma ws = (n : NameTree) (a : ℕ) (f : NameTree) → PartsTail (cross_first n a (named f ∷ ws))
Rest p.CrossNext ws = CrossFrom ws
Rest p.CrossMore ws = CrossTail ws

-- ---- one piece more

group-of : (a : ℕ) (n : NameTree) (f s : ℕ) (c o : NameTree) (ws : List Word) → PartsTail ws → GroupsFrom (head_class a n f s c (named o ∷ (w.CloseParen ∷ (w.Semicolon ∷ ws))))
group-of a n f s c o ws h =
    let head : HeadTree = record { at = a; name = n; function = f; sample = s; class = c; formal = o } in
    let parts : List Word = flat_map part_words h.parts in
    record {
      groups = record { head = head; parts = h.parts } ∷ h.groups.groups;
      whole = ap (head_words head) (h.whole ∙ ap (λ z. parts ++ w.EndGroup ∷ z) h.groups.whole ∙ sym (append_assoc parts (w.EndGroup ∷ []) (groups_words h.groups.groups)));
    }

parts-end : (ws : List Word) → GroupsFrom ws → PartsTail (w.EndGroup ∷ ws)
parts-end ws h = record { parts = []; more = ws; whole = refl; groups = h }

parts-more : (t : PartTree) (ws : List Word) → PartsTail ws → PartsTail (part_words t ++ ws)
parts-more t ws h = record {
  parts = t ∷ h.parts;
  more = h.more;
  whole = ap (λ z. part_words t ++ z) h.whole ∙ sym (append_assoc (part_words t) (flat_map part_words h.parts) (w.EndGroup ∷ h.more));
  groups = h.groups;
}

parts-are : (xs ws : List Word) → xs ≡ ws → PartsTail ws → PartsTail xs
parts-are xs ws e h = record { parts = h.parts; more = h.more; whole = e ∙ h.whole; groups = h.groups }

point-of : (n : NameTree) (a : ℕ) (f m : NameTree) (ws : List Word) → BinsFrom ws → PartsTail (point_open n a f m (w.OpenBrace ∷ ws))
point-of n a f m ws h =
    let first : List Word = bins_words h.first in
    let others : List Word = flat_map bins_words h.tail.others in
    let t : PartTree = point n a f m h.first h.tail.others in
    parts-are (point_open n a f m (w.OpenBrace ∷ ws)) (part_words t ++ h.tail.more)
    (ap (λ z. point_open n a f m (w.OpenBrace ∷ z))
    (h.whole
    ∙ ap (λ z. first ++ z) (h.tail.whole ∙ sym (append_assoc others (w.CloseBrace ∷ []) h.tail.more))
    ∙ sym (append_assoc first (others ++ w.CloseBrace ∷ []) h.tail.more)))
    (parts-more t h.tail.more h.tail.parts)

cross-of : (n : NameTree) (a : ℕ) (f : NameTree) (ws : List Word) → CrossFrom ws → PartsTail (cross_first n a (named f ∷ (w.Comma ∷ ws)))
cross-of n a f ws h =
    let others : List Word = flat_map other_name h.tail.others in
    let t : PartTree = cross n a f h.first h.tail.others in
    parts-are (cross_first n a (named f ∷ (w.Comma ∷ ws))) (part_words t ++ h.tail.more)
    (ap (λ z. cross_first n a (named f ∷ (w.Comma ∷ z))) (h.whole ∙ ap (λ z. named h.first ∷ z) (h.tail.whole ∙ sym (append_assoc others (w.Semicolon ∷ []) h.tail.more))))
    (parts-more t h.tail.more h.tail.parts)

cross-end : (ws : List Word) → PartsTail ws → CrossTail (w.Semicolon ∷ ws)
cross-end ws h = record { others = []; more = ws; whole = refl; parts = h }

cross-more : (ws : List Word) → CrossFrom ws → CrossTail (w.Comma ∷ ws)
cross-more ws h = record { others = h.first ∷ h.tail.others; more = h.tail.more; whole = ap (λ z. w.Comma ∷ z) (h.whole ∙ ap (λ z. named h.first ∷ z) h.tail.whole); parts = h.tail.parts }

bins-end : (ws : List Word) → PartsTail ws → BinsTail (w.CloseBrace ∷ ws)
bins-end ws h = record { others = []; more = ws; whole = refl; parts = h }

bins-more : (ws : List Word) → BinsFrom ws → BinsTail ws
bins-more ws h = record {
  others = h.first ∷ h.tail.others;
  more = h.tail.more;
  whole = h.whole ∙ ap (λ z. bins_words h.first ++ z) h.tail.whole ∙ sym (append_assoc (bins_words h.first) (flat_map bins_words h.tail.others) (w.CloseBrace ∷ h.tail.more));
  parts = h.tail.parts;
}

-- from `{` of a `bins` on
bins-of : (a : ℕ) (n : NameTree) (e : Option ℕ) (ws : List Word) → RangeFrom ws → BinsFrom (bins_name a n (each_words e ++ w.Equal ∷ (w.OpenBrace ∷ ws)))
bins-of a n e ws h =
    let first : List Word = range_words h.first in
    let others : List Word = flat_map other_range h.tail.others in
    let end : List Word = w.CloseBrace ∷ (w.Semicolon ∷ []) in
    let ranges : ws ≡ (first ++ (others ++ end)) ++ h.tail.more =
    h.whole
    ∙ ap (λ z. first ++ z) (h.tail.whole ∙ sym (append_assoc others end h.tail.more))
    ∙ sym (append_assoc first (others ++ end) h.tail.more)
    in
    record {
      first = record { at = a; name = n; each = e; first = h.first; others = h.tail.others };
      more = h.tail.more;
      whole =
          ap (λ z. bins_name a n (each_words e ++ w.Equal ∷ (w.OpenBrace ∷ z))) ranges
          ∙ ap (bins_name a n) (sym (append_assoc (each_words e) (w.Equal ∷ (w.OpenBrace ∷ (first ++ (others ++ end)))) h.tail.more));
      tail = h.tail.tail;
    }

ranges-end : (ws : List Word) → BinsEnd ws → RangeTail (w.CloseBrace ∷ ws)
ranges-end ws h = record { others = []; more = h.more; whole = ap (λ z. w.CloseBrace ∷ z) h.whole; tail = h.tail }

ranges-more : (ws : List Word) → RangeFrom ws → RangeTail (w.Comma ∷ ws)
ranges-more ws h =
    let others : List Word = flat_map other_range h.tail.others in
    record {
      others = h.first ∷ h.tail.others;
      more = h.tail.more;
      whole =
          ap (λ z. w.Comma ∷ z)
          (h.whole ∙ ap (λ z. range_words h.first ++ z) h.tail.whole ∙ sym (append_assoc (range_words h.first) others (w.CloseBrace ∷ (w.Semicolon ∷ h.tail.more))));
      tail = h.tail.tail;
    }

range-of : (t : RangeTree) (ws : List Word) → RangeTail ws → RangeFrom (range_words t ++ ws)
range-of t ws h = record { first = t; more = ws; whole = refl; tail = h }

between-of : (a : ℕ) (l h : NumTree) (ws : List Word) → RangeTail ws → RangeFrom (range_high a l h (w.CloseBracket ∷ ws))
between-of a l h ws t = record {
  first = between a l h;
  more = ws;
  whole =
      ap (λ z. w.OpenBracket a ∷ (num_words l ++ w.Colon ∷ z)) (sym (append_assoc (num_words h) (w.CloseBracket ∷ []) ws))
      ∙ ap (λ z. w.OpenBracket a ∷ z) (sym (append_assoc (num_words l) (w.Colon ∷ (num_words h ++ w.CloseBracket ∷ [])) ws));
  tail = t;
}

-- ---- one word back

abbrev Backs : Place → Word → List Word → Option Move → Type 0
Backs place x ws None = Unit {0}
Backs place x ws (Some m) = Rest m.place ws → Rest place (x ∷ ws)

bins-back : (place : Place) (x : Word) (ws : List Word) → Backs place x ws (in_bins place x)
bins-back p.BinsName (w.Name key at) ws = λ h a. h a (name_of key at)
bins-back p.BinsName _ ws = tt
bins-back p.BinsKind (w.OpenBracket at) ws = λ h a n. h a n at
bins-back p.BinsKind w.Equal ws = λ h a n. h a n None
bins-back p.BinsKind _ ws = tt
bins-back p.EachClose w.CloseBracket ws = λ h. h
bins-back p.EachClose _ ws = tt
bins-back p.BinsEqual w.Equal ws = λ h a n b. h a n (Some b)
bins-back p.BinsEqual _ ws = tt
bins-back p.BinsOpen w.OpenBrace ws = λ h a n e. bins-of a n e ws h
bins-back p.BinsOpen _ ws = tt
bins-back p.Range (w.Decimal at) ws = λ h. range-of (single (plain at)) ws h
bins-back p.Range (w.Minus at) ws = λ h. h at
bins-back p.Range (w.OpenBracket at) ws = λ h. h at
bins-back p.Range _ ws = tt
bins-back p.Digits (w.Decimal at) ws = λ h a. range-of (single (minus a at)) ws h
bins-back p.Digits _ ws = tt
bins-back p.Low (w.Decimal at) ws = λ h a. h a (plain at)
bins-back p.Low (w.Minus at) ws = λ h a. h a at
bins-back p.Low _ ws = tt
bins-back p.LowDigits (w.Decimal at) ws = λ h a m. h a (minus m at)
bins-back p.LowDigits _ ws = tt
bins-back p.RangeColon w.Colon ws = λ h. h
bins-back p.RangeColon _ ws = tt
bins-back p.High (w.Decimal at) ws = λ h a l. h a l (plain at)
bins-back p.High (w.Minus at) ws = λ h a l. h a l at
bins-back p.High _ ws = tt
bins-back p.HighDigits (w.Decimal at) ws = λ h a l m. h a l (minus m at)
bins-back p.HighDigits _ ws = tt
bins-back p.RangeClose w.CloseBracket ws = λ h a l u. between-of a l u ws h
bins-back p.RangeClose _ ws = tt
bins-back p.NextRange w.Comma ws = λ h. ranges-more ws h
bins-back p.NextRange w.CloseBrace ws = λ h. ranges-end ws h
bins-back p.NextRange _ ws = tt
bins-back p.BinsEnd w.Semicolon ws = λ h. record { more = ws; whole = refl; tail = h }
bins-back p.BinsEnd _ ws = tt
bins-back _ x ws = tt

kind-back : (key : Key) (at : ℕ) (ws : List Word) → Backs p.PartKind (w.Name key at) ws (goes p.PartKind (w.Name key at))
kind-back k.CoverPoint at ws = λ h n. h n at
kind-back k.Cross at ws = λ h n. h n at
kind-back _ at ws = tt

first_bins-back : (key : Key) (at : ℕ) (ws : List Word) → Backs p.FirstBins (w.Name key at) ws (goes p.FirstBins (w.Name key at))
first_bins-back k.Bins at ws = λ h. h at
first_bins-back _ at ws = tt

next_bins-back : (key : Key) (at : ℕ) (ws : List Word) → Backs p.NextBins (w.Name key at) ws (goes p.NextBins (w.Name key at))
next_bins-back k.Bins at ws = λ h. bins-more (w.Name k.Bins at ∷ ws) (h at)
next_bins-back _ at ws = tt

part-back : (place : Place) (x : Word) (ws : List Word) → Backs place x ws (in_part place x)
part-back p.PartColon w.Colon ws = λ h. h
part-back p.PartColon _ ws = tt
part-back p.PartKind (w.Name key at) ws = kind-back key at ws
part-back p.PartKind _ ws = tt
part-back p.PointFormal (w.Name key at) ws = λ h n a. h n a (name_of key at)
part-back p.PointFormal _ ws = tt
part-back p.PointDot w.Dot ws = λ h. h
part-back p.PointDot _ ws = tt
part-back p.PointProp (w.Name key at) ws = λ h n a f. h n a f (name_of key at)
part-back p.PointProp _ ws = tt
part-back p.PointOpen w.OpenBrace ws = λ h n a f m. point-of n a f m ws h
part-back p.PointOpen _ ws = tt
part-back p.FirstBins (w.Name key at) ws = first_bins-back key at ws
part-back p.FirstBins _ ws = tt
part-back p.NextBins (w.Name key at) ws = next_bins-back key at ws
part-back p.NextBins w.CloseBrace ws = λ h. bins-end ws h
part-back p.NextBins _ ws = tt
part-back p.CrossFirst (w.Name key at) ws = λ h n a. h n a (name_of key at)
part-back p.CrossFirst _ ws = tt
part-back p.CrossComma w.Comma ws = λ h n a f. cross-of n a f ws h
part-back p.CrossComma _ ws = tt
part-back p.CrossNext (w.Name key at) ws = λ h. record { first = name_of key at; more = ws; whole = refl; tail = h }
part-back p.CrossNext _ ws = tt
part-back p.CrossMore w.Comma ws = λ h. cross-more ws h
part-back p.CrossMore w.Semicolon ws = λ h. cross-end ws h
part-back p.CrossMore _ ws = tt
part-back place x ws = bins-back place x ws

between-back : (key : Key) (at : ℕ) (ws : List Word) → Backs p.Between (w.Name key at) ws (goes p.Between (w.Name key at))
between-back k.CoverGroup at ws = λ h. h at
between-back _ at ws = tt

function-back : (key : Key) (at : ℕ) (ws : List Word) → Backs p.Function (w.Name key at) ws (goes p.Function (w.Name key at))
function-back k.Function at ws = λ h a n. h a n at
function-back _ at ws = tt

sample-back : (key : Key) (at : ℕ) (ws : List Word) → Backs p.Sample (w.Name key at) ws (goes p.Sample (w.Name key at))
sample-back k.Sample at ws = λ h a n f. h a n f at
sample-back _ at ws = tt

back : (place : Place) (x : Word) (ws : List Word) → Backs place x ws (goes place x)
back p.Between (w.Name key at) ws = between-back key at ws
back p.Between _ ws = tt
back p.GroupName (w.Name key at) ws = λ h a. h a (name_of key at)
back p.GroupName _ ws = tt
back p.With w.With ws = λ h. h
back p.With _ ws = tt
back p.Function (w.Name key at) ws = function-back key at ws
back p.Function _ ws = tt
back p.Sample (w.Name key at) ws = sample-back key at ws
back p.Sample _ ws = tt
back p.SampleOpen w.OpenParen ws = λ h. h
back p.SampleOpen _ ws = tt
back p.Class (w.Name key at) ws = λ h a n f s. h a n f s (name_of key at)
back p.Class _ ws = tt
back p.Formal (w.Name key at) ws = λ h a n f s c. h a n f s c (name_of key at)
back p.Formal _ ws = tt
back p.SampleClose w.CloseParen ws = λ h. h
back p.SampleClose _ ws = tt
back p.HeadEnd w.Semicolon ws = λ h a n f s c o. group-of a n f s c o ws h
back p.HeadEnd _ ws = tt
back p.NextPart (w.Name key at) ws = λ h. h (name_of key at)
back p.NextPart w.EndGroup ws = λ h. parts-end ws h
back p.NextPart _ ws = tt
back place x ws = part-back place x ws

-- ---- all words

at_end : (place : Place) → is_between place ≡ true → Rest place []
at_end p.Between h = record { groups = []; whole = refl }
at_end _ h = absurd (let z : false ≡ true = h in cc)

all_back : (ws : List Word) (r : Reading) → accepts r ws ≡ true → Rest r.place ws
all_back [] r h = at_end r.place h
all_back (x ∷ ws) r h = go (goes r.place x) (back r.place x ws) (λ q k. all_back ws q k) h
  where
    go : (o : Option Move) → Backs r.place x ws o → ((q : Reading) → accepts q ws ≡ true → Rest q.place ws)
        → elim (option_map (moved_to r x) o) [ Some q ↦ accepts q ws | None ↦ false ] ≡ true → Rest r.place (x ∷ ws)
    go None b k h = absurd (let z : false ≡ true = h in cc)
    go (Some m) b k h = b (k (moved_to r x m) h)

pub groups-from : (ws : List Word) → accepts begin ws ≡ true → (ts : List GroupTree) × (ws ≡ groups_words ts)
groups-from ws h = let r : GroupsFrom ws = all_back ws begin h in (r.groups, r.whole)
