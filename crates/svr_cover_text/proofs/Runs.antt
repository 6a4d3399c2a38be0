-- Reading as a machine over words: groups are run through, and from each place they can be completed
use Rattle.std.proofs.Common.{◌≡◌, ℕ, Bool, true, false, List, [], ◌∷◌, ◌++◌, map, Option, None, Some, option_map, refl, sym, ap, ◌∙◌, append_assoc, append-nil}
use Rattle.std.specs.Prelude.{is_some}
use Rattle.std.specs.List.{flat_map}
use Rattle.svr_cover_text.specs.declared.word.Key.TheVariants as k
use Rattle.svr_cover_text.specs.declared.word.Word.{Word}
use Rattle.svr_cover_text.specs.declared.word.Word.TheVariants as w
use Rattle.svr_cover_text.specs.declared.place.Place.{Place}
use Rattle.svr_cover_text.specs.declared.place.Place.TheVariants as p
use Rattle.svr_cover_text.specs.declared.text.RangeText.{RangeText}
use Rattle.svr_cover_text.specs.declared.text.BinsText.{BinsText}
use Rattle.svr_cover_text.specs.declared.text.PartText.{PartText}
use Rattle.svr_cover_text.specs.declared.text.GroupText.{GroupText}
use Rattle.svr_cover_text.specs.declared.building.RangeHead.{RangeHead}
use Rattle.svr_cover_text.specs.declared.building.BinsHead.{BinsHead}
use Rattle.svr_cover_text.specs.declared.building.PartHead.{PartHead}
use Rattle.svr_cover_text.specs.declared.building.GroupHead.{GroupHead}
use Rattle.svr_cover_text.specs.declared.building.Building.{Building}
use Rattle.svr_cover_text.specs.declared.reading.Reading.{Reading}
use Rattle.svr_cover_text.specs.Tree.{NameTree, plain, minus, RangeTree, single, between, BinsTree, PartTree, point, cross, GroupTree, num_text, range_text, bins_text, name_number, part_text, group_text, list_text}
use Rattle.svr_cover_text.specs.Spelled.{range_words, other_range, ranges_words, bins_words, other_name, part_words, group_words, groups_words}
use Rattle.svr_cover_text.specs.Machine.{begin, step, goes, moved_to, is_between}

abbrev pub run : Reading → List Word → Option Reading
run r [] = Some r
run r (x ∷ ws) = elim (step r x) [ Some q ↦ run q ws | None ↦ None ]

pub run-step : (r q : Reading) (x : Word) (ws : List Word) → step r x ≡ Some q → run r (x ∷ ws) ≡ run q ws
run-step r q x ws h = rw (h, run) refl

nothing_some : {A : Type 0} (x : A) → None ≡ Some x → ⊥
nothing_some x h = cc

same_some : {A : Type 0} (x y : A) → Some x ≡ Some y → x ≡ y
same_some x y h = cc

pub run-append : (xs ys : List Word) (r q : Reading) → run r xs ≡ Some q → run r (xs ++ ys) ≡ run q ys
run-append [] ys r q h = ap (λ z. run z ys) (same_some r q h)
run-append (x ∷ xs) ys r q h = go (step r x) (λ s k. run-append xs ys s q k) h
  where
    go : (o : Option Reading) → ((s : Reading) → run s xs ≡ Some q → run s (xs ++ ys) ≡ run q ys)
        → elim o [ Some s ↦ run s xs | None ↦ None ] ≡ Some q → elim o [ Some s ↦ run s (xs ++ ys) | None ↦ None ] ≡ run q ys
    go None k h = absurd (nothing_some q h)
    go (Some s) k h = k s h

pub run-front : (xs ys : List Word) (r t : Reading) → run r (xs ++ ys) ≡ Some t → (q : Reading) × (run r xs ≡ Some q)
run-front [] ys r t h = (r, refl)
run-front (x ∷ xs) ys r t h = go (step r x) (λ s k. run-front xs ys s t k) h
  where
    go : (o : Option Reading) → ((s : Reading) → run s (xs ++ ys) ≡ Some t → (q : Reading) × (run s xs ≡ Some q))
        → elim o [ Some s ↦ run s (xs ++ ys) | None ↦ None ] ≡ Some t → (q : Reading) × (elim o [ Some s ↦ run s xs | None ↦ None ] ≡ Some q)
    go None k h = absurd (nothing_some t h)
    go (Some s) k h = k s h

-- ---- groups are run through

abbrev pub spot : Place → Building → Reading
spot place b = record { place = place; made = b }

-- what stands at each level: the whole ones, and the head of the one at hand
abbrev built : List GroupText → GroupHead → List PartText → PartHead → List BinsText → BinsHead → List RangeText → RangeHead → List ℕ → Building
built gs g ps q bs b rs r cs = record { groups = gs; group = g; parts = ps; part = q; bins = bs; bin = b; ranges = rs; range = r; points = cs }

-- the words lead behind a range, with these ranges
record Ranges (from : Reading) (ws : List Word) (gs : List GroupText) (g : GroupHead) (ps : List PartText) (q : PartHead) (bs : List BinsText) (b : BinsHead) (rs : List RangeText) : Type 0 where
  pub range : RangeHead
  pub ran : run from ws ≡ Some (spot p.NextRange (built gs g ps q bs b rs range []))

range-run : (t : RangeTree) (gs : List GroupText) (g : GroupHead) (ps : List PartText) (q : PartHead) (bs : List BinsText) (b : BinsHead) (rs : List RangeText) (r : RangeHead)
    → Ranges (spot p.Range (built gs g ps q bs b rs r [])) (range_words t) gs g ps q bs b (rs ++ range_text t ∷ [])
range-run (single (plain n)) gs g ps q bs b rs r = record { range = r; ran = refl }
range-run (single (minus m n)) gs g ps q bs b rs r = record { range = record { at = m; low = r.low }; ran = refl }
range-run (between a (plain l) (plain h)) gs g ps q bs b rs r = record { range = record { at = a; low = num_text (plain l) }; ran = refl }
range-run (between a (plain l) (minus n h)) gs g ps q bs b rs r = record { range = record { at = a; low = num_text (plain l) }; ran = refl }
range-run (between a (minus m l) (plain h)) gs g ps q bs b rs r = record { range = record { at = a; low = num_text (minus m l) }; ran = refl }
range-run (between a (minus m l) (minus n h)) gs g ps q bs b rs r = record { range = record { at = a; low = num_text (minus m l) }; ran = refl }

ranges-run : (ts : List RangeTree) (gs : List GroupText) (g : GroupHead) (ps : List PartText) (q : PartHead) (bs : List BinsText) (b : BinsHead) (rs : List RangeText) (r : RangeHead)
    → Ranges (spot p.NextRange (built gs g ps q bs b rs r [])) (flat_map other_range ts) gs g ps q bs b (rs ++ map range_text ts)
ranges-run [] gs g ps q bs b rs r = record { range = r; ran = ap (λ z. Some (spot p.NextRange (built gs g ps q bs b z r []))) (sym (append-nil rs)) }
ranges-run (t ∷ ts) gs g ps q bs b rs r =
    let here = range-run t gs g ps q bs b rs r in
    let more = ranges-run ts gs g ps q bs b (rs ++ range_text t ∷ []) here.range in
    record {
      range = more.range;
      ran =
          run-append (range_words t) (flat_map other_range ts) (spot p.Range (built gs g ps q bs b rs r [])) _ here.ran
          ∙ more.ran
          ∙ ap (λ z. Some (spot p.NextRange (built gs g ps q bs b z more.range []))) (append_assoc rs (range_text t ∷ []) (map range_text ts));
    }

-- the words lead behind a `bins`, with these
record Binned (from : Reading) (ws : List Word) (gs : List GroupText) (g : GroupHead) (ps : List PartText) (q : PartHead) (bs : List BinsText) : Type 0 where
  pub bin : BinsHead
  pub range : RangeHead
  pub ran : run from ws ≡ Some (spot p.NextBins (built gs g ps q bs bin [] range []))

-- behind `{`
braced-run : (t : RangeTree) (ts : List RangeTree) (gs : List GroupText) (g : GroupHead) (ps : List PartText) (q : PartHead) (bs : List BinsText) (b : BinsHead) (r : RangeHead)
    → Binned (spot p.Range (built gs g ps q bs b [] r [])) (ranges_words t ts) gs g ps q (bs ++ record { name = b.name; each = b.each; ranges = range_text t ∷ map range_text ts } ∷ [])
braced-run t ts gs g ps q bs b r =
    let end : List Word = w.CloseBrace ∷ (w.Semicolon ∷ []) in
    let here = range-run t gs g ps q bs b [] r in
    let more = ranges-run ts gs g ps q bs b (range_text t ∷ []) here.range in
    record {
      bin = b;
      range = more.range;
      ran =
          run-append (range_words t) (flat_map other_range ts ++ end) (spot p.Range (built gs g ps q bs b [] r [])) _ here.ran
          ∙ run-append (flat_map other_range ts) end (spot p.NextRange (built gs g ps q bs b (range_text t ∷ []) here.range [])) _ more.ran;
    }

-- where a `bins` begins
abbrev bins_place : Bool → Place
bins_place true = p.FirstBins
bins_place false = p.NextBins

named-run : (o : Option ℕ) (a : ℕ) (n : NameTree) (t : RangeTree) (ts : List RangeTree) (first : Bool) (gs : List GroupText) (g : GroupHead) (ps : List PartText) (q : PartHead) (bs : List BinsText) (b : BinsHead) (r : RangeHead)
    → Binned (spot (bins_place first) (built gs g ps q bs b [] r [])) (bins_words (record { at = a; name = n; each = o; first = t; others = ts })) gs g ps q
    (bs ++ record { name = n.at; each = is_some o; ranges = range_text t ∷ map range_text ts } ∷ [])
named-run None a n t ts true gs g ps q bs b r = let x = braced-run t ts gs g ps q bs (record { name = n.at; each = false }) r in record { bin = x.bin; range = x.range; ran = x.ran }
named-run None a n t ts false gs g ps q bs b r = let x = braced-run t ts gs g ps q bs (record { name = n.at; each = false }) r in record { bin = x.bin; range = x.range; ran = x.ran }
named-run (Some m) a n t ts true gs g ps q bs b r = let x = braced-run t ts gs g ps q bs (record { name = n.at; each = true }) r in record { bin = x.bin; range = x.range; ran = x.ran }
named-run (Some m) a n t ts false gs g ps q bs b r = let x = braced-run t ts gs g ps q bs (record { name = n.at; each = true }) r in record { bin = x.bin; range = x.range; ran = x.ran }

bins-run : (t : BinsTree) (first : Bool) (gs : List GroupText) (g : GroupHead) (ps : List PartText) (q : PartHead) (bs : List BinsText) (b : BinsHead) (r : RangeHead)
    → Binned (spot (bins_place first) (built gs g ps q bs b [] r [])) (bins_words t) gs g ps q (bs ++ bins_text t ∷ [])
bins-run t first gs g ps q bs b r = named-run t.each t.at t.name t.first t.others first gs g ps q bs b r

many-run : (ts : List BinsTree) (gs : List GroupText) (g : GroupHead) (ps : List PartText) (q : PartHead) (bs : List BinsText) (b : BinsHead) (r : RangeHead)
    → Binned (spot p.NextBins (built gs g ps q bs b [] r [])) (flat_map bins_words ts) gs g ps q (bs ++ map bins_text ts)
many-run [] gs g ps q bs b r = record { bin = b; range = r; ran = ap (λ z. Some (spot p.NextBins (built gs g ps q z b [] r []))) (sym (append-nil bs)) }
many-run (t ∷ ts) gs g ps q bs b r =
    let here = bins-run t false gs g ps q bs b r in
    let more = many-run ts gs g ps q (bs ++ bins_text t ∷ []) here.bin here.range in
    record {
      bin = more.bin;
      range = more.range;
      ran =
          run-append (bins_words t) (flat_map bins_words ts) (spot p.NextBins (built gs g ps q bs b [] r [])) _ here.ran
          ∙ more.ran
          ∙ ap (λ z. Some (spot p.NextBins (built gs g ps q z more.bin [] more.range []))) (append_assoc bs (bins_text t ∷ []) (map bins_text ts));
    }

-- the points of a cross behind the first two
crossed-run : (ts : List NameTree) (gs : List GroupText) (g : GroupHead) (ps : List PartText) (q : PartHead) (b : BinsHead) (r : RangeHead) (cs : List ℕ)
    → run (spot p.CrossMore (built gs g ps q [] b [] r cs)) (flat_map other_name ts) ≡ Some (spot p.CrossMore (built gs g ps q [] b [] r (cs ++ map name_number ts)))
crossed-run [] gs g ps q b r cs = ap (λ z. Some (spot p.CrossMore (built gs g ps q [] b [] r z))) (sym (append-nil cs))
crossed-run (t ∷ ts) gs g ps q b r cs =
    crossed-run ts gs g ps q b r (cs ++ t.at ∷ [])
    ∙ ap (λ z. Some (spot p.CrossMore (built gs g ps q [] b [] r z))) (append_assoc cs (t.at ∷ []) (map name_number ts))

-- the words lead behind a part, with these parts
record Parted (from : Reading) (ws : List Word) (gs : List GroupText) (g : GroupHead) (ps : List PartText) : Type 0 where
  pub part : PartHead
  pub bin : BinsHead
  pub range : RangeHead
  pub ran : run from ws ≡ Some (spot p.NextPart (built gs g ps part [] bin [] range []))

part-run : (t : PartTree) (gs : List GroupText) (g : GroupHead) (ps : List PartText) (q : PartHead) (b : BinsHead) (r : RangeHead)
    → Parted (spot p.NextPart (built gs g ps q [] b [] r [])) (part_words t) gs g (ps ++ part_text t ∷ [])
part-run (point n a f m t ts) gs g ps q b r =
    let head : PartHead = record { name = n.at; formal = f.at; prop = m.at } in
    let here = bins-run t true gs g ps head [] b r in
    let more = many-run ts gs g ps head (bins_text t ∷ []) here.bin here.range in
    record {
      part = head;
      bin = more.bin;
      range = more.range;
      ran =
          run-append (bins_words t) (flat_map bins_words ts ++ w.CloseBrace ∷ []) (spot p.FirstBins (built gs g ps head [] b [] r [])) _ here.ran
          ∙ run-append (flat_map bins_words ts) (w.CloseBrace ∷ []) (spot p.NextBins (built gs g ps head (bins_text t ∷ []) here.bin [] here.range [])) _ more.ran;
    }
part-run (cross n a f m ts) gs g ps q b r =
    let head : PartHead = record { name = n.at; formal = q.formal; prop = q.prop } in
    record {
      part = head;
      bin = b;
      range = r;
      ran = run-append (flat_map other_name ts) (w.Semicolon ∷ []) (spot p.CrossMore (built gs g ps head [] b [] r (f.at ∷ (m.at ∷ [])))) _ (crossed-run ts gs g ps head b r (f.at ∷ (m.at ∷ [])));
    }

parts-run : (ts : List PartTree) (gs : List GroupText) (g : GroupHead) (ps : List PartText) (q : PartHead) (b : BinsHead) (r : RangeHead)
    → Parted (spot p.NextPart (built gs g ps q [] b [] r [])) (flat_map part_words ts) gs g (ps ++ map part_text ts)
parts-run [] gs g ps q b r = record { part = q; bin = b; range = r; ran = ap (λ z. Some (spot p.NextPart (built gs g z q [] b [] r []))) (sym (append-nil ps)) }
parts-run (t ∷ ts) gs g ps q b r =
    let here = part-run t gs g ps q b r in
    let more = parts-run ts gs g (ps ++ part_text t ∷ []) here.part here.bin here.range in
    record {
      part = more.part;
      bin = more.bin;
      range = more.range;
      ran =
          run-append (part_words t) (flat_map part_words ts) (spot p.NextPart (built gs g ps q [] b [] r [])) _ here.ran
          ∙ more.ran
          ∙ ap (λ z. Some (spot p.NextPart (built gs g z more.part [] more.bin [] more.range []))) (append_assoc ps (part_text t ∷ []) (map part_text ts));
    }

-- the words lead between two groups, with these before
pub record Grouped (from : Reading) (ws : List Word) (gs : List GroupText) : Type 0 where
  pub group : GroupHead
  pub part : PartHead
  pub bin : BinsHead
  pub range : RangeHead
  pub ran : run from ws ≡ Some (spot p.Between (built gs group [] part [] bin [] range []))

group-run : (t : GroupTree) (gs : List GroupText) (g : GroupHead) (q : PartHead) (b : BinsHead) (r : RangeHead)
    → Grouped (spot p.Between (built gs g [] q [] b [] r [])) (group_words t) (gs ++ group_text t ∷ [])
group-run t gs g q b r =
    let head : GroupHead = record { name = t.head.name.at; class = t.head.class.at; formal = t.head.formal.at } in
    let parts = parts-run t.parts gs head [] q b r in
    record {
      group = head;
      part = parts.part;
      bin = parts.bin;
      range = parts.range;
      ran = run-append (flat_map part_words t.parts) (w.EndGroup ∷ []) (spot p.NextPart (built gs head [] q [] b [] r [])) _ parts.ran;
    }

groups_run : (ts : List GroupTree) (gs : List GroupText) (g : GroupHead) (q : PartHead) (b : BinsHead) (r : RangeHead)
    → Grouped (spot p.Between (built gs g [] q [] b [] r [])) (groups_words ts) (gs ++ list_text ts)
groups_run [] gs g q b r = record { group = g; part = q; bin = b; range = r; ran = ap (λ z. Some (spot p.Between (built z g [] q [] b [] r []))) (sym (append-nil gs)) }
groups_run (t ∷ ts) gs g q b r =
    let here = group-run t gs g q b r in
    let more = groups_run ts (gs ++ group_text t ∷ []) here.group here.part here.bin here.range in
    record {
      group = more.group;
      part = more.part;
      bin = more.bin;
      range = more.range;
      ran =
          run-append (group_words t) (groups_words ts) (spot p.Between (built gs g [] q [] b [] r [])) _ here.ran
          ∙ more.ran
          ∙ ap (λ z. Some (spot p.Between (built z more.group [] more.part [] more.bin [] more.range []))) (append_assoc gs (group_text t ∷ []) (list_text ts));
    }

-- the words lead between two groups, and these are read
pub record Through (ws : List Word) (gs : List GroupText) : Type 0 where
  pub to : Reading
  pub ran : run begin ws ≡ Some to
  pub place : is_between to.place ≡ true
  pub groups : to.made.groups ≡ gs

pub through : (ts : List GroupTree) → Through (groups_words ts) (list_text ts)
through ts =
    let g : GroupHead = record { name = 0; class = 0; formal = 0 } in
    let q : PartHead = record { name = 0; formal = 0; prop = 0 } in
    let b : BinsHead = record { name = 0; each = false } in
    let r : RangeHead = record { at = 0; low = record { negative = false; digits = 0 } } in
    let x = groups_run ts [] g q b r in
    record { to = spot p.Between (built (list_text ts) x.group [] x.part [] x.bin [] x.range []); ran = x.ran; place = refl; groups = refl }

-- ---- from each place groups can be completed

abbrev some_name : Word
some_name = w.Name k.Plain 0

abbrev fill_parts : List Word
fill_parts = w.EndGroup ∷ []

abbrev fill_sample : List Word
fill_sample = w.OpenParen ∷ (some_name ∷ (some_name ∷ (w.CloseParen ∷ (w.Semicolon ∷ fill_parts))))

abbrev fill_bins : List Word
fill_bins = w.CloseBrace ∷ fill_parts

abbrev fill_ranges : List Word
fill_ranges = w.CloseBrace ∷ (w.Semicolon ∷ fill_bins)

abbrev fill_range : List Word
fill_range = w.Decimal 0 ∷ fill_ranges

abbrev fill_close : List Word
fill_close = w.CloseBracket ∷ fill_ranges

abbrev fill_colon : List Word
fill_colon = w.Colon ∷ (w.Decimal 0 ∷ fill_close)

abbrev fill_values : List Word
fill_values = w.Equal ∷ (w.OpenBrace ∷ fill_range)

abbrev fill_first : List Word
fill_first = w.Name k.Bins 0 ∷ (some_name ∷ fill_values)

abbrev fill_open : List Word
fill_open = w.OpenBrace ∷ fill_first

abbrev fill_dot : List Word
fill_dot = w.Dot ∷ (some_name ∷ fill_open)

abbrev fill_kind : List Word
fill_kind = w.Name k.CoverPoint 0 ∷ (some_name ∷ fill_dot)

abbrev fill_cross : List Word
fill_cross = w.Semicolon ∷ fill_parts

abbrev pub fill : Place → List Word
fill p.Between = []
fill p.GroupName = some_name ∷ (w.With ∷ (w.Name k.Function 0 ∷ (w.Name k.Sample 0 ∷ fill_sample)))
fill p.With = w.With ∷ (w.Name k.Function 0 ∷ (w.Name k.Sample 0 ∷ fill_sample))
fill p.Function = w.Name k.Function 0 ∷ (w.Name k.Sample 0 ∷ fill_sample)
fill p.Sample = w.Name k.Sample 0 ∷ fill_sample
fill p.SampleOpen = fill_sample
fill p.Class = some_name ∷ (some_name ∷ (w.CloseParen ∷ (w.Semicolon ∷ fill_parts)))
fill p.Formal = some_name ∷ (w.CloseParen ∷ (w.Semicolon ∷ fill_parts))
fill p.SampleClose = w.CloseParen ∷ (w.Semicolon ∷ fill_parts)
fill p.HeadEnd = w.Semicolon ∷ fill_parts
fill p.NextPart = fill_parts
fill p.PartColon = w.Colon ∷ fill_kind
fill p.PartKind = fill_kind
fill p.PointFormal = some_name ∷ fill_dot
fill p.PointDot = fill_dot
fill p.PointProp = some_name ∷ fill_open
fill p.PointOpen = fill_open
fill p.FirstBins = fill_first
fill p.NextBins = fill_bins
fill p.BinsName = some_name ∷ fill_values
fill p.BinsKind = fill_values
fill p.EachClose = w.CloseBracket ∷ fill_values
fill p.BinsEqual = fill_values
fill p.BinsOpen = w.OpenBrace ∷ fill_range
fill p.Range = fill_range
fill p.Digits = fill_range
fill p.Low = w.Decimal 0 ∷ fill_colon
fill p.LowDigits = w.Decimal 0 ∷ fill_colon
fill p.RangeColon = fill_colon
fill p.High = w.Decimal 0 ∷ fill_close
fill p.HighDigits = w.Decimal 0 ∷ fill_close
fill p.RangeClose = fill_close
fill p.NextRange = fill_ranges
fill p.BinsEnd = w.Semicolon ∷ fill_bins
fill p.CrossFirst = some_name ∷ (w.Comma ∷ (some_name ∷ fill_cross))
fill p.CrossComma = w.Comma ∷ (some_name ∷ fill_cross)
fill p.CrossNext = some_name ∷ fill_cross
fill p.CrossMore = fill_cross

-- ---- runs to the end of groups

-- the words lead between two groups
abbrev pub accepts : Reading → List Word → Bool
accepts r [] = is_between r.place
accepts r (x ∷ ws) = elim (step r x) [ Some q ↦ accepts q ws | None ↦ false ]

pub fill-run : (place : Place) (b : Building) → accepts (spot place b) (fill place) ≡ true
fill-run p.Between b = refl
fill-run p.GroupName b = refl
fill-run p.With b = refl
fill-run p.Function b = refl
fill-run p.Sample b = refl
fill-run p.SampleOpen b = refl
fill-run p.Class b = refl
fill-run p.Formal b = refl
fill-run p.SampleClose b = refl
fill-run p.HeadEnd b = refl
fill-run p.NextPart b = refl
fill-run p.PartColon b = refl
fill-run p.PartKind b = refl
fill-run p.PointFormal b = refl
fill-run p.PointDot b = refl
fill-run p.PointProp b = refl
fill-run p.PointOpen b = refl
fill-run p.FirstBins b = refl
fill-run p.NextBins b = refl
fill-run p.BinsName b = refl
fill-run p.BinsKind b = refl
fill-run p.EachClose b = refl
fill-run p.BinsEqual b = refl
fill-run p.BinsOpen b = refl
fill-run p.Range b = refl
fill-run p.Digits b = refl
fill-run p.Low b = refl
fill-run p.LowDigits b = refl
fill-run p.RangeColon b = refl
fill-run p.High b = refl
fill-run p.HighDigits b = refl
fill-run p.RangeClose b = refl
fill-run p.NextRange b = refl
fill-run p.BinsEnd b = refl
fill-run p.CrossFirst b = refl
fill-run p.CrossComma b = refl
fill-run p.CrossNext b = refl
fill-run p.CrossMore b = refl

pub accepts-append : (xs ys : List Word) (r q : Reading) → run r xs ≡ Some q → accepts r (xs ++ ys) ≡ accepts q ys
accepts-append [] ys r q h = ap (λ z. accepts z ys) (same_some r q h)
accepts-append (x ∷ xs) ys r q h = go (step r x) (λ s k. accepts-append xs ys s q k) h
  where
    go : (o : Option Reading) → ((s : Reading) → run s xs ≡ Some q → accepts s (xs ++ ys) ≡ accepts q ys)
        → elim o [ Some s ↦ run s xs | None ↦ None ] ≡ Some q → elim o [ Some s ↦ accepts s (xs ++ ys) | None ↦ false ] ≡ accepts q ys
    go None k h = absurd (nothing_some q h)
    go (Some s) k h = k s h

-- ---- nothing goes on with the end of the text

no_move : (place : Place) → goes place w.End ≡ None
no_move p.Between = refl
no_move p.GroupName = refl
no_move p.With = refl
no_move p.Function = refl
no_move p.Sample = refl
no_move p.SampleOpen = refl
no_move p.Class = refl
no_move p.Formal = refl
no_move p.SampleClose = refl
no_move p.HeadEnd = refl
no_move p.NextPart = refl
no_move p.PartColon = refl
no_move p.PartKind = refl
no_move p.PointFormal = refl
no_move p.PointDot = refl
no_move p.PointProp = refl
no_move p.PointOpen = refl
no_move p.FirstBins = refl
no_move p.NextBins = refl
no_move p.BinsName = refl
no_move p.BinsKind = refl
no_move p.EachClose = refl
no_move p.BinsEqual = refl
no_move p.BinsOpen = refl
no_move p.Range = refl
no_move p.Digits = refl
no_move p.Low = refl
no_move p.LowDigits = refl
no_move p.RangeColon = refl
no_move p.High = refl
no_move p.HighDigits = refl
no_move p.RangeClose = refl
no_move p.NextRange = refl
no_move p.BinsEnd = refl
no_move p.CrossFirst = refl
no_move p.CrossComma = refl
no_move p.CrossNext = refl
no_move p.CrossMore = refl

pub end-stops : (r : Reading) → step r w.End ≡ None
end-stops r = ap (λ o. option_map (moved_to r w.End) o) (no_move r.place)
