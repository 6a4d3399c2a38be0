-- The same as the reader goes along: where it stands, what may come there, and what is kept of it
use Rattle.std.specs.Prelude.{◌≡◌, ℕ, zero, suc, Bool, true, false, List, [], ◌∷◌, ◌++◌, Option, Some, None, option_map, if◌then◌else◌}
use Rattle.svr_seq_text.specs.declared.word.Word.{Word}
use Rattle.svr_seq_text.specs.declared.word.Word.TheVariants as w
use Rattle.svr_seq_text.specs.declared.place.Place.{Place}
use Rattle.svr_seq_text.specs.declared.place.Place.TheVariants as p
use Rattle.svr_seq_text.specs.declared.place.Deed.{Deed}
use Rattle.svr_seq_text.specs.declared.place.Deed.TheVariants as d
use Rattle.svr_seq_text.specs.declared.place.Move.{Move}
use Rattle.svr_seq_text.specs.declared.text.ActText.{ActText}
use Rattle.svr_seq_text.specs.declared.text.ActText.TheVariants as a
use Rattle.svr_seq_text.specs.declared.text.PartText.{PartText}
use Rattle.svr_seq_text.specs.declared.text.PartText.TheVariants as t
use Rattle.svr_seq_text.specs.declared.text.SeqText.{SeqText}
use Rattle.svr_seq_text.specs.declared.building.Building.{Building}
use Rattle.svr_seq_text.specs.declared.reading.Reading.{Reading}
use Rattle.svr_seq_text.specs.Words.{is_opening, is_open_paren, is_close_paren, is_name, is_decimal, is_colon, is_semicolon, is_end, number_in}

-- ---- where a word leads, and what it adds

abbrev pub to : Place → Deed → Option Move
to place deed = Some (record { place = place; deed = deed })

abbrev pub only : Bool → Place → Deed → Option Move
only holds place deed = if holds then to place deed else None

abbrev pub at_start : Word → Option Move
at_start (w.Name at) = to p.StartClose d.Start
at_start w.CloseParen = to p.FirstProd d.Skip
at_start _ = None

abbrev pub part : Word → Option Move
part (w.Name at) = to p.NextPart d.NamePart
part (w.Repeat at) = to p.CountOpen d.Open
part (w.OpenBrace at) = to p.NextAct d.Open
part _ = None

abbrev pub rule_end : Word → Option Move
rule_end w.Bar = to p.FirstPart d.EndRule
rule_end w.Semicolon = to p.NextProd d.EndProduction
rule_end _ = None

abbrev pub next_part : Word → Option Move
next_part w.ColonEqual = to p.RuleWeight d.Skip
next_part w.Bar = to p.FirstPart d.EndRule
next_part w.Semicolon = to p.NextProd d.EndProduction
next_part word = part word

abbrev pub act : Word → Option Move
act (w.Name at) = to p.ActEnd d.Print
act (w.RandCase at) = to p.BranchWeight d.Choose
act _ = None

abbrev pub in_block : Word → Option Move
in_block w.CloseBrace = to p.NextPart d.BlockPart
in_block word = act word

abbrev pub in_choice : Word → Option Move
in_choice (w.Decimal at) = to p.BranchColon d.Branch
in_choice w.EndCase = to p.NextAct d.EndChoice
in_choice _ = None

-- behind an act: in a block, or in so many choices
abbrev pub next_act : ℕ → Word → Option Move
next_act zero word = in_block word
next_act (suc depth) word = in_choice word

abbrev pub next_prod : Word → Option Move
next_prod (w.Name at) = to p.ProdColon d.Production
next_prod w.EndSequence = to p.Last d.Skip
next_prod _ = None

abbrev pub goes : Place → ℕ → Word → Option Move
goes p.Opening depth word = only (is_opening word) p.StartOpen d.Skip
goes p.StartOpen depth word = only (is_open_paren word) p.Start d.Skip
goes p.Start depth word = at_start word
goes p.StartClose depth word = only (is_close_paren word) p.FirstProd d.Skip
goes p.FirstProd depth word = only (is_name word) p.ProdColon d.Production
goes p.ProdColon depth word = only (is_colon word) p.FirstPart d.Skip
goes p.FirstPart depth word = part word
goes p.NextPart depth word = next_part word
goes p.CountOpen depth word = only (is_open_paren word) p.Count d.Skip
goes p.Count depth word = only (is_decimal word) p.CountClose d.Count
goes p.CountClose depth word = only (is_close_paren word) p.Repeated d.Skip
goes p.Repeated depth word = only (is_name word) p.NextPart d.RepeatPart
goes p.NextAct depth word = next_act depth word
goes p.Act depth word = act word
goes p.ActEnd depth word = only (is_semicolon word) p.NextAct d.Skip
goes p.BranchWeight depth word = only (is_decimal word) p.BranchColon d.Branch
goes p.BranchColon depth word = only (is_colon word) p.Act d.Skip
goes p.RuleWeight depth word = only (is_decimal word) p.RuleEnd d.Weight
goes p.RuleEnd depth word = rule_end word
goes p.NextProd depth word = next_prod word
goes p.Last depth word = only (is_end word) p.Done d.Skip
goes p.Done depth word = None

abbrev pub less_one : ℕ → ℕ
less_one zero = zero
less_one (suc n) = n

-- in how many choices what stands behind the word is
abbrev pub depth_behind : ℕ → Word → ℕ
depth_behind depth (w.RandCase at) = suc depth
depth_behind depth w.EndCase = less_one depth
depth_behind depth _ = depth

-- ---- what is kept

abbrev pub nothing : Building
nothing = record { start = None; prods = []; name = 0; rules = []; parts = []; weight = None; at = 0; count = 0; acts = [] }

abbrev pub with_part : Building → PartText → Building
with_part b x = record b { parts = b.parts ++ x ∷ [] }

abbrev pub with_repeat : Building → ℕ → Building
with_repeat b name = with_part b (t.Repeat b.at b.count name)

abbrev pub with_act : Building → ActText → Building
with_act b x = record b { acts = b.acts ++ x ∷ [] }

abbrev pub with_block : Building → Building
with_block b = record b { parts = b.parts ++ t.Block b.at b.acts ∷ []; acts = [] }

abbrev pub with_rule : Building → Building
with_rule b = record b { rules = b.rules ++ record { parts = b.parts; weight = b.weight } ∷ []; parts = []; weight = None }

abbrev pub with_production : Building → Building
with_production b = record b { prods = b.prods ++ record { name = b.name; rules = b.rules } ∷ []; rules = [] }

abbrev pub kept : Building → Deed → ℕ → Building
kept b d.Skip at = b
kept b d.Start at = record b { start = Some at }
kept b d.Production at = record b { name = at }
kept b d.NamePart at = with_part b (t.Name at)
kept b d.Open at = record b { at = at }
kept b d.Count at = record b { count = at }
kept b d.RepeatPart at = with_repeat b at
kept b d.Print at = with_act b (a.Print at)
kept b d.Choose at = with_act b (a.Choose at)
kept b d.Branch at = with_act b (a.Branch at)
kept b d.EndChoice at = with_act b a.End
kept b d.BlockPart at = with_block b
kept b d.Weight at = record b { weight = Some at }
kept b d.EndRule at = with_rule b
kept b d.EndProduction at = with_production (with_rule b)

abbrev pub text_in : Building → SeqText
text_in b = record { start = b.start; prods = b.prods }

-- ---- one word, and all of them

abbrev pub begin : Reading
begin = record { place = p.Opening; depth = 0; made = nothing }

abbrev pub moved_to : Reading → Word → Move → Reading
moved_to r word m = record { place = m.place; depth = depth_behind r.depth word; made = kept r.made m.deed (number_in word) }

-- behind one more word, if it may stand there
abbrev pub step : Reading → Word → Option Reading
step r word = option_map (moved_to r word) (goes r.place r.depth word)

abbrev pub if_moved : Bool → Reading → Option Reading
if_moved true r = Some r
if_moved false r = None

-- how reading goes on
pub data Stop : Type 0 where
  reads : Reading → Stop
  stuck : ℕ → Stop

-- the words are numbered from `at` on
unfoldable pub after : Reading → ℕ → List Word → Stop
after r at [] = reads r
after r at (x ∷ ws) = elim (step r x) [ Some q ↦ after q (suc at) ws | None ↦ stuck at ]

-- the reader is through, or the word of this number is the first that may not stand where it does
abbrev pub IsLeft : Stop → Option ℕ → Reading → Type 0
IsLeft stop None r = stop ≡ reads r
IsLeft stop (Some at) r = stop ≡ stuck at
