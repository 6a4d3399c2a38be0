-- The productions of a text, with their names resolved (IEEE 1800-2017, 18.17)
use Rattle.std.specs.Prelude.{ℕ, List, map, Option, None, Some}
use Rattle.svr_seq.specs.SeqTerm.{PartTerm, expand, block, RuleTerm, ProductionTerm, SeqTerm}
use Rattle.svr_seq_text.specs.declared.text.PartText.{PartText}
use Rattle.svr_seq_text.specs.declared.text.PartText.TheVariants as p
use Rattle.svr_seq_text.specs.declared.text.RuleText.{RuleText}
use Rattle.svr_seq_text.specs.declared.text.ProdText.{ProdText}
use Rattle.svr_seq_text.specs.declared.text.SeqText.{SeqText}
use Rattle.svr_seq_made.specs.Blocks.{value_of, fresh, acts_made}
use Rattle.svr_seq_made.specs.Refusals.{Finder, finder, weight_of}

-- a name that no production has is refused
abbrev pub or_first : Option ℕ → ℕ
or_first None = 0
or_first (Some place) = place

abbrev pub place_at : (ℕ → List ℕ) → Finder → ℕ → ℕ
place_at text find name = or_first (find (text name))

abbrev pub part_made : (ℕ → List ℕ) → Finder → PartText → PartTerm
part_made text find (p.Name name) = expand (place_at text find name) 1
part_made text find (p.Repeat at count name) = expand (place_at text find name) (value_of (text count))
part_made text find (p.Block at acts) = block (acts_made text fresh acts)

abbrev pub rule_made : (ℕ → List ℕ) → Finder → RuleText → RuleTerm
rule_made text find r = record { parts = map (part_made text find) r.parts; weight = weight_of text r.weight }

abbrev pub prod_made : (ℕ → List ℕ) → Finder → ProdText → ProductionTerm
prod_made text find x = record { name = x.name; rules = map (rule_made text find) x.rules }

abbrev pub start_made : (ℕ → List ℕ) → Finder → Option ℕ → ℕ
start_made text find None = 0
start_made text find (Some name) = place_at text find name

abbrev pub seq_made : (ℕ → List ℕ) → SeqText → SeqTerm
seq_made text s = record { start = start_made text (finder text s.prods) s.start; prods = map (prod_made text (finder text s.prods)) s.prods }
