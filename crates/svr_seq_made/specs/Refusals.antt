-- What is refused in a text of `randsequence`, in the order of the text (IEEE 1800-2017, 18.16 and 18.17)
use Rattle.std.specs.Prelude.{◌≡◌, ℕ, suc, Bool, true, false, ◌==◌, ◌&&◌, nat_eq, nat_lt, nat_le, List, [], ◌∷◌, ◌++◌, Option, None, Some, is_some, if◌then◌else◌}
use Rattle.std.specs.List.{list_any}
use Rattle.std.specs.Cmp.Lexicographic.{pointwise}
use Rattle.svr_refusal.specs.declared.refusal.Refusal.TheVariants as refusal
use Rattle.svr_seq_text.specs.declared.text.PartText.{PartText}
use Rattle.svr_seq_text.specs.declared.text.PartText.TheVariants as p
use Rattle.svr_seq_text.specs.declared.text.RuleText.{RuleText}
use Rattle.svr_seq_text.specs.declared.text.ProdText.{ProdText}
use Rattle.svr_seq_text.specs.declared.text.SeqText.{SeqText}
use Rattle.svr_seq.specs.declared.limits.TheConstants.{SEQUENCE_LIMIT, REPEAT_LIMIT}
use Rattle.svr_seq_made.specs.declared.fault.SeqFault.{SeqFault}
use Rattle.svr_seq_made.specs.declared.fault.SeqFault.TheVariants as e
use Rattle.svr_seq_made.specs.Blocks.{value_of, unless, fresh, acts_refusals}

abbrev pub is_same : List ℕ → List ℕ → Bool
is_same x y = pointwise nat_eq x y

-- a name, and the place of the production that it names
pub record Entry : Type 0 where
  pub name : List ℕ
  pub place : ℕ

-- the place of the production of this name
abbrev pub place_of : List Entry → List ℕ → Option ℕ
place_of [] q = None
place_of (e ∷ es) q = if is_same q e.name then Some e.place else place_of es q

-- one more name, unless it is there
abbrev pub and_entry : List Entry → List ℕ → ℕ → List Entry
and_entry es name place = if is_some (place_of es name) then es else es ++ record { name = name; place = place } ∷ []

-- the first productions of each name, behind those of the first n
abbrev pub entries : (ℕ → List ℕ) → List Entry → ℕ → List ProdText → List Entry
entries text es n [] = es
entries text es n (x ∷ xs) = entries text (and_entry es (text x.name) n) (suc n) xs

-- the place of the production that a name names, if there is one
abbrev pub Finder : Type 0
Finder = List ℕ → Option ℕ

-- no production has the name
abbrev pub unknown : (ℕ → List ℕ) → Finder → ℕ → List SeqFault
unknown text find name = unless (is_some (find (text name))) refusal.UnknownProduction name

abbrev pub is_at : Option ℕ → ℕ → Bool
is_at None n = false
is_at (Some k) n = k == n

-- without `:=` the weight is 1
abbrev pub weight_of : (ℕ → List ℕ) → Option ℕ → ℕ
weight_of text None = 1
weight_of text (Some weight) = value_of (text weight)

abbrev pub has_weight : (ℕ → List ℕ) → RuleText → Bool
has_weight text r = nat_lt 0 (weight_of text r.weight)

-- `fits` tells whether the part, and the rule that it begins, are within the limits
abbrev pub part_refusals : (ℕ → List ℕ) → Finder → Bool → PartText → List SeqFault
part_refusals text find fits (p.Name name) = unknown text find name ++ unless fits refusal.SequenceTooLarge name
part_refusals text find fits (p.Repeat at count name) = unless fits refusal.SequenceTooLarge at ++ (unless (nat_le (value_of (text count)) REPEAT_LIMIT) refusal.SequenceTooLarge count ++ unknown text find name)
part_refusals text find fits (p.Block at acts) = unless fits refusal.SequenceTooLarge at ++ acts_refusals text fresh acts

abbrev pub parts_refusals : (ℕ → List ℕ) → Finder → Bool → ℕ → List PartText → List SeqFault
parts_refusals text find fits i [] = []
parts_refusals text find fits i (x ∷ xs) = part_refusals text find (fits && nat_lt i SEQUENCE_LIMIT) x ++ parts_refusals text find fits (suc i) xs

abbrev pub rules_refusals : (ℕ → List ℕ) → Finder → ℕ → List RuleText → List SeqFault
rules_refusals text find i [] = []
rules_refusals text find i (r ∷ rs) = parts_refusals text find (true && nat_lt i SEQUENCE_LIMIT) 0 r.parts ++ rules_refusals text find (suc i) rs

-- it is not the first of its name; all its rules have weight 0; it is one too many
abbrev pub head_refusals : (ℕ → List ℕ) → Finder → ℕ → ProdText → List SeqFault
head_refusals text find i x =
    unless (is_at (find (text x.name)) i) refusal.UnknownProduction x.name
    ++ (unless (list_any (has_weight text) x.rules) refusal.NoWeight x.name ++ unless (nat_lt i SEQUENCE_LIMIT) refusal.SequenceTooLarge x.name)

abbrev pub prod_refusals : (ℕ → List ℕ) → Finder → ℕ → ProdText → List SeqFault
prod_refusals text find i x = head_refusals text find i x ++ rules_refusals text find 0 x.rules

abbrev pub prods_refusals : (ℕ → List ℕ) → Finder → ℕ → List ProdText → List SeqFault
prods_refusals text find i [] = []
prods_refusals text find i (x ∷ xs) = prod_refusals text find i x ++ prods_refusals text find (suc i) xs

abbrev pub start_refusals : (ℕ → List ℕ) → Finder → Option ℕ → List SeqFault
start_refusals text find None = []
start_refusals text find (Some name) = unknown text find name

-- the places of the productions by their names
abbrev pub finder : (ℕ → List ℕ) → List ProdText → Finder
finder text prods = λ q. place_of (entries text [] 0 prods) q

abbrev pub refusals : (ℕ → List ℕ) → SeqText → List SeqFault
refusals text s = start_refusals text (finder text s.prods) s.start ++ prods_refusals text (finder text s.prods) 0 s.prods

abbrev pub first_of : List SeqFault → Option SeqFault
first_of [] = None
first_of (r ∷ rs) = Some r

-- it is the first refusal, or there was no memory
abbrev pub IsFirst : SeqFault → List SeqFault → Type 0
IsFirst (e.Refused why token) rs = first_of rs ≡ Some (e.Refused why token)
IsFirst e.NoMemory rs = Unit {0}
