-- What the parser of scripts answers to all tokens of a text.
use Rattle.std.proofs.Common.{◌≡◌, ℕ, suc, ◌+◌, ◌-◌, ◌<◌, ◌≤◌, ◌^◌, List, [], ◌∷◌, length, Ok, Err, refl, sym, ◌∙◌, ap, subst, arith}
use Rattle.svr_limits.specs.declared.limit.TheConstants.{HEIGHT_LIMIT}
use Rattle.svr_token.specs.declared.Lexeme.{Lexeme}
use Rattle.svr_token.specs.declared.token.Token.{Token}
use Rattle.svr_tree.specs.Tokens.{Tok, numbered}
use Rattle.svr_tree.specs.ScriptTree.{ScriptTree}
use Rattle.svr_tree.specs.Reading.{IsReading}
use Rattle.svr_reader.specs.Outcomes.{Unexpected, TooDeep, Outcome}
use Rattle.svr_reader.specs.Calls.{cap}
use Rattle.svr_reader.specs.Spelled.{AreSpelled, SpellNoOther}
use Rattle.svr_reader.specs.Fronts.{IsUnexpected, IsTooDeep, IsOutcome, whole}
use Rattle.svr_reader.proofs.Tokens.{length-numbered}
use Rattle.svr_reader.proofs.Fronts.{one_answer}
use Rattle.svr_reader.proofs.Places.{exact}
use Rattle.svr_parse.specs.ScriptRules.{script}
use Rattle.svr_parse.specs.declared.fault.ParseFault.{ParseFault}
use Rattle.svr_parse.specs.declared.fault.ParseFault.TheVariants as error
use Rattle.svr_parse.specs.Parse.{IsTreeOf, IsUnexpectedOf, IsTooDeepOf, IsPlaceOf}
use Rattle.svr_parse.proofs.Layer.{script_parser}

few_of : (i : List Tok) → length i < 2 ^ 32 → length i < cap
unfolding cap
few_of i h = omega (arith, h)

roomy : HEIGHT_LIMIT + 4 < cap
unfolding cap
roomy = omega arith

-- what the parser gives is what it should
outcome : (i : List Tok) → length i < 2 ^ 32 → IsOutcome IsReading HEIGHT_LIMIT i (whole (script cap HEIGHT_LIMIT) i)
outcome i few = exact IsReading script _ _ 4 script_parser cap HEIGHT_LIMIT (omega arith) roomy i (few_of i few)

pub tree_read : (i : List Tok) → length i < 2 ^ 32 → (t : ScriptTree) (j : List Tok) → whole (script cap HEIGHT_LIMIT) i ≡ Ok (t, j) → IsReading HEIGHT_LIMIT i t
tree_read i few t j h = subst (λ o. IsOutcome IsReading HEIGHT_LIMIT i o) h (outcome i few)

-- a tree that reads the tokens is the one that is read
pub read_once : (i : List Tok) → length i < 2 ^ 32 → (t : ScriptTree) (j : List Tok) → whole (script cap HEIGHT_LIMIT) i ≡ Ok (t, j) → (other : ScriptTree) → IsReading HEIGHT_LIMIT i other → other ≡ t
unfolding whole
read_once i few t j h other d =
    let few2 = few_of i few in
    let low = roomy in
    let a = script_parser.complete cap HEIGHT_LIMIT HEIGHT_LIMIT i other d (omega arith) (omega (arith, low)) (omega (arith, few2)) in
    same (sym (by a.0 a.1) ∙ h)
  where
    by : (n : ℕ) → script cap HEIGHT_LIMIT i ≡ Ok ((other, n), []) → whole (script cap HEIGHT_LIMIT) i ≡ Ok (other, [])
    by n e = rw e refl

    same : ◌≡◌ {A = Outcome ScriptTree} (Ok (other, [])) (Ok (t, j)) → other ≡ t
    same e = let both : ◌≡◌ {A = ScriptTree × List Tok} (other, []) (t, j) = cc in ap (λ z. z.0) both

pub unexpected_at : (i : List Tok) → length i < 2 ^ 32 → (k : ℕ) → whole (script cap HEIGHT_LIMIT) i ≡ Err (Unexpected k) → (n : ℕ) × (length i ≡ n + k) × IsUnexpected IsReading HEIGHT_LIMIT i n
unexpected_at i few k h = subst (λ o. IsOutcome IsReading HEIGHT_LIMIT i o) h (outcome i few)

pub deep_at : (i : List Tok) → length i < 2 ^ 32 → (k : ℕ) → whole (script cap HEIGHT_LIMIT) i ≡ Err (TooDeep k) → (n : ℕ) × (length i ≡ n + k) × IsTooDeep IsReading HEIGHT_LIMIT i n
deep_at i few k h = subst (λ o. IsOutcome IsReading HEIGHT_LIMIT i o) h (outcome i few)

-- ---- of the tokens of a text

spelled_length : (text : List ℕ) (ts : List Token) (ls : List Lexeme) → AreSpelled text ts ls → length ls ≡ length ts
spelled_length text [] [] h = refl
spelled_length text [] (l ∷ ls) h = absurd h
spelled_length text (t ∷ ts) [] h = absurd h
spelled_length text (t ∷ ts) (l ∷ ls) h = ap suc (spelled_length text ts ls h.1)

module _ (text : List ℕ) (ts : List Token) (few : length ts < 2 ^ 32) (ls : List Lexeme) (spelled : AreSpelled text ts ls) where
  abbrev i : List Tok
  i = numbered 0 ls

  count : length i ≡ length ts
  count = length-numbered 0 ls ∙ spelled_length text ts ls spelled

  few_tokens : length i < 2 ^ 32
  few_tokens = omega (arith, count, few)

  pub few_lexemes : length ls < 2 ^ 32
  few_lexemes = omega (arith, spelled_length text ts ls spelled, few)

  pub tree_of : (t : ScriptTree) (j : List Tok) → whole (script cap HEIGHT_LIMIT) i ≡ Ok (t, j) → IsTreeOf text ts t
  tree_of t j h = record { lexemes = ls; spelled = spelled; reading = tree_read i few_tokens t j h; only = read_once i few_tokens t j h }

  -- how many tokens stand before a fault
  before : (n k : ℕ) → length i ≡ n + k → n ≡ length ts - k
  before n k h = omega (arith, h, count)

  pub unexpected_left : (k : ℕ) → whole (script cap HEIGHT_LIMIT) i ≡ Err (Unexpected k) → k ≤ length ts
  unexpected_left k h = let d = unexpected_at i few_tokens k h in omega (arith, d.1, count)

  pub unexpected_of : (k : ℕ) → whole (script cap HEIGHT_LIMIT) i ≡ Err (Unexpected k) → IsUnexpectedOf text ts (length ts - k)
  unexpected_of k h = let d = unexpected_at i few_tokens k h in record { lexemes = ls; spelled = spelled; place = subst (IsUnexpected IsReading HEIGHT_LIMIT i) (before d.0 k d.1) d.2 }

  pub deep_left : (k : ℕ) → whole (script cap HEIGHT_LIMIT) i ≡ Err (TooDeep k) → k ≤ length ts
  deep_left k h = let d = deep_at i few_tokens k h in omega (arith, d.1, count)

  pub deep_of : (k : ℕ) → whole (script cap HEIGHT_LIMIT) i ≡ Err (TooDeep k) → IsTooDeepOf text ts (length ts - k)
  deep_of k h = let d = deep_at i few_tokens k h in record { lexemes = ls; spelled = spelled; place = subst (IsTooDeep IsReading HEIGHT_LIMIT i) (before d.0 k d.1) d.2 }

  -- ---- what is said of the tokens' lexemes is said of these, as they are the only ones

  module _ (none : SpellNoOther text ts ls) where
    reading_of : (t : ScriptTree) → IsTreeOf text ts t → IsReading HEIGHT_LIMIT i t
    reading_of t d = subst (λ z. IsReading HEIGHT_LIMIT (numbered 0 z) t) (none d.lexemes d.spelled) d.reading

    unexpected_here : (n : ℕ) → IsUnexpectedOf text ts n → IsUnexpected IsReading HEIGHT_LIMIT i n
    unexpected_here n d = subst (λ z. IsUnexpected IsReading HEIGHT_LIMIT (numbered 0 z) n) (none d.lexemes d.spelled) d.place

    deep_here : (n : ℕ) → IsTooDeepOf text ts n → IsTooDeep IsReading HEIGHT_LIMIT i n
    deep_here n d = subst (λ z. IsTooDeep IsReading HEIGHT_LIMIT (numbered 0 z) n) (none d.lexemes d.spelled) d.place

    pub tree_only : (t : ScriptTree) (j : List Tok) → whole (script cap HEIGHT_LIMIT) i ≡ Ok (t, j) → (u : ScriptTree) → IsTreeOf text ts u → t ≡ u
    tree_only t j h u d = sym (read_once i few_tokens t j h u (reading_of u d))

    pub tree_no_fault : (t : ScriptTree) (j : List Tok) → whole (script cap HEIGHT_LIMIT) i ≡ Ok (t, j) → (f : ParseFault) → IsPlaceOf text ts f → ⊥
    tree_no_fault t j h (error.Unexpected n) d = (one_answer IsReading HEIGHT_LIMIT i).reading_unexpected t n (tree_read i few_tokens t j h) (unexpected_here n d)
    tree_no_fault t j h (error.TooDeep n) d = (one_answer IsReading HEIGHT_LIMIT i).reading_deep t n (tree_read i few_tokens t j h) (deep_here n d)
    tree_no_fault t j h error.NoMemory d = d

    pub unexpected_no_tree : (k : ℕ) → whole (script cap HEIGHT_LIMIT) i ≡ Err (Unexpected k) → (u : ScriptTree) → IsTreeOf text ts u → ⊥
    unexpected_no_tree k h u d = let e = unexpected_at i few_tokens k h in (one_answer IsReading HEIGHT_LIMIT i).reading_unexpected u e.0 (reading_of u d) e.2

    pub deep_no_tree : (k : ℕ) → whole (script cap HEIGHT_LIMIT) i ≡ Err (TooDeep k) → (u : ScriptTree) → IsTreeOf text ts u → ⊥
    deep_no_tree k h u d = let e = deep_at i few_tokens k h in (one_answer IsReading HEIGHT_LIMIT i).reading_deep u e.0 (reading_of u d) e.2

    pub unexpected_only : (k : ℕ) → whole (script cap HEIGHT_LIMIT) i ≡ Err (Unexpected k) → (f : ParseFault) → IsPlaceOf text ts f → error.Unexpected (length ts - k) ≡ f
    unexpected_only k h (error.Unexpected n) d = let e = unexpected_at i few_tokens k h in ap error.Unexpected (sym (before e.0 k e.1) ∙ (one_answer IsReading HEIGHT_LIMIT i).unexpected_once e.0 n e.2 (unexpected_here n d))
    unexpected_only k h (error.TooDeep n) d = let e = unexpected_at i few_tokens k h in absurd ((one_answer IsReading HEIGHT_LIMIT i).unexpected_deep e.0 n e.2 (deep_here n d))
    unexpected_only k h error.NoMemory d = absurd d

    pub deep_only : (k : ℕ) → whole (script cap HEIGHT_LIMIT) i ≡ Err (TooDeep k) → (f : ParseFault) → IsPlaceOf text ts f → error.TooDeep (length ts - k) ≡ f
    deep_only k h (error.Unexpected n) d = let e = deep_at i few_tokens k h in absurd ((one_answer IsReading HEIGHT_LIMIT i).unexpected_deep n e.0 (unexpected_here n d) e.2)
    deep_only k h (error.TooDeep n) d = let e = deep_at i few_tokens k h in ap error.TooDeep (sym (before e.0 k e.1) ∙ (one_answer IsReading HEIGHT_LIMIT i).deep_once e.0 n e.2 (deep_here n d))
    deep_only k h error.NoMemory d = absurd d
