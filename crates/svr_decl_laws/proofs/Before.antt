-- What stands before a token that is known, and tokens before which parts of a declaration end.
use Rattle.std.proofs.Common.{◌≡◌, ℕ, Bool, true, false, List, [], ◌∷◌, ◌++◌, Option, Some, sym, subst}
use Rattle.svr_token.specs.declared.Lexeme.{Lexeme}
use Rattle.svr_token.specs.declared.Lexeme.TheVariants as lexeme
use Rattle.svr_token.specs.declared.Word.TheVariants as w
use Rattle.svr_token.specs.declared.Mark.TheVariants as m
use Rattle.svr_token.specs.declared.NameKind.{NameKind}
use Rattle.svr_tree.specs.Tokens.{Tok, Entry, Name, Any, FitEach, mark}
use Rattle.svr_tree.specs.ItemTree.{ItemTree, items_of}
use Rattle.svr_tree.specs.ItemGrammar.{items_spelling, AreBlockItems, items_height}
use Rattle.svr_reader.specs.Outcomes.{lexeme_at}
use Rattle.svr_reader.specs.declared.fixed.Fixed.TheVariants as f
use Rattle.svr_reader.specs.Steps.{is_fixed}
use Rattle.svr_reader.proofs.Steps.{lexeme_of}
use Rattle.svr_expr_laws.proofs.LiveParts.{Closes}
use Rattle.svr_decl.specs.DeclRules.{starts_type}

module _ (C : Option Lexeme → Type 0) where
  -- a word or mark
  pub before : (q : Lexeme) → C (Some q) → (i rest : List Tok) (es : List Entry) → FitEach i (Any q ∷ es) rest → C (lexeme_at i)
  before q c i rest es h = subst C (sym (lexeme_of i rest q es h)) c

  -- a name
  pub before_name : ((k : NameKind) → C (Some (lexeme.Name k))) → (n : ℕ) (i rest : List Tok) (es : List Entry) → FitEach i (Name n ∷ es) rest → C (lexeme_at i)
  before_name c n [] rest es h = absurd h
  before_name c n (t ∷ i) rest es h = subst (λ q. C (Some q)) (sym h.0.1.is) (c h.0.1.kind)

-- ---- where a part ends

-- signs
abbrev pub is_sign : Option Lexeme → Bool
is_sign (Some (lexeme.Word w.Signed)) = true
is_sign (Some (lexeme.Word w.Unsigned)) = true
is_sign _ = false

-- what a type may go on with
abbrev pub extends_type : Option Lexeme → Bool
extends_type (Some (lexeme.Word w.Signed)) = true
extends_type (Some (lexeme.Word w.Unsigned)) = true
extends_type (Some (lexeme.Mark m.OpenBracket)) = true
extends_type _ = false

abbrev pub AfterType : Option Lexeme → Type 0
AfterType q = extends_type q ≡ false

-- no type may go on, and none begins
abbrev pub AfterBase : Option Lexeme → Type 0
AfterBase q = AfterType q × (starts_type q ≡ false)

-- a name with its initial value has ended
abbrev pub EndsInitial : Option Lexeme → Type 0
EndsInitial q = Closes q × (is_fixed (f.Mark m.Assign) q ≡ false)

-- and a list of such names
abbrev pub EndsDeclarators : Option Lexeme → Type 0
EndsDeclarators q = EndsInitial q × (is_fixed (f.Mark m.Comma) q ≡ false)

-- a dimension has ended
abbrev pub NotBracket : Option Lexeme → Type 0
NotBracket q = is_fixed (f.Mark m.OpenBracket) q ≡ false

abbrev pub NotExtends : Option Lexeme → Type 0
NotExtends q = is_fixed (f.Word w.Extends) q ≡ false

abbrev pub NotColon : Option Lexeme → Type 0
NotColon q = is_fixed (f.Mark m.Colon) q ≡ false

-- ---- the items of a constraint block, with the brace that ends them

abbrev pub block_text : List ItemTree → List Entry
block_text xs = items_spelling (items_of xs) ++ mark m.CloseBrace ∷ []

abbrev pub AreOfBlock : List ItemTree → Type 0
AreOfBlock xs = AreBlockItems (items_of xs)

abbrev pub block_height : List ItemTree → ℕ
block_height xs = items_height (items_of xs)
