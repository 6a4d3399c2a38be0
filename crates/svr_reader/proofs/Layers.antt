-- What a construct is for those that call for it.
use Rattle.std.proofs.Common.{◌≡◌, ℕ, ◌+◌, ◌≤◌, Bool, List, length, Option, Ok}
use Rattle.svr_token.specs.declared.Lexeme.{Lexeme}
use Rattle.svr_tree.specs.Tokens.{Tok, Entry, FitEach}
use Rattle.svr_reader.specs.Outcomes.{Parser, lexeme_at}
use Rattle.svr_reader.specs.Program.{call}
use Rattle.svr_reader.specs.Lists.{WithHeight}
use Rattle.svr_reader.proofs.Local.{IsLocal}
use Rattle.svr_reader.proofs.Growth.{Grows, Rooms}
use Rattle.svr_reader.proofs.Live.{Later, Settles, Consumes, Alive, Heads}
use Rattle.svr_reader.proofs.Goals.{Goal, Form}

-- what was read, as a tree with its height
pub record ReadAs {X : Type 0} (spell : X → List Entry) (Is : X → Type 0) (high : X → ℕ) (r : ℕ) (i : List Tok) (x : WithHeight X) (j : List Tok) : Type 0 where
  pub takes : FitEach i (spell x.0) j
  pub is : Is x.0
  pub height : x.1 ≡ high x.0
  pub low : x.1 ≤ r

-- what is read is such a tree
pub record IsSound {X : Type 0} (spell : X → List Entry) (Is : X → Type 0) (high : X → ℕ) (r : ℕ) (p : Parser (WithHeight X)) : Type 0 where
  pub at : (i : List Tok) (x : WithHeight X) (j : List Tok) → p i ≡ Ok (x, j) → ReadAs spell Is high r i x j

-- such a tree is read, before any token of C (None is the end)
pub record IsComplete {X : Type 0} (spell : X → List Entry) (Is : X → Type 0) (high : X → ℕ) (most r : ℕ) (C : Option Lexeme → Type 0) (p : Parser (WithHeight X)) : Type 0 where
  pub at : (x : X) (i rest : List Tok) → length i ≤ most + length rest → Is x → high x ≤ r → FitEach i (spell x) rest → C (lexeme_at rest) → p i ≡ Ok ((x, high x), rest)

-- what was read of it can be completed; its first token may be refused
pub record IsViable {X : Type 0} (most : ℕ) (C : Option Lexeme → Type 0) (Q : X → Type 0) (p : Parser X) : Type 0 where
  pub later : Later most C Q p
  pub settles : Settles most C Q p
  pub consumes : Consumes p

-- it can be completed from its beginning on, and need take nothing
pub record IsOpen {X : Type 0} (most : ℕ) (D C : Option Lexeme → Type 0) (Q : X → Type 0) (p : Parser X) : Type 0 where
  pub alive : Alive most D C Q p
  pub settles : Settles most C Q p
  pub heads : Heads most D C p

-- what it gives with fewer turns and less room it gives with more, wants of room aside
abbrev pub IsGrowing : {X : Type 0} → (ℕ → ℕ → Parser X) → Type 0
IsGrowing p = (wider : Bool) (n n2 r r2 : ℕ) → n ≤ n2 → Rooms wider r r2 → Grows wider (p n r) (p n2 r2)

-- bounds of a height
abbrev pub Low : {X : Type 0} → ℕ → WithHeight X → Type 0
Low r x = x.1 ≤ r

abbrev pub Part : {X : Type 0} → ℕ → WithHeight X → Type 0
Part r x = (1 ≤ x.1) × (x.1 ≤ r)

pub complete_of : {X : Type 0} {spell : X → List Entry} {Is Is2 : X → Type 0} {high : X → ℕ} {most r : ℕ} {C C2 : Option Lexeme → Type 0} {p : Parser (WithHeight X)}
    → IsComplete spell Is high most r C p → ((x : X) → Is2 x → Is x) → ((q : Option Lexeme) → C2 q → C q) → IsComplete spell Is2 high most r C2 p
complete_of v w u = record { at = λ x i rest few is low h c. v.at x i rest few (w x is) low h (u (lexeme_at rest) c) }

pub sound_of : {X : Type 0} {spell : X → List Entry} {Is Is2 : X → Type 0} {high : X → ℕ} {r : ℕ} {p : Parser (WithHeight X)}
    → IsSound spell Is high r p → ((x : X) → Is x → Is2 x) → IsSound spell Is2 high r p
sound_of v w = record { at = λ i x j h. let d = v.at i x j h in record { takes = d.takes; is = w x.0 d.is; height = d.height; low = d.low } }

module _ {K : Type 0} {Ans : K → Type 0} (most r : ℕ) (sub : (k : K) → Parser (Ans k)) (ls : (k : K) → IsLocal (sub k)) where
  pub form_of : {C : Option Lexeme → Type 0} {k : K} {Q : Ans k → Type 0} → IsViable most C Q (sub k) → Form most r sub ls C Q (call k)
  form_of v = record { later = v.later; settles = v.settles; consumes = v.consumes }

  pub open_of : {D C : Option Lexeme → Type 0} {k : K} {Q : Ans k → Type 0} → IsOpen most D C Q (sub k) → Goal most r sub ls D C Q (call k)
  open_of v = record { alive = v.alive; settles = v.settles; heads = v.heads }
