-- Declarations of types with their first refusal, or the type that the last of them names, worked out by hand from the rules of the standard (IEEE 1800-2017, 6.11, 6.18 and 6.19).
use Rattle.std.specs.Prelude.{ℕ, ◌+◌, ◌*◌, ◌%◌, ◌==◌, Bool, true, false, not, ◌&&◌, List, [], ◌∷◌, Option, Some, None}
use Rattle.svr_operator.specs.declared.UnOp.TheVariants as un
use Rattle.svr_tree.specs.declared.Scope.TheVariants as scope
use Rattle.svr_tree.specs.declared.VectorKind.TheVariants as vector_kind
use Rattle.svr_tree.specs.declared.AtomKind.{AtomKind}
use Rattle.svr_tree.specs.declared.AtomKind.TheVariants as atom_kind
use Rattle.svr_tree.specs.declared.Signing.{Signing}
use Rattle.svr_tree.specs.declared.Signing.TheVariants as signing
use Rattle.svr_tree.specs.ExprTree as raw
use Rattle.svr_tree.specs.ExprTree.{ExprTree}
use Rattle.svr_tree.specs.DeclTree as tree
use Rattle.svr_tree.specs.DeclTree.{IntegerTypeTree, MemberTree, TypeTree}
use Rattle.svr_refusal.specs.Numbers.{number_of}
use Rattle.svr_elab_fault.specs.declared.Fault.{Fault}
use Rattle.svr_elab_fault.specs.Refusals.{all, least}
use Rattle.svr_elab_names.specs.declared.Vector.{Vector}
use Rattle.svr_elab_names.specs.declared.Global.{Global}
use Rattle.svr_elab_names.specs.declared.Global.TheVariants as global
use Rattle.svr_elab_type.specs.Types.{GlobalsElab, declaring, global_at, type_decl}

-- ---- what the tokens spell: a letter by the last two digits, from `a` on

abbrev pub spelled : ℕ → List ℕ
spelled n = (97 + n % 100) ∷ []

abbrev pub at : ℕ → ℕ → ℕ
at k name = k * 100 + name

-- a plain number, at a token of its own
abbrev pub int : ℕ → ℕ → ExprTree
int token value = raw.number token value 32 true

abbrev pub named : ℕ → ExprTree
named token = raw.path token scope.Plain (token ∷ []) false

-- `bit [msb:lsb]`, whose first token is 100 and whose bracket is 101
abbrev pub bits : Option Signing → ExprTree → ExprTree → IntegerTypeTree
bits sign msb lsb = tree.vector 100 vector_kind.Bit sign (Some (record { at = 101; msb = msb; lsb = lsb }))

abbrev pub atom : AtomKind → Option Signing → IntegerTypeTree
atom kind sign = tree.atom 100 kind sign

-- `typedef definition name;`, whose name is token 900
abbrev pub plain : IntegerTypeTree → TypeTree
plain t = record { definition = tree.plain t; name = 900 }

abbrev pub enum : Option IntegerTypeTree → List MemberTree → TypeTree
enum base members = record { definition = tree.enum (record { base = base; members = members }); name = 900 }

abbrev pub member : ℕ → Option ExprTree → MemberTree
member name value = record { name = name; value = value }

-- ---- cases

pub data Case : Type 0 where
  refused : List TypeTree → ℕ → ℕ → Case
  accepted : List TypeTree → ℕ → Bool → Case

abbrev pub declare : GlobalsElab (List Fault) → List TypeTree → GlobalsElab (List Fault)
declare s [] = s
declare s (t ∷ ts) = declare (type_decl all s t) ts

abbrev pub declared : List TypeTree → GlobalsElab (List Fault)
declared ts = declare (record { names = declaring spelled [] []; enums = []; faults = [] }) ts

abbrev pub is_at : Option Fault → ℕ → ℕ → Bool
is_at None number token = false
is_at (Some f) number token = number_of f.refusal == number && f.token == token

abbrev pub is_clear : List Fault → Bool
is_clear [] = true
is_clear (f ∷ fs) = false

abbrev pub is_same_sign : Bool → Bool → Bool
is_same_sign true s = s
is_same_sign false s = not s

abbrev pub is_kind : Option Vector → ℕ → Bool → Bool
is_kind None width signed = false
is_kind (Some v) width signed = v.kind.width == width && is_same_sign v.kind.signed signed

abbrev pub is_type : Option Global → ℕ → Bool → Bool
is_type None width signed = false
is_type (Some (global.OfType kind)) width signed = is_kind kind width signed
is_type (Some (global.OfClass c)) width signed = false
is_type (Some (global.OfMember value kind)) width signed = false

abbrev pub is_so : Case → Bool
is_so (refused ts number token) = is_at (least (declared ts).faults) number token
is_so (accepted ts width signed) = is_clear (declared ts).faults && is_type (global_at (declared ts).names 900) width signed

-- a refusal has its number and its token; an accepted type has its width and whether it is signed
abbrev pub vectors : List Case
vectors =
    accepted (plain (bits None (int 102 7) (int 103 0)) ∷ []) 8 false
    ∷ accepted (plain (bits (Some signing.Signed) (int 102 11) (int 103 4)) ∷ []) 8 true
    ∷ accepted (plain (tree.vector 100 vector_kind.Logic None None) ∷ []) 1 false
    ∷ accepted (plain (bits None (int 102 63) (int 103 0)) ∷ []) 64 false
    ∷ refused (plain (bits None (int 102 64) (int 103 0)) ∷ []) 9 100
    -- ascending
    ∷ refused (plain (bits None (int 102 0) (int 103 7)) ∷ []) 24 101
    -- a bit number below 0
    ∷ refused (plain (bits None (int 102 3) (raw.unary 103 un.Minus (int 104 1))) ∷ []) 11 103
    ∷ refused (plain (bits None (named 115) (int 103 0)) ∷ []) 7 115
    ∷ []

abbrev pub atoms : List Case
atoms =
    accepted (plain (atom atom_kind.Byte None) ∷ []) 8 true
    ∷ accepted (plain (atom atom_kind.ShortInt None) ∷ []) 16 true
    ∷ accepted (plain (atom atom_kind.Int (Some signing.Unsigned)) ∷ []) 32 false
    ∷ accepted (plain (atom atom_kind.LongInt None) ∷ []) 64 true
    ∷ accepted (plain (atom atom_kind.Integer None) ∷ []) 32 true
    -- the name of a type, twice
    ∷ refused (plain (atom atom_kind.Byte None) ∷ plain (atom atom_kind.Int None) ∷ []) 8 900
    ∷ []

abbrev pub enums : List Case
enums =
    accepted (enum None (member 201 None ∷ member 302 None ∷ []) ∷ []) 32 true
    ∷ accepted (enum (Some (bits None (int 102 1) (int 103 0))) (member 201 None ∷ member 302 (Some (int 303 3)) ∷ []) ∷ []) 2 false
    -- the member behind 3 is 4
    ∷ refused (enum (Some (bits None (int 102 1) (int 103 0))) (member 201 None ∷ member 302 (Some (int 303 3)) ∷ member 403 None ∷ []) ∷ []) 12 403
    -- two members of one value
    ∷ refused (enum None (member 201 (Some (int 202 1)) ∷ member 302 (Some (int 303 1)) ∷ []) ∷ []) 12 302
    -- two members of one name
    ∷ refused (enum None (member 201 None ∷ member 301 None ∷ []) ∷ []) 8 301
    -- a member stands in a later type
    ∷ accepted (record { definition = tree.enum (record { base = None; members = member 201 (Some (int 202 2)) ∷ [] }); name = 303 } ∷ plain (bits None (named 401) (int 402 0)) ∷ []) 3 false
    -- and in its own enum, where it makes two of one value
    ∷ refused (enum None (member 201 (Some (int 202 3)) ∷ member 302 (Some (named 301)) ∷ []) ∷ []) 12 302
    ∷ []
