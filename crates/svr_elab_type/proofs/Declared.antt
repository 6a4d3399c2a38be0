-- A member, an enum and a type that are declared, put together of their parts.
use Rattle.std.proofs.Common.{◌≡◌, ℕ, ◌+◌, ◌<◌, ◌≤◌, ℤ, pos, Bool, nat_le, List, [], ◌∷◌, ◌++◌, map, length, get_or, drop, Option, Some, option_map, Result, Ok, Err, refl, sym, ap, subst, ◌∙◌, arith}
use Rattle.std.specs.Prelude.{IfOk}
use Rattle.std.proofs.lemmas.List.{at_drop_more, length_push}
use Rattle.svr_typed.specs.declared.NumType.{NumType}
use Rattle.svr_typed.specs.declared.EnumMember.{EnumMember}
use Rattle.svr_typed.specs.declared.EnumType.{EnumType}
use Rattle.svr_tree.specs.declared.MemberDecl.{MemberDecl}
use Rattle.svr_tree.specs.DeclTree.{MemberTree, IntegerTypeTree, member_tree}
use Rattle.svr_refusal.specs.declared.Refusal.TheVariants as refusal
use Rattle.svr_elab_fault.specs.declared.Fault.{Fault}
use Rattle.svr_elab_fault.specs.Refusals.{first_one, when, earlier}
use Rattle.svr_elab_names.specs.declared.Vector.{Vector}
use Rattle.svr_elab_names.specs.declared.Global.TheVariants as global
use Rattle.svr_elab_names.specs.Names.{Space, GlobalName, ClassName}
use Rattle.svr_limits.specs.declared.limit.TheConstants.{MEMBER_LIMIT}
use Rattle.svr_elab_type.specs.Types as spec
use Rattle.svr_elab_type.specs.Types.{Constant, TypeElab, EnumElab, GlobalsElab, declaring}

abbrev Known : Type 0
Known = EnumElab (Option Fault)

abbrev Globals : Type 0
Globals = GlobalsElab (Option Fault)

-- what the last call answers, told in other words
pub told_as : {A B E : Type 0} (f : A → B) (r : Result A E) (x y : B) → IfOk r (λ s. f s ≡ x) → x ≡ y → IfOk r (λ s. f s ≡ y)
told_as f (Ok s) x y h e = h ∙ e
told_as f (Err v) x y h e = tt

pub first_of : {A B : Type 0} (p q : A × B) → p ≡ q → p.0 ≡ q.0
first_of {A = A} {B = B} p q h = ap (λ (p : A × B). p.0) h

pub second_of : {A B : Type 0} (p q : A × B) → p ≡ q → p.1 ≡ q.1
second_of {A = A} {B = B} p q h = ap (λ (p : A × B). p.1) h

-- one more member, by each of its parts
pub member_is : (base : Option Vector) (text : ℕ → List ℕ) (cs : List ClassName) (name at : ℕ) (q : List ℕ) (gs hs : List GlobalName) (x next after : Option ℤ) (xs ys : List ℤ) (ms ns : List EnumMember)
    (f g a b d e t u v : Option Fault) (value : Option ℕ) (bad many : Bool)
    → q ≡ text name → value ≡ spec.stored_bits base x → bad ≡ spec.is_bad_member base x xs → many ≡ nat_le MEMBER_LIMIT (length ms)
    → hs ≡ spec.and_name gs q (global.OfMember value base) → after ≡ spec.following x → ys ≡ spec.with_number x xs → ns ≡ spec.with_member ms q value
    → a ≡ spec.double_name first_one gs q name → b ≡ when first_one bad name refusal.BadEnum → d ≡ when first_one many name refusal.TooMany
    → e ≡ earlier b d → t ≡ earlier a e → u ≡ earlier g t → v ≡ earlier f u
    → (let s : Known = record { names = declaring text hs cs; next = after; numbers = ys; members = ns; faults = v } in s)
    ≡ spec.and_member first_one base name (record { names = declaring text gs cs; next = next; numbers = xs; members = ms; faults = f }) (record { at = at; number = x; faults = g })
member_is base text cs name at q gs hs x next after xs ys ms ns f g a b d e t u v value bad many is_q is_value is_bad is_many is_hs is_after is_ys is_ns is_a is_b is_d is_e is_t is_u is_v =
    rw (is_v, is_u, is_t, is_e, is_a, is_b, is_d, is_after, is_ys, is_hs, is_ns, is_many, is_bad, is_value, is_q) refl

-- members, from this one on
pub members_more : (base : Option Vector) (p r whole : Known) (c : Constant (Option Fault)) (n : Space) (m : MemberTree) (ms : List MemberTree)
    → r ≡ spec.and_member first_one base m.name p c → c ≡ spec.member_number first_one n p.next m.value → n ≡ p.names
    → spec.enum_members first_one base p (m ∷ ms) ≡ whole → spec.enum_members first_one base r ms ≡ whole
members_more base p r whole c n m ms is_r is_c is_n h =
    ap (λ (r : Known). spec.enum_members first_one base r ms) is_r
    ∙ ap (λ (c : Constant (Option Fault)). spec.enum_members first_one base (spec.and_member first_one base m.name p c) ms) is_c
    ∙ ap (λ (n : Space). spec.enum_members first_one base (spec.and_member first_one base m.name p (spec.member_number first_one n p.next m.value)) ms) is_n
    ∙ h

-- the first of those that are left
pub rest_is : (list : List MemberDecl) (i : ℕ) (m : MemberDecl) → i < length list → m ≡ get_or list i m → map member_tree (drop i list) ≡ member_tree m ∷ map member_tree (drop (i + 1) list)
rest_is list i m h e =
    at_drop_more (map member_tree) list i m h ∙ ap (λ (m : MemberDecl). member_tree m ∷ map member_tree (drop (i + 1) list)) (sym e)

-- the name of a type
pub type_is : (text : ℕ → List ℕ) (cs : List ClassName) (enums : List EnumType) (name : ℕ) (kind : Option Vector) (q : List ℕ) (gs hs : List GlobalName) (f d e : Option Fault)
    → q ≡ text name → d ≡ spec.double_name first_one gs q name → e ≡ earlier f d → hs ≡ spec.and_name gs q (global.OfType kind)
    → (let s : Globals = record { names = declaring text hs cs; enums = enums; faults = e } in s)
    ≡ spec.with_type first_one (record { names = declaring text gs cs; enums = enums; faults = f }) name kind
type_is text cs enums name kind q gs hs f d e is_q is_d is_e is_hs = rw (is_e, is_d, is_hs, is_q) refl

pub plain_is : (r : Globals) (n : Space) (enums : List EnumType) (name : ℕ) (kind : Option Vector) (f g e : Option Fault)
    → r ≡ spec.with_type first_one (record { names = n; enums = enums; faults = e }) name kind → e ≡ earlier f g
    → r ≡ spec.plain_type first_one (record { names = n; enums = enums; faults = f }) name (record { kind = kind; faults = g })
plain_is r n enums name kind f g e h is_e = h ∙ ap (λ (e : Option Fault). spec.with_type first_one (record { names = n; enums = enums; faults = e }) name kind) is_e

abbrev begun : Space → List ℤ → List EnumMember → Option Fault → Known
begun n xs ms f = record { names = n; next = Some (pos 0); numbers = xs; members = ms; faults = f }

abbrev kept : List EnumType → ℕ → Known → NumType → Option Vector → Globals
kept enums name p b k = spec.with_type first_one (record { names = p.names; enums = enums ++ (record { base = b; members = p.members }) ∷ []; faults = p.faults }) name k

-- one more enum
pub one_more : (es fs gs : List EnumType) (e : EnumType) → gs ≡ fs → fs ≡ es ++ e ∷ [] → length gs ≤ length es + 1
one_more es fs gs e h k = omega (arith, ap length h, ap length k, length_push es e)

-- an enum, by its members
pub enum_is : (r : Globals) (text : ℕ → List ℕ) (cs ks : List ClassName) (n : ℕ) (enums more : List EnumType) (name : ℕ) (base kind : Option Vector) (b : NumType) (ms : List MemberTree)
    (gs hs : List GlobalName) (next : Option ℤ) (none xs : List ℤ) (no_member ns : List EnumMember) (f g e v : Option Fault)
    → n ≡ length enums → kind ≡ option_map (spec.in_enum n) base → none ≡ [] → no_member ≡ [] → e ≡ earlier f g
    → ks ≡ cs
    → (let p : Known = record { names = declaring text hs ks; next = next; numbers = xs; members = ns; faults = v } in p) ≡ spec.enum_members first_one kind (begun (declaring text gs ks) none no_member e) ms
    → b ≡ spec.enum_base base → more ≡ enums ++ (record { base = b; members = ns }) ∷ []
    → r ≡ spec.with_type first_one (record { names = declaring text hs cs; enums = more; faults = v }) name kind
    → r ≡ spec.enum_type first_one (record { names = declaring text gs cs; enums = enums; faults = f }) name (record { kind = base; faults = g }) ms
enum_is r text cs ks n enums more name base kind b ms gs hs next none xs no_member ns f g e v is_n is_kind is_none is_no_member is_e is_ks is_p is_b is_more h =
    let Q : List ClassName → Type 0 = λ ks. (let p : Known = record { names = declaring text hs ks; next = next; numbers = xs; members = ns; faults = v } in p) ≡ spec.enum_members first_one kind (begun (declaring text gs ks) none no_member e) ms in
    let members : Option Vector → List ℤ → List EnumMember → Option Fault → Known = λ k xs ms' f. spec.enum_members first_one k (begun (declaring text gs cs) xs ms' f) ms in
    h ∙ ap (λ (more : List EnumType). spec.with_type first_one (record { names = declaring text hs cs; enums = more; faults = v }) name kind) is_more
    ∙ ap (λ (p : Known). kept enums name p b kind) (subst Q is_ks is_p)
    ∙ ap (λ (b : NumType). kept enums name (members kind none no_member e) b kind) is_b
    ∙ ap (λ (e : Option Fault). kept enums name (members kind none no_member e) (spec.enum_base base) kind) is_e
    ∙ ap (λ (xs : List ℤ). kept enums name (members kind xs no_member (earlier f g)) (spec.enum_base base) kind) is_none
    ∙ ap (λ (ns : List EnumMember). kept enums name (members kind [] ns (earlier f g)) (spec.enum_base base) kind) is_no_member
    ∙ ap (λ (k : Option Vector). kept enums name (members k [] [] (earlier f g)) (spec.enum_base base) k) is_kind
    ∙ ap (λ (n : ℕ). kept enums name (members (option_map (spec.in_enum n) base) [] [] (earlier f g)) (spec.enum_base base) (option_map (spec.in_enum n) base)) is_n

pub base_is : (r s : Globals) (name : ℕ) (b : TypeElab (Option Fault)) (ms ns : List MemberTree) (n : Space) (d : Option IntegerTypeTree)
    → r ≡ spec.enum_type first_one s name b ms → ms ≡ ns → b ≡ spec.base_type first_one n d → n ≡ s.names → r ≡ spec.enum_type first_one s name (spec.base_type first_one s.names d) ns
base_is r s name b ms ns n d h is_ms is_b is_n =
    h ∙ ap (λ (ms : List MemberTree). spec.enum_type first_one s name b ms) is_ms
    ∙ ap (λ (b : TypeElab (Option Fault)). spec.enum_type first_one s name b ns) is_b
    ∙ ap (λ (n : Space). spec.enum_type first_one s name (spec.base_type first_one n d) ns) is_n

-- the same classes can be named
pub named_in : (n : Space) (text : ℕ → List ℕ) (gs : List GlobalName) (ks cs : List ClassName) → n ≡ declaring text gs ks → ks ≡ cs → n ≡ declaring text gs cs
named_in n text gs ks cs h e = h ∙ ap (λ (cs : List ClassName). declaring text gs cs) e

pub integer_is : (r s : Globals) (name : ℕ) (t : TypeElab (Option Fault)) (n : Space) (d : IntegerTypeTree)
    → r ≡ spec.plain_type first_one s name t → t ≡ spec.integer_type first_one n d → n ≡ s.names → r ≡ spec.plain_type first_one s name (spec.integer_type first_one s.names d)
integer_is r s name t n d h is_t is_n =
    h ∙ ap (λ (t : TypeElab (Option Fault)). spec.plain_type first_one s name t) is_t ∙ ap (λ (n : Space). spec.plain_type first_one s name (spec.integer_type first_one n d)) is_n
