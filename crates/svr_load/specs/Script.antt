-- The script of a load: classes, an object of each, and a call on each object.
use Rattle.std.specs.Prelude.{ℕ, zero, suc, ◌+◌, ◌*◌, ◌%◌, ◌==◌, if◌then◌else◌, List, [], ◌∷◌, ◌++◌, codes, decimal}
use Rattle.std.specs.List.{concat}

-- a text for each number from 1 to n, in their order
abbrev pub up_to : ℕ → (ℕ → List ℕ) → List ℕ
up_to zero text = []
up_to (suc n) text = up_to n text ++ text (suc n)

-- what `a` and `b` of class i have to add up to
abbrev pub sum_of : ℕ → ℕ
sum_of i = 37 * i % 65536

-- how many elements `d` of class i has to have
abbrev pub size_of : ℕ → ℕ
size_of i = 1 + i % 8

-- a block that contradicts the others, where each element is greater than its index
abbrev pub contradicting : List ℕ
contradicting = codes "constraint z { d[0] == 0; }\n"

-- every fifth class has it
abbrev pub contradiction : ℕ → List ℕ
contradiction i = if i % 5 == 0 then contradicting else []

abbrev pub class_parts : ℕ → List (List ℕ)
class_parts i =
    codes "class C" ∷ decimal i ∷ codes ";\n"
    ∷ codes "rand bit [15:0] a; rand bit [15:0] b; rand bit [7:0] d [];\n"
    ∷ codes "constraint c { a + b == 16'd" ∷ decimal (sum_of i) ∷ codes "; a < b; d.size() == " ∷ decimal (size_of i) ∷ codes ";\n"
    ∷ codes "foreach (d[k]) d[k] > k; soft d[0] == 8'd9; }\n"
    ∷ contradiction i
    ∷ codes "endclass\n" ∷ []

abbrev pub class_text : ℕ → List ℕ
class_text i = concat (class_parts i)

-- an object of class i
abbrev pub object_text : ℕ → List ℕ
object_text i = concat (codes "C" ∷ decimal i ∷ codes " p" ∷ decimal i ∷ codes " = new;\n" ∷ [])

-- a call on it
abbrev pub call_text : ℕ → List ℕ
call_text i = concat (codes "p" ∷ decimal i ∷ codes ".randomize();\n" ∷ [])

-- the script of n classes
abbrev pub load_text : ℕ → List ℕ
load_text n = concat (up_to n class_text ∷ codes "module m;\ninitial begin\n" ∷ up_to n object_text ∷ up_to n call_text ∷ codes "end\nendmodule\n" ∷ [])
