-- Texts with numbers and other texts in them.
use Rattle.std.proofs.Common.{◌≡◌, ℕ, List, [], ◌∷◌, ◌∙◌, ap}
use Rattle.std.specs.Prelude.{codes, decimal}
use Rattle.std.specs.List.{concat}
use Rattle.svr_load.specs.Script.{up_to, sum_of, size_of, contradiction, class_text, object_text, call_text, load_text}

-- a class with this sum, and this at its end
abbrev class_with : ℕ → ℕ → List ℕ → List ℕ
class_with i sum last = concat (
    codes "class C" ∷ decimal i ∷ codes ";\nrand bit [15:0] a; rand bit [15:0] b; rand bit [7:0] d [];\nconstraint c { a + b == 16'd"
    ∷ decimal sum ∷ codes "; a < b; d.size() == " ∷ decimal (size_of i) ∷ codes ";\nforeach (d[k]) d[k] > k; soft d[0] == 8'd9; }\n"
    ∷ last ∷ codes "endclass\n" ∷ [])

pub class_joined : (i sum : ℕ) (last text : List ℕ) → sum ≡ sum_of i → last ≡ contradiction i → text ≡ class_with i sum last → text ≡ class_text i
class_joined i sum last text sum_is last_is text_is =
    text_is ∙ ap (λ (n : ℕ). class_with i n last) sum_is ∙ ap (λ (t : List ℕ). class_with i (sum_of i) t) last_is

abbrev script_with : List ℕ → List ℕ → List ℕ → List ℕ
script_with classes objects calls = concat (classes ∷ codes "module m;\ninitial begin\n" ∷ objects ∷ calls ∷ codes "end\nendmodule\n" ∷ [])

pub script_joined : (n : ℕ) (classes objects calls text : List ℕ) → classes ≡ up_to n class_text → objects ≡ up_to n object_text → calls ≡ up_to n call_text
    → text ≡ script_with classes objects calls → text ≡ load_text n
script_joined n classes objects calls text classes_are objects_are calls_are text_is =
    text_is ∙ ap (λ (t : List ℕ). script_with t objects calls) classes_are
    ∙ ap (λ (t : List ℕ). script_with (up_to n class_text) t calls) objects_are
    ∙ ap (λ (t : List ℕ). script_with (up_to n class_text) (up_to n object_text) t) calls_are
