use Rattle.std.proofs.Common.{rules, inl}
use Rattle.svr_tree.specs.ScriptTree.{script_tree}
use Rattle.svr_reader.specs.Spelled.{AreSpelled, SpellNoOther}
use Rattle.svr_parse.proofs.Whole.{few_lexemes, tree_of, unexpected_left, unexpected_of, deep_left, deep_of, tree_only, tree_no_fault, unexpected_no_tree, unexpected_only, deep_no_tree, deep_only}
use Rattle.svr_parse.proofs.parser.parse.Goals as goal

pub new-cursor-requires : goal.new-cursor-requires
new-cursor-requires c =
    let spelled : AreSpelled c.args.text.now c.args.tokens.now c.in_ok-lexemes.lexemes.items = search rules in
    let few = few_lexemes c.args.text.now c.args.tokens.now c.requires.few c.in_ok-lexemes.lexemes.items spelled in search rules

pub returns-in-Ok-clause-tree : goal.returns-in-Ok-clause-tree
returns-in-Ok-clause-tree c =
    let spelled : AreSpelled c.args.text.now c.args.tokens.now c.in_ok-lexemes.lexemes.items = search rules in
    tree_of c.args.text.now c.args.tokens.now c.requires.few c.in_ok-lexemes.lexemes.items spelled (script_tree c.in-Ok.script) c.whole.new.cursor (search rules)

pub overflow_sub-result : goal.overflow_sub-result
overflow_sub-result c =
    let spelled : AreSpelled c.args.text.now c.args.tokens.now c.in_ok-lexemes.lexemes.items = search rules in
    unexpected_left c.args.text.now c.args.tokens.now c.requires.few c.in_ok-lexemes.lexemes.items spelled c.in-Err-Unexpected.left (search rules)

pub returns-in-Err-Unexpected-clause-fault : goal.returns-in-Err-Unexpected-clause-fault
returns-in-Err-Unexpected-clause-fault c =
    let spelled : AreSpelled c.args.text.now c.args.tokens.now c.in_ok-lexemes.lexemes.items = search rules in
    unexpected_of c.args.text.now c.args.tokens.now c.requires.few c.in_ok-lexemes.lexemes.items spelled c.in-Err-Unexpected.left (search rules)

pub overflow_sub-result-in-Err-TooDeep : goal.overflow_sub-result-in-Err-TooDeep
overflow_sub-result-in-Err-TooDeep c =
    let spelled : AreSpelled c.args.text.now c.args.tokens.now c.in_ok-lexemes.lexemes.items = search rules in
    deep_left c.args.text.now c.args.tokens.now c.requires.few c.in_ok-lexemes.lexemes.items spelled c.in-Err-TooDeep.left (search rules)

pub returns-in-Err-TooDeep-clause-fault : goal.returns-in-Err-TooDeep-clause-fault
returns-in-Err-TooDeep-clause-fault c =
    let spelled : AreSpelled c.args.text.now c.args.tokens.now c.in_ok-lexemes.lexemes.items = search rules in
    deep_of c.args.text.now c.args.tokens.now c.requires.few c.in_ok-lexemes.lexemes.items spelled c.in-Err-TooDeep.left (search rules)

pub returns-in-Ok-clause-only_tree : goal.returns-in-Ok-clause-only_tree
returns-in-Ok-clause-only_tree c = λ tree is.
    let spelled : AreSpelled c.args.text.now c.args.tokens.now c.in_ok-lexemes.lexemes.items = search rules in
    let none : SpellNoOther c.args.text.now c.args.tokens.now c.in_ok-lexemes.lexemes.items = search rules in
    tree_only c.args.text.now c.args.tokens.now c.requires.few c.in_ok-lexemes.lexemes.items spelled none (script_tree c.in-Ok.script) c.whole.new.cursor (search rules) tree is

pub returns-in-Ok-clause-only_fault : goal.returns-in-Ok-clause-only_fault
returns-in-Ok-clause-only_fault c = λ error is.
    let spelled : AreSpelled c.args.text.now c.args.tokens.now c.in_ok-lexemes.lexemes.items = search rules in
    let none : SpellNoOther c.args.text.now c.args.tokens.now c.in_ok-lexemes.lexemes.items = search rules in
    tree_no_fault c.args.text.now c.args.tokens.now c.requires.few c.in_ok-lexemes.lexemes.items spelled none (script_tree c.in-Ok.script) c.whole.new.cursor (search rules) error is

pub returns-in-Err-Unexpected-clause-only_tree : goal.returns-in-Err-Unexpected-clause-only_tree
returns-in-Err-Unexpected-clause-only_tree c = λ tree is.
    let spelled : AreSpelled c.args.text.now c.args.tokens.now c.in_ok-lexemes.lexemes.items = search rules in
    let none : SpellNoOther c.args.text.now c.args.tokens.now c.in_ok-lexemes.lexemes.items = search rules in
    absurd (unexpected_no_tree c.args.text.now c.args.tokens.now c.requires.few c.in_ok-lexemes.lexemes.items spelled none c.in-Err-Unexpected.left (search rules) tree is)

pub returns-in-Err-Unexpected-clause-only_fault : goal.returns-in-Err-Unexpected-clause-only_fault
returns-in-Err-Unexpected-clause-only_fault c = λ error is.
    let spelled : AreSpelled c.args.text.now c.args.tokens.now c.in_ok-lexemes.lexemes.items = search rules in
    let none : SpellNoOther c.args.text.now c.args.tokens.now c.in_ok-lexemes.lexemes.items = search rules in
    inl (unexpected_only c.args.text.now c.args.tokens.now c.requires.few c.in_ok-lexemes.lexemes.items spelled none c.in-Err-Unexpected.left (search rules) error is)

pub returns-in-Err-TooDeep-clause-only_tree : goal.returns-in-Err-TooDeep-clause-only_tree
returns-in-Err-TooDeep-clause-only_tree c = λ tree is.
    let spelled : AreSpelled c.args.text.now c.args.tokens.now c.in_ok-lexemes.lexemes.items = search rules in
    let none : SpellNoOther c.args.text.now c.args.tokens.now c.in_ok-lexemes.lexemes.items = search rules in
    absurd (deep_no_tree c.args.text.now c.args.tokens.now c.requires.few c.in_ok-lexemes.lexemes.items spelled none c.in-Err-TooDeep.left (search rules) tree is)

pub returns-in-Err-TooDeep-clause-only_fault : goal.returns-in-Err-TooDeep-clause-only_fault
returns-in-Err-TooDeep-clause-only_fault c = λ error is.
    let spelled : AreSpelled c.args.text.now c.args.tokens.now c.in_ok-lexemes.lexemes.items = search rules in
    let none : SpellNoOther c.args.text.now c.args.tokens.now c.in_ok-lexemes.lexemes.items = search rules in
    inl (deep_only c.args.text.now c.args.tokens.now c.requires.few c.in_ok-lexemes.lexemes.items spelled none c.in-Err-TooDeep.left (search rules) error is)
