use Rattle.std.proofs.Common.{◌≡◌, ◌∙◌, Some, ap, codes, string_bytes, rules, List, ℕ}
use Rattle.svr_words.proofs.Taking.{head_is}
use Rattle.svr_words.proofs.ask.command.Goals as goal

pub run_asked-requires : goal.run_asked-requires
run_asked-requires c =
    let run : string_bytes c.name-item.result ≡ codes "run" = search rules in
    head_is (λ w. string_bytes w) c.args.words.now c.name-item.result c.in-len1-up.len_at_least c.name-item.is ∙ ap (λ (t : List ℕ). Some t) run

pub load_asked-requires : goal.load_asked-requires
load_asked-requires c =
    let load : string_bytes c.name-item.result ≡ codes "load" = search rules in
    head_is (λ w. string_bytes w) c.args.words.now c.name-item.result c.in-len1-up.len_at_least c.name-item.is ∙ ap (λ (t : List ℕ). Some t) load

pub check_asked-requires : goal.check_asked-requires
check_asked-requires c =
    let check : string_bytes c.name-item.result ≡ codes "check" = search rules in
    head_is (λ w. string_bytes w) c.args.words.now c.name-item.result c.in-len1-up.len_at_least c.name-item.is ∙ ap (λ (t : List ℕ). Some t) check

pub seq_asked-requires : goal.seq_asked-requires
seq_asked-requires c =
    let seq : string_bytes c.name-item.result ≡ codes "seq" = search rules in
    head_is (λ w. string_bytes w) c.args.words.now c.name-item.result c.in-len1-up.len_at_least c.name-item.is ∙ ap (λ (t : List ℕ). Some t) seq

pub cover_asked-requires : goal.cover_asked-requires
cover_asked-requires c =
    let cover : string_bytes c.name-item.result ≡ codes "cover" = search rules in
    head_is (λ w. string_bytes w) c.args.words.now c.name-item.result c.in-len1-up.len_at_least c.name-item.is ∙ ap (λ (t : List ℕ). Some t) cover
