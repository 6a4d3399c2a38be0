use Rattle.std.proofs.Common.{arith, rules, ap, Err, ◌<◌, ◌≤◌, ◌+◌, length}
use Rattle.svr_edge.specs.Known.{Takes}
use Rattle.svr_limits.specs.declared.limit.TheConstants.{TEXT_LIMIT}
use Rattle.svr_status.proofs.Told.{if_told, read_some, all_read, all_extent, takes_within, refusal_read, refusal_read_text, refusal_no_usage}
use Rattle.svr_command_seq.proofs.Produced.{lines_told, long_told, nothing_told, fault_told}
use Rattle.svr_command_seq.proofs.seq.seq_source.Goals as goal

-- ---- a text that is too long

pub returns-in-Err-TooLong-clause-writing : goal.returns-in-Err-TooLong-clause-writing
returns-in-Err-TooLong-clause-writing g c = λ journal n.
    let taken : Takes (g.S.Source.left c.args.src.now) (g.S.Source.left c.read_text.new.src) (TEXT_LIMIT + 1) = c.in-Err-TooLong.ensures.too_long (ap (λ e. Err e) c.in-Err-TooLong.field-0-is) in
    long_told c.args.seed c.args.count (g.S.Source.left c.args.src.now) (g.S.Source.left c.read_text.new.src) c.refuse.result _ _ journal _ _ n _ taken c.refuse.ensures.ends

pub returns-in-Err-TooLong-clause-extent : goal.returns-in-Err-TooLong-clause-extent
returns-in-Err-TooLong-clause-extent g c =
    if_told (g.S.Source.left c.args.src.now) _ (λ text told.
    let taken : Takes (g.S.Source.left c.args.src.now) (g.S.Source.left c.read_text.new.src) (TEXT_LIMIT + 1) = c.in-Err-TooLong.ensures.too_long (ap (λ e. Err e) c.in-Err-TooLong.field-0-is) in
    let long : TEXT_LIMIT + 1 ≤ length text = read_some _ _ text (TEXT_LIMIT + 1) told taken in
    let more : TEXT_LIMIT < length text = omega arith in
    refusal_read_text TEXT_LIMIT text _ _ _ _ _ _ _ more taken c.refuse.ensures.ends)

pub returns-in-Err-TooLong-clause-command : goal.returns-in-Err-TooLong-clause-command
returns-in-Err-TooLong-clause-command g c = λ e. absurd (refusal_no_usage _ _ _ _ _ c.refuse.ensures.ends e)

pub returns-in-Err-TooLong-clause-read : goal.returns-in-Err-TooLong-clause-read
returns-in-Err-TooLong-clause-read g c =
    let taken : Takes (g.S.Source.left c.args.src.now) (g.S.Source.left c.read_text.new.src) (TEXT_LIMIT + 1) = c.in-Err-TooLong.ensures.too_long (ap (λ e. Err e) c.in-Err-TooLong.field-0-is) in
    refusal_read TEXT_LIMIT _ _ _ _ _ _ _ taken c.refuse.ensures.ends

-- ---- a text that was read

pub returns-in-Ok-clause-writing : goal.returns-in-Ok-clause-writing
returns-in-Ok-clause-writing g c = λ journal n.
    lines_told c.args.seed c.args.count (g.S.Source.left c.args.src.now) (g.S.Source.left c.read_text.new.src) c.in-Ok.text.items _ c.answer.result _ _ journal _ _ n c.in-Ok.ensures.text c.in-Ok.ensures.at_end c.deref.ensures.value (c.answer.ensures.writing journal n)

pub returns-in-Ok-clause-extent : goal.returns-in-Ok-clause-extent
returns-in-Ok-clause-extent g c =
    let few : length c.in-Ok.text.items ≤ TEXT_LIMIT = search rules in
    all_extent TEXT_LIMIT c.in-Ok.text.items c.answer.result _ _ c.answer.ensures.command c.in-Ok.ensures.text few c.in-Ok.ensures.at_end

pub returns-in-Ok-clause-read : goal.returns-in-Ok-clause-read
returns-in-Ok-clause-read g c =
    let few : length c.in-Ok.text.items ≤ TEXT_LIMIT = search rules in
    all_read TEXT_LIMIT c.in-Ok.text.items c.answer.result _ _ c.answer.ensures.command c.in-Ok.ensures.text few c.in-Ok.ensures.at_end

pub returns-in-Ok-clause-read_fault : goal.returns-in-Ok-clause-read_fault
returns-in-Ok-clause-read_fault g c = λ e. absurd (c.answer.ensures.read e)

-- ---- no text

pub returns-in-Err-Failed-clause-extent : goal.returns-in-Err-Failed-clause-extent
returns-in-Err-Failed-clause-extent g c = if_told (g.S.Source.left c.args.src.now) _ (λ text told. c.in-Err-Failed.ensures.failed_within (ap (λ e. Err e) c.in-Err-Failed.field-0-is))

pub returns-in-Err-Failed-clause-read : goal.returns-in-Err-Failed-clause-read
returns-in-Err-Failed-clause-read g c = c.in-Err-Failed.ensures.failed_within (ap (λ e. Err e) c.in-Err-Failed.field-0-is)

pub returns-in-Err-NoMemory-clause-extent : goal.returns-in-Err-NoMemory-clause-extent
returns-in-Err-NoMemory-clause-extent g c =
    if_told (g.S.Source.left c.args.src.now) _ (λ text told. takes_within _ _ TEXT_LIMIT (c.in-Err-NoMemory.ensures.no_memory_within (ap (λ e. Err e) c.in-Err-NoMemory.field-0-is)))

pub returns-in-Err-NoMemory-clause-read : goal.returns-in-Err-NoMemory-clause-read
returns-in-Err-NoMemory-clause-read g c = takes_within _ _ TEXT_LIMIT (c.in-Err-NoMemory.ensures.no_memory_within (ap (λ e. Err e) c.in-Err-NoMemory.field-0-is))

pub returns-in-Err-Failed-clause-writing : goal.returns-in-Err-Failed-clause-writing
returns-in-Err-Failed-clause-writing g c = λ journal n. fault_told c.args.seed c.args.count (g.S.Source.left c.args.src.now) (g.K.Sink.written c.args.out.now) journal (g.K.Sink.faults c.args.out.now) n

pub returns-in-Err-NoMemory-clause-writing : goal.returns-in-Err-NoMemory-clause-writing
returns-in-Err-NoMemory-clause-writing g c = λ journal n. nothing_told c.args.seed c.args.count (g.S.Source.left c.args.src.now) (g.K.Sink.written c.args.out.now) journal (g.K.Sink.faults c.args.out.now) n
