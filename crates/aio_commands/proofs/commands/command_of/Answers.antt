use Rattle.std.proofs.Common.{map, string_bytes, arith}
use Rattle.std.proofs.lemmas.List.{length-map}
use Rattle.aio_line.proofs.Asking.{no_five}
use Rattle.aio_commands.proofs.Naming.{no_such_count, relay_or_none}
use Rattle.aio_commands.proofs.commands.command_of.Goals as goal

pub returns-in-len5 : goal.returns-in-len5
returns-in-len5 c =
    let low = c.in-len5.len_at_least in
    let high = c.in-len5.len_below in
    let same = length-map c.args.words.now string_bytes in
    relay_or_none (map string_bytes c.args.words.now) (λ one. absurd (omega (arith, low, same, one))) (λ three. absurd (omega (arith, low, same, three)))
    c.named_relay.result c.named_relay.ensures

pub returns-in_default : goal.returns-in_default
returns-in_default c =
    let high = c.in_default.len_below in
    let same = length-map c.args.words.now string_bytes in
    no_such_count (map string_bytes c.args.words.now) (λ one. absurd (omega (arith, high, same, one))) (λ three. absurd (omega (arith, high, same, three)))
    (no_five (map string_bytes c.args.words.now) (λ five. absurd (omega (arith, high, same, five))))

pub returns-in_default-2 : goal.returns-in_default-2
returns-in_default-2 c =
    let low = c.in_default.len_at_least in
    let high = c.in_default.len_below in
    let same = length-map c.args.words.now string_bytes in
    no_such_count (map string_bytes c.args.words.now) (λ one. absurd (omega (arith, low, same, one))) (λ three. absurd (omega (arith, high, same, three)))
    (no_five (map string_bytes c.args.words.now) (λ five. absurd (omega (arith, high, same, five))))

pub returns-in_default-3 : goal.returns-in_default-3
returns-in_default-3 c =
    let low = c.in_default.len_at_least in
    let high = c.in_default.len_below in
    let same = length-map c.args.words.now string_bytes in
    no_such_count (map string_bytes c.args.words.now) (λ one. absurd (omega (arith, low, same, one))) (λ three. absurd (omega (arith, low, same, three)))
    (no_five (map string_bytes c.args.words.now) (λ five. absurd (omega (arith, high, same, five))))

pub returns-in_default-4 : goal.returns-in_default-4
returns-in_default-4 c =
    let low = c.in_default.len_at_least in
    let same = length-map c.args.words.now string_bytes in
    no_such_count (map string_bytes c.args.words.now) (λ one. absurd (omega (arith, low, same, one))) (λ three. absurd (omega (arith, low, same, three)))
    (no_five (map string_bytes c.args.words.now) (λ five. absurd (omega (arith, low, same, five))))
