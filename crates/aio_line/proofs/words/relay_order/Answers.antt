use Rattle.std.proofs.Common.{map, string_bytes, sym, subst, arith}
use Rattle.std.specs.Prelude.{MatchOption}
use Rattle.std.proofs.lemmas.List.{length-map}
use Rattle.aio_line.specs.declared.words.RelayOrder.{RelayOrder}
use Rattle.aio_line.specs.Words.{IsRelay}
use Rattle.aio_line.proofs.Asking.{five_words, no_five}
use Rattle.aio_line.proofs.words.relay_order.Goals as goal

pub returns-in-len5-clause-words : goal.returns-in-len5-clause-words
returns-in-len5-clause-words c =
    let low = c.in-len5.len_at_least in
    let high = c.in-len5.len_below in
    let words = five_words string_bytes c.args.words.now
    c.name-item.result c.port-item.result c.workers-item.result c.idle-item.result c.pairs-item.result
    _ _ _ _ _ (omega (arith, low, high))
    c.name-item.is c.port-item.is c.workers-item.is c.idle-item.is c.pairs-item.is
    c.as_str.ensures.value c.as_str-in-len5.ensures.value c.as_str-in-len5-2.ensures.value
    c.as_str-in-len5-3.ensures.value c.as_str-in-len5-4.ensures.value in
    subst (λ words. MatchOption c.named_order.result ((order : RelayOrder) → IsRelay order words → ⊥) (λ order. IsRelay order words))
    (sym words) c.named_order.ensures.words

pub returns-in_default-clause-words : goal.returns-in_default-clause-words
returns-in_default-clause-words c =
    let few = c.in_default.len_below in
    let same = length-map c.args.words.now string_bytes in
    no_five (map string_bytes c.args.words.now) (λ five. absurd (omega (arith, few, same, five)))

pub returns-in_default-2-clause-words : goal.returns-in_default-2-clause-words
returns-in_default-2-clause-words c =
    let many = c.in_default.len_at_least in
    let same = length-map c.args.words.now string_bytes in
    no_five (map string_bytes c.args.words.now) (λ five. absurd (omega (arith, many, same, five)))
