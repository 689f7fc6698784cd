-- A listener's poll asked of the poller what its source's part says; a first poll by the ticket that the listener has then.
use Rattle.std.proofs.Common.{◌≡◌, ◌∙◌, ℕ, Bool, false, List, Option, None, Some, IfSome, IfErr, option_map, Result, Ok, Err, refl, sym, ap, subst}
use Rattle.aio_base.specs.declared.names.Key.{Key}
use Rattle.aio_base.specs.declared.names.Waker.{Waker}
use Rattle.aio_base.specs.declared.outcomes.ArmFault.{ArmFault}
use Rattle.aio_base.specs.declared.outcomes.Failed.{Failed}
use Rattle.aio_base.specs.declared.outcomes.Poll.{Poll}
use Rattle.aio_base.specs.Devices.{ArmCall, Interests}
use Rattle.aio_listen.specs.declared.ticket.Ticket.{Ticket}
use Rattle.aio_source.specs.Answers.{armed_first, armed_in, poll_answer, ticket_in as drawn_in}
use Rattle.aio_source.specs.Lent.{UsesArm, arm_of, arm_answer, fault_of}
use Rattle.aio_source.specs.Rules.{Prepared, polling_again, listening_first}
use Rattle.aio_source.specs.declared.answers.Listened.{Listened}
use Rattle.aio_source.specs.declared.answers.ListenRefusal.{ListenRefusal}
use Rattle.aio_react.specs.declared.entries.Listener.{Listener}
use Rattle.aio_react.specs.declared.entries.SourceEntry.{SourceEntry}
use Rattle.aio_react.specs.Asking.{UsesPoller, listener_part, step_part_of}
use Rattle.aio_react.specs.Cores.{entry_at}
use Rattle.aio_react.specs.Numbers.{value_of, with_value}
use Rattle.aio_react.specs.Standing.{ticket_in}
use Rattle.aio_react.proofs.listeners.HeardAgain.{value_here}
use Rattle.aio_react.proofs.polls.StepEntries.{polled_listener}
use Rattle.aio_react.proofs.polls.StepKeeps.{Drew}

armed_back : (armed : Result (Unit {0}) ArmFault) → armed_in (poll_answer false armed) ≡ armed
armed_back (Ok done) = refl
armed_back (Err fault) = refl

part_is : (sources : List (Option SourceEntry)) (listeners listeners' : List (Option Listener)) (number : ℕ) (l : Listener) (first : Listened) (e : SourceEntry) (w : Waker)
    → value_of listeners number ≡ Some l → entry_at sources l.key.0 ≡ Some e → l.first ≡ None → listeners' ≡ with_value listeners number (Some (polled_listener l first))
    → step_part_of sources w (ticket_in (value_of listeners' number)) (value_of listeners number) ≡ Some (listening_first e.source l.dir w (Some first.ticket))
part_is sources listeners listeners' number l first e w is there unpolled set =
    let drawn : ticket_in (value_of listeners' number) ≡ Some first.ticket =
    ap (λ (ls : List (Option Listener)). ticket_in (value_of ls number)) set ∙ ap ticket_in (value_here listeners number (Some (polled_listener l first)) l is) in
    ap (step_part_of sources w (ticket_in (value_of listeners' number))) is
    ∙ ap (option_map (λ (e : SourceEntry). listener_part e.source l.dir w l.first (ticket_in (value_of listeners' number)))) there
    ∙ ap (λ (f : Option Listened). Some (listener_part e.source l.dir w f (ticket_in (value_of listeners' number)))) unpolled
    ∙ ap (λ (t : Option Ticket). Some (listening_first e.source l.dir w t)) drawn

pub first_asked : {S : Type 0} (step : S → ArmCall → Result (Unit {0}) Failed → S → Type 0) (tells : S → Option Interests) (rest : S → List ℕ) (count : S → ℕ) (is_sure : S → Bool)
    (sources : List (Option SourceEntry)) (listeners listeners' : List (Option Listener)) (number : ℕ) (l : Listener) (first : Listened) (e : SourceEntry) (w : Waker)
    (listened : Result Listened ListenRefusal) (answer : Poll (Result (Unit {0}) ArmFault)) (old new : S)
    → value_of listeners number ≡ Some l → entry_at sources l.key.0 ≡ Some e → l.first ≡ None → listeners' ≡ with_value listeners number (Some (polled_listener l first))
    → Drew listened answer first
    → UsesArm step tells rest count is_sure (listening_first e.source l.dir w (drawn_in listened)).arms (arm_of (listening_first e.source l.dir w (drawn_in listened)).source)
    (arm_answer (armed_first listened)) old new
    → UsesPoller step tells rest count is_sure (step_part_of sources w (ticket_in (value_of listeners' number)) (value_of listeners number)) (armed_in answer) old new
first_asked step tells rest count is_sure sources listeners listeners' number l first e w listened answer old new is there unpolled set drew uses =
    subst (λ (part : Option Prepared). UsesPoller step tells rest count is_sure part (armed_in answer) old new)
    (ap (λ (t : Option Ticket). Some (listening_first e.source l.dir w t)) drew.ticket_is ∙ sym (part_is sources listeners listeners' number l first e w is there unpolled set))
    (subst (λ (armed : Result (Unit {0}) ArmFault). UsesPoller step tells rest count is_sure (Some (listening_first e.source l.dir w (drawn_in listened))) armed old new)
    (sym (ap armed_in drew.answer_is ∙ armed_back (armed_first listened))) uses)

pub again_asked : {S : Type 0} (step : S → ArmCall → Result (Unit {0}) Failed → S → Type 0) (tells : S → Option Interests) (rest : S → List ℕ) (count : S → ℕ) (is_sure : S → Bool)
    (sources : List (Option SourceEntry)) (listeners : List (Option Listener)) (number : ℕ) (l : Listener) (first : Listened) (e : SourceEntry) (w : Waker) (drawn : Option Ticket)
    (answer : Poll (Result (Unit {0}) ArmFault)) (old new : S)
    → value_of listeners number ≡ Some l → entry_at sources l.key.0 ≡ Some e → l.first ≡ Some first
    → (let p = polling_again e.source l.dir first w in UsesArm step tells rest count is_sure p.arms (arm_of p.source) (arm_answer (armed_in answer)) old new)
    → UsesPoller step tells rest count is_sure (step_part_of sources w drawn (value_of listeners number)) (armed_in answer) old new
again_asked step tells rest count is_sure sources listeners number l first e w drawn answer old new is there has uses =
    subst (λ (part : Option Prepared). UsesPoller step tells rest count is_sure part (armed_in answer) old new)
    (sym (ap (step_part_of sources w drawn) is
    ∙ ap (option_map (λ (e : SourceEntry). listener_part e.source l.dir w l.first drawn)) there
    ∙ ap (λ (f : Option Listened). Some (listener_part e.source l.dir w f drawn)) has)) uses

-- a fault of a first poll is that of the source of its listener
fault_is : (own key : Key) (before after : ℕ) (answer : Result (Unit {0}) Failed) → own ≡ key → IfErr (fault_of key before after answer) (λ fault. fault ≡ record { key = own; before = before; after = after })
fault_is own key before after (Ok done) same = tt
fault_is own key before after (Err failed) same = λ i. record { key = sym same i; before = before; after = after }

pub first_fault : (value : Option Listener) (l : Listener) (key : Key) (before after : ℕ) (listened : Result Listened ListenRefusal) (answer : Poll (Result (Unit {0}) ArmFault)) → value ≡ Some l → l.key ≡ key
    → answer ≡ poll_answer false (armed_first listened) → armed_first listened ≡ fault_of key before after (arm_answer (armed_first listened))
    → IfErr (armed_in answer) (λ fault. IfSome value (λ l. fault ≡ record { key = l.key; before = before; after = after }))
first_fault value l key before after listened answer is own answer_is fault =
    subst (λ (v : Option Listener). IfErr (armed_in answer) (λ fault. IfSome v (λ l. fault ≡ record { key = l.key; before = before; after = after }))) (sym is)
    (subst (λ (a : Result (Unit {0}) ArmFault). IfErr a (λ fault. fault ≡ record { key = l.key; before = before; after = after }))
    (sym (ap armed_in answer_is ∙ armed_back (armed_first listened) ∙ fault)) (fault_is l.key key before after (arm_answer (armed_first listened)) own))
