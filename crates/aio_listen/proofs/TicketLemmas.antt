-- The test whether two tickets are one.
use Rattle.std.proofs.Common.{◌≡◌, ◌≢◌, ◌∙◌, Bool, true, false, ◌&&◌, ◌==◌, refl, ap, arith, tests, eqb-true}
use Rattle.aio_listen.specs.declared.ticket.Ticket.{Ticket}
use Rattle.aio_listen.specs.Tickets.{same_ticket}

-- a ticket is itself
pub same_ticket-refl : (t : Ticket) → same_ticket t t ≡ true
same_ticket-refl t = grind (arith, tests)

-- tickets of other serials are others
pub same_ticket-other : (a b : Ticket) → a.serial ≢ b.serial → same_ticket a b ≡ false
same_ticket-other a b h = grind (arith, tests)

pub same_ticket-eq : (a b : Ticket) → a ≡ b → same_ticket a b ≡ true
same_ticket-eq a b e = ap (λ t. same_ticket t b) e ∙ same_ticket-refl b

pub same_ticket-true : (a b : Ticket) → same_ticket a b ≡ true → a ≡ b
same_ticket-true a b h =
    let numbers = and-parts (a.serial == b.serial) (a.place == b.place) h in
    let serials : a.serial ≡ b.serial = eqb-true a.serial b.serial numbers.0 in
    let places : a.place ≡ b.place = eqb-true a.place b.place numbers.1 in
    λ i. record { serial = serials i; place = places i }
  where
    and-parts : (p q : Bool) → (p && q) ≡ true → (p ≡ true) × (q ≡ true)
    and-parts true q e = (refl, e)
    and-parts false q e = cc
