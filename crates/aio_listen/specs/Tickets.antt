-- The ticket of a listener, compared as a whole.
use Rattle.std.specs.Prelude.{Bool, ◌&&◌, ◌==◌}
use Rattle.aio_listen.specs.declared.ticket.Ticket.{Ticket}

-- whether two tickets are one: both numbers agree
abbrev pub same_ticket : Ticket → Ticket → Bool
same_ticket a b = (a.serial == b.serial) && (a.place == b.place)
