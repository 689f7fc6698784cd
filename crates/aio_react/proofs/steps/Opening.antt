-- A core with nothing in it stands for the opening world.
use Rattle.std.proofs.Common.{ℕ, nat_eq, zero, suc, List, [], Option, None, refl}
use Rattle.std.specs.List.{IsDistinct}
use Rattle.std.proofs.lemmas.List.Elements.{All-nil}
use Rattle.aio_base.specs.Devices.{Interests}
use Rattle.aio_base.specs.World.{ArmedDirection, opening}
use Rattle.aio_react.specs.Cores.{new_core}
use Rattle.aio_react.specs.Standing.{ListenerStands, Stands}
use Rattle.aio_facts.specs.Armed.{AgreesWithArmed}
use Rattle.aio_react.specs.Numbers.{value_of}

none_twice : IsDistinct nat_eq []
unfolding IsDistinct
none_twice = tt

none_stand : (number : ℕ) → ListenerStands [] [] (value_of [] number) None
none_stand zero = tt
none_stand (suc number) = tt

-- whatever its poller tells
pub opening_stands : (told : Option Interests) (armed : List ArmedDirection) → AgreesWithArmed told armed → Stands told new_core (record opening { armed = armed })
opening_stands told armed tells = record {
  sources = λ key. tt;
  count = refl;
  tickets = λ key dir. tt;
  listeners = record { each = none_stand; drawn_is = refl };
  ticker_is = refl;
  book = record { book_is = refl; ids_are = refl };
  tells = tells;
  asked = λ key dir. tt;
  round = refl;
  sound = record {
    live = record { keys = none_twice; serials_differ = none_twice; given = All-nil _ };
    unused = record { unbroken = λ serial later. refl; nothing = λ serial dir later. refl };
    listeners = record { numbers = none_twice; given = All-nil _; registered = All-nil _; only_polled_hold = All-nil _ };
    past = record { counted = refl; rounds_before = All-nil _; marks_before = All-nil _; polls_before = All-nil _; of_rounds = tt };
    running = tt;
    timers = record { ids = none_twice; given = All-nil _ };
  };
}
