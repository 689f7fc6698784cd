-- What is so of each world that a run reaches.
use Rattle.std.specs.Prelude.{◌≡◌, ℕ, ◌<◌, ◌≤◌, Bool, false, nat_eq, IsTrue, List, map, length, Option, None, Some, IfSome, is_some, ⊤}
use Rattle.std.specs.List.{All, IsDistinct}
use Rattle.aio_base.specs.declared.names.Dir.{Dir}
use Rattle.aio_base.specs.Rounds.{rounds_at, HasBegun, AllBegun}
use Rattle.aio_base.specs.World.{World, LiveSource, ListenerEntry, Mark, HandledDirection, Registration, RoundState, is_broken}
use Rattle.aio_facts.specs.Facts.{Facts, facts_in, no_facts}

-- no key and no serial lives twice, and each serial was given
pub record LiveSound (live : List LiveSource) (serials : ℕ) : Type 0 where
  pub keys : IsDistinct nat_eq (map (λ (s : LiveSource). s.key) live)
  pub serials_differ : IsDistinct nat_eq (map (λ (s : LiveSource). s.serial) live)
  pub given : All (λ (s : LiveSource). s.serial ≤ serials) live

-- nothing stands or has happened of a serial that was not given yet
pub record UnusedSound (serials : ℕ) (broken : ℕ → Bool) (facts : ℕ → Dir → Facts) : Type 0 where
  pub unbroken : (serial : ℕ) → serials < serial → broken serial ≡ false
  pub nothing : (serial : ℕ) (dir : Dir) → serials < serial → facts serial dir ≡ no_facts

-- no number stands twice, and each was drawn, of a source that was registered; a listener that was not polled holds no waker
pub record ListenersSound (entries : List ListenerEntry) (drawn serials : ℕ) : Type 0 where
  pub numbers : IsDistinct nat_eq (map (λ (l : ListenerEntry). l.number) entries)
  pub given : All (λ (l : ListenerEntry). l.number ≤ drawn) entries
  pub registered : All (λ (l : ListenerEntry). l.serial ≤ serials) entries
  pub only_polled_hold : All (λ (l : ListenerEntry). IsTrue (is_some l.waker) → IsTrue (is_some l.position)) entries

-- what happened at a position happened before the bound
abbrev pub IsBefore : ℕ → Option ℕ → Type 0
IsBefore bound position = IfSome position (λ p. p < bound)

-- rounds are counted, whatever was stored was stored before the bound, and each handled event belongs to a round that began
pub record PastSound (bound rounds : ℕ) (begun : List ℕ) (marks : List Mark) (entries : List ListenerEntry) (handled : List HandledDirection) : Type 0 where
  pub counted : length begun ≡ rounds
  pub rounds_before : All (λ p. p < bound) begun
  pub marks_before : All (λ (m : Mark). m.position < bound) marks
  pub polls_before : All (λ (l : ListenerEntry). IsBefore bound l.position) entries
  pub of_rounds : AllBegun handled begun

-- the running round began, and its number says which it is
abbrev pub RunningSound : List ℕ → Option RoundState → Type 0
RunningSound begun None = ⊤
RunningSound begun (Some round) = (rounds_at begun round.begin ≡ round.number) × HasBegun round.begin begun

-- no id is registered twice, and each was drawn
pub record TimersSound (registrations : List Registration) (drawn : ℕ) : Type 0 where
  pub ids : IsDistinct nat_eq (map (λ (r : Registration). r.id) registrations)
  pub given : All (λ (r : Registration). r.id ≤ drawn) registrations

-- A world whose past lies before the bound: its own position between two steps, and one more inside a step that begins a round.
pub record Sound (bound : ℕ) (w : World) : Type 0 where
  pub live : LiveSound w.live w.serials
  pub unused : UnusedSound w.serials (is_broken w) (facts_in w)
  pub listeners : ListenersSound w.listeners w.listeners_drawn w.serials
  pub past : PastSound bound w.rounds w.begun w.marks w.listeners w.handled
  pub running : RunningSound w.begun w.round
  pub timers : TimersSound w.registrations w.ids_drawn
