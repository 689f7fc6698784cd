-- A core stands on where its running round moves on, and where an event leaves the hand.
use Rattle.std.proofs.Common.{◌≡◌, ◌≢◌, ℕ, Bool, false, ◌||◌, ◌==◌, IsTrue, List, ◌∷◌, Option, None, Some, IfSome, sym, subst, ⊎_elim}
use Rattle.std.proofs.lemmas.Bool.{cases_eq, ne_eqb}
use Rattle.aio_base.specs.declared.names.Dir.{Dir}
use Rattle.aio_base.specs.declared.names.Event.{Event}
use Rattle.aio_base.specs.declared.names.Interest.{Interest}
use Rattle.aio_base.specs.declared.names.TheConstants.Interest.{NONE}
use Rattle.aio_base.specs.Devices.{Interests}
use Rattle.aio_base.specs.World.{World, ArmedDirection, RoundState, has_dir, is_armed}
use Rattle.aio_react.specs.declared.entries.SourceEntry.{SourceEntry}
use Rattle.aio_react.specs.Cores.{CoreValue, entry_at}
use Rattle.aio_source.specs.InHand.{RoundValue}
use Rattle.aio_react.specs.Standing.{AreAsked, Runs, StandsWithin, is_in_hand}
use Rattle.aio_facts.specs.Sound.{RunningSound}
use Rattle.aio_react.proofs.sources.ArmMeets.{none_asked}
use Rattle.aio_react.proofs.rounds.WaitMeets.{with_round, running_same}

pub round_moves : (bound : ℕ) (told : Option Interests) (core : CoreValue) (w : World) (s s' : RoundState) (r : RoundValue) → StandsWithin bound told core w → w.round ≡ Some s
    → s'.number ≡ s.number → s'.begin ≡ s.begin → Runs r s' → AreAsked core.sources w.armed s'.in_hand
    → StandsWithin bound told (with_round core r) (record w { round = Some s' })
round_moves bound told core w s s' r stands is number begin runs asked = record {
  sources = stands.sources;
  count = stands.count;
  tickets = stands.tickets;
  listeners = stands.listeners;
  ticker_is = stands.ticker_is;
  book = stands.book;
  tells = stands.tells;
  asked = asked;
  round = runs;
  sound = record {
    live = stands.sound.live;
    unused = stands.sound.unused;
    listeners = stands.sound.listeners;
    past = stands.sound.past;
    running = running_same w.begun s s' number begin (subst (RunningSound w.begun) is stands.sound.running);
    timers = stands.sound.timers;
  };
}

-- the source of a key asks for nothing
abbrev pub AsksNothing : Option SourceEntry → Type 0
AsksNothing place = IfSome place (λ (e : SourceEntry). e.source.asked ≡ NONE)

nothing_asked : (place : Option SourceEntry) (b : Bool) (dir : Dir) → AsksNothing place → IfSome place (λ (e : SourceEntry). IsTrue (has_dir e.source.asked dir) → IsTrue b)
nothing_asked None b dir none = tt
nothing_asked (Some e) b dir none = λ asks. none_asked dir (subst (λ (on : Interest). IsTrue (has_dir on dir)) none asks) b

asked_still : (place : Option SourceEntry) (armed here others : Bool) (dir : Dir) → here ≡ false
    → IfSome place (λ (e : SourceEntry). IsTrue (has_dir e.source.asked dir) → IsTrue (armed || (here || others)))
    → IfSome place (λ (e : SourceEntry). IsTrue (has_dir e.source.asked dir) → IsTrue (armed || others))
asked_still None armed here others dir apart asked = tt
asked_still (Some e) armed here others dir apart asked = λ asks. subst (λ (b : Bool). IsTrue (armed || (b || others))) apart (asked asks)

-- without the first event, whose source asks for nothing
pub hand_less : (sources : List (Option SourceEntry)) (armed : List ArmedDirection) (event : Event) (events : List Event) → AsksNothing (entry_at sources event.key.0)
    → AreAsked sources armed (event ∷ events) → AreAsked sources armed events
hand_less sources armed event events none asked key dir =
    ⊎_elim
    (λ (here : key ≡ event.key.0). subst (λ (k : ℕ). IfSome (entry_at sources k) (λ (e : SourceEntry). IsTrue (has_dir e.source.asked dir) → IsTrue (is_armed armed k dir || is_in_hand events k))) (sym here)
    (nothing_asked (entry_at sources event.key.0) (is_armed armed event.key.0 dir || is_in_hand events event.key.0) dir none))
    (λ (apart : key ≢ event.key.0). asked_still (entry_at sources key) (is_armed armed key dir) (event.key.0 == key) (is_in_hand events key) dir
    (ne_eqb event.key.0 key (λ (e : event.key.0 ≡ key). apart (sym e))) (asked key dir))
    (cases_eq key event.key.0)
