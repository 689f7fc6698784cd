-- The sections of a round that handle no event give what follows from what is known.
use Rattle.std.proofs.Common.{◌≡◌, ℕ, ◌+◌, ◌<◌, Bool, true, false, ◌&&◌, if◌then◌else◌, List, [], ◌∷◌, ◌++◌, length, map, filter, find, Option, None, Some, IfSome, is_some, option_map, unwrap_or, refl, sym, ap, ◌∙◌}
use Rattle.std.specs.List.{All}
use Rattle.std.proofs.lemmas.List.Elements.{All-head, All-tail}
use Rattle.aio_base.specs.declared.names.Dir.{Dir}
use Rattle.aio_base.specs.declared.outcomes.EndWord.TheVariants.{Clean}
use Rattle.aio_base.specs.Machine.{begin_round, finish_in, is_listener, moved_on, wait_answered, wait_in}
use Rattle.aio_base.specs.Rounds.{rounds_at}
use Rattle.aio_base.specs.Timers.{after_pass, due_wakers, limit_of}
use Rattle.aio_base.specs.World.{PollerAnswer, Succeeds, Gives, IsInterrupted, Fails, ListenerEntry, Mark, RoundState, World, is_empty_list, is_of}
use Rattle.aio_facts.specs.Facts.{facts_in, is_polled_of, serial_in}
use Rattle.aio_facts.specs.Sound.{IsBefore, Sound}
use Rattle.aio_facts.proofs.RoundPast.{found_holds, rounds_longer, since_longer, tick_longer}
use Rattle.aio_known.specs.Known.{entry_known, known_of, listeners_known, polled_known, round_known, source_known}
use Rattle.aio_known.specs.KnownSteps.{Follows, begin_known, finish_at, wait_at, wait_told}
use Rattle.aio_known.proofs.Changing.{follows_either, source_same}

-- ## One more round

-- a world in which one more round has begun
abbrev longer : World → World
longer w = record w { begun = w.begun ++ w.pos ∷ [] }

longer_step : (begun : List ℕ) (pos : ℕ) (mine : Bool) (position : Option ℕ) (l : ListenerEntry) (rest : List ListenerEntry) → l.position ≡ position → IsBefore pos position
    → map (polled_known (begun ++ pos ∷ [])) rest ≡ map (polled_known begun) rest
    → map (polled_known (begun ++ pos ∷ [])) (if mine && is_some position then l ∷ rest else rest)
    ≡ map (polled_known begun) (if mine && is_some position then l ∷ rest else rest)
longer_step begun pos true None l rest is before same = same
longer_step begun pos true (Some p) l rest is before same = λ i. record {
  number = l.number;
  since = (ap (λ o. rounds_at (begun ++ pos ∷ []) (unwrap_or o 0)) is ∙ rounds_longer begun pos p before ∙ sym (ap (λ o. rounds_at begun (unwrap_or o 0)) is)) i;
  waker = l.waker;
} ∷ same i
longer_step begun pos false position l rest is before same = same

polled_longer : (begun : List ℕ) (pos serial : ℕ) (dir : Dir) (ls : List ListenerEntry) → All (λ (l : ListenerEntry). IsBefore pos l.position) ls
    → map (polled_known (begun ++ pos ∷ [])) (filter (is_polled_of serial dir) ls) ≡ map (polled_known begun) (filter (is_polled_of serial dir) ls)
polled_longer begun pos serial dir [] before = refl
polled_longer begun pos serial dir (l ∷ ls) before =
    longer_step begun pos (is_of serial dir l.serial l.dir) l.position l (filter (is_polled_of serial dir) ls) refl
    (All-head (λ (l : ListenerEntry). IsBefore pos l.position) l ls before)
    (polled_longer begun pos serial dir ls (All-tail (λ (l : ListenerEntry). IsBefore pos l.position) l ls before))

mark_before : (pos : ℕ) (found : Option Mark) → IfSome found (λ (m : Mark). m.position < pos) → IsBefore pos (option_map (λ (m : Mark). m.position) found)
mark_before pos None before = tt
mark_before pos (Some m) before = before

source_longer : (w : World) (serial : ℕ) → Sound w.pos w → source_known (longer w) serial ≡ source_known w serial
source_longer w serial sound =
    source_same (source_known (longer w) serial) (source_known w serial) refl refl (λ dir i. record {
      waiter = (facts_in w serial dir).waiter;
      since = since_longer w.begun w.pos _ (mark_before w.pos _ (found_holds (λ (m : Mark). m.position < w.pos) (λ (m : Mark). is_of serial dir m.serial m.dir) w.marks sound.past.marks_before)) i;
      tick = tick_longer w.begun w.handled w.pos serial dir sound.past.of_rounds sound.past.rounds_before i;
      polled = polled_longer w.begun w.pos serial dir w.listeners sound.past.polls_before i;
    })

sources_longer : (w : World) (serial : Option ℕ) → Sound w.pos w → option_map (source_known (longer w)) serial ≡ option_map (source_known w) serial
sources_longer w None sound = refl
sources_longer w (Some serial) sound = ap Some (source_longer w serial sound)

entry_longer : (w : World) (found : Option ListenerEntry) → IfSome found (λ (l : ListenerEntry). IsBefore w.pos l.position)
    → option_map (entry_known (longer w)) found ≡ option_map (entry_known w) found
entry_longer w None before = refl
entry_longer w (Some l) before = λ i. Some (record (entry_known w l) { since = since_longer w.begun w.pos l.position before i })

listeners_longer : (w : World) (number : ℕ) → Sound w.pos w → listeners_known (longer w) number ≡ listeners_known w number
listeners_longer w number sound =
    entry_longer w (find (is_listener number) w.listeners) (found_holds (λ (l : ListenerEntry). IsBefore w.pos l.position) (is_listener number) w.listeners sound.past.polls_before)

some_known : (round : Option RoundState) → is_some (option_map round_known round) ≡ is_some round
some_known None = refl
some_known (Some round) = refl

pub begin_follows : (w : World) (given : Option ℕ) (told : PollerAnswer) → Sound w.pos w
    → Follows (moved_on (begin_round w given (told ∷ []))) (begin_known (known_of w) given)
begin_follows w given told sound =
    rw (some_known w.round)
    (follows_either (is_some w.round) _ _ _ _
    (λ runs. record { answer_is = refl; wakes_are = refl; known_is = refl })
    (λ idle. record {
      answer_is = refl;
      wakes_are = refl;
      known_is = λ i. record {
        now = w.now;
        sources = λ n. sources_longer w (serial_in w.live n) sound i;
        count = length w.live;
        listeners = λ n. listeners_longer w n sound i;
        drawn = w.listeners_drawn;
        timers = record { registrations = after_pass w.now w.registrations; drawn = w.ids_drawn; entries = w.timers; made = w.timers_made };
        rounds = w.rounds + 1;
        round = Some (record {
          number = w.rounds + 1;
          limit = limit_of w.now w.registrations given;
          in_hand = [];
          taken = due_wakers w.now w.registrations;
          last_wait = None;
          fault = Clean;
        });
      };
    }))

-- ## Waits and ends

told_follows : (w : World) (round : RoundState) (told : PollerAnswer) → Follows (moved_on (wait_answered w round told [])) (wait_told (known_of w) (round_known round) told)
told_follows w round Succeeds = record { answer_is = refl; wakes_are = refl; known_is = refl }
told_follows w round (Gives events) = record { answer_is = refl; wakes_are = refl; known_is = refl }
told_follows w round IsInterrupted = record { answer_is = refl; wakes_are = refl; known_is = refl }
told_follows w round Fails = record { answer_is = refl; wakes_are = refl; known_is = refl }

pub wait_follows : (w : World) (round : Option RoundState) (told : PollerAnswer) → Follows (moved_on (wait_in w round (told ∷ []))) (wait_at (known_of w) (option_map round_known round) told)
wait_follows w None told = record { answer_is = refl; wakes_are = refl; known_is = refl }
wait_follows w (Some round) told =
    follows_either (is_empty_list round.in_hand) _ _ _ _ (λ none. told_follows w round told) (λ some. record { answer_is = refl; wakes_are = refl; known_is = refl })

pub finish_follows : (w : World) (round : Option RoundState) (told : PollerAnswer) → Follows (moved_on (finish_in w round (told ∷ []))) (finish_at (known_of w) (option_map round_known round))
finish_follows w None told = record { answer_is = refl; wakes_are = refl; known_is = refl }
finish_follows w (Some round) told =
    follows_either (is_empty_list round.in_hand) _ _ _ _ (λ none. record { answer_is = refl; wakes_are = refl; known_is = refl })
    (λ some. record { answer_is = refl; wakes_are = refl; known_is = refl })
