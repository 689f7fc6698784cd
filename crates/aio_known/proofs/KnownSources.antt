-- A source that joins, and one that leaves, give what follows from what is known.
use Rattle.std.proofs.Common.{◌≡◌, ◌≢◌, ℕ, zero, suc, ◌+◌, ◌-◌, ◌<◌, ◌≤◌, ◌==◌, Bool, true, false, not, cond, if◌then◌else◌, List, [], ◌∷◌, ◌++◌, length, filter, find, Option, None, Some, is_some, option_map, unwrap_or, refl, sym, ap, ◌∙◌, arith, ⊎_elim, ◌||◌, length-append}
use Rattle.std.specs.Prelude.{nat_le}
use Rattle.std.specs.List.{Contains, list_any}
use Rattle.std.specs.Option.{option_or}
use Rattle.std.proofs.lemmas.Bool.{cases_eq, eq-eqb, ne_eqb}
use Rattle.std.proofs.lemmas.List.Elements.{All-contains}
use Rattle.std.proofs.lemmas.List.Folds.{find-append}
use Rattle.aio_base.specs.declared.steps.Answer.TheVariants as answer
use Rattle.aio_base.specs.Machine.{add, del_source, fails, free_key, free_key_from, is_listener, is_live, moved_on, source_limit}
use Rattle.aio_base.specs.World.{PollerAnswer, ListenerEntry, LiveSource, Mark, PollWaiter, World, key_of, set_armed, without_broken}
use Rattle.aio_base.proofs.Membership.{found_is_in, none_passes, passing_is_found}
use Rattle.aio_base.proofs.Searching.{false_unless, filtered_found}
use Rattle.aio_facts.specs.Facts.{facts_in, serial_in}
use Rattle.aio_facts.specs.Sound.{Sound}
use Rattle.aio_facts.proofs.Arrivals.{serial_of_next, serial_of_other}
use Rattle.aio_facts.proofs.Departures.{broken_stays, key_is_free, mark_stays, one_less, others_stay, waiter_stays}
use Rattle.aio_facts.proofs.Serials.{keys_agree}
use Rattle.aio_facts.proofs.Waiting.{facts_are}
use Rattle.aio_laws.proofs.steps.FreeKeys.{free_key-free}
use Rattle.aio_laws.specs.Covered.{HasSource}
use Rattle.aio_base.specs.Rounds.{rounds_at}
use Rattle.aio_known.specs.Known.{direction_known, entry_known, known_of, listeners_known, listeners_of, round_known, source_known, sources_known, timers_known}
use Rattle.aio_known.specs.KnownRuns.{Reached}
use Rattle.aio_known.specs.KnownSteps.{Follows, add_known, del_at, free_from, new_direction, new_source, with_source}
use Rattle.aio_known.proofs.Changing.{follows_either, source_same}
use Rattle.aio_known.proofs.KnownLists.{any_counted}

-- ## The least free key

some_mapped : {X Y : Type 0} (f : X → Y) (o : Option X) → is_some (option_map f o) ≡ is_some o
some_mapped f None = refl
some_mapped f (Some x) = refl

any_step : {X : Type 0} (here : Bool) (x : X) (any : Bool) (found : Option X) → any ≡ is_some found → here || any ≡ is_some (cond here (Some x) found)
any_step true x any found same = refl
any_step false x any found same = same

any_found : {X : Type 0} (p : X → Bool) (xs : List X) → list_any p xs ≡ is_some (find p xs)
any_found p [] = refl
any_found p (x ∷ xs) = any_step (p x) x (list_any p xs) (find p xs) (any_found p xs)

live_known : (w : World) (key : ℕ) → is_live w.live key ≡ is_some (sources_known w key)
live_known w key =
    any_found (λ (s : LiveSource). s.key == key) w.live
    ∙ sym (some_mapped (λ (s : LiveSource). s.serial) (find (λ (s : LiveSource). s.key == key) w.live))
    ∙ sym (some_mapped (source_known w) (serial_in w.live key))

free_same : (w : World) (more : List LiveSource) (key : ℕ) → free_key_from key w.live more ≡ free_from (length more) (sources_known w) key
free_same w [] key = refl
free_same w (s ∷ more) key =
    ap (λ (lives : Bool). if lives then free_key_from (key + 1) w.live more else key) (live_known w key)
    ∙ ap (λ (later : ℕ). if is_some (sources_known w key) then later else key) (free_same w more (key + 1))

none_found : {X : Type 0} (o : Option X) → is_some o ≡ false → o ≡ None
none_found None e = refl
none_found (Some x) e = absurd cc

free_has_none : (w : World) → serial_in w.live (free_key w.live) ≡ None
free_has_none w =
    ap (option_map (λ (s : LiveSource). s.serial))
    (none_found (find (λ (s : LiveSource). s.key == free_key w.live) w.live)
    (sym (any_found (λ (s : LiveSource). s.key == free_key w.live) w.live) ∙ free_key-free w.live))

-- ## The listeners of other sources

entry_same : (w w' : World) (found : Option ListenerEntry) → w'.begun ≡ w.begun → ((l : ListenerEntry) → found ≡ Some l → key_of w' l.serial ≡ key_of w l.serial)
    → option_map (entry_known w') found ≡ option_map (entry_known w) found
entry_same w w' None begun keys = refl
entry_same w w' (Some l) begun keys = λ i. Some (record {
  key = unwrap_or (keys l refl i) 0;
  dir = l.dir;
  since = option_map (rounds_at (begun i)) l.position;
})

pub listeners_same : (w w' : World) (number : ℕ) → w'.listeners ≡ w.listeners → w'.begun ≡ w.begun
    → ((l : ListenerEntry) → Contains w.listeners l → key_of w' l.serial ≡ key_of w l.serial) → listeners_known w' number ≡ listeners_known w number
listeners_same w w' number same begun keys =
    ap (λ ls. option_map (entry_known w') (find (is_listener number) ls)) same
    ∙ entry_same w w' (find (is_listener number) w.listeners) begun (λ l is. keys l (found_is_in (is_listener number) w.listeners l is).0)

-- ## A new source

-- a world with one more source
abbrev joined : World → World
joined w = record w {
  live = w.live ++ record { key = free_key w.live; serial = w.serials + 1 } ∷ [];
  serials = w.serials + 1;
  armed = set_armed w.armed (free_key w.live) [];
}

new_known : (w : World) → Sound w.pos w → source_known (joined w) (w.serials + 1) ≡ new_source
new_known w sound =
    let later : w.serials < w.serials + 1 = omega arith in
    let none : list_any (λ (l : ListenerEntry). l.serial == w.serials + 1) w.listeners ≡ false =
    false_unless (list_any (λ (l : ListenerEntry). l.serial == w.serials + 1) w.listeners)
    (λ some. let at = Rattle.aio_base.proofs.Membership.any_gives (λ (l : ListenerEntry). l.serial == w.serials + 1) w.listeners some in
    let few = All-contains (λ (l : ListenerEntry). l.serial ≤ w.serials) w.listeners at.0 sound.listeners.registered at.1 in
    let same = Rattle.std.proofs.lemmas.Bool.eqb-true at.0.serial (w.serials + 1) at.2 in absurd (omega arith)) in
    source_same (source_known (joined w) (w.serials + 1)) new_source (sound.unused.unbroken (w.serials + 1) later)
    (no_count (length (listeners_of w (w.serials + 1))) (sym none ∙ any_counted (λ (l : ListenerEntry). l.serial == w.serials + 1) w.listeners))
    (λ dir. ap (direction_known w.begun) (sound.unused.nothing (w.serials + 1) dir later))
  where
    no_count : (n : ℕ) → false ≡ not (n == 0) → n ≡ 0
    no_count zero e = refl
    no_count (suc n) e = absurd (let wrong = e ∙ ap not (ne_eqb (suc n) 0 (λ (e : suc n ≡ 0). absurd (omega arith))) in cc)

joined_at : (w : World) (n : ℕ) → Sound w.pos w → sources_known (joined w) n ≡ (if n == free_key w.live then Some new_source else sources_known w n)
joined_at w n sound =
    let next : LiveSource = record { key = free_key w.live; serial = w.serials + 1 } in
    ⊎_elim
    (λ (same : n ≡ free_key w.live).
    ap (sources_known (joined w)) same
    ∙ ap (option_map (source_known (joined w))) (serial_of_next w.live next (free_has_none w)) ∙ ap Some (new_known w sound)
    ∙ sym (ap (λ (b : Bool). if b then Some new_source else sources_known w n) (eq-eqb n (free_key w.live) same)))
    (λ (apart : n ≢ free_key w.live).
    ap (option_map (source_known w)) (serial_of_other w.live next n apart)
    ∙ sym (ap (λ (b : Bool). if b then Some new_source else sources_known w n) (ne_eqb n (free_key w.live) apart)))
    (cases_eq n (free_key w.live))

key_stays : (w : World) (serial : ℕ) → HasSource w.live serial → key_of (joined w) serial ≡ key_of w serial
key_stays w serial has =
    let next : LiveSource = record { key = free_key w.live; serial = w.serials + 1 } in
    let p : LiveSource → Bool = λ (s : LiveSource). s.serial == serial in
    let found = passing_is_found p w.live (record { key = has.0; serial = serial }) has.1 (eq-eqb serial serial refl) in
    ap (option_map (λ (s : LiveSource). s.key)) (find-append p w.live (next ∷ []) ∙ ap (λ o. option_or o (find p (next ∷ []))) found.1 ∙ sym found.1)

joined_known : (w : World) → Reached w
    → known_of (joined w) ≡ record (with_source (known_of w) (free_key w.live) new_source) { count = length w.live + 1 }
joined_known w reached = λ i. record {
  now = w.now;
  sources = λ n. joined_at w n reached.sound i;
  count = (let more : length (w.live ++ record { key = free_key w.live; serial = w.serials + 1 } ∷ []) ≡ length w.live + 1 = length-append w.live _ in more) i;
  listeners = λ n. listeners_same w (joined w) n refl refl
      (λ l among. key_stays w l.serial (All-contains (λ (l : ListenerEntry). HasSource w.live l.serial) w.listeners l reached.listening among)) i;
  drawn = w.listeners_drawn;
  timers = timers_known w;
  rounds = w.rounds;
  round = option_map round_known w.round;
}

pub add_follows : (w : World) (told : PollerAnswer) → Reached w → Follows (moved_on (add w (told ∷ []))) (add_known (known_of w) told)
add_follows w told reached =
    follows_either (nat_le source_limit (length w.live)) _ _ _ _ (λ full. record { answer_is = refl; wakes_are = refl; known_is = refl })
    (λ room. by_test (fails told))
  where
    by_test : (failed : Bool)
        → Follows (moved_on (record {
          answer = if failed then answer.FaultAdd else answer.KeyIs (record { 0 = free_key w.live });
          wakes = [];
          world = if failed then w else joined w;
          calls = Rattle.aio_base.specs.declared.outcomes.Which.TheVariants.Add ∷ [];
          left = [];
        }))
        (if failed then Rattle.aio_known.specs.KnownSteps.quiet answer.FaultAdd (known_of w)
        else Rattle.aio_known.specs.KnownSteps.quiet (answer.KeyIs (record { 0 = free_from (length w.live) (sources_known w) 0 }))
        (record (with_source (known_of w) (free_from (length w.live) (sources_known w) 0) new_source) { count = length w.live + 1 }))
    by_test true = record { answer_is = refl; wakes_are = refl; known_is = refl }
    by_test false = record {
      answer_is = ap (λ key. answer.KeyIs (record { 0 = key })) (free_same w w.live 0);
      wakes_are = refl;
      known_is = joined_known w reached
          ∙ ap (λ key. record (with_source (known_of w) key new_source) { count = length w.live + 1 }) (free_same w w.live 0);
    }

-- ## A source that leaves

-- a world without a source
abbrev parted : World → ℕ → World
parted w serial = record w {
  live = filter (λ (s : LiveSource). not (s.serial == serial)) w.live;
  poll_waiters = filter (λ (p : PollWaiter). not (p.serial == serial)) w.poll_waiters;
  marks = filter (λ (m : Mark). not (m.serial == serial)) w.marks;
  broken = without_broken w.broken serial;
}

other_same : (w : World) (serial m : ℕ) → m ≢ serial → source_known (parted w serial) m ≡ source_known w m
other_same w serial m apart =
    source_same (source_known (parted w serial) m) (source_known w m) (broken_stays w.broken serial m apart) refl
    (λ dir. ap (direction_known w.begun)
    (facts_are (facts_in (parted w serial) m dir) (facts_in w m dir) (waiter_stays w.poll_waiters serial m dir apart)
    (ap (option_map (rounds_at w.begun)) (mark_stays w.marks serial m dir apart)) refl refl))

others_same : (w : World) (serial : ℕ) (at : Option ℕ) → ((m : ℕ) → at ≡ Some m → m ≢ serial) → option_map (source_known (parted w serial)) at ≡ option_map (source_known w) at
others_same w serial None apart = refl
others_same w serial (Some m) apart = ap Some (other_same w serial m (apart m refl))

parted_at : (w : World) (key serial n : ℕ) → Sound w.pos w → serial_in w.live key ≡ Some serial
    → sources_known (parted w serial) n ≡ (if n == key then None else sources_known w n)
parted_at w key serial n sound found =
    ⊎_elim
    (λ (same : n ≡ key).
    ap (sources_known (parted w serial)) same
    ∙ ap (option_map (source_known (parted w serial))) (key_is_free w.live key serial sound.live.keys sound.live.serials_differ found)
    ∙ sym (ap (λ (b : Bool). if b then None else sources_known w n) (eq-eqb n key same)))
    (λ (apart : n ≢ key).
    ap (option_map (source_known (parted w serial))) (others_stay w.live key serial n sound.live.keys sound.live.serials_differ found apart)
    ∙ others_same w serial (serial_in w.live n) (λ m there same. apart (keys_agree w.live w.serials n key m serial sound.live there found same))
    ∙ sym (ap (λ (b : Bool). if b then None else sources_known w n) (ne_eqb n key apart)))
    (cases_eq n key)

key_kept : (w : World) (serial other : ℕ) → other ≢ serial → key_of (parted w serial) other ≡ key_of w other
key_kept w serial other apart =
    ap (option_map (λ (s : LiveSource). s.key))
    (filtered_found (λ (s : LiveSource). s.serial == other) (λ (s : LiveSource). not (s.serial == serial)) w.live
    (λ s among gone. ne_eqb s.serial other (λ (same : s.serial ≡ other).
    apart (sym same ∙ Rattle.std.proofs.lemmas.Bool.eqb-true s.serial serial (Rattle.aio_base.proofs.Searching.of_not (s.serial == serial) gone)))))

parted_known : (w : World) (key serial : ℕ) → Reached w → serial_in w.live key ≡ Some serial
    → list_any (λ (l : ListenerEntry). l.serial == serial) w.listeners ≡ false
    → known_of (parted w serial) ≡ record (known_of w) { sources = λ n. if n == key then None else sources_known w n; count = length w.live - 1 }
parted_known w key serial reached found none = λ i. record {
  now = w.now;
  sources = λ n. parted_at w key serial n reached.sound found i;
  count = (let less = one_less w.live key serial reached.sound.live.keys reached.sound.live.serials_differ found in
      let is : length (filter (λ (s : LiveSource). not (s.serial == serial)) w.live) ≡ length w.live - 1 = omega arith in is) i;
  listeners = λ n. listeners_same w (parted w serial) n refl refl
      (λ l among. key_kept w serial l.serial (λ (same : l.serial ≡ serial). none_passes (λ (l : ListenerEntry). l.serial == serial) w.listeners l none among (eq-eqb l.serial serial same))) i;
  drawn = w.listeners_drawn;
  timers = timers_known w;
  rounds = w.rounds;
  round = option_map round_known w.round;
}

del_by : (w : World) (key serial : ℕ) (told : PollerAnswer) (unused : Bool) → Reached w → serial_in w.live key ≡ Some serial → (length (listeners_of w serial) == 0) ≡ unused
    → Follows (moved_on (del_source w key (Some serial) (told ∷ []))) (del_at (known_of w) key (Some (source_known w serial)) told)
del_by w key serial told true reached found is =
    let none : list_any (λ (l : ListenerEntry). l.serial == serial) w.listeners ≡ false = any_counted (λ (l : ListenerEntry). l.serial == serial) w.listeners ∙ ap not is in
    rw (is, none) (record { answer_is = refl; wakes_are = refl; known_is = parted_known w key serial reached found none })
del_by w key serial told false reached found is =
    let some : list_any (λ (l : ListenerEntry). l.serial == serial) w.listeners ≡ true = any_counted (λ (l : ListenerEntry). l.serial == serial) w.listeners ∙ ap not is in
    rw (is, some) (record { answer_is = refl; wakes_are = refl; known_is = refl })

pub del_follows : (w : World) (key : ℕ) (serial : Option ℕ) (told : PollerAnswer) → Reached w → serial_in w.live key ≡ serial
    → Follows (moved_on (del_source w key serial (told ∷ []))) (del_at (known_of w) key (option_map (source_known w) serial) told)
del_follows w key None told reached found = record { answer_is = refl; wakes_are = refl; known_is = refl }
del_follows w key (Some serial) told reached found = del_by w key serial told (length (listeners_of w serial) == 0) reached found refl
