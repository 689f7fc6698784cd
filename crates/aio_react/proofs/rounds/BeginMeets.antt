-- A begin of a core meets the machine's.
use Rattle.std.proofs.Common.{◌≡◌, ℕ, ◌+◌, ◌<◌, ◌≤◌, Bool, true, false, not, cond, List, [], ◌∷◌, ◌++◌, find, Option, None, Some, is_some, IfSome, option_map, refl, sym, ap, ◌∙◌, subst, arith}
use Rattle.std.specs.Prelude.{nat_le}
use Rattle.std.proofs.lemmas.Bool.{true≢false}
use Rattle.std.proofs.lemmas.List.{length-append}
use Rattle.std.proofs.lemmas.List.Elements.{All-nil, All-cons, All-append, All-filter}
use Rattle.aio_base.specs.declared.names.Dir.{Dir}
use Rattle.aio_base.specs.declared.outcomes.EndWord.TheVariants.{Clean}
use Rattle.aio_base.specs.declared.steps.Answer.TheVariants as replies
use Rattle.aio_base.specs.declared.steps.Step.TheVariants as step
use Rattle.aio_base.specs.Devices.{Interests, PollerMove}
use Rattle.aio_base.specs.Machine.{Outcome, quiet, moved_on, begin_round, step_result, hand_of, is_listener}
use Rattle.aio_base.specs.Timers.{due_wakers, after_pass, limit_of}
use Rattle.aio_base.specs.World.{PollerAnswer, World, LiveSource, ListenerEntry, Mark, Registration, RoundState, is_of, is_broken, mark_of}
use Rattle.aio_base.proofs.BookChanges.{after_pass_in_order}
use Rattle.aio_source.specs.Rules.{direction_of}
use Rattle.aio_react.specs.declared.entries.Listener.{Listener}
use Rattle.aio_react.specs.declared.entries.SourceEntry.{SourceEntry}
use Rattle.aio_react.specs.Cores.{CoreValue, entry_at}
use Rattle.aio_facts.specs.Facts.{Facts, facts_in, serial_in}
use Rattle.aio_react.specs.Meeting.{Comes, Meets}
use Rattle.aio_react.specs.Numbers.{value_of}
use Rattle.aio_source.specs.InHand.{RoundValue}
use Rattle.aio_react.specs.Rounds.{begun}
use Rattle.aio_react.specs.Sections.{core_begun}
use Rattle.aio_react.specs.Standing.{PlaceStands, DirectionStands, ListenerStands, Remembers, RoundStands, numbers_in, AreAsked, Stands, StandsWithin}
use Rattle.aio_facts.specs.Sound.{IsBefore}
use Rattle.aio_facts.proofs.BookPasses.{due_of_book, limit_of_book, ids_filter}
use Rattle.aio_react.proofs.steps.Later.{tickets_later, past_later, quiet_comes, stands_moved}
use Rattle.aio_react.proofs.rounds.WaitMeets.{none_runs}
use Rattle.aio_facts.proofs.RoundPast.{found_holds, rounds_last, last_has_begun, all_begun_longer, tick_longer, since_longer}

-- ## The world

abbrev pub round_begun : World → Option ℕ → RoundState
round_begun w given = record {
  number = w.rounds + 1;
  begin = w.pos;
  limit = limit_of w.now w.registrations given;
  in_hand = [];
  taken = due_wakers w.now w.registrations;
  last_wait = None;
  fault = Clean;
}

-- once a round began
abbrev pub world_begun : World → Option ℕ → World
world_begun w given = record w {
  registrations = after_pass w.now w.registrations;
  rounds = w.rounds + 1;
  begun = w.begun ++ w.pos ∷ [];
  round = Some (round_begun w given);
}

-- ## What is known of the directions

mark_before : (bound : ℕ) (found : Option Mark) → IfSome found (λ (m : Mark). m.position < bound) → IsBefore bound (option_map (λ (m : Mark). m.position) found)
mark_before bound None before = tt
mark_before bound (Some m) before = before

facts_same : (told : Option Interests) (core : CoreValue) (w : World) (given : Option ℕ) → Stands told core w → (serial : ℕ) (dir : Dir)
    → facts_in (world_begun w given) serial dir ≡ facts_in w serial dir
facts_same told core w given stands serial dir =
    let past = stands.sound.past in
    let marked = mark_before w.pos (find (λ (m : Mark). is_of serial dir m.serial m.dir) w.marks)
    (found_holds (λ (m : Mark). m.position < w.pos) (λ (m : Mark). is_of serial dir m.serial m.dir) w.marks past.marks_before) in
    ap (λ (since : Option ℕ). record (facts_in (world_begun w given) serial dir) { since = since }) (since_longer w.begun w.pos (mark_of w.marks serial dir) marked)
    ∙ ap (λ (tick : ℕ). record (facts_in w serial dir) { tick = tick }) (tick_longer w.begun w.handled w.pos serial dir past.of_rounds past.rounds_before)

place_same : (listeners : List (Option Listener)) (place : Option SourceEntry) (serial : Option ℕ) (broken : ℕ → Bool) (facts facts' : ℕ → Dir → Facts)
    → ((serial : ℕ) (dir : Dir) → facts' serial dir ≡ facts serial dir) → PlaceStands listeners place serial broken facts → PlaceStands listeners place serial broken facts'
place_same listeners None None broken facts facts' same stands = tt
place_same listeners None (Some serial) broken facts facts' same stands = absurd stands
place_same listeners (Some e) None broken facts facts' same stands = absurd stands
place_same listeners (Some e) (Some serial) broken facts facts' same stands = record {
  each = λ dir. subst (DirectionStands listeners (direction_of e.source.directions dir)) (sym (same serial dir)) (stands.each dir);
  broken_is = stands.broken_is;
}

-- ## The listeners

listener_same : (live : List LiveSource) (begun : List ℕ) (pos : ℕ) (l : Option Listener) (entry : Option ListenerEntry)
    → IfSome entry (λ (e : ListenerEntry). IsBefore pos e.position) → ListenerStands live begun l entry → ListenerStands live (begun ++ pos ∷ []) l entry
listener_same live begun pos None None before stands = tt
listener_same live begun pos None (Some entry) before stands = absurd stands
listener_same live begun pos (Some l) None before stands = absurd stands
listener_same live begun pos (Some l) (Some entry) before stands =
    (stands.0, stands.1, subst (Remembers (numbers_in l.first)) (sym (since_longer begun pos entry.position before)) stands.2)

-- ## The whole

-- one position later, at which the round began
pub begun_stands : (told : Option Interests) (core : CoreValue) (w : World) (now : ℕ) (given : Option ℕ) → Stands told core w → w.round ≡ None → w.now ≡ now
    → StandsWithin (w.pos + 1) told (core_begun core now given) (world_begun w given)
begun_stands told core w now given stands none at = record {
  sources = λ key. place_same core.listeners (entry_at core.sources key) (serial_in w.live key) (is_broken w) (facts_in w) (facts_in (world_begun w given))
      (facts_same told core w given stands) (stands.sources key);
  count = stands.count;
  tickets = tickets_later core.sources w.pos (w.pos + 1) (omega arith) stands.tickets;
  listeners = record {
    each = λ number. listener_same w.live w.begun w.pos (value_of core.listeners number) (find (is_listener number) w.listeners)
        (found_holds (λ (e : ListenerEntry). IsBefore w.pos e.position) (is_listener number) w.listeners stands.sound.past.polls_before) (stands.listeners.each number);
    drawn_is = stands.listeners.drawn_is;
  };
  ticker_is = ap (λ (rounds : ℕ). rounds + 1) stands.ticker_is;
  book = record {
    book_is = after_pass_in_order w.now w.registrations ∙ ap (after_pass w.now) stands.book.book_is ∙ ap (λ (moment : ℕ). after_pass moment core.book) at;
    ids_are = stands.book.ids_are;
  };
  tells = stands.tells;
  asked = subst (AreAsked core.sources w.armed) (ap hand_of none) stands.asked;
  round = record {
    running = refl;
    number_is = ap (λ (rounds : ℕ). rounds + 1) stands.ticker_is;
    limit_is = limit_of_book w.now given w.registrations ∙ ap (λ (book : List Registration). limit_of w.now book given) stands.book.book_is
        ∙ ap (λ (moment : ℕ). limit_of moment core.book given) at;
    hand_is = refl;
    taken_is = due_of_book w.now w.registrations ∙ ap (due_wakers w.now) stands.book.book_is ∙ ap (λ (moment : ℕ). due_wakers moment core.book) at;
    last_is = refl;
    fault_is = refl;
  };
  sound = record {
    live = stands.sound.live;
    unused = record {
      unbroken = stands.sound.unused.unbroken;
      nothing = λ serial dir later. facts_same told core w given stands serial dir ∙ stands.sound.unused.nothing serial dir later;
    };
    listeners = stands.sound.listeners;
    past = record {
      counted = length-append w.begun (w.pos ∷ []) ∙ ap (λ (rounds : ℕ). rounds + 1) stands.sound.past.counted;
      rounds_before = All-append (λ p. p < w.pos + 1) w.begun (w.pos ∷ [])
          (past_later w.pos (w.pos + 1) w (omega arith) stands.sound.past).rounds_before (All-cons (λ p. p < w.pos + 1) w.pos [] (omega arith) (All-nil _));
      marks_before = (past_later w.pos (w.pos + 1) w (omega arith) stands.sound.past).marks_before;
      polls_before = (past_later w.pos (w.pos + 1) w (omega arith) stands.sound.past).polls_before;
      of_rounds = all_begun_longer w.handled w.begun w.pos stands.sound.past.of_rounds;
    };
    running = (rounds_last w.begun w.pos stands.sound.past.rounds_before ∙ ap (λ (rounds : ℕ). rounds + 1) stands.sound.past.counted, last_has_begun w.begun w.pos);
    timers = record {
      ids = ids_filter (λ (r : Registration). not (nat_le r.deadline w.now)) w.registrations stands.sound.timers.ids;
      given = All-filter (λ (r : Registration). not (nat_le r.deadline w.now)) (λ (r : Registration). r.id ≤ w.ids_drawn) w.registrations stands.sound.timers.given;
    };
  };
}

-- ## The phase

pub busy_world : (r : RoundValue) (round : Option RoundState) → RoundStands r round → r.running ≡ true → is_some round ≡ true
busy_world r None stands running = absurd (true≢false (sym running ∙ stands))
busy_world r (Some s) stands running = refl

pub begin_is_made : (w : World) (given : Option ℕ) (later : List PollerAnswer) → w.round ≡ None
    → begin_round w given later ≡ quiet (replies.Begin (w.rounds + 1) (limit_of w.now w.registrations given)) (world_begun w given) later
begin_is_made w given later none =
    ap (λ (busy : Bool). cond busy (quiet replies.Locked w later)
    (quiet (replies.Begin (w.rounds + 1) (limit_of w.now w.registrations given)) (world_begun w given) later)) (ap is_some none)

begin_is_refused : (w : World) (given : Option ℕ) (later : List PollerAnswer) → is_some w.round ≡ true → begin_round w given later ≡ quiet replies.Locked w later
begin_is_refused w given later busy =
    ap (λ (busy : Bool). cond busy (quiet replies.Locked w later)
    (quiet (replies.Begin (w.rounds + 1) (limit_of w.now w.registrations given)) (world_begun w given) later)) busy

pub begun_comes : (told : Option Interests) (core : CoreValue) (now : ℕ) (given : Option ℕ) (w : World) (later : List PollerAnswer) → core.round.running ≡ false → Stands told core w → w.now ≡ now
    → Comes (step_result w (step.Begin given) later) (replies.Begin (core.ticker + 1) (limit_of now core.book given)) [] [] later told (core_begun core now given)
unfolding step_result
begun_comes told core now given w later idle stands at =
    let none = none_runs core.round w.round stands.round idle in
    let whole = begun_stands told core w now given stands none at in
    subst (λ (o : Outcome). Comes (moved_on o) (replies.Begin (core.ticker + 1) (limit_of now core.book given)) [] [] later told (core_begun core now given))
    (sym (begin_is_made w given later none))
    (record {
      answer_is = ap (λ (number : ℕ). replies.Begin number (limit_of w.now w.registrations given)) whole.round.number_is
          ∙ ap (λ (limit : Option ℕ). replies.Begin (core.ticker + 1) limit) whole.round.limit_is;
      wakes_are = refl;
      calls_are = refl;
      left_are = refl;
      stands = stands_moved told (core_begun core now given) (world_begun w given) whole;
    })

-- with no round
abbrev pub begin_meets : {P : Type 0} (poller_step : P → PollerMove → P → Type 0) (tells : P → Option Interests) (poller : P) (core : CoreValue) (now : ℕ) (given : Option ℕ)
    → core.round.running ≡ false
    → Meets poller_step tells (step.Begin given) (Some now) (replies.Begin (core.ticker + 1) (limit_of now core.book given)) [] None (poller, core) (poller, core_begun core now given)
begin_meets {P = P} poller_step tells poller core now given idle = record {
  moves = [];
  run = refl;
  waits = tt;
  comes = λ w later stands at. begun_comes (tells poller) core now given w later idle stands at;
}

-- with a round
pub locked_meets : {P : Type 0} (poller_step : P → PollerMove → P → Type 0) (tells : P → Option Interests) (poller : P) (core : CoreValue) (now given : Option ℕ)
    → core.round.running ≡ true → Meets poller_step tells (step.Begin given) now replies.Locked [] None (poller, core) (poller, core)
locked_meets {P = P} poller_step tells poller core now given running = record {
  moves = [];
  run = refl;
  waits = tt;
  comes = λ w later stands at.
      quiet_comes (tells poller) core w (step.Begin given) replies.Locked later
      (begin_is_refused w given later (busy_world core.round w.round stands.round running)) stands;
}

-- the same, by what the call left and answered
pub begin_done : {P : Type 0} (poller_step : P → PollerMove → P → Type 0) (tells : P → Option Interests) (poller : P) (core : CoreValue) (now : ℕ) (given : Option ℕ)
    (number : ℕ) (limit : Option ℕ) (book : List Registration) (r : RoundValue) → core.round.running ≡ false → number ≡ core.ticker + 1
    → limit ≡ limit_of now core.book given → book ≡ after_pass now core.book → r ≡ begun number limit (due_wakers now core.book)
    → Meets poller_step tells (step.Begin given) (Some now) (replies.Begin number limit) [] None (poller, core) (poller, record core { ticker = number; book = book; round = r })
begin_done {P = P} poller_step tells poller core now given number limit book r idle number_is limit_is book_is round_is =
    let met : ℕ → Option ℕ → List Registration → RoundValue → Type 0 = λ n l b s.
    Meets poller_step tells (step.Begin given) (Some now) (replies.Begin n l) [] None (poller, core) (poller, record core { ticker = n; book = b; round = s }) in
    subst (λ (s : RoundValue). met number limit book s) (sym round_is)
    (subst (λ (b : List Registration). met number limit b (begun number limit (due_wakers now core.book))) (sym book_is)
    (subst (λ (l : Option ℕ). met number l (after_pass now core.book) (begun number l (due_wakers now core.book))) (sym limit_is)
    (subst (λ (n : ℕ). met n (limit_of now core.book given) (after_pass now core.book) (begun n (limit_of now core.book given) (due_wakers now core.book))) (sym number_is)
    (begin_meets poller_step tells poller core now given idle))))
